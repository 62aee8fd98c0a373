use Rattle.std.proofs.Common.{List, ℕ, ◌∙◌, sym, ap, length, subst, arith}
use Rattle.jc_bytes.specs.Failing.{Said}
use Rattle.jc_link_programs.specs.Linking.{IsProgramOf, IsLinkClash}
use Rattle.jc_link_programs.proofs.LinkingLaws.{linked_count}
use Rattle.jc_command_work.specs.Seen.{stop_seen}
use Rattle.jc_command_refs.proofs.AnswerLaws.{files_refused, program_checked}
use Rattle.jc_command_refs.proofs.answer.decided.Goals as goal

pub link_or_clash-requires-clause-few : goal.link_or_clash-requires-clause-few
link_or_clash-requires-clause-few c = omega (arith, c.texts.ensures.each, c.requires)

pub checked-requires-clause-each : goal.checked-requires-clause-each
checked-requires-clause-each c =
    linked_count c.in-Ok.program.names c.texts.result.now c.in-Ok.program.classes c.in-Ok.ensures.linked.classes ∙ ap length c.texts.ensures.texts

pub link_stop-requires : goal.link_stop-requires
link_stop-requires c = subst (λ (ts : List (List ℕ)). Said c.in-Err.fail (IsLinkClash ts)) c.texts.ensures.texts c.in-Err.ensures.refused

pub returns-in-Ok : goal.returns-in-Ok
returns-in-Ok c =
    program_checked c.args.inputs.now.paths c.args.inputs.now.texts
    c.in-Ok.program (subst (λ (ts : List (List ℕ)). IsProgramOf ts c.in-Ok.program) c.texts.ensures.texts c.in-Ok.ensures.linked)
    c.checked.result c.checked.ensures

pub returns-in-Err : goal.returns-in-Err
returns-in-Err c = files_refused c.args.inputs.now.paths c.args.inputs.now.texts (stop_seen c.link_stop.result) c.link_stop.ensures
