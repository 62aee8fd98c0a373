use Rattle.std.proofs.Common.{ℕ, List, length, refl, sym, ◌∙◌, ap, subst, arith}
use Rattle.std.proofs.lemmas.List.{length-map}
use Rattle.jc_bytes.specs.Failing.{Said}
use Rattle.jc_link_programs.specs.Linking.{IsProgramOf, IsLinkClash}
use Rattle.jc_command_work.specs.Seen.{stop_seen}
use Rattle.jc_headline.specs.CoverWork.{LookedFile, accepted}
use Rattle.jc_command_cover.proofs.LinkLaws.{placed_so}
use Rattle.jc_command_cover.proofs.linking.program_of.Goals as goal

pub link_or_clash-requires-clause-few : goal.link_or_clash-requires-clause-few
link_or_clash-requires-clause-few c = omega (arith, c.texts.ensures.each, c.requires)

pub link_stop-stop-requires : goal.link_stop-stop-requires
link_stop-stop-requires c = subst (λ (ts : List (List ℕ)). Said c.in-Err.fail (IsLinkClash ts)) c.texts.ensures.texts c.in-Err.ensures.refused

pub returns-in-Ok-clause-linked : goal.returns-in-Ok-clause-linked
returns-in-Ok-clause-linked c = subst (λ (ts : List (List ℕ)). IsProgramOf ts c.in-Ok.program) c.texts.ensures.texts c.in-Ok.ensures.linked

pub returns-in-Ok-clause-decides : goal.returns-in-Ok-clause-decides
returns-in-Ok-clause-decides c = λ looked places paths.
    (c.in-Ok.program, subst (λ (ts : List (List ℕ)). IsProgramOf ts c.in-Ok.program) c.texts.ensures.texts c.in-Ok.ensures.linked, refl)

pub returns-in-Err-clause-decides : goal.returns-in-Err-clause-decides
returns-in-Err-clause-decides c = λ looked places paths.
    let written = c.args.written.now in
    let many = sym (ap length c.texts.ensures.texts) ∙ c.texts.ensures.each ∙ ap length paths ∙ length-map (accepted looked) (λ (l : LookedFile). l.file) in
    placed_so looked written.texts many written.paths c.args.places.now paths places (stop_seen c.link_stop-stop.result) (stop_seen c.among_all.result)
    c.link_stop-stop.ensures c.among_all.ensures
