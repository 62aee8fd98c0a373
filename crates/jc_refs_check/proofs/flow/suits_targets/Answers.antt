use Rattle.std.proofs.Common.{◌∙◌, ap}
use Rattle.std.specs.List.{list_all}
use Rattle.jc_methods.specs.Flow.{targets_of}
use Rattle.jc_kinds.proofs.BranchLaws.{seen_all}
use Rattle.jc_refs_check.specs.SuitedFlow.{suits_frame}
use Rattle.jc_refs_check.proofs.flow.suits_targets.Goals as goal

pub returns-in_ok-places-in-Table : goal.returns-in_ok-places-in-Table
returns-in_ok-places-in-Table c =
    let test = suits_frame c.args.classes.now.names c.args.body.now.frames c.args.state.now in
    c.suits_frames.ensures ∙ ap (list_all test) (c.deref.ensures ∙ c.in_ok-places-in-Table.ensures) ∙ seen_all test (targets_of c.args.insn.now)
