use Rattle.jc_kinds.proofs.BranchLaws.{fits_not, fits_all}
use Rattle.jc_refs_check.specs.SuitedFlow.{suits_frame}
use Rattle.jc_refs_check.proofs.flow.suits_branches.Goals as goal

pub returns-then-not-suits_next : goal.returns-then-not-suits_next
returns-then-not-suits_next c =
    fits_not (suits_frame c.args.classes.now.names c.args.body.now.frames c.args.state.now) c.args.insn.now c.args.at c.suits_next.result c.suits_next.ensures c.if-not-suits_next.true

pub returns : goal.returns
returns c = fits_all (suits_frame c.args.classes.now.names c.args.body.now.frames c.args.state.now) c.args.insn.now c.args.at c.suits_next.result c.in_ok-suits_targets.field-0
    c.suits_next.ensures c.if-not-suits_next.false c.in_ok-suits_targets.ensures
