use Rattle.std.proofs.Common.{List, subst}
use Rattle.jc_methods.specs.declared.insn.Insn.{Insn}
use Rattle.jc_methods.specs.declared.body.FrameAt.{FrameAt}
use Rattle.jc_emit.specs.Straddling.{InsnStraddles, FramesStraddle, IsFirstOf}
use Rattle.jc_emit.proofs.StraddlingLaws.{first_of_both}
use Rattle.jc_emit.proofs.straddling.straddles.Goals as goal

pub returns : goal.returns
returns c =
    first_of_both c.args.body.now c.first_insn.result c.first_frame.result c.lesser.result c.lesser.ensures
    (subst (λ (l : List Insn). IsFirstOf (InsnStraddles c.args.body.now.arg_slots l) c.first_insn.result) c.deref.ensures c.first_insn.ensures)
    (subst (λ (l : List FrameAt). IsFirstOf (FramesStraddle c.args.body.now.arg_slots l) c.first_frame.result) c.deref-2.ensures c.first_frame.ensures)
