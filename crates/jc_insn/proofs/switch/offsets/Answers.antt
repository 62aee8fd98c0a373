use Rattle.std.proofs.Common.{◌∙◌, ap, ℕ, refl, arith}
use Rattle.jc_insn.specs.Items.{offsets_in, offset_in, in_pieces}
use Rattle.jc_insn.proofs.PiecesLaws.{pushes_piece}
use Rattle.jc_insn.proofs.switch.offsets.Goals as goal

pub reading-preserved : goal.reading-preserved
reading-preserved c = pushes_piece 4 (offset_in c.args.at) c.reading.index c.args.words.now _ c.reading.arms.items c.push.new.self.items c.offset.result
    c.reading.invariant refl c.offset.ensures c.in_ok-push.ensures.items

pub returns : goal.returns
unfolding offsets_in
returns c = c.from_vec.ensures ∙ c.reading.invariant ∙ ap (λ (k : ℕ). in_pieces 4 (offset_in c.args.at) k c.args.words.now)
    (omega (arith, c.reading-test.false, c.reading.auto.index-end))
