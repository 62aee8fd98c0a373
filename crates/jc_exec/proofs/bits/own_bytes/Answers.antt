use Rattle.std.proofs.Common.{◌≡◌, ◌++◌, ◌∷◌, [], ◌/◌, take, List, ℕ, sym, ◌∙◌, ap}
use Rattle.jc_exec.proofs.PackedLaws.{packed_whole, packed_part}
use Rattle.jc_exec.proofs.bits.own_bytes.Goals.{then-whole-bytes+in_ok-push, else-whole-bytes}
use Rattle.jc_exec.proofs.bits.own_bytes.Goals as goal

pub returns : goal.returns
returns c =
    let front : c.extend_from_slice.new.self.items ≡ take (c.args.count / 8) c.args.bytes.now =
    c.in_ok-extend_from_slice.ensures.items ∙ ap (λ (l : List ℕ). l ++ take (c.args.count / 8) c.args.bytes.now) c.in_ok-own.ensures.items in
    elim c.if-whole-bytes.branch [
      | then-whole-bytes+in_ok-push w ↦
          rw w.own-is (w.in_ok-push.ensures.items ∙ (λ i. front i ++ w.low_bits.ensures i ∷ [])
          ∙ sym (packed_part c.args.count c.args.bytes.now c.are_bytes.ensures c.requires w.if-whole-bytes.true))
      | else-whole-bytes w ↦
          rw w.own-is (front ∙ sym (packed_whole c.args.count c.args.bytes.now c.are_bytes.ensures c.requires w.if-whole-bytes.false))
    ]
