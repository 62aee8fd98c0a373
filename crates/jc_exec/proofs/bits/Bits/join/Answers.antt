use Rattle.std.proofs.Common.{◌≡◌, ℕ, List, length, sym, ◌∙◌, ap, subst, arith}
use Rattle.jc_exec.specs.Packed.{unpack, packed, joined_bytes}
use Rattle.jc_exec.specs.Union.{either_bits}
use Rattle.jc_exec.proofs.BitsLaws.{length_unpack}
use Rattle.jc_exec.proofs.MergingLaws.{length_either}
use Rattle.jc_exec.proofs.PackedLaws.{bytes_size, joined_are, made_own, made_seen, written_back}
use Rattle.jc_exec.proofs.bits.Bits.join.Goals as goal

pub join_bytes-requires : goal.join_bytes-requires
join_bytes-requires c =
    let a : length (unpack c.self.inside.count c.self.inside.bytes.items) ≡ length c.args.self.now = ap length c.self.view_is in
    let b : length (unpack c.others.inside.count c.others.inside.bytes.items) ≡ length c.args.others.now = ap length c.others.view_is in
    omega (
      arith,
      a,
      b,
      length_unpack c.self.inside.count c.self.inside.bytes.items,
      length_unpack c.others.inside.count c.others.inside.bytes.items,
      c.requires,
      bytes_size c.self.inside.count c.self.inside.bytes.items c.self.invariant,
      bytes_size c.others.inside.count c.others.inside.bytes.items c.others.invariant,
      ap length c.deref_mut.ensures.value,
      ap length c.deref.ensures.value,
    )

pub invariant_of-self : goal.invariant_of-self
invariant_of-self c =
    let xs = c.self.inside.bytes.items in
    let ys = c.others.inside.bytes.items in
    let m = c.self.inside.count in
    let n = c.others.inside.count in
    let long : length (unpack m xs) ≡ length (unpack n ys) = ap length c.self.view_is ∙ c.requires ∙ sym (ap length c.others.view_is) in
    let made = joined_are xs ys c.join_bytes.new.bytes (unpack m xs) (unpack n ys) c.self.invariant c.others.invariant long
    (c.join_bytes.ensures ∙ (λ i. joined_bytes (c.deref_mut.ensures.value i) (c.deref.ensures.value i))) in
    let many : m ≡ length (either_bits (unpack m xs) (unpack n ys)) = sym (length_either (unpack m xs) (unpack n ys) long ∙ length_unpack m xs) in
    let own = made_own m (either_bits (unpack m xs) (unpack n ys)) c.join_bytes.new.bytes made many in
    let back = written_back c.self.inside.bytes.len c.join_bytes.new.bytes xs (omega arith)
    (omega (arith, bytes_size m c.join_bytes.new.bytes own, bytes_size m xs c.self.invariant)) in
    subst (λ (l : List ℕ). l ≡ packed (unpack m l)) (sym back) own

pub returns : goal.returns
returns c =
    let xs = c.self.inside.bytes.items in
    let ys = c.others.inside.bytes.items in
    let m = c.self.inside.count in
    let n = c.others.inside.count in
    let long : length (unpack m xs) ≡ length (unpack n ys) = ap length c.self.view_is ∙ c.requires ∙ sym (ap length c.others.view_is) in
    let made = joined_are xs ys c.join_bytes.new.bytes (unpack m xs) (unpack n ys) c.self.invariant c.others.invariant long
    (c.join_bytes.ensures ∙ (λ i. joined_bytes (c.deref_mut.ensures.value i) (c.deref.ensures.value i))) in
    let many : m ≡ length (either_bits (unpack m xs) (unpack n ys)) = sym (length_either (unpack m xs) (unpack n ys) long ∙ length_unpack m xs) in
    let own = made_own m (either_bits (unpack m xs) (unpack n ys)) c.join_bytes.new.bytes made many in
    let back = written_back c.self.inside.bytes.len c.join_bytes.new.bytes xs (omega arith)
    (omega (arith, bytes_size m c.join_bytes.new.bytes own, bytes_size m xs c.self.invariant)) in
    ap (unpack m) back ∙ made_seen m (either_bits (unpack m xs) (unpack n ys)) c.join_bytes.new.bytes made many ∙ (λ i. either_bits (c.self.view_is i) (c.others.view_is i))
