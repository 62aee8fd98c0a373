use Rattle.std.proofs.Common.{◌<◌, length, ◌==◌, ◌%◌, ◌/◌, ◌^◌, ℕ, List, Bool, false, slice_index_or, sym, ◌∙◌, ap, arith}
use Rattle.std.proofs.lemmas.Bool.{le-ltb}
use Rattle.jc_exec.proofs.PackedLaws.{bytes_size, any_default, bit_there, bit_behind}
use Rattle.jc_exec.proofs.bits.Bits.get.Goals as goal

pub index-requires : goal.index-requires
index-requires c = omega (arith, bytes_size c.self.inside.count c.self.inside.bytes.items c.self.invariant, c.if-i-self.true)

pub returns-then-i-self : goal.returns-then-i-self
returns-then-i-self c =
    let within : c.args.i / 8 < length c.self.inside.bytes.items = omega (arith, bytes_size c.self.inside.count c.self.inside.bytes.items c.self.invariant, c.if-i-self.true) in
    ap (λ (b : ℕ). (b / 2 ^ (c.args.i % 8)) % 2 == 1) (c.index.ensures ∙ any_default c.self.inside.bytes.items (c.args.i / 8) c.index.result.now 0 within)
    ∙ sym (bit_there c.self.inside.count c.args.i c.self.inside.bytes.items c.if-i-self.true)
    ∙ ap (λ (bits : List Bool). slice_index_or bits c.args.i false) c.self.view_is

pub returns-else-i-self : goal.returns-else-i-self
returns-else-i-self c =
    le-ltb c.args.i c.self.inside.count c.if-i-self.false
    ∙ sym (bit_behind c.self.inside.count c.args.i c.self.inside.bytes.items c.if-i-self.false)
    ∙ ap (λ (bits : List Bool). slice_index_or bits c.args.i false) c.self.view_is
