use Rattle.std.proofs.Common.{◌≡◌, ℕ, zero, suc, ◌-◌, ◌<◌, length, refl, arith, slice_index_or, ◌∙◌, ap, sym, subst}
use Rattle.std.proofs.lemmas.List.{get_or_default, get_or-take}
use Rattle.jc_region.specs.declared.region.Region.TheInside.{Inside}
use Rattle.jc_region.specs.Blocks.{Blocks, IsBlock}
use Rattle.jc_region.specs.Places.{IsSound, blocks_of, used_ends}
use Rattle.jc_region.proofs.PlaceLaws.{begin_of}
use Rattle.jc_region.proofs.InsideLaws.{count_is, begins_below, ends_below, block_at}
use Rattle.jc_region.proofs.region.Region.block.Goals as goal
use Rattle.jc_region.proofs.region.Region.block.Goals.{then-number-eq0, else-number-eq0}

below : (r : Inside) (region : Blocks) (k : ℕ) → IsSound r → blocks_of r ≡ region → k < length region.blocks → k < r.count
below r region k sound view less = omega (arith, count_is r sound, ap (λ (b : Blocks). length b.blocks) view)

pub index-end-requires : goal.index-end-requires
index-end-requires c = omega (arith, below c.self.inside c.args.self.now c.args.number c.self.invariant c.self.view_is c.requires, c.self.invariant.counted)

pub index-requires : goal.index-requires
index-requires c = omega (arith, below c.self.inside c.args.self.now c.args.number c.self.invariant c.self.view_is c.requires, c.self.invariant.counted)

begins_later : (r : Inside) (k : ℕ) → (k ≡ 0 → ⊥) → k < r.count → slice_index_or r.ends.items (k - 1) 0 ≡ begin_of 0 (used_ends r) k
begins_later r zero some less = absurd (some refl)
begins_later r (suc k) some less =
    let same : suc k - 1 ≡ k = omega arith in
    ap (λ n. slice_index_or r.ends.items n 0) same ∙ sym (get_or-take r.count r.ends.items k 0 (omega arith))

-- the block begins where the one before it ends
begins : (c : goal.After-row_known-2-1) → c.if-number-eq0.at ≡ begin_of 0 (used_ends c.self.inside) c.args.number
begins c =
    let less = below c.self.inside c.args.self.now c.args.number c.self.invariant c.self.view_is c.requires in
    elim c.if-number-eq0.branch [
      | then-number-eq0 w ↦ w.at-is ∙ sym (ap (begin_of 0 (used_ends c.self.inside)) w.if-number-eq0.true)
      | else-number-eq0 w ↦ w.at-is ∙ (w.index.ensures
          ∙ (get_or_default c.self.inside.ends.items (c.args.number - 1) _ 0 (omega (arith, less, c.self.invariant.counted))
          ∙ begins_later c.self.inside c.args.number w.if-number-eq0.false less))
    ]

ends : (c : goal.After-row_known-2-1) → c.index-end.result.now ≡ slice_index_or c.self.inside.ends.items c.args.number 0
ends c =
    let less = below c.self.inside c.args.self.now c.args.number c.self.invariant c.self.view_is c.requires in
    c.index-end.ensures ∙ get_or_default c.self.inside.ends.items c.args.number _ 0 (omega (arith, less, c.self.invariant.counted))

pub overflow_sub-result : goal.overflow_sub-result
overflow_sub-result c =
    let less = below c.self.inside c.args.self.now c.args.number c.self.invariant c.self.view_is c.requires in
    omega (arith, begins c, ends c, begins_below c.self.inside c.args.number c.self.invariant less)

pub returns-clause-block : goal.returns-clause-block
returns-clause-block c =
    let less = below c.self.inside c.args.self.now c.args.number c.self.invariant c.self.view_is c.requires in
    subst (λ (r : Blocks). IsBlock r.blocks c.if-number-eq0.at (c.index-end.result.now - c.if-number-eq0.at) c.args.number) c.self.view_is
    (block_at c.self.inside c.if-number-eq0.at _ c.args.number c.self.invariant less (begins c) (ap (λ n. n - c.if-number-eq0.at) (ends c)))

pub returns-clause-within : goal.returns-clause-within
returns-clause-within c =
    let less = below c.self.inside c.args.self.now c.args.number c.self.invariant c.self.view_is c.requires in
    let last = ends_below c.self.inside c.args.number c.self.invariant less in
    omega (
      arith,
      begins c,
      ends c,
      begins_below c.self.inside c.args.number c.self.invariant less,
      last,
      c.self.invariant.within,
      ap
          (λ (r : Blocks). r.most) c.self.view_is,
    )
