use Rattle.std.proofs.Common.{◌≡◌, ℕ, ◌+◌, ◌-◌, ◌/◌, ◌<◌, length, List, sym, ap, ◌∙◌, arith, rules, pos, ◌<ℤ◌, to_z, of_z, w32}
use Rattle.std.specs.Prelude.{slice_index_or}
use mir.Val.{SFits}
use Rattle.std.proofs.lemmas.Int.{ints, to_z-of_z}
use Rattle.std.proofs.lemmas.Option.{slice_get-get_or}
use Rattle.jc_methods.specs.declared.insn.Arm.{Arm}
use Rattle.jc_plan.specs.Chosen.{lookup_target}
use Rattle.jc_machine_code.proofs.SwitchLaws.{found, in_front, behind, nowhere}
use Rattle.jc_machine_code.proofs.switches.lookup_target.Goals as goal

none : Arm
none = record { key = pos 0; to = 0 }

pub returns-then-arm-key : goal.returns-then-arm-key
unfolding none
returns-then-arm-key c =
    let arms : List Arm = c.args.arms.now in
    let middle : ℕ = c.searching.low + (c.searching.high - c.searching.low) / 2 in
    let inside : middle < length arms = let e = c.searching.invariant.end in omega (arith, e) in
    let a : Arm = slice_index_or arms middle none in
    let key : SFits w32 c.args.key = c.ranges.key in
    let fits : SFits w32 a.key = search rules in
    let is : a.key ≡ c.args.key = let h = c.if-arm-key.true in omega (arith, ints, h) in
    sym (found c.args.default arms middle a c.args.key c.requires (slice_get-get_or arms middle none inside) is)

pub searching-preserved-then-key-arm : goal.searching-preserved-then-key-arm
unfolding none
searching-preserved-then-key-arm c =
    let arms : List Arm = c.args.arms.now in
    let middle : ℕ = c.searching.low + (c.searching.high - c.searching.low) / 2 in
    let inside : middle < length arms = let e = c.searching.invariant.end in omega (arith, e) in
    let a : Arm = slice_index_or arms middle none in
    let key : SFits w32 c.args.key = c.ranges.key in
    let fits : SFits w32 a.key = search rules in
    let less : to_z w32 (of_z w32 c.args.key) <ℤ a.key = let h = c.if-key-arm.true in omega (arith, ints, h) in
    in_front arms (to_z w32 (of_z w32 c.args.key)) c.searching.low c.searching.high middle a c.requires (slice_get-get_or arms middle none inside) c.searching.invariant less (omega arith)

pub searching-preserved : goal.searching-preserved
unfolding none
searching-preserved c =
    let arms : List Arm = c.args.arms.now in
    let middle : ℕ = c.searching.low + (c.searching.high - c.searching.low) / 2 in
    let inside : middle < length arms = let e = c.searching.invariant.end in omega (arith, e) in
    let a : Arm = slice_index_or arms middle none in
    let key : SFits w32 c.args.key = c.ranges.key in
    let fits : SFits w32 a.key = search rules in
    let more : a.key <ℤ to_z w32 (of_z w32 c.args.key) = let h = c.if-key-arm.false in let g = c.if-arm-key.false in omega (arith, ints, h, g) in
    behind arms (to_z w32 (of_z w32 c.args.key)) c.searching.low c.searching.high middle a c.requires (slice_get-get_or arms middle none inside) c.searching.invariant more (omega arith)

pub returns : goal.returns
returns c =
    sym (nowhere c.args.default c.args.arms.now (to_z w32 (of_z w32 c.args.key)) c.searching.low c.searching.high c.searching-test.false c.searching.invariant)
    ∙ ap (lookup_target c.args.default c.args.arms.now) (to_z-of_z w32 c.args.key c.ranges.key)
