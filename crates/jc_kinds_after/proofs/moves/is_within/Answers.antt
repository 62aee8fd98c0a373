use Rattle.std.proofs.Common.{◌≡◌, map, drop, get_or, refl, sym, arith}
use Rattle.std.proofs.lemmas.List.{drop_all}
use Rattle.std.proofs.lemmas.Bool.{lt-leb, le-leb}
use Rattle.jc_methods.specs.declared.kind.Kind.TheVariants as kinds
use Rattle.jc_methods.specs.VerificationTypes.{verification_type, slots}
use Rattle.jc_kinds_after.proofs.MovesLaws.{slots_on, width_is}
use Rattle.jc_kinds_after.proofs.moves.is_within.Goals as goal

pub counting-init : goal.counting-init
counting-init c = λ names. omega arith

pub returns-then-width-free : goal.returns-then-width-free
returns-then-width-free c names =
    let on = slots_on names c.args.stack.now c.counting.kind-index kinds.Top c.counting-test.true in
    let w = width_is names (get_or c.args.stack.now c.counting.kind-index kinds.Top) in
    let so_far = c.counting.invariant names in
    sym (lt-leb (slots (map (verification_type names) c.args.stack.now)) c.args.most
    (omega (arith, on, w, so_far, c.slots-width.ensures, c.if-width-free.true)))

pub counting-preserved : goal.counting-preserved
counting-preserved c = λ names.
    let on = slots_on names c.args.stack.now c.counting.kind-index kinds.Top c.counting-test.true in
    let w = width_is names (get_or c.args.stack.now c.counting.kind-index kinds.Top) in
    let so_far = c.counting.invariant names in
    omega (arith, on, w, so_far, c.slots-width.ensures, c.if-width-free.false)

pub returns : goal.returns
returns c names =
    let rest : slots (map (verification_type names) (drop c.counting.kind-index c.args.stack.now)) ≡ 0 =
    rw (drop_all c.counting.kind-index c.args.stack.now c.counting-test.false) refl in
    let so_far = c.counting.invariant names in
    sym (le-leb (slots (map (verification_type names) c.args.stack.now)) c.args.most (omega arith))
