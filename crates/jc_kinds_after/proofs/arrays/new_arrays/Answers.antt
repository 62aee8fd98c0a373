use Rattle.std.proofs.Common.{◌≡◌, ℕ, zero, suc, ◌≤◌, List, [], ◌∷◌, map, take, replicate, refl, ap, ◌∙◌, arith}
use Rattle.jc_methods.specs.VerificationTypes.{verification_type, type_state}
use Rattle.jc_kinds_after.specs.declared.want.Want.{Want}
use Rattle.jc_kinds_after.specs.declared.want.Want.TheVariants as wants
use Rattle.jc_kinds_after.specs.declared.arrays.TheConstants.{INTS}
use Rattle.jc_kinds_after.specs.Step.{kind, moved_by, with_stack}
use Rattle.jc_kinds_after.specs.Table.{form}
use Rattle.jc_kinds_after.proofs.arrays.new_arrays.Goals as goal

ints_are : (m n : ℕ) → n ≤ m → take n (replicate m wants.Int) ≡ replicate n wants.Int
ints_are m zero le = refl
ints_are zero (suc n) le = absurd (omega (arith, le))
ints_are (suc m) (suc n) le = ap (λ (l : List Want). wants.Int ∷ l) (ints_are m n (omega (arith, le)))

all_ints : INTS ≡ replicate 255 wants.Int
all_ints = refl

pub returns : goal.returns
returns c = λ names.
    c.in_ok-move_state.ensures names
    ∙ ap (λ (l : List Want). with_stack (type_state names c.args.state)
    (moved_by c.args.most (form l (kind (verification_type names c.args.class) ∷ []) ∷ []) (map (verification_type names) c.args.state.stack)))
    (ap (take c.args.count) all_ints ∙ ints_are 255 c.args.count (omega arith))
