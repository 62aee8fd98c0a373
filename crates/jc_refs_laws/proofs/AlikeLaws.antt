-- The image of an instruction needs what the instruction does, of operands that are the same but for the places of `new`.
use Rattle.std.proofs.Common.{◌≡◌, ⊎_elim, ℕ, zero, suc, true, List, [], ◌∷◌, map, reverse, get_or, refl, sym, ◌∙◌, ap, subst}
use Rattle.std.specs.Prelude.{Contains}
use Rattle.jc_methods.specs.declared.body.Body.{Body}
use Rattle.jc_methods.specs.VerificationTypes.{VerificationType}
use Rattle.jc_methods.specs.VerificationTypes as verification
use Rattle.jc_programs.specs.declared.program.Program.{Program}
use Rattle.jc_programs.specs.declared.run_end.Entry.{Entry}
use Rattle.jc_kinds_after.specs.Shift.{renamed}
use Rattle.jc_machine_model.specs.Fits.{made_in}
use Rattle.jc_machine_model.specs.Operations.{Operation, loads, stores, counts, tests, jumps, indexes, matches, gets, puts, invokes, fetches, casts, returns, returns_nothing, throws_top, outside}
use Rattle.jc_machine_laws.proofs.StackLaws.{reverse_map}
use Rattle.jc_twin_simulation.specs.Sides.{Side}
use Rattle.jc_twin_simulation.proofs.OwnLaws.{Alike}
use Rattle.jc_refs_check.specs.Needs.{Need, needs_of}
use Rattle.jc_refs_check.specs.RefsOk.{is_taken, operand}

-- ---- needs

pub alike_needs : (p p' : Program) (sides : Entry → Side) (t : Side) (q i : ℕ) (o o' : Operation) → Alike p p' sides t q i o o' → needs_of o' ≡ needs_of o
alike_needs p p' sides t q i (loads c k) o' h = ap needs_of h.0
alike_needs p p' sides t q i (stores c k) o' h = ap needs_of h.0
alike_needs p p' sides t q i (counts k by) o' h = ap needs_of h.0
alike_needs p p' sides t q i (tests op to) o' h = ⊎_elim (λ x. ap needs_of x.0) (λ x. ap needs_of x.0) h.1
alike_needs p p' sides t q i (jumps to) o' h = ap needs_of h.1
alike_needs p p' sides t q i (indexes low default arms) o' h = ap needs_of h.1
alike_needs p p' sides t q i (matches default arms) o' h = ap needs_of h.1
alike_needs p p' sides t q i (gets at type) o' h = ap needs_of h.0
alike_needs p p' sides t q i (puts at type) o' h = ap needs_of h.0
alike_needs p p' sides t q i (invokes callee parameters n) o' h = ap needs_of h.0
alike_needs p p' sides t q i (fetches class init) o' h = absurd h
alike_needs p p' sides t q i (casts class) o' h = absurd h
alike_needs p p' sides t q i (returns c type) o' h = ap needs_of h
alike_needs p p' sides t q i returns_nothing o' h = ap needs_of h
alike_needs p p' sides t q i throws_top o' h = ap needs_of h
alike_needs p p' sides t q i outside o' h = ap needs_of h
alike_needs p p' sides t q i o o' h = ap needs_of h.0

-- ---- operands

module _ (image : ℕ → ℕ) where
  read_renamed : (types : List VerificationType) (k : ℕ)
      → get_or (map (renamed image) types) k verification.top ≡ renamed image (get_or types k verification.top)
  read_renamed [] k = refl
  read_renamed (h ∷ types) zero = refl
  read_renamed (h ∷ types) (suc k) = read_renamed types k

  operand_renamed : (k : ℕ) (stack : List VerificationType) → operand k (map (renamed image) stack) ≡ renamed image (operand k stack)
  operand_renamed k stack = ap (λ l. get_or l k verification.top) (reverse_map (renamed image) stack) ∙ read_renamed (reverse stack) k

  module _ (b b' : Body) (made : (at : ℕ) → made_in b' (image at) ≡ made_in b at) where
    taken_renamed : (n : Need) (h : VerificationType) → is_taken b' n (renamed image h) ≡ is_taken b n h
    taken_renamed n verification.null = refl
    taken_renamed n (verification.object name) = refl
    taken_renamed n (verification.uninit at) = ap n.fresh (made at)
    taken_renamed n verification.uninit_this = refl
    taken_renamed n verification.top = refl
    taken_renamed n verification.int = refl
    taken_renamed n verification.float = refl
    taken_renamed n verification.long = refl
    taken_renamed n verification.double = refl

    pub operand_taken : (n : Need) (stack : List VerificationType) → is_taken b n (operand n.above stack) ≡ true
        → is_taken b' n (operand n.above (map (renamed image) stack)) ≡ true
    operand_taken n stack e =
        ap (is_taken b' n) (operand_renamed n.above stack) ∙ taken_renamed n (operand n.above stack) ∙ e

    -- so the operands suit there too
    pub needs_taken : (needs needs' : List Need) (stack : List VerificationType) → needs' ≡ needs
        → ((n : Need) → Contains needs n → is_taken b n (operand n.above stack) ≡ true)
        → (n : Need) → Contains needs' n → is_taken b' n (operand n.above (map (renamed image) stack)) ≡ true
    needs_taken needs needs' stack same suit n c = operand_taken n stack (suit n (subst (λ l. Contains l n) same c))
