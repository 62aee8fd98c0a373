-- Elements of arrays of references, kept under the numbers of the arrays' classes.
use Rattle.std.specs.Prelude.{◌≡◌, ◌<◌, ◌++◌, ℕ, true, false, length, Option, Some, nat_eq, MatchOption}
use Rattle.std.specs.HashMap.{get}
use Rattle.jc_methods.specs.declared.kind.Kind.{Kind}
use Rattle.jc_methods.specs.declared.kind.Kind.TheVariants as kinds
use Rattle.jc_methods.specs.VerificationTypes.{Names, verification_type}
use Rattle.jc_kinds_after.specs.declared.elements.Elements.{Elements}
use Rattle.jc_kinds_after.specs.Step.{is_array, element_of}

-- an element of an array of references under earlier names, by later ones and when more are numbered, or none where
-- it isn't one
abbrev pub IsElementOf : Names → Names → Kind → Option Kind → Type 0
IsElementOf old new array found = let type = verification_type old array in
    MatchOption found (is_array type ≡ false) (λ element. (is_array type ≡ true) × ((more : Names) → verification_type (new ++ more) element ≡ element_of type))

-- each that is kept is an element of the arrays of its class, which has one of these names
pub record AreElements (names : Names) (e : Elements) : Type 0 where
  pub each : (number : ℕ) (element : Kind) → get nat_eq e.known number ≡ Some element →
      (number < length names) × IsElementOf names names (kinds.Object number) (Some element)
