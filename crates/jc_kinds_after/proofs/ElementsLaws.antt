-- The elements of arrays that are kept, when more names are numbered and when one more is kept.
use Rattle.std.proofs.Common.{◌≡◌, refl, ℕ, ◌<◌, Bool, true, false, cond, List, [], ◌++◌, length, Some, None, nat_eq, sym, ap, subst, ◌∙◌, arith, slice_get}
use Rattle.std.specs.HashMap.{get}
use Rattle.std.proofs.lemmas.Bool.{eqb-true}
use Rattle.std.proofs.lemmas.Option.{none-some, same_Some, get_or_from_slice_get}
use Rattle.jc_methods.specs.declared.kind.Kind.{Kind}
use Rattle.jc_methods.specs.declared.kind.Kind.TheVariants as kinds
use Rattle.jc_methods.specs.VerificationTypes.{Names, VerificationType, object, verification_type, Grows}
use Rattle.jc_methods.proofs.SeenLaws.{held_stays}
use Rattle.jc_methods.proofs.NumberedLaws.{grown_count}
use Rattle.jc_kinds_after.specs.declared.elements.Elements.{Elements}
use Rattle.jc_kinds_after.specs.Step.{is_array, is_array_name, element_of, element_name}
use Rattle.jc_kinds_after.specs.Elements.{IsElementOf, AreElements}
use Rattle.jc_kinds_after.proofs.DoesLaws.{later}

pub no_elements : (names : Names) (e : Elements) → e.known.entries ≡ [] → AreElements names e
no_elements names e empty =
    record { each = λ number element found. let nothing : get nat_eq e.known number ≡ None = rw empty refl in absurd (none-some element (sym nothing ∙ found)) }

-- an element that is found by the name of the array's class
pub element_found : (old new : Names) (number : ℕ) (text name : List ℕ) (element : Kind) → slice_get old number ≡ Some text
    → is_array_name text ≡ true → name ≡ element_name text
    → ((more : Names) → verification_type (new ++ more) element ≡ object name) → IsElementOf old new (kinds.Object number) (Some element)
element_found old new number text name element at array named is =
    let same = get_or_from_slice_get old number text [] at in
    (ap is_array_name same ∙ array, λ more. is more ∙ ap object (named ∙ ap element_name (sym same)))

-- an array has the same type under more names
pub array_later : (old new : Names) (number : ℕ) → Grows old new → number < length old
    → verification_type new (kinds.Object number) ≡ verification_type old (kinds.Object number)
array_later old new number g lt = ap (λ (l : Names). verification_type l (kinds.Object number)) g.1 ∙ held_stays old g.0 (kinds.Object number) lt

-- an element that was found under earlier names is one under those that there are then
pub element_now : (old new : Names) (number : ℕ) (element : Kind) → Grows old new → number < length old
    → IsElementOf old new (kinds.Object number) (Some element) → IsElementOf new new (kinds.Object number) (Some element)
element_now old new number element g lt is =
    let same = array_later old new number g lt in
    subst (λ (type : VerificationType). (is_array type ≡ true) × ((more : Names) → verification_type (new ++ more) element ≡ element_of type)) (sym same) is

pub elements_later : (old new : Names) (e : Elements) → Grows old new → AreElements old e → AreElements new e
elements_later old new e g are = record {
  each = λ number element found.
      let kept = are.each number element found in
      let all = later (λ names. verification_type names element) (element_of (verification_type old (kinds.Object number))) old new g kept.1.1 in
      (let le = grown_count old new g in let lt = kept.0 in omega (arith, le, lt), element_now old new number element g kept.0 (kept.1.0, all));
}

-- what is kept is told by the entries alone
pub same_elements : (names : Names) (old new : Elements) → new.known.entries ≡ old.known.entries → AreElements names old → AreElements names new
same_elements names old new same are = record { each = λ number element found. are.each number element (rw (← same) found) }

-- one more, which was found under earlier names
pub elements_more : (names new_names : Names) (old new : Elements) (number : ℕ) (element : Kind) → AreElements new_names old → Grows names new_names
    → number < length names
    → IsElementOf names new_names (kinds.Object number) (Some element)
    → ((q : ℕ) → get nat_eq new.known q ≡ cond (nat_eq number q) (Some element) (get nat_eq old.known q)) → AreElements new_names new
elements_more names new_names old new number element are g lt is updates =
    record { each = λ q kind found. at q kind (nat_eq number q) refl (sym (updates q) ∙ found) }
  where
    there : (number < length new_names) × IsElementOf new_names new_names (kinds.Object number) (Some element)
    there = (let le = grown_count names new_names g in omega (arith, le, lt), element_now names new_names number element g lt is)

    at : (q : ℕ) (kind : Kind) (b : Bool) → nat_eq number q ≡ b → cond b (Some element) (get nat_eq old.known q) ≡ Some kind
        → (q < length new_names) × IsElementOf new_names new_names (kinds.Object q) (Some kind)
    at q kind true same found =
        subst (λ (n : ℕ). (n < length new_names) × IsElementOf new_names new_names (kinds.Object n) (Some kind)) (eqb-true number q same)
        (subst (λ (k : Kind). (number < length new_names) × IsElementOf new_names new_names (kinds.Object number) (Some k))
        (same_Some element kind found) there)
    at q kind false apart found = are.each q kind found
