-- Files and the classes that are linked of them, place by place.
use Rattle.std.proofs.Common.{◌≡◌, ℕ, zero, suc, List, [], ◌∷◌, Some, refl, subst}
use Rattle.std.specs.Prelude.{slice_get}
use Rattle.std.proofs.lemmas.Option.{none-some, same_Some}
use Rattle.jc_methods.specs.VerificationTypes.{Names}
use Rattle.jc_programs.specs.declared.program.Linked.{Linked}
use Rattle.jc_link_programs.specs.Linking.{AreLinkedClasses, IsLinkedClass}

-- what is linked of the file at a place
pub linked_at : (names : Names) (files : List (List ℕ)) (classes : List Linked) → AreLinkedClasses names files classes → (i : ℕ) (bytes : List ℕ) → slice_get files i ≡ Some bytes
    → (l : Linked) × (slice_get classes i ≡ Some l) × IsLinkedClass names bytes l
linked_at names [] classes are i bytes at = absurd (none-some bytes at)
linked_at names (x ∷ files) [] are i bytes at = absurd are
linked_at names (x ∷ files) (l ∷ classes) are zero bytes at = (l, refl, subst (λ (b : List ℕ). IsLinkedClass names b l) (same_Some x bytes at) are.0)
linked_at names (x ∷ files) (l ∷ classes) are (suc i) bytes at = linked_at names files classes are.1 i bytes at
