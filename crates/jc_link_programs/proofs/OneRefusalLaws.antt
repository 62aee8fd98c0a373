-- Files have a program or a refusal, and not both, and one refusal at most.
use Rattle.std.proofs.Common.{◌≡◌, ◌⊎◌, inl, inr, ℕ, zero, suc, ◌<◌, List, [], ◌∷◌, Option, Some, slice_get, refl, sym, ◌∙◌, ap, ap₂, subst}
use Rattle.std.specs.Option.{option_map}
use Rattle.std.proofs.lemmas.Bool.{cases_order}
use Rattle.jc_bytes.specs.declared.refusal.Refusal.{Refusal}
use Rattle.jc_bytes.specs.declared.refusal.RefusalKind.TheVariants as kinds
use Rattle.jc_bytes.proofs.OptionLaws.{none_some, some_is}
use Rattle.jc_methods.specs.VerificationTypes.{Names}
use Rattle.jc_programs.specs.declared.program.Linked.{Linked}
use Rattle.jc_programs.specs.declared.program.ProbeInit.{ProbeInit}
use Rattle.jc_programs.specs.declared.program.Program.{Program}
use Rattle.jc_class.specs.declared.class_file.ClassFile.{ClassFile}
use Rattle.jc_kinds.specs.Checked.{FirstMissing, FirstClash}
use Rattle.jc_instrument.specs.Reasons.{IsFaulty, OfBody}
use Rattle.jc_instrument.proofs.CauseLaws.{AreSingle, one_method}
use Rattle.jc_instrument.proofs.OneReasonLaws.{none_or_some, one_reason_by, one_lack, one_of_clashes, one_faulty}
use Rattle.jc_link_programs.specs.Linking.{link_causes, LinkReason, AreLinkedClasses, IsProgramOf, IsFirstRefused, IsLinkRefusal, refused, one_name, one_id}
use Rattle.jc_link_programs.specs.Pairs.{HaveOne, name_of, id_of, HaveOneName, HaveOneId, NoPair, IsFirstPair}
use Rattle.jc_link_programs.specs.SameProgram.{AreSameClasses, IsSameProgram}
use Rattle.jc_link_programs.specs.declared.link_refusal.LinkRefusal.{LinkRefusal}
use Rattle.jc_link_programs.specs.declared.link_refusal.LinkRefusal.TheVariants as refusals
use Rattle.jc_link_programs.proofs.LinkingLaws.{none_refused}
use Rattle.jc_link_programs.proofs.SameLinkedLaws.{same_classes}

-- ---- one reason of a file

link_single : (c : ClassFile) → AreSingle (link_causes c)
link_single c = (
  λ r s a b. a.refusal ∙ sym b.refusal,
  (
    one_method kinds.Subroutine (IsFaulty c kinds.Subroutine) (one_faulty c kinds.Subroutine),
    (
      one_method kinds.BadCode (IsFaulty c kinds.BadCode) (one_faulty c kinds.BadCode),
      (
        one_method kinds.FrameMissing (OfBody c (λ _ b place. FirstMissing b place)) (one_lack c),
        (one_method kinds.FrameClash (OfBody c FirstClash) (one_of_clashes c), tt),
      ),
    ),
  ),
)

pub one_link_reason : (bytes : List ℕ) (a b : Option Refusal) → LinkReason bytes a → LinkReason bytes b → a ≡ b
one_link_reason = one_reason_by link_causes link_single

-- ---- the first file that isn't linked

same_refused : (files : List (List ℕ)) (i j : ℕ) (r s : Refusal) → IsFirstRefused files i r → IsFirstRefused files j s → (i ≡ j) × (r ≡ s)
same_refused files i j r s p q = by (cases_order i j)
  where
    by : (i ≡ j) ⊎ ((i < j) ⊎ (j < i)) → (i ≡ j) × (r ≡ s)
    by (inl same) =
        let bytes : p.bytes ≡ q.bytes = some_is (sym p.stands ∙ ap (λ (n : ℕ). slice_get files n) same ∙ q.stands) in
        (same, some_is (one_link_reason q.bytes (Some r) (Some s) (subst (λ (b : List ℕ). LinkReason b (Some r)) bytes p.reason) q.reason))
    by (inr (inl less)) = absurd (none_or_some link_causes p.bytes r (q.linked i p.bytes less p.stands) p.reason)
    by (inr (inr less)) = absurd (none_or_some link_causes q.bytes s (p.linked j q.bytes less q.stands) q.reason)

refused_or_linked : (files : List (List ℕ)) (i : ℕ) (r : Refusal) (names : Names) (classes : List Linked)
    → IsFirstRefused files i r → AreLinkedClasses names files classes → ⊥
refused_or_linked files i r names classes p linked =
    none_or_some link_causes p.bytes r (none_refused names files classes linked i p.bytes p.stands) p.reason

-- ---- the first two of one key

module _ {K : Type 0} (key : Linked → Option K) (keeps : (names others : Names) (xs ys : List Linked) → AreSameClasses names others xs ys
    → (i : ℕ) (x : Linked) → slice_get xs i ≡ Some x → (y : Linked) × (slice_get ys i ≡ Some y) × (key y ≡ key x)) where
  moved_pair : (names others : Names) (xs ys : List Linked) → AreSameClasses names others xs ys → (a b : ℕ) → HaveOne key xs a b → HaveOne key ys a b
  moved_pair names others xs ys same a b h =
      let first = keeps names others xs ys same a h.a h.first_is in
      let second = keeps names others xs ys same b h.b h.second_is in
      record {
        a = first.0;
        b = second.0;
        shared = h.shared;
        first_is = first.1;
        second_is = second.1;
        first_key = first.2 ∙ h.first_key;
        second_key = second.2 ∙ h.second_key;
      }

-- two pairs that are first of the same pairs
module _ (Same Other : ℕ → ℕ → Type 0) (there : (a b : ℕ) → Same a b → Other a b) (back : (a b : ℕ) → Other a b → Same a b) where
  one_pair : (a b c d : ℕ) → IsFirstPair Same a b → IsFirstPair Other c d → (a ≡ c) × (b ≡ d)
  one_pair a b c d p q = by (cases_order b d)
    where
      firsts : b ≡ d → (a ≡ c) ⊎ ((a < c) ⊎ (c < a)) → a ≡ c
      firsts same (inl is) = is
      firsts same (inr (inl less)) = absurd (q.least_first a less (subst (λ (n : ℕ). Other a n) same (there a b p.there)))
      firsts same (inr (inr less)) = absurd (p.least_first c less (subst (λ (n : ℕ). Same c n) (sym same) (back c d q.there)))

      by : (b ≡ d) ⊎ ((b < d) ⊎ (d < b)) → (a ≡ c) × (b ≡ d)
      by (inl same) = (firsts same (cases_order a c), same)
      by (inr (inl less)) = absurd (q.least_second a b p.ordered less (there a b p.there))
      by (inr (inr less)) = absurd (p.least_second c d q.ordered less (back c d q.there))

  no_pair : (a b : ℕ) → IsFirstPair Same a b → NoPair Other → ⊥
  no_pair a b p none = none a b p.ordered (there a b p.there)

same_keys : (names others : Names) (xs ys : List Linked) → AreSameClasses names others xs ys
    → (i : ℕ) (x : Linked) → slice_get xs i ≡ Some x → (y : Linked) × (slice_get ys i ≡ Some y) × ((y.name ≡ x.name) × (y.probes ≡ x.probes))
same_keys names others [] ys same i x at = absurd (none_some at)
same_keys names others (x ∷ xs) [] same i z at = absurd same
same_keys names others (x ∷ xs) (y ∷ ys) same zero z at =
    (y, refl, (same.0.name ∙ ap (λ (c : Linked). c.name) (some_is at), same.0.probes ∙ ap (λ (c : Linked). c.probes) (some_is at)))
same_keys names others (x ∷ xs) (y ∷ ys) same (suc i) z at = same_keys names others xs ys same.1 i z at

moved_name : (names others : Names) (xs ys : List Linked) → AreSameClasses names others xs ys → (a b : ℕ) → HaveOneName xs a b → HaveOneName ys a b
moved_name = moved_pair name_of (λ names others xs ys same i x at. let k = same_keys names others xs ys same i x at in (k.0, k.1, ap Some k.2.0))

moved_id : (names others : Names) (xs ys : List Linked) → AreSameClasses names others xs ys → (a b : ℕ) → HaveOneId xs a b → HaveOneId ys a b
moved_id = moved_pair id_of (λ names others xs ys same i x at.
    let k = same_keys names others xs ys same i x at in (k.0, k.1, ap (option_map (λ (p : ProbeInit). p.id)) k.2.1))

-- ---- one refusal

module _ (files : List (List ℕ)) (names others : Names) (xs ys : List Linked) (p : AreLinkedClasses names files xs) (q : AreLinkedClasses others files ys) where
  names_there : (a b : ℕ) → HaveOneName xs a b → HaveOneName ys a b
  names_there = moved_name names others xs ys (same_classes names others files xs ys p q)

  names_back : (a b : ℕ) → HaveOneName ys a b → HaveOneName xs a b
  names_back = moved_name others names ys xs (same_classes others names files ys xs q p)

  ids_there : (a b : ℕ) → HaveOneId xs a b → HaveOneId ys a b
  ids_there = moved_id names others xs ys (same_classes names others files xs ys p q)

  ids_back : (a b : ℕ) → HaveOneId ys a b → HaveOneId xs a b
  ids_back = moved_id others names ys xs (same_classes others names files ys xs q p)

  same_name_pair : (a b c d : ℕ) → IsFirstPair (HaveOneName xs) a b → IsFirstPair (HaveOneName ys) c d → refusals.SameName a b ≡ refusals.SameName c d
  same_name_pair a b c d f g =
      let e = one_pair (HaveOneName xs) (HaveOneName ys) names_there names_back a b c d f g in
      ap₂ (λ (m n : ℕ). refusals.SameName m n) e.0 e.1

  same_id_pair : (a b c d : ℕ) → IsFirstPair (HaveOneId xs) a b → IsFirstPair (HaveOneId ys) c d → refusals.SameId a b ≡ refusals.SameId c d
  same_id_pair a b c d f g =
      let e = one_pair (HaveOneId xs) (HaveOneId ys) ids_there ids_back a b c d f g in
      ap₂ (λ (m n : ℕ). refusals.SameId m n) e.0 e.1

  no_name_pair : (a b : ℕ) → IsFirstPair (HaveOneName xs) a b → NoPair (HaveOneName ys) → ⊥
  no_name_pair a b f none = no_pair (HaveOneName xs) (HaveOneName ys) names_there names_back a b f none

  no_id_pair : (a b : ℕ) → IsFirstPair (HaveOneId xs) a b → NoPair (HaveOneId ys) → ⊥
  no_id_pair a b f none = no_pair (HaveOneId xs) (HaveOneId ys) ids_there ids_back a b f none

pub one_refusal : (files : List (List ℕ)) (r s : LinkRefusal) → IsLinkRefusal files r → IsLinkRefusal files s → r ≡ s
one_refusal files _ _ (refused {index = i} {refusal = r} p) (refused {index = j} {refusal = s} q) =
    let e = same_refused files i j r s p q in
    ap₂ (λ (n : ℕ) (x : Refusal). refusals.Class n x) e.0 e.1
one_refusal files _ _ (refused {index = i} {refusal = r} p) (one_name names classes linked pair) = absurd (refused_or_linked files i r names classes p linked)
one_refusal files _ _ (refused {index = i} {refusal = r} p) (one_id names classes linked none pair) = absurd (refused_or_linked files i r names classes p linked)
one_refusal files _ _ (one_name names classes linked pair) (refused {index = i} {refusal = r} p) = absurd (refused_or_linked files i r names classes p linked)
one_refusal files _ _ (one_name {first = a} {second = b} names xs p f) (one_name {first = c} {second = d} others ys q g) =
    same_name_pair files names others xs ys p q a b c d f g
one_refusal files _ _ (one_name {first = a} {second = b} names xs p f) (one_id others ys q none g) = absurd (no_name_pair files names others xs ys p q a b f none)
one_refusal files _ _ (one_id names classes linked none pair) (refused {index = i} {refusal = r} p) = absurd (refused_or_linked files i r names classes p linked)
one_refusal files _ _ (one_id names xs p none f) (one_name {first = c} {second = d} others ys q g) = absurd (no_name_pair files others names ys xs q p c d g none)
one_refusal files _ _ (one_id {first = a} {second = b} names xs p none f) (one_id {first = c} {second = d} others ys q more g) =
    same_id_pair files names others xs ys p q a b c d f g

pub program_or_refusal : (files : List (List ℕ)) (p : Program) (r : LinkRefusal) → IsProgramOf files p → IsLinkRefusal files r → ⊥
program_or_refusal files p _ is (refused {index = i} {refusal = r} f) = refused_or_linked files i r p.names p.classes f is.classes
program_or_refusal files p _ is (one_name {first = a} {second = b} names xs linked f) =
    no_name_pair files names p.names xs p.classes linked is.classes a b f is.one_each
program_or_refusal files p _ is (one_id {first = a} {second = b} names xs linked none f) =
    no_id_pair files names p.names xs p.classes linked is.classes a b f is.ids

pub same_program : (files : List (List ℕ)) (p q : Program) → IsProgramOf files p → IsProgramOf files q → IsSameProgram p q
same_program files p q a b = same_classes p.names q.names files p.classes q.classes a.classes b.classes
