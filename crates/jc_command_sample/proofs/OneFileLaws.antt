-- One class file alone: it is linked, or it is refused for a reason of its own.
use Rattle.std.proofs.Common.{◌≡◌, ℕ, zero, suc, ◌<◌, List, [], ◌∷◌, Option, Some, slice_get, refl, sym, subst, arith}
use Rattle.std.proofs.lemmas.Option.{none-some, same_Some}
use Rattle.jc_bytes.specs.declared.fail.Fail.{Fail}
use Rattle.jc_bytes.specs.declared.fail.Fail.TheVariants as fails
use Rattle.jc_bytes.specs.declared.refusal.Refusal.{Refusal}
use Rattle.jc_bytes.specs.Failing.{Said}
use Rattle.jc_methods.specs.VerificationTypes.{Names}
use Rattle.jc_programs.specs.declared.program.Linked.{Linked}
use Rattle.jc_link_programs.specs.declared.link_refusal.LinkRefusal.{LinkRefusal}
use Rattle.jc_link_programs.specs.declared.link_refusal.LinkRefusal.TheVariants as refusals
use Rattle.jc_link_programs.specs.Linking.{AreLinkedClasses, LinkReason, IsLinkRefusal, refused, one_name, one_id}
use Rattle.jc_link_programs.specs.Pairs.{HaveOne}

module _ (bytes : List ℕ) where
  -- it is the only one
  only_one : (other : List ℕ) (i : ℕ) → slice_get (bytes ∷ []) i ≡ Some other → other ≡ bytes
  only_one other zero is = sym (same_Some bytes other is)
  only_one other (suc i) is = absurd (none-some other is)

  -- it has no other with which it may clash
  no_pair : (names : Names) (classes : List Linked) {K : Type 0} (key : Linked → Option K) (first second : ℕ) → AreLinkedClasses names (bytes ∷ []) classes
      → HaveOne key classes first second → first < second → ⊥
  no_pair names [] key first second are pair less = are
  no_pair names (c ∷ d ∷ classes) key first second are pair less = are.1
  no_pair names (c ∷ []) key first zero are pair less = omega (arith, less)
  no_pair names (c ∷ []) key first (suc second) are pair less = none-some pair.b pair.second_is

  -- why the list of it isn't linked is a reason of its own
  abbrev IsOwn : LinkRefusal → Type 0
  IsOwn (refusals.Class index why) = LinkReason bytes (Some why)
  IsOwn (refusals.SameName first second) = ⊥
  IsOwn (refusals.SameId first second) = ⊥

  own : (r : LinkRefusal) → IsLinkRefusal (bytes ∷ []) r → IsOwn r
  own _ (refused {index = i} {refusal = why} first) = subst (λ (t : List ℕ). LinkReason t (Some why)) (only_one first.bytes i first.stands) first.reason
  own _ (one_name {first = a} {second = b} names classes are pair) = no_pair names classes _ a b are pair.there pair.ordered
  own _ (one_id {first = a} {second = b} names classes are none pair) = no_pair names classes _ a b are pair.there pair.ordered

  pub class_reason : (index : ℕ) (why : Refusal) → IsLinkRefusal (bytes ∷ []) (refusals.Class index why) → LinkReason bytes (Some why)
  class_reason index why is = own (refusals.Class index why) is

  pub no_names : (first second : ℕ) → IsLinkRefusal (bytes ∷ []) (refusals.SameName first second) → ⊥
  no_names first second is = own (refusals.SameName first second) is

  pub no_ids : (first second : ℕ) → IsLinkRefusal (bytes ∷ []) (refusals.SameId first second) → ⊥
  no_ids first second is = own (refusals.SameId first second) is

  pub alone_refused : (r : LinkRefusal) → IsLinkRefusal (bytes ∷ []) r → (why : Refusal) × LinkReason bytes (Some why)
  alone_refused (refusals.Class index why) is = (why, class_reason index why is)
  alone_refused (refusals.SameName first second) is = absurd (no_names first second is)
  alone_refused (refusals.SameId first second) is = absurd (no_ids first second is)

  pub refuses_alone : (why : Refusal) → LinkReason bytes (Some why) → IsLinkRefusal (bytes ∷ []) (refusals.Class 0 why)
  refuses_alone why reason = refused (record { bytes = bytes; stands = refl; reason = reason; linked = λ k before less is. absurd (omega (arith, less)) })

  -- what is said of the list of it
  pub said_reason : (files : List (List ℕ)) (e : Fail LinkRefusal) (r : LinkRefusal) (index : ℕ) (why : Refusal) → files ≡ bytes ∷ [] → e ≡ fails.Said r → r ≡ refusals.Class index why
      → Said e (IsLinkRefusal files) → LinkReason bytes (Some why)
  said_reason files e r index why only is same said =
      let refuses = subst (λ (x : Fail LinkRefusal). Said x (IsLinkRefusal files)) is said in
      class_reason index why (subst (λ (l : List (List ℕ)). IsLinkRefusal l (refusals.Class index why)) only (subst (IsLinkRefusal files) same refuses))
