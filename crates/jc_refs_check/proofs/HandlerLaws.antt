-- Handlers whose frames references suit, by the objects in each local variable and by what is caught.
use Rattle.std.proofs.Common.{◌≡◌, inl, inr, ℕ, zero, suc, ◌<◌, Bool, true, false, ◌||◌, List, [], ◌∷◌, length, map, get_or, Option, Some, None, refl, sym, ◌∙◌, ap, subst, arith, if◌then◌else◌}
use Rattle.std.specs.Str.{bytes_eq}
use Rattle.std.proofs.lemmas.Bool.{true≢false}
use Rattle.std.proofs.lemmas.List.{length-map}
use Rattle.jc_methods.specs.declared.kind.Kind.{Kind}
use Rattle.jc_methods.specs.declared.kind.Kind.TheVariants as kinds
use Rattle.jc_methods.specs.declared.kind.State.{State}
use Rattle.jc_methods.specs.declared.body.Body.{Body}
use Rattle.jc_methods.specs.declared.body.Handler.{Handler}
use Rattle.jc_methods.specs.VerificationTypes.{Names, VerificationType, TypeState, verification_type, type_state, AreNumberedFrames, Grows}
use Rattle.jc_methods.specs.VerificationTypes as verification
use Rattle.jc_methods.proofs.NumberedLaws.{seen_grown}
use Rattle.jc_kinds.specs.Fits.{Fits, FitEach, FitsThere}
use Rattle.jc_kinds.specs.States.{state_of}
use Rattle.jc_kinds.specs.Checked.{Checked, Guards, at_handler}
use Rattle.jc_kinds.specs.Frames.{frame_in}
use Rattle.jc_kinds.specs.Guarded.{local_at}
use Rattle.jc_kinds.proofs.FrameLaws.{frame_numbered}
use Rattle.jc_kinds.proofs.WalkLaws.{frame_is}
use Rattle.jc_kinds.specs.Flows.{EachBy}
use Rattle.jc_refs_check.specs.Suits.{object_class, is_throwable_below, class_suits, suits, SuitsAsReference}
use Rattle.jc_refs_check.specs.RefsOk.{HandlerSuits}
use Rattle.jc_refs_check.specs.Classes.{name_at}
use Rattle.jc_refs_check.specs.Unguarded.{object_of, class_at, IsUnsuited, wanted_of, FrameTakes}
use Rattle.jc_refs_check.proofs.SuitLaws.{suits_itself}

-- ---- types one by one

each_from : (S : VerificationType → VerificationType → Type 0) (xs ys : List VerificationType) → length xs ≡ length ys
    → ((k : ℕ) → k < length xs → S (get_or xs k verification.top) (get_or ys k verification.top)) → EachBy S xs ys
each_from S [] [] same each = tt
each_from S [] (y ∷ ys) same each = absurd (omega (arith, same))
each_from S (x ∷ xs) [] same each = absurd (omega (arith, same))
each_from S (x ∷ xs) (y ∷ ys) same each = (each 0 (omega arith), each_from S xs ys (omega (arith, same)) (λ k lt. each (suc k) (omega (arith, lt))))

each_at : (S : VerificationType → VerificationType → Type 0) (xs ys : List VerificationType) → EachBy S xs ys → (k : ℕ) → k < length xs
    → S (get_or xs k verification.top) (get_or ys k verification.top)
each_at S [] ys all k lt = absurd (omega (arith, lt))
each_at S (x ∷ xs) [] all k lt = absurd all
each_at S (x ∷ xs) (y ∷ ys) all zero lt = all.0
each_at S (x ∷ xs) (y ∷ ys) all (suc k) lt = each_at S xs ys all.1 k (omega (arith, lt))

fit_by : (xs ys : List VerificationType) → FitEach xs ys → EachBy Fits xs ys
fit_by [] [] fit = tt
fit_by [] (y ∷ ys) fit = absurd fit
fit_by (x ∷ xs) [] fit = absurd fit
fit_by (x ∷ xs) (y ∷ ys) fit = (fit.0, fit_by xs ys fit.1)

fit_long : (xs ys : List VerificationType) → FitEach xs ys → length xs ≡ length ys
fit_long [] [] fit = refl
fit_long [] (y ∷ ys) fit = absurd fit
fit_long (x ∷ xs) [] fit = absurd fit
fit_long (x ∷ xs) (y ∷ ys) fit = ap suc (fit_long xs ys fit.1)

-- what is in a local variable
local_held : (names : Names) (xs : List Kind) (k : ℕ) → get_or (map (verification_type names) xs) k verification.top ≡ verification_type names (get_or xs k kinds.Top)
local_held names [] k = refl
local_held names (x ∷ xs) zero = refl
local_held names (x ∷ xs) (suc k) = local_held names xs k

-- ---- one local variable

-- where types fit, a reference suits unless it is an object of a class that doesn't suit
suits_slot : (names : Names) (a w : Kind) → Fits (verification_type names a) (verification_type names w)
    → ((n m : ℕ) → a ≡ kinds.Object n → w ≡ kinds.Object m → class_suits (name_at names n) (name_at names m) ≡ true)
    → SuitsAsReference (verification_type names a) (verification_type names w)
suits_slot names a w (inl top) both is = subst (λ h. suits (verification_type names a) h ≡ true) (sym top) refl
suits_slot names a w (inr (inl same)) both is = subst (λ h. suits (verification_type names a) h ≡ true) same (suits_itself (verification_type names a) is)
suits_slot names kinds.Null (kinds.Object m) (inr (inr f)) both is = refl
suits_slot names (kinds.Object n) (kinds.Object m) (inr (inr f)) both is = both n m refl refl
suits_slot names kinds.Null kinds.Top (inr (inr f)) both is = absurd f.1
suits_slot names kinds.Null kinds.Int (inr (inr f)) both is = absurd f.1
suits_slot names kinds.Null kinds.Float (inr (inr f)) both is = absurd f.1
suits_slot names kinds.Null kinds.Double (inr (inr f)) both is = absurd f.1
suits_slot names kinds.Null kinds.Long (inr (inr f)) both is = absurd f.1
suits_slot names kinds.Null kinds.Null (inr (inr f)) both is = absurd f.1
suits_slot names kinds.Null kinds.UninitThis (inr (inr f)) both is = absurd f.1
suits_slot names kinds.Null (kinds.Uninit at) (inr (inr f)) both is = absurd f.1
suits_slot names (kinds.Object n) kinds.Top (inr (inr f)) both is = absurd f.1
suits_slot names (kinds.Object n) kinds.Int (inr (inr f)) both is = absurd f.1
suits_slot names (kinds.Object n) kinds.Float (inr (inr f)) both is = absurd f.1
suits_slot names (kinds.Object n) kinds.Double (inr (inr f)) both is = absurd f.1
suits_slot names (kinds.Object n) kinds.Long (inr (inr f)) both is = absurd f.1
suits_slot names (kinds.Object n) kinds.Null (inr (inr f)) both is = absurd f.1
suits_slot names (kinds.Object n) kinds.UninitThis (inr (inr f)) both is = absurd f.1
suits_slot names (kinds.Object n) (kinds.Uninit at) (inr (inr f)) both is = absurd f.1
suits_slot names a w (inr (inr f)) both is = absurd f.0

object_suits : (name other : List ℕ) → bytes_eq other object_class ≡ true → class_suits name other ≡ true
unfolding class_suits
object_suits name other e = by (bytes_eq name other)
  where
    by : (b : Bool) → (b || (bytes_eq other object_class || is_throwable_below name other)) ≡ true
    by true = refl
    by false = ap (λ (b : Bool). b || is_throwable_below name other) e

-- no object of the local variable doesn't suit the class that is wanted
abbrev pub NoneUnsuited : Names → Kind → Kind → Type 0
NoneUnsuited names a w = (want : ℕ) → wanted_of names (object_of w) ≡ Some want → IsUnsuited names (object_of a) want → ⊥

slot_suits : (names : Names) (a w : Kind) → Fits (verification_type names a) (verification_type names w) → NoneUnsuited names a w
    → SuitsAsReference (verification_type names a) (verification_type names w)
slot_suits names a w fit none = suits_slot names a w fit (λ n m an wm.
    by n m an wm (bytes_eq (name_at names m) object_class) refl)
  where
    by : (n m : ℕ) → a ≡ kinds.Object n → w ≡ kinds.Object m → (b : Bool) → bytes_eq (name_at names m) object_class ≡ b
        → class_suits (name_at names n) (name_at names m) ≡ true
    by n m an wm true q = object_suits (name_at names n) (name_at names m) q
    by n m an wm false q = decide (class_suits (name_at names n) (name_at names m)) refl
      where
        wanted : wanted_of names (object_of w) ≡ Some m
        wanted = ap (λ k. wanted_of names (object_of k)) wm ∙ ap (λ (b : Bool). if b then None else Some m) q

        decide : (b : Bool) → class_suits (name_at names n) (name_at names m) ≡ b → b ≡ true
        decide true e = refl
        decide false e = absurd (none m wanted (subst (λ k. IsUnsuited names (object_of k) m) (sym an) e))

-- the other way round
slot_fails : (names : Names) (a w : Kind) (want : ℕ) → wanted_of names (object_of w) ≡ Some want → IsUnsuited names (object_of a) want
    → SuitsAsReference (verification_type names a) (verification_type names w) → ⊥
slot_fails names (kinds.Object n) (kinds.Object m) want wanted unsuited suit = by (bytes_eq (name_at names m) object_class) wanted
  where
    by : (b : Bool) → (if b then None else Some m) ≡ Some want → ⊥
    by true e = cc
    by false e = let same : m ≡ want = cc in true≢false (sym (suit refl) ∙ subst (λ k. class_suits (name_at names n) (name_at names k) ≡ false) (sym same) unsuited)
slot_fails names (kinds.Object n) kinds.Top want wanted unsuited suit = cc
slot_fails names (kinds.Object n) kinds.Int want wanted unsuited suit = cc
slot_fails names (kinds.Object n) kinds.Float want wanted unsuited suit = cc
slot_fails names (kinds.Object n) kinds.Double want wanted unsuited suit = cc
slot_fails names (kinds.Object n) kinds.Long want wanted unsuited suit = cc
slot_fails names (kinds.Object n) kinds.Null want wanted unsuited suit = cc
slot_fails names (kinds.Object n) kinds.UninitThis want wanted unsuited suit = cc
slot_fails names (kinds.Object n) (kinds.Uninit at) want wanted unsuited suit = cc
slot_fails names a w want wanted unsuited suit = true≢false (sym unsuited)

-- ---- one handler

module _ (old names : Names) (b : Body) (h : Handler) (i : ℕ) (s f : State) (checked : Checked old b) (grown : Grows old names)
    (frames : AreNumberedFrames (length old) b.frames) (guards : Guards b h i) (lt : i < length b.code) (here : state_of old b i ≡ Some (type_state names s))
    (at : frame_in b.frames h.target ≡ Some f) where
  there : state_of old b h.target ≡ Some (type_state names f)
  there = frame_is old b h.target f at ∙ ap Some (sym (seen_grown old names f grown (frame_numbered (length old) b.frames frames h.target f at)))

  fits_handler : FitEach (map (verification_type names) s.locals) (map (verification_type names) f.locals)
  fits_handler = (subst (λ (o : Option TypeState). FitsThere (at_handler b h o) (Some (type_state names f))) here
      (subst (FitsThere (at_handler b h (state_of old b i))) there (checked.handlers h i guards lt))).locals

  pub handler_suits : ((slot : ℕ) → slot < length s.locals → NoneUnsuited names (local_at slot s) (local_at slot f)) → FrameTakes names b h (Some f)
      → HandlerSuits b h (state_of old b i) (state_of old b h.target)
  handler_suits each takes = subst (λ (o : Option TypeState). HandlerSuits b h o (state_of old b h.target)) (sym here)
      (subst (HandlerSuits b h (Some (type_state names s))) (sym there) (locals, takes))
    where
      locals : EachBy SuitsAsReference (map (verification_type names) s.locals) (map (verification_type names) f.locals)
      locals = each_from SuitsAsReference (map (verification_type names) s.locals) (map (verification_type names) f.locals)
          (fit_long (map (verification_type names) s.locals) (map (verification_type names) f.locals) fits_handler)
          (λ k room.
          let fit = each_at Fits (map (verification_type names) s.locals) (map (verification_type names) f.locals)
          (fit_by (map (verification_type names) s.locals) (map (verification_type names) f.locals) fits_handler) k room in
          let inside : k < length s.locals = omega (arith, room, length-map s.locals (verification_type names)) in
          subst (λ x. SuitsAsReference x (get_or (map (verification_type names) f.locals) k verification.top)) (sym (local_held names s.locals k))
          (subst (SuitsAsReference (verification_type names (local_at k s))) (sym (local_held names f.locals k))
          (slot_suits names (local_at k s) (local_at k f)
          (subst (λ x. Fits x (verification_type names (local_at k f))) (local_held names s.locals k)
          (subst (Fits (get_or (map (verification_type names) s.locals) k verification.top)) (local_held names f.locals k) fit)) (each k inside))))

  pub handler_takes : HandlerSuits b h (state_of old b i) (state_of old b h.target) → FrameTakes names b h (Some f)
  handler_takes suit = (subst (λ (o : Option TypeState). HandlerSuits b h o (Some (type_state names f))) here
      (subst (HandlerSuits b h (state_of old b i)) there suit)).1

  pub handler_fails : (slot want : ℕ) → slot < length s.locals → wanted_of names (class_at slot f) ≡ Some want → IsUnsuited names (class_at slot s) want
      → HandlerSuits b h (state_of old b i) (state_of old b h.target) → ⊥
  handler_fails slot want room wanted unsuited suit =
      let all = (subst (λ (o : Option TypeState). HandlerSuits b h o (Some (type_state names f))) here
      (subst (HandlerSuits b h (state_of old b i)) there suit)).0 in
      let long : length (map (verification_type names) s.locals) ≡ length s.locals = length-map s.locals (verification_type names) in
      let one = each_at SuitsAsReference (map (verification_type names) s.locals) (map (verification_type names) f.locals) all slot (omega (arith, room, long)) in
      slot_fails names (local_at slot s) (local_at slot f) want wanted unsuited
      (subst (λ x. SuitsAsReference x (verification_type names (local_at slot f))) (local_held names s.locals slot)
      (subst (SuitsAsReference (get_or (map (verification_type names) s.locals) slot verification.top)) (local_held names f.locals slot) one))
