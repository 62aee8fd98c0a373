-- The state in which a method begins, and what fits, shift with the body.
use Rattle.std.proofs.Common.{◌≡◌, inl, inr, ℕ, zero, suc, ◌+◌, ◌-◌, ◌≤◌, Bool, true, false, List, [], ◌∷◌, ◌++◌, length, map, replicate, if◌then◌else◌, refl, sym, ap, ap₂, ◌∙◌, subst, arith, get_or, set, insert}
use Rattle.std.proofs.lemmas.List.{map-append}
use Rattle.std.specs.Prelude.{codes, bytes_eq}
use Rattle.std.specs.List.{AllByRecursion}
use Rattle.jc_bytes.specs.Descriptor.{FieldType, Byte}
use Rattle.jc_methods.specs.DescriptorTypes.{method_type_in}
use Rattle.jc_methods.specs.VerificationTypes.{VerificationType, top, null, uninit_this, object, is_pair}
use Rattle.jc_methods.specs.EntryState.{spread_one, spread, in_locals, held_of, is_static, arguments}
use Rattle.jc_methods.proofs.EntryLaws.{argument_slots}
use Rattle.jc_kinds_after.specs.Step.{clear_before, put_local}
use Rattle.jc_kinds.specs.Fits.{IsObject, IsNullOrObject, Fits, FitEach}
use Rattle.jc_kinds_after.specs.Shift.{renamed, probes}
use Rattle.jc_kinds.specs.StateShift.{FitsShift, EntryShifts}
use Rattle.jc_kinds.proofs.StateShiftLaws.{last_single}

-- ---- fitting

module _ (image : ℕ → ℕ) where
  null_renamed : (h : VerificationType) → IsNullOrObject h → IsNullOrObject (renamed image h)
  null_renamed null p = tt
  null_renamed (object name) p = tt
  null_renamed h p = absurd p

  object_renamed : (h : VerificationType) → IsObject h → IsObject (renamed image h)
  object_renamed (object name) p = tt
  object_renamed h p = absurd p

  fits_renamed : (a b : VerificationType) → Fits a b → Fits (renamed image a) (renamed image b)
  fits_renamed a b (inl e) = inl (ap (renamed image) e)
  fits_renamed a b (inr (inl e)) = inr (inl (ap (renamed image) e))
  fits_renamed a b (inr (inr h)) = inr (inr (null_renamed a h.0, object_renamed b h.1))

  each_renamed : (a b : List VerificationType) → FitEach a b → FitEach (map (renamed image) a) (map (renamed image) b)
  each_renamed [] [] h = tt
  each_renamed [] (y ∷ b) h = absurd h
  each_renamed (x ∷ a) [] h = absurd h
  each_renamed (x ∷ a) (y ∷ b) h = (fits_renamed x y h.0, each_renamed a b h.1)

each_inserted : (v : ℕ) (e : VerificationType) (a b : List VerificationType) → FitEach a b → FitEach (insert a v e) (insert b v e)
each_inserted zero e a b h = (inr (inl refl), h)
each_inserted (suc v) e [] [] h = (inr (inl refl), tt)
each_inserted (suc v) e [] (y ∷ b) h = absurd h
each_inserted (suc v) e (x ∷ a) [] h = absurd h
each_inserted (suc v) e (x ∷ a) (y ∷ b) h = (h.0, each_inserted v e a b h.1)

pub fits_shift : FitsShift
fits_shift image v s t h = record {
  locals = each_inserted v probes (map (renamed image) s.locals) (map (renamed image) t.locals) (each_renamed image s.locals t.locals h.locals);
  stack = each_renamed image s.stack t.stack h.stack;
}

-- ---- the state in which a method begins

set_end : (front rest : List VerificationType) (x y : VerificationType) → set (front ++ x ∷ rest) (length front) y ≡ front ++ y ∷ rest
set_end [] rest x y = refl
set_end (h ∷ front) rest x y = ap (λ (l : List VerificationType). h ∷ l) (set_end front rest x y)

insert_end : (front rest : List VerificationType) (y : VerificationType) → insert (front ++ rest) (length front) y ≡ front ++ y ∷ rest
insert_end [] rest y = refl
insert_end (h ∷ front) rest y = ap (λ (l : List VerificationType). h ∷ l) (insert_end front rest y)

set_same : (l : List VerificationType) (k : ℕ) → set l k (get_or l k top) ≡ l
set_same [] k = refl
set_same (h ∷ l) zero = refl
set_same (h ∷ l) (suc k) = ap (λ (t : List VerificationType). h ∷ t) (set_same l k)

clear_nothing : (k : ℕ) (l : List VerificationType) → ((j : ℕ) → j + 1 ≡ k → is_pair (get_or l j top) ≡ false) → clear_before k l ≡ l
clear_nothing zero l single = refl
clear_nothing (suc k) l single =
    ap (λ (b : Bool). set l k (if b then top else get_or l k top)) (single k (omega arith)) ∙ set_same l k

-- no argument is an object that a `new` made
abbrev Still : (ℕ → ℕ) → VerificationType → Type 0
Still image h = renamed image h ≡ h

module _ (image : ℕ → ℕ) where
  type_still : (type : FieldType) → Still image (held_of type)
  type_still Byte = refl
  type_still type = refl

  types_still : (types : List FieldType) → AllByRecursion (Still image) (map held_of types)
  types_still [] = tt
  types_still (type ∷ types) = (type_still type, types_still types)

  arguments_still : (owner name desc : List ℕ) (flags : ℕ) → AllByRecursion (Still image) (arguments owner name desc flags)
  arguments_still owner name desc flags = by (is_static flags) (bytes_eq name (codes "<init>"))
    where
      this : (c : Bool) → Still image (if c then uninit_this else object owner)
      this true = refl
      this false = refl

      by : (b c : Bool) → AllByRecursion (Still image) ((if b then [] else (if c then uninit_this else object owner) ∷ []) ++ map held_of (method_type_in desc).parameters)
      by true c = types_still (method_type_in desc).parameters
      by false c = (this c, types_still (method_type_in desc).parameters)

  one_still : (h : VerificationType) → Still image h → map (renamed image) (spread_one h) ≡ spread_one h
  one_still h e = by (is_pair h)
    where
      by : (b : Bool) → map (renamed image) (if b then h ∷ top ∷ [] else h ∷ []) ≡ (if b then h ∷ top ∷ [] else h ∷ [])
      by true = ap (λ (x : VerificationType). x ∷ top ∷ []) e
      by false = ap (λ (x : VerificationType). x ∷ []) e

  spread_still : (values : List VerificationType) → AllByRecursion (Still image) values → map (renamed image) (spread values) ≡ spread values
  spread_still [] all = refl
  spread_still (h ∷ values) all = map-append (renamed image) (spread_one h) (spread values) ∙ ap₂ (λ (a b : List VerificationType). a ++ b) (one_still h all.0) (spread_still values all.1)

  tops_still : (n : ℕ) → map (renamed image) (replicate n top) ≡ replicate n top
  tops_still zero = refl
  tops_still (suc n) = ap (λ (l : List VerificationType). top ∷ l) (tops_still n)

  -- with one local variable more, the array of probes is stored behind these values
  abbrev StoresBehind : ℕ → List VerificationType → Type 0
  StoresBehind count values =
      let slots = length (spread values) in
      put_local slots probes (in_locals (count + 1) values) ≡ insert (map (renamed image) (in_locals count values)) slots probes

  stored_behind : (count : ℕ) (values : List VerificationType) → AllByRecursion (Still image) values → length (spread values) ≤ count → StoresBehind count values
  stored_behind count values all le =
      let front = spread values in
      let room = count - length front in
      let more : count + 1 - length front ≡ suc room = omega (arith, le) in
      ap (λ (n : ℕ). put_local (length front) probes (front ++ replicate n top)) more
      ∙ ap (λ (l : List VerificationType). set l (length front) probes) (clear_nothing (length front) (front ++ top ∷ replicate room top) (λ j e. last_single values (top ∷ replicate room top) j e))
      ∙ set_end front (replicate room top) top probes
      ∙ sym (
      ap (λ (l : List VerificationType). insert l (length front) probes)
      (map-append (renamed image) front (replicate room top) ∙ ap₂ (λ (a b : List VerificationType). a ++ b) (spread_still values all) (tops_still room))
      ∙ insert_end front (replicate room top) probes)

pub entry_shifts : EntryShifts
entry_shifts image b w =
    let values = arguments b.owner b.name b.desc b.flags in
    let slots = argument_slots b.owner b.name b.desc b.flags b.arg_slots w.arguments in
    let fit = w.arguments_fit in
    subst (λ (v : ℕ). put_local v probes (in_locals (b.max_locals + 1) values) ≡ insert (map (renamed image) (in_locals b.max_locals values)) v probes) slots
    (stored_behind image b.max_locals values (arguments_still image b.owner b.name b.desc b.flags) (omega (arith, slots, fit)))
