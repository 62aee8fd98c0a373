-- The names that are met while states are built.
use Rattle.std.proofs.Common.{◌≡◌, ℕ, zero, suc, ◌+◌, ◌-◌, ◌<◌, Bool, true, false, ◌||◌, List, [], ◌∷◌, ◌++◌, length, map, take, get_or, replicate, All, Option, Some, None, IfSome, cond, nat_eq, slice_get, if◌then◌else◌, refl, sym, ◌∙◌, ap, ap₂, subst, arith}
use Rattle.std.proofs.lemmas.Bool.{or_right, eqb-true}
use Rattle.std.proofs.lemmas.Grind.{flat_map-append}
use Rattle.std.proofs.lemmas.List.{append-nil, map-append}
use Rattle.std.proofs.lemmas.Slice.Eq.{bytes_eq-Decides}
use Rattle.std.specs.HashMap.{get, HashMap}
use Rattle.std.specs.List.{list_any}
use Rattle.std.specs.Str.{bytes_eq}
use Rattle.std.proofs.lemmas.Option.{same_Some}
use Rattle.jc_methods.specs.declared.body.FrameAt.{FrameAt}
use Rattle.jc_methods.specs.declared.kind.Kind.{Kind}
use Rattle.jc_methods.specs.declared.kind.Kind.TheVariants as kinds
use Rattle.jc_methods.specs.EntryState.{spread_one, spread, in_locals}
use Rattle.jc_methods.specs.VerificationTypes.{Names, VerificationType, TypeStateAt, top, verification_type, type_state_at, class_name, class_names, Grows, IsNumbered, AreNumberedFrames}
use Rattle.jc_bytes.specs.Names.{with_name, met}
use Rattle.jc_methods.proofs.MetNamesLaws.{met_more}
use Rattle.jc_methods.proofs.SeenLaws.{frames_stay, kinds_stay}
use Rattle.jc_pool.specs.Pool.{PoolValue}
use Rattle.jc_frames.specs.declared.method.Value.{Value}
use Rattle.jc_frames.specs.declared.method.Value.TheVariants as values
use Rattle.jc_frames.specs.declared.running.Frame.{Frame}
use Rattle.jc_frames.specs.declared.running.Running.{Running}
use Rattle.jc_frames.specs.Answers.{seen_names, frame_names}
use Rattle.jc_frames.specs.Building.{AreKnown}
use Rattle.jc_frames.specs.Frames.{Ground}
use Rattle.jc_frames.specs.Running.{name_at, held_value, held_values, IsNumberedValue, found_as}
use Rattle.jc_frames.proofs.BuildingLaws.{take_more}

-- ---- a name that has a number

is_any : (names : Names) (n : ℕ) (name : List ℕ) → slice_get names n ≡ Some name → list_any (bytes_eq name) names ≡ true
is_any [] n name e = absurd cc
is_any (x ∷ names) zero name e =
    let same = (bytes_eq-Decides name x).1 (sym (same_Some x name e)) in
    ap (λ (b : Bool). b || list_any (bytes_eq name) names) same
is_any (x ∷ names) (suc n) name e = or_right (bytes_eq name x) (list_any (bytes_eq name) names) (is_any names n name e)

pub known_name : (names : Names) (n : ℕ) (name : List ℕ) → slice_get names n ≡ Some name → with_name names name ≡ names
known_name names n name e = ap (λ (b : Bool). if b then names else names ++ name ∷ []) (is_any names n name e)

number_there : (names : Names) (n : ℕ) → n < length names → slice_get names n ≡ Some (get_or names n [])
number_there [] n lt = absurd (omega (arith, lt))
number_there (x ∷ names) zero lt = refl
number_there (x ∷ names) (suc n) lt = number_there names n (omega (arith, lt))

-- a numbered kind adds no name
pub none_met : (names : Names) (k : Kind) → IsNumbered (length names) k → met names (class_name (verification_type names k)) ≡ names
none_met names (kinds.Object n) lt = known_name names n (get_or names n []) (number_there names n lt)
none_met names k lt = refl

-- ---- more names change no value

list_head : (x y : VerificationType) (xs ys : List VerificationType) → x ∷ xs ≡ y ∷ ys → x ≡ y
list_head x y xs ys e = cc

value_stays : (pool : PoolValue) (a b : Names) → Grows a b → (v : Value) → IsNumberedValue (length a) v → held_value pool b v ≡ held_value pool a v
value_stays pool a b g (values.Of k) n =
    list_head (verification_type b k) (verification_type a k) [] [] (ap (λ (l : Names). map (verification_type l) (k ∷ [])) g.1 ∙ kinds_stay a g.0 (k ∷ []) (n, tt))
value_stays pool a b g (values.ClassAt place) n = refl

pub values_stay : (pool : PoolValue) (a b : Names) → Grows a b → (vs : List Value) → All (IsNumberedValue (length a)) vs → held_values pool b vs ≡ held_values pool a vs
values_stay pool a b g [] all = refl
values_stay pool a b g (v ∷ vs) all =
    ap₂ (λ (h : VerificationType) (hs : List VerificationType). h ∷ hs) (value_stays pool a b g v (all 0 v (omega arith))) (values_stay pool a b g vs (λ k d lt. all (suc k) d (omega (arith, lt))))

pub one_more_met : (pool : PoolValue) (old mid new : Names) (vs : List Value) (i : ℕ) (d : Value) → i < length vs → Grows mid new → All (IsNumberedValue (length mid)) (take i vs)
    → mid ≡ met old (class_names (held_values pool mid (take i vs))) → new ≡ met mid (class_name (held_value pool new (get_or vs i d)))
    → new ≡ met old (class_names (held_values pool new (take (i + 1) vs)))
one_more_met pool old mid new vs i d lt g all before this =
    let v = get_or vs i d in
    let given = held_values pool new (take i vs) in
    this
    ∙ ap (λ (l : Names). met l (class_name (held_value pool new v))) (before ∙ ap (λ (hs : List VerificationType). met old (class_names hs)) (sym (values_stay pool mid new g (take i vs) all)))
    ∙ sym (met_more old (class_names given) (class_name (held_value pool new v)))
    ∙ ap (met old) (ap (λ (l : Names). class_names given ++ l) (sym (append-nil (class_name (held_value pool new v))))
    ∙ sym (flat_map-append class_name given (held_value pool new v ∷ [])))
    ∙ ap (λ (hs : List VerificationType). met old (class_names hs)) (sym (ap (held_values pool new) (take_more vs i d lt) ∙ map-append (held_value pool new) (take i vs) (v ∷ [])))

-- ---- the names of a frame

one_in_slots : (h : VerificationType) → class_names (spread_one h) ≡ class_name h
one_in_slots top = refl
one_in_slots h = refl

all_in_slots : (hs : List VerificationType) → class_names (spread hs) ≡ class_names hs
all_in_slots [] = refl
all_in_slots (h ∷ hs) = flat_map-append class_name (spread_one h) (spread hs) ∙ ap₂ (λ (a b : Names). a ++ b) (one_in_slots h) (all_in_slots hs)

tops_named : (n : ℕ) → class_names (replicate n top) ≡ []
tops_named zero = refl
tops_named (suc n) = tops_named n

-- the names are those of the values
pub names_in_locals : (count : ℕ) (hs : List VerificationType) → class_names (in_locals count hs) ≡ class_names hs
names_in_locals count hs =
    let rest = count - length (spread hs) in
    flat_map-append class_name (spread hs) (replicate rest top)
    ∙ ap₂ (λ (a b : Names). a ++ b) (all_in_slots hs) (tops_named rest) ∙ append-nil (class_names hs)

pub frame_met : (g : Ground) (old mid new : Names) (running : Running) (frame : Frame) → Grows mid new → All (IsNumberedValue (length mid)) running.values.items
    → mid ≡ met old (class_names (held_values g.pool mid running.values.items)) → new ≡ met mid (class_names (held_values g.pool new frame.stack.items))
    → new ≡ met old (seen_names (found_as g new running frame).frame.state)
frame_met g old mid new running frame grows all locals stack =
    stack
    ∙ ap (λ (l : Names). met l (class_names (held_values g.pool new frame.stack.items)))
    (locals ∙ ap (λ (hs : List VerificationType). met old (class_names hs)) (sym (values_stay g.pool mid new grows running.values.items all)))
    ∙ sym (met_more old (class_names (held_values g.pool new running.values.items)) (class_names (held_values g.pool new frame.stack.items)))
    ∙ ap (λ (l : Names). met old (l ++ class_names (held_values g.pool new frame.stack.items))) (sym (names_in_locals g.max_locals (held_values g.pool new running.values.items)))

-- ---- the names of all frames

pub frames_met : (old mid new : Names) (frames pushed : List FrameAt) (built : FrameAt) → Grows mid new → AreNumberedFrames (length mid) frames
    → pushed ≡ frames ++ built ∷ [] → mid ≡ met old (frame_names (map (type_state_at mid) frames)) → new ≡ met mid (seen_names (type_state_at new built).state)
    → new ≡ met old (frame_names (map (type_state_at new) pushed))
frames_met old mid new frames pushed built grows all is before this =
    let last = seen_names (type_state_at new built).state in
    let stay : map (type_state_at new) frames ≡ map (type_state_at mid) frames = ap (λ (l : Names). map (type_state_at l) frames) grows.1 ∙ frames_stay mid grows.0 frames all in
    this ∙ ap (λ (l : Names). met l last) (before ∙ ap (λ (fs : List TypeStateAt). met old (frame_names fs)) (sym stay))
    ∙ sym (met_more old (frame_names (map (type_state_at new) frames)) last)
    ∙ ap (met old) (ap (λ (l : Names). frame_names (map (type_state_at new) frames) ++ l) (sym (append-nil last))
    ∙ sym (flat_map-append (λ (f : TypeStateAt). seen_names f.state) (map (type_state_at new) frames) (type_state_at new built ∷ [])))
    ∙ ap (λ (fs : List TypeStateAt). met old (frame_names fs)) (sym (ap (map (type_state_at new)) is ∙ map-append (type_state_at new) frames (built ∷ [])))

-- ---- numbers that are known

name_stays : (a b : Names) (n : ℕ) (name : List ℕ) → Grows a b → slice_get a n ≡ Some name → slice_get b n ≡ Some name
name_stays a b n name g e = ap (λ (l : Names). slice_get l n) g.1 ∙ by a n e
  where
    by : (xs : Names) (n : ℕ) → slice_get xs n ≡ Some name → slice_get (xs ++ g.0) n ≡ Some name
    by [] n e = absurd cc
    by (x ∷ xs) zero e = e
    by (x ∷ xs) (suc n) e = by xs n e

module _ {S : Type 0} (pool : PoolValue) where
  pub number_known : (names : Names) (known : HashMap ℕ ℕ S) (place number : ℕ) → AreKnown pool names known → Some number ≡ get nat_eq known place
      → slice_get names number ≡ Some (name_at pool place)
  number_known names known place number are is =
      let Fact : Option ℕ → Type 0 = λ o. IfSome o (λ n. slice_get names n ≡ Some (name_at pool place)) in
      subst Fact (sym is) (are.at place)

  pub known_more : (a b : Names) (known new : HashMap ℕ ℕ S) (place number : ℕ) → Grows a b → AreKnown pool a known → slice_get b number ≡ Some (name_at pool place)
      → ((q : ℕ) → get nat_eq new q ≡ cond (nat_eq place q) (Some number) (get nat_eq known q)) → AreKnown pool b new
  known_more a b known new place number g are is updates = record { at = λ q. subst (Fact q) (sym (updates q)) (by q (nat_eq place q) refl) }
    where
      Fact : ℕ → Option ℕ → Type 0
      Fact q o = IfSome o (λ n. slice_get b n ≡ Some (name_at pool q))

      later : (q : ℕ) (o : Option ℕ) → IfSome o (λ n. slice_get a n ≡ Some (name_at pool q)) → IfSome o (λ n. slice_get b n ≡ Some (name_at pool q))
      later q None h = h
      later q (Some n) h = name_stays a b n (name_at pool q) g h

      by : (q : ℕ) (t : Bool) → nat_eq place q ≡ t → IfSome (cond t (Some number) (get nat_eq known q)) (λ n. slice_get b n ≡ Some (name_at pool q))
      by q true e = is ∙ ap (λ (k : ℕ). Some (name_at pool k)) (eqb-true place q e)
      by q false e = later q (get nat_eq known q) (are.at q)

pub got : (names : Names) (n : ℕ) (name : List ℕ) → slice_get names n ≡ Some name → (n < length names) × (get_or names n [] ≡ name)
got [] n name e = absurd cc
got (x ∷ names) zero name e = (omega arith, same_Some x name e)
got (x ∷ names) (suc n) name e = let g = got names n name e in (let lt = g.0 in omega (arith, lt), g.1)

pub got_later : (a b : Names) (n : ℕ) (name : List ℕ) → Grows a b → slice_get a n ≡ Some name → get_or b n [] ≡ name
got_later a b n name g e =
    let at = got a n name e in
    ap (λ (l : Names). get_or l n []) g.1 ∙ by a n at.0 ∙ at.1
  where
    by : (xs : Names) (n : ℕ) → n < length xs → get_or (xs ++ g.0) n [] ≡ get_or xs n []
    by [] n lt = absurd (omega (arith, lt))
    by (x ∷ xs) zero lt = refl
    by (x ∷ xs) (suc n) lt = by xs n (omega (arith, lt))
