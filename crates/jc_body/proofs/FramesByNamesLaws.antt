-- Frames with classes by their numbers, and the same with classes by their names.
use Rattle.std.proofs.Common.{◌≡◌, ℕ, zero, suc, ◌+◌, ◌<◌, Bool, true, false, ◌||◌, List, [], ◌∷◌, ◌++◌, length, map, get_or, refl, sym, ◌∙◌, ap, ap₂, arith, if◌then◌else◌}
use Rattle.std.proofs.lemmas.Slice.Eq.{bytes_eq-Decides}
use Rattle.std.proofs.lemmas.Bool.{true≢false}
use Rattle.std.specs.List.{list_any, AllByRecursion, IsDistinct}
use Rattle.std.specs.Str.{bytes_eq}
use Rattle.jc_methods.specs.declared.kind.Kind.{Kind}
use Rattle.jc_methods.specs.declared.kind.Kind.TheVariants as kinds
use Rattle.jc_methods.specs.declared.kind.State.{State}
use Rattle.jc_methods.specs.declared.body.FrameAt.{FrameAt}
use Rattle.jc_bytes.specs.Names.{with_name}
use Rattle.jc_methods.specs.VerificationTypes.{Names, VerificationType, top, int, float, double, long, null, uninit_this, object, uninit, TypeState, TypeStateAt, verification_type, type_state_at, IsNumbered, IsNumberedState, AreNumberedFrames}

-- ---- the number of a name

-- where the name stands first
abbrev number_of : List ℕ → Names → ℕ
number_of name [] = 0
number_of name (x ∷ names) = if bytes_eq x name then 0 else 1 + number_of name names

same_text : (x : List ℕ) → bytes_eq x x ≡ true
same_text x = (bytes_eq-Decides x x).1 refl

unlike : (x : List ℕ) (names : Names) (n : ℕ) → AllByRecursion (λ y. bytes_eq x y ≡ false) names → n < length names → bytes_eq x (get_or names n []) ≡ false
unlike x [] n all lt = absurd (omega (arith, lt))
unlike x (y ∷ names) zero all lt = all.0
unlike x (y ∷ names) (suc n) all lt = unlike x names n all.1 (omega (arith, lt))

number_again : (names : Names) → IsDistinct bytes_eq names → (n : ℕ) → n < length names → number_of (get_or names n []) names ≡ n
unfolding IsDistinct
number_again [] d n lt = absurd (omega (arith, lt))
number_again (x ∷ names) d zero lt = ap (λ (b : Bool). if b then 0 else 1 + number_of x names) (same_text x)
number_again (x ∷ names) d (suc n) lt =
    let rest = number_again names d.1 n (omega (arith, lt)) in
    ap (λ (b : Bool). if b then 0 else 1 + number_of (get_or names n []) names) (unlike x names n d.0 (omega (arith, lt))) ∙ omega (arith, rest)

-- ---- one numbering

abbrev kind_of : Names → VerificationType → Kind
kind_of names top = kinds.Top
kind_of names int = kinds.Int
kind_of names float = kinds.Float
kind_of names double = kinds.Double
kind_of names long = kinds.Long
kind_of names null = kinds.Null
kind_of names uninit_this = kinds.UninitThis
kind_of names (object name) = kinds.Object (number_of name names)
kind_of names (uninit at) = kinds.Uninit at

abbrev state_of : Names → TypeState → State
state_of names s = record { locals = map (kind_of names) s.locals; stack = map (kind_of names) s.stack }

abbrev frame_of : Names → TypeStateAt → FrameAt
frame_of names f = record { at = f.at; state = state_of names f.state }

module _ (names : Names) (distinct : IsDistinct bytes_eq names) where
  kind_again : (k : Kind) → IsNumbered (length names) k → kind_of names (verification_type names k) ≡ k
  kind_again (kinds.Object n) lt = ap kinds.Object (number_again names distinct n lt)
  kind_again k lt = refl

  kinds_again : (ks : List Kind) → AllByRecursion (IsNumbered (length names)) ks → map (kind_of names) (map (verification_type names) ks) ≡ ks
  kinds_again [] all = refl
  kinds_again (k ∷ ks) all = ap₂ (λ (x : Kind) (xs : List Kind). x ∷ xs) (kind_again k all.0) (kinds_again ks all.1)

  frame_again : (f : FrameAt) → IsNumberedState (length names) f.state → frame_of names (type_state_at names f) ≡ f
  frame_again f n = λ i. record { at = f.at; state = record { locals = kinds_again f.state.locals n.locals i; stack = kinds_again f.state.stack n.stack i } }

  frames_again : (frames : List FrameAt) → AreNumberedFrames (length names) frames → map (frame_of names) (map (type_state_at names) frames) ≡ frames
  frames_again [] all = refl
  frames_again (f ∷ frames) all = ap₂ (λ (x : FrameAt) (xs : List FrameAt). x ∷ xs) (frame_again f all.0) (frames_again frames all.1)

-- where no two names are equal, frames that are the same by names are the same by numbers
pub one_numbering : (names : Names) → IsDistinct bytes_eq names → (a b : List FrameAt) → AreNumberedFrames (length names) a
    → AreNumberedFrames (length names) b → map (type_state_at names) a ≡ map (type_state_at names) b → a ≡ b
one_numbering names distinct a b p q same = sym (frames_again names distinct a p) ∙ ap (map (frame_of names)) same ∙ frames_again names distinct b q

-- ---- some numbering

abbrev class_of : VerificationType → List (List ℕ)
class_of (object name) = name ∷ []
class_of _ = []

abbrev classes_of : List VerificationType → List (List ℕ)
classes_of [] = []
classes_of (h ∷ hs) = class_of h ++ classes_of hs

abbrev frame_classes : List TypeStateAt → List (List ℕ)
frame_classes [] = []
frame_classes (f ∷ frames) = (classes_of f.state.locals ++ classes_of f.state.stack) ++ frame_classes frames

-- each of them once
abbrev gathered : List (List ℕ) → Names
gathered [] = []
gathered (name ∷ more) = with_name (gathered more) name

abbrev IsThere : Names → List ℕ → Type 0
IsThere names name = list_any (bytes_eq name) names ≡ true

there_behind : (name : List ℕ) (names more : Names) → IsThere names name → IsThere (names ++ more) name
there_behind name [] more e = cc
there_behind name (x ∷ names) more e = by (there_behind name names more) (bytes_eq name x) refl
  where
    by : (IsThere names name → IsThere (names ++ more) name) → (b : Bool) → bytes_eq name x ≡ b → IsThere (x ∷ (names ++ more)) name
    by behind true same = ap (λ (c : Bool). c || list_any (bytes_eq name) (names ++ more)) same
    by behind false other =
        let later : IsThere names name = sym (ap (λ (c : Bool). c || list_any (bytes_eq name) names) other) ∙ e in
        ap (λ (c : Bool). c || list_any (bytes_eq name) (names ++ more)) other ∙ behind later

there_last : (name : List ℕ) (names : Names) → IsThere (names ++ name ∷ []) name
there_last name [] = ap (λ (c : Bool). c || false) (same_text name)
there_last name (x ∷ names) = by (there_last name names) (bytes_eq name x) refl
  where
    by : IsThere (names ++ name ∷ []) name → (b : Bool) → bytes_eq name x ≡ b → IsThere (x ∷ (names ++ name ∷ [])) name
    by last true same = ap (λ (c : Bool). c || list_any (bytes_eq name) (names ++ name ∷ [])) same
    by last false other = ap (λ (c : Bool). c || list_any (bytes_eq name) (names ++ name ∷ [])) other ∙ last

stays_there : (name other : List ℕ) (names : Names) → IsThere names name → IsThere (with_name names other) name
stays_there name other names e = by (list_any (bytes_eq other) names)
  where
    by : (b : Bool) → IsThere (if b then names else names ++ other ∷ []) name
    by true = e
    by false = there_behind name names (other ∷ []) e

is_there : (name : List ℕ) (names : Names) → IsThere (with_name names name) name
is_there name names = by (list_any (bytes_eq name) names) refl
  where
    by : (b : Bool) → list_any (bytes_eq name) names ≡ b → IsThere (if b then names else names ++ name ∷ []) name
    by true e = e
    by false e = there_last name names

all_stay : (other : List ℕ) (names : Names) (wanted : List (List ℕ)) → AllByRecursion (IsThere names) wanted → AllByRecursion (IsThere (with_name names other)) wanted
all_stay other names [] all = tt
all_stay other names (name ∷ wanted) all = (stays_there name other names all.0, all_stay other names wanted all.1)

all_there : (wanted : List (List ℕ)) → AllByRecursion (IsThere (gathered wanted)) wanted
all_there [] = tt
all_there (name ∷ wanted) = (is_there name (gathered wanted), all_stay name (gathered wanted) wanted (all_there wanted))

-- a new name goes last, behind others that are unlike it
unlike_last : (x other : List ℕ) (names : Names) → AllByRecursion (λ y. bytes_eq x y ≡ false) names → bytes_eq x other ≡ false → AllByRecursion (λ y. bytes_eq x y ≡ false) (names ++ other ∷ [])
unlike_last x other [] all no_other = (no_other, tt)
unlike_last x other (y ∷ names) all no_other = (all.0, unlike_last x other names all.1 no_other)

turned : (a b : List ℕ) → bytes_eq a b ≡ false → bytes_eq b a ≡ false
turned a b e = by (bytes_eq b a) refl
  where
    by : (c : Bool) → bytes_eq b a ≡ c → c ≡ false
    by false is = refl
    by true is = sym (same_text a) ∙ ap (bytes_eq a) (sym ((bytes_eq-Decides b a).0 is)) ∙ e

not_first : (name x : List ℕ) (names : Names) → list_any (bytes_eq name) (x ∷ names) ≡ false → (bytes_eq name x ≡ false) × (list_any (bytes_eq name) names ≡ false)
not_first name x names e = by (bytes_eq name x) refl e
  where
    by : (c : Bool) → bytes_eq name x ≡ c → c || list_any (bytes_eq name) names ≡ false → (c ≡ false) × (list_any (bytes_eq name) names ≡ false)
    by true is f = absurd (true≢false f)
    by false is f = (refl, f)

distinct_last : (name : List ℕ) (names : Names) → IsDistinct bytes_eq names → list_any (bytes_eq name) names ≡ false → IsDistinct bytes_eq (names ++ name ∷ [])
unfolding IsDistinct
distinct_last name [] d e = (tt, tt)
distinct_last name (x ∷ names) d e = let parts = not_first name x names e in (unlike_last x name names d.0 (turned name x parts.0), distinct_last name names d.1 parts.1)

distinct_with : (name : List ℕ) (names : Names) → IsDistinct bytes_eq names → IsDistinct bytes_eq (with_name names name)
distinct_with name names d = by (list_any (bytes_eq name) names) refl
  where
    by : (b : Bool) → list_any (bytes_eq name) names ≡ b → IsDistinct bytes_eq (if b then names else names ++ name ∷ [])
    by true e = d
    by false e = distinct_last name names d e

gathered_once : (wanted : List (List ℕ)) → IsDistinct bytes_eq (gathered wanted)
unfolding IsDistinct
gathered_once [] = tt
gathered_once (name ∷ wanted) = distinct_with name (gathered wanted) (gathered_once wanted)

-- the name at its number
record IsAt (names : Names) (name : List ℕ) : Type 0 where
  within : number_of name names < length names
  is : get_or names (number_of name names) [] ≡ name

at_number : (name : List ℕ) (names : Names) → IsThere names name → IsAt names name
at_number name [] e = cc
at_number name (x ∷ names) e = by (at_number name names) (bytes_eq x name) refl
  where
    by : (IsThere names name → IsAt names name) → (b : Bool) → bytes_eq x name ≡ b → IsAt (x ∷ names) name
    by rest true same =
        let zero_is : number_of name (x ∷ names) ≡ 0 = ap (λ (c : Bool). if c then 0 else 1 + number_of name names) same in
        record { within = omega (arith, zero_is); is = ap (λ n. get_or (x ∷ names) n []) zero_is ∙ (bytes_eq-Decides x name).0 same }
    by rest false other =
        let next : number_of name (x ∷ names) ≡ suc (number_of name names) = ap (λ (c : Bool). if c then 0 else 1 + number_of name names) other ∙ omega arith in
        let later = rest (sym (ap (λ (c : Bool). c || list_any (bytes_eq name) names) (turned x name other)) ∙ e) in
        let less = later.within in
        record { within = omega (arith, next, less); is = ap (λ n. get_or (x ∷ names) n []) next ∙ later.is }

module _ (names : Names) where
  abbrev HasNames : List (List ℕ) → Type 0
  HasNames = AllByRecursion (IsThere names)

  first_have : (xs ys : List (List ℕ)) → HasNames (xs ++ ys) → HasNames xs
  first_have [] ys all = tt
  first_have (x ∷ xs) ys all = (all.0, first_have xs ys all.1)

  last_have : (xs ys : List (List ℕ)) → HasNames (xs ++ ys) → HasNames ys
  last_have [] ys all = all
  last_have (x ∷ xs) ys all = last_have xs ys all.1

  held_again : (h : VerificationType) → HasNames (class_of h) → verification_type names (kind_of names h) ≡ h
  held_again (object name) all = ap object (at_number name names all.0).is
  held_again h all = refl

  numbered : (h : VerificationType) → HasNames (class_of h) → IsNumbered (length names) (kind_of names h)
  numbered (object name) all = (at_number name names all.0).within
  numbered h all = tt

  each_again : (hs : List VerificationType) → HasNames (classes_of hs) → map (verification_type names) (map (kind_of names) hs) ≡ hs
  each_again [] all = refl
  each_again (h ∷ hs) all = ap₂ (λ (x : VerificationType) (xs : List VerificationType). x ∷ xs)
      (held_again h (first_have (class_of h) (classes_of hs) all)) (each_again hs (last_have (class_of h) (classes_of hs) all))

  each_numbered : (hs : List VerificationType) → HasNames (classes_of hs) → AllByRecursion (IsNumbered (length names)) (map (kind_of names) hs)
  each_numbered [] all = tt
  each_numbered (h ∷ hs) all = (numbered h (first_have (class_of h) (classes_of hs) all), each_numbered hs (last_have (class_of h) (classes_of hs) all))

  seen_again : (frames : List TypeStateAt) → HasNames (frame_classes frames) → map (type_state_at names) (map (frame_of names) frames) ≡ frames
  seen_again [] all = refl
  seen_again (f ∷ frames) all =
      let locals = classes_of f.state.locals in
      let stack = classes_of f.state.stack in
      let here = first_have (locals ++ stack) (frame_classes frames) all in
      let first = each_again f.state.locals (first_have locals stack here) in
      let last = each_again f.state.stack (last_have locals stack here) in
      let rest = seen_again frames (last_have (locals ++ stack) (frame_classes frames) all) in
      λ i. record { at = f.at; state = record { locals = first i; stack = last i } } ∷ rest i

  all_numbered : (frames : List TypeStateAt) → HasNames (frame_classes frames) → AreNumberedFrames (length names) (map (frame_of names) frames)
  all_numbered [] all = tt
  all_numbered (f ∷ frames) all =
      let locals = classes_of f.state.locals in
      let stack = classes_of f.state.stack in
      let here = first_have (locals ++ stack) (frame_classes frames) all in (
        record { locals = each_numbered f.state.locals (first_have locals stack here); stack = each_numbered f.state.stack (last_have locals stack here) },
        all_numbered frames (last_have (locals ++ stack) (frame_classes frames) all),
      )

-- frames by names are those of some frames by numbers
pub record IsNumbering (frames : List TypeStateAt) (names : Names) (own : List FrameAt) : Type 0 where
  pub distinct : IsDistinct bytes_eq names
  pub seen_are : map (type_state_at names) own ≡ frames
  pub numbers : AreNumberedFrames (length names) own

pub some_numbering : (frames : List TypeStateAt) → (names : Names) × (own : List FrameAt) × IsNumbering frames names own
some_numbering frames =
    let names = gathered (frame_classes frames) in
    let there = all_there (frame_classes frames) in (
      names,
      map (frame_of names) frames,
      record {
        distinct = gathered_once (frame_classes frames);
        seen_are = seen_again names frames there;
        numbers = all_numbered names frames there;
      },
    )
