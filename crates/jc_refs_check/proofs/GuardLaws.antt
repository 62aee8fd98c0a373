-- Rows by where they begin, and the classes that their handlers want.
use Rattle.std.proofs.Common.{◌≡◌, ⊎_elim, ℕ, zero, suc, ◌+◌, ◌<◌, ◌≤◌, Bool, true, false, List, [], ◌∷◌, length, get_or, Option, Some, None, is_some, option_and_then, refl, sym, ◌∙◌, ap, subst, arith, if◌then◌else◌}
use Rattle.std.specs.List.{All, AllByRecursion, Contains, slice_get}
use Rattle.std.specs.Str.{bytes_eq}
use Rattle.std.specs.List.Sorted.{IsPermutation, IsNonDecreasingBy}
use Rattle.std.proofs.lemmas.Bool.{true≢false}
use Rattle.std.proofs.lemmas.List.Elements.{All-head, All-tail}
use Rattle.std.proofs.lemmas.List.Sorted.{IsPermutation-sym, Contains-permutation}
use Rattle.std.proofs.lemmas.Option.{none-some, same_Some, slice_get_within, slice_get_past, slice_get_read, get_or_from_slice_get}
use Rattle.jc_bytes.proofs.BooleanLaws.{stands_in, place_of}
use Rattle.jc_bytes.proofs.ListLaws.{below_or_last}
use Rattle.jc_methods.specs.declared.kind.Kind.{Kind}
use Rattle.jc_methods.specs.declared.kind.Kind.TheVariants as kinds
use Rattle.jc_methods.specs.declared.kind.State.{State}
use Rattle.jc_methods.specs.declared.body.Body.{Body}
use Rattle.jc_methods.specs.declared.body.Handler.{Handler}
use Rattle.jc_methods.specs.declared.body.FrameAt.{FrameAt}
use Rattle.jc_methods.specs.VerificationTypes.{Names, IsNumbered, IsNumberedState, AreNumberedFrames}
use Rattle.jc_kinds.specs.Guarded.{local_at}
use Rattle.jc_refs_check.specs.declared.guards.Guard.{Guard}
use Rattle.jc_refs_check.specs.Suits.{object_class}
use Rattle.jc_refs_check.specs.Classes.{name_at}
use Rattle.jc_refs_check.specs.HeldTypes.{EachSays}
use Rattle.jc_refs_check.specs.Unguarded.{object_of, class_at, classes_of, AreNumberedClasses, wanted_of, wanted_at, IsGuardOf, AreSortedGuards, AreWanted}
use Rattle.jc_refs_check.proofs.MemberTypeLaws.{one_at}

-- ---- rows

flipped_says : {X Y : Type 0} (R : X → Y → Type 0) (xs : List X) (ys : List Y) → EachSays R xs ys → EachSays (λ (y : Y) (x : X). R x y) ys xs
flipped_says R [] [] all = tt
flipped_says R [] (y ∷ ys) all = absurd all
flipped_says R (x ∷ xs) [] all = absurd all
flipped_says R (x ∷ xs) (y ∷ ys) all = (all.0, flipped_says R xs ys all.1)

each_among : {X Y : Type 0} (R : X → Y → Type 0) (xs : List X) (ys : List Y) (y : Y) → EachSays R xs ys → Contains ys y → (x : X) × Contains xs x × R x y
each_among R xs ys y all there =
    let p = place_of ys y there in
    let one = one_at R xs ys p.0 y all (slice_get_within ys p.0 y p.1) (sym (get_or_from_slice_get ys p.0 y y p.1)) in
    (one.0, stands_in xs p.0 one.0 one.1, one.2)

pub guards_made : (b : Body) (guards sorted : List Guard) → EachSays (IsGuardOf b) b.handlers guards → IsPermutation guards sorted
    → IsNonDecreasingBy (λ (g : Guard). g.start) sorted → AreSortedGuards b sorted
guards_made b guards sorted says same starts = record {
  starts = starts;
  among = λ g there. each_among (IsGuardOf b) b.handlers guards g says (Contains-permutation sorted guards g (IsPermutation-sym guards sorted same) there);
  all = λ h there.
      let one = each_among (λ (g : Guard) (r : Handler). IsGuardOf b r g) guards b.handlers h (flipped_says (IsGuardOf b) b.handlers guards says) there in
      (one.0, Contains-permutation guards sorted one.0 same one.1, one.2);
}

-- ---- classes that are wanted

module _ (names : Names) (frames : List FrameAt) (number slot : ℕ) where
  pub wanted_past : length frames ≤ number → None ≡ wanted_at names frames number slot
  wanted_past past = sym (ap (option_and_then (λ (f : FrameAt). wanted_of names (class_at slot f.state))) (slice_get_past frames number past))

  module _ (f : FrameAt) (room : number < length frames) (is : f ≡ get_or frames number f) where
    wanted_there : wanted_of names (class_at slot f.state) ≡ wanted_at names frames number slot
    wanted_there = sym (ap (option_and_then (λ (g : FrameAt). wanted_of names (class_at slot g.state))) (slice_get_read frames (length frames) number f refl room is))

    pub wanted_none : class_at slot f.state ≡ None → None ≡ wanted_at names frames number slot
    wanted_none none = ap (wanted_of names) (sym none) ∙ wanted_there

    pub wanted_object : (class : ℕ) → class_at slot f.state ≡ Some class → bytes_eq (name_at names class) object_class ≡ true → None ≡ wanted_at names frames number slot
    wanted_object class some object =
        ap (λ (b : Bool). if b then None else Some class) (sym object) ∙ ap (wanted_of names) (sym some) ∙ wanted_there

    pub wanted_class : (class : ℕ) → class_at slot f.state ≡ Some class → bytes_eq (name_at names class) object_class ≡ false → Some class ≡ wanted_at names frames number slot
    wanted_class class some object =
        ap (λ (b : Bool). if b then None else Some class) (sym object) ∙ ap (wanted_of names) (sym some) ∙ wanted_there

-- ---- its number

kind_within : (count : ℕ) (kind : Kind) (class : ℕ) → IsNumbered count kind → object_of kind ≡ Some class → class < count
kind_within count (kinds.Object n) class numbered e = subst (λ (k : ℕ). k < count) (same_Some n class e) numbered
kind_within count kind class numbered e = absurd (none-some class e)

kind_numbered : (count : ℕ) (ks : List Kind) (i : ℕ) → AllByRecursion (IsNumbered count) ks → IsNumbered count (get_or ks i kinds.Top)
kind_numbered count [] i all = tt
kind_numbered count (k ∷ ks) zero all = all.0
kind_numbered count (k ∷ ks) (suc i) all = kind_numbered count ks i all.1

-- the number of the class of an object in a local variable
class_within : (count slot class : ℕ) (s : State) → IsNumberedState count s → class_at slot s ≡ Some class → class < count
class_within count slot class s numbered e = kind_within count (local_at slot s) class (kind_numbered count s.locals slot numbered.locals) e

pub numbered_column : (count slot : ℕ) (states : List State) → All (IsNumberedState count) states → AreNumberedClasses count (classes_of states slot)
numbered_column count slot [] all i class e = absurd (none-some class e)
numbered_column count slot (s ∷ states) all zero class e = class_within count slot class s (All-head (IsNumberedState count) s states all) e
numbered_column count slot (s ∷ states) all (suc i) class e = numbered_column count slot states (All-tail (IsNumberedState count) s states all) i class e

pub wanted_within : (names : Names) (frames : List FrameAt) (number slot want : ℕ) → AreNumberedFrames (length names) frames → Some want ≡ wanted_at names frames number slot → want < length names
wanted_within names [] number slot want all e = absurd (none-some want (sym e))
wanted_within names (f ∷ frames) (suc number) slot want all e = wanted_within names frames number slot want all.1 e
wanted_within names (f ∷ frames) zero slot want all e = by (class_at slot f.state) refl e
  where
    by : (o : Option ℕ) → class_at slot f.state ≡ o → Some want ≡ wanted_of names o → want < length names
    by None there e = absurd (none-some want (sym e))
    by (Some class) there e = test (bytes_eq (name_at names class) object_class) e
      where
        test : (b : Bool) → Some want ≡ (if b then None else Some class) → want < length names
        test true e = absurd (none-some want (sym e))
        test false e = subst (λ (k : ℕ). k < length names) (sym (same_Some want class e)) (class_within (length names) slot class f.state all.0 there)

-- ---- whether a row wants one

is_none : (o : Option ℕ) (r : Bool) → r ≡ is_some o → r ≡ false → o ≡ None
is_none None r is free = refl
is_none (Some x) r is free = absurd (true≢false (sym is ∙ free))

-- the row that stands for none
abbrev pub no_guard : Guard
no_guard = record { start = 0; end = 0; frame = 0 }

-- a row by its place
abbrev pub guard_at : List Guard → ℕ → Guard
guard_at rows i = get_or rows i no_guard

-- no row in front of a place wants one
abbrev pub NoneWanted : Names → List FrameAt → ℕ → List Guard → ℕ → Type 0
NoneWanted names frames slot rows count = (k : ℕ) (g : Guard) → k < count → slice_get rows k ≡ Some g → wanted_at names frames g.frame slot ≡ None

pub none_more : (names : Names) (frames : List FrameAt) (slot : ℕ) (rows : List Guard) (i : ℕ) (o : Option ℕ) (r : Bool) → NoneWanted names frames slot rows i
    → o ≡ wanted_at names frames (guard_at rows i).frame slot → r ≡ is_some o → r ≡ false → NoneWanted names frames slot rows (i + 1)
none_more names frames slot rows i o r none want some free k g lt e = ⊎_elim
    (λ low. none k g low e)
    (λ last.
    let same : guard_at rows i ≡ g = ap (guard_at rows) (sym last) ∙ get_or_from_slice_get rows k g no_guard e in
    subst (λ (x : Guard). wanted_at names frames x.frame slot ≡ None) same (sym want ∙ is_none o r some free))
    (below_or_last i k lt)

pub none_wanted : (names : Names) (frames : List FrameAt) (slot : ℕ) (rows : List Guard) (i : ℕ) → length rows ≤ i → NoneWanted names frames slot rows i → AreWanted false names frames slot rows
none_wanted names frames slot rows i le none e g there =
    let p = place_of rows g there in let room = slice_get_within rows p.0 g p.1 in none p.0 g (omega (arith, room, le)) p.1

pub some_wanted : (names : Names) (frames : List FrameAt) (slot : ℕ) (rows : List Guard) → AreWanted true names frames slot rows
some_wanted names frames slot rows e g there = absurd (true≢false e)
