-- The values in hand, and what a frame says by them.
use Rattle.std.proofs.Common.{◌≡◌, ℕ, suc, ◌+◌, ◌-◌, ◌*◌, ◌<◌, ◌≤◌, Bool, true, false, ◌&&◌, List, [], ◌∷◌, ◌++◌, length, take, drop, get_or, Option, Some, None, option_map, nat_le, if◌then◌else◌, refl, sym, ◌∙◌, ap, ap₂, arith, length-drop}
use Rattle.std.proofs.Math.Seq.{take-suc}
use Rattle.std.proofs.lemmas.Bool.{lt-ltb, le-leb, lt-leb, leb-true, and_parts}
use Rattle.std.proofs.lemmas.List.{length-map, take_all, take-map}
use Rattle.std.proofs.lemmas.List.Sums.{sum_by-cons, sum_by-take-drop}
use Rattle.std.specs.List.{sum_by}
use Rattle.jc_methods.specs.VerificationTypes.{Names, VerificationType, slots, width}
use Rattle.jc_methods.specs.EntryState.{in_locals}
use Rattle.jc_methods.specs.Starts.{insn_number}
use Rattle.jc_methods.specs.declared.kind.Kind.TheVariants as kinds
use Rattle.jc_pool.specs.Pool.{PoolValue}
use Rattle.jc_frames.specs.declared.items.FrameItem.{FrameItem}
use Rattle.jc_frames.specs.declared.method.Value.{Value}
use Rattle.jc_frames.specs.declared.method.Value.TheVariants as values
use Rattle.jc_frames.specs.Frames.{Ground, Before, without_last, offset_of, values_of, stack_of, is_start, Found, found, fits_slots, found_if, frame_of, astray}
use Rattle.jc_frames.specs.Running.{held_value, held_values, value_slots}
use Rattle.jc_frames.proofs.FrameLaws.{fault_says_nothing, no_first, no_second}

-- ---- lists by one place

pub take_last : {X : Type 0} (xs : List X) (end : ℕ) (d : X) → 0 < end → end ≤ length xs → take end xs ≡ take (end - 1) xs ++ get_or xs (end - 1) d ∷ []
take_last xs end d some within =
    ap (λ (k : ℕ). take k xs) (let e : end ≡ suc (end - 1) = omega (arith, some) in e) ∙ take-suc xs (end - 1) d (omega (arith, some, within))

-- ---- answers that may be none

pub said_none : {A B : Type 0} (f : A → B) (o : Option B) (r : Option A) → o ≡ option_map f r → r ≡ None → o ≡ None
said_none f o r e n = e ∙ ap (option_map f) n

pub said_some : {A B : Type 0} (f : A → B) (o : Option B) (r : Option A) (x : A) → o ≡ option_map f r → r ≡ Some x → o ≡ Some (f x)
said_some f o r x e n = e ∙ ap (option_map f) n

-- ---- slots

one_counted : (pool : PoolValue) (names : Names) (v : Value) → width (held_value pool names v) ≡ value_slots v
one_counted pool names (values.Of kinds.Top) = refl
one_counted pool names v = refl

pub slots_counted : (pool : PoolValue) (names : Names) (vs : List Value) → slots (held_values pool names vs) ≡ sum_by value_slots vs
slots_counted pool names [] = refl
slots_counted pool names (v ∷ vs) = ap₂ (λ (a b : ℕ). a + b) (one_counted pool names v) (slots_counted pool names vs) ∙ sym (sum_by-cons value_slots v vs)

one_bounded : (v : Value) → (1 ≤ value_slots v) × (value_slots v ≤ 2)
one_bounded (values.Of kinds.Top) = (omega arith, omega arith)
one_bounded v = (omega arith, omega arith)

-- each value takes one slot or two
pub slots_bounded : (vs : List Value) → (length vs ≤ sum_by value_slots vs) × (sum_by value_slots vs ≤ 2 * length vs)
slots_bounded [] = (omega arith, omega arith)
slots_bounded (v ∷ vs) =
    let a = slots_bounded vs in
    let b = one_bounded v in
    let c = sum_by-cons value_slots v vs in
    (omega (arith, a, b, c), omega (arith, a, b, c))

pub fits_true : (g : Ground) (vs ss : List VerificationType) (n m a b : ℕ) → n ≡ slots vs → m ≡ slots ss → a ≡ g.max_locals → b ≡ g.max_stack → n ≤ a → nat_le m b ≡ fits_slots g vs ss
fits_true g vs ss n m a b en em ea eb le =
    ap₂ (λ (x y : ℕ). nat_le x y) em eb
    ∙ sym (ap (λ (t : Bool). t && nat_le (slots ss) g.max_stack) (le-leb (slots vs) g.max_locals (omega (arith, en, ea, le))))

pub fits_false : (g : Ground) (vs ss : List VerificationType) (n a : ℕ) → n ≡ slots vs → a ≡ g.max_locals → a < n → nat_le n a ≡ fits_slots g vs ss
fits_false g vs ss n a en ea lt =
    lt-leb n a lt ∙ sym (ap (λ (t : Bool). t && nat_le (slots ss) g.max_stack) (lt-leb (slots vs) g.max_locals (omega (arith, en, ea, lt))))

-- ---- what a frame says

pub no_start_nothing : (g : Ground) (before : Before) (item : FrameItem) (offset : ℕ) → offset ≡ offset_of before item → length g.code ≤ insn_number g.starts offset → frame_of g before item ≡ None
no_start_nothing g before item offset is past =
    let e = ap (insn_number g.starts) is in fault_says_nothing g before item (astray (omega (arith, e, past)))

pub no_stack_nothing : (g : Ground) (before : Before) (item : FrameItem) → stack_of g item ≡ None → frame_of g before item ≡ None
unfolding frame_of
no_stack_nothing g before item none = no_second g (offset_of before item) (values_of g before item) (stack_of g item) none

pub no_values_nothing : (g : Ground) (before : Before) (item : FrameItem) → values_of g before item ≡ None → frame_of g before item ≡ None
unfolding frame_of
no_values_nothing g before item none = no_first g (offset_of before item) (values_of g before item) (stack_of g item) none

-- what a frame says of its values and its stack, by the two tests
said : (g : Ground) (before : Before) (item : FrameItem) (vs ss : List VerificationType) (a b : Bool) → values_of g before item ≡ Some vs → stack_of g item ≡ Some ss
    → is_start g (offset_of before item) ≡ a → fits_slots g vs ss ≡ b → frame_of g before item ≡ (if a && b then Some (found g (offset_of before item) vs ss) else None)
unfolding frame_of
said g before item vs ss a b values stack start fits =
    ap₂ (λ (o p : Option (List VerificationType)). found_if g (offset_of before item) o p) values stack
    ∙ ap₂ (λ (x y : Bool). if x && y then Some (found g (offset_of before item) vs ss) else None) start fits

pub unfit_nothing : (g : Ground) (before : Before) (item : FrameItem) (vs ss : List VerificationType) → values_of g before item ≡ Some vs → stack_of g item ≡ Some ss
    → fits_slots g vs ss ≡ false → frame_of g before item ≡ None
unfit_nothing g before item vs ss values stack unfit = said g before item vs ss (is_start g (offset_of before item)) false values stack refl unfit ∙ by (is_start g (offset_of before item))
  where
    by : (b : Bool) → (if b && false then Some (found g (offset_of before item) vs ss) else None) ≡ None
    by true = refl
    by false = refl

pub frame_says : (g : Ground) (before : Before) (item : FrameItem) (offset at base : ℕ) (vs ss : List VerificationType) → offset ≡ offset_of before item → base ≡ offset + 1
    → insn_number g.starts offset ≡ at → at < length g.code → values_of g before item ≡ Some vs → stack_of g item ≡ Some ss → fits_slots g vs ss ≡ true
    → frame_of g before item ≡ Some (record {
      frame = record { at = at; state = record { locals = in_locals g.max_locals vs; stack = ss } };
      next = record { base = base; values = vs };
    })
frame_says g before item offset at base vs ss is next number below values stack fits =
    let same : insn_number g.starts (offset_of before item) ≡ at = ap (insn_number g.starts) (sym is) ∙ number in
    let more : offset_of before item + 1 ≡ base = omega (arith, is, next) in
    said g before item vs ss true true values stack (lt-ltb (insn_number g.starts (offset_of before item)) (length g.code) (omega (arith, same, below))) fits
    ∙ ap₂ (λ (k b : ℕ). let f : Found = record {
      frame = record { at = k; state = record { locals = in_locals g.max_locals vs; stack = ss } };
      next = record { base = b; values = vs };
    } in Some f) same more

-- ---- values that go

pub chopped : (xs ys : List Value) (kept all gone : ℕ) → ys ≡ xs → kept ≤ length xs → gone ≡ sum_by value_slots (take (length ys - kept) (drop kept ys))
    → all ≡ sum_by value_slots xs → (gone ≤ all) × (all - gone ≡ sum_by value_slots (take kept xs))
chopped xs ys kept all gone is within slots total =
    let rest : gone ≡ sum_by value_slots (drop kept xs) = slots ∙ ap (λ (l : List Value). sum_by value_slots (take (length l - kept) (drop kept l))) is
    ∙ ap (sum_by value_slots) (take_all (length xs - kept) (drop kept xs) (omega (arith, length-drop kept xs))) in
    let both = sum_by-take-drop value_slots xs kept in
    (omega (arith, rest, both, total), omega (arith, rest, both, total))

pub chopped_values : (pool : PoolValue) (names : Names) (xs new : List Value) (count size : ℕ) → count ≤ size → size ≡ length xs → new ≡ take (size - count) xs
    → without_last count (held_values pool names xs) ≡ Some (held_values pool names new)
chopped_values pool names xs new count size le long is =
    ap (λ (n : ℕ). if nat_le count n then Some (take (n - count) (held_values pool names xs)) else None) (length-map xs (held_value pool names))
    ∙ ap (λ (b : Bool). if b then Some (take (length xs - count) (held_values pool names xs)) else None) (le-leb count (length xs) (omega (arith, le, long)))
    ∙ ap Some (take-map (held_value pool names) (length xs - count) xs)
    ∙ ap (λ (n : ℕ). Some (held_values pool names (take (n - count) xs))) (sym long)
    ∙ ap (λ (l : List Value). Some (held_values pool names l)) (sym is)

pub not_done : (o : Option (List VerificationType)) (done : Bool) (hs : List VerificationType) → o ≡ (if done then Some hs else None) → done ≡ false → o ≡ None
not_done o done hs e d = e ∙ ap (λ (b : Bool). if b then Some hs else None) d

pub is_done : (o : Option (List VerificationType)) (done : Bool) (hs : List VerificationType) → o ≡ (if done then Some hs else None) → done ≡ true → o ≡ Some hs
is_done o done hs e d = e ∙ ap (λ (b : Bool). if b then Some hs else None) d

pub fitting_values : (g : Ground) (pool : PoolValue) (names : Names) (vs : List Value) (ss : List VerificationType) → fits_slots g (held_values pool names vs) ss ≡ true → length vs ≤ g.max_locals
fitting_values g pool names vs ss fits =
    let test = and_parts (nat_le (slots (held_values pool names vs)) g.max_locals) (nat_le (slots ss) g.max_stack) fits in
    let le = leb-true (slots (held_values pool names vs)) g.max_locals test.0 in
    let same = slots_counted pool names vs in
    let many = (slots_bounded vs).0 in
    omega (arith, le, same, many)
