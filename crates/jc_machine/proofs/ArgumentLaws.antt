-- Numbers that are laid into local variables one after another.
use Rattle.std.proofs.Common.{◌≡◌, ℕ, ℤ, zero, suc, ◌+◌, ◌-◌, ◌≤◌, Bool, true, false, List, [], ◌∷◌, ◌++◌, length, drop, replicate, Option, Some, None, refl}
use Rattle.std.proofs.Common.{sym, ap, ◌∙◌, arith, slice_get, slice_set, length-append, append_assoc, cond, add-one}
use Rattle.std.specs.Option.{option_map}
use Rattle.std.proofs.lemmas.List.{length-map, set_at, at_drop_all}
use Rattle.std.proofs.lemmas.Option.{same_Some}
use Rattle.std.proofs.lemmas.Bool.{and_parts}
use Rattle.jc_bytes.specs.Descriptor.{FieldType}
use Rattle.jc_bytes.proofs.OptionLaws.{none_some}
use Rattle.jc_machine_code.specs.declared.operation.ComputationalType.{ComputationalType}
use Rattle.jc_machine_code.specs.Types.{computational}
use Rattle.jc_machine_turn.specs.Parameters.{AreParameters}
use Rattle.jc_programs.specs.Entries.{is_argument, are_arguments}
use Rattle.jc_machine_model.specs.Values as values
use Rattle.jc_machine_model.specs.Values.{Value, is_pair, computational_type}
use Rattle.jc_machine_model.specs.Calls.{spread_value, spread_values, locals_for}
use Rattle.jc_machine_model.specs.Begin.{number_value, argument_values}
use Rattle.jc_machine.specs.Threads.{ThreadFrames}
use Rattle.jc_machine.specs.FirstThreads.{width, FitParameters}

-- ---- values in their slots

-- the values, one after another from a slot on
abbrev pub laid : ℕ → List Value → List (Option Value) → List (Option Value)
laid slot [] locals = locals
laid slot (v ∷ values) locals = laid (slot + width v) values (slice_set locals slot (Some v))

-- so many without a value
abbrev pub nothing : ℕ → List (Option Value)
nothing m = replicate m None

replicate_one : (m : ℕ) → 1 ≤ m → nothing m ≡ None ∷ nothing (m - 1)
replicate_one zero some = absurd (omega arith)
replicate_one (suc m) some = ap (λ n. None ∷ nothing n) (omega arith)

replicate_two : (m : ℕ) → 2 ≤ m → nothing m ≡ None ∷ None ∷ nothing (m - 2)
replicate_two zero some = absurd (omega arith)
replicate_two (suc zero) some = absurd (omega arith)
replicate_two (suc (suc m)) some = ap (λ n. None ∷ None ∷ nothing n) (omega arith)

module _ (front : List (Option Value)) (v : Value) (values : List Value) (m : ℕ) where
  laid_pair : suc (suc (length (spread_values values))) ≤ m
      → laid (length (front ++ Some v ∷ None ∷ [])) values ((front ++ Some v ∷ None ∷ []) ++ replicate (m - 2) None)
      ≡ (front ++ Some v ∷ None ∷ []) ++ locals_for (m - 2) values
      → laid (length front + 2) values (slice_set (front ++ replicate m None) (length front) (Some v))
      ≡ front ++ ((Some v ∷ None ∷ spread_values values) ++ replicate (m - length (Some v ∷ None ∷ spread_values values)) None)
  laid_pair fits more =
      let slots : slice_set (front ++ replicate m None) (length front) (Some v) ≡ (front ++ Some v ∷ None ∷ []) ++ replicate (m - 2) None =
      ap (λ r. slice_set (front ++ r) (length front) (Some v)) (replicate_two m (omega arith))
      ∙ (set_at front None (None ∷ replicate (m - 2) None) (Some v) (length front) refl
      ∙ sym (append_assoc front (Some v ∷ None ∷ []) (replicate (m - 2) None))) in
      let place : length front + 2 ≡ length (front ++ Some v ∷ None ∷ []) = sym (length-append front (Some v ∷ None ∷ [])) in
      ap (laid (length front + 2) values) slots
      ∙ (ap (λ n. laid n values ((front ++ Some v ∷ None ∷ []) ++ replicate (m - 2) None)) place
      ∙ (more ∙ (append_assoc front (Some v ∷ None ∷ []) (locals_for (m - 2) values)
      ∙ ap (λ n. front ++ Some v ∷ None ∷ (spread_values values ++ replicate n None)) (omega arith))))

  laid_single : suc (length (spread_values values)) ≤ m
      → laid (length (front ++ Some v ∷ [])) values ((front ++ Some v ∷ []) ++ replicate (m - 1) None) ≡ (front ++ Some v ∷ []) ++ locals_for (m - 1) values
      → laid (length front + 1) values (slice_set (front ++ replicate m None) (length front) (Some v))
      ≡ front ++ ((Some v ∷ spread_values values) ++ replicate (m - length (Some v ∷ spread_values values)) None)
  laid_single fits more =
      let slots : slice_set (front ++ replicate m None) (length front) (Some v) ≡ (front ++ Some v ∷ []) ++ replicate (m - 1) None =
      ap (λ r. slice_set (front ++ r) (length front) (Some v)) (replicate_one m (omega arith))
      ∙ (set_at front None (replicate (m - 1) None) (Some v) (length front) refl ∙ sym (append_assoc front (Some v ∷ []) (replicate (m - 1) None))) in
      let place : length front + 1 ≡ length (front ++ Some v ∷ []) = sym (length-append front (Some v ∷ [])) in
      ap (laid (length front + 1) values) slots
      ∙ (ap (λ n. laid n values ((front ++ Some v ∷ []) ++ replicate (m - 1) None)) place
      ∙ (more ∙ (append_assoc front (Some v ∷ []) (locals_for (m - 1) values)
      ∙ ap (λ n. front ++ Some v ∷ (spread_values values ++ replicate n None)) (omega arith))))

laid_from : (front : List (Option Value)) (values : List Value) (m : ℕ) → length (spread_values values) ≤ m
    → laid (length front) values (front ++ replicate m None) ≡ front ++ locals_for m values
laid_from front [] m fits = ap (λ n. front ++ replicate n None) (omega arith)
laid_from front (v ∷ values) m fits =
    by (is_pair v) (λ h. laid_from (front ++ Some v ∷ None ∷ []) values (m - 2) h) (λ h. laid_from (front ++ Some v ∷ []) values (m - 1) h) fits
  where
    by : (z : Bool)
        → (length (spread_values values) ≤ m - 2
        → laid (length (front ++ Some v ∷ None ∷ [])) values ((front ++ Some v ∷ None ∷ []) ++ replicate (m - 2) None)
        ≡ (front ++ Some v ∷ None ∷ []) ++ locals_for (m - 2) values)
        → (length (spread_values values) ≤ m - 1
        → laid (length (front ++ Some v ∷ [])) values ((front ++ Some v ∷ []) ++ replicate (m - 1) None)
        ≡ (front ++ Some v ∷ []) ++ locals_for (m - 1) values)
        → length (cond z (Some v ∷ None ∷ []) (Some v ∷ []) ++ spread_values values) ≤ m
        → laid (length front + cond z 2 1) values (slice_set (front ++ replicate m None) (length front) (Some v))
        ≡ front ++ ((cond z (Some v ∷ None ∷ []) (Some v ∷ []) ++ spread_values values) ++ replicate
        (m - length (cond z (Some v ∷ None ∷ []) (Some v ∷ []) ++ spread_values values)) None)
    by true two one within = laid_pair front v values m within (two (omega arith))
    by false two one within = laid_single front v values m within (one (omega arith))

-- they lie as a call has them
pub laid_all : (values : List Value) (locals : List (Option Value)) → locals ≡ replicate (length locals) None → length (spread_values values) ≤ length locals
    → laid 0 values locals ≡ locals_for (length locals) values
laid_all values locals empty within = ap (laid 0 values) empty ∙ laid_from [] values (length locals) within

-- ---- parameters and numbers by their places

param_at : (parameters : List (Option ComputationalType)) (types : List FieldType) (k : ℕ) (p : Option ComputationalType) → AreParameters types parameters
    → slice_get parameters k ≡ Some p
    → (type : FieldType) × (slice_get types k ≡ Some type) × (option_map computational p ≡ computational_type type)
param_at [] types k p are at = absurd (none_some at)
param_at (q ∷ parameters) [] k p are at = absurd (cc)
param_at (q ∷ parameters) (type ∷ types) zero p are at = (type, refl, ap (option_map computational) (sym (same_Some q p at)) ∙ cc)
param_at (q ∷ parameters) (type ∷ types) (suc k) p are at = param_at parameters types k p (cc) at

drop_from : {X : Type 0} (xs : List X) (k : ℕ) (x : X) → slice_get xs k ≡ Some x → drop k xs ≡ x ∷ drop (suc k) xs
drop_from [] k x at = absurd (none_some at)
drop_from (y ∷ xs) zero x at = ap (λ z. z ∷ xs) (same_Some y x at)
drop_from (y ∷ xs) (suc k) x at = drop_from xs k x at

drop_at : {X : Type 0} (xs : List X) (k : ℕ) (x : X) → slice_get xs k ≡ Some x → drop k xs ≡ x ∷ drop (k + 1) xs
drop_at xs k x at = drop_from xs k x at ∙ ap (λ n. x ∷ drop n xs) (sym (add-one k))

argument_at : (types : List FieldType) (numbers : List ℤ) (k : ℕ) (type : FieldType) (n : ℤ) → are_arguments types numbers ≡ true
    → slice_get types k ≡ Some type → slice_get numbers k ≡ Some n → is_argument type n ≡ true
argument_at [] numbers k type n taken type_at n_at = absurd (none_some type_at)
argument_at (t ∷ types) [] k type n taken type_at n_at = absurd (none_some n_at)
argument_at (t ∷ types) (m ∷ numbers) zero type n taken type_at n_at =
    ap (is_argument type) (sym (same_Some m n n_at))
    ∙ (ap (λ x. is_argument x m) (sym (same_Some t type type_at)) ∙ (and_parts (is_argument t m) (are_arguments types numbers) taken).0)
argument_at (t ∷ types) (m ∷ numbers) (suc k) type n taken type_at n_at =
    argument_at types numbers k type n (and_parts (is_argument t m) (are_arguments types numbers) taken).1 type_at n_at

as_many : (types : List FieldType) (numbers : List ℤ) → are_arguments types numbers ≡ true → length types ≡ length numbers
as_many [] [] taken = refl
as_many [] (n ∷ numbers) taken = absurd (cc)
as_many (type ∷ types) [] taken = absurd (cc)
as_many (type ∷ types) (n ∷ numbers) taken = ap suc (as_many types numbers (and_parts (is_argument type n) (are_arguments types numbers) taken).1)

pub as_many_parameters : (parameters : List (Option ComputationalType)) (numbers : List ℤ) (locals : List (Option Value))
    → FitParameters parameters numbers locals → length parameters ≡ length numbers
as_many_parameters parameters numbers locals fit =
    sym (length-map parameters (option_map computational))
    ∙ (ap (λ (l : List (Option values.ComputationalType)). length l) fit.are ∙ (length-map fit.types computational_type ∙ as_many fit.types numbers fit.taken))

-- a number is a value of its parameter's type
pub argument_there : (parameters : List (Option ComputationalType)) (numbers : List ℤ) (locals : List (Option Value)) (k : ℕ) (p : Option ComputationalType)
    (n : ℤ) → FitParameters parameters numbers locals
    → slice_get parameters k ≡ Some p → slice_get numbers k ≡ Some n
    → (type : FieldType) × (option_map computational p ≡ computational_type type) × (is_argument type n ≡ true)
argument_there parameters numbers locals k p n fit p_at n_at =
    let t = param_at parameters fit.types k p fit.are p_at in
    (t.0, t.2, argument_at fit.types numbers k t.0 n fit.taken t.1 n_at)

-- ---- numbers put one after another

-- how many slots so many numbers take
abbrev slots_of : List FieldType → List ℤ → ℕ
slots_of types numbers = length (spread_values (argument_values types numbers))

-- Behind k numbers: what is left to lay leads to what all lay, and finds room.
pub record Putting (parameters : List (Option ComputationalType)) (numbers : List ℤ) (first : ThreadFrames) (k slot : ℕ) (now : ThreadFrames) : Type 0 where
  pub waiting : now.waiting ≡ first.waiting
  pub memory : now.memory ≡ first.memory
  pub method : now.top.method ≡ first.top.method
  pub place : now.top.place ≡ first.top.place
  pub stack : now.top.stack ≡ first.top.stack
  pub locals : (types : List FieldType) → AreParameters types parameters
      → laid slot (argument_values (drop k types) (drop k numbers)) now.top.locals ≡ laid 0 (argument_values types numbers) first.top.locals
  pub room : (types : List FieldType) → AreParameters types parameters → slots_of types numbers ≤ length first.top.locals
      → slot + slots_of (drop k types) (drop k numbers) ≤ length first.top.locals

length-spread_value : (v : Value) → length (spread_value v) ≡ width v
length-spread_value v = by (is_pair v)
  where
    by : (z : Bool) → length (cond z (Some v ∷ None ∷ []) (Some v ∷ [])) ≡ cond z 2 1
    by true = refl
    by false = refl

no_values : (types : List FieldType) → argument_values types [] ≡ []
no_values [] = refl
no_values (type ∷ types) = refl

module _ (parameters : List (Option ComputationalType)) (numbers : List ℤ) (first : ThreadFrames) where
  module _ (k slot : ℕ) (now next : ThreadFrames) (p : Option ComputationalType) (n : ℤ) (v : Value) (so_far : Putting parameters numbers first k slot now)
      (p_at : slice_get parameters k ≡ Some p) (n_at : slice_get numbers k ≡ Some n) (v_is : (type : FieldType)
      → option_map computational p ≡ computational_type type → v ≡ number_value type n)
      (is : next ≡ record now { top = record now.top { locals = slice_set now.top.locals slot (Some v) } }) where
    first_left : (types : List FieldType) → AreParameters types parameters
        → argument_values (drop k types) (drop k numbers) ≡ v ∷ argument_values (drop (k + 1) types) (drop (k + 1) numbers)
    first_left types are =
        let t = param_at parameters types k p are p_at in
        ap (λ ts. argument_values ts (drop k numbers)) (drop_at types k t.0 t.1)
        ∙ (ap (argument_values (t.0 ∷ drop (k + 1) types)) (drop_at numbers k n n_at)
        ∙ ap (λ x. x ∷ argument_values (drop (k + 1) types) (drop (k + 1) numbers)) (sym (v_is t.0 t.2)))

    pub one_put : Putting parameters numbers first (k + 1) (slot + width v) next
    one_put = record {
      waiting = ap (λ (f : ThreadFrames). f.waiting) is ∙ so_far.waiting;
      memory = ap (λ (f : ThreadFrames). f.memory) is ∙ so_far.memory;
      method = ap (λ (f : ThreadFrames). f.top.method) is ∙ so_far.method;
      place = ap (λ (f : ThreadFrames). f.top.place) is ∙ so_far.place;
      stack = ap (λ (f : ThreadFrames). f.top.stack) is ∙ so_far.stack;
      locals = λ types are. ap (λ (f : ThreadFrames). laid (slot + width v) (argument_values (drop (k + 1) types) (drop (k + 1) numbers)) f.top.locals) is
          ∙ (sym (ap (λ values. laid slot values now.top.locals) (first_left types are)) ∙ so_far.locals types are);
      room = λ types are within.
          let room = so_far.room types are within in
          let more : slots_of (drop k types) (drop k numbers) ≡ width v + slots_of (drop (k + 1) types) (drop (k + 1) numbers) =
          ap (λ values. length (spread_values values)) (first_left types are)
          ∙ (length-append (spread_value v) (spread_values (argument_values (drop (k + 1) types) (drop (k + 1) numbers)))
          ∙ ap (λ m. m + slots_of (drop (k + 1) types) (drop (k + 1) numbers)) (length-spread_value v)) in
          omega (arith, room, more);
    }

  pub all_put : (k slot : ℕ) (now : ThreadFrames) → Putting parameters numbers first k slot now → length numbers ≤ k
      → first.top.locals ≡ replicate (length first.top.locals) None
      → (types : List FieldType) → AreParameters types parameters → slots_of types numbers ≤ length first.top.locals
      → now ≡ record first { top = record first.top { locals = locals_for (length first.top.locals) (argument_values types numbers) } }
  all_put k slot now put ended empty types are within =
      let left : argument_values (drop k types) (drop k numbers) ≡ [] =
      at_drop_all (argument_values (drop k types)) numbers k ended ∙ no_values (drop k types) in
      let locals : now.top.locals ≡ locals_for (length first.top.locals) (argument_values types numbers) =
      sym (ap (λ values. laid slot values now.top.locals) left)
      ∙ (put.locals types are ∙ laid_all (argument_values types numbers) first.top.locals empty within) in
      λ i. record { top = record { method = put.method i; place = put.place i; locals = locals i; stack = put.stack i }; waiting = put.waiting i; memory = put.memory i }
