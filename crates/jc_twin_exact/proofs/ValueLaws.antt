-- What holds of the values of a world, where it holds of all values but probe arrays.
use Rattle.std.proofs.Common.{ℕ, zero, suc, ℤ, pos, ◌+◌, ◌-◌, Bool, true, false, ◌&&◌, List, [], ◌∷◌, ◌++◌, drop, length, replicate, Option, Some, None, nat_eq, nat_le, nat_lt, if◌then◌else◌, int_le, ◌-ℤ◌}
use Rattle.std.specs.Prelude.{⊤, slice_get, slice_set, slice_index_or}
use Rattle.std.specs.List.{AllByRecursion}
use Rattle.jc_bytes.specs.Descriptor.{FieldType, Long}
use Rattle.jc_methods.specs.Opcode as opcode
use Rattle.jc_programs.specs.declared.run_end.Thrown.TheVariants as thrown
use Rattle.jc_machine_model.specs.Values.{Value, int, long, null, object, memory_error, print_stream, text, is_pair, stored_as}
use Rattle.jc_machine_model.specs.Effects.{Effect, Move, gives, unfit, when, int_for, long_for, constant, moves_of, moved, results_at, stand_categories, divided, int_bits, int_pair, long_pair, long_shift, int_single, long_single, single, pair, has_one_operand, effect}
use Rattle.jc_machine_model.specs.Effects as effects
use Rattle.jc_machine_model.specs.Locals.{is_pair_there, clear_before, put_local}
use Rattle.jc_machine_model.specs.Arrays.{element_value}
use Rattle.jc_machine_model.specs.Operations.{FieldAt}
use Rattle.jc_machine_model.specs.Statics.{static_at, with_static, is_of_type}
use Rattle.jc_machine_model.specs.Calls.{Arguments, argument_before, taken_for, spread_value, spread_values, locals_for}

module _ (V : Value → Type 0) where
  -- it holds of each value that is no probe array
  pub record HoldsOfOthers : Type 0 where
    pub ints : (x : ℤ) → V (int x)
    pub longs : (x : ℤ) → V (long x)
    pub nulls : V null
    pub objects : (k : ℕ) → V (object k)
    pub errors : V memory_error
    pub streams : V print_stream
    pub texts : (class : ℕ) → V (text class)

  abbrev pub InSlot : Option Value → Type 0
  InSlot None = ⊤
  InSlot (Some v) = V v

  abbrev pub All : List Value → Type 0
  All values = AllByRecursion V values

  abbrev pub InSlots : List (Option Value) → Type 0
  InSlots locals = AllByRecursion InSlot locals

  abbrev pub InStatics : List (List Value) → Type 0
  InStatics statics = AllByRecursion All statics

  -- ---- lists

  pub each_append : {X : Type 0} (P : X → Type 0) (xs ys : List X) → AllByRecursion P xs → AllByRecursion P ys → AllByRecursion P (xs ++ ys)
  each_append P [] ys h g = g
  each_append P (x ∷ xs) ys h g = (h.0, each_append P xs ys h.1 g)

  pub append_all : (xs ys : List Value) → All xs → All ys → All (xs ++ ys)
  append_all xs ys h g = each_append V xs ys h g

  pub drop_all : (n : ℕ) (xs : List Value) → All xs → All (drop n xs)
  drop_all zero xs h = h
  drop_all (suc n) [] h = h
  drop_all (suc n) (x ∷ xs) h = drop_all n xs h.1

  pub set_each : {X : Type 0} (P : X → Type 0) (xs : List X) (k : ℕ) (y : X) → AllByRecursion P xs → P y → AllByRecursion P (slice_set xs k y)
  set_each P [] k y h g = h
  set_each P (x ∷ xs) zero y h g = (g, h.1)
  set_each P (x ∷ xs) (suc k) y h g = (h.0, set_each P xs k y h.1 g)

  pub get_all : (xs : List Value) (k : ℕ) → All xs → InSlot (slice_get xs k)
  get_all [] k h = tt
  get_all (x ∷ xs) zero h = h.0
  get_all (x ∷ xs) (suc k) h = get_all xs k h.1

  pub read_slot : (ls : List (Option Value)) (k : ℕ) → InSlots ls → InSlot (slice_index_or ls k None)
  read_slot [] k h = tt
  read_slot (x ∷ ls) zero h = h.0
  read_slot (x ∷ ls) (suc k) h = read_slot ls k h.1

  read_statics : (s : List (List Value)) (k : ℕ) → InStatics s → All (slice_index_or s k [])
  read_statics [] k h = tt
  read_statics (x ∷ s) zero h = h.0
  read_statics (x ∷ s) (suc k) h = read_statics s k h.1

  pub static_there : (s : List (List Value)) (at : FieldAt) → InStatics s → InSlot (static_at s at)
  static_there s at h = get_all (slice_index_or s at.class []) at.field (read_statics s at.class h)

  pub static_set : (s : List (List Value)) (at : FieldAt) (v : Value) → InStatics s → V v → InStatics (with_static s at v)
  static_set s at v h g = set_each All s at.class (slice_set (slice_index_or s at.class []) at.field v) h
      (set_each V (slice_index_or s at.class []) at.field v (read_statics s at.class h) g)

  -- ---- local variables

  slots_if : (b : Bool) (x y : List (Option Value)) → InSlots x → InSlots y → InSlots (if b then x else y)
  slots_if true x y h g = h
  slots_if false x y h g = g

  pub set_slot : (ls : List (Option Value)) (k : ℕ) (x : Option Value) → InSlots ls → InSlot x → InSlots (slice_set ls k x)
  set_slot ls k x h g = set_each InSlot ls k x h g

  cleared : (k : ℕ) (ls : List (Option Value)) → InSlots ls → InSlots (clear_before k ls)
  cleared zero ls h = h
  cleared (suc k) ls h = slots_if (is_pair_there (slice_index_or ls k None)) (slice_set ls k None) ls (set_slot ls k None h tt) h

  pub put_slot : (k : ℕ) (v : Value) (ls : List (Option Value)) → InSlots ls → V v → InSlots (put_local k v ls)
  put_slot k v ls h g =
      let put = set_slot (clear_before k ls) k (Some v) (cleared k ls h) g in
      slots_if (is_pair v) (slice_set (slice_set (clear_before k ls) k (Some v)) (k + 1) None) (slice_set (clear_before k ls) k (Some v))
      (set_slot (slice_set (clear_before k ls) k (Some v)) (k + 1) None put tt) put

  -- ---- arguments

  none_each : (n : ℕ) → InSlots (replicate n None)
  none_each zero = tt
  none_each (suc n) = (tt, none_each n)

  spread_one : (b : Bool) (v : Value) → V v → InSlots (if b then Some v ∷ None ∷ [] else Some v ∷ [])
  spread_one true v h = (h, (tt, tt))
  spread_one false v h = (h, tt)

  spread_all : (vs : List Value) → All vs → InSlots (spread_values vs)
  spread_all [] h = tt
  spread_all (v ∷ vs) h = each_append InSlot (spread_value v) (spread_values vs) (spread_one (is_pair v) v h.0) (spread_all vs h.1)

  pub locals_all : (n : ℕ) (vs : List Value) → All vs → InSlots (locals_for n vs)
  locals_all n vs h =
      each_append InSlot (spread_values vs) (replicate (n - length (spread_values vs)) None) (spread_all vs h) (none_each (n - length (spread_values vs)))

  abbrev pub Given : Option Arguments → Type 0
  Given None = ⊤
  Given (Some a) = All a.values × All a.rest

  before : (type : FieldType) (o : Option Arguments) → Given o → Given (argument_before type o)
  before type None h = tt
  before type (Some a) h = by a.rest h.1
    where
      test : (b : Bool) (v : Value) (rest : List Value) → V v → All rest
          → Given (if b then Some (record { values = v ∷ a.values; rest = rest }) else None)
      test true v rest x y = ((x, h.0), y)
      test false v rest x y = tt

      by : (rest : List Value) → All rest
          → Given (elim rest [ [] ↦ None | v ∷ rest ↦ if is_of_type type v then Some (record { values = v ∷ a.values; rest = rest }) else None ])
      by [] x = tt
      by (v ∷ rest) x = test (is_of_type type v) v rest x.0 x.1

  pub given : (types : List FieldType) (stack : List Value) → All stack → Given (taken_for types stack)
  given [] stack h = (tt, h)
  given (type ∷ types) stack h = before type (taken_for types stack) (given types stack h)

  module _ (hold : HoldsOfOthers) where
    -- ---- numbers

    pub element_holds : (type : FieldType) (x : ℤ) → V (element_value type x)
    element_holds Long x = hold.longs x
    element_holds other x = hold.ints x

    pub stored_holds : (type : FieldType) (v : Value) → V v → V (stored_as type v)
    stored_holds type (int x) h = hold.ints _
    stored_holds type other h = h

    -- ---- effects

    abbrev pub InEffect : Effect → Type 0
    InEffect (gives taken results) = All results
    InEffect (effects.raises c) = ⊤
    InEffect unfit = ⊤

    if_effect : (b : Bool) (x y : Effect) → InEffect x → InEffect y → InEffect (if b then x else y)
    if_effect true x y h g = h
    if_effect false x y h g = g

    int_in : (n : ℕ) (z : ℤ) → InEffect (int_for n z)
    int_in n z = (hold.ints z, tt)

    long_in : (n : ℕ) (z : ℤ) → InEffect (long_for n z)
    long_in n z = (hold.longs z, tt)

    when_in : (op j : ℕ) (x y : Effect) → InEffect x → InEffect y → InEffect (when op j x y)
    when_in op j x y h g = if_effect (nat_eq op j) x y h g

    divided_in : (y : ℤ) (x : Effect) → InEffect x → InEffect (divided y x)
    divided_in y x h = if_effect (int_le y (pos 0) && int_le (pos 0) y) (effects.raises thrown.ArithmeticException) x tt h

    int_bits_in : (op : ℕ) (x y : ℤ) → InEffect (int_bits op x y)
    unfolding int_bits
    int_bits_in op x y =
        when_in op 120 _ _ (int_in 2 _) (when_in op 122 _ _ (int_in 2 _) (when_in op 124 _ _ (int_in 2 _)
        (when_in op 126 _ _ (int_in 2 _) (when_in op 128 _ _ (int_in 2 _) (when_in op 130 _ _ (int_in 2 _) tt)))))

    int_pair_in : (op : ℕ) (x y : ℤ) → InEffect (int_pair op x y)
    unfolding int_pair
    int_pair_in op x y =
        when_in op 96 _ _ (int_in 2 _) (when_in op 100 _ _ (int_in 2 _) (when_in op 104 _ _ (int_in 2 _)
        (when_in op 108 _ _ (divided_in y _ (int_in 2 _)) (when_in op 112 _ _ (divided_in y _ (int_in 2 _)) (int_bits_in op x y)))))

    long_pair_in : (op : ℕ) (x y : ℤ) → InEffect (long_pair op x y)
    unfolding long_pair
    long_pair_in op x y =
        when_in op 97 _ _ (long_in 2 _) (when_in op 101 _ _ (long_in 2 _) (when_in op 105 _ _ (long_in 2 _)
        (when_in op 109 _ _ (divided_in y _ (long_in 2 _)) (when_in op 113 _ _ (divided_in y _ (long_in 2 _))
        (when_in op 127 _ _ (long_in 2 _) (when_in op 129 _ _ (long_in 2 _) (when_in op 131 _ _ (long_in 2 _) (when_in op 148 _ _ (int_in 2 _) tt))))))))

    long_shift_in : (op : ℕ) (x y : ℤ) → InEffect (long_shift op x y)
    unfolding long_shift
    long_shift_in op x y = when_in op 121 _ _ (long_in 2 _) (when_in op 123 _ _ (long_in 2 _) (when_in op 125 _ _ (long_in 2 _) tt))

    int_single_in : (op : ℕ) (x : ℤ) → InEffect (int_single op x)
    unfolding int_single
    int_single_in op x =
        when_in op 116 _ _ (int_in 1 _) (when_in op 133 _ _ (long_in 1 _) (when_in op 145 _ _ (int_in 1 _)
        (when_in op 146 _ _ (int_in 1 _) (when_in op 147 _ _ (int_in 1 _) tt))))

    long_single_in : (op : ℕ) (x : ℤ) → InEffect (long_single op x)
    unfolding long_single
    long_single_in op x = when_in op 117 _ _ (long_in 1 _) (when_in op 136 _ _ (int_in 1 _) tt)

    single_in : (op : ℕ) (stack : List Value) → InEffect (single op stack)
    unfolding single
    single_in op (int x ∷ stack) = int_single_in op x
    single_in op (long x ∷ stack) = long_single_in op x
    single_in op stack = tt

    pair_in : (op : ℕ) (stack : List Value) → InEffect (pair op stack)
    unfolding pair
    pair_in op (int y ∷ int x ∷ stack) = int_pair_in op x y
    pair_in op (long y ∷ long x ∷ stack) = long_pair_in op x y
    pair_in op (int y ∷ long x ∷ stack) = long_shift_in op x y
    pair_in op stack = tt

    constant_in : (op : ℕ) → InEffect (constant op)
    unfolding constant
    constant_in op =
        when_in op 0 (gives 0 []) _ tt (when_in op 1 (gives 0 (null ∷ [])) _ (hold.nulls, tt)
        (when_in op 9 (long_for 0 (pos 0)) _ (long_in 0 (pos 0)) (when_in op 10 (long_for 0 (pos 1)) (int_for 0 (pos op -ℤ pos 3)) (long_in 0 (pos 1)) (int_in 0 _))))

    read_in : (stack : List Value) (k : ℕ) → All stack → V (slice_index_or stack k null)
    read_in [] k h = hold.nulls
    read_in (v ∷ stack) zero h = h.0
    read_in (v ∷ stack) (suc k) h = read_in stack k h.1

    results_in : (places : List ℕ) (stack : List Value) → All stack → All (results_at places stack)
    results_in [] stack h = tt
    results_in (k ∷ places) stack h = (read_in stack k h, results_in places stack h)

    moved_in : (moves : List Move) (stack : List Value) → All stack → InEffect (moved moves stack)
    moved_in [] stack h = tt
    moved_in (m ∷ moves) stack h =
        if_effect (stand_categories m.categories stack) (gives _ (results_at m.results stack)) (moved moves stack) (results_in m.results stack h)
        (moved_in moves stack h)

    pub effect_in : (op : ℕ) (stack : List Value) → All stack → InEffect (effect op stack)
    unfolding effect
    effect_in op stack h =
        if_effect (nat_le op opcode.lconst_1) _ _ (constant_in op) (if_effect (nat_lt op opcode.iadd) _ _ (moved_in (moves_of op) stack h)
        (if_effect (has_one_operand op) _ _ (single_in op stack) (pair_in op stack)))
