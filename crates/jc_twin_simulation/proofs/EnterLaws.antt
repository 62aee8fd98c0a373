-- The frame of a method that is entered, and that of its twin.
use Rattle.std.proofs.Common.{◌≡◌, ℕ, zero, suc, Bool, true, false, List, [], ◌∷◌, ◌++◌, length, Option, Some, None, nat_eq, refl, sym, ap, ◌∙◌, subst, arith, length-append, if◌then◌else◌}
use Rattle.std.specs.Prelude.{⊤, slice_get}
use Rattle.std.specs.Int.Bits.{bit_and}
use Rattle.std.specs.List.{sum_by}
use Rattle.std.proofs.lemmas.List.Sums.{sum_by-cons}
use Rattle.std.proofs.lemmas.Bool.{eqb-false, not-true}
use Rattle.std.proofs.lemmas.Option.{none-some}
use Rattle.jc_bytes.specs.Descriptor.{FieldType, Byte, Char, Double, Float, Int, Long, Short, Boolean, Object, Array, MethodType, slots_of}
use Rattle.jc_methods.specs.DescriptorTypes.{method_type_in}
use Rattle.jc_methods.specs.EntryState.{is_static}
use Rattle.jc_methods.specs.WellMade.{TakeSlots}
use Rattle.jc_methods.proofs.DescriptorTypesLaws.{method_again}
use Rattle.jc_methods.specs.declared.probe_members.Fetch.{Fetch}
use Rattle.jc_programs.specs.declared.program.Program.{Program}
use Rattle.jc_programs.specs.declared.run_end.Entry.{Entry}
use Rattle.jc_emit.specs.Items.{Item, start, at_of}
use Rattle.jc_emit.specs.Local.{OkStart}
use Rattle.jc_machine_model.specs.Values.{Value, int, long, int_type, long_type, reference_type, is_of, is_pair}
use Rattle.jc_machine_model.specs.Statics.{is_of_type}
use Rattle.jc_machine_model.specs.Calls.{Arguments, argument_before, taken_for, spread_value, spread_values, locals_for}
use Rattle.jc_machine_model.specs.Step.{new_frame}
use Rattle.jc_twin_simulation.specs.Sides.{Side, array_of, way_of, IsSide}
use Rattle.jc_twin_simulation.specs.Beside.{pushed_of, SameFrame}
use Rattle.jc_twin_simulation.proofs.SlotLaws.{Locals}
use Rattle.jc_twin_simulation.proofs.LocalLaws.{none_pushed, Ends, new_locals}

-- ---- how many local variables values take

abbrev slots : Value → ℕ
slots v = length (spread_value v)

int_slots : (v : Value) → is_of int_type v ≡ true → slots v ≡ 1
int_slots (int x) e = refl
int_slots _ e = cc

long_slots : (v : Value) → is_of long_type v ≡ true → slots v ≡ 2
long_slots (long x) e = refl
long_slots _ e = cc

reference_slots : (v : Value) → is_of reference_type v ≡ true → slots v ≡ 1
reference_slots (int x) e = cc
reference_slots (long x) e = cc
reference_slots _ e = refl

pub value_slots : (type : FieldType) (v : Value) → is_of_type type v ≡ true → slots v ≡ slots_of type
value_slots Byte v e = int_slots v e
value_slots Char v e = int_slots v e
value_slots Double v e = cc
value_slots Float v e = cc
value_slots Int v e = int_slots v e
value_slots Long v e = long_slots v e
value_slots Short v e = int_slots v e
value_slots Boolean v e = int_slots v e
value_slots (Object name) v e = reference_slots v e
value_slots (Array component) v e = reference_slots v e

-- the values of arguments take as many as their types
abbrev pub AreFor : List FieldType → Option Arguments → Type 0
AreFor types None = ⊤
AreFor types (Some a) = length (spread_values a.values) ≡ sum_by slots_of types

taken_one : (type : FieldType) (types : List FieldType) (values : List Value) → length (spread_values values) ≡ sum_by slots_of types → (rest : List Value)
    → AreFor (type ∷ types) (elim rest [ [] ↦ None | v ∷ rest ↦ if is_of_type type v then Some (record { values = v ∷ values; rest = rest }) else None ])
taken_one type types values h [] = tt
taken_one type types values h (v ∷ rest) = by (is_of_type type v) refl
  where
    by : (b : Bool) → is_of_type type v ≡ b → AreFor (type ∷ types) (if b then Some (record { values = v ∷ values; rest = rest }) else None)
    by true e =
        let one = value_slots type v e in
        let both = length-append (spread_value v) (spread_values values) in
        let sum = sum_by-cons slots_of type types in
        omega (arith, one, both, sum, h)
    by false e = tt

taken_more : (type : FieldType) (types : List FieldType) (o : Option Arguments) → AreFor types o → AreFor (type ∷ types) (argument_before type o)
taken_more type types None h = tt
taken_more type types (Some a) h = taken_one type types a.values h a.rest

pub taken_fits : (types : List FieldType) (stack : List Value) → AreFor types (taken_for types stack)
taken_fits [] stack = refl
taken_fits (type ∷ types) stack = taken_more type types (taken_for types stack) (taken_fits types stack)

-- ---- no long begins in the last of them

ends_more : (x y : Option Value) (rest : Locals) (a : Value) → Ends a (y ∷ rest) → Ends a (x ∷ y ∷ rest)
ends_more x y rest a h zero e = absurd (omega arith)
ends_more x y rest a h (suc k) e = h k (omega arith)

pub values_end : (a : Value) (values : List Value) → Ends a (spread_values values)
values_end a [] = λ k e. absurd (omega arith)
values_end a (v ∷ values) = by (is_pair v) refl (spread_values values) (values_end a values)
  where
    one : (w : Value) → is_pair w ≡ false → Ends a (Some w ∷ [])
    one w n zero e = n
    one w n (suc k) e = absurd (omega arith)

    none : Ends a (None ∷ [])
    none zero e = refl
    none (suc k) e = absurd (omega arith)

    front : (w : Option Value) (rest : Locals) → Ends a (w ∷ []) → Ends a rest → Ends a (w ∷ rest)
    front w [] n h = n
    front w (z ∷ rest) n h = ends_more w z rest a h

    by : (b : Bool) → is_pair v ≡ b → (rest : Locals) → Ends a rest → Ends a ((if b then Some v ∷ None ∷ [] else Some v ∷ []) ++ rest)
    by true q rest h = ends_more (Some v) None rest a (front None rest none h)
    by false q rest h = front (Some v) rest (one v q) h

-- ---- the arguments of a static method

pub static_slots : (flags slots : ℕ) (desc : List ℕ) → TakeSlots flags desc slots → is_static flags ≡ true
    → slots ≡ sum_by slots_of (method_type_in desc).parameters
static_slots flags count desc t s =
    t.static_slots (eqb-false (bit_and flags 0x0008) 0 (not-true (nat_eq (bit_and flags 0x0008) 0) s))
    ∙ sym (ap (λ (m : MethodType). sum_by slots_of m.parameters) (method_again desc t.type t.described))

module _ (p p' : Program) (sides : Entry → Side) where
  -- frames of a method and of its twin, with these values as arguments
  pub enters_same : (m : Entry) → IsSide p p' m (sides m) → (sides m).class.has_clinit ≡ false → (values : List Value)
      → length (spread_values values) ≡ (sides m).body.arg_slots
      → SameFrame p p' sides (new_frame m (locals_for (sides m).body.max_locals values)) (new_frame m (locals_for (sides m).twin.max_locals values))
  enters_same m side entered values short = by (sides m).slot refl
    where
      t : Side
      t = sides m

      a : Value
      a = array_of t m.class

      frame : (item : Item) → slice_get t.items 0 ≡ Some item → at_of item ≡ 0 → pushed_of a item ≡ [] → ((v : ℕ) → t.slot ≡ Some v → (fetch : Fetch) × (item ≡ start fetch 0))
          → SameFrame p p' sides (new_frame m (locals_for t.body.max_locals values)) (new_frame m (locals_for t.twin.max_locals values))
      frame item here at none new = record {
        one = record { method = refl; side = side; entered = entered };
        item = item;
        here = here;
        at = at;
        stack = ap (λ l. l ++ []) (sym none);
        locals =
            new_locals a t.slot t.body.max_locals t.twin.max_locals t.body.arg_slots (spread_values values) item side.max_locals short (values_end a values)
            (λ v e. let first = (side.changed v e).slot in let fit = side.well.arguments_fit in (first, omega (arith, first, fit))) new;
      }

      by : (o : Option ℕ) → t.slot ≡ o
          → SameFrame p p' sides (new_frame m (locals_for t.body.max_locals values)) (new_frame m (locals_for t.twin.max_locals values))
      by None e =
          let begins = subst (OkStart t.body.code t.slot t.ids t.items) e side.ok.start in
          let s = begins.stands in
          frame s.item s.here s.at_is (none_pushed a t 0 0 None s) (λ v q. absurd (none-some v (sym e ∙ q)))
      by (Some v) e = frame (start (way_of t) 0) (side.changed v e).gets.starts refl refl (λ u q. (way_of t, refl))
