-- The world in which a case begins fits its program.
use Rattle.std.proofs.Common.{◌≡◌, inl, inr, ℕ, zero, suc, ◌-◌, ◌≤◌, ℤ, Bool, true, false, not, cond, List, [], ◌∷◌, ◌++◌, length, replicate, map, Option, Some, None, get_or, refl, sym, ◌∙◌, ap, subst, arith}
use Rattle.std.proofs.lemmas.Option.{slice_get_within, get_or_from_slice_get, slice_get-get_or, slice_get-map, same_Some}
use Rattle.std.proofs.lemmas.List.Quantifiers.{position-Some}
use Rattle.std.specs.Prelude.{All, IsTrue, slice_get, option_and_then, option_map, position}
use Rattle.std.specs.List.{AllByRecursion}
use Rattle.std.proofs.lemmas.Bool.{and_parts, not-true, false≢true}
use Rattle.jc_bytes.specs.Descriptor.{FieldType, Byte, Char, Double, Float, Int, Long, Short, Boolean, Object, Array}
use Rattle.jc_bytes.proofs.OptionLaws.{none_some, map_some, then_some}
use Rattle.jc_bytes.proofs.EachLaws.{all_both}
use Rattle.jc_methods.specs.declared.body.Body.{Body}
use Rattle.jc_methods.specs.DescriptorTypes.{field_type_in, method_type_in}
use Rattle.jc_methods.specs.EntryState.{is_static, spread_one, spread, in_locals, held_of, this_of, entry_of as first_state}
use Rattle.jc_methods.specs.VerificationTypes.{VerificationType, TypeState}
use Rattle.jc_methods.specs.VerificationTypes as verification
use Rattle.jc_programs.specs.declared.program.Program.{Program}
use Rattle.jc_programs.specs.declared.program.Linked.{Linked}
use Rattle.jc_programs.specs.declared.program.StaticField.{StaticField}
use Rattle.jc_programs.specs.declared.run_plan.ThreadLine.{ThreadLine}
use Rattle.jc_programs.specs.declared.run_end.Entry.{Entry}
use Rattle.jc_programs.specs.Members.{class_named, class_at}
use Rattle.jc_programs.specs.Entries.{is_argument, are_arguments, is_entry, entry_in, entry_of, AreEntries}
use Rattle.jc_kinds.specs.Fits.{IsObject, IsNullOrObject, Fits, FitEach, FitState, FitsThere}
use Rattle.jc_kinds.specs.States.{state_of}
use Rattle.jc_machine_model.specs.Methods.{is_init_name, is_plain, is_enterable, is_synchronized}
use Rattle.jc_machine_model.specs.Programs.{IsProgram, IsLinked, IsProgramBody}
use Rattle.jc_machine_model.specs.Values.{Value, int, long, ComputationalType, int_type, long_type, reference_type, is_of}
use Rattle.jc_machine_model.specs.World.{Frame, running, stuck}
use Rattle.jc_machine_model.specs.Calls.{spread_value, spread_values, locals_for}
use Rattle.jc_machine_model.specs.Step.{is_init_method, named_init, counted_frames}
use Rattle.jc_machine_model.specs.Begin.{number_value, first_of, first_value, argument_values, first_frame, thread_in, thread_for, first_thread, first_threads, begin}
use Rattle.jc_machine_model.specs.Fits.{IsInSlot, AreInSlots, IsStack, IsThere, IsThereInSlot, AreThereIn, IsOfType, IsFieldRight, AreStatics, FitsTop, FitsRunning, FitsThread}
use Rattle.jc_machine_model.specs.Laws.{BeginFits}
use Rattle.jc_machine_model.proofs.PairLaws.{begin_pairs}

-- ---- options and tests

pub all_at : {X : Type 0} (P : X → Type 0) (xs : List X) (k : ℕ) (x : X) → All P xs → slice_get xs k ≡ Some x → P x
all_at P xs k x h e = subst P (get_or_from_slice_get xs k x x e) (h k x (slice_get_within xs k x e))

pub each_replicate : {X : Type 0} (P : X → Type 0) (n : ℕ) (x : X) → P x → AllByRecursion P (replicate n x)
each_replicate P zero x h = tt
each_replicate P (suc n) x h = (h, each_replicate P n x h)

-- ---- arguments

value_fits : (type : FieldType) (n : ℤ) → is_argument type n ≡ true → AreInSlots (spread_value (number_value type n)) (spread_one (held_of type))
value_fits Boolean n e = (tt, tt)
value_fits Byte n e = (tt, tt)
value_fits Char n e = (tt, tt)
value_fits Short n e = (tt, tt)
value_fits Int n e = (tt, tt)
value_fits Long n e = (tt, (tt, tt))
value_fits Float n e = absurd (false≢true e)
value_fits Double n e = absurd (false≢true e)
value_fits (Object name) n e = absurd (false≢true e)
value_fits (Array component) n e = absurd (false≢true e)

pub slots_append : (a b : List (Option Value)) (x y : List VerificationType) → AreInSlots a x → AreInSlots b y → AreInSlots (a ++ b) (x ++ y)
slots_append [] b [] y p q = q
slots_append [] b (h ∷ x) y p q = absurd p
slots_append (l ∷ a) b [] y p q = absurd p
slots_append (l ∷ a) b (h ∷ x) y p q = (p.0, slots_append a b x y p.1 q)

pub slots_length : (a : List (Option Value)) (x : List VerificationType) → AreInSlots a x → length a ≡ length x
slots_length [] [] p = refl
slots_length [] (h ∷ x) p = absurd p
slots_length (l ∷ a) [] p = absurd p
slots_length (l ∷ a) (h ∷ x) p = let e = slots_length a x p.1 in grind (arith, e)

pub all_top : (n : ℕ) → AreInSlots (replicate n None) (replicate n verification.top)
all_top zero = tt
all_top (suc n) = (tt, all_top n)

values_fit : (types : List FieldType) (numbers : List ℤ) → are_arguments types numbers ≡ true → AreInSlots (spread_values (argument_values types numbers)) (spread (map held_of types))
values_fit [] [] e = tt
values_fit [] (n ∷ numbers) e = absurd (false≢true e)
values_fit (type ∷ types) [] e = absurd (false≢true e)
values_fit (type ∷ types) (n ∷ numbers) e =
    let p = and_parts (is_argument type n) (are_arguments types numbers) e in
    slots_append (spread_value (number_value type n)) (spread_values (argument_values types numbers)) (spread_one (held_of type))
    (spread (map held_of types)) (value_fits type n p.0) (values_fit types numbers p.1)

locals_fit : (most : ℕ) (types : List FieldType) (numbers : List ℤ) → are_arguments types numbers ≡ true
    → AreInSlots (locals_for most (argument_values types numbers)) (in_locals most (map held_of types))
locals_fit most types numbers e =
    let a = spread_values (argument_values types numbers) in
    let x = spread (map held_of types) in
    let p = values_fit types numbers e in
    subst (λ n. AreInSlots (a ++ replicate (most - n) None) (x ++ replicate (most - length x) verification.top)) (sym (slots_length a x p))
    (slots_append a (replicate (most - length x) None) x (replicate (most - length x) verification.top) p (all_top (most - length x)))

-- ---- values that fit stay

from_object : (l : Option Value) (h : VerificationType) (name : List ℕ) → IsNullOrObject h → IsInSlot l h → IsInSlot l (verification.object name)
from_object (Some v) verification.null name a p = p
from_object (Some v) (verification.object other) name a p = p
from_object None verification.null name a p = p
from_object None (verification.object other) name a p = p
from_object l h name a p = absurd a

to_object : (l : Option Value) (h k : VerificationType) → IsNullOrObject h → IsObject k → IsInSlot l h → IsInSlot l k
to_object l h (verification.object name) a b p = from_object l h name a p
to_object l h k a b p = absurd b

pub slot_fits : (l : Option Value) (h k : VerificationType) → IsInSlot l h → Fits h k → IsInSlot l k
slot_fits l h k p (inl e) = subst (λ x. IsInSlot l x) (sym e) tt
slot_fits l h k p (inr (inl e)) = subst (λ x. IsInSlot l x) e p
slot_fits l h k p (inr (inr o)) = to_object l h k o.0 o.1 p

pub slots_fit : (a : List (Option Value)) (x y : List VerificationType) → AreInSlots a x → FitEach x y → AreInSlots a y
slots_fit [] [] [] p f = tt
slots_fit [] [] (k ∷ y) p f = absurd f
slots_fit [] (h ∷ x) y p f = absurd p
slots_fit (l ∷ a) [] y p f = absurd p
slots_fit (l ∷ a) (h ∷ x) [] p f = absurd f
slots_fit (l ∷ a) (h ∷ x) (k ∷ y) p f = (slot_fits l h k p.0 f.0, slots_fit a x y p.1 f.1)

pub nothing_fits : (y : List VerificationType) → FitEach [] y → IsStack [] y
nothing_fits [] f = tt
nothing_fits (k ∷ y) f = absurd f

pub there_is : (s : TypeState) (o : Option TypeState) → FitsThere (Some s) o → (t : TypeState) × (o ≡ Some t) × FitState s t
there_is s None f = absurd f
there_is s (Some t) f = (t, refl, f)

-- ---- numbers are no references to what isn't there

number_there : (program : Program) (type : FieldType) (n : ℤ) → IsThere program [] (number_value type n)
number_there program Boolean n = tt
number_there program Byte n = tt
number_there program Char n = tt
number_there program Short n = tt
number_there program Int n = tt
number_there program Long n = tt
number_there program Float n = tt
number_there program Double n = tt
number_there program (Object name) n = tt
number_there program (Array component) n = tt

spread_there : (program : Program) (type : FieldType) (n : ℤ) → AllByRecursion (IsThereInSlot program []) (spread_value (number_value type n))
spread_there program Boolean n = (tt, tt)
spread_there program Byte n = (tt, tt)
spread_there program Char n = (tt, tt)
spread_there program Short n = (tt, tt)
spread_there program Int n = (tt, tt)
spread_there program Long n = (tt, (tt, tt))
spread_there program Float n = (tt, tt)
spread_there program Double n = (tt, tt)
spread_there program (Object name) n = (tt, tt)
spread_there program (Array component) n = (tt, tt)

values_there : (program : Program) (types : List FieldType) (numbers : List ℤ) → AllByRecursion (IsThereInSlot program []) (spread_values (argument_values types numbers))
values_there program [] numbers = tt
values_there program (type ∷ types) [] = tt
values_there program (type ∷ types) (n ∷ numbers) =
    all_both (IsThereInSlot program []) (spread_value (number_value type n)) (spread_values (argument_values types numbers)) (spread_there program type n) (values_there program types numbers)

first_there : (program : Program) (type : Option FieldType) (n : ℤ) → IsThere program [] (first_of type n)
first_there program None n = tt
first_there program (Some Boolean) n = tt
first_there program (Some Byte) n = tt
first_there program (Some Char) n = tt
first_there program (Some Short) n = tt
first_there program (Some Int) n = tt
first_there program (Some Long) n = tt
first_there program (Some Float) n = tt
first_there program (Some Double) n = tt
first_there program (Some (Object name)) n = tt
first_there program (Some (Array component)) n = tt

fields_there : (program : Program) (statics : List StaticField) → AllByRecursion (IsThere program []) (map first_value statics)
fields_there program [] = tt
fields_there program (f ∷ statics) = (first_there program (field_type_in f.desc) f.first, fields_there program statics)

statics_there : (program : Program) (classes : List Linked) → AllByRecursion (AllByRecursion (IsThere program [])) (map (λ (c : Linked). map first_value c.statics) classes)
statics_there program [] = tt
statics_there program (c ∷ classes) = (fields_there program c.statics, statics_there program classes)

-- ---- static fields

sort_holds : (a b : ComputationalType) (v : Value) → IsTrue (is_of a v) → Some a ≡ Some b → IsTrue (is_of b v)
sort_holds a b v h e = subst (λ s. IsTrue (is_of s v)) (same_Some a b e) h

first_right : (type : Option FieldType) (n : ℤ) → IsOfType type (Some (first_of type n))
first_right None n = tt
first_right (Some Boolean) n = λ s e. sort_holds int_type s (int n) refl e
first_right (Some Byte) n = λ s e. sort_holds int_type s (int n) refl e
first_right (Some Char) n = λ s e. sort_holds int_type s (int n) refl e
first_right (Some Short) n = λ s e. sort_holds int_type s (int n) refl e
first_right (Some Int) n = λ s e. sort_holds int_type s (int n) refl e
first_right (Some Long) n = λ s e. sort_holds long_type s (long n) refl e
first_right (Some Float) n = λ s e. absurd (none_some e)
first_right (Some Double) n = λ s e. absurd (none_some e)
first_right (Some (Object name)) n = λ s e. sort_holds reference_type s Value.null refl e
first_right (Some (Array component)) n = λ s e. sort_holds reference_type s Value.null refl e

field_right : (c : Linked) (k : ℕ) (f : StaticField) → slice_get c.statics k ≡ Some f → IsFieldRight c (map first_value c.statics) k f
field_right c k f e n =
    subst (λ o. IsOfType (field_type_in f.desc) o) (sym (slice_get-map first_value c.statics k ∙ ap (option_map first_value) e)) (first_right (field_type_in f.desc) f.first)

pub map_length : {X Y : Type 0} (f : X → Y) (xs : List X) → length (map f xs) ≡ length xs
map_length f [] = refl
map_length f (x ∷ xs) = let e = map_length f xs in grind (arith, e)

statics_fit : (classes : List Linked) → AreStatics classes (map (λ (c : Linked). map first_value c.statics) classes)
statics_fit [] = tt
statics_fit (c ∷ classes) =
    (record { count = map_length first_value c.statics; right = field_right c; held = λ k f type v e n t q r. r }, statics_fit classes)

-- ---- threads

pub no_body : Body
no_body = record {
  method = 0;
  owner = [];
  name = [];
  desc = [];
  flags = 0;
  arg_slots = 0;
  max_stack = 0;
  max_locals = 0;
  code = [];
  handlers = [];
  lines = [];
  vars = [];
  kind_vars = [];
  frames = [];
  uses = [];
}

-- what an entry is
record IsEntry (program : Program) (thread : ThreadLine) (entry : Entry) : Type 0 where
  linked : Linked
  class_is : class_at program entry.class ≡ Some linked
  body : Body
  body_is : slice_get linked.bodies entry.method ≡ Some body
  passes : is_entry thread body ≡ true

entry_is : (program : Program) (thread : ThreadLine) (entry : Entry) → entry_of program thread ≡ Some entry → IsEntry program thread entry
unfolding entry_of
entry_is program thread entry e =
    let a = then_some (λ (class : ℕ). option_and_then (entry_in thread class) (class_at program class)) (class_named program thread.class) entry e in
    let b = then_some (entry_in thread a.0) (class_at program a.0) entry a.2 in
    let c = map_some (λ (k : ℕ). record { class = a.0; method = k }) (position (is_entry thread) b.0.bodies) entry b.2 in
    let p = position-Some (is_entry thread) b.0.bodies c.0 no_body c.1 in
    subst (λ m. IsEntry program thread m) c.2 (record {
      linked = b.0;
      class_is = b.1;
      body = get_or b.0.bodies c.0 no_body;
      body_is = slice_get-get_or b.0.bodies c.0 no_body p.0;
      passes = p.1;
    })

counted_one : (program : Program) (f : Frame) → is_init_method program f.method ≡ false → counted_frames program (f ∷ []) ≡ 1
counted_one program f e = ap (λ b. length (cond (not b) (f ∷ []) [])) e

-- the parts of what is tested of an entry
record Passed (thread : ThreadLine) (b : Body) : Type 0 where
  static : is_static b.flags ≡ true
  no_init : is_init_name b.name ≡ false
  arguments : are_arguments (method_type_in b.desc).parameters thread.args ≡ true

passed : (thread : ThreadLine) (b : Body) → is_entry thread b ≡ true → Passed thread b
passed thread b e =
    let p = and_parts (is_static b.flags) _ e in
    let q = and_parts _ _ p.1 in
    let r = and_parts _ _ q.1 in
    record { static = p.0; no_init = not-true (is_init_name b.name) r.0; arguments = r.1 }

-- what is known of the method with which a thread begins
record Begun (program : Program) (method : Entry) (numbers : List ℤ) (c : Linked) (b : Body) : Type 0 where
  class_is : class_at program method.class ≡ Some c
  body_is : slice_get c.bodies method.method ≡ Some b
  static : is_static b.flags ≡ true
  no_init : is_init_name b.name ≡ false
  arguments : are_arguments (method_type_in b.desc).parameters numbers ≡ true
  whole : IsProgramBody program.names b

begins_no_init : (program : Program) (method : Entry) (numbers : List ℤ) (c : Linked) (b : Body) → Begun program method numbers c b → is_init_method program method ≡ false
begins_no_init program method numbers c b k =
    subst (λ o. named_init (option_and_then (λ (d : Linked). slice_get d.bodies method.method) o) ≡ false) (sym k.class_is)
    (subst (λ o. named_init o ≡ false) (sym k.body_is) k.no_init)

-- the values are of the kinds of the state in which the method begins
begins_in_slots : (program : Program) (method : Entry) (numbers : List ℤ) (c : Linked) (b : Body) → Begun program method numbers c b
    → AreInSlots (first_frame method b numbers).locals (first_state b).locals
begins_in_slots program method numbers c b k =
    subst (λ s. AreInSlots (locals_for b.max_locals (argument_values (method_type_in b.desc).parameters numbers))
    (in_locals b.max_locals ((cond s [] (this_of b.owner b.name ∷ [])) ++ map held_of (method_type_in b.desc).parameters))) (sym k.static)
    (locals_fit b.max_locals (method_type_in b.desc).parameters numbers k.arguments)

frame_there : (program : Program) (method : Entry) (b : Body) (numbers : List ℤ) → AreThereIn program [] (first_frame method b numbers)
frame_there program method b numbers = let values = argument_values (method_type_in b.desc).parameters numbers in record {
  locals = all_both (IsThereInSlot program []) (spread_values values) (replicate (b.max_locals - length (spread_values values)) None)
      (values_there program (method_type_in b.desc).parameters numbers) (each_replicate (IsThereInSlot program []) (b.max_locals - length (spread_values values)) None tt);
  stack = tt;
}

frame_fits : (program : Program) (method : Entry) (numbers : List ℤ) (c : Linked) (b : Body) → Begun program method numbers c b
    → is_enterable c b ≡ true → FitsTop program (first_frame method b numbers)
frame_fits program method numbers c b k e =
    let s = there_is (first_state b) (state_of program.names b 0) k.whole.checked.entry in
    record {
      state = s.0;
      stands = record {
        linked = c;
        class_is = k.class_is;
        body = b;
        body_is = k.body_is;
        entered = (and_parts (is_plain c b) (not (is_synchronized b)) e).0;
        within = k.whole.well_made.of_any_size.code.some;
        state_is = s.1;
      };
      locals = slots_fit (first_frame method b numbers).locals (first_state b).locals s.0.locals (begins_in_slots program method numbers c b k) s.2.locals;
      pairs = begin_pairs b.max_locals (argument_values (method_type_in b.desc).parameters numbers);
      stack = nothing_fits s.0.stack s.2.stack;
    }

running_fits : (program : Program) (method : Entry) (numbers : List ℤ) (c : Linked) (b : Body) → Begun program method numbers c b
    → is_enterable c b ≡ true → FitsRunning program [] (first_frame method b numbers) []
running_fits program method numbers c b k e =
    let n = counted_one program (first_frame method b numbers) (begins_no_init program method numbers c b k) in
    record {
      some = subst (λ m. 1 ≤ m) (sym n) (omega arith);
      few = subst (λ m. m ≤ 128) (sym n) (omega arith);
      top = frame_fits program method numbers c b k e;
      below = tt;
      there = (frame_there program method b numbers, tt);
    }

module _ (program : Program) (method : Entry) (numbers : List ℤ) (c : Linked) (b : Body) where
  thread_if : (t : Bool) → is_enterable c b ≡ t → Begun program method numbers c b
      → FitsThread program [] (cond t (running (first_frame method b numbers) []) (stuck method 0))
  thread_if true e k = running_fits program method numbers c b k e
  thread_if false e k = record {
    body = b;
    body_is = ap (λ o. option_and_then (λ (d : Linked). slice_get d.bodies method.method) o) k.class_is ∙ k.body_is;
    within = k.whole.well_made.of_any_size.code.some;
  }

thread_fits : (program : Program) (thread : ThreadLine) (entry : Entry) → IsProgram program → entry_of program thread ≡ Some entry → FitsThread program [] (first_thread program entry thread.args)
thread_fits program thread entry p e =
    let i = entry_is program thread entry e in
    let q = passed thread i.body i.passes in
    let w = all_at (IsProgramBody program.names) i.linked.bodies entry.method i.body (all_at (IsLinked program.names) program.classes entry.class i.linked p.classes i.class_is).bodies i.body_is in
    let k : Begun program entry thread.args i.linked i.body = record { class_is = i.class_is; body_is = i.body_is; static = q.static; no_init = q.no_init; arguments = q.arguments; whole = w } in
    subst (λ o. FitsThread program [] (thread_for entry thread.args o)) (sym i.class_is)
    (subst (λ o. FitsThread program [] (elim o [ None ↦ stuck entry 0 | Some b ↦ thread_in entry thread.args i.linked b ])) (sym i.body_is)
    (thread_if program entry thread.args i.linked i.body (is_enterable i.linked i.body) refl k))

pub threads_fit : (program : Program) (threads : List ThreadLine) (entries : List Entry) → IsProgram program → AreEntries program threads entries
    → AllByRecursion (FitsThread program []) (first_threads program threads entries)
threads_fit program [] [] p e = tt
threads_fit program [] (entry ∷ entries) p e = absurd e
threads_fit program (thread ∷ threads) [] p e = absurd e
threads_fit program (thread ∷ threads) (entry ∷ entries) p e = (thread_fits program thread entry p e.0, threads_fit program threads entries p e.1)

-- ---- the world

pub begin_fits : BeginFits
unfolding begin
begin_fits program case entries p e = record {
  statics = statics_fit program.classes;
  threads = threads_fit program case.threads entries p e;
  there = statics_there program program.classes;
}
