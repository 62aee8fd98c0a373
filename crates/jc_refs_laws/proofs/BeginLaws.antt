-- The world in which a case begins has no reference but null. So it fits by classes too.
use Rattle.std.proofs.Common.{◌≡◌, inl, ℕ, ◌-◌, ℤ, Bool, true, false, cond, List, [], ◌∷◌, length, replicate, reverse, map, Option, Some, None, refl, sym, ◌∙◌, ap, subst}
use Rattle.std.specs.Prelude.{slice_get, option_map}
use Rattle.std.specs.List.{AllByRecursion}
use Rattle.std.proofs.lemmas.Bool.{false≢true}
use Rattle.std.proofs.lemmas.Option.{slice_get-map, same_Some}
use Rattle.jc_bytes.specs.Descriptor.{FieldType, Long, Object, Array}
use Rattle.jc_bytes.proofs.EachLaws.{all_both}
use Rattle.jc_methods.specs.declared.body.Body.{Body}
use Rattle.jc_methods.specs.DescriptorTypes.{field_type_in, method_type_in}
use Rattle.jc_methods.specs.EntryState.{held_of}
use Rattle.jc_methods.specs.VerificationTypes.{VerificationType}
use Rattle.jc_methods.specs.VerificationTypes as verification
use Rattle.jc_programs.specs.declared.program.Program.{Program}
use Rattle.jc_programs.specs.declared.program.Linked.{Linked}
use Rattle.jc_programs.specs.declared.program.StaticField.{StaticField}
use Rattle.jc_programs.specs.declared.run_plan.Case.{Case}
use Rattle.jc_programs.specs.declared.run_plan.ThreadLine.{ThreadLine}
use Rattle.jc_programs.specs.declared.run_end.Entry.{Entry}
use Rattle.jc_programs.specs.Members.{class_at}
use Rattle.jc_programs.specs.Entries.{AreEntries}
use Rattle.jc_machine_model.specs.Methods.{is_enterable}
use Rattle.jc_machine_model.specs.Programs.{IsProgram}
use Rattle.jc_machine_model.specs.Values.{Value, is_reference}
use Rattle.jc_machine_model.specs.World.{running, stuck}
use Rattle.jc_machine_model.specs.Calls.{spread_value, spread_values}
use Rattle.jc_machine_model.specs.Begin.{number_value, first_of, first_value, argument_values, first_frame, thread_in, thread_for, first_thread, first_threads, begin}
use Rattle.jc_machine_model.specs.Fits.{IsReference, any_reference, nothing_made, made_in, IsInSlotBy, AreInSlotsBy, AreOfBy, AreStaticsBy, AreStatics, FitsRunning, FitsRunningBy, FitsThread, FitsThreadBy, FitsWorld}
use Rattle.jc_machine_model.proofs.BeginLaws.{each_replicate, begin_fits}
use Rattle.jc_refs_laws.specs.Classes.{HoldsClass, by_class, FitsByClass}

-- ---- numbers are of no type of references

abbrev IsNumberSlot : Option Value → Type 0
IsNumberSlot None = Unit {0}
IsNumberSlot (Some v) = is_reference v ≡ false

module _ (R : Value → VerificationType → Type 0) where
  slot_by : (l : Option Value) (h : VerificationType) → IsInSlotBy any_reference l h → IsNumberSlot l → IsInSlotBy R l h
  slot_by l verification.top p n = tt
  slot_by None h p n = absurd p
  slot_by (Some v) verification.int p n = p
  slot_by (Some v) verification.long p n = p
  slot_by (Some v) verification.float p n = p
  slot_by (Some v) verification.double p n = p
  slot_by (Some v) h p n = absurd (false≢true (sym n ∙ p))

  slots_by : (locals : List (Option Value)) (types : List VerificationType) → AreInSlotsBy any_reference locals types → AllByRecursion IsNumberSlot locals
      → AreInSlotsBy R locals types
  slots_by [] [] p n = tt
  slots_by [] (h ∷ types) p n = absurd p
  slots_by (l ∷ locals) [] p n = absurd p
  slots_by (l ∷ locals) (h ∷ types) p n = (slot_by l h p.0 n.0, slots_by locals types p.1 n.1)

  nothing_by : (types : List VerificationType) → AreOfBy any_reference [] types → AreOfBy R [] types
  nothing_by [] p = tt
  nothing_by (h ∷ types) p = absurd p

number_slots : (type : FieldType) (n : ℤ) → AllByRecursion IsNumberSlot (spread_value (number_value type n))
number_slots Long n = (refl, (tt, tt))
number_slots type n = (refl, tt)

values_slots : (types : List FieldType) (numbers : List ℤ) → AllByRecursion IsNumberSlot (spread_values (argument_values types numbers))
values_slots [] numbers = tt
values_slots (type ∷ types) [] = tt
values_slots (type ∷ types) (n ∷ numbers) =
    all_both IsNumberSlot (spread_value (number_value type n)) (spread_values (argument_values types numbers))
    (number_slots type n) (values_slots types numbers)

frame_slots : (method : Entry) (b : Body) (numbers : List ℤ) → AllByRecursion IsNumberSlot (first_frame method b numbers).locals
frame_slots method b numbers =
    let values = argument_values (method_type_in b.desc).parameters numbers in
    all_both IsNumberSlot (spread_values values) (replicate (b.max_locals - length (spread_values values)) None)
    (values_slots (method_type_in b.desc).parameters numbers)
    (each_replicate IsNumberSlot (b.max_locals - length (spread_values values)) None tt)

-- ---- threads

module _ (program : Program) (method : Entry) (numbers : List ℤ) where
  running_by : (c : Linked) (b : Body) → class_at program method.class ≡ Some c → slice_get c.bodies method.method ≡ Some b → is_enterable c b ≡ true
      → FitsRunning program [] (first_frame method b numbers) [] → FitsRunningBy by_class program [] (first_frame method b numbers) []
  running_by c b is there e r = record {
    some = r.some;
    few = r.few;
    top = record {
      state = r.top.state;
      stands = record {
        linked = r.top.stands.linked;
        class_is = r.top.stands.class_is;
        body = r.top.stands.body;
        body_is = r.top.stands.body_is;
        entered = subst (λ x. is_enterable r.top.stands.linked x ≡ true) (sym same_body) (subst (λ x. is_enterable x b ≡ true) (sym same_class) e);
        within = r.top.stands.within;
        state_is = r.top.stands.state_is;
      };
      locals =
          slots_by (HoldsClass [] (made_in r.top.stands.body)) (first_frame method b numbers).locals r.top.state.locals
          r.top.locals (frame_slots method b numbers);
      pairs = r.top.pairs;
      stack = nothing_by (HoldsClass [] (made_in r.top.stands.body)) (reverse r.top.state.stack) r.top.stack;
    };
    below = tt;
    there = r.there;
  }
    where
      same_class : r.top.stands.linked ≡ c
      same_class = same_Some r.top.stands.linked c (sym r.top.stands.class_is ∙ is)

      same_body : r.top.stands.body ≡ b
      same_body =
          same_Some r.top.stands.body b
          (sym r.top.stands.body_is ∙ ap (λ (x : Linked). slice_get x.bodies method.method) same_class ∙ there)

  entered_by : (c : Linked) (b : Body) → class_at program method.class ≡ Some c → slice_get c.bodies method.method ≡ Some b → (z : Bool) → is_enterable c b ≡ z
      → FitsThread program [] (cond z (running (first_frame method b numbers) []) (stuck method 0))
      → FitsThreadBy by_class program [] (cond z (running (first_frame method b numbers) []) (stuck method 0))
  entered_by c b is there true e p = running_by c b is there e p
  entered_by c b is there false e p = p

  body_by : (c : Linked) → class_at program method.class ≡ Some c → (o : Option Body) → slice_get c.bodies method.method ≡ o
      → FitsThread program [] (elim o [ None ↦ stuck method 0 | Some b ↦ thread_in method numbers c b ])
      → FitsThreadBy by_class program [] (elim o [ None ↦ stuck method 0 | Some b ↦ thread_in method numbers c b ])
  body_by c is None there p = p
  body_by c is (Some b) there p = entered_by c b is there (is_enterable c b) refl p

  class_by : (o : Option Linked) → class_at program method.class ≡ o → FitsThread program [] (thread_for method numbers o)
      → FitsThreadBy by_class program [] (thread_for method numbers o)
  class_by None is p = p
  class_by (Some c) is p = body_by c is (slice_get c.bodies method.method) refl p

  thread_by : FitsThread program [] (first_thread program method numbers) → FitsThreadBy by_class program [] (first_thread program method numbers)
  thread_by p = class_by (class_at program method.class) refl p

threads_by : (program : Program) (threads : List ThreadLine) (entries : List Entry)
    → AllByRecursion (FitsThread program []) (first_threads program threads entries)
    → AllByRecursion (FitsThreadBy by_class program []) (first_threads program threads entries)
threads_by program [] entries p = tt
threads_by program (thread ∷ threads) [] p = tt
threads_by program (thread ∷ threads) (entry ∷ entries) p = (thread_by program entry thread.args p.0, threads_by program threads entries p.1)

-- ---- static fields

no_number : (v w : Value) → v ≡ w → is_reference w ≡ false → IsReference v → ⊥
no_number v w e n r = false≢true (sym n ∙ ap is_reference (sym e) ∙ r)

-- a static field of references begins with null
first_held : (type : FieldType) (n : ℤ) (v : Value) → v ≡ first_of (Some type) n → IsReference v → HoldsClass [] nothing_made v (held_of type)
first_held (Object name) n v e r = inl e
first_held (Array component) n v e r = inl e
first_held Long n v e r = absurd (no_number v (Value.long n) e refl r)
first_held type n v e r = absurd (no_number v (Value.int n) e refl r)

field_held : (c : Linked) (k : ℕ) (f : StaticField) (type : FieldType) (v : Value) → slice_get c.statics k ≡ Some f → field_type_in f.desc ≡ Some type
    → slice_get (map first_value c.statics) k ≡ Some v → IsReference v → HoldsClass [] nothing_made v (held_of type)
field_held c k f type v is typed there r = first_held type f.first v value r
  where
    value : v ≡ first_of (Some type) f.first
    value =
        same_Some v (first_value f) (sym there ∙ slice_get-map first_value c.statics k ∙ ap (option_map first_value) is)
        ∙ ap (λ o. first_of o f.first) typed

statics_by : (classes : List Linked) → AreStatics classes (map (λ (c : Linked). map first_value c.statics) classes)
    → AreStaticsBy (HoldsClass [] nothing_made) classes (map (λ (c : Linked). map first_value c.statics) classes)
statics_by [] p = tt
statics_by (c ∷ classes) p = (
  record { count = p.0.count; right = p.0.right; held = λ k f type v is named typed there r. field_held c k f type v is typed there r },
  statics_by classes p.1,
)

-- ---- the world

pub begins_by_class : (program : Program) (case : Case) (entries : List Entry) → IsProgram program → AreEntries program case.threads entries
    → FitsByClass program (begin program case.threads entries)
unfolding begin
begins_by_class program case entries p a =
    let fits : FitsWorld program (begin program case.threads entries) = begin_fits program case entries p a in
    record { statics = statics_by program.classes fits.statics; threads = threads_by program case.threads entries fits.threads; there = fits.there }
