-- What the result of a turn says of its frame: where it goes on, what it keeps, and which values it has.
use Rattle.std.proofs.Common.{◌≡◌, ℕ, ℤ, pos, negsuc, ◌+◌, ◌-◌, ◌%◌, Bool, true, false, ◌&&◌, List, [], ◌∷◌, ◌++◌, drop, length, replicate, Option, Some, None, nat_eq, nat_le, nat_lt, refl, if◌then◌else◌}
use Rattle.std.specs.Prelude.{⊤, slice_get, slice_set, slice_index_or}
use Rattle.std.specs.Int.{w32, int_wrapping_add, cast_unsigned}
use Rattle.std.specs.Fmt.{signed_decimal}
use Rattle.jc_bytes.specs.Descriptor.{FieldType, Boolean}
use Rattle.jc_methods.specs.declared.insn.Arm.{Arm}
use Rattle.jc_programs.specs.declared.program.ProbeInit.{ProbeInit}
use Rattle.jc_programs.specs.declared.run_end.Entry.{Entry}
use Rattle.jc_programs.specs.declared.run_end.Thrown.{Thrown}
use Rattle.jc_programs.specs.declared.run_end.Thrown.TheVariants as thrown
use Rattle.jc_programs.specs.Throwables.{is_one}
use Rattle.jc_plan.specs.Chosen.{table_target, lookup_target}
use Rattle.jc_machine_model.specs.Values.{Value, int, long, null, object, memory_error, print_stream, probes, text, ComputationalType, is_of, is_reference, is_same, stored_as}
use Rattle.jc_machine_model.specs.Heap.{HeapObject, array, throwable, has_room}
use Rattle.jc_machine_model.specs.World.{Frame, Shared}
use Rattle.jc_machine_model.specs.Operations.{FieldAt, Printed, an_int_line, a_long_line, a_boolean_line, an_empty_line, Operation, pushes, computes, loads, stores, counts, tests, jumps, indexes, matches, reads, writes, makes_array, measures, gets, puts, invokes, makes, builds, prints, fetches, casts, returns, returns_nothing, throws_top, outside}
use Rattle.jc_machine_model.specs.Results.{Result, goes, hits, calls, leaves, raises, throws, gets_stuck, next_with, goes_with}
use Rattle.jc_machine_model.specs.Effects.{Effect, gives, unfit, effect}
use Rattle.jc_machine_model.specs.Effects as effects
use Rattle.jc_machine_model.specs.Locals.{by_load, by_store, by_count, put_local}
use Rattle.jc_machine_model.specs.Jumps.{Tested, agrees, tested, zero_test, int_test, reference_test, null_test, test_of, by_test, by_switch}
use Rattle.jc_machine_model.specs.Arrays.{index_within, Element, Found, found, fails, unsuited, find_element, element_value, read_found, by_read, element_number, with_element, write_number, write_found, by_probe, write_to, by_write, has_elements, by_make_array, measured, by_measure}
use Rattle.jc_machine_model.specs.Statics.{static_at, with_static, by_get, by_put, is_of_type}
use Rattle.jc_machine_model.specs.Calls.{Arguments, taken_for, by_call, by_return, returned_as}
use Rattle.jc_machine_model.specs.Objects.{made, built, thrown_of, by_build, thrown_up, by_throw, most_printed, by_print, boolean_text, by_println, is_fetched, by_fetch, is_array_of, by_cast}
use Rattle.jc_machine_model.specs.Perform.{by_effect, perform}
use Rattle.jc_twin_exact.proofs.ValueLaws.{HoldsOfOthers, InSlot, All, InSlots, InStatics, append_all, drop_all, read_slot, static_there, static_set, set_slot, put_slot, locals_all, Given, given, element_holds, stored_holds, InEffect, effect_in}

-- ---- operations

-- an operation at i, with this stack, leads to q
abbrev pub Leads : Operation → List Value → (i q : ℕ) → Type 0
Leads (tests op to) st i q = (t : Tested) × (test_of op st ≡ Some t) × (q ≡ (if t.jumps then to else i + 1))
Leads (jumps to) st i q = q ≡ to
Leads (indexes low d arms) st i q = (key : ℤ) × (rest : List Value) × (st ≡ int key ∷ rest) × (q ≡ table_target low d arms key)
Leads (matches d arms) st i q = (key : ℤ) × (rest : List Value) × (st ≡ int key ∷ rest) × (q ≡ lookup_target d arms key)
Leads (returns c type) st i q = ⊥
Leads returns_nothing st i q = ⊥
Leads throws_top st i q = ⊥
Leads outside st i q = ⊥
Leads _ st i q = q ≡ i + 1

-- it may raise or throw
abbrev pub MayRaise : Operation → Type 0
MayRaise (tests op to) = ⊥
MayRaise (jumps to) = ⊥
MayRaise (indexes low d arms) = ⊥
MayRaise (matches d arms) = ⊥
MayRaise (returns c type) = ⊥
MayRaise returns_nothing = ⊥
MayRaise outside = ⊥
MayRaise _ = ⊤

abbrev pub IsReturn : Operation → Type 0
IsReturn (returns c type) = ⊤
IsReturn returns_nothing = ⊤
IsReturn _ = ⊥

abbrev pub IsCall : Operation → Type 0
IsCall (invokes callee parameters max_locals) = ⊤
IsCall _ = ⊥

module _ (V : Value → Type 0) where
  pub record InFrame (f : Frame) : Type 0 where
    pub locals : InSlots V f.locals
    pub stack : All V f.stack

  -- what it pushes
  abbrev pub Pushed : Operation → Type 0
  Pushed (pushes v) = V v
  Pushed (fetches class init) = V (probes class init.count)
  Pushed _ = ⊤

  pub record Went (op : Operation) (s : Shared) (f : Frame) (s' : Shared) (g : Frame) : Type 0 where
    pub method : g.method ≡ f.method
    pub leads : Leads op f.stack f.place g.place
    pub raised : s'.raised ≡ s.raised
    pub statics : InStatics V s'.statics
    pub values : InFrame g

  pub record Called (op : Operation) (f : Frame) (locals : List (Option Value)) (g : Frame) : Type 0 where
    pub method : g.method ≡ f.method
    pub place : g.place ≡ f.place
    pub call : IsCall op
    pub arguments : InSlots V locals
    pub values : InFrame g

  abbrev pub Comes : Operation → Shared → Frame → Result → Type 0
  Comes op s f (goes s' g) = Went op s f s' g
  Comes op s f (hits class id g) = (count : ℕ) × V (probes class count)
  Comes op s f (calls callee locals g) = Called op f locals g
  Comes op s f (leaves v) = InSlot V v × IsReturn op
  Comes op s f (raises c) = MayRaise op
  Comes op s f (throws c v) = V v × MayRaise op
  Comes op s f gets_stuck = ⊤

  module _ (hold : HoldsOfOthers V) (op : Operation) (s : Shared) (f : Frame) (values : InFrame f) (statics : InStatics V s.statics) where
    abbrev To : Result → Type 0
    To r = Comes op s f r

    if_result : (b : Bool) (r u : Result) → To r → To u → To (if b then r else u)
    if_result true r u h g = h
    if_result false r u h g = g

    -- ---- operations behind which the next instruction follows

    module _ (leads : Leads op f.stack f.place (f.place + 1)) (may : MayRaise op) where
      going : (s' : Shared) (st : List Value) → s'.raised ≡ s.raised → InStatics V s'.statics → All V st → To (goes_with s' f st)
      going s' st e h a = record { method = refl; leads = leads; raised = e; statics = h; values = record { locals = values.locals; stack = a } }

      on : (st : List Value) → All V st → To (goes_with s f st)
      on st a = going s st refl statics a

      on_effect : (e : Effect) → InEffect V hold e → To (by_effect e s f)
      on_effect (gives taken results) h = on (results ++ drop taken f.stack) (append_all V results (drop taken f.stack) h (drop_all V taken f.stack values.stack))
      on_effect (effects.raises c) h = may
      on_effect unfit h = tt

      on_load : (c : ComputationalType) (v : Option Value) → InSlot V v → To (by_load c v s f)
      on_load c None h = tt
      on_load c (Some v) h = if_result (is_of c v) (goes_with s f (v ∷ f.stack)) gets_stuck (on (v ∷ f.stack) (h, values.stack)) tt

      on_store : (c : ComputationalType) (k : ℕ) (st : List Value) → All V st → To (by_store c k st s f)
      on_store c k [] h = tt
      on_store c k (v ∷ st) h =
          if_result (is_of c v) (goes s (record f { place = f.place + 1; locals = put_local k v f.locals; stack = st })) gets_stuck
          (record {
            method = refl;
            leads = leads;
            raised = refl;
            statics = statics;
            values = record { locals = put_slot V k v f.locals values.locals h.0; stack = h.1 };
          }) tt

      on_count : (k : ℕ) (by : ℤ) (v : Option Value) → To (by_count k by v s f)
      on_count k by (Some (int x)) = record {
        method = refl;
        leads = leads;
        raised = refl;
        statics = statics;
        values = record { locals = set_slot V f.locals k (Some (int (int_wrapping_add w32 x by))) values.locals (hold.ints _); stack = values.stack };
      }
      on_count k by _ = tt

      on_found : (r : Found) (st : List Value) → All V st → To (read_found r st s f)
      on_found (found e) st h =
          on (element_value e.element (slice_index_or e.elements e.index (pos 0)) ∷ st) (element_holds V hold e.element _, h)
      on_found (fails c) st h = may
      on_found unsuited st h = tt

      on_read : (types : List FieldType) (st : List Value) → All V st → To (by_read types st s f)
      on_read types (int i ∷ a ∷ st) h = on_found (find_element types s.heap a i) st h.1.1
      on_read types _ h = tt

      on_number : (e : Element) (o : Option ℤ) (k : ℕ) (st : List Value) → All V st → To (write_number e o k st s f)
      on_number e None k st h = tt
      on_number e (Some x) k st h = going (record s { heap = slice_set s.heap k (with_element e x) }) st refl statics h

      on_written : (r : Found) (v : Value) (k : ℕ) (st : List Value) → All V st → To (write_found r v k st s f)
      on_written (found e) v k st h = on_number e (element_number e.element v) k st h
      on_written (fails c) v k st h = may
      on_written unsuited v k st h = tt

      on_probe : (class count : ℕ) (index : Option ℕ) (v : Value) (st : List Value) → V (probes class count) → To (by_probe class index v st f)
      on_probe class count None (int x) st h = may
      on_probe class count (Some id) (int x) st h =
          if_result (nat_eq (cast_unsigned w32 x % 2) 0) gets_stuck (hits class id (next_with f st)) tt (count, h)
      on_probe class count index v st h = tt

      on_place : (types : List FieldType) (v : Value) (i : ℤ) (x : Value) (st : List Value) → V v → All V st → To (write_to types v i x st s f)
      on_place types null i x st a h = may
      on_place types (object k) i x st a h = on_written (find_element types s.heap (object k) i) x k st h
      on_place types (probes class count) i x st a h =
          if_result (has_elements types Boolean) (by_probe class (index_within i count) x st f) gets_stuck
          (on_probe class count (index_within i count) x st a) tt
      on_place types v i x st a h = tt

      on_write : (types : List FieldType) (st : List Value) → All V st → To (by_write types st s f)
      on_write types (x ∷ int i ∷ a ∷ st) h = on_place types a i x st h.1.1.0 h.1.1.1
      on_write types _ h = tt

      on_made : (words : ℕ) (x : HeapObject) (st : List Value) → All V st → To (made words x st s f)
      on_made words x st h =
          if_result (has_room s.heap words) (goes_with (record s { heap = s.heap ++ x ∷ [] }) f (object (length s.heap) ∷ st))
          (raises thrown.OutOfMemoryError)
          (going (record s { heap = s.heap ++ x ∷ [] }) (object (length s.heap) ∷ st) refl statics (hold.objects _, h)) may

      on_array : (element : FieldType) (st : List Value) → All V st → To (by_make_array element st s f)
      on_array element (int (negsuc n) ∷ st) h = may
      on_array element (int (pos n) ∷ st) h = on_made (n + 1) (array element (replicate n (pos 0))) st h.1
      on_array element _ h = tt

      on_measured : (o : Option HeapObject) (st : List Value) → All V st → To (measured o st s f)
      on_measured (Some (array element elements)) st h = on (int (pos (length elements)) ∷ st) (hold.ints _, h)
      on_measured _ st h = tt

      on_measure : (st : List Value) → All V st → To (by_measure st s f)
      on_measure (null ∷ st) h = may
      on_measure (object k ∷ st) h = on_measured (slice_get s.heap k) st h.1
      on_measure _ h = tt

      on_get : (v : Option Value) → InSlot V v → To (by_get v s f)
      on_get None h = tt
      on_get (Some v) h = on (v ∷ f.stack) (h, values.stack)

      on_put : (at : FieldAt) (type : FieldType) (st : List Value) → All V st → To (by_put at type st s f)
      on_put at type [] h = tt
      on_put at type (v ∷ st) h =
          if_result (is_of_type type v) (goes_with (record s { statics = with_static s.statics at (stored_as type v) }) f st) gets_stuck
          (going (record s { statics = with_static s.statics at (stored_as type v) }) st refl
          (static_set V s.statics at (stored_as type v) statics (stored_holds V hold type v h.0)) h.1) tt

      on_built : (c : Thrown) (o : Option Thrown) (st : List Value) → All V st → To (built c o st s f)
      on_built c None st h = tt
      on_built c (Some d) st h = if_result (is_one c d) (goes_with s f st) gets_stuck (on st h) tt

      on_build : (c : Thrown) (st : List Value) → All V st → To (by_build c st s f)
      on_build c (v ∷ st) h = on_built c (thrown_of s.heap v) st h.1
      on_build c [] h = tt

      on_print : (line : List ℕ) (v : Value) (st : List Value) → All V st → To (by_print line v st s f)
      on_print line null st h = may
      on_print line print_stream st h =
          if_result (nat_le (length s.output + (length line + 1)) most_printed) (goes_with (record s { output = s.output ++ (line ++ 10 ∷ []) }) f st)
          gets_stuck (going (record s { output = s.output ++ (line ++ 10 ∷ []) }) st refl statics h) tt
      on_print line v st h = tt

      on_println : (k : Printed) (st : List Value) → All V st → To (by_println k st s f)
      on_println an_int_line (int x ∷ stream ∷ st) h = on_print (signed_decimal x) stream st h.1.1
      on_println a_long_line (long x ∷ stream ∷ st) h = on_print (signed_decimal x) stream st h.1.1
      on_println a_boolean_line (int x ∷ stream ∷ st) h = on_print (boolean_text x) stream st h.1.1
      on_println an_empty_line (stream ∷ st) h = on_print [] stream st h.1
      on_println _ _ h = tt

      on_fetch : (class : ℕ) (init : ProbeInit) (st : List Value) → V (probes class init.count) → All V st → To (by_fetch class init st s f)
      on_fetch class init (int count ∷ text of ∷ long id ∷ st) a h =
          if_result (is_fetched class init id of count) (goes_with s f (probes class init.count ∷ st)) gets_stuck
          (on (probes class init.count ∷ st) (a, h.1.1.1)) tt
      on_fetch class init _ a h = tt

      on_cast : (class : ℕ) (st : List Value) → All V st → To (by_cast class st s f)
      on_cast class [] h = tt
      on_cast class (v ∷ st) h = if_result (is_array_of class v) (goes_with s f (v ∷ st)) gets_stuck (on (v ∷ st) h) tt

    -- ---- calls, returns and throws

    on_call : IsCall op → (callee : Entry) (n : ℕ) (r : Option Arguments) → Given V r → To (by_call callee n r f)
    on_call is callee n None h = tt
    on_call is callee n (Some a) h =
        record { method = refl; place = refl; call = is; arguments = locals_all V n a.values h.0; values = record { locals = values.locals; stack = h.1 } }

    returned_holds : (type : Option FieldType) (v : Value) → V v → V (returned_as type v)
    returned_holds None v h = h
    returned_holds (Some type) v h = stored_holds V hold type v h

    on_return : IsReturn op → (c : ComputationalType) (type : Option FieldType) (st : List Value) → All V st → To (by_return c type st)
    on_return is c type [] h = tt
    on_return is c type (v ∷ st) h = if_result (is_of c v) (leaves (Some (returned_as type v))) gets_stuck (returned_holds type v h.0, is) tt

    on_thrown : MayRaise op → (o : Option Thrown) (v : Value) → V v → To (thrown_up o v)
    on_thrown may None v h = tt
    on_thrown may (Some c) v h = (h, may)

    on_throw : MayRaise op → (st : List Value) → All V st → To (by_throw st s)
    on_throw may [] h = tt
    on_throw may (null ∷ st) h = may
    on_throw may (int x ∷ st) h = tt
    on_throw may (long x ∷ st) h = tt
    on_throw may (object k ∷ st) h = on_thrown may (thrown_of s.heap (object k)) (object k) h.0
    on_throw may (memory_error ∷ st) h = on_thrown may (thrown_of s.heap memory_error) memory_error h.0
    on_throw may (print_stream ∷ st) h = on_thrown may (thrown_of s.heap print_stream) print_stream h.0
    on_throw may (probes class count ∷ st) h = on_thrown may (thrown_of s.heap (probes class count)) (probes class count) h.0
    on_throw may (text class ∷ st) h = on_thrown may (thrown_of s.heap (text class)) (text class) h.0

  -- a test leaves a part of the stack
  module _ (hold : HoldsOfOthers V) (s : Shared) (f : Frame) (values : InFrame f) (statics : InStatics V s.statics) where
    on_test : (op to : ℕ) (o : Option Tested) → test_of op f.stack ≡ o → All V (elim o [ None ↦ [] | Some t ↦ t.stack ]) → Comes (tests op to) s f (by_test o to s f)
    on_test op to None e h = tt
    on_test op to (Some t) e h =
        record { method = refl; leads = (t, e, refl); raised = refl; statics = statics; values = record { locals = values.locals; stack = h } }

    on_index : (low : ℤ) (d : ℕ) (arms : List ℕ) (st : List Value) → f.stack ≡ st → All V st
        → Comes (indexes low d arms) s f (by_switch (table_target low d arms) st s f)
    on_index low d arms (int key ∷ rest) e h =
        record { method = refl; leads = (key, rest, e, refl); raised = refl; statics = statics; values = record { locals = values.locals; stack = h.1 } }
    on_index low d arms _ e h = tt

    on_match : (d : ℕ) (arms : List Arm) (st : List Value) → f.stack ≡ st → All V st
        → Comes (matches d arms) s f (by_switch (lookup_target d arms) st s f)
    on_match d arms (int key ∷ rest) e h =
        record { method = refl; leads = (key, rest, e, refl); raised = refl; statics = statics; values = record { locals = values.locals; stack = h.1 } }
    on_match d arms _ e h = tt

    -- ---- what a test leaves

    abbrev Rest : Option Tested → Type 0
    Rest o = All V (elim o [ None ↦ [] | Some t ↦ t.stack ])

    if_rest : (b : Bool) (x y : Option Tested) → Rest x → Rest y → Rest (if b then x else y)
    if_rest true x y h g = h
    if_rest false x y h g = g

    zero_rest : (k : ℕ) (st : List Value) → All V st → Rest (zero_test k st)
    zero_rest k (int x ∷ st) h = h.1
    zero_rest k _ h = tt

    int_rest : (k : ℕ) (st : List Value) → All V st → Rest (int_test k st)
    int_rest k (int y ∷ int x ∷ st) h = h.1.1
    int_rest k _ h = tt

    reference_rest : (k : ℕ) (st : List Value) → All V st → Rest (reference_test k st)
    reference_rest k (b ∷ a ∷ st) h = if_rest (is_reference a && is_reference b) (tested (agrees k (is_same a b)) st) None h.1.1 tt
    reference_rest k _ h = tt

    null_rest : (k : ℕ) (st : List Value) → All V st → Rest (null_test k st)
    null_rest k (a ∷ st) h = if_rest (is_reference a) (tested (agrees k (is_same a null)) st) None h.1 tt
    null_rest k [] h = tt

    test_rest : (op : ℕ) (st : List Value) → All V st → Rest (test_of op st)
    unfolding test_of
    test_rest op st h =
        if_rest (nat_lt op 159) _ _ (zero_rest (op - 153) st h) (if_rest (nat_lt op 165) _ _ (int_rest (op - 159) st h)
        (if_rest (nat_lt op 167) _ _ (reference_rest (op - 165) st h) (null_rest (op - 198) st h)))

    -- ---- all operations

    pub comes : (op : Operation) → Pushed op → Comes op s f (perform op s f)
    unfolding perform
    comes (pushes v) p = on hold (pushes v) s f values statics refl tt (v ∷ f.stack) (p, values.stack)
    comes (computes op) p = on_effect hold (computes op) s f values statics refl tt (effect op f.stack) (effect_in V hold op f.stack values.stack)
    comes (loads c k) p = on_load hold (loads c k) s f values statics refl tt c (slice_index_or f.locals k None) (read_slot V f.locals k values.locals)
    comes (stores c k) p = on_store hold (stores c k) s f values statics refl tt c k f.stack values.stack
    comes (counts k by) p = on_count hold (counts k by) s f values statics refl tt k by (slice_index_or f.locals k None)
    comes (tests op to) p = on_test op to (test_of op f.stack) refl (test_rest op f.stack values.stack)
    comes (jumps to) p = record { method = refl; leads = refl; raised = refl; statics = statics; values = record { locals = values.locals; stack = values.stack } }
    comes (indexes low d arms) p = on_index low d arms f.stack refl values.stack
    comes (matches d arms) p = on_match d arms f.stack refl values.stack
    comes (reads types) p = on_read hold (reads types) s f values statics refl tt types f.stack values.stack
    comes (writes types) p = on_write hold (writes types) s f values statics refl tt types f.stack values.stack
    comes (makes_array element) p = on_array hold (makes_array element) s f values statics refl tt element f.stack values.stack
    comes measures p = on_measure hold measures s f values statics refl tt f.stack values.stack
    comes (gets at type) p = on_get hold (gets at type) s f values statics refl tt (static_at s.statics at) (static_there V s.statics at statics)
    comes (puts at type) p = on_put hold (puts at type) s f values statics refl tt at type f.stack values.stack
    comes (invokes callee ps n) p = on_call hold (invokes callee ps n) s f values statics tt callee n (taken_for ps f.stack) (given V ps f.stack values.stack)
    comes (makes c) p = on_made hold (makes c) s f values statics refl tt 1 (throwable c) f.stack values.stack
    comes (builds c) p = on_build hold (builds c) s f values statics refl tt c f.stack values.stack
    comes (prints k) p = on_println hold (prints k) s f values statics refl tt k f.stack values.stack
    comes (fetches class init) p = on_fetch hold (fetches class init) s f values statics refl tt class init f.stack p values.stack
    comes (casts class) p = on_cast hold (casts class) s f values statics refl tt class f.stack values.stack
    comes (returns c type) p = on_return hold (returns c type) s f values statics tt c type f.stack values.stack
    comes returns_nothing p = (tt, tt)
    comes throws_top p = on_throw hold throws_top s f values statics tt f.stack values.stack
    comes outside p = tt
