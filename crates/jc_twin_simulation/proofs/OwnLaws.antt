-- An own turn, inside the frames on top.
use Rattle.std.proofs.Common.{◌≡◌, ◌⊎◌, inl, inr, ℕ, ℤ, pos, negsuc, ◌+◌, ◌%◌, ◌<◌, Bool, true, false, not, List, [], ◌∷◌, ◌++◌, drop, length, map, replicate, Option, Some, None, nat_eq, refl, sym, ap, ◌∙◌, subst, arith, if◌then◌else◌}
use Rattle.std.specs.Prelude.{⊤, slice_get, slice_set, slice_index_or, Contains, nat_le}
use Rattle.std.specs.Int.{w32, int_wrapping_add, cast_unsigned}
use Rattle.std.specs.Fmt.{signed_decimal}
use Rattle.std.specs.List.{sum_by}
use Rattle.jc_bytes.specs.Descriptor.{FieldType, Boolean, slots_of}
use Rattle.jc_methods.specs.Flow.{inverse_of, is_conditional_branch}
use Rattle.jc_methods.specs.DescriptorTypes.{method_type_in}
use Rattle.jc_methods.specs.EntryState.{is_static}
use Rattle.jc_methods.specs.Insn.{arm_with_place}
use Rattle.jc_methods.specs.declared.insn.Insn.{Insn}
use Rattle.jc_methods.specs.declared.insn.Arm.{Arm}
use Rattle.jc_programs.specs.declared.program.Program.{Program}
use Rattle.jc_programs.specs.declared.program.Linked.{Linked}
use Rattle.jc_programs.specs.declared.run_end.Entry.{Entry}
use Rattle.jc_programs.specs.declared.run_end.Thrown.{Thrown}
use Rattle.jc_programs.specs.declared.run_end.Thrown.TheVariants as thrown
use Rattle.jc_programs.specs.Members.{class_at}
use Rattle.jc_programs.specs.Throwables.{is_one}
use Rattle.jc_emit.specs.Items.{image}
use Rattle.jc_machine_model.specs.Values.{Value, int, long, null, object, memory_error, print_stream, probes, text, ComputationalType, long_type, int_type, reference_type, is_of, is_pair, stored_as}
use Rattle.jc_machine_model.specs.Heap.{HeapObject, array, throwable, has_room}
use Rattle.jc_machine_model.specs.World.{Frame, Shared}
use Rattle.jc_machine_model.specs.Operations.{FieldAt, Printed, an_int_line, a_long_line, a_boolean_line, an_empty_line, Operation, pushes, computes, loads, stores, counts, tests, jumps, indexes, matches, reads, writes, makes_array, measures, gets, puts, invokes, makes, builds, prints, fetches, casts, returns, returns_nothing, throws_top, outside}
use Rattle.jc_machine_model.specs.Results.{Result, goes, hits, calls, leaves, raises, throws, gets_stuck, next_with, goes_with}
use Rattle.jc_machine_model.specs.Effects.{Effect, gives, unfit, effect}
use Rattle.jc_machine_model.specs.Effects as effects
use Rattle.jc_machine_model.specs.Locals.{by_load, by_store, by_count, put_local}
use Rattle.jc_plan.specs.Chosen.{table_target, lookup_target}
use Rattle.jc_machine_model.specs.Jumps.{Tested, test_of, by_test, by_switch}
use Rattle.jc_machine_model.specs.Arrays.{index_within, Element, Found, found, fails, unsuited, find_element, element_value, read_found, by_read, element_number, with_element, write_number, write_found, by_probe, write_to, by_write, has_elements, by_make_array, measured, by_measure}
use Rattle.jc_machine_model.specs.Statics.{static_at, with_static, by_get, by_put, is_of_type}
use Rattle.jc_machine_model.specs.Calls.{Arguments, taken_for, locals_for, by_call, by_return, returned_as}
use Rattle.jc_machine_model.specs.Objects.{made, built, thrown_of, by_build, thrown_up, by_throw, most_printed, by_print, boolean_text, by_println}
use Rattle.jc_machine_model.specs.Perform.{by_effect, perform}
use Rattle.jc_machine_model.specs.Step.{new_frame}
use Rattle.jc_twin_simulation.specs.Same.{twin_slot}
use Rattle.jc_twin_simulation.specs.Sides.{Side, array_of, GoesOnAt, IsSide}
use Rattle.jc_twin_simulation.specs.Beside.{SameLocals, OneMethod, SameFrame, SameWait, SameShared, values_of}
use Rattle.jc_twin_simulation.proofs.LocalLaws.{none_pushed, reads_local, puts_local, sets_local, moves_on}
use Rattle.jc_twin_simulation.proofs.EnterLaws.{AreFor, taken_fits, static_slots, enters_same}
use Rattle.jc_twin_simulation.proofs.ArmLaws.{index_arm, match_arm}
use Rattle.jc_twin_simulation.proofs.StaticLaws.{reads_same, puts_same}
use Rattle.jc_twin_simulation.proofs.TestLaws.{negated, inverse_tests}

module _ (p p' : Program) (sides : Entry → Side) where
  -- ---- results

  -- what the two results of an own turn have in common
  abbrev pub SameResult : Result → Result → Type 0
  SameResult (goes s g) (goes s' g') = SameShared p p' sides s s' × SameFrame p p' sides g g'
  SameResult (hits class id g) (hits class' id' g') = SameFrame p p' sides g g'
  SameResult (calls m ls g) (calls m' ls' g') = SameFrame p p' sides (new_frame m ls) (new_frame m' ls') × SameWait p p' sides g g'
  SameResult (leaves v) (leaves v') = v' ≡ v
  SameResult (raises c) (raises c') = c' ≡ c
  SameResult (throws c v) (throws c' v') = (c' ≡ c) × (v' ≡ v)
  SameResult gets_stuck gets_stuck = ⊤
  SameResult _ _ = ⊥

  -- ---- operations

  -- the first field of its name and descriptor of a class of the original
  pub record IsField (at : FieldAt) : Type 0 where
    pub class : Linked
    pub class_is : class_at p at.class ≡ Some class
    pub within : at.field < length class.statics

  -- a method that a thread may enter, with its parameters and its local variables
  pub record IsCallee (callee : Entry) (parameters : List FieldType) (max_locals : ℕ) : Type 0 where
    pub side : IsSide p p' callee (sides callee)
    pub entered : (sides callee).class.has_clinit ≡ false
    pub static : is_static (sides callee).body.flags ≡ true
    pub parameters_are : parameters ≡ (method_type_in (sides callee).body.desc).parameters
    pub locals_are : max_locals ≡ (sides callee).body.max_locals

  -- the operation of an instruction at i and of its image at q
  module _ (t : Side) (q i : ℕ) where
    abbrev pub Next : Type 0
    Next = GoesOnAt t (q + 1) (i + 1)

    abbrev pub Alike : Operation → Operation → Type 0
    Alike (loads c k) op' = (op' ≡ loads c (twin_slot t.slot k)) × Next
    Alike (stores c k) op' =
        (op' ≡ stores c (twin_slot t.slot k)) × ((v : ℕ) → t.slot ≡ Some v → c ≡ long_type → k + 1 ≡ v → ⊥) × Next
    Alike (counts k by) op' = (op' ≡ counts (twin_slot t.slot k) by) × Next
    Alike (tests op to) op' =
        (target : ℕ) × (((op' ≡ tests op target) × GoesOnAt t target to × Next)
        ⊎ ((op' ≡ tests (inverse_of op) target) × (is_conditional_branch op ≡ true) × GoesOnAt t target (i + 1) × GoesOnAt t (q + 1) to))
    Alike (jumps to) op' = (target : ℕ) × (op' ≡ jumps target) × GoesOnAt t target to
    Alike (indexes low d arms) op' =
        (place : ℕ → ℕ) × (op' ≡ indexes low (place d) (map place arms)) × ((to : ℕ) → Contains (d ∷ arms) to → GoesOnAt t (place to) to)
    Alike (matches d arms) op' =
        (place : ℕ → ℕ) × (op' ≡ matches (place d) (map (arm_with_place place) arms))
        × ((to : ℕ) → Contains (d ∷ map (λ (a : Arm). a.to) arms) to → GoesOnAt t (place to) to)
    Alike (gets at type) op' = (op' ≡ gets at type) × IsField at × Next
    Alike (puts at type) op' = (op' ≡ puts at type) × IsField at × Next
    Alike (invokes callee ps n) op' = (op' ≡ invokes callee ps (sides callee).twin.max_locals) × IsCallee callee ps n × Next
    Alike (fetches class init) op' = ⊥
    Alike (casts class) op' = ⊥
    Alike (returns c type) op' = op' ≡ returns c type
    Alike returns_nothing op' = op' ≡ returns_nothing
    Alike throws_top op' = op' ≡ throws_top
    Alike outside op' = op' ≡ outside
    Alike op op' = (op' ≡ op) × Next

  -- ---- frames at an instruction and at its image

  pub record AtImage (f f' : Frame) (new : Insn) (early : Option ℕ) : Type 0 where
    pub one : OneMethod p p' sides f f'
    pub here : slice_get (sides f.method).items f'.place ≡ Some (image new f.place early)
    pub stack : f'.stack ≡ f.stack
    pub locals : SameLocals (array_of (sides f.method) f.method.class) (sides f.method).slot f.locals f'.locals (image new f.place early)

  module _ (f f' : Frame) (new : Insn) (early : Option ℕ) (o : AtImage f f' new early) (s s' : Shared) (ss : SameShared p p' sides s s') where
    abbrev t : Side
    t = sides f.method

    abbrev a : Value
    a = array_of t f.method.class

    abbrev Both : Result → Result → Type 0
    Both r r' = SameResult r r'

    -- both go on, with these local variables and this stack
    abbrev moved : Frame → ℕ → List (Option Value) → List Value → Frame
    moved g to ls st = record { method = g.method; place = to; locals = ls; stack = st }

    on : (q i : ℕ) → GoesOnAt t q i → (ls ls' : List (Option Value)) → SameLocals a t.slot ls ls' (image new f.place early) → (st : List Value)
        → SameFrame p p' sides (moved f i ls st) (moved f' q ls' st)
    on q i h ls ls' same st = record {
      one = record { method = o.one.method; side = o.one.side; entered = o.one.entered };
      item = h.1.item;
      here = h.1.here;
      at = h.1.at_is;
      stack = ap (λ l. l ++ st) (sym (none_pushed a t q i h.0 h.1));
      locals = moves_on a t.slot ls ls' (image new f.place early) h.1.item tt same;
    }

    abbrev Go : Type 0
    Go = Next t f'.place f.place

    on_next : Go → (st : List Value) → SameFrame p p' sides (next_with f st) (next_with f' st)
    on_next h st = on (f'.place + 1) (f.place + 1) h f.locals f'.locals o.locals st

    going : Go → (st : List Value) → Both (goes_with s f st) (goes_with s' f' st)
    going h st = (ss, on_next h st)

    -- the heap and the output change alike
    stored : Go → (heap : List HeapObject) (st : List Value) → Both (goes_with (record s { heap = heap }) f st) (goes_with (record s' { heap = heap }) f' st)
    stored h heap st = (record { heap = refl; output = ss.output; raised = ss.raised; statics = ss.statics; counts = ss.counts }, on_next h st)

    printed : Go → (output : List ℕ) (st : List Value) → Both (goes_with (record s { output = output }) f st) (goes_with (record s' { output = output }) f' st)
    printed h output st = (record { heap = ss.heap; output = refl; raised = ss.raised; statics = ss.statics; counts = ss.counts }, on_next h st)

    -- a test on both sides
    both_if : (b : Bool) (r r' u u' : Result) → Both r r' → Both u u' → Both (if b then r else u) (if b then r' else u')
    both_if true r r' u u' x y = x
    both_if false r r' u u' x y = y

    -- ---- the operand stack alone

    own_effect : Go → (e : Effect) (st : List Value) → Both (by_effect e s (record f { stack = st })) (by_effect e s' (record f' { stack = st }))
    own_effect h (gives taken results) st = going h (results ++ drop taken st)
    own_effect h (effects.raises c) st = refl
    own_effect h unfit st = tt

    -- ---- arrays

    own_read : Go → (r : Found) (st : List Value) → Both (read_found r st s f) (read_found r st s' f')
    own_read h (found e) st = going h (element_value e.element (slice_index_or e.elements e.index (pos 0)) ∷ st)
    own_read h (fails c) st = refl
    own_read h unsuited st = tt

    reads_alike : Go → (types : List FieldType) (st : List Value) → Both (by_read types st s f) (by_read types st s' f')
    reads_alike h types (int i ∷ v ∷ st) =
        subst (λ heap. Both (read_found (find_element types s.heap v i) st s f) (read_found (find_element types heap v i) st s' f')) (sym ss.heap)
        (own_read h (find_element types s.heap v i) st)
    reads_alike h types _ = tt

    own_number : Go → (e : Element) (o : Option ℤ) (k : ℕ) (st : List Value) → Both (write_number e o k st s f) (write_number e o k st s' f')
    own_number h e None k st = tt
    own_number h e (Some x) k st =
        subst (λ heap. Both (goes_with (record s { heap = slice_set s.heap k (with_element e x) }) f st)
        (goes_with (record s' { heap = slice_set heap k (with_element e x) }) f' st)) (sym ss.heap)
        (stored h (slice_set s.heap k (with_element e x)) st)

    own_write : Go → (r : Found) (v : Value) (k : ℕ) (st : List Value) → Both (write_found r v k st s f) (write_found r v k st s' f')
    own_write h (found e) v k st = own_number h e (element_number e.element v) k st
    own_write h (fails c) v k st = refl
    own_write h unsuited v k st = tt

    own_probe : Go → (class : ℕ) (index : Option ℕ) (v : Value) (st : List Value) → Both (by_probe class index v st f) (by_probe class index v st f')
    own_probe h class None (int x) st = refl
    own_probe h class (Some id) (int x) st =
        both_if (nat_eq (cast_unsigned w32 x % 2) 0) gets_stuck gets_stuck (hits class id (next_with f st)) (hits class id (next_with f' st)) tt (on_next h st)
    own_probe h class index v st = tt

    own_to : Go → (types : List FieldType) (v : Value) (i : ℤ) (x : Value) (st : List Value)
        → Both (write_to types v i x st s f) (write_to types v i x st s' f')
    own_to h types null i x st = refl
    own_to h types (object k) i x st =
        subst (λ heap. Both (write_found (find_element types s.heap (object k) i) x k st s f)
        (write_found (find_element types heap (object k) i) x k st s' f')) (sym ss.heap)
        (own_write h (find_element types s.heap (object k) i) x k st)
    own_to h types (probes class count) i x st =
        both_if (has_elements types Boolean) (by_probe class (index_within i count) x st f)
        (by_probe class (index_within i count) x st f') gets_stuck gets_stuck
        (own_probe h class (index_within i count) x st) tt
    own_to h types v i x st = tt

    writes_alike : Go → (types : List FieldType) (st : List Value) → Both (by_write types st s f) (by_write types st s' f')
    writes_alike h types (x ∷ int i ∷ v ∷ st) = own_to h types v i x st
    writes_alike h types _ = tt

    -- a new object
    own_made : Go → (words : ℕ) (x : HeapObject) (st : List Value) → Both (made words x st s f) (made words x st s' f')
    own_made h words x st =
        subst (λ heap. Both (made words x st s f)
        (if has_room heap words then goes_with (record s' { heap = heap ++ x ∷ [] }) f' (object (length heap) ∷ st) else raises thrown.OutOfMemoryError))
        (sym ss.heap)
        (both_if (has_room s.heap words) (goes_with (record s { heap = s.heap ++ x ∷ [] }) f (object (length s.heap) ∷ st))
        (goes_with (record s' { heap = s.heap ++ x ∷ [] }) f' (object (length s.heap) ∷ st))
        (raises thrown.OutOfMemoryError) (raises thrown.OutOfMemoryError) (stored h (s.heap ++ x ∷ []) (object (length s.heap) ∷ st)) refl)

    makes_array_alike : Go → (element : FieldType) (st : List Value) → Both (by_make_array element st s f) (by_make_array element st s' f')
    makes_array_alike h element (int (negsuc n) ∷ st) = refl
    makes_array_alike h element (int (pos n) ∷ st) = own_made h (n + 1) (array element (replicate n (pos 0))) st
    makes_array_alike h element _ = tt

    own_measured : Go → (o : Option HeapObject) (st : List Value) → Both (measured o st s f) (measured o st s' f')
    own_measured h (Some (array element elements)) st = going h (int (pos (length elements)) ∷ st)
    own_measured h _ st = tt

    measures_alike : Go → (st : List Value) → Both (by_measure st s f) (by_measure st s' f')
    measures_alike h (null ∷ st) = refl
    measures_alike h (object k ∷ st) =
        subst (λ heap. Both (measured (slice_get s.heap k) st s f) (measured (slice_get heap k) st s' f')) (sym ss.heap)
        (own_measured h (slice_get s.heap k) st)
    measures_alike h _ = tt

    -- ---- throwables and printing

    own_built : Go → (c : Thrown) (o : Option Thrown) (st : List Value) → Both (built c o st s f) (built c o st s' f')
    own_built h c None st = tt
    own_built h c (Some d) st = both_if (is_one c d) (goes_with s f st) (goes_with s' f' st) gets_stuck gets_stuck (going h st) tt

    builds_alike : Go → (c : Thrown) (st : List Value) → Both (by_build c st s f) (by_build c st s' f')
    builds_alike h c (v ∷ st) =
        subst (λ heap. Both (built c (thrown_of s.heap v) st s f) (built c (thrown_of heap v) st s' f')) (sym ss.heap) (own_built h c (thrown_of s.heap v) st)
    builds_alike h c [] = tt

    own_up : (o : Option Thrown) (v : Value) → Both (thrown_up o v) (thrown_up o v)
    own_up None v = tt
    own_up (Some c) v = (refl, refl)

    throws_alike : (st : List Value) → Both (by_throw st s) (by_throw st s')
    throws_alike (null ∷ st) = refl
    throws_alike (v ∷ st) =
        subst (λ heap. Both (thrown_up (thrown_of s.heap v) v) (thrown_up (thrown_of heap v) v)) (sym ss.heap) (own_up (thrown_of s.heap v) v)
    throws_alike [] = tt

    own_print : Go → (line : List ℕ) (v : Value) (st : List Value) → Both (by_print line v st s f) (by_print line v st s' f')
    own_print h line null st = refl
    own_print h line print_stream st =
        subst (λ output. Both (by_print line print_stream st s f)
        (if nat_le (length output + (length line + 1)) most_printed then goes_with
        (record s' { output = output ++ (line ++ 10 ∷ []) }) f' st else gets_stuck)) (sym ss.output)
        (both_if (nat_le (length s.output + (length line + 1)) most_printed) (goes_with (record s { output = s.output ++ (line ++ 10 ∷ []) }) f st)
        (goes_with (record s' { output = s.output ++ (line ++ 10 ∷ []) }) f' st)
        gets_stuck gets_stuck (printed h (s.output ++ (line ++ 10 ∷ [])) st) tt)
    own_print h line v st = tt

    prints_alike : Go → (k : Printed) (st : List Value) → Both (by_println k st s f) (by_println k st s' f')
    prints_alike h an_int_line (int x ∷ stream ∷ st) = own_print h (signed_decimal x) stream st
    prints_alike h a_long_line (long x ∷ stream ∷ st) = own_print h (signed_decimal x) stream st
    prints_alike h a_boolean_line (int x ∷ stream ∷ st) = own_print h (boolean_text x) stream st
    prints_alike h an_empty_line (stream ∷ st) = own_print h [] stream st
    prints_alike h _ _ = tt

    -- ---- local variables

    own_load : Go → (c : ComputationalType) (v : Option Value) (st : List Value)
        → Both (by_load c v s (record f { stack = st })) (by_load c v s' (record f' { stack = st }))
    own_load h c None st = tt
    own_load h c (Some v) st =
        both_if (is_of c v) (goes_with s f (v ∷ st)) (goes_with s' f' (v ∷ st)) gets_stuck gets_stuck (going h (v ∷ st)) tt

    -- a long is of the type of longs alone
    long_is : (c : ComputationalType) (v : Value) → is_of c v ≡ true → is_pair v ≡ true → c ≡ long_type
    long_is long_type v e q = refl
    long_is int_type (int x) e q = cc
    long_is int_type (long x) e q = cc
    long_is int_type null e q = cc
    long_is int_type (object k) e q = cc
    long_is int_type memory_error e q = cc
    long_is int_type print_stream e q = cc
    long_is int_type (probes k n) e q = cc
    long_is int_type (text k) e q = cc
    long_is reference_type (int x) e q = cc
    long_is reference_type (long x) e q = cc
    long_is reference_type null e q = cc
    long_is reference_type (object k) e q = cc
    long_is reference_type memory_error e q = cc
    long_is reference_type print_stream e q = cc
    long_is reference_type (probes k n) e q = cc
    long_is reference_type (text k) e q = cc

    own_store : Go → (c : ComputationalType) (k : ℕ) → ((v : ℕ) → t.slot ≡ Some v → c ≡ long_type → k + 1 ≡ v → ⊥) → (st : List Value)
        → Both (by_store c k st s f) (by_store c (twin_slot t.slot k) st s' f')
    own_store h c k off [] = tt
    own_store h c k off (v ∷ st) = by (is_of c v) refl
      where
        by : (b : Bool) → is_of c v ≡ b
            → Both (if b then goes s (moved f (f.place + 1) (put_local k v f.locals) st) else gets_stuck)
            (if b then goes s' (moved f' (f'.place + 1) (put_local (twin_slot t.slot k) v f'.locals) st) else gets_stuck)
        by false e = tt
        by true e = (
          ss,
          on (f'.place + 1) (f.place + 1) h (put_local k v f.locals) (put_local (twin_slot t.slot k) v f'.locals)
              (puts_local a t.slot f.locals f'.locals (image new f.place early) o.locals tt refl k v (λ u same pair. off u same (long_is c v e pair))) st,
        )

    own_count : Go → (k : ℕ) (by : ℤ) (v : Option Value) (st : List Value)
        → Both (by_count k by v s (record f { stack = st })) (by_count (twin_slot t.slot k) by v s' (record f' { stack = st }))
    own_count h k by (Some (int x)) st = (
      ss,
      on (f'.place + 1) (f.place + 1) h (slice_set f.locals k (Some (int (int_wrapping_add w32 x by))))
          (slice_set f'.locals (twin_slot t.slot k) (Some (int (int_wrapping_add w32 x by))))
          (sets_local a t.slot f.locals f'.locals (image new f.place early) o.locals k (int (int_wrapping_add w32 x by)) refl) st,
    )
    own_count h k by _ st = tt

    -- ---- jumps

    -- the frames with one stack
    abbrev at_place : Frame → ℕ → List Value → Frame
    at_place g to st = moved g to g.locals st

    on_to : (q i : ℕ) → GoesOnAt t q i → (st : List Value) → SameFrame p p' sides (at_place f i st) (at_place f' q st)
    on_to q i h st = on q i h f.locals f'.locals o.locals st

    own_test : (target to : ℕ) → GoesOnAt t target to → Go → (r : Option Tested) → Both (by_test r to s f) (by_test r target s' f')
    own_test target to h h' None = tt
    own_test target to h h' (Some x) = (ss, by x.jumps)
      where
        by : (b : Bool) → SameFrame p p' sides (at_place f (if b then to else f.place + 1) x.stack) (at_place f' (if b then target else f'.place + 1) x.stack)
        by true = on_to target to h x.stack
        by false = on_to (f'.place + 1) (f.place + 1) h' x.stack

    own_inverse : (target to : ℕ) → GoesOnAt t target (f.place + 1) → GoesOnAt t (f'.place + 1) to → (r : Option Tested)
        → Both (by_test r to s f) (by_test (negated r) target s' f')
    own_inverse target to h h' None = tt
    own_inverse target to h h' (Some x) = (ss, by x.jumps)
      where
        by : (b : Bool)
            → SameFrame p p' sides (at_place f (if b then to else f.place + 1) x.stack) (at_place f' (if not b then target else f'.place + 1) x.stack)
        by true = on_to (f'.place + 1) to h' x.stack
        by false = on_to target (f.place + 1) h x.stack

    own_switch : (leads leads' : ℤ → ℕ) → ((key : ℤ) → GoesOnAt t (leads' key) (leads key)) → (st : List Value)
        → Both (by_switch leads st s f) (by_switch leads' st s' f')
    own_switch leads leads' h (int key ∷ st) = (ss, on_to (leads' key) (leads key) (h key) st)
    own_switch leads leads' h _ = tt

    -- ---- static fields

    own_get : Go → (v : Option Value) (st : List Value) → Both (by_get v s (record f { stack = st })) (by_get v s' (record f' { stack = st }))
    own_get h None st = tt
    own_get h (Some v) st = going h (v ∷ st)

    own_put : Go → (at : FieldAt) → IsField at → (type : FieldType) (st : List Value) → Both (by_put at type st s f) (by_put at type st s' f')
    own_put h at field type [] = tt
    own_put h at field type (v ∷ st) =
        let within = field.within in
        let size = ss.counts at.class field.class field.class_is in
        let lt : at.field < length (values_of s at.class) = omega arith in
        both_if (is_of_type type v)
        (goes_with (record s { statics = with_static s.statics at (stored_as type v) }) f st)
        (goes_with (record s' { statics = with_static s'.statics at (stored_as type v) }) f' st)
        gets_stuck gets_stuck
        (puts_same p p' sides s s' at (stored_as type v) lt ss, on_next h st) tt

    -- ---- returns

    own_return : (c : ComputationalType) (type : Option FieldType) (st : List Value) → Both (by_return c type st) (by_return c type st)
    own_return c type [] = tt
    own_return c type (v ∷ st) = both_if (is_of c v) (leaves (Some (returned_as type v))) (leaves (Some (returned_as type v))) gets_stuck gets_stuck refl tt

    -- ---- calls

    own_call : (callee : Entry) (ps : List FieldType) (n : ℕ) → IsCallee callee ps n → Go → (r : Option Arguments) → AreFor ps r
        → Both (by_call callee n r f) (by_call callee (sides callee).twin.max_locals r f')
    own_call callee ps n c h None fit = tt
    own_call callee ps n c h (Some x) fit = (
      subst (λ m. SameFrame p p' sides (new_frame callee (locals_for m x.values)) (new_frame callee (locals_for (sides callee).twin.max_locals x.values)))
          (sym c.locals_are)
          (enters_same p p' sides callee c.side c.entered x.values
          (fit ∙ ap (sum_by slots_of) c.parameters_are
          ∙ sym (static_slots (sides callee).body.flags (sides callee).body.arg_slots (sides callee).body.desc c.side.well.arguments c.static))),
      record { one = record { method = o.one.method; side = o.one.side; entered = o.one.entered }; insn = new; early = early; here = o.here; next = h; stack = refl; locals = o.locals },
    )

    -- ---- all operations

    -- both have one stack
    over : (P : List Value → Type 0) → P f.stack → P f'.stack
    over P h = subst P (sym o.stack) h

    led : (op op' other : Operation) → op' ≡ other → Both (perform op s f) (perform other s' f') → Both (perform op s f) (perform op' s' f')
    led op op' other e h = subst (λ x. Both (perform op s f) (perform x s' f')) (sym e) h

    read_is : (k : ℕ) → slice_index_or f'.locals (twin_slot t.slot k) None ≡ slice_index_or f.locals k None
    read_is k = reads_local a t.slot f.locals f'.locals (image new f.place early) o.locals k

    abbrev with_stack : Frame → List Value → Frame
    with_stack g st = record g { stack = st }

    pub performed : (op op' : Operation) → Alike t f'.place f.place op op' → SameResult (perform op s f) (perform op' s' f')
    unfolding perform
    performed (pushes v) op' h =
        led (pushes v) op' (pushes v) h.0 (over (λ st. Both (goes_with s f (v ∷ f.stack)) (goes_with s' f' (v ∷ st))) (going h.1 (v ∷ f.stack)))
    performed (computes op) op' h =
        led (computes op) op' (computes op) h.0
        (over (λ st. Both (by_effect (effect op f.stack) s f) (by_effect (effect op st) s' (with_stack f' st))) (own_effect h.1 (effect op f.stack) f.stack))
    performed (loads c k) op' h =
        led (loads c k) op' (loads c (twin_slot t.slot k)) h.0
        (subst (λ r. Both (by_load c (slice_index_or f.locals k None) s f) (by_load c r s' f')) (sym (read_is k))
        (over (λ st. Both (by_load c (slice_index_or f.locals k None) s f) (by_load c (slice_index_or f.locals k None) s' (with_stack f' st)))
        (own_load h.1 c (slice_index_or f.locals k None) f.stack)))
    performed (stores c k) op' h =
        led (stores c k) op' (stores c (twin_slot t.slot k)) h.0
        (over (λ st. Both (by_store c k f.stack s f) (by_store c (twin_slot t.slot k) st s' f')) (own_store h.2 c k h.1 f.stack))
    performed (counts k by) op' h =
        led (counts k by) op' (counts (twin_slot t.slot k) by) h.0
        (subst (λ r. Both (by_count k by (slice_index_or f.locals k None) s f) (by_count (twin_slot t.slot k) by r s' f')) (sym (read_is k))
        (over (λ st. Both (by_count k by (slice_index_or f.locals k None) s f)
        (by_count (twin_slot t.slot k) by (slice_index_or f.locals k None) s' (with_stack f' st)))
        (own_count h.1 k by (slice_index_or f.locals k None) f.stack)))
    performed (tests op to) op' (target, inl h) =
        led (tests op to) op' (tests op target) h.0
        (over (λ st. Both (by_test (test_of op f.stack) to s f) (by_test (test_of op st) target s' f')) (own_test target to h.1 h.2 (test_of op f.stack)))
    performed (tests op to) op' (target, inr h) =
        led (tests op to) op' (tests (inverse_of op) target) h.0
        (over (λ st. Both (by_test (test_of op f.stack) to s f) (by_test (test_of (inverse_of op) st) target s' f'))
        (subst (λ r. Both (by_test (test_of op f.stack) to s f) (by_test r target s' f')) (sym (inverse_tests op h.1 f.stack))
        (own_inverse target to h.2 h.3 (test_of op f.stack))))
    performed (jumps to) op' h =
        led (jumps to) op' (jumps h.0) h.1 (ss, over (λ st. SameFrame p p' sides (at_place f to f.stack) (at_place f' h.0 st)) (on_to h.0 to h.2 f.stack))
    performed (indexes low d arms) op' h =
        led (indexes low d arms) op' (indexes low (h.0 d) (map h.0 arms)) h.1
        (over (λ st. Both (by_switch (table_target low d arms) f.stack s f) (by_switch (table_target low (h.0 d) (map h.0 arms)) st s' f'))
        (own_switch (table_target low d arms) (table_target low (h.0 d) (map h.0 arms))
        (λ key. index_arm low d arms key h.0 (λ to to'. GoesOnAt t to' to) h.2) f.stack))
    performed (matches d arms) op' h =
        led (matches d arms) op' (matches (h.0 d) (map (arm_with_place h.0) arms)) h.1
        (over (λ st. Both (by_switch (lookup_target d arms) f.stack s f) (by_switch (lookup_target (h.0 d) (map (arm_with_place h.0) arms)) st s' f'))
        (own_switch (lookup_target d arms) (lookup_target (h.0 d) (map (arm_with_place h.0) arms))
        (λ key. match_arm d arms key h.0 (λ to to'. GoesOnAt t to' to) h.2) f.stack))
    performed (reads types) op' h =
        led (reads types) op' (reads types) h.0 (over (λ st. Both (by_read types f.stack s f) (by_read types st s' f')) (reads_alike h.1 types f.stack))
    performed (writes types) op' h =
        led (writes types) op' (writes types) h.0 (over (λ st. Both (by_write types f.stack s f) (by_write types st s' f')) (writes_alike h.1 types f.stack))
    performed (makes_array element) op' h =
        led (makes_array element) op' (makes_array element) h.0
        (over (λ st. Both (by_make_array element f.stack s f) (by_make_array element st s' f')) (makes_array_alike h.1 element f.stack))
    performed measures op' h = led measures op' measures h.0 (over (λ st. Both (by_measure f.stack s f) (by_measure st s' f')) (measures_alike h.1 f.stack))
    performed (gets at type) op' h =
        let size = ss.counts at.class h.1.class h.1.class_is in
        let within = h.1.within in
        let lt : at.field < length (values_of s at.class) = omega arith in
        led (gets at type) op' (gets at type) h.0
        (subst (λ r. Both (by_get (static_at s.statics at) s f) (by_get r s' f')) (sym (reads_same p p' sides s s' at lt ss))
        (over (λ st. Both (by_get (static_at s.statics at) s f) (by_get (static_at s.statics at) s' (with_stack f' st)))
        (own_get h.2 (static_at s.statics at) f.stack)))
    performed (puts at type) op' h =
        led (puts at type) op' (puts at type) h.0 (over (λ st. Both (by_put at type f.stack s f) (by_put at type st s' f')) (own_put h.2 at h.1 type f.stack))
    performed (invokes callee ps n) op' h =
        led (invokes callee ps n) op' (invokes callee ps (sides callee).twin.max_locals) h.0
        (over (λ st. Both (by_call callee n (taken_for ps f.stack) f) (by_call callee (sides callee).twin.max_locals (taken_for ps st) f'))
        (own_call callee ps n h.1 h.2 (taken_for ps f.stack) (taken_fits ps f.stack)))
    performed (makes c) op' h =
        led (makes c) op' (makes c) h.0
        (over (λ st. Both (made 1 (throwable c) f.stack s f) (made 1 (throwable c) st s' f')) (own_made h.1 1 (throwable c) f.stack))
    performed (builds c) op' h =
        led (builds c) op' (builds c) h.0 (over (λ st. Both (by_build c f.stack s f) (by_build c st s' f')) (builds_alike h.1 c f.stack))
    performed (prints k) op' h =
        led (prints k) op' (prints k) h.0 (over (λ st. Both (by_println k f.stack s f) (by_println k st s' f')) (prints_alike h.1 k f.stack))
    performed (fetches class init) op' h = absurd h
    performed (casts class) op' h = absurd h
    performed (returns c type) op' h =
        led (returns c type) op' (returns c type) h (over (λ st. Both (by_return c type f.stack) (by_return c type st)) (own_return c type f.stack))
    performed returns_nothing op' h = led returns_nothing op' returns_nothing h refl
    performed throws_top op' h = led throws_top op' throws_top h (over (λ st. Both (by_throw f.stack s) (by_throw st s')) (throws_alike f.stack))
    performed outside op' h = led outside op' outside h tt
