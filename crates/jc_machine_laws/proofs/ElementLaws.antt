-- Each turn keeps a world fitting: arrays, throwables, printing and probe arrays.
use Rattle.std.proofs.Common.{◌≡◌, ℕ, ◌+◌, ◌%◌, ℤ, pos, negsuc, Bool, true, false, cond, List, [], ◌∷◌, ◌++◌}
use Rattle.std.proofs.Common.{length, map, reverse, replicate, Option, Some, None, nat_eq, nat_le, refl, sym, ◌∙◌, ap}
use Rattle.std.proofs.Common.{subst, append-nil, slice_set, slice_index_or, nat_lt, ◌<◌}
use Rattle.std.proofs.lemmas.Bool.{ltb-true, eqb-true, false≢true}
use Rattle.std.specs.Prelude.{slice_get}
use Rattle.std.specs.List.{AllByRecursion, list_any}
use Rattle.std.specs.Fmt.{signed_decimal}
use Rattle.std.specs.Int.{w32, cast_unsigned}
use Rattle.std.proofs.lemmas.Option.{same_Some}
use Rattle.jc_bytes.specs.Descriptor.{FieldType, Long, Boolean}
use Rattle.jc_bytes.proofs.OptionLaws.{none_some}
use Rattle.jc_bytes.proofs.EachLaws.{all_behind}
use Rattle.jc_bytes.proofs.DecoderLaws.{guard_some}
use Rattle.jc_methods.specs.declared.insn.Insn.{Insn}
use Rattle.jc_methods.specs.declared.body.Body.{Body}
use Rattle.jc_methods.specs.Flow.{FallsThrough}
use Rattle.jc_methods.specs.ProbeMembers.{data_type}
use Rattle.jc_methods.specs.VerificationTypes.{VerificationType, TypeState}
use Rattle.jc_methods.specs.VerificationTypes as verification
use Rattle.jc_programs.specs.Members.{class_at}
use Rattle.jc_programs.specs.declared.program.Program.{Program}
use Rattle.jc_programs.specs.declared.program.Linked.{Linked}
use Rattle.jc_programs.specs.declared.program.ProbeInit.{ProbeInit}
use Rattle.jc_programs.specs.declared.run_end.Thrown.{Thrown}
use Rattle.jc_programs.specs.Throwables.{is_one}
use Rattle.jc_programs.specs.declared.run_end.Thrown.TheVariants as thrown
use Rattle.jc_kinds_after.specs.declared.want.Want.{Want}
use Rattle.jc_kinds_after.specs.Wants.{accepts_all}
use Rattle.jc_kinds_after.specs.Step.{kind, Ground, limited, upper, below, is_made, without, same_new, class_built, replaced, built_as}
use Rattle.jc_kinds_after.specs.Table.{form}
use Rattle.jc_kinds_after.specs.After.{step_of, returns_of, ground_of}
use Rattle.jc_kinds_after.specs.declared.want.Want.TheVariants as wants
use Rattle.jc_kinds_after.specs.Step as kinds
use Rattle.jc_machine_model.specs.Values.{Value, int, long, null, object, memory_error, print_stream, probes, text}
use Rattle.jc_machine_model.specs.Heap.{HeapObject, array, throwable, has_room}
use Rattle.jc_machine_model.specs.Arrays.{element_value, has_elements, index_within, Element, Found, found, fails, unsuited}
use Rattle.jc_machine_model.specs.Arrays.{in_array, in_heap_object, find_element, read_found, by_read, element_number, with_element}
use Rattle.jc_machine_model.specs.Arrays.{write_number, write_found, by_probe, write_to, by_write, by_make_array, measured, by_measure}
use Rattle.jc_machine_model.specs.World.{Frame, Shared}
use Rattle.jc_machine_model.specs.Operations.{Printed, an_int_line, a_long_line, a_boolean_line, an_empty_line}
use Rattle.jc_machine_model.specs.Results.{hits, raises, gets_stuck, next_with, goes_with}
use Rattle.jc_machine_model.specs.Objects.{made, thrown_of, built, by_build, thrown_up, by_throw, most_printed, by_print, boolean_text, by_println, is_fetched, by_fetch, by_cast}
use Rattle.jc_machine_model.specs.Profile.{made_class}
use Rattle.jc_machine_model.specs.Fits.{made_in, IsOfBy, IsInSlotBy, AreInSlotsBy, AreOfBy, IsStackBy, IsThere, HasProbes, HasProbe}
use Rattle.jc_machine_laws.proofs.TypedLaws.{References, HoldingTyping, holds_in, references_in}
use Rattle.jc_machine_laws.proofs.LocalLaws.{from_slot}
use Rattle.jc_machine_laws.proofs.StackLaws.{reverse_map, below_is, pushed, Top, top_of, not_chosen}
use Rattle.jc_machine_laws.proofs.GrowLaws.{Grows, same_heap, longer_by, one_set, at_end, values_grow, slots_grow, slots_on, stack_on, shared_grows}
use Rattle.jc_machine_laws.proofs.StepLaws.{Turn, Fine, falls, going, turns_fine, takes_fine, stepped, with_stack_is}

-- ---- elements

unsuited_found : {e : Element} → unsuited ≡ found e → ⊥
unsuited_found p = cc

fails_found : {c : Thrown} {e : Element} → fails c ≡ found e → ⊥
fails_found p = cc

found_is : (d e : Element) → found d ≡ found e → d ≡ e
found_is d e p = cc

index_suits : (types : List FieldType) (el : FieldType) (els : List ℤ) (o : Option ℕ) (e : Element) → has_elements types el ≡ true
    → in_array el els o ≡ found e → has_elements types e.element ≡ true
index_suits types el els None e h p = absurd (fails_found p)
index_suits types el els (Some i) e h p = subst (λ (x : Element). has_elements types x.element ≡ true) (found_is _ e p) h

-- the array of an element stands in the heap
index_array : (el : FieldType) (els : List ℤ) (o : Option ℕ) (e : Element) → in_array el els o ≡ found e → array el els ≡ array e.element e.elements
index_array el els None e p = absurd (fails_found p)
index_array el els (Some i) e p = ap (λ (x : Element). array x.element x.elements) (found_is _ e p)

object_array : (types : List FieldType) (i : ℤ) (o : Option HeapObject) (e : Element) → in_heap_object types i o ≡ found e
    → o ≡ Some (array e.element e.elements)
object_array types i (Some (array el els)) e p = by (has_elements types el) p
  where
    by : (b : Bool) → cond b (in_array el els (index_within i (length els))) unsuited ≡ found e → Some (array el els) ≡ Some (array e.element e.elements)
    by true q = ap (λ x. Some x) (index_array el els (index_within i (length els)) e q)
    by false q = absurd (unsuited_found q)
object_array types i o e p = absurd (unsuited_found p)

object_suits : (types : List FieldType) (i : ℤ) (o : Option HeapObject) (e : Element) → in_heap_object types i o ≡ found e → has_elements types e.element ≡ true
object_suits types i (Some (array el els)) e p = by (has_elements types el) refl p
  where
    by : (b : Bool) → has_elements types el ≡ b → cond b (in_array el els (index_within i (length els))) unsuited ≡ found e
        → has_elements types e.element ≡ true
    by true h q = index_suits types el els (index_within i (length els)) e h q
    by false h q = absurd (unsuited_found q)
object_suits types i o e p = absurd (unsuited_found p)

element_suits : (types : List FieldType) (heap : List HeapObject) (a : Value) (i : ℤ) (e : Element)
    → find_element types heap a i ≡ found e → has_elements types e.element ≡ true
element_suits types heap null i e p = absurd (fails_found p)
element_suits types heap (object k) i e p = object_suits types i (slice_get heap k) e p
element_suits types heap a i e p = absurd (unsuited_found p)

element_there : (program : Program) (heap : List HeapObject) (el : FieldType) (x : ℤ) → IsThere program heap (element_value el x)
element_there program heap Long x = tt
element_there program heap el x = tt

index_below : (i : ℤ) (count id : ℕ) → index_within i count ≡ Some id → id < count
index_below (pos j) count id e = by (nat_lt j count) refl e
  where
    by : (z : Bool) → nat_lt j count ≡ z → cond z (Some j) None ≡ Some id → id < count
    by true p q = subst (λ n. n < count) (same_Some j id q) (ltb-true j count p)
    by false p q = absurd (none_some q)
index_below (negsuc j) count id e = absurd (none_some e)

probe_of : (o : Option Linked) (count id : ℕ) → HasProbes o count → id < count → HasProbe o id
probe_of None count id h l = absurd h
probe_of (Some d) count id h l = (h.0, h.1, subst (λ n. id < n) (sym h.2) l)

-- elements of types other than long are ints
pub int_element : (R : References) (types : List FieldType) → has_elements types Long ≡ false → (el : FieldType) (x : ℤ)
    → has_elements types el ≡ true → IsOfBy R.holds (element_value el x) verification.int
int_element R types p Long x q = absurd (false≢true (sym p ∙ q))
int_element R types p el x q = tt

pub long_element : (R : References) (el : FieldType) (x : ℤ) → has_elements (Long ∷ []) el ≡ true
    → IsOfBy R.holds (element_value el x) verification.long
long_element R Long x q = tt
long_element R el x q = absurd (false≢true q)

-- ---- objects before their constructor

module _ (R : References) where
  without_fits : (place : ℕ) (l : Option Value) (h : VerificationType) → IsInSlotBy R.holds l h → IsInSlotBy R.holds l (without place h)
  without_fits place l h p = by (is_made place h)
    where
      by : (z : Bool) → IsInSlotBy R.holds l (cond z verification.top h)
      by true = tt
      by false = p

  slots_without : (place : ℕ) (locals : List (Option Value)) (ks : List VerificationType) → AreInSlotsBy R.holds locals ks
      → AreInSlotsBy R.holds locals (map (without place) ks)
  slots_without place [] [] p = tt
  slots_without place [] (h ∷ ks) p = absurd p
  slots_without place (l ∷ locals) [] p = absurd p
  slots_without place (l ∷ locals) (h ∷ ks) p = (without_fits place l h p.0, slots_without place locals ks p.1)

-- The reference is of the class of which the constructor was called.
module _ (ty : HoldingTyping) (heap : List HeapObject) (b : Body) (i : ℕ) where
  kind_built : (old : VerificationType) (name : List ℕ) (v : Value) (h : VerificationType) → class_built (ground_of b i) old ≡ Some name
      → same_new old h ≡ true → IsOfBy (holds_in ty heap b) v h → IsOfBy (holds_in ty heap b) v (verification.object name)
  kind_built (verification.uninit at) name v (verification.uninit other) c e p =
      subst (λ x. holds_in ty heap b v (verification.object x)) (same_Some (made_in b at) name c)
      (ty.holding.built heap (made_in b) v at (subst (λ x. holds_in ty heap b v (verification.uninit x)) (sym (eqb-true at other e)) p))
  kind_built verification.uninit_this name v verification.uninit_this c e p = ty.holding.built_this heap (made_in b) v name p
  kind_built old name v h c e p = absurd (false≢true e)

  nothing_new : (old h : VerificationType) → same_new old h ≡ true → IsInSlotBy (holds_in ty heap b) None h → ⊥
  nothing_new (verification.uninit at) (verification.uninit other) e p = p
  nothing_new verification.uninit_this verification.uninit_this e p = p
  nothing_new old h e p = false≢true e

  slot_built : (old : VerificationType) (name : List ℕ) (l : Option Value) (h : VerificationType) → class_built (ground_of b i) old ≡ Some name
      → same_new old h ≡ true → IsInSlotBy (holds_in ty heap b) l h → IsInSlotBy (holds_in ty heap b) l (verification.object name)
  slot_built old name None h c e p = absurd (nothing_new old h e p)
  slot_built old name (Some v) h c e p = kind_built old name v h c e (from_slot (references_in ty heap b) v h p)

  slot_replaced : (old : VerificationType) (name : List ℕ) (l : Option Value) (h : VerificationType) → class_built (ground_of b i) old ≡ Some name
      → IsInSlotBy (holds_in ty heap b) l h → IsInSlotBy (holds_in ty heap b) l (replaced old name h)
  slot_replaced old name l h c p = by (same_new old h) refl
    where
      by : (z : Bool) → same_new old h ≡ z → IsInSlotBy (holds_in ty heap b) l (cond z (verification.object name) h)
      by true e = slot_built old name l h c e p
      by false e = p

  kind_replaced : (old : VerificationType) (name : List ℕ) (v : Value) (h : VerificationType) → class_built (ground_of b i) old ≡ Some name
      → IsOfBy (holds_in ty heap b) v h → IsOfBy (holds_in ty heap b) v (replaced old name h)
  kind_replaced old name v h c p = by (same_new old h) refl
    where
      by : (z : Bool) → same_new old h ≡ z → IsOfBy (holds_in ty heap b) v (cond z (verification.object name) h)
      by true e = kind_built old name v h c e p
      by false e = p

  slots_replaced : (old : VerificationType) (name : List ℕ) (locals : List (Option Value)) (ks : List VerificationType)
      → class_built (ground_of b i) old ≡ Some name → AreInSlotsBy (holds_in ty heap b) locals ks
      → AreInSlotsBy (holds_in ty heap b) locals (map (replaced old name) ks)
  slots_replaced old name [] [] c p = tt
  slots_replaced old name [] (h ∷ ks) c p = absurd p
  slots_replaced old name (l ∷ locals) [] c p = absurd p
  slots_replaced old name (l ∷ locals) (h ∷ ks) c p = (slot_replaced old name l h c p.0, slots_replaced old name locals ks c p.1)

  kinds_replaced : (old : VerificationType) (name : List ℕ) (values : List Value) (ks : List VerificationType)
      → class_built (ground_of b i) old ≡ Some name → AreOfBy (holds_in ty heap b) values ks
      → AreOfBy (holds_in ty heap b) values (map (replaced old name) ks)
  kinds_replaced old name [] [] c p = tt
  kinds_replaced old name [] (h ∷ ks) c p = absurd p
  kinds_replaced old name (v ∷ values) [] c p = absurd p
  kinds_replaced old name (v ∷ values) (h ∷ ks) c p = (kind_replaced old name v h c p.0, kinds_replaced old name values ks c p.1)

  stack_replaced : (old : VerificationType) (name : List ℕ) (stack : List Value) (ks : List VerificationType)
      → class_built (ground_of b i) old ≡ Some name → IsStackBy (holds_in ty heap b) stack ks
      → IsStackBy (holds_in ty heap b) stack (map (replaced old name) ks)
  stack_replaced old name stack ks c p =
      subst (AreOfBy (holds_in ty heap b) stack) (sym (reverse_map (replaced old name) ks)) (kinds_replaced old name stack (reverse ks) c p)

-- what a constructor without parameters leaves
record Built (g : Ground) (k t : TypeState) : Type 0 where
  old : VerificationType
  name : List ℕ
  class : class_built g old ≡ Some name
  locals : map (replaced old name) k.locals ≡ t.locals
  stack : map (replaced old name) (below 1 k.stack) ≡ t.stack

built_is : (g : Ground) (most : ℕ) (old : VerificationType) (o : Option (List ℕ)) (k t : TypeState) → class_built g old ≡ o
    → built_as most old (below 1 k.stack) [] o k ≡ Some t → Built g k t
built_is g most old None k t c e = absurd (none_some e)
built_is g most old (Some name) k t c e =
    let p = with_stack_is (record { locals = map (replaced old name) k.locals; stack = k.stack }) t
    (limited most (map (replaced old name) (below 1 k.stack) ++ [])) e in
    record {
      old = old;
      name = name;
      class = c;
      locals = p.1;
      stack =
          sym (append-nil (map (replaced old name) (below 1 k.stack)))
          ∙ same_Some _ t.stack (guard_some _ (Some (map (replaced old name) (below 1 k.stack) ++ [])) t.stack p.0).1;
    }

-- ---- printing

-- the operands of println
unfoldable pub printed_wants : Printed → List Want
printed_wants an_int_line = wants.Reference ∷ wants.Int ∷ []
printed_wants a_long_line = wants.Reference ∷ wants.Long ∷ []
printed_wants a_boolean_line = wants.Reference ∷ wants.Int ∷ []
printed_wants an_empty_line = wants.Reference ∷ []

module _ {ty : HoldingTyping} {program : Program} {s : Shared} {f : Frame} {c : Linked} {b : Body} {insn : Insn} {k t : TypeState}
    (turn : Turn ty program s f c b insn k t) where
  stack_there : (stack : List Value) → f.stack ≡ stack → AllByRecursion (IsThere program s.heap) stack
  stack_there stack q = subst (AllByRecursion (IsThere program s.heap)) q (turn.there).stack

  -- operands are taken, and the heap grows or stays
  pops : (vs rest : List Value) (wanted : List Want) (heap : List HeapObject) (output : List ℕ)
      → step_of b.uses (returns_of b) insn ≡ kinds.moves (form wanted [] ∷ []) → FallsThrough insn → f.stack ≡ vs ++ rest
      → length wanted ≡ length vs
      → Grows s.heap heap → Fine ty program s f b (goes_with (record s { heap = heap; output = output }) f rest)
  pops vs rest wanted heap output e l d n g =
      takes_fine turn vs rest wanted (f.place + 1) (record s { heap = heap; output = output }) e (falls turn l) d n
      (values_grow program s.heap heap g.longer rest (all_behind (IsThere program s.heap) vs rest (stack_there (vs ++ rest) d)))
      (slots_grow program s.heap heap g.longer f.locals (turn.there).locals)
      (shared_grows ty program s heap output s.raised g turn.shared) g

  turned : (vs rest : List Value) (wanted : List Want) (h : VerificationType) (v : Value) (heap : List HeapObject)
      → step_of b.uses (returns_of b) insn ≡ kinds.moves (form wanted (kind h ∷ []) ∷ []) → FallsThrough insn → f.stack ≡ vs ++ rest
      → length wanted ≡ length vs → IsOfBy (holds_in ty heap b) v h → IsThere program heap v → Grows s.heap heap
      → Fine ty program s f b (goes_with (record s { heap = heap }) f (v ∷ rest))
  turned vs rest wanted h v heap e l d n p q g =
      turns_fine turn vs rest wanted h v (record s { heap = heap }) e l d n p q
      (values_grow program s.heap heap g.longer rest (all_behind (IsThere program s.heap) vs rest (stack_there (vs ++ rest) d)))
      (slots_grow program s.heap heap g.longer f.locals (turn.there).locals)
      (shared_grows ty program s heap s.output s.raised g turn.shared) g

  -- ---- arrays

  pub reads_fine : (types : List FieldType) (h : VerificationType)
      → step_of b.uses (returns_of b) insn ≡ kinds.moves (form (wants.Reference ∷ wants.Int ∷ []) (kind h ∷ []) ∷ []) → FallsThrough insn
      → ((el : FieldType) (x : ℤ) → has_elements types el ≡ true → IsOfBy (holds_in ty s.heap b) (element_value el x) h)
      → (stack : List Value) → f.stack ≡ stack → Fine ty program s f b (by_read types stack s f)
  unfolding Fine
  reads_fine types h e l w (int i ∷ a ∷ stack) q = by (find_element types s.heap a i) refl
    where
      by : (r : Found) → find_element types s.heap a i ≡ r → Fine ty program s f b (read_found r stack s f)
      by (found x) g =
          turned (int i ∷ a ∷ []) stack (wants.Reference ∷ wants.Int ∷ []) h
          (element_value x.element (slice_index_or x.elements x.index (pos 0))) s.heap e l q refl
          (w x.element (slice_index_or x.elements x.index (pos 0)) (element_suits types s.heap a i x g))
          (element_there program s.heap x.element (slice_index_or x.elements x.index (pos 0))) (same_heap s.heap)
      by (fails d) g = tt
      by unsuited g = tt
  reads_fine types h e l w stack q = tt

  writes_to : (types : List FieldType) (w : Want)
      → step_of b.uses (returns_of b) insn ≡ kinds.moves (form (wants.Reference ∷ wants.Int ∷ w ∷ []) [] ∷ []) → FallsThrough insn
      → (v : Value) (i : ℤ) (a : Value) (stack : List Value) → f.stack ≡ v ∷ int i ∷ a ∷ stack → Fine ty program s f b (write_to types a i v stack s f)
  unfolding Fine
  writes_to types w e l v i null stack q = tt
  writes_to types w e l v i (object j) stack q = at (find_element types s.heap (object j) i) refl
    where
      number : (x : Element) (o : Option ℤ) → slice_get s.heap j ≡ Some (array x.element x.elements) → Fine ty program s f b (write_number x o j stack s f)
      number x None g = tt
      number x (Some n) g =
          pops (v ∷ int i ∷ object j ∷ []) stack (wants.Reference ∷ wants.Int ∷ w ∷ [])
          (slice_set s.heap j (with_element x n)) s.output e l q refl
          (one_set s.heap j (array x.element x.elements) (with_element x n) g refl)

      at : (r : Found) → find_element types s.heap (object j) i ≡ r → Fine ty program s f b (write_found r v j stack s f)
      at (found x) g = number x (element_number x.element v) (object_array types i (slice_get s.heap j) x g)
      at (fails d) g = tt
      at unsuited g = tt
  writes_to types w e l v i (probes class count) stack q = by (has_elements types Boolean)
    where
      odd : (id : ℕ) → index_within i count ≡ Some id → (z : Bool) → Fine ty program s f b (cond z gets_stuck (hits class id (next_with f stack)))
      odd id g true = tt
      odd id g false = (
        pops (v ∷ int i ∷ probes class count ∷ []) stack (wants.Reference ∷ wants.Int ∷ w ∷ []) s.heap s.output e l q refl (same_heap s.heap),
        probe_of (class_at program class) count id (stack_there (v ∷ int i ∷ probes class count ∷ stack) q).1.1.0 (index_below i count id g),
      )

      mark : (o : Option ℕ) → index_within i count ≡ o → (u : Value) → Fine ty program s f b (by_probe class o u stack f)
      mark None g (int x) = tt
      mark (Some id) g (int x) = odd id g (nat_eq (cast_unsigned w32 x % 2) 0)
      mark o g u = tt

      by : (z : Bool) → Fine ty program s f b (cond z (by_probe class (index_within i count) v stack f) gets_stuck)
      by true = mark (index_within i count) refl v
      by false = tt
  writes_to types w e l v i a stack q = tt

  pub writes_fine : (types : List FieldType) (w : Want)
      → step_of b.uses (returns_of b) insn ≡ kinds.moves (form (wants.Reference ∷ wants.Int ∷ w ∷ []) [] ∷ []) → FallsThrough insn
      → (stack : List Value) → f.stack ≡ stack → Fine ty program s f b (by_write types stack s f)
  unfolding Fine
  writes_fine types w e l (v ∷ int i ∷ a ∷ stack) q = writes_to types w e l v i a stack q
  writes_fine types w e l stack q = tt

  pub makes_array_fine : (element : FieldType) (name : List ℕ)
      → ((elements : List ℤ) → holds_in ty (s.heap ++ array element elements ∷ []) b (object (length s.heap)) (verification.object name))
      → step_of b.uses (returns_of b) insn ≡ kinds.moves (form (wants.Int ∷ []) (kind (verification.object name) ∷ []) ∷ [])
      → FallsThrough insn
      → (stack : List Value) → f.stack ≡ stack → Fine ty program s f b (by_make_array element stack s f)
  unfolding Fine
  makes_array_fine element name h e l (int (negsuc n) ∷ stack) q = tt
  makes_array_fine element name h e l (int (pos n) ∷ stack) q = by (has_room s.heap (n + 1))
    where
      by : (z : Bool) → Fine ty program s f b
          (cond z (goes_with (record s { heap = s.heap ++ array element (replicate n (pos 0)) ∷ [] }) f
          (object (length s.heap) ∷ stack)) (raises thrown.OutOfMemoryError))
      by false = tt
      by true =
          turned (int (pos n) ∷ []) stack (wants.Int ∷ []) (verification.object name) (object (length s.heap))
          (s.heap ++ array element (replicate n (pos 0)) ∷ []) e l q refl (h (replicate n (pos 0)))
          (at_end s.heap (array element (replicate n (pos 0)))) (longer_by s.heap (array element (replicate n (pos 0))))
  makes_array_fine element name h e l stack q = tt

  pub measures_fine : step_of b.uses (returns_of b) insn ≡ kinds.moves
      (form (wants.Reference ∷ []) (kind verification.int ∷ []) ∷ []) → FallsThrough insn → (stack : List Value) → f.stack ≡ stack
      → Fine ty program s f b (by_measure stack s f)
  unfolding Fine
  measures_fine e l (null ∷ stack) q = tt
  measures_fine e l (object j ∷ stack) q = by (slice_get s.heap j)
    where
      by : (o : Option HeapObject) → Fine ty program s f b (measured o stack s f)
      by (Some (array el els)) =
          turned (object j ∷ []) stack (wants.Reference ∷ []) verification.int (int (pos (length els))) s.heap e l q refl tt tt
          (same_heap s.heap)
      by o = tt
  measures_fine e l stack q = tt

  -- ---- throwables

  pub makes_fine : (d : Thrown) → made_class (made_in b f.place) ≡ Some d → step_of b.uses (returns_of b) insn ≡ kinds.makes → FallsThrough insn
      → Fine ty program s f b (made 1 (throwable d) f.stack s f)
  unfolding Fine
  makes_fine d h e l = by (has_room s.heap 1)
    where
      marked : List VerificationType
      marked = k.stack ++ verification.uninit f.place ∷ []

      made_is : (limited b.max_stack marked ≡ Some t.stack) × (map (without f.place) k.locals ≡ t.locals)
      made_is =
          with_stack_is (record { locals = map (without f.place) k.locals; stack = k.stack }) t (limited b.max_stack marked)
          (not_chosen (list_any (is_made f.place) k.stack) _ t (stepped turn kinds.makes e))

      heap : List HeapObject
      heap = s.heap ++ throwable d ∷ []

      by : (z : Bool) → Fine ty program s f b
          (cond z (goes_with (record s { heap = s.heap ++ throwable d ∷ [] }) f (object (length s.heap) ∷ f.stack))
          (raises thrown.OutOfMemoryError))
      by false = tt
      by true = let g = longer_by s.heap (throwable d) in
          let R = references_in ty heap b in
          going turn (record s { heap = heap }) (f.place + 1) f.locals (object (length s.heap) ∷ f.stack) (falls turn l)
          (subst (AreInSlotsBy (holds_in ty heap b) f.locals) made_is.1
          (slots_without R f.place f.locals k.locals (slots_on ty s.heap heap g (made_in b) f.locals k.locals turn.locals))) turn.pairs
          (subst (IsStackBy (holds_in ty heap b) (object (length s.heap) ∷ f.stack))
          (same_Some (k.stack ++ verification.uninit f.place ∷ []) t.stack
          (guard_some _ (Some (k.stack ++ verification.uninit f.place ∷ [])) t.stack made_is.0).1)
          (pushed R (object (length s.heap)) f.stack (verification.uninit f.place) k.stack
          (ty.holding.new_throwable s.heap (made_in b) f.place d h) (stack_on ty s.heap heap g (made_in b) f.stack k.stack turn.stack)))
          (slots_grow program s.heap heap g.longer f.locals (turn.there).locals)
          (at_end s.heap (throwable d), values_grow program s.heap heap g.longer f.stack (turn.there).stack)
          (shared_grows ty program s heap s.output s.raised g turn.shared) g

  pub builds_fine : (d : Thrown) → step_of b.uses (returns_of b) insn ≡ kinds.builds (form [] []) → FallsThrough insn
      → (stack : List Value) → f.stack ≡ stack → Fine ty program s f b (by_build d stack s f)
  unfolding Fine
  builds_fine d e l [] q = tt
  builds_fine d e l (v ∷ stack) q = at (thrown_of s.heap v)
    where
      old : VerificationType
      old = slice_index_or (upper 1 k.stack) 0 verification.top

      parts : Built (ground_of b f.place) k t
      parts =
          built_is (ground_of b f.place) b.max_stack old (class_built (ground_of b f.place) old) k t refl
          (guard_some (accepts_all (wants.Anything ∷ []) (upper 1 k.stack)) _ t (stepped turn (kinds.builds (form [] [])) e)).1

      top : Top (references_in ty s.heap b) v stack k.stack
      top = top_of (references_in ty s.heap b) v stack k.stack (subst (λ x. IsStackBy (holds_in ty s.heap b) x k.stack) q turn.stack)

      rest : IsStackBy (holds_in ty s.heap b) stack (below 1 k.stack)
      rest = subst (IsStackBy (holds_in ty s.heap b) stack) (sym (ap (below 1) top.parts ∙ below_is top.low (top.kind ∷ []) 1 refl)) top.below

      by : (z : Bool) → Fine ty program s f b (cond z (goes_with s f stack) gets_stuck)
      by false = tt
      by true =
          going turn s (f.place + 1) f.locals stack (falls turn l)
          (subst (AreInSlotsBy (holds_in ty s.heap b) f.locals) parts.locals
          (slots_replaced ty s.heap b f.place parts.old parts.name f.locals k.locals parts.class turn.locals)) turn.pairs
          (subst (IsStackBy (holds_in ty s.heap b) stack) parts.stack
          (stack_replaced ty s.heap b f.place parts.old parts.name stack (below 1 k.stack) parts.class rest)) (turn.there).locals
          (stack_there (v ∷ stack) q).1 turn.shared (same_heap s.heap)

      at : (o : Option Thrown) → Fine ty program s f b (built d o stack s f)
      at None = tt
      at (Some x) = by (is_one d x)

  pub throws_fine : (stack : List Value) → f.stack ≡ stack → Fine ty program s f b (by_throw stack s)
  unfolding Fine
  throws_fine (null ∷ stack) q = tt
  throws_fine (object j ∷ stack) q = by (thrown_of s.heap (object j)) refl
    where
      by : (o : Option Thrown) → thrown_of s.heap (object j) ≡ o → Fine ty program s f b (thrown_up o (object j))
      by None e = tt
      by (Some d) e = (e, (stack_there (object j ∷ stack) q).0)
  throws_fine (memory_error ∷ stack) q = (refl, tt)
  throws_fine stack q = tt

  -- ---- printing

  prints_line : (line : List ℕ) (vs stack : List Value) (wanted : List Want) (stream : Value)
      → step_of b.uses (returns_of b) insn ≡ kinds.moves (form wanted [] ∷ []) → FallsThrough insn → f.stack ≡ vs ++ stack
      → length wanted ≡ length vs → Fine ty program s f b (by_print line stream stack s f)
  unfolding Fine
  prints_line line vs stack wanted null e l d n = tt
  prints_line line vs stack wanted print_stream e l d n = by (nat_le (length s.output + (length line + 1)) most_printed)
    where
      by : (z : Bool) → Fine ty program s f b (cond z (goes_with (record s { output = s.output ++ (line ++ 10 ∷ []) }) f stack) gets_stuck)
      by false = tt
      by true = pops vs stack wanted s.heap (s.output ++ (line ++ 10 ∷ [])) e l d n (same_heap s.heap)
  prints_line line vs stack wanted v e l d n = tt

  pub prints_fine : (printed : Printed) → step_of b.uses (returns_of b) insn ≡ kinds.moves (form (printed_wants printed) [] ∷ [])
      → FallsThrough insn → (stack : List Value) → f.stack ≡ stack → Fine ty program s f b (by_println printed stack s f)
  unfolding Fine printed_wants
  prints_fine an_int_line e l (int x ∷ stream ∷ stack) q = prints_line (signed_decimal x) (int x ∷ stream ∷ []) stack _ stream e l q refl
  prints_fine a_long_line e l (long x ∷ stream ∷ stack) q = prints_line (signed_decimal x) (long x ∷ stream ∷ []) stack _ stream e l q refl
  prints_fine a_boolean_line e l (int x ∷ stream ∷ stack) q = prints_line (boolean_text x) (int x ∷ stream ∷ []) stack _ stream e l q refl
  prints_fine an_empty_line e l (stream ∷ stack) q = prints_line [] (stream ∷ []) stack _ stream e l q refl
  prints_fine printed e l stack q = tt

  -- ---- probe arrays

  pub fetches_fine : (class : ℕ) (init : ProbeInit)
      → step_of b.uses (returns_of b) insn ≡ kinds.moves
      (form (wants.Long ∷ wants.Reference ∷ wants.Int ∷ []) (kind (verification.object data_type) ∷ []) ∷ []) → FallsThrough insn
      → IsThere program s.heap (probes class init.count) → (stack : List Value) → f.stack ≡ stack → Fine ty program s f b (by_fetch class init stack s f)
  unfolding Fine
  fetches_fine class init e l p (int count ∷ text of ∷ long id ∷ stack) q = by (is_fetched class init id of count)
    where
      by : (z : Bool) → Fine ty program s f b (cond z (goes_with s f (probes class init.count ∷ stack)) gets_stuck)
      by false = tt
      by true =
          turned (int count ∷ text of ∷ long id ∷ []) stack (wants.Long ∷ wants.Reference ∷ wants.Int ∷ [])
          (verification.object data_type) (probes class init.count) s.heap e l q refl (ty.holding.of_probes s.heap (made_in b) class init.count) p
          (same_heap s.heap)
  fetches_fine class init e l p stack q = tt

  -- the array of the class stays where it is
  pub casts_fine : (class : ℕ)
      → step_of b.uses (returns_of b) insn ≡ kinds.moves
      (form (wants.Reference ∷ []) (kind (verification.object data_type) ∷ []) ∷ []) → FallsThrough insn
      → (stack : List Value) → f.stack ≡ stack → Fine ty program s f b (by_cast class stack s f)
  unfolding Fine
  casts_fine class e l (probes of count ∷ stack) q = by (nat_eq of class)
    where
      by : (z : Bool) → Fine ty program s f b (cond z (goes_with s f (probes of count ∷ stack)) gets_stuck)
      by false = tt
      by true =
          turned (probes of count ∷ []) stack (wants.Reference ∷ []) (verification.object data_type) (probes of count) s.heap e l q refl
          (ty.holding.of_probes s.heap (made_in b) of count)
          (stack_there (probes of count ∷ stack) q).0 (same_heap s.heap)
  casts_fine class e l stack q = tt
