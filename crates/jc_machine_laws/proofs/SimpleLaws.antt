-- Each turn keeps a world fitting: each instruction that names nothing in the pool.
use Rattle.std.proofs.Common.{◌≡◌, inl, inr, ⊎_elim, ℕ, ◌+◌, ◌-◌, ◌<◌, ◌≤◌, ℤ, Bool, true, false, ◌&&◌, ◌||◌, cond, List, []}
use Rattle.std.proofs.Common.{◌∷◌, length, Option, Some, None, nat_eq, nat_le, nat_lt, refl, sym, ◌∙◌, ap, subst, arith, slice_index_or}
use Rattle.std.proofs.lemmas.Bool.{eqb-true, cases_lt, false≢true, or_cases, true≢false}
use Rattle.jc_bytes.specs.Descriptor.{FieldType, Byte, Char, Double, Float, Int, Long, Short, Boolean, Object, Array}
use Rattle.jc_bytes.proofs.OptionLaws.{none_some}
use Rattle.jc_methods.specs.declared.form.Form.{Form as OpForm}
use Rattle.jc_methods.specs.declared.insn.Arm.{Arm}
use Rattle.jc_methods.specs.declared.body.Body.{Body}
use Rattle.jc_methods.specs.Flow.{is_conditional_branch, is_return}
use Rattle.jc_methods.specs.VerificationTypes.{TypeState}
use Rattle.std.specs.List.{AllByRecursion}
use Rattle.jc_methods.specs.InsnUse.{is_of_two_slots, LocalsWithin}
use Rattle.jc_methods.specs.Insn.{IsWellFormed}
use Rattle.jc_methods.specs.InsnForm.{form_of}
use Rattle.jc_methods.proofs.InsnFormLaws.{unknown_beyond, jump_codes}
use Rattle.jc_methods.specs.declared.form.Form.TheVariants as forms
use Rattle.jc_methods.specs.declared.insn.Insn.TheVariants as insns
use Rattle.jc_methods.specs.declared.insn.Flow.TheVariants as flows
use Rattle.jc_methods.specs.VerificationTypes as verification
use Rattle.jc_methods.specs.Opcode as opcode
use Rattle.jc_programs.specs.declared.program.Program.{Program}
use Rattle.jc_programs.specs.declared.program.Linked.{Linked}
use Rattle.jc_kinds_after.specs.declared.want.Want.{Want}
use Rattle.jc_kinds_after.specs.Wants.{accepts_all}
use Rattle.jc_kinds_after.specs.Step.{kind, Step, upper, apply}
use Rattle.jc_kinds_after.specs.Table.{form, table, forms_at}
use Rattle.jc_kinds_after.specs.After.{want_of, return_op, return_step, local_want, element_letter, step_of, returns_of, ground_of}
use Rattle.jc_kinds_after.specs.declared.want.Want.TheVariants as wants
use Rattle.jc_kinds_after.specs.Step as kinds
use Rattle.jc_machine_model.specs.Values.{Value, int, long, ComputationalType, int_type, long_type, reference_type, is_of, is_pair, computational_type}
use Rattle.jc_machine_model.specs.World.{Frame, Shared}
use Rattle.jc_machine_model.specs.Operations.{pushes, computes, counts, tests, jumps, indexes, matches, measures, makes_array, returns, returns_nothing, throws_top, outside}
use Rattle.jc_machine_model.specs.Profile.{elements_of, read_operation, write_operation, return_operation, simple_operation}
use Rattle.jc_machine_model.specs.Profile.{local_type, load_operation, store_operation, local_operation, array_operation}
use Rattle.jc_machine_model.specs.Perform.{perform}
use Rattle.jc_machine_model.specs.Fits.{made_in}
use Rattle.jc_machine_model.specs.Calls.{by_return}
use Rattle.jc_machine_model.specs.Jumps.{test_of}
use Rattle.jc_plan.specs.Chosen.{table_target, lookup_target}
use Rattle.jc_plan.proofs.ChosenLaws.{arm_listed}
use Rattle.jc_machine_model.proofs.BeginLaws.{all_at}
use Rattle.jc_machine_laws.specs.Typings.{kept_types, TakesBy}
use Rattle.jc_machine_laws.proofs.TypedLaws.{HoldingTyping, references_in}
use Rattle.jc_machine_laws.proofs.LocalLaws.{slots_length}
use Rattle.jc_machine_laws.proofs.StateLaws.{state_count}
use Rattle.jc_machine_laws.proofs.StaticLaws.{form_fits}
use Rattle.jc_machine_laws.proofs.StepLaws.{Turn, Fine, applied, leads, computes_fine, pushes_fine, loads_fine, stores_fine, counts_fine}
use Rattle.jc_machine_laws.proofs.FlowLaws.{effect_there, each_below, each_at, tests_fine, switches_fine, jumps_fine, table_among}
use Rattle.jc_machine_laws.proofs.ElementLaws.{int_element, long_element, reads_fine, writes_fine, makes_array_fine, measures_fine, throws_fine}
use Rattle.jc_machine_laws.proofs.CallLaws.{returns_fine, leaves_fine}

-- ---- returns

int_no_long : Some int_type ≡ Some long_type → ⊥
int_no_long e = cc

reference_no_long : Some reference_type ≡ Some long_type → ⊥
reference_no_long e = cc

int_no_reference : Some int_type ≡ Some reference_type → ⊥
int_no_reference e = cc

int_return : (r : Option FieldType) → nat_eq opcode.ireturn (return_op r) ≡ true
    → (type : FieldType) × (r ≡ Some type) × (computational_type type ≡ Some int_type)
int_return (Some Byte) e = (Byte, refl, refl)
int_return (Some Char) e = (Char, refl, refl)
int_return (Some Int) e = (Int, refl, refl)
int_return (Some Short) e = (Short, refl, refl)
int_return (Some Boolean) e = (Boolean, refl, refl)
int_return r e = absurd (false≢true e)

long_return : (r : Option FieldType) → nat_eq opcode.lreturn (return_op r) ≡ true
    → (type : FieldType) × (r ≡ Some type) × (computational_type type ≡ Some long_type)
long_return (Some Long) e = (Long, refl, refl)
long_return r e = absurd (false≢true e)

reference_return : (r : Option FieldType) → nat_eq opcode.areturn (return_op r) ≡ true
    → (type : FieldType) × (r ≡ Some type) × (computational_type type ≡ Some reference_type)
reference_return (Some (Object name)) e = (Object name, refl, refl)
reference_return (Some (Array component)) e = (Array component, refl, refl)
reference_return r e = absurd (false≢true e)

no_return : (r : Option FieldType) → nat_eq opcode.return (return_op r) ≡ true → r ≡ None
no_return None e = refl
no_return (Some Byte) e = absurd (false≢true e)
no_return (Some Char) e = absurd (false≢true e)
no_return (Some Double) e = absurd (false≢true e)
no_return (Some Float) e = absurd (false≢true e)
no_return (Some Int) e = absurd (false≢true e)
no_return (Some Long) e = absurd (false≢true e)
no_return (Some Short) e = absurd (false≢true e)
no_return (Some Boolean) e = absurd (false≢true e)
no_return (Some (Object name)) e = absurd (false≢true e)
no_return (Some (Array component)) e = absurd (false≢true e)

int_want : (type : FieldType) → computational_type type ≡ Some int_type → want_of type ≡ wants.Int
int_want Byte e = refl
int_want Char e = refl
int_want Int e = refl
int_want Short e = refl
int_want Boolean e = refl
int_want Float e = absurd (none_some e)
int_want Double e = absurd (none_some e)
int_want Long e = absurd (int_no_long (sym e))
int_want (Object name) e = absurd (int_no_reference (sym e))
int_want (Array component) e = absurd (int_no_reference (sym e))

long_want : (type : FieldType) → computational_type type ≡ Some long_type → want_of type ≡ wants.Long
long_want Long e = refl
long_want Float e = absurd (none_some e)
long_want Double e = absurd (none_some e)
long_want (Object name) e = absurd (reference_no_long e)
long_want (Array component) e = absurd (reference_no_long e)
long_want type e = absurd (int_no_long e)

reference_want : (type : FieldType) → computational_type type ≡ Some reference_type → want_of type ≡ wants.Reference
reference_want (Object name) e = refl
reference_want (Array component) e = refl
reference_want Float e = absurd (none_some e)
reference_want Double e = absurd (none_some e)
reference_want Long e = absurd (reference_no_long (sym e))
reference_want type e = absurd (int_no_reference e)

-- ---- opcodes

not_pick : (op : ℕ) → (nat_le opcode.iaload op && nat_le op opcode.saload) ≡ false → nat_eq op opcode.aaload ≡ false
not_pick op e = by (nat_eq op opcode.aaload) refl
  where
    by : (z : Bool) → nat_eq op opcode.aaload ≡ z → z ≡ false
    by false q = refl
    by true q = absurd (true≢false (subst (λ o. (nat_le opcode.iaload o && nat_le o opcode.saload) ≡ false) (eqb-true op opcode.aaload q) e))

goes_on : (x y : Bool) → x ≡ false → y ≡ false → cond x flows.Returns (cond y flows.Throws flows.GoesOn) ≡ flows.GoesOn
goes_on true y p q = absurd (true≢false p)
goes_on false true p q = absurd (true≢false q)
goes_on false false p q = refl

moves_on : (x y : Bool) (p q r : Step) → x ≡ false → y ≡ false → cond x p (cond y q r) ≡ r
moves_on true y p q r e g = absurd (true≢false e)
moves_on false true p q r e g = absurd (true≢false g)
moves_on false false p q r e g = refl

below_all : (op : ℕ) (g : OpForm) → form_of op ≡ g → (forms.Unknown ≡ g → ⊥) → op < 202
below_all op g e h = ⊎_elim (λ lt. lt) (λ far. absurd (h (sym (unknown_beyond op far) ∙ e))) (cases_lt op 202)

-- bipush and sipush
is_push : OpForm → Bool
is_push forms.PushByte = true
is_push forms.PushShort = true
is_push g = false

push_code : ℕ → Bool
push_code op = cond (is_push (form_of op)) (nat_eq op opcode.bipush || nat_eq op opcode.sipush) true

each_push : each_below push_code 202 ≡ true
unfolding each_below push_code is_push form_of
each_push = refl

push_codes : (op : ℕ) → is_push (form_of op) ≡ true → op < 202 → (nat_eq op opcode.bipush || nat_eq op opcode.sipush) ≡ true
unfolding push_code
push_codes op e lt = ap (λ z. cond z (nat_eq op opcode.bipush || nat_eq op opcode.sipush) true) (sym e) ∙ each_at push_code 202 op each_push lt

pushes_int : (op : ℕ) → (nat_eq op opcode.bipush || nat_eq op opcode.sipush) ≡ true → forms_at op ≡ form [] (kind verification.int ∷ []) ∷ []
unfolding forms_at table
pushes_int op e =
    ⊎_elim (λ q. ap forms_at (eqb-true op opcode.bipush q)) (λ q. ap forms_at (eqb-true op opcode.sipush q))
    (or_cases (nat_eq op opcode.bipush) (nat_eq op opcode.sipush) e)

pushes_well : (op : ℕ) (value : ℤ) → IsWellFormed (insns.Push op value) → forms_at op ≡ form [] (kind verification.int ∷ []) ∷ []
unfolding is_push
pushes_well op value (inl w) = pushes_int op (push_codes op (ap is_push w.0) (below_all op forms.PushByte w.0 (λ e. cc)))
pushes_well op value (inr w) = pushes_int op (push_codes op (ap is_push w) (below_all op forms.PushShort w (λ e. cc)))

-- ---- stores of longs

long_pair : (v : Value) (computational : ComputationalType) → is_of computational v ≡ true → is_pair v ≡ true → computational ≡ long_type
long_pair (long x) int_type o p = absurd (false≢true o)
long_pair (long x) long_type o p = refl
long_pair (long x) reference_type o p = absurd (false≢true o)
long_pair v computational o p = absurd (false≢true p)

long_local : (op : ℕ) → local_type op ≡ Some long_type → is_of_two_slots op ≡ true
long_local op e =
    by (nat_eq op opcode.iload || nat_eq op opcode.istore) (nat_eq op opcode.lload || nat_eq op opcode.lstore) refl
    (nat_eq op opcode.aload || nat_eq op opcode.astore) e
  where
    by : (x y : Bool) → (nat_eq op opcode.lload || nat_eq op opcode.lstore) ≡ y → (z : Bool)
        → cond x (Some int_type) (cond y (Some long_type) (cond z (Some reference_type) None)) ≡ Some long_type → is_of_two_slots op ≡ true
    by true y q z e = absurd (int_no_long e)
    by false true q z e =
        ⊎_elim (λ r. ap is_of_two_slots (eqb-true op opcode.lload r)) (λ r. ap is_of_two_slots (eqb-true op opcode.lstore r))
        (or_cases (nat_eq op opcode.lload) (nat_eq op opcode.lstore) q)
    by false false q true e = absurd (reference_no_long e)
    by false false q false e = absurd (none_some e)

module _ {ty : HoldingTyping} {program : Program} {s : Shared} {f : Frame} {c : Linked} {b : Body} {k t : TypeState} where
  -- the second of two local variables that an instruction names is one of the frame
  second_there : (op slot : ℕ) → Turn ty program s f c b (insns.Local op slot) k t → is_of_two_slots op ≡ true → slot + 1 < length f.locals
  second_there op slot turn two =
      let within : AllByRecursion (λ j. j < b.max_locals) (cond (is_of_two_slots op) (slot ∷ (slot + 1) ∷ []) (slot ∷ [])) =
      all_at (LocalsWithin b.max_locals) b.code f.place (insns.Local op slot) (turn.here).whole.well_made.of_any_size.locals (turn.here).insn_is in
      let both = subst (λ z. AllByRecursion (λ j. j < b.max_locals) (cond z (slot ∷ (slot + 1) ∷ []) (slot ∷ []))) two within in
      let lt : slot + 1 < b.max_locals = both.1.0 in
      let n = slots_length (references_in ty s.heap b) f.locals k.locals turn.locals in
      let m = state_count program.names b (turn.here).whole.well_made.of_any_size f.place k (turn.here).state_is in
      omega (arith, lt, n, m)

  -- ---- instructions without operands

  reads_at : (op : ℕ) → Turn ty program s f c b (insns.Simple op) k t → Fine ty program s f b (perform (read_operation (elements_of op)) s f)
  unfolding perform Fine forms_at table
  reads_at op turn =
      by (nat_eq op opcode.iaload) refl (nat_eq op opcode.laload) refl (nat_eq op opcode.baload) refl (nat_eq op opcode.caload) refl
      (nat_eq op opcode.saload) refl
    where
      to : (n : ℕ) → nat_eq op n ≡ true → Turn ty program s f c b (insns.Simple n) k t
      to n e = subst (λ o. Turn ty program s f c b (insns.Simple o) k t) (eqb-true op n e) turn

      by : (b1 : Bool) → nat_eq op opcode.iaload ≡ b1 → (b2 : Bool) → nat_eq op opcode.laload ≡ b2 → (b3 : Bool)
          → nat_eq op opcode.baload ≡ b3 → (b4 : Bool) → nat_eq op opcode.caload ≡ b4 → (b5 : Bool) → nat_eq op opcode.saload ≡ b5
          → Fine ty program s f b (perform (read_operation
          (cond b1 (Int ∷ []) (cond b2 (Long ∷ [])
          (cond b3 (Byte ∷ Boolean ∷ []) (cond b4 (Char ∷ []) (cond b5 (Short ∷ []) [])))))) s f)
      by true p b2 q b3 r b4 u b5 v = reads_fine (to opcode.iaload p) (Int ∷ []) verification.int refl (inl refl) (int_element (references_in ty s.heap b) (Int ∷ []) refl) f.stack refl
      by false p true q b3 r b4 u b5 v = reads_fine (to opcode.laload q) (Long ∷ []) verification.long refl (inl refl) (long_element (references_in ty s.heap b)) f.stack refl
      by false p false q true r b4 u b5 v =
          reads_fine (to opcode.baload r) (Byte ∷ Boolean ∷ []) verification.int refl (inl refl)
          (int_element (references_in ty s.heap b) (Byte ∷ Boolean ∷ []) refl) f.stack refl
      by false p false q false r true u b5 v =
          reads_fine (to opcode.caload u) (Char ∷ []) verification.int refl (inl refl) (int_element (references_in ty s.heap b) (Char ∷ []) refl) f.stack refl
      by false p false q false r false u true v =
          reads_fine (to opcode.saload v) (Short ∷ []) verification.int refl (inl refl) (int_element (references_in ty s.heap b) (Short ∷ []) refl) f.stack refl
      by false p false q false r false u false v = tt

  writes_at : (op : ℕ) → Turn ty program s f c b (insns.Simple op) k t → Fine ty program s f b (perform (write_operation (elements_of (op - 33))) s f)
  unfolding perform Fine forms_at table
  writes_at op turn = by (nat_eq (op - 33) 46) refl (nat_eq (op - 33) 47) refl (nat_eq (op - 33) 51) refl (nat_eq (op - 33) 52) refl (nat_eq (op - 33) 53) refl
    where
      to : (m n : ℕ) → nat_eq (op - 33) m ≡ true → m + 33 ≡ n → 1 ≤ m → Turn ty program s f c b (insns.Simple n) k t
      to m n e g l = let q : op - 33 ≡ m = eqb-true (op - 33) m e in subst (λ o. Turn ty program s f c b (insns.Simple o) k t) (omega (arith, q, g, l)) turn

      by : (b1 : Bool) → nat_eq (op - 33) 46 ≡ b1 → (b2 : Bool) → nat_eq (op - 33) 47 ≡ b2 → (b3 : Bool) → nat_eq (op - 33) 51 ≡ b3
          → (b4 : Bool) → nat_eq (op - 33) 52 ≡ b4 → (b5 : Bool) → nat_eq (op - 33) 53 ≡ b5
          → Fine ty program s f b (perform (write_operation
          (cond b1 (Int ∷ []) (cond b2 (Long ∷ [])
          (cond b3 (Byte ∷ Boolean ∷ []) (cond b4 (Char ∷ []) (cond b5 (Short ∷ []) [])))))) s f)
      by true p b2 q b3 r b4 u b5 v = writes_fine (to 46 79 p refl (omega arith)) (Int ∷ []) wants.Int refl (inl refl) f.stack refl
      by false p true q b3 r b4 u b5 v = writes_fine (to 47 80 q refl (omega arith)) (Long ∷ []) wants.Long refl (inl refl) f.stack refl
      by false p false q true r b4 u b5 v = writes_fine (to 51 84 r refl (omega arith)) (Byte ∷ Boolean ∷ []) wants.Int refl (inl refl) f.stack refl
      by false p false q false r true u b5 v = writes_fine (to 52 85 u refl (omega arith)) (Char ∷ []) wants.Int refl (inl refl) f.stack refl
      by false p false q false r false u true v = writes_fine (to 53 86 v refl (omega arith)) (Short ∷ []) wants.Int refl (inl refl) f.stack refl
      by false p false q false r false u false v = tt

  -- a return is the one for the method's type
  right_return : (n : ℕ) → step_of b.uses (returns_of b) (insns.Simple n) ≡ return_step (returns_of b) n
      → Turn ty program s f c b (insns.Simple n) k t → nat_eq n (return_op (returns_of b)) ≡ true
  right_return n e turn = by (nat_eq n (return_op (returns_of b))) (ap (λ x. apply (ground_of b f.place) x k) (sym e) ∙ applied turn)
    where
      by : (z : Bool) → apply (ground_of b f.place) (cond z (kinds.moves (forms_at n)) kinds.fails) k ≡ Some t → z ≡ true
      by true g = refl
      by false g = absurd (none_some g)

  -- the operand is of the kind that the opcode takes
  returned_fits : (n : ℕ) (want : Want) → step_of b.uses (returns_of b) (insns.Simple n) ≡ return_step (returns_of b) n
      → nat_eq n (return_op (returns_of b)) ≡ true → forms_at n ≡ form (want ∷ []) [] ∷ [] → Turn ty program s f c b (insns.Simple n) k t
      → accepts_all (want ∷ []) (upper 1 k.stack) ≡ true
  returned_fits n want e g h turn =
      form_fits turn (form (want ∷ []) []) (e ∙ ap (λ z. cond z (kinds.moves (forms_at n)) kinds.fails) g ∙ ap kinds.moves h)

  returns_typed : (computational : ComputationalType) (n : ℕ) → Turn ty program s f c b (insns.Simple n) k t
      → (r : (type : FieldType) × (returns_of b ≡ Some type) × (computational_type type ≡ Some computational))
      → accepts_all (want_of r.0 ∷ []) (upper 1 k.stack) ≡ true → TakesBy ty.passes (kept_types (returns computational (returns_of b))) k.stack
      → Fine ty program s f b (by_return computational (returns_of b) f.stack)
  returns_typed computational n turn r a takes =
      subst (λ x. Fine ty program s f b (by_return computational x f.stack)) (sym r.1)
      (returns_fine turn computational r.0 r.1 r.2 a
      (subst (λ x. TakesBy ty.passes (kept_types (returns computational x)) k.stack) r.1 takes) f.stack refl)

  returns_at : (op : ℕ) → Turn ty program s f c b (insns.Simple op) k t → TakesBy ty.passes (kept_types (return_operation op b)) k.stack
      → Fine ty program s f b (perform (return_operation op b) s f)
  unfolding perform Fine forms_at table
  returns_at op turn = by (nat_eq op opcode.ireturn) refl (nat_eq op opcode.lreturn) refl (nat_eq op opcode.areturn) refl (nat_eq op opcode.return) refl
    where
      to : (n : ℕ) → nat_eq op n ≡ true → Turn ty program s f c b (insns.Simple n) k t
      to n e = subst (λ o. Turn ty program s f c b (insns.Simple o) k t) (eqb-true op n e) turn

      by : (b1 : Bool) → nat_eq op opcode.ireturn ≡ b1 → (b2 : Bool) → nat_eq op opcode.lreturn ≡ b2 → (b3 : Bool)
          → nat_eq op opcode.areturn ≡ b3 → (b4 : Bool) → nat_eq op opcode.return ≡ b4
          → TakesBy ty.passes (kept_types (cond b1 (returns int_type (returns_of b))
          (cond b2 (returns long_type (returns_of b))
          (cond b3 (returns reference_type (returns_of b)) (cond b4 returns_nothing outside))))) k.stack
          → Fine ty program s f b (perform (cond b1 (returns int_type (returns_of b))
          (cond b2 (returns long_type (returns_of b))
          (cond b3 (returns reference_type (returns_of b)) (cond b4 returns_nothing outside)))) s f)
      by true p b2 q b3 r b4 u takes =
          let right = right_return opcode.ireturn refl (to opcode.ireturn p) in
          let type = int_return (returns_of b) right in
          returns_typed int_type opcode.ireturn (to opcode.ireturn p) type
          (subst (λ w. accepts_all (w ∷ []) (upper 1 k.stack) ≡ true) (sym (int_want type.0 type.2))
          (returned_fits opcode.ireturn wants.Int refl right refl (to opcode.ireturn p))) takes
      by false p true q b3 r b4 u takes =
          let right = right_return opcode.lreturn refl (to opcode.lreturn q) in
          let type = long_return (returns_of b) right in
          returns_typed long_type opcode.lreturn (to opcode.lreturn q) type
          (subst (λ w. accepts_all (w ∷ []) (upper 1 k.stack) ≡ true) (sym (long_want type.0 type.2))
          (returned_fits opcode.lreturn wants.Long refl right refl (to opcode.lreturn q))) takes
      by false p false q true r b4 u takes =
          let right = right_return opcode.areturn refl (to opcode.areturn r) in
          let type = reference_return (returns_of b) right in
          returns_typed reference_type opcode.areturn (to opcode.areturn r) type
          (subst (λ w. accepts_all (w ∷ []) (upper 1 k.stack) ≡ true) (sym (reference_want type.0 type.2))
          (returned_fits opcode.areturn wants.Reference refl right refl (to opcode.areturn r))) takes
      by false p false q false r true u takes =
          leaves_fine (to opcode.return u) (no_return (returns_of b) (right_return opcode.return refl (to opcode.return u)))
      by false p false q false r false u takes = tt

  pub simple_at : (op class : ℕ) → Turn ty program s f c b (insns.Simple op) k t
      → TakesBy ty.passes (kept_types (simple_operation op (record { class = class; linked = c; body = b; place = f.place }))) k.stack
      → Fine ty program s f b (perform (simple_operation op (record { class = class; linked = c; body = b; place = f.place })) s f)
  unfolding perform Fine forms_at table
  simple_at op class turn =
      by (nat_le opcode.iaload op && nat_le op opcode.saload) refl (nat_le opcode.iastore op && nat_le op opcode.sastore)
      (is_return op) refl (nat_eq op opcode.arraylength) refl (nat_eq op opcode.athrow) refl
    where
      to : (n : ℕ) → nat_eq op n ≡ true → Turn ty program s f c b (insns.Simple n) k t
      to n e = subst (λ o. Turn ty program s f c b (insns.Simple o) k t) (eqb-true op n e) turn

      by : (b1 : Bool) → (nat_le opcode.iaload op && nat_le op opcode.saload) ≡ b1 → (b2 b3 : Bool) → (is_return op) ≡ b3
          → (b4 : Bool) → nat_eq op opcode.arraylength ≡ b4 → (b5 : Bool) → nat_eq op opcode.athrow ≡ b5
          → TakesBy ty.passes (kept_types (cond b1 (read_operation (elements_of op))
          (cond b2 (write_operation (elements_of (op - 33)))
          (cond b3 (return_operation op b) (cond b4 measures (cond b5 throws_top (computes op))))))) k.stack
          → Fine ty program s f b (perform (cond b1 (read_operation (elements_of op))
          (cond b2 (write_operation (elements_of (op - 33)))
          (cond b3 (return_operation op b) (cond b4 measures (cond b5 throws_top (computes op)))))) s f)
      by true p b2 b3 q b4 r b5 u takes = reads_at op turn
      by false p true b3 q b4 r b5 u takes = writes_at op turn
      by false p false true q b4 r b5 u takes = returns_at op turn takes
      by false p false false q true r b5 u takes = measures_fine (to opcode.arraylength r) refl (inl refl) f.stack refl
      by false p false false q false r true u takes = throws_fine (to opcode.athrow u) f.stack refl
      by false p false false q false r false u takes =
          computes_fine turn op (moves_on (nat_eq op opcode.aaload) (is_return op) kinds.picks (return_step (returns_of b) op)
          (kinds.moves (forms_at op)) (not_pick op p) q)
          (inl (goes_on (is_return op) (nat_eq op opcode.athrow) q u)) (effect_there program s.heap op f.stack (turn.there).stack)

  -- ---- the others

  pub push_at : (op : ℕ) (value : ℤ) → IsWellFormed (insns.Push op value) → Turn ty program s f c b (insns.Push op value) k t
      → Fine ty program s f b (perform (pushes (int value)) s f)
  unfolding perform
  push_at op value w turn = pushes_fine turn (int value) verification.int (ap kinds.moves (pushes_well op value w)) (inl refl) tt tt

  pub local_at : (op slot : ℕ) → Turn ty program s f c b (insns.Local op slot) k t → Fine ty program s f b (perform (local_operation op slot) s f)
  unfolding perform Fine
  local_at op slot turn = by (nat_lt op opcode.istore) refl
    where
      loaded : (o : Option ComputationalType)
          → step_of b.uses (returns_of b) (insns.Local op slot) ≡ kinds.loads slot (local_want op)
          → Fine ty program s f b (perform (load_operation slot o) s f)
      loaded None e = tt
      loaded (Some computational) e = loads_fine turn computational slot (local_want op) e (inl refl) (slice_index_or f.locals slot None) refl

      stored : (o : Option ComputationalType) → local_type op ≡ o
          → step_of b.uses (returns_of b) (insns.Local op slot) ≡ kinds.stores slot (local_want op)
          → Fine ty program s f b (perform (store_operation slot o) s f)
      stored None g e = tt
      stored (Some computational) g e =
          stores_fine turn computational slot (local_want op) (λ v o p. second_there op slot turn (long_local op (g ∙ ap (λ x. Some x) (long_pair v computational o p))))
          e (inl refl) f.stack refl

      by : (z : Bool) → nat_lt op opcode.istore ≡ z
          → Fine ty program s f b (perform (cond z (load_operation slot (local_type op)) (store_operation slot (local_type op))) s f)
      by true e = loaded (local_type op) (ap (λ z. cond z (kinds.loads slot (local_want op)) (kinds.stores slot (local_want op))) e)
      by false e = stored (local_type op) refl (ap (λ z. cond z (kinds.loads slot (local_want op)) (kinds.stores slot (local_want op))) e)

  pub inc_at : (slot : ℕ) (by : ℤ) → Turn ty program s f c b (insns.Inc slot by) k t → Fine ty program s f b (perform (counts slot by) s f)
  unfolding perform
  inc_at slot n turn = counts_fine turn slot n refl (inl refl) (slice_index_or f.locals slot None) refl

  pub new_array_at : (elem : ℕ) → Turn ty program s f c b (insns.NewArray elem) k t → Fine ty program s f b (perform (array_operation elem) s f)
  unfolding perform Fine
  new_array_at elem turn = by (nat_eq elem 4) (nat_eq elem 5) (nat_eq elem 8) (nat_eq elem 9) (nat_eq elem 10) (nat_eq elem 11) (λ element e. e)
    where
      one : (element : FieldType) → array_operation elem ≡ makes_array element → Fine ty program s f b (perform (makes_array element) s f)
      one element e =
          makes_array_fine turn element (91 ∷ element_letter elem ∷ []) (λ elements. ty.holding.new_array s.heap (made_in b) elem element elements e)
          refl (inl refl) f.stack refl

      by : (b1 b2 b3 b4 b5 b6 : Bool)
          → ((element : FieldType) → cond b1 (makes_array Boolean)
          (cond b2 (makes_array Char) (cond b3 (makes_array Byte)
          (cond b4 (makes_array Short) (cond b5 (makes_array Int) (cond b6 (makes_array Long) outside))))) ≡ makes_array element
          → array_operation elem ≡ makes_array element)
          → Fine ty program s f b (perform (cond b1 (makes_array Boolean)
          (cond b2 (makes_array Char) (cond b3 (makes_array Byte)
          (cond b4 (makes_array Short) (cond b5 (makes_array Int) (cond b6 (makes_array Long) outside)))))) s f)
      by true b2 b3 b4 b5 b6 is = one Boolean (is Boolean refl)
      by false true b3 b4 b5 b6 is = one Char (is Char refl)
      by false false true b4 b5 b6 is = one Byte (is Byte refl)
      by false false false true b5 b6 is = one Short (is Short refl)
      by false false false false true b6 is = one Int (is Int refl)
      by false false false false false true is = one Long (is Long refl)
      by false false false false false false is = tt

  pub jump_at : (op to : ℕ) → IsWellFormed (insns.Jump op to) → Turn ty program s f c b (insns.Jump op to) k t
      → Fine ty program s f b (perform (cond (nat_eq op opcode.goto) (jumps to) (tests op to)) s f)
  unfolding perform forms_at table
  jump_at op to w turn = by (nat_eq op opcode.goto) refl
    where
      tested : nat_eq op opcode.goto ≡ false → is_conditional_branch op ≡ true
      tested e = ap (λ z. z || is_conditional_branch op) (sym e) ∙ jump_codes op w

      by : (z : Bool) → nat_eq op opcode.goto ≡ z → Fine ty program s f b (perform (cond z (jumps to) (tests op to)) s f)
      by true e = jumps_fine turn to (ap (λ o. kinds.moves (forms_at o)) (eqb-true op opcode.goto e)) (leads turn to (0, omega arith, refl))
      by false e =
          tests_fine turn op to refl (tested e) (below_all op forms.Jump w (λ g. cc)) (leads turn to (0, omega arith, refl))
          (inr (ap (λ z. cond z flows.Jumps flows.Branches) e)) (test_of op f.stack) refl

  pub table_at : (low : ℤ) (default : ℕ) (arms : List ℕ) → Turn ty program s f c b (insns.Table low default arms) k t
      → Fine ty program s f b (perform (indexes low default arms) s f)
  unfolding perform forms_at table
  table_at low default arms turn = switches_fine turn (table_target low default arms) refl (λ key. table_among low default arms key) f.stack refl

  pub lookup_at : (default : ℕ) (arms : List Arm) → Turn ty program s f c b (insns.Lookup default arms) k t
      → Fine ty program s f b (perform (matches default arms) s f)
  unfolding perform forms_at table
  lookup_at default arms turn = switches_fine turn (lookup_target default arms) refl (λ key. arm_listed default arms key) f.stack refl
