-- What an instruction takes of which it needs something, the kind check looks at: steps, and instructions without operands.
use Rattle.std.proofs.Common.{◌≡◌, ℕ, ◌+◌, ◌-◌, ◌≤◌, Bool, true, false, ◌&&◌, cond, List, [], ◌∷◌, length, Option, Some, None, nat_eq, nat_le, refl, sym, ◌∙◌, subst, arith, slice_index_or}
use Rattle.std.proofs.lemmas.Bool.{eqb-true, false≢true}
use Rattle.jc_bytes.specs.Descriptor.{FieldType, Byte, Char, Int, Long, Short, Boolean}
use Rattle.jc_bytes.proofs.OptionLaws.{none_some}
use Rattle.jc_bytes.proofs.DecoderLaws.{guard_some}
use Rattle.jc_methods.specs.declared.body.Body.{Body}
use Rattle.jc_methods.specs.DescriptorTypes.{method_type_in}
use Rattle.jc_methods.specs.Flow.{is_return}
use Rattle.jc_methods.specs.Opcode as opcode
use Rattle.jc_methods.specs.VerificationTypes.{VerificationType, TypeState}
use Rattle.jc_methods.specs.VerificationTypes as verification
use Rattle.jc_programs.specs.declared.run_end.Thrown.{Thrown}
use Rattle.jc_kinds_after.specs.declared.want.Want.{Want}
use Rattle.jc_kinds_after.specs.declared.want.Want.TheVariants as wants
use Rattle.jc_kinds_after.specs.Wants.{accepts_all}
use Rattle.jc_kinds_after.specs.Step.{Gives, Step, Ground, upper, below, has_form, limited, moved, moved_by, class_built, built_as, apply}
use Rattle.jc_kinds_after.specs.Step as kinds
use Rattle.jc_kinds_after.specs.Table.{form, table, forms_at}
use Rattle.jc_kinds_after.specs.After.{return_op, simple_step}
use Rattle.jc_machine_model.specs.Values.{ComputationalType, int_type, long_type, reference_type}
use Rattle.jc_machine_model.specs.Operations.{an_empty_line, Operation, reads, writes, measures, puts, invokes, builds, prints, fetches, returns, returns_nothing, throws_top, computes, outside}
use Rattle.jc_machine_model.specs.Profile.{Location, elements_of, read_operation, write_operation, return_operation, simple_operation}
use Rattle.jc_machine_laws.proofs.StepLaws.{with_stack_is}
use Rattle.jc_refs_check.specs.RefsOk.{operand}
use Rattle.jc_refs_laws.proofs.OperandLaws.{HasOperands, none_taken, operand_upper, operands_taken}

-- ---- operations

-- how many operands it takes, if it needs something of one of them
abbrev pub taken : Operation → ℕ
taken (reads types) = 2
taken (writes types) = 3
taken measures = 1
taken (puts at type) = 1
taken (invokes callee parameters max_locals) = length parameters
taken (builds c) = 1
taken (prints an_empty_line) = 1
taken (prints printed) = 2
taken (fetches class init) = 3
taken (returns computational type) = 1
taken throws_top = 1
taken _ = 0

abbrev pub is_building : Operation → Bool
is_building (builds c) = true
is_building _ = false

-- an object before its constructor
abbrev pub is_fresh : VerificationType → Bool
is_fresh verification.uninit_this = true
is_fresh (verification.uninit at) = true
is_fresh h = false

pub record LooksAt (o : Operation) (stack : List VerificationType) : Type 0 where
  pub operands : HasOperands (taken o) stack
  pub fresh : is_building o ≡ true → is_fresh (operand 0 stack) ≡ true

-- a step has a state after it only where the operands of the operation are looked at
unfoldable pub Looks : Step → Operation → Type 0
Looks step o = (g : Ground) (s t : TypeState) → apply g step s ≡ Some t → LooksAt o s.stack

-- ---- steps

-- operations that need nothing
pub nothing : (step : Step) (o : Operation) → taken o ≡ 0 → is_building o ≡ false → Looks step o
unfolding Looks
nothing step o n b g s t e = record {
  operands = subst (λ m. HasOperands m s.stack) (sym n) (none_taken s.stack);
  fresh = λ f. absurd (false≢true (sym b ∙ f));
}

pub fails_looks : (o : Operation) → Looks kinds.fails o
unfolding Looks
fails_looks o g s t e = absurd (none_some e)

-- one form
pub moves_looks : (wanted : List Want) (given : List Gives) (o : Operation) → taken o ≡ length wanted → is_building o ≡ false
    → Looks (kinds.moves (form wanted given ∷ [])) o
unfolding Looks
moves_looks wanted given o n b g s t e = record {
  operands = subst (λ m. HasOperands m s.stack) (sym n) (operands_taken wanted s.stack has);
  fresh = λ f. absurd (false≢true (sym b ∙ f));
}
  where
    moved_to : moved_by g.most (form wanted given ∷ []) s.stack ≡ Some t.stack
    moved_to = (with_stack_is s t (moved_by g.most (form wanted given ∷ []) s.stack) e).0

    has : accepts_all wanted (upper (length wanted) s.stack) ≡ true
    has = (guard_some (has_form (form wanted given) s.stack) (limited g.most (moved (form wanted given) s.stack)) t.stack moved_to).0

-- the class of a constructor's object is known only where it is one before its constructor
built_fresh : (g : Ground) (h : VerificationType) (o : Option (List ℕ)) (most : ℕ) (rest : List VerificationType) (given : List Gives) (s t : TypeState)
    → class_built g h ≡ o → built_as most h rest given o s ≡ Some t → is_fresh h ≡ true
built_fresh g (verification.uninit at) o most rest given s t c e = refl
built_fresh g verification.uninit_this o most rest given s t c e = refl
built_fresh g h None most rest given s t c e = absurd (none_some e)
built_fresh g h (Some name) most rest given s t c e = absurd (none_some c)

pub builds_looks : (c : Thrown) → Looks (kinds.builds (form [] [])) (builds c)
unfolding Looks
builds_looks c g s t e = record { operands = has; fresh = λ f. subst (λ h. is_fresh h ≡ true) top fresh }
  where
    old : VerificationType
    old = slice_index_or (upper 1 s.stack) 0 verification.top

    parts : (accepts_all (wants.Anything ∷ []) (upper 1 s.stack) ≡ true) × (built_as g.most old (below 1 s.stack) [] (class_built g old) s ≡ Some t)
    parts = guard_some (accepts_all (wants.Anything ∷ []) (upper 1 s.stack)) (built_as g.most old (below 1 s.stack) [] (class_built g old) s) t e

    has : HasOperands 1 s.stack
    has = operands_taken (wants.Anything ∷ []) s.stack parts.0

    top : old ≡ operand 0 s.stack
    top = operand_upper 1 0 s.stack has.enough (omega arith)

    fresh : is_fresh old ≡ true
    fresh = built_fresh g old (class_built g old) g.most (below 1 s.stack) [] s t refl parts.1

-- ---- choices

module _ (step : Step) where
  pub where_so : (z : Bool) (x y : Operation) → (z ≡ true → Looks step x) → (z ≡ false → Looks step y) → Looks step (cond z x y)
  where_so true x y p q = p refl
  where_so false x y p q = q refl

  pub none_outside : Looks step outside
  none_outside = nothing step outside refl refl

  -- an operation that needs nothing, or none
  pub plain_if : (z : Bool) (x : Operation) → taken x ≡ 0 → is_building x ≡ false → Looks step (cond z x outside)
  plain_if z x n b = where_so z x outside (λ q. nothing step x n b) (λ q. none_outside)

-- an instruction of an opcode
pub at_code : (P : ℕ → Type 0) (op n : ℕ) → nat_eq op n ≡ true → P n → P op
at_code P op n e p = subst P (sym (eqb-true op n e)) p

-- ---- instructions without operands

module _ (returned : Option FieldType) where
  by_code : (op n : ℕ) (o : Operation) → nat_eq op n ≡ true → Looks (simple_step returned n) o → Looks (simple_step returned op) o
  by_code op n o e p = at_code (λ m. Looks (simple_step returned m) o) op n e p

  reads_look : (op : ℕ) → Looks (simple_step returned op) (read_operation (elements_of op))
  unfolding forms_at table
  reads_look op =
      by (nat_eq op opcode.iaload) refl (nat_eq op opcode.laload) refl (nat_eq op opcode.baload) refl (nat_eq op opcode.caload) refl
      (nat_eq op opcode.saload) refl
    where
      by : (b1 : Bool) → nat_eq op opcode.iaload ≡ b1 → (b2 : Bool) → nat_eq op opcode.laload ≡ b2 → (b3 : Bool)
          → nat_eq op opcode.baload ≡ b3 → (b4 : Bool) → nat_eq op opcode.caload ≡ b4 → (b5 : Bool) → nat_eq op opcode.saload ≡ b5
          → Looks (simple_step returned op) (read_operation
          (cond b1 (Int ∷ []) (cond b2 (Long ∷ []) (cond b3 (Byte ∷ Boolean ∷ []) (cond b4 (Char ∷ []) (cond b5 (Short ∷ []) []))))))
      by true p b2 q b3 r b4 u b5 v = by_code op opcode.iaload (reads _) p (moves_looks (wants.Reference ∷ wants.Int ∷ []) _ (reads (Int ∷ [])) refl refl)
      by false p true q b3 r b4 u b5 v = by_code op opcode.laload (reads _) q (moves_looks (wants.Reference ∷ wants.Int ∷ []) _ (reads (Long ∷ [])) refl refl)
      by false p false q true r b4 u b5 v =
          by_code op opcode.baload (reads _) r (moves_looks (wants.Reference ∷ wants.Int ∷ []) _ (reads (Byte ∷ Boolean ∷ [])) refl refl)
      by false p false q false r true u b5 v =
          by_code op opcode.caload (reads _) u (moves_looks (wants.Reference ∷ wants.Int ∷ []) _ (reads (Char ∷ [])) refl refl)
      by false p false q false r false u true v =
          by_code op opcode.saload (reads _) v (moves_looks (wants.Reference ∷ wants.Int ∷ []) _ (reads (Short ∷ [])) refl refl)
      by false p false q false r false u false v = none_outside (simple_step returned op)

  writes_look : (op : ℕ) → Looks (simple_step returned op) (write_operation (elements_of (op - 33)))
  unfolding forms_at table
  writes_look op = by (nat_eq (op - 33) 46) refl (nat_eq (op - 33) 47) refl (nat_eq (op - 33) 51) refl (nat_eq (op - 33) 52) refl (nat_eq (op - 33) 53) refl
    where
      write : (m n : ℕ) (types : List FieldType) → nat_eq (op - 33) m ≡ true → m + 33 ≡ n → 1 ≤ m → Looks (simple_step returned n) (writes types)
          → Looks (simple_step returned op) (writes types)
      write m n types e g l p =
          let q : op - 33 ≡ m = eqb-true (op - 33) m e in
          subst (λ o. Looks (simple_step returned o) (writes types)) (let r : n ≡ op = omega (arith, q, g, l) in r) p

      by : (b1 : Bool) → nat_eq (op - 33) 46 ≡ b1 → (b2 : Bool) → nat_eq (op - 33) 47 ≡ b2 → (b3 : Bool) → nat_eq (op - 33) 51 ≡ b3
          → (b4 : Bool) → nat_eq (op - 33) 52 ≡ b4 → (b5 : Bool) → nat_eq (op - 33) 53 ≡ b5
          → Looks (simple_step returned op) (write_operation
          (cond b1 (Int ∷ []) (cond b2 (Long ∷ []) (cond b3 (Byte ∷ Boolean ∷ []) (cond b4 (Char ∷ []) (cond b5 (Short ∷ []) []))))))
      by true p b2 q b3 r b4 u b5 v =
          write 46 79 (Int ∷ []) p refl (omega arith) (moves_looks (wants.Reference ∷ wants.Int ∷ wants.Int ∷ []) [] (writes (Int ∷ [])) refl refl)
      by false p true q b3 r b4 u b5 v =
          write 47 80 (Long ∷ []) q refl (omega arith) (moves_looks (wants.Reference ∷ wants.Int ∷ wants.Long ∷ []) [] (writes (Long ∷ [])) refl refl)
      by false p false q true r b4 u b5 v =
          write 51 84 (Byte ∷ Boolean ∷ []) r refl (omega arith)
          (moves_looks (wants.Reference ∷ wants.Int ∷ wants.Int ∷ []) [] (writes (Byte ∷ Boolean ∷ [])) refl refl)
      by false p false q false r true u b5 v =
          write 52 85 (Char ∷ []) u refl (omega arith) (moves_looks (wants.Reference ∷ wants.Int ∷ wants.Int ∷ []) [] (writes (Char ∷ [])) refl refl)
      by false p false q false r false u true v =
          write 53 86 (Short ∷ []) v refl (omega arith) (moves_looks (wants.Reference ∷ wants.Int ∷ wants.Int ∷ []) [] (writes (Short ∷ [])) refl refl)
      by false p false q false r false u false v = none_outside (simple_step returned op)

  -- the return of a value has one operand, where it is the one for the method
  return_looks : (want : Want) (o : Operation) (z : Bool) → taken o ≡ 1 → is_building o ≡ false
      → Looks (cond z (kinds.moves (form (want ∷ []) [] ∷ [])) kinds.fails) o
  return_looks want o true n b = moves_looks (want ∷ []) [] o n b
  return_looks want o false n b = fails_looks o

  -- a return of a value, by its opcode
  one_return : (op n : ℕ) (want : Want) (computational : ComputationalType) (type : Option FieldType) → nat_eq op n ≡ true
      → simple_step returned n ≡ cond (nat_eq n (return_op returned)) (kinds.moves (form (want ∷ []) [] ∷ [])) kinds.fails
      → Looks (simple_step returned op) (returns computational type)
  one_return op n want computational type e g =
      by_code op n (returns computational type) e
      (subst (λ x. Looks x (returns computational type)) (sym g)
      (return_looks want (returns computational type) (nat_eq n (return_op returned)) refl refl))

  returns_look : (op : ℕ) (b : Body) → Looks (simple_step returned op) (return_operation op b)
  unfolding forms_at table
  returns_look op b =
      let step = simple_step returned op in
      let type = (method_type_in b.desc).returns in
      where_so step (nat_eq op opcode.ireturn) _ _ (λ e. one_return op opcode.ireturn wants.Int int_type type e refl)
      (λ f. where_so step (nat_eq op opcode.lreturn) _ _ (λ e. one_return op opcode.lreturn wants.Long long_type type e refl)
      (λ f. where_so step (nat_eq op opcode.areturn) _ _ (λ e. one_return op opcode.areturn wants.Reference reference_type type e refl)
      (λ f. plain_if step (nat_eq op opcode.return) returns_nothing refl refl)))

  pub simple_looks : (op : ℕ) (at : Location) → Looks (simple_step returned op) (simple_operation op at)
  unfolding forms_at table
  simple_looks op at =
      let step = simple_step returned op in
      where_so step (nat_le opcode.iaload op && nat_le op opcode.saload) _ _ (λ e. reads_look op)
      (λ f. where_so step (nat_le opcode.iastore op && nat_le op opcode.sastore) _ _ (λ e. writes_look op)
      (λ f. where_so step (is_return op) _ _ (λ e. returns_look op at.body)
      (λ f. where_so step (nat_eq op opcode.arraylength) _ _
      (λ e. by_code op opcode.arraylength measures e (moves_looks (wants.Reference ∷ []) _ measures refl refl))
      (λ f. where_so step (nat_eq op opcode.athrow) _ _
      (λ e. by_code op opcode.athrow throws_top e (moves_looks (wants.Reference ∷ []) _ throws_top refl refl))
      (λ f. nothing step (computes op) refl refl)))))
