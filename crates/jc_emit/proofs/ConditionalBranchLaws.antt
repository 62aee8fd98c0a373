-- What conditional jumps, goto and switches do to types: they take operands, and leave local variables alone.
use Rattle.std.proofs.Common.{◌≡◌, ◌⊎◌, inl, inr, ⊎_elim, ℕ, ◌-◌, ◌<◌, Bool, true, false, cond, not, ◌&&◌, ◌||◌, List, [], ◌∷◌, length, map, take, Option, Some, nat_eq, nat_le, refl, sym, ap, ◌∙◌, subst, arith}
use Rattle.std.proofs.lemmas.Bool.{cases_lt, eqb-true, leb-true, agree_below_at, cond-true, and_from, not_from_false, and_parts, or_cases}
use Rattle.std.proofs.lemmas.List.{take-map, length-map}
use Rattle.jc_methods.specs.InsnForm.{form_of}
use Rattle.jc_methods.proofs.InsnFormLaws.{unknown_beyond}
use Rattle.jc_methods.specs.declared.form.Form.{Form}
use Rattle.jc_methods.specs.Flow.{flow_of, is_conditional_branch}
use Rattle.jc_methods.specs.Insn.{IsWellFormed}
use Rattle.jc_methods.specs.declared.insn.Insn.{Insn}
use Rattle.jc_methods.specs.declared.kind.State.{State}
use Rattle.jc_methods.specs.declared.body.Use.{Use}
use Rattle.jc_bytes.specs.Descriptor.{FieldType}
use Rattle.jc_methods.specs.VerificationTypes.{Names, TypeState, verification_type, type_state}
use Rattle.jc_kinds_after.specs.declared.want.Want.{Want}
use Rattle.jc_kinds_after.specs.Step.{Ground, moves, apply, below}
use Rattle.jc_kinds_after.specs.Table.{one, table, forms_at}
use Rattle.jc_kinds_after.specs.After.{step_of}
use Rattle.jc_emit.specs.TwinFrames.{operands_by, left_by}
use Rattle.jc_emit.proofs.StepLaws.{state, takes_only}
use Rattle.jc_methods.specs.declared.form.Form.TheVariants as forms
use Rattle.jc_methods.specs.declared.insn.Insn.TheVariants as insns
use Rattle.jc_methods.specs.declared.insn.Flow.TheVariants as flows
use Rattle.jc_methods.proofs.ByFlowLaws.{insn_by}
use Rattle.jc_bytes.proofs.EachLaws.{AllFrom, all_from}
use Rattle.jc_kinds_after.specs.declared.want.Want.TheVariants as wants

-- ---- the opcodes of conditional jumps

abbrev pub is_jump : Form → Bool
is_jump forms.Jump = true
is_jump _ = false

abbrev tests_by : ℕ → Bool
tests_by op = cond (is_jump (form_of op) && not (nat_eq op 167)) (is_conditional_branch op) true

tests_below : (op : ℕ) → op < 202 → tests_by op ≡ true
unfolding form_of
tests_below op below = agree_below_at tests_by (λ op. true) 202 op refl below

pub unknown_no_jump : forms.Unknown ≡ forms.Jump → ⊥
unknown_no_jump e = cc

pub not_goto_by : (t : Bool) → cond t flows.Jumps flows.Branches ≡ flows.Branches → t ≡ false
not_goto_by true e = cc
not_goto_by false e = refl

goto_by : (t : Bool) → cond t flows.Jumps flows.Branches ≡ flows.Jumps → t ≡ true
goto_by true e = refl
goto_by false e = cc

pub test_op : (op to : ℕ) → form_of op ≡ forms.Jump → flow_of (insns.Jump op to) ≡ flows.Branches → is_conditional_branch op ≡ true
test_op op to form test =
    ⊎_elim
    (λ below.
    let yes = and_from (is_jump (form_of op)) (not (nat_eq op 167)) (ap is_jump form) (not_from_false (nat_eq op 167) (not_goto_by (nat_eq op 167) test)) in
    sym (cond-true (is_jump (form_of op) && not (nat_eq op 167)) (is_conditional_branch op) true yes) ∙ tests_below op below)
    (λ above. absurd (unknown_no_jump (sym (unknown_beyond op above) ∙ form)))
    (cases_lt op 202)

pub goto_op : (op to : ℕ) → flow_of (insns.Jump op to) ≡ flows.Jumps → op ≡ 167
goto_op op to e = eqb-true op 167 (goto_by (nat_eq op 167) e)

-- ---- their operands

-- so many operands are taken, and nothing is left in their place
pub record Takes (op : ℕ) : Type 0 where
  pub wanted : List Want
  pub forms_are : forms_at op ≡ one wanted []
  pub count : length wanted ≡ operands_by op

tests_take : AllFrom Takes 153 14
unfolding forms_at table
tests_take = (
  record { wanted = wants.Int ∷ []; forms_are = refl; count = refl },
  (
    record { wanted = wants.Int ∷ []; forms_are = refl; count = refl },
    (
      record { wanted = wants.Int ∷ []; forms_are = refl; count = refl },
      (
        record { wanted = wants.Int ∷ []; forms_are = refl; count = refl },
        (
          record { wanted = wants.Int ∷ []; forms_are = refl; count = refl },
          (
            record { wanted = wants.Int ∷ []; forms_are = refl; count = refl },
            (
              record { wanted = wants.Int ∷ wants.Int ∷ []; forms_are = refl; count = refl },
              (
                record { wanted = wants.Int ∷ wants.Int ∷ []; forms_are = refl; count = refl },
                (
                  record { wanted = wants.Int ∷ wants.Int ∷ []; forms_are = refl; count = refl },
                  (
                    record { wanted = wants.Int ∷ wants.Int ∷ []; forms_are = refl; count = refl },
                    (
                      record { wanted = wants.Int ∷ wants.Int ∷ []; forms_are = refl; count = refl },
                      (
                        record { wanted = wants.Int ∷ wants.Int ∷ []; forms_are = refl; count = refl },
                        (
                          record { wanted = wants.Anything ∷ wants.Anything ∷ []; forms_are = refl; count = refl },
                          (record { wanted = wants.Anything ∷ wants.Anything ∷ []; forms_are = refl; count = refl }, tt),
                        ),
                      ),
                    ),
                  ),
                ),
              ),
            ),
          ),
        ),
      ),
    ),
  ),
)

nulls_take : AllFrom Takes 198 2
unfolding forms_at table
nulls_take = (
  record { wanted = wants.Anything ∷ []; forms_are = refl; count = refl },
  (record { wanted = wants.Anything ∷ []; forms_are = refl; count = refl }, tt),
)

test_takes : (op : ℕ) → is_conditional_branch op ≡ true → Takes op
test_takes op test = ⊎_elim
    (λ range. let p = and_parts (nat_le 153 op) (nat_le op 166) range in
    let low = leb-true 153 op p.0 in let high = leb-true op 166 p.1 in
    all_from Takes 153 14 op tests_take low (omega (arith, high)))
    (λ null. ⊎_elim
    (λ a. subst Takes (sym (eqb-true op 198 a)) nulls_take.0)
    (λ b. subst Takes (sym (eqb-true op 199 b)) nulls_take.1.0)
    (or_cases (nat_eq op 198) (nat_eq op 199) null))
    (or_cases (nat_le 153 op && nat_le op 166) (nat_eq op 198 || nat_eq op 199) test)

-- ---- the states that they leave

below_seen : (names : Names) (n : ℕ) (s : State)
    → below n (type_state names s).stack ≡ (type_state names (record { locals = s.locals; stack = take (length s.stack - n) s.stack })).stack
below_seen names n s =
    ap (λ (k : ℕ). take (k - n) (map (verification_type names) s.stack)) (length-map s.stack (verification_type names))
    ∙ take-map (verification_type names) (length s.stack - n) s.stack

taken : (names : Names) (g : Ground) (ws : List Want) (n : ℕ) (s : State) (t : TypeState) → length ws ≡ n
    → apply g (moves (one ws [])) (type_state names s) ≡ Some t
    → t ≡ type_state names (record { locals = s.locals; stack = take (length s.stack - n) s.stack })
taken names g ws n s t len e =
    takes_only g ws (type_state names s) t e
    ∙ ap (λ (k : ℕ). state (map (verification_type names) s.locals) (below k (map (verification_type names) s.stack))) len
    ∙ ap (state (map (verification_type names) s.locals)) (below_seen names n s)

-- the state after a conditional jump or a switch is the one that it leaves
pub left_is : (names : Names) (g : Ground) (uses : List Use) (returns : Option FieldType) (insn : Insn) (s : State) (t : TypeState)
    → IsWellFormed insn → flow_of insn ≡ flows.Branches ⊎ flow_of insn ≡ flows.Switches
    → apply g (step_of uses returns insn) (type_state names s) ≡ Some t → t ≡ type_state names (left_by insn s)
unfolding forms_at table
left_is names g uses returns (insns.Jump op to) s t good (inl e) h =
    let k = test_takes op (test_op op to good e) in
    taken names g k.wanted (operands_by op) s t k.count (ap (λ fs. apply g (moves fs) (type_state names s)) (sym k.forms_are) ∙ h)
left_is names g uses returns (insns.Jump op to) s t good (inr e) h = absurd (insn_by (insns.Jump op to) e)
left_is names g uses returns (insns.Table low default arms) s t good e h = taken names g (wants.Int ∷ []) 1 s t refl h
left_is names g uses returns (insns.Lookup default arms) s t good e h = taken names g (wants.Int ∷ []) 1 s t refl h
left_is names g uses returns insn s t good (inl e) h = absurd (insn_by insn e)
left_is names g uses returns insn s t good (inr e) h = absurd (insn_by insn e)
