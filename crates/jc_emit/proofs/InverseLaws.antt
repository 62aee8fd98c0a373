-- Inverses of conditional jumps.
use Rattle.std.proofs.Common.{◌≡◌, ⊎_elim, ℕ, ◌<◌, Bool, true, cond, not, ◌&&◌, nat_eq, refl, sym, ap, ◌∙◌}
use Rattle.std.proofs.lemmas.Bool.{cases_lt, eqb-true, agree_below_at, cond-true, cond-false, and_from, not-true, not_from_false}
use Rattle.jc_methods.specs.InsnForm.{form_of}
use Rattle.jc_methods.proofs.InsnFormLaws.{unknown_beyond}
use Rattle.jc_methods.specs.Flow.{flow_of, inverse_of}
use Rattle.jc_methods.specs.declared.form.Form.TheVariants as forms
use Rattle.jc_methods.specs.declared.insn.Insn.TheVariants as insns
use Rattle.jc_methods.specs.declared.insn.Flow.TheVariants as flows
use Rattle.jc_emit.proofs.ConditionalBranchLaws.{is_jump, not_goto_by, unknown_no_jump}

-- where it is one, the inverse of the inverse is the opcode
abbrev is_back : ℕ → Bool
is_back op = cond (is_jump (form_of op) && not (nat_eq op 167)) (nat_eq (inverse_of (inverse_of op)) op) true

back_below : (op : ℕ) → op < 202 → is_back op ≡ true
unfolding form_of inverse_of
back_below op below = agree_below_at is_back (λ op. true) 202 op refl below

pub twice_inverse : (op to : ℕ) → form_of op ≡ forms.Jump → flow_of (insns.Jump op to) ≡ flows.Branches → inverse_of (inverse_of op) ≡ op
twice_inverse op to form test =
    ⊎_elim
    (λ below.
    let yes = and_from (is_jump (form_of op)) (not (nat_eq op 167)) (ap is_jump form) (not_from_false (nat_eq op 167) (not_goto_by (nat_eq op 167) test)) in
    eqb-true (inverse_of (inverse_of op)) op (sym (cond-true (is_jump (form_of op) && not (nat_eq op 167)) (nat_eq (inverse_of (inverse_of op)) op) true yes) ∙ back_below op below))
    (λ above. absurd (unknown_no_jump (sym (unknown_beyond op above) ∙ form)))
    (cases_lt op 202)

abbrev is_test_too : ℕ → Bool
is_test_too op = cond (is_jump (form_of op) && not (nat_eq op 167)) (not (nat_eq (inverse_of op) 167)) true

too_below : (op : ℕ) → op < 202 → is_test_too op ≡ true
unfolding form_of inverse_of
too_below op below = agree_below_at is_test_too (λ op. true) 202 op refl below

-- the inverse of a conditional jump is one
pub inverse_tests_too : (op to t : ℕ) → form_of op ≡ forms.Jump → flow_of (insns.Jump op to) ≡ flows.Branches
    → flow_of (insns.Jump (inverse_of op) t) ≡ flows.Branches
inverse_tests_too op to t form test =
    ⊎_elim
    (λ below.
    let yes = and_from (is_jump (form_of op)) (not (nat_eq op 167)) (ap is_jump form) (not_from_false (nat_eq op 167) (not_goto_by (nat_eq op 167) test)) in
    let apart = sym (cond-true (is_jump (form_of op) && not (nat_eq op 167)) (not (nat_eq (inverse_of op) 167)) true yes) ∙ too_below op below in
    cond-false (nat_eq (inverse_of op) 167) flows.Jumps flows.Branches (not-true (nat_eq (inverse_of op) 167) apart))
    (λ above. absurd (unknown_no_jump (sym (unknown_beyond op above) ∙ form)))
    (cases_lt op 202)
