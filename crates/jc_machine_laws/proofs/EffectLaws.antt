-- What each opcode that reads and writes the stack alone leaves there has the types of the kind check.
use Rattle.std.proofs.Common.{◌≡◌, ℕ, Bool, true, false, cond, List, [], ◌∷◌, ◌++◌, length, Some, nat_le, nat_lt, refl, sym, ◌∙◌, ap, subst, append-nil}
use Rattle.jc_methods.specs.VerificationTypes.{VerificationType}
use Rattle.jc_methods.specs.Opcode as opcode
use Rattle.jc_kinds_after.specs.declared.want.Want.{Want}
use Rattle.jc_kinds_after.specs.Step.{below, moved_by}
use Rattle.jc_kinds_after.specs.Table.{form, forms_at}
use Rattle.jc_machine_model.specs.Values.{Value}
use Rattle.jc_machine_model.specs.Effects.{Effect, effect}
use Rattle.jc_machine_model.specs.Fits.{IsStackBy}
use Rattle.jc_machine_laws.specs.Laws.{LeavesBy, EffectFits}
use Rattle.jc_machine_laws.proofs.TypedLaws.{References, any_references}
use Rattle.jc_machine_laws.proofs.StackLaws.{tops_of, below_is, one_moved}
use Rattle.jc_machine_laws.proofs.NumberEffectLaws.{IsKept, cond_kept, single_kept, pair_kept, constant_kept}
use Rattle.jc_machine_laws.proofs.MoveLaws.{moves_kept}

-- ---- every effect

module _ (R : References) where
  pub cond_effect : (most op : ℕ) (stack : List Value) (ks : List VerificationType) (t : Bool) (e f : Effect)
      → (t ≡ true → IsKept R most op stack ks e) → IsKept R most op stack ks f → IsKept R most op stack ks (cond t e f)
  cond_effect most op stack ks true e f p q = p refl
  cond_effect most op stack ks false e f p q = q

  pub effect_kept : (most op : ℕ) (stack : List Value) (ks : List VerificationType) → IsStackBy R.holds stack ks → IsKept R most op stack ks (effect op stack)
  unfolding effect
  effect_kept most op stack ks p =
      cond_effect most op stack ks (nat_le op opcode.lconst_1) _ _ (λ l. constant_kept R most op stack ks l p) (
      cond_kept R most op stack ks (nat_lt op opcode.iadd) _ _ (moves_kept R most op stack ks p) (
      cond_kept R most op stack ks _ _ _ (single_kept R most op stack ks p) (pair_kept R most op stack ks p)))

  pub effects_fit : (most op : ℕ) (stack : List Value) (before after : List VerificationType) → IsStackBy R.holds stack before
      → moved_by most (forms_at op) before ≡ Some after → LeavesBy R.holds after stack (effect op stack)
  unfolding IsKept
  effects_fit most op stack before after p e = effect_kept most op stack before p after e

  -- values that are taken from the top, and nothing in their place
  module _ (most : ℕ) (vs stack : List Value) (ks : List VerificationType) where
    pub leaf_none : (wanted : List Want) → length wanted ≡ length vs → IsStackBy R.holds (vs ++ stack) ks → (t : List VerificationType)
        → moved_by most (form wanted [] ∷ []) ks ≡ Some t → IsStackBy R.holds stack t
    leaf_none wanted n p t e =
        let r = tops_of R vs stack ks p in
        let b = ap (λ l. below (length wanted) l) r.parts ∙ below_is r.low r.kinds (length wanted) (r.count ∙ sym n) in
        subst (λ l. IsStackBy R.holds stack l) (sym (append-nil r.low) ∙ ap (λ l. l ++ []) (sym b) ∙ one_moved most (form wanted []) ks t e) r.below

pub effects_fit_any : EffectFits
effects_fit_any = effects_fit any_references
