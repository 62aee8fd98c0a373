-- Instructions of which the places in the code or the local variables are replaced.
use Rattle.std.proofs.Common.{◌≡◌, ◌⊎◌, inl, inr, ⊎_elim, ℕ, ◌+◌, ◌<◌, cond, nat_eq, nat_le, [], ◌∷◌, map, refl, sym, ap, ◌∙◌, subst, arith, pos}
use Rattle.std.specs.Prelude.{Contains}
use Rattle.std.proofs.lemmas.Bool.{cond-false, cond_both, lt-leb, ne_eqb, and_left, leb-true}
use Rattle.jc_methods.specs.Flow.{flow_of, flow_of_simple, is_return, targets_of, jump_target, FallsThrough}
use Rattle.jc_methods.specs.Insn.{with_places}
use Rattle.jc_methods.specs.Widened.{goto, inverted}
use Rattle.jc_methods.specs.declared.insn.Insn.{Insn}
use Rattle.jc_methods.specs.declared.insn.Insn.TheVariants as insns
use Rattle.jc_methods.specs.declared.insn.Flow.{Flow}
use Rattle.jc_methods.specs.declared.insn.Flow.TheVariants as flows
use Rattle.jc_bytes.proofs.BooleanLaws.{which_in, none_in}
use Rattle.jc_methods.proofs.ByFlowLaws.{insn_by, nowhere_targets, nowhere_placed}
use Rattle.jc_methods.proofs.PlacedInsnLaws.{flow_placed, targets_placed}
use Rattle.jc_methods.proofs.SlotsLaws.{flow_slots}
use Rattle.jc_kinds_after.specs.Shift.{with_slot}
use Rattle.jc_methods.specs.ProbeMembers.{most_short}
use Rattle.jc_emit.specs.Marks.{push, push_by}
use Rattle.jc_emit.proofs.OthersLaws.{tests_target}
use Rattle.jc_emit.proofs.LocalLaws.{test_is}

-- ---- flow and places

pub low_goes_on : (op : ℕ) → op < 172 → flow_of_simple op ≡ flows.GoesOn
low_goes_on op low =
    cond-false (is_return op) flows.Returns (cond (nat_eq op 191) flows.Throws flows.GoesOn) (and_left (nat_le 172 op) (nat_le op 177) (lt-leb 172 op low))
    ∙ cond-false (nat_eq op 191) flows.Throws flows.GoesOn (ne_eqb op 191 (λ e. omega (arith, e, low)))

pub flow_push : (n : ℕ) → flow_of (push n) ≡ flows.GoesOn
flow_push n =
    cond_both (nat_le n 5) (insns.Simple (3 + n)) (cond (nat_le n 127) (insns.Push 16 (pos n)) (insns.Push 17 (pos n))) (λ x. flow_of x ≡ flows.GoesOn)
    (λ few. low_goes_on (3 + n) (omega (arith, leb-true n 5 few)))
    (λ many. cond_both (nat_le n 127) (insns.Push 16 (pos n)) (insns.Push 17 (pos n)) (λ x. flow_of x ≡ flows.GoesOn) (λ h. refl) (λ h. refl))

pub places_push : (P : ℕ → ℕ) (n : ℕ) → with_places P (push n) ≡ push n
places_push P n =
    cond_both (nat_le n 5) (insns.Simple (3 + n)) (cond (nat_le n 127) (insns.Push 16 (pos n)) (insns.Push 17 (pos n))) (λ x. with_places P x ≡ x)
    (λ few. refl)
    (λ many. cond_both (nat_le n 127) (insns.Push 16 (pos n)) (insns.Push 17 (pos n)) (λ x. with_places P x ≡ x) (λ h. refl) (λ h. refl))

-- the same for each number
pub flow_push_by : (integer : ℕ → ℕ) (n : ℕ) → flow_of (push_by integer n) ≡ flows.GoesOn
flow_push_by integer n =
    cond_both (nat_le n most_short) (push n) (insns.Constant (integer n)) (λ x. flow_of x ≡ flows.GoesOn) (λ few. flow_push n) (λ many. refl)

pub places_push_by : (P : ℕ → ℕ) (integer : ℕ → ℕ) (n : ℕ) → with_places P (push_by integer n) ≡ push_by integer n
places_push_by P integer n =
    cond_both (nat_le n most_short) (push n) (insns.Constant (integer n)) (λ x. with_places P x ≡ x) (λ few. places_push P n) (λ many. refl)

pub flow_shifted : (v : ℕ) (insn : Insn) → flow_of (with_slot v insn) ≡ flow_of insn
flow_shifted v insn = flow_slots _ insn

-- an instruction that goes on leads nowhere else
pub places_on : (f : ℕ → ℕ) (insn : Insn) → flow_of insn ≡ flows.GoesOn → with_places f insn ≡ insn
places_on f insn e = nowhere_placed f insn (insn_by insn e)

-- a return or athrow too
pub places_out : (f : ℕ → ℕ) (insn : Insn) → (flow_of insn ≡ flows.Returns) ⊎ (flow_of insn ≡ flows.Throws) → with_places f insn ≡ insn
places_out f insn (inl e) = nowhere_placed f insn (insn_by insn e)
places_out f insn (inr e) = nowhere_placed f insn (insn_by insn e)

-- ---- targets

-- what goes on, returns or throws has no target
pub no_targets : (insn : Insn) → (flow_of insn ≡ flows.GoesOn) ⊎ ((flow_of insn ≡ flows.Returns) ⊎ (flow_of insn ≡ flows.Throws))
    → targets_of insn ≡ []
no_targets insn (inl e) = nowhere_targets insn (insn_by insn e)
no_targets insn (inr (inl e)) = nowhere_targets insn (insn_by insn e)
no_targets insn (inr (inr e)) = nowhere_targets insn (insn_by insn e)

pub jump_placed : {flow : Flow} (insn : Insn) (f : ℕ → ℕ) → flow_of insn ≡ flow → flow_of (with_places f insn) ≡ flow
jump_placed insn f e = flow_placed f insn ∙ e

pub goto_stops : (insn : Insn) (f : ℕ → ℕ) → flow_of insn ≡ flows.Jumps → FallsThrough (with_places f insn) → ⊥
goto_stops insn f e h =
    ⊎_elim (λ x. absurd (differ (sym (jump_placed insn f e) ∙ x))) (λ x. absurd (other (sym (jump_placed insn f e) ∙ x))) h
  where
    differ : flows.Jumps ≡ flows.GoesOn → ⊥
    differ x = cc

    other : flows.Jumps ≡ flows.Branches → ⊥
    other x = cc

pub switch_stops : (insn : Insn) (f : ℕ → ℕ) → flow_of insn ≡ flows.Switches → FallsThrough (with_places f insn) → ⊥
switch_stops insn f e h =
    ⊎_elim (λ x. absurd (differ (sym (jump_placed insn f e) ∙ x))) (λ x. absurd (other (sym (jump_placed insn f e) ∙ x))) h
  where
    differ : flows.Switches ≡ flows.GoesOn → ⊥
    differ x = cc

    other : flows.Switches ≡ flows.Branches → ⊥
    other x = cc

-- goto doesn't fall through
pub no_fall_goto : (to : ℕ) → FallsThrough (goto to) → ⊥
no_fall_goto to h = ⊎_elim (λ x. cc) (λ x. cc) h

-- one place only
pub only : (to r : ℕ) (P : ℕ → Type 0) → P to → Contains (to ∷ []) r → P r
only to r P h c = ⊎_elim (λ same. subst P same h) (λ more. absurd (none_in r more)) (which_in to [] r c)

-- where a conditional jump leads when its target is replaced, or when it is inverted
pub inverse_targets : (insn : Insn) (x : ℕ) → flow_of insn ≡ flows.Branches → targets_of (inverted x insn) ≡ x ∷ []
inverse_targets insn x e = let j = test_is insn e in subst (λ o. targets_of (inverted x o) ≡ x ∷ []) (sym j.is) refl

pub placed_targets : (insn : Insn) (f : ℕ → ℕ) → flow_of insn ≡ flows.Branches → targets_of (with_places f insn) ≡ f (jump_target insn) ∷ []
placed_targets insn f e = targets_placed f insn ∙ ap (map f) (tests_target insn e)

-- what neither goes on nor tests doesn't fall through
pub never : (insn : Insn) (flow : Flow) → flow_of insn ≡ flow → (flow ≡ flows.GoesOn → ⊥) → (flow ≡ flows.Branches → ⊥)
    → FallsThrough insn → ⊥
never insn flow e f g h = ⊎_elim (λ x. f (sym e ∙ x)) (λ x. g (sym e ∙ x)) h
