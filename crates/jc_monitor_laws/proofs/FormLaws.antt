-- The image of an instruction is a monitor instruction where the instruction is one, and names the method that it calls.
use Rattle.std.proofs.Common.{◌≡◌, ◌⊎◌, inl, inr, ℕ, Bool, true, false, cond, Some, None, nat_eq, refl, sym, ap, subst, if◌then◌else◌}
use Rattle.std.proofs.lemmas.Bool.{eqb-true}
use Rattle.std.proofs.lemmas.Option.{none-some}
use Rattle.jc_methods.specs.Opcode as opcode
use Rattle.jc_methods.specs.Flow.{flow_of, is_return, inverse_of}
use Rattle.jc_methods.specs.Slots.{with_slots}
use Rattle.jc_methods.specs.declared.insn.Insn.{Insn}
use Rattle.jc_methods.specs.declared.insn.Insn.TheVariants as insns
use Rattle.jc_methods.specs.declared.insn.Flow.{Flow}
use Rattle.jc_methods.specs.declared.insn.Flow.TheVariants as flows
use Rattle.jc_programs.specs.declared.program.Program.{Program}
use Rattle.jc_programs.specs.declared.run_end.Entry.{Entry}
use Rattle.jc_emit.specs.Local.{OkImage}
use Rattle.jc_machine_model.specs.Profile.{Location, given_of}
use Rattle.jc_machine_model.specs.Fits.{called_by}
use Rattle.jc_machine_model.specs.Locked.{MonitorInsn, enters, exits, monitor_named, monitor_of}
use Rattle.jc_twin_simulation.specs.Same.{twin_slot}
use Rattle.jc_twin_simulation.specs.Sides.{Side, IsSide, AreSides}
use Rattle.jc_twin_simulation.proofs.OwnLaws.{Next}
use Rattle.jc_twin_simulation.proofs.OperationLaws.{moved, go_on}

-- ---- instructions that go on

pub monitor_is : (op : ℕ) (x : MonitorInsn) → monitor_named op ≡ Some x → (op ≡ opcode.monitorenter) ⊎ (op ≡ opcode.monitorexit)
monitor_is op x e = by (nat_eq op opcode.monitorenter) refl (nat_eq op opcode.monitorexit) refl e
  where
    by : (a : Bool) → nat_eq op opcode.monitorenter ≡ a → (b : Bool) → nat_eq op opcode.monitorexit ≡ b
        → cond a (Some enters) (cond b (Some exits) None) ≡ Some x → (op ≡ opcode.monitorenter) ⊎ (op ≡ opcode.monitorexit)
    by true q b r e = inl (eqb-true op opcode.monitorenter q)
    by false q true r e = inr (eqb-true op opcode.monitorexit r)
    by false q false r e = absurd (none-some x e)

pub monitor_goes : (insn : Insn) (x : MonitorInsn) → monitor_of insn ≡ Some x → flow_of insn ≡ flows.GoesOn
monitor_goes (insns.Simple op) x e = by (monitor_is op x e)
  where
    by : (op ≡ opcode.monitorenter) ⊎ (op ≡ opcode.monitorexit) → flow_of (insns.Simple op) ≡ flows.GoesOn
    by (inl q) = ap (λ k. flow_of (insns.Simple k)) q
    by (inr q) = ap (λ k. flow_of (insns.Simple k)) q
monitor_goes insn x e = absurd (none-some x e)

pub call_goes : (program : Program) (at : Location) (insn : Insn) (callee : Entry) → called_by program at insn ≡ Some callee → flow_of insn ≡ flows.GoesOn
call_goes program at (insns.Member op place) callee e = refl
call_goes program at insn callee e = absurd (none-some callee e)

-- ---- images

-- the two are one monitor instruction or none is one, and call one method or none
pub record SameForm (insn new : Insn) : Type 0 where
  pub monitor : monitor_of new ≡ monitor_of insn
  pub called : (program : Program) (at : Location) → called_by program at new ≡ called_by program at insn

-- moved to other local variables, or to other places of the code, it is of one form
slots_form : (f : ℕ → ℕ) (insn : Insn) → SameForm insn (with_slots f insn)
slots_form f (insns.Local op k) = record { monitor = refl; called = λ program at. refl }
slots_form f (insns.Inc k by) = record { monitor = refl; called = λ program at. refl }
slots_form f insn = record { monitor = refl; called = λ program at. refl }

jumps_form : (op other to target : ℕ) → SameForm (insns.Jump op to) (insns.Jump other target)
jumps_form op other to target = record { monitor = refl; called = λ program at. refl }

module _ (p p' : Program) (sides : Entry → Side) (are : AreSides p p' sides) (m : Entry) (side : IsSide p p' m (sides m)) (q i : ℕ)
    (past : (v : ℕ) → (sides m).slot ≡ Some v → nat_eq q 0 ≡ false) (beyond : (given_of (sides m).new ≡ None) ⊎ (nat_eq q 1 ≡ false)) (new : Insn) where
  abbrev t : Side
  t = sides m

  abbrev IsOk : Insn → Flow → Type 0
  IsOk insn flow = OkImage t.body.code t.slot t.ids t.items q i insn new flow

  on : (insn : Insn) → IsOk insn flows.GoesOn → SameForm insn new
  on insn h =
      subst (SameForm insn) (sym (moved p p' sides are m side q i past beyond new insn h)) (slots_form (twin_slot t.slot) insn)

  simple : (op : ℕ) (r a : Bool) → IsOk (insns.Simple op) (if r then flows.Returns else if a then flows.Throws else flows.GoesOn)
      → SameForm (insns.Simple op) new
  simple op true a h = subst (SameForm (insns.Simple op)) (sym h) (record { monitor = refl; called = λ program at. refl })
  simple op false true h = subst (SameForm (insns.Simple op)) (sym h) (record { monitor = refl; called = λ program at. refl })
  simple op false false h = on (insns.Simple op) h

  jumping : (op to : ℕ) (b : Bool) → IsOk (insns.Jump op to) (if b then flows.Jumps else flows.Branches) → SameForm (insns.Jump op to) new
  jumping op to true h = subst (SameForm (insns.Jump op to)) (sym h.same) (jumps_form op op to h.target)
  jumping op to false (inl h) = subst (SameForm (insns.Jump op to)) (sym h.same) (jumps_form op op to h.target)
  jumping op to false (inr h) = subst (SameForm (insns.Jump op to)) (sym h.inverse) (jumps_form op (inverse_of op) to h.target)

  pub same_form : (insn : Insn) → IsOk insn (flow_of insn) → SameForm insn new
  same_form (insns.Simple op) h = simple op (is_return op) (nat_eq op opcode.athrow) h
  same_form (insns.Jump op to) h = jumping op to (nat_eq op opcode.goto) h
  same_form (insns.Table low default arms) h =
      subst (SameForm (insns.Table low default arms)) (sym h.same) (record { monitor = refl; called = λ program at. refl })
  same_form (insns.Lookup default arms) h =
      subst (SameForm (insns.Lookup default arms)) (sym h.same) (record { monitor = refl; called = λ program at. refl })
  same_form insn h = on insn h

  -- both go on with the next instruction
  pub goes_next : (insn : Insn) → IsOk insn (flow_of insn) → flow_of insn ≡ flows.GoesOn → Next p p' sides t q i
  goes_next insn h e = go_on p p' sides are m side q i past beyond new insn (subst (IsOk insn) e h)
