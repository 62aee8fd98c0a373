-- A frame at an own instruction, and the frame at its image: the monitor instruction, the synchronized method that is called, and what
-- both come to.
use Rattle.std.proofs.Common.{◌≡◌, ◌⊎◌, ℕ, ◌+◌, Bool, true, false, List, [], ◌∷◌, Option, Some, None, nat_eq, refl, sym, ap, ◌∙◌, subst, subst₂, if◌then◌else◌}
use Rattle.std.specs.Prelude.{slice_get}
use Rattle.std.proofs.lemmas.Bool.{and_parts}
use Rattle.std.proofs.lemmas.Option.{same_Some, slice_get-get_or}
use Rattle.jc_methods.specs.Opcode as opcode
use Rattle.jc_methods.specs.DescriptorTypes.{method_type_in}
use Rattle.jc_methods.specs.WellMade.{what_used}
use Rattle.jc_methods.specs.declared.insn.Insn.{Insn}
use Rattle.jc_methods.specs.declared.insn.Insn.TheVariants as insns
use Rattle.jc_programs.specs.declared.program.Program.{Program}
use Rattle.jc_programs.specs.declared.program.Linked.{Linked}
use Rattle.jc_programs.specs.declared.run_end.Entry.{Entry}
use Rattle.jc_emit.specs.Items.{image}
use Rattle.jc_emit.specs.Sizes.{insn_at}
use Rattle.jc_machine_model.specs.Values.{Value}
use Rattle.jc_machine_model.specs.World.{Frame, Shared}
use Rattle.jc_machine_model.specs.Methods.{is_init_name, is_plain}
use Rattle.jc_machine_model.specs.Operations.{invokes}
use Rattle.jc_machine_model.specs.Perform.{perform}
use Rattle.jc_machine_model.specs.Calls.{taken_for, by_call}
use Rattle.jc_machine_model.specs.Profile.{Location, given_of}
use Rattle.jc_machine_model.specs.Step.{located}
use Rattle.jc_machine_model.specs.Fits.{named_by, called_by}
use Rattle.jc_machine_model.specs.Locked.{MonitorInsn, monitor_in, monitor_of_frame, dropped, dropping, locked_method, locked_call, callee_of_frame, call_of, call_to, calling}
use Rattle.jc_machine_laws.proofs.LockedLaws.{IsLockedMethod, locked_is}
use Rattle.jc_twin_simulation.specs.Sides.{Side, IsSide, AreSides}
use Rattle.jc_twin_simulation.specs.Beside.{SameShared}
use Rattle.jc_twin_simulation.proofs.MemberLaws.{plain_static}
use Rattle.jc_twin_simulation.proofs.OperationLaws.{what_same}
use Rattle.jc_twin_simulation.proofs.OwnLaws.{SameResult, Next, AtImage, performed}
use Rattle.jc_twin_simulation.proofs.FrameLaws.{location, located_is, body_is, arrives, twin_insn, past_start, beyond_start}
use Rattle.jc_monitor_laws.proofs.FormLaws.{SameForm, same_form, monitor_goes, call_goes, goes_next}
use Rattle.jc_monitor_laws.proofs.CalleeLaws.{named_same}

module _ (p p' : Program) (sides : Entry → Side) (are : AreSides p p' sides) (f f' : Frame) (new : Insn) (early : Option ℕ)
    (o : AtImage p p' sides f f' new early) where
  abbrev t : Side
  t = sides f.method

  abbrev side : IsSide p p' f.method (sides f.method)
  side = o.one.side

  abbrev insn : Insn
  insn = insn_at t.body.code f.place

  abbrev at : Location
  at = location f.method f.place t.class t.body

  abbrev at' : Location
  at' = location f.method f'.place t.new t.twin

  past : (v : ℕ) → t.slot ≡ Some v → nat_eq f'.place 0 ≡ false
  past = past_start p p' sides f.method side f'.place (image new f.place early) o.here refl

  beyond : (given_of t.new ≡ None) ⊎ (nat_eq f'.place 1 ≡ false)
  beyond = beyond_start p p' sides f.method side f'.place (image new f.place early) o.here refl

  -- ---- the two instructions

  insn_here : slice_get t.body.code f.place ≡ Some insn
  insn_here = slice_get-get_or t.body.code f.place (insns.Simple 0) (side.ok.ok f'.place (image new f.place early) o.here).0

  old_located : located p f.method f.place ≡ Some (record { at = at; insn = insn })
  old_located = located_is p f.method f.place t.class t.body insn side.class_is side.body_is insn_here

  new_located : located p' f'.method f'.place ≡ Some (record { at = at'; insn = new })
  new_located =
      let twin = twin_insn p p' sides f.method side f'.place (image new f.place early) o.here in
      ap (λ m. located p' m f'.place) o.one.method
      ∙ located_is p' f.method f'.place t.new t.twin new side.new_is side.twin_is (twin.1 ∙ ap Some twin.2)

  form : SameForm insn new
  form =
      same_form p p' sides are f.method side f'.place f.place past beyond new insn (side.ok.ok f'.place (image new f.place early) o.here).2

  -- ---- monitor instructions

  pub monitor_same : monitor_of_frame p' f' ≡ monitor_of_frame p f
  monitor_same = ap monitor_in new_located ∙ form.monitor ∙ sym (ap monitor_in old_located)

  -- behind one both go on
  pub monitor_next : (x : MonitorInsn) → monitor_of_frame p f ≡ Some x → Next p p' sides t f'.place f.place
  monitor_next x e =
      goes_next p p' sides are f.method side f'.place f.place past beyond new insn (side.ok.ok f'.place (image new f.place early) o.here).2
      (monitor_goes insn x (sym (ap monitor_in old_located) ∙ e))

  -- ---- calls

  abbrev called : Option Entry
  called = called_by p at insn

  called_same : (x : Insn) → slice_get t.body.code f.place ≡ Some x → locked_method p' (called_by p' at' x) ≡ locked_method p (called_by p at x)
  called_same (insns.Member op place) here = by (nat_eq op opcode.invokestatic)
    where
      named : locked_method p' (named_by p' (what_used t.twin.uses place)) ≡ locked_method p (named_by p (what_used t.body.uses place))
      named =
          ap (λ w. locked_method p' (named_by p' w))
          (what_same p p' sides are f.method side f'.place f.place past beyond new (insns.Member op place) place here refl)
          ∙ named_same p p' sides are (what_used t.body.uses place)

      by : (b : Bool) → locked_method p' (if b then named_by p' (what_used t.twin.uses place) else None)
          ≡ locked_method p (if b then named_by p (what_used t.body.uses place) else None)
      by true = named
      by false = refl
  called_same x here = refl

  old_callee : callee_of_frame p f ≡ locked_method p called
  old_callee = ap (locked_call p) old_located ∙ ap (λ b. if b then None else locked_method p called) side.named

  new_callee : callee_of_frame p' f' ≡ locked_method p' (called_by p' at' insn)
  new_callee =
      ap (locked_call p') new_located
      ∙ ap (λ b. if b then None else locked_method p' (called_by p' at' new)) (ap is_init_name side.same.name ∙ side.named)
      ∙ ap (locked_method p') (form.called p' at')

  pub callee_same : callee_of_frame p' f' ≡ callee_of_frame p f
  callee_same = new_callee ∙ called_same insn insn_here ∙ sym old_callee

  -- ---- what both come to

  module _ (s s' : Shared) (ss : SameShared p p' sides s s') where
    abbrev Both : List Value → List Value → Type 0
    Both stack stack' = SameResult p p' sides (dropped s f stack) (dropped s' f' stack')

    pub drops_same : (x : MonitorInsn) → monitor_of_frame p f ≡ Some x → SameResult p p' sides (dropping s f) (dropping s' f')
    drops_same x e = subst (Both f.stack) (sym o.stack) (by f.stack)
      where
        by : (stack : List Value) → Both stack stack
        by [] = tt
        by (v ∷ stack) = (
          ss,
          arrives p p' sides f f' o.one (f'.place + 1) (f.place + 1) (monitor_next x e) (image new f.place early) tt f.locals f'.locals o.locals stack,
        )

    -- the call of a method that only its being synchronized keeps from being called
    module _ (callee : Entry) (l : IsLockedMethod p callee) (next : Next p p' sides t f'.place f.place) where
      abbrev u : Side
      u = sides callee

      its_side : IsSide p p' callee u
      its_side = are.side callee l.linked l.body l.class_is l.body_is

      class_same : l.linked ≡ u.class
      class_same = same_Some l.linked u.class (sym l.class_is ∙ its_side.class_is)

      body_same : l.body ≡ u.body
      body_same = same_Some l.body u.body (sym l.body_is ∙ ap (λ (c : Linked). slice_get c.bodies callee.method) class_same ∙ its_side.body_is)

      its_plain : is_plain u.class u.body ≡ true
      its_plain = subst₂ (λ c b. is_plain c b ≡ true) class_same body_same (and_parts _ _ l.locked).0

      calls_body : SameResult p p' sides (call_of (Some u.body) callee f)
          (by_call callee u.twin.max_locals (taken_for (method_type_in u.body.desc).parameters f'.stack) f')
      unfolding perform
      calls_body =
          let needs = plain_static u.class u.body its_plain in
          let ps = (method_type_in u.body.desc).parameters in
          performed p p' sides f f' new early o s s' ss (invokes callee ps u.body.max_locals) (invokes callee ps u.twin.max_locals)
          (refl, record { side = its_side; entered = needs.1; static = needs.0; parameters_are = refl; locals_are = refl }, next)

      calls_same : SameResult p p' sides (call_to p (Some callee) f) (call_to p' (Some callee) f')
      calls_same =
          subst₂ (λ b b'. SameResult p p' sides (call_of b callee f) (call_of b' callee f'))
          (sym (body_is p callee u.class u.body its_side.class_is its_side.body_is)) (sym (body_is p' callee u.new u.twin its_side.new_is its_side.twin_is))
          (subst (λ (d : List ℕ). SameResult p p' sides (call_of (Some u.body) callee f)
          (by_call callee u.twin.max_locals (taken_for (method_type_in d).parameters f'.stack) f')) (sym its_side.same.desc) calls_body)

    pub calling_same : (callee : Entry) → callee_of_frame p f ≡ Some callee → SameResult p p' sides (calling p s f) (calling p' s' f')
    calling_same callee e =
        let l = locked_is p called callee (sym old_callee ∙ e) in
        let next =
        goes_next p p' sides are f.method side f'.place f.place past beyond new insn (side.ok.ok f'.place (image new f.place early) o.here).2
        (call_goes p at insn callee l.0) in
        subst₂ (λ c c'. SameResult p p' sides (call_to p c f) (call_to p' c' f')) (sym e) (sym (callee_same ∙ e)) (calls_same callee l.1 next)
