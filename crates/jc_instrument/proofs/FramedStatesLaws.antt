-- States before the instructions of a body that are those of its frames, where frames stand.
use Rattle.std.proofs.Common.{◌≡◌, ⊎_elim, ℕ, zero, suc, ◌+◌, Bool, true, false, List, [], ◌∷◌, length, map, Option, Some, None, nat_eq, refl, sym, ◌∙◌, ap, subst, arith, if◌then◌else◌}
use Rattle.std.specs.Prelude.{Contains, slice_get, unwrap_or}
use Rattle.std.proofs.lemmas.Bool.{eq-eqb, eqb-true}
use Rattle.std.proofs.lemmas.Option.{none-some, same_Some, get_or_from_slice_get, slice_get-get_or}
use Rattle.jc_methods.specs.FrameOrder.{RiseFrom}
use Rattle.jc_methods.specs.VerificationTypes.{Names, type_state, AreNumberedFrames, IsNumberedState}
use Rattle.jc_bytes.specs.PlainLists.{map_from}
use Rattle.jc_methods.specs.WellMade.{AreFramesFrom, IsState, IsWellMadeOfAnySize}
use Rattle.jc_methods.specs.declared.body.Body.{Body}
use Rattle.jc_methods.specs.declared.body.FrameAt.{FrameAt}
use Rattle.jc_methods.specs.declared.insn.Insn.{Insn}
use Rattle.jc_methods.specs.declared.kind.State.{State}
use Rattle.jc_bytes.proofs.BooleanLaws.{none_in, which_in, first_in, later_in}
use Rattle.jc_class.specs.declared.class_file.ClassFile.{ClassFile}
use Rattle.jc_kinds.specs.Answers.{AreStates, IsStateAt}
use Rattle.jc_kinds.specs.Frames.{frame_in}
use Rattle.jc_kinds.specs.States.{state_of}
use Rattle.jc_plan.specs.Probed.{first_id}
use Rattle.jc_plan.proofs.PlanLaws.{mapped_at}
use Rattle.jc_emit.specs.Emission.{HasFrameStates}
use Rattle.jc_emit.specs.TwinFrames.{no_state, state_at}
use Rattle.jc_emit.proofs.StraddlingLaws.{frame_within}
use Rattle.jc_emit.proofs.TwinPremisesLaws.{frame_found, risen, frames_rise}
use Rattle.jc_emit.proofs.TwinStatesLaws.{frame_state_is}
use Rattle.jc_emit.proofs.PlanReadsLaws.{length_map_from}
use Rattle.jc_instrument.specs.Bodies.{AreBodies}
use Rattle.jc_instrument.specs.BodiesWithStates.{BodyWithStates, bodies_of, AreBodiesWithStates, IsBodyWithStates}
use Rattle.jc_instrument.proofs.WrittenAgainLaws.{from_at}
use Rattle.jc_instrument.proofs.ListedLaws.{body_at}

-- ---- the frame at an instruction

record IsFound (code : List Insn) (max_locals max_stack names : ℕ) (frames : List FrameAt) (i : ℕ) (t : State) : Type 0 where
  frame : FrameAt
  listed : Contains frames frame
  at : frame.at ≡ i
  state : frame.state ≡ t
  well_made : IsState code max_locals max_stack t
  numbered : IsNumberedState names t

found_in : (first : ℕ) (code : List Insn) (max_locals max_stack names : ℕ) (frames : List FrameAt) → AreFramesFrom first code max_locals max_stack frames
    → AreNumberedFrames names frames → (i : ℕ) (t : State) → frame_in frames i ≡ Some t → IsFound code max_locals max_stack names frames i t
found_in first code max_locals max_stack names [] are numbered i t is = absurd (none-some t is)
found_in first code max_locals max_stack names (g ∷ frames) are numbered i t is =
    by (nat_eq g.at i) refl is (λ later. found_in (g.at + 1) code max_locals max_stack names frames are.3 numbered.1 i t later)
  where
    by : (b : Bool) → nat_eq g.at i ≡ b → (if b then Some g.state else frame_in frames i) ≡ Some t
        → (frame_in frames i ≡ Some t → IsFound code max_locals max_stack names frames i t) → IsFound code max_locals max_stack names (g ∷ frames) i t
    by true same h more =
        let here = same_Some g.state t h in
        record {
          frame = g;
          listed = first_in g frames;
          at = eqb-true g.at i same;
          state = here;
          well_made = subst (IsState code max_locals max_stack) here are.2;
          numbered = subst (IsNumberedState names) here numbered.0;
        }
    by false other h more =
        let m = more h in
        record { frame = m.frame; listed = later_in g frames m.frame m.listed; at = m.at; state = m.state; well_made = m.well_made; numbered = m.numbered }

in_there : (first : ℕ) (frames : List FrameAt) (f : FrameAt) → RiseFrom first frames → Contains frames f → frame_in frames f.at ≡ Some f.state
in_there first [] f rises c = absurd (none_in f c)
in_there first (g ∷ frames) f rises c =
    ⊎_elim (λ same. here same) (λ later. behind (nat_eq g.at f.at) refl later (in_there (g.at + 1) frames f rises.1 later)) (which_in g frames f c)
  where
    here : g ≡ f → frame_in (g ∷ frames) f.at ≡ Some f.state
    here same =
        ap (λ (t : Bool). if t then Some g.state else frame_in frames f.at) (eq-eqb g.at f.at (ap (λ (x : FrameAt). x.at) same))
        ∙ ap (λ (x : FrameAt). Some x.state) same

    behind : (t : Bool) → nat_eq g.at f.at ≡ t → Contains frames f → frame_in frames f.at ≡ Some f.state
        → (if t then Some g.state else frame_in frames f.at) ≡ Some f.state
    behind false other later rest = rest
    behind true same later rest =
        let e = eqb-true g.at f.at same in let le = risen (g.at + 1) frames f rises.1 later in absurd (omega (arith, e, le))

-- ---- the states

abbrev framed : Body → ℕ → State → State
framed b i s = unwrap_or (frame_in b.frames i) s

abbrev pub framed_states : Body → List State → List State
framed_states b states = map_from (framed b) 0 states

module _ (names : Names) (b : Body) (states : List State) (made : IsWellMadeOfAnySize b) (numbered : AreNumberedFrames (length names) b.frames)
    (are : AreStates names b states) where
  rises : RiseFrom 0 b.frames
  rises = frames_rise 0 b.code b.max_locals b.max_stack b.frames made.frames

  one_framed : (i : ℕ) (x : State) → slice_get states i ≡ Some x → (o : Option State) → frame_in b.frames i ≡ o → IsStateAt names b i (unwrap_or o x)
  one_framed i x at None is = are.each i x at
  one_framed i x at (Some t) is =
      let f = found_in 0 b.code b.max_locals b.max_stack (length names) b.frames made.frames numbered i t is in
      record {
        is =
            ap (state_of names b) (sym f.at)
            ∙ frame_state_is names b f.frame.at (type_state names f.frame.state) (frame_found names 0 b.frames f.frame rises f.listed)
            ∙ ap (λ (s : State). Some (type_state names s)) f.state;
        numbered = f.numbered;
        well_made = f.well_made;
      }

  pub framed_are : AreStates names b (framed_states b states)
  framed_are = record {
    count = length_map_from (framed b) 0 states ∙ are.count;
    each = λ i s at.
        let old = from_at (framed b) 0 states i s at in
        let same : 0 + i ≡ i = omega arith in
        subst (IsStateAt names b i) (ap (λ (n : ℕ). framed b n old.0) (sym same) ∙ old.2) (one_framed i old.0 old.1 (frame_in b.frames i) refl);
  }

  pub framed_fit : HasFrameStates b (framed_states b states)
  framed_fit f c =
      let within = frame_within 0 b.code b.max_locals b.max_stack b.frames made.frames f c in
      let count = are.count in
      let at = mapped_at (framed b) 0 f.at states (state_at states f.at) (slice_get-get_or states f.at no_state (omega (arith, within, count))) in
      let same : 0 + f.at ≡ f.at = omega arith in
      get_or_from_slice_get (framed_states b states) f.at (framed b (0 + f.at) (state_at states f.at)) no_state at
      ∙ ap (λ (n : ℕ). framed b n (state_at states f.at)) same
      ∙ ap (λ (o : Option State). unwrap_or o (state_at states f.at)) (in_there 0 b.frames f rises c)

-- ---- works

abbrev pub framed_work : BodyWithStates → BodyWithStates
framed_work w = record { body = w.body; states = framed_states w.body w.states; first = w.first }

pub same_bodies : (works : List BodyWithStates) → bodies_of (map framed_work works) ≡ bodies_of works
same_bodies [] = refl
same_bodies (w ∷ works) = ap (λ (l : List Body). w.body ∷ l) (same_bodies works)

framed_at : (works : List BodyWithStates) (i : ℕ) (x : BodyWithStates) → slice_get (map framed_work works) i ≡ Some x → (w : BodyWithStates) × (slice_get works i ≡ Some w) × (framed_work w ≡ x)
framed_at [] i x at = absurd (none-some x at)
framed_at (w ∷ works) zero x at = (w, refl, same_Some (framed_work w) x at)
framed_at (w ∷ works) (suc i) x at = framed_at works i x at

module _ (names : Names) (array : ℕ) (c : ClassFile) (works : List BodyWithStates) (are : AreBodiesWithStates names array c works)
    (made : (i : ℕ) (b : Body) → slice_get (bodies_of works) i ≡ Some b → IsWellMadeOfAnySize b) where
  numbered_at : (i : ℕ) (w : BodyWithStates) → slice_get works i ≡ Some w → AreNumberedFrames (length names) w.body.frames
  numbered_at i w at = (are.bodies.each i w.body (body_at works i w at)).is.parts.numbers

  pub works_are : AreBodiesWithStates names array c (map framed_work works)
  works_are = record {
    bodies = subst (AreBodies names c) (sym (same_bodies works)) are.bodies;
    array_is = are.array_is;
    each = λ i x at.
        let w = framed_at works i x at in
        let old = are.each i w.0 w.1 in
        subst (IsBodyWithStates names (bodies_of (map framed_work works)) i) w.2 (record {
          first = old.first ∙ ap (λ (l : List Body). first_id l i) (sym (same_bodies works));
          states = framed_are names w.0.body w.0.states (made i w.0.body (body_at works i w.0 w.1)) (numbered_at i w.0 w.1) old.states;
        });
  }

  pub works_fit : (i : ℕ) (x : BodyWithStates) → slice_get (map framed_work works) i ≡ Some x → HasFrameStates x.body x.states
  works_fit i x at =
      let w = framed_at works i x at in
      subst (λ (y : BodyWithStates). HasFrameStates y.body y.states) w.2
      (framed_fit names w.0.body w.0.states (made i w.0.body (body_at works i w.0 w.1)) (numbered_at i w.0 w.1) (are.each i w.0 w.1).states)
