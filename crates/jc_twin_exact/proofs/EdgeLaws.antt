-- The edges of one turn: where they begin, and where the thread stands behind them.
use Rattle.std.proofs.Common.{◌≡◌, ◌⊎◌, inl, inr, ⊎_elim, ℕ, Bool, true, false, List, [], ◌∷◌, Option, Some, None, refl, sym, ap, ◌∙◌, subst, if◌then◌else◌}
use Rattle.std.specs.Prelude.{slice_get, Contains}
use Rattle.std.proofs.lemmas.Option.{none-some}
use Rattle.jc_bytes.proofs.BooleanLaws.{first_in, later_in, which_in, none_in}
use Rattle.jc_bytes.proofs.FirstSeenLaws.{contains_one}
use Rattle.jc_methods.specs.Flow.{flow_of}
use Rattle.jc_methods.specs.declared.insn.Insn.{Insn}
use Rattle.jc_methods.specs.declared.insn.Flow.{Flow}
use Rattle.jc_methods.specs.declared.insn.Flow.TheVariants as flows
use Rattle.jc_methods.specs.declared.body.Body.{Body}
use Rattle.jc_programs.specs.declared.program.Program.{Program}
use Rattle.jc_programs.specs.declared.run_end.Entry.{Entry}
use Rattle.jc_plan.specs.declared.branch.Branch.{Branch}
use Rattle.jc_plan.specs.Edges.{sequence, exit, branches}
use Rattle.jc_plan.specs.Leading.{LeadsTo}
use Rattle.jc_plan.specs.Chosen.{Outcome, one_way, chosen_by, chosen, onward_by, onward}
use Rattle.jc_plan.specs.ClassEdges.{ProgramEdge}
use Rattle.jc_plan.proofs.ChosenLaws.{chosen_listed, chosen_leads}
use Rattle.jc_machine_model.specs.Values.{Value}
use Rattle.jc_machine_model.specs.World.{Frame, Thread, running, Shared}
use Rattle.jc_machine_model.specs.Results.{Result, goes, hits, calls, leaves, raises, throws, gets_stuck}
use Rattle.jc_machine_model.specs.Perform.{perform}
use Rattle.jc_machine_model.specs.Step.{LocatedInsn, located, operation_at, result_of}
use Rattle.jc_machine_model.specs.Taken.{outcome_of, edge_of, edges_of, is_throw, call_edges, edges_by, edges_at, thread_edges}
use Rattle.jc_twin_exact.proofs.TurnedLaws.{chosen_there, sequence_listed, Turned}
use Rattle.jc_twin_exact.proofs.GoodLaws.{IsOther, HasNoInit, IsAtCall, AreGoodWaits}

-- ---- throws

-- what leads on is no throw
onward_no_throw : (i : ℕ) (insn : Insn) (outcome : Outcome) (q : ℕ) → onward i insn outcome ≡ Some q → is_throw insn ≡ false
onward_no_throw i insn outcome q e = by (flow_of insn) e
  where
    by : (flow : Flow) → onward_by flow i insn outcome ≡ Some q → (elim flow [ flows.Throws ↦ true | other ↦ false ]) ≡ false
    by flows.GoesOn e = refl
    by flows.Branches e = refl
    by flows.Jumps e = refl
    by flows.Switches e = refl
    by flows.Returns e = refl
    by flows.Throws e = absurd (none-some q e)

pub throw_is : (insn : Insn) (flow : Flow) → flow_of insn ≡ flow → is_throw insn ≡ (elim flow [ flows.Throws ↦ true | other ↦ false ])
throw_is insn flow e = ap (λ (w : Flow). elim w [ flows.Throws ↦ true | other ↦ false ]) e

-- ---- edges at frames

-- an edge of the program at the instruction at which the frame stands
pub record IsEdgeAt (p : Program) (f : Frame) (e : ProgramEdge) : Type 0 where
  pub branch : Branch
  pub is : e ≡ edge_of f.method branch
  pub at : branch.at ≡ f.place
  pub insn : LocatedInsn
  pub here : located p f.method f.place ≡ Some insn
  pub listed : (b : Body) → slice_get b.code f.place ≡ Some insn.insn → Contains (branches b.code) branch

module _ (p : Program) where
  -- the exit of a return or athrow
  pub exit_at : (f : Frame) (i : LocatedInsn) → located p f.method f.place ≡ Some i → (flow_of i.insn ≡ flows.Returns) ⊎ (flow_of i.insn ≡ flows.Throws)
      → IsEdgeAt p f (edge_of f.method (exit f.place))
  exit_at f i e flow = record {
    branch = exit f.place;
    is = refl;
    at = refl;
    insn = i;
    here = e;
    listed = λ b h. chosen_listed b f.place i.insn one_way (exit f.place) h
        (⊎_elim (λ w. ap (λ x. chosen_by x f.place i.insn one_way) w) (λ w. ap (λ x. chosen_by x f.place i.insn one_way) w) flow);
  }

  -- the sequence of a call
  pub call_at : (f : Frame) → IsAtCall p f → IsEdgeAt p f (edge_of f.method (sequence f.place))
  call_at f c = record {
    branch = sequence f.place;
    is = refl;
    at = refl;
    insn = c.insn;
    here = c.here;
    listed = λ b h. sequence_listed b f.place c.insn.insn h c.flow;
  }

  pub chosen_at : (f : Frame) (i : LocatedInsn) (outcome : Outcome) (x : Branch) → located p f.method f.place ≡ Some i → chosen f.place i.insn outcome ≡ Some x
      → IsEdgeAt p f (edge_of f.method x)
  chosen_at f i outcome x e h = record {
    branch = x;
    is = refl;
    at = (chosen_leads f.place i.insn outcome x h).0;
    insn = i;
    here = e;
    listed = λ b k. chosen_listed b f.place i.insn outcome x k h;
  }

module _ (p : Program) (no_init : HasNoInit p) (s : Shared) (f : Frame) (fs : List Frame) (i : LocatedInsn) (here : located p f.method f.place ≡ Some i) where
  abbrev pub Edges : List ProgramEdge
  Edges = thread_edges p s (Some (running f fs))

  edges_are : Edges ≡ (if is_throw i.insn then edge_of f.method (exit f.place) ∷ [] else edges_by i.insn (result_of p s f) f fs)
  edges_are =
      ap (edges_at p s f fs) here
      ∙ ap (λ o. if is_throw i.insn then edge_of f.method (exit f.place) ∷ [] else edges_by i.insn (perform (operation_at p o) s f) f fs) (sym here)

  -- an instruction that is no athrow
  edges_of_result : (r : Result) → result_of p s f ≡ r → is_throw i.insn ≡ false → Edges ≡ edges_by i.insn r f fs
  edges_of_result r e h =
      edges_are ∙ ap (λ (b : Bool). if b then edge_of f.method (exit f.place) ∷ [] else edges_by i.insn (result_of p s f) f fs) h
      ∙ ap (λ x. edges_by i.insn x f fs) e

  edges_of_throw : flow_of i.insn ≡ flows.Throws → Edges ≡ edge_of f.method (exit f.place) ∷ []
  edges_of_throw e =
      edges_are
      ∙ ap (λ (b : Bool). if b then edge_of f.method (exit f.place) ∷ [] else edges_by i.insn (result_of p s f) f fs) (throw_is i.insn flows.Throws e)

  -- ---- by the result

  pub record Went (s' : Shared) (g : Frame) : Type 0 where
    pub branch : Branch
    pub chosen_is : chosen f.place i.insn (outcome_of i.insn f.stack) ≡ Some branch
    pub edges : Edges ≡ edge_of f.method branch ∷ []
    pub leads : LeadsTo branch g.place
    pub method : g.method ≡ f.method

  pub went : (s' : Shared) (g : Frame) → result_of p s f ≡ goes s' g → Turned IsOther i.insn s f (goes s' g) → Went s' g
  went s' g e t =
      let c = chosen_there f.place i.insn (outcome_of i.insn f.stack) g.place t.onward in
      record {
        branch = c.0;
        chosen_is = c.1;
        edges = edges_of_result (goes s' g) e (onward_no_throw f.place i.insn (outcome_of i.insn f.stack) g.place t.onward) ∙ ap (edges_of f.method) c.1;
        leads = c.3;
        method = t.method;
      }

  pub called : (callee : Entry) (locals : List (Option Value)) (g : Frame) → result_of p s f ≡ calls callee locals g
      → Turned IsOther i.insn s f (calls callee locals g) → Edges ≡ []
  called callee locals g e t = edges_of_result (calls callee locals g) e (throw_is i.insn flows.GoesOn t.flow)

  pub came_back : (v : Option Value) → result_of p s f ≡ leaves v → flow_of i.insn ≡ flows.Returns → Edges ≡ edge_of f.method (exit f.place) ∷ call_edges fs
  came_back v e flow = edges_of_result (leaves v) e (throw_is i.insn flows.Returns flow)

  -- a turn that raises, or is stuck
  pub data Stopped : Type 0 where
    at_throw : flow_of i.insn ≡ flows.Throws → Edges ≡ edge_of f.method (exit f.place) ∷ [] → Stopped
    elsewhere : (flow_of i.insn ≡ flows.Throws → ⊥) → Edges ≡ [] → Stopped

  pub stopped : (r : Result) → result_of p s f ≡ r → edges_by i.insn r f fs ≡ [] → Stopped
  stopped r e none = by (flow_of i.insn) refl
    where
      by : (flow : Flow) → flow_of i.insn ≡ flow → Stopped
      by flows.Throws h = at_throw h (edges_of_throw h)
      by flows.GoesOn h = elsewhere (λ k. let no = sym h ∙ k in cc) (edges_of_result r e (throw_is i.insn flows.GoesOn h) ∙ none)
      by flows.Branches h = elsewhere (λ k. let no = sym h ∙ k in cc) (edges_of_result r e (throw_is i.insn flows.Branches h) ∙ none)
      by flows.Jumps h = elsewhere (λ k. let no = sym h ∙ k in cc) (edges_of_result r e (throw_is i.insn flows.Jumps h) ∙ none)
      by flows.Switches h = elsewhere (λ k. let no = sym h ∙ k in cc) (edges_of_result r e (throw_is i.insn flows.Switches h) ∙ none)
      by flows.Returns h = elsewhere (λ k. let no = sym h ∙ k in cc) (edges_of_result r e (throw_is i.insn flows.Returns h) ∙ none)

  -- ---- where they begin

  -- the frame of an edge among these
  pub record IsOfFrames (frames : List Frame) (e : ProgramEdge) : Type 0 where
    pub frame : Frame
    pub among : Contains frames frame
    pub edge : IsEdgeAt p frame e

  one_of : (x : Branch) (l : List ProgramEdge) → l ≡ edge_of f.method x ∷ [] → IsEdgeAt p f (edge_of f.method x) → (e : ProgramEdge) → Contains l e
      → IsOfFrames (f ∷ fs) e
  one_of x l h a e c =
      record { frame = f; among = first_in f fs; edge = subst (IsEdgeAt p f) (contains_one (edge_of f.method x) e (subst (λ k. Contains k e) h c)) a }

  none_of : (l : List ProgramEdge) → l ≡ [] → (e : ProgramEdge) → Contains l e → IsOfFrames (f ∷ fs) e
  none_of l h e c = absurd (none_in e (subst (λ k. Contains k e) h c))

  stopped_of : Stopped → (e : ProgramEdge) → Contains Edges e → IsOfFrames (f ∷ fs) e
  stopped_of (at_throw h k) e c = one_of (exit f.place) Edges k (exit_at p f i here (inr h)) e c
  stopped_of (elsewhere h k) e c = none_of Edges k e c

  calls_of : (gs : List Frame) → AreGoodWaits p gs → (e : ProgramEdge) → Contains (call_edges gs) e → IsOfFrames (f ∷ gs) e
  calls_of [] w e c = absurd (none_in e c)
  calls_of (g ∷ gs) w e c =
      record {
        frame = g;
        among = later_in f (g ∷ gs) g (first_in g gs);
        edge = subst (IsEdgeAt p g) (contains_one (edge_of g.method (sequence g.place)) e c) (call_at p g w.0.call);
      }

  pub edges_among : AreGoodWaits p fs → (r : Result) → result_of p s f ≡ r → Turned IsOther i.insn s f r → (e : ProgramEdge) → Contains Edges e
      → IsOfFrames (f ∷ fs) e
  edges_among w (goes s' g) h t e c =
      let m = went s' g h t in one_of m.branch Edges m.edges (chosen_at p f i (outcome_of i.insn f.stack) m.branch here m.chosen_is) e c
  edges_among w (hits class id g) h t e c = absurd t.1
  edges_among w (calls callee locals g) h t e c = none_of Edges (called callee locals g h t) e c
  edges_among w (leaves v) h t e c =
      ⊎_elim
      (λ same. record { frame = f; among = first_in f fs; edge = subst (IsEdgeAt p f) same (exit_at p f i here (inl t.1)) })
      (λ more. calls_of fs w e more)
      (which_in (edge_of f.method (exit f.place)) (call_edges fs) e (subst (λ k. Contains k e) (came_back v h t.1) c))
  edges_among w (raises d) h t e c = stopped_of (stopped (raises d) h refl) e c
  edges_among w (throws d v) h t e c = stopped_of (stopped (throws d v) h refl) e c
  edges_among w gets_stuck h t e c = stopped_of (stopped gets_stuck h refl) e c

-- ---- threads

-- the frames of a thread
abbrev pub frames_in : Thread → List Frame
frames_in (running f waiting) = f ∷ waiting
frames_in _ = []

-- where nothing is executed no edge is taken
pub no_edges : (p : Program) (s : Shared) (f : Frame) (fs : List Frame) → located p f.method f.place ≡ None → thread_edges p s (Some (running f fs)) ≡ []
no_edges p s f fs e = ap (edges_at p s f fs) e
