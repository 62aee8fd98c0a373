-- Something came to each instruction that has a turn: it is the first one, a handler, or an edge that was taken leads there.
use Rattle.std.proofs.Common.{◌≡◌, ◌⊎◌, inl, inr, ⊎_elim, ℕ, ◌+◌, Bool, true, false, List, [], ◌∷◌, Option, Some, None, refl, sym, ap, ◌∙◌, subst, if◌then◌else◌}
use Rattle.std.specs.Prelude.{⊤, slice_get, Contains, option_and_then}
use Rattle.std.specs.List.{AllByRecursion, flat_map}
use Rattle.std.proofs.lemmas.List.Elements.{Contains-append_left, Contains-append_right, Contains-append_cases}
use Rattle.std.proofs.lemmas.Option.{same_Some}
use Rattle.jc_bytes.proofs.BooleanLaws.{first_in, later_in, none_in}
use Rattle.jc_bytes.proofs.FirstSeenLaws.{contains_one}
use Rattle.jc_bytes.proofs.ListLaws.{flat_cases, found_in, each_in, all_at}
use Rattle.jc_methods.specs.Flow.{flow_of}
use Rattle.jc_methods.specs.declared.insn.Flow.{Flow}
use Rattle.jc_methods.specs.declared.insn.Flow.TheVariants as flows
use Rattle.jc_methods.specs.declared.body.Body.{Body}
use Rattle.jc_methods.specs.declared.body.Handler.{Handler}
use Rattle.jc_programs.specs.declared.program.Program.{Program}
use Rattle.jc_programs.specs.declared.program.Linked.{Linked}
use Rattle.jc_programs.specs.declared.run_end.Entry.{Entry}
use Rattle.jc_programs.specs.declared.run_end.Thrown.{Thrown}
use Rattle.jc_plan.specs.declared.branch.Branch.{Branch}
use Rattle.jc_plan.specs.Edges.{sequence, exit, branches}
use Rattle.jc_plan.specs.Leading.{LeadsTo}
use Rattle.jc_plan.specs.Chosen.{one_way, chosen}
use Rattle.jc_plan.specs.ClassEdges.{ProgramEdge, IsProgramEdge}
use Rattle.jc_cover.specs.Followed.{CameTo, began, caught as came_caught, led}
use Rattle.jc_machine_model.specs.Values.{Value}
use Rattle.jc_machine_model.specs.World.{Frame, Thread, running, returned, threw, stuck, Shared, World}
use Rattle.jc_machine_model.specs.Results.{Result, goes, hits, calls, leaves, raises, throws, gets_stuck}
use Rattle.jc_machine_model.specs.Step.{LocatedInsn, located, result_of, handler_in, handler_of, caught, unwound, overflows, new_frame, given_back, left, After, after, after_result, turn_of, step_of, step}
use Rattle.jc_machine_model.specs.Run.{run_from}
use Rattle.jc_machine_model.specs.Taken.{edge_of, edges_of, call_edges, thread_edges, turn_edges, taken_from, one_edge, edge_stood, edges_stood, reached_from}
use Rattle.jc_twin_simulation.proofs.FrameLaws.{body_is}
use Rattle.jc_twin_exact.proofs.ValueLaws.{InStatics, set_each}
use Rattle.jc_twin_exact.proofs.ResultLaws.{InFrame}
use Rattle.jc_twin_exact.proofs.TurnedLaws.{Turned, stands}
use Rattle.jc_twin_exact.proofs.GoodLaws.{IsOther, HasNoInit, turned_here, nowhere, IsAtCall, AreGoodWaits, IsGood, IsGoodWorld, step_good}
use Rattle.jc_twin_exact.proofs.EdgeLaws.{IsEdgeAt, chosen_at, call_at, went, came_back, edges_among, no_edges}

-- ---- lists

-- ---- bodies

-- the instruction at a place of a method that is there
pub insn_there : (p : Program) (m : Entry) (q : ℕ) (i : LocatedInsn) → located p m q ≡ Some i → (c : Linked) (b : Body) → slice_get p.classes m.class ≡ Some c
    → slice_get c.bodies m.method ≡ Some b → slice_get b.code q ≡ Some i.insn
insn_there p m q i e c b h k =
    let st = stands p m q i e in
    let class : st.class ≡ c = same_Some st.class c (sym st.class_is ∙ h) in
    let body : st.body ≡ b = same_Some st.body b (sym st.body_is ∙ ap (λ (x : Linked). slice_get x.bodies m.method) class ∙ k) in
    ap (λ (x : Body). slice_get x.code q) (sym body) ∙ st.insn_is

-- `Took` are edges that were taken
module _ (p : Program) (no_init : HasNoInit p) (Took : ProgramEdge → Type 0) where
  abbrev pub CameAt : Entry → ℕ → Type 0
  CameAt m q = (c : Linked) (b : Body) → slice_get p.classes m.class ≡ Some c → slice_get c.bodies m.method ≡ Some b
      → CameTo b (λ x. Took (edge_of m x)) q

  abbrev pub FrameCame : Frame → Type 0
  FrameCame f = CameAt f.method f.place

  abbrev pub ThreadCame : Thread → Type 0
  ThreadCame (running f fs) = FrameCame f × AllByRecursion FrameCame fs
  ThreadCame (stuck m q) = CameAt m q
  ThreadCame _ = ⊤

  abbrev pub WorldCame : World → Type 0
  WorldCame w = AllByRecursion ThreadCame w.threads

  -- ---- one turn

  led_to : (f : Frame) (x : Branch) (q : ℕ) → IsEdgeAt p f (edge_of f.method x) → LeadsTo x q → Took (edge_of f.method x) → CameAt f.method q
  led_to f x q at leads took c b h k =
      let same : x ≡ at.branch = ap (λ (e : ProgramEdge). e.branch) at.is in
      led x (subst (Contains (branches b.code)) (sym same) (at.listed b (insn_there p f.method f.place at.insn at.here c b h k))) leads took

  back_came : (v : Option Value) (f : Frame) → IsAtCall p f → Took (edge_of f.method (sequence f.place)) → FrameCame (given_back v f)
  back_came None f call took = led_to f (sequence f.place) (f.place + 1) (call_at p f call) refl took
  back_came (Some v) f call took = led_to f (sequence f.place) (f.place + 1) (call_at p f call) refl took

  left_came : (v : Option Value) (fs : List Frame) → AreGoodWaits p fs → AllByRecursion FrameCame fs
      → ((e : ProgramEdge) → Contains (call_edges fs) e → Took e) → ThreadCame (left v fs)
  left_came v [] w h took = tt
  left_came v (f ∷ fs) w h took = (back_came v f w.0.call (took (edge_of f.method (sequence f.place)) (first_in (edge_of f.method (sequence f.place)) [])), h.1)

  caught_came : (c : Thrown) (v : Value) (f : Frame) (fs : List Frame) (x : Thread) → AllByRecursion FrameCame fs → ThreadCame x
      → (o : Option Handler) → handler_of p c f ≡ o → ThreadCame (caught o v f fs x)
  caught_came c v f fs x h k None e = k
  caught_came c v f fs x h k (Some row) e = (
    λ d b g j.
        let found : handler_in f.place c b ≡ Some row =
        sym (ap (option_and_then (handler_in f.place c)) (body_is p f.method d b g j)) ∙ e in
        came_caught row (found_in _ b.handlers row found) refl,
    h,
  )

  unwound_came : (c : Thrown) (v : Value) (fs : List Frame) → AllByRecursion FrameCame fs → ThreadCame (unwound p c v fs)
  unwound_came c v [] h = tt
  unwound_came c v (f ∷ fs) h = caught_came c v f fs (unwound p c v fs) h.1 (unwound_came c v fs h.1) (handler_of p c f) refl

  module _ (s : Shared) (f : Frame) (fs : List Frame) (statics : InStatics IsOther s.statics) (values : InFrame IsOther f) (waits : AreGoodWaits p fs)
      (came : FrameCame f) (others : AllByRecursion FrameCame fs) (took : (e : ProgramEdge) → Contains (thread_edges p s (Some (running f fs))) e → Took e) where
    if_came : (b : Bool) (x y : After) → ThreadCame x.thread → ThreadCame y.thread → ThreadCame (if b then x else y).thread
    if_came true x y h g = h
    if_came false x y h g = g

    result_came : (i : LocatedInsn) → located p f.method f.place ≡ Some i → (r : Result) → result_of p s f ≡ r → Turned IsOther i.insn s f r
        → ThreadCame (after_result p r s f fs).thread
    result_came i e (goes s' g) h t =
        let w = went p no_init s f fs i e s' g h t in (
          subst (λ m. CameAt m g.place) (sym w.method)
              (led_to f w.branch g.place (chosen_at p f i _ w.branch e w.chosen_is) w.leads
              (took (edge_of f.method w.branch) (subst (λ l. Contains l (edge_of f.method w.branch)) (sym w.edges) (first_in (edge_of f.method w.branch) [])))),
          others,
        )
    result_came i e (hits class id g) h t = absurd t.1
    result_came i e (calls callee locals g) h t =
        if_came (overflows p callee (f ∷ fs)) _ (after (running (new_frame callee locals) (g ∷ fs)) s) (unwound_came _ _ (f ∷ fs) (came, others)) (
          λ c b j k. began refl,
          (subst (λ m. CameAt m g.place) (sym t.method) (subst (CameAt f.method) (sym t.place) came), others),
        )
    result_came i e (leaves v) h t =
        left_came v fs waits others
        (λ x c. took x (subst (λ l. Contains l x) (sym (came_back p no_init s f fs i e v h t.1)) (later_in (edge_of f.method (exit f.place)) (call_edges fs) x c)))
    result_came i e (raises c) h t = unwound_came _ _ (f ∷ fs) (came, others)
    result_came i e (throws c v) h t = unwound_came c v (f ∷ fs) (came, others)
    result_came i e gets_stuck h t = came

    running_came : (o : Option LocatedInsn) → located p f.method f.place ≡ o → ThreadCame (after_result p (result_of p s f) s f fs).thread
    running_came None e = subst (λ r. ThreadCame (after_result p r s f fs).thread) (sym (nowhere p no_init s f e)) came
    running_came (Some i) e = result_came i e (result_of p s f) refl (turned_here p no_init s f i e values statics)

  turn_came : (s : Shared) (x : Thread) → InStatics IsOther s.statics → IsGood p x → ThreadCame x
      → ((e : ProgramEdge) → Contains (thread_edges p s (Some x)) e → Took e) → ThreadCame (turn_of p s x).thread
  turn_came s (running f fs) h g c took = running_came s f fs h g.0 g.1 c.0 c.1 took (located p f.method f.place) refl
  turn_came s (returned v) h g c took = tt
  turn_came s (threw x) h g c took = tt
  turn_came s (stuck m q) h g c took = c

  step_came_by : (w : World) (t : ℕ) → IsGoodWorld p w → WorldCame w → (o : Option Thread) → slice_get w.threads t ≡ o
      → ((e : ProgramEdge) → Contains (thread_edges p w.shared o) e → Took e) → WorldCame (step_of p w t o)
  step_came_by w t g c None e took = c
  step_came_by w t g c (Some x) e took =
      set_each IsOther ThreadCame w.threads t (turn_of p w.shared x).thread c
      (turn_came w.shared x g.statics (all_at (IsGood p) w.threads t x g.threads e) (all_at ThreadCame w.threads t x c e) took)

  step_came : (w : World) (t : ℕ) → IsGoodWorld p w → WorldCame w → ((e : ProgramEdge) → Contains (turn_edges p w t) e → Took e) → WorldCame (step p w t)
  unfolding step
  step_came w t g c took = step_came_by w t g c (slice_get w.threads t) refl took

  pub run_came : (turns : List ℕ) (w : World) → IsGoodWorld p w → WorldCame w → ((e : ProgramEdge) → Contains (taken_from p w turns) e → Took e)
      → WorldCame (run_from p w turns)
  run_came [] w g c took = c
  run_came (t ∷ turns) w g c took =
      run_came turns (step p w t) (step_good p no_init w t g)
      (step_came w t g c (λ e h. took e (Contains-append_left (turn_edges p w t) (taken_from p (step p w t) turns) e h)))
      (λ e h. took e (Contains-append_right (turn_edges p w t) (taken_from p (step p w t) turns) e h))

  -- ---- edges

  -- an edge of the program, to whose instruction something came
  pub record EdgeCame (e : ProgramEdge) : Type 0 where
    pub edge : IsProgramEdge p e
    pub came : (c : Linked) (b : Body) → slice_get p.classes e.class ≡ Some c → slice_get c.bodies e.body ≡ Some b
        → CameTo b (λ x. Took (record { class = e.class; body = e.body; branch = x })) e.branch.at

  at_came : (f : Frame) (e : ProgramEdge) → IsEdgeAt p f e → FrameCame f → EdgeCame e
  at_came f e at came =
      let st = stands p f.method f.place at.insn at.here in
      subst EdgeCame (sym at.is)
      (record {
        edge = record { class = st.class; stands = st.class_is; edge = record { body = st.body; stands = st.body_is; listed = at.listed st.body st.insn_is } };
        came = λ c b h k. subst (CameTo b (λ x. Took (edge_of f.method x))) (sym at.at) (came c b h k);
      })

  frames_came : (s : Shared) (f : Frame) (fs : List Frame) → InStatics IsOther s.statics → InFrame IsOther f → AreGoodWaits p fs
      → FrameCame f × AllByRecursion FrameCame fs → (o : Option LocatedInsn) → located p f.method f.place ≡ o
      → (e : ProgramEdge) → Contains (thread_edges p s (Some (running f fs))) e → EdgeCame e
  frames_came s f fs h v w c None l e i = absurd (none_in e (subst (λ k. Contains k e) (no_edges p s f fs l) i))
  frames_came s f fs h v w c (Some a) l e i =
      let o = edges_among p no_init s f fs a l w (result_of p s f) refl (turned_here p no_init s f a l v h) e i in
      at_came o.frame e o.edge (each_in FrameCame (f ∷ fs) o.frame c o.among)

  thread_edge_came : (s : Shared) (x : Thread) → InStatics IsOther s.statics → IsGood p x → ThreadCame x → (e : ProgramEdge)
      → Contains (thread_edges p s (Some x)) e → EdgeCame e
  thread_edge_came s (running f fs) h g c e i = frames_came s f fs h g.0 g.1 c (located p f.method f.place) refl e i
  thread_edge_came s other h g c e i = absurd (none_in e i)

  turn_edge_came : (w : World) (t : ℕ) → IsGoodWorld p w → WorldCame w → (e : ProgramEdge) → Contains (turn_edges p w t) e → EdgeCame e
  turn_edge_came w t g c e i = by (slice_get w.threads t) refl i
    where
      by : (o : Option Thread) → slice_get w.threads t ≡ o → Contains (thread_edges p w.shared o) e → EdgeCame e
      by None l i = absurd (none_in e i)
      by (Some x) l i =
          thread_edge_came w.shared x g.statics (all_at (IsGood p) w.threads t x g.threads l) (all_at ThreadCame w.threads t x c l) e i

  -- each edge that is taken
  pub taken_came : (turns : List ℕ) (w : World) → IsGoodWorld p w → WorldCame w → ((e : ProgramEdge) → Contains (taken_from p w turns) e → Took e)
      → (e : ProgramEdge) → Contains (taken_from p w turns) e → EdgeCame e
  taken_came [] w g c took e i = absurd (none_in e i)
  taken_came (t ∷ turns) w g c took e i =
      ⊎_elim
      (λ now. turn_edge_came w t g c e now)
      (λ later. taken_came turns (step p w t) (step_good p no_init w t g)
      (step_came w t g c (λ d h. took d (Contains-append_left (turn_edges p w t) (taken_from p (step p w t) turns) d h)))
      (λ d h. took d (Contains-append_right (turn_edges p w t) (taken_from p (step p w t) turns) d h)) e later)
      (Contains-append_cases (turn_edges p w t) (taken_from p (step p w t) turns) e i)

  -- ---- where threads stand

  abbrev frame_at : Entry → ℕ → Frame
  frame_at m q = record { method = m; place = q; locals = []; stack = [] }

  stood_at : (m : Entry) (q : ℕ) (e : ProgramEdge) → Contains (edge_stood m q (located p m q)) e → IsEdgeAt p (frame_at m q) e
  stood_at m q e c = by (located p m q) refl c
    where
      by_branch : (i : LocatedInsn) → located p m q ≡ Some i → (o : Option Branch) → chosen q i.insn one_way ≡ o → Contains (edges_of m o) e
          → IsEdgeAt p (frame_at m q) e
      by_branch i l None h c = absurd (none_in e c)
      by_branch i l (Some x) h c = subst (IsEdgeAt p (frame_at m q)) (contains_one (edge_of m x) e c) (chosen_at p (frame_at m q) i one_way x l h)

      by_flow : (i : LocatedInsn) → located p m q ≡ Some i → (flow : Flow) → Contains (one_edge m q i.insn flow) e → IsEdgeAt p (frame_at m q) e
      by_flow i l flows.Jumps c = by_branch i l (chosen q i.insn one_way) refl c
      by_flow i l flows.Returns c = by_branch i l (chosen q i.insn one_way) refl c
      by_flow i l flows.Throws c = by_branch i l (chosen q i.insn one_way) refl c
      by_flow i l other c = absurd (none_in e c)

      by : (o : Option LocatedInsn) → located p m q ≡ o → Contains (edge_stood m q o) e → IsEdgeAt p (frame_at m q) e
      by None l c = absurd (none_in e c)
      by (Some i) l c = by_flow i l (flow_of i.insn) c

  thread_stood : (x : Thread) → ThreadCame x → (e : ProgramEdge) → Contains (edges_stood p x) e → EdgeCame e
  thread_stood (running f fs) c e i = at_came (frame_at f.method f.place) e (stood_at f.method f.place e i) c.0
  thread_stood (returned v) c e i = absurd (none_in e i)
  thread_stood (threw x) c e i = absurd (none_in e i)
  thread_stood (stuck m q) c e i = at_came (frame_at m q) e (stood_at m q e i) c

  pub stood_came : (w : World) → WorldCame w → (e : ProgramEdge) → Contains (flat_map (edges_stood p) w.threads) e → EdgeCame e
  stood_came w c e i =
      let f = flat_cases (edges_stood p) w.threads e i in thread_stood f.0 (each_in ThreadCame w.threads f.0 c f.1) e f.2

-- ---- reached edges

module _ (p : Program) where
  pub reached_parts : (turns : List ℕ) (w : World) (e : ProgramEdge) → Contains (reached_from p w turns) e
      → Contains (taken_from p w turns) e ⊎ Contains (flat_map (edges_stood p) (run_from p w turns).threads) e
  reached_parts [] w e c = inr c
  reached_parts (t ∷ turns) w e c =
      ⊎_elim
      (λ now. inl (Contains-append_left (turn_edges p w t) (taken_from p (step p w t) turns) e now))
      (λ later. ⊎_elim (λ took. inl (Contains-append_right (turn_edges p w t) (taken_from p (step p w t) turns) e took)) (λ stood. inr stood)
      (reached_parts turns (step p w t) e later))
      (Contains-append_cases (turn_edges p w t) (reached_from p (step p w t) turns) e c)

  pub taken_reached : (turns : List ℕ) (w : World) (e : ProgramEdge) → Contains (taken_from p w turns) e → Contains (reached_from p w turns) e
  taken_reached [] w e c = absurd (none_in e c)
  taken_reached (t ∷ turns) w e c =
      ⊎_elim
      (λ now. Contains-append_left (turn_edges p w t) (reached_from p (step p w t) turns) e now)
      (λ later. Contains-append_right (turn_edges p w t) (reached_from p (step p w t) turns) e (taken_reached turns (step p w t) e later))
      (Contains-append_cases (turn_edges p w t) (taken_from p (step p w t) turns) e c)

  pub stood_reached : (turns : List ℕ) (w : World) (e : ProgramEdge) → Contains (flat_map (edges_stood p) (run_from p w turns).threads) e
      → Contains (reached_from p w turns) e
  stood_reached [] w e c = c
  stood_reached (t ∷ turns) w e c = Contains-append_right (turn_edges p w t) (reached_from p (step p w t) turns) e (stood_reached turns (step p w t) e c)
