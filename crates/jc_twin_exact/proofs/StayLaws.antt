-- In a run in which each thread returns and nothing is raised, each instruction at which a frame stands takes an edge.
use Rattle.std.proofs.Common.{◌≡◌, ◌⊎◌, inl, inr, ⊎_elim, ℕ, ◌<◌, Bool, true, false, List, [], ◌∷◌, length, Option, Some, None, nat_eq, refl, sym, ap, ◌∙◌, subst, arith, if◌then◌else◌}
use Rattle.std.specs.Prelude.{slice_get, Contains}
use Rattle.std.proofs.lemmas.Bool.{true≢false, eqb-true, eqb-false}
use Rattle.std.proofs.lemmas.List.Elements.{Contains-append_left, Contains-append_right, Contains-append_cases}
use Rattle.jc_bytes.proofs.BooleanLaws.{first_in, later_in, which_in, none_in}
use Rattle.jc_bytes.proofs.FirstSeenLaws.{contains_one}
use Rattle.jc_bytes.proofs.ListLaws.{all_at}
use Rattle.jc_programs.specs.declared.program.Program.{Program}
use Rattle.jc_programs.specs.declared.run_end.Entry.{Entry}
use Rattle.jc_plan.specs.declared.branch.Branch.{Branch}
use Rattle.jc_plan.specs.declared.branch.Way.TheVariants.{Exits}
use Rattle.jc_plan.specs.Edges.{sequence, exit}
use Rattle.jc_plan.specs.Leading.{LeadsTo}
use Rattle.jc_plan.specs.ClassEdges.{ProgramEdge}
use Rattle.jc_plan.proofs.ChosenLaws.{chosen_leads}
use Rattle.jc_machine_model.specs.Values.{Value}
use Rattle.jc_machine_model.specs.World.{Frame, Thread, running, returned, threw, stuck, Shared, World}
use Rattle.jc_machine_model.specs.Results.{Result, goes, hits, calls, leaves, raises, throws, gets_stuck}
use Rattle.jc_machine_model.specs.Step.{LocatedInsn, located, result_of, overflows, new_frame, given_back, left, After, after, after_result, turn_of, step_of, step}
use Rattle.jc_machine_model.specs.Run.{run_from}
use Rattle.jc_machine_model.specs.Taken.{edge_of, call_edges, thread_edges, turn_edges, taken_from}
use Rattle.jc_twin_simulation.proofs.RunLaws.{step_at, step_other}
use Rattle.jc_twin_exact.specs.Exact.{HasReturned, HaveReturned}
use Rattle.jc_twin_exact.proofs.ValueLaws.{InStatics}
use Rattle.jc_twin_exact.proofs.ResultLaws.{InFrame}
use Rattle.jc_twin_exact.proofs.TurnedLaws.{Turned}
use Rattle.jc_twin_exact.proofs.GoodLaws.{IsOther, HasNoInit, turned_here, nowhere, IsGood, IsGoodWorld, step_good, run_raised}
use Rattle.jc_twin_exact.proofs.EdgeLaws.{went, Stopped, at_throw, elsewhere, stopped, called, came_back, frames_in, no_edges}

-- an edge that leaves the method
abbrev pub LeadsOut : Branch → Type 0
LeadsOut x = x.way ≡ Exits

module _ (p : Program) where
  -- the edge is taken when so many turns are left behind it
  abbrev pub TakenWith : World → List ℕ → ProgramEdge → ℕ → Type 0
  TakenWith w [] e left = ⊥
  TakenWith w (t ∷ turns) e left = (Contains (turn_edges p w t) e × (left ≡ length turns)) ⊎ TakenWith (step p w t) turns e left

  pub with_taken : (turns : List ℕ) (w : World) (e : ProgramEdge) → Contains (taken_from p w turns) e → (n : ℕ) × TakenWith w turns e n
  with_taken [] w e c = absurd (none_in e c)
  with_taken (t ∷ turns) w e c =
      ⊎_elim
      (λ now. (length turns, inl (now, refl)))
      (λ later. let h = with_taken turns (step p w t) e later in (h.0, inr h.1))
      (Contains-append_cases (turn_edges p w t) (taken_from p (step p w t) turns) e c)

  pub taken_with : (turns : List ℕ) (w : World) (e : ProgramEdge) (n : ℕ) → TakenWith w turns e n → Contains (taken_from p w turns) e
  taken_with [] w e n h = absurd h
  taken_with (t ∷ turns) w e n (inl h) = Contains-append_left (turn_edges p w t) (taken_from p (step p w t) turns) e h.0
  taken_with (t ∷ turns) w e n (inr h) = Contains-append_right (turn_edges p w t) (taken_from p (step p w t) turns) e (taken_with turns (step p w t) e n h)

  -- an edge of this frame's instruction is taken, with fewer turns left
  pub record IsLeft (w : World) (turns : List ℕ) (f : Frame) : Type 0 where
    pub branch : Branch
    pub at : branch.at ≡ f.place
    pub later : ℕ
    pub fewer : later < length turns
    pub taken : TakenWith w turns (edge_of f.method branch) later

  -- behind the edge another one is taken, where it leads
  pub record IsFollowed (w : World) (turns : List ℕ) (e : ProgramEdge) (left : ℕ) : Type 0 where
    pub branch : Branch
    pub later : ℕ
    pub fewer : later < left
    pub leads : LeadsTo e.branch branch.at
    pub taken : TakenWith w turns (record { class = e.class; body = e.body; branch = branch }) later

  -- a thread that is stuck stays so
  stuck_stays : (turns : List ℕ) (w : World) (t : ℕ) (m : Entry) (q : ℕ) → slice_get w.threads t ≡ Some (stuck m q)
      → slice_get (run_from p w turns).threads t ≡ Some (stuck m q)
  stuck_stays [] w t m q e = e
  stuck_stays (k ∷ turns) w t m q e = stuck_stays turns (step p w k) t m q (by (nat_eq k t) refl)
    where
      by : (b : Bool) → nat_eq k t ≡ b → slice_get (step p w k).threads t ≡ Some (stuck m q)
      by true h = subst (λ j. slice_get (step p w j).threads t ≡ Some (stuck m q)) (sym (eqb-true k t h)) (step_at p w t (stuck m q) e)
      by false h = step_other p w k t (eqb-false k t h) ∙ e

  returned_at : (threads : List Thread) (t : ℕ) (x : Thread) → HaveReturned threads → slice_get threads t ≡ Some x → HasReturned x
  returned_at threads t x h e = all_at HasReturned threads t x h e

module _ (p : Program) (no_init : HasNoInit p) where
  -- ---- one turn of a thread

  -- what a turn makes of a frame of its thread
  pub data Stays (f : Frame) (edges : List ProgramEdge) (a : After) : Type 0 where
    takes : (y : Branch) → y.at ≡ f.place → Contains edges (edge_of f.method y) → Stays f edges a
    waits : (g : Frame) → Contains (frames_in a.thread) g → g.method ≡ f.method → g.place ≡ f.place → Stays f edges a
    is_raised : a.shared.raised ≡ true → Stays f edges a
    is_stuck : (m : Entry) (q : ℕ) → a.thread ≡ stuck m q → Stays f edges a

  -- where the thread stands behind an edge
  pub data Follows (e : ProgramEdge) (a : After) : Type 0 where
    comes : (f : Frame) (x : Branch) → e ≡ edge_of f.method x → (g : Frame) → Contains (frames_in a.thread) g → g.method ≡ f.method → LeadsTo x g.place → Follows e a
    ends : (f : Frame) (x : Branch) → e ≡ edge_of f.method x → LeadsOut x → Follows e a

  module _ (s : Shared) (f : Frame) (fs : List Frame) (i : LocatedInsn) (here : located p f.method f.place ≡ Some i) where
    abbrev Edges : List ProgramEdge
    Edges = thread_edges p s (Some (running f fs))

    -- a frame that waits still does
    still : (h g : Frame) (a : After) → a.thread ≡ running h fs → Contains fs g → Stays g Edges a
    still h g a e c = waits g (subst (λ x. Contains (frames_in x) g) (sym e) (later_in h fs g c)) refl refl

    if_stays : (b : Bool) (g : Frame) (x y : After) → Stays g Edges x → Stays g Edges y → Stays g Edges (if b then x else y)
    if_stays true g x y h k = h
    if_stays false g x y h k = k

    -- the frame below goes on, and the others wait
    left_stays : (v : Option Value) (gs : List Frame) (g : Frame) → Contains gs g → ((e : ProgramEdge) → Contains (call_edges gs) e → Contains Edges e)
        → Stays g Edges (after (left v gs) s)
    left_stays v [] g c more = absurd (none_in g c)
    left_stays v (h ∷ gs) g c more =
        ⊎_elim
        (λ same. takes (sequence g.place) refl
        (more (edge_of g.method (sequence g.place))
        (subst (λ k. Contains (edge_of k.method (sequence k.place) ∷ []) (edge_of g.method (sequence g.place))) (sym same)
        (first_in (edge_of g.method (sequence g.place)) []))))
        (λ later. waits g (later_in (given_back v h) gs g later) refl refl)
        (which_in h gs g c)

    result_stays : (r : Result) → result_of p s f ≡ r → Turned IsOther i.insn s f r → (g : Frame) → Contains (f ∷ fs) g
        → Stays g Edges (after_result p r s f fs)
    result_stays (goes s' h) e t g c =
        let w = went p no_init s f fs i here s' h e t in
        ⊎_elim
        (λ same. takes w.branch ((chosen_leads f.place i.insn _ w.branch w.chosen_is).0 ∙ ap (λ (k : Frame). k.place) same)
        (subst (λ (k : Frame). Contains Edges (edge_of k.method w.branch)) same
        (subst (λ l. Contains l (edge_of f.method w.branch)) (sym w.edges) (first_in (edge_of f.method w.branch) []))))
        (λ later. still h g (after_result p (goes s' h) s f fs) refl later)
        (which_in f fs g c)
    result_stays (hits class id h) e t g c = absurd t.1
    result_stays (calls callee locals h) e t g c =
        if_stays (overflows p callee (f ∷ fs)) g _ (after (running (new_frame callee locals) (h ∷ fs)) s) (is_raised refl)
        (⊎_elim
        (λ same. waits h (later_in (new_frame callee locals) (h ∷ fs) h (first_in h fs)) (t.method ∙ ap (λ (k : Frame). k.method) same)
        (t.place ∙ ap (λ (k : Frame). k.place) same))
        (λ later. waits g (later_in (new_frame callee locals) (h ∷ fs) g (later_in h fs g later)) refl refl)
        (which_in f fs g c))
    result_stays (leaves v) e t g c =
        let is = came_back p no_init s f fs i here v e t.1 in
        ⊎_elim
        (λ same. takes (exit f.place) (ap (λ (k : Frame). k.place) same)
        (subst (λ (k : Frame). Contains Edges (edge_of k.method (exit f.place))) same
        (subst (λ l. Contains l (edge_of f.method (exit f.place))) (sym is) (first_in (edge_of f.method (exit f.place)) (call_edges fs)))))
        (λ later. left_stays v fs g later (λ x k. subst (λ l. Contains l x) (sym is) (later_in (edge_of f.method (exit f.place)) (call_edges fs) x k)))
        (which_in f fs g c)
    result_stays (raises d) e t g c = is_raised refl
    result_stays (throws d v) e t g c = is_raised refl
    result_stays gets_stuck e t g c = is_stuck f.method f.place refl

    -- ---- behind an edge

    left_follows : (v : Option Value) (gs : List Frame) (e : ProgramEdge) → Contains (call_edges gs) e → Follows e (after (left v gs) s)
    left_follows v [] e c = absurd (none_in e c)
    left_follows None (g ∷ gs) e c =
        comes g (sequence g.place) (sym (contains_one (edge_of g.method (sequence g.place)) e c)) (given_back None g) (first_in (given_back None g) gs) refl refl
    left_follows (Some v) (g ∷ gs) e c =
        comes g (sequence g.place) (sym (contains_one (edge_of g.method (sequence g.place)) e c)) (given_back (Some v) g)
        (first_in (given_back (Some v) g) gs) refl refl

    stopped_follows : (a : After) → Stopped p no_init s f fs i here → (e : ProgramEdge) → Contains Edges e → Follows e a
    stopped_follows a (at_throw h k) e c =
        ends f (exit f.place) (sym (contains_one (edge_of f.method (exit f.place)) e (subst (λ l. Contains l e) k c))) refl
    stopped_follows a (elsewhere h k) e c = absurd (none_in e (subst (λ l. Contains l e) k c))

    result_follows : (r : Result) → result_of p s f ≡ r → Turned IsOther i.insn s f r → (e : ProgramEdge) → Contains Edges e → Follows e (after_result p r s f fs)
    result_follows (goes s' h) q t e c =
        let w = went p no_init s f fs i here s' h q t in
        comes f w.branch (sym (contains_one (edge_of f.method w.branch) e (subst (λ l. Contains l e) w.edges c))) h (first_in h fs) w.method w.leads
    result_follows (hits class id h) q t e c = absurd t.1
    result_follows (calls callee locals h) q t e c =
        absurd (none_in e (subst (λ l. Contains l e) (called p no_init s f fs i here callee locals h q t) c))
    result_follows (leaves v) q t e c =
        ⊎_elim
        (λ same. ends f (exit f.place) (sym same) refl)
        (λ more. left_follows v fs e more)
        (which_in (edge_of f.method (exit f.place)) (call_edges fs) e (subst (λ l. Contains l e) (came_back p no_init s f fs i here v q t.1) c))
    result_follows (raises d) q t e c = stopped_follows _ (stopped p no_init s f fs i here (raises d) q refl) e c
    result_follows (throws d v) q t e c = stopped_follows _ (stopped p no_init s f fs i here (throws d v) q refl) e c
    result_follows gets_stuck q t e c = stopped_follows _ (stopped p no_init s f fs i here gets_stuck q refl) e c

  running_stays : (s : Shared) (f : Frame) (fs : List Frame) → InStatics IsOther s.statics → InFrame IsOther f → (o : Option LocatedInsn)
      → located p f.method f.place ≡ o → (g : Frame) → Contains (f ∷ fs) g → Stays g (thread_edges p s (Some (running f fs))) (turn_of p s (running f fs))
  running_stays s f fs h v None e g c = is_stuck f.method f.place (ap (λ r. (after_result p r s f fs).thread) (nowhere p no_init s f e))
  running_stays s f fs h v (Some i) e g c = result_stays s f fs i e (result_of p s f) refl (turned_here p no_init s f i e v h) g c

  thread_stays : (s : Shared) (x : Thread) → InStatics IsOther s.statics → IsGood p x → (g : Frame) → Contains (frames_in x) g
      → Stays g (thread_edges p s (Some x)) (turn_of p s x)
  thread_stays s (running f fs) h k g c = running_stays s f fs h k.0 (located p f.method f.place) refl g c
  thread_stays s other h k g c = absurd (none_in g c)

  running_follows : (s : Shared) (f : Frame) (fs : List Frame) → InStatics IsOther s.statics → InFrame IsOther f → (o : Option LocatedInsn)
      → located p f.method f.place ≡ o → (e : ProgramEdge) → Contains (thread_edges p s (Some (running f fs))) e → Follows e (turn_of p s (running f fs))
  running_follows s f fs h v None l e c = absurd (none_in e (subst (λ k. Contains k e) (no_edges p s f fs l) c))
  running_follows s f fs h v (Some i) l e c = result_follows s f fs i l (result_of p s f) refl (turned_here p no_init s f i l v h) e c

  thread_follows : (s : Shared) (x : Thread) → InStatics IsOther s.statics → IsGood p x → (e : ProgramEdge) → Contains (thread_edges p s (Some x)) e
      → Follows e (turn_of p s x)
  thread_follows s (running f fs) h k e c = running_follows s f fs h k.0 (located p f.method f.place) refl e c
  thread_follows s other h k e c = absurd (none_in e c)

  -- ---- runs

  then_left : (w : World) (t : ℕ) (turns : List ℕ) (f : Frame) → IsLeft p (step p w t) turns f → IsLeft p w (t ∷ turns) f
  then_left w t turns f l = let lt = l.fewer in record { branch = l.branch; at = l.at; later = l.later; fewer = omega (arith, lt); taken = inr l.taken }

  same_left : (w : World) (turns : List ℕ) (f g : Frame) → g.method ≡ f.method → g.place ≡ f.place → IsLeft p w turns g → IsLeft p w turns f
  same_left w turns f g m q l = record {
    branch = l.branch;
    at = l.at ∙ q;
    later = l.later;
    fewer = l.fewer;
    taken = subst (λ n. TakenWith p w turns (edge_of n l.branch) l.later) m l.taken;
  }

  turn_is : (w : World) (t : ℕ) (x : Thread) → slice_get w.threads t ≡ Some x → turn_edges p w t ≡ thread_edges p w.shared (Some x)
  turn_is w t x e = ap (thread_edges p w.shared) e

  shared_is : (w : World) (t : ℕ) (x : Thread) → slice_get w.threads t ≡ Some x → (step p w t).shared ≡ (turn_of p w.shared x).shared
  unfolding step
  shared_is w t x e = ap (λ o. (step_of p w t o).shared) e

  pub each_leaves : (turns : List ℕ) (w : World) → IsGoodWorld p w → HaveReturned (run_from p w turns).threads → (run_from p w turns).shared.raised ≡ false
      → (t : ℕ) (x : Thread) → slice_get w.threads t ≡ Some x → (f : Frame) → Contains (frames_in x) f → IsLeft p w turns f
  each_leaves [] w g r calm t x e f c = absurd (by x (returned_at p w.threads t x r e) c)
    where
      by : (x : Thread) → HasReturned x → Contains (frames_in x) f → ⊥
      by (running h fs) r c = r
      by (returned v) r c = none_in f c
      by (threw d) r c = r
      by (stuck m q) r c = r
  each_leaves (k ∷ turns) w g r calm t x e f c =
      by (λ y q h d. each_leaves turns (step p w k) (step_good p no_init w k g) r calm t y q h d) (nat_eq k t) refl
    where
      own : ((y : Thread) → slice_get (step p w k).threads t ≡ Some y → (h : Frame) → Contains (frames_in y) h → IsLeft p (step p w k) turns h)
          → k ≡ t → Stays f (thread_edges p w.shared (Some x)) (turn_of p w.shared x) → IsLeft p w (k ∷ turns) f
      own again same (takes y at here) = record {
        branch = y;
        at = at;
        later = length turns;
        fewer = omega arith;
        taken = inl (subst (λ j. Contains (turn_edges p w j) (edge_of f.method y)) (sym same) (subst (λ l. Contains l (edge_of f.method y)) (sym (turn_is w t x e)) here), refl);
      }
      own again same (waits h among m q) =
          then_left w k turns f (same_left (step p w k) turns f h m q
          (again (turn_of p w.shared x).thread (subst (λ j. slice_get (step p w j).threads t ≡ Some (turn_of p w.shared x).thread) (sym same) (step_at p w t x e)) h among))
      own again same (is_raised up) =
          absurd (true≢false
          (sym (run_raised p no_init turns (step p w k) (step_good p no_init w k g)
          (ap (λ j. (step p w j).shared.raised) same ∙ ap (λ (s : Shared). s.raised) (shared_is w t x e) ∙ up)) ∙ calm))
      own again same (is_stuck m q is) =
          absurd (returned_at p (run_from p (step p w k) turns).threads t (stuck m q) r
          (stuck_stays p turns (step p w k) t m q
          (ap (λ j. slice_get (step p w j).threads t) same ∙ step_at p w t x e ∙ ap Some is)))

      by : ((y : Thread) → slice_get (step p w k).threads t ≡ Some y → (h : Frame) → Contains (frames_in y) h → IsLeft p (step p w k) turns h)
          → (b : Bool) → nat_eq k t ≡ b → IsLeft p w (k ∷ turns) f
      by again true h = own again (eqb-true k t h) (thread_stays w.shared x g.statics (all_at (IsGood p) w.threads t x g.threads e) f c)
      by again false h = then_left w k turns f (again x (step_other p w k t (eqb-false k t h) ∙ e) f c)

  -- ---- behind each edge that doesn't leave its method another one is taken

  then_followed : (w : World) (t : ℕ) (turns : List ℕ) (e : ProgramEdge) (left : ℕ) → IsFollowed p (step p w t) turns e left → IsFollowed p w (t ∷ turns) e left
  then_followed w t turns e left h = record { branch = h.branch; later = h.later; fewer = h.fewer; leads = h.leads; taken = inr h.taken }

  pub followed : (turns : List ℕ) (w : World) → IsGoodWorld p w → HaveReturned (run_from p w turns).threads → (run_from p w turns).shared.raised ≡ false
      → (e : ProgramEdge) (left : ℕ) → (LeadsOut e.branch → ⊥) → TakenWith p w turns e left → IsFollowed p w turns e left
  followed [] w g r calm e left on h = absurd h
  followed (k ∷ turns) w g r calm e left on (inr h) =
      then_followed w k turns e left (followed turns (step p w k) (step_good p no_init w k g) r calm e left on h)
  followed (k ∷ turns) w g r calm e left on (inl h) = by (slice_get w.threads k) refl h.0
    where
      behind : (x : Thread) → slice_get w.threads k ≡ Some x → Follows e (turn_of p w.shared x) → IsFollowed p w (k ∷ turns) e left
      behind x l (comes f y is j among m leads) =
          let n = each_leaves turns (step p w k) (step_good p no_init w k g) r calm k (turn_of p w.shared x).thread (step_at p w k x l) j among in
          let same : edge_of j.method n.branch ≡ record { class = e.class; body = e.body; branch = n.branch } =
          ap (λ z. edge_of z n.branch) m ∙ ap (λ (z : ProgramEdge). record { class = z.class; body = z.body; branch = n.branch }) (sym is) in
          record {
            branch = n.branch;
            later = n.later;
            fewer = subst (λ z. n.later < z) (sym h.1) n.fewer;
            leads = subst (λ (z : ProgramEdge). LeadsTo z.branch n.branch.at) (sym is) (subst (LeadsTo y) (sym n.at) leads);
            taken = inr (subst (λ z. TakenWith p (step p w k) turns z n.later) same n.taken);
          }
      behind x l (ends f y is out) = absurd (on (ap (λ (z : ProgramEdge). z.branch.way) is ∙ out))

      by : (o : Option Thread) → slice_get w.threads k ≡ o → Contains (thread_edges p w.shared o) e → IsFollowed p w (k ∷ turns) e left
      by None l c = absurd (none_in e c)
      by (Some x) l c = behind x l (thread_follows w.shared x g.statics (all_at (IsGood p) w.threads k x g.threads l) e c)
