-- A kept turn: the probe of each edge that it takes was hit beforehand, or is owed behind it.
use Rattle.std.proofs.Common.{◌≡◌, ◌⊎◌, inl, inr, ⊎_elim, ℕ, ◌+◌, Bool, true, false, List, [], ◌∷◌, Option, Some, None, option_map, refl, sym, ap, ◌∙◌, subst, if◌then◌else◌}
use Rattle.std.specs.Prelude.{⊤, slice_get, Contains, option_and_then}
use Rattle.std.specs.List.{AllByRecursion}
use Rattle.std.proofs.lemmas.Option.{none-some, same_Some, get_or_from_slice_get, slice_get-get_or}
use Rattle.jc_bytes.proofs.BooleanLaws.{first_in, later_in, which_in, none_in}
use Rattle.jc_bytes.proofs.FirstSeenLaws.{contains_one}
use Rattle.jc_bytes.proofs.ListLaws.{found_in}
use Rattle.jc_methods.specs.Flow.{flow_of}
use Rattle.jc_methods.specs.declared.insn.Insn.{Insn}
use Rattle.jc_methods.specs.declared.insn.Insn.TheVariants as insns
use Rattle.jc_methods.specs.declared.insn.Flow.{Flow}
use Rattle.jc_methods.specs.declared.insn.Flow.TheVariants as flows
use Rattle.jc_methods.specs.declared.body.Handler.{Handler}
use Rattle.jc_programs.specs.declared.program.Program.{Program}
use Rattle.jc_programs.specs.declared.run_end.Entry.{Entry}
use Rattle.jc_programs.specs.declared.run_end.Thrown.{Thrown}
use Rattle.jc_programs.specs.declared.run_end.Thrown.TheVariants as thrown
use Rattle.jc_programs.specs.Members.{body_of}
use Rattle.jc_plan.specs.Edges.{sequence, exit}
use Rattle.jc_plan.specs.Chosen.{onward}
use Rattle.jc_plan.specs.ClassEdges.{ProgramEdge}
use Rattle.jc_emit.specs.Items.{Item, start, image}
use Rattle.jc_emit.specs.Local.{Ok, OkImage, OkStart, OkRow, due_of, early_of}
use Rattle.jc_emit.specs.Seen.{OkRows}
use Rattle.jc_emit.specs.Sizes.{insn_at, early_by}
use Rattle.jc_machine_model.specs.Values.{Value}
use Rattle.jc_machine_model.specs.World.{Frame, Thread, running, stuck, Shared, Hit}
use Rattle.jc_machine_model.specs.Results.{Result, goes, hits, calls, leaves, raises, throws, gets_stuck}
use Rattle.jc_machine_model.specs.Profile.{operation_of}
use Rattle.jc_machine_model.specs.Perform.{perform}
use Rattle.jc_machine_model.specs.Step.{LocatedInsn, located, result_of, is_init_method, handler_in, handler_of, caught, unwound, Raised, placed, overflows, new_frame, given_back, left, After, after, thrown_in, after_result}
use Rattle.jc_machine_model.specs.Taken.{outcome_of, edge_of, call_edges, thread_edges}
use Rattle.jc_twin_simulation.specs.Sides.{Side, IsSide, AreSides}
use Rattle.jc_twin_simulation.specs.Beside.{OneMethod, SameFrame, SameWaits, SameShared}
use Rattle.jc_twin_simulation.specs.Probes.{hit_of, item_hit, place_hit, frame_hit, due_in, early_in}
use Rattle.jc_twin_simulation.proofs.FrameLaws.{body_is, location, located_is, result_is, twin_insn, own_result}
use Rattle.jc_twin_simulation.proofs.OwnLaws.{SameResult, AtImage}
use Rattle.jc_twin_simulation.proofs.OwnTurnLaws.{new_no_init}
use Rattle.jc_twin_exact.proofs.ValueLaws.{HoldsOfOthers, InSlot, InStatics}
use Rattle.jc_twin_exact.proofs.ResultLaws.{InFrame}
use Rattle.jc_twin_exact.proofs.TurnedLaws.{Turned, turned}
use Rattle.jc_twin_exact.proofs.GoodLaws.{IsOther, HasNoInit, turned_here, AreGoodWaits}
use Rattle.jc_twin_exact.proofs.EdgeLaws.{Went, went, Stopped, at_throw, elsewhere, stopped, called, came_back}
use Rattle.jc_twin_exact.proofs.CameLaws.{insn_there}
use Rattle.jc_twin_exact.proofs.LandLaws.{onto}
use Rattle.jc_twin_exact.proofs.MarkLaws.{probe_in, IsProbeOf, Owes}

-- ---- any values

abbrev Any : Value → Type 0
Any v = ⊤

each_any : {X : Type 0} (P : X → Type 0) → ((x : X) → P x) → (xs : List X) → AllByRecursion P xs
each_any P h [] = tt
each_any P h (x ∷ xs) = (h x, each_any P h xs)

slot_any : (o : Option Value) → InSlot Any o
slot_any None = tt
slot_any (Some v) = tt

frame_any : (f : Frame) → InFrame Any f
frame_any f = record { locals = each_any (InSlot Any) slot_any f.locals; stack = each_any Any (λ v. tt) f.stack }

any_holds : HoldsOfOthers Any
any_holds = record { ints = λ x. tt; longs = λ x. tt; nulls = tt; objects = λ k. tt; errors = tt; streams = tt; texts = λ k. tt }

-- each row of the twin's is that of a row
row_of : (Kept : Handler → Handler → Type 0) (hs rs : List Handler) → OkRows Kept hs rs → (r : Handler) → Contains rs r → (h : Handler) × Kept h r
row_of Kept [] [] ok r c = absurd (none_in r c)
row_of Kept [] (x ∷ rs) ok r c = absurd ok
row_of Kept (h ∷ hs) [] ok r c = absurd ok
row_of Kept (h ∷ hs) (x ∷ rs) ok r c = ⊎_elim (λ same. (h, subst (Kept h) same ok.0)) (λ later. row_of Kept hs rs ok.1 r later) (which_in x rs r c)

module _ (p p' : Program) (sides : Entry → Side) where
  -- the thread owes nothing and has hit nothing beforehand
  abbrev pub IsCalm : Thread → Type 0
  IsCalm x = (due_in p' sides x ≡ None) × (early_in p' sides x ≡ None)

  -- a frame at an item
  at_item : (id_by : Item → Option ℕ) (f f' g : Frame) (o : OneMethod p p' sides f f') → g.method ≡ f'.method → (x : Item)
      → slice_get (sides f.method).items g.place ≡ Some x
      → frame_hit p' sides id_by (is_init_method p' g.method) g ≡ option_map (hit_of f.method.class) (id_by x)
  at_item id_by f f' g o m x here =
      ap (λ b. frame_hit p' sides id_by b g) (ap (is_init_method p') m ∙ new_no_init p p' sides f f' o)
      ∙ ap (λ n. place_hit p' sides id_by n g.place) (m ∙ o.method) ∙ ap (item_hit id_by f.method.class) here

  pub calm_at : (f f' g : Frame) (fs : List Frame) (o : OneMethod p p' sides f f') → g.method ≡ f'.method → (x : Item)
      → slice_get (sides f.method).items g.place ≡ Some x → due_of x ≡ None → early_of x ≡ None → IsCalm (running g fs)
  calm_at f f' g fs o m x here due early = (
    at_item due_of f f' g o m x here ∙ ap (option_map (hit_of f.method.class)) due,
    at_item early_of f f' g o m x here ∙ ap (option_map (hit_of f.method.class)) early,
  )

  -- ---- a method begins

  pub start_calm : (m : Entry) → IsSide p p' m (sides m) → (x : Item) → slice_get (sides m).items 0 ≡ Some x → (due_of x ≡ None) × (early_of x ≡ None)
  start_calm m side x here = by (sides m).slot refl
    where
      t : Side
      t = sides m

      by : (o : Option ℕ) → (sides m).slot ≡ o → (due_of x ≡ None) × (early_of x ≡ None)
      by None e =
          let s = (subst (OkStart (sides m).body.code (sides m).slot (sides m).ids (sides m).items) e side.ok.start).stands in
          let same : s.item ≡ x = same_Some s.item x (sym s.here ∙ here) in
          (ap due_of (sym same) ∙ s.due_is, ap early_of (sym same) ∙ s.no_early)
      by (Some v) e =
          let s = subst (OkStart (sides m).body.code (sides m).slot (sides m).ids (sides m).items) e side.ok.start in
          let same : start s.0 0 ≡ x = same_Some (start s.0 0) x (sym s.1 ∙ here) in
          (ap due_of (sym same), ap early_of (sym same))

  -- ---- handlers

  caught_calm : (c : Thrown) (v : Value) (f f' : Frame) (fs' : List Frame) (x : Thread) → OneMethod p p' sides f f' → IsCalm x
      → (o : Option Handler) → handler_of p' c f' ≡ o → IsCalm (caught o v f' fs' x)
  caught_calm c v f f' fs' x o calm None e = calm
  caught_calm c v f f' fs' x o calm (Some row) e =
      let t = sides f.method in
      let found : handler_in f'.place c t.twin ≡ Some row =
      sym (ap (λ m. option_and_then (handler_in f'.place c) (body_of p' m)) o.method
      ∙ ap (option_and_then (handler_in f'.place c)) (body_is p' f.method t.new t.twin o.side.new_is o.side.twin_is)) ∙ e in
      let kept = row_of (OkRow t.body.code t.slot t.ids t.items) t.body.handlers t.twin.handlers o.side.rows row (found_in _ t.twin.handlers row found) in
      let s = kept.1.target.stands in
      calm_at f f' (record f' { place = row.target; stack = v ∷ [] }) fs' o refl s.item s.here s.due_is s.no_early

  unwound_calm : (c : Thrown) (v : Value) (fs fs' : List Frame) → SameWaits p p' sides fs fs' → IsCalm (unwound p' c v fs')
  unwound_calm c v [] [] w = (refl, refl)
  unwound_calm c v (f ∷ fs) (f' ∷ fs') w =
      caught_calm c v f f' fs' (unwound p' c v fs') w.0.one (unwound_calm c v fs fs' w.1) (handler_of p' c f') refl
  unwound_calm c v [] (f' ∷ fs') w = absurd w
  unwound_calm c v (f ∷ fs) [] w = absurd w

  thrown_calm : (r : Raised) (f f' : Frame) (fs fs' : List Frame) → OneMethod p p' sides f f' → SameWaits p p' sides fs fs'
      → IsCalm (thrown_in p' r (f' ∷ fs')).thread
  thrown_calm r f f' fs fs' o w =
      caught_calm r.thrown r.value f f' fs' (unwound p' r.thrown r.value fs') o (unwound_calm r.thrown r.value fs fs' w) (handler_of p' r.thrown f') refl

  -- ---- returns

  -- the probe of the call of the frame below is owed behind the return
  pub record Returns (edges : List ProgramEdge) (x : Thread) : Type 0 where
    pub calm : early_in p' sides x ≡ None
    pub taken : (e : ProgramEdge) → Contains edges e → probe_in p' sides e ≡ due_in p' sides x
    pub due : (h : Hit) → due_in p' sides x ≡ Some h → IsProbeOf p' sides edges h

  given_at : (v : Option Value) (f : Frame) → ((given_back v f).method ≡ f.method) × ((given_back v f).place ≡ f.place + 1)
  given_at None f = (refl, refl)
  given_at (Some v) f = (refl, refl)

  left_returns : (v : Option Value) (fs fs' : List Frame) → SameWaits p p' sides fs fs' → AreGoodWaits p fs → Returns (call_edges fs) (left v fs')
  left_returns v [] [] w g = record { calm = refl; taken = λ e c. absurd (none_in e c); due = λ h e. absurd (none-some h e) }
  left_returns v [] (f' ∷ fs') w g = absurd w
  left_returns v (f ∷ fs) [] w g = absurd w
  left_returns v (f ∷ fs) (f' ∷ fs') w g =
      let o = w.0.one in
      let side = o.side in
      let t = sides f.method in
      let call = g.0.call in
      let code = insn_there p f.method f.place call.insn call.here t.class t.body side.class_is side.body_is in
      let is : insn_at t.body.code f.place ≡ call.insn.insn = get_or_from_slice_get t.body.code f.place call.insn.insn (insns.Simple 0) code in
      let ok = side.ok.ok f'.place (image w.0.insn f.place w.0.early) w.0.here in
      let next = subst (OkImage t.body.code t.slot t.ids t.items f'.place f.place (insn_at t.body.code f.place) w.0.insn) (ap flow_of is ∙ call.flow) ok.2 in
      let s = next.1.stands in
      let at = given_at v f' in
      let here : slice_get t.items (given_back v f').place ≡ Some s.item = ap (slice_get t.items) at.1 ∙ s.here in
      let due : due_in p' sides (left v (f' ∷ fs')) ≡ probe_in p' sides (edge_of f.method (sequence f.place)) =
      at_item due_of f f' (given_back v f') o at.0 s.item here ∙ ap (option_map (hit_of f.method.class)) s.due_is in
      record {
        calm = at_item early_of f f' (given_back v f') o at.0 s.item here ∙ ap (option_map (hit_of f.method.class)) s.no_early;
        taken = λ e c. ap (probe_in p' sides) (sym (contains_one (edge_of f.method (sequence f.place)) e c)) ∙ sym due;
        due = λ h e. (edge_of f.method (sequence f.place), first_in (edge_of f.method (sequence f.place)) [], sym due ∙ e);
      }

  -- ---- a kept turn

  -- what a turn leaves: nothing is hit, and what is owed
  pub record OwnMoved (early : Option Hit) (edges : List ProgramEdge) (a : After) : Type 0 where
    pub none_hit : a.hits ≡ []
    pub owes : Owes p' sides early edges (due_in p' sides a.thread) (early_in p' sides a.thread)

  module _ (no_init : HasNoInit p) (are : AreSides p p' sides) (s s' : Shared) (ss : SameShared p p' sides s s') (statics : InStatics IsOther s.statics)
      (f f' : Frame) (fs fs' : List Frame) (new : Insn) (early : Option ℕ) (o : AtImage p p' sides f f' new early) (w : SameWaits p p' sides fs fs')
      (values : InFrame IsOther f) (waits : AreGoodWaits p fs) where
    abbrev t : Side
    t = sides f.method

    abbrev insn : Insn
    insn = insn_at t.body.code f.place

    abbrev ok : Ok t.body.code t.slot t.ids t.items f'.place (image new f.place early)
    ok = o.one.side.ok.ok f'.place (image new f.place early) o.here

    stands : slice_get t.body.code f.place ≡ Some insn
    stands = slice_get-get_or t.body.code f.place (insns.Simple 0) ok.0

    abbrev i : LocatedInsn
    i = record { at = location f.method f.place t.class t.body; insn = insn }

    here : located p f.method f.place ≡ Some i
    here = located_is p f.method f.place t.class t.body insn o.one.side.class_is o.one.side.body_is stands

    abbrev Edges : List ProgramEdge
    Edges = thread_edges p s (Some (running f fs))

    abbrev before : Option Hit
    before = option_map (hit_of f.method.class) early

    abbrev Moved : After → Type 0
    Moved a = OwnMoved before Edges a

    -- what was hit beforehand, by the flow
    early_is : (flow : Flow) → flow_of insn ≡ flow → early ≡ early_by t.ids f.place insn flow
    early_is flow e = ok.1 ∙ ap (early_by t.ids f.place insn) e

    -- nothing is taken, hit or owed
    calm_moved : (a : After) → a.hits ≡ [] → Edges ≡ [] → early ≡ None → IsCalm a.thread → Moved a
    calm_moved a none empty e calm = record {
      none_hit = none;
      owes = record {
        taken = λ x c. absurd (none_in x (subst (λ l. Contains l x) empty c));
        early_was = λ h k. absurd (none-some h (sym (ap (option_map (hit_of f.method.class)) e) ∙ k));
        due_is = λ h k. absurd (none-some h (sym calm.0 ∙ k));
        early_is = λ h k. absurd (none-some h (sym calm.1 ∙ k));
      };
    }

    -- the exit, whose probe was hit beforehand, and what it leads to
    exit_moved : (a : After) (more : List ProgramEdge) → a.hits ≡ [] → Edges ≡ edge_of f.method (exit f.place) ∷ more → early ≡ t.ids (exit f.place)
        → Returns more a.thread → Moved a
    exit_moved a more none is e r = record {
      none_hit = none;
      owes = record {
        taken = λ x c. ⊎_elim
            (λ same. inr (ap (probe_in p' sides) (sym same) ∙ sym (ap (option_map (hit_of f.method.class)) e)))
            (λ later. inl (r.taken x later))
            (which_in (edge_of f.method (exit f.place)) more x (subst (λ l. Contains l x) is c));
        early_was = λ h k. inr (
          edge_of f.method (exit f.place),
          subst (λ l. Contains l (edge_of f.method (exit f.place))) (sym is) (first_in (edge_of f.method (exit f.place)) more),
          sym (ap (option_map (hit_of f.method.class)) e) ∙ k,
        );
        due_is = λ h k. let b = r.due h k in
            (b.0, subst (λ l. Contains l b.0) (sym is) (later_in (edge_of f.method (exit f.place)) more b.0 b.1), b.2);
        early_is = λ h k. absurd (none-some h (sym r.calm ∙ k));
      };
    }

    calm_returns : (x : Thread) → IsCalm x → Returns [] x
    calm_returns x c = record { calm = c.1; taken = λ e k. absurd (none_in e k); due = λ h k. absurd (none-some h (sym c.0 ∙ k)) }

    -- a turn that raises
    raised_moved : (a : After) → a.hits ≡ [] → IsCalm a.thread → (flow_of insn ≡ flows.GoesOn) ⊎ (flow_of insn ≡ flows.Throws)
        → Stopped p no_init s f fs i here → Moved a
    raised_moved a none calm may (at_throw h k) = exit_moved a [] none k (early_is flows.Throws h) (calm_returns a.thread calm)
    raised_moved a none calm (inl e) (elsewhere h k) = calm_moved a none k (early_is flows.GoesOn e) calm
    raised_moved a none calm (inr e) (elsewhere h k) = absurd (h e)

    -- one that is stuck
    stuck_before : early_in p' sides (stuck f'.method f'.place) ≡ before
    stuck_before = ap (λ m. place_hit p' sides early_of m f'.place) o.one.method ∙ ap (item_hit early_of f.method.class) o.here

    stuck_moved : Stopped p no_init s f fs i here → Moved (after (stuck f'.method f'.place) s')
    stuck_moved (at_throw h k) = record {
      none_hit = refl;
      owes = record {
        taken = λ x c. inr (ap (probe_in p' sides) (sym (contains_one (edge_of f.method (exit f.place)) x (subst (λ l. Contains l x) k c)))
            ∙ sym (ap (option_map (hit_of f.method.class)) (early_is flows.Throws h)));
        early_was = λ x q. inl (stuck_before ∙ q);
        due_is = λ x q. absurd (none-some x q);
        early_is = λ x q. sym stuck_before ∙ q;
      };
    }
    stuck_moved (elsewhere h k) = record {
      none_hit = refl;
      owes = record {
        taken = λ x c. absurd (none_in x (subst (λ l. Contains l x) k c));
        early_was = λ x q. inl (stuck_before ∙ q);
        due_is = λ x q. absurd (none-some x q);
        early_is = λ x q. sym stuck_before ∙ q;
      };
    }

    -- one that goes on
    went_moved : (s2 s2' : Shared) (g g' : Frame) → Went p no_init s f fs i here s2 g → onward f'.place new (outcome_of new f.stack) ≡ Some g'.place
        → SameFrame p p' sides g g' → Moved (after (running g' fs') s2')
    went_moved s2 s2' g g' m on same =
        let x = m.branch in
        let l = onto t f'.place f.place insn new stands (o.one.side.well.code.well_formed f.place (insns.Simple 0) ok.0) f.stack x m.chosen_is g'.place on ok.2 in
        let method : g'.method ≡ f'.method = same.one.method ∙ m.method ∙ sym o.one.method in
        let early_after = at_item early_of f f' g' o.one method l.item l.here ∙ ap (option_map (hit_of f.method.class)) l.no_early in
        let due_after = at_item due_of f f' g' o.one method l.item l.here in
        let one : (e : ProgramEdge) → Contains Edges e → edge_of f.method x ≡ e = λ e c. contains_one (edge_of f.method x) e (subst (λ k. Contains k e) m.edges c) in
        let among : Contains Edges (edge_of f.method x) = subst (λ k. Contains k (edge_of f.method x)) (sym m.edges) (first_in (edge_of f.method x) []) in
        ⊎_elim
        (λ late.
        let due : due_in p' sides (running g' fs') ≡ probe_in p' sides (edge_of f.method x) = due_after ∙ ap (option_map (hit_of f.method.class)) late.1 in
        let none : before ≡ None = ap (option_map (hit_of f.method.class)) (ok.1 ∙ late.0) in
        record {
          none_hit = refl;
          owes = record {
            taken = λ e c. inl (ap (probe_in p' sides) (sym (one e c)) ∙ sym due);
            early_was = λ h k. absurd (none-some h (sym none ∙ k));
            due_is = λ h k. (edge_of f.method x, among, sym due ∙ k);
            early_is = λ h k. absurd (none-some h (sym early_after ∙ k));
          };
        })
        (λ first.
        let due : due_in p' sides (running g' fs') ≡ None = due_after ∙ ap (option_map (hit_of f.method.class)) first.0 in
        let was : before ≡ probe_in p' sides (edge_of f.method x) = ap (option_map (hit_of f.method.class)) (ok.1 ∙ first.1) in
        record {
          none_hit = refl;
          owes = record {
            taken = λ e c. inr (ap (probe_in p' sides) (sym (one e c)) ∙ sym was);
            early_was = λ h k. inr (edge_of f.method x, among, sym was ∙ k);
            due_is = λ h k. absurd (none-some h (sym due ∙ k));
            early_is = λ h k. absurd (none-some h (sym early_after ∙ k));
          };
        })
        l.due

    if_moved : (b : Bool) (x y : After) → Moved x → Moved y → Moved (if b then x else y)
    if_moved true x y h k = h
    if_moved false x y h k = k

    own_by : (r r' : Result) → result_of p s f ≡ r → SameResult p p' sides r r' → Turned IsOther insn s f r → Turned Any new s' f' r'
        → Moved (after_result p' r' s' f' fs')
    own_by (goes s2 g) (goes s2' g') e h u u' =
        went_moved s2 s2' g g' (went p no_init s f fs i here s2 g e u)
        (ap (λ st. onward f'.place new (outcome_of new st)) (sym o.stack) ∙ u'.onward) h.1
    own_by (hits class id g) r' e h u u' = absurd u.1
    own_by (calls m ls g) (calls m' ls' g') e h u u' =
        let none = called p no_init s f fs i here m ls g e u in
        let quiet = early_is flows.GoesOn u.flow in
        let first = start_calm (new_frame m ls).method h.0.one.side h.0.item h.0.here in
        if_moved (overflows p' m' (f' ∷ fs')) _ _
        (calm_moved _ refl none quiet (thrown_calm (placed thrown.StackOverflowError s') f f' fs fs' o.one w))
        (calm_moved _ refl none quiet
        (calm_at (new_frame m ls) (new_frame m' ls') (new_frame m' ls') (g' ∷ fs') h.0.one refl h.0.item h.0.here first.0 first.1))
    own_by (leaves v) (leaves v') e h u u' =
        exit_moved _ (call_edges fs) refl (came_back p no_init s f fs i here v e u.1) (early_is flows.Returns u.1) (left_returns v' fs fs' w waits)
    own_by (raises c) (raises c') e h u u' =
        raised_moved _ refl (thrown_calm (placed c' s') f f' fs fs' o.one w) u (stopped p no_init s f fs i here (raises c) e refl)
    own_by (throws c v) (throws c' v') e h u u' =
        raised_moved _ refl (thrown_calm (record { thrown = c'; value = v'; shared = s' }) f f' fs fs' o.one w) u.1 (stopped p no_init s f fs i here (throws c v) e refl)
    own_by gets_stuck gets_stuck e h u u' = stuck_moved (stopped p no_init s f fs i here gets_stuck e refl)
    own_by _ _ e h u u' = absurd h

    pub own_moves : Moved (after_result p' (result_of p' s' f') s' f' fs')
    own_moves =
        let side = o.one.side in
        let twin = twin_insn p p' sides f.method side f'.place (image new f.place early) o.here in
        let at' = location f.method f'.place t.new t.twin in
        let is : result_of p' s' f' ≡ perform (operation_of p' at' new) s' f' =
        result_is p' s' f' f.method f'.place t.new t.twin new o.one.method refl side.new_is side.twin_is (twin.1 ∙ ap Some twin.2) in
        own_by (result_of p s f) (result_of p' s' f') refl (own_result p p' sides are f f' new early o s s' ss)
        (turned_here p no_init s f i here values statics)
        (subst (Turned Any new s' f') (sym is)
        (turned Any any_holds p' s' f' (frame_any f') (each_any (AllByRecursion Any) (λ xs. each_any Any (λ v. tt) xs) s'.statics) at' new (λ init e. tt) (λ what init e. tt)))
