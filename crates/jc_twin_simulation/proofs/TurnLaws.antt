-- One turn of both worlds, or of the twin alone.
use Rattle.std.proofs.Common.{◌≡◌, inl, inr, ⊎_elim, ℕ, zero, suc, ◌+◌, ◌-◌, ◌<◌, ◌≤◌, Bool, true, false, not, ◌&&◌, ◌||◌, List, [], ◌∷◌, ◌++◌, Option, Some, None, option_map, nat_eq, nat_lt, nat_le, refl, sym, ap, ap₂, ◌∙◌, subst, subst₂, arith, if◌then◌else◌}
use Rattle.std.specs.Prelude.{slice_get, option_and_then}
use Rattle.std.proofs.lemmas.Bool.{eq-eqb, true≢false}
use Rattle.std.proofs.lemmas.Option.{same_Some}
use Rattle.jc_methods.specs.Opcode as opcode
use Rattle.jc_methods.specs.DescriptorTypes.{types_from, method_type_in}
use Rattle.jc_methods.specs.ProbeMembers.{init_name, init_type, fetch_of}
use Rattle.jc_methods.specs.declared.insn.Insn.{Insn}
use Rattle.jc_methods.specs.declared.insn.Insn.TheVariants as insns
use Rattle.jc_methods.specs.declared.body.Body.{Body}
use Rattle.jc_methods.specs.declared.probe_members.Fetch.TheVariants as fetches
use Rattle.jc_methods.specs.WellMade.{what_used}
use Rattle.jc_programs.specs.declared.program.Program.{Program}
use Rattle.jc_programs.specs.declared.program.ProbeInit.{ProbeInit}
use Rattle.jc_programs.specs.declared.run_end.Entry.{Entry}
use Rattle.jc_programs.specs.declared.run_end.Thrown.TheVariants as thrown
use Rattle.jc_programs.specs.Members.{class_named, class_at}
use Rattle.jc_emit.specs.Items.{Item, start, image, probe_array, probe_id, probe_one, probe_store, hop, at_of, own_of, extra_of}
use Rattle.jc_emit.specs.Added.{init_code, IsPlainMethod, giver_of}
use Rattle.jc_emit.specs.Local.{Ok, StartsOn, due_of, early_of}
use Rattle.jc_emit.specs.Marks.{prelude_size}
use Rattle.jc_emit.specs.Seen.{IsPlain}
use Rattle.jc_plan.specs.Probed.{probe_count}
use Rattle.std.specs.List.{sum_by}
use Rattle.jc_bytes.proofs.TextEqualLaws.{same_bytes}
use Rattle.jc_emit.specs.Ranks.{after_place, early_size, rank}
use Rattle.jc_machine_model.specs.Values.{probes}
use Rattle.jc_machine_model.specs.World.{Frame, Thread, running, Shared}
use Rattle.jc_machine_model.specs.Methods.{is_init_name, is_enterable, is_wide}
use Rattle.jc_machine_model.specs.Operations.{invokes}
use Rattle.jc_machine_model.specs.Results.{Result, calls, leaves, next_with}
use Rattle.jc_machine_model.specs.Perform.{perform}
use Rattle.jc_machine_model.specs.Profile.{Location, in_init, gets_by, has_constant, init_of, may_name_method, method_in, callee_named, entered_if, body_entered, class_entered, method_entered, is_fetch, member_operation, operation_of}
use Rattle.jc_machine_model.specs.Profile as profile
use Rattle.jc_machine_model.specs.Step.{is_init_method, counted_frames, new_frame, After, after, placed, thrown_in, result_of, after_result}
use Rattle.jc_twin_simulation.specs.Sides.{Side, count_in, array_of, way_of, IsChanged, AreSides}
use Rattle.jc_twin_simulation.specs.Probes.{hit_of, item_hit, Passes, nothing, a_late_one, an_early_one, place_hit, frame_hit, due_in, early_in}
use Rattle.jc_twin_simulation.specs.Beside.{pushed_of, SameLocals, SameFrame, SameWaits, InitStep, reads_field, gives_back, step_place, step_stack, init_method, Inside, SameShared, SameThread}
use Rattle.jc_twin_simulation.proofs.LocalLaws.{stays_unready}
use Rattle.jc_twin_simulation.proofs.MemberLaws.{enter_by}
use Rattle.jc_twin_simulation.proofs.ClassLaws.{class_same, class_again, init_found, changed_init, changed_probes}
use Rattle.jc_twin_simulation.proofs.OwnLaws.{AtImage}
use Rattle.jc_twin_simulation.proofs.FrameLaws.{location, result_is, init_is, fetch_in, start_way, twin_insn, own_result}
use Rattle.jc_twin_simulation.proofs.ThrowLaws.{SameAfter}
use Rattle.jc_twin_simulation.proofs.OwnTurnLaws.{new_no_init, after_same}
use Rattle.jc_twin_simulation.proofs.AsideLaws.{aside_result, aside_hits, Alone, aside_turn}
use Rattle.jc_twin_simulation.proofs.InitLaws.{or_true, Steps, Stepped, init_turn}

-- the added method has no parameters
no_parameters : (method_type_in init_type).parameters ≡ []
unfolding types_from
no_parameters = refl

place_small : (x : InitStep) → step_place x ≤ 10
place_small reads_field = omega arith
place_small other = omega arith

module _ (p p' : Program) (sides : Entry → Side) where
  -- ---- how many turns there are at most before the next own instruction

  abbrev pub item_rank : Side → (q : ℕ) → Item → ℕ
  item_rank t q x = rank t.body.code t.ids t.items q x

  abbrev pub rank_at : Side → (q : ℕ) → Option Item → ℕ
  rank_at t q None = 0
  rank_at t q (Some x) = item_rank t q x

  -- the probe in front of the first instruction
  abbrev pub first_size : Side → ℕ
  first_size t = early_size t.body.code t.ids t.items 0

  -- inside of `$jacocoInit`, where this frame waits
  abbrev pub inside_rank : ℕ → List Frame → ℕ
  inside_rank place [] = 0
  inside_rank place (g ∷ fs) = 12 + first_size (sides g.method) - place

  abbrev pub frames_rank : Bool → Frame → List Frame → ℕ
  frames_rank true f fs = inside_rank f.place fs
  frames_rank false f fs = rank_at (sides f.method) f.place (slice_get (sides f.method).items f.place)

  abbrev pub thread_rank : Thread → ℕ
  thread_rank (running f fs) = frames_rank (is_init_method p' f.method) f fs
  thread_rank _ = 0

  -- ---- where a thread stands

  pub rank_top : (f f' : Frame) (fs' : List Frame) (h : SameFrame p p' sides f f') → thread_rank (running f' fs') ≡ item_rank (sides f.method) f'.place h.item
  rank_top f f' fs' h =
      ap (λ b. frames_rank b f' fs') (new_no_init p p' sides f f' h.one)
      ∙ ap (λ m. rank_at (sides m) f'.place (slice_get (sides m).items f'.place)) h.one.method ∙ ap (rank_at (sides f.method) f'.place) h.here

  pub hit_top : (id_by : Item → Option ℕ) (f f' : Frame) (h : SameFrame p p' sides f f')
      → frame_hit p' sides id_by (is_init_method p' f'.method) f' ≡ option_map (hit_of f.method.class) (id_by h.item)
  hit_top id_by f f' h =
      ap (λ b. frame_hit p' sides id_by b f') (new_no_init p p' sides f f' h.one)
      ∙ ap (λ m. place_hit p' sides id_by m f'.place) h.one.method ∙ ap (item_hit id_by f.method.class) h.here

  -- what the twin alone hits between an item and the next one
  abbrev Between : (class : ℕ) → Item → Item → Type 0
  Between class x y =
      Passes (option_map (hit_of class) (due_of x)) (option_map (hit_of class) (early_of x)) (aside_hits x class)
      (option_map (hit_of class) (due_of y)) (option_map (hit_of class) (early_of y))

  same_item : (t : Side) (q : ℕ) (y z : Item) → slice_get t.items q ≡ Some y → slice_get t.items q ≡ Some z → y ≡ z
  same_item t q y z e h = same_Some y z (sym e ∙ h)

  -- the next item owes what this one does
  quiet : (class : ℕ) (x y z : Item) → y ≡ z → due_of z ≡ due_of x → early_of z ≡ early_of x → aside_hits x class ≡ [] → Between class x y
  quiet class x y z same due early none =
      nothing none (ap (λ i. option_map (hit_of class) (due_of i)) same ∙ ap (option_map (hit_of class)) due)
      (ap (λ i. option_map (hit_of class) (early_of i)) same ∙ ap (option_map (hit_of class)) early)

  item_passes : (t : Side) (class q : ℕ) (x y : Item) → Ok t.body.code t.slot t.ids t.items q x → own_of x ≡ false
      → slice_get t.items (after_place q x) ≡ Some y → Between class x y
  item_passes t class q (start fetch k) y ok own e = by (nat_lt (suc k) (prelude_size fetch)) ok.next
    where
      by : (more : Bool) → StartsOn t.body.code t.slot t.ids t.items more q fetch k → Between class (start fetch k) y
      by true next = quiet class (start fetch k) y (start fetch (suc k)) (same_item t (q + 1) y (start fetch (suc k)) e next) refl refl refl
      by false lands =
          quiet class (start fetch k) y lands.stands.item (same_item t (q + 1) y lands.stands.item e lands.stands.here) lands.stands.due_is
          lands.stands.no_early refl
  item_passes t class q (image insn at early) y ok own e = absurd (true≢false own)
  item_passes t class q (probe_array id at late) y ok own e =
      quiet class (probe_array id at late) y (probe_id id at late) (same_item t (q + 1) y (probe_id id at late) e ok.1) refl refl refl
  item_passes t class q (probe_id id at late) y ok own e =
      quiet class (probe_id id at late) y (probe_one id at late) (same_item t (q + 1) y (probe_one id at late) e ok.1) refl refl refl
  item_passes t class q (probe_one id at late) y ok own e =
      quiet class (probe_one id at late) y (probe_store id at late) (same_item t (q + 1) y (probe_store id at late) e ok.1) refl refl refl
  item_passes t class q (probe_store id at true) y ok own e =
      let same = same_item t (q + 1) y ok.1.item e ok.1.here in
      a_late_one (hit_of class id) refl refl (ap (λ i. option_map (hit_of class) (due_of i)) same ∙ ap (option_map (hit_of class)) ok.1.due_is)
      (ap (λ i. option_map (hit_of class) (early_of i)) same ∙ ap (option_map (hit_of class)) ok.1.no_early)
  item_passes t class q (probe_store id at false) y ok own e =
      let same = same_item t (q + 1) y (image ok.1.0 at (Some id)) e ok.1.1 in
      an_early_one (hit_of class id) refl (ap (λ i. option_map (hit_of class) (due_of i)) same) refl
      (ap (λ i. option_map (hit_of class) (early_of i)) same)
  item_passes t class q (hop to at due) y ok own e =
      let stands = ok.0.stands in quiet class (hop to at due) y stands.item (same_item t to y stands.item e stands.here) stands.due_is stands.no_early refl

  -- the item of a frame that isn't changed is an image
  in_changed : (f f' : Frame) (h : SameFrame p p' sides f f') → own_of h.item ≡ false → (v : ℕ) × ((sides f.method).slot ≡ Some v)
  in_changed f f' h aside = by (sides f.method).slot refl
    where
      by : (o : Option ℕ) → (sides f.method).slot ≡ o → (v : ℕ) × ((sides f.method).slot ≡ Some v)
      by None e = absurd (true≢false (sym (subst (λ s. IsPlain s (sides f.method).items) e h.one.side.plain f'.place h.item h.here) ∙ aside))
      by (Some v) e = (v, e)

  module _ (are : AreSides p p' sides) (s s' : Shared) (ss : SameShared p p' sides s s') where
    -- what a turn of the twin alone does to a thread
    pub record AsideTurned (x x' : Thread) (a : After) : Type 0 where
      pub shared : SameShared p p' sides s a.shared
      pub thread : SameThread p p' sides x a.thread
      pub falls : thread_rank a.thread < thread_rank x'
      pub passes : Passes (due_in p' sides x') (early_in p' sides x') a.hits (due_in p' sides a.thread) (early_in p' sides a.thread)

    -- ---- inside one frame

    alone_after : (x : Item) (class : ℕ) (g f' : Frame) (fs' : List Frame)
        → after_result p' (aside_result x class s' g) s' f' fs' ≡ record { thread = running g fs'; shared = s'; hits = aside_hits x class }
    alone_after (start fetch k) class g f' fs' = refl
    alone_after other class g f' fs' = refl

    alone_turned : (f f' : Frame) (fs fs' : List Frame) (h : SameFrame p p' sides f f') → SameWaits p p' sides fs fs' → own_of h.item ≡ false → (h.item ≡ start fetches.Member 0 → ⊥)
        → (r : Result) → Alone p p' sides f f' h.item s' r → AsideTurned (running f fs) (running f' fs') (after_result p' r s' f' fs')
    alone_turned f f' fs fs' h w aside other r a =
        let t = sides f.method in
        let to : slice_get t.items (after_place f'.place h.item) ≡ Some a.same.item = ap (slice_get t.items) (sym a.to) ∙ a.same.here in
        let lower = h.one.side.ranked.falls f'.place h.item a.same.item h.here aside to in
        let before = rank_top f f' fs' h in
        let behind = rank_top f a.frame fs' a.same in
        let place = ap (λ q. item_rank t q a.same.item) a.to in
        subst (AsideTurned (running f fs) (running f' fs')) (sym (ap (λ x. after_result p' x s' f' fs') a.is ∙ alone_after h.item f.method.class a.frame f' fs'))
        (record {
          shared = ss;
          thread = inl (a.same, w);
          falls = omega (arith, lower, before, behind, place);
          passes = subst₂ (λ d e. Passes d e (aside_hits h.item f.method.class) (due_in p' sides (running a.frame fs')) (early_in p' sides (running a.frame fs')))
              (sym (hit_top due_of f f' h)) (sym (hit_top early_of f f' h))
              (subst₂ (λ d e. Passes (option_map (hit_of f.method.class) (due_of h.item)) (option_map (hit_of f.method.class) (early_of h.item))
              (aside_hits h.item f.method.class) d e) (sym (hit_top due_of f a.frame a.same)) (sym (hit_top early_of f a.frame a.same))
              (item_passes t f.method.class f'.place h.item a.same.item (h.one.side.ok.ok f'.place h.item h.here) aside to));
        })

    plain_turned : (f f' : Frame) (fs fs' : List Frame) (h : SameFrame p p' sides f f') → SameWaits p p' sides fs fs' → own_of h.item ≡ false
        → (h.item ≡ start fetches.Member 0 → ⊥)
        → AsideTurned (running f fs) (running f' fs') (after_result p' (result_of p' s' f') s' f' fs')
    plain_turned f f' fs fs' h w aside other =
        let slot = in_changed f f' h aside in
        alone_turned f f' fs fs' h w aside other (result_of p' s' f')
        (aside_turn p p' sides f f' h.one s' h.item h.here aside other (h.one.side.ok.ok f'.place h.item h.here) h.at h.stack h.locals slot.0 slot.1)

    -- ---- the call of `$jacocoInit`

    module _ (f f' : Frame) (h : SameFrame p p' sides f f') (call : h.item ≡ start fetches.Member 0) (v : ℕ) (c : IsChanged p p' (sides f.method) v) where
      abbrev t : Side
      t = sides f.method

      abbrev e : Entry
      e = init_method p p' sides f.method

      abbrev b : Body
      b = c.pair.added

      abbrev here_at : Location
      here_at = location f.method f'.place t.new t.twin

      -- a class in which the method gives the array
      way : way_of t ≡ fetches.Member
      way = sym (start_way p p' sides f.method h.one.side 0 f'.place fetches.Member (h.here ∙ ap Some call)).2

      added : IsPlainMethod t.class.name init_type 0 0 (init_code (changed_init p.names p'.names t.class t.new c.pair way).places (sum_by probe_count t.class.bodies)) b
      added = (changed_init p.names p'.names t.class t.new c.pair way).method

      pub its_probes : t.new.probes ≡ Some (record { id = c.pair.id; count = sum_by probe_count t.class.bodies; bootstrap = None })
      its_probes = changed_probes p.names p'.names t.class t.new c.pair way

      first : f'.place ≡ 0
      first = (subst (λ x. Ok t.body.code t.slot t.ids t.items f'.place x) call (h.one.side.ok.ok f'.place h.item h.here)).place

      pub next_item : slice_get t.items (f'.place + 1) ≡ Some (start fetches.Member 1)
      next_item = (subst (λ x. Ok t.body.code t.slot t.ids t.items f'.place x) call (h.one.side.ok.ok f'.place h.item h.here)).next

      not_in_init : in_init here_at ≡ false
      not_in_init = ap is_init_name h.one.side.same.name ∙ h.one.side.named

      class_is : class_named p' t.class.name ≡ Some f.method.class
      class_is =
          class_same p p' are.names t.class.name ∙ class_again p are.differ f.method.class t.class h.one.side.class_is

      enterable : is_enterable t.new b ≡ true
      enterable =
          ap (λ x. enter_by x t.new.has_clinit (is_wide t.new b)) added.flags
          ∙ ap (λ x. enter_by 0x100a x (is_wide t.new b)) (h.one.side.has_clinit ∙ h.one.entered)
          ∙ ap (λ x. enter_by 0x100a false (nat_lt (if x then 1004 else 1000) (b.max_locals + b.max_stack))) c.declares
          ∙ ap₂ (λ x y. enter_by 0x100a false (nat_lt 1004 (x + y))) added.max_locals_is added.max_stack

      by_method : has_constant t.new ≡ false
      by_method = ap (λ n. gets_by (fetch_of n)) h.one.side.version ∙ ap gets_by way

      may_name : may_name_method here_at f.method.class b.name ≡ true
      may_name =
          ap (λ q. not (is_init_name b.name) || (nat_eq q 0 && (nat_eq f.method.class f.method.class && not (has_constant t.new)))) first
          ∙ ap (λ x. not (is_init_name b.name) || (x && not (has_constant t.new))) (eq-eqb f.method.class f.method.class refl)
          ∙ ap (λ x. not (is_init_name b.name) || not x) by_method ∙ or_true (not (is_init_name b.name))

      pub giver_is : what_used t.twin.uses t.places.giver ≡ Some (giver_of fetches.Member t.class.name c.pair.bootstrap)
      giver_is = c.gets.giver_is ∙ ap (λ fetch. Some (giver_of fetch t.class.name c.pair.bootstrap)) way

      pub called : callee_named p' t.class.name init_name init_type ≡ Some e
      called =
          ap (option_and_then (λ (k : ℕ). option_and_then (method_in init_name init_type k) (class_at p' k))) class_is
          ∙ ap (option_and_then (method_in init_name init_type f.method.class)) h.one.side.new_is
          ∙ ap (option_map (λ (j : ℕ). record { class = f.method.class; method = j })) (init_found p.names p'.names t.class t.new c.pair way)

      operation : operation_of p' here_at (insns.Member opcode.invokestatic t.places.giver) ≡ invokes e [] 0
      unfolding operation_of
      operation =
          ap (member_operation opcode.invokestatic here_at p') giver_is
          ∙ ap (λ x. if x then profile.init_call here_at (is_fetch t.class.name init_name init_type) (init_of here_at) else method_entered here_at p'
          (callee_named p' t.class.name init_name init_type)) not_in_init
          ∙ ap (method_entered here_at p') called
          ∙ ap (class_entered here_at e) h.one.side.new_is
          ∙ ap (body_entered here_at e t.new) c.added_at
          ∙ ap (λ x. entered_if (x && may_name_method here_at f.method.class b.name) e b) enterable
          ∙ ap (λ x. entered_if x e b) may_name
          ∙ ap (λ (d : List ℕ). invokes e (method_type_in d).parameters b.max_locals) added.desc_is
          ∙ ap₂ (λ x y. invokes e x y) no_parameters added.max_locals_is

      pub enters_init : result_of p' s' f' ≡ calls e [] f'
      unfolding perform
      enters_init =
          let i = twin_insn p p' sides f.method h.one.side f'.place (start fetches.Member 0) (h.here ∙ ap Some call) in
          result_is p' s' f' f.method f'.place t.new t.twin i.0 h.one.method refl h.one.side.new_is h.one.side.twin_is i.1
          ∙ ap (λ x. perform (operation_of p' here_at x) s' f') i.2
          ∙ ap (λ x. perform x s' f') operation

      pub init_named : is_init_method p' e ≡ true
      init_named = init_is p' e t.new b h.one.side.new_is c.added_at ∙ same_bytes b.name init_name added.name

    -- a frame at the prelude's call
    calls_turned : (f f' : Frame) (fs fs' : List Frame) (h : SameFrame p p' sides f f') → SameWaits p p' sides fs fs' → h.item ≡ start fetches.Member 0
        → AsideTurned (running f fs) (running f' fs') (after_result p' (result_of p' s' f') s' f' fs')
    calls_turned f f' fs fs' h w call =
        let t = sides f.method in
        let slot = in_changed f f' h (ap own_of call) in
        let c = h.one.side.changed slot.0 slot.1 in
        let e = init_method p p' sides f.method in
        let g = new_frame e [] in
        let named = init_named f f' h call slot.0 c in
        let before = rank_top f f' fs' h in
        let at_call = ap (item_rank t f'.place) call in
        let behind : thread_rank (running g (f' ∷ fs')) ≡ 12 + first_size t =
        ap (λ b. frames_rank b g (f' ∷ fs')) named ∙ ap (λ m. 12 + first_size (sides m) - 0) h.one.method ∙ omega arith in
        subst (λ r. AsideTurned (running f fs) (running f' fs') (after_result p' r s' f' fs')) (sym (enters_init f f' h call slot.0 c))
        (subst (λ b. AsideTurned (running f fs) (running f' fs')
        (if not b && nat_le 128 (counted_frames p' (f' ∷ fs')) then thrown_in p' (placed thrown.StackOverflowError s') (f' ∷ fs') else after
        (running g (f' ∷ fs')) s')) (sym named)
        (record {
          shared = ss;
          thread = inr (record {
            below = f';
            rest = fs';
            waiting = refl;
            base = h;
            at_call = call;
            waits = w;
            method = refl;
            init = _;
            has = its_probes f f' h call slot.0 c;
            step = reads_field;
            place = refl;
            stack = refl;
          });
          falls = omega (arith, before, at_call, behind);
          passes = nothing refl (ap (λ b. frame_hit p' sides due_of b g) named ∙ sym (hit_top due_of f f' h ∙ ap (λ x. option_map (hit_of f.method.class) (due_of x)) call))
              (ap (λ b. frame_hit p' sides early_of b g) named ∙ sym (hit_top early_of f f' h ∙ ap (λ x. option_map (hit_of f.method.class) (early_of x)) call));
        }))

    -- ---- inside of `$jacocoInit`

    module _ (f f' : Frame) (fs fs' : List Frame) (i : Inside p p' sides f fs f' fs') where
      abbrev under : Side
      under = sides f.method

      abbrev base_changed : (v : ℕ) × (under.slot ≡ Some v)
      base_changed = in_changed f i.below i.base (ap own_of i.at_call)

      abbrev change : IsChanged p p' under base_changed.0
      change = i.base.one.side.changed base_changed.0 base_changed.1

      pub inside_named : is_init_method p' f'.method ≡ true
      inside_named = ap (is_init_method p') i.method ∙ init_named f i.below i.base i.at_call base_changed.0 change

      inside_rank_is : (g : Frame) (step : InitStep) → g.method ≡ f'.method → g.place ≡ step_place step
          → thread_rank (running g fs') ≡ 12 + first_size under - step_place step
      inside_rank_is g step m e =
          ap (λ b. frames_rank b g fs') (ap (is_init_method p') m ∙ inside_named)
          ∙ ap (λ l. inside_rank g.place l) i.waiting
          ∙ ap (λ x. 12 + first_size (sides x) - g.place) i.base.one.method
          ∙ ap (λ x. 12 + first_size under - x) e

      pub inside_none : (id_by : Item → Option ℕ) (g : Frame) → g.method ≡ f'.method → frame_hit p' sides id_by (is_init_method p' g.method) g ≡ None
      inside_none id_by g m = ap (λ b. frame_hit p' sides id_by b g) (ap (is_init_method p') m ∙ inside_named)

      init_same : (x y : ProbeInit) → Some x ≡ Some y → x ≡ y
      init_same x y e = cc

      abbrev its_init : ProbeInit
      its_init = record { id = change.pair.id; count = sum_by probe_count under.class.bodies; bootstrap = None }

      which_init : its_init ≡ i.init
      which_init = init_same its_init i.init (sym (its_probes f i.below i.base i.at_call base_changed.0 change) ∙ i.has)

      turned : Stepped p p' sides s s' f' f.method.class i.init i.step (result_of p' s' f')
      turned =
          subst (λ x. Stepped p p' sides s s' f' f.method.class x i.step (result_of p' s' f')) which_init
          (init_turn p p' sides are f.method i.base.one.side base_changed.0 change (way f i.below i.base i.at_call base_changed.0 change) s s' ss f' i.method i.step i.place
          (i.stack ∙ ap (λ x. step_stack f.method.class x i.step) (sym which_init)))

      goes_turned : (r : Result) → Steps p p' sides s s' f' f.method.class i.init i.step r
          → AsideTurned (running f fs) (running f' fs') (after_result p' r s' f' fs')
      goes_turned r k =
          let before = inside_rank_is f' i.step refl i.place in
          let behind = inside_rank_is k.frame k.next k.method k.place in
          let small = place_small k.next in
          let more = k.later in
          subst (λ x. AsideTurned (running f fs) (running f' fs') (after_result p' x s' f' fs')) (sym k.is)
          (record {
            shared = k.shared;
            thread = inr (record {
              below = i.below;
              rest = i.rest;
              waiting = i.waiting;
              base = i.base;
              at_call = i.at_call;
              waits = i.waits;
              method = k.method ∙ i.method;
              init = i.init;
              has = i.has;
              step = k.next;
              place = k.place;
              stack = k.stack;
            });
            falls = omega (arith, before, behind, small, more);
            passes = nothing refl (inside_none due_of k.frame k.method ∙ sym (inside_none due_of f' refl)) (inside_none early_of k.frame k.method ∙ sym (inside_none early_of f' refl));
          })

      abbrev array_same : probes f.method.class i.init.count ≡ array_of under f.method.class
      array_same = ap (λ o. probes f.method.class (count_in o)) (sym i.has)

      abbrev back : Frame
      back = next_with i.below (probes f.method.class i.init.count ∷ i.below.stack)

      abbrev below_goes : SameFrame p p' sides f back
      below_goes = record {
        one = record { method = i.base.one.method; side = i.base.one.side; entered = i.base.one.entered };
        item = start fetches.Member 1;
        here = next_item f i.below i.base i.at_call base_changed.0 change;
        at = ap at_of (sym i.at_call) ∙ i.base.at;
        stack = ap₂ (λ x l. x ∷ l) array_same (i.base.stack ∙ ap (λ y. pushed_of (array_of under f.method.class) y ++ f.stack) i.at_call);
        locals = stays_unready (array_of under f.method.class) under.slot f.locals i.below.locals (start fetches.Member 0) (start fetches.Member 1) (λ b. b)
            (subst (λ y. SameLocals (array_of under f.method.class) under.slot f.locals i.below.locals y) i.at_call i.base.locals);
      }

      leaves_turned : (r : Result) → r ≡ leaves (Some (probes f.method.class i.init.count)) → i.step ≡ gives_back
          → AsideTurned (running f fs) (running f' fs') (after_result p' r s' f' fs')
      leaves_turned r e last =
          let before = inside_rank_is f' i.step refl i.place in
          let behind = rank_top f back i.rest below_goes in
          let ten : step_place i.step ≡ 10 = ap step_place last in
          subst₂ (λ x l. AsideTurned (running f fs) (running f' fs') (after_result p' x s' f' l)) (sym e) (sym i.waiting)
          (record {
            shared = ss;
            thread = inl (below_goes, i.waits);
            falls = omega (arith, before, behind, ten);
            passes = nothing refl (hit_top due_of f back below_goes ∙ sym (inside_none due_of f' refl))
                (hit_top early_of f back below_goes ∙ sym (inside_none early_of f' refl));
          })

      pub inside_turned : AsideTurned (running f fs) (running f' fs') (after_result p' (result_of p' s' f') s' f' fs')
      inside_turned = ⊎_elim (λ k. goes_turned (result_of p' s' f') k) (λ k. leaves_turned (result_of p' s' f') k.0 k.1) turned

    -- ---- a frame that stands at no image

    pub aside_turned : (f f' : Frame) (fs fs' : List Frame) (h : SameFrame p p' sides f f') → SameWaits p p' sides fs fs' → (x : Item) → h.item ≡ x
        → own_of x ≡ false
        → AsideTurned (running f fs) (running f' fs') (after_result p' (result_of p' s' f') s' f' fs')
    aside_turned f f' fs fs' h w (start fetches.Member zero) e aside = calls_turned f f' fs fs' h w e
    aside_turned f f' fs fs' h w (start fetches.Member (suc k)) e aside = plain_turned f f' fs fs' h w (ap own_of e) (λ q. apart (sym e ∙ q))
      where
        apart : start fetches.Member (suc k) ≡ start fetches.Member 0 → ⊥
        apart q = let one : 1 ≡ 0 = ap extra_of q in omega (arith, one)
    aside_turned f f' fs fs' h w (start fetches.Constant k) e aside = plain_turned f f' fs fs' h w (ap own_of e) (λ q. apart (sym e ∙ q))
      where
        apart : start fetches.Constant k ≡ start fetches.Member 0 → ⊥
        apart q = let no = ap fetch_in q in cc
    aside_turned f f' fs fs' h w (image insn at early) e aside = absurd (true≢false aside)
    aside_turned f f' fs fs' h w (probe_array id at late) e aside = plain_turned f f' fs fs' h w (ap own_of e) (λ q. apart (sym e ∙ q))
      where
        apart : probe_array id at late ≡ start fetches.Member 0 → ⊥
        apart q = cc
    aside_turned f f' fs fs' h w (probe_id id at late) e aside = plain_turned f f' fs fs' h w (ap own_of e) (λ q. apart (sym e ∙ q))
      where
        apart : probe_id id at late ≡ start fetches.Member 0 → ⊥
        apart q = cc
    aside_turned f f' fs fs' h w (probe_one id at late) e aside = plain_turned f f' fs fs' h w (ap own_of e) (λ q. apart (sym e ∙ q))
      where
        apart : probe_one id at late ≡ start fetches.Member 0 → ⊥
        apart q = cc
    aside_turned f f' fs fs' h w (probe_store id at late) e aside = plain_turned f f' fs fs' h w (ap own_of e) (λ q. apart (sym e ∙ q))
      where
        apart : probe_store id at late ≡ start fetches.Member 0 → ⊥
        apart q = cc
    aside_turned f f' fs fs' h w (hop to at due) e aside = plain_turned f f' fs fs' h w (ap own_of e) (λ q. apart (sym e ∙ q))
      where
        apart : hop to at due ≡ start fetches.Member 0 → ⊥
        apart q = cc

    -- ---- an own turn

    -- a frame at an own instruction, and the frame at its image
    pub at_image : (f f' : Frame) (h : SameFrame p p' sides f f') (insn : Insn) (at : ℕ) (early : Option ℕ) → h.item ≡ image insn at early
        → AtImage p p' sides f f' insn early
    at_image f f' h insn at early e =
        let t = sides f.method in
        let place : at ≡ f.place = ap at_of (sym e) ∙ h.at in
        let is : h.item ≡ image insn f.place early = e ∙ ap (λ k. image insn k early) place in
        record {
          one = h.one;
          here = h.here ∙ ap Some is;
          stack = h.stack ∙ ap (λ y. pushed_of (array_of t f.method.class) y ++ f.stack) is;
          locals = subst (λ y. SameLocals (array_of t f.method.class) t.slot f.locals f'.locals y) is h.locals;
        }

    pub own_turned : (f f' : Frame) (fs fs' : List Frame) (h : SameFrame p p' sides f f') → SameWaits p p' sides fs fs'
        → (insn : Insn) (at : ℕ) (early : Option ℕ) → h.item ≡ image insn at early
        → SameAfter p p' sides (after_result p (result_of p s f) s f fs) (after_result p' (result_of p' s' f') s' f' fs')
    own_turned f f' fs fs' h w insn at early e =
        let o = at_image f f' h insn at early e in
        after_same p p' sides s s' ss f f' fs fs' insn early o w (result_of p s f) (result_of p' s' f') (own_result p p' sides are f f' insn early o s s' ss)
