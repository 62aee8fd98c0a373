-- The twin of a body that passes the kind check passes it too.
use Rattle.std.proofs.Common.{◌≡◌, inl, inr, ⊎_elim, ℕ, zero, suc, ◌+◌, ◌-◌, ◌<◌, ◌≤◌, Bool, true, false, List, [], ◌∷◌, length, Option, Some, is_some, refl, sym, ap, ◌∙◌, subst, arith, add-one, get_or, nat_eq, if◌then◌else◌}
use Rattle.std.specs.Prelude.{Contains, slice_get, codes, ◌≢◌}
use Rattle.std.proofs.lemmas.Bool.{cases_lt, eqb-false}
use Rattle.std.proofs.lemmas.Option.{slice_get-get_or, slice_get_within, same_Some}
use Rattle.std.proofs.lemmas.List.Elements.{All-contains}
use Rattle.jc_methods.specs.Flow.{targets_of, FallsThrough, FallsInto}
use Rattle.jc_methods.specs.InsnUse.{IsClass}
use Rattle.jc_methods.specs.WellMade.{IsHandler, HasUse, IsWellMadeOfAnySize, what_used}
use Rattle.jc_methods.specs.declared.kind.State.{State}
use Rattle.jc_methods.specs.declared.body.Body.{Body}
use Rattle.jc_methods.specs.declared.body.Handler.{Handler}
use Rattle.jc_methods.specs.VerificationTypes.{Names, VerificationType, object, TypeState, type_state}
use Rattle.jc_methods.specs.EntryState.{entry_of}
use Rattle.jc_kinds_after.specs.After.{class_in}
use Rattle.jc_kinds.specs.States.{state_of, after_at}
use Rattle.jc_kinds.specs.Fits.{Fits}
use Rattle.jc_kinds.specs.Checked.{LeadsTo, Guards, HasFrame, NeedsFrame, IsMissing, caught, at_handler, Checked}
use Rattle.jc_kinds.specs.Answers.{AreStates}
use Rattle.jc_kinds_after.specs.Shift.{renamed, shifted}
use Rattle.jc_bytes.proofs.BooleanLaws.{none_in, of_map}
use Rattle.jc_emit.specs.Sizes.{TwinForm}
use Rattle.jc_emit.specs.Straddling.{NoneStraddles}
use Rattle.jc_emit.specs.TwinTables.{moved_row}
use Rattle.jc_emit.specs.TwinFrames.{state_at}
use Rattle.jc_methods.specs.declared.probe_members.Fetch.{Fetch}
use Rattle.jc_emit.specs.Added.{giver_of}
use Rattle.jc_emit.specs.Twin.{Twin}
use Rattle.jc_emit.specs.Marks.{TwinPlaces, prelude_size}
use Rattle.jc_emit.specs.Items.{Item, start, segment, lead_of, land_of, image_of, twin_items}
use Rattle.jc_kinds.specs.Flows.{EachBy, StateBy, ThereBy, FlowsBy, IsFlow}
use Rattle.jc_emit.proofs.FlowLaws.{each_on, state_same, state_shift, there_fit, fit_there, kind_flow, kind_flows, fits_there_back}
use Rattle.jc_emit.proofs.PiecesLaws.{each_at, had_at}
use Rattle.jc_emit.proofs.BuiltLaws.{sized, segment_at}
use Rattle.jc_emit.proofs.PlacedLaws.{no_targets}
use Rattle.jc_emit.proofs.TwinPremisesLaws.{Premises, premises, premises_by, code_long, asked_has, leads_grow, same_use}
use Rattle.jc_emit.proofs.TwinPlacesLaws.{state_b}
use Rattle.jc_emit.proofs.TwinStatesLaws.{after_there, Begun, IsBegun, all_begun, state_0}
use Rattle.jc_emit.proofs.TwinLeadsLaws.{framed, landing_frame, all_led, all_landed}
use Rattle.jc_emit.proofs.TwinSegmentLaws.{segment_fine}
use Rattle.jc_emit.proofs.TwinSoundLaws.{Sound, Near, IsStateOf, Fine}

module _ (names new_names : Names) (states : List State) (first : ℕ) (form : TwinForm) (named : TwinPlaces) (b b' : Body) (p : Premises names new_names states first form named b b') where
  abbrev land : ℕ → ℕ
  land i = land_of b first form i

  abbrev lead : ℕ → ℕ
  lead i = lead_of b first form i

  abbrev moved : TypeState → TypeState
  moved s = shifted (image_of b first form) b.arg_slots s

  abbrev S : ℕ → TypeState
  S i = type_state names (state_at states i)

  abbrev N : ℕ → Option TypeState
  N q = state_of new_names b' q

  abbrev SoundAt : ℕ → Type 0
  SoundAt q = Sound names new_names states first form named b b' p q

  -- ---- the prelude

  abbrev At : ℕ → TypeState → Type 0
  At k after = Begun names new_names states first form named b b' p k after

  -- an instruction that goes on, where its state fits what stands behind it
  begun_sound : (k : ℕ) (after : TypeState) → At k after → ThereBy p.passes (Some after) (N (k + 1)) → SoundAt k
  begun_sound k after g fits = record {
    insn = g.insn;
    stands = g.stands;
    before = g.before;
    state_is = g.state_is;
    after = after;
    after_is = g.after_is;
    next = λ falls. fits;
    stops = λ halts. absurd (halts (inl g.goes_on));
    jumps = λ r c. absurd (none_in r (subst (λ l. Contains l r) (no_targets g.insn (inl g.goes_on)) c));
  }

  begun : IsBegun names new_names states first form named b b' p form.fetch
  begun = all_begun names new_names states first form named b b' p

  prelude_sound : (k : ℕ) → k < prelude_size form.fetch → SoundAt k
  prelude_sound k lt =
      let size = begun.size in
      ⊎_elim
      (λ below.
      let g = begun.others k below in
      let after : TypeState = record { locals = (entry_of b').locals; stack = g.0 } in
      begun_sound k after g.1 (subst (λ q. ThereBy p.passes (Some after) (N q)) (sym (add-one k)) (fit_there p.passes (N (suc k)) after after g.2 (state_same p.flow after))))
      (λ above.
      let last : begun.last ≡ k = omega (arith, size, above, lt) in
      subst SoundAt last (begun_sound begun.last (moved (entry_of b)) begun.store store_fits))
      (cases_lt k begun.last)
    where
      store_fits : ThereBy p.passes (Some (moved (entry_of b))) (N (begun.last + 1))
      store_fits =
          let some = p.well.code.some in
          let l = all_led names new_names states first form named b b' p 0 (omega (arith, some)) in
          let size = begun.size in
          let first_lead : lead 0 ≡ begun.last + 1 = omega (arith, size) in
          subst (λ q. ThereBy p.passes (Some (moved (entry_of b))) (N q)) first_lead
          (fit_there p.passes (N (lead 0)) (moved (entry_of b)) (moved l.before) l.state_is
          (state_shift p.flow (image_of b first form) b.arg_slots (entry_of b) l.before (l.begins refl)))

  -- ---- each place belongs to an instruction

  record Piece (q : ℕ) : Type 0 where
    owner : ℕ
    within : owner < length b.code
    low : lead owner ≤ q
    high : q < lead (suc owner)

  piece_of : (n q : ℕ) → n ≤ length b.code → prelude_size form.fetch ≤ q → q < lead n → Piece q
  piece_of zero q le low high = absurd (omega (arith, low, high))
  piece_of (suc n) q le low high =
      ⊎_elim (λ lt. piece_of n q (omega (arith, le)) low lt)
      (λ ge. record { owner = n; within = omega (arith, le); low = ge; high = high })
      (cases_lt q (lead n))

  near_piece : (q : ℕ) (i : ℕ) → (lt : i < length b.code) → lead i ≤ q → q < lead (suc i)
      → (w : SoundAt q) × Near names new_names states first form named b b' p i w.before
  near_piece q i lt low high =
      let k = q - lead i in
      let long = sized b first form i in
      let within : k < length (segment b first form i) = omega (arith, low, high, long) in
      let place : lead i + k ≡ q = omega (arith, low) in
      let found = slice_get-get_or (segment b first form i) k (start form.fetch 0) within in
      subst (λ m. (w : SoundAt m) × Near names new_names states first form named b b' p i w.before) place
      (let f = each_at (Fine names new_names states first form named b b' p i) (lead i) (segment b first form i) k _
      (segment_fine names new_names states first form named b b' p i lt) found in (f.0, f.1))

  long : length b'.code ≡ lead (length b.code)
  long = code_long names new_names states first form named b b' p

  sound : (q : ℕ) → q < length b'.code → SoundAt q
  sound q lt =
      ⊎_elim (λ front. prelude_sound q front)
      (λ past.
      let l = long in
      let piece = piece_of (length b.code) q (omega arith) past (omega (arith, lt, l)) in
      (near_piece q piece.owner piece.within piece.low piece.high).0)
      (cases_lt q (prelude_size form.fetch))

  -- the state before each item behind the prelude
  pub record ItemState (q : ℕ) : Type 0 where
    pub item : Item
    pub here : slice_get (twin_items b first form) q ≡ Some item
    pub before : TypeState
    pub state_is : N q ≡ Some before
    pub is : IsStateOf names new_names states first form named b b' p item before

  pub item_state : (q : ℕ) → prelude_size form.fetch ≤ q → q < length b'.code → ItemState q
  item_state q past lt = subst ItemState place by
    where
      piece : Piece q
      piece = let l = long in piece_of (length b.code) q (omega arith) past (omega (arith, lt, l))

      k : ℕ
      k = q - lead piece.owner

      place : lead piece.owner + k ≡ q
      place = let low = piece.low in omega (arith, low)

      within : k < length (segment b first form piece.owner)
      within =
          let long = sized b first form piece.owner in
          let low = piece.low in
          let high = piece.high in
          omega (arith, low, high, long)

      by : ItemState (lead piece.owner + k)
      by =
          let found = slice_get-get_or (segment b first form piece.owner) k (start form.fetch 0) within in
          let fine = each_at (Fine names new_names states first form named b b' p piece.owner) (lead piece.owner) (segment b first form piece.owner) k _
          (segment_fine names new_names states first form named b b' p piece.owner piece.within) found in
          record {
            item = get_or (segment b first form piece.owner) k (start form.fetch 0);
            here = had_at (twin_items b first form) (lead piece.owner) (segment b first form piece.owner) k _ (segment_at b first form piece.owner piece.within) found;
            before = fine.0.before;
            state_is = fine.0.state_is;
            is = fine.2;
          }

  -- ---- handlers

  old_row : (h : Handler) → Contains b'.handlers h
      → (g : Handler) × Contains b.handlers g × (h ≡ moved_row (lead_of b first form) (land_of b first form) g)
  old_row h c =
      of_map (moved_row (lead_of b first form) (land_of b first form)) b.handlers h (subst (λ l. Contains l h) p.tables.handlers_are c)

  row_is : (g : Handler) → Contains b.handlers g → IsHandler (length b.code) g
  row_is g c = All-contains (IsHandler (length b.code)) b.handlers g p.well.handlers c

  handler_frame : (g : Handler) → Contains b.handlers g → HasFrame b' (land g.target)
  handler_frame g c =
      let f = framed names new_names states first form named b b' p g.target (row_is g c).target (inr (inl (g, c, refl))) in
      let a = landing_frame names new_names states first form named b b' p g.target f in
      asked_has names new_names states first form named b b' p (land g.target) a.0 a.1

  -- what the handler finds on the stack is the same
  same_caught : (g : Handler) → Contains b.handlers g → caught b' (moved_row (lead_of b first form) (land_of b first form) g) ≡ caught b g
  same_caught g c = by (nat_eq g.class 0) refl
    where
      by : (t : Bool) → nat_eq g.class 0 ≡ t
          → (if t then object (codes "java/lang/Throwable") else object (class_in (what_used b'.uses g.class)))
          ≡ (if t then object (codes "java/lang/Throwable") else object (class_in (what_used b.uses g.class)))
      by true e = refl
      by false e =
          let used = All-contains (λ h. h.class ≢ 0 → HasUse b.uses h.class IsClass) b.handlers g p.well.uses.by_handlers c (eqb-false g.class 0 e) in
          ap (λ o. object (class_in o)) (same_use names new_names states first form named b b' p g.class IsClass used)

  caught_stays : (g : Handler) → renamed (image_of b first form) (caught b g) ≡ caught b g
  caught_stays g = by (nat_eq g.class 0)
    where
      by : (t : Bool)
          → renamed (image_of b first form) (if t then object (codes "java/lang/Throwable") else object (class_in (what_used b.uses g.class)))
          ≡ (if t then object (codes "java/lang/Throwable") else object (class_in (what_used b.uses g.class)))
      by true = refl
      by false = refl

  -- a row that guards an instruction guards the one to whose part it belongs
  record Guarded (h : Handler) (q : ℕ) : Type 0 where
    old : Handler
    row : Contains b.handlers old
    same : h ≡ moved_row (lead_of b first form) (land_of b first form) old
    at : ℕ
    within : at < length b.code
    low : lead at ≤ q
    high : q < lead (suc at)
    guards : Guards b old at

  guarded : (h : Handler) (q : ℕ) → Guards b' h q → q < length b'.code → Guarded h q
  guarded h q guards lt =
      let o = old_row h guards.row in
      let g = o.0 in
      let e = o.2 in
      let begun : lead g.start ≤ q = let s = guards.start in let m = ap (λ (x : Handler). x.start) e in omega (arith, s, m) in
      let end : q < lead g.end = let s = guards.end in let m = ap (λ (x : Handler). x.end) e in omega (arith, s, m) in
      let l = long in
      let piece = piece_of (length b.code) q (omega arith) (omega (arith, begun)) (omega (arith, lt, l)) in
      let i = piece.owner in
      let low = piece.low in let high = piece.high in
      let above : g.start ≤ i = ⊎_elim (λ below. let m = leads_grow names new_names states first form named b b' p (suc i) g.start below in
      absurd (omega (arith, m, high, begun))) (λ le. le) (cases_lt i g.start) in
      let below : i < g.end = ⊎_elim (λ lt. lt) (λ le. let m = leads_grow names new_names states first form named b b' p g.end i le in absurd (omega (arith, m, low, end))) (cases_lt i g.end) in
      record {
        old = g;
        row = o.1;
        same = e;
        at = i;
        within = piece.within;
        low = low;
        high = high;
        guards = record { row = o.1; start = above; end = below };
      }

  -- the state at a handler is that at the handler of the body, whose row guards an instruction too
  pub record HandlerState (h : Handler) : Type 0 where
    pub old : Handler
    pub at : ℕ
    pub within : at < length b.code
    pub guards : Guards b old at
    pub caught_is : caught b' h ≡ caught b old
    pub old_is : state_of names b old.target ≡ Some (S old.target)
    pub state_is : N h.target ≡ Some (moved (S old.target))

  pub handler_state : (h : Handler) (q : ℕ) → Guards b' h q → q < length b'.code → HandlerState h
  handler_state h q guards lt =
      let g = guarded h q guards lt in
      let target = (row_is g.old g.row).target in
      record {
        old = g.old;
        at = g.at;
        within = g.within;
        guards = g.guards;
        caught_is = ap (caught b') g.same ∙ same_caught g.old g.row;
        old_is = state_b names new_names states first form named b b' p g.old.target target;
        state_is = ap (λ (x : Handler). N x.target) g.same ∙ all_landed names new_names states first form named b b' p g.old.target target;
      }

  handled : (h : Handler) (q : ℕ) → Guards b' h q → q < length b'.code → ThereBy p.passes (at_handler b' h (N q)) (N h.target)
  handled h q guards lt =
      let o = guarded h q guards lt in
      let g = o.old in
      let e = o.same in
      let i = o.at in
      let row = row_is g o.row in
      let w = near_piece q i o.within o.low o.high in
      let target = row.target in
      let there = all_landed names new_names states first form named b b' p g.target target in
      let s : TypeState = record { locals = (S i).locals; stack = caught b g ∷ [] } in
      let before : state_of names b i ≡ Some (S i) = state_b names new_names states first form named b b' p i o.within in
      let fits : StateBy p.passes s (S g.target) =
      there_fit p.passes (at_handler b g (state_of names b i)) (state_of names b g.target) s (S g.target)
      (ap (at_handler b g) before) (state_b names new_names states first form named b b' p g.target target)
      (p.flows.handlers g i o.guards o.within) in
      let shifted_fits = state_shift p.flow (image_of b first form) b.arg_slots s (S g.target) fits in
      let all : StateBy p.passes (record { locals = w.0.before.locals; stack = caught b g ∷ [] }) (moved (S g.target)) = record {
        locals = each_on p.flow w.0.before.locals (moved (S i)).locals (moved (S g.target)).locals w.1 shifted_fits.locals;
        stack = subst (λ (x : VerificationType). EachBy p.passes (x ∷ []) (moved (S g.target)).stack) (caught_stays g) shifted_fits.stack;
      } in
      let mine : at_handler b' (moved_row (lead_of b first form) (land_of b first form) g) (N q) ≡ Some (record { locals = w.0.before.locals; stack = caught b g ∷ [] }) =
      ap (at_handler b' (moved_row (lead_of b first form) (land_of b first form) g)) w.0.state_is
      ∙ ap (λ (x : VerificationType). Some (record { locals = w.0.before.locals; stack = x ∷ [] })) (same_caught g o.row) in
      subst (λ (x : Handler). ThereBy p.passes (at_handler b' x (N q)) (N x.target)) (sym e)
      (subst (λ o. ThereBy p.passes o (N (land g.target))) (sym mine)
      (fit_there p.passes (N (land g.target)) (record { locals = w.0.before.locals; stack = caught b g ∷ [] }) (moved (S g.target)) there all))

  -- ---- frames

  no_missing : (r : ℕ) → IsMissing b' r → ⊥
  no_missing r m = by m.needs
    where
      by : NeedsFrame b' r → ⊥
      by (inl j) =
          let jump = j.1 in
          let s = sound j.0 (slice_get_within b'.code j.0 jump.insn jump.stands) in
          let same : jump.insn ≡ s.insn = same_Some jump.insn s.insn (sym jump.stands ∙ s.stands) in
          m.none (s.jumps r (subst (λ x. Contains (targets_of x) r) same jump.target)).0
      by (inr (inl t)) =
          let o = old_row t.0 t.1 in
          let place : land o.0.target ≡ r = sym (ap (λ (x : Handler). x.target) o.2) ∙ t.2 in
          m.none (subst (HasFrame b') place (handler_frame o.0 o.1))
      by (inr (inr f)) = behind r m.within m.none f.0 f.1
        where
          behind : (r : ℕ) → r < length b'.code → (HasFrame b' r → ⊥) → r ≢ 0 → (FallsInto b' r → ⊥) → ⊥
          behind zero lt none not free = not refl
          behind (suc q) lt none not free =
              let s = sound q (omega (arith, lt)) in
              let up = add-one q in
              none (subst (HasFrame b') up (s.stops (λ falls. free (q, sym up, record { insn = s.insn; stands = s.stands; falls = falls })) (omega (arith, lt))))

  -- ---- the check

  after_is_there : (q : ℕ) (s : SoundAt q) → after_at new_names b' q ≡ Some s.after
  after_is_there q s = after_there new_names b' q s.before s.after s.state_is s.after_is

  branch_fits : (q r : ℕ) → LeadsTo b' q r → ThereBy p.passes (after_at new_names b' q) (N r)
  branch_fits q r (inl g) =
      let falls = g.0 in
      let s = sound q (slice_get_within b'.code q falls.insn falls.stands) in
      let same : falls.insn ≡ s.insn = same_Some falls.insn s.insn (sym falls.stands ∙ s.stands) in
      subst (λ o. ThereBy p.passes o (N r)) (sym (after_is_there q s)) (subst (λ k. ThereBy p.passes (Some s.after) (N k)) (sym g.1) (s.next (subst FallsThrough same falls.falls)))
  branch_fits q r (inr j) =
      let s = sound q (slice_get_within b'.code q j.insn j.stands) in
      let same : j.insn ≡ s.insn = same_Some j.insn s.insn (sym j.stands ∙ s.stands) in
      subst (λ o. ThereBy p.passes o (N r)) (sym (after_is_there q s)) (s.jumps r (subst (λ x. Contains (targets_of x) r) same j.target)).1

  pub twin_flows : FlowsBy p.passes new_names b'
  twin_flows = record {
    entry = fit_there p.passes (N 0) (entry_of b') (entry_of b') (state_0 names new_names states first form named b b' p) (state_same p.flow (entry_of b'));
    branches = branch_fits;
    handlers = handled;
  }

  pub twin_after : (q : ℕ) → q < length b'.code → is_some (after_at new_names b' q) ≡ true
  twin_after q lt = ap is_some (after_is_there q (sound q lt))

-- a twin flows along each relation that twins keep, where its body does
pub flows_too : {S : VerificationType → VerificationType → Type 0} → IsFlow S → (names new_names : List (List ℕ)) (states : List State) (fetch : Fetch)
    (class : List ℕ) (bootstrap first : ℕ) (b b' : Body) → IsWellMadeOfAnySize b → Checked names b → FlowsBy S names b → AreStates names b states → NoneStraddles b
    → Twin names new_names states fetch (giver_of fetch class bootstrap) first b b' → FlowsBy S new_names b'
flows_too flow names new_names states fetch class bootstrap first b b' well checked flows are free t =
    twin_flows names new_names states first t.form t.places b b'
    (premises_by flow names new_names states fetch class bootstrap first b b' well checked flows are free t)

pub verified : (names new_names : List (List ℕ)) (states : List State) (fetch : Fetch) (class : List ℕ) (bootstrap first : ℕ) (b b' : Body)
    → IsWellMadeOfAnySize b → Checked names b → AreStates names b states → NoneStraddles b
    → Twin names new_names states fetch (giver_of fetch class bootstrap) first b b' → Checked new_names b'
verified names new_names states fetch class bootstrap first b b' well checked are free t = record {
  none_missing = no_missing names new_names states first t.form t.places b b' p;
  entry = fits_there_back (Some (entry_of b')) (state_of new_names b' 0) f.entry;
  after = twin_after names new_names states first t.form t.places b b' p;
  branches = λ i j l. fits_there_back (after_at new_names b' i) (state_of new_names b' j) (f.branches i j l);
  handlers = λ h i g lt. fits_there_back (at_handler b' h (state_of new_names b' i)) (state_of new_names b' h.target) (f.handlers h i g lt);
}
  where
    p : Premises names new_names states first t.form t.places b b'
    p = premises names new_names states fetch class bootstrap first b b' well checked are free t

    f : FlowsBy Fits new_names b'
    f = flows_too kind_flow names new_names states fetch class bootstrap first b b' well checked (kind_flows names b checked) are free t
