-- The operands of each instruction of a twin suit, where those of the original do.
use Rattle.std.proofs.Common.{◌≡◌, ⊎_elim, ℕ, zero, suc, ◌<◌, ◌≤◌, true, List, length, map, Option, Some, None, refl, sym, ◌∙◌, ap, subst, arith}
use Rattle.std.specs.Prelude.{slice_get, option_map, Contains, IsTrue}
use Rattle.std.proofs.lemmas.Bool.{cases_lt, false≢true}
use Rattle.std.proofs.lemmas.Option.{slice_get-map, same_Some}
use Rattle.jc_bytes.proofs.BooleanLaws.{stands_in, none_in}
use Rattle.jc_bytes.proofs.ListLaws.{each_in}
use Rattle.jc_bytes.proofs.OptionLaws.{none_some}
use Rattle.jc_methods.specs.EntryState.{entry_of}
use Rattle.jc_methods.specs.ProbeMembers.{fetch_of}
use Rattle.jc_methods.specs.VerificationTypes.{TypeState, type_state}
use Rattle.jc_methods.specs.WellMade.{IsWellMade}
use Rattle.jc_methods.specs.declared.body.Body.{Body}
use Rattle.jc_methods.specs.declared.insn.Insn.{Insn}
use Rattle.jc_methods.specs.declared.kind.State.{State}
use Rattle.jc_methods.specs.declared.probe_members.Fetch.{Fetch}
use Rattle.jc_methods.specs.declared.probe_members.Fetch.TheVariants as fetches
use Rattle.jc_programs.specs.declared.program.Program.{Program}
use Rattle.jc_programs.specs.declared.program.Linked.{Linked}
use Rattle.jc_programs.specs.declared.run_end.Entry.{Entry}
use Rattle.jc_kinds_after.specs.After.{ground_of}
use Rattle.jc_kinds_after.specs.Shift.{renamed}
use Rattle.jc_kinds_after.proofs.AfterLaws.{classes_stay}
use Rattle.jc_kinds_after.proofs.ApplyLaws.{after_is}
use Rattle.jc_kinds.specs.Checked.{Checked}
use Rattle.jc_kinds.specs.States.{state_of}
use Rattle.jc_plan.specs.Probed.{first_id}
use Rattle.jc_emit.specs.Added.{giver_of}
use Rattle.jc_emit.specs.Items.{Item, start, image, probe_array, probe_id, probe_one, probe_store, hop, insn_of, at_of, own_of, marks_of_items}
use Rattle.jc_emit.specs.Items.{prelude, image_of, twin_items}
use Rattle.jc_emit.specs.Marks.{Marks, bastore, prelude_size}
use Rattle.jc_emit.specs.Twin.{Twin}
use Rattle.jc_emit.specs.TwinFrames.{state_at}
use Rattle.jc_emit.proofs.BuiltLaws.{some_prelude, prelude_at}
use Rattle.jc_emit.proofs.KnownLaws.{marks_known}
use Rattle.jc_emit.proofs.LocalLaws.{twin_ok}
use Rattle.jc_emit.proofs.PiecesLaws.{HasAt}
use Rattle.jc_emit.proofs.TwinCheckedLaws.{item_state}
use Rattle.jc_emit.proofs.TwinPlacesLaws.{state_b}
use Rattle.jc_emit.proofs.TwinPremisesLaws.{Premises, premises, stands, images}
use Rattle.jc_emit.proofs.TwinSoundLaws.{IsStateOf}
use Rattle.jc_emit.proofs.TwinStatesLaws.{Begun, all_begun, state_0}
use Rattle.jc_twin_programs.specs.SeenProgram.{IsSeenTwin, IsSeenAt}
use Rattle.jc_twin_programs.specs.TwinProgram.{TwinProgram}
use Rattle.jc_machine_model.specs.Fits.{made_in}
use Rattle.jc_machine_model.specs.Methods.{is_enterable}
use Rattle.jc_machine_model.specs.Operations.{Operation}
use Rattle.jc_machine_model.specs.Profile.{Location, operation_of}
use Rattle.jc_machine_model.specs.Step.{operation_at}
use Rattle.jc_twin_simulation.specs.Sides.{Side, IsSide, AreSides, AreMarksOf}
use Rattle.jc_twin_simulation.proofs.FrameLaws.{location, located_is}
use Rattle.jc_refs_check.specs.Needs.{Need, needs_of}
use Rattle.jc_refs_check.specs.RefsOk.{is_taken, operand, operation_of_place, OperandsSuit, RefsOk}
use Rattle.jc_refs_laws.proofs.AlikeLaws.{needs_taken}
use Rattle.jc_refs_laws.proofs.ImageNeedsLaws.{image_needs}
use Rattle.jc_refs_laws.proofs.NeedLaws.{needs_below}
use Rattle.jc_refs_laws.proofs.NeedlessLaws.{NeedsNothing, load_nothing, one_nothing, goto_nothing, id_nothing, start_nothing, store_taken}
use Rattle.jc_refs_laws.proofs.PoolTakenLaws.{each_looks}
use Rattle.jc_refs_laws.proofs.TakenLaws.{taken, Looks, LooksAt}

-- lists of items of which the same is said have their images at the same places
same_image : (items others : List Item) → map own_of others ≡ map own_of items → map at_of others ≡ map at_of items
    → (q i : ℕ) (insn : Insn) (early : Option ℕ) → slice_get items q ≡ Some (image insn i early)
    → (new : Insn) × (other : Option ℕ) × (slice_get others q ≡ Some (image new i other))
same_image items others own at q i insn early here = by (slice_get others q) refl (said own_of own) (said at_of at)
  where
    said : {X : Type 0} (of : Item → X) → map of others ≡ map of items → option_map of (slice_get others q) ≡ Some (of (image insn i early))
    said of same =
        sym (slice_get-map of others q) ∙ ap (λ l. slice_get l q) same ∙ slice_get-map of items q ∙ ap (option_map of) here

    by : (o : Option Item) → slice_get others q ≡ o → option_map own_of o ≡ Some true → option_map at_of o ≡ Some i
        → (new : Insn) × (other : Option ℕ) × (slice_get others q ≡ Some (image new i other))
    by None e f g = absurd (none_some f)
    by (Some (image new j other)) e f g = (new, other, e ∙ ap (λ k. Some (image new k other)) (same_Some j i g))
    by (Some x) e f g = absurd (false≢true (same_Some (own_of x) true f))

module _ (p p' : Program) (before : TwinProgram p p') (marks : Entry → Marks) (sides : Entry → Side) (are : AreSides p p' sides)
    (told : AreMarksOf p p' marks sides) (suited : RefsOk p) where
  module _ (method : Entry) (class new : Linked) (b b' : Body) (at : IsSeenAt p p' method.class method.method class new b b' (marks method))
      (seen : IsSeenTwin p.names p'.names class new method.method b b' (marks method)) (enterable : IsTrue (is_enterable class b)) where
    abbrev first : ℕ
    first = first_id class.bodies method.method

    abbrev states : List State
    states = seen.twin.states

    abbrev fetch : Fetch
    fetch = fetch_of class.version

    abbrev twin : Twin p.names p'.names states fetch (giver_of fetch class.name seen.pair.bootstrap) first b b'
    twin = seen.twin.twin

    made : IsWellMade b × Checked p.names b
    made = before.checked class (stands_in p.classes method.class class at.class_at) b (stands_in class.bodies method.method b at.body_at)

    known : Premises p.names p'.names states first twin.form twin.places b b'
    known =
        premises p.names p'.names states fetch class.name seen.pair.bootstrap first b b' made.0.of_any_size made.1 seen.twin.are
        (seen.pair.none_straddles b (stands_in class.bodies method.method b at.body_at)) twin

    abbrev items : List Item
    items = twin_items b first twin.form

    abbrev S : ℕ → TypeState
    S i = type_state p.names (state_at states i)

    side : IsSide p p' method (sides method)
    side = are.side method class b at.class_at at.body_at

    -- ---- one instruction

    abbrev place : ℕ → Location
    place q = location method q new b'

    abbrev TakesAll : Operation → TypeState → Type 0
    TakesAll o s = (n : Need) → Contains (needs_of o) n → is_taken b' n (operand n.above s.stack) ≡ true

    suits_by : (q : ℕ) (insn : Insn) (s : TypeState) → slice_get b'.code q ≡ Some insn → TakesAll (operation_of p' (place q) insn) s
        → OperandsSuit p' method b' q s
    suits_by q insn s here takes n c =
        takes n (subst (λ o. Contains (needs_of (operation_at p' o)) n) (located_is p' method q new b' insn at.new_at at.new_body_at here) c)

    insn_is : (q : ℕ) (x : Item) → slice_get items q ≡ Some x → slice_get b'.code q ≡ Some (insn_of twin.places b.arg_slots x)
    insn_is q x here = stands p.names p'.names states first twin.form twin.places b b' known q x here

    nothing_suits : (q : ℕ) (x : Item) (s : TypeState) → slice_get items q ≡ Some x → NeedsNothing (insn_of twin.places b.arg_slots x)
        → OperandsSuit p' method b' q s
    nothing_suits q x s here nothing =
        suits_by q (insn_of twin.places b.arg_slots x) s (insn_is q x here)
        (λ n c. absurd (none_in n (subst (λ l. Contains l n) (nothing p' (place q)) c)))

    -- ---- the prelude

    -- at the first instruction the stack is empty, and the kind check looks at each operand of which it needs something
    first_looks : (after : TypeState) → (g : Begun p.names p'.names states first twin.form twin.places b b' known 0 after)
        → LooksAt (operation_of p' (place 0) g.insn) g.before.stack
    unfolding Looks
    first_looks after g = each_looks p' (place 0) g.insn (ground_of b' 0) g.before after (sym (after_is b' 0 g.before g.insn g.stands) ∙ g.after_is)

    first_by : (after : TypeState) → Begun p.names p'.names states first twin.form twin.places b b' known 0 after → (s : TypeState)
        → OperandsSuit p' method b' 0 s
    first_by after g s = suits_by 0 g.insn s g.stands (λ n c. absurd (none_needed n c))
      where
        empty : length g.before.stack ≡ 0
        empty =
            ap (λ (t : TypeState). length t.stack)
            (same_Some g.before (entry_of b') (sym g.state_is ∙ state_0 p.names p'.names states first twin.form twin.places b b' known))

        none_needed : (n : Need) → Contains (needs_of (operation_of p' (place 0) g.insn)) n → ⊥
        none_needed n c =
            let o = operation_of p' (place 0) g.insn in
            let below = each_in (λ (m : Need). m.above < taken o) (needs_of o) n (needs_below o) c in
            let enough = (first_looks after g).operands.enough in
            let none = empty in
            omega (arith, below, enough, none)

    first_suits : (s : TypeState) → OperandsSuit p' method b' 0 s
    first_suits s =
        let begun = all_begun p.names p'.names states first twin.form twin.places b b' known in
        let size = begun.size in
        let some = some_prelude twin.form.fetch in
        let g = begun.others 0 (omega (arith, size, some)) in
        first_by (record { locals = (entry_of b').locals; stack = g.0 }) g.1 s

    prelude_item : (fetch : Fetch) → HasAt items 0 (prelude fetch) → (q : ℕ) → q < prelude_size fetch → slice_get items q ≡ Some (start fetch q)
    prelude_item fetches.Member h zero lt = h.0
    prelude_item fetches.Member h (suc zero) lt = h.1.0
    prelude_item fetches.Member h (suc (suc k)) lt = absurd (omega (arith, lt))
    prelude_item fetches.Constant h zero lt = h.0
    prelude_item fetches.Constant h (suc zero) lt = h.1.0
    prelude_item fetches.Constant h (suc (suc zero)) lt = h.1.1.0
    prelude_item fetches.Constant h (suc (suc (suc k))) lt = absurd (omega (arith, lt))

    prelude_suits : (q : ℕ) → q < prelude_size twin.form.fetch → (s : TypeState) → OperandsSuit p' method b' q s
    prelude_suits zero lt s = first_suits s
    prelude_suits (suc k) lt s =
        nothing_suits (suc k) (start twin.form.fetch (suc k)) s (prelude_item twin.form.fetch (prelude_at b first twin.form) (suc k) lt)
        (start_nothing twin.form.fetch twin.places b.arg_slots (suc k) (omega arith) lt)

    -- ---- images

    image_suits : (q i : ℕ) (insn : Insn) (early : Option ℕ) (s : TypeState) → slice_get items q ≡ Some (image insn i early)
        → s.stack ≡ map (renamed (image_of b first twin.form)) (S i).stack → OperandsSuit p' method b' q s
    image_suits q i insn early s here stack_is n c =
        subst (λ l. is_taken b' n (operand n.above l) ≡ true) (sym stack_is)
        (needs_taken (image_of b first twin.form) b b' stays
        (needs_of (operation_of_place p method i)) (needs_of (operation_of_place p' method q)) (S i).stack
        (image_needs p p' sides are method side q i other.0 other.1 other.2) old n c)
      where
        same : marks method ≡ marks_of_items items
        same = seen.marks ∙ marks_known b first twin.form twin.places b'.code twin.marks made.0.of_any_size.code twin.code

        other : (new : Insn) × (early : Option ℕ) × (slice_get (sides method).items q ≡ Some (image new i early))
        other =
            let t = told method side in
            let own = sym t.own ∙ ap (λ (m : Marks). m.own) same in
            same_image items (sides method).items own (sym t.at ∙ ap (λ (m : Marks). m.at) same) q i insn early here

        stays : (k : ℕ) → made_in b' (image_of b first twin.form k) ≡ made_in b k
        stays =
            classes_stay b.arg_slots (image_of b first twin.form) b b'
            (images p.names p'.names states first twin.form twin.places b b' known)

        within : i < length b.code
        within = ((twin_ok b first twin.form made.0.of_any_size.code).ok q (image insn i early) here).0

        old : OperandsSuit p method b i (S i)
        old =
            (suited method b i (record { linked = class; class_is = at.class_at; body_is = at.body_at; enterable = enterable; within = within })).operands
            (S i) (state_b p.names p'.names states first twin.form twin.places b b' known i within)

    -- ---- behind the prelude

    item_suits : (q : ℕ) → prelude_size twin.form.fetch ≤ q → (x : Item) → slice_get items q ≡ Some x → (s : TypeState)
        → IsStateOf p.names p'.names states first twin.form twin.places b b' known x s → OperandsSuit p' method b' q s
    item_suits q past (image insn i early) here s is = image_suits q i insn early s here (ap (λ (t : TypeState). t.stack) is)
    item_suits q past (probe_array id i late) here s is = nothing_suits q (probe_array id i late) s here (load_nothing b.arg_slots)
    item_suits q past (probe_id id i late) here s is = nothing_suits q (probe_id id i late) s here (id_nothing twin.places.integer id)
    item_suits q past (probe_one id i late) here s is = nothing_suits q (probe_one id i late) s here one_nothing
    item_suits q past (hop to i due) here s is = nothing_suits q (hop to i due) s here (goto_nothing to)
    item_suits q past (probe_store id i late) here s is =
        suits_by q bastore s (insn_is q (probe_store id i late) here)
        (λ n c.
        subst (λ (t : TypeState). is_taken b' n (operand n.above t.stack) ≡ true) (sym is.1)
        (store_taken p' (place q) b' (map (renamed (image_of b first twin.form)) is.0.stack) n c))
    item_suits q past (start fetch k) here s is =
        let ok = (twin_ok b first twin.form made.0.of_any_size.code).ok q (start fetch k) here in
        let some = some_prelude twin.form.fetch in
        let at_is = ok.place in
        nothing_suits q (start fetch k) s here (start_nothing fetch twin.places b.arg_slots k (omega (arith, some, past, at_is)) ok.within)

    -- the operands of each instruction of the twin suit
    pub twin_operands : (q : ℕ) → q < length b'.code → (s : TypeState) → state_of p'.names b' q ≡ Some s → OperandsSuit p' method b' q s
    twin_operands q lt s state_is =
        ⊎_elim (λ front. prelude_suits q front s)
        (λ past.
        let w = item_state p.names p'.names states first twin.form twin.places b b' known q past lt in
        subst (OperandsSuit p' method b' q) (same_Some w.before s (sym w.state_is ∙ state_is)) (item_suits q past w.item w.here w.before w.is))
        (cases_lt q (prelude_size twin.form.fetch))
