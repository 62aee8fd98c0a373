-- Worlds that fit and are in the relation that is told in terms of the two programs stand beside each other.
use Rattle.std.proofs.Common.{◌≡◌, inl, inr, ⊎_elim, ℕ, zero, suc, ◌<◌, ◌≤◌, Bool, true, false, not, ◌&&◌, List, [], ◌∷◌, ◌++◌, length, drop, Option, Some, None, option_and_then, nat_eq, nat_le, refl, sym, ap, ap₂, ◌∙◌, subst, subst₂, arith, if◌then◌else◌}
use Rattle.std.specs.Prelude.{IsTrue, slice_get, slice_index_or}
use Rattle.std.specs.List.{AllByRecursion}
use Rattle.std.proofs.lemmas.Bool.{true≢false, eqb-true, eqb-false, and_parts, not-true, cases_lt}
use Rattle.std.proofs.lemmas.Option.{none-some, same_Some, get_or_from_slice_get, slice_get_past}
use Rattle.jc_bytes.proofs.BooleanLaws.{stands_in}
use Rattle.jc_bytes.proofs.ListLaws.{mapped_at}
use Rattle.jc_methods.specs.Opcode as opcode
use Rattle.jc_methods.specs.Flow.{flow_of}
use Rattle.jc_methods.specs.WellMade.{what_used}
use Rattle.jc_methods.specs.ProbeMembers.{data_name, most_short, fetch_of}
use Rattle.jc_methods.specs.declared.probe_members.Fetch.{Fetch}
use Rattle.jc_methods.specs.declared.probe_members.Fetch.TheVariants as fetches
use Rattle.jc_methods.specs.declared.insn.Insn.{Insn}
use Rattle.jc_methods.specs.declared.insn.Insn.TheVariants as insns
use Rattle.jc_methods.specs.declared.insn.Flow.TheVariants as flows
use Rattle.jc_methods.specs.declared.body.Body.{Body}
use Rattle.jc_methods.specs.declared.body.Use.{Use}
use Rattle.jc_programs.specs.declared.program.Program.{Program}
use Rattle.jc_programs.specs.declared.program.Linked.{Linked}
use Rattle.jc_programs.specs.declared.program.StaticField.{StaticField}
use Rattle.jc_programs.specs.declared.run_end.Entry.{Entry}
use Rattle.jc_programs.specs.Members.{class_at, body_of}
use Rattle.jc_emit.specs.Items.{Item, start, image, probe_array, probe_id, probe_one, probe_store, hop, at_of, extra_of}
use Rattle.jc_emit.specs.Local.{OkImage}
use Rattle.jc_emit.specs.Marks.{TwinPlaces, Marks, PushesBy, Pushes, prelude_size}
use Rattle.jc_emit.specs.Sizes.{insn_at}
use Rattle.jc_emit.specs.Added.{data_static}
use Rattle.jc_twin_programs.specs.TwinProgram.{IsPair, IsChangedPair, IsUnchangedPair}
use Rattle.jc_plan.specs.Edges.{sequence}
use Rattle.jc_machine_model.specs.Values.{Value, probes}
use Rattle.jc_machine_model.specs.Heap.{HeapObject}
use Rattle.jc_machine_model.specs.World.{Frame, Thread, running, returned, threw, stuck, Shared, World}
use Rattle.jc_machine_model.specs.Fits.{AreInSlots, KeepsPairs, StandsIn, FitsTop, IsPlace, named_by, called_by, StandsAtCall, FitsWaiting, FitEachWaiting, FitsThread, FitsWorld}
use Rattle.jc_machine_model.specs.Locals.{is_pair_there}
use Rattle.jc_machine_model.specs.Methods.{is_init_name, declares_init, is_native, is_wide, is_plain}
use Rattle.jc_methods.specs.EntryState.{is_static, entry_of}
use Rattle.jc_methods.specs.VerificationTypes.{TypeState}
use Rattle.jc_kinds.specs.States.{state_of}
use Rattle.jc_machine_model.specs.Profile.{Location, gets_by, has_constant}
use Rattle.jc_emit.specs.Seen.{IsInsnOf, IsPlain}
use Rattle.jc_emit.proofs.ToldLaws.{mapped}
use Rattle.jc_machine_model.specs.Step.{LocatedInsn, located_in_body, located_in_class, located, named_init, is_init_method}
use Rattle.jc_twin_simulation.specs.Same.{twin_slot, array_slot, is_named_data, is_data_in, is_data, frames_of}
use Rattle.jc_twin_simulation.specs.Same as spec
use Rattle.jc_twin_simulation.specs.Sides.{Side, count_in, array_of, way_of, IsSide, AreSides, AreMarksOf}
use Rattle.jc_twin_simulation.specs.Beside.{pushed_of, null_or, step_stack, SameLocals, OneMethod, SameFrame, SameWait, SameWaits, init_method, SameStuck, Inside, extra_in, SameStatics, values_of, SameShared, SameThread, SameThreads, Beside}
use Rattle.jc_twin_simulation.specs.Mid.{count_of, array_in, prelude_of, ArePushed, HasProbeState, HasInitState, HasTopState, HasState, Mid}
use Rattle.jc_twin_simulation.proofs.ClassLaws.{other_name, changed_statics, constant_statics, unchanged_data, changed_data, constant_data}
use Rattle.jc_twin_simulation.proofs.FrameLaws.{body_is, location, twin_insn}
use Rattle.jc_twin_simulation.proofs.TurnLaws.{giver_is, called}
use Rattle.jc_twin_simulation.proofs.PlaceLaws.{any_at}
use Rattle.jc_twin_simulation.proofs.SameLaws.{slot_is, no_class, last_is, one_more, is_added}
use Rattle.jc_twin_simulation.proofs.PushedLaws.{item_off}
use Rattle.jc_twin_simulation.proofs.PreludeLaws.{array_there, array_apart, value_apart}
use Rattle.jc_twin_simulation.proofs.SlotLaws.{read-shifted}
use Rattle.jc_twin_simulation.proofs.MidLaws.{number_form, past_prelude, prelude_is}
use Rattle.jc_twin_simulation.proofs.InsertLaws.{same_items, below, has_room, around, class_statics, no_statics}

-- ---- frames

module _ (p p' : Program) (sides : Entry → Side) (marks : Entry → Marks) (are : AreSides p p' sides) (told : AreMarksOf p p' marks sides) where
  array_is : (m : Entry) → IsSide p p' m (sides m) → array_in p' m.class ≡ array_of (sides m) m.class
  array_is m side = ap (λ (o : Option Linked). probes m.class (count_of o)) side.new_is

  class_of : (m : Entry) (c : Linked) → IsSide p p' m (sides m) → slice_get p.classes m.class ≡ Some c → (sides m).class ≡ c
  class_of m c side h = same_Some (sides m).class c (sym side.class_is ∙ h)

  body_of_side : (m : Entry) (c : Linked) (b : Body) → IsSide p p' m (sides m) → slice_get p.classes m.class ≡ Some c → slice_get c.bodies m.method ≡ Some b
      → (sides m).body ≡ b
  body_of_side m c b side h k =
      same_Some (sides m).body b (sym side.body_is ∙ ap (λ (x : Linked). slice_get x.bodies m.method) (class_of m c side h) ∙ k)

  -- a thread stands in a method that it may enter
  one_method : (f f' : Frame) {s : _} → f'.method ≡ f.method → StandsIn p f s → OneMethod p p' sides f f'
  one_method f f' m st =
      let side = are.side f.method st.linked st.body st.class_is st.body_is in
      record {
        method = m;
        side = side;
        entered = ap (λ (c : Linked). c.has_clinit) (class_of f.method st.linked side st.class_is) ∙ no_clinit st.linked st.body st.entered;
      }
    where
      no_clinit : (c : Linked) (b : Body) → IsTrue (is_plain c b) → c.has_clinit ≡ false
      no_clinit c b h =
          not-true c.has_clinit
          (and_parts (not c.has_clinit) (not (is_wide c b))
          (and_parts (not (is_native b)) (not c.has_clinit && not (is_wide c b))
          (and_parts (is_static b.flags) (not (is_native b) && (not c.has_clinit && not (is_wide c b))) h).1).1).0

  -- ---- local variables of a frame that fits

  record FitsLocals (f' : Frame) : Type 0 where
    state : TypeState
    stands : StandsIn p' f' state
    locals : AreInSlots f'.locals state.locals
    pairs : KeepsPairs f'.locals

  top_locals : (f' : Frame) → FitsTop p' f' → FitsLocals f'
  top_locals f' h = record { state = h.state; stands = h.stands; locals = h.locals; pairs = h.pairs }

  waiting_locals : (f' : Frame) (callee : Entry) → FitsWaiting p' f' callee → FitsLocals f'
  waiting_locals f' callee h = record { state = h.state; stands = h.stands; locals = h.locals; pairs = h.pairs }

  -- in the prelude they are of the types with which the method begins
  entry_locals : (f f' : Frame) (o : OneMethod p p' sides f f') → FitsLocals f' → (v : ℕ) → (sides f.method).slot ≡ Some v → f'.place < prelude_size (way_of (sides f.method))
      → AreInSlots f'.locals (entry_of (sides f.method).twin).locals
  entry_locals f f' o fits v e lt =
      let t = sides f.method in
      let st = fits.stands in
      let class : st.linked ≡ t.new =
      same_Some st.linked t.new (sym st.class_is ∙ ap (λ (m : Entry). slice_get p'.classes m.class) o.method ∙ o.side.new_is) in
      let body : st.body ≡ t.twin =
      same_Some st.body t.twin
      (sym st.body_is ∙ ap (λ (m : Entry). slice_get st.linked.bodies m.method) o.method
      ∙ ap (λ (c : Linked). slice_get c.bodies f.method.method) class ∙ o.side.twin_is) in
      let b = (o.side.changed v e).begins f'.place lt in
      let entry : TypeState = record { locals = (entry_of t.twin).locals; stack = b.0 } in
      let state : fits.state ≡ entry =
      same_Some fits.state entry (sym st.state_is ∙ ap (λ (x : Body). state_of p'.names x f'.place) body ∙ b.1) in
      subst (λ (s : TypeState). AreInSlots f'.locals s.locals) state fits.locals

  prelude_here : (f f' : Frame) → OneMethod p p' sides f f' → prelude_of p' f'.method.class ≡ prelude_size (way_of (sides f.method))
  prelude_here f f' o = ap (λ (m : Entry). prelude_of p' m.class) o.method ∙ prelude_is p p' sides marks are told f.method o.side

  -- what is known of the one that is added
  record Added (f' : Frame) (v : ℕ) : Type 0 where
    held : Option Value
    there : slice_get f'.locals v ≡ Some held
    ready : prelude_of p' f'.method.class ≤ f'.place → held ≡ Some (array_in p' f'.method.class)
    apart : (k : ℕ) → v ≡ suc k → is_pair_there (slice_index_or f'.locals k None) ≡ false

  added_at : (f f' : Frame) (o : OneMethod p p' sides f f') → HasProbeState p' marks f' → FitsLocals f' → (v : ℕ) → (sides f.method).slot ≡ Some v
      → array_slot p' f.method ≡ Some v → Added f' v
  added_at f f' o has fits v e slot = ⊎_elim in_prelude behind (cases_lt f'.place (prelude_of p' f'.method.class))
    where
      in_prelude : f'.place < prelude_of p' f'.method.class → Added f' v
      in_prelude lt =
          let are = entry_locals f f' o fits v e (subst (λ n. f'.place < n) (prelude_here f f' o) lt) in
          record {
            held = slice_index_or f'.locals v None;
            there = array_there p p' sides f.method o.side v e f'.locals are;
            ready = λ le. absurd (omega (arith, lt, le));
            apart = λ k q. array_apart p p' sides f.method o.side v e f'.locals are fits.pairs k q;
          }

      behind : prelude_of p' f'.method.class ≤ f'.place → Added f' v
      behind le =
          let here = has.array v (ap (array_slot p') o.method ∙ slot) le in
          record {
            held = Some (array_in p' f'.method.class);
            there = here;
            ready = λ h. refl;
            apart = λ k q. value_apart f'.locals k (array_in p' f'.method.class) fits.pairs (ap (slice_get f'.locals) (sym q) ∙ here);
          }

  -- the local variables, where the probe array's is known
  locals_of : (f f' : Frame) (o : OneMethod p p' sides f f') → spec.SameFrame p' marks f f' → HasProbeState p' marks f' → FitsLocals f' → (x : Item)
      → slice_get (sides f.method).items f'.place ≡ Some x → (slot : Option ℕ) → (sides f.method).slot ≡ slot
      → SameLocals (array_of (sides f.method) f.method.class) slot f.locals f'.locals x
  locals_of f f' o same has fits x here None e =
      same_items f'.locals f.locals
      (λ k. ap (λ s. slice_get f'.locals (twin_slot s k)) (sym (slot_is p p' sides f.method o.side ∙ e)) ∙ same.slots k)
  locals_of f f' o same has fits x here (Some v) e =
      let t = sides f.method in
      let slot = slot_is p p' sides f.method o.side ∙ e in
      let k = added_at f f' o has fits v e slot in
      let slots : (j : ℕ) → slice_get f'.locals (twin_slot (Some v) j) ≡ slice_get f.locals j =
      λ j. ap (λ s. slice_get f'.locals (twin_slot s j)) (sym slot) ∙ same.slots j in
      let is = around v f.locals f'.locals k.held k.there slots in
      let room = has_room v f.locals f'.locals k.held k.there slots in
      record {
        room = room;
        held = k.held;
        around = is;
        ready = λ b.
            k.ready (subst (λ n. n ≤ f'.place) (sym (prelude_here f f' o)) (past_prelude p p' sides f.method o.side f'.place x v e here b))
            ∙ ap Some (ap (λ (m : Entry). array_in p' m.class) o.method ∙ array_is f.method o.side);
        apart = λ j q.
            let lt : j < v = omega arith in
            ap is_pair_there
            (sym (read-shifted v j f.locals k.held room) ∙ ap (λ l. slice_index_or l (twin_slot (Some v) j) None) (sym is)
            ∙ ap (λ i. slice_index_or f'.locals i None) (below v f.locals f'.locals k.held k.there slots j lt))
            ∙ k.apart j q;
      }

  frame_of : (f f' : Frame) → OneMethod p p' sides f f' → spec.SameFrame p' marks f f' → HasProbeState p' marks f' → FitsLocals f' → SameFrame p p' sides f f'
  frame_of f f' o same has fits =
      let t = sides f.method in
      let a = array_of t f.method.class in
      let m = told f.method o.side in
      let i = mapped_at at_of t.items f'.place f.place (ap (λ l. slice_get l f'.place) (sym m.at) ∙ same.place) in
      let x = i.0 in
      let marked : slice_get (marks f.method).extra f'.place ≡ Some (extra_of x) =
      ap (λ l. slice_get l f'.place) m.extra ∙ mapped extra_of t.items f'.place x i.1 in
      let more : same.extra ≡ extra_of x = same_Some same.extra (extra_of x) (sym same.extra_is ∙ marked) in
      let body : body_of p' f'.method ≡ Some t.twin = ap (body_of p') o.method ∙ body_is p' f.method t.new t.twin o.side.new_is o.side.twin_is in
      let array : array_in p' f'.method.class ≡ a = ap (λ (e : Entry). array_in p' e.class) o.method ∙ array_is f.method o.side in
      let pushed = subst₂ (λ n v. ArePushed n v t.twin f'.place (extra_of x) f'.stack) (prelude_here f f' o) array
      (has.pushed t.twin (extra_of x) body (ap (λ e. slice_get (marks e).extra f'.place) o.method ∙ marked)) in
      record {
        one = o;
        item = x;
        here = i.1;
        at = i.2;
        stack =
            item_off p p' sides f.method o.side a f'.place x f'.stack i.1 pushed
            ∙ ap (λ l. pushed_of a x ++ l) (ap (λ n. drop n f'.stack) (sym more) ∙ sym same.stack);
        locals = locals_of f f' o same has fits x i.1 t.slot refl;
      }

  -- ---- frames that wait

  -- what stands at a call
  member_called : (r : Program) (at : Location) (insn : Insn) (e : Entry) → called_by r at insn ≡ Some e → (op : ℕ) × (place : ℕ) × (insn ≡ insns.Member op place)
  member_called r at (insns.Member op place) e h = (op, place, refl)
  member_called r at insn e h = absurd (none-some e h)

  -- an item whose instruction names a member is an image or the call of the prelude
  data IsCalling (x : Item) : Type 0 where
    an_image : (new : Insn) (at : ℕ) (early : Option ℕ) → x ≡ image new at early → IsCalling x
    the_prelude : x ≡ start fetches.Member 0 → IsCalling x

  no_number : (uses : List Use) (n op place : ℕ) → Pushes uses (insns.Member op place) n → ⊥
  no_number uses n op place h = by (nat_le n most_short) h
    where
      by : (short : Bool) → PushesBy short uses (insns.Member op place) n → ⊥
      by true e = ⊎_elim (λ k. let no = e ∙ k.1 in cc) (λ k. let no = e ∙ k.1 in cc) (number_form n)
      by false e = let no = e.1 in cc

  calling : (uses : List Use) (named : TwinPlaces) (v : ℕ) (x : Item) (insn : Insn) (op place : ℕ) → IsInsnOf uses named v x insn → insn ≡ insns.Member op place → IsCalling x
  calling uses named v (start fetches.Member zero) insn op place h e = the_prelude refl
  calling uses named v (image new at early) insn op place h e = an_image new at early refl
  calling uses named v (start fetches.Member (suc zero)) insn op place h e = let no = sym h ∙ e in cc
  calling uses named v (start fetches.Member (suc (suc k))) insn op place h e = let no = sym h ∙ e in cc
  calling uses named v (start fetches.Constant zero) insn op place h e = let no = sym h ∙ e in cc
  calling uses named v (start fetches.Constant (suc zero)) insn op place h e = let no = sym h ∙ e in cc
  calling uses named v (start fetches.Constant (suc (suc zero))) insn op place h e = let no = sym h ∙ e in cc
  calling uses named v (start fetches.Constant (suc (suc (suc k)))) insn op place h e = let no = sym h ∙ e in cc
  calling uses named v (probe_array id at late) insn op place h e = let no = sym h ∙ e in cc
  calling uses named v (probe_id id at late) insn op place h e = absurd (no_number uses id op place (subst (λ i. Pushes uses i id) e h))
  calling uses named v (probe_one id at late) insn op place h e = let no = sym h ∙ e in cc
  calling uses named v (probe_store id at late) insn op place h e = let no = sym h ∙ e in cc
  calling uses named v (hop to at due) insn op place h e = let no = sym h ∙ e in cc

  -- the instruction at a place of a method that is there
  insn_there : (r : Program) (m : Entry) (q : ℕ) (i : LocatedInsn) (c : Linked) (b : Body) → slice_get r.classes m.class ≡ Some c
      → slice_get c.bodies m.method ≡ Some b → located r m q ≡ Some i
      → (slice_get b.code q ≡ Some i.insn) × (i.at ≡ location m q c b)
  insn_there r m q i c b e h k = by (slice_get b.code q) refl (sym (ap (option_and_then (λ (x : Linked). located_in_class m.class q x (slice_get x.bodies m.method))) e
      ∙ ap (located_in_class m.class q c) h) ∙ k)
    where
      by : (o : Option Insn) → slice_get b.code q ≡ o → located_in_body m.class c q b o ≡ Some i → (slice_get b.code q ≡ Some i.insn) × (i.at ≡ location m q c b)
      by None l k = absurd (none-some i k)
      by (Some insn) l k =
          let same = same_Some (record { at = location m q c b; insn = insn }) i k in
          (l ∙ ap (λ (x : LocatedInsn). Some x.insn) same, sym (ap (λ (x : LocatedInsn). x.at) same))

  module _ (s s' : Shared) (ss : SameShared p p' sides s s') where
    -- the prelude's call calls `$jacocoInit`
    prelude_calls : (f f' : Frame) (h : SameFrame p p' sides f f') → h.item ≡ start fetches.Member 0 → (v : ℕ) → (sides f.method).slot ≡ Some v → (callee : Entry)
        → StandsAtCall p' f' callee → callee ≡ init_method p p' sides f.method
    prelude_calls f f' h call v e callee at =
        let t = sides f.method in
        let side = h.one.side in
        let c = side.changed v e in
        let there = insn_there p' f.method f'.place at.insn t.new t.twin side.new_is side.twin_is (ap (λ m. located p' m f'.place) (sym h.one.method) ∙ at.stands) in
        let twin = twin_insn p p' sides f.method side f'.place (start fetches.Member 0) (h.here ∙ ap Some call) in
        let insn : at.insn.insn ≡ insns.Member opcode.invokestatic t.places.giver = same_Some at.insn.insn twin.0 (sym there.0 ∙ twin.1) ∙ twin.2 in
        let named : called_by p' at.insn.at at.insn.insn ≡ Some (init_method p p' sides f.method) =
        ap (called_by p' at.insn.at) insn ∙ ap (λ (l : Location). named_by p' (what_used l.body.uses t.places.giver)) there.1
        ∙ ap (named_by p') (giver_is p p' sides are s s' ss f f' h call v c) ∙ called p p' sides are s s' ss f f' h call v c in
        same_Some callee (init_method p p' sides f.method) (sym at.calls ∙ named)

    -- that method isn't one of the original
    not_of_program : (m : Entry) → IsSide p p' m (sides m) → (n : Entry) → IsSide p p' n (sides n) → n ≡ init_method p p' sides m → ⊥
    not_of_program m side n other e =
        let class : slice_get p.classes n.class ≡ Some (sides m).class = ap (λ (x : Entry). slice_get p.classes x.class) e ∙ side.class_is in
        let same : (sides n).class ≡ (sides m).class = class_of n (sides m).class other class in
        let there : slice_get (sides m).class.bodies (length (sides m).class.bodies) ≡ Some (sides n).body =
        ap₂ (λ (c : Linked) (x : Entry). slice_get c.bodies x.method) (sym same) (sym e) ∙ other.body_is in
        none-some (sides n).body (sym (slice_get_past (sides m).class.bodies (length (sides m).class.bodies) (omega arith)) ∙ there)

    slot_of_call : (m : Entry) → IsSide p p' m (sides m) → (q : ℕ) → slice_get (sides m).items q ≡ Some (start fetches.Member 0) → (v : ℕ) × ((sides m).slot ≡ Some v)
    slot_of_call m side q here = by (sides m).slot refl
      where
        by : (o : Option ℕ) → (sides m).slot ≡ o → (v : ℕ) × ((sides m).slot ≡ Some v)
        by None e = absurd (true≢false (sym (subst (λ s. IsPlain s (sides m).items) e side.plain q (start fetches.Member 0) here)))
        by (Some v) e = (v, e)

    wait_of : (f f' : Frame) (callee callee' : Entry) (h : SameFrame p p' sides f f') → FitsWaiting p f callee → FitsWaiting p' f' callee'
        → (callee' ≡ init_method p p' sides f.method → ⊥) → SameWait p p' sides f f'
    wait_of f f' callee callee' h w w' other =
        let t = sides f.method in
        let side = h.one.side in
        let there = insn_there p' f.method f'.place w'.at_call.insn t.new t.twin side.new_is side.twin_is
        (ap (λ m. located p' m f'.place) (sym h.one.method) ∙ w'.at_call.stands) in
        let twin = twin_insn p p' sides f.method side f'.place h.item h.here in
        let member = member_called p' w'.at_call.insn.at w'.at_call.insn.insn callee' w'.at_call.calls in
        by (calling t.twin.uses t.places t.body.arg_slots h.item twin.0 member.0 member.1 twin.2 (same_Some twin.0 w'.at_call.insn.insn (sym twin.1 ∙ there.0) ∙ member.2))
      where
        goes_on : flow_of (insn_at (sides f.method).body.code f.place) ≡ flows.GoesOn
        goes_on =
            let t = sides f.method in
            let old = insn_there p f.method f.place w.at_call.insn t.class t.body h.one.side.class_is h.one.side.body_is w.at_call.stands in
            let member = member_called p w.at_call.insn.at w.at_call.insn.insn callee w.at_call.calls in
            ap flow_of (get_or_from_slice_get t.body.code f.place w.at_call.insn.insn (insns.Simple 0) old.0 ∙ member.2)

        by : IsCalling h.item → SameWait p p' sides f f'
        by (an_image new at early e) =
            let t = sides f.method in
            let place : at ≡ f.place = ap at_of (sym e) ∙ h.at in
            let is : h.item ≡ image new f.place early = e ∙ ap (λ k. image new k early) place in
            let here = h.here ∙ ap Some is in
            let ok = h.one.side.ok.ok f'.place (image new f.place early) here in
            let next = subst (OkImage t.body.code t.slot t.ids t.items f'.place f.place (insn_at t.body.code f.place) new) goes_on ok.2 in
            record {
              one = h.one;
              insn = new;
              early = early;
              here = here;
              next = (t.ids (sequence f.place), next.1.stands);
              stack = h.stack ∙ ap (λ y. pushed_of (array_of t f.method.class) y ++ f.stack) is;
              locals = subst (λ y. SameLocals (array_of t f.method.class) t.slot f.locals f'.locals y) is h.locals;
            }
        by (the_prelude e) =
            let s = slot_of_call f.method h.one.side f'.place (h.here ∙ ap Some e) in
            absurd (other (prelude_calls f f' h e s.0 s.1 callee' w'.at_call))

    -- the frames that wait below frames of a method of the original
    waits_of : (fs fs' : List Frame) (m m' : Entry) → m' ≡ m → IsSide p p' m (sides m) → spec.SameFrames p' marks fs fs'
        → AllByRecursion (HasProbeState p' marks) fs' → FitEachWaiting p m fs → FitEachWaiting p' m' fs' → SameWaits p p' sides fs fs'
    waits_of [] [] m m' e side s h w w' = tt
    waits_of (f ∷ fs) (f' ∷ fs') m m' e side s h w w' =
        let o = one_method f f' s.0.method w.0.stands in (
          wait_of f f' m m' (frame_of f f' o s.0 h.0 (waiting_locals f' m' w'.0)) w.0 w'.0 (λ q. not_of_program f.method o.side m side (sym e ∙ q)),
          waits_of fs fs' f.method f'.method s.0.method o.side s.1 h.1 w.1 w'.1,
        )
    waits_of [] (f' ∷ fs') m m' e side s h w w' = absurd s
    waits_of (f ∷ fs) [] m m' e side s h w w' = absurd s

    -- ---- `$jacocoInit`

    init_declares : (m : Entry) (c : Linked) → slice_get p'.classes m.class ≡ Some c → is_init_method p' m ≡ true → declares_init c ≡ true
    init_declares m c e h = by (slice_get c.bodies m.method) refl (sym (ap named_init (ap (option_and_then (λ (x : Linked). slice_get x.bodies m.method)) e)) ∙ h)
      where
        by : (o : Option Body) → slice_get c.bodies m.method ≡ o → named_init o ≡ true → declares_init c ≡ true
        by None k n = absurd (true≢false (sym n))
        by (Some b) k n = any_at (λ (x : Body). is_init_name x.name) c.bodies m.method b k n

    inside_of : (f : Frame) (fs : List Frame) (f' below : Frame) (rest : List Frame) → OneMethod p p' sides f below → spec.SameFrame p' marks f below
        → spec.SameFrames p' marks fs rest → HasInitState p' marks f' → HasProbeState p' marks below → AllByRecursion (HasProbeState p' marks) rest
        → FitEachWaiting p f.method fs → FitsWaiting p' below f'.method → FitEachWaiting p' below.method rest → is_init_method p' f'.method ≡ true
        → Inside p p' sides f fs f' (below ∷ rest)
    inside_of f fs f' below rest o same others init has more w w' wait named =
        let t = sides f.method in
        let at = w'.below_init named in
        let class : f'.method.class ≡ f.method.class = sym at.1 ∙ ap (λ (e : Entry). e.class) o.method in
        let new : slice_get p'.classes f'.method.class ≡ Some t.new = ap (slice_get p'.classes) class ∙ o.side.new_is in
        let declares = init_declares f'.method t.new new named in
        let base = frame_of f below o same has (waiting_locals below f'.method w') in
        let linked : w'.stands.linked ≡ t.new =
        same_Some w'.stands.linked t.new (sym w'.stands.class_is ∙ ap (λ (m : Entry). slice_get p'.classes m.class) o.method ∙ o.side.new_is) in
        let member = member_way f.method o.side (ap has_constant (sym linked) ∙ w'.below_member named) (way_of t) refl in
        by t.slot refl declares base at.0 class new member
      where
        member_way : (m : Entry) → IsSide p p' m (sides m) → has_constant (sides m).new ≡ false → (fetch : Fetch) → way_of (sides m) ≡ fetch
            → way_of (sides m) ≡ fetches.Member
        member_way m side none fetches.Member way = way
        member_way m side none fetches.Constant way =
            absurd (true≢false (sym (ap (λ n. gets_by (fetch_of n)) side.version ∙ ap gets_by way) ∙ none))

        by : (slot : Option ℕ) → (sides f.method).slot ≡ slot → declares_init (sides f.method).new ≡ true → (base : SameFrame p p' sides f below) → below.place ≡ 0
            → f'.method.class ≡ f.method.class → slice_get p'.classes f'.method.class ≡ Some (sides f.method).new → way_of (sides f.method) ≡ fetches.Member
            → Inside p p' sides f fs f' (below ∷ rest)
        by None e declares base zero_place class new member = absurd (true≢false (sym declares ∙ (base.one.side.unchanged e).declares))
        by (Some v) e declares base zero_place class new member =
            let t = sides f.method in
            let begins = (base.one.side.changed v e).gets.starts ∙ ap (λ fetch. Some (start fetch 0)) member in
            let call : base.item ≡ start fetches.Member 0 = same_Some base.item (start fetches.Member 0) (sym base.here ∙ ap (slice_get t.items) zero_place ∙ begins) in
            let same_new : init.class ≡ t.new = same_Some init.class t.new (sym init.class_is ∙ new) in
            record {
              below = below;
              rest = rest;
              waiting = refl;
              base = base;
              at_call = call;
              waits = waits_of fs rest f.method below.method o.method o.side others more w wait;
              method = prelude_calls f below base call v e f'.method w'.at_call;
              init = init.init;
              has = ap (λ (c : Linked). c.probes) (sym same_new) ∙ init.has;
              step = init.step;
              place = init.place;
              stack = init.stack ∙ ap (λ k. step_stack k init.init init.step) class;
            }

    -- ---- threads

    running_of : (f : Frame) (fs : List Frame) (f' : Frame) (fs' : List Frame) → (b : Bool) → is_init_method p' f'.method ≡ b
        → spec.SameFrames p' marks (f ∷ fs) (frames_of b f' fs') → HasTopState p' marks b f' → AllByRecursion (HasProbeState p' marks) fs'
        → FitsTop p f → FitsTop p' f' → FitEachWaiting p f.method fs → FitEachWaiting p' f'.method fs' → SameThread p p' sides (running f fs) (running f' fs')
    running_of f fs f' fs' false e same has more top top' w w' =
        let o = one_method f f' same.0.method top.stands in
        inl (frame_of f f' o same.0 has (top_locals f' top'), waits_of fs fs' f.method f'.method same.0.method o.side same.1 more w w')
    running_of f fs f' [] true e same has more top top' w w' = absurd same
    running_of f fs f' (below ∷ rest) true e same has more top top' w w' =
        inr (inside_of f fs f' below rest (one_method f below same.0.method top.stands) same.0 same.1 has more.0 more.1 w w'.0 w'.1 e)

    stuck_of : (m : Entry) (q : ℕ) (m' : Entry) (q' : ℕ) → (m' ≡ m) × (slice_get (marks m).at q' ≡ Some q) → IsPlace p m q → SameStuck p p' sides m q m' q'
    stuck_of m q m' q' same inside = by (slice_get p.classes m.class) refl inside.body_is
      where
        by : (o : Option Linked) → slice_get p.classes m.class ≡ o → option_and_then (λ (c : Linked). slice_get c.bodies m.method) o ≡ Some inside.body
            → SameStuck p p' sides m q m' q'
        by None e h = absurd (none-some inside.body h)
        by (Some c) e h =
            let side = are.side m c inside.body e h in
            let i = mapped_at at_of (sides m).items q' q (ap (λ l. slice_get l q') (sym (told m side).at) ∙ same.1) in
            record { same = same.0; side = side; item = i.0; here = i.1; at = i.2 }

    thread_of : (heap heap' : List HeapObject) (x x' : Thread) → spec.SameThread p' marks x x' → HasState p' marks x' → FitsThread p heap x → FitsThread p' heap' x'
        → SameThread p p' sides x x'
    thread_of heap heap' (running f fs) (running f' fs') same has fits fits' =
        running_of f fs f' fs' (is_init_method p' f'.method) refl same has.0 has.1 fits.top fits'.top fits.below fits'.below
    thread_of heap heap' (returned v) (returned v') same has fits fits' = same
    thread_of heap heap' (threw c) (threw c') same has fits fits' = same
    thread_of heap heap' (stuck m q) (stuck m' q') same has fits fits' = stuck_of m q m' q' same fits
    thread_of heap heap' x y same has fits fits' = absurd same

    threads_of : (heap heap' : List HeapObject) (xs xs' : List Thread) → spec.SameThreads p' marks xs xs' → AllByRecursion (HasState p' marks) xs'
        → AllByRecursion (FitsThread p heap) xs → AllByRecursion (FitsThread p' heap') xs' → SameThreads p p' sides xs xs'
    threads_of heap heap' [] [] same has fits fits' = tt
    threads_of heap heap' (x ∷ xs) (x' ∷ xs') same has fits fits' =
        (thread_of heap heap' x x' same.0 has.0 fits.0 fits'.0, threads_of heap heap' xs xs' same.1 has.1 fits.1 fits'.1)
    threads_of heap heap' [] (x' ∷ xs') same has fits fits' = absurd same
    threads_of heap heap' (x ∷ xs) [] same has fits fits' = absurd same

  -- ---- static fields

  module _ (w w' : World) (fits : FitsWorld p w) (fits' : FitsWorld p' w') (h : Mid p p' marks w w') where
    abbrev xs : ℕ → List Value
    xs class = values_of w.shared class

    abbrev xs' : ℕ → List Value
    xs' class = values_of w'.shared class

    unchanged_same : (class : ℕ) (c new : Linked) → slice_get p'.classes class ≡ Some new → IsUnchangedPair p.names p'.names c new → xs' class ≡ xs class
    unchanged_same class c new there pair = same_items (xs' class) (xs class) (λ k. h.same.statics class k (no_data k))
      where
        no_data : (k : ℕ) → is_data p' class k ≡ false
        no_data k = ap (is_data_in k) there ∙ ap (λ l. is_named_data (slice_get l k)) pair.statics ∙ by (slice_get c.statics k) refl
          where
            by : (o : Option StaticField) → slice_get c.statics k ≡ o → is_named_data o ≡ false
            by None e = refl
            by (Some f) e = other_name f.name data_name (λ name. pair.none_added.statics f (stands_in c.statics k f e) name)

    constant_same : (class : ℕ) (c new : Linked) → slice_get p'.classes class ≡ Some new → IsChangedPair p.names p'.names c new
        → fetch_of c.version ≡ fetches.Constant → xs' class ≡ xs class
    constant_same class c new there pair way = same_items (xs' class) (xs class) (λ k. h.same.statics class k (no_data k))
      where
        no_data : (k : ℕ) → is_data p' class k ≡ false
        no_data k =
            ap (is_data_in k) there ∙ ap (λ l. is_named_data (slice_get l k)) (constant_statics p.names p'.names c new pair way)
            ∙ by (slice_get c.statics k) refl
          where
            by : (o : Option StaticField) → slice_get c.statics k ≡ o → is_named_data o ≡ false
            by None e = refl
            by (Some f) e = other_name f.name data_name (λ name. pair.none_added.statics f (stands_in c.statics k f e) (inr name))

    changed_same : (class : ℕ) (c new : Linked) → slice_get p.classes class ≡ Some c → slice_get p'.classes class ≡ Some new
        → IsChangedPair p.names p'.names c new → fetch_of c.version ≡ fetches.Member
        → SameStatics (Some (count_in new.probes)) class (xs class) (xs' class)
    changed_same class c new here there pair way =
        (found.0, same_items (xs' class) (xs class ++ (last ∷ [])) (λ k. by k (nat_eq k (length c.statics)) refl))
      where
        found : (b : Bool) × (slice_get (xs' class) (length c.statics) ≡ Some (null_or b (array_in p' class)))
        found = h.arrays class (length c.statics) (is_added p p' sides marks are told class c new there pair way)

        last : Value
        last = null_or found.0 (probes class (count_in new.probes))

        count : length (xs class) ≡ length c.statics
        count = (class_statics p.classes w.shared.statics fits.statics class c here).count

        no_data : (k : ℕ) → (k ≡ length c.statics → ⊥) → is_data p' class k ≡ false
        no_data k other =
            ap (is_data_in k) there ∙ ap (λ l. is_named_data (slice_get l k)) (changed_statics p.names p'.names c new pair way)
            ∙ ap is_named_data (one_more c.statics k data_static other) ∙ named (slice_get c.statics k) refl
          where
            named : (o : Option StaticField) → slice_get c.statics k ≡ o → is_named_data o ≡ false
            named None e = refl
            named (Some f) e = other_name f.name data_name (λ name. pair.none_added.statics f (stands_in c.statics k f e) (inr name))

        by : (k : ℕ) (b : Bool) → nat_eq k (length c.statics) ≡ b → slice_get (xs' class) k ≡ slice_get (xs class ++ (last ∷ [])) k
        by k true e =
            let at = eqb-true k (length c.statics) e in
            ap (slice_get (xs' class)) at ∙ found.1 ∙ ap (λ o. Some (null_or found.0 (probes class (count_of o)))) there
            ∙ sym (last_is (xs class) last) ∙ ap (slice_get (xs class ++ (last ∷ []))) (count ∙ sym at)
        by k false e =
            let other = eqb-false k (length c.statics) e in
            h.same.statics class k (no_data k other) ∙ sym (one_more (xs class) k last (λ j. other (j ∙ count)))

    statics_of : (class : ℕ) → SameStatics (extra_in (class_at p' class)) class (xs class) (xs' class)
    statics_of class = by (slice_get p.classes class) refl
      where
        pair_of : (c : Linked) → slice_get p.classes class ≡ Some c
            → (new : Linked) × (slice_get p'.classes class ≡ Some new) × IsPair p.names p'.names c new
            → SameStatics (extra_in (class_at p' class)) class (xs class) (xs' class)
        pair_of c here (new, there, inl pair) =
            subst (λ o. SameStatics o class (xs class) (xs' class))
            (sym (ap extra_in there ∙ ap (λ b. if b then Some (count_in new.probes) else None) (unchanged_data p.names p'.names c new pair)))
            (unchanged_same class c new there pair)
        pair_of c here (new, there, inr pair) = by_way (fetch_of c.version) refl
          where
            by_way : (fetch : Fetch) → fetch_of c.version ≡ fetch → SameStatics (extra_in (class_at p' class)) class (xs class) (xs' class)
            by_way fetches.Constant way =
                subst (λ o. SameStatics o class (xs class) (xs' class))
                (sym (ap extra_in there ∙ ap (λ b. if b then Some (count_in new.probes) else None) (constant_data p.names p'.names c new pair way)))
                (constant_same class c new there pair way)
            by_way fetches.Member way =
                subst (λ o. SameStatics o class (xs class) (xs' class))
                (sym (ap extra_in there ∙ ap (λ b. if b then Some (count_in new.probes) else None) (changed_data p.names p'.names c new pair way)))
                (changed_same class c new here there pair way)

        by : (o : Option Linked) → slice_get p.classes class ≡ o → SameStatics (extra_in (class_at p' class)) class (xs class) (xs' class)
        by None e =
            let none = no_class p p' sides are class e in
            subst (λ o. SameStatics o class (xs class) (xs' class)) (sym (ap extra_in none))
            (no_statics p'.classes w'.shared.statics fits'.statics class none ∙ sym (no_statics p.classes w.shared.statics fits.statics class e))
        by (Some c) e = pair_of c e (are.pair class c e)

    shared_of : SameShared p p' sides w.shared w'.shared
    shared_of = record {
      heap = h.same.heap;
      output = h.same.output;
      raised = h.same.raised;
      statics = statics_of;
      counts = λ class c here. (class_statics p.classes w.shared.statics fits.statics class c here).count;
    }

    pub mid_beside : Beside p p' sides w w'
    mid_beside = record {
      shared = shared_of;
      threads = threads_of w.shared w'.shared shared_of w.shared.heap w'.shared.heap w.threads w'.threads h.same.threads h.threads fits.threads fits'.threads;
    }
