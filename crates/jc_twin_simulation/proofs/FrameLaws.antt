-- Frames that stand at an instruction and at its image, and frames that come to where both go on.
use Rattle.std.proofs.Common.{◌≡◌, ◌⊎◌, inl, inr, ℕ, zero, suc, ◌+◌, ◌<◌, Bool, true, false, ◌&&◌, List, ◌++◌, Option, Some, None, nat_eq, refl, sym, ap, ◌∙◌, subst, subst₂, arith, if◌then◌else◌}
use Rattle.std.specs.Prelude.{slice_get, option_and_then}
use Rattle.std.proofs.lemmas.Bool.{eqb-true, lt-ltb, true≢false}
use Rattle.std.proofs.lemmas.Option.{slice_get-get_or, same_Some}
use Rattle.jc_bytes.proofs.BooleanLaws.{and_false}
use Rattle.jc_methods.specs.ProbeMembers.{fetch_of}
use Rattle.jc_methods.specs.declared.insn.Insn.{Insn}
use Rattle.jc_methods.specs.declared.insn.Insn.TheVariants as insns
use Rattle.jc_methods.specs.declared.body.Body.{Body}
use Rattle.jc_methods.specs.declared.probe_members.Fetch.{Fetch}
use Rattle.jc_methods.specs.declared.probe_members.Fetch.TheVariants as fetches
use Rattle.jc_programs.specs.declared.program.Program.{Program}
use Rattle.jc_programs.specs.declared.program.Linked.{Linked}
use Rattle.jc_programs.specs.declared.run_end.Entry.{Entry}
use Rattle.jc_programs.specs.Members.{body_of}
use Rattle.jc_emit.specs.Items.{Item, start, image, own_of}
use Rattle.jc_emit.specs.Local.{IsBehind, StartsOn}
use Rattle.jc_emit.specs.Marks.{prelude_size}
use Rattle.jc_emit.specs.Seen.{IsInsnOf, IsPlain}
use Rattle.jc_emit.specs.Sizes.{insn_at}
use Rattle.jc_machine_model.specs.Values.{Value}
use Rattle.jc_machine_model.specs.World.{Frame, Shared}
use Rattle.jc_machine_model.specs.Methods.{is_init_name, declares_init}
use Rattle.jc_machine_model.specs.Profile.{Location, gets_by, has_constant, given_of, operation_of}
use Rattle.jc_machine_model.specs.Perform.{perform}
use Rattle.jc_machine_model.specs.Step.{located_in_body, located_in_class, located, operation_at, result_of, is_init_method, named_init}
use Rattle.jc_twin_simulation.specs.Sides.{Side, array_of, way_of, GoesOnAt, IsSide, AreSides}
use Rattle.jc_twin_simulation.specs.Beside.{SameLocals, OneMethod, SameFrame, SameShared}
use Rattle.jc_twin_simulation.proofs.LocalLaws.{none_pushed, moves_on}
use Rattle.jc_twin_simulation.proofs.OwnLaws.{SameResult, AtImage, performed}
use Rattle.jc_twin_simulation.proofs.OperationLaws.{alike}
use Rattle.jc_twin_simulation.proofs.RunItemLaws.{in_front}

-- ---- the body of a method

pub body_is : (r : Program) (m : Entry) (c : Linked) (b : Body) → slice_get r.classes m.class ≡ Some c → slice_get c.bodies m.method ≡ Some b
    → body_of r m ≡ Some b
body_is r m c b e h = ap (option_and_then (λ (x : Linked). slice_get x.bodies m.method)) e ∙ h

pub init_is : (r : Program) (m : Entry) (c : Linked) (b : Body) → slice_get r.classes m.class ≡ Some c → slice_get c.bodies m.method ≡ Some b
    → is_init_method r m ≡ is_init_name b.name
init_is r m c b e h = ap named_init (body_is r m c b e h)

abbrev pub location : Entry → ℕ → Linked → Body → Location
location m place c b = record { class = m.class; linked = c; body = b; place = place }

pub located_is : (r : Program) (m : Entry) (place : ℕ) (c : Linked) (b : Body) (insn : Insn) → slice_get r.classes m.class ≡ Some c
    → slice_get c.bodies m.method ≡ Some b
    → slice_get b.code place ≡ Some insn → located r m place ≡ Some (record { at = location m place c b; insn = insn })
located_is r m place c b insn e h k =
    ap (option_and_then (λ (x : Linked). located_in_class m.class place x (slice_get x.bodies m.method))) e
    ∙ ap (located_in_class m.class place c) h ∙ ap (located_in_body m.class c place b) k

-- what the instruction does
pub result_is : (r : Program) (s : Shared) (f : Frame) (m : Entry) (place : ℕ) (c : Linked) (b : Body) (insn : Insn) → f.method ≡ m → f.place ≡ place
    → slice_get r.classes m.class ≡ Some c → slice_get c.bodies m.method ≡ Some b → slice_get b.code place ≡ Some insn
    → result_of r s f ≡ perform (operation_of r (location m place c b) insn) s f
result_is r s f m place c b insn em ep e h k =
    ap (λ x. perform (operation_at r (located r x f.place)) s f) em ∙ ap (λ x. perform (operation_at r (located r m x)) s f) ep
    ∙ ap (λ o. perform (operation_at r o) s f) (located_is r m place c b insn e h k)

-- how an instruction of the prelude gets the array
abbrev pub fetch_in : Item → Fetch
fetch_in (start fetch k) = fetch
fetch_in _ = fetches.Member

module _ (p p' : Program) (sides : Entry → Side) where
  abbrev frame_at : Frame → ℕ → List (Option Value) → List Value → Frame
  frame_at f place ls st = record { method = f.method; place = place; locals = ls; stack = st }

  -- both go on, with these local variables and one stack
  pub arrives : (f f' : Frame) → OneMethod p p' sides f f' → (q i : ℕ) → GoesOnAt (sides f.method) q i → (old : Item) → IsBehind old
      → (ls ls' : List (Option Value))
      → SameLocals (array_of (sides f.method) f.method.class) (sides f.method).slot ls ls' old → (st : List Value)
      → SameFrame p p' sides (record { method = f.method; place = i; locals = ls; stack = st })
      (record { method = f'.method; place = q; locals = ls'; stack = st })
  arrives f f' o q i h old b ls ls' same st = record {
    one = record { method = o.method; side = o.side; entered = o.entered };
    item = h.1.item;
    here = h.1.here;
    at = h.1.at_is;
    stack = ap (λ l. l ++ st) (sym (none_pushed (array_of (sides f.method) f.method.class) (sides f.method) q i h.0 h.1));
    locals = moves_on (array_of (sides f.method) f.method.class) (sides f.method).slot ls ls' old h.1.item b same;
  }

  -- the twin's instruction
  pub twin_insn : (m : Entry) → IsSide p p' m (sides m) → (q : ℕ) (x : Item) → slice_get (sides m).items q ≡ Some x
      → (insn : Insn) × (slice_get (sides m).twin.code q ≡ Some insn) × IsInsnOf (sides m).twin.uses (sides m).places (sides m).body.arg_slots x insn
  twin_insn m side q x here = side.code.each q x here

  -- ---- the prelude

  -- an instruction of the prelude gets the array as methods of its class do
  pub start_way : (m : Entry) → IsSide p p' m (sides m) → (k q : ℕ) (fetch : Fetch) → slice_get (sides m).items q ≡ Some (start fetch k)
      → (v : ℕ) × ((sides m).slot ≡ Some v) × (fetch ≡ way_of (sides m))
  start_way m side zero q fetch here = by (sides m).slot refl
    where
      by : (o : Option ℕ) → (sides m).slot ≡ o → (v : ℕ) × ((sides m).slot ≡ Some v) × (fetch ≡ way_of (sides m))
      by None e = absurd (true≢false (sym (subst (λ s. IsPlain s (sides m).items) e side.plain q (start fetch 0) here)))
      by (Some v) e =
          let place : q ≡ 0 = (side.ok.ok q (start fetch 0) here).place in
          let same = same_Some (start fetch 0) (start (way_of (sides m)) 0) (sym here ∙ ap (slice_get (sides m).items) place ∙ (side.changed v e).gets.starts) in
          (v, e, ap fetch_in same)
  start_way m side (suc k) q fetch here =
      let f = in_front (sides m).items side.runs q (start fetch (suc k)) here (λ h. h) in
      start_way m side k f.place fetch (f.here ∙ ap Some f.follows)

  -- the prelude stands at the beginning
  pub prelude_item : (m : Entry) → IsSide p p' m (sides m) → (v : ℕ) → (sides m).slot ≡ Some v → (q : ℕ) → q < prelude_size (way_of (sides m))
      → slice_get (sides m).items q ≡ Some (start (way_of (sides m)) q)
  prelude_item m side v e zero lt = (side.changed v e).gets.starts
  prelude_item m side v e (suc q) lt =
      let t = sides m in
      let ok = side.ok.ok q (start (way_of t) q) (prelude_item m side v e q (omega (arith, lt))) in
      let next : q + 1 ≡ suc q = omega arith in
      subst (λ k. slice_get t.items k ≡ Some (start (way_of t) (suc q))) next
      (subst (λ more. StartsOn t.body.code t.slot t.ids t.items more q (way_of t) q) (lt-ltb (suc q) (prelude_size (way_of t)) lt) ok.next)

  -- so no own instruction stands at instruction 0
  pub past_start : (m : Entry) → IsSide p p' m (sides m) → (q : ℕ) (x : Item) → slice_get (sides m).items q ≡ Some x → own_of x ≡ true
      → (v : ℕ) → (sides m).slot ≡ Some v → nat_eq q 0 ≡ false
  past_start m side q x here own v e = by (nat_eq q 0) refl
    where
      by : (b : Bool) → nat_eq q 0 ≡ b → b ≡ false
      by true h =
          absurd (true≢false (sym own ∙ ap own_of (same_Some x (start (way_of (sides m)) 0)
          (sym here ∙ ap (slice_get (sides m).items) (eqb-true q 0 h) ∙ (side.changed v e).gets.starts))))
      by false h = refl

  -- where the class gives its array by a constant, none stands at instruction 1 either
  pub beyond_start : (m : Entry) → IsSide p p' m (sides m) → (q : ℕ) (x : Item) → slice_get (sides m).items q ≡ Some x → own_of x ≡ true
      → (given_of (sides m).new ≡ None) ⊎ (nat_eq q 1 ≡ false)
  beyond_start m side q x here own = by (sides m).slot refl
    where
      none_by : (has_constant (sides m).new && declares_init (sides m).new) ≡ false → given_of (sides m).new ≡ None
      none_by e = ap (λ (b : Bool). if b then (sides m).new.probes else None) e

      at_one : (v : ℕ) → (sides m).slot ≡ Some v → way_of (sides m) ≡ fetches.Constant → (b : Bool) → nat_eq q 1 ≡ b → b ≡ false
      at_one v e way true h =
          let there = prelude_item m side v e 1 (subst (λ f. 1 < prelude_size f) (sym way) (omega arith)) in
          absurd (true≢false (sym own ∙ ap own_of (same_Some x (start (way_of (sides m)) 1)
          (sym here ∙ ap (slice_get (sides m).items) (eqb-true q 1 h) ∙ there))))
      at_one v e way false h = refl

      by_way : (v : ℕ) → (sides m).slot ≡ Some v → (fetch : Fetch) → way_of (sides m) ≡ fetch → (given_of (sides m).new ≡ None) ⊎ (nat_eq q 1 ≡ false)
      by_way v e fetches.Member way =
          inl (none_by (ap (λ b. b && declares_init (sides m).new) (ap (λ n. gets_by (fetch_of n)) side.version ∙ ap gets_by way)))
      by_way v e fetches.Constant way = inr (at_one v e way (nat_eq q 1) refl)

      by : (o : Option ℕ) → (sides m).slot ≡ o → (given_of (sides m).new ≡ None) ⊎ (nat_eq q 1 ≡ false)
      by None e = inl (none_by (ap (λ d. has_constant (sides m).new && d) (side.unchanged e).declares ∙ and_false (has_constant (sides m).new)))
      by (Some v) e = by_way v e (way_of (sides m)) refl

  module _ (are : AreSides p p' sides) (f f' : Frame) (new : Insn) (early : Option ℕ) (o : AtImage p p' sides f f' new early)
      (s s' : Shared) (ss : SameShared p p' sides s s') where
    abbrev t : Side
    t = sides f.method

    pub own_result : SameResult p p' sides (result_of p s f) (result_of p' s' f')
    own_result =
        let side = o.one.side in
        let ok = side.ok.ok f'.place (image new f.place early) o.here in
        let insn = insn_at t.body.code f.place in
        let twin = twin_insn f.method side f'.place (image new f.place early) o.here in
        let past = past_start f.method side f'.place (image new f.place early) o.here refl in
        let old_is = result_is p s f f.method f.place t.class t.body insn refl refl side.class_is side.body_is (slice_get-get_or t.body.code f.place (insns.Simple 0) ok.0) in
        let new_is = result_is p' s' f' f.method f'.place t.new t.twin new o.one.method refl side.new_is side.twin_is (twin.1 ∙ ap Some twin.2) in
        let r = performed p p' sides f f' new early o s s' ss
        (operation_of p (location f.method f.place t.class t.body) insn) (operation_of p' (location f.method f'.place t.new t.twin) new)
        (alike p p' sides are f.method side f'.place f.place past (beyond_start f.method side f'.place (image new f.place early) o.here refl) new ok.0 ok.2) in
        subst₂ (SameResult p p' sides) (sym old_is) (sym new_is) r
