-- Worlds that stand beside each other are in the relation that is told in terms of the two programs.
use Rattle.std.proofs.Common.{◌≡◌, ◌⊎◌, inl, inr, ⊎_elim, ℕ, zero, suc, ◌+◌, ◌<◌, ◌≤◌, pos, Bool, true, false, List, [], ◌∷◌, ◌++◌, length, Option, Some, None, nat_le, nat_lt, refl, sym, ap, ◌∙◌, subst, subst₂, arith, if◌then◌else◌}
use Rattle.std.specs.Prelude.{⊤, slice_get}
use Rattle.std.specs.List.{AllByRecursion}
use Rattle.std.proofs.lemmas.Bool.{true≢false, cases_lt, lt-ltb, le-ltb}
use Rattle.std.proofs.lemmas.Option.{none-some, same_Some}
use Rattle.jc_bytes.proofs.BooleanLaws.{stands_in}
use Rattle.jc_methods.specs.Opcode as opcode
use Rattle.jc_methods.specs.ProbeMembers.{data_name, most_short, fetch_of}
use Rattle.jc_methods.specs.declared.probe_members.Fetch.{Fetch}
use Rattle.jc_methods.specs.declared.probe_members.Fetch.TheVariants as fetches
use Rattle.jc_methods.specs.declared.insn.Insn.{Insn}
use Rattle.jc_methods.specs.declared.insn.Insn.TheVariants as insns
use Rattle.jc_methods.specs.declared.body.Body.{Body}
use Rattle.jc_methods.specs.declared.body.Use.{Use}
use Rattle.jc_programs.specs.declared.program.Program.{Program}
use Rattle.jc_programs.specs.declared.program.Linked.{Linked}
use Rattle.jc_programs.specs.declared.program.StaticField.{StaticField}
use Rattle.jc_programs.specs.declared.run_end.Entry.{Entry}
use Rattle.jc_programs.specs.Members.{class_at, body_of}
use Rattle.jc_emit.specs.Items.{Item, start, image, probe_array, probe_id, probe_one, probe_store, hop, own_of, extra_of}
use Rattle.jc_emit.specs.Local.{IsBehind}
use Rattle.jc_emit.specs.Marks.{Marks, push, PushesBy, Pushes, prelude_size}
use Rattle.jc_emit.specs.Seen.{IsPlain}
use Rattle.jc_emit.specs.Added.{data_static}
use Rattle.jc_twin_programs.specs.TwinProgram.{IsPair}
use Rattle.jc_emit.proofs.ToldLaws.{mapped}
use Rattle.jc_machine_model.specs.Values.{Value, int, probes}
use Rattle.jc_machine_model.specs.World.{Frame, Thread, running, returned, threw, stuck, Shared, World}
use Rattle.jc_twin_simulation.specs.ProbeRuns.{MayFollow, IsFirst}
use Rattle.jc_twin_simulation.specs.Same.{array_slot, is_named_data, is_data_in, is_data}
use Rattle.jc_twin_simulation.specs.Sides.{Side, count_in, array_of, way_of, IsSide, AreSides, AreMarksOf}
use Rattle.jc_twin_simulation.specs.Beside.{pushed_of, null_or, step_stack, SameLocals, OneMethod, SameFrame, SameWaits, extra_in, SameStatics, values_of, SameShared, SameThread, SameThreads, Beside}
use Rattle.jc_twin_simulation.specs.Mid.{count_of, array_in, prelude_of, IsPushedBy, IsPushedIn, ArePushed, KeepsArray, HasProbeState, HasTopState, HasState, Mid}
use Rattle.jc_twin_simulation.proofs.ClassLaws.{other_name, changed_statics, constant_statics, changed_data}
use Rattle.jc_twin_simulation.proofs.FrameLaws.{body_is, start_way, prelude_item, twin_insn}
use Rattle.jc_twin_simulation.proofs.OwnTurnLaws.{new_no_init}
use Rattle.jc_twin_simulation.proofs.RunItemLaws.{in_front}
use Rattle.jc_twin_simulation.proofs.SameLaws.{slot_is, no_class, last_is, beside_same}
use Rattle.jc_twin_simulation.proofs.SlotLaws.{get_own}
use Rattle.jc_twin_simulation.proofs.TurnLaws.{inside_named}

-- ---- numbers that are pushed

-- what pushes a small number is one of two instructions
pub number_form : (n : ℕ) → ((op : ℕ) × (push n ≡ insns.Simple op)) ⊎ ((op : ℕ) × (push n ≡ insns.Push op (pos n)))
number_form n = by (nat_le n 5) (nat_le n 127)
  where
    by : (a b : Bool)
        → ((op : ℕ) × ((if a then insns.Simple (opcode.iconst_0 + n) else if b then insns.Push opcode.bipush (pos n) else insns.Push opcode.sipush (pos n)) ≡ insns.Simple op))
        ⊎ ((op : ℕ) × ((if a then insns.Simple (opcode.iconst_0 + n) else if b then insns.Push opcode.bipush (pos n) else insns.Push opcode.sipush (pos n)) ≡ insns.Push op (pos n)))
    by true b = inl (_, refl)
    by false true = inr (_, refl)
    by false false = inr (_, refl)

-- it is no load of a local variable
abbrev pub IsNoLocal : Insn → Type 0
IsNoLocal (insns.Local op slot) = ⊥
IsNoLocal insn = ⊤

pub no_local : (uses : List Use) (insn : Insn) (n : ℕ) → Pushes uses insn n → IsNoLocal insn
no_local uses insn n h = by (nat_le n most_short) h
  where
    by : (short : Bool) → PushesBy short uses insn n → IsNoLocal insn
    by true e = ⊎_elim (λ k. subst IsNoLocal (sym (e ∙ k.1)) tt) (λ k. subst IsNoLocal (sym (e ∙ k.1)) tt) (number_form n)
    by false e = subst IsNoLocal (sym e.1) tt

number_pushed : (uses : List Use) (array : Value) (insn : Insn) (n : ℕ) → Pushes uses insn n → IsPushedBy uses array insn (int (pos n))
number_pushed uses array insn n h = by insn (no_local uses insn n h) h
  where
    by : (insn : Insn) → IsNoLocal insn → Pushes uses insn n → IsPushedBy uses array insn (int (pos n))
    by (insns.Local op slot) off h = absurd off
    by insn off h = (n, h, refl)

-- ---- each item of a probe has the others in front of it

module _ (p p' : Program) (sides : Entry → Side) (m : Entry) (side : IsSide p p' m (sides m)) where
  abbrev t : Side
  t = sides m

  -- how many instructions the prelude has
  abbrev most : ℕ
  most = prelude_size (way_of t)

  -- the item in front of one of a probe
  pub record Behind (q : ℕ) (x : Item) : Type 0 where
    pub place : ℕ
    pub next : q ≡ suc place
    pub here : slice_get t.items place ≡ Some x

  behind : (q : ℕ) (x y : Item) → slice_get t.items q ≡ Some y → (IsFirst y → ⊥) → ((z : Item) → MayFollow z y → z ≡ x) → Behind q x
  behind q x y here n is =
      let f = in_front t.items side.runs q y here n in
      record { place = f.place; next = f.next; here = f.here ∙ ap Some (is f.item f.follows) }

  pub start_behind : (q : ℕ) (fetch : Fetch) (k : ℕ) → slice_get t.items q ≡ Some (start fetch (suc k)) → Behind q (start fetch k)
  start_behind q fetch k here = behind q (start fetch k) (start fetch (suc k)) here (λ h. h) (λ z h. h)

  pub id_behind : (q id at : ℕ) (late : Bool) → slice_get t.items q ≡ Some (probe_id id at late) → Behind q (probe_array id at late)
  id_behind q id at late here = behind q (probe_array id at late) (probe_id id at late) here (λ h. h) (λ z h. h)

  pub one_behind : (q id at : ℕ) (late : Bool) → slice_get t.items q ≡ Some (probe_one id at late) → Behind q (probe_id id at late)
  one_behind q id at late here = behind q (probe_id id at late) (probe_one id at late) here (λ h. h) (λ z h. h)

  pub last_behind : (q id at : ℕ) (late : Bool) → slice_get t.items q ≡ Some (probe_store id at late) → Behind q (probe_one id at late)
  last_behind q id at late here = behind q (probe_one id at late) (probe_store id at late) here (λ h. h) (λ z h. h)

  -- ---- the prelude

  -- behind the prelude
  pub behind_prelude : (q : ℕ) (x : Item) → slice_get t.items q ≡ Some x → most ≤ q → IsBehind x
  behind_prelude q (start fetch k) here le =
      let ok = side.ok.ok q (start fetch k) here in
      let place = ok.place in
      let within : k < most = subst (λ f. k < prelude_size f) (start_way p p' sides m side k q fetch here).2 ok.within in
      absurd (omega (arith, place, within, le))
  behind_prelude q other here le = tt

  -- what isn't in the prelude stands behind it
  pub past_prelude : (q : ℕ) (x : Item) (v : ℕ) → t.slot ≡ Some v → slice_get t.items q ≡ Some x → IsBehind x → most ≤ q
  past_prelude q x v e here b =
      ⊎_elim (λ lt. absurd (subst IsBehind (same_Some x (start (way_of t) q) (sym here ∙ prelude_item p p' sides m side v e q lt)) b)) (λ le. le)
      (cases_lt q most)

  -- whether an instruction of the prelude or of a probe is in the prelude is told by its place
  pub start_within : (q : ℕ) (fetch : Fetch) (k : ℕ) → slice_get t.items q ≡ Some (start fetch k) → nat_lt q most ≡ true
  start_within q fetch k here =
      let ok = side.ok.ok q (start fetch k) here in
      let place = ok.place in
      let within : k < most = subst (λ f. k < prelude_size f) (start_way p p' sides m side k q fetch here).2 ok.within in
      lt-ltb q most (omega (arith, place, within))

  pub aside_past : (q : ℕ) (x : Item) → slice_get t.items q ≡ Some x → own_of x ≡ false → IsBehind x → nat_lt q most ≡ false
  aside_past q x here aside b = le-ltb q most (by t.slot refl)
    where
      by : (o : Option ℕ) → t.slot ≡ o → most ≤ q
      by None e = absurd (true≢false (sym (subst (λ s. IsPlain s t.items) e side.plain q x here) ∙ aside))
      by (Some v) e = past_prelude q x v e here b

  -- ---- what was pushed

  module _ (a : Value) where
    abbrev Pushed : ℕ → ℕ → List Value → Type 0
    Pushed q extra stack = ArePushed most a t.twin q extra stack

    by_probe : (q : ℕ) (x : Item) (insn : Insn) (v : Value) → slice_get t.items q ≡ Some x → own_of x ≡ false → IsBehind x
        → IsPushedBy t.twin.uses a insn v → IsPushedIn (nat_lt q most) t.twin.uses a insn v
    by_probe q x insn v here aside b h = subst (λ s. IsPushedIn s t.twin.uses a insn v) (sym (aside_past q x here aside b)) h

    start_pushed : (q : ℕ) (fetch : Fetch) (k : ℕ) (st : List Value) → slice_get t.items q ≡ Some (start fetch (suc k)) → Pushed q 1 (a ∷ st)
    start_pushed q fetch k st here =
        let f = start_behind q fetch k here in
        let c = twin_insn p p' sides m side f.place (start fetch k) f.here in
        (f.place, c.0, f.next, c.1, subst (λ s. IsPushedIn s t.twin.uses a c.0 a) (sym (start_within f.place fetch k f.here)) refl, tt)

    id_pushed : (q id at : ℕ) (late : Bool) (st : List Value) → slice_get t.items q ≡ Some (probe_id id at late) → Pushed q 1 (a ∷ st)
    id_pushed q id at late st here =
        let f = id_behind q id at late here in
        let c = twin_insn p p' sides m side f.place (probe_array id at late) f.here in
        let by = by_probe f.place (probe_array id at late) c.0 a f.here refl tt (subst (λ i. IsPushedBy t.twin.uses a i a) (sym c.2) refl) in
        (f.place, c.0, f.next, c.1, by, tt)

    one_pushed : (q id at : ℕ) (late : Bool) (st : List Value) → slice_get t.items q ≡ Some (probe_one id at late) → Pushed q 2 (int (pos id) ∷ a ∷ st)
    one_pushed q id at late st here =
        let f = one_behind q id at late here in
        let c = twin_insn p p' sides m side f.place (probe_id id at late) f.here in
        let by = by_probe f.place (probe_id id at late) c.0 (int (pos id)) f.here refl tt (number_pushed t.twin.uses a c.0 id c.2) in
        (f.place, c.0, f.next, c.1, by, id_pushed f.place id at late st f.here)

    last_pushed : (q id at : ℕ) (late : Bool) (st : List Value) → slice_get t.items q ≡ Some (probe_store id at late)
        → Pushed q 3 (int (pos 1) ∷ int (pos id) ∷ a ∷ st)
    last_pushed q id at late st here =
        let f = last_behind q id at late here in
        let c = twin_insn p p' sides m side f.place (probe_one id at late) f.here in
        let by = by_probe f.place (probe_one id at late) c.0 (int (pos 1)) f.here refl tt (number_pushed t.twin.uses a c.0 1 c.2) in
        (f.place, c.0, f.next, c.1, by, one_pushed f.place id at late st f.here)

    pub item_pushed : (q : ℕ) (x : Item) (st : List Value) → slice_get t.items q ≡ Some x → Pushed q (extra_of x) (pushed_of a x ++ st)
    item_pushed q (start fetch zero) st here = tt
    item_pushed q (start fetch (suc k)) st here = start_pushed q fetch k st here
    item_pushed q (image insn at early) st here = tt
    item_pushed q (probe_array id at late) st here = tt
    item_pushed q (probe_id id at late) st here = id_pushed q id at late st here
    item_pushed q (probe_one id at late) st here = one_pushed q id at late st here
    item_pushed q (probe_store id at late) st here = last_pushed q id at late st here
    item_pushed q (hop to at due) st here = tt

-- ---- frames

module _ (p p' : Program) (sides : Entry → Side) (marks : Entry → Marks) (are : AreSides p p' sides) (told : AreMarksOf p p' marks sides) where
  array_is : (m : Entry) → IsSide p p' m (sides m) → array_in p' m.class ≡ array_of (sides m) m.class
  array_is m side = ap (λ (o : Option Linked). probes m.class (elim o [ None ↦ 0 | Some c ↦ count_in c.probes ])) side.new_is

  pub prelude_is : (m : Entry) → IsSide p p' m (sides m) → prelude_of p' m.class ≡ prelude_size (way_of (sides m))
  prelude_is m side =
      ap (λ (o : Option Linked). elim o [ None ↦ 0 | Some c ↦ prelude_size (fetch_of c.version) ]) side.new_is
      ∙ ap (λ n. prelude_size (fetch_of n)) side.version

  item_state : (f f' : Frame) (o : OneMethod p p' sides f f') (x : Item) → slice_get (sides f.method).items f'.place ≡ Some x
      → f'.stack ≡ pushed_of (array_of (sides f.method) f.method.class) x ++ f.stack
      → SameLocals (array_of (sides f.method) f.method.class) (sides f.method).slot f.locals f'.locals x → HasProbeState p' marks f'
  item_state f f' o x here st ls =
      let t = sides f.method in
      let m = o.method in
      let a = array_of t f.method.class in
      let array : array_in p' f'.method.class ≡ a = ap (λ (e : Entry). array_in p' e.class) m ∙ array_is f.method o.side in
      let prelude : prelude_of p' f'.method.class ≡ prelude_size (way_of t) = ap (λ (e : Entry). prelude_of p' e.class) m ∙ prelude_is f.method o.side in
      record {
        pushed = λ b extra body k.
            let body2 : t.twin ≡ b = same_Some t.twin b (sym (body_is p' f.method t.new t.twin o.side.new_is o.side.twin_is) ∙ ap (body_of p') (sym m) ∙ body) in
            let more : extra_of x ≡ extra =
            same_Some (extra_of x) extra
            (sym (ap (λ l. slice_get l f'.place) (told f.method o.side).extra ∙ mapped extra_of t.items f'.place x here)
            ∙ ap (λ e. slice_get (marks e).extra f'.place) (sym m) ∙ k) in
            subst₂ (λ z y. ArePushed z y b f'.place extra f'.stack) (sym prelude) (sym array)
            (subst (λ (z : Body). ArePushed (prelude_size (way_of t)) a z f'.place extra f'.stack) body2
            (subst (λ n. ArePushed (prelude_size (way_of t)) a t.twin f'.place n f'.stack) more
            (subst (ArePushed (prelude_size (way_of t)) a t.twin f'.place (extra_of x)) (sym st) (item_pushed p p' sides f.method o.side a f'.place x f.stack here))));
        array = λ v e. keeps v (sym (slot_is p p' sides f.method o.side) ∙ ap (array_slot p') (sym m) ∙ e);
      }
    where
      keeps : (v : ℕ) → (sides f.method).slot ≡ Some v → KeepsArray p' marks f' v
      keeps v e le =
          let t = sides f.method in
          let a = array_of t f.method.class in
          let h = subst (λ s. SameLocals a s f.locals f'.locals x) e ls in
          let past = subst (λ n. n ≤ f'.place) (ap (λ (d : Entry). prelude_of p' d.class) o.method ∙ prelude_is f.method o.side) le in
          ap (λ l. slice_get l v) h.around ∙ get_own v f.locals h.held h.room
          ∙ ap Some (h.ready (behind_prelude p p' sides f.method o.side f'.place x here past)
          ∙ ap Some (sym (ap (λ (d : Entry). array_in p' d.class) o.method ∙ array_is f.method o.side)))

  frame_state : (f f' : Frame) → SameFrame p p' sides f f' → HasProbeState p' marks f'
  frame_state f f' h = item_state f f' h.one h.item h.here h.stack h.locals

  waits_state : (fs fs' : List Frame) → SameWaits p p' sides fs fs' → AllByRecursion (HasProbeState p' marks) fs'
  waits_state [] [] w = tt
  waits_state (f ∷ fs) (f' ∷ fs') w = (item_state f f' w.0.one (image w.0.insn f.place w.0.early) w.0.here w.0.stack w.0.locals, waits_state fs fs' w.1)
  waits_state [] (f' ∷ fs') w = absurd w
  waits_state (f ∷ fs) [] w = absurd w

  -- ---- threads

  module _ (s s' : Shared) (ss : SameShared p p' sides s s') where
    running_state : (f f' : Frame) (fs fs' : List Frame) → SameThread p p' sides (running f fs) (running f' fs') → HasState p' marks (running f' fs')
    running_state f f' fs fs' (inl h) =
        (subst (λ b. HasTopState p' marks b f') (sym (new_no_init p p' sides f f' h.0.one)) (frame_state f f' h.0), waits_state fs fs' h.1)
    running_state f f' fs fs' (inr i) = (
      subst (λ b. HasTopState p' marks b f') (sym (inside_named p p' sides are s s' ss f f' fs fs' i))
          (record {
            class = (sides f.method).new;
            class_is = ap (λ (e : Entry). class_at p' e.class) i.method ∙ i.base.one.side.new_is;
            init = i.init;
            has = i.has;
            step = i.step;
            place = i.place;
            stack = i.stack ∙ ap (λ (e : Entry). step_stack e.class i.init i.step) (sym i.method);
          }),
      subst (AllByRecursion (HasProbeState p' marks)) (sym i.waiting) (frame_state f i.below i.base, waits_state fs i.rest i.waits),
    )

    thread_state : (x x' : Thread) → SameThread p p' sides x x' → HasState p' marks x'
    thread_state (running f fs) (running f' fs') h = running_state f f' fs fs' h
    thread_state x (returned v) h = tt
    thread_state x (threw c) h = tt
    thread_state x (stuck m q) h = tt
    thread_state x y h = absurd h

    threads_state : (xs xs' : List Thread) → SameThreads p p' sides xs xs' → AllByRecursion (HasState p' marks) xs'
    threads_state [] [] h = tt
    threads_state (x ∷ xs) (x' ∷ xs') h = (thread_state x x' h.0, threads_state xs xs' h.1)
    threads_state [] (x' ∷ xs') h = absurd h
    threads_state (x ∷ xs) [] h = absurd h

    -- ---- static fields

    append_at : {X : Type 0} (xs : List X) (y : X) (k : ℕ) (z : X) → slice_get (xs ++ y ∷ []) k ≡ Some z → (slice_get xs k ≡ Some z) ⊎ ((k ≡ length xs) × (y ≡ z))
    append_at [] y zero z e = inr (refl, same_Some y z e)
    append_at [] y (suc k) z e = absurd (none-some z e)
    append_at (x ∷ xs) y zero z e = inl e
    append_at (x ∷ xs) y (suc k) z e = ⊎_elim (λ h. inl h) (λ h. inr (ap suc h.0, h.1)) (append_at xs y k z e)

    -- a field is named so
    named_there : (o : Option StaticField) → is_named_data o ≡ true → (f : StaticField) × (o ≡ Some f) × ((f.name ≡ data_name → ⊥) → ⊥)
    named_there None e = absurd (true≢false (sym e))
    named_there (Some f) e = (f, refl, λ n. true≢false (sym e ∙ other_name f.name data_name n))

    abbrev Arrays : ℕ → ℕ → Type 0
    Arrays class field = (found : Bool) × (slice_get (values_of s' class) field ≡ Some (null_or found (array_in p' class)))

    pair_arrays : (class field : ℕ) (c new : Linked) → slice_get p.classes class ≡ Some c → slice_get p'.classes class ≡ Some new
        → IsPair p.names p'.names c new → is_named_data (slice_get new.statics field) ≡ true → Arrays class field
    pair_arrays class field c new here there (inl pair) named =
        let n = named_there (slice_get new.statics field) named in
        absurd (n.2 (λ name. pair.none_added.statics n.0
        (stands_in c.statics field n.0 (ap (λ l. slice_get l field) (sym pair.statics) ∙ n.1)) name))
    pair_arrays class field c new here there (inr pair) named = by (fetch_of c.version) refl
      where
        n : (f : StaticField) × (slice_get new.statics field ≡ Some f) × ((f.name ≡ data_name → ⊥) → ⊥)
        n = named_there (slice_get new.statics field) named

        none_old : slice_get c.statics field ≡ Some n.0 → Arrays class field
        none_old old = absurd (n.2 (λ name. pair.none_added.statics n.0 (stands_in c.statics field n.0 old) (inr name)))

        by : (fetch : Fetch) → fetch_of c.version ≡ fetch → Arrays class field
        by fetches.Constant way = none_old (ap (λ l. slice_get l field) (sym (constant_statics p.names p'.names c new pair way)) ∙ n.1)
        by fetches.Member way =
            ⊎_elim none_old
            (λ last.
            let extra : extra_in (class_at p' class) ≡ Some (count_in new.probes) =
            ap extra_in there ∙ ap (λ b. if b then Some (count_in new.probes) else None) (changed_data p.names p'.names c new pair way) in
            let is = subst (λ o. SameStatics o class (values_of s class) (values_of s' class)) extra (ss.statics class) in
            let array : probes class (count_in new.probes) ≡ array_in p' class = sym (ap (λ o. probes class (count_of o)) there) in
            let at : field ≡ length (values_of s class) = last.0 ∙ sym (ss.counts class c here) in (
              is.0,
              ap (λ l. slice_get l field) is.1
                  ∙ ap (slice_get (values_of s class ++ (null_or is.0 (probes class (count_in new.probes)) ∷ []))) at
                  ∙ last_is (values_of s class) (null_or is.0 (probes class (count_in new.probes)))
                  ∙ ap (λ v. Some (null_or is.0 v)) array,
            ))
            (append_at c.statics data_static field n.0 (ap (λ l. slice_get l field) (sym (changed_statics p.names p'.names c new pair way)) ∙ n.1))

    pub arrays : (class field : ℕ) → is_data p' class field ≡ true → Arrays class field
    arrays class field named = by (slice_get p.classes class) refl
      where
        by : (o : Option Linked) → slice_get p.classes class ≡ o → Arrays class field
        by None e = absurd (true≢false (sym named ∙ ap (is_data_in field) (no_class p p' sides are class e)))
        by (Some c) e =
            let n = are.pair class c e in
            pair_arrays class field c n.0 e n.1 n.2 (sym (ap (is_data_in field) n.1) ∙ named)

  pub beside_mid : (w w' : World) → Beside p p' sides w w' → Mid p p' marks w w'
  beside_mid w w' h =
      record {
        same = beside_same p p' sides marks are told w w' h;
        arrays = λ class field named. arrays w.shared w'.shared h.shared class field named;
        threads = threads_state w.shared w'.shared h.shared w.threads w'.threads h.threads;
      }
