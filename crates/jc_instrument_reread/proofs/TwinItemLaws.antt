-- The instructions of a twin lead to instructions of it, and use its local variables.
use Rattle.std.proofs.Common.{◌≡◌, ⊎_elim, ℕ, zero, suc, ◌+◌, ◌<◌, ◌≤◌, Bool, true, false, List, [], map, length, Some, None, refl, sym, subst, arith, All, nat_lt, nat_le, if◌then◌else◌, cond, pos}
use Rattle.std.specs.Prelude.{slice_get}
use Rattle.std.specs.List.{AllByRecursion}
use Rattle.std.proofs.lemmas.Bool.{cond_both}
use Rattle.std.proofs.lemmas.Option.{slice_get_within}
use Rattle.jc_bytes.proofs.EachLaws.{all_weaker}
use Rattle.jc_bytes.proofs.ListLaws.{mapped_at}
use Rattle.jc_methods.specs.Flow.{flow_of, FallsThrough}
use Rattle.jc_methods.specs.InsnUse.{LeadsWithin, LocalsWithin, locals_of}
use Rattle.jc_methods.specs.WellMade.{IsCode}
use Rattle.jc_methods.specs.declared.insn.Insn.{Insn}
use Rattle.jc_methods.specs.declared.insn.Insn.TheVariants as insns
use Rattle.jc_methods.specs.declared.insn.Flow.{Flow}
use Rattle.jc_methods.specs.declared.insn.Flow.TheVariants as flows
use Rattle.jc_methods.specs.declared.body.Body.{Body}
use Rattle.jc_methods.specs.declared.probe_members.Fetch.TheVariants as fetches
use Rattle.jc_methods.specs.ProbeMembers.{most_short}
use Rattle.jc_methods.proofs.ByFlowLaws.{locals_inverted}
use Rattle.jc_methods.proofs.PlacedInsnLaws.{locals_placed}
use Rattle.jc_methods.proofs.SlotsLaws.{within_mapped}
use Rattle.jc_plan.specs.Probed.{probe_of}
use Rattle.jc_kinds_after.specs.Shift.{slot_of, with_slot}
use Rattle.jc_emit.specs.Marks.{TwinPlaces, push, push_by}
use Rattle.jc_emit.specs.Sizes.{TwinForm, insn_at}
use Rattle.jc_emit.specs.Items.{Item, start, image, probe_array, probe_id, probe_one, probe_store, hop, insn_of, twin_items}
use Rattle.jc_emit.specs.Local.{Ok, OkImage}
use Rattle.jc_emit.proofs.PlacedLaws.{goto_stops, switch_stops, no_fall_goto, never}
use Rattle.jc_emit.proofs.LocalLaws.{twin_ok}
use Rattle.jc_layout.proofs.ItemTargetsLaws.{stands_within, lands_within, item_within}

-- ---- mapped lists

-- ---- local variables

slot_near : (v k : ℕ) → slot_of v k ≤ k + 1
slot_near v k = by (nat_lt k v)
  where
    by : (t : Bool) → (if t then k else k + 1) ≤ k + 1
    by true = omega arith
    by false = omega arith

slot_within : (v n : ℕ) (insn : Insn) → LocalsWithin n insn → LocalsWithin (n + 1) (with_slot v insn)
slot_within v n insn h = within_mapped n (n + 1) (slot_of v) insn (record { one = near; two = near_two }) h
  where
    near : (slot : ℕ) → slot < n → slot_of v slot < n + 1
    near slot lt = let most = slot_near v slot in omega (arith, most, lt)

    near_two : (slot : ℕ) → slot + 1 < n → slot_of v slot + 1 < n + 1
    near_two slot lt = let most = slot_near v slot in omega (arith, most, lt)

abbrev pub plain_push : ℕ → Insn
plain_push n = cond (nat_le n 127) (insns.Push 16 (pos n)) (insns.Push 17 (pos n))

pub push_locals : (n : ℕ) → locals_of (push n) ≡ []
push_locals n =
    cond_both (nat_le n 5) (insns.Simple (3 + n)) (plain_push n) (λ x. locals_of x ≡ []) (λ few. refl)
    (λ many. cond_both (nat_le n 127) (insns.Push 16 (pos n)) (insns.Push 17 (pos n)) (λ x. locals_of x ≡ []) (λ h. refl) (λ h. refl))

pub push_by_locals : (integer : ℕ → ℕ) (n : ℕ) → locals_of (push_by integer n) ≡ []
push_by_locals integer n =
    cond_both (nat_le n most_short) (push n) (insns.Constant (integer n)) (λ x. locals_of x ≡ []) (λ few. push_locals n) (λ many. refl)

-- ---- where instructions lead

module _ (b : Body) (first : ℕ) (form : TwinForm) (named : TwinPlaces) (is_code : IsCode b.code) where
  abbrev pub items : List Item
  items = twin_items b first form

  abbrev new : Item → Insn
  new x = insn_of named b.arg_slots x

  abbrev old : ℕ → Insn
  old i = insn_at b.code i

  abbrev count : ℕ
  count = length (twin_items b first form)

  abbrev Image : ℕ → ℕ → Insn → Flow → Type 0
  Image q i insn flow = OkImage b.code (Some b.arg_slots) (probe_of b first) items q i (old i) insn flow

  abbrev pub Fine : ℕ → Item → Type 0
  Fine q x = Ok b.code (Some b.arg_slots) (probe_of b first) items q x

  -- ---- what falls through

  image_falls : (q i : ℕ) (insn : Insn) (flow : Flow) → flow_of (old i) ≡ flow → Image q i insn flow → FallsThrough insn → q + 1 < count
  image_falls q i insn flows.GoesOn e h falls = lands_within b first form named (q + 1) _ _ h.1
  image_falls q i insn flows.Branches e h falls =
      ⊎_elim (λ alike. stands_within b first form named (q + 1) _ _ alike.fell) (λ inverse. stands_within b first form named (q + 1) _ _ inverse.fell) h
  image_falls q i insn flows.Jumps e h falls = absurd (goto_stops (old i) (λ to. h.target) e (subst FallsThrough h.same falls))
  image_falls q i insn flows.Switches e h falls = absurd (switch_stops (old i) h.place e (subst FallsThrough h.same falls))
  image_falls q i insn flows.Returns e h falls = absurd (never (old i) flows.Returns e (λ x. cc) (λ x. cc) (subst FallsThrough h falls))
  image_falls q i insn flows.Throws e h falls = absurd (never (old i) flows.Throws e (λ x. cc) (λ x. cc) (subst FallsThrough h falls))

  item_falls : (q : ℕ) (x : Item) → Fine q x → FallsThrough (new x) → q + 1 < count
  item_falls q (start fetches.Member zero) h falls = slice_get_within items (q + 1) (start fetches.Member 1) h.next
  item_falls q (start fetches.Member (suc zero)) h falls = lands_within b first form named (q + 1) 0 None h.next
  item_falls q (start fetches.Member (suc (suc k))) h falls = let within = h.within in absurd (omega (arith, within))
  item_falls q (start fetches.Constant zero) h falls = slice_get_within items (q + 1) (start fetches.Constant 1) h.next
  item_falls q (start fetches.Constant (suc zero)) h falls = slice_get_within items (q + 1) (start fetches.Constant 2) h.next
  item_falls q (start fetches.Constant (suc (suc zero))) h falls = lands_within b first form named (q + 1) 0 None h.next
  item_falls q (start fetches.Constant (suc (suc (suc k)))) h falls = let within = h.within in absurd (omega (arith, within))
  item_falls q (image insn i early) h falls = image_falls q i insn (flow_of (old i)) refl h.2 falls
  item_falls q (probe_array id at late) h falls = slice_get_within items (q + 1) (probe_id id at late) h.1
  item_falls q (probe_id id at late) h falls = slice_get_within items (q + 1) (probe_one id at late) h.1
  item_falls q (probe_one id at late) h falls = slice_get_within items (q + 1) (probe_store id at late) h.1
  item_falls q (probe_store id at true) h falls = stands_within b first form named (q + 1) at None h.1
  item_falls q (probe_store id at false) h falls = slice_get_within items (q + 1) (image h.1.0 at (Some id)) h.1.1
  item_falls q (hop to at due) h falls = absurd (no_fall_goto to falls)

  -- ---- local variables

  module _ (locals : All (LocalsWithin b.max_locals) b.code) (room : b.arg_slots ≤ b.max_locals) where
    old_locals : (i : ℕ) → i < length b.code → LocalsWithin (b.max_locals + 1) (old i)
    old_locals i lt =
        all_weaker (λ (k : ℕ). k < b.max_locals) (λ (k : ℕ). k < b.max_locals + 1) (λ k less. omega (arith, less)) (locals_of (old i)) (locals i (insns.Simple 0) lt)

    abbrev Among : List ℕ → Type 0
    Among slots = AllByRecursion (λ k. k < b.max_locals + 1) slots

    image_locals : (q i : ℕ) (insn : Insn) (flow : Flow) → i < length b.code → Image q i insn flow → Among (locals_of insn)
    image_locals q i insn flows.GoesOn lt h = subst (λ x. Among (locals_of x)) (sym h.0) (slot_within b.arg_slots b.max_locals (old i) (locals i (insns.Simple 0) lt))
    image_locals q i insn flows.Branches lt h =
        ⊎_elim
        (λ alike. subst (λ x. Among (locals_of x)) (sym alike.same) (subst Among (sym (locals_placed (λ to. alike.target) (old i))) (old_locals i lt)))
        (λ inverse. subst (λ x. Among (locals_of x)) (sym inverse.inverse) (subst Among (sym (locals_inverted inverse.target (old i))) (old_locals i lt)))
        h
    image_locals q i insn flows.Jumps lt h =
        subst (λ x. Among (locals_of x)) (sym h.same) (subst Among (sym (locals_placed (λ to. h.target) (old i))) (old_locals i lt))
    image_locals q i insn flows.Switches lt h =
        subst (λ x. Among (locals_of x)) (sym h.same) (subst Among (sym (locals_placed h.place (old i))) (old_locals i lt))
    image_locals q i insn flows.Returns lt h = subst (λ x. Among (locals_of x)) (sym h) (old_locals i lt)
    image_locals q i insn flows.Throws lt h = subst (λ x. Among (locals_of x)) (sym h) (old_locals i lt)

    item_locals : (q : ℕ) (x : Item) → Fine q x → LocalsWithin (b.max_locals + 1) (new x)
    item_locals q (start fetches.Member zero) h = tt
    item_locals q (start fetches.Member (suc zero)) h = (omega (arith, room), tt)
    item_locals q (start fetches.Member (suc (suc k))) h = tt
    item_locals q (start fetches.Constant zero) h = tt
    item_locals q (start fetches.Constant (suc zero)) h = tt
    item_locals q (start fetches.Constant (suc (suc zero))) h = (omega (arith, room), tt)
    item_locals q (start fetches.Constant (suc (suc (suc k)))) h = tt
    item_locals q (image insn i early) h = image_locals q i insn (flow_of (old i)) h.0 h.2
    item_locals q (probe_array id at late) h = (omega (arith, room), tt)
    item_locals q (probe_id id at late) h = subst Among (sym (push_by_locals named.integer id)) tt
    item_locals q (probe_one id at late) h = tt
    item_locals q (probe_store id at late) h = tt
    item_locals q (hop to at due) h = tt

  -- ---- the whole

  -- what holds of the instruction of each item that is as it should be holds of each instruction of the twin
  pub each_insn : (Fact : ℕ → Insn → Type 0) → ((q : ℕ) (x : Item) → slice_get items q ≡ Some x → Fine q x → Fact q (new x))
      → (q : ℕ) (insn : Insn) → slice_get (map new items) q ≡ Some insn → Fact q insn
  each_insn Fact each q insn at =
      let found = mapped_at new items q insn at in
      subst (Fact q) found.2 (each q found.0 found.1 ((twin_ok b first form is_code).ok q found.0 found.1))

  pub leads : (q : ℕ) (insn : Insn) → slice_get (map new items) q ≡ Some insn → LeadsWithin count insn
  leads q insn at = each_insn (λ q insn. LeadsWithin count insn) (λ q x here fine. item_within b first form named q x fine) q insn at

  pub falls : (q : ℕ) (insn : Insn) → slice_get (map new items) q ≡ Some insn → FallsThrough insn → q + 1 < count
  falls q insn at = each_insn (λ q insn. FallsThrough insn → q + 1 < count) (λ q x here fine. item_falls q x fine) q insn at

  pub uses_locals : All (LocalsWithin b.max_locals) b.code → b.arg_slots ≤ b.max_locals
      → (q : ℕ) (insn : Insn) → slice_get (map new items) q ≡ Some insn → LocalsWithin (b.max_locals + 1) insn
  uses_locals locals room q insn at = each_insn (λ q insn. LocalsWithin (b.max_locals + 1) insn) (λ q x here fine. item_locals locals room q x fine) q insn at
