-- The instructions of a twin name entries of the pool of the kinds that they need.
use Rattle.std.proofs.Common.{◌≡◌, ⊎_elim, ℕ, zero, suc, ◌+◌, ◌<◌, ◌≤◌, List, map, length, Some, refl, sym, ◌∙◌, ap, subst, arith, nat_le, pos}
use Rattle.std.specs.Prelude.{slice_get}
use Rattle.std.proofs.lemmas.Bool.{cases_lt, cond_both}
use Rattle.std.proofs.lemmas.Option.{same_Some}
use Rattle.jc_methods.specs.Flow.{flow_of}
use Rattle.jc_methods.specs.Insn.{with_places}
use Rattle.jc_methods.specs.WellMade.{IsCode}
use Rattle.jc_methods.specs.Widened.{inverted}
use Rattle.jc_methods.specs.declared.insn.Insn.{Insn}
use Rattle.jc_methods.specs.declared.insn.Insn.TheVariants as insns
use Rattle.jc_methods.specs.declared.insn.Flow.{Flow}
use Rattle.jc_methods.specs.declared.insn.Flow.TheVariants as flows
use Rattle.jc_methods.specs.declared.body.Body.{Body}
use Rattle.jc_methods.specs.declared.probe_members.Fetch.{Fetch}
use Rattle.jc_methods.specs.declared.probe_members.Fetch.TheVariants as fetches
use Rattle.jc_methods.specs.ProbeMembers.{most_short}
use Rattle.jc_pool.specs.Pool.{PoolValue}
use Rattle.jc_body.specs.Standing.{HasRightEntry}
use Rattle.jc_plan.specs.Probed.{probe_of, probe_count}
use Rattle.jc_kinds_after.specs.Shift.{with_slot}
use Rattle.jc_emit.specs.Marks.{TwinPlaces, push, prelude_size, prelude_insn}
use Rattle.jc_emit.specs.Sizes.{TwinForm, insn_at}
use Rattle.jc_emit.specs.Items.{Item, start, image, probe_array, probe_id, probe_one, probe_store, hop, insn_of, prelude, twin_items}
use Rattle.jc_emit.specs.Local.{AllOk, IsBehind, Ok, OkImage}
use Rattle.jc_emit.proofs.BuiltLaws.{prelude_at}
use Rattle.jc_emit.proofs.EdgeIdLaws.{item_within}
use Rattle.jc_emit.proofs.LocalLaws.{twin_ok}
use Rattle.jc_emit.proofs.PiecesLaws.{HasAt}
use Rattle.jc_instrument_reread.proofs.PushLaws.{loaded_so, pushed_so}
use Rattle.jc_instrument_reread.proofs.TwinItemLaws.{plain_push, each_insn}

module _ (major : ℕ) (pool : PoolValue) where
  abbrev Right : Insn → Type 0
  Right insn = HasRightEntry major pool insn

  slot_right : (v : ℕ) (insn : Insn) → Right insn → Right (with_slot v insn)
  slot_right v (insns.Jump op to) h = h
  slot_right v insn h = h

  placed_right : (f : ℕ → ℕ) (insn : Insn) → Right insn → Right (with_places f insn)
  placed_right f (insns.Jump op to) h = h
  placed_right f insn h = h

  inverted_right : (to : ℕ) (insn : Insn) → Right insn → Right (inverted to insn)
  inverted_right to (insns.Jump op other) h = h
  inverted_right to insn h = h

  pub push_right : (n : ℕ) → Right (push n)
  push_right n =
      cond_both (nat_le n 5) (insns.Simple (3 + n)) (plain_push n) Right (λ few. tt)
      (λ many. cond_both (nat_le n 127) (insns.Push 16 (pos n)) (insns.Push 17 (pos n)) Right (λ h. tt) (λ h. tt))

-- ---- the prelude

two_preludes : (k j : ℕ) → start fetches.Member k ≡ start fetches.Constant j → ⊥
two_preludes k j e = cc

module _ (b : Body) (first : ℕ) (form : TwinForm) (is_code : IsCode b.code) where
  abbrev all : List Item
  all = twin_items b first form

  abbrev At : ℕ → Fetch → ℕ → Type 0
  At q fetch k = slice_get (twin_items b first form) q ≡ Some (start fetch k)

  fine : AllOk b.code (Some b.arg_slots) (probe_of b first) (twin_items b first form)
  fine = twin_ok b first form is_code

  -- it stands at the place of its number
  in_place : (q : ℕ) (fetch : Fetch) (k : ℕ) → At q fetch k → At k fetch k
  in_place q fetch k here = ap (slice_get all) (sym (fine.ok q (start fetch k) here).place) ∙ here

  no_constant : HasAt all 0 (prelude fetches.Member) → (k : ℕ) → At k fetches.Constant k → k < 3 → ⊥
  no_constant own zero at within = two_preludes 0 0 (same_Some (start fetches.Member 0) (start fetches.Constant 0) (sym own.0 ∙ at))
  no_constant own (suc zero) at within = two_preludes 1 1 (same_Some (start fetches.Member 1) (start fetches.Constant 1) (sym own.1.0 ∙ at))
  no_constant own (suc (suc zero)) at within =
      let next = (fine.ok 1 (start fetches.Member 1) own.1.0).next.stands in
      subst IsBehind (same_Some next.item (start fetches.Constant 2) (sym next.here ∙ at)) next.behind
  no_constant own (suc (suc (suc k))) at within = omega (arith, within)

  no_member : HasAt all 0 (prelude fetches.Constant) → (k : ℕ) → At k fetches.Member k → k < 2 → ⊥
  no_member own zero at within = two_preludes 0 0 (same_Some (start fetches.Member 0) (start fetches.Constant 0) (sym at ∙ own.0))
  no_member own (suc zero) at within = two_preludes 1 1 (same_Some (start fetches.Member 1) (start fetches.Constant 1) (sym at ∙ own.1.0))
  no_member own (suc (suc k)) at within = omega (arith, within)

  -- an instruction of a prelude is one of that with which the twin begins
  one_prelude : (q : ℕ) (fetch : Fetch) (k : ℕ) → At q fetch k → form.fetch ≡ fetch
  one_prelude q fetch k here = by form.fetch fetch (prelude_at b first form) here
    where
      by : (own other : Fetch) → HasAt all 0 (prelude own) → At q other k → own ≡ other
      by fetches.Member fetches.Member own here = refl
      by fetches.Constant fetches.Constant own here = refl
      by fetches.Member fetches.Constant own here =
          absurd (no_constant own k (in_place q fetches.Constant k here) (fine.ok q (start fetches.Constant k) here).within)
      by fetches.Constant fetches.Member own here =
          absurd (no_member own k (in_place q fetches.Member k here) (fine.ok q (start fetches.Member k) here).within)

-- ---- items

module _ (b : Body) (first : ℕ) (form : TwinForm) (named : TwinPlaces) (is_code : IsCode b.code) where
  abbrev items : List Item
  items = twin_items b first form

  abbrev new : Item → Insn
  new x = insn_of named b.arg_slots x

  abbrev old : ℕ → Insn
  old i = insn_at b.code i

  abbrev Image : ℕ → ℕ → Insn → Flow → Type 0
  Image q i insn flow = OkImage b.code (Some b.arg_slots) (probe_of b first) items q i (old i) insn flow

  abbrev Fine : ℕ → Item → Type 0
  Fine q x = Ok b.code (Some b.arg_slots) (probe_of b first) items q x

  module _ (major : ℕ) (pool : PoolValue) (right : (i : ℕ) → i < length b.code → HasRightEntry major pool (old i))
      (right_integers : (id : ℕ) → most_short < id → first ≤ id → id < first + probe_count b → HasRightEntry major pool (insns.Constant (named.integer id)))
      (right_start : (k : ℕ) → k < prelude_size form.fetch → HasRightEntry major pool (prelude_insn form.fetch named b.arg_slots k)) where
    abbrev Named : Insn → Type 0
    Named insn = HasRightEntry major pool insn

    image_right : (q i : ℕ) (insn : Insn) (flow : Flow) → i < length b.code → Image q i insn flow → Named insn
    image_right q i insn flows.GoesOn lt h = subst Named (sym h.0) (slot_right major pool b.arg_slots (old i) (right i lt))
    image_right q i insn flows.Branches lt h =
        ⊎_elim (λ alike. subst Named (sym alike.same) (placed_right major pool (λ to. alike.target) (old i) (right i lt)))
        (λ inverse. subst Named (sym inverse.inverse) (inverted_right major pool inverse.target (old i) (right i lt))) h
    image_right q i insn flows.Jumps lt h = subst Named (sym h.same) (placed_right major pool (λ to. h.target) (old i) (right i lt))
    image_right q i insn flows.Switches lt h = subst Named (sym h.same) (placed_right major pool h.place (old i) (right i lt))
    image_right q i insn flows.Returns lt h = subst Named (sym h) (right i lt)
    image_right q i insn flows.Throws lt h = subst Named (sym h) (right i lt)

    item_right : (q : ℕ) (x : Item) → slice_get items q ≡ Some x → Fine q x → Named (new x)
    item_right q (start fetch k) here h =
        let same = one_prelude b first form is_code q fetch k here in
        subst (λ (f : Fetch). Named (prelude_insn f named b.arg_slots k)) same
        (right_start k (subst (λ (f : Fetch). k < prelude_size f) (sym same) h.within))
    item_right q (image insn i early) here h = image_right q i insn (flow_of (old i)) h.0 h.2
    item_right q (probe_array id at late) here h = tt
    item_right q (probe_id id at late) here h =
        let within = item_within b first (Some b.arg_slots) items (twin_ok b first form is_code) q id (probe_id id at late) here refl in
        ⊎_elim (λ more. subst Named (sym (loaded_so named.integer id more)) (right_integers id more within.0 within.1))
        (λ few. subst Named (sym (pushed_so named.integer id few)) (push_right major pool id)) (cases_lt most_short id)
    item_right q (probe_one id at late) here h = tt
    item_right q (probe_store id at late) here h = tt
    item_right q (hop to at due) here h = tt

  pub names_right : (major : ℕ) (pool : PoolValue) → ((i : ℕ) → i < length b.code → HasRightEntry major pool (insn_at b.code i))
      → ((id : ℕ) → most_short < id → first ≤ id → id < first + probe_count b → HasRightEntry major pool (insns.Constant (named.integer id)))
      → ((k : ℕ) → k < prelude_size form.fetch → HasRightEntry major pool (prelude_insn form.fetch named b.arg_slots k))
      → (q : ℕ) (insn : Insn) → slice_get (map new items) q ≡ Some insn → HasRightEntry major pool insn
  names_right major pool right right_integers right_start q insn at =
      each_insn b first form named is_code (λ q insn. HasRightEntry major pool insn) (item_right major pool right right_integers right_start) q insn at
