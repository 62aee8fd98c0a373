-- An unchanged body goes on where it should: each instruction is its own image.
use Rattle.std.proofs.Common.{◌≡◌, inl, inr, ⊎_elim, ℕ, zero, suc, ◌+◌, ◌<◌, true, List, [], ◌∷◌, length, Option, Some, None, refl, sym, ap, ◌∙◌, subst, arith, zero-add}
use Rattle.std.specs.Prelude.{slice_get, Contains}
use Rattle.std.specs.List.{AllByRecursion}
use Rattle.std.proofs.lemmas.Bool.{cases_lt}
use Rattle.std.proofs.lemmas.Option.{slice_get-get_or, slice_get_within}
use Rattle.jc_bytes.specs.PlainLists.{map_from}
use Rattle.jc_bytes.specs.FirstSeen.{first_seen}
use Rattle.jc_methods.specs.Flow.{flow_of, targets_of, FallsThrough, jump_target}
use Rattle.jc_methods.specs.WellMade.{IsCode, IsHandler}
use Rattle.jc_methods.proofs.ByFlowLaws.{insn_by, jump_placed}
use Rattle.jc_methods.proofs.PlacedInsnLaws.{places_same}
use Rattle.jc_methods.specs.declared.insn.Insn.{Insn}
use Rattle.jc_methods.specs.declared.insn.Flow.{Flow}
use Rattle.jc_methods.specs.declared.body.Handler.{Handler}
use Rattle.jc_plan.specs.Edges.{branches_by}
use Rattle.jc_bytes.proofs.FirstSeenLaws.{first_seen_listed}
use Rattle.jc_bytes.proofs.ListLaws.{each_in}
use Rattle.jc_plan.proofs.ByBranchLaws.{last_parts}
use Rattle.jc_emit.specs.Sizes.{insn_at, early_by}
use Rattle.jc_emit.specs.TwinCode.{to_of}
use Rattle.jc_emit.specs.Items.{Item, image, at_of, own_of}
use Rattle.jc_emit.specs.Local.{Lands, Ok, OkImage, AllOk, OkRow, Holds, TestsAlike, no_ids, unchanged_items}
use Rattle.jc_emit.proofs.OthersLaws.{tests_target, jumps_target, arm_listed}
use Rattle.jc_methods.specs.declared.insn.Insn.TheVariants as insns
use Rattle.jc_methods.specs.declared.insn.Flow.TheVariants as flows

abbrev item : ℕ → Insn → Item
item i insn = image insn i None

get_item : (i k : ℕ) (code : List Insn) (insn : Insn) → slice_get code k ≡ Some insn
    → slice_get (map_from item i code) k ≡ Some (image insn (i + k) None)
get_item i k [] insn h = cc
get_item i zero (x ∷ code) insn h =
    let same : x ≡ insn = cc in
    let e : i ≡ i + 0 = omega arith in
    ap (λ y. Some (image y i None)) same ∙ ap (λ j. Some (image insn j None)) e
get_item i (suc k) (x ∷ code) insn h =
    let e : i + 1 + k ≡ i + suc k = omega arith in
    get_item (i + 1) k code insn h ∙ ap (λ j. Some (image insn j None)) e

item_got : (i k : ℕ) (code : List Insn) (x : Item) → slice_get (map_from item i code) k ≡ Some x
    → (insn : Insn) × (slice_get code k ≡ Some insn) × (x ≡ image insn (i + k) None)
item_got i k [] x h = cc
item_got i zero (y ∷ code) x h =
    let same : image y i None ≡ x = cc in
    let e : i ≡ i + 0 = omega arith in
    (y, refl, sym same ∙ ap (λ j. image y j None) e)
item_got i (suc k) (y ∷ code) x h =
    let more = item_got (i + 1) k code x h in
    let e : i + 1 + k ≡ i + suc k = omega arith in
    (more.0, more.1, more.2 ∙ ap (λ j. image more.0 j None) e)

-- there are images alone
pub unchanged_plain : (code : List Insn) (q : ℕ) (x : Item) → slice_get (unchanged_items code) q ≡ Some x → own_of x ≡ true
unchanged_plain code q x h = ap own_of (item_got 0 q code x h).2

module _ (code : List Insn) (is_code : IsCode code) where
  abbrev items : List Item
  items = unchanged_items code

  abbrev old : ℕ → Insn
  old i = insn_at code i

  abbrev In : ℕ → ℕ → Option ℕ → Type 0
  In q at due = Lands code None no_ids items q at due

  lands : (i : ℕ) → i < length code → In i i None
  lands i lt = record {
    stands = record {
      item = image (old i) i None;
      here = get_item 0 i code (old i) (slice_get-get_or code i (insns.Simple 0) lt) ∙ ap (λ j. Some (image (old i) j None)) (zero-add i);
      at_is = refl;
      pushed = refl;
      due_is = refl;
      no_early = refl;
      behind = tt;
    };
    no_hop = tt;
  }

  next_within : (i : ℕ) → i < length code → FallsThrough (old i) → i + 1 < length code
  next_within i lt falls =
      ⊎_elim (λ more. more)
      (λ over.
      let last : i + 1 ≡ length code = omega arith in
      let parts = last_parts code i (old i) (slice_get-get_or code i (insns.Simple 0) lt) last in
      absurd (is_code.ends parts.0 (old i) parts.1 falls))
      (cases_lt (i + 1) (length code))

  target_within : (i : ℕ) → i < length code → targets_of (old i) ≡ jump_target (old i) ∷ [] → jump_target (old i) < length code
  target_within i lt e = (subst (λ ts. AllByRecursion (λ to. to < length code) ts) e (is_code.places i (insns.Simple 0) lt)).0

  image_by : (i : ℕ) (flow : Flow) → i < length code → flow_of (old i) ≡ flow → OkImage code None no_ids items i i (old i) (old i) flow
  image_by i flows.GoesOn lt e = (refl, lands (i + 1) (next_within i lt (inl e)))
  image_by i flows.Branches lt e =
      let to = jump_target (old i) in
      let alike : TestsAlike code None no_ids items i i (old i) (old i) = record {
        target = to;
        same = sym (places_same (old i)) ∙ jump_placed (λ to. to) (old i) (insn_by (old i) e);
        jumped = lands to (target_within i lt (tests_target (old i) e));
        fell = (lands (i + 1) (next_within i lt (inr e))).stands;
      } in
      inl alike
  image_by i flows.Jumps lt e =
      let to = jump_target (old i) in
      record { target = to; same = sym (places_same (old i)) ∙ jump_placed (λ to. to) (old i) (insn_by (old i) e); jumped = lands to (target_within i lt (jumps_target (old i) e)) }
  image_by i flows.Switches lt e = record {
    place = λ to. to;
    same = sym (places_same (old i));
    each = λ x c.
        lands (to_of x) (each_in (λ to. to < length code) (targets_of (old i)) (to_of x) (is_code.places i (insns.Simple 0) lt)
        (first_seen_listed (targets_of (old i)) (to_of x) (arm_listed i 0 (first_seen (targets_of (old i))) x (subst (λ f. Contains (branches_by f i (targets_of (old i))) x) e c))));
  }
  image_by i flows.Returns lt e = refl
  image_by i flows.Throws lt e = refl

  none_early : (i : ℕ) (insn : Insn) (flow : Flow) → None ≡ early_by no_ids i insn flow
  none_early i insn flows.GoesOn = refl
  none_early i insn flows.Branches = refl
  none_early i insn flows.Jumps = refl
  none_early i insn flows.Switches = refl
  none_early i insn flows.Returns = refl
  none_early i insn flows.Throws = refl

  pub unchanged_ok : AllOk code None no_ids items
  unchanged_ok = record { ok = each; start = lands 0 is_code.some }
    where
      each : (q : ℕ) (x : Item) → slice_get items q ≡ Some x → Ok code None no_ids items q x
      each q x h =
          let got = item_got 0 q code x h in
          let within = slice_get_within code q got.0 got.1 in
          let found = slice_get-get_or code q (insns.Simple 0) within in
          let same : got.0 ≡ old q = cc in
          let e : image (old q) q None ≡ x = sym (got.2 ∙ ap (λ j. image got.0 j None) (zero-add q) ∙ ap (λ y. image y q None) same) in
          subst (Ok code None no_ids items q) e (within, none_early q (old q) (flow_of (old q)), image_by q (flow_of (old q)) within refl)

  -- ---- exception rows

  place_is : (q i : ℕ) (insn : Insn) (early : Option ℕ) → slice_get items q ≡ Some (image insn i early) → i ≡ q
  place_is q i insn early h = ap at_of (item_got 0 q code (image insn i early) h).2 ∙ zero-add q

  -- each row stays
  pub unchanged_row : (h : Handler) → IsHandler (length code) h → OkRow code None no_ids items h h
  unchanged_row h is = record {
    class = refl;
    holds = λ q i insn early found.
        let e = place_is q i insn early found in
        (λ held. subst (Holds h) (sym e) held, λ held. subst (Holds h) e held);
    target = lands h.target is.target;
  }
