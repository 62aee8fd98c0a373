-- Instrumented code can be laid out.
use Rattle.std.proofs.Common.{◌≡◌, ⊎_elim, ℕ, ◌+◌, ◌<◌, List, [], ◌∷◌, map, length, get_or, Some, refl, sym, subst, arith, ◌≤◌, All}
use Rattle.std.specs.List.{sum_by}
use Rattle.std.proofs.lemmas.List.{length-map}
use Rattle.std.proofs.lemmas.List.Elements.{All-map, All-cons, All-tail}
use Rattle.std.proofs.lemmas.List.Sums.{sum_by-cons}
use Rattle.std.proofs.lemmas.Option.{slice_get-get_or}
use Rattle.jc_methods.specs.Flow.{flow_of}
use Rattle.jc_methods.specs.Insn.{IsWellFormed, arm_count}
use Rattle.jc_methods.specs.InsnUse.{LeadsWithin}
use Rattle.jc_methods.specs.WellMade.{IsCode, insns_and_arms}
use Rattle.jc_methods.specs.declared.insn.Insn.{Insn}
use Rattle.jc_methods.specs.declared.insn.Insn.TheVariants as insns
use Rattle.jc_methods.specs.declared.insn.Flow.{Flow}
use Rattle.jc_methods.specs.declared.insn.Flow.TheVariants as flows
use Rattle.jc_methods.specs.declared.body.Body.{Body}
use Rattle.jc_methods.specs.declared.kind.State.{State}
use Rattle.jc_methods.specs.declared.probe_members.Fetch.{Fetch}
use Rattle.jc_methods.specs.declared.probe_members.Fetch.TheVariants as fetches
use Rattle.jc_methods.specs.declared.emitted.Emitted.{Emitted}
use Rattle.jc_insn.proofs.PlacesLaws.{well_formed_with}
use Rattle.jc_plan.specs.Probed.{probe_of}
use Rattle.jc_emit.specs.Marks.{unplaced}
use Rattle.jc_emit.specs.Emission.{Emitting, emission}
use Rattle.jc_emit.specs.Sizes.{narrow, insn_at}
use Rattle.jc_emit.specs.Items.{Item, start, image, probe_array, probe_id, probe_one, probe_store, hop, insn_of, twin_items}
use Rattle.jc_emit.specs.Local.{Ok, OkImage}
use Rattle.jc_emit.proofs.FewLaws.{few_emitted}
use Rattle.jc_emit.proofs.LocalLaws.{twin_ok}
use Rattle.jc_layout.specs.Layable.{IsLayable}
use Rattle.jc_layout.specs.LaidBody.{readied, ready_code}
use Rattle.jc_layout.proofs.ItemTargetsLaws.{item_within}
use Rattle.jc_layout.proofs.FormedLaws.{inverted_formed, slot_formed, load_formed, one_formed, put_formed, goto_formed, push_by_formed, prelude_formed}

module _ (b : Body) (first : ℕ) (fetch : Fetch) (integer : ℕ → ℕ) (is_code : IsCode b.code) where
  abbrev items : List Item
  items = twin_items b first (narrow fetch)

  abbrev new : Item → Insn
  new x = insn_of (unplaced integer) b.arg_slots x

  abbrev old : ℕ → Insn
  old i = insn_at b.code i

  abbrev count : ℕ
  count = length (twin_items b first (narrow fetch))

  abbrev Image : ℕ → ℕ → Insn → Flow → Type 0
  Image q i insn flow = OkImage b.code (Some b.arg_slots) (probe_of b first) items q i (old i) insn flow

  abbrev Fine : ℕ → Item → Type 0
  Fine q x = Ok b.code (Some b.arg_slots) (probe_of b first) items q x

  formed : (i : ℕ) → i < length b.code → IsWellFormed (old i)
  formed i lt = is_code.well_formed i (insns.Simple 0) lt

  -- ---- opcodes and operands

  image_formed : (q i : ℕ) (insn : Insn) (flow : Flow) → i < length b.code → Image q i insn flow → IsWellFormed insn
  image_formed q i insn flows.GoesOn lt h = subst IsWellFormed (sym h.0) (slot_formed b.arg_slots (old i) (formed i lt))
  image_formed q i insn flows.Branches lt h =
      ⊎_elim (λ alike. subst IsWellFormed (sym alike.same) (well_formed_with (λ to. alike.target) (old i) (formed i lt)))
      (λ inverse. subst IsWellFormed (sym inverse.inverse) (inverted_formed inverse.target (old i) (formed i lt))) h
  image_formed q i insn flows.Jumps lt h = subst IsWellFormed (sym h.same) (well_formed_with (λ to. h.target) (old i) (formed i lt))
  image_formed q i insn flows.Switches lt h = subst IsWellFormed (sym h.same) (well_formed_with h.place (old i) (formed i lt))
  image_formed q i insn flows.Returns lt h = subst IsWellFormed (sym h) (formed i lt)
  image_formed q i insn flows.Throws lt h = subst IsWellFormed (sym h) (formed i lt)

  item_formed : (q : ℕ) (x : Item) → Fine q x → IsWellFormed (new x)
  item_formed q (start f k) h = prelude_formed f (unplaced integer) b.arg_slots k
  item_formed q (image insn i early) h = image_formed q i insn (flow_of (old i)) h.0 h.2
  item_formed q (probe_array id at late) h = load_formed b.arg_slots
  item_formed q (probe_id id at late) h = push_by_formed integer id
  item_formed q (probe_one id at late) h = one_formed
  item_formed q (probe_store id at late) h = put_formed
  item_formed q (hop to at due) h = goto_formed to

  -- ---- the whole

  fine : (q : ℕ) (d : Item) → q < length items → Fine q (get_or items q d)
  fine q d lt = (twin_ok b first (narrow fetch) is_code).ok q (get_or items q d) (slice_get-get_or items q d lt)

  pub all_formed : All IsWellFormed (map (insn_of (unplaced integer) b.arg_slots) (twin_items b first (narrow fetch)))
  all_formed = All-map IsWellFormed (insn_of (unplaced integer) b.arg_slots) items (λ q d lt. item_formed q (get_or items q d) (fine q d lt))

  pub all_within : All (LeadsWithin (length (map (insn_of (unplaced integer) b.arg_slots) (twin_items b first (narrow fetch)))))
      (map (insn_of (unplaced integer) b.arg_slots) (twin_items b first (narrow fetch)))
  all_within =
      subst (λ n. All (LeadsWithin n) (map (insn_of (unplaced integer) b.arg_slots) items)) (sym (length-map items (insn_of (unplaced integer) b.arg_slots)))
      (All-map (LeadsWithin count) (insn_of (unplaced integer) b.arg_slots) items (λ q d lt. item_within b first (narrow fetch) (unplaced integer) q (get_or items q d) (fine q d lt)))

-- ---- how many there are

together : (code : List Insn) → insns_and_arms code ≡ length code + sum_by arm_count code
together [] = refl
together (insn ∷ code) =
    let both = sum_by-cons (λ (x : Insn). 1 + arm_count x) insn code in
    let arms = sum_by-cons arm_count insn code in
    omega (arith, both, arms, together code)

pub few_in : (b : Body) (first : ℕ) (states : List State) (given : Emitting) → IsCode b.code
    → insns_and_arms (emission b first states given).code ≤ 1000000
few_in b first states given is_code =
    let few = few_emitted b first states given is_code in
    let both = together (emission b first states given).code in
    omega (arith, few, both)

-- ---- code that is ready for its layout

pub ready_formed : (fetch : Fetch) (place : ℕ) (code : List Insn) → All IsWellFormed code → All IsWellFormed (ready_code fetch place code)
ready_formed fetches.Member place code h = h
ready_formed fetches.Constant place [] h = h
ready_formed fetches.Constant place (load ∷ code) h = All-cons IsWellFormed (insns.Constant place) code tt (All-tail IsWellFormed load code h)

ready_within : (fetch : Fetch) (n place : ℕ) (code : List Insn) → All (LeadsWithin n) code → All (LeadsWithin n) (ready_code fetch place code)
ready_within fetches.Member n place code h = h
ready_within fetches.Constant n place [] h = h
ready_within fetches.Constant n place (load ∷ code) h = All-cons (LeadsWithin n) (insns.Constant place) code tt (All-tail (LeadsWithin n) load code h)

pub ready_length : (fetch : Fetch) (place : ℕ) (code : List Insn) → length (ready_code fetch place code) ≡ length code
ready_length fetches.Member place code = refl
ready_length fetches.Constant place [] = refl
ready_length fetches.Constant place (load ∷ code) = refl

pub ready_places : (fetch : Fetch) (place : ℕ) (code : List Insn) → All (LeadsWithin (length code)) code
    → All (LeadsWithin (length (ready_code fetch place code))) (ready_code fetch place code)
ready_places fetch place code h =
    subst (λ n. All (LeadsWithin n) (ready_code fetch place code)) (sym (ready_length fetch place code)) (ready_within fetch (length code) place code h)

ready_few : (fetch : Fetch) (place : ℕ) (code : List Insn) → insns_and_arms (ready_code fetch place code) ≤ insns_and_arms code
ready_few fetches.Member place code = omega arith
ready_few fetches.Constant place [] = omega arith
ready_few fetches.Constant place (load ∷ code) =
    let old = sum_by-cons (λ (x : Insn). 1 + arm_count x) load code in
    let new = sum_by-cons (λ (x : Insn). 1 + arm_count x) (insns.Constant place) code in
    omega (arith, old, new)

pub ready_layable : (fetch : Fetch) (giver : ℕ) (e : Emitted) → IsLayable e.code → IsLayable (readied fetch giver e).code
ready_layable fetch giver e h = record {
  well_formed = ready_formed fetch giver e.code h.well_formed;
  places = ready_places fetch giver e.code h.places;
  few = let fewer = ready_few fetch giver e.code in let few = h.few in omega (arith, fewer, few);
}
