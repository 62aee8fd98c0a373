-- The instructions of a twin lead to instructions of it.
use Rattle.std.proofs.Common.{◌≡◌, ⊎_elim, inl, inr, ℕ, zero, suc, ◌+◌, ◌<◌, List, [], ◌∷◌, map, length, Option, Some, refl, sym, ap, ◌∙◌, subst}
use Rattle.std.specs.Prelude.{Contains}
use Rattle.std.specs.List.{AllByRecursion}
use Rattle.std.proofs.lemmas.Option.{slice_get_within}
use Rattle.jc_bytes.specs.PlainLists.{map_from}
use Rattle.jc_bytes.specs.FirstSeen.{first_seen}
use Rattle.jc_bytes.proofs.BooleanLaws.{none_in, which_in, first_in, later_in}
use Rattle.jc_bytes.proofs.FirstSeenLaws.{first_seen_all}
use Rattle.jc_methods.specs.Flow.{flow_of, targets_of}
use Rattle.jc_methods.specs.Insn.{with_places}
use Rattle.jc_methods.specs.InsnUse.{LeadsWithin}
use Rattle.jc_methods.specs.declared.insn.Insn.{Insn}
use Rattle.jc_methods.specs.declared.insn.Flow.{Flow}
use Rattle.jc_methods.specs.declared.insn.Flow.TheVariants as flows
use Rattle.jc_methods.specs.declared.body.Body.{Body}
use Rattle.jc_methods.specs.declared.probe_members.Fetch.{Fetch}
use Rattle.jc_methods.specs.declared.probe_members.Fetch.TheVariants as fetches
use Rattle.jc_plan.specs.declared.branch.Branch.{Branch}
use Rattle.jc_plan.specs.Edges.{arm, branches_by}
use Rattle.jc_plan.specs.Probed.{probe_of}
use Rattle.jc_kinds_after.specs.Shift.{with_slot}
use Rattle.jc_emit.specs.Marks.{TwinPlaces, push_by, prelude_insn}
use Rattle.jc_emit.specs.Sizes.{TwinForm, insn_at}
use Rattle.jc_emit.specs.TwinCode.{to_of}
use Rattle.jc_emit.specs.Items.{Item, start, image, probe_array, probe_id, probe_one, probe_store, hop, insn_of, twin_items}
use Rattle.jc_emit.specs.Local.{Stands, Lands, Ok, OkImage}
use Rattle.jc_emit.proofs.PlacedLaws.{flow_push_by, flow_shifted, no_targets, inverse_targets, placed_targets}
use Rattle.jc_methods.proofs.PlacedInsnLaws.{targets_placed}
use Rattle.jc_emit.proofs.OthersLaws.{jumps_target}

-- ---- lists

each_mapped : (f : ℕ → ℕ) (P : ℕ → Type 0) (xs : List ℕ) → ((x : ℕ) → Contains xs x → P (f x)) → AllByRecursion P (map f xs)
each_mapped f P [] h = tt
each_mapped f P (x ∷ xs) h = (h x (first_in x xs), each_mapped f P xs (λ y c. h y (later_in x xs y c)))

-- the branch of a switch's target
branch_of : (i k : ℕ) (ts : List ℕ) (t : ℕ) → Contains ts t → (x : Branch) × Contains (map_from (arm i) k ts) x × (to_of x ≡ t)
branch_of i k [] t c = absurd (none_in t c)
branch_of i k (s ∷ ts) t c =
    ⊎_elim
    (λ same. (arm i k s, first_in (arm i k s) (map_from (arm i) (k + 1) ts), same))
    (λ later. let x = branch_of i (k + 1) ts t later in (x.0, later_in (arm i k s) (map_from (arm i) (k + 1) ts) x.0 x.1, x.2))
    (which_in s ts t c)

-- ---- where the items of a twin lead

module _ (b : Body) (first : ℕ) (form : TwinForm) (named : TwinPlaces) where
  abbrev items : List Item
  items = twin_items b first form

  abbrev new : Item → Insn
  new x = insn_of named b.arg_slots x

  abbrev old : ℕ → Insn
  old i = insn_at b.code i

  abbrev count : ℕ
  count = length (twin_items b first form)

  abbrev Image : ℕ → ℕ → Insn → Flow → Type 0
  Image q i insn flow = OkImage b.code (Some b.arg_slots) (probe_of b first) items q i (old i) insn flow

  abbrev Fine : ℕ → Item → Type 0
  Fine q x = Ok b.code (Some b.arg_slots) (probe_of b first) items q x

  pub stands_within : (q at : ℕ) (due : Option ℕ) → Stands b.code (Some b.arg_slots) (probe_of b first) items q at due → q < count
  stands_within q at due h = slice_get_within items q h.item h.here

  pub lands_within : (q at : ℕ) (due : Option ℕ) → Lands b.code (Some b.arg_slots) (probe_of b first) items q at due → q < count
  lands_within q at due h = stands_within q at due h.stands

  abbrev Within : List ℕ → Type 0
  Within ts = AllByRecursion (λ to. to < count) ts

  switch_within : (i : ℕ) (place : ℕ → ℕ) → flow_of (old i) ≡ flows.Switches
      → ((x : Branch) → Contains (branches_by (flow_of (old i)) i (targets_of (old i))) x
      → Lands b.code (Some b.arg_slots) (probe_of b first) items (place (to_of x)) (to_of x) (probe_of b first x))
      → Within (targets_of (with_places place (old i)))
  switch_within i place e each =
      subst Within (sym (targets_placed place (old i)))
      (each_mapped place (λ to. to < count) (targets_of (old i))
      (λ t c.
      let x = branch_of i 0 (first_seen (targets_of (old i))) t (first_seen_all (targets_of (old i)) t c) in
      let listed = subst (λ f. Contains (branches_by f i (targets_of (old i))) x.0) (sym e) x.1 in
      subst (λ to. place to < count) x.2 (lands_within (place (to_of x.0)) (to_of x.0) (probe_of b first x.0) (each x.0 listed))))

  image_within : (q i : ℕ) (insn : Insn) (flow : Flow) → flow_of (old i) ≡ flow → Image q i insn flow → Within (targets_of insn)
  image_within q i insn flows.GoesOn e h =
      subst (λ x. Within (targets_of x)) (sym h.0)
      (subst Within (sym (no_targets (with_slot b.arg_slots (old i)) (inl (flow_shifted b.arg_slots (old i) ∙ e)))) tt)
  image_within q i insn flows.Branches e h =
      ⊎_elim
      (λ alike. subst (λ x. Within (targets_of x)) (sym alike.same)
      (subst Within (sym (placed_targets (old i) (λ to. alike.target) e)) (lands_within alike.target _ _ alike.jumped, tt)))
      (λ inverse. subst (λ x. Within (targets_of x)) (sym inverse.inverse)
      (subst Within (sym (inverse_targets (old i) inverse.target e)) (lands_within inverse.target _ _ inverse.jumped, tt)))
      h
  image_within q i insn flows.Jumps e h =
      subst (λ x. Within (targets_of x)) (sym h.same)
      (subst Within (sym (targets_placed (λ to. h.target) (old i) ∙ ap (map (λ (to : ℕ). h.target)) (jumps_target (old i) e)))
      (lands_within h.target _ _ h.jumped, tt))
  image_within q i insn flows.Switches e h = subst (λ x. Within (targets_of x)) (sym h.same) (switch_within i h.place e h.each)
  image_within q i insn flows.Returns e h =
      subst (λ x. Within (targets_of x)) (sym h) (subst Within (sym (no_targets (old i) (inr (inl e)))) tt)
  image_within q i insn flows.Throws e h =
      subst (λ x. Within (targets_of x)) (sym h) (subst Within (sym (no_targets (old i) (inr (inr e)))) tt)

  prelude_within : (fetch : Fetch) (v k : ℕ) → LeadsWithin count (prelude_insn fetch named v k)
  prelude_within fetches.Member v zero = tt
  prelude_within fetches.Member v (suc zero) = tt
  prelude_within fetches.Member v (suc (suc k)) = tt
  prelude_within fetches.Constant v zero = tt
  prelude_within fetches.Constant v (suc zero) = tt
  prelude_within fetches.Constant v (suc (suc zero)) = tt
  prelude_within fetches.Constant v (suc (suc (suc k))) = tt

  pub item_within : (q : ℕ) (x : Item) → Fine q x → LeadsWithin count (new x)
  item_within q (start fetch k) h = prelude_within fetch b.arg_slots k
  item_within q (image insn i early) h = image_within q i insn (flow_of (old i)) refl h.2
  item_within q (probe_array id at late) h = tt
  item_within q (probe_id id at late) h = subst Within (sym (no_targets (push_by named.integer id) (inl (flow_push_by named.integer id)))) tt
  item_within q (probe_one id at late) h = tt
  item_within q (probe_store id at late) h = tt
  item_within q (hop to at due) h = (lands_within to at due h.0, tt)
