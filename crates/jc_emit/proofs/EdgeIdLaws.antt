-- The id of each probe is that of an edge of the body, so it is in range.
use Rattle.std.proofs.Common.{◌≡◌, ⊎_elim, ℕ, ◌+◌, ◌<◌, ◌≤◌, Bool, true, false, List, [], map, length, Option, Some, refl, sym, ap, ◌∙◌, subst, arith}
use Rattle.std.specs.Prelude.{slice_get, Contains}
use Rattle.std.proofs.lemmas.Bool.{cases_lt}
use Rattle.std.proofs.lemmas.List.{get_or_past}
use Rattle.std.proofs.lemmas.Option.{slice_get-get_or, same_Some}
use Rattle.jc_methods.specs.Flow.{flow_of, targets_of, jump_target}
use Rattle.jc_methods.specs.declared.insn.Insn.{Insn}
use Rattle.jc_methods.specs.declared.insn.Insn.TheVariants as insns
use Rattle.jc_methods.specs.declared.insn.Flow.{Flow}
use Rattle.jc_methods.specs.declared.insn.Flow.TheVariants as flows
use Rattle.jc_methods.specs.declared.body.Body.{Body}
use Rattle.jc_methods.specs.declared.body.What.{What}
use Rattle.jc_methods.specs.declared.probe_members.Fetch.{Fetch}
use Rattle.jc_bytes.proofs.BooleanLaws.{first_in}
use Rattle.jc_plan.specs.declared.branch.Branch.{Branch}
use Rattle.jc_plan.specs.Edges.{jump, exit, branches_by, branches_of, branches}
use Rattle.jc_plan.specs.Probed.{probe_of, probe_count}
use Rattle.jc_plan.proofs.IdsLaws.{ids_within}
use Rattle.jc_plan.proofs.ListedLaws.{lists_from}
use Rattle.jc_emit.specs.Sizes.{insn_at, early_by}
use Rattle.jc_emit.specs.Marks.{Marks}
use Rattle.jc_emit.specs.Items.{Item, start, image, probe_array, probe_id, probe_one, probe_store, hop}
use Rattle.jc_emit.specs.Local.{AllOk, IsOfBranch, IsOfEdge, id_in, early_at}
use Rattle.jc_emit.specs.Seen.{IsSeen}
use Rattle.jc_emit.proofs.OthersLaws.{none_some, jumps_target}
use Rattle.jc_emit.proofs.ProbeLaws.{probed_is}

module _ (code : List Insn) (slot : Option ℕ) (ids : Branch → Option ℕ) (items : List Item) where
  abbrev old : ℕ → Insn
  old i = insn_at code i

  abbrev OfBranch : ℕ → Type 0
  OfBranch id = IsOfBranch code slot ids items id

  listed : (i : ℕ) (flow : Flow) (x : Branch) → i < length code → flow_of (old i) ≡ flow
      → Contains (branches_by flow i (targets_of (old i))) x → Contains (branches code) x
  listed i flow x lt e c =
      lists_from branches_of 0 code x (record {
        place = i;
        item = old i;
        stands = slice_get-get_or code i (insns.Simple 0) lt;
        listed = let z : i ≡ 0 + i = omega arith in subst (λ k. Contains (branches_of k (old i)) x) z (subst (λ f. Contains (branches_by f i (targets_of (old i))) x) (sym e) c);
      })

  -- the probe in front of an instruction
  early_by_flow : (i id : ℕ) (flow : Flow) → i < length code → flow_of (old i) ≡ flow → early_by ids i (old i) flow ≡ Some id → OfBranch id
  early_by_flow i id flows.GoesOn lt e h = absurd (none_some id h)
  early_by_flow i id flows.Branches lt e h = absurd (none_some id h)
  early_by_flow i id flows.Jumps lt e h =
      let x = jump i (jump_target (old i)) in
      let c = subst (λ ts. Contains (map (jump i) ts) x) (sym (jumps_target (old i) e)) (first_in x ([])) in
      record { branch = x; listed = listed i flows.Jumps x lt e c; has_id = h }
  early_by_flow i id flows.Switches lt e h = absurd (none_some id h)
  early_by_flow i id flows.Returns lt e h = record { branch = exit i; listed = listed i flows.Returns (exit i) lt e (first_in (exit i) ([])); has_id = h }
  early_by_flow i id flows.Throws lt e h = record { branch = exit i; listed = listed i flows.Throws (exit i) lt e (first_in (exit i) ([])); has_id = h }

  early_branch : (i id : ℕ) → early_at code slot ids items i ≡ Some id → OfBranch id
  early_branch i id h =
      ⊎_elim (λ below. early_by_flow i id (flow_of (old i)) below refl h)
      (λ above.
      let past = get_or_past code i (insns.Simple 0) above in
      absurd (none_some id (sym (ap (λ insn. early_by ids i insn (flow_of insn)) past) ∙ h)))
      (cases_lt i (length code))

  of_branch : (id at : ℕ) (late : Bool) → IsOfEdge code slot ids items id at late → OfBranch id
  of_branch id at true h = h.of_branch
  of_branch id at false h = early_branch at id h

  pub each_of_branch : AllOk code slot ids items → (q id : ℕ) (x : Item) → slice_get items q ≡ Some x → id_in x ≡ Some id → OfBranch id
  each_of_branch all q id x h e = by x h e
    where
      by : (x : Item) → slice_get items q ≡ Some x → id_in x ≡ Some id → OfBranch id
      by (start fetch k) h e = absurd (none_some id e)
      by (image insn at early) h e = absurd (none_some id e)
      by (probe_array k at late) h e = subst OfBranch (same_Some k id e) (of_branch k at late (all.ok q (probe_array k at late) h).0)
      by (probe_id k at late) h e = subst OfBranch (same_Some k id e) (of_branch k at late (all.ok q (probe_id k at late) h).0)
      by (probe_one k at late) h e = subst OfBranch (same_Some k id e) (of_branch k at late (all.ok q (probe_one k at late) h).0)
      by (probe_store k at late) h e = subst OfBranch (same_Some k id e) (of_branch k at late (all.ok q (probe_store k at late) h).0)
      by (hop to at due) h e = absurd (none_some id e)

-- it is among the ids of the body
pub item_within : (b : Body) (first : ℕ) (slot : Option ℕ) (items : List Item) → AllOk b.code slot (probe_of b first) items → (q id : ℕ) (x : Item)
    → slice_get items q ≡ Some x → id_in x ≡ Some id → (first ≤ id) × (id < first + probe_count b)
item_within b first slot items ok q id x h e =
    let of = each_of_branch b.code slot (probe_of b first) items ok q id x h e in
    let is = probed_is b first id of.branch of.has_id in
    subst (λ k. (first ≤ k) × (k < first + probe_count b)) is.1 (ids_within b first of.branch of.listed is.0)

pub each_within : (fetch : Fetch) (giver : What) (first : ℕ) (b b' : Body) (m : Marks) → (s : IsSeen fetch giver first b b' m) → (q id : ℕ) (x : Item)
    → slice_get s.items q ≡ Some x → id_in x ≡ Some id → (first ≤ id) × (id < first + probe_count b)
each_within fetch giver first b b' m s q id x h e = item_within b first (Some b.arg_slots) s.items s.ok q id x h e
