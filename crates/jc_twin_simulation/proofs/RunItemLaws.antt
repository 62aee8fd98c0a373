-- The items of a twin: those of the prelude and of each probe stand one behind the other.
use Rattle.std.proofs.Common.{◌≡◌, ℕ, zero, suc, ◌+◌, Bool, true, false, List, [], ◌∷◌, ◌++◌, length, Option, Some, None, refl, sym, ap, subst}
use Rattle.std.specs.Prelude.{slice_get}
use Rattle.std.proofs.lemmas.Bool.{true≢false}
use Rattle.std.proofs.lemmas.Option.{none-some, same_Some}
use Rattle.jc_bytes.specs.PlainLists.{pieces}
use Rattle.jc_methods.specs.Flow.{flow_of, jump_target}
use Rattle.jc_methods.specs.Insn.{with_places}
use Rattle.jc_methods.specs.Widened.{inverted}
use Rattle.jc_methods.specs.declared.insn.Insn.{Insn}
use Rattle.jc_methods.specs.declared.insn.Flow.{Flow}
use Rattle.jc_methods.specs.declared.insn.Flow.TheVariants as flows
use Rattle.jc_methods.specs.declared.probe_members.Fetch.{Fetch}
use Rattle.jc_methods.specs.declared.probe_members.Fetch.TheVariants as fetches
use Rattle.jc_methods.specs.declared.body.Body.{Body}
use Rattle.jc_plan.specs.declared.branch.Branch.{Branch}
use Rattle.jc_plan.specs.Plan.{lead_probe}
use Rattle.jc_plan.specs.Probed.{probe_of}
use Rattle.jc_emit.specs.Items.{Item, start, image, probe_array, probe_id, probe_one, probe_store, hop, own_of, prelude, lead_part, early_part, hop_part, arm_parts, test_part, segment, tests_part, image_part, twin_items, lead_of, land_of, image_of}
use Rattle.jc_emit.specs.Sizes.{TwinForm, insn_at, early_probe, late_probe, arms_at, is_wide}
use Rattle.jc_emit.specs.TwinCode.{to_of, arm_place}
use Rattle.jc_twin_simulation.specs.ProbeRuns.{MayFollow, IsFirst, RunsOn, AreRuns}

-- ---- lists

first_follows : (x y : Item) → IsFirst y → MayFollow x y
first_follows x (start fetch zero) h = tt
first_follows x (start fetch (suc k)) h = absurd h
first_follows x (image insn at early) h = tt
first_follows x (probe_array id at late) h = tt
first_follows x (probe_id id at late) h = absurd h
first_follows x (probe_one id at late) h = absurd h
first_follows x (probe_store id at late) h = absurd h
first_follows x (hop to at due) h = tt

runs_behind : (x : Item) (ys : List Item) → AreRuns ys → RunsOn x ys
runs_behind x [] h = tt
runs_behind x (y ∷ ys) h = (first_follows x y h.0, h.1)

on_append : (x : Item) (xs ys : List Item) → RunsOn x xs → AreRuns ys → RunsOn x (xs ++ ys)
on_append x [] ys h k = runs_behind x ys k
on_append x (y ∷ xs) ys h k = (h.0, on_append y xs ys h.1 k)

runs_append : (xs ys : List Item) → AreRuns xs → AreRuns ys → AreRuns (xs ++ ys)
runs_append [] ys h k = k
runs_append (x ∷ xs) ys h k = (h.0, on_append x xs ys h.1 k)

runs_pieces : (g : ℕ → List Item) → ((i : ℕ) → AreRuns (g i)) → (n : ℕ) → AreRuns (pieces g n)
runs_pieces g h zero = tt
runs_pieces g h (suc n) = runs_append (pieces g n) (g n) (runs_pieces g h n) (h n)

-- ---- the prelude

prelude_runs : (fetch : Fetch) → AreRuns (prelude fetch)
prelude_runs fetches.Member = (tt, (refl, tt))
prelude_runs fetches.Constant = (tt, (refl, (refl, tt)))

-- ---- what belongs to an instruction

lead_runs : (o : Option ℕ) (i : ℕ) → AreRuns (lead_part o i)
lead_runs None i = tt
lead_runs (Some id) i = (tt, (refl, (refl, (refl, tt))))

early_runs : (o : Option ℕ) (i : ℕ) → AreRuns (early_part o i)
early_runs None i = tt
early_runs (Some id) i = (tt, (refl, (refl, (refl, tt))))

hop_runs : (land : ℕ → ℕ) (o : Option ℕ) (to : ℕ) → AreRuns (hop_part land o to)
hop_runs land None to = tt
hop_runs land (Some id) to = (tt, (refl, (refl, (refl, (tt, tt)))))

arm_runs : (land : ℕ → ℕ) (ids : Branch → Option ℕ) (xs : List Branch) → AreRuns (arm_parts land ids xs)
arm_runs land ids [] = tt
arm_runs land ids (x ∷ xs) = runs_append (hop_part land (ids x) (to_of x)) (arm_parts land ids xs) (hop_runs land (ids x) (to_of x)) (arm_runs land ids xs)

test_runs : (b : Bool) (q : ℕ) (insn : Insn) (i on : ℕ) (due : Option ℕ) → AreRuns (test_part b q insn i on due)
test_runs false q insn i on due = (tt, tt)
test_runs true q insn i on due = (tt, (tt, tt))

module _ (b : Body) (first : ℕ) (form : TwinForm) where
  tests_runs : (i : ℕ) (insn : Insn) (o : Option ℕ) → AreRuns (tests_part b first form i insn o)
  tests_runs i insn None = test_runs (is_wide form i) (image_of b first form i) (with_places (land_of b first form) insn) i (jump_target insn) None
  tests_runs i insn (Some id) =
      runs_append
      (test_part (is_wide form i) (image_of b first form i) (inverted (lead_of b first form (i + 1)) insn) i (i + 1) (lead_probe b first (i + 1)))
      (hop_part (land_of b first form) (Some id) (jump_target insn))
      (test_runs (is_wide form i) (image_of b first form i) (inverted (lead_of b first form (i + 1)) insn) i (i + 1) (lead_probe b first (i + 1)))
      (hop_runs (land_of b first form) (Some id) (jump_target insn))

  image_runs : (i : ℕ) (insn : Insn) (flow : Flow) → AreRuns (image_part b first form i insn flow)
  image_runs i insn flows.GoesOn = (tt, tt)
  image_runs i insn flows.Branches = tests_runs i insn (late_probe b first i)
  image_runs i insn flows.Jumps = (tt, tt)
  image_runs i insn flows.Switches = (
    tt,
    runs_behind (image (with_places (arm_place (probe_of b first) (land_of b first form) (image_of b first form i + 1) (arms_at b.code i)) insn) i None)
        (arm_parts (land_of b first form) (probe_of b first) (arms_at b.code i)) (arm_runs (land_of b first form) (probe_of b first) (arms_at b.code i)),
  )
  image_runs i insn flows.Returns = (tt, tt)
  image_runs i insn flows.Throws = (tt, tt)

  segment_runs : (i : ℕ) → AreRuns (segment b first form i)
  segment_runs i =
      let insn = insn_at b.code i in
      runs_append (lead_part (lead_probe b first i) i) (early_part (early_probe b first i) i ++ image_part b first form i insn (flow_of insn))
      (lead_runs (lead_probe b first i) i)
      (runs_append (early_part (early_probe b first i) i) (image_part b first form i insn (flow_of insn)) (early_runs (early_probe b first i) i)
      (image_runs i insn (flow_of insn)))

  pub twin_runs : AreRuns (twin_items b first form)
  unfolding twin_items
  twin_runs =
      runs_append (prelude form.fetch) (pieces (segment b first form) (length b.code)) (prelude_runs form.fetch)
      (runs_pieces (segment b first form) segment_runs (length b.code))

-- images alone
images_run : (x : Item) (xs : List Item) → ((q : ℕ) (y : Item) → slice_get xs q ≡ Some y → own_of y ≡ true) → RunsOn x xs
images_run x [] h = tt
images_run x (y ∷ xs) h = (first_follows x y (by y (h 0 y refl)), images_run y xs (λ q z e. h (suc q) z e))
  where
    by : (y : Item) → own_of y ≡ true → IsFirst y
    by (image insn at early) own = tt
    by (start fetch zero) own = tt
    by (start fetch (suc k)) own = absurd (true≢false (sym own))
    by (probe_array id at late) own = tt
    by (probe_id id at late) own = absurd (true≢false (sym own))
    by (probe_one id at late) own = absurd (true≢false (sym own))
    by (probe_store id at late) own = absurd (true≢false (sym own))
    by (hop to at due) own = tt

pub plain_runs : (xs : List Item) → ((q : ℕ) (y : Item) → slice_get xs q ≡ Some y → own_of y ≡ true) → AreRuns xs
plain_runs [] h = tt
plain_runs (x ∷ xs) h = (by x (h 0 x refl), images_run x xs (λ q y e. h (suc q) y e))
  where
    by : (y : Item) → own_of y ≡ true → IsFirst y
    by (image insn at early) own = tt
    by (start fetch zero) own = tt
    by (start fetch (suc k)) own = absurd (true≢false (sym own))
    by (probe_array id at late) own = tt
    by (probe_id id at late) own = absurd (true≢false (sym own))
    by (probe_one id at late) own = absurd (true≢false (sym own))
    by (probe_store id at late) own = absurd (true≢false (sym own))
    by (hop to at due) own = tt

-- ---- what stands in front

-- the item in front of one
pub record InFront (items : List Item) (q : ℕ) (x : Item) : Type 0 where
  pub place : ℕ
  pub next : q ≡ suc place
  pub item : Item
  pub here : slice_get items place ≡ Some item
  pub follows : MayFollow item x

front_by : (y : Item) (items : List Item) → RunsOn y items → (q : ℕ) (x : Item) → slice_get items q ≡ Some x → InFront (y ∷ items) (suc q) x
front_by y [] h q x e = absurd (none-some x e)
front_by y (z ∷ items) h zero x e =
    record { place = 0; next = refl; item = y; here = refl; follows = subst (MayFollow y) (same_Some z x e) h.0 }
front_by y (z ∷ items) h (suc q) x e =
    let f = front_by z items h.1 q x e in
    record { place = suc f.place; next = ap suc f.next; item = f.item; here = f.here; follows = f.follows }

pub in_front : (items : List Item) → AreRuns items → (q : ℕ) (x : Item) → slice_get items q ≡ Some x → (IsFirst x → ⊥) → InFront items q x
in_front [] h q x e n = absurd (none-some x e)
in_front (y ∷ items) h zero x e n = absurd (n (subst IsFirst (same_Some y x e) h.0))
in_front (y ∷ items) h (suc q) x e n = front_by y items h.1 q x e
