-- The exception rows of a twin hold the images of what the rows of the body hold.
use Rattle.std.proofs.Common.{◌≡◌, ◌↔◌, ⊎_elim, ℕ, zero, suc, ◌+◌, ◌<◌, ◌≤◌, Bool, true, false, List, [], ◌∷◌, ◌++◌, length, Option, Some, None, refl, sym, ap, ◌∙◌, subst, arith, add-one, zero-add}
use Rattle.std.specs.Prelude.{slice_get, ⊤}
use Rattle.std.proofs.lemmas.Bool.{cases_lt}
use Rattle.jc_bytes.specs.PlainLists.{pieces, total}
use Rattle.jc_methods.specs.Flow.{flow_of, jump_target}
use Rattle.jc_methods.specs.Insn.{with_places}
use Rattle.jc_methods.specs.WellMade.{IsCode, IsHandler}
use Rattle.jc_methods.specs.declared.insn.Insn.{Insn}
use Rattle.jc_methods.specs.declared.insn.Flow.{Flow}
use Rattle.jc_methods.specs.declared.body.Handler.{Handler}
use Rattle.jc_methods.specs.declared.body.Body.{Body}
use Rattle.jc_methods.specs.declared.probe_members.Fetch.{Fetch}
use Rattle.jc_methods.specs.declared.probe_members.Fetch.TheVariants as fetches
use Rattle.jc_plan.specs.declared.branch.Branch.{Branch}
use Rattle.jc_plan.specs.Probed.{probe_of}
use Rattle.jc_plan.specs.Plan.{lead_probe}
use Rattle.jc_emit.specs.Sizes.{TwinForm, is_wide, insn_at, early_probe, late_probe, arms_at}
use Rattle.jc_methods.specs.Widened.{inverted}
use Rattle.jc_emit.specs.Marks.{prelude_size}
use Rattle.jc_emit.specs.TwinCode.{to_of}
use Rattle.jc_emit.specs.TwinTables.{moved_row}
use Rattle.jc_emit.specs.Items.{Item, image, prelude, lead_part, early_part, hop_part, arm_parts, test_part, segment_size, lead_of, land_of, image_of, tests_part, image_part, segment, twin_items}
use Rattle.jc_emit.specs.Local.{OkRow, Holds}
use Rattle.jc_emit.proofs.PiecesLaws.{Each, each_append, each_at, each_piece}
use Rattle.jc_emit.proofs.BuiltLaws.{length_prelude, length-lead, length-early, sized}
use Rattle.jc_emit.proofs.LocalLaws.{land_lands}
use Rattle.jc_methods.specs.declared.insn.Flow.TheVariants as flows

pub total_grows : (f : ℕ → ℕ) (i j : ℕ) → i ≤ j → total f i ≤ total f j
total_grows f i zero le = let e : i ≡ 0 = omega arith in subst (λ k. total f k ≤ 0) (sym e) (omega arith)
total_grows f i (suc j) le =
    ⊎_elim (λ below. omega (arith, total_grows f i j (omega arith)))
    (λ above. let e : i ≡ suc j = omega arith in subst (λ k. total f k ≤ total f (suc j)) (sym e) (omega arith))
    (cases_lt i (suc j))

module _ (b : Body) (first : ℕ) (form : TwinForm) where
  abbrev At : ℕ → Item → Type 0
  At q (image insn i early) = q ≡ image_of b first form i
  At q _ = ⊤

  lead_no : (q : ℕ) (o : Option ℕ) (i : ℕ) → Each At q (lead_part o i)
  lead_no q None i = tt
  lead_no q (Some id) i = (tt, (tt, (tt, (tt, tt))))

  early_no : (q : ℕ) (o : Option ℕ) (i : ℕ) → Each At q (early_part o i)
  early_no q None i = tt
  early_no q (Some id) i = (tt, (tt, (tt, (tt, tt))))

  hop_no : (q : ℕ) (o : Option ℕ) (to : ℕ) → Each At q (hop_part (land_of b first form) o to)
  hop_no q None to = tt
  hop_no q (Some id) to = (tt, (tt, (tt, (tt, (tt, tt)))))

  arms_no : (q : ℕ) (xs : List Branch) → Each At q (arm_parts (land_of b first form) (probe_of b first) xs)
  arms_no q [] = tt
  arms_no q (x ∷ xs) =
      each_append At q (hop_part (land_of b first form) (probe_of b first x) (to_of x)) (arm_parts (land_of b first form) (probe_of b first) xs)
      (hop_no q (probe_of b first x) (to_of x)) (arms_no (q + length (hop_part (land_of b first form) (probe_of b first x) (to_of x))) xs)

  test_at : (w : Bool) (i : ℕ) (insn : Insn) (on : ℕ) (due : Option ℕ)
      → Each At (image_of b first form i) (test_part w (image_of b first form i) insn i on due)
  test_at false i insn on due = (refl, tt)
  test_at true i insn on due = (refl, (tt, tt))

  tests_at : (i : ℕ) (insn : Insn) (o : Option ℕ) → Each At (image_of b first form i) (tests_part b first form i insn o)
  tests_at i insn None = test_at (is_wide form i) i (with_places (land_of b first form) insn) (jump_target insn) None
  tests_at i insn (Some id) =
      let part = test_part (is_wide form i) (image_of b first form i) (inverted (lead_of b first form (i + 1)) insn) i (i + 1) (lead_probe b first (i + 1)) in
      each_append At (image_of b first form i) part (hop_part (land_of b first form) (Some id) (jump_target insn))
      (test_at (is_wide form i) i (inverted (lead_of b first form (i + 1)) insn) (i + 1) (lead_probe b first (i + 1)))
      (hop_no (image_of b first form i + length part) (Some id) (jump_target insn))

  main_places : (i : ℕ) (flow : Flow) → Each At (image_of b first form i) (image_part b first form i (insn_at b.code i) flow)
  main_places i flows.GoesOn = (refl, tt)
  main_places i flows.Branches = tests_at i (insn_at b.code i) (late_probe b first i)
  main_places i flows.Jumps = (refl, tt)
  main_places i flows.Switches = (refl, arms_no (image_of b first form i + 1) (arms_at b.code i))
  main_places i flows.Returns = (refl, tt)
  main_places i flows.Throws = (refl, tt)

  segment_places : (i : ℕ) → Each At (lead_of b first form i) (segment b first form i)
  segment_places i =
      let main = image_part b first form i (insn_at b.code i) (flow_of (insn_at b.code i)) in
      each_append At (lead_of b first form i) (lead_part (lead_probe b first i) i) _ (lead_no (lead_of b first form i) (lead_probe b first i) i)
      (subst (λ k. Each At (lead_of b first form i + k) (early_part (early_probe b first i) i ++ main)) (sym (length-lead (lead_probe b first i) i))
      (each_append At (land_of b first form i) (early_part (early_probe b first i) i) main (early_no (land_of b first form i) (early_probe b first i) i)
      (subst (λ k. Each At (land_of b first form i + k) main) (sym (length-early (early_probe b first i) i)) (main_places i (flow_of (insn_at b.code i))))))

  prelude_no : (q : ℕ) (fetch : Fetch) → Each At q (prelude fetch)
  prelude_no q fetches.Member = (tt, (tt, tt))
  prelude_no q fetches.Constant = (tt, (tt, (tt, tt)))

  all_places : Each At 0 (twin_items b first form)
  unfolding twin_items
  all_places =
      each_append At 0 (prelude form.fetch) (pieces (segment b first form) (length b.code)) (prelude_no 0 form.fetch)
      (subst (λ k. Each At k (pieces (segment b first form) (length b.code))) (sym (zero-add (length (prelude form.fetch)) ∙ length_prelude form.fetch))
      (each_piece At (segment b first form) (segment_size b first form) (sized b first form) (prelude_size form.fetch) (length b.code) (λ i lt. segment_places i)))

  -- the image of an instruction stands in its one place
  pub image_found : (q i : ℕ) (insn : Insn) (early : Option ℕ) → slice_get (twin_items b first form) q ≡ Some (image insn i early)
      → q ≡ image_of b first form i
  image_found q i insn early h = sym (zero-add q) ∙ each_at At 0 (twin_items b first form) q (image insn i early) all_places h

  -- ---- rows

  before_lead : (i j : ℕ) → i < j → image_of b first form i < lead_of b first form j
  before_lead i j lt =
      let next : lead_of b first form (i + 1) ≡ lead_of b first form i + segment_size b first form i =
      ap (λ k. prelude_size form.fetch + total (segment_size b first form) k) (add-one i) ∙ omega arith in
      let far = total_grows (segment_size b first form) (i + 1) j (omega arith) in
      omega (arith, next, far)

  behind_lead : (i j : ℕ) → j ≤ i → lead_of b first form j ≤ image_of b first form i
  behind_lead i j le = omega (arith, total_grows (segment_size b first form) j i le)

  holds_alike : (h : Handler) (q i : ℕ) → q ≡ image_of b first form i
      → Holds (moved_row (lead_of b first form) (land_of b first form) h) q ↔ Holds h i
  holds_alike h q i e = (to, from)
    where
      to : Holds (moved_row (lead_of b first form) (land_of b first form) h) q → Holds h i
      to holds = (
        ⊎_elim (λ below. let f = before_lead i h.start below in absurd (omega (arith, e, f, holds.0))) (λ above. above) (cases_lt i h.start),
        ⊎_elim (λ below. below) (λ above. let f = behind_lead i h.end above in absurd (omega (arith, e, f, holds.1))) (cases_lt i h.end),
      )

      from : Holds h i → Holds (moved_row (lead_of b first form) (land_of b first form) h) q
      from holds = (omega (arith, e, behind_lead i h.start holds.0), omega (arith, e, before_lead i h.end holds.1))

  pub row_ok : IsCode b.code → (h : Handler) → IsHandler (length b.code) h
      → OkRow b.code (Some b.arg_slots) (probe_of b first) (twin_items b first form) h (moved_row (lead_of b first form) (land_of b first form) h)
  row_ok is_code h is = record {
    class = refl;
    holds = λ q i insn early found. holds_alike h q i (image_found q i insn early found);
    target = land_lands b first form is_code h.target is.target;
  }
