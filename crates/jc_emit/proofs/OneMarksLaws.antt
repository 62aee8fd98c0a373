-- Two twins of one body with one code have the same marks, whatever jumps are wide in them.
use Rattle.std.proofs.Common.{◌≡◌, ⊎_elim, ℕ, zero, suc, ◌+◌, ◌<◌, ◌≤◌, Bool, true, false, cond, not, ◌&&◌, nat_eq, List, [], ◌∷◌, ◌++◌, map, length, Option, Some, None, refl, sym, ap, ap₂, ◌∙◌, subst, arith}
use Rattle.std.specs.Prelude.{slice_get}
use Rattle.std.proofs.lemmas.Bool.{cases_lt, eq-eqb, agree_below_at, cond-true, and_from, not_from_false}
use Rattle.std.proofs.lemmas.List.{get_or_past}
use Rattle.jc_bytes.specs.PlainLists.{pieces, total}
use Rattle.jc_methods.specs.Flow.{flow_of, inverse_of, jump_target}
use Rattle.jc_methods.specs.Insn.{with_places, IsWellFormed}
use Rattle.jc_methods.specs.InsnForm.{form_of}
use Rattle.jc_methods.specs.Widened.{inverted}
use Rattle.jc_methods.specs.WellMade.{IsCode, IsWellMadeOfAnySize}
use Rattle.jc_methods.specs.declared.form.Form.TheVariants as forms
use Rattle.jc_methods.specs.declared.probe_members.Fetch.{Fetch}
use Rattle.jc_methods.specs.declared.insn.Insn.{Insn}
use Rattle.jc_methods.specs.declared.insn.Insn.TheVariants as insns
use Rattle.jc_methods.specs.declared.insn.Flow.{Flow}
use Rattle.jc_methods.specs.declared.insn.Flow.TheVariants as flows
use Rattle.jc_methods.specs.declared.body.Body.{Body}
use Rattle.jc_methods.proofs.ByFlowLaws.{IsJumpOf}
use Rattle.jc_methods.proofs.InsnFormLaws.{unknown_beyond}
use Rattle.jc_plan.specs.Probed.{probe_of}
use Rattle.jc_plan.specs.Plan.{lead_probe}
use Rattle.jc_emit.specs.Sizes.{TwinForm, insn_at, early_probe, late_probe, arms_at, probe_size, is_wide, wide_by}
use Rattle.jc_emit.specs.Marks.{TwinPlaces, Marks, prelude_size}
use Rattle.jc_emit.specs.TwinCode.{arm_place}
use Rattle.jc_emit.specs.Items.{Item, image, insn_of, marks_of_items, prelude, lead_part, early_part, hop_part, arm_parts, test_part, segment_size, lead_of, land_of, image_of, tests_part, image_part, segment, twin_items}
use Rattle.jc_emit.specs.Twin.{AreTwinMarks}
use Rattle.jc_emit.proofs.PiecesLaws.{HasAt, has_front}
use Rattle.jc_emit.proofs.ToldLaws.{mapped, plain_test, probed_test}
use Rattle.jc_emit.proofs.KnownLaws.{code_known, marks_known}
use Rattle.jc_emit.proofs.InverseLaws.{twice_inverse}
use Rattle.jc_emit.proofs.ConditionalBranchLaws.{is_jump, not_goto_by, unknown_no_jump}
use Rattle.jc_emit.proofs.LocalLaws.{test_is}

-- ---- an inverse is another instruction

abbrev is_other : ℕ → Bool
is_other op = cond (is_jump (form_of op) && not (nat_eq op 167)) (not (nat_eq (inverse_of op) op)) true

other_below : (op : ℕ) → op < 202 → is_other op ≡ true
unfolding form_of inverse_of
other_below op below = agree_below_at is_other (λ op. true) 202 op refl below

inverse_differs : (op to : ℕ) → form_of op ≡ forms.Jump → flow_of (insns.Jump op to) ≡ flows.Branches → inverse_of op ≡ op → ⊥
inverse_differs op to form test same =
    ⊎_elim
    (λ below.
    let yes = and_from (is_jump (form_of op)) (not (nat_eq op 167)) (ap is_jump form) (not_from_false (nat_eq op 167) (not_goto_by (nat_eq op 167) test)) in
    let other = sym (cond-true (is_jump (form_of op) && not (nat_eq op 167)) (not (nat_eq (inverse_of op) op)) true yes) ∙ other_below op below in
    not_both (sym (ap not (eq-eqb (inverse_of op) op same)) ∙ other))
    (λ above. absurd (unknown_no_jump (sym (unknown_beyond op above) ∙ form)))
    (cases_lt op 202)
  where
    not_both : false ≡ true → ⊥
    not_both e = cc

-- The opcode of the image of a conditional jump: where the jump has a probe the inverse is taken, and where it is wide once more.
abbrev image_op : (probe : Option ℕ) → (wide : Bool) → ℕ → ℕ
image_op None false op = op
image_op None true op = inverse_of op
image_op (Some id) false op = inverse_of op
image_op (Some id) true op = inverse_of (inverse_of op)

-- it tells whether the jump is wide
op_tells : (probe : Option ℕ) (wide other : Bool) (op : ℕ) → (inverse_of op ≡ op → ⊥) → inverse_of (inverse_of op) ≡ op
    → image_op probe wide op ≡ image_op probe other op → wide ≡ other
op_tells None true true op differs back e = refl
op_tells None true false op differs back e = absurd (differs e)
op_tells None false true op differs back e = absurd (differs (sym e))
op_tells None false false op differs back e = refl
op_tells (Some id) true true op differs back e = refl
op_tells (Some id) true false op differs back e = absurd (differs (sym e ∙ back))
op_tells (Some id) false true op differs back e = absurd (differs (e ∙ back))
op_tells (Some id) false false op differs back e = refl

-- ---- the opcode of an image in the code

abbrev op_of : Insn → ℕ
op_of (insns.Jump op to) = op
op_of _ = 0

abbrev op_in : Option Insn → ℕ
op_in (Some insn) = op_of insn
op_in None = 0

-- the image of a conditional jump, which is this instruction where it is narrow
abbrev test_insn : Bool → (q : ℕ) → Insn → Insn
test_insn false q insn = insn
test_insn true q insn = inverted (q + 2) insn

test_found : (items : List Item) (wide : Bool) (q : ℕ) (insn : Insn) (i on : ℕ) (due : Option ℕ)
    → HasAt items q (test_part wide q insn i on due) → slice_get items q ≡ Some (image (test_insn wide q insn) i None)
test_found items false q insn i on due h = h.0
test_found items true q insn i on due h = h.0

plain_op : (wide : Bool) (q : ℕ) (land : ℕ → ℕ) (op to : ℕ) → op_of (test_insn wide q (with_places land (insns.Jump op to))) ≡ image_op None wide op
plain_op false q land op to = refl
plain_op true q land op to = refl

probed_op : (wide : Bool) (q lead id op to : ℕ) → op_of (test_insn wide q (inverted lead (insns.Jump op to))) ≡ image_op (Some id) wide op
probed_op false q lead id op to = refl
probed_op true q lead id op to = refl

module _ (b : Body) (first : ℕ) (form : TwinForm) (named : TwinPlaces) where
  abbrev code_by : List Insn
  code_by = map (insn_of named b.arg_slots) (twin_items b first form)

  abbrev Tests : ℕ → Type 0
  Tests i = flow_of (insn_at b.code i) ≡ flows.Branches

  op_found : (i : ℕ) → i < length b.code → Tests i → (j : IsJumpOf (insn_at b.code i))
      → (probe : Option ℕ) → late_probe b first i ≡ probe
      → op_in (slice_get code_by (image_of b first form i)) ≡ image_op probe (is_wide form i) j.op
  op_found i lt e j None none =
      let items = twin_items b first form in
      let q = image_of b first form i in
      let wide = is_wide form i in
      let here = test_found items wide q (with_places (land_of b first form) (insn_at b.code i)) i (jump_target (insn_at b.code i)) None (plain_test b first form named i lt e none) in
      ap op_in (mapped (insn_of named b.arg_slots) items q (image (test_insn wide q (with_places (land_of b first form) (insn_at b.code i))) i None) here)
      ∙ ap (λ insn. op_of (test_insn wide q (with_places (land_of b first form) insn))) j.is ∙ plain_op wide q (land_of b first form) j.op j.to
  op_found i lt e j (Some id) some =
      let items = twin_items b first form in
      let q = image_of b first form i in
      let wide = is_wide form i in
      let next = lead_of b first form (i + 1) in
      let front = test_part wide q (inverted next (insn_at b.code i)) i (i + 1) (lead_probe b first (i + 1)) in
      let part = has_front items q front (hop_part (land_of b first form) (Some id) (jump_target (insn_at b.code i))) (probed_test b first form named i id lt e some) in
      let here = test_found items wide q (inverted next (insn_at b.code i)) i (i + 1) (lead_probe b first (i + 1)) part in
      ap op_in (mapped (insn_of named b.arg_slots) items q (image (test_insn wide q (inverted next (insn_at b.code i))) i None) here)
      ∙ ap (λ insn. op_of (test_insn wide q (inverted next insn))) j.is ∙ probed_op wide q next id j.op j.to

-- ---- two forms

wide_told : (wide other : Bool) → wide_by flows.Branches wide ≡ wide_by flows.Branches other → wide ≡ other
wide_told true true e = refl
wide_told true false e = absurd (omega (arith, e))
wide_told false true e = absurd (omega (arith, e))
wide_told false false e = refl

-- one code in two forms with the same prelude
module _ (b : Body) (first : ℕ) (is_code : IsCode b.code) (x y : TwinForm) (fetches_one : x.fetch ≡ y.fetch) (code : List Insn) (named other : TwinPlaces)
    (code_is : code ≡ map (insn_of named b.arg_slots) (twin_items b first x)) (code_too : code ≡ map (insn_of other b.arg_slots) (twin_items b first y)) where
  abbrev old : ℕ → Insn
  old i = insn_at b.code i

  -- the images of a conditional jump are one instruction, where they stand at one place
  test_one : (i : ℕ) → i < length b.code → flow_of (old i) ≡ flows.Branches → image_of b first x i ≡ image_of b first y i → is_wide x i ≡ is_wide y i
  test_one i lt e place =
      let j = test_is (old i) e in
      let form = subst IsWellFormed j.is (is_code.well_formed i (insns.Simple 0) lt) in
      let tests = sym (ap flow_of j.is) ∙ e in
      let one = op_found b first x named i lt e j (late_probe b first i) refl in
      let two = op_found b first y other i lt e j (late_probe b first i) refl in
      let same = sym one ∙ ap₂ (λ l q. op_in (slice_get l q)) (sym code_is ∙ code_too) place ∙ two in
      op_tells (late_probe b first i) (is_wide x i) (is_wide y i) j.op (inverse_differs j.op j.to form tests) (twice_inverse j.op j.to form tests) same

  wide_here : (i : ℕ) → i < length b.code → lead_of b first x i ≡ lead_of b first y i → (flow : Flow) → flow_of (old i) ≡ flow
      → wide_by flow (is_wide x i) ≡ wide_by flow (is_wide y i)
  wide_here i lt lead flows.GoesOn e = refl
  wide_here i lt lead flows.Branches e =
      let place : image_of b first x i ≡ image_of b first y i = ap (λ q. q + probe_size (lead_probe b first i) + probe_size (early_probe b first i)) lead in
      ap (wide_by flows.Branches) (test_one i lt e place)
  wide_here i lt lead flows.Jumps e = refl
  wide_here i lt lead flows.Switches e = refl
  wide_here i lt lead flows.Returns e = refl
  wide_here i lt lead flows.Throws e = refl

  -- what belongs to an instruction begins at one place in both, since what stands in front has one size
  lead_one : (i : ℕ) → i ≤ length b.code → lead_of b first x i ≡ lead_of b first y i
  lead_one zero le = ap (λ (fetch : Fetch). prelude_size fetch + 0) fetches_one
  lead_one (suc i) le =
      let lead = lead_one i (omega arith) in
      let wide = wide_here i (omega arith) lead (flow_of (old i)) refl in
      omega (arith, lead, wide)

  wide_one : (i : ℕ) → wide_by (flow_of (old i)) (is_wide x i) ≡ wide_by (flow_of (old i)) (is_wide y i)
  wide_one i =
      ⊎_elim (λ below. wide_here i below (lead_one i (omega arith)) (flow_of (old i)) refl)
      (λ above.
      let past = get_or_past b.code i (insns.Simple 0) above in
      ap (λ insn. wide_by (flow_of insn) (is_wide x i)) past ∙ sym (ap (λ insn. wide_by (flow_of insn) (is_wide y i)) past))
      (cases_lt i (length b.code))

  sizes_one : segment_size b first x ≡ segment_size b first y
  sizes_one = λ k i. (let e : segment_size b first x i ≡ segment_size b first y i = omega (arith, wide_one i) in e) k

  leads_one : lead_of b first x ≡ lead_of b first y
  leads_one = λ k i. prelude_size (fetches_one k) + total (sizes_one k) i

  lands_one : land_of b first x ≡ land_of b first y
  lands_one = λ k i. leads_one k i + probe_size (lead_probe b first i)

  image_one : (i : ℕ) → image_of b first x i ≡ image_of b first y i
  image_one i = λ k. lands_one k i + probe_size (early_probe b first i)

  tests_one : (i : ℕ) → is_wide x i ≡ is_wide y i → (probe : Option ℕ) → tests_part b first x i (old i) probe ≡ tests_part b first y i (old i) probe
  tests_one i wide None = λ k. test_part (wide k) (image_one i k) (with_places (lands_one k) (old i)) i (jump_target (old i)) None
  tests_one i wide (Some id) =
      λ k. test_part (wide k) (image_one i k) (inverted (leads_one k (i + 1)) (old i)) i (i + 1) (lead_probe b first (i + 1))
      ++ hop_part (lands_one k) (Some id) (jump_target (old i))

  part_one : (i : ℕ) (flow : Flow) → flow_of (old i) ≡ flow → image_part b first x i (old i) flow ≡ image_part b first y i (old i) flow
  part_one i flows.GoesOn e = refl
  part_one i flows.Branches e =
      tests_one i (wide_told (is_wide x i) (is_wide y i) (subst (λ flow. wide_by flow (is_wide x i) ≡ wide_by flow (is_wide y i)) e (wide_one i))) (late_probe b first i)
  part_one i flows.Jumps e = ap (λ (land : ℕ → ℕ). image (with_places land (old i)) i (early_probe b first i) ∷ []) lands_one
  part_one i flows.Switches e =
      ap₂ (λ (land : ℕ → ℕ) (q : ℕ). image (with_places (arm_place (probe_of b first) land (q + 1) (arms_at b.code i)) (old i)) i None ∷ arm_parts land (probe_of b first) (arms_at b.code i))
      lands_one (image_one i)
  part_one i flows.Returns e = refl
  part_one i flows.Throws e = refl

  segment_one : (i : ℕ) → segment b first x i ≡ segment b first y i
  segment_one i =
      ap (λ part. lead_part (lead_probe b first i) i ++ (early_part (early_probe b first i) i ++ part)) (part_one i (flow_of (old i)) refl)

  items_one : twin_items b first x ≡ twin_items b first y
  unfolding twin_items
  items_one = λ k. prelude (fetches_one k) ++ pieces (λ i. segment_one i k) (length b.code)

pub one_marks : (fetch : Fetch) (first : ℕ) (b b' : Body) (m n : Marks) → IsWellMadeOfAnySize b → AreTwinMarks fetch first b b' m
    → AreTwinMarks fetch first b b' n → m ≡ n
one_marks fetch first b b' m n well of_one of_other =
    let t = of_one.twin in
    let u = of_other.twin in
    of_one.marks
    ∙ marks_known b first t.form t.places b'.code t.marks well.code t.code
    ∙ ap marks_of_items
    (items_one b first well.code t.form u.form (t.fetch_is ∙ sym u.fetch_is) b'.code t.places u.places
    (code_known b first t.form t.places b'.code t.marks well.code t.code) (code_known b first u.form u.places b'.code u.marks well.code u.code))
    ∙ sym (marks_known b first u.form u.places b'.code u.marks well.code u.code)
    ∙ sym of_other.marks
