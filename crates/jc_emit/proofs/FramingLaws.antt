-- What is read of the parts of frames, and the frames that are put.
use Rattle.std.proofs.Common.{◌≡◌, inr, ℕ, zero, suc, ◌+◌, ◌-◌, ◌*◌, ◌<◌, ◌≤◌, Bool, true, false, ◌&&◌, ◌||◌, not, List, [], ◌∷◌, ◌++◌, length, get_or, map, Option, Some, None, refl, sym, ap, ap₂, ◌∙◌, arith, add-one, append_assoc, if◌then◌else◌}
use Rattle.std.specs.Prelude.{is_some, is_none}
use Rattle.std.proofs.Math.Bool.{not-not}
use Rattle.std.proofs.lemmas.List.{get_or_default, length-map}
use Rattle.jc_bytes.specs.PlainLists.{pieces}
use Rattle.jc_methods.specs.Flow.{flow_of}
use Rattle.jc_methods.specs.WellMade.{IsState}
use Rattle.jc_methods.specs.Widened.{WideSet}
use Rattle.jc_methods.specs.declared.insn.Insn.{Insn}
use Rattle.jc_methods.specs.declared.insn.Insn.TheVariants as insns
use Rattle.jc_methods.specs.declared.insn.Flow.TheVariants as flows
use Rattle.jc_methods.specs.declared.kind.State.{State}
use Rattle.jc_methods.specs.declared.body.Body.{Body}
use Rattle.jc_methods.specs.declared.body.FrameAt.{FrameAt}
use Rattle.jc_plan.specs.declared.branch.Branch.{Branch}
use Rattle.jc_plan.specs.Probed.{probe_of}
use Rattle.jc_plan.specs.Plan.{lead_probe, out_probes}
use Rattle.jc_plan.proofs.FlowLaws.{few_at}
use Rattle.jc_emit.specs.declared.frames.Framing.{Framing}
use Rattle.jc_emit.specs.Sizes.{narrow, insn_at, hop_size, late_probe, arms_at}
use Rattle.jc_emit.specs.TwinFrames.{no_state, operands_of, state_at, left_by, state_behind}
use Rattle.jc_emit.specs.Items.{segment_size, lead_of, land_of, image_of}
use Rattle.jc_emit.specs.Emission.{Emitting, frame, frame_if, moved_state, has_frame, has_inverse, arm_frame, arm_frames, frames_at, tests_by, wide_frames_at}
use Rattle.jc_emit.specs.Stages.{is_framed_behind, is_further, further_frames_at}
use Rattle.jc_emit.specs.Placing.{IsTable}
use Rattle.jc_emit.specs.Framing.{without, id_frames, IsFraming}
use Rattle.jc_emit.proofs.BuiltLaws.{length_twin}
use Rattle.jc_emit.proofs.LocalLaws.{next_within}
use Rattle.jc_emit.proofs.RowLaws.{total_grows}
use Rattle.jc_emit.proofs.FewLaws.{few_items, few_arms}
use Rattle.jc_emit.proofs.PlanReadsLaws.{length_outs, length_leads, lead_here, outs_here, outs_test, outs_switch}
use Rattle.jc_emit.proofs.TableLaws.{without_none}

-- ---- lists

-- what comes from one more is put behind
pub piece_more : {X : Type 0} (g : ℕ → List X) (n : ℕ) (now new : List X) → now ≡ pieces g n → new ≡ now ++ g n → new ≡ pieces g (n + 1)
piece_more g n now new before put = put ∙ ap (λ l. l ++ g n) before ∙ ap (pieces g) (sym (add-one n))

not_none : {X : Type 0} (o : Option X) → not (is_some o) ≡ is_none o
not_none None = refl
not_none (Some x) = refl

-- the answer of a test for none
pub none_read : {X : Type 0} (o : Option X) (t : Bool) → is_some o ≡ not t → t ≡ is_none o
none_read o t tested = sym (not-not t) ∙ ap not (sym tested) ∙ not_none o

-- the read of a table gives the place
pub table_read : (place : ℕ → ℕ) (count i x : ℕ) (table now : List ℕ) → IsTable place count table → i < count → now ≡ table → x ≡ get_or now i x → x ≡ place i
table_read place count i x table now is lt same read =
    let long = is.size in
    read ∙ ap (λ l. get_or l i x) same ∙ get_or_default table i x 0 (omega (arith, long, lt)) ∙ is.each i (omega (arith, lt))

-- a frame is put where the test holds
pub one_put : (old : List FrameAt) (test : Bool) (at : ℕ) (s state : State) → test ≡ true → s ≡ state → old ++ frame at s ∷ [] ≡ old ++ frame_if test (frame at state)
one_put old test at s state holds is = λ k. old ++ frame_if (sym holds k) (frame at (is k))

-- ---- tests one after the other

pub both_then : (l f value r lead : Bool) → value ≡ (l && f) → value ≡ true → r ≡ lead → r ≡ (l && f && lead)
both_then true true value r lead is holds same = same
both_then true false value r lead is holds same = cc
both_then false f value r lead is holds same = cc

pub both_else : (l f value lead : Bool) → value ≡ (l && f) → value ≡ false → value ≡ (l && f && lead)
both_else true true value lead is fails = cc
both_else true false value lead is fails = fails
both_else false f value lead is fails = fails

-- ---- frames of arms

arm_one : (b : Body) (first : ℕ) (states : List State) (given : Emitting) (here : ℕ) (s : State) (o : Option ℕ)
    → frame_if (is_some o) (frame here s) ≡ arm_frame b first states given here s o
arm_one b first states given here s None = refl
arm_one b first states given here s (Some id) = refl

pub arms_framed : (b : Body) (first : ℕ) (states : List State) (given : Emitting) (here : ℕ) (s : State) (xs : List Branch)
    → id_frames here s (map (probe_of b first) xs) ≡ arm_frames b first states given here s xs
arms_framed b first states given here s [] = refl
arms_framed b first states given here s (x ∷ xs) =
    ap₂ (λ (l m : List FrameAt). l ++ m) (arm_one b first states given here s (probe_of b first x))
    (arms_framed b first states given (here + hop_size (probe_of b first x)) s xs)

-- ---- what is read

module _ (first : ℕ) (given : Emitting) (f : Framing) (is : IsFraming first given f) where
  abbrev b : Body
  b = f.body.now

  abbrev states : List State
  states = f.states.now

  abbrev moved : State → State
  moved s = moved_state b first states given s

  pub insn_read : (code : List Insn) (i : ℕ) (insn : Insn) → code ≡ b.code → insn ≡ get_or code i insn → i < length b.code → insn ≡ insn_at b.code i
  insn_read code i insn same read lt = read ∙ ap (λ l. get_or l i insn) same ∙ get_or_default b.code i insn (insns.Simple 0) lt

  pub outs_read : (outs : List (List (Option ℕ))) (i : ℕ) (o : List (Option ℕ)) → outs ≡ f.plan.now.out → o ≡ get_or outs i o → i < length b.code
      → o ≡ out_probes b first i (insn_at b.code i)
  outs_read outs i o same read lt = read ∙ ap (λ l. get_or l i o) same ∙ outs_here b first f.plan.now is.plan i o lt

  pub outs_long : length f.plan.now.out ≡ length b.code
  outs_long = length_outs b first f.plan.now is.plan

  pub leads_long : length f.plan.now.lead ≡ length b.code
  leads_long = length_leads b first f.plan.now is.plan

  -- the two branches of a conditional jump
  pub test_read : (code : List Insn) (outs : List (List (Option ℕ))) (i : ℕ) (insn : Insn) (o s : List (Option ℕ)) → code ≡ b.code → insn ≡ get_or code i insn
      → outs ≡ f.plan.now.out → o ≡ get_or outs i o → i < length b.code → flow_of insn ≡ flows.Branches → s ≡ o → s ≡ None ∷ late_probe b first i ∷ []
  test_read code outs i insn o s same read same_outs read_outs lt tests is_o =
      let insn_is = insn_read code i insn same read lt in
      is_o ∙ outs_read outs i o same_outs read_outs lt ∙ outs_test b first i (sym (ap flow_of insn_is) ∙ tests)

  -- the probes of a switch's targets
  pub switch_read : (code : List Insn) (outs : List (List (Option ℕ))) (i : ℕ) (insn : Insn) (o s : List (Option ℕ)) → code ≡ b.code → insn ≡ get_or code i insn
      → outs ≡ f.plan.now.out → o ≡ get_or outs i o → i < length b.code → flow_of insn ≡ flows.Switches → s ≡ o → s ≡ map (probe_of b first) (arms_at b.code i)
  switch_read code outs i insn o s same read same_outs read_outs lt switches is_o =
      let insn_is = insn_read code i insn same read lt in
      is_o ∙ outs_read outs i o same_outs read_outs lt ∙ outs_switch b first i (sym (ap flow_of insn_is) ∙ switches)

  pub image_small : (images : List ℕ) (i x : ℕ) → images ≡ f.places.now.images.items → x ≡ get_or images i x → i < length b.code → x ≤ 983028
  image_small images i x same read lt =
      let e = table_read (image_of b first (narrow given.fetch)) (length b.code) i x f.places.now.images.items images is.places.images lt same read in
      omega (
        arith,
        e,
        length_twin b first (narrow given.fetch),
        few_items b first given.fetch given.integer b.arg_slots is.code,
        total_grows (segment_size b first (narrow given.fetch)) (suc i) (length b.code) (omega arith),
      )

  pub arms_small : (i : ℕ) → i < length b.code → length (arms_at b.code i) ≤ 65536
  arms_small i lt =
      omega (arith, few_arms i (insn_at b.code i) (flow_of (insn_at b.code i)), few_at b.code i (insn_at b.code i) lt (get_or_default b.code i (insns.Simple 0) (insn_at b.code i) lt), is.code.few)

  pub switch_small : (i x : ℕ) (images : List ℕ) (s : List (Option ℕ)) → images ≡ f.places.now.images.items → x ≡ get_or images i x → i < length b.code
      → s ≡ map (probe_of b first) (arms_at b.code i) → x + 1 + 5 * length s < 4294967296
  switch_small i x images s same read lt ids =
      omega (arith, image_small images i x same read lt, arms_small i lt, ap length ids, length-map (arms_at b.code i) (probe_of b first))

  pub next_there : (i : ℕ) → i < length b.code → flow_of (insn_at b.code i) ≡ flows.Branches → i + 1 < length b.code
  next_there i lt tests = next_within b first (narrow given.fetch) is.code i lt (inr tests)

  pub state_read : (i : ℕ) (s : State) → i < length b.code → get_or states i s ≡ state_at states i
  state_read i s lt = let n = is.count in get_or_default states i s no_state (omega (arith, n, lt))

  pub state_fits : (i : ℕ) (s : State) → i < length b.code → IsState b.code b.max_locals b.max_stack (get_or states i s)
  state_fits i s lt = let n = is.count in is.states i s (omega (arith, n, lt))

  pub lead_read : (leads : List (Option ℕ)) (i : ℕ) (d : Option ℕ) → leads ≡ f.plan.now.lead → i < length b.code → is_some (get_or leads i d) ≡ is_some (lead_probe b first i)
  lead_read leads i d same lt = ap (λ (l : List (Option ℕ)). is_some (get_or l i d)) same ∙ ap is_some (lead_here b first f.plan.now is.plan i d lt)

  pub lead_absent : (leads : List (Option ℕ)) (i : ℕ) (d : Option ℕ) → leads ≡ f.plan.now.lead → i < length b.code → is_none (get_or leads i d) ≡ is_none (lead_probe b first i)
  lead_absent leads i d same lt = ap (λ (l : List (Option ℕ)). is_none (get_or l i d)) same ∙ ap is_none (lead_here b first f.plan.now is.plan i d lt)

  -- the jump in front
  pub inverse_read : (i : ℕ) (o : Option ℕ) (t : Bool) → 1 ≤ i → t ≡ is_some o → o ≡ late_probe b first (i - 1) → t ≡ has_inverse b first states given i
  inverse_read zero o t some test read = absurd (omega (arith, some))
  inverse_read (suc i) o t some test read =
      let front : suc i - 1 ≡ i = omega arith in
      test ∙ ap is_some (read ∙ ap (late_probe b first) front)

  pub framed_read : (i : ℕ) (x : Bool) → i < length b.code → x ≡ get_or f.framed.items i x → x ≡ has_frame b first states given i
  framed_read i x lt read =
      let n = is.framed.size in
      read ∙ get_or_default f.framed.items i x false (omega (arith, n, lt)) ∙ is.framed.each i lt

  -- ---- what is put

  -- the frame behind a conditional jump with this probe
  abbrev behind : ℕ → Option ℕ → FrameAt
  behind i o = frame (image_of b first (narrow given.fetch) i + 1) (moved (state_behind b states i o))

  behind_tests : (i : ℕ) (o : Option ℕ) → flow_of (insn_at b.code i) ≡ flows.Branches → o ≡ late_probe b first i
      → frame_if true (behind i o) ≡ wide_frames_at b first states given i
  behind_tests i o tests probe = λ k. frame_if (tests_by b first states given (sym tests k)) (behind i (probe k))

  -- behind a conditional jump without a probe
  pub behind_none : (i here : ℕ) (s : State) → i < length b.code → flow_of (insn_at b.code i) ≡ flows.Branches
      → None ≡ late_probe b first i → here ≡ image_of b first (narrow given.fetch) i
      → frame_if true (frame (here + 1) (moved (without 0 (get_or states (i + 1) s)))) ≡ wide_frames_at b first states given i
  behind_none i here s lt tests none place =
      let next = next_there i lt tests in
      let state : without 0 (get_or states (i + 1) s) ≡ state_at states (i + 1) = without_none (get_or states (i + 1) s) ∙ state_read (i + 1) s next in
      (λ k. frame_if true (frame (place k + 1) (moved (state k)))) ∙ behind_tests i None tests none

  -- behind one with a probe
  pub behind_some : (i here id : ℕ) (s : State) (operands : ℕ) → i < length b.code → flow_of (insn_at b.code i) ≡ flows.Branches
      → Some id ≡ late_probe b first i → here ≡ image_of b first (narrow given.fetch) i → operands ≡ operands_of (insn_at b.code i)
      → frame_if true (frame (here + 1) (moved (without operands (get_or states i s)))) ≡ wide_frames_at b first states given i
  behind_some i here id s operands lt tests probed place taken =
      let state : without operands (get_or states i s) ≡ left_by (insn_at b.code i) (state_at states i) =
      ap₂ (λ (n : ℕ) (t : State). without n t) taken (state_read i s lt) in
      (λ k. frame_if true (frame (place k + 1) (moved (state k)))) ∙ behind_tests i (Some id) tests probed

  -- the frames behind wide jumps of a layout
  pub further_test : (wide : WideSet) (i image : ℕ) (listed framed t : Bool) → flow_of (insn_at b.code i) ≡ flows.Branches
      → image ≡ image_of b first (narrow given.fetch) i → listed ≡ wide image → framed ≡ is_framed_behind b first states given i → (listed && not framed) ≡ t
      → (if t then wide_frames_at b first states given i else []) ≡ further_frames_at b first states given wide i
  further_test wide i image listed framed t tests place listed_is framed_is is_t =
      let asked : (listed && not framed) ≡ is_further b first states given wide i flows.Branches =
      ap₂ (λ (x y : Bool). x && not y) (listed_is ∙ ap wide place) framed_is in
      ap (λ (x : Bool). if x then wide_frames_at b first states given i else [])
      (sym is_t ∙ asked ∙ ap (is_further b first states given wide i) (sym tests))

  -- the frames of an instruction, put one after the other
  pub all_put : (i : ℕ) (leads lands : ℕ) (s : State) (inverse lead framed led landed : Bool) (old one two new arms : List FrameAt) → i < length b.code
      → leads ≡ lead_of b first (narrow given.fetch) i → lands ≡ land_of b first (narrow given.fetch) i
      → inverse ≡ has_inverse b first states given i → lead ≡ is_some (lead_probe b first i) → framed ≡ has_frame b first states given i
      → led ≡ (inverse && lead) → landed ≡ (framed || (inverse && not lead))
      → one ≡ old ++ frame_if led (frame leads (moved (without 0 (get_or states i s))))
      → two ≡ one ++ frame_if landed (frame lands (moved (without 0 (get_or states i s))))
      → new ≡ two ++ arms
      → arms ≡ arm_frames b first states given (image_of b first (narrow given.fetch) i + 1) (moved (left_by (insn_at b.code i) (state_at states i))) (arms_at b.code i)
      → new ≡ old ++ frames_at b first states given i
  all_put i leads lands s inverse lead framed led landed old one two new arms lt leads_is lands_is inverse_is lead_is framed_is led_is landed_is one_is two_is new_is arms_is =
      let state : without 0 (get_or states i s) ≡ state_at states i = without_none (get_or states i s) ∙ state_read i s lt in
      let led_at : led ≡ (has_inverse b first states given i && is_some (lead_probe b first i)) = led_is ∙ ap₂ (λ (x y : Bool). x && y) inverse_is lead_is in
      let landed_at : landed ≡ (has_frame b first states given i || (has_inverse b first states given i && is_none (lead_probe b first i))) =
      landed_is ∙ (λ k. framed_is k || (inverse_is k && not (lead_is k)))
      ∙ ap (λ (y : Bool). has_frame b first states given i || (has_inverse b first states given i && y)) (not_none (lead_probe b first i)) in
      let A = frame_if led (frame leads (moved (without 0 (get_or states i s)))) in
      let B = frame_if landed (frame lands (moved (without 0 (get_or states i s)))) in
      new_is ∙ ap (λ l. l ++ arms) (two_is ∙ ap (λ l. l ++ B) one_is)
      ∙ append_assoc (old ++ A) B arms
      ∙ append_assoc old A (B ++ arms)
      ∙ (λ k. old ++ (frame_if (led_at k) (frame (leads_is k) (moved (state k))) ++ (frame_if (landed_at k) (frame (lands_is k) (moved (state k))) ++ arms_is k)))
