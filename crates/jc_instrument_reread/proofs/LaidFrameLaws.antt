-- The frames of a layout are those that are read of the table that is written.
use Rattle.std.proofs.Common.{◌≡◌, ℕ, ◌+◌, ◌≤◌, Bool, List, [], ◌∷◌, length, map, Some, refl, sym, ◌∙◌, ap, subst, arith}
use Rattle.std.specs.Prelude.{Contains, slice_get, slice_index}
use Rattle.std.specs.List.{AllByRecursion}
use Rattle.std.proofs.lemmas.List.{length-map}
use Rattle.std.proofs.lemmas.Option.{slice_get_within}
use Rattle.jc_methods.specs.VerificationTypes.{Names, IsNumbered, AreNumberedFrames, TypeState, TypeStateAt, type_state, type_state_at}
use Rattle.jc_methods.specs.Opcode as opcode
use Rattle.jc_methods.specs.Starts.{AreStarts}
use Rattle.jc_methods.specs.WellMade.{IsWellMadeOfAnySize}
use Rattle.jc_methods.specs.Widened.{listed}
use Rattle.jc_methods.specs.declared.body.Body.{Body}
use Rattle.jc_methods.specs.declared.body.FrameAt.{FrameAt}
use Rattle.jc_methods.specs.declared.emitted.Emitted.{Emitted}
use Rattle.jc_methods.specs.declared.insn.Insn.{Insn}
use Rattle.jc_methods.specs.declared.insn.Insn.TheVariants as insns
use Rattle.jc_methods.specs.declared.kind.Kind.{Kind}
use Rattle.jc_methods.specs.declared.kind.Kind.TheVariants as kinds
use Rattle.jc_methods.specs.declared.kind.State.{State}
use Rattle.jc_bytes.proofs.BooleanLaws.{first_in, later_in}
use Rattle.jc_pool.specs.Adding.{IsFirst}
use Rattle.jc_pool.specs.Lookup.{class_name_of}
use Rattle.jc_frames.specs.Frames.{Ground, is_new}
use Rattle.jc_frames.specs.FullFrames.{Places, AreWritable}
use Rattle.jc_frames.specs.FullTable.{HasPlace, named_by_all, FitsFull}
use Rattle.jc_kinds.specs.Answers.{AreStates}
use Rattle.jc_kinds_after.specs.Shift.{shifted}
use Rattle.jc_emit.specs.Marks.{TwinPlaces, unplaced}
use Rattle.jc_emit.specs.Emission.{Emitting, emission, widened_frame, HasFrameStates, IsArrayNumber, AreFramesInForm}
use Rattle.jc_emit.specs.Items.{insn_of, image_of, twin_items}
use Rattle.jc_emit.specs.Shift.{image_kind}
use Rattle.jc_emit.specs.Straddling.{NoneStraddles}
use Rattle.jc_layout.specs.Layout.{laid_code}
use Rattle.jc_layout.specs.LaidBody.{laid_form, laid_frames, laid_place, with_prelude}
use Rattle.jc_layout.specs.Merged.{merged, used_frames}
use Rattle.jc_layout.proofs.LaidBodyLaws.{laid_told}
use Rattle.jc_layout.proofs.LaidCodeLaws.{called, laid_is}
use Rattle.jc_instrument_reread.proofs.AskedFrameLaws.{asked_good}
use Rattle.jc_instrument_reread.proofs.PoolInsnLaws.{same_there}
use Rattle.jc_instrument_reread.proofs.RenamedLaws.{all_named_renamed}
use Rattle.jc_instrument_reread.proofs.ShiftedStateLaws.{shifted_sayable}
use Rattle.jc_instrument_reread.proofs.WritableFrameLaws.{IsSayable, HasNewAt, IsFine, are_writable}
use Rattle.jc_instrument_reread.specs.WrittenCode.{ready_emission}
use Rattle.jc_layout.proofs.ReadyLaws.{ready_frames, ready_insns}

-- ---- the frames of a layout

-- the frames that a layout has, at the places of the emitted code
abbrev pub frames_of : List Bool → Emitted → List FrameAt
frames_of wide e = merged e.frames (used_frames (listed wide) e.wide_frames)

-- the frames of the layout are these at their places in the layout
pub laid_are : (wide : List Bool) (e : Emitted) → laid_frames wide e ≡ map (widened_frame (laid_place wide e.code)) (frames_of wide e)
laid_are wide e = refl

-- ---- numbers of classes

kind_numbered : (names : ℕ) (f : ℕ → ℕ) (k : Kind) → IsNumbered names k → IsNumbered names (image_kind f k)
kind_numbered names f (kinds.Object n) is = is
kind_numbered names f k is = tt

kinds_numbered : (names : ℕ) (f : ℕ → ℕ) (ks : List Kind) → AllByRecursion (IsNumbered names) ks → AllByRecursion (IsNumbered names) (map (image_kind f) ks)
kinds_numbered names f [] all = tt
kinds_numbered names f (k ∷ ks) all = (kind_numbered names f k all.0, kinds_numbered names f ks all.1)

frames_numbered : (names insns : ℕ) (f : ℕ → ℕ) (frames : List FrameAt) → AllByRecursion (FitsFull insns names) frames
    → AreNumberedFrames names (map (widened_frame f) frames)
frames_numbered names insns f [] all = tt
frames_numbered names insns f (g ∷ frames) all = (
  record {
    locals = kinds_numbered names f g.state.locals all.0.numbered.locals;
    stack = kinds_numbered names f g.state.stack all.0.numbered.stack;
  },
  frames_numbered names insns f frames all.1,
)

pub laid_numbered : (wide : List Bool) (names insns : ℕ) (e : Emitted) → AllByRecursion (FitsFull insns names) (frames_of wide e)
    → AreNumberedFrames names (laid_frames wide e)
laid_numbered wide names insns e all =
    subst (AreNumberedFrames names) (sym (laid_are wide e)) (frames_numbered names insns (laid_place wide e.code) (frames_of wide e) all)

-- ---- the classes that are named

pub laid_named : (wide : List Bool) (names : Names) (e : Emitted)
    → named_by_all (map (type_state_at names) (laid_frames wide e)) ≡ named_by_all (map (type_state_at names) (frames_of wide e))
laid_named wide names e =
    ap (λ (l : List FrameAt). named_by_all (map (type_state_at names) l)) (laid_are wide e) ∙ all_named_renamed (laid_place wide e.code) names (frames_of wide e)

-- ---- the frames of a twin

all_listed : (names : Names) (Fact : TypeStateAt → Type 0) (frames : List FrameAt) → ((f : FrameAt) → Contains frames f → Fact (type_state_at names f))
    → AllByRecursion Fact (map (type_state_at names) frames)
all_listed names Fact [] each = tt
all_listed names Fact (f ∷ frames) each = (each f (first_in f frames), all_listed names Fact frames (λ g c. each g (later_in f frames g c)))

module _ (names : Names) (b : Body) (first : ℕ) (states : List State) (given : Emitting) (giver : ℕ) (well : IsWellMadeOfAnySize b) (are : AreStates names b states)
    (fit : HasFrameStates b states) (free : NoneStraddles b) (array_is : IsArrayNumber names given.array) where
  abbrev e : Emitted
  e = ready_emission b first states given giver

  -- the code of the layout
  pub insns_are : (wide : List Bool) (named : TwinPlaces) → named.integer ≡ given.integer
      → with_prelude given.fetch named (laid_code wide (ready_emission b first states given giver).code) ≡ map (insn_of named b.arg_slots) (twin_items b first (laid_form b first given.fetch wide))
  unfolding emission
  insns_are wide named same =
      ready_insns b first states given wide named giver
      ∙ ap (with_prelude given.fetch named) (laid_is b first given.fetch (unplaced given.integer) wide well.code)
      ∙ called b first (laid_form b first given.fetch wide) named (unplaced given.integer) same

  module _ (wide : List Bool) (named : TwinPlaces) (g : Ground) (code_is : g.code ≡ map (insn_of named b.arg_slots) (twin_items b first (laid_form b first given.fetch wide)))
      (locals_are : g.max_locals ≡ b.max_locals + 1) (stack_is : g.max_stack ≡ b.max_stack + 3) where
    count_is : length g.code ≡ length (twin_items b first (laid_form b first given.fetch wide))
    count_is = ap (λ (l : List Insn). length l) code_is ∙ length-map (twin_items b first (laid_form b first given.fetch wide)) (insn_of named b.arg_slots)

    new_there : (at place : ℕ) → slice_get b.code at ≡ Some (insns.OfClass opcode.new place) → HasNewAt g (image_of b first (laid_form b first given.fetch wide) at)
    new_there at place is =
        let there =
        ap (λ (l : List Insn). slice_get l (image_of b first (laid_form b first given.fetch wide) at)) code_is
        ∙ same_there b first (laid_form b first given.fetch wide) named well.code at place (insns.OfClass opcode.new place) is refl in
        (slice_get_within g.code (image_of b first (laid_form b first given.fetch wide) at) (insns.OfClass opcode.new place) there, ap is_new there)

    told : AreFramesInForm names states first b (laid_form b first given.fetch wide) (laid_frames wide (ready_emission b first states given giver))
    told =
        subst (AreFramesInForm names states first b (laid_form b first given.fetch wide)) (sym (ready_frames b first states given wide giver))
        (laid_told b first states given names well fit array_is wide)

    one_fine : (f : FrameAt) → Contains (laid_frames wide (ready_emission b first states given giver)) f → IsFine g (type_state_at names f)
    one_fine f c =
        let asked = told.each f c in
        let good = asked_good names b first states well are fit free (laid_form b first given.fetch wide) f.at asked.0 asked.1 in
        let said = shifted_sayable names b (image_of b first (laid_form b first given.fetch wide)) (HasNewAt g) asked.0 well.arguments_fit new_there good.1 in
        let count = count_is in
        let below = good.0 in
        let shifted_there = shifted (image_of b first (laid_form b first given.fetch wide)) b.arg_slots (type_state names asked.0) in
        record {
          at = omega (arith, count, below);
          state =
              subst (λ (t : TypeState). IsSayable g.max_locals g.max_stack (HasNewAt g) t) (sym asked.2)
              (subst (λ (n : ℕ). IsSayable n g.max_stack (HasNewAt g) shifted_there) (sym locals_are)
              (subst (λ (n : ℕ). IsSayable (b.max_locals + 1) n (HasNewAt g) shifted_there) (sym stack_is) said));
        }

    -- they can be said by full frames, where the classes that they name stand in the pool
    pub laid_writable : (p : Places) (size : ℕ) → AreStarts (length g.code) size g.starts → size ≤ 65535
        → ((at : ℕ) → p.start at ≡ slice_index g.starts at)
        → ((name : List ℕ) (place : ℕ) → IsFirst (class_name_of g.pool) name place → p.class name ≡ place)
        → g.max_locals ≤ 65535 → g.max_stack ≤ 65535
        → AllByRecursion (HasPlace g.pool) (named_by_all (map (type_state_at names) (frames_of wide (ready_emission b first states given giver))))
        → AreWritable g p (map (type_state_at names) (laid_frames wide (ready_emission b first states given giver)))
    laid_writable p size starts few start class few_locals few_stack stand =
        are_writable g p size starts few start class few_locals few_stack names (laid_frames wide e) told.rising
        (all_listed names (IsFine g) (laid_frames wide e) one_fine)
        (subst (AllByRecursion (HasPlace g.pool)) (sym (laid_named wide names e)) stand)
