-- The classes that the frames of instrumented code name have names that a pool can take, and how many values frames have.
use Rattle.std.proofs.Common.{◌≡◌, ◌⊎◌, inl, inr, ℕ, ◌+◌, ◌-◌, ◌<◌, ◌≤◌, List, [], ◌∷◌, ◌++◌, length, map, get_or, sym, ◌∙◌, ap, subst, arith}
use Rattle.std.specs.Prelude.{Contains, insert}
use Rattle.std.specs.List.{AllByRecursion}
use Rattle.std.proofs.lemmas.Bool.{cases_lt}
use Rattle.std.proofs.lemmas.List.{get_or_past, length-map}
use Rattle.std.proofs.lemmas.Option.{slice_get-get_or}
use Rattle.jc_methods.specs.VerificationTypes.{Names, VerificationType, object, class_names, verification_type, type_state, TypeStateAt, type_state_at}
use Rattle.jc_methods.specs.WellMade.{IsWellMadeOfAnySize}
use Rattle.jc_methods.specs.declared.body.Body.{Body}
use Rattle.jc_methods.specs.declared.body.FrameAt.{FrameAt}
use Rattle.jc_methods.specs.declared.kind.Kind.{Kind}
use Rattle.jc_methods.specs.declared.kind.Kind.TheVariants as kinds
use Rattle.jc_methods.specs.declared.kind.State.{State}
use Rattle.jc_bytes.proofs.BooleanLaws.{first_in, later_in}
use Rattle.jc_frames.specs.Frames.{values_in}
use Rattle.jc_frames.specs.FullTable.{named_by, named_by_all}
use Rattle.jc_kinds.specs.Answers.{AreStates}
use Rattle.jc_emit.specs.Items.{image_of}
use Rattle.jc_emit.specs.Shift.{image_kind, probe_array_class}
use Rattle.jc_emit.specs.Sizes.{narrow, insn_at}
use Rattle.jc_emit.specs.TwinFrames.{no_state, state_at, operands_of}
use Rattle.jc_instrument_code.specs.TwinCode.{chosen_frames, written_frames}
use Rattle.jc_instrument_laws.proofs.EmittedFramesLaws.{IsOf, IsMoved, each_moved}
use Rattle.jc_instrument_laws.proofs.NamedStatesLaws.{HasTexts, state_named, values_named}
use Rattle.jc_instrument_laws.proofs.NamedStepsLaws.{AllNamed, AreNamed, IsNamed}
use Rattle.jc_instrument_laws.proofs.PoolSpellingLaws.{IsText}
use Rattle.jc_instrument_reread.specs.WrittenCode.{ready_emission}
use Rattle.jc_instrument.specs.Constants.{given_with}
use Rattle.jc_instrument.specs.declared.constants.ProbeConstants.{ProbeConstants}
use Rattle.jc_instrument.proofs.WritableLaws.{slots_above, fewer_taken, put_in_count, some_taken, one_put_in}

-- ---- values by their kinds

abbrev KindNamed : Names → Kind → Type 0
KindNamed names k = IsNamed (verification_type names k)

to_kinds : (names : Names) (ks : List Kind) → AllNamed (map (verification_type names) ks) → AllByRecursion (KindNamed names) ks
to_kinds names [] all = tt
to_kinds names (k ∷ ks) all = (all.0, to_kinds names ks all.1)

to_held : (names : Names) (ks : List Kind) → AllByRecursion (KindNamed names) ks → AllNamed (map (verification_type names) ks)
to_held names [] all = tt
to_held names (k ∷ ks) all = (all.0, to_held names ks all.1)

image_named : (names : Names) (place : ℕ → ℕ) (k : Kind) → KindNamed names k → KindNamed names (image_kind place k)
image_named names place (kinds.Object n) named = named
image_named names place k named = tt

images_named : (names : Names) (place : ℕ → ℕ) (ks : List Kind) → AllByRecursion (KindNamed names) ks
    → AllByRecursion (KindNamed names) (map (image_kind place) ks)
images_named names place [] all = tt
images_named names place (k ∷ ks) all = (image_named names place k all.0, images_named names place ks all.1)

pub texts_both : (xs ys : Names) → AllByRecursion IsText xs → AllByRecursion IsText ys → AllByRecursion IsText (xs ++ ys)
texts_both [] ys a c = c
texts_both (x ∷ xs) ys a c = (a.0, texts_both xs ys a.1 c)

-- what a state of the body is
record IsSmall (names : Names) (b : Body) (s : State) : Type 0 where
  locals : length s.locals ≤ b.max_locals
  stack : length s.stack ≤ b.max_stack
  local_names : AllByRecursion (KindNamed names) s.locals
  stack_names : AllByRecursion (KindNamed names) s.stack

module _ (names : Names) (b : Body) (made : IsWellMadeOfAnySize b) (texts : HasTexts names b) (first : ℕ) (states : List State)
    (constants : ProbeConstants) (array : ℕ)
    (are : AreStates names b states) (array_is : get_or names array [] ≡ probe_array_class) (array_text : IsText probe_array_class) where
  small_at : (i : ℕ) → IsSmall names b (state_at states i)
  small_at i = by (cases_lt i (length states))
    where
      by : (i < length states) ⊎ (length states ≤ i) → IsSmall names b (state_at states i)
      by (inl less) =
          let s = state_at states i in
          let is = are.each i s (slice_get-get_or states i no_state less) in
          let named = state_named names b made texts i (type_state names s) is.is in
          record {
            locals = let count = is.well_made.locals in omega (arith, count);
            stack = let above = slots_above s.stack in let most = is.well_made.stack in omega (arith, above, most);
            local_names = to_kinds names s.locals named.locals;
            stack_names = to_kinds names s.stack named.stack;
          }
      by (inr past) = subst (IsSmall names b) (sym (get_or_past states i no_state past))
          (record { locals = omega arith; stack = omega arith; local_names = tt; stack_names = tt })

  small : (s : State) → IsOf b first states (given_with constants array) s → IsSmall names b s
  small s (i, inl is) = subst (IsSmall names b) (sym is) (small_at i)
  small s (i, inr is) =
      let before = small_at i in
      let stack = (state_at states i).stack in
      let n = length stack - operands_of (insn_at b.code i) in
      subst (IsSmall names b) (sym is) (record {
        locals = before.locals;
        stack = let fewer = fewer_taken n stack in let most = before.stack in omega (arith, fewer, most);
        local_names = before.local_names;
        stack_names = some_taken (KindNamed names) n stack before.stack_names;
      })

  -- how many values the frame has, and that its classes have such names
  pub record IsSmallFrame (f : TypeStateAt) : Type 0 where
    pub count : length f.state.locals + length f.state.stack ≤ b.max_locals + 1 + b.max_stack
    pub named : AreNamed f.state

  small_frame : (f : FrameAt) → IsMoved b first states (given_with constants array) f → IsSmallFrame (type_state_at names f)
  small_frame f moved =
      let s = moved.state in
      let is = small s moved.of in
      let place = image_of b first (narrow constants.fetch) in
      let images = map (image_kind place) s.locals in
      let locals_is : f.state.locals ≡ insert images b.arg_slots (kinds.Object array) = ap (λ (t : State). t.locals) moved.is in
      let stack_is : f.state.stack ≡ map (image_kind place) s.stack = ap (λ (t : State). t.stack) moved.is in
      let a = length-map f.state.locals (verification_type names) in
      let c = length-map f.state.stack (verification_type names) in
      let d = ap (λ (l : List Kind). length l) locals_is ∙ put_in_count b.arg_slots (kinds.Object array) images in
      let e = ap (λ (l : List Kind). length l) stack_is ∙ length-map s.stack (image_kind place) in
      let g = length-map s.locals (image_kind place) in
      let locals = is.locals in
      let stack = is.stack in
      let array_named : KindNamed names (kinds.Object array) = subst IsText (sym array_is) array_text in
      record {
        count = omega (arith, a, c, d, e, g, locals, stack);
        named = record {
          locals = to_held names f.state.locals (subst (AllByRecursion (KindNamed names)) (sym locals_is)
              (one_put_in (KindNamed names) b.arg_slots (kinds.Object array) images array_named (images_named names place s.locals is.local_names)));
          stack = to_held names f.state.stack (subst (AllByRecursion (KindNamed names)) (sym stack_is) (images_named names place s.stack is.stack_names));
        };
      }

  small_frames : (frames : List FrameAt) → ((f : FrameAt) → Contains frames f → IsMoved b first states (given_with constants array) f)
      → AllByRecursion IsSmallFrame (map (type_state_at names) frames)
  small_frames [] each = tt
  small_frames (f ∷ frames) each =
      (small_frame f (each f (first_in f frames)), small_frames frames (λ g c. each g (later_in f frames g c)))

  pub written_small : AllByRecursion IsSmallFrame (written_frames names (ready_emission b first states (given_with constants array) constants.giver))
  written_small = small_frames (chosen_frames (ready_emission b first states (given_with constants array) constants.giver)) (each_moved b first states (given_with constants array) constants.giver)

  -- ---- the names of classes

  names_texts : (hs : List VerificationType) → AllNamed hs → AllByRecursion IsText (class_names hs)
  names_texts [] all = tt
  names_texts (object name ∷ hs) all = (all.0, names_texts hs all.1)
  names_texts (h ∷ hs) all = names_texts hs all.1

  frames_texts : (frames : List TypeStateAt) → AllByRecursion IsSmallFrame frames → AllByRecursion IsText (named_by_all frames)
  frames_texts [] all = tt
  frames_texts (f ∷ frames) all =
      texts_both (named_by f) (named_by_all frames)
      (texts_both (class_names (values_in f.state.locals)) (class_names f.state.stack)
      (names_texts (values_in f.state.locals) (values_named f.state.locals all.0.named.locals)) (names_texts f.state.stack all.0.named.stack))
      (frames_texts frames all.1)

  pub written_texts : AllByRecursion IsText (named_by_all (written_frames names (ready_emission b first states (given_with constants array) constants.giver)))
  written_texts = frames_texts (written_frames names (ready_emission b first states (given_with constants array) constants.giver)) written_small
