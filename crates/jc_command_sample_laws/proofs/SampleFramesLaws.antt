-- The frames of the instrumented methods of a sample name no class but that of the array of probes, and there are few of them.
use Rattle.std.proofs.Common.{◌≡◌, ◌⊎◌, inl, inr, ℕ, zero, suc, ◌+◌, ◌-◌, ◌<◌, ◌≤◌, Bool, true, false, List, [], ◌∷◌, length, map, Option, Some, None, Contains, refl, sym, ◌∙◌, ap, subst, arith}
use Rattle.std.specs.Prelude.{insert}
use Rattle.std.specs.List.{AllByRecursion}
use Rattle.std.proofs.lemmas.Bool.{cases_lt}
use Rattle.std.proofs.lemmas.List.{get_or_past, length-map}
use Rattle.std.proofs.lemmas.Option.{slice_get-get_or}
use Rattle.jc_bytes.proofs.BooleanLaws.{first_in, later_in}
use Rattle.jc_bytes.proofs.EachLaws.{all_both}
use Rattle.jc_methods.specs.DescriptorTypes.{types_from, rest_from}
use Rattle.jc_methods.specs.ProbeMembers.{data_type}
use Rattle.jc_methods.specs.VerificationTypes.{Names, VerificationType, top, int, class_name, class_names, is_pair, verification_type, TypeState, TypeStateAt, type_state, type_state_at}
use Rattle.jc_methods.specs.declared.body.FrameAt.{FrameAt}
use Rattle.jc_methods.specs.declared.kind.Kind.{Kind}
use Rattle.jc_methods.specs.declared.kind.Kind.TheVariants as kinds
use Rattle.jc_methods.specs.declared.kind.State.{State}
use Rattle.jc_frames.specs.Frames.{trimmed, values_from, values_in, without_last_top}
use Rattle.jc_frames.specs.FullTable.{named_by, named_by_all}
use Rattle.jc_kinds_after.specs.After.{after_of}
use Rattle.jc_kinds_after.specs.Table.{table, forms_at}
use Rattle.jc_kinds.specs.Answers.{AreStates}
use Rattle.jc_kinds.specs.States.{state_of}
use Rattle.jc_emit.specs.Emission.{IsArrayNumber}
use Rattle.jc_emit.specs.Items.{image_of}
use Rattle.jc_emit.specs.Shift.{image_kind}
use Rattle.jc_emit.specs.Sizes.{narrow, insn_at}
use Rattle.jc_emit.specs.TwinFrames.{no_state, state_at, operands_of}
use Rattle.jc_instrument_code.specs.TwinCode.{chosen_frames, written_frames}
use Rattle.jc_instrument_reread.specs.WrittenCode.{ready_emission}
use Rattle.jc_instrument.specs.Constants.{given_with}
use Rattle.jc_instrument.specs.declared.constants.ProbeConstants.{ProbeConstants}
use Rattle.jc_instrument.proofs.WritableLaws.{fewer_taken, put_in_count, some_taken, one_put_in}
use Rattle.jc_instrument_laws.proofs.EmittedFramesLaws.{IsOf, IsMoved, each_moved, written_most}
use Rattle.jc_command_sample_laws.proofs.SampleBodyLaws.{sample_body}
use Rattle.jc_command_sample_laws.proofs.SampleCodeLaws.{no_arms}

-- ---- states

-- all values are ints, and they are few
record IsFineType (s : TypeState) : Type 0 where
  locals : AllByRecursion (λ h. h ≡ int) s.locals
  stack : AllByRecursion (λ h. h ≡ int) s.stack
  few_locals : length s.locals ≤ 1
  few_stack : length s.stack ≤ 2

abbrev IsFineThere : Option TypeState → Type 0
IsFineThere None = Unit {0}
IsFineThere (Some s) = IsFineType s

fine_state : (names : Names) (k i : ℕ) → i < 8 → IsFineThere (state_of names (sample_body k) i)
unfolding types_from rest_from table forms_at after_of state_of
fine_state names k zero less = record { locals = (refl, tt); stack = tt; few_locals = omega arith; few_stack = omega arith }
fine_state names k (suc zero) less = record { locals = (refl, tt); stack = (refl, tt); few_locals = omega arith; few_stack = omega arith }
fine_state names k (suc (suc zero)) less = record { locals = (refl, tt); stack = (refl, (refl, tt)); few_locals = omega arith; few_stack = omega arith }
fine_state names k (suc (suc (suc zero))) less = record { locals = (refl, tt); stack = (refl, tt); few_locals = omega arith; few_stack = omega arith }
fine_state names k (suc (suc (suc (suc zero)))) less = record { locals = (refl, tt); stack = tt; few_locals = omega arith; few_stack = omega arith }
fine_state names k (suc (suc (suc (suc (suc zero))))) less = record { locals = (refl, tt); stack = (refl, tt); few_locals = omega arith; few_stack = omega arith }
fine_state names k (suc (suc (suc (suc (suc (suc zero)))))) less = record { locals = (refl, tt); stack = tt; few_locals = omega arith; few_stack = omega arith }
fine_state names k (suc (suc (suc (suc (suc (suc (suc zero))))))) less = record { locals = (refl, tt); stack = (refl, tt); few_locals = omega arith; few_stack = omega arith }
fine_state names k (suc (suc (suc (suc (suc (suc (suc (suc i)))))))) less = absurd (omega (arith, less))

-- ---- names of classes

-- it is that of the class of the array
abbrev pub IsData : List ℕ → Type 0
IsData name = name ≡ data_type

abbrev OkType : VerificationType → Type 0
OkType h = AllByRecursion IsData (class_name h)

trimmed_ok : (hs : List VerificationType) → AllByRecursion OkType hs → AllByRecursion OkType (trimmed hs)
trimmed_ok [] all = tt
trimmed_ok (h ∷ hs) all = by h (trimmed hs) all.0 (trimmed_ok hs all.1)
  where
    by : (h : VerificationType) (rest : List VerificationType) → OkType h → AllByRecursion OkType rest → AllByRecursion OkType (without_last_top h rest)
    by top [] ok all = tt
    by top (x ∷ rest) ok all = (ok, all)
    by h rest ok all = (ok, all)

from_ok : (skips : Bool) (hs : List VerificationType) → AllByRecursion OkType hs → AllByRecursion OkType (values_from skips hs)
from_ok skips [] all = tt
from_ok true (h ∷ hs) all = from_ok false hs all.1
from_ok false (h ∷ hs) all = (all.0, from_ok (is_pair h) hs all.1)

values_ok : (hs : List VerificationType) → AllByRecursion OkType hs → AllByRecursion OkType (values_in hs)
values_ok hs all = from_ok false (trimmed hs) (trimmed_ok hs all)

names_ok : (hs : List VerificationType) → AllByRecursion OkType hs → AllByRecursion IsData (class_names hs)
names_ok [] all = tt
names_ok (h ∷ hs) all = all_both IsData (class_name h) (class_names hs) all.0 (names_ok hs all.1)

-- ---- frames

-- it has few values, and names no other class
pub record IsFineFrame (f : TypeStateAt) : Type 0 where
  pub count : length f.state.locals + length f.state.stack ≤ 4
  pub named : AllByRecursion IsData (named_by f)

pub frames_named : (frames : List TypeStateAt) → AllByRecursion IsFineFrame frames → AllByRecursion IsData (named_by_all frames)
frames_named [] all = tt
frames_named (f ∷ frames) all = all_both IsData (named_by f) (named_by_all frames) all.0.named (frames_named frames all.1)

module _ (names : Names) where
  abbrev IsIntKind : Kind → Type 0
  IsIntKind k = verification_type names k ≡ int

  abbrev OkKind : Kind → Type 0
  OkKind k = OkType (verification_type names k)

  record IsFine (s : State) : Type 0 where
    locals : AllByRecursion IsIntKind s.locals
    stack : AllByRecursion IsIntKind s.stack
    few_locals : length s.locals ≤ 1
    few_stack : length s.stack ≤ 2

  from_types : (ks : List Kind) → AllByRecursion (λ h. h ≡ int) (map (verification_type names) ks) → AllByRecursion IsIntKind ks
  from_types [] all = tt
  from_types (k ∷ ks) all = (all.0, from_types ks all.1)

  fine_of : (s : State) → IsFineType (type_state names s) → IsFine s
  fine_of s fine =
      let locals = length-map s.locals (verification_type names) in
      let stack = length-map s.stack (verification_type names) in
      let one = fine.few_locals in
      let two = fine.few_stack in
      record { locals = from_types s.locals fine.locals; stack = from_types s.stack fine.stack; few_locals = omega (arith, locals, one); few_stack = omega (arith, stack, two) }

  image_ok : (place : ℕ → ℕ) (k : Kind) → IsIntKind k → OkKind (image_kind place k)
  image_ok place kinds.Int e = tt
  image_ok place kinds.Top e = tt
  image_ok place kinds.Float e = tt
  image_ok place kinds.Double e = tt
  image_ok place kinds.Long e = tt
  image_ok place kinds.Null e = tt
  image_ok place kinds.UninitThis e = tt
  image_ok place (kinds.Object n) e = cc
  image_ok place (kinds.Uninit at) e = tt

  images_ok : (place : ℕ → ℕ) (ks : List Kind) → AllByRecursion IsIntKind ks → AllByRecursion OkKind (map (image_kind place) ks)
  images_ok place [] all = tt
  images_ok place (k ∷ ks) all = (image_ok place k all.0, images_ok place ks all.1)

  types_ok : (ks : List Kind) → AllByRecursion OkKind ks → AllByRecursion OkType (map (verification_type names) ks)
  types_ok [] all = tt
  types_ok (k ∷ ks) all = (all.0, types_ok ks all.1)

  module _ (k first array : ℕ) (states : List State) (constants : ProbeConstants) (are : AreStates names (sample_body k) states) (array_is : IsArrayNumber names array) where
    fine_at : (i : ℕ) → IsFine (state_at states i)
    fine_at i = by (cases_lt i (length states))
      where
        by : (i < length states) ⊎ (length states ≤ i) → IsFine (state_at states i)
        by (inl less) =
            let s = state_at states i in
            let is = are.each i s (slice_get-get_or states i no_state less) in
            let count = are.count in
            fine_of s (subst IsFineThere is.is (fine_state names k i (omega (arith, less, count))))
        by (inr past) = subst IsFine (sym (get_or_past states i no_state past)) (record { locals = tt; stack = tt; few_locals = omega arith; few_stack = omega arith })

    fine : (s : State) → IsOf (sample_body k) first states (given_with constants array) s → IsFine s
    fine s (i, inl is) = subst IsFine (sym is) (fine_at i)
    fine s (i, inr is) =
        let before = fine_at i in
        let stack = (state_at states i).stack in
        let many = length stack - operands_of (insn_at (sample_body k).code i) in
        subst IsFine (sym is) (record {
          locals = before.locals;
          stack = some_taken IsIntKind many stack before.stack;
          few_locals = before.few_locals;
          few_stack = let fewer = fewer_taken many stack in let most = before.few_stack in omega (arith, fewer, most);
        })

    fine_frame : (f : FrameAt) → IsMoved (sample_body k) first states (given_with constants array) f → IsFineFrame (type_state_at names f)
    fine_frame f moved =
        let s = moved.state in
        let is = fine s moved.of in
        let place = image_of (sample_body k) first (narrow constants.fetch) in
        let images = map (image_kind place) s.locals in
        let locals_is : f.state.locals ≡ insert images 1 (kinds.Object array) = ap (λ (t : State). t.locals) moved.is in
        let stack_is : f.state.stack ≡ map (image_kind place) s.stack = ap (λ (t : State). t.stack) moved.is in
        let locals_count = length-map f.state.locals (verification_type names) in
        let stack_count = length-map f.state.stack (verification_type names) in
        let one_more = ap (λ (l : List Kind). length l) locals_is ∙ put_in_count 1 (kinds.Object array) images in
        let same_stack = ap (λ (l : List Kind). length l) stack_is ∙ length-map s.stack (image_kind place) in
        let same_locals = length-map s.locals (image_kind place) in
        let few_locals = is.few_locals in
        let few_stack = is.few_stack in
        let locals_ok = types_ok f.state.locals (subst (AllByRecursion OkKind) (sym locals_is) (one_put_in OkKind 1 (kinds.Object array) images (array_is, tt) (images_ok place s.locals is.locals))) in
        let stack_ok = types_ok f.state.stack (subst (AllByRecursion OkKind) (sym stack_is) (images_ok place s.stack is.stack)) in
        record {
          count = omega (arith, locals_count, stack_count, one_more, same_stack, same_locals, few_locals, few_stack);
          named = all_both IsData (class_names (values_in (type_state_at names f).state.locals)) (class_names (type_state_at names f).state.stack)
              (names_ok (values_in (type_state_at names f).state.locals) (values_ok (type_state_at names f).state.locals locals_ok))
              (names_ok (type_state_at names f).state.stack stack_ok);
        }

    fine_frames : (frames : List FrameAt) → ((f : FrameAt) → Contains frames f → IsMoved (sample_body k) first states (given_with constants array) f)
        → AllByRecursion IsFineFrame (map (type_state_at names) frames)
    fine_frames [] each = tt
    fine_frames (f ∷ frames) each = (fine_frame f (each f (first_in f frames)), fine_frames frames (λ g there. each g (later_in f frames g there)))

    pub written_fine : AllByRecursion IsFineFrame (written_frames names (ready_emission (sample_body k) first states (given_with constants array) constants.giver))
    written_fine =
        fine_frames (chosen_frames (ready_emission (sample_body k) first states (given_with constants array) constants.giver))
        (each_moved (sample_body k) first states (given_with constants array) constants.giver)

    pub written_few : length (written_frames names (ready_emission (sample_body k) first states (given_with constants array) constants.giver)) ≤ 24
    written_few =
        let most = written_most (sample_body k) first states (given_with constants array) constants.giver in
        let none = no_arms k first in
        let same = length-map (chosen_frames (ready_emission (sample_body k) first states (given_with constants array) constants.giver)) (type_state_at names) in
        omega (arith, most, none, same)
