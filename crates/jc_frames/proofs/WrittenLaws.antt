-- Full frames are read back as the frames that were written.
use Rattle.std.proofs.Common.{◌≡◌, ℕ, zero, suc, ◌+◌, ◌<◌, ◌≤◌, true, List, [], ◌∷◌, ◌++◌, length, map, get_or, Some, All, slice_get, refl, sym, ◌∙◌, ap, ap₂, subst, arith}
use Rattle.std.proofs.lemmas.Bool.{eq-eqb, ne_eqb}
use Rattle.std.proofs.lemmas.List.{length-map}
use Rattle.std.proofs.lemmas.List.Elements.{recursion_from_All}
use Rattle.std.proofs.lemmas.List.Sums.{sum_by-cons}
use Rattle.std.proofs.lemmas.Option.{slice_get_within}
use Rattle.std.specs.List.{AllByRecursion, sum_by}
use Rattle.jc_bytes.proofs.EachLaws.{all_weaker, each_of_all}
use Rattle.jc_methods.specs.declared.body.FrameAt.{FrameAt}
use Rattle.jc_methods.specs.declared.insn.Insn.{Insn}
use Rattle.jc_methods.specs.declared.insn.Insn.TheVariants as insn
use Rattle.jc_methods.specs.Opcode as opcode
use Rattle.jc_methods.specs.declared.kind.Kind.{Kind}
use Rattle.jc_methods.specs.declared.kind.Kind.TheVariants as kinds
use Rattle.jc_methods.specs.FrameOrder.{RiseFrom}
use Rattle.jc_methods.specs.VerificationTypes.{Names, VerificationType, TypeStateAt, object, uninit, class_names, verification_type, type_state_at, is_pair, slots, width, IsNumberedState, AreNumberedFrames}
use Rattle.jc_methods.specs.Starts.{insn_number}
use Rattle.jc_methods.specs.WellMade as made
use Rattle.jc_pool.specs.Lookup.{class_name_of}
use Rattle.jc_pool.proofs.AddedLaws.{class_within}
use Rattle.jc_frames.specs.Frames.{Ground, is_new, values_in}
use Rattle.jc_frames.specs.FullFrames.{Places, BeginsWithTop, ArePaired, StartsAt, HasPlaces, IsWritable, AreRising}
use Rattle.jc_frames.specs.FullTable.{IsPlaced, FitsFull, OffsetsRise, AreRisingOffsets, AreShort, HasPlace, ArePlacesIn, named_by, named_by_all}
use Rattle.jc_frames.specs.ReadBack.{FramesCanBeWritten, WrittenFramesReadBack}
use Rattle.jc_frames.proofs.FullLaws.{read_back}
use Rattle.jc_frames.proofs.FullTextLaws.{both_parts, later_offset, offsets_rise}
use Rattle.jc_frames.proofs.TakenLaws.{all_stand, first_of}
use Rattle.jc_frames.proofs.ValuesLaws.{in_values}

-- ---- places of classes

-- ---- offsets of instructions

-- the instruction that begins at the offset of an instruction is that one
number_of : (starts : List ℕ) (end k : ℕ) → AreRisingOffsets starts → k < length starts → insn_number (starts ++ end ∷ []) (get_or starts k 0) ≡ k
number_of [] end k rising lt = absurd (omega (arith, lt))
number_of (start ∷ []) end zero rising lt = rw (eq-eqb start start refl) refl
number_of (start ∷ []) end (suc k) rising lt = absurd (omega (arith, lt))
number_of (start ∷ next ∷ starts) end zero rising lt = rw (eq-eqb start start refl) refl
number_of (start ∷ next ∷ starts) end (suc k) rising lt =
    let above : start < get_or (next ∷ starts) k 0 = later_offset (start ∷ next ∷ starts) rising 0 (suc k) (omega arith) lt in
    let up = λ (j : ℕ) (less : j + 1 < length (next ∷ starts)). subst (λ (i : ℕ). get_or (next ∷ starts) j 0 < get_or (start ∷ next ∷ starts) i 0)
    (let e : suc j + 1 ≡ suc (j + 1) = omega arith in e) (rising (suc j) (omega (arith, less))) in
    let more = number_of (next ∷ starts) end k up (omega (arith, lt)) in
    rw (ne_eqb start (get_or (next ∷ starts) k 0) (λ e. omega (arith, above, e))) (omega (arith, more))

-- ---- kinds

pub top_begins : (names : Names) (ks : List Kind) → made.BeginsWithTop ks → BeginsWithTop (map (verification_type names) ks)
top_begins names [] b = b
top_begins names (k ∷ ks) b = subst (λ (k : Kind). BeginsWithTop (map (verification_type names) (k ∷ ks))) (sym b) tt

module _ (names : Names) where
  pair_slots : (k : Kind) → is_pair (verification_type names k) ≡ true → made.kind_slots k ≡ 2
  pair_slots kinds.Double e = refl
  pair_slots kinds.Long e = refl
  pair_slots k e = absurd cc

  pub paired : (ks : List Kind) → made.ArePaired ks → ArePaired (map (verification_type names) ks)
  paired [] p = tt
  paired (k ∷ ks) p = (λ pair. top_begins names ks (p.0 (pair_slots k pair)), paired ks p.1)

  pub slots_are : (ks : List Kind) → slots (map (verification_type names) ks) ≡ sum_by made.kind_slots ks
  slots_are [] = refl
  slots_are (k ∷ ks) = ap₂ (λ (a b : ℕ). a + b) (one k) (slots_are ks) ∙ sym (sum_by-cons made.kind_slots k ks)
    where
      one : (k : Kind) → width (verification_type names k) ≡ made.kind_slots k
      one kinds.Top = refl
      one k = refl

-- ---- where everything stands

module _ (g : Ground) (starts : List ℕ) (p : Places) (count : length starts ≡ length g.code) (end : ℕ) (begins : g.starts ≡ starts ++ end ∷ [])
    (rising : AreRisingOffsets starts) (short : AreShort starts) (are : ArePlacesIn g.pool starts p) where
  starts_at : (at : ℕ) → at < length starts → StartsAt g p at
  starts_at at lt = record {
    few = let a = are.start at in let b = short at 0 lt in omega (arith, a, b);
    number = ap₂ (λ (l : List ℕ) (k : ℕ). insn_number l k) begins (are.start at) ∙ number_of starts end at rising lt;
  }

  -- an object that isn't initialized has a `new`
  abbrev MadeThere : VerificationType → Type 0
  MadeThere (uninit at) = StartsAt g p at × (is_new (slice_get g.code at) ≡ true)
  MadeThere h = Unit {0}

  made_there : (names : Names) (k : Kind) → made.IsKind g.code k → MadeThere (verification_type names k)
  made_there names (kinds.Uninit at) is = (starts_at at (let lt = slice_get_within g.code at (insn.OfClass opcode.new is.0) is.1 in omega (arith, lt, count)), ap is_new is.1)
  made_there names k is = tt

  made_all : (names : Names) (ks : List Kind) → All (made.IsKind g.code) ks → AllByRecursion MadeThere (map (verification_type names) ks)
  made_all names ks all = each_of_all MadeThere (verification_type names) ks (λ k d lt. made_there names (get_or ks k d) (all k d lt))

  -- a class has its first place
  place_of : (name : List ℕ) → HasPlace g.pool name → (p.class name < 65536) × (class_name_of g.pool (p.class name) ≡ Some name)
  place_of name h =
      let first = first_of g.pool name h in
      let e = are.class name first.0 first.1 in
      let w = class_within g.pool first.0 name first.1.there in
      let fits = h.fits in
      (omega (arith, e, w, fits), ap (class_name_of g.pool) e ∙ first.1.there)

  have_places : (hs : List VerificationType) → AllByRecursion (HasPlace g.pool) (class_names hs) → AllByRecursion MadeThere hs → AllByRecursion (HasPlaces g p) hs
  have_places [] s m = tt
  have_places (object name ∷ hs) s m = (place_of name s.0, have_places hs s.1 m.1)
  have_places (uninit at ∷ hs) s m = (m.0, have_places hs s m.1)
  have_places (h ∷ hs) s m = (tt, have_places hs s m.1)

  -- ---- frames

  writable : (names : Names) (f : FrameAt) → FitsFull (length starts) (length names) f → made.IsState g.code g.max_locals g.max_stack f.state
      → AllByRecursion (HasPlace g.pool) (named_by (type_state_at names f)) → IsWritable g p (type_state_at names f)
  writable names f fits state stand =
      let locals = map (verification_type names) f.state.locals in
      let both = both_parts (HasPlace g.pool) (class_names (values_in locals)) (class_names (map (verification_type names) f.state.stack)) stand in
      record {
        within = let lt = fits.at in omega (arith, lt, count);
        starts = starts_at f.at fits.at;
        locals = length-map f.state.locals (verification_type names) ∙ state.locals;
        paired = paired names f.state.locals state.pairs;
        stack = let e = slots_are names f.state.stack in let le = state.stack in omega (arith, e, le);
        few_locals = let e = length-map f.state.locals (verification_type names) in let le = fits.few_locals in omega (arith, e, le);
        few_stack = let e = length-map f.state.stack (verification_type names) in let le = fits.few_stack in omega (arith, e, le);
        local_places = have_places (values_in locals) both.0 (in_values MadeThere locals (made_all names f.state.locals state.local_kinds));
        stack_places = have_places (map (verification_type names) f.state.stack) both.1 (made_all names f.state.stack state.stack_kinds);
      }

  -- the states of the frames are well made states of the method
  abbrev HaveStates : List FrameAt → Type 0
  HaveStates fs = AllByRecursion (λ f. made.IsState g.code g.max_locals g.max_stack f.state) fs

  -- the classes that the frames name stand in the pool
  abbrev HavePlaces : List TypeStateAt → Type 0
  HavePlaces frames = AllByRecursion (HasPlace g.pool) (named_by_all frames)

  all_writable : (names : Names) (fs : List FrameAt) → AllByRecursion (FitsFull (length starts) (length names)) fs → HaveStates fs
      → HavePlaces (map (type_state_at names) fs) → AllByRecursion (IsWritable g p) (map (type_state_at names) fs)
  all_writable names [] fits states stand = tt
  all_writable names (f ∷ fs) fits states stand =
      let both = both_parts (HasPlace g.pool) (named_by (type_state_at names f)) (named_by_all (map (type_state_at names) fs)) stand in
      (writable names f fits.0 states.0 both.0, all_writable names fs fits.1 states.1 both.1)

  rises : (names : Names) (base : ℕ) (fs : List FrameAt) → OffsetsRise starts base fs → AreRising p base (map (type_state_at names) fs)
  rises names base [] r = tt
  rises names base (f ∷ fs) r = (
    (let e = are.start f.at in let le = r.0 in omega (arith, e, le)),
    subst (λ (n : ℕ). AreRising p (n + 1) (map (type_state_at names) fs)) (sym (are.start f.at)) (rises names (get_or starts f.at 0 + 1) fs r.1),
  )

pub written_back : WrittenFramesReadBack
written_back g starts names old p entry frames can over takes are =
    read_back g p entry (map (type_state_at names) frames) (record {
      few = let e = length-map frames (type_state_at names) in let le = can.few in omega (arith, e, le);
      rising = rises g starts p over.count over.end over.begins can.offsets can.short are names 0 frames
          (offsets_rise starts (length names) can.offsets 0 0 (λ j le lt. omega arith) frames can.rising can.each);
      each = all_writable g starts p over.count over.end over.begins can.offsets can.short are names frames can.each over.states
          (all_stand old g.pool (named_by_all (map (type_state_at names) frames)) takes);
    })

-- ---- frames of a body

kind_placed : (code : List Insn) (insns : ℕ) → length code ≤ insns → (k : Kind) → made.IsKind code k → IsPlaced insns k
kind_placed code insns le (kinds.Uninit at) is = let lt = slice_get_within code at (insn.OfClass opcode.new is.0) is.1 in omega (arith, lt, le)
kind_placed code insns le k is = tt

some_slot : (k : Kind) → 1 ≤ made.kind_slots k
some_slot kinds.Top = omega arith
some_slot k = omega arith

slot_each : (ks : List Kind) → length ks ≤ sum_by made.kind_slots ks
slot_each [] = omega arith
slot_each (k ∷ ks) = let a = slot_each ks in let b = some_slot k in let e = sum_by-cons made.kind_slots k ks in omega (arith, a, b, e)

module _ (code : List Insn) (max_locals max_stack names insns : ℕ) (few_locals : max_locals ≤ 65535) (few_stack : max_stack ≤ 65535) (within : length code ≤ insns) where
  frame_fits : (f : FrameAt) → f.at < length code → made.IsState code max_locals max_stack f.state → IsNumberedState names f.state → FitsFull insns names f
  frame_fits f lt state numbered = record {
    at = omega (arith, lt, within);
    few_locals = let e = state.locals in omega (arith, e, few_locals);
    few_stack = let a = slot_each f.state.stack in let b = state.stack in omega (arith, a, b, few_stack);
    numbered = numbered;
    local_places = all_weaker (made.IsKind code) (IsPlaced insns) (kind_placed code insns within) f.state.locals (recursion_from_All (made.IsKind code) f.state.locals state.local_kinds);
    stack_places = all_weaker (made.IsKind code) (IsPlaced insns) (kind_placed code insns within) f.state.stack (recursion_from_All (made.IsKind code) f.state.stack state.stack_kinds);
  }

  frames_rise : (first : ℕ) (frames : List FrameAt) → made.AreFramesFrom first code max_locals max_stack frames → RiseFrom first frames
  frames_rise first [] are = tt
  frames_rise first (f ∷ frames) are = (are.0, frames_rise (f.at + 1) frames are.3)

  frames_fit : (first : ℕ) (frames : List FrameAt) → made.AreFramesFrom first code max_locals max_stack frames → AreNumberedFrames names frames → AllByRecursion (FitsFull insns names) frames
  frames_fit first [] are numbered = tt
  frames_fit first (f ∷ frames) are numbered = (frame_fits f are.1 are.2 numbered.0, frames_fit (f.at + 1) frames are.3 numbered.1)

pub can_be_written : FramesCanBeWritten
can_be_written code max_locals max_stack names starts frames are numbered few_locals few_stack few within rising short = record {
  few = few;
  rising = frames_rise code max_locals max_stack names (length starts) few_locals few_stack within 0 frames are;
  offsets = rising;
  short = short;
  each = frames_fit code max_locals max_stack names (length starts) few_locals few_stack within 0 frames are numbered;
}
