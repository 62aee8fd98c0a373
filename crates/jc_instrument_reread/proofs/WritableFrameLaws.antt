-- The frames of a twin can be said by full frames.
use Rattle.std.proofs.Common.{◌≡◌, ℕ, zero, suc, ◌+◌, ◌<◌, ◌≤◌, true, List, [], ◌∷◌, length, map, get_or, Some, ◌∙◌, ap, arith}
use Rattle.std.specs.Prelude.{slice_get, slice_index}
use Rattle.std.specs.List.{AllByRecursion}
use Rattle.std.proofs.lemmas.List.{length-map}
use Rattle.jc_methods.proofs.StartsLaws.{number_at, rising}
use Rattle.jc_methods.specs.FrameOrder.{RiseFrom}
use Rattle.jc_methods.specs.VerificationTypes.{Names, VerificationType, object, uninit, class_names, TypeState, TypeStateAt, slots, type_state_at}
use Rattle.jc_methods.specs.Starts.{insn_number, AreStarts}
use Rattle.jc_methods.specs.declared.body.FrameAt.{FrameAt}
use Rattle.jc_pool.specs.Adding.{IsFirst}
use Rattle.jc_pool.specs.Lookup.{class_name_of}
use Rattle.jc_pool.proofs.AddedLaws.{class_within}
use Rattle.jc_frames.specs.Frames.{Ground, is_new, values_in}
use Rattle.jc_frames.specs.FullFrames.{Places, ArePaired, StartsAt, HasPlaces, IsWritable, AreRising, AreWritable}
use Rattle.jc_frames.specs.FullTable.{HasPlace, named_by, named_by_all}
use Rattle.jc_frames.proofs.FullTextLaws.{both_parts}
use Rattle.jc_frames.proofs.TakenLaws.{first_of}
use Rattle.jc_frames.proofs.ValuesLaws.{in_values}

-- ---- what a full frame says

-- an object that isn't initialized has this of its place
abbrev pub PlacedSo : (ℕ → Type 0) → VerificationType → Type 0
PlacedSo Fact (uninit at) = Fact at
PlacedSo Fact h = Unit {0}

-- so many local variables, so many slots, and this of each object that isn't initialized
pub record IsSayable (max_locals max_stack : ℕ) (Fact : ℕ → Type 0) (t : TypeState) : Type 0 where
  pub locals : length t.locals ≡ max_locals
  pub paired : ArePaired t.locals
  pub stack : slots t.stack ≤ max_stack
  pub few_stack : length t.stack ≤ max_stack
  pub local_places : AllByRecursion (PlacedSo Fact) t.locals
  pub stack_places : AllByRecursion (PlacedSo Fact) t.stack

-- an object that isn't initialized has a `new` of this code
abbrev pub HasNewAt : Ground → ℕ → Type 0
HasNewAt g at = (at < length g.code) × (is_new (slice_get g.code at) ≡ true)

-- the frame stands at an instruction, and its state can be said
pub record IsFine (g : Ground) (f : TypeStateAt) : Type 0 where
  pub at : f.at < length g.code
  pub state : IsSayable g.max_locals g.max_stack (HasNewAt g) f.state

-- ---- offsets

-- frames in rising order among so many instructions are as many at most
few_frames : (from count : ℕ) (frames : List FrameAt) → RiseFrom from frames → AllByRecursion (λ f. f.at < count) frames → from ≤ count
    → from + length frames ≤ count
few_frames from count [] rises within le = omega (arith, le)
few_frames from count (f ∷ frames) rises within le =
    let first = rises.0 in
    let here = within.0 in
    let more = few_frames (f.at + 1) count frames rises.1 within.1 (omega (arith, here)) in
    omega (arith, first, more)

module _ (g : Ground) (p : Places) (size : ℕ) (starts : AreStarts (length g.code) size g.starts) (few : size ≤ 65535)
    (start : (at : ℕ) → p.start at ≡ slice_index g.starts at)
    (class : (name : List ℕ) (place : ℕ) → IsFirst (class_name_of g.pool) name place → p.class name ≡ place) where
  rises : (i j : ℕ) → i < j → j ≤ length g.code → get_or g.starts i 0 < get_or g.starts j 0
  rises i j lt within = rising (length g.code) size g.starts starts i j lt within

  starts_at : (at : ℕ) → at < length g.code → StartsAt g p at
  starts_at at lt = record {
    few =
        let e = start at in
        let up = rises at (length g.code) lt (omega arith) in
        let end = starts.end in
        omega (arith, e, up, end, few);
    number = ap (insn_number g.starts) (start at) ∙ number_at g.starts (length g.code) at starts.one_more rises (omega (arith, lt));
  }

  -- ---- places of classes

  place_of : (name : List ℕ) → HasPlace g.pool name → (p.class name < 65536) × (class_name_of g.pool (p.class name) ≡ Some name)
  place_of name h =
      let first = first_of g.pool name h in
      let e = class name first.0 first.1 in
      let fits = h.fits in
      let less = class_within g.pool first.0 name first.1.there in
      (omega (arith, e, less, fits), ap (class_name_of g.pool) e ∙ first.1.there)

  have_places : (hs : List VerificationType) → AllByRecursion (HasPlace g.pool) (class_names hs) → AllByRecursion (PlacedSo (HasNewAt g)) hs → AllByRecursion (HasPlaces g p) hs
  have_places [] s m = tt
  have_places (object name ∷ hs) s m = (place_of name s.0, have_places hs s.1 m.1)
  have_places (uninit at ∷ hs) s m = ((starts_at at m.0.0, m.0.1), have_places hs s m.1)
  have_places (h ∷ hs) s m = (tt, have_places hs s m.1)

  -- ---- frames

  module _ (few_locals : g.max_locals ≤ 65535) (few_stack : g.max_stack ≤ 65535) where
    one_writable : (f : TypeStateAt) → IsFine g f → AllByRecursion (HasPlace g.pool) (named_by f) → IsWritable g p f
    one_writable f fine stand =
        let both = both_parts (HasPlace g.pool) (class_names (values_in f.state.locals)) (class_names f.state.stack) stand in
        record {
          within = fine.at;
          starts = starts_at f.at fine.at;
          locals = fine.state.locals;
          paired = fine.state.paired;
          stack = fine.state.stack;
          few_locals = let e = fine.state.locals in omega (arith, e, few_locals);
          few_stack = let e = fine.state.few_stack in omega (arith, e, few_stack);
          local_places = have_places (values_in f.state.locals) both.0 (in_values (PlacedSo (HasNewAt g)) f.state.locals fine.state.local_places);
          stack_places = have_places f.state.stack both.1 fine.state.stack_places;
        }

    all_writable : (frames : List TypeStateAt) → AllByRecursion (IsFine g) frames → AllByRecursion (HasPlace g.pool) (named_by_all frames)
        → AllByRecursion (IsWritable g p) frames
    all_writable [] fine stand = tt
    all_writable (f ∷ frames) fine stand =
        let both = both_parts (HasPlace g.pool) (named_by f) (named_by_all frames) stand in
        (one_writable f fine.0 both.0, all_writable frames fine.1 both.1)

    module _ (names : Names) where
      offsets_rise : (from base : ℕ) (frames : List FrameAt) → ((j : ℕ) → from ≤ j → j < length g.code → base ≤ p.start j) → RiseFrom from frames
          → AllByRecursion (λ f. f.at < length g.code) frames → AreRising p base (map (type_state_at names) frames)
      offsets_rise from base [] above rises_so within = tt
      offsets_rise from base (f ∷ frames) above rises_so within = (
        above f.at rises_so.0 within.0,
        offsets_rise (f.at + 1) (p.start f.at + 1) frames
            (λ j le lt.
            let up = rises f.at j (omega (arith, le)) (omega (arith, lt)) in
            let here = start f.at in
            let there = start j in
            omega (arith, up, here, there))
            rises_so.1 within.1,
      )

      places_of : (frames : List FrameAt) → AllByRecursion (IsFine g) (map (type_state_at names) frames) → AllByRecursion (λ f. f.at < length g.code) frames
      places_of [] fine = tt
      places_of (f ∷ frames) fine = (fine.0.at, places_of frames fine.1)

      pub are_writable : (frames : List FrameAt) → RiseFrom 0 frames → AllByRecursion (IsFine g) (map (type_state_at names) frames)
          → AllByRecursion (HasPlace g.pool) (named_by_all (map (type_state_at names) frames)) → AreWritable g p (map (type_state_at names) frames)
      are_writable frames rises_so fine stand =
          let within = places_of frames fine in
          record {
            few =
                let most = few_frames 0 (length g.code) frames rises_so within (omega arith) in
                let count = length-map frames (type_state_at names) in
                let size_above = above_count (length g.code) (omega arith) in
                let end = starts.end in
                omega (arith, most, count, size_above, end, few);
            rising = offsets_rise 0 0 frames (λ j le lt. omega arith) rises_so within;
            each = all_writable (map (type_state_at names) frames) fine stand;
          }
        where
          above_count : (k : ℕ) → k ≤ length g.code → k ≤ get_or g.starts k 0
          above_count zero le = omega arith
          above_count (suc k) le =
              let before = above_count k (omega (arith, le)) in
              let up = rises k (suc k) (omega arith) le in
              omega (arith, before, up)
