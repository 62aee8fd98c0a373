-- Full frames are read back as they were written.
use Rattle.std.proofs.Common.{◌≡◌, ℕ, ◌+◌, ◌-◌, ◌<◌, ◌≤◌, Bool, true, false, ◌&&◌, List, [], ◌∷◌, ◌++◌, length, map, Some, None, option_map, if◌then◌else◌, nat_le, refl, sym, ◌∙◌, ap, ap₂, arith}
use Rattle.std.proofs.lemmas.List.{append-nil}
use Rattle.std.proofs.lemmas.Bool.{lt-ltb, le-leb}
use Rattle.std.specs.List.{AllByRecursion, flat_map, slice_get}
use Rattle.jc_bytes.specs.Counted.{counted}
use Rattle.jc_bytes.specs.Decoder.{IsBig}
use Rattle.jc_bytes.specs.Grammar.{times}
use Rattle.jc_bytes.proofs.AppendingLaws.{big_spells}
use Rattle.jc_bytes.specs.BigNumbers.{short}
use Rattle.jc_methods.specs.Starts.{insn_number}
use Rattle.jc_methods.specs.VerificationTypes.{VerificationType, top, int, float, double, long, null, uninit_this, object, uninit, TypeStateAt, slots}
use Rattle.jc_methods.specs.EntryState.{in_locals}
use Rattle.jc_frames.specs.declared.items.TypeItem.{TypeItem}
use Rattle.jc_frames.specs.declared.items.TypeItem.TheVariants as types
use Rattle.jc_frames.specs.declared.items.FrameItem.{FrameItem}
use Rattle.jc_frames.specs.declared.items.FrameItem.TheVariants as frames
use Rattle.jc_frames.specs.TableForm.{type_item, frame_item}
use Rattle.jc_frames.specs.Frames.{Ground, Before, first_before, trimmed, values_in, is_new, type_of, in_front, types_of, is_start, found, fits_slots, found_if, frame_of}
use Rattle.jc_frames.specs.Table.{AreFrames}
use Rattle.jc_frames.specs.FullFrames.{Places, type_text, types_text, full_text, full_texts, HasPlaces, IsWritable, AreRising, FullFramesReadBack}
use Rattle.jc_frames.proofs.ValuesLaws.{values_back, few_slots, values_few, trimmed_few}

-- ---- types

abbrev pub item_of : Places → VerificationType → TypeItem
item_of p top = types.Top
item_of p int = types.Int
item_of p float = types.Float
item_of p double = types.Double
item_of p long = types.Long
item_of p null = types.Null
item_of p uninit_this = types.UninitThis
item_of p (object name) = types.Object (p.class name)
item_of p (uninit at) = types.Uninit (p.start at)

short_spells : (x : ℕ) → x < 65536 → IsBig 2 (short x) x
unfolding short
short_spells x few = big_spells 2 x few

tag_spells : (tag : ℕ) → tag < 256 → IsBig 1 (tag ∷ []) tag
tag_spells tag few = record { size = refl; value = one tag }
  where
    one : (x : ℕ) → Rattle.byteorder.specs.Endian.big_number 1 (x ∷ []) ≡ x
    one x = omega arith

module _ (g : Ground) (p : Places) where
  type_spelled : (h : VerificationType) → HasPlaces g p h → type_item.Text (type_text p h) (item_of p h)
  unfolding type_item
  type_spelled top has = (0, 0 ∷ [], [], refl, tag_spells 0 (omega arith), (refl, refl))
  type_spelled int has = (1, 1 ∷ [], [], refl, tag_spells 1 (omega arith), (refl, refl))
  type_spelled float has = (2, 2 ∷ [], [], refl, tag_spells 2 (omega arith), (refl, refl))
  type_spelled double has = (3, 3 ∷ [], [], refl, tag_spells 3 (omega arith), (refl, refl))
  type_spelled long has = (4, 4 ∷ [], [], refl, tag_spells 4 (omega arith), (refl, refl))
  type_spelled null has = (5, 5 ∷ [], [], refl, tag_spells 5 (omega arith), (refl, refl))
  type_spelled uninit_this has = (6, 6 ∷ [], [], refl, tag_spells 6 (omega arith), (refl, refl))
  type_spelled (object name) has = (
    7,
    7 ∷ [],
    short (p.class name),
    refl,
    tag_spells 7 (omega arith),
    (p.class name, short (p.class name), [], sym (append-nil (short (p.class name))), short_spells (p.class name) has.0, (refl, refl)),
  )
  type_spelled (uninit at) has = (
    8,
    8 ∷ [],
    short (p.start at),
    refl,
    tag_spells 8 (omega arith),
    (p.start at, short (p.start at), [], sym (append-nil (short (p.start at))), short_spells (p.start at) has.0.few, (refl, refl)),
  )

  times_spelled : (hs : List VerificationType) → AllByRecursion (HasPlaces g p) hs → (times (length hs) type_item).Text (flat_map (type_text p) hs) (map (item_of p) hs)
  times_spelled [] all = (refl, refl)
  times_spelled (h ∷ hs) all = (
    item_of p h,
    type_text p h,
    flat_map (type_text p) hs,
    refl,
    type_spelled h all.0,
    (map (item_of p) hs, flat_map (type_text p) hs, [], sym (append-nil (flat_map (type_text p) hs)), times_spelled hs all.1, (refl, refl)),
  )

  types_spelled : (hs : List VerificationType) → length hs < 65536 → AllByRecursion (HasPlaces g p) hs → (counted type_item).Text (types_text p hs) (map (item_of p) hs)
  types_spelled hs few all = (length hs, short (length hs), flat_map (type_text p) hs, refl, short_spells (length hs) few, times_spelled hs all)

  type_says : (h : VerificationType) → HasPlaces g p h → type_of g (item_of p h) ≡ Some h
  type_says (object name) has = ap (option_map object) has.1
  type_says (uninit at) has =
      ap (λ (k : ℕ). if is_new (slice_get g.code k) then Some (uninit k) else None) has.0.number
      ∙ ap (λ (b : Bool). if b then Some (uninit at) else None) has.1
  type_says h has = refl

  types_say : (hs : List VerificationType) → AllByRecursion (HasPlaces g p) hs → types_of g (map (item_of p) hs) ≡ Some hs
  types_say [] all = refl
  types_say (h ∷ hs) all = ap₂ (λ o q. in_front o q) (type_says h all.0) (types_say hs all.1)

  -- ---- frames

  abbrev pub full_item : ℕ → TypeStateAt → FrameItem
  full_item base f = frames.Full (p.start f.at - base) (map (item_of p) (values_in f.state.locals)) (map (item_of p) f.state.stack)

  full_spelled : (base : ℕ) (f : TypeStateAt) → IsWritable g p f → frame_item.Text (full_text p base f) (full_item base f)
  unfolding frame_item
  full_spelled base f w =
      let delta = p.start f.at - base in
      let values = values_in f.state.locals in
      let start = w.starts.few in
      let many = w.few_locals in
      let a = values_few false (trimmed f.state.locals) in
      let b = trimmed_few f.state.locals in
      let few : length values < 65536 = omega (arith, a, b, many) in (
        255,
        255 ∷ [],
        short delta ++ (types_text p values ++ types_text p f.state.stack),
        refl,
        tag_spells 255 (omega arith),
        (
          delta,
          short delta,
          types_text p values ++ types_text p f.state.stack,
          refl,
          short_spells delta (omega (arith, start)),
          (
            map (item_of p) values,
            types_text p values,
            types_text p f.state.stack,
            refl,
            types_spelled values few w.local_places,
            (map (item_of p) f.state.stack, types_text p f.state.stack, [], sym (append-nil (types_text p f.state.stack)), types_spelled f.state.stack w.few_stack w.stack_places, (refl, refl)),
          ),
        ),
      )

  pub says_full : (before : Before) (f : TypeStateAt) → before.base ≤ p.start f.at → IsWritable g p f
      → frame_of g before (full_item before.base f) ≡ Some (record { frame = f; next = record { base = p.start f.at + 1; values = values_in f.state.locals } })
  unfolding frame_of
  says_full before f le w =
      let values = values_in f.state.locals in
      let offset : before.base + (p.start f.at - before.base) ≡ p.start f.at = omega (arith, le) in
      ap (λ (k : ℕ). found_if g k (types_of g (map (item_of p) values)) (types_of g (map (item_of p) f.state.stack))) offset
      ∙ ap₂ (λ o q. found_if g (p.start f.at) o q) (types_say values w.local_places) (types_say f.state.stack w.stack_places)
      ∙ ap (λ (b : Bool). if b then Some (found g (p.start f.at) values f.state.stack) else None) tests
      ∙ ap₂ (λ (at : ℕ) (locals : List VerificationType). Some
      (record {
        frame = record { at = at; state = record { locals = locals; stack = f.state.stack } };
        next = record { base = p.start f.at + 1; values = values };
      })) w.starts.number locals
    where
      locals : in_locals g.max_locals (values_in f.state.locals) ≡ f.state.locals
      locals = ap (λ (n : ℕ). in_locals n (values_in f.state.locals)) (sym w.locals) ∙ values_back f.state.locals w.paired

      begins : is_start g (p.start f.at) ≡ true
      begins = lt-ltb (insn_number g.starts (p.start f.at)) (length g.code) (let e = w.starts.number in let lt = w.within in omega (arith, e, lt))

      room : nat_le (slots (values_in f.state.locals)) g.max_locals ≡ true
      room = le-leb (slots (values_in f.state.locals)) g.max_locals (let a = few_slots f.state.locals w.paired in let e = w.locals in omega (arith, a, e))

      tests : (is_start g (p.start f.at) && fits_slots g (values_in f.state.locals) f.state.stack) ≡ true
      tests = rw (begins, room, le-leb (slots f.state.stack) g.max_stack w.stack) refl

  each_full : (before : Before) (frames : List TypeStateAt) → AreRising p before.base frames → AllByRecursion (IsWritable g p) frames
      → AreFrames g before (length frames) (full_texts p before.base frames) frames
  each_full before [] rising each = (refl, refl)
  each_full before (f ∷ frames) rising each =
      let next : Before = record { base = p.start f.at + 1; values = values_in f.state.locals } in (
        full_texts p (p.start f.at + 1) frames,
        record { frame = f; next = next },
        frames,
        refl,
        record { item = full_item before.base f; front = full_text p before.base f; parts = refl; text = full_spelled before.base f each.0; says = says_full before f rising.0 each.0 },
        each_full next frames rising.1 each.1,
      )

pub read_back : FullFramesReadBack
read_back g p entry frames w = record {
  count = length frames;
  front = short (length frames);
  rest = full_texts p 0 frames;
  parts = refl;
  counted = short_spells (length frames) w.few;
  are = each_full g p (first_before entry) frames w.rising w.each;
}
