-- The twin class that is written has a text of bytes.
use Rattle.std.proofs.Common.{◌≡◌, ◌⊎◌, inl, inr, ℕ, zero, suc, ◌+◌, ◌-◌, ◌<◌, ◌≤◌, pos, nat_le, Bool, true, false, List, [], ◌∷◌, ◌++◌, length, map, Option, Some, None, slice_get, refl, sym, ◌∙◌, ap, subst, arith, if◌then◌else◌, nat_eq, unwrap_or}
use Rattle.std.specs.Prelude.{codes}
use Rattle.std.specs.Int.{bytes_high_first, w32, w64, cast_signed}
use Rattle.std.proofs.lemmas.Int.{to_z_pos}
use Rattle.std.specs.List.{AllByRecursion}
use Rattle.std.proofs.lemmas.Bool.{cases_lt}
use Rattle.std.proofs.lemmas.Grind.{flat_map-append}
use Rattle.std.proofs.lemmas.List.Concat.{flat_map-cons}
use Rattle.std.proofs.lemmas.List.Elements.{recursion_from_All}
use Rattle.std.proofs.lemmas.Option.{none-some, same_Some, slice_get_within}
use Rattle.jc_methods.specs.declared.probe_members.Fetch.{Fetch}
use Rattle.jc_methods.specs.declared.probe_members.Fetch.TheVariants as fetches
use Rattle.jc_bytes.specs.ByteLists.{AreBytes}
use Rattle.jc_bytes.specs.Descriptor.{IsMethodDescriptor}
use Rattle.jc_methods.specs.VerificationTypes.{Names, TypeStateAt, type_state_at}
use Rattle.jc_bytes.specs.Reader.{most_read}
use Rattle.jc_bytes.specs.PlainLists.{map_from, numbers_from}
use Rattle.jc_methods.specs.WellMade.{IsWellMade, HasShortTexts, what_used}
use Rattle.jc_methods.specs.declared.body.Body.{Body}
use Rattle.jc_methods.specs.declared.body.Use.{Use}
use Rattle.jc_methods.specs.declared.body.What.{What}
use Rattle.jc_methods.specs.declared.body.What.TheVariants as whats
use Rattle.jc_methods.specs.declared.insn.Insn.{Insn}
use Rattle.jc_bytes.proofs.AppendingLaws.{big_spells}
use Rattle.jc_bytes.proofs.ListLaws.{all_at}
use Rattle.jc_class.specs.ClassId.{class_id}
use Rattle.jc_class.specs.ClassText.{ClassText}
use Rattle.jc_class.specs.Writable.{IsClassFile, IsAttribute, IsMember}
use Rattle.jc_class.specs.ClassFormat.{HasText, HasMethodDescriptor}
use Rattle.jc_class.specs.declared.class_file.Attribute.{Attribute}
use Rattle.jc_class.specs.declared.class_file.ClassFile.{ClassFile}
use Rattle.jc_class.specs.declared.class_file.Member.{Member}
use Rattle.jc_frames.specs.Frames.{first_before}
use Rattle.jc_frames.specs.FullTable.{named_by, named_by_all}
use Rattle.jc_frames.specs.Table.{StandsFor}
use Rattle.jc_body.specs.Attributes.{has_name}
use Rattle.jc_body.specs.BodyOf.{BodyOf, places_used}
use Rattle.jc_body.specs.StackMap.{ground_of, stack_maps, HasFrames}
use Rattle.jc_plan.proofs.CountLaws.{each_joined, each_mapped}
use Rattle.jc_methods.specs.ProbeMembers.{data_name, data_type, init_name, init_type, bootstrap_type, bootstraps_name, constant_type, runtime_class, fetch_name, fetch_type, fetch_of, most_probes, most_short}
use Rattle.jc_emit.specs.Shift.{probe_array_class}
use Rattle.jc_layout.specs.Layout.{chosen_length, chosen_text}
use Rattle.jc_instrument_code.specs.CodeText.{attribute}
use Rattle.jc_instrument_code.specs.TwinCode.{written_frames}
use Rattle.jc_plan.specs.Analysed.{all_probes}
use Rattle.jc_instrument.specs.Bodies.{AreBodiesOf}
use Rattle.jc_instrument.specs.Causes.{NoCause}
use Rattle.jc_instrument.specs.Changing.{AreShort, AreShortIn}
use Rattle.jc_instrument.specs.Constants.{AreConstants, probed_code}
use Rattle.jc_instrument.specs.Contents.{class_entry, integer_entry}
use Rattle.jc_instrument_reread.specs.Written.{fetch_method}
use Rattle.jc_bootstraps.specs.Bootstraps.{bootstrap_bodies, has_name as has_text}
use Rattle.jc_pool.specs.PoolGrammar as pools
use Rattle.jc_instrument.specs.declared.constants.ProbeConstants.{ProbeConstants}
use Rattle.jc_instrument.specs.Needed.{constant_needs, count_needs, early_list, early_needs, frame_needs, frames_needs, integer_needs, member_needs, name_of, place_list, signed_id}
use Rattle.jc_instrument.specs.Probing.{AreShortBelow}
use Rattle.jc_instrument.specs.RoomCauses.{HasTooLargeCode, IsFull, early_room_causes}
use Rattle.jc_instrument.specs.TwinText.{IsReadyFor, IsWritten, Writing, added_fields, code_with, constants_of, giver_in, init_member, init_places, needs_of, twin_class, twin_method, twin_methods, with_code, work_of}
use Rattle.jc_instrument.specs.BodiesWithStates.{BodyWithStates, bodies_of, all_frames, emitted_of}
use Rattle.jc_instrument.proofs.BodySizesLaws.{is_well_made, handlers_few, own_lines_few, own_vars_few, own_kind_vars_few}
use Rattle.jc_instrument_laws.proofs.ClassSpellingLaws.{Spelled, big_bytes_are, class_spelled}
use Rattle.jc_instrument_laws.proofs.CodeBytesLaws.{HasByte, spelled_byte, text_are}
use Rattle.jc_instrument_laws.proofs.NamedFramesLaws.{texts_both, written_small, written_texts}
use Rattle.jc_instrument_laws.proofs.NamedStatesLaws.{HasTexts, entry_named, frames_named, values_named}
use Rattle.jc_instrument_laws.proofs.NamedStepsLaws.{AreNamed, UseNamed, bytes_by}
use Rattle.jc_instrument_laws.proofs.AttributeBytesLaws.{FitsAttribute, attributes_fit, next_below}
use Rattle.jc_instrument_laws.proofs.PoolSpellingLaws.{IsPlain, IsPlainMember, IsSpelledInteger, IsSpelledLong, IsText, each_spelled, spelled_pool}
use Rattle.jc_instrument.proofs.PoolTextLaws.{IsReadPool, class_are, class_pool, class_short, utf8_are, utf8_short}
use Rattle.jc_instrument.proofs.ListedLaws.{body_at}
use Rattle.jc_instrument.proofs.ProbingLaws.{emission_code}
use Rattle.jc_instrument_laws.proofs.ReadCodeLaws.{AreReadItems, code_read, id_below, items_read, kept_are}
use Rattle.jc_class.proofs.ReadClassLaws.{IsOfBytes, IsReadClass, class_read}
use Rattle.jc_instrument.proofs.RoomDecidedLaws.{has_local_room, has_stack_room, short_code}
use Rattle.jc_instrument.proofs.SomeBodiesLaws.{AllBodies}
use Rattle.jc_instrument.proofs.SomeWorksLaws.{AllWorks}
use Rattle.jc_instrument.proofs.TakenNeedsLaws.{ready_constants}
use Rattle.jc_instrument.proofs.TextSizesLaws.{class_attributes_size, class_size, item_size, method_size}
use Rattle.jc_instrument.proofs.TwinFileLaws.{twin_is_class}
use Rattle.jc_instrument.proofs.TwinLaws.{same_outside}
use Rattle.jc_instrument_laws.proofs.UsedBytesLaws.{HasBytes, used_bytes}
use Rattle.jc_instrument_laws.proofs.WrittenBytesLaws.{added_fits, written_are}
use Rattle.jc_instrument_laws.proofs.WrittenSizesLaws.{written_few}

-- ---- lists

by_index : {X : Type 0} (P : X → Type 0) (xs : List X) → ((i : ℕ) (x : X) → slice_get xs i ≡ Some x → P x) → AllByRecursion P xs
by_index P [] each = tt
by_index P (x ∷ xs) each = (each 0 x refl, by_index P xs (λ i y at. each (suc i) y at))

-- ---- what is used

use_named : (what : What) → HasShortTexts what → HasBytes what → UseNamed what
use_named (whats.Field class name desc) short are = record { short = short.2; are = are }
use_named (whats.Method class name desc) short are = record { short = short.2; are = are }
use_named (whats.Call name desc) short are = record { short = short.1; are = are }
use_named (whats.Class name) short are = record { short = short; are = are }
use_named (whats.Computed name desc bootstrap) short are = record { short = short.1; are = are }
use_named what short are = tt

short_used : (uses : List Use) → AllByRecursion (λ u. HasShortTexts u.what) uses → (place : ℕ) (what : What) → what_used uses place ≡ Some what
    → HasShortTexts what
short_used [] all place what used = absurd (none-some what used)
short_used (u ∷ uses) all place what used = by (nat_eq u.place place) used (short_used uses all.1 place what)
  where
    by : (t : Bool) → (if t then Some u.what else what_used uses place) ≡ Some what → (what_used uses place ≡ Some what → HasShortTexts what)
        → HasShortTexts what
    by true here later = subst HasShortTexts (same_Some u.what what here) all.0
    by false there later = later there

array_text : IsText probe_array_class
array_text = record { short = omega arith; are = bytes_by probe_array_class refl }

-- ---- one body

module _ (bytes : List ℕ) (c : ClassFile) (text : ClassText bytes c) (is : IsClassFile c) (are : AreBytes bytes) (short : length bytes ≤ most_read)
    (none_room : NoCause (early_room_causes c ++ (HasTooLargeCode c ∷ []))) (all : AllBodies c) (of_class : AreBodiesOf c all.bodies)
    (w : AllWorks c all.bodies) (v : Writing) (ready : IsReadyFor (class_id bytes) w.names w.array w.works c v) (few : length v.pool ≤ 65535) where
  abbrev id : ℕ
  id = class_id bytes

  abbrev twin : ClassFile
  twin = twin_class w.names w.array c w.works v

  abbrev written : IsWritten id w.names w.array w.works c twin
  written = record { with = v; ready = ready; few = few; is = refl }

  abbrev constants : ProbeConstants
  constants = constants_of v

  abbrev count : ℕ
  count = all_probes (bodies_of w.works)

  read : IsReadPool c.pool
  read = class_pool bytes c are text

  given : IsReadClass c
  given = class_read bytes c are text

  loads : AreConstants c (all_probes all.bodies) v.bootstrap constants
  loads =
      subst (λ (l : List Body). AreConstants c (all_probes l) v.bootstrap constants) w.same
      (ready_constants id w.names w.array w.works c v ready)

  all_short : AreShortBelow constants (bodies_of w.works) (length (bodies_of w.works))
  all_short =
      subst (λ (l : List Body). AreShortBelow constants l (length l)) (sym w.same)
      (short_code c all.bodies of_class v.bootstrap constants loads none_room.1.1.1.1.1.1.0)

  few_probes : count ≤ most_probes
  few_probes = subst (λ (l : List Body). all_probes l ≤ most_probes) (sym w.same) (by (cases_lt most_probes (all_probes all.bodies)))
    where
      by : (most_probes < all_probes all.bodies) ⊎ (all_probes all.bodies ≤ most_probes) → all_probes all.bodies ≤ most_probes
      by (inl many) = absurd (none_room.1.0 _ (record { bodies = all.bodies; are = of_class; many = many; refusal = refl }))
      by (inr most) = most

  module _ (i : ℕ) (x : BodyWithStates) (at : slice_get w.works i ≡ Some x) where
    abbrev b : Body
    b = x.body

    body : BodyOf w.names c b.method b
    body = w.are.bodies.each i b (body_at w.works i x at)

    few_bytes : method_size body.method ≤ most_read
    few_bytes =
        let one = item_size method_size c.methods b.method body.method body.at in
        let size = class_size bytes c text in
        omega (arith, one, size, short)

    made : IsWellMade b
    made = is_well_made w.names c b.method body.method b read few_bytes body.is

    of_bytes : IsOfBytes body.method
    of_bytes = all_at IsOfBytes c.methods b.method body.method given.methods body.at

    code_bytes : AreReadItems body.is.coded.items
    code_bytes =
        items_read c.pool body.is.is.items.bytes body.is.coded.items
        (code_read c.pool body.method body.is.is.items.bytes of_bytes body.is.is.items.code) body.is.is.items.text.text

    described : HasMethodDescriptor c.pool body.method.desc
    described = (all_at (IsMember (HasText c.pool) (HasMethodDescriptor c.pool)) c.methods b.method body.method is.methods.each body.at).desc

    owner_text : IsText b.owner
    owner_text = record { short = made.of_any_size.sizes.owner; are = class_are c.pool read.each c.this_class b.owner body.is.parts.owner }

    frames_texts : (list : List TypeStateAt) → HasFrames c.pool b.owner body.method body.is.coded list → AllByRecursion (λ f. AreNamed f.state) list
    frames_texts list has = by has.frames_are
      where
        desc_text : IsText has.begins.desc
        desc_text = record {
          short = utf8_short c.pool read.small body.method.desc has.begins.desc has.begins.desc_is;
          are = utf8_are c.pool read.each body.method.desc has.begins.desc has.begins.desc_is;
        }

        method_described : IsMethodDescriptor has.begins.desc
        method_described = subst IsMethodDescriptor (same_Some described.0 has.begins.desc (sym described.1 ∙ has.begins.desc_is)) described.2

        entry : AreNamed has.entry
        entry = subst AreNamed (sym has.begins.entry_is)
            (entry_named b.owner has.begins.name has.begins.desc body.method.flags body.is.coded.items.max_locals owner_text desc_text method_described)

        by : ((stack_maps c.pool body.is.coded ≡ []) × (list ≡ []))
            ⊎ ((table : List ℕ) × (stack_maps c.pool body.is.coded ≡ table ∷ []) × StandsFor (ground_of c.pool body.is.coded) has.entry table list)
            → AllByRecursion (λ f. AreNamed f.state) list
        by (inl none) = subst (AllByRecursion (λ f. AreNamed f.state)) (sym none.1) tt
        by (inr (table, single, stands)) =
            frames_named (ground_of c.pool body.is.coded) read (first_before has.entry) stands.count stands.rest list
            (values_named has.entry.locals entry.locals) stands.are

    texts : HasTexts w.names b
    texts = record {
      owner = owner_text;
      desc = record {
        short = made.of_any_size.sizes.desc;
        are = utf8_are c.pool read.each body.method.desc b.desc body.is.parts.desc;
      };
      uses = λ place what used. use_named what
          (short_used b.uses (recursion_from_All (λ (u : Use). HasShortTexts u.what) b.uses made.of_any_size.uses.short) place what used)
          (used_bytes c.pool read (places_used body.is.coded.insns body.is.coded.items.rows) b.uses body.is.parts.uses place what used);
      frames = frames_texts (map (type_state_at w.names) b.frames) body.is.parts.frames;
    }

    few_locals : b.max_locals ≤ 65534
    few_locals = by (cases_lt 65534 b.max_locals)
      where
        by : (65534 < b.max_locals) ⊎ (b.max_locals ≤ 65534) → b.max_locals ≤ 65534
        by (inl more) =
            let same = body.is.parts.max_locals in
            let below = code_bytes.locals in
            absurd (has_local_room c is none_room.1.1.1.1.0 w.names b.method b body (omega (arith, more, same, below)))
        by (inr few) = few

    few_stack : b.max_stack ≤ 65532
    few_stack = has_stack_room c is none_room.1.1.1.1.1.0 w.names b.method b body

    short_here : chosen_length (probed_code constants b x.first) ≤ 65535
    short_here =
        let stands = body_at w.works i x at in
        subst (λ (n : ℕ). chosen_length (probed_code constants b n) ≤ 65535) (sym (w.are.each i x at).first)
        (all_short i b (slice_get_within (bodies_of w.works) i b stands) stands)

    text_fits : FitsAttribute (code_with w.names w.array v x)
    text_fits = record {
      few = written_few w.names b x.first x.states constants w.array made.bound few_locals few_stack short_here
          (each_mapped _ (λ (f : TypeStateAt). length f.state.locals + length f.state.stack ≤ b.max_locals + 1 + b.max_stack)
          (written_frames w.names (emitted_of constants w.array x)) (λ f small. small.count)
          (written_small w.names b made.of_any_size texts x.first x.states constants w.array (w.are.each i x at).states w.are.array_is array_text))
          (handlers_few w.names c b.method body.method b read few_bytes body.is)
          (own_lines_few w.names c b.method body.method b read few_bytes body.is)
          (own_vars_few w.names c b.method body.method b read few_bytes body.is)
          (own_kind_vars_few w.names c b.method body.method b read few_bytes body.is) v.pool v.fetch (giver_in constants v.places)
          v.places.array v.places.frames;
      are = written_are v.pool v.fetch (giver_in constants v.places) v.places.array v.places.frames w.names (emitted_of constants w.array x)
          (subst (λ (code : List Insn). AreBytes (chosen_text code)) (sym (emission_code constants b x.first x.states w.array))
          (text_are constants b x.first
          (subst (AllByRecursion HasByte) (sym body.is.parts.code)
          (spelled_byte body.is.coded.items.code body.is.coded.insns body.is.coded.starts code_bytes.code body.is.is.spelled)) made.of_any_size));
    }

    frame_texts : AllByRecursion IsText (named_by_all (written_frames w.names (emitted_of constants w.array x)))
    frame_texts = written_texts w.names b made.of_any_size texts x.first x.states constants w.array (w.are.each i x at).states w.are.array_is array_text

  -- ---- the methods

  -- flags of two bytes, and attributes that hold what they can
  record IsFit (m : Member) : Type 0 where
    flags : m.flags < 65536
    attributes : AllByRecursion (λ a. FitsAttribute a.body) m.attributes

  given_fits : (l : List Attribute) → AllByRecursion (IsAttribute (HasText c.pool)) l → AllByRecursion (λ a. AreBytes a.body) l
      → AllByRecursion (λ a. FitsAttribute a.body) l
  given_fits [] sized of = tt
  given_fits (a ∷ l) sized of = (record { few = sized.0.size; are = of.0 }, given_fits l sized.1 of.1)

  methods_fit : (l : List Member) → AllByRecursion (IsMember (HasText c.pool) (HasMethodDescriptor c.pool)) l → AllByRecursion IsOfBytes l
      → AllByRecursion IsFit l
  methods_fit [] sized of = tt
  methods_fit (m ∷ l) sized of =
      (record { flags = of.0.flags; attributes = given_fits m.attributes sized.0.attributes.each of.0.attributes }, methods_fit l sized.1 of.1)

  module _ (code : BodyWithStates → List ℕ) (fits : AllByRecursion (λ x. FitsAttribute (code x)) w.works) where
    found_fits : (works : List BodyWithStates) → AllByRecursion (λ x. FitsAttribute (code x)) works → (number : ℕ) (x : BodyWithStates) → work_of number works ≡ Some x
        → FitsAttribute (code x)
    found_fits [] each number x found = absurd (none-some x found)
    found_fits (y ∷ works) each number x found = by (nat_eq y.body.method number) found (found_fits works each.1 number x)
      where
        by : (t : Bool) → (if t then Some y else work_of number works) ≡ Some x → (work_of number works ≡ Some x → FitsAttribute (code x))
            → FitsAttribute (code x)
        by true here later = subst (λ (z : BodyWithStates). FitsAttribute (code z)) (same_Some y x here) each.0
        by false there later = later there

    put_fits : (put : List ℕ) (l : List Attribute) → FitsAttribute put → AllByRecursion (λ a. FitsAttribute a.body) l
        → AllByRecursion (λ a. FitsAttribute a.body) (map (with_code c.pool put) l)
    put_fits put [] fit old = tt
    put_fits put (a ∷ l) fit old = (by (has_name c.pool (codes "Code") a), put_fits put l fit old.1)
      where
        by : (t : Bool) → FitsAttribute (if t then attribute a.name put else a).body
        by true = fit
        by false = old.0

    method_fits : (m : Member) (o : Option BodyWithStates) → ((x : BodyWithStates) → o ≡ Some x → FitsAttribute (code x)) → IsFit m → IsFit (twin_method c.pool code m o)
    method_fits m None each fit = fit
    method_fits m (Some x) each fit = record { flags = fit.flags; attributes = put_fits (code x) m.attributes (each x refl) fit.attributes }

    all_fit : (number : ℕ) (l : List Member) → AllByRecursion IsFit l
        → AllByRecursion IsFit (map_from (λ n m. twin_method c.pool code m (work_of n w.works)) number l)
    all_fit number [] old = tt
    all_fit number (m ∷ l) old =
        (method_fits m (work_of number w.works) (λ x found. found_fits w.works fits number x found) old.0, all_fit (number + 1) l old.1)

  short_of : (l : List Attribute) → AllByRecursion (λ a. FitsAttribute a.body) l → AreShort l
  short_of [] each = tt
  short_of (a ∷ l) each = (each.0.few, short_of l each.1)

  bytes_of : (l : List Attribute) → AllByRecursion (λ a. FitsAttribute a.body) l → AllByRecursion (λ a. AreBytes a.body) l
  bytes_of [] each = tt
  bytes_of (a ∷ l) each = (each.0.are, bytes_of l each.1)

  short_in : (l : List Member) → AllByRecursion IsFit l → AreShortIn l
  short_in [] each = tt
  short_in (m ∷ l) each = (short_of m.attributes each.0.attributes, short_in l each.1)

  bytes_in : (l : List Member) → AllByRecursion IsFit l → AllByRecursion IsOfBytes l
  bytes_in [] each = tt
  bytes_in (m ∷ l) each = (record { flags = each.0.flags; attributes = bytes_of m.attributes each.0.attributes }, bytes_in l each.1)

  -- ---- what the pool takes

  works_texts : (works : List BodyWithStates) → AllByRecursion (λ x. AllByRecursion IsText (named_by_all (written_frames w.names (emitted_of constants w.array x)))) works
      → AllByRecursion IsText (named_by_all (all_frames w.names constants w.array works))
  works_texts [] each = tt
  works_texts (x ∷ works) each =
      let frames : BodyWithStates → List TypeStateAt = λ y. written_frames w.names (emitted_of constants w.array y) in
      subst (AllByRecursion IsText)
      (sym (ap named_by_all (flat_map-cons frames x works) ∙ flat_map-append named_by (frames x) (all_frames w.names constants w.array works)))
      (texts_both (named_by_all (frames x)) (named_by_all (all_frames w.names constants w.array works)) each.0 (works_texts works each.1))

  classes_plain : (names : Names) → AllByRecursion IsText names → AllByRecursion IsPlain (map class_entry names)
  classes_plain [] each = tt
  classes_plain (name ∷ names) each = (each.0, classes_plain names each.1)

  literal : (text : List ℕ) → length text ≤ 65535 → AreBytes text → IsText text
  literal text few of = record { short = few; are = of }

  name_text : IsText (name_of c)
  name_text =
      subst IsText (sym (ap (λ (o : Option (List ℕ)). unwrap_or o []) is.this_class.1))
      (record { short = class_short c.pool read.small c.this_class is.this_class.0 is.this_class.1; are = class_are c.pool read.each c.this_class is.this_class.0 is.this_class.1 })

  long_spelled : IsSpelledLong (signed_id (class_id bytes))
  long_spelled =
      let below = id_below bytes are in
      let big = big_spells 8 (class_id bytes) (omega (arith, below)) in
      record {
        text = bytes_high_first 8 (class_id bytes);
        spells = record { size = big.size; value_is = ap (cast_signed w64) big.value };
        are = big_bytes_are 8 (class_id bytes);
      }

  -- the Integers of small numbers
  integer_spelled : (n : ℕ) → n < 65536 → IsSpelledInteger (pos n)
  integer_spelled n below =
      let big = big_spells 4 n (omega (arith, below)) in
      record {
        text = bytes_high_first 4 n;
        spells = record { size = big.size; value_is = ap (cast_signed w32) big.value ∙ to_z_pos w32 n (omega (arith, below)) };
        are = big_bytes_are 4 n;
      }

  integers_plain : (first many : ℕ) → first + many ≤ 65536 → AllByRecursion IsPlain (map (λ id. integer_entry (pos id)) (numbers_from first many))
  integers_plain first zero below = tt
  integers_plain first (suc many) below = (integer_spelled first (omega (arith, below)), integers_plain (first + 1) many (omega (arith, below)))

  bootstrap_below : v.bootstrap < 65536
  bootstrap_below =
      next_below v.fetch (bootstrap_bodies c.pool c.attributes) v.bootstrap
      (kept_are (has_text c.pool bootstraps_name) c.attributes given.attributes) ready.gets.bootstrap_is

  constant_plain : (fetch : Fetch) → AllByRecursion IsPlain (constant_needs fetch v.bootstrap)
  constant_plain fetches.Member = tt
  constant_plain fetches.Constant = (
    (
      bootstrap_below,
      (literal data_name (omega arith) (bytes_by data_name refl), literal constant_type (omega arith) (bytes_by constant_type refl)),
    ),
    tt,
  )

  count_plain : AllByRecursion IsPlain (count_needs count)
  count_plain = by (nat_le count most_short)
    where
      by : (t : Bool) → AllByRecursion IsPlain (if t then [] else integer_entry (pos count) ∷ [])
      by true = tt
      by false = let few = few_probes in (integer_spelled count (omega (arith, few)), tt)

  text_plain : (frames : List TypeStateAt) → AllByRecursion IsPlain (frames_needs frames)
  text_plain [] = tt
  text_plain (frame ∷ frames) = (literal (codes "StackMapTable") (omega arith) (bytes_by (codes "StackMapTable") refl), tt)

  members_plain : (fetch : Fetch) (frames : List TypeStateAt) → AllByRecursion IsPlain (member_needs fetch (name_of c) (signed_id id) count frames)
  members_plain fetch frames = by fetch
    where
      data_name_text : IsText data_name
      data_name_text = literal data_name (omega arith) (bytes_by data_name refl)

      data_type_text : IsText data_type
      data_type_text = literal data_type (omega arith) (bytes_by data_type refl)

      init_name_text : IsText init_name
      init_name_text = literal init_name (omega arith) (bytes_by init_name refl)

      init_type_text : IsText init_type
      init_type_text = literal init_type (omega arith) (bytes_by init_type refl)

      bootstrap_type_text : IsText bootstrap_type
      bootstrap_type_text = literal bootstrap_type (omega arith) (bytes_by bootstrap_type refl)

      fetch_plain : IsPlainMember fetch_method
      fetch_plain = (
        literal runtime_class (omega arith) (bytes_by runtime_class refl),
        literal fetch_name (omega arith) (bytes_by fetch_name refl),
        literal fetch_type (omega arith) (bytes_by fetch_type refl),
      )

      code_text : IsText (codes "Code")
      code_text = literal (codes "Code") (omega arith) (bytes_by (codes "Code") refl)

      by : (f : Fetch) → AllByRecursion IsPlain (member_needs f (name_of c) (signed_id id) count frames)
      by fetches.Member = (
        data_name_text,
        (
          data_type_text,
          (
            init_name_text,
            (
              init_type_text,
              (
                (name_text, data_name_text, data_type_text),
                (
                  (name_text, init_name_text, init_type_text),
                  (
                    fetch_plain,
                    (
                      code_text,
                      (
                        literal (codes "StackMapTable") (omega arith) (bytes_by (codes "StackMapTable") refl),
                        (long_spelled, (name_text, (data_type_text, count_plain))),
                      ),
                    ),
                  ),
                ),
              ),
            ),
          ),
        ),
      )
      by fetches.Constant = (
        init_name_text,
        (
          bootstrap_type_text,
          (
            (omega arith, ((omega arith, omega arith), (name_text, init_name_text, bootstrap_type_text))),
            (
              fetch_plain,
              (
                code_text,
                (
                  literal bootstraps_name (omega arith) (bytes_by bootstraps_name refl),
                  (
                    long_spelled,
                    (
                      name_text,
                      (data_type_text, each_joined IsPlain (count_needs count) (frames_needs frames) count_plain (text_plain frames)),
                    ),
                  ),
                ),
              ),
            ),
          ),
        ),
      )

  all_plain : AllByRecursion IsPlain (needs_of id w.names w.array c w.works v)
  all_plain =
      let frames = all_frames w.names constants w.array w.works in
      let owner = name_of c in
      let few = few_probes in
      each_joined IsPlain (early_needs v.fetch v.bootstrap count) (member_needs v.fetch owner (signed_id id) count frames ++ frame_needs frames)
      (each_joined IsPlain (constant_needs v.fetch v.bootstrap) (integer_needs count) (constant_plain v.fetch)
      (integers_plain (most_short + 1) (count - (most_short + 1)) (omega (arith, few))))
      (each_joined IsPlain (member_needs v.fetch owner (signed_id id) count frames) (frame_needs frames) (members_plain v.fetch frames)
      (classes_plain (named_by_all frames)
      (works_texts w.works (by_index (λ x. AllByRecursion IsText (named_by_all (written_frames w.names (emitted_of constants w.array x)))) w.works frame_texts))))

  -- ---- the class

  init : IsFit (init_member v.fetch v.places count)
  init =
      let fits = added_fits v.fetch (init_places v.places) v.places.frames v.places.array count in
      record { flags = omega arith; attributes = (record { few = fits.1; are = fits.0 }, tt) }

  fit : AllByRecursion IsFit twin.methods
  unfolding twin_class
  fit =
      let code : BodyWithStates → List ℕ = code_with w.names w.array v in
      each_joined IsFit (twin_methods c.pool code w.works c.methods) (init_member v.fetch v.places count ∷ [])
      (all_fit code (by_index (λ x. FitsAttribute (code x)) w.works text_fits) 0 c.methods (methods_fit c.methods is.methods.each given.methods)) (init, tt)

  attributes_here : AllByRecursion (λ a. FitsAttribute a.body) twin.attributes
  unfolding twin_class
  attributes_here =
      let size = class_attributes_size bytes c text in
      attributes_fit v.fetch c.pool v.bootstrap v.places c.attributes (omega (arith, size, short)) given.attributes

  added_fields_are : (fetch : Fetch) → AllByRecursion IsOfBytes (added_fields fetch v.places)
  added_fields_are fetches.Member = (record { flags = omega arith; attributes = tt }, tt)
  added_fields_are fetches.Constant = tt

  fields_are : AllByRecursion IsOfBytes twin.fields
  unfolding twin_class
  fields_are = each_joined IsOfBytes c.fields (added_fields v.fetch v.places) given.fields (added_fields_are v.fetch)

  pool_spelled : Spelled pools.pool v.pool
  pool_spelled =
      let frames = all_frames w.names constants w.array w.works in
      spelled_pool v.pool few
      (each_spelled (needs_of id w.names w.array c w.works v) c.pool v.pool
      (early_list v.fetch v.early ++ (place_list v.fetch count frames v.places ++ ready.takes.class_places)) all_plain few ready.takes.takes
      (record { is = read.is; each = read.each }))

  room : IsFull (fetch_of c.major) c → ⊥
  room full = none_room.1.1.0 _ (record { full = full; refusal = refl })

  twin_is : IsClassFile twin
  twin_is =
      twin_is_class id v.bootstrap (needs_of id w.names w.array c w.works v) count c twin is room none_room.1.1.1.0
      (same_outside id w.names w.array w.works c twin written) (short_in twin.methods fit) (short_of twin.attributes attributes_here)

  pub twin_text : (text : List ℕ) × ClassText text twin × AreBytes text
  unfolding twin_class
  twin_text = class_spelled twin twin_is (record {
    minor = given.minor;
    major = given.major;
    flags = given.flags;
    few = few;
    pool = pool_spelled;
    fields = fields_are;
    methods = bytes_in twin.methods fit;
    attributes = bytes_of twin.attributes attributes_here;
  })
