-- A class has one twin class, and its bytes one instrumented class file, whatever the names with which its bodies are read.
use Rattle.std.proofs.Common.{◌≡◌, ◌⊎◌, inl, inr, ⊎_elim, ℕ, Bool, true, false, nat_le, List, [], ◌∷◌, ◌++◌, map, drop, get_or, Some, refl, sym, ◌∙◌, ap, subst, nat_eq, if◌then◌else◌}
use Rattle.std.specs.List.{AllByRecursion, AllZip, flat_map}
use Rattle.std.proofs.lemmas.List.{append-nil}
use Rattle.std.proofs.lemmas.List.Concat.{flat_map-cons}
use Rattle.std.proofs.lemmas.Option.{same_Some}
use Rattle.jc_methods.specs.Opcode as opcode
use Rattle.jc_methods.specs.ProbeMembers.{data_flags, init_flags, most_short}
use Rattle.jc_methods.specs.declared.probe_members.Fetch.{Fetch}
use Rattle.jc_methods.specs.declared.probe_members.Fetch.TheVariants as fetches
use Rattle.jc_methods.specs.VerificationTypes.{Names, TypeStateAt}
use Rattle.jc_bytes.specs.BigNumbers.{short}
use Rattle.jc_bytes.specs.PlainLists.{map_from}
use Rattle.jc_bytes.specs.declared.refusal.Refusal.{Refusal}
use Rattle.jc_pool.specs.Lookup.{class_name_of}
use Rattle.jc_pool.specs.Pool.{PoolValue}
use Rattle.jc_class.specs.ClassId.{class_id}
use Rattle.jc_class.specs.ClassText.{ClassText}
use Rattle.jc_class.specs.declared.class_file.Attribute.{Attribute}
use Rattle.jc_class.specs.declared.class_file.ClassFile.{ClassFile}
use Rattle.jc_class.specs.declared.class_file.Member.{Member}
use Rattle.jc_class.proofs.FirstBadLaws.{one_class_of}
use Rattle.jc_class.proofs.OneClassLaws.{one_class}
use Rattle.jc_bootstraps.specs.Bootstraps.{bootstrap_bodies}
use Rattle.jc_emit.specs.Added.{init_stack}
use Rattle.jc_plan.specs.Analysed.{all_probes}
use Rattle.jc_instrument_code.specs.CodeText.{attribute, code_text}
use Rattle.jc_instrument_code.specs.InitText.{added_text, bootstrap_bytes, count_text, init_bytes, init_frames, push_count}
use Rattle.jc_instrument_code.specs.TwinCode.{twin_code, written_frames}
use Rattle.jc_instrument.specs.InstrumentedFile.{Becomes, HasProbes, IsAsGiven, IsInstrumentedFile}
use Rattle.jc_instrument.specs.LeftAlone.{is_left_alone}
use Rattle.jc_instrument.specs.Needed.{count_places, frames_list, place_list}
use Rattle.jc_instrument.specs.Refused.{Reason, probe_causes}
use Rattle.jc_instrument.specs.TwinText.{IsReadyFor, IsWritten, Writing, added_fields, constants_of, giver_by, init_member, init_places, new_attribute, twin_attributes, twin_class, twin_method, twin_methods, with_bootstrap_at, with_code, work_of}
use Rattle.jc_instrument.specs.BodiesWithStates.{BodyWithStates, AreBodiesWithStates, all_frames, bodies_of, emitted_of}
use Rattle.jc_instrument.specs.declared.constants.ProbeConstants.{ProbeConstants}
use Rattle.jc_instrument.specs.declared.needs.MemberPlaces.{MemberPlaces}
use Rattle.jc_instrument.specs.declared.whole.Instrumented.{Instrumented}
use Rattle.jc_instrument.proofs.FramesAskedLaws.{without_frames}
use Rattle.jc_instrument.proofs.FullPoolLaws.{bootstrap_same, constants_same, count_same, fetch_same, frames_same, one_probe_count, places_same, pool_same}
use Rattle.jc_instrument.proofs.OneReasonLaws.{none_or_some}
use Rattle.jc_instrument.proofs.SameEmissionLaws.{same_twin_code}
use Rattle.jc_instrument.proofs.SameWorksLaws.{IsSameWork, same_works}

-- ---- its methods

module _ (constants : ProbeConstants) (names others : Names) (array other : ℕ) (old : PoolValue) (code code_too : BodyWithStates → List ℕ)
    (codes_same : (w x : BodyWithStates) → IsSameWork constants names others array other w x → code w ≡ code_too x) where
  one_method : (number : ℕ) (method : Member) (works more : List BodyWithStates) → AllZip (IsSameWork constants names others array other) works more
      → twin_method old code method (work_of number works) ≡ twin_method old code_too method (work_of number more)
  one_method number method [] [] same = refl
  one_method number method [] (x ∷ more) same = absurd same
  one_method number method (w ∷ works) [] same = absurd same
  one_method number method (w ∷ works) (x ∷ more) same =
      ap (λ (n : ℕ). twin_method old code method (if nat_eq n number then Some w else work_of number works)) same.0.method
      ∙ by (nat_eq x.body.method number) (one_method number method works more same.1)
    where
      by : (t : Bool) → twin_method old code method (work_of number works) ≡ twin_method old code_too method (work_of number more)
          → twin_method old code method (if t then Some w else work_of number works)
          ≡ twin_method old code_too method (if t then Some x else work_of number more)
      by true later = ap (λ (bytes : List ℕ). record method { attributes = map (with_code old bytes) method.attributes }) (codes_same w x same.0)
      by false later = later

  one_methods : (works more : List BodyWithStates) → AllZip (IsSameWork constants names others array other) works more → (methods : List Member)
      → twin_methods old code works methods ≡ twin_methods old code_too more methods
  one_methods works more same methods = λ i. map_from (λ number method. one_method number method works more same i) 0 methods

-- texts that are the same for each of the works
module _ (old : PoolValue) (code code_too : BodyWithStates → List ℕ) where
  one_text : (works : List BodyWithStates) → AllByRecursion (λ w. code w ≡ code_too w) works → (number : ℕ) (method : Member)
      → twin_method old code method (work_of number works) ≡ twin_method old code_too method (work_of number works)
  one_text [] same number method = refl
  one_text (w ∷ works) same number method = by (nat_eq w.body.method number) (one_text works same.1 number method)
    where
      by : (t : Bool) → twin_method old code method (work_of number works) ≡ twin_method old code_too method (work_of number works)
          → twin_method old code method (if t then Some w else work_of number works) ≡ twin_method old code_too method (if t then Some w else work_of number works)
      by true later = ap (λ (bytes : List ℕ). record method { attributes = map (with_code old bytes) method.attributes }) same.0
      by false later = later

  each_text : (works : List BodyWithStates) → AllByRecursion (λ w. code w ≡ code_too w) works → (methods : List Member)
      → twin_methods old code works methods ≡ twin_methods old code_too works methods
  each_text works same methods = λ i. map_from (λ number method. one_text works same number method i) 0 methods

-- ---- places of what the members need

-- the push of the number of probes is the same, where its Integer stands at one place or isn't needed
one_push : (count a b : ℕ) (more others : List ℕ) → count_places count a ++ more ≡ count_places count b ++ others → count_text a count ≡ count_text b count
one_push count a b more others same = by (nat_le count most_short) same
  where
    by : (t : Bool) → (if t then [] else a ∷ []) ++ more ≡ (if t then [] else b ∷ []) ++ others
        → (if t then push_count count else opcode.ldc_w ∷ short a) ≡ (if t then push_count count else opcode.ldc_w ∷ short b)
    by true same = refl
    by false same = ap (λ (l : List ℕ). opcode.ldc_w ∷ short (get_or l 0 0)) same

-- behind it
one_rest : (count a b : ℕ) (more others : List ℕ) → count_places count a ++ more ≡ count_places count b ++ others → more ≡ others
one_rest count a b more others same = by (nat_le count most_short) same
  where
    by : (t : Bool) → (if t then [] else a ∷ []) ++ more ≡ (if t then [] else b ∷ []) ++ others → more ≡ others
    by true same = same
    by false same = ap (drop 1) same

module _ (count : ℕ) (frames : List TypeStateAt) (p q : MemberPlaces) where
  abbrev AreSame : Fetch → Type 0
  AreSame fetch = place_list fetch count frames p ≡ place_list fetch count frames q

  fields_same : (fetch : Fetch) → AreSame fetch → added_fields fetch p ≡ added_fields fetch q
  fields_same fetches.Member same = λ i. record { flags = data_flags; name = get_or (same i) 0 0; desc = get_or (same i) 1 0; attributes = [] } ∷ []
  fields_same fetches.Constant same = refl

  giver_same : (fetch : Fetch) (constant : ℕ) → AreSame fetch → giver_by fetch constant p.method ≡ giver_by fetch constant q.method
  giver_same fetches.Member constant same = ap (λ (l : List ℕ). get_or l 5 0) same
  giver_same fetches.Constant constant same = refl

  array_same : (fetch : Fetch) → AreSame fetch → p.array ≡ q.array
  array_same fetches.Member same = ap (λ (l : List ℕ). get_or l 11 0) same
  array_same fetches.Constant same = ap (λ (l : List ℕ). get_or l 8 0) same

  attributes_same : (fetch : Fetch) (pool : PoolValue) (bootstrap : ℕ) (attributes : List Attribute) → AreSame fetch
      → twin_attributes fetch pool bootstrap p attributes ≡ twin_attributes fetch pool bootstrap q attributes
  attributes_same fetches.Member pool bootstrap attributes same = refl
  attributes_same fetches.Constant pool bootstrap attributes same = λ i.
      map (with_bootstrap_at pool (get_or (same i) 2 0) bootstrap) attributes
      ++ new_attribute (get_or (same i) 5 0) (get_or (same i) 2 0) (bootstrap_bodies pool attributes)

  field_push : AreSame fetches.Member → count_text p.count count ≡ count_text q.count count
  field_push same =
      one_push count p.count q.count [] []
      (append-nil (count_places count p.count) ∙ ap (drop 12) same ∙ sym (append-nil (count_places count q.count)))

  init_text_same : (fetch : Fetch) → AreSame fetch → added_text fetch (init_places p) p.frames p.array count ≡ added_text fetch (init_places q) q.frames q.array count
  unfolding init_bytes bootstrap_bytes
  init_text_same fetches.Member same = λ i.
      let pushed = field_push same i in
      code_text init_stack 0
      (init_bytes (record { field = get_or (same i) 4 0; id = get_or (same i) 9 0; name = get_or (same i) 10 0; count = 0; fetch = get_or (same i) 6 0 }) pushed)
      (short 0) (init_frames (get_or (same i) 8 0) (get_or (same i) 11 0) pushed ∷ [])
  init_text_same fetches.Constant same = λ i.
      code_text init_stack 3
      (bootstrap_bytes (record { field = 0; id = get_or (same i) 6 0; name = get_or (same i) 7 0; count = 0; fetch = get_or (same i) 3 0 })
      (one_push count p.count q.count (frames_list frames p) (frames_list frames q) (ap (drop 9) same) i))
      (short 0) []

  init_same : (fetch : Fetch) → AreSame fetch → init_member fetch p count ≡ init_member fetch q count
  init_same fetches.Member same = λ i. record {
    flags = init_flags;
    name = get_or (same i) 2 0;
    desc = get_or (same i) 3 0;
    attributes = attribute (get_or (same i) 7 0) (init_text_same fetches.Member same i) ∷ [];
  }
  init_same fetches.Constant same = λ i. record {
    flags = init_flags;
    name = get_or (same i) 0 0;
    desc = get_or (same i) 1 0;
    attributes = attribute (get_or (same i) 4 0) (init_text_same fetches.Constant same i) ∷ [];
  }

  listed_name : (frames : List TypeStateAt) → frames_list frames p ≡ frames_list frames q → (p.frames ≡ q.frames) ⊎ (frames ≡ [])
  listed_name [] same = inr refl
  listed_name (frame ∷ frames) same = inl (ap (λ (l : List ℕ). get_or l 0 0) same)

  -- the name of the attribute of frames stands at one place, or there are no frames
  name_same : (fetch : Fetch) → AreSame fetch → (p.frames ≡ q.frames) ⊎ (frames ≡ [])
  name_same fetches.Member same = inl (ap (λ (l : List ℕ). get_or l 8 0) same)
  name_same fetches.Constant same = listed_name frames (one_rest count p.count q.count (frames_list frames p) (frames_list frames q) (ap (drop 9) same))

-- ---- texts without frames

front_empty : {X : Type 0} (xs ys : List X) → xs ++ ys ≡ [] → (xs ≡ []) × (ys ≡ [])
front_empty [] ys none = (refl, none)
front_empty (x ∷ xs) ys none = absurd (wrong none)
  where
    wrong : x ∷ (xs ++ ys) ≡ [] → ⊥
    wrong e = cc

-- ---- the class

module _ (names : Names) (array : ℕ) (works : List BodyWithStates) (c : ClassFile) where
  abbrev code_by : Fetch → ProbeConstants → MemberPlaces → PoolValue → BodyWithStates → List ℕ
  code_by fetch constants p pool work = twin_code pool fetch (giver_by fetch constants.giver p.method) p.array p.frames names (emitted_of constants array work)

  -- the class, by each of the things with which it is written
  abbrev twin_by : Fetch → ProbeConstants → (bootstrap : ℕ) → MemberPlaces → PoolValue → ClassFile
  twin_by fetch constants bootstrap p pool = record {
    minor = c.minor;
    major = c.major;
    pool = pool;
    flags = c.flags;
    this_class = c.this_class;
    super_class = c.super_class;
    interfaces = c.interfaces;
    fields = c.fields ++ added_fields fetch p;
    methods = twin_methods c.pool (code_by fetch constants p pool) works c.methods ++ init_member fetch p (all_probes (bodies_of works)) ∷ [];
    attributes = twin_attributes fetch c.pool bootstrap p c.attributes;
  }

  twin_is : (w : Writing) → twin_class names array c works w ≡ twin_by w.fetch (constants_of w) w.bootstrap w.places w.pool
  unfolding twin_class
  twin_is w = refl

  module _ (fetch : Fetch) (constants : ProbeConstants) (bootstrap : ℕ) (pool : PoolValue) (p q : MemberPlaces)
      (same : place_list fetch (all_probes (bodies_of works)) (all_frames names constants array works) p
      ≡ place_list fetch (all_probes (bodies_of works)) (all_frames names constants array works) q) where
    abbrev count : ℕ
    count = all_probes (bodies_of works)

    abbrev frames : List TypeStateAt
    frames = all_frames names constants array works

    abbrev text : (giver array_place name : ℕ) → BodyWithStates → List ℕ
    text giver array_place name work = twin_code pool fetch giver array_place name names (emitted_of constants array work)

    named_so : (giver array_place name other : ℕ) → name ≡ other → (l : List BodyWithStates) → AllByRecursion (λ w. text giver array_place name w ≡ text giver array_place other w) l
    named_so giver array_place name other is [] = tt
    named_so giver array_place name other is (w ∷ l) = (ap (λ (n : ℕ). text giver array_place n w) is, named_so giver array_place name other is l)

    no_names : (giver array_place name other : ℕ) (l : List BodyWithStates) → all_frames names constants array l ≡ []
        → AllByRecursion (λ w. text giver array_place name w ≡ text giver array_place other w) l
    no_names giver array_place name other [] none = tt
    no_names giver array_place name other (w ∷ l) none =
        let written : BodyWithStates → List TypeStateAt = λ v. written_frames names (emitted_of constants array v) in
        let both = front_empty (written w) (flat_map written l) (sym (flat_map-cons written w l) ∙ none) in
        (without_frames pool fetch giver array_place name other names (emitted_of constants array w) both.0, no_names giver array_place name other l both.1)

    texts_same : (p.frames ≡ q.frames) ⊎ (frames ≡ []) → AllByRecursion (λ w. code_by fetch constants p pool w ≡ code_by fetch constants q pool w) works
    texts_same one =
        subst (λ (giver : ℕ). AllByRecursion (λ w. code_by fetch constants p pool w ≡ text giver q.array q.frames w) works)
        (giver_same count frames p q fetch constants.giver same)
        (subst (λ (place : ℕ). AllByRecursion (λ w. code_by fetch constants p pool w ≡ text (giver_by fetch constants.giver p.method) place q.frames w) works)
        (array_same count frames p q fetch same) (⊎_elim (λ is. named_so (giver_by fetch constants.giver p.method) p.array p.frames q.frames is works)
        (λ none. no_names (giver_by fetch constants.giver p.method) p.array p.frames q.frames works none) one))

    -- it depends on the places of what is needed alone
    twin_places : twin_by fetch constants bootstrap p pool ≡ twin_by fetch constants bootstrap q pool
    twin_places = λ i. record {
      minor = c.minor;
      major = c.major;
      pool = pool;
      flags = c.flags;
      this_class = c.this_class;
      super_class = c.super_class;
      interfaces = c.interfaces;
      fields = c.fields ++ fields_same count frames p q fetch same i;
      methods =
          each_text c.pool (code_by fetch constants p pool) (code_by fetch constants q pool) works (texts_same (name_same count frames p q fetch same)) c.methods i
          ++ init_same count frames p q fetch same i ∷ [];
      attributes = attributes_same count frames p q fetch c.pool bootstrap c.attributes same i;
    }

module _ (names others : Names) (array other : ℕ) (works more : List BodyWithStates) (c : ClassFile) where
  class_same : AreBodiesWithStates names array c works → AreBodiesWithStates others other c more → (w : Writing)
      → twin_class names array c works w ≡ twin_class others other c more w
  class_same are too w =
      let constants = constants_of w in
      let methods = one_methods constants names others array other c.pool (code_by names array works c w.fetch constants w.places w.pool)
      (code_by others other more c w.fetch constants w.places w.pool)
      (λ x y same. same_twin_code names others (emitted_of constants array x) (emitted_of constants other y) same.emission w.pool w.fetch
      (giver_by w.fetch constants.giver w.places.method) w.places.array w.places.frames) works more
      (same_works constants names others array other c works more are too) c.methods in
      twin_is names array works c w
      ∙ (λ i. record {
        minor = c.minor;
        major = c.major;
        pool = w.pool;
        flags = c.flags;
        this_class = c.this_class;
        super_class = c.super_class;
        interfaces = c.interfaces;
        fields = c.fields ++ added_fields w.fetch w.places;
        methods = methods i ++ init_member w.fetch w.places (one_probe_count names others array other c works more are too i) ∷ [];
        attributes = twin_attributes w.fetch c.pool w.bootstrap w.places c.attributes;
      })
      ∙ sym (twin_is others other more c w)

module _ (id : ℕ) (names others : Names) (array other : ℕ) (works more : List BodyWithStates) (c : ClassFile) where
  -- what is written with names that differ is written with the same
  writings_same : (w v : Writing) → IsReadyFor id names array works c w → IsReadyFor id others other more c v → twin_class others other c more w ≡ twin_class others other c more v
  writings_same w v p q =
      let fetch = fetch_same id names others array other works more c w v p q in
      let constants = constants_same id names others array other works more c w v p q in
      let bootstrap = bootstrap_same id names others array other works more c w v p q in
      let pool = pool_same id names others array other works more c w v p q in
      let frames = frames_same id names others array other works more c w v p q in
      let count = count_same id names others array other works more c w v p q in
      let places : place_list v.fetch (all_probes (bodies_of more)) (all_frames others (constants_of v) other more) w.places
      ≡ place_list v.fetch (all_probes (bodies_of more)) (all_frames others (constants_of v) other more) v.places =
      (λ i. place_list (sym fetch i) (sym count i) (sym frames i) w.places) ∙ places_same id names others array other works more c w v p q in
      twin_is others other more c w
      ∙ (λ i. twin_by others other more c (fetch i) (constants i) (bootstrap i) w.places (pool i))
      ∙ twin_places others other more c v.fetch (constants_of v) v.bootstrap v.pool w.places v.places places
      ∙ sym (twin_is others other more c v)

  pub one_twin : (twin same : ClassFile) → IsWritten id names array works c twin → IsWritten id others other more c same → twin ≡ same
  one_twin twin same a b =
      a.is
      ∙ class_same names others array other works more c a.ready.are b.ready.are a.with
      ∙ writings_same a.with b.with a.ready b.ready
      ∙ sym b.is

-- ---- the file

same_instrumented : (a b : Instrumented) → a.bytes ≡ b.bytes → a.id ≡ b.id → a.name ≡ b.name → a.probes ≡ b.probes → a.changed ≡ b.changed → a ≡ b
same_instrumented a b bytes id name probes changed = λ i. record {
  bytes = bytes i;
  id = id i;
  name = name i;
  probes = probes i;
  changed = changed i;
}

module _ (bytes : List ℕ) (c : ClassFile) (a b : Instrumented) (id : a.id ≡ b.id) (name : a.name ≡ b.name) where
  one_given : IsAsGiven bytes a → IsAsGiven bytes b → a ≡ b
  one_given p q =
      same_instrumented a b (p.same ∙ sym q.same) id name (p.probes ∙ sym q.probes) (p.changed ∙ sym q.changed)

  one_changed : HasProbes (class_id bytes) c a → HasProbes (class_id bytes) c b → a ≡ b
  one_changed p q =
      let twins = one_twin (class_id bytes) p.names q.names p.array q.array p.works q.works c p.twin q.twin p.written q.written in
      let texts = one_class.same a.bytes b.bytes q.twin p.are_bytes q.are_bytes (subst (λ (t : ClassFile). ClassText a.bytes t) twins p.text) q.text in
      let probes = one_probe_count p.names q.names p.array q.array c p.works q.works p.written.ready.are q.written.ready.are in
      same_instrumented a b texts id name (p.probes ∙ probes ∙ sym q.probes) (p.changed ∙ sym q.changed)

  one_becomes : (t : Bool) → Becomes t bytes c a → Becomes t bytes c b → a ≡ b
  one_becomes true p q = one_given p q
  one_becomes false p q = one_changed p q

pub one_file : (bytes : List ℕ) (a b : Instrumented) → IsInstrumentedFile bytes a → IsInstrumentedFile bytes b → a ≡ b
one_file bytes a b p q =
    let same = one_class_of bytes p.file q.file p.text q.text in
    let name = ap (λ (c : ClassFile). class_name_of c.pool c.this_class) (sym same) ∙ p.name in
    one_becomes bytes q.file a b (p.id ∙ sym q.id) (same_Some a.name b.name (sym name ∙ q.name)) (is_left_alone q.file)
    (subst (λ (c : ClassFile). Becomes (is_left_alone c) bytes c a) same p.becomes) q.becomes

pub file_or_reason : (bytes : List ℕ) (a : Instrumented) (r : Refusal) → IsInstrumentedFile bytes a → Reason bytes (Some r) → ⊥
file_or_reason bytes a r is some = none_or_some (probe_causes (class_id bytes)) bytes r (is.file, is.text, is.no_cause) some
