-- The twin class of a class whose bodies are ready, or why its pool would be full.
use Rattle.std.proofs.Common.{◌≡◌, ℕ, ℤ, ◌≤◌, Bool, List, ◌∷◌, ◌++◌, [], length, map, Option, refl, sym, ◌∙◌, ap, ap₂, subst, if◌then◌else◌}
use Rattle.std.specs.Prelude.{bytes_eq, codes, filter}
use Rattle.std.specs.List.{AllByRecursion}
use Rattle.std.proofs.lemmas.List.{append-nil, append_assoc, length-map}
use Rattle.jc_methods.specs.ProbeMembers.{bootstrap_type, bootstraps_name, data_type, init_name}
use Rattle.jc_methods.specs.declared.probe_members.Fetch.{Fetch}
use Rattle.jc_methods.specs.declared.probe_members.Fetch.TheVariants as fetches
use Rattle.jc_methods.specs.VerificationTypes.{Names, TypeStateAt}
use Rattle.jc_bytes.specs.declared.fail.Fail.{Fail}
use Rattle.jc_bytes.specs.declared.fail.Fail.TheVariants as fails
use Rattle.jc_pool.specs.Adding.{Extends}
use Rattle.jc_pool.specs.Pool.{PoolValue}
use Rattle.jc_pool.specs.declared.add.PoolFull.{PoolFull}
use Rattle.jc_pool.proofs.AddedLaws.{utf8_kept}
use Rattle.jc_pool.proofs.AddingLaws.{extends_more}
use Rattle.jc_class.specs.ClassFormat.{HasText}
use Rattle.jc_class.specs.ItemReading.{passes}
use Rattle.jc_class.specs.Writable.{IsAttribute, IsClassFile}
use Rattle.jc_class.specs.declared.class_file.Attribute.{Attribute}
use Rattle.jc_class.specs.declared.class_file.ClassFile.{ClassFile}
use Rattle.jc_class.specs.declared.class_file.Member.{Member}
use Rattle.jc_bootstraps.specs.Bootstraps.{bootstrap_bodies, has_name, with_bootstrap}
use Rattle.jc_frames.specs.FullTable.{named_by_all}
use Rattle.jc_plan.specs.Analysed.{all_probes}
use Rattle.jc_instrument_code.specs.CodeText.{attribute}
use Rattle.jc_instrument_code.specs.TwinCode.{twin_code}
use Rattle.jc_instrument_code.specs.declared.code.CodePlaces.{CodePlaces}
use Rattle.jc_instrument_reread.specs.Written.{fetch_method}
use Rattle.jc_instrument.specs.BodiesWithStates.{BodyWithStates, all_frames, bodies_of, emitted_of}
use Rattle.jc_instrument.specs.Constants.{AreConstants, constants_at}
use Rattle.jc_instrument.specs.Contents.{Content, TakesEach, class_entry, handle_entry, long_entry, member_entry, string_entry, text_entry}
use Rattle.jc_instrument.specs.Members.{AreTextPlaces}
use Rattle.jc_instrument.specs.Needed.{EarlyPlaces, IsNextBootstrap, TakesEarly, TakesNeeded, bootstrap_handle, count_needs, count_places, early_list, early_needs, frame_needs, frames_needs, integer_needs, long_ids, member_needs, name_of, needed, place_list, signed_id}
use Rattle.jc_instrument.specs.Taking.{IsTooMuch, RefusesEach}
use Rattle.jc_instrument.specs.TwinText.{IsWrittenFor, Writing, added_fields, code_with, giver_by, giver_in, init_member, new_attribute, twin_attributes, twin_class, twin_methods, with_bootstrap_at}
use Rattle.jc_instrument.specs.Writing.{AreAllNamed, ArePut, HasFramesName, IsFullFor, IsTwinFrom, RefusesWorks, frames_asked, with_frames_at, written_with}
use Rattle.jc_instrument.specs.declared.constants.ProbeConstants.{ProbeConstants}
use Rattle.jc_instrument.specs.declared.needs.MemberPlaces.{MemberPlaces}
use Rattle.jc_instrument.specs.declared.ready_class.ReadyClass.{ReadyClass}
use Rattle.jc_instrument.specs.declared.twin.TwinPlaces.{TwinPlaces}
use Rattle.jc_instrument.proofs.FramesNameLaws.{frames_taken, name_extends, name_few, name_places}
use Rattle.jc_instrument.proofs.GrownPoolLaws.{one_taking}
use Rattle.jc_instrument.proofs.KeptPoolLaws.{all_named_kept, takes_extend, takes_few}
use Rattle.jc_instrument.proofs.NamedWorksLaws.{are_named}
use Rattle.jc_instrument.proofs.ReadyClassLaws.{ReadyWorks}
use Rattle.jc_instrument.proofs.StandingLaws.{other_places}
use Rattle.jc_instrument.proofs.TakenNeedsLaws.{full_found}
use Rattle.jc_instrument.proofs.TakingLaws.{refused_before, refused_behind, takes_both, takes_count}
use Rattle.jc_instrument.proofs.TwinMethodLaws.{same_methods}

-- ---- the attributes of a class whose pool grows

module _ (old new : PoolValue) (extends : Extends old new) where
  name_same : (a : Attribute) → HasText old a.name → has_name new bootstraps_name a ≡ has_name old bootstraps_name a
  name_same a text = ap (λ (o : Option (List ℕ)). passes (λ t. bytes_eq t bootstraps_name) o) (utf8_kept old new text.0 a.name extends text.1 ∙ sym text.1)

  abbrev pub AreNamed : List Attribute → Type 0
  AreNamed l = AllByRecursion (IsAttribute (HasText old)) l

  named_same : (l : List Attribute) → AreNamed l → filter (has_name new bootstraps_name) l ≡ filter (has_name old bootstraps_name) l
  named_same [] named = refl
  named_same (a ∷ l) named =
      ap (λ (t : Bool). if t then a ∷ filter (has_name new bootstraps_name) l else filter (has_name new bootstraps_name) l) (name_same a named.0.name)
      ∙ ap (λ (r : List Attribute). if has_name old bootstraps_name a then a ∷ r else r) (named_same l named.1)

  bodies_same : (l : List Attribute) → AreNamed l → bootstrap_bodies new l ≡ bootstrap_bodies old l
  bodies_same l named = ap (λ (r : List Attribute). map (λ a. a.body) r) (named_same l named)

  longer_same : (handle bootstrap : ℕ) (l : List Attribute) → AreNamed l
      → map (with_bootstrap_at new handle bootstrap) l ≡ map (with_bootstrap_at old handle bootstrap) l
  longer_same handle bootstrap [] named = refl
  longer_same handle bootstrap (a ∷ l) named =
      let head : with_bootstrap_at new handle bootstrap a ≡ with_bootstrap_at old handle bootstrap a =
      ap (λ (t : Bool). if t then attribute a.name (with_bootstrap handle bootstrap a.body) else a) (name_same a named.0.name) in
      λ i. head i ∷ longer_same handle bootstrap l named.1 i

  -- there are as many bootstrap methods
  pub next_kept : (fetch : Fetch) (bootstrap : ℕ) (l : List Attribute) → AreNamed l → IsNextBootstrap fetch (bootstrap_bodies old l) bootstrap
      → IsNextBootstrap fetch (bootstrap_bodies new l) bootstrap
  next_kept fetch bootstrap l named next = subst (λ (bodies : List (List ℕ)). IsNextBootstrap fetch bodies bootstrap) (sym (bodies_same l named)) next

  attributes_same : (fetch : Fetch) (bootstrap : ℕ) (p : MemberPlaces) (l : List Attribute) → AreNamed l
      → twin_attributes fetch new bootstrap p l ≡ twin_attributes fetch old bootstrap p l
  attributes_same fetches.Member bootstrap p l named = refl
  attributes_same fetches.Constant bootstrap p l named =
      ap₂ (λ (longer : List Attribute) (bodies : List (List ℕ)). longer ++ new_attribute p.bootstraps p.handle bodies)
      (longer_same p.handle bootstrap l named) (bodies_same l named)

-- the class is as before, but for its pool
same_class : (c : ClassFile) (new : PoolValue) → Extends c.pool new → IsClassFile c → (names : Names) (array : ℕ) (works : List BodyWithStates) (w : Writing)
    → twin_class names array (record c { pool = new }) works w ≡ twin_class names array c works w
unfolding twin_class
same_class c new extends is names array works w = λ i. record {
  minor = c.minor;
  major = c.major;
  pool = w.pool;
  flags = c.flags;
  this_class = c.this_class;
  super_class = c.super_class;
  interfaces = c.interfaces;
  fields = c.fields ++ added_fields w.fetch w.places;
  methods = same_methods c.pool new extends (code_with names array w) works c.methods is.methods.each i
      ++ init_member w.fetch w.places (all_probes (bodies_of works)) ∷ [];
  attributes = attributes_same c.pool new extends w.fetch w.bootstrap w.places c.attributes is.attributes.each i;
}

-- ---- what frames ask for, behind what the members need

module _ (owner : List ℕ) (id : ℤ) (count : ℕ) where
  pub needs_joined : (fetch : Fetch) (frames : List TypeStateAt)
      → member_needs fetch owner id count [] ++ frames_asked fetch frames ≡ member_needs fetch owner id count frames ++ frame_needs frames
  needs_joined fetches.Member frames = refl
  needs_joined fetches.Constant frames =
      let joined : (count_needs count ++ []) ++ (frames_needs frames ++ frame_needs frames) ≡ (count_needs count ++ frames_needs frames) ++ frame_needs frames =
      ap (λ (l : List Content). l ++ (frames_needs frames ++ frame_needs frames)) (append-nil (count_needs count))
      ∙ sym (append_assoc (count_needs count) (frames_needs frames) (frame_needs frames)) in
      ap (λ (l : List Content).
      text_entry init_name ∷ text_entry bootstrap_type
      ∷ handle_entry (bootstrap_handle owner) ∷ member_entry fetch_method
      ∷ text_entry (codes "Code") ∷ text_entry bootstraps_name
      ∷ long_entry id ∷ string_entry owner
      ∷ class_entry data_type ∷ l) joined

places_joined : (fetch : Fetch) (count : ℕ) (old new : PoolValue) (frames : List TypeStateAt) (p : MemberPlaces) (given place : ℕ) (classes : List ℕ)
    → given ≡ p.frames → HasFramesName fetch old frames given new place
    → place_list fetch count [] p ++ (name_places fetch frames place ++ classes) ≡ place_list fetch count frames (with_frames_at p place) ++ classes
places_joined fetches.Member count old new frames p given place classes same has =
    let here : p.frames ≡ place = sym same ∙ sym has.1 in
    λ i. place_list fetches.Member count [] (record p { frames = here i }) ++ classes
places_joined fetches.Constant count old new [] p given place classes same has = refl
places_joined fetches.Constant count old new (frame ∷ frames) p given place classes same has =
    let joined : (count_places count p.count ++ []) ++ (place ∷ classes) ≡ (count_places count p.count ++ place ∷ []) ++ classes =
    ap (λ (l : List ℕ). l ++ (place ∷ classes)) (append-nil (count_places count p.count)) ∙ sym (append_assoc (count_places count p.count) (place ∷ []) classes) in
    ap (λ (l : List ℕ).
    p.init_name ∷ p.init_type
    ∷ p.handle ∷ p.fetch
    ∷ p.code ∷ p.bootstraps
    ∷ p.id ∷ p.name
    ∷ p.array ∷ l) joined

-- as many Integers as ids
integers_count : (fetch : Fetch) (old new : PoolValue) (bootstrap count : ℕ) (early : EarlyPlaces) → TakesEarly old fetch bootstrap count new early
    → length early.integers ≡ length (long_ids count)
integers_count fetches.Member old new bootstrap count early takes =
    takes_count old new (integer_needs count) early.integers takes ∙ length-map (long_ids count) _
integers_count fetches.Constant old new bootstrap count early takes =
    takes_count takes.0 new (integer_needs count) early.integers
    (subst (TakesEach takes.0 (integer_needs count) new) (sym (ap other_places takes.3)) takes.5) ∙ length-map (long_ids count) _

-- ---- the class

module _ (id : ℕ) (c : ClassFile) (is : IsClassFile c) {names : Names} {r : ReadyClass} (w : ReadyWorks names c r)
    (loads : AreConstants c r.probes r.bootstrap r.constants) where
  abbrev fetch : Fetch
  fetch = r.constants.fetch

  abbrev frames : List TypeStateAt
  frames = all_frames w.others r.constants w.array w.works

  abbrev all_needs : List Content
  all_needs = needed fetch r.bootstrap (name_of c) (signed_id id) r.probes frames

  is_full : (e : Fail PoolFull) → RefusesEach c.pool all_needs e → IsFullFor id c e
  is_full fails.Memory refused = tt
  is_full (fails.Said full) refused =
      full_found id w.others w.array c w.works r.bootstrap r.constants w.are (subst (λ (n : ℕ). AreConstants c n r.bootstrap r.constants) w.count loads)
      (subst (λ (n : ℕ). IsTooMuch c.pool (needed fetch r.bootstrap (name_of c) (signed_id id) n frames)) w.count refused)

  pub constants_refused : (e : Fail PoolFull) → RefusesEach c.pool (early_needs fetch r.bootstrap r.probes) e → IsFullFor id c e
  constants_refused e refused =
      is_full e (refused_before c.pool (early_needs fetch r.bootstrap r.probes) (member_needs fetch (name_of c) (signed_id id) r.probes frames ++ frame_needs frames)
      e refused)

  module _ (owner : List ℕ) (owner_is : name_of c ≡ owner) (loaded : PoolValue) (at : List ℕ)
      (taken : TakesEach c.pool (early_needs fetch r.bootstrap r.probes) loaded at) where
    abbrev own : List ℕ
    own = name_of c

    same_pool : loaded ≡ loads.pool
    same_pool = (one_taking (early_needs fetch r.bootstrap r.probes) c.pool loaded loads.pool at (early_list fetch loads.early) taken loads.takes).0

    early_taken : TakesEarly c.pool fetch r.bootstrap r.probes loaded loads.early
    early_taken = subst (λ (l : PoolValue). TakesEach c.pool (early_needs fetch r.bootstrap r.probes) l (early_list fetch loads.early)) (sym same_pool) loads.takes

    behind_constants : (e : Fail PoolFull)
        → RefusesEach loaded (member_needs fetch own (signed_id id) r.probes [] ++ frames_asked fetch frames) e → IsFullFor id c e
    behind_constants e refused =
        is_full e
        (refused_behind c.pool loaded (early_needs fetch r.bootstrap r.probes) (member_needs fetch own (signed_id id) r.probes frames ++ frame_needs frames)
        (early_list fetch loads.early) e early_taken
        (subst (λ (needs : List Content). RefusesEach loaded needs e) (needs_joined own (signed_id id) r.probes fetch frames) refused))

    pub members_refused : (e : Fail PoolFull) → RefusesEach loaded (member_needs fetch owner (signed_id id) r.probes []) e → IsFullFor id c e
    members_refused e refused =
        behind_constants e
        (refused_before loaded (member_needs fetch own (signed_id id) r.probes []) (frames_asked fetch frames) e
        (subst (λ (o : List ℕ). RefusesEach loaded (member_needs fetch o (signed_id id) r.probes []) e) (sym owner_is) refused))

    module _ (new : PoolValue) (members : MemberPlaces)
        (takes : TakesEach loaded (member_needs fetch owner (signed_id id) r.probes []) new (place_list fetch r.probes [] members)) where
      own_takes : TakesEach loaded (member_needs fetch own (signed_id id) r.probes []) new (place_list fetch r.probes [] members)
      own_takes =
          subst (λ (o : List ℕ). TakesEach loaded (member_needs fetch o (signed_id id) r.probes []) new (place_list fetch r.probes [] members)) (sym owner_is) takes

      pub frames_refused : (e : Fail PoolFull) → RefusesWorks new r.constants w.others w.array w.works e → IsFullFor id c e
      frames_refused e refused =
          behind_constants e
          (refused_behind loaded new (member_needs fetch own (signed_id id) r.probes []) (frames_asked fetch frames) (place_list fetch r.probes [] members) e
          own_takes refused)

      module _ (extends : Extends c.pool new) (few : length new ≤ 65535) (codes : CodePlaces) (texts : AreTextPlaces new codes) (given : codes.frames ≡ members.frames)
          (twin : ClassFile)
          (from : IsTwinFrom (record c { pool = new }) (record { members = members; codes = codes }) r w.others w.array w.works twin) where
        abbrev named : PoolValue
        named = from.takes.0

        abbrev with : Writing
        with = written_with r.constants r.bootstrap loads.early (with_frames_at members from.frames) from.pool

        classes : (places : List ℕ) × TakesEach new (frames_asked fetch frames) from.pool (name_places fetch frames from.frames ++ places)
        classes = frames_taken fetch new from.pool frames codes.frames from.frames from.takes

        behind : TakesEach loaded (member_needs fetch own (signed_id id) r.probes frames ++ frame_needs frames) from.pool
            (place_list fetch r.probes frames (with_frames_at members from.frames) ++ classes.0)
        behind =
            subst (TakesEach loaded (member_needs fetch own (signed_id id) r.probes frames ++ frame_needs frames) from.pool)
            (places_joined fetch r.probes new named frames members codes.frames from.frames classes.0 given from.takes.1)
            (subst (λ (needs : List Content). TakesEach loaded needs from.pool
            (place_list fetch r.probes [] members ++ (name_places fetch frames from.frames ++ classes.0))) (needs_joined own (signed_id id) r.probes fetch frames)
            (takes_both loaded new from.pool (member_needs fetch own (signed_id id) r.probes []) (frames_asked fetch frames) (place_list fetch r.probes [] members)
            (name_places fetch frames from.frames ++ classes.0) own_takes classes.1))

        -- so many probes and these frames
        abbrev Takes : ℕ → List TypeStateAt → Type 0
        Takes count fs = TakesNeeded c.pool fetch r.bootstrap own (signed_id id) count fs from.pool loads.early (with_frames_at members from.frames)

        all_taken : Takes r.probes frames
        all_taken = record {
          class_places = classes.0;
          integers = integers_count fetch c.pool loaded r.bootstrap r.probes loads.early early_taken;
          takes = takes_both c.pool loaded from.pool (early_needs fetch r.bootstrap r.probes)
              (member_needs fetch own (signed_id id) r.probes frames ++ frame_needs frames) (early_list fetch loads.early)
              (place_list fetch r.probes frames (with_frames_at members from.frames) ++ classes.0) early_taken behind;
        }

        pub twin_written : IsWrittenFor id c twin
        twin_written = record {
          names = w.others;
          array = w.array;
          works = w.works;
          written = record {
            with = with;
            ready = record {
              gets = loads.gets;
              are = w.are;
              takes = subst (λ (k : ProbeConstants). Takes (all_probes (bodies_of w.works)) (all_frames w.others k w.array w.works)) loads.are
                  (subst (λ (n : ℕ). Takes n frames) w.count all_taken);
            };
            few = takes_few named from.pool (named_by_all frames) (name_few fetch new named frames codes.frames from.frames from.takes.1 few) from.takes.2;
            is = from.is loads.early loads.are
                (all_named_kept new from.pool
                (extends_more new named from.pool (name_extends fetch new named frames codes.frames from.frames from.takes.1)
                (takes_extend named from.pool (named_by_all frames) from.takes.2)) r.constants w.array codes w.works
                (are_named w.others c new extends codes texts r.constants w.array w.works w.are.bodies.each))
                ∙ same_class c new extends is w.others w.array w.works with;
          };
        }

-- ---- the class that is made

fields_same : (fetch : Fetch) (p : MemberPlaces) (place : ℕ) → added_fields fetch p ≡ added_fields fetch (with_frames_at p place)
fields_same fetches.Member p place = refl
fields_same fetches.Constant p place = refl

longer_by : (fetch : Fetch) (pool : PoolValue) (bootstrap : ℕ) (p : MemberPlaces) (place : ℕ) (l : List Attribute)
    → twin_attributes fetch pool bootstrap p l ≡ twin_attributes fetch pool bootstrap (with_frames_at p place) l
longer_by fetches.Member pool bootstrap p place l = refl
longer_by fetches.Constant pool bootstrap p place l = refl

init_same : (fetch : Fetch) (old new : PoolValue) (frames : List TypeStateAt) (p : MemberPlaces) (given place count : ℕ) → given ≡ p.frames
    → HasFramesName fetch old frames given new place → init_member fetch p count ≡ init_member fetch (with_frames_at p place) count
init_same fetches.Member old new _ p given place count same has =
    let here : p.frames ≡ place = sym same ∙ sym has.1 in
    λ i. init_member fetches.Member (record p { frames = here i }) count
init_same fetches.Constant old new _ p given place count same has = refl

module _ (class : ClassFile) (places : TwinPlaces) (r : ReadyClass) (others : Names) (array : ℕ) (works : List BodyWithStates) (new : PoolValue) (put : List Member)
    (are : ArePut class.pool places.codes others r.constants array works class.methods new put) (count : r.probes ≡ all_probes (bodies_of works))
    (giver : places.codes.giver ≡ giver_in r.constants places.members) (array_is : places.codes.array ≡ places.members.array)
    (frames_at : places.codes.frames ≡ places.members.frames) where
  abbrev placed : MemberPlaces
  placed = with_frames_at places.members are.frames

  codes_made : (early : EarlyPlaces) → r.constants ≡ constants_at r.constants.fetch early → AreAllNamed new r.constants array works places.codes
      → put ≡ twin_methods class.pool (code_with others array (written_with r.constants r.bootstrap early placed new)) works class.methods
  codes_made early loads named =
      are.methods_are named
      ∙ (λ i. twin_methods class.pool (λ w. twin_code new r.constants.fetch (giver i) (array_is i) are.frames others (emitted_of r.constants array w)) works
      class.methods)
      ∙ (λ i. twin_methods class.pool (λ w. twin_code new r.constants.fetch (giver_by r.constants.fetch (loads i).giver places.members.method)
      places.members.array are.frames others (emitted_of (loads i) array w)) works class.methods)

  pub twin_made : (attributes : List Attribute) (fields methods : List Member)
      → attributes ≡ twin_attributes r.constants.fetch class.pool r.bootstrap places.members class.attributes
      → fields ≡ class.fields ++ added_fields r.constants.fetch places.members
      → methods ≡ put ++ init_member r.constants.fetch places.members r.probes ∷ []
      → IsTwinFrom class places r others array works (record class { pool = new; fields = fields; methods = methods; attributes = attributes })
  unfolding twin_class
  twin_made attributes fields methods attributes_are fields_are methods_are = record {
    pool = new;
    frames = are.frames;
    takes = are.takes;
    is = λ early loads named.
        let fields_so = fields_are ∙ ap (λ (l : List Member). class.fields ++ l) (fields_same r.constants.fetch places.members are.frames) in
        let init = init_same r.constants.fetch class.pool are.takes.0 (all_frames others r.constants array works) places.members places.codes.frames are.frames
        r.probes frames_at are.takes.1 ∙ ap (init_member r.constants.fetch placed) count in
        let codes = codes_made early loads named in
        let methods_so = methods_are ∙ (λ i. codes i ++ init i ∷ []) in
        let attributes_so = attributes_are ∙ longer_by r.constants.fetch class.pool r.bootstrap places.members are.frames class.attributes in
        λ i. record {
          minor = class.minor;
          major = class.major;
          pool = new;
          flags = class.flags;
          this_class = class.this_class;
          super_class = class.super_class;
          interfaces = class.interfaces;
          fields = fields_so i;
          methods = methods_so i;
          attributes = attributes_so i;
        };
  }
