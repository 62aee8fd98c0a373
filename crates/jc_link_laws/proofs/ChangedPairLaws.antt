-- A class, and what is linked of the text of a twin of it, are a changed pair.
use Rattle.std.proofs.Common.{◌≡◌, ◌⊎◌, inl, inr, ℕ, ℤ, ◌+◌, ◌<◌, ◌≤◌, Bool, true, false, cond, ◌&&◌, List, [], ◌∷◌, ◌++◌, length, map, Contains, Option, Some, None, bytes_eq, refl, sym, ◌∙◌, ap, ap₂, subst, arith}
use Rattle.std.specs.Prelude.{unwrap_or}
use Rattle.std.specs.Int.{w64, cast_signed}
use Rattle.std.specs.List.{list_any, sum_by}
use Rattle.std.proofs.lemmas.Bool.{cases_lt}
use Rattle.std.proofs.lemmas.Grind.{flat_map-append}
use Rattle.std.proofs.lemmas.Option.{slice_get_within}
use Rattle.std.proofs.lemmas.Slice.Eq.{bytes_eq-Decides}
use Rattle.jc_bytes.specs.ByteLists.{AreBytes}
use Rattle.jc_bytes.proofs.BooleanLaws.{first_in, later_in}
use Rattle.jc_bytes.proofs.ListLaws.{stands_at}
use Rattle.jc_methods.specs.VerificationTypes.{Names, TypeStateAt, type_state_at}
use Rattle.jc_methods.specs.ProbeMembers.{bootstraps_name, init_name, most_probes, fetch_of}
use Rattle.jc_methods.specs.declared.body.Body.{Body}
use Rattle.jc_methods.specs.declared.body.FrameAt.{FrameAt}
use Rattle.jc_methods.specs.declared.body.What.{What}
use Rattle.jc_methods.specs.declared.probe_members.Fetch.{Fetch}
use Rattle.jc_methods.specs.declared.probe_members.Fetch.TheVariants as fetches
use Rattle.jc_programs.specs.declared.program.Linked.{Linked}
use Rattle.jc_programs.specs.declared.program.ProbeInit.{ProbeInit}
use Rattle.jc_programs.specs.declared.program.StaticField.{StaticField}
use Rattle.jc_pool.specs.Lookup.{class_name_of, string_of}
use Rattle.jc_pool.specs.declared.index.Naming.TheVariants as naming
use Rattle.jc_pool.proofs.AddedLaws.{naming_kept}
use Rattle.jc_class.specs.ClassId.{class_id}
use Rattle.jc_class.specs.Writable.{IsClassFile}
use Rattle.jc_class.specs.declared.class_file.ClassFile.{ClassFile}
use Rattle.jc_class.specs.declared.class_file.Member.{Member}
use Rattle.jc_class.proofs.FirstBadLaws.{one_class_of}
use Rattle.jc_class.proofs.ReadClassLaws.{class_read}
use Rattle.jc_class.proofs.WritableLaws.{class_holds}
use Rattle.jc_bootstraps.specs.Bootstraps.{bootstrap_bodies, has_name as has_text}
use Rattle.jc_body.specs.BodyOf.{BodyOf, BodyOfAnySize, IsBodyOfAnySize, Bodiless}
use Rattle.jc_body.specs.Coded.{IsBodiless}
use Rattle.jc_body.proofs.AnswerLaws.{bodiless_or_body}
use Rattle.jc_plan.specs.Analysed.{all_probes}
use Rattle.jc_plan.specs.Probed.{probe_count}
use Rattle.jc_emit.specs.Added.{HasInitFrame, InitPlaces, IsInitBody, IsBootstrapBody, IsAddedBody, NamesCount, giver_of, bootstrap_of, added_statics}
use Rattle.jc_emit.specs.TwinBodies.{IsSameBody, AreSameBodies, AreTwinBodies}
use Rattle.jc_twin_programs.specs.TwinProgram.{IsChangedPair}
use Rattle.jc_instrument_reread.specs.Written.{added_type}
use Rattle.jc_instrument_reread.proofs.OneBodyLaws.{same_bodies}
use Rattle.jc_instrument.specs.Bodies.{AreBodies, IsListed}
use Rattle.jc_instrument.specs.Causes.{NoCause, unless}
use Rattle.jc_instrument.specs.LeftAlone.{is_left_alone}
use Rattle.jc_instrument.specs.Needed.{IsNextBootstrap, name_of, signed_id}
use Rattle.jc_instrument.specs.SameOutside.{AreClassAttributes, IsInitMethod}
use Rattle.jc_instrument.specs.Reasons.{HasAdded, analysis_causes}
use Rattle.jc_instrument.specs.Refused.{probe_causes}
use Rattle.jc_instrument.specs.RoomCauses.{room_causes}
use Rattle.jc_instrument.proofs.DecidedLaws.{none_behind}
use Rattle.jc_instrument.proofs.EachAnalysisLaws.{bodies_checked}
use Rattle.jc_instrument.proofs.FrameCauseLaws.{each_at}
use Rattle.jc_instrument.proofs.PoolTextLaws.{class_pool}
use Rattle.jc_instrument.proofs.RoomDecidedLaws.{none_straddles}
use Rattle.jc_instrument_laws.proofs.ReadCodeLaws.{id_below, kept_are}
use Rattle.jc_instrument_laws.specs.TwinClass.{AreBodiesOfAnySize, TwinClass}
use Rattle.jc_instrument.specs.Steps.{HasStates}
use Rattle.jc_link_programs.specs.Linking.{IsLinkedOf, IsLinkedClass}
use Rattle.jc_link_programs.specs.OwnBootstrap.{HasBootstrap}
use Rattle.jc_link_programs.specs.ProbeInits.{CodeAsks, NamesField, added_code, added_of, is_added}
use Rattle.jc_link_programs.specs.Statics.{is_clinit, static_of, statics_among}
use Rattle.jc_link_programs.proofs.PairedLaws.{AreThere, IsThere, AreSameWhere, paired}
use Rattle.jc_link_programs.proofs.ProbeInitLaws.{are_probes}
use Rattle.jc_link_programs.proofs.SameLinkedLaws.{one_probes, same_lists, to_same}
use Rattle.jc_link_laws.specs.TwinFiles.{IsWrittenTwin}
use Rattle.jc_link_laws.proofs.InitProbesLaws.{added_at, text_is}
use Rattle.jc_link_laws.proofs.KeptBootstrapsLaws.{last_bootstrap}
use Rattle.jc_link_laws.proofs.KeptStaticsLaws.{added_fields_static, any_put, clinits_same, init_no_clinit, statics_same}
use Rattle.jc_link_laws.proofs.MovedTwinLaws.{AreMovedTwins, counts_same, moved_twins}
use Rattle.jc_link_laws.proofs.TwinPairLaws.{added_named, has_neither, no_probes, none_added}

-- ---- bodies of a twin class

module _ (names others : Names) (t : ClassFile) (xs ys : List Body) (p : AreBodiesOfAnySize names t xs) (q : AreBodies others t ys) where
  any_or_bodiless : (number : ℕ) (x : Body) → BodyOfAnySize names t number x → Bodiless t number → ⊥
  any_or_bodiless number x body none =
      let same = same_method (sym none.at ∙ body.at) in
      body.is.is.items.code.concrete (subst (λ (m : Member). IsBodiless m) same none.none.bodiless)
    where
      same_method : {m n : Member} → Some m ≡ Some n → m ≡ n
      same_method e = cc

  there : AreThere xs ys
  there i x at = by (q.all x.method (slice_get_within t.methods x.method (p.each i x at).method (p.each i x at).at))
    where
      by : Bodiless t x.method ⊎ IsListed ys x.method → IsThere ys x.method
      by (inl none) = absurd (any_or_bodiless x.method x (p.each i x at) none)
      by (inr l) = record { index = l.index; body = l.body; stands = l.stands; number_is = l.number_is }

  back : AreThere ys xs
  back i y at = by (p.all y.method (q.below i y at))
    where
      by : Bodiless t y.method ⊎ IsListed xs y.method → IsThere xs y.method
      by (inl none) = absurd (bodiless_or_body others t y.method y none (q.each i y at))
      by (inr l) = record { index = l.index; body = l.body; stands = l.stands; number_is = l.number_is }

  one_method : (number : ℕ) (x y : Body) → BodyOfAnySize names t number x → BodyOf others t number y → IsSameBody names others x y
  one_method number x y a b =
      let same = same_of (sym a.at ∙ b.at) in
      to_same names others x y
      (same_bodies others names t number b.method _ _ y x b.is (subst (λ (m : Member). IsBodyOfAnySize names t number m x) same a.is))
    where
      same_of : {m n : Member} → Some m ≡ Some n → m ≡ n
      same_of e = cc

  same_where : AreSameWhere names others xs ys
  same_where i j x y at beyond number =
      one_method y.method x y (subst (λ (n : ℕ). BodyOfAnySize names t n x) number (p.each i x at)) (q.each j y beyond)

  pub any_lists : AreSameBodies names others xs ys
  any_lists = paired names others xs ys (record { rising = p.rising; rising_too = q.rising; there = there; back = back }) same_where

-- ---- the added method's body

one_frame : (names others : Names) (gs : List FrameAt) (f : FrameAt) → map (type_state_at others) gs ≡ map (type_state_at names) (f ∷ [])
    → (g : FrameAt) × (gs ≡ g ∷ []) × (type_state_at others g ≡ type_state_at names f)
one_frame names others [] f e = absurd (nothing e)
  where
    nothing : {s : TypeStateAt} → [] ≡ s ∷ [] → ⊥
    nothing p = cc
one_frame names others (g ∷ []) f e = (g, refl, head e)
  where
    head : {s t : TypeStateAt} → s ∷ [] ≡ t ∷ [] → s ≡ t
    head p = cc
one_frame names others (g ∷ h ∷ gs) f e = absurd (more e)
  where
    more : {s t u : TypeStateAt} {ss : List TypeStateAt} → s ∷ (t ∷ ss) ≡ u ∷ [] → ⊥
    more p = cc

frames_there : (names others : Names) (fs gs : List FrameAt) → map (type_state_at others) gs ≡ map (type_state_at names) fs → HasInitFrame names fs → HasInitFrame others gs
frames_there names others fs gs same h =
    let g = one_frame names others gs h.frame (same ∙ ap (map (type_state_at names)) h.single) in
    record {
      frame = g.0;
      single = g.1;
      at = ap (λ (s : TypeStateAt). s.at) g.2 ∙ h.at;
      state = ap (λ (s : TypeStateAt). s.state) g.2 ∙ h.state;
    }

init_there : (names others : Names) (class : List ℕ) (id : ℤ) (count : ℕ) (b d : Body) → IsSameBody names others b d → IsInitBody names class id count b
    → IsInitBody others class id count d
init_there names others class id count b d same h = subst (IsInitBody others class id count) (sym same.others) (record {
  places = h.places;
  method = record {
    owner = h.method.owner;
    name = h.method.name;
    desc_is = h.method.desc_is;
    flags = h.method.flags;
    arguments = h.method.arguments;
    max_stack = h.method.max_stack;
    max_locals_is = h.method.max_locals_is;
    code_is = h.method.code_is;
    handlers = h.method.handlers;
    lines = h.method.lines;
    vars = h.method.vars;
    kind_vars = h.method.kind_vars;
  };
  frames = frames_there names others b.frames d.frames same.frames h.frames;
  field_is = h.field_is;
  names_count = h.names_count;
})

bootstrap_there : (names others : Names) (class : List ℕ) (id : ℤ) (count : ℕ) (b d : Body) → IsSameBody names others b d → IsBootstrapBody class id count b
    → IsBootstrapBody class id count d
bootstrap_there names others class id count b d same h = subst (IsBootstrapBody class id count) (sym same.others) (record {
  places = h.places;
  method = record {
    owner = h.method.owner;
    name = h.method.name;
    desc_is = h.method.desc_is;
    flags = h.method.flags;
    arguments = h.method.arguments;
    max_stack = h.method.max_stack;
    max_locals_is = h.method.max_locals_is;
    code_is = h.method.code_is;
    handlers = h.method.handlers;
    lines = h.method.lines;
    vars = h.method.vars;
    kind_vars = h.method.kind_vars;
  };
  frames = none_there d.frames (same.frames ∙ ap (map (type_state_at names)) h.frames);
  names_count = h.names_count;
})
  where
    some : {s : TypeStateAt} {ss : List TypeStateAt} → s ∷ ss ≡ [] → ⊥
    some e = cc

    none_there : (frames : List FrameAt) → map (type_state_at others) frames ≡ [] → frames ≡ []
    none_there [] e = refl
    none_there (f ∷ frames) e = absurd (some e)

added_there : (fetch : Fetch) (names others : Names) (class : List ℕ) (id : ℤ) (count : ℕ) (b d : Body) → IsSameBody names others b d
    → IsAddedBody fetch names class id count b → IsAddedBody fetch others class id count d
added_there fetches.Member = init_there
added_there fetches.Constant = bootstrap_there

-- what both methods have
record AddedParts (fetch : Fetch) (class : List ℕ) (id : ℤ) (count : ℕ) (b : Body) : Type 0 where
  places : InitPlaces
  name : b.name ≡ init_name
  desc : b.desc ≡ added_type fetch
  code : b.code ≡ added_code fetch places count
  field_is : NamesField fetch b.uses class places.field
  names_count : NamesCount class id count b.uses places

added_parts : (fetch : Fetch) (names : Names) (class : List ℕ) (id : ℤ) (count : ℕ) (b : Body) → IsAddedBody fetch names class id count b
    → AddedParts fetch class id count b
added_parts fetches.Member names class id count b h = record {
  places = h.places;
  name = h.method.name;
  desc = h.method.desc_is;
  code = h.method.code_is;
  field_is = h.field_is;
  names_count = h.names_count;
}
added_parts fetches.Constant names class id count b h = record {
  places = h.places;
  name = h.method.name;
  desc = h.method.desc_is;
  code = h.method.code_is;
  field_is = tt;
  names_count = h.names_count;
}

-- the twins have the names of their bodies, and so the added method is the first of its name
first_init : (names others : Names) (fetch : Fetch) (giver : What) (first : ℕ) (bs ys : List Body) (added : Body) → AreTwinBodies names others fetch giver first bs ys added
    → ((b : Body) → Contains bs b → b.name ≡ init_name → ⊥) → is_added fetch added ≡ true → added_of fetch ys ≡ Some added
first_init names others fetch giver first [] ys added twins none is =
    ap (added_of fetch) twins ∙ ap (λ (t : Bool). cond t (Some added) None) is
first_init names others fetch giver first (b ∷ bs) [] added twins none is = absurd twins
first_init names others fetch giver first (b ∷ bs) (y ∷ ys) added twins none is =
    ap (λ (t : Bool). cond t (Some y) (added_of fetch ys)) (not_init y (λ e. none b (first_in b bs) (sym twins.0.twin.method.name ∙ e)))
    ∙ first_init names others fetch giver (first + probe_count b) bs ys added twins.1 (λ x c. none x (later_in b bs x c)) is
  where
    not_init : (y : Body) → (y.name ≡ init_name → ⊥) → is_added fetch y ≡ false
    not_init y other = by (bytes_eq y.name init_name) refl
      where
        by : (t : Bool) → bytes_eq y.name init_name ≡ t → t && bytes_eq y.desc (added_type fetch) ≡ false
        by true e = absurd (other ((bytes_eq-Decides y.name init_name).0 e))
        by false e = refl

-- ---- the pair

module _ (original written : List ℕ) (are : AreBytes original) (are_new : AreBytes written) (w : IsWrittenTwin original written)
    (names new_names : Names) (l n : Linked) (p : IsLinkedClass names original l) (q : IsLinkedClass new_names written n) where
  abbrev c : ClassFile
  c = w.twin.file

  abbrev t : ClassFile
  t = w.twin.twin

  abbrev id : ℕ
  id = class_id original

  abbrev h : TwinClass id c t
  h = w.twin.is

  p_is : IsLinkedOf names c l
  p_is = subst (λ (x : ClassFile). IsLinkedOf names x l) (one_class_of original p.file c p.text w.twin.file_is) p.is

  q_is : IsLinkedOf new_names t n
  q_is = subst (λ (x : ClassFile). IsLinkedOf new_names x n) (one_class_of written q.file t q.text w.twin.twin_is) q.is

  causes : NoCause (probe_causes id c)
  causes = subst (λ (x : ClassFile). NoCause (probe_causes id x)) (one_class_of original w.changed.0.0 c w.changed.0.1 w.twin.file_is) w.changed.0.2

  changes : is_left_alone c ≡ false
  changes = ap is_left_alone (sym (one_class_of original w.changed.1.0 c w.changed.1.1 w.twin.file_is)) ∙ w.changed.1.2

  class : IsClassFile c
  class = class_holds original c are w.twin.file_is

  not_added : HasAdded c → ⊥
  not_added = none_added id c causes

  room : NoCause (room_causes id c)
  room =
      subst (λ (s : Bool). NoCause (unless s (room_causes id c))) changes
      (none_behind (analysis_causes c) (unless (is_left_alone c) (room_causes id c)) causes)

  -- ---- bodies

  bodies_same : AreSameBodies h.names names h.bodies l.bodies
  bodies_same = same_lists h.names names c h.bodies l.bodies h.are p_is.bodies.are

  twins_same : AreSameBodies h.new_names new_names (h.twins ++ h.added ∷ []) n.bodies
  twins_same = any_lists h.new_names new_names t (h.twins ++ h.added ∷ []) n.bodies h.read q_is.bodies.are

  abbrev fetch : Fetch
  fetch = h.fetch

  -- what gives the array to the twins
  abbrev giver : What
  giver = giver_of fetch (name_of c) h.bootstrap

  moved : AreMovedTwins h.names names h.new_names new_names fetch giver 0 l.bodies n.bodies h.added
  moved =
      moved_twins h.names names h.new_names new_names fetch giver 0 h.bodies l.bodies (h.twins ++ h.added ∷ []) n.bodies h.added bodies_same twins_same
      (λ i d at. each_at (HasStates names) l.bodies p_is.states i d at) h.each

  count_is : all_probes h.bodies ≡ sum_by probe_count l.bodies
  count_is = sym (counts_same h.names names h.new_names new_names h.bodies l.bodies bodies_same)

  name_is : name_of c ≡ l.name
  name_is = ap (λ (o : Option (List ℕ)). unwrap_or o []) p_is.name

  few : sum_by probe_count l.bodies ≤ most_probes
  few = by (cases_lt most_probes (all_probes l.bodies))
    where
      by : (most_probes < all_probes l.bodies) ⊎ (all_probes l.bodies ≤ most_probes) → sum_by probe_count l.bodies ≤ most_probes
      by (inr most) = most
      by (inl many) = absurd (room.1.0 _ (record {
        bodies = l.bodies;
        are = bodies_checked c l.bodies changes (record { names = names; are = p_is.bodies.are; checked = p_is.bodies.checked });
        many = many;
        refusal = refl;
      }))

  added_is : IsAddedBody fetch new_names l.name (signed_id id) (sum_by probe_count l.bodies) moved.last
  added_is =
      added_there fetch h.new_names new_names l.name (signed_id id) (sum_by probe_count l.bodies) h.added moved.last moved.same
      (subst (λ (m : ℕ). IsAddedBody fetch h.new_names l.name (signed_id id) m h.added) count_is
      (subst (λ (o : List ℕ). IsAddedBody fetch h.new_names o (signed_id id) (all_probes h.bodies) h.added) name_is h.added_is))

  parts : AddedParts fetch l.name (signed_id id) (sum_by probe_count l.bodies) moved.last
  parts = added_parts fetch new_names l.name (signed_id id) (sum_by probe_count l.bodies) moved.last added_is

  -- as classes of this version do
  fetch_is : fetch_of c.major ≡ fetch
  fetch_is = sym h.gets.fetch_is

  -- ---- name, initialization method, statics

  name_new : n.name ≡ l.name
  name_new =
      some_is (sym q_is.name ∙ ap (class_name_of t.pool) h.outside.this_class
      ∙ naming_kept naming.Class c.pool t.pool l.name c.this_class h.outside.pool.extends p_is.name)
    where
      some_is : {x y : List ℕ} → Some x ≡ Some y → x ≡ y
      some_is e = cc

  version_new : n.version ≡ l.version
  version_new = q_is.version ∙ h.outside.major ∙ sym p_is.version

  clinit_new : n.has_clinit ≡ l.has_clinit
  clinit_new =
      q_is.clinit
      ∙ ap (list_any (is_clinit t.pool)) h.outside.methods
      ∙ any_put (is_clinit t.pool) h.outside.kept h.outside.method (init_no_clinit t.pool h.outside.method h.outside.method_is.name)
      ∙ clinits_same c.pool t.pool h.outside.pool.extends c.methods h.outside.kept class.methods.each h.outside.kept_are
      ∙ sym p_is.clinit

  statics_new : n.statics ≡ l.statics ++ added_statics fetch
  statics_new =
      q_is.statics
      ∙ ap (statics_among t.pool) h.outside.fields
      ∙ flat_map-append (static_of t.pool) c.fields h.outside.added
      ∙ ap₂ (λ (a b : List StaticField). a ++ b)
      (statics_same c.pool t.pool h.outside.pool.extends c.fields class.fields.each class.constants)
      (added_fields_static (fetch_of c.major) t.pool h.outside.added h.outside.added_are ∙ ap added_statics fetch_is)
      ∙ ap (λ (ss : List StaticField). ss ++ added_statics fetch) (sym p_is.statics)

  -- ---- probes

  last_init : is_added fetch moved.last ≡ true
  last_init =
      ap₂ (λ (a b : List ℕ). bytes_eq a init_name && bytes_eq b (added_type fetch)) parts.name parts.desc
      ∙ ap₂ (λ (s t : Bool). s && t) ((bytes_eq-Decides init_name init_name).1 refl) ((bytes_eq-Decides (added_type fetch) (added_type fetch)).1 refl)

  last_first : added_of fetch n.bodies ≡ Some moved.last
  last_first =
      first_init names new_names fetch giver 0 l.bodies n.bodies moved.last moved.twins
      (λ b there e. (has_neither names c l p_is not_added).bodies b there (inl e)) last_init

  last_body : BodyOf new_names t moved.last.method moved.last
  last_body =
      let at = stands_at n.bodies moved.last (added_named fetch n.bodies moved.last last_first).0 in
      q_is.bodies.are.each at.0 moved.last at.1

  few_places : length t.pool ≤ 65535
  few_places = let few = (class_pool written t are_new w.twin.twin_is).few in omega (arith, few)

  method_is : IsInitMethod fetch t.pool (name_of c) (signed_id id) (all_probes h.bodies) h.outside.method
  method_is = subst (λ (f : Fetch). IsInitMethod f t.pool (name_of c) (signed_id id) (all_probes h.bodies) h.outside.method) fetch_is h.outside.method_is

  named : string_of t.pool parts.places.name ≡ Some n.name
  named =
      let owner = q_is.name ∙ ap Some (name_new ∙ sym name_is) in
      let name = last_body.is.parts.name ∙ ap Some parts.name in
      text_is fetch t few_places (name_of c) (signed_id id) (all_probes h.bodies) owner h.outside.method method_is new_names moved.last.method moved.last parts.places
      last_body
      (added_at id h.bootstrap (all_probes h.bodies) _ c t class not_added h.outside moved.last.method last_body.method last_body.at name)
      (parts.code ∙ ap (added_code fetch parts.places) (sym count_is))
      ∙ ap Some (name_is ∙ sym name_new)

  asks : CodeAsks fetch n.name moved.last id (sum_by probe_count l.bodies) parts.places.name
  asks = record {
    places = parts.places;
    code = parts.code;
    count_fits = few;
    count_is = parts.names_count.count_is;
    field_is = subst (λ (o : List ℕ). NamesField fetch moved.last.uses o parts.places.field) (sym name_new) parts.field_is;
    id_is = parts.names_count.id_is;
    id_fits = id_below original are;
    text_is = refl;
    fetch_is = parts.names_count.fetch_is;
  }

  -- the bootstrap method, where there is one
  bootstrap_by : (f : Fetch) → IsNextBootstrap f (bootstrap_bodies c.pool c.attributes) h.bootstrap → fetch_of c.major ≡ f
      → AreClassAttributes f c.pool t.pool (name_of c) h.bootstrap c.attributes t.attributes → HasBootstrap f t (name_of c) (bootstrap_of f h.bootstrap)
  bootstrap_by fetches.Member next by_member same = refl
  bootstrap_by fetches.Constant next by_constant attributes =
      last_bootstrap c t class (kept_are (has_text c.pool bootstraps_name) c.attributes (class_read original c are w.twin.file_is).attributes)
      h.outside.pool.extends few_places (name_of c) h.bootstrap next
      (λ place none. room.1.1.1.0 _ (record { by_constant = by_constant; place = place; none = none; refusal = refl })) attributes

  bootstrap_new : HasBootstrap fetch t n.name (bootstrap_of fetch h.bootstrap)
  bootstrap_new =
      subst (λ (o : List ℕ). HasBootstrap fetch t o (bootstrap_of fetch h.bootstrap)) (name_is ∙ sym name_new)
      (bootstrap_by fetch h.gets.bootstrap_is fetch_is
      (subst (λ (f : Fetch). AreClassAttributes f c.pool t.pool (name_of c) h.bootstrap c.attributes t.attributes) fetch_is h.outside.attributes))

  abbrev init : ProbeInit
  init = record { id = id; count = sum_by probe_count l.bodies; bootstrap = bootstrap_of fetch h.bootstrap }

  pub probes_new : n.probes ≡ Some init
  probes_new =
      one_probes t n.name n.bodies (Some init) n.probes
      (are_probes t n.name n.bodies fetch (sym (ap fetch_of h.outside.major ∙ fetch_is)) moved.last last_first
      id (sum_by probe_count l.bodies) parts.places.name asks named (Some init) (refl, refl) bootstrap_new tt)
      q_is.probes

  -- ---- how the array is got

  -- what a pair says of it
  abbrev GetsArray : Fetch → Type 0
  GetsArray f =
      AreTwinBodies names new_names f (giver_of f l.name h.bootstrap) 0 l.bodies n.bodies moved.last
      × (IsAddedBody f new_names l.name (cast_signed w64 id) (sum_by probe_count l.bodies) moved.last
      × ((n.statics ≡ l.statics ++ added_statics f)
      × (n.probes ≡ Some (record { id = id; count = sum_by probe_count l.bodies; bootstrap = bootstrap_of f h.bootstrap }))))

  gets_array : GetsArray (fetch_of l.version)
  gets_array = subst GetsArray (sym (ap fetch_of p_is.version ∙ fetch_is)) (
    subst (λ (o : List ℕ). AreTwinBodies names new_names fetch (giver_of fetch o h.bootstrap) 0 l.bodies n.bodies moved.last) name_is moved.twins,
    (added_is, (statics_new, probes_new)),
  )

  pub changed_pair : IsChangedPair names new_names l n
  changed_pair = record {
    name = name_new;
    version = version_new;
    has_clinit = clinit_new;
    none_added = has_neither names c l p_is not_added;
    no_probes = no_probes names c l p_is not_added;
    none_straddles = λ b there.
        let at = stands_at l.bodies b there in
        none_straddles c class room.0 names b.method b (p_is.bodies.are.each at.0 b at.1);
    id = id;
    bootstrap = h.bootstrap;
    added = moved.last;
    bodies = gets_array.0;
    added_is = gets_array.1.0;
    statics = gets_array.1.1.0;
    probes = gets_array.1.1.1;
  }
