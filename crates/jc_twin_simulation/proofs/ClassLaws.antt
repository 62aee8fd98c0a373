-- The classes of a program and of its twin by their names, and their methods and fields.
use Rattle.std.proofs.Common.{◌≡◌, ◌⊎◌, inl, inr, ⊎_elim, ℕ, zero, suc, ◌+◌, ◌<◌, Bool, true, false, ◌&&◌, ◌||◌, cond, List, [], ◌∷◌, ◌++◌, length, map, Some, None, refl, sym, ap, ap₂, ◌∙◌, subst, arith}
use Rattle.std.specs.Prelude.{slice_get, bytes_eq}
use Rattle.std.specs.Int.{w64, cast_signed}
use Rattle.std.specs.List.{list_any, sum_by}
use Rattle.std.proofs.lemmas.Bool.{and_parts, and_from, false_from_ne_true}
use Rattle.std.proofs.lemmas.List.{append-nil, length-map}
use Rattle.std.proofs.lemmas.Option.{none-some}
use Rattle.jc_bytes.proofs.BooleanLaws.{stands_in}
use Rattle.jc_bytes.proofs.TextEqualLaws.{same_bytes, bytes_are}
use Rattle.jc_bytes.proofs.ListLaws.{map_append}
use Rattle.jc_methods.specs.VerificationTypes.{Names}
use Rattle.jc_methods.specs.ProbeMembers.{init_name, init_type, data_name, data_type, fetch_of}
use Rattle.jc_methods.specs.declared.body.What.{What}
use Rattle.jc_methods.specs.declared.probe_members.Fetch.{Fetch}
use Rattle.jc_methods.specs.declared.probe_members.Fetch.TheVariants as fetches
use Rattle.jc_methods.specs.declared.body.Body.{Body}
use Rattle.jc_programs.specs.declared.program.Program.{Program}
use Rattle.jc_programs.specs.declared.program.Linked.{Linked}
use Rattle.jc_programs.specs.declared.program.StaticField.{StaticField}
use Rattle.jc_programs.specs.Members.{class_named, method_named, static_named}
use Rattle.jc_plan.specs.Probed.{probe_count}
use Rattle.jc_emit.specs.Added.{IsInitBody, IsAddedBody, giver_of, bootstrap_of, data_static, added_statics}
use Rattle.jc_emit.specs.TwinBodies.{AreSameBodies, AreTwinBodies}
use Rattle.jc_twin_programs.specs.TwinProgram.{IsPair, IsChangedPair, IsUnchangedPair, DifferInName}
use Rattle.jc_machine_model.specs.Methods.{is_init_name, declares_init}
use Rattle.jc_twin_simulation.specs.Beside.{has_data}
use Rattle.jc_twin_simulation.proofs.PlaceLaws.{place, position_place, place_there, place_before, place_last, place_none, place_is, any_at, none_at, place-map}

-- ---- names

pub other_name : (a b : List ℕ) → (a ≡ b → ⊥) → bytes_eq a b ≡ false
other_name a b h = false_from_ne_true (bytes_eq a b) (λ e. h (bytes_are a b e))

-- a name and a descriptor
pub record Key : Type 0 where
  pub name : List ℕ
  pub desc : List ℕ

abbrev pub body_key : Body → Key
body_key b = record { name = b.name; desc = b.desc }

abbrev pub field_key : StaticField → Key
field_key f = record { name = f.name; desc = f.desc }

abbrev pub fits_key : (name desc : List ℕ) → Key → Bool
fits_key name desc k = bytes_eq k.name name && bytes_eq k.desc desc

method_place : (bodies : List Body) (name desc : List ℕ) → method_named bodies name desc ≡ place (fits_key name desc) (map body_key bodies)
method_place bodies name desc = position_place (λ (b : Body). fits_key name desc (body_key b)) bodies ∙ place-map body_key (fits_key name desc) bodies

static_place : (fields : List StaticField) (name desc : List ℕ) → static_named fields name desc ≡ place (fits_key name desc) (map field_key fields)
static_place fields name desc = position_place (λ (f : StaticField). fits_key name desc (field_key f)) fields ∙ place-map field_key (fits_key name desc) fields

-- ---- the keys of a class and of its twin

module _ (names new_names : Names) where
  same_keys : (bodies others : List Body) → AreSameBodies names new_names bodies others → map body_key others ≡ map body_key bodies
  same_keys [] [] are = refl
  same_keys [] (o ∷ others) are = absurd are
  same_keys (b ∷ bodies) [] are = absurd are
  same_keys (b ∷ bodies) (o ∷ others) are = ap₂ (λ k l. k ∷ l) (ap body_key are.0.others) (same_keys bodies others are.1)

  twin_keys : (fetch : Fetch) (giver : What) (first : ℕ) (bodies others : List Body) (added : Body)
      → AreTwinBodies names new_names fetch giver first bodies others added
      → map body_key others ≡ map body_key bodies ++ body_key added ∷ []
  twin_keys fetch giver first [] others added are = ap (map body_key) are
  twin_keys fetch giver first (b ∷ bodies) [] added are = absurd are
  twin_keys fetch giver first (b ∷ bodies) (o ∷ others) added are =
      let same = are.0.twin.method in
      ap₂ (λ k l. k ∷ l) (ap₂ (λ n d. record { name = n; desc = d }) same.name same.desc) (twin_keys fetch giver (first + probe_count b) bodies others added are.1)

-- ---- what is added to a class

module _ (names new_names : Names) (c new : Linked) (pair : IsChangedPair names new_names c new) where
  pub changed_keys : map body_key new.bodies ≡ map body_key c.bodies ++ body_key pair.added ∷ []
  changed_keys =
      twin_keys names new_names (fetch_of c.version) (giver_of (fetch_of c.version) c.name pair.bootstrap) 0 c.bodies new.bodies pair.added pair.bodies

  -- the added method has one name both ways
  pub added_name : pair.added.name ≡ init_name
  added_name = by (fetch_of c.version) pair.added_is
    where
      by : (fetch : Fetch) → IsAddedBody fetch new_names c.name (cast_signed w64 pair.id) (sum_by probe_count c.bodies) pair.added → pair.added.name ≡ init_name
      by fetches.Member is = is.method.name
      by fetches.Constant is = is.method.name

  module _ (way : fetch_of c.version ≡ fetches.Member) where
    pub changed_init : IsInitBody new_names c.name (cast_signed w64 pair.id) (sum_by probe_count c.bodies) pair.added
    changed_init = subst (λ f. IsAddedBody f new_names c.name (cast_signed w64 pair.id) (sum_by probe_count c.bodies) pair.added) way pair.added_is

    pub changed_statics : new.statics ≡ c.statics ++ data_static ∷ []
    changed_statics = pair.statics ∙ ap (λ f. c.statics ++ added_statics f) way

    pub changed_probes : new.probes ≡ Some (record { id = pair.id; count = sum_by probe_count c.bodies; bootstrap = None })
    changed_probes =
        pair.probes ∙ ap (λ f. Some (record { id = pair.id; count = sum_by probe_count c.bodies; bootstrap = bootstrap_of f pair.bootstrap })) way

  -- a class that gets its array by a constant has no field for it
  pub constant_statics : fetch_of c.version ≡ fetches.Constant → new.statics ≡ c.statics
  constant_statics way = pair.statics ∙ ap (λ f. c.statics ++ added_statics f) way ∙ append-nil c.statics

-- ---- what is found

-- what is found among some is found where others stand behind them
found_before : (test : Key → Bool) (xs ys all : List Key) (k : ℕ) → all ≡ xs ++ ys → place test xs ≡ Some k → place test all ≡ Some k
found_before test xs ys all k e h = ap (place test) e ∙ place_before test xs ys k h

-- where none is found among them, it is the last one or none
found_last : (test : Key → Bool) (xs : List Key) (y : Key) (all : List Key) → all ≡ xs ++ y ∷ [] → place test xs ≡ None
    → (place test all ≡ None) ⊎ ((place test all ≡ Some (length xs)) × (test y ≡ true))
found_last test xs y all e h = by (test y) refl
  where
    by : (b : Bool) → test y ≡ b → (place test all ≡ None) ⊎ ((place test all ≡ Some (length xs)) × (test y ≡ true))
    by true q = inr (ap (place test) e ∙ place_last test xs y h ∙ ap (λ b. cond b (Some (length xs)) None) q, q)
    by false q = inl (ap (place test) e ∙ place_last test xs y h ∙ ap (λ b. cond b (Some (length xs)) None) q)

module _ (names new_names : Names) (c new : Linked) where
  -- ---- fields

  pub statics_found : IsPair names new_names c new → (name desc : List ℕ) (k : ℕ) → static_named c.statics name desc ≡ Some k
      → static_named new.statics name desc ≡ Some k
  statics_found (inl pair) name desc k h = ap (λ l. static_named l name desc) pair.statics ∙ h
  statics_found (inr pair) name desc k h = by (fetch_of c.version) refl
    where
      by : (fetch : Fetch) → fetch_of c.version ≡ fetch → static_named new.statics name desc ≡ Some k
      by fetches.Constant way = ap (λ l. static_named l name desc) (constant_statics names new_names c new pair way) ∙ h
      by fetches.Member way =
          static_place new.statics name desc
          ∙ found_before (fits_key name desc) (map field_key c.statics) (field_key data_static ∷ []) (map field_key new.statics) k
          (ap (map field_key) (changed_statics names new_names c new pair way) ∙ map_append field_key c.statics data_static)
          (sym (static_place c.statics name desc) ∙ h)

  pub statics_missing : IsPair names new_names c new → (name desc : List ℕ) → static_named c.statics name desc ≡ None
      → (static_named new.statics name desc ≡ None) ⊎ ((k : ℕ) × (static_named new.statics name desc ≡ Some k) × (bytes_eq name data_name ≡ true))
  statics_missing (inl pair) name desc h = inl (ap (λ l. static_named l name desc) pair.statics ∙ h)
  statics_missing (inr pair) name desc h = by (fetch_of c.version) refl
    where
      by : (fetch : Fetch) → fetch_of c.version ≡ fetch
          → (static_named new.statics name desc ≡ None) ⊎ ((k : ℕ) × (static_named new.statics name desc ≡ Some k) × (bytes_eq name data_name ≡ true))
      by fetches.Constant way = inl (ap (λ l. static_named l name desc) (constant_statics names new_names c new pair way) ∙ h)
      by fetches.Member way = ⊎_elim
          (λ none. inl (static_place new.statics name desc ∙ none))
          (λ last. inr (
            length (map field_key c.statics),
            static_place new.statics name desc
                ∙ last.0,
            same_bytes name data_name (sym (bytes_are data_name name (and_parts (bytes_eq data_name name) (bytes_eq data_type desc) last.1).0)),
          ))
          (found_last (fits_key name desc) (map field_key c.statics) (field_key data_static) (map field_key new.statics)
          (ap (map field_key) (changed_statics names new_names c new pair way) ∙ map_append field_key c.statics data_static)
          (sym (static_place c.statics name desc) ∙ h))

  -- ---- methods

  pub methods_found : IsPair names new_names c new → (name desc : List ℕ) (k : ℕ) → method_named c.bodies name desc ≡ Some k
      → method_named new.bodies name desc ≡ Some k
  methods_found (inl pair) name desc k h =
      method_place new.bodies name desc ∙ ap (place (fits_key name desc)) (same_keys names new_names c.bodies new.bodies pair.bodies)
      ∙ sym (method_place c.bodies name desc) ∙ h
  methods_found (inr pair) name desc k h =
      method_place new.bodies name desc
      ∙ found_before (fits_key name desc) (map body_key c.bodies) (body_key pair.added ∷ []) (map body_key new.bodies) k
      (changed_keys names new_names c new pair) (sym (method_place c.bodies name desc) ∙ h)

  -- the added method
  pub record FindsAdded (name desc : List ℕ) : Type 0 where
    pub pair : IsChangedPair names new_names c new
    pub found : method_named new.bodies name desc ≡ Some (length c.bodies)
    pub fits : fits_key name desc (body_key pair.added) ≡ true

  pub methods_missing : IsPair names new_names c new → (name desc : List ℕ) → method_named c.bodies name desc ≡ None
      → (method_named new.bodies name desc ≡ None) ⊎ FindsAdded name desc
  methods_missing (inl pair) name desc h =
      inl (method_place new.bodies name desc ∙ ap (place (fits_key name desc)) (same_keys names new_names c.bodies new.bodies pair.bodies)
      ∙ sym (method_place c.bodies name desc) ∙ h)
  methods_missing (inr pair) name desc h = ⊎_elim
      (λ none. inl (method_place new.bodies name desc ∙ none))
      (λ last. inr (record { pair = pair; found = method_place new.bodies name desc ∙ last.0 ∙ ap Some (length-map c.bodies body_key); fits = last.1 }))
      (found_last (fits_key name desc) (map body_key c.bodies) (body_key pair.added) (map body_key new.bodies)
      (changed_keys names new_names c new pair) (sym (method_place c.bodies name desc) ∙ h))

-- ---- classes

pub class_same : (p p' : Program) → map (λ (c : Linked). c.name) p'.classes ≡ map (λ (c : Linked). c.name) p.classes → (name : List ℕ)
    → class_named p' name ≡ class_named p name
class_same p p' e name = class_place p' name ∙ ap (place (λ n. bytes_eq n name)) e ∙ sym (class_place p name)
  where
    class_place : (r : Program) (name : List ℕ) → class_named r name ≡ place (λ n. bytes_eq n name) (map (λ (c : Linked). c.name) r.classes)
    class_place r name = position_place (λ (c : Linked). bytes_eq c.name name) r.classes ∙ place-map (λ (c : Linked). c.name) (λ n. bytes_eq n name) r.classes

pub class_there : (p : Program) (name : List ℕ) (k : ℕ) → class_named p name ≡ Some k
    → (c : Linked) × (slice_get p.classes k ≡ Some c) × (bytes_eq c.name name ≡ true)
class_there p name k h =
    place_there (λ (c : Linked). bytes_eq c.name name) p.classes k (sym (position_place (λ (c : Linked). bytes_eq c.name name) p.classes) ∙ h)

pub static_there : (c : Linked) (name desc : List ℕ) (k : ℕ) → static_named c.statics name desc ≡ Some k → (f : StaticField) × (slice_get c.statics k ≡ Some f)
static_there c name desc k h =
    let t = place_there (λ (f : StaticField). fits_key name desc (field_key f)) c.statics k (sym (position_place (λ (f : StaticField). fits_key name desc (field_key f)) c.statics) ∙ h) in
    (t.0, t.1)

pub method_there : (c : Linked) (name desc : List ℕ) (k : ℕ) → method_named c.bodies name desc ≡ Some k → (b : Body) × (slice_get c.bodies k ≡ Some b)
method_there c name desc k h =
    let t = place_there (λ (b : Body). fits_key name desc (body_key b)) c.bodies k (sym (position_place (λ (b : Body). fits_key name desc (body_key b)) c.bodies) ∙ h) in
    (t.0, t.1)

-- ---- a class by its own name

differ_at : (classes : List Linked) → DifferInName classes → (j k : ℕ) (c d : Linked) → j < k → slice_get classes j ≡ Some c
    → slice_get classes k ≡ Some d → d.name ≡ c.name → ⊥
differ_at [] differ j k c d lt e h same = absurd (none-some c e)
differ_at (x ∷ classes) differ j zero c d lt e h same = absurd (omega arith)
differ_at (x ∷ classes) differ zero (suc k) c d lt e h same =
    let is : x ≡ c = cc in differ.0 d (stands_in classes k d h) (same ∙ ap (λ (y : Linked). y.name) (sym is))
differ_at (x ∷ classes) differ (suc j) (suc k) c d lt e h same = differ_at classes differ.1 j k c d (omega arith) e h same

pub class_again : (p : Program) → DifferInName p.classes → (k : ℕ) (c : Linked) → slice_get p.classes k ≡ Some c → class_named p c.name ≡ Some k
class_again p differ k c e =
    position_place (λ (x : Linked). bytes_eq x.name c.name) p.classes
    ∙ place_is (λ (x : Linked). bytes_eq x.name c.name) p.classes k c e (same_bytes c.name c.name refl)
    (λ j d lt h. other_name d.name c.name (λ same. differ_at p.classes differ j k d c lt h e (sym same)))

-- ---- the added members

-- no field of the original is `$jacocoData`, so the added one is found
pub data_found : (names new_names : Names) (c new : Linked) → IsChangedPair names new_names c new → fetch_of c.version ≡ fetches.Member
    → static_named new.statics data_name data_type ≡ Some (length c.statics)
data_found names new_names c new pair way =
    position_place (fits_field data_name data_type) new.statics
    ∙ ap (place (fits_field data_name data_type)) (changed_statics names new_names c new pair way)
    ∙ place_last (fits_field data_name data_type) c.statics data_static
    (place_none (fits_field data_name data_type) c.statics
    (λ k f e. ap (λ b. b && bytes_eq f.desc data_type)
    (other_name f.name data_name (λ same. pair.none_added.statics f (stands_in c.statics k f e) (inr same)))))
  where
    fits_field : List ℕ → List ℕ → StaticField → Bool
    fits_field name desc f = bytes_eq f.name name && bytes_eq f.desc desc

-- and no method is `$jacocoInit`
pub init_found : (names new_names : Names) (c new : Linked) (pair : IsChangedPair names new_names c new) → fetch_of c.version ≡ fetches.Member
    → method_named new.bodies init_name init_type ≡ Some (length c.bodies)
init_found names new_names c new pair way =
    method_place new.bodies init_name init_type
    ∙ ap (place (fits_key init_name init_type)) (changed_keys names new_names c new pair)
    ∙ place_last (fits_key init_name init_type) (map body_key c.bodies) (body_key pair.added) (sym (method_place c.bodies init_name init_type) ∙ missing)
    ∙ ap (λ b. cond b (Some (length (map body_key c.bodies))) None) fits ∙ ap Some (length-map c.bodies body_key)
  where
    missing : method_named c.bodies init_name init_type ≡ None
    missing =
        position_place (λ (b : Body). bytes_eq b.name init_name && bytes_eq b.desc init_type) c.bodies
        ∙ place_none (λ (b : Body). bytes_eq b.name init_name && bytes_eq b.desc init_type) c.bodies
        (λ k b e. ap (λ x. x && bytes_eq b.desc init_type)
        (other_name b.name init_name (λ same. pair.none_added.bodies b (stands_in c.bodies k b e) (inl same))))

    fits : fits_key init_name init_type (body_key pair.added) ≡ true
    fits = and_from _ _ (same_bytes pair.added.name init_name (added_name names new_names c new pair))
        (same_bytes pair.added.desc init_type (changed_init names new_names c new pair way).method.desc_is)

-- ---- which classes declare `$jacocoInit`

any-map : {X Y : Type 0} (g : X → Y) (q : Y → Bool) (xs : List X) → list_any (λ x. q (g x)) xs ≡ list_any q (map g xs)
any-map g q [] = refl
any-map g q (x ∷ xs) = ap (λ b. q (g x) || b) (any-map g q xs)

declares_key : (c : Linked) → declares_init c ≡ list_any (λ (k : Key). is_init_name k.name) (map body_key c.bodies)
declares_key c = any-map body_key (λ (k : Key). is_init_name k.name) c.bodies

pub original_declares : (names new_names : Names) (c new : Linked) → IsPair names new_names c new → declares_init c ≡ false
original_declares names new_names c new (inl pair) =
    none_at (λ (b : Body). is_init_name b.name) c.bodies
    (λ k b e. other_name b.name init_name (λ same. pair.none_added.bodies b (stands_in c.bodies k b e) same))
original_declares names new_names c new (inr pair) =
    none_at (λ (b : Body). is_init_name b.name) c.bodies
    (λ k b e. other_name b.name init_name (λ same. pair.none_added.bodies b (stands_in c.bodies k b e) (inl same)))

pub unchanged_declares : (names new_names : Names) (c new : Linked) → IsUnchangedPair names new_names c new → declares_init new ≡ false
unchanged_declares names new_names c new pair =
    declares_key new ∙ ap (list_any (λ (k : Key). is_init_name k.name)) (same_keys names new_names c.bodies new.bodies pair.bodies)
    ∙ sym (declares_key c) ∙ original_declares names new_names c new (inl pair)

pub changed_declares : (names new_names : Names) (c new : Linked) (pair : IsChangedPair names new_names c new)
    → slice_get new.bodies (length c.bodies) ≡ Some pair.added → declares_init new ≡ true
changed_declares names new_names c new pair e =
    any_at (λ (b : Body). is_init_name b.name) new.bodies (length c.bodies) pair.added e
    (same_bytes pair.added.name init_name (added_name names new_names c new pair))

-- ---- which classes have `$jacocoData`

last_field : (fields : List StaticField) (f : StaticField) → slice_get (fields ++ f ∷ []) (length fields) ≡ Some f
last_field [] f = refl
last_field (g ∷ fields) f = last_field fields f

pub unchanged_data : (names new_names : Names) (c new : Linked) → IsUnchangedPair names new_names c new → has_data new ≡ false
unchanged_data names new_names c new pair =
    ap (list_any (λ (f : StaticField). bytes_eq f.name data_name)) pair.statics
    ∙ none_at (λ (f : StaticField). bytes_eq f.name data_name) c.statics
    (λ k f e. other_name f.name data_name (λ same. pair.none_added.statics f (stands_in c.statics k f e) same))

pub changed_data : (names new_names : Names) (c new : Linked) → IsChangedPair names new_names c new → fetch_of c.version ≡ fetches.Member → has_data new ≡ true
changed_data names new_names c new pair way =
    any_at (λ (f : StaticField). bytes_eq f.name data_name) new.statics (length c.statics) data_static
    (ap (λ l. slice_get l (length c.statics)) (changed_statics names new_names c new pair way) ∙ last_field c.statics data_static)
    (same_bytes data_name data_name refl)

pub constant_data : (names new_names : Names) (c new : Linked) → IsChangedPair names new_names c new → fetch_of c.version ≡ fetches.Constant
    → has_data new ≡ false
constant_data names new_names c new pair way =
    ap (list_any (λ (f : StaticField). bytes_eq f.name data_name)) (constant_statics names new_names c new pair way)
    ∙ none_at (λ (f : StaticField). bytes_eq f.name data_name) c.statics
    (λ k f e. other_name f.name data_name (λ same. pair.none_added.statics f (stands_in c.statics k f e) (inr same)))
