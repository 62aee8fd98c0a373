-- A class and what is linked of the text of a twin of it are a changed pair.
use Rattle.std.proofs.Common.{◌≡◌, ◌⊎◌, inl, inr, ℕ, Bool, true, false, cond, ◌&&◌, List, [], ◌∷◌, ◌++◌, Contains, Option, Some, None, bytes_eq, if◌then◌else◌, refl, ◌∙◌, ap, subst}
use Rattle.std.specs.Prelude.{slice_get}
use Rattle.std.proofs.lemmas.List.Concat.{flat_map-cons}
use Rattle.std.proofs.lemmas.Option.{none-some, slice_get_within, get_or_from_slice_get}
use Rattle.std.proofs.lemmas.Slice.Eq.{bytes_eq-Decides}
use Rattle.jc_bytes.proofs.BooleanLaws.{first_in, later_in, which_in, none_in}
use Rattle.jc_bytes.proofs.OptionLaws.{some_is}
use Rattle.jc_bytes.proofs.ListLaws.{stands_at}
use Rattle.jc_methods.specs.VerificationTypes.{Names}
use Rattle.jc_methods.specs.EntryState.{is_static}
use Rattle.jc_methods.specs.ProbeMembers.{fetch_of, init_name}
use Rattle.jc_methods.specs.declared.body.Body.{Body}
use Rattle.jc_methods.specs.declared.probe_members.Fetch.{Fetch}
use Rattle.jc_programs.specs.declared.program.Linked.{Linked}
use Rattle.jc_programs.specs.declared.program.ProbeInit.{ProbeInit}
use Rattle.jc_programs.specs.declared.program.StaticField.{StaticField}
use Rattle.jc_pool.specs.Lookup.{utf8_of}
use Rattle.jc_class.specs.ClassId.{class_id}
use Rattle.jc_class.specs.declared.class_file.ClassFile.{ClassFile}
use Rattle.jc_class.specs.declared.class_file.Member.{Member}
use Rattle.jc_class.proofs.FirstBadLaws.{one_class_of}
use Rattle.jc_twin_programs.specs.TwinProgram.{HasNoAdded, IsAddedName, HasNeither, IsUnchangedPair}
use Rattle.jc_instrument.specs.Causes.{NoCause}
use Rattle.jc_instrument.specs.Reasons.{HasAdded, HasAddedName}
use Rattle.jc_instrument.specs.Refused.{IsAccepted, probe_causes}
use Rattle.jc_link_programs.specs.Linking.{IsLinkedOf, IsLinkedClass}
use Rattle.jc_instrument_reread.specs.Written.{added_type}
use Rattle.jc_link_programs.specs.ProbeInits.{AreProbes, added_of, is_added}
use Rattle.jc_link_programs.specs.Statics.{static_of, static_with, statics_among}
use Rattle.jc_link_programs.proofs.SameLinkedLaws.{same_linked}
use Rattle.jc_link_laws.proofs.KeptStaticsLaws.{static_name}

pub listed : {X : Type 0} (xs : List X) (k : ℕ) (x : X) → slice_get xs k ≡ Some x → Contains xs x
listed xs k x at = (k, slice_get_within xs k x at, get_or_from_slice_get xs k x x at)

either_in : {X : Type 0} (xs ys : List X) (x : X) → Contains (xs ++ ys) x → Contains xs x ⊎ Contains ys x
either_in [] ys x there = inr there
either_in (z ∷ xs) ys x there = by (which_in z (xs ++ ys) x there) (either_in xs ys x)
  where
    by : (z ≡ x) ⊎ Contains (xs ++ ys) x → (Contains (xs ++ ys) x → Contains xs x ⊎ Contains ys x) → Contains (z ∷ xs) x ⊎ Contains ys x
    by (inl same) later = inl (subst (Contains (z ∷ xs)) same (first_in z xs))
    by (inr behind) later = put (later behind)
      where
        put : Contains xs x ⊎ Contains ys x → Contains (z ∷ xs) x ⊎ Contains ys x
        put (inl c) = inl (later_in z xs x c)
        put (inr c) = inr c

-- ---- names that are added

-- no member of an accepted class has one of them
pub none_added : (id : ℕ) (c : ClassFile) → NoCause (probe_causes id c) → HasAdded c → ⊥
none_added id c none added = none.1.0 _ (record { is = added; refusal = refl })

module _ (names : Names) (c : ClassFile) (l : Linked) (p : IsLinkedOf names c l) (none : HasAdded c → ⊥) where
  body_name : (b : Body) → Contains l.bodies b → IsAddedName b.name → ⊥
  body_name b there added =
      let at = stands_at l.bodies b there in
      let body = p.bodies.are.each at.0 b at.1 in
      let name = body.is.parts.name in
      none (inr (inl (body.method, listed c.methods b.method body.method body.at, by body.method name added)))
    where
      by : (m : Member) → utf8_of c.pool m.name ≡ Some b.name → IsAddedName b.name → HasAddedName c.pool m
      by m name (inl init) = inl (name ∙ ap Some init)
      by m name (inr data_) = inr (name ∙ ap Some data_)

  -- a static field is one of the fields
  of_field : (f : StaticField) (fields : List Member) → Contains (statics_among c.pool fields) f
      → (field : Member) × Contains fields field × (utf8_of c.pool field.name ≡ Some f.name)
  of_field f [] there = absurd (none_in f there)
  of_field f (m ∷ ms) there =
      by (either_in (static_of c.pool m) (statics_among c.pool ms) f (subst (λ (ss : List StaticField). Contains ss f) (flat_map-cons (static_of c.pool) m ms) there))
      (of_field f ms)
    where
      here : (t : Bool) → Contains (if t then static_with c.pool m (utf8_of c.pool m.name) (utf8_of c.pool m.desc) else []) f → utf8_of c.pool m.name ≡ Some f.name
      here true found = static_name c.pool m f (utf8_of c.pool m.name) (utf8_of c.pool m.desc) found
      here false found = absurd (none_in f found)

      by : Contains (static_of c.pool m) f ⊎ Contains (statics_among c.pool ms) f
          → (Contains (statics_among c.pool ms) f → (field : Member) × Contains ms field × (utf8_of c.pool field.name ≡ Some f.name))
          → (field : Member) × Contains (m ∷ ms) field × (utf8_of c.pool field.name ≡ Some f.name)
      by (inl found) later = (m, first_in m ms, here (is_static m.flags) found)
      by (inr found) later = let x = later found in (x.0, later_in m ms x.0 x.1, x.2)

  static_field_name : (f : StaticField) → Contains l.statics f → IsAddedName f.name → ⊥
  static_field_name f there added =
      let found = of_field f c.fields (subst (λ (ss : List StaticField). Contains ss f) p.statics there) in
      none (inl (found.0, found.1, by found.0 found.2 added))
    where
      by : (m : Member) → utf8_of c.pool m.name ≡ Some f.name → IsAddedName f.name → HasAddedName c.pool m
      by m name (inl init) = inl (name ∙ ap Some init)
      by m name (inr data_) = inr (name ∙ ap Some data_)

  pub has_neither : HasNeither l
  has_neither = record { bodies = body_name; statics = static_field_name }

  pub has_no_added : HasNoAdded l
  has_no_added = record { bodies = λ b there is. body_name b there (inl is); statics = λ f there is. static_field_name f there (inr is) }

-- the first body with the name of the added method has this name
pub added_named : (fetch : Fetch) (bodies : List Body) (b : Body) → added_of fetch bodies ≡ Some b → Contains bodies b × (b.name ≡ init_name)
added_named fetch [] b e = absurd (none-some b e)
added_named fetch (x ∷ xs) b e = by (is_added fetch x) refl e (added_named fetch xs b)
  where
    name_is : (s t : Bool) → s && t ≡ true → s ≡ true
    name_is true t h = refl
    name_is false t h = h

    by : (t : Bool) → is_added fetch x ≡ t → cond t (Some x) (added_of fetch xs) ≡ Some b → (added_of fetch xs ≡ Some b → Contains xs b × (b.name ≡ init_name))
        → Contains (x ∷ xs) b × (b.name ≡ init_name)
    by true is found later = subst (λ (y : Body). Contains (x ∷ xs) y × (y.name ≡ init_name)) (some_is found) (
      first_in x xs,
      (bytes_eq-Decides x.name init_name).0 (name_is (bytes_eq x.name init_name) (bytes_eq x.desc (added_type fetch)) is),
    )
    by false is found later = let f = later found in (later_in x xs b f.0, f.1)

pub no_probes : (names : Names) (c : ClassFile) (l : Linked) → IsLinkedOf names c l → (HasAdded c → ⊥) → l.probes ≡ None
no_probes names c l p none = by l.probes p.probes
  where
    by : (o : Option ProbeInit) → AreProbes c l.name l.bodies o → o ≡ None
    by None is = refl
    by (Some init) is =
        let named = added_named (fetch_of c.major) l.bodies is.body is.first in
        absurd (body_name names c l p none is.body named.0 (inl named.1))

-- ---- an unchanged pair

pub unchanged_pair : (original : List ℕ) (names new_names : Names) (l n : Linked) → IsAccepted original → IsLinkedClass names original l → IsLinkedClass new_names original n
    → IsUnchangedPair names new_names l n
unchanged_pair original names new_names l n accepted p q =
    let same = same_linked names new_names original l n p q in
    let file = one_class_of original accepted.0 p.file accepted.1 p.text in
    let none = none_added (class_id original) p.file (subst (λ (c : ClassFile). NoCause (probe_causes (class_id original) c)) file accepted.2) in
    record {
      name = same.name;
      version = same.version;
      bodies = same.bodies;
      statics = same.statics;
      has_clinit = same.has_clinit;
      probes = same.probes;
      none_added = has_no_added names p.file l p.is none;
    }
