-- The bodies of a program are seen beside those of its twin.
use Rattle.std.proofs.Common.{◌≡◌, ◌⊎◌, inl, inr, ⊎_elim, ℕ, ℤ, zero, suc, ◌+◌, ◌≤◌, List, [], ◌∷◌, take, length, Some, refl, sym, ap, ◌∙◌, subst, arith}
use Rattle.std.specs.Prelude.{slice_get, Contains}
use Rattle.std.specs.Int.{w64, cast_signed}
use Rattle.std.specs.List.{sum_by}
use Rattle.std.proofs.lemmas.List.Sums.{sum_by-cons, sum_by-take-le}
use Rattle.std.proofs.lemmas.Option.{same_Some}
use Rattle.jc_methods.specs.VerificationTypes.{Names}
use Rattle.jc_methods.specs.WellMade.{IsWellMadeOfAnySize}
use Rattle.jc_methods.specs.ProbeMembers.{fetch_of}
use Rattle.jc_methods.specs.declared.body.Body.{Body}
use Rattle.jc_methods.specs.declared.body.What.{What}
use Rattle.jc_methods.specs.declared.probe_members.Fetch.{Fetch}
use Rattle.jc_methods.specs.declared.probe_members.Fetch.TheVariants as fetches
use Rattle.jc_programs.specs.declared.program.Linked.{Linked}
use Rattle.jc_programs.specs.declared.program.Program.{Program}
use Rattle.jc_bytes.proofs.BooleanLaws.{which_in, none_in, first_in, later_in, stands_in}
use Rattle.jc_plan.specs.Probed.{probe_count, first_id}
use Rattle.jc_plan.proofs.OneWayLaws.{firsts_rise}
use Rattle.jc_emit.specs.Added.{IsAddedBody, giver_of}
use Rattle.jc_emit.specs.Marks.{Marks}
use Rattle.jc_emit.specs.Seen.{unchanged_marks}
use Rattle.jc_twin_programs.specs.SeenProgram.{IsSeenTwin, IsSeenSame, IsSeenAt}
use Rattle.jc_emit.specs.TwinBodies.{AreSameBodies, AreTwinBodies, IsSameBody, HasTwinBody}
use Rattle.jc_twin_programs.specs.TwinProgram.{IsUnchangedPair, IsChangedPair, IsPair, ArePairs, AreOwned, TwinProgram}
use Rattle.jc_emit.proofs.SeenLaws.{seen, unchanged_seen}
use Rattle.jc_emit.proofs.OneMarksLaws.{one_marks}

-- ---- the classes

pair_at : (names new_names : Names) (classes others : List Linked) → ArePairs names new_names classes others
    → (place : ℕ) (class : Linked) → slice_get classes place ≡ Some class
    → (new : Linked) × (slice_get others place ≡ Some new) × IsPair names new_names class new
pair_at names new_names [] [] are place class h = cc
pair_at names new_names [] (o ∷ others) are place class h = absurd are
pair_at names new_names (c ∷ classes) [] are place class h = absurd are
pair_at names new_names (c ∷ classes) (o ∷ others) are zero class h =
    (o, refl, subst (λ x. IsPair names new_names x o) (same_Some c class h) are.0)
pair_at names new_names (c ∷ classes) (o ∷ others) are (suc place) class h = pair_at names new_names classes others are.1 place class h

pairs_alike : (names new_names : Names) (classes others : List Linked) → ArePairs names new_names classes others
    → length others ≡ length classes
pairs_alike names new_names [] [] are = refl
pairs_alike names new_names [] (o ∷ others) are = absurd are
pairs_alike names new_names (c ∷ classes) [] are = absurd are
pairs_alike names new_names (c ∷ classes) (o ∷ others) are = ap suc (pairs_alike names new_names classes others are.1)

pub classes_alike : (p p' : Program) → TwinProgram p p' → length p'.classes ≡ length p.classes
classes_alike p p' t = pairs_alike p.names p'.names p.classes p'.classes t.pairs

pub class_pair : (p p' : Program) → TwinProgram p p' → (place : ℕ) (class : Linked) → slice_get p.classes place ≡ Some class
    → (new : Linked) × (slice_get p'.classes place ≡ Some new) × IsPair p.names p'.names class new
class_pair p p' t place class h = pair_at p.names p'.names p.classes p'.classes t.pairs place class h

-- ---- the bodies of a class

same_at : (names new_names : Names) (bodies others : List Body) → AreSameBodies names new_names bodies others
    → (number : ℕ) (b : Body) → slice_get bodies number ≡ Some b
    → (b' : Body) × (slice_get others number ≡ Some b') × IsSameBody names new_names b b'
same_at names new_names [] [] are number b h = cc
same_at names new_names [] (o ∷ others) are number b h = absurd are
same_at names new_names (x ∷ bodies) [] are number b h = absurd are
same_at names new_names (x ∷ bodies) (o ∷ others) are zero b h =
    (o, refl, subst (λ y. IsSameBody names new_names y o) (same_Some x b h) are.0)
same_at names new_names (x ∷ bodies) (o ∷ others) are (suc number) b h = same_at names new_names bodies others are.1 number b h

same_alike : (names new_names : Names) (bodies others : List Body) → AreSameBodies names new_names bodies others
    → length others ≡ length bodies
same_alike names new_names [] [] are = refl
same_alike names new_names [] (o ∷ others) are = absurd are
same_alike names new_names (x ∷ bodies) [] are = absurd are
same_alike names new_names (x ∷ bodies) (o ∷ others) are = ap suc (same_alike names new_names bodies others are.1)

-- What holds of each body and the one in its place, and of its first id, which is told one body after the other, holds with
-- the number that the bodies in front have together.
module _ (Has : ℕ → Body → Body → Type 0) (count : Body → ℕ) where
  abbrev Each : ℕ → List Body → List Body → Body → Type 0
  Each first [] others added = others ≡ added ∷ []
  Each first (b ∷ bodies) [] added = ⊥
  Each first (b ∷ bodies) (b' ∷ others) added = Has first b b' × Each (first + count b) bodies others added

  each_at : (first : ℕ) (bodies others : List Body) (added : Body) → Each first bodies others added
      → (number : ℕ) (b : Body) → slice_get bodies number ≡ Some b
      → (b' : Body) × (slice_get others number ≡ Some b') × Has (first + sum_by count (take number bodies)) b b'
  each_at first [] others added are number b h = cc
  each_at first (x ∷ bodies) [] added are number b h = absurd are
  each_at first (x ∷ bodies) (o ∷ others) added are zero b h =
      let none : first ≡ first + 0 = omega arith in
      (o, refl, subst (λ k. Has k b o) none (subst (λ y. Has first y o) (same_Some x b h) are.0))
  each_at first (x ∷ bodies) (o ∷ others) added are (suc number) b h =
      let more = each_at (first + count x) bodies others added are.1 number b h in
      let sum : first + count x + sum_by count (take number bodies) ≡ first + sum_by count (take (suc number) (x ∷ bodies)) =
      omega (arith, sum_by-cons count x (take number bodies)) in
      (more.0, more.1, subst (λ k. Has k b more.0) sum more.2)

twins_each : (names new_names : Names) (fetch : Fetch) (giver : What) (first : ℕ) (bodies others : List Body) (added : Body)
    → AreTwinBodies names new_names fetch giver first bodies others added
    → Each (HasTwinBody names new_names fetch giver) probe_count first bodies others added
twins_each names new_names fetch giver first [] others added are = are
twins_each names new_names fetch giver first (x ∷ bodies) [] added are = absurd are
twins_each names new_names fetch giver first (x ∷ bodies) (o ∷ others) added are =
    (are.0, twins_each names new_names fetch giver (first + probe_count x) bodies others added are.1)

-- the first id that is told one body after the other is that of the bodies in front
twin_at : (names new_names : Names) (fetch : Fetch) (giver : What) (first : ℕ) (bodies others : List Body) (added : Body)
    → AreTwinBodies names new_names fetch giver first bodies others added
    → (number : ℕ) (b : Body) → slice_get bodies number ≡ Some b
    → (b' : Body) × (slice_get others number ≡ Some b') × HasTwinBody names new_names fetch giver (first + first_id bodies number) b b'
twin_at names new_names fetch giver first bodies others added are number b h =
    each_at (HasTwinBody names new_names fetch giver) probe_count first bodies others added (twins_each names new_names fetch giver first bodies others added are) number b h

-- behind the twins stands one body more
added_at : (names new_names : Names) (fetch : Fetch) (giver : What) (first : ℕ) (bodies others : List Body) (added : Body)
    → AreTwinBodies names new_names fetch giver first bodies others added
    → (slice_get others (length bodies) ≡ Some added) × (length others ≡ length bodies + 1)
added_at names new_names fetch giver first [] others added are = (ap (λ (l : List Body). slice_get l 0) are, ap length are)
added_at names new_names fetch giver first (x ∷ bodies) [] added are = absurd are
added_at names new_names fetch giver first (x ∷ bodies) (o ∷ others) added are =
    let more = added_at names new_names fetch giver (first + probe_count x) bodies others added are.1 in
    (more.0, omega (arith, more.1))

-- what gives the bodies of a class their array, where the bootstrap method has this number
abbrev giver_in : Linked → (bootstrap : ℕ) → What
giver_in class bootstrap = giver_of (fetch_of class.version) class.name bootstrap

pub added_last : (names new_names : Names) (class new : Linked) → (pair : IsChangedPair names new_names class new)
    → (slice_get new.bodies (length class.bodies) ≡ Some pair.added) × (length new.bodies ≡ length class.bodies + 1)
added_last names new_names class new pair = added_at names new_names (fetch_of class.version) (giver_in class pair.bootstrap) 0 class.bodies new.bodies pair.added pair.bodies

-- ---- the bodies of a program

module _ (p p' : Program) (t : TwinProgram p p') where
  well_made : (place number : ℕ) (class : Linked) (b : Body) → slice_get p.classes place ≡ Some class → slice_get class.bodies number ≡ Some b
      → IsWellMadeOfAnySize b
  well_made place number class b h k =
      (t.checked class (stands_in p.classes place class h) b (stands_in class.bodies number b k)).0.of_any_size

  pub body_seen : (place number : ℕ) (class : Linked) (b : Body) → slice_get p.classes place ≡ Some class → slice_get class.bodies number ≡ Some b
      → (new : Linked) × (b' : Body) × (m : Marks) × IsSeenAt p p' place number class new b b' m
  body_seen place number class b h k =
      let found = pair_at p.names p'.names p.classes p'.classes t.pairs place class h in
      by found.0 found.1 found.2
    where
      well : IsWellMadeOfAnySize b
      well = well_made place number class b h k

      by : (new : Linked) → slice_get p'.classes place ≡ Some new → IsPair p.names p'.names class new
          → (new : Linked) × (b' : Body) × (m : Marks) × IsSeenAt p p' place number class new b b' m
      by new at (inl pair) =
          let same = same_at p.names p'.names class.bodies new.bodies pair.bodies number b k in (
            new,
            same.0,
            unchanged_marks b,
            record {
              class_at = h;
              new_at = at;
              body_at = k;
              new_body_at = same.1;
              seen = inr (record { pair = pair; same = same.2; marks = refl; seen = unchanged_seen p.names p'.names b same.0 well same.2 });
            },
          )
      by new at (inr pair) =
          let twin = twin_at p.names p'.names (fetch_of class.version) (giver_in class pair.bootstrap) 0 class.bodies new.bodies pair.added pair.bodies number b k in
          let first : 0 + first_id class.bodies number ≡ first_id class.bodies number = omega arith in
          let has = subst (λ n. HasTwinBody p.names p'.names (fetch_of class.version) (giver_in class pair.bootstrap) n b twin.0) first twin.2 in (
            new,
            twin.0,
            has.twin.marks,
            record {
              class_at = h;
              new_at = at;
              body_at = k;
              new_body_at = twin.1;
              seen = inl (record {
                pair = pair;
                twin = has;
                marks = refl;
                seen = seen p.names p'.names has.states (fetch_of class.version) (giver_in class pair.bootstrap) (first_id class.bodies number) b twin.0 well has.twin;
              });
            },
          )

  not_both : (class new : Linked) → IsChangedPair p.names p'.names class new → IsUnchangedPair p.names p'.names class new → ⊥
  not_both class new changed unchanged =
      omega (arith, (added_last p.names p'.names class new changed).1, same_alike p.names p'.names class.bodies new.bodies unchanged.bodies)

  -- two of one pair of bodies
  marks_alike : (number : ℕ) (class new : Linked) (b b' : Body) (m n : Marks) → IsWellMadeOfAnySize b
      → IsSeenTwin p.names p'.names class new number b b' m ⊎ IsSeenSame p.names p'.names class new b b' m
      → IsSeenTwin p.names p'.names class new number b b' n ⊎ IsSeenSame p.names p'.names class new b b' n → m ≡ n
  marks_alike number class new b b' m n well (inl x) (inl y) =
      one_marks (fetch_of class.version) (first_id class.bodies number) b b' m n well
      (record { names = p.names; new_names = p'.names; states = x.twin.states; giver = giver_in class x.pair.bootstrap; twin = x.twin.twin; marks = x.marks })
      (record { names = p.names; new_names = p'.names; states = y.twin.states; giver = giver_in class y.pair.bootstrap; twin = y.twin.twin; marks = y.marks })
  marks_alike number class new b b' m n well (inl x) (inr y) = absurd (not_both class new x.pair y.pair)
  marks_alike number class new b b' m n well (inr x) (inl y) = absurd (not_both class new y.pair x.pair)
  marks_alike number class new b b' m n well (inr x) (inr y) = x.marks ∙ sym y.marks

  pub marks_one : (place number : ℕ) (class new other : Linked) (other_new : Linked) (b b' d d' : Body) (m n : Marks)
      → IsSeenAt p p' place number class new b b' m → IsSeenAt p p' place number other other_new d d' n → m ≡ n
  marks_one place number class new other other_new b b' d d' m n x y =
      let classes : other ≡ class = same_Some other class (sym y.class_at ∙ x.class_at) in
      let news : other_new ≡ new = same_Some other_new new (sym y.new_at ∙ x.new_at) in
      let bodies : d ≡ b = same_Some d b (sym y.body_at ∙ ap (λ (l : Linked). slice_get l.bodies number) classes ∙ x.body_at) in
      let twins : d' ≡ b' = same_Some d' b' (sym y.new_body_at ∙ ap (λ (l : Linked). slice_get l.bodies number) news ∙ x.new_body_at) in
      let second = subst (λ c. IsSeenTwin p.names p'.names c new number b b' n ⊎ IsSeenSame p.names p'.names c new b b' n) classes
      (subst (λ c. IsSeenTwin p.names p'.names other c number b b' n ⊎ IsSeenSame p.names p'.names other c b b' n) news
      (subst (λ e. IsSeenTwin p.names p'.names other other_new number e b' n ⊎ IsSeenSame p.names p'.names other other_new e b' n) bodies
      (subst (λ e. IsSeenTwin p.names p'.names other other_new number d e n ⊎ IsSeenSame p.names p'.names other other_new d e n) twins y.seen))) in
      marks_alike number class new b b' m n (well_made place number class b x.class_at x.body_at) x.seen second

-- ---- the ids of a body are among those of its class

ids_among : (bodies : List Body) (number : ℕ) (b : Body) → slice_get bodies number ≡ Some b
    → first_id bodies number + probe_count b ≤ sum_by probe_count bodies
ids_among bodies number b h =
    omega (arith, firsts_rise bodies number (suc number) b (omega arith) h, sum_by-take-le probe_count bodies (suc number))

pub ids_seen : (p p' : Program) (place number : ℕ) (class new : Linked) (b b' : Body) (m : Marks) → IsSeenAt p p' place number class new b b' m
    → first_id class.bodies number + probe_count b ≤ sum_by probe_count class.bodies
ids_seen p p' place number class new b b' m s = ids_among class.bodies number b s.body_at

-- ---- the owners

owned_same : (names new_names : Names) (name : List ℕ) (bodies others : List Body) → AreSameBodies names new_names bodies others
    → ((b : Body) → Contains bodies b → b.owner ≡ name) → (b : Body) → Contains others b → b.owner ≡ name
owned_same names new_names name [] [] are owned b c = absurd (none_in b c)
owned_same names new_names name [] (o ∷ others) are owned b c = absurd are
owned_same names new_names name (x ∷ bodies) [] are owned b c = absurd are
owned_same names new_names name (x ∷ bodies) (o ∷ others) are owned b c =
    ⊎_elim
    (λ here. ap (λ (y : Body). y.owner) (sym here ∙ are.0.others) ∙ owned x (first_in x bodies))
    (λ later. owned_same names new_names name bodies others are.1 (λ y d. owned y (later_in x bodies y d)) b later)
    (which_in o others b c)

owned_twins : (names new_names : Names) (fetch : Fetch) (giver : What) (name : List ℕ) (first : ℕ) (bodies others : List Body) (added : Body)
    → AreTwinBodies names new_names fetch giver first bodies others added → ((b : Body) → Contains bodies b → b.owner ≡ name) → added.owner ≡ name
    → (b : Body) → Contains others b → b.owner ≡ name
owned_twins names new_names fetch giver name first [] others added are owned last b c =
    ⊎_elim (λ here. ap (λ (y : Body). y.owner) (sym here) ∙ last) (λ later. absurd (none_in b later)) (which_in added ([]) b (subst (λ l. Contains l b) are c))
owned_twins names new_names fetch giver name first (x ∷ bodies) [] added are owned last b c = absurd are
owned_twins names new_names fetch giver name first (x ∷ bodies) (o ∷ others) added are owned last b c =
    ⊎_elim
    (λ here. ap (λ (y : Body). y.owner) (sym here) ∙ are.0.twin.method.owner ∙ owned x (first_in x bodies))
    (λ later. owned_twins names new_names fetch giver name (first + probe_count x) bodies others added are.1 (λ y d. owned y (later_in x bodies y d)) last b later)
    (which_in o others b c)

added_owned : (fetch : Fetch) (names : Names) (class : List ℕ) (id : ℤ) (count : ℕ) (b : Body) → IsAddedBody fetch names class id count b → b.owner ≡ class
added_owned fetches.Member names class id count b is = is.method.owner
added_owned fetches.Constant names class id count b is = is.method.owner

owned_pair : (names new_names : Names) (class new : Linked) → IsPair names new_names class new
    → ((b : Body) → Contains class.bodies b → b.owner ≡ class.name) → (b : Body) → Contains new.bodies b → b.owner ≡ new.name
owned_pair names new_names class new (inl pair) owned b c =
    owned_same names new_names class.name class.bodies new.bodies pair.bodies owned b c ∙ sym pair.name
owned_pair names new_names class new (inr pair) owned b c =
    owned_twins names new_names (fetch_of class.version) (giver_in class pair.bootstrap) class.name 0 class.bodies new.bodies pair.added pair.bodies owned
    (added_owned (fetch_of class.version) new_names class.name (cast_signed w64 pair.id) (sum_by probe_count class.bodies) pair.added pair.added_is) b c ∙ sym pair.name

owned_pairs : (names new_names : Names) (classes others : List Linked) → ArePairs names new_names classes others → AreOwned classes → AreOwned others
owned_pairs names new_names [] [] are owned c d b e = absurd (none_in c d)
owned_pairs names new_names [] (o ∷ others) are owned c d b e = absurd are
owned_pairs names new_names (x ∷ classes) [] are owned c d b e = absurd are
owned_pairs names new_names (x ∷ classes) (o ∷ others) are owned c d b e =
    ⊎_elim
    (λ here. subst (λ (k : Linked). b.owner ≡ k.name) here (owned_pair names new_names x o are.0 (owned x (first_in x classes)) b (subst (λ (k : Linked). Contains k.bodies b) (sym here) e)))
    (λ later. owned_pairs names new_names classes others are.1 (λ y f. owned y (later_in x classes y f)) c later b e)
    (which_in o others c d)

pub program_owned : (p p' : Program) → AreOwned p.classes → TwinProgram p p' → AreOwned p'.classes
program_owned p p' owned t = owned_pairs p.names p'.names p.classes p'.classes t.pairs owned
