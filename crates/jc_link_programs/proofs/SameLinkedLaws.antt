-- What is linked of one class file under two lists of names is the same, where classes are compared by their names.
use Rattle.std.proofs.Common.{◌≡◌, ◌⊎◌, inl, inr, ℕ, Bool, true, false, cond, List, [], ◌∷◌, Option, Some, None, refl, sym, ◌∙◌, ap, subst}
use Rattle.jc_bytes.proofs.OptionLaws.{none_some, some_is}
use Rattle.jc_methods.specs.VerificationTypes.{Names}
use Rattle.jc_methods.specs.ProbeMembers.{fetch_of}
use Rattle.jc_methods.specs.declared.body.Body.{Body}
use Rattle.jc_methods.specs.declared.probe_members.Fetch.{Fetch}
use Rattle.jc_programs.specs.declared.program.Linked.{Linked}
use Rattle.jc_programs.specs.declared.program.ProbeInit.{ProbeInit}
use Rattle.jc_class.specs.declared.class_file.ClassFile.{ClassFile}
use Rattle.jc_class.proofs.FirstBadLaws.{one_class_of}
use Rattle.jc_body.specs.BodyOf.{BodyOf, Bodiless}
use Rattle.jc_body.proofs.AnswerLaws.{bodiless_or_body}
use Rattle.jc_instrument_reread.proofs.SameBodyLaws.{AreSame, turned}
use Rattle.jc_emit.specs.TwinBodies.{IsSameBody, AreSameBodies}
use Rattle.jc_instrument.specs.Bodies.{AreBodies, IsListed}
use Rattle.jc_instrument.proofs.OneBodyLaws.{same_body}
use Rattle.jc_link_programs.specs.Linking.{IsLinkedOf, IsLinkedClass, AreLinkedClasses}
use Rattle.jc_link_programs.specs.ProbeInits.{AsksFor, is_added, added_of, HasInit, AreProbes}
use Rattle.jc_link_programs.specs.SameProgram.{IsSameLinked, AreSameClasses}
use Rattle.jc_link_programs.proofs.PairedLaws.{IsThere, AreThere, AreSameWhere, paired}
use Rattle.jc_link_programs.proofs.OwnBootstrapLaws.{one_bootstrap}
use Rattle.jc_link_programs.proofs.ProbeInitLaws.{one_count, one_id}

-- ---- bodies

pub to_same : (names others : Names) (x y : Body) → AreSame others names y x → IsSameBody names others x y
to_same names others x y s = record { frames = s.seen; others = s.rest }

pub of_same : (names others : Names) (x y : Body) → IsSameBody names others x y → AreSame others names y x
of_same names others x y s = record { rest = s.others; seen = s.frames }

turned_body : (names others : Names) (x y : Body) → IsSameBody names others x y → IsSameBody others names y x
turned_body names others x y s = to_same others names y x (turned others names y x (of_same names others x y s))

turned_bodies : (names others : Names) (xs ys : List Body) → AreSameBodies names others xs ys → AreSameBodies others names ys xs
turned_bodies names others [] [] same = tt
turned_bodies names others [] (y ∷ ys) same = absurd same
turned_bodies names others (x ∷ xs) [] same = absurd same
turned_bodies names others (x ∷ xs) (y ∷ ys) same = (turned_body names others x y same.0, turned_bodies names others xs ys same.1)

all_there : (names others : Names) (c : ClassFile) (xs ys : List Body) → AreBodies names c xs → AreBodies others c ys → AreThere xs ys
all_there names others c xs ys p q i x at = by (q.all x.method (p.below i x at))
  where
    by : Bodiless c x.method ⊎ IsListed ys x.method → IsThere ys x.method
    by (inl none) = absurd (bodiless_or_body names c x.method x none (p.each i x at))
    by (inr l) = record { index = l.index; body = l.body; stands = l.stands; number_is = l.number_is }

same_where : (names others : Names) (c : ClassFile) (xs ys : List Body) → AreBodies names c xs → AreBodies others c ys → AreSameWhere names others xs ys
same_where names others c xs ys p q i j x y at there number =
    to_same names others x y
    (same_body others names c y.method y x (q.each j y there) (subst (λ (n : ℕ). BodyOf names c n x) number (p.each i x at)))

pub same_lists : (names others : Names) (c : ClassFile) (xs ys : List Body) → AreBodies names c xs → AreBodies others c ys → AreSameBodies names others xs ys
same_lists names others c xs ys p q =
    paired names others xs ys
    (record { rising = p.rising; rising_too = q.rising; there = all_there names others c xs ys p q; back = all_there others names c ys xs q p })
    (same_where names others c xs ys p q)

-- ---- probes

module _ (names others : Names) (fetch : Fetch) where
  same_test : (x y : Body) → IsSameBody names others x y → is_added fetch y ≡ is_added fetch x
  same_test x y s = ap (is_added fetch) s.others

  pub first_same : (xs ys : List Body) → AreSameBodies names others xs ys → (b : Body) → added_of fetch xs ≡ Some b
      → (d : Body) × (added_of fetch ys ≡ Some d) × IsSameBody names others b d
  first_same [] [] same b e = absurd (none_some e)
  first_same [] (y ∷ ys) same b e = absurd same
  first_same (x ∷ xs) [] same b e = absurd same
  first_same (x ∷ xs) (y ∷ ys) same b e = by (is_added fetch x) refl e (λ f. first_same xs ys same.1 b f)
    where
      test : (t : Bool) → is_added fetch x ≡ t → is_added fetch y ≡ t
      test t is = same_test x y same.0 ∙ is

      by : (t : Bool) → is_added fetch x ≡ t → cond t (Some x) (added_of fetch xs) ≡ Some b
          → (added_of fetch xs ≡ Some b → (d : Body) × (added_of fetch ys ≡ Some d) × IsSameBody names others b d)
          → (d : Body) × (added_of fetch (y ∷ ys) ≡ Some d) × IsSameBody names others b d
      by true is f later =
          (y, ap (λ (t : Bool). cond t (Some y) (added_of fetch ys)) (test true is), subst (λ (z : Body). IsSameBody names others z y) (some_is f) same.0)
      by false is f later =
          let found = later f in
          (found.0, ap (λ (t : Bool). cond t (Some y) (added_of fetch ys)) (test false is) ∙ found.1, found.2)

module _ (names others : Names) (c : ClassFile) (name : List ℕ) where
  same_asks : (x y : Body) (init : ProbeInit) → IsSameBody names others x y → AsksFor c name x init → AsksFor c name y init
  same_asks x y init s h =
      let a = h.code in
      subst (λ (z : Body). AsksFor c name z init) (sym s.others) (record {
        text = h.text;
        code = record {
          places = a.places;
          code = a.code;
          count_fits = a.count_fits;
          count_is = a.count_is;
          field_is = a.field_is;
          id_is = a.id_is;
          id_fits = a.id_fits;
          text_is = a.text_is;
          fetch_is = a.fetch_is;
        };
        name_is = h.name_is;
        bootstrap = h.bootstrap;
      })

  same_init : (xs ys : List Body) (init : ProbeInit) → AreSameBodies names others xs ys → HasInit c name xs init → HasInit c name ys init
  same_init xs ys init same h =
      let found = first_same names others (fetch_of c.major) xs ys same h.body h.first in
      record { body = found.0; first = found.1; asks = same_asks h.body found.0 init found.2 h.asks }

-- a class asks for one id, number of probes and bootstrap method
pub one_asked : (c : ClassFile) (name : List ℕ) (bodies : List Body) (i j : ProbeInit) → HasInit c name bodies i → HasInit c name bodies j → i ≡ j
one_asked c name bodies i j p q =
    let same : p.body ≡ q.body = some_is (sym p.first ∙ q.first) in
    let a = subst (λ (b : Body). AsksFor c name b i) same p.asks in
    let fetch = fetch_of c.major in
    let id = one_id fetch name q.body i.id j.id i.count j.count a.text q.asks.text a.code q.asks.code in
    let count = one_count fetch name q.body i.id j.id i.count j.count a.text q.asks.text a.code q.asks.code in
    let bootstrap = one_bootstrap fetch c name i.bootstrap j.bootstrap a.bootstrap q.asks.bootstrap in
    λ k. record { id = id k; count = count k; bootstrap = bootstrap k }

pub one_probes : (c : ClassFile) (name : List ℕ) (bodies : List Body) (o q : Option ProbeInit)
    → AreProbes c name bodies o → AreProbes c name bodies q → q ≡ o
one_probes c name bodies None None p r = refl
one_probes c name bodies None (Some j) p r = absurd (p j r)
one_probes c name bodies (Some i) None p r = absurd (r i p)
one_probes c name bodies (Some i) (Some j) p r = ap Some (one_asked c name bodies j i r p)

moved_probes : (names others : Names) (c : ClassFile) (name : List ℕ) (xs ys : List Body) → AreSameBodies names others xs ys
    → (o : Option ProbeInit) → AreProbes c name xs o → AreProbes c name ys o
moved_probes names others c name xs ys same None p = λ init h. p init (same_init others names c name ys xs init (turned_bodies names others xs ys same) h)
moved_probes names others c name xs ys same (Some i) p = same_init names others c name xs ys i same p

-- ---- classes

same_of : (names others : Names) (c : ClassFile) (a b : Linked) → IsLinkedOf names c a → IsLinkedOf others c b → IsSameLinked names others a b
same_of names others c a b p q =
    let name : b.name ≡ a.name = some_is (sym q.name ∙ p.name) in
    let bodies = same_lists names others c a.bodies b.bodies p.bodies.are q.bodies.are in
    record {
      name = name;
      version = q.version ∙ sym p.version;
      bodies = bodies;
      statics = q.statics ∙ sym p.statics;
      has_clinit = q.clinit ∙ sym p.clinit;
      probes = one_probes c a.name b.bodies a.probes b.probes (moved_probes names others c a.name a.bodies b.bodies bodies a.probes p.probes)
          (subst (λ (n : List ℕ). AreProbes c n b.bodies b.probes) name q.probes);
    }

pub same_linked : (names others : Names) (bytes : List ℕ) (a b : Linked) → IsLinkedClass names bytes a → IsLinkedClass others bytes b → IsSameLinked names others a b
same_linked names others bytes a b p q =
    same_of names others q.file a b (subst (λ (c : ClassFile). IsLinkedOf names c a) (one_class_of bytes p.file q.file p.text q.text) p.is) q.is

pub same_classes : (names others : Names) (files : List (List ℕ)) (xs ys : List Linked)
    → AreLinkedClasses names files xs → AreLinkedClasses others files ys → AreSameClasses names others xs ys
same_classes names others [] [] [] p q = tt
same_classes names others [] [] (y ∷ ys) p q = absurd q
same_classes names others [] (x ∷ xs) ys p q = absurd p
same_classes names others (bytes ∷ files) [] ys p q = absurd p
same_classes names others (bytes ∷ files) (x ∷ xs) [] p q = absurd q
same_classes names others (bytes ∷ files) (x ∷ xs) (y ∷ ys) p q = (same_linked names others bytes x y p.0 q.0, same_classes names others files xs ys p.1 q.1)
