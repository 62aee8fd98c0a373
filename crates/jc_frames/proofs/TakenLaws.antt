-- What a constant pool takes, class by class.
use Rattle.std.proofs.Common.{◌≡◌, inl, inr, ℕ, ◌+◌, ◌<◌, ◌≤◌, Bool, true, false, cond, List, [], ◌∷◌, ◌++◌, length, map, drop, get_or, Option, Some, Err, IfSome, IsTrue, nat_eq, refl, sym, ap, subst, true≢false}
use Rattle.std.proofs.lemmas.Bool.{eqb-true}
use Rattle.std.proofs.lemmas.List.{append-nil, drop_all}
use Rattle.std.specs.HashMap.{HashMap, get}
use Rattle.std.specs.HashSet.{HashSet, contains}
use Rattle.std.specs.List.{AllByRecursion, list_any}
use Rattle.jc_bytes.proofs.AppendingLaws.{drop_at, drop_is}
use Rattle.jc_methods.specs.VerificationTypes.{Names, class_name, class_names, verification_type, type_state_at}
use Rattle.jc_methods.specs.declared.body.FrameAt.{FrameAt}
use Rattle.jc_bytes.specs.declared.fail.Fail.{Fail}
use Rattle.jc_bytes.specs.declared.fail.Fail.TheVariants as fails
use Rattle.jc_methods.specs.declared.kind.Kind.{Kind}
use Rattle.jc_pool.specs.Adding.{IsFirst, HasClass, RefusesFull, Extends}
use Rattle.jc_pool.specs.declared.add.PoolFull.{PoolFull}
use Rattle.jc_pool.specs.Lookup.{class_name_of}
use Rattle.jc_pool.specs.Pool.{PoolValue}
use Rattle.jc_pool.proofs.AddedLaws.{naming_kept, naming_there, some_naming}
use Rattle.jc_pool.specs.declared.index.Naming.TheVariants as naming
use Rattle.jc_pool.proofs.AddingLaws.{class_extends}
use Rattle.jc_frames.specs.FullTable.{named_by, named_by_all, TakesClass, TakesClasses, IsFullAt, RefusesClasses, HasPlace, AreTaken, AreFirstPlaces}

-- ---- lists of classes

pub takes_both : (old mid new : PoolValue) (front back : Names) → TakesClasses old front mid → TakesClasses mid back new → TakesClasses old (front ++ back) new
takes_both old mid new [] back p q = subst (λ (l : PoolValue). TakesClasses l back new) p q
takes_both old mid new (name ∷ front) back p q = (p.0, p.1, takes_both p.0 mid new front back p.2 q)

full_later : (old mid new : PoolValue) (front back : Names) (count : ℕ) → TakesClasses old front mid → IsFullAt mid back new count → IsFullAt old (front ++ back) new count
full_later old mid new [] back count p q = subst (λ (l : PoolValue). IsFullAt l back new count) p q
full_later old mid new (name ∷ front) back count p q = inr (p.0, p.1, full_later p.0 mid new front back count p.2 q)

full_sooner : (old new : PoolValue) (front back : Names) (count : ℕ) → IsFullAt old front new count → IsFullAt old (front ++ back) new count
full_sooner old new [] back count q = absurd q
full_sooner old new (name ∷ front) back count (inl q) = inl q
full_sooner old new (name ∷ front) back count (inr q) = inr (q.0, q.1, full_sooner q.0 new front back count q.2)

pub refused_later : (old mid new : PoolValue) (front back : Names) (fail : Fail PoolFull) → TakesClasses old front mid → RefusesClasses mid back new fail → RefusesClasses old (front ++ back) new fail
refused_later old mid new front back fails.Memory p q = tt
refused_later old mid new front back (fails.Said full) p q = full_later old mid new front back full.count p q

pub refused_sooner : (old new : PoolValue) (front back : Names) (fail : Fail PoolFull) → RefusesClasses old front new fail → RefusesClasses old (front ++ back) new fail
refused_sooner old new front back fails.Memory q = tt
refused_sooner old new front back (fails.Said full) q = full_sooner old new front back full.count q

-- ---- one class

pub takes_one : (old new : PoolValue) (name : List ℕ) (place : ℕ) → HasClass old name new place → length new ≤ 65535 → TakesClass old name new
takes_one old new name place has fits = record { place = place; class = has; fits = fits }

pub takes_single : (old new : PoolValue) (name : List ℕ) → TakesClass old name new → TakesClasses old (name ∷ []) new
takes_single old new name t = (new, t, refl)

pub refused_single : (old new : PoolValue) (name : List ℕ) (fail : Fail PoolFull) → new ≡ old → RefusesFull {X = ℕ} (HasClass old name) (Err fail) → RefusesClasses old (name ∷ []) new fail
refused_single old new name fails.Memory same full = tt
refused_single old new name (fails.Said f) same full = inl (same, full)

-- ---- in a loop

-- whatever is taken of the classes that are left completes all of them
pub record Taking (old : PoolValue) (all : Names) (now : PoolValue) (rest : Names) : Type 0 where
  pub takes : (new : PoolValue) → TakesClasses now rest new → TakesClasses old all new
  pub refuses : (new : PoolValue) (fail : Fail PoolFull) → RefusesClasses now rest new fail → RefusesClasses old all new fail

pub taking_begun : (old : PoolValue) (all : Names) → Taking old all old all
taking_begun old all = record { takes = λ new p. p; refuses = λ new fail p. p }

pub takes_more : (old now next : PoolValue) (all front rest left : Names) → left ≡ front ++ rest → TakesClasses now front next → Taking old all now left → Taking old all next rest
takes_more old now next all front rest left split p t = record {
  takes = λ new q. t.takes new (subst (λ (l : Names). TakesClasses now l new) (sym split) (takes_both now next new front rest p q));
  refuses = λ new fail q. t.refuses new fail (subst (λ (l : Names). RefusesClasses now l new fail) (sym split) (refused_later now next new front rest fail p q));
}

pub refuses_here : (old now new : PoolValue) (all front rest left : Names) (fail : Fail PoolFull) → left ≡ front ++ rest
    → RefusesClasses now front new fail → Taking old all now left → RefusesClasses old all new fail
refuses_here old now new all front rest left fail split p t =
    t.refuses new fail (subst (λ (l : Names). RefusesClasses now l new fail) (sym split) (refused_sooner now new front rest fail p))

pub all_taken : (old now : PoolValue) (all left : Names) → left ≡ [] → Taking old all now left → TakesClasses old all now
all_taken old now all left none t = t.takes now (subst (λ (l : Names). TakesClasses now l now) (sym none) refl)

-- the next kind's class, and those behind it
pub kinds_split : (names : Names) (ks : List Kind) (i : ℕ) (d : Kind) → i < length ks
    → class_names (map (verification_type names) (drop i ks)) ≡ class_name (verification_type names (get_or ks i d)) ++ class_names (map (verification_type names) (drop (i + 1) ks))
kinds_split names ks i d lt = ap (λ (l : List Kind). class_names (map (verification_type names) l)) (drop_at ks i d lt)

pub kinds_done : (names : Names) (ks : List Kind) (i : ℕ) → length ks ≤ i → class_names (map (verification_type names) (drop i ks)) ≡ []
kinds_done names ks i le = ap (λ (l : List Kind). class_names (map (verification_type names) l)) (drop_all i ks le)

-- the next frame's classes, and those behind them
pub frames_split : (names : Names) (fs : List FrameAt) (i : ℕ) (f : FrameAt) → i < length fs → f ≡ get_or fs i f
    → named_by_all (map (type_state_at names) (drop i fs)) ≡ named_by (type_state_at names f) ++ named_by_all (map (type_state_at names) (drop (i + 1) fs))
frames_split names fs i f lt is = ap (λ (l : List FrameAt). named_by_all (map (type_state_at names) l)) (drop_is fs i f lt is)

pub frames_done : (names : Names) (fs : List FrameAt) (i : ℕ) → length fs ≤ i → named_by_all (map (type_state_at names) (drop i fs)) ≡ []
frames_done names fs i le = ap (λ (l : List FrameAt). named_by_all (map (type_state_at names) l)) (drop_all i fs le)

-- ---- pools that grow

pub extends_itself : (a : PoolValue) → Extends a a
extends_itself a = ([], sym (append-nil a))

-- ---- where classes stand

pub has_place : (old new : PoolValue) (name : List ℕ) → TakesClass old name new → HasPlace new name
has_place old new name t = record { place = t.place; stands = naming_there naming.Class old new name t.place t.class; fits = t.fits }

pub place_kept : (old new : PoolValue) (name other : List ℕ) → TakesClass old name new → HasPlace old other → HasPlace new other
place_kept old new name other t h = record { place = h.place; stands = naming_kept naming.Class old new other h.place (class_extends old new name t.place t.class) h.stands; fits = t.fits }

places_kept : (old new : PoolValue) (names : Names) (other : List ℕ) → TakesClasses old names new → HasPlace old other → HasPlace new other
places_kept old new [] other p h = subst (λ (l : PoolValue). HasPlace l other) (sym p) h
places_kept old new (name ∷ names) other p h = places_kept p.0 new names other p.2 (place_kept old p.0 name other p.1 h)

-- all that was taken stands in the pool
pub all_stand : (old new : PoolValue) (names : Names) → TakesClasses old names new → AllByRecursion (HasPlace new) names
all_stand old new [] p = tt
all_stand old new (name ∷ names) p = (places_kept p.0 new names name p.2 (has_place old p.0 name p.1), all_stand p.0 new names p.2)

-- a class that stands in the pool is taken as it is
pub takes_again : (pool : PoolValue) (name : List ℕ) → HasPlace pool name → TakesClass pool name pool
takes_again pool name h = let some = some_naming naming.Class pool name in elim some.2 [
  | inl has ↦ record { place = some.1; class = inl (has.0, refl); fits = h.fits }
  | inr put ↦ absurd (put.0 h.place h.stands)
]

-- and has its first place
pub stands_first : (pool new : PoolValue) (name : List ℕ) (place : ℕ) → HasPlace pool name → HasClass pool name new place → IsFirst (class_name_of pool) name place × (new ≡ pool)
stands_first pool new name place h (inl has) = (has.0, has.1)
stands_first pool new name place h (inr put) = absurd (put.0 h.place h.stands)

pub first_of : (pool : PoolValue) (name : List ℕ) → HasPlace pool name → (place : ℕ) × IsFirst (class_name_of pool) name place
first_of pool name h = let some = some_naming naming.Class pool name in (some.1, (stands_first pool some.0 name some.1 h some.2).0)

-- ---- numbers that were met

module _ {S : Type 0} where
  pub none_taken : (pool : PoolValue) (names : Names) (met : HashSet ℕ S) → met.keys ≡ [] → AreTaken pool names met
  none_taken pool names met empty = record { at = λ number is. absurd (true≢false (sym (subst (λ (ks : List ℕ). IsTrue (list_any (nat_eq number) ks)) empty is))) }

  pub taken_more : (old new : PoolValue) (names : Names) (met next : HashSet ℕ S) (number : ℕ) → TakesClass old (get_or names number []) new
      → ((q : ℕ) → contains nat_eq next q ≡ cond (nat_eq number q) true (contains nat_eq met q)) → AreTaken old names met → AreTaken new names next
  taken_more old new names met next number t updates are = record { at = λ q is. by q (nat_eq number q) refl (subst IsTrue (updates q) is) }
    where
      by : (q : ℕ) (b : Bool) → nat_eq number q ≡ b → IsTrue (cond b true (contains nat_eq met q)) → HasPlace new (get_or names q [])
      by q true e is = subst (λ (k : ℕ). HasPlace new (get_or names k [])) (eqb-true number q e) (has_place old new (get_or names number []) t)
      by q false e is = place_kept old new (get_or names number []) (get_or names q []) t (are.at q is)

  -- ---- places that are known

  pub none_known : (pool : PoolValue) (names : Names) (known : HashMap ℕ ℕ S) → known.entries ≡ [] → AreFirstPlaces pool names known
  none_known pool names known empty = record { at = λ number. rw empty tt }

  pub known_place : (pool : PoolValue) (names : Names) (known : HashMap ℕ ℕ S) (number place : ℕ) → AreFirstPlaces pool names known → Some place ≡ get nat_eq known number
      → IsFirst (class_name_of pool) (get_or names number []) place
  known_place pool names known number place are is =
      subst (λ (o : Option ℕ). IfSome o (λ place. IsFirst (class_name_of pool) (get_or names number []) place)) (sym is) (are.at number)

  pub known_more : (pool : PoolValue) (names : Names) (known next : HashMap ℕ ℕ S) (number place : ℕ) → IsFirst (class_name_of pool) (get_or names number []) place
      → ((q : ℕ) → get nat_eq next q ≡ cond (nat_eq number q) (Some place) (get nat_eq known q)) → AreFirstPlaces pool names known → AreFirstPlaces pool names next
  known_more pool names known next number place first updates are = record { at = λ q. subst (Fact q) (sym (updates q)) (by q (nat_eq number q) refl) }
    where
      Fact : ℕ → Option ℕ → Type 0
      Fact q o = IfSome o (λ place. IsFirst (class_name_of pool) (get_or names q []) place)

      by : (q : ℕ) (b : Bool) → nat_eq number q ≡ b → Fact q (cond b (Some place) (get nat_eq known q))
      by q true e = subst (λ (k : ℕ). IsFirst (class_name_of pool) (get_or names k []) place) (eqb-true number q e) first
      by q false e = are.at q
