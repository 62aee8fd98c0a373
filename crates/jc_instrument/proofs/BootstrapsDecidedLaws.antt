-- Whether one more bootstrap method can be put behind those of a class is decided, and the refusal has one place.
use Rattle.std.proofs.Common.{◌≡◌, ◌⊎◌, inl, inr, ⊎_elim, ℕ, zero, suc, ◌<◌, ◌≤◌, Bool, true, false, List, [], ◌∷◌, length, get_or, Option, Some, None, slice_get, IsTrue, ◌↔◌}
use Rattle.std.proofs.Common.{refl, sym, ◌∙◌, ap, subst, arith}
use Rattle.std.specs.Prelude.{Contains, codes, cond, filter, map}
use Rattle.std.specs.Str.{bytes_eq}
use Rattle.std.proofs.lemmas.Bool.{cases_eq, cases_lt, false≢true, true≢false}
use Rattle.std.proofs.lemmas.Option.{none-some, same_Some, slice_get_read, slice_get_within}
use Rattle.jc_methods.specs.ProbeMembers.{bootstraps_name, fetch_of}
use Rattle.jc_methods.specs.declared.probe_members.Fetch.{Fetch}
use Rattle.jc_methods.specs.declared.probe_members.Fetch.TheVariants as fetches
use Rattle.jc_bytes.specs.Decoder.{◌>>=◌}
use Rattle.jc_bytes.specs.Parsing.{Parsed, Good, Bad}
use Rattle.jc_bytes.specs.declared.refusal.Refusal.{Refusal}
use Rattle.jc_bytes.specs.declared.refusal.RefusalKind.TheVariants as kinds
use Rattle.jc_bytes.proofs.BooleanLaws.{none_in}
use Rattle.jc_bytes.proofs.GrammarLaws.{good_is, good_bad}
use Rattle.jc_pool.specs.Lookup.{entry_of, number_in, number_of, utf8_of}
use Rattle.jc_pool.specs.Pool.{PoolValue}
use Rattle.jc_pool.specs.declared.entry.Entry.{Entry}
use Rattle.jc_class.specs.declared.class_file.Attribute.{Attribute}
use Rattle.jc_class.specs.declared.class_file.ClassFile.{ClassFile}
use Rattle.jc_class.specs.ItemReading.{passes}
use Rattle.jc_body.specs.Attributes.{has_name, is_text}
use Rattle.jc_body.specs.First.{FirstItem, NoItem, NoneBefore}
use Rattle.jc_bootstraps.specs.Bootstraps.{Bootstrap, HaveBootstraps, bootstrap_bodies, bootstraps}
use Rattle.jc_bootstraps.specs.Bootstraps.{has_name as has_its_name}
use Rattle.jc_bootstraps.specs.BootstrapsReading.{bootstraps_at}
use Rattle.jc_bootstraps.proofs.BootstrapFormLaws.{one_list, read_text, text_read}
use Rattle.jc_instrument.specs.Bootstraps.{AreBootstraps, AsksPast, AsksPastAt, IsFirstBody, IsFullBy, NamesNothing, NamesPast, SomeNamesPast, SomePast, TakesNoBootstrap, TakesNoMore}
use Rattle.jc_instrument.specs.Causes.{Never, of_class}
use Rattle.jc_instrument.specs.Needed.{GetsBy, IsNextBootstrap}
use Rattle.jc_instrument.specs.RoomCauses.{HasBadBootstraps}
use Rattle.jc_instrument.proofs.CauseLaws.{IsSingle}
use Rattle.jc_instrument.proofs.DecidedLaws.{OrNot, IsDecided, either_or_not, some_below, some_or_none, true_or_not}
use Rattle.jc_pool.proofs.OneMoreEntryLaws.{entry_past}

-- ---- the attribute

module _ (pool : PoolValue) where
  same_test : (a : Attribute) → has_its_name pool (codes "BootstrapMethods") a ≡ has_name pool bootstraps_name a
  same_test a = by (utf8_of pool a.name)
    where
      by : (o : Option (List ℕ)) → passes (λ text. bytes_eq text (codes "BootstrapMethods")) o ≡ is_text bootstraps_name o
      by None = refl
      by (Some text) = refl

  abbrev IsNamed : ℕ → Attribute → Type 0
  IsNamed number a = IsTrue (has_name pool bootstraps_name a)

  abbrev chosen_bodies : Bool → Attribute → List Attribute → List (List ℕ)
  chosen_bodies named a attrs =
      map (λ (x : Attribute). x.body)
      (cond named (a ∷ filter (has_its_name pool (codes "BootstrapMethods")) attrs) (filter (has_its_name pool (codes "BootstrapMethods")) attrs))

  no_bodies : (attrs : List Attribute) → NoItem IsNamed attrs → bootstrap_bodies pool attrs ≡ []
  no_bodies [] none = refl
  no_bodies (a ∷ attrs) none = by (no_bodies attrs (λ n x at f. none (suc n) x at f)) (has_its_name pool (codes "BootstrapMethods") a) refl
    where
      by : bootstrap_bodies pool attrs ≡ [] → (named : Bool) → has_its_name pool (codes "BootstrapMethods") a ≡ named → bootstrap_bodies pool (a ∷ attrs) ≡ []
      by rest true is = absurd (none 0 a refl (sym (same_test a) ∙ is))
      by rest false is = ap (λ (b : Bool). chosen_bodies b a attrs) is ∙ rest

  some_body : (attrs : List Attribute) (n : ℕ) (a : Attribute) → slice_get attrs n ≡ Some a → IsNamed n a → NoneBefore IsNamed attrs n
      → (rest : List (List ℕ)) × (bootstrap_bodies pool attrs ≡ a.body ∷ rest)
  some_body [] n a at named first = absurd (none-some a at)
  some_body (x ∷ attrs) zero a at named first =
      let same : x ≡ a = same_Some x a at in
      let is = same_test x ∙ ap (has_name pool bootstraps_name) same ∙ named in (
        map (λ (y : Attribute). y.body) (filter (has_its_name pool (codes "BootstrapMethods")) attrs),
        ap (λ (b : Bool). chosen_bodies b x attrs) is ∙ ap (λ (y : Attribute). y.body ∷ map (λ (z : Attribute). z.body) (filter (has_its_name pool (codes "BootstrapMethods")) attrs)) same,
      )
  some_body (x ∷ attrs) (suc n) a at named first =
      by (some_body attrs n a at named (λ m y less stands f. first (suc m) y (omega (arith, less)) stands f)) (has_its_name pool (codes "BootstrapMethods") x) refl
    where
      by : ((rest : List (List ℕ)) × (bootstrap_bodies pool attrs ≡ a.body ∷ rest)) → (b : Bool) → has_its_name pool (codes "BootstrapMethods") x ≡ b
          → (rest : List (List ℕ)) × (bootstrap_bodies pool (x ∷ attrs) ≡ a.body ∷ rest)
      by rest true is = absurd (first 0 x (omega arith) refl (sym (same_test x) ∙ is))
      by rest false is = (rest.0, ap (λ (b : Bool). chosen_bodies b x attrs) is ∙ rest.1)

  pub no_body_first : (attrs : List Attribute) → FirstItem IsNamed attrs None → IsFirstBody (bootstrap_bodies pool attrs) None
  no_body_first attrs none = subst (λ (l : List (List ℕ)). IsFirstBody l None) (sym (no_bodies attrs none)) refl

  pub body_first : (attrs : List Attribute) (n : ℕ) (a : Attribute) → FirstItem IsNamed attrs (Some n) → slice_get attrs n ≡ Some a → IsFirstBody (bootstrap_bodies pool attrs) (Some a.body)
  body_first attrs n a first at =
      let same : first.item ≡ a = same_Some first.item a (sym first.stands ∙ at) in
      let some = some_body attrs n a at (subst (IsNamed n) same first.fact) first.first in
      subst (λ (l : List (List ℕ)). IsFirstBody l (Some a.body)) (sym some.1) refl

  -- the attribute that is read at that number
  pub body_read : (attrs : List Attribute) (n : ℕ) (a : Attribute) → FirstItem IsNamed attrs (Some n) → a ≡ get_or attrs n a → IsFirstBody (bootstrap_bodies pool attrs) (Some a.body)
  body_read attrs n a first is =
      body_first attrs n a first (slice_get_read attrs (length attrs) n a refl (slice_get_within attrs n first.item first.stands) is)

  pub number_within : (attrs : List Attribute) (n : ℕ) → FirstItem IsNamed attrs (Some n) → n < length attrs
  number_within attrs n first = slice_get_within attrs n first.item first.stands

-- ---- entries that ask for a bootstrap method

-- where no entry stands, none asks
pub no_number_past : (pool : PoolValue) (place n : ℕ) → length pool ≤ place → number_of pool place ≡ Some n → ⊥
unfolding number_of
no_number_past pool place n past is = none-some n (sym (ap (λ (o : Option Entry). o >>= number_in) (entry_past pool place past)) ∙ is)

pub asks_within : (pool : PoolValue) (count place : ℕ) → AsksPastAt pool count place → place < length pool
asks_within pool count place asks = elim (cases_lt place (length pool)) [
  | inl within ↦ within
  | inr past ↦ absurd (no_number_past pool place asks.number past asks.number_is)
]

at_least_or_not : (a b : ℕ) → OrNot (a ≤ b)
at_least_or_not a b = elim (cases_lt b a) [
  | inl less ↦ inr (λ most. omega (arith, less, most))
  | inr most ↦ inl most
]

asks_at_or_not : (pool : PoolValue) (count place : ℕ) → OrNot (AsksPastAt pool count place)
asks_at_or_not pool count place = by (number_of pool place) refl
  where
    by_number : (n : ℕ) → number_of pool place ≡ Some n → OrNot (count ≤ n) → OrNot (AsksPastAt pool count place)
    by_number n is (inl past) = inl (record { number = n; number_is = is; past = past })
    by_number n is (inr within) = inr (λ asks. within (subst (λ (m : ℕ). count ≤ m) (same_Some asks.number n (sym asks.number_is ∙ is)) asks.past))

    by : (o : Option ℕ) → number_of pool place ≡ o → OrNot (AsksPastAt pool count place)
    by None none = inr (λ asks. none-some asks.number (sym none ∙ asks.number_is))
    by (Some n) is = by_number n is (at_least_or_not count n)

asks_or_not : (pool : PoolValue) (count : ℕ) → OrNot (AsksPast pool count)
asks_or_not pool count = elim (some_below (AsksPastAt pool count) (asks_at_or_not pool count) (length pool)) [
  | inl found ↦ inl found
  | inr none ↦ inr (λ asks. none asks.0 (asks_within pool count asks.0 asks.1) asks.1)
]

-- ---- bootstrap methods that name nothing

past_or_not : (limit : ℕ) (b : Bootstrap) → OrNot (NamesPast limit b)
past_or_not limit b =
    either_or_not (limit ≤ b.handle) (SomePast limit b.arguments) (at_least_or_not limit b.handle)
    (some_or_none (λ (place : ℕ). limit ≤ place) (λ place. at_least_or_not limit place) b.arguments)

nothing_or_not : (pool : PoolValue) (entries : List Bootstrap) → OrNot (NamesNothing pool entries)
nothing_or_not pool entries =
    either_or_not (SomeNamesPast (length pool) entries) (AsksPast pool (length entries))
    (some_or_none (NamesPast (length pool)) (past_or_not (length pool)) entries) (asks_or_not pool (length entries))

-- ---- the form

cons_nil : {X : Type 0} {x : X} {xs : List X} → x ∷ xs ≡ [] → ⊥
cons_nil e = cc

pub spelled_or_not : (body : List ℕ) → ((entries : List Bootstrap) × bootstraps.Text body entries) ⊎ ((entries : List Bootstrap) → bootstraps.Text body entries → ⊥)
spelled_or_not body = by (bootstraps_at body) refl
  where
    by : (p : Parsed (List Bootstrap)) → bootstraps_at body ≡ p
        → ((entries : List Bootstrap) × bootstraps.Text body entries) ⊎ ((entries : List Bootstrap) → bootstraps.Text body entries → ⊥)
    by (Good entries []) is = inl (entries, read_text body entries is)
    by (Good entries (x ∷ left)) is = inr (λ others text. cons_nil (good_is entries others (x ∷ left) [] (sym is ∙ text_read body others text)).1)
    by (Bad left) is = inr (λ others text. good_bad (sym (text_read body others text) ∙ is))

-- ---- one more

module _ (pool : PoolValue) where
  abbrev AtOnePlace : (ℕ → Type 0) → Type 0
  AtOnePlace P = ((place : ℕ) × P place) ⊎ ((place : ℕ) → P place → ⊥)

  no_more_decided : (entries : List Bootstrap) (Full : Type 0) → OrNot Full → AtOnePlace (TakesNoMore pool entries Full)
  no_more_decided entries Full full = by (nothing_or_not pool entries) full
    where
      none : (NamesNothing pool entries → ⊥) → (Full → ⊥) → (place : ℕ) → TakesNoMore pool entries Full place → ⊥
      none fine room place (inl names) = fine names.0
      none fine room place (inr here) = room here.1

      by : OrNot (NamesNothing pool entries) → OrNot Full → AtOnePlace (TakesNoMore pool entries Full)
      by (inl names) full = inl (0, inl (names, refl))
      by (inr fine) (inl here) = inl (65536, inr (fine, here, refl))
      by (inr fine) (inr room) = inr (none fine room)

  pub none_decided : (attributes : ℕ) (bodies : List (List ℕ)) → AtOnePlace (TakesNoBootstrap pool attributes bodies)
  none_decided attributes [] = no_more_decided [] (attributes ≡ 65535) (cases_eq attributes 65535)
  none_decided attributes (body ∷ []) = by (spelled_or_not body)
    where
      nowhere : (entries : List Bootstrap) → bootstraps.Text body entries → ((place : ℕ) → TakesNoMore pool entries (length entries ≡ 65535) place → ⊥)
          → (place : ℕ) → TakesNoBootstrap pool attributes (body ∷ []) place → ⊥
      nowhere entries text none place (inl bad) = bad.0 entries text
      nowhere entries text none place (inr some) =
          none place (subst (λ (l : List Bootstrap). TakesNoMore pool l (length l ≡ 65535) place) (one_list body some.0 entries some.1 text) some.2)

      spelled : (entries : List Bootstrap) → bootstraps.Text body entries → AtOnePlace (TakesNoMore pool entries (length entries ≡ 65535)) → AtOnePlace (TakesNoBootstrap pool attributes (body ∷ []))
      spelled entries text (inl found) = inl (found.0, inr (entries, text, found.1))
      spelled entries text (inr none) = inr (nowhere entries text none)

      by : ((entries : List Bootstrap) × bootstraps.Text body entries) ⊎ ((entries : List Bootstrap) → bootstraps.Text body entries → ⊥) → AtOnePlace (TakesNoBootstrap pool attributes (body ∷ []))
      by (inl text) = spelled text.0 text.1 (no_more_decided text.0 (length text.0 ≡ 65535) (cases_eq (length text.0) 65535))
      by (inr none) = inl (0, inl (none, refl))
  none_decided attributes (body ∷ other ∷ bodies) = inl (0, refl)

  -- the refusal has one place
  one_more_place : (entries : List Bootstrap) (Full : Type 0) (p q : ℕ) → TakesNoMore pool entries Full p → TakesNoMore pool entries Full q → p ≡ q
  one_more_place entries Full p q (inl a) (inl b) = a.1 ∙ sym b.1
  one_more_place entries Full p q (inl a) (inr b) = absurd (b.0 a.0)
  one_more_place entries Full p q (inr a) (inl b) = absurd (a.0 b.0)
  one_more_place entries Full p q (inr a) (inr b) = a.2 ∙ sym b.2

  pub one_place : (attributes : ℕ) (bodies : List (List ℕ)) (p q : ℕ) → TakesNoBootstrap pool attributes bodies p → TakesNoBootstrap pool attributes bodies q → p ≡ q
  one_place attributes [] p q a b = one_more_place [] (attributes ≡ 65535) p q a b
  one_place attributes (body ∷ []) p q (inl a) (inl b) = a.1 ∙ sym b.1
  one_place attributes (body ∷ []) p q (inl a) (inr b) = absurd (a.0 b.0 b.1)
  one_place attributes (body ∷ []) p q (inr a) (inl b) = absurd (b.0 a.0 a.1)
  one_place attributes (body ∷ []) p q (inr a) (inr b) =
      one_more_place b.0 (length b.0 ≡ 65535) p q
      (subst (λ (l : List Bootstrap). TakesNoMore pool l (length l ≡ 65535) p) (one_list body a.0 b.0 a.1 b.1) a.2) b.2
  one_place attributes (body ∷ other ∷ bodies) p q a b = a ∙ sym b

  -- ---- what the steps find

  -- several attributes, or one that isn't of its form
  pub no_bootstraps : (attributes : ℕ) (bodies : List (List ℕ)) → ((count : ℕ) → HaveBootstraps bodies count → ⊥) → TakesNoBootstrap pool attributes bodies 0
  no_bootstraps attributes [] none = absurd (none 0 refl)
  no_bootstraps attributes (body ∷ []) none = inl (λ entries text. none (length entries) (entries, text, refl), refl)
  no_bootstraps attributes (body ∷ other ∷ bodies) none = refl

  -- those of so many
  pub some_bootstraps : (bodies : List (List ℕ)) (count : ℕ) → HaveBootstraps bodies count → (entries : List Bootstrap) × AreBootstraps bodies entries
  some_bootstraps [] count have = ([], refl)
  some_bootstraps (body ∷ []) count have = (have.0, have.1)
  some_bootstraps (body ∷ other ∷ bodies) count have = absurd have

  pub so_many : (bodies : List (List ℕ)) (count : ℕ) (entries : List Bootstrap) → HaveBootstraps bodies count → AreBootstraps bodies entries → count ≡ length entries
  so_many [] count entries have are = have ∙ ap (λ (l : List Bootstrap). length l) (sym are)
  so_many (body ∷ []) count entries have are = have.2 ∙ ap (λ (l : List Bootstrap). length l) (one_list body have.0 entries have.1 are)
  so_many (body ∷ other ∷ bodies) count entries have are = absurd have

  module _ (attributes : ℕ) where
    pub named_nothing : (bodies : List (List ℕ)) (entries : List Bootstrap) → AreBootstraps bodies entries → NamesNothing pool entries → TakesNoBootstrap pool attributes bodies 0
    named_nothing [] entries are names = inl (subst (NamesNothing pool) are names, refl)
    named_nothing (body ∷ []) entries are names = inr (entries, are, inl (names, refl))
    named_nothing (body ∷ other ∷ bodies) entries are names = absurd are

    pub none_left : (bodies : List (List ℕ)) (count : ℕ) (entries : List Bootstrap) → HaveBootstraps bodies count → AreBootstraps bodies entries → (NamesNothing pool entries → ⊥)
        → IsFullBy attributes bodies count → TakesNoBootstrap pool attributes bodies 65536
    none_left [] count entries have are fine full = inr (λ names. fine (subst (NamesNothing pool) (sym are) names), full, refl)
    none_left (body ∷ []) count entries have are fine full = inr (entries, are, inr (fine, sym (so_many (body ∷ []) count entries have are) ∙ full, refl))
    none_left (body ∷ other ∷ bodies) count entries have are fine full = absurd are

    fine_by : (entries : List Bootstrap) (Full : Type 0) → (NamesNothing pool entries → ⊥) → (Full → ⊥) → (place : ℕ) → TakesNoMore pool entries Full place → ⊥
    fine_by entries Full fine room place (inl names) = fine names.0
    fine_by entries Full fine room place (inr full) = room full.1

    pub takes_one_more : (bodies : List (List ℕ)) (count : ℕ) (entries : List Bootstrap) → HaveBootstraps bodies count → AreBootstraps bodies entries → (NamesNothing pool entries → ⊥)
        → (IsFullBy attributes bodies count → ⊥) → (place : ℕ) → TakesNoBootstrap pool attributes bodies place → ⊥
    takes_one_more [] count entries have are fine room place none =
        fine_by [] (attributes ≡ 65535) (λ names. fine (subst (NamesNothing pool) (sym are) names)) room place none
    takes_one_more (body ∷ []) count entries have are fine room place (inl bad) = bad.0 entries are
    takes_one_more (body ∷ []) count entries have are fine room place (inr some) =
        fine_by entries (length entries ≡ 65535) fine (λ full. room (so_many (body ∷ []) count entries have are ∙ full)) place
        (subst (λ (l : List Bootstrap). TakesNoMore pool l (length l ≡ 65535) place) (one_list body some.0 entries some.1 are) some.2)
    takes_one_more (body ∷ other ∷ bodies) count entries have are fine room place none = absurd are

-- ---- what the body of the attribute spells

pub first_text : (bodies : List (List ℕ)) (body : List ℕ) (entries : List Bootstrap) → IsFirstBody bodies (Some body) → AreBootstraps bodies entries → bootstraps.Text body entries
first_text [] body entries first are = absurd (none-some body (sym first))
first_text (other ∷ []) body entries first are = subst (λ (l : List ℕ). bootstraps.Text l entries) (sym (same_Some body other first)) are
first_text (other ∷ more ∷ bodies) body entries first are = absurd are

pub no_text : (bodies : List (List ℕ)) (entries : List Bootstrap) → IsFirstBody bodies None → AreBootstraps bodies entries → entries ≡ []
no_text [] entries first are = are
no_text (other ∷ bodies) entries first are = absurd (none-some other first)

-- an entry of the pool asks for one that isn't there
pub by_asking : (pool : PoolValue) (bodies : List (List ℕ)) (count : ℕ) (entries : List Bootstrap) → HaveBootstraps bodies count → AreBootstraps bodies entries → AsksPast pool count
    → IsTrue true ↔ NamesNothing pool entries
by_asking pool bodies count entries have are asks =
    (λ t. inr (subst (AsksPast pool) (so_many pool bodies count entries have are) asks), λ names. refl)

module _ (pool : PoolValue) (bodies : List (List ℕ)) (count : ℕ) (entries : List Bootstrap) (have : HaveBootstraps bodies count) (are : AreBootstraps bodies entries)
    (asks_not : AsksPast pool count → ⊥) where
  no_asking : AsksPast pool (length entries) → ⊥
  no_asking asks = asks_not (subst (AsksPast pool) (sym (so_many pool bodies count entries have are)) asks)

  pub by_naming : (named : Bool) → (IsTrue named ↔ SomeNamesPast (length pool) entries) → IsTrue named ↔ NamesNothing pool entries
  by_naming named both =
      (λ t. inl (both.0 t), λ names. ⊎_elim (λ some. both.1 some) (λ asks. absurd (no_asking asks)) names)

  pub by_nothing : IsFirstBody bodies None → IsTrue false ↔ NamesNothing pool entries
  by_nothing first = (
    λ t. absurd (false≢true t),
    λ names. ⊎_elim
        (λ some. absurd (none_in some.0 (subst (λ (l : List Bootstrap). Contains l some.0) (no_text bodies entries first are) some.1)))
        (λ asks. absurd (no_asking asks)) names,
  )

-- a number is left
pub few_bootstraps : (attributes : ℕ) (bodies : List (List ℕ)) (count : ℕ) → HaveBootstraps bodies count → count ≤ 65535 → (IsFullBy attributes bodies count → ⊥) → count < 65535
few_bootstraps attributes [] count have most room = omega (arith, have)
few_bootstraps attributes (body ∷ bodies) count have most room = elim (cases_lt count 65535) [
  | inl few ↦ few
  | inr many ↦ absurd (room (omega (arith, most, many)))
]

-- ---- how a class gets its array

pub gets_member : (c : ClassFile) → fetch_of c.major ≡ fetches.Member → GetsBy c (fetch_of c.major) 0
gets_member c member = record {
  fetch_is = refl;
  bootstrap_is = subst (λ (f : Fetch). IsNextBootstrap f (bootstrap_bodies c.pool c.attributes) 0) (sym member) refl;
}

pub gets_constant : (c : ClassFile) (count : ℕ) → fetch_of c.major ≡ fetches.Constant → HaveBootstraps (bootstrap_bodies c.pool c.attributes) count
    → GetsBy c (fetch_of c.major) count
gets_constant c count constant have = record {
  fetch_is = refl;
  bootstrap_is = subst (λ (f : Fetch). IsNextBootstrap f (bootstrap_bodies c.pool c.attributes) count) (sym constant) have;
}

pub next_or_none : (fetch : Fetch) (bodies : List (List ℕ)) → ((bootstrap : ℕ) × IsNextBootstrap fetch bodies bootstrap) ⊎ ((bootstrap : ℕ) → IsNextBootstrap fetch bodies bootstrap → ⊥)
next_or_none fetches.Member bodies = inl (0, refl)
next_or_none fetches.Constant [] = inl (0, refl)
next_or_none fetches.Constant (body ∷ []) = elim (spelled_or_not body) [
  | inl text ↦ inl (length text.0, (text.0, text.1, refl))
  | inr none ↦ inr (λ count have. none have.0 have.1)
]
next_or_none fetches.Constant (body ∷ other ∷ bodies) = inr (λ count have. have)

-- ---- as a cause of the class

by_one_way : fetches.Member ≡ fetches.Constant → ⊥
by_one_way e = cc

constant_or_not : (fetch : Fetch) → OrNot (fetch ≡ fetches.Constant)
constant_or_not fetches.Member = inr by_one_way
constant_or_not fetches.Constant = inl refl

pub member_never : (c : ClassFile) → fetch_of c.major ≡ fetches.Member → Never (HasBadBootstraps c)
member_never c member r bad = by_one_way (sym member ∙ bad.by_constant)

pub constant_never : (c : ClassFile) → ((place : ℕ) → TakesNoBootstrap c.pool (length c.attributes) (bootstrap_bodies c.pool c.attributes) place → ⊥) → Never (HasBadBootstraps c)
constant_never c none r bad = none bad.place bad.none

pub bad_bootstraps : (c : ClassFile) (place : ℕ) → fetch_of c.major ≡ fetches.Constant
    → TakesNoBootstrap c.pool (length c.attributes) (bootstrap_bodies c.pool c.attributes) place → (r : Refusal) → r ≡ of_class kinds.BadBootstraps place → HasBadBootstraps c r
bad_bootstraps c place constant none r is = record { by_constant = constant; place = place; none = none; refusal = is }

pub bootstraps_decided : (c : ClassFile) → IsDecided (HasBadBootstraps c)
bootstraps_decided c =
    by (constant_or_not (fetch_of c.major)) (none_decided c.pool (length c.attributes) (bootstrap_bodies c.pool c.attributes))
  where
    by : OrNot (fetch_of c.major ≡ fetches.Constant) → AtOnePlace c.pool (TakesNoBootstrap c.pool (length c.attributes) (bootstrap_bodies c.pool c.attributes))
        → IsDecided (HasBadBootstraps c)
    by (inr other) bad = inr (λ r b. other b.by_constant)
    by (inl constant) (inl bad) = inl (of_class kinds.BadBootstraps bad.0, record { by_constant = constant; place = bad.0; none = bad.1; refusal = refl })
    by (inl constant) (inr none) = inr (constant_never c none)

pub one_bootstraps : (c : ClassFile) → IsSingle (HasBadBootstraps c)
one_bootstraps c r s a b =
    a.refusal ∙ ap (of_class kinds.BadBootstraps) (one_place c.pool (length c.attributes) (bootstrap_bodies c.pool c.attributes) a.place b.place a.none b.none)
    ∙ sym b.refusal
