-- The last bootstrap method of a class that gets one more.
use Rattle.std.proofs.Common.{◌≡◌, ◌⊎◌, inl, inr, ℕ, ◌<◌, ◌≤◌, Bool, true, false, cond, List, [], ◌∷◌, ◌++◌, length, map, filter, Contains, Some, bytes_eq, refl, sym, ◌∙◌, ap, subst, arith, true≢false}
use Rattle.std.specs.Prelude.{◌≢◌}
use Rattle.std.specs.List.{AllByRecursion}
use Rattle.std.proofs.lemmas.Bool.{cases_lt}
use Rattle.std.proofs.lemmas.Option.{none-some}
use Rattle.jc_bytes.specs.ByteLists.{AreBytes}
use Rattle.jc_bytes.proofs.BooleanLaws.{first_in, later_in, none_in, which_in}
use Rattle.jc_methods.specs.ProbeMembers.{bootstraps_name}
use Rattle.jc_methods.specs.declared.probe_members.Fetch.TheVariants as fetches
use Rattle.jc_pool.specs.Adding.{Extends}
use Rattle.jc_pool.specs.Lookup.{Handle, handle_of, utf8_of}
use Rattle.jc_pool.specs.Pool.{PoolValue}
use Rattle.jc_pool.proofs.LinkedKeyLaws.{handle_past}
use Rattle.jc_class.specs.ClassFormat.{HasText}
use Rattle.jc_class.specs.ItemReading.{passes}
use Rattle.jc_class.specs.Writable.{IsAttribute, IsClassFile}
use Rattle.jc_class.specs.declared.class_file.Attribute.{Attribute}
use Rattle.jc_class.specs.declared.class_file.ClassFile.{ClassFile}
use Rattle.jc_bootstraps.specs.Bootstraps.{Bootstrap, HaveBootstraps, bootstrap_bodies, bootstraps, has_name, with_bootstrap, without_arguments}
use Rattle.jc_bootstraps.proofs.BootstrapLaws.{first_one, one_more}
use Rattle.jc_bootstraps.proofs.NamedLaws.{name_is}
use Rattle.jc_instrument.specs.Bootstraps.{NamesNothing, TakesNoBootstrap}
use Rattle.jc_instrument.specs.Needed.{bootstrap_handle}
use Rattle.jc_instrument.specs.SameOutside.{AreClassAttributes, AreKeptOrLonger, IsLongerBootstraps, IsNewBootstraps, SomeOfName}
use Rattle.jc_instrument_laws.proofs.AttributeBytesLaws.{next_below}
use Rattle.jc_link_programs.specs.OwnBootstrap.{IsLastBootstrap}
use Rattle.jc_link_laws.proofs.KeptStaticsLaws.{text_same}

-- ---- what attributes of the name hold

module _ (pool : PoolValue) where
  abbrev named : List Attribute → List Attribute
  named l = filter (has_name pool bootstraps_name) l

  abbrev held : List Attribute → List (List ℕ)
  held l = map (λ (a : Attribute). a.body) l

  -- where one of them has the name, one of them holds something
  some_held : (l : List Attribute) (a : Attribute) → Contains l a → has_name pool bootstraps_name a ≡ true → bootstrap_bodies pool l ≡ [] → ⊥
  some_held [] a there is none = absurd (none_in a there)
  some_held (x ∷ l) a there is none = by (has_name pool bootstraps_name x) refl none (λ later. some_held l a later is)
    where
      not_empty : {x : List ℕ} {xs : List (List ℕ)} → x ∷ xs ≡ [] → ⊥
      not_empty e = cc

      behind : (x ≡ a) ⊎ Contains l a → has_name pool bootstraps_name x ≡ false → Contains l a
      behind (inl same) other = absurd (true≢false (sym (ap (has_name pool bootstraps_name) same ∙ is) ∙ other))
      behind (inr later) other = later

      by : (t : Bool) → has_name pool bootstraps_name x ≡ t → held (cond t (x ∷ named l) (named l)) ≡ []
          → (Contains l a → bootstrap_bodies pool l ≡ [] → ⊥) → ⊥
      by true here e later = not_empty e
      by false other e later = later (behind (which_in x l a there) other) e

-- ---- in a pool that has grown

module _ (old new : PoolValue) (more : Extends old new) where
  same_test : (a b : Attribute) → HasText old a.name → b.name ≡ a.name → has_name new bootstraps_name b ≡ has_name old bootstraps_name a
  same_test a b text same =
      ap (passes (λ (l : List ℕ). bytes_eq l bootstraps_name)) (ap (utf8_of new) same ∙ text_same old new more a.name text)

  is_not : (a : Attribute) → utf8_of old a.name ≢ Some bootstraps_name → has_name old bootstraps_name a ≡ false
  is_not a other = by (has_name old bootstraps_name a) refl
    where
      by : (t : Bool) → has_name old bootstraps_name a ≡ t → t ≡ false
      by true is = absurd (other ((name_is old bootstraps_name a).0 is))
      by false is = refl

  -- the attribute of the name holds one more
  longer_bodies : (bootstrap handle : ℕ) (olds news : List Attribute) → AllByRecursion (IsAttribute (HasText old)) olds
      → AreKeptOrLonger old bootstrap handle olds news
      → bootstrap_bodies new news ≡ map (with_bootstrap handle bootstrap) (bootstrap_bodies old olds)
  longer_bodies bootstrap handle [] [] all kept = refl
  longer_bodies bootstrap handle [] (b ∷ news) all kept = absurd kept
  longer_bodies bootstrap handle (a ∷ olds) [] all kept = absurd kept
  longer_bodies bootstrap handle (a ∷ olds) (b ∷ news) all kept =
      ap (λ (t : Bool). held new (cond t (b ∷ named new news) (named new news))) (same_test a b all.0.name kept.0.0)
      ∙ by (has_name old bootstraps_name a) refl kept.0.1 (longer_bodies bootstrap handle olds news all.1 kept.1)
    where
      by : (t : Bool) → has_name old bootstraps_name a ≡ t
          → ((utf8_of old a.name ≡ Some bootstraps_name) × IsLongerBootstraps bootstrap handle a.body b.body)
          ⊎ ((utf8_of old a.name ≢ Some bootstraps_name) × (b.body ≡ a.body))
          → bootstrap_bodies new news ≡ map (with_bootstrap handle bootstrap) (bootstrap_bodies old olds)
          → held new (cond t (b ∷ named new news) (named new news))
          ≡ map (with_bootstrap handle bootstrap) (held old (cond t (a ∷ named old olds) (named old olds)))
      by true is (inl longer) rest = λ i. longer.1.is i ∷ rest i
      by true is (inr other) rest = absurd (other.0 ((name_is old bootstraps_name a).0 is))
      by false is how rest = rest

  -- the one that is put behind them holds one alone
  new_bodies : (l : List Attribute) → AllByRecursion (IsAttribute (HasText old)) l → ((a : Attribute) → Contains l a → utf8_of old a.name ≢ Some bootstraps_name)
      → (x : Attribute) → utf8_of new x.name ≡ Some bootstraps_name → bootstrap_bodies new (l ++ x ∷ []) ≡ x.body ∷ []
  new_bodies [] all none x is = ap (λ (t : Bool). held new (cond t (x ∷ []) [])) ((name_is new bootstraps_name x).1 is)
  new_bodies (a ∷ l) all none x is =
      ap (λ (t : Bool). held new (cond t (a ∷ named new (l ++ x ∷ [])) (named new (l ++ x ∷ []))))
      (same_test a a all.0.name refl ∙ is_not a (none a (first_in a l)))
      ∙ new_bodies l all.1 (λ b there. none b (later_in a l b there)) x is

-- ---- the class

handle_below : (pool : PoolValue) → length pool ≤ 65535 → (place : ℕ) (h : Handle) → handle_of pool place ≡ Some h → place < 65536
handle_below pool few place h there = by (cases_lt place (length pool))
  where
    by : (place < length pool) ⊎ (length pool ≤ place) → place < 65536
    by (inl less) = omega (arith, less, few)
    by (inr past) = absurd (none-some h (sym (handle_past pool place past) ∙ there))

module _ (c t : ClassFile) (class : IsClassFile c) (bytes : AllByRecursion AreBytes (bootstrap_bodies c.pool c.attributes)) (more : Extends c.pool t.pool)
    (few : length t.pool ≤ 65535) (owner : List ℕ) (bootstrap : ℕ) (have : HaveBootstraps (bootstrap_bodies c.pool c.attributes) bootstrap)
    (room : (place : ℕ) → TakesNoBootstrap c.pool (length c.attributes) (bootstrap_bodies c.pool c.attributes) place → ⊥) where
  module _ (handle : ℕ) (handle_is : handle_of t.pool handle ≡ Some (bootstrap_handle owner)) where
    fits : handle < 65536
    fits = handle_below t.pool few handle (bootstrap_handle owner) handle_is

    -- there is room behind those of one attribute
    room_behind : (bodies : List (List ℕ)) (body : List ℕ) (entries : List Bootstrap) → bodies ≡ body ∷ [] → bootstraps.Text body entries
        → ((place : ℕ) → TakesNoBootstrap c.pool (length c.attributes) bodies place → ⊥) → length entries ≡ 65535 → ⊥
    room_behind bodies body entries is text room full =
        one_room (λ place none. room place (subst (λ (l : List (List ℕ)). TakesNoBootstrap c.pool (length c.attributes) l place) (sym is) none))
      where
        one_room : ((place : ℕ) → TakesNoBootstrap c.pool (length c.attributes) (body ∷ []) place → ⊥) → ⊥
        one_room none = none 65536 (inr (entries, text, inr ((λ (n : NamesNothing c.pool entries). none 0 (inr (entries, text, inl (n, refl)))), full, refl)))

    longer : SomeOfName c.pool c.attributes → AreKeptOrLonger c.pool bootstrap handle c.attributes t.attributes → IsLastBootstrap t owner bootstrap
    longer some kept = by (bootstrap_bodies c.pool c.attributes) refl have
      where
        by : (bodies : List (List ℕ)) → bootstrap_bodies c.pool c.attributes ≡ bodies → HaveBootstraps bodies bootstrap → IsLastBootstrap t owner bootstrap
        by [] is count =
            absurd (some_held c.pool c.attributes some.0 some.1 ((name_is c.pool bootstraps_name some.0).1 some.2) is)
        by (body ∷ other ∷ bodies) is count = absurd count
        by (body ∷ []) is (entries, text, number) =
            let below = next_below fetches.Constant (bootstrap_bodies c.pool c.attributes) bootstrap bytes have in
            let full = room_behind (bootstrap_bodies c.pool c.attributes) body entries is text room in
            let less : bootstrap < 65535 = one_less bootstrap below (λ e. full (sym number ∙ e)) in
            record {
              body = with_bootstrap handle bootstrap body;
              single = longer_bodies c.pool t.pool more bootstrap handle c.attributes t.attributes class.attributes.each kept
                  ∙ ap (map (with_bootstrap handle bootstrap)) is;
              before = entries;
              last = without_arguments handle;
              text = one_more handle bootstrap body entries fits less text number;
              number_is = number;
              arguments = refl;
              handle = handle_is;
            }
          where
            one_less : (n : ℕ) → n < 65536 → (n ≡ 65535 → ⊥) → n < 65535
            one_less n below other = which (cases_lt n 65535)
              where
                which : (n < 65535) ⊎ (65535 ≤ n) → n < 65535
                which (inl less) = less
                which (inr past) = absurd (other (omega (arith, below, past)))

    alone : bootstrap ≡ 0 → IsNewBootstraps c.pool t.pool handle c.attributes t.attributes → IsLastBootstrap t owner bootstrap
    alone none put = record {
      body = with_bootstrap handle 0 [];
      single = ap (bootstrap_bodies t.pool) put.is ∙ new_bodies c.pool t.pool more c.attributes class.attributes.each put.none put.attribute put.name
          ∙ ap (λ (l : List ℕ). l ∷ []) put.body;
      before = [];
      last = without_arguments handle;
      text = first_one handle 0 [] fits refl refl;
      number_is = none;
      arguments = refl;
      handle = handle_is;
    }

  -- the last one is that of the class
  pub last_bootstrap : AreClassAttributes fetches.Constant c.pool t.pool owner bootstrap c.attributes t.attributes → IsLastBootstrap t owner bootstrap
  last_bootstrap (handle, is, how) = by how
    where
      by : (SomeOfName c.pool c.attributes × AreKeptOrLonger c.pool bootstrap handle c.attributes t.attributes)
          ⊎ ((bootstrap ≡ 0) × IsNewBootstraps c.pool t.pool handle c.attributes t.attributes) → IsLastBootstrap t owner bootstrap
      by (inl one) = longer handle is one.0 one.1
      by (inr first) = alone handle is first.0 first.1
