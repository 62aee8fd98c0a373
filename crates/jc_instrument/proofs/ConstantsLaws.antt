-- The constants that instrumented code loads: there are some, and they are those of the class.
use Rattle.std.proofs.Common.{◌≡◌, inl, inr, ⊎_elim, ℕ, zero, suc, pos, ◌+◌, ◌-◌, ◌<◌, ◌≤◌, List, [], ◌∷◌, ◌++◌, length, map, Option, Some, None, Result, Ok, Err, IfOk, refl, sym, ◌∙◌, ap, subst, arith}
use Rattle.std.specs.Bool.{⊤}
use Rattle.std.proofs.lemmas.Bool.{cases_lt}
use Rattle.std.proofs.lemmas.List.{length-map}
use Rattle.jc_methods.specs.ProbeMembers.{constant_type, data_name, fetch_of, most_short}
use Rattle.jc_methods.specs.declared.insn.Insn.{Insn}
use Rattle.jc_methods.specs.declared.probe_members.Fetch.{Fetch}
use Rattle.jc_methods.specs.declared.probe_members.Fetch.TheVariants as fetches
use Rattle.jc_bytes.specs.Decoder.{◌>>=◌}
use Rattle.jc_bytes.specs.PlainLists.{numbers_from}
use Rattle.jc_bytes.specs.declared.fail.Memory.{Memory}
use Rattle.jc_pool.specs.declared.entry.Entry.{Entry}
use Rattle.jc_pool.specs.declared.entry.Entry.TheVariants as entry
use Rattle.jc_pool.specs.declared.planned.Planned.{Planned}
use Rattle.jc_pool.specs.Adding.{AreSameInts, HasComputed, HasSignature, HasUtf8, IsPut, WouldHaveInts, WouldStand, bootstrap_constant}
use Rattle.jc_pool.specs.Lookup.{Computed, Signature, integer_in, integer_of}
use Rattle.jc_pool.specs.Pool.{PoolValue, slots_of}
use Rattle.jc_pool.proofs.OneMoreEntryLaws.{grown_length, past, put_there, read_off, stays}
use Rattle.jc_class.specs.declared.class_file.ClassFile.{ClassFile}
use Rattle.jc_bootstraps.specs.Bootstraps.{Bootstrap, HaveBootstraps, bootstrap_bodies}
use Rattle.jc_bootstraps.proofs.BootstrapFormLaws.{one_list}
use Rattle.jc_instrument_reread.specs.Written.{array_constant}
use Rattle.jc_instrument.specs.Constants.{AreConstants, constants_at, within}
use Rattle.jc_instrument.specs.Contents.{TakesEach, computed_entry, integer_entry}
use Rattle.jc_instrument.specs.Needed.{EarlyPlaces, GetsBy, IsNextBootstrap, constant_needs, early_list, early_needs, integer_needs}
use Rattle.jc_instrument.specs.declared.constants.ProbeConstants.{ProbeConstants}
use Rattle.jc_instrument.proofs.GrownPoolLaws.{one_taking}
use Rattle.jc_instrument.proofs.TakingLaws.{integers_taken, some_takings, takes_both, takes_count, takes_one}

-- ---- a constant changes no ints

put_ints : (now : PoolValue) (e : Entry) → integer_in e ≡ None → length (now ++ slots_of e) ≡ length now + 1 → AreSameInts now (now ++ slots_of e)
unfolding integer_of
put_ints now e none size place = elim (cases_lt place (length now)) [
  | inl before ↦ stays integer_in now (slots_of e) place before
  | inr behind ↦ elim (cases_lt (length now) place) [
    | inl beyond ↦ past integer_in (now ++ slots_of e) place (omega (arith, beyond, size)) ∙ sym (past integer_in now place behind)
    | inr no_more ↦
        let here : place ≡ length now = omega (arith, behind, no_more) in
        ap (read_off integer_in (now ++ slots_of e)) here ∙ put_there integer_in now e ∙ none ∙ sym (past integer_in now place behind)
  ]
]

same_as : (old new : PoolValue) → new ≡ old → AreSameInts old new
same_as old new same place = ap (λ (l : PoolValue). integer_of l place) same

ints_put : (old new : PoolValue) (e : Entry) (place : ℕ) → integer_in e ≡ None → length (old ++ slots_of e) ≡ length old + 1 → IsPut old new e place → AreSameInts old new
ints_put old new e place none size put at = ap (λ (l : PoolValue). integer_of l at) put.grown ∙ put_ints old e none size at

text_ints : (old new : PoolValue) (text : List ℕ) (place : ℕ) → HasUtf8 old text new place → AreSameInts old new
text_ints old new text place (inl there) = same_as old new there.1
text_ints old new text place (inr put) = ints_put old new (entry.Utf8 text) place refl (grown_length old (entry.Utf8 text)) put.1

then_ints : (old mid new : PoolValue) → AreSameInts old mid → AreSameInts mid new → AreSameInts old new
then_ints old mid new one two place = two place ∙ one place

signature_ints : (old new : PoolValue) (s : Signature) (place : ℕ) → HasSignature old s new place → AreSameInts old new
signature_ints old new s place (inl there) = same_as old new there.1
signature_ints old new s place (inr put) =
    let p = put.1 in
    then_ints old p.0 new (text_ints old p.0 s.name p.1 p.2)
    (then_ints p.0 p.3 new (text_ints p.0 p.3 s.desc p.4 p.5)
    (ints_put p.3 new (entry.NameAndType p.1 p.4) place refl (grown_length p.3 (entry.NameAndType p.1 p.4)) p.6))

computed_ints : (old new : PoolValue) (c : Computed) (place : ℕ) → HasComputed old c new place → AreSameInts old new
computed_ints old new c place (inl there) = same_as old new there.1
computed_ints old new c place (inr put) =
    let p = put.1 in
    then_ints old p.0 new (signature_ints old p.0 c.signed p.1 p.2)
    (ints_put p.0 new (entry.Dynamic c.bootstrap p.1) place refl (grown_length p.0 (entry.Dynamic c.bootstrap p.1)) p.3)

-- ---- what is planned

abbrev GiverStands : PoolValue → Fetch → (bootstrap : ℕ) → Planned → Type 0
GiverStands pool fetch bootstrap p =
    (new : PoolValue) × AreSameInts pool new × (length new ≡ p.count) × TakesEach pool (constant_needs fetch bootstrap) new (early_list fetch (record { giver = p.place; integers = [] }))

pub giver_planned : (pool : PoolValue) (fetch : Fetch) (bootstrap : ℕ) → fetch ≡ fetches.Constant → (r : Result Planned Memory)
    → IfOk r (λ p. WouldStand (HasComputed pool (bootstrap_constant bootstrap data_name constant_type)) p.place p.count) → IfOk r (GiverStands pool fetch bootstrap)
giver_planned pool fetch bootstrap constant (Ok p) would = subst (λ (f : Fetch). GiverStands pool f bootstrap p) (sym constant) (
  would.0,
  computed_ints pool would.0 (bootstrap_constant bootstrap data_name constant_type) p.place would.1,
  would.2,
  takes_one pool would.0 (computed_entry (array_constant bootstrap)) p.place would.1,
)
giver_planned pool fetch bootstrap constant (Err e) would = tt

-- these are the constants of the class
module _ (c : ClassFile) (bootstrap count giver : ℕ) (places : List ℕ) (mid new : PoolValue) where
  constants_by : (fetch : Fetch) → (fetch ≡ fetches.Member → giver ≡ 0) → GetsBy c fetch bootstrap
      → TakesEach c.pool (constant_needs fetch bootstrap) mid (early_list fetch (record { giver = giver; integers = [] })) → TakesEach mid (integer_needs count) new places
      → AreConstants c count bootstrap (record { fetch = fetch; giver = within giver; integers = map within places })
  constants_by fetches.Member none gets front back = record {
    gets = gets;
    early = record { giver = giver; integers = places };
    pool = new;
    takes = takes_both c.pool mid new (constant_needs fetches.Member bootstrap) (integer_needs count) [] places front back;
    are = λ i. record { fetch = fetches.Member; giver = within (none refl i); integers = map within places };
  }
  constants_by fetches.Constant none gets front back = record {
    gets = gets;
    early = record { giver = giver; integers = places };
    pool = new;
    takes = takes_both c.pool mid new (constant_needs fetches.Constant bootstrap) (integer_needs count) (giver ∷ []) places front back;
    are = refl;
  }

  pub constants_planned : (fetch : Fetch) → (fetch ≡ fetches.Member → giver ≡ 0) → GetsBy c fetch bootstrap
      → TakesEach c.pool (constant_needs fetch bootstrap) mid (early_list fetch (record { giver = giver; integers = [] })) → TakesEach mid (integer_needs count) new places
      → (constants : ProbeConstants) → constants.fetch ≡ fetch → constants.giver ≡ within giver → constants.integers ≡ map within places
      → AreConstants c count bootstrap constants
  constants_planned fetch none gets front back constants fetch_is giver_is integers_are =
      subst (AreConstants c count bootstrap)
      (λ i. record { fetch = sym fetch_is i; giver = sym giver_is i; integers = sym integers_are i })
      (constants_by fetch none gets front back)

-- ---- there are some

some_by : (c : ClassFile) (count bootstrap : ℕ) (fetch : Fetch) → GetsBy c fetch bootstrap
    → (new : PoolValue) (places : List ℕ) → TakesEach c.pool (early_needs fetch bootstrap count) new places
    → (constants : ProbeConstants) × AreConstants c count bootstrap constants × (constants.fetch ≡ fetch)
some_by c count bootstrap fetches.Member gets new places takes =
    let early : EarlyPlaces = record { giver = 0; integers = places } in
    (constants_at fetches.Member early, record { gets = gets; early = early; pool = new; takes = takes; are = refl }, refl)
some_by c count bootstrap fetches.Constant gets new places takes =
    let early : EarlyPlaces = record { giver = takes.1; integers = takes.2 } in (
      constants_at fetches.Constant early,
      record {
        gets = gets;
        early = early;
        pool = new;
        takes = subst (TakesEach c.pool (early_needs fetches.Constant bootstrap count) new) takes.3 takes;
        are = refl;
      },
      refl,
    )

pub some_constants : (c : ClassFile) (count bootstrap : ℕ) → GetsBy c (fetch_of c.major) bootstrap
    → (constants : ProbeConstants) × AreConstants c count bootstrap constants × (constants.fetch ≡ fetch_of c.major)
some_constants c count bootstrap gets =
    let some = some_takings c.pool (early_needs (fetch_of c.major) bootstrap count) in
    some_by c count bootstrap (fetch_of c.major) gets some.0 some.1 some.2

-- ---- and no others

pub one_count : (bodies : List (List ℕ)) (a b : ℕ) → HaveBootstraps bodies a → HaveBootstraps bodies b → a ≡ b
one_count [] a b p q = p ∙ sym q
one_count (body ∷ []) a b p q = p.2 ∙ ap (λ (l : List Bootstrap). length l) (one_list body p.0 q.0 p.1 q.1) ∙ sym q.2
one_count (body ∷ other ∷ bodies) a b p q = absurd p

one_next : (fetch : Fetch) (bodies : List (List ℕ)) (a b : ℕ) → IsNextBootstrap fetch bodies a → IsNextBootstrap fetch bodies b → a ≡ b
one_next fetches.Member bodies a b p q = p ∙ sym q
one_next fetches.Constant bodies a b p q = one_count bodies a b p q

-- the number of the bootstrap method
pub one_bootstrap : (c : ClassFile) (fetch other : Fetch) (a b : ℕ) → GetsBy c fetch a → GetsBy c other b → (fetch ≡ other) × (a ≡ b)
one_bootstrap c fetch other a b p q =
    let same : other ≡ fetch = q.fetch_is ∙ sym p.fetch_is in (
      sym same,
      one_next fetch (bootstrap_bodies c.pool c.attributes) a b p.bootstrap_is
          (subst (λ (f : Fetch). IsNextBootstrap f (bootstrap_bodies c.pool c.attributes) b) same q.bootstrap_is),
    )

head_place : {x y : ℕ} {xs ys : List ℕ} → x ∷ xs ≡ y ∷ ys → x ≡ y
head_place e = cc

tail_places : {x y : ℕ} {xs ys : List ℕ} → x ∷ xs ≡ y ∷ ys → xs ≡ ys
tail_places e = cc

same_at : (fetch : Fetch) (p q : EarlyPlaces) → early_list fetch p ≡ early_list fetch q → constants_at fetch p ≡ constants_at fetch q
same_at fetches.Member p q same = λ i. record { fetch = fetches.Member; giver = 0; integers = map within (same i) }
same_at fetches.Constant p q same =
    let giver = head_place same in
    let integers = tail_places same in
    λ i. record { fetch = fetches.Constant; giver = within (giver i); integers = map within (integers i) }

pub one_constants : (c : ClassFile) (count a b : ℕ) (x y : ProbeConstants) → AreConstants c count a x → AreConstants c count b y → (x ≡ y) × (a ≡ b)
one_constants c count a b x y p q =
    let same = one_bootstrap c x.fetch y.fetch a b p.gets q.gets in
    let taken : TakesEach c.pool (early_needs x.fetch a count) q.pool (early_list x.fetch q.early) =
    subst (λ (f : Fetch). TakesEach c.pool (early_needs f a count) q.pool (early_list f q.early)) (sym same.0)
    (subst (λ (n : ℕ). TakesEach c.pool (early_needs y.fetch n count) q.pool (early_list y.fetch q.early)) (sym same.1) q.takes) in
    let places = (one_taking (early_needs x.fetch a count) c.pool p.pool q.pool (early_list x.fetch p.early) (early_list x.fetch q.early) p.takes taken).1 in (
      p.are ∙ same_at x.fetch p.early q.early places ∙ ap (λ (f : Fetch). constants_at f q.early) same.0 ∙ sym q.are,
      same.1,
    )

-- ---- how many there are

numbers_count : (first many : ℕ) → length (numbers_from first many) ≡ many
numbers_count first zero = refl
numbers_count first (suc many) = ap suc (numbers_count (first + 1) many)

needs_count : (count : ℕ) → length (integer_needs count) ≡ count - (most_short + 1)
needs_count count = length-map (numbers_from (most_short + 1) (count - (most_short + 1))) _ ∙ numbers_count (most_short + 1) (count - (most_short + 1))

early_count : (c : ClassFile) (count bootstrap : ℕ) (fetch : Fetch) (early : EarlyPlaces) (new : PoolValue)
    → TakesEach c.pool (early_needs fetch bootstrap count) new (early_list fetch early) → length early.integers ≡ count - (most_short + 1)
early_count c count bootstrap fetches.Member early new takes = takes_count c.pool new (integer_needs count) early.integers takes ∙ needs_count count
early_count c count bootstrap fetches.Constant early new takes =
    let all = takes_count c.pool new (early_needs fetches.Constant bootstrap count) (early.giver ∷ early.integers) takes in
    let many = needs_count count in
    omega (arith, all, many)

-- there is one for each id that needs one
pub enough_constants : (c : ClassFile) (count bootstrap : ℕ) (x : ProbeConstants) → AreConstants c count bootstrap x → count ≤ most_short + 1 + length x.integers
enough_constants c count bootstrap x are =
    let integers : length x.integers ≡ length are.early.integers =
    ap (λ (y : ProbeConstants). length y.integers) are.are ∙ length-map are.early.integers within in
    let many = early_count c count bootstrap x.fetch are.early are.pool are.takes in
    omega (arith, integers, many)

-- ---- integers

abbrev IntegersStand : PoolValue → (start count : ℕ) → List ℕ → Type 0
IntegersStand pool start count places =
    (old : PoolValue) → AreSameInts pool old → length old ≡ start → (new : PoolValue) × TakesEach old (integer_needs count) new places

pub no_integers : (pool : PoolValue) (start count many : ℕ) (places : List ℕ) → many ≡ count - (most_short + 1) → many ≡ 0 → places ≡ [] → IntegersStand pool start count places
no_integers pool start count many places is none empty old same size =
    (old, subst (λ (n : ℕ). TakesEach old (map (λ (id : ℕ). integer_entry (pos id)) (numbers_from (most_short + 1) n)) old places) (sym none ∙ is) (refl, empty))

pub integers_planned : (pool : PoolValue) (start count many counted : ℕ) (places : List ℕ) → many ≡ count - (most_short + 1)
    → ((old : PoolValue) → AreSameInts pool old → length old ≡ start → WouldHaveInts old (most_short + 1) many places counted) → IntegersStand pool start count places
integers_planned pool start count many counted places is would old same size =
    let w = would old same size in (
      w.0,
      subst (λ (n : ℕ). TakesEach old (map (λ (id : ℕ). integer_entry (pos id)) (numbers_from (most_short + 1) n)) w.0 places) is
          (integers_taken old w.0 (most_short + 1) many places w.1),
    )
