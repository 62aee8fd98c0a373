-- The attributes of a class that gets one more bootstrap method are of bytes, and not too long.
use Rattle.std.proofs.Common.{ℕ, zero, suc, ◌+◌, ◌<◌, ◌≤◌, Bool, true, false, List, [], ◌∷◌, ◌++◌, length, map, drop, arith, if◌then◌else◌, length-append}
use Rattle.std.specs.List.{AllByRecursion, sum_by}
use Rattle.std.specs.Int.{bytes_high_first}
use Rattle.std.proofs.lemmas.List.Sums.{sum_by-cons}
use Rattle.jc_bytes.specs.ByteLists.{AreBytes}
use Rattle.jc_bytes.specs.Reader.{most_read}
use Rattle.jc_methods.specs.ProbeMembers.{bootstraps_name}
use Rattle.jc_methods.specs.declared.probe_members.Fetch.{Fetch}
use Rattle.jc_methods.specs.declared.probe_members.Fetch.TheVariants as fetches
use Rattle.jc_bytes.specs.BigNumbers.{short}
use Rattle.jc_insn.proofs.ReadBackLaws.{short_size}
use Rattle.jc_pool.specs.Pool.{PoolValue}
use Rattle.jc_class.specs.declared.class_file.Attribute.{Attribute}
use Rattle.jc_class.proofs.ReadClassLaws.{counted_hold}
use Rattle.jc_bootstraps.specs.Bootstraps.{HaveBootstraps, bootstrap as bootstrap_form, bootstrap_bodies, bootstraps, has_name as has_text, with_bootstrap}
use Rattle.jc_instrument_code.specs.CodeText.{attribute}
use Rattle.jc_plan.proofs.CountLaws.{each_joined}
use Rattle.jc_instrument.specs.Needed.{IsNextBootstrap}
use Rattle.jc_instrument.specs.TwinText.{new_attribute, twin_attributes, with_bootstrap_at}
use Rattle.jc_instrument.specs.declared.needs.MemberPlaces.{MemberPlaces}
use Rattle.jc_instrument.proofs.TextSizesLaws.{attributes_size}
use Rattle.jc_instrument_laws.proofs.ClassSpellingLaws.{big_bytes_are, bytes_both}

-- a text that an attribute can hold
pub record FitsAttribute (text : List ℕ) : Type 0 where
  pub few : length text ≤ 4294967295
  pub are : AreBytes text

-- ---- one more bootstrap method

drop_are : (n : ℕ) (bytes : List ℕ) → AreBytes bytes → AreBytes (drop n bytes)
drop_are zero bytes are = are
drop_are (suc n) [] are = tt
drop_are (suc n) (x ∷ bytes) are = drop_are n bytes are.1

drop_count : (n : ℕ) (bytes : List ℕ) → length (drop n bytes) ≤ length bytes
drop_count zero bytes = omega arith
drop_count (suc n) [] = omega arith
drop_count (suc n) (x ∷ bytes) = let fewer = drop_count n bytes in omega (arith, fewer)

longer_fits : (handle count : ℕ) (body : List ℕ) → length body ≤ most_read → AreBytes body → FitsAttribute (with_bootstrap handle count body)
unfolding short
longer_fits handle count body few are =
    let number = bytes_high_first 2 (count + 1) in
    let place = bytes_high_first 2 handle in
    let none = bytes_high_first 2 0 in
    let kept = drop 2 body in
    let a = short_size (count + 1) in
    let b = short_size handle in
    let c = short_size 0 in
    let d = drop_count 2 body in
    let one = length-append number (kept ++ (place ++ none)) in
    let two = length-append kept (place ++ none) in
    let three = length-append place none in
    record {
      few = omega (arith, few, a, b, c, d, one, two, three);
      are = bytes_both number _ (big_bytes_are 2 (count + 1))
          (bytes_both kept _ (drop_are 2 body are) (bytes_both place none (big_bytes_are 2 handle) (big_bytes_are 2 0)));
    }

-- ---- the attributes of a class

each_within : (most : ℕ) (l : List Attribute) → attributes_size l ≤ most → AllByRecursion (λ a. length a.body ≤ most) l
each_within most [] few = tt
each_within most (a ∷ l) few =
    let all = sum_by-cons (λ (b : Attribute). length b.body) a l in
    (omega (arith, few, all), each_within most l (omega (arith, few, all)))

module _ (pool : PoolValue) (handle bootstrap : ℕ) where
  one_fits : (a : Attribute) → length a.body ≤ most_read → AreBytes a.body → FitsAttribute (with_bootstrap_at pool handle bootstrap a).body
  one_fits a few are = by (has_text pool bootstraps_name a)
    where
      by : (t : Bool) → FitsAttribute (if t then attribute a.name (with_bootstrap handle bootstrap a.body) else a).body
      by true = longer_fits handle bootstrap a.body few are
      by false = record { few = omega (arith, few); are = are }

  each_fits : (l : List Attribute) → AllByRecursion (λ a. length a.body ≤ most_read) l → AllByRecursion (λ a. AreBytes a.body) l
      → AllByRecursion (λ a. FitsAttribute a.body) (map (with_bootstrap_at pool handle bootstrap) l)
  each_fits [] few are = tt
  each_fits (a ∷ l) few are = (one_fits a few.0 are.0, each_fits l few.1 are.1)

new_fits : (name handle : ℕ) (bodies : List (List ℕ)) → AllByRecursion (λ a. FitsAttribute a.body) (new_attribute name handle bodies)
new_fits name handle [] = (longer_fits handle 0 [] (omega arith) tt, tt)
new_fits name handle (body ∷ bodies) = tt

given_fit : (l : List Attribute) → AllByRecursion (λ a. length a.body ≤ most_read) l → AllByRecursion (λ a. AreBytes a.body) l
    → AllByRecursion (λ a. FitsAttribute a.body) l
given_fit [] few are = tt
given_fit (a ∷ l) few are = let one = few.0 in (record { few = omega (arith, one); are = are.0 }, given_fit l few.1 are.1)

fit_by : (fetch : Fetch) (pool : PoolValue) (bootstrap : ℕ) (p : MemberPlaces) (l : List Attribute) → AllByRecursion (λ a. length a.body ≤ most_read) l
    → AllByRecursion (λ a. AreBytes a.body) l → AllByRecursion (λ a. FitsAttribute a.body) (twin_attributes fetch pool bootstrap p l)
fit_by fetches.Member pool bootstrap p l few are = given_fit l few are
fit_by fetches.Constant pool bootstrap p l few are =
    each_joined (λ a. FitsAttribute a.body) (map (with_bootstrap_at pool p.handle bootstrap) l) (new_attribute p.bootstraps p.handle (bootstrap_bodies pool l))
    (each_fits pool p.handle bootstrap l few are) (new_fits p.bootstraps p.handle (bootstrap_bodies pool l))

pub attributes_fit : (fetch : Fetch) (pool : PoolValue) (bootstrap : ℕ) (p : MemberPlaces) (l : List Attribute) → attributes_size l ≤ most_read
    → AllByRecursion (λ a. AreBytes a.body) l → AllByRecursion (λ a. FitsAttribute a.body) (twin_attributes fetch pool bootstrap p l)
attributes_fit fetch pool bootstrap p l few are = fit_by fetch pool bootstrap p l (each_within most_read l few) are

-- ---- the number of a bootstrap method

count_below : (bodies : List (List ℕ)) (count : ℕ) → AllByRecursion AreBytes bodies → HaveBootstraps bodies count → count < 65536
unfolding bootstraps
count_below [] count are have = omega (arith, have)
count_below (body ∷ []) count are have =
    let few = (counted_hold bootstrap_form (λ b. Unit {0}) (λ text b of spells. tt) body have.0 are.0 have.1).few in
    let same = have.2 in
    omega (arith, few, same)
count_below (body ∷ other ∷ bodies) count are have = absurd have

pub next_below : (fetch : Fetch) (bodies : List (List ℕ)) (count : ℕ) → AllByRecursion AreBytes bodies → IsNextBootstrap fetch bodies count → count < 65536
next_below fetches.Member bodies count are none = omega (arith, none)
next_below fetches.Constant bodies count are have = count_below bodies count are have
