-- The bodies of a class together have no more instructions and arms than the attributes of its methods have bytes.
use Rattle.std.proofs.Common.{◌≡◌, ℕ, zero, suc, ◌+◌, ◌<◌, ◌≤◌, Bool, true, false, List, [], ◌∷◌, length, Some, slice_get, refl, sym, ◌∙◌, ap, arith}
use Rattle.std.specs.List.{sum_by}
use Rattle.std.proofs.lemmas.List.Sums.{sum_by-cons}
use Rattle.std.proofs.lemmas.Option.{none-some, same_Some}
use Rattle.jc_bytes.specs.Reader.{most_read}
use Rattle.jc_bytes.proofs.ListLaws.{all_at}
use Rattle.jc_methods.specs.VerificationTypes.{Names}
use Rattle.jc_methods.specs.WellMade.{insns_and_arms}
use Rattle.jc_methods.specs.declared.body.Body.{Body}
use Rattle.jc_class.specs.declared.class_file.ClassFile.{ClassFile}
use Rattle.jc_class.specs.declared.class_file.Member.{Member}
use Rattle.jc_class.proofs.ReadClassLaws.{IsOfBytes, class_read}
use Rattle.jc_body.specs.BodyOf.{BodyOf}
use Rattle.jc_body.specs.Faults.{faults}
use Rattle.jc_plan.specs.Analysed.{all_insns_and_arms, all_probes}
use Rattle.jc_instrument_reread.proofs.ReadNumbersLaws.{body_short}
use Rattle.jc_instrument.specs.Bodies.{AreBodiesBelow, AreBodiesOf, AreBodiesUnless, IsReadable}
use Rattle.jc_instrument.specs.LeftAlone.{is_left_alone}
use Rattle.jc_instrument.proofs.BodySizesLaws.{insns_few}
use Rattle.jc_instrument.proofs.PlanningLaws.{all_probes_most}
use Rattle.jc_instrument.proofs.PoolTextLaws.{class_pool}
use Rattle.jc_instrument.proofs.TextSizesLaws.{class_size, item_size, method_size}

-- ---- items that belong to items of another list, each to another one

module _ {X Y : Type 0} (number size : X → ℕ) (room : Y → ℕ) where
  -- the item with its number, counted from `first` on, has room for it
  record IsWithin (ys : List Y) (first : ℕ) (x : X) : Type 0 where
    place : ℕ
    item : Y
    stands : slice_get ys place ≡ Some item
    number_is : number x ≡ first + place
    fits : size x ≤ room item

  later : (y : Y) (ys : List Y) (first : ℕ) (x : X) → first < number x → IsWithin (y ∷ ys) first x → IsWithin ys (suc first) x
  later y ys first x less w = by w.place refl
    where
      by : (k : ℕ) → w.place ≡ k → IsWithin ys (suc first) x
      by zero is = let same = w.number_is in absurd (omega (arith, less, same, is))
      by (suc k) is =
          let same = w.number_is in
          record { place = k; item = w.item; stands = sym (ap (slice_get (y ∷ ys)) is) ∙ w.stands; number_is = omega (arith, same, is); fits = w.fits }

  abbrev Rising : List X → Type 0
  Rising xs = (i j : ℕ) (a b : X) → i < j → slice_get xs i ≡ Some a → slice_get xs j ≡ Some b → number a < number b

  tail_rising : (x : X) (xs : List X) → Rising (x ∷ xs) → Rising xs
  tail_rising x xs rising i j a b less p q = rising (suc i) (suc j) a b (omega (arith, less)) p q

  head_least : (x : X) (xs : List X) → Rising (x ∷ xs) → (i : ℕ) (z : X) → slice_get (x ∷ xs) i ≡ Some z → number x ≤ number z
  head_least x xs rising zero z is = let same = ap number (same_Some x z is) in omega (arith, same)
  head_least x xs rising (suc i) z is = let more = rising 0 (suc i) x z (omega arith) refl is in omega (arith, more)

  all_within : (ys : List Y) (first : ℕ) (xs : List X) → ((i : ℕ) (x : X) → slice_get xs i ≡ Some x → IsWithin ys first x) → Rising xs
      → sum_by size xs ≤ sum_by room ys
  all_within [] first [] each rising = omega arith
  all_within [] first (x ∷ xs) each rising = let w = each 0 x refl in absurd (none-some w.item w.stands)
  all_within (y ∷ ys) first [] each rising = omega arith
  all_within (y ∷ ys) first (x ∷ xs) each rising = by (all_within ys (suc first)) w.place refl
    where
      w : IsWithin (y ∷ ys) first x
      w = each 0 x refl

      by : ((zs : List X) → ((i : ℕ) (z : X) → slice_get zs i ≡ Some z → IsWithin ys (suc first) z) → Rising zs → sum_by size zs ≤ sum_by room ys)
          → (k : ℕ) → w.place ≡ k → sum_by size (x ∷ xs) ≤ sum_by room (y ∷ ys)
      by behind zero is =
          let number_is = w.number_is in
          let here : y ≡ w.item = same_Some y w.item (sym (ap (slice_get (y ∷ ys)) is) ∙ w.stands) in
          let same = ap room here in
          let fits = w.fits in
          let rest = behind xs
          (λ i z at.
          let more = rising 0 (suc i) x z (omega arith) refl at in
          later y ys first z (omega (arith, more, number_is, is)) (each (suc i) z at)) (tail_rising x xs rising) in
          let own = sum_by-cons size x xs in
          let all = sum_by-cons room y ys in
          omega (arith, same, fits, rest, own, all)
      by behind (suc k) is =
          let number_is = w.number_is in
          let rest = behind (x ∷ xs)
          (λ i z at. let most = head_least x xs rising i z at in later y ys first z (omega (arith, most, number_is, is)) (each i z at)) rising in
          let all = sum_by-cons room y ys in
          omega (arith, rest, all)

-- ---- the bodies of a class

module _ (names : Names) (c : ClassFile) (n : ℕ) (bodies : List Body) (from : IsReadable c) (are : AreBodiesBelow names c n bodies) where
  few_bytes : sum_by method_size c.methods ≤ most_read
  few_bytes = let all = class_size from.bytes c from.text in let few = from.few in omega (arith, all, few)

  few_of : (number : ℕ) (method : Member) → slice_get c.methods number ≡ Some method → method_size method ≤ most_read
  few_of number method at = let one = item_size method_size c.methods number method at in let all = few_bytes in omega (arith, one, all)

  pub few_below : all_insns_and_arms bodies ≤ most_read
  few_below =
      let all = all_within (λ (b : Body). b.method) (λ (b : Body). insns_and_arms b.code) method_size c.methods 0 bodies
      (λ i b stands.
      let body = are.each i b stands in
      record {
        place = b.method;
        item = body.method;
        stands = body.at;
        number_is = omega arith;
        fits = insns_few names c b.method body.method b (class_pool from.bytes c from.are from.text) (few_of b.method body.method body.at) body.is;
      }) are.rising in
      let most = few_bytes in
      omega (arith, all, most)

  pub probes_below : all_probes bodies ≤ 134217728
  probes_below = let few = few_below in let most = all_probes_most bodies in omega (arith, few, most)

-- a body has as many exception rows as a count of two bytes tells
pub few_rows : (names : Names) (c : ClassFile) (number : ℕ) (b : Body) → IsReadable c → BodyOf names c number b → length b.handlers ≤ 65535
few_rows names c number b from body =
    let method = all_at IsOfBytes c.methods number body.method (class_read from.bytes c from.are from.text).methods body.at in
    (body_short (faults c.major c.pool b.owner body.method) names c number body.method b body.is method.attributes).rows

pub few_of_class : (c : ClassFile) (bodies : List Body) → IsReadable c → AreBodiesOf c bodies → all_insns_and_arms bodies ≤ most_read
few_of_class c bodies from is = by (is_left_alone c) is.are
  where
    by : (t : Bool) → AreBodiesUnless t is.names c bodies → all_insns_and_arms bodies ≤ most_read
    by true none = let nothing : all_insns_and_arms bodies ≡ 0 = ap all_insns_and_arms none in omega (arith, nothing)
    by false are = few_below is.names c (length c.methods) bodies from are
