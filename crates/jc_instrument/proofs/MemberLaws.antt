-- Attributes of which one gets other bytes, and lists of which one item is replaced.
use Rattle.std.proofs.Common.{◌≡◌, ◌≢◌, ◌⊎◌, inl, inr, ℕ, zero, suc, ◌+◌, ◌<◌, ◌≤◌, Bool, true, false, List, [], ◌∷◌, length, map, drop, get_or, set, Some, slice_get, refl, sym, ◌∙◌, ap, subst, arith, if◌then◌else◌}
use Rattle.std.specs.Prelude.{filter, codes, IsTrue}
use Rattle.std.proofs.lemmas.Option.{same_Some, get_or_from_slice_get, slice_get_within}
use Rattle.jc_bytes.specs.PlainLists.{map_from}
use Rattle.jc_pool.specs.Pool.{PoolValue}
use Rattle.jc_class.specs.declared.class_file.Attribute.{Attribute}
use Rattle.jc_class.specs.declared.class_file.Member.{Member}
use Rattle.jc_body.specs.Attributes.{has_name}
use Rattle.jc_body.specs.First.{IsFirstItem, NoItem}
use Rattle.jc_instrument_code.specs.CodeText.{attribute}
use Rattle.jc_instrument.specs.Members.{HasOneCode}
use Rattle.jc_instrument.specs.TwinText.{with_code}

-- ---- the attributes of one method

not_kept : {X : Type 0} (t : Bool) (x : X) (xs : List X) → (if t then x ∷ xs else xs) ≡ [] → (t ≡ false) × (xs ≡ [])
not_kept true x xs is = absurd (none is)
  where
    none : x ∷ xs ≡ [] → ⊥
    none e = cc
not_kept false x xs is = (refl, is)

one_kept : {X : Type 0} (t : Bool) (x y : X) (xs : List X) → (if t then x ∷ xs else xs) ≡ y ∷ []
    → ((t ≡ true) × (xs ≡ [])) ⊎ ((t ≡ false) × (xs ≡ y ∷ []))
one_kept true x y xs is = inl (refl, ap (drop 1) is)
one_kept false x y xs is = inr (refl, is)

single_of : (bytes : List ℕ) (l : List Attribute) → map (λ a. a.body) l ≡ bytes ∷ [] → (x : Attribute) × (l ≡ x ∷ [])
single_of bytes [] is = absurd (none is)
  where
    none : [] ≡ bytes ∷ [] → ⊥
    none e = cc
single_of bytes (x ∷ []) is = (x, refl)
single_of bytes (x ∷ y ∷ l) is = absurd (none (ap (drop 1) is))
  where
    none : map (λ (a : Attribute). a.body) (y ∷ l) ≡ [] → ⊥
    none e = cc

-- attributes of a name are changed, and others stay
module _ (named : Attribute → Bool) (change : Attribute → Attribute) where
  abbrev pub put : Attribute → Attribute
  put a = if named a then change a else a

  put_named : (a : Attribute) → named a ≡ true → put a ≡ change a
  put_named a is = ap (λ (t : Bool). if t then change a else a) is

  put_other : (a : Attribute) → named a ≡ false → put a ≡ a
  put_other a is = ap (λ (t : Bool). if t then change a else a) is

  pub none_put : (l : List Attribute) → filter named l ≡ [] → map put l ≡ l
  none_put [] none = refl
  none_put (a ∷ l) none =
      let p = not_kept (named a) a (filter named l) none in
      λ i. put_other a p.0 i ∷ none_put l p.1 i

  pub none_named : (l : List Attribute) (n : ℕ) (a : Attribute) → filter named l ≡ [] → slice_get l n ≡ Some a → named a ≡ true → ⊥
  none_named [] n a none at is = cc
  none_named (b ∷ l) zero a none at is =
      let p = not_kept (named b) b (filter named l) none in
      let other : true ≡ false = sym is ∙ ap named (sym (same_Some b a at)) ∙ p.0 in
      cc
  none_named (b ∷ l) (suc n) a none at is =
      none_named l n a (not_kept (named b) b (filter named l) none).1 at is

  pub one_put : (l : List Attribute) (n : ℕ) (a x : Attribute) → filter named l ≡ x ∷ [] → slice_get l n ≡ Some a → named a ≡ true
      → map put l ≡ set l n (change a)
  one_put [] n a x one at is = absurd (none at)
    where
      none : slice_get {X = Attribute} [] n ≡ Some a → ⊥
      none e = cc
  one_put (b ∷ l) zero a x one at is = by (one_kept (named b) b x (filter named l) one)
    where
      by : ((named b ≡ true) × (filter named l ≡ [])) ⊎ ((named b ≡ false) × (filter named l ≡ x ∷ []))
          → map put (b ∷ l) ≡ set (b ∷ l) zero (change a)
      by (inl p) = λ i. (put_named b p.0 ∙ ap change (same_Some b a at)) i ∷ none_put l p.1 i
      by (inr p) = absurd (wrong (sym is ∙ ap named (sym (same_Some b a at)) ∙ p.0))
        where
          wrong : true ≡ false → ⊥
          wrong e = cc
  one_put (b ∷ l) (suc n) a x one at is = by (one_kept (named b) b x (filter named l) one) (λ rest. one_put l n a x rest at is)
    where
      by : ((named b ≡ true) × (filter named l ≡ [])) ⊎ ((named b ≡ false) × (filter named l ≡ x ∷ []))
          → (filter named l ≡ x ∷ [] → map put l ≡ set l n (change a))
          → map put (b ∷ l) ≡ set (b ∷ l) (suc n) (change a)
      by (inl p) later = absurd (none_named l n a p.1 at is)
      by (inr p) later = λ i. put_other b p.0 i ∷ later p.1 i

  pub none_kept : (l : List Attribute) → NoItem (λ n a. IsTrue (named a)) l → filter named l ≡ []
  none_kept [] none = refl
  none_kept (a ∷ l) none = by (named a) refl (none_kept l (λ n x at fact. none (suc n) x at fact))
    where
      by : (t : Bool) → named a ≡ t → filter named l ≡ [] → filter named (a ∷ l) ≡ []
      by true is rest = absurd (none 0 a refl is)
      by false is rest = ap (λ (t : Bool). if t then a ∷ filter named l else filter named l) is ∙ rest

module _ (pool : PoolValue) (text : List ℕ) where
  abbrev is_code : Attribute → Bool
  is_code = has_name pool (codes "Code")

  abbrev with_text : Attribute → Attribute
  with_text a = attribute a.name text

  -- one attribute is named Code
  pub one_named : (method : Member) (l : List Attribute) → HasOneCode pool method → l ≡ method.attributes → NoItem (λ n a. IsTrue (is_code a)) l → ⊥
  one_named method l one is none =
      let s = single_of one.bytes (filter is_code method.attributes) one.single in
      nothing s.0 (sym (none_kept is_code with_text method.attributes (subst (NoItem (λ n a. IsTrue (is_code a))) is none)) ∙ s.1)
    where
      nothing : (x : Attribute) → [] ≡ x ∷ [] → ⊥
      nothing x e = cc

  -- the one attribute that is named Code gets the text
  pub code_put : (method : Member) (n : ℕ) (a : Attribute) → HasOneCode pool method → slice_get method.attributes n ≡ Some a → is_code a ≡ true
      → map (with_code pool text) method.attributes ≡ set method.attributes n (attribute a.name text)
  code_put method n a one at is =
      let s = single_of one.bytes (filter is_code method.attributes) one.single in
      one_put is_code with_text method.attributes n a s.0 s.1 at is

  -- the same, where the list is taken out of the method and put back
  pub list_put : (method : Member) (l items out : List Attribute) (n : ℕ) (b : Attribute) → HasOneCode pool method → l ≡ method.attributes
      → IsFirstItem (λ n a. IsTrue (is_code a)) l n → items ≡ method.attributes → b ≡ get_or items n b → out ≡ set items n (attribute b.name text)
      → out ≡ map (with_code pool text) method.attributes
  list_put method l items out n b one is first are read set_is =
      let f = subst (λ (k : List Attribute). IsFirstItem (λ n a. IsTrue (is_code a)) k n) is first in
      let at = sym (get_or_from_slice_get method.attributes n f.item b f.stands) in
      let same : b ≡ f.item = read ∙ ap (λ (k : List Attribute). get_or k n b) are ∙ sym at in
      set_is ∙ (λ i. set (are i) n (attribute (same i).name text)) ∙ sym (code_put method n f.item one f.stands f.fact)

  pub place_within : (l items : List Attribute) (n : ℕ) → l ≡ items → IsFirstItem (λ n a. IsTrue (is_code a)) l n → n < length items
  place_within l items n is first = subst (λ (k : List Attribute). n < length k) is (slice_get_within l n first.item first.stands)

-- ---- lists by their places

module _ {X Y : Type 0} (F G : ℕ → X → Y) where
  pub same_from : (i : ℕ) (l : List X) → ((n : ℕ) (x : X) → i ≤ n → F n x ≡ G n x) → map_from F i l ≡ map_from G i l
  same_from i [] same = refl
  same_from i (x ∷ l) same =
      λ t. same i x (omega arith) t ∷ same_from (i + 1) l (λ n y more. same n y (let less : i ≤ n = omega (arith, more) in less)) t

  -- they are the same but at the place of one item, which is replaced
  pub one_changed : (i k j : ℕ) (l : List X) (x y : X) → j ≡ i + k → slice_get l k ≡ Some x → F j x ≡ G j y
      → ((n : ℕ) (z : X) → n ≢ j → F n z ≡ G n z) → map_from F i l ≡ map_from G i (set l k y)
  one_changed i k j [] x y is at same others = absurd (none at)
    where
      none : slice_get {X = X} [] k ≡ Some x → ⊥
      none e = cc
  one_changed i zero j (z ∷ l) x y is at same others =
      let here : i ≡ j = omega (arith, is) in
      let head : F i z ≡ G i y = ap (λ n. F n z) here ∙ ap (F j) (same_Some z x at) ∙ same ∙ ap (λ n. G n y) (sym here) in
      let tail = same_from (i + 1) l (λ n w more. others n w (let ne : n ≢ j = omega (arith, more, is) in ne)) in
      λ t. head t ∷ tail t
  one_changed i (suc k) j (z ∷ l) x y is at same others =
      let ne : i ≢ j = omega (arith, is) in
      let next : j ≡ i + 1 + k = omega (arith, is) in
      λ t. others i z ne t ∷ one_changed (i + 1) k j l x y next at same others t

pub unchanged : {X : Type 0} (i : ℕ) (l : List X) → map_from (λ n x. x) i l ≡ l
unchanged i [] = refl
unchanged i (x ∷ l) = ap (λ (r : List _). x ∷ r) (unchanged (i + 1) l)

pub other_kept : {X : Type 0} (l : List X) (i j : ℕ) (x : X) → i ≢ j → slice_get (set l i x) j ≡ slice_get l j
other_kept [] i j x ne = refl
other_kept (y ∷ l) zero zero x ne = absurd (ne refl)
other_kept (y ∷ l) zero (suc j) x ne = refl
other_kept (y ∷ l) (suc i) zero x ne = refl
other_kept (y ∷ l) (suc i) (suc j) x ne = other_kept l i j x (let less : i ≢ j = omega (arith, ne) in less)
