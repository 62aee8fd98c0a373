-- What attributes of a name hold, among attributes of several names.
use Rattle.std.proofs.Common.{◌≡◌, ℕ, Bool, false, List, [], ◌∷◌, ◌++◌, map, filter, Some, refl, ◌∙◌, ap, ap₂, if◌then◌else◌}
use Rattle.std.specs.List.{AllByRecursion}
use Rattle.std.specs.Str.{bytes_eq}
use Rattle.std.proofs.lemmas.List.{map-append}
use Rattle.std.proofs.lemmas.List.Elements.{filter-append}
use Rattle.std.proofs.lemmas.Slice.Eq.{bytes_eq-Decides}
use Rattle.jc_pool.specs.Lookup.{utf8_of}
use Rattle.jc_pool.specs.Pool.{PoolValue}
use Rattle.jc_class.specs.declared.class_file.Attribute.{Attribute}
use Rattle.jc_body.specs.Attributes.{is_text, has_name, bodies_of}

-- the attribute has this name
abbrev pub IsNamed : PoolValue → List ℕ → Attribute → Type 0
IsNamed pool name a = utf8_of pool a.name ≡ Some name

module _ (pool : PoolValue) (name : List ℕ) where
  test_is : (text : List ℕ) (a : Attribute) → IsNamed pool text a → has_name pool name a ≡ bytes_eq text name
  test_is text a named = ap (is_text name) named

  abbrev kept : Attribute → List Attribute → Bool → List (List ℕ)
  kept a rest t = map (λ (x : Attribute). x.body) (if t then a ∷ filter (has_name pool name) rest else filter (has_name pool name) rest)

  -- all of them have the name
  pub all_bodies : (attributes : List Attribute) → AllByRecursion (IsNamed pool name) attributes
      → bodies_of pool name attributes ≡ map (λ a. a.body) attributes
  all_bodies [] all = refl
  all_bodies (a ∷ rest) all =
      ap (kept a rest) (test_is name a all.0 ∙ (bytes_eq-Decides name name).1 refl)
      ∙ ap (λ (l : List (List ℕ)). a.body ∷ l) (all_bodies rest all.1)

  -- all of them have another name
  pub no_bodies : (text : List ℕ) → bytes_eq text name ≡ false → (attributes : List Attribute) → AllByRecursion (IsNamed pool text) attributes
      → bodies_of pool name attributes ≡ []
  no_bodies text other [] all = refl
  no_bodies text other (a ∷ rest) all = ap (kept a rest) (test_is text a all.0 ∙ other) ∙ no_bodies text other rest all.1

  both_bodies : (a b : List Attribute) → bodies_of pool name (a ++ b) ≡ bodies_of pool name a ++ bodies_of pool name b
  both_bodies a b =
      ap (map (λ (x : Attribute). x.body)) (filter-append (has_name pool name) a b)
      ∙ map-append (λ (x : Attribute). x.body) (filter (has_name pool name) a) (filter (has_name pool name) b)

  -- of four lists, one behind the other
  pub four_bodies : (a b c d : List Attribute) (k l m n : List (List ℕ)) → bodies_of pool name a ≡ k → bodies_of pool name b ≡ l
      → bodies_of pool name c ≡ m → bodies_of pool name d ≡ n → bodies_of pool name (a ++ (b ++ (c ++ d))) ≡ k ++ (l ++ (m ++ n))
  four_bodies a b c d k l m n p q r s =
      both_bodies a (b ++ (c ++ d))
      ∙ ap₂ (λ (x y : List (List ℕ)). x ++ y) p (both_bodies b (c ++ d)
      ∙ ap₂ (λ (x y : List (List ℕ)). x ++ y) q (both_bodies c d ∙ ap₂ (λ (x y : List (List ℕ)). x ++ y) r s))
