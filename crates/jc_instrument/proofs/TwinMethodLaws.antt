-- Methods over a pool that grows.
use Rattle.std.proofs.Common.{◌≡◌, ℕ, ◌+◌, Bool, List, [], ◌∷◌, map, Option, Some, None, refl, sym, ◌∙◌, ap, if◌then◌else◌}
use Rattle.std.specs.Prelude.{filter, codes}
use Rattle.std.specs.List.{AllByRecursion}
use Rattle.jc_bytes.specs.PlainLists.{map_from}
use Rattle.jc_pool.specs.Adding.{Extends}
use Rattle.jc_pool.specs.Pool.{PoolValue}
use Rattle.jc_pool.proofs.AddedLaws.{utf8_kept}
use Rattle.jc_class.specs.ClassFormat.{HasText, HasMethodDescriptor}
use Rattle.jc_class.specs.Writable.{IsAttribute, IsMember}
use Rattle.jc_class.specs.declared.class_file.Attribute.{Attribute}
use Rattle.jc_class.specs.declared.class_file.Member.{Member}
use Rattle.jc_body.specs.Attributes.{has_name, is_text}
use Rattle.jc_body.specs.Coded.{code_bodies}
use Rattle.jc_instrument_code.specs.CodeText.{attribute}
use Rattle.jc_instrument.specs.TwinText.{twin_method, twin_methods, with_code, work_of}
use Rattle.jc_instrument.specs.BodiesWithStates.{BodyWithStates}

-- ---- names in the old pool and in the grown one

module _ (old new : PoolValue) (extends : Extends old new) where
  same_name : (name : List ℕ) (a : Attribute) → HasText old a.name → has_name new name a ≡ has_name old name a
  same_name name a text =
      ap (is_text name) (utf8_kept old new text.0 a.name extends text.1 ∙ sym text.1)

  abbrev pub AreNamedOld : List Attribute → Type 0
  AreNamedOld l = AllByRecursion (IsAttribute (HasText old)) l

  pub same_attributes : (text : List ℕ) (l : List Attribute) → AreNamedOld l → map (with_code new text) l ≡ map (with_code old text) l
  same_attributes text [] named = refl
  same_attributes text (a ∷ l) named =
      let head : with_code new text a ≡ with_code old text a =
      ap (λ (t : Bool). if t then attribute a.name text else a) (same_name (codes "Code") a named.0.name) in
      λ i. head i ∷ same_attributes text l named.1 i

  same_filtered : (name : List ℕ) (l : List Attribute) → AreNamedOld l → filter (has_name new name) l ≡ filter (has_name old name) l
  same_filtered name [] named = refl
  same_filtered name (a ∷ l) named =
      ap (λ (t : Bool). if t then a ∷ filter (has_name new name) l else filter (has_name new name) l) (same_name name a named.0.name)
      ∙ ap (λ (r : List Attribute). if has_name old name a then a ∷ r else r) (same_filtered name l named.1)

  pub same_code : (m : Member) → AreNamedOld m.attributes → code_bodies new m ≡ code_bodies old m
  same_code m named = ap (λ (l : List Attribute). map (λ a. a.body) l) (same_filtered (codes "Code") m.attributes named)

  abbrev pub IsOld : Member → Type 0
  IsOld m = IsMember (HasText old) (HasMethodDescriptor old) m

  same_method : (code : BodyWithStates → List ℕ) (m : Member) (o : Option BodyWithStates) → IsOld m → twin_method new code m o ≡ twin_method old code m o
  same_method code m None is = refl
  same_method code m (Some w) is =
      ap (λ (l : List Attribute). record m { attributes = l }) (same_attributes (code w) m.attributes is.attributes.each)

  pub same_methods : (code : BodyWithStates → List ℕ) (works : List BodyWithStates) (methods : List Member) → AllByRecursion IsOld methods
      → twin_methods new code works methods ≡ twin_methods old code works methods
  same_methods code works methods are = all_same 0 methods are
    where
      all_same : (i : ℕ) (methods : List Member) → AllByRecursion IsOld methods
          → map_from (λ number m. twin_method new code m (work_of number works)) i methods
          ≡ map_from (λ number m. twin_method old code m (work_of number works)) i methods
      all_same i [] are = refl
      all_same i (m ∷ methods) are =
          let head = same_method code m (work_of i works) are.0 in
          λ t. head t ∷ all_same (i + 1) methods are.1 t
