-- No object without a constructor's call but `this` is there when a method begins.
use Rattle.std.proofs.Common.{ℕ, zero, suc, ◌-◌, Bool, true, false, List, [], ◌∷◌, ◌++◌, length, map, replicate, codes, if◌then◌else◌}
use Rattle.std.specs.List.{AllByRecursion}
use Rattle.std.specs.Str.{bytes_eq}
use Rattle.jc_bytes.specs.Descriptor.{FieldType, Double, Long}
use Rattle.jc_methods.specs.DescriptorTypes.{method_type_in}
use Rattle.jc_methods.specs.VerificationTypes.{VerificationType, top, uninit_this, object}
use Rattle.jc_methods.specs.EntryState.{spread_one, spread, held_of, is_static, arguments, entry_seen}
use Rattle.jc_frames.specs.Frames.{Ground}
use Rattle.jc_frames.specs.WellMade.{HasNew}

module _ (g : Ground) where
  abbrev Have : List VerificationType → Type 0
  Have = AllByRecursion (HasNew g)

  both_have : (xs ys : List VerificationType) → Have xs → Have ys → Have (xs ++ ys)
  both_have [] ys a b = b
  both_have (x ∷ xs) ys a b = (a.0, both_have xs ys a.1 b)

  tops_have : (n : ℕ) → Have (replicate n top)
  tops_have zero = tt
  tops_have (suc n) = (tt, tops_have n)

  value_has : (type : FieldType) → Have (spread_one (held_of type))
  value_has Double = (tt, (tt, tt))
  value_has Long = (tt, (tt, tt))
  value_has type = (tt, tt)

  values_have : (types : List FieldType) → Have (spread (map held_of types))
  values_have [] = tt
  values_have (type ∷ types) = both_have (spread_one (held_of type)) (spread (map held_of types)) (value_has type) (values_have types)

  arguments_have : (owner name desc : List ℕ) (flags : ℕ) → Have (spread (arguments owner name desc flags))
  arguments_have owner name desc flags = by (is_static flags) (bytes_eq name (codes "<init>"))
    where
      types : List FieldType
      types = (method_type_in desc).parameters

      by : (static init : Bool) → Have (spread ((if static then [] else (if init then uninit_this else object owner) ∷ []) ++ map held_of types))
      by true init = values_have types
      by false true = (tt, values_have types)
      by false false = (tt, values_have types)

  pub no_new : (owner name desc : List ℕ) (flags max_locals : ℕ) → Have (entry_seen owner name desc flags max_locals).locals
  no_new owner name desc flags max_locals =
      let values = arguments owner name desc flags in
      both_have (spread values) (replicate (max_locals - length (spread values)) top) (arguments_have owner name desc flags) (tops_have (max_locals - length (spread values)))
