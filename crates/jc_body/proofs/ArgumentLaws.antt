-- The local variables that the arguments of a method take.
use Rattle.std.proofs.Common.{◌≡◌, ◌⊎◌, inl, inr, ℕ, ◌+◌, ◌<◌, ◌≤◌, List, Some, refl, sym, ◌∙◌, ap, subst, arith}
use Rattle.std.specs.Int.Bits.{bit_and}
use Rattle.std.proofs.lemmas.Bool.{cases_lt, cases_eq}
use Rattle.std.proofs.lemmas.Option.{same_Some}
use Rattle.jc_bytes.specs.Descriptor.{MethodType, DescribesMethod, parameter_slots}
use Rattle.jc_methods.specs.WellMade.{IsStatic, TakeSlots}
use Rattle.jc_bytes.proofs.DescriptorLaws.{one_method}
use Rattle.jc_pool.specs.Lookup.{utf8_of}
use Rattle.jc_pool.specs.Pool.{PoolValue}
use Rattle.jc_class.specs.declared.class_file.Member.{Member}
use Rattle.jc_body.specs.declared.coded.Coded.{Coded}
use Rattle.jc_body.specs.Faults.{ArgumentsOutside}
use Rattle.jc_bytes.specs.Least.{IsNowhere, IsLeast}
use Rattle.jc_body.proofs.OrderLaws.{IsDecided, at_zero}

pub static_or_not : (flags : ℕ) → IsStatic flags ⊎ (IsStatic flags → ⊥)
static_or_not flags = by (cases_eq (bit_and flags 0x0008) 0)
  where
    by : (bit_and flags 0x0008 ≡ 0) ⊎ (bit_and flags 0x0008 ≡ 0 → ⊥) → IsStatic flags ⊎ (IsStatic flags → ⊥)
    by (inl none) = inr (λ is. is none)
    by (inr some) = inl some

-- the arguments take one number of slots
pub one_take : (flags : ℕ) (desc : List ℕ) (a b : ℕ) → TakeSlots flags desc a → TakeSlots flags desc b → a ≡ b
one_take flags desc a b p q = by (static_or_not flags)
  where
    same : parameter_slots p.type ≡ parameter_slots q.type
    same = ap parameter_slots (one_method desc p.type q.type p.described q.described)

    by : IsStatic flags ⊎ (IsStatic flags → ⊥) → a ≡ b
    by (inl is) = p.static_slots is ∙ same ∙ sym (q.static_slots is)
    by (inr not) = p.other_slots not ∙ ap (λ (n : ℕ). 1 + n) same ∙ sym (q.other_slots not)

pub static_take : (flags : ℕ) (desc : List ℕ) (type : MethodType) → DescribesMethod desc type → IsStatic flags → TakeSlots flags desc (parameter_slots type)
static_take flags desc type described is = record { type = type; described = described; static_slots = λ _. refl; other_slots = λ not. absurd (not is) }

pub other_take : (flags : ℕ) (desc : List ℕ) (type : MethodType) → DescribesMethod desc type → (IsStatic flags → ⊥) → TakeSlots flags desc (1 + parameter_slots type)
other_take flags desc type described not = record { type = type; described = described; static_slots = λ is. absurd (not is); other_slots = λ _. refl }

-- ---- arguments that need too many

module _ (pool : PoolValue) (method : Member) (coded : Coded) (desc : List ℕ) (desc_is : utf8_of pool method.desc ≡ Some desc) (slots : ℕ) (takes : TakeSlots method.flags desc slots) where
  pub outside_least : coded.items.max_locals < slots → IsLeast (ArgumentsOutside pool method coded) 0
  outside_least more = at_zero (ArgumentsOutside pool method coded) (record { at = refl; desc = desc; desc_is = desc_is; slots = slots; takes = takes; fault = more })

  pub outside_nowhere : slots ≤ coded.items.max_locals → IsNowhere (ArgumentsOutside pool method coded)
  outside_nowhere few place other =
      let same_desc = same_Some _ _ (sym other.desc_is ∙ desc_is) in
      let same = one_take method.flags desc other.slots slots (subst (λ (d : List ℕ). TakeSlots method.flags d other.slots) same_desc other.takes) takes in
      omega (arith, few, same, other.fault)

  pub outside_decided : IsDecided (ArgumentsOutside pool method coded)
  outside_decided = by (cases_lt coded.items.max_locals slots)
    where
      by : (coded.items.max_locals < slots) ⊎ (slots ≤ coded.items.max_locals) → IsDecided (ArgumentsOutside pool method coded)
      by (inl more) = inl (0, outside_least more)
      by (inr few) = inr (outside_nowhere few)

-- the arguments fit where the fault is nowhere
pub arguments_fit : (pool : PoolValue) (method : Member) (coded : Coded) (desc : List ℕ) (slots : ℕ) → utf8_of pool method.desc ≡ Some desc
    → TakeSlots method.flags desc slots → IsNowhere (ArgumentsOutside pool method coded) → slots ≤ coded.items.max_locals
arguments_fit pool method coded desc slots desc_is takes none = by (cases_lt coded.items.max_locals slots)
  where
    by : (coded.items.max_locals < slots) ⊎ (slots ≤ coded.items.max_locals) → slots ≤ coded.items.max_locals
    by (inl more) = absurd (none 0 (outside_least pool method coded desc desc_is slots takes more).there)
    by (inr few) = few
