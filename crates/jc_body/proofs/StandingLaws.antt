-- Whether an instruction names the right entry, leads where it may and uses local variables that there are, is decided.
use Rattle.std.proofs.Common.{◌≡◌, ◌⊎◌, inl, inr, ℕ, ◌+◌, ◌<◌, ◌≤◌, Bool, List, [], ◌∷◌, Option, Some, None, IsSomeAnd, IsTrue, ◌↔◌, option_and_then, refl, ap, subst}
use Rattle.std.proofs.lemmas.Bool.{cases_eq}
use Rattle.jc_methods.specs.declared.insn.Insn.{Insn}
use Rattle.jc_methods.specs.declared.insn.Insn.TheVariants as insns
use Rattle.jc_methods.specs.declared.insn.Flow.{Flow}
use Rattle.jc_methods.specs.declared.insn.Flow.TheVariants as flows
use Rattle.jc_methods.specs.declared.body.What.{What}
use Rattle.jc_methods.specs.declared.body.What.TheVariants as whats
use Rattle.jc_methods.specs.Opcode.{invokespecial}
use Rattle.jc_methods.specs.Opcode.{putfield}
use Rattle.jc_bytes.specs.Deciding.{is_field_text, is_method_text}
use Rattle.jc_bytes.specs.Descriptor.{IsFieldDescriptor, IsMethodDescriptor}
use Rattle.jc_methods.specs.Flow.{FallsThrough, flow_of, targets_of}
use Rattle.jc_methods.specs.InsnUse.{pool_place, IsField, IsMethod, IsCall, IsClass, IsOfTwoSlots, IsOneSlotConstant, IsTwoSlotConstant, IsMemberFor, Suits, LocalsWithin, LeadsWithin, locals_of}
use Rattle.jc_bytes.proofs.DecidingLaws.{field_text_decided, method_text_decided}
use Rattle.jc_pool.specs.Lookup.{Member, member_of, Computed, computed_of, class_name_of, const_of}
use Rattle.jc_body.proofs.ComputedLaws.{linked_by, computed_member}
use Rattle.jc_pool.specs.Pool.{PoolValue}
use Rattle.jc_pool.specs.declared.constant.ConstText.{ConstText}
use Rattle.jc_body.specs.Standing.{Found, of_computed, of_member, found_in, found_at, StandsAt, what_of, what_at, TagSuits, Meets, FoundSuits, EntrySuits, PlaceSuits, HasRightEntry}
use Rattle.jc_body.specs.Faults.{IsAstray}
use Rattle.jc_body.proofs.DecidedLaws.{Decided, both_or_not, either_or_not, if_or_not, not_or_not, by_test, within_or_not, below_or_not, all_or_not}

-- ---- what stands in the pool

-- the member that stands at a place is the one that its entry names
member_there : (pool : PoolValue) (place : ℕ) (m : Member) → StandsAt pool place (of_member m) → member_of pool place ≡ Some m
unfolding found_at
member_there pool place m is = by (computed_of pool place) (member_of pool place) (class_name_of pool place) (const_of pool place) is
  where
    by : (computed : Option Computed) (there : Option Member) (class : Option (List ℕ)) (constant : Option ConstText)
        → found_in computed there class constant ≡ Some (of_member m) → there ≡ Some m
    by (Some other) there class constant is = absurd cc
    by None (Some other) class constant is = let same : other ≡ m = cc in ap Some same
    by None None (Some name) constant is = absurd cc
    by None None None (Some c) is = absurd cc
    by None None None None is = absurd cc

-- the computed constant that stands at a place is the one that its entry names
computed_there : (pool : PoolValue) (place : ℕ) (c : Computed) → StandsAt pool place (of_computed c) → computed_of pool place ≡ Some c
unfolding found_at
computed_there pool place c is = by (computed_of pool place) (member_of pool place) (class_name_of pool place) (const_of pool place) is
  where
    by : (computed : Option Computed) (there : Option Member) (class : Option (List ℕ)) (constant : Option ConstText)
        → found_in computed there class constant ≡ Some (of_computed c) → computed ≡ Some c
    by (Some other) there class constant is = let same : other ≡ c = cc in ap Some same
    by None (Some m) class constant is = absurd cc
    by None None (Some name) constant is = absurd cc
    by None None None (Some k) is = absurd cc
    by None None None None is = absurd cc

-- what the pool answers of the member at a place holds of the member that stands there
pub of_member_there : (pool : PoolValue) (place : ℕ) (m : Member) (Fact : Member → Type 0) (answer : Bool) → IsTrue answer ↔ IsSomeAnd (member_of pool place) Fact
    → StandsAt pool place (of_member m) → IsTrue answer ↔ Fact m
of_member_there pool place m Fact answer a is = subst (λ (there : Option Member). IsTrue answer ↔ IsSomeAnd there Fact) (member_there pool place m is) a

-- and what it answers of the member holds of a computed constant with its descriptor
pub of_computed_there : (pool : PoolValue) (place : ℕ) (c : Computed) (Fact : Member → Type 0) (answer : Bool)
    → IsTrue answer ↔ IsSomeAnd (member_of pool place) Fact → StandsAt pool place (of_computed c) → IsTrue answer ↔ Fact (linked_by 17 c.signed)
of_computed_there pool place c Fact answer a is =
    subst (λ (there : Option Member). IsTrue answer ↔ IsSomeAnd there Fact) (computed_member pool place c (computed_there pool place c is)) a

field_text_or_not : (desc : List ℕ) → Decided (IsFieldDescriptor desc)
field_text_or_not desc = by_test (is_field_text desc) (IsFieldDescriptor desc) (field_text_decided desc)

method_text_or_not : (desc : List ℕ) → Decided (IsMethodDescriptor desc)
method_text_or_not desc = by_test (is_method_text desc) (IsMethodDescriptor desc) (method_text_decided desc)

one_byte_or_not : (b : ℕ) (desc : List ℕ) → Decided (desc ≡ b ∷ [])
one_byte_or_not b [] = inr (λ e. absurd cc)
one_byte_or_not b (a ∷ c ∷ rest) = inr (λ e. absurd cc)
one_byte_or_not b (a ∷ []) = by (cases_eq a b)
  where
    by : Decided (a ≡ b) → Decided (a ∷ [] ≡ b ∷ [])
    by (inl same) = inl (ap (λ (k : ℕ). k ∷ []) same)
    by (inr other) = inr (λ e. other (head e))
      where
        head : a ∷ [] ≡ b ∷ [] → a ≡ b
        head e = cc

two_slots_or_not : (desc : List ℕ) → Decided (IsOfTwoSlots desc)
two_slots_or_not desc = either_or_not (desc ≡ 74 ∷ []) (desc ≡ 68 ∷ []) (one_byte_or_not 74 desc) (one_byte_or_not 68 desc)

never : Decided ⊥
never = inr (λ h. h)

field_or_not : (what : What) → Decided (IsField what)
field_or_not (whats.Field class name desc) = field_text_or_not desc
field_or_not _ = never

method_or_not : (what : What) → Decided (IsMethod what)
method_or_not (whats.Method class name desc) = method_text_or_not desc
method_or_not _ = never

call_or_not : (what : What) → Decided (IsCall what)
call_or_not (whats.Call name desc) = method_text_or_not desc
call_or_not _ = never

class_or_not : (what : What) → Decided (IsClass what)
class_or_not (whats.Class name) = inl tt
class_or_not _ = never

one_slot_or_not : (what : What) → Decided (IsOneSlotConstant what)
one_slot_or_not (whats.Int value) = inl tt
one_slot_or_not whats.Float = inl tt
one_slot_or_not whats.Text = inl tt
one_slot_or_not whats.Handle = inl tt
one_slot_or_not whats.MethodKind = inl tt
one_slot_or_not (whats.Class name) = inl tt
one_slot_or_not (whats.Computed name desc bootstrap) =
    both_or_not (IsFieldDescriptor desc) (IsOfTwoSlots desc → ⊥) (field_text_or_not desc) (not_or_not (IsOfTwoSlots desc) (two_slots_or_not desc))
one_slot_or_not _ = never

two_slot_or_not : (what : What) → Decided (IsTwoSlotConstant what)
two_slot_or_not (whats.Long value) = inl tt
two_slot_or_not whats.Double = inl tt
two_slot_or_not (whats.Computed name desc bootstrap) = two_slots_or_not desc
two_slot_or_not _ = never

member_or_not : (op : ℕ) (what : What) → Decided (IsMemberFor op what)
member_or_not op what =
    either_or_not ((op ≤ putfield) × IsField what) ((putfield < op) × IsMethod what)
    (both_or_not (op ≤ putfield) (IsField what) (within_or_not op putfield) (field_or_not what))
    (both_or_not (putfield < op) (IsMethod what) (below_or_not putfield op) (method_or_not what))

kind_or_not : (insn : Insn) (what : What) → Decided (Suits insn what)
kind_or_not (insns.Constant place) what = one_slot_or_not what
kind_or_not (insns.Constant2 place) what = two_slot_or_not what
kind_or_not (insns.Member op place) what = member_or_not op what
kind_or_not (insns.Interface place count) what = method_or_not what
kind_or_not (insns.Dynamic place) what = call_or_not what
kind_or_not (insns.OfClass op place) what = class_or_not what
kind_or_not (insns.Multi place dims) what = class_or_not what
kind_or_not _ what = never

meets_or_not : (insn : Insn) (what : Option What) → Decided (Meets (Suits insn) what)
meets_or_not insn None = never
meets_or_not insn (Some what) = kind_or_not insn what

tag_or_not : (major : ℕ) (insn : Insn) (found : Found) → Decided (TagSuits major insn found)
tag_or_not major (insns.Member op place) (of_member m) =
    if_or_not (m.tag ≡ 11) ((52 ≤ major) × (invokespecial ≤ op)) (cases_eq m.tag 11)
    (both_or_not (52 ≤ major) (invokespecial ≤ op) (within_or_not 52 major) (within_or_not invokespecial op))
tag_or_not major (insns.Interface place count) (of_member m) = cases_eq m.tag 11
tag_or_not major _ _ = inl tt

found_or_not : (major : ℕ) (insn : Insn) (found : Found) → Decided (FoundSuits major insn found)
found_or_not major insn found = by (meets_or_not insn (what_of found)) (tag_or_not major insn found)
  where
    by : Decided (Meets (Suits insn) (what_of found)) → Decided (TagSuits major insn found) → Decided (FoundSuits major insn found)
    by (inl kind) (inl tag) = inl (record { kind = kind; tag = tag })
    by (inl kind) (inr other) = inr (λ s. other s.tag)
    by (inr other) tag = inr (λ s. other s.kind)

entry_or_not : (major : ℕ) (insn : Insn) (found : Option Found) → Decided (EntrySuits major insn found)
entry_or_not major insn None = never
entry_or_not major insn (Some found) = found_or_not major insn found

place_or_not : (major : ℕ) (pool : PoolValue) (insn : Insn) (place : Option ℕ) → Decided (PlaceSuits major pool insn place)
place_or_not major pool insn None = inl tt
place_or_not major pool insn (Some place) = entry_or_not major insn (found_at pool place)

pub right_entry_or_not : (major : ℕ) (pool : PoolValue) (insn : Insn) → HasRightEntry major pool insn ⊎ (HasRightEntry major pool insn → ⊥)
right_entry_or_not major pool insn = place_or_not major pool insn (pool_place insn)

-- ---- what a right entry is

what_met : (Fact : What → Type 0) (found : Option What) → Meets Fact found → (what : What) × (found ≡ Some what) × Fact what
what_met Fact None meets = absurd meets
what_met Fact (Some what) meets = (what, refl, meets)

what_found : (major : ℕ) (insn : Insn) (found : Option Found) → EntrySuits major insn found → (what : What) × (option_and_then what_of found ≡ Some what) × Suits insn what
what_found major insn None suits = absurd suits
what_found major insn (Some found) suits = what_met (Suits insn) (what_of found) suits.kind

pub suits_what : (major : ℕ) (pool : PoolValue) (insn : Insn) (place : ℕ) → pool_place insn ≡ Some place → HasRightEntry major pool insn
    → (what : What) × (what_at pool place ≡ Some what) × Suits insn what
suits_what major pool insn place is right = what_found major insn (found_at pool place) (subst (PlaceSuits major pool insn) is right)

-- ---- where an instruction leads, and local variables

pub locals_or_not : (count : ℕ) (insn : Insn) → LocalsWithin count insn ⊎ (LocalsWithin count insn → ⊥)
locals_or_not count insn = all_or_not (λ slot. slot < count) (λ slot. below_or_not slot count) (locals_of insn)

pub leads_or_not : (count : ℕ) (insn : Insn) → Decided (LeadsWithin count insn)
leads_or_not count insn = all_or_not (λ to. to < count) (λ to. below_or_not to count) (targets_of insn)

goes_on_or_not : (flow : Flow) → Decided (flow ≡ flows.GoesOn)
goes_on_or_not flows.GoesOn = inl refl
goes_on_or_not flows.Branches = inr (λ e. absurd cc)
goes_on_or_not flows.Jumps = inr (λ e. absurd cc)
goes_on_or_not flows.Switches = inr (λ e. absurd cc)
goes_on_or_not flows.Returns = inr (λ e. absurd cc)
goes_on_or_not flows.Throws = inr (λ e. absurd cc)

tests_or_not : (flow : Flow) → Decided (flow ≡ flows.Branches)
tests_or_not flows.GoesOn = inr (λ e. absurd cc)
tests_or_not flows.Branches = inl refl
tests_or_not flows.Jumps = inr (λ e. absurd cc)
tests_or_not flows.Switches = inr (λ e. absurd cc)
tests_or_not flows.Returns = inr (λ e. absurd cc)
tests_or_not flows.Throws = inr (λ e. absurd cc)

falls_or_not : (insn : Insn) → Decided (FallsThrough insn)
falls_or_not insn = either_or_not (flow_of insn ≡ flows.GoesOn) (flow_of insn ≡ flows.Branches) (goes_on_or_not (flow_of insn)) (tests_or_not (flow_of insn))

pub astray_or_not : (count number : ℕ) (insn : Insn) → IsAstray count number insn ⊎ (IsAstray count number insn → ⊥)
astray_or_not count number insn =
    either_or_not (LeadsWithin count insn → ⊥) ((number + 1 ≡ count) × FallsThrough insn) (not_or_not (LeadsWithin count insn) (leads_or_not count insn))
    (both_or_not (number + 1 ≡ count) (FallsThrough insn) (cases_eq (number + 1) count) (falls_or_not insn))
