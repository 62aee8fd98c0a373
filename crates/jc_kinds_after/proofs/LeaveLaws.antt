-- The state after an instruction is one of the body, and a well made state leaves a well made one.
use Rattle.std.proofs.Common.{◌≡◌, ℕ, zero, suc, ◌+◌, ◌<◌, Bool, true, false, ◌&&◌, List, [], ◌∷◌, ◌++◌, length, map, Option, Some, None, option_map}
use Rattle.std.proofs.Common.{if◌then◌else◌, refl, sym, ap, ap₂, ◌∙◌, subst, arith, get_or, nat_eq, nat_le, nat_lt, All, slice_get}
use Rattle.std.specs.Option.{option_and_then}
use Rattle.std.specs.List.{AllByRecursion, sum_by}
use Rattle.std.specs.Prelude.{codes, bytes_eq}
use Rattle.std.proofs.lemmas.Bool.{eqb-true, true≢false}
use Rattle.std.proofs.lemmas.List.{length-map, append-nil}
use Rattle.std.proofs.lemmas.List.Sums.{sum_by-cons}
use Rattle.std.proofs.lemmas.Option.{slice_get_within, get_or_from_slice_get, none-some, same_Some}
use Rattle.jc_methods.specs.Opcode as opcode
use Rattle.jc_methods.specs.declared.insn.Insn.{Insn}
use Rattle.jc_methods.specs.declared.insn.Insn.TheVariants as insns
use Rattle.jc_methods.specs.declared.kind.Kind.{Kind}
use Rattle.jc_methods.specs.declared.kind.Kind.TheVariants as kinds
use Rattle.jc_methods.specs.declared.kind.State.{State}
use Rattle.jc_methods.specs.declared.body.Use.{Use}
use Rattle.jc_methods.specs.declared.body.What.{What}
use Rattle.jc_methods.specs.declared.body.What.TheVariants as whats
use Rattle.jc_methods.specs.declared.body.Body.{Body}
use Rattle.jc_bytes.specs.Descriptor.{FieldType, MethodType}
use Rattle.jc_methods.specs.DescriptorTypes.{field_type_in, method_type_in}
use Rattle.jc_methods.specs.Flow.{is_return}
use Rattle.jc_methods.specs.InsnUse.{is_of_two_slots, LocalsWithin}
use Rattle.jc_methods.specs.WellMade.{IsKind, IsWellMadeOfAnySize, kind_slots, what_used}
use Rattle.jc_methods.specs.VerificationTypes.{Names, VerificationType, int, object, uninit, verification_type, TypeState, type_state, slots, IsNumbered}
use Rattle.jc_bytes.proofs.EachLaws.{each_of_all, all_of_each}
use Rattle.jc_kinds_after.specs.declared.want.Want.TheVariants as wants
use Rattle.jc_kinds_after.specs.Step.{Step, moves, loads, stores, makes, apply, kind}
use Rattle.jc_kinds_after.specs.Table.{turns}
use Rattle.jc_kinds_after.specs.After.{field_step, method_step, member_step, interface_step, dynamic_step, computed_step, constant_step, array_of}
use Rattle.jc_kinds_after.specs.After.{array_step, class_step, multi_step, return_op, simple_step, local_want, step_of, insn_at, ground_of, returns_of, after_of}
use Rattle.jc_kinds_after.specs.Answers.{IsStateOf, IsWhole, LeavesState, LeavesAlways}
use Rattle.jc_kinds_after.specs.Shift.{IsPlaceless, Straddles}
use Rattle.jc_kinds_after.proofs.MovesLaws.{width_is}
use Rattle.jc_kinds_after.proofs.AfterLaws.{can_shift, two_slots}
use Rattle.jc_kinds_after.proofs.KeepLaws.{AllOf, step_all, step_count, step_slots}
use Rattle.jc_kinds_after.proofs.PairLaws.{pairs_of, of_pairs, HasSecond, step_pairs}
use Rattle.jc_kinds_after.proofs.DoesLaws.{some_head}

-- ---- which steps make or store

plain : Step → Bool
plain (stores k w) = false
plain makes = false
plain st = true

makes_nothing : (st : Step) → plain st ≡ true → st ≡ makes → ⊥
unfolding plain
makes_nothing st e is = true≢false (sym e ∙ ap plain is)

no_second : (count : ℕ) (st : Step) → plain st ≡ true → HasSecond count st
unfolding plain
no_second count (stores k w) e = absurd (true≢false (sym e))
no_second count _ e = tt

if_plain : (b : Bool) (x y : Step) → plain x ≡ true → plain y ≡ true → plain (if b then x else y) ≡ true
if_plain true x y p q = p
if_plain false x y p q = q

plain_field : (op : ℕ) (type : Option FieldType) → plain (field_step op type) ≡ true
unfolding plain
plain_field op None = refl
plain_field op (Some type) =
    if_plain (nat_eq op opcode.getstatic) _ _ refl (if_plain (nat_eq op opcode.putstatic) _ _ refl (if_plain (nat_eq op opcode.getfield) _ _ refl refl))

plain_method : (op : ℕ) (name : List ℕ) (type : MethodType) → plain (method_step op name type) ≡ true
unfolding plain
plain_method op name type =
    if_plain (nat_eq op opcode.invokestatic) _ _ refl (if_plain (nat_eq op opcode.invokespecial && bytes_eq name (codes "<init>")) _ _ refl refl)

plain_member : (op : ℕ) (what : Option What) → plain (member_step op what) ≡ true
unfolding plain
plain_member op (Some (whats.Field class name desc)) = if_plain (nat_le op opcode.putfield) _ _ (plain_field op (field_type_in desc)) refl
plain_member op (Some (whats.Method class name desc)) = if_plain (nat_le op opcode.putfield) _ _ refl (plain_method op name (method_type_in desc))
plain_member op _ = refl

plain_interface : (what : Option What) → plain (interface_step what) ≡ true
unfolding plain
plain_interface (Some (whats.Method class name desc)) = refl
plain_interface _ = refl

plain_dynamic : (what : Option What) → plain (dynamic_step what) ≡ true
unfolding plain
plain_dynamic (Some (whats.Call name desc)) = refl
plain_dynamic _ = refl

plain_computed : (type : Option FieldType) → plain (computed_step type) ≡ true
unfolding plain
plain_computed None = refl
plain_computed (Some type) = refl

plain_constant : (what : Option What) → plain (constant_step what) ≡ true
unfolding plain
plain_constant (Some (whats.Computed name desc bootstrap)) = plain_computed (field_type_in desc)
plain_constant _ = refl

plain_multi : (what : Option What) (dims : ℕ) → plain (multi_step what dims) ≡ true
unfolding plain
plain_multi (Some (whats.Class name)) dims = refl
plain_multi _ dims = refl

plain_simple : (returns : Option FieldType) (op : ℕ) → plain (simple_step returns op) ≡ true
unfolding plain
plain_simple returns op =
    if_plain (nat_eq op opcode.aaload) _ _ refl (if_plain (is_return op) _ _ (if_plain (nat_eq op (return_op returns)) _ _ refl refl) refl)

-- anewarray, checkcast and instanceof
abbrev class_rest : ℕ → List ℕ → Step
class_rest op name =
    if nat_eq op opcode.anewarray then array_step name
    else if nat_eq op opcode.checkcast then moves (turns (wants.Reference ∷ []) (object name))
    else moves (turns (wants.Reference ∷ []) int)

plain_rest : (op : ℕ) (name : List ℕ) → plain (class_rest op name) ≡ true
unfolding plain
plain_rest op name =
    if_plain (nat_eq op opcode.anewarray) _ _ (if_plain (nat_le (length (array_of name)) 65535) _ _ refl refl)
    (if_plain (nat_eq op opcode.checkcast) _ _ refl refl)

-- a step that makes an object is that of a `new`
class_new : (op place : ℕ) (what : Option What) → class_step op what ≡ makes → op ≡ opcode.new
unfolding plain
class_new op place (Some (whats.Class name)) e = by (nat_eq op opcode.new) refl e
  where
    by : (b : Bool) → nat_eq op opcode.new ≡ b → (if b then makes else class_rest op name) ≡ makes → op ≡ opcode.new
    by true is e = eqb-true op opcode.new is
    by false is e = absurd (makes_nothing _ (plain_rest op name) e)
class_new op place _ e = absurd cc

module _ (uses : List Use) (returns : Option FieldType) where
  new_there : (insn : Insn) → step_of uses returns insn ≡ makes → (place : ℕ) × (insn ≡ insns.OfClass opcode.new place)
  unfolding plain
  new_there (insns.OfClass op place) e = (place, ap (λ (o : ℕ). insns.OfClass o place) (class_new op place (what_used uses place) e))
  new_there (insns.Simple op) e = absurd (makes_nothing _ (plain_simple returns op) e)
  new_there (insns.Local op slot) e = absurd (by (nat_lt op opcode.istore) e)
    where
      by : (b : Bool) → (if b then loads slot (local_want op) else stores slot (local_want op)) ≡ makes → ⊥
      by true e = cc
      by false e = cc
  new_there (insns.Constant place) e = absurd (makes_nothing _ (plain_constant (what_used uses place)) e)
  new_there (insns.Constant2 place) e = absurd (makes_nothing _ (plain_constant (what_used uses place)) e)
  new_there (insns.Member op place) e = absurd (makes_nothing _ (plain_member op (what_used uses place)) e)
  new_there (insns.Interface place count) e = absurd (makes_nothing _ (plain_interface (what_used uses place)) e)
  new_there (insns.Dynamic place) e = absurd (makes_nothing _ (plain_dynamic (what_used uses place)) e)
  new_there (insns.Multi place dims) e = absurd (makes_nothing _ (plain_multi (what_used uses place) dims) e)
  new_there _ e = absurd (makes_nothing _ refl e)

  -- what is stored has its second local variable too
  second_there : (count : ℕ) (insn : Insn) → LocalsWithin count insn → HasSecond count (step_of uses returns insn)
  unfolding plain
  second_there count (insns.Local op slot) within = by (nat_lt op opcode.istore)
    where
      two : (b : Bool) → b ≡ true → AllByRecursion (λ s. s < count) (if b then slot ∷ (slot + 1) ∷ [] else slot ∷ []) → slot + 1 < count
      two true e w = w.1.0
      two false e w = absurd (true≢false (sym e))

      by : (b : Bool) → HasSecond count (if b then loads slot (local_want op) else stores slot (local_want op))
      by true = tt
      by false = λ pair. two (is_of_two_slots op) (two_slots op pair) within
  second_there count (insns.OfClass op place) within = class_second (what_used uses place)
    where
      class_second : (what : Option What) → HasSecond count (class_step op what)
      class_second (Some (whats.Class name)) = by (nat_eq op opcode.new)
        where
          by : (b : Bool) → HasSecond count (if b then makes else class_rest op name)
          by true = tt
          by false = no_second count _ (plain_rest op name)
      class_second _ = tt
  second_there count (insns.Simple op) within = no_second count _ (plain_simple returns op)
  second_there count (insns.Constant place) within = no_second count _ (plain_constant (what_used uses place))
  second_there count (insns.Constant2 place) within = no_second count _ (plain_constant (what_used uses place))
  second_there count (insns.Member op place) within = no_second count _ (plain_member op (what_used uses place))
  second_there count (insns.Interface place n) within = no_second count _ (plain_interface (what_used uses place))
  second_there count (insns.Dynamic place) within = no_second count _ (plain_dynamic (what_used uses place))
  second_there count (insns.Multi place dims) within = no_second count _ (plain_multi (what_used uses place) dims)
  second_there count _ within = tt

-- ---- kinds

-- made by a `new` of the body
abbrev HeldKind : List Insn → VerificationType → Type 0
HeldKind code (uninit at) = (place : ℕ) × (slice_get code at ≡ Some (insns.OfClass opcode.new place))
HeldKind code h = Unit {0}

others : (code : List Insn) (h : VerificationType) → IsPlaceless (kind h) → HeldKind code h
others code (uninit at) p = elim p [ ]
others code _ p = tt

kind_held : (code : List Insn) (names : Names) (k : Kind) → IsKind code k → HeldKind code (verification_type names k)
kind_held code names (kinds.Uninit at) p = p
kind_held code names _ p = tt

held_kind : (code : List Insn) (names : Names) (k : Kind) → HeldKind code (verification_type names k) → IsKind code k
held_kind code names (kinds.Uninit at) p = p
held_kind code names _ p = tt

all_held : (code : List Insn) (names : Names) (ks : List Kind) → All (IsKind code) ks → AllByRecursion (HeldKind code) (map (verification_type names) ks)
all_held code names ks all = each_of_all (HeldKind code) (verification_type names) ks (λ i d lt. kind_held code names (get_or ks i d) (all i d lt))

held_all : (code : List Insn) (names : Names) (ks : List Kind) → AllByRecursion (HeldKind code) (map (verification_type names) ks) → All (IsKind code) ks
held_all code names ks all = let h = all_of_each (HeldKind code) (verification_type names) ks all in λ i d lt. held_kind code names (get_or ks i d) (h i d lt)

-- ---- numbers

gap : ℕ → Names
gap zero = (1 ∷ []) ∷ []
gap (suc n) = [] ∷ gap n

filled : (n : ℕ) → get_or (gap n) n [] ≡ 1 ∷ []
unfolding gap
filled zero = refl
filled (suc n) = filled n

no_name : (letter : ℕ) → letter ∷ [] ≡ [] → ⊥
no_name letter e = cc

number_within : (names : Names) (n : ℕ) → ((more : Names) → get_or (names ++ more) n [] ≡ get_or names n []) → n < length names
number_within [] n stays = absurd (no_name 1 (sym (filled n) ∙ stays (gap n)))
number_within (x ∷ names) zero stays = omega arith
number_within (x ∷ names) (suc n) stays = let less = number_within names n stays in omega (arith, less)

object_is : (a b : List ℕ) → object a ≡ object b → a ≡ b
object_is a b e = cc

kind_within : (names : Names) (k : Kind) → ((more : Names) → verification_type (names ++ more) k ≡ verification_type names k) → IsNumbered (length names) k
kind_within names (kinds.Object n) stays = number_within names n (λ more. object_is _ _ (stays more))
kind_within names _ stays = tt

tail_is : (x y : VerificationType) (xs ys : List VerificationType) → (x ∷ xs) ≡ (y ∷ ys) → xs ≡ ys
tail_is x y xs ys e = cc

kinds_within : (names : Names) (ks : List Kind) → ((more : Names) → map (verification_type (names ++ more)) ks ≡ map (verification_type names) ks)
    → AllByRecursion (IsNumbered (length names)) ks
kinds_within names [] stays = tt
kinds_within names (k ∷ ks) stays = (kind_within names k (λ more. some_head _ _ _ _ (stays more)), kinds_within names ks (λ more. tail_is _ _ _ _ (stays more)))

-- ---- the state that is left

pub insn_of : (b : Body) (i : ℕ) (s t : TypeState) → after_of b i s ≡ Some t
    → (insn : Insn) × (insn_at b i ≡ Some insn) × (apply (ground_of b i) (step_of b.uses (returns_of b) insn) s ≡ Some t)
unfolding after_of
insn_of b i s t e = by (insn_at b i) refl e
  where
    by : (o : Option Insn) → insn_at b i ≡ o → option_and_then (λ insn. apply (ground_of b i) (step_of b.uses (returns_of b) insn) s) o ≡ Some t
        → (insn : Insn) × (insn_at b i ≡ Some insn) × (apply (ground_of b i) (step_of b.uses (returns_of b) insn) s ≡ Some t)
    by None is e = absurd (none-some _ e)
    by (Some insn) is e = (insn, is, e)

pub leaves : (old new : Names) (b : Body) (i : ℕ) (s : State) (o : Option State) → LeavesAlways old new b i s o → LeavesState old new b i s o
leaves old new b i s o always = ap (λ (names : Names). option_map (type_state names) o) (sym (append-nil new)) ∙ always []

-- nothing stands before the first local variable
no_slot : (insn : Insn) → Straddles 0 insn → ⊥
no_slot (insns.Local op slot) h = absurd (let e = h.1 in omega (arith, e))
no_slot _ h = h

pub kinds_sum : (names : Names) (ks : List Kind) → slots (map (verification_type names) ks) ≡ sum_by kind_slots ks
kinds_sum names [] = refl
kinds_sum names (k ∷ ks) = ap₂ (λ m n. m + n) (width_is names k) (kinds_sum names ks) ∙ sym (sum_by-cons kind_slots k ks)

module _ (old new : Names) (b : Body) (i : ℕ) (s t : State) (w : IsWellMadeOfAnySize b) (is : IsStateOf (length old) b s)
    (always : LeavesAlways old new b i s (Some t)) where
  here : after_of b i (type_state old s) ≡ Some (type_state new t)
  here = sym (leaves old new b i s (Some t) always)

  insn : (x : Insn) × (insn_at b i ≡ Some x) × (apply (ground_of b i) (step_of b.uses (returns_of b) x) (type_state old s) ≡ Some (type_state new t))
  insn = insn_of b i (type_state old s) (type_state new t) here

  all_kinds : AllOf (HeldKind b.code) (others b.code) (type_state new t)
  all_kinds = step_all (HeldKind b.code) (others b.code) 0 (ground_of b i) (step_of b.uses (returns_of b) insn.0) (type_state old s) (type_state new t)
      (can_shift 0 b.uses (returns_of b) insn.0 (no_slot insn.0))
      (λ e. let n = new_there b.uses (returns_of b) insn.0 e in (n.0, insn.1 ∙ ap Some n.1))
      (record { locals = all_held b.code old s.locals is.local_kinds; stack = all_held b.code old s.stack is.stack_kinds }) insn.2

  stays : (more : Names) → type_state (new ++ more) t ≡ type_state new t
  stays more = same_Some _ _ (always more ∙ here)

  pub left_of_body : IsStateOf (length new) b t
  left_of_body = record {
    locals = sym (length-map t.locals (verification_type new))
        ∙ step_count (ground_of b i) (step_of b.uses (returns_of b) insn.0) (type_state old s) (type_state new t) insn.2
        ∙ length-map s.locals (verification_type old) ∙ is.locals;
    local_kinds = held_all b.code new t.locals all_kinds.locals;
    stack_kinds = held_all b.code new t.stack all_kinds.stack;
    numbered = record {
      locals = kinds_within new t.locals (λ more. ap (λ (u : TypeState). u.locals) (stays more));
      stack = kinds_within new t.stack
          (λ more. ap (λ (u : TypeState). u.stack) (stays more));
    };
  }

  within : LocalsWithin b.max_locals insn.0
  within = let at = slice_get_within b.code i insn.0 insn.1 in
      subst (LocalsWithin b.max_locals) (get_or_from_slice_get b.code i insn.0 insn.0 insn.1) (w.locals i insn.0 at)

  pub left_whole : IsWhole b s → IsWhole b t
  left_whole whole =
      let count : length (map (verification_type old) s.locals) ≡ b.max_locals = length-map s.locals (verification_type old) ∙ is.locals in
      let second = subst (λ (n : ℕ). HasSecond n (step_of b.uses (returns_of b) insn.0)) (sym count)
      (second_there b.uses (returns_of b) b.max_locals insn.0 within) in
      let pairs = step_pairs (ground_of b i) (step_of b.uses (returns_of b) insn.0) (type_state old s) (type_state new t) second
      (pairs_of old s.locals whole.pairs) insn.2 in
      let before = kinds_sum old s.stack in let stack = whole.stack in
      let slots_after = step_slots (ground_of b i) (step_of b.uses (returns_of b) insn.0) (type_state old s) (type_state new t)
      (omega (arith, before, stack)) insn.2 in
      let after = kinds_sum new t.stack in
      record {
        locals = left_of_body.locals;
        pairs = of_pairs new t.locals pairs;
        stack = omega (arith, after, slots_after);
        local_kinds = left_of_body.local_kinds;
        stack_kinds = left_of_body.stack_kinds;
      }
