-- What instructions need, on types as they are kept.
use Rattle.std.proofs.Common.{◌≡◌, ℕ, zero, suc, ◌+◌, ◌-◌, ◌<◌, ◌≤◌, Bool, true, false, ◌&&◌, List, [], ◌∷◌, ◌++◌, length, map, drop, get_or, reverse, Option, Some, None, is_some, refl, sym, ◌∙◌, ap, ap₂, subst, arith}
use Rattle.std.specs.List.{list_all, Contains, slice_get}
use Rattle.std.specs.Option.{option_map, option_and_then}
use Rattle.std.proofs.lemmas.Bool.{true≢false}
use Rattle.std.proofs.lemmas.Option.{none-some, same_Some}
use Rattle.std.proofs.lemmas.List.{get_or-reverse, get_or-map, get_or_past, length-map, length-reverse, drop_all}
use Rattle.jc_bytes.specs.Descriptor.{FieldType, DescribesField}
use Rattle.jc_methods.specs.DescriptorTypes.{method_type_in}
use Rattle.jc_methods.specs.EntryState.{held_of}
use Rattle.jc_methods.specs.declared.body.Body.{Body}
use Rattle.jc_methods.specs.declared.kind.Kind.{Kind}
use Rattle.jc_methods.specs.declared.kind.Kind.TheVariants as kinds
use Rattle.jc_methods.specs.VerificationTypes.{Names, VerificationType, TypeState, verification_type}
use Rattle.jc_methods.specs.VerificationTypes as verification
use Rattle.jc_programs.specs.declared.program.Program.{Program}
use Rattle.jc_programs.specs.declared.program.Linked.{Linked}
use Rattle.jc_programs.specs.declared.program.StaticField.{StaticField}
use Rattle.jc_programs.specs.declared.run_end.Entry.{Entry}
use Rattle.jc_programs.specs.Members.{class_at, body_of}
use Rattle.jc_machine_numbers.specs.declared.narrowing.Narrowing.{Narrowing}
use Rattle.jc_machine_model.specs.Operations.{Operation, returns}
use Rattle.jc_machine_code.specs.declared.operation.ComputationalType.{ComputationalType}
use Rattle.jc_machine_code.specs.declared.operation.Operation.{Operation as ShownOperation}
use Rattle.jc_machine_code.specs.declared.operation.Operation.TheVariants as shown
use Rattle.jc_machine_code.specs.Shown.{Shows}
use Rattle.jc_machine_code.specs.Types.{computational}
use Rattle.jc_machine_code.specs.Invoked.{Invoked}
use Rattle.jc_machine_code.proofs.InvokedLaws.{invoked_at}
use Rattle.jc_kinds.proofs.WalkLaws.{all_true, all_false}
use Rattle.jc_refs_check.specs.Needs.{Need, need_held, argument_needs, needs_of}
use Rattle.jc_refs_check.specs.RefsOk.{is_taken, operand, operation_of_place, OperandsSuit}
use Rattle.jc_refs_check.specs.declared.members.Signature.{Signature}
use Rattle.jc_refs_check.specs.HeldTypes.{HeldTypes, IsSignatureOf, SaysMethod, SaysField, has_field}
use Rattle.jc_refs_check.specs.KindNeeds.{takes_at, takes_all, held_need, all_held, returned_needs, is_by_descriptor, IsFieldOf, IsMadeOperation}
use Rattle.jc_refs_check.proofs.OperationLaws.{Fine}

-- ---- the operand under so many others

pub operand_there : (names : Names) (stack : List Kind) (above : ℕ) (kind : Kind) → above < length stack → kind ≡ get_or stack (length stack - 1 - above) kinds.Top
    → verification_type names kind ≡ operand above (map (verification_type names) stack)
operand_there names stack above kind lt is =
    let long : length (map (verification_type names) stack) ≡ length stack = length-map stack (verification_type names) in
    let inside : length stack - 1 - above < length stack = omega (arith, lt) in
    ap (verification_type names) is
    ∙ sym (get_or-map (verification_type names) stack (length stack - 1 - above) kinds.Top verification.top inside)
    ∙ ap (λ (n : ℕ). get_or (map (verification_type names) stack) (n - 1 - above) verification.top) (sym long)
    ∙ sym (get_or-reverse (map (verification_type names) stack) above verification.top (let l : above < length (map (verification_type names) stack) = omega (arith, lt, long) in l))

pub operand_past : (names : Names) (stack : List Kind) (above : ℕ) → length stack ≤ above → verification.top ≡ operand above (map (verification_type names) stack)
operand_past names stack above le =
    let a = length-reverse (map (verification_type names) stack) in let b = length-map stack (verification_type names) in
    sym (get_or_past (reverse (map (verification_type names) stack)) above verification.top (omega (arith, le, a, b)))

-- ---- what is kept as a value of a type

pub and_true : (b : Bool) → (b && true) ≡ b
and_true true = refl
and_true false = refl

takes_any : (b : Body) (above : ℕ) (h : VerificationType) → is_taken b (record { above = above; takes = λ name. true; fresh = λ name. true }) h ≡ true
takes_any b above verification.null = refl
takes_any b above (verification.object name) = refl
takes_any b above (verification.uninit at) = refl
takes_any b above verification.uninit_this = refl
takes_any b above verification.top = refl
takes_any b above verification.int = refl
takes_any b above verification.float = refl
takes_any b above verification.double = refl
takes_any b above verification.long = refl

pub one_held : (b : Body) (s : TypeState) (above : ℕ) (h : VerificationType) → takes_all b s (need_held above h) ≡ takes_at b s (held_need above h)
one_held b s above (verification.object name) = and_true (takes_at b s (held_need above (verification.object name)))
one_held b s above verification.top = sym (takes_any b above (operand above s.stack))
one_held b s above verification.int = sym (takes_any b above (operand above s.stack))
one_held b s above verification.float = sym (takes_any b above (operand above s.stack))
one_held b s above verification.double = sym (takes_any b above (operand above s.stack))
one_held b s above verification.long = sym (takes_any b above (operand above s.stack))
one_held b s above verification.null = sym (takes_any b above (operand above s.stack))
one_held b s above verification.uninit_this = sym (takes_any b above (operand above s.stack))
one_held b s above (verification.uninit at) = sym (takes_any b above (operand above s.stack))

-- ---- arguments

all_both : {X : Type 0} (test : X → Bool) (xs ys : List X) → list_all test (xs ++ ys) ≡ (list_all test xs && list_all test ys)
all_both test [] ys = refl
all_both test (x ∷ xs) ys = ap (λ (b : Bool). test x && b) (all_both test xs ys) ∙ and_over (test x) (list_all test xs) (list_all test ys)
  where
    and_over : (a b c : Bool) → (a && (b && c)) ≡ ((a && b) && c)
    and_over true b c = refl
    and_over false b c = refl

pub arguments_held : (b : Body) (s : TypeState) (types : List FieldType) → takes_all b s (argument_needs types) ≡ all_held b s (map held_of types)
arguments_held b s [] = refl
arguments_held b s (type ∷ types) =
    all_both (takes_at b s) (need_held (length types) (held_of type)) (argument_needs types)
    ∙ ap₂ (λ (x y : Bool). x && y)
    (one_held b s (length types) (held_of type) ∙ ap (λ (n : ℕ). takes_at b s (held_need n (held_of type))) (sym (length-map types held_of)))
    (arguments_held b s types)

pub held_on : (b : Body) (s : TypeState) (names : Names) (ks : List Kind) (i : ℕ) (d : Kind) → i < length ks
    → all_held b s (map (verification_type names) (drop i ks))
    ≡ (takes_at b s (held_need (length ks - 1 - i) (verification_type names (get_or ks i d))) && all_held b s (map (verification_type names) (drop (i + 1) ks)))
held_on b s names [] i d lt = absurd (omega (arith, lt))
held_on b s names (k ∷ ks) zero d lt =
    ap (λ (n : ℕ). takes_at b s (held_need n (verification_type names k)) && all_held b s (map (verification_type names) ks))
    (length-map ks (verification_type names) ∙ (let e : length ks ≡ length (k ∷ ks) - 1 - 0 = omega arith in e))
held_on b s names (k ∷ ks) (suc i) d lt =
    held_on b s names ks i d (omega (arith, lt))
    ∙ ap (λ (n : ℕ). takes_at b s (held_need n (verification_type names (get_or ks i d))) && all_held b s (map (verification_type names) (drop (i + 1) ks)))
    (let e : length ks - 1 - i ≡ length (k ∷ ks) - 1 - suc i = omega arith in e)
    ∙ ap (λ (n : ℕ). takes_at b s (held_need (length (k ∷ ks) - 1 - suc i) (verification_type names (get_or ks i d))) && all_held b s (map (verification_type names) (drop n (k ∷ ks))))
    (let e : suc (i + 1) ≡ suc i + 1 = omega arith in e)

pub held_done : (b : Body) (s : TypeState) (names : Names) (ks : List Kind) (i : ℕ) → length ks ≤ i → all_held b s (map (verification_type names) (drop i ks)) ≡ true
held_done b s names ks i le = ap (λ (l : List Kind). all_held b s (map (verification_type names) l)) (drop_all i ks le)

-- ---- the relation that the tests decide

pub operands_to : (program : Program) (method : Entry) (b : Body) (i : ℕ) (s : TypeState) → takes_all b s (needs_of (operation_of_place program method i)) ≡ true → OperandsSuit program method b i s
operands_to program method b i s e n among = all_true (takes_at b s) (needs_of (operation_of_place program method i)) n e among

pub operands_not : (program : Program) (method : Entry) (b : Body) (i : ℕ) (s : TypeState) → takes_all b s (needs_of (operation_of_place program method i)) ≡ false
    → OperandsSuit program method b i s → ⊥
operands_not program method b i s e suit =
    let f = fails (takes_at b s) (needs_of (operation_of_place program method i)) e in
    let clash : true ≡ false = sym (suit f.0 f.1) ∙ f.2 in cc
  where
    fails : (test : Need → Bool) (xs : List Need) → list_all test xs ≡ false → (x : Need) × Contains xs x × (test x ≡ false)
    fails test xs e = all_false test xs e

-- ---- by the types of members

-- what is returned, if anything is
pub returned_one : (b : Body) (s : TypeState) (names : Names) (want : Kind) (type : Option FieldType) → Some (verification_type names want) ≡ option_map held_of type
    → takes_at b s (held_need 0 (verification_type names want)) ≡ takes_all b s (returned_needs type)
returned_one b s names want None e = absurd cc
returned_one b s names want (Some type) e =
    ap (λ (h : VerificationType). takes_at b s (held_need 0 h)) (same_Some (verification_type names want) (held_of type) e) ∙ sym (one_held b s 0 (held_of type))

pub returned_none : (b : Body) (s : TypeState) (type : Option FieldType) → None ≡ option_map held_of type → true ≡ takes_all b s (returned_needs type)
returned_none b s None e = refl
returned_none b s (Some type) e = absurd (none-some _ e)

module _ (names : Names) (program : Program) where
  -- a method that is called
  pub called_says : (callee : Entry) (parameters : List FieldType) (max_locals : ℕ) (s : Signature) → Invoked program callee parameters max_locals → SaysMethod names program callee s
      → map (verification_type names) s.parameters ≡ map held_of parameters
  called_says callee parameters max_locals s invoked says =
      let there : body_of program callee ≡ Some invoked.body = ap (option_and_then (λ (c : Linked). slice_get c.bodies callee.method)) invoked.class_is ∙ invoked.body_is in
      ap (λ (t : HeldTypes). t.parameters) says.says.says
      ∙ ap (λ (b : Body). map held_of (method_type_in b.desc).parameters) (same_Some says.body invoked.body (sym says.body_is ∙ there))
      ∙ ap (map held_of) (sym invoked.parameters_are)

  pub called_there : (callee : Entry) (parameters : List FieldType) (max_locals : ℕ) → Invoked program callee parameters max_locals → body_of program callee ≡ None → ⊥
  called_there callee parameters max_locals invoked none =
      none-some _ (sym none ∙ ap (option_and_then (λ (c : Linked). slice_get c.bodies callee.method)) invoked.class_is ∙ invoked.body_is)

  -- a field in which something is stored
  pub stored_says : (class field : ℕ) (type : FieldType) (kind : Kind) → IsFieldOf program class field type → SaysField names program class field kind → verification_type names kind ≡ held_of type
  stored_says class field type kind f says =
      let linked : says.linked ≡ f.linked = same_Some says.linked f.linked (sym says.class_is ∙ f.class_is) in
      let static : says.static ≡ f.static =
      same_Some says.static f.static (sym says.static_is ∙ ap (λ (c : Linked). slice_get c.statics field) linked ∙ f.static_is) in
      says.says.says type (subst (λ (x : StaticField). DescribesField x.desc type) (sym static) f.described)

  pub stored_there : (class field : ℕ) (type : FieldType) → IsFieldOf program class field type → has_field program class field ≡ false → ⊥
  stored_there class field type f none =
      true≢false (sym (ap (λ (o : Option Linked). is_some (option_and_then (λ (c : Linked). slice_get c.statics field) o)) f.class_is ∙ ap is_some f.static_is) ∙ none)

  -- the method itself
  pub own_says : (method : Entry) (linked : Linked) (b : Body) (s : Signature) → class_at program method.class ≡ Some linked → slice_get linked.bodies method.method ≡ Some b
      → SaysMethod names program method s → IsSignatureOf names b s
  own_says method linked b s is there says =
      subst (λ (d : Body). IsSignatureOf names d s)
      (same_Some says.body b (sym says.body_is ∙ ap (option_and_then (λ (c : Linked). slice_get c.bodies method.method)) is ∙ there)) says.says

  pub own_there : (method : Entry) (linked : Linked) (b : Body) → class_at program method.class ≡ Some linked → slice_get linked.bodies method.method ≡ Some b
      → body_of program method ≡ None → ⊥
  own_there method linked b is there none = none-some _ (sym none ∙ ap (option_and_then (λ (c : Linked). slice_get c.bodies method.method)) is ∙ there)

-- ---- by what operations show

pub not_by_descriptor : (op : ShownOperation) → ((class field : ℕ) (kind : ComputationalType) (narrowing : Narrowing) → op ≡ shown.Puts class field kind narrowing → ⊥)
    → ((callee : Entry) → op ≡ shown.Invokes callee → ⊥) → ((kind : ComputationalType) (narrowing : Narrowing) → op ≡ shown.Returns kind narrowing → ⊥) → is_by_descriptor op ≡ false
not_by_descriptor (shown.Puts class field kind narrowing) p i r = absurd (p class field kind narrowing refl)
not_by_descriptor (shown.Invokes callee) p i r = absurd (i callee refl)
not_by_descriptor (shown.Returns kind narrowing) p i r = absurd (r kind narrowing refl)
not_by_descriptor op p i r = refl

module _ (program : Program) (method : Entry) (b : Body) (s : TypeState) (at : ℕ) (fine : Fine program b (operation_of_place program method at)) (r : Bool) where
  pub puts_taken : (class field : ℕ) (kind : ComputationalType) (narrowing : Narrowing) → Shows (shown.Puts class field kind narrowing) (operation_of_place program method at)
      → ((type : FieldType) → IsFieldOf program class field type → r ≡ takes_all b s (need_held 0 (held_of type))) → r ≡ takes_all b s (needs_of (operation_of_place program method at))
  puts_taken class field kind narrowing shows takes =
      takes shows.0 (subst (Fine program b) shows.1 fine) ∙ ap (λ (d : Operation). takes_all b s (needs_of d)) (sym shows.1)

  pub call_taken : (callee : Entry) → Shows (shown.Invokes callee) (operation_of_place program method at)
      → ((parameters : List FieldType) (max_locals : ℕ) → Invoked program callee parameters max_locals → r ≡ takes_all b s (argument_needs parameters))
      → r ≡ takes_all b s (needs_of (operation_of_place program method at))
  call_taken callee shows takes =
      takes shows.0 shows.1 (invoked_at program method at callee shows.0 shows.1 shows.2) ∙ ap (λ (d : Operation). takes_all b s (needs_of d)) (sym shows.2)

  pub return_taken : (kind : ComputationalType) (narrowing : Narrowing) → Shows (shown.Returns kind narrowing) (operation_of_place program method at)
      → r ≡ takes_all b s (returned_needs (method_type_in b.desc).returns) → r ≡ takes_all b s (needs_of (operation_of_place program method at))
  return_taken kind narrowing shows takes =
      let same : shows.0 ≡ (method_type_in b.desc).returns = subst (Fine program b) shows.1 fine in
      takes ∙ ap (λ (t : Option FieldType). takes_all b s (returned_needs t)) (sym same) ∙ needs shows.0 ∙ ap (λ (d : Operation). takes_all b s (needs_of d)) (sym shows.1)
    where
      needs : (t : Option FieldType) → takes_all b s (returned_needs t) ≡ takes_all b s (needs_of (returns (computational kind) t))
      needs None = refl
      needs (Some type) = refl

pub made_operation : (program : Program) (b : Body) (op : ShownOperation) (d : Operation) → Shows op d → Fine program b d → IsMadeOperation op
made_operation program b (shown.Builds c) d e f = subst (Fine program b) e f
made_operation program b op d e f = tt
