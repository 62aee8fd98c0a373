-- The types of members, by lists of names that grow.
use Rattle.std.proofs.Common.{◌≡◌, ℕ, zero, suc, ◌+◌, ◌<◌, ◌≤◌, false, List, [], ◌∷◌, ◌++◌, length, map, take, get_or, Option, Some, None, is_some, Bor, HoldsAt, MatchOption, option_map, option_and_then, option_copied, refl, sym, ◌∙◌, ap, ap₂, subst, arith}
use Rattle.std.specs.List.{AllByRecursion, slice_get}
use Rattle.std.proofs.lemmas.List.{take_more, take_all, map-append}
use Rattle.jc_bytes.specs.Descriptor.{FieldType, DescribesField, IsFieldDescriptor, MethodType, DescribesMethod}
use Rattle.jc_bytes.proofs.EachLaws.{all_push}
use Rattle.jc_methods.specs.declared.kind.Kind.{Kind}
use Rattle.jc_methods.specs.declared.kind.Kind.TheVariants as kinds
use Rattle.jc_methods.specs.declared.value_type.ValueType.{ValueType}
use Rattle.jc_methods.specs.declared.body.Body.{Body}
use Rattle.jc_methods.specs.DescriptorTypes.{method_type_in}
use Rattle.jc_methods.specs.EntryState.{held_of}
use Rattle.jc_methods.specs.ValueTypes.{held_by, Says, AllSay, SaysReturn}
use Rattle.jc_methods.specs.VerificationTypes.{Names, VerificationType, verification_type, IsNumbered, Grows}
use Rattle.jc_methods.specs.WellMade.{IsWellMade}
use Rattle.jc_methods.proofs.DescriptorTypesLaws.{method_again}
use Rattle.jc_methods.proofs.MetNamesLaws.{grows_both}
use Rattle.jc_methods.proofs.NumberedLaws.{grown_count, number_kept, numbers_kept}
use Rattle.jc_methods.proofs.SeenLaws.{held_stays, kinds_stay}
use Rattle.jc_programs.specs.declared.program.Program.{Program}
use Rattle.jc_programs.specs.declared.program.Linked.{Linked}
use Rattle.jc_programs.specs.declared.program.StaticField.{StaticField}
use Rattle.jc_programs.specs.declared.run_end.Entry.{Entry}
use Rattle.jc_programs.specs.Members.{class_at, body_of}
use Rattle.jc_refs_check.specs.declared.members.ProgramTypes.{ProgramTypes}
use Rattle.jc_refs_check.specs.declared.members.Signature.{Signature}
use Rattle.jc_refs_check.specs.declared.members.MemberTypes.{MemberTypes}
use Rattle.jc_refs_check.specs.HeldTypes.{IsNumberedResult, IsSignatureOf, IsTypeOf, EachSays, AreTypesOf, SaysMethod, SaysField, has_field, AreTypes}

-- ---- what is numbered says the same when there are more names

pub kind_grown : (mid new : Names) (kind : Kind) → Grows mid new → IsNumbered (length mid) kind → verification_type new kind ≡ verification_type mid kind
kind_grown mid new kind g is = ap (λ (names : Names). verification_type names kind) g.1 ∙ held_stays mid g.0 kind is

pub kinds_grown : (mid new : Names) (kinds : List Kind) → Grows mid new → AllByRecursion (IsNumbered (length mid)) kinds
    → map (verification_type new) kinds ≡ map (verification_type mid) kinds
kinds_grown mid new kinds g all = ap (λ (names : Names). map (verification_type names) kinds) g.1 ∙ kinds_stay mid g.0 kinds all

result_grown : (mid new : Names) (kind : Option Kind) → Grows mid new → IsNumberedResult (length mid) kind → option_map (verification_type new) kind ≡ option_map (verification_type mid) kind
result_grown mid new None g is = refl
result_grown mid new (Some kind) g is = ap Some (kind_grown mid new kind g is)

result_kept : (mid new : Names) (kind : Option Kind) → Grows mid new → IsNumberedResult (length mid) kind → IsNumberedResult (length new) kind
result_kept mid new None g is = tt
result_kept mid new (Some kind) g is = number_kept (length mid) (length new) kind (grown_count mid new g) is

pub signature_grown : (mid new : Names) (b : Body) (s : Signature) → Grows mid new → IsSignatureOf mid b s → IsSignatureOf new b s
signature_grown mid new b s g is = record {
  says = (λ i. record {
    parameters = kinds_grown mid new s.parameters g is.numbered.parameters i;
    returns = result_grown mid new s.returns g is.numbered.returns i;
  }) ∙ is.says;
  numbered = record {
    parameters = numbers_kept (length mid) (length new) s.parameters (grown_count mid new g) is.numbered.parameters;
    returns = result_kept mid new s.returns g is.numbered.returns;
  };
}

pub type_grown : (mid new : Names) (f : StaticField) (kind : Kind) → Grows mid new → IsTypeOf mid f kind → IsTypeOf new f kind
type_grown mid new f kind g is = record {
  says = λ type d. kind_grown mid new kind g is.numbered ∙ is.says type d;
  numbered = number_kept (length mid) (length new) kind (grown_count mid new g) is.numbered;
}

-- ---- one for each

pub each_weaker : {X Y : Type 0} (R S : X → Y → Type 0) → ((x : X) (y : Y) → R x y → S x y) → (xs : List X) (ys : List Y) → EachSays R xs ys → EachSays S xs ys
each_weaker R S f [] [] all = tt
each_weaker R S f [] (y ∷ ys) all = absurd all
each_weaker R S f (x ∷ xs) [] all = absurd all
each_weaker R S f (x ∷ xs) (y ∷ ys) all = (f x y all.0, each_weaker R S f xs ys all.1)

each_push : {X Y : Type 0} (R : X → Y → Type 0) (xs : List X) (ys : List Y) (x : X) (y : Y) → EachSays R xs ys → R x y → EachSays R (xs ++ x ∷ []) (ys ++ y ∷ [])
each_push R [] [] x y all one = (one, tt)
each_push R [] (z ∷ ys) x y all one = absurd all
each_push R (z ∷ xs) [] x y all one = absurd all
each_push R (z ∷ xs) (w ∷ ys) x y all one = (all.0, each_push R xs ys x y all.1 one)

pub members_grown : (mid new : Names) (c : Linked) (m : MemberTypes) → Grows mid new → AreTypesOf mid c m → AreTypesOf new c m
members_grown mid new c m g are = record {
  methods = each_weaker (IsSignatureOf mid) (IsSignatureOf new) (λ b s. signature_grown mid new b s g) c.bodies m.methods are.methods;
  statics = each_weaker (IsTypeOf mid) (IsTypeOf new) (λ f kind. type_grown mid new f kind g) c.statics m.statics are.statics;
}

pub types_grown : (mid new : Names) (program : Program) (types : ProgramTypes) → Grows mid new → AreTypes mid program types → AreTypes new program types
types_grown mid new program types g are = each_weaker (AreTypesOf mid) (AreTypesOf new) (λ c m. members_grown mid new c m g) program.classes types.classes are

-- those in front of a place, and one more
pub next_says : {X Y : Type 0} (R S : X → Y → Type 0) → ((x : X) (y : Y) → R x y → S x y) → (xs : List X) (i : ℕ) (x : X) (ys more : List Y) (y : Y) → i < length xs
    → x ≡ get_or xs i x → EachSays R (take i xs) ys → S x y → more ≡ ys ++ y ∷ [] → EachSays S (take (i + 1) xs) more
next_says R S f xs i x ys more y room is all one put =
    subst (EachSays S (take (i + 1) xs)) (sym put)
    (subst (λ l. EachSays S l (ys ++ y ∷ [])) (sym (take_more xs i x room))
    (each_push S (take i xs) ys (get_or xs i x) y (each_weaker R S f (take i xs) ys all) (subst (λ z. S z y) is one)))

pub all_say : {X Y : Type 0} (R : X → Y → Type 0) (xs : List X) (i : ℕ) (ys : List Y) → length xs ≤ i → EachSays R (take i xs) ys → EachSays R xs ys
all_say R xs i ys le all = subst (λ l. EachSays R l ys) (take_all i xs le) all

-- ---- by number

pub none_at : {X Y : Type 0} (R : X → Y → Type 0) (xs : List X) (ys : List Y) (i : ℕ) → EachSays R xs ys → length ys ≤ i → slice_get xs i ≡ None
none_at R [] ys i all past = refl
none_at R (x ∷ xs) [] i all past = absurd all
none_at R (x ∷ xs) (y ∷ ys) zero all past = absurd (omega (arith, past))
none_at R (x ∷ xs) (y ∷ ys) (suc i) all past = none_at R xs ys i all.1 (omega (arith, past))

pub one_at : {X Y : Type 0} (R : X → Y → Type 0) (xs : List X) (ys : List Y) (i : ℕ) (y : Y) → EachSays R xs ys → i < length ys → y ≡ get_or ys i y
    → (x : X) × (slice_get xs i ≡ Some x) × R x y
one_at R [] [] i y all room is = absurd (omega (arith, room))
one_at R [] (z ∷ ys) i y all room is = absurd all
one_at R (x ∷ xs) [] i y all room is = absurd all
one_at R (x ∷ xs) (z ∷ ys) zero y all room is = (x, refl, subst (R x) (sym is) all.0)
one_at R (x ∷ xs) (z ∷ ys) (suc i) y all room is = one_at R xs ys i y all.1 (omega (arith, room)) is

module _ (names : Names) (program : Program) (types : ProgramTypes) (are : AreTypes names program types) where
  pub no_class : (class : ℕ) → length types.classes ≤ class → class_at program class ≡ None
  no_class class past = none_at (AreTypesOf names) program.classes types.classes class are past

  pub no_class_field : (class field : ℕ) → length types.classes ≤ class → has_field program class field ≡ false
  no_class_field class field past = ap (λ (o : Option Linked). is_some (option_and_then (λ (c : Linked). slice_get c.statics field) o)) (no_class class past)

  pub no_class_method : (method : Entry) → length types.classes ≤ method.class → body_of program method ≡ None
  no_class_method method past = ap (option_and_then (λ (c : Linked). slice_get c.bodies method.method)) (no_class method.class past)

  module _ (class : ℕ) (m : MemberTypes) (room : class < length types.classes) (is : m ≡ get_or types.classes class m) where
    there : (c : Linked) × (class_at program class ≡ Some c) × AreTypesOf names c m
    there = one_at (AreTypesOf names) program.classes types.classes class m are room is

    pub field_there : (field : ℕ) (items : List Kind) (o : Option (Bor Kind)) → items ≡ m.statics
        → MatchOption o (length items ≤ field) (λ k. (field < length items) × HoldsAt (λ y. k.now ≡ y) items field)
        → MatchOption (option_copied o) (has_field program class field ≡ false) (λ kind. SaysField names program class field kind)
    field_there field items None same past =
        ap (λ (l : Option Linked). is_some (option_and_then (λ (c : Linked). slice_get c.statics field) l)) there.1
        ∙ ap is_some (none_at (IsTypeOf names) there.0.statics m.statics field there.2.statics (subst (λ (l : List Kind). length l ≤ field) same past))
    field_there field items (Some k) same read =
        let one = one_at (IsTypeOf names) there.0.statics m.statics field k.now there.2.statics (subst (λ (l : List Kind). field < length l) same read.0)
        (subst (λ (l : List Kind). k.now ≡ get_or l field k.now) same (read.1 k.now)) in
        record { linked = there.0; class_is = there.1; static = one.0; static_is = one.1; says = one.2 }

    pub method_there : (method : Entry) (items : List Signature) (o : Option (Bor Signature)) → method.class ≡ class → items ≡ m.methods
        → MatchOption o (length items ≤ method.method) (λ s. (method.method < length items) × HoldsAt (λ y. s.now ≡ y) items method.method)
        → MatchOption o (body_of program method ≡ None) (λ s. SaysMethod names program method s.now)
    method_there method items None at same past =
        ap (λ (k : ℕ). option_and_then (λ (c : Linked). slice_get c.bodies method.method) (class_at program k)) at
        ∙ ap (option_and_then (λ (c : Linked). slice_get c.bodies method.method)) there.1
        ∙ none_at (IsSignatureOf names) there.0.bodies m.methods method.method there.2.methods (subst (λ (l : List Signature). length l ≤ method.method) same past)
    method_there method items (Some s) at same read =
        let one = one_at (IsSignatureOf names) there.0.bodies m.methods method.method s.now there.2.methods (subst (λ (l : List Signature). method.method < length l) same read.0)
        (subst (λ (l : List Signature). s.now ≡ get_or l method.method s.now) same (read.1 s.now)) in
        record {
          body = one.0;
          body_is = ap (λ (k : ℕ). option_and_then (λ (c : Linked). slice_get c.bodies method.method) (class_at program k)) at
              ∙ ap (option_and_then (λ (c : Linked). slice_get c.bodies method.method)) there.1 ∙ one.1;
          says = one.2;
        }

-- ---- values

-- types of so many values, as they are kept
pub record AreHeld (old new : Names) (values : List ValueType) (kinds : List Kind) : Type 0 where
  pub says : map (verification_type new) kinds ≡ map held_by values
  pub numbered : AllByRecursion (IsNumbered (length new)) kinds
  pub grown : Grows old new

pub next_held : (old mid new : Names) (values : List ValueType) (i : ℕ) (d : ValueType) (kinds more : List Kind) (kind : Kind) → i < length values
    → AreHeld old mid (take i values) kinds → Grows mid new → verification_type new kind ≡ held_by (get_or values i d) → IsNumbered (length new) kind
    → more ≡ kinds ++ kind ∷ [] → AreHeld old new (take (i + 1) values) more
next_held old mid new values i d kinds more kind room held g says numbered put = record {
  says = ap (map (verification_type new)) put ∙ map-append (verification_type new) kinds (kind ∷ [])
      ∙ ap₂ (λ (hs : List VerificationType) (h : VerificationType). hs ++ h ∷ []) (kinds_grown mid new kinds g held.numbered ∙ held.says) says
      ∙ sym (map-append held_by (take i values) (get_or values i d ∷ [])) ∙ ap (map held_by) (sym (take_more values i d room));
  numbered = subst (AllByRecursion (IsNumbered (length new))) (sym put)
      (all_push (IsNumbered (length new)) kinds kind (numbers_kept (length mid) (length new) kinds (grown_count mid new g) held.numbered) numbered);
  grown = grows_both old mid new held.grown g;
}

pub all_held_there : (old new : Names) (values : List ValueType) (i : ℕ) (kinds : List Kind) → length values ≤ i → AreHeld old new (take i values) kinds → AreHeld old new values kinds
all_held_there old new values i kinds le held = subst (λ (l : List ValueType). AreHeld old new l kinds) (take_all i values le) held

-- ---- one member

pub signature_says : (mid new : Names) (b : Body) (given : List ValueType) (result : Option ValueType) (kinds : List Kind) (kind : Option Kind) → IsWellMade b
    → ((type : MethodType) → DescribesMethod b.desc type → AllSay given type.parameters) → ((type : MethodType) → DescribesMethod b.desc type → SaysReturn result type.returns)
    → map (verification_type mid) kinds ≡ map held_by given → AllByRecursion (IsNumbered (length mid)) kinds → Grows mid new
    → option_map (verification_type new) kind ≡ option_map held_by result → IsNumberedResult (length new) kind
    → IsSignatureOf new b (record { parameters = kinds; returns = kind })
signature_says mid new b given result kinds kind made params gives says all g returns numbered =
    let t = made.of_any_size.arguments in
    let is = sym (method_again b.desc t.type t.described) in
    let first : map (verification_type new) kinds ≡ map held_of (method_type_in b.desc).parameters =
    kinds_grown mid new kinds g all ∙ says ∙ (params t.type t.described).held_are ∙ ap (λ (m : MethodType). map held_of m.parameters) is in
    let last : option_map (verification_type new) kind ≡ option_map held_of (method_type_in b.desc).returns =
    returns ∙ (gives t.type t.described).held_is ∙ ap (λ (m : MethodType). option_map held_of m.returns) is in
    record {
      says = λ i. record { parameters = first i; returns = last i };
      numbered = record { parameters = numbers_kept (length mid) (length new) kinds (grown_count mid new g) all; returns = numbered };
    }

pub field_says : (names : Names) (f : StaticField) (value : ValueType) (kind : Kind) → ((type : FieldType) → DescribesField f.desc type → Says value type)
    → verification_type names kind ≡ held_by value → IsNumbered (length names) kind → IsTypeOf names f kind
field_says names f value kind says is numbered = record { says = λ type d. is ∙ (says type d).held_is; numbered = numbered }

-- nothing is expected where the descriptor is of no type
pub no_field_says : (names : Names) (f : StaticField) → (IsFieldDescriptor f.desc → ⊥) → IsTypeOf names f kinds.Top
no_field_says names f none = record { says = λ type d. absurd (none (type, d)); numbered = tt }
