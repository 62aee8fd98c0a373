-- Instructions leave objects of classes whose names a pool can take, where those before them have such names.
use Rattle.std.proofs.Common.{◌≡◌, inl, inr, ℕ, zero, suc, ◌+◌, ◌-◌, ◌<◌, ◌≤◌, Bool, true, false, ◌&&◌, List, [], ◌∷◌, ◌++◌, length, map, take, drop, get_or, set, Option, Some, None, if◌then◌else◌, refl, sym, subst, arith, nat_eq, nat_le, nat_lt, codes, bytes_eq}
use Rattle.std.specs.List.{list_any, list_all, flat_map, AllByRecursion}
use Rattle.std.proofs.lemmas.Bool.{and_parts, leb-true, ltb-true, true≢false}
use Rattle.std.proofs.lemmas.List.{length-append, append-nil}
use Rattle.std.proofs.lemmas.Option.{none-some, same_Some}
use Rattle.jc_bytes.specs.ByteLists.{AreBytes}
use Rattle.jc_bytes.specs.Descriptor.{FieldType, Object, Array, field_text, return_text, MethodType, IsFieldDescriptor, IsMethodDescriptor}
use Rattle.jc_methods.specs.DescriptorTypes.{field_type_in, method_type_in}
use Rattle.jc_methods.specs.EntryState.{held_of}
use Rattle.jc_methods.specs.Flow.{is_return}
use Rattle.jc_methods.specs.VerificationTypes.{VerificationType, top, uninit_this, object, uninit, TypeState, is_pair, slots}
use Rattle.jc_methods.specs.InsnUse.{pool_place, IsOneSlotConstant, IsTwoSlotConstant, IsMethod, IsCall, IsClass, IsMemberFor, Suits}
use Rattle.jc_methods.specs.WellMade.{HasUse, what_used}
use Rattle.jc_methods.specs.declared.body.Use.{Use}
use Rattle.jc_methods.specs.declared.body.What.{What}
use Rattle.jc_methods.specs.declared.body.What.TheVariants as whats
use Rattle.jc_methods.specs.declared.insn.Insn.{Insn}
use Rattle.jc_methods.specs.declared.insn.Insn.TheVariants as insns
use Rattle.jc_methods.specs.Opcode as opcode
use Rattle.jc_methods.proofs.DescriptorTypesLaws.{field_again, method_again}
use Rattle.jc_bytes.proofs.OneTextLaws.{both_bytes}
use Rattle.jc_kinds_after.specs.After.{field_step, result_of, call_form, method_step, member_step, interface_step, dynamic_step, computed_step, constant_step, is_array_class, array_of, array_step, class_step, element_letter, multi_step, return_op, simple_step, step_of}
use Rattle.jc_kinds_after.specs.Step.{Gives, kind, item, StackEffect, Step, moves, loads, stores, counts, picks, makes, builds, fails, Ground, apply, upper, below, last, limited, has_form, moved, moved_by, given_of, cleared, clear_before, put_local, with_stack, is_array, element_name, element_of, without, is_made, class_built, built_as, replaced, same_new}
use Rattle.jc_kinds_after.specs.Table.{Row, table, find, forms_at}
use Rattle.jc_kinds_after.specs.Wants.{is_int, accepts, accepts_all}
use Rattle.jc_kinds_after.specs.declared.want.Want.TheVariants as wants
use Rattle.jc_kinds_after.proofs.KeepLaws.{then_some, else_some}
use Rattle.jc_kinds_after.proofs.AfterLaws.{all_of}
use Rattle.jc_kinds_after.proofs.DispatchLaws.{two_slots_described}
use Rattle.jc_instrument_laws.proofs.ClassSpellingLaws.{bytes_both}
use Rattle.jc_instrument_laws.proofs.PoolSpellingLaws.{IsText}

-- ---- texts

pub text_front : (a b : List ℕ) → IsText (a ++ b) → IsText a
text_front a b t =
    let count = length-append a b in
    let short = t.short in
    record { short = omega (arith, count, short); are = (both_bytes a b t.are).0 }

pub text_behind : (a b : List ℕ) → IsText (a ++ b) → IsText b
text_behind a b t =
    let count = length-append a b in
    let short = t.short in
    record { short = omega (arith, count, short); are = (both_bytes a b t.are).1 }

text_rest : (x : ℕ) (a : List ℕ) → IsText (x ∷ a) → IsText a
text_rest x a t = let short = t.short in record { short = omega (arith, short); are = t.are.1 }

pub no_text : IsText []
no_text = record { short = omega arith; are = tt }

bytes_taken : (n : ℕ) (a : List ℕ) → AreBytes a → AreBytes (take n a)
bytes_taken zero a are = tt
bytes_taken (suc n) [] are = tt
bytes_taken (suc n) (x ∷ a) are = (are.0, bytes_taken n a are.1)

taken_most : (n : ℕ) (a : List ℕ) → length (take n a) ≤ length a
taken_most zero a = omega arith
taken_most (suc n) [] = omega arith
taken_most (suc n) (x ∷ a) = let most = taken_most n a in omega (arith, most)

-- a text that is written out
pub bytes_by : (text : List ℕ) → list_all (λ b. nat_lt b 256) text ≡ true → AreBytes text
bytes_by [] is = tt
bytes_by (b ∷ text) is = let p = and_parts (nat_lt b 256) (list_all (λ x. nat_lt x 256) text) is in (ltb-true b 256 p.0, bytes_by text p.1)

-- ---- values

-- the class of an object has a name that a pool can take
abbrev pub IsNamed : VerificationType → Type 0
IsNamed (object name) = IsText name
IsNamed h = Unit {0}

abbrev pub AllNamed : List VerificationType → Type 0
AllNamed hs = AllByRecursion IsNamed hs

pub record AreNamed (s : TypeState) : Type 0 where
  pub locals : AllNamed s.locals
  pub stack : AllNamed s.stack

pub named_take : (n : ℕ) (hs : List VerificationType) → AllNamed hs → AllNamed (take n hs)
named_take zero hs all = tt
named_take (suc n) [] all = tt
named_take (suc n) (h ∷ hs) all = (all.0, named_take n hs all.1)

named_drop : (n : ℕ) (hs : List VerificationType) → AllNamed hs → AllNamed (drop n hs)
named_drop zero hs all = all
named_drop (suc n) [] all = tt
named_drop (suc n) (h ∷ hs) all = named_drop n hs all.1

pub named_both : (hs js : List VerificationType) → AllNamed hs → AllNamed js → AllNamed (hs ++ js)
named_both [] js a b = b
named_both (h ∷ hs) js a b = (a.0, named_both hs js a.1 b)

named_get : (hs : List VerificationType) (i : ℕ) → AllNamed hs → IsNamed (get_or hs i top)
named_get [] i all = tt
named_get (h ∷ hs) zero all = all.0
named_get (h ∷ hs) (suc i) all = named_get hs i all.1

named_set : (hs : List VerificationType) (i : ℕ) (h : VerificationType) → AllNamed hs → IsNamed h → AllNamed (set hs i h)
named_set [] i h all named = tt
named_set (x ∷ hs) zero h all named = (named, all.1)
named_set (x ∷ hs) (suc i) h all named = (all.0, named_set hs i h all.1 named)

named_map : (f : VerificationType → VerificationType) → ((h : VerificationType) → IsNamed h → IsNamed (f h)) → (hs : List VerificationType) → AllNamed hs → AllNamed (map f hs)
named_map f keeps [] all = tt
named_map f keeps (h ∷ hs) all = (keeps h all.0, named_map f keeps hs all.1)

named_one : (t : Bool) (x y : VerificationType) → IsNamed x → IsNamed y → IsNamed (if t then x else y)
named_one true x y p q = p
named_one false x y p q = q

-- ---- steps

abbrev GivesNamed : Gives → Type 0
GivesNamed (kind h) = IsNamed h
GivesNamed (item k) = Unit {0}

abbrev FormNamed : StackEffect → Type 0
FormNamed f = AllByRecursion GivesNamed f.given

-- what the step gives are such objects
abbrev pub StepNamed : Step → Type 0
StepNamed (moves forms) = AllByRecursion FormNamed forms
StepNamed (builds f) = FormNamed f
StepNamed st = Unit {0}

pub record GroundNamed (g : Ground) : Type 0 where
  pub owner : IsText g.owner
  pub class_at : (at : ℕ) → IsText (g.class_at at)

given_named : (operands : List VerificationType) (given : List Gives) → AllNamed operands → AllByRecursion GivesNamed given → AllNamed (map (given_of operands) given)
given_named operands [] all named = tt
given_named operands (kind h ∷ given) all named = (named.0, given_named operands given all named.1)
given_named operands (item n ∷ given) all named = (named_get operands n all, given_named operands given all named.1)

moved_named : (f : StackEffect) (stack : List VerificationType) → FormNamed f → AllNamed stack → AllNamed (moved f stack)
moved_named f stack named all =
    named_both (below (length f.wanted) stack) (map (given_of (upper (length f.wanted) stack)) f.given)
    (named_take (length stack - length f.wanted) stack all)
    (given_named (upper (length f.wanted) stack) f.given (named_drop (length stack - length f.wanted) stack all) named)

limited_is : (most : ℕ) (stack x : List VerificationType) → limited most stack ≡ Some x → stack ≡ x
limited_is most stack x e = same_Some stack x (then_some (nat_le (slots stack) most) (Some stack) x e).1

by_named : (most : ℕ) (forms : List StackEffect) (stack x : List VerificationType) → AllByRecursion FormNamed forms → AllNamed stack → moved_by most forms stack ≡ Some x
    → AllNamed x
by_named most [] stack x named all e = absurd (none-some x e)
by_named most (f ∷ forms) stack x named all e = by (has_form f stack) (λ r. by_named most forms stack x named.1 all r) e
  where
    by : (t : Bool) → (moved_by most forms stack ≡ Some x → AllNamed x)
        → (if t then limited most (moved f stack) else moved_by most forms stack) ≡ Some x → AllNamed x
    by true more e = subst AllNamed (limited_is most (moved f stack) x e) (moved_named f stack named.0 all)
    by false more e = more e

put_named : (k : ℕ) (h : VerificationType) (hs : List VerificationType) → AllNamed hs → IsNamed h → AllNamed (put_local k h hs)
put_named k h hs all named = second (is_pair h)
  where
    front : (k : ℕ) → AllNamed (clear_before k hs)
    front zero = all
    front (suc k) = named_set hs k (cleared (get_or hs k top)) all (named_one (is_pair (get_or hs k top)) top (get_or hs k top) tt (named_get hs k all))

    second : (t : Bool) → AllNamed (if t then set (set (clear_before k hs) k h) (k + 1) top else set (clear_before k hs) k h)
    second true = named_set (set (clear_before k hs) k h) (k + 1) top (named_set (clear_before k hs) k h (front k) named) tt
    second false = named_set (clear_before k hs) k h (front k) named

stack_named : (s t : TypeState) (o : Option (List VerificationType)) → AllNamed s.locals → ((x : List VerificationType) → o ≡ Some x → AllNamed x) → with_stack s o ≡ Some t → AreNamed t
stack_named s t None locals more e = absurd (none-some t e)
stack_named s t (Some x) locals more e = subst AreNamed (same_Some (record s { stack = x }) t e) (record { locals = locals; stack = more x refl })

element_text : (name : List ℕ) → IsText name → IsText (element_name name)
element_text [] t = t
element_text (a ∷ []) t = t
element_text (a ∷ b ∷ rest) t = by (nat_eq b 76)
  where
    by : (is_object : Bool) → IsText (if is_object then take (length rest - 1) rest else b ∷ rest)
    by true =
        let most = taken_most (length rest - 1) rest in
        let short = t.short in
        record { short = omega (arith, most, short); are = bytes_taken (length rest - 1) rest t.are.1.1 }
    by false = text_rest a (b ∷ rest) t

element_named : (h : VerificationType) → IsNamed h → IsNamed (element_of h)
element_named (object name) named = element_text name named
element_named h named = tt

class_named : (g : Ground) (old : VerificationType) (name : List ℕ) → GroundNamed g → class_built g old ≡ Some name → IsText name
class_named g (uninit at) name ground is = subst IsText (same_Some (g.class_at at) name is) (ground.class_at at)
class_named g uninit_this name ground is = subst IsText (same_Some g.owner name is) ground.owner
class_named g old name ground is = absurd (none-some name is)

built_named : (most : ℕ) (old : VerificationType) (rest : List VerificationType) (given : List Gives) (o : Option (List ℕ)) (s t : TypeState)
    → ((name : List ℕ) → o ≡ Some name → IsText name)
    → AllByRecursion GivesNamed given → AllNamed rest → AreNamed s → built_as most old rest given o s ≡ Some t → AreNamed t
built_named most old rest given None s t text named r all e = absurd (none-some t e)
built_named most old rest given (Some name) s t text named r all e =
    let keeps : (h : VerificationType) → IsNamed h → IsNamed (replaced old name h) = λ h p. named_one (same_new old h) (object name) h (text name refl) p in
    stack_named (record { locals = map (replaced old name) s.locals; stack = s.stack }) t _ (named_map (replaced old name) keeps s.locals all.locals)
    (λ x q. subst AllNamed (limited_is most _ x q)
    (named_both _ _ (named_map (replaced old name) keeps rest r) (given_named [] given tt named))) e

pub step_named : (g : Ground) (st : Step) (s t : TypeState) → GroundNamed g → StepNamed st → AreNamed s → apply g st s ≡ Some t → AreNamed t
step_named g (moves forms) s t ground named all e =
    stack_named s t (moved_by g.most forms s.stack) all.locals (λ x q. by_named g.most forms s.stack x named all.stack q) e
step_named g (loads k w) s t ground named all e =
    let h = get_or s.locals k top in
    stack_named s t _ all.locals (λ x q. subst AllNamed (limited_is g.most _ x q) (named_both s.stack _ all.stack (named_get s.locals k all.locals, tt)))
    (then_some (accepts w h) (with_stack s (limited g.most (s.stack ++ h ∷ []))) t e).1
step_named g (stores k w) s t ground named all e =
    let h = last s.stack in
    stack_named (record { locals = put_local k h s.locals; stack = s.stack }) t _
    (put_named k h s.locals all.locals (named_get (upper 1 s.stack) 0 (named_drop (length s.stack - 1) s.stack all.stack)))
    (λ x q. subst AllNamed (limited_is g.most _ x q) (named_take (length s.stack - 1) s.stack all.stack))
    (then_some (accepts w h) _ t e).1
step_named g (counts k) s t ground named all e =
    stack_named s t _ all.locals (λ x q. subst AllNamed (limited_is g.most _ x q) all.stack) (then_some (is_int (get_or s.locals k top)) _ t e).1
step_named g picks s t ground named all e =
    let array = get_or (upper 2 s.stack) 0 top in
    stack_named s t _ all.locals
    (λ x q. subst AllNamed (limited_is g.most _ x q) (named_both (below 2 s.stack) _ (named_take (length s.stack - 2) s.stack all.stack)
    (element_named array (named_get (upper 2 s.stack) 0 (named_drop (length s.stack - 2) s.stack all.stack)), tt)))
    (then_some (is_array array && is_int (get_or (upper 2 s.stack) 1 top)) (with_stack s (limited g.most (below 2 s.stack ++ element_of array ∷ []))) t e).1
step_named g makes s t ground named all e =
    stack_named (record { locals = map (without g.place) s.locals; stack = s.stack }) t _
    (named_map (without g.place) (λ h p. named_one (is_made g.place h) top h tt p) s.locals all.locals)
    (λ x q. subst AllNamed (limited_is g.most _ x q) (named_both s.stack _ all.stack (tt, tt)))
    (else_some (list_any (is_made g.place) s.stack) _ t e)
step_named g (builds f) s t ground named all e =
    let n = suc (length f.wanted) in
    let old = get_or (upper n s.stack) 0 top in
    built_named g.most old (below n s.stack) f.given (class_built g old) s t (λ name is. class_named g old name ground is) named
    (named_take (length s.stack - n) s.stack all.stack) all
    (then_some (accepts_all (wants.Anything ∷ f.wanted) (upper n s.stack)) _ t e).1
step_named g fails s t ground named all e = absurd (none-some t e)

-- ---- the table

named_gives : Gives → Bool
named_gives (kind (object name)) = false
named_gives g = true

named_form : StackEffect → Bool
named_form f = list_all named_gives f.given

named_row : Row → Bool
named_row r = list_all named_form r.forms

gives_fact : (g : Gives) → named_gives g ≡ true → GivesNamed g
unfolding named_gives
gives_fact (kind (object name)) e = absurd (true≢false (sym e))
gives_fact g e = tt

abbrev RowNamed : Row → Type 0
RowNamed r = AllByRecursion FormNamed r.forms

table_named : AllByRecursion RowNamed table
unfolding table named_row named_form named_gives
table_named = all_of named_row RowNamed (λ r e. all_of named_form FormNamed (λ f e. all_of named_gives GivesNamed gives_fact f.given e) r.forms e) table refl

find_named : (op : ℕ) (rows : List Row) → AllByRecursion RowNamed rows → AllByRecursion FormNamed (find op rows)
find_named op [] all = tt
find_named op (r ∷ rows) all = by (nat_le r.first op && nat_le op r.last) all.0 (find_named op rows all.1)
  where
    by : (t : Bool) → AllByRecursion FormNamed r.forms → AllByRecursion FormNamed (find op rows)
        → AllByRecursion FormNamed (if t then r.forms else find op rows)
    by true here later = here
    by false here later = later

forms_named : (op : ℕ) → AllByRecursion FormNamed (forms_at op)
unfolding forms_at
forms_named op = find_named op table table_named

-- ---- types of the language

pub type_named : (type : FieldType) → IsText (field_text type) → IsNamed (held_of type)
type_named (Object name) t = text_front name (59 ∷ []) (text_rest 76 (name ++ 59 ∷ []) t)
type_named (Array component) t = t
type_named type t = tt

pub types_named : (types : List FieldType) (rest : List ℕ) → IsText (flat_map field_text types ++ rest) → AllNamed (map held_of types)
types_named [] rest t = tt
types_named (type ∷ types) rest t =
    let front = text_front (field_text type ++ flat_map field_text types) rest t in (
      type_named type (text_front (field_text type) (flat_map field_text types) front),
      types_named types [] (subst IsText (sym (append-nil (flat_map field_text types))) (text_behind (field_text type) (flat_map field_text types) front)),
    )

-- the types of a method's descriptor
pub record TypesNamed (type : MethodType) : Type 0 where
  pub parameters : AllNamed (map held_of type.parameters)
  pub returns : (r : FieldType) → type.returns ≡ Some r → IsNamed (held_of r)

pub method_named : (desc : List ℕ) → IsText desc → IsMethodDescriptor desc → TypesNamed (method_type_in desc)
method_named desc t is =
    let type = is.0 in
    let spelled = text_rest 40 _ (subst IsText is.1.spelled t) in
    let returned = text_rest 41 _ (text_behind (flat_map field_text type.parameters) (41 ∷ return_text type.returns) spelled) in
    subst TypesNamed (sym (method_again desc type is.1)) (record {
      parameters = types_named type.parameters (41 ∷ return_text type.returns) spelled;
      returns = λ r same. type_named r (subst (λ (o : Option FieldType). IsText (return_text o)) same returned);
    })

-- ---- what is used

-- the name of a class, and the descriptor of anything else
abbrev pub UseNamed : What → Type 0
UseNamed (whats.Field class name desc) = IsText desc
UseNamed (whats.Method class name desc) = IsText desc
UseNamed (whats.Call name desc) = IsText desc
UseNamed (whats.Class name) = IsText name
UseNamed (whats.Computed name desc bootstrap) = IsText desc
UseNamed what = Unit {0}

if_named : (t : Bool) (x y : Step) → StepNamed x → StepNamed y → StepNamed (if t then x else y)
if_named true x y p q = p
if_named false x y p q = q

field_named : (op : ℕ) (desc : List ℕ) → IsText desc → IsFieldDescriptor desc → StepNamed (field_step op (field_type_in desc))
field_named op desc t is =
    let type = is.0 in
    let named = type_named type (subst IsText is.1.spelled t) in
    subst (λ (o : Option FieldType). StepNamed (field_step op o)) (sym (field_again desc type is.1))
    (if_named (nat_eq op opcode.getstatic) _ _ ((named, tt), tt)
    (if_named (nat_eq op opcode.putstatic) _ _ (tt, tt) (if_named (nat_eq op opcode.getfield) _ _ ((named, tt), tt) (tt, tt))))

form_named : (type : MethodType) → TypesNamed type → FormNamed (call_form type)
form_named type named = by type.returns refl
  where
    by : (o : Option FieldType) → type.returns ≡ o → FormNamed (record { wanted = (call_form type).wanted; given = result_of o })
    by None is = tt
    by (Some r) is = (named.returns r is, tt)

method_step_named : (op : ℕ) (name : List ℕ) (type : MethodType) → TypesNamed type → StepNamed (method_step op name type)
method_step_named op name type named =
    if_named (nat_eq op opcode.invokestatic) _ _ (form_named type named, tt)
    (if_named (nat_eq op opcode.invokespecial && bytes_eq name (codes "<init>")) _ _ (form_named type named) (form_named type named, tt))

member_named : (op : ℕ) (what : What) → UseNamed what → IsMemberFor op what → StepNamed (member_step op (Some what))
member_named op (whats.Field class name desc) t (inl is) = if_named (nat_le op opcode.putfield) _ _ (field_named op desc t is.1) tt
member_named op (whats.Field class name desc) t (inr is) = absurd is.1
member_named op (whats.Method class name desc) t (inl is) = absurd is.1
member_named op (whats.Method class name desc) t (inr is) =
    if_named (nat_le op opcode.putfield) _ _ tt (method_step_named op name (method_type_in desc) (method_named desc t is.1))
member_named op other t is = tt

interface_named : (what : What) → UseNamed what → IsMethod what → StepNamed (interface_step (Some what))
interface_named (whats.Method class name desc) t is = (form_named (method_type_in desc) (method_named desc t is), tt)
interface_named other t is = absurd is

dynamic_named : (what : What) → UseNamed what → IsCall what → StepNamed (dynamic_step (Some what))
dynamic_named (whats.Call name desc) t is = (form_named (method_type_in desc) (method_named desc t is), tt)
dynamic_named other t is = absurd is

computed_named : (desc : List ℕ) → IsText desc → IsFieldDescriptor desc → StepNamed (computed_step (field_type_in desc))
computed_named desc t is =
    subst (λ (o : Option FieldType). StepNamed (computed_step o)) (sym (field_again desc is.0 is.1))
    ((type_named is.0 (subst IsText is.1.spelled t), tt), tt)

abbrev IsDescribed : What → Type 0
IsDescribed (whats.Computed name desc bootstrap) = IsFieldDescriptor desc
IsDescribed what = Unit {0}

constant_named : (what : What) → UseNamed what → IsDescribed what → StepNamed (constant_step (Some what))
constant_named (whats.Int value) t is = ((tt, tt), tt)
constant_named (whats.Long value) t is = ((tt, tt), tt)
constant_named whats.Float t is = ((tt, tt), tt)
constant_named whats.Double t is = ((tt, tt), tt)
constant_named whats.Text t is = ((record { short = omega arith; are = bytes_by (codes "java/lang/String") refl }, tt), tt)
constant_named (whats.Class name) t is = ((record { short = omega arith; are = bytes_by (codes "java/lang/Class") refl }, tt), tt)
constant_named whats.MethodKind t is = ((record { short = omega arith; are = bytes_by (codes "java/lang/invoke/MethodType") refl }, tt), tt)
constant_named whats.Handle t is = ((record { short = omega arith; are = bytes_by (codes "java/lang/invoke/MethodHandle") refl }, tt), tt)
constant_named (whats.Computed name desc bootstrap) t is = computed_named desc t is
constant_named other t is = tt

one_slot_described : (what : What) → IsOneSlotConstant what → IsDescribed what
one_slot_described (whats.Computed name desc bootstrap) is = is.0
one_slot_described what is = tt

wide_described : (what : What) → IsTwoSlotConstant what → IsDescribed what
wide_described (whats.Computed name desc bootstrap) is = two_slots_described desc is
wide_described what is = tt

array_bytes : (name : List ℕ) → AreBytes name → AreBytes (array_of name)
array_bytes name are = by (is_array_class name)
  where
    by : (t : Bool) → AreBytes (if t then 91 ∷ name else 91 ∷ 76 ∷ (name ++ 59 ∷ []))
    by true = (omega arith, are)
    by false = (omega arith, (omega arith, bytes_both name (59 ∷ []) are (omega arith, tt)))

array_named : (name : List ℕ) → IsText name → StepNamed (array_step name)
array_named name t = by (nat_le (length (array_of name)) 65535) refl
  where
    by : (fits : Bool) → nat_le (length (array_of name)) 65535 ≡ fits
        → StepNamed (if fits then moves (record { wanted = wants.Int ∷ []; given = kind (object (array_of name)) ∷ [] } ∷ []) else fails)
    by true is = ((record { short = leb-true (length (array_of name)) 65535 is; are = array_bytes name t.are }, tt), tt)
    by false is = tt

class_step_named : (op : ℕ) (what : What) → UseNamed what → IsClass what → StepNamed (class_step op (Some what))
class_step_named op (whats.Class name) t is =
    if_named (nat_eq op opcode.new) _ _ tt
    (if_named (nat_eq op opcode.anewarray) _ _ (array_named name t) (if_named (nat_eq op opcode.checkcast) _ _ ((t, tt), tt) ((tt, tt), tt)))
class_step_named op other t is = absurd is

multi_named : (what : What) (dims : ℕ) → UseNamed what → IsClass what → StepNamed (multi_step (Some what) dims)
multi_named (whats.Class name) dims t is = ((t, tt), tt)
multi_named other dims t is = absurd is

letter_byte : (elem : ℕ) → element_letter elem < 256
letter_byte elem = by (nat_eq elem 4) (nat_eq elem 5) (nat_eq elem 6) (nat_eq elem 7) (nat_eq elem 8) (nat_eq elem 9) (nat_eq elem 10)
  where
    by : (a b c d e f g : Bool)
        → (if a then 90 else if b then 67 else if c then 70 else if d then 68 else if e then 66 else if f then 83 else if g then 73 else 74) < 256
    by true b c d e f g = omega arith
    by false true c d e f g = omega arith
    by false false true d e f g = omega arith
    by false false false true e f g = omega arith
    by false false false false true f g = omega arith
    by false false false false false true g = omega arith
    by false false false false false false true = omega arith
    by false false false false false false false = omega arith

simple_named : (returns : Option FieldType) (op : ℕ) → StepNamed (simple_step returns op)
simple_named returns op =
    if_named (nat_eq op opcode.aaload) _ _ tt
    (if_named (is_return op) _ _ (if_named (nat_eq op (return_op returns)) _ _ (forms_named op) tt) (forms_named op))

module _ (uses : List Use) (returns : Option FieldType) (named : (place : ℕ) (what : What) → what_used uses place ≡ Some what → UseNamed what) where
  by_use : (place : ℕ) (Fact : What → Type 0) (step : Option What → Step) → HasUse uses place Fact
      → ((what : What) → UseNamed what → Fact what → StepNamed (step (Some what))) → StepNamed (step (what_used uses place))
  by_use place Fact step u each = subst (λ (o : Option What). StepNamed (step o)) (sym u.used) (each u.what (named place u.what u.used) u.fact)

  pub insn_named : (insn : Insn) → ((place : ℕ) → pool_place insn ≡ Some place → HasUse uses place (Suits insn)) → StepNamed (step_of uses returns insn)
  insn_named (insns.Simple op) used = simple_named returns op
  insn_named (insns.Push op value) used = forms_named op
  insn_named (insns.Local op slot) used = if_named (nat_lt op opcode.istore) _ _ tt tt
  insn_named (insns.Inc slot n) used = tt
  insn_named (insns.Constant place) used =
      by_use place IsOneSlotConstant constant_step (used place refl) (λ what t is. constant_named what t (one_slot_described what is))
  insn_named (insns.Constant2 place) used =
      by_use place IsTwoSlotConstant constant_step (used place refl) (λ what t is. constant_named what t (wide_described what is))
  insn_named (insns.Member op place) used = by_use place (IsMemberFor op) (member_step op) (used place refl) (member_named op)
  insn_named (insns.Interface place count) used = by_use place IsMethod interface_step (used place refl) interface_named
  insn_named (insns.Dynamic place) used = by_use place IsCall dynamic_step (used place refl) dynamic_named
  insn_named (insns.OfClass op place) used = by_use place IsClass (class_step op) (used place refl) (class_step_named op)
  insn_named (insns.NewArray elem) used = ((record { short = omega arith; are = (omega arith, (letter_byte elem, tt)) }, tt), tt)
  insn_named (insns.Multi place dims) used = by_use place IsClass (λ o. multi_step o dims) (used place refl) (λ what t is. multi_named what dims t is)
  insn_named (insns.Jump op to) used = forms_named op
  insn_named (insns.Table low default arms) used = forms_named opcode.tableswitch
  insn_named (insns.Lookup default arms) used = forms_named opcode.lookupswitch
