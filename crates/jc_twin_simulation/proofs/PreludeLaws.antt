-- Local variables of a frame that fits: in front of the one that holds the array no long begins.
use Rattle.std.proofs.Common.{◌≡◌, ℕ, zero, suc, ◌+◌, ◌-◌, Bool, true, false, List, [], ◌∷◌, ◌++◌, length, map, replicate, Option, Some, None, refl, sym, ap, ◌∙◌, subst₂, arith, add-one, if◌then◌else◌}
use Rattle.std.specs.Prelude.{⊤, codes, bytes_eq, slice_get, slice_index_or}
use Rattle.std.specs.List.{AllByRecursion}
use Rattle.std.proofs.lemmas.Bool.{true≢false}
use Rattle.std.proofs.lemmas.Option.{none-some, same_Some, slice_get-get_or, slice_get_within}
use Rattle.jc_bytes.specs.Descriptor.{FieldType, Byte, Char, Double, Float, Int, Long, Short, Boolean, Object, Array}
use Rattle.jc_methods.specs.DescriptorTypes.{method_type_in}
use Rattle.jc_methods.specs.VerificationTypes.{VerificationType}
use Rattle.jc_methods.specs.VerificationTypes as verification
use Rattle.jc_methods.specs.EntryState.{spread, held_of, is_static, arguments, entry_of}
use Rattle.jc_methods.specs.WellMade.{TakeSlots}
use Rattle.jc_methods.proofs.EntryLaws.{argument_slots, locals_count}
use Rattle.jc_programs.specs.declared.program.Program.{Program}
use Rattle.jc_programs.specs.declared.run_end.Entry.{Entry}
use Rattle.jc_emit.specs.Seen.{with_more}
use Rattle.jc_machine_model.specs.Values.{Value, int, long, is_pair}
use Rattle.jc_machine_model.specs.Locals.{is_pair_there}
use Rattle.jc_machine_model.specs.Fits.{IsInt, IsLong, IsReference, IsInSlot, AreInSlots, KeepsPairs}
use Rattle.jc_twin_simulation.specs.Sides.{Side, IsSide}

-- ---- values of a type

-- it is the type of a value
abbrev pub IsHeld : VerificationType → Type 0
IsHeld verification.top = ⊥
IsHeld h = ⊤

narrow_value : (v : Value) → (IsLong v → ⊥) → is_pair v ≡ false
narrow_value (long x) off = absurd (off tt)
narrow_value v off = refl

int_no_long : (v : Value) → IsInt v → IsLong v → ⊥
int_no_long (int x) h k = k
int_no_long v h k = h

reference_no_long : (v : Value) → IsReference v → IsLong v → ⊥
reference_no_long (long x) h k = true≢false (sym h)
reference_no_long v h k = k

-- of a type that takes one local variable
one_narrow : (h : VerificationType) → IsHeld h → verification.is_pair h ≡ false → (l : Option Value) → IsInSlot l h → is_pair_there l ≡ false
one_narrow verification.top n e l i = absurd n
one_narrow verification.int n e (Some v) i = narrow_value v (int_no_long v i)
one_narrow verification.null n e (Some v) i = narrow_value v (reference_no_long v i)
one_narrow verification.uninit_this n e (Some v) i = narrow_value v (reference_no_long v i)
one_narrow (verification.object name) n e (Some v) i = narrow_value v (reference_no_long v i)
one_narrow (verification.uninit at) n e (Some v) i = narrow_value v (reference_no_long v i)
one_narrow verification.long n e (Some v) i = absurd (true≢false e)
one_narrow verification.float n e (Some v) i = absurd i
one_narrow verification.double n e (Some v) i = absurd i
one_narrow h n e None i = refl

long_there : (v : Value) → IsLong v → is_pair v ≡ true
long_there (long x) h = refl
long_there v h = absurd h

-- of a type that takes two it is a long
pair_there : (h : VerificationType) → verification.is_pair h ≡ true → (l : Option Value) → IsInSlot l h → (v : Value) × (l ≡ Some v) × (is_pair v ≡ true)
pair_there verification.long e (Some v) i = (v, refl, long_there v i)
pair_there verification.long e None i = absurd i
pair_there verification.double e (Some v) i = absurd i
pair_there verification.double e None i = absurd i
pair_there h e l i = absurd (true≢false (sym e))

-- ---- the end of the arguments

tail_pairs : (l : Option Value) (ls : List (Option Value)) → KeepsPairs (l ∷ ls) → KeepsPairs ls
tail_pairs l ls h k v e p =
    let same : suc (k + 1) ≡ suc k + 1 = omega arith in
    ap (slice_get (l ∷ ls)) same ∙ h (suc k) v e p

-- behind a long the local variable is empty
behind_pair : (h : VerificationType) → verification.is_pair h ≡ true → (l m : Option Value) (ls : List (Option Value)) → IsInSlot l h → KeepsPairs (l ∷ m ∷ ls)
    → is_pair_there m ≡ false
behind_pair h e l m ls i pairs =
    let p = pair_there h e l i in
    ap is_pair_there (same_Some m None (pairs 0 p.0 (ap Some p.1) p.2))

abbrev Narrow : List VerificationType → List VerificationType → Type 0
Narrow front rest =
    (ls : List (Option Value)) → AreInSlots ls (front ++ rest) → KeepsPairs ls → (k : ℕ) → suc k ≡ length front → is_pair_there (slice_index_or ls k None) ≡ false

one_more : (h : VerificationType) → IsHeld h → verification.is_pair h ≡ false → (front rest : List VerificationType) → Narrow front rest → Narrow (h ∷ front) rest
one_more h n e front rest ih [] are pairs k size = absurd are
one_more h n e front rest ih (l ∷ ls) are pairs zero size = one_narrow h n e l are.0
one_more h n e front rest ih (l ∷ ls) are pairs (suc k) size = ih ls are.1 (tail_pairs l ls pairs) k (omega (arith, size))

two_more : (h : VerificationType) → verification.is_pair h ≡ true → (front rest : List VerificationType) → Narrow front rest → Narrow (h ∷ verification.top ∷ front) rest
two_more h e front rest ih [] are pairs k size = absurd are
two_more h e front rest ih (l ∷ []) are pairs k size = absurd are.1
two_more h e front rest ih (l ∷ m ∷ ls) are pairs zero size = absurd (omega (arith, size))
two_more h e front rest ih (l ∷ m ∷ ls) are pairs (suc zero) size = behind_pair h e l m ls are.0 pairs
two_more h e front rest ih (l ∷ m ∷ ls) are pairs (suc (suc k)) size = ih ls are.1.1 (tail_pairs m ls (tail_pairs l (m ∷ ls) pairs)) k (omega (arith, size))

none_narrow : (rest : List VerificationType) → Narrow [] rest
none_narrow rest ls are pairs k size = absurd (omega (arith, size))

-- no long begins in the last local variable of the values
pub ends_narrow : (values rest : List VerificationType) → AllByRecursion IsHeld values → Narrow (spread values) rest
ends_narrow [] rest held = none_narrow rest
ends_narrow (h ∷ values) rest held = by (verification.is_pair h) refl (ends_narrow values rest held.1)
  where
    by : (b : Bool) → verification.is_pair h ≡ b → Narrow (spread values) rest
        → Narrow ((if b then h ∷ verification.top ∷ [] else h ∷ []) ++ spread values) rest
    by true e ih = two_more h e (spread values) rest ih
    by false e ih = one_more h held.0 e (spread values) rest ih

-- ---- arguments

type_held : (type : FieldType) → IsHeld (held_of type)
type_held Byte = tt
type_held Char = tt
type_held Double = tt
type_held Float = tt
type_held Int = tt
type_held Long = tt
type_held Short = tt
type_held Boolean = tt
type_held (Object name) = tt
type_held (Array component) = tt

types_held : (types : List FieldType) → AllByRecursion IsHeld (map held_of types)
types_held [] = tt
types_held (type ∷ types) = (type_held type, types_held types)

pub arguments_held : (owner name desc : List ℕ) (flags : ℕ) → AllByRecursion IsHeld (arguments owner name desc flags)
arguments_held owner name desc flags = by (is_static flags) (bytes_eq name (codes "<init>"))
  where
    by : (s i : Bool) → AllByRecursion IsHeld
        ((if s then [] else (if i then verification.uninit_this else verification.object owner) ∷ []) ++ map held_of (method_type_in desc).parameters)
    by true i = types_held (method_type_in desc).parameters
    by false true = (tt, types_held (method_type_in desc).parameters)
    by false false = (tt, types_held (method_type_in desc).parameters)

-- ---- how many there are

pub slots_count : (ls : List (Option Value)) (types : List VerificationType) → AreInSlots ls types → length ls ≡ length types
slots_count [] [] are = refl
slots_count (l ∷ ls) (h ∷ types) are = ap suc (slots_count ls types are.1)
slots_count [] (h ∷ types) are = absurd are
slots_count (l ∷ ls) [] are = absurd are

-- ---- in front of a value

-- where a value stands no long begins in front of it
pub value_apart : (ls : List (Option Value)) (k : ℕ) (v : Value) → KeepsPairs ls → slice_get ls (suc k) ≡ Some (Some v)
    → is_pair_there (slice_index_or ls k None) ≡ false
value_apart ls k v pairs here =
    let within = slice_get_within ls (suc k) (Some v) here in
    by (slice_index_or ls k None) (slice_get-get_or ls k None (omega (arith, within)))
  where
    none_value : Some None ≡ Some (Some v) → ⊥
    none_value e = none-some v (same_Some None (Some v) e)

    by_pair : (x : Value) → slice_get ls k ≡ Some (Some x) → (b : Bool) → is_pair x ≡ b → is_pair x ≡ false
    by_pair x e true p = absurd (none_value (sym (pairs k x e p) ∙ ap (slice_get ls) (add-one k) ∙ here))
    by_pair x e false p = p

    by : (l : Option Value) → slice_get ls k ≡ Some l → is_pair_there l ≡ false
    by None e = refl
    by (Some x) e = by_pair x e (is_pair x) refl

-- ---- the state in which a twin begins

module _ (p p' : Program) (sides : Entry → Side) (m : Entry) (side : IsSide p p' m (sides m)) (v : ℕ) (e : (sides m).slot ≡ Some v) where
  abbrev t : Side
  t = sides m

  abbrev values : List VerificationType
  values = arguments t.twin.owner t.twin.name t.twin.desc t.twin.flags

  size : length (spread values) ≡ v
  size =
      argument_slots t.twin.owner t.twin.name t.twin.desc t.twin.flags t.body.arg_slots
      (subst₂ (λ f d. TakeSlots f d t.body.arg_slots) (sym side.same.flags) (sym side.same.desc) side.well.arguments)
      ∙ sym (side.changed v e).slot

  -- the local variable of the array is there
  pub array_there : (ls : List (Option Value)) → AreInSlots ls (entry_of t.twin).locals → slice_get ls v ≡ Some (slice_index_or ls v None)
  array_there ls are =
      let more : t.twin.max_locals ≡ t.body.max_locals + 1 = side.max_locals ∙ ap (λ s. with_more s 1 t.body.max_locals) e in
      let slot = (side.changed v e).slot in
      let fits = side.well.arguments_fit in
      let short = size in
      let count = locals_count t.twin.max_locals values (omega (arith, more, slot, fits, short)) in
      let all = slots_count ls (entry_of t.twin).locals are in
      slice_get-get_or ls v None (omega (arith, more, slot, fits, count, all))

  -- and no long begins in front of it
  pub array_apart : (ls : List (Option Value)) → AreInSlots ls (entry_of t.twin).locals → KeepsPairs ls → (k : ℕ) → v ≡ suc k
      → is_pair_there (slice_index_or ls k None) ≡ false
  array_apart ls are pairs k q =
      ends_narrow values (replicate (t.twin.max_locals - length (spread values)) verification.top)
      (arguments_held t.twin.owner t.twin.name t.twin.desc t.twin.flags) ls are pairs k (sym (size ∙ q))
