-- What an instruction does to the types of local variables and of the stack (JVM Specification 4.10.1.9).
use Rattle.std.specs.Prelude.{ℕ, zero, suc, ◌+◌, ◌-◌, ◌&&◌, ◌||◌, Bool, true, false, List, [], ◌∷◌, ◌++◌, length, map, take, drop, slice_index_or}
use Rattle.std.specs.Prelude.{slice_set, Option, Some, None, nat_le, nat_eq, if◌then◌else◌}
use Rattle.std.specs.List.{list_any}
use Rattle.jc_methods.specs.VerificationTypes.{VerificationType, top, null, uninit_this, object, uninit, TypeState, is_pair, slots}
use Rattle.jc_kinds_after.specs.declared.want.Want.{Want}
use Rattle.jc_kinds_after.specs.declared.want.Want.TheVariants as wants
use Rattle.jc_kinds_after.specs.Wants.{is_int, accepts, accepts_all}

-- ---- steps

-- what an instruction leaves on the stack: a value of this type, or the operand with this number, the deepest 0
pub data Gives : Type 0 where
  kind : VerificationType → Gives
  item : ℕ → Gives

-- the operands that are taken from the stack, the top one last, and what is left in their place
pub record StackEffect : Type 0 where
  pub wanted : List Want
  pub given : List Gives

-- an instruction, by what it does to types
pub data Step : Type 0 where
  -- to the stack alone, by the first form that fits
  moves : List StackEffect → Step
  -- pushes a local variable
  loads : ℕ → Want → Step
  -- pops into a local variable
  stores : ℕ → Want → Step
  -- adds to a local variable
  counts : ℕ → Step
  -- pushes an element of an array of references
  picks : Step
  -- pushes a new object, before its constructor is called
  makes : Step
  -- calls the constructor of an object, by the form of the other operands and of the result
  builds : StackEffect → Step
  -- has no state after it
  fails : Step

-- what else the state after an instruction depends on
pub record Ground : Type 0 where
  -- how many slots the stack has
  pub most : ℕ
  -- the instruction's number
  pub place : ℕ
  -- the class whose method this is
  pub owner : List ℕ
  -- the class of the objects that the `new` with this number makes
  pub class_at : ℕ → List ℕ

-- ---- the stack

-- all but the n values on top, and these
abbrev pub below : ℕ → List VerificationType → List VerificationType
below n stack = take (length stack - n) stack

abbrev pub upper : ℕ → List VerificationType → List VerificationType
upper n stack = drop (length stack - n) stack

abbrev pub last : List VerificationType → VerificationType
last stack = slice_index_or (upper 1 stack) 0 top

-- the stack, where it has slots enough; a long or a double takes two
abbrev pub limited : ℕ → List VerificationType → Option (List VerificationType)
limited most stack = if nat_le (slots stack) most then Some stack else None

abbrev pub given_of : List VerificationType → Gives → VerificationType
given_of operands (kind h) = h
given_of operands (item k) = slice_index_or operands k top

-- no operand is missing or of another kind
abbrev pub has_form : StackEffect → List VerificationType → Bool
has_form f stack = accepts_all f.wanted (upper (length f.wanted) stack)

abbrev pub moved : StackEffect → List VerificationType → List VerificationType
moved f stack = below (length f.wanted) stack ++ map (given_of (upper (length f.wanted) stack)) f.given

abbrev pub moved_by : ℕ → List StackEffect → List VerificationType → Option (List VerificationType)
moved_by most [] stack = None
moved_by most (f ∷ fs) stack = if has_form f stack then limited most (moved f stack) else moved_by most fs stack

abbrev pub with_stack : TypeState → Option (List VerificationType) → Option TypeState
with_stack s None = None
with_stack s (Some stack) = Some (record s { stack = stack })

-- ---- local variables

-- half of a long or a double is no value
abbrev pub cleared : VerificationType → VerificationType
cleared h = if is_pair h then top else h

-- a long or a double that began one local variable before
abbrev pub clear_before : ℕ → List VerificationType → List VerificationType
clear_before zero locals = locals
clear_before (suc k) locals = slice_set locals k (cleared (slice_index_or locals k top))

-- the second local variable of a long or a double
abbrev pub put_second : VerificationType → ℕ → List VerificationType → List VerificationType
put_second h k locals = if is_pair h then slice_set locals (k + 1) top else locals

abbrev pub put_local : ℕ → VerificationType → List VerificationType → List VerificationType
put_local k h locals = put_second h k (slice_set (clear_before k locals) k h)

abbrev pub loaded : ℕ → ℕ → Want → TypeState → Option TypeState
loaded most k want s = let h = slice_index_or s.locals k top in
    if accepts want h then with_stack s (limited most (s.stack ++ h ∷ [])) else None

abbrev pub stored : ℕ → ℕ → Want → TypeState → Option TypeState
stored most k want s = let h = last s.stack in
    if accepts want h then with_stack (record s { locals = put_local k h s.locals }) (limited most (below 1 s.stack)) else None

abbrev pub counted : ℕ → ℕ → TypeState → Option TypeState
counted most k s = if is_int (slice_index_or s.locals k top) then with_stack s (limited most s.stack) else None

-- ---- elements of arrays of references

-- an array whose elements are arrays or objects: its name begins with `[[` or `[L` (JVM Specification 4.3.2, 4.4.1)
abbrev pub is_array_name : List ℕ → Bool
is_array_name (a ∷ b ∷ rest) = nat_eq a 91 && (nat_eq b 91 || nat_eq b 76)
is_array_name _ = false

abbrev pub is_array : VerificationType → Bool
is_array null = true
is_array (object name) = is_array_name name
is_array _ = false

-- the class of the elements: what stands behind the `[`, without the `L` and the `;` of an object's descriptor
abbrev pub element_name : List ℕ → List ℕ
element_name (a ∷ b ∷ rest) = if nat_eq b 76 then take (length rest - 1) rest else b ∷ rest
element_name name = name

abbrev pub element_of : VerificationType → VerificationType
element_of (object name) = object (element_name name)
element_of h = h

-- an array and an index become an element, which of null is null
abbrev pub picked : ℕ → TypeState → Option TypeState
picked most s = let array = slice_index_or (upper 2 s.stack) 0 top in
    if is_array array && is_int (slice_index_or (upper 2 s.stack) 1 top)
    then with_stack s (limited most (below 2 s.stack ++ element_of array ∷ []))
    else None

-- ---- objects before their constructor

abbrev pub is_made : ℕ → VerificationType → Bool
is_made place (uninit at) = nat_eq place at
is_made place _ = false

-- an older object of the same `new` can't be told from the new one
abbrev pub without : ℕ → VerificationType → VerificationType
without place h = if is_made place h then top else h

abbrev pub made_at : ℕ → ℕ → TypeState → Option TypeState
made_at most place s =
    if list_any (is_made place) s.stack then None
    else with_stack (record s { locals = map (without place) s.locals }) (limited most (s.stack ++ uninit place ∷ []))

-- the types of one object before its constructor
abbrev pub same_new : VerificationType → VerificationType → Bool
same_new (uninit at) h = is_made at h
same_new uninit_this uninit_this = true
same_new _ _ = false

-- the class of the object whose constructor is called: that of its `new`, or the method's
abbrev pub class_built : Ground → VerificationType → Option (List ℕ)
class_built g (uninit at) = Some (g.class_at at)
class_built g uninit_this = Some g.owner
class_built g _ = None

abbrev pub replaced : VerificationType → List ℕ → VerificationType → VerificationType
replaced old name h = if same_new old h then object name else h

abbrev pub built_as : ℕ → VerificationType → List VerificationType → List Gives → Option (List ℕ) → TypeState → Option TypeState
built_as most old rest given None s = None
built_as most old rest given (Some name) s =
    with_stack (record s { locals = map (replaced old name) s.locals }) (limited most (map (replaced old name) rest ++ map (given_of []) given))

-- the object stands below the other operands
abbrev pub built : Ground → StackEffect → TypeState → Option TypeState
built g f s = let n = suc (length f.wanted) in let old = slice_index_or (upper n s.stack) 0 top in
    if accepts_all (wants.Anything ∷ f.wanted) (upper n s.stack)
    then built_as g.most old (below n s.stack) f.given (class_built g old) s
    else None

-- ---- the state after a step, if there is one

-- Whatever the step, there is none where its stack would have more slots than the method's stack has, also where it
-- had more before.
abbrev pub apply : Ground → Step → TypeState → Option TypeState
apply g (moves forms) s = with_stack s (moved_by g.most forms s.stack)
apply g (loads k want) s = loaded g.most k want s
apply g (stores k want) s = stored g.most k want s
apply g (counts k) s = counted g.most k s
apply g picks s = picked g.most s
apply g makes s = made_at g.most g.place s
apply g (builds f) s = built g f s
apply g fails s = None
