-- What is found in a constant pool, and what is put behind its entries (JVM Specification 4.4).
use Rattle.std.specs.Prelude.{◌≡◌, ◌⊎◌, ◌==◌, if◌then◌else◌, ℕ, zero, suc, ◌+◌, ℤ, pos, ◌<◌, ◌≤◌, List, [], ◌∷◌, ◌++◌, length, Option, Some, Result, Err}
use Rattle.jc_bytes.specs.Least.{IsLeast}
use Rattle.jc_bytes.specs.Least as least
use Rattle.jc_bytes.specs.declared.fail.Fail.{Fail}
use Rattle.jc_bytes.specs.declared.fail.Fail.TheVariants as fails
use Rattle.jc_pool.specs.declared.add.PoolFull.{PoolFull}
use Rattle.jc_pool.specs.declared.entry.Entry.{Entry}
use Rattle.jc_pool.specs.declared.entry.Entry.TheVariants as entry
use Rattle.jc_pool.specs.Pool.{PoolValue, slots_of}
use Rattle.jc_pool.specs.Lookup.{utf8_of, class_name_of, string_of, integer_of, long_of, Signature, signature_of, Member, signature, member_of, Handle, handle_of, Computed, computed_of}

-- ---- places

-- the first place at which this is found
abbrev pub IsFirst : {X : Type 0} → (ℕ → Option X) → X → ℕ → Type 0
IsFirst found what place = IsLeast (λ at. found at ≡ Some what) place

-- this is found at no place
abbrev pub IsNowhere : {X : Type 0} → (ℕ → Option X) → X → Type 0
IsNowhere found what = least.IsNowhere (λ at. found at ≡ Some what)

-- ---- entries

-- An entry is put behind the others, at the places that it takes.
pub record IsPut (old new : PoolValue) (e : Entry) (place : ℕ) : Type 0 where
  pub grown : new ≡ old ++ slots_of e
  pub last : place ≡ length old

-- the same, as what is asked for
abbrev pub IsPutAs : PoolValue → Entry → PoolValue → ℕ → Type 0
IsPutAs old e new place = IsPut old new e place

-- A pool in which this is found at the place: the pool itself, where it is found there, and the first such place; else
-- a pool in which it is put.
abbrev pub Adds : {X : Type 0} → (PoolValue → ℕ → Option X) → X → PoolValue → (PoolValue → ℕ → Type 0) → PoolValue → ℕ → Type 0
Adds found what old Put new place =
    (IsFirst (found old) what place × (new ≡ old))
    ⊎ (IsNowhere (found old) what × Put new place)

-- A pool with a text, which stands at the place: the pool itself, where the text stands in it, and the first such
-- place; else a Utf8 entry is put behind the others.
abbrev pub HasUtf8 : PoolValue → List ℕ → PoolValue → ℕ → Type 0
HasUtf8 old text = Adds utf8_of text old (IsPutAs old (entry.Utf8 text))

-- the text is put, where it isn't there, and then the entry that names its place
abbrev pub PutsNaming : PoolValue → List ℕ → (ℕ → Entry) → PoolValue → ℕ → Type 0
PutsNaming old text naming new place =
    (named : PoolValue) × (at : ℕ) × HasUtf8 old text named at × IsPut named new (naming at) place

-- A pool with a class, which stands at the place: the pool itself, where a Class entry of this name stands in it,
-- whatever the place of the name, and the first such place; else the name is put, where it isn't there, and then
-- a Class entry.
abbrev pub HasClass : PoolValue → List ℕ → PoolValue → ℕ → Type 0
HasClass old name = Adds class_name_of name old (PutsNaming old name entry.Class)

-- the same of a string, whose text is put, where it isn't there, and then a String entry
abbrev pub HasString : PoolValue → List ℕ → PoolValue → ℕ → Type 0
HasString old text = Adds string_of text old (PutsNaming old text entry.String)

-- A pool with an int, which stands at the place: the pool itself, where an Integer entry of this value stands in it,
-- and the first such place; else one is put behind the others.
abbrev pub HasInteger : PoolValue → ℤ → PoolValue → ℕ → Type 0
HasInteger old value = Adds integer_of value old (IsPutAs old (entry.Integer value))

-- the same of a long, whose entry takes two places
abbrev pub HasLong : PoolValue → ℤ → PoolValue → ℕ → Type 0
HasLong old value = Adds long_of value old (IsPutAs old (entry.Long value))

-- ---- members

-- the name is put, where it isn't there, then the descriptor, and then a NameAndType entry that names their places
abbrev pub PutsSignature : PoolValue → Signature → PoolValue → ℕ → Type 0
PutsSignature old s new place =
    (named : PoolValue) × (name : ℕ) × HasUtf8 old s.name named name
    × (described : PoolValue) × (desc : ℕ) × HasUtf8 named s.desc described desc
    × IsPut described new (entry.NameAndType name desc) place

-- A pool with a name and a descriptor, which stand at the place: the pool itself, where a NameAndType entry of these
-- texts stands in it, whatever their places, and the first such place; else one is put, behind those texts that aren't there.
abbrev pub HasSignature : PoolValue → Signature → PoolValue → ℕ → Type 0
HasSignature old s = Adds signature_of s old (PutsSignature old s)

-- the entry of a field or a method: its tag is 9 for a field, 10 for a method of a class, and 11 for one of an interface
abbrev pub entry_of_member : ℕ → ℕ → ℕ → Entry
entry_of_member tag class name_and_type =
    if tag == 9 then entry.Fieldref class name_and_type
    else if tag == 10 then entry.Methodref class name_and_type
    else entry.InterfaceMethodref class name_and_type

-- the tags of fields and methods (JVM Specification 4.4, table 4.4-A)
abbrev pub IsMemberTag : ℕ → Type 0
IsMemberTag tag = (9 ≤ tag) × (tag ≤ 11)

-- the class is put, where it isn't there, then the name and the descriptor, and then an entry that names their places
abbrev pub PutsMember : PoolValue → Member → PoolValue → ℕ → Type 0
PutsMember old m new place =
    (classed : PoolValue) × (class : ℕ) × HasClass old m.class classed class
    × (signed : PoolValue) × (name_and_type : ℕ) × HasSignature classed (signature m) signed name_and_type
    × IsPut signed new (entry_of_member m.tag class name_and_type) place

-- A pool with a field or a method, which stands at the place: the pool itself, where an entry of this tag, class, name
-- and descriptor stands in it, whatever the places of these, and the first such place; else the parts that aren't
-- there are put behind the others, and then the entry.
abbrev pub HasMember : PoolValue → Member → PoolValue → ℕ → Type 0
HasMember old m = Adds member_of m old (PutsMember old m)

-- ---- method handles and computed constants

-- the member is put, where it isn't there, and then an entry that names its place
abbrev pub PutsHandle : PoolValue → Handle → PoolValue → ℕ → Type 0
PutsHandle old h new place =
    (named : PoolValue) × (at : ℕ) × HasMember old h.target named at × IsPut named new (entry.MethodHandle h.kind at) place

-- A pool with a method handle, which stands at the place: the pool itself, where a handle of this kind to this member stands in it,
-- whatever the places, and the first such place; else the parts that aren't there are put behind the others, and then the entry
-- (JVM Specification 4.4.8).
abbrev pub HasHandle : PoolValue → Handle → PoolValue → ℕ → Type 0
HasHandle old h = Adds handle_of h old (PutsHandle old h)

-- the kind of a handle that calls a static method (JVM Specification 4.4.8, table 5.4.3.5-A)
abbrev pub calls_static : ℕ
calls_static = 6

-- the handle that calls this static method, which is one of a class
abbrev pub static_handle : (class name desc : List ℕ) → Handle
static_handle class name desc = record { kind = calls_static; target = record { tag = 10; class = class; name = name; desc = desc } }

-- the constant that the bootstrap method with this number gives
abbrev pub bootstrap_constant : ℕ → (name desc : List ℕ) → Computed
bootstrap_constant bootstrap name desc = record { signed = record { name = name; desc = desc }; bootstrap = bootstrap }

-- the name and the descriptor are put, where they aren't there, and then an entry that names their place
abbrev pub PutsComputed : PoolValue → Computed → PoolValue → ℕ → Type 0
PutsComputed old c new place =
    (signed : PoolValue) × (at : ℕ) × HasSignature old c.signed signed at × IsPut signed new (entry.Dynamic c.bootstrap at) place

-- A pool with a constant that a bootstrap method gives, which stands at the place: the pool itself, where a Dynamic entry of this
-- number, name and descriptor stands in it, whatever the places, and the first such place; else the parts that aren't there are put
-- behind the others, and then the entry (JVM Specification 4.4.10).
abbrev pub HasComputed : PoolValue → Computed → PoolValue → ℕ → Type 0
HasComputed old c = Adds computed_of c old (PutsComputed old c)

-- ---- too many entries

-- the pool that is asked for would have this count, which is above the limit (JVM Specification 4.1)
abbrev pub IsTooLong : (PoolValue → ℕ → Type 0) → ℕ → Type 0
IsTooLong Asked count = (grown : PoolValue) × (place : ℕ) × Asked grown place × (length grown ≡ count) × (65535 < count)

-- a refusal names the count that the pool that is asked for would have
abbrev pub RefusesFull : {X : Type 0} → (PoolValue → ℕ → Type 0) → Result X (Fail PoolFull) → Type 0
RefusesFull Asked (Err (fails.Said full)) = IsTooLong Asked full.count
RefusesFull Asked _ = Unit {0}

-- ---- beforehand

-- the pool that is asked for would have it at this place, and this count
abbrev pub WouldStand : (PoolValue → ℕ → Type 0) → (place count : ℕ) → Type 0
WouldStand Asked place count = (grown : PoolValue) × Asked grown place × (length grown ≡ count)

-- the same ints stand at the same places
abbrev pub AreSameInts : PoolValue → PoolValue → Type 0
AreSameInts pool other = (place : ℕ) → integer_of other place ≡ integer_of pool place

-- A pool with so many ints of rising values from this one on, each of which is asked for in turn; and the place of each.
abbrev pub HasIntegers : PoolValue → (first many : ℕ) → PoolValue → List ℕ → Type 0
HasIntegers old first zero new places = (new ≡ old) × (places ≡ [])
HasIntegers old first (suc many) new places =
    (mid : PoolValue) × (place : ℕ) × (others : List ℕ)
    × (places ≡ place ∷ others) × HasInteger old (pos first) mid place × HasIntegers mid (first + 1) many new others

-- the ints would stand at these places in a pool that has this count then
abbrev pub WouldHaveInts : PoolValue → (first many : ℕ) → List ℕ → (count : ℕ) → Type 0
WouldHaveInts old first many places count = (grown : PoolValue) × HasIntegers old first many grown places × (length grown ≡ count)

-- ---- what stays

-- what stood in a pool stands there, and more may stand behind it
abbrev pub Extends : PoolValue → PoolValue → Type 0
Extends old new = (more : PoolValue) × (new ≡ old ++ more)

-- what was found at a place is found there
abbrev pub Keeps : {X : Type 0} → (ℕ → Option X) → (ℕ → Option X) → Type 0
Keeps {X} old new = (what : X) (place : ℕ) → old place ≡ Some what → new place ≡ Some what

-- what was found first at a place is found first there
abbrev pub KeepsFirst : {X : Type 0} → (ℕ → Option X) → (ℕ → Option X) → Type 0
KeepsFirst {X} old new = (what : X) (place : ℕ) → IsFirst old what place → IsFirst new what place

-- one pool at most is asked for, and one place in it
abbrev pub AtMostOne : (PoolValue → ℕ → Type 0) → Type 0
AtMostOne Asked = (new other : PoolValue) (place at : ℕ) → Asked new place → Asked other at → (new ≡ other) × (place ≡ at)
