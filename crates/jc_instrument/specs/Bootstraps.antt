-- Whether one more bootstrap method can be put behind those of a class (JVM Specification 4.7.23).
use Rattle.std.specs.Prelude.{◌≡◌, ◌⊎◌, ℕ, ◌≤◌, List, [], ◌∷◌, length, Option, Some, None, Contains}
use Rattle.jc_pool.specs.Lookup.{number_of}
use Rattle.jc_pool.specs.Pool.{PoolValue}
use Rattle.jc_bootstraps.specs.Bootstraps.{Bootstrap, bootstraps}

-- ---- bootstrap methods that name nothing

-- one of these places is at or above the count of the pool
abbrev pub SomePast : (count : ℕ) → List ℕ → Type 0
SomePast count places = (place : ℕ) × Contains places place × (count ≤ place)

-- a bootstrap method names such a place, as its handle or an argument
abbrev pub NamesPast : (count : ℕ) → Bootstrap → Type 0
NamesPast count b = (count ≤ b.handle) ⊎ SomePast count b.arguments

abbrev pub SomeNamesPast : (count : ℕ) → List Bootstrap → Type 0
SomeNamesPast count entries = (b : Bootstrap) × Contains entries b × NamesPast count b

-- the Dynamic or InvokeDynamic entry at this place has a number at or above the count, whatever it names beside (JVM Specification
-- 4.4.10)
pub record AsksPastAt (pool : PoolValue) (count place : ℕ) : Type 0 where
  pub number : ℕ
  pub number_is : number_of pool place ≡ Some number
  pub past : count ≤ number

-- an entry of the pool has a number at or above the count
abbrev pub AsksPast : PoolValue → (count : ℕ) → Type 0
AsksPast pool count = (place : ℕ) × AsksPastAt pool count place

-- one of these names a place that isn't there, or an entry of the pool asks for one that isn't there
abbrev pub NamesNothing : PoolValue → List Bootstrap → Type 0
NamesNothing pool entries = SomeNamesPast (length pool) entries ⊎ AsksPast pool (length entries)

-- ---- one more

-- behind these none can be put, by the place of the refusal: one names nothing; or else no number is left
abbrev pub TakesNoMore : PoolValue → List Bootstrap → (Full : Type 0) → (place : ℕ) → Type 0
TakesNoMore pool entries Full place =
    (NamesNothing pool entries × (place ≡ 0)) ⊎ ((NamesNothing pool entries → ⊥) × Full × (place ≡ 65536))

-- No bootstrap method can be put behind those of a class with so many attributes, of which those of their name hold these: there are
-- several; or it isn't of its form; or it names nothing, or is full; or there is none, and no number is left for one more attribute
-- (JVM Specification 4.1, 4.7.23).
abbrev pub TakesNoBootstrap : PoolValue → (attributes : ℕ) → List (List ℕ) → (place : ℕ) → Type 0
TakesNoBootstrap pool attributes [] place = TakesNoMore pool [] (attributes ≡ 65535) place
TakesNoBootstrap pool attributes (body ∷ []) place =
    (((entries : List Bootstrap) → bootstraps.Text body entries → ⊥) × (place ≡ 0))
    ⊎ ((entries : List Bootstrap) × bootstraps.Text body entries × TakesNoMore pool entries (length entries ≡ 65535) place)
TakesNoBootstrap pool attributes (body ∷ other ∷ bodies) place = place ≡ 0

-- ---- what the steps answer

-- The bootstrap methods of a class whose attributes of their name hold these: none where there is no such attribute.
abbrev pub AreBootstraps : List (List ℕ) → List Bootstrap → Type 0
AreBootstraps [] entries = entries ≡ []
AreBootstraps (body ∷ []) entries = bootstraps.Text body entries
AreBootstraps (body ∷ other ∷ bodies) entries = ⊥

-- no number is left for one more bootstrap method behind so many, or for the attribute that would hold it
abbrev pub IsFullBy : (attributes : ℕ) → List (List ℕ) → (count : ℕ) → Type 0
IsFullBy attributes [] count = attributes ≡ 65535
IsFullBy attributes (body ∷ bodies) count = count ≡ 65535

-- what stands first in the list of what attributes of the name hold
abbrev pub IsFirstBody : List (List ℕ) → Option (List ℕ) → Type 0
IsFirstBody [] first = first ≡ None
IsFirstBody (body ∷ bodies) first = first ≡ Some body
