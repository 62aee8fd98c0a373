-- The bootstrap methods of a class (JVM Specification 4.7.23).
use Rattle.std.specs.Prelude.{◌≡◌, ℕ, ◌+◌, Bool, List, [], ◌∷◌, ◌++◌, map, filter, drop, length, codes, bytes_eq}
use Rattle.byteorder.specs.Endian.{big_bytes}
use Rattle.jc_bytes.specs.Counted.{counted}
use Rattle.jc_bytes.specs.Grammar.{Grammar, nothing}
use Rattle.jc_bytes.specs.ItemForms.{◌>>=◌, number}
use Rattle.jc_pool.specs.Lookup.{utf8_of}
use Rattle.jc_pool.specs.Pool.{PoolValue}
use Rattle.jc_class.specs.ItemReading.{passes}
use Rattle.jc_class.specs.declared.class_file.Attribute.{Attribute}
use Rattle.jc_bootstraps.specs.declared.bootstraps.LastBootstrap.{LastBootstrap}

-- ---- the form

-- one bootstrap method: the places of a method handle and of its arguments, whatever stands there
pub record Bootstrap : Type 0 where
  pub handle : ℕ
  pub arguments : List ℕ

abbrev pub bootstrap : Grammar Bootstrap
bootstrap = do
  handle ← number 2
  arguments ← counted (number 2)
  nothing (record { handle = handle; arguments = arguments })

-- what the attribute BootstrapMethods holds
unfoldable pub bootstraps : Grammar (List Bootstrap)
bootstraps = counted bootstrap

-- ---- the attributes of the name

-- the attribute has this name: the text at the place of its name (JVM Specification 4.7)
abbrev pub has_name : PoolValue → List ℕ → Attribute → Bool
has_name pool name a = passes (λ text. bytes_eq text name) (utf8_of pool a.name)

-- what the attributes of the name BootstrapMethods hold, in their order
abbrev pub bootstrap_bodies : PoolValue → List Attribute → List (List ℕ)
bootstrap_bodies pool attributes = map (λ a. a.body) (filter (has_name pool (codes "BootstrapMethods")) attributes)

-- ---- how many there are, and the last one

-- Each item of the list is what one attribute of the name holds. The attribute stands there once, is of its form and has so many
-- bootstrap methods, or it doesn't stand there, and there are none.
abbrev pub HaveBootstraps : List (List ℕ) → (count : ℕ) → Type 0
HaveBootstraps [] count = count ≡ 0
HaveBootstraps (body ∷ []) count = (entries : List Bootstrap) × bootstraps.Text body entries × (count ≡ length entries)
HaveBootstraps (body ∷ other ∷ bodies) count = ⊥

-- what is told of a bootstrap method: the place of its handle, and how many arguments it has
abbrev pub told_of : Bootstrap → LastBootstrap
told_of b = record { handle = b.handle; arguments = length b.arguments }

-- the last of those that the bytes spell is one of which this is told
abbrev pub EndsWith : List ℕ → LastBootstrap → Type 0
EndsWith body last = (front : List Bootstrap) × (b : Bootstrap) × bootstraps.Text body (front ++ b ∷ []) × (last ≡ told_of b)

-- ---- one more

-- the bootstrap method with this handle and without arguments
abbrev pub without_arguments : (handle : ℕ) → Bootstrap
without_arguments handle = record { handle = handle; arguments = [] }

-- its bytes
abbrev pub bootstrap_text : (handle : ℕ) → List ℕ
bootstrap_text handle = big_bytes 2 handle ++ big_bytes 2 0

-- The body of the attribute with one more behind the others, of which there are so many: all bytes behind the count stay.
abbrev pub with_bootstrap : (handle count : ℕ) → List ℕ → List ℕ
with_bootstrap handle count body = big_bytes 2 (count + 1) ++ (drop 2 body ++ bootstrap_text handle)
