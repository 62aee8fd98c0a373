-- Reading what the attribute BootstrapMethods holds, from the front of the bytes that are left.
use Rattle.std.specs.Prelude.{◌≡◌, ℕ, List, [], ◌∷◌, ◌++◌, Option, Some, None}
use Rattle.jc_bytes.specs.Counted.{counted_at}
use Rattle.jc_bytes.specs.Decoder.{number_at}
use Rattle.jc_bytes.specs.Parsing.{Parsed, Good, ◌>>=◌, item}
use Rattle.jc_bootstraps.specs.Bootstraps.{Bootstrap, told_of}
use Rattle.jc_bootstraps.specs.declared.bootstraps.LastBootstrap.{LastBootstrap}

-- one of them
unfoldable pub bootstrap_at : List ℕ → Parsed Bootstrap
bootstrap_at left = do
  handle ← item (number_at 2) left
  arguments ← counted_at (item (number_at 2)) handle.1
  Good (record { handle = handle.0; arguments = arguments.0 }) arguments.1

-- all of them
unfoldable pub bootstraps_at : List ℕ → Parsed (List Bootstrap)
bootstraps_at left = counted_at bootstrap_at left

-- this is told of the last of them, or there is none
abbrev pub IsLastOf : List Bootstrap → Option LastBootstrap → Type 0
IsLastOf entries None = entries ≡ []
IsLastOf entries (Some last) = (front : List Bootstrap) × (b : Bootstrap) × (entries ≡ front ++ b ∷ []) × (last ≡ told_of b)
