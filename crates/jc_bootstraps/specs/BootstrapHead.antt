-- Reading a bootstrap method whose arguments are passed over.
use Rattle.std.specs.Prelude.{ℕ, ◌*◌, List, Option}
use Rattle.jc_bytes.specs.Decoder.{◌>>=◌, first, number_at}
use Rattle.jc_bootstraps.specs.declared.bootstraps.LastBootstrap.{LastBootstrap}

-- what is told of the one in front, and the bytes behind it
unfoldable pub head_at : List ℕ → Option (LastBootstrap × List ℕ)
head_at left = do
  handle ← number_at 2 left
  count ← number_at 2 handle.1
  first (2 * count.0) (λ _. record { handle = handle.0; arguments = count.0 }) count.1
