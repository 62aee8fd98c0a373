-- The bodies of a class with their first ids, and how large their instrumented code is.
use Rattle.std.specs.Prelude.{◌≡◌, ℕ, ◌<◌, ◌≤◌, List, Some, slice_get}
use Rattle.jc_methods.specs.declared.body.Body.{Body}
use Rattle.jc_methods.specs.declared.kind.State.{State}
use Rattle.jc_bytes.specs.declared.refusal.Refusal.{Refusal}
use Rattle.jc_bytes.specs.declared.refusal.RefusalKind.TheVariants as kinds
use Rattle.jc_plan.specs.Probed.{first_id}
use Rattle.jc_layout.specs.Layout.{chosen_length}
use Rattle.jc_instrument.specs.Causes.{of_method}
use Rattle.jc_instrument.specs.Constants.{probed_code}
use Rattle.jc_instrument.specs.BodiesWithStates.{BodyWithStates}
use Rattle.jc_instrument.specs.declared.constants.ProbeConstants.{ProbeConstants}

-- ---- one body

abbrev pub work : Body → List State → ℕ → BodyWithStates
work b states first = record { body = b; states = states; first = first }

-- so many bytes are refused, which are too many
pub record IsRefusedAsLarge (method size : ℕ) (r : Refusal) : Type 0 where
  pub refusal : r ≡ of_method kinds.CodeTooLarge method size
  pub large : 65535 < size

-- the chosen layout of the instrumented code of the body has too many bytes
abbrev pub IsTooLong : ProbeConstants → Body → (first : ℕ) → Refusal → Type 0
IsTooLong constants b first r = IsRefusedAsLarge b.method (chosen_length (probed_code constants b first)) r

-- ---- all bodies

-- the code of the first bodies isn't too large
abbrev pub AreShortBelow : ProbeConstants → List Body → ℕ → Type 0
AreShortBelow constants bodies n =
    (i : ℕ) (b : Body) → i < n → slice_get bodies i ≡ Some b → chosen_length (probed_code constants b (first_id bodies i)) ≤ 65535

-- the first of the bodies whose code is too large is refused
pub record IsFirstTooLong (constants : ProbeConstants) (bodies : List Body) (r : Refusal) : Type 0 where
  pub index : ℕ
  pub body : Body
  pub stands : slice_get bodies index ≡ Some body
  pub large : IsTooLong constants body (first_id bodies index) r
  pub before : AreShortBelow constants bodies index
