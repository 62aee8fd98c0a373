-- The constants that instrumented code loads, at the places that they have before anything is added to the pool.
use Rattle.std.specs.Prelude.{◌≡◌, ℕ, List, map, min}
use Rattle.jc_methods.specs.declared.insn.Insn.{Insn}
use Rattle.jc_methods.specs.declared.body.Body.{Body}
use Rattle.jc_methods.specs.declared.probe_members.Fetch.{Fetch}
use Rattle.jc_methods.specs.declared.probe_members.Fetch.TheVariants as fetches
use Rattle.jc_pool.specs.Pool.{PoolValue}
use Rattle.jc_class.specs.declared.class_file.ClassFile.{ClassFile}
use Rattle.jc_emit.specs.Emission.{Emitting}
use Rattle.jc_emit.specs.Stages.{emitted_code}
use Rattle.jc_emit.specs.Written.{given, integer_in}
use Rattle.jc_layout.specs.LaidBody.{ready_code}
use Rattle.jc_instrument.specs.Needed.{EarlyPlaces, GetsBy, TakesEarly}
use Rattle.jc_instrument.specs.declared.constants.ProbeConstants.{ProbeConstants}

-- A place of the pool that is asked for. A pool has at most 65,535 entries: what would stand behind them counts as the last one, so
-- that the code has a size where there is no room in the pool.
abbrev pub within : ℕ → ℕ
within place = min place 65535

-- the place of the constant of the array; a class without one has 0 there
abbrev pub constant_place : Fetch → EarlyPlaces → ℕ
constant_place fetches.Member early = 0
constant_place fetches.Constant early = within early.giver

abbrev pub constants_at : Fetch → EarlyPlaces → ProbeConstants
constants_at fetch early = record { fetch = fetch; giver = constant_place fetch early; integers = map within early.integers }

-- These are the constants of the class, where it has so many probes and gets its array by the bootstrap method with this number:
-- they stand where the pool would take them first.
pub record AreConstants (c : ClassFile) (count bootstrap : ℕ) (constants : ProbeConstants) : Type 0 where
  pub gets : GetsBy c constants.fetch bootstrap
  pub early : EarlyPlaces
  pub pool : PoolValue
  pub takes : TakesEarly c.pool constants.fetch bootstrap count pool early
  pub are : constants ≡ constants_at constants.fetch early

-- ---- code that loads them

-- what the code of all bodies is made with; `array` is the number of the class of the probe array in the names
abbrev pub given_with : ProbeConstants → (array : ℕ) → Emitting
given_with constants array = given constants.fetch array constants.integers

-- The instrumented code of a body whose first id is this one, as it is ready for its layout: what the prelude names last takes two
-- bytes, whatever its place is.
abbrev pub probed_code : ProbeConstants → Body → (first : ℕ) → List Insn
probed_code constants body first =
    ready_code constants.fetch constants.giver (emitted_code body first constants.fetch (integer_in constants.integers))
