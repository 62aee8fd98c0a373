-- The bytes of a layout, once the pool has what the prelude names.
use Rattle.std.proofs.Common.{◌≡◌, ℕ, ◌<◌, Bool, List, length, refl}
use Rattle.jc_methods.specs.WellMade.{IsWellMadeOfAnySize}
use Rattle.jc_methods.specs.declared.kind.State.{State}
use Rattle.jc_methods.specs.declared.probe_members.Fetch.{Fetch}
use Rattle.jc_methods.specs.declared.probe_members.Fetch.TheVariants as fetches
use Rattle.jc_methods.specs.declared.body.Body.{Body}
use Rattle.jc_methods.specs.declared.body.Use.{Use}
use Rattle.jc_emit.specs.Emission.{Emitting, emission}
use Rattle.jc_emit.specs.Marks.{TwinPlaces}
use Rattle.jc_layout.specs.LaidBody.{constant_size, readied, with_place, SpellsLaid}
use Rattle.jc_layout.proofs.CallLaws.{spells_by_method}
use Rattle.jc_layout.proofs.ConstantLaws.{spells_by_constant}
use Rattle.jc_layout.proofs.OperandLaws.{operand_size}

pub placed_size : (fetch : Fetch) (giver array : ℕ) (bytes : List ℕ) → length (with_place fetch giver array bytes) ≡ length bytes
placed_size fetches.Member giver array bytes = operand_size 0 giver bytes
placed_size fetches.Constant giver array bytes = operand_size (constant_size giver) array bytes

module _ (b : Body) (first : ℕ) (states : List State) (given : Emitting) (wide : List Bool) (p : TwinPlaces) (uses : List Use) (bytes starts : List ℕ) where
  pub laid_spells : IsWellMadeOfAnySize b → p.giver < 65536 → p.array < 65536
      → SpellsLaid b (readied given.fetch p.giver (emission b first states given)) wide given.fetch p uses bytes starts
  laid_spells well giver_lt array_lt = by given.fetch refl
    where
      by : (fetch : Fetch) → given.fetch ≡ fetch → SpellsLaid b (readied fetch p.giver (emission b first states given)) wide fetch p uses bytes starts
      by fetches.Member is = spells_by_method b first states given is wide p uses bytes starts well giver_lt
      by fetches.Constant is = spells_by_constant b first states given is wide p uses bytes starts giver_lt array_lt
