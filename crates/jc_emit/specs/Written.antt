-- Instructions that are written one after the other, with what belongs to each.
use Rattle.std.specs.Prelude.{◌≡◌, ℕ, ◌+◌, ◌-◌, List, map, slice_index}
use Rattle.jc_methods.specs.ProbeMembers.{most_short}
use Rattle.jc_methods.specs.declared.probe_members.Fetch.{Fetch}
use Rattle.jc_emit.specs.Emission.{Emitting}
use Rattle.jc_emit.specs.Marks.{unplaced}
use Rattle.jc_emit.specs.declared.written.Written.{Written}
use Rattle.jc_emit.specs.Items.{Item, insn_of, at_of, own_of, extra_of}

-- where the Integer of an id stands, where these are the places of those from the first one on that sipush doesn't push
abbrev pub integer_in : List ℕ → ℕ → ℕ
integer_in constants id = slice_index constants (id - (most_short + 1))

abbrev pub given : Fetch → (array : ℕ) → List ℕ → Emitting
given fetch array constants = record { fetch = fetch; array = array; integer = integer_in constants }

pub record Shows (integer : ℕ → ℕ) (v : ℕ) (items : List Item) (w : Written) : Type 0 where
  pub code : w.code.items ≡ map (insn_of (unplaced integer) v) items
  pub at : w.at.items ≡ map at_of items
  pub own : w.own.items ≡ map own_of items
  pub extra : w.extra.items ≡ map extra_of items
