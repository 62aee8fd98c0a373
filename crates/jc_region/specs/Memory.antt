-- Which memory a vector has.
use Rattle.std.specs.Prelude.{ℕ}
use Rattle.std.specs.Ptr.{Ptr}
use Rattle.std.specs.Global.{Vec, Global}
use Rattle.std.specs.Vec.{vec_ptr, vec_capacity, vec_allocator}

-- Where its elements begin, for how many there is room, and from which allocator it comes. Two vectors have one allocation
-- exactly where std's `SameBlock` holds of them: nothing was allocated for the one that the other hadn't.
pub record Allocation : Type 0 where
  pub pointer : Ptr
  pub capacity : ℕ
  pub allocator : Global

abbrev pub allocation_of : {X : Type 0} → Vec X → Allocation
allocation_of v = record { pointer = vec_ptr v; capacity = vec_capacity v; allocator = vec_allocator v }

-- the memory of a region: that of its words, and that of the ends of its blocks
pub record RegionMemory : Type 0 where
  pub words : Allocation
  pub ends : Allocation
