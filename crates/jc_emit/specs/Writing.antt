-- The code of an instrumented method as it is written.
use Rattle.std.specs.Prelude.{◌≡◌, ℕ, ◌+◌, ◌≤◌, List, ◌++◌, map, length}
use Rattle.jc_methods.specs.ProbeMembers.{most_probes, most_short}
use Rattle.jc_methods.specs.WellMade.{IsWellMadeOfAnySize}
use Rattle.jc_methods.specs.declared.body.Body.{Body}
use Rattle.jc_methods.specs.declared.insn.Flow.{Flow}
use Rattle.jc_methods.specs.declared.plan.Plan.{Plan}
use Rattle.jc_methods.specs.declared.probe_members.Fetch.{Fetch}
use Rattle.jc_emit.specs.Marks.{unplaced}
use Rattle.jc_emit.specs.Items.{Item, insn_of, at_of, own_of, extra_of, image_part, segment, twin_items}
use Rattle.jc_emit.specs.Placing.{HasPlan, ArePlacesFor}
use Rattle.jc_emit.specs.Sizes.{narrow, insn_at}
use Rattle.jc_emit.specs.declared.places.Places.{Places}
use Rattle.jc_emit.specs.declared.written.Written.{Written}
use Rattle.jc_emit.specs.declared.written.ProbeSource.{ProbeSource}
use Rattle.jc_emit.specs.declared.segments.CodeSource.{CodeSource}
use Rattle.jc_emit.specs.Written.{Shows, integer_in}

-- these items were put behind what stood there
pub record Grows (integer : ℕ → ℕ) (v : ℕ) (old new : Written) (items : List Item) : Type 0 where
  pub code : new.code.items ≡ old.code.items ++ map (insn_of (unplaced integer) v) items
  pub at : new.at.items ≡ old.at.items ++ map at_of items
  pub own : new.own.items ≡ old.own.items ++ map own_of items
  pub extra : new.extra.items ≡ old.extra.items ++ map extra_of items

-- the image of an instruction, and what stands behind it, were put behind what stood there
abbrev pub GrowsByImage : Body → (first : ℕ) → Fetch → (integer : ℕ → ℕ) → (at : ℕ) → Flow → Written → Written → Type 0
GrowsByImage b first fetch integer at flow old new = Grows integer b.arg_slots old new (image_part b first (narrow fetch) at (insn_at b.code at) flow)

-- the same, where the probes among the items find what they need there
abbrev pub GrowsFrom : ProbeSource → Written → Written → List Item → Type 0
GrowsFrom source old new items = Grows (integer_in source.constants.now) source.slot old new items

-- the same of the image of an instruction of a method
abbrev pub GrowsByImageOf : CodeSource → (first at : ℕ) → Flow → Written → Written → Type 0
GrowsByImageOf source first at flow old new = GrowsByImage source.body.now first source.fetch (integer_in source.constants.now) at flow old new

-- the same of all that belongs to an instruction of a method
abbrev pub GrowsBySegmentOf : CodeSource → (first at : ℕ) → Written → Written → Type 0
GrowsBySegmentOf source first at old new =
    Grows (integer_in source.constants.now) source.body.now.arg_slots old new (segment source.body.now first (narrow source.fetch) at)

-- what is written is the whole code of a method
abbrev pub ShowsTwin : CodeSource → (first : ℕ) → Written → Type 0
ShowsTwin source first written =
    Shows (integer_in source.constants.now) source.body.now.arg_slots (twin_items source.body.now first (narrow source.fetch)) written

-- What the code is written from: a well made body, its plan, the places of its instructions, and the places of Integers, as many as
-- its ids need.
pub record CanWrite (b : Body) (plan : Plan) (fetch : Fetch) (constants : List ℕ) (places : Places) : Type 0 where
  pub made : IsWellMadeOfAnySize b
  pub planned : HasPlan b plan
  pub next : plan.next ≤ most_probes
  pub enough : plan.next ≤ most_short + 1 + length constants
  pub placed : ArePlacesFor b plan fetch places
