-- The places of instrumented code as tables.
use Rattle.std.specs.Prelude.{◌≡◌, ℕ, ◌+◌, ◌≤◌, List, length, slice_index}
use Rattle.jc_methods.specs.declared.body.Body.{Body}
use Rattle.jc_methods.specs.declared.plan.Plan.{Plan}
use Rattle.jc_methods.specs.declared.probe_members.Fetch.{Fetch}
use Rattle.jc_plan.specs.Plan.{plan_of}
use Rattle.jc_emit.specs.Sizes.{narrow}
use Rattle.jc_emit.specs.declared.places.Places.{Places}
use Rattle.jc_emit.specs.Items.{lead_of, land_of, image_of}

-- the plan of a body, for some first id
abbrev pub HasPlan : Body → Plan → Type 0
HasPlan b p = (first : ℕ) × (p ≡ plan_of b first)

-- a table of a function's values for each instruction and for the end
pub record IsTable (place : ℕ → ℕ) (count : ℕ) (table : List ℕ) : Type 0 where
  pub size : length table ≡ count + 1
  pub each : (i : ℕ) → i ≤ count → slice_index table i ≡ place i

-- where fall-throughs lead, jumps land and images stand in the code without wide jumps
pub record ArePlaces (b : Body) (first : ℕ) (fetch : Fetch) (places : Places) : Type 0 where
  pub leads : IsTable (lead_of b first (narrow fetch)) (length b.code) places.leads.items
  pub lands : IsTable (land_of b first (narrow fetch)) (length b.code) places.lands.items
  pub images : IsTable (image_of b first (narrow fetch)) (length b.code) places.images.items

-- these are the places of the body with this plan, which gets the array of probes so
abbrev pub ArePlacesFor : Body → Plan → Fetch → Places → Type 0
ArePlacesFor b plan fetch places = (first : ℕ) → plan ≡ plan_of b first → ArePlaces b first fetch places
