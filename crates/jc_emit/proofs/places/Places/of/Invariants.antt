use Rattle.std.proofs.Common.{◌≡◌, ℕ}
use Rattle.jc_plan.specs.Plan.{plan_of}
use Rattle.jc_emit.proofs.PlacingLaws.{ArePlaced}
use Rattle.jc_emit.proofs.places.Places.of.Given as goal

-- the instructions so far have their places
abbrev pub invariant-placing : goal.invariant-placing
invariant-placing l = (first : ℕ) → l.plan ≡ plan_of l.body first
    → ArePlaced l.body first l.fn.fetch l.at l.here l.places.leads.items l.places.lands.items l.places.images.items
