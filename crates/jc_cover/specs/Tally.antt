-- The counters of a class, put together body by body.
use Rattle.std.specs.Prelude.{◌≡◌, ◌≤◌, Bool, List, [], ◌∷◌, ◌++◌, All}
use Rattle.jc_bytes.specs.FirstSeen.{first_seen}
use Rattle.jc_methods.specs.WellMade.{IsWellMade}
use Rattle.jc_methods.specs.declared.body.Body.{Body}
use Rattle.jc_methods.specs.declared.plan.Plan.{Plan}
use Rattle.jc_plan.specs.Analysed.{all_insns_and_arms, all_probes}
use Rattle.jc_plan.specs.Plan.{plan_of}
use Rattle.jc_cover.specs.Counters.{Method, counted_methods}
use Rattle.jc_cover.specs.Lines.{methods_lines, covered_methods_lines}
use Rattle.jc_cover.specs.Marking.{coverage_of}
use Rattle.jc_cover.specs.Sums.{methods_sums}
use Rattle.jc_cover.specs.declared.tally.Tally.{Tally}

-- the bodies are well made and together no longer than a file may be
pub record ArePart (bodies : List Body) : Type 0 where
  pub well_made : All IsWellMade bodies
  pub few : all_insns_and_arms bodies ≤ 67108864

-- the methods of the bodies that count, with what these hits cover of them
abbrev pub hit_methods : List Body → List Bool → List Method
hit_methods bodies hits = counted_methods bodies (coverage_of bodies hits)

-- what is known of these bodies by these hits: their sums, their lines and the covered ones, each once
pub record IsTally (bodies : List Body) (hits : List Bool) (t : Tally) : Type 0 where
  pub part : ArePart bodies
  pub sums : t.sums ≡ methods_sums (hit_methods bodies hits)
  pub lines : t.lines.keys ≡ first_seen (methods_lines (hit_methods bodies hits))
  pub covered : t.covered.keys ≡ first_seen (covered_methods_lines (hit_methods bodies hits))

-- the body may follow these, and the ids of its plan begin behind theirs
pub record IsNext (bodies : List Body) (b : Body) (plan : Plan) : Type 0 where
  pub part : ArePart (bodies ++ b ∷ [])
  pub plan_is : plan ≡ plan_of b (all_probes bodies)
