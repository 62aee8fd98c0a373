-- The classes of a report with their counters are those that marking gives, and no others.
use Rattle.std.proofs.Common.{◌≡◌, Bool, List, [], ◌∷◌, map, Option, refl, ◌∙◌, ap, ap₂}
use Rattle.jc_methods.specs.declared.analysed.Analysed.{Analysed}
use Rattle.jc_cover.specs.Covered.{hits_or_none}
use Rattle.jc_cover.specs.Marking.{coverage_of}
use Rattle.jc_cover.proofs.CoverageLaws.{tells}
use Rattle.jc_cover.proofs.OneCoverageLaws.{one_coverage}
use Rattle.jc_exec.specs.declared.hits.ClassHits.{ClassHits}
use Rattle.jc_report.specs.declared.row.Counted.{Counted}
use Rattle.jc_command_classes.specs.Report.{counted_with, IsCounted, hits_of, AreCounted}
use Rattle.jc_command_classes.specs.ReportSteps.{counted_of, counted_by}

is_counted : (hits : Option (List Bool)) (a : Analysed) → IsCounted hits a (counted_of hits a)
is_counted hits a = record { coverage = coverage_of a.bodies (hits_or_none hits); tells = tells a.bodies (hits_or_none hits); counted = refl }

one_counted : (hits : Option (List Bool)) (a : Analysed) (c : Counted) → IsCounted hits a c → c ≡ counted_of hits a
one_counted hits a c is =
    let all = hits_or_none hits in
    is.counted ∙ ap (counted_with a) (one_coverage a.bodies all is.coverage (coverage_of a.bodies all) is.tells (tells a.bodies all))

pub are_counted : (records : List ClassHits) (classes : List Analysed) → AreCounted records classes (map (counted_by records) classes)
are_counted records [] = tt
are_counted records (a ∷ classes) = (is_counted (hits_of records a) a, are_counted records classes)

pub all_counted : (records : List ClassHits) (classes : List Analysed) (counted : List Counted) → AreCounted records classes counted
    → counted ≡ map (counted_by records) classes
all_counted records [] [] are = refl
all_counted records [] (c ∷ counted) are = absurd are
all_counted records (a ∷ classes) [] are = absurd are
all_counted records (a ∷ classes) (c ∷ counted) are =
    ap₂ (λ (d : Counted) (ds : List Counted). d ∷ ds) (one_counted (hits_of records a) a c are.0) (all_counted records classes counted are.1)
