use Rattle.std.proofs.Common.{List, Bool, Option, option_map, ◌∙◌, ap}
use Rattle.jc_cover.specs.Covered.{hits_or_none}
use Rattle.jc_cover.specs.Marking.{coverage_of}
use Rattle.jc_cover.specs.declared.coverage.Coverage.{Coverage}
use Rattle.jc_exec.specs.declared.hits.ClassHits.{ClassHits}
use Rattle.jc_command_classes.specs.Report.{clash_with}
use Rattle.jc_command_classes.specs.declared.covered_class.CoveredClass.{CoveredClass}
use Rattle.jc_command_classes.proofs.ReportStepLaws.{same_bits_count, fit_count, record_hits}
use Rattle.jc_command_classes.proofs.covered_class.covered_by.Goals as goal

pub covered-requires-clause-hits : goal.covered-requires-clause-hits
covered-requires-clause-hits c =
    let known = c.in_ok-class_hits.class_hits in
    same_bits_count known c.slice_of.result c.args.class.probes (c.slice_of.ensures ∙ c.in_ok-bits.ensures ∙ record_hits known c.as_ref.result c.as_ref.ensures.value)
    (fit_count c.args.class known (ap (clash_with c.args.class) c.in_ok-class_hits.ensures.found ∙ c.in_ok-class_hits.ensures.fit))

pub returns-clause-covered : goal.returns-clause-covered
returns-clause-covered c =
    let bits_are = c.in_ok-bits.ensures ∙ record_hits c.in_ok-class_hits.class_hits c.as_ref.result c.as_ref.ensures.value in
    let hits_are = c.slice_of.ensures ∙ bits_are ∙ ap (option_map (λ (r : ClassHits). r.bits)) c.in_ok-class_hits.ensures.found in
    ap (λ (coverage : Coverage). let covered : CoveredClass = record { class = c.args.class; coverage = coverage } in covered)
    (c.in_ok-coverage.ensures.value ∙ ap (λ (hits : Option (List Bool)). coverage_of c.args.class.bodies (hits_or_none hits)) hits_are)

pub returns-clause-shaped : goal.returns-clause-shaped
returns-clause-shaped c = record { analysed = c.requires; shape = c.in_ok-coverage.ensures.told.shape }
