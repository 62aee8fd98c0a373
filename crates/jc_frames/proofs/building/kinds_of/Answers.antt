use Rattle.std.proofs.Common.{List, length, ◌∙◌, ap}
use Rattle.std.proofs.lemmas.List.{take_all}
use Rattle.std.proofs.lemmas.List.Elements.{All-take}
use Rattle.jc_methods.specs.VerificationTypes.{class_names, IsNumbered}
use Rattle.jc_bytes.specs.Names.{met}
use Rattle.jc_frames.specs.declared.method.Value.{Value}
use Rattle.jc_frames.specs.Running.{held_values, IsNumberedValue}
use Rattle.jc_methods.proofs.MetNamesLaws.{grows_both}
use Rattle.jc_frames.proofs.BuildingLaws.{kinds_numbered, values_numbered, one_at_end, kinds_more}
use Rattle.jc_frames.proofs.MetLaws.{one_more_met}
use Rattle.jc_frames.proofs.building.kinds_of.Goals as goal

pub numbering-preserved : goal.numbering-preserved
numbering-preserved c =
    let inv = c.numbering.invariant in
    let grown = c.in_ok-kind_of.ensures.grows in
    let mid = c.numbering.names in
    let new = c.kind_of.new.names in
    let vs = c.args.values.now in
    let i = c.numbering.value-index in
    record {
      kinds = λ later grows. kinds_more c.args.pool.now later c.numbering.kinds.items c.push.new.self.items vs i _ c.in_ok-kind_of.field-0 c.in_ok-push.ensures.items c.numbering-test.true
          (inv.kinds later (grows_both mid new later grown grows)) (c.in_ok-kind_of.ensures.kind later grows);
      numbered = λ all. one_at_end (IsNumbered (length new)) c.numbering.kinds.items c.push.new.self.items c.in_ok-kind_of.field-0 c.in_ok-push.ensures.items
          (kinds_numbered mid new c.numbering.kinds.items grown (inv.numbered all))
          (c.in_ok-kind_of.ensures.numbered (values_numbered c.args.names.now mid vs inv.grows all i _ c.numbering-test.true));
      known = c.in_ok-kind_of.ensures.known;
      met = λ all. one_more_met c.args.pool.now c.args.names.now mid new vs i _ c.numbering-test.true grown
          (All-take (IsNumberedValue (length mid)) i vs (values_numbered c.args.names.now mid vs inv.grows all)) (inv.met all)
          (c.in_ok-kind_of.ensures.met (values_numbered c.args.names.now mid vs inv.grows all i _ c.numbering-test.true));
      grows = grows_both c.args.names.now mid new inv.grows grown;
    }

pub returns-clause-kinds : goal.returns-clause-kinds
returns-clause-kinds c later grows =
    c.numbering.invariant.kinds later grows
    ∙ ap (λ (l : List Value). held_values c.args.pool.now later l) (take_all c.numbering.value-index c.args.values.now c.numbering-test.false)

pub returns-clause-met : goal.returns-clause-met
returns-clause-met c all =
    c.numbering.invariant.met all
    ∙ ap (λ (l : List Value). met c.args.names.now (class_names (held_values c.args.pool.now c.numbering.names l))) (take_all c.numbering.value-index c.args.values.now c.numbering-test.false)
