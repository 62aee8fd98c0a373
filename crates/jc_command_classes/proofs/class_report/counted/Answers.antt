use Rattle.std.proofs.Common.{ap}
use Rattle.jc_cover.specs.declared.coverage.Counters.{Counters}
use Rattle.jc_report.specs.declared.row.Counted.{Counted}
use Rattle.jc_command_classes.proofs.class_report.counted.Goals as goal

pub returns : goal.returns
returns c =
    let a = c.args.covered.class in
    let with_counters : Counters → Counted = λ counters. record {
      id = a.id;
      name = a.name;
      super_name = a.super_name;
      interfaces = a.interfaces;
      counters = counters;
    } in
    ap with_counters c.in_ok-counters.ensures
