use Rattle.jc_command_classes.proofs.ReportStepLaws.{record_found}
use Rattle.jc_command_sample.proofs.coverage.record_of.Goals as goal

pub returns-clause-found : goal.returns-clause-found
returns-clause-found c = record_found c.args.store.now.classes c.args.class.now.id c.get.result c.get.ensures.found c.get.ensures.only
