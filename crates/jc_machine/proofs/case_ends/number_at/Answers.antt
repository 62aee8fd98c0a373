use Rattle.std.proofs.Common.{[], slice_index_or, sym, ap}
use Rattle.jc_machine_model.specs.CaseEnds.{number_of}
use Rattle.jc_machine.proofs.StaticEndLaws.{none_at}
use Rattle.jc_machine.proofs.case_ends.number_at.Goals as goal

pub returns-in-None : goal.returns-in-None
returns-in-None c = sym (ap number_of (none_at (slice_index_or c.args.shared.now.content.statics c.args.at.now.class []) c.args.at.now.field c.in-None.ensures))
