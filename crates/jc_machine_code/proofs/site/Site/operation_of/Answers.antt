use Rattle.jc_machine_code.proofs.SiteLaws.{member_fits}
use Rattle.jc_machine_code.proofs.site.Site.operation_of.Goals as goal

pub member_operation-requires : goal.member_operation-requires
member_operation-requires c =
    member_fits c.args.self.now c.args.insn.now c.in-Member.op c.in-Member.at c.what_at-in-Member.result c.in-Member.is c.what_at-in-Member.ensures c.requires
