use Rattle.std.proofs.Common.{sym}
use Rattle.jc_machine_code.proofs.LockedLaws.{locked_outside}
use Rattle.jc_machine_code.proofs.site.Site.prepared.Goals as goal

pub returns-in-Some : goal.returns-in-Some
returns-in-Some c = λ program at site place.
    let is = c.in-Some.ensures program at site in
    record { shows = locked_outside program at c.in-Some.callee c.args.insn.now (sym is); locked = is }
