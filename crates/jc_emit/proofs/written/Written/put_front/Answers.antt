use Rattle.std.proofs.Common.{ℕ, Option, true, false, sym, subst}
use Rattle.jc_emit.specs.Items.{lead_part, early_part}
use Rattle.jc_emit.specs.Writing.{Grows}
use Rattle.jc_emit.specs.Written.{integer_in}
use Rattle.jc_emit.proofs.written.Written.put_front.Goals as goal

pub returns-in_ok-put_probe-clause-lead : goal.returns-in_ok-put_probe-clause-lead
returns-in_ok-put_probe-clause-lead c =
    subst (λ (o : Option ℕ). Grows (integer_in c.args.source.constants.now) c.args.source.slot c.args.self.now c.put_probe.new.self (lead_part o c.args.at)) (sym c.in-Some.is)
    (c.in_ok-put_probe.ensures true)

pub returns-in_ok-put_probe-clause-early : goal.returns-in_ok-put_probe-clause-early
returns-in_ok-put_probe-clause-early c =
    subst (λ (o : Option ℕ). Grows (integer_in c.args.source.constants.now) c.args.source.slot c.args.self.now c.put_probe.new.self (early_part o c.args.at)) (sym c.in-Some.is)
    (c.in_ok-put_probe.ensures false)
