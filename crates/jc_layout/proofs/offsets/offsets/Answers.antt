use Rattle.std.proofs.Common.{subst, sym}
use Rattle.jc_methods.specs.Widened.{listed}
use Rattle.jc_layout.proofs.OffsetLaws.{IsPlaced, placed_none}
use Rattle.jc_layout.proofs.offsets.offsets.Goals as goal

pub placing-init : goal.placing-init
placing-init c =
    subst (λ l. IsPlaced (listed c.args.wide.now) c.args.code.now 0 0 l) (sym c.new-starts.ensures.items) (placed_none (listed c.args.wide.now) c.args.code.now)
