use Rattle.std.proofs.Common.{length, ◌∙◌, sym, ap}
use Rattle.jc_region.proofs.InsideLaws.{count_is}
use Rattle.jc_region.proofs.region.Region.count.Goals as goal

pub returns : goal.returns
returns c = sym (count_is c.self.inside c.self.invariant) ∙ ap (λ r. length r.blocks) c.self.view_is
