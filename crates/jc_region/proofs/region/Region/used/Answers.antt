use Rattle.std.proofs.Common.{◌∙◌, sym, ap}
use Rattle.jc_region.specs.Blocks.{words_in}
use Rattle.jc_region.proofs.InsideLaws.{used_is}
use Rattle.jc_region.proofs.region.Region.used.Goals as goal

pub returns : goal.returns
returns c = sym (used_is c.self.inside c.self.invariant) ∙ ap (λ r. words_in r.blocks) c.self.view_is
