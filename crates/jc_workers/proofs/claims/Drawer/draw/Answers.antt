use Rattle.std.proofs.Common.{rules, ℕ, List, ap, sym, subst}
use Rattle.std.specs.Prelude.{Contains}
use Rattle.jc_workers.specs.Claims.{DrawerSeen}
use Rattle.jc_workers.proofs.ClaimLaws.{draw_keeps}
use Rattle.jc_workers.proofs.claims.Drawer.draw.Goals as goal

pub fetch_add-requires : goal.fetch_add-requires
fetch_add-requires c = (search rules, search rules, draw_keeps _ _ _ _ (search rules))

pub returns-clause-above : goal.returns-clause-above
returns-clause-above c y h = c.fetch_add.ensures.2.above y (subst (λ (l : List ℕ). Contains l y) (sym (ap (λ (d : DrawerSeen). d.numbers) c.self.view_is)) h)
