use Rattle.std.proofs.Common.{[], ℕ, List, sym, subst}
use Rattle.jc_exec.specs.Adding.{held_store}
use Rattle.jc_exec.specs.Feeding.{waiting, Feeds}
use Rattle.jc_exec.proofs.FinishLaws.{begins}
use Rattle.jc_exec.proofs.waiting.begun.Goals as goal

pub returns-clause-stands : goal.returns-clause-stands
returns-clause-stands g c =
    let held = g.T.Table.held c.args.table in
    subst (λ (l : List ℕ). Feeds (record { length = 0; kept = waiting (held_store held) l }) (held_store held) []) (sym c.new.ensures.items) (begins held c.requires.keyed)
