use Rattle.jc_workers.proofs.claims.Drawer.split.Given as goal

abbrev pub ghosts-give_budget : goal.ghosts-give_budget
ghosts-give_budget a = record { amount = a.budget }
