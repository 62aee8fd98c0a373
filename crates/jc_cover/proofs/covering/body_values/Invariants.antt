use Rattle.jc_cover.proofs.covering.body_values.Given as goal

abbrev pub ghost-body_branches : goal.ghost-body_branches
ghost-body_branches g a = g.first
