use Rattle.std.proofs.Common.{◌≡◌}
use Rattle.std.specs.List.{AllWithin}
use Rattle.jc_methods.specs.declared.body.Handler.{Handler}
use Rattle.jc_kinds.proofs.rows.group_end.Given as goal

-- the rows so far are of the handler
abbrev pub invariant-comparing : goal.invariant-comparing
invariant-comparing l = AllWithin (λ (h : Handler). h.target ≡ l.target) l.rows l.at l.end
