use Rattle.std.proofs.Common.{rules, ℤ, pos, length, refl, ◌∙◌, ap}
use Rattle.std.proofs.lemmas.List.Sorted.{answers_always, All-permutation}
use Rattle.std.proofs.lemmas.Result.{on_ok_weaker}
use Rattle.jc_exec.specs.declared.packed_sessions.SessionRow.{SessionRow}
use Rattle.jc_exec.specs.Rows.{session_at, IsInside}
use Rattle.jc_exec.specs.Writing.{by_dump}
use Rattle.jc_exec.proofs.RowLaws.{inside_at, all_inside}
use Rattle.jc_exec.proofs.SessionLaws.{sorted_by_dump}
use Rattle.jc_exec.proofs.packed_sessions.PackedSessions.sort.Goals as goal

-- a row of a time
abbrev row_at : ℤ → SessionRow
row_at time = record { start = pos 0; dump = time; from = 0; size = 0 }

pub returns : goal.returns
returns c =
    let names = c.self.inside.names.items in
    let rows = c.self.inside.rows.items in
    let keys = answers_always _ _ _ (λ f a r next called. search rules) in
    on_ok_weaker c.sort_by_key.result (λ sorted. sorted_by_dump (session_at names) row_at (λ time. refl) rows c.sort_by_key.new.self.items
    (sorted (λ r. r.dump) keys) (c.sort_by_key.ensures.stable (λ r. r.dump) keys) ∙ ap by_dump c.self.view_is) c.sort_by_key.ensures.sorted

pub invariant_of-self : goal.invariant_of-self
invariant_of-self c =
    let end = length c.self.inside.names.items in
    let rows = c.self.inside.rows.items in
    let later = c.sort_by_key.new.self.items in
    all_inside end later (All-permutation (IsInside end) rows later c.sort_by_key.ensures.permutation (λ k d lt. inside_at end k rows d c.self.invariant lt))
