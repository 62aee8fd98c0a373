use Rattle.std.proofs.Common.{◌≡◌, ◌⊎◌, ℕ, vec_len}
use Rattle.std.specs.Prelude.{Contains, Some, slice_get}
use Rattle.jc_workers.proofs.results.place.Given as goal

abbrev pub invariant-placing : goal.invariant-placing
invariant-placing g l = (vec_len l.ends ≡ vec_len l.initial.ends)
    × ((k : ℕ) → slice_get l.initial.ends.items k ≡ Some (Some (g.C.CaseRunner.end_of l._runner k))
    → slice_get l.ends.items k ≡ Some (Some (g.C.CaseRunner.end_of l._runner k)))
    × ((k : ℕ) (e : g.row.C-End.Denot) → Contains l.done.items (k, e) → Contains l.fn.done.items (k, e))
    × ((k : ℕ) (e : g.row.C-End.Denot) → Contains l.fn.done.items (k, e)
    → Contains l.done.items (k, e) ⊎ (slice_get l.ends.items k ≡ Some (Some (g.C.CaseRunner.end_of l._runner k))))

abbrev pub decreases-placing : goal.decreases-placing
decreases-placing g l = vec_len l.done
