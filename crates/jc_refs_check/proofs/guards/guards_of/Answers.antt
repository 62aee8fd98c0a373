use Rattle.std.proofs.Common.{ℕ, ◌≤◌, List, length, sym, subst}
use Rattle.std.specs.List.{All}
use Rattle.jc_refs_check.specs.declared.guards.Guard.{Guard}
use Rattle.jc_refs_check.specs.Unguarded.{AreFurther}
use Rattle.jc_refs_check.proofs.FurtherLaws.{frames_within, further_made}
use Rattle.jc_refs_check.proofs.guards.guards_of.Goals as goal

pub further_guards-requires-clause-within : goal.further_guards-requires-clause-within
further_guards-requires-clause-within c =
    let b = c.args.body.now in
    subst (λ (n : ℕ). All (λ (g : Guard). g.frame ≤ n) c.deref.result.now) (sym c.len.ensures)
    (subst (All (λ (g : Guard). g.frame ≤ length b.frames)) (sym c.deref.ensures.value) (frames_within b c.in_ok-sorted.sorted.items c.in_ok-sorted.ensures))

pub returns : goal.returns
returns c =
    let b = c.args.body.now in let kept = c.in_ok-further_guards.field-0.items in
    further_made b c.in_ok-sorted.sorted.items kept c.in_ok-sorted.ensures
    (subst (λ (l : List Guard). AreFurther l kept) c.deref.ensures.value c.in_ok-further_guards.ensures)
