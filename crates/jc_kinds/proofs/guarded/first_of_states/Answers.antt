use Rattle.std.proofs.Common.{ℕ, List, length, IfOk, subst}
use Rattle.jc_methods.specs.declared.body.Handler.{Handler}
use Rattle.jc_kinds.specs.First.{IsFirstOrBound}
use Rattle.jc_kinds.specs.Guarded.{IsUnguarded}
use Rattle.jc_kinds.proofs.guarded.first_of_states.Goals as goal

pub returns-then-guard_few : goal.returns-then-guard_few
returns-then-guard_few c =
    let states = c.args.states.now in let b = c.args.framed.now.body.now in
    subst (λ (slots : ℕ). IsFirstOrBound (IsUnguarded states b.frames b.handlers slots) (length states) c.first_of_few.result) c.from-slots.ensures
    (subst (λ (rows : List Handler). IsFirstOrBound (IsUnguarded states b.frames rows c.from-slots.result) (length states) c.first_of_few.result)
    c.as_slice-handlers.ensures c.first_of_few.ensures)

pub returns : goal.returns
returns c =
    let states = c.args.states.now in let b = c.args.framed.now.body.now in
    subst (λ (slots : ℕ). IfOk c.first_of_many.result (IsFirstOrBound (IsUnguarded states b.frames b.handlers slots) (length states))) c.from-slots.ensures
    (subst (λ (rows : List Handler). IfOk c.first_of_many.result (IsFirstOrBound (IsUnguarded states b.frames rows c.from-slots.result) (length states)))
    c.as_slice-handlers.ensures c.first_of_many.ensures)
