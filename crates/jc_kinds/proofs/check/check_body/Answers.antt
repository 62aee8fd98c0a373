use Rattle.std.proofs.Common.{◌≡◌, Vec, true, false, sym, subst}
use Rattle.std.specs.Prelude.{⊤}
use Rattle.std.specs.declared.alloc.Global.{Global}
use Rattle.jc_methods.specs.declared.kind.State.{State}
use Rattle.jc_kinds.specs.Answers.{AreStates, IsAnswer}
use Rattle.jc_kinds.proofs.RefusalLaws.{checked_answered, missing_answered, clash_answered, answered_found, answered_refused}
use Rattle.jc_kinds.proofs.check.check_body.Goals as goal
use Rattle.jc_kinds.proofs.check.check_body.Goals.{in-Ok, in-Err}

answered : (c : goal.Joined-answer-2) → IsAnswer c.answer.new.names c.args.body.now (λ (u : Unit {0}). ⊤) c.match-answer.result
answered c =
    let names = c.answer.new.names in let b = c.args.body.now in
    let Fact : Vec State Global → Type 0 = λ states. false ≡ true → AreStates names b states.items in
    elim c.match-answer.branch [
      | in-Ok w ↦ subst (IsAnswer names b (λ (u : Unit {0}). ⊤)) (sym w.result-is) (answered_found Fact names b _ c.answer.result w.in-Ok.is c.answer.ensures.answer)
      | in-Err w ↦ subst (IsAnswer names b (λ (u : Unit {0}). ⊤)) (sym w.result-is) (answered_refused Fact names b _ c.answer.result w.in-Err.is c.answer.ensures.answer)
    ]

pub returns-clause-checked : goal.returns-clause-checked
returns-clause-checked c = checked_answered (λ (u : Unit {0}). ⊤) c.answer.new.names c.args.body.now c.match-answer.result (answered c)

pub returns-clause-missing : goal.returns-clause-missing
returns-clause-missing c = missing_answered (λ (u : Unit {0}). ⊤) c.answer.new.names c.args.body.now c.match-answer.result (answered c)

pub returns-clause-clash : goal.returns-clause-clash
returns-clause-clash c = clash_answered (λ (u : Unit {0}). ⊤) c.answer.new.names c.args.body.now c.match-answer.result (answered c)
