use Rattle.std.proofs.Common.{rules, List, ℕ, Result, IfOk, subst}
use Rattle.jc_bytes.specs.declared.fail.Memory.{Memory}
use Rattle.jc_command_classes.specs.declared.instrument.Decided.{Decided}
use Rattle.jc_command_classes.specs.Instrument.{IsDecision, decision_seen}
use Rattle.jc_command_classes.proofs.RunLaws.{zip_read}
use Rattle.jc_command_classes.proofs.InstrumentLaws.{all_decided}
use Rattle.jc_command_classes.proofs.instrument.decide_all.Goals as goal

pub returns : goal.returns
returns g c =
    let texts = c.args.texts.now in
    let answers = c.in_ok-answers.answers.items in
    let Answers : List ℕ → Result Decided Memory → Type 0 = λ t u. IfOk u (λ d. IsDecision t (decision_seen d)) in
    let each = zip_read Answers texts answers c.in_ok-answers.ensures.each
    (λ t u a. let said : Answers a.shown.now u = search (rules, a.says.met) in subst (λ (l : List ℕ). Answers l u) a.shows said) in
    all_decided texts answers c.all_made.result each c.all_made.ensures
