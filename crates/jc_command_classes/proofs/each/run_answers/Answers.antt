use Rattle.std.proofs.Common.{List, ℕ, [], refl, sym, subst}
use Rattle.std.specs.List.{AllZip}
use Rattle.std.specs.Fn.{FnReturnsAt}
use Rattle.std.proofs.lemmas.Fn.{says_at}
use Rattle.std.proofs.lemmas.List.{take_all}
use Rattle.jc_command_classes.proofs.RunLaws.{answered_more}
use Rattle.jc_command_classes.proofs.each.run_answers.Goals as goal

pub answering-init : goal.answering-init
answering-init g c = subst (AllZip (FnReturnsAt g.F.Fn c.args.answer.now) []) (sym c.in_ok-answers.ensures.items) tt

pub answering-preserved : goal.answering-preserved
answering-preserved g c =
    answered_more (FnReturnsAt g.F.Fn c.args.answer.now) c.args.run.now c.answering.bytes-index c.bytes-item.result c.answering.answers.items
    c.push.new.self.items c.answer.result c.answering-test.true c.bytes-item.is c.answering.invariant (says_at g.F.Fn c.answer.ensures refl)
    c.in_ok-push.ensures.items

pub returns : goal.returns
returns g c =
    subst (λ (l : List (List ℕ)). AllZip (FnReturnsAt g.F.Fn c.args.answer.now) l c.answering.answers.items)
    (take_all c.answering.bytes-index c.args.run.now c.answering-test.false) c.answering.invariant
