use Rattle.std.proofs.Common.{◌≡◌, Vec, true, refl}
use Rattle.std.specs.declared.alloc.Global.{Global}
use Rattle.jc_methods.specs.declared.kind.State.{State}
use Rattle.jc_kinds.specs.Answers.{AreStates}
use Rattle.jc_kinds.proofs.RefusalLaws.{found_answered, refusals_answered, checked_answered, missing_answered, clash_answered, answered_so}
use Rattle.jc_kinds.proofs.check.states.Goals as goal

pub returns : goal.returns
returns c =
    let names = c.answer.new.names in let b = c.args.body.now in
    let Fact : Vec State Global → Type 0 = λ states. AreStates names b states.items in
    let a = answered_so (λ (states : Vec State Global). true ≡ true → AreStates names b states.items) Fact names b (λ states are. are refl) c.answer.result c.answer.ensures.answer in
    record {
      states = found_answered Fact names b c.answer.result a;
      refused = refusals_answered Fact names b c.answer.result a;
      checked = checked_answered Fact names b c.answer.result a;
      missing = missing_answered Fact names b c.answer.result a;
      clash = clash_answered Fact names b c.answer.result a;
      names = c.answer.ensures.names;
    }
