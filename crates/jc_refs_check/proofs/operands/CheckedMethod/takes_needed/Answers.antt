use Rattle.std.proofs.Common.{length, sym, ◌∙◌, ap, subst, Option}
use Rattle.std.specs.Option.{IfSome}
use Rattle.jc_methods.specs.VerificationTypes.{type_state}
use Rattle.jc_refs_check.specs.declared.operands.NeededAt.{NeededAt}
use Rattle.jc_refs_check.specs.KindNeeds.{IsNumberedNeed, need_of_kept, needs_of_kept, takes_at, takes_all}
use Rattle.jc_refs_check.proofs.NeedLaws.{and_true}
use Rattle.jc_refs_check.proofs.operands.CheckedMethod.takes_needed.Goals as goal

pub takes_operand-requires-clause-need : goal.takes_operand-requires-clause-need
takes_operand-requires-clause-need c =
    let count = length c.args.classes.now.names in
    subst (λ (o : Option NeededAt). IfSome o (λ n. IsNumberedNeed count n.need)) c.in-Some.is (c.need_of.ensures.numbered count)

pub returns-in-Some : goal.returns-in-Some
returns-in-Some c = λ d shows plain.
    let names = c.args.classes.now.names in let b = c.args.self.now.body.now in let s = type_state names c.args.state.now in
    c.takes_operand.ensures ∙ sym (and_true (takes_at b s (need_of_kept names c.in-Some.needed.above c.in-Some.needed.need)))
    ∙ ap (takes_all b s) (ap (needs_of_kept names) (sym c.in-Some.is) ∙ c.need_of.ensures.needs names d shows plain)

pub returns-in-None : goal.returns-in-None
returns-in-None c = λ d shows plain.
    let names = c.args.classes.now.names in let b = c.args.self.now.body.now in let s = type_state names c.args.state.now in
    ap (takes_all b s) (ap (needs_of_kept names) (sym c.in-None.is) ∙ c.need_of.ensures.needs names d shows plain)
