use Rattle.std.proofs.Common.{subst}
use Rattle.jc_methods.specs.VerificationTypes.{type_state}
use Rattle.jc_machine_code.specs.declared.operation.Operation.{Operation}
use Rattle.jc_machine_code.specs.Shown.{Shows}
use Rattle.jc_refs_check.specs.RefsOk.{operation_of_place}
use Rattle.jc_refs_check.proofs.NeedLaws.{puts_taken, call_taken, return_taken, made_operation, not_by_descriptor}
use Rattle.jc_refs_check.proofs.MethodLaws.{method_fine}
use Rattle.jc_refs_check.proofs.operands.CheckedMethod.operands_suit.Goals as goal

pub returns-in-Puts : goal.returns-in-Puts
returns-in-Puts c =
    let m = c.args.self.now in let names = c.args.classes.now.names in let ok = c.requires.method in let s = type_state names c.args.state.now in
    puts_taken m.program.now m.method m.body.now s c.args.at (method_fine names m ok c.args.at) c.takes_stored.result c.in-Puts.class c.in-Puts.field c.in-Puts.kind c.in-Puts.narrowing
    (subst (λ (o : Operation). Shows o (operation_of_place m.program.now m.method c.args.at)) c.in-Puts.is (c.operation-operation.ensures m.program.now ok.operations)) c.takes_stored.ensures

pub returns-in-Invokes : goal.returns-in-Invokes
returns-in-Invokes c =
    let m = c.args.self.now in let names = c.args.classes.now.names in let ok = c.requires.method in let s = type_state names c.args.state.now in
    call_taken m.program.now m.method m.body.now s c.args.at (method_fine names m ok c.args.at) c.takes_call.result c.in-Invokes.callee
    (subst (λ (o : Operation). Shows o (operation_of_place m.program.now m.method c.args.at)) c.in-Invokes.is (c.operation-operation.ensures m.program.now ok.operations)) c.takes_call.ensures

pub returns-in-Returns : goal.returns-in-Returns
returns-in-Returns c =
    let m = c.args.self.now in let names = c.args.classes.now.names in let ok = c.requires.method in let s = type_state names c.args.state.now in
    return_taken m.program.now m.method m.body.now s c.args.at (method_fine names m ok c.args.at) c.takes_returned.result c.in-Returns.kind c.in-Returns.narrowing
    (subst (λ (o : Operation). Shows o (operation_of_place m.program.now m.method c.args.at)) c.in-Returns.is (c.operation-operation.ensures m.program.now ok.operations)) c.takes_returned.ensures

pub takes_needed-requires-clause-made : goal.takes_needed-requires-clause-made
takes_needed-requires-clause-made c =
    let m = c.args.self.now in let ok = c.requires.method in
    made_operation m.program.now m.body.now c.operation-operation.result (operation_of_place m.program.now m.method c.args.at) (c.operation-operation.ensures m.program.now ok.operations)
    (method_fine c.args.classes.now.names m ok c.args.at)

pub returns-in_default : goal.returns-in_default
returns-in_default c =
    let m = c.args.self.now in let ok = c.requires.method in
    c.takes_needed.ensures (operation_of_place m.program.now m.method c.args.at) (c.operation-operation.ensures m.program.now ok.operations)
    (not_by_descriptor c.operation-operation.result c.in_default.not-Puts c.in_default.not-Invokes c.in_default.not-Returns)
