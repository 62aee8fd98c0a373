use Rattle.std.proofs.Common.{rules, ◌≡◌, ℤ, ◌∷◌, ◌∙◌, ap}
use Rattle.std.specs.Int.{w32, w64, cast_signed, cast_unsigned}
use Rattle.std.specs.Prelude.{FitsSigned}
use Rattle.std.proofs.lemmas.Int.{to_z-of_z}
use Rattle.jc_machine_model.specs.Results.{goes_with}
use Rattle.jc_machine_model.specs.Values as values
use Rattle.jc_machine_model.specs.Operations as operations
use Rattle.jc_machine_model.specs.Perform.{perform}
use Rattle.jc_machine_code.specs.declared.operation.Operation.TheVariants as shows
use Rattle.jc_machine_code.specs.Types.{computational}
use Rattle.jc_machine_turn.proofs.NextLaws.{comes, shown}
use Rattle.jc_machine_turn.proofs.instruction.perform.Goals as goal

int_back : (x : ℤ) → FitsSigned w32 x → cast_signed w32 (cast_unsigned w32 x) ≡ x
int_back x fits = to_z-of_z w32 x fits

long_back : (x : ℤ) → FitsSigned w64 x → cast_signed w64 (cast_unsigned w64 x) ≡ x
long_back x fits = to_z-of_z w64 x fits

pub returns-in-PushInt-clause-result : goal.returns-in-PushInt-clause-result
unfolding perform
returns-in-PushInt-clause-result c = λ d told leads.
    comes c.push.result c.args.shared.now.content c.args.shared.now.content c.args.frame.now.content c.push.new.frame.content d
    (operations.pushes (values.int c.in-PushInt.x)) (shown _ _ d c.in-PushInt.is told) c.push.ensures.kept
    (c.push.ensures.result c.args.shared.now.content
    ∙ ap (λ x. goes_with c.args.shared.now.content c.args.frame.now.content (values.int x ∷ c.args.frame.now.content.stack)) (int_back c.in-PushInt.x (search rules)))

pub returns-in-PushLong-clause-result : goal.returns-in-PushLong-clause-result
unfolding perform
returns-in-PushLong-clause-result c = λ d told leads.
    comes c.push-in-PushLong.result c.args.shared.now.content c.args.shared.now.content c.args.frame.now.content c.push-in-PushLong.new.frame.content d
    (operations.pushes (values.long c.in-PushLong.x)) (shown _ _ d c.in-PushLong.is told) c.push-in-PushLong.ensures.kept
    (c.push-in-PushLong.ensures.result c.args.shared.now.content
    ∙ ap (λ x. goes_with c.args.shared.now.content c.args.frame.now.content (values.long x ∷ c.args.frame.now.content.stack)) (long_back c.in-PushLong.x (search rules)))

pub returns-in-PushPrintStream-clause-result : goal.returns-in-PushPrintStream-clause-result
unfolding perform
returns-in-PushPrintStream-clause-result c = λ d told leads.
    comes c.push-in-PushPrintStream.result c.args.shared.now.content c.args.shared.now.content c.args.frame.now.content c.push-in-PushPrintStream.new.frame.content d
    (operations.pushes values.print_stream) (shown _ _ d c.in-PushPrintStream.is told) c.push-in-PushPrintStream.ensures.kept
    (c.push-in-PushPrintStream.ensures.result c.args.shared.now.content)

pub returns-in-PushText-clause-result : goal.returns-in-PushText-clause-result
unfolding perform
returns-in-PushText-clause-result c = λ d told leads.
    comes c.push-in-PushText.result c.args.shared.now.content c.args.shared.now.content c.args.frame.now.content c.push-in-PushText.new.frame.content d
    (operations.pushes (values.text c.in-PushText.class)) (shown _ _ d c.in-PushText.is told) c.push-in-PushText.ensures.kept
    (c.push-in-PushText.ensures.result c.args.shared.now.content)

pub returns-in-PushProbes-clause-result : goal.returns-in-PushProbes-clause-result
unfolding perform
returns-in-PushProbes-clause-result c = λ d told leads.
    comes c.push-in-PushProbes.result c.args.shared.now.content c.args.shared.now.content c.args.frame.now.content c.push-in-PushProbes.new.frame.content d
    (operations.pushes (values.probes c.in-PushProbes.class c.in-PushProbes.count)) (shown _ _ d c.in-PushProbes.is told) c.push-in-PushProbes.ensures.kept
    (c.push-in-PushProbes.ensures.result c.args.shared.now.content)

pub returns-in-Jumps-clause-result : goal.returns-in-Jumps-clause-result
unfolding perform
returns-in-Jumps-clause-result c = λ d told leads.
    comes c.jump.result c.args.shared.now.content c.args.shared.now.content c.args.frame.now.content c.jump.new.frame.content d (operations.jumps c.in-Jumps.to)
    (shown _ _ d c.in-Jumps.is told) c.jump.ensures.kept (c.jump.ensures.result c.args.shared.now.content)

pub returns-in-Returns-clause-result : goal.returns-in-Returns-clause-result
unfolding perform
returns-in-Returns-clause-result c = λ d told leads.
    let s = c.args.shared.now.content in
    let f = c.args.frame.now.content in
    let it = shown _ (shows.Returns c.in-Returns.kind c.in-Returns.narrowing) d c.in-Returns.is told in
    comes c.return_top.result s s f f d (operations.returns (computational c.in-Returns.kind) it.0) it.1 c.return_top.ensures.kept
    (c.return_top.ensures.result it.0 s it.2)
