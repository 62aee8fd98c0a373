use Rattle.jc_machine.proofs.TurnLaws.{enters}
use Rattle.jc_machine.proofs.calling.call.Goals as goal

pub enter-requires-clause-fit : goal.enter-requires-clause-fit
enter-requires-clause-fit c =
    let program = c.args.program.now in
    let of = c.in-Some.ensures program c.requires.prepared in
    let e = enters program c.args.callee c.in-Some.method.now c.args.frames.now.top c.args.frames.now.waiting c.args.shared.now.content c.requires.program of
    c.arguments_fit.result c.overflows.result c.arguments_fit.ensures
    c.if-not-arguments_fit.false (c.overflows.ensures program c.requires.prepared c.requires.counted) c.if-overflows.false c.requires.fits in
    (e.types, e.arguments, e.parameters, e.taken, e.within)

pub enter-requires-clause-few : goal.enter-requires-clause-few
enter-requires-clause-few c =
    let program = c.args.program.now in
    let of = c.in-Some.ensures program c.requires.prepared in
    let e = enters program c.args.callee c.in-Some.method.now c.args.frames.now.top c.args.frames.now.waiting c.args.shared.now.content c.requires.program of
    c.arguments_fit.result c.overflows.result c.arguments_fit.ensures
    c.if-not-arguments_fit.false (c.overflows.ensures program c.requires.prepared c.requires.counted) c.if-overflows.false c.requires.fits in
    e.few

pub enter-requires-clause-room : goal.enter-requires-clause-room
enter-requires-clause-room c =
    let program = c.args.program.now in
    let of = c.in-Some.ensures program c.requires.prepared in
    let e = enters program c.args.callee c.in-Some.method.now c.args.frames.now.top c.args.frames.now.waiting c.args.shared.now.content c.requires.program of
    c.arguments_fit.result c.overflows.result c.arguments_fit.ensures
    c.if-not-arguments_fit.false (c.overflows.ensures program c.requires.prepared c.requires.counted) c.if-overflows.false c.requires.fits in
    e.room
