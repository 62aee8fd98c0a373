use Rattle.std.proofs.Common.{◌+◌, None, pos, slice_index_or, arith, sym, subst}
use Rattle.std.proofs.lemmas.Option.{slice_get-get_or}
use Rattle.jc_machine.proofs.ArgumentLaws.{Putting, as_many_parameters, argument_there, one_put, all_put}
use Rattle.jc_machine.proofs.first_threads.put_arguments.Goals as goal

pub bounds-parameters-k : goal.bounds-parameters-k
bounds-parameters-k c = let many = as_many_parameters c.args.parameters.now c.args.numbers.now c.args.frames.now.top.locals c.requires.fit in omega arith

pub argument-value-requires : goal.argument-value-requires
argument-value-requires c =
    let k = c.putting.k in
    let many = as_many_parameters c.args.parameters.now c.args.numbers.now c.args.frames.now.top.locals c.requires.fit in
    argument_there c.args.parameters.now c.args.numbers.now c.args.frames.now.top.locals k (slice_index_or c.args.parameters.now k None)
    (slice_index_or c.args.numbers.now k (pos 0)) c.requires.fit
    (slice_get-get_or c.args.parameters.now k None (omega arith)) (slice_get-get_or c.args.numbers.now k (pos 0) (omega arith))

pub putting-preserved : goal.putting-preserved
putting-preserved c =
    let k = c.putting.k in
    let parameters = c.args.parameters.now in
    let numbers = c.args.numbers.now in
    let many = as_many_parameters parameters numbers c.args.frames.now.top.locals c.requires.fit in
    let put = one_put parameters numbers c.args.frames.now k c.putting.slot c.putting.frames c.set_local.new.self (slice_index_or parameters k None)
    (slice_index_or numbers k (pos 0)) _ c.putting.invariant
    (slice_get-get_or parameters k None (omega arith)) (slice_get-get_or numbers k (pos 0) (omega arith)) c.argument-value.ensures c.set_local.ensures in
    subst (λ n. Putting parameters numbers c.args.frames.now (k + 1) (c.putting.slot + n) c.set_local.new.self) (sym c.width-slot.ensures) put

pub returns-clause-arguments : goal.returns-clause-arguments
returns-clause-arguments c = λ types are within.
    all_put c.args.parameters.now c.args.numbers.now c.args.frames.now c.putting.k c.putting.slot c.putting.frames c.putting.invariant (omega arith)
    c.requires.empty types are within
