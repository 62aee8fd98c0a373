use Rattle.std.proofs.Common.{◌≤◌, ◌<◌, length, sym, ◌∙◌, subst, arith, rules}
use Rattle.std.proofs.lemmas.Iterator.Adapters.{YieldsList-from_vec}
use Rattle.std.proofs.lemmas.Iterator.Consumers.{YieldsList-turn, YieldsList-end}
use Rattle.std.proofs.lemmas.List.{length_push}
use Rattle.std.proofs.lemmas.Result.{err_from_is_err_and}
use Rattle.jc_instrument.specs.Writing.{ArePut}
use Rattle.jc_instrument.proofs.PuttingLaws.{all_put, next_ready, number_within, one_code, putting_begun, putting_on, putting_refused}
use Rattle.jc_instrument.proofs.members.put_codes.Goals as goal

pub putting-init : goal.putting-init
putting-init c =
    putting_begun c.args.names.now c.args.all.constants.now c.args.all.source.now c.args.pool.now c.args.places.now c.args.all.bodies c.args.methods c.into_vec-methods.result.items
    c.into_vec-methods.ensures c.requires.coded

pub planned_text-requires : goal.planned_text-requires
planned_text-requires c =
    let ready = c.args.all.bodies in
    let turn = YieldsList-turn (YieldsList-from_vec {s = c.into_iter-planned-iterator.result} ready (cc) (search rules)) c.putting.yielded c.putting.planned-iterator
    c.putting.yielded_by c.next.result c.next.new.self c.in-Some.planned c.in-Some.is c.next.ensures.steps in
    next_ready c.args.names.now c.args.all.constants.now c.args.all.source.now c.args.pool.now c.args.places.now ready c.args.methods (length c.putting.yielded) c.putting.names c.putting.pool
    c.putting.methods.items c.in-Some.planned turn.0 turn.1 c.requires.ready c.putting.invariant

pub index_mut-requires : goal.index_mut-requires
index_mut-requires c =
    let ready = c.args.all.bodies in
    let turn = YieldsList-turn (YieldsList-from_vec {s = c.into_iter-planned-iterator.result} ready (cc) (search rules)) c.putting.yielded c.putting.planned-iterator
    c.putting.yielded_by c.next.result c.next.new.self c.in-Some.planned c.in-Some.is c.next.ensures.steps in
    let within : c.from-number.result < length c.putting.methods.items =
    number_within c.args.names.now c.args.all.constants.now c.args.all.source.now c.args.pool.now c.args.places.now ready c.args.methods (length c.putting.yielded) c.putting.names c.putting.pool
    c.putting.methods.items c.in-Some.planned turn.0 turn.1 c.requires.ready c.putting.invariant c.from-number.result (c.from-number.ensures ∙ c.method_of.ensures) in
    omega (arith, within)

pub put_code-requires : goal.put_code-requires
put_code-requires c =
    let ready = c.args.all.bodies in
    let turn = YieldsList-turn (YieldsList-from_vec {s = c.into_iter-planned-iterator.result} ready (cc) (search rules)) c.putting.yielded c.putting.planned-iterator
    c.putting.yielded_by c.next.result c.next.new.self c.in-Some.planned c.in-Some.is c.next.ensures.steps in
    one_code c.args.names.now c.args.all.constants.now c.args.all.source.now c.args.pool.now c.args.places.now ready c.args.methods (length c.putting.yielded) c.putting.names c.putting.pool
    c.putting.methods.items c.in-Some.planned turn.0 turn.1 c.requires.ready c.putting.invariant c.from-number.result (c.from-number.ensures ∙ c.method_of.ensures)
    c.planned_text.new.pool c.in_ok-text.ensures.extends c.index_mut.result.now c.index_mut.ensures.value

pub putting-preserved : goal.putting-preserved
putting-preserved c =
    let ready = c.args.all.bodies in
    let turn = YieldsList-turn (YieldsList-from_vec {s = c.into_iter-planned-iterator.result} ready (cc) (search rules)) c.putting.yielded c.putting.planned-iterator
    c.putting.yielded_by c.next.result c.next.new.self c.in-Some.planned c.in-Some.is c.next.ensures.steps in
    rw (length_push c.putting.yielded c.in-Some.planned)
    (putting_on c.args.names.now c.args.all.constants.now c.args.all.source.now c.args.pool.now c.args.places.now ready c.args.methods (length c.putting.yielded) c.putting.names c.putting.pool
    c.putting.methods.items c.in-Some.planned turn.0 turn.1 c.requires.ready c.putting.invariant c.from-number.result (c.from-number.ensures ∙ c.method_of.ensures)
    c.planned_text.new.pool c.in_ok-text.ensures.extends c.planned_text.new.names c.in_ok-text.ensures.names c.in_ok-text.text c.index_mut.result.now
    c.put_code.new.method c.index_mut.ensures.value c.put_code.ensures c.in_ok-text.ensures.text)

pub returns-in_err-text-clause-refused : goal.returns-in_err-text-clause-refused
returns-in_err-text-clause-refused c = λ others array works of.
    let ready = c.args.all.bodies in
    let turn = YieldsList-turn (YieldsList-from_vec {s = c.into_iter-planned-iterator.result} ready (cc) (search rules)) c.putting.yielded c.putting.planned-iterator
    c.putting.yielded_by c.next.result c.next.new.self c.in-Some.planned c.in-Some.is c.next.ensures.steps in
    let p = err_from_is_err_and c.from_residual.result c.from_residual.ensures.1 in
    rw (p.1, p.2)
    (putting_refused c.args.names.now c.args.all.constants.now c.args.all.source.now c.args.pool.now c.args.places.now ready c.args.methods (length c.putting.yielded) c.putting.names c.putting.pool
    c.putting.methods.items c.in-Some.planned turn.0 turn.1 c.requires.ready c.putting.invariant others array works of
    c.in_err-text.field-0.0 (λ w is. c.in_err-text.ensures.refused others array w is))

pub returns-clause-put : goal.returns-clause-put
returns-clause-put c = λ others array works of.
    let ready = c.args.all.bodies in
    let ended = YieldsList-end (YieldsList-from_vec {s = c.into_iter-planned-iterator.result} ready (cc) (search rules)) c.putting.yielded c.putting.planned-iterator
    c.putting.yielded_by c.next.result c.next.new.self c.in-None.is c.next.ensures.steps in
    let end : length ready ≤ length c.putting.yielded = omega (arith, ended.1) in
    subst (ArePut c.args.pool.now c.args.places.now others c.args.all.constants.now array works c.args.methods c.putting.pool) (sym c.from_vec.ensures)
    (all_put c.args.names.now c.args.all.constants.now c.args.all.source.now c.args.pool.now c.args.places.now ready c.args.methods (length c.putting.yielded) c.putting.names c.putting.pool
    c.putting.methods.items end c.putting.invariant others array works of)
