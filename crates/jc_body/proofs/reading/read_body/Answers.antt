use Rattle.jc_body.proofs.ReadingLaws.{IsAnswer, answered, found_at, some_answer, no_answer, fault_answer, made_well, body_said, refusal_said}
use Rattle.jc_body.proofs.reading.read_body.Goals as goal

answer : (c : goal.After-len-count) → IsAnswer c.answer-found.new.names c.len-count.ensures.names.distinct c.args.class.now c.args.method c.answer-found.result
answer c =
    let own = c.requires.class.this_class in
    answered c.answer-found.new.names c.len-count.ensures.names.distinct c.args.class.now c.args.method c.index-deref-method.result
    (found_at c.args.class.now.methods c.deref.result.now c.args.method c.index-deref-method.result c.deref.ensures c.requires.exists c.index-deref-method.is)
    own.0 own.1 c.answer-found.result c.answer-found.ensures.answer (c.answer-found.ensures.refused own.0 own.1)

pub returns-clause-body : goal.returns-clause-body
returns-clause-body c =
    body_said c.answer-found.new.names c.len-count.ensures.names.distinct c.args.class.now c.args.method c.answer-found.result (answer c)

pub returns-clause-refused : goal.returns-clause-refused
returns-clause-refused c =
    refusal_said c.answer-found.new.names c.len-count.ensures.names.distinct c.args.class.now c.args.method c.answer-found.result (answer c)

pub returns-clause-some : goal.returns-clause-some
returns-clause-some c =
    some_answer c.answer-found.new.names c.len-count.ensures.names.distinct c.args.class.now c.args.method c.answer-found.result (answer c)

pub returns-clause-none : goal.returns-clause-none
returns-clause-none c =
    no_answer c.answer-found.new.names c.len-count.ensures.names.distinct c.args.class.now c.args.method c.answer-found.result (answer c)

pub returns-clause-fault : goal.returns-clause-fault
returns-clause-fault c =
    fault_answer c.answer-found.new.names c.len-count.ensures.names.distinct c.args.class.now c.args.method c.answer-found.result (answer c)

pub returns-clause-well_made : goal.returns-clause-well_made
returns-clause-well_made c =
    made_well c.answer-found.new.names c.len-count.ensures.names.distinct c.args.class.now c.args.method c.answer-found.result (answer c) c.answer-found.ensures.sizes
