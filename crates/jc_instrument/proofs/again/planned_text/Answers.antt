use Rattle.jc_instrument.proofs.PlannedLaws.{work_of_ready}
use Rattle.jc_instrument.proofs.again.planned_text.Goals as goal

pub returns-clause-text : goal.returns-clause-text
returns-clause-text c = λ others array w of.
    let planned = of.planned in
    c.body_text.ensures.text others array w
    (work_of_ready c.args.constants.now c.args.names.now c.ready_body.new.names c.in_ok-ready.ensures.names others array c.args.source.now c.args.planned w of c.in_ok-ready.ready
    (c.in_ok-ready.ensures.body w.body w.first planned of.body) (c.in_ok-ready.ensures.plan w.body w.first planned))

pub returns-clause-refused : goal.returns-clause-refused
returns-clause-refused c = λ others array w of.
    let planned = of.planned in
    c.body_text.ensures.refused others array w
    (work_of_ready c.args.constants.now c.args.names.now c.ready_body.new.names c.in_ok-ready.ensures.names others array c.args.source.now c.args.planned w of c.in_ok-ready.ready
    (c.in_ok-ready.ensures.body w.body w.first planned of.body) (c.in_ok-ready.ensures.plan w.body w.first planned))
