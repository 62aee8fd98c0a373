use Rattle.std.proofs.Common.{◌-◌, arith, vec_len}
use Rattle.jc_exec.specs.declared.waiting.State.TheVariants as states
use Rattle.jc_exec.specs.Adding.{held_store}
use Rattle.jc_exec.proofs.FinishLaws.{seen, sound_fed, none_left, some_left, finishes, rest_refused, all_refused}
use Rattle.jc_exec.proofs.waiting.ended.Goals as goal

pub returns-then-not-is_empty-clause-refused : goal.returns-then-not-is_empty-clause-refused
returns-then-not-is_empty-clause-refused g c = λ before bytes f.
    let held = g.T.Table.held in
    let w = c.in-Waiting.waiting in
    rest_refused c.args.count (c.args.count - c.len.result) before bytes (held_store (held w.table)) w.rest.items
    (some_left c.is_empty.result (vec_len w.rest) w.rest.items (omega arith) c.is_empty.ensures c.if-not-is_empty.true)
    (omega (arith, c.len.ensures, sound_fed held c.args.state w c.args.count c.in-Waiting.is c.requires))
    (seen held c.args.count c.args.state (states.Waiting w) c.in-Waiting.is before bytes f)

pub returns-else-not-is_empty-clause-finished : goal.returns-else-not-is_empty-clause-finished
returns-else-not-is_empty-clause-finished g c = λ before bytes f.
    let held = g.T.Table.held in
    let w = c.in-Waiting.waiting in
    let none = none_left c.is_empty.result (vec_len w.rest) w.rest.items (omega arith) c.is_empty.ensures c.if-not-is_empty.false in
    finishes before bytes (held_store (held w.table)) w.rest.items none (seen held c.args.count c.args.state (states.Waiting w) c.in-Waiting.is before bytes f).stands

pub returns-in-Refused-clause-refused : goal.returns-in-Refused-clause-refused
returns-in-Refused-clause-refused g c = λ before bytes f.
    let held = g.T.Table.held in
    let why = c.in-Refused.refusal in
    all_refused c.args.count why before bytes (seen held c.args.count c.args.state (states.Refused why) c.in-Refused.is before bytes f)
