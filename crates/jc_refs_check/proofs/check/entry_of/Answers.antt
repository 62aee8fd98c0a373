use Rattle.jc_kinds.proofs.AnswerLaws.{entry_kept}
use Rattle.jc_refs_check.proofs.check.entry_of.Goals as goal

pub returns-in-Ok-clause-state : goal.returns-in-Ok-clause-state
returns-in-Ok-clause-state c =
    entry_kept c.entry_state.new.names c.args.body.now c.in-Ok.state c.deref.result.now c.deref-2.result.now c.deref-3.result.now c.deref.ensures c.deref-2.ensures c.deref-3.ensures
    c.in-Ok.ensures.state c.in-Ok.ensures.numbered (c.in-Ok.ensures.well_made c.args.body.now.code c.args.body.now.max_stack)
