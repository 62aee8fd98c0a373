use Rattle.std.proofs.Common.{sym, ◌∙◌}
use Rattle.jc_kinds_after.proofs.LocalsLaws.{load_no, load_yes}
use Rattle.jc_kinds_after.proofs.locals.load.Goals as goal

pub returns-then-not-accepts : goal.returns-then-not-accepts
returns-then-not-accepts c =
    λ names. load_no names c.args.state c.deref.result.now c.args.slot c.args.most c.args.want c.deref.ensures (sym (c.accepts.ensures names)
    ∙ c.if-not-accepts.true)

pub returns : goal.returns
returns c = λ names. load_yes names c.args.state c.deref.result.now c.args.slot c.args.most c.args.want _ c.deref.ensures
    (sym (c.accepts.ensures names) ∙ c.if-not-accepts.false) (c.in_ok-move_state.ensures names)
