use Rattle.std.proofs.Common.{Bool, None, ◌&&◌, refl, option_map, slice_index_or, ◌∙◌, ap, sym}
use Rattle.jc_machine_code.specs.Types.{computational}
use Rattle.jc_machine_memory.specs.Values.{value_of}
use Rattle.jc_machine_turn.specs.Parameters.{is_argument}
use Rattle.jc_machine_turn.proofs.CallLaws.{fit_first}
use Rattle.jc_machine_turn.proofs.calls.+arguments_fit.Goals as goal

pub returns-then-arguments_fit : goal.returns-then-arguments_fit
returns-then-arguments_fit t c = λ types are.
    ap (λ (b : Bool). b && c.is_argument.result) (sym c.if-arguments_fit.true)
    ∙ fit_first c.args.parameters.now types c.args.frame.now.content.stack
    (option_map value_of c.peek-value.result) c.arguments_fit.result c.is_argument.result c.in-len1-up.len_at_least c.peek-value.ensures
    c.arguments_fit.ensures c.is_argument.ensures are

pub returns-else-arguments_fit : goal.returns-else-arguments_fit
returns-else-arguments_fit t c = λ types are.
    let first = is_argument (option_map value_of c.peek-value.result) (option_map computational (slice_index_or c.args.parameters.now 0 None)) in
    c.if-arguments_fit.false ∙ (ap (λ (b : Bool). b && first) (sym c.if-arguments_fit.false)
    ∙ fit_first c.args.parameters.now types c.args.frame.now.content.stack
    (option_map value_of c.peek-value.result) c.arguments_fit.result first c.in-len1-up.len_at_least c.peek-value.ensures
    c.arguments_fit.ensures refl are)
