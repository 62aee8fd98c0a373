use Rattle.std.proofs.Common.{rules, ◌∙◌}
use mir.Val.{SFits}
use mir.Syntax.{w64}
use Rattle.jc_machine_code.proofs.FirstValueLaws.{given_fits, given_value, given_nothing}
use Rattle.jc_machine_code.proofs.types.first_value.Goals as goal

pub first_by-requires : goal.first_by-requires
first_by-requires c =
    let fits : SFits w64 c.args.field.now.first = search rules in
    given_fits c.as_slice.result.now c.args.field.now.desc c.args.field.now.first c.as_slice.ensures fits c.in-len1-up.len_at_least c.requires

pub returns-in-empty : goal.returns-in-empty
returns-in-empty c =
    let fits : SFits w64 c.args.field.now.first = search rules in
    given_nothing c.as_slice.result.now c.args.field.now.desc c.args.field.now.first c.as_slice.ensures fits c.in-empty.len_below

pub returns-in-len1-up : goal.returns-in-len1-up
returns-in-len1-up c =
    let fits : SFits w64 c.args.field.now.first = search rules in
    c.first_by.ensures ∙ given_value c.as_slice.result.now c.args.field.now.desc c.args.field.now.first c.as_slice.ensures fits c.in-len1-up.len_at_least
