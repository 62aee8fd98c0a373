use Rattle.std.proofs.Common.{sym, ◌∙◌, arith, rules}
use Rattle.jc_kinds.proofs.MissingLaws.{few_insns, first_found, none_found}
use Rattle.jc_kinds.proofs.missing.first_missing.Goals as goal

pub is_missing-requires-clause-few : goal.is_missing-requires-clause-few
is_missing-requires-clause-few c = omega (arith, few_insns c.args.framed.now.body.now c.requires.body)

pub overflow_cast-result : goal.overflow_cast-result
overflow_cast-result c = let few = few_insns c.args.framed.now.body.now c.requires.body in search rules

pub returns-then-is_missing : goal.returns-then-is_missing
returns-then-is_missing c = first_found c.args.framed.now.body.now c.seeking.at (search rules) c.seeking.invariant (sym c.is_missing.ensures ∙ c.if-is_missing.true)

pub returns : goal.returns
returns c = none_found c.args.framed.now.body.now c.seeking.at (search rules) c.seeking.invariant
