use Rattle.std.proofs.Common.{◌<◌, ◌≤◌, length, arith, rules, refl}
use Rattle.jc_kinds.proofs.MissingLaws.{few_insns}
use Rattle.jc_refs_check.proofs.MethodLaws.{method_made}
use Rattle.jc_refs_check.proofs.check.check_method.Goals as goal

pub overflow_cast-result : goal.overflow_cast-result
overflow_cast-result c =
    let few = few_insns c.args.checked.now.body.now (method_made c.args.met.now.classes.names c.args.checked.now c.requires.method) in
    search rules

pub returns-then-first-len-clause-refused : goal.returns-then-first-len-clause-refused
returns-then-first-len-clause-refused c =
    let b = c.args.checked.now.body.now in
    let less : c.in_ok-first.first < length b.code = search rules in
    record {
      place = c.in_ok-first.first;
      within = less;
      fails = c.in_ok-first.ensures.first.fails less;
      before = c.in_ok-first.ensures.first.holds;
      refusal_is = refl;
    }

pub returns-clause-passes : goal.returns-clause-passes
returns-clause-passes c = λ i lt.
    let b = c.args.checked.now.body.now in
    let le : length b.code ≤ c.in_ok-first.first = search rules in
    c.in_ok-first.ensures.first.holds i (omega (arith, lt, le))
