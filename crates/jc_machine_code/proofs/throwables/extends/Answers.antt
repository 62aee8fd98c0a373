use Rattle.std.proofs.Common.{◌≡◌, ◌-◌, Option, suc, sym, ap, ◌∙◌, rules, arith}
use denote.Enum.Bare.{same_true, same_false}
use Rattle.jc_programs.specs.contracts.run_end.Thrown.{the_type}
use Rattle.jc_programs.specs.declared.run_end.Thrown.{Thrown}
use Rattle.jc_machine_code.proofs.ThrownLaws.{named_above, above_same, above_other}
use Rattle.jc_machine_code.proofs.throwables.extends.Goals as goal

pub returns-then-eq : goal.returns-then-eq
returns-then-eq c =
    let same : c.in-Some.above ≡ c.args.other = same_true the_type (search rules) _ _ (sym c.eq.ensures ∙ c.if-eq.true) in
    let one_more : c.rising.left ≡ suc (c.rising.left - 1) = omega (arith, c.rising-test.true) in
    sym (above_same (c.rising.left - 1) c.rising.left c.rising.line c.in-Some.above c.args.other one_more c.in-Some.is same) ∙ c.rising.invariant

pub rising-preserved : goal.rising-preserved
rising-preserved c =
    let differ : c.in-Some.above ≡ c.args.other → ⊥ = same_false the_type c.in-Some.above c.args.other (sym c.eq.ensures ∙ c.if-eq.false) in
    let one_more : c.rising.left ≡ suc (c.rising.left - 1) = omega (arith, c.rising-test.true) in
    ap (λ (line : Option Thrown). named_above (c.rising.left - 1) line c.args.other) c.superclass-line.ensures
    ∙ sym (above_other (c.rising.left - 1) c.rising.left c.rising.line c.in-Some.above c.args.other one_more c.in-Some.is differ)
    ∙ c.rising.invariant
