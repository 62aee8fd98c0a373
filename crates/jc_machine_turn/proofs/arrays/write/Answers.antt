use Rattle.std.proofs.Common.{rules, List, Some, drop, ◌∙◌, ap, sym}
use Rattle.std.specs.Int.{w32}
use Rattle.std.specs.Prelude.{FitsSigned}
use Rattle.std.proofs.lemmas.Int.{to_z-of_z}
use Rattle.jc_machine_model.specs.Values.{Value, int, probes}
use Rattle.jc_machine_model.specs.Arrays.{write_to, by_write}
use Rattle.jc_machine_code.specs.Types.{element_types}
use Rattle.jc_machine_memory.specs.Values.{value_of}
use Rattle.jc_machine_turn.proofs.StackLaws.{top_three}
use Rattle.jc_machine_turn.proofs.arrays.write.Goals as goal

pub returns-in-Probes-clause-result : goal.returns-in-Probes-clause-result
returns-in-Probes-clause-result c =
    let f = c.args.frame.now.content in
    let s = c.args.shared.now.content in
    let shape = top_three f.stack (value_of c.in-Some.value) (int c.in-Int.index)
    (probes c.in-Probes.class c.in-Probes.count) c.in-Some.ensures (ap (λ v. Some (value_of v)) (sym c.in-Int.is)
    ∙ c.in-Some-peek.ensures) (ap (λ v. Some (value_of v)) (sym c.in-Probes.is) ∙ c.in-Some-peek-2.ensures) in
    let fits : FitsSigned w32 c.in-Int.index = search rules in
    c.write_probe.ensures.result s
    ∙ ap (λ i. write_to (element_types c.args.types) (probes c.in-Probes.class c.in-Probes.count) i (value_of c.in-Some.value)
    (drop 3 f.stack) s f) (to_z-of_z w32 c.in-Int.index fits) ∙ sym (ap (λ (st : List Value). by_write (element_types c.args.types) st s f) shape)
