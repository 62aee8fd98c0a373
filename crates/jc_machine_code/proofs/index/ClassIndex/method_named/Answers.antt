use Rattle.std.proofs.Common.{◌∙◌}
use Rattle.jc_machine_code.specs.declared.places.Member.{Member}
use Rattle.jc_machine_code.proofs.index.ClassIndex.method_named.Goals as goal

pub returns : goal.returns
returns c = λ i linked index.
    let member : Member = record { name = c.args.name; desc = c.args.desc } in
    c.copied.ensures ∙ c.get.ensures.value ∙ index.methods member
