use Rattle.std.proofs.Common.{Option, sym, ap, ◌∙◌}
use Rattle.std.specs.Option.{option_and_then}
use Rattle.jc_programs.specs.declared.program.Linked.{Linked}
use Rattle.jc_programs.specs.Members.{static_named}
use Rattle.jc_machine_code.proofs.site.Site.static_in.Goals as goal

pub returns : goal.returns
returns c = λ program at site.
    let k = c.in_ok-class_at.ensures program site.index in
    c.static_named.ensures c.args.class k.linked k.indexed
    ∙ sym (ap (λ (o : Option Linked). option_and_then (λ (l : Linked). static_named l.statics c.args.named.name.now c.args.named.desc.now) o) k.class_is)
