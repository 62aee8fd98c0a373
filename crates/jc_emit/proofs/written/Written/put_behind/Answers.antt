use Rattle.std.proofs.Common.{[], ◌∷◌, ℕ, Option, None, true, sym, subst}
use Rattle.jc_emit.specs.Items.{probe, hop, hop_part}
use Rattle.jc_emit.specs.Writing.{Grows}
use Rattle.jc_emit.specs.Written.{integer_in}
use Rattle.jc_emit.proofs.WritingLaws.{grows_append}
use Rattle.jc_emit.proofs.written.Written.put_behind.Goals as goal

pub returns-in_ok-put_hop : goal.returns-in_ok-put_hop
returns-in_ok-put_hop c = λ land lands.
    let id = c.in-Some.id in
    let to = c.args.to in
    let integer = integer_in c.args.source.constants.now in
    let v = c.args.source.slot in
    let old = c.args.self.now in
    let new = c.put_hop.new.self in
    let hops = subst (λ place. Grows integer v c.put_probe.new.self new (hop place to None ∷ [])) (sym lands) (c.in_ok-put_hop.ensures integer v None) in
    subst (λ (o : Option ℕ). Grows integer v old new (hop_part land o to)) (sym c.in-Some.is)
    (grows_append integer v old c.put_probe.new.self new (probe id to true) (hop (land to) to None ∷ []) (c.in_ok-put_probe.ensures true) hops)
