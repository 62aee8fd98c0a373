use Rattle.std.proofs.Common.{◌≡◌, ◌∙◌, rules, ap}
use Rattle.std.proofs.lemmas.List.Elements.{same_from_all_zip}
use Rattle.jc_machine_model.specs.CaseEnds.{ends_in, static_ends}
use Rattle.jc_machine.specs.Machines.{Machine, world_of}
use Rattle.jc_machine.specs.StaticEnds.{ends_at}
use Rattle.jc_machine.proofs.StaticEndLaws.{ends_at-integral_fields}
use Rattle.jc_machine.proofs.world.World.end.Goals as goal

pub returns : goal.returns
returns c = λ program fits.
    let output = c.in_ok-copy_of.ensures ∙ c.output.ensures in
    let copied : c.in_ok-to_vec.field-0.items ≡ c.ends.result.now = search (rules, same_from_all_zip) in
    let ends : c.from_vec.result ≡ ends_in (world_of c.args.self.now) = c.from_vec.ensures ∙ (copied ∙ c.ends.ensures) in
    let statics : c.from_vec-2.result ≡ static_ends program (world_of c.args.self.now) =
    c.from_vec-2.ensures
    ∙ (c.in_ok-static_ends.ensures
    ∙ (ap (ends_at c.self.inside.shared.content.statics) c.deref.ensures.value
    ∙ (ap (λ (m : Machine). ends_at m.shared.statics m.fields) c.self.view_is
    ∙ (ap (ends_at c.args.self.now.shared.statics) fits.fields ∙ ends_at-integral_fields program c.args.self.now.shared.statics fits.world.statics)))) in
    let raised = c.raised.ensures in
    λ i. record { output = output i; ends = ends i; statics = statics i; raised = raised i }
