use Rattle.std.proofs.Common.{◌<◌, ◌≤◌, ◌^◌, rules, refl}
use Rattle.jc_methods.specs.ProbeMembers.{most_probes}
use Rattle.jc_link_programs.proofs.ProbeInitLaws.{meant_asks}
use Rattle.jc_link_programs.proofs.probe_inits.code_asks.Goals as goal

pub returns-in-Some-id_at-clause-asks : goal.returns-in-Some-id_at-clause-asks
returns-in-Some-id_at-clause-asks c =
    let less : c.in-Some-id_at.id < 2 ^ 64 = search rules in
    let few : c.in-Some-number_in.count ≤ most_probes = search rules in
    meant_asks c.args.fetch c.args.class.now c.args.body.now c.in-Some.asked c.in-Some-id_at.id c.in-Some-number_in.count c.in-Some.asked.name
    (record { number = search rules; few = few; code = search rules; members = search rules; id_is = search rules; name = refl }) less
