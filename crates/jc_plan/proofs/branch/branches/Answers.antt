use Rattle.std.proofs.Common.{◌<◌, length, arith}
use Rattle.jc_methods.proofs.PlacedInsnLaws.{few_insns}
use Rattle.jc_plan.specs.Edges.{branches_of}
use Rattle.jc_plan.proofs.FlowLaws.{few_targets, few_at}
use Rattle.jc_plan.proofs.PlacesLaws.{joins_one}
use Rattle.jc_plan.proofs.branch.branches.Goals as goal

pub overflow_cast-at : goal.overflow_cast-at
overflow_cast-at c = omega (arith, few_insns c.args.code.now, c.requires.few)

pub put_branches-requires : goal.put_branches-requires
put_branches-requires c =
    let lt : c.listing.at < length c.args.code.now = omega arith in
    record {
      at = omega (arith, few_insns c.args.code.now, c.requires.few);
      targets = omega (arith, few_targets c.index-code-at.result, few_at c.args.code.now c.listing.at c.index-code-at.result lt c.index-code-at.is, c.requires.few);
    }

pub listing-preserved : goal.listing-preserved
listing-preserved c =
    let lt : c.listing.at < length c.args.code.now = omega arith in
    joins_one branches_of c.args.code.now c.listing.at c.index-code-at.result c.listing.list.items c.put_branches.new.list.items lt c.index-code-at.is c.listing.invariant
    c.in_ok-put_branches.ensures
