use Rattle.std.proofs.Common.{arith}
use Rattle.jc_refs_check.proofs.MemberTypeLaws.{next_held}
use Rattle.jc_refs_check.proofs.members.kinds_of.Goals as goal

pub numbering-preserved : goal.numbering-preserved
numbering-preserved c =
    next_held c.args.names.now c.numbering.names c.kind.new.names c.args.values.now c.numbering.value-index _ c.numbering.kinds c.push.new.self c.in_ok-kind.kind
    (omega arith) c.numbering.invariant c.in_ok-kind.ensures.names c.in_ok-kind.ensures.kind c.in_ok-kind.ensures.numbered c.in_ok-push.ensures.ok
