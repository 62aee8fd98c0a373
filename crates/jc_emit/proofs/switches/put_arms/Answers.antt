use Rattle.std.proofs.Common.{◌<◌, length, get_or, sym, arith}
use Rattle.std.proofs.lemmas.List.Elements.{All-get_or}
use Rattle.jc_emit.specs.Branching.{arm_part_in}
use Rattle.jc_emit.specs.Written.{integer_in}
use Rattle.jc_emit.proofs.WritingLaws.{grows_piece}
use Rattle.jc_emit.proofs.switches.put_arms.Goals as goal

pub putting-preserved : goal.putting-preserved
putting-preserved c = λ land tells.
    let lands = c.args.lands.now in
    let targets = c.args.targets.now in
    let number = c.putting.number in
    let to = get_or targets number 0 in
    let lt : to < length lands = All-get_or (λ t. t < length lands) targets number 0 (omega arith) c.requires.within in
    grows_piece (integer_in c.args.source.constants.now) c.args.source.slot c.args.written.now c.putting.written c.put_behind.new.self (arm_part_in land targets c.args.ids.now) number
    (c.putting.invariant land tells) (c.in_ok-put_behind.ensures land (sym (tells to lt)))
