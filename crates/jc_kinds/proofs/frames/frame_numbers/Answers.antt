use Rattle.std.proofs.Common.{arith, refl, rules, ◌<◌, ◌-◌, length}
use Rattle.std.proofs.lemmas.List.Elements.{All-get_or}
use Rattle.jc_kinds.proofs.FrameLaws.{begins, goes_on, is_done}
use Rattle.jc_kinds.proofs.frames.frame_numbers.Goals as goal

pub numbering-init : goal.numbering-init
numbering-init c = begins c.args.frames.now c.args.count c.in_ok-numbers.numbers.items
    (c.in_ok-numbers.ensures.items_if_clones_equal (λ y same. same)) (search rules)

pub numbering-preserved : goal.numbering-preserved
numbering-preserved c =
    let room : c.numbering.number - 1 < length c.args.frames.now = omega (arith, c.numbering-test.true, c.numbering.invariant.within) in
    goes_on c.args.frames.now c.args.count c.numbering.number (c.numbering.number - 1) c.index-frames-number.result c.numbering.numbers.items _ c.numbering.invariant
    (omega (arith, c.numbering-test.true)) (All-get_or (λ f. f.at < c.args.count) c.args.frames.now (c.numbering.number - 1) c.index-frames-number.result room c.requires.within) refl

pub returns : goal.returns
returns c = is_done c.args.frames.now c.args.count c.numbering.number c.numbering.numbers.items c.numbering.invariant (omega (arith, c.numbering-test.false)) c.requires.within
