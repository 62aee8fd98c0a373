use Rattle.std.proofs.Common.{◌+◌, sym, ◌∙◌, ap, drop, ◌&&◌}
use Rattle.jc_refs_check.specs.KindSuits.{kinds_suit}
use Rattle.jc_refs_check.proofs.SuitLaws.{suit-unequal, suit_on, suit_done}
use Rattle.jc_refs_check.proofs.suits.suit_each.Goals as goal

pub returns-then-kinds-wants : goal.returns-then-kinds-wants
returns-then-kinds-wants c = sym (suit-unequal c.args.classes.now.names c.args.kinds.now c.args.wants.now c.if-kinds-wants.true)

pub returns-then-not-suits : goal.returns-then-not-suits
returns-then-not-suits c = sym (c.suiting.invariant ∙ suit_on c.args.classes.now.names c.args.kinds.now c.args.wants.now c.suiting.i c.suiting-test.true c.if-kinds-wants.false
    ∙ ap (λ b. b && kinds_suit c.args.classes.now.names (drop (c.suiting.i + 1) c.args.kinds.now) (drop (c.suiting.i + 1) c.args.wants.now)) (sym c.suits.ensures ∙ c.if-not-suits.true))

pub suiting-preserved : goal.suiting-preserved
suiting-preserved c = c.suiting.invariant ∙ suit_on c.args.classes.now.names c.args.kinds.now c.args.wants.now c.suiting.i c.suiting-test.true c.if-kinds-wants.false
    ∙ ap (λ b. b && kinds_suit c.args.classes.now.names (drop (c.suiting.i + 1) c.args.kinds.now) (drop (c.suiting.i + 1) c.args.wants.now)) (sym c.suits.ensures ∙ c.if-not-suits.false)

pub returns : goal.returns
returns c = sym (c.suiting.invariant ∙ suit_done c.args.classes.now.names c.args.kinds.now c.args.wants.now c.suiting.i c.suiting-test.false c.if-kinds-wants.false)
