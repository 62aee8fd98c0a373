use Rattle.std.proofs.Common.{◌∙◌, ap}
use mir.Val.{bool_byte}
use Rattle.examples_methods.proofs.SlowLaws.{low_of_eight}
use Rattle.examples_methods.proofs.slow_union.byte_at.Goals as goal

pub returns : goal.returns
returns c =
    low_of_eight c.args.bits.now c.args.index c.from.result c.from-2.result c.from-3.result c.from-4.result c.from-5.result c.from-6.result c.from-7.result c.from-8.result
    (c.from.ensures ∙ ap bool_byte c.get.ensures) (c.from-2.ensures ∙ ap bool_byte c.get-2.ensures)
    (c.from-3.ensures ∙ ap bool_byte c.get-3.ensures) (c.from-4.ensures ∙ ap bool_byte c.get-4.ensures)
    (c.from-5.ensures ∙ ap bool_byte c.get-5.ensures) (c.from-6.ensures ∙ ap bool_byte c.get-6.ensures)
    (c.from-7.ensures ∙ ap bool_byte c.get-7.ensures) (c.from-8.ensures ∙ ap bool_byte c.get-8.ensures)
