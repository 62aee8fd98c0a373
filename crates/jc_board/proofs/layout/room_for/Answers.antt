use Rattle.std.proofs.Common.{arith, ◌+◌, div-add-mod'}
use Rattle.jc_board.proofs.layout.room_for.Goals as goal

pub returns : goal.returns
returns c = omega (arith, c.div_ceil.ensures, div-add-mod' c.args.count 64, div-add-mod' (c.args.count + 63) 64)
