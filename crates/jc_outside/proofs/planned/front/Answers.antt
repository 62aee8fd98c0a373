use Rattle.std.proofs.Common.{◌/◌, length, drop, sym, take-append-drop}
use Rattle.jc_outside.proofs.planned.front.Goals as goal

pub returns-then-fails-clause-begins : goal.returns-then-fails-clause-begins
returns-then-fails-clause-begins c = (drop (length c.args.bytes.now / 2) c.args.bytes.now, sym (take-append-drop (length c.args.bytes.now / 2) c.args.bytes.now))
