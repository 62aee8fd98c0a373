use Rattle.std.proofs.Common.{◌<◌, length, arith, rules}
use Rattle.jc_workers.proofs.running.take_turns.Goals as goal

pub returns : goal.returns
returns g c = (
  c.in_ok-map_vec.ensures.len,
  λ w d lt.
      let in_turns : w < length c.args.turns.items = omega (arith, c.in_ok-map_vec.ensures.len, lt, c.in_ok-map_vec.field-0.ok.0, c.args.turns.ok.0) in
      let gave = (c.in_ok-map_vec.ensures.each w d in_turns).1.call.met in
      search (rules, gave),
)
