use Rattle.std.proofs.Common.{◌+◌, ◌<◌, length, arith, rules, sym, subst}
use Rattle.jc_workers.specs.declared.pool.Turn.{Turn}
use Rattle.jc_workers.specs.Drawing.{IsTurn}
use Rattle.jc_dump.specs.declared.seat.DumpingSeat.{DumpingSeat}
use Rattle.jc_dump.specs.OnBoard.{IsSeatOf, RanFrom}
use Rattle.jc_dump.proofs.running.take_turns.Goals as goal

pub returns : goal.returns
returns g c = (
  c.in_ok-map_vec.ensures.len,
  λ w d lt.
      let in_turns : w < length c.args.turns.items = omega (arith, c.in_ok-map_vec.ensures.len, lt, c.in_ok-map_vec.field-0.ok.0, c.args.turns.ok.0) in
      let gave = (c.in_ok-map_vec.ensures.each w d in_turns).1.call.met in
      search (rules, gave),
)

pub map_vec-requires-after_bounds : goal.map_vec-requires-after_bounds
map_vec-requires-after_bounds g c = λ κs bounds w turn lt is κs' at stored owned κs'' lives.
    let work = c.args.work.now in
    let runner = c.args.runner.now in (
      subst (λ (t : Turn DumpingSeat). IsTurn (IsSeatOf work.board.now work.part) (RanFrom work.board.now runner.program.now runner.plan.now)
          work.claims.now.table (work.cases + 1) t) (sym is) (c.requires.turns w turn lt),
      (c.requires.runner, (c.requires.cases, c.requires.counts)),
    )
