use Rattle.std.proofs.Common.{◌≡◌, ◌+◌, ◌*◌, ◌≤◌, ◌++◌, drop}
use Rattle.jc_emit.specs.Framing.{id_frames}
use Rattle.jc_emit.proofs.frames.put_arms.Given as goal

-- what is there and what is still to come are all of it
abbrev pub invariant-putting : goal.invariant-putting
invariant-putting l = record {
  near : l.here ≤ l.first + 5 * l.id-index;
  rest : l.frames.items ++ id_frames l.here l.state (drop l.id-index l.ids) ≡ l.initial.frames.items ++ id_frames l.first l.state l.ids;
}
