use Rattle.std.proofs.Common.{inl, length}
use Rattle.jc_methods.proofs.NumberedLaws.{frames_numbered, grown_count}
use Rattle.jc_instrument.proofs.LookedLaws.{other_left}
use Rattle.jc_instrument.proofs.looking.look_at_body.Goals as goal

pub returns-in_ok-look_at_passing-in-Ok-clause-looks : goal.returns-in_ok-look_at_passing-in-Ok-clause-looks
returns-in_ok-look_at_passing-in-Ok-clause-looks c =
    let old = c.args.names.now in
    let names = c.checked_states.new.names in
    let found = c.in-Ok.ensures in
    let looked = c.in_ok-look_at_passing-in-Ok.ensures in
    let numbered = frames_numbered (length old) (length names) c.args.body.frames (grown_count old names found.grows) c.requires.frames in
    inl (record {
      checked = found.passes;
      frames = looked.frames;
      on = λ fine.
          other_left names c.args.body c.args.so_far.now c.look_at_passing.new.so_far c.checked_states.new.room (looked.on names numbered found.states);
    })
