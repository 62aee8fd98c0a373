use Rattle.std.proofs.Common.{map, inl, inr, rules, arith}
use Rattle.jc_methods.specs.VerificationTypes.{type_state_at}
use Rattle.jc_body.proofs.SizeLaws.{insns_short}
use Rattle.jc_body.proofs.StackMapLaws.{is_faulty, no_fault, stand_there, few_starts, offsets_of, nowhere_wide}
use Rattle.jc_body.proofs.stack_map.frames_of_table.Goals as goal

pub frame_fault-requires-clause-locals : goal.frame_fault-requires-clause-locals
frame_fault-requires-clause-locals c = omega (arith, c.in_ok-entry.ensures.entry.few)

pub frame_fault-requires-clause-few : goal.frame_fault-requires-clause-few
frame_fault-requires-clause-few c = few_starts _ _ _ c.requires.coded c.deref-2.result.now c.deref-2.ensures

pub frame_fault-requires-clause-offsets : goal.frame_fault-requires-clause-offsets
frame_fault-requires-clause-offsets c = offsets_of _ _ _ c.requires.coded c.deref.result.now c.deref-2.result.now c.deref.ensures c.deref-2.ensures

pub is_too_wide-requires : goal.is_too_wide-requires
is_too_wide-requires c = insns_short _ _ _ c.requires.coded

pub returns-in-Some-clause-refused : goal.returns-in-Some-clause-refused
returns-in-Some-clause-refused c =
    let method = c.args.method.now in
    inl (
      c.in-Some.place,
      c.bad_code.ensures,
      is_faulty c.entry_of.new.names method.class.now.pool method.owner.now method.member.now c.args.coded.now c.in_ok-entry.entry
          c.args.table.now c.in_ok-entry.ensures.entry c.requires.table c.deref.result.now c.deref-2.result.now c.deref.ensures c.deref-2.ensures
          c.in_ok-place.field-0 c.in-Some.place (search rules) (c.in_ok-place.ensures.answer c.entry_of.new.names),
    )

pub returns-then-is_too_wide-clause-refused : goal.returns-then-is_too_wide-clause-refused
returns-then-is_too_wide-clause-refused c =
    let method = c.args.method.now in
    inr (
      c.bad_code-then-is_too_wide.ensures,
      no_fault c.entry_of.new.names method.class.now.pool method.owner.now method.member.now c.args.coded.now c.in_ok-entry.entry
          c.args.table.now c.in_ok-entry.ensures.entry c.requires.table c.deref.result.now c.deref-2.result.now c.deref.ensures c.deref-2.ensures
          c.in_ok-place.field-0 (search rules) (c.in_ok-place.ensures.answer c.entry_of.new.names),
      search rules,
    )

pub returns-in-Ok-clause-frames : goal.returns-in-Ok-clause-frames
returns-in-Ok-clause-frames c =
    let method = c.args.method.now in
    let pool = method.class.now.pool in
    let stands = c.in-Ok.ensures.frames in
    record {
      frames_are = rw c.from_vec.ensures
          (stand_there c.entry_of.new.names pool method.owner.now method.member.now c.args.coded.now c.in_ok-entry.entry
          c.args.table.now c.in_ok-entry.ensures.entry c.requires.table c.deref-3.result.now c.deref-4.result.now c.deref-3.ensures c.deref-4.ensures
          (map (type_state_at c.read_frames.new.names) c.in-Ok.frames.items) stands);
      numbers = rw c.from_vec.ensures c.in-Ok.ensures.numbered;
      no_fault = no_fault c.entry_of.new.names pool method.owner.now method.member.now c.args.coded.now c.in_ok-entry.entry
          c.args.table.now c.in_ok-entry.ensures.entry c.requires.table c.deref.result.now c.deref-2.result.now c.deref.ensures c.deref-2.ensures
          c.in_ok-place.field-0 (search rules) (c.in_ok-place.ensures.answer c.entry_of.new.names);
      narrow = nowhere_wide c.args.coded.now (search rules);
    }

pub read_frames-requires-clause-locals : goal.read_frames-requires-clause-locals
read_frames-requires-clause-locals c = omega (arith, c.in_ok-entry.ensures.entry.few)

pub read_frames-requires-clause-few : goal.read_frames-requires-clause-few
read_frames-requires-clause-few c = few_starts _ _ _ c.requires.coded c.deref-4.result.now c.deref-4.ensures

pub read_frames-requires-clause-offsets : goal.read_frames-requires-clause-offsets
read_frames-requires-clause-offsets c = offsets_of _ _ _ c.requires.coded c.deref-3.result.now c.deref-4.result.now c.deref-3.ensures c.deref-4.ensures
