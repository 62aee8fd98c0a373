use Rattle.std.proofs.Common.{◌+◌, List, length, map, refl, sym, ◌∙◌, ap, subst}
use Rattle.std.proofs.lemmas.List.Elements.{All-from_recursion}
use Rattle.jc_bytes.specs.Decoder.{number_at}
use Rattle.jc_methods.specs.VerificationTypes.{TypeState, TypeStateAt, type_state, type_state_at, IsNumbered}
use Rattle.jc_bytes.specs.Parsing.{item}
use Rattle.jc_methods.specs.declared.body.FrameAt.{FrameAt}
use Rattle.jc_frames.specs.Answers.{bad_frame, seen_names}
use Rattle.jc_frames.specs.Running.{before}
use Rattle.jc_frames.specs.Table.{outcome_of}
use Rattle.jc_frames.proofs.BuildingLaws.{values_numbered}
use Rattle.jc_methods.proofs.MetNamesLaws.{grows_none, grows_both}
use Rattle.jc_bytes.specs.Names.{met}
use Rattle.jc_methods.proofs.NumberedLaws.{seen_grown}
use Rattle.jc_frames.proofs.MetLaws.{frames_met}
use Rattle.jc_frames.proofs.ReadLaws.{frames_pushed, built_more, refusal_at}
use Rattle.jc_frames.proofs.StepLaws.{begins_by, stopped_by, walks_by}
use Rattle.jc_frames.proofs.WalkLaws.{Walking, count_cut, nothing_left, bytes_left, none_left, some_left}
use Rattle.jc_frames.proofs.read.found_frames.Goals as goal

pub returns-in_default-clause-refused : goal.returns-in_default-clause-refused
returns-in_default-clause-refused c = (
  0,
  c.bad_frame.ensures,
  count_cut c.args.method.now (type_state c.args.names.now c.args.entry.now) c.args.table.now _
      (ap (item (number_at 2)) (sym c.new-reader.ensures.left) ∙ c.in_default.ensures.none),
)

pub reading-init : goal.reading-init
reading-init c =
    let empty = c.new-known.ensures.empty in
    record {
      running = c.in_ok-running.ensures.running;
      known = record { at = λ place. rw empty tt };
      grows = grows_none c.args.names.now;
      walking = λ later grows.
          let At : List FrameAt → Type 0 = λ l. Walking c.args.method.now (type_state later c.args.entry.now) c.args.table.now c.in-Some.count 0 (map (type_state_at later) l)
          (before c.args.method.now.pool later c.in_ok-running.running) c.table_count.new.reader.left in
          subst At (sym c.new-frames.ensures.items) (begins_by c.args.method.now later (type_state later c.args.entry.now) c.args.table.now c.in-Some.count c.in_ok-running.running
          c.new-reader.result.left c.table_count.new.reader.left c.new-reader.ensures.left (c.in_ok-running.ensures.values c.args.method.now.pool later) c.in-Some.ensures.count);
      values = c.in_ok-running.ensures.numbered (length c.args.names.now) (All-from_recursion (IsNumbered (length c.args.names.now)) c.args.entry.now.locals c.requires.numbered.locals);
      numbered = rw c.new-frames.ensures.items tt;
      met = rw c.new-frames.ensures.items refl;
    }

pub returns-in-None-clause-refused : goal.returns-in-None-clause-refused
returns-in-None-clause-refused c =
    let mid = c.reading.names in
    refusal_at c.args.names.now mid c.args.entry.now c.args.method.now c.args.table.now c.reading.number c.bad_frame-in-None.result c.reading.invariant.grows c.requires.numbered
    (c.bad_frame-in-None.ensures ∙ ap bad_frame c.from.ensures)
    (stopped_by c.args.method.now mid (type_state mid c.args.entry.now) c.args.table.now c.in-Some.count c.reading.number (map (type_state_at mid) c.reading.frames.items) c.reading.running
    c.reading.reader.left _ c.in_ok-frame.field-0 c.reading-test.true (c.reading.invariant.walking mid (grows_none mid)) (c.in_ok-frame.ensures.says mid) c.in-None.is)

pub reading-preserved : goal.reading-preserved
reading-preserved c =
    let inv = c.reading.invariant in
    let mid = c.reading.names in
    let new = c.built_frame.new.names in
    let built = c.in_ok-built_frame-in-Some-2 in
    let grown = built.ensures.grows in
    let values = c.in_ok-frame.ensures.numbered (length mid) inv.values in
    let running = c.in_ok-frame.ensures.running in
    let stack = c.in_ok-frame.ensures.unnumbered in
    record {
      running = rw c.in-Some-2.is at running;
      known = built.ensures.known;
      grows = grows_both c.args.names.now mid new inv.grows grown;
      walking = λ later grows. built_more c.args.method.now later (type_state later c.args.entry.now) c.args.table.now c.in-Some.count (c.reading.number + 1) c.reading.frames.items
          c.push.new.self.items built.field-0 c.next_frame.new.running c.in-Some-2.frame (before c.args.method.now.pool later c.next_frame.new.running) c.next_frame.new.reader.left
          c.in_ok-push-in-Some-2.ensures.items (built.ensures.seen later grows)
          (walks_by c.args.method.now later (type_state later c.args.entry.now) c.args.table.now c.in-Some.count c.reading.number (map (type_state_at later) c.reading.frames.items)
          c.reading.running c.next_frame.new.running c.reading.reader.left c.next_frame.new.reader.left c.in_ok-frame.field-0 c.in-Some-2.frame c.reading-test.true
          (inv.walking later (grows_both mid new later grown grows)) (c.in_ok-frame.ensures.says later) c.in-Some-2.is);
      values = values_numbered mid new c.next_frame.new.running.values.items grown values;
      numbered = frames_pushed mid new c.reading.frames.items c.push.new.self.items built.field-0 c.in_ok-push-in-Some-2.ensures.items grown inv.numbered
          (built.ensures.numbered values (rw c.in-Some-2.is at stack));
      met = frames_met c.args.names.now mid new c.reading.frames.items c.push.new.self.items built.field-0 grown inv.numbered c.in_ok-push-in-Some-2.ensures.items inv.met
          (built.ensures.met values (rw c.in-Some-2.is at stack) ∙ ap (λ (x : TypeStateAt). met mid (seen_names x.state)) (sym (built.ensures.seen new (grows_none new))));
    }

pub returns-then-is_ok-clause-refused : goal.returns-then-is_ok-clause-refused
returns-then-is_ok-clause-refused c =
    let mid = c.reading.names in
    refusal_at c.args.names.now mid c.args.entry.now c.args.method.now c.args.table.now 0 c.bad_frame-then-is_ok.result c.reading.invariant.grows c.requires.numbered c.bad_frame-then-is_ok.ensures
    (bytes_left c.args.method.now (type_state mid c.args.entry.now) c.args.table.now c.in-Some.count c.reading.number (map (type_state_at mid) c.reading.frames.items)
    (before c.args.method.now.pool mid c.reading.running) c.reading.reader.left c.reading-test.false (c.reading.invariant.walking mid (grows_none mid))
    (some_left c.u8.result c.is_ok.result (length c.reading.reader.left) c.is_ok.ensures.value c.if-is_ok.true c.u8.ensures.short.1))

pub returns-clause-frames : goal.returns-clause-frames
returns-clause-frames c =
    let mid = c.reading.names in
    ap (λ (s : TypeState). outcome_of c.args.method.now s c.args.table.now) (sym (seen_grown c.args.names.now mid c.args.entry.now c.reading.invariant.grows c.requires.numbered))
    ∙ nothing_left c.args.method.now (type_state mid c.args.entry.now) c.args.table.now c.in-Some.count c.reading.number (map (type_state_at mid) c.reading.frames.items)
    (before c.args.method.now.pool mid c.reading.running) c.reading.reader.left c.reading-test.false (c.reading.invariant.walking mid (grows_none mid))
    (none_left c.u8.result c.is_ok.result (length c.reading.reader.left) c.is_ok.ensures.value c.if-is_ok.false c.u8.ensures.short.0)
