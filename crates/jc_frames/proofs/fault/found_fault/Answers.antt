use Rattle.std.proofs.Common.{[], ◌∷◌, ◌++◌, length, Some, sym, ◌∙◌, ap}
use Rattle.jc_bytes.specs.Decoder.{number_at}
use Rattle.jc_methods.specs.VerificationTypes.{type_state}
use Rattle.jc_bytes.specs.Parsing.{item}
use Rattle.jc_frames.specs.Running.{before, found_as}
use Rattle.jc_frames.specs.Table.{fault_of}
use Rattle.jc_frames.proofs.StepLaws.{begins_by, stopped_by, walks_by}
use Rattle.jc_frames.proofs.WalkLaws.{count_cut, nothing_left, bytes_left, none_left, some_left}
use Rattle.jc_frames.proofs.fault.found_fault.Goals as goal

pub returns-in_default : goal.returns-in_default
returns-in_default c names =
    sym (ap fault_of (count_cut c.args.method.now (type_state names c.args.entry.now) c.args.table.now _
    (ap (item (number_at 2)) (sym c.new-reader.ensures.left) ∙ c.in_default.ensures.none)))

pub checking-init : goal.checking-init
checking-init c = record {
  running = c.in_ok-running.ensures.running;
  walking = λ names. (
    [],
    begins_by c.args.method.now names (type_state names c.args.entry.now) c.args.table.now c.in-Some.count c.in_ok-running.running
        c.new-reader.result.left c.table_count.new.reader.left c.new-reader.ensures.left (c.in_ok-running.ensures.values c.args.method.now.pool names) c.in-Some.ensures.count,
  );
}

pub returns-in-None : goal.returns-in-None
returns-in-None c names =
    let w = c.checking.invariant.walking names in
    ap Some c.from.ensures
    ∙ sym (ap fault_of (stopped_by c.args.method.now names (type_state names c.args.entry.now) c.args.table.now c.in-Some.count c.checking.number w.0 c.checking.running
    c.checking.reader.left _ c.in_ok-next_frame.field-0 c.checking-test.true w.1 (c.in_ok-next_frame.ensures.says names) c.in-None.is))

pub checking-preserved : goal.checking-preserved
checking-preserved c = record {
  running = let r = c.in_ok-next_frame.ensures.running in rw c.in-Some-2.is at r;
  walking = λ names. let w = c.checking.invariant.walking names in (
    w.0 ++ (found_as c.args.method.now names c.next_frame.new.running c.in-Some-2.field-0).frame ∷ [],
    walks_by c.args.method.now names (type_state names c.args.entry.now) c.args.table.now c.in-Some.count c.checking.number w.0 c.checking.running
        c.next_frame.new.running c.checking.reader.left c.next_frame.new.reader.left c.in_ok-next_frame.field-0 c.in-Some-2.field-0 c.checking-test.true w.1
        (c.in_ok-next_frame.ensures.says names) c.in-Some-2.is,
  );
}

pub returns-then-is_ok : goal.returns-then-is_ok
returns-then-is_ok c names =
    let w = c.checking.invariant.walking names in
    sym (ap fault_of (bytes_left c.args.method.now (type_state names c.args.entry.now) c.args.table.now c.in-Some.count c.checking.number w.0
    (before c.args.method.now.pool names c.checking.running) c.checking.reader.left c.checking-test.false w.1
    (some_left c.u8.result c.is_ok.result (length c.checking.reader.left) c.is_ok.ensures.value c.if-is_ok.true c.u8.ensures.short.1)))

pub returns : goal.returns
returns c names =
    let w = c.checking.invariant.walking names in
    sym (ap fault_of (nothing_left c.args.method.now (type_state names c.args.entry.now) c.args.table.now c.in-Some.count c.checking.number w.0
    (before c.args.method.now.pool names c.checking.running) c.checking.reader.left c.checking-test.false w.1
    (none_left c.u8.result c.is_ok.result (length c.checking.reader.left) c.is_ok.ensures.value c.if-is_ok.false c.u8.ensures.short.0)))
