use Rattle.std.proofs.Common.{ℕ, List, length, sym, subst, arith}
use Rattle.jc_base.specs.declared.FrameAt.{FrameAt}
use Rattle.jc_frames.specs.FullTable.{CanBeWritten}
use Rattle.jc_frames.proofs.WrittenLaws.{can_be_written}
use Rattle.tests_bodies.proofs.tables.put_full.Goals as goal

pub write_full-requires : goal.write_full-requires
write_full-requires c =
    let code = c.in_ok-decoded.decoded.code in
    let starts = c.in_ok-decoded.decoded.starts in
    let offsets = c.in_ok-decoded.ensures.offsets in
    let count = offsets.count in
    let Can : List ℕ → List FrameAt → Type 0 = λ at frames. CanBeWritten at (length c.frames_of.new.names) frames in
    subst (λ (at : List ℕ). Can at c.deref.result.now) (sym c.deref-2.ensures) (subst (Can starts) (sym c.deref.ensures.value)
    (can_be_written code c.args.ground.method.max_locals c.args.ground.method.max_stack (length c.frames_of.new.names) starts
    c.in_ok-frames.frames.items c.in_ok-frames.ensures.made c.in_ok-frames.ensures.numbered (omega (arith, c.ranges.ground)) (omega (arith, c.ranges.ground))
    (omega (arith, c.if-len-gt-MOST_CODE.false, c.len.ensures, c.deref.ensures)) (omega (arith, count)) (λ k lt. offsets.rising k (omega (arith, lt, count))) c.in_ok-decoded.ensures.short))
