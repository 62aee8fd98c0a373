use Rattle.std.proofs.Common.{◌⊎◌, inl, inr, ◌<◌, length, sym, ◌∙◌, arith}
use Rattle.jc_instrument_code.proofs.MergingLaws.{frame_there, other_there, same_there, leaves_other, takes_frame, takes_other}
use Rattle.jc_instrument_code.proofs.merging.merged_frames.Goals as goal
use Rattle.jc_instrument_code.proofs.merging.merged_frames.Goals.{then-at-frames, else-at-frames+then-other-others}

pub merging-preserved-then-is_other_next : goal.merging-preserved-then-is_other_next
merging-preserved-then-is_other_next c =
    let frames = c.args.frames.now in
    let others = c.args.others.now in
    let at = c.merging.at in
    let other = c.merging.other in
    let first = sym c.if-is_other_next.true ∙ c.is_other_next.ensures in
    let there = other_there frames others at other first in
    record {
      at_within = c.merging.invariant.at_within;
      other_within = omega (arith, there);
      so_far = takes_other frames others at other c.requires.frames c.requires.others c.index-others-other.result c.in_ok-next.next
          c.merging.all c.push.new.self _ there c.index-others-other.is first c.in_ok-next.ensures c.in_ok-push.ensures.ok
          c.merging.invariant.so_far;
    }

pub merging-preserved-then-is_other_there : goal.merging-preserved-then-is_other_there
merging-preserved-then-is_other_there c =
    let frames = c.args.frames.now in
    let others = c.args.others.now in
    let at = c.merging.at in
    let other = c.merging.other in
    let same = sym c.if-is_other_there.true ∙ c.is_other_there.ensures in
    let there = same_there frames others at other same in
    record {
      at_within = c.merging.invariant.at_within;
      other_within = omega (arith, there);
      so_far = leaves_other frames others at other c.requires.others c.merging.all _ same c.merging.invariant.so_far;
    }

pub merging-preserved : goal.merging-preserved
merging-preserved c =
    let frames = c.args.frames.now in
    let others = c.args.others.now in
    let at = c.merging.at in
    let other = c.merging.other in
    let first = sym c.if-is_other_next.false ∙ c.is_other_next.ensures in
    let apart = sym c.if-is_other_there.false ∙ c.is_other_there.ensures in
    let left : (at < length frames) ⊎ (other < length others) =
    elim c.if-at-frames.branch [ then-at-frames w ↦ inl w.if-at-frames.true | else-at-frames+then-other-others w ↦ inr w.if-other-others.true ] in
    let there = frame_there frames others at other first left in
    record {
      at_within = omega (arith, there);
      other_within = c.merging.invariant.other_within;
      so_far = takes_frame frames others at other c.requires.others c.index-frames-at.result c.in_ok-next-2.next c.merging.all
          c.push-else-is_other_there.new.self _ there c.index-frames-at.is first apart c.in_ok-next-2.ensures c.in_ok-push-2.ensures.ok
          c.merging.invariant.so_far;
    }
