use Rattle.std.proofs.Common.{ℕ, ◌+◌, List, ◌++◌, length, map, drop, get_or, refl, sym, ap, subst}
use Rattle.std.proofs.lemmas.List.Elements.{All-from_recursion}
use Rattle.std.specs.List.{AllByRecursion}
use Rattle.jc_bytes.proofs.AppendingLaws.{drop_is}
use Rattle.jc_methods.specs.declared.body.FrameAt.{FrameAt}
use Rattle.jc_methods.specs.VerificationTypes.{Names, type_state_at}
use Rattle.jc_frames.specs.FullFrames.{full_texts}
use Rattle.jc_frames.specs.FullTable.{FitsFull, HasPlace, OffsetsRise, named_by, named_by_all}
use Rattle.jc_frames.proofs.FullTextLaws.{both_parts, frames_more, frames_written}
use Rattle.jc_frames.proofs.TakenLaws.{frames_split, none_known}
use Rattle.jc_frames.proofs.full_frames.put_frames.Goals as goal

pub writing-init : goal.writing-init
writing-init c = record {
  text = λ p are. refl;
  rising = c.requires.rising;
  stand = c.requires.stand;
  known = none_known c.args.refers.now.pool.now c.args.refers.now.names.now c.new-known.result c.new-known.ensures.empty;
}

pub put_frame-requires-clause-fits : goal.put_frame-requires-clause-fits
put_frame-requires-clause-fits c =
    let Fits : FrameAt → Type 0 = λ f. FitsFull (length c.args.refers.now.starts.now) (length c.args.refers.now.names.now) f in
    subst Fits (sym c.frame-item.is) (All-from_recursion Fits c.args.frames.now c.requires.each c.writing.frame-index c.frame-item.result c.writing-test.true)

pub put_frame-requires-clause-base : goal.put_frame-requires-clause-base
put_frame-requires-clause-base c =
    (subst (λ (l : List FrameAt). OffsetsRise c.args.refers.now.starts.now c.writing.base l)
    (drop_is c.args.frames.now c.writing.frame-index c.frame-item.result c.writing-test.true c.frame-item.is) c.writing.invariant.rising).0

pub put_frame-requires-clause-stand : goal.put_frame-requires-clause-stand
put_frame-requires-clause-stand c =
    let names = c.args.refers.now.names.now in
    let fs = c.args.frames.now in
    let i = c.writing.frame-index in
    let f = c.frame-item.result in
    let Stand : Names → Type 0 = λ l. AllByRecursion (HasPlace c.args.refers.now.pool.now) l in
    (both_parts (HasPlace c.args.refers.now.pool.now) (named_by (type_state_at names f)) (named_by_all (map (type_state_at names) (drop (i + 1) fs)))
    (subst Stand (frames_split names fs i f c.writing-test.true c.frame-item.is) c.writing.invariant.stand)).0

pub writing-preserved : goal.writing-preserved
writing-preserved c =
    let names = c.args.refers.now.names.now in
    let starts = c.args.refers.now.starts.now in
    let fs = c.args.frames.now in
    let i = c.writing.frame-index in
    let f = c.frame-item.result in
    let Stand : Names → Type 0 = λ l. AllByRecursion (HasPlace c.args.refers.now.pool.now) l in
    let rest = named_by_all (map (type_state_at names) (drop (i + 1) fs)) in
    record {
      text = λ p are. frames_more p names fs i c.writing.base (get_or starts f.at 0 + 1) f
          (c.args.into.now.items ++ full_texts p 0 (map (type_state_at names) fs)) c.writing.into.items c.put_frame.new.into.items
          c.writing-test.true c.frame-item.is (ap (λ (n : ℕ). n + 1) (sym (are.start f.at)))
          (c.in_ok-put_frame.ensures.text p are) (c.writing.invariant.text p are);
      rising = (subst (λ (l : List FrameAt). OffsetsRise starts c.writing.base l) (drop_is fs i f c.writing-test.true c.frame-item.is) c.writing.invariant.rising).1;
      stand = (both_parts (HasPlace c.args.refers.now.pool.now) (named_by (type_state_at names f)) rest
          (subst Stand (frames_split names fs i f c.writing-test.true c.frame-item.is) c.writing.invariant.stand)).1;
      known = c.in_ok-put_frame.ensures.known;
    }

pub returns : goal.returns
returns c p are =
    frames_written p c.args.refers.now.names.now c.args.frames.now c.writing.frame-index c.writing.base
    (c.args.into.now.items ++ full_texts p 0 (map (type_state_at c.args.refers.now.names.now) c.args.frames.now)) c.writing.into.items c.writing-test.false (c.writing.invariant.text p are)
