use Rattle.std.proofs.Common.{◌+◌, length, map, drop, sym, subst}
use Rattle.std.proofs.lemmas.List.Elements.{All-from_recursion}
use Rattle.std.proofs.lemmas.Result.{err_from_is_err_and}
use Rattle.jc_pool.proofs.AddingLaws.{extends_more}
use Rattle.jc_methods.specs.declared.body.FrameAt.{FrameAt}
use Rattle.jc_methods.specs.VerificationTypes.{type_state_at, IsNumberedState}
use Rattle.jc_frames.specs.FullTable.{named_by, named_by_all}
use Rattle.jc_frames.proofs.TakenLaws.{all_taken, extends_itself, frames_done, frames_split, none_taken, refuses_here, takes_more, taking_begun}
use Rattle.jc_frames.proofs.full_classes.take_classes.Goals as goal

pub taking-init : goal.taking-init
taking-init c = record {
  taking = taking_begun c.args.pool.now (named_by_all (map (type_state_at c.args.names.now) c.args.frames.now));
  taken = none_taken c.args.pool.now c.args.names.now c.new-met.result c.new-met.ensures.empty;
  extends = extends_itself c.args.pool.now;
}

pub take_classes_in-requires-clause-numbers : goal.take_classes_in-requires-clause-numbers
take_classes_in-requires-clause-numbers c =
    let Numbered : FrameAt → Type 0 = λ f. IsNumberedState (length c.args.names.now) f.state in
    subst Numbered (sym c.frame-item.is) (All-from_recursion Numbered c.args.frames.now c.requires c.taking.frame-index c.frame-item.result c.taking-test.true)

pub taking-preserved : goal.taking-preserved
taking-preserved c =
    let names = c.args.names.now in
    let fs = c.args.frames.now in
    let i = c.taking.frame-index in
    let f = c.frame-item.result in
    record {
      taking = takes_more c.args.pool.now c.taking.pool c.take_classes_in.new.pool (named_by_all (map (type_state_at names) fs))
          (named_by (type_state_at names f)) (named_by_all (map (type_state_at names) (drop (i + 1) fs)))
          (named_by_all (map (type_state_at names) (drop i fs))) (frames_split names fs i f c.taking-test.true c.frame-item.is) c.in_ok-take_classes_in.ensures.classes c.taking.invariant.taking;
      taken = c.in_ok-take_classes_in.ensures.taken;
      extends = extends_more c.args.pool.now c.taking.pool c.take_classes_in.new.pool c.taking.invariant.extends c.in_ok-take_classes_in.ensures.extends;
    }

pub returns-clause-classes : goal.returns-clause-classes
returns-clause-classes c =
    let names = c.args.names.now in
    let fs = c.args.frames.now in
    all_taken c.args.pool.now c.taking.pool (named_by_all (map (type_state_at names) fs)) (named_by_all (map (type_state_at names) (drop c.taking.frame-index fs)))
    (frames_done names fs c.taking.frame-index c.taking-test.false) c.taking.invariant.taking

pub returns-in_err-take_classes_in-clause-refused : goal.returns-in_err-take_classes_in-clause-refused
returns-in_err-take_classes_in-clause-refused c =
    let names = c.args.names.now in
    let fs = c.args.frames.now in
    let i = c.taking.frame-index in
    let f = c.frame-item.result in
    let p = err_from_is_err_and c.from_residual.result c.from_residual.ensures.1 in
    rw (p.1, p.2) (refuses_here c.args.pool.now c.taking.pool c.take_classes_in.new.pool (named_by_all (map (type_state_at names) fs)) (named_by (type_state_at names f))
    (named_by_all (map (type_state_at names) (drop (i + 1) fs))) (named_by_all (map (type_state_at names) (drop i fs))) c.in_err-take_classes_in.field-0.0
    (frames_split names fs i f c.taking-test.true c.frame-item.is) c.in_err-take_classes_in.ensures.refused c.taking.invariant.taking)

pub returns-in_err-take_classes_in-clause-extends : goal.returns-in_err-take_classes_in-clause-extends
returns-in_err-take_classes_in-clause-extends c =
    extends_more c.args.pool.now c.taking.pool c.take_classes_in.new.pool c.taking.invariant.extends c.in_err-take_classes_in.ensures.extends
