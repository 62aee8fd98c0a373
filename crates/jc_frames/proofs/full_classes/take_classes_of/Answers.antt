use Rattle.std.proofs.Common.{map, drop, ◌+◌}
use Rattle.std.proofs.lemmas.Result.{err_from_is_err_and}
use Rattle.jc_pool.proofs.AddingLaws.{extends_more}
use Rattle.jc_methods.specs.VerificationTypes.{class_names, verification_type}
use Rattle.jc_frames.proofs.TakenLaws.{all_taken, extends_itself, kinds_done, kinds_split, refuses_here, takes_more, taking_begun}
use Rattle.jc_frames.proofs.full_classes.take_classes_of.Goals as goal

pub taking-init : goal.taking-init
taking-init c = record {
  taking = taking_begun c.args.pool.now (class_names (map (verification_type c.args.names.now) c.args.kinds.now));
  taken = c.requires.taken;
  extends = extends_itself c.args.pool.now;
}

pub taking-preserved : goal.taking-preserved
taking-preserved c =
    let names = c.args.names.now in
    let ks = c.args.kinds.now in
    let i = c.taking.kind-index in
    record {
      taking = takes_more c.args.pool.now c.taking.pool c.take_class_of.new.pool (class_names (map (verification_type names) ks)) _ (class_names (map (verification_type names) (drop (i + 1) ks)))
          (class_names (map (verification_type names) (drop i ks))) (kinds_split names ks i _ c.taking-test.true) c.in_ok-take_class_of.ensures.classes c.taking.invariant.taking;
      taken = c.in_ok-take_class_of.ensures.taken;
      extends = extends_more c.args.pool.now c.taking.pool c.take_class_of.new.pool c.taking.invariant.extends c.in_ok-take_class_of.ensures.extends;
    }

pub returns-clause-classes : goal.returns-clause-classes
returns-clause-classes c =
    let names = c.args.names.now in
    let ks = c.args.kinds.now in
    all_taken c.args.pool.now c.taking.pool (class_names (map (verification_type names) ks)) (class_names (map (verification_type names) (drop c.taking.kind-index ks)))
    (kinds_done names ks c.taking.kind-index c.taking-test.false) c.taking.invariant.taking

pub returns-in_err-take_class_of-clause-refused : goal.returns-in_err-take_class_of-clause-refused
returns-in_err-take_class_of-clause-refused c =
    let names = c.args.names.now in
    let ks = c.args.kinds.now in
    let i = c.taking.kind-index in
    let p = err_from_is_err_and c.from_residual.result c.from_residual.ensures.1 in
    rw (p.1, p.2) (refuses_here c.args.pool.now c.taking.pool c.take_class_of.new.pool
    (class_names (map (verification_type names) ks)) _ (class_names (map (verification_type names) (drop (i + 1) ks)))
    (class_names (map (verification_type names) (drop i ks))) c.in_err-take_class_of.field-0.0 (kinds_split names ks i _ c.taking-test.true)
    c.in_err-take_class_of.ensures.refused c.taking.invariant.taking)

pub returns-in_err-take_class_of-clause-extends : goal.returns-in_err-take_class_of-clause-extends
returns-in_err-take_class_of-clause-extends c = extends_more c.args.pool.now c.taking.pool c.take_class_of.new.pool c.taking.invariant.extends c.in_err-take_class_of.ensures.extends
