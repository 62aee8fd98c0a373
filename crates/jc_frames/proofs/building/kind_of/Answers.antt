use Rattle.std.proofs.Common.{length, sym, ap, subst}
use Rattle.jc_methods.specs.VerificationTypes.{object}
use Rattle.jc_frames.specs.Running.{name_at, IsNumberedValue}
use Rattle.jc_frames.specs.declared.method.Value.{Value}
use Rattle.jc_frames.proofs.MetLaws.{none_met, got, got_later}
use Rattle.jc_frames.proofs.building.kind_of.Goals as goal

pub returns-in-Of-clause-met : goal.returns-in-Of-clause-met
returns-in-Of-clause-met c numbered =
    let At : Value → Type 0 = λ v. IsNumberedValue (length c.args.names.now) v in
    let n = subst At c.in-Of.is numbered in
    rw c.in-Of.is (sym (none_met c.args.names.now c.in-Of.kind n))

pub returns-in_ok-number-in-ClassAt-clause-kind : goal.returns-in_ok-number-in-ClassAt-clause-kind
returns-in_ok-number-in-ClassAt-clause-kind c later grows =
    rw c.in-ClassAt.is (ap object (got_later c.class_number.new.names later c.in_ok-number-in-ClassAt.number (name_at c.args.pool.now c.in-ClassAt.place) grows c.in_ok-number-in-ClassAt.ensures.name))

pub returns-in_ok-number-in-ClassAt-clause-numbered : goal.returns-in_ok-number-in-ClassAt-clause-numbered
returns-in_ok-number-in-ClassAt-clause-numbered c numbered =
    (got c.class_number.new.names c.in_ok-number-in-ClassAt.number (name_at c.args.pool.now c.in-ClassAt.place) c.in_ok-number-in-ClassAt.ensures.name).0
