use Rattle.std.proofs.Common.{sym, ◌∙◌, ap, subst, Some}
use Rattle.jc_methods.proofs.MetNamesLaws.{name_grows}
use Rattle.jc_methods.specs.VerificationTypes.{Names, Grows}
use Rattle.jc_frames.specs.Running.{name_at}
use Rattle.jc_frames.proofs.MetLaws.{known_name, number_known, known_more}
use Rattle.jc_frames.proofs.building.class_number.Goals as goal

pub returns-in-Some-clause-met : goal.returns-in-Some-clause-met
returns-in-Some-clause-met c =
    sym (known_name c.args.names.now c.in-Some.number.now (name_at c.args.pool.now c.args.place)
    (number_known c.args.pool.now c.args.names.now c.args.known.now c.args.place c.in-Some.number.now c.requires c.in-Some.ensures.value))

pub returns-clause-known : goal.returns-clause-known
returns-clause-known c =
    let At : Names → Type 0 = λ l. Grows c.args.names.now l in
    known_more c.args.pool.now c.args.names.now c.number.new.self c.args.known.now c.insert.new.self c.args.place c.in_ok-number.number
    (subst At (sym c.in_ok-number.ensures.names) (name_grows c.args.names.now c.name_of_class.result.now)) c.requires
    (c.in_ok-number.ensures.place ∙ ap Some c.name_of_class.ensures) c.in_ok-insert.ensures.updates.0
