use Rattle.std.proofs.Common.{sym, ◌∙◌, ap}
use Rattle.jc_methods.specs.declared.body.What.TheVariants as whats
use Rattle.jc_methods.specs.VerificationTypes.{Grows}
use Rattle.jc_refs_check.proofs.CaughtLaws.{named_grows, used_later, used_again, used_other, used_more}
use Rattle.jc_refs_check.proofs.caught.add_class.Goals as goal

pub returns-then-contains_key-clause-used : goal.returns-then-contains_key-clause-used
returns-then-contains_key-clause-used c = λ uses are.
    used_again c.args.names.now uses c.args.used.now c.args.entry.now are (sym c.contains_key.ensures ∙ c.if-contains_key.true)

pub returns-in_ok-insert-in-Class-clause-used : goal.returns-in_ok-insert-in-Class-clause-used
returns-in_ok-insert-in-Class-clause-used c = λ uses are.
    let u = c.args.entry.now in let old = c.args.names.now in let new = c.number.new.self in let class = c.in_ok-number-in-Class.number in let name = c.deref.result.now in
    let grown : Grows old new = named_grows old new name c.in_ok-number-in-Class.ensures.names in
    used_more new uses c.args.used.now u (used_later old new uses c.args.used.now grown are) name class c.insert.new.self
    (sym c.contains_key.ensures ∙ c.if-contains_key.false)
    (c.in-Class.is ∙ ap whats.Class (sym c.deref.ensures)) (record { is = c.in_ok-number-in-Class.ensures.place })
    c.in_ok-insert-in-Class.ensures.updates.0

pub returns-in_default-clause-used : goal.returns-in_default-clause-used
returns-in_default-clause-used c = λ uses are.
    used_other c.args.names.now uses c.args.used.now c.args.entry.now are c.in_default.not-Class
