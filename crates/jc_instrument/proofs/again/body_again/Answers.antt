use Rattle.std.proofs.Common.{◌≡◌, ◌<◌, ℕ, length, sym, ◌∙◌, subst, arith}
use Rattle.std.proofs.lemmas.Option.{none-some, same_Some, slice_get_within}
use Rattle.jc_body.specs.BodyOf.{BodyOf}
use Rattle.jc_instrument.proofs.OneBodyLaws.{grown_body}
use Rattle.jc_instrument.proofs.PlannedLaws.{none_said}
use Rattle.jc_instrument.proofs.again.body_again.Goals as goal

pub read_body-requires-clause-exists : goal.read_body-requires-clause-exists
read_body-requires-clause-exists c =
    let is = c.requires.there.1 in
    let within : c.args.method < length c.args.class.now.methods = slice_get_within c.args.class.now.methods c.args.method is.method is.at in
    omega (arith, within, c.from.ensures)

pub unreachable-requires : goal.unreachable-requires
unreachable-requires c =
    let read = c.in-Ok-None.ensures in
    let b = c.requires.there.0 in
    let now = grown_body c.args.names.now c.read_body.new.names c.args.class.now c.args.method b read.names c.requires.there.1 in
    let here = subst (λ (number : ℕ). BodyOf c.read_body.new.names c.args.class.now number b) (sym c.from.ensures) now in
    none-some b (sym c.in-Ok-None.field-0-is ∙ read.some b here)

pub unreachable-requires-in-Err-Said : goal.unreachable-requires-in-Err-Said
unreachable-requires-in-Err-Said c =
    let w = c.in-Err-Said in
    let b = c.requires.there.0 in
    let now = grown_body c.args.names.now c.read_body.new.names c.args.class.now c.args.method b w.ensures.names c.requires.there.1 in
    let here = subst (λ (number : ℕ). BodyOf c.read_body.new.names c.args.class.now number b) (sym c.from.ensures) now in
    none_said w.field-0-0 (sym w.field-0-is ∙ w.ensures.some b here)

pub returns-in-Ok-Some-clause-body : goal.returns-in-Ok-Some-clause-body
returns-in-Ok-Some-clause-body c = λ b is.
    let read = c.in-Ok-Some.ensures in
    let now = grown_body c.args.names.now c.read_body.new.names c.args.class.now c.args.method b read.names is in
    let here = subst (λ (number : ℕ). BodyOf c.read_body.new.names c.args.class.now number b) (sym c.from.ensures) now in
    same_Some c.in-Ok-Some.body b (sym c.in-Ok-Some.field-0-is ∙ read.some b here)
