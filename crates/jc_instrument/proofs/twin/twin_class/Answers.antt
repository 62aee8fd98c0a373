use Rattle.std.proofs.Common.{◌++◌, ◌∷◌, [], ◌∙◌, ap}
use Rattle.std.proofs.lemmas.Result.{err_from_is_err_and}
use Rattle.jc_class.specs.declared.class_file.Member.{Member}
use Rattle.jc_instrument.proofs.TwinFromLaws.{twin_made}
use Rattle.jc_instrument.proofs.twin.twin_class.Goals as goal

pub returns-in_err-methods-clause-refused : goal.returns-in_err-methods-clause-refused
returns-in_err-methods-clause-refused c = λ others array works of.
    let p = err_from_is_err_and c.from_residual-in_err-methods.result c.from_residual-in_err-methods.ensures.1 in
    rw (p.1, p.2) (c.in_err-methods.ensures.refused others array works of.0)

pub returns-clause-twin : goal.returns-clause-twin
returns-clause-twin c = λ others array works of.
    twin_made c.args.class c.args.places.now c.args.ready others array works c.put_codes.new.pool c.in_ok-methods.methods
    (c.in_ok-methods.ensures.put others array works of.0) of.1 c.requires.giver c.requires.array c.requires.frames
    c.in_ok-attributes.attributes c.in_ok-fields.fields c.push.new.self c.in_ok-attributes.ensures c.in_ok-fields.ensures
    (c.in_ok-push.ensures.ok ∙ ap (λ (m : Member). c.in_ok-methods.methods ++ m ∷ []) c.in_ok-init_member.ensures)
