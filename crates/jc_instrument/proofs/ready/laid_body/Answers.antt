use Rattle.std.proofs.Common.{◌≡◌, ◌≤◌, ℕ, [], List, sym, ◌∙◌, ap, subst, rules}
use Rattle.std.proofs.lemmas.Result.{err_from_is_err_and}
use Rattle.jc_methods.specs.declared.insn.Insn.{Insn}
use Rattle.jc_bytes.specs.Failing.{Said}
use Rattle.jc_layout.specs.LaidBody.{ready_code}
use Rattle.jc_layout.specs.Layable.{IsLayable}
use Rattle.jc_layout.specs.Layout.{chosen_length}
use Rattle.jc_instrument_code.proofs.LaidLaws.{laid_length}
use Rattle.jc_instrument_reread.specs.WrittenCode.{ready_emission}
use Rattle.jc_instrument.specs.Constants.{given_with}
use Rattle.jc_instrument.specs.Probing.{IsRefusedAsLarge}
use Rattle.jc_instrument.proofs.ProbingLaws.{emission_code}
use Rattle.jc_instrument.proofs.ready.laid_body.Goals as goal

pub laid-requires : goal.laid-requires
laid-requires c =
    let same : c.deref-2.result.now ≡ c.ready_code.result = search rules in
    subst IsLayable (sym same) (c.ready_code.ensures.layable c.in_ok-code.ensures.layable)

pub returns-clause-laid : goal.returns-clause-laid
returns-clause-laid c = λ first states array is.
    let b = c.args.body.now in
    let constants = c.args.constants.now in
    let same : c.deref-2.result.now ≡ c.ready_code.result = search rules in
    c.in_ok-laid.ensures.laid (ready_emission b first states (given_with constants array) constants.giver)
    (emission_code constants b first states array ∙ ap (ready_code constants.fetch constants.giver) (sym (c.in_ok-code.ensures.code first is))
    ∙ sym c.ready_code.ensures.code ∙ sym same)

pub returns-clause-short : goal.returns-clause-short
returns-clause-short c = λ first is.
    let b = c.args.body.now in
    let constants = c.args.constants.now in
    let same : c.deref-2.result.now ≡ c.ready_code.result = search rules in
    let e = ready_emission b first [] (given_with constants 0) constants.giver in
    subst (λ (code : List Insn). chosen_length code ≤ 65535) (emission_code constants b first [] 0)
    (laid_length e c.in_ok-laid.laid (c.in_ok-laid.ensures.laid e
    (emission_code constants b first [] 0 ∙ ap (ready_code constants.fetch constants.giver) (sym (c.in_ok-code.ensures.code first is))
    ∙ sym c.ready_code.ensures.code ∙ sym same)))

pub returns-in_err-laid-clause-refused : goal.returns-in_err-laid-clause-refused
returns-in_err-laid-clause-refused c = λ first is.
    let r = c.from_residual-in_err-laid in
    let p = err_from_is_err_and r.result r.ensures.1 in
    let e = c.in_err-laid.field-0.0 in
    let constants = c.args.constants.now in
    let same : c.deref-2.result.now ≡ c.ready_code.result = search rules in
    rw (p.1, p.2)
    (subst (λ (code : List Insn). Said e (IsRefusedAsLarge c.args.body.now.method (chosen_length code)))
    (same ∙ c.ready_code.ensures.code ∙ ap (ready_code constants.fetch constants.giver) (c.in_ok-code.ensures.code first is)) c.in_err-laid.ensures.refused)
