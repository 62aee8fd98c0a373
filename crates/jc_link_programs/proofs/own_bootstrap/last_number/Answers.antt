use Rattle.std.proofs.Common.{◌≡◌, ℕ, true, false, Option, Some, refl, rules, sym, subst, ◌∙◌, true≢false}
use Rattle.std.specs.Prelude.{IfNone}
use Rattle.jc_methods.specs.ProbeMembers.{bootstraps_name}
use Rattle.jc_body.specs.Attributes.{bodies_of}
use Rattle.jc_link_programs.specs.Statics.{single}
use Rattle.jc_link_programs.specs.OwnBootstrap.{IsLastBootstrap}
use Rattle.jc_link_programs.proofs.OwnBootstrapLaws.{last_number_is, none_ended, other_last}
use Rattle.jc_link_programs.proofs.own_bootstrap.last_number.Goals as goal

pub returns-in_err-last-clause-none : goal.returns-in_err-last-clause-none
returns-in_err-last-clause-none c =
    let d = c.deref.ensures in
    let e = c.in_ok-body.ensures in
    let there : single (bodies_of c.args.class.now.pool bootstraps_name c.args.class.now.attributes) ≡ Some c.in_ok-body.body.now = cc in
    subst (λ (r : Option ℕ). IfNone r ((number : ℕ) → IsLastBootstrap c.args.class.now c.args.name.now number → ⊥)) (sym c.from_residual-in_err-last.ensures)
    (none_ended c.args.class.now c.args.name.now c.in_ok-body.body.now there (c.in_err-last.ensures.none.0 refl))

pub returns-then-not-is_own-clause-none : goal.returns-then-not-is_own-clause-none
returns-then-not-is_own-clause-none c =
    let d = c.deref.ensures in
    let e = c.in_ok-body.ensures in
    let there : single (bodies_of c.args.class.now.pool bootstraps_name c.args.class.now.attributes) ≡ Some c.in_ok-body.body.now = cc in
    let no : c.is_own.result ≡ false = search rules in
    other_last c.args.class.now c.args.name.now c.in_ok-body.body.now c.in_ok-last.last there c.in_ok-last.ensures.exact
    (λ own. true≢false (sym (c.is_own.ensures.1 own) ∙ no))

pub returns-clause-some : goal.returns-clause-some
returns-clause-some c =
    let d = c.deref.ensures in
    let e = c.in_ok-body.ensures in
    let there : single (bodies_of c.args.class.now.pool bootstraps_name c.args.class.now.attributes) ≡ Some c.in_ok-body.body.now = cc in
    let yes : c.is_own.result ≡ true = search rules in
    last_number_is c.args.class.now c.args.name.now c.in_ok-body.body.now c.in_ok-last.last c.in_ok-count.count there c.in_ok-last.ensures.some
    (c.is_own.ensures.0 yes) c.in_ok-count.ensures.exact
