use Rattle.std.proofs.Common.{Some, None, sym, ◌∙◌}
use Rattle.jc_machine_code.proofs.SiteLaws.{callee_found}
use Rattle.jc_machine_code.proofs.site.Site.callee_named.Goals as goal

pub returns-in_err-method : goal.returns-in_err-method
returns-in_err-method c = λ program at site.
    let k = c.in_ok-index.ensures program site.index in
    c.from_residual-in_err-method.ensures
    ∙ callee_found program c.args.named.class.now c.args.named.name.now c.args.named.desc.now c.in_ok-class.class k.linked None
    (sym c.in_ok-class.was ∙ c.class_named.ensures program site.index) k.class_is
    (sym c.in_err-method.was ∙ c.method_named.ensures c.in_ok-class.class k.linked k.indexed)

pub returns : goal.returns
returns c = λ program at site.
    let k = c.in_ok-index.ensures program site.index in
    callee_found program c.args.named.class.now c.args.named.name.now c.args.named.desc.now c.in_ok-class.class k.linked (Some c.in_ok-method.method)
    (sym c.in_ok-class.was ∙ c.class_named.ensures program site.index) k.class_is
    (sym c.in_ok-method.was ∙ c.method_named.ensures c.in_ok-class.class k.linked k.indexed)
