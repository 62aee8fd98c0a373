use Rattle.std.proofs.Common.{◌≡◌, ◌<◌, Bool, List, length, get_or, ap, ◌∙◌, subst, sym, arith}
use Rattle.std.specs.List.{list_any}
use Rattle.jc_methods.specs.declared.body.Body.{Body}
use Rattle.jc_cover.specs.Counters.{methods_of}
use Rattle.jc_cover.proofs.ClassCountsLaws.{edges_size}
use Rattle.tests_rules.specs.Slow.{is_in_counted}
use Rattle.tests_rules.proofs.LookingLaws.{method_found, method_more}
use Rattle.tests_rules.proofs.slow.is_in_class.Goals as goal

pub returns-then-is_in_counted : goal.returns-then-is_in_counted
returns-then-is_in_counted c =
    let class = c.args.class.now in
    let coverage = c.args.coverage.now in
    let n = c.looking.n in
    let b = c.body-item.result in
    let insns = c.deref-in-looking.result.now in
    let lt : n < length class.bodies = omega (arith, ap length c.deref-body-items.ensures) in
    let lv : n < length coverage.edges = omega (arith, lt, edges_size class coverage c.requires.analysed c.requires.shape) in
    let is = c.body-item.is ∙ ap (λ (l : List Body). get_or l n b) c.deref-body-items.ensures in
    let iv : insns ≡ get_or coverage.edges n insns =
    subst (λ (x : List (List Bool)). x ≡ get_or coverage.edges n x) (sym c.deref-in-looking.ensures)
    (c.index-deref-n.is ∙ ap (λ (l : List (List (List Bool))). get_or l n c.index-deref-n.result) c.deref.ensures) in
    let test = is_in_counted c.args.number c.args.covered in
    method_found test class.bodies coverage.edges n (list_any test (methods_of class.bodies coverage.edges)) b insns lt lv is iv c.looking.invariant
    (sym c.is_in_counted.ensures ∙ c.if-is_in_counted.true)

pub looking-preserved : goal.looking-preserved
looking-preserved c =
    let class = c.args.class.now in
    let coverage = c.args.coverage.now in
    let n = c.looking.n in
    let b = c.body-item.result in
    let insns = c.deref-in-looking.result.now in
    let lt : n < length class.bodies = omega (arith, ap length c.deref-body-items.ensures) in
    let lv : n < length coverage.edges = omega (arith, lt, edges_size class coverage c.requires.analysed c.requires.shape) in
    let is = c.body-item.is ∙ ap (λ (l : List Body). get_or l n b) c.deref-body-items.ensures in
    let iv : insns ≡ get_or coverage.edges n insns =
    subst (λ (x : List (List Bool)). x ≡ get_or coverage.edges n x) (sym c.deref-in-looking.ensures)
    (c.index-deref-n.is ∙ ap (λ (l : List (List (List Bool))). get_or l n c.index-deref-n.result) c.deref.ensures) in
    let test = is_in_counted c.args.number c.args.covered in
    method_more test class.bodies coverage.edges n (list_any test (methods_of class.bodies coverage.edges)) b insns lt lv is iv c.looking.invariant
    (sym c.is_in_counted.ensures ∙ c.if-is_in_counted.false)
