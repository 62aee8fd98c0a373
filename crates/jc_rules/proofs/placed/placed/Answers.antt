use Rattle.std.proofs.Common.{◌≡◌, ◌<◌, ◌≤◌, Bool, List, length, get_or, ap, ◌∙◌, subst, sym, arith}
use Rattle.std.specs.Prelude.{All}
use Rattle.jc_methods.specs.WellMade.{IsLine}
use Rattle.jc_methods.specs.declared.body.Body.{Body}
use Rattle.jc_cover.proofs.ClassCountsLaws.{edges_size, lines_inside}
use Rattle.jc_rules.proofs.PlacingLaws.{places_more, all_placed}
use Rattle.jc_rules.proofs.placed.placed.Goals as goal

pub put_method-requires : goal.put_method-requires
put_method-requires c =
    let class = c.args.class.now in
    let n = c.placing.number in
    let b = c.body-item.result in
    let insns = c.index-deref-number.result in
    let lt : n < length class.bodies = omega (arith, ap length c.deref-body-items.ensures) in
    let is = c.body-item.is ∙ ap (λ (l : List Body). get_or l n b) c.deref-body-items.ensures in
    let iv = c.index-deref-number.is ∙ ap (λ (l : List (List (List Bool))). get_or l n insns) c.deref.ensures in
    subst (λ (l : List (List Bool)). All (IsLine (length l)) b.lines) (sym c.deref-in-placing.ensures) (lines_inside class c.args.coverage.now c.requires.analysed c.requires.shape n b insns lt is iv)

pub placing-preserved : goal.placing-preserved
placing-preserved c =
    let class = c.args.class.now in
    let coverage = c.args.coverage.now in
    let n = c.placing.number in
    let b = c.body-item.result in
    let insns = c.deref-in-placing.result.now in
    let lt : n < length class.bodies = omega (arith, ap length c.deref-body-items.ensures) in
    let lv : n < length coverage.edges = omega (arith, lt, edges_size class coverage c.requires.analysed c.requires.shape) in
    let is = c.body-item.is ∙ ap (λ (l : List Body). get_or l n b) c.deref-body-items.ensures in
    let iv : insns ≡ get_or coverage.edges n insns =
    subst (λ (x : List (List Bool)). x ≡ get_or coverage.edges n x) (sym c.deref-in-placing.ensures)
    (c.index-deref-number.is ∙ ap (λ (l : List (List (List Bool))). get_or l n c.index-deref-number.result) c.deref.ensures) in
    places_more class.bodies coverage.edges n b insns c.placing.placed.items c.put_method.new.placed.items lt lv is iv c.in_ok-put_method.ensures c.placing.invariant

pub returns : goal.returns
returns c =
    let class = c.args.class.now in
    let le : length class.bodies ≤ c.placing.number = omega (arith, ap length c.deref-body-items.ensures) in
    all_placed class.bodies c.args.coverage.now.edges c.placing.number c.placing.placed.items le c.placing.invariant
