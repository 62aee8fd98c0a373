use Rattle.std.proofs.Common.{◌≡◌, ◌<◌, ◌≤◌, Bool, List, length, get_or, ap, ◌∙◌, subst, sym, arith}
use Rattle.std.specs.Prelude.{All}
use Rattle.jc_methods.specs.WellMade.{IsLine}
use Rattle.jc_methods.specs.declared.body.Body.{Body}
use Rattle.jc_cover.specs.Sums.{insns_weight}
use Rattle.jc_cover.proofs.ClassCountsLaws.{one_more, small_now, all_summed, all_lined, all_told, edges_size, all_small, few_lines, lines_within, few_weight, lines_inside, counters_told}
use Rattle.jc_cover.proofs.counting.counters.Goals as goal

pub count_method-requires-clause-few : goal.count_method-requires-clause-few
count_method-requires-clause-few c =
    let class = c.args.class.now in
    let n = c.counting.number in
    let b = c.body-item.result in
    let insns = c.index-deref-number.result in
    let lt : n < length class.bodies = omega (arith, ap length c.deref-body-items.ensures) in
    let is = c.body-item.is ∙ ap (λ (l : List Body). get_or l n b) c.deref-body-items.ensures in
    let iv = c.index-deref-number.is ∙ ap (λ (l : List (List (List Bool))). get_or l n insns) c.deref.ensures in
    subst (λ (l : List (List Bool)). insns_weight l < 4294967296) (sym c.deref-in-counting.ensures) (few_weight class c.args.coverage.now c.requires.analysed c.requires.shape n b insns lt is iv)

pub count_method-requires-clause-small : goal.count_method-requires-clause-small
count_method-requires-clause-small c =
    let class = c.args.class.now in
    let coverage = c.args.coverage.now in
    let n = c.counting.number in
    let b = c.body-item.result in
    let insns = c.deref-in-counting.result.now in
    let lt : n < length class.bodies = omega (arith, ap length c.deref-body-items.ensures) in
    let lv : n < length coverage.edges = omega (arith, lt, edges_size class coverage c.requires.analysed c.requires.shape) in
    let is = c.body-item.is ∙ ap (λ (l : List Body). get_or l n b) c.deref-body-items.ensures in
    let iv : insns ≡ get_or coverage.edges n insns =
    subst (λ (x : List (List Bool)). x ≡ get_or coverage.edges n x) (sym c.deref-in-counting.ensures)
    (c.index-deref-number.is ∙ ap (λ (l : List (List (List Bool))). get_or l n c.index-deref-number.result) c.deref.ensures) in
    small_now class.bodies coverage.edges n b insns lt lv is iv c.counting.sums c.counting.lines.all.items c.counting.lines.covered.items
    (all_small class coverage c.requires.analysed c.requires.shape) c.counting.invariant

pub count_method-requires-clause-lines : goal.count_method-requires-clause-lines
count_method-requires-clause-lines c =
    let class = c.args.class.now in
    let n = c.counting.number in
    let b = c.body-item.result in
    let insns = c.index-deref-number.result in
    let lt : n < length class.bodies = omega (arith, ap length c.deref-body-items.ensures) in
    let is = c.body-item.is ∙ ap (λ (l : List Body). get_or l n b) c.deref-body-items.ensures in
    let iv = c.index-deref-number.is ∙ ap (λ (l : List (List (List Bool))). get_or l n insns) c.deref.ensures in
    subst (λ (l : List (List Bool)). All (IsLine (length l)) b.lines) (sym c.deref-in-counting.ensures) (lines_inside class c.args.coverage.now c.requires.analysed c.requires.shape n b insns lt is iv)

pub counting-preserved : goal.counting-preserved
counting-preserved c =
    let class = c.args.class.now in
    let coverage = c.args.coverage.now in
    let n = c.counting.number in
    let b = c.body-item.result in
    let insns = c.deref-in-counting.result.now in
    let lt : n < length class.bodies = omega (arith, ap length c.deref-body-items.ensures) in
    let lv : n < length coverage.edges = omega (arith, lt, edges_size class coverage c.requires.analysed c.requires.shape) in
    let is = c.body-item.is ∙ ap (λ (l : List Body). get_or l n b) c.deref-body-items.ensures in
    let iv : insns ≡ get_or coverage.edges n insns =
    subst (λ (x : List (List Bool)). x ≡ get_or coverage.edges n x) (sym c.deref-in-counting.ensures)
    (c.index-deref-number.is ∙ ap (λ (l : List (List (List Bool))). get_or l n c.index-deref-number.result) c.deref.ensures) in
    one_more class.bodies coverage.edges n b insns lt lv is iv c.counting.sums c.count_method.new.sums c.counting.lines.all.items c.count_method.new.lines.all.items
    c.counting.lines.covered.items c.count_method.new.lines.covered.items c.in_ok-count_method.ensures.sums c.in_ok-count_method.ensures.all c.in_ok-count_method.ensures.covered c.counting.invariant

pub line_count-requires-clause-within : goal.line_count-requires-clause-within
line_count-requires-clause-within c =
    let class = c.args.class.now in
    let coverage = c.args.coverage.now in
    let le : length class.bodies ≤ c.counting.number = omega (arith, ap length c.deref-body-items.ensures) in
    let all = c.counting.lines.all.items in
    let covered = c.counting.lines.covered.items in
    lines_within class coverage c.requires.analysed c.requires.shape all covered
    (all_lined class.bodies coverage.edges c.counting.number c.counting.sums all covered le c.counting.invariant)
    (all_told class.bodies coverage.edges c.counting.number c.counting.sums all covered le c.counting.invariant)

pub line_count-requires-clause-few : goal.line_count-requires-clause-few
line_count-requires-clause-few c =
    let class = c.args.class.now in
    let coverage = c.args.coverage.now in
    let le : length class.bodies ≤ c.counting.number = omega (arith, ap length c.deref-body-items.ensures) in
    let all = c.counting.lines.all.items in
    few_lines class coverage c.requires.analysed c.requires.shape all
    (all_lined class.bodies coverage.edges c.counting.number c.counting.sums all c.counting.lines.covered.items le c.counting.invariant)

pub returns : goal.returns
returns c =
    let class = c.args.class.now in
    let coverage = c.args.coverage.now in
    let n = c.counting.number in
    let sums = c.counting.sums in
    let all = c.counting.lines.all.items in
    let covered = c.counting.lines.covered.items in
    let le : length class.bodies ≤ n = omega (arith, ap length c.deref-body-items.ensures) in
    counters_told class coverage c.requires.analysed c.requires.shape sums all covered c.in_ok-line.line
    (all_summed class.bodies coverage.edges n sums all covered le c.counting.invariant) (all_lined class.bodies coverage.edges n sums all covered le c.counting.invariant)
    (all_told class.bodies coverage.edges n sums all covered le c.counting.invariant) c.in_ok-line.ensures
