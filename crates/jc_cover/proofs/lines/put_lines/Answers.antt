use Rattle.std.proofs.Common.{◌≡◌, ◌<◌, ◌++◌, ℕ, Bool, nat_lt, List, Option, length, get_or, ap, ◌∙◌, arith}
use Rattle.std.specs.Prelude.{option_to_list}
use Rattle.jc_cover.specs.declared.coverage.Count.{Count}
use Rattle.jc_cover.specs.Counters.{count_of, is_covered}
use Rattle.jc_cover.proofs.StartsLaws.{starts_size, lining_more}
use Rattle.jc_cover.proofs.SumsLaws.{any_counted}
use Rattle.jc_cover.proofs.lines.put_lines.Goals as goal

pub index-requires : goal.index-requires
index-requires c =
    omega (arith, c.in_ok-starts.starts.ok.0, ap length c.in_ok-starts.ensures, starts_size c.args.table.now (length c.args.insns.now))

pub lining-preserved : goal.lining-preserved
lining-preserved c =
    let table = c.args.table.now in
    let insns = c.args.insns.now in
    let at = c.lining.at in
    let values = c.index-insns-at.result in
    let start = c.index.result.now in
    let now = c.lining.lines.all.items in
    let told = c.lining.lines.covered.items in
    let lt : at < length insns = omega arith in
    let read = c.index.ensures ∙ ap (λ (l : List (Option ℕ)). get_or l at start) c.in_ok-starts.ensures in
    let test : nat_lt 0 c.branch_count-covered.result.covered ≡ is_covered values =
    ap (λ (x : Count). nat_lt 0 x.covered) (c.branch_count-covered.ensures ∙ ap (count_of (λ (value : Bool). value)) c.deref.ensures) ∙ any_counted (λ (value : Bool). value) values in
    lining_more table insns at values c.args.lines.now.all.items c.args.lines.now.covered.items now told c.put_number.new.numbers.items c.put_number-in-lining.new.numbers.items
    start c.lining.line c.carried-line.result (nat_lt 0 c.branch_count-covered.result.covered) lt c.index-insns-at.is read c.carried-line.ensures test c.in_ok-put_number.ensures
    (c.in_ok-put_number-2.ensures ∙ ap (λ (o : Option ℕ). told ++ option_to_list o) c.line_if.ensures) c.lining.invariant
