use Rattle.std.proofs.Common.{◌<◌, ◌++◌, ℕ, List, Option, length, get_or, ap, ◌∙◌, arith}
use Rattle.std.specs.Prelude.{option_map, option_to_list}
use Rattle.jc_cover.proofs.StartsLaws.{starts_size}
use Rattle.jc_rules.specs.Placed.{placed_at}
use Rattle.jc_rules.proofs.PlacingLaws.{lining_more}
use Rattle.jc_rules.proofs.placed.put_insns.Goals as goal

pub index-requires : goal.index-requires
index-requires c =
    omega (arith, c.in_ok-starts.starts.ok.0, ap length c.in_ok-starts.ensures, starts_size c.args.table.now (length c.args.insns.now))

pub placing-preserved : goal.placing-preserved
placing-preserved c =
    let table = c.args.table.now in
    let insns = c.args.insns.now in
    let at = c.placing.at in
    let values = c.index-insns-at.result in
    let start = c.index.result.now in
    let now = c.placing.placed.items in
    let lt : at < length insns = omega arith in
    let read = c.index.ensures ∙ ap (λ (l : List (Option ℕ)). get_or l at start) c.in_ok-starts.ensures in
    let put = c.in_ok-put_insn.ensures ∙ ap (λ vs. now ++ option_to_list (option_map (placed_at vs) c.carried-line.result)) c.deref.ensures in
    lining_more table insns at values c.args.placed.now.items now c.put_insn.new.placed.items start c.placing.line c.carried-line.result lt c.index-insns-at.is read c.carried-line.ensures put
    c.placing.invariant
