use Rattle.std.proofs.Common.{◌≡◌, ◌-◌, ◌<◌, ◌∷◌, [], ℕ, List, length, get_or, take, drop, sym, ◌∙◌, ap, arith}
use Rattle.std.proofs.lemmas.Grind.{get_or_default_zero}
use Rattle.jc_command_exec.proofs.LinesLaws.{lines_count, line_at, end_within}
use Rattle.jc_command_exec.proofs.lines.Lines.at.Goals as goal

pub start_at-requires : goal.start_at-requires
start_at-requires c =
    omega (arith, c.requires, ap length c.deref-2.ensures.value, lines_count c.self.inside.text.items 0 c.self.inside.ends.items, ap length c.self.view_is)

pub index-requires : goal.index-requires
index-requires c = omega (arith, c.requires, lines_count c.self.inside.text.items 0 c.self.inside.ends.items, ap length c.self.view_is)

pub part-requires : goal.part-requires
part-requires c =
    let text = c.self.inside.text.items in let ends = c.self.inside.ends.items in let place = c.args.place in
    let lt : place < length ends = omega (arith, c.requires, lines_count text 0 ends, ap length c.self.view_is) in
    let from : c.start_at.result ≡ get_or (0 ∷ ends) place 0 = c.start_at.ensures ∙ (λ i. get_or (0 ∷ c.deref-2.ensures.value i) place 0) in
    let end : c.index.result.now ≡ get_or ends place 0 = c.index.ensures ∙ get_or_default_zero ends place c.index.result.now lt in
    let inside = end_within (length text) 0 ends place c.self.invariant lt in
    (omega (arith, from, end, inside.0), omega (arith, end, inside.1, ap length c.deref.ensures.value))

pub returns : goal.returns
returns c =
    let text = c.self.inside.text.items in let ends = c.self.inside.ends.items in let place = c.args.place in
    let lt : place < length ends = omega (arith, c.requires, lines_count text 0 ends, ap length c.self.view_is) in
    let from : c.start_at.result ≡ get_or (0 ∷ ends) place 0 = c.start_at.ensures ∙ (λ i. get_or (0 ∷ c.deref-2.ensures.value i) place 0) in
    let end : c.index.result.now ≡ get_or ends place 0 = c.index.ensures ∙ get_or_default_zero ends place c.index.result.now lt in
    c.part.ensures ∙ (λ i. take (end i - from i) (drop (from i) (c.deref.ensures.value i))) ∙ sym (line_at text 0 ends place [] lt)
    ∙ ap (λ (l : List (List ℕ)). get_or l place []) c.self.view_is
