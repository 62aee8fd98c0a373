use Rattle.std.proofs.Common.{ℕ, ◌≡◌, ◌<◌, ◌+◌, ◌/◌, arith, ap, sym, ◌∙◌, subst, List}
use Rattle.std.proofs.lemmas.List.{get_or_read}
use Rattle.jc_board.specs.Seen.{BoardSeen}
use Rattle.jc_programs.specs.Probes.{InRange}
use Rattle.jc_board.specs.Places.{word_at}
use Rattle.jc_board.proofs.PlaceLaws.{word_below}
use Rattle.jc_dump_board.proofs.board.DumpBoard.word_of.Goals as goal
use Rattle.jc_dump_board.proofs.board.DumpBoard.word_of.Goals.{After-index}

is_place : (c : After-index) → c.index.result.now + c.args.id / 64 ≡ word_at c.self.inside.counts.items c.args.class c.args.id
is_place c =
    let i = c.self.invariant in
    let same = ap (λ (b : BoardSeen). b.counts) c.self.view_is in
    let range = subst (λ (l : List ℕ). InRange l c.args.class c.args.id) (sym same) c.requires in
    omega (arith, get_or_read c.self.inside.starts.items c.args.class _ (omega (arith, i.layout.each_class, range.0)) c.index.ensures 0, i.layout.begins c.args.class range.0)

is_below : (c : After-index) → word_at c.self.inside.counts.items c.args.class c.args.id < c.self.inside.table.shared.table_id.words
is_below c =
    let i = c.self.invariant in
    let same = ap (λ (b : BoardSeen). b.counts) c.self.view_is in
    let range = subst (λ (l : List ℕ). InRange l c.args.class c.args.id) (sym same) c.requires in
    omega (arith, word_below c.self.inside.counts.items c.args.class c.args.id range, i.layout.enough)

pub overflow_add-result : goal.overflow_add-result
overflow_add-result c = let at = (goal.at.overflow_add-result c).After-index in omega (arith, is_place at, is_below at, c.self.invariant.few)

pub returns : goal.returns
returns c = let at = (goal.at.returns c).After-index in
    let same = ap (λ (b : BoardSeen). b.counts) c.self.view_is in (
      is_place at ∙ ap (λ l. word_at l c.args.class c.args.id) same,
      subst (λ n. c.index.result.now + c.args.id / 64 < n) (ap (λ (b : BoardSeen). b.table.words) c.self.view_is) (omega (arith, is_place at, is_below at)),
    )
