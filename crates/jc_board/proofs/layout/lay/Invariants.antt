use Rattle.std.proofs.Common.{◌≡◌, ◌<◌, ℕ, length, slice_index}
use Rattle.jc_board.specs.Places.{first_word}
use Rattle.jc_board.proofs.layout.lay.Given as goal

abbrev pub invariant-laying : goal.invariant-laying
invariant-laying l = (length l.starts.items ≡ l.count-index) × ((c : ℕ) → c < l.count-index → slice_index l.starts.items c ≡ first_word l.counts c)
    × (length l.words.items ≡ first_word l.counts l.count-index) × ((k : ℕ) → slice_index l.words.items k ≡ 0)
