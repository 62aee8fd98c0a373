-- Where the words of a board lie: 64 probes of one class in a word, and each class begins a new one.
use Rattle.std.specs.Prelude.{◌≡◌, ℕ, ◌<◌, ◌≤◌, ◌^◌, List, length, slice_index}
use Rattle.atomic_table.specs.Seated.{TableId}
use Rattle.jc_board.specs.Places.{words_of, first_word}

-- the first word of each class, among so many words
pub record IsLayout (counts starts : List ℕ) (words : ℕ) : Type 0 where
  pub some_word : 0 < words
  pub enough : words_of counts ≤ words
  pub each_class : length starts ≡ length counts
  pub begins : (class : ℕ) → class < length counts → slice_index starts class ≡ first_word counts class

-- a table of words has this layout, and the rule of a board with these counts
pub record IsLaidOut (counts starts key : List ℕ) (table : TableId) : Type 0 where
  pub ruled : key ≡ counts
  pub no_slots : table.slots ≡ 0
  pub few : table.words < 2 ^ 63
  pub layout : IsLayout counts starts table.words
