-- The places of probes in the words of a board: 64 probes of one class lie in a word, and no cache line has words of two classes.
use Rattle.std.specs.Prelude.{ℕ, zero, suc, ◌+◌, ◌/◌, List, [], ◌∷◌}
use Rattle.jc_programs.specs.Probes.{words_for}

-- How many words a class of so many probes has: those of its probes, and behind them seven in which no probe lies. So the probes of
-- two classes lie in words that are at least eight apart, and a cache line of 64 bytes has eight words.
abbrev pub room_for : ℕ → ℕ
room_for n = words_for n + 7

-- how many words all classes have
abbrev pub words_of : List ℕ → ℕ
words_of [] = 0
words_of (n ∷ counts) = room_for n + words_of counts

-- the first word of a class
abbrev pub first_word : List ℕ → ℕ → ℕ
first_word [] class = 0
first_word (n ∷ counts) zero = 0
first_word (n ∷ counts) (suc class) = room_for n + first_word counts class

-- the word of a probe
abbrev pub word_at : List ℕ → (class id : ℕ) → ℕ
word_at counts class id = first_word counts class + id / 64
