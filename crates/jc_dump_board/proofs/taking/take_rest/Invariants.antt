use Rattle.std.proofs.Common.{◌≡◌, ◌≤◌, List, Bool}
use Rattle.jc_dump_board.specs.declared.seat.View.{View}
use Rattle.jc_dump_board.specs.Taking.{Taken}
use Rattle.jc_dump_board.proofs.taking.take_rest.Given as goal

abbrev pub ghosts-take_word : goal.ghosts-take_word
ghosts-take_word a = record { counts = a.words.now.key.items; word = a.word }

abbrev pub invariant-loop-word : goal.invariant-loop-word
invariant-loop-word l = (l.seat.table_id ≡ l.initial.seat.table_id) × (l.seat.me.1 ≡ l.initial.seat.me.1) × (l.seat.me.0.part ≡ l.initial.seat.me.0.part) × (l.start ≤ l.word)
    × ((was : View) (into_was into : List (List Bool)) → Taken l.words.key.items l.start was l.initial.seat.me.0 into_was into
    → Taken l.words.key.items l.word was l.seat.me.0 into_was into)
