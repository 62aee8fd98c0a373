use Rattle.std.proofs.Common.{◌≡◌}
use Rattle.jc_programs.specs.Probes.{counts_of}
use Rattle.jc_board.specs.Places.{first_word}
use Rattle.jc_dump_board.specs.Taking.{Taken}
use Rattle.jc_dump_board.proofs.taking.take_all.Given as goal

abbrev pub invariant-loop-class : goal.invariant-loop-class
invariant-loop-class l = (l.word ≡ first_word l.counts l.class)
    × (l.seat.table_id ≡ l.initial.seat.table_id) × (l.seat.me.1 ≡ l.initial.seat.me.1) × (l.seat.me.0.part ≡ l.initial.seat.me.0.part)
    × (counts_of l.into ≡ l.counts)
    × Taken l.counts l.word l.initial.seat.me.0 l.seat.me.0 l.initial.into l.into
