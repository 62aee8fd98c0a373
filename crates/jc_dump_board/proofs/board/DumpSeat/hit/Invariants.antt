use Rattle.jc_dump_board.proofs.board.DumpSeat.hit.Given as goal

abbrev pub ghosts-set_bit : goal.ghosts-set_bit
ghosts-set_bit a = record { class = a.class; id = a.id }
