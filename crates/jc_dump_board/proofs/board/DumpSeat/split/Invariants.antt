use Rattle.jc_dump_board.proofs.board.DumpSeat.split.Given as goal

abbrev pub ghosts-give_part : goal.ghosts-give_part
ghosts-give_part a = record { amount = a.part }
