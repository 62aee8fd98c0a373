use Rattle.jc_workers.proofs.case_seat.SeatCaseSeat.run_case.Given as goal

abbrev pub ghosts-run_from : goal.ghosts-run_from
ghosts-run_from g a = record { table = a.board.now.table; part = a.seat.part }
