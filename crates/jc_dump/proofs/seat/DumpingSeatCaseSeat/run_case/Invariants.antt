use Rattle.jc_dump.proofs.seat.DumpingSeatCaseSeat.run_case.Given as goal

abbrev pub ghosts-run_from : goal.ghosts-run_from
ghosts-run_from g a = record { was = a.seat }
