-- A case of a program, from the world in which it begins to what it leaves.
use Rattle.std.proofs.Common.{◌≡◌, ◌∙◌, List, length, sym, ap, subst}
use Rattle.jc_programs.specs.declared.program.Program.{Program}
use Rattle.jc_programs.specs.declared.run_plan.Case.{Case}
use Rattle.jc_programs.specs.declared.run_end.Entry.{Entry}
use Rattle.jc_programs.specs.Entries.{AreEntries}
use Rattle.jc_programs.specs.Turns.{IsCase, AreThreads, turns_of, turns_in}
use Rattle.jc_machine_model.specs.Begin.{begin}
use Rattle.jc_machine_model.specs.World.{World}
use Rattle.jc_machine_model.specs.Run.{run_from, run}
use Rattle.jc_machine.specs.Machines.{Machine, world_of}
use Rattle.jc_machine_laws.proofs.WorldLaws.{entries_are}
use Rattle.jc_machine.proofs.FirstLaws.{as_many_entries, length-first_threads}

module _ (program : Program) (m : Machine) (case : Case) (entries : List Entry) (are : AreEntries program case.threads entries)
    (begun : world_of m ≡ begin program case.threads entries) where
  -- a case begins with its threads
  as_many : length m.threads ≡ length case.threads
  unfolding begin
  as_many = ap (λ (w : World). length w.threads) begun ∙ length-first_threads program case.threads entries (as_many_entries program case.threads entries are)

  -- so its turns are turns of these
  pub begun_threads : IsCase case → AreThreads (length m.threads) case.schedule
  begun_threads is = subst (λ n. AreThreads n case.schedule) (sym as_many) is.threads

  -- and they are its run
  pub whole_run : run_from program (world_of m) (turns_of (length m.threads) case.schedule) ≡ run program case (turns_in case)
  whole_run =
      ap (λ n. run_from program (world_of m) (turns_of n case.schedule)) as_many
      ∙ ap (λ w. run_from program w (turns_in case)) (begun ∙ ap (begin program case.threads) (sym (entries_are program case.threads entries are)))
