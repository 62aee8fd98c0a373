-- The threads with which a case begins.
use Rattle.std.proofs.Common.{◌≡◌, [], List, ◌∷◌, ◌++◌, length, Some, sym, ap, ◌∙◌, subst}
use Rattle.jc_programs.specs.declared.program.Program.{Program}
use Rattle.jc_programs.specs.declared.run_plan.Case.{Case}
use Rattle.jc_programs.specs.declared.run_plan.ThreadLine.{ThreadLine}
use Rattle.jc_programs.specs.declared.run_end.Entry.{Entry}
use Rattle.jc_programs.specs.Entries.{entry_of, AreEntries}
use Rattle.jc_programs.specs.Turns.{AreThreads, IsCase}
use Rattle.jc_machine_model.specs.World.{World}
use Rattle.jc_machine_model.specs.Begin.{begin}
use Rattle.jc_machine.specs.Machines.{Machine, world_of}
use Rattle.jc_machine.proofs.FirstLaws.{as_many_entries, length-first_threads}

-- one thread more has its entry
pub one_entry_more : (program : Program) (threads : List ThreadLine) (entries : List Entry) (thread : ThreadLine) (entry : Entry)
    → AreEntries program threads entries → entry_of program thread ≡ Some entry
    → AreEntries program (threads ++ thread ∷ []) (entries ++ entry ∷ [])
one_entry_more program [] [] thread entry are is = (is, are)
one_entry_more program [] (e ∷ entries) thread entry are is = absurd are
one_entry_more program (t ∷ threads) [] thread entry are is = absurd are
one_entry_more program (t ∷ threads) (e ∷ entries) thread entry are is = (are.0, one_entry_more program threads entries thread entry are.1 is)

-- the turns of a case are turns of the threads with which it begins
pub begun_threads : (program : Program) (case : Case) (entries : List Entry) (m : Machine) → IsCase case
    → AreEntries program case.threads entries → world_of m ≡ begin program case.threads entries → AreThreads (length m.threads) case.schedule
unfolding begin
begun_threads program case entries m is are begun =
    let many = length-first_threads program case.threads entries (as_many_entries program case.threads entries are) in
    subst (λ n. AreThreads n case.schedule) (sym (ap (λ (w : World). length w.threads) begun ∙ many)) is.threads
