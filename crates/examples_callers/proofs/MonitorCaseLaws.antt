-- A case of a program whose threads take locks, from the world in which it begins to the one that its run leaves.
use Rattle.std.proofs.Common.{◌≡◌, ◌∙◌, List, length, sym, ap}
use Rattle.jc_programs.specs.declared.program.Program.{Program}
use Rattle.jc_programs.specs.declared.run_plan.Case.{Case}
use Rattle.jc_programs.specs.declared.run_end.Entry.{Entry}
use Rattle.jc_programs.specs.Entries.{AreEntries}
use Rattle.jc_programs.specs.Turns.{turns_of, turns_in}
use Rattle.jc_machine_model.specs.Begin.{begin}
use Rattle.jc_machine_laws.proofs.WorldLaws.{entries_are}
use Rattle.jc_monitor_model.specs.MonitorRun.{unlocked, monitor_begin, monitor_run_from, monitor_run}
use Rattle.jc_monitor_world.specs.Monitored.{Monitored, monitor_world_of}

pub whole_monitor_run : (program : Program) (m : Monitored) (case : Case) (entries : List Entry) → AreEntries program case.threads entries
    → monitor_world_of m ≡ monitor_begin program case.threads entries → length m.machine.threads ≡ length case.threads
    → monitor_run_from program (monitor_world_of m) (turns_of (length m.machine.threads) case.schedule) ≡ monitor_run program case (turns_in case)
whole_monitor_run program m case entries are begun as_many =
    ap (λ n. monitor_run_from program (monitor_world_of m) (turns_of n case.schedule)) as_many
    ∙ ap (λ n. monitor_run_from program n (turns_in case))
    (begun ∙ ap (λ es. unlocked case.threads (begin program case.threads es)) (sym (entries_are program case.threads entries are)))
