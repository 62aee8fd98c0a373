-- The probes that the cases of a run plan hit whose threads take locks.
use Rattle.std.specs.Prelude.{Contains}
use Rattle.jc_programs.specs.declared.program.Program.{Program}
use Rattle.jc_programs.specs.declared.run_plan.Case.{Case}
use Rattle.jc_programs.specs.declared.run_plan.RunPlan.{RunPlan}
use Rattle.jc_machine_model.specs.World.{Hit}
use Rattle.jc_monitor_runs.specs.MonitorTexts.{monitor_case_hits}

-- the run of some case of the run plan, with the turns of its schedule, hits the probe
abbrev pub IsMonitoredHit : Program → RunPlan → Hit → Type 0
IsMonitoredHit program plan hit = (case : Case) × Contains plan.cases case × Contains (monitor_case_hits program case) hit
