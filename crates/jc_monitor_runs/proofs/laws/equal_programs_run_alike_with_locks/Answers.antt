use Rattle.std.proofs.Common.{ap, sym, ◌∙◌}
use Rattle.jc_programs.specs.declared.program.Program.{Program}
use Rattle.jc_monitor_model.specs.MonitorStep.{monitor_step}
use Rattle.jc_monitor_model.specs.MonitorRun.{monitor_run}
use Rattle.jc_monitor_runs.specs.MonitorTexts.{monitor_texts, monitor_hits_of}
use Rattle.jc_monitor_runs.proofs.FramelessMonitorLaws.{same_monitor_step}
use Rattle.jc_monitor_runs.proofs.FramelessRunLaws.{same_monitor_run, same_monitor_texts, same_monitor_hits}
use Rattle.jc_monitor_runs.proofs.laws.equal_programs_run_alike_with_locks.Goals as goal

pub returns-clause-turn : goal.returns-clause-turn
returns-clause-turn c p q m t same =
    sym (same_monitor_step p m t) ∙ ap (λ (r : Program). monitor_step r m t) same ∙ same_monitor_step q m t

pub returns-clause-world : goal.returns-clause-world
returns-clause-world c p q case turns same =
    sym (same_monitor_run p case turns) ∙ ap (λ (r : Program). monitor_run r case turns) same ∙ same_monitor_run q case turns

pub returns-clause-text : goal.returns-clause-text
returns-clause-text c p q k cases same =
    sym (same_monitor_texts p k cases) ∙ ap (λ (r : Program). monitor_texts r k cases) same ∙ same_monitor_texts q k cases

pub returns-clause-hits : goal.returns-clause-hits
returns-clause-hits c p q plan same =
    sym (same_monitor_hits p plan) ∙ ap (λ (r : Program). monitor_hits_of r plan) same ∙ same_monitor_hits q plan
