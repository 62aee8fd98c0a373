-- What functions did that run the accepted files, and write what comes of it.
use Rattle.std.specs.Prelude.{ℕ, List, Result}
use Rattle.jc_programs.specs.declared.run_plan.RunPlan.{RunPlan}
use Rattle.jc_command_work.specs.declared.stop.Stop.{Stop}
use Rattle.jc_command_work.specs.Step.{Outside, Counts, Landed}
use Rattle.jc_command_work.specs.Ending.{Ran}
use Rattle.jc_command_work.specs.Seen.{stop_seen}
use Rattle.jc_command_run.specs.declared.program.Ran.{Ran as RanProgram}
use Rattle.jc_headline.specs.CoverWork.{Cover, LookedFile, running}
use Rattle.jc_command_cover.specs.declared.accepted.Accepted.{Accepted}
use Rattle.jc_command_cover.specs.Accepted.{AreAccepted, RunOf}
use Rattle.jc_command_cover.specs.CoverSeen.{writing_results}

-- it does the part behind the instrumented files, of whichever files these are the accepted ones
abbrev pub RunsAccepted : Landed → Cover → RunPlan → Accepted → (old new : Outside) → (f f' : Counts) → Result (Unit {0}) Stop → Type 0
RunsAccepted landed c plan those old new f f' result =
    (looked : List LookedFile) → AreAccepted c.dest looked those → Ran landed (running c plan looked) stop_seen old new f f' result

-- it does the part behind the run, of whichever run plan and program this is the run
abbrev pub WritesResults : Landed → Cover → List (List ℕ) → RanProgram → (old new : Outside) → (f f' : Counts) → Result (Unit {0}) Stop → Type 0
WritesResults landed c texts ran old new f f' result =
    (run : RunOf texts ran) → Ran landed (writing_results c run.plan run.looked run.program) stop_seen old new f f' result
