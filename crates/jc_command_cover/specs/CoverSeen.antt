-- The work of `cover` by what the code is told of the words.
use Rattle.std.specs.Prelude.{List}
use Rattle.jc_paths.specs.Paths.{FileText}
use Rattle.jc_programs.specs.declared.program.Program.{Program}
use Rattle.jc_programs.specs.declared.run_plan.RunPlan.{RunPlan}
use Rattle.jc_exec.specs.Writing.{exec_text}
use Rattle.jc_machine_model.specs.CaseText.{case_texts}
use Rattle.jc_command_work.specs.Step.{to_file, to_out}
use Rattle.jc_command_work.specs.Part.{Command, done, ending, deciding, writing, ◌>>=◌, ◌>>◌}
use Rattle.jc_command_run.specs.RunStore.{run_store}
use Rattle.jc_headline.specs.CoverWork.{Cover, LookedFile, accepted_texts, IsReportText, IsClashEnd}
use Rattle.jc_command_cover.specs.declared.options.CoverOptions.{CoverOptions}

-- what the words say: what their options are given, and the files that they name
abbrev pub cover_seen : CoverOptions → List FileText → Cover
cover_seen o files = record { dest = o.dest.now; plan = o.plan.now; exec = o.destfile.now; csv = o.csv.now; name = o.name.now; files = files }

-- the last part, of a program that was run: writes the execution data, reports on the originals, and writes what the cases print
abbrev pub writing_results : Cover → RunPlan → List LookedFile → Program → Command
writing_results c plan looked program = do
  writing (to_file c.exec (exec_text (run_store program plan)))
  csv ← deciding (IsReportText c.name (run_store program plan) (accepted_texts looked)) (IsClashEnd c.exec (run_store program plan) (accepted_texts looked))
  writing (to_file c.csv csv)
  writing (to_out (case_texts program 1 plan.cases))
  ending done
