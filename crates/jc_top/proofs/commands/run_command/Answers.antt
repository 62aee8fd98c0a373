use Rattle.std.proofs.Common.{[], map, refl, ap}
use Rattle.jc_paths.specs.Looks.{file_view}
use Rattle.jc_command_work.specs.Seen.{texts_of}
use Rattle.jc_command_classes.specs.ClassInfo.{ListAnswers}
use Rattle.jc_command_exec.specs.ExecInfo.{InfoAnswers}
use Rattle.jc_command_refs.specs.RefsAnswers.{RefsFiles}
use Rattle.jc_top.specs.Work.{nothing_taken, on_files}
use Rattle.jc_top.proofs.CommandLaws.{ends_on, ends_same}
use Rattle.jc_top.proofs.commands.run_command.Goals as goal

pub returns-in-ExecInfo : goal.returns-in-ExecInfo
returns-in-ExecInfo g c =
    rw c.in-ExecInfo.is (
      nothing_taken,
      (
        c.exec_info.ensures.0,
        ends_same g.F.Files.landed (λ _. InfoAnswers) [] [] (texts_of c.deref.result.now) (texts_of c.in-ExecInfo.inputs.items) refl
            (ap texts_of c.deref.ensures.value)
            _ _ _ _ c.exec_info.result c.exec_info.ensures.1,
      ),
    )

pub returns-in-Instrument : goal.returns-in-Instrument
returns-in-Instrument g c = rw c.in-Instrument.is (nothing_taken, c.instrument.ensures)

pub returns-in-Run : goal.returns-in-Run
returns-in-Run g c = rw c.in-Run.is c.run.ensures

pub returns-in-Merge : goal.returns-in-Merge
returns-in-Merge g c = rw c.in-Merge.is (nothing_taken, c.merge.ensures)

pub returns-in-ClassInfo : goal.returns-in-ClassInfo
returns-in-ClassInfo g c =
    rw c.in-ClassInfo.is (
      nothing_taken,
      (
        c.class_info.ensures.0,
        ends_on g.F.Files.landed (λ files. on_files files ListAnswers) (map file_view c.deref-in-ClassInfo.result.now)
            (map file_view c.in-ClassInfo.files.items)
            (ap (map file_view) c.deref-in-ClassInfo.ensures.value) _ _ _ _ c.class_info.result c.class_info.ensures.1,
      ),
    )

pub returns-in-Cover : goal.returns-in-Cover
returns-in-Cover g c = rw c.in-Cover.is (nothing_taken, c.cover.ensures)

pub returns-in-CoverSample : goal.returns-in-CoverSample
returns-in-CoverSample g c = rw c.in-CoverSample.is (nothing_taken, c.cover_sample.ensures)

pub returns-in-Refs : goal.returns-in-Refs
returns-in-Refs g c =
    rw c.in-Refs.is (
      nothing_taken,
      (
        c.refs.ensures.0,
        ends_on g.F.Files.landed (λ files. on_files files RefsFiles) (map file_view c.deref-in-Refs.result.now) (map file_view c.in-Refs.files.items)
            (ap (map file_view) c.deref-in-Refs.ensures.value) _ _ _ _ c.refs.result c.refs.ensures.1,
      ),
    )

pub returns-in-Lines : goal.returns-in-Lines
returns-in-Lines g c = rw c.in-Lines.is (nothing_taken, c.lines.ensures)

pub returns-in-Check : goal.returns-in-Check
returns-in-Check g c = rw c.in-Check.is (nothing_taken, c.check.ensures)

pub returns-in-Report : goal.returns-in-Report
returns-in-Report g c = rw c.in-Report.is (nothing_taken, c.report.ensures)
