-- Threads that begin with a method each.
use Rattle.std.specs.Prelude.{List}
use Rattle.jc_programs.specs.declared.program.Program.{Program}
use Rattle.jc_programs.specs.declared.run_plan.ThreadLine.{ThreadLine}
use Rattle.jc_programs.specs.declared.run_end.Entry.{Entry}
use Rattle.jc_programs.specs.Entries.{AreEntries}

abbrev pub Begin : Program → List ThreadLine → Type 0
Begin program threads = (entries : List Entry) × AreEntries program threads entries
