-- The threads of a run plan that have no method to begin with.
use Rattle.std.specs.Prelude.{◌<◌, ◌^◌, ℕ, length, All}
use Rattle.jc_programs.specs.declared.program.Program.{Program}
use Rattle.jc_programs.specs.declared.program.Linked.{Linked}
use Rattle.jc_programs.specs.declared.run_plan.ThreadLine.{ThreadLine}

-- a class's number and a method's number are numbers of four bytes
pub record HasFew (program : Program) : Type 0 where
  pub classes : length program.classes < 2 ^ 32
  pub methods : All (λ (c : Linked). length c.bodies < 2 ^ 32) program.classes

abbrev pub line_of : ThreadLine → ℕ
line_of thread = thread.line
