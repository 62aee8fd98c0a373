-- The texts of cases, by what each leaves.
use Rattle.std.specs.Prelude.{ℕ, ◌+◌, List, [], ◌∷◌, ◌++◌}
use Rattle.jc_programs.specs.declared.program.Program.{Program}
use Rattle.jc_programs.specs.declared.run_end.CaseEnd.{CaseEnd}
use Rattle.jc_machine_model.specs.CaseText.{case_text}

-- each under its number, from one on
abbrev pub end_texts : Program → ℕ → List CaseEnd → List ℕ
end_texts program k [] = []
end_texts program k (end ∷ ends) = case_text program k end ++ end_texts program (k + 1) ends
