-- The lines of two files that don't go together.
use Rattle.std.specs.Prelude.{ℕ, List, ◌++◌, codes}
use Rattle.jc_command_work.specs.Step.{Word}
use Rattle.jc_command_work.specs.Texts.{hex_text}

abbrev pub pair_start : Word → Word → List ℕ
pair_start first second = first ++ (codes ", " ++ (second ++ codes ": one class "))

abbrev pub same_name_text : Word → Word → List ℕ → List ℕ
same_name_text first second name = pair_start first second ++ (codes "name " ++ (name ++ codes "\n"))

abbrev pub same_id_text : Word → Word → ℕ → List ℕ
same_id_text first second id = pair_start first second ++ (codes "id " ++ (hex_text id ++ codes "\n"))
