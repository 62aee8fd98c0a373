-- The lines of class files. Each ends with a line feed.
use Rattle.std.specs.Prelude.{ℕ, List, ◌++◌, codes, Bool, true, false}
use Rattle.std.specs.Fmt.{decimal}
use Rattle.jc_bytes.specs.declared.refusal.Refusal.{Refusal}
use Rattle.jc_command_work.specs.Texts.{class_refusal_text}

-- the line of a class file that is refused and is no failure
abbrev pub refused_line : List ℕ → Refusal → List ℕ
refused_line file refusal = codes "refused " ++ class_refusal_text file refusal

abbrev pub instrumented_line : (file : List ℕ) (probes : ℕ) → List ℕ
instrumented_line file probes = codes "instrumented " ++ (file ++ (codes " " ++ (decimal probes ++ codes "\n")))

abbrev pub unchanged_line : (file : List ℕ) → List ℕ
unchanged_line file = codes "unchanged " ++ (file ++ codes "\n")

-- the line of a class file that has so many probes, or that stays as it is
abbrev pub accepted_line : (file : List ℕ) (changed : Bool) (probes : ℕ) → List ℕ
accepted_line file true probes = instrumented_line file probes
accepted_line file false probes = unchanged_line file
