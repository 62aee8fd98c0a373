-- The lines of files of execution data, of which the last is kept as its execution data.
use Rattle.std.specs.Prelude.{ℕ, List, [], Option, None, Some}
use Rattle.jc_command_exec.specs.declared.listing.ListedFile.{ListedFile}
use Rattle.jc_command_exec.specs.ExecInfo.{file_lines}

abbrev pub listed_lines : ListedFile → List (List ℕ)
listed_lines file = file_lines file.path.now file.store

abbrev pub last_lines : Option ListedFile → List (List ℕ)
last_lines None = []
last_lines (Some file) = listed_lines file
