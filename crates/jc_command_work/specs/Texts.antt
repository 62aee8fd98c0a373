-- The texts that the tool prints. Each line ends with a line feed.
use Rattle.std.specs.Prelude.{ℕ, ◌^◌, ◌-◌, List, [], ◌++◌, codes, Option, None, Some, false}
use Rattle.std.specs.Fmt.{decimal, digits, format_spec, padded_integral}
use Rattle.jc_bytes.specs.declared.refusal.Refusal.{Refusal}
use Rattle.jc_bytes.specs.declared.refusal.RefusalKind.{RefusalKind}
use Rattle.jc_bytes.specs.declared.refusal.RefusalKind.TheVariants as kinds
use Rattle.jc_exec.specs.declared.refusal.ExecRefusal.{ExecRefusal}
use Rattle.jc_exec.specs.declared.refusal.ExecRefusal.TheVariants.{BadExec, OtherVersion, Conflict}
use Rattle.jc_refs_check.specs.declared.ref_refusal.RefRefusal.{RefRefusal}
use Rattle.jc_command_work.specs.declared.status.Fault.{Fault}
use Rattle.jc_command_work.specs.declared.status.Fault.TheVariants as faults

abbrev pub usage_text : List ℕ
usage_text = codes "usage: jcov COMMAND OPTIONS FILE..\ncommands: instrument run merge report execinfo classinfo cover refs lines check\n"

abbrev pub cannot_read : List ℕ → List ℕ
cannot_read path = codes "cannot read " ++ path ++ codes "\n"

abbrev pub cannot_write : List ℕ → List ℕ
cannot_write path = codes "cannot write " ++ path ++ codes "\n"

abbrev pub cannot_write_output : List ℕ
cannot_write_output = codes "cannot write output\n"

-- a number in 16 lower-case hexadecimal digits
abbrev pub hex_text : ℕ → List ℕ
hex_text n = padded_integral (format_spec 32 0 4 16 (2 ^ 64 - 1)) false [] (digits 16 false n)

-- a number in 4 lower-case hexadecimal digits
abbrev pub short_hex_text : ℕ → List ℕ
short_hex_text n = padded_integral (format_spec 32 0 4 4 (2 ^ 64 - 1)) false [] (digits 16 false n)

-- ---- execution data that is refused

abbrev pub bad_exec_text : List ℕ → ℕ → List ℕ
bad_exec_text file place = file ++ (codes ": bad execution data at " ++ (decimal place ++ codes "\n"))

abbrev pub version_start : List ℕ → List ℕ
version_start file = file ++ codes ": execution data version "

abbrev pub version_line : ℕ → List ℕ
version_line version = short_hex_text version ++ codes "\n"

abbrev pub other_version_text : List ℕ → ℕ → List ℕ
other_version_text file found = version_start file ++ version_line found

abbrev pub conflict_start : List ℕ → ℕ → List ℕ
conflict_start file id = file ++ (codes ": class " ++ (hex_text id ++ codes ": "))

abbrev pub first_count_text : ℕ → List ℕ
first_count_text count = codes " with " ++ (decimal count ++ codes " probes, ")

abbrev pub second_count_text : ℕ → List ℕ
second_count_text count = codes " with " ++ (decimal count ++ codes " probes\n")

-- two records of one class id that do not agree, by their names and their numbers of probes
abbrev pub conflict_text : List ℕ → ℕ → List ℕ → List ℕ → ℕ → ℕ → List ℕ
conflict_text file id first second first_count second_count =
    conflict_start file id ++ (first ++ (first_count_text first_count ++ (second ++ second_count_text second_count)))

abbrev pub exec_refusal_text : List ℕ → ExecRefusal → List ℕ
exec_refusal_text file (BadExec place) = bad_exec_text file place
exec_refusal_text file (OtherVersion found) = other_version_text file found
exec_refusal_text file (Conflict id first second first_count second_count) = conflict_text file id first second first_count second_count

-- ---- class files that are refused

abbrev pub kind_text : RefusalKind → List ℕ
kind_text kinds.NotAClass = codes "NotAClass"
kind_text kinds.Version = codes "Version"
kind_text kinds.AlreadyInstrumented = codes "AlreadyInstrumented"
kind_text kinds.InterfaceBody = codes "InterfaceBody"
kind_text kinds.Subroutine = codes "Subroutine"
kind_text kinds.BadCode = codes "BadCode"
kind_text kinds.FrameMissing = codes "FrameMissing"
kind_text kinds.FrameClash = codes "FrameClash"
kind_text kinds.StraddlingLocal = codes "StraddlingLocal"
kind_text kinds.TooManyProbes = codes "TooManyProbes"
kind_text kinds.PoolFull = codes "PoolFull"
kind_text kinds.MembersFull = codes "MembersFull"
kind_text kinds.BadBootstraps = codes "BadBootstraps"
kind_text kinds.LocalsFull = codes "LocalsFull"
kind_text kinds.StackFull = codes "StackFull"
kind_text kinds.CodeTooLarge = codes "CodeTooLarge"

abbrev pub placed_text : List ℕ → List ℕ → ℕ → List ℕ
placed_text file kind place = file ++ (codes ": " ++ (kind ++ (codes " at " ++ (decimal place ++ codes "\n"))))

abbrev pub in_method_text : List ℕ → List ℕ → ℕ → ℕ → List ℕ
in_method_text file kind method place =
    file ++ (codes ": " ++ (kind ++ (codes " in method " ++ (decimal method ++ (codes " at " ++ (decimal place ++ codes "\n"))))))

-- a class that is refused: where the reason is one of a method, its number is said
abbrev pub by_method : List ℕ → List ℕ → ℕ → Option ℕ → List ℕ
by_method file kind place None = placed_text file kind place
by_method file kind place (Some method) = in_method_text file kind method place

abbrev pub class_refusal_text : List ℕ → Refusal → List ℕ
class_refusal_text file refusal = by_method file (kind_text refusal.kind) refusal.place refusal.method

-- ---- run plans that are refused

abbrev pub bad_plan_text : List ℕ → ℕ → List ℕ
bad_plan_text file line = file ++ (codes ": bad plan in line " ++ (decimal line ++ codes "\n"))

abbrev pub no_entry_text : List ℕ → ℕ → List ℕ
no_entry_text file line = file ++ (codes ": no entry in line " ++ (decimal line ++ codes "\n"))

-- ---- references that don't suit

-- the first instruction at which a reference doesn't suit what takes it
abbrev pub ref_refusal_text : List ℕ → RefRefusal → List ℕ
ref_refusal_text file refusal = in_method_text file (codes "reference") refusal.method refusal.at

-- ---- inputs that are refused

-- a file that has something in common with another that isn't named
abbrev pub shared_text : List ℕ → List ℕ → List ℕ
shared_text file what = file ++ (codes ": one class " ++ (what ++ codes "\n"))

-- A file that is refused, by its path and what is wrong with it. No end of a command has such a line of two files of one
-- class name or of one class id: theirs names both files.
abbrev pub fault_text : List ℕ → Fault → List ℕ
fault_text file (faults.Exec path refusal) = exec_refusal_text file refusal
fault_text file (faults.Plan line) = bad_plan_text file line
fault_text file (faults.Class path refusal) = class_refusal_text file refusal
fault_text file (faults.SameName first second) = shared_text file (codes "name")
fault_text file (faults.SameId first second) = shared_text file (codes "id")
fault_text file (faults.NoEntry line) = no_entry_text file line
fault_text file (faults.Refs path refusal) = ref_refusal_text file refusal
