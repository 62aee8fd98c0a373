-- What the code's values stand for.
use Rattle.std.specs.Prelude.{◌≡◌, ◌++◌, ℕ, List, map, Option, Some, None, String, string_bytes}
use Rattle.std.specs.Borrow.{Bor}
use Rattle.std.specs.declared.alloc.Global.{Global}
use Rattle.jc_outside.specs.declared.files.FileFault.{FileFault}
use Rattle.jc_outside.specs.declared.files.FileFault.TheVariants as file_faults
use Rattle.jc_command_work.specs.declared.output.Write.{Write as Written}
use Rattle.jc_command_work.specs.declared.output.Write.TheVariants as writes
use Rattle.jc_command_work.specs.declared.stop.Stop.{Stop}
use Rattle.jc_command_work.specs.declared.stop.Stop.TheVariants as stops
use Rattle.jc_command_work.specs.Texts.{fault_text}
use Rattle.jc_command_work.specs.Step.{Word, Write, to_file, to_out, to_err}
use Rattle.jc_command_work.specs.Part.{End, refused, unread, unwritten, unprinted}

abbrev pub words_of : List (String Global) → List Word
words_of words = map string_bytes words

abbrev pub texts_of : List (Bor (List ℕ)) → List Word
texts_of texts = map (λ (t : Bor (List ℕ)). t.now) texts

abbrev pub write_seen : Written → Write
write_seen (writes.File path bytes) = to_file path.now bytes.items
write_seen (writes.Out text) = to_out text.items
write_seen (writes.Err text) = to_err text.items

-- how what stopped a command ends it; none: memory was refused
abbrev pub stop_seen : Stop → Option End
stop_seen stops.Memory = None
stop_seen (stops.Read path) = Some (unread path.now)
stop_seen (stops.Write path) = Some (unwritten path.now)
stop_seen stops.Output = Some unprinted
stop_seen (stops.Refused file fault) = Some (refused fault (fault_text file.now fault))
stop_seen (stops.Clash fault line) = Some (refused fault line.items)

-- how a read that failed stops a command
abbrev pub read_stop : FileFault → Bor (List ℕ) → Stop
read_stop file_faults.Memory path = stops.Memory
read_stop file_faults.Failed path = stops.Read path
read_stop file_faults.Missing path = stops.Read path
read_stop file_faults.TooLarge path = stops.Read path

-- these writes were put last
abbrev pub Puts : List Written → List Write → List Written → Type 0
Puts old more new = map write_seen new ≡ map write_seen old ++ more

-- the lines were put last, each as one write on `out`
abbrev pub Prints : List Written → List (List ℕ) → List Written → Type 0
Prints old lines new = map write_seen new ≡ map write_seen old ++ map to_out lines
