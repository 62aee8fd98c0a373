use Rattle.std.proofs.Common.{◌≡◌, ◌++◌, take}
use Rattle.jc_command_exec.specs.Listing.{listed_lines}
use Rattle.jc_command_exec.proofs.listing.put_lines.Given as goal

-- the lines so far were put
abbrev pub invariant-putting : goal.invariant-putting
invariant-putting l = l.lines ≡ l.fn.lines ++ take l.place (listed_lines l.file)
