use Rattle.std.proofs.Common.{◌≡◌, ◌++◌, length, take}
use Rattle.std.specs.Prelude.{slice_index}
use Rattle.std.specs.List.{flat_map}
use Rattle.jc_bytes.specs.BigNumbers.{short}
use Rattle.jc_instrument_code.specs.CodeText.{var_text}
use Rattle.jc_instrument_code.proofs.tables.put_vars.Given as goal

-- the entries so far
abbrev pub invariant-writing : goal.invariant-writing
invariant-writing l = l.into.items ≡ l.fn.into.items ++ (short (length l.vars) ++ flat_map (var_text (slice_index l.starts)) (take l.var-index l.vars))
