use Rattle.std.proofs.Common.{◌∙◌, ap₂, string_bytes}
use Rattle.std.specs.FinMap.{insert}
use Rattle.jc_outside.specs.InMemory.{held}
use Rattle.jc_outside.proofs.HeldLaws.{held_updated}
use Rattle.jc_outside.proofs.memory_files.place.Goals as goal

pub returns-clause-ok : goal.returns-clause-ok
returns-clause-ok c =
    held_updated (string_bytes c.in_ok-path.path) c.args.files.now c.insert.new.self c.in_ok-bytes.bytes c.in_ok-insert.ensures.updates
    ∙ ap₂ (insert (held c.args.files.now)) c.in_ok-path.ensures.ok c.in_ok-bytes.ensures.items
