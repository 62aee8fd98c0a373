use Rattle.std.proofs.Common.{rules, ◌∙◌, ap}
use Rattle.jc_outside.specs.InMemory.{held}
use Rattle.jc_outside.proofs.HeldLaws.{held_emptied, held_lacks}
use Rattle.jc_outside.proofs.memory_files.empty_out.Goals as goal

pub returns-in-Some : goal.returns-in-Some
returns-in-Some c =
    held_emptied c.args.path.now c.args.files.now (c.get_mut.follows.lender c.clear.new.self) c.clear.new.self c.in-Some.bytes.now
    ((c.get_mut.follows.holds c.clear.new.self).3 (search rules)) c.clear.ensures.items c.in-Some.ensures.value

pub returns-in_default : goal.returns-in_default
returns-in_default c = ap held c.get_mut.follows.holds-at-none ∙ held_lacks c.args.path.now c.args.files.now c.in_default.ensures.value
