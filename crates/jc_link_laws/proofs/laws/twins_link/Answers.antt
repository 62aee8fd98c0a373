use Rattle.jc_link_laws.proofs.TwinLinkLaws.{twin_program}
use Rattle.jc_link_laws.proofs.laws.twins_link.Goals as goal

pub returns : goal.returns
returns c = λ p q files. twin_program c.args.originals.now c.args.written.now p q files.short files.are_bytes files.each
