use Rattle.jc_link_programs.proofs.ProbeInitLaws.{same_code}
use Rattle.jc_link_programs.proofs.SameCodeLaws.{insn_decided}
use Rattle.jc_link_programs.proofs.probe_inits.is_same_code.Goals as goal

pub returns : goal.returns
returns c = same_code c.args.code.now c.args.other.now c.eq.result c.eq.ensures insn_decided
