use Rattle.std.proofs.Common.{length, arith}
use Rattle.jc_class.proofs.ClassLaws.{reads, refuses, takes, fails_there}
use Rattle.jc_bytes.specs.Reader.{most_read}
use Rattle.jc_bytes.proofs.OneTextLaws.{are_bytes}
use Rattle.jc_class.proofs.SizesLaws.{all_within}
use Rattle.jc_class.proofs.WritableLaws.{wholes}
use Rattle.jc_class.proofs.read.read_class.Goals as goal

pub returns : goal.returns
returns c =
    let r = c.whole.result in
    let bytes = c.args.bytes.now in
    let gives = c.whole.ensures in
    let read = reads r bytes gives in
    record {
      read = read;
      refused = refuses r bytes gives;
      whole = wholes r bytes (are_bytes bytes (λ i. omega (arith, c.type_inv.bytes i))) read;
      within = all_within (length bytes) r bytes (omega arith) read;
      sizes = all_within most_read r bytes c.requires read;
      taken = takes r bytes gives;
      failing = fails_there r bytes gives;
    }
