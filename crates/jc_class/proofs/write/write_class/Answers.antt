use Rattle.jc_class.proofs.WritableLaws.{written_back}
use Rattle.jc_class.proofs.write.write_class.Goals as goal

pub returns-clause-back : goal.returns-clause-back
returns-clause-back c = written_back c.args.class.now c.new-bytes.result.items c.put_class.new.into.items c.new-bytes.ensures.items c.in_ok-put_class.ensures.text c.in_ok-put_class.ensures.bytes
