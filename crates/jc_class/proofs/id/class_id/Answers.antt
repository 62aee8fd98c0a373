use Rattle.jc_class.proofs.RemainderLaws.{version_53}
use Rattle.jc_class.proofs.id.class_id.Goals as goal

pub returns : goal.returns
returns c = version_53 c.args.bytes.now c.is_of_version_53.result c.after_bytes-front.result c.after_bytes-version.result c.after_bytes-2.result
    c.if-not-is_of_version_53.false c.is_of_version_53.ensures c.after_bytes-front.ensures c.after_bytes-version.ensures c.after_bytes-2.ensures
