use Rattle.jc_machine_code.specs.Prepared.{IsPreparedClass}
use Rattle.jc_machine_code.specs.Sites.{IsClassIndex}
use Rattle.jc_machine_code.proofs.CorrespondLaws.{through}
use Rattle.jc_machine_code.proofs.PrepareLaws.{all_made}
use Rattle.jc_machine_code.proofs.prepared.PreparedProgram.of.Goals as goal

pub prepared_classes-requires-clause-made : goal.prepared_classes-requires-clause-made
prepared_classes-requires-clause-made c = all_made c.args.program.now c.in_ok-index.index c.requires c.in_ok-index.ensures

pub returns : goal.returns
returns c = record {
  classes = through IsClassIndex (IsPreparedClass c.args.program.now) c.args.program.now.classes c.in_ok-index.index.classes c.in_ok-classes.classes
      c.in_ok-index.ensures.classes (c.in_ok-classes.ensures c.args.program.now c.in_ok-index.ensures);
}
