use Rattle.jc_command_work.proofs.Leaves.{wrote_file, broke_file}
use Rattle.jc_command_work.proofs.output.write_file.Goals as goal

pub returns-in-Ok-clause-does : goal.returns-in-Ok-clause-does
returns-in-Ok-clause-does g c out err outs errs =
    let F = g.F.Files in
    wrote_file F.landed (F.contents c.args.files.now) (F.contents c.write.new.self) (F.failed_path c.args.files.now) (F.failed_path c.write.new.self) out err (F.read_faults c.args.files.now)
    (F.read_faults c.write.new.self) (F.write_faults c.args.files.now) (F.write_faults c.write.new.self) outs errs
    c.args.path.now c.args.bytes.now c.in-Ok.ensures.leaves c.in-Ok.ensures.cause c.in-Ok.ensures.read_faults c.in-Ok.ensures.failed_path

pub returns-in-Err-clause-does : goal.returns-in-Err-clause-does
returns-in-Err-clause-does g c out err outs errs =
    let F = g.F.Files in
    broke_file F.landed (F.contents c.args.files.now) (F.contents c.write.new.self) (F.failed_path c.args.files.now) (F.failed_path c.write.new.self) out err (F.read_faults c.args.files.now)
    (F.read_faults c.write.new.self) (F.write_faults c.args.files.now) (F.write_faults c.write.new.self) outs errs
    c.args.path.now c.args.bytes.now c.in-Err.field-0 c.in-Err.ensures.leaves c.in-Err.ensures.cause c.in-Err.ensures.read_faults c.in-Err.ensures.failed_path
