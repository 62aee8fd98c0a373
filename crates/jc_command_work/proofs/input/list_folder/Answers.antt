use Rattle.jc_command_work.proofs.Leaves.{listed_folder, didn't_list}
use Rattle.jc_command_work.proofs.input.list_folder.Goals as goal

pub returns-in-Ok : goal.returns-in-Ok
returns-in-Ok g c out err outs errs =
    let F = g.F.Files in
    listed_folder F.landed (F.contents c.args.files.now) (F.contents c.list.new.self) (F.failed_path c.args.files.now) (F.failed_path c.list.new.self) out err (F.read_faults c.args.files.now)
    (F.read_faults c.list.new.self) (F.write_faults c.args.files.now) (F.write_faults c.list.new.self) outs errs
    c.args.folder.now c.in-Ok.paths c.in-Ok.ensures.gives c.in-Ok.ensures.cause c.in-Ok.ensures.contents c.in-Ok.ensures.write_faults c.in-Ok.ensures.failed_path

pub returns-in-Err : goal.returns-in-Err
returns-in-Err g c out err outs errs =
    let F = g.F.Files in
    rw c.read_stop.ensures
    (didn't_list F.landed (F.contents c.args.files.now) (F.contents c.list.new.self) (F.failed_path c.args.files.now) (F.failed_path c.list.new.self) out err (F.read_faults c.args.files.now)
    (F.read_faults c.list.new.self) (F.write_faults c.args.files.now) (F.write_faults c.list.new.self) outs errs
    c.args.folder c.in-Err.fault c.in-Err.ensures.cause c.in-Err.ensures.contents c.in-Err.ensures.write_faults c.in-Err.ensures.failed_path)
