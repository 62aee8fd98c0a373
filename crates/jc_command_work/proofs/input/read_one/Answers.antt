use Rattle.std.proofs.Common.{List, ℕ, Ok, Err, sym, subst, ◌∙◌}
use Rattle.jc_bytes.specs.ByteLists.{AreBytes}
use Rattle.jc_outside.specs.Outside.{ReadGives}
use Rattle.jc_command_work.proofs.Leaves.{read_file, didn't_read, read_short}
use Rattle.jc_command_work.proofs.input.read_one.Goals as goal

pub returns-in-Ok-clause-does : goal.returns-in-Ok-clause-does
returns-in-Ok-clause-does g c out err outs errs =
    let F = g.F.Files in
    let k = F.contents c.args.files.now in
    let path = c.args.path.now in
    let gives = subst (λ (l : List ℕ). ReadGives k path l c.from_vec.result (Ok tt)) c.new-bytes.ensures.items
    (subst (λ (l : List ℕ). ReadGives k path c.new-bytes.result.items l (Ok tt)) (sym c.from_vec.ensures) c.in-Ok.ensures.gives) in
    read_file F.landed k (F.contents c.read.new.self) (F.failed_path c.args.files.now) (F.failed_path c.read.new.self) out err (F.read_faults c.args.files.now) (F.read_faults c.read.new.self)
    (F.write_faults c.args.files.now) (F.write_faults c.read.new.self) outs errs
    path c.from_vec.result gives c.in-Ok.ensures.cause (subst AreBytes (c.as_slice.ensures.value ∙ sym c.from_vec.ensures) c.are_bytes.ensures) c.in-Ok.ensures.contents c.in-Ok.ensures.write_faults
    c.in-Ok.ensures.failed_path

pub returns-clause-does : goal.returns-clause-does
returns-clause-does g c out err outs errs =
    let F = g.F.Files in
    let gives = subst (λ (l : List ℕ). ReadGives (F.contents c.args.files.now) c.args.path.now l c.read.new.into.items (Err c.in-Err.fault)) c.new-bytes.ensures.items c.in-Err.ensures.gives in
    rw c.read_stop.ensures
    (didn't_read F.landed (F.failed_path c.args.files.now) (F.failed_path c.read.new.self) out err (F.read_faults c.args.files.now)
    (F.read_faults c.read.new.self) (F.write_faults c.args.files.now) (F.write_faults c.read.new.self) outs errs
    (F.contents c.args.files.now) (F.contents c.read.new.self) c.args.path c.read.new.into.items c.in-Err.fault gives c.in-Err.ensures.cause c.in-Err.ensures.contents c.in-Err.ensures.write_faults
    c.in-Err.ensures.failed_path)

pub returns-in-Ok-clause-short : goal.returns-in-Ok-clause-short
returns-in-Ok-clause-short g c =
    let k = g.F.Files.contents c.args.files.now in
    read_short k c.args.path.now c.from_vec.result (subst (λ (l : List ℕ). ReadGives k c.args.path.now l c.from_vec.result (Ok tt)) c.new-bytes.ensures.items
    (subst (λ (l : List ℕ). ReadGives k c.args.path.now c.new-bytes.result.items l (Ok tt)) (sym c.from_vec.ensures) c.in-Ok.ensures.gives))
