use Rattle.std.proofs.Common.{ℕ, ◌+◌, ap}
use Rattle.jc_exec.specs.Front.{moved}
use Rattle.jc_exec.proofs.FrontLaws.{not_read, no_version}
use Rattle.jc_exec.proofs.HeaderLaws.{version_takes}
use Rattle.jc_exec.proofs.block.header.Goals as goal

pub returns-in-Err : goal.returns-in-Err
returns-in-Err c =
    not_read {X = ℕ} (λ v. v) c.in-Err.unread _ _ (c.args.offset + c.place.result) c.unfit.result (moved c.args.offset c.args.reader.now)
    (moved c.args.offset c.version.new.reader) c.in-Err.ensures.gives c.unfit.ensures
    (no_version (moved c.args.offset c.args.reader.now) (c.args.offset + c.place.result) (ap (λ (n : ℕ). c.args.offset + n) c.place.ensures) c.requires.kind)

pub returns-then-found-ne-VERSION : goal.returns-then-found-ne-VERSION
returns-then-found-ne-VERSION c =
    let t = version_takes c.args.reader.now.left c.in-Ok.found c.version.new.reader.left c.in-Ok.ensures.gives in
    record { version = t.0; more = c.version.new.reader.left; parts = t.1; value = t.2; other = c.if-found-ne-VERSION.true }
