use Rattle.std.proofs.Common.{◌≡◌, ◌++◌, ℕ, List, [], Option, Err, refl, sym, ◌∙◌, ap, subst}
use Rattle.jc_bytes.specs.ByteLists.{AreBytes}
use Rattle.jc_outside.specs.Outside.{FileMap, FaultLeaves, FaultCause, IsFilePart, LastFailed, last_failed}
use Rattle.jc_command_work.proofs.Leaves.{read_file, didn't_read}
use Rattle.jc_command_exec.proofs.PartLaws.{parts_start, part_more, file_ended}
use Rattle.jc_command_exec.proofs.gathered.feed_file.Goals as goal

pub reading-init : goal.reading-init
reading-init g c = record { parts = parts_start (g.F.Files.contents c.args.files.now) c.args.path.now c.args.first; contents = refl; failed = refl; reads = refl; writes = refl }

pub returns-in-Err : goal.returns-in-Err
returns-in-Err g c =
    let F = g.F.Files in
    let k = F.contents c.args.files.now in
    let path = c.args.path.now in
    let inv = c.reading.invariant in
    let items = c.read_part.new.into.items in
    let fault = c.in-Err.fault in
    let r' = F.read_faults c.read_part.new.self in
    let gives = subst (λ (l : List ℕ). FaultLeaves k path l items fault) c.clear.ensures.items
    (subst (λ (m : Option FileMap). FaultLeaves m path c.clear.new.self.items items fault) inv.contents c.in-Err.ensures.gives) in
    let caused = subst (λ (n : ℕ). FaultCause k n r' fault) inv.reads
    (subst (λ (m : Option FileMap). FaultCause m (F.read_faults c.reading.files) r' fault) inv.contents c.in-Err.ensures.cause) in (
      [],
      (λ out err outs errs. rw c.read_stop.ensures
          (didn't_read F.landed (F.failed_path c.args.files.now) (F.failed_path c.read_part.new.self) out err (F.read_faults c.args.files.now) r'
          (F.write_faults c.args.files.now) (F.write_faults c.read_part.new.self) outs errs
          k (F.contents c.read_part.new.self) c.args.path items fault gives caused (c.in-Err.ensures.contents ∙ inv.contents) (c.in-Err.ensures.write_faults ∙ inv.writes)
          (c.in-Err.ensures.failed_path ∙ ap (λ (p : LastFailed). last_failed {A = Unit {0}} path p (Err fault)) inv.failed))),
      tt,
    )

pub reading-preserved : goal.reading-preserved
reading-preserved g c =
    let k = g.F.Files.contents c.args.files.now in
    let path = c.args.path.now in
    let inv = c.reading.invariant in
    let gives = c.in-Ok.ensures.gives in
    let same : c.deref.result.now ≡ gives.0 = c.deref.ensures.value ∙ gives.1 ∙ ap (λ (l : List ℕ). l ++ gives.0) c.clear.ensures.items in
    let part = subst (λ (l : List ℕ). IsFilePart k path c.reading.from l c.in-Ok.ended) (sym same)
    (subst (λ (m : Option FileMap). IsFilePart m path c.reading.from gives.0 c.in-Ok.ended) inv.contents gives.2) in
    record {
      parts = part_more k path c.args.first c.reading.feeding c.in_ok-feeding.feeding c.reading.from c.reading.ended c.reading-test.true inv.parts
          c.deref.result.now c.in-Ok.ended (subst AreBytes (c.as_slice.ensures.value ∙ sym c.deref.ensures.value) c.are_bytes.ensures) part c.in_ok-feeding.ensures;
      contents = c.in-Ok.ensures.contents ∙ inv.contents;
      failed = c.in-Ok.ensures.failed_path ∙ inv.failed;
      reads = c.in-Ok.ensures.cause ∙ inv.reads;
      writes = c.in-Ok.ensures.write_faults ∙ inv.writes;
    }

pub returns : goal.returns
returns g c =
    let F = g.F.Files in
    let k = F.contents c.args.files.now in
    let path = c.args.path.now in
    let inv = c.reading.invariant in
    let p = inv.parts in (
      p.bytes,
      (λ out err outs errs.
          read_file F.landed k (F.contents c.reading.files) (F.failed_path c.args.files.now) (F.failed_path c.reading.files) out err (F.read_faults c.args.files.now) (F.read_faults c.reading.files)
          (F.write_faults c.args.files.now) (F.write_faults c.reading.files) outs errs path p.bytes
          (file_ended k path c.args.first c.reading.from c.reading.ended c.reading.feeding c.reading-test.false p) inv.reads p.are inv.contents inv.writes inv.failed),
      p.fed,
    )
