use Rattle.std.proofs.Common.{◌≡◌, ◌-◌}
use Rattle.jc_bytes.specs.Reader.{most_read}
use Rattle.jc_command_exec.proofs.PartLaws.{PartsRead}
use Rattle.jc_command_exec.proofs.gathered.feed_file.Given as goal

-- the parts so far were read and fed, and nothing else has changed
abbrev pub invariant-reading : goal.invariant-reading
invariant-reading g l =
    let F = g.F.Files in
    record {
      parts : PartsRead (F.contents l.fn.files) l.fn.path l.fn.first l.from l.ended l.feeding;
      contents : F.contents l.files ≡ F.contents l.fn.files;
      failed : F.failed_path l.files ≡ F.failed_path l.fn.files;
      reads : F.read_faults l.files ≡ F.read_faults l.fn.files;
      writes : F.write_faults l.files ≡ F.write_faults l.fn.files;
    }

abbrev pub decreases-reading : goal.decreases-reading
decreases-reading g l = most_read - l.from
