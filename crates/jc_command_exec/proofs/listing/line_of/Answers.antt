use Rattle.std.proofs.Common.{◌≡◌, ◌+◌, ◌-◌, ℕ, suc, length, sym, ◌∙◌, ap, arith}
use Rattle.jc_command_exec.specs.ExecInfo.{record_line}
use Rattle.jc_command_exec.specs.Listing.{listed_lines}
use Rattle.jc_command_exec.proofs.ListingLaws.{file_size, record_at}
use Rattle.jc_command_exec.proofs.listing.line_of.Goals as goal

pub returns : goal.returns
returns c =
    let file = c.args.file.now in
    let place = c.args.place in
    let k : ℕ = place - 1 - c.session_count-sessions.result in
    let size : length (listed_lines file) ≡ length file.store.sessions + length file.store.classes + 1 = file_size file.path.now file.store in
    let is : place ≡ suc (length file.store.sessions + k) = omega (arith, c.if-place-eq0.false, c.if-behind-sessions.false, c.session_count-sessions.ensures) in
    c.in_ok-record_line.ensures ∙ ap record_line c.in_ok-class.ensures.found
    ∙ sym (record_at file.path.now file.store place k c.in_ok-class.class is (omega (arith, is, size, c.requires)))
