use Rattle.std.proofs.Common.{◌≤◌, ℕ, List, Vec, length, sym, ◌∙◌, subst}
use Rattle.std.proofs.lemmas.Result.{err_from_is_err_and}
use Rattle.std.specs.declared.alloc.Global.{Global}
use Rattle.jc_bytes.specs.Reader.{most_read}
use Rattle.jc_machine_laws.specs.Frameless.{frameless}
use Rattle.jc_command_work.specs.Seen.{stop_seen}
use Rattle.jc_command_sample.proofs.BytesLaws.{sample_short}
use Rattle.jc_command_sample.proofs.LineLaws.{class_ends, linking_ends, line_decided}
use Rattle.jc_command_sample.proofs.work.sample_line.Goals as goal

pub instrumented-requires : goal.instrumented-requires
instrumented-requires g c =
    subst (λ (l : List ℕ). length l ≤ most_read) (sym (c.deref.ensures ∙ c.in_ok-bytes.ensures)) (sample_short c.args.methods c.requires.1)

pub returns-in_err-class : goal.returns-in_err-class
returns-in_err-class g c =
    let p = err_from_is_err_and c.from_residual-in_err-class.result c.from_residual-in_err-class.ensures.1 in
    rw (p.1, p.2) (class_ends c.args.methods c.deref.result.now (c.deref.ensures ∙ c.in_ok-bytes.ensures) (stop_seen c.in_err-class.field-0.0) c.in_err-class.ensures)

pub returns-in_err-program : goal.returns-in_err-program
returns-in_err-program g c =
    let p = err_from_is_err_and c.from_residual-in_err-program.result c.from_residual-in_err-program.ensures.1 in
    rw (p.1, p.2) (linking_ends c.args.methods c.deref.result.now (c.deref.ensures ∙ c.in_ok-bytes.ensures) c.in_ok-class.class c.in_ok-class.ensures
    (stop_seen c.in_err-program.field-0.0) c.in_err-program.ensures.linked)

pub returns : goal.returns
returns g c =
    line_decided c.args.methods c.deref.result.now (c.deref.ensures ∙ c.in_ok-bytes.ensures) c.in_ok-class.class c.in_ok-class.ensures (λ (line : Vec ℕ Global). line.items)
    (frameless c.in_ok-program.program) c.run_sample.result c.in_ok-program.ensures.linked c.run_sample.ensures
