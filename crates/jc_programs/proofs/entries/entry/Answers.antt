use Rattle.std.proofs.Common.{◌∙◌, ap, position}
use Rattle.jc_programs.specs.Members.{class_named}
use Rattle.jc_programs.specs.Entries.{is_entry}
use Rattle.jc_programs.proofs.EntryLaws.{no_class, no_method, some_method}
use Rattle.jc_programs.proofs.entries.entry.Goals as goal

pub returns-in_err-class : goal.returns-in_err-class
returns-in_err-class c =
    rw c.from_residual.ensures (no_class c.args.program.now c.args.thread.now (c.in_err-class.ensures ∙ ap (class_named c.args.program.now) c.as_slice.ensures))

pub returns-in_err-method : goal.returns-in_err-method
returns-in_err-method c =
    let linked = c.index-as_slice-class.result in
    rw c.from_residual-in_err-method.ensures (
    no_method c.args.program.now c.args.thread.now c.in_ok-class.class linked
    (c.in_ok-class.ensures ∙ ap (class_named c.args.program.now) c.as_slice.ensures)
    (rw c.as_slice-2.ensures at c.index-as_slice-class.is)
    (c.in_err-method.ensures ∙ ap (position (is_entry c.args.thread.now)) c.as_slice-3.ensures)
    )

pub returns : goal.returns
returns c =
    let linked = c.index-as_slice-class.result in
    some_method c.args.program.now c.args.thread.now c.in_ok-class.class linked
    (c.in_ok-class.ensures ∙ ap (class_named c.args.program.now) c.as_slice.ensures)
    (rw c.as_slice-2.ensures at c.index-as_slice-class.is)
    c.in_ok-method.method (c.in_ok-method.ensures ∙ ap (position (is_entry c.args.thread.now)) c.as_slice-3.ensures)
