use Rattle.std.proofs.Common.{◌++◌, take, List, [], ◌∷◌, Option, Some, None, append-nil, sym, ap, ◌∙◌}
use Rattle.jc_programs.specs.declared.run_end.Entry.{Entry}
use Rattle.jc_programs.specs.Entries.{entry_of}
use Rattle.jc_machine_model.specs.Begin.{entries_of}
use Rattle.jc_workers.proofs.CaseLaws.{entries_more}
use Rattle.jc_workers.proofs.plan_runner.entries_of.Goals as goal
use Rattle.jc_workers.proofs.plan_runner.entries_of.Goals.{in-Some+in_ok-push, in_default}

pub entering-preserved : goal.entering-preserved
entering-preserved c =
    let program = c.args.program.now in
    let threads = c.args.threads.now in
    let k = c.entering.thread-index in
    let more = entries_more program threads k c.thread-item.result c.entry.result c.entering-test.true
    (c.entry.ensures ∙ ap (entry_of program) c.thread-item.is) in
    let with : Option Entry → List Entry = λ o. entries_of program (take k threads) ++ elim o [ None ↦ [] | Some x ↦ x ∷ [] ] in
    elim c.match-entry.branch [
      | in-Some+in_ok-push w ↦ w.entries-is ∙ (w.in_ok-push.ensures.ok
          ∙ (ap (λ l. l ++ w.in-Some.method ∷ []) c.entering.invariant ∙ (ap with (sym w.in-Some.is) ∙ sym more)))
      | in_default w ↦ w.entries-is ∙ (c.entering.invariant ∙ (sym (append-nil (entries_of program (take k threads)))
          ∙ (ap with (sym w.in_default.is) ∙ sym more)))
    ]
