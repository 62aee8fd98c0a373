use Rattle.std.proofs.Common.{◌≡◌, ◌+◌, ◌∷◌, [], ◌++◌, take, sym, ap, ◌∙◌, subst}
use Rattle.std.proofs.lemmas.List.{take_more}
use Rattle.jc_programs.specs.Entries.{AreEntries}
use Rattle.tests_machine.proofs.CaseLaws.{one_entry_more}
use Rattle.tests_machine.proofs.cases.entries.Goals as goal

pub looking-preserved : goal.looking-preserved
looking-preserved c =
    let program = c.args.program.now in
    let threads = c.args.threads.now in
    let k = c.looking.thread-index in
    let item = c.thread-item.result in
    let found = sym c.entry.ensures ∙ c.in-Some.is in
    let one = one_entry_more program (take k threads) c.looking.entries.items item c.in-Some.entry c.looking.invariant found in
    let more : take (k + 1) threads ≡ take k threads ++ item ∷ [] =
    take_more threads k item c.looking-test.true ∙ ap (λ x. take k threads ++ x ∷ []) (sym c.thread-item.is) in
    let longer = subst (λ ts. AreEntries program ts (c.looking.entries.items ++ c.in-Some.entry ∷ [])) (sym more) one in
    subst (AreEntries program (take (k + 1) threads)) (sym c.in_ok-push-in-Some.ensures.items) longer
