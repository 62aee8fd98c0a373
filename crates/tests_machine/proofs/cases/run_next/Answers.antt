use Rattle.std.proofs.Common.{ap, ◌∙◌, subst}
use Rattle.jc_programs.specs.Entries.{AreEntries}
use Rattle.jc_machine_model.specs.Begin.{begin}
use Rattle.tests_machine.proofs.CaseLaws.{begun_threads}
use Rattle.tests_machine.proofs.cases.run_next.Goals as goal

pub run_case-requires-clause-threads : goal.run_case-requires-clause-threads
run_case-requires-clause-threads c =
    let program = c.args.program.now in
    let case = c.args.next.case.now in
    let items = c.in_ok-entries.entries.items in
    let are : AreEntries program case.threads items = subst (λ ts. AreEntries program ts items) c.deref.ensures c.in_ok-entries.ensures in
    let begun = c.next.ensures.world ∙ ap (begin program case.threads) c.deref-2.ensures.value in
    begun_threads program case items c.next.new.self c.requires.case are begun
