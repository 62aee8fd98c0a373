use Rattle.std.proofs.Common.{◌≡◌, length, inl, inr, ⊎_elim, sym, ap, ◌∙◌, subst, subst₂, slice_index_or}
use Rattle.std.specs.Prelude.{Contains, IfOk}
use Rattle.jc_programs.specs.declared.run_plan.Case.{Case}
use Rattle.jc_programs.specs.declared.run_end.CaseEnd.{CaseEnd}
use Rattle.jc_programs.specs.Entries.{AreEntries}
use Rattle.jc_programs.specs.Turns.{AreThreads, turns_of, turns_in}
use Rattle.jc_machine_model.specs.World.{World}
use Rattle.jc_machine_model.specs.Run.{run_from, run}
use Rattle.jc_machine_model.specs.CaseEnds.{case_end_in}
use Rattle.jc_machine.specs.Machines.{world_of}
use Rattle.jc_workers.specs.Cases.{case_at, no_case, end_under}
use Rattle.jc_workers.proofs.CaseLaws.{read, is_case, entries_at, as_many_threads, run_of, each_ok}
use Rattle.jc_workers.proofs.plan_runner.PlanRunnerCaseRunner.run.Given.{Over}
use Rattle.jc_workers.proofs.plan_runner.PlanRunnerCaseRunner.run.Goals as goal
use Rattle.jc_workers.proofs.plan_runner.PlanRunnerCaseRunner.run.Goals.{After-deref-2, After-run}

-- the case with the number
case_is : (g : Over) (c : After-deref-2 g) → c.index-deref-case.result ≡ case_at c.args.self.now.plan.now c.args.case
case_is g c =
    let plan = c.args.self.now.plan.now in
    read plan.cases c.deref.result.now c.args.case c.index-deref-case.result no_case c.index-deref-case.is c.deref.ensures c.requires.case

are_entries : (g : Over) (c : After-deref-2 g) → AreEntries c.args.self.now.program.now c.index-deref-case.result.threads c.deref-2.result.now
are_entries g c =
    let program = c.args.self.now.program.now in
    let plan = c.args.self.now.plan.now in
    let entries = c.args.self.now.entries.items in
    let entries_is : c.deref-2.result.now ≡ slice_index_or entries c.args.case c.index.result.now = c.deref-2.ensures ∙ c.index.ensures in
    subst₂ (λ case es. AreEntries program case.threads es) (sym (case_is g c)) (sym entries_is)
    (entries_at program plan entries c.requires.runner c.args.case c.requires.case c.index.result.now)

pub next-requires-clause-entries : goal.next-requires-clause-entries
next-requires-clause-entries g c = are_entries g (goal.at.next-requires-clause-entries g c).After-deref-2

pub run-requires-clause-threads : goal.run-requires-clause-threads
run-requires-clause-threads g c =
    let at = (goal.at.run-requires-clause-threads g c).After-deref-2 in
    let case = c.index-deref-case.result in
    let program = c.args.self.now.program.now in
    let plan = c.args.self.now.plan.now in
    subst (λ n. AreThreads n case.schedule)
    (sym (as_many_threads program c.next.new.self case.threads c.deref-2.result.now (are_entries g at) c.next.ensures.world))
    (subst (λ (x : Case). AreThreads (length x.threads) x.schedule) (sym (case_is g at))
    (is_case program plan c.args.self.now.entries.items c.requires.runner c.args.case c.requires.case).threads)

-- the turns of the case, from its first world
ran : (g : Over) (c : After-run g) → c.index-deref-case.result ≡ case_at c.args.self.now.plan.now c.args.case
    → AreEntries c.args.self.now.program.now c.index-deref-case.result.threads c.deref-2.result.now
    → let case = case_at c.args.self.now.plan.now c.args.case in
    run_from c.args.self.now.program.now (world_of c.next.new.self) (turns_of (length c.next.new.self.threads) c.index-deref-case.result.schedule)
    ≡ run c.args.self.now.program.now case (turns_in case)
ran g c is are =
    let program = c.args.self.now.program.now in
    run_of program c.next.new.self c.index-deref-case.result c.deref-2.result.now are c.next.ensures.world
    ∙ ap (λ case. run program case (turns_in case)) is

pub returns-clause-end : goal.returns-clause-end
returns-clause-end g c =
    let at = goal.at.returns-clause-end g c in
    let same = ran g at.After-run (case_is g at.After-deref-2) (are_entries g at.After-deref-2) in
    let program = c.args.self.now.program.now in
    let ended : case_end_in program (world_of c.run.new.self) ≡ end_under program (case_at c.args.self.now.plan.now c.args.case) =
    ap (case_end_in program) c.run.ensures.world ∙ ap (case_end_in program) same in
    subst (λ (x : CaseEnd). IfOk c.end.result (λ e. e ≡ x)) ended (c.end.ensures program c.run.ensures.fits)

pub returns-clause-gained : goal.returns-clause-gained
returns-clause-gained g c =
    let at = goal.at.returns-clause-gained g c in
    let same = ran g at.After-run (case_is g at.After-deref-2) (are_entries g at.After-deref-2) in
    each_ok c.end.result _
    (λ _ class id h. (c.run.ensures.hits class id).1 (inr (subst (λ (w : World). Contains w.hits (record { class = class; id = id })) (sym same) h)))

pub returns-clause-others : goal.returns-clause-others
returns-clause-others g c class id h =
    let at = goal.at.returns-clause-others g c in
    let same = ran g at.After-run (case_is g at.After-deref-2) (are_entries g at.After-deref-2) in
    ⊎_elim
    (λ was. inl was)
    (λ new. inr (subst (λ (w : World). Contains w.hits (record { class = class; id = id })) same new))
    ((c.run.ensures.hits class id).0 h)
