use Rattle.std.proofs.Common.{rules, ◌≡◌, ◌+◌, ◌<◌, ℕ, List, length, get_or, take, sym, ap, ◌∙◌, subst, arith, below_more}
use Rattle.std.proofs.lemmas.List.{take_all}
use Rattle.jc_programs.specs.declared.run_plan.Case.{Case}
use Rattle.jc_command_monitored.proofs.CaseLaws.{case_at, HasHits, none_yet, hits_more, ends_more, hits_of_plan}
use Rattle.jc_command_monitored.proofs.cases.run_cases.Goals as goal

pub run_case-requires-clause-case : goal.run_case-requires-clause-case
run_case-requires-clause-case g c =
    (case_at c.args.plan.now c.requires.plan c.as_slice-cases.result.now c.as_slice-cases.ensures c.running.index c.index-cases-index.result
    c.index-cases-index.is (omega arith)).0

pub run_case-requires-clause-entries : goal.run_case-requires-clause-entries
run_case-requires-clause-entries g c =
    c.requires.entries c.index-cases-index.result
    (case_at c.args.plan.now c.requires.plan c.as_slice-cases.result.now c.as_slice-cases.ensures c.running.index c.index-cases-index.result
    c.index-cases-index.is (omega arith)).1

pub running-init : goal.running-init
running-init g c = record {
  ends = search rules;
  counts = c.in_ok-sink.ensures.counts ∙ c.deref.ensures.value ∙ c.in_ok-counts.ensures;
  hits = none_yet c.args.program.now c.deref.result.now c.in_ok-sink.sink c.in_ok-sink.ensures.hits;
  passed = λ k less. absurd (omega (arith, less));
}

pub running-preserved : goal.running-preserved
running-preserved g c =
    let program = c.args.program.now in
    let cases = c.args.plan.now.cases in
    let i = c.running.index in
    let case = c.index-cases-index.result in
    let is = c.index-cases-index.is ∙ ap (λ (l : List Case). get_or l i case) c.as_slice-cases.ensures in
    let within : i < length cases = omega (arith, ap length c.as_slice-cases.ensures) in
    let so_far = c.running.invariant in record {
      ends = ends_more program cases i case within is c.running.ends.items c.push.new.self.items c.in_ok-end.end c.in_ok-push.ensures.items so_far.ends c.in_ok-end.ensures.end;
      counts = c.in_ok-end.ensures.counts ∙ so_far.counts;
      hits = hits_more program cases i case within is c.running.sink c.run_case.new.sink so_far.hits c.in_ok-end.ensures.hits;
      passed = below_more _ _ so_far.passed c.pass.ensures;
    }

pub returns-clause-hits : goal.returns-clause-hits
returns-clause-hits g c =
    let program = c.args.program.now in
    let cases = c.args.plan.now.cases in
    let all : take c.running.index cases ≡ cases = take_all c.running.index cases (omega (arith, ap length c.as_slice-cases.ensures)) in
    hits_of_plan program c.args.plan.now c.running.sink (subst (λ (l : List Case). HasHits program l c.running.sink) all c.running.invariant.hits)
