-- What the cases of a run plan leave when all have run: the dumps in their order, and the rest.
use Rattle.std.proofs.Common.{◌≡◌, ◌⊎◌, ℕ, ◌-◌, ◌*◌, ◌/◌, ◌%◌, ◌<◌, ◌≤◌, List, [], Bool, true, length, map, sym, ap, inl, inr, ⊎_elim, ◌∙◌, subst, arith}
use Rattle.std.specs.Prelude.{Contains, ◌↔◌, Some, slice_get}
use Rattle.std.proofs.lemmas.Bool.{cases_lt}
use Rattle.std.proofs.lemmas.Bool.Decides.{nat_tests}
use Rattle.std.proofs.lemmas.Option.{get_or_from_slice_get}
use Rattle.jc_programs.specs.declared.program.Program.{Program}
use Rattle.jc_programs.specs.declared.run_plan.RunPlan.{RunPlan}
use Rattle.jc_programs.specs.Probes.{counts_of, IsHit}
use Rattle.jc_machine.specs.Hits.{probe_counts}
use Rattle.jc_dump_board.specs.Seen.{DumpSeatSeen}
use Rattle.jc_workers.specs.Cases.{HitBy, AreHits}
use Rattle.jc_workers.specs.Claims.{times, once_below, AreThoseBelow}
use Rattle.jc_workers.specs.Drawing.{AreInTurn}
use Rattle.jc_workers.proofs.CaseLaws.{hits_of_all}
use Rattle.jc_workers.proofs.ClaimLaws.{below_once, contains_times}
use Rattle.jc_workers.proofs.NumberLaws.{contained, once_is, length_turn}
use Rattle.jc_dump.specs.Dumps.{dump_at, AnyDumpHas, AreDumps, AreInOrder}
use Rattle.jc_dump.specs.HasRun.{Dumps, number, HasDump, AnyHas, AnyFrom, last_case, HasRun}
use Rattle.jc_dump.proofs.DueLaws.{parts, due_next, last_below, below_last}
use Rattle.jc_dump.proofs.OrderLaws.{dump_of, is_below}

once_not : (x n : ℕ) → n ≤ x → once_below x n ≡ 0
once_not x n le = grind (arith, nat_tests)

-- the same program, run plan and counts, said otherwise
pub same_run : (every : ℕ) (p program : Program) (q plan : RunPlan) (counts cases : List ℕ) (seat : DumpSeatSeen) (dumps : Dumps) → p ≡ program → q ≡ plan
    → counts ≡ probe_counts program → HasRun every counts (HitBy p q) cases seat dumps
    → HasRun every (probe_counts program) (HitBy program plan) cases seat dumps
same_run every p program q plan counts cases seat dumps a b c ran =
    subst (λ (t : Program × RunPlan × List ℕ). HasRun every t.2 (HitBy t.0 t.1) cases seat dumps) (λ j. (a j, b j, c j)) ran

module _ (program : Program) (plan : RunPlan) (every : ℕ) (some : 0 < every) (cases : List ℕ) (seat : DumpSeatSeen) (taken : Dumps)
    (those : AreThoseBelow (length plan.cases) cases) (ran : HasRun every (probe_counts program) (HitBy program plan) cases seat taken) where
  -- each dump is there once
  pub once : (d : ℕ) → times d (map number taken) ≡ once_below d (length plan.cases / every)
  once d = ran.numbers d ∙ (those (last_case every d) ∙ same (cases_lt d (length plan.cases / every)))
    where
      same : (d < length plan.cases / every) ⊎ (length plan.cases / every ≤ d)
          → once_below (last_case every d) (length plan.cases) ≡ once_below d (length plan.cases / every)
      same (inl lt) = once_is (last_case every d) (length plan.cases) (last_below every some d (length plan.cases) lt)
          ∙ sym (once_is d (length plan.cases / every) lt)
      same (inr le) = once_not (last_case every d) (length plan.cases) (past (cases_lt (last_case every d) (length plan.cases)))
          ∙ sym (once_not d (length plan.cases / every) le)
        where
          past : (last_case every d < length plan.cases) ⊎ (length plan.cases ≤ last_case every d) → length plan.cases ≤ last_case every d
          past (inl lt) = absurd (omega (arith, below_last every some d (length plan.cases) lt, le))
          past (inr high) = high

  all_hits : AreHits program plan seat.hits
  all_hits = hits_of_all program plan seat.hits (record {
    by = λ c i h. let t = (ran.hits c i).0 h in
        (t.0, below_once t.0 (length plan.cases) (omega (arith, those t.0, contains_times cases t.0 t.1)), tt, t.2);
    all = λ k c i lt _ hit. (ran.hits c i).1 (k, contained cases k (omega (arith, those k, once_is k (length plan.cases) lt)), hit);
  })

  -- the dumps, each at the place of its number
  module _ (dumps : List (List (List Bool))) (len : length dumps ≡ length plan.cases / every)
      (placed : (d : ℕ) (dump : List (List Bool)) → HasDump taken d dump → slice_get dumps d ≡ Some dump) where
    at : (d : ℕ) (dump : List (List Bool)) → HasDump taken d dump → dump_at dumps d ≡ dump
    at d dump h = get_or_from_slice_get dumps d dump [] (placed d dump h)

    the_dump : (d : ℕ) → d < length dumps → HasDump taken d (dump_at dumps d)
    the_dump d lt =
        let t = dump_of (length plan.cases / every) taken once d (omega (arith, lt, len)) in
        subst (λ (x : List (List Bool)). HasDump taken d x) (sym (at d t.0 t.1)) t.1

    in_some : (c i : ℕ) → AnyHas taken c i → AnyDumpHas dumps c i
    in_some c i t = (
      t.0,
      omega (arith, len, is_below (length plan.cases / every) taken once t.0 t.1 t.2),
      subst (λ (x : List (List Bool)). IsHit x c i) (sym (at t.0 t.1 t.2)) t.3,
    )

    from_some : (c i : ℕ) → AnyDumpHas dumps c i → AnyHas taken c i
    from_some c i t = (t.0, dump_at dumps t.0, the_dump t.0 t.1, t.2)

    -- the board is closed, and what was left is the rest
    module _ (rest : List (List Bool)) where
      pub are_dumps : counts_of rest ≡ probe_counts program
          → ((c i : ℕ) → Contains seat.settled (c, i) → Contains seat.taken (c, i))
          → ((c i : ℕ) → Contains seat.hits (c, i) ↔ (Contains seat.taken (c, i) ⊎ IsHit rest c i))
          → AreDumps program plan every dumps rest
      are_dumps counts settled whole = record {
        count = len;
        dump_counts = λ d lt. ran.same_counts d (dump_at dumps d) (the_dump d lt);
        rest_counts = counts;
        all = λ c i. (
          λ h. ⊎_elim (λ x. inl (in_some c i ((ran.taken c i).0 x))) (λ y. inr y) ((whole c i).0 ((all_hits c i).1 h)),
          λ t. (all_hits c i).0 ((whole c i).1 (⊎_elim (λ x. inl ((ran.taken c i).1 (from_some c i x))) (λ y. inr y) t)),
        );
        due = λ k lt zero_is c i h. in_some c i ((ran.taken c i).0 (settled c i
            (ran.settled k (contained cases k (omega (arith, those k, once_is k (length plan.cases) lt))) (due_next every some k zero_is) c i h)));
      }

      pub are_in_order : seat.alone ≡ true → AreInTurn cases
          → ((c i : ℕ) → IsHit rest c i ↔ Contains seat.pending (c, i)) → AreInOrder program plan every dumps rest
      are_in_order alone turn left =
          let of = ran.alone alone turn in
          let long : length cases ≡ length plan.cases = length_turn cases (length plan.cases) turn those in
          let first : length cases - length cases % every ≡ length dumps * every =
          omega (arith, parts every some (length cases)) ∙ ap (λ (n : ℕ). n / every * every) long ∙ ap (λ (n : ℕ). n * every) (sym len) in
          record {
            each = λ d lt c i. of.each d (dump_at dumps d) (the_dump d lt) c i;
            last = λ c i.
                let mine = subst (λ (t : ℕ × ℕ). Contains seat.pending (c, i) ↔ AnyFrom (HitBy program plan) t.0 t.1 c i) (λ j. (first j, long j))
                (of.last c i) in
                (λ h. mine.0 ((left c i).0 h), λ t. (left c i).1 (mine.1 t));
          }
