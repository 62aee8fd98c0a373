-- Threads and cases that begin with a method each.
use Rattle.std.proofs.Common.{◌≡◌, ℕ, ◌+◌, ◌<◌, ◌≤◌, [], List, ◌∷◌, ◌++◌, Some, Contains, length, get_or, ◌∙◌, subst, arith, below_more}
use Rattle.std.proofs.lemmas.List.{get_or_default}
use Rattle.jc_programs.specs.declared.program.Program.{Program}
use Rattle.jc_programs.specs.declared.run_plan.Case.{Case}
use Rattle.jc_programs.specs.declared.run_plan.ThreadLine.{ThreadLine}
use Rattle.jc_programs.specs.declared.run_end.Entry.{Entry}
use Rattle.jc_programs.specs.Entries.{entry_of, AreEntries}
use Rattle.tests_workers.specs.Begin.{Begin}

-- one thread more has its entry
pub one_entry_more : (program : Program) (threads : List ThreadLine) (entries : List Entry) (thread : ThreadLine) (entry : Entry)
    → AreEntries program threads entries → entry_of program thread ≡ Some entry
    → AreEntries program (threads ++ thread ∷ []) (entries ++ entry ∷ [])
one_entry_more program [] [] thread entry are is = (is, are)
one_entry_more program [] (e ∷ entries) thread entry are is = absurd are
one_entry_more program (t ∷ threads) [] thread entry are is = absurd are
one_entry_more program (t ∷ threads) (e ∷ entries) thread entry are is = (are.0, one_entry_more program threads entries thread entry are.1 is)

-- one thread more begins
pub one_more_begins : (program : Program) (threads : List ThreadLine) (thread : ThreadLine) (entry : Entry)
    → Begin program threads → entry_of program thread ≡ Some entry → Begin program (threads ++ thread ∷ [])
one_more_begins program threads thread entry (entries, are) is =
    (entries ++ entry ∷ [], one_entry_more program threads entries thread entry are is)

-- The threads of each case of a list begin, as far as a place.
module _ (program : Program) (cases : List Case) where
  abbrev pub BeginBelow : ℕ → Type 0
  BeginBelow n = (k : ℕ) (d : Case) → k < n → Begin program (get_or cases k d).threads

  pub one_more_case : (i : ℕ) (case : Case) → i < length cases → case ≡ get_or cases i case → Begin program case.threads
      → BeginBelow i → BeginBelow (i + 1)
  one_more_case i case within is begins all k d below =
      below_more (λ k. (d : Case) → Begin program (get_or cases k d).threads) i (λ k less d. all k d less)
      (λ d. subst (λ (x : Case). Begin program x.threads) (is ∙ get_or_default cases i case d within) begins) k below d

  pub all_cases : (n : ℕ) → length cases ≤ n → BeginBelow n → (case : Case) → Contains cases case → Begin program case.threads
  all_cases n all_below begin case (k, within, is) =
      let below : k < n = omega arith in
      subst (λ (x : Case). Begin program x.threads) is (begin k case below)
