-- The cases of a run plan, and the methods with which their threads begin.
use Rattle.std.proofs.Common.{◌≡◌, ℕ, suc, ◌+◌, ◌<◌, List, [], ◌∷◌, ◌++◌, length, map, take}
use Rattle.std.proofs.Common.{Option, Some, None, option_map, refl, sym, ap, ap₂, ◌∙◌, subst, arith, slice_get, slice_index_or}
use Rattle.std.specs.Prelude.{Contains, IfOk, Result, Ok, Err}
use Rattle.std.proofs.lemmas.List.{length-map, get_or_default, take_more}
use Rattle.std.proofs.lemmas.List.Elements.{Contains-get_or}
use Rattle.std.proofs.lemmas.Option.{same_Some, slice_get-get_or, slice_get-map, get_or_from_slice_get}
use Rattle.jc_programs.specs.declared.program.Program.{Program}
use Rattle.jc_programs.specs.declared.run_plan.ThreadLine.{ThreadLine}
use Rattle.jc_programs.specs.declared.run_plan.Case.{Case}
use Rattle.jc_programs.specs.declared.run_plan.RunPlan.{RunPlan}
use Rattle.jc_programs.specs.declared.run_end.CaseEnd.{CaseEnd}
use Rattle.jc_programs.specs.declared.run_end.Entry.{Entry}
use Rattle.jc_programs.specs.Entries.{entry_of, AreEntries}
use Rattle.jc_programs.specs.Turns.{IsCase, turns_of, turns_in}
use Rattle.jc_machine_model.specs.Begin.{begin, begin_case, entries_of}
use Rattle.jc_machine_model.specs.World.{World}
use Rattle.jc_machine_model.specs.Run.{run_from, run, case_hits}
use Rattle.jc_machine.specs.Machines.{Machine, world_of}
use Rattle.jc_machine.proofs.FirstLaws.{as_many_entries, length-first_threads}
use Rattle.jc_workers.specs.Ran.{HitsOf, AreEnds}
use Rattle.jc_workers.specs.Cases.{case_at, no_case, end_under, ends_under, HitBy, AreHits, IsRunnable}

module _ (program : Program) where
  pub entries_are : (threads : List ThreadLine) (entries : List Entry) → AreEntries program threads entries → entries_of program threads ≡ entries
  entries_are [] [] h = refl
  entries_are [] (e ∷ entries) h = absurd h
  entries_are (t ∷ threads) [] h = absurd h
  entries_are (t ∷ threads) (e ∷ entries) h =
      ap (λ o. elim o [ None ↦ entries_of program threads | Some x ↦ x ∷ entries_of program threads ]) h.0
      ∙ ap (λ l. e ∷ l) (entries_are threads entries h.1)

  entries-append : (threads more : List ThreadLine) → entries_of program (threads ++ more) ≡ entries_of program threads ++ entries_of program more
  entries-append [] more = refl
  entries-append (t ∷ threads) more = by_entry (entry_of program t) (entries-append threads more)
    where
      by_entry : (o : Option Entry) → entries_of program (threads ++ more) ≡ entries_of program threads ++ entries_of program more
          → elim o [ None ↦ entries_of program (threads ++ more) | Some x ↦ x ∷ entries_of program (threads ++ more) ]
          ≡ elim o [ None ↦ entries_of program threads | Some x ↦ x ∷ entries_of program threads ] ++ entries_of program more
      by_entry None rest = rest
      by_entry (Some x) rest = ap (λ l. x ∷ l) rest

  -- the threads up to one, and that one, whose entry is this
  pub entries_more : (threads : List ThreadLine) (k : ℕ) (d : ThreadLine) (o : Option Entry) → k < length threads
      → o ≡ entry_of program (slice_index_or threads k d)
      → entries_of program (take (k + 1) threads) ≡ entries_of program (take k threads) ++ elim o [ None ↦ [] | Some x ↦ x ∷ [] ]
  entries_more threads k d o lt is =
      ap (entries_of program) (take_more threads k d lt)
      ∙ (entries-append (take k threads) (slice_index_or threads k d ∷ [])
      ∙ ap (λ p. entries_of program (take k threads) ++ elim p [ None ↦ [] | Some x ↦ x ∷ [] ]) (sym is))

  -- a case begins with its entries
  pub begins : (case : Case) (entries : List Entry) → AreEntries program case.threads entries → begin program case.threads entries ≡ begin_case program case
  begins case entries h = ap (begin program case.threads) (sym (entries_are case.threads entries h))

  pub as_many_threads : (m : Machine) (threads : List ThreadLine) (entries : List Entry) → AreEntries program threads entries
      → world_of m ≡ begin program threads entries
      → length m.threads ≡ length threads
  unfolding begin
  as_many_threads m threads entries h is =
      ap (λ (w : World). length w.threads) is ∙ length-first_threads program threads entries (as_many_entries program threads entries h)

  -- its turns, from the world in which it begins
  pub run_of : (m : Machine) (case : Case) (entries : List Entry) → AreEntries program case.threads entries → world_of m ≡ begin program case.threads entries
      → run_from program (world_of m) (turns_of (length m.threads) case.schedule) ≡ run program case (turns_in case)
  run_of m case entries h is =
      ap (λ n. run_from program (world_of m) (turns_of n case.schedule)) (as_many_threads m case.threads entries h is)
      ∙ ap (λ w. run_from program w (turns_in case)) (is ∙ begins case entries h)

-- what an index reads
pub read : {X : Type 0} (xs ys : List X) (k : ℕ) (x d : X) → x ≡ slice_index_or ys k x → ys ≡ xs → k < length xs → x ≡ slice_index_or xs k d
read xs ys k x d is same lt = is ∙ (ap (λ l. slice_index_or l k x) same ∙ get_or_default xs k x d lt)

-- one of the cases
module _ (program : Program) (plan : RunPlan) (entries : List (List Entry)) (r : IsRunnable program plan entries) (k : ℕ) (lt : k < length plan.cases) where
  pub is_case : IsCase (case_at plan k)
  is_case = r.plan_is.cases k no_case lt

  pub has_case : Contains plan.cases (case_at plan k)
  has_case = Contains-get_or plan.cases k no_case lt

  pub as_many_cases : length entries ≡ length plan.cases
  as_many_cases = ap (λ (l : List (List Entry)). length l) r.entries_are ∙ length-map plan.cases (λ (case : Case). entries_of program case.threads)

  -- its threads begin with the entries at its place
  pub entries_at : (e : List Entry) → AreEntries program (case_at plan k).threads (slice_index_or entries k e)
  entries_at e =
      let of = λ (case : Case). entries_of program case.threads in
      let at : slice_get (map of plan.cases) k ≡ Some (of (case_at plan k)) =
      slice_get-map of plan.cases k ∙ ap (option_map of) (slice_get-get_or plan.cases k no_case lt) in
      let is : slice_index_or entries k e ≡ of (case_at plan k) =
      ap (λ l. slice_index_or l k e) r.entries_are ∙ get_or_from_slice_get (map of plan.cases) k (of (case_at plan k)) e at in
      let have = r.have_entries (case_at plan k) has_case in
      subst (AreEntries program (case_at plan k).threads) (sym (entries_are program (case_at plan k).threads have.0 have.1) ∙ sym is) have.1

-- ---- all cases

all_ends : {A B : Type 0} (f : A → B) (d : A) (xs : List A) (ys : List B) → AreEnds (length xs) (λ k. f (slice_index_or xs k d)) ys → ys ≡ map f xs
all_ends f d [] [] h = refl
all_ends f d [] (y ∷ ys) h = absurd (omega (arith, h.count))
all_ends f d (x ∷ xs) [] h = absurd (omega (arith, h.count))
all_ends f d (x ∷ xs) (y ∷ ys) h =
    ap₂ (λ a l. a ∷ l) (same_Some y (f x) (h.each 0 (omega arith)))
    (all_ends f d xs ys (record { count = omega (arith, h.count); each = λ k lt. h.each (suc k) (omega (arith, lt)) }))

module _ (program : Program) (plan : RunPlan) where
  -- the ends of all cases, in their order
  pub ends_in_order : (ends : List CaseEnd) → AreEnds (length plan.cases) (λ k. end_under program (case_at plan k)) ends → ends ≡ ends_under program plan
  ends_in_order ends h = all_ends (end_under program) no_case plan.cases ends h

  -- the hits of all cases
  pub hits_of_all : (hits : List (ℕ × ℕ)) → HitsOf (length plan.cases) (HitBy program plan) (λ _. Unit {0}) hits → AreHits program plan hits
  hits_of_all hits h class id = (
    λ there. let t = h.by class id there in (case_at plan t.0, Contains-get_or plan.cases t.0 no_case t.1, t.3),
    λ hit. h.all hit.1.0 class id hit.1.1 tt (subst (λ c. Contains (case_hits program c) (record { class = class; id = id }))
        (sym (get_or_default plan.cases hit.1.0 no_case hit.0 hit.1.1 ∙ hit.1.2)) hit.2),
  )

-- ---- results

pub each_ok : {T E : Type 0} (r : Result T E) (P : T → Type 0) → ((x : T) → P x) → IfOk r P
each_ok (Ok x) P h = h x
each_ok (Err e) P h = tt

pub then_ok : {T E : Type 0} (r : Result T E) (P Q : T → Type 0) → IfOk r P → ((x : T) → P x → Q x) → IfOk r Q
then_ok (Ok x) P Q p h = h x p
then_ok (Err e) P Q p h = tt
