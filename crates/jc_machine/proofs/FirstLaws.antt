-- Threads as a case begins.
use Rattle.std.proofs.Common.{◌≡◌, ℕ, ℤ, zero, suc, ◌+◌, ◌<◌, ◌≤◌, true, cond, List, [], ◌∷◌, ◌++◌, length, take, replicate, Option, Some, None, refl, sym, ap}
use Rattle.std.proofs.Common.{◌∙◌, subst, arith, slice_get, slice_index_or}
use Rattle.std.specs.Option.{option_and_then}
use Rattle.std.specs.Prelude.{position}
use Rattle.std.specs.List.{AllByRecursion}
use Rattle.std.proofs.lemmas.List.{length-replicate, take_more, take_all}
use Rattle.std.proofs.lemmas.List.Quantifiers.{position-Some}
use Rattle.std.proofs.lemmas.Option.{slice_get-get_or, same_Some}
use Rattle.std.proofs.lemmas.Bool.{and_parts}
use Rattle.jc_bytes.proofs.OptionLaws.{none_some, map_some, then_some}
use Rattle.jc_methods.specs.declared.body.Body.{Body}
use Rattle.jc_methods.specs.EntryState.{is_static}
use Rattle.jc_methods.specs.DescriptorTypes.{method_type_in}
use Rattle.jc_programs.specs.declared.program.Program.{Program}
use Rattle.jc_programs.specs.declared.run_plan.ThreadLine.{ThreadLine}
use Rattle.jc_programs.specs.declared.run_end.Entry.{Entry}
use Rattle.jc_programs.specs.Members.{class_at, class_named, body_of}
use Rattle.jc_programs.specs.Entries.{is_entry, entry_in, entry_of, are_arguments, AreEntries}
use Rattle.jc_machine_code.specs.declared.prepared.PreparedMethod.{PreparedMethod}
use Rattle.jc_machine_code.specs.declared.prepared.PreparedProgram.{PreparedProgram}
use Rattle.jc_machine_code.specs.Prepared.{IsMethodOf, IsPrepared}
use Rattle.jc_machine_model.specs.Programs.{IsProgram}
use Rattle.jc_machine_model.specs.Values.{Value}
use Rattle.jc_machine_model.specs.World.{running, stuck}
use Rattle.jc_machine_model.specs.Calls.{spread_values, locals_for}
use Rattle.jc_machine_model.specs.Begin.{argument_values, first_frame, thread_in, thread_for, first_thread, first_threads}
use Rattle.jc_machine_model.specs.Step.{new_frame}
use Rattle.jc_machine_model.specs.Fits.{FitsThread, FitsRunning}
use Rattle.jc_machine_model.proofs.BeginLaws.{no_body, threads_fit}
use Rattle.jc_machine_laws.proofs.CallLaws.{body_is}
use Rattle.jc_machine.specs.Threads.{ThreadFrames}
use Rattle.jc_machine.specs.FirstThreads.{Takes, FitParameters, BeginsWith}
use Rattle.jc_machine.proofs.ArgumentLaws.{nothing}
use Rattle.jc_machine.proofs.CallingLaws.{HasArguments, arguments_within}
use Rattle.jc_machine.proofs.TurnLaws.{types_of, method_is}

module _ (program : Program) (prepared : PreparedProgram) (method : Entry) (numbers : List ℤ) (m : PreparedMethod)
    (begins : BeginsWith program prepared method numbers) (of : IsMethodOf program method m) (enterable : m.is_enterable ≡ true) where
  -- the thread of a method that may be entered
  pub first_runs : first_thread program method numbers ≡ running (first_frame method of.body numbers) []
  first_runs =
      ap (thread_for method numbers) of.class_is
      ∙ (ap (λ o. elim o [ None ↦ stuck method 0 | Some b ↦ thread_in method numbers of.linked b ]) of.body_is
      ∙ ap (λ z. cond z (running (first_frame method of.body numbers) []) (stuck method 0)) (sym of.prepared.is_enterable ∙ enterable))

  pub takes : are_arguments (types_of of.body) numbers ≡ true
  takes = subst (λ (o : Option Body). Takes o numbers) (method_is program method m of) begins.takes

  arguments : HasArguments of.body (argument_values (types_of of.body) numbers)
  arguments =
      let run : FitsRunning program [] (first_frame method of.body numbers) [] = subst (FitsThread program []) first_runs begins.fits in
      arguments_within program method of.body (argument_values (types_of of.body) numbers) begins.program_is (method_is program method m of) run.top

  pub locals_few : m.max_locals ≤ 1004
  locals_few = subst (λ n. n ≤ 1004) (sym of.prepared.max_locals) arguments.few

  module _ (locals : List (Option Value)) (empty : locals ≡ replicate m.max_locals None) where
    pub as_many : length locals ≡ m.max_locals
    as_many = ap (λ (l : List (Option Value)). length l) empty ∙ length-replicate m.max_locals None

    pub slots_within : length (spread_values (argument_values (types_of of.body) numbers)) ≤ length locals
    slots_within = subst (λ n. length (spread_values (argument_values (types_of of.body) numbers)) ≤ n) (sym (as_many ∙ of.prepared.max_locals))
        arguments.within

    pub parameters_fit : FitParameters m.parameters numbers locals
    parameters_fit = record {
      types = types_of of.body;
      are = of.prepared.parameters;
      taken = takes;
      within = slots_within;
      few = subst (λ n. n ≤ 1004) (sym as_many) locals_few;
    }

  pub run_is : (before first now : ThreadFrames) → first ≡ record before { top = new_frame method (replicate m.max_locals None); waiting = [] }
      → now ≡ record first { top = record first.top { locals = locals_for (length first.top.locals) (argument_values (types_of of.body) numbers) } }
      → running now.top now.waiting ≡ first_thread program method numbers
  run_is before first now first_is now_is =
      let count : length (nothing m.max_locals) ≡ of.body.max_locals = length-replicate m.max_locals None ∙ of.prepared.max_locals in
      ap (λ (f : ThreadFrames). running f.top f.waiting) now_is
      ∙ (ap (λ (f : ThreadFrames). running (record f.top { locals = locals_for (length f.top.locals) (argument_values (types_of of.body) numbers) }) f.waiting)
      first_is
      ∙ (ap (λ n. running (new_frame method (locals_for n (argument_values (types_of of.body) numbers))) []) count ∙ sym first_runs))

-- ---- all threads

passes_numbers : (thread : ThreadLine) (b : Body) → is_entry thread b ≡ true → are_arguments (method_type_in b.desc).parameters thread.args ≡ true
passes_numbers thread b e = (and_parts _ _ (and_parts _ _ (and_parts (is_static b.flags) _ e).1).1).1

-- the method takes the numbers of a thread of which it is the entry
entry_takes : (program : Program) (thread : ThreadLine) (entry : Entry) → entry_of program thread ≡ Some entry → Takes (body_of program entry) thread.args
unfolding entry_of
entry_takes program thread entry e =
    let a = then_some (λ (class : ℕ). option_and_then (entry_in thread class) (class_at program class)) (class_named program thread.class) entry e in
    let b = then_some (entry_in thread a.0) (class_at program a.0) entry a.2 in
    let c = map_some (λ (k : ℕ). record { class = a.0; method = k }) (position (is_entry thread) b.0.bodies) entry b.2 in
    let p = position-Some (is_entry thread) b.0.bodies c.0 no_body c.1 in
    let body : Body = slice_index_or b.0.bodies c.0 no_body in
    subst (λ (m : Entry). Takes (body_of program m) thread.args) c.2
    (subst (λ (o : Option Body). Takes o thread.args)
    (sym (body_is program (record { class = a.0; method = c.0 }) b.0 body b.1 (slice_get-get_or b.0.bodies c.0 no_body p.0)))
    (passes_numbers thread body p.1))

module _ (program : Program) (prepared : PreparedProgram) (p : IsProgram program) (is : IsPrepared program prepared) where
  -- what each thread begins with
  pub begins_at : (threads : List ThreadLine) (entries : List Entry) (k : ℕ) (thread : ThreadLine) (entry : Entry) → AreEntries program threads entries
      → AllByRecursion (FitsThread program []) (first_threads program threads entries) → slice_get threads k ≡ Some thread → slice_get entries k ≡ Some entry
      → BeginsWith program prepared entry thread.args
  begins_at [] entries k thread entry are fit thread_at entry_at = absurd (none_some thread_at)
  begins_at (t ∷ threads) [] k thread entry are fit thread_at entry_at = absurd are
  begins_at (t ∷ threads) (e ∷ entries) zero thread entry are fit thread_at entry_at =
      subst (λ (x : ThreadLine). BeginsWith program prepared entry x.args) (same_Some t thread thread_at)
      (subst (λ (x : Entry). BeginsWith program prepared x t.args) (same_Some e entry entry_at)
      (record { program_is = p; prepared_is = is; takes = entry_takes program t e are.0; fits = fit.0 }))
  begins_at (t ∷ threads) (e ∷ entries) (suc k) thread entry are fit thread_at entry_at =
      begins_at threads entries k thread entry are.1 fit.1 thread_at entry_at

pub first_at : (program : Program) (threads : List ThreadLine) (entries : List Entry) (k : ℕ) (thread : ThreadLine) (entry : Entry)
    → slice_get threads k ≡ Some thread → slice_get entries k ≡ Some entry
    → slice_get (first_threads program threads entries) k ≡ Some (first_thread program entry thread.args)
first_at program [] entries k thread entry thread_at entry_at = absurd (none_some thread_at)
first_at program (t ∷ threads) [] k thread entry thread_at entry_at = absurd (none_some entry_at)
first_at program (t ∷ threads) (e ∷ entries) zero thread entry thread_at entry_at =
    ap (λ (x : ThreadLine). Some (first_thread program e x.args)) (same_Some t thread thread_at)
    ∙ ap (λ (x : Entry). Some (first_thread program x thread.args)) (same_Some e entry entry_at)
first_at program (t ∷ threads) (e ∷ entries) (suc k) thread entry thread_at entry_at = first_at program threads entries k thread entry thread_at entry_at

pub as_many_entries : (program : Program) (threads : List ThreadLine) (entries : List Entry) → AreEntries program threads entries
    → length entries ≡ length threads
as_many_entries program [] [] are = refl
as_many_entries program [] (e ∷ entries) are = absurd are
as_many_entries program (t ∷ threads) [] are = absurd are
as_many_entries program (t ∷ threads) (e ∷ entries) are = ap suc (as_many_entries program threads entries are.1)

pub length-first_threads : (program : Program) (threads : List ThreadLine) (entries : List Entry) → length entries ≡ length threads
    → length (first_threads program threads entries) ≡ length threads
length-first_threads program [] entries many = refl
length-first_threads program (t ∷ threads) [] many = absurd (omega arith)
length-first_threads program (t ∷ threads) (e ∷ entries) many = ap suc (length-first_threads program threads entries (omega arith))

module _ (program : Program) (prepared : PreparedProgram) (threads : List ThreadLine) (entries : List Entry) (k : ℕ) (d : ThreadLine) (e : Entry)
    (p : IsProgram program) (is : IsPrepared program prepared) (are : AreEntries program threads entries)
    (less : k < length threads) where
  entry_below : k < length entries
  entry_below = let many = as_many_entries program threads entries are in omega (arith, many)

  -- what thread k begins with
  pub thread_begins : BeginsWith program prepared (slice_index_or entries k e) (slice_index_or threads k d).args
  thread_begins =
      begins_at program prepared p is threads entries k (slice_index_or threads k d) (slice_index_or entries k e) are (threads_fit program threads entries p are)
      (slice_get-get_or threads k d less) (slice_get-get_or entries k e entry_below)

  -- one thread more
  pub first_more : take (k + 1) (first_threads program threads entries)
      ≡ take k (first_threads program threads entries) ++ first_thread program (slice_index_or entries k e) (slice_index_or threads k d).args ∷ []
  first_more =
      let firsts = first_threads program threads entries in
      let x = first_thread program (slice_index_or entries k e) (slice_index_or threads k d).args in
      let at : slice_get firsts k ≡ Some x =
      first_at program threads entries k (slice_index_or threads k d) (slice_index_or entries k e) (slice_get-get_or threads k d less)
      (slice_get-get_or entries k e entry_below) in
      let within : k < length firsts =
      subst (λ n. k < n) (sym (length-first_threads program threads entries (as_many_entries program threads entries are))) less in
      take_more firsts k x within ∙ ap (λ y. take k firsts ++ y ∷ []) (same_Some _ _ (sym (slice_get-get_or firsts k x within) ∙ at))

-- all threads
pub first_all : (program : Program) (threads : List ThreadLine) (entries : List Entry) (k : ℕ) → AreEntries program threads entries → length threads ≤ k
    → take k (first_threads program threads entries) ≡ first_threads program threads entries
first_all program threads entries k are most =
    take_all k (first_threads program threads entries)
    (subst (λ n. n ≤ k) (sym (length-first_threads program threads entries (as_many_entries program threads entries are))) most)
