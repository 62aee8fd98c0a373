-- The method with which a thread begins, step by step.
use Rattle.std.proofs.Common.{◌≡◌, ◌∙◌, ℕ, Option, Some, None, option_and_then, option_map, position, slice_get, get_or, bytes_eq, sym, ap}
use Rattle.std.proofs.lemmas.List.Quantifiers.{position-Some}
use Rattle.std.proofs.lemmas.Option.{slice_get-get_or}
use Rattle.jc_programs.specs.declared.program.Program.{Program}
use Rattle.jc_programs.specs.declared.program.Linked.{Linked}
use Rattle.jc_programs.specs.declared.run_plan.ThreadLine.{ThreadLine}
use Rattle.jc_programs.specs.declared.run_end.Entry.{Entry}
use Rattle.jc_programs.specs.Members.{class_named, class_at}
use Rattle.jc_programs.specs.Entries.{is_entry, entry_in, entry_of}

module _ (program : Program) (thread : ThreadLine) where
  -- the method, by the number of the class
  by_class : Option ℕ → Option Entry
  by_class o = option_and_then (λ (class : ℕ). option_and_then (entry_in thread class) (class_at program class)) o

  pub no_class : None ≡ class_named program thread.class → None ≡ entry_of program thread
  unfolding entry_of by_class
  no_class e = ap by_class e

  module _ (class : ℕ) (linked : Linked) (e : Some class ≡ class_named program thread.class) (is : linked ≡ get_or program.classes class linked) where
    class_is : slice_get program.classes class ≡ Some linked
    class_is =
        let at : position (λ (c : Linked). bytes_eq c.name thread.class) program.classes ≡ Some class = sym e in
        let found = position-Some (λ (c : Linked). bytes_eq c.name thread.class) program.classes class linked at in
        slice_get-get_or program.classes class linked found.0 ∙ ap Some (sym is)

    in_class : (o : Option ℕ) → o ≡ position (is_entry thread) linked.bodies
        → option_map (λ (k : ℕ). let entry : Entry = record { class = class; method = k } in entry) o ≡ entry_of program thread
    unfolding entry_of by_class
    in_class o h =
        ap (λ (x : Option ℕ). option_map (λ (k : ℕ). let entry : Entry = record { class = class; method = k } in entry) x) h
        ∙ ap (λ (x : Option Linked). option_and_then (entry_in thread class) x) (sym class_is)
        ∙ ap by_class e

    pub no_method : None ≡ position (is_entry thread) linked.bodies → None ≡ entry_of program thread
    no_method h = in_class None h

    pub some_method : (method : ℕ) → Some method ≡ position (is_entry thread) linked.bodies
        → (let entry : Entry = record { class = class; method = method } in Some entry ≡ entry_of program thread)
    some_method method h = in_class (Some method) h
