-- Threads one after the other, up to the first without a method to begin with.
use Rattle.std.proofs.Common.{◌≡◌, ℕ, ◌+◌, ◌<◌, ◌≤◌, Bool, true, false, not, is_some, List, [], ◌∷◌, ◌++◌, length, drop, get_or, Option, None, Some, option_map, refl, sym, ◌∙◌, ap, cond, drop-cons, add-one}
use Rattle.std.specs.List.{flat_map}
use Rattle.std.proofs.lemmas.List.{drop_all}
use Rattle.std.proofs.lemmas.List.Concat.{flat_map-cons}
use Rattle.jc_programs.specs.declared.program.Program.{Program}
use Rattle.jc_programs.specs.declared.run_end.Entry.{Entry}
use Rattle.jc_programs.specs.declared.run_plan.Case.{Case}
use Rattle.jc_programs.specs.declared.run_plan.ThreadLine.{ThreadLine}
use Rattle.jc_programs.specs.Entries.{entry_of, AreEntries}
use Rattle.jc_command_run.specs.RunStore.{lacks_entry, first_without}
use Rattle.jc_command_run.specs.Beginnings.{line_of}

abbrev pub threads_in : List Case → List ThreadLine
threads_in cases = flat_map (λ (c : Case). c.threads) cases

module _ (program : Program) where
  -- the first that lacks an entry is among those that are left
  abbrev pub Left : List ThreadLine → List ThreadLine → Type 0
  Left threads left = first_without program threads ≡ first_without program left

  -- ---- threads

  module _ (threads : List ThreadLine) (i : ℕ) (t : ThreadLine) (within : i < length threads) (is : t ≡ get_or threads i t) where
    here : drop i threads ≡ t ∷ drop (i + 1) threads
    here = drop-cons threads i t within ∙ ap (λ (n : ℕ). get_or threads i t ∷ drop n threads) (sym (add-one i)) ∙ ap (λ (u : ThreadLine). u ∷ drop (i + 1) threads) (sym is)

    pub thread_passed : (e : Option Entry) → e ≡ entry_of program t → is_some e ≡ true → Left threads (drop i threads) → Left threads (drop (i + 1) threads)
    thread_passed e same some left =
        left ∙ ap (first_without program) here
        ∙ ap (λ (b : Bool). cond (not b) (Some t) (first_without program (drop (i + 1) threads))) (ap is_some (sym same) ∙ some)

    pub thread_lacking : (e : Option Entry) → e ≡ entry_of program t → is_some e ≡ false → Left threads (drop i threads) → Some t.line ≡ option_map line_of (first_without program threads)
    thread_lacking e same none left =
        sym (ap (option_map line_of) (left ∙ ap (first_without program) here
        ∙ ap (λ (b : Bool). cond (not b) (Some t) (first_without program (drop (i + 1) threads))) (ap is_some (sym same) ∙ none)))

  pub none_left : (threads : List ThreadLine) (i : ℕ) → length threads ≤ i → Left threads (drop i threads) → None ≡ option_map line_of (first_without program threads)
  none_left threads i all left = sym (ap (option_map line_of) (left ∙ ap (first_without program) (drop_all i threads all)))

  -- ---- cases

  found_in_front : (xs ys : List ThreadLine) (t : ThreadLine) → first_without program xs ≡ Some t → first_without program (xs ++ ys) ≡ Some t
  found_in_front [] ys t is = absurd (nothing is)
    where
      nothing : None ≡ Some t → ⊥
      nothing e = cc
  found_in_front (x ∷ xs) ys t is = by (lacks_entry program x) (found_in_front xs ys t) is
    where
      by : (b : Bool) → (first_without program xs ≡ Some t → first_without program (xs ++ ys) ≡ Some t)
          → cond b (Some x) (first_without program xs) ≡ Some t → cond b (Some x) (first_without program (xs ++ ys)) ≡ Some t
      by true rest e = e
      by false rest e = rest e

  pub none_in_front : (xs ys : List ThreadLine) → first_without program xs ≡ None → first_without program (xs ++ ys) ≡ first_without program ys
  none_in_front [] ys is = refl
  none_in_front (x ∷ xs) ys is = by (lacks_entry program x) (none_in_front xs ys) is
    where
      nothing : Some x ≡ None → ⊥
      nothing e = cc

      by : (b : Bool) → (first_without program xs ≡ None → first_without program (xs ++ ys) ≡ first_without program ys)
          → cond b (Some x) (first_without program xs) ≡ None → cond b (Some x) (first_without program (xs ++ ys)) ≡ first_without program ys
      by true rest e = absurd (nothing e)
      by false rest e = rest e

  module _ (cases : List Case) (i : ℕ) (c : Case) (within : i < length cases) (is : c ≡ get_or cases i c) where
    behind : threads_in (drop i cases) ≡ c.threads ++ threads_in (drop (i + 1) cases)
    behind =
        ap threads_in (drop-cons cases i c within ∙ ap (λ (n : ℕ). get_or cases i c ∷ drop n cases) (sym (add-one i)) ∙ ap (λ (d : Case). d ∷ drop (i + 1) cases) (sym is))
        ∙ flat_map-cons (λ (x : Case). x.threads) c (drop (i + 1) cases)

    pub case_passed : None ≡ option_map line_of (first_without program c.threads) → Left (threads_in cases) (threads_in (drop i cases)) → Left (threads_in cases) (threads_in (drop (i + 1) cases))
    case_passed none left =
        left ∙ ap (first_without program) behind ∙ none_in_front c.threads (threads_in (drop (i + 1) cases)) (by (first_without program c.threads) none)
      where
        by : (o : Option ThreadLine) → None ≡ option_map line_of o → o ≡ None
        by None e = refl
        by (Some t) e = cc

    pub case_lacking : (line : ℕ) → Some line ≡ option_map line_of (first_without program c.threads) → Left (threads_in cases) (threads_in (drop i cases))
        → Some line ≡ option_map line_of (first_without program (threads_in cases))
    case_lacking line some left = by (first_without program c.threads) refl some
      where
        by : (o : Option ThreadLine) → first_without program c.threads ≡ o → Some line ≡ option_map line_of o → Some line ≡ option_map line_of (first_without program (threads_in cases))
        by None same e = cc
        by (Some t) same e = e ∙ sym (ap (option_map line_of) (left ∙ ap (first_without program) behind ∙ found_in_front c.threads (threads_in (drop (i + 1) cases)) t same))

  pub no_case_left : (cases : List Case) (i : ℕ) → length cases ≤ i → Left (threads_in cases) (threads_in (drop i cases)) → None ≡ option_map line_of (first_without program (threads_in cases))
  no_case_left cases i all left = sym (ap (option_map line_of) (left ∙ ap (λ (cs : List Case). first_without program (threads_in cs)) (drop_all i cases all)))

  -- ---- where no thread lacks one

  tail_none : (x : ThreadLine) (xs : List ThreadLine) → first_without program (x ∷ xs) ≡ None → (e : Entry) × (entry_of program x ≡ Some e) × (first_without program xs ≡ None)
  tail_none x xs is = by (entry_of program x) refl is
    where
      nothing : Some x ≡ None → ⊥
      nothing e = cc

      by : (o : Option Entry) → entry_of program x ≡ o → cond (not (is_some o)) (Some x) (first_without program xs) ≡ None → (e : Entry)
          × (entry_of program x ≡ Some e) × (first_without program xs ≡ None)
      by None same e = absurd (nothing e)
      by (Some entry) same e = (entry, same, e)

  pub all_entries : (threads : List ThreadLine) → first_without program threads ≡ None → (entries : List Entry) × AreEntries program threads entries
  all_entries [] is = ([], tt)
  all_entries (t ∷ threads) is =
      let (e, found, rest) = tail_none t threads is in
      let (es, are) = all_entries threads rest in
      (e ∷ es, (found, are))

  pub front_none : (xs ys : List ThreadLine) → first_without program (xs ++ ys) ≡ None → first_without program xs ≡ None
  front_none [] ys is = refl
  front_none (x ∷ xs) ys is = by (lacks_entry program x) (front_none xs ys) is
    where
      nothing : Some x ≡ None → ⊥
      nothing e = cc

      by : (b : Bool) → (first_without program (xs ++ ys) ≡ None → first_without program xs ≡ None)
          → cond b (Some x) (first_without program (xs ++ ys)) ≡ None → cond b (Some x) (first_without program xs) ≡ None
      by true rest e = absurd (nothing e)
      by false rest e = rest e
