-- The methods with which the threads of a run plan begin, in a program and in its twin.
use Rattle.std.proofs.Common.{◌≡◌, ◌⊎◌, inl, inr, Bool, true, false, not, is_some, cond, List, [], ◌∷◌, ◌++◌, Option, None, Some, Contains, refl, sym, ◌∙◌, subst}
use Rattle.std.specs.List.{find, flat_map}
use Rattle.std.proofs.lemmas.List.Concat.{flat_map-cons}
use Rattle.jc_bytes.proofs.BooleanLaws.{which_in, none_in}
use Rattle.jc_programs.specs.declared.program.Program.{Program}
use Rattle.jc_programs.specs.declared.run_plan.Case.{Case}
use Rattle.jc_programs.specs.declared.run_plan.ThreadLine.{ThreadLine}
use Rattle.jc_programs.specs.declared.run_end.Entry.{Entry}
use Rattle.jc_programs.specs.Entries.{entry_of, AreEntries}
use Rattle.jc_command_run.specs.RunStore.{lacks_entry}

none_or : {X : Type 0} (x : X) → Some x ≡ None → ⊥
none_or x e = cc

module _ (p : Program) where
  abbrev NoneLacks : List ThreadLine → Type 0
  NoneLacks threads = find (lacks_entry p) threads ≡ None

  none_front : (xs ys : List ThreadLine) → NoneLacks (xs ++ ys) → NoneLacks xs
  none_front [] ys e = refl
  none_front (x ∷ xs) ys e = by (lacks_entry p x) e (none_front xs ys)
    where
      by : (t : Bool) → cond t (Some x) (find (lacks_entry p) (xs ++ ys)) ≡ None → (NoneLacks (xs ++ ys) → NoneLacks xs) → cond t (Some x) (find (lacks_entry p) xs) ≡ None
      by true is later = is
      by false is later = later is

  none_behind : (xs ys : List ThreadLine) → NoneLacks (xs ++ ys) → NoneLacks ys
  none_behind [] ys e = e
  none_behind (x ∷ xs) ys e = by (lacks_entry p x) e (none_behind xs ys)
    where
      by : (t : Bool) → cond t (Some x) (find (lacks_entry p) (xs ++ ys)) ≡ None → (NoneLacks (xs ++ ys) → NoneLacks ys) → NoneLacks ys
      by true is later = absurd (none_or x is)
      by false is later = later is

  entries_there : (threads : List ThreadLine) → NoneLacks threads → (es : List Entry) × AreEntries p threads es
  entries_there [] e = ([], tt)
  entries_there (t ∷ ts) e = by (entry_of p t) refl e (entries_there ts)
    where
      by : (o : Option Entry) → entry_of p t ≡ o → cond (not (is_some o)) (Some t) (find (lacks_entry p) ts) ≡ None
          → (NoneLacks ts → (es : List Entry) × AreEntries p ts es) → (es : List Entry) × AreEntries p (t ∷ ts) es
      by None is none later = absurd (none_or t none)
      by (Some entry) is none later = let more = later none in (entry ∷ more.0, (is, more.1))

  pub case_entries : (cases : List Case) → NoneLacks (flat_map (λ (c : Case). c.threads) cases) → (case : Case) → Contains cases case → (es : List Entry) × AreEntries p case.threads es
  case_entries [] e case there = absurd (none_in case there)
  case_entries (c ∷ cases) e case there = by (which_in c cases case there) (λ none. case_entries cases none case)
    where
      whole : NoneLacks (c.threads ++ flat_map (λ (k : Case). k.threads) cases)
      whole = subst NoneLacks (flat_map-cons (λ (k : Case). k.threads) c cases) e

      by : (c ≡ case) ⊎ Contains cases case → (NoneLacks (flat_map (λ (k : Case). k.threads) cases) → Contains cases case → (es : List Entry) × AreEntries p case.threads es)
          → (es : List Entry) × AreEntries p case.threads es
      by (inl same) later = subst (λ (k : Case). (es : List Entry) × AreEntries p k.threads es) same (entries_there c.threads (none_front c.threads (flat_map (λ (k : Case). k.threads) cases) whole))
      by (inr behind) later = later (none_behind c.threads (flat_map (λ (k : Case). k.threads) cases) whole) behind

-- entries of the one program are those of another in which each thread has the same
pub entries_alike : (p q : Program) → ((thread : ThreadLine) → entry_of q thread ≡ entry_of p thread) → (threads : List ThreadLine) (es : List Entry)
    → AreEntries q threads es → AreEntries p threads es
entries_alike p q same [] [] are = tt
entries_alike p q same [] (e ∷ es) are = absurd are
entries_alike p q same (t ∷ ts) [] are = absurd are
entries_alike p q same (t ∷ ts) (e ∷ es) are = (sym (same t) ∙ are.0, entries_alike p q same ts es are.1)
