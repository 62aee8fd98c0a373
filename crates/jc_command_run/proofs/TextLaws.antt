-- The texts of cases, one after the other.
use Rattle.std.proofs.Common.{◌≡◌, ℕ, ◌+◌, ◌<◌, List, [], ◌∷◌, ◌++◌, map, length, take, get_or, refl, sym, ◌∙◌, ap, arith, append_assoc, append-nil}
use Rattle.std.proofs.lemmas.List.{take_more, length-take-le}
use Rattle.jc_programs.specs.declared.program.Program.{Program}
use Rattle.jc_programs.specs.declared.run_end.CaseEnd.{CaseEnd}
use Rattle.jc_programs.specs.declared.run_plan.Case.{Case}
use Rattle.jc_programs.specs.Turns.{turns_in}
use Rattle.jc_machine_model.specs.CaseEnds.{case_end}
use Rattle.jc_machine_model.specs.CaseText.{case_text, case_texts}
use Rattle.jc_workers.specs.Cases.{end_under}
use Rattle.jc_command_run.specs.Texts.{end_texts}

module _ (program : Program) where
  -- the texts of cases are those of what each leaves
  pub same_texts : (k : ℕ) (cases : List Case) → end_texts program k (map (end_under program) cases) ≡ case_texts program k cases
  same_texts k [] = refl
  same_texts k (case ∷ cases) = ap (λ (text : List ℕ). case_text program k (case_end program case (turns_in case)) ++ text) (same_texts (k + 1) cases)

  -- one more case
  texts_more : (k : ℕ) (ends : List CaseEnd) (end : CaseEnd) → end_texts program k (ends ++ end ∷ []) ≡ end_texts program k ends ++ case_text program (k + length ends) end
  texts_more k [] end = append-nil (case_text program k end) ∙ ap (λ (n : ℕ). case_text program n end) (let n : k ≡ k + length {A = CaseEnd} [] = omega arith in n)
  texts_more k (e ∷ ends) end =
      ap (λ (text : List ℕ). case_text program k e ++ text)
      (texts_more (k + 1) ends end ∙ ap (λ (n : ℕ). end_texts program (k + 1) ends ++ case_text program n end) (let n : k + 1 + length ends ≡ k + length (e ∷ ends) = omega arith in n))
      ∙ sym (append_assoc (case_text program k e) (end_texts program (k + 1) ends) (case_text program (k + length (e ∷ ends)) end))

  pub text_put : (ends : List CaseEnd) (now new piece : List ℕ) (i : ℕ) (end : CaseEnd) → i < length ends → end ≡ get_or ends i end
      → now ≡ end_texts program 1 (take i ends) → piece ≡ case_text program (i + 1) end → new ≡ now ++ piece → new ≡ end_texts program 1 (take (i + 1) ends)
  text_put ends now new piece i end within is so_far made grows =
      let counted : 1 + length (take i ends) ≡ i + 1 = (let l = length-take-le i ends (omega (arith, within)) in omega (arith, l)) in
      let more : end_texts program 1 (take (i + 1) ends) ≡ end_texts program 1 (take i ends) ++ case_text program (i + 1) end =
      ap (end_texts program 1) (take_more ends i end within ∙ ap (λ (e : CaseEnd). take i ends ++ e ∷ []) (sym is)) ∙ texts_more 1 (take i ends) end
      ∙ ap (λ (n : ℕ). end_texts program 1 (take i ends) ++ case_text program n end) counted in
      grows ∙ ap (λ (l : List ℕ). now ++ l) made ∙ ap (λ (l : List ℕ). l ++ case_text program (i + 1) end) so_far ∙ sym more
