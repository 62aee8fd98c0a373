-- The writes of dumps, one after the other.
use Rattle.std.proofs.Common.{◌≡◌, ℕ, zero, suc, ◌+◌, ◌<◌, ◌≤◌, Bool, List, [], ◌∷◌, ◌++◌, length, take, get_or, None, refl, sym, ◌∙◌, ap, ap₂, arith}
use Rattle.jc_exec.specs.Writing.{exec_text}
use Rattle.jc_programs.specs.declared.program.Program.{Program}
use Rattle.jc_programs.specs.declared.run_plan.RunPlan.{RunPlan}
use Rattle.jc_machine_model.specs.CaseText.{case_texts}
use Rattle.jc_command_work.specs.Step.{Word, Write, to_file, to_out}
use Rattle.jc_command_work.specs.Part.{gives}
use Rattle.jc_command_work.specs.Answered.{Answer}
use Rattle.jc_command_run.specs.RunStore.{threads_of, first_without}
use Rattle.jc_command_dumped.specs.DumpedAnswers.{dump_files, set_store, Dumping, Taken, IsAnswerBy}

module _ (program : Program) where
  pub no_files : (paths : List Word) → dump_files program paths [] ≡ []
  no_files [] = refl
  no_files (path ∷ paths) = refl

  -- one more dump
  pub files_more : (paths : List Word) (dumps : List (List (List Bool))) (i : ℕ) (path : Word) (dump : List (List Bool))
      → i < length dumps → length dumps ≤ length paths → path ≡ get_or paths i path → dump ≡ get_or dumps i dump
      → dump_files program paths (take (i + 1) dumps) ≡ dump_files program paths (take i dumps) ++ to_file path (exec_text (set_store program dump)) ∷ []
  files_more paths [] i path dump within enough is_path is = absurd (omega (arith, within))
  files_more [] (d ∷ dumps) i path dump within enough is_path is = absurd (omega (arith, enough))
  files_more (q ∷ paths) (d ∷ dumps) zero path dump within enough is_path is =
      ap (λ (ws : List Write). to_file q (exec_text (set_store program d)) ∷ ws) (no_files paths)
      ∙ ap₂ (λ (w : Word) (hits : List (List Bool)). to_file w (exec_text (set_store program hits)) ∷ []) (sym is_path) (sym is)
  files_more (q ∷ paths) (d ∷ dumps) (suc i) path dump within enough is_path is =
      let one : suc i + 1 ≡ suc (i + 1) = omega arith in
      ap (λ (k : ℕ). dump_files program (q ∷ paths) (take k (d ∷ dumps))) one
      ∙ ap (λ (ws : List Write). to_file q (exec_text (set_store program d)) ∷ ws)
      (files_more paths dumps i path dump (omega (arith, within)) (omega (arith, enough)) is_path is)

-- the writes of dumps, of the rest and of the texts of the cases are the answer by them
pub written : (d : Dumping) (taken : Taken) (p : RunPlan) (program : Program) (writes : List Write) (text : List ℕ)
    → first_without program (threads_of p) ≡ None → text ≡ case_texts program 1 p.cases
    → writes ≡ dump_files program d.dumps taken.dumps ++ to_file d.exec (exec_text (set_store program taken.rest)) ∷ to_out text ∷ []
    → IsAnswerBy d taken p program (gives writes)
written d taken p program writes text none prints are =
    rw none (ap (λ (ws : List Write). let a : Answer = gives ws in a)
    (are ∙ ap (λ (t : List ℕ). dump_files program d.dumps taken.dumps ++ to_file d.exec (exec_text (set_store program taken.rest)) ∷ to_out t ∷ []) prints))
