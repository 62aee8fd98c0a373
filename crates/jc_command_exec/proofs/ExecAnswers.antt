-- The answer of each command on execution data is one.
use Rattle.std.proofs.Common.{◌≡◌, ◌⊎◌, inl, inr, ⊎_elim, ℕ, List, [], ◌∷◌, map, refl, sym, ◌∙◌, ap}
use Rattle.jc_exec.specs.declared.refusal.ExecRefusal.{ExecRefusal}
use Rattle.jc_exec.specs.Store.{Store}
use Rattle.jc_exec.specs.Writing.{exec_text}
use Rattle.jc_command_work.specs.declared.status.Fault.TheVariants as fault
use Rattle.jc_command_work.specs.Step.{Word, AreTexts, to_file, to_out}
use Rattle.jc_command_work.specs.Part.{End, gives, stops}
use Rattle.jc_command_work.specs.OneWay.{IsOver}
use Rattle.jc_command_work.specs.Answered.{Answer, refusing, OneAnswer, HasOneAnswer}
use Rattle.jc_command_work.specs.Causes.{IsRefusal}
use Rattle.jc_command_work.proofs.AnsweredLaws.{as_many_texts}
use Rattle.jc_command_work.proofs.CauseLaws.{is_refusal}
use Rattle.jc_command_work.proofs.OneWork.{gives_or_stops}
use Rattle.jc_command_exec.specs.ExecData.{IsUnionOf, IsFirstRefused, IsFirstRefusedAlone}
use Rattle.jc_command_exec.specs.ExecInfo.{AreInfo, InfoAnswers, informed, exec_info_refused}
use Rattle.jc_command_exec.specs.Merge.{MergeAnswers, merged, merge_refused}
use Rattle.jc_command_exec.proofs.ExecDataLaws.{one_union_of, union_or_refused, one_refused, some_union_or_refused, data_or_refused, one_refused_alone, some_data_or_refused}
use Rattle.jc_command_exec.proofs.InfoLaws.{one_info, info_is_data, data_has_info}

-- ---- merge

module _ (out : Word) (inputs : List Word) (texts : List (List ℕ)) where
  abbrev written : Store → Answer
  written store = gives (to_file out (exec_text store) ∷ [])

  abbrev MergeAnswer : Answer → Type 0
  MergeAnswer answer =
      ((store : Store) × IsUnionOf texts store × (answer ≡ written store))
      ⊎ ((index : ℕ) × (path : Word) × (refusal : ExecRefusal) × IsFirstRefused inputs texts index path refusal × (answer ≡ refusing path (fault.Exec index refusal)))

  merge_answer : (answer : Answer) → MergeAnswers out inputs texts answer → MergeAnswer answer
  merge_answer answer (merged store union) = inl (store, union, refl)
  merge_answer answer (merge_refused index path refusal is) = inr (index, path, refusal, is, refl)

  one_merge : (a b : Answer) → MergeAnswer a → MergeAnswer b → a ≡ b
  one_merge a b (inl p) (inl q) = p.2 ∙ ap written (one_union_of texts p.0 q.0 p.1 q.1) ∙ sym q.2
  one_merge a b (inl p) (inr q) = absurd (union_or_refused inputs texts p.0 q.0 q.1 q.2 p.1 q.3)
  one_merge a b (inr p) (inl q) = absurd (union_or_refused inputs texts q.0 p.0 p.1 p.2 q.1 p.3)
  one_merge a b (inr p) (inr q) =
      let same = one_refused inputs texts p.0 q.0 p.1 q.1 p.2 q.2 p.3 q.3 in
      p.4 ∙ (λ i. refusing (same.path_is i) (fault.Exec (same.index_is i) (same.refusal_is i))) ∙ sym q.4

  some_merge : OneAnswer (MergeAnswers out inputs texts)
  some_merge = ⊎_elim
      (λ union. of (written union.0) tt (merged union.0 union.1))
      (λ refused. of (refusing refused.1 (fault.Exec refused.0 refused.2)) tt (merge_refused refused.0 refused.1 refused.2 refused.3))
      (some_union_or_refused inputs texts)
    where
      of : (a : Answer) → IsOver a → MergeAnswers out inputs texts a → OneAnswer (MergeAnswers out inputs texts)
      of a over is = record { answer = a; over = over; holds = is; only = λ b other. one_merge b a (merge_answer b other) (merge_answer a is) }

pub merge_refuses : (out : Word) (inputs : List Word) (texts : List (List ℕ)) (end : End) → MergeAnswers out inputs texts (stops end) → IsRefusal end
merge_refuses out inputs texts end is =
    ⊎_elim (λ p. absurd (gives_or_stops _ end (sym p.2))) (λ p. is_refusal p.1 (fault.Exec p.0 p.2) end p.4) (merge_answer out inputs texts (stops end) is)

pub merge_has_one : (out : Word) (inputs : List Word) → HasOneAnswer inputs (MergeAnswers out inputs)
merge_has_one out inputs texts are = some_merge out inputs texts

-- ---- execinfo

module _ (paths : List Word) (texts : List (List ℕ)) where
  abbrev printed : List (List ℕ) → Answer
  printed lines = gives (map to_out lines)

  abbrev InfoAnswer : Answer → Type 0
  InfoAnswer answer =
      ((lines : List (List ℕ)) × AreInfo paths texts lines × (answer ≡ printed lines))
      ⊎ ((index : ℕ) × (path : Word) × (refusal : ExecRefusal) × IsFirstRefusedAlone paths texts index path refusal × (answer ≡ refusing path (fault.Exec index refusal)))

  info_answer : (answer : Answer) → InfoAnswers paths texts answer → InfoAnswer answer
  info_answer answer (informed lines info) = inl (lines, info, refl)
  info_answer answer (exec_info_refused index path refusal is) = inr (index, path, refusal, is, refl)

  one_info_answer : (a b : Answer) → InfoAnswer a → InfoAnswer b → a ≡ b
  one_info_answer a b (inl p) (inl q) = p.2 ∙ ap printed (one_info paths texts p.0 q.0 p.1 q.1) ∙ sym q.2
  one_info_answer a b (inl p) (inr q) = absurd (data_or_refused paths texts q.0 q.1 q.2 (info_is_data paths texts p.0 p.1) q.3)
  one_info_answer a b (inr p) (inl q) = absurd (data_or_refused paths texts p.0 p.1 p.2 (info_is_data paths texts q.0 q.1) p.3)
  one_info_answer a b (inr p) (inr q) =
      let same = one_refused_alone paths texts p.0 q.0 p.1 q.1 p.2 q.2 p.3 q.3 in
      p.4 ∙ (λ i. refusing (same.path_is i) (fault.Exec (same.index_is i) (same.refusal_is i))) ∙ sym q.4

  some_info : AreTexts paths texts → OneAnswer (InfoAnswers paths texts)
  some_info are = ⊎_elim
      (λ holds. let info = data_has_info paths texts (as_many_texts paths texts are) holds in of (printed info.0) tt (informed info.0 info.1))
      (λ refused. of (refusing refused.1 (fault.Exec refused.0 refused.2)) tt (exec_info_refused refused.0 refused.1 refused.2 refused.3))
      (some_data_or_refused paths texts)
    where
      of : (a : Answer) → IsOver a → InfoAnswers paths texts a → OneAnswer (InfoAnswers paths texts)
      of a over is = record { answer = a; over = over; holds = is; only = λ b other. one_info_answer b a (info_answer b other) (info_answer a is) }

pub info_refuses : (paths : List Word) (texts : List (List ℕ)) (end : End) → InfoAnswers paths texts (stops end) → IsRefusal end
info_refuses paths texts end is =
    ⊎_elim (λ p. absurd (gives_or_stops _ end (sym p.2))) (λ p. is_refusal p.1 (fault.Exec p.0 p.2) end p.4) (info_answer paths texts (stops end) is)

pub info_has_one : (paths : List Word) → HasOneAnswer paths (InfoAnswers paths)
info_has_one paths texts are = some_info paths texts are
