-- The answer of each command on class files is one.
use Rattle.std.proofs.Common.{◌≡◌, ◌⊎◌, inl, inr, ⊎_elim, ℕ, List, ◌++◌, length, map, Option, refl, sym, ◌∙◌, ap}
use Rattle.std.specs.Option.{option_to_list}
use Rattle.jc_bytes.specs.declared.refusal.Refusal.{Refusal}
use Rattle.jc_command_work.specs.declared.status.Fault.TheVariants as fault
use Rattle.jc_command_work.specs.Step.{Word, AreTexts, Write, to_out}
use Rattle.jc_command_work.specs.Part.{End, gives, stops}
use Rattle.jc_command_work.specs.OneWay.{IsOver}
use Rattle.jc_command_work.specs.Answered.{Answer, refusing, OneAnswer, HasOneAnswer}
use Rattle.jc_command_work.specs.Causes.{IsRefusal}
use Rattle.jc_command_work.proofs.AnsweredLaws.{as_many_texts, all_files}
use Rattle.jc_command_work.proofs.CauseLaws.{is_refusal}
use Rattle.jc_command_work.proofs.OneWork.{gives_or_stops}
use Rattle.jc_command_classes.specs.ClassInfo.{AreListed, RefusedAt, ListAnswers, listed, class_refused}
use Rattle.jc_command_classes.specs.Instrument.{AreFileWrites, InstrumentAnswers, instrumented}
use Rattle.jc_command_classes.specs.Report.{IsReport, ReportAnswers}
use Rattle.jc_command_classes.proofs.InstrumentLaws.{one_writes, some_writes}
use Rattle.jc_command_classes.proofs.ListingLaws.{one_list, listed_or_refused, one_refusal, some_list}
use Rattle.jc_command_classes.proofs.ReportAnswerLaws.{data_has_one, data_refuses, one_report}

-- ---- classinfo

module _ (paths : List Word) (texts : List (List ℕ)) where
  abbrev printed : List (List ℕ) → Answer
  printed lines = gives (map to_out lines)

  abbrev ListAnswer : Answer → Type 0
  ListAnswer answer =
      ((lines : List (List ℕ)) × AreListed texts lines × (answer ≡ printed lines))
      ⊎ ((index : ℕ) × (path : Word) × (why : Refusal) × RefusedAt 0 paths texts index path why × (answer ≡ refusing path (fault.Class index why)))

  list_answer : (answer : Answer) → ListAnswers paths texts answer → ListAnswer answer
  list_answer answer (listed lines are) = inl (lines, are, refl)
  list_answer answer (class_refused index path why is) = inr (index, path, why, is, refl)

  one_listing_answer : (a b : Answer) → ListAnswer a → ListAnswer b → a ≡ b
  one_listing_answer a b (inl p) (inl q) = p.2 ∙ ap printed (one_list texts p.0 q.0 p.1 q.1) ∙ sym q.2
  one_listing_answer a b (inl p) (inr q) = absurd (listed_or_refused 0 paths texts p.0 q.0 q.1 q.2 p.1 q.3)
  one_listing_answer a b (inr p) (inl q) = absurd (listed_or_refused 0 paths texts q.0 p.0 p.1 p.2 q.1 p.3)
  one_listing_answer a b (inr p) (inr q) =
      let same = one_refusal 0 paths texts p.0 q.0 p.1 q.1 p.2 q.2 p.3 q.3 in
      p.4 ∙ (λ i. refusing (same.path_is i) (fault.Class (same.index_is i) (same.why_is i))) ∙ sym q.4

  some_listing_answer : AreTexts paths texts → OneAnswer (ListAnswers paths texts)
  some_listing_answer are = ⊎_elim
      (λ lines. of (printed lines.0) tt (listed lines.0 lines.1))
      (λ refused. of (refusing refused.1 (fault.Class refused.0 refused.2)) tt (class_refused refused.0 refused.1 refused.2 refused.3))
      (some_list 0 paths texts (as_many_texts paths texts are) (all_files paths texts are))
    where
      of : (a : Answer) → IsOver a → ListAnswers paths texts a → OneAnswer (ListAnswers paths texts)
      of a over is = record { answer = a; over = over; holds = is; only = λ b other. one_listing_answer b a (list_answer b other) (list_answer a is) }

pub list_has_one : (paths : List Word) → HasOneAnswer paths (ListAnswers paths)
list_has_one paths texts are = some_listing_answer paths texts are

pub list_refuses : (paths : List Word) (texts : List (List ℕ)) (end : End) → ListAnswers paths texts (stops end) → IsRefusal end
list_refuses paths texts end is =
    ⊎_elim (λ p. absurd (gives_or_stops _ end (sym p.2))) (λ p. is_refusal p.1 (fault.Class p.0 p.2) end p.4) (list_answer paths texts (stops end) is)

-- ---- report

pub report_has_one : (out name : Word) (exec : Option Word) (paths : List Word) → HasOneAnswer (option_to_list exec ++ paths) (ReportAnswers out name exec paths)
report_has_one out name exec paths texts are = data_has_one (IsReport out name paths) (one_report out name paths) exec paths texts are

pub report_refuses : (out name : Word) (exec : Option Word) (paths : List Word) (texts : List (List ℕ)) (end : End) → ReportAnswers out name exec paths texts (stops end) → IsRefusal end
report_refuses out name exec paths texts end is = data_refuses (IsReport out name paths) exec texts end is

-- ---- instrument

module _ (targets paths : List Word) (texts : List (List ℕ)) where
  abbrev InstrumentAnswer : Answer → Type 0
  InstrumentAnswer answer = (writes : List Write) × AreFileWrites targets paths texts writes × (answer ≡ gives writes)

  instrument_answer : (answer : Answer) → InstrumentAnswers targets paths texts answer → InstrumentAnswer answer
  instrument_answer answer (instrumented writes are) = (writes, are, refl)

  one_instrument : (a b : Answer) → InstrumentAnswer a → InstrumentAnswer b → a ≡ b
  one_instrument a b p q = p.2 ∙ ap (λ (ws : List Write). let x : Answer = gives ws in x) (one_writes targets paths texts p.0 q.0 p.1 q.1) ∙ sym q.2

  some_instrument : length targets ≡ length paths → AreTexts paths texts → OneAnswer (InstrumentAnswers targets paths texts)
  some_instrument same are =
      let made = some_writes targets paths texts same (as_many_texts paths texts are) (all_files paths texts are) in
      record {
        answer = gives made.0;
        over = tt;
        holds = instrumented made.0 made.1;
        only = λ b other. one_instrument b (gives made.0) (instrument_answer b other) (instrument_answer (gives made.0) (instrumented made.0 made.1));
      }

  own_instrument : (end : End) → InstrumentAnswer (stops end) → IsRefusal end
  own_instrument end p = absurd (gives_or_stops p.0 end (sym p.2))

pub instrument_has_one : (targets paths : List Word) → length targets ≡ length paths → HasOneAnswer paths (InstrumentAnswers targets paths)
instrument_has_one targets paths same texts are = some_instrument targets paths texts same are

pub instrument_refuses : (targets paths : List Word) (texts : List (List ℕ)) (end : End) → InstrumentAnswers targets paths texts (stops end) → IsRefusal end
instrument_refuses targets paths texts end is = own_instrument targets paths texts end (instrument_answer targets paths texts (stops end) is)
