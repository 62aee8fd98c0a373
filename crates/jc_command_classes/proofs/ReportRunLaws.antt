-- What was read of execution data, and what a command makes of it and of class files.
use Rattle.std.proofs.Common.{◌≡◌, ℕ, List, [], ◌∷◌, ◌++◌, length, take, map, Option, None, Some, Result, Ok, Err, Vec, Bor, option_map, refl, sym, ◌∙◌, ap, subst, arith}
use Rattle.std.specs.Option.{option_to_list}
use Rattle.std.proofs.lemmas.List.{map-append}
use Rattle.std.specs.declared.alloc.Global.{Global}
use Rattle.jc_exec.specs.Store.{Store}
use Rattle.jc_exec.specs.declared.hits.ClassHits.{ClassHits}
use Rattle.jc_report.specs.declared.row.Counted.{Counted}
use Rattle.jc_command_classes.specs.Report.{ReportedFile, AreItems, data_texts, class_texts, changed_of, first_of_each_id, report_text, IsReport, DataAnswers, made, data_refused, data_clashes}
use Rattle.jc_command_classes.specs.declared.exec_data.Data.{Data}
use Rattle.jc_command_classes.specs.declared.exec_data.ExecInput.{ExecInput}
use Rattle.jc_command_classes.specs.declared.kept.Kept.{Kept}
use Rattle.jc_command_work.specs.declared.output.Write.{Write as Written}
use Rattle.jc_command_work.specs.declared.output.Write.TheVariants as written
use Rattle.jc_command_work.specs.Part.{End, Outcome, stops as ending_so}
use Rattle.jc_command_work.specs.declared.status.Fault.{Fault}
use Rattle.jc_command_work.specs.declared.stop.Stop.{Stop}
use Rattle.jc_command_work.specs.declared.stop.Stop.TheVariants as stops
use Rattle.jc_command_work.specs.Step.{Word, to_file}
use Rattle.jc_command_work.specs.Seen.{write_seen}
use Rattle.jc_command_work.specs.Answered.{refusal_of, EndsSo, AnswersAs, writes_seen}
use Rattle.jc_command_classes.specs.ReportSteps.{data_records, exec_path, IsReadOf, data_path, held_records, held_path, TakesData, StopsAtClash, counted_classes, FrontClashes, LooksAtAll, MakesWith}
use Rattle.jc_command_exec.specs.declared.gathered.Gathered.{Gathered}
use Rattle.jc_command_exec.specs.declared.gathered.Gathered.TheVariants as gathers
use Rattle.jc_command_exec.specs.ExecData.{IsUnionOf, IsFirstRefused, no_data}
use Rattle.jc_command_exec.specs.Gathering.{IsGathered}
use Rattle.jc_command_classes.proofs.CountedLaws.{are_counted}
use Rattle.jc_command_exec.proofs.ExecDataLaws.{union_of_none}

-- ---- the execution data

-- nothing was named, and nothing was read
pub takes_none : (read : List (List ℕ)) → read ≡ [] → TakesData None read (Ok None)
takes_none read none = subst (λ (ts : List (List ℕ)). TakesData None ts (Ok None)) (sym none) (no_data, union_of_none, refl, refl)

pub takes_union : (e : ExecInput) (d : Data) (read : List (List ℕ)) → e.gathered ≡ gathers.Union d.store → d.path ≡ e.path → IsReadOf (Some e) read
    → TakesData (Some e.path.now) read (Ok (Some d))
takes_union e d read union path (text, are, gathered) = (
  d.store,
  subst (λ (g : Gathered). IsGathered (e.path.now ∷ []) read g) union (subst (λ (ts : List (List ℕ)). IsGathered (e.path.now ∷ []) ts e.gathered) (sym are) gathered),
  refl,
  ap (λ (p : Bor Word). let o : Option Word = Some p.now in o) path,
)

pub takes_stop : (e : ExecInput) (stop : Stop) (read : List (List ℕ)) → e.gathered ≡ gathers.Refused stop → IsReadOf (Some e) read
    → TakesData (Some e.path.now) read (Err stop)
takes_stop e stop read refused (text, are, gathered) =
    subst (λ (g : Gathered). IsGathered (e.path.now ∷ []) read g) refused (subst (λ (ts : List (List ℕ)). IsGathered (e.path.now ∷ []) ts e.gathered) (sym are) gathered)

-- as many texts were read of execution data as files of it are named
pub read_count : (exec : Option ExecInput) (read : List (List ℕ)) → IsReadOf exec read → length read ≡ length (option_to_list (exec_path exec))
read_count None read none = ap length none
read_count (Some e) read (text, are, gathered) = ap length are

-- what is lent is what is held
lent_records : (held : Option Data) (lent : Option (Bor Data)) → option_map (λ d. d.now) lent ≡ held → data_records lent ≡ held_records held
lent_records held None is = ap held_records is
lent_records held (Some d) is = ap held_records is

lent_path : (held : Option Data) (lent : Option (Bor Data)) → option_map (λ d. d.now) lent ≡ held → data_path lent ≡ held_path held
lent_path held None is = ap held_path is
lent_path held (Some d) is = ap held_path is

-- ---- the texts

front_texts : (path : Option Word) (read texts : List (List ℕ)) → length read ≡ length (option_to_list path) → data_texts path (read ++ texts) ≡ read
front_texts None [] texts many = refl
front_texts None (t ∷ read) texts many = absurd (omega (arith, many))
front_texts (Some p) [] texts many = absurd (omega (arith, many))
front_texts (Some p) (t ∷ []) texts many = refl
front_texts (Some p) (t ∷ u ∷ read) texts many = absurd (omega (arith, many))

behind_texts : (path : Option Word) (read texts : List (List ℕ)) → length read ≡ length (option_to_list path) → class_texts path (read ++ texts) ≡ texts
behind_texts None [] texts many = refl
behind_texts None (t ∷ read) texts many = absurd (omega (arith, many))
behind_texts (Some p) [] texts many = absurd (omega (arith, many))
behind_texts (Some p) (t ∷ []) texts many = refl
behind_texts (Some p) (t ∷ u ∷ read) texts many = absurd (omega (arith, many))

-- ---- the answers

module _ {V X : Type 0} (value : V → X) (Makes : List ClassHits → List ReportedFile → X → Type 0) (path : Option Word) (read texts : List (List ℕ))
    (many : length read ≡ length (option_to_list path)) where
  abbrev Answers : Outcome X → Type 0
  Answers = DataAnswers Makes path (read ++ texts)

  -- the execution data is refused
  pub data_stops : (stop : Stop) → TakesData path read (Err stop) → AnswersAs value Answers (Err stop)
  data_stops stop (index, file, refusal, first, seen) =
      subst (λ (o : Option End). EndsSo Answers o) (sym seen)
      (data_refused index file refusal
      (subst (λ (ts : List (List ℕ)). IsFirstRefused (option_to_list path) ts index file refusal) (sym (front_texts path read texts many)) first))

  -- the clash
  clash_stops : (store : Store) (stop : Stop) → IsUnionOf read store → StopsAtClash path (FrontClashes store.classes texts) stop → AnswersAs value Answers (Err stop)
  clash_stops store stops.Memory union clash = tt
  clash_stops store (stops.Refused file fault) union (refusal, same, is, (count, items, are, clash)) =
      subst (λ (f : Fault). Answers (ending_so (refusal_of file.now f))) (sym is)
      (data_clashes file.now store count items refusal same
      (subst (λ (ts : List (List ℕ)). IsUnionOf ts store) (sym (front_texts path read texts many)) union)
      (subst (λ (ts : List (List ℕ)). AreItems (take count ts) items) (sym (behind_texts path read texts many)) are) clash)
  clash_stops store (stops.Read p) union clash = absurd clash
  clash_stops store (stops.Write p) union clash = absurd clash
  clash_stops store stops.Output union clash = absurd clash
  clash_stops store (stops.Clash fault line) union clash = absurd clash

  answers_by : (store : Store) (r : Result V Stop) → IsUnionOf read store → MakesWith value Makes store.classes path texts r → AnswersAs value Answers r
  answers_by store (Ok v) union (items, are, none, makes) =
      made store items (value v) (subst (λ (ts : List (List ℕ)). IsUnionOf ts store) (sym (front_texts path read texts many)) union)
      (subst (λ (ts : List (List ℕ)). AreItems ts items) (sym (behind_texts path read texts many)) are) none makes
  answers_by store (Err stop) union clash = clash_stops store stop union clash

  -- what is made of the class files with the execution data is the answer
  pub data_answers : (held : Option Data) (lent : Option (Bor Data)) (r : Result V Stop) → TakesData path read (Ok held) → option_map (λ d. d.now) lent ≡ held
      → MakesWith value Makes (data_records lent) (data_path lent) texts r → AnswersAs value Answers r
  data_answers held lent r (store, union, records, named) is makes =
      answers_by store r union
      (subst (λ (rs : List ClassHits). MakesWith value Makes rs path texts r) (lent_records held lent is ∙ records)
      (subst (λ (p : Option Word). MakesWith value Makes (data_records lent) p texts r) (lent_path held lent is ∙ named) makes))

-- ---- the writes of a report

pub report_writes : (out : Bor Word) (name : Word) (records : List ClassHits) (path : Option Word) (paths : List Word) (texts : List (List ℕ)) (kept : Kept Counted)
    (bytes : Vec ℕ Global) (writes : Vec Written Global) → LooksAtAll records paths texts kept → bytes.items ≡ report_text name kept.made.items
    → writes.items ≡ kept.lines.items ++ written.File out bytes ∷ [] → MakesWith writes_seen (IsReport out.now name paths) records path texts (Ok writes)
report_writes out name records path paths texts kept bytes writes (items, are, none, report) text is = (
  items,
  are,
  none,
  (
    counted_classes records items,
    are_counted records (first_of_each_id (changed_of items)),
    ap (map write_seen) is
        ∙ map-append write_seen kept.lines.items (written.File out bytes ∷ [])
        ∙ (λ i. report.lines i ++ to_file out.now ((text ∙ ap (report_text name) report.made) i) ∷ []),
  ),
)
