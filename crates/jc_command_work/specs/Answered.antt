-- A command that reads its inputs, decides what to write, and then writes it.
use Rattle.std.specs.Prelude.{◌≡◌, ⊤, ℕ, List, map, Option, None, Some, Result, Ok, Err, Vec}
use Rattle.std.specs.declared.alloc.Global.{Global}
use Rattle.jc_command_work.specs.declared.output.Write.{Write as Written}
use Rattle.jc_command_work.specs.declared.status.Fault.{Fault}
use Rattle.jc_command_work.specs.declared.stop.Stop.{Stop}
use Rattle.jc_command_work.specs.Texts.{fault_text}
use Rattle.jc_outside.specs.Outside.{FileMap, LastFailed}
use Rattle.jc_command_work.specs.Step.{Word, Write, AreTexts, Landed}
use Rattle.jc_command_work.specs.Part.{End, done, refused, Outcome, gives, stops, Part, Command, ending, deciding, reading_all, writing_all, ◌>>=◌, ◌>>◌}
use Rattle.jc_command_work.specs.Ending.{DoesFiles}
use Rattle.jc_command_work.specs.OneWay.{IsOver}
use Rattle.jc_command_work.specs.Seen.{write_seen, stop_seen}

-- ---- what is decided

-- what is to be written, or an end of the command
abbrev pub Answer : Type 0
Answer = Outcome (List Write)

-- the file is refused, and its line says why
abbrev pub refusal_of : Word → Fault → End
refusal_of file fault = refused fault (fault_text file fault)

abbrev pub refusing : Word → Fault → Answer
refusing file fault = stops (refusal_of file fault)

-- Of all texts that may be read of the inputs there is one answer.
pub record OneAnswer {X : Type 0} (Is : Outcome X → Type 0) : Type 0 where
  pub answer : Outcome X
  pub over : IsOver answer
  pub holds : Is answer
  pub only : (a : Outcome X) → Is a → a ≡ answer

abbrev pub HasOneAnswer : {X : Type 0} → List Word → (List (List ℕ) → Outcome X → Type 0) → Type 0
HasOneAnswer inputs Answers = (texts : List (List ℕ)) → AreTexts inputs texts → OneAnswer (Answers texts)

-- ---- the parts

-- hands on what is decided, or ends the command
abbrev pub answering : {X : Type 0} → (Outcome X → Type 0) → Part X
answering Is = deciding (λ value. Is (gives value)) (λ end. Is (stops end))

-- reads the inputs, and hands on what is decided
abbrev pub preparing : {X : Type 0} → List Word → (List (List ℕ) → Outcome X → Type 0) → Part X
preparing inputs Answers = do
  texts ← reading_all inputs
  answering (Answers texts)

-- makes the writes, and is done
abbrev pub making_all : List Write → Command
making_all writes = do
  writing_all writes
  ending done

abbrev pub answered : List Word → (List (List ℕ) → Answer → Type 0) → Command
answered inputs Answers = do
  writes ← preparing inputs Answers
  making_all writes

-- ---- functions that decide

-- the command ends so, or memory was refused
abbrev pub EndsSo : {X : Type 0} → (Outcome X → Type 0) → Option End → Type 0
EndsSo Is None = ⊤
EndsSo Is (Some end) = Is (stops end)

-- what a function gives that decides, where this is what its value stands for
abbrev pub AnswersAs : {V X : Type 0} → (V → X) → (Outcome X → Type 0) → Result V Stop → Type 0
AnswersAs value Is (Ok v) = Is (gives (value v))
AnswersAs value Is (Err stop) = EndsSo Is (stop_seen stop)

-- the writes that the code holds
abbrev pub writes_seen : Vec Written Global → List Write
writes_seen writes = map write_seen writes.items

-- what a function gives that decides what to write
abbrev pub AnswersWith : (Answer → Type 0) → Result (Vec Written Global) Stop → Type 0
AnswersWith Is result = AnswersAs writes_seen Is result

-- what a function did that reads the inputs and decides, where this is what its value stands for
abbrev pub PreparesAs : {V X : Type 0} → (V → X) → Landed → List Word → (List (List ℕ) → Outcome X → Type 0) → (old new : Option FileMap)
    → (failed failed' : LastFailed) → (reads reads' writes writes' : ℕ) → Result V Stop → Type 0
PreparesAs value landed inputs Answers old new failed failed' reads reads' writes writes' result =
    DoesFiles landed (preparing inputs Answers) value stop_seen old new failed failed' reads reads' writes writes' result

-- what a function did that reads the inputs and decides what to write
abbrev pub Prepares : Landed → List Word → (List (List ℕ) → Answer → Type 0) → (old new : Option FileMap) → (failed failed' : LastFailed)
    → (reads reads' writes writes' : ℕ)
    → Result (Vec Written Global) Stop → Type 0
Prepares landed inputs Answers old new failed failed' reads reads' writes writes' result =
    PreparesAs writes_seen landed inputs Answers old new failed failed' reads reads' writes writes' result
