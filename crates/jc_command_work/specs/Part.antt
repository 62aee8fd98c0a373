-- A command is written as parts, one behind the other: each says what it has come to after some steps.
use Rattle.std.specs.Prelude.{◌≡◌, ◌⊎◌, ℕ, List, [], ◌∷◌, ◌++◌, Option, None, Some}
use Rattle.jc_command_work.specs.declared.status.Fault.{Fault}
use Rattle.jc_command_work.specs.declared.status.Status.{Status}
use Rattle.jc_command_work.specs.declared.status.Status.TheVariants as status
use Rattle.jc_command_work.specs.Texts.{usage_text, cannot_read, cannot_write, cannot_write_output}
use Rattle.jc_command_work.specs.Step.{Word, Write, to_file, to_out, to_err, Call, to_read, to_list, to_write, Step, has_read, has_no, has_listed, has_written, call_of}

-- ---- ends

-- how a command ends, if memory isn't refused
pub data End : Type 0 where
  done : End
  -- all was written, and a rule doesn't hold
  unmet : End
  -- an input is refused, with this line
  refused : (fault : Fault) (line : List ℕ) → End
  -- the words are of no stated form
  misused : End
  unread : (path : Word) → End
  unwritten : (path : Word) → End
  -- a text on `out` or `err` couldn't be written
  unprinted : End

abbrev pub status_of : End → Status
status_of done = status.Done
status_of unmet = status.Broken
status_of (refused fault line) = status.Refused fault
status_of misused = status.Usage
status_of (unread path) = status.ReadFault
status_of (unwritten path) = status.WriteFault
status_of unprinted = status.WriteFault

-- the last message, on `err`
abbrev pub message_of : End → Option (List ℕ)
message_of done = None
message_of unmet = None
message_of (refused fault line) = Some line
message_of misused = Some usage_text
message_of (unread path) = Some (cannot_read path)
message_of (unwritten path) = Some (cannot_write path)
message_of unprinted = Some cannot_write_output

-- how a command ends whose call failed
abbrev pub failure : Call → End
failure (to_read path) = unread path
failure (to_list folder) = unread folder
failure (to_write (to_file path bytes)) = unwritten path
failure (to_write (to_out text)) = unprinted
failure (to_write (to_err text)) = unprinted

-- ---- parts

-- what a part has come to
pub data Outcome (X : Type 0) : Type 0 where
  -- it goes on with this call
  wants : (call : Call) → Outcome X
  -- it is over, and hands this to the next part
  gives : (value : X) → Outcome X
  -- it ends the command
  stops : (end : End) → Outcome X

-- what a part has come to after these steps
abbrev pub Part : Type 0 → Type 1
Part X = List Step → Outcome X → Type 0

-- a command, or all that words ask for: it hands on nothing, and ends
abbrev pub Command : Type 1
Command = Part ⊥

-- ---- the parts that commands are made of

-- hands on a value, with no step
abbrev pub giving : {X : Type 0} → X → Part X
giving x [] o = o ≡ gives x
giving x (step ∷ steps) o = ⊥

-- ends the command so
abbrev pub ending : {X : Type 0} → End → Part X
ending end [] o = o ≡ stops end
ending end (step ∷ steps) o = ⊥

-- hands on what is so, or ends the command as is said
abbrev pub deciding : {X : Type 0} → (X → Type 0) → (End → Type 0) → Part X
deciding Is Ends [] (gives x) = Is x
deciding Is Ends [] (stops end) = Ends end
deciding Is Ends [] (wants call) = ⊥
deciding Is Ends (step ∷ steps) o = ⊥

-- no end
abbrev pub never : End → Type 0
never end = ⊥

-- hands on what is so
abbrev pub making : {X : Type 0} → (X → Type 0) → Part X
making Is = deciding Is never

-- hands on the bytes of the file, or ends the command where it can't be read
abbrev pub reading : Word → Part (List ℕ)
reading path [] o = o ≡ wants (to_read path)
reading path (has_read p bytes ∷ []) o = (p ≡ path) × (o ≡ gives bytes)
reading path (has_no p ∷ []) o = (p ≡ path) × (o ≡ stops (unread path))
reading path _ o = ⊥

-- hands on the paths of a folder
abbrev pub listing : Word → Part (List Word)
listing folder [] o = o ≡ wants (to_list folder)
listing folder (has_listed f paths ∷ []) o = (f ≡ folder) × (o ≡ gives paths)
listing folder _ o = ⊥

abbrev pub writing : Write → Part (Unit {0})
writing write [] o = o ≡ wants (to_write write)
writing write (has_written w ∷ []) o = (w ≡ write) × (o ≡ gives tt)
writing write _ o = ⊥

-- ---- one part behind the other

-- the first part is over, and the second goes on with what it handed on
pub record Hands {X Y : Type 0} (first : Part X) (second : X → Part Y) (steps : List Step) (o : Outcome Y) : Type 0 where
  pub front : List Step
  pub behind : List Step
  pub value : X
  pub parts : steps ≡ front ++ behind
  pub over : first front (gives value)
  pub goes_on : second value behind o

-- the first part isn't over, or ends the command
abbrev pub IsWithin : {X Y : Type 0} → Part X → List Step → Outcome Y → Type 0
IsWithin first steps (wants call) = first steps (wants call)
IsWithin first steps (stops end) = first steps (stops end)
IsWithin first steps (gives y) = ⊥

infixl 10 ◌>>=◌
abbrev pub ◌>>=◌ : {X Y : Type 0} → Part X → (X → Part Y) → Part Y
(first >>= second) steps o = IsWithin first steps o ⊎ Hands first second steps o

infixl 10 ◌>>◌
abbrev pub ◌>>◌ : {X Y : Type 0} → Part X → Part Y → Part Y
(first >> second) = first >>= (λ _. second)

-- ---- over lists

abbrev pub reading_all : List Word → Part (List (List ℕ))
reading_all [] = giving []
reading_all (path ∷ paths) = do
  text ← reading path
  texts ← reading_all paths
  giving (text ∷ texts)

abbrev pub writing_all : List Write → Part (Unit {0})
writing_all [] = giving tt
writing_all (write ∷ writes) = do
  writing write
  writing_all writes

-- ---- a part cut off

-- these are first steps of the part: it wanted each in its turn
abbrev pub Begun : {X : Type 0} → Part X → List Step → Type 0
Begun part steps = (steps ≡ []) ⊎ ((front : List Step) × (step : Step) × (steps ≡ front ++ step ∷ []) × part front (wants (call_of step)))
