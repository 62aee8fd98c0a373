-- Parts that write nothing.
use Rattle.std.proofs.Common.{◌≡◌, ℕ, List, [], ◌∷◌, ◌++◌, inl, inr, refl, ◌∙◌, ap}
use Rattle.jc_command_work.specs.Step.{Word, Write, Step, has_read, has_no, has_listed, has_written}
use Rattle.jc_command_work.specs.Part.{End, Outcome, wants, gives, stops, Part, giving, deciding, reading, reading_all, ◌>>=◌}
use Rattle.jc_command_work.specs.OneWay.{writes_of}
use Rattle.jc_command_work.specs.Answered.{answering, preparing}
use Rattle.jc_command_work.proofs.Prefix.{writes-append}

-- no step of the part is a write
abbrev pub WritesNone : {X : Type 0} → Part X → Type 0
WritesNone part = (steps : List Step) (o : Outcome _) → part steps o → writes_of steps ≡ []

pub none_giving : {X : Type 0} (x : X) → WritesNone (giving x)
none_giving x [] o is = refl
none_giving x (s ∷ ss) o is = absurd is

pub none_deciding : {X : Type 0} (So : X → Type 0) (Stops : End → Type 0) → WritesNone (deciding So Stops)
none_deciding So Stops [] o is = refl
none_deciding So Stops (s ∷ ss) (wants call) is = absurd is
none_deciding So Stops (s ∷ ss) (gives x) is = absurd is
none_deciding So Stops (s ∷ ss) (stops end) is = absurd is

pub none_reading : (path : Word) → WritesNone (reading path)
none_reading path [] o is = refl
none_reading path (has_read p b ∷ []) o is = refl
none_reading path (has_no p ∷ []) o is = refl
none_reading path (has_read p b ∷ s ∷ ss) o is = absurd is
none_reading path (has_no p ∷ s ∷ ss) o is = absurd is
none_reading path (has_listed f ps ∷ ss) o is = absurd is
none_reading path (has_written v ∷ ss) o is = absurd is

pub none_then : {X Y : Type 0} (p : Part X) (q : X → Part Y) → WritesNone p → ((x : X) → WritesNone (q x)) → WritesNone (p >>= q)
none_then p q first second steps (wants call) (inl within) = first steps (wants call) within
none_then p q first second steps (gives y) (inl within) = absurd within
none_then p q first second steps (stops end) (inl within) = first steps (stops end) within
none_then p q first second steps o (inr h) =
    ap writes_of h.parts ∙ writes-append h.front h.behind ∙ ap (λ (ws : List Write). ws ++ writes_of h.behind) (first h.front (gives h.value) h.over)
    ∙ second h.value h.behind o h.goes_on

pub none_reading_all : (paths : List Word) → WritesNone (reading_all paths)
none_reading_all [] = none_giving []
none_reading_all (path ∷ paths) = none_then (reading path) _ (none_reading path) (λ text. none_then (reading_all paths) _ (none_reading_all paths) (λ texts. none_giving (text ∷ texts)))

pub none_preparing : {X : Type 0} (inputs : List Word) (Answers : List (List ℕ) → Outcome X → Type 0) → WritesNone (preparing inputs Answers)
none_preparing inputs Answers =
    none_then (reading_all inputs) (λ texts. answering (Answers texts)) (none_reading_all inputs)
    (λ texts. none_deciding (λ value. Answers texts (gives value)) (λ end. Answers texts (stops end)))
