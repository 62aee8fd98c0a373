-- What is kept of class files, one after the other, whatever is made of each changed class.
use Rattle.std.specs.Prelude.{◌≡◌, ◌⊎◌, ℕ, Bool, not, List, [], ◌∷◌, ◌++◌, map, filter, nat_eq, Result, Ok, Err, if◌then◌else◌}
use Rattle.std.specs.List.{list_any}
use Rattle.jc_bytes.specs.FirstSeen.{first_seen}
use Rattle.jc_bytes.specs.declared.refusal.Refusal.{Refusal}
use Rattle.jc_command_work.specs.declared.stop.Stop.{Stop}
use Rattle.jc_command_work.specs.declared.stop.Stop.TheVariants as stops
use Rattle.jc_command_work.specs.Seen.{write_seen}
use Rattle.jc_command_work.specs.Step.{Word, to_err}
use Rattle.jc_command_classes.specs.declared.kept.Kept.{Kept}
use Rattle.jc_command_classes.specs.declared.kept.Seen.{Seen}
use Rattle.jc_command_classes.specs.declared.kept.Seen.TheVariants as seens
use Rattle.jc_command_classes.specs.Lines.{refused_line}

-- ---- one class file more

-- the line of a class file that is refused was put last, and nothing else changed
pub record KeepsRefused {X : Type 0} (path : Word) (why : Refusal) (old new : Kept X) : Type 0 where
  pub lines : map write_seen new.lines.items ≡ map write_seen old.lines.items ++ to_err (refused_line path why) ∷ []
  pub made : new.made.items ≡ old.made.items
  pub ids : new.ids.keys ≡ old.ids.keys

-- the item was put last, unless the id was there
abbrev pub unless_known : {X : Type 0} → Bool → List X → X → List X
unless_known known xs x = if known then xs else xs ++ x ∷ []

-- what was made of the class was put last, unless its id came before
pub record KeepsChanged {X : Type 0} (id : ℕ) (own : X) (old new : Kept X) : Type 0 where
  pub lines : new.lines.items ≡ old.lines.items
  pub made : new.made.items ≡ unless_known (list_any (nat_eq id) old.ids.keys) old.made.items own
  pub ids : new.ids.keys ≡ unless_known (list_any (nat_eq id) old.ids.keys) old.ids.keys id

-- an unchanged class leaves what is kept
abbrev pub KeepsSeen : {X : Type 0} → Word → Seen X → Kept X → Kept X → Type 0
KeepsSeen path (seens.Refused why) old new = KeepsRefused path why old new
KeepsSeen path seens.Unchanged old new = new ≡ old
KeepsSeen path (seens.Changed id made) old new = KeepsChanged id made old new

-- ---- the class files so far

-- a line for each class file that is refused
abbrev pub refused_lines : {X : Type 0} → List Word → List (Seen X) → List (List ℕ)
refused_lines [] seen = []
refused_lines (p ∷ ps) [] = []
refused_lines (p ∷ ps) (seens.Refused why ∷ seen) = refused_line p why ∷ refused_lines ps seen
refused_lines (p ∷ ps) (seens.Unchanged ∷ seen) = refused_lines ps seen
refused_lines (p ∷ ps) (seens.Changed id made ∷ seen) = refused_lines ps seen

-- the ids of the changed classes, and what was made of them
abbrev pub changes_of : {X : Type 0} → List (Seen X) → List (ℕ × X)
changes_of [] = []
changes_of (seens.Refused why ∷ seen) = changes_of seen
changes_of (seens.Unchanged ∷ seen) = changes_of seen
changes_of (seens.Changed id made ∷ seen) = (id, made) ∷ changes_of seen

-- each whose id hasn't come before
abbrev pub first_of_each : {X : Type 0} → List (ℕ × X) → List (ℕ × X)
first_of_each [] = []
first_of_each (c ∷ changes) = c ∷ filter (λ d. not (nat_eq c.0 d.0)) (first_of_each changes)

-- the lines, what was made of the classes, and their ids are those of the class files
pub record IsKeptOf {X : Type 0} (paths : List Word) (seen : List (Seen X)) (kept : Kept X) : Type 0 where
  pub lines : map write_seen kept.lines.items ≡ map to_err (refused_lines paths seen)
  pub made : kept.made.items ≡ map (λ c. c.1) (first_of_each (changes_of seen))
  pub ids : kept.ids.keys ≡ first_seen (map (λ c. c.0) (changes_of seen))

-- ---- all class files

-- no answer stops the command, and this is kept of them
abbrev pub KeepsAll : {X : Type 0} → List Word → List (Result (Seen X) Stop) → Kept X → Type 0
KeepsAll {X} paths answers kept = (seen : List (Seen X)) × (answers ≡ map Ok seen) × IsKeptOf paths seen kept

-- memory was refused, or this is how the first answer does that stops the command
abbrev pub StopsFirst : {X : Type 0} → List (Result (Seen X) Stop) → Stop → Type 0
StopsFirst {X} answers stop =
    (stop ≡ stops.Memory)
    ⊎ ((seen : List (Seen X)) × (rest : List (Result (Seen X) Stop)) × (answers ≡ map Ok seen ++ Err stop ∷ rest))
