-- How words are cut into uses of options, `--` and files, by their looks alone.
use Rattle.std.specs.Prelude.{ℕ, Bool, true, false, ◌==◌, ◌&&◌, List, [], ◌∷◌, Option, Some, None, if◌then◌else◌, option_map}
use Rattle.std.specs.List.{list_any, before_first, after_first}
use Rattle.jc_command_words.specs.Words.{Use, Word, is_flag}

pub record Scan : Type 0 where
  pub uses : List Use
  pub dash : Bool
  pub files : List Word

-- `--`, `--name`, `--name=value`, or another word
pub data Kind : Type 0 where
  dashes : Kind
  named : Word → Kind
  joined : Word → Word → Kind
  other : Kind

abbrev pub is_equals : ℕ → Bool
is_equals b = b == 61

abbrev pub body_kind : Word → Kind
body_kind [] = dashes
body_kind (x ∷ xs) = if list_any is_equals (x ∷ xs) then joined (before_first is_equals (x ∷ xs)) (after_first is_equals (x ∷ xs)) else named (x ∷ xs)

abbrev pub kind_of_word : Word → Kind
kind_of_word [] = other
kind_of_word (a ∷ []) = other
kind_of_word (a ∷ b ∷ body) = if (a == 45) && (b == 45) then body_kind body else other

abbrev pub added : Use → Option Scan → Option Scan
added u = option_map {T = Scan} (λ s. record s { uses = u ∷ s.uses })

abbrev pub scan_kind : Kind → Word → List Word → (Option Word → Option Scan) → Option Scan
scan_kind dashes w rest next = Some (record { uses = []; dash = true; files = rest })
scan_kind (named n) w rest next =
    if is_flag n then added (record { name = n; value = []; joined = false }) (next None) else next (Some n)
scan_kind (joined n v) w rest next = added (record { name = n; value = v; joined = true }) (next None)
scan_kind other w rest next = Some (record { uses = []; dash = false; files = w ∷ rest })

-- the words behind the name of an option with a value that waits for it, if one does
unfoldable pub scan : Option Word → List Word → Option Scan
scan None [] = Some (record { uses = []; dash = false; files = [] })
scan (Some n) [] = None
scan (Some n) (v ∷ rest) = added (record { name = n; value = v; joined = false }) (scan None rest)
scan None (w ∷ rest) = scan_kind (kind_of_word w) w rest (λ p. scan p rest)
