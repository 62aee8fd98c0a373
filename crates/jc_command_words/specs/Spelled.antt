-- Words as the spelling of what clap found in them.
use Rattle.std.specs.Prelude.{Bool, true, false, not, List, [], ◌∷◌, ◌++◌, map, codes, Option, Some, None, if◌then◌else◌}
use Rattle.std.specs.List.{filter}
use Rattle.std.specs.Str.{bytes_eq}
use Rattle.clap.specs.Matches.{first_value}
use Rattle.clap.specs.declared.parser.matches.Found.{Found}
use Rattle.jc_command_words.specs.Words.{Word, is_flag}
use Rattle.jc_command_words.specs.Scan.{Scan, added}

abbrev pub named_word : Word → Word
named_word name = 45 ∷ 45 ∷ name

abbrev pub joined_word : Word → Word → Word
joined_word name value = 45 ∷ 45 ∷ (name ++ 61 ∷ value)

-- the words behind the value of an option whose name stands in a word of its own
abbrev pub value_at : Word → List Word → Option (Bool × List Word)
value_at value [] = None
value_at value (w ∷ words) = if bytes_eq w value then Some (false, words) else None

-- what is behind the name of an option that stands in a word of its own: a flag has no value
abbrev pub named_at : Bool → Word → List Word → Option (Bool × List Word)
named_at flag value words = if flag then Some (false, words) else value_at value words

-- whether the words begin with a joined use of the option with this value, or with a use of two words or of a flag; and the
-- words behind it
abbrev pub use_at : Word → Word → List Word → Option (Bool × List Word)
use_at name value [] = None
use_at name value (w ∷ words) =
    if bytes_eq w (joined_word name value) then Some (true, words)
    else if bytes_eq w (named_word name) then named_at (is_flag name) value words else None

-- perhaps `--`, and files
abbrev pub tail_at : List Word → Scan
tail_at [] = record { uses = []; dash = false; files = [] }
tail_at (w ∷ words) =
    if bytes_eq w (45 ∷ 45 ∷ []) then record { uses = []; dash = true; files = words }
    else record { uses = []; dash = false; files = w ∷ words }

abbrev pub spelled_use : Option (Bool × List Word) → Word → Word → (List Word → Option Scan) → Option Scan
spelled_use None name value behind = None
spelled_use (Some p) name value behind = added (record { name = name; value = value; joined = p.0 }) (behind p.1)

abbrev pub spelled_option : Word → Option Word → List Word → (List Word → Option Scan) → Option Scan
spelled_option name None words behind = None
spelled_option name (Some value) words behind = spelled_use (use_at name value words) name value behind

-- the words, cut into uses of these options with these values in this order, perhaps `--`, and files
abbrev pub spelled : List (Word × Option Word) → List Word → Option Scan
spelled [] words = Some (tail_at words)
spelled (p ∷ options) words = spelled_option p.0 p.1 words (spelled options)

abbrev pub is_option_id : Word → Bool
is_option_id id = not (bytes_eq id (codes "FILE"))

abbrev pub with_value : Found → Word → Word × Option Word
with_value f id = (id, first_value f id)

-- the options among these ids, with the values that were found
abbrev pub with_values : Found → List Word → List (Word × Option Word)
with_values f ids = map (with_value f) (filter is_option_id ids)

-- the options that were found, with their values
abbrev pub options_found : Found → List (Word × Option Word)
options_found f = with_values f (map (λ e. e.0.now) f.entries.items)
