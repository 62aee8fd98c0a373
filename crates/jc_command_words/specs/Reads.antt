-- What clap finds in words, and how they are cut by it.
use Rattle.std.specs.Prelude.{◌≡◌, true, List, Option, Some, None}
use Rattle.clap.specs.declared.parser.matches.ArgMatches.{ArgMatches}
use Rattle.clap.specs.Simple.{HasMatchesOf}
use Rattle.clap.specs.Takes.{takes}
use Rattle.jc_command_words.specs.Reader.{jcov_app}
use Rattle.jc_command_words.specs.Words.{Word}
use Rattle.jc_command_words.specs.Forms.{Call, call_words}
use Rattle.jc_command_words.specs.Taken.{IsTaken, taken_options}

-- clap takes the words
unfoldable pub AreAccepted : List Word → Type 0
AreAccepted words = takes jcov_app words ≡ true

-- the matches are what clap finds in the words
unfoldable pub HasFound : List Word → ArgMatches → Type 0
HasFound words m = HasMatchesOf jcov_app words m

-- what clap finds, or there is nothing, and clap doesn't take the words
abbrev pub MatchesIf : List Word → Option ArgMatches → Type 0
MatchesIf words None = AreAccepted words → ⊥
MatchesIf words (Some m) = HasFound words m

-- the words are those of the call, and clap takes them
abbrev pub TakenCall : List Word → Call → Type 0
TakenCall words c = (words ≡ call_words c) × IsTaken (taken_options c.name) c.uses c.files

-- the words spell the call, and each call that they are the words of is this one; or they are the words of none
abbrev pub CallCut : List Word → Option Call → Type 0
CallCut words None = (c : Call) → TakenCall words c → ⊥
CallCut words (Some c) = (words ≡ call_words c) × ((d : Call) → TakenCall words d → d ≡ c)
