-- What stands beside the accepted files.
use Rattle.std.specs.Prelude.{◌≡◌, ℕ, List, map}
use Rattle.jc_command_work.specs.Step.{Word}
use Rattle.jc_headline.specs.CoverWork.{LookedFile, accepted, places_from}

-- Items that stand beside files, one beside each, were kept where a file is accepted: what they show of all files is then shown of the
-- accepted ones.
abbrev pub KeepsAccepted : {T : Type 0} → (items : List T) → (places : List ℕ) → (kept : List T) → Type 0
KeepsAccepted {T} items places kept =
    (shown : T → Word) (of_file : LookedFile → Word) (looked : List LookedFile) → map shown items ≡ map of_file looked → places ≡ places_from 0 looked
    → map shown kept ≡ map of_file (accepted looked)
