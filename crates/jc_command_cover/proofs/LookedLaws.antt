-- The bytes of files that were looked at.
use Rattle.std.proofs.Common.{◌≡◌, ℕ, List, [], ◌∷◌, ◌∙◌, ap}
use Rattle.jc_command_work.specs.Step.{Word}
use Rattle.jc_headline.specs.CoverWork.{LookedFile, AreLooked, texts_in}

pub looked_texts : (paths : List Word) (read : List (List ℕ)) (looked : List LookedFile) → AreLooked paths read looked → texts_in looked ≡ read
looked_texts [] [] looked is = ap texts_in is
looked_texts [] (t ∷ ts) looked is = absurd is
looked_texts (p ∷ ps) [] looked is = absurd is
looked_texts (p ∷ ps) (t ∷ ts) looked (d, rest, decision, parts, more) = ap texts_in parts ∙ ap (λ (us : List (List ℕ)). t ∷ us) (looked_texts ps ts rest more)
