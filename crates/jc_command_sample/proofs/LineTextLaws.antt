-- The line of a sample, part by part.
use Rattle.std.proofs.Common.{◌≡◌, ◌++◌, ℕ, List, ◌∙◌, ap, ap₂}
use Rattle.jc_bytes.proofs.AppendingLaws.{joined}
use Rattle.jc_cover.specs.declared.coverage.Counters.{Counters}
use Rattle.jc_command_sample.specs.SampleWork.{sizes_text, instructions_text, branches_text, sample_text}

pub text_is : (methods probes cases : ℕ) (c : Counters) (a b d x y : List ℕ) → a ≡ sizes_text methods probes cases → x ≡ instructions_text c.instruction → y ≡ branches_text c.branch
    → b ≡ a ++ x → d ≡ b ++ y → d ≡ sample_text methods probes cases c
unfolding sample_text
text_is methods probes cases c a b d x y p q r first second =
    joined a b d x y first second ∙ ap (λ (l : List ℕ). l ++ (x ++ y)) p ∙ ap₂ (λ (l m : List ℕ). sizes_text methods probes cases ++ (l ++ m)) q r
