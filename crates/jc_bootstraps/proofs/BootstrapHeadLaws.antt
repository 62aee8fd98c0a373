-- What is told of a bootstrap method in front is told of the one that is read.
use Rattle.std.proofs.Common.{◌≡◌, ℕ, ◌*◌, List, length, drop, nat_lt, Some}
use Rattle.std.proofs.Common.{sym, ◌∙◌, ap}
use Rattle.std.proofs.lemmas.Bool.{ltb-false}
use Rattle.std.proofs.lemmas.Option.{same_Some}
use Rattle.jc_bytes.specs.Decoder.{◌>>=◌, first, number_at}
use Rattle.jc_bytes.specs.Parsing.{Good}
use Rattle.jc_bytes.proofs.DecoderLaws.{bind_some, test_some}
use Rattle.jc_bootstraps.specs.Bootstraps.{Bootstrap, told_of}
use Rattle.jc_bootstraps.specs.BootstrapHead.{head_at}
use Rattle.jc_bootstraps.specs.BootstrapsReading.{bootstrap_at}
use Rattle.jc_bootstraps.specs.declared.bootstraps.LastBootstrap.{LastBootstrap}
use Rattle.jc_bootstraps.proofs.PassedLaws.{made, passed, read_one, told}

-- the one in front, where its handle and the number of its arguments were read
behind_numbers : (left : List ℕ) (handle : ℕ) (behind : List ℕ) (count : ℕ) (rest : List ℕ) (h : LastBootstrap) (last : List ℕ)
    → number_at 2 left ≡ Some (handle, behind) → number_at 2 behind ≡ Some (count, rest)
    → first (2 * count) (λ _. told handle count) rest ≡ Some (h, last)
    → (b : Bootstrap) × (h ≡ told_of b) × (bootstrap_at left ≡ Good b last)
behind_numbers left handle behind count rest h last handle_is count_is e =
    let own : LastBootstrap × List ℕ = (told handle count, drop (2 * count) rest) in
    let there = test_some (nat_lt (length rest) (2 * count)) (Some own) (h, last) e in
    let pair = same_Some own (h, last) there.1 in
    let arguments = passed count rest (ltb-false _ _ there.0) in
    let b = made handle arguments.0 in (
      b,
      sym (ap (λ (p : LastBootstrap × List ℕ). p.0) pair) ∙ ap (told handle) (sym arguments.1),
      read_one left handle behind count rest arguments.0 (drop (2 * count) rest) handle_is count_is arguments.2
          ∙ ap (Good b) (ap (λ (p : LastBootstrap × List ℕ). p.1) pair),
    )

pub head_read : (left : List ℕ) (h : LastBootstrap) (rest : List ℕ) → head_at left ≡ Some (h, rest)
    → (b : Bootstrap) × (h ≡ told_of b) × (bootstrap_at left ≡ Good b rest)
unfolding head_at
head_read left h rest e =
    let one = bind_some (number_at 2 left)
    (λ handle. number_at 2 handle.1 >>= λ count. first (2 * count.0) (λ _. told handle.0 count.0) count.1) (h, rest) e in
    let two = bind_some (number_at 2 one.0.1) (λ count. first (2 * count.0) (λ _. told one.0.0 count.0) count.1) (h, rest) one.2 in
    behind_numbers left one.0.0 one.0.1 two.0.0 two.0.1 h rest one.1 two.1 two.2
