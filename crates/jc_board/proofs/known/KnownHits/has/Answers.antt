use Rattle.std.proofs.Common.{◌≡◌, ◌<◌, ◌%◌, length, get_or, ap, sym, ◌∙◌, arith, eqb-true}
use Rattle.std.proofs.lemmas.Bool.{eqb-false}
use Rattle.std.proofs.lemmas.List.{get_or_read}
use Rattle.std.proofs.lemmas.Nat.Bits.{shr_and_one}
use Rattle.std.specs.Int.{bit_at}
use Rattle.jc_board.specs.Places.{word_at}
use Rattle.jc_board.specs.Known.{KnownSeen}
use Rattle.jc_board.proofs.known.KnownHits.has.Goals as goal
use Rattle.jc_board.proofs.known.KnownHits.has.Goals.{After-index-word}

pub index-word-requires : goal.index-word-requires
index-word-requires c = omega (arith, c.word_of-place.ensures.1, ap (λ (k : KnownSeen). length k.words) c.self.view_is, c.self.inside.words.ok.0)

-- the word that was read is that of the probe
read : (c : After-index-word) → c.index-word.result.now ≡ get_or c.args.self.now.words (word_at c.args.self.now.counts c.args.class c.args.id) 0
read c =
    let words = c.self.inside.words.items in
    let below : c.word_of-place.result < length words =
    omega (arith, c.word_of-place.ensures.1, ap (λ (k : KnownSeen). length k.words) c.self.view_is) in
    get_or_read words c.word_of-place.result _ below c.index-word.ensures 0 ∙ (ap (λ n. get_or words n 0) c.word_of-place.ensures.0
    ∙ ap (λ (k : KnownSeen). get_or k.words (word_at c.args.self.now.counts c.args.class c.args.id) 0) c.self.view_is)

pub returns-clause-known : goal.returns-clause-known
returns-clause-known c is =
    let at = (goal.at.returns-clause-known c).After-index-word in
    let bit = c.args.id % 64 in
    record {
      in_range = c.requires;
      is_set = ap (λ n. bit_at n bit) (sym (read at)) ∙ (sym (shr_and_one c.index-word.result.now bit) ∙ eqb-true _ _ is);
    }

pub returns-clause-unknown : goal.returns-clause-unknown
returns-clause-unknown c is known =
    let at = (goal.at.returns-clause-unknown c).After-index-word in
    let bit = c.args.id % 64 in
    eqb-false _ _ is (shr_and_one c.index-word.result.now bit ∙ (ap (λ n. bit_at n bit) (read at) ∙ known.is_set))
