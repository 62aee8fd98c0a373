use Rattle.std.proofs.Common.{◌≡◌, length, ap, sym, ◌∙◌, subst, arith, length-set}
use Rattle.jc_programs.specs.Probes.{InRange}
use Rattle.jc_board.specs.Layout.{IsLayout}
use Rattle.jc_board.specs.Places.{word_at}
use Rattle.jc_board.specs.Known.{KnownSeen, Adds}
use Rattle.jc_board.proofs.KnownLaws.{added}
use Rattle.jc_board.proofs.known.KnownHits.add.Goals as goal

pub mark-requires : goal.mark-requires
mark-requires c = (
  omega (arith, c.word_of-word.ensures.1, ap (λ (k : KnownSeen). length k.words) c.self.view_is, c.self.inside.words.ok.0),
  omega arith,
)

pub invariant_of-self : goal.invariant_of-self
invariant_of-self c =
    subst (IsLayout c.self.inside.counts.items c.self.inside.starts.items) (sym (ap length c.mark.ensures ∙ length-set c.self.inside.words.items _ _)) c.self.invariant

pub returns : goal.returns
returns c =
    let class = c.args.class in
    let id = c.args.id in
    let counts = c.self.inside.counts.items in
    let range = subst (λ (k : KnownSeen). InRange k.counts class id) (sym c.self.view_is) c.requires in
    let word : c.word_of-word.result ≡ word_at counts class id = c.word_of-word.ensures.0 ∙ ap (λ (k : KnownSeen). word_at k.counts class id) (sym c.self.view_is) in
    subst (λ (k : KnownSeen). Adds class id k (record { counts = counts; words = c.mark.new.words.items })) c.self.view_is
    (added counts c.self.inside.words.items c.mark.new.words.items c.word_of-word.result class id c.self.invariant.enough range word c.mark.ensures)
