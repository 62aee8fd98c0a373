use Rattle.std.proofs.Common.{length, ap, sym, ◌∙◌, subst}
use Rattle.std.proofs.lemmas.List.{length-replicate}
use Rattle.jc_board.specs.Layout.{IsLayout}
use Rattle.jc_board.specs.Known.{KnownSeen, IsEmpty}
use Rattle.jc_board.proofs.KnownLaws.{emptied}
use Rattle.jc_board.proofs.known.KnownHits.forget.Goals as goal

pub invariant_of-self : goal.invariant_of-self
invariant_of-self c = subst (IsLayout c.self.inside.counts.items c.self.inside.starts.items)
    (sym (ap length c.clear.ensures ∙ (length-replicate _ 0 ∙ c.self.inside.words.ok.0))) c.self.invariant

pub returns : goal.returns
returns c = subst (λ (k : KnownSeen). IsEmpty k.counts (record { counts = c.self.inside.counts.items; words = c.clear.new.words.items })) c.self.view_is
    (emptied c.self.inside.counts.items c.clear.new.words.items _ c.clear.ensures)
