use Rattle.std.proofs.Common.{sym}
use Rattle.jc_pool.proofs.FirstPlaceMapLaws.{text_fresh}
use Rattle.jc_pool.proofs.index.note_text.Goals as goal

pub returns-clause-ok : goal.returns-clause-ok
returns-clause-ok c =
    text_fresh (λ x. x.items) c.args.texts.now.entries c.insert.new.self.entries c.in_ok-stored.stored c.args.text.now c.args.place
    c.in_ok-stored.ensures.items c.in_ok-insert.ensures.entries (sym c.in_default.ensures.value)
