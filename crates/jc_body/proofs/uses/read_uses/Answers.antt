use Rattle.std.proofs.Common.{◌∙◌}
use Rattle.std.proofs.lemmas.List.Filters.{dedup_is}
use Rattle.std.proofs.Math.Dec.{eqb}
use Rattle.jc_body.proofs.UsesLaws.{listed_ok}
use Rattle.jc_body.proofs.uses.read_uses.Goals as goal

pub returns-clause-uses : goal.returns-clause-uses
returns-clause-uses c =
    listed_ok c.args.pool.now c.args.insns.now c.args.rows.now c.new-places.result.items c.put_insn_places.new.places.items
    c.put_row_places.new.places.items c.sort.new.self.items c.deref.result.now c.listed_uses.result
    c.new-places.ensures.items c.in_ok-put_insn_places.ensures c.in_ok-put_row_places.ensures c.in_ok-sort.ensures.permutation c.in_ok-sort.ensures.sorted
    (c.deref.ensures.value ∙ dedup_is eqb c.sort.new.self.items c.dedup.new.self.items c.dedup.ensures.filtered) c.listed_uses.ensures.uses
