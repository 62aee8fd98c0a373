use Rattle.std.proofs.Common.{codes, ◌∙◌, ap}
use Rattle.jc_body.proofs.ItemLaws.{line_agrees, var_agrees}
use Rattle.jc_body.proofs.TablesLaws.{IsBounded, texts, each_body}
use Rattle.jc_body.proofs.tables.read_tables.Goals as goal

pub joined_tables-requires-clause-short : goal.joined_tables-requires-clause-short
joined_tables-requires-clause-short c = each_body IsBounded c.args.pool.now (codes "LineNumberTable") c.args.attributes.now c.requires
    c.deref.result.now (ap texts c.deref.ensures.value ∙ c.in_ok-line_bodies.ensures)

pub joined_tables-requires-2-clause-short : goal.joined_tables-requires-2-clause-short
joined_tables-requires-2-clause-short c = each_body IsBounded c.args.pool.now (codes "LocalVariableTable") c.args.attributes.now c.requires
    c.deref-2.result.now (ap texts c.deref-2.ensures.value ∙ c.in_ok-var_bodies.ensures)

pub joined_tables-requires-3-clause-short : goal.joined_tables-requires-3-clause-short
joined_tables-requires-3-clause-short c = each_body IsBounded c.args.pool.now (codes "LocalVariableTypeTable") c.args.attributes.now c.requires
    c.deref-3.result.now (ap texts c.deref-3.ensures.value ∙ c.in_ok-kind_bodies.ensures)

pub joined_tables-requires-clause-agrees : goal.joined_tables-requires-clause-agrees
joined_tables-requires-clause-agrees c = line_agrees

pub joined_tables-requires-2-clause-agrees : goal.joined_tables-requires-2-clause-agrees
joined_tables-requires-2-clause-agrees c = var_agrees

pub joined_tables-requires-3-clause-agrees : goal.joined_tables-requires-3-clause-agrees
joined_tables-requires-3-clause-agrees c = var_agrees
