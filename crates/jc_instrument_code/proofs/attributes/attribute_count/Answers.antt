use Rattle.std.proofs.Common.{length, refl, arith}
use Rattle.std.specs.Prelude.{slice_index}
use Rattle.jc_instrument_code.specs.LaidText.{tables_seen}
use Rattle.jc_instrument_code.specs.TwinCode.{places_by}
use Rattle.jc_instrument_code.proofs.AttributeLaws.{attributes_count, some_left, none_left}
use Rattle.jc_instrument_code.proofs.attributes.attribute_count.Goals as goal

pub returns-then-is_empty : goal.returns-then-is_empty
returns-then-is_empty c pool places names starts =
    let first = c.part_count-line_tables.ensures in
    let second = c.part_count.ensures in
    let third = c.part_count-2.ensures in
    let none = none_left (length c.args.tables.now.frames.frames.now) c.is_empty.result c.is_empty.ensures c.if-is_empty.true in
    let is = attributes_count places.lines places.vars places.kind_vars places.frames (places_by pool (slice_index starts))
    (tables_seen c.args.tables.now) names c.args.tables.now.frames.frames.now c.part_count-line_tables.result c.part_count.result c.part_count-2.result 0
    first.enough first.needed second.enough second.needed third.enough third.needed
    (λ e. refl) (λ more. absurd (omega (arith, none, more))) in
    omega (arith, is)

pub returns : goal.returns
returns c pool places names starts =
    let first = c.part_count-line_tables.ensures in
    let second = c.part_count.ensures in
    let third = c.part_count-2.ensures in
    let some = some_left (length c.args.tables.now.frames.frames.now) c.is_empty.result c.is_empty.ensures c.if-is_empty.false in
    attributes_count places.lines places.vars places.kind_vars places.frames (places_by pool (slice_index starts))
    (tables_seen c.args.tables.now) names c.args.tables.now.frames.frames.now c.part_count-line_tables.result c.part_count.result c.part_count-2.result 1
    first.enough first.needed second.enough second.needed third.enough third.needed
    (λ e. absurd (omega (arith, some, e))) (λ more. refl)
