use Rattle.std.proofs.Common.{arith}
use Rattle.std.proofs.lemmas.Result.{err_from_is_err_and}
use Rattle.jc_class.specs.ClassReading.{attributes_at, class_at, field_at, method_at}
use Rattle.jc_bytes.specs.Counted.{counted_at}
use Rattle.jc_class.proofs.ParsedLaws.{bad_attributes, bad_fields, bad_methods, refused_later}
use Rattle.jc_class.proofs.read.parsed.Goals as goal

pub returns-in_err-fields-clause-gives : goal.returns-in_err-fields-clause-gives
returns-in_err-fields-clause-gives c =
    let e = err_from_is_err_and c.from_residual-in_err-fields.result c.from_residual-in_err-fields.ensures.1 in
    refused_later c.in_err-fields.field-0.0 c.from_residual-in_err-fields.result c.args.reader.now c.read_interfaces.new.reader c.read_fields.new.reader
    (counted_at (field_at c.in_ok-pool.pool) c.read_interfaces.new.reader.left) (class_at c.args.reader.now.left) (rw e.2 at e.1)
    (omega (
      arith,
      c.in_ok-magic_item.ensures.end,
      c.in_ok-minor.ensures.end,
      c.in_ok-major.ensures.end,
      c.in_ok-pool.ensures.end,
      c.in_ok-flags.ensures.end,
      c.in_ok-this_class.ensures.end,
      c.in_ok-super_class.ensures.end,
      c.in_ok-interfaces.ensures.end,
    ))
    (bad_fields c.args.reader.now.left c.magic_item.new.reader.left c.u16_item.new.reader.left c.u16_item-2.new.reader.left
    c.read.new.reader.left c.u16_item-3.new.reader.left c.place_item.new.reader.left c.place_item-2.new.reader.left c.read_interfaces.new.reader.left
    c.in_ok-magic_item.field-0 c.in_ok-minor.minor c.in_ok-major.major c.in_ok-flags.flags c.in_ok-this_class.this_class c.in_ok-super_class.super_class
    c.in_ok-pool.pool c.in_ok-interfaces.interfaces
    c.in_ok-magic_item.ensures.gives c.in_ok-minor.ensures.gives c.in_ok-major.ensures.gives c.in_ok-pool.ensures.parses
    c.in_ok-flags.ensures.gives c.in_ok-this_class.ensures.gives c.in_ok-super_class.ensures.gives c.in_ok-interfaces.ensures.gives) c.in_err-fields.ensures.gives

pub returns-in_err-methods-clause-gives : goal.returns-in_err-methods-clause-gives
returns-in_err-methods-clause-gives c =
    let e = err_from_is_err_and c.from_residual-in_err-methods.result c.from_residual-in_err-methods.ensures.1 in
    refused_later c.in_err-methods.field-0.0 c.from_residual-in_err-methods.result c.args.reader.now c.read_fields.new.reader c.read_methods.new.reader
    (counted_at (method_at c.in_ok-pool.pool) c.read_fields.new.reader.left) (class_at c.args.reader.now.left) (rw e.2 at e.1)
    (omega (
      arith,
      c.in_ok-magic_item.ensures.end,
      c.in_ok-minor.ensures.end,
      c.in_ok-major.ensures.end,
      c.in_ok-pool.ensures.end,
      c.in_ok-flags.ensures.end,
      c.in_ok-this_class.ensures.end,
      c.in_ok-super_class.ensures.end,
      c.in_ok-interfaces.ensures.end,
      c.in_ok-fields.ensures.end,
    ))
    (bad_methods c.args.reader.now.left c.magic_item.new.reader.left c.u16_item.new.reader.left c.u16_item-2.new.reader.left
    c.read.new.reader.left c.u16_item-3.new.reader.left c.place_item.new.reader.left c.place_item-2.new.reader.left c.read_interfaces.new.reader.left
    c.in_ok-magic_item.field-0 c.in_ok-minor.minor c.in_ok-major.major c.in_ok-flags.flags c.in_ok-this_class.this_class c.in_ok-super_class.super_class
    c.in_ok-pool.pool c.in_ok-interfaces.interfaces
    c.in_ok-magic_item.ensures.gives c.in_ok-minor.ensures.gives c.in_ok-major.ensures.gives c.in_ok-pool.ensures.parses
    c.in_ok-flags.ensures.gives c.in_ok-this_class.ensures.gives c.in_ok-super_class.ensures.gives c.in_ok-interfaces.ensures.gives
    c.read_fields.new.reader.left c.in_ok-fields.fields c.in_ok-fields.ensures.gives) c.in_err-methods.ensures.gives

pub returns-in_err-attributes-clause-gives : goal.returns-in_err-attributes-clause-gives
returns-in_err-attributes-clause-gives c =
    let e = err_from_is_err_and c.from_residual-in_err-attributes.result c.from_residual-in_err-attributes.ensures.1 in
    refused_later c.in_err-attributes.field-0.0 c.from_residual-in_err-attributes.result c.args.reader.now c.read_methods.new.reader c.read_attributes.new.reader
    (attributes_at c.in_ok-pool.pool c.read_methods.new.reader.left) (class_at c.args.reader.now.left) (rw e.2 at e.1)
    (omega (
      arith,
      c.in_ok-magic_item.ensures.end,
      c.in_ok-minor.ensures.end,
      c.in_ok-major.ensures.end,
      c.in_ok-pool.ensures.end,
      c.in_ok-flags.ensures.end,
      c.in_ok-this_class.ensures.end,
      c.in_ok-super_class.ensures.end,
      c.in_ok-interfaces.ensures.end,
      c.in_ok-fields.ensures.end,
      c.in_ok-methods.ensures.end,
    ))
    (bad_attributes c.args.reader.now.left c.magic_item.new.reader.left c.u16_item.new.reader.left c.u16_item-2.new.reader.left
    c.read.new.reader.left c.u16_item-3.new.reader.left c.place_item.new.reader.left c.place_item-2.new.reader.left c.read_interfaces.new.reader.left
    c.in_ok-magic_item.field-0 c.in_ok-minor.minor c.in_ok-major.major c.in_ok-flags.flags c.in_ok-this_class.this_class c.in_ok-super_class.super_class
    c.in_ok-pool.pool c.in_ok-interfaces.interfaces
    c.in_ok-magic_item.ensures.gives c.in_ok-minor.ensures.gives c.in_ok-major.ensures.gives c.in_ok-pool.ensures.parses
    c.in_ok-flags.ensures.gives c.in_ok-this_class.ensures.gives c.in_ok-super_class.ensures.gives c.in_ok-interfaces.ensures.gives
    c.read_fields.new.reader.left c.in_ok-fields.fields c.in_ok-fields.ensures.gives
    c.read_methods.new.reader.left c.in_ok-methods.methods c.in_ok-methods.ensures.gives) c.in_err-attributes.ensures.gives
