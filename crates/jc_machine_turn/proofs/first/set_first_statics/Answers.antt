use Rattle.std.proofs.Common.{rules, ◌<◌, length, arith, map, slice_index_or, ◌∙◌, ap, sym}
use Rattle.std.specs.Global.{Vec}
use Rattle.jc_machine_code.specs.declared.prepared.PreparedClass.{PreparedClass}
use Rattle.jc_machine_code.specs.Prepared.{value_of as first_value_of}
use Rattle.jc_machine_memory.specs.declared.value.Value as kept
use Rattle.jc_machine_turn.proofs.FirstLaws.{as_many_classes, as_many_at, begun_more}
use Rattle.jc_machine_turn.proofs.SharedLaws.{memory_set}
use Rattle.jc_machine_turn.proofs.first.set_first_statics.Goals as goal

pub set_values-requires : goal.set_values-requires
set_values-requires c =
    let less : c.loop-i.i < length c.args.classes.now = search rules in
    let statics = c.loop-i.statics in
    let classes = c.args.classes.now in
    let v = slice_index_or statics c.loop-i.i c.index-statics-i.result in
    let d = slice_index_or classes c.loop-i.i c.index-classes-i.result in
    ap length c.as_mut_slice.ensures.value
    ∙ (as_many_at statics classes c.loop-i.i v d c.loop-i.invariant.0.as_many less
    (ap (λ (w : Vec kept.Value). slice_index_or statics c.loop-i.i w) c.index-statics-i.is)
    (ap (λ (e : PreparedClass). slice_index_or classes c.loop-i.i e) c.index-classes-i.is)
    ∙ ap length (sym c.as_slice.ensures))

pub loop-i-preserved : goal.loop-i-preserved
loop-i-preserved c =
    let less : c.loop-i.i < length c.args.classes.now = search rules in
    let statics = c.loop-i.statics in
    let classes = c.args.classes.now in
    let v = slice_index_or statics c.loop-i.i c.index-statics-i.result in
    let d = slice_index_or classes c.loop-i.i c.index-classes-i.result in
    let there = ap (λ (w : Vec kept.Value). slice_index_or statics c.loop-i.i w) c.index-statics-i.is in
    let inside : c.loop-i.i < length statics = omega (arith, less, as_many_classes statics classes c.loop-i.invariant.0.as_many) in (
      begun_more statics classes c.loop-i.i v d c.set_values.new.values c.loop-i.invariant.0 less there
          (ap (λ (e : PreparedClass). slice_index_or classes c.loop-i.i e) c.index-classes-i.is)
          (c.set_values.auto.values ∙ c.as_mut_slice.ensures.len)
          (c.set_values.auto.values ∙ ap length c.as_mut_slice.ensures.value)
          (c.set_values.ensures ∙ ap (map first_value_of) c.as_slice.ensures),
      memory_set statics c.loop-i.i v c.set_values.new.values inside there ∙ c.loop-i.invariant.1,
    )
