use Rattle.std.proofs.Common.{◌∙◌, ap, sym, subst}
use Rattle.std.specs.Int.{w64, cast_signed, cast_unsigned}
use Rattle.std.proofs.lemmas.Int.{to_z-of_z}
use Rattle.jc_bytes.specs.Descriptor.{Long}
use Rattle.jc_machine_memory.specs.Heaps.{HeapSeen, HasElement, object_at, with_element_at}
use Rattle.jc_machine_memory.proofs.HeapLaws.{same_heap, Sets, sets}
use Rattle.jc_machine_memory.proofs.heap.Heap.set_long.Goals as goal

after : (c : goal.After-set) → Sets c.self.inside.region c.set.new.self c.args.number c.args.i c.args.value
after c =
    let heap = c.self.inside.region in
    let has = subst (λ (h : HeapSeen). HasElement (object_at h.objects c.args.number) Long c.args.i) (sym c.self.view_is) c.requires in
    sets heap c.set.new.self c.block-block.result.at c.block-block.result.len c.args.number Long c.args.i c.cast_unsigned.result
    c.args.value c.self.invariant c.block-block.ensures.block has
    (ap (cast_signed w64) (c.cast_unsigned.ensures ∙ ap (cast_unsigned w64) (to_z-of_z w64 c.args.value c.ranges.value))
    ∙ to_z-of_z w64 c.args.value c.ranges.value) c.set.ensures

pub invariant_of-self : goal.invariant_of-self
invariant_of-self c = (after c).sound

pub returns : goal.returns
returns c = same_heap c.set.new.self (record c.args.self.now { objects = with_element_at c.args.self.now.objects c.args.number c.args.i c.args.value })
    ((after c).objects ∙ ap (λ (h : HeapSeen). with_element_at h.objects c.args.number c.args.i c.args.value) c.self.view_is)
    ((after c).memory ∙ ap (λ (h : HeapSeen). h.memory) c.self.view_is)
