use Rattle.std.proofs.Common.{◌%◌, ◌^◌, ◌∙◌, ap, sym, subst}
use Rattle.std.specs.Int.{w32, cast_signed, cast_unsigned}
use Rattle.std.proofs.lemmas.Int.{to_z-of_z}
use Rattle.jc_machine_memory.specs.Heaps.{HeapSeen, HasIntElement, objects_of, object_at, with_element_at}
use Rattle.jc_machine_memory.proofs.HeapLaws.{same_heap, Sets, sets, int_element, int_back}
use Rattle.jc_machine_memory.proofs.heap.Heap.set_int.Goals as goal

after : (c : goal.After-set) → Sets c.self.inside.region c.set.new.self c.args.number c.args.i c.args.value
after c =
    let heap = c.self.inside.region in
    let some = int_element (object_at (objects_of heap) c.args.number) c.args.i
    (subst (λ (h : HeapSeen). HasIntElement (object_at h.objects c.args.number) c.args.i) (sym c.self.view_is) c.requires) in
    sets heap c.set.new.self c.block-block.result.at c.block-block.result.len c.args.number some.0 c.args.i c.cast_unsigned.result
    c.args.value c.self.invariant c.block-block.ensures.block some.1
    (some.2 c.cast_unsigned.result
    ∙ (ap (λ n. cast_signed w32 (n % 2 ^ 32)) (c.cast_unsigned.ensures
    ∙ ap (cast_unsigned w32) (to_z-of_z w32 c.args.value c.ranges.value)) ∙ int_back c.args.value c.ranges.value)) c.set.ensures

pub invariant_of-self : goal.invariant_of-self
invariant_of-self c = (after c).sound

pub returns : goal.returns
returns c = same_heap c.set.new.self (record c.args.self.now { objects = with_element_at c.args.self.now.objects c.args.number c.args.i c.args.value })
    ((after c).objects ∙ ap (λ (h : HeapSeen). with_element_at h.objects c.args.number c.args.i c.args.value) c.self.view_is)
    ((after c).memory ∙ ap (λ (h : HeapSeen). h.memory) c.self.view_is)
