use Rattle.std.proofs.Common.{◌≡◌, ◌-◌, Some, slice_get, slice_index_or, arith, ◌∙◌, ap, sym, subst}
use Rattle.jc_programs.specs.declared.run_end.Thrown.TheVariants.{Throwable}
use Rattle.jc_programs.specs.Throwables.{throwables}
use Rattle.jc_machine_model.specs.Heap.{throwable}
use Rattle.jc_machine_memory.specs.declared.heap.HeapObject.TheVariants as tolds
use Rattle.jc_machine_memory.specs.Heaps.{HeapSeen, class_in, TellsOf}
use Rattle.jc_machine_memory.proofs.HeapLaws.{block_some, tells_array, tells_throwable}
use Rattle.jc_machine_memory.proofs.heap.Heap.object.Goals as goal

pub get-head-requires-clause-within : goal.get-head-requires-clause-within
get-head-requires-clause-within c =
    block_some c.self.inside.region.blocks c.block-block.result.at c.block-block.result.len c.args.number c.self.invariant.objects c.block-block.ensures.block

pub overflow_sub-result : goal.overflow_sub-result
overflow_sub-result c =
    let some = block_some c.self.inside.region.blocks c.block-block.result.at c.block-block.result.len c.args.number
    c.self.invariant.objects c.block-block.ensures.block in
    omega (arith, some)

pub returns-in-Some-clause-told : goal.returns-in-Some-clause-told
returns-in-Some-clause-told c =
    let told = tells_array c.self.inside.region.blocks c.block-block.result.at c.block-block.result.len c.args.number c.get-head.result
    c.in-Some.element c.self.invariant.objects c.block-block.ensures.block c.get-head.ensures c.in-Some.ensures in
    subst (λ (h : HeapSeen). TellsOf (Some (tolds.Array c.in-Some.element (c.block-block.result.len - 1)))
    (slice_get h.objects c.args.number)) c.self.view_is told

pub returns-in-None-clause-told : goal.returns-in-None-clause-told
returns-in-None-clause-told c =
    let told = tells_throwable c.self.inside.region.blocks c.block-block.result.at c.block-block.result.len c.args.number c.get-head.result
    c.self.invariant.objects c.block-block.ensures.block c.get-head.ensures c.in-None.ensures in
    let named : class_in c.get-head.result ≡ c.class_of_number.result =
    ap (λ n. slice_index_or throwables n Throwable) (sym c.saturating_sub.ensures) ∙ sym c.class_of_number.ensures in
    ap (λ (h : HeapSeen). slice_get h.objects c.args.number) (sym c.self.view_is) ∙ (told ∙ ap (λ d. Some (throwable d)) named)
