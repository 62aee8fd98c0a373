use Rattle.std.proofs.Common.{◌≤◌, length, take, sym, ap, ◌∙◌, arith}
use Rattle.jc_machine_model.specs.Heap.{heap_words}
use Rattle.jc_machine_memory.specs.Heaps.{HeapSeen}
use Rattle.jc_machine_memory.proofs.HeapLaws.{words_before-objects, words_in-all}
use Rattle.jc_machine_memory.proofs.heap.Heap.words_before.Goals as goal

pub returns-then-number-count : goal.returns-then-number-count
returns-then-number-count c =
    let blocks = c.self.inside.region.blocks in
    sym c.block.ensures.block.before
    ∙ (sym (words_before-objects blocks c.args.number c.self.invariant.objects)
    ∙ ap (λ (h : HeapSeen). heap_words (take c.args.number h.objects)) c.self.view_is)

pub returns-else-number-count : goal.returns-else-number-count
returns-else-number-count c =
    let blocks = c.self.inside.region.blocks in
    let test = c.if-number-count.false in
    let count = c.count.ensures in
    let past : length blocks ≤ c.args.number = omega (arith, test, count) in
    c.used.ensures
    ∙ (sym (words_in-all blocks c.args.number past)
    ∙ (sym (words_before-objects blocks c.args.number c.self.invariant.objects)
    ∙ ap (λ (h : HeapSeen). heap_words (take c.args.number h.objects)) c.self.view_is))
