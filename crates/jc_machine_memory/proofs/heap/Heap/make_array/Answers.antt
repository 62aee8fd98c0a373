use Rattle.std.proofs.Common.{◌≡◌, ◌+◌, [], ◌∷◌, ◌++◌, IsTrue, length, replicate, pos, refl, ◌∙◌, ap, sym, subst}
use Rattle.std.proofs.lemmas.List.{length-map}
use Rattle.jc_region.specs.Blocks.{Blocks, words_in, with_block, with_word}
use Rattle.jc_machine_model.specs.Heap.{array, has_room}
use Rattle.jc_machine_memory.specs.Heaps.{HeapSeen, element_type, object_of}
use Rattle.jc_machine_memory.proofs.HeapLaws.{Makes, array_made, full, roomy, live_made, first_set, is_none_some}
use Rattle.jc_machine_memory.proofs.heap.Heap.make_array.Goals as goal

pub returns-in_err-block-clause-room : goal.returns-in_err-block-clause-room
returns-in_err-block-clause-room c = (
  λ some. absurd (is_none_some _ c.from_residual.ensures some),
  λ room.
      let before = subst (λ (h : HeapSeen). IsTrue (has_room h.objects (c.args.count + 1))) (sym c.self.view_is) room in
      absurd (full c.self.inside.region (c.args.count + 1) c.self.invariant (c.in_err-block.ensures.room.0 refl) before),
)

pub returns-clause-room : goal.returns-clause-room
returns-clause-room c = (
  λ some. subst (λ (h : HeapSeen). IsTrue (has_room h.objects (c.args.count + 1))) c.self.view_is
      (roomy c.self.inside.region (c.args.count + 1) c.self.invariant (λ less. let wrong = c.in_ok-block.ensures.room.1 less in absurd (cc))),
  λ room. refl,
)

pub set-requires-clause-live : goal.set-requires-clause-live
set-requires-clause-live c = live_made c.self.inside.region c.alloc.new.self c.in_ok-block.block
    (c.args.count + 1) c.in_ok-block.ensures.block c.in_ok-block.ensures.place

made : (c : goal.After-set) → Makes c.self.inside.region c.set.new.self (array (element_type c.args.element) (replicate c.args.count (pos 0)))
made c =
    let heap = c.self.inside.region in
    let after : c.set.new.self ≡ with_word (with_block heap (c.args.count + 1)) (words_in heap.blocks) 0 c.code.result =
    first_set heap c.alloc.new.self c.set.new.self c.in_ok-block.block
    (c.args.count + 1) c.code.result c.in_ok-block.ensures.block c.in_ok-block.ensures.place c.set.ensures in
    let P : Blocks → Type 0 = λ h. Makes heap h (array (element_type c.args.element) (replicate c.args.count (pos 0))) in
    subst P (sym after) (array_made heap c.args.count c.code.result (element_type c.args.element) c.self.invariant c.code.ensures)

pub invariant_of-self-2 : goal.invariant_of-self-2
invariant_of-self-2 c = (made c).sound

pub returns-clause-made : goal.returns-clause-made
returns-clause-made c = (made c).objects
    ∙ ap (λ (h : HeapSeen). h.objects ++ array (element_type c.args.element) (replicate c.args.count (pos 0)) ∷ []) c.self.view_is

pub returns-clause-number : goal.returns-clause-number
returns-clause-number c = c.count-number.ensures ∙ (sym (length-map c.self.inside.region.blocks object_of) ∙ ap (λ (h : HeapSeen). length h.objects) c.self.view_is)

pub returns-clause-memory : goal.returns-clause-memory
returns-clause-memory c = (made c).memory ∙ ap (λ (h : HeapSeen). h.memory) c.self.view_is
