use Rattle.std.proofs.Common.{rules, ◌≡◌, ◌+◌, ◌%◌, ◌^◌, Fits, ℕ, List, [], map, slice_index_or, ◌∙◌, ap, sym, subst}
use Rattle.std.specs.Int.{w32, w64}
use Rattle.jc_bytes.specs.Descriptor.{FieldType}
use Rattle.jc_machine_model.specs.Values.{int, long}
use Rattle.jc_machine_model.specs.Arrays.{element_value}
use Rattle.jc_machine_model.specs.Heap.{HeapObject}
use Rattle.jc_machine_memory.specs.Heaps.{HeapSeen, element_type, HasElement, object_of, object_at, element_in}
use Rattle.jc_machine_memory.proofs.HeapLaws.{words_is, object_is, mod_fits, same_number, long_element, int_element_value}
use Rattle.jc_machine_memory.proofs.heap.Heap.element.Goals as goal

-- the element as it stands in the words of the block
has : (now : List HeapObject) (blocks : List (List ℕ)) (k i : ℕ) (t : FieldType) → map object_of blocks ≡ now
    → HasElement (object_at now k) t i → HasElement (object_of (slice_index_or blocks k [])) t i
has now blocks k i t view there =
    subst (λ (o : HeapObject). HasElement o t i) (object_is blocks k) (subst (λ (h : List HeapObject). HasElement (object_at h k) t i) (sym view) there)

back : (now : List HeapObject) (blocks : List (List ℕ)) (k i : ℕ) (t : FieldType) → map object_of blocks ≡ now
    → element_value t (element_in (object_of (slice_index_or blocks k [])) i) ≡ element_value t (element_in (object_at now k) i)
back now blocks k i t view =
    ap (λ (o : HeapObject). element_value t (element_in o i)) (sym (object_is blocks k))
    ∙ ap (λ (h : List HeapObject). element_value t (element_in (object_at h k) i)) view

pub returns-in-Long : goal.returns-in-Long
returns-in-Long c =
    let blocks = c.self.inside.region.blocks in
    let view : map object_of blocks ≡ c.args.self.now.objects = ap (λ (h : HeapSeen). h.objects) c.self.view_is in
    let there = has c.args.self.now.objects blocks c.args.number c.args.i (element_type c.args.element) view c.requires in
    let fits : Fits w64 c.get-word.result = search rules in
    let read = c.get-word.ensures ∙ ap (λ ws. slice_index_or ws (c.args.i + 1) 0)
    (words_is blocks c.block-block.result.at c.block-block.result.len c.args.number c.self.invariant.objects c.block-block.ensures.block) in
    ap long (same_number w64 c.cast_signed.result c.get-word.result c.cast_signed.ensures fits)
    ∙ (long_element c.args.element (slice_index_or blocks c.args.number []) c.args.i c.get-word.result c.in-Long.is there read
    ∙ back c.args.self.now.objects blocks c.args.number c.args.i (element_type c.args.element) view)

pub returns-in_default : goal.returns-in_default
returns-in_default c =
    let blocks = c.self.inside.region.blocks in
    let view : map object_of blocks ≡ c.args.self.now.objects = ap (λ (h : HeapSeen). h.objects) c.self.view_is in
    let there = has c.args.self.now.objects blocks c.args.number c.args.i (element_type c.args.element) view c.requires in
    let read = c.get-word.ensures ∙ ap (λ ws. slice_index_or ws (c.args.i + 1) 0)
    (words_is blocks c.block-block.result.at c.block-block.result.len c.args.number c.self.invariant.objects c.block-block.ensures.block) in
    ap int (same_number w32 c.low_int.result (c.get-word.result % 2 ^ 32) c.low_int.ensures (mod_fits c.get-word.result))
    ∙ (int_element_value c.args.element (slice_index_or blocks c.args.number []) c.args.i c.get-word.result c.in_default.not-Long there read
    ∙ back c.args.self.now.objects blocks c.args.number c.args.i (element_type c.args.element) view)
