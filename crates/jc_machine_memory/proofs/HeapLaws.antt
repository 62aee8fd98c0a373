-- Objects in the blocks of the heap.
use Rattle.std.proofs.Common.{◌≡◌, ℕ, ℤ, zero, suc, pos, ◌+◌, ◌-◌, ◌%◌, ◌^◌, ◌<◌, ◌≤◌, ◌⊎◌, inl, inr, true, IsTrue, nat_le, Fits, List, [], ◌∷◌, ◌++◌, Option, Some, None, length, map, take, replicate, refl, arith, slice_get, slice_set, slice_index_or, ◌∙◌, ap, sym, subst, add-one}
use Rattle.std.specs.Int.{Width, w32, w64, cast_signed, cast_unsigned}
use Rattle.std.proofs.Math.Facts.{Fits-of_z, sfits_to_z}
use Rattle.std.proofs.lemmas.Int.{to_z-of_z}
use Rattle.std.specs.Prelude.{FitsSigned}
use Rattle.std.specs.Option.{IsSome, IsSomeAnd}
use Rattle.std.proofs.lemmas.List.{length-map, length-set, length-replicate, get_or-map, map-set, map-append, set_at, get_or_push, take_at}
use Rattle.std.proofs.lemmas.Bool.{cases_lt}
use Rattle.std.proofs.lemmas.Bool.Decides.{nat_tests}
use Rattle.jc_bytes.specs.Descriptor.{FieldType, Byte, Char, Int, Long, Short, Boolean}
use Rattle.jc_machine_model.specs.Values.{int, long}
use Rattle.jc_machine_model.specs.Arrays.{element_value}
use Rattle.jc_machine_model.specs.Heap.{HeapObject, array, throwable, words_of, heap_words, has_room}
use Rattle.jc_programs.specs.declared.run_end.Thrown.{Thrown}
use Rattle.jc_programs.specs.declared.run_end.Thrown.TheVariants.{Throwable}
use Rattle.jc_programs.specs.Throwables.{throwables}
use Rattle.jc_region.specs.declared.region.Block.{Block}
use Rattle.jc_region.specs.Memory.{RegionMemory}
use Rattle.jc_region.specs.Blocks.{Blocks, words_in, IsBlock, IsLive, number_at, words_at, with_word, with_block}
use Rattle.jc_machine_memory.specs.declared.element.Element.{Element}
use Rattle.jc_machine_memory.specs.declared.element.Element.TheVariants as elements
use Rattle.jc_machine_memory.specs.declared.heap.HeapObject.TheVariants as tolds
use Rattle.jc_machine_memory.specs.Heaps.{element_type, element_at, number_in, class_in, object_with, object_of, objects_of, HeapSeen, heap_of, object_at, AreObjects, IsHeap, TellsOf, HasElement, HasIntElement, element_in, with_number, with_element_at}
use Rattle.jc_machine_memory.proofs.ReadLaws.{got_mapped}

-- ---- blocks by their places

nonempty : (block : List ℕ) → words_of (object_of block) ≡ length block → 0 < length block
nonempty [] e = omega (arith, e)
nonempty (head ∷ words) e = omega arith

number_later : (block : List ℕ) (blocks : List (List ℕ)) (at : ℕ) → 0 < at → number_at (block ∷ blocks) at ≡ suc (number_at blocks (at - length block))
number_later block blocks zero less = absurd (omega arith)
number_later block blocks (suc at) less = refl

number_first : (block : List ℕ) (blocks : List (List ℕ)) (at : ℕ) → 0 ≡ at → number_at (block ∷ blocks) at ≡ 0
number_first block blocks zero here = refl
number_first block blocks (suc at) here = absurd (omega arith)

pub numbered : (blocks : List (List ℕ)) (at len k : ℕ) → AreObjects blocks → IsBlock blocks at len k → number_at blocks at ≡ k
numbered [] at len k all block = absurd block.there
numbered (b ∷ blocks) at len zero all block = number_first b blocks at block.before
numbered (b ∷ blocks) at len (suc k) all block =
    let some : 0 < length b = nonempty b all.0 in
    let before : length b + words_in (take k blocks) ≡ at = block.before in
    let inner : at - length b ≡ words_in (take k blocks) = omega arith in
    number_later b blocks at (omega arith)
    ∙ ap suc (ap (number_at blocks) inner ∙ numbered blocks (words_in (take k blocks)) len k all.1 (record { before = refl; there = block.there }))

long_there : (blocks : List (List ℕ)) (k len : ℕ) → IsSomeAnd (slice_get blocks k) (λ b. length b ≡ len) → length (slice_index_or blocks k []) ≡ len
long_there [] k len there = absurd there
long_there (b ∷ blocks) zero len there = there
long_there (b ∷ blocks) (suc k) len there = long_there blocks k len there

-- the words of the block with a number, by the place where it begins
pub words_is : (blocks : List (List ℕ)) (at len k : ℕ) → AreObjects blocks → IsBlock blocks at len k → words_at blocks at ≡ slice_index_or blocks k []
words_is blocks at len k all block = ap (λ n. slice_index_or blocks n []) (numbered blocks at len k all block)

pub block_long : (blocks : List (List ℕ)) (at len k : ℕ) → IsBlock blocks at len k → length (slice_index_or blocks k []) ≡ len
block_long blocks at len k block = long_there blocks k len block.there

pub block_some : (blocks : List (List ℕ)) (at len k : ℕ) → AreObjects blocks → IsBlock blocks at len k → 0 < len
block_some blocks at len k all block = some_there blocks k all block.there
  where
    some_there : (bs : List (List ℕ)) (n : ℕ) → AreObjects bs → IsSomeAnd (slice_get bs n) (λ b. length b ≡ len) → 0 < len
    some_there [] n each there = absurd there
    some_there (b ∷ bs) zero each there = omega (arith, nonempty b each.0, there)
    some_there (b ∷ bs) (suc n) each there = some_there bs n each.1 there

pub object_is : (blocks : List (List ℕ)) (k : ℕ) → object_at (map object_of blocks) k ≡ object_of (slice_index_or blocks k [])
object_is [] k = refl
object_is (b ∷ blocks) zero = refl
object_is (b ∷ blocks) (suc k) = object_is blocks k

pub heap_words-objects : (blocks : List (List ℕ)) → AreObjects blocks → heap_words (map object_of blocks) ≡ words_in blocks
heap_words-objects [] all = refl
heap_words-objects (b ∷ blocks) all = omega (arith, all.0, heap_words-objects blocks all.1)

-- the objects before one take as many words as the blocks before its own have
pub words_before-objects : (blocks : List (List ℕ)) (k : ℕ) → AreObjects blocks → heap_words (take k (map object_of blocks)) ≡ words_in (take k blocks)
words_before-objects blocks zero all = refl
words_before-objects [] (suc k) all = refl
words_before-objects (b ∷ blocks) (suc k) all = omega (arith, all.0, words_before-objects blocks k all.1)

-- behind the last there are no more
pub words_in-all : (blocks : List (List ℕ)) (k : ℕ) → length blocks ≤ k → words_in (take k blocks) ≡ words_in blocks
words_in-all [] zero less = refl
words_in-all [] (suc k) less = refl
words_in-all (b ∷ blocks) zero less = absurd (omega arith)
words_in-all (b ∷ blocks) (suc k) less = ap (λ n. length b + n) (words_in-all blocks k (omega arith))

-- ---- what is told of an object

array_told : (words : List ℕ) (len : ℕ) (e : Element) → length words ≡ len → 0 < len
    → Some (element_type e) ≡ element_at (slice_index_or words 0 0) → TellsOf (Some (tolds.Array e (len - 1))) (Some (object_of words))
array_told [] len e size some is = absurd (omega arith)
array_told (head ∷ words) len e size some is =
    let count : length (map (number_in (element_type e)) words) ≡ len - 1 = omega (arith, length-map words (number_in (element_type e)), size) in
    let P : Option FieldType → Type 0 = λ o. TellsOf (Some (tolds.Array e (len - 1))) (Some (object_with o head words)) in
    subst P is (map (number_in (element_type e)) words, refl, count)

throwable_told : (words : List ℕ) (len : ℕ) → length words ≡ len → 0 < len → None ≡ element_at (slice_index_or words 0 0)
    → TellsOf (Some (tolds.Throwable (class_in (slice_index_or words 0 0)))) (Some (object_of words))
throwable_told [] len size some is = absurd (omega arith)
throwable_told (head ∷ words) len size some is =
    let P : Option FieldType → Type 0 = λ o. TellsOf (Some (tolds.Throwable (class_in head))) (Some (object_with o head words)) in
    subst P is refl

there_is : (blocks : List (List ℕ)) (at len k : ℕ) → IsBlock blocks at len k
    → slice_get (map object_of blocks) k ≡ Some (object_of (slice_index_or blocks k []))
there_is blocks at len k block = got_mapped object_of blocks k [] (inside blocks k block.there)
  where
    inside : (bs : List (List ℕ)) (n : ℕ) → IsSomeAnd (slice_get bs n) (λ b. length b ≡ len) → n < length bs
    inside [] n there = absurd there
    inside (b ∷ bs) zero there = omega arith
    inside (b ∷ bs) (suc n) there = omega (arith, inside bs n there)

pub tells_array : (blocks : List (List ℕ)) (at len k head : ℕ) (e : Element) → AreObjects blocks → IsBlock blocks at len k
    → head ≡ slice_index_or (words_at blocks at) 0 0 → Some (element_type e) ≡ element_at head
    → TellsOf (Some (tolds.Array e (len - 1))) (slice_get (map object_of blocks) k)
tells_array blocks at len k head e all block read is =
    let words = slice_index_or blocks k [] in
    let first : head ≡ slice_index_or words 0 0 = read ∙ ap (λ ws. slice_index_or ws 0 0) (words_is blocks at len k all block) in
    subst (TellsOf (Some (tolds.Array e (len - 1)))) (sym (there_is blocks at len k block))
    (array_told words len e (block_long blocks at len k block) (block_some blocks at len k all block) (is ∙ ap element_at first))

pub tells_throwable : (blocks : List (List ℕ)) (at len k head : ℕ) → AreObjects blocks → IsBlock blocks at len k
    → head ≡ slice_index_or (words_at blocks at) 0 0 → None ≡ element_at head
    → TellsOf (Some (tolds.Throwable (class_in head))) (slice_get (map object_of blocks) k)
tells_throwable blocks at len k head all block read is =
    let words = slice_index_or blocks k [] in
    let first : head ≡ slice_index_or words 0 0 = read ∙ ap (λ ws. slice_index_or ws 0 0) (words_is blocks at len k all block) in
    subst (TellsOf (Some (tolds.Throwable (class_in head)))) (sym (there_is blocks at len k block))
    (subst (λ h. TellsOf (Some (tolds.Throwable (class_in h))) (Some (object_of words))) (sym first)
    (throwable_told words len (block_long blocks at len k block) (block_some blocks at len k all block) (is ∙ ap element_at first)))

-- ---- a new object

number_last : (blocks : List (List ℕ)) (block : List ℕ) → AreObjects blocks → number_at (blocks ++ block ∷ []) (words_in blocks) ≡ length blocks
number_last [] block all = refl
number_last (b ∷ blocks) block all =
    let some : 0 < length b = nonempty b all.0 in
    let inner : length b + words_in blocks - length b ≡ words_in blocks = omega arith in
    number_later b (blocks ++ block ∷ []) (length b + words_in blocks) (omega arith)
    ∙ ap suc (ap (number_at (blocks ++ block ∷ [])) inner ∙ number_last blocks block all.1)

got_last : (blocks : List (List ℕ)) (block : List ℕ) (len : ℕ) → length block ≡ len
    → IsSomeAnd (slice_get (blocks ++ block ∷ []) (length blocks)) (λ b. length b ≡ len)
got_last [] block len size = size
got_last (b ∷ blocks) block len size = got_last blocks block len size

zeros-length : (n : ℕ) → length (replicate {A = ℕ} n 0) ≡ n
zeros-length n = length-replicate n 0

pub live_last : (heap : Blocks) (len : ℕ) → IsLive (with_block heap len).blocks (words_in heap.blocks) len
live_last heap len = (
  length heap.blocks,
  record {
    before = ap words_in (take_at heap.blocks (replicate len 0 ∷ []) (length heap.blocks) refl);
    there = got_last heap.blocks (replicate len 0) len (zeros-length len);
  },
)

pub blocks_made : (heap : Blocks) (len word : ℕ) → IsHeap heap
    → (with_word (with_block heap len) (words_in heap.blocks) 0 word).blocks ≡ heap.blocks ++ slice_set (replicate len 0) 0 word ∷ []
blocks_made heap len word sound =
    let blocks = heap.blocks ++ replicate len 0 ∷ [] in
    let there : slice_index_or blocks (length heap.blocks) [] ≡ replicate len 0 = get_or_push heap.blocks (replicate len 0) [] (length heap.blocks) refl in
    ap (λ k. slice_set blocks k (slice_set (slice_index_or blocks k []) 0 word)) (number_last heap.blocks (replicate len 0) sound.objects)
    ∙ (ap (λ b. slice_set blocks (length heap.blocks) (slice_set b 0 word)) there
    ∙ set_at heap.blocks (replicate len 0) [] (slice_set (replicate len 0) 0 word) (length heap.blocks) refl)

objects-append : (blocks : List (List ℕ)) (block : List ℕ) → AreObjects blocks → words_of (object_of block) ≡ length block → AreObjects (blocks ++ block ∷ [])
objects-append [] block all one = (one, tt)
objects-append (b ∷ blocks) block all one = (all.0, objects-append blocks block all.1 one)

-- an object stands behind the others
pub record Makes (heap heap' : Blocks) (object : HeapObject) : Type 0 where
  pub sound : IsHeap heap'
  pub memory : heap'.memory ≡ heap.memory
  pub objects : objects_of heap' ≡ objects_of heap ++ object ∷ []

makes : (heap heap' : Blocks) (block : List ℕ) (object : HeapObject) → IsHeap heap → heap'.most ≡ heap.most → heap'.blocks ≡ heap.blocks ++ block ∷ []
    → heap'.memory ≡ heap.memory → object_of block ≡ object → words_of object ≡ length block → Makes heap heap' object
makes heap heap' block object sound most blocks memory is words =
    let all : AreObjects (heap.blocks ++ block ∷ []) = objects-append heap.blocks block sound.objects (ap words_of is ∙ words) in
    record {
      sound = record { most = most ∙ sound.most; objects = subst AreObjects (sym blocks) all };
      memory = memory;
      objects = ap (map object_of) blocks ∙ (map-append object_of heap.blocks (block ∷ []) ∙ ap (λ o. map object_of heap.blocks ++ o ∷ []) is);
    }

zero_number : (type : FieldType) → number_in type 0 ≡ pos 0
zero_number Long = refl
zero_number _ = refl

zero_numbers : (type : FieldType) (n : ℕ) → map (number_in type) (replicate n 0) ≡ replicate n (pos 0)
zero_numbers type zero = refl
zero_numbers type (suc n) = ap (λ x. x ∷ map (number_in type) (replicate n 0)) (zero_number type) ∙ ap (λ xs. pos 0 ∷ xs) (zero_numbers type n)

array_block : (n word : ℕ) → slice_set (replicate (n + 1) 0) 0 word ≡ word ∷ replicate n 0
array_block n word = ap (λ m. slice_set (replicate m 0) 0 word) (add-one n)

integers-length : (n : ℕ) → length (replicate {A = ℤ} n (pos 0)) ≡ n
integers-length n = length-replicate n (pos 0)

pub array_made : (heap : Blocks) (n word : ℕ) (type : FieldType) → IsHeap heap → element_at word ≡ Some type
    → Makes heap (with_word (with_block heap (n + 1)) (words_in heap.blocks) 0 word) (array type (replicate n (pos 0)))
array_made heap n word type sound is =
    makes heap _ (word ∷ replicate n 0) (array type (replicate n (pos 0))) sound refl
    (blocks_made heap (n + 1) word sound ∙ ap (λ b. heap.blocks ++ b ∷ []) (array_block n word)) refl
    (ap (λ o. object_with o word (replicate n 0)) is ∙ ap (array type) (zero_numbers type n))
    (omega (arith, integers-length n, zeros-length n))

no_element : (word : ℕ) → 16 ≤ word → element_at word ≡ None
no_element word high = grind (arith, nat_tests)

pub throwable_made : (heap : Blocks) (n : ℕ) (c : Thrown) → IsHeap heap → slice_index_or throwables n Throwable ≡ c
    → Makes heap (with_word (with_block heap 1) (words_in heap.blocks) 0 (n + 16)) (throwable c)
throwable_made heap n c sound is =
    let number : n + 16 - 16 ≡ n = omega arith in
    makes heap _ ((n + 16) ∷ []) (throwable c) sound refl
    (blocks_made heap 1 (n + 16) sound) refl
    (ap (λ o. object_with o (n + 16) []) (no_element (n + 16) (omega arith)) ∙ ap throwable (ap (λ m. slice_index_or throwables m Throwable) number ∙ is))
    refl

-- ---- room

pub full : (heap : Blocks) (n : ℕ) → IsHeap heap → heap.most < words_in heap.blocks + n → IsTrue (has_room (objects_of heap) n) → ⊥
full heap n sound less room =
    let words : heap_words (objects_of heap) ≡ words_in heap.blocks = heap_words-objects heap.blocks sound.objects in
    let most : heap.most ≡ 1000000 = sound.most in
    grind (arith, nat_tests)

pub roomy : (heap : Blocks) (n : ℕ) → IsHeap heap → (heap.most < words_in heap.blocks + n → ⊥) → IsTrue (has_room (objects_of heap) n)
roomy heap n sound wrong = by (cases_lt heap.most (words_in heap.blocks + n))
  where
    words : heap_words (objects_of heap) ≡ words_in heap.blocks
    words = heap_words-objects heap.blocks sound.objects

    most : heap.most ≡ 1000000
    most = sound.most

    fits : words_in heap.blocks + n ≤ heap.most → nat_le (heap_words (objects_of heap) + n) 1000000 ≡ true
    fits less = grind (arith, nat_tests, words, most)

    by : (heap.most < words_in heap.blocks + n) ⊎ (words_in heap.blocks + n ≤ heap.most) → IsTrue (has_room (objects_of heap) n)
    by (inl less) = absurd (wrong less)
    by (inr most) = fits most

-- ---- a block that was made, and its first word

pub live_made : (heap heap' : Blocks) (b : Block) (len : ℕ) → heap' ≡ with_block heap len
    → b ≡ record { at = words_in heap.blocks; len = len } → IsLive heap'.blocks b.at b.len
live_made heap heap' b len new place =
    let P : Blocks → Type 0 = λ h. IsLive h.blocks b.at b.len in
    let Q : Block → Type 0 = λ c. IsLive (with_block heap len).blocks c.at c.len in
    subst P (sym new) (subst Q (sym place) (live_last heap len))

pub first_set : (heap h h' : Blocks) (b : Block) (len word : ℕ) → h ≡ with_block heap len
    → b ≡ record { at = words_in heap.blocks; len = len } → h' ≡ with_word h b.at 0 word
    → h' ≡ with_word (with_block heap len) (words_in heap.blocks) 0 word
first_set heap h h' b len word new place set =
    set ∙ (ap (λ x. with_word x b.at 0 word) new ∙ ap (λ (c : Block). with_word (with_block heap len) c.at 0 word) place)

pub is_none_some : {A : Type 0} (r : Option A) → r ≡ None → IsSome r → ⊥
is_none_some None none some = absurd (cc)
is_none_some (Some x) none some = absurd (cc)

-- ---- elements

-- an array's words behind the first are as many as its elements
elements_with : (o : Option FieldType) (head : ℕ) (words : List ℕ) (t : FieldType) (i : ℕ) → HasElement (object_with o head words) t i
    → (i < length words) × (element_in (object_with o head words) i ≡ number_in t (slice_index_or words i 0))
elements_with None head words t i has = absurd has
elements_with (Some type) head words t i has =
    let within : i < length words = omega (arith, has.1, length-map words (number_in type)) in
    (within, get_or-map (number_in type) words i 0 (pos 0) within ∙ ap (λ u. number_in u (slice_index_or words i 0)) has.0)

pub element_within : (words : List ℕ) (t : FieldType) (i : ℕ) → HasElement (object_of words) t i → i + 1 < length words
element_within [] t i has = absurd has
element_within (head ∷ words) t i has = omega (arith, (elements_with (element_at head) head words t i has).0)

pub element_is : (words : List ℕ) (t : FieldType) (i : ℕ) → HasElement (object_of words) t i
    → element_in (object_of words) i ≡ number_in t (slice_index_or words (i + 1) 0)
element_is [] t i has = absurd has
element_is (head ∷ words) t i has =
    (elements_with (element_at head) head words t i has).1 ∙ ap (λ n. number_in t (slice_index_or (head ∷ words) n 0)) (sym (add-one i))

set_with : (o : Option FieldType) (head : ℕ) (words : List ℕ) (t : FieldType) (i word : ℕ) (n : ℤ)
    → HasElement (object_with o head words) t i → number_in t word ≡ n
    → object_with o head (slice_set words i word) ≡ with_number (object_with o head words) i n
set_with None head words t i word n has is = absurd has
set_with (Some type) head words t i word n has is =
    ap (array type) (map-set (number_in type) words i word
    ∙ ap (slice_set (map (number_in type) words) i) (ap (λ u. number_in u word) has.0 ∙ is))

pub element_set : (words : List ℕ) (t : FieldType) (i word : ℕ) (n : ℤ) → HasElement (object_of words) t i → number_in t word ≡ n
    → object_of (slice_set words (i + 1) word) ≡ with_number (object_of words) i n
element_set [] t i word n has is = absurd has
element_set (head ∷ words) t i word n has is =
    ap (λ m. object_of (slice_set (head ∷ words) m word)) (add-one i) ∙ set_with (element_at head) head words t i word n has is

same_words : (object : HeapObject) (i : ℕ) (n : ℤ) → words_of (with_number object i n) ≡ words_of object
same_words (array type elements) i n = omega (arith, length-set elements i n)
same_words (throwable c) i n = refl

set_objects : (blocks : List (List ℕ)) (k : ℕ) (block : List ℕ) → AreObjects blocks → words_of (object_of block) ≡ length block
    → AreObjects (slice_set blocks k block)
set_objects [] k block all one = tt
set_objects (b ∷ blocks) zero block all one = (one, all.1)
set_objects (b ∷ blocks) (suc k) block all one = (all.0, set_objects blocks k block all.1 one)

objects_at : (blocks : List (List ℕ)) (k : ℕ) → AreObjects blocks → 0 < length (slice_index_or blocks k [])
    → words_of (object_of (slice_index_or blocks k [])) ≡ length (slice_index_or blocks k [])
objects_at [] k all some = absurd (omega arith)
objects_at (b ∷ blocks) zero all some = all.0
objects_at (b ∷ blocks) (suc k) all some = objects_at blocks k all.1 some

-- an element is another number, and nothing else is
pub record Sets (heap heap' : Blocks) (k i : ℕ) (n : ℤ) : Type 0 where
  pub sound : IsHeap heap'
  pub memory : heap'.memory ≡ heap.memory
  pub objects : objects_of heap' ≡ with_element_at (objects_of heap) k i n

pub sets : (heap heap' : Blocks) (at len k : ℕ) (t : FieldType) (i word : ℕ) (n : ℤ) → IsHeap heap → IsBlock heap.blocks at len k
    → HasElement (object_at (objects_of heap) k) t i → number_in t word ≡ n
    → heap' ≡ with_word heap at (i + 1) word → Sets heap heap' k i n
sets heap heap' at len k t i word n sound block has is set =
    let words = slice_index_or heap.blocks k [] in
    let there : HasElement (object_of words) t i = subst (λ o. HasElement o t i) (object_is heap.blocks k) has in
    let some : 0 < length words = omega (arith, element_within words t i there) in
    let new : object_of (slice_set words (i + 1) word) ≡ with_number (object_of words) i n = element_set words t i word n there is in
    let one : words_of (object_of (slice_set words (i + 1) word)) ≡ length (slice_set words (i + 1) word) =
    ap words_of new ∙ (same_words (object_of words) i n ∙ (objects_at heap.blocks k sound.objects some ∙ sym (length-set words (i + 1) word))) in
    let here : with_word heap at (i + 1) word ≡ record heap { blocks = slice_set heap.blocks k (slice_set words (i + 1) word) } =
    ap (λ m. record heap { blocks = slice_set heap.blocks m (slice_set (slice_index_or heap.blocks m []) (i + 1) word) })
    (numbered heap.blocks at len k sound.objects block) in
    let P : Blocks → Type 0 = λ h. Sets heap h k i n in
    subst P (sym (set ∙ here)) (record {
      sound = record { most = sound.most; objects = set_objects heap.blocks k (slice_set words (i + 1) word) sound.objects one };
      memory = refl;
      objects = map-set object_of heap.blocks k (slice_set words (i + 1) word)
          ∙ (ap (slice_set (map object_of heap.blocks) k) new
          ∙ ap (λ o. slice_set (map object_of heap.blocks) k (with_number o i n)) (sym (object_is heap.blocks k)));
    })

-- an array of another type than long is one of some type, of which numbers are ints
pub int_element : (object : HeapObject) (i : ℕ) → HasIntElement object i
    → (t : FieldType) × HasElement object t i × ((word : ℕ) → number_in t word ≡ cast_signed w32 (word % 2 ^ 32))
int_element (array Long elements) i has = absurd has
int_element (array type elements) i has = (type, (refl, has), λ word. refl)
int_element (throwable c) i has = absurd has

-- an element there is
pub element_there : (blocks : List (List ℕ)) (k : ℕ) (t : FieldType) (i : ℕ) → HasElement (object_at (map object_of blocks) k) t i
    → (k < length blocks) × (i + 1 < length (slice_index_or blocks k []))
element_there [] k t i has = absurd has
element_there (b ∷ blocks) zero t i has = let first : 0 < length (b ∷ blocks) = omega arith in (first, element_within b t i has)
element_there (b ∷ blocks) (suc k) t i has =
    let rest : (k < length blocks) × (i + 1 < length (slice_index_or blocks k [])) = element_there blocks k t i has in
    let more : suc k < length (b ∷ blocks) = omega (arith, rest.0) in
    (more, rest.1)

pub index_within : (blocks : List (List ℕ)) (at len k : ℕ) (t : FieldType) (i : ℕ) → IsBlock blocks at len k
    → HasElement (object_at (map object_of blocks) k) t i → i + 1 < len
index_within blocks at len k t i block has = omega (arith, (element_there blocks k t i has).1, block_long blocks at len k block)

-- ---- a heap by its parts

pub same_heap : (heap : Blocks) (h : HeapSeen) → objects_of heap ≡ h.objects → heap.memory ≡ h.memory → heap_of heap ≡ h
same_heap heap h objects memory =
    ap (λ (os : List HeapObject). record { objects = os; memory = heap.memory }) objects ∙ ap (λ (m : RegionMemory). record { objects = h.objects; memory = m }) memory

-- ---- numbers in words

pub mod_fits : (n : ℕ) → Fits w32 (n % 2 ^ 32)
mod_fits n = omega arith

pub same_number : (w : Width) (r : ℤ) (n : ℕ) → r ≡ cast_signed w n → Fits w n → cast_signed w (cast_unsigned w r) ≡ cast_signed w n
same_number w r n is fits = ap (λ x. cast_signed w (cast_unsigned w x)) is ∙ to_z-of_z w (cast_signed w n) (sfits_to_z fits)

pub int_back : (x : ℤ) → FitsSigned w32 x → cast_signed w32 (cast_unsigned w32 x % 2 ^ 32) ≡ x
int_back x fits =
    let bits : Fits w32 (cast_unsigned w32 x) = Fits-of_z fits in
    let small : cast_unsigned w32 x % 2 ^ 32 ≡ cast_unsigned w32 x = omega (arith, bits) in
    ap (cast_signed w32) small ∙ to_z-of_z w32 x fits

pub long_element : (e : Element) (words : List ℕ) (i word : ℕ) → e ≡ elements.Long → HasElement (object_of words) (element_type e) i
    → word ≡ slice_index_or words (i + 1) 0
    → long (cast_signed w64 word) ≡ element_value (element_type e) (element_in (object_of words) i)
long_element e words i word is has read =
    let P : Element → Type 0 = λ x. HasElement (object_of words) (element_type x) i
    → long (cast_signed w64 word) ≡ element_value (element_type x) (element_in (object_of words) i) in
    subst P (sym is) (λ there. ap long (ap (cast_signed w64) read ∙ sym (element_is words Long i there))) has

pub int_element_value : (e : Element) (words : List ℕ) (i word : ℕ) → (e ≡ elements.Long → ⊥)
    → HasElement (object_of words) (element_type e) i → word ≡ slice_index_or words (i + 1) 0
    → int (cast_signed w32 (word % 2 ^ 32)) ≡ element_value (element_type e) (element_in (object_of words) i)
int_element_value elements.Long words i word wrong has read = absurd (wrong refl)
int_element_value elements.Boolean words i word wrong has read = ap int (ap (λ n. cast_signed w32 (n % 2 ^ 32)) read ∙ sym (element_is words Boolean i has))
int_element_value elements.Char words i word wrong has read = ap int (ap (λ n. cast_signed w32 (n % 2 ^ 32)) read ∙ sym (element_is words Char i has))
int_element_value elements.Byte words i word wrong has read = ap int (ap (λ n. cast_signed w32 (n % 2 ^ 32)) read ∙ sym (element_is words Byte i has))
int_element_value elements.Short words i word wrong has read = ap int (ap (λ n. cast_signed w32 (n % 2 ^ 32)) read ∙ sym (element_is words Short i has))
int_element_value elements.Int words i word wrong has read = ap int (ap (λ n. cast_signed w32 (n % 2 ^ 32)) read ∙ sym (element_is words Int i has))
