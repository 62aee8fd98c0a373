-- What stands inside a region.
use Rattle.std.proofs.Common.{◌≡◌, ℕ, ◌+◌, ◌-◌, ◌<◌, ◌≤◌, List, [], ◌∷◌, ◌++◌, length, take, drop, replicate, arith, slice_index_or, slice_set, ◌∙◌, ap, sym, subst}
use Rattle.std.proofs.lemmas.List.{length-set, length-take-le, length-drop, length-append, length-replicate, get_or-take, get_or-drop, take_at, drop_at, take_more_set}
use Rattle.jc_region.specs.declared.region.Region.TheInside.{Inside}
use Rattle.jc_region.specs.Memory.{RegionMemory}
use Rattle.jc_region.specs.Blocks.{Blocks, words_in, IsBlock, IsLive, number_at, words_at, with_word, with_block}
use Rattle.jc_region.specs.Places.{lengths_from, cut, AreEnds, used_ends, memory_of, blocks_of, IsSound}
use Rattle.jc_region.proofs.PlaceLaws.{total, ArePositive, words_in-cut, length-cut, lengths_positive, total-lengths_from, length-lengths_from, few_ends, ends-append, lengths_from-append, begin_of, begins_before, block_between, cut-append, cut_same, Lies, lies, cut-set}

abbrev pub lens_of : Inside → List ℕ
lens_of r = lengths_from 0 (used_ends r)

pub ends_count : (r : Inside) → IsSound r → length (used_ends r) ≡ r.count
ends_count r sound = length-take-le r.count r.ends.items sound.counted

pub total_is : (r : Inside) → IsSound r → total (lens_of r) ≡ r.used
total_is r sound = omega (arith, total-lengths_from 0 r.used (used_ends r) sound.ends)

positive : (r : Inside) → IsSound r → ArePositive (lens_of r)
positive r sound = lengths_positive 0 r.used (used_ends r) sound.ends

few : (r : Inside) → IsSound r → total (lens_of r) ≤ length r.words.items
few r sound = omega (arith, total_is r sound, sound.within)

pub used_is : (r : Inside) → IsSound r → words_in (blocks_of r).blocks ≡ r.used
used_is r sound = words_in-cut (lens_of r) r.words.items (few r sound) ∙ total_is r sound

pub count_is : (r : Inside) → IsSound r → length (blocks_of r).blocks ≡ r.count
count_is r sound = length-cut (lens_of r) r.words.items ∙ (length-lengths_from 0 (used_ends r) ∙ ends_count r sound)

-- fewer blocks than words leave room for one more end
pub count_below : (r : Inside) → IsSound r → r.count ≤ r.used
count_below r sound = omega (arith, few_ends 0 r.used (used_ends r) sound.ends, ends_count r sound)

pub lies_in : (r : Inside) (at len : ℕ) → IsSound r → (live : IsLive (blocks_of r).blocks at len) → Lies (lens_of r) r.words.items at len live.0
lies_in r at len sound live = lies (lens_of r) r.words.items at len live.0 (positive r sound) (few r sound) live.1

pub live_below : (r : Inside) (at len : ℕ) → IsSound r → IsLive (blocks_of r).blocks at len → at + len ≤ r.used
live_below r at len sound live = omega (arith, (lies_in r at len sound live).within, total_is r sound)

-- ---- the block with a number

pub end_is : (r : Inside) (k : ℕ) → k < r.count → slice_index_or (used_ends r) k 0 ≡ slice_index_or r.ends.items k 0
end_is r k less = get_or-take r.count r.ends.items k 0 less

pub begins_below : (r : Inside) (k : ℕ) → IsSound r → k < r.count → begin_of 0 (used_ends r) k < slice_index_or r.ends.items k 0
begins_below r k sound less =
    let here : begin_of 0 (used_ends r) k < slice_index_or (used_ends r) k 0 =
    (begins_before 0 r.used (used_ends r) k sound.ends (omega (arith, ends_count r sound))).1 in
    omega (arith, here, end_is r k less)

pub ends_below : (r : Inside) (k : ℕ) → IsSound r → k < r.count → slice_index_or r.ends.items k 0 ≤ r.used
ends_below r k sound less =
    let here : slice_index_or (used_ends r) k 0 ≤ r.used = (begins_before 0 r.used (used_ends r) k sound.ends (omega (arith, ends_count r sound))).2 in
    omega (arith, here, end_is r k less)

pub block_at : (r : Inside) (at len k : ℕ) → IsSound r → k < r.count → at ≡ begin_of 0 (used_ends r) k
    → len ≡ slice_index_or r.ends.items k 0 - at → IsBlock (blocks_of r).blocks at len k
block_at r at len k sound less begin long =
    let there : IsBlock (blocks_of r).blocks (begin_of 0 (used_ends r) k - 0) (slice_index_or (used_ends r) k 0 - begin_of 0 (used_ends r) k) k =
    block_between 0 r.used (used_ends r) r.words.items k sound.ends (omega (arith, sound.within)) (omega (arith, ends_count r sound)) in
    let before : begin_of 0 (used_ends r) k - 0 ≡ at = omega (arith, begin) in
    let size : slice_index_or (used_ends r) k 0 - begin_of 0 (used_ends r) k ≡ len = omega (arith, begin, long, end_is r k less) in
    let P : ℕ → Type 0 = λ m. IsBlock (blocks_of r).blocks m (slice_index_or (used_ends r) k 0 - begin_of 0 (used_ends r) k) k in
    subst (λ m. IsBlock (blocks_of r).blocks at m k) size (subst P before there)

-- ---- a region by its parts

same_region : (r : Inside) (b : Blocks) → length r.words.items ≡ b.most → cut (lens_of r) r.words.items ≡ b.blocks → memory_of r ≡ b.memory
    → blocks_of r ≡ b
same_region r b most blocks memory =
    ap (λ n. record { most = n; blocks = cut (lens_of r) r.words.items; memory = memory_of r }) most
    ∙ (ap (λ (bs : List (List ℕ)). record { most = b.most; blocks = bs; memory = memory_of r }) blocks
    ∙ ap (λ (m : RegionMemory). record { most = b.most; blocks = b.blocks; memory = m }) memory)

-- ---- a word

pub word_is : (r : Inside) (at len i : ℕ) → IsSound r → IsLive (blocks_of r).blocks at len → i < len
    → slice_index_or r.words.items (at + i) 0 ≡ slice_index_or (words_at (blocks_of r).blocks at) i 0
word_is r at len i sound live less =
    let it : Lies (lens_of r) r.words.items at len live.0 = lies_in r at len sound live in
    sym (ap (λ k. slice_index_or (slice_index_or (blocks_of r).blocks k []) i 0) it.number
    ∙ (ap (λ ws. slice_index_or ws i 0) it.words ∙ (get_or-take len (drop at r.words.items) i 0 less ∙ get_or-drop at r.words.items i 0)))

pub set_is : (r : Inside) (at len i word : ℕ) → IsSound r → IsLive (blocks_of r).blocks at len → i < len →
    cut (lens_of r) (slice_set r.words.items (at + i) word)
    ≡ slice_set (blocks_of r).blocks (number_at (blocks_of r).blocks at) (slice_set (words_at (blocks_of r).blocks at) i word)
set_is r at len i word sound live less =
    let it : Lies (lens_of r) r.words.items at len live.0 = lies_in r at len sound live in
    cut-set (lens_of r) r.words.items at len live.0 i word (positive r sound) (few r sound) live.1 less
    ∙ ap (λ k. slice_set (blocks_of r).blocks k (slice_set (slice_index_or (blocks_of r).blocks k []) i word)) (sym it.number)

pub set_blocks : (r r' : Inside) (at len i word : ℕ) → IsSound r → IsLive (blocks_of r).blocks at len → i < len
    → r'.words.items ≡ slice_set r.words.items (at + i) word → r'.ends.items ≡ r.ends.items → r'.count ≡ r.count → memory_of r' ≡ memory_of r
    → blocks_of r' ≡ with_word (blocks_of r) at i word
set_blocks r r' at len i word sound live less words ends count memory =
    let same : lens_of r' ≡ lens_of r = ap (λ n. lengths_from 0 (take n r'.ends.items)) count ∙ ap (λ ls. lengths_from 0 (take r.count ls)) ends in
    let blocks : cut (lens_of r') r'.words.items
    ≡ slice_set (blocks_of r).blocks (number_at (blocks_of r).blocks at) (slice_set (words_at (blocks_of r).blocks at) i word) =
    ap (λ ls. cut ls r'.words.items) same ∙ (ap (cut (lens_of r)) words ∙ set_is r at len i word sound live less) in
    same_region r' (with_word (blocks_of r) at i word) (ap length words ∙ length-set r.words.items (at + i) word) blocks memory

-- ---- one block more

pub zeros-length : (n : ℕ) → length (replicate {A = ℕ} n 0) ≡ n
zeros-length n = length-replicate n 0

filled-length : (used len : ℕ) (ws zs : List ℕ) → used + len ≤ length ws → length zs ≡ len → length (take used ws ++ (zs ++ drop (used + len) ws)) ≡ length ws
filled-length used len ws zs room long =
    omega (
      arith,
      length-append (take used ws) (zs ++ drop (used + len) ws),
      length-append zs (drop (used + len) ws),
      length-take-le used ws
          (omega arith),
      length-drop (used + len) ws,
    )

filled_part : (used len : ℕ) (ws zs : List ℕ) → used + len ≤ length ws → length zs ≡ len
    → take len (drop used (take used ws ++ (zs ++ drop (used + len) ws))) ≡ zs
filled_part used len ws zs room long =
    ap (take len) (drop_at (take used ws) (zs ++ drop (used + len) ws) used (length-take-le used ws (omega arith)))
    ∙ take_at zs (drop (used + len) ws) len long

-- what stands inside a region with a block of zeros more
pub record Grown (r r' : Inside) (len : ℕ) : Type 0 where
  pub used : r'.used ≡ r.used + len
  pub count : r'.count ≡ r.count + 1
  pub words : r'.words.items ≡ take r.used r.words.items ++ (replicate len 0 ++ drop (r.used + len) r.words.items)
  pub ends : r'.ends.items ≡ slice_set r.ends.items r.count (r.used + len)
  pub some : 0 < len
  pub room : r.used + len ≤ length r.words.items
  pub memory : memory_of r' ≡ memory_of r

grown-used_ends : (r r' : Inside) (len : ℕ) → IsSound r → Grown r r' len → used_ends r' ≡ used_ends r ++ (r.used + len) ∷ []
grown-used_ends r r' len sound g =
    let less : r.count < length r.ends.items = omega (arith, count_below r sound, g.room, g.some, sound.as_many) in
    ap (λ n. take n r'.ends.items) g.count
    ∙ (ap (take (r.count + 1)) g.ends ∙ take_more_set r.ends.items r.count (r.used + len) less)

grown-lens_of : (r r' : Inside) (len : ℕ) → IsSound r → Grown r r' len → lens_of r' ≡ lens_of r ++ len ∷ []
grown-lens_of r r' len sound g =
    let more : r.used + len - r.used ≡ len = omega arith in
    ap (lengths_from 0) (grown-used_ends r r' len sound g)
    ∙ (lengths_from-append 0 r.used (r.used + len) (used_ends r) sound.ends ∙ ap (λ n. lens_of r ++ n ∷ []) more)

grown-words : (r r' : Inside) (len : ℕ) → Grown r r' len → length r'.words.items ≡ length r.words.items
grown-words r r' len g = ap length g.words ∙ filled-length r.used len r.words.items (replicate len 0) g.room (zeros-length len)

pub grown_sound : (r r' : Inside) (len : ℕ) → IsSound r → Grown r r' len → IsSound r'
grown_sound r r' len sound g =
    let long : length r'.words.items ≡ length r.words.items = grown-words r r' len g in
    let ends : length r'.ends.items ≡ length r.ends.items = ap length g.ends ∙ length-set r.ends.items r.count (r.used + len) in
    let all : AreEnds 0 (used_ends r ++ (r.used + len) ∷ []) (r.used + len) =
    ends-append 0 r.used (r.used + len) (used_ends r) sound.ends (omega (arith, g.some)) in
    let P : ℕ → Type 0 = λ n. AreEnds 0 (used_ends r') n in
    record {
      within = omega (arith, g.used, g.room, long);
      as_many = ends ∙ (sound.as_many ∙ sym long);
      few = omega (arith, sound.few, long);
      counted = omega (arith, g.count, count_below r sound, g.room, g.some, sound.as_many, ends);
      ends = subst P (sym g.used) (subst (λ es. AreEnds 0 es (r.used + len)) (sym (grown-used_ends r r' len sound g)) all);
    }

pub grown_blocks : (r r' : Inside) (len : ℕ) → IsSound r → Grown r r' len → blocks_of r' ≡ with_block (blocks_of r) len
grown_blocks r r' len sound g =
    let behind : List ℕ = replicate len 0 ++ drop (r.used + len) r.words.items in
    let sum : total (lens_of r) ≡ r.used = total_is r sound in
    let before : cut (lens_of r) (take r.used r.words.items ++ behind) ≡ cut (lens_of r) r.words.items =
    ap (λ n. cut (lens_of r) (take n r.words.items ++ behind)) (sym sum) ∙ cut_same (lens_of r) r.words.items behind (few r sound) in
    let new : take len (drop (total (lens_of r)) (take r.used r.words.items ++ behind)) ≡ replicate len 0 =
    ap (λ n. take len (drop n (take r.used r.words.items ++ behind))) sum
    ∙ filled_part r.used len r.words.items (replicate len 0) g.room (zeros-length len) in
    let all : cut (lens_of r') r'.words.items ≡ cut (lens_of r) r.words.items ++ replicate len 0 ∷ [] =
    ap (λ ls. cut ls r'.words.items) (grown-lens_of r r' len sound g)
    ∙ (ap (cut (lens_of r ++ len ∷ [])) g.words
    ∙ (cut-append (lens_of r) (take r.used r.words.items ++ behind) len
    ∙ (ap (λ bs. bs ++ take len (drop (total (lens_of r)) (take r.used r.words.items ++ behind)) ∷ []) before
    ∙ ap (λ b. cut (lens_of r) r.words.items ++ b ∷ []) new))) in
    same_region r' (with_block (blocks_of r) len) (grown-words r r' len g) all g.memory
