-- Blocks as parts of one list of words.
use Rattle.std.proofs.Common.{◌≡◌, ℕ, zero, suc, ◌+◌, ◌-◌, ◌<◌, ◌≤◌, List, [], ◌∷◌, ◌++◌, length, take, drop, refl, arith, slice_get, slice_set, slice_index_or, IsSomeAnd, ◌∙◌, ap, sym, subst}
use Rattle.std.proofs.lemmas.List.{length-take-le, length-drop, take-append-le, take-take, take-set-le, drop-append-le, drop-drop, drop-take, drop-set-lt, drop-set-add}
use Rattle.std.proofs.Math.Seq.{take-set-lt}
use Rattle.jc_region.specs.Blocks.{words_in, IsBlock, number_at}
use Rattle.jc_region.specs.Places.{lengths_from, cut, AreEnds}

-- the sum of lengths
abbrev pub total : List ℕ → ℕ
total [] = 0
total (n ∷ ns) = n + total ns

abbrev pub ArePositive : List ℕ → Type 0
ArePositive [] = Unit {0}
ArePositive (n ∷ ns) = (0 < n) × ArePositive ns

pub words_in-cut : (ns ws : List ℕ) → total ns ≤ length ws → words_in (cut ns ws) ≡ total ns
words_in-cut [] ws few = refl
words_in-cut (n ∷ ns) ws few =
    let first : length (take n ws) ≡ n = length-take-le n ws (omega arith) in
    let rest : words_in (cut ns (drop n ws)) ≡ total ns = words_in-cut ns (drop n ws) (omega (arith, length-drop n ws)) in
    omega (arith, first, rest)

pub length-cut : (ns ws : List ℕ) → length (cut ns ws) ≡ length ns
length-cut [] ws = refl
length-cut (n ∷ ns) ws = ap suc (length-cut ns (drop n ws))

-- ---- ends

pub lengths_positive : (at last : ℕ) (ends : List ℕ) → AreEnds at ends last → ArePositive (lengths_from at ends)
lengths_positive at last [] all = tt
lengths_positive at last (end ∷ ends) all = let some : 0 < end - at = omega (arith, all.0) in (some, lengths_positive end last ends all.1)

pub total-lengths_from : (at last : ℕ) (ends : List ℕ) → AreEnds at ends last → at + total (lengths_from at ends) ≡ last
total-lengths_from at last [] all = omega (arith, all)
total-lengths_from at last (end ∷ ends) all = omega (arith, all.0, total-lengths_from end last ends all.1)

pub length-lengths_from : (at : ℕ) (ends : List ℕ) → length (lengths_from at ends) ≡ length ends
length-lengths_from at [] = refl
length-lengths_from at (end ∷ ends) = ap suc (length-lengths_from end ends)

-- no block is empty, so there are at most as many as words
pub few_ends : (at last : ℕ) (ends : List ℕ) → AreEnds at ends last → at + length ends ≤ last
few_ends at last [] all = omega (arith, all)
few_ends at last (end ∷ ends) all = omega (arith, all.0, few_ends end last ends all.1)

pub ends-append : (at last next : ℕ) (ends : List ℕ) → AreEnds at ends last → last < next → AreEnds at (ends ++ next ∷ []) next
ends-append at last next [] all less = let first : at < next = omega (arith, all) in (first, refl)
ends-append at last next (end ∷ ends) all less = (all.0, ends-append end last next ends all.1 less)

pub lengths_from-append : (at last next : ℕ) (ends : List ℕ) → AreEnds at ends last
    → lengths_from at (ends ++ next ∷ []) ≡ lengths_from at ends ++ (next - last) ∷ []
lengths_from-append at last next [] all = ap (λ m. (next - m) ∷ []) all
lengths_from-append at last next (end ∷ ends) all = ap (λ ls. (end - at) ∷ ls) (lengths_from-append end last next ends all.1)

-- where the block with a number begins, if the first one begins at a place
abbrev pub begin_of : ℕ → List ℕ → ℕ → ℕ
begin_of at ends zero = at
begin_of at ends (suc k) = slice_index_or ends k 0

begin_later : (end at : ℕ) (ends : List ℕ) (k : ℕ) → begin_of at (end ∷ ends) (suc k) ≡ begin_of end ends k
begin_later end at ends zero = refl
begin_later end at ends (suc k) = refl

pub begins_before : (at last : ℕ) (ends : List ℕ) (k : ℕ) → AreEnds at ends last → k < length ends
    → (at ≤ begin_of at ends k) × (begin_of at ends k < slice_index_or ends k 0) × (slice_index_or ends k 0 ≤ last)
begins_before at last [] k all less = absurd (omega arith)
begins_before at last (end ∷ ends) zero all less =
    let most : end ≤ last = omega (arith, few_ends end last ends all.1) in
    let here : at ≤ at = omega arith in
    (here, all.0, most)
begins_before at last (end ∷ ends) (suc k) all less =
    let rest : (end ≤ begin_of end ends k) × (begin_of end ends k < slice_index_or ends k 0) × (slice_index_or ends k 0 ≤ last) =
    begins_before end last ends k all.1 (omega arith) in
    let same : begin_of at (end ∷ ends) (suc k) ≡ begin_of end ends k = begin_later end at ends k in
    let first : at ≤ begin_of at (end ∷ ends) (suc k) = omega (arith, all.0, rest.0, same) in
    let second : begin_of at (end ∷ ends) (suc k) < slice_index_or ends k 0 = omega (arith, rest.1, same) in
    (first, second, rest.2)

pub block_between : (at last : ℕ) (ends ws : List ℕ) (k : ℕ) → AreEnds at ends last → last ≤ at + length ws → k < length ends
    → IsBlock (cut (lengths_from at ends) ws) (begin_of at ends k - at) (slice_index_or ends k 0 - begin_of at ends k) k
block_between at last [] ws k all room less = absurd (omega arith)
block_between at last (end ∷ ends) ws zero all room less =
    let most : end ≤ last = omega (arith, few_ends end last ends all.1) in
    record { before = omega arith; there = length-take-le (end - at) ws (omega (arith, all.0)) }
block_between at last (end ∷ ends) ws (suc k) all room less =
    let most : end ≤ last = omega (arith, few_ends end last ends all.1) in
    let first : length (take (end - at) ws) ≡ end - at = length-take-le (end - at) ws (omega (arith, all.0)) in
    let inner : IsBlock (cut (lengths_from end ends) (drop (end - at) ws)) (begin_of end ends k - end) (slice_index_or ends k 0 - begin_of end ends k) k =
    block_between end last ends (drop (end - at) ws) k all.1 (omega (arith, length-drop (end - at) ws, all.0)) (omega arith) in
    let later : end ≤ begin_of end ends k = (begins_before end last ends k all.1 (omega arith)).0 in
    let same : begin_of at (end ∷ ends) (suc k) ≡ begin_of end ends k = begin_later end at ends k in
    record {
      before = omega (arith, first, inner.before, later, same, all.0);
      there = subst (λ m. IsSomeAnd (slice_get (cut (lengths_from end ends) (drop (end - at) ws)) k)
          (λ block. length block ≡ slice_index_or ends k 0 - m)) (sym same) inner.there;
    }

-- ---- one block more

pub cut-append : (ns ws : List ℕ) (n : ℕ) → cut (ns ++ n ∷ []) ws ≡ cut ns ws ++ take n (drop (total ns) ws) ∷ []
cut-append [] ws n = refl
cut-append (m ∷ ns) ws n =
    ap (λ bs. take m ws ∷ bs) (cut-append ns (drop m ws) n ∙ ap (λ rest. cut ns (drop m ws) ++ take n rest ∷ []) (drop-drop (total ns) m ws))

-- the words behind the blocks don't matter
pub cut_same : (ns ws us : List ℕ) → total ns ≤ length ws → cut ns (take (total ns) ws ++ us) ≡ cut ns ws
cut_same [] ws us few = refl
cut_same (n ∷ ns) ws us few =
    let long : n ≤ length (take (n + total ns) ws) = omega (arith, length-take-le (n + total ns) ws few) in
    let first : take n (take (n + total ns) ws ++ us) ≡ take n ws =
    take-append-le n (take (n + total ns) ws) us long ∙ take-take n (n + total ns) ws (omega arith) in
    let rest : drop n (take (n + total ns) ws ++ us) ≡ take (total ns) (drop n ws) ++ us =
    drop-append-le n (take (n + total ns) ws) us long ∙ ap (λ ls. ls ++ us) (drop-take n (total ns) ws) in
    let others : cut ns (take (total ns) (drop n ws) ++ us) ≡ cut ns (drop n ws) = cut_same ns (drop n ws) us (omega (arith, length-drop n ws)) in
    rw (first, rest, others) refl

-- ---- a block

pub record Lies (ns ws : List ℕ) (at len k : ℕ) : Type 0 where
  pub number : number_at (cut ns ws) at ≡ k
  pub words : slice_index_or (cut ns ws) k [] ≡ take len (drop at ws)
  pub within : at + len ≤ total ns

lies_first : (n : ℕ) (ns ws : List ℕ) (at len : ℕ) → ArePositive (n ∷ ns) → total (n ∷ ns) ≤ length ws → 0 ≡ at → length (take n ws) ≡ len
    → Lies (n ∷ ns) ws at len 0
lies_first n ns ws zero len all few here long =
    let first : length (take n ws) ≡ n = length-take-le n ws (omega arith) in
    let same : n ≡ len = sym first ∙ long in
    record { number = refl; words = ap (λ m. take m ws) same; within = omega arith }
lies_first n ns ws (suc at) len all few here long = absurd (omega arith)

lies_later : (n : ℕ) (ns ws : List ℕ) (at len k : ℕ) → ArePositive (n ∷ ns) → total (n ∷ ns) ≤ length ws → n ≤ at
    → Lies ns (drop n ws) (at - n) len k → Lies (n ∷ ns) ws at len (suc k)
lies_later n ns ws zero len k all few behind rest = absurd (omega (arith, all.0))
lies_later n ns ws (suc at) len k all few behind rest =
    let first : length (take n ws) ≡ n = length-take-le n ws (omega arith) in
    let some : 0 < n = all.0 in
    let onward : n + (suc at - n) ≡ suc at = omega arith in
    record {
      number = ap (λ m. suc (number_at (cut ns (drop n ws)) (suc at - m))) first ∙ ap suc rest.number;
      words = rest.words ∙ ap (take len) (drop-drop (suc at - n) n ws ∙ ap (λ m. drop m ws) onward);
      within = omega (arith, rest.within);
    }

pub lies : (ns ws : List ℕ) (at len k : ℕ) → ArePositive ns → total ns ≤ length ws → IsBlock (cut ns ws) at len k → Lies ns ws at len k
lies [] ws at len k all few block = absurd block.there
lies (n ∷ ns) ws at len zero all few block = lies_first n ns ws at len all few block.before block.there
lies (n ∷ ns) ws at len (suc k) all few block =
    let first : length (take n ws) ≡ n = length-take-le n ws (omega arith) in
    let before : length (take n ws) + words_in (take k (cut ns (drop n ws))) ≡ at = block.before in
    lies_later n ns ws at len k all few (omega arith)
    (lies ns (drop n ws) (at - n) len k all.1 (omega (arith, length-drop n ws)) (record { before = omega arith; there = block.there }))

pub cut-set : (ns ws : List ℕ) (at len k i word : ℕ) → ArePositive ns → total ns ≤ length ws → IsBlock (cut ns ws) at len k → i < len →
    cut ns (slice_set ws (at + i) word) ≡ slice_set (cut ns ws) k (slice_set (slice_index_or (cut ns ws) k []) i word)
cut-set [] ws at len k i word all few block less = absurd block.there
cut-set (n ∷ ns) ws at len zero i word all few block less =
    let first : length (take n ws) ≡ n = length-take-le n ws (omega arith) in
    let long : length (take n ws) ≡ len = block.there in
    let here : 0 ≡ at = block.before in
    let place : at + i ≡ i = omega arith in
    let within : i < n = omega arith in
    rw (place, take-set-lt n ws i word within, drop-set-lt n ws i word within) refl
cut-set (n ∷ ns) ws at len (suc k) i word all few block less =
    let first : length (take n ws) ≡ n = length-take-le n ws (omega arith) in
    let before : length (take n ws) + words_in (take k (cut ns (drop n ws))) ≡ at = block.before in
    let place : at + i ≡ n + (at - n + i) = omega arith in
    let below : take n (slice_set ws (at + i) word) ≡ take n ws = take-set-le n ws (at + i) word (omega arith) in
    let rest : drop n (slice_set ws (at + i) word) ≡ slice_set (drop n ws) (at - n + i) word = ap (λ m. drop n (slice_set ws m word)) place
    ∙ drop-set-add n ws (at - n + i) word in
    let inner : IsBlock (cut ns (drop n ws)) (at - n) len k = record { before = omega arith; there = block.there } in
    let others : cut ns (slice_set (drop n ws) (at - n + i) word)
    ≡ slice_set (cut ns (drop n ws)) k (slice_set (slice_index_or (cut ns (drop n ws)) k []) i word) =
    cut-set ns (drop n ws) (at - n) len k i word all.1 (omega (arith, length-drop n ws)) inner less in
    rw (below, rest, others) refl
