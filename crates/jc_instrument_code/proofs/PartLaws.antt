-- Tables in parts, an attribute for each.
use Rattle.std.proofs.Common.{◌≡◌, ℕ, zero, suc, ◌+◌, ◌-◌, ◌*◌, ◌<◌, ◌≤◌, List, [], ◌∷◌, ◌++◌, length, map, take, drop, refl, sym, ◌∙◌, ap, ap₂, arith, append_assoc, length-append, length-drop}
use Rattle.std.specs.List.{flat_map, slice_range}
use Rattle.std.proofs.lemmas.List.{append-nil, drop_all, take_all, length-take-le}
use Rattle.std.proofs.lemmas.List.Concat.{flat_map-cons}
use Rattle.std.proofs.lemmas.List.Folds.{drop_split}
use Rattle.std.proofs.Math.Seq.{take-append_seam, drop-append_seam}
use Rattle.jc_bytes.proofs.AppendingLaws.{joined}
use Rattle.jc_bytes.specs.BigNumbers.{short, word}
use Rattle.jc_methods.specs.declared.body.LineAt.{LineAt}
use Rattle.jc_methods.specs.declared.body.VarAt.{VarAt}
use Rattle.jc_insn.proofs.ReadBackLaws.{short_size}
use Rattle.jc_instrument_code.specs.CodeText.{counted_text, line_text, var_text, parts_of, all_parts, attribute, attribute_text, table_attributes}

-- ---- parts

-- a bound on the number of parts that is high enough is all the same
same_parts : {X : Type 0} (n m : ℕ) (xs : List X) → length xs ≤ n → length xs ≤ m → parts_of n xs ≡ parts_of m xs
same_parts zero zero xs p q = refl
same_parts zero (suc m) [] p q = refl
same_parts zero (suc m) (x ∷ xs) p q = absurd (omega (arith, p))
same_parts (suc n) zero [] p q = refl
same_parts (suc n) zero (x ∷ xs) p q = absurd (omega (arith, q))
same_parts (suc n) (suc m) [] p q = refl
same_parts {X} (suc n) (suc m) (x ∷ xs) p q =
    let size = length-drop 65535 (x ∷ xs) in
    ap (λ (l : List (List X)). take 65535 (x ∷ xs) ∷ l) (same_parts n m (drop 65535 (x ∷ xs)) (omega (arith, size, p)) (omega (arith, size, q)))

first_part : {X : Type 0} (xs : List X) → 0 < length xs → all_parts xs ≡ take 65535 xs ∷ all_parts (drop 65535 xs)
first_part [] some = absurd (omega (arith, some))
first_part {X} (x ∷ xs) some =
    let rest = drop 65535 (x ∷ xs) in
    let size = length-drop 65535 (x ∷ xs) in
    ap (λ (l : List (List X)). take 65535 (x ∷ xs) ∷ l) (same_parts (length xs) (length rest) rest (omega (arith, size)) (omega arith))

-- a part that is full, or the last one
part_before : {X : Type 0} (part rest : List X) → 0 < length part → length part ≤ 65535 → (0 < length rest → length part ≡ 65535)
    → all_parts (part ++ rest) ≡ part ∷ all_parts rest
part_before {X} part [] some few full =
    ap (λ (l : List X). all_parts l) (append-nil part) ∙ first_part part some
    ∙ ap₂ (λ (a b : List X). a ∷ all_parts b) (take_all 65535 part few) (drop_all 65535 part few)
part_before {X} part (r ∷ rest) some few full =
    let is : 65535 ≡ length part = sym (full (omega arith)) in
    let both = length-append part (r ∷ rest) in
    first_part (part ++ r ∷ rest) (omega (arith, both))
    ∙ ap₂ (λ (a b : List X). a ∷ all_parts b)
    (ap (λ (n : ℕ). take n (part ++ r ∷ rest)) is ∙ take-append_seam part (r ∷ rest))
    (ap (λ (n : ℕ). drop n (part ++ r ∷ rest)) is ∙ drop-append_seam part (r ∷ rest))

range_size : {X : Type 0} (xs : List X) (from end : ℕ) → from ≤ end → end ≤ length xs → length (slice_range xs from end) ≡ end - from
range_size xs from end le within =
    let size = length-drop from xs in length-take-le (end - from) (drop from xs) (omega (arith, size, le, within))

-- the part from one item up to another one, and what is left behind it
next_part : {X : Type 0} (xs : List X) (from end : ℕ) → from < end → end ≤ length xs → end ≤ from + 65535
    → (end < length xs → end ≡ from + 65535) → all_parts (drop from xs) ≡ slice_range xs from end ∷ all_parts (drop end xs)
next_part {X} xs from end some within few full =
    let size = range_size xs from end (omega (arith, some)) within in
    let left = length-drop end xs in
    ap (λ (l : List X). all_parts l) (drop_split xs from end (omega (arith, some)))
    ∙ part_before (slice_range xs from end) (drop end xs) (omega (arith, size, some)) (omega (arith, size, few))
    (λ more. let is = full (omega (arith, left, more)) in omega (arith, size, is))

-- ---- their number

parts_bound : {X : Type 0} (n : ℕ) (xs : List X) → length xs ≤ n
    → (length xs ≤ 65535 * length (parts_of n xs)) × (65535 * length (parts_of n xs) < length xs + 65535)
parts_bound zero [] le = (omega arith, omega arith)
parts_bound zero (x ∷ xs) le = absurd (omega (arith, le))
parts_bound (suc n) [] le = (omega arith, omega arith)
parts_bound (suc n) (x ∷ xs) le =
    let size = length-drop 65535 (x ∷ xs) in
    let more = parts_bound n (drop 65535 (x ∷ xs)) (omega (arith, size, le)) in
    let low = more.0 in
    let high = more.1 in
    (omega (arith, size, low), omega (arith, size, high, low))

-- the number of parts, by what bounds it
pub parts_count : {X : Type 0} (xs : List X) (count : ℕ) → length xs ≤ 65535 * count → 65535 * count < length xs + 65535
    → length (all_parts xs) ≡ count
parts_count xs count enough needed =
    let bound = parts_bound (length xs) xs (omega arith) in
    let low = bound.0 in
    let high = bound.1 in
    omega (arith, enough, needed, low, high)

-- ---- texts

counted_size : {X : Type 0} (text : X → List ℕ) (k : ℕ) → ((x : X) → length (text x) ≡ k) → (xs : List X)
    → length (counted_text text xs) ≡ 2 + k * length xs
counted_size text k each xs =
    let head = short_size (length xs) in
    let both = length-append (short (length xs)) (flat_map text xs) in
    let rest = flat xs in
    omega (arith, head, both, rest)
  where
    flat : (ys : List _) → length (flat_map text ys) ≡ k * length ys
    flat [] = omega arith
    flat (y ∷ ys) =
        let split = ap (λ (l : List ℕ). length l) (flat_map-cons text y ys) in
        let both = length-append (text y) (flat_map text ys) in
        let one = each y in
        let rest = flat ys in
        let product : k * suc (length ys) ≡ k + k * length ys = omega arith in
        omega (arith, split, both, one, rest, product)

line_size : (offset : ℕ → ℕ) (l : LineAt) → length (line_text offset l) ≡ 4
line_size offset l =
    let both = length-append (short (offset l.at)) (short l.line) in
    let a = short_size (offset l.at) in
    let b = short_size l.line in
    omega (arith, both, a, b)

var_size : (offset : ℕ → ℕ) (x : VarAt) → length (var_text offset x) ≡ 10
var_size offset x =
    let size = offset x.end - offset x.start in
    let all = length-append (short (offset x.start)) (short size ++ (short x.name ++ (short x.desc ++ short x.slot))) in
    let later = length-append (short size) (short x.name ++ (short x.desc ++ short x.slot)) in
    let three = length-append (short x.name) (short x.desc ++ short x.slot) in
    let two = length-append (short x.desc) (short x.slot) in
    let a = short_size (offset x.start) in
    let b = short_size size in
    let c = short_size x.name in
    let d = short_size x.desc in
    let e = short_size x.slot in
    omega (arith, all, later, three, two, a, b, c, d, e)

-- a header and a body are the text of an attribute, where the header tells the length of the body
pub text_of_attribute : (name size : ℕ) (body old mid new : List ℕ) → mid ≡ old ++ (short name ++ word size) → new ≡ mid ++ body
    → length body ≡ size → new ≡ old ++ attribute_text (attribute name body)
text_of_attribute name size body old mid new head rest is =
    joined old mid new (short name ++ word size) body head rest
    ∙ ap (λ (l : List ℕ). old ++ l) (append_assoc (short name) (word size) body)
    ∙ ap (λ (n : ℕ). old ++ (short name ++ (word n ++ body))) (sym is)

pub line_part : (offset : ℕ → ℕ) (name size : ℕ) (lines : List LineAt) (old mid new : List ℕ) → mid ≡ old ++ (short name ++ word size)
    → new ≡ mid ++ counted_text (line_text offset) lines → size ≡ 2 + 4 * length lines
    → new ≡ old ++ attribute_text (attribute name (counted_text (line_text offset) lines))
line_part offset name size lines old mid new head rest is =
    text_of_attribute name size (counted_text (line_text offset) lines) old mid new head rest
    (counted_size (line_text offset) 4 (line_size offset) lines ∙ sym is)

pub var_part : (offset : ℕ → ℕ) (name size : ℕ) (vars : List VarAt) (old mid new : List ℕ) → mid ≡ old ++ (short name ++ word size)
    → new ≡ mid ++ counted_text (var_text offset) vars → size ≡ 2 + 10 * length vars
    → new ≡ old ++ attribute_text (attribute name (counted_text (var_text offset) vars))
var_part offset name size vars old mid new head rest is =
    text_of_attribute name size (counted_text (var_text offset) vars) old mid new head rest
    (counted_size (var_text offset) 10 (var_size offset) vars ∙ sym is)

-- ---- in a loop

-- the part that was put, and the entries that are left, complete the text of all entries
pub parts_more : {X : Type 0} (name : ℕ) (text : X → List ℕ) (xs : List X) (from end : ℕ) (now next whole : List ℕ)
    → from < end → end ≤ length xs → end ≤ from + 65535 → (end < length xs → end ≡ from + 65535)
    → now ++ flat_map attribute_text (table_attributes name text (drop from xs)) ≡ whole
    → next ≡ now ++ attribute_text (attribute name (counted_text text (slice_range xs from end)))
    → next ++ flat_map attribute_text (table_attributes name text (drop end xs)) ≡ whole
parts_more {X} name text xs from end now next whole some within few full before is =
    let part = slice_range xs from end in
    let left = table_attributes name text (drop end xs) in
    let here : flat_map attribute_text (table_attributes name text (drop from xs)) ≡ attribute_text (attribute name (counted_text text part)) ++ flat_map attribute_text left =
    ap (λ (l : List (List X)). flat_map attribute_text (map (λ items. attribute name (counted_text text items)) l)) (next_part xs from end some within few full)
    ∙ flat_map-cons attribute_text (attribute name (counted_text text part)) left in
    ap (λ (l : List ℕ). l ++ flat_map attribute_text left) is
    ∙ append_assoc now (attribute_text (attribute name (counted_text text part))) (flat_map attribute_text left)
    ∙ ap (λ (l : List ℕ). now ++ l) (sym here) ∙ before

pub parts_done : {X : Type 0} (name : ℕ) (text : X → List ℕ) (xs : List X) (from : ℕ) (now whole : List ℕ) → length xs ≤ from
    → now ++ flat_map attribute_text (table_attributes name text (drop from xs)) ≡ whole → now ≡ whole
parts_done {X} name text xs from now whole done before =
    sym (append-nil now) ∙ ap (λ (l : List X). now ++ flat_map attribute_text (table_attributes name text l)) (sym (drop_all from xs done)) ∙ before
