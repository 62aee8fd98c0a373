-- Paths among the words: their parts, and that they differ.
use Rattle.std.proofs.Common.{◌≡◌, ℕ, zero, suc, ◌+◌, ◌<◌, ◌≤◌, Bool, true, false, not, ◌&&◌, ◌||◌, cond, List, [], ◌∷◌, ◌++◌, length, take, drop, get_or, map, Some, None, Bor, position, nat_eq, refl, sym, ◌∙◌, ap, ap₂, arith}
use Rattle.std.specs.List.{filter, list_all, list_any, position_or_len, AllByRecursion, IsDistinct}
use Rattle.std.specs.Str.{bytes_eq}
use Rattle.std.proofs.lemmas.Bool.{and_right, or_right, and_parts, not-true}
use Rattle.std.proofs.lemmas.List.Quantifiers.{position-Some}
use Rattle.std.proofs.lemmas.List.Sums.{fails_before_first}
use Rattle.std.proofs.lemmas.List.{map-append, append-nil, take_all, take_more}
use Rattle.jc_bytes.proofs.ListLaws.{map_parts, map_take_more}
use Rattle.jc_bytes.proofs.TextEqualLaws.{turned}
use Rattle.jc_command_words.specs.Words.{Word}
use Rattle.jc_command_words.specs.Paths.{with_first, components, is_component, are_distinct}
use Rattle.jc_command_words.proofs.BoolLaws.{both_true, either-false}

-- ---- parts of a path

no_slash : (b : ℕ) (bytes : Word) → nat_eq b 47 ≡ false → components (b ∷ bytes) ≡ with_first b (components bytes)
no_slash b bytes other = rw other refl

-- a part in front of a slash
part_in_front : (bytes : Word) (i : ℕ) → i < length bytes → nat_eq (get_or bytes i 0) 47 ≡ true
    → ((k : ℕ) → k < i → nat_eq (get_or bytes k 0) 47 ≡ false) → components bytes ≡ take i bytes ∷ components (drop (i + 1) bytes)
part_in_front [] i within slash before = absurd (omega (arith, within))
part_in_front (b ∷ bytes) zero within slash before = rw slash refl
part_in_front (b ∷ bytes) (suc i) within slash before =
    let one : suc i + 1 ≡ suc (i + 1) = omega arith in
    rw one (no_slash b bytes (before 0 (omega arith)) ∙ ap (with_first b) (part_in_front bytes i (omega (arith, within)) slash (λ k below. before (suc k) (omega (arith, below)))))

-- no slash at all
one_part : (bytes : Word) → ((k : ℕ) → k < length bytes → nat_eq (get_or bytes k 0) 47 ≡ false) → components bytes ≡ bytes ∷ []
one_part [] never = refl
one_part (b ∷ bytes) never = no_slash b bytes (never 0 (omega arith)) ∙ ap (with_first b) (one_part bytes (λ k below. never (suc k) (omega (arith, below))))

pub parts_on : (whole : Bool) (bytes front rest : Word) (i : ℕ) → whole ≡ list_all is_component (components bytes)
    → Some i ≡ position (λ b. nat_eq b 47) bytes → front ≡ take i bytes → rest ≡ drop (i + 1) bytes → is_component front ≡ true
    → whole ≡ list_all is_component (components rest)
parts_on whole bytes front rest i so_far found front_is rest_is named =
    let first = position-Some (λ b. nat_eq b 47) bytes i 0 (sym found) in
    so_far ∙ ap (list_all is_component) (part_in_front bytes i first.0 first.1 first.2)
    ∙ ap (λ (t : Bool). t && list_all is_component (components (drop (i + 1) bytes))) (ap is_component (sym front_is) ∙ named)
    ∙ ap (λ (l : Word). list_all is_component (components l)) (sym rest_is)

pub parts_stop : (whole : Bool) (bytes front : Word) (i : ℕ) → whole ≡ list_all is_component (components bytes)
    → Some i ≡ position (λ b. nat_eq b 47) bytes → front ≡ take i bytes → is_component front ≡ false → false ≡ whole
parts_stop whole bytes front i so_far found front_is unnamed =
    let first = position-Some (λ b. nat_eq b 47) bytes i 0 (sym found) in
    sym (so_far ∙ ap (list_all is_component) (part_in_front bytes i first.0 first.1 first.2)
    ∙ ap (λ (t : Bool). t && list_all is_component (components (drop (i + 1) bytes))) (ap is_component (sym front_is) ∙ unnamed))

and_true : (b : Bool) → (b && true) ≡ b
and_true true = refl
and_true false = refl

pub parts_end : (whole : Bool) (bytes : Word) → whole ≡ list_all is_component (components bytes) → None ≡ position (λ b. nat_eq b 47) bytes → is_component bytes ≡ whole
parts_end whole bytes so_far none =
    let long : length bytes ≤ position_or_len (λ b. nat_eq b 47) bytes = grind (arith) in
    sym (so_far ∙ ap (list_all is_component) (one_part bytes (λ k below. fails_before_first (λ b. nat_eq b 47) bytes k 0 (omega (arith, below, long)))) ∙ and_true (is_component bytes))

-- ---- words that differ

not_or : (a b : Bool) → not (a || b) ≡ (not a && not b)
not_or true b = refl
not_or false b = refl

any_more : (p : Word → Bool) (xs : List Word) (x : Word) → list_any p (xs ++ x ∷ []) ≡ (list_any p xs || p x)
any_more p [] x = or_false (p x)
  where
    or_false : (b : Bool) → (b || false) ≡ (false || b)
    or_false true = refl
    or_false false = refl
any_more p (y ∷ xs) x = ap (λ (t : Bool). p y || t) (any_more p xs x) ∙ or_assoc (p y) (list_any p xs) (p x)
  where
    or_assoc : (a b c : Bool) → (a || (b || c)) ≡ ((a || b) || c)
    or_assoc true b c = refl
    or_assoc false b c = refl

shuffled : (a b c d : Bool) → ((a && b) && (c && d)) ≡ ((a && c) && (b && d))
shuffled true b true d = refl
shuffled true true false d = refl
shuffled true false false d = refl
shuffled false b c d = refl

pub distinct_more : (xs : List Word) (x : Word) → are_distinct (xs ++ x ∷ []) ≡ (are_distinct xs && not (list_any (bytes_eq x) xs))
distinct_more [] x = refl
distinct_more (y ∷ xs) x =
    ap₂ (λ (s t : Bool). not s && t) (any_more (bytes_eq y) xs x) (distinct_more xs x)
    ∙ ap (λ (s : Bool). s && (are_distinct xs && not (list_any (bytes_eq x) xs))) (not_or (list_any (bytes_eq y) xs) (bytes_eq y x))
    ∙ shuffled (not (list_any (bytes_eq y) xs)) (not (bytes_eq y x)) (are_distinct xs) (not (list_any (bytes_eq x) xs))
    ∙ ap (λ (s : Bool). (not (list_any (bytes_eq y) xs) && are_distinct xs) && s)
    (ap (λ (s : Bool). not s && not (list_any (bytes_eq x) xs)) (turned y x) ∙ sym (not_or (bytes_eq x y) (list_any (bytes_eq x) xs)))

-- the words so far differ, and one more is none of them
pub distinct_on : (xs : List Word) (x : Word) → are_distinct xs ≡ true → list_any (bytes_eq x) xs ≡ false → are_distinct (xs ++ x ∷ []) ≡ true
distinct_on xs x so_far other = distinct_more xs x ∙ rw (so_far, other) refl

-- a word that stands twice
pub not_distinct : (xs behind : List Word) (x : Word) → list_any (bytes_eq x) xs ≡ true → are_distinct (xs ++ x ∷ behind) ≡ false
not_distinct [] behind x found = absurd cc
not_distinct (y ∷ xs) behind x found = by (bytes_eq x y) refl found (not_distinct xs behind x)
  where
    any_found : (zs : List Word) → bytes_eq x y ≡ true → list_any (bytes_eq y) (zs ++ x ∷ behind) ≡ true
    any_found [] same = rw (turned y x, same) refl
    any_found (z ∷ zs) same = rw (any_found zs same) (or_right (bytes_eq y z) true refl)

    by : (b : Bool) → bytes_eq x y ≡ b → (b || list_any (bytes_eq x) xs) ≡ true
        → (list_any (bytes_eq x) xs ≡ true → are_distinct (xs ++ x ∷ behind) ≡ false) → are_distinct (y ∷ (xs ++ x ∷ behind)) ≡ false
    by true same h rest = rw (any_found xs same) refl
    by false other h rest = rw (rest h) (and_right (not (list_any (bytes_eq y) (xs ++ x ∷ behind))) false refl)

-- ---- a list up to a place

filter_more : {X : Type 0} (p : X → Bool) (xs : List X) (x : X) → filter p (xs ++ x ∷ []) ≡ filter p xs ++ filter p (x ∷ [])
filter_more p [] x = refl
filter_more {X} p (y ∷ xs) x = by (p y) (filter_more p xs x)
  where
    by : (b : Bool) → filter p (xs ++ x ∷ []) ≡ filter p xs ++ filter p (x ∷ []) → cond b (y ∷ filter p (xs ++ x ∷ [])) (filter p (xs ++ x ∷ []))
        ≡ cond b (y ∷ filter p xs) (filter p xs) ++ filter p (x ∷ [])
    by true rest = ap (λ (l : List X). y ∷ l) rest
    by false rest = rest

-- a filter that drops one more item, or keeps it
pub map_filter_drop : {X Y Z : Type 0} (f : Y → Z) (p : Y → Bool) (g : X → Y) (xs : List X) (i : ℕ) (x : X) → i < length xs → x ≡ get_or xs i x → p (g x) ≡ false
    → map f (filter p (map g (take (i + 1) xs))) ≡ map f (filter p (map g (take i xs)))
map_filter_drop {X} {Y} {Z} f p g xs i x within is out =
    ap (λ (l : List Y). map f (filter p l)) (map_take_more g xs i x within is) ∙ ap (map f) (filter_more p (map g (take i xs)) (g x))
    ∙ ap (λ (b : Bool). map f (filter p (map g (take i xs)) ++ cond b (g x ∷ []) [])) out ∙ ap (map f) (append-nil (filter p (map g (take i xs))))

pub map_filter_keep : {X Y Z : Type 0} (f : Y → Z) (p : Y → Bool) (g : X → Y) (xs : List X) (i : ℕ) (x : X) → i < length xs → x ≡ get_or xs i x → p (g x) ≡ true
    → map f (filter p (map g (take (i + 1) xs))) ≡ map f (filter p (map g (take i xs))) ++ f (g x) ∷ []
map_filter_keep {X} {Y} {Z} f p g xs i x within is kept =
    ap (λ (l : List Y). map f (filter p l)) (map_take_more g xs i x within is) ∙ ap (map f) (filter_more p (map g (take i xs)) (g x))
    ∙ ap (λ (b : Bool). map f (filter p (map g (take i xs)) ++ cond b (g x ∷ []) [])) kept ∙ map-append f (filter p (map g (take i xs))) (g x ∷ [])

-- ---- texts that were seen

abbrev pub texts : List (Bor Word) → List Word
texts bs = map (λ (b : Bor Word). b.now) bs

any_text : (w : Word) (seen : List (Bor Word)) → list_any (λ (k : Bor Word). bytes_eq w k.now) seen ≡ list_any (bytes_eq w) (texts seen)
any_text w [] = refl
any_text w (k ∷ seen) = ap (λ (t : Bool). bytes_eq w k.now || t) (any_text w seen)

pub seen_twice : (bs : List (Bor Word)) (i : ℕ) (b : Bor Word) (seen : List (Bor Word)) → i < length bs → b ≡ get_or bs i b → seen ≡ take i bs
    → list_any (λ (k : Bor Word). bytes_eq b.now k.now) seen ≡ true → false ≡ are_distinct (texts bs)
seen_twice bs i b seen within is kept found =
    let twice : list_any (bytes_eq b.now) (texts (take i bs)) ≡ true = ap (λ l. list_any (bytes_eq b.now) (texts l)) (sym kept) ∙ sym (any_text b.now seen) ∙ found in
    sym (ap are_distinct (map_parts (λ (k : Bor Word). k.now) bs i b within is) ∙ not_distinct (texts (take i bs)) (texts (drop (i + 1) bs)) b.now twice)

pub record Seen (bs : List (Bor Word)) (i : ℕ) (seen : List (Bor Word)) : Type 0 where
  pub kept : seen ≡ take i bs
  pub distinct : are_distinct (texts (take i bs)) ≡ true

pub seen_once : (bs : List (Bor Word)) (i : ℕ) (b : Bor Word) (seen more : List (Bor Word)) → i < length bs → b ≡ get_or bs i b → Seen bs i seen
    → list_any (λ (k : Bor Word). bytes_eq b.now k.now) seen ≡ false → more ≡ seen ++ b ∷ [] → Seen bs (i + 1) more
seen_once bs i b seen more within is so_far new grows =
    let other : list_any (bytes_eq b.now) (texts (take i bs)) ≡ false = ap (λ l. list_any (bytes_eq b.now) (texts l)) (sym so_far.kept) ∙ sym (any_text b.now seen) ∙ new in
    record {
      kept = grows ∙ ap₂ (λ (l : List (Bor Word)) (x : Bor Word). l ++ x ∷ []) so_far.kept is ∙ sym (take_more bs i b within);
      distinct = ap are_distinct (map_take_more (λ (k : Bor Word). k.now) bs i b within is) ∙ distinct_on (texts (take i bs)) b.now so_far.distinct other;
    }

pub seen_all : (bs : List (Bor Word)) (i : ℕ) → length bs ≤ i → are_distinct (texts (take i bs)) ≡ true → true ≡ are_distinct (texts bs)
seen_all bs i all distinct = sym (ap (λ l. are_distinct (texts l)) (sym (take_all i bs all)) ∙ distinct)

-- ---- the test that words differ decides it

none_alike : (n : Word) (ns : List Word) → list_any (bytes_eq n) ns ≡ false → AllByRecursion (λ y. bytes_eq n y ≡ false) ns
none_alike n [] h = tt
none_alike n (m ∷ ms) h = let p = either-false (bytes_eq n m) (list_any (bytes_eq n) ms) h in (p.0, none_alike n ms p.1)

alike_none : (n : Word) (ns : List Word) → AllByRecursion (λ y. bytes_eq n y ≡ false) ns → list_any (bytes_eq n) ns ≡ false
alike_none n [] h = refl
alike_none n (m ∷ ms) h = rw h.0 (alike_none n ms h.1)

pub distinct_holds : (ns : List Word) → are_distinct ns ≡ true → IsDistinct bytes_eq ns
unfolding IsDistinct
distinct_holds [] h = tt
distinct_holds (n ∷ ns) h =
    let p = and_parts (not (list_any (bytes_eq n) ns)) (are_distinct ns) h in
    (none_alike n ns (not-true _ p.0), distinct_holds ns p.1)

pub distinct_passes : (ns : List Word) → IsDistinct bytes_eq ns → are_distinct ns ≡ true
unfolding IsDistinct
distinct_passes [] h = refl
distinct_passes (n ∷ ns) h = both_true _ _ (ap not (alike_none n ns h.0)) (distinct_passes ns h.1)
