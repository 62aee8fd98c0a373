-- Lists by their places, grown by an item at the end.
use Rattle.std.proofs.Common.{◌≡◌, ℕ, zero, suc, ◌+◌, ◌<◌, List, [], ◌∷◌, ◌++◌, length, take, drop, get_or, map, refl, sym, ap, ap₂, ◌∙◌, arith, zero-add, add-one, append_assoc}
use Rattle.std.proofs.lemmas.List.{take_more, length-take-le, map-append, append-nil, same_lists}
use Rattle.jc_bytes.specs.PlainLists.{map_from, join_from, numbers_from}

-- ---- what f gives of each item

module _ {X Y : Type 0} (f : ℕ → X → Y) where
  map_from_put : (s : ℕ) (xs : List X) (x : X) → map_from f s (xs ++ x ∷ []) ≡ map_from f s xs ++ f (s + length xs) x ∷ []
  map_from_put s [] x = let e : s ≡ s + 0 = omega arith in ap (λ k. f k x ∷ []) e
  map_from_put s (y ∷ xs) x =
      let e : s + 1 + length xs ≡ s + length (y ∷ xs) = omega arith in
      ap (λ (l : List Y). f s y ∷ l) (map_from_put (s + 1) xs x ∙ ap (λ k. map_from f (s + 1) xs ++ f k x ∷ []) e)

  map_from_more : (xs : List X) (i : ℕ) (d : X) → i < length xs → map_from f 0 (take (i + 1) xs) ≡ map_from f 0 (take i xs) ++ f i (get_or xs i d) ∷ []
  map_from_more xs i d lt =
      let e : length (take i xs) ≡ i = length-take-le i xs (omega arith) in
      ap (map_from f 0) (take_more xs i d lt)
      ∙ map_from_put 0 (take i xs) (get_or xs i d)
      ∙ ap (λ k. map_from f 0 (take i xs) ++ f k (get_or xs i d) ∷ []) (zero-add (length (take i xs)) ∙ e)

  -- one more is put behind those so far
  pub puts_mapped : (xs : List X) (i : ℕ) (d : X) (front now new : List Y) → i < length xs → now ≡ front ++ map_from f 0 (take i xs)
      → new ≡ now ++ f i (get_or xs i d) ∷ [] → new ≡ front ++ map_from f 0 (take (i + 1) xs)
  puts_mapped xs i d front now new lt before put =
      put
      ∙ ap (λ (l : List Y). l ++ f i (get_or xs i d) ∷ []) before
      ∙ append_assoc front (map_from f 0 (take i xs)) (f i (get_or xs i d) ∷ [])
      ∙ ap (λ (l : List Y). front ++ l) (sym (map_from_more xs i d lt))

  -- the same where none stood in front of them
  pub maps_one : (xs : List X) (i : ℕ) (x : X) (now new : List Y) → i < length xs → x ≡ get_or xs i x → now ≡ map_from f 0 (take i xs)
      → new ≡ now ++ f i x ∷ [] → new ≡ map_from f 0 (take (i + 1) xs)
  maps_one xs i x now new lt is before put =
      put
      ∙ ap₂ (λ (l : List Y) (z : X). l ++ f i z ∷ []) before is
      ∙ sym (map_from_more xs i x lt)

module _ {X Y : Type 0} (f : ℕ → X → List Y) where
  join_from_put : (s : ℕ) (xs : List X) (x : X) → join_from f s (xs ++ x ∷ []) ≡ join_from f s xs ++ f (s + length xs) x
  join_from_put s [] x = let e : s ≡ s + 0 = omega arith in append-nil (f s x) ∙ ap (λ k. f k x) e
  join_from_put s (y ∷ xs) x =
      let e : s + 1 + length xs ≡ s + length (y ∷ xs) = omega arith in
      ap (λ (l : List Y). f s y ++ l) (join_from_put (s + 1) xs x ∙ ap (λ k. join_from f (s + 1) xs ++ f k x) e)
      ∙ sym (append_assoc (f s y) (join_from f (s + 1) xs) (f (s + length (y ∷ xs)) x))

  pub join_from_more : (xs : List X) (i : ℕ) (x : X) → i < length xs → x ≡ get_or xs i x → join_from f 0 (take (i + 1) xs) ≡ join_from f 0 (take i xs) ++ f i x
  join_from_more xs i x lt is =
      let e : length (take i xs) ≡ i = length-take-le i xs (omega arith) in
      ap (join_from f 0) (take_more xs i x lt ∙ ap (λ z. take i xs ++ z ∷ []) (sym is))
      ∙ join_from_put 0 (take i xs) x
      ∙ ap (λ k. join_from f 0 (take i xs) ++ f k x) (zero-add (length (take i xs)) ∙ e)

  -- those of one more are put behind those so far
  pub joins_one : (xs : List X) (i : ℕ) (x : X) (now new : List Y) → i < length xs → x ≡ get_or xs i x → now ≡ join_from f 0 (take i xs)
      → new ≡ now ++ f i x → new ≡ join_from f 0 (take (i + 1) xs)
  joins_one xs i x now new lt is before put =
      put ∙ ap (λ (l : List Y). l ++ f i x) before ∙ sym (join_from_more xs i x lt is)

  -- what stands before an item, at it and behind it
  join_from_at : (s : ℕ) (xs : List X) (i : ℕ) (x : X) → i < length xs → x ≡ get_or xs i x
      → join_from f s xs ≡ join_from f s (take i xs) ++ (f (s + i) x ++ join_from f (s + i + 1) (drop (suc i) xs))
  join_from_at s [] i x lt is = absurd (omega arith)
  join_from_at s (y ∷ ys) zero x lt is =
      let e : s ≡ s + 0 = omega arith in
      ap₂ (λ (k : ℕ) (z : X). f k z ++ join_from f (k + 1) ys) e (sym is)
  join_from_at s (y ∷ ys) (suc i) x lt is =
      let e : s + 1 + i ≡ s + suc i = omega arith in
      ap (λ (l : List Y). f s y ++ l)
      (join_from_at (s + 1) ys i x (omega arith) is ∙ ap (λ k. join_from f (s + 1) (take i ys) ++ (f k x ++ join_from f (k + 1) (drop (suc i) ys))) e)
      ∙ sym (append_assoc (f s y) (join_from f (s + 1) (take i ys)) (f (s + suc i) x ++ join_from f (s + suc i + 1) (drop (suc i) ys)))

  pub join_from_split : (xs : List X) (i : ℕ) (x : X) → i < length xs → x ≡ get_or xs i x
      → join_from f 0 xs ≡ join_from f 0 (take i xs) ++ (f i x ++ join_from f (i + 1) (drop (suc i) xs))
  join_from_split xs i x lt is =
      join_from_at 0 xs i x lt is
      ∙ ap (λ k. join_from f 0 (take i xs) ++ (f k x ++ join_from f (k + 1) (drop (suc i) xs))) (zero-add i)

-- ---- what f gives of each place

module _ {Y : Type 0} (f : ℕ → Y) where
  numbers_put : (s n : ℕ) → numbers_from s (suc n) ≡ numbers_from s n ++ (s + n) ∷ []
  numbers_put s zero = let e : s ≡ s + 0 = omega arith in ap (λ k. k ∷ []) e
  numbers_put s (suc n) =
      let e : s + 1 + n ≡ s + suc n = omega arith in
      ap (λ (l : List ℕ). s ∷ l) (numbers_put (s + 1) n ∙ ap (λ k. numbers_from (s + 1) n ++ k ∷ []) e)

  mapped_more : (i : ℕ) → map f (numbers_from 0 (i + 1)) ≡ map f (numbers_from 0 i) ++ f i ∷ []
  mapped_more i =
      ap (λ n. map f (numbers_from 0 n)) (add-one i)
      ∙ ap (map f) (numbers_put 0 i)
      ∙ map-append f (numbers_from 0 i) ((0 + i) ∷ [])
      ∙ ap (λ k. map f (numbers_from 0 i) ++ f k ∷ []) (zero-add i)

  -- one more is put behind those so far
  pub puts_place : (i : ℕ) (now new : List Y) → now ≡ map f (numbers_from 0 i) → new ≡ now ++ f i ∷ [] → new ≡ map f (numbers_from 0 (i + 1))
  puts_place i now new before put = put ∙ ap (λ (l : List Y). l ++ f i ∷ []) before ∙ sym (mapped_more i)

  pub length_mapped : (s n : ℕ) → length (map f (numbers_from s n)) ≡ n
  length_mapped s zero = refl
  length_mapped s (suc n) = let e = length_mapped (s + 1) n in omega (arith, e)

  get_mapped : (s n i : ℕ) (d : Y) → i < n → get_or (map f (numbers_from s n)) i d ≡ f (s + i)
  get_mapped s zero i d lt = absurd (omega arith)
  get_mapped s (suc n) zero d lt = let e : s ≡ s + 0 = omega arith in ap f e
  get_mapped s (suc n) (suc i) d lt = let e : s + 1 + i ≡ s + suc i = omega arith in get_mapped (s + 1) n i d (omega arith) ∙ ap f e

  pub mapped_at : (n i : ℕ) (d : Y) → i < n → get_or (map f (numbers_from 0 n)) i d ≡ f i
  mapped_at n i d lt = get_mapped 0 n i d lt ∙ ap f (zero-add i)

  pub same_as_mapped : (xs : List Y) (n : ℕ) → length xs ≡ n → ((i : ℕ) (d : Y) → i < n → get_or xs i d ≡ f i) → xs ≡ map f (numbers_from 0 n)
  same_as_mapped xs n size each =
      same_lists xs (map f (numbers_from 0 n)) (size ∙ sym (length_mapped 0 n))
      (λ i d lt. let l : i < n = omega (arith, size) in each i d l ∙ sym (mapped_at n i d l))
