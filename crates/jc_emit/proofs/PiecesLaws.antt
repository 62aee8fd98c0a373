-- Where the items of lists stand that are put behind one another.
use Rattle.std.proofs.Common.{◌≡◌, ℕ, zero, suc, ◌+◌, ◌<◌, List, [], ◌∷◌, ◌++◌, length, Some, refl, sym, ap, ◌∙◌, subst, ⊎_elim, arith, append_assoc, length-append}
use Rattle.std.specs.Prelude.{slice_get}
use Rattle.std.proofs.Math.Seq.{get_or-append_seam}
use Rattle.std.proofs.lemmas.Option.{slice_get-get_or}
use Rattle.std.proofs.lemmas.Bool.{cases_lt}
use Rattle.jc_bytes.specs.PlainLists.{pieces, total}

-- these items stand in the list from this place on
abbrev pub HasAt : {X : Type 0} → List X → ℕ → List X → Type 0
HasAt items q [] = Unit {0}
HasAt items q (x ∷ xs) = (slice_get items q ≡ Some x) × HasAt items (q + 1) xs

module _ {X : Type 0} where
  pub get_in_front : (xs ys : List X) (q : ℕ) (x : X) → slice_get xs q ≡ Some x → slice_get (xs ++ ys) q ≡ Some x
  get_in_front [] ys q x h = cc
  get_in_front (y ∷ xs) ys zero x h = h
  get_in_front (y ∷ xs) ys (suc q) x h = get_in_front xs ys q x h

  pub has_in_front : (xs ys : List X) (q : ℕ) (is : List X) → HasAt xs q is → HasAt (xs ++ ys) q is
  has_in_front xs ys q [] h = tt
  has_in_front xs ys q (i ∷ is) h = (get_in_front xs ys q i h.0, has_in_front xs ys (q + 1) is h.1)

  pub has_front : (items : List X) (q : ℕ) (a b : List X) → HasAt items q (a ++ b) → HasAt items q a
  has_front items q [] b h = tt
  has_front items q (i ∷ a) b h = (h.0, has_front items (q + 1) a b h.1)

  pub has_back : (items : List X) (q : ℕ) (a b : List X) → HasAt items q (a ++ b) → HasAt items (q + length a) b
  has_back items q [] b h = let e : q ≡ q + 0 = omega arith in subst (λ n. HasAt items n b) e h
  has_back items q (i ∷ a) b h =
      let e : q + 1 + length a ≡ q + length (i ∷ a) = omega arith in
      subst (λ n. HasAt items n b) e (has_back items (q + 1) a b h.1)

  pub has_both : (items : List X) (q : ℕ) (a b : List X) → HasAt items q a → HasAt items (q + length a) b → HasAt items q (a ++ b)
  has_both items q [] b h k = let e : q + 0 ≡ q = omega arith in subst (λ n. HasAt items n b) e k
  has_both items q (i ∷ a) b h k =
      let e : q + length (i ∷ a) ≡ q + 1 + length a = omega arith in
      (h.0, has_both items (q + 1) a b h.1 (subst (λ n. HasAt items n b) e k))

  pub has_all : (is pre : List X) → HasAt (pre ++ is) (length pre) is
  has_all [] pre = tt
  has_all (i ∷ is) pre =
      let within : length pre < length (pre ++ i ∷ is) = omega (arith, length-append pre (i ∷ is)) in
      let here = slice_get-get_or (pre ++ i ∷ is) (length pre) i within ∙ ap Some (get_or-append_seam pre i is i) in
      let n : length (pre ++ i ∷ []) ≡ length pre + 1 = omega (arith, length-append pre (i ∷ [])) in
      let rest = has_all is (pre ++ i ∷ []) in
      let rest' = subst (λ l. HasAt l (length (pre ++ i ∷ [])) is) (append_assoc pre (i ∷ []) is) rest in
      (here, subst (λ m. HasAt (pre ++ i ∷ is) m is) n rest')

  pub had_at : (items : List X) (q : ℕ) (is : List X) (k : ℕ) (x : X) → HasAt items q is → slice_get is k ≡ Some x → slice_get items (q + k) ≡ Some x
  had_at items q [] k x h e = cc
  had_at items q (i ∷ is) zero x h e =
      let same : i ≡ x = cc in let z : q ≡ q + 0 = omega arith in
      subst (λ n. slice_get items n ≡ Some x) z (h.0 ∙ ap Some same)
  had_at items q (i ∷ is) (suc k) x h e =
      let z : q + 1 + k ≡ q + suc k = omega arith in
      subst (λ n. slice_get items n ≡ Some x) z (had_at items (q + 1) is k x h.1 e)

  -- a list that has these items from its front on, and no more, is the list of these items
  pub has_whole : (xs is : List X) → HasAt xs 0 is → length xs ≡ length is → xs ≡ is
  has_whole xs is h e = from_front ([]) xs is h e
    where
      behind : (x : X) (xs : List X) (q : ℕ) (is : List X) → HasAt (x ∷ xs) (q + 1) is → HasAt xs q is
      behind x xs q [] h = tt
      behind x xs q (i ∷ is) h =
          let n : q + 1 ≡ suc q = omega arith in
          (subst (λ k. slice_get (x ∷ xs) k ≡ Some i) n h.0, behind x xs (q + 1) is h.1)

      from_front : (pre xs is : List X) → HasAt xs 0 is → length xs ≡ length is → xs ≡ is
      from_front pre [] [] h e = refl
      from_front pre [] (i ∷ is) h e = absurd (omega arith)
      from_front pre (x ∷ xs) [] h e = absurd (omega arith)
      from_front pre (x ∷ xs) (i ∷ is) h e =
          let same : x ≡ i = cc in
          let rest : xs ≡ is = from_front pre xs is (behind x xs 0 is h.1) (omega arith) in
          λ k. same k ∷ rest k

module _ {X : Type 0} (pre : List X) (g : ℕ → List X) (size : ℕ → ℕ) (sized : (i : ℕ) → length (g i) ≡ size i) where
  pub length-pieces : (n : ℕ) → length (pieces g n) ≡ total size n
  length-pieces zero = refl
  length-pieces (suc n) = omega (arith, length-append (pieces g n) (g n), length-pieces n, sized n)

  -- the i-th piece stands behind the pieces in front of it
  pub has_piece : (n i : ℕ) → i < n → HasAt (pre ++ pieces g n) (length pre + total size i) (g i)
  has_piece zero i lt = absurd (omega arith)
  has_piece (suc n) i lt =
      let split : (pre ++ pieces g n) ++ g n ≡ pre ++ (pieces g n ++ g n) = append_assoc pre (pieces g n) (g n) in
      subst (λ l. HasAt l (length pre + total size i) (g i)) split
      (⊎_elim
      (λ below. has_in_front (pre ++ pieces g n) (g n) _ (g i) (has_piece n i below))
      (λ above.
      let same : i ≡ n = omega arith in
      let at : length (pre ++ pieces g n) ≡ length pre + total size n = omega (arith, length-append pre (pieces g n), length-pieces n) in
      subst (λ j. HasAt ((pre ++ pieces g n) ++ g n) (length pre + total size j) (g j)) (sym same)
      (subst (λ m. HasAt ((pre ++ pieces g n) ++ g n) m (g n)) at (has_all (g n) (pre ++ pieces g n))))
      (cases_lt i n))

  -- a list in which each piece stands in its place has them all
  pub has_pieces : (items : List X) (q n : ℕ) → ((i : ℕ) → i < n → HasAt items (q + total size i) (g i)) → HasAt items q (pieces g n)
  has_pieces items q zero h = tt
  has_pieces items q (suc n) h =
      let e : q + total size n ≡ q + length (pieces g n) = omega (arith, length-pieces n) in
      has_both items q (pieces g n) (g n) (has_pieces items q n (λ i lt. h i (omega arith))) (subst (λ m. HasAt items m (g n)) e (h n (omega arith)))

-- a fact on each item of a list that stands at q
abbrev pub Each : {X : Type 0} → (ℕ → X → Type 0) → ℕ → List X → Type 0
Each P q [] = Unit {0}
Each P q (x ∷ xs) = P q x × Each P (q + 1) xs

module _ {X : Type 0} (P : ℕ → X → Type 0) where
  pub each_append : (q : ℕ) (a b : List X) → Each P q a → Each P (q + length a) b → Each P q (a ++ b)
  each_append q [] b h k = let e : q + 0 ≡ q = omega arith in subst (λ n. Each P n b) e k
  each_append q (x ∷ a) b h k =
      let e : q + length (x ∷ a) ≡ q + 1 + length a = omega arith in
      (h.0, each_append (q + 1) a b h.1 (subst (λ n. Each P n b) e k))

  pub each_at : (q : ℕ) (xs : List X) (k : ℕ) (x : X) → Each P q xs → slice_get xs k ≡ Some x → P (q + k) x
  each_at q [] k x h e = cc
  each_at q (y ∷ xs) zero x h e =
      let same : y ≡ x = cc in let z : q ≡ q + 0 = omega arith in
      subst (λ n. P n x) z (subst (P q) same h.0)
  each_at q (y ∷ xs) (suc k) x h e =
      let z : q + 1 + k ≡ q + suc k = omega arith in
      subst (λ n. P n x) z (each_at (q + 1) xs k x h.1 e)

  pub each_piece : (g : ℕ → List X) (size : ℕ → ℕ) → ((i : ℕ) → length (g i) ≡ size i) → (q n : ℕ)
      → ((i : ℕ) → i < n → Each P (q + total size i) (g i)) → Each P q (pieces g n)
  each_piece g size sized q zero h = tt
  each_piece g size sized q (suc n) h =
      let e : q + total size n ≡ q + length (pieces g n) = omega (arith, length-pieces ([]) g size sized n) in
      each_append q (pieces g n) (g n) (each_piece g size sized q n (λ i lt. h i (omega arith))) (subst (λ m. Each P m (g n)) e (h n (omega arith)))
