-- Pieces that are put one behind the other.
use Rattle.std.proofs.Common.{◌≡◌, ℕ, zero, suc, ◌+◌, List, ◌++◌, sym, ◌∙◌, ap, append_assoc, append-nil, add-one, arith}
use Rattle.std.specs.List.{flat_map, range_with_len}
use Rattle.jc_bytes.proofs.AppendingLaws.{joined}

-- so many pieces behind what stands there
pub three : (a b c d x₁ x₂ x₃ : List ℕ) → b ≡ a ++ x₁ → c ≡ b ++ x₂ → d ≡ c ++ x₃ → d ≡ a ++ (x₁ ++ (x₂ ++ x₃))
three a b c d x₁ x₂ x₃ p₁ p₂ p₃ = joined a b d x₁ _ p₁ (joined b c d x₂ x₃ p₂ p₃)

pub four : (a b c d e x₁ x₂ x₃ x₄ : List ℕ) → b ≡ a ++ x₁ → c ≡ b ++ x₂ → d ≡ c ++ x₃ → e ≡ d ++ x₄ → e ≡ a ++ (x₁ ++ (x₂ ++ (x₃ ++ x₄)))
four a b c d e x₁ x₂ x₃ x₄ p₁ p₂ p₃ p₄ = joined a b e x₁ _ p₁ (three b c d e x₂ x₃ x₄ p₂ p₃ p₄)

pub five : (a b c d e f x₁ x₂ x₃ x₄ x₅ : List ℕ) → b ≡ a ++ x₁ → c ≡ b ++ x₂ → d ≡ c ++ x₃ → e ≡ d ++ x₄ → f ≡ e ++ x₅
    → f ≡ a ++ (x₁ ++ (x₂ ++ (x₃ ++ (x₄ ++ x₅))))
five a b c d e f x₁ x₂ x₃ x₄ x₅ p₁ p₂ p₃ p₄ p₅ = joined a b f x₁ _ p₁ (four b c d e f x₂ x₃ x₄ x₅ p₂ p₃ p₄ p₅)

pub seven : (a b c d e f g h x₁ x₂ x₃ x₄ x₅ x₆ x₇ : List ℕ) → b ≡ a ++ x₁ → c ≡ b ++ x₂ → d ≡ c ++ x₃ → e ≡ d ++ x₄ → f ≡ e ++ x₅ → g ≡ f ++ x₆
    → h ≡ g ++ x₇ → h ≡ a ++ (x₁ ++ (x₂ ++ (x₃ ++ (x₄ ++ (x₅ ++ (x₆ ++ x₇))))))
seven a b c d e f g h x₁ x₂ x₃ x₄ x₅ x₆ x₇ p₁ p₂ p₃ p₄ p₅ p₆ p₇ =
    joined a b h x₁ _ p₁ (joined b c h x₂ _ p₂ (five c d e f g h x₃ x₄ x₅ x₆ x₇ p₃ p₄ p₅ p₆ p₇))

-- one piece for each number, and one more
flat_more : (f : ℕ → List ℕ) (a n : ℕ) → flat_map f (range_with_len a (suc n)) ≡ flat_map f (range_with_len a n) ++ f (a + n)
flat_more f a zero = append-nil (f a) ∙ ap f same
  where
    same : a ≡ a + 0
    same = omega arith
flat_more f a (suc n) =
    ap (λ (l : List ℕ). f a ++ l) (flat_more f (a + 1) n ∙ ap (λ (k : ℕ). flat_map f (range_with_len (a + 1) n) ++ f k) same)
    ∙ sym (append_assoc (f a) (flat_map f (range_with_len (a + 1) n)) (f (a + suc n)))
  where
    same : a + 1 + n ≡ a + suc n
    same = omega arith

pub piece_more : (f : ℕ → List ℕ) (k : ℕ) (old mid new : List ℕ) → mid ≡ old ++ flat_map f (range_with_len 0 k) → new ≡ mid ++ f k
    → new ≡ old ++ flat_map f (range_with_len 0 (k + 1))
piece_more f k old mid new p q =
    joined old mid new (flat_map f (range_with_len 0 k)) (f k) p q
    ∙ ap (λ (l : List ℕ). old ++ l) (ap (λ (j : ℕ). flat_map f (range_with_len 0 k) ++ f j) same ∙ sym (flat_more f 0 k) ∙ ap (λ (n : ℕ). flat_map f (range_with_len 0 n)) (sym (add-one k)))
  where
    same : k ≡ 0 + k
    same = omega arith

pub all_pieces : (f : ℕ → List ℕ) (k n : ℕ) (old now : List ℕ) → k ≡ n → now ≡ old ++ flat_map f (range_with_len 0 k) → now ≡ old ++ flat_map f (range_with_len 0 n)
all_pieces f k n old now same p = p ∙ ap (λ (m : ℕ). old ++ flat_map f (range_with_len 0 m)) same
