-- Values in local variables, each of them once and in its slots.
use Rattle.std.proofs.Common.{◌≡◌, ◌⊎◌, inl, inr, ⊎_elim, ℕ, suc, ◌+◌, ◌-◌, ◌≤◌, Bool, true, false, List, [], ◌∷◌, ◌++◌, length, replicate, refl, sym, ◌∙◌, ap, ap₂, arith, length-append, if◌then◌else◌, zero}
use Rattle.std.specs.List.{AllByRecursion}
use Rattle.std.proofs.lemmas.Bool.{false≢true}
use Rattle.jc_methods.specs.VerificationTypes.{VerificationType, top, double, long, is_pair, width, slots}
use Rattle.jc_methods.specs.EntryState.{spread_one, spread, in_locals}
use Rattle.jc_frames.specs.Frames.{without_last_top, trimmed, values_from, values_in}
use Rattle.jc_frames.specs.FullFrames.{BeginsWithTop, ArePaired}

-- ---- values in local variables, and back

-- `top` alone goes
pub single_values : (h : VerificationType) (rest : List VerificationType) → is_pair h ≡ false → (values_in (h ∷ rest) ≡ h ∷ values_in rest)
    ⊎ ((h ≡ top) × (values_in (h ∷ rest) ≡ []) × (values_in rest ≡ []))
single_values h rest single = by h (trimmed rest) single
  where
    by : (h : VerificationType) (t : List VerificationType) → is_pair h ≡ false
        → (values_from false (without_last_top h t) ≡ h ∷ values_from false t)
        ⊎ ((h ≡ top) × (values_from false (without_last_top h t) ≡ []) × (values_from false t ≡ []))
    by top [] single = inr (refl, refl, refl)
    by top (x ∷ t) single = inl refl
    by double t single = absurd cc
    by long t single = absurd cc
    by h t single = inl refl

pub pair_values : (h : VerificationType) (rest : List VerificationType) → is_pair h ≡ true → values_in (h ∷ top ∷ rest) ≡ h ∷ values_in rest
pair_values h rest pair = by h (trimmed rest) pair
  where
    by : (h : VerificationType) (t : List VerificationType) → is_pair h ≡ true → values_from false (without_last_top h (without_last_top top t)) ≡ h ∷ values_from false t
    by double [] pair = refl
    by double (x ∷ t) pair = refl
    by long [] pair = refl
    by long (x ∷ t) pair = refl
    by h t pair = absurd cc

pub spread_single : (h : VerificationType) → is_pair h ≡ false → spread_one h ≡ h ∷ []
spread_single h e = rw e refl

pub spread_pair : (h : VerificationType) → is_pair h ≡ true → spread_one h ≡ h ∷ top ∷ []
spread_pair h e = rw e refl

tops : ℕ → List VerificationType
tops n = replicate n top

-- one value more, in one local variable and in two
single_in : (n : ℕ) (h : VerificationType) (values : List VerificationType) → is_pair h ≡ false → in_locals (suc n) (h ∷ values) ≡ h ∷ in_locals n values
single_in n h values single =
    ap (λ (l : List VerificationType). (l ++ spread values) ++ replicate (suc n - length (l ++ spread values)) top) (spread_single h single)
    ∙ ap (λ (k : ℕ). h ∷ (spread values ++ replicate k top)) (let e : suc n - suc (length (spread values)) ≡ n - length (spread values) = omega arith in e)

pair_in : (n : ℕ) (h : VerificationType) (values : List VerificationType) → is_pair h ≡ true → in_locals (suc (suc n)) (h ∷ values) ≡ h ∷ top ∷ in_locals n values
pair_in n h values pair =
    ap (λ (l : List VerificationType). (l ++ spread values) ++ replicate (suc (suc n) - length (l ++ spread values)) top) (spread_pair h pair)
    ∙ ap (λ (k : ℕ). h ∷ top ∷ (spread values ++ replicate k top)) (let e : suc (suc n) - suc (suc (length (spread values))) ≡ n - length (spread values) = omega arith in e)

either_pair : (h : VerificationType) → (is_pair h ≡ true) ⊎ (is_pair h ≡ false)
either_pair h = by (is_pair h)
  where
    by : (b : Bool) → (b ≡ true) ⊎ (b ≡ false)
    by true = inl refl
    by false = inr refl

none_in : (n : ℕ) → in_locals (suc n) [] ≡ top ∷ in_locals n []
none_in n =
    ap (λ (k : ℕ). replicate k top) (let e : suc n - 0 ≡ suc n = omega arith in e)
    ∙ ap (λ (k : ℕ). top ∷ replicate k top) (let e : n ≡ n - 0 = omega arith in e)

single_back : (h : VerificationType) (rest : List VerificationType) → is_pair h ≡ false → in_locals (length rest) (values_in rest) ≡ rest
    → in_locals (suc (length rest)) (values_in (h ∷ rest)) ≡ h ∷ rest
single_back h rest single back = ⊎_elim
    (λ e. ap (in_locals (suc (length rest))) e ∙ single_in (length rest) h (values_in rest) single ∙ ap (λ (l : List VerificationType). h ∷ l) back)
    (λ w. ap (in_locals (suc (length rest))) w.1 ∙ none_in (length rest) ∙ ap₂ (λ (x : VerificationType) (l : List VerificationType). x ∷ l) (sym w.0) (sym (ap (in_locals (length rest)) w.2) ∙ back))
    (single_values h rest single)

pub values_back : (locals : List VerificationType) → ArePaired locals → in_locals (length locals) (values_in locals) ≡ locals
values_back [] paired = refl
values_back (h ∷ []) paired = ⊎_elim
    (λ pair. absurd (paired.0 pair))
    (λ single. single_back h [] single refl)
    (either_pair h)
values_back (h ∷ x ∷ rest) paired = ⊎_elim
    (λ pair. two x (paired.0 pair) pair (values_back rest paired.1.1))
    (λ single. single_back h (x ∷ rest) single (values_back (x ∷ rest) paired.1))
    (either_pair h)
  where
    after_top : is_pair h ≡ true → in_locals (length rest) (values_in rest) ≡ rest → in_locals (suc (suc (length rest))) (values_in (h ∷ top ∷ rest)) ≡ h ∷ top ∷ rest
    after_top pair back = ap (in_locals (suc (suc (length rest)))) (pair_values h rest pair) ∙ pair_in (length rest) h (values_in rest) pair ∙ ap (λ (l : List VerificationType). h ∷ top ∷ l) back

    two : (x : VerificationType) → BeginsWithTop (x ∷ rest) → is_pair h ≡ true → in_locals (length rest) (values_in rest) ≡ rest
        → in_locals (suc (suc (length rest))) (values_in (h ∷ x ∷ rest)) ≡ h ∷ x ∷ rest
    two top begins pair back = after_top pair back
    two x begins pair back = absurd begins

-- ---- pairs

tops_paired : (n : ℕ) → ArePaired (replicate n top)
tops_paired zero = tt
tops_paired (suc n) = (λ pair. absurd cc, tops_paired n)

spread_paired : (values tail : List VerificationType) → ArePaired tail → ArePaired (spread values ++ tail)
spread_paired [] tail p = p
spread_paired (h ∷ values) tail p = by (spread_paired values tail p) (is_pair h) refl
  where
    by : ArePaired (spread values ++ tail) → (b : Bool) → is_pair h ≡ b → ArePaired (((if b then h ∷ top ∷ [] else h ∷ []) ++ spread values) ++ tail)
    by more true is = (λ pair. tt, (λ pair. absurd cc, more))
    by more false is = (λ pair. absurd (false≢true (sym is ∙ pair)), more)

-- behind each long and each double stands `top`
pub paired_in : (n : ℕ) (values : List VerificationType) → ArePaired (in_locals n values)
paired_in n values = spread_paired values (replicate (n - length (spread values)) top) (tops_paired (n - length (spread values)))

-- ---- slots

pub spread_slots : (values : List VerificationType) → length (spread values) ≡ slots values
spread_slots [] = refl
spread_slots (h ∷ values) = length-append (spread_one h) (spread values) ∙ ap₂ (λ (a b : ℕ). a + b) (one h) (spread_slots values)
  where
    one : (h : VerificationType) → length (spread_one h) ≡ width h
    one top = refl
    one h = refl

pub few_slots : (locals : List VerificationType) → ArePaired locals → slots (values_in locals) ≤ length locals
few_slots locals paired =
    let e = ap (λ (l : List VerificationType). length l) (values_back locals paired) in
    let a = length-append (spread (values_in locals)) (replicate (length locals - length (spread (values_in locals))) top) in
    let s = spread_slots (values_in locals) in
    omega (arith, e, a, s)

-- there are no more values than local variables
pub values_few : (skips : Bool) (locals : List VerificationType) → length (values_from skips locals) ≤ length locals
values_few skips [] = omega arith
values_few true (h ∷ locals) = let le = values_few false locals in omega (arith, le)
values_few false (h ∷ locals) = let le = values_few (is_pair h) locals in omega (arith, le)

pub trimmed_few : (locals : List VerificationType) → length (trimmed locals) ≤ length locals
trimmed_few [] = omega arith
trimmed_few (h ∷ locals) = by h (trimmed locals) (trimmed_few locals)
  where
    by : (h : VerificationType) (t : List VerificationType) → length t ≤ length locals → length (without_last_top h t) ≤ suc (length locals)
    by top [] le = omega arith
    by top (x ∷ t) le = omega (arith, le)
    by h t le = omega (arith, le)

-- what holds of all local variables holds of the values
module _ (Fact : VerificationType → Type 0) where
  values_all : (skips : Bool) (locals : List VerificationType) → AllByRecursion Fact locals → AllByRecursion Fact (values_from skips locals)
  values_all skips [] all = tt
  values_all true (h ∷ locals) all = values_all false locals all.1
  values_all false (h ∷ locals) all = (all.0, values_all (is_pair h) locals all.1)

  trimmed_all : (locals : List VerificationType) → AllByRecursion Fact locals → AllByRecursion Fact (trimmed locals)
  trimmed_all [] all = tt
  trimmed_all (h ∷ locals) all = by h (trimmed locals) all.0 (trimmed_all locals all.1)
    where
      by : (h : VerificationType) (t : List VerificationType) → Fact h → AllByRecursion Fact t → AllByRecursion Fact (without_last_top h t)
      by top [] f a = tt
      by top (x ∷ t) f a = (f, a)
      by h t f a = (f, a)

  pub in_values : (locals : List VerificationType) → AllByRecursion Fact locals → AllByRecursion Fact (values_in locals)
  in_values locals all = values_all false (trimmed locals) (trimmed_all locals all)
