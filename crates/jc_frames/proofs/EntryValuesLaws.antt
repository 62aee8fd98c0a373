-- The values of a state's local variables, from the last one and from the first one on.
use Rattle.std.proofs.Common.{◌≡◌, ℕ, ◌+◌, ◌-◌, ◌<◌, ◌≤◌, Bool, true, false, List, [], ◌∷◌, ◌++◌, length, map, take, drop, get_or, refl, sym, ◌∙◌, ap, append_assoc}
use Rattle.std.proofs.lemmas.List.{map-append}
use Rattle.jc_methods.specs.declared.kind.Kind.{Kind}
use Rattle.jc_methods.specs.declared.kind.Kind.TheVariants as kinds
use Rattle.jc_pool.specs.Pool.{PoolValue}
use Rattle.jc_frames.specs.declared.method.Value.TheVariants as values
use Rattle.jc_frames.specs.Running.{held_values}
use Rattle.jc_frames.proofs.RunningLaws.{take_last}
use Rattle.jc_methods.specs.VerificationTypes.{Names, verification_type, VerificationType, top, is_pair}
use Rattle.jc_bytes.proofs.AppendingLaws.{drop_at}
use Rattle.jc_methods.proofs.SeenLaws.{held_top}
use Rattle.jc_frames.specs.Frames.{without_last_top, trimmed, values_from}

-- `top` at the end goes
pub trim_top : (xs : List VerificationType) → trimmed (xs ++ top ∷ []) ≡ trimmed xs
trim_top [] = refl
trim_top (x ∷ xs) = ap (without_last_top x) (trim_top xs)

-- any other value at the end stays
pub trim_other : (xs : List VerificationType) (h : VerificationType) → (h ≡ top → ⊥) → trimmed (xs ++ h ∷ []) ≡ xs ++ h ∷ []
trim_other [] top other = absurd (other refl)
trim_other [] h other = refl
trim_other (x ∷ xs) h other = ap (without_last_top x) (trim_other xs h other) ∙ kept x xs
  where
    kept : (x : VerificationType) (xs : List VerificationType) → without_last_top x (xs ++ h ∷ []) ≡ x ∷ (xs ++ h ∷ [])
    kept top [] = refl
    kept top (y ∷ ys) = refl
    kept x ys = refl

-- ---- from the last local variable on

seen_last : (names : Names) (xs : List Kind) (end : ℕ) → 0 < end → end ≤ length xs
    → map (verification_type names) (take end xs) ≡ map (verification_type names) (take (end - 1) xs) ++ verification_type names (get_or xs (end - 1) kinds.Top) ∷ []
seen_last names xs end some within =
    ap (map (verification_type names)) (take_last xs end kinds.Top some within) ∙ map-append (verification_type names) (take (end - 1) xs) (get_or xs (end - 1) kinds.Top ∷ [])

pub shorter : (names : Names) (xs : List Kind) (end : ℕ) → 0 < end → end ≤ length xs → get_or xs (end - 1) kinds.Top ≡ kinds.Top
    → trimmed (map (verification_type names) (take end xs)) ≡ trimmed (map (verification_type names) (take (end - 1) xs))
shorter names xs end some within is =
    ap trimmed (seen_last names xs end some within)
    ∙ ap (λ (h : VerificationType). trimmed (map (verification_type names) (take (end - 1) xs) ++ h ∷ [])) (ap (verification_type names) is)
    ∙ trim_top (map (verification_type names) (take (end - 1) xs))

pub ended : (names : Names) (xs : List Kind) (end : ℕ) → 0 < end → end ≤ length xs → (get_or xs (end - 1) kinds.Top ≡ kinds.Top → ⊥)
    → trimmed (map (verification_type names) (take end xs)) ≡ map (verification_type names) (take end xs)
ended names xs end some within other =
    ap trimmed (seen_last names xs end some within)
    ∙ trim_other (map (verification_type names) (take (end - 1) xs)) (verification_type names (get_or xs (end - 1) kinds.Top)) (λ e. other (held_top names (get_or xs (end - 1) kinds.Top) e))
    ∙ sym (seen_last names xs end some within)

-- ---- from the first local variable on

-- the values so far, and those that are in the rest
abbrev pub listed_with : Names → List Kind → Bool → List Kind → List VerificationType
listed_with names ks skips rest = map (verification_type names) ks ++ values_from skips (map (verification_type names) rest)

-- the second local variable of a value
pub skipped : (names : Names) (ks xs : List Kind) (i : ℕ) → i < length xs
    → listed_with names ks true (drop i xs) ≡ listed_with names ks false (drop (i + 1) xs)
skipped names ks xs i lt = ap (listed_with names ks true) (drop_at xs i kinds.Top lt)

pub listed_one : (names : Names) (ks more xs : List Kind) (i : ℕ) (wide : Bool) → i < length xs
    → more ≡ ks ++ get_or xs i kinds.Top ∷ [] → wide ≡ is_pair (verification_type names (get_or xs i kinds.Top))
    → listed_with names ks false (drop i xs) ≡ listed_with names more wide (drop (i + 1) xs)
listed_one names ks more xs i wide lt is pair =
    let k = get_or xs i kinds.Top in
    let rest = map (verification_type names) (drop (i + 1) xs) in
    ap (listed_with names ks false) (drop_at xs i kinds.Top lt)
    ∙ sym (append_assoc (map (verification_type names) ks) (verification_type names k ∷ []) (values_from (is_pair (verification_type names k)) rest))
    ∙ ap (λ (l : List VerificationType). l ++ values_from (is_pair (verification_type names k)) rest)
    (sym (ap (map (verification_type names)) is ∙ map-append (verification_type names) ks (k ∷ [])))
    ∙ ap (λ (b : Bool). map (verification_type names) more ++ values_from b rest) (sym pair)

-- ---- kinds as values

pub values_wrapped : (pool : PoolValue) (names : Names) (ks : List Kind) → held_values pool names (map values.Of ks) ≡ map (verification_type names) ks
values_wrapped pool names [] = refl
values_wrapped pool names (k ∷ ks) = ap (λ (l : List VerificationType). verification_type names k ∷ l) (values_wrapped pool names ks)
