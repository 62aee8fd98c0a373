-- A text is split at the last place of a byte.
use Rattle.std.proofs.Common.{◌≡◌, ◌≢◌, ◌↔◌, ℕ, ◌+◌, ◌<◌, ◌≤◌, Bool, true, false, cond, ◌==◌, List, [], ◌∷◌, ◌++◌, length, length-drop, take-append-drop, get_or, take, drop, Option, Some, None, All, refl, sym, ap, ap₂, ◌∙◌, subst, arith}
use Rattle.std.proofs.lemmas.Bool.{eqb-true, eq-eqb, both_ways}
use Rattle.std.proofs.lemmas.List.{drop_more, get_or-drop}
use Rattle.std.proofs.lemmas.List.Elements.{All-nil, All-cons, All-head, All-tail, All-from_get_or}
use Rattle.jc_bytes.proofs.ListLaws.{head_is, tail_is}
use Rattle.jc_report.specs.Split.{IsSplitAtLast, with_first, split_at_last}

-- not this byte
abbrev IsOther : ℕ → ℕ → Type 0
IsOther byte b = b ≢ byte

abbrev IsAnswer : ℕ → List ℕ → Option (List ℕ × List ℕ) → Type 0
IsAnswer byte text None = All (IsOther byte) text
IsAnswer byte text (Some parts) = IsSplitAtLast byte text parts.0 parts.1

split_is : (byte : ℕ) (text : List ℕ) → IsAnswer byte text (split_at_last byte text)
unfolding split_at_last
split_is byte [] = All-nil (IsOther byte)
split_is byte (b ∷ rest) = by (split_at_last byte rest) (split_is byte rest)
  where
    by_first : (t : Bool) → (b == byte) ≡ t → All (IsOther byte) rest → IsAnswer byte (b ∷ rest) (cond t (Some ([], rest)) None)
    by_first true e none = record { parts = ap (λ c. c ∷ rest) (eqb-true b byte e); last = none }
    by_first false e none = All-cons (IsOther byte) b rest (λ same. both_ways (b == byte) e (eq-eqb b byte same)) none

    by : (o : Option (List ℕ × List ℕ)) → IsAnswer byte rest o → IsAnswer byte (b ∷ rest) (with_first byte b rest o)
    by (Some parts) s = record { parts = ap (λ l. b ∷ l) s.parts; last = s.last }
    by None none = by_first (b == byte) refl none

-- a list that has the byte isn't without it
has_it : (byte : ℕ) (front back : List ℕ) → All (IsOther byte) (front ++ byte ∷ back) → ⊥
has_it byte [] back none = All-head (IsOther byte) byte back none refl
has_it byte (b ∷ front) back none = has_it byte front back (All-tail (IsOther byte) b (front ++ byte ∷ back) none)

-- there is one last place
one_split : (byte : ℕ) (f g h k : List ℕ) → f ++ byte ∷ g ≡ h ++ byte ∷ k → All (IsOther byte) g → All (IsOther byte) k → (f ≡ h) × (g ≡ k)
one_split byte [] g [] k e p q = (refl, tail_is e)
one_split byte [] g (c ∷ h) k e p q = absurd (has_it byte h k (subst (All (IsOther byte)) (tail_is e) p))
one_split byte (b ∷ f) g [] k e p q = absurd (has_it byte f g (subst (All (IsOther byte)) (sym (tail_is e)) q))
one_split byte (b ∷ f) g (c ∷ h) k e p q = let more = one_split byte f g h k (tail_is e) p q in (ap₂ (λ x xs. x ∷ xs) (head_is e) more.0, more.1)

pub split_found : (byte : ℕ) (text front back : List ℕ) → (split_at_last byte text ≡ Some (front, back)) ↔ IsSplitAtLast byte text front back
split_found byte text front back = (to, from (split_at_last byte text) (split_is byte text))
  where
    to : split_at_last byte text ≡ Some (front, back) → IsSplitAtLast byte text front back
    to e = subst (IsAnswer byte text) e (split_is byte text)

    from : (o : Option (List ℕ × List ℕ)) → IsAnswer byte text o → IsSplitAtLast byte text front back → o ≡ Some (front, back)
    from None none s = absurd (has_it byte front back (subst (All (IsOther byte)) s.parts none))
    from (Some parts) p s =
        let same = one_split byte parts.0 parts.1 front back (sym p.parts ∙ s.parts) p.last s.last in
        λ i. Some (same.0 i, same.1 i)

pub split_none : (byte : ℕ) (text front back : List ℕ) → split_at_last byte text ≡ None → IsSplitAtLast byte text front back → ⊥
split_none byte text front back e s = has_it byte front back (subst (All (IsOther byte)) s.parts (subst (IsAnswer byte text) e (split_is byte text)))

-- ---- the same by places

-- the byte is at the place, and at none behind it
pub split_at_place : (byte : ℕ) (text : List ℕ) (i : ℕ) → i < length text → get_or text i 0 ≡ byte
    → ((k : ℕ) → i + 1 ≤ k → k < length text → get_or text k 0 ≢ byte) → split_at_last byte text ≡ Some (take i text, drop (i + 1) text)
split_at_place byte text i inside here after =
    let parts : text ≡ take i text ++ byte ∷ drop (i + 1) text = sym (take-append-drop i text) ∙ ap (λ l. take i text ++ l) (drop_more text i 0 inside ∙ ap (λ b. b ∷ drop (i + 1) text) here) in
    (split_found byte text (take i text) (drop (i + 1) text)).1 (record { parts = parts; last = others })
  where
    others : All (IsOther byte) (drop (i + 1) text)
    others = All-from_get_or (IsOther byte) (drop (i + 1) text) 0
        (λ k less. subst (IsOther byte) (sym (get_or-drop (i + 1) text k 0)) (after (i + 1 + k) (omega arith) (omega (arith, length-drop (i + 1) text))))

-- the byte is nowhere
pub split_nowhere : (byte : ℕ) (text : List ℕ) → All (IsOther byte) text → split_at_last byte text ≡ None
split_nowhere byte text none = by (split_at_last byte text) (split_is byte text)
  where
    by : (o : Option (List ℕ × List ℕ)) → IsAnswer byte text o → o ≡ None
    by None is = refl
    by (Some parts) s = absurd (has_it byte parts.0 parts.1 (subst (All (IsOther byte)) s.parts none))
