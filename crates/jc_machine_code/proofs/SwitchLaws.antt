-- The arms of a lookupswitch, whose keys ascend.
use Rattle.std.proofs.Common.{◌≡◌, ⊎_elim, ◌⊎◌, inl, inr, ℕ, zero, suc, ◌+◌, ◌<◌, ◌≤◌, Bool, true, false, ◌&&◌, List, [], ◌∷◌, length, refl, sym, ap, ◌∙◌, subst, arith, cond}
use Rattle.std.specs.Prelude.{ℤ, ◌<ℤ◌, ◌≤ℤ◌, int_le, T, Some}
use Rattle.std.specs.List.{slice_get}
use Rattle.std.specs.Int.Signed.{le_z_yes}
use Rattle.std.proofs.lemmas.Bool.{cases_lt}
use Rattle.std.proofs.lemmas.Option.{slice_get_within, same_Some}
use Rattle.std.proofs.lemmas.Int.{ints}
use Rattle.std.proofs.lemmas.Float.{T_from_true}
use Rattle.jc_bytes.proofs.BooleanLaws.{and_false}
use Rattle.jc_methods.specs.declared.insn.Arm.{Arm}
use Rattle.jc_methods.specs.Insn.{IsAscending}
use Rattle.jc_plan.specs.Chosen.{lookup_target}

refused : (a b : ℤ) → a <ℤ b → int_le b a ≡ false
refused a b h = by (int_le b a) refl
  where
    by : (x : Bool) → int_le b a ≡ x → int_le b a ≡ false
    by false e = e
    by true e = let g : b ≤ℤ a = le_z_yes (T_from_true (int_le b a) e) in absurd (omega (arith, ints))

-- an arm with a lower key, or with a higher one, is passed by
lower : (default : ℕ) (a : Arm) (arms : List Arm) (k : ℤ) → a.key <ℤ k → lookup_target default (a ∷ arms) k ≡ lookup_target default arms k
lower default a arms k h = rw (refused a.key k h) (ap (λ x. cond x a.to (lookup_target default arms k)) (and_false (int_le a.key k)))

higher : (default : ℕ) (a : Arm) (arms : List Arm) (k : ℤ) → k <ℤ a.key → lookup_target default (a ∷ arms) k ≡ lookup_target default arms k
higher default a arms k h = rw (refused k a.key h) refl

tail_ascends : (a : Arm) (arms : List Arm) → IsAscending (a ∷ arms) → IsAscending arms
tail_ascends a [] up = tt
tail_ascends a (b ∷ arms) up = up.1

-- the first key is below the others
above : (a : Arm) (arms : List Arm) (i : ℕ) (x : Arm) → IsAscending (a ∷ arms) → slice_get arms i ≡ Some x → a.key <ℤ x.key
above a [] i x up e = absurd (cc)
above a (b ∷ arms) zero x up e = let same : b ≡ x = cc in subst (λ (y : Arm). a.key <ℤ y.key) same up.0
above a (b ∷ arms) (suc i) x up e =
    let first : a.key <ℤ b.key = up.0 in
    let rest : b.key <ℤ x.key = above b arms i x up.1 e in
    omega (arith, ints)

equal_test : (a k : ℤ) → a ≡ k → (int_le a k && int_le k a) ≡ true
equal_test a k e = subst (λ (x : ℤ). (int_le a x && int_le x a) ≡ true) e (by (int_le a a) refl)
  where
    by : (x : Bool) → int_le a a ≡ x → (int_le a a && int_le a a) ≡ true
    by true g = rw g refl
    by false g = absurd (let h : T (int_le a a) = (let w : a ≤ℤ a = omega (arith, ints) in w.le) in no (int_le a a) g h)
      where
        no : (x : Bool) → x ≡ false → T x → ⊥
        no true q t = absurd (cc)
        no false q t = t

pub found : (default : ℕ) (arms : List Arm) (i : ℕ) (x : Arm) (k : ℤ) → IsAscending arms → slice_get arms i ≡ Some x → x.key ≡ k → lookup_target default arms k ≡ x.to
found default [] i x k up e is = absurd (cc)
found default (a ∷ arms) zero x k up e is =
    let same : a ≡ x = cc in
    rw (equal_test a.key k (ap (λ (y : Arm). y.key) same ∙ is)) (ap (λ (y : Arm). y.to) same)
found default (a ∷ arms) (suc i) x k up e is =
    lower default a arms k (subst (λ (n : ℤ). a.key <ℤ n) is (above a arms i x up e)) ∙ found default arms i x k (tail_ascends a arms up) e is

-- the keys of later arms are higher
ordered : (arms : List Arm) (i j : ℕ) (x y : Arm) → IsAscending arms → i < j → slice_get arms i ≡ Some x → slice_get arms j ≡ Some y → x.key <ℤ y.key
ordered [] i j x y up h e g = absurd (cc)
ordered (a ∷ arms) i zero x y up h e g = absurd (omega (arith, h))
ordered (a ∷ arms) zero (suc j) x y up h e g = let same : a ≡ x = cc in subst (λ (z : Arm). z.key <ℤ y.key) same (above a arms j y up g)
ordered (a ∷ arms) (suc i) (suc j) x y up h e g = ordered arms i j x y (tail_ascends a arms up) (omega (arith, h)) e g

missing : (default : ℕ) (arms : List Arm) (k : ℤ) → ((i : ℕ) (x : Arm) → slice_get arms i ≡ Some x → (x.key <ℤ k) ⊎ (k <ℤ x.key)) → lookup_target default arms k ≡ default
missing default [] k all = refl
missing default (a ∷ arms) k all =
    ⊎_elim (λ l. lower default a arms k l) (λ h. higher default a arms k h) (all 0 a refl) ∙ missing default arms k (λ i x e. all (suc i) x e)

-- the arm with the key, if there is one, stands from the one place up to the other
pub record Between (arms : List Arm) (k : ℤ) (low high : ℕ) : Type 0 where
  pub end : high ≤ length arms
  pub below : (i : ℕ) (x : Arm) → i < low → slice_get arms i ≡ Some x → x.key <ℤ k
  pub above : (i : ℕ) (x : Arm) → high ≤ i → slice_get arms i ≡ Some x → k <ℤ x.key

pub anywhere : (arms : List Arm) (k : ℤ) → Between arms k 0 (length arms)
anywhere arms k = record {
  end = omega arith;
  below = λ i x h e. absurd (omega (arith, h));
  above = λ i x h e. absurd (let g = slice_get_within arms i x e in omega (arith, h, g));
}

module _ (arms : List Arm) (k : ℤ) (low high middle : ℕ) (a : Arm) (up : IsAscending arms) (at : slice_get arms middle ≡ Some a) (before : Between arms k low high) where
  pub in_front : k <ℤ a.key → middle ≤ high → Between arms k low middle
  in_front h m = record {
    end = let e = before.end in omega (arith, e, m);
    below = before.below;
    above = λ i x g e. ⊎_elim
        (λ (b : middle < i). let later : a.key <ℤ x.key = ordered arms middle i a x up b at e in omega (arith, ints))
        (λ (b : i ≤ middle). let same : i ≡ middle = omega (arith, g, b) in this i x same e)
        (cases_lt middle i);
  }
    where
      this : (i : ℕ) (x : Arm) → i ≡ middle → slice_get arms i ≡ Some x → k <ℤ x.key
      this i x same e = let one : x ≡ a = same_Some x a (sym e ∙ ap (slice_get arms) same ∙ at) in subst (λ (z : Arm). k <ℤ z.key) (sym one) h

  pub behind : a.key <ℤ k → middle < high → Between arms k (middle + 1) high
  behind h m = record {
    end = before.end;
    below = λ i x g e. ⊎_elim
        (λ (b : i < middle). let earlier : x.key <ℤ a.key = ordered arms i middle x a up b e at in omega (arith, ints))
        (λ (b : middle ≤ i). let same : i ≡ middle = omega (arith, g, b) in this i x same e)
        (cases_lt i middle);
    above = before.above;
  }
    where
      this : (i : ℕ) (x : Arm) → i ≡ middle → slice_get arms i ≡ Some x → x.key <ℤ k
      this i x same e = let one : x ≡ a = same_Some x a (sym e ∙ ap (slice_get arms) same ∙ at) in subst (λ (z : Arm). z.key <ℤ k) (sym one) h

pub nowhere : (default : ℕ) (arms : List Arm) (k : ℤ) (low high : ℕ) → high ≤ low → Between arms k low high → lookup_target default arms k ≡ default
nowhere default arms k low high h between =
    missing default arms k
    (λ i x e. ⊎_elim (λ (g : i < low). inl (between.below i x g e)) (λ (g : low ≤ i). inr (between.above i x (omega (arith, h, g)) e)) (cases_lt i low))
