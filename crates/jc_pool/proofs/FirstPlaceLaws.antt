-- First places, and tables that have them.
use Rattle.std.proofs.Common.{◌≡◌, ◌≢◌, ◌⊎◌, inl, inr, ℕ, ◌+◌, ◌<◌, ◌≤◌, Option, Some, None, refl, sym, ◌∙◌, ap, subst, arith}
use Rattle.std.proofs.lemmas.Bool.{cases_lt}
use Rattle.std.proofs.lemmas.Option.{none-some, same_Some}
use borrow.Author.Count.{below_more}
use Rattle.jc_bytes.proofs.LeastLaws.{least_one}
use Rattle.jc_pool.specs.Adding.{IsFirst, IsNowhere}
use Rattle.jc_pool.specs.Index.{IsFirstBelow, AreFirsts, Notes}

module _ {X : Type 0} where
  -- there is one first place
  pub one_first : (found : ℕ → Option X) (x : X) (p q : ℕ) → IsFirst found x p → IsFirst found x q → p ≡ q
  one_first found x p q a b = least_one (λ at. found at ≡ Some x) p q a b

  -- ---- one place more

  -- below the end
  further : (found : ℕ → Option X) (end : ℕ) (x : X) (r : Option ℕ) → (found end ≡ Some x → r ≡ None → ⊥) → IsFirstBelow end found x r → IsFirstBelow (end + 1) found x r
  further found end x (Some p) other is = (omega (arith, is.0), is.1)
  further found end x None other is = below_more _ _ is (λ there. other there refl)

  -- nothing is found at the end
  pub nothing_more : (found : ℕ → Option X) (end : ℕ) (table : X → Option ℕ) → found end ≡ None → AreFirsts end found table → AreFirsts (end + 1) found table
  nothing_more found end table none firsts x = further found end x (table x) (λ there _. none-some x (sym none ∙ there)) (firsts x)

  -- what is found there is noted
  pub noted : (found : ℕ → Option X) (end : ℕ) (old new : X → Option ℕ) (x : X) (first : ℕ) → found end ≡ Some x → Notes old new x end first → AreFirsts end found old
      → AreFirsts (end + 1) found new
  noted found end old new x first at (inl known) firsts y =
      subst (IsFirstBelow (end + 1) found y) (sym (known.1 y))
      (further found end y (old y) (λ there none. none-some first (sym none ∙ ap old (sym (same_Some x y (sym at ∙ there))) ∙ known.0)) (firsts y))
  noted found end old new x first at (inr fresh) firsts y = by (fresh.2 y)
    where
      by : ((y ≢ x) × (new y ≡ old y)) ⊎ ((y ≡ x) × (new y ≡ Some end)) → IsFirstBelow (end + 1) found y (new y)
      by (inl other) =
          subst (IsFirstBelow (end + 1) found y) (sym other.1)
          (further found end y (old y) (λ there none. other.0 (sym (same_Some x y (sym at ∙ there)))) (firsts y))
      by (inr this) =
          let none : IsFirstBelow end found y None = subst (IsFirstBelow end found y) (ap old this.0 ∙ fresh.0) (firsts y) in
          subst (IsFirstBelow (end + 1) found y) (sym this.1) (omega arith, record { there = at ∙ ap Some (sym this.0); first = none })

  -- the place that is answered is the first
  pub noted_first : (found : ℕ → Option X) (end : ℕ) (old new : X → Option ℕ) (x : X) (first : ℕ) → found end ≡ Some x → Notes old new x end first → AreFirsts end found old → IsFirst found x first
  noted_first found end old new x first at (inl known) firsts =
      let is : IsFirstBelow end found x (Some first) = subst (IsFirstBelow end found x) known.0 (firsts x) in is.1
  noted_first found end old new x first at (inr fresh) firsts =
      let none : IsFirstBelow end found x None = subst (IsFirstBelow end found x) fresh.0 (firsts x) in
      subst (IsFirst found x) (sym fresh.1) (record { there = at; first = none })

  -- ---- what is found elsewhere

  first_same : (found other : ℕ → Option X) (end : ℕ) (x : X) (p : ℕ) → ((q : ℕ) → q < end → other q ≡ found q) → p < end → IsFirst found x p → IsFirst other x p
  first_same found other end x p same less is = record {
    there = same p less ∙ is.there;
    first = λ q earlier there. is.first q earlier (sym (same q (omega (arith, earlier, less))) ∙ there);
  }

  -- only what is found below the end matters
  pub same_below : (found other : ℕ → Option X) (end : ℕ) (table : X → Option ℕ) → ((q : ℕ) → q < end → other q ≡ found q) → AreFirsts end found table → AreFirsts end other table
  same_below found other end table same firsts x = by (table x) (firsts x)
    where
      by : (r : Option ℕ) → IsFirstBelow end found x r → IsFirstBelow end other x r
      by (Some p) is = (is.0, first_same found other end x p same is.0 is.1)
      by None is = λ q less there. is q less (sym (same q less) ∙ there)

  -- a first place stays the first where other things are found behind it
  pub first_stays : (found other : ℕ → Option X) (end : ℕ) (x : X) (p : ℕ) → ((q : ℕ) → q < end → other q ≡ found q) → ((q : ℕ) → end ≤ q → found q ≡ None) → IsFirst found x p → IsFirst other x p
  first_stays found other end x p same past is = elim (cases_lt p end) [
    | inl less ↦ first_same found other end x p same less is
    | inr behind ↦ absurd (none-some x (sym (past p behind) ∙ is.there))
  ]

  -- ---- the whole table

  pub is_first : (found : ℕ → Option X) (end : ℕ) (x : X) (p : ℕ) (r : Option ℕ) → r ≡ Some p → IsFirstBelow end found x r → IsFirst found x p
  is_first found end x p r at is = let there : IsFirstBelow end found x (Some p) = subst (IsFirstBelow end found x) at is in there.1

  pub is_nowhere : (found : ℕ → Option X) (end : ℕ) (x : X) (r : Option ℕ) → ((q : ℕ) → end ≤ q → found q ≡ None) → r ≡ None → IsFirstBelow end found x r → IsNowhere found x
  is_nowhere found end x r past at is p there = elim (cases_lt p end) [
    | inl less ↦ (let none : IsFirstBelow end found x None = subst (IsFirstBelow end found x) at is in none p less there)
    | inr behind ↦ none-some x (sym (past p behind) ∙ there)
  ]
