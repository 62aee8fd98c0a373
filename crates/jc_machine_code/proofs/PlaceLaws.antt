-- Maps of places, filled from the last item to the first.
use Rattle.std.proofs.Common.{◌≡◌, ℕ, ◌≤◌, Bool, List, drop, sym, ◌∙◌, subst, arith}
use Rattle.std.specs.Borrow.{Bor}
use Rattle.std.specs.List.{position_from}
use Rattle.std.specs.Map.{lookup}
use Rattle.std.proofs.lemmas.Iterator.Adapters.{position_from-zero}
use Rattle.jc_methods.specs.declared.body.Use.{Use}
use Rattle.jc_methods.specs.declared.body.What.{What}
use Rattle.jc_machine_code.specs.Places.{ArePlaces, AreWhats}

module _ {K X : Type 0} (same : K → K → Bool) (has : K → X → Bool) (xs : List X) where
  -- the map has the places from this one on
  abbrev pub AreFrom : ℕ → List (K × ℕ) → Type 0
  AreFrom i entries = (k : K) → lookup (same k) entries ≡ position_from (has k) i (drop i xs)

  pub all_noted : (i : ℕ) (entries : List (K × ℕ)) → i ≤ 0 → AreFrom i entries → ArePlaces same has xs entries
  all_noted i entries none from k =
      let e : i ≡ 0 = omega arith in
      subst (λ n. AreFrom n entries) e from k ∙ sym (position_from-zero (has k) xs)

-- the map has what is used from this entry on
abbrev pub AreWhatsFrom : List Use → ℕ → List (ℕ × Bor What) → Type 0
AreWhatsFrom uses i entries = AreWhats (drop i uses) entries
