-- Chains of edges, and the rule that they follow.
use Rattle.std.proofs.Common.{◌≡◌, ◌↔◌, ℕ, Bool, true, false, List, [], ◌∷◌, Some, sym, ap, ◌∙◌}
use Rattle.std.specs.Prelude.{Contains, IsTrue}
use Rattle.std.proofs.lemmas.Bool.{both_ways}
use Rattle.std.proofs.lemmas.Option.{same_Some}
use Rattle.jc_methods.specs.declared.body.Body.{Body}
use Rattle.jc_plan.specs.declared.branch.Branch.{Branch}
use Rattle.jc_plan.specs.Edges.{branches}
use Rattle.jc_plan.specs.Leading.{LeadsTo}
use Rattle.jc_plan.specs.Probed.{is_probed, id_of}
use Rattle.jc_cover.specs.Covered.{is_hit, IsChain, Covered, CoveredInsn, CoveredByRule, by_probe, by_next}

module _ (b : Body) (first : ℕ) (hits : List Bool) where
  -- the first edge of a chain is one of the body
  pub chain_listed : (x : Branch) (rest : List Branch) → IsChain b first hits (x ∷ rest) → Contains (branches b.code) x
  chain_listed x [] c = c.0
  chain_listed x (y ∷ rest) c = c.0

  to_rule : (x : Branch) (rest : List Branch) → IsChain b first hits (x ∷ rest) → CoveredByRule b first hits x
  to_rule x [] c = by_probe x c.0 c.1
  to_rule x (y ∷ rest) c = by_next x y c.0 c.1 (to_rule y rest c.2)

  from_rule : (x : Branch) → CoveredByRule b first hits x → Covered b first hits x
  from_rule _ (by_probe x c h) = ([], (c, h))
  from_rule _ (by_next x y c l r) = let more = from_rule y r in (y ∷ more.0, (c, l, more.1))

  pub by_rule : (x : Branch) → Covered b first hits x ↔ CoveredByRule b first hits x
  by_rule x = ((λ c. to_rule x c.0 c.1), from_rule x)

  pub covered_probed : (x : Branch) → Contains (branches b.code) x → IsTrue (is_probed b x) → Covered b first hits x ↔ IsTrue (is_hit hits (id_of b first x))
  covered_probed x listed probed = ((λ c. to c.0 c.1), (λ h. ([], (listed, (probed, h)))))
    where
      to : (rest : List Branch) → IsChain b first hits (x ∷ rest) → is_hit hits (id_of b first x) ≡ true
      to [] c = c.1.1
      to (y ∷ rest) c = absurd (both_ways (is_probed b x) c.1.0 probed)

  pub covered_unprobed : (x : Branch) (i : ℕ) → Contains (branches b.code) x → is_probed b x ≡ false → LeadsTo x i → Covered b first hits x ↔ CoveredInsn b first hits i
  covered_unprobed x i listed unprobed there = ((λ c. to c.0 c.1), from)
    where
      to : (rest : List Branch) → IsChain b first hits (x ∷ rest) → CoveredInsn b first hits i
      to [] c = absurd (both_ways (is_probed b x) unprobed c.1.0)
      to (y ∷ rest) c = (y, same_Some y.at i (sym c.1.1 ∙ there), (rest, c.2))

      from : CoveredInsn b first hits i → Covered b first hits x
      from c = (c.0 ∷ c.2.0, (listed, (unprobed, there ∙ ap Some (sym c.1)), c.2.1))
