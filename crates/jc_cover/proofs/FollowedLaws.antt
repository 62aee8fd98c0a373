-- Covered edges and taken edges.
use Rattle.std.proofs.Common.{◌≡◌, ℕ, zero, suc, ◌+◌, ◌<◌, Bool, true, false, List, [], ◌∷◌, Some, refl, ap, subst, arith}
use Rattle.std.specs.Prelude.{Contains, IsTrue, slice_get}
use Rattle.jc_methods.specs.declared.body.Body.{Body}
use Rattle.jc_plan.specs.declared.branch.Branch.{Branch}
use Rattle.jc_plan.specs.Edges.{branches}
use Rattle.jc_plan.specs.Leading.{IsOneWay}
use Rattle.jc_plan.specs.Probed.{is_probed, id_of, id_if, first_id}
use Rattle.jc_plan.specs.ClassEdges.{ClassEdge, edge_in}
use Rattle.jc_plan.proofs.ClassEdgesLaws.{one_class_edge}
use Rattle.jc_plan.proofs.OneWayLaws.{one_way}
use Rattle.jc_cover.specs.Covered.{IsChain, Covered, IsCovered}
use Rattle.jc_cover.specs.Followed.{CameTo, began, caught, led, AreEntered, AreFollowed, AreHitReached, AreTakenHit, in_body, TookSometime, IsIdOf, CoversReached, CoversTaken}
use Rattle.jc_cover.proofs.ChainLaws.{chain_listed, covered_unprobed}

module _ (b : Body) (first : ℕ) (hits : List Bool) where
  module _ (Took Reached : Branch → Type 0) (entered : AreEntered b Took Reached) where
    -- what came to where an edge without a probe leads took that edge
    took_it : (x : Branch) (i : ℕ) → IsOneWay b x i → CameTo b Took i → Took x
    took_it x i one (began e) = absurd (one.not_first e)
    took_it x i one (caught row c e) = absurd (one.no_handler row c e)
    took_it x i one (led y c leads took) = subst Took (one.single y c leads) took

    along : AreHitReached b first hits Reached → (x : Branch) (rest : List Branch) → IsChain b first hits (x ∷ rest) → Reached x
    along last x [] c = last x c.0 c.1.0 c.1.1
    along last x (y ∷ rest) c =
        entered.reached x
        (took_it x y.at (one_way b x y.at c.0 c.1.0 c.1.1)
        (entered.came y (chain_listed b first hits y rest c.2) (along last y rest c.2)))

    pub covered_reached : AreHitReached b first hits Reached → (x : Branch) → Covered b first hits x → Reached x
    covered_reached last x c = along last x c.0 c.1

  module _ (Took : Branch → ℕ → Type 0) (followed : AreFollowed b Took) (hit : AreTakenHit b first hits Took) where
    within : (n : ℕ) (x : Branch) (left : ℕ) → left < n → Took x left → Covered b first hits x
    within zero x left lt took = absurd (omega arith)
    within (suc n) x left lt took = by (λ y later less took. within n y later (omega (arith, less, lt)) took) (is_probed b x) refl
      where
        by : ((y : Branch) (later : ℕ) → later < left → Took y later → Covered b first hits y) → (p : Bool) → is_probed b x ≡ p → Covered b first hits x
        by again true e = ([], (followed.listed x left took, (e, hit x left took e)))
        by again false e =
            let next = followed.next x left took e in
            (covered_unprobed b first hits x next.0.at (followed.listed x left took) e next.3).1 (next.0, refl, again next.0 next.1 next.2 next.4)

    pub taken_covered : (x : Branch) (left : ℕ) → Took x left → Covered b first hits x
    taken_covered x left took = within (left + 1) x left (omega arith) took

-- ---- in a class

module _ (bodies : List Body) (hits : List Bool) where
  -- the probed edge of a body is the one edge of its id, so what holds of some edge of that id holds of it
  of_its_id : (Fact : ClassEdge → Type 0) (n : ℕ) (b : Body) (x : Branch) → slice_get bodies n ≡ Some b → Contains (branches b.code) x → IsTrue (is_probed b x)
      → IsIdOf bodies Fact (id_of b (first_id bodies n) x) → Fact (edge_in n x)
  of_its_id Fact n b x stands listed probed known =
      subst Fact
      (one_class_edge bodies known.0 (edge_in n x) (id_of b (first_id bodies n) x) known.1
      (record { body = b; stands = stands; listed = listed; probe = ap (λ t. id_if t (id_of b (first_id bodies n) x)) probed }))
      known.2

  pub class_reached : (Took Reached : ClassEdge → Type 0) → CoversReached bodies Took Reached hits
  class_reached Took Reached entered each e c =
      covered_reached c.body (first_id bodies e.body) hits (in_body e.body Took) (in_body e.body Reached) (entered e.body c.body c.stands)
      (λ y listed probed hit. of_its_id Reached e.body c.body y c.stands listed probed (each (id_of c.body (first_id bodies e.body) y) hit))
      e.branch c.covered

  pub class_taken : (Took : ClassEdge → ℕ → Type 0) → CoversTaken bodies Took hits
  class_taken Took entered followed edges each e = (to, from)
    where
      to : IsCovered bodies hits e → TookSometime Took e
      to = class_reached (TookSometime Took) (TookSometime Took) entered (λ id hit. (each id).0 hit) e

      from : TookSometime Took e → IsCovered bodies hits e
      from took =
          let is = edges e took in
          record {
            body = is.body;
            stands = is.stands;
            covered = taken_covered is.body (first_id bodies e.body) hits (λ x left. Took (edge_in e.body x) left) (followed e.body is.body is.stands)
                (λ x left took probed. (each (id_of is.body (first_id bodies e.body) x)).1 (
                  edge_in e.body x,
                  record {
                    body = is.body;
                    stands = is.stands;
                    listed = (followed e.body is.body is.stands).listed x left took;
                    probe = ap (λ t. id_if t (id_of is.body (first_id bodies e.body) x)) probed;
                  },
                  (left, took),
                ))
                e.branch took.0 took.1;
          }
