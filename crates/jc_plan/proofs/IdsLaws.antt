-- The ids of a body's probes.
use Rattle.std.proofs.Common.{◌≡◌, ◌⊎◌, inl, inr, ⊎_elim, ℕ, ◌+◌, ◌<◌, ◌≤◌, Bool, true, false, ◌&&◌, nat_eq, nat_lt, sym, ◌∙◌, arith}
use Rattle.std.specs.Prelude.{Contains}
use Rattle.std.proofs.lemmas.Bool.{and_parts, and_from, or_cases, or_left, or_right, ltb-true, lt-ltb, eqb-true, eq-eqb, cases_order, false_from_ne_true, both_ways}
use Rattle.jc_methods.specs.declared.body.Body.{Body}
use Rattle.jc_plan.specs.declared.branch.Branch.{Branch}
use Rattle.jc_plan.specs.Edges.{branches}
use Rattle.jc_plan.specs.Probed.{Position, is_before, position_of, is_probed, probes_before, id_of, probe_count}
use Rattle.jc_plan.proofs.CountLaws.{count_lt}

-- ---- positions

pub record Before (p q : Position) : Type 0 where
  pub is : (p.at < q.at) ⊎ ((p.at ≡ q.at) × (p.number < q.number))

pub before_to : (p q : Position) → is_before p q ≡ true → Before p q
before_to p q h =
    ⊎_elim (λ a. record { is = inl (ltb-true p.at q.at a) })
    (λ b. let both = and_parts (nat_eq p.at q.at) (nat_lt p.number q.number) b in record { is = inr (eqb-true p.at q.at both.0, ltb-true p.number q.number both.1) })
    (or_cases (nat_lt p.at q.at) (nat_eq p.at q.at && nat_lt p.number q.number) h)

pub before_from : (p q : Position) → Before p q → is_before p q ≡ true
before_from p q b =
    ⊎_elim (λ a. or_left (nat_lt p.at q.at) (nat_eq p.at q.at && nat_lt p.number q.number) (lt-ltb p.at q.at a))
    (λ c. or_right (nat_lt p.at q.at) (nat_eq p.at q.at && nat_lt p.number q.number) (and_from (nat_eq p.at q.at) (nat_lt p.number q.number) (eq-eqb p.at q.at c.0) (lt-ltb p.number q.number c.1)))
    b.is

before_before : (p q r : Position) → is_before p q ≡ true → is_before q r ≡ true → is_before p r ≡ true
before_before p q r h k =
    before_from p r
    (⊎_elim
    (λ a. ⊎_elim (λ c. record { is = inl (omega (arith, a, c)) }) (λ d. record { is = inl (omega (arith, a, d.0)) }) (before_to q r k).is)
    (λ b. ⊎_elim (λ c. record { is = inl (omega (arith, b.0, c)) }) (λ d. record { is = inr (b.0 ∙ d.0, omega (arith, b.1, d.1)) }) (before_to q r k).is)
    (before_to p q h).is)

pub not_before_itself : (p : Position) → is_before p p ≡ false
not_before_itself p = false_from_ne_true (is_before p p) (λ h. ⊎_elim (λ a. omega (arith, a)) (λ b. omega (arith, b.1)) (before_to p p h).is)

compared : (p q : Position) → (p ≡ q) ⊎ ((is_before p q ≡ true) ⊎ (is_before q p ≡ true))
compared p q =
    ⊎_elim
    (λ same.
    ⊎_elim (λ equal. inl (λ k. record { at = same k; number = equal k }))
    (λ apart. ⊎_elim (λ a. inr (inl (before_from p q (record { is = inr (same, a) })))) (λ b. inr (inr (before_from q p (record { is = inr (sym same, b) })))) apart)
    (cases_order p.number q.number))
    (λ apart. ⊎_elim (λ a. inr (inl (before_from p q (record { is = inl a })))) (λ b. inr (inr (before_from q p (record { is = inl b })))) apart)
    (cases_order p.at q.at)

-- ---- ids

module _ (b : Body) where
  abbrev counted : Position → Branch → Bool
  counted p x = is_probed b x && is_before (position_of x) p

  later_more : (x y : Branch) → Contains (branches b.code) x → is_probed b x ≡ true → is_before (position_of x) (position_of y) ≡ true
      → probes_before b (position_of x) < probes_before b (position_of y)
  later_more x y c probed h =
      count_lt (counted (position_of x)) (counted (position_of y)) (branches b.code) x
      (λ z k. let both = and_parts (is_probed b z) (is_before (position_of z) (position_of x)) k in
      and_from (is_probed b z) (is_before (position_of z) (position_of y)) both.0 (before_before (position_of z) (position_of x) (position_of y) both.1 h))
      c
      (false_from_ne_true (counted (position_of x) x)
      (λ k. both_ways (is_before (position_of x) (position_of x)) (not_before_itself (position_of x))
      (and_parts (is_probed b x) (is_before (position_of x) (position_of x)) k).1))
      (and_from (is_probed b x) (is_before (position_of x) (position_of y)) probed h)

  -- the ids rise with the positions
  pub ids_rise : (first : ℕ) (x y : Branch) → Contains (branches b.code) x → is_probed b x ≡ true → is_before (position_of x) (position_of y) ≡ true → id_of b first x < id_of b first y
  ids_rise first x y c probed h = omega (arith, later_more x y c probed h)

  -- one id, one position
  pub one_position : (first : ℕ) (x y : Branch) → Contains (branches b.code) x → Contains (branches b.code) y → is_probed b x ≡ true
      → is_probed b y ≡ true → id_of b first x ≡ id_of b first y → position_of x ≡ position_of y
  one_position first x y c d probed other e =
      ⊎_elim (λ same. same)
      (λ apart.
      ⊎_elim (λ h. absurd (omega (arith, ids_rise first x y c probed h, e))) (λ h. absurd (omega (arith, ids_rise first y x d other h, e))) apart)
      (compared (position_of x) (position_of y))

  -- each id is one of the body's
  pub ids_within : (first : ℕ) (x : Branch) → Contains (branches b.code) x → is_probed b x ≡ true → (first ≤ id_of b first x) × (id_of b first x < first + probe_count b)
  ids_within first x c probed =
      let below = count_lt (counted (position_of x)) (is_probed b) (branches b.code) x (λ z k. (and_parts (is_probed b z) (is_before (position_of z) (position_of x)) k).0) c
      (false_from_ne_true (counted (position_of x) x)
      (λ k. both_ways (is_before (position_of x) (position_of x)) (not_before_itself (position_of x))
      (and_parts (is_probed b x) (is_before (position_of x) (position_of x)) k).1)) probed in
      (omega arith, omega (arith, below))
