-- The cases behind which dumps are due.
use Rattle.std.proofs.Common.{◌≡◌, ℕ, ◌+◌, ◌-◌, ◌*◌, ◌/◌, ◌%◌, ◌<◌, ◌≤◌, ⊎_elim, subst, arith}
use Rattle.std.proofs.lemmas.Bool.{cases_eq, cases_lt}
use Rattle.std.proofs.lemmas.Nat.{div-add-mod', mod-mul-add, div-mul-add, mod_below, le-div, row_fits}
use Rattle.jc_dump.specs.HasRun.{IsDue, last_case}

module _ (every : ℕ) (some : 0 < every) where
  -- a number in its group of `every`
  pub parts : (k : ℕ) → k / every * every + k % every ≡ k
  parts k = div-add-mod' k every

  pub next_due : (k : ℕ) → IsDue every k → (k + 1) % every ≡ 0
  next_due k due =
      let is : (k / every + 1) * every + 0 ≡ k + 1 = omega (arith, parts k, due, one_more (k / every)) in
      subst (λ (n : ℕ). n % every ≡ 0) is (mod-mul-add (k / every + 1) every 0 some)
    where
      one_more : (q : ℕ) → (q + 1) * every ≡ q * every + every
      one_more q = omega arith

  pub next_not_due : (k : ℕ) → (IsDue every k → ⊥) → (k + 1) % every ≡ k % every + 1
  next_not_due k not =
      let low : k % every + 1 < every = below (mod_below k every some) in
      let is : k / every * every + (k % every + 1) ≡ k + 1 = omega (arith, parts k) in
      subst (λ (n : ℕ). n % every ≡ k % every + 1) is (mod-mul-add (k / every) every (k % every + 1) low)
    where
      below : k % every < every → k % every + 1 < every
      below lt = ⊎_elim (λ x. x) (λ ge. absurd (not (omega (arith, ge, lt)))) (cases_lt (k % every + 1) every)

  pub due_next : (k : ℕ) → (k + 1) % every ≡ 0 → IsDue every k
  due_next k zero_is = ⊎_elim (λ due. due) (λ not. absurd (omega (arith, next_not_due k not, zero_is))) (cases_eq (k % every + 1) every)

  -- the last case of each group
  pub last_due : (d : ℕ) → IsDue every (last_case every d)
  last_due d = omega (arith, mod-mul-add d every (every - 1) (omega (arith, some)), some)

  pub last_number : (d : ℕ) → last_case every d / every ≡ d
  last_number d = div-mul-add d every (every - 1) (omega (arith, some))

  pub due_last : (k : ℕ) → IsDue every k → k ≡ last_case every (k / every)
  due_last k due = omega (arith, parts k, due)

  -- it is a case where its dump is one of those
  pub last_below : (d n : ℕ) → d < n / every → last_case every d < n
  last_below d n lt = omega (arith, parts n, some, group)
    where
      group : d * every + every ≤ n / every * every
      group = row_fits d every (n / every) every lt (omega arith)

  pub below_last : (d n : ℕ) → last_case every d < n → d < n / every
  below_last d n lt = omega (arith, le-div (d + 1) n every some (omega (arith, lt, some, one_more d)))
    where
      one_more : (q : ℕ) → (q + 1) * every ≡ q * every + every
      one_more q = omega arith
