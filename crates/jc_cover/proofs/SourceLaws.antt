-- The table of sources.
use Rattle.std.proofs.Common.{◌≡◌, ◌⊎◌, inl, inr, ⊎_elim, ℕ, ◌<◌, Bool, true, false, List, [], ◌∷◌, length, replicate, get_or, Option, Some, None, refl, sym, ap, ◌∙◌, subst, arith}
use Rattle.std.specs.Prelude.{Contains, slice_set}
use Rattle.std.proofs.lemmas.Bool.{both_ways, cases_order}
use Rattle.std.proofs.lemmas.Option.{same_Some, none-some, slice_get_within}
use Rattle.std.proofs.lemmas.List.{get_or-set_same, get_or-set_other, length-set, length-replicate, get_or-replicate}
use Rattle.jc_methods.specs.declared.body.Body.{Body}
use Rattle.jc_plan.specs.declared.branch.Branch.{Branch}
use Rattle.jc_plan.specs.Edges.{place_of, branches}
use Rattle.jc_plan.specs.Leading.{LeadsTo}
use Rattle.jc_plan.specs.Probed.{is_probed}
use Rattle.jc_bytes.proofs.BooleanLaws.{none_in, which_in, first_in, later_in}
use Rattle.jc_plan.proofs.OneWayLaws.{standing, one_way}
use Rattle.jc_cover.specs.Marking.{with_edge, with_edges, sources}

-- one edge: it is the source of the place, or the place keeps its source
step : (p : Bool) (to : Option ℕ) (at t : ℕ) (table : List (Option ℕ)) → t < length table
    → ((p ≡ false) × (to ≡ Some t) × (get_or (with_edge p to at table) t None ≡ Some at)) ⊎ ((p ≡ false → to ≡ Some t → ⊥) × (get_or (with_edge p to at table) t None ≡ get_or table t None))
step true to at t table lt = inr ((λ p e. both_ways true p refl), refl)
step false None at t table lt = inr ((λ p e. none-some t e), refl)
step false (Some to) at t table lt =
    ⊎_elim
    (λ same. inl (refl, ap Some same, subst (λ k. get_or (slice_set table k (Some at)) t None ≡ Some at) (sym same) (get_or-set_same table t (Some at) None lt)))
    (λ apart. let other : t ≡ to → ⊥ = λ e. differ apart (sym e) in inr ((λ p e. differ apart (same_Some to t e)), get_or-set_other table to t (Some at) None other))
    (cases_order to t)
  where
    differ : (to < t) ⊎ (t < to) → to ≡ t → ⊥
    differ (inl lt) e = omega (arith, lt, e)
    differ (inr lt) e = omega (arith, lt, e)

length_step : (p : Bool) (to : Option ℕ) (at : ℕ) (table : List (Option ℕ)) → length (with_edge p to at table) ≡ length table
length_step true to at table = refl
length_step false None at table = refl
length_step false (Some to) at table = length-set table to (Some at)

module _ (b : Body) where
  -- an edge without a probe leads from there
  pub record ComesFrom (xs : List Branch) (t at : ℕ) : Type 0 where
    pub edge : Branch
    pub listed : Contains xs edge
    pub unprobed : is_probed b edge ≡ false
    pub leads : LeadsTo edge t
    pub begins : edge.at ≡ at

  tabled : (xs : List Branch) (table : List (Option ℕ)) (t : ℕ) → t < length table
      → ((at : ℕ) × ComesFrom xs t at × (get_or (with_edges b xs table) t None ≡ Some at))
      ⊎ (((x : Branch) → Contains xs x → is_probed b x ≡ false → LeadsTo x t → ⊥) × (get_or (with_edges b xs table) t None ≡ get_or table t None))
  tabled [] table t lt = inr ((λ x c p l. none_in x c), refl)
  tabled (x ∷ xs) table t lt =
      ⊎_elim
      (λ found. let more = found.1 in
      inl (
        found.0,
        record {
          edge = more.edge;
          listed = later_in x xs more.edge more.listed;
          unprobed = more.unprobed;
          leads = more.leads;
          begins = more.begins;
        },
        found.2,
      ))
      (λ none.
      ⊎_elim
      (λ here. inl (x.at, record { edge = x; listed = first_in x xs; unprobed = here.0; leads = here.1; begins = refl }, none.1 ∙ here.2))
      (λ not_here. inr (
        (λ y c p l.
            ⊎_elim
            (λ same. not_here.0 (ap (is_probed b) same ∙ p) (ap (λ z. place_of z.way) same ∙ l))
            (λ later. none.0 y later p l)
            (which_in x xs y c)),
        none.1 ∙ not_here.1,
      ))
      (step (is_probed b x) (place_of x.way) x.at t table lt))
      (tabled xs (with_edge (is_probed b x) (place_of x.way) x.at table) t (subst (λ n. t < n) (sym (length_step (is_probed b x) (place_of x.way) x.at table)) lt))

  whole : (t : ℕ) → t < length b.code → t < length (replicate {A = Option ℕ} (length b.code) None)
  whole t lt = subst (λ n. t < n) (sym (length-replicate {A = Option ℕ} (length b.code) None)) lt

  -- what stands in the table is where an edge without a probe comes from
  pub source_is : (t at : ℕ) → t < length b.code → get_or (sources b) t None ≡ Some at → ComesFrom (branches b.code) t at
  source_is t at lt e =
      ⊎_elim
      (λ found. subst (ComesFrom (branches b.code) t) (same_Some found.0 at (sym found.2 ∙ e)) found.1)
      (λ none. absurd (none-some at (sym (none.1 ∙ get_or-replicate {A = Option ℕ} (length b.code) t None None lt) ∙ e)))
      (tabled (branches b.code) (replicate (length b.code) None) t (whole t lt))

  -- and each stands there
  pub source_told : (x : Branch) (t : ℕ) → t < length b.code → Contains (branches b.code) x → is_probed b x ≡ false → LeadsTo x t → get_or (sources b) t None ≡ Some x.at
  source_told x t lt c unprobed leads =
      ⊎_elim
      (λ found.
      let from = found.1 in
      let same : from.edge ≡ x = (one_way b x t c unprobed leads).single from.edge from.listed from.leads in
      found.2 ∙ ap Some (sym from.begins ∙ ap (λ y. y.at) same))
      (λ none. absurd (none.0 x c unprobed leads))
      (tabled (branches b.code) (replicate (length b.code) None) t (whole t lt))

  -- an edge of the body begins inside it
  pub begins_within : (x : Branch) → Contains (branches b.code) x → x.at < length b.code
  begins_within x c = let s = standing b.code x c in slice_get_within b.code x.at s.insn s.stands
