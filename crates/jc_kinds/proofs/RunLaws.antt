-- Runs of equal types, from the last to the first.
use Rattle.std.proofs.Common.{◌≡◌, ◌≢◌, ◌⊎◌, ℕ, ◌+◌, ◌<◌, ◌≤◌, Bool, true, false, List, length, inl, inr, refl, sym, ap, ◌∙◌, subst, ⊎_elim, arith, get_or, set, get_or-set_same, get_or-set_other}
use Rattle.std.proofs.lemmas.List.{length-set}
use Rattle.std.proofs.lemmas.Bool.{cases_lt, eqb-true, eq-eqb, false_from_ne_true}
use Rattle.jc_methods.specs.declared.kind.Kind.{Kind}
use Rattle.jc_methods.specs.declared.kind.Kind.TheVariants as kinds
use Rattle.jc_kinds.specs.KindFits.{kind_fits}
use Rattle.jc_kinds.specs.Runs.{key_of, kind_at, is_loose, IsEnd, AreEnds, IsFirstUnfit}

cases_first : (i k : ℕ) → i ≤ k → (k ≡ i) ⊎ (i + 1 ≤ k)
cases_first i k le = ⊎_elim (λ lt. inr (omega (arith, lt))) (λ ge. inl (omega (arith, le, ge))) (cases_lt i k)

-- ---- where runs end

pub longer : (loose : Bool) (column : List Kind) (i e : ℕ) → key_of loose (kind_at column i) ≡ key_of loose (kind_at column (i + 1)) → IsEnd loose column (i + 1) e → IsEnd loose column i e
longer loose column i e same h = record {
  above = omega (arith, h.above);
  within = h.within;
  alike = λ k le lt. ⊎_elim (λ q. ap (λ (j : ℕ). key_of loose (kind_at column j)) q) (λ more. h.alike k more lt ∙ sym same) (cases_first i k le);
  other = λ lt q. h.other lt (q ∙ same);
}

pub single : (loose : Bool) (column : List Kind) (i : ℕ) → i < length column
    → (i + 1 < length column → key_of loose (kind_at column i) ≢ key_of loose (kind_at column (i + 1))) → IsEnd loose column i (i + 1)
single loose column i within differ = record {
  above = omega arith;
  within = omega (arith, within);
  alike = λ k le lt. ap (λ (j : ℕ). key_of loose (kind_at column j)) (let e : k ≡ i = omega (arith, le, lt) in e);
  other = λ lt q. differ lt (sym q);
}

pub one_more : (loose : Bool) (column : List Kind) (i e : ℕ) (ends ends' : List ℕ) → i < length column → AreEnds loose column (i + 1) ends
    → IsEnd loose column i e → ends' ≡ set ends i e → AreEnds loose column i ends'
one_more loose column i e ends ends' within all here is = record {
  size = ap length is ∙ length-set ends i e ∙ all.size;
  each = λ k le lt. let lti : i < length ends = omega (arith, all.size, within) in
      ⊎_elim
      (λ q. subst (λ (j : ℕ). IsEnd loose column j (get_or ends' j 0)) (sym q) (subst (IsEnd loose column i) (sym (ap (λ (l : List ℕ). get_or l i 0) is ∙ get_or-set_same ends i e 0 lti)) here))
      (λ more. let ne : k ≢ i = omega (arith, more) in subst (IsEnd loose column k) (sym (ap (λ (l : List ℕ). get_or l k 0) is ∙ get_or-set_other ends i k e 0 ne)) (all.each k more lt))
      (cases_first i k le);
}

-- ---- what fits has the key of what is wanted

pub key-wanted : (want kind : Kind) → want ≢ kinds.Top → kind_fits kind want ≡ true → key_of (is_loose want) kind ≡ key_of (is_loose want) want
key-wanted kinds.Top kind nt f = absurd (nt refl)
key-wanted kinds.Int kinds.Int nt f = refl
key-wanted kinds.Float kinds.Float nt f = refl
key-wanted kinds.Double kinds.Double nt f = refl
key-wanted kinds.Long kinds.Long nt f = refl
key-wanted kinds.Null kinds.Null nt f = refl
key-wanted kinds.UninitThis kinds.UninitThis nt f = refl
key-wanted (kinds.Object n) kinds.Null nt f = refl
key-wanted (kinds.Object n) (kinds.Object m) nt f = refl
key-wanted (kinds.Uninit p) (kinds.Uninit q) nt f = ap kinds.Uninit (eqb-true q p f)
key-wanted want kind nt f = cc

pub fits-key : (want kind : Kind) → key_of (is_loose want) kind ≡ key_of (is_loose want) want → kind_fits kind want ≡ true
fits-key kinds.Top kind e = refl
fits-key kinds.Int kinds.Int e = refl
fits-key kinds.Float kinds.Float e = refl
fits-key kinds.Double kinds.Double e = refl
fits-key kinds.Long kinds.Long e = refl
fits-key kinds.Null kinds.Null e = refl
fits-key kinds.UninitThis kinds.UninitThis e = refl
fits-key (kinds.Object n) kinds.Null e = refl
fits-key (kinds.Object n) (kinds.Object m) e = refl
fits-key (kinds.Uninit p) (kinds.Uninit q) e = let same : q ≡ p = cc in eq-eqb q p same
fits-key want kind e = cc

-- ---- the first place that doesn't fit, by one run

pub by_run : (column : List Kind) (want : Kind) (start end e r : ℕ) → want ≢ kinds.Top → start < end → end ≤ length column → IsEnd (is_loose want) column start e
    → kind_fits (kind_at column start) want ≡ true → r ≤ e → r ≤ end → (r ≡ e) ⊎ (r ≡ end) → IsFirstUnfit column want start end r
by_run column want start end e r nt lt within run f le le' which = record {
  within = le';
  from = ⊎_elim (λ q. omega (arith, q, run.above)) (λ q. omega (arith, q, lt)) which;
  fitting = λ k low less. fits-key want (kind_at column k) (run.alike k low (omega (arith, less, le)) ∙ key-wanted want (kind_at column start) nt f);
  unfit = λ less. ⊎_elim
      (λ q. let inside : e < length column = omega (arith, q, less, within) in
      ap (λ (j : ℕ). kind_fits (kind_at column j) want) q
      ∙ false_from_ne_true _ (λ g. run.other inside (key-wanted want (kind_at column e) nt g ∙ sym (key-wanted want (kind_at column start) nt f))))
      (λ q. absurd (omega (arith, q, less)))
      which;
}

-- the first one doesn't fit
pub at_once : (column : List Kind) (want : Kind) (start end : ℕ) → start < end → kind_fits (kind_at column start) want ≡ false → IsFirstUnfit column want start end start
at_once column want start end lt unfit = record {
  within = omega (arith, lt);
  from = omega arith;
  fitting = λ k low less. absurd (omega (arith, low, less));
  unfit = λ less. unfit;
}

-- anything fits
pub all_fit : (column : List Kind) (start end : ℕ) → start < end → IsFirstUnfit column kinds.Top start end end
all_fit column start end lt = record {
  within = omega arith;
  from = omega (arith, lt);
  fitting = λ k low less. refl;
  unfit = λ less. absurd (omega (arith, less));
}
