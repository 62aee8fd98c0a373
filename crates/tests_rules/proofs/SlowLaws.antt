-- What the slow program finds is what the status of a line is about.
use Rattle.std.proofs.Common.{◌≡◌, ◌⊎◌, inl, inr, ⊎_elim, ℕ, zero, suc, ◌+◌, ◌≤◌, Bool, true, false, cond, List, [], ◌∷◌, filter, length, Option, Some, None, refl, sym, ◌∙◌, ap, subst, arith, zero-add}
use Rattle.std.specs.Prelude.{Contains, slice_get, nat_le}
use Rattle.std.specs.List.{list_any}
use Rattle.std.proofs.lemmas.Bool.{le-leb, leb-true}
use Rattle.std.proofs.lemmas.Option.{none-some, same_Some}
use Rattle.jc_bytes.proofs.BooleanLaws.{both, either, instead, equal_decided, at_most_decided, any_decided, first_in, later_in, which_in, none_in}
use Rattle.jc_bytes.proofs.DecidingLaws.{Decides}
use Rattle.jc_methods.specs.declared.body.LineAt.{LineAt}
use Rattle.jc_cover.specs.Counters.{Method, is_covered, is_counted, line_of, IsLineOf}
use Rattle.jc_cover.proofs.LineLaws.{line_found, one_line}
use Rattle.jc_rules.specs.Status.{items_of, HasItem, IsLineStatus}
use Rattle.jc_rules.specs.declared.status.LineState.{LineState}
use Rattle.jc_rules.specs.declared.status.LineState.TheVariants.{Empty, Not, Partly, Fully}
use Rattle.tests_rules.specs.Slow.{is_value, has_value, has_item, is_line, any_from, is_here, is_in_counted}

-- ---- one instruction

value_decided : (covered value : Bool) → Decides (is_value covered value) (value ≡ covered)
value_decided true value = record { to = λ h. h; back = λ h. h }
value_decided false true = record { to = λ h. sym h; back = λ h. sym h }
value_decided false false = record { to = λ h. refl; back = λ h. refl }

values_decided : (covered : Bool) (values : List Bool) → Decides (has_value covered values) (Contains values covered)
values_decided covered values =
    instead (any_decided (is_value covered) (λ value. value ≡ covered) (value_decided covered) values) (λ h. subst (Contains values) h.2 h.1) (λ h. (covered, h, refl))

item_decided : (covered : Bool) (values : List Bool) → Decides (has_item covered values) (Contains (items_of values) covered)
item_decided covered values =
    instead (either (value_decided covered (has_value true values)) (both (at_most_decided 2 (length values)) (values_decided covered values))) to (from (nat_le 2 (length values)) refl)
  where
    branches : Bool → List Bool
    branches two = cond two values []

    to : (has_value true values ≡ covered) ⊎ ((2 ≤ length values) × Contains values covered) → Contains (is_covered values ∷ branches (nat_le 2 (length values))) covered
    to (inl same) = subst (λ v. Contains (v ∷ branches (nat_le 2 (length values))) covered) (sym same) (first_in covered (branches (nat_le 2 (length values))))
    to (inr more) =
        later_in (is_covered values) (branches (nat_le 2 (length values))) covered
        (subst (λ two. Contains (branches two) covered) (sym (le-leb 2 (length values) more.0)) more.1)

    from : (two : Bool) → nat_le 2 (length values) ≡ two → Contains (is_covered values ∷ branches two) covered
        → (has_value true values ≡ covered) ⊎ ((2 ≤ length values) × Contains values covered)
    from true e there = ⊎_elim (λ same. inl same) (λ later. inr (leb-true 2 (length values) e, later)) (which_in (is_covered values) values covered there)
    from false e there = ⊎_elim (λ same. inl same) (λ later. absurd (none_in covered later)) (which_in (is_covered values) [] covered there)

line_decided : (number : ℕ) (line : Option ℕ) → Decides (is_line number line) (line ≡ Some number)
line_decided number None = record { to = λ h. absurd cc; back = λ h. absurd (none-some number h) }
line_decided number (Some line) = instead (equal_decided line number) (λ h. ap Some h) (λ h. same_Some line number h)

-- ---- instructions by their places

record Found {X : Type 0} (Fact : ℕ → X → Type 0) (i : ℕ) (xs : List X) : Type 0 where
  place : ℕ
  item : X
  stands : slice_get xs place ≡ Some item
  fact : Fact (i + place) item

module _ {X : Type 0} (test : ℕ → X → Bool) (Fact : ℕ → X → Type 0) (decided : (i : ℕ) (x : X) → Decides (test i x) (Fact i x)) where
  from_decided : (i : ℕ) (xs : List X) → Decides (any_from test i xs) (Found Fact i xs)
  from_decided i [] = record { to = λ h. absurd cc; back = λ h. absurd (none-some h.item h.stands) }
  from_decided i (x ∷ xs) = instead (either (decided i x) (from_decided (i + 1) xs)) to from
    where
      to : Fact i x ⊎ Found Fact (i + 1) xs → Found Fact i (x ∷ xs)
      to (inl here) = record { place = 0; item = x; stands = refl; fact = let e : i ≡ i + 0 = omega arith in subst (λ k. Fact k x) e here }
      to (inr more) = record {
        place = suc more.place;
        item = more.item;
        stands = more.stands;
        fact = let e : i + 1 + more.place ≡ i + suc more.place = omega arith in subst (λ k. Fact k more.item) e more.fact;
      }

      from : Found Fact i (x ∷ xs) → Fact i x ⊎ Found Fact (i + 1) xs
      from f = by f.place f.stands f.fact
        where
          by : (k : ℕ) → slice_get (x ∷ xs) k ≡ Some f.item → Fact (i + k) f.item → Fact i x ⊎ Found Fact (i + 1) xs
          by zero stands fact =
              let e : i + 0 ≡ i = omega arith in
              inl (subst (Fact i) (sym (same_Some x f.item stands)) (subst (λ k. Fact k f.item) e fact))
          by (suc k) stands fact =
              let e : i + suc k ≡ i + 1 + k = omega arith in
              inr (record { place = k; item = f.item; stands = stands; fact = subst (λ n. Fact n f.item) e fact })

-- ---- a class

abbrev passing : List Method → List Method
passing ms = filter (λ m. is_counted m.body) ms

module _ (number : ℕ) (covered : Bool) where
  abbrev Here : List LineAt → ℕ → List Bool → Type 0
  Here table at values = (line_of table at ≡ Some number) × Contains (items_of values) covered

  here_decided : (table : List LineAt) (at : ℕ) (values : List Bool) → Decides (is_here table number covered at values) (Here table at values)
  here_decided table at values = both (line_decided number (line_of table at)) (item_decided covered values)

  abbrev InMethod : Method → Type 0
  InMethod m = Found (Here m.body.lines) 0 m.insns

  counted_decided : (m : Method) → Decides (is_in_counted number covered m) ((is_counted m.body ≡ true) × InMethod m)
  counted_decided m =
      both (record { to = λ h. h; back = λ h. h }) (from_decided (is_here m.body.lines number covered) (Here m.body.lines) (here_decided m.body.lines) 0 m.insns)

  module _ (methods : List Method) where
    pub class_decided : Decides (list_any (is_in_counted number covered) methods) (HasItem (passing methods) number covered)
    class_decided = instead (any_decided (is_in_counted number covered) (λ m. (is_counted m.body ≡ true) × InMethod m) counted_decided methods) to from
      where
        keeps : (ms : List Method) (m : Method) → is_counted m.body ≡ true → Contains ms m → Contains (passing ms) m
        keeps [] m counts there = absurd (none_in m there)
        keeps (k ∷ ms) m counts there =
            ⊎_elim
            (λ same.
            let passes : is_counted k.body ≡ true = ap (λ (n : Method). is_counted n.body) same ∙ counts in
            subst (λ t. Contains (cond t (k ∷ passing ms) (passing ms)) m) (sym passes) (subst (Contains (k ∷ passing ms)) same (first_in k (passing ms))))
            (λ later. by (is_counted k.body) (keeps ms m counts later)) (which_in k ms m there)
          where
            by : (t : Bool) → Contains (passing ms) m → Contains (cond t (k ∷ passing ms) (passing ms)) m
            by true rest = later_in k (passing ms) m rest
            by false rest = rest

        kept_from : (ms : List Method) (m : Method) → Contains (passing ms) m → Contains ms m × (is_counted m.body ≡ true)
        kept_from [] m there = absurd (none_in m there)
        kept_from (k ∷ ms) m there = by (is_counted k.body) refl (λ rest. let p = kept_from ms m rest in (later_in k ms m p.0, p.1)) there
          where
            by : (t : Bool) → is_counted k.body ≡ t → (Contains (passing ms) m → Contains (k ∷ ms) m × (is_counted m.body ≡ true))
                → Contains (cond t (k ∷ passing ms) (passing ms)) m → Contains (k ∷ ms) m × (is_counted m.body ≡ true)
            by true e behind rest =
                ⊎_elim (λ same. (subst (Contains (k ∷ ms)) same (first_in k ms), sym (ap (λ (n : Method). is_counted n.body) same) ∙ e)) behind
                (which_in k (passing ms) m rest)
            by false e behind rest = behind rest

        to : (m : Method) × Contains methods m × ((is_counted m.body ≡ true) × InMethod m) → HasItem (passing methods) number covered
        to (m, among, (counts, f)) =
            let lines = m.body.lines in
            let line : line_of lines f.place ≡ Some number = ap (line_of lines) (sym (zero-add f.place)) ∙ f.fact.0 in (
              f.item,
              record {
                method = m;
                among = keeps methods m counts among;
                place = f.place;
                stands = f.stands;
                line = subst (IsLineOf lines f.place) line (line_found lines f.place);
              },
              f.fact.1,
            )

        from : HasItem (passing methods) number covered → (m : Method) × Contains methods m × ((is_counted m.body ≡ true) × InMethod m)
        from (values, insn, there) =
            let m = insn.method in
            let lines = m.body.lines in
            let inside = kept_from methods m insn.among in
            let line : line_of lines (0 + insn.place) ≡ Some number =
            ap (line_of lines) (zero-add insn.place) ∙ one_line lines insn.place (line_of lines insn.place) (Some number) (line_found lines insn.place) insn.line in
            (m, inside.0, (inside.1, record { place = insn.place; item = values; stands = insn.stands; fact = (line, there) }))

-- the status by what is found
abbrev pub status_by : Bool → Bool → LineState
status_by false false = Empty
status_by false true = Not
status_by true true = Partly
status_by true false = Fully

status_found : (methods : List Method) (number : ℕ) (covered missed : Bool) → Decides covered (HasItem methods number true) → Decides missed (HasItem methods number false)
    → IsLineStatus methods number (status_by covered missed)
status_found methods number false false c m = λ v h. by v h
  where
    by : (v : Bool) → HasItem methods number v → ⊥
    by true h = let e = c.back h in absurd cc
    by false h = let e = m.back h in absurd cc
status_found methods number false true c m = (m.to refl, λ h. let e = c.back h in absurd cc)
status_found methods number true true c m = (c.to refl, m.to refl)
status_found methods number true false c m = (c.to refl, λ h. let e = m.back h in absurd cc)

pub status_seen : (methods : List Method) (number : ℕ) (covered missed : Bool) → covered ≡ list_any (is_in_counted number true) methods
    → missed ≡ list_any (is_in_counted number false) methods → IsLineStatus (passing methods) number (status_by covered missed)
status_seen methods number covered missed c m =
    status_found (passing methods) number covered missed (subst (λ t. Decides t (HasItem (passing methods) number true)) (sym c) (class_decided number true methods))
    (subst (λ t. Decides t (HasItem (passing methods) number false)) (sym m) (class_decided number false methods))
