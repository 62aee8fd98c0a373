-- Marking backward.
use Rattle.std.proofs.Common.{◌≡◌, ◌⊎◌, ◌↔◌, inl, inr, ⊎_elim, ℕ, zero, suc, ◌+◌, ◌<◌, ◌≤◌, Bool, true, false, not, List, [], ◌∷◌, length, replicate, get_or, set, Option, Some, None, refl, sym, ap, ◌∙◌, subst, arith, zero-add}
use Rattle.std.specs.Prelude.{Contains, IsTrue, slice_get}
use Rattle.std.specs.List.{count_by, list_any}
use Rattle.std.proofs.lemmas.Bool.{both_ways, cases_order, and_parts, and_from}
use Rattle.std.proofs.lemmas.Option.{same_Some, none-some, slice_get_within}
use Rattle.std.proofs.lemmas.List.{get_or-set_same, get_or-set_other, get_or_default, get_or_past, length-set, length-replicate, get_or-replicate}
use Rattle.jc_methods.specs.declared.insn.Insn.{Insn}
use Rattle.jc_methods.specs.declared.body.Body.{Body}
use Rattle.jc_plan.specs.declared.branch.Branch.{Branch}
use Rattle.jc_plan.specs.Edges.{place_of, branches_of, branches}
use Rattle.jc_plan.specs.Probed.{is_probed, id_of}
use Rattle.jc_bytes.proofs.DecidingLaws.{Decides}
use Rattle.jc_bytes.proofs.BooleanLaws.{any_decided}
use Rattle.jc_plan.proofs.ListedLaws.{lists_from}
use Rattle.jc_plan.specs.Entries.{one_if}
use Rattle.jc_plan.proofs.CountLaws.{count_cons}
use Rattle.jc_plan.proofs.CountingLaws.{one_most}
use Rattle.jc_plan.proofs.OneWayLaws.{standing, begins_at}
use Rattle.jc_cover.specs.Covered.{is_hit, IsChain, Covered, CoveredInsn}
use Rattle.jc_cover.specs.Marking.{sources, unless_marked, at_source, mark_back, has_hit, is_hit_at, mark_if, mark_each, marks_of, is_marked, covers_by, covers}
use Rattle.jc_cover.proofs.ChainLaws.{chain_listed, covered_probed, covered_unprobed}
use Rattle.jc_cover.proofs.SourceLaws.{source_is, source_told, begins_within}

-- ---- counts of marks

pub unmarked : List Bool → ℕ
unmarked marks = count_by not marks

unmarked_cons : (m : Bool) (marks : List Bool) → unmarked (m ∷ marks) ≡ one_if (not m) + unmarked marks
unfolding unmarked
unmarked_cons m marks = count_cons not m marks

unmarked_nil : unmarked [] ≡ 0
unfolding unmarked
unmarked_nil = refl

pub unmarked_within : (marks : List Bool) → unmarked marks ≤ length marks
unmarked_within [] = omega (arith, unmarked_nil)
unmarked_within (m ∷ marks) = omega (arith, unmarked_cons m marks, one_most (not m), unmarked_within marks)

-- marking one that isn't marked
pub one_fewer : (marks : List Bool) (i : ℕ) → i < length marks → get_or marks i true ≡ false → unmarked (set marks i true) + 1 ≡ unmarked marks
one_fewer [] i lt e = absurd (omega arith)
one_fewer (m ∷ marks) zero lt e =
    let is : one_if (not m) ≡ 1 = ap (λ z. one_if (not z)) e in
    let now : one_if (not true) ≡ 0 = refl in
    omega (arith, unmarked_cons m marks, unmarked_cons true marks, is, now)
one_fewer (m ∷ marks) (suc i) lt e = omega (arith, unmarked_cons m marks, unmarked_cons m (set marks i true), one_fewer marks i (omega arith) e)

pub some_left : (marks : List Bool) (i : ℕ) → i < length marks → get_or marks i true ≡ false → 1 ≤ unmarked marks
some_left marks i lt e = omega (arith, one_fewer marks i lt e)

-- ---- a branch among several

pub one_passes : {X : Type 0} (p : X → Bool) (xs : List X) → Decides (list_any p xs) ((x : X) × Contains xs x × (p x ≡ true))
one_passes p xs = any_decided p (λ x. p x ≡ true) (λ x. record { to = λ e. e; back = λ e. e }) xs

module _ (b : Body) (first : ℕ) (hits : List Bool) where
  abbrev from : List (Option ℕ)
  from = sources b

  abbrev count : ℕ
  count = length b.code

  abbrev Marked : List Bool → ℕ → Type 0
  Marked marks i = get_or marks i false ≡ true

  -- only covered instructions are marked
  abbrev Sound : List Bool → Type 0
  Sound marks = (i : ℕ) → Marked marks i → CoveredInsn b first hits i

  -- the source of each marked instruction is marked, but perhaps one
  abbrev Closed : List Bool → Option ℕ → Type 0
  Closed marks o = (i at : ℕ) → Marked marks i → get_or from i None ≡ Some at → Marked marks at ⊎ (o ≡ Some at)

  record Good (marks : List Bool) : Type 0 where
    size : length marks ≡ count
    sound : Sound marks
    closed : Closed marks None

  record After (old new : List Bool) : Type 0 where
    good : Good new
    kept : (i : ℕ) → Marked old i → Marked new i

  record AfterAt (old new : List Bool) (i : ℕ) : Type 0 where
    after : After old new
    here : Marked new i

  -- a covered instruction has a covered source
  covered_source : (i at : ℕ) → i < count → get_or from i None ≡ Some at → CoveredInsn b first hits i → CoveredInsn b first hits at
  covered_source i at lt e c =
      let f = source_is b i at lt e in
      (f.edge, f.begins, (covered_unprobed b first hits f.edge i f.listed f.unprobed f.leads).1 c)

  source_within : (i at : ℕ) → i < count → get_or from i None ≡ Some at → at < count
  source_within i at lt e = let f = source_is b i at lt e in subst (λ k. k < count) f.begins (begins_within b f.edge f.listed)

  at_or_not : (i j : ℕ) → (i ≡ j) ⊎ (j ≡ i → ⊥)
  at_or_not i j = ⊎_elim (λ same. inl same) (λ apart. inr (λ e. ⊎_elim (λ lt. omega (arith, lt, e)) (λ lt. omega (arith, lt, e)) apart)) (cases_order i j)

  -- after an instruction is marked
  module _ (marks : List Bool) (i : ℕ) (lt : i < count) (size : length marks ≡ count) where
    new_size : length (set marks i true) ≡ count
    new_size = length-set marks i true ∙ size

    now_marked : Marked (set marks i true) i
    now_marked = get_or-set_same marks i true false (subst (λ n. i < n) (sym size) lt)

    still_marked : (j : ℕ) → Marked marks j → Marked (set marks i true) j
    still_marked j m =
        ⊎_elim
        (λ same. subst (Marked (set marks i true)) same now_marked)
        (λ apart. get_or-set_other marks i j true false apart ∙ m)
        (at_or_not i j)

    was_marked : (j : ℕ) → (j ≡ i → ⊥) → Marked (set marks i true) j → Marked marks j
    was_marked j apart m = sym (get_or-set_other marks i j true false apart) ∙ m

    new_sound : Sound marks → CoveredInsn b first hits i → Sound (set marks i true)
    new_sound sound covered j m =
        ⊎_elim
        (λ same. subst (CoveredInsn b first hits) same covered)
        (λ apart. sound j (was_marked j apart m))
        (at_or_not i j)

    new_closed : (o : Option ℕ) → Closed marks (Some i) → get_or from i None ≡ o → Closed (set marks i true) o
    new_closed o closed source j at m e =
        ⊎_elim
        (λ same. inr (sym source ∙ ap (λ k. get_or from k None) same ∙ e))
        (λ apart.
        ⊎_elim
        (λ old. inl (still_marked at old))
        (λ pending. inl (subst (Marked (set marks i true)) (same_Some i at pending) now_marked))
        (closed j at (was_marked j apart m) e))
        (at_or_not i j)

  marked_closed : (marks : List Bool) (i : ℕ) → Marked marks i → Closed marks (Some i) → Closed marks None
  marked_closed marks i here closed j at m e =
      ⊎_elim (λ old. inl old) (λ pending. inl (subst (Marked marks) (same_Some i at pending) here)) (closed j at m e)

  -- what marking back at most so many does
  abbrev Back : ℕ → Type 0
  Back n = (i : ℕ) (marks : List Bool) → i < count → length marks ≡ count → Sound marks → Closed marks (Some i) → CoveredInsn b first hits i → unmarked marks ≤ n
      → AfterAt marks (mark_back from n i marks) i

  marks_back : (n : ℕ) → Back n
  marks_back zero i marks lt size sound closed covered few = by (get_or marks i true) refl
    where
      inside : i < length marks
      inside = subst (λ n. i < n) (sym size) lt

      by : (m : Bool) → get_or marks i true ≡ m → AfterAt marks marks i
      by true e =
          let here = get_or_default marks i false true inside ∙ e in
          record { after = record { good = record { size = size; sound = sound; closed = marked_closed marks i here closed }; kept = λ j m. m }; here = here }
      by false e = absurd (omega (arith, few, some_left marks i inside e))
  marks_back (suc n) i marks lt size sound closed covered few = by (marks_back n) (get_or marks i true) refl
    where
      inside : i < length marks
      inside = subst (λ n. i < n) (sym size) lt

      by_source : Back n → (o : Option ℕ) → get_or marks i true ≡ false → get_or from i None ≡ o → AfterAt marks (at_source o (mark_back from n) (set marks i true)) i
      by_source again None e source = record {
        after = record {
          good = record { size = new_size marks i lt size; sound = new_sound marks i lt size sound covered; closed = new_closed marks i lt size None closed source };
          kept = still_marked marks i lt size;
        };
        here = now_marked marks i lt size;
      }
      by_source again (Some at) e source =
          let fewer = one_fewer marks i inside e in
          let more = again at (set marks i true) (source_within i at lt source) (new_size marks i lt size) (new_sound marks i lt size sound covered)
          (new_closed marks i lt size (Some at) closed source) (covered_source i at lt source covered) (omega (arith, fewer, few)) in
          record {
            after = record { good = more.after.good; kept = λ j m. more.after.kept j (still_marked marks i lt size j m) };
            here = more.after.kept i (now_marked marks i lt size);
          }

      by : Back n → (m : Bool) → get_or marks i true ≡ m → AfterAt marks (unless_marked m (λ old. at_source (get_or from i None) (mark_back from n) (set old i true)) marks) i
      by again true e =
          let here = get_or_default marks i false true inside ∙ e in
          record { after = record { good = record { size = size; sound = sound; closed = marked_closed marks i here closed }; kept = λ j m. m }; here = here }
      by again false e = by_source again (get_or from i None) e refl

  -- ---- each instruction of which a probe is hit

  pub listed_at : (i : ℕ) (insn : Insn) (x : Branch) → slice_get b.code i ≡ Some insn → Contains (branches_of i insn) x → Contains (branches b.code) x
  listed_at i insn x stands c =
      let z : i ≡ 0 + i = sym (zero-add i) in
      lists_from branches_of 0 b.code x (record { place = i; item = insn; stands = stands; listed = subst (λ k. Contains (branches_of k insn) x) z c })

  hit_is_covered : (i : ℕ) (insn : Insn) → slice_get b.code i ≡ Some insn → is_hit_at b first hits i insn ≡ true → CoveredInsn b first hits i
  hit_is_covered i insn stands e =
      let found = (one_passes (has_hit b first hits) (branches_of i insn)).to e in
      let both = and_parts (is_probed b found.0) (is_hit hits (id_of b first found.0)) found.2 in
      let listed = listed_at i insn found.0 stands found.1 in
      (found.0, at_is found.0 insn stands found.1, (covered_probed b first hits found.0 listed both.0).1 both.1)
    where
      at_is : (x : Branch) (insn : Insn) → slice_get b.code i ≡ Some insn → Contains (branches_of i insn) x → x.at ≡ i
      at_is x insn stands c = sym (begins_at insn i x c)

  -- of these instructions, which stand from this one on, each of which a probe is hit is marked
  abbrev AreHitMarked : List Bool → ℕ → List Insn → Type 0
  AreHitMarked marks i code = (k : ℕ) (insn : Insn) → slice_get code k ≡ Some insn → is_hit_at b first hits (i + k) insn ≡ true → Marked marks (i + k)

  record AfterEach (old new : List Bool) (i : ℕ) (code : List Insn) : Type 0 where
    after : After old new
    hit : AreHitMarked new i code

  -- what marking back from each of these instructions does
  abbrev Each : List Insn → Type 0
  Each code = (i : ℕ) (marks : List Bool) → ((k : ℕ) (insn : Insn) → slice_get code k ≡ Some insn → slice_get b.code (i + k) ≡ Some insn) → Good marks
      → AfterEach marks (mark_each b first hits from i code marks) i code

  marks_each : (code : List Insn) → Each code
  marks_each [] i marks suffix good = record { after = record { good = good; kept = λ j m. m }; hit = λ k insn h e. absurd (none-some insn h) }
  marks_each (insn ∷ code) i marks suffix good = by (marks_each code) (is_hit_at b first hits i insn) refl
    where
      stands : slice_get b.code i ≡ Some insn
      stands = let z : i + 0 ≡ i = omega arith in subst (λ k. slice_get b.code k ≡ Some insn) z (suffix 0 insn refl)

      rest_suffix : (k : ℕ) (other : Insn) → slice_get code k ≡ Some other → slice_get b.code (i + 1 + k) ≡ Some other
      rest_suffix k other h = let z : i + suc k ≡ i + 1 + k = omega arith in subst (λ j. slice_get b.code j ≡ Some other) z (suffix (suc k) other h)

      ahead : Each code → (t : Bool) (now : List Bool) → is_hit_at b first hits i insn ≡ t → After marks now → (t ≡ true → Marked now i)
          → AfterEach marks (mark_each b first hits from (i + 1) code now) i (insn ∷ code)
      ahead again t now is a here =
          let more = again (i + 1) now rest_suffix a.good in
          record { after = record { good = more.after.good; kept = λ j m. more.after.kept j (a.kept j m) }; hit = hit more }
        where
          hit : AfterEach now (mark_each b first hits from (i + 1) code now) (i + 1) code → AreHitMarked (mark_each b first hits from (i + 1) code now) i (insn ∷ code)
          hit more zero other h e =
              let z : i ≡ i + 0 = omega arith in
              let same : other ≡ insn = sym (same_Some insn other h) in
              let hit_here : is_hit_at b first hits i insn ≡ true = subst (λ j. is_hit_at b first hits j insn ≡ true) (sym z) (subst (λ o. is_hit_at b first hits (i + 0) o ≡ true) same e) in
              subst (Marked (mark_each b first hits from (i + 1) code now)) z (more.after.kept i (here (sym is ∙ hit_here)))
          hit more (suc k) other h e =
              let z : i + 1 + k ≡ i + suc k = omega arith in
              subst (Marked (mark_each b first hits from (i + 1) code now)) z (more.hit k other h (subst (λ j. is_hit_at b first hits j other ≡ true) (sym z) e))

      by : Each code → (t : Bool) → is_hit_at b first hits i insn ≡ t → AfterEach marks (mark_each b first hits from (i + 1) code (mark_if t (mark_back from count i) marks)) i (insn ∷ code)
      by again true e =
          let lt = slice_get_within b.code i insn stands in
          let few : unmarked marks ≤ count = subst (λ n. unmarked marks ≤ n) good.size (unmarked_within marks) in
          let m = marks_back count i marks lt good.size good.sound
          (λ j at k h. ⊎_elim (λ old. inl old) (λ none. absurd (none-some at none)) (good.closed j at k h)) (hit_is_covered i insn stands e) few in
          ahead again true (mark_back from count i marks) e m.after (λ t. m.here)
      by again false e = ahead again false marks e (record { good = good; kept = λ j m. m }) (λ t. absurd (both_ways false refl t))

  no_marks : Good (replicate count false)
  no_marks = record {
    size = length-replicate count false;
    sound = λ i m. absurd (unset i m);
    closed = λ i at m e. absurd (unset i m);
  }
    where
      within : (i n : ℕ) → (i < n) ⊎ (n ≤ i)
      within i n = ⊎_elim (λ same. inr (omega (arith, same))) (λ apart. ⊎_elim (λ lt. inl lt) (λ lt. inr (omega (arith, lt))) apart) (cases_order i n)

      unset : (i : ℕ) → Marked (replicate count false) i → ⊥
      unset i m =
          ⊎_elim
          (λ lt. both_ways (get_or (replicate count false) i false) (get_or-replicate count i false false lt) m)
          (λ le. both_ways (get_or (replicate count false) i false) (get_or_past (replicate count false) i false (subst (λ n. n ≤ i) (sym (length-replicate count false)) le)) m)
          (within i count)

  abbrev marks : List Bool
  marks = marks_of b first hits

  done : AfterEach (replicate count false) marks 0 b.code
  done = marks_each b.code 0 (replicate count false) (λ k insn h. let z : 0 + k ≡ k = zero-add k in subst (λ j. slice_get b.code j ≡ Some insn) (sym z) h) no_marks

  all_marked : (x : Branch) (rest : List Branch) → IsChain b first hits (x ∷ rest) → Marked marks x.at
  all_marked x [] c =
      let s = standing b.code x c.0 in
      let z : 0 + x.at ≡ x.at = zero-add x.at in
      let hit : is_hit_at b first hits x.at s.insn ≡ true = (one_passes (has_hit b first hits) (branches_of x.at s.insn)).back
      (x, s.listed, and_from (is_probed b x) (is_hit hits (id_of b first x)) c.1.0 c.1.1) in
      subst (Marked marks) z (done.hit x.at s.insn s.stands (subst (λ j. is_hit_at b first hits j s.insn ≡ true) (sym z) hit))
  all_marked x (y ∷ rest) c =
      let next = all_marked y rest c.2 in
      let within = begins_within b y (chain_listed b first hits y rest c.2) in
      ⊎_elim (λ m. m) (λ none. absurd (none-some x.at none)) (done.after.good.closed y.at x.at next (source_told b x y.at within c.0 c.1.0 c.1.1))

  pub marks_size : length marks ≡ count
  marks_size = done.after.good.size

  pub marked_insn : (i : ℕ) → IsTrue (get_or marks i false) ↔ CoveredInsn b first hits i
  marked_insn i = (done.after.good.sound i, (λ c. subst (Marked marks) c.1 (all_marked c.0 c.2.0 c.2.1)))

  pub marked_edge : (x : Branch) → Contains (branches b.code) x → IsTrue (covers b first hits marks x) ↔ Covered b first hits x
  marked_edge x listed = by (is_probed b x) refl
    where
      by_place : (o : Option ℕ) → is_probed b x ≡ false → place_of x.way ≡ o → IsTrue (is_marked marks o) ↔ Covered b first hits x
      by_place None e at = ((λ t. absurd (both_ways false refl t)), (λ c. absurd (leads_nowhere c.0 c.1)))
        where
          leads_nowhere : (rest : List Branch) → IsChain b first hits (x ∷ rest) → ⊥
          leads_nowhere [] c = both_ways (is_probed b x) e c.1.0
          leads_nowhere (y ∷ rest) c = none-some y.at (sym at ∙ c.1.1)
      by_place (Some i) e at =
          let insn = marked_insn i in
          let edge = covered_unprobed b first hits x i listed e at in
          ((λ t. edge.1 (insn.0 t)), (λ c. insn.1 (edge.0 c)))

      by : (p : Bool) → is_probed b x ≡ p → IsTrue (covers_by p b first hits marks x) ↔ Covered b first hits x
      by true e = let i = covered_probed b first hits x listed e in (i.1, i.0)
      by false e = by_place (place_of x.way) e refl
