-- Cases that ran, and the dumps that were taken: one case more, a dump more, and the cases of two seats.
use Rattle.std.proofs.Common.{◌≡◌, ◌⊎◌, ℕ, ◌+◌, ◌-◌, ◌*◌, ◌/◌, ◌%◌, ◌<◌, ◌≤◌, List, [], ◌∷◌, ◌++◌, Bool, true, false, cond, length, map}
use Rattle.std.proofs.Common.{sym, ap, refl, inl, inr, ⊎_elim, ◌∙◌, subst, arith, length-append}
use Rattle.std.specs.Prelude.{Contains, ◌↔◌, ◌==◌}
use Rattle.std.proofs.lemmas.Bool.{false≢true, cases_eq}
use Rattle.std.proofs.lemmas.Bool.Decides.{nat_tests}
use Rattle.std.proofs.lemmas.List.{map-append, get_or_append_left, get_or_push}
use Rattle.std.proofs.lemmas.List.Elements.{Contains-append_left, Contains-append_right, Contains-append_cases}
use Rattle.jc_programs.specs.Probes.{counts_of, IsHit}
use Rattle.jc_dump_board.specs.Seen.{DumpSeatSeen}
use Rattle.jc_workers.specs.Claims.{times}
use Rattle.jc_workers.specs.Drawing.{AreInTurn}
use Rattle.jc_workers.proofs.ClaimLaws.{times-append}
use Rattle.jc_workers.proofs.NumberLaws.{has_new, has_old, has_one}
use Rattle.jc_workers.proofs.RanLaws.{nothing, last_is}
use Rattle.jc_dump.specs.Since.{PendingAreHits, HitsSince}
use Rattle.jc_dump.specs.HasRun.{Dumps, number, HasDump, AnyHas, HitByAny, AnyFrom, IsDue, last_case, GainsHits, Takes, TakesDue, HasRun}
use Rattle.jc_dump.proofs.SinceLaws.{since_hits}
use Rattle.jc_dump.proofs.DueLaws.{parts, next_due, next_not_due, last_due, last_number, due_last}

module _ (hit_by : ℕ → ℕ → ℕ → Type 0) where
  any_more : (cases : List ℕ) (k c i : ℕ) → HitByAny hit_by cases c i ⊎ hit_by k c i → HitByAny hit_by (cases ++ k ∷ []) c i
  any_more cases k c i (inl t) = (t.0, has_old cases k t.0 t.1, t.2)
  any_more cases k c i (inr h) = (k, has_new cases k, h)

  any_one : (cases : List ℕ) (k c i : ℕ) → HitByAny hit_by (cases ++ k ∷ []) c i → HitByAny hit_by cases c i ⊎ hit_by k c i
  any_one cases k c i t = ⊎_elim
      (λ old. inl (t.0, old, t.2))
      (λ is. inr (subst (λ (n : ℕ). hit_by n c i) is t.2))
      (has_one cases k t.0 t.1)

  any_both : (xs ys : List ℕ) (c i : ℕ) → HitByAny hit_by (xs ++ ys) c i ↔ (HitByAny hit_by xs c i ⊎ HitByAny hit_by ys c i)
  any_both xs ys c i = (
    λ t. ⊎_elim (λ a. inl (t.0, a, t.2)) (λ b. inr (t.0, b, t.2)) (Contains-append_cases xs ys t.0 t.1),
    λ t. ⊎_elim
        (λ a. (a.0, Contains-append_left xs ys a.0 a.1, a.2))
        (λ b. (b.0, Contains-append_right xs ys b.0 b.1, b.2))
        t,
  )

  -- one case more at the end
  from_more : (first m c i : ℕ) → first ≤ m → AnyFrom hit_by first (m + 1) c i ↔ (AnyFrom hit_by first m c i ⊎ hit_by m c i)
  from_more first m c i le = (
    λ t. ⊎_elim
        (λ is. inr (subst (λ (n : ℕ). hit_by n c i) is t.3))
        (λ ne. inl (t.0, t.1, below t.0 t.2 ne, t.3))
        (cases_eq t.0 m),
    λ t. ⊎_elim (λ a. (a.0, a.1, omega (arith, a.2), a.3)) (λ h. (m, le, omega arith, h)) t,
  )
    where
      below : (k : ℕ) → k < m + 1 → (k ≡ m → ⊥) → k < m
      below k lt ne = grind (arith, nat_tests)

dumps_both : (ds es : Dumps) (c i : ℕ) → AnyHas (ds ++ es) c i ↔ (AnyHas ds c i ⊎ AnyHas es c i)
dumps_both ds es c i = (
  λ t. ⊎_elim (λ a. inl (t.0, t.1, a, t.3)) (λ b. inr (t.0, t.1, b, t.3)) (Contains-append_cases ds es (t.0, t.1) t.2),
  λ t. ⊎_elim
      (λ a. (a.0, a.1, Contains-append_left ds es (a.0, a.1) a.2, a.3))
      (λ b. (b.0, b.1, Contains-append_right ds es (b.0, b.1) b.2, b.3))
      t,
)

-- the last dump, or one in front of it
last_dump : (ds : Dumps) (d n : ℕ) (dump new : List (List Bool)) → HasDump (ds ++ (n, new) ∷ []) d dump → HasDump ds d dump ⊎ ((d ≡ n) × (dump ≡ new))
last_dump ds d n dump new h = ⊎_elim
    (λ old. inl old)
    (λ is. inr (ap (λ (t : ℕ × List (List Bool)). t.0) is, ap (λ (t : ℕ × List (List Bool)). t.1) is))
    (last_is ds (n, new) (d, dump) h)

numbers_more : (x d : ℕ) (ds : Dumps) (dump : List (List Bool)) → times x (map number (ds ++ (d, dump) ∷ [])) ≡ times x (map number ds) + cond (d == x) 1 0
numbers_more x d ds dump =
    ap (times x) (map-append number ds ((d, dump) ∷ [])) ∙ times-append x (map number ds) (d ∷ []) ∙ omega arith

-- cases in turn, without the last
turn_front : (cases : List ℕ) (k : ℕ) → AreInTurn (cases ++ k ∷ []) → AreInTurn cases
turn_front cases k turn j lt = sym (get_or_append_left cases (k ∷ []) 0 j lt) ∙ turn j (omega (arith, lt, length-append cases (k ∷ [])))

turn_last : (cases : List ℕ) (k : ℕ) → AreInTurn (cases ++ k ∷ []) → k ≡ length cases
turn_last cases k turn = sym (get_or_push cases k 0 (length cases) refl) ∙ turn (length cases) (omega (arith, length-append cases (k ∷ [])))

module _ (every : ℕ) (counts : List ℕ) (hit_by : ℕ → ℕ → ℕ → Type 0) where
  -- no case
  pub none : (seat : DumpSeatSeen) → seat.hits ≡ [] → seat.taken ≡ [] → seat.pending ≡ [] → HasRun every counts hit_by [] seat []
  none seat hits taken pending = record {
    hits = λ c i. (λ h. absurd (nothing (c, i) (subst (λ (l : List (ℕ × ℕ)). Contains l (c, i)) hits h)), λ t. absurd (nothing t.0 t.1));
    pending_are_hits = λ c i h. absurd (nothing (c, i) (subst (λ (l : List (ℕ × ℕ)). Contains l (c, i)) pending h));
    taken = λ c i. (
      λ h. absurd (nothing (c, i) (subst (λ (l : List (ℕ × ℕ)). Contains l (c, i)) taken h)),
      λ t. absurd (nothing {A = ℕ × List (List Bool)} (t.0, t.1) t.2),
    );
    settled = λ k h. absurd (nothing k h);
    numbers = λ d. refl;
    same_counts = λ d dump h. absurd (nothing {A = ℕ × List (List Bool)} (d, dump) h);
    alone = λ a turn. record {
      each = λ d dump h. absurd (nothing {A = ℕ × List (List Bool)} (d, dump) h);
      last = λ c i. (
        λ h. absurd (nothing (c, i) (subst (λ (l : List (ℕ × ℕ)). Contains l (c, i)) pending h)),
        λ t. absurd (omega (arith, t.2)),
      );
    };
  }

  -- the same, of a seat that gave away a part
  pub without : (cases : List ℕ) (seat left : DumpSeatSeen) (dumps : Dumps) → left.hits ≡ seat.hits → left.pending ≡ seat.pending → left.taken ≡ seat.taken
      → left.settled ≡ seat.settled → left.alone ≡ false → HasRun every counts hit_by cases seat dumps → HasRun every counts hit_by cases left dumps
  without cases seat left dumps hits pending taken settled alone h = record {
    hits = λ c i. subst (λ (l : List (ℕ × ℕ)). Contains l (c, i) ↔ HitByAny hit_by cases c i) (sym hits) (h.hits c i);
    pending_are_hits = λ c i x. subst (λ (l : List (ℕ × ℕ)). Contains l (c, i)) (sym hits)
        (h.pending_are_hits c i (subst (λ (l : List (ℕ × ℕ)). Contains l (c, i)) pending x));
    taken = λ c i. subst (λ (l : List (ℕ × ℕ)). Contains l (c, i) ↔ AnyHas dumps c i) (sym taken) (h.taken c i);
    settled = λ k there due c i x. subst (λ (l : List (ℕ × ℕ)). Contains l (c, i)) (sym settled) (h.settled k there due c i x);
    numbers = h.numbers;
    same_counts = h.same_counts;
    alone = λ a. absurd (false≢true (sym alone ∙ a));
  }

  -- the cases and the dumps of two seats
  pub both : (xs ys : List ℕ) (seat other now : DumpSeatSeen) (ds es all : Dumps) → all ≡ ds ++ es → now.hits ≡ seat.hits ++ other.hits
      → now.pending ≡ seat.pending ++ other.pending → now.taken ≡ seat.taken ++ other.taken → now.settled ≡ seat.settled ++ other.settled → now.alone ≡ false
      → HasRun every counts hit_by xs seat ds → HasRun every counts hit_by ys other es → HasRun every counts hit_by (xs ++ ys) now all
  both xs ys seat other now ds es all is hits pending taken settled alone a b = subst (HasRun every counts hit_by (xs ++ ys) now) (sym is) (record {
    hits = λ c i. (
      λ h. (any_both hit_by xs ys c i).1 (⊎_elim
          (λ x. inl ((a.hits c i).0 x))
          (λ y. inr ((b.hits c i).0 y))
          (Contains-append_cases seat.hits other.hits (c, i) (subst (λ (l : List (ℕ × ℕ)). Contains l (c, i)) hits h))),
      λ t. hit c i (⊎_elim (λ x. inl ((a.hits c i).1 x)) (λ y. inr ((b.hits c i).1 y)) ((any_both hit_by xs ys c i).0 t)),
    );
    pending_are_hits = λ c i h. hit c i (⊎_elim
        (λ x. inl (a.pending_are_hits c i x))
        (λ y. inr (b.pending_are_hits c i y))
        (Contains-append_cases seat.pending other.pending (c, i) (subst (λ (l : List (ℕ × ℕ)). Contains l (c, i)) pending h)));
    taken = λ c i. (
      λ h. (dumps_both ds es c i).1 (⊎_elim
          (λ x. inl ((a.taken c i).0 x))
          (λ y. inr ((b.taken c i).0 y))
          (Contains-append_cases seat.taken other.taken (c, i) (subst (λ (l : List (ℕ × ℕ)). Contains l (c, i)) taken h))),
      λ t. subst (λ (l : List (ℕ × ℕ)). Contains l (c, i)) (sym taken) (⊎_elim
          (λ x. Contains-append_left seat.taken other.taken (c, i) ((a.taken c i).1 x))
          (λ y. Contains-append_right seat.taken other.taken (c, i) ((b.taken c i).1 y))
          ((dumps_both ds es c i).0 t)),
    );
    settled = λ k there due c i x. subst (λ (l : List (ℕ × ℕ)). Contains l (c, i)) (sym settled) (⊎_elim
        (λ one. Contains-append_left seat.settled other.settled (c, i) (a.settled k one due c i x))
        (λ two. Contains-append_right seat.settled other.settled (c, i) (b.settled k two due c i x))
        (Contains-append_cases xs ys k there));
    numbers = λ d. ap (times d) (map-append number ds es) ∙ times-append d (map number ds) (map number es)
        ∙ omega (arith, a.numbers d, b.numbers d, times-append (last_case every d) xs ys);
    same_counts = λ d dump h. ⊎_elim (λ x. a.same_counts d dump x) (λ y. b.same_counts d dump y) (Contains-append_cases ds es (d, dump) h);
    alone = λ x. absurd (false≢true (sym alone ∙ x));
  })
    where
      hit : (c i : ℕ) → Contains seat.hits (c, i) ⊎ Contains other.hits (c, i) → Contains now.hits (c, i)
      hit c i h = subst (λ (l : List (ℕ × ℕ)). Contains l (c, i)) (sym hits) (⊎_elim
          (λ x. Contains-append_left seat.hits other.hits (c, i) x)
          (λ y. Contains-append_right seat.hits other.hits (c, i) y)
          h)

  -- ---- one case more, and a dump where one is due behind it
  module _ (some : 0 < every) (cases : List ℕ) (k : ℕ) (was seat : DumpSeatSeen) (dumps : Dumps)
      (ran : HasRun every counts hit_by cases was dumps) (since : HitsSince was seat) (gained : GainsHits (hit_by k) was.pending seat.pending) where
    hits_more : (c i : ℕ) → Contains seat.hits (c, i) ↔ HitByAny hit_by (cases ++ k ∷ []) c i
    hits_more c i =
        let both = since_hits was seat ran.pending_are_hits since c i in (
          λ h. any_more hit_by cases k c i (⊎_elim
              (λ old. inl ((ran.hits c i).0 old))
              (λ pending. ⊎_elim (λ old. inl ((ran.hits c i).0 (ran.pending_are_hits c i old))) (λ new. inr new) ((gained c i).0 pending))
              (both.0 h)),
          λ t. both.1 (⊎_elim (λ old. inl ((ran.hits c i).1 old)) (λ new. inr ((gained c i).1 (inr new))) (any_one hit_by cases k c i t)),
        )

    pending_hits : PendingAreHits seat
    pending_hits c i h = (since_hits was seat ran.pending_are_hits since c i).1 (inr h)

    -- the hits of the cases since the last dump are pending
    pending_more : was.alone ≡ true → AreInTurn (cases ++ k ∷ [])
        → (c i : ℕ) → Contains seat.pending (c, i) ↔ AnyFrom hit_by (length cases - length cases % every) (length cases + 1) c i
    pending_more alone turn c i =
        let m = length cases in
        let old = (ran.alone alone (turn_front cases k turn)).last c i in
        let more = from_more hit_by (m - m % every) m c i (omega arith) in
        let is = turn_last cases k turn in (
          λ h. more.1 (⊎_elim (λ x. inl (old.0 x)) (λ y. inr (subst (λ (n : ℕ). hit_by n c i) is y)) ((gained c i).0 h)),
          λ t. (gained c i).1 (⊎_elim (λ x. inl (old.1 x)) (λ y. inr (subst (λ (n : ℕ). hit_by n c i) (sym is) y)) (more.0 t)),
        )

    more_long : length (cases ++ k ∷ []) ≡ length cases + 1
    more_long = length-append cases (k ∷ [])

    pub without_dump : (IsDue every k → ⊥) → HasRun every counts hit_by (cases ++ k ∷ []) seat dumps
    without_dump not = record {
      hits = hits_more;
      pending_are_hits = pending_hits;
      taken = λ c i. subst (λ (l : List (ℕ × ℕ)). Contains l (c, i) ↔ AnyHas dumps c i) (sym since.same_taken) (ran.taken c i);
      settled = λ j there due c i h. subst (λ (l : List (ℕ × ℕ)). Contains l (c, i)) (sym since.same_settled) (⊎_elim
          (λ old. ran.settled j old due c i h)
          (λ is. absurd (not (subst (IsDue every) is due)))
          (has_one cases k j there));
      numbers = λ d. ran.numbers d ∙ sym (times-append (last_case every d) cases (k ∷ []) ∙ omega (arith, other d));
      same_counts = ran.same_counts;
      alone = λ a turn. let old = ran.alone (sym since.same_alone ∙ a) (turn_front cases k turn) in record {
        each = old.each;
        last = λ c i. subst (λ (n : ℕ). Contains seat.pending (c, i) ↔ AnyFrom hit_by (n - n % every) n c i) (sym more_long)
            (subst (λ (n : ℕ). Contains seat.pending (c, i) ↔ AnyFrom hit_by n (length cases + 1) c i) (same_first turn)
            (pending_more (sym since.same_alone ∙ a) turn c i));
      };
    }
      where
        other : (d : ℕ) → times (last_case every d) (k ∷ []) ≡ 0
        other d = ⊎_elim
            (λ is. absurd (not (subst (IsDue every) (sym is) (last_due every some d))))
            (λ ne. grind (arith, nat_tests))
            (cases_eq k (last_case every d))

        same_first : AreInTurn (cases ++ k ∷ []) → length cases - length cases % every ≡ length cases + 1 - (length cases + 1) % every
        same_first turn = let m = length cases in
            omega (arith, next_not_due every some m (λ due. not (subst (IsDue every) (sym (turn_last cases k turn)) due)), parts every some m)

    pub with_dump : (now : DumpSeatSeen) (dump : List (List Bool)) → IsDue every k → Takes counts seat now dump
        → HasRun every counts hit_by (cases ++ k ∷ []) now (dumps ++ (k / every, dump) ∷ [])
    with_dump now dump due takes = record {
      hits = λ c i. subst (λ (l : List (ℕ × ℕ)). Contains l (c, i) ↔ HitByAny hit_by (cases ++ k ∷ []) c i) (sym takes.same_hits) (hits_more c i);
      pending_are_hits = λ c i h. absurd (nothing (c, i) (subst (λ (l : List (ℕ × ℕ)). Contains l (c, i)) takes.pending h));
      taken = λ c i. (λ h. taken_to c i h, λ t. taken_from c i t);
      settled = λ j there due_j c i h. (takes.settled c i).1 (⊎_elim
          (λ old. inl (subst (λ (l : List (ℕ × ℕ)). Contains l (c, i)) (sym since.same_settled) (ran.settled j old due_j c i h)))
          (λ is. inr ((hits_more c i).1 (k, has_new cases k, subst (λ (n : ℕ). hit_by n c i) is h)))
          (has_one cases k j there));
      numbers = λ d. numbers_more d (k / every) dumps dump
          ∙ omega (arith, ran.numbers d, times-append (last_case every d) cases (k ∷ []), same_number d);
      same_counts = λ d x h. ⊎_elim
          (λ old. ran.same_counts d x old)
          (λ is. ap counts_of is.1 ∙ takes.same_counts)
          (last_dump dumps d (k / every) x dump h);
      alone = λ a turn. let was_alone = sym since.same_alone ∙ (sym takes.same_alone ∙ a) in
          let old = ran.alone was_alone (turn_front cases k turn) in
          record {
            each = λ d x h c i. ⊎_elim
                (λ was_there. old.each d x was_there c i)
                (λ is. subst (λ (t : ℕ × List (List Bool)). IsHit t.1 c i ↔ AnyFrom hit_by (t.0 * every) (t.0 * every + every) c i)
                (λ j. (sym is.0 j, sym is.1 j))
                (of_cases was_alone turn c i (takes.only (since.same_alone ∙ was_alone) c i)))
                (last_dump dumps d (k / every) x dump h);
            last = λ c i. (
              λ h. absurd (nothing (c, i) (subst (λ (l : List (ℕ × ℕ)). Contains l (c, i)) takes.pending h)),
              λ t. absurd (omega (arith, t.1, t.2, none_left turn)),
            );
          };
    }
      where
        taken_to : (c i : ℕ) → Contains now.taken (c, i) → AnyHas (dumps ++ (k / every, dump) ∷ []) c i
        taken_to c i h = (dumps_both dumps ((k / every, dump) ∷ []) c i).1 (⊎_elim
            (λ old. inl ((ran.taken c i).0 (subst (λ (l : List (ℕ × ℕ)). Contains l (c, i)) since.same_taken old)))
            (λ new. inr (k / every, dump, (0, omega arith, refl), (takes.gained.2 c i).1 new))
            (Contains-append_cases seat.taken takes.gained.0 (c, i) (subst (λ (l : List (ℕ × ℕ)). Contains l (c, i)) takes.gained.1 h)))

        taken_from : (c i : ℕ) → AnyHas (dumps ++ (k / every, dump) ∷ []) c i → Contains now.taken (c, i)
        taken_from c i t = subst (λ (l : List (ℕ × ℕ)). Contains l (c, i)) (sym takes.gained.1) (⊎_elim
            (λ old. Contains-append_left seat.taken takes.gained.0 (c, i)
            (subst (λ (l : List (ℕ × ℕ)). Contains l (c, i)) (sym since.same_taken) ((ran.taken c i).1 (t.0, t.1, old, t.3))))
            (λ is. Contains-append_right seat.taken takes.gained.0 (c, i) ((takes.gained.2 c i).0 (subst (λ (x : List (List Bool)). IsHit x c i) is.1 t.3)))
            (last_dump dumps t.0 (k / every) t.1 dump t.2))

        same_number : (d : ℕ) → cond (k / every == d) 1 0 ≡ times (last_case every d) (k ∷ [])
        same_number d = ⊎_elim
            (λ is. let there : k ≡ last_case every d = due_last every some k due ∙ ap (last_case every) is in grind (arith, nat_tests))
            (λ ne. let apart : k ≡ last_case every d → ⊥ = λ e. ne (ap (λ n. n / every) e ∙ last_number every some d) in grind (arith, nat_tests))
            (cases_eq (k / every) d)

        -- all cases are in groups
        none_left : AreInTurn (cases ++ k ∷ []) → length (cases ++ k ∷ []) % every ≡ 0
        none_left turn = ap (λ n. n % every) (more_long ∙ ap (λ n. n + 1) (sym (turn_last cases k turn))) ∙ next_due every some k due

        of_cases : was.alone ≡ true → AreInTurn (cases ++ k ∷ []) → (c i : ℕ) → (IsHit dump c i ↔ Contains seat.pending (c, i))
            → IsHit dump c i ↔ AnyFrom hit_by (k / every * every) (k / every * every + every) c i
        of_cases alone turn c i same =
            let m = length cases in
            let is = turn_last cases k turn in
            let first : m - m % every ≡ k / every * every =
            omega (arith, parts every some m) ∙ ap (λ n. n / every * every) (sym is) in
            let end : m + 1 ≡ k / every * every + every = omega (arith, is, parts every some k, due) in
            let mine = subst (λ (t : ℕ × ℕ). Contains seat.pending (c, i) ↔ AnyFrom hit_by t.0 t.1 c i) (λ j. (first j, end j)) (pending_more alone turn c i) in
            (λ h. mine.0 (same.0 h), λ t. same.1 (mine.1 t))

    -- a dump is taken where one is due
    pub one_more : (now : DumpSeatSeen) (more : Dumps) → TakesDue every counts k seat now dumps more → HasRun every counts hit_by (cases ++ k ∷ []) now more
    one_more now more (inl t) =
        subst (λ (x : DumpSeatSeen × Dumps). HasRun every counts hit_by (cases ++ k ∷ []) x.0 x.1) (λ j. (sym t.1 j, sym t.2 j)) (without_dump t.0)
    one_more now more (inr t) = subst (HasRun every counts hit_by (cases ++ k ∷ []) now) (sym t.1.1) (with_dump now t.1.0 t.0 t.1.2)
