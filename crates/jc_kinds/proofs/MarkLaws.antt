-- MarksWhere at instructions that need a frame.
use Rattle.std.proofs.Common.{◌≡◌, ◌≢◌, ◌⊎◌, inl, inr, ℕ, ◌+◌, ◌<◌, ◌≤◌, Bool, true, false, ◌||◌, List, length, take, get_or, set, replicate, nat_eq, refl, sym, ◌∙◌, ap, arith}
use Rattle.std.specs.List.{list_any}
use Rattle.std.proofs.lemmas.Bool.{eq-eqb, ne_eqb, cases_eq, or_right}
use Rattle.std.proofs.lemmas.List.{get_or-set_same, get_or-set_other, length-set, get_or-replicate, take_all}
use Rattle.std.proofs.lemmas.List.Folds.{list_any_more}
use Rattle.std.proofs.Math.Bool.{or-false, or_assoc}
use Rattle.jc_methods.specs.declared.body.Body.{Body}
use Rattle.jc_kinds.specs.Marking.{is_marked, MarksWhere, leads_to, begins_handler, AreTargets}
use Rattle.jc_kinds.specs.Checking.{is_jump_target, is_handler_target}

-- nothing is marked
pub marks_none : (marks : List Bool) (test : ℕ → Bool) → ((j : ℕ) → test j ≡ false) → MarksWhere marks marks test
marks_none marks test none = record { size = refl; each = λ j lt. sym (or-false (is_marked marks j)) ∙ ap (λ (b : Bool). is_marked marks j || b) (sym (none j)) }

-- one place is marked
pub marks_one : (marks marks' : List Bool) (place : ℕ) (test : ℕ → Bool) → place < length marks → marks' ≡ set marks place true → ((j : ℕ) → test j ≡ nat_eq j place) → MarksWhere marks marks' test
marks_one marks marks' place test lt is tests = record {
  size = ap length is ∙ length-set marks place true;
  each = λ j within. ap (λ (l : List Bool). is_marked l j) is ∙ by j (cases_eq j place);
}
  where
    by : (j : ℕ) → (j ≡ place) ⊎ (j ≢ place) → is_marked (set marks place true) j ≡ (is_marked marks j || test j)
    by j (inl same) =
        ap (is_marked (set marks place true)) same ∙ get_or-set_same marks place true false lt
        ∙ sym (or_right (is_marked marks j) (test j) (tests j ∙ eq-eqb j place same))
    by j (inr other) =
        get_or-set_other marks place j true false other ∙ sym (or-false (is_marked marks j))
        ∙ ap (λ (b : Bool). is_marked marks j || b) (sym (tests j ∙ ne_eqb j place other))

-- more places are marked
pub marks_more : (marks now new : List Bool) (before more test : ℕ → Bool) → MarksWhere marks now before → MarksWhere now new more
    → ((j : ℕ) → test j ≡ (before j || more j)) → MarksWhere marks new test
marks_more marks now new before more test old on tests = record {
  size = on.size ∙ old.size;
  each = λ j lt. on.each j (let s = old.size in omega (arith, lt, s))
      ∙ ap (λ (b : Bool). b || more j) (old.each j lt)
      ∙ or_assoc (is_marked marks j) (before j) (more j)
      ∙ ap (λ (b : Bool). is_marked marks j || b) (sym (tests j));
}

-- the test of one item more
pub marks_next : {X : Type 0} (test : ℕ → X → Bool) (xs : List X) (i : ℕ) (x d : X) (marks now new : List Bool) → i < length xs → x ≡ get_or xs i d
    → MarksWhere marks now (λ j. list_any (test j) (take i xs)) → MarksWhere now new (λ j. test j x) → MarksWhere marks new (λ j. list_any (test j) (take (i + 1) xs))
marks_next {X} test xs i x d marks now new lt is old on =
    marks_more marks now new (λ j. list_any (test j) (take i xs)) (λ j. test j x) (λ j. list_any (test j) (take (i + 1) xs)) old on
    (λ j. list_any_more (test j) xs i d lt ∙ ap (λ (y : X). list_any (test j) (take i xs) || test j y) (sym is))

pub marks_all : {X : Type 0} (test : ℕ → X → Bool) (xs : List X) (i : ℕ) (marks now : List Bool) → length xs ≤ i
    → MarksWhere marks now (λ j. list_any (test j) (take i xs)) → MarksWhere marks now (λ j. list_any (test j) xs)
marks_all {X} test xs i marks now le old = record {
  size = old.size;
  each = λ j lt. old.each j lt ∙ ap (λ (l : List X). is_marked marks j || list_any (test j) l) (take_all i xs le);
}

-- both kinds of targets are marked, where nothing was
pub targets_marked : (b : Body) (none now new : List Bool) → none ≡ replicate (length b.code) false → length none ≡ length b.code
    → MarksWhere none now (leads_to b.code) → MarksWhere now new (begins_handler b.handlers) → AreTargets b new
targets_marked b none now new is long jumps handlers = record {
  size = handlers.size ∙ jumps.size ∙ long;
  each = λ j lt. handlers.each j (let s = jumps.size in omega (arith, lt, s, long))
      ∙ ap (λ (m : Bool). m || is_handler_target b j) (jumps.each j (omega (arith, lt, long))
      ∙ ap (λ (m : Bool). m || is_jump_target b j) (ap (λ (l : List Bool). is_marked l j) is ∙ get_or-replicate (length b.code) j false false lt));
}
