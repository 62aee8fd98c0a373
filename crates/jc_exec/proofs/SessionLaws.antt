-- Sessions by the time of their dump.
use Rattle.std.proofs.Common.{◌≡◌, ℕ, suc, ◌<◌, ◌≤◌, Bool, true, false, not, cond, ◌&&◌, ℤ, pos, negsuc, List, [], ◌∷◌, length, map, filter, drop, get_or, All, Bor, refl, sym, ◌∙◌, ap, subst, arith}
use Rattle.std.specs.Prelude.{int_le, int_lt}
use Rattle.std.specs.List.{AllByRecursion}
use Rattle.std.specs.List.Sorted.{IsSortedByKey, IsStableByKey}
use Rattle.std.specs.Ordering.{is_lt, int_cmp}
use Rattle.std.specs.declared.cmp.Ordering.TheVariants.{Less, Equal, Greater}
use Rattle.std.proofs.lemmas.Bool.{and_parts, false≢true}
use Rattle.std.proofs.lemmas.Bool.Decides.{nat_tests}
use Rattle.std.proofs.lemmas.Cmp.{int_cmp_total}
use Rattle.std.proofs.lemmas.List.{map-id}
use Rattle.std.proofs.lemmas.List.Sorted.{ranks_by, sorted_far}
use Rattle.jc_bytes.proofs.EachLaws.{all_of_each, each_of_all, all_weaker}
use Rattle.jc_exec.specs.declared.session.Session.{Session}
use Rattle.jc_exec.specs.Writing.{placed, by_dump, InOrder, is_dumped_at, IsByDump}
use Rattle.jc_exec.proofs.UnionLaws.{all_filter}

-- ---- the order of times

le_trans : (a b c : ℤ) → int_le a b ≡ true → int_le b c ≡ true → int_le a c ≡ true
le_trans (pos a) (pos b) (pos c) p q = grind (arith, nat_tests)
le_trans (pos a) (pos b) (negsuc c) p q = absurd cc
le_trans (pos a) (negsuc b) c p q = absurd cc
le_trans (negsuc a) b (pos c) p q = refl
le_trans (negsuc a) (pos b) (negsuc c) p q = absurd cc
le_trans (negsuc a) (negsuc b) (negsuc c) p q = grind (arith, nat_tests)

le_other : (a b : ℤ) → int_le a b ≡ false → int_le b a ≡ true
le_other (pos a) (pos b) p = grind (arith, nat_tests)
le_other (pos a) (negsuc b) p = refl
le_other (negsuc a) (pos b) p = absurd cc
le_other (negsuc a) (negsuc b) p = grind (arith, nat_tests)

-- two sessions of one time
same_time : (time : ℤ) (s t : Session) → is_dumped_at time s ≡ true → is_dumped_at time t ≡ true → int_le s.dump t.dump ≡ true
same_time time s t a b =
    let x = and_parts (int_le s.dump time) (int_le time s.dump) a in
    let y = and_parts (int_le t.dump time) (int_le time t.dump) b in
    le_trans s.dump time t.dump x.0 y.1

-- ---- a session more

all_placed : (P : Session → Type 0) (s : Session) (ts : List Session) → P s → AllByRecursion P ts → AllByRecursion P (placed s ts)
all_placed P s [] p a = (p, tt)
all_placed P s (t ∷ ts) p a = by (int_le s.dump t.dump) (all_placed P s ts p a.1)
  where
    by : (b : Bool) → AllByRecursion P (placed s ts) → AllByRecursion P (cond b (s ∷ t ∷ ts) (t ∷ placed s ts))
    by true rest = (p, a)
    by false rest = (a.0, rest)

placed_in_order : (s : Session) (ts : List Session) → InOrder ts → InOrder (placed s ts)
placed_in_order s [] o = (tt, tt)
placed_in_order s (t ∷ ts) o = by (int_le s.dump t.dump) refl (placed_in_order s ts o.1)
  where
    by : (b : Bool) → int_le s.dump t.dump ≡ b → InOrder (placed s ts) → InOrder (cond b (s ∷ t ∷ ts) (t ∷ placed s ts))
    by true is rest = ((is, all_weaker (λ u. int_le t.dump u.dump ≡ true) (λ u. int_le s.dump u.dump ≡ true) (λ u le. le_trans s.dump t.dump u.dump is le) ts o.0), o)
    by false is rest = (all_placed (λ u. int_le t.dump u.dump ≡ true) s ts (le_other s.dump t.dump is) o.0, rest)

placed_stable : (time : ℤ) (s : Session) (ts : List Session) → filter (is_dumped_at time) (placed s ts) ≡ filter (is_dumped_at time) (s ∷ ts)
placed_stable time s [] = refl
placed_stable time s (t ∷ ts) = by (int_le s.dump t.dump) refl (placed_stable time s ts)
  where
    at : Session → Bool
    at u = is_dumped_at time u

    swapped : (a b : Bool) → is_dumped_at time s ≡ a → is_dumped_at time t ≡ b → int_le s.dump t.dump ≡ false → (rest : List Session)
        → cond b (t ∷ cond a (s ∷ rest) rest) (cond a (s ∷ rest) rest) ≡ cond a (s ∷ cond b (t ∷ rest) rest) (cond b (t ∷ rest) rest)
    swapped true true x y apart rest = absurd (false≢true (sym apart ∙ same_time time s t x y))
    swapped true false x y apart rest = refl
    swapped false true x y apart rest = refl
    swapped false false x y apart rest = refl

    by : (b : Bool) → int_le s.dump t.dump ≡ b → filter (is_dumped_at time) (placed s ts) ≡ filter (is_dumped_at time) (s ∷ ts)
        → filter (is_dumped_at time) (cond b (s ∷ t ∷ ts) (t ∷ placed s ts)) ≡ filter (is_dumped_at time) (s ∷ t ∷ ts)
    by true is rest = refl
    by false is rest =
        ap (λ (l : List Session). cond (is_dumped_at time t) (t ∷ l) l) rest
        ∙ swapped (is_dumped_at time s) (is_dumped_at time t) refl refl is (filter (is_dumped_at time) ts)

pub sessions_by_dump : (ss : List Session) → IsByDump ss (by_dump ss)
sessions_by_dump [] = record { sorted = tt; stable = λ time. refl }
sessions_by_dump (s ∷ ss) =
    let rest = sessions_by_dump ss in
    record {
      sorted = placed_in_order s (by_dump ss) rest.sorted;
      stable = λ time. placed_stable time s (by_dump ss) ∙ ap (λ (l : List Session). cond (is_dumped_at time s) (s ∷ l) l) (rest.stable time);
    }

pub all_by_dump : (P : Session → Type 0) (ss : List Session) → AllByRecursion P ss → AllByRecursion P (by_dump ss)
all_by_dump P [] all = tt
all_by_dump P (s ∷ ss) all = all_placed P s (by_dump ss) all.0 (all_by_dump P ss all.1)

-- ---- one list is in this order

le_self : (a : ℤ) → int_le a a ≡ true
le_self (pos a) = grind (arith, nat_tests)
le_self (negsuc a) = grind (arith, nat_tests)

at_own_time : (s : Session) → is_dumped_at s.dump s ≡ true
at_own_time s = rw (le_self s.dump) refl

-- what is first of the sessions of one time is one of the sessions
first_at : (P : Session → Type 0) (time : ℤ) (ss rest : List Session) (s : Session) → filter (is_dumped_at time) ss ≡ s ∷ rest → AllByRecursion P ss → P s
first_at P time ss rest s is all = (subst (AllByRecursion P) is (all_filter P (is_dumped_at time) ss all)).0

first_of_time : (time : ℤ) (s : Session) (ss : List Session) → is_dumped_at time s ≡ true
    → filter (is_dumped_at time) (s ∷ ss) ≡ s ∷ filter (is_dumped_at time) ss
first_of_time time s ss is = rw is refl

some_none : (s : Session) (ss : List Session) → s ∷ ss ≡ [] → ⊥
some_none s ss e = cc

-- sessions of each time in the same order
abbrev pub SameTimes : List Session → List Session → Type 0
SameTimes xs ys = (time : ℤ) → filter (is_dumped_at time) xs ≡ filter (is_dumped_at time) ys

-- the first of one list is dumped no later than the first of the other
no_later : (x : Session) (xs : List Session) (y : Session) (ys : List Session) → InOrder (y ∷ ys) → SameTimes (x ∷ xs) (y ∷ ys) → int_le y.dump x.dump ≡ true
no_later x xs y ys order same =
    first_at (λ u. int_le y.dump u.dump ≡ true) x.dump (y ∷ ys) (filter (is_dumped_at x.dump) xs) x (sym (same x.dump) ∙ first_of_time x.dump x xs (at_own_time x)) (le_self y.dump, order.0)

later_same : (x : Session) (xs ys : List Session) → SameTimes (x ∷ xs) (x ∷ ys) → SameTimes xs ys
later_same x xs ys same time = by (is_dumped_at time x) (same time)
  where
    by : (b : Bool)
        → cond b (x ∷ filter (is_dumped_at time) xs) (filter (is_dumped_at time) xs) ≡ cond b (x ∷ filter (is_dumped_at time) ys) (filter (is_dumped_at time) ys)
        → filter (is_dumped_at time) xs ≡ filter (is_dumped_at time) ys
    by true e = ap (λ (l : List Session). drop 1 l) e
    by false e = e

same_order : (xs ys : List Session) → InOrder xs → InOrder ys → SameTimes xs ys → xs ≡ ys
same_order [] [] a b same = refl
same_order (x ∷ xs) [] a b same = absurd (some_none x (filter (is_dumped_at x.dump) xs) (sym (first_of_time x.dump x xs (at_own_time x)) ∙ same x.dump))
same_order [] (y ∷ ys) a b same = absurd (some_none y (filter (is_dumped_at y.dump) ys) (sym (first_of_time y.dump y ys (at_own_time y)) ∙ sym (same y.dump)))
same_order (x ∷ xs) (y ∷ ys) a b same =
    let before : int_le y.dump x.dump ≡ true = no_later x xs y ys b same in
    let behind : int_le x.dump y.dump ≡ true = no_later y ys x xs a (λ time. sym (same time)) in
    let at : is_dumped_at x.dump y ≡ true = rw (before, behind) refl in
    let head : x ≡ y = ap (λ (l : List Session). get_or l 0 x) (sym (first_of_time x.dump x xs (at_own_time x)) ∙ same x.dump ∙ first_of_time x.dump y ys at) in
    let tail : xs ≡ ys = same_order xs ys a.1 b.1 (later_same x xs ys (subst (λ (z : Session). SameTimes (x ∷ xs) (z ∷ ys)) (sym head) same)) in
    λ i. head i ∷ tail i

pub only_by_dump : (old new : List Session) → IsByDump old new → new ≡ by_dump old
only_by_dump old new is =
    let own = sessions_by_dump old in
    same_order new (by_dump old) is.sorted own.sorted (λ time. is.stable time ∙ sym (own.stable time))

-- ---- what a stable sort by the time of the dump gives

not_lt : (a b : ℤ) → not (is_lt (int_cmp a b)) ≡ int_le b a
not_lt a b = by (int_lt a b) (int_lt b a) ∙ of_numbers a b
  where
    by : (p q : Bool) → not (is_lt (cond p Less (cond q Greater Equal))) ≡ not p
    by true q = refl
    by false true = refl
    by false false = refl

    of_numbers : (a b : ℤ) → not (int_lt a b) ≡ int_le b a
    of_numbers (pos a) (pos b) = grind (arith, nat_tests)
    of_numbers (pos a) (negsuc b) = refl
    of_numbers (negsuc a) (pos b) = refl
    of_numbers (negsuc a) (negsuc b) = grind (arith, nat_tests)

-- what stands for sessions, among it something for each time
module _ {X : Type 0} (seen : X → Session) (at_time : ℤ → X) (own : (time : ℤ) → (seen (at_time time)).dump ≡ time) where
  abbrev dump_of : X → ℤ
  dump_of s = (seen s).dump

  filter_at : (p : Session → Bool) (q : X → Bool) → ((s : X) → q s ≡ p (seen s)) → (ss : List X) → filter p (map seen ss) ≡ map seen (filter q ss)
  filter_at p q same [] = refl
  filter_at p q same (s ∷ ss) = by (p (seen s)) (q s) (same s) (filter_at p q same ss)
    where
      by : (a b : Bool) → b ≡ a → filter p (map seen ss) ≡ map seen (filter q ss)
          → cond a (seen s ∷ filter p (map seen ss)) (filter p (map seen ss)) ≡ map seen (cond b (s ∷ filter q ss) (filter q ss))
      by true true is rest = ap (λ (l : List Session). seen s ∷ l) rest
      by true false is rest = absurd cc
      by false true is rest = absurd cc
      by false false is rest = rest

  all_at : (P : Session → Type 0) (ss : List X) → ((k : ℕ) (d : X) → k < length ss → P (seen (get_or ss k d))) → AllByRecursion P (map seen ss)
  all_at P [] all = tt
  all_at P (s ∷ ss) all = (all 0 s (omega arith), all_at P ss (λ k d lt. all (suc k) d (omega (arith, lt))))

  in_order : (ss : List X) → ((i j : ℕ) (d : X) → i ≤ j → j < length ss → int_le (dump_of (get_or ss i d)) (dump_of (get_or ss j d)) ≡ true)
      → InOrder (map seen ss)
  in_order [] up = tt
  in_order (s ∷ ss) up = (
    all_at (λ t. int_le (dump_of s) t.dump ≡ true) ss (λ k d lt. up 0 (suc k) d (omega arith) (omega (arith, lt))),
    in_order ss (λ i j d le lt. up (suc i) (suc j) d (omega (arith, le)) (omega (arith, lt))),
  )

  abbrev ties_with : ℤ → X → Bool
  ties_with time s = not (is_lt (int_cmp time (dump_of s))) && not (is_lt (int_cmp (dump_of s) time))

  ties_at : (time : ℤ) (s : X) → ties_with time s ≡ is_dumped_at time (seen s)
  ties_at time s = λ i. not_lt time (dump_of s) i && not_lt (dump_of s) time i

  pub sorted_by_dump : (old new : List X) → IsSortedByKey dump_of int_cmp new → IsStableByKey dump_of int_cmp old new → map seen new ≡ by_dump (map seen old)
  sorted_by_dump old new sorted stable = only_by_dump (map seen old) (map seen new) (record {
    sorted = in_order new (λ i j d le lt. sym (not_lt (dump_of (get_or new j d)) (dump_of (get_or new i d)))
        ∙ ap not (sorted_far (λ x y. is_lt (int_cmp (dump_of x) (dump_of y))) (ranks_by int_cmp_total dump_of) new sorted i j d le lt));
    stable = λ time. subst (λ (t : ℤ). filter (is_dumped_at t) (map seen new) ≡ filter (is_dumped_at t) (map seen old)) (own time)
        (filter_at (is_dumped_at (dump_of (at_time time))) (ties_with (dump_of (at_time time))) (ties_at (dump_of (at_time time))) new
        ∙ ap (map seen) (stable (at_time time))
        ∙ sym (filter_at (is_dumped_at (dump_of (at_time time))) (ties_with (dump_of (at_time time))) (ties_at (dump_of (at_time time))) old));
  })

-- a session of a time
abbrev pub lent_at : ℤ → Bor Session
lent_at time = record { ref_ptr = (0, 0); now = record { id = []; start = pos 0; dump = time } }

-- ---- what holds of all sessions holds of those that are written

pub all_in_order : (P : Session → Type 0) (ss : List Session) (order : List (Bor Session)) → map (λ s. s.now) order ≡ by_dump ss → All P ss
    → All (λ s. P s.now) order
all_in_order P ss order is all = all_of_each P (λ s. s.now) order (subst (AllByRecursion P) (sym is) (all_by_dump P ss (subst (AllByRecursion P) (map-id ss) (each_of_all P (λ s. s) ss all))))

pub all_sorted : (P : Session → Type 0) (ss : List Session) → All P ss → All P (by_dump ss)
all_sorted P ss all = all_of_each P (λ s. s) (by_dump ss) (subst (AllByRecursion P) (sym (map-id (by_dump ss)))
    (all_by_dump P ss (subst (AllByRecursion P) (map-id ss) (each_of_all P (λ s. s) ss all))))
