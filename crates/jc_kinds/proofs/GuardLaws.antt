-- Rows of the exception table and local variables, one after the other.
use Rattle.std.proofs.Common.{◌≡◌, ◌⊎◌, inl, inr, ⊎_elim, ℕ, ◌+◌, ◌<◌, ◌≤◌, true, false, List, [], ◌∷◌, length, take, get_or, sym, ap, ◌∙◌, subst, arith}
use Rattle.std.proofs.lemmas.Bool.{cases_lt, both_ways}
use Rattle.std.proofs.lemmas.List.{take_more, get_or-map}
use Rattle.std.proofs.lemmas.List.Elements.{Contains-append_left, Contains-append_right, Contains-append_cases}
use Rattle.jc_bytes.proofs.BooleanLaws.{none_in, first_in}
use Rattle.jc_bytes.proofs.FirstSeenLaws.{contains_one}
use Rattle.jc_methods.specs.declared.kind.Kind.{Kind}
use Rattle.jc_methods.specs.declared.kind.Kind.TheVariants as kinds
use Rattle.jc_methods.specs.declared.kind.State.{State}
use Rattle.jc_methods.specs.declared.body.Handler.{Handler}
use Rattle.jc_methods.specs.declared.body.FrameAt.{FrameAt}
use Rattle.jc_bytes.proofs.ListLaws.{below_or_last}
use Rattle.jc_kinds.specs.KindFits.{kind_fits}
use Rattle.jc_kinds.specs.First.{IsFirstOrBound}
use Rattle.jc_kinds.specs.Frames.{frame_in}
use Rattle.jc_kinds.specs.Runs.{kind_at, IsFirstUnfit}
use Rattle.jc_kinds.specs.Guarded.{column_of, local_at, wanted_at, frame_catches, IsGuarded, IsUncaught, IsUnfitInColumn, IsUnfitInRow, IsUnguarded}
use Rattle.jc_kinds.proofs.FirstLaws.{none_first, instead_first, either_first}

-- ---- one row

-- the row's handler takes what is caught
pub caught_row : (frames : List FrameAt) (h : Handler) (bound : ℕ) → frame_catches (frame_in frames h.target) ≡ true → IsFirstOrBound (IsUncaught frames (h ∷ [])) bound bound
caught_row frames h bound takes = none_first bound (λ i u.
    let same : h ≡ u.handler = contains_one h u.handler u.row in
    both_ways (frame_catches (frame_in frames h.target)) (ap (λ (x : Handler). frame_catches (frame_in frames x.target)) same ∙ u.uncaught) takes)

-- the bound is in front of the row
pub row_behind : (frames : List FrameAt) (h : Handler) (bound : ℕ) → bound ≤ h.start → IsFirstOrBound (IsUncaught frames (h ∷ [])) bound bound
row_behind frames h bound behind = record {
  within = omega arith;
  free = λ i lt u. let same : h ≡ u.handler = contains_one h u.handler u.row in let s = u.guarded.start in let e = ap (λ (x : Handler). x.start) same in omega (arith, lt, behind, s, e);
  found = λ lt. absurd (omega (arith, lt));
}

-- the row's handler doesn't
pub uncaught_row : (frames : List FrameAt) (h : Handler) (bound : ℕ) → h.start < h.end → h.start < bound → frame_catches (frame_in frames h.target)
    ≡ false → IsFirstOrBound (IsUncaught frames (h ∷ [])) bound h.start
uncaught_row frames h bound some lt unfit = record {
  within = omega (arith, lt);
  free = λ i less u. let same : h ≡ u.handler = contains_one h u.handler u.row in let s = u.guarded.start in let e = ap (λ (x : Handler). x.start) same in omega (arith, less, s, e);
  found = λ less. record { handler = h; row = first_in h []; guarded = record { start = omega arith; end = some }; uncaught = unfit };
}

-- the row guards nothing below the bound
pub row_outside : (column : List Kind) (h : Handler) (want : Kind) (bound last : ℕ) → (last ≡ h.end) ⊎ (last ≡ bound) → last ≤ h.end → last ≤ bound
    → last ≤ h.start → IsFirstOrBound (IsUnfitInRow column h want) bound bound
row_outside column h want bound last which le le' none = record {
  within = omega arith;
  free = λ i lt u. let s = u.guarded.start in let e = u.guarded.end in ⊎_elim (λ q. omega (arith, q, s, e, none)) (λ q. omega (arith, q, s, lt, none)) which;
  found = λ lt. absurd (omega (arith, lt));
}

-- the first place of the row's range below the bound
pub row_first : (column : List Kind) (h : Handler) (want : Kind) (bound last first result : ℕ) → (last ≡ h.end) ⊎ (last ≡ bound) → last ≤ h.end → last ≤ bound
    → IsFirstUnfit column want h.start last first → (first < last → result ≡ first) → (last ≤ first → result ≡ bound) → IsFirstOrBound (IsUnfitInRow column h want) bound result
row_first column h want bound last first result which le le' unfit early late = ⊎_elim found none (cases_lt first last)
  where
    found : first < last → IsFirstOrBound (IsUnfitInRow column h want) bound result
    found lt = let is = early lt in record {
      within = omega (arith, is, lt, le');
      free = λ i less u. both_ways (kind_fits (kind_at column i) want) u.unfit (unfit.fitting i u.guarded.start (omega (arith, less, is)));
      found = λ less. subst (IsUnfitInRow column h want) (sym is) (record { guarded = record { start = unfit.from; end = omega (arith, lt, le) }; unfit = unfit.unfit lt });
    }

    none : last ≤ first → IsFirstOrBound (IsUnfitInRow column h want) bound result
    none ge = let is = late ge in record {
      within = omega (arith, is);
      free = λ i less u. let e = u.guarded.end in
          let inside : i < last = ⊎_elim (λ q. omega (arith, q, e)) (λ q. omega (arith, q, less, is)) which in
          both_ways (kind_fits (kind_at column i) want) u.unfit (unfit.fitting i u.guarded.start (omega (arith, inside, ge)));
      found = λ less. absurd (omega (arith, less, is));
    }

-- ---- one row more

-- the row that stands for none
abbrev pub no_row : Handler
no_row = record { start = 0; end = 0; target = 0; class = 0 }

abbrev pub row_at : List Handler → ℕ → Handler
row_at hs i = get_or hs i no_row

pub next_uncaught : (frames : List FrameAt) (hs : List Handler) (i bound middle result : ℕ) → i < length hs
    → IsFirstOrBound (IsUncaught frames (take i hs)) bound middle → IsFirstOrBound (IsUncaught frames (row_at hs i ∷ [])) middle result
    → IsFirstOrBound (IsUncaught frames (take (i + 1) hs)) bound result
next_uncaught frames hs i bound middle result lt old new =
    let h = row_at hs i in
    subst (λ (l : List Handler). IsFirstOrBound (IsUncaught frames l) bound result) (sym (take_more hs i no_row lt))
    (instead_first bound result
    (λ j less e. ⊎_elim
    (λ u. record { handler = u.handler; row = Contains-append_left (take i hs) (h ∷ []) u.handler u.row; guarded = u.guarded; uncaught = u.uncaught })
    (λ u. record { handler = u.handler; row = Contains-append_right (take i hs) (h ∷ []) u.handler u.row; guarded = u.guarded; uncaught = u.uncaught })
    e)
    (λ j less u. ⊎_elim
    (λ c. inl (record { handler = u.handler; row = c; guarded = u.guarded; uncaught = u.uncaught }))
    (λ c. inr (record { handler = u.handler; row = c; guarded = u.guarded; uncaught = u.uncaught }))
    (Contains-append_cases (take i hs) (h ∷ []) u.handler u.row))
    (either_first bound middle result old new))

pub next_unfit : (column : List Kind) (frames : List FrameAt) (slot : ℕ) (hs : List Handler) (i bound middle result : ℕ) → i < length hs
    → IsFirstOrBound (IsUnfitInColumn column frames slot (take i hs)) bound middle
    → IsFirstOrBound (IsUnfitInRow column (row_at hs i) (wanted_at slot (frame_in frames (row_at hs i).target))) middle result
    → IsFirstOrBound (IsUnfitInColumn column frames slot (take (i + 1) hs)) bound result
next_unfit column frames slot hs i bound middle result lt old new =
    let h = row_at hs i in
    subst (λ (l : List Handler). IsFirstOrBound (IsUnfitInColumn column frames slot l) bound result) (sym (take_more hs i no_row lt))
    (instead_first bound result
    (λ j less e. ⊎_elim
    (λ u. record { handler = u.handler; row = Contains-append_left (take i hs) (h ∷ []) u.handler u.row; guarded = u.guarded; unfit = u.unfit })
    (λ u. record { handler = h; row = Contains-append_right (take i hs) (h ∷ []) h (first_in h []); guarded = u.guarded; unfit = u.unfit })
    e)
    (λ j less u. ⊎_elim
    (λ c. inl (record { handler = u.handler; row = c; guarded = u.guarded; unfit = u.unfit }))
    (λ c. let same : u.handler ≡ h = sym (contains_one h u.handler c) in inr (record {
      guarded = subst (λ (x : Handler). IsGuarded x j) same u.guarded;
      unfit = subst (λ (x : Handler). kind_fits (kind_at column j) (wanted_at slot (frame_in frames x.target)) ≡ false) same u.unfit;
    }))
    (Contains-append_cases (take i hs) (h ∷ []) u.handler u.row))
    (either_first bound middle result old new))

-- ---- all rows

pub no_rows_uncaught : (frames : List FrameAt) (bound : ℕ) → IsFirstOrBound (IsUncaught frames []) bound bound
no_rows_uncaught frames bound = none_first bound (λ i u. none_in u.handler u.row)

pub no_rows_unfit : (column : List Kind) (frames : List FrameAt) (slot bound : ℕ) → IsFirstOrBound (IsUnfitInColumn column frames slot []) bound bound
no_rows_unfit column frames slot bound = none_first bound (λ i u. none_in u.handler u.row)

-- ---- one local variable more

pub no_slots : (states : List State) (frames : List FrameAt) (hs : List Handler) (bound result : ℕ)
    → IsFirstOrBound (IsUncaught frames hs) bound result → IsFirstOrBound (IsUnguarded states frames hs 0) bound result
no_slots states frames hs bound result first = instead_first bound result (λ i lt u. inl u) (λ i lt e. ⊎_elim (λ u. u) (λ u. let none = u.1 in absurd (omega (arith, none))) e) first

pub next_slot : (states : List State) (frames : List FrameAt) (hs : List Handler) (slot bound middle result : ℕ) → IsFirstOrBound (IsUnguarded states frames hs slot) bound middle
    → IsFirstOrBound (IsUnfitInColumn (column_of states slot) frames slot hs) middle result → IsFirstOrBound (IsUnguarded states frames hs (slot + 1)) bound result
next_slot states frames hs slot bound middle result old new =
    instead_first bound result
    (λ i lt e. ⊎_elim
    (λ g. ⊎_elim (λ u. inl u) (λ u. let less = u.1 in inr (u.0, omega (arith, less), u.2)) g)
    (λ u. inr (slot, omega arith, u))
    e)
    (λ i lt g. ⊎_elim
    (λ u. inl (inl u))
    (λ u. ⊎_elim (λ less. inl (inr (u.0, less, u.2))) (λ same. inr (subst (λ (k : ℕ). IsUnfitInColumn (column_of states k) frames k hs i) same u.2)) (below_or_last slot u.0 u.1))
    g)
    (either_first bound middle result old new)

-- ---- one state more

-- the type in the column is that of the state
pub column_at : (states : List State) (slot i : ℕ) (s : State) → i < length states → s ≡ get_or states i s → kind_at (column_of states slot) i ≡ local_at slot s
column_at states slot i s lt is = get_or-map (local_at slot) states i s kinds.Top lt ∙ ap (local_at slot) (sym is)

-- the types up to one more state fit
pub fit_next : (states : List State) (slot start at : ℕ) (want : Kind) (s : State) → at < length states → s ≡ get_or states at s → kind_fits (local_at slot s) want ≡ true
    → ((k : ℕ) → start ≤ k → k < at → kind_fits (kind_at (column_of states slot) k) want ≡ true)
    → (k : ℕ) → start ≤ k → k < at + 1 → kind_fits (kind_at (column_of states slot) k) want ≡ true
fit_next states slot start at want s lt is fits before = λ k from less.
    ⊎_elim
    (λ sooner. before k from sooner)
    (λ same. subst (λ (n : ℕ). kind_fits (kind_at (column_of states slot) n) want ≡ true) (sym same) (ap (λ (kind : Kind). kind_fits kind want) (column_at states slot at s lt is) ∙ fits))
    (below_or_last at k less)

-- any type fits Top
pub top_fits : (column : List Kind) (h : Handler) (want : Kind) (bound : ℕ) → want ≡ kinds.Top → IsFirstOrBound (IsUnfitInRow column h want) bound bound
top_fits column h want bound top = none_first bound (λ i u. both_ways (kind_fits (kind_at column i) want) u.unfit (ap (kind_fits (kind_at column i)) top))
