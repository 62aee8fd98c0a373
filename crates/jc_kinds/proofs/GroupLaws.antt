-- The first place whose type doesn't fit, by groups of rows.
use Rattle.std.proofs.Common.{◌≡◌, ◌⊎◌, inl, inr, ⊎_elim, ℕ, ◌+◌, ◌<◌, ◌≤◌, true, false, List, [], ◌∷◌, ◌++◌, length, take, get_or, sym, ap, ◌∙◌, subst, arith}
use Rattle.std.specs.Global.{Vec}
use Rattle.std.specs.List.{All, AllWithin, Contains}
use Rattle.std.proofs.lemmas.Bool.{cases_lt, both_ways}
use Rattle.std.proofs.lemmas.List.{take_more, map-append, length-map, get_or-map, get_or_default}
use Rattle.std.proofs.lemmas.List.Elements.{Contains-get_or, Contains-append_left, Contains-push, Contains-push_cases}
use Rattle.jc_bytes.proofs.BooleanLaws.{none_in}
use Rattle.jc_methods.specs.declared.kind.Kind.{Kind}
use Rattle.jc_methods.specs.declared.body.Handler.{Handler}
use Rattle.jc_methods.specs.declared.body.FrameAt.{FrameAt}
use Rattle.jc_kinds.specs.KindFits.{kind_fits}
use Rattle.jc_kinds.specs.First.{IsFirstOrBound}
use Rattle.jc_kinds.specs.Frames.{frame_in}
use Rattle.jc_kinds.specs.Runs.{kind_at, IsFirstUnfit}
use Rattle.jc_kinds.specs.Guarded.{wanted_at, IsGuarded, IsUnfitInColumn}
use Rattle.jc_kinds.specs.Rows.{AreRising, IsGroup, AreGroups, IsUnfitInRows, IsUnfitInGroups, rows_of}
use Rattle.jc_kinds.proofs.FirstLaws.{none_first, instead_first, either_first}
use Rattle.jc_kinds.proofs.GuardLaws.{no_row, row_at}

-- ---- the rows of one handler

-- below the bound the types fit that the first rows guard
abbrev pub FitSoFar : List Kind → List Handler → Kind → ℕ → ℕ → Type 0
FitSoFar column rows want bound at = (k i : ℕ) → k < at → IsGuarded (row_at rows k) i → i < bound → kind_fits (kind_at column i) want ≡ true

module _ (column : List Kind) (rows : List Handler) (want : Kind) (bound : ℕ) where
  -- the row that guards a place at which the type doesn't fit
  unfit_row : (i : ℕ) → IsUnfitInRows column rows want i → (k : ℕ) × (k < length rows) × IsGuarded (row_at rows k) i × (kind_fits (kind_at column i) want ≡ false)
  unfit_row i u =
      let c = u.row in
      let is : row_at rows c.0 ≡ u.handler = get_or_default rows c.0 no_row u.handler c.1 ∙ c.2 in
      (c.0, c.1, subst (λ (x : Handler). IsGuarded x i) (sym is) u.guarded, u.unfit)

  pub rows_over : (at : ℕ) → length rows ≤ at → FitSoFar column rows want bound at → IsFirstOrBound (IsUnfitInRows column rows want) bound bound
  rows_over at past fit = record {
    within = omega arith;
    free = λ i lt u. let r = unfit_row i u in let inside = r.1 in both_ways (kind_fits (kind_at column i) want) r.3 (fit r.0 i (omega (arith, inside, past)) r.2 lt);
    found = λ lt. absurd (omega (arith, lt));
  }

  module _ (at : ℕ) (h : Handler) (inside : at < length rows) (is : h ≡ row_at rows at) (up : AreRising rows) (fit : FitSoFar column rows want bound at) where
    -- a later row begins no sooner
    later_start : (k i : ℕ) → at ≤ k → k < length rows → IsGuarded (row_at rows k) i → h.start ≤ i
    later_start k i le lt guarded =
        let rises : (row_at rows at).start ≤ (row_at rows k).start = up.starts at k no_row le lt in
        let start = guarded.start in let e = ap (λ (x : Handler). x.start) is in
        omega (arith, rises, start, e)

    pub rows_behind : bound ≤ h.start → IsFirstOrBound (IsUnfitInRows column rows want) bound bound
    rows_behind behind = record {
      within = omega arith;
      free = λ i lt u. let r = unfit_row i u in ⊎_elim
          (λ less. both_ways (kind_fits (kind_at column i) want) r.3 (fit r.0 i less r.2 lt))
          (λ le. let begun = later_start r.0 i le r.1 r.2 in omega (arith, begun, behind, lt))
          (cases_lt r.0 at);
      found = λ lt. absurd (omega (arith, lt));
    }

    module _ (unfit : ℕ) (first : IsFirstUnfit column want h.start bound unfit) where
      pub rows_found : unfit < h.end → IsFirstOrBound (IsUnfitInRows column rows want) bound unfit
      rows_found guarded = record {
        within = first.within;
        free = λ i lt u. let r = unfit_row i u in let le = first.within in ⊎_elim
            (λ less. both_ways (kind_fits (kind_at column i) want) r.3 (fit r.0 i less r.2 (omega (arith, lt, le))))
            (λ later. both_ways (kind_fits (kind_at column i) want) r.3 (first.fitting i (later_start r.0 i later r.1 r.2) lt))
            (cases_lt r.0 at);
        found = λ lt. record {
          handler = h;
          row = subst (Contains rows) (sym is) (Contains-get_or rows at no_row inside);
          guarded = record { start = first.from; end = guarded };
          unfit = first.unfit lt;
        };
      }

      pub rows_next : (next : ℕ) → h.end ≤ unfit → next ≤ length rows → AllWithin (λ (x : Handler). x.end ≤ unfit) rows (at + 1) next → FitSoFar column rows want bound next
      rows_next next ended within all k i lt guarded below = ⊎_elim
          (λ less. fit k i less guarded below)
          (λ le. first.fitting i (later_start k i le (omega (arith, lt, within)) guarded) (by (cases_lt at k) le))
          (cases_lt k at)
        where
          by : (at < k) ⊎ (k ≤ at) → at ≤ k → i < unfit
          by (inl more) le = let less = all k no_row (omega (arith, more)) lt in let end = guarded.end in omega (arith, less, end)
          by (inr same) le =
              let here : k ≡ at = omega (arith, same, le) in
              let end = guarded.end in let e = ap (λ (j : ℕ). (row_at rows j).end) here in let f = ap (λ (x : Handler). x.end) is in
              omega (arith, end, e, f, ended)

-- ---- groups

pub group_first : (column : List Kind) (frames : List FrameAt) (slot : ℕ) (rows : List Handler) (want : Kind) (bound result : ℕ) → IsGroup rows → 0 < length rows
    → want ≡ wanted_at slot (frame_in frames (row_at rows 0).target) → IsFirstOrBound (IsUnfitInRows column rows want) bound result
    → IsFirstOrBound (IsUnfitInColumn column frames slot rows) bound result
group_first column frames slot rows want bound result group some is first = instead_first bound result
    (λ i lt u. record { handler = u.handler; row = u.row; guarded = u.guarded; unfit = subst (λ (kind : Kind). kind_fits (kind_at column i) kind ≡ false) (same u.handler u.row) u.unfit })
    (λ i lt u. record { handler = u.handler; row = u.row; guarded = u.guarded; unfit = subst (λ (kind : Kind). kind_fits (kind_at column i) kind ≡ false) (sym (same u.handler u.row)) u.unfit })
    first
  where
    same : (h : Handler) → Contains rows h → want ≡ wanted_at slot (frame_in frames h.target)
    same h c = is ∙ ap (λ (t : ℕ). wanted_at slot (frame_in frames t)) (group.alike (row_at rows 0) h (Contains-get_or rows 0 no_row some) c)

pub no_groups_unfit : (column : List Kind) (frames : List FrameAt) (slot bound : ℕ) → IsFirstOrBound (IsUnfitInGroups column frames slot []) bound bound
no_groups_unfit column frames slot bound = none_first bound (λ i u. none_in u.group u.is)

-- one of the groups
pub group_at : (groups : List (Vec Handler)) (i : ℕ) (rows : Vec Handler) → i < length groups → rows ≡ get_or groups i rows → All IsGroup (rows_of groups) → IsGroup rows.items
group_at groups i rows lt is all =
    let size = length-map groups (λ (x : Vec Handler). x.items) in
    subst IsGroup (get_or-map (λ (x : Vec Handler). x.items) groups i rows [] lt ∙ ap (λ (x : Vec Handler). x.items) (sym is)) (all i [] (omega (arith, lt, size)))

pub next_group : (column : List Kind) (frames : List FrameAt) (slot : ℕ) (groups : List (Vec Handler)) (i bound middle result : ℕ) (v : Vec Handler) → i < length groups → v ≡ get_or groups i v
    → IsFirstOrBound (IsUnfitInGroups column frames slot (rows_of (take i groups))) bound middle → IsFirstOrBound (IsUnfitInColumn column frames slot v.items) middle result
    → IsFirstOrBound (IsUnfitInGroups column frames slot (rows_of (take (i + 1) groups))) bound result
next_group column frames slot groups i bound middle result v lt is old new =
    let rows = v.items in
    let before = rows_of (take i groups) in
    let more : rows_of (take (i + 1) groups) ≡ before ++ rows ∷ [] =
    ap rows_of (take_more groups i v lt ∙ ap (λ (x : Vec Handler). take i groups ++ x ∷ []) (sym is)) ∙ map-append (λ (x : Vec Handler). x.items) (take i groups) (v ∷ []) in
    subst (λ (l : List (List Handler)). IsFirstOrBound (IsUnfitInGroups column frames slot l) bound result) (sym more)
    (instead_first bound result
    (λ j less e. ⊎_elim
    (λ u. record { group = u.group; is = Contains-append_left before (rows ∷ []) u.group u.is; unfit = u.unfit })
    (λ u. record { group = rows; is = Contains-push before rows; unfit = u })
    e)
    (λ j less u. ⊎_elim
    (λ c. inl (record { group = u.group; is = c; unfit = u.unfit }))
    (λ same. inr (subst (λ (l : List Handler). IsUnfitInColumn column frames slot l j) (sym same) u.unfit))
    (Contains-push_cases before rows u.group u.is))
    (either_first bound middle result old new))

-- by all groups
pub all_rows_first : (column : List Kind) (frames : List FrameAt) (slot : ℕ) (rows : List Handler) (groups : List (List Handler)) (bound result : ℕ) → AreGroups rows groups
    → IsFirstOrBound (IsUnfitInGroups column frames slot groups) bound result → IsFirstOrBound (IsUnfitInColumn column frames slot rows) bound result
all_rows_first column frames slot rows groups bound result are first = instead_first bound result
    (λ i lt u. let v = u.unfit in record { handler = v.handler; row = are.among u.group v.handler u.is v.row; guarded = v.guarded; unfit = v.unfit })
    (λ i lt u. let by = are.guarding u.handler i u.row u.guarded in record {
      group = by.group;
      is = by.is;
      unfit = record {
        handler = by.handler;
        row = by.row;
        guarded = by.guarded;
        unfit = subst (λ (t : ℕ). kind_fits (kind_at column i) (wanted_at slot (frame_in frames t)) ≡ false) (sym by.same) u.unfit;
      };
    })
    first
