-- The places of the tables of instrumented code stand in it.
use Rattle.std.proofs.Common.{◌≡◌, ◌⊎◌, inl, inr, ℕ, suc, ◌+◌, ◌<◌, ◌≤◌, Bool, true, false, List, length, get_or, map, nat_lt, refl, ◌∙◌, ap, arith, All, if◌then◌else◌}
use Rattle.std.specs.List.{AllByRecursion}
use Rattle.std.proofs.lemmas.Bool.{cases_lt}
use Rattle.std.proofs.lemmas.List.{length-map}
use Rattle.jc_bytes.proofs.EachLaws.{each_of_all}
use Rattle.jc_methods.specs.WellMade.{IsHandler, IsLine, IsVar, IsWellMadeOfAnySize}
use Rattle.jc_methods.specs.declared.body.Body.{Body}
use Rattle.jc_methods.specs.declared.body.Handler.{Handler}
use Rattle.jc_methods.specs.declared.body.VarAt.{VarAt}
use Rattle.jc_methods.specs.declared.kind.State.{State}
use Rattle.jc_kinds_after.specs.Shift.{slot_of}
use Rattle.jc_plan.specs.Plan.{lead_probe}
use Rattle.jc_emit.specs.Marks.{unplaced}
use Rattle.jc_emit.specs.Emission.{Emitting, emission}
use Rattle.jc_emit.specs.Items.{insn_of, lead_of, land_of, segment_size, twin_items}
use Rattle.jc_emit.specs.Sizes.{narrow, probe_size}
use Rattle.jc_emit.specs.TwinTables.{moved_row, moved_line, moved_var}
use Rattle.jc_emit.proofs.BuiltLaws.{length_twin}
use Rattle.jc_emit.proofs.EndsLaws.{lead_none}
use Rattle.jc_emit.proofs.RowLaws.{total_grows}

-- a row leads to instructions, and ends at most at the end
pub record IsRowIn (count : ℕ) (h : Handler) : Type 0 where
  pub start : h.start ≤ count
  pub end : h.end ≤ count
  pub target : h.target ≤ count

module _ (b : Body) (first : ℕ) (states : List State) (given : Emitting) (well : IsWellMadeOfAnySize b) where
  abbrev n : ℕ
  n = length b.code

  abbrev lead : ℕ → ℕ
  lead i = lead_of b first (narrow given.fetch) i

  abbrev land : ℕ → ℕ
  land i = land_of b first (narrow given.fetch) i

  abbrev end : ℕ
  end = lead n

  pub code_length : length (emission b first states given).code ≡ end
  unfolding emission
  code_length = length-map (twin_items b first (narrow given.fetch)) (insn_of (unplaced given.integer) b.arg_slots) ∙ length_twin b first (narrow given.fetch)

  lead_grows : (i j : ℕ) → i ≤ j → lead i ≤ lead j
  lead_grows i j le = omega (arith, total_grows (segment_size b first (narrow given.fetch)) i j le)

  lead_in : (i : ℕ) → i ≤ n → lead i ≤ end
  lead_in i le = lead_grows i n le

  land_below : (i j : ℕ) → i < j → land i < lead j
  land_below i j lt = let g = lead_grows (suc i) j (omega (arith, lt)) in omega (arith, g)

  land_at_end : land n ≡ end
  land_at_end =
      let last : n ≡ n + 0 = omega arith in
      let none = ap (λ (k : ℕ). probe_size (lead_probe b first k)) last ∙ ap probe_size (lead_none b first (narrow given.fetch) well.code 0) in
      omega (arith, none)

  land_in : (i : ℕ) → i ≤ n → land i ≤ end
  land_in i le = by (cases_lt i n)
    where
      by : (i < n) ⊎ (n ≤ i) → land i ≤ end
      by (inl lt) = let below = land_below i n lt in omega (arith, below)
      by (inr past) = let same : i ≡ n = omega (arith, le, past) in let e = ap land same in let last = land_at_end in omega (arith, e, last)

  land_grows : (i j : ℕ) → i ≤ j → land i ≤ land j
  land_grows i j le = by (cases_lt i j)
    where
      by : (i < j) ⊎ (j ≤ i) → land i ≤ land j
      by (inl lt) = let below = land_below i j lt in omega (arith, below)
      by (inr past) = let same : i ≡ j = omega (arith, le, past) in let e = ap land same in omega (arith, e)

  -- ---- the tables

  row_in : (h : Handler) → IsHandler n h → IsRowIn end (moved_row lead land h)
  row_in h is = record {
    start = let some = is.some in let last = is.end in lead_in h.start (omega (arith, some, last));
    end = lead_in h.end is.end;
    target = let below = is.target in land_in h.target (omega (arith, below));
  }

  shifted : (v k most : ℕ) → k < most → slot_of v k < most + 1
  shifted v k most lt = by (nat_lt k v)
    where
      by : (t : Bool) → (if t then k else k + 1) < most + 1
      by true = omega (arith, lt)
      by false = omega (arith, lt)

  var_in : (x : VarAt) → IsVar n b.max_locals x → IsVar end (b.max_locals + 1) (moved_var b.arg_slots land x)
  var_in x is = record {
    start = land_below x.start n is.start;
    ordered = land_grows x.start x.end is.ordered;
    end = land_in x.end is.end;
    slot = shifted b.arg_slots x.slot b.max_locals is.slot;
  }

  vars_in : (vars : List VarAt) → All (IsVar n b.max_locals) vars → AllByRecursion (IsVar end (b.max_locals + 1)) (map (moved_var b.arg_slots land) vars)
  vars_in vars all = each_of_all (IsVar end (b.max_locals + 1)) (moved_var b.arg_slots land) vars (λ k d lt. var_in (get_or vars k d) (all k d lt))

  pub rows_stand : AllByRecursion (IsRowIn end) (emission b first states given).handlers
  unfolding emission
  rows_stand = each_of_all (IsRowIn end) (moved_row lead land) b.handlers (λ k d lt. row_in (get_or b.handlers k d) (well.handlers k d lt))

  pub lines_stand : AllByRecursion (IsLine end) (emission b first states given).lines
  unfolding emission
  lines_stand = each_of_all (IsLine end) (moved_line land) b.lines (λ k d lt. land_below (get_or b.lines k d).at n (well.lines k d lt))

  pub vars_stand : AllByRecursion (IsVar end (b.max_locals + 1)) (emission b first states given).vars
  unfolding emission
  vars_stand = vars_in b.vars well.vars

  pub kind_vars_stand : AllByRecursion (IsVar end (b.max_locals + 1)) (emission b first states given).kind_vars
  unfolding emission
  kind_vars_stand = vars_in b.kind_vars well.kind_vars

  pub locals_are : (emission b first states given).max_locals ≡ b.max_locals + 1
  unfolding emission
  locals_are = refl
