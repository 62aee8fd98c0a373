-- The rows of the exception table of an instrumented method are of their form.
use Rattle.std.proofs.Common.{◌≡◌, ◌⊎◌, inl, inr, ℕ, suc, ◌<◌, ◌≤◌, Bool, true, false, List, length, map, Option, Some, None, nat_eq, if◌then◌else◌, refl, sym, ◌∙◌, ap, subst, arith}
use Rattle.std.specs.Prelude.{slice_get}
use Rattle.std.specs.Option.{option_and_then}
use Rattle.std.proofs.lemmas.Bool.{cases_lt}
use Rattle.std.proofs.lemmas.List.{length-map}
use Rattle.std.proofs.lemmas.Option.{none-some, same_Some, slice_get_within, get_or_from_slice_get}
use Rattle.jc_bytes.proofs.ListLaws.{mapped_at}
use Rattle.jc_methods.proofs.StartsLaws.{rising, number_of_end}
use Rattle.jc_methods.specs.InsnUse.{IsClass}
use Rattle.jc_methods.specs.Starts.{insn_number, AreStarts}
use Rattle.jc_methods.specs.WellMade.{IsHandler, IsWellMadeOfAnySize}
use Rattle.jc_methods.specs.declared.body.Body.{Body}
use Rattle.jc_methods.specs.declared.body.Handler.{Handler}
use Rattle.jc_methods.specs.declared.body.What.{What}
use Rattle.jc_methods.specs.declared.body.What.TheVariants as whats
use Rattle.jc_methods.specs.declared.emitted.Emitted.{Emitted}
use Rattle.jc_methods.specs.declared.insn.Insn.{Insn}
use Rattle.jc_methods.specs.declared.kind.State.{State}
use Rattle.jc_pool.specs.declared.constant.ConstText.{ConstText}
use Rattle.jc_pool.specs.declared.constant.ConstText.TheVariants as constants
use Rattle.jc_pool.specs.Lookup.{Member, member_of, Computed, computed_of, class_name_of, const_of}
use Rattle.jc_pool.specs.Pool.{PoolValue}
use Rattle.jc_body.specs.Faults.{IsClassOrNone, IsRow}
use Rattle.jc_body.specs.Standing.{found_in, found_at, what_of_member, what_of_constant, what_of, what_at}
use Rattle.jc_body.specs.declared.items.Row.{Row}
use Rattle.jc_emit.specs.Marks.{TwinPlaces, unplaced}
use Rattle.jc_emit.specs.Sizes.{narrow}
use Rattle.jc_emit.specs.Emission.{Emitting, emission}
use Rattle.jc_emit.specs.Items.{insn_of, lead_of, land_of, segment_size, twin_items}
use Rattle.jc_emit.specs.TwinTables.{moved_row}
use Rattle.jc_emit.proofs.BuiltLaws.{length_twin}
use Rattle.jc_emit.proofs.RowLaws.{total_grows}
use Rattle.jc_layout.specs.LaidBody.{laid_place}
use Rattle.jc_layout.specs.Layout.{chosen, chosen_list, chosen_length}
use Rattle.jc_layout.proofs.MergedLaws.{wide_places_rise}
use Rattle.jc_instrument_code.specs.TwinCode.{offset_in}
use Rattle.jc_instrument_reread.specs.ReadCode.{row_at, written_insns, written_starts}
use Rattle.jc_instrument_reread.proofs.OffsetLaws.{offset_at, number_at}
use Rattle.jc_instrument_reread.specs.WrittenCode.{ready_emission}
use Rattle.jc_layout.proofs.LayableLaws.{ready_length}

-- ---- the class of a row

no_member : (m : Member) → IsClass (what_of_member m) → ⊥
no_member m class = by (nat_eq m.tag 9) (nat_eq m.tag 18) class
  where
    by : (a b : Bool)
        → IsClass (if a then whats.Field m.class m.name m.desc else if b then whats.Call m.name m.desc else whats.Method m.class m.name m.desc) → ⊥
    by true b h = h
    by false true h = h
    by false false h = h

no_constant : (k : ConstText) (what : What) → what_of_constant k ≡ Some what → IsClass what → ⊥
no_constant (constants.Int value) what is class = subst IsClass (sym (same_Some (whats.Int value) what is)) class
no_constant (constants.Long value) what is class = subst IsClass (sym (same_Some (whats.Long value) what is)) class
no_constant constants.Float what is class = subst IsClass (sym (same_Some whats.Float what is)) class
no_constant constants.Double what is class = subst IsClass (sym (same_Some whats.Double what is)) class
no_constant constants.Text what is class = subst IsClass (sym (same_Some whats.Text what is)) class
no_constant constants.Handle what is class = subst IsClass (sym (same_Some whats.Handle what is)) class
no_constant constants.MethodKind what is class = subst IsClass (sym (same_Some whats.MethodKind what is)) class
no_constant constants.Class what is class = none-some what is
no_constant constants.Computed what is class = none-some what is

-- a class is used where a class stands
pub class_there : (pool : PoolValue) (place : ℕ) (what : What) → what_at pool place ≡ Some what → IsClass what
    → (name : List ℕ) × (class_name_of pool place ≡ Some name)
unfolding found_at
class_there pool place what is class = by (computed_of pool place) (member_of pool place) (class_name_of pool place) (const_of pool place) refl is
  where
    by : (d : Option Computed) (m : Option Member) (c : Option (List ℕ)) (k : Option ConstText) → class_name_of pool place ≡ c
        → option_and_then what_of (found_in d m c k) ≡ Some what → (name : List ℕ) × (class_name_of pool place ≡ Some name)
    by (Some d) m c k there h =
        absurd (subst IsClass (sym (same_Some (whats.Computed d.signed.name d.signed.desc d.bootstrap) what h)) class)
    by None (Some m) c k there h = absurd (no_member m (subst IsClass (sym (same_Some (what_of_member m) what h)) class))
    by None None (Some name) k there h = (name, there)
    by None None None (Some k) there h = absurd (no_constant k what h class)
    by None None None None there h = absurd (none-some what h)

-- ---- places

module _ (b : Body) (first : ℕ) (states : List State) (given : Emitting) (giver : ℕ) (well : IsWellMadeOfAnySize b) where
  abbrev e : Emitted
  e = ready_emission b first states given giver

  abbrev lead : ℕ → ℕ
  lead i = lead_of b first (narrow given.fetch) i

  abbrev land : ℕ → ℕ
  land i = land_of b first (narrow given.fetch) i

  code_size : length (ready_emission b first states given giver).code ≡ lead_of b first (narrow given.fetch) (length b.code)
  unfolding emission
  code_size =
      ready_length given.fetch giver (emission b first states given).code
      ∙ length-map (twin_items b first (narrow given.fetch)) (insn_of (unplaced given.integer) b.arg_slots) ∙ length_twin b first (narrow given.fetch)

  lead_rises : (i j : ℕ) → i < j → lead (suc i) ≤ lead j
  lead_rises i j lt = let grows = total_grows (segment_size b first (narrow given.fetch)) (suc i) j (omega (arith, lt)) in omega (arith, grows)

  -- a row of the instrumented code guards an instruction or more
  row_moved : (h : Handler) → IsHandler (length b.code) h → IsHandler (length (ready_emission b first states given giver).code) (moved_row lead land h)
  row_moved h is = record {
    some = let up = lead_rises h.start h.end is.some in omega (arith, up);
    end =
        let grows = total_grows (segment_size b first (narrow given.fetch)) h.end (length b.code) is.end in
        let size = code_size in
        omega (arith, grows, size);
    target = let up = lead_rises h.target (length b.code) is.target in let size = code_size in omega (arith, up, size);
  }

  pub handlers_are : (ready_emission b first states given giver).handlers ≡ map (moved_row (lead_of b first (narrow given.fetch)) (land_of b first (narrow given.fetch))) b.handlers
  unfolding emission
  handlers_are = refl

  module _ (p : TwinPlaces) (size : ℕ)
      (starts : AreStarts (length (written_insns given.fetch p (ready_emission b first states given giver))) size
      (written_starts (ready_emission b first states given giver)))
      (size_is : size ≡ chosen_length (ready_emission b first states given giver).code) where
    abbrev code : List Insn
    code = (ready_emission b first states given giver).code

    abbrev place : ℕ → ℕ
    place k = laid_place (chosen_list code) code k

    abbrev count : ℕ
    count = length (written_insns given.fetch p (ready_emission b first states given giver))

    abbrev offset : ℕ → ℕ
    offset k = offset_in (ready_emission b first states given giver) k

    place_rises : (i j : ℕ) → i < j → place i < place j
    place_rises i j lt = wide_places_rise (chosen code) code i j lt

    -- the end of the code is the end of the layout
    end_place : place (length code) ≡ count
    end_place =
        sym (number_at code (length code) (omega arith))
        ∙ ap (insn_number (written_starts (ready_emission b first states given giver))) (sym size_is) ∙ number_of_end count size (written_starts (ready_emission b first states given giver)) starts

    place_below : (k : ℕ) → k < length code → place k < count
    place_below k lt = let up = place_rises k (length code) lt in let end = end_place in omega (arith, up, end)

    place_most : (k : ℕ) → k ≤ length code → place k ≤ count
    place_most k le = by (cases_lt k (length code))
      where
        by : (k < length code) ⊎ (length code ≤ k) → place k ≤ count
        by (inl lt) = let below = place_below k lt in omega (arith, below)
        by (inr past) = let same : k ≡ length code = omega (arith, le, past) in let here = ap place same in let end = end_place in omega (arith, here, end)

    offset_rises : (i j : ℕ) → i < j → j ≤ length code → offset i < offset j
    offset_rises i j lt le =
        let up = rising count size (written_starts (ready_emission b first states given giver)) starts (place i) (place j) (place_rises i j lt) (place_most j le) in
        let low = offset_at code i in
        let high = offset_at code j in
        omega (arith, up, low, high)

    start_below : (k : ℕ) → k < length code → insn_number (written_starts (ready_emission b first states given giver)) (offset k) < count
    start_below k lt = let number = number_at code k (omega (arith, lt)) in let below = place_below k lt in omega (arith, number, below)

    row_fine : (pool : PoolValue) (h : Handler) → IsHandler (length code) h → IsClassOrNone pool h.class
        → IsRow pool (insn_number (written_starts (ready_emission b first states given giver))) count size (row_at (offset_in (ready_emission b first states given giver)) h)
    row_fine pool h is class = record {
      ordered = offset_rises h.start h.end is.some is.end;
      start = start_below h.start (let some = is.some in let end = is.end in omega (arith, some, end));
      end = by (cases_lt h.end (length code));
      target = start_below h.target is.target;
      class = class;
    }
      where
        by : (h.end < length code) ⊎ (length code ≤ h.end)
            → (insn_number (written_starts (ready_emission b first states given giver)) (offset h.end) < count) ⊎ (offset h.end ≡ size)
        by (inl lt) = inl (start_below h.end lt)
        by (inr past) = let end = is.end in let same : h.end ≡ length code = omega (arith, end, past) in inr (ap offset same ∙ sym size_is)

    -- each row is of its form, where each class that a row names stands in the pool
    pub rows_fine : (pool : PoolValue) → ((i : ℕ) (h : Handler) → slice_get b.handlers i ≡ Some h → IsClassOrNone pool h.class)
        → (i : ℕ) (row : Row) → slice_get (map (row_at (offset_in (ready_emission b first states given giver))) (ready_emission b first states given giver).handlers) i ≡ Some row
        → IsRow pool (insn_number (written_starts (ready_emission b first states given giver))) count size row
    rows_fine pool classes i row at =
        let new = mapped_at (row_at (offset_in (ready_emission b first states given giver))) (ready_emission b first states given giver).handlers i row at in
        let old = mapped_at (moved_row (lead_of b first (narrow given.fetch)) (land_of b first (narrow given.fetch))) b.handlers i new.0
        (ap (λ (l : List Handler). slice_get l i) (sym handlers_are) ∙ new.1) in
        let h = old.0 in
        let lt = slice_get_within b.handlers i h old.1 in
        let is = subst (IsHandler (length b.code)) (get_or_from_slice_get b.handlers i h h old.1) (well.handlers i h lt) in
        subst (IsRow pool (insn_number (written_starts (ready_emission b first states given giver))) count size) (ap (row_at (offset_in (ready_emission b first states given giver))) old.2 ∙ new.2)
        (row_fine pool (moved_row (lead_of b first (narrow given.fetch)) (land_of b first (narrow given.fetch)) h) (row_moved h is) (classes i h old.1))
