-- What the body of a method whose instrumented code is written says of the grown pool.
use Rattle.std.proofs.Common.{◌≡◌, ◌⊎◌, inl, inr, ℕ, ◌<◌, List, length, map, get_or, Some, refl, sym, ◌∙◌, ap, subst, arith}
use Rattle.std.specs.Prelude.{Contains, slice_get}
use Rattle.std.proofs.lemmas.Bool.{cases_eq}
use Rattle.std.proofs.lemmas.Option.{slice_get_within, slice_get-get_or, get_or_from_slice_get}
use Rattle.jc_methods.specs.VerificationTypes.{Names}
use Rattle.jc_methods.specs.InsnUse.{IsClass}
use Rattle.jc_methods.specs.Starts.{insn_number}
use Rattle.jc_methods.specs.WellMade.{HasUse}
use Rattle.jc_methods.specs.declared.body.Body.{Body}
use Rattle.jc_methods.specs.declared.body.Handler.{Handler}
use Rattle.jc_methods.specs.declared.insn.Insn.{Insn}
use Rattle.jc_methods.specs.declared.insn.Insn.TheVariants as insns
use Rattle.jc_methods.specs.declared.kind.State.{State}
use Rattle.jc_bytes.proofs.BooleanLaws.{in_map}
use Rattle.jc_insn.proofs.DecodedInsnLaws.{are_starts}
use Rattle.jc_pool.specs.Adding.{Extends}
use Rattle.jc_pool.specs.Pool.{PoolValue}
use Rattle.jc_class.specs.declared.class_file.ClassFile.{ClassFile}
use Rattle.jc_class.specs.declared.class_file.Member.{Member}
use Rattle.jc_body.specs.BodyOf.{handler_of, places_used}
use Rattle.jc_body.specs.Faults.{IsClassOrNone}
use Rattle.jc_body.specs.Standing.{HasRightEntry}
use Rattle.jc_body.specs.declared.coded.Coded.{Coded}
use Rattle.jc_body.proofs.StandingLaws.{right_entry_or_not}
use Rattle.jc_emit.specs.Emission.{Emitting}
use Rattle.jc_emit.specs.Items.{lead_of, land_of}
use Rattle.jc_emit.specs.Sizes.{narrow, insn_at}
use Rattle.jc_emit.specs.TwinTables.{moved_row}
use Rattle.jc_instrument_code.specs.TwinCode.{offset_in}
use Rattle.jc_instrument_reread.specs.ReadCode.{row_at}
use Rattle.jc_instrument_reread.specs.Written.{IsSource}
use Rattle.jc_instrument_reread.proofs.KeptEntryLaws.{right_kept, what_kept}
use Rattle.jc_instrument_reread.proofs.UsedPlaceLaws.{KeepClasses, used_stands}
use Rattle.jc_instrument_reread.proofs.WrittenRowLaws.{class_there, handlers_are}
use Rattle.jc_instrument_reread.specs.WrittenCode.{ready_emission}

module _ (names : Names) (c : ClassFile) (method : Member) (b : Body) (states : List State) (array : ℕ) (s : IsSource names c method b states array) where
  abbrev coded : Coded
  coded = s.body.coded

  -- ---- entries

  insn_there : (i : ℕ) → i < length b.code → slice_get coded.insns i ≡ Some (insn_at b.code i)
  insn_there i lt = ap (λ (l : List Insn). slice_get l i) (sym s.body.parts.code) ∙ slice_get-get_or b.code i (insns.Simple 0) lt

  right_there : (i : ℕ) → i < length b.code → HasRightEntry c.major c.pool (insn_at b.code i)
  right_there i lt = by (right_entry_or_not c.major c.pool (insn_at b.code i))
    where
      starts_more : i < length coded.starts
      starts_more =
          let more = (are_starts coded.items.code coded.insns coded.starts s.body.is.spelled).one_more in
          let same = ap (λ (l : List Insn). length l) s.body.parts.code in
          omega (arith, more, same, lt)

      by : HasRightEntry c.major c.pool (insn_at b.code i) ⊎ (HasRightEntry c.major c.pool (insn_at b.code i) → ⊥) → HasRightEntry c.major c.pool (insn_at b.code i)
      by (inl right) = right
      by (inr wrong) = absurd (s.body.no_fault.1.1.1.0 (get_or coded.starts i 0) (record {
        coded = coded;
        is = s.body.is;
        fault = record {
          number = i;
          insn = insn_at b.code i;
          stands = insn_there i lt;
          start = slice_get-get_or coded.starts i 0 starts_more;
          fault = wrong;
        };
      }))

  module _ (new : PoolValue) (more : Extends c.pool new) where
    -- each instruction names an entry of the kind that it needs, in the grown pool too
    pub right_in : (i : ℕ) → i < length b.code → HasRightEntry c.major new (insn_at b.code i)
    right_in i lt = right_kept c.pool new more c.major (insn_at b.code i) (right_there i lt)

    -- each class that a row names stands there
    pub class_in : (i : ℕ) (h : Handler) → slice_get b.handlers i ≡ Some h → IsClassOrNone new h.class
    class_in i h at = by (cases_eq h.class 0)
      where
        used : (h.class ≡ 0 → ⊥) → HasUse b.uses h.class IsClass
        used some =
            let lt = slice_get_within b.handlers i h at in
            subst (λ (x : Handler). (x.class ≡ 0 → ⊥) → HasUse b.uses x.class IsClass) (get_or_from_slice_get b.handlers i h h at) (s.well_made.uses.by_handlers i h lt) some

        stands : HasUse b.uses h.class IsClass → IsClassOrNone new h.class
        stands use_of =
            let there = used_stands c.pool (places_used coded.insns coded.items.rows) b.uses h.class use_of.what s.body.parts.uses use_of.used in
            inr (class_there new h.class use_of.what (what_kept c.pool new more h.class use_of.what there.1) use_of.fact)

        by : (h.class ≡ 0) ⊎ (h.class ≡ 0 → ⊥) → IsClassOrNone new h.class
        by (inl none) = inl none
        by (inr some) = stands (used some)

  -- the rows have the same classes
  pub classes_kept : (first : ℕ) (given : Emitting) (giver : ℕ)
      → KeepClasses coded.items.rows (map (row_at (offset_in (ready_emission b first states given giver))) (ready_emission b first states given giver).handlers)
  classes_kept first given giver row listed =
      let e = ready_emission b first states given giver in
      let number = handler_of (insn_number coded.starts) in
      let moves = moved_row (lead_of b first (narrow given.fetch)) (land_of b first (narrow given.fetch)) in
      let old = subst (λ (l : List Handler). Contains l (number row)) (sym s.body.parts.handlers) (in_map number coded.items.rows row listed) in
      let moved = in_map moves b.handlers (number row) old in
      let now = subst (λ (l : List Handler). Contains l (moves (number row))) (sym (handlers_are b first states given giver s.well_made)) moved in (
        row_at (offset_in e) (moves (number row)),
        in_map (row_at (offset_in e)) e.handlers (moves (number row)) now,
        refl,
      )
