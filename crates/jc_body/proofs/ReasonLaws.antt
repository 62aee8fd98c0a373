-- Which faults the code of a method has, and what reason they make.
use Rattle.std.proofs.Common.{◌≡◌, ◌⊎◌, inl, inr, ℕ, ◌+◌, ◌*◌, ◌<◌, ◌≤◌, List, [], ◌∷◌, ◌++◌, length, map, Some, refl, sym, subst, arith}
use Rattle.std.proofs.lemmas.Bool.{cases_lt}
use Rattle.jc_methods.specs.WellMade.{most_slots}
use Rattle.jc_methods.specs.declared.insn.Insn.{Insn}
use Rattle.jc_bytes.specs.declared.refusal.Refusal.{Refusal}
use Rattle.jc_bytes.specs.declared.refusal.RefusalKind.{RefusalKind}
use Rattle.jc_bytes.specs.declared.refusal.RefusalKind.TheVariants as kinds
use Rattle.jc_bytes.specs.Descriptor.{IsMethodDescriptor}
use Rattle.jc_methods.specs.InsnUse.{LocalsWithin}
use Rattle.jc_pool.specs.Lookup.{utf8_of}
use Rattle.jc_pool.specs.Pool.{PoolValue}
use Rattle.jc_class.specs.declared.class_file.Member.{Member}
use Rattle.jc_methods.specs.Starts.{AreStarts, insn_number}
use Rattle.jc_insn.specs.Spells.{IsRefused, IsFault, FaultBehind}
use Rattle.jc_insn.proofs.OneReadingLaws.{same_fault}
use Rattle.jc_body.specs.declared.coded.Coded.{Coded}
use Rattle.jc_body.specs.declared.items.CodeItems.{CodeItems}
use Rattle.jc_body.specs.declared.items.Tables.{Tables}
use Rattle.jc_body.specs.Attributes.{AreTables}
use Rattle.jc_body.specs.Coded.{HasCode, HasItems, IsCoded}
use Rattle.jc_body.specs.Faults.{NoSingleCode, MalformedCode, IsStopped, HasSubroutine, InsnAt, IsAstray, MalformedTable, TooWide, faults, insn_faults, row_faults, table_faults}
use Rattle.jc_methods.specs.VerificationTypes.{TypeStateAt}
use Rattle.jc_methods.specs.EntryState.{entry_seen}
use Rattle.jc_methods.proofs.EntryStateLaws.{some_slots}
use Rattle.jc_bytes.specs.Least.{IsNowhere, IsLeast}
use Rattle.jc_body.specs.StackMap.{HasFrames, BadStackMap}
use Rattle.jc_body.specs.First.{IsFirstFault, AreNowhere}
use Rattle.jc_body.specs.Standing.{HasRightEntry}
use Rattle.jc_body.specs.BodyOf.{IsReason}
use Rattle.jc_body.proofs.OrderLaws.{IsDecided, AreDecided, at_zero}
use Rattle.jc_body.proofs.CodedLaws.{one_items, is_single, is_of_form, goes_on, first_of_code, nowheres_of_code}
use Rattle.jc_body.proofs.FaultLaws.{insn_decided, row_decided, IsBad}
use Rattle.jc_body.proofs.ArgumentLaws.{outside_decided}
use Rattle.jc_body.proofs.FirstLaws.{first_or_none}
use Rattle.jc_body.proofs.StandingLaws.{right_entry_or_not, locals_or_not, astray_or_not}
use Rattle.jc_body.proofs.DecidedLaws.{not_or_not}
use Rattle.jc_body.proofs.PlacesLaws.{row_or_not}
use Rattle.jc_body.proofs.TablesLaws.{tables_or_none}
use Rattle.jc_body.proofs.StackMapLaws.{each_map, apart, least_map}

-- ---- the faults of code that was read

module _ (major : ℕ) (pool : PoolValue) (owner : List ℕ) (method : Member) (coded : Coded)
    (are : AreStarts (length coded.insns) (length coded.items.code) coded.starts) (name desc : List ℕ)
    (name_is : utf8_of pool method.name ≡ Some name) (desc_is : utf8_of pool method.desc ≡ Some desc) (is : IsMethodDescriptor desc) where
  by_insn : (Fact : ℕ → Insn → Type 0) → ((number : ℕ) (insn : Insn) → Fact number insn ⊎ (Fact number insn → ⊥)) → IsDecided (InsnAt Fact coded)
  by_insn Fact decide = let f = first_or_none Fact decide coded.insns in insn_decided coded are Fact f.0 f.1

  by_row : IsDecided (Rattle.jc_body.specs.Faults.BadRow pool coded)
  by_row = let f = first_or_none (IsBad pool coded)
      (λ number row. not_or_not _ (row_or_not pool (insn_number coded.starts) (length coded.insns) (length coded.items.code) row))
      coded.items.rows in row_decided pool coded f.0 f.1

  by_arguments : IsDecided (Rattle.jc_body.specs.Faults.ArgumentsOutside pool method coded)
  by_arguments = let takes = some_slots method.flags desc is in outside_decided pool method coded desc desc_is takes.0 takes.1

  by_tables : ((tables : Tables) × AreTables pool coded.items.attributes tables) ⊎ ((tables : Tables) → AreTables pool coded.items.attributes tables → ⊥) → IsDecided (MalformedTable pool coded)
  by_tables (inl t) = inr (λ place o. o.fault t.0 t.1)
  by_tables (inr none) = inl (0, at_zero (MalformedTable pool coded) (record { at = refl; fault = none }))

  by_stack_map : IsDecided (BadStackMap pool owner method coded)
  by_stack_map = by (each_map pool owner method coded (entry_seen owner name desc method.flags coded.items.max_locals)
      (record { name = name; desc = desc; name_is = name_is; desc_is = desc_is; entry_is = refl }))
    where
      by : ((frames : List TypeStateAt) × HasFrames pool owner method coded frames) ⊎ ((place : ℕ) × BadStackMap pool owner method coded place) → IsDecided (BadStackMap pool owner method coded)
      by (inl has) = inr (λ place bad. apart pool owner method coded has.0 place has.1 bad)
      by (inr bad) = inl (bad.0, least_map pool owner method coded bad.0 bad.1)

  by_size : (most_slots < length coded.insns * (coded.items.max_locals + coded.items.max_stack))
      ⊎ (length coded.insns * (coded.items.max_locals + coded.items.max_stack) ≤ most_slots) → IsDecided (TooWide coded)
  by_size (inl more) = inl (0, at_zero (TooWide coded) (record { at = refl; fault = more }))
  by_size (inr few) = inr (λ place o. omega (arith, few, o.fault))

  pub all_decided : AreDecided (map (λ F. F coded) (insn_faults major pool ++ (row_faults pool method ++ table_faults pool owner method)))
  all_decided = (
    by_insn (λ number insn. HasRightEntry major pool insn → ⊥) (λ number insn. not_or_not _ (right_entry_or_not major pool insn)),
    (
      by_insn (IsAstray (length coded.insns)) (λ number insn. astray_or_not (length coded.insns) number insn),
      (
        by_insn (λ number insn. LocalsWithin coded.items.max_locals insn → ⊥) (λ number insn. not_or_not _ (locals_or_not coded.items.max_locals insn)),
        (
          by_arguments,
          (
            by_row,
            (
              by_tables (tables_or_none pool coded.items.attributes),
              (
                by_stack_map,
                (
                  by_size (cases_lt most_slots (length coded.insns * (coded.items.max_locals + coded.items.max_stack))),
                  tt,
                ),
              ),
            ),
          ),
        ),
      ),
    ),
  )

-- ---- code that stops being instructions

fault_kind : (at : ℕ) (bytes : List ℕ) (kind : RefusalKind) → IsFault at bytes kind → (kind ≡ kinds.Subroutine) ⊎ (kind ≡ kinds.BadCode)
fault_kind at bytes kinds.Subroutine f = inl refl
fault_kind at bytes kinds.BadCode f = inr refl
fault_kind at bytes kind f = absurd f

behind_kind : (at : ℕ) (bytes : List ℕ) (code : List Insn) (kind : RefusalKind) (place : ℕ) → FaultBehind at bytes code kind place → (kind ≡ kinds.Subroutine) ⊎ (kind ≡ kinds.BadCode)
behind_kind at bytes [] kind place f = fault_kind at bytes kind f.1
behind_kind at bytes (insn ∷ code) kind place (text, rest, parts, is, more) = behind_kind (at + length text) rest code kind place more

module _ (major : ℕ) (pool : PoolValue) (owner : List ℕ) (method : Member) (items : CodeItems) (has : HasItems pool method items) where
  same_stop : (kind kind' : RefusalKind) (place place' : ℕ) → IsStopped kind pool method place → IsStopped kind' pool method place' → (kind ≡ kind') × (place ≡ place')
  same_stop kind kind' place place' a b =
      let items_are = one_items pool method a.items b.items a.has b.has in
      let fault = subst (λ (i : CodeItems). FaultBehind 0 i.code a.fault.before kind place) items_are a.fault.fault in
      same_fault 0 b.items.code a.fault.before b.fault.before kind kind' place place' fault b.fault.fault

  least_stop : (kind : RefusalKind) (place : ℕ) → IsStopped kind pool method place → IsLeast (IsStopped kind pool method) place
  least_stop kind place stop = record { there = stop; first = λ before less other. let same = same_stop kind kind before place other stop in omega (arith, less, same.1) }

  stop_reason : (kind : RefusalKind) (place : ℕ) → IsStopped kind pool method place → (kind ≡ kinds.Subroutine) ⊎ (kind ≡ kinds.BadCode) → IsReason major pool owner method kind place
  stop_reason kind place stop (inl is) =
      subst (λ (k : RefusalKind). IsReason major pool owner method k place) (sym is) (least_stop kinds.Subroutine place (subst (λ (k : RefusalKind). IsStopped k pool method place) is stop))
  stop_reason kind place stop (inr is) =
      let bad = subst (λ (k : RefusalKind). IsStopped k pool method place) is stop in
      let none : IsNowhere (HasSubroutine pool method) = λ other there. not_both (same_stop kinds.Subroutine kinds.BadCode other place there bad).0 in
      subst (λ (k : RefusalKind). IsReason major pool owner method k place) (sym is)
      (none, inr (is_single pool method has.bytes has.code, inr (is_of_form pool method items has, inl (least_stop kinds.BadCode place bad))))
    where
      not_both : (let k : RefusalKind = kinds.Subroutine in k) ≡ kinds.BadCode → ⊥
      not_both e = cc

  pub refused_reason : (r : Refusal) → IsRefused items.code r → IsReason major pool owner method r.kind r.place
  refused_reason r why =
      let fault = behind_kind 0 items.code why.before r.kind r.place why.fault in
      stop_reason r.kind r.place (record { items = items; has = has; fault = record { method = refl; before = why.before; fault = why.fault } }) fault

-- ---- a Code attribute that isn't there, or isn't of its form

module _ (major : ℕ) (pool : PoolValue) (owner : List ℕ) (method : Member) where
  pub unsingle_reason : NoSingleCode pool method 0 → ((items : CodeItems) → HasItems pool method items → ⊥) → IsReason major pool owner method kinds.BadCode 0
  unsingle_reason fault none = ((λ place s. none s.items s.has), inl (at_zero (NoSingleCode pool method) fault))

  pub malformed_reason : (bytes : List ℕ) → HasCode pool method bytes → MalformedCode pool method 0 → IsReason major pool owner method kinds.BadCode 0
  malformed_reason bytes code fault =
      ((λ place s. is_of_form pool method s.items s.has 0 fault), inr (is_single pool method bytes code, inl (at_zero (MalformedCode pool method) fault)))

  pub coded_reason : (coded : Coded) → IsCoded pool method coded → (place : ℕ)
      → IsFirstFault (map (λ F. F coded) (insn_faults major pool ++ (row_faults pool method ++ table_faults pool owner method))) place
      → IsReason major pool owner method kinds.BadCode place
  coded_reason coded is place first = (
    goes_on pool method coded is kinds.Subroutine,
    inr (
      is_single pool method is.items.bytes is.items.code,
      inr (
        is_of_form pool method coded.items is.items,
        inr (
          goes_on pool method coded is kinds.BadCode,
          first_of_code pool method coded is (insn_faults major pool ++ (row_faults pool method ++ table_faults pool owner method)) place first,
        ),
      ),
    ),
  )

  pub coded_without : (coded : Coded) → IsCoded pool method coded
      → AreNowhere (map (λ F. F coded) (insn_faults major pool ++ (row_faults pool method ++ table_faults pool owner method)))
      → IsNowhere (HasSubroutine pool method) × AreNowhere (faults major pool owner method)
  coded_without coded is none = (
    goes_on pool method coded is kinds.Subroutine,
    (
      is_single pool method is.items.bytes is.items.code,
      (
        is_of_form pool method coded.items is.items,
        (
          goes_on pool method coded is kinds.BadCode,
          nowheres_of_code pool method coded is (insn_faults major pool ++ (row_faults pool method ++ table_faults pool owner method)) none,
        ),
      ),
    ),
  )
