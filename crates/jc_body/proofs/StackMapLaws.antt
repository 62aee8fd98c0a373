-- The code of a method has frames, or a fault of its stack map table.
use Rattle.std.proofs.Common.{◌≡◌, inl, inr, ⊎_elim, ℕ, ◌<◌, ◌≤◌, List, [], ◌∷◌, length, Option, Some, None, MatchOption, refl, sym, ◌∙◌, ap, subst, arith, Bor}
use Rattle.std.proofs.lemmas.Option.{same_Some}
use Rattle.jc_methods.specs.declared.insn.Insn.{Insn}
use Rattle.jc_bytes.specs.declared.refusal.Refusal.{Refusal}
use Rattle.jc_bytes.specs.Least.{IsNowhere, IsLeast}
use Rattle.jc_bytes.proofs.OneTextLaws.{head_is}
use Rattle.jc_methods.specs.VerificationTypes.{Names, TypeState, TypeStateAt, type_state}
use Rattle.jc_methods.specs.EntryState.{entry_seen}
use Rattle.jc_pool.specs.Pool.{PoolValue}
use Rattle.jc_class.specs.declared.class_file.Member.{Member}
use Rattle.jc_methods.specs.declared.kind.State.{State}
use Rattle.jc_frames.specs.Frames.{Ground, ground}
use Rattle.jc_frames.specs.Table.{StandsFor, TableFault, Outcome, stands_for, at_fault, outcome_of}
use Rattle.jc_frames.proofs.TableLaws.{table_good, table_again, table_bad, table_fails, stands_fault, stands_is, fault_is}
use Rattle.jc_body.specs.declared.coded.Coded.{Coded}
use Rattle.jc_frames.specs.WellMade.{AreOffsets}
use Rattle.jc_body.specs.Coded.{IsCoded}
use Rattle.jc_body.proofs.SizeLaws.{insns_short, starts_of}
use Rattle.jc_body.proofs.TablesLaws.{texts}
use Rattle.jc_body.specs.Faults.{TooWide}
use Rattle.jc_body.specs.StackMap.{stack_maps, ground_of, BeginsWith, HasFrames, HasFramesOrFault, BadStackMap, IsEntry}
use Rattle.jc_body.specs.Answers.{bad_code, AreFramesOf, IsFrameRefusal}

none_one : {X : Type 0} {x : X} {xs : List X} → [] ≡ x ∷ xs → ⊥
none_one e = cc

one_two : {X : Type 0} {x y z : X} {xs : List X} → x ∷ [] ≡ y ∷ z ∷ xs → ⊥
one_two e = cc

-- a method begins in one state
one_entry : (pool : PoolValue) (owner : List ℕ) (method : Member) (coded : Coded) (a b : TypeState) → BeginsWith pool owner method coded a → BeginsWith pool owner method coded b → a ≡ b
one_entry pool owner method coded a b p q =
    let name : p.name ≡ q.name = same_Some p.name q.name (sym p.name_is ∙ q.name_is) in
    let desc : p.desc ≡ q.desc = same_Some p.desc q.desc (sym p.desc_is ∙ q.desc_is) in
    p.entry_is
    ∙ ap (λ (n : List ℕ). entry_seen owner n p.desc method.flags coded.items.max_locals) name
    ∙ ap (λ (d : List ℕ). entry_seen owner q.name d method.flags coded.items.max_locals) desc
    ∙ sym q.entry_is

module _ (pool : PoolValue) (owner : List ℕ) (method : Member) (coded : Coded) where
  -- what a table of the code comes to, over this state
  abbrev outcome : TypeState → List ℕ → Outcome
  outcome entry table = outcome_of (ground_of pool coded) entry table

  pub each_map : (entry : TypeState) → BeginsWith pool owner method coded entry → HasFramesOrFault pool owner method coded
  each_map entry begins = by (stack_maps pool coded) refl
    where
      read : (table : List ℕ) → stack_maps pool coded ≡ table ∷ [] → (o : Outcome) → outcome entry table ≡ o → HasFramesOrFault pool owner method coded
      read table is (stands_for frames) e = inl (frames, record { entry = entry; begins = begins; frames_are = inr (table, is, table_good (ground_of pool coded) entry table frames e) })
      read table is (at_fault place) e = inr (place, inr (record { entry = entry; begins = begins; table = table; is = is; fault = table_bad (ground_of pool coded) entry table place e }))

      by : (tables : List (List ℕ)) → stack_maps pool coded ≡ tables → HasFramesOrFault pool owner method coded
      by [] is = inl ([], record { entry = entry; begins = begins; frames_are = inl (is, refl) })
      by (table ∷ []) is = read table is (outcome entry table) refl
      by (first ∷ second ∷ others) is = inr (0, inl (record { at = refl; first = first; second = second; others = others; are = is }))

  -- the same table, read over the same state
  same_outcome : (table other : List ℕ) (a b : TypeState) → stack_maps pool coded ≡ table ∷ [] → stack_maps pool coded ≡ other ∷ []
      → BeginsWith pool owner method coded a → BeginsWith pool owner method coded b → outcome a table ≡ outcome b other
  same_outcome table other a b p q begin end =
      ap (λ (s : TypeState). outcome s table) (one_entry pool owner method coded a b begin end)
      ∙ ap (outcome b) (head_is table other [] [] (sym p ∙ q))

  pub apart : (frames : List TypeStateAt) (place : ℕ) → HasFrames pool owner method coded frames → BadStackMap pool owner method coded place → ⊥
  apart frames place h (inl s) = ⊎_elim
      (λ none. none_one (sym none.0 ∙ s.are))
      (λ one. one_two (sym one.1 ∙ s.are))
      h.frames_are
  apart frames place h (inr f) = ⊎_elim
      (λ none. none_one (sym none.0 ∙ f.is))
      (λ one. stands_fault
      (sym (table_again (ground_of pool coded) h.entry one.0 frames one.2)
      ∙ (same_outcome one.0 f.table h.entry f.entry one.1 f.is h.begins f.begins
      ∙ table_fails (ground_of pool coded) f.entry f.table place f.fault)))
      h.frames_are

  pub one_list : (a b : List TypeStateAt) → HasFrames pool owner method coded a → HasFrames pool owner method coded b → a ≡ b
  one_list a b p q = ⊎_elim
      (λ none. ⊎_elim (λ none'. none.1 ∙ sym none'.1) (λ one. absurd (none_one (sym none.0 ∙ one.1))) q.frames_are)
      (λ one. ⊎_elim (λ none. absurd (none_one (sym none.0 ∙ one.1)))
      (λ one'. stands_is a b
      (sym (table_again (ground_of pool coded) p.entry one.0 a one.2)
      ∙ (same_outcome one.0 one'.0 p.entry q.entry one.1 one'.1 p.begins q.begins
      ∙ table_again (ground_of pool coded) q.entry one'.0 b one'.2)))
      q.frames_are)
      p.frames_are

  pub one_fault : (a b : ℕ) → BadStackMap pool owner method coded a → BadStackMap pool owner method coded b → a ≡ b
  one_fault a b (inl s) (inl t) = s.at ∙ sym t.at
  one_fault a b (inl s) (inr f) = absurd (one_two (sym f.is ∙ s.are))
  one_fault a b (inr f) (inl s) = absurd (one_two (sym f.is ∙ s.are))
  one_fault a b (inr f) (inr h) = fault_is a b
      (sym (table_fails (ground_of pool coded) f.entry f.table a f.fault)
      ∙ (same_outcome f.table h.table f.entry h.entry f.is h.is f.begins h.begins
      ∙ table_fails (ground_of pool coded) h.entry h.table b h.fault))

  -- a fault of the stack map table has one place, and so that is the least
  pub least_map : (place : ℕ) → BadStackMap pool owner method coded place → IsLeast (BadStackMap pool owner method coded) place
  least_map place bad = record { there = bad; first = λ before less other. let same = one_fault before place other bad in omega (arith, less, same) }

-- ---- as the attributes tell it

pub nowhere_wide : (coded : Coded) → (TooWide coded 0 → ⊥) → IsNowhere (TooWide coded)
nowhere_wide coded none place wide = none (record { at = refl; fault = wide.fault })

module _ (pool : PoolValue) (owner : List ℕ) (method : Member) (coded : Coded) where
  -- there is no table, and so there are no frames and no fault
  pub no_frames : (names : Names) (entry : TypeState) (bodies : List (Bor (List ℕ))) → BeginsWith pool owner method coded entry
      → texts bodies ≡ stack_maps pool coded → length bodies < 1 → (TooWide coded 0 → ⊥) → AreFramesOf names pool owner method coded []
  no_frames names entry (body ∷ bodies) begins are few narrow = absurd (omega (arith, few))
  no_frames names entry [] begins are few narrow =
      let has : HasFrames pool owner method coded [] = record { entry = entry; begins = begins; frames_are = inl (sym are, refl) } in
      record {
        frames_are = has;
        numbers = tt;
        no_fault = λ place bad. apart pool owner method coded [] place has bad;
        narrow = nowhere_wide coded narrow;
      }

  -- two tables or more
  pub several_tables : (number : ℕ) (refusal : Refusal) (bodies : List (Bor (List ℕ))) → refusal ≡ bad_code number 0 → texts bodies ≡ stack_maps pool coded
      → 2 ≤ length bodies → IsFrameRefusal pool owner method coded number refusal
  several_tables number refusal [] is are more = absurd (omega (arith, more))
  several_tables number refusal (x ∷ []) is are more = absurd (omega (arith, more))
  several_tables number refusal (x ∷ y ∷ bodies) is are more =
      inl (0, is, inl (record { at = refl; first = x.now; second = y.now; others = texts bodies; are = sym are }))

-- what judging and reading the one table tell, over the code as it was lent and the local variables that the state at
-- the beginning has
module _ (names : Names) (pool : PoolValue) (owner : List ℕ) (method : Member) (coded : Coded) (entry : State) (table : List ℕ)
    (begins : IsEntry names pool owner method coded entry) (is : stack_maps pool coded ≡ table ∷ []) (code : List Insn) (starts : List ℕ)
    (code_is : code ≡ coded.insns) (starts_is : starts ≡ coded.starts) where
  abbrev Here : Ground
  Here = ground pool code starts (length entry.locals) coded.items.max_stack

  same_ground : Here ≡ ground_of pool coded
  same_ground = λ i. ground pool (code_is i) (starts_is i) (begins.well_made.locals i) coded.items.max_stack

  abbrev Judged : Option ℕ → Type 0
  Judged found = MatchOption found
      ((frames : List TypeStateAt) × StandsFor Here (type_state names entry) table frames)
      (λ place. TableFault Here (type_state names entry) table place)

  pub is_faulty : (found : Option ℕ) (place : ℕ) → found ≡ Some place → Judged found → BadStackMap pool owner method coded place
  is_faulty found place there judged = inr (record {
    entry = type_state names entry;
    begins = begins.begins;
    table = table;
    is = is;
    fault = subst (λ (g : Ground). TableFault g (type_state names entry) table place) same_ground (subst Judged there judged);
  })

  pub stand_there : (frames : List TypeStateAt) → StandsFor Here (type_state names entry) table frames → HasFrames pool owner method coded frames
  stand_there frames stands = record {
    entry = type_state names entry;
    begins = begins.begins;
    frames_are = inr (table, is, subst (λ (g : Ground). StandsFor g (type_state names entry) table frames) same_ground stands);
  }

  pub no_fault : (found : Option ℕ) → found ≡ None → Judged found → IsNowhere (BadStackMap pool owner method coded)
  no_fault found there judged place bad = let stands = subst Judged there judged in apart pool owner method coded stands.0 place (stand_there stands.0 stands.1) bad

-- ---- the offsets of instructions, as the table is read over them

module _ (pool : PoolValue) (method : Member) (coded : Coded) (is : IsCoded pool method coded) where
  pub few_starts : (starts : List ℕ) → starts ≡ coded.starts → length starts < 4294967296
  few_starts starts are =
      let count = ap (λ (l : List ℕ). length l) are in
      let more = (starts_of pool method coded is).one_more in
      let few = insns_short pool method coded is in
      omega (arith, count, more, few)

  pub offsets_of : (code : List Insn) (starts : List ℕ) → code ≡ coded.insns → starts ≡ coded.starts → AreOffsets (length code) starts
  offsets_of code starts code_is starts_are =
      let offsets = starts_of pool method coded is in
      let own : AreOffsets (length coded.insns) coded.starts = record { count = offsets.one_more; rising = offsets.rising } in
      subst (λ (l : List Insn). AreOffsets (length l) starts) (sym code_is) (subst (AreOffsets (length coded.insns)) (sym starts_are) own)
