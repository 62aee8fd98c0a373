-- Each method of a class file has an answer.
use Rattle.std.proofs.Common.{◌≡◌, ◌⊎◌, inl, inr, ℕ, zero, suc, ◌<◌, List, [], ◌∷◌, ◌++◌, length, map, Some, slice_get, refl, sym, ◌∙◌, subst, arith}
use Rattle.std.specs.List.{AllByRecursion, IsDistinct}
use Rattle.std.specs.Int.Bits.{bit_and}
use Rattle.std.specs.Str.{bytes_eq}
use Rattle.std.proofs.lemmas.Bool.{cases_eq}
use Rattle.jc_methods.specs.declared.body.Body.{Body}
use Rattle.jc_methods.specs.VerificationTypes.{Names, TypeState, TypeStateAt}
use Rattle.jc_methods.specs.EntryState.{entry_seen}
use Rattle.jc_bytes.specs.declared.refusal.Refusal.{Refusal}
use Rattle.jc_bytes.specs.declared.refusal.RefusalKind.{RefusalKind}
use Rattle.jc_bytes.specs.declared.refusal.RefusalKind.TheVariants as kinds
use Rattle.jc_class.specs.ClassFormat.{HasText, HasClass, HasMethodDescriptor}
use Rattle.jc_class.specs.Writable.{IsClassFile, IsMember}
use Rattle.jc_class.specs.declared.class_file.ClassFile.{ClassFile}
use Rattle.jc_class.specs.declared.class_file.Member.{Member}
use Rattle.jc_methods.proofs.EntryStateLaws.{some_slots}
use Rattle.jc_insn.specs.Spells.{Spells, IsRefused}
use Rattle.jc_insn.proofs.DecodedInsnLaws.{are_starts}
use Rattle.jc_insn.proofs.SpelledOrRefusedLaws.{spelled_or_refused}
use Rattle.jc_body.specs.declared.coded.Coded.{Coded}
use Rattle.jc_body.specs.declared.items.CodeItems.{CodeItems}
use Rattle.jc_body.specs.declared.items.Tables.{Tables}
use Rattle.jc_body.specs.Attributes.{AreTables}
use Rattle.jc_body.specs.CodeForm.{IsCodeText}
use Rattle.jc_body.specs.Coded.{HasCode, HasItems, IsCoded, code_bodies}
use Rattle.jc_body.specs.Faults.{NoSingleCode, HasSubroutine, faults, insn_faults, row_faults, table_faults}
use Rattle.jc_bytes.specs.Least.{IsNowhere}
use Rattle.jc_body.specs.First.{Fault, IsFirstFault, AreNowhere}
use Rattle.jc_body.specs.BodyOf.{BodyOf, Bodiless, IsReason, FaultOf, places_used}
use Rattle.jc_body.specs.StackMap.{BeginsWith, HasFrames, HasFramesOrFault}
use Rattle.jc_body.proofs.FramesByNamesLaws.{some_numbering}
use Rattle.jc_body.proofs.StackMapLaws.{each_map}
use Rattle.jc_body.proofs.OrderLaws.{each_decided}
use Rattle.jc_body.proofs.ReasonLaws.{all_decided, refused_reason, unsingle_reason, malformed_reason, coded_reason, coded_without}
use Rattle.jc_body.proofs.FormLaws.{code_text_or_none}
use Rattle.jc_body.proofs.TablesLaws.{tables_or_none}
use Rattle.jc_body.proofs.UsesLaws.{some_uses}
use Rattle.jc_body.proofs.MadeLaws.{made_of}

at_number : {X : Type 0} (P : X → Type 0) (xs : List X) (number : ℕ) → number < length xs → AllByRecursion P xs → (x : X) × (slice_get xs number ≡ Some x) × P x
at_number P [] number less each = absurd (omega (arith, less))
at_number P (x ∷ xs) zero less each = (x, refl, each.0)
at_number P (x ∷ xs) (suc number) less each = at_number P xs number (omega (arith, less)) each.1

abbrev pub Answer : ClassFile → ℕ → Type 0
Answer c number = Bodiless c number ⊎ (((names : Names) × (b : Body) × IsDistinct bytes_eq names × BodyOf names c number b) ⊎ ((r : Refusal) × FaultOf c number r))

module _ (c : ClassFile) (number : ℕ) (method : Member) (at : slice_get c.methods number ≡ Some method)
    (is : IsMember (HasText c.pool) (HasMethodDescriptor c.pool) method) (owner : HasClass c.pool c.this_class) where
  refused : (kind : RefusalKind) (place : ℕ) → IsReason c.major c.pool owner.0 method kind place → Answer c number
  refused kind place reason =
      inr (inr (
        record { kind = kind; method = Some number; place = place },
        record { method = method; at = at; owner = owner.0; owner_is = owner.1; method_is = refl; reason = reason },
      ))

  -- the method has no subroutine instruction and no fault
  abbrev IsFaultless : Type 0
  IsFaultless = IsNowhere (HasSubroutine c.pool method) × AreNowhere (faults c.major c.pool owner.0 method)

  made : (coded : Coded) → IsCoded c.pool method coded → IsFaultless → (tables : Tables) → AreTables c.pool coded.items.attributes tables
      → (frames : List TypeStateAt) → HasFrames c.pool owner.0 method coded frames → Answer c number
  made coded is_coded faultless tables are_tables frames has_frames =
      let numbering = some_numbering frames in
      let uses = some_uses c.pool (places_used coded.insns coded.items.rows) in
      let slots = some_slots method.flags is.desc.0 is.desc.2 in
      let body = made_of method coded tables number owner.0 is.name.0 is.desc.0 slots.0 numbering.1 uses.0 in
      inr (inl (
        numbering.0,
        body,
        numbering.2.distinct,
        record {
          method = method;
          at = at;
          is = record {
            coded = coded;
            is = is_coded;
            no_subroutine = faultless.0;
            no_fault = faultless.1;
            tables = tables;
            are_tables = are_tables;
            parts = record {
              number_is = refl;
              owner = owner.1;
              name = is.name.1;
              desc = is.desc.1;
              flags = refl;
              arg_slots = slots.1;
              max_stack = refl;
              max_locals = refl;
              code = refl;
              handlers = refl;
              lines = refl;
              vars = refl;
              kind_vars = refl;
              frames = subst (HasFrames c.pool owner.0 method coded) (sym numbering.2.seen_are) has_frames;
              numbers = numbering.2.numbers;
              uses = uses.1;
            };
          };
        },
      ))

  -- the faults of the code, once its instructions are read, in their order
  abbrev faults_of : Coded → List Fault
  faults_of coded = map (λ F. F coded) (insn_faults c.major c.pool ++ (row_faults c.pool method ++ table_faults c.pool owner.0 method))

  with_code : (coded : Coded) → IsCoded c.pool method coded → Answer c number
  with_code coded is_coded =
      by (each_decided (faults_of coded)
      (all_decided c.major c.pool owner.0 method coded (are_starts coded.items.code coded.insns coded.starts is_coded.spelled) is.name.0 is.desc.0
      is.name.1 is.desc.1 is.desc.2))
    where
      by_tables : AreNowhere (faults_of coded)
          → ((tables : Tables) × AreTables c.pool coded.items.attributes tables) ⊎ ((tables : Tables) → AreTables c.pool coded.items.attributes tables → ⊥)
          → Answer c number
      by_tables none (inl t) = by_map (each_map c.pool owner.0 method coded entry begins)
        where
          entry : TypeState
          entry = entry_seen owner.0 is.name.0 is.desc.0 method.flags coded.items.max_locals

          begins : BeginsWith c.pool owner.0 method coded entry
          begins = record { name = is.name.0; desc = is.desc.0; name_is = is.name.1; desc_is = is.desc.1; entry_is = refl }

          by_map : HasFramesOrFault c.pool owner.0 method coded → Answer c number
          by_map (inl f) = made coded is_coded (coded_without c.major c.pool owner.0 method coded is_coded none) t.0 t.1 f.0 f.1
          by_map (inr bad) = absurd (none.1.1.1.1.1.1.0 bad.0 bad.1)
      by_tables none (inr bad) = absurd (none.1.1.1.1.1.0 0 (record { at = refl; fault = bad }))

      by : ((place : ℕ) × IsFirstFault (faults_of coded) place) ⊎ AreNowhere (faults_of coded) → Answer c number
      by (inl first) = refused kinds.BadCode first.0 (coded_reason c.major c.pool owner.0 method coded is_coded first.0 first.1)
      by (inr none) = by_tables none (tables_or_none c.pool coded.items.attributes)

  with_items : (items : CodeItems) → HasItems c.pool method items → Answer c number
  with_items items has = by (spelled_or_refused items.code)
    where
      by : ((code : List _) × (starts : List ℕ) × Spells items.code code starts) ⊎ ((r : Refusal) × IsRefused items.code r) → Answer c number
      by (inl s) = with_code (record { items = items; insns = s.0; starts = s.1 }) (record { items = has; spelled = s.2 })
      by (inr bad) = refused bad.0.kind bad.0.place (refused_reason c.major c.pool owner.0 method items has bad.0 bad.1)

  with_bytes : (bytes : List ℕ) → HasCode c.pool method bytes → Answer c number
  with_bytes bytes code = by (code_text_or_none c.pool bytes)
    where
      by : ((items : CodeItems) × IsCodeText c.pool bytes items) ⊎ ((items : CodeItems) → IsCodeText c.pool bytes items → ⊥) → Answer c number
      by (inl text) = with_items text.0 (record { bytes = bytes; code = code; text = text.1 })
      by (inr none) = refused kinds.BadCode 0 (malformed_reason c.major c.pool owner.0 method bytes code (record { at = refl; bytes = bytes; code = code; fault = none }))

  unsingle : NoSingleCode c.pool method 0 → ((bytes : List ℕ) → HasCode c.pool method bytes → ⊥) → Answer c number
  unsingle fault none = refused kinds.BadCode 0 (unsingle_reason c.major c.pool owner.0 method fault (λ items has. none has.bytes has.code))

  pub each_method : Answer c number
  each_method = by (cases_eq (bit_and method.flags 0x0500) 0) (code_bodies c.pool method) refl
    where
      not_two : (bytes a b : List ℕ) (more : List (List ℕ)) → a ∷ (b ∷ more) ≡ bytes ∷ [] → ⊥
      not_two bytes a b more e = cc

      not_none : (bytes : List ℕ) → (let l : List (List ℕ) = [] in l) ≡ bytes ∷ [] → ⊥
      not_none bytes e = cc

      not_some : (body : List ℕ) (bodies : List (List ℕ)) → body ∷ bodies ≡ [] → ⊥
      not_some body bodies e = cc

      by : (bit_and method.flags 0x0500 ≡ 0) ⊎ (bit_and method.flags 0x0500 ≡ 0 → ⊥) → (bodies : List (List ℕ)) → code_bodies c.pool method ≡ bodies → Answer c number
      by (inr bodiless) [] are = inl (record { method = method; at = at; none = record { bodiless = bodiless; none = are } })
      by (inr bodiless) (body ∷ bodies) are =
          unsingle (record { at = refl; fault = inl (bodiless, λ none. not_some body bodies (sym are ∙ none)) }) (λ bytes code. code.concrete bodiless)
      by (inl concrete) (bytes ∷ []) are = with_bytes bytes (record { concrete = λ b. b concrete; single = are })
      by (inl concrete) [] are =
          unsingle (record { at = refl; fault = inr ((λ b. b concrete), λ bytes single. not_none bytes (sym are ∙ single)) }) (λ bytes code. not_none bytes (sym are ∙ code.single))
      by (inl concrete) (a ∷ b ∷ more) are =
          unsingle (record { at = refl; fault = inr ((λ z. z concrete), λ bytes single. not_two bytes a b more (sym are ∙ single)) }) (λ bytes code. not_two bytes a b more (sym are ∙ code.single))

pub each_answer : (c : ClassFile) (number : ℕ) → IsClassFile c → number < length c.methods → Answer c number
each_answer c number is less =
    let found = at_number (IsMember (HasText c.pool) (HasMethodDescriptor c.pool)) c.methods number less is.methods.each in
    each_method c number found.0 found.1 found.2 is.this_class
