-- What the steps of reading a body find, put together.
use Rattle.std.proofs.Common.{◌≡◌, ◌⊎◌, inl, inr, ℕ, ◌<◌, List, ◌++◌, length, map, Option, Some, None, MatchOption, MatchResult, Result, Ok, Err, IfOk, IfErr, IfSome, slice_get, get_or, refl, sym, ◌∙◌, ap, subst}
use Rattle.std.proofs.lemmas.Option.{slice_get-get_or}
use Rattle.std.specs.List.{IsDistinct}
use Rattle.std.specs.Str.{bytes_eq}
use Rattle.jc_methods.specs.VerificationTypes.{Names}
use Rattle.jc_methods.specs.declared.body.Body.{Body}
use Rattle.jc_bytes.specs.declared.fail.Fail.{Fail}
use Rattle.jc_bytes.specs.declared.fail.Fail.TheVariants as fails
use Rattle.jc_bytes.specs.declared.refusal.Refusal.{Refusal}
use Rattle.jc_methods.specs.WellMade.{IsWellMade}
use Rattle.jc_pool.specs.Pool.{PoolValue}
use Rattle.jc_pool.specs.Lookup.{class_name_of}
use Rattle.jc_class.specs.declared.class_file.ClassFile.{ClassFile}
use Rattle.jc_class.specs.declared.class_file.Member.{Member}
use Rattle.jc_insn.specs.Spells.{IsRefused}
use Rattle.jc_body.specs.declared.coded.Coded.{Coded}
use Rattle.jc_body.specs.declared.items.Tables.{Tables}
use Rattle.jc_body.specs.declared.items.CodeItems.{CodeItems}
use Rattle.jc_body.specs.Answers.{IsRefusal, IsFrameRefusal, bad_code}
use Rattle.jc_bytes.specs.Failing.{Said}
use Rattle.jc_body.specs.Attributes.{AreTables}
use Rattle.jc_body.specs.Coded.{HasNoCode, HasItems, IsCoded}
use Rattle.jc_body.specs.Faults.{HasSubroutine, MalformedTable, TooWide, faults, insn_faults, row_faults, table_faults}
use Rattle.jc_bytes.specs.Least.{IsNowhere}
use Rattle.jc_body.specs.First.{Fault, IsFirstFault, AreNowhere, FirstFault}
use Rattle.jc_body.specs.BodyOf.{IsBody, BodyOf, Bodiless, FaultOf}
use Rattle.jc_body.specs.Sizes.{HasSmallParts}
use Rattle.jc_body.specs.StackMap.{BadStackMap}
use Rattle.jc_body.proofs.StackMapLaws.{least_map}
use Rattle.jc_body.proofs.OrderLaws.{first_in_front, first_behind, nowhere_both, at_zero}
use Rattle.jc_body.proofs.AnswerLaws.{bodiless_or_body, bodiless_or_fault, body_or_fault, one_body, one_fault}
use Rattle.jc_body.proofs.ReasonLaws.{coded_reason, coded_without, refused_reason}
use Rattle.jc_body.proofs.WellMadeLaws.{well_made}

-- ---- one method's code

module _ (major : ℕ) (pool : PoolValue) (owner : List ℕ) (method : Member) (number : ℕ) (coded : Coded) (is : IsCoded pool method coded) where
  abbrev Front : List Fault
  Front = map (λ F. F coded) (insn_faults major pool ++ row_faults pool method)

  abbrev Back : List Fault
  Back = map (λ F. F coded) (table_faults pool owner method)

  refusal : (r : Refusal) (place : ℕ) → r ≡ bad_code number place → IsFirstFault (Front ++ Back) place → IsRefusal major pool owner method number r
  refusal r place is_bad first = subst (IsRefusal major pool owner method number) (sym is_bad) (record { method_is = refl; reason = coded_reason major pool owner method coded is place first })

  pub front_refusal : (r : Refusal) (found : Option ℕ) (place : ℕ) → found ≡ Some place → r ≡ bad_code number place → FirstFault Front found → IsRefusal major pool owner method number r
  front_refusal r found place there is_bad first = refusal r place is_bad (first_in_front Front Back place (subst (FirstFault Front) there first))

  abbrev Read : Option Tables → Type 0
  Read found = MatchOption found ((tables : Tables) → AreTables pool coded.items.attributes tables → ⊥) (AreTables pool coded.items.attributes)

  pub table_refusal : (r : Refusal) (found : Option Tables) → AreNowhere Front → found ≡ None → r ≡ bad_code number 0 → Read found → IsRefusal major pool owner method number r
  table_refusal r found before there is_bad read =
      let none = subst Read there read in
      refusal r 0 is_bad (first_behind Front Back 0 before (inl (at_zero (MalformedTable pool coded) (record { at = refl; fault = none }))))

  read_well : (found : Option Tables) (tables : Tables) → found ≡ Some tables → Read found → AreTables pool coded.items.attributes tables
  read_well found tables there read = subst Read there read

  pub frame_refusal : (r : Refusal) (found : Option Tables) (tables : Tables) → AreNowhere Front → found ≡ Some tables → Read found
      → IsFrameRefusal pool owner method coded number r → IsRefusal major pool owner method number r
  frame_refusal r found tables before there read (inl faulty) =
      refusal r faulty.0 faulty.1
      (first_behind Front Back faulty.0 before
      (inr ((λ at o. o.fault tables (read_well found tables there read)), inl (least_map pool owner method coded faulty.0 faulty.2))))
  frame_refusal r found tables before there read (inr wide) =
      refusal r 0 wide.0 (first_behind Front Back 0 before (inr ((λ at o. o.fault tables (read_well found tables there read)), inr (wide.1, inl (at_zero (TooWide coded) wide.2)))))

  -- the refusal by the stack map table, or by the size, if memory didn't run out
  pub frame_refusals : (e : Fail Refusal) (found : Option Tables) (tables : Tables) → AreNowhere Front → found ≡ Some tables → Read found → Said e (IsFrameRefusal pool owner method coded number)
      → Said e (IsRefusal major pool owner method number)
  frame_refusals fails.Memory found tables before there read said = tt
  frame_refusals (fails.Said r) found tables before there read said = frame_refusal r found tables before there read said

  pub nothing_wrong : (found : Option Tables) (tables : Tables) → AreNowhere Front → found ≡ Some tables → Read found
      → IsNowhere (BadStackMap pool owner method coded) → IsNowhere (TooWide coded) → IsNowhere (HasSubroutine pool method) × AreNowhere (faults major pool owner method)
  nothing_wrong found tables before there read no_map narrow =
      coded_without major pool owner method coded is
      (nowhere_both Front Back before ((λ place o. o.fault tables (read_well found tables there read)), (no_map, (narrow, tt))))

  pub tables_are : (found : Option Tables) (tables : Tables) → found ≡ Some tables → Read found → AreTables pool coded.items.attributes tables
  tables_are = read_well

-- a method whose code stops being instructions
pub stopped_refusal : (major : ℕ) (pool : PoolValue) (owner : List ℕ) (method : Member) (number : ℕ) (items : CodeItems) (code : List ℕ)
    → HasItems pool method items → code ≡ items.code → (e : Fail Refusal)
    → Said e (λ r. (r.method ≡ Some number) × IsRefused code (record { kind = r.kind; method = None; place = r.place })) → Said e (IsRefusal major pool owner method number)
stopped_refusal major pool owner method number items code has code_is fails.Memory said = tt
stopped_refusal major pool owner method number items code has code_is (fails.Said r) said =
    let refused = subst (λ (l : List ℕ). IsRefused l (record { kind = r.kind; method = None; place = r.place })) code_is said.1 in
    record { method_is = said.0; reason = refused_reason major pool owner method items has (record { kind = r.kind; method = None; place = r.place }) refused }

-- ---- the answer

module _ (names : Names) (c : ClassFile) (number : ℕ) (method : Member) (at : slice_get c.methods number ≡ Some method) (owner : List ℕ)
    (owner_is : class_name_of c.pool c.this_class ≡ Some owner) where
  abbrev Found : Option Body → Type 0
  Found found = MatchOption found (HasNoCode c.pool method) (IsBody names c number method)

  pub found_is : (found : Option Body) → Found found → MatchOption found (Bodiless c number) (BodyOf names c number)
  found_is None none = record { method = method; at = at; none = none }
  found_is (Some b) is = record { method = method; at = at; is = is }

  pub refused_is : (e : Fail Refusal) → Said e (IsRefusal c.major c.pool owner method number) → Said e (FaultOf c number)
  refused_is fails.Memory said = tt
  refused_is (fails.Said r) said = record { method = method; at = at; owner = owner; owner_is = owner_is; method_is = said.method_is; reason = said.reason }

-- what an answer says, and what it rules out
module _ (names : Names) (distinct : IsDistinct bytes_eq names) (c : ClassFile) (number : ℕ) where
  abbrev pub IsAnswer : Result (Option Body) (Fail Refusal) → Type 0
  IsAnswer (Ok found) = MatchOption found (Bodiless c number) (BodyOf names c number)
  IsAnswer (Err e) = Said e (FaultOf c number)

  pub body_said : (r : Result (Option Body) (Fail Refusal)) → IsAnswer r → IfOk r (λ found. MatchOption found (Bodiless c number) (BodyOf names c number))
  body_said (Ok found) is = is
  body_said (Err e) said = tt

  pub refusal_said : (r : Result (Option Body) (Fail Refusal)) → IsAnswer r → IfErr r (λ e. Said e (FaultOf c number))
  refusal_said (Ok found) is = tt
  refusal_said (Err e) said = said

  pub some_answer : (r : Result (Option Body) (Fail Refusal)) → IsAnswer r → (b : Body) → BodyOf names c number b → MatchResult r (λ found. found ≡ Some b) (λ e. e ≡ fails.Memory)
  some_answer (Ok None) none b body = absurd (bodiless_or_body names c number b none body)
  some_answer (Ok (Some a)) is b body = ap Some (one_body names c number a b distinct is body)
  some_answer (Err fails.Memory) said b body = refl
  some_answer (Err (fails.Said r)) said b body = absurd (body_or_fault names c number b r body said)

  pub no_answer : (r : Result (Option Body) (Fail Refusal)) → IsAnswer r → Bodiless c number → MatchResult r (λ found. found ≡ None) (λ e. e ≡ fails.Memory)
  no_answer (Ok None) is none = refl
  no_answer (Ok (Some a)) is none = absurd (bodiless_or_body names c number a none is)
  no_answer (Err fails.Memory) said none = refl
  no_answer (Err (fails.Said r)) said none = absurd (bodiless_or_fault c number r none said)

  pub fault_answer : (r : Result (Option Body) (Fail Refusal)) → IsAnswer r → (s : Refusal) → FaultOf c number s → MatchResult r (λ _. ⊥) (λ e. (e ≡ fails.Memory) ⊎ (e ≡ fails.Said s))
  fault_answer (Ok None) is s fault = bodiless_or_fault c number s is fault
  fault_answer (Ok (Some a)) is s fault = body_or_fault names c number a s is fault
  fault_answer (Err fails.Memory) said s fault = inl refl
  fault_answer (Err (fails.Said r)) said s fault = inr (ap fails.Said (one_fault c number r s said fault))

  pub made_well : (r : Result (Option Body) (Fail Refusal)) → IsAnswer r → IfOk r (λ found. IfSome found HasSmallParts) → IfOk r (λ found. IfSome found IsWellMade)
  made_well (Ok None) is small = tt
  made_well (Ok (Some b)) is small = well_made names c number is.method b is.is small.sizes small.uses
  made_well (Err e) said small = tt

-- a method that was found by its number
pub found_at : (methods seen : List Member) (number : ℕ) (method : Member) → seen ≡ methods → number < length methods → method ≡ get_or seen number method → slice_get methods number ≡ Some method
found_at methods seen number method are less is = slice_get-get_or methods number method less ∙ ap Some (sym (is ∙ ap (λ (l : List Member). get_or l number method) are))

pub answered : (names : Names) (distinct : IsDistinct bytes_eq names) (c : ClassFile) (number : ℕ) (method : Member)
    → slice_get c.methods number ≡ Some method → (owner : List ℕ) → class_name_of c.pool c.this_class ≡ Some owner → (r : Result (Option Body) (Fail Refusal))
    → IfOk r (λ found. MatchOption found (HasNoCode c.pool method) (IsBody names c number method))
    → IfErr r (λ e. Said e (IsRefusal c.major c.pool owner method number)) → IsAnswer names distinct c number r
answered names distinct c number method at owner owner_is (Ok found) ok err = found_is names c number method at owner owner_is found ok
answered names distinct c number method at owner owner_is (Err e) ok err = refused_is names c number method at owner owner_is e err
