-- Why the text of a twin isn't linked, where the file is.
use Rattle.std.proofs.Common.{◌≡◌, ◌⊎◌, inl, inr, ℕ, zero, suc, ◌+◌, ◌≤◌, Bool, List, [], ◌∷◌, ◌++◌, Some, refl, sym, ◌∙◌, ap, subst, arith}
use Rattle.std.specs.Prelude.{slice_get}
use Rattle.std.specs.List.{sum_by}
use Rattle.std.proofs.lemmas.Option.{none-some, same_Some, slice_get_within}
use Rattle.jc_bytes.specs.Least.{IsNowhere}
use Rattle.jc_bytes.specs.Reader.{most_read}
use Rattle.jc_bytes.specs.declared.refusal.Refusal.{Refusal}
use Rattle.jc_bytes.specs.declared.refusal.RefusalKind.TheVariants as kinds
use Rattle.jc_methods.specs.VerificationTypes.{Names}
use Rattle.jc_methods.specs.WellMade.{IsWellMadeOfAnySize}
use Rattle.jc_methods.specs.declared.body.Body.{Body}
use Rattle.jc_programs.specs.declared.program.Linked.{Linked}
use Rattle.jc_pool.specs.Pool.{PoolValue}
use Rattle.jc_class.specs.ClassId.{class_id}
use Rattle.jc_class.specs.Writable.{IsClassFile}
use Rattle.jc_class.specs.declared.class_file.ClassFile.{ClassFile}
use Rattle.jc_class.specs.declared.class_file.Member.{Member}
use Rattle.jc_class.proofs.FirstBadLaws.{apart, one_class_of}
use Rattle.jc_class.proofs.WritableLaws.{class_holds}
use Rattle.jc_body.specs.BodyOf.{Bodiless, BodyOf, BodyOfAnySize, IsBodyOfAnySize, FaultOf}
use Rattle.jc_body.specs.Faults.{HasSubroutine, OfCode, TooWide, faults, faults_of_any_size}
use Rattle.jc_body.specs.First.{AreNowhere, Fault, IsFirstFault}
use Rattle.jc_body.proofs.AnswerLaws.{bodiless_or_body, bodiless_or_fault}
use Rattle.jc_methods.specs.declared.probe_members.Fetch.{Fetch}
use Rattle.jc_kinds.specs.Checked.{Checked}
use Rattle.jc_kinds.proofs.CheckLaws.{checked_not_missing, checked_not_clash}
use Rattle.jc_plan.specs.Probed.{probe_count}
use Rattle.jc_emit.specs.Added.{giver_of}
use Rattle.jc_emit.specs.Straddling.{NoneStraddles}
use Rattle.jc_emit.specs.TwinBodies.{AreTwinBodies}
use Rattle.jc_emit.proofs.InitLaws as inits
use Rattle.jc_emit.proofs.TwinCheckedLaws as checks
use Rattle.jc_instrument_reread.proofs.OneBodyLaws.{same_bodies}
use Rattle.jc_instrument_reread.proofs.SameBodyLaws.{same_check}
use Rattle.jc_instrument.specs.Bodies.{IsListed}
use Rattle.jc_instrument.specs.Causes.{IsFirstCause, NoCause, of_method, unless}
use Rattle.jc_instrument.specs.LeftAlone.{is_left_alone}
use Rattle.jc_instrument.specs.Needed.{name_of}
use Rattle.jc_instrument.specs.Reasons.{IsOutside, IsFaulty, analysis_causes}
use Rattle.jc_instrument.specs.Refused.{probe_causes}
use Rattle.jc_instrument.specs.RoomCauses.{room_causes}
use Rattle.jc_instrument.proofs.DecidedLaws.{none_behind}
use Rattle.jc_instrument.proofs.PoolTextLaws.{class_pool}
use Rattle.jc_instrument.proofs.RoomDecidedLaws.{none_straddles}
use Rattle.jc_instrument.proofs.SomeBodiesLaws.{made_well, passes}
use Rattle.jc_instrument.proofs.TextSizesLaws.{class_size, method_size}
use Rattle.jc_instrument_laws.specs.TwinClass.{TwinClass}
use Rattle.jc_link_programs.specs.Linking.{IsLinkedClass, LinkReason, link_causes}
use Rattle.jc_link_laws.specs.SecondLinking.{IsTooWide}
use Rattle.jc_link_laws.specs.TwinFiles.{IsShortFile, IsWrittenTwin}

-- ---- the last of several faults

-- where none of the first faults is anywhere, the first fault is one of the others
behind : (Fs Gs : List Fault) (place : ℕ) → AreNowhere Fs → IsFirstFault (Fs ++ Gs) place → IsFirstFault Gs place
behind [] Gs place none first = first
behind (F ∷ Fs) Gs place none (inl here) = absurd (none.0 place here.there)
behind (F ∷ Fs) Gs place none (inr later) = behind Fs Gs place none.1 later.1

too_wide_left : (major : ℕ) (pool : PoolValue) (owner : List ℕ) (method : Member) (place : ℕ) → AreNowhere (faults_of_any_size major pool owner method)
    → IsFirstFault (faults major pool owner method) place → OfCode pool method TooWide place
too_wide_left major pool owner method place none first =
    by (behind (faults_of_any_size major pool owner method) (OfCode pool method TooWide ∷ []) place none first)
  where
    by : IsFirstFault (OfCode pool method TooWide ∷ []) place → OfCode pool method TooWide place
    by (inl here) = here.there
    by (inr none) = absurd none.1

-- ---- the bodies of a twin class pass the kind check

-- what the twin of a body that passes needs to pass
record IsSource (names : Names) (b : Body) : Type 0 where
  well_made : IsWellMadeOfAnySize b
  checked : Checked names b
  free : NoneStraddles b

module _ (names new_names : Names) (added : Body) (last : Checked new_names added) where
  each_passes : (fetch : Fetch) (owner : List ℕ) (bootstrap first : ℕ) (bs ys : List Body)
      → AreTwinBodies names new_names fetch (giver_of fetch owner bootstrap) first bs ys added
      → ((i : ℕ) (b : Body) → slice_get bs i ≡ Some b → IsSource names b)
      → (i : ℕ) (y : Body) → slice_get ys i ≡ Some y → Checked new_names y
  each_passes fetch owner bootstrap first [] ys twins sources i y at = by i (sym (ap (λ (l : List Body). slice_get l i) twins) ∙ at)
    where
      by : (i : ℕ) → slice_get (added ∷ []) i ≡ Some y → Checked new_names y
      by zero there = subst (Checked new_names) (same_Some added y there) last
      by (suc i) there = absurd (none-some y there)
  each_passes fetch owner bootstrap first (b ∷ bs) [] twins sources i y at = absurd twins
  each_passes fetch owner bootstrap first (b ∷ bs) (z ∷ ys) twins sources zero y at =
      let s = sources 0 b refl in
      let t = twins.0 in
      subst (Checked new_names) (same_Some z y at) (checks.verified names new_names t.states fetch owner bootstrap first b z s.well_made s.checked t.are s.free t.twin)
  each_passes fetch owner bootstrap first (b ∷ bs) (z ∷ ys) twins sources (suc i) y at =
      each_passes fetch owner bootstrap (first + probe_count b) bs ys twins.1 (λ j x there. sources (suc j) x there) i y at

-- ---- the reason

module _ (original text : List ℕ) (short : IsShortFile original) (w : IsWrittenTwin original text) (names : Names) (l : Linked) (p : IsLinkedClass names original l) where
  abbrev c : ClassFile
  c = w.twin.file

  abbrev t : ClassFile
  t = w.twin.twin

  h : TwinClass (class_id original) c t
  h = w.twin.is

  no_link_cause : NoCause (link_causes c)
  no_link_cause = subst (λ (x : ClassFile). NoCause (link_causes x)) (one_class_of original p.file c p.text w.twin.file_is) p.no_cause

  class : IsClassFile c
  class = class_holds original c short.0 w.twin.file_is

  room : NoCause (room_causes (class_id original) c)
  room =
      let causes = subst (λ (x : ClassFile). NoCause (probe_causes (class_id original) x)) (one_class_of original w.changed.0.0 c w.changed.0.1 w.twin.file_is) w.changed.0.2 in
      let changes = ap is_left_alone (sym (one_class_of original w.changed.1.0 c w.changed.1.1 w.twin.file_is)) ∙ w.changed.1.2 in
      subst (λ (s : Bool). NoCause (unless s (room_causes (class_id original) c))) changes
      (none_behind (analysis_causes c) (unless (is_left_alone c) (room_causes (class_id original) c)) causes)

  few_bytes : sum_by method_size c.methods ≤ most_read
  few_bytes = let size = class_size original c w.twin.file_is in let few = short.1 in omega (arith, size, few)

  source : (i : ℕ) (b : Body) → slice_get h.bodies i ≡ Some b → IsSource h.names b
  source i b at =
      let read = class_pool original c short.0 w.twin.file_is in
      record {
        well_made = (made_well c class read few_bytes no_link_cause.1 h.names h.bodies h.are i b at).of_any_size;
        checked = passes c class read few_bytes no_link_cause.1 h.names h.bodies h.are i b at;
        free = none_straddles c class room.0 h.names b.method b (h.are.each i b at);
      }

  twin_passes : (i : ℕ) (y : Body) → slice_get (h.twins ++ h.added ∷ []) i ≡ Some y → Checked h.new_names y
  twin_passes =
      each_passes h.names h.new_names h.added (inits.verified h.fetch h.new_names _ _ _ h.added h.added_is) h.fetch (name_of c) h.bootstrap 0 h.bodies (h.twins ++ h.added ∷ []) h.each source

  -- ---- each method

  some_method : {x y : Member} → Some x ≡ Some y → x ≡ y
  some_method e = cc

  -- the body of the method that is listed
  listed_body : (number : ℕ) (k : IsListed (h.twins ++ h.added ∷ []) number) → BodyOfAnySize h.new_names t number k.body
  listed_body number k = subst (λ (n : ℕ). BodyOfAnySize h.new_names t n k.body) k.number_is (h.read.each k.index k.body k.stands)

  body_for : (number : ℕ) (r : Refusal) → FaultOf t number r → (y : Body) × BodyOfAnySize h.new_names t number y
  body_for number r f = by (h.read.all number (slice_get_within t.methods number f.method f.at))
    where
      by : Bodiless t number ⊎ IsListed (h.twins ++ h.added ∷ []) number → (y : Body) × BodyOfAnySize h.new_names t number y
      by (inl none) = absurd (bodiless_or_fault t number r none f)
      by (inr k) = (k.body, listed_body number k)

  no_subroutine : (number place : ℕ) → IsFaulty t kinds.Subroutine number place → ⊥
  no_subroutine number place f =
      let y = body_for number _ f in
      let same = some_method (sym y.1.at ∙ f.at) in
      subst (λ (m : Member). IsNowhere (HasSubroutine t.pool m)) same y.1.is.no_subroutine place f.reason.there

  only_too_wide : (number place : ℕ) → IsFaulty t kinds.BadCode number place → (place ≡ 0) × IsTooWide t number
  only_too_wide number place f =
      let y = body_for number _ f in
      let same = some_method (sym y.1.at ∙ f.at) in
      let owner = same_Some y.0.owner f.owner (sym y.1.is.parts.owner ∙ f.owner_is) in
      let none = subst (λ (o : List ℕ). AreNowhere (faults_of_any_size t.major t.pool o f.method)) owner
      (subst (λ (m : Member). AreNowhere (faults_of_any_size t.major t.pool y.0.owner m)) same y.1.is.no_fault) in
      let wide = too_wide_left t.major t.pool f.owner f.method place none f.reason.1 in (
        wide.fault.at,
        record { method = f.method; at = f.at; coded = wide.coded; is = wide.is; wide = subst (TooWide wide.coded) wide.fault.at wide.fault },
      )

  -- the body of a method passes the kind check, whatever the names with which it is read
  other_passes : (number : ℕ) (others : Names) (b : Body) → BodyOf others t number b → Checked others b
  other_passes number others b body = by (h.read.all number (slice_get_within t.methods number body.method body.at))
    where
      by : Bodiless t number ⊎ IsListed (h.twins ++ h.added ∷ []) number → Checked others b
      by (inl none) = absurd (bodiless_or_body others t number b none body)
      by (inr k) =
          let y = listed_body number k in
          let same = some_method (sym y.at ∙ body.at) in
          same_check h.new_names others k.body b
          (same_bodies h.new_names others t number body.method _ _ k.body b
          (subst (λ (m : Member). IsBodyOfAnySize h.new_names t number m k.body) same y.is) body.is)
          (twin_passes k.index k.body k.stands)

  -- ---- the whole

  abbrev Answer : Refusal → Type 0
  Answer r = (number : ℕ) × (r ≡ of_method kinds.BadCode number 0) × IsTooWide t number

  of_causes : (r : Refusal) → IsFirstCause (link_causes t) r → Answer r
  of_causes r (inl version) = absurd (no_link_cause.0 _ (record { outside = subst IsOutside h.outside.major version.outside; refusal = refl }))
  of_causes r (inr (_, inl s)) = absurd (no_subroutine s.number s.place s.holds)
  of_causes r (inr (_, inr (_, inl bad))) =
      let wide = only_too_wide bad.number bad.place bad.holds in
      (bad.number, bad.refusal ∙ ap (of_method kinds.BadCode bad.number) wide.0, wide.1)
  of_causes r (inr (_, inr (_, inr (_, inl lack)))) =
      absurd (checked_not_missing lack.holds.names lack.holds.body lack.place (other_passes lack.number lack.holds.names lack.holds.body lack.holds.is) lack.holds.holds)
  of_causes r (inr (_, inr (_, inr (_, inr (_, inl clash))))) =
      absurd (checked_not_clash clash.holds.names clash.holds.body clash.place (other_passes clash.number clash.holds.names clash.holds.body clash.holds.is) clash.holds.holds)
  of_causes r (inr (_, inr (_, inr (_, inr (_, inr (_, none)))))) = absurd none

  pub twin_reason : (r : Refusal) → LinkReason text (Some r) → Answer r
  twin_reason r (inl bad) = absurd (apart text t r.place w.twin.twin_is bad.1)
  twin_reason r (inr some) =
      of_causes r (subst (λ (x : ClassFile). IsFirstCause (link_causes x) r) (one_class_of text some.0 t some.1 w.twin.twin_is) some.2)
