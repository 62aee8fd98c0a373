-- A method has one answer: no code, a body, or a reason for which it has none.
use Rattle.std.proofs.Common.{◌≡◌, ℕ, List, [], ◌∷◌, ◌++◌, map, refl, sym, ◌∙◌, subst}
use Rattle.std.proofs.lemmas.Option.{same_Some}
use Rattle.jc_methods.specs.declared.body.Body.{Body}
use Rattle.jc_bytes.specs.declared.refusal.Refusal.{Refusal}
use Rattle.jc_bytes.specs.declared.refusal.RefusalKind.{RefusalKind}
use Rattle.jc_bytes.specs.declared.refusal.RefusalKind.TheVariants as kinds
use Rattle.std.specs.List.{IsDistinct}
use Rattle.std.specs.Str.{bytes_eq}
use Rattle.jc_methods.specs.VerificationTypes.{Names, type_state_at}
use Rattle.jc_methods.specs.WellMade.{TakeSlots}
use Rattle.jc_pool.specs.Pool.{PoolValue}
use Rattle.jc_class.specs.declared.class_file.ClassFile.{ClassFile}
use Rattle.jc_class.specs.declared.class_file.Member.{Member}
use Rattle.jc_body.specs.declared.coded.Coded.{Coded}
use Rattle.jc_body.specs.declared.items.Tables.{Tables}
use Rattle.jc_body.specs.Coded.{HasNoCode}
use Rattle.jc_body.specs.Attributes.{AreTables}
use Rattle.jc_body.specs.Faults.{HasSubroutine, OfCode, faults, insn_faults, row_faults, table_faults}
use Rattle.jc_bytes.specs.Least.{IsNowhere, IsLeast}
use Rattle.jc_body.specs.First.{Fault, IsFirstFault, AreNowhere}
use Rattle.jc_body.specs.BodyOf.{places_used, IsNamed, HasParts, IsBody, BodyOf, Bodiless, IsReason, FaultOf}
use Rattle.jc_body.specs.StackMap.{HasFrames}
use Rattle.jc_body.proofs.FramesByNamesLaws.{one_numbering}
use Rattle.jc_body.proofs.StackMapLaws.{one_list}
use Rattle.jc_body.proofs.OrderLaws.{least_once, first_once, first_or_nowhere}
use Rattle.jc_body.proofs.CodedLaws.{one_coded, no_items, no_code, not_malformed, not_stopped, none_of_code}
use Rattle.jc_body.proofs.TablesLaws.{one_tables}
use Rattle.jc_body.proofs.ArgumentLaws.{one_take}
use Rattle.jc_body.proofs.UsesLaws.{one_uses}
use Rattle.jc_body.proofs.MadeLaws.{made_of, is_made}

-- ---- reasons

-- a reason is a subroutine instruction, or else the first fault
pub data Why (major : ℕ) (pool : PoolValue) (owner : List ℕ) (method : Member) (kind : RefusalKind) (place : ℕ) : Type 0 where
  subroutine : kind ≡ kinds.Subroutine → IsLeast (HasSubroutine pool method) place → Why major pool owner method kind place
  fault : kind ≡ kinds.BadCode → IsNowhere (HasSubroutine pool method) → IsFirstFault (faults major pool owner method) place → Why major pool owner method kind place

pub why : (major : ℕ) (pool : PoolValue) (owner : List ℕ) (method : Member) (kind : RefusalKind) (place : ℕ) → IsReason major pool owner method kind place → Why major pool owner method kind place
why major pool owner method kinds.Subroutine place r = subroutine refl r
why major pool owner method kinds.BadCode place r = fault refl r.0 r.1
why major pool owner method kind place r = absurd r

one_why : (major : ℕ) (pool : PoolValue) (owner : List ℕ) (method : Member) (kind kind' : RefusalKind) (place place' : ℕ)
    → Why major pool owner method kind place → Why major pool owner method kind' place' → (kind ≡ kind') × (place ≡ place')
one_why major pool owner method kind kind' place place' (subroutine is at) (subroutine is' at') = (is ∙ sym is', least_once (HasSubroutine pool method) place place' at at')
one_why major pool owner method kind kind' place place' (fault is none at) (fault is' none' at') = (is ∙ sym is', first_once (faults major pool owner method) place place' at at')
one_why major pool owner method kind kind' place place' (subroutine is at) (fault is' none' at') = absurd (none' place at.there)
one_why major pool owner method kind kind' place place' (fault is none at) (subroutine is' at') = absurd (none place' at'.there)

pub no_reason : (major : ℕ) (pool : PoolValue) (owner : List ℕ) (method : Member) (kind : RefusalKind) (place : ℕ)
    → IsNowhere (HasSubroutine pool method) → AreNowhere (faults major pool owner method) → IsReason major pool owner method kind place → ⊥
no_reason major pool owner method kind place no_subroutine no_fault r = by (why major pool owner method kind place r)
  where
    by : Why major pool owner method kind place → ⊥
    by (subroutine is at) = no_subroutine place at.there
    by (fault is none at) = first_or_nowhere (faults major pool owner method) place at no_fault

-- a method without code has none of the faults
none_of_all : (pool : PoolValue) (method : Member) → HasNoCode pool method → (Fs : List (Coded → Fault)) → AreNowhere (map (OfCode pool method) Fs)
none_of_all pool method none [] = tt
none_of_all pool method none (F ∷ Fs) = (none_of_code pool method none F, none_of_all pool method none Fs)

pub no_faults : (major : ℕ) (pool : PoolValue) (owner : List ℕ) (method : Member) → HasNoCode pool method → AreNowhere (faults major pool owner method)
no_faults major pool owner method none = (
  no_code pool method none,
  (
    not_malformed pool method none,
    (
      not_stopped pool method none kinds.BadCode,
      none_of_all pool method none (insn_faults major pool ++ (row_faults pool method ++ table_faults pool owner method)),
    ),
  ),
)

-- ---- one method

pub bodiless_or_body : (names : Names) (c : ClassFile) (number : ℕ) (b : Body) → Bodiless c number → BodyOf names c number b → ⊥
bodiless_or_body names c number b none body =
    let same = same_Some _ _ (sym none.at ∙ body.at) in
    no_items c.pool body.method (subst (HasNoCode c.pool) same none.none) body.is.coded.items body.is.is.items

pub bodiless_or_fault : (c : ClassFile) (number : ℕ) (r : Refusal) → Bodiless c number → FaultOf c number r → ⊥
bodiless_or_fault c number r none bad =
    let same = same_Some _ _ (sym none.at ∙ bad.at) in
    let has_none = subst (HasNoCode c.pool) same none.none in
    no_reason c.major c.pool bad.owner bad.method r.kind r.place (not_stopped c.pool bad.method has_none kinds.Subroutine) (no_faults c.major c.pool bad.owner bad.method has_none) bad.reason

-- the reason in a class with this name, and in a method that stands there too
same_reason : (c : ClassFile) (owner other : List ℕ) (method last : Member) (r : Refusal) → IsNamed c owner → IsNamed c other → method ≡ last
    → IsReason c.major c.pool owner method r.kind r.place → IsReason c.major c.pool other last r.kind r.place
same_reason c owner other method last r one two same reason =
    subst (λ (o : List ℕ). IsReason c.major c.pool o last r.kind r.place) (same_Some _ _ (sym one ∙ two))
    (subst (λ (m : Member). IsReason c.major c.pool owner m r.kind r.place) same reason)

pub body_or_fault : (names : Names) (c : ClassFile) (number : ℕ) (b : Body) (r : Refusal) → BodyOf names c number b → FaultOf c number r → ⊥
body_or_fault names c number b r body bad =
    no_reason c.major c.pool b.owner body.method r.kind r.place body.is.no_subroutine body.is.no_fault
    (same_reason c bad.owner b.owner bad.method body.method r bad.owner_is body.is.parts.owner (same_Some _ _ (sym bad.at ∙ body.at)) bad.reason)

pub one_fault : (c : ClassFile) (number : ℕ) (r s : Refusal) → FaultOf c number r → FaultOf c number s → r ≡ s
one_fault c number r s p q =
    let reason = same_reason c p.owner q.owner p.method q.method r p.owner_is q.owner_is (same_Some _ _ (sym p.at ∙ q.at)) p.reason in
    let one = one_why c.major c.pool q.owner q.method r.kind s.kind r.place s.place (why c.major c.pool q.owner q.method r.kind r.place reason)
    (why c.major c.pool q.owner q.method s.kind s.place q.reason) in
    let methods = p.method_is ∙ sym q.method_is in
    λ i. record { kind = one.0 i; method = methods i; place = one.1 i }

-- ---- one body

module _ (names : Names) (distinct : IsDistinct bytes_eq names) (c : ClassFile) (number : ℕ) where
  one_parts : (method : Member) (coded : Coded) (tables : Tables) (a b : Body) → HasParts names c number method coded tables a
      → HasParts names c number method coded tables b → a ≡ b
  one_parts method coded tables a b p q =
      let numbers = p.number_is ∙ sym q.number_is in
      let owner = same_Some _ _ (sym p.owner ∙ q.owner) in
      let name = same_Some _ _ (sym p.name ∙ q.name) in
      let desc = same_Some _ _ (sym p.desc ∙ q.desc) in
      let slots = one_take method.flags b.desc a.arg_slots b.arg_slots (subst (λ (d : List ℕ). TakeSlots method.flags d a.arg_slots) desc p.arg_slots) q.arg_slots in
      let listed = one_list c.pool b.owner method coded (map (type_state_at names) a.frames) (map (type_state_at names) b.frames)
      (subst (λ (o : List ℕ). HasFrames c.pool o method coded (map (type_state_at names) a.frames)) owner p.frames) q.frames in
      let frames = one_numbering names distinct a.frames b.frames p.numbers q.numbers listed in
      let uses = one_uses c.pool (places_used coded.insns coded.items.rows) a.uses b.uses p.uses q.uses in
      is_made names c number method coded tables a p
      ∙ (λ i. made_of method coded tables (numbers i) (owner i) (name i) (desc i) (slots i) (frames i) (uses i))
      ∙ sym (is_made names c number method coded tables b q)

  one_is_body : (method : Member) (a b : Body) → IsBody names c number method a → IsBody names c number method b → a ≡ b
  one_is_body method a b p q =
      let coded = one_coded c.pool method p.coded q.coded p.is q.is in
      let tables = one_tables c.pool q.coded.items.attributes p.tables q.tables (subst (λ (d : Coded). AreTables c.pool d.items.attributes p.tables) coded p.are_tables) q.are_tables in
      let parts = subst (λ (d : Coded). HasParts names c number method d p.tables a) coded p.parts in
      one_parts method q.coded q.tables a b (subst (λ (t : Tables). HasParts names c number method q.coded t a) tables parts) q.parts

pub one_body : (names : Names) (c : ClassFile) (number : ℕ) (a b : Body) → IsDistinct bytes_eq names → BodyOf names c number a → BodyOf names c number b → a ≡ b
one_body names c number a b distinct p q =
    let same = same_Some _ _ (sym p.at ∙ q.at) in
    one_is_body names distinct c number q.method a b (subst (λ (m : Member). IsBody names c number m a) same p.is) q.is
