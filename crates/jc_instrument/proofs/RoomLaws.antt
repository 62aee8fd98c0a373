-- Bodies that have no room for probes, as causes of the class.
use Rattle.std.proofs.Common.{◌≡◌, inl, ℕ, ◌+◌, ◌≤◌, Bool, false, List, [], ◌∷◌, ◌++◌, Option, Some, None, sym, ◌∙◌, ap, subst, arith}
use Rattle.jc_methods.specs.ProbeMembers.{fetch_of, most_probes}
use Rattle.jc_methods.specs.VerificationTypes.{Names}
use Rattle.jc_bytes.specs.Least.{IsLeast}
use Rattle.jc_methods.specs.declared.body.Body.{Body}
use Rattle.jc_bytes.specs.declared.refusal.Refusal.{Refusal}
use Rattle.jc_bytes.specs.declared.refusal.RefusalKind.{RefusalKind}
use Rattle.jc_bytes.specs.declared.refusal.RefusalKind.TheVariants as kinds
use Rattle.jc_class.specs.declared.class_file.ClassFile.{ClassFile}
use Rattle.jc_kinds.specs.StateShift.{IsStraddled}
use Rattle.jc_emit.specs.Straddling.{IsFirstStraddling}
use Rattle.jc_plan.specs.Analysed.{all_probes}
use Rattle.jc_instrument.specs.Bodies.{AreBodies, AreBodiesUnless, AreBodiesOf}
use Rattle.jc_instrument.specs.Causes.{Cause, Never, IsFirstCause, NoCause, InMethod}
use Rattle.jc_instrument.specs.LeftAlone.{is_left_alone}
use Rattle.jc_instrument.specs.Reasons.{OfBody}
use Rattle.jc_instrument.specs.Room.{LacksRoom, IsWhereItLacks, NoneLacks, IsFirstThatLacks}
use Rattle.jc_instrument.specs.RoomCauses.{HasStraddling, HasTooManyProbes, IsFull, HasBadBootstraps, HasFullMembers, HasFullLocals, HasFullStack, early_room_causes}
use Rattle.jc_instrument.specs.Steps.{InBodies}
use Rattle.jc_instrument.proofs.CauseLaws.{first_behind, first_in_front, none_in_both}
use Rattle.jc_instrument.proofs.FrameCauseLaws.{first_of_methods, none_of_methods}
use Rattle.jc_instrument.proofs.RoomCauseLaws.{same_straddled}
use Rattle.jc_instrument.proofs.SameAnalysisLaws.{same_bodies, same_probes}
use Rattle.jc_instrument_reread.proofs.SameBodyLaws.{AreSame, turned}

-- ---- bodies that differ in their names alone

least_moved : (Fact Other : ℕ → Type 0) → ((i : ℕ) → Fact i → Other i) → ((i : ℕ) → Other i → Fact i) → (p : ℕ) → IsLeast Fact p → IsLeast Other p
least_moved Fact Other to back p least = record {
  there = to p least.there;
  first = λ before less holds. least.first before less (back before holds);
}

pub moved_room : (kind : RefusalKind) (others names : Names) (a b : Body) → AreSame others names a b → (place : ℕ) → LacksRoom kind a place → LacksRoom kind b place
moved_room kinds.StraddlingLocal others names a b same place lacks =
    least_moved (IsStraddled a) (IsStraddled b) (same_straddled others names a b same) (same_straddled names others b a (turned others names a b same)) place lacks
moved_room kinds.LocalsFull others names a b same place lacks = (sym (ap (λ (x : Body). x.max_locals) same.rest) ∙ lacks.0, lacks.1)
moved_room kinds.StackFull others names a b same place lacks =
    let is : a.max_stack ≡ b.max_stack = ap (λ (x : Body). x.max_stack) same.rest in
    let most = lacks.0 in
    (omega (arith, is, most), lacks.1 ∙ ap (λ (n : ℕ). n + 3) is)
moved_room kind others names a b same place lacks = absurd lacks

-- ---- the causes

-- the body of the method with this number lacks room of this kind
abbrev pub Lacking : ClassFile → RefusalKind → ℕ → ℕ → Type 0
Lacking c kind = OfBody c (λ names. LacksRoom kind)

module _ (c : ClassFile) (bodies : List Body) (changes : is_left_alone c ≡ false) (are : AreBodiesOf c bodies) where
  pub of_class_are : AreBodies are.names c bodies
  of_class_are = subst (λ (t : Bool). AreBodiesUnless t are.names c bodies) changes are.are

  pub room_found : (kind : RefusalKind) (r : Refusal) → InBodies kind (LacksRoom kind) bodies r → InMethod kind (Lacking c kind) r
  room_found kind r found =
      first_of_methods are.names c bodies of_class_are kind (λ names. LacksRoom kind)
      (λ others a b same place. moved_room kind others are.names a b same place) r found

  pub none_found : (kind : RefusalKind) → NoneLacks kind bodies → Never (InMethod kind (Lacking c kind))
  none_found kind none =
      none_of_methods are.names c bodies of_class_are kind (λ names. LacksRoom kind)
      (λ others a b same place. moved_room kind others are.names a b same place) none

-- ---- counts

pub few_probes : (c : ClassFile) (bodies : List Body) → AreBodiesOf c bodies → all_probes bodies ≤ most_probes → Never (HasTooManyProbes c)
few_probes c bodies are few = λ r many.
    let same = same_probes bodies ∙ ap all_probes (same_bodies c bodies many.bodies are many.are) ∙ sym (same_probes many.bodies) in
    let more = many.many in
    omega (arith, few, more, same)

pub few_members : (c : ClassFile) → (IsFull (fetch_of c.major) c → ⊥) → Never (HasFullMembers c)
few_members c not_full = λ r full. not_full full.full

-- ---- the causes in their order

abbrev counts : ClassFile → List Cause
counts c = HasTooManyProbes c ∷ HasFullMembers c ∷ []

module _ (c : ClassFile) (bodies : List Body) (changes : is_left_alone c ≡ false) (are : AreBodiesOf c bodies) where
  pub straddling_first : (r : Refusal) → InBodies kinds.StraddlingLocal (LacksRoom kinds.StraddlingLocal) bodies r → IsFirstCause (early_room_causes c) r
  straddling_first r found = inl (room_found c bodies changes are kinds.StraddlingLocal r found)

  module _ (none : NoneLacks kinds.StraddlingLocal bodies) where
    none_straddles : NoCause (HasStraddling c ∷ [])
    none_straddles = (none_found c bodies changes are kinds.StraddlingLocal none, tt)

    pub counts_first : (r : Refusal) → IsFirstCause (counts c) r → IsFirstCause (early_room_causes c) r
    counts_first r first =
        first_behind (HasStraddling c ∷ []) (counts c ++ (HasBadBootstraps c ∷ HasFullLocals c ∷ HasFullStack c ∷ [])) r none_straddles
        (first_in_front (counts c) (HasBadBootstraps c ∷ HasFullLocals c ∷ HasFullStack c ∷ []) r first)

    module _ (few : NoCause (counts c)) where
      none_before : NoCause (HasStraddling c ∷ counts c)
      none_before = (none_straddles.0, few)

      pub bootstraps_first : (r : Refusal) → HasBadBootstraps c r → IsFirstCause (early_room_causes c) r
      bootstraps_first r bad =
          first_behind (HasStraddling c ∷ counts c) (HasBadBootstraps c ∷ HasFullLocals c ∷ HasFullStack c ∷ []) r none_before (inl bad)

      module _ (takes : Never (HasBadBootstraps c)) where
        none_taken : NoCause (HasStraddling c ∷ (counts c ++ (HasBadBootstraps c ∷ [])))
        none_taken = (none_straddles.0, (few.0, (few.1.0, (takes, tt))))

        pub locals_first : (r : Refusal) → InBodies kinds.LocalsFull (LacksRoom kinds.LocalsFull) bodies r → IsFirstCause (early_room_causes c) r
        locals_first r found =
            first_behind (HasStraddling c ∷ (counts c ++ (HasBadBootstraps c ∷ []))) (HasFullLocals c ∷ HasFullStack c ∷ []) r none_taken
            (inl (room_found c bodies changes are kinds.LocalsFull r found))

        module _ (left : NoneLacks kinds.LocalsFull bodies) where
          none_yet : NoCause (HasStraddling c ∷ (counts c ++ (HasBadBootstraps c ∷ HasFullLocals c ∷ [])))
          none_yet = (none_straddles.0, (few.0, (few.1.0, (takes, (none_found c bodies changes are kinds.LocalsFull left, tt)))))

          pub stack_first : (r : Refusal) → InBodies kinds.StackFull (LacksRoom kinds.StackFull) bodies r → IsFirstCause (early_room_causes c) r
          stack_first r found = first_behind (HasStraddling c ∷ (counts c ++ (HasBadBootstraps c ∷ HasFullLocals c ∷ []))) (HasFullStack c ∷ []) r none_yet
              (inl (room_found c bodies changes are kinds.StackFull r found))

          pub none_early : NoneLacks kinds.StackFull bodies → NoCause (early_room_causes c)
          none_early none_at_all =
              none_in_both (HasStraddling c ∷ (counts c ++ (HasBadBootstraps c ∷ HasFullLocals c ∷ []))) (HasFullStack c ∷ []) none_yet
              (none_found c bodies changes are kinds.StackFull none_at_all, tt)

-- ---- one body

pub straddling_place : (b : Body) (o : Option ℕ) → IsFirstStraddling b o → IsWhereItLacks kinds.StraddlingLocal b o
straddling_place b None nowhere = λ place lacks. nowhere place lacks.there
straddling_place b (Some place) least = least
