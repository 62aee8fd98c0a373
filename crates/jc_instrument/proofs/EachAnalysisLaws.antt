-- Bytes have an analysis, or a reason for which they have none.
use Rattle.std.proofs.Common.{◌≡◌, ◌⊎◌, inl, inr, ℕ, ◌≤◌, Bool, true, false, List, [], ◌∷◌, ◌++◌, length, map, Option, Some, None, refl, sym, ap₂, subst, arith}
use Rattle.std.specs.Prelude.{All}
use Rattle.std.specs.List.{AllByRecursion}
use Rattle.std.proofs.lemmas.List.Elements.{All-nil}
use Rattle.std.proofs.lemmas.Option.{none-some}
use Rattle.jc_bytes.specs.ByteLists.{AreBytes}
use Rattle.jc_bytes.specs.Reader.{most_read}
use Rattle.jc_methods.specs.WellMade.{IsWellMade}
use Rattle.jc_methods.specs.declared.analysed.Analysed.{Analysed}
use Rattle.jc_methods.specs.declared.body.Body.{Body}
use Rattle.jc_bytes.specs.declared.refusal.Refusal.{Refusal}
use Rattle.jc_pool.specs.Lookup.{class_name_of}
use Rattle.jc_pool.specs.Pool.{PoolValue}
use Rattle.jc_class.specs.ClassFormat.{HasClass}
use Rattle.jc_class.specs.ClassId.{class_id}
use Rattle.jc_class.specs.ClassText.{ClassText, FirstBad, not_a_class}
use Rattle.jc_class.specs.Writable.{IsClassFile}
use Rattle.jc_class.specs.declared.class_file.ClassFile.{ClassFile}
use Rattle.jc_class.proofs.FirstBadLaws.{each_text}
use Rattle.jc_class.proofs.WritableLaws.{class_holds}
use Rattle.jc_kinds.specs.Checked.{Checked}
use Rattle.jc_plan.specs.Analysed.{plans_of, all_probes, all_insns_and_arms}
use Rattle.jc_instrument.specs.Analysis.{super_name_of, IsAnalysis}
use Rattle.jc_instrument.specs.Bodies.{AreBodiesUnless, AreBodiesOf}
use Rattle.jc_instrument.specs.Causes.{IsFirstCause, NoCause, unless}
use Rattle.jc_instrument.specs.LeftAlone.{is_left_alone}
use Rattle.jc_instrument.specs.Reasons.{class_causes, interface_causes, code_causes, analysis_causes, AnalysisReason}
use Rattle.jc_instrument.specs.Steps.{AreCheckedBodies}
use Rattle.jc_instrument.proofs.CausesDecidedLaws.{causes_decided}
use Rattle.jc_instrument.proofs.DecidedLaws.{first_or_none, none_behind}
use Rattle.jc_instrument.proofs.OneReasonLaws.{one_reason}
use Rattle.jc_instrument.proofs.PoolTextLaws.{class_pool}
use Rattle.jc_instrument.proofs.SomeBodiesLaws.{AllBodies, all_bodies}
use Rattle.jc_instrument.proofs.TextSizesLaws.{class_size}

-- the names of classes at places that have one
pub names_at : (pool : PoolValue) (places : List ℕ) → AllByRecursion (HasClass pool) places
    → (names : List (List ℕ)) × (map Some names ≡ map (class_name_of pool) places)
names_at pool [] all = ([], refl)
names_at pool (place ∷ places) all =
    let rest = names_at pool places all.1 in
    (all.0.0 ∷ rest.0, ap₂ (λ (o : Option (List ℕ)) (os : List (Option (List ℕ))). o ∷ os) (sym all.0.1) rest.1)

-- the bodies of a class that stays as it is, and of another
bodies_alone : (c : ClassFile) → is_left_alone c ≡ true → AreBodiesOf c []
bodies_alone c stays = record {
  names = [];
  are = subst (λ (t : Bool). AreBodiesUnless t [] c []) (sym stays) refl;
  checked = All-nil (Checked []);
}

pub bodies_checked : (c : ClassFile) (bodies : List Body) → is_left_alone c ≡ false → AreCheckedBodies c bodies → AreBodiesOf c bodies
bodies_checked c bodies changes are = record {
  names = are.names;
  are = subst (λ (t : Bool). AreBodiesUnless t are.names c bodies) (sym changes) are.are;
  checked = are.checked;
}

module _ (bytes : List ℕ) (c : ClassFile) (text : ClassText bytes c) (is : IsClassFile c) (none : NoCause (analysis_causes c)) where
  with_bodies : (bodies : List Body) → AreBodiesOf c bodies → All IsWellMade bodies → all_insns_and_arms bodies ≤ most_read
      → (a : Analysed) × IsAnalysis bytes a
  with_bodies bodies are made few =
      let interfaces = names_at c.pool c.interfaces is.interfaces.each in
      let a : Analysed = record {
        id = class_id bytes;
        name = is.this_class.0;
        version = c.major;
        flags = c.flags;
        super_name = super_name_of c.pool c.super_class;
        interfaces = interfaces.0;
        bodies = bodies;
        plans = plans_of bodies;
        probes = all_probes bodies;
      } in (
        a,
        record {
          file = c;
          text = text;
          no_cause = none;
          described = record {
            id = refl;
            name =
                is.this_class.1;
            version = refl;
            flags = refl;
            super_name = refl;
            interfaces = interfaces.1;
          };
          bodies = are;
          analysed = record { well_made = made; few = few; plans = refl; probes = refl };
        },
      )

  -- where the class doesn't stay as it is
  no_code_cause : is_left_alone c ≡ false → NoCause (code_causes c)
  no_code_cause changes =
      none_behind (interface_causes c) (code_causes c)
      (subst (λ (t : Bool). NoCause (unless t (interface_causes c ++ code_causes c))) changes
      (none_behind (class_causes c) (unless (is_left_alone c) (interface_causes c ++ code_causes c)) none))

  an_analysis : AreBytes bytes → length bytes ≤ most_read → (a : Analysed) × IsAnalysis bytes a
  an_analysis are short = by (is_left_alone c) refl
    where
      changed : is_left_alone c ≡ false → AllBodies c → (a : Analysed) × IsAnalysis bytes a
      changed changes all =
          let small = all.small in
          let size = class_size bytes c text in
          let checked : AreCheckedBodies c all.bodies = record { names = all.names; are = all.are; checked = all.checked } in
          with_bodies all.bodies (bodies_checked c all.bodies changes checked) all.well_made (omega (arith, small, size, short))

      by : (t : Bool) → is_left_alone c ≡ t → (a : Analysed) × IsAnalysis bytes a
      by true stays = with_bodies [] (bodies_alone c stays) (All-nil IsWellMade) (omega arith)
      by false changes =
          let size = class_size bytes c text in
          changed changes (all_bodies c is (class_pool bytes c are text) (omega (arith, size, short)) (no_code_cause changes))

pub each_analysis : (bytes : List ℕ) → AreBytes bytes → length bytes ≤ most_read
    → ((a : Analysed) × IsAnalysis bytes a) ⊎ ((r : Refusal) × AnalysisReason bytes (Some r))
each_analysis bytes are short = by (each_text bytes)
  where
    with_class : (c : ClassFile) → ClassText bytes c → IsClassFile c
        → ((r : Refusal) × IsFirstCause (analysis_causes c) r) ⊎ NoCause (analysis_causes c)
        → ((a : Analysed) × IsAnalysis bytes a) ⊎ ((r : Refusal) × AnalysisReason bytes (Some r))
    with_class c text is (inl first) = inr (first.0, inr (c, text, first.1))
    with_class c text is (inr none) = inl (an_analysis bytes c text is none are short)

    by : ((c : ClassFile) × ClassText bytes c) ⊎ ((offset : ℕ) × FirstBad bytes offset)
        → ((a : Analysed) × IsAnalysis bytes a) ⊎ ((r : Refusal) × AnalysisReason bytes (Some r))
    by (inl c) =
        let is = class_holds bytes c.0 are c.1 in
        with_class c.0 c.1 is (first_or_none (analysis_causes c.0) (causes_decided c.0 is))
    by (inr bad) = inr (not_a_class bad.0, inl (refl, bad.1))

pub analysis_or_reason : (bytes : List ℕ) (a : Analysed) (r : Refusal) → IsAnalysis bytes a → AnalysisReason bytes (Some r) → ⊥
analysis_or_reason bytes a r is reason = none-some r (one_reason bytes None (Some r) (is.file, is.text, is.no_cause) reason)
