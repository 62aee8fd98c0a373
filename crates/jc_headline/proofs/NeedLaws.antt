-- What is written of files, where it has a program, is refused for neither of the two reasons.
use Rattle.std.proofs.Common.{◌≡◌, ◌⊎◌, inl, inr, ℕ, List, Some, sym, ◌∙◌, ap, subst}
use Rattle.std.specs.Prelude.{slice_get}
use Rattle.std.specs.List.{AllByRecursion}
use Rattle.std.specs.Option.{option_map}
use Rattle.std.proofs.lemmas.Option.{same_Some, slice_get_within}
use Rattle.jc_bytes.specs.ByteLists.{AreBytes}
use Rattle.jc_bytes.proofs.ListLaws.{all_at}
use Rattle.jc_methods.specs.VerificationTypes.{Names}
use Rattle.jc_methods.specs.declared.body.Body.{Body}
use Rattle.jc_programs.specs.declared.program.Linked.{Linked}
use Rattle.jc_programs.specs.declared.program.ProbeInit.{ProbeInit}
use Rattle.jc_programs.specs.declared.program.Program.{Program}
use Rattle.jc_class.specs.ClassId.{class_id}
use Rattle.jc_class.specs.declared.class_file.ClassFile.{ClassFile}
use Rattle.jc_class.specs.declared.class_file.Member.{Member}
use Rattle.jc_class.proofs.FirstBadLaws.{one_class_of}
use Rattle.jc_body.specs.BodyOf.{Bodiless, BodyOf}
use Rattle.jc_body.specs.Coded.{HasNoCode}
use Rattle.jc_body.specs.Faults.{faults}
use Rattle.jc_body.specs.First.{AreNowhere}
use Rattle.jc_body.proofs.CodedLaws.{no_items}
use Rattle.jc_instrument.specs.Bodies.{AreBodies, IsListed}
use Rattle.jc_link_programs.specs.Linking.{IsProgramOf}
use Rattle.jc_link_programs.specs.declared.link_refusal.LinkRefusal.{LinkRefusal}
use Rattle.jc_link_laws.specs.SecondLinking.{IsChangedAt, IsTooWide, IsSecondRefusal, too_wide, one_id}
use Rattle.jc_link_laws.specs.TwinFiles.{IsShortFile}
use Rattle.jc_link_laws.proofs.ChangedPairLaws.{probes_new}
use Rattle.jc_link_laws.proofs.PlaceLaws.{linked_at}

-- no method of a class whose bodies are read passes the bound
not_wide : (names : Names) (c : ClassFile) (bodies : List Body) → AreBodies names c bodies → (number : ℕ) → IsTooWide c number → ⊥
not_wide names c bodies are number wide = by (are.all number (slice_get_within c.methods number wide.method wide.at))
  where
    of_body : (b : Body) → BodyOf names c number b → ⊥
    of_body b body =
        let same = same_Some _ _ (sym body.at ∙ wide.at) in
        let none = subst (λ (m : Member). AreNowhere (faults c.major c.pool b.owner m)) same body.is.no_fault in
        none.1.1.1.1.1.1.1.1.1.1.0 0 (record { coded = wide.coded; is = wide.is; fault = wide.wide })

    by : Bodiless c number ⊎ IsListed bodies number → ⊥
    by (inl none) =
        let same = same_Some _ _ (sym none.at ∙ wide.at) in
        no_items c.pool wide.method (subst (HasNoCode c.pool) same none.none) wide.coded.items wide.is.items
    by (inr k) = of_body k.body (subst (λ (n : ℕ). BodyOf names c n k.body) k.number_is (are.each k.index k.body k.stands))

module _ (originals written : List (List ℕ)) (before after : Program) (short : AllByRecursion IsShortFile originals) (are : AllByRecursion AreBytes written)
    (is : IsProgramOf originals before) (again : IsProgramOf written after) where
  -- what is linked of a twin, whose probes have the id of the original
  linked_id : (index : ℕ) (original text : List ℕ) → IsChangedAt originals written index original text
      → (n : Linked) × (slice_get after.classes index ≡ Some n) × (option_map (λ (p : ProbeInit). p.id) n.probes ≡ Some (class_id original))
  linked_id index original text at =
      let l = linked_at before.names originals before.classes is.classes index original at.original_is in
      let n = linked_at after.names written after.classes again.classes index text at.text_is in
      let probes = probes_new original text (all_at IsShortFile originals index original short at.original_is).0 (all_at AreBytes written index text are at.text_is) at.twin
      before.names after.names l.0 n.0 l.2 n.2 in
      (n.0, n.1, ap (option_map (λ (p : ProbeInit). p.id)) probes)

  pub not_again : (r : LinkRefusal) → IsSecondRefusal originals written r → ⊥
  not_again _ (too_wide {index = i} {number = number} original text twin at class wide) =
      let n = linked_at after.names written after.classes again.classes i text at.text_is in
      let bodies = subst (λ (c : ClassFile). AreBodies after.names c n.0.bodies) (one_class_of text n.2.file twin n.2.text class) n.2.is.bodies.are in
      not_wide after.names twin n.0.bodies bodies number wide
  not_again _ (one_id {first = i} {second = j} a b x y less first second same) =
      let m = linked_id i a x first in
      let n = linked_id j b y second in
      again.ids i j less (record {
        a = m.0;
        b = n.0;
        shared = class_id a;
        first_is = m.1;
        second_is = n.1;
        first_key = m.2;
        second_key = n.2 ∙ ap Some (sym same);
      })
