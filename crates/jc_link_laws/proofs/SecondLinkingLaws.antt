-- Accepted files are linked, but what was written of them isn't: the new instructions of a method are too many, or two changed
-- classes have one id.
use Rattle.std.proofs.Common.{◌≡◌, inl, inr, ℕ, zero, suc, List, [], ◌∷◌, Some, refl, sym, ◌∙◌, ap, subst}
use Rattle.std.specs.Prelude.{slice_get}
use Rattle.std.specs.List.{AllByRecursion}
use Rattle.std.specs.Option.{option_map}
use Rattle.std.proofs.lemmas.Option.{none-some, same_Some}
use Rattle.jc_bytes.specs.ByteLists.{AreBytes}
use Rattle.jc_bytes.specs.declared.refusal.Refusal.{Refusal}
use Rattle.jc_bytes.proofs.ListLaws.{all_at}
use Rattle.jc_methods.specs.VerificationTypes.{Names}
use Rattle.jc_programs.specs.declared.program.Linked.{Linked}
use Rattle.jc_programs.specs.declared.program.ProbeInit.{ProbeInit}
use Rattle.jc_programs.specs.declared.program.Program.{Program}
use Rattle.jc_class.specs.ClassId.{class_id}
use Rattle.jc_class.specs.declared.class_file.ClassFile.{ClassFile}
use Rattle.jc_class.proofs.FirstBadLaws.{one_class_of}
use Rattle.jc_twin_programs.specs.TwinProgram.{IsPair}
use Rattle.jc_instrument.specs.Causes.{NoCause}
use Rattle.jc_instrument.specs.Refused.{probe_causes}
use Rattle.jc_instrument.proofs.OneReasonLaws.{none_or_some}
use Rattle.jc_link_programs.specs.Linking.{AreLinkedClasses, IsFirstRefused, IsLinkedClass, IsLinkRefusal, IsProgramOf, LinkReason, link_causes, refused, one_name, one_id}
use Rattle.jc_link_programs.specs.Pairs.{HaveOneId, HaveOneName, IsFirstPair, id_of}
use Rattle.jc_link_programs.specs.declared.link_refusal.LinkRefusal.{LinkRefusal}
use Rattle.jc_link_programs.specs.declared.link_refusal.LinkRefusal.TheVariants as refusals
use Rattle.jc_link_programs.proofs.LinkingLaws.{no_reason}
use Rattle.jc_link_programs.proofs.AnswerLaws.{class_at}
use Rattle.jc_link_laws.specs.SecondLinking.{IsSecondRefusal, one_id as ids_of, too_wide}
use Rattle.jc_link_laws.specs.TwinFiles.{AreWrittenOf, IsShortFile, IsWrittenOf, IsWrittenTwin}
use Rattle.jc_link_laws.proofs.ChangedPairLaws.{probes_new}
use Rattle.jc_link_laws.proofs.PlaceLaws.{linked_at}
use Rattle.jc_link_laws.proofs.SecondReasonLaws.{twin_reason}
use Rattle.jc_link_laws.proofs.TwinLinkLaws.{pair}
use Rattle.jc_link_laws.proofs.TwinPairLaws.{no_probes, none_added, unchanged_pair}

-- ---- at a place

written_at : (originals written : List (List ℕ)) → AreWrittenOf originals written → (i : ℕ) (text : List ℕ) → slice_get written i ≡ Some text
    → (original : List ℕ) × (slice_get originals i ≡ Some original) × IsWrittenOf original text
written_at [] [] w i text at = absurd (none-some text at)
written_at [] (x ∷ written) w i text at = absurd w
written_at (o ∷ originals) [] w i text at = absurd w
written_at (o ∷ originals) (x ∷ written) w zero text at = (o, refl, subst (IsWrittenOf o) (same_Some x text at) w.0)
written_at (o ∷ originals) (x ∷ written) w (suc i) text at = written_at originals written w.1 i text at

-- ---- ids

module _ (names new_names : Names) (original text : List ℕ) (l n : Linked) (short : IsShortFile original) (are_new : AreBytes text)
    (p : IsLinkedClass names original l) (q : IsLinkedClass new_names text n) where
  name_kept : IsPair names new_names l n → n.name ≡ l.name
  name_kept (inl same) = same.name
  name_kept (inr changed) = changed.name

  pub same_name : IsWrittenOf original text → n.name ≡ l.name
  same_name w = name_kept (pair names new_names original text l n short.0 are_new w p q)

  -- only a changed class has an id, which is that of its file
  pub id_changed : IsWrittenOf original text → (id : ℕ) → id_of n ≡ Some id → IsWrittenTwin original text × (id ≡ class_id original)
  id_changed (inl twin) id is =
      (twin, same_Some id (class_id original) (sym is ∙ ap (option_map (λ (i : ProbeInit). i.id)) (probes_new original text short.0 are_new twin names new_names l n p q)))
  id_changed (inr same) id is =
      let accepted = same.0.0 in
      let file = one_class_of original accepted.0 p.file accepted.1 p.text in
      let none = none_added (class_id original) p.file (subst (λ (c : ClassFile). NoCause (probe_causes (class_id original) c)) file accepted.2) in
      let pair_is = unchanged_pair original names new_names l n accepted p (subst (λ (b : List ℕ). IsLinkedClass new_names b n) same.1 q) in
      let no_id = ap (option_map (λ (i : ProbeInit). i.id)) (pair_is.probes ∙ no_probes names p.file l p.is none) in
      absurd (none-some id (sym no_id ∙ is))

-- ---- the refusal

module _ (originals written : List (List ℕ)) (p : Program) (short : AllByRecursion IsShortFile originals) (are : AllByRecursion AreBytes written)
    (w : AreWrittenOf originals written) (is : IsProgramOf originals p) where
  class_refused : (index : ℕ) (r : Refusal) → IsFirstRefused written index r → IsSecondRefusal originals written (refusals.Class index r)
  class_refused index r f = by o.2
    where
      o : (original : List ℕ) × (slice_get originals index ≡ Some original) × IsWrittenOf original f.bytes
      o = written_at originals written w index f.bytes f.stands

      l : (k : Linked) × (slice_get p.classes index ≡ Some k) × IsLinkedClass p.names o.0 k
      l = linked_at p.names originals p.classes is.classes index o.0 o.1

      of_twin : IsWrittenTwin o.0 f.bytes → IsSecondRefusal originals written (refusals.Class index r)
      of_twin twin =
          let reason = twin_reason o.0 f.bytes (all_at IsShortFile originals index o.0 short o.1) twin p.names l.0 l.2 r f.reason in
          subst (λ (s : Refusal). IsSecondRefusal originals written (refusals.Class index s)) (sym reason.1)
          (too_wide o.0 f.bytes twin.twin.twin (record { original_is = o.1; text_is = f.stands; twin = twin }) twin.twin.twin_is reason.2)

      by : IsWrittenOf o.0 f.bytes → IsSecondRefusal originals written (refusals.Class index r)
      by (inl twin) = of_twin twin
      by (inr same) = absurd (none_or_some link_causes o.0 r (no_reason p.names o.0 l.0 l.2) (subst (λ (b : List ℕ). LinkReason b (Some r)) same.1 f.reason))

  module _ (new_names : Names) (ns : List Linked) (linked : AreLinkedClasses new_names written ns) where
    -- what is linked at a place, and of what
    record IsAt (index : ℕ) (n : Linked) : Type 0 where
      text : List ℕ
      text_at : slice_get written index ≡ Some text
      new : IsLinkedClass new_names text n
      original : List ℕ
      original_at : slice_get originals index ≡ Some original
      written_of : IsWrittenOf original text
      old : Linked
      old_at : slice_get p.classes index ≡ Some old
      is_linked : IsLinkedClass p.names original old

    place : (index : ℕ) (n : Linked) → slice_get ns index ≡ Some n → IsAt index n
    place index n at =
        let t = class_at new_names written ns linked index n at in
        let o = written_at originals written w index t.0 t.1 in
        let l = linked_at p.names originals p.classes is.classes index o.0 o.1 in
        record {
          text = t.0;
          text_at = t.1;
          new = t.2;
          original = o.0;
          original_at = o.1;
          written_of = o.2;
          old = l.0;
          old_at = l.1;
          is_linked = l.2;
        }

    module _ (index : ℕ) (n : Linked) (a : IsAt index n) where
      short_at : IsShortFile a.original
      short_at = all_at IsShortFile originals index a.original short a.original_at

      bytes_at : AreBytes a.text
      bytes_at = all_at AreBytes written index a.text are a.text_at

      name_at : n.name ≡ a.old.name
      name_at = same_name p.names new_names a.original a.text a.old n short_at bytes_at a.is_linked a.new a.written_of

      id_at : (id : ℕ) → id_of n ≡ Some id → IsWrittenTwin a.original a.text × (id ≡ class_id a.original)
      id_at id has = id_changed p.names new_names a.original a.text a.old n short_at bytes_at a.is_linked a.new a.written_of id has

    no_name : (first second : ℕ) → IsFirstPair (HaveOneName ns) first second → ⊥
    no_name first second f =
        let h = f.there in
        let a = place first h.a h.first_is in
        let b = place second h.b h.second_is in
        is.one_each first second f.ordered (record {
          a = a.old;
          b = b.old;
          shared = h.shared;
          first_is = a.old_at;
          second_is = b.old_at;
          first_key = ap Some (sym (name_at first h.a a)) ∙ h.first_key;
          second_key = ap Some (sym (name_at second h.b b)) ∙ h.second_key;
        })

    ids_refused : (first second : ℕ) → IsFirstPair (HaveOneId ns) first second → IsSecondRefusal originals written (refusals.SameId first second)
    ids_refused first second f =
        let h = f.there in
        let a = place first h.a h.first_is in
        let b = place second h.b h.second_is in
        let i = id_at first h.a a h.shared h.first_key in
        let j = id_at second h.b b h.shared h.second_key in
        ids_of a.original b.original a.text b.text f.ordered
        (record { original_is = a.original_at; text_is = a.text_at; twin = i.0 })
        (record { original_is = b.original_at; text_is = b.text_at; twin = j.0 }) (sym i.1 ∙ j.1)

  pub second_refusal : (r : LinkRefusal) → IsLinkRefusal written r → IsSecondRefusal originals written r
  second_refusal _ (refused {index = i} {refusal = r} f) = class_refused i r f
  second_refusal _ (one_name {first = a} {second = b} names ns linked f) = absurd (no_name names ns linked a b f)
  second_refusal _ (one_id {first = a} {second = b} names ns linked none f) = ids_refused names ns linked a b f
