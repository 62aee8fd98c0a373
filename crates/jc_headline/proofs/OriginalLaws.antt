-- Where the files that were written of accepted ones are linked to a program, these are too.
use Rattle.std.proofs.Common.{◌≡◌, ◌⊎◌, inl, inr, ℕ, zero, suc, Bool, false, List, [], ◌∷◌, ◌++◌, None, Some, refl, sym, ◌∙◌, ap, subst}
use Rattle.std.specs.Prelude.{slice_get}
use Rattle.std.specs.List.{AllByRecursion}
use Rattle.std.specs.Option.{option_map}
use Rattle.std.proofs.lemmas.Option.{none-some, same_Some}
use Rattle.jc_bytes.specs.ByteLists.{AreBytes}
use Rattle.jc_bytes.specs.declared.refusal.Refusal.{Refusal}
use Rattle.jc_bytes.proofs.ListLaws.{all_at}
use Rattle.jc_methods.specs.VerificationTypes.{Names}
use Rattle.jc_programs.specs.declared.program.Linked.{Linked}
use Rattle.jc_programs.specs.declared.program.ProbeInit.{ProbeInit}
use Rattle.jc_programs.specs.declared.program.Program.{Program}
use Rattle.jc_class.specs.ClassId.{class_id}
use Rattle.jc_class.specs.declared.class_file.ClassFile.{ClassFile}
use Rattle.jc_class.proofs.FirstBadLaws.{one_class_of}
use Rattle.jc_instrument.specs.Causes.{NoCause, unless}
use Rattle.jc_instrument.specs.LeftAlone.{is_left_alone}
use Rattle.jc_instrument.specs.Reasons.{class_causes, interface_causes, code_causes}
use Rattle.jc_instrument.specs.Refused.{IsAccepted, IsChanged, probe_causes}
use Rattle.jc_instrument.specs.RoomCauses.{room_causes}
use Rattle.jc_instrument.proofs.OneReasonLaws.{none_or_some}
use Rattle.jc_link_programs.specs.Linking.{AreLinkedClasses, IsFirstRefused, IsLinkedClass, IsLinkRefusal, IsProgramOf, LinkReason, link_causes, refused, one_name, one_id}
use Rattle.jc_link_programs.specs.Pairs.{HaveOneId, HaveOneName, IsFirstPair, id_of}
use Rattle.jc_link_programs.specs.declared.link_refusal.LinkRefusal.{LinkRefusal}
use Rattle.jc_link_programs.proofs.LinkingLaws.{no_reason}
use Rattle.jc_link_programs.proofs.AnswerLaws.{class_at}
use Rattle.jc_link_laws.specs.TwinFiles.{AreWrittenOf, IsShortFile, IsWrittenOf}
use Rattle.jc_link_laws.proofs.PlaceLaws.{linked_at}
use Rattle.jc_link_laws.proofs.SecondLinkingLaws.{same_name}
use Rattle.jc_link_laws.proofs.SomeProgramLaws.{program_or_reason}
use Rattle.jc_link_laws.proofs.TwinPairLaws.{no_probes, none_added}
use Rattle.jc_link_laws.proofs.WrittenFileLaws.{written_of}
use Rattle.jc_command_classes.specs.Instrument.{Decision, refused_file, accepted_file, IsDecision}
use Rattle.jc_headline.specs.CoverWork.{LookedFile, AreLooked, accepted, kept_if, texts_in}
use Rattle.jc_headline.specs.Headline.{written_bytes, all_written}

-- ---- what was written

-- each accepted file, with what was written of it
pub all_written_of : (paths : List (List ℕ)) (read : List (List ℕ)) (looked : List LookedFile) → AreLooked paths read looked → AllByRecursion IsShortFile read
    → AreWrittenOf (texts_in (accepted looked)) (all_written looked)
all_written_of [] [] looked is short = subst (λ (ls : List LookedFile). AreWrittenOf (texts_in (accepted ls)) (all_written ls)) (sym is) tt
all_written_of [] (t ∷ ts) looked is short = absurd is
all_written_of (p ∷ ps) [] looked is short = absurd is
all_written_of (p ∷ ps) (t ∷ ts) looked (d, rest, decision, parts, more) short =
    subst (λ (ls : List LookedFile). AreWrittenOf (texts_in (accepted ls)) (all_written ls)) (sym parts)
    (by d decision (all_written_of ps ts rest more short.1))
  where
    by : (e : Decision) → IsDecision t e → AreWrittenOf (texts_in (accepted rest)) (all_written rest)
        → AreWrittenOf (texts_in (kept_if e (record { file = p; bytes = t; decision = d }) (accepted rest))) (written_bytes e (all_written rest))
    by (refused_file why) is later = later
    by (accepted_file a) is later = (written_of t a short.0.0 short.0.1 is, later)

pub all_short : (paths : List (List ℕ)) (read : List (List ℕ)) (looked : List LookedFile) → AreLooked paths read looked → AllByRecursion IsShortFile read
    → AllByRecursion IsShortFile (texts_in (accepted looked))
all_short [] [] looked is short = subst (λ (ls : List LookedFile). AllByRecursion IsShortFile (texts_in (accepted ls))) (sym is) tt
all_short [] (t ∷ ts) looked is short = absurd is
all_short (p ∷ ps) [] looked is short = absurd is
all_short (p ∷ ps) (t ∷ ts) looked (d, rest, decision, parts, more) short =
    subst (λ (ls : List LookedFile). AllByRecursion IsShortFile (texts_in (accepted ls))) (sym parts) (by d (all_short ps ts rest more short.1))
  where
    by : (e : Decision) → AllByRecursion IsShortFile (texts_in (accepted rest))
        → AllByRecursion IsShortFile (texts_in (kept_if e (record { file = p; bytes = t; decision = d }) (accepted rest)))
    by (refused_file why) later = later
    by (accepted_file a) later = (short.0, later)

-- ---- at a place

text_at : (originals written : List (List ℕ)) → AreWrittenOf originals written → (i : ℕ) (o : List ℕ) → slice_get originals i ≡ Some o
    → (text : List ℕ) × (slice_get written i ≡ Some text) × IsWrittenOf o text
text_at [] [] w i o at = absurd (none-some o at)
text_at [] (x ∷ written) w i o at = absurd w
text_at (y ∷ originals) [] w i o at = absurd w
text_at (y ∷ originals) (x ∷ written) w zero o at = (x, refl, subst (λ (z : List ℕ). IsWrittenOf z x) (same_Some y o at) w.0)
text_at (y ∷ originals) (x ∷ written) w (suc i) o at = text_at originals written w.1 i o at

-- ---- an accepted file

pub accepted_of : (original text : List ℕ) → IsWrittenOf original text → IsAccepted original
accepted_of original text (inl twin) = twin.changed.0
accepted_of original text (inr same) = same.0.0

abbrev Causes : ℕ → ClassFile → Bool → Type 0
Causes id c t = NoCause ((class_causes c ++ unless t (interface_causes c ++ code_causes c)) ++ unless t (room_causes id c))

-- a class that is changed has no reason not to be linked
changed_reason : (bytes : List ℕ) → IsChanged bytes → LinkReason bytes None
changed_reason bytes (is, (file, text, changes)) =
    let same : is.0 ≡ file = one_class_of bytes is.0 file is.1 text in
    let none = subst (λ (c : ClassFile). NoCause (probe_causes (class_id bytes) c)) same is.2 in
    (file, text, causes file none changes)
  where
    causes : (c : ClassFile) → NoCause (probe_causes (class_id bytes) c) → is_left_alone c ≡ false → NoCause (link_causes c)
    causes c none changes =
        let n = subst (Causes (class_id bytes) c) changes none in
        (n.0, (n.1.1.1.0, (n.1.1.1.1.0, (n.1.1.1.1.1.0, (n.1.1.1.1.1.1.0, tt)))))

-- it has no probes yet
no_id : (names : Names) (original text : List ℕ) (l : Linked) → IsWrittenOf original text → IsLinkedClass names original l → id_of l ≡ None
no_id names original text l w p =
    let is = accepted_of original text w in
    let file = one_class_of original is.0 p.file is.1 p.text in
    let none = none_added (class_id original) p.file (subst (λ (c : ClassFile). NoCause (probe_causes (class_id original) c)) file is.2) in
    ap (option_map (λ (i : ProbeInit). i.id)) (no_probes names p.file l p.is none)

-- ---- the program

module _ (originals written : List (List ℕ)) (q : Program) (short : AllByRecursion IsShortFile originals) (are : AllByRecursion AreBytes written)
    (w : AreWrittenOf originals written) (is : IsProgramOf written q) where
  class_refused : (index : ℕ) (r : Refusal) → IsFirstRefused originals index r → ⊥
  class_refused index r f = by t.2
    where
      t : (text : List ℕ) × (slice_get written index ≡ Some text) × IsWrittenOf f.bytes text
      t = text_at originals written w index f.bytes f.stands

      n : (k : Linked) × (slice_get q.classes index ≡ Some k) × IsLinkedClass q.names t.0 k
      n = linked_at q.names written q.classes is.classes index t.0 t.1

      by : IsWrittenOf f.bytes t.0 → ⊥
      by (inl twin) = none_or_some link_causes f.bytes r (changed_reason f.bytes twin.changed) f.reason
      by (inr same) = none_or_some link_causes f.bytes r (subst (λ (b : List ℕ). LinkReason b None) same.1 (no_reason q.names t.0 n.0 n.2)) f.reason

  module _ (names : Names) (ls : List Linked) (linked : AreLinkedClasses names originals ls) where
    -- the class of the twin at the place has the same name
    named_at : (index : ℕ) (l : Linked) → slice_get ls index ≡ Some l → (n : Linked) × (slice_get q.classes index ≡ Some n) × (n.name ≡ l.name)
    named_at index l at =
        let o = class_at names originals ls linked index l at in
        let t = text_at originals written w index o.0 o.1 in
        let n = linked_at q.names written q.classes is.classes index t.0 t.1 in
        (n.0, n.1, same_name names q.names o.0 t.0 l n.0 (all_at IsShortFile originals index o.0 short o.1) (all_at AreBytes written index t.0 are t.1) o.2 n.2 t.2)

    no_name : (first second : ℕ) → IsFirstPair (HaveOneName ls) first second → ⊥
    no_name first second f =
        let h = f.there in
        let a = named_at first h.a h.first_is in
        let b = named_at second h.b h.second_is in
        is.one_each first second f.ordered (record {
          a = a.0;
          b = b.0;
          shared = h.shared;
          first_is = a.1;
          second_is = b.1;
          first_key = ap Some a.2 ∙ h.first_key;
          second_key = ap Some b.2 ∙ h.second_key;
        })

    no_ids : (first second : ℕ) → IsFirstPair (HaveOneId ls) first second → ⊥
    no_ids first second f =
        let h = f.there in
        let o = class_at names originals ls linked first h.a h.first_is in
        let t = text_at originals written w first o.0 o.1 in
        none-some h.shared (sym (no_id names o.0 t.0 h.a t.2 o.2) ∙ h.first_key)

  not_refused : (r : LinkRefusal) → IsLinkRefusal originals r → ⊥
  not_refused _ (refused {index = i} {refusal = r} f) = class_refused i r f
  not_refused _ (one_name {first = a} {second = b} names ls linked f) = no_name names ls linked a b f
  not_refused _ (one_id {first = a} {second = b} names ls linked none f) = no_ids names ls linked a b f

  pub original_program : (p : Program) × IsProgramOf originals p
  original_program = by (program_or_reason originals short)
    where
      by : ((p : Program) × IsProgramOf originals p) ⊎ ((r : LinkRefusal) × IsLinkRefusal originals r) → (p : Program) × IsProgramOf originals p
      by (inl program) = program
      by (inr refusal) = absurd (not_refused refusal.0 refusal.1)
