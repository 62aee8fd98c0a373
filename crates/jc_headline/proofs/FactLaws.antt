-- A file of a report, the class that is linked of it, and that of what was written of it.
use Rattle.std.proofs.Common.{◌≡◌, ◌⊎◌, inl, inr, ℕ, ℤ, ◌+◌, Bool, true, false, ◌||◌, List, [], ◌∷◌, map, Some, Contains, refl, sym, ◌∙◌, ap, subst}
use Rattle.std.specs.List.{AllByRecursion, list_any, sum_by}
use Rattle.std.proofs.lemmas.Bool.{or_left, or_right}
use Rattle.std.proofs.lemmas.Option.{same_Some}
use Rattle.std.proofs.lemmas.Slice.Eq.{bytes_eq-Decides}
use Rattle.jc_bytes.specs.ByteLists.{AreBytes}
use Rattle.jc_bytes.specs.declared.refusal.Refusal.{Refusal}
use Rattle.jc_bytes.proofs.BooleanLaws.{first_in, later_in, which_in, none_in}
use Rattle.jc_methods.specs.ProbeMembers.{init_name, fetch_of}
use Rattle.jc_methods.specs.VerificationTypes.{Names}
use Rattle.jc_methods.specs.declared.analysed.Analysed.{Analysed}
use Rattle.jc_methods.specs.declared.body.Body.{Body}
use Rattle.jc_programs.specs.declared.program.Linked.{Linked}
use Rattle.jc_programs.specs.declared.program.ProbeInit.{ProbeInit}
use Rattle.jc_methods.specs.declared.body.What.{What}
use Rattle.jc_methods.specs.declared.probe_members.Fetch.{Fetch}
use Rattle.jc_methods.specs.declared.probe_members.Fetch.TheVariants as fetches
use Rattle.jc_class.specs.ClassId.{class_id}
use Rattle.jc_class.specs.declared.class_file.ClassFile.{ClassFile}
use Rattle.jc_class.proofs.FirstBadLaws.{one_class_of}
use Rattle.jc_plan.specs.Probed.{probe_count}
use Rattle.jc_pool.specs.Lookup.{class_name_of}
use Rattle.jc_emit.specs.Added.{IsAddedBody, bootstrap_of}
use Rattle.jc_emit.specs.TwinBodies.{AreTwinBodies}
use Rattle.jc_instrument.specs.Analysis.{IsAnalysis}
use Rattle.jc_instrument.specs.Bodies.{AreBodies, AreBodiesUnless}
use Rattle.jc_instrument.specs.LeftAlone.{is_left_alone}
use Rattle.jc_instrument.specs.Reasons.{AnalysisReason, analysis_causes}
use Rattle.jc_instrument.specs.Refused.{IsAccepted, StaysBy}
use Rattle.jc_instrument.specs.SameAnalysis.{without_frames}
use Rattle.jc_instrument.proofs.OneReasonLaws.{none_or_some}
use Rattle.jc_instrument.proofs.SameAnalysisLaws.{same_bodies}
use Rattle.jc_instrument.proofs.PassingLaws.{none_in_front}
use Rattle.jc_link_programs.specs.Linking.{AreLinkedClasses, IsLinkedClass}
use Rattle.jc_link_laws.specs.TwinFiles.{AreWrittenOf, IsShortFile, IsWrittenOf, IsWrittenTwin}
use Rattle.jc_link_laws.proofs.ChangedPairLaws.{changed_pair, probes_new}
use Rattle.jc_link_laws.proofs.TwinPairLaws.{unchanged_pair}
use Rattle.jc_machine_model.specs.Methods.{declares_init, is_init_name}
use Rattle.jc_command_classes.specs.Report.{ReportedFile, refused_class, unchanged_class, changed_class, IsItem, is_refused, is_unchanged, is_changed, AreItems, frameless}
use Rattle.jc_headline.proofs.OriginalLaws.{accepted_of}

-- ---- which classes declare the added method

has_init : (bodies : List Body) (b : Body) → Contains bodies b → b.name ≡ init_name → list_any (λ (x : Body). is_init_name x.name) bodies ≡ true
has_init [] b there named = absurd (none_in b there)
has_init (x ∷ bodies) b there named = by (which_in x bodies b there) (λ behind. has_init bodies b behind named)
  where
    by : (x ≡ b) ⊎ Contains bodies b → (Contains bodies b → list_any (λ (y : Body). is_init_name y.name) bodies ≡ true)
        → (is_init_name x.name || list_any (λ (y : Body). is_init_name y.name) bodies) ≡ true
    by (inl same) later =
        or_left (is_init_name x.name) (list_any (λ (y : Body). is_init_name y.name) bodies)
        ((bytes_eq-Decides x.name init_name).1 (ap (λ (y : Body). y.name) same ∙ named))
    by (inr behind) later = or_right (is_init_name x.name) (list_any (λ (y : Body). is_init_name y.name) bodies) (later behind)

no_init : (bodies : List Body) → ((b : Body) → Contains bodies b → b.name ≡ init_name → ⊥) → list_any (λ (x : Body). is_init_name x.name) bodies ≡ false
no_init [] none = refl
no_init (x ∷ bodies) none = by (is_init_name x.name) refl (no_init bodies (λ b there. none b (later_in x bodies b there)))
  where
    by : (t : Bool) → is_init_name x.name ≡ t → list_any (λ (y : Body). is_init_name y.name) bodies ≡ false → (t || list_any (λ (y : Body). is_init_name y.name) bodies) ≡ false
    by true is later = absurd (none x (first_in x bodies) ((bytes_eq-Decides x.name init_name).0 is))
    by false is later = later

last_in : (names new_names : Names) (fetch : Fetch) (giver : What) (first : ℕ) (bodies others : List Body) (added : Body)
    → AreTwinBodies names new_names fetch giver first bodies others added → Contains others added
last_in names new_names fetch giver first [] others added are = subst (λ (l : List Body). Contains l added) (sym are) (first_in added [])
last_in names new_names fetch giver first (b ∷ bodies) [] added are = absurd are
last_in names new_names fetch giver first (b ∷ bodies) (x ∷ others) added are = later_in x others added (last_in names new_names fetch giver (first + probe_count b) bodies others added are.1)

-- the added method has its name, whatever it does
added_name : (fetch : Fetch) (names : Names) (class : List ℕ) (id : ℤ) (count : ℕ) (b : Body) → IsAddedBody fetch names class id count b → b.name ≡ init_name
added_name fetches.Member names class id count b is = is.method.name
added_name fetches.Constant names class id count b is = is.method.name

-- ---- one file

-- what a report makes of a class that was changed, beside its linked class and that of its twin
pub record ChangedFacts (l n : Linked) (a : Analysed) : Type 0 where
  pub declares : declares_init n ≡ true
  pub init : ProbeInit
  pub probes : n.probes ≡ Some init
  pub id : init.id ≡ a.id
  pub count : init.count ≡ sum_by probe_count l.bodies
  pub name : a.name ≡ l.name
  pub bodies : a.bodies ≡ map without_frames l.bodies

abbrev pub FileFacts : Linked → Linked → ReportedFile → Type 0
FileFacts l n (refused_class why) = ⊥
FileFacts l n unchanged_class = declares_init n ≡ false
FileFacts l n (changed_class a) = ChangedFacts l n a

not_both : (t : Bool) → t ≡ true → t ≡ false → ⊥
not_both t p q = true_or_false (sym p ∙ q)
  where
    true_or_false : true ≡ false → ⊥
    true_or_false e = cc

module _ (names new_names : Names) (o w : List ℕ) (l n : Linked) (short : IsShortFile o) (are_new : AreBytes w) (wr : IsWrittenOf o w)
    (p : IsLinkedClass names o l) (q : IsLinkedClass new_names w n) where
  accepted : IsAccepted o
  accepted = accepted_of o w wr

  not_refused : (why : Refusal) → AnalysisReason o (Some why) → ⊥
  not_refused why reason = none_or_some analysis_causes o why (accepted.0, accepted.1, none_in_front (analysis_causes accepted.0) _ accepted.2) reason

  -- a file doesn't both stay and change
  stays_so : (t s : Bool) (a : Analysed) (is : IsAnalysis o a) → is_left_alone is.file ≡ t → StaysBy s o → s ≡ t
  stays_so t s a is alone stays =
      let same : stays.0 ≡ is.file = one_class_of o stays.0 is.file stays.1 is.text in
      sym stays.2 ∙ ap is_left_alone same ∙ alone

  unchanged_facts : (a : Analysed) (is : IsAnalysis o a) → is_left_alone is.file ≡ true → declares_init n ≡ false
  unchanged_facts a is alone = by wr
    where
      by : IsWrittenOf o w → declares_init n ≡ false
      by (inl twin) = absurd (not_both false (stays_so true false a is alone twin.changed.1) refl)
      by (inr same) =
          let q' : IsLinkedClass new_names o n = subst (λ (b : List ℕ). IsLinkedClass new_names b n) same.1 q in
          no_init n.bodies (unchanged_pair o new_names new_names n n accepted q' q').none_added.bodies

  changed_facts : (a : Analysed) (is : IsAnalysis o a) → is_left_alone is.file ≡ false → ChangedFacts l n (frameless a)
  changed_facts a is alone = by wr
    where
      file : p.file ≡ is.file
      file = one_class_of o p.file is.file p.text is.text

      are : AreBodiesUnless (is_left_alone is.file) names is.file l.bodies
      are =
          subst (λ (t : Bool). AreBodiesUnless t names is.file l.bodies) (sym alone)
          (subst (λ (c : ClassFile). AreBodies names c l.bodies) file p.is.bodies.are)

      of_twin : IsWrittenTwin o w → ChangedFacts l n (frameless a)
      of_twin twin =
          let pair = changed_pair o w short.0 are_new twin names new_names l n p q in
          record {
            declares = has_init n.bodies pair.added (last_in names new_names _ _ 0 l.bodies n.bodies pair.added pair.bodies)
                (added_name (fetch_of l.version) new_names l.name _ _ pair.added pair.added_is);
            init = record {
              id = class_id o;
              count = sum_by probe_count l.bodies;
              bootstrap = bootstrap_of twin.twin.is.fetch twin.twin.is.bootstrap;
            };
            probes = probes_new o w short.0 are_new twin names new_names l n p q;
            id = sym is.described.id;
            count = refl;
            name = same_Some a.name l.name (sym is.described.name ∙ ap (λ (c : ClassFile). class_name_of c.pool c.this_class) (sym file) ∙ p.is.name);
            bodies = same_bodies is.file a.bodies l.bodies is.bodies (record { names = names; are = are; checked = p.is.bodies.checked });
          }

      by : IsWrittenOf o w → ChangedFacts l n (frameless a)
      by (inl twin) = of_twin twin
      by (inr same) = absurd (not_both true refl (stays_so false true a is alone same.0.1))

  file_facts : (item : ReportedFile) → IsItem o item → FileFacts l n item
  file_facts _ (is_refused why reason) = absurd (not_refused why reason)
  file_facts _ (is_unchanged a is alone) = unchanged_facts a is alone
  file_facts _ (is_changed a is alone) = changed_facts a is alone

-- ---- all files

abbrev pub AreFacts : List Linked → List Linked → List ReportedFile → Type 0
AreFacts [] [] [] = Unit {0}
AreFacts (l ∷ ls) (n ∷ ns) (item ∷ items) = FileFacts l n item × AreFacts ls ns items
AreFacts _ _ _ = ⊥

pub facts_of : (names new_names : Names) (os ws : List (List ℕ)) (ls ns : List Linked) (items : List ReportedFile) → AllByRecursion IsShortFile os → AllByRecursion AreBytes ws
    → AreWrittenOf os ws → AreLinkedClasses names os ls → AreLinkedClasses new_names ws ns → AreItems os items → AreFacts ls ns items
facts_of names new_names [] ws ls ns (i ∷ items) short are w p q is = absurd is
facts_of names new_names [] (x ∷ ws) ls ns [] short are w p q is = absurd w
facts_of names new_names [] [] (l ∷ ls) ns [] short are w p q is = absurd p
facts_of names new_names [] [] [] (n ∷ ns) [] short are w p q is = absurd q
facts_of names new_names [] [] [] [] [] short are w p q is = tt
facts_of names new_names (o ∷ os) ws ls ns [] short are w p q is = absurd is
facts_of names new_names (o ∷ os) [] ls ns (i ∷ items) short are w p q is = absurd w
facts_of names new_names (o ∷ os) (x ∷ ws) [] ns (i ∷ items) short are w p q is = absurd p
facts_of names new_names (o ∷ os) (x ∷ ws) (l ∷ ls) [] (i ∷ items) short are w p q is = absurd q
facts_of names new_names (o ∷ os) (x ∷ ws) (l ∷ ls) (n ∷ ns) (i ∷ items) short are w p q is =
    (file_facts names new_names o x l n short.0 are.0 w.0 p.0 q.0 i is.0, facts_of names new_names os ws ls ns items short.1 are.1 w.1 p.1 q.1 is.1)
