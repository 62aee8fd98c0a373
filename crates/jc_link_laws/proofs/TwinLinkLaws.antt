-- Accepted files and what was written of them are linked to a program and its twin.
use Rattle.std.proofs.Common.{◌≡◌, ◌⊎◌, inl, inr, ℕ, suc, List, [], ◌∷◌, Contains, Some, refl, ap, subst, arith}
use Rattle.std.specs.List.{AllByRecursion}
use Rattle.jc_bytes.specs.ByteLists.{AreBytes}
use Rattle.jc_bytes.proofs.BooleanLaws.{which_in, none_in}
use Rattle.jc_bytes.proofs.ListLaws.{stands_at}
use Rattle.jc_methods.specs.VerificationTypes.{Names}
use Rattle.jc_methods.specs.WellMade.{IsWellMade}
use Rattle.jc_methods.specs.declared.body.Body.{Body}
use Rattle.jc_programs.specs.declared.program.Linked.{Linked}
use Rattle.jc_programs.specs.declared.program.Program.{Program}
use Rattle.jc_class.proofs.WritableLaws.{class_holds}
use Rattle.jc_kinds.specs.Checked.{Checked}
use Rattle.jc_twin_programs.specs.TwinProgram.{IsPair, ArePairs, DifferInName, AreChecked, TwinProgram}
use Rattle.jc_instrument.proofs.FrameCauseLaws.{each_at}
use Rattle.jc_instrument.proofs.PoolTextLaws.{class_pool}
use Rattle.jc_instrument.proofs.SomeBodiesLaws.{made_well}
use Rattle.jc_instrument.proofs.TextSizesLaws.{class_size}
use Rattle.jc_link_programs.specs.Linking.{IsLinkedClass, AreLinkedClasses, IsProgramOf}
use Rattle.jc_link_programs.specs.Pairs.{HaveOneName, NoPair}
use Rattle.jc_link_laws.specs.TwinFiles.{IsWrittenOf, AreWrittenOf, IsShortFile, TwinFiles}
use Rattle.jc_link_laws.proofs.ChangedPairLaws.{changed_pair}
use Rattle.jc_link_laws.proofs.TwinPairLaws.{unchanged_pair}

-- ---- the classes of the one program

module _ (names : Names) (bytes : List ℕ) (l : Linked) (p : IsLinkedClass names bytes l) where
  checked_body : IsShortFile bytes → (b : Body) → Contains l.bodies b → IsWellMade b × Checked names b
  checked_body short b there =
      let at = stands_at l.bodies b there in
      let class = class_holds bytes p.file short.0 p.text in
      let size = class_size bytes p.file p.text in
      let few = short.1 in (
        made_well p.file class (class_pool bytes p.file short.0 p.text) (omega (arith, size, few)) p.no_cause.1 names l.bodies p.is.bodies.are at.0 b at.1,
        each_at (Checked names) l.bodies p.is.bodies.checked at.0 b at.1,
      )

all_checked : (names : Names) (files : List (List ℕ)) (classes : List Linked) → AllByRecursion IsShortFile files → AreLinkedClasses names files classes
    → AreChecked names classes
all_checked names [] [] short are c there = absurd (none_in c there)
all_checked names [] (l ∷ classes) short are c there = absurd are
all_checked names (bytes ∷ files) [] short are c there = absurd are
all_checked names (bytes ∷ files) (l ∷ classes) short are c there = by (which_in l classes c there) (all_checked names files classes short.1 are.1 c)
  where
    by : (l ≡ c) ⊎ Contains classes c → (Contains classes c → (b : Body) → Contains c.bodies b → IsWellMade b × Checked names b)
        → (b : Body) → Contains c.bodies b → IsWellMade b × Checked names b
    by (inl same) later = subst (λ (d : Linked). (b : Body) → Contains d.bodies b → IsWellMade b × Checked names b) same (checked_body names bytes l are.0 short.0)
    by (inr behind) later = later behind

differ : (classes : List Linked) → NoPair (HaveOneName classes) → DifferInName classes
differ [] none = tt
differ (c ∷ classes) none = (
  λ d there same.
      let at = stands_at classes d there in
      none 0 (suc at.0) (omega arith) (record {
        a = c;
        b = d;
        shared = c.name;
        first_is = refl;
        second_is = at.1;
        first_key = refl;
        second_key = ap Some same;
      }),
  differ classes (λ a b less h. none (suc a) (suc b) (omega (arith, less)) (record {
    a = h.a;
    b = h.b;
    shared = h.shared;
    first_is = h.first_is;
    second_is = h.second_is;
    first_key = h.first_key;
    second_key = h.second_key;
  })),
)

-- ---- the pairs

pub pair : (names new_names : Names) (original text : List ℕ) (l n : Linked) → AreBytes original → AreBytes text → IsWrittenOf original text
    → IsLinkedClass names original l → IsLinkedClass new_names text n → IsPair names new_names l n
pair names new_names original text l n are are_new (inl twin) p q = inr (changed_pair original text are are_new twin names new_names l n p q)
pair names new_names original text l n are are_new (inr same) p q =
    inl (unchanged_pair original names new_names l n same.0.0 p (subst (λ (bytes : List ℕ). IsLinkedClass new_names bytes n) same.1 q))

pub pairs : (names new_names : Names) (originals written : List (List ℕ)) (ls ns : List Linked) → TwinFiles originals written
    → AreLinkedClasses names originals ls → AreLinkedClasses new_names written ns → ArePairs names new_names ls ns
pairs names new_names [] [] [] [] files p q = tt
pairs names new_names [] [] [] (n ∷ ns) files p q = absurd q
pairs names new_names [] [] (l ∷ ls) ns files p q = absurd p
pairs names new_names [] (text ∷ written) ls ns files p q = absurd files.each
pairs names new_names (original ∷ originals) [] ls ns files p q = absurd files.each
pairs names new_names (original ∷ originals) (text ∷ written) [] ns files p q = absurd p
pairs names new_names (original ∷ originals) (text ∷ written) (l ∷ ls) [] files p q = absurd q
pairs names new_names (original ∷ originals) (text ∷ written) (l ∷ ls) (n ∷ ns) files p q =
    let behind : TwinFiles originals written = record { short = files.short.1; are_bytes = files.are_bytes.1; each = files.each.1 } in
    (pair names new_names original text l n files.short.0.0 files.are_bytes.0 files.each.0 p.0 q.0, pairs names new_names originals written ls ns behind p.1 q.1)

pub twin_program : (originals written : List (List ℕ)) (p q : Program) → AllByRecursion IsShortFile originals → AllByRecursion AreBytes written
    → AreWrittenOf originals written → IsProgramOf originals p → IsProgramOf written q → TwinProgram p q
twin_program originals written p q short are w a b = record {
  checked = all_checked p.names originals p.classes short a.classes;
  differ = differ p.classes a.one_each;
  pairs = pairs p.names q.names originals written p.classes q.classes (record { short = short; are_bytes = are; each = w }) a.classes b.classes;
}
