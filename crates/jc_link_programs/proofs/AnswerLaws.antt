-- What is answered is so, and what is so is answered.
use Rattle.std.proofs.Common.{◌≡◌, ℕ, zero, suc, ◌<◌, ◌^◌, Bool, true, false, List, [], ◌∷◌, length, map, Option, Some, None, bytes_eq, Result, Ok, Err, MatchResult, refl, sym, ap, subst, arith}
use Rattle.std.specs.Prelude.{All, slice_get}
use Rattle.std.specs.List.{AllByRecursion, IsDistinct}
use Rattle.std.proofs.lemmas.Slice.Eq.{bytes_eq-Decides}
use Rattle.std.specs.Bool.{⊤}
use Rattle.std.specs.Option.{option_map}
use Rattle.std.proofs.lemmas.Option.{none-some, same_Some}
use Rattle.jc_bytes.specs.declared.fail.Fail.{Fail}
use Rattle.jc_bytes.specs.declared.fail.Fail.TheVariants as fails
use Rattle.jc_programs.specs.declared.program.Program.{Program}
use Rattle.jc_methods.specs.VerificationTypes.{Names}
use Rattle.jc_programs.specs.declared.program.Linked.{Linked}
use Rattle.jc_programs.specs.declared.program.ProbeInit.{ProbeInit}
use Rattle.jc_machine_model.specs.Programs.{IsLinked, IsProgram}
use Rattle.jc_link_programs.specs.Linking.{AreLinkedClasses, IsLinkClash, IsLinkedClass, IsProgramOf, one_name, one_id, plain}
use Rattle.jc_link_programs.specs.Pairs.{HaveOneName, NoPair}
use Rattle.jc_link_programs.specs.Steps.{IsAnswer, PairAnswer}
use Rattle.jc_link_programs.specs.declared.link_refusal.LinkClash.{LinkClash}
use Rattle.jc_link_programs.specs.declared.link_refusal.LinkClash.TheVariants as clashes
use Rattle.jc_link_programs.proofs.LinkingLaws.{linked_count}
use Rattle.jc_link_programs.proofs.OneRefusalLaws.{program_or_refusal}

-- ---- the program

-- no other class has the class's name
unlike : (c : Linked) (ds : List Linked) → ((i : ℕ) (d : Linked) → slice_get ds i ≡ Some d → c.name ≡ d.name → ⊥)
    → AllByRecursion (λ y. bytes_eq c.name y ≡ false) (map (λ (d : Linked). d.name) ds)
unlike c [] other = tt
unlike c (d ∷ ds) other = (by (bytes_eq c.name d.name) refl, unlike c ds (λ i x at. other (suc i) x at))
  where
    by : (t : Bool) → bytes_eq c.name d.name ≡ t → t ≡ false
    by false e = refl
    by true e = absurd (other 0 d refl ((bytes_eq-Decides c.name d.name).0 e))

one_more : (c : Linked) (cs : List Linked) (a b : ℕ) → HaveOneName cs a b → HaveOneName (c ∷ cs) (suc a) (suc b)
one_more c cs a b h = record {
  a = h.a;
  b = h.b;
  shared = h.shared;
  first_is = h.first_is;
  second_is = h.second_is;
  first_key = h.first_key;
  second_key = h.second_key;
}

distinct_names : (classes : List Linked) → NoPair (HaveOneName classes) → IsDistinct bytes_eq (map (λ (c : Linked). c.name) classes)
unfolding IsDistinct
distinct_names [] none = tt
distinct_names (c ∷ cs) none = (
  unlike c cs (λ i d at same. none 0 (suc i) (omega arith) (record {
    a = c;
    b = d;
    shared = c.name;
    first_is = refl;
    second_is = at;
    first_key = refl;
    second_key = ap Some (sym same);
  })),
  distinct_names cs (λ a b less h. none (suc a) (suc b) (omega (arith, less)) (one_more c cs a b h)),
)

pub program_is : (files : List (List ℕ)) (p : Program) → length files < 2 ^ 32 → AreLinkedClasses p.names files p.classes → All (IsLinked p.names) p.classes
    → PairAnswer p.classes None → IsProgramOf files p × IsProgram p
program_is files p few classes fit none = (
  record { classes = classes; one_each = none.0; ids = none.1 },
  record {
    classes = fit;
    few = let count = linked_count p.names files p.classes classes in omega (arith, count, few);
    distinct = distinct_names p.classes none.0;
  },
)

-- ---- two classes of one name, or of one id

-- the file of which the class at a place is linked
pub class_at : (names : Names) (files : List (List ℕ)) (classes : List Linked) → AreLinkedClasses names files classes → (i : ℕ) (l : Linked) → slice_get classes i ≡ Some l
    → (bytes : List ℕ) × (slice_get files i ≡ Some bytes) × IsLinkedClass names bytes l
class_at names [] [] are i l at = absurd (none-some l at)
class_at names [] (k ∷ classes) are i l at = absurd are
class_at names (x ∷ files) [] are i l at = absurd are
class_at names (x ∷ files) (k ∷ classes) are zero l at = (x, refl, subst (IsLinkedClass names x) (same_Some k l at) are.0)
class_at names (x ∷ files) (k ∷ classes) are (suc i) l at = class_at names files classes are.1 i l at

with_id : (o : Option ProbeInit) (id : ℕ) → option_map (λ (p : ProbeInit). p.id) o ≡ Some id → (init : ProbeInit) × (o ≡ Some init) × (id ≡ init.id)
with_id None id is = absurd (none-some id is)
with_id (Some init) id is = (init, refl, sym (same_Some init.id id is))

pub pair_refused : (names : Names) (files : List (List ℕ)) (classes : List Linked) (clash : LinkClash) → AreLinkedClasses names files classes
    → PairAnswer classes (Some clash) → IsLinkClash files clash
pair_refused names files classes (clashes.SameName first second name) are pair =
    let key = pair.1 in
    let at = class_at names files classes are first key.linked key.stands in
    record {
      refusal = one_name names classes are pair.0;
      common = record {
        names = names;
        bytes = at.0;
        linked = key.linked;
        stands = at.1;
        is = at.2;
        named = sym (same_Some key.linked.name name key.is);
      };
    }
pair_refused names files classes (clashes.SameId first second id) are pair =
    let key = pair.2 in
    let at = class_at names files classes are first key.linked key.stands in
    let has = with_id key.linked.probes id key.is in
    record {
      refusal = one_id names classes are pair.0 pair.1;
      common = record {
        names = names;
        bytes = at.0;
        linked = key.linked;
        init = has.0;
        stands = at.1;
        is = at.2;
        probes = has.1;
        id_is = has.2;
      };
    }
pair_refused names files classes (clashes.Class index refusal) are pair = absurd pair

-- ---- what is so is answered

pub program_answered : (files : List (List ℕ)) (answer : Result Program (Fail LinkClash)) → IsAnswer files answer → (p : Program) → IsProgramOf files p
    → MatchResult answer (λ _. ⊤) (λ e. e ≡ fails.Memory)
program_answered files (Ok q) is p program = tt
program_answered files (Err fails.Memory) is p program = refl
program_answered files (Err (fails.Said clash)) is p program = absurd (program_or_refusal files p (plain clash) program is.refusal)
