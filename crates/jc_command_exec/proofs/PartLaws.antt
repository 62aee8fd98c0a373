-- The parts of a file, one behind the other, are the file.
use Rattle.std.proofs.Common.{◌≡◌, inl, inr, ℕ, ◌+◌, ◌%◌, ◌<◌, ◌≤◌, Bool, true, false, List, [], ◌∷◌, ◌++◌, length, take, drop, Option, None, Some, Ok, refl, sym, ◌∙◌, ap, subst, arith, append_assoc, length-append}
use Rattle.std.specs.Prelude.{⊤}
use Rattle.std.specs.FinMap.{get}
use Rattle.std.proofs.lemmas.Bool.{false≢true, cases_order}
use Rattle.std.proofs.lemmas.List.{append-nil, take-append-drop, drop_at, drop_all}
use Rattle.std.proofs.lemmas.Option.{same_Some}
use Rattle.jc_bytes.specs.ByteLists.{AreBytes}
use Rattle.jc_bytes.specs.Reader.{most_read}
use Rattle.jc_exec.specs.Feeding.{Feeds}
use Rattle.jc_outside.specs.Outside.{FileMap, Begins, WhereTold, ReadGives, IsPartOf, IsFilePart}
use Rattle.jc_command_work.specs.Step.{Word}
use Rattle.jc_command_exec.specs.declared.gathered.Feeding.{Feeding}
use Rattle.jc_command_exec.specs.declared.gathered.Feeding.TheVariants.{Fed, Dropped}
use Rattle.jc_command_exec.specs.Gathering.{length_of, FeedsOn}

-- ---- what was fed

pub feeds_none : (first : Feeding) → FeedsOn first [] first
feeds_none (Fed f) = (omega arith, λ before front feeds. subst (Feeds f before) (sym (append-nil front)) feeds)
feeds_none (Dropped stop) = refl

pub feeds_more : (first mid later : Feeding) (bytes part : List ℕ) → FeedsOn first bytes mid → FeedsOn mid part later → FeedsOn first (bytes ++ part) later
feeds_more (Fed f) (Fed g) (Fed h) bytes part a b = (
  omega (arith, a.0, b.0, length-append bytes part),
  λ before front feeds. subst (Feeds h before) (append_assoc front bytes part) (b.1 before (front ++ bytes) (a.1 before front feeds)),
)
feeds_more (Fed f) (Fed g) (Dropped stop) bytes part a b = absurd b
feeds_more (Fed f) (Dropped stop) later bytes part a b = absurd a
feeds_more (Dropped stop) (Fed g) later bytes part a b = absurd a
feeds_more (Dropped stop) (Dropped same) (Fed h) bytes part a b = absurd b
feeds_more (Dropped stop) (Dropped same) (Dropped last) bytes part a b = b ∙ a

-- no more bytes were fed than these
pub fed_length : (first later : Feeding) (bytes : List ℕ) → length_of first ≡ 0 → FeedsOn first bytes later → length_of later ≤ length bytes
fed_length (Fed f) (Fed g) bytes none a = omega (arith, none, a.0)
fed_length (Fed f) (Dropped stop) bytes none a = omega arith
fed_length (Dropped stop) (Fed g) bytes none a = absurd a
fed_length (Dropped stop) (Dropped same) bytes none a = omega arith

-- ---- what was read

-- where contents are told, the bytes so far are the front of what the file holds, or all of it
abbrev IsFront : Option FileMap → Word → List ℕ → Bool → Type 0
IsFront None path bytes ended = ⊤
IsFront (Some m) path bytes false = (file : List ℕ) → get m path ≡ Some file → Begins bytes file
IsFront (Some m) path bytes true = get m path ≡ Some bytes

-- these parts were read and fed
pub record PartsRead (contents : Option FileMap) (path : Word) (first : Feeding) (from : ℕ) (ended : Bool) (feeding : Feeding) : Type 0 where
  pub bytes : List ℕ
  pub are : AreBytes bytes
  pub short : length bytes ≤ most_read
  pub fed : FeedsOn first bytes feeding
  pub place : ended ≡ false → (length bytes ≡ from) × (from % 65536 ≡ 0) × (from < most_read)
  pub told : IsFront contents path bytes ended

pub parts_start : (contents : Option FileMap) (path : Word) (first : Feeding) → PartsRead contents path first 0 false first
parts_start contents path first = record {
  bytes = [];
  are = tt;
  short = omega arith;
  fed = feeds_none first;
  place = λ more. (refl, refl, omega arith);
  told = by contents;
}
  where
    by : (contents : Option FileMap) → IsFront contents path [] false
    by None = tt
    by (Some m) = λ file there. (file, refl)

both : (front part : List ℕ) → AreBytes front → AreBytes part → AreBytes (front ++ part)
both [] part a b = b
both (x ∷ front) part a b = (a.0, both front part a.1 b)

-- the front of a file and its next part
module _ (m : FileMap) (path : Word) (front : List ℕ) (from : ℕ) (part : List ℕ) (at : length front ≡ from) where
  file_parts : (file : List ℕ) → Begins front file → part ≡ take 65536 (drop from file) → file ≡ (front ++ part) ++ drop 65536 (drop from file)
  file_parts file (rest, is) part_is =
      let behind : drop from file ≡ rest = ap (drop from) is ∙ drop_at front rest from at in
      is ∙ ap (λ (l : List ℕ). front ++ l) (sym behind ∙ sym (take-append-drop 65536 (drop from file)) ∙ ap (λ (l : List ℕ). l ++ drop 65536 (drop from file)) (sym part_is))
      ∙ sym (append_assoc front part (drop 65536 (drop from file)))

  pub front_more : (ended : Bool) (file : List ℕ) → get m path ≡ Some file → Begins front file → IsPartOf file from part ended → IsFront (Some m) path (front ++ part) ended
  front_more false file there begins is = λ other same.
      (drop 65536 (drop from file), same_Some other file (sym same ∙ there) ∙ file_parts file begins is.bytes)
  front_more true file there begins is = there ∙ ap (λ (l : List ℕ). let o : Option (List ℕ) = Some l in o) whole
    where
      short : length file ≤ from + 65536
      short = elim (cases_order (from + 65536) (length file)) [
        | inl same ↦ omega (arith, same)
        | inr (inl less) ↦ absurd (false≢true (sym (is.longer.1 less)))
        | inr (inr more) ↦ omega (arith, more)
      ]

      rest_is : file ≡ front ++ begins.0
      rest_is = begins.1

      none : drop 65536 (drop from file) ≡ []
      none = drop_all 65536 (drop from file) (omega (arith, short, ap length (ap (drop from) rest_is ∙ drop_at front begins.0 from at), ap length rest_is, length-append front begins.0, at))

      whole : file ≡ front ++ part
      whole = file_parts file begins is.bytes ∙ ap (λ (l : List ℕ). (front ++ part) ++ l) none ∙ append-nil (front ++ part)

-- one part more
pub part_more : (contents : Option FileMap) (path : Word) (first feeding later : Feeding) (from : ℕ) (was : Bool) → was ≡ false → PartsRead contents path first from was feeding
    → (part : List ℕ) (ended : Bool) → AreBytes part → IsFilePart contents path from part ended → FeedsOn feeding part later
    → PartsRead contents path first (from + 65536) ended later
part_more contents path first feeding later from was goes_on p part ended are is feeds =
    let at = p.place goes_on in
    record {
      bytes = p.bytes ++ part;
      are = both p.bytes part p.are are;
      short = omega (arith, length-append p.bytes part, at.0, at.1, at.2, is.few);
      fed = feeds_more first feeding later p.bytes part p.fed feeds;
      place = λ more. (omega (arith, length-append p.bytes part, at.0, is.whole more), omega (arith, at.1), is.last more);
      told = by contents is.told (subst (IsFront contents path p.bytes) goes_on p.told);
    }
  where
    by : (k : Option FileMap) → WhereTold k (λ m. (file : List ℕ) × (get m path ≡ Some file) × IsPartOf file from part ended) → IsFront k path p.bytes false
        → IsFront k path (p.bytes ++ part) ended
    by None told front = tt
    by (Some m) (file, there, part_of) front = front_more m path p.bytes from part (p.place goes_on).0 ended file there (front file there) part_of

-- all was read
pub file_ended : (contents : Option FileMap) (path : Word) (first : Feeding) (from : ℕ) (ended : Bool) (later : Feeding) → ended ≡ true
    → (p : PartsRead contents path first from ended later) → ReadGives contents path [] p.bytes (Ok tt)
file_ended contents path first from ended later all p = (p.bytes, refl, p.short, by contents (subst (IsFront contents path p.bytes) all p.told))
  where
    by : (k : Option FileMap) → IsFront k path p.bytes true → WhereTold k (λ m. get m path ≡ Some p.bytes)
    by None told = tt
    by (Some m) told = told
