-- How many bytes the text of a constant pool has at most, and how many more it has once the pool has taken contents.
use Rattle.std.proofs.Common.{◌≡◌, inl, inr, ℕ, zero, suc, ◌+◌, ◌-◌, ◌≤◌, Bool, true, false, ◌==◌, if◌then◌else◌, List, [], ◌∷◌, length, map, Option, Some, None, refl, sym, ◌∙◌, ap, arith}
use Rattle.std.specs.List.{AllByRecursion, sum_by}
use Rattle.std.proofs.lemmas.List.Sums.{sum_by-cons, sum_by-append}
use Rattle.jc_pool.specs.declared.entry.Entry.{Entry}
use Rattle.jc_pool.specs.declared.entry.Entry.TheVariants as entry
use Rattle.jc_pool.specs.declared.index.Naming.TheVariants as naming
use Rattle.jc_pool.specs.Adding.{Adds, IsPut, IsPutAs, HasUtf8, PutsNaming, PutsSignature, HasSignature, HasClass, PutsMember, HasMember, PutsHandle, PutsComputed, entry_of_member}
use Rattle.jc_pool.specs.EntryFormat.{IsEntry, ArePlaces}
use Rattle.jc_pool.specs.Lookup.{Signature, Member, signature, utf8_of, class_name_of, string_of, integer_of, long_of, signature_of, member_of, handle_of, computed_of}
use Rattle.jc_pool.specs.Pool.{PoolValue, is_wide, slots_of}
use Rattle.jc_pool.specs.PoolGrammar.{behind, by_size, places, pool}
use Rattle.jc_pool.proofs.AddedLaws.{naming_there}
use Rattle.jc_instrument.specs.Contents.{Content, text_entry, class_entry, string_entry, integer_entry, long_entry, signature_entry, member_entry, handle_entry, computed_entry, Takes, TakesEach}
use Rattle.jc_instrument.proofs.TextSizesLaws.{in_two}

-- ---- weights

abbrev pub entry_weight : Entry → ℕ
entry_weight (entry.Utf8 text) = 3 + length text
entry_weight _ = 9

abbrev pub slot_weight : Option Entry → ℕ
slot_weight None = 1
slot_weight (Some e) = entry_weight e

abbrev pub pool_weight : PoolValue → ℕ
pool_weight slots = sum_by slot_weight slots

some_weight : (s : Option Entry) → 1 ≤ slot_weight s
some_weight None = omega arith
some_weight (Some (entry.Utf8 text)) = omega arith
some_weight (Some e) = omega arith

-- a pool has no more places
pub places_most : (slots : PoolValue) → length slots ≤ pool_weight slots
places_most [] = omega arith
places_most (s ∷ slots) =
    let whole = sum_by-cons slot_weight s slots in
    let one = some_weight s in
    let rest = places_most slots in
    omega (arith, whole, one, rest)

-- ---- the text

two_places : (info : List ℕ) (a b : ℕ) → ArePlaces info a b → length info ≡ 4
two_places info a b is =
    let both = in_two info is.front is.back is.parts in
    let left = is.left.size in
    let right = is.right.size in
    omega (arith, both, left, right)

module _ (text : List ℕ) where
  behind_tag : (e : Entry) (is : IsEntry text e) → length text ≡ suc (length is.info)
  behind_tag e is = ap (λ (l : List ℕ). length l) is.parts

  entry_most : (e : Entry) → IsEntry text e → length text ≤ entry_weight e
  entry_most (entry.Utf8 t) is =
      let tag = behind_tag (entry.Utf8 t) is in
      let both = in_two is.info is.spells.size t is.spells.parts in
      let size = is.spells.spells.size in
      omega (arith, tag, both, size)
  entry_most (entry.Integer value) is = let tag = behind_tag (entry.Integer value) is in let size = is.spells.size in omega (arith, tag, size)
  entry_most (entry.Float bits) is = let tag = behind_tag (entry.Float bits) is in let size = is.spells.size in omega (arith, tag, size)
  entry_most (entry.Long value) is = let tag = behind_tag (entry.Long value) is in let size = is.spells.size in omega (arith, tag, size)
  entry_most (entry.Double bits) is = let tag = behind_tag (entry.Double bits) is in let size = is.spells.size in omega (arith, tag, size)
  entry_most (entry.Class name) is = let tag = behind_tag (entry.Class name) is in let size = is.spells.size in omega (arith, tag, size)
  entry_most (entry.String name) is = let tag = behind_tag (entry.String name) is in let size = is.spells.size in omega (arith, tag, size)
  entry_most (entry.Fieldref a b) is = let tag = behind_tag (entry.Fieldref a b) is in let size = two_places is.info a b is.spells in omega (arith, tag, size)
  entry_most (entry.Methodref a b) is = let tag = behind_tag (entry.Methodref a b) is in let size = two_places is.info a b is.spells in omega (arith, tag, size)
  entry_most (entry.InterfaceMethodref a b) is =
      let tag = behind_tag (entry.InterfaceMethodref a b) is in let size = two_places is.info a b is.spells in omega (arith, tag, size)
  entry_most (entry.NameAndType a b) is = let tag = behind_tag (entry.NameAndType a b) is in let size = two_places is.info a b is.spells in omega (arith, tag, size)
  entry_most (entry.MethodHandle kind reference) is =
      let tag = behind_tag (entry.MethodHandle kind reference) is in
      let parts = ap (λ (l : List ℕ). length l) is.spells.parts in
      let size = is.spells.right.size in
      omega (arith, tag, parts, size)
  entry_most (entry.MethodType name) is = let tag = behind_tag (entry.MethodType name) is in let size = is.spells.size in omega (arith, tag, size)
  entry_most (entry.Dynamic a b) is = let tag = behind_tag (entry.Dynamic a b) is in let size = two_places is.info a b is.spells in omega (arith, tag, size)
  entry_most (entry.InvokeDynamic a b) is = let tag = behind_tag (entry.InvokeDynamic a b) is in let size = two_places is.info a b is.spells in omega (arith, tag, size)
  entry_most (entry.Module name) is = let tag = behind_tag (entry.Module name) is in let size = is.spells.size in omega (arith, tag, size)
  entry_most (entry.Package name) is = let tag = behind_tag (entry.Package name) is in let size = is.spells.size in omega (arith, tag, size)

-- behind an entry of one place or of two
abbrev BehindText : Entry → ℕ → Bool → List ℕ → List (Option Entry) → Type 0
BehindText e n wide text slots = (by_size wide (behind (Some e ∷ None ∷ []) (places n)) (behind (Some e ∷ []) (places (suc n)))).Text text slots

slots_most : (n : ℕ) (text : List ℕ) (slots : List (Option Entry)) → (places n).Text text slots → length text ≤ pool_weight slots
slots_most zero text slots t = let none = ap (λ (l : List ℕ). length l) t.0 in omega (arith, none)
slots_most (suc zero) text slots t =
    let both = in_two text t.1 t.2 t.3 in
    let one = entry_most t.1 t.0 t.4.0 in
    let none = ap (λ (l : List ℕ). length l) t.5.0 in
    let is : pool_weight slots ≡ entry_weight t.0 = ap pool_weight t.5.1 ∙ sum_by-cons slot_weight (Some t.0) [] ∙ omega arith in
    omega (arith, both, one, none, is)
slots_most (suc (suc n)) text slots t = by (is_wide t.0) t.5 (slots_most n) (slots_most (suc n))
  where
    one : length t.1 ≤ entry_weight t.0
    one = entry_most t.1 t.0 t.4

    both : length text ≡ length t.1 + length t.2
    both = in_two text t.1 t.2 t.3

    by : (wide : Bool) → BehindText t.0 n wide t.2 slots → ((text : List ℕ) (slots : List (Option Entry)) → (places n).Text text slots → length text ≤ pool_weight slots)
        → ((text : List ℕ) (slots : List (Option Entry)) → (places (suc n)).Text text slots → length text ≤ pool_weight slots) → length text ≤ pool_weight slots
    by true more next long =
        let rest = in_two t.2 more.1 more.2 more.3 in
        let none = ap (λ (l : List ℕ). length l) more.5.0 in
        let later = next more.1 more.0 more.4 in
        let is : pool_weight slots ≡ pool_weight (Some t.0 ∷ None ∷ more.0) = ap pool_weight more.5.1 in
        let first = sum_by-cons slot_weight (Some t.0) (None ∷ more.0) in
        let second = sum_by-cons slot_weight None more.0 in
        omega (arith, one, both, rest, none, later, is, first, second)
    by false more next long =
        let rest = in_two t.2 more.1 more.2 more.3 in
        let none = ap (λ (l : List ℕ). length l) more.5.0 in
        let later = long more.1 more.0 more.4 in
        let is : pool_weight slots ≡ pool_weight (Some t.0 ∷ more.0) = ap pool_weight more.5.1 in
        let first = sum_by-cons slot_weight (Some t.0) more.0 in
        omega (arith, one, both, rest, none, later, is, first)

pub pool_most : (text : List ℕ) (slots : PoolValue) → pool.Text text slots → length text ≤ 2 + pool_weight slots
pool_most text slots t =
    let both = in_two text t.1 t.2 t.3 in
    let count = t.4.0.size in
    let more = t.5 in
    let rest = in_two t.2 more.1 more.2 more.3 in
    let none = ap (λ (l : List ℕ). length l) more.5.0 in
    let later = slots_most (t.0 - 1) more.1 more.0 more.4 in
    let is : pool_weight slots ≡ pool_weight (None ∷ more.0) = ap pool_weight more.5.1 in
    let first = sum_by-cons slot_weight None more.0 in
    omega (arith, both, count, rest, none, later, is, first)

-- ---- what is put

slots_weight : (e : Entry) → pool_weight (slots_of e) ≤ entry_weight e + 1
slots_weight e = by (is_wide e)
  where
    by : (wide : Bool) → pool_weight (if wide then Some e ∷ None ∷ [] else Some e ∷ []) ≤ entry_weight e + 1
    by true =
        let first = sum_by-cons slot_weight (Some e) (None ∷ []) in
        let second = sum_by-cons slot_weight None [] in
        omega (arith, first, second)
    by false = let first = sum_by-cons slot_weight (Some e) [] in omega (arith, first)

put_weight : (old new : PoolValue) (e : Entry) (place : ℕ) → IsPut old new e place → pool_weight new ≤ pool_weight old + (entry_weight e + 1)
put_weight old new e place put =
    let is : pool_weight new ≡ pool_weight old + pool_weight (slots_of e) = ap pool_weight put.grown ∙ sum_by-append slot_weight old (slots_of e) in
    let one = slots_weight e in
    omega (arith, is, one)

module _ {X : Type 0} (found : PoolValue → ℕ → Option X) (what : X) (old : PoolValue) (Put : PoolValue → ℕ → Type 0) (new : PoolValue) (place k : ℕ) where
  adds_weight : (Put new place → pool_weight new ≤ pool_weight old + k) → Adds found what old Put new place → pool_weight new ≤ pool_weight old + k
  adds_weight grows (inl has) = let same = ap pool_weight has.1 in omega (arith, same)
  adds_weight grows (inr put) = grows put.1

utf8_weight : (old new : PoolValue) (text : List ℕ) (place : ℕ) → HasUtf8 old text new place → pool_weight new ≤ pool_weight old + (4 + length text)
utf8_weight old new text place =
    adds_weight utf8_of text old (IsPutAs old (entry.Utf8 text)) new place (4 + length text) (λ put. (let one = put_weight old new (entry.Utf8 text) place put in omega (arith, one)))

naming_weight : (old new : PoolValue) (text : List ℕ) (naming : ℕ → Entry) (place : ℕ) → ((at : ℕ) → entry_weight (naming at) ≡ 9) → PutsNaming old text naming new place
    → pool_weight new ≤ pool_weight old + (14 + length text)
naming_weight old new text naming place nine put =
    let first = utf8_weight old put.0 text put.1 put.2 in
    let last = put_weight put.0 new (naming put.1) place put.3 in
    let size = nine put.1 in
    omega (arith, first, last, size)

class_weight : (old new : PoolValue) (name : List ℕ) (place : ℕ) → HasClass old name new place → pool_weight new ≤ pool_weight old + (14 + length name)
class_weight old new name place =
    adds_weight class_name_of name old (PutsNaming old name entry.Class) new place (14 + length name) (naming_weight old new name entry.Class place (λ at. refl))

abbrev texts_of : Signature → ℕ
texts_of s = length s.name + length s.desc

signature_weight : (old new : PoolValue) (s : Signature) (place : ℕ) → HasSignature old s new place → pool_weight new ≤ pool_weight old + (18 + texts_of s)
signature_weight old new s place = adds_weight signature_of s old (PutsSignature old s) new place (18 + texts_of s) by
  where
    by : PutsSignature old s new place → pool_weight new ≤ pool_weight old + (18 + texts_of s)
    by put =
        let first = utf8_weight old put.0 s.name put.1 put.2 in
        let second = utf8_weight put.0 put.3 s.desc put.4 put.5 in
        let last = put_weight put.3 new (entry.NameAndType put.1 put.4) place put.6 in
        omega (arith, first, second, last)

member_entry_weight : (tag a b : ℕ) → entry_weight (entry_of_member tag a b) ≤ 9
member_entry_weight tag a b = by (tag == 9) (tag == 10)
  where
    by : (field method : Bool) → entry_weight (if field then entry.Fieldref a b else if method then entry.Methodref a b else entry.InterfaceMethodref a b) ≤ 9
    by true method = omega arith
    by false true = omega arith
    by false false = omega arith

abbrev member_texts : Member → ℕ
member_texts m = length m.class + (length m.name + length m.desc)

member_weight : (old new : PoolValue) (m : Member) (place : ℕ) → HasMember old m new place → pool_weight new ≤ pool_weight old + (42 + member_texts m)
member_weight old new m place = adds_weight member_of m old (PutsMember old m) new place (42 + member_texts m) by
  where
    by : PutsMember old m new place → pool_weight new ≤ pool_weight old + (42 + member_texts m)
    by put =
        let first = class_weight old put.0 m.class put.1 put.2 in
        let second = signature_weight put.0 put.3 (signature m) put.4 put.5 in
        let last = put_weight put.3 new (entry_of_member m.tag put.1 put.4) place put.6 in
        let size = member_entry_weight m.tag put.1 put.4 in
        omega (arith, first, second, last, size)

-- ---- what is taken

abbrev pub need_weight : Content → ℕ
need_weight (text_entry text) = 4 + length text
need_weight (class_entry name) = 14 + length name
need_weight (string_entry text) = 14 + length text
need_weight (integer_entry value) = 10
need_weight (long_entry value) = 10
need_weight (signature_entry s) = 18 + texts_of s
need_weight (member_entry m) = 42 + member_texts m
need_weight (handle_entry h) = 52 + member_texts h.target
need_weight (computed_entry c) = 28 + texts_of c.signed

takes_weight : (old new : PoolValue) (c : Content) (place : ℕ) → Takes old c new place → pool_weight new ≤ pool_weight old + need_weight c
takes_weight old new (text_entry text) place takes = utf8_weight old new text place takes
takes_weight old new (class_entry name) place takes = class_weight old new name place takes
takes_weight old new (string_entry text) place takes =
    adds_weight string_of text old (PutsNaming old text entry.String) new place (14 + length text) (naming_weight old new text entry.String place (λ at. refl)) takes
takes_weight old new (integer_entry value) place takes = adds_weight integer_of value old (IsPutAs old (entry.Integer value)) new place 10 (put_weight old new (entry.Integer value) place) takes
takes_weight old new (long_entry value) place takes = adds_weight long_of value old (IsPutAs old (entry.Long value)) new place 10 (put_weight old new (entry.Long value) place) takes
takes_weight old new (signature_entry s) place takes = signature_weight old new s place takes
takes_weight old new (member_entry m) place takes = member_weight old new m place takes
takes_weight old new (handle_entry h) place takes = adds_weight handle_of h old (PutsHandle old h) new place (52 + member_texts h.target) by takes
  where
    by : PutsHandle old h new place → pool_weight new ≤ pool_weight old + (52 + member_texts h.target)
    by put =
        let first = member_weight old put.0 h.target put.1 put.2 in
        let last = put_weight put.0 new (entry.MethodHandle h.kind put.1) place put.3 in
        omega (arith, first, last)
takes_weight old new (computed_entry c) place takes = adds_weight computed_of c old (PutsComputed old c) new place (28 + texts_of c.signed) by takes
  where
    by : PutsComputed old c new place → pool_weight new ≤ pool_weight old + (28 + texts_of c.signed)
    by put =
        let first = signature_weight old put.0 c.signed put.1 put.2 in
        let last = put_weight put.0 new (entry.Dynamic c.bootstrap put.1) place put.3 in
        omega (arith, first, last)

pub each_weight : (needs : List Content) (old new : PoolValue) (at_places : List ℕ) → TakesEach old needs new at_places → pool_weight new ≤ pool_weight old + sum_by need_weight needs
each_weight [] old new at_places takes = let same = ap pool_weight takes.0 in omega (arith, same)
each_weight (need ∷ needs) old new at_places takes =
    let one = takes_weight old takes.0 need takes.1 takes.4 in
    let rest = each_weight needs takes.0 new takes.2 takes.5 in
    let whole = sum_by-cons need_weight need needs in
    omega (arith, one, rest, whole)

-- ---- one class, however often it is asked for

module _ (name : List ℕ) where
  abbrev AreIt : List (List ℕ) → Type 0
  AreIt names = AllByRecursion (λ (n : List ℕ). n ≡ name) names

  class_stays : (names : List (List ℕ)) → AreIt names → (old new : PoolValue) (at_places : List ℕ) (at : ℕ) → class_name_of old at ≡ Some name
      → TakesEach old (map class_entry names) new at_places → new ≡ old
  class_stays [] are old new at_places at there takes = takes.0
  class_stays (n ∷ names) are old new at_places at there takes = by takes.4 (λ there. class_stays names are.1 takes.0 new takes.2 at there takes.5)
    where
      by : HasClass old n takes.0 takes.1 → (class_name_of takes.0 at ≡ Some name → new ≡ takes.0) → new ≡ old
      by (inl has) rest = rest (ap (λ (l : PoolValue). class_name_of l at) has.1 ∙ there) ∙ has.1
      by (inr put) rest = absurd (put.0 at (there ∙ ap Some (sym are.0)))

  pub once_weight : (names : List (List ℕ)) → AreIt names → (old new : PoolValue) (at_places : List ℕ) → TakesEach old (map class_entry names) new at_places
      → pool_weight new ≤ pool_weight old + (14 + length name)
  once_weight [] are old new at_places takes = let same = ap pool_weight takes.0 in omega (arith, same)
  once_weight (n ∷ names) are old new at_places takes =
      let one = class_weight old takes.0 n takes.1 takes.4 in
      let there = naming_there naming.Class old takes.0 n takes.1 takes.4 ∙ ap Some are.0 in
      let same = ap pool_weight (class_stays names are.1 takes.0 new takes.2 takes.1 there takes.5) in
      let size = ap (λ (l : List ℕ). length l) are.0 in
      omega (arith, one, same, size)
