-- What stands in a pool to which fields and methods were added.
use Rattle.std.proofs.Common.{◌≡◌, ◌⊎◌, inl, inr, ℕ, ◌<◌, ◌≤◌, ◌==◌, Bool, ◌&&◌, List, [], length, Option, Some, None, Decides, refl, sym, ◌∙◌, ap, subst, arith}
use Rattle.std.proofs.lemmas.Bool.Decides.{Decides-eqb}
use Rattle.std.proofs.lemmas.Bool.{cases_Bool, cases_lt}
use Rattle.std.proofs.lemmas.Option.{none-some}
use Rattle.std.proofs.lemmas.Slice.Eq.{bytes_eq-Decides}
use Rattle.std.specs.Str.{bytes_eq}
use Rattle.jc_bytes.specs.Decoder.{◌>>=◌}
use Rattle.jc_pool.specs.declared.entry.Entry.{Entry}
use Rattle.jc_pool.specs.declared.entry.Entry.TheVariants as entry
use Rattle.jc_pool.specs.declared.index.Naming.TheVariants as naming
use Rattle.jc_pool.specs.Pool.{PoolValue}
use Rattle.jc_pool.specs.Lookup.{entry_of, class_name_of, Signature, signature_of, Member, signature, ref_of, dynamic_of, ref_in, reference_of, member_in, member_of}
use Rattle.jc_pool.specs.Adding.{HasUtf8, HasClass, PutsSignature, HasSignature, PutsMember, HasMember, IsMemberTag, entry_of_member, Extends}
use Rattle.jc_pool.specs.Index.{NamesWithin}
use Rattle.jc_pool.proofs.FirstPlaceMapLaws.{and_decided}
use Rattle.jc_pool.proofs.OneMoreEntryLaws.{past}
use Rattle.jc_pool.proofs.KeyPlaceLaws.{has_signature, is_signed, signature_past}
use Rattle.jc_pool.proofs.AddingLaws.{put_extends, utf8_extends, extends_more, signature_extends}
use Rattle.jc_pool.proofs.AddedLaws.{class_within, entry_kept, utf8_kept, naming_kept, put_stands, added_there, utf8_there, naming_there, AreOne, one_put, one_added, one_utf8, one_naming, end_put, some_added, some_utf8, some_naming}

-- ---- what stood there

pub signature_kept : (old new : PoolValue) (s : Signature) (place : ℕ) → Extends old new → signature_of old place ≡ Some s → signature_of new place ≡ Some s
signature_kept old new s place more at =
    let p = has_signature old place s at in
    is_signed new place p.0 p.1 s (entry_kept old new (entry.NameAndType p.0 p.1) place more p.2) (utf8_kept old new s.name p.0 more p.3) (utf8_kept old new s.desc p.1 more p.4)

abbrev pub member_by : ℕ → List ℕ → Signature → Option Member
member_by tag class s = Some (record { tag = tag; class = class; name = s.name; desc = s.desc })

-- the member of a class, where the class has a name, and a name and a descriptor stand there
abbrev pub ref_by : ℕ → Option (List ℕ) → Option Signature → Option Member
ref_by tag class signed = class >>= λ name. signed >>= λ s. member_by tag name s

module _ (old new : PoolValue) (more : Extends old new) (m : Member) where
  ref_kept : (tag class sig : ℕ) → ref_of old tag class sig ≡ Some m → ref_of new tag class sig ≡ Some m
  unfolding ref_of
  ref_kept tag class sig is = by (class_name_of old class) (signature_of old sig) refl refl is
    where
      by : (r : Option (List ℕ)) (q : Option Signature) → class_name_of old class ≡ r → signature_of old sig ≡ q → ref_by tag r q ≡ Some m
          → ref_by tag (class_name_of new class) (signature_of new sig) ≡ Some m
      by None q named signed is = absurd (none-some m is)
      by (Some name) None named signed is = absurd (none-some m is)
      by (Some name) (Some s) named signed is =
          (λ i. naming_kept naming.Class old new name class more named i >>= λ name. signature_kept old new s sig more signed i >>= λ s.
          member_by tag name s) ∙ is

  dynamic_kept : (tag sig : ℕ) → dynamic_of old tag sig ≡ Some m → dynamic_of new tag sig ≡ Some m
  unfolding dynamic_of
  dynamic_kept tag sig is = by (signature_of old sig) refl is
    where
      by : (q : Option Signature) → signature_of old sig ≡ q → (q >>= λ s. member_by tag [] s) ≡ Some m
          → (signature_of new sig >>= λ s. member_by tag [] s) ≡ Some m
      by None signed is = absurd (none-some m is)
      by (Some s) signed is = (λ i. signature_kept old new s sig more signed i >>= λ s. member_by tag [] s) ∙ is

  ref_in_kept : (e : Entry) → ref_in old e ≡ Some m → ref_in new e ≡ Some m
  ref_in_kept (entry.Fieldref class sig) is = ref_kept 9 class sig is
  ref_in_kept (entry.Methodref class sig) is = ref_kept 10 class sig is
  ref_in_kept (entry.InterfaceMethodref class sig) is = ref_kept 11 class sig is
  ref_in_kept e is = absurd (none-some m is)

  ref_there_kept : (e : Option Entry) (place : ℕ) → entry_of old place ≡ e → (e >>= ref_in old) ≡ Some m → (entry_of new place >>= ref_in new) ≡ Some m
  ref_there_kept None place at is = absurd (none-some m is)
  ref_there_kept (Some e) place at is = ap (λ (s : Option Entry). s >>= ref_in new) (entry_kept old new e place more at) ∙ ref_in_kept e is

  member_in_kept : (e : Entry) → member_in old e ≡ Some m → member_in new e ≡ Some m
  member_in_kept (entry.Fieldref class sig) is = ref_kept 9 class sig is
  member_in_kept (entry.Methodref class sig) is = ref_kept 10 class sig is
  member_in_kept (entry.InterfaceMethodref class sig) is = ref_kept 11 class sig is
  member_in_kept (entry.Dynamic bootstrap sig) is = dynamic_kept 17 sig is
  member_in_kept (entry.InvokeDynamic bootstrap sig) is = dynamic_kept 18 sig is
  member_in_kept e is = absurd (none-some m is)

  member_there_kept : (e : Option Entry) (place : ℕ) → entry_of old place ≡ e → (e >>= member_in old) ≡ Some m → (entry_of new place >>= member_in new) ≡ Some m
  member_there_kept None place at is = absurd (none-some m is)
  member_there_kept (Some e) place at is = ap (λ (s : Option Entry). s >>= member_in new) (entry_kept old new e place more at) ∙ member_in_kept e is

pub reference_kept : (old new : PoolValue) (m : Member) (place : ℕ) → Extends old new → reference_of old place ≡ Some m → reference_of new place ≡ Some m
unfolding reference_of
reference_kept old new m place more is = ref_there_kept old new more m (entry_of old place) place refl is

pub member_kept : (old new : PoolValue) (m : Member) (place : ℕ) → Extends old new → member_of old place ≡ Some m → member_of new place ≡ Some m
unfolding member_of
member_kept old new m place more is = member_there_kept old new more m (entry_of old place) place refl is

pub member_past : (pool : PoolValue) (place : ℕ) → length pool ≤ place → member_of pool place ≡ None
unfolding member_of
member_past pool place behind = past (member_in pool) pool place behind

-- ---- what was added

signature_put_there : (old : PoolValue) (s : Signature) (new : PoolValue) (place : ℕ) → PutsSignature old s new place → signature_of new place ≡ Some s
signature_put_there old s new place put =
    let last = put_extends put.3 new (entry.NameAndType put.1 put.4) place put.6 in
    let described = utf8_extends put.0 put.3 s.desc put.4 put.5 in
    is_signed new place put.1 put.4 s (put_stands put.3 new (entry.NameAndType put.1 put.4) place put.6)
    (utf8_kept put.0 new s.name put.1 (extends_more put.0 put.3 new described last) (utf8_there old put.0 s.name put.1 put.2))
    (utf8_kept put.3 new s.desc put.4 last (utf8_there put.0 put.3 s.desc put.4 put.5))

pub signature_there : (old : PoolValue) (s : Signature) (new : PoolValue) (place : ℕ) → HasSignature old s new place → signature_of new place ≡ Some s
signature_there old s new place has = added_there signature_of s old (PutsSignature old s) new place (signature_put_there old s new place) has

pub ref_read : (pool : PoolValue) (m : Member) (tag class sig : ℕ) → tag ≡ m.tag → class_name_of pool class ≡ Some m.class
    → signature_of pool sig ≡ Some (signature m) → ref_of pool tag class sig ≡ Some m
unfolding ref_of
ref_read pool m tag class sig tagged named signed = (λ i. named i >>= λ name. signed i >>= λ s. member_by (tagged i) name s)

member_tags : (tag : ℕ) → IsMemberTag tag → (tag ≡ 9) ⊎ ((tag ≡ 10) ⊎ (tag ≡ 11))
member_tags tag is = elim (cases_lt tag 10) [
  | inl nine ↦ inl (omega (arith, is.0, nine))
  | inr more ↦ elim (cases_lt tag 11) [ inl ten ↦ inr (inl (omega (arith, more, ten))) | inr eleven ↦ inr (inr (omega (arith, is.1, eleven))) ]
]

entry_read : (pool : PoolValue) (m : Member) (tag class sig : ℕ) → tag ≡ m.tag → IsMemberTag tag → class_name_of pool class ≡ Some m.class → signature_of pool sig ≡ Some (signature m)
    → member_in pool (entry_of_member tag class sig) ≡ Some m
entry_read pool m tag class sig same is named signed = elim (member_tags tag is) [
  | inl field ↦ rw field (ref_read pool m 9 class sig (sym field ∙ same) named signed)
  | inr other ↦ elim other [
    | inl method ↦ rw method (ref_read pool m 10 class sig (sym method ∙ same) named signed)
    | inr interface ↦ rw interface (ref_read pool m 11 class sig (sym interface ∙ same) named signed)
  ]
]

member_put_there : (old : PoolValue) (m : Member) (new : PoolValue) (place : ℕ) → IsMemberTag m.tag → PutsMember old m new place → member_of new place ≡ Some m
unfolding member_of
member_put_there old m new place is put =
    let last = put_extends put.3 new (entry_of_member m.tag put.1 put.4) place put.6 in
    let signed = signature_extends put.0 put.3 (signature m) put.4 put.5 in
    ap (λ (s : Option Entry). s >>= member_in new) (put_stands put.3 new (entry_of_member m.tag put.1 put.4) place put.6)
    ∙ entry_read new m m.tag put.1 put.4 refl is
    (naming_kept naming.Class put.0 new m.class put.1 (extends_more put.0 put.3 new signed last) (naming_there naming.Class old put.0 m.class put.1 put.2))
    (signature_kept put.3 new (signature m) put.4 last (signature_there put.0 (signature m) put.3 put.4 put.5))

pub member_there : (old new : PoolValue) (m : Member) (place : ℕ) → IsMemberTag m.tag → HasMember old m new place → member_of new place ≡ Some m
member_there old new m place is has = added_there member_of m old (PutsMember old m) new place (member_put_there old m new place is) has

-- ---- what a member names is there

member_within : (tag class sig end : ℕ) → class < end → sig < end → NamesWithin end (Some (entry_of_member tag class sig))
member_within tag class sig end one other = elim (cases_Bool (tag == 9)) [
  | inl field ↦ rw field (one, other)
  | inr not_field ↦ elim (cases_Bool (tag == 10)) [ inl method ↦ rw (not_field, method) (one, other) | inr interface ↦ rw (not_field, interface) (one, other) ]
]

signature_within : (pool : PoolValue) (place : ℕ) (s : Signature) → signature_of pool place ≡ Some s → place < length pool
signature_within pool place s there = elim (cases_lt place (length pool)) [ inl less ↦ less | inr behind ↦ absurd (none-some s (sym (signature_past pool place behind) ∙ there)) ]

pub put_within : (old classed signed : PoolValue) (m : Member) (class sig : ℕ) (e : Entry) → e ≡ entry_of_member m.tag class sig → HasClass old m.class classed class
    → HasSignature classed (signature m) signed sig → NamesWithin (length signed) (Some e)
put_within old classed signed m class sig e is has_class has_sig =
    subst (λ (f : Entry). NamesWithin (length signed) (Some f)) (sym is)
    (member_within m.tag class sig (length signed)
    (class_within signed class m.class
    (naming_kept naming.Class classed signed m.class class (signature_extends classed signed (signature m) sig has_sig)
    (naming_there naming.Class old classed m.class class has_class)))
    (signature_within signed sig (signature m) (signature_there classed (signature m) signed sig has_sig)))

-- ---- there is one such pool

one_signature_put : (old : PoolValue) (s : Signature) (new other : PoolValue) (place at : ℕ) → PutsSignature old s new place → PutsSignature old s other at → AreOne new other place at
one_signature_put old s new other place at p q =
    let name = one_utf8 old p.0 q.0 s.name p.1 q.1 p.2 q.2 in
    let has : HasUtf8 q.0 s.desc p.3 p.4 = subst (λ (l : PoolValue). HasUtf8 l s.desc p.3 p.4) name.pool p.5 in
    let desc = one_utf8 q.0 p.3 q.3 s.desc p.4 q.4 has q.5 in
    one_put p.3 q.3 new other (entry.NameAndType p.1 p.4) (entry.NameAndType q.1 q.4) place at desc.pool (λ i. entry.NameAndType (name.place_is i) (desc.place_is i)) p.6 q.6

pub one_signature : (old : PoolValue) (s : Signature) (new other : PoolValue) (place at : ℕ) → HasSignature old s new place → HasSignature old s other at → AreOne new other place at
one_signature old s new other place at p q = one_added signature_of s old (PutsSignature old s) (one_signature_put old s) new other place at p q

one_member_put : (old : PoolValue) (m : Member) (new other : PoolValue) (place at : ℕ) → PutsMember old m new place → PutsMember old m other at → AreOne new other place at
one_member_put old m new other place at p q =
    let class = one_naming naming.Class old p.0 q.0 m.class p.1 q.1 p.2 q.2 in
    let has : HasSignature q.0 (signature m) p.3 p.4 = subst (λ (l : PoolValue). HasSignature l (signature m) p.3 p.4) class.pool p.5 in
    let sig = one_signature q.0 (signature m) p.3 q.3 p.4 q.4 has q.5 in
    one_put p.3 q.3 new other (entry_of_member m.tag p.1 p.4) (entry_of_member m.tag q.1 q.4) place at sig.pool (λ i. entry_of_member m.tag (class.place_is i) (sig.place_is i)) p.6 q.6

pub one_member : (old new other : PoolValue) (m : Member) (place at : ℕ) → HasMember old m new place → HasMember old m other at → AreOne new other place at
one_member old new other m place at p q = one_added member_of m old (PutsMember old m) (one_member_put old m) new other place at p q

-- ---- and there is always one

abbrev pub same_texts : Signature → Signature → Bool
same_texts a b = bytes_eq a.name b.name && bytes_eq a.desc b.desc

pub texts_decided : (a b : Signature) → Decides (same_texts a b) (a ≡ b)
texts_decided a b =
    let told = and_decided (bytes_eq a.name b.name) (bytes_eq a.desc b.desc) (a.name ≡ b.name) (a.desc ≡ b.desc) (bytes_eq-Decides a.name b.name) (bytes_eq-Decides a.desc b.desc) in (
      λ is. (let same = told.0 is in λ i. record { name = same.0 i; desc = same.1 i }),
      λ same. told.1 (ap (λ (s : Signature). s.name) same, ap (λ (s : Signature). s.desc) same),
    )

abbrev pub same_member : Member → Member → Bool
same_member a b = (a.tag == b.tag) && (bytes_eq a.class b.class && same_texts (signature a) (signature b))

pub member_decided : (a b : Member) → Decides (same_member a b) (a ≡ b)
member_decided a b =
    let texts = and_decided (bytes_eq a.class b.class) (same_texts (signature a) (signature b)) (a.class ≡ b.class) (signature a ≡ signature b)
    (bytes_eq-Decides a.class b.class) (texts_decided (signature a) (signature b)) in
    let told = and_decided (a.tag == b.tag) (bytes_eq a.class b.class && same_texts (signature a) (signature b)) (a.tag ≡ b.tag)
    ((a.class ≡ b.class) × (signature a ≡ signature b)) (Decides-eqb a.tag b.tag) texts in (
      λ is. (let same = told.0 is in λ i. record { tag = same.0 i; class = same.1.0 i; name = (same.1.1 i).name; desc = (same.1.1 i).desc }),
      λ same. told.1 (ap (λ (m : Member). m.tag) same, (ap (λ (m : Member). m.class) same, ap signature same)),
    )

pub some_signature : (old : PoolValue) (s : Signature) → (new : PoolValue) × (place : ℕ) × HasSignature old s new place
some_signature old s =
    let name = some_utf8 old s.name in
    let desc = some_utf8 name.0 s.desc in
    let put = end_put desc.0 (entry.NameAndType name.1 desc.1) in
    some_added same_texts texts_decided signature_of s old (PutsSignature old s) (signature_past old) (put.0, put.1, (name.0, name.1, name.2, desc.0, desc.1, desc.2, put.2))

pub some_member : (old : PoolValue) (m : Member) → (new : PoolValue) × (place : ℕ) × HasMember old m new place
some_member old m =
    let class = some_naming naming.Class old m.class in
    let sig = some_signature class.0 (signature m) in
    let put = end_put sig.0 (entry_of_member m.tag class.1 sig.1) in
    some_added same_member member_decided member_of m old (PutsMember old m) (member_past old) (put.0, put.1, (class.0, class.1, class.2, sig.0, sig.1, sig.2, put.2))
