-- A pool that takes contents grows by what is missing of them.
use Rattle.std.proofs.Common.{◌≡◌, inl, inr, ⊎_elim, ℕ, ℤ, ◌<◌, ◌≤◌, List, [], ◌∷◌, ◌++◌, length, Some, None, refl, sym, ◌∙◌, ap, subst, arith}
use Rattle.std.proofs.Math.Seq.{get_or-append_seam}
use Rattle.std.proofs.lemmas.Bool.{cases_lt}
use Rattle.std.proofs.lemmas.List.Elements.{Contains-append_left, Contains-append_right}
use Rattle.std.proofs.lemmas.Option.{none-some, same_Some}
use Rattle.std.specs.Bool.{⊤}
use Rattle.std.specs.List.{flat_map, AllByRecursion}
use Rattle.std.specs.Prelude.{Contains}
use Rattle.jc_bytes.proofs.BooleanLaws.{first_in, which_in, none_in}
use Rattle.jc_pool.specs.Adding.{IsNowhere, IsPut, Extends, HasUtf8, HasClass, HasString, HasInteger, HasLong, HasSignature, HasMember, HasHandle, HasComputed, IsMemberTag, entry_of_member}
use Rattle.jc_pool.specs.Lookup.{entry_of, integer_of, long_of, Signature, signature, Member, Handle, Computed}
use Rattle.jc_pool.specs.Pool.{PoolValue}
use Rattle.jc_pool.specs.declared.entry.Entry.{Entry}
use Rattle.jc_pool.specs.declared.entry.Entry.TheVariants as entry
use Rattle.jc_pool.specs.declared.index.Naming.TheVariants as naming
use Rattle.jc_pool.proofs.AddedLaws.{AreOne, one_alone, one_utf8, one_naming}
use Rattle.jc_pool.proofs.AddedLinkedLaws.{one_handle, one_computed}
use Rattle.jc_pool.proofs.AddedMemberLaws.{one_signature, one_member}
use Rattle.jc_pool.proofs.AddingLaws.{same_extends, put_extends, extends_more}
use Rattle.jc_pool.proofs.OneMoreEntryLaws.{entry_stays, entry_past, one_more, by_slots}
use Rattle.jc_instrument.specs.Contents.{Content, text_entry, class_entry, string_entry, integer_entry, long_entry, signature_entry, member_entry, handle_entry, computed_entry, content_of, class_parts, signature_parts, member_parts, with_parts, Takes, TakesEach, IsOfClass}
use Rattle.jc_instrument.specs.GrownPool.{StandsForOne, IsGrown}
use Rattle.jc_instrument.proofs.ContentLaws.{has_entry, content_kept, content_there, content_nowhere}

-- the pool grew by entries that stand for these, which weren't there, each once
pub record Grown (old new : PoolValue) (parts : List Content) : Type 0 where
  pub extends : Extends old new
  pub only : (place : ℕ) (e : Entry) → length old ≤ place → entry_of new place ≡ Some e → StandsForOne new parts place
  pub absent : (place : ℕ) (c : Content) → length old ≤ place → content_of new place ≡ Some c → IsNowhere (content_of old) c
  pub once : (place other : ℕ) (c : Content) → length old ≤ place → length old ≤ other
      → content_of new place ≡ Some c → content_of new other ≡ Some c → place ≡ other

-- ---- places

nothing_past : (pool : PoolValue) (place : ℕ) (e : Entry) → length pool ≤ place → entry_of pool place ≡ Some e → ⊥
nothing_past pool place e behind there = none-some e (sym (entry_past pool place behind) ∙ there)

no_content_past : (pool : PoolValue) (place : ℕ) (c : Content) → length pool ≤ place → content_of pool place ≡ Some c → ⊥
no_content_past pool place c behind is = let e = has_entry pool place c is in nothing_past pool place e.0 behind e.1

pub entry_before : (old new : PoolValue) (place : ℕ) → Extends old new → place < length old → entry_of new place ≡ entry_of old place
entry_before old new place more less = ap (λ (l : PoolValue). entry_of l place) more.1 ∙ entry_stays old more.0 place less

same_content : (pool : PoolValue) (place : ℕ) (c d : Content) → content_of pool place ≡ Some c → content_of pool place ≡ Some d → c ≡ d
same_content pool place c d p q = same_Some c d (sym p ∙ q)

-- an entry that is put stands at the first of its places, and none at the second
abbrev last_place : (pool : PoolValue) (e : Entry) (slots : PoolValue) → Type 0
last_place pool e slots = (place : ℕ) (f : Entry) → length pool ≤ place → entry_of slots place ≡ Some f → place ≡ length pool

pub put_last : (old new : PoolValue) (e : Entry) (place at : ℕ) (f : Entry) → IsPut old new e place → length old ≤ at → entry_of new at ≡ Some f → at ≡ place
put_last old new e place at f put behind there =
    by_slots (last_place old e) old e one more at f behind (ap (λ (l : PoolValue). entry_of l at) (sym put.grown) ∙ there) ∙ sym put.last
  where
    one : last_place old e (old ++ Some e ∷ [])
    one q g le is = elim (cases_lt (length old) q) [
      | inl beyond ↦ absurd (nothing_past (old ++ Some e ∷ []) q g (omega (arith, beyond, one_more old (Some e))) is)
      | inr no_more ↦ omega (arith, le, no_more)
    ]

    more : last_place old e (old ++ Some e ∷ []) → last_place old e ((old ++ Some e ∷ []) ++ None ∷ [])
    more first q g le is =
        let l : PoolValue = old ++ Some e ∷ [] in
        elim (cases_lt q (length l)) [
          | inl inside ↦ first q g le (sym (entry_stays l (None ∷ []) q inside) ∙ is)
          | inr outside ↦ elim (cases_lt (length l) q) [
            | inl beyond ↦ absurd (nothing_past (l ++ None ∷ []) q g (omega (arith, beyond, one_more l None)) is)
            | inr no_more ↦
                let here : q ≡ length l = omega (arith, outside, no_more) in
                absurd (none-some g (sym (ap (entry_of (l ++ None ∷ [])) here ∙ get_or-append_seam l None [] None) ∙ is))
          ]
        ]

-- ---- growing

grown_none : (pool : PoolValue) (parts : List Content) → Grown pool pool parts
grown_none pool parts = record {
  extends = same_extends pool pool refl;
  only = λ place e behind there. absurd (nothing_past pool place e behind there);
  absent = λ place c behind is. absurd (no_content_past pool place c behind is);
  once = λ place other c behind past p q. absurd (no_content_past pool place c behind p);
}

grown_same : (old new : PoolValue) (parts : List Content) → new ≡ old → Grown old new parts
grown_same old new parts same = subst (λ (l : PoolValue). Grown old l parts) (sym same) (grown_none old parts)

-- what stands at one of the new places stood there before more was put
module _ (old mid new : PoolValue) (parts : List Content) (g : Grown old mid parts) (more : Extends mid new) where
  pub record Stood (place : ℕ) (c : Content) : Type 0 where
    pub is : content_of mid place ≡ Some c
    pub listed : Contains parts c

  stood : (place : ℕ) (c : Content) → length old ≤ place → place < length mid → content_of new place ≡ Some c → Stood place c
  stood place c behind inside is =
      let e = has_entry new place c is in
      let s = g.only place e.0 behind (sym (entry_before mid new place more inside) ∙ e.1) in
      let same = same_content new place s.content c (content_kept mid new place s.content more s.is) is in
      record { is = s.is ∙ ap Some same; listed = subst (Contains parts) same s.listed }

  still : (place : ℕ) (e : Entry) (others : List Content) → length old ≤ place → place < length mid → entry_of new place ≡ Some e → StandsForOne new (parts ++ others) place
  still place e others behind inside there =
      let s = g.only place e behind (sym (entry_before mid new place more inside) ∙ there) in
      record {
        content = s.content;
        listed = Contains-append_left parts others s.content s.listed;
        is = content_kept mid new place s.content more s.is;
      }

-- one entry more
module _ (old mid new : PoolValue) (parts : List Content) (e : Entry) (place : ℕ) (what : Content)
    (g : Grown old mid parts) (put : IsPut mid new e place) (there : content_of new place ≡ Some what)
    (none : IsNowhere (content_of old) what) (other : Contains parts what → ⊥) where
  more : Extends mid new
  more = put_extends mid new e place put

  is_last : (at : ℕ) (c : Content) → length mid ≤ at → content_of new at ≡ Some c → (at ≡ place) × (c ≡ what)
  is_last at c behind is =
      let f = has_entry new at c is in
      let here = put_last mid new e place at f.0 put behind f.1 in
      (here, same_content new place c what (ap (content_of new) (sym here) ∙ is) there)

  put_once : (p q : ℕ) (c : Content) → length old ≤ p → length old ≤ q → content_of new p ≡ Some c → content_of new q ≡ Some c → p ≡ q
  put_once p q c low high a b = elim (cases_lt p (length mid)) [
    | inl before ↦ elim (cases_lt q (length mid)) [
      | inl inside ↦ g.once p q c low high (stood old mid new parts g more p c low before a).is (stood old mid new parts g more q c high inside b).is
      | inr behind ↦ absurd (other (subst (Contains parts) (is_last q c behind b).1 (stood old mid new parts g more p c low before a).listed))
    ]
    | inr past ↦ elim (cases_lt q (length mid)) [
      | inl inside ↦ absurd (other (subst (Contains parts) (is_last p c past a).1 (stood old mid new parts g more q c high inside b).listed))
      | inr behind ↦ (is_last p c past a).0 ∙ sym (is_last q c behind b).0
    ]
  ]

  grown_put : Grown old new (parts ++ what ∷ [])
  grown_put = record {
    extends = extends_more old mid new g.extends more;
    only = λ at f low is. elim (cases_lt at (length mid)) [
      | inl before ↦ still old mid new parts g more at f (what ∷ []) low before is
      | inr behind ↦ record {
        content = what;
        listed = Contains-append_right parts (what ∷ []) what (first_in what []);
        is = ap (content_of new) (put_last mid new e place at f put behind is) ∙ there;
      }
    ];
    absent = λ at c low is. elim (cases_lt at (length mid)) [
      | inl before ↦ g.absent at c low (stood old mid new parts g more at c low before is).is
      | inr behind ↦ subst (IsNowhere (content_of old)) (sym (is_last at c behind is).1) none
    ];
    once = put_once;
  }

-- one growth after the other
pub longer : (old mid : PoolValue) → Extends old mid → length old ≤ length mid
longer old mid more = subst (λ (l : PoolValue). length old ≤ length l) (sym more.1) (grows old more.0)
  where
    grows : (l rest : PoolValue) → length l ≤ length (l ++ rest)
    grows [] rest = omega arith
    grows (x ∷ l) rest = let le = grows l rest in omega (arith, le)

grown_on : (old mid new : PoolValue) (parts others : List Content) → Grown old mid parts → Grown mid new others → Grown old new (parts ++ others)
grown_on old mid new parts others g h = record {
  extends = extends_more old mid new g.extends h.extends;
  only = λ at f low is. elim (cases_lt at (length mid)) [
    | inl before ↦ still old mid new parts g h.extends at f others low before is
    | inr behind ↦
        let s = h.only at f behind is in
        record { content = s.content; listed = Contains-append_right parts others s.content s.listed; is = s.is }
  ];
  absent = λ at c low is. elim (cases_lt at (length mid)) [
    | inl before ↦ g.absent at c low (stood old mid new parts g h.extends at c low before is).is
    | inr behind ↦ λ p there. h.absent at c behind is p (content_kept old mid p c g.extends there)
  ];
  once = λ p q c low high a b. elim (cases_lt p (length mid)) [
    | inl before ↦ elim (cases_lt q (length mid)) [
      | inl inside ↦ g.once p q c low high (stood old mid new parts g h.extends p c low before a).is (stood old mid new parts g h.extends q c high inside b).is
      | inr behind ↦ absurd (h.absent q c behind b p (stood old mid new parts g h.extends p c low before a).is)
    ]
    | inr past ↦ elim (cases_lt q (length mid)) [
      | inl inside ↦ absurd (h.absent p c past a q (stood old mid new parts g h.extends q c high inside b).is)
      | inr behind ↦ h.once p q c past behind a b
    ]
  ];
}

-- ---- one content

-- the content is none of the list
abbrev Differ : Content → List Content → Type 0
Differ what parts = AllByRecursion (λ c. c ≡ what → ⊥) parts

none_listed : (what : Content) (parts : List Content) → Differ what parts → Contains parts what → ⊥
none_listed what [] differ c = none_in what c
none_listed what (p ∷ parts) differ c = ⊎_elim (λ here. differ.0 here) (λ later. none_listed what parts differ.1 later) (which_in p parts what c)

text_grown : (old new : PoolValue) (text : List ℕ) (place : ℕ) → HasUtf8 old text new place → Grown old new (text_entry text ∷ [])
text_grown old new text place (inl there) = grown_same old new (text_entry text ∷ []) there.1
text_grown old new text place (inr put) =
    grown_put old old new [] (entry.Utf8 text) place (text_entry text) (grown_none old []) put.1
    (content_there old new place (text_entry text) tt (inr put)) (content_nowhere old (text_entry text) put.0) (none_in (text_entry text))

class_grown : (old new : PoolValue) (name : List ℕ) (place : ℕ) → HasClass old name new place → Grown old new (class_parts name)
class_grown old new name place (inl there) = grown_same old new (class_parts name) there.1
class_grown old new name place (inr put) =
    let p = put.1 in
    grown_put old p.0 new (text_entry name ∷ []) (entry.Class p.1) place (class_entry name) (text_grown old p.0 name p.1 p.2) p.3
    (content_there old new place (class_entry name) tt (inr put)) (content_nowhere old (class_entry name) put.0)
    (none_listed (class_entry name) (text_entry name ∷ []) ((λ e. cc), tt))

string_grown : (old new : PoolValue) (text : List ℕ) (place : ℕ) → HasString old text new place → Grown old new (text_entry text ∷ string_entry text ∷ [])
string_grown old new text place (inl there) = grown_same old new (text_entry text ∷ string_entry text ∷ []) there.1
string_grown old new text place (inr put) =
    let p = put.1 in
    grown_put old p.0 new (text_entry text ∷ []) (entry.String p.1) place (string_entry text) (text_grown old p.0 text p.1 p.2) p.3
    (content_there old new place (string_entry text) tt (inr put)) (content_nowhere old (string_entry text) put.0)
    (none_listed (string_entry text) (text_entry text ∷ []) ((λ e. cc), tt))

integer_grown : (old new : PoolValue) (value : ℤ) (place : ℕ) → HasInteger old value new place → Grown old new (integer_entry value ∷ [])
integer_grown old new value place (inl there) = grown_same old new (integer_entry value ∷ []) there.1
integer_grown old new value place (inr put) =
    grown_put old old new [] (entry.Integer value) place (integer_entry value) (grown_none old []) put.1
    (content_there old new place (integer_entry value) tt (inr put)) (content_nowhere old (integer_entry value) put.0) (none_in (integer_entry value))

long_grown : (old new : PoolValue) (value : ℤ) (place : ℕ) → HasLong old value new place → Grown old new (long_entry value ∷ [])
long_grown old new value place (inl there) = grown_same old new (long_entry value ∷ []) there.1
long_grown old new value place (inr put) =
    grown_put old old new [] (entry.Long value) place (long_entry value) (grown_none old []) put.1
    (content_there old new place (long_entry value) tt (inr put)) (content_nowhere old (long_entry value) put.0) (none_in (long_entry value))

signature_grown : (old new : PoolValue) (s : Signature) (place : ℕ) → HasSignature old s new place → Grown old new (signature_parts s)
signature_grown old new s place (inl there) = grown_same old new (signature_parts s) there.1
signature_grown old new s place (inr put) =
    let p = put.1 in
    let texts = text_entry s.name ∷ text_entry s.desc ∷ [] in
    let both = grown_on old p.0 p.3 (text_entry s.name ∷ []) (text_entry s.desc ∷ []) (text_grown old p.0 s.name p.1 p.2) (text_grown p.0 p.3 s.desc p.4 p.5) in
    grown_put old p.3 new texts (entry.NameAndType p.1 p.4) place (signature_entry s) both p.6
    (content_there old new place (signature_entry s) tt (inr put)) (content_nowhere old (signature_entry s) put.0)
    (none_listed (signature_entry s) texts ((λ e. cc), ((λ e. cc), tt)))

member_grown : (old new : PoolValue) (m : Member) (place : ℕ) → IsMemberTag m.tag → HasMember old m new place → Grown old new (with_parts (member_entry m))
member_grown old new m place is (inl there) = grown_same old new (with_parts (member_entry m)) there.1
member_grown old new m place is (inr put) =
    let p = put.1 in
    let s = signature m in
    let parts = class_parts m.class ++ signature_parts s in
    let both = grown_on old p.0 p.3 (class_parts m.class) (signature_parts s) (class_grown old p.0 m.class p.1 p.2) (signature_grown p.0 p.3 s p.4 p.5) in
    grown_put old p.3 new parts (entry_of_member m.tag p.1 p.4) place (member_entry m) both p.6
    (content_there old new place (member_entry m) is (inr put)) (content_nowhere old (member_entry m) put.0)
    (none_listed (member_entry m) parts ((λ e. cc), ((λ e. cc), ((λ e. cc), ((λ e. cc), ((λ e. cc), tt))))))

handle_grown : (old new : PoolValue) (h : Handle) (place : ℕ) → IsMemberTag h.target.tag → HasHandle old h new place → Grown old new (with_parts (handle_entry h))
handle_grown old new h place is (inl there) = grown_same old new (with_parts (handle_entry h)) there.1
handle_grown old new h place is (inr put) =
    let p = put.1 in
    grown_put old p.0 new (member_parts h.target) (entry.MethodHandle h.kind p.1) place (handle_entry h) (member_grown old p.0 h.target p.1 is p.2) p.3
    (content_there old new place (handle_entry h) is (inr put)) (content_nowhere old (handle_entry h) put.0)
    (none_listed (handle_entry h) (member_parts h.target) ((λ e. cc), ((λ e. cc), ((λ e. cc), ((λ e. cc), ((λ e. cc), ((λ e. cc), tt)))))))

computed_grown : (old new : PoolValue) (c : Computed) (place : ℕ) → HasComputed old c new place → Grown old new (with_parts (computed_entry c))
computed_grown old new c place (inl there) = grown_same old new (with_parts (computed_entry c)) there.1
computed_grown old new c place (inr put) =
    let p = put.1 in
    grown_put old p.0 new (signature_parts c.signed) (entry.Dynamic c.bootstrap p.1) place (computed_entry c) (signature_grown old p.0 c.signed p.1 p.2) p.3
    (content_there old new place (computed_entry c) tt (inr put)) (content_nowhere old (computed_entry c) put.0)
    (none_listed (computed_entry c) (signature_parts c.signed) ((λ e. cc), ((λ e. cc), ((λ e. cc), tt))))

takes_grown : (old new : PoolValue) (c : Content) (place : ℕ) → IsOfClass c → Takes old c new place → Grown old new (with_parts c)
takes_grown old new (text_entry text) place of takes = text_grown old new text place takes
takes_grown old new (class_entry name) place of takes = class_grown old new name place takes
takes_grown old new (string_entry text) place of takes = string_grown old new text place takes
takes_grown old new (integer_entry value) place of takes = integer_grown old new value place takes
takes_grown old new (long_entry value) place of takes = long_grown old new value place takes
takes_grown old new (signature_entry s) place of takes = signature_grown old new s place takes
takes_grown old new (member_entry m) place of takes = member_grown old new m place of takes
takes_grown old new (handle_entry h) place of takes = handle_grown old new h place of takes
takes_grown old new (computed_entry c) place of takes = computed_grown old new c place takes

-- ---- each content

-- each content stands at its place
abbrev pub StandAt : PoolValue → List Content → List ℕ → Type 0
StandAt pool [] places = ⊤
StandAt pool (need ∷ needs) [] = ⊥
StandAt pool (need ∷ needs) (place ∷ places) = (content_of pool place ≡ Some need) × StandAt pool needs places

pub each_grown : (needs : List Content) (old new : PoolValue) (places : List ℕ) → AllByRecursion IsOfClass needs → TakesEach old needs new places → Grown old new (flat_map with_parts needs)
each_grown [] old new places of takes = grown_same old new [] takes.0
each_grown (need ∷ needs) old new places of takes =
    grown_on old takes.0 new (with_parts need) (flat_map with_parts needs) (takes_grown old takes.0 need takes.1 of.0 takes.4)
    (each_grown needs takes.0 new takes.2 of.1 takes.5)

pub stand_at : (needs : List Content) (old new : PoolValue) (places : List ℕ) → AllByRecursion IsOfClass needs → TakesEach old needs new places → StandAt new needs places
stand_at [] old new places of takes = tt
stand_at (need ∷ needs) old new places of takes =
    subst (StandAt new (need ∷ needs)) (sym takes.3) (
      content_kept takes.0 new takes.1 need (each_grown needs takes.0 new takes.2 of.1 takes.5).extends (content_there old takes.0 takes.1 need of.0 takes.4),
      stand_at needs takes.0 new takes.2 of.1 takes.5,
    )

stands : (pool : PoolValue) (needs : List Content) (places : List ℕ) → StandAt pool needs places → (need : Content) → Contains needs need → (place : ℕ) × (content_of pool place ≡ Some need)
stands pool [] places at need listed = absurd (none_in need listed)
stands pool (n ∷ needs) [] at need listed = absurd at
stands pool (n ∷ needs) (p ∷ places) at need listed =
    ⊎_elim (λ here. (p, at.0 ∙ ap Some here)) (λ later. stands pool needs places at.1 need later) (which_in n needs need listed)

pub pool_grown : (needs : List Content) (old new : PoolValue) (places : List ℕ) → AllByRecursion IsOfClass needs → TakesEach old needs new places → IsGrown old new needs
pool_grown needs old new places of takes =
    let g = each_grown needs old new places of takes in
    record {
      extends = g.extends;
      there = stands new needs places (stand_at needs old new places of takes);
      only = g.only;
      absent = g.absent;
      once = g.once;
    }

-- ---- there is one such pool

one_takes : (old new other : PoolValue) (c : Content) (place at : ℕ) → Takes old c new place → Takes old c other at → AreOne new other place at
one_takes old new other (text_entry text) place at p q = one_utf8 old new other text place at p q
one_takes old new other (class_entry name) place at p q = one_naming naming.Class old new other name place at p q
one_takes old new other (string_entry text) place at p q = one_naming naming.String old new other text place at p q
one_takes old new other (integer_entry value) place at p q = one_alone integer_of value old (entry.Integer value) new other place at p q
one_takes old new other (long_entry value) place at p q = one_alone long_of value old (entry.Long value) new other place at p q
one_takes old new other (signature_entry s) place at p q = one_signature old s new other place at p q
one_takes old new other (member_entry m) place at p q = one_member old new other m place at p q
one_takes old new other (handle_entry h) place at p q = one_handle old new other h place at p q
one_takes old new other (computed_entry c) place at p q = one_computed old new other c place at p q

pub one_taking : (needs : List Content) (old new other : PoolValue) (places others : List ℕ) → TakesEach old needs new places → TakesEach old needs other others
    → (new ≡ other) × (places ≡ others)
one_taking [] old new other places others p q = (p.0 ∙ sym q.0, p.1 ∙ sym q.1)
one_taking (need ∷ needs) old new other places others p q =
    let one = one_takes old p.0 q.0 need p.1 q.1 p.4 q.4 in
    let rest = one_taking needs q.0 new other p.2 q.2 (subst (λ (l : PoolValue). TakesEach l needs new p.2) one.pool p.5) q.5 in
    (rest.0, p.3 ∙ (λ i. one.place_is i ∷ rest.1 i) ∙ sym q.3)
