-- A pool that takes contents has a text of bytes, where it has one and few places.
use Rattle.std.proofs.Common.{◌≡◌, ◌⊎◌, inl, inr, ℕ, ℤ, ◌<◌, ◌≤◌, ◌==◌, Bool, true, false, List, [], ◌∷◌, ◌++◌, length, Option, Some, None, refl, sym, ◌∙◌, ap, subst, arith, if◌then◌else◌}
use Rattle.std.specs.Int.{w32, w64}
use Rattle.std.specs.List.{AllByRecursion}
use Rattle.std.proofs.lemmas.Bool.{cases_lt}
use Rattle.std.proofs.lemmas.Option.{none-some}
use Rattle.jc_bytes.specs.ByteLists.{AreBytes}
use Rattle.jc_bytes.specs.Texts.{IsShortText}
use Rattle.jc_pool.specs.Adding.{IsPut, IsMemberTag, HasUtf8, HasInteger, HasLong, HasSignature, HasMember, HasHandle, HasComputed, entry_of_member}
use Rattle.jc_pool.specs.EntryFormat.{IsSigned, ArePlaces, IsInfo, tag_of}
use Rattle.jc_pool.specs.Index.{entry_naming, HasNaming}
use Rattle.jc_pool.specs.Lookup.{class_name_of, member_of, signature_of, Signature, signature, Member, Handle, Computed}
use Rattle.jc_pool.specs.Pool.{PoolValue, is_wide, IsSmall, IsPool, slots_of}
use Rattle.jc_pool.specs.PoolGrammar as pools
use Rattle.jc_pool.specs.Writing.{SpellsSlots}
use Rattle.jc_pool.specs.declared.entry.Entry.{Entry}
use Rattle.jc_pool.specs.declared.entry.Entry.TheVariants as entry
use Rattle.jc_pool.specs.declared.index.Naming.{Naming}
use Rattle.jc_pool.specs.declared.index.Naming.TheVariants as naming
use Rattle.jc_pool.proofs.AddedLaws.{utf8_there, naming_there}
use Rattle.jc_pool.proofs.AddedMemberLaws.{member_past, member_there, signature_there}
use Rattle.jc_pool.proofs.AddingLaws.{put_extends, signature_extends, utf8_extends, naming_small}
use Rattle.jc_pool.proofs.KeyPlaceLaws.{signature_past}
use Rattle.jc_pool.proofs.OneMoreEntryLaws.{grown_length, put_pool}
use Rattle.jc_pool.proofs.WritingLaws.{pool_written}
use Rattle.jc_instrument.specs.Contents.{Content, text_entry, class_entry, string_entry, integer_entry, long_entry, signature_entry, member_entry, handle_entry, computed_entry, Takes, TakesEach}
use Rattle.jc_instrument_laws.proofs.ClassSpellingLaws.{bytes_both, Spelled, short_number, text_fits}
use Rattle.jc_instrument.proofs.GrownPoolLaws.{longer}
use Rattle.jc_instrument.proofs.PoolTextLaws.{IsSpelledSlot, no_class_past}
use Rattle.jc_instrument.proofs.TakingLaws.{each_extends}

-- ---- a pool whose entries have texts

pub record IsSpelledPool (pool : PoolValue) : Type 0 where
  pub is : IsPool pool
  pub each : AllByRecursion IsSpelledSlot pool

spelled_slots : (slots : List (Option Entry)) → AllByRecursion IsSpelledSlot slots → (text : List ℕ) × SpellsSlots text slots × AreBytes text
spelled_slots [] all = ([], refl, tt)
spelled_slots (slot ∷ rest) all =
    let more = spelled_slots rest all.1 in
    (all.0.text ++ more.0, (all.0.text, more.0, refl, all.0.spells, more.1), bytes_both all.0.text more.0 all.0.are more.2)

pub spelled_pool : (pool : PoolValue) → length pool ≤ 65535 → IsSpelledPool pool → Spelled pools.pool pool
spelled_pool pool few s =
    let count = short_number (length pool) (omega (arith, few)) in
    let slots = spelled_slots pool s.each in
    record {
      text = count.text ++ slots.0;
      spells = pool_written pool pool (length pool) [] count.text (count.text ++ slots.0) refl refl refl s.is
          (record { text = count.text; parts = refl; spells = count.spells }) (record { text = slots.0; parts = refl; spells = slots.1 });
      are = bytes_both count.text slots.0 count.are slots.2;
    }

-- ---- the texts of entries

text_slot : (text : List ℕ) → IsShortText text → AreBytes text → IsSpelledSlot (Some (entry.Utf8 text))
text_slot text short are =
    let size = short_number (length text) (omega (arith, short)) in
    record {
      text = 1 ∷ (size.text ++ text);
      spells = record { info = size.text ++ text; parts = refl; spells = record { size = size.text; parts = refl; spells = size.spells } };
      are = (omega arith, bytes_both size.text text size.are are);
    }

naming_slot : (kind : Naming) (at : ℕ) → at < 65536 → IsSpelledSlot (Some (entry_naming kind at))
naming_slot naming.Class at fits =
    let n = short_number at fits in
    record { text = 7 ∷ n.text; spells = record { info = n.text; parts = refl; spells = n.spells }; are = (omega arith, n.are) }
naming_slot naming.String at fits =
    let n = short_number at fits in
    record { text = 8 ∷ n.text; spells = record { info = n.text; parts = refl; spells = n.spells }; are = (omega arith, n.are) }

-- an entry that names two places
places_slot : (e : Entry) (a b : ℕ) → tag_of e < 256 → ((bytes : List ℕ) → ArePlaces bytes a b → IsInfo bytes e) → a < 65536 → b < 65536 → IsSpelledSlot (Some e)
places_slot e a b byte spelled low high =
    let m = short_number a low in
    let n = short_number b high in
    record {
      text = tag_of e ∷ (m.text ++ n.text);
      spells = record {
        info = m.text ++ n.text;
        parts = refl;
        spells = spelled (m.text ++ n.text) (record { front = m.text; back = n.text; parts = refl; left = m.spells; right = n.spells });
      };
      are = (byte, bytes_both m.text n.text m.are n.are);
    }

signature_slot : (name desc : ℕ) → name < 65536 → desc < 65536 → IsSpelledSlot (Some (entry.NameAndType name desc))
signature_slot name desc a b = places_slot (entry.NameAndType name desc) name desc (omega arith) (λ bytes are. are) a b

member_small : (tag class rest : ℕ) → IsSmall (entry_of_member tag class rest)
member_small tag class rest = by (tag == 9) (tag == 10)
  where
    by : (field_tag method_tag : Bool)
        → IsSmall (if field_tag then entry.Fieldref class rest else if method_tag then entry.Methodref class rest else entry.InterfaceMethodref class rest)
    by true method_tag = tt
    by false true = tt
    by false false = tt

member_slot : (tag class rest : ℕ) → class < 65536 → rest < 65536 → IsSpelledSlot (Some (entry_of_member tag class rest))
member_slot tag class rest a b = by (tag == 9) (tag == 10)
  where
    by : (field_tag method_tag : Bool)
        → IsSpelledSlot (Some
        (if field_tag then entry.Fieldref class rest else if method_tag then entry.Methodref class rest else entry.InterfaceMethodref class rest))
    by true method_tag = places_slot (entry.Fieldref class rest) class rest (omega arith) (λ bytes are. are) a b
    by false true = places_slot (entry.Methodref class rest) class rest (omega arith) (λ bytes are. are) a b
    by false false = places_slot (entry.InterfaceMethodref class rest) class rest (omega arith) (λ bytes are. are) a b

handle_slot : (kind reference : ℕ) → kind < 256 → reference < 65536 → IsSpelledSlot (Some (entry.MethodHandle kind reference))
handle_slot kind reference byte fits =
    let n = short_number reference fits in
    record {
      text = 15 ∷ kind ∷ n.text;
      spells = record { info = kind ∷ n.text; parts = refl; spells = record { back = n.text; parts = refl; right = n.spells } };
      are = (omega arith, (byte, n.are));
    }

-- ---- one entry more

slots_spelled : (e : Entry) → IsSpelledSlot (Some e) → AllByRecursion IsSpelledSlot (slots_of e)
slots_spelled e spelled = by (is_wide e)
  where
    by : (t : Bool) → AllByRecursion IsSpelledSlot (if t then Some e ∷ None ∷ [] else Some e ∷ [])
    by true = (spelled, (record { text = []; spells = refl; are = tt }, tt))
    by false = (spelled, tt)

both_spelled : (xs ys : List (Option Entry)) → AllByRecursion IsSpelledSlot xs → AllByRecursion IsSpelledSlot ys → AllByRecursion IsSpelledSlot (xs ++ ys)
both_spelled [] ys a b = b
both_spelled (x ∷ xs) ys a b = (a.0, both_spelled xs ys a.1 b)

put_spelled : (old new : PoolValue) (e : Entry) (place : ℕ) → IsSpelledPool old → IsSmall e → IsSpelledSlot (Some e) → length new ≤ 65535
    → IsPut old new e place → IsSpelledPool new
put_spelled old new e place s small spelled few put =
    let count = grown_length old e in
    let same = ap (λ (l : PoolValue). length l) put.grown in
    subst IsSpelledPool (sym put.grown) (record {
      is = put_pool old e small (omega (arith, count, same, few)) s.is;
      each = both_spelled old (slots_of e) s.each (slots_spelled e spelled);
    })

-- ---- contents

-- the text can be that of a Utf8 entry
pub record IsText (text : List ℕ) : Type 0 where
  pub short : IsShortText text
  pub are : AreBytes text

-- four bytes spell the value
pub record IsSpelledInteger (value : ℤ) : Type 0 where
  pub text : List ℕ
  pub spells : IsSigned w32 4 text value
  pub are : AreBytes text

-- eight bytes spell the value
pub record IsSpelledLong (value : ℤ) : Type 0 where
  pub text : List ℕ
  pub spells : IsSigned w64 8 text value
  pub are : AreBytes text

abbrev pub IsPlainMember : Member → Type 0
IsPlainMember m = IsText m.class × IsText m.name × IsText m.desc

abbrev pub IsPlain : Content → Type 0
IsPlain (text_entry text) = IsText text
IsPlain (class_entry name) = IsText name
IsPlain (string_entry text) = IsText text
IsPlain (integer_entry value) = IsSpelledInteger value
IsPlain (long_entry value) = IsSpelledLong value
IsPlain (signature_entry s) = IsText s.name × IsText s.desc
IsPlain (member_entry m) = IsPlainMember m
IsPlain (handle_entry h) = (h.kind < 256) × (IsMemberTag h.target.tag × IsPlainMember h.target)
IsPlain (computed_entry c) = (c.bootstrap < 65536) × (IsText c.signed.name × IsText c.signed.desc)

text_spelled : (old new : PoolValue) (text : List ℕ) (place : ℕ) → IsSpelledPool old → IsText text → length new ≤ 65535 → HasUtf8 old text new place
    → IsSpelledPool new
text_spelled old new text place s t few (inl there) = subst IsSpelledPool (sym there.1) s
text_spelled old new text place s t few (inr put) =
    let short = t.short in
    put_spelled old new (entry.Utf8 text) place s (omega (arith, short)) (text_slot text t.short t.are) few put.1

naming_spelled : (kind : Naming) (old new : PoolValue) (text : List ℕ) (place : ℕ) → IsSpelledPool old → IsText text → length new ≤ 65535
    → HasNaming kind old text new place → IsSpelledPool new
naming_spelled kind old new text place s t few (inl there) = subst IsSpelledPool (sym there.1) s
naming_spelled kind old new text place s t few (inr put) =
    let p = put.1 in
    let less = longer p.0 new (put_extends p.0 new (entry_naming kind p.1) place p.3) in
    let few_named : length p.0 ≤ 65535 = omega (arith, less, few) in
    put_spelled p.0 new (entry_naming kind p.1) place (text_spelled old p.0 text p.1 s t few_named p.2) (naming_small kind p.1)
    (naming_slot kind p.1 (text_fits p.0 few_named p.1 text (utf8_there old p.0 text p.1 p.2))) few p.3

integer_spelled : (old new : PoolValue) (value : ℤ) (place : ℕ) → IsSpelledPool old → IsSpelledInteger value → length new ≤ 65535
    → HasInteger old value new place → IsSpelledPool new
integer_spelled old new value place s t few (inl there) = subst IsSpelledPool (sym there.1) s
integer_spelled old new value place s t few (inr put) =
    put_spelled old new (entry.Integer value) place s tt
    (record { text = 3 ∷ t.text; spells = record { info = t.text; parts = refl; spells = t.spells }; are = (omega arith, t.are) }) few put.1

long_spelled : (old new : PoolValue) (value : ℤ) (place : ℕ) → IsSpelledPool old → IsSpelledLong value → length new ≤ 65535
    → HasLong old value new place → IsSpelledPool new
long_spelled old new value place s t few (inl there) = subst IsSpelledPool (sym there.1) s
long_spelled old new value place s t few (inr put) =
    put_spelled old new (entry.Long value) place s tt
    (record { text = 5 ∷ t.text; spells = record { info = t.text; parts = refl; spells = t.spells }; are = (omega arith, t.are) }) few put.1

signature_spelled : (old new : PoolValue) (m : Signature) (place : ℕ) → IsSpelledPool old → IsText m.name → IsText m.desc → length new ≤ 65535
    → HasSignature old m new place → IsSpelledPool new
signature_spelled old new m place s name desc few (inl there) = subst IsSpelledPool (sym there.1) s
signature_spelled old new m place s name desc few (inr put) =
    let p = put.1 in
    let less = longer p.3 new (put_extends p.3 new (entry.NameAndType p.1 p.4) place p.6) in
    let few_both : length p.3 ≤ 65535 = omega (arith, less, few) in
    let less_named = longer p.0 p.3 (utf8_extends p.0 p.3 m.desc p.4 p.5) in
    let few_named : length p.0 ≤ 65535 = omega (arith, less_named, few_both) in
    let named = text_spelled old p.0 m.name p.1 s name few_named p.2 in
    put_spelled p.3 new (entry.NameAndType p.1 p.4) place (text_spelled p.0 p.3 m.desc p.4 named desc few_both p.5) tt
    (signature_slot p.1 p.4 (text_fits p.0 few_named p.1 m.name (utf8_there old p.0 m.name p.1 p.2))
    (text_fits p.3 few_both p.4 m.desc (utf8_there p.0 p.3 m.desc p.4 p.5))) few p.6

module _ (pool : PoolValue) (few : length pool ≤ 65535) where
  class_name_fits : (place : ℕ) (name : List ℕ) → class_name_of pool place ≡ Some name → place < 65536
  class_name_fits place name is = by (cases_lt place (length pool))
    where
      by : (place < length pool) ⊎ (length pool ≤ place) → place < 65536
      by (inl within) = omega (arith, within, few)
      by (inr past) = absurd (no_class_past pool place name past is)

  signature_fits : (place : ℕ) (s : Signature) → signature_of pool place ≡ Some s → place < 65536
  signature_fits place s is = by (cases_lt place (length pool))
    where
      by : (place < length pool) ⊎ (length pool ≤ place) → place < 65536
      by (inl within) = omega (arith, within, few)
      by (inr past) = absurd (none-some s (sym (signature_past pool place past) ∙ is))

  member_fits : (place : ℕ) (m : Member) → member_of pool place ≡ Some m → place < 65536
  member_fits place m is = by (cases_lt place (length pool))
    where
      by : (place < length pool) ⊎ (length pool ≤ place) → place < 65536
      by (inl within) = omega (arith, within, few)
      by (inr past) = absurd (none-some m (sym (member_past pool place past) ∙ is))

member_spelled : (old new : PoolValue) (m : Member) (place : ℕ) → IsSpelledPool old → IsPlainMember m → length new ≤ 65535
    → HasMember old m new place → IsSpelledPool new
member_spelled old new m place s t few (inl there) = subst IsSpelledPool (sym there.1) s
member_spelled old new m place s t few (inr put) =
    let p = put.1 in
    let e = entry_of_member m.tag p.1 p.4 in
    let less = longer p.3 new (put_extends p.3 new e place p.6) in
    let few_both : length p.3 ≤ 65535 = omega (arith, less, few) in
    let less_named = longer p.0 p.3 (signature_extends p.0 p.3 (signature m) p.4 p.5) in
    let few_named : length p.0 ≤ 65535 = omega (arith, less_named, few_both) in
    let classed = naming_spelled naming.Class old p.0 m.class p.1 s t.0 few_named p.2 in
    put_spelled p.3 new e place (signature_spelled p.0 p.3 (signature m) p.4 classed t.1 t.2 few_both p.5) (member_small m.tag p.1 p.4)
    (member_slot m.tag p.1 p.4 (class_name_fits p.0 few_named p.1 m.class (naming_there naming.Class old p.0 m.class p.1 p.2))
    (signature_fits p.3 few_both p.4 (signature m) (signature_there p.0 (signature m) p.3 p.4 p.5))) few p.6

handle_spelled : (old new : PoolValue) (h : Handle) (place : ℕ) → IsSpelledPool old → IsPlain (handle_entry h) → length new ≤ 65535
    → HasHandle old h new place → IsSpelledPool new
handle_spelled old new h place s t few (inl there) = subst IsSpelledPool (sym there.1) s
handle_spelled old new h place s t few (inr put) =
    let p = put.1 in
    let e = entry.MethodHandle h.kind p.1 in
    let less = longer p.0 new (put_extends p.0 new e place p.3) in
    let few_named : length p.0 ≤ 65535 = omega (arith, less, few) in
    put_spelled p.0 new e place (member_spelled old p.0 h.target p.1 s t.1.1 few_named p.2) tt
    (handle_slot h.kind p.1 t.0 (member_fits p.0 few_named p.1 h.target (member_there old p.0 h.target p.1 t.1.0 p.2))) few p.3

computed_spelled : (old new : PoolValue) (c : Computed) (place : ℕ) → IsSpelledPool old → IsPlain (computed_entry c) → length new ≤ 65535
    → HasComputed old c new place → IsSpelledPool new
computed_spelled old new c place s t few (inl there) = subst IsSpelledPool (sym there.1) s
computed_spelled old new c place s t few (inr put) =
    let p = put.1 in
    let e = entry.Dynamic c.bootstrap p.1 in
    let less = longer p.0 new (put_extends p.0 new e place p.3) in
    let few_signed : length p.0 ≤ 65535 = omega (arith, less, few) in
    put_spelled p.0 new e place (signature_spelled old p.0 c.signed p.1 s t.1.0 t.1.1 few_signed p.2) tt
    (places_slot e c.bootstrap p.1 (omega arith) (λ bytes are. are) t.0
    (signature_fits p.0 few_signed p.1 c.signed (signature_there old c.signed p.0 p.1 p.2))) few p.3

takes_spelled : (old new : PoolValue) (c : Content) (place : ℕ) → IsSpelledPool old → IsPlain c → length new ≤ 65535 → Takes old c new place
    → IsSpelledPool new
takes_spelled old new (text_entry text) place s t few takes = text_spelled old new text place s t few takes
takes_spelled old new (class_entry name) place s t few takes = naming_spelled naming.Class old new name place s t few takes
takes_spelled old new (string_entry text) place s t few takes = naming_spelled naming.String old new text place s t few takes
takes_spelled old new (integer_entry value) place s t few takes = integer_spelled old new value place s t few takes
takes_spelled old new (long_entry value) place s t few takes = long_spelled old new value place s t few takes
takes_spelled old new (signature_entry m) place s t few takes = signature_spelled old new m place s t.0 t.1 few takes
takes_spelled old new (member_entry m) place s t few takes = member_spelled old new m place s t few takes
takes_spelled old new (handle_entry h) place s t few takes = handle_spelled old new h place s t few takes
takes_spelled old new (computed_entry c) place s t few takes = computed_spelled old new c place s t few takes

pub each_spelled : (needs : List Content) (old new : PoolValue) (places : List ℕ) → AllByRecursion IsPlain needs → length new ≤ 65535
    → TakesEach old needs new places → IsSpelledPool old → IsSpelledPool new
each_spelled [] old new places all few takes s = subst IsSpelledPool (sym takes.0) s
each_spelled (need ∷ needs) old new places all few takes s =
    let less = longer takes.0 new (each_extends takes.0 new needs takes.2 takes.5) in
    let few_now : length takes.0 ≤ 65535 = omega (arith, less, few) in
    each_spelled needs takes.0 new takes.2 all.1 few takes.5 (takes_spelled old takes.0 need takes.1 s all.0 few_now takes.4)
