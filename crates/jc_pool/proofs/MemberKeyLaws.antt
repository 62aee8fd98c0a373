-- Where members stand, by their keys.
use Rattle.std.proofs.Common.{◌≡◌, ◌↔◌, ℕ, ◌<◌, Bool, IsTrue, List, [], length, Option, Some, None, refl, sym, ◌∙◌, ap, subst, arith}
use Rattle.std.proofs.lemmas.Option.{none-some, same_Some}
use Rattle.jc_bytes.specs.Decoder.{◌>>=◌}
use Rattle.jc_pool.specs.declared.entry.Entry.{Entry}
use Rattle.jc_pool.specs.declared.entry.Entry.TheVariants as entry
use Rattle.jc_pool.specs.declared.index.Key.{Key}
use Rattle.jc_pool.specs.declared.index.Key.TheVariants as key
use Rattle.jc_pool.specs.declared.index.Naming.TheVariants as naming
use Rattle.jc_pool.specs.declared.members.NamedPlaces.{NamedPlaces}
use Rattle.jc_pool.specs.Pool.{PoolValue}
use Rattle.jc_pool.specs.Lookup.{entry_of, utf8_of, class_name_of, Signature, signature_of, Member, signature, ref_of, dynamic_of, member_in, member_of}
use Rattle.jc_pool.specs.Adding.{IsFirst, IsNowhere, IsMemberTag}
use Rattle.jc_pool.specs.Index.{key_at, same_key, AreTables, named_places, slot_places, member_key, places_key, member_key_at, texts_key}
use Rattle.jc_pool.proofs.FirstPlaceLaws.{is_first, is_nowhere}
use Rattle.jc_pool.proofs.FirstPlaceMapLaws.{one_key}
use Rattle.jc_pool.proofs.OneMoreEntryLaws.{utf8_past}
use Rattle.jc_pool.proofs.KeyPlaceLaws.{AreAsOne, has_name, has_signature, naming_as_one, signature_as_one}
use Rattle.jc_pool.proofs.AddedMemberLaws.{member_by, ref_read}

-- ---- what a member names

-- a member of the pool names these places
record NamesParts (pool : PoolValue) (m : Member) (named : NamedPlaces) : Type 0 where
  tag : named.tag ≡ m.tag
  class : class_name_of pool named.class ≡ Some m.class
  signed : signature_of pool named.name_and_type ≡ Some (signature m)

ref_parts : (pool : PoolValue) (m : Member) (tag class sig : ℕ) → ref_of pool tag class sig ≡ Some m → NamesParts pool m (record { tag = tag; class = class; name_and_type = sig })
unfolding ref_of
ref_parts pool m tag class sig is = by (class_name_of pool class) (signature_of pool sig) refl refl is
  where
    by : (r : Option (List ℕ)) (q : Option Signature) → class_name_of pool class ≡ r → signature_of pool sig ≡ q → (r >>= λ name. q >>= λ s. member_by tag name s) ≡ Some m
        → NamesParts pool m (record { tag = tag; class = class; name_and_type = sig })
    by None q named signed is = absurd (none-some m is)
    by (Some name) None named signed is = absurd (none-some m is)
    by (Some name) (Some s) named signed is =
        let same = same_Some (record { tag = tag; class = name; name = s.name; desc = s.desc }) m is in record {
          tag = ap (λ (x : Member). x.tag) same;
          class = named ∙ ap (λ (x : Member). Some x.class) same;
          signed = signed ∙ ap (λ (x : Member). Some (signature x)) same;
        }

-- a dynamic constant or call has another tag
pub no_dynamic : (pool : PoolValue) (m : Member) (tag sig : ℕ) → 11 < tag → IsMemberTag m.tag → dynamic_of pool tag sig ≡ Some m → ⊥
unfolding dynamic_of
no_dynamic pool m tag sig large tagged is = by (signature_of pool sig) is
  where
    by : (q : Option Signature) → (q >>= λ s. member_by tag [] s) ≡ Some m → ⊥
    by None is = none-some m is
    by (Some s) is = let same = ap (λ (x : Member). x.tag) (same_Some (record { tag = tag; class = []; name = s.name; desc = s.desc }) m is) in omega (arith, same, large, tagged.1)

entry_names : (pool : PoolValue) (m : Member) (e : Entry) → IsMemberTag m.tag → member_in pool e ≡ Some m → (named : NamedPlaces) × (named_places e ≡ Some named) × NamesParts pool m named
entry_names pool m (entry.Fieldref class sig) tagged is = (record { tag = 9; class = class; name_and_type = sig }, refl, ref_parts pool m 9 class sig is)
entry_names pool m (entry.Methodref class sig) tagged is = (record { tag = 10; class = class; name_and_type = sig }, refl, ref_parts pool m 10 class sig is)
entry_names pool m (entry.InterfaceMethodref class sig) tagged is = (record { tag = 11; class = class; name_and_type = sig }, refl, ref_parts pool m 11 class sig is)
entry_names pool m (entry.Dynamic bootstrap sig) tagged is = absurd (no_dynamic pool m 17 sig (omega arith) tagged is)
entry_names pool m (entry.InvokeDynamic bootstrap sig) tagged is = absurd (no_dynamic pool m 18 sig (omega arith) tagged is)
entry_names pool m e tagged is = absurd (none-some m is)

-- and an entry that names such places is the member
parts_read : (pool : PoolValue) (m : Member) (tag class sig : ℕ) (named : NamedPlaces) → record { tag = tag; class = class; name_and_type = sig }
    ≡ named → NamesParts pool m named → ref_of pool tag class sig ≡ Some m
parts_read pool m tag class sig named same parts =
    let own : NamesParts pool m (record { tag = tag; class = class; name_and_type = sig }) = subst (NamesParts pool m) (sym same) parts in
    ref_read pool m tag class sig own.tag own.class own.signed

entry_is : (pool : PoolValue) (m : Member) (e : Entry) (named : NamedPlaces) → named_places e ≡ Some named → NamesParts pool m named → member_in pool e ≡ Some m
entry_is pool m (entry.Fieldref class sig) named is parts = parts_read pool m 9 class sig named (same_Some _ named is) parts
entry_is pool m (entry.Methodref class sig) named is parts = parts_read pool m 10 class sig named (same_Some _ named is) parts
entry_is pool m (entry.InterfaceMethodref class sig) named is parts = parts_read pool m 11 class sig named (same_Some _ named is) parts
entry_is pool m e named is parts = absurd (none-some named is)

-- the same at a place
slot_names : (pool : PoolValue) (m : Member) (slot : Option Entry) → IsMemberTag m.tag → (slot >>= member_in pool) ≡ Some m → (named : NamedPlaces)
    × (slot_places slot ≡ Some named) × NamesParts pool m named
slot_names pool m None tagged is = absurd (none-some m is)
slot_names pool m (Some e) tagged is = entry_names pool m e tagged is

slot_is : (pool : PoolValue) (m : Member) (slot : Option Entry) (named : NamedPlaces) → slot_places slot ≡ Some named → NamesParts pool m named → (slot >>= member_in pool) ≡ Some m
slot_is pool m None named is parts = absurd (none-some named is)
slot_is pool m (Some e) named is parts = entry_is pool m e named is parts

member_names : (pool : PoolValue) (m : Member) (place : ℕ) → IsMemberTag m.tag → member_of pool place ≡ Some m → (named : NamedPlaces)
    × (slot_places (entry_of pool place) ≡ Some named) × NamesParts pool m named
unfolding member_of
member_names pool m place tagged is = slot_names pool m (entry_of pool place) tagged is

member_is : (pool : PoolValue) (m : Member) (place : ℕ) (named : NamedPlaces) → slot_places (entry_of pool place) ≡ Some named → NamesParts pool m named → member_of pool place ≡ Some m
unfolding member_of
member_is pool m place named is parts = slot_is pool m (entry_of pool place) named is parts

-- ---- the key of a member

key_parts : (tag : ℕ) (class sig : Option Key) (t c n d : ℕ) → member_key tag class sig ≡ Some (key.Member t c n d) → (tag ≡ t) × (class ≡ Some (key.Class c)) × (sig ≡ Some (key.Signature n d))
key_parts tag (Some (key.Class class)) (Some (key.Signature name desc)) t c n d is = (cc, cc, cc)
key_parts tag class sig t c n d is = absurd cc

places_parts : (firsts : List ℕ) (pool : PoolValue) (named : Option NamedPlaces) (t c n d : ℕ) → (named >>= places_key firsts pool) ≡ Some (key.Member t c n d)
    → (p : NamedPlaces) × (named ≡ Some p) × (p.tag ≡ t) × (key_at firsts pool p.class ≡ Some (key.Class c)) × (key_at firsts pool p.name_and_type ≡ Some (key.Signature n d))
places_parts firsts pool None t c n d is = absurd (none-some (key.Member t c n d) is)
places_parts firsts pool (Some p) t c n d is =
    let parts = key_parts p.tag (key_at firsts pool p.class) (key_at firsts pool p.name_and_type) t c n d is in (p, refl, parts.0, parts.1, parts.2)

module _ (pool : PoolValue) (texts : List ℕ → Option ℕ) (firsts : List ℕ) (keys : Key → Option ℕ) (are : AreTables pool texts firsts keys) (m : Member) (tagged : IsMemberTag m.tag) where
  member_as_one : (c n d : ℕ) → IsFirst (utf8_of pool) m.class c → IsFirst (utf8_of pool) m.name n → IsFirst (utf8_of pool) m.desc d
      → AreAsOne (member_of pool) m (member_key_at firsts pool) (key.Member m.tag c n d)
  member_as_one c n d classed named described = record {
    to_key = λ place is.
        let p = member_names pool m place tagged is in
        ap (λ (o : Option NamedPlaces). o >>= places_key firsts pool) p.1
        ∙ (λ i. member_key (p.2.tag i) (class_one.to_key p.0.class p.2.class i) (sig_one.to_key p.0.name_and_type p.2.signed i));
    of_key = λ place keyed.
        let p = places_parts firsts pool (slot_places (entry_of pool place)) m.tag c n d keyed in
        member_is pool m place p.0 p.1 (record { tag = p.2; class = class_one.of_key p.0.class p.3; signed = sig_one.of_key p.0.name_and_type p.4 });
  }
    where
      class_one : AreAsOne (class_name_of pool) m.class (key_at firsts pool) (key.Class c)
      class_one = naming_as_one pool firsts m.class c are.standins classed naming.Class

      sig_one : AreAsOne (signature_of pool) (signature m) (key_at firsts pool) (key.Signature n d)
      sig_one = signature_as_one pool texts firsts keys are (signature m) n d named described

  first_text : (text : List ℕ) (place : ℕ) → texts text ≡ Some place → IsFirst (utf8_of pool) text place
  first_text text place at = is_first (utf8_of pool) (length pool) text place (texts text) at (are.texts text)

  no_text : (text : List ℕ) → texts text ≡ None → IsNowhere (utf8_of pool) text
  no_text text at = is_nowhere (utf8_of pool) (length pool) text (texts text) (utf8_past pool) at (are.texts text)

  -- a member whose class has no name, or that has no name or no descriptor
  unnamed_class : IsNowhere (utf8_of pool) m.class → IsNowhere (member_of pool) m
  unnamed_class none place is = let p = member_names pool m place tagged is in let n = has_name naming.Class pool p.0.class m.class p.2.class in none n.0 n.2

  unnamed_member : IsNowhere (utf8_of pool) m.name → IsNowhere (member_of pool) m
  unnamed_member none place is = let p = member_names pool m place tagged is in let s = has_signature pool p.0.name_and_type (signature m) p.2.signed in none s.0 s.3

  undescribed : IsNowhere (utf8_of pool) m.desc → IsNowhere (member_of pool) m
  undescribed none place is = let p = member_names pool m place tagged is in let s = has_signature pool p.0.name_and_type (signature m) p.2.signed in none s.1 s.4

  -- where the texts have first places, the member is found by its key
  pub keyed_as_one : (c n d : Option ℕ) (k : Key) → c ≡ texts m.class → n ≡ texts m.name → d ≡ texts m.desc → texts_key m.tag c n d ≡ Some k → AreAsOne (member_of pool) m (member_key_at firsts pool) k
  keyed_as_one (Some c) (Some n) (Some d) k classed named described is =
      subst (AreAsOne (member_of pool) m (member_key_at firsts pool)) (same_Some (key.Member m.tag c n d) k is)
      (member_as_one c n d (first_text m.class c (sym classed)) (first_text m.name n (sym named)) (first_text m.desc d (sym described)))
  keyed_as_one None n d k classed named described is = absurd (none-some k is)
  keyed_as_one (Some c) None d k classed named described is = absurd (none-some k is)
  keyed_as_one (Some c) (Some n) None k classed named described is = absurd (none-some k is)

  -- and it is nowhere where one of them is
  pub unkeyed : (c n d : Option ℕ) → c ≡ texts m.class → n ≡ texts m.name → d ≡ texts m.desc → texts_key m.tag c n d ≡ None → IsNowhere (member_of pool) m
  unkeyed (Some c) (Some n) (Some d) classed named described is = absurd (none-some (key.Member m.tag c n d) (sym is))
  unkeyed None n d classed named described is = unnamed_class (no_text m.class (sym classed))
  unkeyed (Some c) None d classed named described is = unnamed_member (no_text m.name (sym named))
  unkeyed (Some c) (Some n) None classed named described is = undescribed (no_text m.desc (sym described))

-- ---- the key at a place

pub key_told : (r : Bool) (found : Option Key) (f k : Key) → found ≡ Some f → r ≡ same_key f k → IsTrue r ↔ (found ≡ Some k)
key_told r found f k is told = (
  λ true. is ∙ ap Some ((one_key f k).0 (sym told ∙ true)),
  λ there. told ∙ (one_key f k).1 (same_Some f k (sym is ∙ there)),
)
