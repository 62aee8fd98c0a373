-- Where entries stand, by their keys.
use Rattle.std.proofs.Common.{◌≡◌, inl, inr, ℕ, ℤ, ◌<◌, ◌≤◌, List, length, IfOk, IfSome, IfNone, Option, Some, None, Result, Ok, Err, refl, sym, ◌∙◌, ap}
use Rattle.std.proofs.lemmas.Bool.{cases_lt}
use Rattle.std.proofs.lemmas.Option.{none-some, same_Some}
use Rattle.jc_bytes.specs.Decoder.{◌>>=◌}
use Rattle.jc_bytes.specs.declared.fail.Fail.{Fail}
use Rattle.jc_bytes.specs.declared.fail.Fail.TheVariants as fails
use Rattle.jc_pool.specs.declared.add.PoolFull.{PoolFull}
use Rattle.jc_pool.specs.declared.entry.Entry.{Entry}
use Rattle.jc_pool.specs.declared.entry.Entry.TheVariants as entry
use Rattle.jc_pool.specs.declared.index.Key.{Key}
use Rattle.jc_pool.specs.declared.index.Key.TheVariants as key
use Rattle.jc_pool.specs.declared.index.Naming.{Naming}
use Rattle.jc_pool.specs.declared.index.Naming.TheVariants as naming
use Rattle.jc_pool.specs.declared.index.Index.{Index}
use Rattle.jc_pool.specs.Pool.{PoolValue}
use Rattle.jc_pool.specs.Lookup.{entry_of, class_in, string_in, utf8_of, class_name_of, string_of, integer_in, integer_of, long_in, long_of, Signature, signature_in, signature_of}
use Rattle.jc_pool.specs.Adding.{IsFirst, IsNowhere, Adds, RefusesFull}
use Rattle.jc_pool.specs.Index.{standing_for, AreStandins, key_in, key_at, text_place, key_place, entry_naming, naming_of, key_naming, naming_place, signature_place, AreTables, IsIndexOf}
use Rattle.jc_pool.proofs.FirstPlaceLaws.{one_first, is_first, is_nowhere}
use Rattle.jc_pool.proofs.OneMoreEntryLaws.{utf8_past, past}

-- ---- two ways to find the same places

-- the one is found exactly where the other is
pub record AreAsOne {X K : Type 0} (found : ℕ → Option X) (what : X) (keyed : ℕ → Option K) (k : K) : Type 0 where
  pub to_key : (place : ℕ) → found place ≡ Some what → keyed place ≡ Some k
  pub of_key : (place : ℕ) → keyed place ≡ Some k → found place ≡ Some what

module _ {X K : Type 0} (found : ℕ → Option X) (what : X) (keyed : ℕ → Option K) (k : K) (as_one : AreAsOne found what keyed k) where
  pub first_as_one : (place : ℕ) → IsFirst keyed k place → IsFirst found what place
  first_as_one place is = record {
    there = as_one.of_key place is.there;
    first = λ earlier less there. is.first earlier less (as_one.to_key earlier there);
  }

  pub nowhere_as_one : IsNowhere keyed k → IsNowhere found what
  nowhere_as_one none place there = none place (as_one.to_key place there)

  -- what a look-up by the one answers
  pub first_by_key : (r : Option ℕ) → IfSome r (IsFirst keyed k) → IfSome r (IsFirst found what)
  first_by_key None first = tt
  first_by_key (Some place) first = first_as_one place first

  pub none_by_key : (r : Option ℕ) → IfNone r (IsNowhere keyed k) → IfNone r (IsNowhere found what)
  none_by_key None none = nowhere_as_one none
  none_by_key (Some place) none = tt

-- what is asked for by the one is asked for by the other
module _ {X K : Type 0} (found : PoolValue → ℕ → Option X) (what : X) (keyed : PoolValue → ℕ → Option K) (k : K) (old : PoolValue) (Put : PoolValue → ℕ → Type 0)
    (as_one : AreAsOne (found old) what (keyed old) k) where
  adds_as_one : (new : PoolValue) (place : ℕ) → Adds keyed k old Put new place → Adds found what old Put new place
  adds_as_one new place (inl there) = inl (first_as_one (found old) what (keyed old) k as_one place there.0, there.1)
  adds_as_one new place (inr put) = inr (nowhere_as_one (found old) what (keyed old) k as_one put.0, put.1)

  pub ok_as_one : (r : Result ℕ (Fail PoolFull)) (new : PoolValue) → IfOk r (Adds keyed k old Put new) → IfOk r (Adds found what old Put new)
  ok_as_one (Ok place) new has = adds_as_one new place has
  ok_as_one (Err fail) new has = tt

  pub full_as_one : (r : Result ℕ (Fail PoolFull)) → RefusesFull (Adds keyed k old Put) r → RefusesFull (Adds found what old Put) r
  full_as_one (Ok place) full = tt
  full_as_one (Err fails.Memory) full = tt
  full_as_one (Err (fails.Said said)) full = (full.0, full.1, adds_as_one full.0 full.1 full.2, full.3, full.4)

-- ---- texts that entries name

module _ (part : Entry → Option ℕ) where
  pub text_named : (pool : PoolValue) (e : Option Entry) (text : List ℕ) → (e >>= λ e. part e >>= λ name. utf8_of pool name) ≡ Some text
      → (f : Entry) × (name : ℕ) × (e ≡ Some f) × (part f ≡ Some name) × (utf8_of pool name ≡ Some text)
  text_named pool None text is = absurd (none-some text is)
  text_named pool (Some f) text is = by (part f) refl is
    where
      by : (r : Option ℕ) → part f ≡ r → (r >>= λ name. utf8_of pool name) ≡ Some text → (g : Entry) × (name : ℕ) × (Some f ≡ Some g) × (part g ≡ Some name) × (utf8_of pool name ≡ Some text)
      by None none is = absurd (none-some text is)
      by (Some name) some is = (f, name, refl, some, is)

class_is : (e : Entry) (name : ℕ) → class_in e ≡ Some name → e ≡ entry.Class name
class_is (entry.Class n) name is = ap entry.Class (same_Some n name is)
class_is e name is = absurd (none-some name is)

string_is : (e : Entry) (name : ℕ) → string_in e ≡ Some name → e ≡ entry.String name
string_is (entry.String n) name is = ap entry.String (same_Some n name is)
string_is e name is = absurd (none-some name is)

-- an entry of this kind that names the text stands at the place
pub has_name : (kind : Naming) (pool : PoolValue) (place : ℕ) (text : List ℕ) → naming_of kind pool place ≡ Some text
    → (name : ℕ) × (entry_of pool place ≡ Some (entry_naming kind name)) × (utf8_of pool name ≡ Some text)
unfolding class_name_of string_of
has_name naming.Class pool place text is =
    let n = text_named class_in pool (entry_of pool place) text is in
    (n.1, n.2 ∙ ap Some (class_is n.0 n.1 n.3), n.4)
has_name naming.String pool place text is =
    let n = text_named string_in pool (entry_of pool place) text is in
    (n.1, n.2 ∙ ap Some (string_is n.0 n.1 n.3), n.4)

pub is_named : (kind : Naming) (pool : PoolValue) (place name : ℕ) (text : List ℕ) → entry_of pool place ≡ Some (entry_naming kind name)
    → utf8_of pool name ≡ Some text → naming_of kind pool place ≡ Some text
unfolding class_name_of string_of
is_named naming.Class pool place name text is named = ap (λ (e : Option Entry). e >>= λ e. class_in e >>= λ name. utf8_of pool name) is ∙ named
is_named naming.String pool place name text is named = ap (λ (e : Option Entry). e >>= λ e. string_in e >>= λ name. utf8_of pool name) is ∙ named

pub naming_past : (kind : Naming) (pool : PoolValue) (place : ℕ) → length pool ≤ place → naming_of kind pool place ≡ None
unfolding class_name_of string_of
naming_past naming.Class pool place behind = past (λ e. class_in e >>= λ name. utf8_of pool name) pool place behind
naming_past naming.String pool place behind = past (λ e. string_in e >>= λ name. utf8_of pool name) pool place behind

-- ---- keys

key_named : (kind : Naming) (firsts : List ℕ) (e : Option Entry) (at : ℕ) → (e >>= key_in firsts) ≡ Some (key_naming kind at) → (name : ℕ)
    × (e ≡ Some (entry_naming kind name)) × (standing_for firsts name ≡ at)
key_named kind firsts None at is = absurd (none-some (key_naming kind at) is)
key_named naming.Class firsts (Some (entry.Class name)) at is = (name, refl, cc)
key_named naming.String firsts (Some (entry.String name)) at is = (name, refl, cc)
key_named naming.Class firsts (Some e) at is = absurd cc
key_named naming.String firsts (Some e) at is = absurd cc

has_key : (kind : Naming) (firsts : List ℕ) (pool : PoolValue) (place at : ℕ) → key_at firsts pool place ≡ Some (key_naming kind at)
    → (name : ℕ) × (entry_of pool place ≡ Some (entry_naming kind name)) × (standing_for firsts name ≡ at)
unfolding key_at
has_key kind firsts pool place at is = key_named kind firsts (entry_of pool place) at is

is_keyed : (kind : Naming) (firsts : List ℕ) (pool : PoolValue) (place name : ℕ) → entry_of pool place ≡ Some (entry_naming kind name)
    → key_at firsts pool place ≡ Some (key_naming kind (standing_for firsts name))
unfolding key_at
is_keyed naming.Class firsts pool place name is = ap (λ (e : Option Entry). e >>= key_in firsts) is
is_keyed naming.String firsts pool place name is = ap (λ (e : Option Entry). e >>= key_in firsts) is

pub key_past : (firsts : List ℕ) (pool : PoolValue) (place : ℕ) → length pool ≤ place → key_at firsts pool place ≡ None
unfolding key_at
key_past firsts pool place behind = past (key_in firsts) pool place behind

-- ---- an entry names a text exactly where its key has the first place of the text

module _ (pool : PoolValue) (firsts : List ℕ) (text : List ℕ) (at : ℕ) (standins : AreStandins (utf8_of pool) (length pool) firsts) (first : IsFirst (utf8_of pool) text at) where
  within : (name : ℕ) (t : List ℕ) → utf8_of pool name ≡ Some t → name < length pool
  within name t there = elim (cases_lt name (length pool)) [ inl less ↦ less | inr behind ↦ absurd (none-some t (sym (utf8_past pool name behind) ∙ there)) ]

  pub text_stands : (name : ℕ) → utf8_of pool name ≡ Some text → standing_for firsts name ≡ at
  text_stands name named = one_first (utf8_of pool) text (standing_for firsts name) at (standins.found_there name text (within name text named) named) first

  pub stands_text : (name : ℕ) → standing_for firsts name ≡ at → utf8_of pool name ≡ Some text
  stands_text name same = by (utf8_of pool name) refl
    where
      by : (r : Option (List ℕ)) → utf8_of pool name ≡ r → utf8_of pool name ≡ Some text
      by None is = ap (utf8_of pool) (sym (standins.others name is) ∙ same) ∙ first.there
      by (Some t) is =
          let stands : utf8_of pool at ≡ Some t = ap (utf8_of pool) (sym same) ∙ (standins.found_there name t (within name t is) is).there in
          is ∙ sym stands ∙ first.there

  pub naming_as_one : (kind : Naming) → AreAsOne (naming_of kind pool) text (key_at firsts pool) (key_naming kind at)
  naming_as_one kind = record {
    to_key = λ place named.
        let n = has_name kind pool place text named in
        is_keyed kind firsts pool place n.0 n.1 ∙ ap (λ (p : ℕ). Some (key_naming kind p)) (text_stands n.0 n.2);
    of_key = λ place keyed.
        let n = has_key kind firsts pool place at keyed in
        is_named kind pool place n.0 text n.1 (stands_text n.0 n.2);
  }

-- ---- numbers

integer_keyed : (firsts : List ℕ) (e : Entry) (value : ℤ) → (integer_in e ≡ Some value → key_in firsts e ≡ Some (key.Integer value))
    × (key_in firsts e ≡ Some (key.Integer value) → integer_in e ≡ Some value)
integer_keyed firsts (entry.Integer n) value = (λ is. ap (λ (z : ℤ). Some (key.Integer z)) (same_Some n value is), λ is. cc)
integer_keyed firsts e value = (λ is. absurd (none-some value is), λ is. absurd cc)

long_keyed : (firsts : List ℕ) (e : Entry) (value : ℤ) → (long_in e ≡ Some value → key_in firsts e ≡ Some (key.Long value)) × (key_in firsts e ≡ Some (key.Long value) → long_in e ≡ Some value)
long_keyed firsts (entry.Long n) value = (λ is. ap (λ (z : ℤ). Some (key.Long z)) (same_Some n value is), λ is. cc)
long_keyed firsts e value = (λ is. absurd (none-some value is), λ is. absurd cc)

-- what is read off an entry
both_read : {X K : Type 0} (f : Entry → Option X) (g : Entry → Option K) (what : X) (k : K) → ((e : Entry) → (f e ≡ Some what → g e ≡ Some k) × (g e ≡ Some k → f e ≡ Some what)) → (e : Option Entry)
    → ((e >>= f) ≡ Some what → (e >>= g) ≡ Some k) × ((e >>= g) ≡ Some k → (e >>= f) ≡ Some what)
both_read f g what k each None = (λ is. absurd (none-some what is), λ is. absurd (none-some k is))
both_read f g what k each (Some e) = each e

pub integer_as_one : (pool : PoolValue) (firsts : List ℕ) (value : ℤ) → AreAsOne (integer_of pool) value (key_at firsts pool) (key.Integer value)
unfolding integer_of key_at
integer_as_one pool firsts value = record {
  to_key = λ place. (both_read integer_in (key_in firsts) value (key.Integer value) (λ e. integer_keyed firsts e value) (entry_of pool place)).0;
  of_key = λ place. (both_read integer_in (key_in firsts) value (key.Integer value) (λ e. integer_keyed firsts e value) (entry_of pool place)).1;
}

pub long_as_one : (pool : PoolValue) (firsts : List ℕ) (value : ℤ) → AreAsOne (long_of pool) value (key_at firsts pool) (key.Long value)
unfolding long_of key_at
long_as_one pool firsts value = record {
  to_key = λ place. (both_read long_in (key_in firsts) value (key.Long value) (λ e. long_keyed firsts e value) (entry_of pool place)).0;
  of_key = λ place. (both_read long_in (key_in firsts) value (key.Long value) (λ e. long_keyed firsts e value) (entry_of pool place)).1;
}

-- ---- names with descriptors

abbrev sig_of : List ℕ → List ℕ → Option Signature
sig_of name desc = Some (record { name = name; desc = desc })

sig_parts : (r q : Option (List ℕ)) (s : Signature) → (r >>= λ name. q >>= λ desc. sig_of name desc) ≡ Some s → (r ≡ Some s.name) × (q ≡ Some s.desc)
sig_parts None q s is = absurd (none-some s is)
sig_parts (Some name) None s is = absurd (none-some s is)
sig_parts (Some name) (Some desc) s is = let same = same_Some (record { name = name; desc = desc }) s is in (ap (λ (t : Signature). Some t.name) same, ap (λ (t : Signature). Some t.desc) same)

signature_named : (pool : PoolValue) (e : Option Entry) (s : Signature)
    → (e >>= λ e. signature_in e >>= λ parts. utf8_of pool parts.0 >>= λ name. utf8_of pool parts.1 >>= λ desc. sig_of name desc) ≡ Some s
    → (name desc : ℕ) × (e ≡ Some (entry.NameAndType name desc)) × (utf8_of pool name ≡ Some s.name) × (utf8_of pool desc ≡ Some s.desc)
signature_named pool None s is = absurd (none-some s is)
signature_named pool (Some (entry.NameAndType name desc)) s is = let parts = sig_parts (utf8_of pool name) (utf8_of pool desc) s is in (name, desc, refl, parts.0, parts.1)
signature_named pool (Some e) s is = absurd (none-some s is)

-- a NameAndType entry of the texts stands at the place
pub has_signature : (pool : PoolValue) (place : ℕ) (s : Signature) → signature_of pool place ≡ Some s
    → (name desc : ℕ) × (entry_of pool place ≡ Some (entry.NameAndType name desc)) × (utf8_of pool name ≡ Some s.name) × (utf8_of pool desc ≡ Some s.desc)
unfolding signature_of
has_signature pool place s is = signature_named pool (entry_of pool place) s is

pub is_signed : (pool : PoolValue) (place name desc : ℕ) (s : Signature) → entry_of pool place ≡ Some (entry.NameAndType name desc) → utf8_of pool name ≡ Some s.name → utf8_of pool desc ≡ Some s.desc
    → signature_of pool place ≡ Some s
unfolding signature_of
is_signed pool place name desc s is named described =
    ap (λ (e : Option Entry). e >>= λ e. signature_in e >>= λ parts. utf8_of pool parts.0 >>= λ name. utf8_of pool parts.1 >>= λ desc. sig_of name desc) is
    ∙ (λ i. named i >>= λ name. described i >>= λ desc. sig_of name desc)

pub signature_past : (pool : PoolValue) (place : ℕ) → length pool ≤ place → signature_of pool place ≡ None
unfolding signature_of
signature_past pool place behind =
    past (λ e. signature_in e >>= λ parts. utf8_of pool parts.0 >>= λ name. utf8_of pool parts.1 >>= λ desc. sig_of name desc) pool place behind

signed_key : (firsts : List ℕ) (e : Option Entry) (name desc : ℕ) → (e >>= key_in firsts) ≡ Some (key.Signature name desc)
    → (n d : ℕ) × (e ≡ Some (entry.NameAndType n d)) × (standing_for firsts n ≡ name) × (standing_for firsts d ≡ desc)
signed_key firsts None name desc is = absurd (none-some (key.Signature name desc) is)
signed_key firsts (Some (entry.NameAndType n d)) name desc is = (n, d, refl, cc, cc)
signed_key firsts (Some e) name desc is = absurd cc

has_signed_key : (firsts : List ℕ) (pool : PoolValue) (place name desc : ℕ) → key_at firsts pool place ≡ Some (key.Signature name desc)
    → (n d : ℕ) × (entry_of pool place ≡ Some (entry.NameAndType n d)) × (standing_for firsts n ≡ name) × (standing_for firsts d ≡ desc)
unfolding key_at
has_signed_key firsts pool place name desc is = signed_key firsts (entry_of pool place) name desc is

is_signed_key : (firsts : List ℕ) (pool : PoolValue) (place n d : ℕ) → entry_of pool place ≡ Some (entry.NameAndType n d)
    → key_at firsts pool place ≡ Some (key.Signature (standing_for firsts n) (standing_for firsts d))
unfolding key_at
is_signed_key firsts pool place n d is = ap (λ (e : Option Entry). e >>= key_in firsts) is

module _ (pool : PoolValue) (texts : List ℕ → Option ℕ) (firsts : List ℕ) (keys : Key → Option ℕ) (are : AreTables pool texts firsts keys) (s : Signature) where
  pub signature_as_one : (name desc : ℕ) → IsFirst (utf8_of pool) s.name name → IsFirst (utf8_of pool) s.desc desc → AreAsOne (signature_of pool) s (key_at firsts pool) (key.Signature name desc)
  signature_as_one name desc named described = record {
    to_key = λ place is.
        let p = has_signature pool place s is in
        is_signed_key firsts pool place p.0 p.1 p.2
        ∙ (λ i. Some (key.Signature (text_stands pool firsts s.name name are.standins named p.0 p.3 i) (text_stands pool firsts s.desc desc are.standins described p.1 p.4 i)));
    of_key = λ place keyed.
        let p = has_signed_key firsts pool place name desc keyed in
        is_signed pool place p.0 p.1 s p.2 (stands_text pool firsts s.name name are.standins named p.0 p.3) (stands_text pool firsts s.desc desc are.standins described p.1 p.4);
  }

  first_text : (text : List ℕ) (place : ℕ) → texts text ≡ Some place → IsFirst (utf8_of pool) text place
  first_text text place at = is_first (utf8_of pool) (length pool) text place (texts text) at (are.texts text)

  no_text : (text : List ℕ) → texts text ≡ None → IsNowhere (utf8_of pool) text
  no_text text at = is_nowhere (utf8_of pool) (length pool) text (texts text) (utf8_past pool) at (are.texts text)

  pub signature_found : (name desc : Option ℕ) (place : ℕ) → texts s.name ≡ name → texts s.desc ≡ desc → signature_place keys name desc ≡ Some place → IsFirst (signature_of pool) s place
  signature_found (Some n) (Some d) place named described at =
      first_as_one (signature_of pool) s (key_at firsts pool) (key.Signature n d) (signature_as_one n d (first_text s.name n named) (first_text s.desc d described)) place
      (is_first (key_at firsts pool) (length pool) (key.Signature n d) place (keys (key.Signature n d)) at (are.keys (key.Signature n d)))
  signature_found (Some n) None place named described at = absurd (none-some place at)
  signature_found None desc place named described at = absurd (none-some place at)

  pub signature_missing : (name desc : Option ℕ) → texts s.name ≡ name → texts s.desc ≡ desc → signature_place keys name desc ≡ None → IsNowhere (signature_of pool) s
  signature_missing (Some n) (Some d) named described at =
      nowhere_as_one (signature_of pool) s (key_at firsts pool) (key.Signature n d) (signature_as_one n d (first_text s.name n named) (first_text s.desc d described))
      (is_nowhere (key_at firsts pool) (length pool) (key.Signature n d) (keys (key.Signature n d)) (key_past firsts pool) at (are.keys (key.Signature n d)))
  signature_missing (Some n) None named described at = λ place there. let p = has_signature pool place s there in no_text s.desc described p.1 p.4
  signature_missing None desc named described at = λ place there. let p = has_signature pool place s there in no_text s.name named p.0 p.3

-- ---- what the index answers

pub unnamed : (kind : Naming) (pool : PoolValue) (text : List ℕ) → IsNowhere (utf8_of pool) text → IsNowhere (naming_of kind pool) text
unnamed kind pool text none place there = let n = has_name kind pool place text there in none n.0 n.2

pub text_found : (pool : PoolValue) (index : Index) (text : List ℕ) (place : ℕ) (r : Option ℕ) → IsIndexOf pool index → r ≡ text_place index.texts.entries (λ x. x.items) text → r ≡ Some place
    → IsFirst (utf8_of pool) text place
text_found pool index text place r is read at = is_first (utf8_of pool) (length pool) text place (text_place index.texts.entries (λ x. x.items) text) (sym read ∙ at) (is.tables.texts text)

pub text_nowhere : (pool : PoolValue) (index : Index) (text : List ℕ) (r : Option ℕ) → IsIndexOf pool index → r ≡ text_place index.texts.entries (λ x. x.items) text → r ≡ None
    → IsNowhere (utf8_of pool) text
text_nowhere pool index text r is read at = is_nowhere (utf8_of pool) (length pool) text (text_place index.texts.entries (λ x. x.items) text) (utf8_past pool) (sym read ∙ at) (is.tables.texts text)

pub key_found : (pool : PoolValue) (index : Index) (k : Key) (place : ℕ) (r : Option ℕ) → IsIndexOf pool index → r ≡ key_place index.keys.entries k
    → r ≡ Some place → IsFirst (key_at index.firsts.items pool) k place
key_found pool index k place r is read at = is_first (key_at index.firsts.items pool) (length pool) k place (key_place index.keys.entries k) (sym read ∙ at) (is.tables.keys k)

pub key_nowhere : (pool : PoolValue) (index : Index) (k : Key) (r : Option ℕ) → IsIndexOf pool index → r ≡ key_place index.keys.entries k → r ≡ None → IsNowhere (key_at index.firsts.items pool) k
key_nowhere pool index k r is read at =
    is_nowhere (key_at index.firsts.items pool) (length pool) k (key_place index.keys.entries k) (key_past index.firsts.items pool) (sym read ∙ at) (is.tables.keys k)

pub naming_found : (kind : Naming) (pool : PoolValue) (index : Index) (text : List ℕ) (named r : Option ℕ) (place : ℕ) → IsIndexOf pool index
    → named ≡ text_place index.texts.entries (λ x. x.items) text
    → r ≡ naming_place index.keys.entries kind named → r ≡ Some place → IsFirst (naming_of kind pool) text place
naming_found kind pool index text None r place is read found at = absurd (none-some place (sym found ∙ at))
naming_found kind pool index text (Some name) r place is read found at =
    first_as_one (naming_of kind pool) text (key_at index.firsts.items pool) (key_naming kind name)
    (naming_as_one pool index.firsts.items text name is.tables.standins (text_found pool index text name (Some name) is read refl) kind) place
    (key_found pool index (key_naming kind name) place r is found at)

pub naming_missing : (kind : Naming) (pool : PoolValue) (index : Index) (text : List ℕ) (named r : Option ℕ) → IsIndexOf pool index → named ≡ text_place index.texts.entries (λ x. x.items) text
    → r ≡ naming_place index.keys.entries kind named → r ≡ None → IsNowhere (naming_of kind pool) text
naming_missing kind pool index text None r is read found at = unnamed kind pool text (text_nowhere pool index text None is read refl)
naming_missing kind pool index text (Some name) r is read found at =
    nowhere_as_one (naming_of kind pool) text (key_at index.firsts.items pool) (key_naming kind name)
    (naming_as_one pool index.firsts.items text name is.tables.standins (text_found pool index text name (Some name) is read refl) kind)
    (key_nowhere pool index (key_naming kind name) r is found at)

-- the first place of an entry that names a text, or none
pub first_naming : (kind : Naming) (pool : PoolValue) (index : Index) (text : List ℕ) (named r : Option ℕ) → IsIndexOf pool index → named ≡ text_place index.texts.entries (λ x. x.items) text
    → r ≡ naming_place index.keys.entries kind named → IfSome r (IsFirst (naming_of kind pool) text)
first_naming kind pool index text named None is read found = tt
first_naming kind pool index text named (Some place) is read found = naming_found kind pool index text named (Some place) place is read found refl

pub no_naming : (kind : Naming) (pool : PoolValue) (index : Index) (text : List ℕ) (named r : Option ℕ) → IsIndexOf pool index → named ≡ text_place index.texts.entries (λ x. x.items) text
    → r ≡ naming_place index.keys.entries kind named → IfNone r (IsNowhere (naming_of kind pool) text)
no_naming kind pool index text named None is read found = naming_missing kind pool index text named None is read found refl
no_naming kind pool index text named (Some place) is read found = tt
