-- Fields and methods that are put behind the entries of a pool, and what they lack.
use Rattle.std.proofs.Common.{◌≡◌, ◌≢◌, ◌⊎◌, inl, inr, ℕ, ◌+◌, ◌==◌, Bool, true, false, List, [], ◌∷◌, ◌++◌, length, if◌then◌else◌, Option, Some, None, Err, refl, sym, ◌∙◌, ap, true≢false, arith}
use Rattle.std.proofs.lemmas.Bool.{cases_Bool}
use Rattle.std.proofs.lemmas.Slice.Eq.{bytes_eq-Decides}
use Rattle.std.specs.Str.{bytes_eq}
use Rattle.jc_bytes.specs.declared.fail.Fail.{Fail}
use Rattle.jc_bytes.specs.declared.fail.Fail.TheVariants as fails
use Rattle.jc_pool.specs.declared.add.PoolFull.{PoolFull}
use Rattle.jc_pool.specs.declared.entry.Entry.{Entry}
use Rattle.jc_pool.specs.declared.entry.Entry.TheVariants as entry
use Rattle.jc_pool.specs.declared.index.Key.{Key}
use Rattle.jc_pool.specs.declared.index.Key.TheVariants as key
use Rattle.jc_pool.specs.declared.index.Index.{Index}
use Rattle.jc_pool.specs.declared.index.Naming.TheVariants as naming
use Rattle.jc_pool.specs.Pool.{PoolValue, width, slots_of, IsSmall}
use Rattle.jc_pool.specs.Lookup.{utf8_in, utf8_of, class_name_of, Signature, Member, signature}
use Rattle.jc_pool.specs.Adding.{IsNowhere, Adds, HasUtf8, PutsSignature, HasSignature, entry_of_member, RefusesFull}
use Rattle.jc_pool.specs.Index.{Notes, NotesEntry, text_place, standing_for, key_place, same_key, signature_place, naming_place, AreTables, IsIndexOf, with_text, absent, missing_signature, IsClassed, GrowsBy, Lacks, CountsTo}
use Rattle.jc_pool.proofs.FirstPlaceLaws.{is_first, is_nowhere}
use Rattle.jc_pool.proofs.FirstPlaceMapLaws.{one_key}
use Rattle.jc_pool.proofs.IndexLaws.{same_table}
use Rattle.jc_pool.proofs.OneMoreEntryLaws.{grown_length, utf8_past}
use Rattle.jc_pool.proofs.KeyPlaceLaws.{signature_found, signature_missing, naming_found, naming_missing, text_found, text_nowhere}
use Rattle.jc_pool.proofs.AddingLaws.{put_at_end, text_tables, entry_tables}

-- ---- a text

noted_one : (places : List ℕ → Option ℕ) (text : List ℕ) (place : ℕ) → places text ≡ None → Notes places (with_text places (Some (text, place))) text place place
noted_one places text place none = inr (none, refl, each)
  where
    each : (other : List ℕ) → ((other ≢ text) × (with_text places (Some (text, place)) other ≡ places other)) ⊎ ((other ≡ text) × (with_text places (Some (text, place)) other ≡ Some place))
    each other = elim (cases_Bool (bytes_eq other text)) [
      | inl is ↦ inr ((bytes_eq-Decides other text).0 is, rw is refl)
      | inr differs ↦ inl (λ same. true≢false (sym ((bytes_eq-Decides other text).1 same) ∙ differs), rw differs refl)
    ]

same_one : (places : List ℕ → Option ℕ) (text : List ℕ) (place : ℕ) → places text ≡ Some place → (other : List ℕ) → with_text places (Some (text, place)) other ≡ places other
same_one places text place at other = elim (cases_Bool (bytes_eq other text)) [
  | inl is ↦ rw is (sym (ap places ((bytes_eq-Decides other text).0 is) ∙ at))
  | inr differs ↦ rw differs refl
]

-- a pool with the text, and its tables
record TextPut (pool : PoolValue) (texts : List ℕ → Option ℕ) (firsts : List ℕ) (keys : Key → Option ℕ) (text : List ℕ) : Type 0 where
  named : PoolValue
  at : ℕ
  has : HasUtf8 pool text named at
  size : length named ≡ length pool + absent (texts text)
  tables : AreTables named (with_text texts (Some (text, at))) firsts keys

text_put_at : (pool : PoolValue) (texts : List ℕ → Option ℕ) (firsts : List ℕ) (keys : Key → Option ℕ) (text : List ℕ)
    → AreTables pool texts firsts keys → (r : Option ℕ) → texts text ≡ r → TextPut pool texts firsts keys text
text_put_at pool texts firsts keys text are (Some place) known = record {
  named = pool;
  at = place;
  has = inl (is_first (utf8_of pool) (length pool) text place (texts text) known (are.texts text), refl);
  size = rw known (omega arith);
  tables = record {
    texts = same_table (utf8_of pool) (length pool) texts (with_text texts (Some (text, place))) (same_one texts text place known) are.texts;
    standins = are.standins;
    keys = are.keys;
  };
}
text_put_at pool texts firsts keys text are None none =
    let nowhere : IsNowhere (utf8_of pool) text = is_nowhere (utf8_of pool) (length pool) text (texts text) (utf8_past pool) none (are.texts text) in
    let put = put_at_end pool (entry.Utf8 text) in record {
      named = pool ++ Some (entry.Utf8 text) ∷ [];
      at = length pool;
      has = inr (nowhere, put);
      size = rw none (grown_length pool (entry.Utf8 text));
      tables = text_tables pool (pool ++ Some (entry.Utf8 text) ∷ []) texts (with_text texts (Some (text, length pool))) firsts keys text
          (length pool) (length pool) put (noted_one texts text (length pool) none) nowhere are;
    }

text_put : (pool : PoolValue) (texts : List ℕ → Option ℕ) (firsts : List ℕ) (keys : Key → Option ℕ) (text : List ℕ) → AreTables pool texts firsts keys → TextPut pool texts firsts keys text
text_put pool texts firsts keys text are = text_put_at pool texts firsts keys text are (texts text) refl

-- ---- a name and a descriptor

-- how many places the descriptor lacks behind the name
behind_name : (same : Bool) (place : ℕ) (desc : Option ℕ) → absent (if same then Some place else desc) ≡ (if same then 0 else absent desc)
behind_name true place desc = refl
behind_name false place desc = refl

signature_put : (pool : PoolValue) (texts : List ℕ → Option ℕ) (firsts : List ℕ) (keys : Key → Option ℕ) (s : Signature) → AreTables pool texts firsts keys
    → (new : PoolValue) × (place : ℕ) × PutsSignature pool s new place × (length new ≡ length pool + (absent (texts s.name) + (if bytes_eq s.desc s.name then 0 else absent (texts s.desc)) + 1))
signature_put pool texts firsts keys s are =
    let name = text_put pool texts firsts keys s.name are in
    let desc = text_put name.named (with_text texts (Some (s.name, name.at))) firsts keys s.desc name.tables in
    let size = grown_length desc.named (entry.NameAndType name.at desc.at) in
    let lacks = behind_name (bytes_eq s.desc s.name) name.at (texts s.desc) in (
      desc.named ++ Some (entry.NameAndType name.at desc.at) ∷ [],
      length desc.named,
      (name.named, name.at, name.has, desc.named, desc.at, desc.has, put_at_end desc.named (entry.NameAndType name.at desc.at)),
      size ∙ ap (λ (n : ℕ). n + 1) (desc.size ∙ ap (λ (n : ℕ). length name.named + n) lacks ∙ ap (λ (n : ℕ). n + (if bytes_eq s.desc s.name then 0 else absent (texts s.desc))) name.size)
          ∙ sums (length pool) (absent (texts s.name)) (if bytes_eq s.desc s.name then 0 else absent (texts s.desc)),
    )
  where
    sums : (a b c : ℕ) → (a + b + c) + 1 ≡ a + (b + c + 1)
    sums a b c = omega arith

-- a pool with the name and the descriptor
pub signature_had : (pool : PoolValue) (texts : List ℕ → Option ℕ) (firsts : List ℕ) (keys : Key → Option ℕ) (s : Signature) → AreTables pool texts firsts keys
    → (r : Option ℕ) → signature_place keys (texts s.name) (texts s.desc) ≡ r
    → (new : PoolValue) × (place : ℕ) × HasSignature pool s new place × (length new ≡ length pool + missing_signature r (bytes_eq s.desc s.name) (texts s.name) (texts s.desc))
signature_had pool texts firsts keys s are (Some place) at =
    (pool, place, inl (signature_found pool texts firsts keys are s (texts s.name) (texts s.desc) place refl refl at, refl), omega arith)
signature_had pool texts firsts keys s are None none =
    let put = signature_put pool texts firsts keys s are in
    (put.0, put.1, inr (signature_missing pool texts firsts keys are s (texts s.name) (texts s.desc) refl refl none, put.2), put.3)

-- ---- a member

pub member_narrow : (tag class name_and_type : ℕ) → width (entry_of_member tag class name_and_type) ≡ 1
member_narrow tag class sig = elim (cases_Bool (tag == 9)) [
  | inl field ↦ rw field refl
  | inr other ↦ elim (cases_Bool (tag == 10)) [ inl method ↦ rw (other, method) refl | inr interface ↦ rw (other, interface) refl ]
]

pub member_small : (tag class name_and_type : ℕ) → IsSmall (entry_of_member tag class name_and_type)
member_small tag class sig = elim (cases_Bool (tag == 9)) [
  | inl field ↦ rw field tt
  | inr other ↦ elim (cases_Bool (tag == 10)) [ inl method ↦ rw (other, method) tt | inr interface ↦ rw (other, interface) tt ]
]

pub member_textless : (tag class name_and_type : ℕ) → utf8_in (entry_of_member tag class name_and_type) ≡ None
member_textless tag class sig = elim (cases_Bool (tag == 9)) [
  | inl field ↦ rw field refl
  | inr other ↦ elim (cases_Bool (tag == 10)) [ inl method ↦ rw (other, method) refl | inr interface ↦ rw (other, interface) refl ]
]

-- the place of a name with its descriptor is that of the index
same_signature : (keys other : Key → Option ℕ) → ((a b : ℕ) → keys (key.Signature a b) ≡ other (key.Signature a b)) → (name desc : Option ℕ)
    → signature_place keys name desc ≡ signature_place other name desc
same_signature keys other same (Some a) (Some b) = same a b
same_signature keys other same (Some a) None = refl
same_signature keys other same None desc = refl

-- what a member lacks is what its class lacks, then what its name and descriptor lack, and one place
pub member_lacks : (pool : PoolValue) (index : Index) (m : Member) (missing count : ℕ) (put : Option (List ℕ × ℕ)) (name desc found : Option ℕ) (same : Bool) → IsClassed pool index m.class missing put
    → name ≡ with_text (text_place index.texts.entries (λ x. x.items)) put m.name → desc ≡ with_text (text_place index.texts.entries (λ x. x.items)) put m.desc
    → found ≡ signature_place (key_place index.keys.entries) name desc → same ≡ bytes_eq m.desc m.name → count ≡ missing + missing_signature found same name desc + 1 → Lacks pool m count
member_lacks pool index m missing count put name desc found same is named described place_is same_is counts =
    let texts : List ℕ → Option ℕ = with_text (text_place index.texts.entries (λ x. x.items)) put in
    let there : signature_place is.keys (texts m.name) (texts m.desc) ≡ found =
    same_signature is.keys (key_place index.keys.entries) is.signatures (texts m.name) (texts m.desc)
    ∙ sym (place_is ∙ (λ i. signature_place (key_place index.keys.entries) (named i) (described i))) in
    let signed = signature_had is.classed texts index.firsts.items is.keys (signature m) is.tables found there in
    let last : Entry = entry_of_member m.tag is.place signed.1 in
    let lacks : missing_signature found same name desc ≡ missing_signature found (bytes_eq m.desc m.name) (texts m.name) (texts m.desc) =
    (λ i. missing_signature found (same_is i) (named i) (described i)) in (
      signed.0 ++ slots_of last,
      length signed.0,
      (is.classed, is.place, is.has, signed.0, signed.1, signed.2, put_at_end signed.0 last),
      grown_length signed.0 last
          ∙ total (width last) (length signed.0) (length is.classed) (missing_signature found (bytes_eq m.desc m.name) (texts m.name) (texts m.desc))
          (missing_signature found same name desc) (length pool) missing
          (member_narrow m.tag is.place signed.1) signed.3 is.size lacks
          ∙ ap (λ (n : ℕ). length pool + n) (sym counts),
    )
  where
    total : (w l c s t p a : ℕ) → w ≡ 1 → l ≡ c + s → c ≡ p + a → t ≡ s → l + w ≡ p + (a + t + 1)
    total w l c s t p a narrow signed classed same = omega (arith, narrow, signed, classed, same)

-- ---- the class

-- a table with the key of a class, where others stay
record ClassNoted (firsts : List ℕ) (keys : Key → Option ℕ) (at place : ℕ) : Type 0 where
  more : Key → Option ℕ
  notes : NotesEntry keys more (Some (key.Class (standing_for firsts at))) place
  others : (a b : ℕ) → more (key.Signature a b) ≡ keys (key.Signature a b)

abbrev with_key : (Key → Option ℕ) → Key → ℕ → Key → Option ℕ
with_key keys k place other = if same_key other k then Some place else keys other

noted_key : (keys : Key → Option ℕ) (k : Key) (place : ℕ) (other : Key) → ((other ≢ k) × (with_key keys k place other ≡ keys other)) ⊎ ((other ≡ k) × (with_key keys k place other ≡ Some place))
noted_key keys k place other = elim (cases_Bool (same_key other k)) [
  | inl is ↦ inr ((one_key other k).0 is, rw is refl)
  | inr differs ↦ inl (λ same. true≢false (sym ((one_key other k).1 same) ∙ differs), rw differs refl)
]

class_noted : (firsts : List ℕ) (keys : Key → Option ℕ) (at place : ℕ) (r : Option ℕ) → keys (key.Class (standing_for firsts at)) ≡ r → ClassNoted firsts keys at place
class_noted firsts keys at place (Some first) is = record { more = keys; notes = (first, inl (is, λ k. refl)); others = λ a b. refl }
class_noted firsts keys at place None none = record {
  more = with_key keys (key.Class (standing_for firsts at)) place;
  notes = (place, inr (none, refl, noted_key keys (key.Class (standing_for firsts at)) place));
  others = λ a b. refl;
}

class_put : (pool named : PoolValue) (index : Index) (class : List ℕ) (at missing : ℕ) (put : Option (List ℕ × ℕ)) → IsNowhere (class_name_of pool) class → HasUtf8 pool class named at
    → AreTables named (with_text (text_place index.texts.entries (λ x. x.items)) put) index.firsts.items (key_place index.keys.entries) → length named + 1 ≡ length pool + missing
    → IsClassed pool index class missing put
class_put pool named index class at missing put none named_there are size =
    let noted = class_noted index.firsts.items (key_place index.keys.entries) at (length named) (key_place index.keys.entries (key.Class (standing_for index.firsts.items at))) refl in
    let last = put_at_end named (entry.Class at) in record {
      classed = named ++ Some (entry.Class at) ∷ [];
      place = length named;
      has = inr (none, (named, at, named_there, last));
      size = grown_length named (entry.Class at) ∙ size;
      keys = noted.more;
      tables = entry_tables named (named ++ Some (entry.Class at) ∷ []) (with_text (text_place index.texts.entries (λ x. x.items)) put)
          index.firsts.items (key_place index.keys.entries) noted.more (entry.Class at) (length named)
          refl last noted.notes are;
      signatures = noted.others;
    }

-- where the class stands, where its name alone does, and where neither does
pub class_there : (pool : PoolValue) (index : Index) (class : List ℕ) (named r : Option ℕ) (place : ℕ) → IsIndexOf pool index → named ≡ text_place index.texts.entries (λ x. x.items) class
    → r ≡ naming_place index.keys.entries naming.Class named → r ≡ Some place → IsClassed pool index class 0 None
class_there pool index class named r place is read found at = record {
  classed = pool;
  place = place;
  has = inl (naming_found naming.Class pool index class named r place is read found at, refl);
  size = omega arith;
  keys = key_place index.keys.entries;
  tables = is.tables;
  signatures = λ a b. refl;
}

pub name_there : (pool : PoolValue) (index : Index) (class : List ℕ) (named r : Option ℕ) (at : ℕ) → IsIndexOf pool index → named ≡ text_place index.texts.entries (λ x. x.items) class
    → r ≡ naming_place index.keys.entries naming.Class named → r ≡ None → named ≡ Some at → IsClassed pool index class 1 None
name_there pool index class named r at is read found none there =
    class_put pool pool index class at 1 None (naming_missing naming.Class pool index class named r is read found none) (inl (text_found pool index class at named is read there, refl)) is.tables refl

pub class_new : (pool : PoolValue) (index : Index) (class : List ℕ) (named r : Option ℕ) → IsIndexOf pool index → named ≡ text_place index.texts.entries (λ x. x.items) class
    → r ≡ naming_place index.keys.entries naming.Class named → r ≡ None → named ≡ None → IsClassed pool index class 2 (Some (class, length pool))
class_new pool index class named r is read found none unnamed =
    let nowhere = text_nowhere pool index class named is read unnamed in
    let put = put_at_end pool (entry.Utf8 class) in
    let size = grown_length pool (entry.Utf8 class) in
    class_put pool (pool ++ Some (entry.Utf8 class) ∷ []) index class (length pool) 2 (Some (class, length pool))
    (naming_missing naming.Class pool index class named r is read found none) (inr (nowhere, put))
    (text_tables pool (pool ++ Some (entry.Utf8 class) ∷ []) (text_place index.texts.entries (λ x. x.items))
    (with_text (text_place index.texts.entries (λ x. x.items)) (Some (class, length pool))) index.firsts.items
    (key_place index.keys.entries) class (length pool) (length pool) put (noted_one (text_place index.texts.entries (λ x. x.items)) class (length pool) (sym read ∙ unnamed)) nowhere is.tables)
    (omega (arith, size))

-- ---- refusals

pub growth_refused : {K : Type 0} (X Y : Type 0) (found : PoolValue → ℕ → Option K) (k : K) (pool : PoolValue) (Put : PoolValue → ℕ → Type 0) (missing : ℕ) (fail : Fail PoolFull)
    → IsNowhere (found pool) k → GrowsBy pool Put missing → CountsTo {X = X} (Err fail) (length pool + missing) → RefusesFull {X = Y} (Adds found k pool Put) (Err fail)
growth_refused X Y found k pool Put missing fails.Memory none grows counts = tt
growth_refused X Y found k pool Put missing (fails.Said full) none grows counts = (grows.0, grows.1, inr (none, grows.2), grows.3 ∙ sym counts.0, omega (arith, counts.0, counts.1))
