-- Entries that are put behind the others.
use Rattle.std.proofs.Common.{◌≡◌, inl, inr, ℕ, ℤ, ◌+◌, ◌<◌, ◌≤◌, List, [], ◌∷◌, ◌++◌, length, take, IfOk, IsTrue, OnErr, Option, Some, None, Result, Ok, Err, refl, sym, ◌∙◌, ap, subst, arith, append_assoc}
use Rattle.std.proofs.Math.Seq.{take-append_seam}
use Rattle.std.proofs.lemmas.List.{append-nil}
use Rattle.std.proofs.lemmas.Option.{none-some, same_Some}
use Rattle.jc_bytes.specs.declared.fail.Fail.{Fail}
use Rattle.jc_bytes.specs.declared.fail.Fail.TheVariants as fails
use Rattle.jc_bytes.specs.Decoder.{◌>>=◌}
use Rattle.jc_bytes.specs.Texts.{IsShortText}
use Rattle.jc_pool.specs.declared.add.PoolFull.{PoolFull}
use Rattle.jc_pool.specs.declared.entry.Entry.{Entry}
use Rattle.jc_pool.specs.declared.entry.Entry.TheVariants as entry
use Rattle.jc_pool.specs.declared.index.Key.{Key}
use Rattle.jc_pool.specs.declared.index.Index.{Index}
use Rattle.jc_pool.specs.declared.index.Naming.{Naming}
use Rattle.jc_pool.specs.declared.index.Naming.TheVariants as naming
use Rattle.jc_pool.specs.Pool.{PoolValue, width, slots_of, IsSmall, IsPool}
use Rattle.jc_pool.specs.Lookup.{utf8_in, utf8_of, Signature, signature_of, Member, signature, member_of}
use Rattle.jc_pool.specs.Adding.{IsNowhere, IsPut, IsPutAs, Adds, HasUtf8, PutsNaming, HasClass, PutsSignature, HasSignature, PutsMember, HasMember, entry_of_member, RefusesFull, Extends}
use Rattle.jc_pool.specs.Index.{IsFirstBelow, Notes, NotesEntry, text_place, key_in, slot_key, key_place, entry_naming, naming_of, HasNaming, AreTables, AreMembersOf, IsIndexOf, NamesWithin, member_key_at, missing, CountsTo}
use Rattle.jc_pool.proofs.FirstPlaceLaws.{is_nowhere}
use Rattle.jc_pool.proofs.KeyPlaceLaws.{AreAsOne, ok_as_one, full_as_one}
use Rattle.jc_pool.proofs.MemberTableLaws.{text_members, members_put}
use Rattle.jc_pool.proofs.OneMoreEntryLaws.{grown_length, by_slots, utf8_past, texts_stay, texts_grow, text_standins, keys_grow, put_pool}

-- ---- the index

-- the lists and maps of an index are those of another
pub record IsSameButTexts (old new : Index) : Type 0 where
  pub firsts : new.firsts.items ≡ old.firsts.items
  pub keys : new.keys.entries ≡ old.keys.entries
  pub members : new.members.keys.entries ≡ old.members.keys.entries
  pub within : new.members.within ≡ old.members.within

-- a text is put, and its place noted
pub text_tables : (pool new : PoolValue) (old more : List ℕ → Option ℕ) (firsts : List ℕ) (keys : Key → Option ℕ) (text : List ℕ) (place first : ℕ) → IsPut pool new (entry.Utf8 text) place
    → Notes old more text place first → IsNowhere (utf8_of pool) text → AreTables pool old firsts keys → AreTables new more firsts keys
text_tables pool new old more firsts keys text place first put notes none is = subst (λ (l : PoolValue). AreTables l more firsts keys) (sym put.grown) (record {
  texts = texts_grow pool text old more place first put.last notes is.texts;
  standins = text_standins pool (Some (entry.Utf8 text)) firsts (λ t at. subst (IsNowhere (utf8_of pool)) (same_Some text t at) none) is.standins;
  keys = keys_grow firsts pool (Some (entry.Utf8 text)) keys keys (length pool) refl (λ k. refl) is.keys;
})

pub text_indexed : (pool new : PoolValue) (old index : Index) (text : List ℕ) (place first : ℕ) → IsSameButTexts old index → IsPut pool new (entry.Utf8 text) place
    → Notes (text_place old.texts.entries (λ x. x.items)) (text_place index.texts.entries (λ x. x.items)) text place first → IsNowhere (utf8_of pool) text → IsIndexOf pool old → IsIndexOf new index
text_indexed pool new old index text place first same put notes none is = record {
  tables =
      subst (λ (l : List ℕ). AreTables new (text_place index.texts.entries (λ x. x.items)) l (key_place index.keys.entries)) (sym same.firsts)
      (subst (λ l. AreTables new (text_place index.texts.entries (λ x. x.items)) old.firsts.items (key_place l)) (sym same.keys)
      (text_tables pool new (text_place old.texts.entries (λ x. x.items)) (text_place index.texts.entries (λ x. x.items)) old.firsts.items
      (key_place old.keys.entries) text place first put notes none is.tables));
  members = λ within.
      subst (λ (l : List ℕ). AreMembersOf new l (key_place index.members.keys.entries)) (sym same.firsts)
      (subst (λ l. AreMembersOf new old.firsts.items (key_place l)) (sym same.members)
      (text_members old.firsts.items pool new (key_place old.members.keys.entries) text place put (is.members (subst IsTrue same.within within))));
}

-- one place more, off which no text is read, and whose key is noted
slot_tables : (pool : PoolValue) (texts : List ℕ → Option ℕ) (firsts : List ℕ) (old more : Key → Option ℕ) (slot : Option Entry) (place : ℕ) → (slot >>= utf8_in) ≡ None → place ≡ length pool
    → NotesEntry old more (slot_key firsts slot) place → AreTables pool texts firsts old → AreTables (pool ++ slot ∷ []) texts firsts more
slot_tables pool texts firsts old more slot place none last notes is = record {
  texts = texts_stay pool slot texts none is.texts;
  standins = text_standins pool slot firsts (λ t at. absurd (none-some t (sym none ∙ at))) is.standins;
  keys = keys_grow firsts pool slot old more place last notes is.keys;
}

-- an entry of no text is put, and its key noted
pub entry_tables : (pool new : PoolValue) (texts : List ℕ → Option ℕ) (firsts : List ℕ) (old more : Key → Option ℕ) (e : Entry) (place : ℕ) → utf8_in e ≡ None → IsPut pool new e place
    → NotesEntry old more (key_in firsts e) place → AreTables pool texts firsts old → AreTables new texts firsts more
entry_tables pool new texts firsts old more e place none put notes is =
    subst (λ (l : PoolValue). AreTables l texts firsts more) (sym put.grown)
    (by_slots (λ l. AreTables l texts firsts more) pool e (slot_tables pool texts firsts old more (Some e) place none put.last notes is)
    (λ one. slot_tables (pool ++ Some e ∷ []) texts firsts more more None (length (pool ++ Some e ∷ [])) refl refl (λ k. refl) one))

pub entry_indexed : (pool new : PoolValue) (old index : Index) (e : Entry) (place : ℕ) → index.firsts.items ≡ old.firsts.items → index.texts.entries ≡ old.texts.entries → utf8_in e ≡ None
    → NamesWithin (length pool) (Some e) → IsPut pool new e place → NotesEntry (key_place old.keys.entries) (key_place index.keys.entries) (key_in old.firsts.items e) place
    → NotesEntry (key_place old.members.keys.entries) (key_place index.members.keys.entries) (member_key_at old.firsts.items new place) place
    → index.members.within ≡ old.members.within → IsIndexOf pool old → IsIndexOf new index
entry_indexed pool new old index e place firsts texts none within put notes member_notes same is = record {
  tables =
      subst (λ (l : List ℕ). AreTables new (text_place index.texts.entries (λ x. x.items)) l (key_place index.keys.entries)) (sym firsts)
      (subst (λ l. AreTables new (text_place l (λ x. x.items)) old.firsts.items (key_place index.keys.entries)) (sym texts)
      (entry_tables pool new (text_place old.texts.entries (λ x. x.items)) old.firsts.items (key_place old.keys.entries) (key_place index.keys.entries) e place none put notes is.tables));
  members = λ looked_at.
      subst (λ (l : List ℕ). AreMembersOf new l (key_place index.members.keys.entries)) (sym firsts)
      (members_put old.firsts.items pool new e place put within (key_place old.members.keys.entries) (key_place index.members.keys.entries)
      (is.members (subst IsTrue same looked_at)) member_notes);
}

-- ---- texts

pub put_at_end : (pool : PoolValue) (e : Entry) → IsPut pool (pool ++ slots_of e) e (length pool)
put_at_end pool e = record { grown = refl; last = refl }

pub text_refused : (X Y : Type 0) (pool : PoolValue) (text : List ℕ) (fail : Fail PoolFull) → IsNowhere (utf8_of pool) text → CountsTo {X = X} (Err fail) (length pool + 1)
    → RefusesFull {X = Y} (HasUtf8 pool text) (Err fail)
text_refused X Y pool text fails.Memory none counts = tt
text_refused X Y pool text (fails.Said full) none counts = (
  pool ++ Some (entry.Utf8 text) ∷ [],
  length pool,
  inr (none, put_at_end pool (entry.Utf8 text)),
  grown_length pool (entry.Utf8 text) ∙ sym counts.0,
  omega (arith, counts.0, counts.1),
)

pub text_has : {E : Type 0} (pool new : PoolValue) (text : List ℕ) (r : Result ℕ E) → IsNowhere (utf8_of pool) text → IfOk r (IsPut pool new (entry.Utf8 text)) → IfOk r (HasUtf8 pool text new)
text_has pool new text (Ok place) none put = inr (none, put)
text_has pool new text (Err e) none put = tt

pub utf8_pool : (pool new : PoolValue) (text : List ℕ) (place : ℕ) → IsShortText text → length new ≤ 65535 → HasUtf8 pool text new place → IsPool pool → IsPool new
utf8_pool pool new text place short few (inl there) is = subst IsPool (sym there.1) is
utf8_pool pool new text place short few (inr put) is =
    let size = grown_length pool (entry.Utf8 text) in
    subst IsPool (sym put.1.grown) (put_pool pool (entry.Utf8 text) (omega (arith, short)) (omega (arith, few, ap length put.1.grown, size)) is)

-- ---- entries that name a text

pub naming_narrow : (kind : Naming) (at : ℕ) → width (entry_naming kind at) ≡ 1
naming_narrow naming.Class at = refl
naming_narrow naming.String at = refl

pub naming_small : (kind : Naming) (at : ℕ) → IsSmall (entry_naming kind at)
naming_small naming.Class at = tt
naming_small naming.String at = tt

pub naming_textless : (kind : Naming) (at : ℕ) → utf8_in (entry_naming kind at) ≡ None
naming_textless naming.Class at = refl
naming_textless naming.String at = refl

pub naming_within : (kind : Naming) (at end : ℕ) → NamesWithin end (Some (entry_naming kind at))
naming_within naming.Class at end = tt
naming_within naming.String at end = tt

-- the pool with the name, and the place of the name in it
pub named_text : (pool : PoolValue) (name : List ℕ) (at : ℕ) → IsFirstBelow (length pool) (utf8_of pool) name (Some at) → HasUtf8 pool name pool at
named_text pool name at is = inl (is.1, refl)

pub unnamed_nowhere : (pool : PoolValue) (name : List ℕ) → IsFirstBelow (length pool) (utf8_of pool) name None → IsNowhere (utf8_of pool) name
unnamed_nowhere pool name is = is_nowhere (utf8_of pool) (length pool) name None (utf8_past pool) refl is

pub naming_refused : (X Y : Type 0) (kind : Naming) (pool : PoolValue) (name : List ℕ) (named : Option ℕ) (fail : Fail PoolFull) → IsFirstBelow (length pool) (utf8_of pool) name named
    → IsNowhere (naming_of kind pool) name → CountsTo {X = X} (Err fail) (length pool + missing named) → RefusesFull {X = Y} (HasNaming kind pool name) (Err fail)
naming_refused X Y kind pool name named fails.Memory first none counts = tt
naming_refused X Y kind pool name None (fails.Said full) first none counts =
    let with_name : PoolValue = pool ++ Some (entry.Utf8 name) ∷ [] in
    let last : Entry = entry_naming kind (length pool) in
    let grown = grown_length with_name last in
    let narrow = naming_narrow kind (length pool) in
    let before = grown_length pool (entry.Utf8 name) in (
      with_name ++ slots_of last,
      length with_name,
      inr (none, (with_name, length pool, inr (unnamed_nowhere pool name first, put_at_end pool (entry.Utf8 name)), put_at_end with_name last)),
      omega (arith, grown, narrow, before, counts.0),
      omega (arith, counts.0, counts.1),
    )
naming_refused X Y kind pool name (Some at) (fails.Said full) first none counts =
    let last : Entry = entry_naming kind at in
    let grown = grown_length pool last in
    let narrow = naming_narrow kind at in (
      pool ++ slots_of last,
      length pool,
      inr (none, (pool, at, named_text pool name at first, put_at_end pool last)),
      omega (arith, grown, narrow, counts.0),
      omega (arith, counts.0, counts.1),
    )

pub naming_pool : (kind : Naming) (pool named new : PoolValue) (name : List ℕ) (at place : ℕ) → IsShortText name → length named < 65535
    → HasUtf8 pool name named at → IsPut named new (entry_naming kind at) place
    → IsPool pool → IsPool new
naming_pool kind pool named new name at place short few has put is =
    let narrow = naming_narrow kind at in
    subst IsPool (sym put.grown) (put_pool named (entry_naming kind at) (naming_small kind at) (omega (arith, narrow, few)) (utf8_pool pool named name at short (omega (arith, few)) has is))

-- ---- numbers

pub put_refused : {K : Type 0} (X Y : Type 0) (found : PoolValue → ℕ → Option K) (k : K) (pool : PoolValue) (e : Entry) (fail : Fail PoolFull) → IsNowhere (found pool) k
    → CountsTo {X = X} (Err fail) (length pool + width e) → RefusesFull {X = Y} (Adds found k pool (IsPutAs pool e)) (Err fail)
put_refused X Y found k pool e fails.Memory none counts = tt
put_refused X Y found k pool e (fails.Said full) none counts =
    (pool ++ slots_of e, length pool, inr (none, put_at_end pool e), grown_length pool e ∙ sym counts.0, omega (arith, counts.0, counts.1))

-- an entry with such a key is no member
pub keyed_within : (firsts : List ℕ) (e : Entry) (k : Key) (end : ℕ) → key_in firsts e ≡ Some k → NamesWithin end (Some e)
keyed_within firsts (entry.Fieldref class sig) k end is = absurd (none-some k is)
keyed_within firsts (entry.Methodref class sig) k end is = absurd (none-some k is)
keyed_within firsts (entry.InterfaceMethodref class sig) k end is = absurd (none-some k is)
keyed_within firsts e k end is = tt

textless_small : (e : Entry) → utf8_in e ≡ None → IsSmall e
textless_small (entry.Utf8 text) none = absurd (none-some text (sym none))
textless_small e none = tt

pub number_pool : (pool new : PoolValue) (e : Entry) (place : ℕ) → utf8_in e ≡ None → length pool + width e ≤ 65535 → IsPut pool new e place → IsPool pool → IsPool new
number_pool pool new e place none few put is = subst IsPool (sym put.grown) (put_pool pool e (textless_small e none) few is)

-- ---- what extends a pool

pub same_extends : (old new : PoolValue) → new ≡ old → Extends old new
same_extends old new same = ([], same ∙ sym (append-nil old))

pub more_extends : (old named new : PoolValue) (e : Entry) (place : ℕ) → Extends old named → IsPut named new e place → Extends old new
more_extends old named new e place more put = (more.0 ++ slots_of e, put.grown ∙ ap (λ (l : PoolValue). l ++ slots_of e) more.1 ∙ append_assoc old more.0 (slots_of e))

-- what stood in front of all that was put
pub taken_back : (old new : PoolValue) (n : ℕ) → n ≡ length old → Extends old new → take n new ≡ old
taken_back old new n is more = (λ i. take (is i) (more.1 i)) ∙ take-append_seam old more.0

pub put_extends : (old new : PoolValue) (e : Entry) (place : ℕ) → IsPut old new e place → Extends old new
put_extends old new e place put = (slots_of e, put.grown)

pub extends_more : (old named new : PoolValue) → Extends old named → Extends named new → Extends old new
extends_more old named new more after = (more.0 ++ after.0, after.1 ∙ ap (λ (l : PoolValue). l ++ after.0) more.1 ∙ append_assoc old more.0 after.0)

module _ {X : Type 0} (found : PoolValue → ℕ → Option X) (what : X) (old : PoolValue) (Put : PoolValue → ℕ → Type 0) (extends : (new : PoolValue) (place : ℕ) → Put new place → Extends old new) where
  pub adds_extends : (new : PoolValue) (place : ℕ) → Adds found what old Put new place → Extends old new
  adds_extends new place (inl there) = same_extends old new there.1
  adds_extends new place (inr put) = extends new place put.1

-- what a call says that was to add what is asked for, of the pool that was seen before it
pub record IsAdded (Asked : PoolValue → ℕ → Type 0) (seen new : PoolValue) (r : Result ℕ (Fail PoolFull)) : Type 0 where
  pub ok : IfOk r (Asked new)
  pub full : RefusesFull Asked r
  pub extends : Extends seen new

pub added : (Asked : PoolValue → PoolValue → ℕ → Type 0) (old seen new : PoolValue) (r : Result ℕ (Fail PoolFull))
    → ((place : ℕ) → Asked old new place → Extends old new) → old ≡ seen → IfOk r (Asked old new) → RefusesFull (Asked old) r → OnErr r (new ≡ old)
    → IsAdded (Asked seen) seen new r
added Asked old seen new r extends same ok full kept =
    subst (λ (l : PoolValue). IsAdded (Asked l) l new r) same (record { ok = ok; full = full; extends = by r ok kept })
  where
    by : (r : Result ℕ (Fail PoolFull)) → IfOk r (Asked old new) → OnErr r (new ≡ old) → Extends old new
    by (Ok place) has kept = extends place has
    by (Err fail) has kept = same_extends old new kept

-- a number is looked up by its key, whose number is the same
pub number_added : (found : PoolValue → ℕ → Option ℤ) (make : ℤ → Entry) (keyed : PoolValue → ℕ → Option Key) (key : ℤ → Key) (old seen new : PoolValue)
    (given value : ℤ) (r : Result ℕ (Fail PoolFull)) → given ≡ value → AreAsOne (found old) value (keyed old) (key value) → old ≡ seen
    → IfOk r (Adds keyed (key given) old (IsPutAs old (make given)) new) → RefusesFull (Adds keyed (key given) old (IsPutAs old (make given))) r
    → OnErr r (new ≡ old) → IsAdded (Adds found value seen (IsPutAs seen (make value))) seen new r
number_added found make keyed key old seen new given value r same as_one view ok full kept =
    let Asked : PoolValue → PoolValue → ℕ → Type 0 = λ l. Adds found value l (IsPutAs l (make value)) in
    let Keyed : ℤ → PoolValue → ℕ → Type 0 = λ v. Adds keyed (key v) old (IsPutAs old (make v)) in
    added Asked old seen new r
    (λ place. adds_extends found value old (IsPutAs old (make value)) (λ l p put. put_extends old l (make value) p put) new place) view
    (ok_as_one found value keyed (key value) old (IsPutAs old (make value)) as_one r new (subst (λ (v : ℤ). IfOk r (Keyed v new)) same ok))
    (full_as_one found value keyed (key value) old (IsPutAs old (make value)) as_one r (subst (λ (v : ℤ). RefusesFull (Keyed v) r) same full)) kept

pub utf8_extends : (old new : PoolValue) (text : List ℕ) (place : ℕ) → HasUtf8 old text new place → Extends old new
utf8_extends old new text place has = adds_extends utf8_of text old (IsPutAs old (entry.Utf8 text)) (λ l p put. put_extends old l (entry.Utf8 text) p put) new place has

pub naming_extends : (old new : PoolValue) (text : List ℕ) (naming : ℕ → Entry) (place : ℕ) → PutsNaming old text naming new place → Extends old new
naming_extends old new text naming place put = more_extends old put.0 new (naming put.1) place (utf8_extends old put.0 text put.1 put.2) put.3

pub has_naming_extends : (kind : Naming) (old new : PoolValue) (text : List ℕ) (place : ℕ) → HasNaming kind old text new place → Extends old new
has_naming_extends kind old new text place has =
    adds_extends (naming_of kind) text old (PutsNaming old text (entry_naming kind)) (λ l p put. naming_extends old l text (entry_naming kind) p put) new place has

pub class_extends : (old new : PoolValue) (name : List ℕ) (place : ℕ) → HasClass old name new place → Extends old new
class_extends old new name place has = has_naming_extends naming.Class old new name place has

pub signature_put_extends : (old new : PoolValue) (s : Signature) (place : ℕ) → PutsSignature old s new place → Extends old new
signature_put_extends old new s place put =
    extends_more old put.0 new (utf8_extends old put.0 s.name put.1 put.2)
    (extends_more put.0 put.3 new (utf8_extends put.0 put.3 s.desc put.4 put.5) (put_extends put.3 new (entry.NameAndType put.1 put.4) place put.6))

pub signature_extends : (old new : PoolValue) (s : Signature) (place : ℕ) → HasSignature old s new place → Extends old new
signature_extends old new s place has = adds_extends signature_of s old (PutsSignature old s) (λ l p put. signature_put_extends old l s p put) new place has

pub member_put_extends : (old new : PoolValue) (m : Member) (place : ℕ) → PutsMember old m new place → Extends old new
member_put_extends old new m place put =
    extends_more old put.0 new (has_naming_extends naming.Class old put.0 m.class put.1 put.2)
    (extends_more put.0 put.3 new (signature_extends put.0 put.3 (signature m) put.4 put.5) (put_extends put.3 new (entry_of_member m.tag put.1 put.4) place put.6))

pub member_extends : (old new : PoolValue) (m : Member) (place : ℕ) → HasMember old m new place → Extends old new
member_extends old new m place has = adds_extends member_of m old (PutsMember old m) (λ l p put. member_put_extends old l m p put) new place has
