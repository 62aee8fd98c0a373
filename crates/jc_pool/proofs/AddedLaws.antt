-- What stands in a pool to which entries were added.
use Rattle.std.proofs.Common.{◌≡◌, ◌≢◌, ◌⊎◌, inl, inr, ℕ, ℤ, zero, suc, ◌<◌, ◌≤◌, Bool, List, [], ◌∷◌, ◌++◌, length, Option, Some, None, Decides, int_eq, refl, sym, ◌∙◌, ap, subst, true≢false, arith}
use Rattle.std.proofs.lemmas.Bool.{cases_Bool, cases_lt}
use Rattle.std.proofs.lemmas.Bool.Decides.{Decides-int_eq}
use Rattle.std.proofs.lemmas.Option.{none-some, same_Some}
use Rattle.std.proofs.lemmas.Slice.Eq.{bytes_eq-Decides}
use Rattle.std.specs.Str.{bytes_eq}
use Rattle.jc_bytes.specs.Decoder.{◌>>=◌}
use Rattle.jc_pool.specs.declared.entry.Entry.{Entry}
use Rattle.jc_pool.specs.declared.entry.Entry.TheVariants as entry
use Rattle.jc_pool.specs.declared.index.Naming.{Naming}
use Rattle.jc_pool.specs.declared.index.Naming.TheVariants as naming
use Rattle.jc_pool.specs.Pool.{PoolValue, slots_of}
use Rattle.jc_pool.specs.Lookup.{entry_of, utf8_in, utf8_of, class_name_of, integer_in, integer_of, long_in, long_of}
use Rattle.jc_pool.specs.Adding.{IsFirst, IsNowhere, IsPut, IsPutAs, Adds, HasUtf8, PutsNaming, HasClass, HasInteger, HasLong, Extends}
use Rattle.jc_pool.specs.Index.{entry_naming, naming_of, HasNaming}
use Rattle.jc_pool.proofs.FirstPlaceLaws.{one_first}
use Rattle.jc_pool.proofs.OneMoreEntryLaws.{one_more, by_slots, slot_put, entry_stays, entry_put, entry_past, read_off, stays, past, utf8_stays, utf8_past, utf8_put}
use Rattle.jc_pool.proofs.KeyPlaceLaws.{has_name, is_named, naming_past}
use Rattle.jc_pool.proofs.AddingLaws.{put_at_end, put_extends}

-- ---- what stood there

read_kept : {X : Type 0} (f : Entry → Option X) (old new : PoolValue) (x : X) (place : ℕ) → Extends old new → read_off f old place ≡ Some x → read_off f new place ≡ Some x
read_kept f old new x place more at = elim (cases_lt place (length old)) [
  | inl less ↦ ap (λ (l : PoolValue). read_off f l place) more.1 ∙ stays f old more.0 place less ∙ at
  | inr behind ↦ absurd (none-some x (sym (past f old place behind) ∙ at))
]

pub utf8_kept : (old new : PoolValue) (text : List ℕ) (place : ℕ) → Extends old new → utf8_of old place ≡ Some text → utf8_of new place ≡ Some text
unfolding utf8_of
utf8_kept old new text place more at = read_kept utf8_in old new text place more at

pub integer_kept : (old new : PoolValue) (value : ℤ) (place : ℕ) → Extends old new → integer_of old place ≡ Some value → integer_of new place ≡ Some value
unfolding integer_of
integer_kept old new value place more at = read_kept integer_in old new value place more at

pub long_kept : (old new : PoolValue) (value : ℤ) (place : ℕ) → Extends old new → long_of old place ≡ Some value → long_of new place ≡ Some value
unfolding long_of
long_kept old new value place more at = read_kept long_in old new value place more at

pub entry_kept : (old new : PoolValue) (e : Entry) (place : ℕ) → Extends old new → entry_of old place ≡ Some e → entry_of new place ≡ Some e
entry_kept old new e place more at = elim (cases_lt place (length old)) [
  | inl less ↦ ap (λ (l : PoolValue). entry_of l place) more.1 ∙ entry_stays old more.0 place less ∙ at
  | inr behind ↦ absurd (none-some e (sym (entry_past old place behind) ∙ at))
]

pub naming_kept : (kind : Naming) (old new : PoolValue) (name : List ℕ) (place : ℕ) → Extends old new → naming_of kind old place ≡ Some name → naming_of kind new place ≡ Some name
naming_kept kind old new name place more at =
    let n = has_name kind old place name at in
    is_named kind new place n.0 name (entry_kept old new (entry_naming kind n.0) place more n.1) (utf8_kept old new name n.0 more n.2)

-- ---- what was added

pub put_stands : (old new : PoolValue) (e : Entry) (place : ℕ) → IsPut old new e place → entry_of new place ≡ Some e
put_stands old new e place put = (λ i. entry_of (put.grown i) (put.last i)) ∙ entry_put old e

module _ {X : Type 0} (found : PoolValue → ℕ → Option X) (what : X) (old : PoolValue) (Put : PoolValue → ℕ → Type 0) (new : PoolValue) (place : ℕ) where
  -- what is asked for is found at the place
  pub added_there : (Put new place → found new place ≡ Some what) → Adds found what old Put new place → found new place ≡ Some what
  added_there there (inl has) = ap (λ (l : PoolValue). found l place) has.1 ∙ has.0.there
  added_there there (inr put) = there put.1

pub utf8_there : (old new : PoolValue) (text : List ℕ) (place : ℕ) → HasUtf8 old text new place → utf8_of new place ≡ Some text
utf8_there old new text place has =
    added_there utf8_of text old (IsPutAs old (entry.Utf8 text)) new place (λ put. (λ i. utf8_of (put.grown i) (put.last i)) ∙ utf8_put old (entry.Utf8 text)) has

number_put : {X : Type 0} (f : Entry → Option X) (x : X) (old new : PoolValue) (e : Entry) (place : ℕ) → f e ≡ Some x → IsPut old new e place → read_off f new place ≡ Some x
number_put f x old new e place is put = ap (λ (s : Option Entry). s >>= f) (put_stands old new e place put) ∙ is

pub integer_there : (old new : PoolValue) (value : ℤ) (place : ℕ) → HasInteger old value new place → integer_of new place ≡ Some value
unfolding integer_of
integer_there old new value place has =
    added_there (read_off integer_in) value old (IsPutAs old (entry.Integer value)) new place (number_put integer_in value old new (entry.Integer value) place refl) has

pub long_there : (old new : PoolValue) (value : ℤ) (place : ℕ) → HasLong old value new place → long_of new place ≡ Some value
unfolding long_of
long_there old new value place has = added_there (read_off long_in) value old (IsPutAs old (entry.Long value)) new place (number_put long_in value old new (entry.Long value) place refl) has

naming_put : (kind : Naming) (old new : PoolValue) (text : List ℕ) (place : ℕ) → PutsNaming old text (entry_naming kind) new place → naming_of kind new place ≡ Some text
naming_put kind old new text place put =
    is_named kind new place put.1 text (put_stands put.0 new (entry_naming kind put.1) place put.3)
    (utf8_kept put.0 new text put.1 (put_extends put.0 new (entry_naming kind put.1) place put.3) (utf8_there old put.0 text put.1 put.2))

pub naming_there : (kind : Naming) (old new : PoolValue) (text : List ℕ) (place : ℕ) → HasNaming kind old text new place → naming_of kind new place ≡ Some text
naming_there kind old new text place has =
    added_there (naming_of kind) text old (PutsNaming old text (entry_naming kind)) new place (naming_put kind old new text place) has

-- ---- there is one such pool

-- the same pool, and the same place in it
pub record AreOne (new other : PoolValue) (place at : ℕ) : Type 0 where
  pub pool : new ≡ other
  pub place_is : place ≡ at

pub one_put : (old base new other : PoolValue) (e f : Entry) (place at : ℕ) → old ≡ base → e ≡ f → IsPut old new e place → IsPut base other f at → AreOne new other place at
one_put old base new other e f place at same entry p q = record {
  pool = p.grown ∙ (λ i. same i ++ slots_of (entry i)) ∙ sym q.grown;
  place_is = p.last ∙ ap length same ∙ sym q.last;
}

module _ {X : Type 0} (found : PoolValue → ℕ → Option X) (what : X) (old : PoolValue) (Put : PoolValue → ℕ → Type 0)
    (one : (new other : PoolValue) (place at : ℕ) → Put new place → Put other at → AreOne new other place at) where
  pub one_added : (new other : PoolValue) (place at : ℕ) → Adds found what old Put new place → Adds found what old Put other at → AreOne new other place at
  one_added new other place at (inl p) (inl q) = record { pool = p.1 ∙ sym q.1; place_is = one_first (found old) what place at p.0 q.0 }
  one_added new other place at (inl p) (inr q) = absurd (q.0 place p.0.there)
  one_added new other place at (inr p) (inl q) = absurd (p.0 at q.0.there)
  one_added new other place at (inr p) (inr q) = one new other place at p.1 q.1

module _ {X : Type 0} (found : PoolValue → ℕ → Option X) (what : X) (old : PoolValue) (e : Entry) where
  -- where the entry alone is put
  pub one_alone : (new other : PoolValue) (place at : ℕ) → Adds found what old (IsPutAs old e) new place → Adds found what old (IsPutAs old e) other at → AreOne new other place at
  one_alone = one_added found what old (IsPutAs old e) (λ new other place at p q. one_put old old new other e e place at refl refl p q)

pub one_utf8 : (old new other : PoolValue) (text : List ℕ) (place at : ℕ) → HasUtf8 old text new place → HasUtf8 old text other at → AreOne new other place at
one_utf8 old new other text place at p q = one_alone utf8_of text old (entry.Utf8 text) new other place at p q

one_naming_put : (old : PoolValue) (text : List ℕ) (naming : ℕ → Entry) (new other : PoolValue) (place at : ℕ) → PutsNaming old text naming new place
    → PutsNaming old text naming other at → AreOne new other place at
one_naming_put old text naming new other place at p q =
    let named = one_utf8 old p.0 q.0 text p.1 q.1 p.2 q.2 in
    one_put p.0 q.0 new other (naming p.1) (naming q.1) place at named.pool (ap naming named.place_is) p.3 q.3

pub one_naming : (kind : Naming) (old new other : PoolValue) (text : List ℕ) (place at : ℕ) → HasNaming kind old text new place → HasNaming kind old text other at → AreOne new other place at
one_naming kind old new other text place at p q =
    one_added (naming_of kind) text old (PutsNaming old text (entry_naming kind)) (one_naming_put old text (entry_naming kind)) new other place at p q

-- ---- and there is always one

module _ {X : Type 0} (same : X → X → Bool) (tells : (x y : X) → Decides (same x y) (x ≡ y)) where
  decide : (r : Option X) (x : X) → (r ≡ Some x) ⊎ (r ≢ Some x)
  decide None x = inr (λ is. none-some x is)
  decide (Some y) x = elim (cases_Bool (same y x)) [
    | inl is ↦ inl (ap Some ((tells y x).0 is))
    | inr other ↦ inr (λ is. true≢false (sym ((tells y x).1 (same_Some y x is)) ∙ other))
  ]

  searched : (found : ℕ → Option X) (x : X) (end : ℕ) → ((p : ℕ) × IsFirst found x p) ⊎ ((p : ℕ) → p < end → found p ≢ Some x)
  searched found x zero = inr (λ p less. absurd (omega (arith, less)))
  searched found x (suc end) = elim (searched found x end) [
    | inl first ↦ inl first
    | inr none ↦ elim (decide (found end) x) [
      | inl here ↦ inl (end, record { there = here; first = none })
      | inr other ↦ inr (λ p less. elim (cases_lt p end) [
        | inl below ↦ none p below
        | inr last ↦ (let is : p ≡ end = omega (arith, less, last) in λ there. other (ap found (sym is) ∙ there))
      ])
    ]
  ]

  first_or_none : (found : ℕ → Option X) (x : X) (end : ℕ) → ((p : ℕ) → end ≤ p → found p ≡ None) → ((p : ℕ) × IsFirst found x p) ⊎ IsNowhere found x
  first_or_none found x end past = elim (searched found x end) [
    | inl first ↦ inl first
    | inr none ↦ inr (λ p there. elim (cases_lt p end) [ inl below ↦ none p below there | inr behind ↦ none-some x (sym (past p behind) ∙ there) ])
  ]

  module _ (found : PoolValue → ℕ → Option X) (what : X) (old : PoolValue) (Put : PoolValue → ℕ → Type 0) (past : (p : ℕ) → length old ≤ p → found old p ≡ None) where
    pub some_added : ((new : PoolValue) × (place : ℕ) × Put new place) → (new : PoolValue) × (place : ℕ) × Adds found what old Put new place
    some_added put = elim (first_or_none (found old) what (length old) past) [
      | inl first ↦ (old, first.0, inl (first.1, refl))
      | inr none ↦ (put.0, put.1, inr (none, put.2))
    ]

pub end_put : (old : PoolValue) (e : Entry) → (new : PoolValue) × (place : ℕ) × IsPut old new e place
end_put old e = (old ++ slots_of e, length old, put_at_end old e)

pub some_utf8 : (old : PoolValue) (text : List ℕ) → (new : PoolValue) × (place : ℕ) × HasUtf8 old text new place
some_utf8 old text = some_added bytes_eq bytes_eq-Decides utf8_of text old (IsPutAs old (entry.Utf8 text)) (utf8_past old) (end_put old (entry.Utf8 text))

pub some_naming : (kind : Naming) (old : PoolValue) (text : List ℕ) → (new : PoolValue) × (place : ℕ) × HasNaming kind old text new place
some_naming kind old text =
    let named = some_utf8 old text in
    let put = end_put named.0 (entry_naming kind named.1) in
    some_added bytes_eq bytes_eq-Decides (naming_of kind) text old (PutsNaming old text (entry_naming kind)) (naming_past kind old) (put.0, put.1, (named.0, named.1, named.2, put.2))

pub some_integer : (old : PoolValue) (value : ℤ) → (new : PoolValue) × (place : ℕ) × HasInteger old value new place
unfolding integer_of
some_integer old value = some_added int_eq Decides-int_eq (read_off integer_in) value old (IsPutAs old (entry.Integer value)) (past integer_in old) (end_put old (entry.Integer value))

pub some_long : (old : PoolValue) (value : ℤ) → (new : PoolValue) × (place : ℕ) × HasLong old value new place
unfolding long_of
some_long old value = some_added int_eq Decides-int_eq (read_off long_in) value old (IsPutAs old (entry.Long value)) (past long_in old) (end_put old (entry.Long value))

-- ---- first places stay

pub class_within : (pool : PoolValue) (place : ℕ) (name : List ℕ) → class_name_of pool place ≡ Some name → place < length pool
class_within pool place name there = elim (cases_lt place (length pool)) [ inl less ↦ less | inr behind ↦ absurd (none-some name (sym (naming_past naming.Class pool place behind) ∙ there)) ]

-- the text, if there is one, stands nowhere in a pool
abbrev IsNewText : PoolValue → Option (List ℕ) → Type 0
IsNewText old put = (text : List ℕ) → put ≡ Some text → IsNowhere (utf8_of old) text

-- the class of this name has its first place there
abbrev IsFirstClass : PoolValue → List ℕ → ℕ → Type 0
IsFirstClass pool name place = IsFirst (class_name_of pool) name place

-- one place more, and no text in it that stands already
slot_keeps_first : (old : PoolValue) (slot : Option Entry) (name : List ℕ) (place : ℕ) → IsNewText old (slot >>= utf8_in) → IsFirstClass old name place → IsFirstClass (old ++ slot ∷ []) name place
unfolding utf8_of
slot_keeps_first old slot name place fresh first = record { there = naming_kept naming.Class old (old ++ slot ∷ []) name place (slot ∷ [], refl) first.there; first = none }
  where
    named : (m : ℕ) × (entry_of old place ≡ Some (entry.Class m)) × (utf8_of old m ≡ Some name)
    named = has_name naming.Class old place name first.there

    behind : (n : ℕ) → length old ≤ n → utf8_of (old ++ slot ∷ []) n ≡ Some name → ⊥
    behind n past there = elim (cases_lt (length old) n) [
      | inl beyond ↦ none-some name (sym (utf8_past (old ++ slot ∷ []) n (omega (arith, beyond, one_more old slot))) ∙ there)
      | inr no_more ↦ (let last : n ≡ length old = omega (arith, past, no_more) in
          fresh name (sym (slot_put utf8_in old slot) ∙ ap (utf8_of (old ++ slot ∷ [])) (sym last) ∙ there) named.0 named.2)
    ]

    none : (earlier : ℕ) → earlier < place → class_name_of (old ++ slot ∷ []) earlier ≢ Some name
    none earlier less there =
        let n = has_name naming.Class (old ++ slot ∷ []) earlier name there in
        let inside : earlier < length old = (let within = class_within old place name first.there in omega (arith, less, within)) in
        elim (cases_lt n.0 (length old)) [
          | inl below ↦ first.first earlier less
              (is_named naming.Class old earlier n.0 name (sym (entry_stays old (slot ∷ []) earlier inside) ∙ n.1) (sym (utf8_stays old (slot ∷ []) n.0 below) ∙ n.2))
          | inr past ↦ behind n.0 past n.2
        ]

put_keeps : (old new : PoolValue) (e : Entry) (at : ℕ) (name : List ℕ) (place : ℕ) → IsPut old new e at → IsNewText old (utf8_in e) → IsFirstClass old name place → IsFirstClass new name place
put_keeps old new e at name place put fresh first =
    subst (λ (l : PoolValue). IsFirst (class_name_of l) name place) (sym put.grown)
    (by_slots (λ l. IsFirst (class_name_of l) name place) old e (slot_keeps_first old (Some e) name place fresh first)
    (λ one. slot_keeps_first (old ++ Some e ∷ []) None name place (λ text is. absurd (none-some text is)) one))

utf8_keeps_first : (old new : PoolValue) (text name : List ℕ) (at place : ℕ) → HasUtf8 old text new at → IsFirst (class_name_of old) name place → IsFirst (class_name_of new) name place
utf8_keeps_first old new text name at place (inl has) first = subst (λ (l : PoolValue). IsFirst (class_name_of l) name place) (sym has.1) first
utf8_keeps_first old new text name at place (inr put) first = put_keeps old new (entry.Utf8 text) at name place put.1 (λ t is. subst (IsNowhere (utf8_of old)) (same_Some text t is) put.0) first

-- a class keeps its first place, whatever class is added
pub class_keeps_first : (old new : PoolValue) (other name : List ℕ) (at place : ℕ) → HasClass old other new at → IsFirst (class_name_of old) name place → IsFirst (class_name_of new) name place
class_keeps_first old new other name at place (inl has) first = subst (λ (l : PoolValue). IsFirst (class_name_of l) name place) (sym has.1) first
class_keeps_first old new other name at place (inr put) first =
    let there = put.1 in
    put_keeps there.0 new (entry.Class there.1) at name place there.3 (λ text is. absurd (none-some text is))
    (utf8_keeps_first old there.0 other name there.1 place there.2 first)
