-- A pool with one place more, and with one entry more.
use Rattle.std.proofs.Common.{◌≡◌, inl, inr, ℕ, ◌+◌, ◌<◌, ◌≤◌, List, [], ◌∷◌, ◌++◌, length, Option, Some, None, refl, sym, ◌∙◌, ap, subst, arith, append_assoc}
use Rattle.std.proofs.Math.Seq.{get_or-append_seam}
use Rattle.std.proofs.lemmas.Bool.{cases_Bool, cases_lt}
use Rattle.std.proofs.lemmas.List.{get_or_append_left, get_or_past, length-append}
use Rattle.jc_bytes.specs.Decoder.{◌>>=◌}
use Rattle.jc_pool.specs.declared.entry.Entry.{Entry}
use Rattle.jc_pool.specs.declared.entry.Entry.TheVariants as entry
use Rattle.jc_pool.specs.declared.index.Key.{Key}
use Rattle.jc_pool.specs.Pool.{PoolValue, is_wide, width, slots_of, IsSmall, IsFilled, IsPool}
use Rattle.jc_pool.specs.Lookup.{entry_of, utf8_in, utf8_of}
use Rattle.jc_pool.specs.Adding.{IsFirst, IsNowhere}
use Rattle.jc_pool.specs.Index.{IsFirstBelow, AreFirsts, Notes, NotesEntry, standing_for, AreStandins, key_in, key_at, slot_key}
use Rattle.jc_pool.proofs.FirstPlaceLaws.{nothing_more, noted, same_below, first_stays}
use Rattle.jc_pool.proofs.PoolStepsLaws.{length_slots}

-- ---- what stands where

pub entry_stays : (pool more : PoolValue) (place : ℕ) → place < length pool → entry_of (pool ++ more) place ≡ entry_of pool place
entry_stays pool more place less = get_or_append_left pool more None place less

pub entry_past : (pool : PoolValue) (place : ℕ) → length pool ≤ place → entry_of pool place ≡ None
entry_past pool place past = get_or_past pool place None past

pub one_more : (pool : PoolValue) (slot : Option Entry) → length (pool ++ slot ∷ []) ≡ length pool + 1
one_more pool slot = length-append pool (slot ∷ [])

-- an entry stands at the first of its places
pub slots_front : (e : Entry) → (more : PoolValue) × (slots_of e ≡ Some e ∷ more)
slots_front e = elim (cases_Bool (is_wide e)) [ inl wide ↦ (None ∷ [], rw wide refl) | inr narrow ↦ ([], rw narrow refl) ]

pub entry_put : (pool : PoolValue) (e : Entry) → entry_of (pool ++ slots_of e) (length pool) ≡ Some e
entry_put pool e =
    let front = slots_front e in
    ap (λ (l : PoolValue). entry_of (pool ++ l) (length pool)) front.1 ∙ get_or-append_seam pool (Some e) front.0 None

pub grown_length : (pool : PoolValue) (e : Entry) → length (pool ++ slots_of e) ≡ length pool + width e
grown_length pool e = length-append pool (slots_of e) ∙ ap (λ (n : ℕ). length pool + n) (length_slots e)

-- what holds with each of its places holds with the entry
pub by_slots : (P : PoolValue → Type 0) (pool : PoolValue) (e : Entry) → P (pool ++ Some e ∷ []) → (P (pool ++ Some e ∷ []) → P ((pool ++ Some e ∷ []) ++ None ∷ [])) → P (pool ++ slots_of e)
by_slots P pool e one more = elim (cases_Bool (is_wide e)) [
  | inl wide ↦ rw wide (subst P (append_assoc pool (Some e ∷ []) (None ∷ [])) (more one))
  | inr narrow ↦ rw narrow one
]

-- what is read off the entry at a place
module _ {X : Type 0} (f : Entry → Option X) where
  abbrev pub read_off : PoolValue → ℕ → Option X
  read_off pool place = entry_of pool place >>= f

  pub stays : (pool more : PoolValue) (place : ℕ) → place < length pool → read_off (pool ++ more) place ≡ read_off pool place
  stays pool more place less = ap (λ (e : Option Entry). e >>= f) (entry_stays pool more place less)

  pub put_there : (pool : PoolValue) (e : Entry) → read_off (pool ++ slots_of e) (length pool) ≡ f e
  put_there pool e = ap (λ (e : Option Entry). e >>= f) (entry_put pool e)

  pub slot_put : (pool : PoolValue) (slot : Option Entry) → read_off (pool ++ slot ∷ []) (length pool) ≡ (slot >>= f)
  slot_put pool slot = ap (λ (e : Option Entry). e >>= f) (get_or-append_seam pool slot [] None)

  pub past : (pool : PoolValue) (place : ℕ) → length pool ≤ place → read_off pool place ≡ None
  past pool place behind = ap (λ (e : Option Entry). e >>= f) (entry_past pool place behind)

  -- a table of all that is read off a pool, with one place more off which nothing is read
  pub table_stays : (pool : PoolValue) (slot : Option Entry) (table : X → Option ℕ) → (slot >>= f) ≡ None → AreFirsts (length pool) (read_off pool) table
      → AreFirsts (length (pool ++ slot ∷ [])) (read_off (pool ++ slot ∷ [])) table
  table_stays pool slot table none firsts =
      let new : PoolValue = pool ++ slot ∷ [] in
      subst (λ (n : ℕ). AreFirsts n (read_off new) table) (sym (one_more pool slot))
      (nothing_more (read_off new) (length pool) table (slot_put pool slot ∙ none) (same_below (read_off pool) (read_off new) (length pool) table (stays pool (slot ∷ [])) firsts))

  -- with one place more, and what is read off it is noted
  pub table_grows : (pool : PoolValue) (slot : Option Entry) (old table : X → Option ℕ) (x : X) (place first : ℕ) → (slot >>= f) ≡ Some x → place ≡ length pool → Notes old table x place first
      → AreFirsts (length pool) (read_off pool) old → AreFirsts (length (pool ++ slot ∷ [])) (read_off (pool ++ slot ∷ [])) table
  table_grows pool slot old table x place first some last notes firsts =
      let new : PoolValue = pool ++ slot ∷ [] in
      subst (λ (n : ℕ). AreFirsts n (read_off new) table) (sym (one_more pool slot))
      (noted (read_off new) (length pool) old table x first (slot_put pool slot ∙ some) (subst (λ (n : ℕ). Notes old table x n first) last notes)
      (same_below (read_off pool) (read_off new) (length pool) old (stays pool (slot ∷ [])) firsts))

  -- places that stand for others, with one place more off which nothing is read that was read before
  pub standins_stay : (pool : PoolValue) (slot : Option Entry) (firsts : List ℕ) → ((x : X) → (slot >>= f) ≡ Some x → IsNowhere (read_off pool) x)
      → AreStandins (read_off pool) (length pool) firsts → AreStandins (read_off (pool ++ slot ∷ [])) (length (pool ++ slot ∷ [])) firsts
  standins_stay pool slot firsts fresh are = record {
    found_there = λ place x less there. elim (cases_lt place (length pool)) [
      | inl within ↦ first_stays (read_off pool) (read_off (pool ++ slot ∷ [])) (length pool) x (standing_for firsts place) (stays pool (slot ∷ [])) (past pool)
          (are.found_there place x within (sym (stays pool (slot ∷ []) place within) ∙ there))
      | inr behind ↦ here x place (omega (arith, behind, less, one_more pool slot)) there
    ];
    others = λ place none. elim (cases_lt place (length pool)) [
      | inl within ↦ are.others place (sym (stays pool (slot ∷ []) place within) ∙ none)
      | inr behind ↦ are.others place (past pool place behind)
    ];
  }
    where
      last : (x : X) → read_off (pool ++ slot ∷ []) (length pool) ≡ Some x → IsFirst (read_off (pool ++ slot ∷ [])) x (length pool)
      last x there = record {
        there = there;
        first = λ earlier less found. fresh x (sym (slot_put pool slot) ∙ there) earlier (sym (stays pool (slot ∷ []) earlier less) ∙ found);
      }

      here : (x : X) (place : ℕ) → place ≡ length pool → read_off (pool ++ slot ∷ []) place ≡ Some x → IsFirst (read_off (pool ++ slot ∷ [])) x (standing_for firsts place)
      here x place is there =
          let own : standing_for firsts place ≡ length pool = are.others place (past pool place (omega (arith, is))) ∙ is in
          subst (IsFirst (read_off (pool ++ slot ∷ [])) x) (sym own) (last x (ap (read_off (pool ++ slot ∷ [])) (sym is) ∙ there))

-- ---- texts and keys

pub utf8_past : (pool : PoolValue) (place : ℕ) → length pool ≤ place → utf8_of pool place ≡ None
unfolding utf8_of
utf8_past pool place behind = past utf8_in pool place behind

pub utf8_stays : (pool more : PoolValue) (place : ℕ) → place < length pool → utf8_of (pool ++ more) place ≡ utf8_of pool place
unfolding utf8_of
utf8_stays pool more place less = stays utf8_in pool more place less

pub utf8_put : (pool : PoolValue) (e : Entry) → utf8_of (pool ++ slots_of e) (length pool) ≡ utf8_in e
unfolding utf8_of
utf8_put pool e = put_there utf8_in pool e

pub texts_stay : (pool : PoolValue) (slot : Option Entry) (table : List ℕ → Option ℕ) → (slot >>= utf8_in) ≡ None → AreFirsts (length pool) (utf8_of pool) table
    → AreFirsts (length (pool ++ slot ∷ [])) (utf8_of (pool ++ slot ∷ [])) table
unfolding utf8_of
texts_stay pool slot table none firsts = table_stays utf8_in pool slot table none firsts

pub texts_grow : (pool : PoolValue) (text : List ℕ) (old table : List ℕ → Option ℕ) (place first : ℕ) → place ≡ length pool → Notes old table text place first
    → AreFirsts (length pool) (utf8_of pool) old → AreFirsts (length (pool ++ Some (entry.Utf8 text) ∷ [])) (utf8_of (pool ++ Some (entry.Utf8 text) ∷ [])) table
unfolding utf8_of
texts_grow pool text old table place first last notes firsts = table_grows utf8_in pool (Some (entry.Utf8 text)) old table text place first refl last notes firsts

pub text_standins : (pool : PoolValue) (slot : Option Entry) (firsts : List ℕ) → ((text : List ℕ) → (slot >>= utf8_in) ≡ Some text → IsNowhere (utf8_of pool) text)
    → AreStandins (utf8_of pool) (length pool) firsts → AreStandins (utf8_of (pool ++ slot ∷ [])) (length (pool ++ slot ∷ [])) firsts
unfolding utf8_of
text_standins pool slot firsts fresh are = standins_stay utf8_in pool slot firsts fresh are

keys_noted : (firsts : List ℕ) (pool : PoolValue) (slot : Option Entry) (old table : Key → Option ℕ) (place : ℕ) (r : Option Key) → slot_key firsts slot ≡ r → place ≡ length pool
    → NotesEntry old table r place → AreFirsts (length pool) (key_at firsts pool) old → AreFirsts (length (pool ++ slot ∷ [])) (key_at firsts (pool ++ slot ∷ [])) table
unfolding key_at
keys_noted firsts pool slot old table place None is last same are =
    table_stays (key_in firsts) pool slot table is (λ k. subst (IsFirstBelow (length pool) (read_off (key_in firsts) pool) k) (sym (same k)) (are k))
keys_noted firsts pool slot old table place (Some k) is last notes are = table_grows (key_in firsts) pool slot old table k place notes.0 is last notes.1 are

pub keys_grow : (firsts : List ℕ) (pool : PoolValue) (slot : Option Entry) (old table : Key → Option ℕ) (place : ℕ) → place ≡ length pool → NotesEntry old table (slot_key firsts slot) place
    → AreFirsts (length pool) (key_at firsts pool) old → AreFirsts (length (pool ++ slot ∷ [])) (key_at firsts (pool ++ slot ∷ [])) table
keys_grow firsts pool slot old table place last notes are = keys_noted firsts pool slot old table place (slot_key firsts slot) refl last notes are

-- ---- the pool

entry_filled : (e : Entry) → IsSmall e → IsFilled (slots_of e)
entry_filled e small = elim (cases_Bool (is_wide e)) [ inl wide ↦ rw wide (wide, small, tt) | inr narrow ↦ rw narrow (narrow, small) ]

filled_more : (rest : List (Option Entry)) (e : Entry) (more : List (Option Entry)) → IsFilled (Some e ∷ more) → IsFilled rest → IsFilled (rest ++ Some e ∷ more)
filled_more [] e more last filled = last
filled_more (None ∷ rest) e more last filled = absurd filled
filled_more (Some f ∷ []) e more last filled = (filled.0, filled.1, last)
filled_more (Some f ∷ None ∷ rest) e more last filled = (filled.0, filled.1, filled_more rest e more last filled.2)
filled_more (Some f ∷ Some g ∷ rest) e more last filled = (filled.0, filled.1, filled_more (Some g ∷ rest) e more last filled.2)

put_pool_at : (pool : PoolValue) (e : Entry) (more : List (Option Entry)) → IsFilled (Some e ∷ more) → length (pool ++ Some e ∷ more) ≤ 65535 → IsPool pool → IsPool (pool ++ Some e ∷ more)
put_pool_at [] e more last few is = absurd is
put_pool_at (None ∷ rest) e more last few is = (omega (arith, few), filled_more rest e more last is.1)
put_pool_at (Some f ∷ rest) e more last few is = absurd is

pub put_pool : (pool : PoolValue) (e : Entry) → IsSmall e → length pool + width e ≤ 65535 → IsPool pool → IsPool (pool ++ slots_of e)
put_pool pool e small few is =
    let front = slots_front e in
    let size = grown_length pool e in
    subst (λ (l : PoolValue). IsPool (pool ++ l)) (sym front.1)
    (put_pool_at pool e front.0 (subst IsFilled front.1 (entry_filled e small)) (omega (arith, ap (λ (l : PoolValue). length (pool ++ l)) front.1, size, few)) is)
