-- An index that is made of a whole pool, place by place.
use Rattle.std.proofs.Common.{◌≡◌, inl, inr, ℕ, ◌+◌, ◌<◌, ◌≤◌, List, [], ◌∷◌, ◌++◌, length, get_or, Option, Some, None, sym, ◌∙◌, ap, subst, arith}
use Rattle.std.proofs.Math.Seq.{get_or-append_seam}
use Rattle.std.proofs.lemmas.Bool.{cases_lt}
use Rattle.std.proofs.lemmas.List.{get_or_append_left, get_or_default, get_or_past, length-append}
use Rattle.std.proofs.lemmas.Option.{none-some, same_Some}
use Rattle.jc_bytes.specs.Decoder.{◌>>=◌}
use Rattle.jc_pool.specs.declared.entry.Entry.{Entry}
use Rattle.jc_pool.specs.declared.index.Key.{Key}
use Rattle.jc_pool.specs.Pool.{PoolValue}
use Rattle.jc_pool.specs.Lookup.{entry_of, utf8_in, utf8_of}
use Rattle.jc_pool.specs.Adding.{IsFirst}
use Rattle.jc_pool.specs.Index.{IsFirstBelow, AreFirsts, Notes, NotesText, NotesEntry, standing_for, key_in, key_at}
use Rattle.jc_pool.proofs.FirstPlaceLaws.{nothing_more, noted, noted_first}

-- ---- tables

-- nothing is in an empty table, and nothing below place 0
pub none_yet : {X : Type 0} (found : ℕ → Option X) (table : X → Option ℕ) → ((x : X) → table x ≡ None) → AreFirsts 0 found table
none_yet found table none x = subst (IsFirstBelow 0 found x) (sym (none x)) (λ p less. absurd (omega (arith, less)))

pub same_table : {X : Type 0} (found : ℕ → Option X) (end : ℕ) (old new : X → Option ℕ) → ((x : X) → new x ≡ old x) → AreFirsts end found old → AreFirsts end found new
same_table found end old new same firsts x = subst (IsFirstBelow end found x) (sym (same x)) (firsts x)

-- ---- texts

standing_before : (firsts : List ℕ) (first place : ℕ) → place < length firsts → standing_for (firsts ++ first ∷ []) place ≡ standing_for firsts place
standing_before firsts first place less = get_or_append_left firsts (first ∷ []) place place less

standing_last : (firsts : List ℕ) (first : ℕ) → standing_for (firsts ++ first ∷ []) (length firsts) ≡ first
standing_last firsts first = get_or-append_seam firsts first [] (length firsts)

standing_past : (firsts : List ℕ) (place : ℕ) → length firsts ≤ place → standing_for firsts place ≡ place
standing_past firsts place past = get_or_past firsts place place past

-- the texts at so many places are read
pub record TextsRead (found : ℕ → Option (List ℕ)) (n : ℕ) (firsts : List ℕ) (table : List ℕ → Option ℕ) : Type 0 where
  pub count : length firsts ≡ n
  pub texts : AreFirsts n found table
  pub stand : (place : ℕ) (text : List ℕ) → place < n → found place ≡ Some text → IsFirst found text (standing_for firsts place)
  pub others : (place : ℕ) → found place ≡ None → standing_for firsts place ≡ place

noted_texts : (found : ℕ → Option (List ℕ)) (end first : ℕ) (old new : List ℕ → Option ℕ) (r : Option (List ℕ)) → found end ≡ r
    → NotesText old new r end first → AreFirsts end found old → AreFirsts (end + 1) found new
noted_texts found end first old new None at notes firsts = same_table found (end + 1) old new notes.1 (nothing_more found end old at firsts)
noted_texts found end first old new (Some text) at notes firsts = noted found end old new text first at notes firsts

place_noted : (found : ℕ → Option (List ℕ)) (end first : ℕ) (old new : List ℕ → Option ℕ) (r : Option (List ℕ)) → found end ≡ r → NotesText old new r end first → AreFirsts end found old
    → ((text : List ℕ) → found end ≡ Some text → IsFirst found text first) × (found end ≡ None → first ≡ end)
place_noted found end first old new None at notes firsts = (λ text there. absurd (none-some text (sym at ∙ there)), λ none. notes.0)
place_noted found end first old new (Some text) at notes firsts = (
  λ other there. subst (λ (t : List ℕ). IsFirst found t first) (same_Some text other (sym at ∙ there)) (noted_first found end old new text first at notes firsts),
  λ none. absurd (none-some text (sym none ∙ at)),
)

pub more_texts : (found : ℕ → Option (List ℕ)) (n m place first : ℕ) (firsts more : List ℕ) (old new : List ℕ → Option ℕ) (r : Option (List ℕ))
    → found n ≡ r → place ≡ n → m ≡ n + 1 → more ≡ firsts ++ first ∷ []
    → NotesText old new r place first → TextsRead found n firsts old → TextsRead found m more new
more_texts found n m place first firsts more old new r at here next put notes so_far =
    subst (λ (k : ℕ). TextsRead found k more new) (sym next) (subst (λ (l : List ℕ). TextsRead found (n + 1) l new) (sym put) (record {
      count = length-append firsts (first ∷ []) ∙ ap (λ (k : ℕ). k + 1) so_far.count;
      texts = noted_texts found n first old new r at now so_far.texts;
      stand = λ p text less there. elim (cases_lt p n) [
        | inl below ↦ subst (IsFirst found text) (sym (standing_before firsts first p (omega (arith, below, so_far.count)))) (so_far.stand p text below there)
        | inr past ↦ (let last : p ≡ n = omega (arith, less, past) in
            subst (IsFirst found text) (sym (own p last)) ((place_noted found n first old new r at now so_far.texts).0 text (ap found (sym last) ∙ there)))
      ];
      others = λ p none. elim (cases_lt p n) [
        | inl below ↦ standing_before firsts first p (omega (arith, below, so_far.count)) ∙ so_far.others p none
        | inr past ↦ elim (cases_lt n p) [
          | inl beyond ↦ standing_past (firsts ++ first ∷ []) p (omega (arith, beyond, length-append firsts (first ∷ []), so_far.count))
          | inr no_more ↦ (let last : p ≡ n = omega (arith, past, no_more) in own p last ∙ (place_noted found n first old new r at now so_far.texts).1 (ap found (sym last) ∙ none) ∙ sym last)
        ]
      ];
    }))
  where
    now : NotesText old new r n first
    now = subst (λ (k : ℕ). NotesText old new r k first) here notes

    own : (p : ℕ) → p ≡ n → standing_for (firsts ++ first ∷ []) p ≡ first
    own p last = ap (standing_for (firsts ++ first ∷ [])) (last ∙ sym so_far.count) ∙ standing_last firsts first

-- ---- keys

pub more_keys : (found : ℕ → Option Key) (n m place : ℕ) (old new : Key → Option ℕ) (r : Option Key) → found n ≡ r → place ≡ n → m ≡ n + 1
    → NotesEntry old new r place → AreFirsts n found old → AreFirsts m found new
more_keys found n m place old new None at here next notes firsts = subst (λ (k : ℕ). AreFirsts k found new) (sym next) (same_table found (n + 1) old new notes (nothing_more found n old at firsts))
more_keys found n m place old new (Some k) at here next notes firsts =
    subst (λ (k : ℕ). AreFirsts k found new) (sym next) (noted found n old new k notes.0 at (subst (λ (p : ℕ). Notes old new k p notes.0) here notes.1) firsts)

-- ---- what stands at a place

pub text_at : (pool : PoolValue) (n : ℕ) (slot : Option Entry) → entry_of pool n ≡ slot → utf8_of pool n ≡ (slot >>= utf8_in)
unfolding utf8_of
text_at pool n slot at = ap (λ (e : Option Entry). e >>= utf8_in) at

pub key_there : (firsts : List ℕ) (pool : PoolValue) (n : ℕ) (slot : Option Entry) → entry_of pool n ≡ slot → key_at firsts pool n ≡ (slot >>= key_in firsts)
unfolding key_at
key_there firsts pool n slot at = ap (λ (e : Option Entry). e >>= key_in firsts) at

pub slot_there : (pool : PoolValue) (n : ℕ) (slot : Option Entry) → n < length pool → slot ≡ get_or pool n slot → entry_of pool n ≡ slot
slot_there pool n slot less is = get_or_default pool n None slot less ∙ sym is
