-- What is appended in parts.
use Rattle.std.proofs.Common.{◌≡◌, ℕ, zero, suc, ◌+◌, ◌-◌, ◌<◌, ◌≤◌, Bool, List, [], ◌∷◌, ◌++◌, length, drop, get_or, Option, Some, None, IfSome, option_copied, Bor, refl, sym, ◌∙◌, ap, subst, arith, append_assoc}
use Rattle.std.proofs.lemmas.List.{append-nil, drop_all}
use Rattle.jc_bytes.proofs.AppendingLaws.{drop_is}
use Rattle.jc_bytes.specs.Decoder.{IsBig}
use Rattle.jc_bytes.specs.Grammar.{Grammar}
use Rattle.jc_pool.specs.declared.entry.Entry.{Entry}
use Rattle.jc_pool.specs.Pool.{PoolValue, IsSmall, IsFilled, IsPool}
use Rattle.jc_pool.specs.Lookup.{entry_of}
use Rattle.jc_pool.specs.PoolGrammar.{by_size, behind, places, pool}
use Rattle.jc_bytes.specs.Appending.{Appends}
use Rattle.jc_pool.specs.Writing.{SpellsSlot, SpellsSlots, IsSmallSlot, AreSmall}

-- two parts, one behind the other
pub appends_both : (A B C : List ℕ → Type 0) → ((a b : List ℕ) → A a → B b → C (a ++ b)) → (old mid new : List ℕ) → Appends A old mid → Appends B mid new → Appends C old new
appends_both A B C joined old mid new p q = record {
  text = p.text ++ q.text;
  parts = q.parts ∙ ap (λ (l : List ℕ). l ++ q.text) p.parts ∙ append_assoc old p.text q.text;
  spells = joined p.text q.text p.spells q.spells;
}

-- ---- the places of a pool

-- whatever spells the places that are left completes the text of all of them
pub record Writing (all rest : List (Option Entry)) (old now : List ℕ) : Type 0 where
  pub completes : (tail : List ℕ) → SpellsSlots tail rest → Appends (λ text. SpellsSlots text all) old (now ++ tail)
  pub small : AreSmall rest

pub writing_begun : (all : PoolValue) (old : List ℕ) → AreSmall all → Writing all all old old
writing_begun all old small = record { completes = λ tail spells. record { text = tail; parts = refl; spells = spells }; small = small }

pub next_small : (all : PoolValue) (k : ℕ) (slot : Option Entry) (old now : List ℕ) → k < length all → slot ≡ get_or all k slot → Writing all (drop k all) old now → IsSmallSlot slot
next_small all k slot old now lt is w = (subst AreSmall (drop_is all k slot lt is) w.small).0

pub writes_more : (all : PoolValue) (k : ℕ) (slot : Option Entry) (old now next : List ℕ) → k < length all → slot ≡ get_or all k slot → Appends (λ text. SpellsSlot text slot) now next
    → Writing all (drop k all) old now → Writing all (drop (k + 1) all) old next
writes_more all k slot old now next lt is a w = more (subst (λ (l : PoolValue). Writing all l old now) (drop_is all k slot lt is) w)
  where
    more : Writing all (slot ∷ drop (k + 1) all) old now → Writing all (drop (k + 1) all) old next
    more w = record {
      completes = λ tail spells.
          let whole = w.completes (a.text ++ tail) (a.text, tail, refl, a.spells, spells) in
          subst (Appends (λ text. SpellsSlots text all) old) (sym (append_assoc now a.text tail) ∙ ap (λ (l : List ℕ). l ++ tail) (sym a.parts)) whole;
      small = w.small.1;
    }

pub all_written : (all : PoolValue) (k : ℕ) (old now : List ℕ) → length all ≤ k → Writing all (drop k all) old now → Appends (λ text. SpellsSlots text all) old now
all_written all k old now end w = subst (Appends (λ text. SpellsSlots text all) old) (append-nil now) (w.completes [] (subst (SpellsSlots []) (sym (drop_all k all end)) refl))

-- ---- a pool

filled_small : (slots : List (Option Entry)) → IsFilled slots → AreSmall slots
filled_small [] filled = tt
filled_small (None ∷ rest) filled = absurd filled
filled_small (Some e ∷ []) filled = (filled.1, tt)
filled_small (Some e ∷ None ∷ rest) filled = (filled.1, (tt, filled_small rest filled.2))
filled_small (Some e ∷ Some f ∷ rest) filled = (filled.1, filled_small (Some f ∷ rest) filled.2)

pub pool_small : (slots : PoolValue) → IsPool slots → AreSmall slots
pool_small [] is = absurd is
pool_small (None ∷ rest) is = (tt, filled_small rest is.1)
pool_small (Some e ∷ rest) is = absurd is

pub pool_short : (slots : PoolValue) → IsPool slots → (0 < length slots) × (length slots < 65536)
pool_short [] is = absurd is
pool_short (None ∷ rest) is = (omega arith, omega (arith, is.0))
pool_short (Some e ∷ rest) is = absurd is

behind_text : (front : List (Option Entry)) (g : Grammar (List (Option Entry))) (rest : List (Option Entry)) (text : List ℕ) → g.Text text rest → (behind front g).Text text (front ++ rest)
behind_text front g rest text spells = (rest, text, [], sym (append-nil text), spells, (refl, refl))

-- the texts of filled places are a text of the grammar's
filled_text : (slots : List (Option Entry)) (text : List ℕ) → IsFilled slots → SpellsSlots text slots → (places (length slots)).Text text slots
filled_text [] text filled spells = (spells, refl)
filled_text (None ∷ rest) text filled spells = absurd filled
filled_text (Some e ∷ []) text filled spells = (e, spells.0, spells.1, spells.2, (spells.3, filled.0), (spells.4, refl))
filled_text (Some e ∷ None ∷ rest) text filled spells =
    let back : spells.1 ≡ spells.4.1 = spells.4.2 ∙ ap (λ (l : List ℕ). l ++ spells.4.1) spells.4.3 in (
      e,
      spells.0,
      spells.4.1,
      spells.2 ∙ ap (λ (l : List ℕ). spells.0 ++ l) back,
      spells.3,
      subst (λ (wide : Bool). (by_size wide (behind (Some e ∷ None ∷ []) (places (length rest))) (behind (Some e ∷ []) (places (suc (length rest))))).Text spells.4.1 (Some e ∷ None ∷ rest))
          (sym filled.0) (behind_text (Some e ∷ None ∷ []) (places (length rest)) rest spells.4.1 (filled_text rest spells.4.1 filled.2 spells.4.4)),
    )
filled_text (Some e ∷ Some f ∷ rest) text filled spells = (
  e,
  spells.0,
  spells.1,
  spells.2,
  spells.3,
  subst (λ (wide : Bool). (by_size wide (behind (Some e ∷ None ∷ []) (places (length rest))) (behind (Some e ∷ []) (places (suc (length rest))))).Text spells.1 (Some e ∷ Some f ∷ rest))
      (sym filled.0) (behind_text (Some e ∷ []) (places (suc (length rest))) (Some f ∷ rest) spells.1 (filled_text (Some f ∷ rest) spells.1 filled.2 spells.4)),
)

-- a count, and the texts of the places
pool_text : (slots : PoolValue) (count text : List ℕ) → IsPool slots → IsBig 2 count (length slots) → SpellsSlots text slots → pool.Text (count ++ text) slots
pool_text [] count text is big spells = absurd is
pool_text (None ∷ rest) count text is big spells =
    let back : text ≡ spells.1 = spells.2 ∙ ap (λ (l : List ℕ). l ++ spells.1) spells.3 in
    let size : suc (length rest) - 1 ≡ length rest = omega arith in (
      suc (length rest),
      count,
      text,
      refl,
      (big, omega arith),
      subst (λ (n : ℕ). (behind (None ∷ []) (places n)).Text text (None ∷ rest)) (sym size)
          (behind_text (None ∷ []) (places (length rest)) rest text (filled_text rest text is.1 (subst (λ (l : List ℕ). SpellsSlots l rest) (sym back) spells.4))),
    )
pool_text (Some e ∷ rest) count text is big spells = absurd is

pub pool_written : (seen slots : PoolValue) (n : ℕ) (old mid new : List ℕ) → old ≡ [] → seen ≡ slots → n ≡ length slots → IsPool slots
    → Appends (λ count. IsBig 2 count n) old mid → Appends (λ text. SpellsSlots text seen) mid new → pool.Text new slots
pool_written seen slots n old mid new none same size is count places =
    let whole : Appends (λ text. pool.Text text slots) old new =
    appends_both (λ count. IsBig 2 count (length slots)) (λ text. SpellsSlots text slots) (λ text. pool.Text text slots) (λ a b p q. pool_text slots a b is p q) old mid new
    (subst (λ (k : ℕ). Appends (λ count. IsBig 2 count k) old mid) size count)
    (subst (λ (l : PoolValue). Appends (λ text. SpellsSlots text l) mid new) same places) in
    subst (λ (l : List ℕ). pool.Text l slots) (sym (whole.parts ∙ ap (λ (l : List ℕ). l ++ whole.text) none)) whole.spells

-- an entry that stands in a pool is small
pub entry_small : (slots : List (Option Entry)) → AreSmall slots → (place : ℕ) (e : Entry) → entry_of slots place ≡ Some e → IsSmall e
entry_small [] small place e is = absurd cc
entry_small (slot ∷ rest) small zero e is = subst IsSmallSlot is small.0
entry_small (slot ∷ rest) small (suc place) e is = entry_small rest small.1 place e is

pub found_small : (slots : PoolValue) → IsPool slots → (place : ℕ) (found : Option (Bor Entry)) → option_copied found ≡ entry_of slots place → IfSome found (λ e. IsSmall e.now)
found_small slots is place None at = tt
found_small slots is place (Some e) at = entry_small slots (pool_small slots is) place e.now (sym at)
