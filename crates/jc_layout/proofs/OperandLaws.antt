-- Another place in the two bytes behind an opcode.
use Rattle.std.proofs.Common.{◌≡◌, ℕ, zero, suc, ◌+◌, ◌<◌, List, [], ◌∷◌, ◌++◌, length, refl, sym, ap, ◌∙◌, subst, arith, length-append}
use Rattle.std.proofs.lemmas.List.{append_cancel_left}
use Rattle.jc_bytes.specs.BigNumbers.{short}
use Rattle.jc_methods.specs.declared.insn.Insn.{Insn}
use Rattle.jc_insn.specs.declared.item.CodeItem.TheVariants as items
use Rattle.jc_insn.specs.Items.{IsItem}
use Rattle.jc_insn.specs.Spells.{SpellsFrom}
use Rattle.jc_insn.proofs.ItemReadingLaws.{same_item}
use Rattle.jc_insn.proofs.ReadBackLaws.{short_size}
use Rattle.jc_layout.specs.LaidBody.{with_operand}

-- ---- instructions

-- an instruction of which the text is known, in front of others
pub record FirstRead (at : ℕ) (text rest : List ℕ) (xs : List Insn) (starts : List ℕ) : Type 0 where
  pub later : List ℕ
  pub is : starts ≡ at ∷ later
  pub more : SpellsFrom (at + length text) rest xs later

pub first_read : (at : ℕ) (text rest starts : List ℕ) (x : Insn) (xs : List Insn) → IsItem at text (items.Insn x) → SpellsFrom at (text ++ rest) (x ∷ xs) starts
    → FirstRead at text rest xs starts
first_read at text rest starts x xs item (read, left, later, parts, is, item', more) =
    let same = same_item at read text left rest (items.Insn x) (items.Insn x) item' item (sym parts) in
    let left_is : left ≡ rest = append_cancel_left text left rest (ap (λ (l : List ℕ). l ++ left) (sym same.0) ∙ sym parts) in
    let size : at + length read ≡ at + length text = ap (λ (l : List ℕ). at + length l) same.0 in
    record {
      later = later;
      is = is;
      more = subst (λ n. SpellsFrom n rest xs later) size (subst (λ l. SpellsFrom (at + length read) l xs later) left_is more);
    }

pub first_again : (at : ℕ) (text text' rest starts : List ℕ) (x : Insn) (xs : List Insn) → length text ≡ length text' → IsItem at text' (items.Insn x)
    → FirstRead at text rest xs starts → SpellsFrom at (text' ++ rest) (x ∷ xs) starts
first_again at text text' rest starts x xs size item read =
    (text', rest, read.later, refl, read.is, item, subst (λ n. SpellsFrom (at + n) rest xs read.later) size read.more)

-- an instruction whose operand is a place of two bytes, with another place
pub other_place : (at op : ℕ) (insn : ℕ → Insn) (old new : ℕ) (rest starts : List ℕ) (xs : List Insn)
    → ((place : ℕ) → place < 65536 → IsItem at (op ∷ short place) (items.Insn (insn place))) → old < 65536 → new < 65536
    → SpellsFrom at ((op ∷ short old) ++ rest) (insn old ∷ xs) starts → SpellsFrom at ((op ∷ short new) ++ rest) (insn new ∷ xs) starts
other_place at op insn old new rest starts xs item old_lt new_lt s =
    let before = short_size old in
    let after = short_size new in
    first_again at (op ∷ short old) (op ∷ short new) rest starts (insn new) xs (omega (arith, before, after)) (item new new_lt)
    (first_read at (op ∷ short old) rest starts (insn old) xs (item old old_lt) s)

-- ---- bytes

record AreTwo (l : List ℕ) : Type 0 where
  high : ℕ
  low : ℕ
  is : l ≡ high ∷ low ∷ []

two_of : (l : List ℕ) → length l ≡ 2 → AreTwo l
two_of [] e = absurd (omega (arith, e))
two_of (a ∷ []) e = absurd (omega (arith, e))
two_of (a ∷ b ∷ []) e = record { high = a; low = b; is = refl }
two_of (a ∷ b ∷ c ∷ l) e = absurd (omega (arith, e))

-- the operand of an instruction behind others
pub operand_put : (op old new : ℕ) (front rest : List ℕ)
    → with_operand (length front) new (front ++ ((op ∷ short old) ++ rest)) ≡ front ++ ((op ∷ short new) ++ rest)
operand_put op old new [] rest =
    let two = two_of (short old) (short_size old) in
    ap (λ (l : List ℕ). with_operand 0 new ((op ∷ l) ++ rest)) two.is
operand_put op old new (byte ∷ front) rest = ap (λ (l : List ℕ). byte ∷ l) (operand_put op old new front rest)

-- a place has as many bytes as another
pub operand_size : (offset place : ℕ) (bytes : List ℕ) → length (with_operand offset place bytes) ≡ length bytes
operand_size zero place [] = refl
operand_size zero place (a ∷ []) = refl
operand_size zero place (a ∷ b ∷ []) = refl
operand_size zero place (a ∷ b ∷ c ∷ bytes) =
    let both = length-append (a ∷ short place) bytes in let size = short_size place in omega (arith, both, size)
operand_size (suc offset) place [] = refl
operand_size (suc offset) place (a ∷ bytes) = ap suc (operand_size offset place bytes)
