-- Code has one reading: one list of instructions, or one first fault.
use Rattle.std.proofs.Common.{◌≡◌, ◌⊎◌, inl, inr, ℕ, ◌+◌, ◌<◌, List, [], ◌∷◌, ◌++◌, length, map, get_or, All, refl, sym, ◌∙◌, ap, subst, arith, length-append}
use Rattle.std.proofs.lemmas.List.{append_cancel_left}
use Rattle.jc_bytes.specs.declared.fail.Fail.{Fail}
use Rattle.jc_bytes.specs.declared.fail.Fail.TheVariants as fails
use Rattle.jc_bytes.specs.declared.refusal.Refusal.{Refusal}
use Rattle.jc_bytes.specs.declared.refusal.RefusalKind.{RefusalKind}
use Rattle.jc_bytes.specs.declared.refusal.RefusalKind.TheVariants as kinds
use Rattle.jc_methods.specs.declared.insn.Insn.{Insn}
use Rattle.jc_methods.specs.Insn.{with_places}
use Rattle.jc_methods.specs.Starts.{insn_number}
use Rattle.jc_insn.specs.declared.item.CodeItem.{CodeItem}
use Rattle.jc_insn.specs.declared.item.CodeItem.TheVariants as items
use Rattle.jc_insn.specs.Items.{IsItem}
use Rattle.jc_insn.specs.Spells.{SpellsFrom, Spells, IsFault, FaultBehind, IsRefused}
use Rattle.jc_insn.specs.Decoding.{Refuses}
use Rattle.jc_insn.proofs.ItemReadingLaws.{insn_is, not_subroutine, same_item}
use Rattle.jc_insn.proofs.CodeReadingLaws.{some_bytes}
use Rattle.jc_methods.proofs.StartsLaws.{numbers_are}

-- an item isn't in front of no bytes
no_bytes : (at : ℕ) (bytes text rest : List ℕ) (item : CodeItem) → bytes ≡ [] → bytes ≡ text ++ rest → IsItem at text item → ⊥
no_bytes at bytes text rest item none parts is =
    let some = some_bytes at text item is in
    let e = ap length (sym none ∙ parts) ∙ length-append text rest in
    absurd (omega (arith, some, e))

-- two items in front of the same bytes
record Same (text text' rest rest' : List ℕ) (i j : CodeItem) : Type 0 where
  text_is : text ≡ text'
  rest_is : rest ≡ rest'
  item_is : i ≡ j

same_front : (at : ℕ) (bytes text text' rest rest' : List ℕ) (i j : CodeItem) → bytes ≡ text ++ rest → bytes ≡ text' ++ rest' → IsItem at text i
    → IsItem at text' j → Same text text' rest rest' i j
same_front at bytes text text' rest rest' i j parts parts' is is' =
    let same = same_item at text text' rest rest' i j is is' (sym parts ∙ parts') in
    record {
      text_is = same.0;
      rest_is = append_cancel_left text' rest rest' (ap (λ (t : List ℕ). t ++ rest) (sym same.0) ∙ sym parts ∙ parts');
      item_is = same.1;
    }

pub same_code : (at : ℕ) (bytes : List ℕ) (code code' : List Insn) (starts starts' : List ℕ) → SpellsFrom at bytes code starts
    → SpellsFrom at bytes code' starts' → (code ≡ code') × (starts ≡ starts')
same_code at bytes [] [] starts starts' s t = (refl, s.1 ∙ sym t.1)
same_code at bytes [] (insn ∷ code') starts starts' s (text, rest, later, parts, starts_is, is, more) = absurd
    (no_bytes at bytes text rest (items.Insn insn) s.0 parts is)
same_code at bytes (insn ∷ code) [] starts starts' (text, rest, later, parts, starts_is, is, more) t = absurd
    (no_bytes at bytes text rest (items.Insn insn) t.0 parts is)
same_code at bytes (insn ∷ code) (insn' ∷ code') starts starts' (text, rest, later, parts, starts_is, is, more)
    (text', rest', later', parts', starts_is', is', more') =
    let same = same_front at bytes text text' rest rest' (items.Insn insn) (items.Insn insn') parts parts' is is' in
    let moved : SpellsFrom (at + length text) rest code' later' = subst (λ (t : List ℕ). SpellsFrom (at + length t) rest code' later') (sym same.text_is)
    (subst (λ (r : List ℕ). SpellsFrom (at + length text') r code' later') (sym same.rest_is) more') in
    let behind = same_code (at + length text) rest code code' later later' more moved in
    (λ i. insn_is insn insn' same.item_is i ∷ behind.0 i, starts_is ∙ ap (λ (l : List ℕ). at ∷ l) behind.1 ∙ sym starts_is')

-- an instruction is at no fault
no_fault : (at : ℕ) (bytes text rest : List ℕ) (insn : Insn) (kind : RefusalKind) → bytes ≡ text ++ rest → IsItem at text (items.Insn insn)
    → IsFault at bytes kind → ⊥
no_fault at bytes text rest insn kinds.Subroutine parts is (text', rest', parts', is') = not_subroutine insn
    (same_front at bytes text text' rest rest' (items.Insn insn) items.Subroutine parts parts' is is').item_is
no_fault at bytes text rest insn kinds.BadCode parts is fault = fault.none text rest (items.Insn insn) parts is
no_fault at bytes text rest insn kind parts is fault = absurd fault

-- nor is the end of the code
no_fault_at_end : (at : ℕ) (bytes : List ℕ) (kind : RefusalKind) → bytes ≡ [] → IsFault at bytes kind → ⊥
no_fault_at_end at bytes kinds.Subroutine none (text, rest, parts, is) = no_bytes at bytes text rest items.Subroutine none parts is
no_fault_at_end at bytes kinds.BadCode none fault = fault.some none
no_fault_at_end at bytes kind none fault = absurd fault

pub never_both : (at : ℕ) (bytes : List ℕ) (code code' : List Insn) (starts : List ℕ) (kind : RefusalKind) (offset : ℕ) → SpellsFrom at bytes code starts
    → FaultBehind at bytes code' kind offset → ⊥
never_both at bytes [] [] starts kind offset s f = no_fault_at_end at bytes kind s.0 f.1
never_both at bytes [] (insn ∷ code') starts kind offset s (text, rest, parts, is, more) = no_bytes at bytes text rest (items.Insn insn) s.0 parts is
never_both at bytes (insn ∷ code) [] starts kind offset (text, rest, later, parts, starts_is, is, more) f = no_fault at bytes text rest insn kind parts is f.1
never_both at bytes (insn ∷ code) (insn' ∷ code') starts kind offset (text, rest, later, parts, starts_is, is, more) (text', rest', parts', is', more') =
    let same = same_front at bytes text text' rest rest' (items.Insn insn) (items.Insn insn') parts parts' is is' in
    let moved : FaultBehind (at + length text) rest code' kind offset = subst (λ (t : List ℕ). FaultBehind (at + length t) rest code' kind offset)
    (sym same.text_is) (subst (λ (r : List ℕ). FaultBehind (at + length text') r code' kind offset) (sym same.rest_is) more') in
    never_both (at + length text) rest code code' later kind offset more moved

same_kind : (at : ℕ) (bytes : List ℕ) (kind kind' : RefusalKind) → IsFault at bytes kind → IsFault at bytes kind' → kind ≡ kind'
same_kind at bytes kinds.Subroutine kinds.Subroutine f g = refl
same_kind at bytes kinds.BadCode kinds.BadCode f g = refl
same_kind at bytes kinds.Subroutine kinds.BadCode (text, rest, parts, is) g = absurd (g.none text rest items.Subroutine parts is)
same_kind at bytes kinds.BadCode kinds.Subroutine f (text, rest, parts, is) = absurd (f.none text rest items.Subroutine parts is)
same_kind at bytes kinds.Subroutine kind' f g = absurd g
same_kind at bytes kinds.BadCode kind' f g = absurd g
same_kind at bytes kind kind' f g = absurd f

pub same_fault : (at : ℕ) (bytes : List ℕ) (code code' : List Insn) (kind kind' : RefusalKind) (offset offset' : ℕ) → FaultBehind at bytes code kind offset
    → FaultBehind at bytes code' kind' offset' → (kind ≡ kind') × (offset ≡ offset')
same_fault at bytes [] [] kind kind' offset offset' f g = (same_kind at bytes kind kind' f.1 g.1, f.0 ∙ sym g.0)
same_fault at bytes [] (insn ∷ code') kind kind' offset offset' f (text, rest, parts, is, more) = absurd (no_fault at bytes text rest insn kind parts is f.1)
same_fault at bytes (insn ∷ code) [] kind kind' offset offset' (text, rest, parts, is, more) g = absurd (no_fault at bytes text rest insn kind' parts is g.1)
same_fault at bytes (insn ∷ code) (insn' ∷ code') kind kind' offset offset' (text, rest, parts, is, more) (text', rest', parts', is', more') =
    let same = same_front at bytes text text' rest rest' (items.Insn insn) (items.Insn insn') parts parts' is is' in
    let moved : FaultBehind (at + length text) rest code' kind' offset' = subst (λ (t : List ℕ). FaultBehind (at + length t) rest code' kind' offset')
    (sym same.text_is) (subst (λ (r : List ℕ). FaultBehind (at + length text') r code' kind' offset') (sym same.rest_is) more') in
    same_fault (at + length text) rest code code' kind kind' offset offset' more moved

-- ---- numbers in place of offsets

-- The table has for each offset the number of the instruction that begins there. The offsets of the instructions, of which
-- there are so many, and of the end are in it.
pub record NumbersStarts (starts numbers : List ℕ) (count : ℕ) : Type 0 where
  pub size : ℕ
  pub long : length numbers ≡ size
  pub each : (offset : ℕ) → offset < size → get_or numbers offset 0 ≡ insn_number starts offset
  pub within : All (λ start. start < size) starts
  pub one_more : length starts ≡ count + 1

pub spells : (bytes starts numbers : List ℕ) (text code : List Insn) (count : ℕ) → SpellsFrom 0 bytes text starts → NumbersStarts starts numbers count
    → code ≡ map (with_places (λ offset. get_or numbers offset count)) text → Spells bytes code starts
spells bytes starts numbers text code count s table code_is = record {
  spelled = text;
  text = s;
  places = code_is ∙ ap (λ (f : ℕ → ℕ). map (with_places f) text)
      (numbers_are starts numbers table.size count table.long table.each table.within table.one_more);
}

pub one_list : (bytes : List ℕ) (code code' : List Insn) (starts starts' : List ℕ) → Spells bytes code starts → Spells bytes code' starts'
    → (code ≡ code') × (starts ≡ starts')
one_list bytes code code' starts starts' s t =
    let same = same_code 0 bytes s.spelled t.spelled starts starts' s.text t.text in
    (s.places ∙ (λ i. map (with_places (insn_number (same.1 i))) (same.0 i)) ∙ sym t.places, same.1)

pub spelled_or_memory : (bytes : List ℕ) (code : List Insn) (starts : List ℕ) (e : Fail Refusal) → Spells bytes code starts → Refuses e bytes → e ≡ fails.Memory
spelled_or_memory bytes code starts fails.Memory s why = refl
spelled_or_memory bytes code starts (fails.Said refusal) s why = absurd
    (never_both 0 bytes s.spelled why.before starts refusal.kind refusal.place s.text why.fault)

pub not_spelled : (bytes : List ℕ) (code : List Insn) (starts : List ℕ) (refusal : Refusal) → Spells bytes code starts → IsRefused bytes refusal → ⊥
not_spelled bytes code starts refusal s why = never_both 0 bytes s.spelled why.before starts refusal.kind refusal.place s.text why.fault

pub same_refusal : (bytes : List ℕ) (a b : Refusal) → IsRefused bytes a → IsRefused bytes b → a ≡ b
same_refusal bytes a b p q =
    let same = same_fault 0 bytes p.before q.before a.kind b.kind a.place b.place p.fault q.fault in
    λ i. record { kind = same.0 i; method = (p.method ∙ sym q.method) i; place = same.1 i }

pub refused_or_memory : (bytes : List ℕ) (refusal : Refusal) (e : Fail Refusal) → IsRefused bytes refusal → Refuses e bytes
    → (e ≡ fails.Memory) ⊎ (e ≡ fails.Said refusal)
refused_or_memory bytes refusal fails.Memory r why = inl refl
refused_or_memory bytes refusal (fails.Said other) r why = inr (ap fails.Said (same_refusal bytes other refusal why r))
