-- Bytes spell a list of instructions, or are refused.
use Rattle.std.proofs.Common.{◌≡◌, ◌⊎◌, inl, inr, ℕ, zero, suc, ◌+◌, ◌≤◌, List, [], ◌∷◌, ◌++◌, length, map, Option, Some, None, refl, sym, ◌∙◌, ap, arith, length-append}
use Rattle.jc_bytes.specs.declared.refusal.Refusal.{Refusal}
use Rattle.jc_bytes.specs.declared.refusal.RefusalKind.{RefusalKind}
use Rattle.jc_bytes.specs.declared.refusal.RefusalKind.TheVariants as kinds
use Rattle.jc_bytes.proofs.OptionLaws.{some_none}
use Rattle.jc_methods.specs.declared.insn.Insn.{Insn}
use Rattle.jc_methods.specs.Insn.{with_places}
use Rattle.jc_methods.specs.Starts.{insn_number}
use Rattle.jc_insn.specs.declared.item.CodeItem.{CodeItem}
use Rattle.jc_insn.specs.declared.item.CodeItem.TheVariants as items
use Rattle.jc_insn.specs.Items.{IsItem}
use Rattle.jc_insn.specs.Reading.{item_at}
use Rattle.jc_insn.specs.Spells.{SpellsFrom, Spells, FaultBehind, IsRefused}
use Rattle.jc_insn.proofs.ItemReadingLaws.{reads_item}
use Rattle.jc_insn.proofs.CodeReadingLaws.{some_bytes}

-- from this offset on the bytes spell instructions, or a fault stands behind some
abbrev SpelledOrFault : ℕ → List ℕ → Type 0
SpelledOrFault at bytes = ((code : List Insn) × (starts : List ℕ) × SpellsFrom at bytes code starts)
    ⊎ ((before : List Insn) × (kind : RefusalKind) × (place : ℕ) × FaultBehind at bytes before kind place)

-- what stands behind an instruction decides
behind_insn : (at : ℕ) (bytes text rest : List ℕ) (insn : Insn) → bytes ≡ text ++ rest → IsItem at text (items.Insn insn)
    → SpelledOrFault (at + length text) rest → SpelledOrFault at bytes
behind_insn at bytes text rest insn parts is (inl (code, later, spelled)) = inl (insn ∷ code, at ∷ later, (text, rest, later, parts, refl, is, spelled))
behind_insn at bytes text rest insn parts is (inr (before, kind, place, fault)) = inr (insn ∷ before, kind, place, (text, rest, parts, is, fault))

less_left : (at fuel : ℕ) (bytes text rest : List ℕ) (item : CodeItem) → length bytes ≤ suc fuel → bytes ≡ text ++ rest → IsItem at text item → length rest ≤ fuel
less_left at fuel bytes text rest item fits parts is = omega (arith, fits, ap length parts, length-append text rest, some_bytes at text item is)

no_item : (at : ℕ) (b : ℕ) (bytes : List ℕ) → item_at at (b ∷ bytes) ≡ None → SpelledOrFault at (b ∷ bytes)
no_item at b bytes stops = inr (
  [],
  kinds.BadCode,
  at,
  (
    refl,
    record
        { some = λ e. cc; none = λ text rest item parts is. some_none (sym ((reads_item at).again text rest item is) ∙ ap (item_at at) (sym parts) ∙ stops) },
  ),
)

each_from : (fuel at : ℕ) (bytes : List ℕ) → length bytes ≤ fuel → SpelledOrFault at bytes
each_from fuel at [] fits = inl ([], at ∷ [], (refl, refl))
each_from zero at (b ∷ bytes) fits = absurd (omega (arith, fits))
each_from (suc fuel) at (b ∷ bytes) fits = by (item_at at (b ∷ bytes)) refl (λ next rest fewer. each_from fuel next rest fewer)
  where
    by_item : ((next : ℕ) (rest : List ℕ) → length rest ≤ fuel → SpelledOrFault next rest) → (item : CodeItem) (text rest : List ℕ) → b ∷ bytes ≡ text ++ rest
        → IsItem at text item → SpelledOrFault at (b ∷ bytes)
    by_item more (items.Insn insn) text rest parts is = behind_insn at (b ∷ bytes) text rest insn parts is
        (more (at + length text) rest (less_left at fuel (b ∷ bytes) text rest (items.Insn insn) fits parts is))
    by_item more items.Subroutine text rest parts is = inr ([], kinds.Subroutine, at, (refl, (text, rest, parts, is)))

    by : (read : Option (CodeItem × List ℕ)) → item_at at (b ∷ bytes) ≡ read → ((next : ℕ) (rest : List ℕ) → length rest ≤ fuel → SpelledOrFault next rest)
        → SpelledOrFault at (b ∷ bytes)
    by None stops more = no_item at b bytes stops
    by (Some (item, rest)) read more = let t = (reads_item at).takes (b ∷ bytes) item rest read in by_item more item t.0 rest t.1 t.2

pub spelled_or_refused : (bytes : List ℕ) → ((code : List Insn) × (starts : List ℕ) × Spells bytes code starts) ⊎ ((r : Refusal) × IsRefused bytes r)
spelled_or_refused bytes = by (each_from (length bytes) 0 bytes (omega arith))
  where
    by : SpelledOrFault 0 bytes → ((code : List Insn) × (starts : List ℕ) × Spells bytes code starts) ⊎ ((r : Refusal) × IsRefused bytes r)
    by (inl (code, starts, text)) = inl (map (with_places (insn_number starts)) code, starts, record { spelled = code; text = text; places = refl })
    by (inr (before, kind, place, fault)) = inr (record { kind = kind; method = None; place = place }, record { method = refl; before = before; fault = fault })
