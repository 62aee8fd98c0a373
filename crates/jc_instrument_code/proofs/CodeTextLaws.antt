-- The text of a Code attribute, part by part.
use Rattle.std.proofs.Common.{◌≡◌, ℕ, List, [], ◌∷◌, ◌++◌, length, sym, ◌∙◌, ap, append_assoc}
use Rattle.std.specs.List.{flat_map}
use Rattle.std.proofs.lemmas.List.{append-nil}
use Rattle.jc_bytes.proofs.AppendingLaws.{joined}
use Rattle.jc_bytes.specs.BigNumbers.{short, word}
use Rattle.jc_class.specs.declared.class_file.Attribute.{Attribute}
use Rattle.jc_instrument_code.specs.CodeText.{attribute_text, code_text, counted_text}

-- the sizes, the code, the exception table and the attributes
pub code_text_parts : (max_stack max_locals size : ℕ) (code rows : List ℕ) (attributes : List Attribute) (none sizes coded tabled new : List ℕ)
    → none ≡ [] → sizes ≡ none ++ (short max_stack ++ (short max_locals ++ word size)) → size ≡ length code → coded ≡ sizes ++ code
    → tabled ≡ coded ++ rows → new ≡ tabled ++ counted_text attribute_text attributes → new ≡ code_text max_stack max_locals code rows attributes
code_text_parts max_stack max_locals size code rows attributes none sizes coded tabled new empty head is coded_is tabled_is new_is =
    let all = counted_text attribute_text attributes in
    joined none sizes new (short max_stack ++ (short max_locals ++ word size)) (code ++ (rows ++ all)) head
    (joined sizes coded new code (rows ++ all) coded_is (joined coded tabled new rows all tabled_is new_is))
    ∙ ap (λ (l : List ℕ). l ++ ((short max_stack ++ (short max_locals ++ word size)) ++ (code ++ (rows ++ all)))) empty
    ∙ append_assoc (short max_stack) (short max_locals ++ word size) (code ++ (rows ++ all))
    ∙ ap (λ (l : List ℕ). short max_stack ++ l) (append_assoc (short max_locals) (word size) (code ++ (rows ++ all)))
    ∙ ap (λ (n : ℕ). short max_stack ++ (short max_locals ++ (word n ++ (code ++ (rows ++ all))))) is

-- one attribute
pub one_attribute : (a : Attribute) (old mid new : List ℕ) → mid ≡ old ++ short 1 → new ≡ mid ++ attribute_text a
    → new ≡ old ++ counted_text attribute_text (a ∷ [])
one_attribute a old mid new head rest =
    joined old mid new (short 1) (flat_map attribute_text (a ∷ [])) head
    (rest ∙ ap (λ (l : List ℕ). mid ++ l) (sym (append-nil (attribute_text a))))
