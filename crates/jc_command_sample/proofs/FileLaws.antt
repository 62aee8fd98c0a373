-- The class file of the sample, piece by piece.
use Rattle.std.proofs.Common.{◌≡◌, ℕ, ◌+◌, List, [], ◌∷◌, ◌++◌, length, codes, refl, sym, ◌∙◌, ap}
use Rattle.std.specs.List.{flat_map, range_with_len}
use Rattle.jc_methods.specs.Opcode as opcode
use Rattle.jc_bytes.proofs.AppendingLaws.{joined}
use Rattle.jc_bytes.specs.BigNumbers.{short, word}
use Rattle.jc_command_sample.specs.SampleFile.{utf8_entry, class_entry, class_entries, name_entries, attribute_text, method_code, frame_table, code_body, method_text, file_head, class_head, class_methods, sample_file}
use Rattle.jc_command_sample.proofs.PieceLaws.{three, four, five, seven}

-- ---- sizes

pub code_size : (k : ℕ) → length (method_code k) ≡ 14
unfolding method_code short
code_size k = refl

pub frames_size : length frame_table ≡ 3
unfolding frame_table short
frames_size = refl

pub body_size : (k : ℕ) → length (code_body k) ≡ 35
unfolding code_body method_code frame_table short word
body_size k = refl

-- ---- pieces

pub class_entries_are : (a b c d e f g h : List ℕ) → b ≡ a ++ utf8_entry (codes "Sample") → c ≡ b ++ class_entry 1 → d ≡ c ++ utf8_entry (codes "java/lang/Object") → e ≡ d ++ class_entry 3
    → f ≡ e ++ utf8_entry (codes "Code") → g ≡ f ++ utf8_entry (codes "StackMapTable") → h ≡ g ++ utf8_entry (codes "(I)I") → h ≡ a ++ class_entries
unfolding class_entries
class_entries_are a b c d e f g h p₁ p₂ p₃ p₄ p₅ p₆ p₇ =
    seven a b c d e f g h (utf8_entry (codes "Sample")) (class_entry 1) (utf8_entry (codes "java/lang/Object")) (class_entry 3)
    (utf8_entry (codes "Code")) (utf8_entry (codes "StackMapTable")) (utf8_entry (codes "(I)I")) p₁ p₂ p₃ p₄ p₅ p₆ p₇

pub code_is : (k : ℕ) (a b c d e f g h i : List ℕ) → b ≡ a ++ opcode.iload_0 ∷ [] → c ≡ b ++ opcode.sipush ∷ short (k + 2) → d ≡ c ++ opcode.irem ∷ []
    → e ≡ d ++ opcode.ifeq ∷ short 5 → f ≡ e ++ opcode.iload_0 ∷ [] → g ≡ f ++ opcode.ireturn ∷ [] → h ≡ g ++ opcode.sipush ∷ short k
    → i ≡ h ++ opcode.ireturn ∷ [] → i ≡ a ++ method_code k
unfolding method_code
code_is k a b c d e f g h i p₁ p₂ p₃ p₄ p₅ p₆ p₇ p₈ =
    joined a b i (opcode.iload_0 ∷ []) _ p₁
    (seven b c d e f g h i (opcode.sipush ∷ short (k + 2)) (opcode.irem ∷ []) (opcode.ifeq ∷ short 5) (opcode.iload_0 ∷ []) (opcode.ireturn ∷ [])
    (opcode.sipush ∷ short k) (opcode.ireturn ∷ []) p₂ p₃ p₄ p₅ p₆ p₇ p₈)

pub frames_are : (a b c d e : List ℕ) → b ≡ a ++ short 6 → c ≡ b ++ word 3 → d ≡ c ++ short 1 → e ≡ d ++ 10 ∷ [] → e ≡ a ++ attribute_text 6 frame_table
unfolding frame_table short
frames_are a b c d e p₁ p₂ p₃ p₄ = four a b c d e (short 6) (word 3) (short 1) (10 ∷ []) p₁ p₂ p₃ p₄

pub code_body_is : (k : ℕ) (a b c d e f g h : List ℕ) → b ≡ a ++ short 2 → c ≡ b ++ short 1 → d ≡ c ++ word 14 → e ≡ d ++ method_code k → f ≡ e ++ short 0
    → g ≡ f ++ short 1 → h ≡ g ++ attribute_text 6 frame_table → h ≡ a ++ code_body k
unfolding code_body
code_body_is k a b c d e f g h p₁ p₂ p₃ p₄ p₅ p₆ p₇ =
    seven a b c d e f g h (short 2) (short 1) (word (length (method_code k))) (method_code k) (short 0) (short 1) (attribute_text 6 frame_table)
    p₁ p₂ (p₃ ∙ ap (λ (n : ℕ). c ++ word n) (sym (code_size k))) p₄ p₅ p₆ p₇

pub method_is : (k : ℕ) (a b c d e f g h : List ℕ) → b ≡ a ++ short 9 → c ≡ b ++ short (8 + k) → d ≡ c ++ short 7 → e ≡ d ++ short 1 → f ≡ e ++ short 5
    → g ≡ f ++ word 35 → h ≡ g ++ code_body k → h ≡ a ++ method_text k
unfolding method_text
method_is k a b c d e f g h p₁ p₂ p₃ p₄ p₅ p₆ p₇ =
    seven a b c d e f g h (short 9) (short (8 + k)) (short 7) (short 1) (short 5) (word (length (code_body k))) (code_body k)
    p₁ p₂ p₃ p₄ p₅ (p₆ ∙ ap (λ (n : ℕ). f ++ word n) (sym (body_size k))) p₇

pub file_head_is : (n : ℕ) (a b c d e f g : List ℕ) → b ≡ a ++ word 0xcafebabe → c ≡ b ++ short 0 → d ≡ c ++ short 52 → e ≡ d ++ short (8 + n) → f ≡ e ++ class_entries
    → g ≡ f ++ name_entries n → g ≡ a ++ file_head n
unfolding file_head
file_head_is n a b c d e f g p₁ p₂ p₃ p₄ p₅ p₆ =
    joined a b g (word 0xcafebabe) _ p₁ (five b c d e f g (short 0) (short 52) (short (8 + n)) class_entries (name_entries n) p₂ p₃ p₄ p₅ p₆)

pub class_head_is : (a b c d e f : List ℕ) → b ≡ a ++ short 0x0021 → c ≡ b ++ short 2 → d ≡ c ++ short 4 → e ≡ d ++ short 0 → f ≡ e ++ short 0 → f ≡ a ++ class_head
unfolding class_head
class_head_is a b c d e f p₁ p₂ p₃ p₄ p₅ = five a b c d e f (short 0x0021) (short 2) (short 4) (short 0) (short 0) p₁ p₂ p₃ p₄ p₅

pub class_methods_are : (n : ℕ) (a b c d : List ℕ) → b ≡ a ++ short n → c ≡ b ++ flat_map method_text (range_with_len 0 n) → d ≡ c ++ short 0 → d ≡ a ++ class_methods n
unfolding class_methods
class_methods_are n a b c d p₁ p₂ p₃ = three a b c d (short n) (flat_map method_text (range_with_len 0 n)) (short 0) p₁ p₂ p₃

pub sample_file_is : (n : ℕ) (a b c d : List ℕ) → a ≡ [] → b ≡ a ++ file_head n → c ≡ b ++ class_head → d ≡ c ++ class_methods n → d ≡ sample_file n
unfolding sample_file
sample_file_is n a b c d none p₁ p₂ p₃ = three a b c d (file_head n) class_head (class_methods n) p₁ p₂ p₃ ∙ ap (λ (l : List ℕ). l ++ (file_head n ++ (class_head ++ class_methods n))) none
