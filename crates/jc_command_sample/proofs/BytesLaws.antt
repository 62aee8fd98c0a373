-- The class file of a sample is a list of bytes, and not too long to be read.
use Rattle.std.proofs.Common.{◌≡◌, ℕ, zero, suc, ◌+◌, ◌*◌, ◌%◌, ◌<◌, ◌≤◌, ◌^◌, List, [], ◌∷◌, ◌++◌, length, codes, refl, arith, length-append}
use Rattle.std.specs.Fmt.{decimal}
use Rattle.std.specs.List.{flat_map, range_with_len}
use Rattle.std.proofs.lemmas.Fmt.{decimal_by_steps, length-decimal-le}
use Rattle.jc_bytes.specs.ByteLists.{AreBytes}
use Rattle.jc_bytes.specs.Reader.{most_read}
use Rattle.jc_bytes.specs.BigNumbers.{short, word}
use Rattle.jc_insn.proofs.ReadBackLaws.{short_size}
use Rattle.jc_instrument_laws.proofs.CodeBytesLaws.{short_are, word_are}
use Rattle.jc_instrument_laws.proofs.ClassSpellingLaws.{bytes_both}
use Rattle.jc_instrument_laws.proofs.NamedStepsLaws.{bytes_by}
use Rattle.jc_methods.specs.Opcode as opcode
use Rattle.jc_command_sample.specs.SampleFile.{utf8_entry, method_name, class_entries, name_entries, attribute_text, method_code, frame_table, code_body, method_text, file_head, class_head, class_methods, sample_file}

-- ---- bytes

decimal_are : (n : ℕ) → n < 2 ^ 64 → AreBytes (decimal n)
decimal_are = decimal_by_steps (λ n ds. AreBytes ds) (λ n less. (omega (arith, less), tt)) (λ n ds more are. bytes_both ds ((48 + n % 10) ∷ []) are (omega arith, tt))

entry_are : (text : List ℕ) → AreBytes text → AreBytes (utf8_entry text)
entry_are text are = (omega arith, bytes_both (short (length text)) text (short_are (length text)) are)

name_are : (k : ℕ) → k < 1000 → AreBytes (method_name k)
name_are k less = bytes_both (codes "m") (decimal k) (bytes_by (codes "m") refl) (decimal_are k (omega (arith, less)))

attribute_are : (name : ℕ) (body : List ℕ) → AreBytes body → AreBytes (attribute_text name body)
attribute_are name body are = bytes_both (short name) (word (length body) ++ body) (short_are name) (bytes_both (word (length body)) body (word_are (length body)) are)

code_are : (k : ℕ) → AreBytes (method_code k)
unfolding method_code
code_are k =
    bytes_both (opcode.iload_0 ∷ opcode.sipush ∷ short (k + 2)) _ (omega arith, (omega arith, short_are (k + 2)))
    (bytes_both (opcode.irem ∷ opcode.ifeq ∷ short 5) _ (omega arith, (omega arith, short_are 5))
    (bytes_both (opcode.iload_0 ∷ opcode.ireturn ∷ opcode.sipush ∷ short k) (opcode.ireturn ∷ []) (omega arith, (omega arith, (omega arith, short_are k))) (omega arith, tt)))

frames_are : AreBytes frame_table
unfolding frame_table short
frames_are = bytes_by frame_table refl

body_are : (k : ℕ) → AreBytes (code_body k)
unfolding code_body
body_are k =
    bytes_both (short 2) _ (short_are 2) (bytes_both (short 1) _ (short_are 1) (bytes_both (word (length (method_code k))) _ (word_are (length (method_code k)))
    (bytes_both (method_code k) _ (code_are k) (bytes_both (short 0) _ (short_are 0) (bytes_both (short 1) _ (short_are 1) (attribute_are 6 frame_table frames_are))))))

method_are : (k : ℕ) → k < 1000 → AreBytes (method_text k)
unfolding method_text
method_are k less =
    bytes_both (short 9) _ (short_are 9) (bytes_both (short (8 + k)) _ (short_are (8 + k)) (bytes_both (short 7) _ (short_are 7)
    (bytes_both (short 1) _ (short_are 1) (attribute_are 5 (code_body k) (body_are k)))))

pieces_are : (f : ℕ → List ℕ) → ((k : ℕ) → k < 1000 → AreBytes (f k)) → (a n : ℕ) → a + n ≤ 1000 → AreBytes (flat_map f (range_with_len a n))
pieces_are f each a zero within = tt
pieces_are f each a (suc n) within = bytes_both (f a) (flat_map f (range_with_len (a + 1) n)) (each a (omega (arith, within))) (pieces_are f each (a + 1) n (omega (arith, within)))

entries_are : AreBytes class_entries
unfolding class_entries short
entries_are = bytes_by class_entries refl

class_head_are : AreBytes class_head
unfolding class_head short
class_head_are = bytes_by class_head refl

file_head_are : (n : ℕ) → n ≤ 1000 → AreBytes (file_head n)
unfolding file_head
file_head_are n within =
    bytes_both (word 0xcafebabe) _ (word_are 0xcafebabe) (bytes_both (short 0) _ (short_are 0) (bytes_both (short 52) _ (short_are 52)
    (bytes_both (short (8 + n)) _ (short_are (8 + n)) (bytes_both class_entries (name_entries n) entries_are
    (pieces_are (λ k. utf8_entry (method_name k)) (λ k less. entry_are (method_name k) (name_are k less)) 0 n (omega (arith, within)))))))

class_methods_are : (n : ℕ) → n ≤ 1000 → AreBytes (class_methods n)
unfolding class_methods
class_methods_are n within =
    bytes_both (short n) _ (short_are n) (bytes_both (flat_map method_text (range_with_len 0 n)) (short 0) (pieces_are method_text method_are 0 n (omega (arith, within))) (short_are 0))

pub sample_bytes : (n : ℕ) → n ≤ 1000 → AreBytes (sample_file n)
unfolding sample_file
sample_bytes n within =
    bytes_both (file_head n) (class_head ++ class_methods n) (file_head_are n within) (bytes_both class_head (class_methods n) class_head_are (class_methods_are n within))

-- ---- sizes

method_size : (k : ℕ) → length (method_text k) ≡ 49
unfolding method_text code_body method_code frame_table short word
method_size k = refl

entries_size : length class_entries ≤ 100
unfolding class_entries short
entries_size = omega arith

name_size : (k : ℕ) → k < 1000 → length (utf8_entry (method_name k)) ≤ 10
name_size k less =
    let digits = length-decimal-le 3 k (omega arith) (omega (arith, less)) (omega (arith, less)) in
    let size = short_size (length (method_name k)) in
    let whole = length-append (short (length (method_name k))) (method_name k) in
    omega (arith, digits, size, whole)

pieces_size : (f : ℕ → List ℕ) (m : ℕ) → ((k : ℕ) → k < 1000 → length (f k) ≤ m) → (a n : ℕ) → a + n ≤ 1000 → length (flat_map f (range_with_len a n)) ≤ m * n
pieces_size f m each a zero within = omega arith
pieces_size f m each a (suc n) within =
    let first = each a (omega (arith, within)) in
    let rest = pieces_size f m each (a + 1) n (omega (arith, within)) in
    let whole = length-append (f a) (flat_map f (range_with_len (a + 1) n)) in
    omega (arith, first, rest, whole)

file_head_size : (n : ℕ) → n ≤ 1000 → length (file_head n) ≤ 110 + 10 * n
unfolding file_head short word
file_head_size n within =
    let names = pieces_size (λ k. utf8_entry (method_name k)) 10 name_size 0 n (omega (arith, within)) in
    let entries = entries_size in
    let whole = length-append class_entries (name_entries n) in
    omega (arith, names, entries, whole)

class_head_size : length class_head ≡ 10
unfolding class_head short
class_head_size = refl

class_methods_size : (n : ℕ) → n ≤ 1000 → length (class_methods n) ≤ 4 + 49 * n
unfolding class_methods
class_methods_size n within =
    let methods = pieces_size method_text 49 (λ k less. (let size = method_size k in omega (arith, size))) 0 n (omega (arith, within)) in
    let last = length-append (flat_map method_text (range_with_len 0 n)) (short 0) in
    let whole = length-append (short n) (flat_map method_text (range_with_len 0 n) ++ short 0) in
    let a = short_size n in
    let b = short_size 0 in
    omega (arith, methods, last, whole, a, b)

pub sample_short : (n : ℕ) → n ≤ 1000 → length (sample_file n) ≤ most_read
unfolding sample_file
sample_short n within =
    let front = file_head_size n within in
    let middle = class_head_size in
    let back = class_methods_size n within in
    let whole = length-append (file_head n) (class_head ++ class_methods n) in
    let rest = length-append class_head (class_methods n) in
    omega (arith, front, middle, back, whole, rest)
