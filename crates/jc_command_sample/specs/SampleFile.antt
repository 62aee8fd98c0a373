-- The class file of the sample: a class of so many methods, each of which gives back its argument or its own number (JVM Specification 4.1 to 4.7.4).
use Rattle.std.specs.Prelude.{ℕ, ◌+◌, List, [], ◌∷◌, ◌++◌, length, codes}
use Rattle.std.specs.Fmt.{decimal}
use Rattle.std.specs.List.{flat_map, range_with_len}
use Rattle.jc_bytes.specs.BigNumbers.{short, word}
use Rattle.jc_methods.specs.Opcode as opcode

-- ---- the constant pool (JVM Specification 4.4.1, 4.4.7)

abbrev pub utf8_entry : List ℕ → List ℕ
utf8_entry text = 1 ∷ short (length text) ++ text

-- the class whose name stands at this place
abbrev pub class_entry : (name : ℕ) → List ℕ
class_entry name = 7 ∷ short name

-- the name of the class
abbrev pub sample_class : List ℕ
sample_class = codes "Sample"

-- the name of the method with this number
abbrev pub method_name : ℕ → List ℕ
method_name k = codes "m" ++ decimal k

-- the places 1 to 7 of the pool
unfoldable pub class_entries : List ℕ
class_entries =
    utf8_entry sample_class ++ (class_entry 1 ++ (utf8_entry (codes "java/lang/Object") ++ (class_entry 3
    ++ (utf8_entry (codes "Code") ++ (utf8_entry (codes "StackMapTable") ++ utf8_entry (codes "(I)I"))))))

-- the places from 8 on: the names of the methods
abbrev pub name_entries : (methods : ℕ) → List ℕ
name_entries n = flat_map (λ k. utf8_entry (method_name k)) (range_with_len 0 n)

-- ---- a method (JVM Specification 4.6, 4.7, 4.7.3, 4.7.4, 6.5)

-- an attribute whose name stands at this place
abbrev pub attribute_text : (name : ℕ) → List ℕ → List ℕ
attribute_text name body = short name ++ (word (length body) ++ body)

-- The argument, which the number k + 2 doesn't divide, is given back, and else k is. The jump at offset 5 leads to offset 10.
unfoldable pub method_code : ℕ → List ℕ
method_code k =
    opcode.iload_0 ∷ opcode.sipush ∷ short (k + 2)
    ++ (opcode.irem ∷ opcode.ifeq ∷ short 5
    ++ (opcode.iload_0 ∷ opcode.ireturn ∷ opcode.sipush ∷ short k ++ opcode.ireturn ∷ []))

-- one frame, at offset 10, of the local variables at the beginning and an empty stack (same_frame)
unfoldable pub frame_table : List ℕ
frame_table = short 1 ++ 10 ∷ []

-- two slots of operands, one local variable, the code, no exception table, and one attribute: the frames
unfoldable pub code_body : ℕ → List ℕ
code_body k =
    short 2 ++ (short 1 ++ (word (length (method_code k)) ++ (method_code k
    ++ (short 0 ++ (short 1 ++ attribute_text 6 frame_table)))))

-- public and static, with a name, a descriptor and one attribute: the code
unfoldable pub method_text : ℕ → List ℕ
method_text k = short 0x0009 ++ (short (8 + k) ++ (short 7 ++ (short 1 ++ attribute_text 5 (code_body k))))

-- ---- the whole

-- the magic number, the version 52.0, and the pool
unfoldable pub file_head : (methods : ℕ) → List ℕ
file_head n = word 0xcafebabe ++ (short 0 ++ (short 52 ++ (short (8 + n) ++ (class_entries ++ name_entries n))))

-- public, with the class at place 2 and its superclass at place 4, and without interfaces and fields
unfoldable pub class_head : List ℕ
class_head = short 0x0021 ++ (short 2 ++ (short 4 ++ (short 0 ++ short 0)))

-- the number of methods and the methods, and no attributes of the class
unfoldable pub class_methods : (methods : ℕ) → List ℕ
class_methods n = short n ++ (flat_map method_text (range_with_len 0 n) ++ short 0)

unfoldable pub sample_file : (methods : ℕ) → List ℕ
sample_file n = file_head n ++ (class_head ++ class_methods n)
