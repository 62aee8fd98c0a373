-- The texts of the methods that give the probe array of a class: of the one that keeps it in a field, and of the bootstrap method.
use Rattle.std.specs.Prelude.{ℕ, ◌+◌, false, List, [], ◌∷◌, ◌++◌, length, nat_le, if◌then◌else◌}
use Rattle.jc_bytes.specs.BigNumbers.{short}
use Rattle.jc_methods.specs.Opcode as opcode
use Rattle.jc_methods.specs.ProbeMembers.{most_short}
use Rattle.jc_methods.specs.declared.probe_members.Fetch.{Fetch}
use Rattle.jc_methods.specs.declared.probe_members.Fetch.TheVariants as fetches
use Rattle.jc_class.specs.declared.class_file.Attribute.{Attribute}
use Rattle.jc_frames.specs.FullFrames.{Places, table_text}
use Rattle.jc_insn.specs.Writing.{insn_text}
use Rattle.jc_emit.specs.Added.{InitPlaces, end_place, init_stack, init_frame}
use Rattle.jc_emit.specs.Marks.{push}
use Rattle.jc_instrument_code.specs.declared.init.AddedPlaces.{AddedPlaces}
use Rattle.jc_instrument_code.specs.CodeText.{attribute, code_text}

-- the push of a number that no Integer is needed for, in its shortest spelling
abbrev pub push_count : (count : ℕ) → List ℕ
push_count count = insn_text 0 false (push count)

-- The push of the number of probes. Where its Integer stands at a place of the pool, ldc_w pushes it whatever the place is.
abbrev pub count_text : (integer count : ℕ) → List ℕ
count_text integer count = if nat_le count most_short then push_count count else opcode.ldc_w ∷ short integer

-- the offset of the last instruction: 14 bytes stand in front of the push, and seven between it and there
abbrev pub end_offset : (pushed : List ℕ) → ℕ
end_offset pushed = 21 + length pushed

-- The bytes of the code. The jump at offset 4 leads to the last instruction. `ldc_w` and `ldc2_w` stand there whatever the
-- place of the constant is (JVM Specification 6.5).
unfoldable pub init_bytes : InitPlaces → (pushed : List ℕ) → List ℕ
init_bytes p pushed =
    opcode.getstatic ∷ short p.field
    ++ (opcode.dup ∷ opcode.ifnonnull ∷ short (17 + length pushed)
    ++ (opcode.pop ∷ opcode.ldc2_w ∷ short p.id
    ++ (opcode.ldc_w ∷ short p.name
    ++ (pushed
    ++ (opcode.invokestatic ∷ short p.fetch
    ++ (opcode.dup ∷ opcode.putstatic ∷ short p.field
    ++ (opcode.areturn ∷ [])))))))

-- the places of what the frame names
abbrev pub init_frame_places : (array offset : ℕ) → Places
init_frame_places array offset = record { class = λ name. array; start = λ place. offset }

-- one full frame at the last instruction: no local variables, and the array on the stack
abbrev pub init_frames : (name array : ℕ) → (pushed : List ℕ) → Attribute
init_frames name array pushed =
    attribute name (table_text (init_frame_places array (end_offset pushed)) (record { at = end_place; state = init_frame } ∷ []))

-- What stands behind the name and the length of its Code attribute: no local variables, no exception table, and the
-- StackMapTable, whose name stands at the place `frames`, while the class of the array stands at `array`.
abbrev pub init_text : InitPlaces → (frames array count : ℕ) → List ℕ
init_text p frames array count =
    code_text init_stack 0 (init_bytes p (count_text p.count count)) (short 0) (init_frames frames array (count_text p.count count) ∷ [])

-- ---- the bootstrap method

-- the bytes of its code (JVM Specification 6.5)
unfoldable pub bootstrap_bytes : InitPlaces → (pushed : List ℕ) → List ℕ
bootstrap_bytes p pushed =
    opcode.ldc2_w ∷ short p.id
    ++ (opcode.ldc_w ∷ short p.name
    ++ (pushed
    ++ (opcode.invokestatic ∷ short p.fetch
    ++ (opcode.areturn ∷ []))))

-- what stands behind the name and the length of its Code attribute: local variables for three arguments, no exception table and no
-- attributes
abbrev pub bootstrap_text : InitPlaces → (count : ℕ) → List ℕ
bootstrap_text p count = code_text init_stack 3 (bootstrap_bytes p (count_text p.count count)) (short 0) []

-- ---- the method that is added

-- what stands there of the method that is added
abbrev pub added_text : Fetch → InitPlaces → (frames array count : ℕ) → List ℕ
added_text fetches.Member p frames array count = init_text p frames array count
added_text fetches.Constant p frames array count = bootstrap_text p count

-- the places of what the code names
abbrev pub named_places : AddedPlaces → InitPlaces
named_places p = record { field = p.field; id = p.id; name = p.name; count = p.count; fetch = p.fetch }
