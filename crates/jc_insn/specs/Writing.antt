-- The shortest spelling of instructions.
use Rattle.std.specs.Prelude.{◌≡◌, ◌<◌, ◌≤◌, ⊤, ℕ, suc, ◌+◌, ◌-◌, ◌*◌, ◌%◌, ◌^◌, ℤ, pos, ◌+ℤ◌, Bool, false, List, [], ◌∷◌, ◌++◌, length, replicate, nat_eq, nat_lt, if◌then◌else◌, FitsSigned, All}
use Rattle.std.specs.List.{flat_map}
use Rattle.std.specs.Int.{w16, w32, cast_unsigned}
use Rattle.jc_bytes.specs.BigNumbers.{short, word}
use Rattle.jc_methods.specs.declared.form.Form.{Form}
use Rattle.jc_methods.specs.declared.form.Form.TheVariants as forms
use Rattle.jc_methods.specs.Opcode as opcode
use Rattle.jc_methods.specs.InsnForm.{form_of}
use Rattle.jc_methods.specs.declared.insn.Insn.{Insn}
use Rattle.jc_methods.specs.declared.insn.Insn.TheVariants as insns
use Rattle.jc_methods.specs.declared.insn.Arm.{Arm}
use Rattle.jc_methods.specs.Flow.{inverse_of}
use Rattle.jc_methods.specs.Insn.{with_places}
use Rattle.jc_methods.specs.Widened.{WideSet}
use Rattle.jc_insn.specs.Items.{padding}
use Rattle.jc_insn.specs.Sizes.{is_narrow_inc}

-- a signed number in one byte, and in two
abbrev pub signed_byte : ℤ → ℕ
signed_byte z = cast_unsigned w16 z % 256

abbrev pub signed_short : ℤ → List ℕ
signed_short z = short (cast_unsigned w16 z)

-- how far the second offset lies behind the first, as a number of 32 bits
abbrev pub difference : ℕ → ℕ → ℕ
difference at to = (to + (2 ^ 32 - at)) % 2 ^ 32

abbrev pub push_text : Form → ℕ → ℤ → List ℕ
push_text forms.PushByte op value = op ∷ signed_byte value ∷ []
push_text form op value = op ∷ signed_short value

-- the opcode of a load or a store that has the local variable in it
abbrev pub short_code : ℕ → ℕ → ℕ
short_code op slot =
    if nat_lt op opcode.istore then opcode.iload_0 + 4 * (op - opcode.iload) + slot
    else opcode.istore_0 + 4 * (op - opcode.istore) + slot

-- a load or a store: with the local variable in the opcode, behind it in a byte, or behind `wide`
abbrev pub local_text : ℕ → ℕ → List ℕ
local_text op slot =
    if nat_lt slot 4 then short_code op slot ∷ []
    else if nat_lt slot 256 then op ∷ slot ∷ []
    else opcode.wide ∷ op ∷ short slot

abbrev pub inc_text : ℕ → ℤ → List ℕ
inc_text slot by =
    if is_narrow_inc slot by then opcode.iinc ∷ slot ∷ signed_byte by ∷ []
    else opcode.wide ∷ opcode.iinc ∷ short slot ++ signed_short by

abbrev pub constant_text : ℕ → List ℕ
constant_text place = if nat_lt place 256 then opcode.ldc ∷ place ∷ [] else opcode.ldc_w ∷ short place

-- a wide jump: goto_w, or a conditional jump that its inverse leads past a goto_w
abbrev pub wide_jump_text : ℕ → ℕ → ℕ → List ℕ
wide_jump_text at op to =
    if nat_eq op opcode.goto then opcode.goto_w ∷ word (difference at to)
    else inverse_of op ∷ short 8 ++ opcode.goto_w ∷ word (difference (at + 3) to)

-- a jump in two bytes, or a wide one
abbrev pub jump_text : ℕ → Bool → ℕ → ℕ → List ℕ
jump_text at wide op to = if wide then wide_jump_text at op to else op ∷ short (difference at to % 65536)

abbrev pub arm_text : ℕ → Arm → List ℕ
arm_text at arm = word (cast_unsigned w32 arm.key) ++ word (difference at arm.to)

-- what pads a switch
unfoldable pub pad_text : ℕ → List ℕ
pad_text at = replicate (padding at) 0

-- the last of the keys from low on, of which there are so many
abbrev pub last_key : ℤ → ℕ → ℤ
last_key low count = low +ℤ pos (count - 1)

abbrev pub table_text : ℕ → ℤ → ℕ → List ℕ → List ℕ
table_text at low default arms =
    opcode.tableswitch ∷ pad_text at ++ (word (difference at default) ++ (word (cast_unsigned w32 low)
    ++ (word (cast_unsigned w32 (last_key low (length arms))) ++ flat_map (λ to. word (difference at to)) arms)))

abbrev pub lookup_text : ℕ → ℕ → List Arm → List ℕ
lookup_text at default arms =
    opcode.lookupswitch ∷ pad_text at ++ (word (difference at default) ++ (word (length arms) ++ flat_map (arm_text at) arms))

abbrev pub interface_text : ℕ → ℕ → List ℕ
interface_text place count = opcode.invokeinterface ∷ short place ++ (count ∷ 0 ∷ [])

abbrev pub dynamic_text : ℕ → List ℕ
dynamic_text place = opcode.invokedynamic ∷ short place ++ (0 ∷ 0 ∷ [])

abbrev pub multi_text : ℕ → ℕ → List ℕ
multi_text place dims = opcode.multianewarray ∷ short place ++ (dims ∷ [])

-- The shortest spelling of an instruction at this offset, where the places to which it leads are offsets.
-- Bytes of any value are 0.
unfoldable pub insn_text : ℕ → Bool → Insn → List ℕ
insn_text at wide (insns.Simple op) = op ∷ []
insn_text at wide (insns.Push op value) = push_text (form_of op) op value
insn_text at wide (insns.Local op slot) = local_text op slot
insn_text at wide (insns.Inc slot by) = inc_text slot by
insn_text at wide (insns.Constant place) = constant_text place
insn_text at wide (insns.Constant2 place) = opcode.ldc2_w ∷ short place
insn_text at wide (insns.Member op place) = op ∷ short place
insn_text at wide (insns.Interface place count) = interface_text place count
insn_text at wide (insns.Dynamic place) = dynamic_text place
insn_text at wide (insns.OfClass op place) = op ∷ short place
insn_text at wide (insns.NewArray elem) = opcode.newarray ∷ elem ∷ []
insn_text at wide (insns.Multi place dims) = multi_text place dims
insn_text at wide (insns.Jump op to) = jump_text at wide op to
insn_text at wide (insns.Table low default arms) = table_text at low default arms
insn_text at wide (insns.Lookup default arms) = lookup_text at default arms

-- The spellings of instructions, one behind the other, each at its offset; the first has the number n. `places` gives the offset of a
-- place in the code.
abbrev pub code_text : (ℕ → ℕ) → WideSet → (n : ℕ) → List Insn → List ℕ → List ℕ
code_text places wide n (insn ∷ code) (at ∷ starts) =
    insn_text at (wide n) (with_places places insn) ++ code_text places wide (suc n) code starts
code_text places wide n code starts = []

-- a jump from one offset to the other has room in two bytes of two's complement
abbrev pub IsNear : ℕ → ℕ → Type 0
IsNear at to = (to < at + 32768) × (at ≤ to + 32768)

-- the instruction at this offset, where the places to which it leads are offsets, has room for its jump
abbrev pub IsNearJump : ℕ → Insn → Type 0
IsNearJump at (insns.Jump op to) = IsNear at to
IsNearJump at insn = ⊤

-- each instruction at its offset has room for its jump, or is a wide one
abbrev pub AllNear : (ℕ → ℕ) → WideSet → (n : ℕ) → List Insn → List ℕ → Type 0
AllNear places wide n (insn ∷ code) (at ∷ starts) =
    (wide n ≡ false → IsNearJump at (with_places places insn)) × AllNear places wide (suc n) code starts
AllNear places wide n code starts = ⊤

-- the numbers that are no opcodes and no places in the code fit their types
abbrev pub IsInRange : Insn → Type 0
IsInRange (insns.Push op value) = FitsSigned w16 value
IsInRange (insns.Local op slot) = slot < 2 ^ 16
IsInRange (insns.Inc slot by) = (slot < 2 ^ 16) × FitsSigned w16 by
IsInRange (insns.Constant place) = place < 2 ^ 16
IsInRange (insns.Constant2 place) = place < 2 ^ 16
IsInRange (insns.Member op place) = place < 2 ^ 16
IsInRange (insns.Interface place count) = place < 2 ^ 16
IsInRange (insns.Dynamic place) = place < 2 ^ 16
IsInRange (insns.OfClass op place) = place < 2 ^ 16
IsInRange (insns.Multi place dims) = place < 2 ^ 16
IsInRange (insns.Table low default arms) = FitsSigned w32 low
IsInRange (insns.Lookup default arms) = All (λ arm. FitsSigned w32 arm.key) arms
IsInRange insn = ⊤
