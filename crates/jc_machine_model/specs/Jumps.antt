-- Conditional jumps and switches (JVM Specification 6.5).
use Rattle.std.specs.Prelude.{ℕ, ℤ, pos, ◌+◌, ◌-◌, Bool, ◌&&◌, not, List, ◌∷◌, Option, Some, None, nat_eq, nat_lt, int_lt, int_le, if◌then◌else◌}
use Rattle.jc_methods.specs.Opcode as opcode
use Rattle.jc_machine_model.specs.Values.{Value, int, null, is_reference, is_same}
use Rattle.jc_machine_model.specs.World.{Frame, Shared}
use Rattle.jc_machine_model.specs.Results.{Result, goes, gets_stuck}

-- the test of a conditional jump, and the operands that it leaves
pub record Tested : Type 0 where
  pub jumps : Bool
  pub stack : List Value

-- the two are equal
abbrev pub int_equal : ℤ → ℤ → Bool
int_equal x y = int_le x y && int_le y x

-- the comparison with this number, in the order of the opcodes: eq, ne, lt, ge, gt, le
abbrev pub compares : ℕ → ℤ → ℤ → Bool
compares k x y =
    if nat_eq k 0 then int_equal x y
    else if nat_eq k 1 then not (int_equal x y)
    else if nat_eq k 2 then int_lt x y
    else if nat_eq k 3 then int_le y x
    else if nat_eq k 4 then int_lt y x
    else int_le x y

-- the comparison of references with this number: eq, ne
abbrev pub agrees : ℕ → Bool → Bool
agrees k same = if nat_eq k 0 then same else not same

-- a test that holds or not
abbrev pub tested : Bool → List Value → Option Tested
tested holds stack = Some (record { jumps = holds; stack = stack })

-- the top int, compared with 0
abbrev pub zero_test : ℕ → List Value → Option Tested
zero_test k (int x ∷ stack) = tested (compares k x (pos 0)) stack
zero_test k _ = None

-- two ints, the second of them on top
abbrev pub int_test : ℕ → List Value → Option Tested
int_test k (int y ∷ int x ∷ stack) = tested (compares k x y) stack
int_test k _ = None

-- two references
abbrev pub reference_test : ℕ → List Value → Option Tested
reference_test k (b ∷ a ∷ stack) = if is_reference a && is_reference b then tested (agrees k (is_same a b)) stack else None
reference_test k _ = None

-- the top reference, compared with null
abbrev pub null_test : ℕ → List Value → Option Tested
null_test k (a ∷ stack) = if is_reference a then tested (agrees k (is_same a null)) stack else None
null_test k _ = None

-- the test of a conditional jump: ifeq to ifle, if_icmpeq to if_icmple, if_acmpeq and if_acmpne, ifnull and ifnonnull
unfoldable pub test_of : ℕ → List Value → Option Tested
test_of op stack =
    if nat_lt op opcode.if_icmpeq then zero_test (op - opcode.ifeq) stack
    else if nat_lt op opcode.if_acmpeq then int_test (op - opcode.if_icmpeq) stack
    else if nat_lt op opcode.goto then reference_test (op - opcode.if_acmpeq) stack
    else null_test (op - opcode.ifnull) stack

-- the frame goes on where the jump leads, or at the next instruction
abbrev pub by_test : Option Tested → ℕ → Shared → Frame → Result
by_test None to s f = gets_stuck
by_test (Some t) to s f = goes s (record f { place = if t.jumps then to else f.place + 1; stack = t.stack })

-- the frame goes on where the key on top leads
abbrev pub by_switch : (ℤ → ℕ) → List Value → Shared → Frame → Result
by_switch leads (int key ∷ stack) s f = goes s (record f { place = leads key; stack = stack })
by_switch leads _ s f = gets_stuck
