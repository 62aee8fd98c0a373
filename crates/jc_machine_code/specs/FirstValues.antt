-- The first values of static fields, by the first letter of the descriptor (JVM Specification 4.3.2).
use Rattle.std.specs.Prelude.{ℕ, ℤ, pos, negsuc, ◌≤ℤ◌, ◌≡◌, false, ◌||◌, nat_eq, if◌then◌else◌}
use Rattle.jc_machine_model.specs.Values.{Value, int, long, null}

-- null for `L` and `[`, and where the descriptor has no type
abbrev pub value_by : ℕ → ℤ → Value
value_by letter n = if nat_eq letter 76 || (nat_eq letter 91 || nat_eq letter 41) then null else if nat_eq letter 74 then long n else int n

-- the number is one of 32 bits where the letter is that of an int, or of a smaller type
abbrev pub FitsLetter : ℕ → ℤ → Type 0
FitsLetter letter n =
    (nat_eq letter 76 || (nat_eq letter 91 || nat_eq letter 41)) ≡ false → nat_eq letter 74 ≡ false → (negsuc 2147483647 ≤ℤ n) × (n ≤ℤ pos 2147483647)
