-- Local variables (JVM Specification 2.6.1): loads, stores and iinc (6.5).
use Rattle.std.specs.Prelude.{ℕ, zero, suc, ℤ, ◌+◌, Bool, false, List, [], ◌∷◌, Option, Some, None, slice_set, slice_index_or, if◌then◌else◌}
use Rattle.std.specs.Int.{w32, int_wrapping_add}
use Rattle.jc_machine_model.specs.Values.{Value, int, ComputationalType, is_of, is_pair}
use Rattle.jc_machine_model.specs.World.{Frame, Shared}
use Rattle.jc_machine_model.specs.Results.{Result, goes_with, goes, gets_stuck}

-- the value of a local variable, if it is of the type, is pushed
abbrev pub by_load : ComputationalType → Option Value → Shared → Frame → Result
by_load computational None s f = gets_stuck
by_load computational (Some v) s f = if is_of computational v then goes_with s f (v ∷ f.stack) else gets_stuck

-- a long begins there
abbrev pub is_pair_there : Option Value → Bool
is_pair_there None = false
is_pair_there (Some v) = is_pair v

-- a long that begins one slot before is lost
abbrev pub clear_before : ℕ → List (Option Value) → List (Option Value)
clear_before zero locals = locals
clear_before (suc k) locals = if is_pair_there (slice_index_or locals k None) then slice_set locals k None else locals

-- a long takes the next slot too
abbrev pub clear_behind : ℕ → Value → List (Option Value) → List (Option Value)
clear_behind k v locals = if is_pair v then slice_set locals (k + 1) None else locals

-- the value put into a local variable
abbrev pub put_local : ℕ → Value → List (Option Value) → List (Option Value)
put_local k v locals = clear_behind k v (slice_set (clear_before k locals) k (Some v))

-- the top value, if it is of the type, goes into a local variable
abbrev pub by_store : ComputationalType → ℕ → List Value → Shared → Frame → Result
by_store computational k [] s f = gets_stuck
by_store computational k (v ∷ stack) s f =
    if is_of computational v then goes s (record f { place = f.place + 1; locals = put_local k v f.locals; stack = stack }) else gets_stuck

-- iinc writes its local variable and no other
abbrev pub by_count : ℕ → ℤ → Option Value → Shared → Frame → Result
by_count k by (Some (int x)) s f =
    goes s (record f { place = f.place + 1; locals = slice_set f.locals k (Some (int (int_wrapping_add w32 x by))) })
by_count k by _ s f = gets_stuck
