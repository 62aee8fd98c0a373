-- How many places the states of bodies take that are kept.
use Rattle.std.specs.Prelude.{ℕ, ◌+◌, ◌*◌, List, length, Option, Some, None}
use Rattle.std.specs.List.{sum_by}
use Rattle.jc_methods.specs.declared.body.Body.{Body}
use Rattle.jc_methods.specs.declared.kind.State.{State}
use Rattle.jc_instrument.specs.declared.looked.LookedBody.{LookedBody}
use Rattle.jc_instrument.specs.declared.looked.LookedBody.TheVariants.{Kept, Unread}

-- six for each state of the body, and one for each local variable and each slot of the stack
abbrev pub places_of : Body → ℕ
places_of b = length b.code * (b.max_locals + b.max_stack + 6)

-- the states of the body, if they are kept
abbrev pub places_if_kept : Body → Option (List State) → ℕ
places_if_kept b None = 0
places_if_kept b (Some states) = places_of b

abbrev pub looked_places : LookedBody → ℕ
looked_places (Kept k) = places_of k.body
looked_places (Unread u) = 0

-- all that are kept
abbrev pub places_kept : List LookedBody → ℕ
places_kept looked = sum_by looked_places looked
