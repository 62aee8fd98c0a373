-- What an instruction comes to, as the definitions of turns have it.
use Rattle.std.specs.Prelude.{◌≡◌, ⊤, ℕ, List, option_map}
use Rattle.jc_bytes.specs.Descriptor.{FieldType}
use Rattle.jc_machine_model.specs.World as world
use Rattle.jc_machine_model.specs.Results.{Result, goes, hits, leaves, raises, throws, gets_stuck}
use Rattle.jc_machine_model.specs.Operations.{Operation, invokes}
use Rattle.jc_machine_model.specs.Perform.{perform}
use Rattle.jc_machine_memory.specs.Values.{value_of}
use Rattle.jc_machine_memory.specs.Frames.{FrameSeen}
use Rattle.jc_machine_turn.specs.Contents.{SharedSeen}
use Rattle.jc_machine_turn.specs.declared.next.Next.{Next}
use Rattle.jc_machine_turn.specs.declared.next.Next.TheVariants as nexts

-- With what all threads share and with the frame as they are then. The locals of a callee aren't made yet: a call has no
-- result here.
abbrev pub result_of : Next → world.Shared → world.Frame → Result
result_of nexts.Goes s f = goes s f
result_of (nexts.Hits class id) s f = hits class id f
result_of (nexts.Calls callee) s f = gets_stuck
result_of (nexts.Leaves v) s f = leaves (option_map value_of v)
result_of (nexts.Raises c) s f = raises c
result_of (nexts.Throws c v) s f = throws c (value_of v)
result_of nexts.Stuck s f = gets_stuck

-- with what is kept of both
abbrev pub left_by : Next → SharedSeen → FrameSeen → Result
left_by next s f = result_of next s.content f.content

-- A frame changes only where it goes on, and what all threads share only where no probe is hit beside.
abbrev pub KeepsFrame : Next → world.Frame → world.Frame → Type 0
KeepsFrame nexts.Goes f f' = ⊤
KeepsFrame (nexts.Hits class id) f f' = ⊤
KeepsFrame next f f' = f' ≡ f

abbrev pub KeepsShared : Next → world.Shared → world.Shared → Type 0
KeepsShared nexts.Goes s s' = ⊤
KeepsShared next s s' = s' ≡ s

-- No call is left to be made, and the frame has changed only where it goes on.
abbrev pub Settles : Next → world.Frame → world.Frame → Type 0
Settles nexts.Goes f f' = ⊤
Settles (nexts.Hits class id) f f' = ⊤
Settles (nexts.Calls callee) f f' = ⊥
Settles next f f' = f' ≡ f

-- What came of an operation, with what all threads share and with the frame as they are then, is what the definition
-- makes of them as they were. A call alone is left to be made, and is one of the operation's method.
abbrev pub ComesTo : Next → world.Shared → world.Frame → Operation → world.Shared → world.Frame → Type 0
ComesTo (nexts.Calls callee) s' f' operation s f = (parameters : List FieldType) × (max_locals : ℕ) × (operation ≡ invokes callee parameters max_locals)
ComesTo next s' f' operation s f = result_of next s' f' ≡ perform operation s f
