-- What one instruction does to its frame and to what all threads share (JVM Specification 6.5). A thread is stuck
-- where an operand is missing or isn't of the kind that the instruction needs.
use Rattle.std.specs.Prelude.{◌∷◌, ◌++◌, drop, None, slice_index_or}
use Rattle.jc_machine_model.specs.Heap.{throwable}
use Rattle.jc_machine_model.specs.Effects.{Effect, gives, unfit, effect}
use Rattle.jc_machine_model.specs.World.{Frame, Shared}
use Rattle.jc_machine_model.specs.Operations.{Operation, pushes, computes, loads, stores, counts, tests, jumps, indexes, matches, reads, writes, makes_array, measures, gets, puts, invokes, makes, builds, prints, fetches, casts, returns, returns_nothing, throws_top, outside}
use Rattle.jc_machine_model.specs.Results.{Result, goes_with, goes, leaves, raises, gets_stuck}
use Rattle.jc_machine_model.specs.Locals.{by_load, by_store, by_count}
use Rattle.jc_machine_model.specs.Jumps.{test_of, by_test, by_switch}
use Rattle.jc_plan.specs.Chosen.{table_target, lookup_target}
use Rattle.jc_machine_model.specs.Arrays.{by_read, by_write, by_make_array, by_measure}
use Rattle.jc_machine_model.specs.Statics.{static_at, by_get, by_put}
use Rattle.jc_machine_model.specs.Calls.{taken_for, by_call, by_return}
use Rattle.jc_machine_model.specs.Objects.{made, by_build, by_throw, by_println, by_fetch, by_cast}
use Rattle.jc_machine_model.specs.Effects as effects

-- ---- the operand stack alone

abbrev pub by_effect : Effect → Shared → Frame → Result
by_effect (gives taken results) s f = goes_with s f (results ++ drop taken f.stack)
by_effect (effects.raises c) s f = raises c
by_effect unfit s f = gets_stuck

-- ---- all operations

unfoldable pub perform : Operation → Shared → Frame → Result
perform (pushes v) s f = goes_with s f (v ∷ f.stack)
perform (computes op) s f = by_effect (effect op f.stack) s f
perform (loads computational slot) s f = by_load computational (slice_index_or f.locals slot None) s f
perform (stores computational slot) s f = by_store computational slot f.stack s f
perform (counts slot by) s f = by_count slot by (slice_index_or f.locals slot None) s f
perform (tests op to) s f = by_test (test_of op f.stack) to s f
perform (jumps to) s f = goes s (record f { place = to })
perform (indexes low default arms) s f = by_switch (table_target low default arms) f.stack s f
perform (matches default arms) s f = by_switch (lookup_target default arms) f.stack s f
perform (reads types) s f = by_read types f.stack s f
perform (writes types) s f = by_write types f.stack s f
perform (makes_array element) s f = by_make_array element f.stack s f
perform measures s f = by_measure f.stack s f
perform (gets at type) s f = by_get (static_at s.statics at) s f
perform (puts at type) s f = by_put at type f.stack s f
perform (invokes callee parameters max_locals) s f = by_call callee max_locals (taken_for parameters f.stack) f
perform (makes c) s f = made 1 (throwable c) f.stack s f
perform (builds c) s f = by_build c f.stack s f
perform (prints printed) s f = by_println printed f.stack s f
perform (fetches class init) s f = by_fetch class init f.stack s f
perform (casts class) s f = by_cast class f.stack s f
perform (returns computational type) s f = by_return computational type f.stack
perform returns_nothing s f = leaves None
perform throws_top s f = by_throw f.stack s
perform outside s f = gets_stuck
