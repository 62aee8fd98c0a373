-- What is kept of locks and turns, as the definitions say it.
use Rattle.std.specs.Prelude.{Option, Some, None}
use Rattle.jc_programs.specs.declared.run_end.Entry.{Entry}
use Rattle.jc_machine_model.specs.Locked.{MonitorInsn, enters, exits}
use Rattle.jc_machine.specs.declared.standing.Standing.{Standing}
use Rattle.jc_machine.specs.Standings.{standing_in, callee_in}
use Rattle.jc_monitor_model.specs.Locks as model
use Rattle.jc_monitor_model.specs.SynchronizedFrames as model_frames
use Rattle.jc_monitor_model.specs.MonitorTurns as model_turns
use Rattle.jc_monitor_world.specs.declared.lock.Lock.{Lock}
use Rattle.jc_monitor_world.specs.declared.lock.Lock.TheVariants as locks
use Rattle.jc_monitor_world.specs.declared.lock.HeldLock.{HeldLock}
use Rattle.jc_monitor_world.specs.declared.lock.Access.{Access}
use Rattle.jc_monitor_world.specs.declared.lock.Access.TheVariants as accesses
use Rattle.jc_monitor_world.specs.declared.frames.SynchronizedFrame.{SynchronizedFrame}
use Rattle.jc_monitor_world.specs.declared.next_turn.MonitorInsn.{MonitorInsn as KeptInsn}
use Rattle.jc_monitor_world.specs.declared.next_turn.MonitorInsn.TheVariants as insns
use Rattle.jc_monitor_world.specs.declared.next_turn.MonitorTurn.{MonitorTurn}
use Rattle.jc_monitor_world.specs.declared.next_turn.MonitorTurn.TheVariants as turns

-- ---- locks

abbrev pub lock_of : Lock → model.Lock
lock_of (locks.Object number) = model.of_object number
lock_of (locks.Class class) = model.of_class class

abbrev pub held_of : HeldLock → model.Held
held_of h = record { lock = lock_of h.lock; thread = h.thread; count = h.count }

abbrev pub access_of : Access → model.Access
access_of accesses.Free = model.free
access_of (accesses.Own count) = model.its_own count
access_of accesses.Others = model.another's

-- ---- frames

abbrev pub frame_of : SynchronizedFrame → model_frames.SynchronizedFrame
frame_of f = record { depth = f.depth; class = f.class }

-- ---- turns

abbrev pub insn_of : KeptInsn → MonitorInsn
insn_of insns.Enters = enters
insn_of insns.Exits = exits

abbrev pub insn_seen : Option KeptInsn → Option MonitorInsn
insn_seen None = None
insn_seen (Some insn) = Some (insn_of insn)

abbrev pub method_of : Standing → Entry
method_of standing = (standing_in standing).method

abbrev pub turn_seen : MonitorTurn → model_turns.MonitorTurn
turn_seen turns.Idle = model_turns.idle
turn_seen turns.Plain = model_turns.plain
turn_seen turns.RaisesNull = model_turns.raises_null
turn_seen (turns.Takes lock) = model_turns.takes (lock_of lock)
turn_seen (turns.Gives lock) = model_turns.gives (lock_of lock)
turn_seen (turns.CallsLocked callee) = model_turns.calls_locked (callee_in callee)
