-- What the next turn of a thread is where threads take locks (JVM Specification 6.5, monitorenter, monitorexit, invokestatic).
use Rattle.std.specs.Prelude.{ℕ, List, Option, Some, None, nat_lt, if◌then◌else◌}
use Rattle.jc_programs.specs.declared.program.Program.{Program}
use Rattle.jc_programs.specs.declared.run_end.Entry.{Entry}
use Rattle.jc_machine_model.specs.Standings.{Standing, stands, TopValue, a_null, an_object, top_in}
use Rattle.jc_machine_model.specs.Locked.{MonitorInsn, enters, exits, monitor_at, callee}
use Rattle.jc_monitor_model.specs.Locks.{Lock, of_object, of_class, Held, most_times, Access, free, its_own, another's, access, is_full}
use Rattle.jc_monitor_model.specs.MonitorWorld.{MonitorWorld}

pub data MonitorTurn : Type 0 where
  -- the thread has ended, is stuck, or waits for a lock that another thread holds; nothing changes
  idle : MonitorTurn
  -- the turn that it would take without locks
  plain : MonitorTurn
  -- a NullPointerException is raised
  raises_null : MonitorTurn
  -- the lock is taken or given back, and the operand on top goes
  takes : Lock → MonitorTurn
  gives : Lock → MonitorTurn
  -- a synchronized method is called
  calls_locked : Entry → MonitorTurn

-- ---- monitor instructions

-- Where no lock more can be held, or the count would pass its bound, the thread is stuck, as without locks.
abbrev pub turn_to_enter : Lock → List Held → Access → MonitorTurn
turn_to_enter lock held free = if is_full held then plain else takes lock
turn_to_enter lock held (its_own n) = if nat_lt n most_times then takes lock else plain
turn_to_enter lock held another's = idle

-- A lock that the thread doesn't hold isn't given back: it is stuck.
abbrev pub turn_to_exit : Lock → Access → MonitorTurn
turn_to_exit lock (its_own n) = gives lock
turn_to_exit lock access = plain

abbrev pub turn_on_lock : ℕ → MonitorInsn → Lock → List Held → MonitorTurn
turn_on_lock t enters lock held = turn_to_enter lock held (access t lock held)
turn_on_lock t exits lock held = turn_to_exit lock (access t lock held)

abbrev pub turn_on_top : ℕ → MonitorInsn → TopValue → List Held → MonitorTurn
turn_on_top t insn a_null held = raises_null
turn_on_top t insn (an_object k) held = turn_on_lock t insn (of_object k) held
turn_on_top t insn top held = plain

-- ---- calls of synchronized methods

abbrev pub turn_to_call : Entry → Access → MonitorTurn
turn_to_call callee another's = idle
turn_to_call callee access = calls_locked callee

abbrev pub turn_on_call : ℕ → Option Entry → List Held → MonitorTurn
turn_on_call t None held = plain
turn_on_call t (Some callee) held = turn_to_call callee (access t (of_class callee.class) held)

-- ---- all turns

abbrev pub turn_on : ℕ → Option MonitorInsn → TopValue → Option Entry → List Held → MonitorTurn
turn_on t (Some insn) top callee held = turn_on_top t insn top held
turn_on t None top callee held = turn_on_call t callee held

abbrev pub turn_if : Option Standing → MonitorTurn → MonitorTurn
turn_if None turn = idle
turn_if (Some standing) turn = turn

abbrev pub turn_of : Program → MonitorWorld → ℕ → MonitorTurn
turn_of program m t =
    turn_if (stands program m.world t) (turn_on t (monitor_at program m.world t) (top_in m.world t) (callee program m.world t) m.held)
