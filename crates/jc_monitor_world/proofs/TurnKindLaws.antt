-- What is known where the next turn is of a kind.
use Rattle.std.proofs.Common.{◌≡◌, ℕ, ◌<◌, Bool, true, false, not, cond, List, length, Option, Some, None, nat_lt, refl, sym, ap, ◌∙◌, subst}
use Rattle.std.proofs.lemmas.Bool.{ltb-true}
use Rattle.jc_programs.specs.declared.run_end.Entry.{Entry}
use Rattle.jc_machine_model.specs.Standings.{Standing, TopValue, no_value, a_null, an_object, another}
use Rattle.jc_machine_model.specs.Locked.{MonitorInsn, enters, exits}
use Rattle.jc_monitor_model.specs.Locks.{Lock, of_object, of_class, Held, most_locks, most_times, Access, free, its_own, another's, access, is_full}
use Rattle.jc_monitor_model.specs.MonitorTurns.{MonitorTurn, plain, takes, gives, calls_locked, turn_to_enter, turn_to_exit, turn_to_call, turn_on, turn_if}
use Rattle.jc_monitor_model.specs.KeptLocks.{MayTake}

-- ---- kinds of turns

abbrev lock_in : Lock → MonitorTurn → Lock
lock_in other (takes lock) = lock
lock_in other (gives lock) = lock
lock_in other turn = other

abbrev callee_in : Entry → MonitorTurn → Entry
callee_in other (calls_locked callee) = callee
callee_in other turn = other

-- ---- a lock is taken

-- that of an object, where it may be taken
pub record TakesObject (t : ℕ) (held : List Held) (lock : Lock) (object : ℕ) : Type 0 where
  pub is : lock ≡ of_object object
  pub may : MayTake (length held) (access t lock held)

-- at a monitor instruction with the object on top
pub record AtObject (i : Option MonitorInsn) (top : TopValue) (object : ℕ) : Type 0 where
  pub insn : MonitorInsn
  pub at : i ≡ Some insn
  pub operand : top ≡ an_object object

room : (held : List Held) → is_full held ≡ false → length held < most_locks
room held e = ltb-true (length held) most_locks (by (nat_lt (length held) most_locks) e)
  where
    by : (z : Bool) → not z ≡ false → z ≡ true
    by true e = refl
    by false e = absurd (cc)

enters_takes : (t k : ℕ) (held : List Held) (lock : Lock) (a : Access) → access t (of_object k) held ≡ a → turn_to_enter (of_object k) held a ≡ takes lock
    → TakesObject t held lock k
enters_takes t k held lock free q e = by (is_full held) refl e
  where
    by : (z : Bool) → is_full held ≡ z → cond z plain (takes (of_object k)) ≡ takes lock → TakesObject t held lock k
    by true full e = absurd (cc)
    by false full e =
        let same : of_object k ≡ lock = ap (lock_in lock) e in
        record { is = sym same; may = subst (λ l. MayTake (length held) (access t l held)) same (subst (MayTake (length held)) (sym q) (room held full)) }
enters_takes t k held lock (its_own n) q e = by (nat_lt n most_times) refl e
  where
    by : (z : Bool) → nat_lt n most_times ≡ z → cond z (takes (of_object k)) plain ≡ takes lock → TakesObject t held lock k
    by true less e =
        let same : of_object k ≡ lock = ap (lock_in lock) e in
        record {
          is = sym same;
          may = subst (λ l. MayTake (length held) (access t l held)) same
              (subst (MayTake (length held)) (sym q) (ltb-true n most_times less));
        }
    by false less e = absurd (cc)
enters_takes t k held lock another's q e = absurd (cc)

exits_takes : (k : ℕ) (lock : Lock) (a : Access) → turn_to_exit (of_object k) a ≡ takes lock → ⊥
exits_takes k lock free e = cc
exits_takes k lock (its_own n) e = cc
exits_takes k lock another's e = cc

calls_takes : (callee : Entry) (lock : Lock) (a : Access) → turn_to_call callee a ≡ takes lock → ⊥
calls_takes callee lock free e = cc
calls_takes callee lock (its_own n) e = cc
calls_takes callee lock another's e = cc

pub takes_object : (t : ℕ) (s : Option Standing) (i : Option MonitorInsn) (top : TopValue) (c : Option Entry) (held : List Held) (lock : Lock)
    → turn_if s (turn_on t i top c held) ≡ takes lock → (object : ℕ) × AtObject i top object × TakesObject t held lock object
takes_object t None i top c held lock e = absurd (cc)
takes_object t (Some s) None top None held lock e = absurd (cc)
takes_object t (Some s) None top (Some callee) held lock e = absurd (calls_takes callee lock (access t (of_class callee.class) held) e)
takes_object t (Some s) (Some insn) no_value c held lock e = absurd (cc)
takes_object t (Some s) (Some insn) a_null c held lock e = absurd (cc)
takes_object t (Some s) (Some enters) (an_object k) c held lock e =
    (k, record { insn = enters; at = refl; operand = refl }, enters_takes t k held lock (access t (of_object k) held) refl e)
takes_object t (Some s) (Some exits) (an_object k) c held lock e = absurd (exits_takes k lock (access t (of_object k) held) e)
takes_object t (Some s) (Some insn) another c held lock e = absurd (cc)

-- ---- a lock is given back

pub record GivesObject (t : ℕ) (held : List Held) (lock : Lock) (object : ℕ) : Type 0 where
  pub is : lock ≡ of_object object
  pub count : ℕ
  pub own : access t lock held ≡ its_own count

enters_gives : (k : ℕ) (held : List Held) (lock : Lock) (a : Access) → turn_to_enter (of_object k) held a ≡ gives lock → ⊥
enters_gives k held lock free e = by (is_full held) e
  where
    by : (z : Bool) → cond z plain (takes (of_object k)) ≡ gives lock → ⊥
    by true e = cc
    by false e = cc
enters_gives k held lock (its_own n) e = by (nat_lt n most_times) e
  where
    by : (z : Bool) → cond z (takes (of_object k)) plain ≡ gives lock → ⊥
    by true e = cc
    by false e = cc
enters_gives k held lock another's e = cc

exits_gives : (t k : ℕ) (held : List Held) (lock : Lock) (a : Access) → access t (of_object k) held ≡ a → turn_to_exit (of_object k) a ≡ gives lock
    → GivesObject t held lock k
exits_gives t k held lock free q e = absurd (cc)
exits_gives t k held lock (its_own n) q e =
    let same : of_object k ≡ lock = ap (lock_in lock) e in
    record { is = sym same; count = n; own = subst (λ l. access t l held ≡ its_own n) same q }
exits_gives t k held lock another's q e = absurd (cc)

calls_gives : (callee : Entry) (lock : Lock) (a : Access) → turn_to_call callee a ≡ gives lock → ⊥
calls_gives callee lock free e = cc
calls_gives callee lock (its_own n) e = cc
calls_gives callee lock another's e = cc

pub gives_object : (t : ℕ) (s : Option Standing) (i : Option MonitorInsn) (top : TopValue) (c : Option Entry) (held : List Held) (lock : Lock)
    → turn_if s (turn_on t i top c held) ≡ gives lock → (object : ℕ) × AtObject i top object × GivesObject t held lock object
gives_object t None i top c held lock e = absurd (cc)
gives_object t (Some s) None top None held lock e = absurd (cc)
gives_object t (Some s) None top (Some callee) held lock e = absurd (calls_gives callee lock (access t (of_class callee.class) held) e)
gives_object t (Some s) (Some insn) no_value c held lock e = absurd (cc)
gives_object t (Some s) (Some insn) a_null c held lock e = absurd (cc)
gives_object t (Some s) (Some enters) (an_object k) c held lock e = absurd (enters_gives k held lock (access t (of_object k) held) e)
gives_object t (Some s) (Some exits) (an_object k) c held lock e =
    (k, record { insn = exits; at = refl; operand = refl }, exits_gives t k held lock (access t (of_object k) held) refl e)
gives_object t (Some s) (Some insn) another c held lock e = absurd (cc)

-- ---- a synchronized method is called

-- the method is that at whose call the thread stands, and no other thread holds its class
pub record CallsFree (t : ℕ) (c : Option Entry) (held : List Held) (callee : Entry) : Type 0 where
  pub is : c ≡ Some callee
  pub may : access t (of_class callee.class) held ≡ another's → ⊥

enters_calls : (k : ℕ) (held : List Held) (callee : Entry) (a : Access) → turn_to_enter (of_object k) held a ≡ calls_locked callee → ⊥
enters_calls k held callee free e = by (is_full held) e
  where
    by : (z : Bool) → cond z plain (takes (of_object k)) ≡ calls_locked callee → ⊥
    by true e = cc
    by false e = cc
enters_calls k held callee (its_own n) e = by (nat_lt n most_times) e
  where
    by : (z : Bool) → cond z (takes (of_object k)) plain ≡ calls_locked callee → ⊥
    by true e = cc
    by false e = cc
enters_calls k held callee another's e = cc

exits_calls : (k : ℕ) (callee : Entry) (a : Access) → turn_to_exit (of_object k) a ≡ calls_locked callee → ⊥
exits_calls k callee free e = cc
exits_calls k callee (its_own n) e = cc
exits_calls k callee another's e = cc

call_free : (t : ℕ) (held : List Held) (callee method : Entry) (a : Access) → access t (of_class method.class) held ≡ a
    → turn_to_call method a ≡ calls_locked callee → CallsFree t (Some method) held callee
call_free t held callee method another's q e = absurd (cc)
call_free t held callee method free q e =
    let same : method ≡ callee = ap (callee_in callee) e in
    record {
      is = ap (λ (m : Entry). Some m) same;
      may = λ no. absurd
          (free_other (sym (subst (λ (m : Entry). access t (of_class m.class) held ≡ free) same q) ∙ no));
    }
  where
    free_other : free ≡ another's → ⊥
    free_other e = cc
call_free t held callee method (its_own n) q e =
    let same : method ≡ callee = ap (callee_in callee) e in
    record {
      is = ap (λ (m : Entry). Some m) same;
      may = λ no. absurd
          (own_other (sym (subst (λ (m : Entry). access t (of_class m.class) held ≡ its_own n) same q) ∙ no));
    }
  where
    own_other : its_own n ≡ another's → ⊥
    own_other e = cc

pub calls_free : (t : ℕ) (s : Option Standing) (i : Option MonitorInsn) (top : TopValue) (c : Option Entry) (held : List Held) (callee : Entry)
    → turn_if s (turn_on t i top c held) ≡ calls_locked callee → CallsFree t c held callee
calls_free t None i top c held callee e = absurd (cc)
calls_free t (Some s) None top None held callee e = absurd (cc)
calls_free t (Some s) None top (Some method) held callee e = call_free t held callee method (access t (of_class method.class) held) refl e
calls_free t (Some s) (Some insn) no_value c held callee e = absurd (cc)
calls_free t (Some s) (Some insn) a_null c held callee e = absurd (cc)
calls_free t (Some s) (Some enters) (an_object k) c held callee e = absurd (enters_calls k held callee (access t (of_object k) held) e)
calls_free t (Some s) (Some exits) (an_object k) c held callee e = absurd (exits_calls k callee (access t (of_object k) held) e)
calls_free t (Some s) (Some insn) another c held callee e = absurd (cc)
