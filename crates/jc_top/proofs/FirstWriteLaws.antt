-- A command that reads and decides before it writes: what it has come to where it wants a call, and what is left where memory
-- is refused.
use Rattle.std.proofs.Common.{◌≡◌, ◌⊎◌, ℕ, Bool, true, false, List, [], ◌∷◌, ◌++◌, inl, inr, refl, sym, ◌∙◌, ap, subst, append_assoc, append-nil}
use Rattle.jc_paths.specs.Paths.{FileText, plain, folder}
use Rattle.jc_command_work.specs.declared.status.Status.TheVariants as status
use Rattle.jc_command_work.specs.Step.{Word, Outside, Counts, Landed, Write, Call, to_read, to_list, to_write, Step, has_read, has_no, has_listed, has_written, call_of, Fit, after, Broken}
use Rattle.jc_command_work.specs.Part.{End, done, unread, Outcome, wants, gives, stops, Part, Command, giving, ending, deciding, reading, listing, writing, reading_all, writing_all, ◌>>=◌}
use Rattle.jc_command_work.specs.Ending.{Began, BrokeOff, Ends}
use Rattle.jc_command_work.specs.OneWay.{writes_of}
use Rattle.jc_command_work.specs.Prefix.{after_writes, with_failed, IsFront}
use Rattle.jc_command_work.specs.Folders.{paths_of, all_paths, files_of, once}
use Rattle.jc_command_work.specs.Answered.{Answer, answering, preparing, answered}
use Rattle.jc_command_work.specs.Closing.{end_of, closing}
use Rattle.jc_command_rules.specs.CheckAnswers.{Verdict}
use Rattle.jc_command_work.specs.Causes.{IsReadCall, HasOwnEnds}
use Rattle.jc_command_work.proofs.Behind.{over_then, fit_front}
use Rattle.jc_command_work.proofs.OneWork.{not_over}
use Rattle.jc_command_work.proofs.Prefix.{writes-append, stands_so, unread_so, broken_so}
use Rattle.jc_command_work.proofs.NoWrites.{WritesNone, none_preparing}
use Rattle.jc_command_work.proofs.CauseLaws.{cause}
use Rattle.jc_top.specs.FirstWrite.{as_steps, HasWrittenAll, WritesBegun}
use Rattle.jc_top.specs.Work.{judged}

-- ---- calls

call_or : {X : Type 0} → Call → Outcome X → Call
call_or c (wants call) = call
call_or c (gives x) = c
call_or c (stops end) = c

same_call : (X : Type 0) (a b : Call) (o : Outcome X) → o ≡ wants a → o ≡ wants b → a ≡ b
unfolding call_or
same_call X a b o p q = ap (call_or a) (sym p ∙ q)

write_or : Write → Call → Write
write_or w (to_read path) = w
write_or w (to_list dir) = w
write_or w (to_write write) = write

IsWrite : Call → Type 0
IsWrite (to_read path) = ⊥
IsWrite (to_list dir) = ⊥
IsWrite (to_write write) = Unit {0}

-- the step of a call that reads is no write
reads_none : (step : Step) → IsReadCall (call_of step) → writes_of (step ∷ []) ≡ []
reads_none (has_read path bytes) read = refl
reads_none (has_no path) read = refl
reads_none (has_listed dir paths) read = refl
reads_none (has_written write) read = absurd read

-- the step of a write
written : (step : Step) (write : Write) → call_of step ≡ to_write write → step ≡ has_written write
unfolding write_or IsWrite
written (has_read path bytes) write is = absurd (subst IsWrite (sym is) tt)
written (has_no path) write is = absurd (subst IsWrite (sym is) tt)
written (has_listed dir paths) write is = absurd (subst IsWrite (sym is) tt)
written (has_written w) write is = ap (λ (c : Call). has_written (write_or write c)) is

-- ---- parts that read alone

-- each call that the part wants is a read
abbrev pub WantsReads : {X : Type 0} → Part X → Type 0
WantsReads part = (steps : List Step) (call : Call) → part steps (wants call) → IsReadCall call

pub reads_giving : {X : Type 0} (x : X) → WantsReads (giving x)
reads_giving x [] call is = absurd (not_over (gives x) call tt (sym is))
reads_giving x (s ∷ ss) call is = absurd is

pub reads_deciding : {X : Type 0} (So : X → Type 0) (Ends : End → Type 0) → WantsReads (deciding So Ends)
reads_deciding So Ends [] call is = absurd is
reads_deciding So Ends (s ∷ ss) call is = absurd is

pub reads_reading : (path : Word) → WantsReads (reading path)
reads_reading path [] call is = subst IsReadCall (same_call (List ℕ) (to_read path) call (wants call) is refl) tt
reads_reading path (has_read p b ∷ []) call is = absurd (not_over (gives b) call tt (sym is.1))
reads_reading path (has_no p ∷ []) call is = absurd (not_over (stops (unread path)) call tt (sym is.1))
reads_reading path (has_read p b ∷ s ∷ ss) call is = absurd is
reads_reading path (has_no p ∷ s ∷ ss) call is = absurd is
reads_reading path (has_listed f ps ∷ ss) call is = absurd is
reads_reading path (has_written v ∷ ss) call is = absurd is

reads_listing : (path : Word) → WantsReads (listing path)
reads_listing path [] call is = subst IsReadCall (same_call (List Word) (to_list path) call (wants call) is refl) tt
reads_listing path (has_listed f ps ∷ []) call is = absurd (not_over (gives ps) call tt (sym is.1))
reads_listing path (has_listed f ps ∷ s ∷ ss) call is = absurd is
reads_listing path (has_read p b ∷ ss) call is = absurd is
reads_listing path (has_no p ∷ ss) call is = absurd is
reads_listing path (has_written v ∷ ss) call is = absurd is

pub reads_then : {X Y : Type 0} (p : Part X) (q : X → Part Y) → WantsReads p → ((x : X) → WantsReads (q x)) → WantsReads (p >>= q)
reads_then p q first second steps call (inl within) = first steps call within
reads_then p q first second steps call (inr h) = second h.value h.behind call h.goes_on

reads_paths : (file : FileText) → WantsReads (paths_of file)
reads_paths (plain path) = reads_giving (path ∷ [])
reads_paths (folder path) = reads_listing path

reads_all_paths : (files : List FileText) → WantsReads (all_paths files)
reads_all_paths [] = reads_giving []
reads_all_paths (file ∷ files) = reads_then (paths_of file) _ (reads_paths file) (λ paths. reads_then (all_paths files) _ (reads_all_paths files) (λ more. reads_giving (paths ++ more)))

pub reads_files : (files : List FileText) → WantsReads (files_of files)
reads_files files = reads_then (all_paths files) _ (reads_all_paths files) (λ paths. reads_giving (once [] paths))

reads_reading_all : (paths : List Word) → WantsReads (reading_all paths)
reads_reading_all [] = reads_giving []
reads_reading_all (path ∷ paths) = reads_then (reading path) _ (reads_reading path) (λ text. reads_then (reading_all paths) _ (reads_reading_all paths) (λ texts. reads_giving (text ∷ texts)))

reads_preparing : {X : Type 0} (inputs : List Word) (Answers : List (List ℕ) → Outcome X → Type 0) → WantsReads (preparing inputs Answers)
reads_preparing inputs Answers =
    reads_then (reading_all inputs) (λ texts. answering (Answers texts)) (reads_reading_all inputs)
    (λ texts. reads_deciding (λ value. Answers texts (gives value)) (λ end. Answers texts (stops end)))

-- ---- writes

-- what was written of the writes, and the write that is wanted next
record Next (writes : List Write) (steps : List Step) (call : Call) : Type 0 where
  before : List Write
  write : Write
  behind : List Write
  all : writes ≡ before ++ write ∷ behind
  made : steps ≡ as_steps before
  is : call ≡ to_write write

next_written : (write v : Write) (writes : List Write) (steps : List Step) (call : Call) → v ≡ write → Next writes steps call → Next (write ∷ writes) (has_written v ∷ steps) call
next_written write v writes steps call same n = record {
  before = write ∷ n.before;
  write = n.write;
  behind = n.behind;
  all = ap (λ (ws : List Write). write ∷ ws) n.all;
  made = ap (λ (w : Write). has_written w ∷ steps) same ∙ ap (λ (ss : List Step). has_written write ∷ ss) n.made;
  is = n.is;
}

next_write : (writes : List Write) (steps : List Step) (call : Call) → writing_all writes steps (wants call) → Next writes steps call
next_write [] [] call is = absurd (not_over (gives tt) call tt (sym is))
next_write [] (s ∷ ss) call is = absurd is
next_write (write ∷ writes) steps call (inl within) = first steps within
  where
    first : (steps : List Step) → writing write steps (wants call) → Next (write ∷ writes) steps call
    first [] is = record { before = []; write = write; behind = writes; all = refl; made = refl; is = same_call (Unit {0}) call (to_write write) (wants call) refl is }
    first (has_written v ∷ []) is = absurd (not_over (gives tt) call tt (sym is.1))
    first (has_written v ∷ s ∷ ss) is = absurd is
    first (has_read p b ∷ ss) is = absurd is
    first (has_no p ∷ ss) is = absurd is
    first (has_listed f ps ∷ ss) is = absurd is
next_write (write ∷ writes) steps call (inr h) = subst (λ (l : List Step). Next (write ∷ writes) l call) (sym h.parts) (first h.front h.over (next_write writes h.behind call h.goes_on))
  where
    first : (front : List Step) → writing write front (gives h.value) → Next writes h.behind call → Next (write ∷ writes) (front ++ h.behind) call
    first [] is next = absurd (not_over (gives h.value) (to_write write) tt is)
    first (has_written v ∷ []) is next = next_written write v writes h.behind call is.0 next
    first (has_written v ∷ s ∷ ss) is next = absurd is
    first (has_read p b ∷ ss) is next = absurd is
    first (has_no p ∷ ss) is next = absurd is
    first (has_listed f ps ∷ ss) is next = absurd is

next_made : (writes : List Write) (holds : Bool) (steps : List Step) (call : Call) → closing writes holds steps (wants call) → Next writes steps call
next_made writes holds steps call (inl within) = next_write writes steps call within
next_made writes holds steps call (inr h) = absurd (by h.behind h.goes_on)
  where
    by : (ss : List Step) → ending {X = ⊥} (end_of holds) ss (wants call) → ⊥
    by [] is = not_over (stops (end_of holds)) call tt (sym is)
    by (s ∷ ss) is = is

all_written : (writes : List Write) → writing_all writes (as_steps writes) (gives tt)
all_written [] = refl
all_written (write ∷ writes) =
    over_then (writing write) (λ _. writing_all writes) tt (has_written write ∷ []) (as_steps writes) (gives tt) (refl, refl) (all_written writes)

all_made : (writes : List Write) (holds : Bool) → closing writes holds (as_steps writes) (stops (end_of holds))
all_made writes holds =
    subst (λ (l : List Step). closing writes holds l (stops (end_of holds))) (append-nil (as_steps writes))
    (over_then (writing_all writes) (λ _. ending {X = ⊥} (end_of holds)) tt (as_steps writes) [] (stops (end_of holds)) (all_written writes) refl)

ends_all : (holds : Bool) → HasWrittenAll (end_of holds)
ends_all true = inl refl
ends_all false = inr refl

-- ---- commands

-- The command wants a write: all was read, and what it writes is decided.
pub record AtWrite (command : Command) (steps : List Step) (call : Call) : Type 0 where
  pub reads : List Step
  pub before : List Write
  pub write : Write
  pub behind : List Write
  pub none : writes_of reads ≡ []
  pub parts : steps ≡ reads ++ as_steps before
  pub is : call ≡ to_write write
  pub end : End
  pub all : HasWrittenAll end
  pub decided : command (reads ++ as_steps (before ++ write ∷ behind)) (stops end)

-- where the command wants a call, it is a read and nothing is written, or it is a write that is decided on
abbrev pub WritesLast : Command → Type 0
WritesLast command = (steps : List Step) (call : Call) → command steps (wants call) → ((writes_of steps ≡ []) × IsReadCall call) ⊎ AtWrite command steps call

pub last_answered : (inputs : List Word) (Answers : List (List ℕ) → Answer → Type 0) → WritesLast (answered inputs Answers)
last_answered inputs Answers steps call (inl within) =
    inl (none_preparing inputs Answers steps (wants call) within, reads_preparing inputs Answers steps call within)
last_answered inputs Answers steps call (inr h) =
    let next = next_made h.value true h.behind call h.goes_on in
    inr (record {
      reads = h.front;
      before = next.before;
      write = next.write;
      behind = next.behind;
      none = none_preparing inputs Answers h.front (gives h.value) h.over;
      parts = h.parts ∙ ap (λ (l : List Step). h.front ++ l) next.made;
      is = next.is;
      end = done;
      all = inl refl;
      decided = subst (λ (ws : List Write). answered inputs Answers (h.front ++ as_steps ws) (stops done)) next.all
          (over_then (preparing inputs Answers) (λ writes. closing writes true) h.value h.front (as_steps h.value) (stops done) h.over (all_made h.value true));
    })

-- where rules are judged
pub last_judged : (inputs : List Word) (Answers : List (List ℕ) → Outcome Verdict → Type 0) → WritesLast (judged inputs Answers)
last_judged inputs Answers steps call (inl within) =
    inl (none_preparing inputs Answers steps (wants call) within, reads_preparing inputs Answers steps call within)
last_judged inputs Answers steps call (inr h) =
    let verdict = h.value in
    let end = end_of verdict.holds in
    let next = next_made verdict.writes verdict.holds h.behind call h.goes_on in
    inr (record {
      reads = h.front;
      before = next.before;
      write = next.write;
      behind = next.behind;
      none = none_preparing inputs Answers h.front (gives verdict) h.over;
      parts = h.parts ∙ ap (λ (l : List Step). h.front ++ l) next.made;
      is = next.is;
      end = end;
      all = ends_all verdict.holds;
      decided = subst (λ (ws : List Write). judged inputs Answers (h.front ++ as_steps ws) (stops end)) next.all
          (over_then (preparing inputs Answers) (λ (v : Verdict). closing v.writes v.holds) verdict h.front (as_steps verdict.writes) (stops end) h.over
          (all_made verdict.writes verdict.holds));
    })

pub last_ending : (end : End) → WritesLast (ending end)
last_ending end [] call is = absurd (not_over (stops end) call tt (sym is))
last_ending end (s ∷ ss) call is = absurd is

-- one write alone
pub last_one : (write : Write) → WritesLast (writing write >>= λ _. ending done)
last_one write steps call (inl within) = inr (first steps within)
  where
    first : (steps : List Step) → writing write steps (wants call) → AtWrite (writing write >>= λ _. ending done) steps call
    first [] is = record {
      reads = [];
      before = [];
      write = write;
      behind = [];
      none = refl;
      parts = refl;
      is = same_call (Unit {0}) call (to_write write) (wants call) refl is;
      end = done;
      all = inl refl;
      decided = over_then (writing write) (λ _. ending done) tt (has_written write ∷ []) [] (stops done) (refl, refl) refl;
    }
    first (has_written v ∷ []) is = absurd (not_over (gives tt) call tt (sym is.1))
    first (has_written v ∷ s ∷ ss) is = absurd is
    first (has_read p b ∷ ss) is = absurd is
    first (has_no p ∷ ss) is = absurd is
    first (has_listed f ps ∷ ss) is = absurd is
last_one write steps call (inr h) = absurd (by h.behind h.goes_on)
  where
    by : (ss : List Step) → ending {X = ⊥} done ss (wants call) → ⊥
    by [] is = not_over (stops done) call tt (sym is)
    by (s ∷ ss) is = is

-- behind a part that reads
pub last_then : {X : Type 0} (p : Part X) (q : X → Command) → WritesNone p → WantsReads p → ((x : X) (front : List Step) → p front (gives x) → WritesLast (q x))
    → WritesLast (p >>= q)
last_then p q none reads last steps call (inl within) = inl (none steps (wants call) within, reads steps call within)
last_then p q none reads last steps call (inr h) = by (last h.value h.front h.over h.behind call h.goes_on)
  where
    nothing : (behind : List Step) → writes_of behind ≡ [] → writes_of (h.front ++ behind) ≡ []
    nothing behind empty = writes-append h.front behind ∙ ap (λ (ws : List Write). ws ++ writes_of behind) (none h.front (gives h.value) h.over) ∙ empty

    by : ((writes_of h.behind ≡ []) × IsReadCall call) ⊎ AtWrite (q h.value) h.behind call → ((writes_of steps ≡ []) × IsReadCall call) ⊎ AtWrite (p >>= q) steps call
    by (inl (empty, read)) = inl (ap writes_of h.parts ∙ nothing h.behind empty, read)
    by (inr at) =
        inr (record {
          reads = h.front ++ at.reads;
          before = at.before;
          write = at.write;
          behind = at.behind;
          none = nothing at.reads at.none;
          parts = h.parts ∙ ap (λ (l : List Step). h.front ++ l) at.parts ∙ sym (append_assoc h.front at.reads (as_steps at.before));
          is = at.is;
          end = at.end;
          all = at.all;
          decided = subst (λ (l : List Step). (p >>= q) l (stops at.end)) (sym (append_assoc h.front at.reads (as_steps (at.before ++ at.write ∷ at.behind))))
              (over_then p q h.value h.front (at.reads ++ as_steps (at.before ++ at.write ∷ at.behind)) (stops at.end) h.over at.decided);
        })

-- ---- what is left where memory is refused

written_steps : (writes : List Write) → writes_of (as_steps writes) ≡ writes
written_steps [] = refl
written_steps (write ∷ writes) = ap (λ (ws : List Write). write ∷ ws) (written_steps writes)

module _ (landed : Landed) (command : Command) (last : WritesLast command) (old : Outside) where
  -- nothing was written
  nothing : (new : Outside) (steps : List Step) → writes_of steps ≡ [] → new ≡ with_failed (after_writes landed old (writes_of steps)) new.failed → new ≡ with_failed old new.failed
  nothing new steps none is = is ∙ ap (λ (ws : List Write). with_failed (after_writes landed old ws) new.failed) none

  module _ (steps : List Step) (call : Call) (fits : Fit landed old steps) (at : AtWrite command steps call) where
    wrote : writes_of steps ≡ at.before
    wrote = ap writes_of at.parts ∙ writes-append at.reads (as_steps at.before) ∙ ap (λ (ws : List Write). ws ++ writes_of (as_steps at.before)) at.none ∙ written_steps at.before

    begun : (new : Outside) → IsFront landed old (at.before ++ at.write ∷ at.behind) new → WritesBegun landed command old new
    begun new front = record {
      reads = at.reads;
      writes = at.before ++ at.write ∷ at.behind;
      none = at.none;
      fit = fit_front landed old at.reads (as_steps at.before) (subst (Fit landed old) at.parts fits);
      end = at.end;
      all = at.all;
      decided = at.decided;
      front = front;
    }

    -- the write was made too
    begun_on : (new : Outside) → new ≡ after landed old (steps ++ has_written at.write ∷ []) → WritesBegun landed command old new
    begun_on new stand = begun new (record {
      front = at.before ++ at.write ∷ [];
      behind = at.behind;
      parts = sym (append_assoc at.before (at.write ∷ []) at.behind);
      stand = inl (stands_so landed old new (steps ++ has_written at.write ∷ []) stand
          ∙ ap (λ (ws : List Write). with_failed (after_writes landed old ws) new.failed) (writes-append steps (has_written at.write ∷ []) ∙ ap (λ (ws : List Write). ws ++ at.write ∷ []) wrote));
    })

    -- the write was made in part
    begun_broken : (stands new : Outside) → stands ≡ after landed old steps → Broken landed stands (to_write at.write) new → WritesBegun landed command old new
    begun_broken stands new stand broken =
        begun new (record {
          front = at.before;
          behind = at.write ∷ at.behind;
          parts = refl;
          stand = inr (
            at.write,
            at.behind,
            refl,
            subst (λ (ws : List Write). Broken landed (with_failed (after_writes landed old ws) new.failed) (to_write at.write) new) wrote
                (broken_so landed old stands new steps at.write stand broken),
          );
        })

  began_left : (new : Outside) → Began landed command old new → (new ≡ with_failed old new.failed) ⊎ WritesBegun landed command old new
  began_left new began = by began.begun
    where
      on : (front : List Step) (step : Step) → began.steps ≡ front ++ step ∷ []
          → ((writes_of front ≡ []) × IsReadCall (call_of step)) ⊎ AtWrite command front (call_of step) → (new ≡ with_failed old new.failed) ⊎ WritesBegun landed command old new
      on front step parts (inl (none, read)) =
          let nothing_yet = ap writes_of parts ∙ writes-append front (step ∷ []) ∙ ap (λ (ws : List Write). ws ++ writes_of (step ∷ [])) none ∙ reads_none step read in
          inl (nothing new began.steps nothing_yet (stands_so landed old new began.steps began.stand))
      on front step parts (inr at) =
          let fits = fit_front landed old front (step ∷ []) (subst (Fit landed old) parts began.fit) in
          inr (begun_on front (call_of step) fits at new
          (began.stand ∙ ap (after landed old) parts ∙ ap (λ (s : Step). after landed old (front ++ s ∷ [])) (written step at.write at.is)))

      by : (began.steps ≡ []) ⊎ ((front : List Step) × (step : Step) × (began.steps ≡ front ++ step ∷ []) × command front (wants (call_of step)))
          → (new ≡ with_failed old new.failed) ⊎ WritesBegun landed command old new
      by (inl none) = inl (nothing new began.steps (ap writes_of none) (stands_so landed old new began.steps began.stand))
      by (inr (front, step, parts, wanted)) = on front step parts (last front (call_of step) wanted)

  broke_left : (new : Outside) (f f' : Counts) (end : End) → BrokeOff landed command old new f f' end → (new ≡ with_failed old new.failed) ⊎ WritesBegun landed command old new
  broke_left new f f' end b = by (last b.came.steps b.call b.came.comes)
    where
      same : (call : Call) → IsReadCall call → Broken landed b.stands call new → new ≡ with_failed (after_writes landed old (writes_of b.came.steps)) new.failed
      same (to_read path) read broken = unread_so landed old b.stands new b.came.steps path b.came.stand broken
      same (to_list dir) read broken = unread_so landed old b.stands new b.came.steps dir b.came.stand broken
      same (to_write write) read broken = absurd read

      by : ((writes_of b.came.steps ≡ []) × IsReadCall b.call) ⊎ AtWrite command b.came.steps b.call → (new ≡ with_failed old new.failed) ⊎ WritesBegun landed command old new
      by (inl (none, read)) = inl (nothing new b.came.steps none (same b.call read b.broken))
      by (inr at) =
          inr (begun_broken b.came.steps b.call b.came.fit at b.stands new b.came.stand
          (subst (λ (c : Call). Broken landed b.stands c new) at.is b.broken))

  pub memory_left : HasOwnEnds command → (new : Outside) (f f' : Counts) → Ends landed command old new f f' status.Memory → (new ≡ with_failed old new.failed) ⊎ WritesBegun landed command old new
  memory_left own new f f' ends = by (cause landed command old new f f' status.Memory own ends).far
    where
      by : ((f' ≡ f) × Began landed command old new) ⊎ ((end : End) × BrokeOff landed command old new f f' end) → (new ≡ with_failed old new.failed) ⊎ WritesBegun landed command old new
      by (inl (same, began)) = began_left new began
      by (inr (end, broke)) = broke_left new f f' end broke
