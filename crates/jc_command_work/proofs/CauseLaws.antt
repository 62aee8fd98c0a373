-- Each status has its cause.
use Rattle.std.proofs.Common.{◌≡◌, ◌⊎◌, ℕ, List, [], ◌∷◌, inl, inr, refl, sym, ◌∙◌, ap, subst, arith}
use Rattle.jc_command_work.specs.declared.status.Fault.{Fault}
use Rattle.jc_command_work.specs.declared.status.Status.{Status}
use Rattle.jc_command_work.specs.declared.status.Status.TheVariants as status
use Rattle.jc_command_work.specs.Step.{Word, Outside, Counts, Rises, Landed, Write, to_file, to_out, to_err, Call, to_read, to_list, to_write, Step, has_read, has_no, has_listed, has_written, call_of, Broken, CountRose}
use Rattle.jc_command_work.specs.Part.{End, done, unmet, refused, misused, unread, unwritten, unprinted, status_of, message_of, failure, Outcome, wants, gives, stops, Part, Command, giving, ending, deciding, reading, writing, reading_all, writing_all, ◌>>=◌}
use Rattle.jc_command_work.specs.Ending.{CameTo, BrokeOff, SaysLast, IsOutOfMemory, Ends, NoneRose}
use Rattle.jc_command_work.specs.Texts.{fault_text}
use Rattle.jc_command_work.specs.OneWay.{OneWay, Work, IsWork, writes_of}
use Rattle.jc_command_work.specs.Answered.{Answer, refusing, answering, preparing, making_all, answered}
use Rattle.jc_command_work.specs.Causes.{IsOwnEnd, IsRefusal, EndsIn, HasOwnEnds, RoseFor, IsReadCall, IsWriteCall, CallFailed, Cause, WorkFailed}
use Rattle.jc_command_work.proofs.OneWork.{gives_or_stops, same_end, not_over}
use Rattle.jc_command_work.proofs.Prefix.{one_work, on_work}
use Rattle.jc_command_work.proofs.NoWrites.{none_preparing}
use Rattle.jc_command_work.proofs.NoFault.{only_errs}

-- ---- ends

module _ (Is : End → Type 0) where
  pub ends_then : {X Y : Type 0} (p : Part X) (q : X → Part Y) → EndsIn Is p → ((x : X) → EndsIn Is (q x)) → EndsIn Is (p >>= q)
  ends_then p q first second steps end (inl within) = first steps end within
  ends_then p q first second steps end (inr h) = second h.value h.behind end h.goes_on

  pub ends_giving : {X : Type 0} (x : X) → EndsIn Is (giving x)
  ends_giving x [] end is = absurd (gives_or_stops x end (sym is))
  ends_giving x (s ∷ ss) end is = absurd is

  pub ends_deciding : {X : Type 0} (So : X → Type 0) (Stops : End → Type 0) → ((end : End) → Stops end → Is end) → EndsIn Is (deciding So Stops)
  ends_deciding So Stops own [] end is = own end is
  ends_deciding So Stops own (s ∷ ss) end is = absurd is

  pub ends_ending : (e : End) → Is e → EndsIn Is (ending {X = ⊥} e)
  ends_ending e so [] end is = subst Is (same_end ⊥ e end (stops end) is refl) so
  ends_ending e so (s ∷ ss) end is = absurd is

  module _ (unread_is : (path : Word) → Is (unread path)) where
    pub ends_reading : (path : Word) → EndsIn Is (reading path)
    ends_reading path [] end is = absurd (not_over (stops end) (to_read path) tt is)
    ends_reading path (has_read p b ∷ []) end is = absurd (gives_or_stops b end (sym is.1))
    ends_reading path (has_no p ∷ []) end is = subst Is (same_end (List ℕ) (unread path) end (stops end) is.1 refl) (unread_is path)
    ends_reading path (has_read p b ∷ s ∷ ss) end is = absurd is
    ends_reading path (has_no p ∷ s ∷ ss) end is = absurd is
    ends_reading path (has_listed f ps ∷ ss) end is = absurd is
    ends_reading path (has_written v ∷ ss) end is = absurd is

    pub ends_reading_all : (paths : List Word) → EndsIn Is (reading_all paths)
    ends_reading_all [] = ends_giving []
    ends_reading_all (path ∷ paths) =
        ends_then (reading path) _ (ends_reading path) (λ text. ends_then (reading_all paths) _ (ends_reading_all paths) (λ texts. ends_giving (text ∷ texts)))

  ends_writing : (write : Write) → EndsIn Is (writing write)
  ends_writing write [] end is = absurd (not_over (stops end) (to_write write) tt is)
  ends_writing write (has_written v ∷ []) end is = absurd (gives_or_stops tt end (sym is.1))
  ends_writing write (has_written v ∷ s ∷ ss) end is = absurd is
  ends_writing write (has_read p b ∷ ss) end is = absurd is
  ends_writing write (has_no p ∷ ss) end is = absurd is
  ends_writing write (has_listed f ps ∷ ss) end is = absurd is

  pub ends_writing_all : (writes : List Write) → EndsIn Is (writing_all writes)
  ends_writing_all [] = ends_giving tt
  ends_writing_all (write ∷ writes) = ends_then (writing write) _ (ends_writing write) (λ _. ends_writing_all writes)

  pub ends_preparing : {X : Type 0} (inputs : List Word) (Answers : List (List ℕ) → Outcome X → Type 0) → ((path : Word) → Is (unread path))
      → ((texts : List (List ℕ)) (end : End) → Answers texts (stops end) → Is end) → EndsIn Is (preparing inputs Answers)
  ends_preparing inputs Answers unread_is own =
      ends_then (reading_all inputs) (λ texts. answering (Answers texts)) (ends_reading_all unread_is inputs)
      (λ texts. ends_deciding (λ value. Answers texts (gives value)) (λ end. Answers texts (stops end)) (own texts))

  pub ends_answered : (inputs : List Word) (Answers : List (List ℕ) → Answer → Type 0) → Is done → ((path : Word) → Is (unread path))
      → ((texts : List (List ℕ)) (end : End) → Answers texts (stops end) → Is end) → EndsIn Is (answered inputs Answers)
  ends_answered inputs Answers done_is unread_is own =
      ends_then (preparing inputs Answers) making_all (ends_preparing inputs Answers unread_is own)
      (λ writes. ends_then (writing_all writes) (λ _. ending {X = ⊥} done) (ends_writing_all writes) (λ _. ends_ending done done_is))

-- ---- what is written

-- a command that reads and decides before it writes has written nothing where it ends otherwise than done
pub done_or_none : (inputs : List Word) (Answers : List (List ℕ) → Answer → Type 0) (steps : List Step) (end : End) → answered inputs Answers steps (stops end)
    → (end ≡ done) ⊎ (writes_of steps ≡ [])
done_or_none inputs Answers steps end (inl within) =
    inr (none_preparing inputs Answers steps (stops end) within)
done_or_none inputs Answers steps end (inr h) =
    inl (ends_then (λ e. e ≡ done) (writing_all h.value) (λ _. ending {X = ⊥} done) (ends_writing_all (λ e. e ≡ done) h.value) (λ _. ends_ending (λ e. e ≡ done) done refl)
    h.behind end h.goes_on)

pub is_refusal : (path : Word) (fault : Fault) (end : End) → stops end ≡ refusing path fault → IsRefusal end
is_refusal path fault end is = subst IsRefusal (same_end (List Write) (refused fault (fault_text path fault)) end (stops end) is refl) tt

-- ---- counts

rises_more : (a b c : ℕ) → Rises a b → (c ≡ b) ⊎ Rises b c → Rises a c
rises_more a b c rises (inl same) = subst (λ (n : ℕ). Rises a n) (sym same) rises
rises_more a b c (le, rose) (inr (le', inr last)) = (omega (arith, le, le'), inr last)
rises_more a b c (le, rose) (inr (le', inl more)) = (omega (arith, le, le'), inl (omega (arith, le, more)))

pub rose_for : (call : Call) (f g f' : Counts) → CountRose call f g → (f'.reads ≡ g.reads) × (f'.writes ≡ g.writes) × (f'.outs ≡ g.outs)
    × ((f'.errs ≡ g.errs) ⊎ Rises g.errs f'.errs) → RoseFor call f f'
rose_for (to_read path) f g f' rose kept = rises_more f.reads g.reads f'.reads rose.0 (inl kept.0)
rose_for (to_list folder) f g f' rose kept = rises_more f.reads g.reads f'.reads rose.0 (inl kept.0)
rose_for (to_write (to_file path bytes)) f g f' rose kept = rises_more f.writes g.writes f'.writes rose.0 (inl kept.1)
rose_for (to_write (to_out text)) f g f' rose kept = rises_more f.outs g.outs f'.outs rose.0 (inl kept.2)
rose_for (to_write (to_err text)) f g f' rose kept = rises_more f.errs g.errs f'.errs rose.0 kept.3

-- ---- the cause

module _ (landed : Landed) (command : Command) (old new : Outside) (f f' : Counts) where
  ended_so : (end : End) (stands : Outside) → CameTo landed command old stands (stops end) → SaysLast (message_of end) stands new f f' → IsOwnEnd end
      → Cause landed command old new f f' (status_of end)
  ended_so done stands came says own = (says.0, subst (λ (w : Outside). CameTo landed command old w (stops done)) (sym says.1) came)
  ended_so unmet stands came says own = (says.0, subst (λ (w : Outside). CameTo landed command old w (stops unmet)) (sym says.1) came)
  ended_so (refused fault line) stands came says own = (line, record { stands = stands; came = came; says = says })
  ended_so misused stands came says own = record { stands = stands; came = came; says = says }
  ended_so (unread path) stands came says own = inl (path, record { stands = stands; came = came; says = says })
  ended_so (unwritten path) stands came says own = absurd own
  ended_so unprinted stands came says own = absurd own

  cut_so : (end : End) (stands : Outside) (at : Counts) (b : BrokeOff landed command old stands f at end)
      → SaysLast (message_of end) stands new at f' → Cause landed command old new f f' (status_of end)
  cut_so end stands at b says =
      subst (λ (e : End). Cause landed command old new f f' (status_of e)) (sym b.is)
      (by b.call b.came b.rose b.broken (subst (λ (e : End). SaysLast (message_of e) stands new at f') b.is says))
    where
      failed : (call : Call) (Is : Call → Type 0) → Is call → CameTo landed command old b.stands (wants call) → CountRose call f at
          → Broken landed b.stands call stands → SaysLast (message_of (failure call)) stands new at f'
          → CallFailed landed command old new f f' Is
      failed call Is is came rose broken says = record {
        call = call;
        is = is;
        before = b.stands;
        came = came;
        stands = stands;
        broken = broken;
        at = at;
        only = rose;
        rose = rose_for call f at f' rose (only_errs stands new at f' (message_of (failure call)) says);
        says = says;
      }

      by : (call : Call) → CameTo landed command old b.stands (wants call) → CountRose call f at → Broken landed b.stands call stands → SaysLast (message_of (failure call)) stands new at f'
          → Cause landed command old new f f' (status_of (failure call))
      by (to_read path) came rose broken says = inr (failed (to_read path) IsReadCall tt came rose broken says)
      by (to_list folder) came rose broken says = inr (failed (to_list folder) IsReadCall tt came rose broken says)
      by (to_write (to_file path bytes)) came rose broken says = failed (to_write (to_file path bytes)) IsWriteCall tt came rose broken says
      by (to_write (to_out text)) came rose broken says = failed (to_write (to_out text)) IsWriteCall tt came rose broken says
      by (to_write (to_err text)) came rose broken says = failed (to_write (to_err text)) IsWriteCall tt came rose broken says

  -- each status has its cause, where the command ends by itself in no failed write
  pub cause : (s : Status) → HasOwnEnds command → Ends landed command old new f f' s → Cause landed command old new f f' s
  cause s own (inl e) =
      subst (λ (t : Status). Cause landed command old new f f' t) (sym e.is) (ended_so e.end e.stands e.came e.says (own e.came.steps e.end e.came.comes))
  cause s own (inr (inl e)) = subst (λ (t : Status). Cause landed command old new f f' t) (sym e.is) (cut_so e.end e.stands e.at e.broke_off e.says)
  cause s own (inr (inr e)) =
      subst (λ (t : Status). Cause landed command old new f f' t) (sym e.is) (subst (λ (t : Status). IsOutOfMemory landed command old new f f' t) e.is e)

  -- ---- by the work

  -- where contents are told a run ends as the work does, or a call of the work failed, or memory was refused
  pub ends_or_fails : (s : Status) → OneWay landed command old → (work : Work) → IsWork landed command old work → Ends landed command old new f f' s
      → (s ≡ status_of work.end) ⊎ (WorkFailed work f f' ⊎ (s ≡ status.Memory))
  ends_or_fails s way work is (inl e) =
      let mine : Work = record { steps = e.came.steps; end = e.end } in
      inl (e.is ∙ ap (λ (v : Work). status_of v.end) (one_work landed command old way mine work (e.came.comes, e.came.fit) is))
  ends_or_fails s way work is (inr (inl e)) =
      let b = e.broke_off in
      let (step, rest, whole, called) = on_work landed command old way work is b.came.steps b.call b.came.comes b.came.fit in
      let rose = rose_for b.call f e.at f' b.rose (only_errs e.stands new e.at f' (message_of e.end) e.says) in
      inr (inl (record {
        front = b.came.steps;
        step = step;
        behind = rest;
        parts = whole;
        rose = subst (λ (k : Call). RoseFor k f f') (sym called) rose;
      }))
  ends_or_fails s way work is (inr (inr e)) = inr (inr e.is)

  -- where no count rose it ends as the work does, or memory was refused
  pub ends_so : (s : Status) → OneWay landed command old → (work : Work) → IsWork landed command old work → Ends landed command old new f f' s → NoneRose f f'
      → (s ≡ status_of work.end) ⊎ (s ≡ status.Memory)
  ends_so s way work is ends none = by (ends_or_fails s way work is ends)
    where
      rose_not : (call : Call) → RoseFor call f f' → ⊥
      rose_not (to_read path) rose = none.reads rose.1
      rose_not (to_list folder) rose = none.reads rose.1
      rose_not (to_write (to_file path bytes)) rose = none.writes rose.1
      rose_not (to_write (to_out text)) rose = none.outs rose.1
      rose_not (to_write (to_err text)) rose = none.errs rose.1

      by : (s ≡ status_of work.end) ⊎ (WorkFailed work f f' ⊎ (s ≡ status.Memory)) → (s ≡ status_of work.end) ⊎ (s ≡ status.Memory)
      by (inl so) = inl so
      by (inr (inl failed)) = absurd (rose_not (call_of failed.step) failed.rose)
      by (inr (inr memory)) = inr memory
