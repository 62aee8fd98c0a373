-- What a run left, by the work of the command where contents are told.
use Rattle.std.proofs.Common.{◌≡◌, ◌⊎◌, ℕ, List, [], ◌∷◌, ◌++◌, Option, None, Some, inl, inr, refl, sym, ◌∙◌, ap, subst, append_assoc, append-nil}
use Rattle.jc_command_work.specs.declared.status.Fault.{Fault}
use Rattle.jc_command_work.specs.declared.status.Status.{Status}
use Rattle.jc_command_work.specs.declared.status.Status.TheVariants as status
use Rattle.jc_outside.specs.Outside.{LastFailed, failed_at}
use Rattle.jc_command_work.specs.Step.{Word, Rises, Outside, Counts, Landed, Write, to_file, to_out, to_err, Call, to_read, to_list, to_write, Step, has_read, has_no, has_listed, has_written, call_of, after, after_write, after_failed, Fit, Broken, TextBroken, CountRose, grown}
use Rattle.jc_command_work.specs.Part.{End, done, unmet, refused, misused, unread, unwritten, unprinted, status_of, message_of, failure, Outcome, wants, gives, stops, Command, Begun}
use Rattle.jc_command_work.specs.Ending.{CameTo, Began, BrokeOff, SaysLast, IsWhole, IsCut, IsOutOfMemory, Ends}
use Rattle.jc_command_work.specs.OneWay.{IsOver, IsTold, GoesOn, OneWay, Work, IsWork, writes_of}
use Rattle.jc_command_work.specs.Prefix.{after_writes, with_failed, IsFront, Took, LeavesFront}
use Rattle.jc_command_work.proofs.Behind.{fit_front, fit_behind}
use Rattle.jc_command_work.proofs.OneWork.{same_gave, same_end, other}

-- ---- writes among steps

pub writes-append : (xs ys : List Step) → writes_of (xs ++ ys) ≡ writes_of xs ++ writes_of ys
writes-append [] ys = refl
writes-append (has_written v ∷ xs) ys = ap (λ (l : List Write). v ∷ l) (writes-append xs ys)
writes-append (has_read p b ∷ xs) ys = writes-append xs ys
writes-append (has_no p ∷ xs) ys = writes-append xs ys
writes-append (has_listed f ps ∷ xs) ys = writes-append xs ys

-- a path of a failed read that is told has no part in what writes leave
with_failed-write : (landed : Landed) (w : Outside) (failed : LastFailed) (v : Write) → after_write landed (with_failed w failed) v ≡ with_failed (after_write landed w v) failed
with_failed-write landed w failed (to_file path bytes) = refl
with_failed-write landed w failed (to_out text) = refl
with_failed-write landed w failed (to_err text) = refl

with_failed-writes : (landed : Landed) (w : Outside) (failed again : LastFailed) (vs : List Write)
    → with_failed (after_writes landed (with_failed w failed) vs) again ≡ with_failed (after_writes landed w vs) again
with_failed-writes landed w failed again [] = refl
with_failed-writes landed w failed again (v ∷ vs) =
    ap (λ (u : Outside). with_failed (after_writes landed u vs) again) (with_failed-write landed w failed v)
    ∙ with_failed-writes landed (after_write landed w v) failed again vs

pub after-writes : (landed : Landed) (w : Outside) (steps : List Step)
    → after landed w steps ≡ with_failed (after_writes landed w (writes_of steps)) (after landed w steps).failed
after-writes landed w [] = refl
after-writes landed w (has_written v ∷ xs) = after-writes landed (after_write landed w v) xs
after-writes landed w (has_read p b ∷ xs) = after-writes landed w xs
after-writes landed w (has_no p ∷ xs) =
    let w' = after_failed w p in
    after-writes landed w' xs ∙ with_failed-writes landed w (failed_at p w.failed) (after landed w' xs).failed (writes_of xs)
after-writes landed w (has_listed f ps ∷ xs) = after-writes landed w xs

-- what stands, but for that path, was made by the writes among the steps
pub stands_so : (landed : Landed) (old stands : Outside) (steps : List Step) → stands ≡ after landed old steps → stands ≡ with_failed (after_writes landed old (writes_of steps)) stands.failed
stands_so landed old stands steps is =
    is ∙ after-writes landed old steps ∙ ap (λ (u : Outside). with_failed (after_writes landed old (writes_of steps)) u.failed) (sym is)

-- so too where the read of a path failed behind them
pub unread_so : (landed : Landed) (old stands new : Outside) (steps : List Step) (path : Word) → stands ≡ after landed old steps → new ≡ after_failed stands path
    → new ≡ with_failed (after_writes landed old (writes_of steps)) new.failed
unread_so landed old stands new steps path is broken =
    broken ∙ ap (λ (u : Outside). with_failed u (failed_at path stands.failed)) (stands_so landed old stands steps is)
    ∙ ap (λ (u : Outside). with_failed (after_writes landed old (writes_of steps)) u.failed) (sym broken)

-- a write that failed leaves the path of the last read that failed
kept_failed : (landed : Landed) (old new : Outside) (write : Write) → Broken landed old (to_write write) new → old.failed ≡ new.failed
kept_failed landed old new (to_file path bytes) broken = sym (ap (λ (u : Outside). u.failed) broken.1)
kept_failed landed old new (to_out text) broken = sym (ap (λ (u : Outside). u.failed) broken.1)
kept_failed landed old new (to_err text) broken = sym (ap (λ (u : Outside). u.failed) broken.1)

pub broken_so : (landed : Landed) (old stands new : Outside) (steps : List Step) (v : Write) → stands ≡ after landed old steps → Broken landed stands (to_write v) new
    → Broken landed (with_failed (after_writes landed old (writes_of steps)) new.failed) (to_write v) new
broken_so landed old stands new steps v is broken =
    let made = after_writes landed old (writes_of steps) in
    subst (λ (w : Outside). Broken landed w (to_write v) new)
    (stands_so landed old stands steps is ∙ ap (λ (p : LastFailed). with_failed made p) (kept_failed landed stands new v broken)) broken

-- ---- the one work

module _ (landed : Landed) (command : Command) (w : Outside) (way : OneWay landed command w) where
  -- the one way of a command ends it
  way_ends : (end : End) × (way.outcome ≡ stops end)
  way_ends = by way.outcome refl way.over
    where
      by : (o : Outcome ⊥) → way.outcome ≡ o → IsOver o → (end : End) × (way.outcome ≡ stops end)
      by (wants call) is over = absurd over
      by (gives x) is over = absurd x
      by (stops end) is over = (end, is)

  pub some_work : (work : Work) × IsWork landed command w work
  some_work =
      (record { steps = way.steps; end = way_ends.0 }, (subst (λ (o : Outcome ⊥). command way.steps o) way_ends.1 way.comes, way.fit))

  work_is : (work : Work) → IsWork landed command w work → work ≡ record { steps = way.steps; end = way_ends.0 }
  work_is work is =
      let same = way.only work.steps (stops work.end) tt is.0 is.1 in
      let end = same_end ⊥ work.end way_ends.0 way.outcome (sym same.1) way_ends.1 in
      λ i. record { steps = same.0 i; end = end i }

  -- words and contents have exactly one work
  pub one_work : (a b : Work) → IsWork landed command w a → IsWork landed command w b → a ≡ b
  one_work a b p q = work_is a p ∙ sym (work_is b q)

  -- a run that went on with a call made first steps of the work, and the call is that of the next
  pub on_work : (work : Work) → IsWork landed command w work → (front : List Step) (call : Call) → command front (wants call) → Fit landed w front → GoesOn front call work.steps
  on_work work is front call wanted fits =
      subst (λ (l : List Step). GoesOn front call l) (ap (λ (v : Work). v.steps) (sym (work_is work is))) (way.on_way front call wanted fits)

  -- first steps are first steps of the work
  pub began_work : (work : Work) → IsWork landed command w work → IsTold w → (steps : List Step) → Begun command steps → Fit landed w steps → (rest : List Step) × (work.steps ≡ steps ++ rest)
  began_work work is told steps (inl none) fits = (work.steps, ap (λ (l : List Step). l ++ work.steps) (sym none))
  began_work work is (m, told) steps (inr (front, step, parts, wanted)) fits =
      let fits' = subst (Fit landed w) parts fits in
      let (next, rest, whole, called) = on_work work is front (call_of step) wanted (fit_front landed w front (step ∷ []) fits') in
      let there = fit_behind landed w front (step ∷ []) fits' in
      let there' = fit_behind landed w front (next ∷ rest) (subst (Fit landed w) whole is.1) in
      let same = same_gave landed w front m told next step there'.0 there.0 called in
      (rest, whole ∙ ap (λ (s : Step). front ++ s ∷ rest) same ∙ sym (append_assoc front (step ∷ []) rest) ∙ ap (λ (l : List Step). l ++ rest) (sym parts))

read_or_write : (path : Word) (write : Write) → to_read path ≡ to_write write → ⊥
read_or_write path write is = other (to_read path) (to_write write) is tt

list_or_write : (path : Word) (write : Write) → to_list path ≡ to_write write → ⊥
list_or_write path write is = other (to_list path) (to_write write) is tt

-- ---- what stands is a front of the stated writes

module _ (landed : Landed) (command : Command) (old : Outside) (told : IsTold old) (way : OneWay landed command old) (work : Work) (is : IsWork landed command old work) where
  -- first steps leave what first writes leave
  began_front : (stands : Outside) (b : Began landed command old stands) → (i : IsFront landed old (writes_of work.steps) stands) × (i.front ≡ writes_of b.steps)
  began_front stands b =
      let (rest, whole) = began_work landed command old way work is told b.steps b.begun b.fit in (
        record {
          front = writes_of b.steps;
          behind = writes_of rest;
          parts = ap writes_of whole ∙ writes-append b.steps rest;
          stand = inl (stands_so landed old stands b.steps b.stand);
        },
        refl,
      )

  -- and a call that failed leaves a part of the next write, or nothing
  broke_front : (new : Outside) (f f' : Counts) (end : End) (b : BrokeOff landed command old new f f' end)
      → (i : IsFront landed old (writes_of work.steps) new) × (i.front ≡ writes_of b.came.steps)
  broke_front new f f' end b =
      let (step, rest, whole, called) = on_work landed command old way work is b.came.steps b.call b.came.comes b.came.fit in
      let parts = ap writes_of whole ∙ writes-append b.came.steps (step ∷ rest) in
      by step rest parts b.call called b.broken
    where
      front : List Write
      front = writes_of b.came.steps

      by : (step : Step) (rest : List Step) → writes_of work.steps ≡ front ++ writes_of (step ∷ rest) → (call : Call) → call_of step ≡ call → Broken landed b.stands call new
          → (i : IsFront landed old (writes_of work.steps) new) × (i.front ≡ front)
      by step rest parts (to_read path) called broken =
          (record { front = front; behind = writes_of (step ∷ rest); parts = parts; stand = inl (unread_so landed old b.stands new b.came.steps path b.came.stand broken) }, refl)
      by step rest parts (to_list folder) called broken =
          (record { front = front; behind = writes_of (step ∷ rest); parts = parts; stand = inl (unread_so landed old b.stands new b.came.steps folder b.came.stand broken) }, refl)
      by (has_written v) rest parts (to_write write) called broken =
          let broke : Broken landed b.stands (to_write v) new = subst (λ (c : Call). Broken landed b.stands c new) (sym called) broken in (
            record {
              front = front;
              behind = v ∷ writes_of rest;
              parts = parts;
              stand = inr (v, writes_of rest, refl, broken_so landed old b.stands new b.came.steps v b.came.stand broke);
            },
            refl,
          )
      by (has_read p c) rest parts (to_write write) called broken = absurd (read_or_write p write called)
      by (has_no p) rest parts (to_write write) called broken = absurd (read_or_write p write called)
      by (has_listed p c) rest parts (to_write write) called broken = absurd (list_or_write p write called)

  -- PREFIX: before its last message each run leaves what first writes of the work leave, the last perhaps in part.
  whole_front : (new : Outside) (f f' : Counts) (s : Status) (e : IsWhole landed command old new f f' s)
      → (i : IsFront landed old (writes_of work.steps) e.stands) × (i.front ≡ writes_of e.came.steps)
  whole_front new f f' s e = began_front e.stands (record { steps = e.came.steps; begun = e.came.begun; fit = e.came.fit; stand = e.came.stand })

  cut_front : (new : Outside) (f f' : Counts) (s : Status) (e : IsCut landed command old new f f' s)
      → (i : IsFront landed old (writes_of work.steps) e.stands) × (i.front ≡ writes_of e.broke_off.came.steps)
  cut_front new f f' s e = broke_front e.stands f e.at e.end e.broke_off

  memory_front : (new : Outside) (f f' : Counts) (s : Status) → IsOutOfMemory landed command old new f f' s → IsFront landed old (writes_of work.steps) new
  memory_front new f f' s e = by e.far
    where
      by : ((f' ≡ f) × Began landed command old new) ⊎ ((end : End) × BrokeOff landed command old new f f' end) → IsFront landed old (writes_of work.steps) new
      by (inl (same, began)) = (began_front new began).0
      by (inr (end, broke)) = (broke_front new f f' end broke).0

-- ---- the causes of the statuses

is_done : Status → Type 0
is_done status.Done = Unit {0}
is_done (status.Refused fault) = ⊥
is_done status.Usage = ⊥
is_done status.ReadFault = ⊥
is_done status.WriteFault = ⊥
is_done status.Memory = ⊥
is_done status.Broken = ⊥

fails_not : (call : Call) → status.Done ≡ status_of (failure call) → ⊥
unfolding is_done
fails_not (to_read path) is = subst is_done is tt
fails_not (to_list path) is = subst is_done is tt
fails_not (to_write (to_file path bytes)) is = subst is_done is tt
fails_not (to_write (to_out text)) is = subst is_done is tt
fails_not (to_write (to_err text)) is = subst is_done is tt

-- a test of the status tells two apart
abbrev is_refused : Status → Type 0
is_refused status.Done = ⊥
is_refused (status.Refused fault) = Unit {0}
is_refused status.Usage = ⊥
is_refused status.ReadFault = ⊥
is_refused status.WriteFault = ⊥
is_refused status.Memory = ⊥
is_refused status.Broken = ⊥

abbrev is_read : Status → Type 0
is_read status.Done = ⊥
is_read (status.Refused fault) = ⊥
is_read status.Usage = ⊥
is_read status.ReadFault = Unit {0}
is_read status.WriteFault = ⊥
is_read status.Memory = ⊥
is_read status.Broken = ⊥

fault_or : Fault → Status → Fault
fault_or n status.Done = n
fault_or n (status.Refused fault) = fault
fault_or n status.Usage = n
fault_or n status.ReadFault = n
fault_or n status.WriteFault = n
fault_or n status.Memory = n
fault_or n status.Broken = n

no_refusal : (fault : Fault) (call : Call) → status.Refused fault ≡ status_of (failure call) → ⊥
no_refusal fault (to_read path) is = subst is_refused is tt
no_refusal fault (to_list path) is = subst is_refused is tt
no_refusal fault (to_write (to_file path bytes)) is = subst is_refused is tt
no_refusal fault (to_write (to_out text)) is = subst is_refused is tt
no_refusal fault (to_write (to_err text)) is = subst is_refused is tt

-- the last message leaves the count of reads
kept_reads : (old new : Outside) (f f' : Counts) (message : Option (List ℕ)) → SaysLast message old new f f' → f'.reads ≡ f.reads
kept_reads old new f f' None (same, is) = ap (λ (c : Counts). c.reads) same
kept_reads old new f f' (Some text) says = by says.said
  where
    by : ((f' ≡ f) × (new ≡ record old { err = grown old.err text }))
        ⊎ (CountRose (to_write (to_err text)) f f' × Broken (λ _ bytes. bytes) old (to_write (to_err text)) new) → f'.reads ≡ f.reads
    by (inl (same, is)) = ap (λ (c : Counts). c.reads) same
    by (inr (rose, broken)) = ap (λ (c : Counts). c.reads) rose.1

module _ (landed : Landed) (command : Command) (old new : Outside) (f f' : Counts) where
  -- Done: no count moved, and all steps were made
  pub done_means : Ends landed command old new f f' status.Done → (f' ≡ f) × CameTo landed command old new (stops done)
  unfolding is_done
  done_means (inl e) = by e.end e.came e.is e.says
    where
      by : (end : End) → CameTo landed command old e.stands (stops end) → status.Done ≡ status_of end → SaysLast (message_of end) e.stands new f f'
          → (f' ≡ f) × CameTo landed command old new (stops done)
      by done came is says = (says.0, subst (λ (s : Outside). CameTo landed command old s (stops done)) (sym says.1) came)
      by (refused fault line) came is says = absurd (subst is_done is tt)
      by unmet came is says = absurd (subst is_done is tt)
      by misused came is says = absurd (subst is_done is tt)
      by (unread path) came is says = absurd (subst is_done is tt)
      by (unwritten path) came is says = absurd (subst is_done is tt)
      by unprinted came is says = absurd (subst is_done is tt)
  done_means (inr (inl e)) = absurd (fails_not e.broke_off.call (e.is ∙ ap status_of e.broke_off.is))
  done_means (inr (inr e)) = absurd (subst is_done e.is tt)

  -- Refused: all steps of the command were made, and it ends so
  pub refused_means : (fault : Fault) → Ends landed command old new f f' (status.Refused fault)
      → (line : List ℕ) × (stands : Outside) × CameTo landed command old stands (stops (refused fault line)) × SaysLast (Some line) stands new f f'
  unfolding fault_or
  refused_means fault (inl e) = by e.end e.came e.is e.says
    where
      by : (end : End) → CameTo landed command old e.stands (stops end) → status.Refused fault ≡ status_of end → SaysLast (message_of end) e.stands new f f'
          → (line : List ℕ) × (stands : Outside) × CameTo landed command old stands (stops (refused fault line)) × SaysLast (Some line) stands new f f'
      by done came is says = absurd (subst is_refused is tt)
      by (refused other line) came is says =
          let same : other ≡ fault = ap (fault_or fault) (sym is) in
          (line, e.stands, subst (λ (n : Fault). CameTo landed command old e.stands (stops (refused n line))) same came, says)
      by unmet came is says = absurd (subst is_refused is tt)
      by misused came is says = absurd (subst is_refused is tt)
      by (unread path) came is says = absurd (subst is_refused is tt)
      by (unwritten path) came is says = absurd (subst is_refused is tt)
      by unprinted came is says = absurd (subst is_refused is tt)
  refused_means fault (inr (inl e)) = absurd (no_refusal fault e.broke_off.call (e.is ∙ ap status_of e.broke_off.is))
  refused_means fault (inr (inr e)) = absurd (subst is_refused e.is tt)

  -- ReadFault: the count of reads rose, or all steps of the command were made, of which the last found nothing to read
  pub read_fault_means : Ends landed command old new f f' status.ReadFault
      → Rises f.reads f'.reads ⊎ ((path : Word) × (stands : Outside) × CameTo landed command old stands (stops (unread path)))
  read_fault_means (inl e) = by e.end e.came e.is
    where
      by : (end : End) → CameTo landed command old e.stands (stops end) → status.ReadFault ≡ status_of end
          → Rises f.reads f'.reads ⊎ ((path : Word) × (stands : Outside) × CameTo landed command old stands (stops (unread path)))
      by done came is = absurd (subst is_read is tt)
      by (refused other line) came is = absurd (subst is_read is tt)
      by unmet came is = absurd (subst is_read is tt)
      by misused came is = absurd (subst is_read is tt)
      by (unread path) came is = inr (path, e.stands, came)
      by (unwritten path) came is = absurd (subst is_read is tt)
      by unprinted came is = absurd (subst is_read is tt)
  read_fault_means (inr (inl e)) = by e.broke_off.call e.broke_off.rose (e.is ∙ ap status_of e.broke_off.is)
    where
      kept : f'.reads ≡ e.at.reads
      kept = kept_reads e.stands new e.at f' (message_of e.end) e.says

      by : (call : Call) → CountRose call f e.at → status.ReadFault ≡ status_of (failure call)
          → Rises f.reads f'.reads ⊎ ((path : Word) × (stands : Outside) × CameTo landed command old stands (stops (unread path)))
      by (to_read path) rose is = inl (subst (λ (n : ℕ). Rises f.reads n) (sym kept) rose.0)
      by (to_list folder) rose is = inl (subst (λ (n : ℕ). Rises f.reads n) (sym kept) rose.0)
      by (to_write (to_file path bytes)) rose is = absurd (subst is_read is tt)
      by (to_write (to_out text)) rose is = absurd (subst is_read is tt)
      by (to_write (to_err text)) rose is = absurd (subst is_read is tt)
  read_fault_means (inr (inr e)) = absurd (subst is_read e.is tt)

-- ---- PREFIX, for every end

-- the last message leaves all but `err`, which takes it as far as it was taken
kept_outside : (old new : Outside) (f f' : Counts) (message : Option (List ℕ)) → SaysLast message old new f f'
    → (new.contents ≡ old.contents) × (new.out ≡ old.out) × Took message old.err new.err
kept_outside old new f f' None (same, is) = (ap (λ (w : Outside). w.contents) is, ap (λ (w : Outside). w.out) is, ap (λ (w : Outside). w.err) is)
kept_outside old new f f' (Some text) says = by says.said
  where
    whole : (told : Option (List ℕ)) → TextBroken text told (grown told text)
    whole None = refl
    whole (Some t) = (text, ([], sym (append-nil text)), refl)

    by : ((f' ≡ f) × (new ≡ record old { err = grown old.err text }))
        ⊎ (CountRose (to_write (to_err text)) f f' × Broken (λ _ bytes. bytes) old (to_write (to_err text)) new)
        → (new.contents ≡ old.contents) × (new.out ≡ old.out) × TextBroken text old.err new.err
    by (inl (same, is)) = (
      ap (λ (w : Outside). w.contents) is,
      ap (λ (w : Outside). w.out) is,
      subst (λ (t : Option (List ℕ)). TextBroken text old.err t) (sym (ap (λ (w : Outside). w.err) is)) (whole old.err),
    )
    by (inr (rose, (part, rest))) = (ap (λ (w : Outside). w.contents) rest, ap (λ (w : Outside). w.out) rest, part)

pub ends_front : (landed : Landed) (command : Command) (old new : Outside) (f f' : Counts) (s : Status) → IsTold old → OneWay landed command old → (work : Work) → IsWork landed command old work
    → Ends landed command old new f f' s → LeavesFront landed old work s new
ends_front landed command old new f f' s told way work is (inl e) =
    let kept = kept_outside e.stands new f f' (message_of e.end) e.says in
    let mine : Work = record { steps = e.came.steps; end = e.end } in
    let same = one_work landed command old way mine work (e.came.comes, e.came.fit) is in
    let front = whole_front landed command old told way work is new f f' s e in
    record {
      stands = e.stands;
      front = front.0;
      message = message_of e.end;
      is_message = inr (e.end, inl (front.1 ∙ ap (λ (v : Work). writes_of v.steps) same, ap (λ (v : Work). v.end) same), e.is, refl);
      contents = kept.0;
      out = kept.1;
      err = kept.2;
    }
ends_front landed command old new f f' s told way work is (inr (inl e)) =
    let kept = kept_outside e.stands new e.at f' (message_of e.end) e.says in
    let b = e.broke_off in
    let (step, rest, whole, called) = on_work landed command old way work is b.came.steps b.call b.came.comes b.came.fit in
    let front = cut_front landed command old told way work is new f f' s e in
    record {
      stands = e.stands;
      front = front.0;
      message = message_of e.end;
      is_message = inr (
        e.end,
        inr (record {
          front = b.came.steps;
          step = step;
          behind = rest;
          parts = whole;
          writes = front.1;
          is = b.is ∙ ap failure (sym called);
        }),
        e.is,
        refl,
      );
      contents = kept.0;
      out = kept.1;
      err = kept.2;
    }
ends_front landed command old new f f' s told way work is (inr (inr e)) = record {
  stands = new;
  front = memory_front landed command old told way work is new f f' s e;
  message = None;
  is_message = inl (e.is, refl);
  contents = refl;
  out = refl;
  err = refl;
}
