-- The writes of one list, and then those of another: what comes of the two, one behind the other, comes of them all.
use Rattle.std.proofs.Common.{◌≡◌, List, [], ◌∷◌, ◌++◌, Option, None, Some, inl, inr, sym, ◌∙◌, ap, subst, append_assoc, append-nil}
use Rattle.jc_command_work.specs.Step.{Outside, Counts, Landed, Write, Call, Step, call_of, after, Fit, CountRose}
use Rattle.jc_command_work.specs.Part.{End, Outcome, wants, gives, stops, Part, writing_all, Begun}
use Rattle.jc_command_work.specs.Ending.{CameTo, Stops}
use Rattle.jc_command_work.proofs.Behind.{after-append, fit-append}
use Rattle.jc_command_work.proofs.OneWork.{gives_or_stops, not_gives}
use Rattle.jc_command_work.proofs.Reaching.{Reached}

-- ---- steps

-- the first writes were made, and the others go on
both_over : (xs ys : List Write) (front behind : List Step) (o : Outcome (Unit {0})) → writing_all xs front (gives tt) → writing_all ys behind o
    → writing_all (xs ++ ys) (front ++ behind) o
both_over [] ys [] behind o over next = next
both_over [] ys (s ∷ ss) behind o over next = absurd over
both_over (x ∷ xs) ys front behind o (inl within) next = absurd within
both_over (x ∷ xs) ys front behind o (inr h) next = inr (record {
  front = h.front;
  behind = h.behind ++ behind;
  value = h.value;
  parts = ap (λ (l : List Step). l ++ behind) h.parts ∙ append_assoc h.front h.behind behind;
  over = h.over;
  goes_on = both_over xs ys h.behind behind o h.goes_on next;
})

-- the first writes go on
first_wants : (xs ys : List Write) (steps : List Step) (call : Call) → writing_all xs steps (wants call) → writing_all (xs ++ ys) steps (wants call)
first_wants [] ys [] call is = absurd (not_gives tt (wants call) (sym is) tt)
first_wants [] ys (s ∷ ss) call is = absurd is
first_wants (x ∷ xs) ys steps call (inl within) = inl within
first_wants (x ∷ xs) ys steps call (inr h) =
    inr (record { front = h.front; behind = h.behind; value = h.value; parts = h.parts; over = h.over; goes_on = first_wants xs ys h.behind call h.goes_on })

first_stops : (xs ys : List Write) (steps : List Step) (end : End) → writing_all xs steps (stops end) → writing_all (xs ++ ys) steps (stops end)
first_stops [] ys [] end is = absurd (gives_or_stops tt end (sym is))
first_stops [] ys (s ∷ ss) end is = absurd is
first_stops (x ∷ xs) ys steps end (inl within) = inl within
first_stops (x ∷ xs) ys steps end (inr h) =
    inr (record { front = h.front; behind = h.behind; value = h.value; parts = h.parts; over = h.over; goes_on = first_stops xs ys h.behind end h.goes_on })

module _ (xs ys : List Write) where
  begun_first : (steps : List Step) → Begun (writing_all xs) steps → Begun (writing_all (xs ++ ys)) steps
  begun_first steps (inl none) = inl none
  begun_first steps (inr (front, step, is, wanted)) = inr (front, step, is, first_wants xs ys front (call_of step) wanted)

  begun_both : (front behind : List Step) → Begun (writing_all xs) front → writing_all xs front (gives tt) → Begun (writing_all ys) behind
      → Begun (writing_all (xs ++ ys)) (front ++ behind)
  begun_both front behind begun over (inl none) =
      subst (λ (l : List Step). Begun (writing_all (xs ++ ys)) l) (sym (append-nil front) ∙ ap (λ (l : List Step). front ++ l) (sym none)) (begun_first front begun)
  begun_both front behind begun over (inr (some, step, is, wanted)) =
      inr (front ++ some, step, ap (λ (l : List Step). front ++ l) is ∙ sym (append_assoc front some (step ∷ [])), both_over xs ys front some (wants (call_of step)) over wanted)

-- ---- how far they came

module _ (landed : Landed) (xs ys : List Write) (old : Outside) where
  came_both : (mid new : Outside) (o : Outcome (Unit {0})) → CameTo landed (writing_all xs) old mid (gives tt) → CameTo landed (writing_all ys) mid new o
      → CameTo landed (writing_all (xs ++ ys)) old new o
  came_both mid new o a b = record {
    steps = a.steps ++ b.steps;
    comes = both_over xs ys a.steps b.steps o a.comes b.comes;
    begun = begun_both xs ys a.steps b.steps a.begun a.comes b.begun;
    fit = fit-append landed old a.steps b.steps a.fit (subst (λ (w : Outside). Fit landed w b.steps) a.stand b.fit);
    stand = b.stand ∙ ap (λ (w : Outside). after landed w b.steps) a.stand ∙ sym (after-append landed old a.steps b.steps);
  }

  stops_first : (new : Outside) (f f' : Counts) (stop : Option End) → Stops landed (writing_all xs) old new f f' stop → Stops landed (writing_all (xs ++ ys)) old new f f' stop
  stops_first new f f' None (same, a) = (same, record { steps = a.steps; begun = begun_first xs ys a.steps a.begun; fit = a.fit; stand = a.stand })
  stops_first new f f' (Some end) (inl (same, a)) =
      inl (same, record { steps = a.steps; comes = first_stops xs ys a.steps end a.comes; begun = begun_first xs ys a.steps a.begun; fit = a.fit; stand = a.stand })
  stops_first new f f' (Some end) (inr b) =
      let a = b.came in
      inr (record {
        call = b.call;
        stands = b.stands;
        came = record { steps = a.steps; comes = first_wants xs ys a.steps b.call a.comes; begun = begun_first xs ys a.steps a.begun; fit = a.fit; stand = a.stand };
        broken = b.broken;
        rose = b.rose;
        is = b.is;
      })

  stops_both : (mid new : Outside) (f g f' : Counts) (stop : Option End) → g ≡ f → CameTo landed (writing_all xs) old mid (gives tt)
      → Stops landed (writing_all ys) mid new g f' stop → Stops landed (writing_all (xs ++ ys)) old new f f' stop
  stops_both mid new f g f' None same a (kept, b) = (
    kept ∙ same,
    record {
      steps = a.steps ++ b.steps;
      begun = begun_both xs ys a.steps b.steps a.begun a.comes b.begun;
      fit = fit-append landed old a.steps b.steps a.fit (subst (λ (w : Outside). Fit landed w b.steps) a.stand b.fit);
      stand = b.stand ∙ ap (λ (w : Outside). after landed w b.steps) a.stand ∙ sym (after-append landed old a.steps b.steps);
    },
  )
  stops_both mid new f g f' (Some end) same a (inl (kept, b)) = inl (kept ∙ same, came_both mid new (stops end) a b)
  stops_both mid new f g f' (Some end) same a (inr b) = inr (record {
    call = b.call;
    stands = b.stands;
    came = came_both mid b.stands (wants b.call) a b.came;
    broken = b.broken;
    rose = subst (λ (c : Counts). CountRose b.call c f') same b.rose;
    is = b.is;
  })

-- ---- the others are left

module _ {Y : Type 0} (landed : Landed) (part : Part Y) (glue : Unit {0} → Y) (xs ys : List Write) (old now mid : Outside) (f g h : Counts)
    (so : Reached landed part (writing_all (xs ++ ys)) glue old now f g) where
  pub reached_writes : (h ≡ g) × CameTo landed (writing_all xs) now mid (gives tt) → Reached landed part (writing_all ys) glue old mid f h
  reached_writes (same, came) = record {
    came = λ new x next. so.came new x (came_both landed xs ys now mid new (gives x) came next);
    ended = λ new f' stop next. so.ended new f' stop (stops_both landed xs ys now mid new g h f' stop same came next);
    same = same ∙ so.same;
  }

  pub reached_no_writes : (stop : Option End) → Stops landed (writing_all xs) now mid g h stop → Stops landed part old mid f h stop
  reached_no_writes stop stopped = so.ended mid h stop (stops_first landed xs ys now mid g h stop stopped)
