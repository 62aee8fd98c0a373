-- One part behind the other: what the two do together.
use Rattle.std.proofs.Common.{◌≡◌, List, [], ◌∷◌, ◌++◌, Option, None, Some, inl, inr, refl, sym, ◌∙◌, ap, subst, append_assoc, append-nil}
use Rattle.jc_command_work.specs.Step.{Outside, Counts, Landed, Step, call_of, after, after_step, Fit}
use Rattle.jc_command_work.specs.Part.{End, Outcome, wants, gives, stops, Part, Begun, ◌>>=◌}
use Rattle.jc_command_work.specs.Ending.{CameTo, Began, BrokeOff, Stops}

-- ---- steps, one list behind the other

pub after-append : (landed : Landed) (w : Outside) (xs ys : List Step) → after landed w (xs ++ ys) ≡ after landed (after landed w xs) ys
after-append landed w [] ys = refl
after-append landed w (x ∷ xs) ys = after-append landed (after_step landed w x) xs ys

pub fit-append : (landed : Landed) (w : Outside) (xs ys : List Step) → Fit landed w xs → Fit landed (after landed w xs) ys → Fit landed w (xs ++ ys)
fit-append landed w [] ys p q = q
fit-append landed w (x ∷ xs) ys p q = (p.0, fit-append landed (after_step landed w x) xs ys p.1 q)

pub fit_front : (landed : Landed) (w : Outside) (xs ys : List Step) → Fit landed w (xs ++ ys) → Fit landed w xs
fit_front landed w [] ys p = tt
fit_front landed w (x ∷ xs) ys p = (p.0, fit_front landed (after_step landed w x) xs ys p.1)

pub fit_behind : (landed : Landed) (w : Outside) (xs ys : List Step) → Fit landed w (xs ++ ys) → Fit landed (after landed w xs) ys
fit_behind landed w [] ys p = p
fit_behind landed w (x ∷ xs) ys p = fit_behind landed (after_step landed w x) xs ys p.1

-- ---- first steps

module _ {X Y : Type 0} (p : Part X) (q : X → Part Y) where
  pub begun_first : (steps : List Step) → Begun p steps → Begun (p >>= q) steps
  begun_first steps (inl none) = inl none
  begun_first steps (inr (front, step, is, wanted)) = inr (front, step, is, inl wanted)

  pub over_then : (x : X) (front behind : List Step) (o : Outcome Y) → p front (gives x) → q x behind o → (p >>= q) (front ++ behind) o
  over_then x front behind o over goes_on = inr (record { front = front; behind = behind; value = x; parts = refl; over = over; goes_on = goes_on })

  pub begun_then : (x : X) (front behind : List Step) → Begun p front → p front (gives x) → Begun (q x) behind → Begun (p >>= q) (front ++ behind)
  begun_then x front behind begun over (inl none) =
      subst (λ (l : List Step). Begun (p >>= q) l) (sym (append-nil front) ∙ ap (λ (l : List Step). front ++ l) (sym none)) (begun_first front begun)
  begun_then x front behind begun over (inr (some, step, is, wanted)) =
      inr (front ++ some, step, ap (λ (l : List Step). front ++ l) is ∙ sym (append_assoc front some (step ∷ [])), over_then x front some (wants (call_of step)) over wanted)

-- ---- what two parts do together

module _ {X Y : Type 0} (landed : Landed) (p : Part X) (q : X → Part Y) (old : Outside) where
  -- the second part begins where the first has come to
  pub came_then : (x : X) (mid new : Outside) (o : Outcome Y) → CameTo landed p old mid (gives x) → CameTo landed (q x) mid new o → CameTo landed (p >>= q) old new o
  came_then x mid new o a b =
      let there : Fit landed (after landed old a.steps) b.steps = subst (λ (w : Outside). Fit landed w b.steps) a.stand b.fit in
      record {
        steps = a.steps ++ b.steps;
        comes = over_then p q x a.steps b.steps o a.comes b.comes;
        begun = begun_then p q x a.steps b.steps a.begun a.comes b.begun;
        fit = fit-append landed old a.steps b.steps a.fit there;
        stand = b.stand ∙ ap (λ (w : Outside). after landed w b.steps) a.stand ∙ sym (after-append landed old a.steps b.steps);
      }

  pub came_stop : (new : Outside) (end : End) → CameTo landed p old new (stops end) → CameTo landed (p >>= q) old new (stops end)
  came_stop new end a = record { steps = a.steps; comes = inl a.comes; begun = begun_first p q a.steps a.begun; fit = a.fit; stand = a.stand }

  pub began_first : (new : Outside) → Began landed p old new → Began landed (p >>= q) old new
  began_first new a = record { steps = a.steps; begun = begun_first p q a.steps a.begun; fit = a.fit; stand = a.stand }

  pub began_then : (x : X) (mid new : Outside) → CameTo landed p old mid (gives x) → Began landed (q x) mid new → Began landed (p >>= q) old new
  began_then x mid new a b =
      let there : Fit landed (after landed old a.steps) b.steps = subst (λ (w : Outside). Fit landed w b.steps) a.stand b.fit in
      record {
        steps = a.steps ++ b.steps;
        begun = begun_then p q x a.steps b.steps a.begun a.comes b.begun;
        fit = fit-append landed old a.steps b.steps a.fit there;
        stand = b.stand ∙ ap (λ (w : Outside). after landed w b.steps) a.stand ∙ sym (after-append landed old a.steps b.steps);
      }

  pub broke_first : (new : Outside) (f f' : Counts) (end : End) → BrokeOff landed p old new f f' end → BrokeOff landed (p >>= q) old new f f' end
  broke_first new f f' end a = record {
    call = a.call;
    stands = a.stands;
    came = record { steps = a.came.steps; comes = inl a.came.comes; begun = begun_first p q a.came.steps a.came.begun; fit = a.came.fit; stand = a.came.stand };
    broken = a.broken;
    rose = a.rose;
    is = a.is;
  }

  pub broke_then : (x : X) (mid new : Outside) (f f' : Counts) (end : End) → CameTo landed p old mid (gives x) → BrokeOff landed (q x) mid new f f' end → BrokeOff landed (p >>= q) old new f f' end
  broke_then x mid new f f' end a b = record {
    call = b.call;
    stands = b.stands;
    came = came_then x mid b.stands (wants b.call) a b.came;
    broken = b.broken;
    rose = b.rose;
    is = b.is;
  }

  -- the first part stopped the command
  pub stops_first : (new : Outside) (f f' : Counts) (stop : Option End) → Stops landed p old new f f' stop → Stops landed (p >>= q) old new f f' stop
  stops_first new f f' None (same, a) = (same, began_first new a)
  stops_first new f f' (Some end) (inl (same, a)) = inl (same, came_stop new end a)
  stops_first new f f' (Some end) (inr a) = inr (broke_first new f f' end a)

  -- the second part stopped the command
  pub stops_then : (x : X) (mid new : Outside) (f g f' : Counts) (stop : Option End) → g ≡ f → CameTo landed p old mid (gives x) → Stops landed (q x) mid new g f' stop
      → Stops landed (p >>= q) old new f f' stop
  stops_then x mid new f g f' None same a (kept, b) = (kept ∙ same, began_then x mid new a b)
  stops_then x mid new f g f' (Some end) same a (inl (kept, b)) = inl (kept ∙ same, came_then x mid new (stops end) a b)
  stops_then x mid new f g f' (Some end) same a (inr b) =
      inr (broke_then x mid new f f' end a (subst (λ (c : Counts). BrokeOff landed (q x) mid new c f' end) same b))
