-- Where contents are told a command has exactly one work, and a run that is cut off made first steps of it.
use Rattle.std.proofs.Common.{◌≡◌, ◌⊎◌, ◌<◌, ◌≤◌, ℕ, List, [], ◌∷◌, ◌++◌, length, Option, None, Some, inl, inr, refl, sym, ◌∙◌, ap, subst, append_assoc, arith, option_map}
use Rattle.std.proofs.lemmas.Bool.{cases_lt}
use Rattle.std.specs.FinMap.{get, insert}
use Rattle.std.proofs.lemmas.Option.{none-some, same_Some}
use Rattle.jc_bytes.specs.ByteLists.{AreBytes}
use Rattle.jc_bytes.specs.Reader.{most_read}
use Rattle.jc_outside.specs.Outside.{IsListing, FileMap, IsLong}
use Rattle.jc_command_work.specs.Step.{Word, Outside, Landed, Write, to_file, to_out, to_err, Call, to_read, to_list, to_write, Step, has_read, has_no, has_listed, has_written, call_of, after, after_write, after_failed, Fit, Gave, IsRead, CantRead, IsNoFile, Told}
use Rattle.jc_command_work.specs.Part.{End, Outcome, wants, gives, stops, Part, Hands, ◌>>=◌, giving, ending, deciding, reading, listing, writing, reading_all, writing_all, unread}
use Rattle.jc_command_work.specs.OneWay.{IsOver, IsTold, GoesOn, OneWay, OneDecision, HasOne}
use Rattle.jc_command_work.proofs.ListedLaws.{listed, is_listing}
use Rattle.jc_command_work.proofs.Behind.{fit-append, fit_front, fit_behind, over_then}

-- ---- outcomes

value_or : {X : Type 0} → X → Outcome X → X
value_or x (wants call) = x
value_or x (gives y) = y
value_or x (stops end) = x

is_gives : {X : Type 0} → Outcome X → Type 0
is_gives (wants call) = ⊥
is_gives (gives y) = Unit {0}
is_gives (stops end) = ⊥

end_or : {X : Type 0} → End → Outcome X → End
end_or e (wants call) = e
end_or e (gives y) = e
end_or e (stops end) = end

call_or : {X : Type 0} → Call → Outcome X → Call
call_or c (wants call) = call
call_or c (gives y) = c
call_or c (stops end) = c

pub same_value : {X : Type 0} (x y : X) → gives x ≡ gives y → x ≡ y
unfolding value_or
same_value x y e = ap (value_or x) e

pub same_end : (X : Type 0) (a b : End) (o : Outcome X) → o ≡ stops a → o ≡ stops b → a ≡ b
unfolding end_or
same_end X a b o p q = ap (end_or a) (sym p ∙ q)

pub gives_or_stops : {X : Type 0} (x : X) (e : End) → gives x ≡ stops e → ⊥
unfolding is_gives
gives_or_stops x e is = subst is_gives is tt

-- a value isn't handed on where a call is wanted, or the command ends
abbrev pub HandsNothing : {X : Type 0} → Outcome X → Type 0
HandsNothing (wants call) = Unit {0}
HandsNothing (gives x) = ⊥
HandsNothing (stops end) = Unit {0}

pub not_gives : {X : Type 0} (x : X) (o : Outcome X) → gives x ≡ o → HandsNothing o → ⊥
not_gives x o is none = subst (λ (k : Outcome _). HandsNothing k) (sym is) none

-- ---- calls

path_or : Word → Call → Word
path_or p (to_read path) = path
path_or p (to_list folder) = folder
path_or p (to_write write) = p

write_or : Write → Call → Write
write_or v (to_read path) = v
write_or v (to_list folder) = v
write_or v (to_write write) = write

path_is : (x y : Word) → to_read x ≡ to_read y → x ≡ y
unfolding path_or
path_is x y e = ap (path_or x) e

folder_is : (x y : Word) → to_list x ≡ to_list y → x ≡ y
unfolding path_or
folder_is x y e = ap (path_or x) e

write_is : (x y : Write) → to_write x ≡ to_write y → x ≡ y
unfolding write_or
write_is x y e = ap (write_or x) e

-- calls of two kinds
abbrev AreOther : Call → Call → Type 0
AreOther (to_read x) (to_read y) = ⊥
AreOther (to_read x) (to_list y) = Unit {0}
AreOther (to_read x) (to_write y) = Unit {0}
AreOther (to_list x) (to_read y) = Unit {0}
AreOther (to_list x) (to_list y) = ⊥
AreOther (to_list x) (to_write y) = Unit {0}
AreOther (to_write x) (to_read y) = Unit {0}
AreOther (to_write x) (to_list y) = Unit {0}
AreOther (to_write x) (to_write y) = ⊥

not_other : (a : Call) → AreOther a a → ⊥
not_other (to_read x) o = o
not_other (to_list x) o = o
not_other (to_write x) o = o

pub other : (a b : Call) → a ≡ b → AreOther a b → ⊥
other a b is o = not_other b (subst (λ (c : Call). AreOther c b) is o)

-- ---- one part behind the other

module _ {X Y : Type 0} (landed : Landed) (p : Part X) (q : X → Part Y) (w : Outside) (way : OneWay landed p w) where
  stopped : (e : End) → way.outcome ≡ stops e → OneWay landed (p >>= q) w
  stopped e is = record {
    steps = way.steps;
    outcome = stops e;
    over = tt;
    comes = inl (subst (λ (o : Outcome X). p way.steps o) is way.comes);
    fit = way.fit;
    only = λ others o over comes fits. only others o over comes fits;
    on_way = λ front call comes fits. on_way front call comes fits;
  }
    where
      no_hands : (steps : List Step) (o : Outcome Y) → Hands p q steps o → Fit landed w steps → ⊥
      no_hands steps o h fits =
          let same = way.only h.front (gives h.value) tt h.over (fit_front landed w h.front h.behind (subst (Fit landed w) h.parts fits)) in
          gives_or_stops h.value e (same.1 ∙ is)

      only : (others : List Step) (o : Outcome Y) → IsOver o → (p >>= q) others o → Fit landed w others → (others ≡ way.steps) × (o ≡ stops e)
      only others (wants call) over comes fits = absurd over
      only others (gives y) over (inl within) fits = absurd within
      only others (gives y) over (inr h) fits = absurd (no_hands others (gives y) h fits)
      only others (stops f) over (inl within) fits =
          let same = way.only others (stops f) tt within fits in
          (same.0, ap (λ (k : End). stops k) (same_end X f e way.outcome (sym same.1) is))
      only others (stops f) over (inr h) fits = absurd (no_hands others (stops f) h fits)

      on_way : (front : List Step) (call : Call) → (p >>= q) front (wants call) → Fit landed w front → GoesOn front call way.steps
      on_way front call (inl within) fits = way.on_way front call within fits
      on_way front call (inr h) fits = absurd (no_hands front (wants call) h fits)

  handed : (x : X) → way.outcome ≡ gives x → OneWay landed (q x) (after landed w way.steps) → OneWay landed (p >>= q) w
  handed x is next = record {
    steps = way.steps ++ next.steps;
    outcome = next.outcome;
    over = next.over;
    comes = over_then p q x way.steps next.steps next.outcome (subst (λ (o : Outcome X). p way.steps o) is way.comes) next.comes;
    fit = fit-append landed w way.steps next.steps way.fit next.fit;
    only = λ others o over comes fits. only others o over comes fits;
    on_way = λ front call comes fits. on_way front call comes fits;
  }
    where
      -- the first part goes its way, and the second goes on from there
      goes_on : (steps : List Step) (o : Outcome Y) (h : Hands p q steps o) → Fit landed w steps
          → (h.front ≡ way.steps) × q x h.behind o × Fit landed (after landed w way.steps) h.behind
      goes_on steps o h fits =
          let fits' = subst (Fit landed w) h.parts fits in
          let same = way.only h.front (gives h.value) tt h.over (fit_front landed w h.front h.behind fits') in
          let value = same_value h.value x (same.1 ∙ is) in (
            same.0,
            subst (λ (v : X). q v h.behind o) value h.goes_on,
            subst (λ (s : List Step). Fit landed (after landed w s) h.behind) same.0 (fit_behind landed w h.front h.behind fits'),
          )

      by_hands : (others : List Step) (o : Outcome Y) → IsOver o → Hands p q others o → Fit landed w others → (others ≡ way.steps ++ next.steps) × (o ≡ next.outcome)
      by_hands others o over h fits =
          let g = goes_on others o h fits in
          let same = next.only h.behind o over g.1 g.2 in
          (h.parts ∙ ap (λ (s : List Step). s ++ h.behind) g.0 ∙ ap (λ (s : List Step). way.steps ++ s) same.0, same.1)

      only : (others : List Step) (o : Outcome Y) → IsOver o → (p >>= q) others o → Fit landed w others → (others ≡ way.steps ++ next.steps) × (o ≡ next.outcome)
      only others (wants call) over comes fits = absurd over
      only others (gives y) over (inl within) fits = absurd within
      only others (gives y) over (inr h) fits = by_hands others (gives y) over h fits
      only others (stops f) over (inl within) fits =
          let same = way.only others (stops f) tt within fits in
          absurd (gives_or_stops x f (sym (same.1 ∙ is)))
      only others (stops f) over (inr h) fits = by_hands others (stops f) over h fits

      on_way : (front : List Step) (call : Call) → (p >>= q) front (wants call) → Fit landed w front → GoesOn front call (way.steps ++ next.steps)
      on_way front call (inl within) fits =
          let (step, rest, whole, called) = way.on_way front call within fits in
          (step, rest ++ next.steps, ap (λ (s : List Step). s ++ next.steps) whole ∙ append_assoc front (step ∷ rest) next.steps, called)
      on_way front call (inr h) fits =
          let g = goes_on front (wants call) h fits in
          let (step, rest, whole, called) = next.on_way h.behind call g.1 g.2 in (
            step,
            rest,
            ap (λ (s : List Step). way.steps ++ s) whole ∙ sym (append_assoc way.steps h.behind (step ∷ rest))
                ∙ ap (λ (s : List Step). (s ++ h.behind) ++ step ∷ rest) (sym g.0) ∙ ap (λ (s : List Step). s ++ step ∷ rest) (sym h.parts),
            called,
          )

  -- where the first part hands on a value, the second has one way from there
  pub one_then : ((x : X) → p way.steps (gives x) → OneWay landed (q x) (after landed w way.steps)) → OneWay landed (p >>= q) w
  one_then more = by way.outcome refl way.over
    where
      by : (o : Outcome X) → way.outcome ≡ o → IsOver o → OneWay landed (p >>= q) w
      by (wants call) is over = absurd over
      by (gives x) is over = handed x is (more x (subst (λ (o : Outcome X). p way.steps o) is way.comes))
      by (stops e) is over = stopped e is

-- ---- the parts that commands are made of

module _ {X : Type 0} (landed : Landed) (w : Outside) where
  pub one_giving : (x : X) → OneWay landed (giving x) w
  one_giving x = record {
    steps = [];
    outcome = gives x;
    over = tt;
    comes = refl;
    fit = tt;
    only = only;
    on_way = on_way;
  }
    where
      only : (others : List Step) (o : Outcome X) → IsOver o → giving x others o → Fit landed w others → (others ≡ []) × (o ≡ gives x)
      only [] o over comes fits = (refl, comes)
      only (s ∷ ss) o over comes fits = absurd comes

      on_way : (front : List Step) (call : Call) → giving x front (wants call) → Fit landed w front → GoesOn front call []
      on_way [] call comes fits = absurd (subst (λ (o : Outcome X). IsOver o) (sym comes) tt)
      on_way (s ∷ ss) call comes fits = absurd comes

  pub one_ending : (e : End) → OneWay landed (ending {X = X} e) w
  one_ending e = record {
    steps = [];
    outcome = stops e;
    over = tt;
    comes = refl;
    fit = tt;
    only = only;
    on_way = on_way;
  }
    where
      only : (others : List Step) (o : Outcome X) → IsOver o → ending {X = X} e others o → Fit landed w others → (others ≡ []) × (o ≡ stops e)
      only [] o over comes fits = (refl, comes)
      only (s ∷ ss) o over comes fits = absurd comes

      on_way : (front : List Step) (call : Call) → ending {X = X} e front (wants call) → Fit landed w front → GoesOn front call []
      on_way [] call comes fits = absurd (subst (λ (o : Outcome X). IsOver o) (sym comes) tt)
      on_way (s ∷ ss) call comes fits = absurd comes

  pub one_deciding : (Is : X → Type 0) (Ends : End → Type 0) → OneDecision Is Ends → OneWay landed (deciding Is Ends) w
  one_deciding Is Ends d = record {
    steps = [];
    outcome = d.decision;
    over = d.over;
    comes = d.holds;
    fit = tt;
    only = only;
    on_way = on_way;
  }
    where
      only : (others : List Step) (o : Outcome X) → IsOver o → deciding Is Ends others o → Fit landed w others → (others ≡ []) × (o ≡ d.decision)
      only [] o over comes fits = (refl, d.only o over comes)
      only (s ∷ ss) o over comes fits = absurd comes

      on_way : (front : List Step) (call : Call) → deciding Is Ends front (wants call) → Fit landed w front → GoesOn front call []
      on_way [] call comes fits = absurd comes
      on_way (s ∷ ss) call comes fits = absurd comes

same_want : {X : Type 0} (a b : Call) (o : Outcome X) → o ≡ wants a → o ≡ wants b → b ≡ a
unfolding call_or
same_want a b o p q = ap (call_or a) (sym q ∙ p)

pub not_over : {X : Type 0} (o : Outcome X) (call : Call) → IsOver o → o ≡ wants call → ⊥
not_over o call over is = subst (λ (k : Outcome _). IsOver k) is over

pub one_writing : (landed : Landed) (w : Outside) (write : Write) → OneWay landed (writing write) w
one_writing landed w write = record {
  steps = has_written write ∷ [];
  outcome = gives tt;
  over = tt;
  comes = (refl, refl);
  fit = (tt, tt);
  only = only;
  on_way = on_way;
}
  where
    only : (others : List Step) (o : Outcome (Unit {0})) → IsOver o → writing write others o → Fit landed w others → (others ≡ has_written write ∷ []) × (o ≡ gives tt)
    only [] o over comes fits = absurd (not_over o (to_write write) over comes)
    only (has_written v ∷ []) o over comes fits = (ap (λ (x : Write). has_written x ∷ []) comes.0, comes.1)
    only (has_written v ∷ s ∷ ss) o over comes fits = absurd comes
    only (has_read p b ∷ ss) o over comes fits = absurd comes
    only (has_no p ∷ ss) o over comes fits = absurd comes
    only (has_listed p b ∷ ss) o over comes fits = absurd comes

    on_way : (front : List Step) (call : Call) → writing write front (wants call) → Fit landed w front → GoesOn front call (has_written write ∷ [])
    on_way [] call comes fits = (has_written write, [], refl, same_want call (to_write write) _ refl comes)
    on_way (has_written v ∷ []) call comes fits = absurd (not_over (gives tt) call tt (sym comes.1))
    on_way (has_written v ∷ s ∷ ss) call comes fits = absurd comes
    on_way (has_read p b ∷ ss) call comes fits = absurd comes
    on_way (has_no p ∷ ss) call comes fits = absurd comes
    on_way (has_listed p b ∷ ss) call comes fits = absurd comes

-- ---- reads

bytes_or_not : (numbers : List ℕ) → AreBytes numbers ⊎ (AreBytes numbers → ⊥)
bytes_or_not [] = inl tt
bytes_or_not (n ∷ numbers) = by (cases_lt n 256) (bytes_or_not numbers)
  where
    by : (n < 256) ⊎ (256 ≤ n) → AreBytes numbers ⊎ (AreBytes numbers → ⊥) → AreBytes (n ∷ numbers) ⊎ (AreBytes (n ∷ numbers) → ⊥)
    by (inl low) (inl rest) = inl (low, rest)
    by (inl low) (inr none) = inr (λ are. none are.1)
    by (inr high) rest = inr (λ are. let low = are.0 in omega (arith, high, low))

can_or_cannot : (m : FileMap) (path : Word) → ((bytes : List ℕ) × IsRead (Some m) path bytes) ⊎ CantRead m path
can_or_cannot m path = by (get m path) refl
  where
    by : (o : Option (List ℕ)) → get m path ≡ o → ((bytes : List ℕ) × IsRead (Some m) path bytes) ⊎ CantRead m path
    by None is = inr (inl is)
    by (Some bytes) is = sized (cases_lt most_read (length bytes)) (bytes_or_not bytes)
      where
        sized : (most_read < length bytes) ⊎ (length bytes ≤ most_read) → AreBytes bytes ⊎ (AreBytes bytes → ⊥) → ((bytes : List ℕ) × IsRead (Some m) path bytes) ⊎ CantRead m path
        sized (inl long) which = inr (inr (inl (subst IsLong (sym is) long)))
        sized (inr short) (inl are) = inl (bytes, record { file = record { are_bytes = are; short = short }; there = is })
        sized (inr short) (inr none) = inr (inr (inr (subst IsNoFile (sym is) none)))

one_text : (m : FileMap) (path a b : List ℕ) → IsRead (Some m) path a → IsRead (Some m) path b → a ≡ b
one_text m path a b p q = same_Some a b (sym p.there ∙ q.there)

can_and_cannot : (m : FileMap) (path bytes : List ℕ) → IsRead (Some m) path bytes → CantRead m path → ⊥
can_and_cannot m path bytes p (inl missing) = none-some bytes (sym missing ∙ p.there)
can_and_cannot m path bytes p (inr (inl long)) = let long' = subst IsLong p.there long in let short = p.file.short in omega (arith, long', short)
can_and_cannot m path bytes p (inr (inr none)) = subst IsNoFile p.there none p.file.are_bytes

module _ (landed : Landed) (m : FileMap) (w : Outside) (told : w.contents ≡ Some m) (path : Word) where
  wanted : (step : Step) → call_of step ≡ to_read path → (front : List Step) (call : Call) → reading path front (wants call) → GoesOn front call (step ∷ [])
  wanted step is [] call comes = (step, [], refl, is ∙ same_want call (to_read path) _ refl comes)
  wanted step is (has_read p b ∷ []) call comes = absurd (not_over (gives b) call tt (sym comes.1))
  wanted step is (has_no p ∷ []) call comes = (let o : Outcome (List ℕ) = stops (unread path) in absurd (not_over o call tt (sym comes.1)))
  wanted step is (has_read p b ∷ s ∷ ss) call comes = absurd comes
  wanted step is (has_no p ∷ s ∷ ss) call comes = absurd comes
  wanted step is (has_written v ∷ ss) call comes = absurd comes
  wanted step is (has_listed f b ∷ ss) call comes = absurd comes

  was_read : (bytes : List ℕ) → IsRead (Some m) path bytes → OneWay landed (reading path) w
  was_read bytes read = record {
    steps = has_read path bytes ∷ [];
    outcome = gives bytes;
    over = tt;
    comes = (refl, refl);
    fit = (subst (λ (c : Option FileMap). IsRead c path bytes) (sym told) read, tt);
    only = only;
    on_way = λ front call comes fits. wanted (has_read path bytes) refl front call comes;
  }
    where
      only : (others : List Step) (o : Outcome (List ℕ)) → IsOver o → reading path others o → Fit landed w others → (others ≡ has_read path bytes ∷ []) × (o ≡ gives bytes)
      only [] o over comes fits = absurd (not_over o (to_read path) over comes)
      only (has_read p b ∷ []) o over comes fits =
          let there = subst (λ (x : Word). IsRead (Some m) x b) comes.0 (subst (λ (c : Option FileMap). IsRead c p b) told fits.0) in
          let same = one_text m path b bytes there read in
          ((λ i. has_read (comes.0 i) (same i) ∷ []), comes.1 ∙ ap (λ (x : List ℕ). gives x) same)
      only (has_no p ∷ []) o over comes fits =
          absurd (can_and_cannot m path bytes read (subst (λ (x : Word). CantRead m x) comes.0 (subst (λ (c : Option FileMap). Told c (λ n. CantRead n p)) told fits.0)))
      only (has_read p b ∷ s ∷ ss) o over comes fits = absurd comes
      only (has_no p ∷ s ∷ ss) o over comes fits = absurd comes
      only (has_written v ∷ ss) o over comes fits = absurd comes
      only (has_listed f b ∷ ss) o over comes fits = absurd comes

  wasn't_read : CantRead m path → OneWay landed (reading path) w
  wasn't_read cant = record {
    steps = has_no path ∷ [];
    outcome = stops (unread path);
    over = tt;
    comes = (refl, refl);
    fit = (subst (λ (c : Option FileMap). Told c (λ n. CantRead n path)) (sym told) cant, tt);
    only = only;
    on_way = λ front call comes fits. wanted (has_no path) refl front call comes;
  }
    where
      only : (others : List Step) (o : Outcome (List ℕ)) → IsOver o → reading path others o → Fit landed w others → (others ≡ has_no path ∷ []) × (o ≡ stops (unread path))
      only [] o over comes fits = absurd (not_over o (to_read path) over comes)
      only (has_read p b ∷ []) o over comes fits =
          absurd (can_and_cannot m path b (subst (λ (x : Word). IsRead (Some m) x b) comes.0 (subst (λ (c : Option FileMap). IsRead c p b) told fits.0)) cant)
      only (has_no p ∷ []) o over comes fits = (ap (λ (x : Word). has_no x ∷ []) comes.0, comes.1)
      only (has_read p b ∷ s ∷ ss) o over comes fits = absurd comes
      only (has_no p ∷ s ∷ ss) o over comes fits = absurd comes
      only (has_written v ∷ ss) o over comes fits = absurd comes
      only (has_listed f b ∷ ss) o over comes fits = absurd comes

pub one_reading : (landed : Landed) (w : Outside) (path : Word) → IsTold w → OneWay landed (reading path) w
one_reading landed w path (m, told) = by (can_or_cannot m path)
  where
    by : ((bytes : List ℕ) × IsRead (Some m) path bytes) ⊎ CantRead m path → OneWay landed (reading path) w
    by (inl (bytes, read)) = was_read landed m w told path bytes read
    by (inr cant) = wasn't_read landed m w told path cant

-- ---- folders

pub one_listing : (landed : Landed) (w : Outside) (folder : Word) → IsTold w → OneWay landed (listing folder) w
one_listing landed w folder (m, told) = record {
  steps = has_listed folder (listed m folder) ∷ [];
  outcome = gives (listed m folder);
  over = tt;
  comes = (refl, refl);
  fit = (subst (λ (c : Option FileMap). IsListing c folder (listed m folder)) (sym told) (is_listing m folder), tt);
  only = only;
  on_way = on_way;
}
  where
    only : (others : List Step) (o : Outcome (List Word)) → IsOver o → listing folder others o → Fit landed w others
        → (others ≡ has_listed folder (listed m folder) ∷ []) × (o ≡ gives (listed m folder))
    only [] o over comes fits = absurd (not_over o (to_list folder) over comes)
    only (has_listed f ps ∷ []) o over comes fits =
        let is : ps ≡ listed m f = (subst (λ (c : Option FileMap). IsListing c f ps) told fits.0).told in
        let same = is ∙ ap (λ (x : Word). listed m x) comes.0 in
        ((λ i. has_listed (comes.0 i) (same i) ∷ []), comes.1 ∙ ap (λ (x : List Word). gives x) same)
    only (has_listed f ps ∷ s ∷ ss) o over comes fits = absurd comes
    only (has_read p b ∷ ss) o over comes fits = absurd comes
    only (has_no p ∷ ss) o over comes fits = absurd comes
    only (has_written v ∷ ss) o over comes fits = absurd comes

    on_way : (front : List Step) (call : Call) → listing folder front (wants call) → Fit landed w front → GoesOn front call (has_listed folder (listed m folder) ∷ [])
    on_way [] call comes fits = (has_listed folder (listed m folder), [], refl, same_want call (to_list folder) _ refl comes)
    on_way (has_listed f ps ∷ []) call comes fits = absurd (not_over (gives ps) call tt (sym comes.1))
    on_way (has_listed f ps ∷ s ∷ ss) call comes fits = absurd comes
    on_way (has_read p b ∷ ss) call comes fits = absurd comes
    on_way (has_no p ∷ ss) call comes fits = absurd comes
    on_way (has_written v ∷ ss) call comes fits = absurd comes

-- ---- wherever contents are told

told_after_write : (landed : Landed) (w : Outside) (write : Write) → IsTold w → IsTold (after_write landed w write)
told_after_write landed w (to_file path bytes) (m, is) = (insert m path (landed path bytes), ap (λ (c : Option FileMap). option_map (λ (n : FileMap). insert n path (landed path bytes)) c) is)
told_after_write landed w (to_out text) told = told
told_after_write landed w (to_err text) told = told

pub told_after : (landed : Landed) (w : Outside) (steps : List Step) → IsTold w → IsTold (after landed w steps)
told_after landed w [] told = told
told_after landed w (has_read p b ∷ steps) told = told_after landed w steps told
told_after landed w (has_no p ∷ steps) told = told_after landed (after_failed w p) steps told
told_after landed w (has_listed f ps ∷ steps) told = told_after landed w steps told
told_after landed w (has_written write ∷ steps) told = told_after landed (after_write landed w write) steps (told_after_write landed w write told)

module _ {X Y : Type 0} (landed : Landed) (p : Part X) (q : X → Part Y) where
  pub has_then : HasOne landed p → ((x : X) → HasOne landed (q x)) → HasOne landed (p >>= q)
  has_then one more w told = let way = one w told in one_then landed p q w way (λ x over. more x (after landed w way.steps) (told_after landed w way.steps told))

  -- the second part has one way where it is handed what the first can hand on
  pub has_then_if : HasOne landed p → ((w : Outside) (steps : List Step) (x : X) → p steps (gives x) → Fit landed w steps → HasOne landed (q x)) → HasOne landed (p >>= q)
  has_then_if one more w told = let way = one w told in one_then landed p q w way (λ x over. more w way.steps x over way.fit (after landed w way.steps) (told_after landed w way.steps told))

module _ (landed : Landed) where
  pub has_reading_all : (paths : List Word) → HasOne landed (reading_all paths)
  has_reading_all [] = λ w told. one_giving landed w []
  has_reading_all (path ∷ paths) =
      has_then landed (reading path) _ (λ w told. one_reading landed w path told)
      (λ text. has_then landed (reading_all paths) _ (has_reading_all paths) (λ texts w told. one_giving landed w (text ∷ texts)))

  pub has_writing_all : (writes : List Write) → HasOne landed (writing_all writes)
  has_writing_all [] = λ w told. one_giving landed w tt
  has_writing_all (write ∷ writes) = has_then landed (writing write) _ (λ w told. one_writing landed w write) (λ _. has_writing_all writes)

-- ---- a call gives one thing

module _ (landed : Landed) (w : Outside) (front : List Step) (m : FileMap) (told : w.contents ≡ Some m) where
  pub same_gave : (a b : Step) → Gave (after landed w front).contents a → Gave (after landed w front).contents b → call_of a ≡ call_of b → a ≡ b
  same_gave a b p q same =
      let (n, is) = told_after landed w front (m, told) in
      by n a b (subst (λ (c : Option FileMap). Gave c a) is p) (subst (λ (c : Option FileMap). Gave c b) is q) same
    where
      by : (n : FileMap) (a b : Step) → Gave (Some n) a → Gave (Some n) b → call_of a ≡ call_of b → a ≡ b
      by n (has_read x c) (has_read y d) p q same =
          let path = path_is x y same in
          let bytes = one_text n y c d (subst (λ (z : Word). IsRead (Some n) z c) path p) q in
          λ i. has_read (path i) (bytes i)
      by n (has_read x c) (has_no y) p q same = absurd (can_and_cannot n y c (subst (λ (z : Word). IsRead (Some n) z c) (path_is x y same) p) q)
      by n (has_no x) (has_read y d) p q same = absurd (can_and_cannot n y d q (subst (λ (z : Word). CantRead n z) (path_is x y same) p))
      by n (has_no x) (has_no y) p q same = ap (λ (z : Word). has_no z) (path_is x y same)
      by n (has_listed x c) (has_listed y d) p q same =
          let folder = folder_is x y same in
          let paths = p.told ∙ ap (λ (z : Word). listed n z) folder ∙ sym q.told in
          λ i. has_listed (folder i) (paths i)
      by n (has_written x) (has_written y) p q same = ap (λ (z : Write). has_written z) (write_is x y same)
      by n (has_read x c) (has_listed y d) p q same = absurd (other (to_read x) (to_list y) same tt)
      by n (has_read x c) (has_written y) p q same = absurd (other (to_read x) (to_write y) same tt)
      by n (has_no x) (has_listed y d) p q same = absurd (other (to_read x) (to_list y) same tt)
      by n (has_no x) (has_written y) p q same = absurd (other (to_read x) (to_write y) same tt)
      by n (has_listed x c) (has_read y d) p q same = absurd (other (to_list x) (to_read y) same tt)
      by n (has_listed x c) (has_no y) p q same = absurd (other (to_list x) (to_read y) same tt)
      by n (has_listed x c) (has_written y) p q same = absurd (other (to_list x) (to_write y) same tt)
      by n (has_written x) (has_read y d) p q same = absurd (other (to_write x) (to_read y) same tt)
      by n (has_written x) (has_no y) p q same = absurd (other (to_write x) (to_read y) same tt)
      by n (has_written x) (has_listed y d) p q same = absurd (other (to_write x) (to_list y) same tt)
