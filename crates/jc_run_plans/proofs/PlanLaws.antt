-- Reading a run plan gives the run plan, or the first line that doesn't fit.
use Rattle.std.proofs.Common.{◌≡◌, ◌⊎◌, inl, inr, ⊎_elim, ℕ, ◌+◌, ◌<◌, ◌≤◌, Bool, true, false, cond, List, [], ◌∷◌, ◌++◌, length, Option, Some, None, nat_lt, nat_le, codes, bytes_eq, refl, sym, ◌∙◌, ap, subst, arith, append_assoc, append-nil, length-append}
use Rattle.std.proofs.lemmas.Bool.{ltb-true, lt-ltb, leb-true, le-leb, false≢true}
use Rattle.std.proofs.lemmas.Slice.Eq.{bytes_eq-Decides}
use Rattle.std.specs.List.{flat_map}
use Rattle.std.proofs.lemmas.Option.{same_Some}
use Rattle.jc_bytes.proofs.OptionLaws.{none_some}
use Rattle.jc_programs.specs.declared.run_plan.ThreadLine.{ThreadLine}
use Rattle.jc_programs.specs.declared.run_plan.Schedule.{Schedule}
use Rattle.jc_programs.specs.declared.run_plan.Schedule.TheVariants as schedules
use Rattle.jc_programs.specs.declared.run_plan.Case.{Case}
use Rattle.jc_programs.specs.declared.run_plan.RunPlan.{RunPlan}
use Rattle.jc_run_plans.specs.PlanWords.{Line, is_skipped, words_of, line_before, numbered_from, lines_of, numbered_lines}
use Rattle.jc_run_plans.specs.Plans.{is_case, named_in, thread_in, thread_by, schedule_in, schedule_text, schedule_of, AreThreadLines, IsCaseText, AreCaseTexts, ArePlanLines, IsPlanText, BeginAPlan, IsUnfitLine, EndsEarly, FirstUnfit}
use Rattle.jc_run_plans.specs.declared.begun.Begun.{Begun}
use Rattle.jc_run_plans.specs.PlanReading.{with_case, with_thread, with_schedule, in_case, with_line, with_words, PlanRead, plan_is, unfit_at, ended_in, read_on, read_from, plan_read}

-- ---- options and tests

-- what is given where a test holds
chosen : {X : Type 0} (b : Bool) (x y : X) → cond b (Some x) None ≡ Some y → (b ≡ true) × (x ≡ y)
chosen true x y e = (refl, same_Some x y e)
chosen false x y e = absurd (none_some e)

part : List Line → List Line
part lines = lines

-- all lines of the parts
joined : List (List Line) → List Line
joined parts = flat_map (λ p. p) parts

joined_append : (xs ys : List (List Line)) → joined (xs ++ ys) ≡ joined xs ++ joined ys
unfolding joined
joined_append [] ys = refl
joined_append (x ∷ xs) ys = ap (λ l. x ++ l) (joined_append xs ys) ∙ sym (append_assoc x (joined xs) (joined ys))

-- ---- reading line by line

folded : Option Begun → List Line → Option Begun
folded o [] = o
folded None (line ∷ lines) = None
folded (Some b) (line ∷ lines) = folded (with_line b line) lines

folded_none : (lines : List Line) → folded None lines ≡ None
unfolding folded
folded_none [] = refl
folded_none (line ∷ lines) = refl

folded_append : (o : Option Begun) (xs ys : List Line) → folded o (xs ++ ys) ≡ folded (folded o xs) ys
unfolding folded
folded_append o [] ys = refl
folded_append None (x ∷ xs) ys = sym (folded_none ys)
folded_append (Some b) (x ∷ xs) ys = folded_append (with_line b x) xs ys

-- ---- a line of a schedule is none of a thread

words_apart : (word : List ℕ) (threads : ℕ) (words : List (List ℕ)) (s : Schedule)
    → cond (bytes_eq word (codes "schedule")) (schedule_of threads words) None ≡ Some s → bytes_eq word (codes "thread") ≡ false
words_apart word threads words s e = by (bytes_eq word (codes "schedule")) refl e
  where
    by : (b : Bool) → bytes_eq word (codes "schedule") ≡ b → cond b (schedule_of threads words) None ≡ Some s → bytes_eq word (codes "thread") ≡ false
    by true p e = subst (λ w. bytes_eq w (codes "thread") ≡ false) (sym ((bytes_eq-Decides word (codes "schedule")).0 p)) refl
    by false p e = absurd (none_some e)

no_thread : (number threads : ℕ) (words : List (List ℕ)) (s : Schedule) → schedule_text threads words ≡ Some s → thread_by number words ≡ None
no_thread number threads [] s e = refl
no_thread number threads (word ∷ words) s e = rw (words_apart word threads words s e) refl

no_thread_in : (threads : ℕ) (line : Line) (s : Schedule) → schedule_in threads line ≡ Some s → thread_in line ≡ None
no_thread_in threads line s e = no_thread line.number threads line.words s e

-- ---- the lines of a run plan are read as it

pub threads_length : (lines : List Line) (threads : List ThreadLine) → AreThreadLines lines threads → length lines ≡ length threads
threads_length [] [] h = refl
threads_length [] (t ∷ threads) h = absurd h
threads_length (line ∷ lines) [] h = absurd h
threads_length (line ∷ lines) (t ∷ threads) h = let e = threads_length lines threads h.1 in grind (arith, e)

in_threads : List Case → List ThreadLine → Begun
in_threads cases threads = record { cases = cases; threads = Some threads }

between : List Case → Begun
between cases = record { cases = cases; threads = None }

thread_read : (cases : List Case) (done : List ThreadLine) (line : Line) (t : ThreadLine) → thread_in line ≡ Some t → length done < 8
    → with_line (in_threads cases done) line ≡ Some (in_threads cases (done ++ t ∷ []))
unfolding in_threads with_line
thread_read cases done line t e lt =
    ap (λ o. in_case cases done line o) e
    ∙ ap (λ b. cond b (Some (record { cases = cases; threads = Some (done ++ t ∷ []) })) None) (lt-ltb (length done) 8 lt)

threads_read : (cases : List Case) (done : List ThreadLine) (lines : List Line) (threads : List ThreadLine) → AreThreadLines lines threads → length done + length threads ≤ 8
    → folded (Some (in_threads cases done)) lines ≡ Some (in_threads cases (done ++ threads))
unfolding folded
threads_read cases done [] [] h lt = ap (λ l. Some (in_threads cases l)) (sym (append-nil done))
threads_read cases done [] (t ∷ threads) h lt = absurd h
threads_read cases done (line ∷ lines) [] h lt = absurd h
threads_read cases done (line ∷ lines) (t ∷ threads) h lt =
    let n = length-append done (t ∷ []) in
    ap (λ o. folded o lines) (thread_read cases done line t h.0 (omega (arith, lt)))
    ∙ threads_read cases (done ++ t ∷ []) lines threads h.1 (omega (arith, lt, n))
    ∙ ap (λ l. Some (in_threads cases l)) (append_assoc done (t ∷ []) threads)

opening_read : (cases : List Case) (line : Line) → is_case line ≡ true → length cases < 256 → with_line (between cases) line ≡ Some (in_threads cases [])
unfolding between in_threads with_line
opening_read cases line e lt =
    ap (λ b. cond b (with_case cases) None) e
    ∙ ap (λ b. cond b (Some (record { cases = cases; threads = Some [] })) None) (lt-ltb (length cases) 256 lt)

closing_read : (cases : List Case) (threads : List ThreadLine) (line : Line) (s : Schedule) → schedule_in (length threads) line ≡ Some s → 1 ≤ length threads
    → with_line (in_threads cases threads) line ≡ Some (between (cases ++ record { threads = threads; schedule = s } ∷ []))
unfolding in_threads between with_line
closing_read cases threads line s e le =
    ap (λ o. in_case cases threads line o) (no_thread_in (length threads) line s e)
    ∙ ap (λ o. with_schedule cases threads o) e
    ∙ ap (λ b. cond b (Some (record { cases = cases ++ record { threads = threads; schedule = s } ∷ []; threads = None })) None) (le-leb 1 (length threads) le)

case_read : (cases : List Case) (lines : List Line) (case : Case) → IsCaseText lines case → length cases < 256 → folded (Some (between cases)) lines ≡ Some (between (cases ++ case ∷ []))
unfolding folded
case_read cases lines case c lt =
    let n = threads_length c.threads case.threads c.threads_are in
    let few = c.few in
    let some = c.some in
    ap (λ l. folded (Some (between cases)) l) c.parts
    ∙ ap (λ o. folded o (c.threads ++ c.closes ∷ [])) (opening_read cases c.opens c.opens_is lt)
    ∙ folded_append (Some (in_threads cases [])) c.threads (c.closes ∷ [])
    ∙ ap (λ o. folded o (c.closes ∷ [])) (threads_read cases [] c.threads case.threads c.threads_are (omega (arith, few, n)))
    ∙ closing_read cases case.threads c.closes case.schedule (ap (λ k. schedule_in k c.closes) (sym n) ∙ c.closes_is) (omega (arith, some, n))

cases_read : (cases : List Case) (parts : List (List Line)) (more : List Case) → AreCaseTexts parts more → length cases + length parts ≤ 256
    → folded (Some (between cases)) (joined parts) ≡ Some (between (cases ++ more))
unfolding folded joined
cases_read cases [] [] h le = ap (λ l. Some (between l)) (sym (append-nil cases))
cases_read cases [] (case ∷ more) h le = absurd h
cases_read cases (lines ∷ parts) [] h le = absurd h
cases_read cases (lines ∷ parts) (case ∷ more) h le =
    let n = length-append cases (case ∷ []) in
    folded_append (Some (between cases)) lines (joined parts)
    ∙ ap (λ o. folded o (joined parts)) (case_read cases lines case h.0 (omega (arith, le)))
    ∙ cases_read (cases ++ case ∷ []) parts more h.1 (omega (arith, le, n))
    ∙ ap (λ l. Some (between l)) (append_assoc cases (case ∷ []) more)

lines_of_plan : (lines : List Line) (plan : RunPlan) → ArePlanLines lines plan → folded (Some (between [])) lines ≡ Some (between plan.cases)
unfolding joined
lines_of_plan lines plan p = ap (λ l. folded (Some (between [])) l) p.whole ∙ cases_read [] p.parts plan.cases p.cases (let few = p.few in omega (arith, few))

-- ---- what was read is the beginning of a run plan

-- the lines of a case that is begun, behind so many cases
record Opened (count : ℕ) (open_lines : List Line) (threads : List ThreadLine) : Type 0 where
  opens : Line
  others : List Line
  parts : open_lines ≡ opens ∷ others
  opens_is : is_case opens ≡ true
  threads_are : AreThreadLines others threads
  few : length threads ≤ 8
  room : count < 256

OpenedAs : ℕ → List Line → Option (List ThreadLine) → Type 0
OpenedAs count open_lines None = open_lines ≡ []
OpenedAs count open_lines (Some threads) = Opened count open_lines threads

record Reads (lines : List Line) (b : Begun) : Type 0 where
  parts : List (List Line)
  open_lines : List Line
  whole : lines ≡ joined parts ++ open_lines
  cases : AreCaseTexts parts b.cases
  few : length parts ≤ 256
  rest : OpenedAs (length parts) open_lines b.threads

pub cases_length : (parts : List (List Line)) (cases : List Case) → AreCaseTexts parts cases → length parts ≡ length cases
cases_length [] [] h = refl
cases_length [] (c ∷ cases) h = absurd h
cases_length (p ∷ parts) [] h = absurd h
cases_length (p ∷ parts) (c ∷ cases) h = let e = cases_length parts cases h.1 in grind (arith, e)

cases_push : (parts : List (List Line)) (cases : List Case) (lines : List Line) (case : Case) → AreCaseTexts parts cases → IsCaseText lines case
    → AreCaseTexts (parts ++ lines ∷ []) (cases ++ case ∷ [])
cases_push [] [] lines case h c = (c, tt)
cases_push [] (k ∷ cases) lines case h c = absurd h
cases_push (p ∷ parts) [] lines case h c = absurd h
cases_push (p ∷ parts) (k ∷ cases) lines case h c = (h.0, cases_push parts cases lines case h.1 c)

threads_push : (lines : List Line) (threads : List ThreadLine) (line : Line) (t : ThreadLine) → AreThreadLines lines threads
    → thread_in line ≡ Some t → AreThreadLines (lines ++ line ∷ []) (threads ++ t ∷ [])
threads_push [] [] line t h e = (e, tt)
threads_push [] (k ∷ threads) line t h e = absurd h
threads_push (l ∷ lines) [] line t h e = absurd h
threads_push (l ∷ lines) (k ∷ threads) line t h e = (h.0, threads_push lines threads line t h.1 e)

joined_push : (parts : List (List Line)) (lines : List Line) → joined (parts ++ lines ∷ []) ≡ joined parts ++ lines
unfolding joined
joined_push parts lines = joined_append parts (lines ∷ []) ∙ ap (λ l. joined parts ++ l) (append-nil lines)

opened : (lines : List Line) (cases : List Case) (line : Line) (b : Begun) → Reads lines (between cases) → with_line (between cases) line ≡ Some b → Reads (lines ++ line ∷ []) b
unfolding between OpenedAs with_line
opened lines cases line b r e =
    let p = chosen_case e in
    let q = chosen (nat_lt (length cases) 256) (record { cases = cases; threads = Some [] }) b p.1 in
    let lt = ltb-true (length cases) 256 q.0 in
    let n = cases_length r.parts cases r.cases in
    subst (λ x. Reads (lines ++ line ∷ []) x) q.1 (record {
      parts = r.parts;
      open_lines = line ∷ [];
      whole = ap (λ l. l ++ line ∷ []) (r.whole ∙ ap (λ l. joined r.parts ++ l) r.rest ∙ append-nil (joined r.parts));
      cases = r.cases;
      few = r.few;
      rest = record { opens = line; others = []; parts = refl; opens_is = p.0; threads_are = tt; few = omega arith; room = omega (arith, lt, n) };
    })
  where
    chosen_case : cond (is_case line) (with_case cases) None ≡ Some b → (is_case line ≡ true) × (with_case cases ≡ Some b)
    chosen_case = by (is_case line)
      where
        by : (t : Bool) → cond t (with_case cases) None ≡ Some b → (t ≡ true) × (with_case cases ≡ Some b)
        by true e = (refl, e)
        by false e = absurd (none_some e)

with_thread_read : (lines : List Line) (cases : List Case) (threads : List ThreadLine) (line : Line) (t : ThreadLine) (b : Begun) → Reads lines (in_threads cases threads) → thread_in line ≡ Some t
    → with_thread cases threads t ≡ Some b → Reads (lines ++ line ∷ []) b
unfolding in_threads OpenedAs
with_thread_read lines cases threads line t b r f e =
    let q = chosen (nat_lt (length threads) 8) (record { cases = cases; threads = Some (threads ++ t ∷ []) }) b e in
    let lt = ltb-true (length threads) 8 q.0 in
    let n = length-append threads (t ∷ []) in
    let o = r.rest in
    subst (λ x. Reads (lines ++ line ∷ []) x) q.1 (record {
      parts = r.parts;
      open_lines = r.open_lines ++ line ∷ [];
      whole = ap (λ l. l ++ line ∷ []) r.whole ∙ append_assoc (joined r.parts) r.open_lines (line ∷ []);
      cases = r.cases;
      few = r.few;
      rest = record {
        opens = o.opens;
        others = o.others ++ line ∷ [];
        parts = ap (λ l. l ++ line ∷ []) o.parts;
        opens_is = o.opens_is;
        threads_are =
            threads_push o.others threads line t o.threads_are f;
        few = omega (arith, lt, n);
        room = o.room;
      };
    })

closed : (cases : List Case) (threads : List ThreadLine) (line : Line) (s : Schedule) (count : ℕ) (open_lines : List Line)
    → Opened count open_lines threads → schedule_in (length threads) line ≡ Some s → 1 ≤ length threads
    → IsCaseText (open_lines ++ line ∷ []) (record { threads = threads; schedule = s })
closed cases threads line s count open_lines o f le =
    let n = threads_length o.others threads o.threads_are in
    let few = o.few in
    record {
      opens = o.opens;
      threads = o.others;
      closes = line;
      parts = ap (λ l. l ++ line ∷ []) o.parts;
      opens_is = o.opens_is;
      some = omega (arith, le, n);
      few = omega (arith, few, n);
      threads_are = o.threads_are;
      closes_is = ap (λ k. schedule_in k line) n ∙ f;
    }

with_schedule_read : (lines : List Line) (cases : List Case) (threads : List ThreadLine) (line : Line) (s : Option Schedule) (b : Begun)
    → Reads lines (in_threads cases threads) → schedule_in (length threads) line ≡ s
    → with_schedule cases threads s ≡ Some b → Reads (lines ++ line ∷ []) b
unfolding in_threads OpenedAs
with_schedule_read lines cases threads line None b r f e = absurd (none_some e)
with_schedule_read lines cases threads line (Some s) b r f e =
    let q = chosen (nat_le 1 (length threads)) (record { cases = cases ++ record { threads = threads; schedule = s } ∷ []; threads = None }) b e in
    let le = leb-true 1 (length threads) q.0 in
    let o = r.rest in
    let room = o.room in
    let n = length-append r.parts ((r.open_lines ++ line ∷ []) ∷ []) in
    subst (λ x. Reads (lines ++ line ∷ []) x) q.1 (record {
      parts = r.parts ++ (r.open_lines ++ line ∷ []) ∷ [];
      open_lines = [];
      whole = ap (λ l. l ++ line ∷ []) r.whole ∙ append_assoc (joined r.parts) r.open_lines (line ∷ [])
          ∙ sym (joined_push r.parts (r.open_lines ++ line ∷ [])) ∙ sym (append-nil (joined (r.parts ++ (r.open_lines ++ line ∷ []) ∷ [])));
      cases = cases_push r.parts cases (r.open_lines ++ line ∷ []) (record { threads = threads; schedule = s }) r.cases (closed cases threads line s (length r.parts) r.open_lines o f le);
      few = omega (arith, room, n);
      rest = refl;
    })

within : (lines : List Line) (cases : List Case) (threads : List ThreadLine) (line : Line) (t : Option ThreadLine) (b : Begun) → Reads lines (in_threads cases threads) → thread_in line ≡ t
    → in_case cases threads line t ≡ Some b → Reads (lines ++ line ∷ []) b
within lines cases threads line (Some t) b r f e = with_thread_read lines cases threads line t b r f e
within lines cases threads line None b r f e = with_schedule_read lines cases threads line (schedule_in (length threads) line) b r refl e

line_read : (lines : List Line) (cases : List Case) (threads : Option (List ThreadLine)) (line : Line) (b : Begun) → Reads lines (record { cases = cases; threads = threads })
    → with_line (record { cases = cases; threads = threads }) line ≡ Some b → Reads (lines ++ line ∷ []) b
unfolding between in_threads with_line
line_read lines cases None line b r e = opened lines cases line b r e
line_read lines cases (Some threads) line b r e = within lines cases threads line (thread_in line) b r refl e

lines_read : (before : List Line) (b : Begun) (lines : List Line) (c : Begun) → Reads before b → folded (Some b) lines ≡ Some c → Reads (before ++ lines) c
unfolding folded
lines_read before b [] c r e = subst (λ l. Reads l c) (sym (append-nil before)) (subst (λ x. Reads before x) (same_Some b c e) r)
lines_read before b (line ∷ lines) c r e = by (λ d q g. lines_read (before ++ line ∷ []) d lines c q g) (with_line b line) refl e
  where
    by : ((d : Begun) → Reads (before ++ line ∷ []) d → folded (Some d) lines ≡ Some c → Reads ((before ++ line ∷ []) ++ lines) c)
        → (o : Option Begun) → with_line b line ≡ o → folded o lines ≡ Some c → Reads (before ++ line ∷ lines) c
    by again None f g = absurd (none_some (sym (folded_none lines) ∙ g))
    by again (Some d) f g = subst (λ l. Reads l c) (append_assoc before (line ∷ []) lines) (again d (line_read before b.cases b.threads line d r f) g)

nothing_reads : Reads [] (between [])
unfolding between OpenedAs joined
nothing_reads = record { parts = []; open_lines = []; whole = refl; cases = tt; few = omega arith; rest = refl }

all_read : (lines : List Line) (b : Begun) → folded (Some (between [])) lines ≡ Some b → Reads lines b
all_read lines b e = lines_read [] (between []) lines b nothing_reads e

-- ---- what was read can be completed

case_line : Line
case_line = record { number = 0; words = codes "case" ∷ [] }

thread_line : Line
thread_line = record { number = 0; words = codes "thread" ∷ codes "A.f" ∷ [] }

schedule_line : Line
schedule_line = record { number = 0; words = codes "schedule" ∷ codes "robin" ∷ codes "0" ∷ [] }

some_thread : ThreadLine
some_thread = record { class = codes "A"; method = codes "f"; args = []; line = 0 }

thread_line_is : thread_in thread_line ≡ Some some_thread
unfolding thread_line some_thread named_in
thread_line_is = refl

schedule_line_is : (threads : ℕ) → schedule_in threads schedule_line ≡ Some (schedules.Robin 0)
unfolding schedule_line
schedule_line_is threads = refl

-- at least one thread, and the schedule
record Completed (threads : List ThreadLine) : Type 0 where
  more : List Line
  added : List ThreadLine
  are : AreThreadLines more added
  some : 1 ≤ length (threads ++ added)
  few : length (threads ++ added) ≤ 8

completed : (threads : List ThreadLine) → length threads ≤ 8 → Completed threads
completed [] le = record { more = thread_line ∷ []; added = some_thread ∷ []; are = (thread_line_is, tt); some = omega arith; few = omega arith }
completed (t ∷ threads) le = let n = length-append threads [] in record { more = []; added = []; are = tt; some = omega arith; few = omega (arith, le, n) }

threads_join : (xs ys : List Line) (ts us : List ThreadLine) → AreThreadLines xs ts → AreThreadLines ys us → AreThreadLines (xs ++ ys) (ts ++ us)
threads_join [] ys [] us h g = g
threads_join [] ys (t ∷ ts) us h g = absurd h
threads_join (x ∷ xs) ys [] us h g = absurd h
threads_join (x ∷ xs) ys (t ∷ ts) us h g = (h.0, threads_join xs ys ts us h.1 g)

-- a case that is begun, with what completes it
whole_case : (count : ℕ) (open_lines : List Line) (threads : List ThreadLine) → Opened count open_lines threads
    → (more : List Line) × (case : Case) × IsCaseText (open_lines ++ more) case
whole_case count open_lines threads o =
    let c = completed threads o.few in
    let are = threads_join o.others c.more threads c.added o.threads_are c.are in
    let n = threads_length (o.others ++ c.more) (threads ++ c.added) are in
    let some = c.some in
    let few = c.few in (
      c.more ++ schedule_line ∷ [],
      record { threads = threads ++ c.added; schedule = schedules.Robin 0 },
      record {
        opens = o.opens;
        threads = o.others ++ c.more;
        closes = schedule_line;
        parts = ap (λ l. l ++ (c.more ++ schedule_line ∷ [])) o.parts ∙ ap (λ l. o.opens ∷ l) (sym (append_assoc o.others c.more (schedule_line ∷ [])));
        opens_is = o.opens_is;
        some = omega (arith, some, n);
        few = omega (arith, few, n);
        threads_are = are;
        closes_is = schedule_line_is (length (o.others ++ c.more));
      },
    )

begins_with : (lines : List Line) (parts : List (List Line)) (cases : List Case) (open_lines more : List Line) (case : Case) → lines ≡ joined parts
    ++ open_lines → AreCaseTexts parts cases → length parts < 256
    → IsCaseText (open_lines ++ more) case → BeginAPlan lines
unfolding joined
begins_with lines parts cases open_lines more case w h lt c = let n = length-append parts ((open_lines ++ more) ∷ []) in (
  more,
  record { cases = cases ++ case ∷ [] },
  record {
    parts = parts ++ (open_lines ++ more) ∷ [];
    whole = ap (λ l. l ++ more) w ∙ append_assoc (joined parts) open_lines more ∙ sym (joined_push parts (open_lines ++ more));
    some = omega (arith, n);
    few = omega (arith, n, lt);
    cases = cases_push parts cases (open_lines ++ more) case h c;
  },
)

first_case : Opened 0 (case_line ∷ []) []
unfolding case_line
first_case = record { opens = case_line; others = []; parts = refl; opens_is = refl; threads_are = tt; few = omega arith; room = omega arith }

begins_between : (lines : List Line) (parts : List (List Line)) (cases : List Case) → lines ≡ joined parts ++ [] → AreCaseTexts parts cases → length parts ≤ 256 → BeginAPlan lines
unfolding joined
begins_between lines [] cases w h le = let c = whole_case 0 (case_line ∷ []) [] first_case in begins_with lines [] cases [] (case_line ∷ c.0) c.1 w h (omega arith) c.2
begins_between lines (p ∷ parts) cases w h le = (
  [],
  record { cases = cases },
  record {
    parts = p ∷ parts;
    whole = append-nil lines ∙ w ∙ append-nil (joined (p ∷ parts));
    some = omega arith;
    few = le;
    cases = h;
  },
)

begins : (lines : List Line) (cases : List Case) (threads : Option (List ThreadLine)) → Reads lines (record { cases = cases; threads = threads }) → BeginAPlan lines
unfolding OpenedAs
begins lines cases None r = begins_between lines r.parts cases (r.whole ∙ ap (λ l. joined r.parts ++ l) r.rest) r.cases r.few
begins lines cases (Some threads) r = let c = whole_case (length r.parts) r.open_lines threads r.rest in begins_with lines r.parts cases r.open_lines c.0 c.1 r.whole r.cases (r.rest).room c.2

-- ---- what reading gives

-- a run plan's lines are read to their end
no_plan_stuck : (before : List Line) (b : Begun) (line : Line) → folded (Some (between [])) before ≡ Some b → with_line b line ≡ None → BeginAPlan (before ++ line ∷ []) → ⊥
unfolding folded
no_plan_stuck before b line e f p =
    let more = p.0 in
    let whole = lines_of_plan ((before ++ line ∷ []) ++ more) p.1 p.2 in
    none_some (sym (
    folded_append (Some (between [])) (before ++ line ∷ []) more
    ∙ ap (λ o. folded o more) (folded_append (Some (between [])) before (line ∷ []) ∙ ap (λ o. folded o (line ∷ [])) e ∙ f)
    ∙ folded_none more) ∙ whole)

-- reading from the middle: what was read before, and the lines that are left, of which the first has this number
record Middle (text : List ℕ) (before : List Line) (b : Begun) (number : ℕ) (lines : List (List ℕ)) : Type 0 where
  whole : numbered_lines text ≡ before ++ numbered_from number lines
  read : folded (Some (between [])) before ≡ Some b
  count : length (lines_of text) + 1 ≡ number + length lines

-- the answers of reading are right
Right : List ℕ → PlanRead → Type 0
Right text (plan_is plan) = IsPlanText text plan
Right text (unfit_at number) = FirstUnfit text number

plan_of : (lines : List Line) (cases : List Case) → Reads lines (between cases) → 1 ≤ length cases → ArePlanLines lines (record { cases = cases })
unfolding between OpenedAs joined
plan_of lines cases r le = let n = cases_length r.parts cases r.cases in record {
  parts = r.parts;
  whole = r.whole ∙ ap (λ l. joined r.parts ++ l) r.rest ∙ append-nil (joined r.parts);
  some = omega (arith, le, n);
  few = r.few;
  cases = r.cases;
}

no_plan_ends : (lines : List Line) (cases : List Case) (threads : Option (List ThreadLine)) (plan : RunPlan)
    → folded (Some (between [])) lines ≡ Some (record { cases = cases; threads = threads }) → ArePlanLines lines plan
    → (threads ≡ None) × (1 ≤ length cases)
unfolding between
no_plan_ends lines cases threads plan e p =
    let q = same_Some (record { cases = cases; threads = threads }) (record { cases = plan.cases; threads = None }) (sym e ∙ lines_of_plan lines plan p) in
    let n = cases_length p.parts plan.cases p.cases in
    let some = p.some in
    (ap (λ (x : Begun). x.threads) q, subst (λ c. 1 ≤ length c) (sym (ap (λ (x : Begun). x.cases) q)) (omega (arith, some, n)))

ends_right : (text : List ℕ) (cases : List Case) (threads : Option (List ThreadLine)) → folded (Some (between [])) (numbered_lines text) ≡ Some (record { cases = cases; threads = threads })
    → Right text (ended_in (length (lines_of text) + 1) cases threads)
unfolding Right between
ends_right text cases (Some threads) e = inr (record {
  begun = begins (numbered_lines text) cases (Some threads) (all_read (numbered_lines text) (record { cases = cases; threads = Some threads }) e);
  no_plan = λ plan p. none_some (sym (no_plan_ends (numbered_lines text) cases (Some threads) plan e p).0);
  number_is = refl;
})
ends_right text cases None e = by (nat_le 1 (length cases)) refl
  where
    by : (t : Bool) → nat_le 1 (length cases) ≡ t → Right text (cond t (plan_is (record { cases = cases })) (unfit_at (length (lines_of text) + 1)))
    by true f = plan_of (numbered_lines text) cases (all_read (numbered_lines text) (record { cases = cases; threads = None }) e) (leb-true 1 (length cases) f)
    by false f = inr (record {
      begun = begins (numbered_lines text) cases None (all_read (numbered_lines text) (record { cases = cases; threads = None }) e);
      no_plan = λ plan p. false≢true (sym f ∙ le-leb 1 (length cases) (no_plan_ends (numbered_lines text) cases None plan e p).1);
      number_is = refl;
    })

-- behind the line that is read next
middle_next : (text : List ℕ) (before : List Line) (b : Begun) (number : ℕ) (words : List (List ℕ)) (line : List ℕ) (lines : List (List ℕ)) (t : Bool) → words_of line ≡ words → is_skipped words ≡ t
    → Middle text before b number (line ∷ lines)
    → (o : Option Begun) → cond t (Some b) (with_line b (record { number = number; words = words })) ≡ o
    → ((after : List Line) (c : Begun) → Middle text after c (number + 1) lines → Right text (read_from c (number + 1) lines))
    → Right text (read_on (λ c. read_from c (number + 1) lines) number o)
unfolding Right folded
middle_next text before b number words line lines true f g m None e again = absurd (none_some (sym e))
middle_next text before b number words line lines true f g m (Some c) e again = again before c (record {
  whole = m.whole ∙ ap (λ l. before ++ l) (ap (λ w. line_before number w (numbered_from (number + 1) lines)) f
      ∙ ap (λ u. cond u (numbered_from (number + 1) lines) (record { number = number; words = words } ∷ numbered_from (number + 1) lines)) g);
  read = m.read ∙ e;
  count = let n = m.count in omega (arith, n);
})
middle_next text before b number words line lines false f g m None e again = inl (record {
  before = before;
  line = record { number = number; words = words };
  behind = numbered_from (number + 1) lines;
  parts = m.whole ∙ ap (λ l. before ++ l) (ap (λ w. line_before number w (numbered_from (number + 1) lines)) f
      ∙ ap (λ u. cond u (numbered_from (number + 1) lines) (record { number = number; words = words } ∷ numbered_from (number + 1) lines)) g);
  number_is = refl;
  begun = begins before b.cases b.threads (all_read before b m.read);
  unfit = no_plan_stuck before b (record { number = number; words = words }) m.read e;
})
middle_next text before b number words line lines false f g m (Some c) e again = again (before ++ record { number = number; words = words } ∷ []) c (record {
  whole = m.whole ∙ ap (λ l. before ++ l) (ap (λ w. line_before number w (numbered_from (number + 1) lines)) f
      ∙ ap (λ u. cond u (numbered_from (number + 1) lines) (record { number = number; words = words } ∷ numbered_from (number + 1) lines)) g)
      ∙ sym (append_assoc before (record { number = number; words = words } ∷ []) (numbered_from (number + 1) lines));
  read = folded_append (Some (between [])) before (record { number = number; words = words } ∷ []) ∙ ap (λ o. folded o (record { number = number; words = words } ∷ [])) m.read ∙ e;
  count = let n = m.count in omega (arith, n);
})

reading_right : (text : List ℕ) (before : List Line) (b : Begun) (number : ℕ) (lines : List (List ℕ)) → Middle text before b number lines → Right text (read_from b number lines)
unfolding folded
reading_right text before b number [] m =
    let n = m.count in
    let count : length (lines_of text) + 1 ≡ number = omega (arith, n) in
    subst (λ k. Right text (ended_in k b.cases b.threads)) count (ends_right text b.cases b.threads (ap (λ l. folded (Some (between [])) l) (m.whole ∙ append-nil before) ∙ m.read))
reading_right text before b number (line ∷ lines) m =
    middle_next text before b number (words_of line) line lines (is_skipped (words_of line)) refl refl m (with_words b number (words_of line)) refl
    (λ after c n. reading_right text after c (number + 1) lines n)

read_right : (text : List ℕ) → Right text (plan_read text)
unfolding between folded
read_right text = reading_right text [] (between []) 1 (lines_of text) (record { whole = refl; read = refl; count = omega arith })

pub plans_are_read : (text : List ℕ) (plan : RunPlan) → plan_read text ≡ plan_is plan → IsPlanText text plan
unfolding Right
plans_are_read text plan e = subst (Right text) e (read_right text)

pub unfit_lines_are_found : (text : List ℕ) (number : ℕ) → plan_read text ≡ unfit_at number → FirstUnfit text number
unfolding Right
unfit_lines_are_found text number e = subst (Right text) e (read_right text)

-- ---- one answer to each text

-- what begins with lines that begin a run plan
prefix_begins : (lines more : List Line) → BeginAPlan (lines ++ more) → BeginAPlan lines
prefix_begins lines more p = (more ++ p.0, p.1, subst (λ l. ArePlanLines l p.1) (append_assoc lines more p.0) p.2)

pub no_unfit_plan : (text : List ℕ) (plan : RunPlan) (number : ℕ) → IsPlanText text plan → FirstUnfit text number → ⊥
no_unfit_plan text plan number p (inl u) = u.unfit (u.behind, plan, subst (λ l. ArePlanLines l plan) (u.parts ∙ sym (append_assoc u.before (u.line ∷ []) u.behind)) p)
no_unfit_plan text plan number p (inr e) = e.no_plan plan p

pub one_plan : (lines : List Line) (a b : RunPlan) → ArePlanLines lines a → ArePlanLines lines b → a ≡ b
unfolding between
one_plan lines a b p q =
    let e = same_Some (record { cases = a.cases; threads = None }) (record { cases = b.cases; threads = None }) (sym (lines_of_plan lines a p) ∙ lines_of_plan lines b q) in
    ap (λ (x : Begun). record { cases = x.cases }) e

pub plans_are_read_again : (text : List ℕ) (plan : RunPlan) → IsPlanText text plan → plan_read text ≡ plan_is plan
unfolding Right
plans_are_read_again text plan p = by (plan_read text) (read_right text)
  where
    by : (r : PlanRead) → Right text r → r ≡ plan_is plan
    by (plan_is q) right = ap plan_is (one_plan (numbered_lines text) q plan right p)
    by (unfit_at number) right = absurd (no_unfit_plan text plan number p right)

head_is : (x y : Line) (xs ys : List Line) → x ∷ xs ≡ y ∷ ys → x ≡ y
head_is x y xs ys e = cc

tail_is : (x y : Line) (xs ys : List Line) → x ∷ xs ≡ y ∷ ys → xs ≡ ys
tail_is x y xs ys e = cc

-- of two places in a list, the one stands before the other, or they are one
places : (a b c d : List Line) (x y : Line) → a ++ x ∷ b ≡ c ++ y ∷ d → ((m : List Line) × (c ≡ a ++ x ∷ m)) ⊎ (((m : List Line) × (a ≡ c ++ y ∷ m)) ⊎ (x ≡ y))
places [] b [] d x y e = inr (inr (head_is x y b d e))
places [] b (z ∷ c) d x y e = inl (c, ap (λ l. l ∷ c) (sym (head_is x z b (c ++ y ∷ d) e)))
places (z ∷ a) b [] d x y e = inr (inl (a, ap (λ l. l ∷ a) (head_is z y (a ++ x ∷ b) d e)))
places (z ∷ a) b (w ∷ c) d x y e =
    ⊎_elim (λ p. inl (p.0, ap (λ l. w ∷ l) p.1 ∙ ap (λ l. l ∷ (a ++ x ∷ p.0)) (sym h)))
    (λ o. inr (⊎_elim (λ p. inl (p.0, ap (λ l. z ∷ l) p.1 ∙ ap (λ l. l ∷ (c ++ y ∷ p.0)) h)) (λ q. inr q) o))
    (places a b c d x y (tail_is z w (a ++ x ∷ b) (c ++ y ∷ d) e))
  where
    h : z ≡ w
    h = head_is z w (a ++ x ∷ b) (c ++ y ∷ d) e

before_other : (before other m : List Line) (line : Line) → other ≡ before ++ line ∷ m → BeginAPlan other → BeginAPlan (before ++ line ∷ [])
before_other before other m line e p = prefix_begins (before ++ line ∷ []) m (subst BeginAPlan (e ∙ sym (append_assoc before (line ∷ []) m)) p)

one_unfit : (lines : List Line) (n k : ℕ) → IsUnfitLine lines n → IsUnfitLine lines k → n ≡ k
one_unfit lines n k u v =
    ⊎_elim (λ p. absurd (u.unfit (before_other u.before v.before p.0 u.line p.1 v.begun)))
    (λ o. ⊎_elim (λ p. absurd (v.unfit (before_other v.before u.before p.0 v.line p.1 u.begun))) (λ e. sym u.number_is ∙ ap (λ (l : Line). l.number) e ∙ v.number_is) o)
    (places u.before u.behind v.before v.behind u.line v.line (sym u.parts ∙ v.parts))

no_early_unfit : (text : List ℕ) (n k : ℕ) → IsUnfitLine (numbered_lines text) n → EndsEarly text k → ⊥
no_early_unfit text n k u e = u.unfit (prefix_begins (u.before ++ u.line ∷ []) u.behind (subst BeginAPlan (u.parts ∙ sym (append_assoc u.before (u.line ∷ []) u.behind)) e.begun))

pub one_first_unfit : (text : List ℕ) (n k : ℕ) → FirstUnfit text n → FirstUnfit text k → n ≡ k
one_first_unfit text n k (inl u) (inl v) = one_unfit (numbered_lines text) n k u v
one_first_unfit text n k (inl u) (inr e) = absurd (no_early_unfit text n k u e)
one_first_unfit text n k (inr e) (inl u) = absurd (no_early_unfit text k n u e)
one_first_unfit text n k (inr e) (inr f) = e.number_is ∙ sym f.number_is

pub unfit_lines_are_found_again : (text : List ℕ) (number : ℕ) → FirstUnfit text number → plan_read text ≡ unfit_at number
unfolding Right
unfit_lines_are_found_again text number u = by (plan_read text) (read_right text)
  where
    by : (r : PlanRead) → Right text r → r ≡ unfit_at number
    by (plan_is q) right = absurd (no_unfit_plan text q number right u)
    by (unfit_at k) right = ap unfit_at (one_first_unfit text k number right u)

-- ---- an answer to each text

pub each_text : (text : List ℕ) → ((plan : RunPlan) × IsPlanText text plan) ⊎ ((line : ℕ) × FirstUnfit text line)
unfolding Right
each_text text = by (plan_read text) (read_right text)
  where
    by : (r : PlanRead) → Right text r → ((plan : RunPlan) × IsPlanText text plan) ⊎ ((line : ℕ) × FirstUnfit text line)
    by (plan_is plan) right = inl (plan, right)
    by (unfit_at line) right = inr (line, right)
