-- What is begun with a line of a run plan, by its first word, and what each schedule keeps.
use Rattle.std.proofs.Common.{◌≡◌, ℕ, ◌<◌, ◌≤◌, Bool, true, false, cond, List, [], ◌∷◌, length, Option, Some, None, Result, All, codes, bytes_eq, nat_lt, nat_le, refl, sym, ap, ◌∙◌, subst}
use Rattle.std.proofs.lemmas.Bool.{ltb-true, leb-true}
use Rattle.std.proofs.lemmas.List.Elements.{All-nil, All-cons}
use Rattle.std.proofs.lemmas.Option.{same_Some}
use Rattle.jc_bytes.specs.declared.fail.Fail.{Fail}
use Rattle.jc_bytes.specs.declared.fail.Unfit.{Unfit}
use Rattle.jc_bytes.proofs.OptionLaws.{none_some}
use Rattle.jc_programs.specs.Turns.{AreThreads, turn_count, IsCase, IsRunPlan}
use Rattle.jc_programs.specs.declared.run_plan.ThreadLine.{ThreadLine}
use Rattle.jc_programs.specs.declared.run_plan.Schedule.{Schedule}
use Rattle.jc_programs.specs.declared.run_plan.Schedule.TheVariants as schedules
use Rattle.jc_programs.specs.declared.run_plan.Case.{Case}
use Rattle.jc_programs.specs.declared.run_plan.RunPlan.{RunPlan}
use Rattle.jc_run_plans.specs.declared.begun.Begun.{Begun}
use Rattle.jc_run_plans.specs.PlanWords.{Line, is_comment, decimal_in, decimal_up_to, up_to}
use Rattle.jc_run_plans.specs.Plans.{thread_by, with_item, one_of, thread_number, turns_in, most_turns, few_turns, listed_in, robin_with, robin_in, seeded, seed_in, schedule_of, schedule_text, IsCaseText, AreCaseTexts, ArePlanLines}
use Rattle.jc_run_plans.specs.PlanReading.{Gives, opening, in_case, with_line, with_words}
use Rattle.jc_run_plans.proofs.PlanLaws.{threads_length, cases_length}

-- ---- lines by their first word

pub empty_line_kept : (b : Begun) (number : ℕ) (words : List (List ℕ)) → words ≡ [] → with_words b number words ≡ Some b
empty_line_kept b number words e = ap (with_words b number) e

pub comment_kept : (b : Begun) (number : ℕ) (words more : List (List ℕ)) (word : List ℕ) → words ≡ word ∷ more → is_comment word ≡ true → with_words b number words ≡ Some b
comment_kept b number words more word e f = ap (with_words b number) e ∙ ap (λ t. cond t (Some b) (with_line b (record { number = number; words = word ∷ more }))) f

line_taken : (b : Begun) (number : ℕ) (words more : List (List ℕ)) (word : List ℕ) → words ≡ word ∷ more → is_comment word ≡ false
    → with_words b number words ≡ with_line b (record { number = number; words = word ∷ more })
line_taken b number words more word e f = ap (with_words b number) e ∙ ap (λ t. cond t (Some b) (with_line b (record { number = number; words = word ∷ more }))) f

pub opening_gives : (r : Result Begun (Fail Unfit)) (b : Begun) (number : ℕ) (words more : List (List ℕ)) (word : List ℕ) → words ≡ word ∷ more → is_comment word ≡ false → b.threads ≡ None
    → Gives r (opening b.cases (word ∷ more)) → Gives r (with_words b number words)
unfolding with_line
opening_gives r b number words more word e f none g = subst (Gives r) (sym (by b.threads none) ∙ sym (line_taken b number words more word e f)) g
  where
    by : (threads : Option (List ThreadLine)) → threads ≡ None → with_line (record { cases = b.cases; threads = threads })
        (record { number = number; words = word ∷ more }) ≡ opening b.cases (word ∷ more)
    by threads n = ap (λ o. with_line (record { cases = b.cases; threads = o }) (record { number = number; words = word ∷ more })) n

pub case_gives : (r : Result Begun (Fail Unfit)) (b : Begun) (threads : List ThreadLine) (number : ℕ) (words more : List (List ℕ)) (word : List ℕ)
    → words ≡ word ∷ more → is_comment word ≡ false → b.threads ≡ Some threads
    → Gives r (in_case b.cases threads (record { number = number; words = word ∷ more }) (thread_by number (word ∷ more))) → Gives r (with_words b number words)
unfolding with_line
case_gives r b threads number words more word e f some g = subst (Gives r) (sym (by b.threads some) ∙ sym (line_taken b number words more word e f)) g
  where
    by : (o : Option (List ThreadLine)) → o ≡ Some threads → with_line (record { cases = b.cases; threads = o }) (record { number = number; words = word ∷ more })
        ≡ in_case b.cases threads (record { number = number; words = word ∷ more }) (thread_by number (word ∷ more))
    by o n = ap (λ x. with_line (record { cases = b.cases; threads = x }) (record { number = number; words = word ∷ more })) n

-- ---- schedules

-- the turns are of the threads, and few enough
record Keeps (threads : ℕ) (s : Schedule) : Type 0 where
  are : AreThreads threads s
  few : turn_count s ≤ most_turns

one_is : (threads t : ℕ) (o : Option ℕ) → one_of threads o ≡ Some t → t < threads
one_is threads t None e = absurd (none_some e)
one_is threads t (Some n) e = by (nat_lt n threads) refl e
  where
    by : (b : Bool) → nat_lt n threads ≡ b → cond b (Some n) None ≡ Some t → t < threads
    by true f g = subst (λ k. k < threads) (same_Some n t g) (ltb-true n threads f)
    by false f g = absurd (none_some g)

turns_are : (threads : ℕ) (words : List (List ℕ)) (turns : List ℕ) → turns_in threads words ≡ Some turns → All (λ t. t < threads) turns
turns_are threads [] turns e = subst (All (λ t. t < threads)) (same_Some [] turns e) (All-nil (λ t. t < threads))
turns_are threads (word ∷ words) turns e = by (thread_number threads word) (turns_in threads words) refl refl (λ more f. turns_are threads words more f) e
  where
    by : (o : Option ℕ) (p : Option (List ℕ)) → thread_number threads word ≡ o → turns_in threads words ≡ p → ((more : List ℕ) → turns_in threads words ≡ Some more → All (λ t. t < threads) more)
        → with_item o p ≡ Some turns → All (λ t. t < threads) turns
    by None p f g again h = absurd (none_some h)
    by (Some t) None f g again h = absurd (none_some h)
    by (Some t) (Some more) f g again h = subst (All (λ t. t < threads)) (same_Some (t ∷ more) turns h) (All-cons (λ t. t < threads) t more (one_is threads t (decimal_in word) f) (again more g))

listed_keeps : (threads : ℕ) (o : Option (List ℕ)) (s : Schedule) → ((turns : List ℕ) → o ≡ Some turns → All (λ t. t < threads) turns) → listed_in (few_turns o) ≡ Some s → Keeps threads s
listed_keeps threads None s all e = absurd (none_some e)
listed_keeps threads (Some turns) s all e = by (nat_le (length turns) most_turns) refl e
  where
    by : (b : Bool) → nat_le (length turns) most_turns ≡ b → listed_in (cond b (Some turns) None) ≡ Some s → Keeps threads s
    by true f g = subst (Keeps threads) (same_Some (schedules.Listed turns) s g) (record { are = all turns refl; few = leb-true (length turns) most_turns f })
    by false f g = absurd (none_some g)

up_to_keeps : (most n : ℕ) (o : Option ℕ) → up_to most o ≡ Some n → n ≤ most
up_to_keeps most n None e = absurd (none_some e)
up_to_keeps most n (Some k) e = by (nat_le k most) refl e
  where
    by : (b : Bool) → nat_le k most ≡ b → cond b (Some k) None ≡ Some n → n ≤ most
    by true f g = subst (λ m. m ≤ most) (same_Some k n g) (leb-true k most f)
    by false f g = absurd (none_some g)

robin_keeps : (threads : ℕ) (words : List (List ℕ)) (s : Schedule) → robin_in words ≡ Some s → Keeps threads s
robin_keeps threads [] s e = absurd (none_some e)
robin_keeps threads (n ∷ []) s e = by (decimal_up_to most_turns n) refl e
  where
    by : (o : Option ℕ) → decimal_up_to most_turns n ≡ o → robin_with o ≡ Some s → Keeps threads s
    by None f g = absurd (none_some g)
    by (Some turns) f g = subst (Keeps threads) (same_Some (schedules.Robin turns) s g) (record { are = tt; few = up_to_keeps most_turns turns (decimal_in n) f })
robin_keeps threads (n ∷ m ∷ words) s e = absurd (none_some e)

seed_keeps : (threads : ℕ) (words : List (List ℕ)) (s : Schedule) → seed_in words ≡ Some s → Keeps threads s
seed_keeps threads [] s e = absurd (none_some e)
seed_keeps threads (n ∷ []) s e = absurd (none_some e)
seed_keeps threads (x ∷ n ∷ []) s e = by (decimal_up_to 18446744073709551615 x) (decimal_up_to most_turns n) refl e
  where
    by : (p o : Option ℕ) → decimal_up_to most_turns n ≡ o → seeded p o ≡ Some s → Keeps threads s
    by None o f g = absurd (none_some g)
    by (Some seed) None f g = absurd (none_some g)
    by (Some seed) (Some turns) f g = subst (Keeps threads) (same_Some (schedules.Seeded seed turns) s g) (record { are = tt; few = up_to_keeps most_turns turns (decimal_in n) f })
seed_keeps threads (x ∷ n ∷ m ∷ words) s e = absurd (none_some e)

schedule_keeps : (threads : ℕ) (words : List (List ℕ)) (s : Schedule) → schedule_of threads words ≡ Some s → Keeps threads s
schedule_keeps threads [] s e = absurd (none_some e)
schedule_keeps threads (how ∷ words) s e = by (bytes_eq how (codes "list")) (bytes_eq how (codes "robin")) (bytes_eq how (codes "seed")) e
  where
    by : (a b c : Bool) → cond a (listed_in (few_turns (turns_in threads words))) (cond b (robin_in words) (cond c (seed_in words) None)) ≡ Some s → Keeps threads s
    by true b c e = listed_keeps threads (turns_in threads words) s (turns_are threads words) e
    by false true c e = robin_keeps threads words s e
    by false false true e = seed_keeps threads words s e
    by false false false e = absurd (none_some e)

text_keeps : (threads : ℕ) (words : List (List ℕ)) (s : Schedule) → schedule_text threads words ≡ Some s → Keeps threads s
text_keeps threads [] s e = absurd (none_some e)
text_keeps threads (word ∷ words) s e = by (bytes_eq word (codes "schedule")) e
  where
    by : (a : Bool) → cond a (schedule_of threads words) None ≡ Some s → Keeps threads s
    by true e = schedule_keeps threads words s e
    by false e = absurd (none_some e)

-- ---- run plans

case_fits : (lines : List Line) (case : Case) → IsCaseText lines case → IsCase case
case_fits lines case c =
    let n = threads_length c.threads case.threads c.threads_are in
    let k = subst (λ m. Keeps m case.schedule) n (text_keeps (length c.threads) (c.closes).words case.schedule c.closes_is) in
    record { some = subst (λ m. 1 ≤ m) n c.some; few = subst (λ m. m ≤ 8) n c.few; threads = k.are; turns = k.few }

cases_fit : (parts : List (List Line)) (cases : List Case) → AreCaseTexts parts cases → All IsCase cases
cases_fit [] [] h = All-nil IsCase
cases_fit [] (c ∷ cases) h = absurd h
cases_fit (p ∷ parts) [] h = absurd h
cases_fit (p ∷ parts) (c ∷ cases) h = All-cons IsCase c cases (case_fits p c h.0) (cases_fit parts cases h.1)

pub plan_fits : (lines : List Line) (plan : RunPlan) → ArePlanLines lines plan → IsRunPlan plan
plan_fits lines plan p =
    let n = cases_length p.parts plan.cases p.cases in
    record { some = subst (λ m. 1 ≤ m) n p.some; few = subst (λ m. m ≤ 256) n p.few; cases = cases_fit p.parts plan.cases p.cases }
