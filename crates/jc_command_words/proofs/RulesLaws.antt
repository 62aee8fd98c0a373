-- Texts of rules, decided part by part.
use Rattle.std.proofs.Common.{◌≡◌, ◌∙◌, ap, ap₂, sym, subst, refl, ℕ, ◌+◌, ◌<◌, ◌≤◌, Bool, true, false, not, ◌==◌, ◌||◌, cond, nat_eq, nat_le, nat_lt}
use Rattle.std.proofs.Common.{if◌then◌else◌, List, [], ◌∷◌, ◌++◌, length, take, drop, map, Option, Some, None, is_some, codes, arith, inl, inr, true≢false, append_assoc, length-append, Vec, Bor, option_map, MatchBool, IfOk, Result, Ok, Err}
use Rattle.std.specs.declared.alloc.Global.{Global}
use Rattle.std.proofs.Math.Seq.{take-append_seam, drop-append-add}
use Rattle.std.proofs.lemmas.Bool.{and_parts, lt-ltb, not-true}
use Rattle.std.proofs.lemmas.Bool.Decides.{Decides-eqb, nat_tests}
use Rattle.std.proofs.lemmas.List.{map-append}
use Rattle.std.proofs.lemmas.List.Elements.{All-nil, All-cons, All-from_get_or}
use Rattle.std.proofs.lemmas.List.Folds.{list_any-append}
use Rattle.std.proofs.lemmas.List.Splits.{slice_split_at, slice_split_first, slice_split_none, length-slice_split, join_with_byte-slice_split}
use Rattle.std.proofs.lemmas.List.Sums.{split_at_first, passes_at_first, fails_before_first}
use Rattle.std.proofs.lemmas.Option.{same_Some}
use Rattle.std.proofs.lemmas.Slice.Eq.{bytes_eq-Decides}
use Rattle.std.specs.List.{after_first, before_first, count_by, list_any, list_all, position_or_len, slice_split, join_with_byte, All}
use Rattle.std.specs.Str.{bytes_eq}
use Rattle.jc_bytes.specs.Digits.{is_digit}
use Rattle.jc_bytes.specs.declared.fail.Memory.{Memory}
use Rattle.jc_rules.specs.declared.rule.CounterKind.{CounterKind}
use Rattle.jc_rules.specs.declared.rule.CounterKind.TheVariants.{Instruction, Branch, Line, Complexity, Method, Class}
use Rattle.jc_rules.specs.declared.rule.Rule.{Rule}
use Rattle.jc_command_words.specs.Words.{Word}
use Rattle.jc_command_words.specs.Numbers.{IsNumber, number_up_to}
use Rattle.jc_command_words.specs.Paths.{are_distinct}
use Rattle.jc_command_words.specs.RulesText.{kind_text, kinds_of, IsWhole, IsRuleText, AreRuleTexts, AreRules}
use Rattle.jc_command_words.specs.RulesRead.{kind_in, whole_up_to, cut_at, rule_with, rule_of, fraction_of, rule_on, rule_by, rule_in, same_kind, with_rule, rules_on, rules_behind, rules_of}
use Rattle.jc_command_words.proofs.BoolLaws.{both_true, either-false}
use Rattle.jc_command_words.specs.RulesOutcome.{RulesRead, rules_seen}
use Rattle.jc_command_words.proofs.NumberLaws.{le_test, number_is, number_found}
use Rattle.jc_command_words.proofs.PathLaws.{distinct_holds, distinct_passes, distinct_more, distinct_on}

-- ---- where a text is cut

-- the text has no such byte
abbrev Lacks : ℕ → Word → Type 0
Lacks mark text = list_any (λ b. b == mark) text ≡ false

lt_test : (a b : ℕ) → nat_lt a b ≡ true → a < b
lt_test a b h = grind (arith, nat_tests)

not_lt : (a b : ℕ) → nat_lt a b ≡ false → b ≤ a
not_lt a b h = grind (arith, nat_tests)

-- the parts, where the mark is there
abbrev cut_if : ℕ → Word → Bool → Option (Word × Word)
cut_if mark text cut = if cut then Some (before_first (λ b. b == mark) text, after_first (λ b. b == mark) text) else None

cut_is : (mark : ℕ) (text front behind : Word) → cut_at mark text ≡ Some (front, behind) → text ≡ front ++ mark ∷ behind
cut_is mark text front behind e = by (nat_lt (position_or_len (λ b. b == mark) text) (length text)) refl e
  where
    by : (t : Bool) → nat_lt (position_or_len (λ b. b == mark) text) (length text) ≡ t
        → cut_if mark text t ≡ Some (front, behind) → text ≡ front ++ mark ∷ behind
    by true h e =
        let within = lt_test (position_or_len (λ b. b == mark) text) (length text) h in
        let sign = (Decides-eqb _ _).0 (passes_at_first (λ b. b == mark) text 0 within) in
        let parts = same_Some (before_first (λ b. b == mark) text, after_first (λ b. b == mark) text) (front, behind) e in
        split_at_first (λ b. b == mark) text 0 within
        ∙ ap (λ x. before_first (λ b. b == mark) text ++ x ∷ after_first (λ b. b == mark) text) sign
        ∙ ap (λ (q : Word × Word). q.0 ++ mark ∷ q.1) parts
    by false h e = absurd cc

first_mark : (mark : ℕ) (front behind : Word) → Lacks mark front → position_or_len (λ b. b == mark) (front ++ mark ∷ behind) ≡ length front
first_mark mark [] behind h = rw ((Decides-eqb mark mark).1 refl) refl
first_mark mark (x ∷ xs) behind h = by (x == mark) refl h (first_mark mark xs behind)
  where
    by : (b : Bool) → (x == mark) ≡ b → (b || list_any (λ b. b == mark) xs) ≡ false
        → (Lacks mark xs → position_or_len (λ b. b == mark) (xs ++ mark ∷ behind) ≡ length xs)
        → position_or_len (λ b. b == mark) (x ∷ xs ++ mark ∷ behind) ≡ length (x ∷ xs)
    by true e h rest = cc
    by false e h rest = rw (e, rest h) (omega arith)

cut_found : (mark : ℕ) (front behind : Word) → Lacks mark front → cut_at mark (front ++ mark ∷ behind) ≡ Some (front, behind)
cut_found mark front behind h =
    let place = first_mark mark front behind h in
    let long = length-append front (mark ∷ behind) in
    let within : position_or_len (λ b. b == mark) (front ++ mark ∷ behind) < length (front ++ mark ∷ behind) = omega (arith, place, long) in
    ap (cut_if mark (front ++ mark ∷ behind))
    (lt-ltb (position_or_len (λ b. b == mark) (front ++ mark ∷ behind)) (length (front ++ mark ∷ behind)) within)
    ∙ ap₂ (λ (x y : Word). Some (x, y)) (ap (λ k. take k (front ++ mark ∷ behind)) place ∙ take-append_seam front (mark ∷ behind))
    (ap (λ k. drop (k + 1) (front ++ mark ∷ behind)) place ∙ drop-append-add front (mark ∷ behind) 1)

lacks-append : (mark : ℕ) (xs ys : Word) → Lacks mark xs → Lacks mark ys → Lacks mark (xs ++ ys)
lacks-append mark xs ys p q = list_any-append (λ b. b == mark) xs ys ∙ ap₂ (λ (s t : Bool). s || t) p q

lacks-All : (mark : ℕ) (xs : Word) → Lacks mark xs → All (λ b. (b == mark) ≡ false) xs
lacks-All mark [] h = All-nil (λ b. (b == mark) ≡ false)
lacks-All mark (x ∷ xs) h =
    let p = either-false (x == mark) (list_any (λ b. b == mark) xs) h in
    All-cons (λ b. (b == mark) ≡ false) x xs p.0 (lacks-All mark xs p.1)

-- ---- numbers

pub whole_is : (most : ℕ) (text : Word) (n : ℕ) → whole_up_to most text ≡ Some n → IsWhole most text n
whole_is most text n e = by (bytes_eq text (codes "0")) refl e
  where
    by : (b : Bool) → bytes_eq text (codes "0") ≡ b → cond b (Some 0) (number_up_to most text) ≡ Some n → IsWhole most text n
    by true h e = inl ((bytes_eq-Decides text (codes "0")).0 h, sym (same_Some 0 n e))
    by false h e = inr (number_is most text n e)

pub number_small : (most : ℕ) (text : Word) (n : ℕ) → number_up_to most text ≡ Some n → n ≤ most
number_small most text n e = (number_is most text n e).small

whole_found : (most : ℕ) (text : Word) (n : ℕ) → IsWhole most text n → whole_up_to most text ≡ Some n
whole_found most text n (inl z) = ap (whole_up_to most) z.0 ∙ ap Some (sym z.1)
whole_found most text n (inr h) = by (bytes_eq text (codes "0")) refl
  where
    by : (b : Bool) → bytes_eq text (codes "0") ≡ b → cond b (Some 0) (number_up_to most text) ≡ Some n
    by true e =
        let none = ap (number_up_to most) ((bytes_eq-Decides text (codes "0")).0 e) in
        let some : None ≡ Some n = sym none ∙ number_found most text n h in
        absurd (true≢false (ap is_some (sym some)))
    by false e = number_found most text n h

digit_other : (mark b : ℕ) → mark < 48 → is_digit b ≡ true → (b == mark) ≡ false
digit_other mark b low h = by (b == mark) refl
  where
    by : (t : Bool) → (b == mark) ≡ t → t ≡ false
    by true e =
        let same = (Decides-eqb b mark).0 e in
        let high = le_test 48 b (and_parts (nat_le 48 b) (nat_le b 57) h).0 in
        absurd (omega (arith, same, high, low))
    by false e = refl

digits_lack : (mark : ℕ) (text : Word) → mark < 48 → list_all is_digit text ≡ true → Lacks mark text
digits_lack mark [] low h = refl
digits_lack mark (b ∷ bytes) low h =
    let p = and_parts (is_digit b) (list_all is_digit bytes) h in
    ap₂ (λ (s t : Bool). s || t) (digit_other mark b low p.0) (digits_lack mark bytes low p.1)

number_lacks : (mark most : ℕ) (text : Word) (n : ℕ) → mark < 48 → IsNumber most text n → Lacks mark text
number_lacks mark most [] n low h = refl
number_lacks mark most (b ∷ bytes) n low h = digits_lack mark (b ∷ bytes) low (and_parts (not (nat_eq b 48)) (list_all is_digit (b ∷ bytes)) h.decimal).1

whole_lacks : (mark most : ℕ) (text : Word) (n : ℕ) → mark < 48 → IsWhole most text n → Lacks mark text
whole_lacks mark most text n low (inl z) = subst (Lacks mark) (sym z.0) (digits_lack mark (codes "0") low refl)
whole_lacks mark most text n low (inr h) = number_lacks mark most text n low h

-- ---- names of counters

kind_is : (text : Word) (counter : CounterKind) → kind_in text ≡ Some counter → text ≡ kind_text counter
kind_is text counter e = one Instruction (one Branch (one Line (one Complexity (one Method (one Class none))))) e
  where
    none : None ≡ Some counter → text ≡ kind_text counter
    none e = absurd cc

    by : (b : Bool) (this : CounterKind) (other : Option CounterKind) → bytes_eq text (kind_text this) ≡ b
        → (other ≡ Some counter → text ≡ kind_text counter) → cond b (Some this) other ≡ Some counter → text ≡ kind_text counter
    by true this other h more e = (bytes_eq-Decides text (kind_text this)).0 h ∙ ap kind_text (same_Some this counter e)
    by false this other h more e = more e

    one : {other : Option CounterKind} (this : CounterKind) → (other ≡ Some counter → text ≡ kind_text counter)
        → cond (bytes_eq text (kind_text this)) (Some this) other ≡ Some counter → text ≡ kind_text counter
    one {other} this more e = by (bytes_eq text (kind_text this)) this other refl more e

kind_found : (counter : CounterKind) → kind_in (kind_text counter) ≡ Some counter
kind_found Instruction = refl
kind_found Branch = refl
kind_found Line = refl
kind_found Complexity = refl
kind_found Method = refl
kind_found Class = refl

-- no name has a `=`, and none a comma
kind_lacks : (counter : CounterKind) → Lacks 61 (kind_text counter) × Lacks 44 (kind_text counter)
kind_lacks Instruction = (refl, refl)
kind_lacks Branch = (refl, refl)
kind_lacks Line = (refl, refl)
kind_lacks Complexity = (refl, refl)
kind_lacks Method = (refl, refl)
kind_lacks Class = (refl, refl)

abbrev SameByName : CounterKind → CounterKind → Type 0
SameByName a b = same_kind a b ≡ bytes_eq (kind_text b) (kind_text a)

same_by_name : (a b : CounterKind) → SameByName a b
same_by_name Instruction b = elim b as (SameByName Instruction) [ Instruction ↦ refl | Branch ↦ refl | Line ↦ refl | Complexity ↦ refl | Method ↦ refl | Class ↦ refl ]
same_by_name Branch b = elim b as (SameByName Branch) [ Instruction ↦ refl | Branch ↦ refl | Line ↦ refl | Complexity ↦ refl | Method ↦ refl | Class ↦ refl ]
same_by_name Line b = elim b as (SameByName Line) [ Instruction ↦ refl | Branch ↦ refl | Line ↦ refl | Complexity ↦ refl | Method ↦ refl | Class ↦ refl ]
same_by_name Complexity b = elim b as (SameByName Complexity) [ Instruction ↦ refl | Branch ↦ refl | Line ↦ refl | Complexity ↦ refl | Method ↦ refl | Class ↦ refl ]
same_by_name Method b = elim b as (SameByName Method) [ Instruction ↦ refl | Branch ↦ refl | Line ↦ refl | Complexity ↦ refl | Method ↦ refl | Class ↦ refl ]
same_by_name Class b = elim b as (SameByName Class) [ Instruction ↦ refl | Branch ↦ refl | Line ↦ refl | Complexity ↦ refl | Method ↦ refl | Class ↦ refl ]

-- ---- one rule

pub rule_is : (text : Word) (rule : Rule) → rule_in text ≡ Some rule → IsRuleText text rule
rule_is text rule e = parted (cut_at 61 text) refl e
  where
    made : (counter : CounterKind) (least of : Word) (b : ℕ) → text ≡ kind_text counter ++ 61 ∷ (least ++ 47 ∷ of) → number_up_to 1000000 of ≡ Some b
        → (a : Option ℕ) → whole_up_to b least ≡ a → rule_with counter b a ≡ Some rule → IsRuleText text rule
    made counter least of b spelled of_is None h e = absurd cc
    made counter least of b spelled of_is (Some a) h e =
        subst (IsRuleText text) (same_Some (record { counter = counter; least = a; of = b }) rule e)
        (record { least = least; of = of; spelled = spelled; least_is = whole_is b least a h; of_is = number_is 1000000 of b of_is })

    whole : (counter : CounterKind) (least of : Word) → text ≡ kind_text counter ++ 61 ∷ (least ++ 47 ∷ of)
        → (b : Option ℕ) → number_up_to 1000000 of ≡ b → rule_of counter least b ≡ Some rule → IsRuleText text rule
    whole counter least of spelled None h e = absurd cc
    whole counter least of spelled (Some b) h e = made counter least of b spelled h (whole_up_to b least) refl e

    divided : (counter : CounterKind) (fraction : Word) → text ≡ kind_text counter ++ 61 ∷ fraction
        → (cut : Option (Word × Word)) → cut_at 47 fraction ≡ cut → fraction_of counter cut ≡ Some rule → IsRuleText text rule
    divided counter fraction spelled None h e = absurd cc
    divided counter fraction spelled (Some parts) h e =
        whole counter parts.0 parts.1 (spelled ∙ ap (λ l. kind_text counter ++ 61 ∷ l) (cut_is 47 fraction parts.0 parts.1 h))
        (number_up_to 1000000 parts.1) refl e

    counted : (name fraction : Word) → text ≡ name ++ 61 ∷ fraction
        → (counter : Option CounterKind) → kind_in name ≡ counter → rule_on counter fraction ≡ Some rule → IsRuleText text rule
    counted name fraction spelled None h e = absurd cc
    counted name fraction spelled (Some counter) h e =
        divided counter fraction (spelled ∙ ap (λ l. l ++ 61 ∷ fraction) (kind_is name counter h)) (cut_at 47 fraction) refl e

    parted : (cut : Option (Word × Word)) → cut_at 61 text ≡ cut → rule_by cut ≡ Some rule → IsRuleText text rule
    parted None h e = absurd cc
    parted (Some parts) h e = counted parts.0 parts.1 (cut_is 61 text parts.0 parts.1 h) (kind_in parts.0) refl e

pub rule_found : (text : Word) (rule : Rule) → IsRuleText text rule → rule_in text ≡ Some rule
rule_found text rule h =
    let fraction = h.least ++ 47 ∷ h.of in
    ap rule_in h.spelled
    ∙ ap rule_by (cut_found 61 (kind_text rule.counter) fraction (kind_lacks rule.counter).0)
    ∙ ap (λ o. rule_on o fraction) (kind_found rule.counter)
    ∙ ap (fraction_of rule.counter) (cut_found 47 h.least h.of (whole_lacks 47 rule.of h.least rule.least (omega arith) h.least_is))
    ∙ ap (rule_of rule.counter h.least) (number_found 1000000 h.of rule.of h.of_is)
    ∙ ap (rule_with rule.counter rule.of) (whole_found rule.of h.least rule.least h.least_is)

-- the text of a rule has no comma
no_comma : (text : Word) (rule : Rule) → IsRuleText text rule → Lacks 44 text
no_comma text rule h =
    let low : 44 < 48 = omega arith in
    let least = whole_lacks 44 rule.of h.least rule.least low h.least_is in
    let of = number_lacks 44 1000000 h.of rule.of low h.of_is in
    subst (Lacks 44) (sym h.spelled)
    (lacks-append 44 (kind_text rule.counter) (61 ∷ (h.least ++ 47 ∷ h.of)) (kind_lacks rule.counter).1
    (lacks-append 44 h.least (47 ∷ h.of) least of))

-- ---- rules

taken : (rules : List Rule) (rule : Rule) → list_any (λ r. same_kind r.counter rule.counter) rules ≡ list_any (bytes_eq (kind_text rule.counter)) (kinds_of rules)
taken [] rule = refl
taken (r ∷ rules) rule = ap₂ (λ (s t : Bool). s || t) (same_by_name r.counter rule.counter) (taken rules rule)

kinds-append : (rules : List Rule) (rule : Rule) → kinds_of (rules ++ rule ∷ []) ≡ kinds_of rules ++ kind_text rule.counter ∷ []
kinds-append rules rule = map-append (λ r. kind_text r.counter) rules (rule ∷ [])

-- what rules with those of texts behind them are
record Behind (done : List Rule) (text : Word) (all : List Rule) : Type 0 where
  more : List Rule
  parts : all ≡ done ++ more
  texts : AreRuleTexts text more
  apart : are_distinct (kinds_of all) ≡ true

with_is : (done : List Rule) (text : Word) (next : List Rule) → are_distinct (kinds_of done) ≡ true → with_rule done (rule_in text) ≡ Some next
    → (rule : Rule) × IsRuleText text rule × (next ≡ done ++ rule ∷ []) × (are_distinct (kinds_of next) ≡ true)
with_is done text next apart e = by (rule_in text) refl e
  where
    add : (rule : Rule) → IsRuleText text rule → (t : Bool) → list_any (λ r. same_kind r.counter rule.counter) done ≡ t
        → cond t None (Some (done ++ rule ∷ [])) ≡ Some next
        → (rule : Rule) × IsRuleText text rule × (next ≡ done ++ rule ∷ []) × (are_distinct (kinds_of next) ≡ true)
    add rule is true h e = absurd cc
    add rule is false h e =
        let same = sym (same_Some (done ++ rule ∷ []) next e) in
        let other = sym (taken done rule) ∙ h in
        (rule, is, same, ap (λ l. are_distinct (kinds_of l)) same ∙ ap are_distinct (kinds-append done rule) ∙ distinct_on (kinds_of done) (kind_text rule.counter) apart other)

    by : (o : Option Rule) → rule_in text ≡ o → with_rule done o ≡ Some next
        → (rule : Rule) × IsRuleText text rule × (next ≡ done ++ rule ∷ []) × (are_distinct (kinds_of next) ≡ true)
    by None h e = absurd cc
    by (Some rule) h e = add rule (rule_is text rule h) (list_any (λ r. same_kind r.counter rule.counter) done) refl e

one_behind : (done : List Rule) (text : Word) (all : List Rule) → are_distinct (kinds_of done) ≡ true
    → with_rule done (rule_in text) ≡ Some all → Behind done text all
one_behind done text all apart e =
    let w = with_is done text all apart e in
    record { more = w.0 ∷ []; parts = w.2; texts = w.1; apart = w.3 }

more_behind : (done next : List Rule) (text rest : Word) (rule : Rule) (all : List Rule) → IsRuleText text rule → next ≡ done ++ rule ∷ []
    → Behind next rest all → Behind done (text ++ 44 ∷ rest) all
more_behind done next text rest rule all is grown b = by b.more b.parts b.texts
  where
    by : (more : List Rule) → all ≡ next ++ more → AreRuleTexts rest more → Behind done (text ++ 44 ∷ rest) all
    by [] parts are = absurd are
    by (m ∷ ms) parts are = record {
      more = rule ∷ m ∷ ms;
      parts = parts ∙ ap (λ l. l ++ m ∷ ms) grown ∙ append_assoc done (rule ∷ []) (m ∷ ms);
      texts = (text, rest, refl, is, are);
      apart = b.apart;
    }

on_one : (o : Option (List Rule)) → rules_on (λ more. Some more) o ≡ o
on_one None = refl
on_one (Some rules) = refl

behind_are : (done : List Rule) (text : Word) (texts : List Word) (all : List Rule) → are_distinct (kinds_of done) ≡ true
    → rules_behind done (text ∷ texts) ≡ Some all → Behind done (join_with_byte 44 (text ∷ texts)) all
behind_are done text [] all apart e = one_behind done text all apart (sym (on_one (with_rule done (rule_in text))) ∙ e)
behind_are done text (t ∷ ts) all apart e = by (with_rule done (rule_in text)) refl e (λ next apart e. behind_are next t ts all apart e)
  where
    by : (o : Option (List Rule)) → with_rule done (rule_in text) ≡ o → rules_on (λ more. rules_behind more (t ∷ ts)) o ≡ Some all
        → ((next : List Rule) → are_distinct (kinds_of next) ≡ true → rules_behind next (t ∷ ts) ≡ Some all
        → Behind next (join_with_byte 44 (t ∷ ts)) all)
        → Behind done (join_with_byte 44 (text ∷ t ∷ ts)) all
    by None h e behind = absurd (true≢false (ap is_some (sym e)))
    by (Some next) h e behind =
        let w = with_is done text next apart h in
        more_behind done next text (join_with_byte 44 (t ∷ ts)) w.0 all w.1 w.2 (behind next w.3 e)

pub rules_are : (text : Word) (rules : List Rule) → rules_of text ≡ Some rules → AreRules text rules
rules_are text rules e =
    by (slice_split (λ b. b == 44) text) (count_by (λ b. b == 44) text) (length-slice_split (λ b. b == 44) text) (join_with_byte-slice_split 44 text) e
  where
    by : (parts : List Word) (cuts : ℕ) → length parts ≡ cuts + 1 → join_with_byte 44 parts ≡ text → rules_behind [] parts ≡ Some rules → AreRules text rules
    by [] cuts some joined e = absurd (omega (arith, some))
    by (part ∷ parts) cuts some joined e =
        let b = behind_are [] part parts rules refl e in
        record {
          texts = subst (λ l. AreRuleTexts text l) (sym b.parts) (subst (λ t. AreRuleTexts t b.more) joined b.texts);
          apart = distinct_holds (kinds_of rules) b.apart;
        }

-- a list that starts with others is apart where the whole is
apart_front : (xs ys : List Word) → are_distinct (xs ++ ys) ≡ true → are_distinct xs ≡ true
apart_front [] ys h = refl
apart_front (x ∷ xs) ys h =
    let p = and_parts (not (list_any (bytes_eq x) (xs ++ ys))) (are_distinct (xs ++ ys)) h in
    both_true _ _ (front p.0) (apart_front xs ys p.1)
  where
    by : (a b : Bool) → not (a || b) ≡ true → not a ≡ true
    by true b h = h
    by false b h = refl

    front : not (list_any (bytes_eq x) (xs ++ ys)) ≡ true → not (list_any (bytes_eq x) xs) ≡ true
    front h = by (list_any (bytes_eq x) xs) (list_any (bytes_eq x) ys) (ap not (sym (list_any-append (bytes_eq x) xs ys)) ∙ h)

-- a word behind others that differ from it
last_apart : (xs : List Word) (x : Word) → are_distinct (xs ++ x ∷ []) ≡ true → list_any (bytes_eq x) xs ≡ false
last_apart xs x h = not-true _ (and_parts (are_distinct xs) (not (list_any (bytes_eq x) xs)) (sym (distinct_more xs x) ∙ h)).1

with_found : (done : List Rule) (text : Word) (rule : Rule) (more : List Rule) → IsRuleText text rule → are_distinct (kinds_of (done ++ rule ∷ more)) ≡ true
    → with_rule done (rule_in text) ≡ Some (done ++ rule ∷ [])
with_found done text rule more is apart =
    let front = apart_front (kinds_of (done ++ rule ∷ [])) (kinds_of more)
    (ap are_distinct (sym (map-append (λ r. kind_text r.counter) (done ++ rule ∷ []) more) ∙ ap kinds_of (append_assoc done (rule ∷ []) more)) ∙ apart) in
    let other = last_apart (kinds_of done) (kind_text rule.counter) (ap are_distinct (sym (kinds-append done rule)) ∙ front) in
    ap (with_rule done) (rule_found text rule is)
    ∙ ap (λ t. cond t None (Some (done ++ rule ∷ []))) (taken done rule ∙ other)

behind_found : (done : List Rule) (text : Word) (rules : List Rule) → AreRuleTexts text rules → are_distinct (kinds_of (done ++ rules)) ≡ true
    → rules_behind done (slice_split (λ b. b == 44) text) ≡ Some (done ++ rules)
behind_found done text [] are apart = absurd are
behind_found done text (rule ∷ []) is apart =
    ap (rules_behind done) (slice_split_none (λ b. b == 44) text (lacks-All 44 text (no_comma text rule is)))
    ∙ ap (rules_on (λ more. Some more)) (with_found done text rule [] is apart)
behind_found done text (rule ∷ next ∷ rules) are apart =
    ap (λ t. rules_behind done (slice_split (λ b. b == 44) t)) are.2
    ∙ ap (rules_behind done) (slice_split_at (λ b. b == 44) are.0 44 are.1 (lacks-All 44 are.0 (no_comma are.0 rule are.3)) refl)
    ∙ ap (rules_on (λ more. rules_behind more (slice_split (λ b. b == 44) are.1))) (with_found done are.0 rule (next ∷ rules) are.3 apart)
    ∙ behind_found (done ++ rule ∷ []) are.1 (next ∷ rules) are.4
    (ap (λ l. are_distinct (kinds_of l)) (append_assoc done (rule ∷ []) (next ∷ rules)) ∙ apart)
    ∙ ap Some (append_assoc done (rule ∷ []) (next ∷ rules))

pub rules_found : (text : Word) (rules : List Rule) → AreRules text rules → rules_of text ≡ Some rules
rules_found text rules h = behind_found [] text rules h.texts (distinct_passes (kinds_of rules) h.apart)

pub read_of : (text : Word) (o : Option (Vec Rule Global)) → rules_seen o ≡ rules_of text → RulesRead text o
read_of text o e = λ rules. ((λ h. e ∙ rules_found text rules h), (λ s. rules_are text rules (sym e ∙ s)))

-- ---- part by part

pub behind_shorter : (mark : ℕ) (text front behind : Word) → cut_at mark text ≡ Some (front, behind) → length behind < length text
behind_shorter mark text front behind e =
    let whole = ap length (cut_is mark text front behind e) in
    omega (arith, whole, length-append front (mark ∷ behind))

split_on : (text front behind : Word) → cut_at 44 text ≡ Some (front, behind) → slice_split (λ b. b == 44) text ≡ front ∷ slice_split (λ b. b == 44) behind
split_on text front behind e = by (nat_lt (position_or_len (λ b. b == 44) text) (length text)) refl e
  where
    by : (t : Bool) → nat_lt (position_or_len (λ b. b == 44) text) (length text) ≡ t
        → cut_if 44 text t ≡ Some (front, behind)
        → slice_split (λ b. b == 44) text ≡ front ∷ slice_split (λ b. b == 44) behind
    by true h e =
        let parts = same_Some (before_first (λ b. b == 44) text, after_first (λ b. b == 44) text) (front, behind) e in
        slice_split_first (λ b. b == 44) text 0 (lt_test (position_or_len (λ b. b == 44) text) (length text) h)
        ∙ ap (λ (q : Word × Word). q.0 ∷ slice_split (λ b. b == 44) q.1) parts
    by false h e = absurd (true≢false (ap is_some (sym e)))

split_end : (text : Word) → cut_at 44 text ≡ None → slice_split (λ b. b == 44) text ≡ text ∷ []
split_end text e = by (nat_lt (position_or_len (λ b. b == 44) text) (length text)) refl e
  where
    by : (t : Bool) → nat_lt (position_or_len (λ b. b == 44) text) (length text) ≡ t
        → cut_if 44 text t ≡ None
        → slice_split (λ b. b == 44) text ≡ text ∷ []
    by true h e = absurd (true≢false (ap is_some e))
    by false h e =
        let long = not_lt (position_or_len (λ b. b == 44) text) (length text) h in
        slice_split_none (λ b. b == 44) text
        (All-from_get_or (λ b. (b == 44) ≡ false) text 0 (λ k below. fails_before_first (λ b. b == 44) text k 0 (omega (arith, below, long))))

-- the rules of the text are these with those of what is left of it
abbrev pub Reads : Word → List Rule → Word → Type 0
Reads text done rest = rules_of text ≡ rules_behind done (slice_split (λ b. b == 44) rest)

module _ (text rest : Word) (done : List Rule) (so_far : Reads text done rest) where
  pub reads_on : (front behind : Word) (next : List Rule) → cut_at 44 rest ≡ Some (front, behind) → with_rule done (rule_in front) ≡ Some next
      → Reads text next behind
  reads_on front behind next cut more =
      so_far ∙ ap (rules_behind done) (split_on rest front behind cut)
      ∙ ap (rules_on (λ more. rules_behind more (slice_split (λ b. b == 44) behind))) more

  pub reads_none : (front behind : Word) → cut_at 44 rest ≡ Some (front, behind) → with_rule done (rule_in front) ≡ None → None ≡ rules_of text
  reads_none front behind cut none =
      sym (so_far ∙ ap (rules_behind done) (split_on rest front behind cut)
      ∙ ap (rules_on (λ more. rules_behind more (slice_split (λ b. b == 44) behind))) none)

  pub reads_last : (o : Option (List Rule)) → cut_at 44 rest ≡ None → with_rule done (rule_in rest) ≡ o → o ≡ rules_of text
  reads_last o cut is =
      sym (so_far ∙ ap (rules_behind done) (split_end rest cut) ∙ on_one (with_rule done (rule_in rest)) ∙ is)

-- ---- what calls gave

abbrev pub cut_seen : Option (Bor Word × Bor Word) → Option (Word × Word)
cut_seen o = option_map (λ (parts : Bor Word × Bor Word). (parts.0.now, parts.1.now)) o

pub cut_some : (o : Option (Bor Word × Bor Word)) (mark : ℕ) (text : Word) (front behind : Bor Word) → cut_seen o ≡ cut_at mark text
    → o ≡ Some (front, behind) → cut_at mark text ≡ Some (front.now, behind.now)
cut_some o mark text front behind gave is = sym gave ∙ ap cut_seen is

pub cut_none : (o : Option (Bor Word × Bor Word)) (mark : ℕ) (text : Word) → cut_seen o ≡ cut_at mark text → o ≡ None → cut_at mark text ≡ None
cut_none o mark text gave is = sym gave ∙ ap cut_seen is

pub was_put : (put : Bool) (done new : List Rule) (text : Word) → put ≡ true
    → MatchBool put (with_rule done (rule_in text) ≡ Some new) (with_rule done (rule_in text) ≡ None) → with_rule done (rule_in text) ≡ Some new
was_put true done new text e h = h
was_put false done new text e h = absurd (true≢false (sym e))

pub wasn't_put : (put : Bool) (done new : List Rule) (text : Word) → put ≡ false
    → MatchBool put (with_rule done (rule_in text) ≡ Some new) (with_rule done (rule_in text) ≡ None) → with_rule done (rule_in text) ≡ None
wasn't_put true done new text e h = absurd (true≢false e)
wasn't_put false done new text e h = h

pub read_if : (r : Result (Option (Vec Rule Global)) Memory) (text : Word) → IfOk r (λ o. rules_seen o ≡ rules_of text) → IfOk r (RulesRead text)
read_if (Ok o) text e = read_of text o e
read_if (Err memory) text e = e
