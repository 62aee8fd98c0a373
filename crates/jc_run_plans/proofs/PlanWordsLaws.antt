-- The lines and the words of a text, from its front on, and what stands in front of its last dot.
use Rattle.std.proofs.Common.{◌≡◌, ◌≢◌, ℕ, ◌+◌, ◌-◌, ◌<◌, ◌≤◌, Bool, true, false, cond, not, ◌==◌, List, [], ◌∷◌, ◌++◌, length, filter, take-append-drop, get_or, take, drop, All, refl, sym, ap, ◌∙◌, arith}
use Rattle.std.specs.List.{onto_first, before_last, after_last, suffix_len}
use Rattle.std.specs.Str.Lines.{strip_carriage_return, lines_of_parts}
use Rattle.std.proofs.lemmas.Bool.{eqb-true, eq-eqb}
use Rattle.std.proofs.lemmas.List.{drop_more, get_or-take, length-take-le}
use Rattle.std.proofs.lemmas.List.Elements.{All-nil, All-from_get_or, All-cons, All-head, All-tail, All-get_or}
use Rattle.std.proofs.lemmas.List.Splits.{slice_split_at, slice_split_none}
use Rattle.std.proofs.lemmas.List.Sums.{suffix_len_is}
use Rattle.jc_run_plans.specs.PlanWords.{is_some_text, parts_of, lines_of, with_part, words_of}
use Rattle.jc_run_plans.specs.Plans.{is_dot}

differs : (a b : ℕ) → a ≢ b → (a == b) ≡ false
differs a b ne = by (a == b) refl
  where
    by : (t : Bool) → (a == b) ≡ t → t ≡ false
    by true e = absurd (ne (eqb-true a b e))
    by false e = refl

-- ---- the first place of a byte

pub cut_here : (mark : ℕ) (text : List ℕ) (i : ℕ) → i < length text → get_or text i 0 ≡ mark → ((k : ℕ) → k < i → get_or text k 0 ≢ mark)
    → parts_of mark text ≡ take i text ∷ parts_of mark (drop (i + 1) text)
cut_here mark text i inside here before =
    let parts : text ≡ take i text ++ mark ∷ drop (i + 1) text = sym (take-append-drop i text) ∙ ap (λ l. take i text ++ l) (drop_more text i 0 inside ∙ ap (λ b. b ∷ drop (i + 1) text) here) in
    ap (parts_of mark) parts ∙ slice_split_at (λ b. b == mark) (take i text) mark (drop (i + 1) text) others (eq-eqb mark mark refl)
  where
    others : All (λ b. (b == mark) ≡ false) (take i text)
    others = All-from_get_or (λ b. (b == mark) ≡ false) (take i text) 0
        (λ k less. let lt : k < i = let n = length-take-le i text (omega (arith, inside)) in omega (arith, less, n) in
        rw get_or-take (differs (get_or text k 0) mark (before k lt)))

pub cut_nowhere : (mark : ℕ) (text : List ℕ) → All (λ b. b ≢ mark) text → parts_of mark text ≡ text ∷ []
cut_nowhere mark text none = slice_split_none (λ b. b == mark) text (others text none)
  where
    others : (bytes : List ℕ) → All (λ b. b ≢ mark) bytes → All (λ b. (b == mark) ≡ false) bytes
    others [] h = All-nil (λ b. (b == mark) ≡ false)
    others (b ∷ bytes) h = All-cons (λ x. (x == mark) ≡ false) b bytes (differs b mark (All-head (λ x. x ≢ mark) b bytes h)) (others bytes (All-tail (λ x. x ≢ mark) b bytes h))

-- ---- lines

-- there is a first part
part_first : (mark : ℕ) (text : List ℕ) → (part : List ℕ) × (more : List (List ℕ)) × (parts_of mark text ≡ part ∷ more)
part_first mark [] = ([], [], refl)
part_first mark (b ∷ text) = by (b == mark) (part_first mark text)
  where
    by : (t : Bool) → (part : List ℕ) × (more : List (List ℕ)) × (parts_of mark text ≡ part ∷ more)
        → (part : List ℕ) × (more : List (List ℕ)) × (cond t ([] ∷ parts_of mark text) (onto_first b (parts_of mark text)) ≡ part ∷ more)
    by true p = ([], parts_of mark text, refl)
    by false p = (b ∷ p.0, p.1, ap (onto_first b) p.2)

pub lines_more : (text line rest : List ℕ) → parts_of 10 text ≡ line ∷ parts_of 10 rest → lines_of text ≡ strip_carriage_return line ∷ lines_of rest
lines_more text line rest e = let p = part_first 10 rest in
    ap lines_of_parts e ∙ ap (λ parts. lines_of_parts (line ∷ parts)) p.2 ∙ ap (λ parts. strip_carriage_return line ∷ lines_of_parts parts) (sym p.2)

pub lines_last : (text : List ℕ) → 0 < length text → parts_of 10 text ≡ text ∷ [] → lines_of text ≡ text ∷ []
lines_last [] some e = absurd (omega (arith, some))
lines_last (b ∷ text) some e = ap lines_of_parts e ∙ ap (λ t. cond t [] ((b ∷ text) ∷ [])) (differs (length (b ∷ text)) 0 (λ same. omega (arith, same)))

-- ---- words

pub words_more : (text part rest : List ℕ) → parts_of 32 text ≡ part ∷ parts_of 32 rest → words_of text ≡ with_part part (words_of rest)
words_more text part rest e = ap (filter is_some_text) e

pub words_last : (text part : List ℕ) → parts_of 32 text ≡ part ∷ [] → words_of text ≡ with_part part (words_of [])
words_last text part e = ap (filter is_some_text) e

pub some_part : (part : List ℕ) (words : List (List ℕ)) → 0 < length part → with_part part words ≡ part ∷ words
some_part [] words some = absurd (omega (arith, some))
some_part (b ∷ part) words some = refl

pub empty_part : (part : List ℕ) (words : List (List ℕ)) → length part ≡ 0 → with_part part words ≡ words
empty_part [] words none = refl
empty_part (b ∷ part) words none = absurd (omega (arith, none))

-- ---- the last dot

sub-one-add : (i : ℕ) → i + 1 - 1 ≡ i
sub-one-add i = omega arith

here_false : (name : List ℕ) (i k : ℕ) → k ≡ i → get_or name i 0 ≡ 46 → not (is_dot (get_or name k 0)) ≡ false
here_false name i k e h = ap not (eq-eqb (get_or name k 0) 46 (ap (λ n. get_or name n 0) e ∙ h))

pub behind_last_dot : (name : List ℕ) (i : ℕ) → i < length name → get_or name i 0 ≡ 46 → ((k : ℕ) → i + 1 ≤ k → k < length name → get_or name k 0 ≢ 46)
    → suffix_len (λ b. not (is_dot b)) name ≡ length name - (i + 1)
behind_last_dot name i inside here after =
    suffix_len_is (λ b. not (is_dot b)) name (i + 1) 0 (omega (arith, inside)) (λ k le lt. ap not (differs (get_or name k 0) 46 (after k le lt)))
    (λ some. here_false name i (i + 1 - 1) (sub-one-add i) here)

pub in_front_of_last_dot : (name : List ℕ) (i : ℕ) → i < length name → suffix_len (λ b. not (is_dot b)) name ≡ length name - (i + 1) → take i name ≡ before_last is_dot name
in_front_of_last_dot name i inside e = let z : i ≡ length name - suffix_len (λ b. not (is_dot b)) name - 1 = omega (arith, inside, e) in ap (λ n. take n name) z

pub at_last_dot : (name : List ℕ) (i : ℕ) → i < length name → suffix_len (λ b. not (is_dot b)) name ≡ length name - (i + 1) → drop (i + 1) name ≡ after_last is_dot name
at_last_dot name i inside e = let z : i + 1 ≡ length name - suffix_len (λ b. not (is_dot b)) name = omega (arith, inside, e) in ap (λ n. drop n name) z

pub no_dot : (name : List ℕ) → All (λ b. b ≢ 46) name → before_last is_dot name ≡ []
no_dot name none = let z : length name - length name - 1 ≡ 0 = omega arith in ap (λ n. take (length name - n - 1) name) (all_pass name none) ∙ ap (λ n. take n name) z
  where
    all_pass : (bytes : List ℕ) → All (λ b. b ≢ 46) bytes → suffix_len (λ b. not (is_dot b)) bytes ≡ length bytes
    all_pass bytes h = suffix_len_is (λ b. not (is_dot b)) bytes 0 0 (omega arith)
        (λ k le lt. ap not (differs (get_or bytes k 0) 46 (All-get_or (λ b. b ≢ 46) bytes k 0 lt h))) (λ some. absurd (omega (arith, some))) ∙ omega arith
