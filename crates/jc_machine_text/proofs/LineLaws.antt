-- Lines, one after the other.
use Rattle.std.proofs.Common.{◌≡◌, ℕ, ◌+◌, ◌<◌, ◌≤◌, List, [], ◌∷◌, ◌++◌, length, take, get_or, sym, ◌∙◌, ap, arith, append_assoc, append-nil}
use Rattle.std.specs.List.{flat_map}
use Rattle.std.proofs.lemmas.Grind.{flat_map-append}
use Rattle.std.proofs.lemmas.List.{take_more, take_all, length-take-le}
use Rattle.std.proofs.lemmas.List.Concat.{flat_map-cons}
use Rattle.jc_programs.specs.declared.run_end.End.{End}
use Rattle.jc_machine_model.specs.CaseText.{thread_line, thread_lines}

-- one more thread
thread_lines_more : (t : ℕ) (ends : List End) (end : End) → thread_lines t (ends ++ end ∷ []) ≡ thread_lines t ends ++ thread_line (t + length ends) end
thread_lines_more t [] end = append-nil (thread_line t end) ∙ ap (λ (n : ℕ). thread_line n end) (omega arith)
thread_lines_more t (e ∷ ends) end =
    ap (λ (text : List ℕ). thread_line t e ++ text)
    (thread_lines_more (t + 1) ends end ∙ ap (λ (n : ℕ). thread_lines (t + 1) ends ++ thread_line n end) (let n : t + 1 + length ends ≡ t + length (e ∷ ends) = omega arith in n))
    ∙ sym (append_assoc (thread_line t e) (thread_lines (t + 1) ends) (thread_line (t + length (e ∷ ends)) end))

pub thread_put : (ends : List End) (old now new line : List ℕ) (i : ℕ) (end : End) → i < length ends → end ≡ get_or ends i end
    → now ≡ old ++ thread_lines 0 (take i ends) → line ≡ thread_line i end → new ≡ now ++ line → new ≡ old ++ thread_lines 0 (take (i + 1) ends)
thread_put ends old now new line i end within is so_far made grows =
    let counted : 0 + length (take i ends) ≡ i = (let l = length-take-le i ends (omega (arith, within)) in omega (arith, l)) in
    let more : thread_lines 0 (take (i + 1) ends) ≡ thread_lines 0 (take i ends) ++ thread_line i end =
    ap (thread_lines 0) (take_more ends i end within ∙ ap (λ (e : End). take i ends ++ e ∷ []) (sym is)) ∙ thread_lines_more 0 (take i ends) end
    ∙ ap (λ (n : ℕ). thread_lines 0 (take i ends) ++ thread_line n end) counted in
    grows ∙ ap (λ (l : List ℕ). now ++ l) made ∙ ap (λ (l : List ℕ). l ++ thread_line i end) so_far ∙ append_assoc old (thread_lines 0 (take i ends)) (thread_line i end)
    ∙ ap (λ (l : List ℕ). old ++ l) (sym more)

pub threads_put : (ends : List End) (old now : List ℕ) (i : ℕ) → length ends ≤ i → now ≡ old ++ thread_lines 0 (take i ends) → now ≡ old ++ thread_lines 0 ends
threads_put ends old now i all so_far = so_far ∙ ap (λ (l : List End). old ++ thread_lines 0 l) (take_all i ends all)

-- one more line of a list
pub line_put : {X : Type 0} (line_of : X → List ℕ) (xs : List X) (old now new line : List ℕ) (i : ℕ) (x : X) → i < length xs → x ≡ get_or xs i x
    → now ≡ old ++ flat_map line_of (take i xs) → line ≡ line_of x → new ≡ now ++ line → new ≡ old ++ flat_map line_of (take (i + 1) xs)
line_put {X} line_of xs old now new line i x within is so_far made grows =
    let more : flat_map line_of (take (i + 1) xs) ≡ flat_map line_of (take i xs) ++ line_of x =
    ap (flat_map line_of) (take_more xs i x within ∙ ap (λ (y : X). take i xs ++ y ∷ []) (sym is)) ∙ flat_map-append line_of (take i xs) (x ∷ [])
    ∙ ap (λ (l : List ℕ). flat_map line_of (take i xs) ++ l) (flat_map-cons line_of x [] ∙ append-nil (line_of x)) in
    grows ∙ ap (λ (l : List ℕ). now ++ l) made ∙ ap (λ (l : List ℕ). l ++ line_of x) so_far ∙ append_assoc old (flat_map line_of (take i xs)) (line_of x)
    ∙ ap (λ (l : List ℕ). old ++ l) (sym more)

pub lines_put : {X : Type 0} (line_of : X → List ℕ) (xs : List X) (old now : List ℕ) (i : ℕ) → length xs ≤ i → now ≡ old ++ flat_map line_of (take i xs) → now ≡ old ++ flat_map line_of xs
lines_put {X} line_of xs old now i all so_far = so_far ∙ ap (λ (l : List X). old ++ flat_map line_of l) (take_all i xs all)
