-- The text that was printed, and a line behind it.
use Rattle.std.proofs.Common.{◌≡◌, ℕ, ◌+◌, ◌<◌, ◌≤◌, List, [], ◌∷◌, ◌++◌, length, take, drop, arith, slice_set, slice_index_or, ap, sym, ◌∙◌, length-append}
use Rattle.std.proofs.lemmas.List.{set_at, take_at, at_drop_more, append_assoc, length-take-le}

-- a text and a line feed, written over as many bytes from one on
pub line_put : (old text : List ℕ) (at : ℕ) → at + length text < length old
    → slice_set (take at old ++ (text ++ drop (at + length text) old)) (at + length text) 10
    ≡ take at old ++ ((text ++ 10 ∷ []) ++ drop (at + (length text + 1)) old)
line_put old text at room =
    let end = at + length text in
    let next : end + 1 ≡ at + (length text + 1) = omega arith in
    let before = take at old ++ text in
    let long : length before ≡ end = omega (arith, length-append (take at old) text, length-take-le at old (omega arith)) in
    let o = slice_index_or old end 0 in
    let split : drop end old ≡ o ∷ drop (end + 1) old = at_drop_more (λ (xs : List ℕ). xs) old end 0 room in
    ap (λ (xs : List ℕ). slice_set xs end 10) (sym (append_assoc (take at old) text (drop end old)) ∙ ap (λ (xs : List ℕ). before ++ xs) split)
    ∙ (set_at before o (drop (end + 1) old) 10 end long
    ∙ (append_assoc (take at old) text (10 ∷ drop (end + 1) old)
    ∙ ap (λ (xs : List ℕ). take at old ++ xs)
    (sym (append_assoc text (10 ∷ []) (drop (end + 1) old)) ∙ ap (λ n. (text ++ 10 ∷ []) ++ drop n old) next)))

-- it is what was printed, and the line
pub line_printed : (old line rest : List ℕ) (printed : ℕ) → printed ≤ length old
    → take (printed + length line) (take printed old ++ (line ++ rest)) ≡ take printed old ++ line
line_printed old line rest printed within =
    let long : length (take printed old ++ line) ≡ printed + length line =
    omega (arith, length-append (take printed old) line, length-take-le printed old within) in
    ap (take (printed + length line)) (sym (append_assoc (take printed old) line rest)) ∙ take_at (take printed old ++ line) rest (printed + length line) long
