-- Pieces of the same size, one behind the other.
use Rattle.std.proofs.Common.{◌≡◌, ℕ, zero, suc, ◌+◌, ◌-◌, ◌*◌, ◌<◌, List, [], ◌∷◌, ◌++◌, length, take, drop, refl, sym, ◌∙◌, ap, arith, length-drop, true}
use Rattle.std.proofs.lemmas.List.{drop-drop, take_all}
use Rattle.jc_methods.specs.declared.insn.Arm.{Arm}
use Rattle.jc_insn.specs.Items.{in_pieces, ascending}

-- one piece more
in_pieces_more : {X : Type 0} (size : ℕ) (f : List ℕ → X) (n : ℕ) (bytes : List ℕ)
    → in_pieces size f (suc n) bytes ≡ in_pieces size f n bytes ++ f (drop (size * n) bytes) ∷ []
in_pieces_more size f zero bytes = ap (λ (k : ℕ). f (drop k bytes) ∷ []) (let e : 0 ≡ size * 0 = omega arith in e)
in_pieces_more size f (suc n) bytes =
    let place : drop (size * n) (drop size bytes) ≡ drop (size * suc n) bytes = drop-drop (size * n) size bytes
    ∙ ap (λ (k : ℕ). drop k bytes) (let e : size + size * n ≡ size * suc n = omega arith in e) in
    ap (λ l. f bytes ∷ l) (in_pieces_more size f n (drop size bytes) ∙ ap (λ (l : List ℕ). in_pieces size f n (drop size bytes) ++ f l ∷ []) place)

-- the item of one piece more is pushed
pub pushes_piece : {X : Type 0} (size : ℕ) (f : List ℕ → X) (n : ℕ) (bytes piece : List ℕ) (old new : List X) (x : X) → old ≡ in_pieces size f n bytes
    → piece ≡ take (length bytes - size * n) (drop (size * n) bytes) → x ≡ f piece → new ≡ old ++ x ∷ [] → new ≡ in_pieces size f (n + 1) bytes
pushes_piece size f n bytes piece old new x before is item pushed =
    let whole : piece ≡ drop (size * n) bytes = is ∙ take_all (length bytes - size * n) (drop (size * n) bytes) (omega (arith, length-drop (size * n) bytes)) in
    pushed
    ∙ (λ i. before i ++ (item ∙ ap f whole) i ∷ [])
    ∙ sym (in_pieces_more size f n bytes)
    ∙ ap (λ (k : ℕ). in_pieces size f k bytes) (let e : suc n ≡ n + 1 = omega arith in e)

-- fewer than two arms ascend
pub few_ascend : (arms : List Arm) → length arms < 2 → ascending arms ≡ true
few_ascend [] few = refl
few_ascend (a ∷ []) few = refl
few_ascend (a ∷ b ∷ arms) few = absurd (omega (arith, few))
