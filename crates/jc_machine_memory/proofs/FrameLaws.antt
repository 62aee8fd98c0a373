-- Local variables and operands in the cells of a frame.
use Rattle.std.proofs.Common.{◌≡◌, ℕ, zero, suc, ◌+◌, ◌-◌, ◌<◌, ◌≤◌, List, [], ◌∷◌, ◌++◌, Option, Some, None, length, map, take, drop, reverse, replicate, refl, rules, arith, slice_get, slice_set, slice_index_or, ◌∙◌, ap, sym}
use Rattle.std.proofs.lemmas.List.{places, same_lists, get_or-reverse, length-reverse, reverse-append, length-map, length-take-le, length-drop, take_more_set, take-set-le, drop-set-lt, drop-set-add, map-set, drop-map, get_or-take, get_or-drop, take_at}
use Rattle.std.proofs.Math.Seq.{take-set-lt as take-set-below}
use Rattle.jc_programs.specs.declared.run_end.Entry.{Entry}
use Rattle.jc_machine_model.specs.World.{Frame}
use Rattle.jc_machine_model.specs.Values.{Value}
use Rattle.jc_machine_memory.specs.declared.cell.Cell.{Cell}
use Rattle.jc_machine_memory.specs.declared.cell.Cell.TheVariants.{Empty}
use Rattle.jc_machine_memory.specs.declared.frame.Frame.TheInside.{Inside}
use Rattle.jc_machine_memory.specs.Cells.{held, on_stack}
use Rattle.jc_machine_memory.specs.Frames.{content_of, IsFrame}
use Rattle.jc_machine_memory.proofs.ReadLaws.{got_mapped}

-- ---- a list from its end

put_front : {X : Type 0} (xs : List X) (n : ℕ) (x : X) → n < length xs → reverse (take (n + 1) (slice_set xs n x)) ≡ x ∷ reverse (take n xs)
put_front xs n x less = ap reverse (take_more_set xs n x less) ∙ reverse-append (take n xs) (x ∷ [])

cut_front : {X : Type 0} (xs : List X) (n count : ℕ) → n ≤ length xs → reverse (take (n - count) xs) ≡ drop count (reverse (take n xs))
cut_front xs n count most = same_lists _ _ (search (rules, places, length-reverse)) (λ k d less. grind (arith, places, get_or-reverse, length-reverse))

-- ---- a frame

abbrev pub frame_with : Entry → ℕ → List (Option Value) → List Value → Frame
frame_with method place locals stack = record { method = method; place = place; locals = locals; stack = stack }

pub pushed : (f : Inside) (cells : List Cell) (c : Cell) → IsFrame f → f.locals + f.height < 1010 → cells ≡ slice_set f.cells.items (f.locals + f.height) c
    → frame_with f.method f.place (map held (take f.locals cells)) (map on_stack (reverse (take (f.height + 1) (drop f.locals cells))))
    ≡ record (content_of f) { stack = on_stack c ∷ (content_of f).stack }
pushed f cells c sound room set =
    let locals : take f.locals cells ≡ take f.locals f.cells.items = ap (take f.locals) set
    ∙ take-set-le f.locals f.cells.items (f.locals + f.height) c (omega arith) in
    let long : f.height < length (drop f.locals f.cells.items) = omega (arith, length-drop f.locals f.cells.items, sound.cells) in
    let stack : reverse (take (f.height + 1) (drop f.locals cells)) ≡ c ∷ reverse (take f.height (drop f.locals f.cells.items)) =
    ap (λ cs. reverse (take (f.height + 1) (drop f.locals cs))) set
    ∙ (ap (λ cs. reverse (take (f.height + 1) cs)) (drop-set-add f.locals f.cells.items f.height c)
    ∙ put_front (drop f.locals f.cells.items) f.height c long) in
    ap (λ ls. frame_with f.method f.place (map held ls) (map on_stack (reverse (take (f.height + 1) (drop f.locals cells))))) locals
    ∙ ap (λ cs. frame_with f.method f.place (map held (take f.locals f.cells.items)) (map on_stack cs)) stack

pub cut : (f : Inside) (count : ℕ) → IsFrame f
    → frame_with f.method f.place (map held (take f.locals f.cells.items))
    (map on_stack (reverse (take (f.height - count) (drop f.locals f.cells.items)))) ≡ record (content_of f) { stack = drop count (content_of f).stack }
cut f count sound =
    let most : f.height ≤ length (drop f.locals f.cells.items) = omega (arith, length-drop f.locals f.cells.items, sound.cells, sound.within) in
    ap (frame_with f.method f.place (map held (take f.locals f.cells.items)))
    (ap (map on_stack) (cut_front (drop f.locals f.cells.items) f.height count most)
    ∙ sym (drop-map on_stack count (reverse (take f.height (drop f.locals f.cells.items)))))

pub peeked : (f : Inside) (depth : ℕ) (d : Cell) → IsFrame f → depth < f.height
    → Some (on_stack (slice_index_or f.cells.items (f.locals + f.height - 1 - depth) d)) ≡ slice_get (content_of f).stack depth
peeked f depth d sound less =
    let cells = take f.height (drop f.locals f.cells.items) in
    let most : f.height ≤ length (drop f.locals f.cells.items) = omega (arith, length-drop f.locals f.cells.items, sound.cells, sound.within) in
    let long : length cells ≡ f.height = length-take-le f.height (drop f.locals f.cells.items) most in
    let inside : depth < length (reverse cells) = omega (arith, length-reverse cells, long) in
    let place : f.locals + (length cells - 1 - depth) ≡ f.locals + f.height - 1 - depth = omega (arith, long) in
    let read : slice_index_or (reverse cells) depth d ≡ slice_index_or f.cells.items (f.locals + f.height - 1 - depth) d =
    get_or-reverse cells depth d (omega (arith, long))
    ∙ (get_or-take f.height (drop f.locals f.cells.items) (length cells - 1 - depth) d (omega (arith, long))
    ∙ (get_or-drop f.locals f.cells.items (length cells - 1 - depth) d ∙ ap (λ n. slice_index_or f.cells.items n d) place)) in
    ap (λ c. Some (on_stack c)) (sym read) ∙ sym (got_mapped on_stack (reverse cells) depth d inside)

pub height_is : (f : Inside) → IsFrame f → length (content_of f).stack ≡ f.height
height_is f sound =
    let cells = take f.height (drop f.locals f.cells.items) in
    length-map (reverse cells) on_stack
    ∙ (length-reverse cells ∙ length-take-le f.height (drop f.locals f.cells.items)
    (omega (arith, length-drop f.locals f.cells.items, sound.cells, sound.within)))

pub locals_is : (f : Inside) → IsFrame f → length (content_of f).locals ≡ f.locals
locals_is f sound = length-map (take f.locals f.cells.items) held ∙ length-take-le f.locals f.cells.items (omega (arith, sound.cells, sound.within))

pub local_set : (f : Inside) (cells : List Cell) (slot : ℕ) (c : Cell) → IsFrame f → slot < f.locals → cells ≡ slice_set f.cells.items slot c
    → frame_with f.method f.place (map held (take f.locals cells)) (map on_stack (reverse (take f.height (drop f.locals cells))))
    ≡ record (content_of f) { locals = slice_set (content_of f).locals slot (held c) }
local_set f cells slot c sound less set =
    let locals : map held (take f.locals cells) ≡ slice_set (map held (take f.locals f.cells.items)) slot (held c) =
    ap (λ cs. map held (take f.locals cs)) set
    ∙ (ap (map held) (take-set-below f.locals f.cells.items slot c less) ∙ map-set held (take f.locals f.cells.items) slot c) in
    let stack : drop f.locals cells ≡ drop f.locals f.cells.items = ap (drop f.locals) set ∙ drop-set-lt f.locals f.cells.items slot c less in
    ap (λ ls. frame_with f.method f.place ls (map on_stack (reverse (take f.height (drop f.locals cells))))) locals
    ∙ ap (λ cs. frame_with f.method f.place (slice_set (map held (take f.locals f.cells.items)) slot (held c))
    (map on_stack (reverse (take f.height cs)))) stack

held-empties : (n : ℕ) → map held (replicate n Empty) ≡ replicate n None
held-empties zero = refl
held-empties (suc n) = ap (λ ls. None ∷ ls) (held-empties n)

pub emptied : (count : ℕ) (rest : List Cell) → map held (take count (replicate count Empty ++ rest)) ≡ replicate count None
emptied count rest = ap (map held) (take_at (replicate count Empty) rest count (length_of count)) ∙ held-empties count
  where
    length_of : (n : ℕ) → length (replicate n Empty) ≡ n
    length_of zero = refl
    length_of (suc n) = ap suc (length_of n)
