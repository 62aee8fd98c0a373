-- The frames of a thread as they lie in memory, where one is entered or left.
use Rattle.std.proofs.Common.{◌≡◌, ℕ, zero, suc, ◌+◌, ◌<◌, List, [], ◌∷◌, length, map, take, reverse, slice_set, slice_index_or, refl, arith, ap, sym, ◌∙◌, add-one}
use Rattle.std.specs.List.{insert}
use Rattle.std.proofs.lemmas.List.{map-set, length-map, length-reverse, length-take-le, take_more_set, take-set-le, reverse-append}
use Rattle.jc_region.specs.Memory.{Allocation}
use Rattle.jc_machine_memory.specs.Frames.{FrameSeen}
use Rattle.jc_machine.specs.declared.thread_stack.ThreadStack.TheInside.{Inside}
use Rattle.jc_machine.specs.Stacks.{contents_of, memories_of, frames_of, IsThreadStack}

-- ---- lists

-- of two neighbours either may stand in the list, and the other be inserted
swapped : {X : Type 0} (xs : List X) (k : ℕ) (a b : X) → k < length xs → insert (slice_set xs k a) (suc k) b ≡ insert (slice_set xs k b) k a
swapped [] k a b less = absurd (omega arith)
swapped (x ∷ xs) zero a b less = refl
swapped (x ∷ xs) (suc k) a b less = ap (λ ys. x ∷ ys) (swapped xs k a b (omega arith))

-- an item in its own place
same_place : {X Y : Type 0} (f : X → Y) (xs : List X) (k : ℕ) (x : X) → x ≡ slice_index_or xs k x → slice_set (map f xs) k (f x) ≡ map f xs
same_place f [] k x is = refl
same_place f (y ∷ xs) zero x is = ap (λ z. f z ∷ map f xs) is
same_place f (y ∷ xs) (suc k) x is = ap (λ zs. f y ∷ zs) (same_place f xs k x is)

put_last : {X : Type 0} (xs : List X) (k : ℕ) (x : X) → k < length xs → reverse (take (k + 1) (slice_set xs k x)) ≡ x ∷ reverse (take k xs)
put_last xs k x less = ap reverse (take_more_set xs k x less) ∙ reverse-append (take k xs) (x ∷ [])

-- ---- frames

module _ (others : List FrameSeen) (k : ℕ) (below : FrameSeen) (less : k < length others) (is : below ≡ slice_index_or others k below) where
  contents_below : k < length (contents_of others)
  contents_below = omega (arith, less, length-map others (λ (f : FrameSeen). f.content))

  memories_below : k < length (memories_of others)
  memories_below = omega (arith, less, length-map others (λ (f : FrameSeen). f.memory))

  cells_swapped : (m : Allocation) → insert (slice_set (memories_of others) k m) (k + 1) below.memory ≡ insert (memories_of others) k m
  cells_swapped m =
      ap (λ n. insert (slice_set (memories_of others) k m) n below.memory) (add-one k)
      ∙ (swapped (memories_of others) k m below.memory memories_below
      ∙ ap (λ ms. insert ms k m) (same_place (λ (f : FrameSeen). f.memory) others k below is))

  cells_swapped_back : (m : Allocation) → insert (slice_set (memories_of others) k m) k below.memory ≡ insert (memories_of others) (k + 1) m
  cells_swapped_back m =
      sym (swapped (memories_of others) k below.memory m memories_below)
      ∙ (ap (λ ms. insert ms (suc k) m) (same_place (λ (f : FrameSeen). f.memory) others k below is)
      ∙ ap (λ n. insert (memories_of others) n m) (sym (add-one k)))

  -- the frame that calls waits in the place of the one that is entered
  pub memory_entered : (top caller callee : FrameSeen) → caller.memory ≡ top.memory → callee.memory ≡ below.memory
      → insert (memories_of (slice_set others k caller)) (k + 1) callee.memory ≡ insert (memories_of others) k top.memory
  memory_entered top caller callee same_caller same_callee =
      ap (λ ms. insert ms (k + 1) callee.memory) (map-set (λ (f : FrameSeen). f.memory) others k caller)
      ∙ (ap (λ m. insert (slice_set (memories_of others) k m) (k + 1) callee.memory) same_caller
      ∙ (ap (insert (slice_set (memories_of others) k top.memory) (k + 1)) same_callee ∙ cells_swapped top.memory))

  pub waiting_entered : (caller : FrameSeen)
      → reverse (take (k + 1) (contents_of (slice_set others k caller))) ≡ caller.content ∷ reverse (take k (contents_of others))
  waiting_entered caller =
      ap (λ cs. reverse (take (k + 1) cs)) (map-set (λ (f : FrameSeen). f.content) others k caller)
      ∙ put_last (contents_of others) k caller.content contents_below

  -- the frame that is left stands in the place of the one that waited
  pub memory_left : (top : FrameSeen) → insert (memories_of (slice_set others k top)) k below.memory ≡ insert (memories_of others) (k + 1) top.memory
  memory_left top =
      ap (λ ms. insert ms k below.memory) (map-set (λ (f : FrameSeen). f.memory) others k top) ∙ cells_swapped_back top.memory

  pub waiting_left : (top : FrameSeen)
      → reverse (take (k + 1) (contents_of others)) ≡ below.content ∷ reverse (take k (contents_of (slice_set others k top)))
  waiting_left top =
      let here : slice_set (contents_of others) k below.content ≡ contents_of others = same_place (λ (f : FrameSeen). f.content) others k below is in
      let rest : take k (contents_of (slice_set others k top)) ≡ take k (contents_of others) =
      ap (take k) (map-set (λ (f : FrameSeen). f.content) others k top) ∙ take-set-le k (contents_of others) k top.content (omega arith) in
      sym (ap (λ cs. reverse (take (k + 1) cs)) here)
      ∙ (put_last (contents_of others) k below.content contents_below ∙ ap (λ cs. below.content ∷ reverse cs) (sym rest))

-- as many frames wait as the count says
pub waiting_count : (s : Inside) → IsThreadStack s → length (frames_of s).waiting ≡ s.waiting
waiting_count s is =
    let contents = contents_of s.others.items in
    length-reverse (take s.waiting contents)
    ∙ length-take-le s.waiting contents (omega (arith, is.within, is.others, length-map s.others.items (λ (f : FrameSeen). f.content)))
