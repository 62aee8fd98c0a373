-- The answers of runs, one behind the other, are those to all files.
use Rattle.std.proofs.Common.{ℕ, suc, ◌≡◌, ◌+◌, ◌*◌, ◌/◌, ◌%◌, ◌<◌, ◌≤◌, min, List, [], ◌∷◌, ◌++◌, length, get_or, take, drop, map, Result, Ok, IfOk}
use Rattle.std.proofs.Common.{Err, Vec, sym, ◌∙◌, ap, subst, arith, ⊎_elim, div-add-mod'}
use Rattle.std.proofs.Math.Nat.{add-mul, one-mul}
use Rattle.std.proofs.lemmas.Bool.{cases_lt}
use Rattle.std.proofs.lemmas.Nat.{mod_below}
use Rattle.std.proofs.lemmas.List.{take-append-drop, take_more, drop-drop, length-map, length-drop, get_or-map}
use Rattle.std.proofs.lemmas.Slice.Zip.{AllZip-long, all_zipped_more}
use Rattle.std.specs.List.{AllZip, flat_map}
use Rattle.std.specs.declared.alloc.Global.{Global}
use Rattle.std.specs.Fork.{slice_chunk}

-- chunks of a size are enough for a list
enough : (count len size : ℕ) → 0 < size → count ≡ len / size + min 1 (len % size) → len ≤ count * size
enough count len size some is =
    let q = len / size in
    let r = len % size in
    let whole : q * size + r ≡ len = div-add-mod' len size in
    let part : r < size = mod_below len size some in
    ⊎_elim
    (λ h. let e : count ≡ q + 1 = omega arith in let w = ap (λ n. n * size) e ∙ add-mul q 1 size in let o = one-mul size in omega arith)
    (λ h. let e : count ≡ q = omega arith in let w = ap (λ n. n * size) e in omega arith)
    (cases_lt 0 r)

module _ {X Y : Type 0} (R : X → Y → Type 0) where
  zip_joined : (xs : List X) (ys : List Y) (us : List X) (vs : List Y) → AllZip R xs ys → AllZip R us vs → AllZip R (xs ++ us) (ys ++ vs)
  zip_joined [] [] us vs front back = back
  zip_joined [] (y ∷ ys) us vs front back = absurd front
  zip_joined (x ∷ xs) [] us vs front back = absurd front
  zip_joined (x ∷ xs) (y ∷ ys) us vs front back = (front.0, zip_joined xs ys us vs front.1 back)

  -- one more file of a run has its answer
  pub answered_more : (run : List X) (i : ℕ) (x : X) (ys zs : List Y) (y : Y) → i < length run → x ≡ get_or run i x → AllZip R (take i run) ys → R x y
      → zs ≡ ys ++ y ∷ [] → AllZip R (take (i + 1) run) zs
  answered_more run i x ys zs y less is zip own are =
      let more = take_more run i x less ∙ ap (λ (b : X). take i run ++ b ∷ []) (sym is) in
      subst (λ (l : List X). AllZip R l zs) (sym more) (subst (AllZip R (take i run ++ x ∷ [])) (sym are) (all_zipped_more R (take i run) ys x y zip own))

  module _ {V : Type 0} (f : V → List Y) (size : ℕ) where
    -- as many runs as there are chunks, each with the answers to its chunk
    runs_zipped : (xs : List X) (runs : List V) → length xs ≤ length runs * size
        → ((n : ℕ) (d : V) → n < length runs → AllZip R (slice_chunk xs size n) (f (get_or runs n d))) → AllZip R xs (flat_map f runs)
    runs_zipped [] [] short each = tt
    runs_zipped (x ∷ xs) [] short each = absurd (omega (arith, short))
    runs_zipped xs (run ∷ runs) short each =
        let none : 0 * size ≡ 0 = omega arith in
        let first = subst (λ (k : ℕ). AllZip R (take size (drop k xs)) (f run)) none (each 0 run (omega arith)) in
        let next : (n : ℕ) → drop (suc n * size) xs ≡ drop (n * size) (drop size xs) =
        λ n. ap (λ (k : ℕ). drop k xs) (omega arith) ∙ sym (drop-drop (n * size) size xs) in
        let fewer : length (drop size xs) ≤ length runs * size = omega (arith, short, length-drop size xs) in
        let rest = runs_zipped (drop size xs) runs fewer
        (λ n d less. subst (λ (l : List X). AllZip R (take size l) (f (get_or runs n d))) (next n) (each (suc n) d (omega (arith, less)))) in
        subst (λ (l : List X). AllZip R l (f run ++ flat_map f runs)) (take-append-drop size xs)
        (zip_joined (take size xs) (f run) (drop size xs) (flat_map f runs) first rest)

    -- what is known of each run, where all of them were made
    pub record IsAnswered {E : Type 0} (xs : List X) (n : ℕ) (r : Result V E) : Type 0 where
      pub files : List X
      pub are : files ≡ slice_chunk xs size n
      pub answers : IfOk r (λ run. AllZip R files (f run))

    made_zipped : {E : Type 0} (xs : List X) (n : ℕ) (r : Result V E) (run : V) → r ≡ Ok run → IsAnswered xs n r → AllZip R (slice_chunk xs size n) (f run)
    made_zipped xs n r run is a = subst (λ (l : List X). AllZip R l (f run)) a.are (subst (λ (s : Result V _). IfOk s (λ v. AllZip R a.files (f v))) is a.answers)

    pub all_zipped : {E : Type 0} (xs : List X) (results : List (Result V E)) (made : List V) → results ≡ map Ok made → 0 < size
        → length results ≡ length xs / size + min 1 (length xs % size)
        → ((n : ℕ) (d : Result V E) → n < length results → IsAnswered xs n (get_or results n d)) → AllZip R xs (flat_map f made)
    all_zipped {E} xs results made are some many each =
        let count : length results ≡ length made = ap length are ∙ length-map made Ok in
        let short : length xs ≤ length made * size = subst (λ (k : ℕ). length xs ≤ k * size) count (enough (length results) (length xs) size some many) in
        runs_zipped xs made short (λ n d less. let e : Result V E = Ok d in
        made_zipped xs n (get_or results n e) (get_or made n d) (ap (λ (l : List (Result V E)). get_or l n e) are ∙ get_or-map Ok made n d e less)
        (each n e (omega (arith, less, count))))

module _ {X Y E : Type 0} (R : X → Y → Type 0) (xs : List X) where
  pub answers_are : (r : Result (Vec Y Global) E) (ys : List Y) → IfOk r (λ v. v.items ≡ ys) → AllZip R xs ys → IfOk r (λ v. AllZip R xs v.items)
  answers_are (Ok v) ys are zip = subst (AllZip R xs) (sym are) zip
  answers_are (Err e) ys are zip = tt

  pub answers_count : (r : Result (Vec Y Global) E) → IfOk r (λ v. AllZip R xs v.items) → IfOk r (λ v. length v.items ≡ length xs)
  answers_count (Ok v) zip = AllZip-long R xs v.items zip
  answers_count (Err e) zip = tt

module _ {X Y : Type 0} {R : X → Y → Type 0} (S : X → Y → Type 0) where
  -- what follows of each answer
  pub zip_read : (xs : List X) (ys : List Y) → AllZip R xs ys → ((x : X) (y : Y) → R x y → S x y) → AllZip S xs ys
  zip_read [] [] zip reads = tt
  zip_read [] (y ∷ ys) zip reads = absurd zip
  zip_read (x ∷ xs) [] zip reads = absurd zip
  zip_read (x ∷ xs) (y ∷ ys) zip reads = (reads x y zip.0, zip_read xs ys zip.1 reads)

  pub answers_read : {E : Type 0} (xs : List X) (r : Result (Vec Y Global) E) → IfOk r (λ v. AllZip R xs v.items)
      → ((x : X) (y : Y) → R x y → S x y) → IfOk r (λ v. AllZip S xs v.items)
  answers_read xs (Ok v) zip reads = zip_read xs v.items zip reads
  answers_read xs (Err e) zip reads = tt
