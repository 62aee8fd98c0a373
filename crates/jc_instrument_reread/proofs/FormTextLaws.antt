-- Texts of forms, one item behind the other.
use Rattle.std.proofs.Common.{ℕ, List, [], ◌∷◌, ◌++◌, length, map, refl, sym}
use Rattle.std.specs.List.{AllByRecursion, flat_map}
use Rattle.std.proofs.lemmas.List.{append-nil}
use Rattle.std.proofs.lemmas.List.Concat.{flat_map-cons}
use Rattle.jc_bytes.specs.Counted.{counted}
use Rattle.jc_bytes.specs.Decoder.{IsBig}
use Rattle.jc_bytes.specs.Grammar.{Grammar, times}

-- so many texts of a form are a text of as many items
pub times_text : {X Y : Type 0} (g : Grammar Y) (text : X → List ℕ) (f : X → Y) (xs : List X)
    → AllByRecursion (λ x. g.Text (text x) (f x)) xs → (times (length xs) g).Text (flat_map text xs) (map f xs)
times_text g text f [] all = (refl, refl)
times_text g text f (x ∷ xs) all = (
  f x,
  text x,
  flat_map text xs,
  flat_map-cons text x xs,
  all.0,
  (map f xs, flat_map text xs, [], sym (append-nil (flat_map text xs)), times_text g text f xs all.1, (refl, refl)),
)

-- with their number in front of them
pub counted_form_text : {X Y : Type 0} (g : Grammar Y) (text : X → List ℕ) (f : X → Y) (count : List ℕ) (xs : List X)
    → IsBig 2 count (length xs) → AllByRecursion (λ x. g.Text (text x) (f x)) xs
    → (counted g).Text (count ++ flat_map text xs) (map f xs)
counted_form_text g text f count xs big all = (length xs, count, flat_map text xs, refl, big, times_text g text f xs all)
