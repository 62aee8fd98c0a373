-- The paths of the files differ, and so do those to which they are written.
use Rattle.std.proofs.Common.{◌≡◌, ℕ, Bool, true, false, cond, ◌||◌, List, [], ◌∷◌, ◌++◌, codes, map, refl, sym, ◌∙◌, ap}
use Rattle.std.specs.List.{list_any}
use Rattle.std.specs.Str.{bytes_eq}
use Rattle.std.proofs.lemmas.List.{append_cancel_left}
use Rattle.std.proofs.lemmas.Bool.{true≢false}
use Rattle.jc_bytes.proofs.TextEqualLaws.{same_bytes}
use Rattle.jc_command_work.specs.Step.{Word}
use Rattle.jc_paths.specs.Paths.{ends_with_slash, in_folder}
use Rattle.jc_command_work.specs.Folders.{once}
use Rattle.jc_headline.specs.CoverWork.{LookedFile, AreLooked, paths_in}
use Rattle.jc_headline.specs.CoverRun.{IsNone, AreDistinct}

or_true : (a b : Bool) → b ≡ true → (a || b) ≡ true
or_true true b e = refl
or_true false b e = e

true_or : (a b : Bool) → a ≡ true → (a || b) ≡ true
true_or a b e = ap (λ (x : Bool). x || b) e

abbrev was_seen : List Word → Word → Bool
was_seen seen path = list_any (λ p. bytes_eq p path) seen

none_seen : (seen paths : List Word) (q : Word) → was_seen seen q ≡ true → IsNone q (once seen paths)
none_seen seen [] q is = tt
none_seen seen (p ∷ ps) q is = by (was_seen seen p) refl (none_seen seen ps q is) (none_seen (p ∷ seen) ps q (or_true (bytes_eq p q) (was_seen seen q) is))
  where
    by : (b : Bool) → was_seen seen p ≡ b → IsNone q (once seen ps) → IsNone q (once (p ∷ seen) ps) → IsNone q (cond b (once seen ps) (p ∷ once (p ∷ seen) ps))
    by true e old new = old
    by false e old new = ((λ same. true≢false (sym is ∙ ap (was_seen seen) same ∙ e)), new)

pub distinct_once : (seen paths : List Word) → AreDistinct (once seen paths)
distinct_once seen [] = tt
distinct_once seen (p ∷ ps) = by (was_seen seen p) (distinct_once seen ps) (none_seen (p ∷ seen) ps p (true_or (bytes_eq p p) (was_seen seen p) (same_bytes p p refl)), distinct_once (p ∷ seen) ps)
  where
    by : (b : Bool) → AreDistinct (once seen ps) → AreDistinct (p ∷ once (p ∷ seen) ps) → AreDistinct (cond b (once seen ps) (p ∷ once (p ∷ seen) ps))
    by true old new = old
    by false old new = new

one_target : (dest p q : Word) → in_folder dest p ≡ in_folder dest q → p ≡ q
one_target dest p q e = by (ends_with_slash dest) e
  where
    by : (b : Bool) → cond b (dest ++ p) (dest ++ (codes "/" ++ p)) ≡ cond b (dest ++ q) (dest ++ (codes "/" ++ q)) → p ≡ q
    by true same = append_cancel_left dest p q same
    by false same = append_cancel_left (codes "/") p q (append_cancel_left dest (codes "/" ++ p) (codes "/" ++ q) same)

none_target : (dest q : Word) (ps : List Word) → IsNone q ps → IsNone (in_folder dest q) (map (in_folder dest) ps)
none_target dest q [] none = tt
none_target dest q (p ∷ ps) none = ((λ same. none.0 (one_target dest q p same)), none_target dest q ps none.1)

pub distinct_targets : (dest : Word) (ps : List Word) → AreDistinct ps → AreDistinct (map (in_folder dest) ps)
distinct_targets dest [] distinct = tt
distinct_targets dest (p ∷ ps) distinct = (none_target dest p ps distinct.0, distinct_targets dest ps distinct.1)

pub looked_files : (paths : List Word) (read : List (List ℕ)) (l : List LookedFile) → AreLooked paths read l → paths_in l ≡ paths
looked_files [] [] l is = ap paths_in is
looked_files [] (t ∷ ts) l is = absurd is
looked_files (p ∷ ps) [] l is = absurd is
looked_files (p ∷ ps) (t ∷ ts) l (d, rest, decision, parts, more) = ap paths_in parts ∙ ap (λ (l : List Word). p ∷ l) (looked_files ps ts rest more)
