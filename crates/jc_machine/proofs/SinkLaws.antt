-- A set of hits with one hit more.
use Rattle.std.proofs.Common.{◌≡◌, ℕ, List, [], ◌∷◌, Bool, true, false, length, slice_set, slice_index_or, sym, ap, refl, ◌∙◌, arith}
use Rattle.std.proofs.Math.ListN.{get_or-map}
use Rattle.std.proofs.lemmas.List.{set-get_or, map-set, length-replicate, length-set}
use Rattle.jc_programs.specs.Probes.{no_hits, counts_of}

pub counts_of-no_hits : (counts : List ℕ) → counts_of (no_hits counts) ≡ counts
counts_of-no_hits [] = refl
counts_of-no_hits (n ∷ counts) = grind (arith, length-replicate n false, counts_of-no_hits counts)

-- the hits with one more
abbrev pub with_hit : List (List Bool) → ℕ → ℕ → List (List Bool)
with_hit hits c i = slice_set hits c (slice_set (slice_index_or hits c []) i true)

pub counts_of-with_hit : (hits : List (List Bool)) (c i : ℕ) → counts_of (with_hit hits c i) ≡ counts_of hits
counts_of-with_hit hits c i =
    map-set length hits c (slice_set (slice_index_or hits c []) i true)
    ∙ (ap (slice_set (counts_of hits) c) (length-set (slice_index_or hits c []) i true ∙ sym (get_or-map length hits c [])) ∙ set-get_or (counts_of hits) c 0)
