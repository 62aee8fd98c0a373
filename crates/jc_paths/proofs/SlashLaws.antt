-- A slash at the end of a word.
use Rattle.std.proofs.Common.{◌≡◌, Bool, true, false, ◌++◌, take, drop, length, ◌-◌, ◌≢◌, codes, refl, sym, ◌∙◌, ap}
use Rattle.std.specs.Cmp.Lexicographic.{same_text}
use Rattle.std.proofs.lemmas.List.{take-append-drop}
use Rattle.jc_paths.specs.Paths.{Word, ends_with_slash}

slash_behind : (w : Word) → ends_with_slash w ≡ true → w ≡ take (length w - 1) w ++ codes "/"
slash_behind w h = sym (take-append-drop (length w - 1) w) ∙ ap (λ (l : Word). take (length w - 1) w ++ l) (sym (same_text (codes "/") (drop (length w - 1) w) (sym h)))

pub no_slash_behind : (w : Word) → ((front : Word) → w ≢ front ++ codes "/") → ends_with_slash w ≡ false
no_slash_behind w never = by (ends_with_slash w) refl
  where
    by : (b : Bool) → ends_with_slash w ≡ b → b ≡ false
    by true e = absurd (never (take (length w - 1) w) (slash_behind w e))
    by false e = refl
