-- The files of dumps, one after the other.
use Rattle.std.proofs.Common.{◌≡◌, ℕ, ◌+◌, List, [], ◌∷◌, ◌++◌, map, String, string_bytes, sym, ◌∙◌, ap, arith}
use Rattle.std.proofs.lemmas.List.{map-append}
use Rattle.std.proofs.lemmas.List.FromFn.{map-range_with_len_more}
use Rattle.std.specs.List.{range_with_len}
use Rattle.std.specs.declared.alloc.Global.{Global}
use Rattle.jc_paths.specs.Paths.{Word, words_of}
use Rattle.jc_command_dumped.specs.DumpedAnswers.{dump_path}

-- one more file
pub path_put : (dir : Word) (now new : List (String Global)) (path : String Global) (k : ℕ) → words_of now ≡ map (dump_path dir) (range_with_len 0 k)
    → string_bytes path ≡ dump_path dir k → new ≡ now ++ path ∷ [] → words_of new ≡ map (dump_path dir) (range_with_len 0 (k + 1))
path_put dir now new path k so_far named grows =
    ap words_of grows ∙ map-append string_bytes now (path ∷ []) ∙ ap (λ (ws : List Word). ws ++ string_bytes path ∷ []) so_far
    ∙ ap (λ (w : Word). map (dump_path dir) (range_with_len 0 k) ++ w ∷ []) named ∙ sym (map-range_with_len_more (dump_path dir) 0 k k (omega arith))
