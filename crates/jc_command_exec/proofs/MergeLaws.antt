-- Inputs of execution data, read into a store one after the other.
use Rattle.std.proofs.Common.{◌≡◌, ℕ, ◌+◌, ◌<◌, List, [], ◌∷◌, ◌++◌, length, take, slice_index_or, map, Result, Ok, Err, IfOk, IfErr, Vec, Bor, sym, ◌∙◌, ap, subst}
use Rattle.std.proofs.lemmas.List.{take_more}
use Rattle.std.specs.declared.alloc.Global.{Global}
use Rattle.jc_exec.specs.Store.{Store}
use Rattle.jc_exec.specs.Writing.{exec_text}
use Rattle.jc_command_work.specs.declared.output.Write.{Write as Written}
use Rattle.jc_command_work.specs.declared.output.Write.TheVariants as written
use Rattle.jc_command_work.specs.Part.{gives}
use Rattle.jc_command_work.specs.declared.stop.Stop.{Stop}
use Rattle.jc_command_work.specs.declared.stop.Stop.TheVariants as stops
use Rattle.jc_command_exec.specs.ExecData.{IsUnionOf}
use Rattle.jc_command_work.specs.Seen.{write_seen}
use Rattle.jc_command_work.specs.Step.{Word}
use Rattle.jc_command_work.specs.Step.{Write, to_file}
use Rattle.jc_command_exec.specs.Merge.{MergeAnswers, merged}
use Rattle.jc_command_work.specs.Answered.{AnswersWith}

-- the texts up to and with the one at an index
pub text_last : (texts : List (List ℕ)) (i : ℕ) (t : List ℕ) → i < length texts → t ≡ slice_index_or texts i [] → take (i + 1) texts ≡ take i texts ++ t ∷ []
text_last texts i t within is = take_more texts i [] within ∙ ap (λ (u : List ℕ). take i texts ++ u ∷ []) (sym is)

pub merge_writes : (destfile : Bor (List ℕ)) (inputs : List Word) (texts : List (List ℕ)) (store : Store) (v : Vec ℕ Global)
    (r : Result (Vec Written Global) Stop) → IsUnionOf texts store → v.items ≡ exec_text store
    → IfOk r (λ writes. writes.items ≡ written.File destfile v ∷ []) → IfErr r (λ stop. stop ≡ stops.Memory)
    → AnswersWith (MergeAnswers destfile.now inputs texts) r
merge_writes destfile inputs texts store v (Ok writes) u text is memory =
    subst (λ (ws : List Write). MergeAnswers destfile.now inputs texts (gives ws))
    (sym (ap (map write_seen) is ∙ ap (λ (bytes : List ℕ). to_file destfile.now bytes ∷ []) text)) (merged store u)
merge_writes destfile inputs texts store v (Err stop) u text is memory =
    subst (λ (s : Stop). AnswersWith (MergeAnswers destfile.now inputs texts) (Err s)) (sym memory) tt
