-- The lines of files, one behind the other.
use Rattle.std.proofs.Common.{◌≡◌, ◌+◌, ◌<◌, ℕ, suc, List, [], ◌++◌, length, map, get_or, sym, ◌∙◌, ap, arith, length-append}
use Rattle.std.proofs.lemmas.List.{length-map, get_or-map, get_or_append_left, get_or-append-add}
use Rattle.jc_exec.specs.declared.hits.ClassHits.{ClassHits}
use Rattle.jc_exec.specs.declared.session.Session.{Session}
use Rattle.jc_exec.specs.Store.{Store}
use Rattle.jc_command_work.specs.Step.{Word}
use Rattle.jc_command_exec.specs.ExecInfo.{file_lines, session_line, record_line}

module _ (path : Word) (store : Store) where
  abbrev of_sessions : List (List ℕ)
  of_sessions = map session_line store.sessions

  abbrev of_records : List (List ℕ)
  of_records = map record_line store.classes

  pub file_size : length (file_lines path store) ≡ length store.sessions + length store.classes + 1
  file_size = omega (arith, length-append of_sessions of_records, length-map store.sessions session_line, length-map store.classes record_line)

  pub session_at : (p k : ℕ) (s : Session) → p ≡ suc k → k < length store.sessions → get_or (file_lines path store) p [] ≡ session_line (get_or store.sessions k s)
  session_at p k s is within =
      ap (λ (n : ℕ). get_or (file_lines path store) n []) is ∙ get_or_append_left of_sessions of_records [] k (omega (arith, within, length-map store.sessions session_line))
      ∙ get_or-map session_line store.sessions k s [] within

  pub record_at : (p k : ℕ) (c : ClassHits) → p ≡ suc (length store.sessions + k) → k < length store.classes
      → get_or (file_lines path store) p [] ≡ record_line (get_or store.classes k c)
  record_at p k c is within =
      let size = length-map store.sessions session_line in
      ap (λ (n : ℕ). get_or (file_lines path store) n []) is
      ∙ ap (λ (n : ℕ). get_or (of_sessions ++ of_records) (n + k) []) (sym size)
      ∙ get_or-append-add of_sessions of_records k []
      ∙ get_or-map record_line store.classes k c [] within
