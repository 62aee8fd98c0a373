-- The files that words name: how listing them ends a command, and that it writes nothing.
use Rattle.std.proofs.Common.{List, [], ◌∷◌, ◌++◌, refl, sym}
use Rattle.jc_paths.specs.Paths.{FileText, plain, folder}
use Rattle.jc_command_work.specs.Step.{Word, to_list, has_read, has_no, has_listed, has_written}
use Rattle.jc_command_work.specs.Part.{End, stops, listing}
use Rattle.jc_command_work.specs.Folders.{paths_of, all_paths, files_of, once}
use Rattle.jc_command_work.specs.Causes.{EndsIn}
use Rattle.jc_command_work.proofs.OneWork.{gives_or_stops, not_over}
use Rattle.jc_command_work.proofs.CauseLaws.{ends_then, ends_giving}
use Rattle.jc_command_work.proofs.NoWrites.{WritesNone, none_giving, none_then}

-- ---- ends

module _ (Is : End → Type 0) where
  ends_listing : (path : Word) → EndsIn Is (listing path)
  ends_listing path [] end is = absurd (not_over (stops end) (to_list path) tt is)
  ends_listing path (has_listed f ps ∷ []) end is = absurd (gives_or_stops ps end (sym is.1))
  ends_listing path (has_listed f ps ∷ s ∷ ss) end is = absurd is
  ends_listing path (has_read p b ∷ ss) end is = absurd is
  ends_listing path (has_no p ∷ ss) end is = absurd is
  ends_listing path (has_written v ∷ ss) end is = absurd is

  ends_paths : (file : FileText) → EndsIn Is (paths_of file)
  ends_paths (plain path) = ends_giving Is (path ∷ [])
  ends_paths (folder path) = ends_listing path

  ends_all_paths : (files : List FileText) → EndsIn Is (all_paths files)
  ends_all_paths [] = ends_giving Is []
  ends_all_paths (file ∷ files) =
      ends_then Is (paths_of file) _ (ends_paths file) (λ paths. ends_then Is (all_paths files) _ (ends_all_paths files) (λ more. ends_giving Is (paths ++ more)))

  -- a listing ends a command nowhere by itself
  pub ends_files : (files : List FileText) → EndsIn Is (files_of files)
  ends_files files = ends_then Is (all_paths files) _ (ends_all_paths files) (λ paths. ends_giving Is (once [] paths))

-- ---- no writes

none_listing : (path : Word) → WritesNone (listing path)
none_listing path [] o is = refl
none_listing path (has_listed f ps ∷ []) o is = refl
none_listing path (has_listed f ps ∷ s ∷ ss) o is = absurd is
none_listing path (has_read p b ∷ ss) o is = absurd is
none_listing path (has_no p ∷ ss) o is = absurd is
none_listing path (has_written v ∷ ss) o is = absurd is

none_paths : (file : FileText) → WritesNone (paths_of file)
none_paths (plain path) = none_giving (path ∷ [])
none_paths (folder path) = none_listing path

none_all_paths : (files : List FileText) → WritesNone (all_paths files)
none_all_paths [] = none_giving []
none_all_paths (file ∷ files) = none_then (paths_of file) _ (none_paths file) (λ paths. none_then (all_paths files) _ (none_all_paths files) (λ more. none_giving (paths ++ more)))

pub none_files : (files : List FileText) → WritesNone (files_of files)
none_files files = none_then (all_paths files) _ (none_all_paths files) (λ paths. none_giving (once [] paths))
