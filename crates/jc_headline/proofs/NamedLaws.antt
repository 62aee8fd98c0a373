-- Where contents are told, words name one list of paths.
use Rattle.std.proofs.Common.{◌≡◌, List, [], ◌∷◌, ◌++◌, Some, refl, sym, ◌∙◌, ap, ap₂}
use Rattle.std.specs.List.{flat_map}
use Rattle.std.proofs.lemmas.List.Concat.{flat_map-cons}
use Rattle.jc_outside.specs.Outside.{FileMap}
use Rattle.jc_paths.specs.Paths.{FileText, plain, folder}
use Rattle.jc_command_work.specs.Step.{Word}
use Rattle.jc_command_work.specs.Folders.{once}
use Rattle.jc_command_work.proofs.ListedLaws.{is_listing}
use Rattle.jc_headline.specs.Named.{named_by, named_paths, IsNamedBy, AreNamedBy, AreNamed}

module _ (m : FileMap) where
  one_named : (file : FileText) (paths : List Word) → IsNamedBy (Some m) file paths → paths ≡ named_by m file
  one_named (plain path) paths is = is
  one_named (folder path) paths is = is.told

  all_named : (files : List FileText) (paths : List Word) → AreNamedBy (Some m) files paths → paths ≡ flat_map (named_by m) files
  all_named [] paths are = are
  all_named (file ∷ files) paths (here, more, is, are, parts) =
      parts ∙ ap₂ (λ (x y : List Word). x ++ y) (one_named file here is) (all_named files more are) ∙ sym (flat_map-cons (named_by m) file files)

  pub named_are : (files : List FileText) (paths : List Word) → AreNamed (Some m) files paths → paths ≡ named_paths m files
  named_are files paths (all, are, is) = is ∙ ap (once []) (all_named files all are)

  names_one : (file : FileText) → IsNamedBy (Some m) file (named_by m file)
  names_one (plain path) = refl
  names_one (folder path) = is_listing m path

  names_all : (files : List FileText) → AreNamedBy (Some m) files (flat_map (named_by m) files)
  names_all [] = refl
  names_all (file ∷ files) =
      (named_by m file, flat_map (named_by m) files, names_one file, names_all files, flat_map-cons (named_by m) file files)

  pub are_named : (files : List FileText) → AreNamed (Some m) files (named_paths m files)
  are_named files = (flat_map (named_by m) files, names_all files, refl)
