-- Parts that come to what they can, by their steps.
use Rattle.std.proofs.Common.{◌≡◌, ℕ, List, [], ◌∷◌, ◌++◌, Some, inl, inr, refl, sym, subst}
use Rattle.std.specs.List.{flat_map}
use Rattle.std.proofs.lemmas.List.Concat.{flat_map-cons}
use Rattle.jc_outside.specs.Outside.{FileMap, IsListing}
use Rattle.jc_paths.specs.Paths.{FileText, plain, folder}
use Rattle.jc_command_work.specs.Step.{Word, Outside, Landed, Write, has_read, has_listed, has_written, after_write, IsRead}
use Rattle.jc_command_work.specs.Part.{done, gives, stops, giving, ending, making, never, reading, listing, writing, reading_all, writing_all}
use Rattle.jc_command_work.specs.Ending.{CameTo}
use Rattle.jc_command_work.specs.Folders.{once, paths_of, all_paths, files_of}
use Rattle.jc_command_work.specs.Prefix.{after_writes}
use Rattle.jc_command_work.proofs.Behind.{came_then}
use Rattle.jc_command_work.proofs.ListedLaws.{listed, is_listing}
use Rattle.jc_command_work.proofs.Reaching.{was_decided}
use Rattle.jc_headline.specs.CoverWork.{LookedFile, AreLooked, all_file_writes, instrumenting}
use Rattle.jc_headline.specs.CoverRun.{AreRead}
use Rattle.jc_headline.specs.Named.{named_by, named_paths}

module _ (landed : Landed) where
  pub was_given : {X : Type 0} (w : Outside) (x : X) → CameTo landed (giving x) w w (gives x)
  was_given w x = record { steps = []; comes = refl; begun = inl refl; fit = tt; stand = refl }

  pub was_done : {X : Type 0} (w : Outside) → CameTo landed (ending {X = X} done) w w (stops done)
  was_done w = record { steps = []; comes = refl; begun = inl refl; fit = tt; stand = refl }

  -- ---- reads

  pub was_read : (w : Outside) (path text : List ℕ) → IsRead w.contents path text → CameTo landed (reading path) w w (gives text)
  was_read w path text is =
      record { steps = has_read path text ∷ []; comes = (refl, refl); begun = inr ([], has_read path text, refl, refl); fit = (is, tt); stand = refl }

  pub were_read : (w : Outside) (paths : List Word) (read : List (List ℕ)) → AreRead w.contents paths read → CameTo landed (reading_all paths) w w (gives read)
  were_read w [] [] are = was_given w []
  were_read w [] (t ∷ ts) are = absurd are
  were_read w (p ∷ ps) [] are = absurd are
  were_read w (p ∷ ps) (t ∷ ts) are =
      came_then landed (reading p) _ w t w w (gives (t ∷ ts)) (was_read w p t are.0)
      (came_then landed (reading_all ps) _ w ts w w (gives (t ∷ ts)) (were_read w ps ts are.1) (was_given w (t ∷ ts)))

  -- ---- writes

  pub was_written : (w : Outside) (write : Write) → CameTo landed (writing write) w (after_write landed w write) (gives tt)
  was_written w write =
      record { steps = has_written write ∷ []; comes = (refl, refl); begun = inr ([], has_written write, refl, refl); fit = (tt, tt); stand = refl }

  were_written : (w : Outside) (writes : List Write) → CameTo landed (writing_all writes) w (after_writes landed w writes) (gives tt)
  were_written w [] = was_given w tt
  were_written w (v ∷ vs) =
      came_then landed (writing v) _ w tt (after_write landed w v) (after_writes landed w (v ∷ vs)) (gives tt) (was_written w v) (were_written (after_write landed w v) vs)

  pub writes-append : (w : Outside) (xs ys : List Write) → after_writes landed w (xs ++ ys) ≡ after_writes landed (after_writes landed w xs) ys
  writes-append w [] ys = refl
  writes-append w (x ∷ xs) ys = writes-append (after_write landed w x) xs ys

  pub was_instrumented : (w : Outside) (dest : Word) (paths : List Word) (read : List (List ℕ)) (looked : List LookedFile) → AreLooked paths read looked
      → CameTo landed (instrumenting dest paths read) w (after_writes landed w (all_file_writes dest looked)) (gives looked)
  was_instrumented w dest paths read looked are =
      let w' = after_writes landed w (all_file_writes dest looked) in
      came_then landed (making (AreLooked paths read)) _ w looked w w' (gives looked) (was_decided landed (AreLooked paths read) never w looked are)
      (came_then landed (writing_all (all_file_writes dest looked)) _ w tt w' w' (gives looked) (were_written w (all_file_writes dest looked)) (was_given w' looked))

  -- ---- folders

  module _ (w : Outside) (m : FileMap) (told : w.contents ≡ Some m) where
    was_listed : (path : Word) → CameTo landed (listing path) w w (gives (listed m path))
    was_listed path = record {
      steps = has_listed path (listed m path) ∷ [];
      comes = (refl, refl);
      begun = inr ([], has_listed path (listed m path), refl, refl);
      fit = (subst (λ c. IsListing c path (listed m path)) (sym told) (is_listing m path), tt);
      stand = refl;
    }

    were_paths : (file : FileText) → CameTo landed (paths_of file) w w (gives (named_by m file))
    were_paths (plain path) = was_given w (path ∷ [])
    were_paths (folder path) = was_listed path

    were_named : (files : List FileText) → CameTo landed (all_paths files) w w (gives (flat_map (named_by m) files))
    were_named [] = was_given w []
    were_named (file ∷ files) =
        let here = named_by m file in
        let more = flat_map (named_by m) files in
        subst (λ (l : List Word). CameTo landed (all_paths (file ∷ files)) w w (gives l)) (sym (flat_map-cons (named_by m) file files))
        (came_then landed (paths_of file) _ w here w w (gives (here ++ more)) (were_paths file)
        (came_then landed (all_paths files) _ w more w w (gives (here ++ more)) (were_named files) (was_given w (here ++ more))))

    pub were_files : (files : List FileText) → CameTo landed (files_of files) w w (gives (named_paths m files))
    were_files files =
        let all = flat_map (named_by m) files in
        came_then landed (all_paths files) _ w all w w (gives (once [] all)) (were_named files) (was_given w (once [] all))
