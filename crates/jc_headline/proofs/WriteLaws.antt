-- What the writes of `cover` leave, where files read back as they were written.
use Rattle.std.proofs.Common.{◌≡◌, ℕ, List, [], ◌∷◌, ◌++◌, map, Option, Some, option_map, unwrap_or, refl, sym, ◌∙◌, ap, subst, append_assoc, append-nil}
use Rattle.std.specs.List.{AllByRecursion}
use Rattle.std.specs.FinMap.{get, insert}
use Rattle.jc_outside.specs.Outside.{FileMap}
use Rattle.jc_outside.proofs.HeldLaws.{get_there, get_here}
use Rattle.jc_paths.specs.Paths.{in_folder}
use Rattle.jc_command_work.specs.Step.{Word, Outside, Landed, Write, to_file, to_out, to_err, after_write, grown}
use Rattle.jc_command_work.specs.Prefix.{after_writes}
use Rattle.jc_command_classes.specs.Instrument.{Decision, refused_file, accepted_file, file_writes}
use Rattle.jc_headline.specs.CoverWork.{LookedFile, all_file_writes, accepted, kept_if, paths_in, targets}
use Rattle.jc_headline.specs.CoverRun.{AreRead, IsNone, AreDistinct}
use Rattle.jc_headline.specs.Headline.{as_written, written_bytes, all_written, stored, out_text, err_text}

-- all paths that files are written to
abbrev pub all_targets : Word → List LookedFile → List Word
all_targets dest looked = map (in_folder dest) (paths_in looked)

-- ---- maps

-- ---- what writes leave, where files read back as they were written

abbrev pub map_after : FileMap → List Write → FileMap
map_after m [] = m
map_after m (to_file path bytes ∷ ws) = map_after (insert m path bytes) ws
map_after m (to_out text ∷ ws) = map_after m ws
map_after m (to_err text ∷ ws) = map_after m ws

pub contents_after : (w : Outside) (m : FileMap) (ws : List Write) → w.contents ≡ Some m → (after_writes as_written w ws).contents ≡ Some (map_after m ws)
contents_after w m [] is = is
contents_after w m (to_file path bytes ∷ ws) is = contents_after (after_write as_written w (to_file path bytes)) (insert m path bytes) ws
    (ap (λ (c : Option FileMap). option_map (λ (n : FileMap). insert n path bytes) c) is)
contents_after w m (to_out text ∷ ws) is = contents_after (after_write as_written w (to_out text)) m ws is
contents_after w m (to_err text ∷ ws) is = contents_after (after_write as_written w (to_err text)) m ws is

module _ (landed : Landed) where
  pub out_after : (w : Outside) (t : List ℕ) (ws : List Write) → w.out ≡ Some t → (after_writes landed w ws).out ≡ Some (t ++ out_text ws)
  out_after w t [] is = is ∙ ap (λ (x : List ℕ). Some x) (sym (append-nil t))
  out_after w t (to_file path bytes ∷ ws) is = out_after (after_write landed w (to_file path bytes)) t ws is
  out_after w t (to_out text ∷ ws) is = out_after (after_write landed w (to_out text)) (t ++ text) ws (ap (λ (o : Option (List ℕ)). grown o text) is)
      ∙ ap (λ (x : List ℕ). Some x) (append_assoc t text (out_text ws))
  out_after w t (to_err text ∷ ws) is = out_after (after_write landed w (to_err text)) t ws is

  pub err_after : (w : Outside) (t : List ℕ) (ws : List Write) → w.err ≡ Some t → (after_writes landed w ws).err ≡ Some (t ++ err_text ws)
  err_after w t [] is = is ∙ ap (λ (x : List ℕ). Some x) (sym (append-nil t))
  err_after w t (to_file path bytes ∷ ws) is = err_after (after_write landed w (to_file path bytes)) t ws is
  err_after w t (to_out text ∷ ws) is = err_after (after_write landed w (to_out text)) t ws is
  err_after w t (to_err text ∷ ws) is = err_after (after_write landed w (to_err text)) (t ++ text) ws (ap (λ (o : Option (List ℕ)). grown o text) is)
      ∙ ap (λ (x : List ℕ). Some x) (append_assoc t text (err_text ws))

pub out-append : (xs ys : List Write) → out_text (xs ++ ys) ≡ out_text xs ++ out_text ys
out-append [] ys = refl
out-append (to_file path bytes ∷ xs) ys = out-append xs ys
out-append (to_out text ∷ xs) ys = ap (λ (l : List ℕ). text ++ l) (out-append xs ys) ∙ sym (append_assoc text (out_text xs) (out_text ys))
out-append (to_err text ∷ xs) ys = out-append xs ys

pub err-append : (xs ys : List Write) → err_text (xs ++ ys) ≡ err_text xs ++ err_text ys
err-append [] ys = refl
err-append (to_file path bytes ∷ xs) ys = err-append xs ys
err-append (to_out text ∷ xs) ys = err-append xs ys
err-append (to_err text ∷ xs) ys = ap (λ (l : List ℕ). text ++ l) (err-append xs ys) ∙ sym (append_assoc text (err_text xs) (err_text ys))

pub map_after-append : (m : FileMap) (xs ys : List Write) → map_after m (xs ++ ys) ≡ map_after (map_after m xs) ys
map_after-append m [] ys = refl
map_after-append m (to_file path bytes ∷ xs) ys = map_after-append (insert m path bytes) xs ys
map_after-append m (to_out text ∷ xs) ys = map_after-append m xs ys
map_after-append m (to_err text ∷ xs) ys = map_after-append m xs ys

-- ---- the files in the folder

module _ (dest : Word) where
  -- the map after a file's two writes
  one_file : (m : FileMap) (l : LookedFile) (d : Decision) → map_after m (file_writes (in_folder dest l.file) l.file l.bytes d) ≡ insert m (in_folder dest l.file) (stored l d)
  one_file m l (refused_file why) = refl
  one_file m l (accepted_file a) = refl

  first_file : (m : FileMap) (l : LookedFile) (ls : List LookedFile) → map_after m (all_file_writes dest (l ∷ ls))
      ≡ map_after (insert m (in_folder dest l.file) (stored l l.decision)) (all_file_writes dest ls)
  first_file m l ls = map_after-append m (file_writes (in_folder dest l.file) l.file l.bytes l.decision) (all_file_writes dest ls)
      ∙ ap (λ (n : FileMap). map_after n (all_file_writes dest ls)) (one_file m l l.decision)

  -- another path stays
  pub stays : (m : FileMap) (q : Word) (ls : List LookedFile) → IsNone q (all_targets dest ls) → get (map_after m (all_file_writes dest ls)) q ≡ get m q
  stays m q [] none = refl
  stays m q (l ∷ ls) none =
      ap (λ (n : FileMap). get n q) (first_file m l ls) ∙ stays (insert m (in_folder dest l.file) (stored l l.decision)) q ls none.1
      ∙ get_there m (in_folder dest l.file) (stored l l.decision) q none.0

  -- each file stands in the folder
  abbrev pub Stand : FileMap → List LookedFile → Type 0
  Stand n ls = AllByRecursion (λ l. get n (in_folder dest l.file) ≡ Some (stored l l.decision)) ls

  pub stand : (m : FileMap) (ls : List LookedFile) → AreDistinct (all_targets dest ls) → Stand (map_after m (all_file_writes dest ls)) ls
  stand m [] distinct = tt
  stand m (l ∷ ls) distinct =
      let n = insert m (in_folder dest l.file) (stored l l.decision) in
      subst (λ (k : FileMap). Stand k (l ∷ ls)) (sym (first_file m l ls))
      (stays n (in_folder dest l.file) ls distinct.0 ∙ get_here m (in_folder dest l.file) (stored l l.decision), stand n ls distinct.1)

  -- what is read back is what was written
  pub same_back : (n : FileMap) (ls : List LookedFile) → Stand n ls → (written : List (List ℕ)) → AreRead (Some n) (targets dest ls) written → written ≡ all_written ls
  same_back n [] stand [] back = refl
  same_back n [] stand (t ∷ ts) back = absurd back
  same_back n (l ∷ ls) stand written back = by l.decision stand.0 back
      (λ ws is. same_back n ls stand.1 ws is)
    where
      here : (bytes : List ℕ) → get n (in_folder dest l.file) ≡ Some bytes → ((ws : List (List ℕ)) → AreRead (Some n) (targets dest ls) ws → ws ≡ all_written ls)
          → (ws : List (List ℕ)) → AreRead (Some n) (in_folder dest l.file ∷ targets dest ls) ws → ws ≡ bytes ∷ all_written ls
      here bytes is more [] back = absurd back
      here bytes is more (t ∷ ts) back =
          let same : t ≡ bytes = ap (λ (o : Option (List ℕ)). unwrap_or o t) (sym back.0.there ∙ is) in
          let rest = more ts back.1 in
          λ i. same i ∷ rest i

      by : (d : Decision) → get n (in_folder dest l.file) ≡ Some (stored l d) → AreRead (Some n) (map (in_folder dest) (paths_in (kept_if d l (accepted ls)))) written
          → ((ws : List (List ℕ)) → AreRead (Some n) (targets dest ls) ws → ws ≡ all_written ls) → written ≡ written_bytes d (all_written ls)
      by (refused_file why) is back more = more written back
      by (accepted_file a) is back more = here a.bytes is more written back
