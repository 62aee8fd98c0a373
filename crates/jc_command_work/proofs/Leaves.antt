-- One call outside, and what it means for the part that makes it.
use Rattle.std.proofs.Common.{◌≡◌, ◌≤◌, ℕ, List, [], ◌∷◌, length, Option, None, Some, option_map, map, Ok, Err, Vec, String, string_bytes, Bor, inl, inr, refl, sym, ap, subst}
use Rattle.std.specs.FinMap.{get, insert}
use Rattle.std.specs.declared.alloc.Global.{Global}
use Rattle.jc_outside.specs.declared.files.FileFault.{FileFault}
use Rattle.jc_outside.specs.declared.files.FileFault.TheVariants as faults
use Rattle.jc_outside.specs.declared.sink.SinkFault.{SinkFault}
use Rattle.jc_bytes.specs.ByteLists.{AreBytes}
use Rattle.jc_bytes.specs.Reader.{most_read}
use Rattle.jc_outside.specs.Outside.{ListGives, ListCause, FileMap, LastFailed, last_failed, failed_at, WhereTold, ReadGives, ReadCause, WriteLeaves, WriteCause, PutLeaves, PutCause}
use Rattle.jc_command_work.specs.Step.{Rises, Outside, outside, Counts, counts, Landed, Write, to_file, to_out, to_err, Call, to_read, to_list, to_write, has_read, has_no, has_listed, has_written, after_write, grown, Broken, FileBroken, TextBroken, CountRose, CantRead, Told}
use Rattle.jc_command_work.specs.Part.{failure, unread, wants, gives, Part, reading, listing, writing}
use Rattle.jc_command_work.specs.Ending.{CameTo, Stops}
use Rattle.jc_command_work.specs.Seen.{stop_seen, read_stop}

-- ---- a write

pub wrote : (landed : Landed) (old new : Outside) (f f' : Counts) (write : Write) → f' ≡ f → new ≡ after_write landed old write → (f' ≡ f) × CameTo landed (writing write) old new (gives tt)
wrote landed old new f f' write same is =
    (same, record { steps = has_written write ∷ []; comes = (refl, refl); begun = inr ([], has_written write, refl, refl); fit = (tt, tt); stand = is })

-- a call that a part wants first, and that failed
pub failed_first : {X : Type 0} (landed : Landed) (part : Part X) (old new : Outside) (f f' : Counts) (call : Call) → part [] (wants call) → Broken landed old call new → CountRose call f f'
    → Stops landed part old new f f' (Some (failure call))
failed_first landed part old new f f' call first broken rose = inr (record {
  call = call;
  stands = old;
  came = record { steps = []; comes = first; begun = inl refl; fit = tt; stand = refl };
  broken = broken;
  rose = rose;
  is = refl;
})

-- no step was made, and memory was refused
pub nothing_yet : {X : Type 0} (landed : Landed) (part : Part X) (old : Outside) (f : Counts) → Stops landed part old old f f None
nothing_yet landed part old f = (refl, record { steps = []; begun = inl refl; fit = tt; stand = refl })

write_rises : (old new : ℕ) (f : FileFault) → WriteCause old new (Err f) → Rises old new
write_rises old new faults.Failed cause = cause
write_rises old new faults.Missing cause = absurd cause
write_rises old new faults.TooLarge cause = absurd cause
write_rises old new faults.Memory cause = absurd cause

file_written : (landed path : List ℕ) (old new : Option FileMap) → WriteLeaves landed path old new (Ok tt) → new ≡ option_map (λ (m : FileMap). insert m path landed) old
file_written landed path None new leaves = leaves
file_written landed path (Some m) new leaves = leaves

file_broken : (landed path : List ℕ) (old new : Option FileMap) (f : FileFault) → WriteLeaves landed path old new (Err f) → FileBroken landed path old new
file_broken landed path None new f leaves = leaves
file_broken landed path (Some m) new f leaves = leaves

text_written : (old new : Option (List ℕ)) (piece : List ℕ) → PutLeaves old new piece (Ok tt) → new ≡ grown old piece
text_written None new piece leaves = leaves
text_written (Some t) new piece leaves = leaves

text_broken : (old new : Option (List ℕ)) (piece : List ℕ) (f : SinkFault) → PutLeaves old new piece (Err f) → TextBroken piece old new
text_broken None new piece f leaves = leaves
text_broken (Some t) new piece f leaves = leaves

module _ (landed : Landed) (k k' : Option FileMap) (p p' : LastFailed) (out err : Option (List ℕ)) (r r' w w' outs errs : ℕ) where
  pub wrote_file : (path bytes : List ℕ) → WriteLeaves (landed path bytes) path k k' (Ok tt) → WriteCause w w' (Ok tt) → r' ≡ r → p' ≡ p
      → (counts r' w' outs errs ≡ counts r w outs errs) × CameTo landed (writing (to_file path bytes)) (outside k p out err) (outside k' p' out err) (gives tt)
  wrote_file path bytes leaves cause same failed =
      wrote landed (outside k p out err) (outside k' p' out err) (counts r w outs errs) (counts r' w' outs errs) (to_file path bytes) (λ i. counts (same i) (cause i) outs errs)
      (λ i. outside (file_written (landed path bytes) path k k' leaves i) (failed i) out err)

  pub broke_file : (path bytes : List ℕ) (f : FileFault) → WriteLeaves (landed path bytes) path k k' (Err f) → WriteCause w w' (Err f) → r' ≡ r → p' ≡ p
      → Stops landed (writing (to_file path bytes)) (outside k p out err) (outside k' p' out err) (counts r w outs errs) (counts r' w' outs errs) (Some (failure (to_write (to_file path bytes))))
  broke_file path bytes f leaves cause same failed =
      failed_first landed (writing (to_file path bytes)) (outside k p out err) (outside k' p' out err) (counts r w outs errs) (counts r' w' outs errs) (to_write (to_file path bytes)) refl
      (file_broken (landed path bytes) path k k' f leaves, ap (λ (q : LastFailed). outside k' q out err) failed) (write_rises w w' f cause, ap (λ (n : ℕ). counts n w' outs errs) same)

  -- ---- a read

  kept : k' ≡ k → p' ≡ p → outside k' p' out err ≡ outside k p out err
  kept is failed i = outside (is i) (failed i) out err

  was_read : (path bytes items : List ℕ) → items ≡ bytes → AreBytes items → length bytes ≤ most_read → WhereTold k (λ m. get m path ≡ Some bytes) → r' ≡ r → k' ≡ k → w' ≡ w → p' ≡ p
      → (counts r' w' outs errs ≡ counts r w outs errs) × CameTo landed (reading path) (outside k p out err) (outside k' p' out err) (gives items)
  was_read path bytes items is are short there same contents writes failed = (
    (λ i. counts (same i) (writes i) outs errs),
    record {
      steps = has_read path items ∷ [];
      comes = (refl, refl);
      begun = inr ([], has_read path items, refl, refl);
      fit = (
        record {
          file = record { are_bytes = are; short = subst (λ (b : List ℕ). length b ≤ most_read) (sym is) short };
          there = subst (λ (b : List ℕ). WhereTold k (λ m. get m path ≡ Some b)) (sym is) there;
        },
        tt,
      );
      stand = kept contents failed;
    },
  )

  pub read_file : (path items : List ℕ) → ReadGives k path [] items (Ok tt) → ReadCause k r r' (Ok tt) → AreBytes items → k' ≡ k → w' ≡ w → p' ≡ p
      → (counts r' w' outs errs ≡ counts r w outs errs) × CameTo landed (reading path) (outside k p out err) (outside k' p' out err) (gives items)
  read_file path items (bytes, is, short, there) cause are contents writes failed = was_read path bytes items is are short there cause contents writes failed

  count_rose : (path : List ℕ) → Rises r r' → k' ≡ k → w' ≡ w → p' ≡ failed_at path p
      → Stops landed (reading path) (outside k p out err) (outside k' p' out err) (counts r w outs errs) (counts r' w' outs errs) (Some (unread path))
  count_rose path rose contents writes failed =
      failed_first landed (reading path) (outside k p out err) (outside k' p' out err) (counts r w outs errs) (counts r' w' outs errs) (to_read path) refl
      (λ i. outside (contents i) (failed i) out err) (rose, ap (λ (n : ℕ). counts r' n outs errs) writes)

  -- the path is missing or too large, as is told
  can't_read : (m : FileMap) (path : List ℕ) → k ≡ Some m → CantRead m path → r' ≡ r → k' ≡ k → w' ≡ w → p' ≡ failed_at path p
      → Stops landed (reading path) (outside k p out err) (outside k' p' out err) (counts r w outs errs) (counts r' w' outs errs) (Some (unread path))
  can't_read m path told cant same contents writes failed = inl (
    (λ i. counts (same i) (writes i) outs errs),
    record {
      steps = has_no path ∷ [];
      comes = (refl, refl);
      begun = inr ([], has_no path, refl, refl);
      fit = (subst (λ (c : Option FileMap). Told c (λ n. CantRead n path)) (sym told) cant, tt);
      stand = λ i. outside (contents i) (failed i) out err;
    },
  )

module _ (landed : Landed) (p p' : LastFailed) (out err : Option (List ℕ)) (r r' w w' outs errs : ℕ) where
  pub didn't_read : (k k' : Option FileMap) (path : Bor (List ℕ)) (items : List ℕ) (f : FileFault) → ReadGives k path.now [] items (Err f) → ReadCause k r r' (Err f) → k' ≡ k → w' ≡ w
      → p' ≡ last_failed {A = Unit {0}} path.now p (Err f)
      → Stops landed (reading path.now) (outside k p out err) (outside k' p' out err) (counts r w outs errs) (counts r' w' outs errs) (stop_seen (read_stop f path))
  didn't_read k k' path items faults.Failed read cause contents writes failed = count_rose landed k k' p p' out err r r' w w' outs errs path.now cause contents writes failed
  didn't_read None k' path items faults.Missing read cause contents writes failed = count_rose landed None k' p p' out err r r' w w' outs errs path.now cause contents writes failed
  didn't_read (Some m) k' path items faults.Missing read cause contents writes failed =
      can't_read landed (Some m) k' p p' out err r r' w w' outs errs m path.now refl (inl read.1) cause contents writes failed
  didn't_read None k' path items faults.TooLarge read cause contents writes failed = count_rose landed None k' p p' out err r r' w w' outs errs path.now cause contents writes failed
  didn't_read (Some m) k' path items faults.TooLarge read cause contents writes failed =
      can't_read landed (Some m) k' p p' out err r r' w w' outs errs m path.now refl (inr (inl read.1)) cause contents writes failed
  didn't_read k k' path items faults.Memory read cause contents writes failed =
      ((λ i. counts (cause i) (writes i) outs errs), record { steps = []; begun = inl refl; fit = tt; stand = λ i. outside (contents i) (failed i) out err })

module _ (landed : Landed) (k : Option FileMap) (p : LastFailed) (out out' err : Option (List ℕ)) (r w outs outs' errs : ℕ) (text : List ℕ) where
  pub put_text : PutLeaves out out' text (Ok tt) → PutCause outs outs' (Ok tt)
      → (counts r w outs' errs ≡ counts r w outs errs) × CameTo landed (writing (to_out text)) (outside k p out err) (outside k p out' err) (gives tt)
  put_text leaves cause =
      wrote landed (outside k p out err) (outside k p out' err) (counts r w outs errs) (counts r w outs' errs) (to_out text) (ap (λ (n : ℕ). counts r w n errs) cause)
      (ap (λ (t : Option (List ℕ)). outside k p t err) (text_written out out' text leaves))

  pub broke_text : (f : SinkFault) → PutLeaves out out' text (Err f) → PutCause outs outs' (Err f)
      → Stops landed (writing (to_out text)) (outside k p out err) (outside k p out' err) (counts r w outs errs) (counts r w outs' errs) (Some (failure (to_write (to_out text))))
  broke_text f leaves cause =
      failed_first landed (writing (to_out text)) (outside k p out err) (outside k p out' err) (counts r w outs errs) (counts r w outs' errs) (to_write (to_out text)) refl
      (text_broken out out' text f leaves, refl) (cause, refl)

module _ (landed : Landed) (k : Option FileMap) (p : LastFailed) (out err err' : Option (List ℕ)) (r w outs errs errs' : ℕ) (text : List ℕ) where
  pub put_err_text : PutLeaves err err' text (Ok tt) → PutCause errs errs' (Ok tt)
      → (counts r w outs errs' ≡ counts r w outs errs) × CameTo landed (writing (to_err text)) (outside k p out err) (outside k p out err') (gives tt)
  put_err_text leaves cause =
      wrote landed (outside k p out err) (outside k p out err') (counts r w outs errs) (counts r w outs errs') (to_err text) (ap (λ (n : ℕ). counts r w outs n) cause)
      (ap (λ (t : Option (List ℕ)). outside k p out t) (text_written err err' text leaves))

  pub broke_err_text : (f : SinkFault) → PutLeaves err err' text (Err f) → PutCause errs errs' (Err f)
      → Stops landed (writing (to_err text)) (outside k p out err) (outside k p out err') (counts r w outs errs) (counts r w outs errs') (Some (failure (to_write (to_err text))))
  broke_err_text f leaves cause =
      failed_first landed (writing (to_err text)) (outside k p out err) (outside k p out err') (counts r w outs errs) (counts r w outs errs') (to_write (to_err text)) refl
      (text_broken err err' text f leaves, refl) (cause, refl)

-- ---- a folder

module _ (landed : Landed) (k k' : Option FileMap) (p p' : LastFailed) (out err : Option (List ℕ)) (r r' w w' outs errs : ℕ) where
  pub listed_folder : (folder : List ℕ) (paths : Vec (String Global) Global) → ListGives k folder (Ok paths) → ListCause r r' (Ok paths) → k' ≡ k → w' ≡ w → p' ≡ p
      → (counts r' w' outs errs ≡ counts r w outs errs) × CameTo landed (listing folder) (outside k p out err) (outside k' p' out err) (gives (map string_bytes paths.items))
  listed_folder folder paths lists same contents writes failed = (
    (λ i. counts (same i) (writes i) outs errs),
    record {
      steps = has_listed folder (map string_bytes paths.items) ∷ [];
      comes = (refl, refl);
      begun = inr ([], has_listed folder (map string_bytes paths.items), refl, refl);
      fit = (lists, tt);
      stand = λ i. outside (contents i) (failed i) out err;
    },
  )

  pub didn't_list : (folder : Bor (List ℕ)) (f : FileFault) → ListCause r r' (Err f) → k' ≡ k → w' ≡ w
      → p' ≡ last_failed {A = Unit {0}} folder.now p (Err f)
      → Stops landed (listing folder.now) (outside k p out err) (outside k' p' out err) (counts r w outs errs) (counts r' w' outs errs) (stop_seen (read_stop f folder))
  didn't_list folder faults.Failed rose contents writes failed =
      failed_first landed (listing folder.now) (outside k p out err) (outside k' p' out err) (counts r w outs errs) (counts r' w' outs errs) (to_list folder.now) refl
      (λ i. outside (contents i) (failed i) out err) (rose, ap (λ (n : ℕ). counts r' n outs errs) writes)
  didn't_list folder faults.Missing cause contents writes failed = absurd cause
  didn't_list folder faults.TooLarge cause contents writes failed = absurd cause
  didn't_list folder faults.Memory same contents writes failed =
      ((λ i. counts (same i) (writes i) outs errs), record { steps = []; begun = inl refl; fit = tt; stand = λ i. outside (contents i) (failed i) out err })

pub read_short : (k : Option FileMap) (path items : List ℕ) → ReadGives k path [] items (Ok tt) → length items ≤ most_read
read_short k path items (bytes, is, short, there) = subst (λ (b : List ℕ). length b ≤ most_read) (sym is) short
