-- What is made of class files that are instrumented is one list of writes.
use Rattle.std.proofs.Common.{◌≡◌, ⊎_elim, ℕ, ◌+◌, ◌<◌, ◌≤◌, List, [], ◌∷◌, ◌++◌, length, take, get_or, map, Some, Result, Ok, Err, IfOk, Vec, Bor, refl, sym, ◌∙◌, ap, ap₂, subst, arith, min, append_assoc}
use Rattle.std.proofs.lemmas.List.{append-nil, take_more, take_all, get_or-map}
use Rattle.std.proofs.lemmas.Slice.Zip.{AllZip-long, length-zip, get_or-zip}
use Rattle.std.specs.List.{AllByRecursion, AllZip, zip}
use Rattle.std.specs.declared.alloc.Global.{Global}
use Rattle.jc_bytes.specs.declared.fail.Memory.{Memory}
use Rattle.jc_bytes.specs.declared.refusal.Refusal.{Refusal}
use Rattle.jc_instrument_laws.proofs.EachFileLaws.{each_file}
use Rattle.jc_instrument.proofs.OneTwinLaws.{one_file, file_or_reason}
use Rattle.jc_instrument.proofs.RoomCauseLaws.{one_reason}
use Rattle.jc_command_classes.specs.declared.instrument.Decided.{Decided}
use Rattle.jc_command_work.specs.declared.output.Write.{Write as Written}
use Rattle.jc_command_classes.specs.Instrument.{Decision, refused_file, accepted_file, IsDecision, file_writes, AreFileWrites, decision_seen}
use Rattle.jc_command_work.specs.Seen.{write_seen, Puts, texts_of}
use Rattle.jc_command_work.specs.Step.{Word, IsFile, Write}
use Rattle.jc_command_classes.proofs.EachLaws.{zipped_pair, each_ok, AtPlace}

-- ---- one file

refusal_is : (r s : Refusal) → Some r ≡ Some s → r ≡ s
refusal_is r s e = cc

pub one_decision : (bytes : List ℕ) (a b : Decision) → IsDecision bytes a → IsDecision bytes b → a ≡ b
one_decision bytes (refused_file r) (refused_file s) p q = ap refused_file (refusal_is r s (one_reason bytes (Some r) (Some s) p q))
one_decision bytes (refused_file r) (accepted_file b) p q = absurd (file_or_reason bytes b r q p)
one_decision bytes (accepted_file a) (refused_file s) p q = absurd (file_or_reason bytes a s p q)
one_decision bytes (accepted_file a) (accepted_file b) p q = ap accepted_file (one_file bytes a b p q)

pub some_decision : (bytes : List ℕ) → IsFile bytes → (d : Decision) × IsDecision bytes d
some_decision bytes file = ⊎_elim (λ a. (accepted_file a.0, a.1)) (λ r. (refused_file r.0, r.1)) (each_file bytes file.are_bytes file.short)

-- ---- lists of files

pub one_writes : (ps fs : List Word) (ts : List (List ℕ)) (v w : List Write) → AreFileWrites ps fs ts v → AreFileWrites ps fs ts w → v ≡ w
one_writes [] [] [] v w p q = p ∙ sym q
one_writes [] [] (t ∷ ts) v w p q = absurd p
one_writes [] (f ∷ fs) ts v w p q = absurd p
one_writes (p ∷ ps) [] ts v w are also = absurd are
one_writes (p ∷ ps) (f ∷ fs) [] v w are also = absurd are
one_writes (p ∷ ps) (f ∷ fs) (t ∷ ts) v w (d, rest, is, parts, later) (d', rest', is', parts', later') =
    let same : d ≡ d' = one_decision t d d' is is' in
    let more : rest ≡ rest' = one_writes ps fs ts rest rest' later later' in
    parts ∙ ap₂ (λ (x : Decision) (ws : List Write). file_writes p f t x ++ ws) same more ∙ sym parts'

pub some_writes : (ps fs : List Word) (ts : List (List ℕ)) → length ps ≡ length fs → length fs ≡ length ts → AllByRecursion IsFile ts
    → (ws : List Write) × AreFileWrites ps fs ts ws
some_writes [] [] [] same each files = ([], refl)
some_writes [] [] (t ∷ ts) same each files = absurd (omega (arith, each))
some_writes [] (f ∷ fs) ts same each files = absurd (omega (arith, same))
some_writes (p ∷ ps) [] ts same each files = absurd (omega (arith, same))
some_writes (p ∷ ps) (f ∷ fs) [] same each files = absurd (omega (arith, each))
some_writes (p ∷ ps) (f ∷ fs) (t ∷ ts) same each files =
    let own = some_decision t files.0 in
    let rest = some_writes ps fs ts (omega (arith, same)) (omega (arith, each)) files.1 in
    (file_writes p f t own.0 ++ rest.0, (own.0, rest.0, own.1, refl, rest.1))

-- ---- what was decided

-- where each answer is there, all are
pub all_decided : (texts : List (List ℕ)) (answers : List (Result Decided Memory)) (r : Result (Vec Decided Global) Memory)
    → AllZip (λ t u. IfOk u (λ d. IsDecision t (decision_seen d))) texts answers
    → IfOk r (λ all. answers ≡ map Ok all.items) → IfOk r (λ all. AllZip (λ t d. IsDecision t (decision_seen d)) texts all.items)
all_decided texts answers (Ok all) each same =
    let Decides : List ℕ → Decided → Type 0 = λ t d. IsDecision t (decision_seen d) in
    let Answers : List ℕ → Result Decided Memory → Type 0 = λ t u. IfOk u (Decides t) in
    each_ok Memory Decides texts all.items (subst (AllZip Answers texts) same each)
all_decided texts answers (Err e) each same = tt

-- ---- one file after the other

writes_more : (ps fs : List Word) (ts : List (List ℕ)) (ws : List Write) (p f : Word) (t : List ℕ) (d : Decision) → AreFileWrites ps fs ts ws → IsDecision t d
    → AreFileWrites (ps ++ p ∷ []) (fs ++ f ∷ []) (ts ++ t ∷ []) (ws ++ file_writes p f t d)
writes_more [] [] [] ws p f t d none is =
    (d, [], is, ap (λ (vs : List Write). vs ++ file_writes p f t d) none ∙ sym (append-nil (file_writes p f t d)), refl)
writes_more [] [] (u ∷ ts) ws p f t d are is = absurd are
writes_more [] (g ∷ fs) ts ws p f t d are is = absurd are
writes_more (q ∷ ps) [] ts ws p f t d are is = absurd are
writes_more (q ∷ ps) (g ∷ fs) [] ws p f t d are is = absurd are
writes_more (q ∷ ps) (g ∷ fs) (u ∷ ts) ws p f t d (e, rest, is', parts, later) is = (
  e,
  rest ++ file_writes p f t d,
  is',
  ap (λ (vs : List Write). vs ++ file_writes p f t d) parts ∙ append_assoc (file_writes q g u e) rest (file_writes p f t d),
  writes_more ps fs ts rest p f t d later is,
)

-- what stands at an index of references to paths
pub path_at : (items : List (Bor Word)) (paths : List Word) (i : ℕ) (p : Bor Word) → texts_of items ≡ paths → i < length items → p ≡ get_or items i p → p.now ≡ get_or paths i p.now
path_at items paths i p same within is =
    ap (λ (b : Bor Word). b.now) is ∙ sym (get_or-map (λ (b : Bor Word). b.now) items i p p.now within) ∙ ap (λ (ps : List Word). get_or ps i p.now) same

module _ (targets paths : List Word) (texts : List (List ℕ)) where
  -- the first so many files have these writes
  abbrev pub AreWrittenFirst : ℕ → List Written → Type 0
  AreWrittenFirst i writes = AreFileWrites (take i targets) (take i paths) (take i texts) (map write_seen writes)

  file_written : (i : ℕ) (target path t : List ℕ) (old new : List Written) → i < length targets → i < length paths → i < length texts
      → target ≡ get_or targets i target → path ≡ get_or paths i path → t ≡ get_or texts i t
      → AreWrittenFirst i old → (d : Decision) × IsDecision t d × Puts old (file_writes target path t d) new → AreWrittenFirst (i + 1) new
  file_written i target path t old new at_target at_path at_text target_is path_is text_is so_far (d, is, puts) =
      let more_targets : take (i + 1) targets ≡ take i targets ++ target ∷ [] = take_more targets i target at_target ∙ ap (λ (w : Word). take i targets ++ w ∷ []) (sym target_is) in
      let more_paths : take (i + 1) paths ≡ take i paths ++ path ∷ [] = take_more paths i path at_path ∙ ap (λ (w : Word). take i paths ++ w ∷ []) (sym path_is) in
      let more_texts : take (i + 1) texts ≡ take i texts ++ t ∷ [] = take_more texts i t at_text ∙ ap (λ (u : List ℕ). take i texts ++ u ∷ []) (sym text_is) in
      let more = writes_more (take i targets) (take i paths) (take i texts) (map write_seen old) target path t d so_far is in
      subst (λ (ps : List Word). AreFileWrites ps (take (i + 1) paths) (take (i + 1) texts) (map write_seen new)) (sym more_targets)
      (subst (λ (fs : List Word). AreFileWrites (take i targets ++ target ∷ []) fs (take (i + 1) texts) (map write_seen new)) (sym more_paths)
      (subst (λ (ts : List (List ℕ)). AreFileWrites (take i targets ++ target ∷ []) (take i paths ++ path ∷ []) ts (map write_seen new)) (sym more_texts)
      (subst (AreFileWrites (take i targets ++ target ∷ []) (take i paths ++ path ∷ []) (take i texts ++ t ∷ [])) (sym puts) more)))

  -- one more file, by what was decided of it
  pub decided_written : (all : List Decided) (i index : ℕ) (decided : Decided) (t : List ℕ)
      → (target path : List ℕ) (old new : List Written)
      → AllZip (λ u d. IsDecision u (decision_seen d)) texts all → length targets ≡ length paths → length texts ≡ length paths
      → AtPlace (zip all texts) i index (decided, t) → target ≡ get_or targets index target → path ≡ get_or paths index path
      → AreWrittenFirst i old → Puts old (file_writes target path t (decision_seen decided)) new → AreWrittenFirst (i + 1) new
  decided_written all i index decided t target path old new are as_many each place target_is path_is so_far puts =
      let Decides : List ℕ → Decided → Type 0 = λ u d. IsDecision u (decision_seen d) in
      let long = AllZip-long Decides texts all are in
      let zipped : i < min (length all) (length texts) = subst (λ (n : ℕ). i < n) (length-zip all texts) place.within in
      let within : i < length texts = omega (arith, zipped) in
      let decided_within : i < length all = omega (arith, within, long) in
      let both = place.at ∙ get_or-zip all texts i (decided, t) decided_within within in
      let text_is : t ≡ get_or texts i t = ap (λ (p : Decided × List ℕ). p.1) both in
      let own = zipped_pair Decides texts all i t decided are decided_within text_is (ap (λ (p : Decided × List ℕ). p.0) both) in
      let at_target = target_is ∙ ap (λ (k : ℕ). get_or targets k target) place.index_is in
      let at_path = path_is ∙ ap (λ (k : ℕ). get_or paths k path) place.index_is in
      file_written i target path t old new (omega (arith, within, as_many, each)) (omega (arith, within, each)) within
      at_target at_path text_is so_far (decision_seen decided, own, puts)

  pub all_written : (i : ℕ) (writes : List Written) → length targets ≤ i → length paths ≤ i → length texts ≤ i → AreWrittenFirst i writes
      → AreFileWrites targets paths texts (map write_seen writes)
  all_written i writes all_targets all_paths all_texts so_far =
      subst (λ (ps : List Word). AreFileWrites ps paths texts (map write_seen writes)) (take_all i targets all_targets)
      (subst (λ (fs : List Word). AreFileWrites (take i targets) fs texts (map write_seen writes)) (take_all i paths all_paths)
      (subst (λ (ts : List (List ℕ)). AreFileWrites (take i targets) (take i paths) ts (map write_seen writes)) (take_all i texts all_texts) so_far))
