-- Files that are looked at, and then written one after the other.
use Rattle.std.proofs.Common.{◌≡◌, ℕ, ◌+◌, ◌<◌, ◌≤◌, List, [], ◌∷◌, ◌++◌, suc, length, drop, get_or, map, Option, None, Result, Ok, Err, Vec, inl, refl, sym, ◌∙◌, ap, ap₂, subst, arith, append_assoc, append-nil, drop-cons, add-one}
use Rattle.std.specs.List.{AllZip}
use Rattle.std.proofs.lemmas.List.{drop_all, get_or-map, get_or_default, length-map}
use Rattle.std.specs.declared.alloc.Global.{Global}
use Rattle.jc_paths.specs.Paths.{in_folder}
use Rattle.jc_command_work.specs.declared.stop.Stop.{Stop}
use Rattle.jc_command_work.specs.Seen.{stop_seen}
use Rattle.jc_command_work.specs.Step.{Word, Outside, Counts, Landed, Write}
use Rattle.jc_command_work.specs.Part.{End, gives, Part, giving, writing, writing_all, making, never, ◌>>=◌}
use Rattle.jc_command_work.specs.Ending.{CameTo, Stops, Does}
use Rattle.jc_command_work.proofs.Behind.{came_then, stops_first, stops_then}
use Rattle.jc_command_work.proofs.Reaching.{Reached, reached_start, was_decided}
use Rattle.jc_command_classes.specs.declared.instrument.Decided.{Decided}
use Rattle.jc_command_classes.specs.Instrument.{Decision, IsDecision, file_writes, decision_seen}
use Rattle.jc_command_classes.proofs.EachLaws.{AtPlace}
use Rattle.jc_headline.specs.CoverWork.{LookedFile, AreLooked, all_file_writes, place_if, places_from}
use Rattle.jc_command_cover.specs.Files.{Instrumented, Instruments, AreOf, Written, WritesFiles}
use Rattle.jc_command_cover.proofs.AcceptedItemLaws.{place_if-append}
use Rattle.jc_command_cover.proofs.AppendLaws.{reached_writes, reached_no_writes}

-- ---- two writes

nothing : {X : Type 0} (landed : Landed) (w : Outside) (x : X) → CameTo landed (giving x) w w (gives x)
nothing landed w x = record { steps = []; comes = refl; begun = inl refl; fit = tt; stand = refl }

module _ {E : Type 0} (landed : Landed) (v w : Write) (stop : E → Option End) (old mid new : Outside) (f g h : Counts) where
  both_written : (r : Result (Unit {0}) E) → (g ≡ f) × CameTo landed (writing v) old mid (gives tt) → Does landed (writing w) (λ _. tt) stop mid new g h r
      → Does landed (writing_all (v ∷ w ∷ [])) (λ _. tt) stop old new f h r
  both_written (Ok u) (same, came) (same', came') = (
    same' ∙ same,
    came_then landed (writing v) (λ _. writing_all (w ∷ [])) old tt mid new (gives tt) came
        (came_then landed (writing w) (λ _. giving tt) mid tt new new (gives tt) came' (nothing landed new tt)),
  )
  both_written (Err e) (same, came) stopped =
      stops_then landed (writing v) (λ _. writing_all (w ∷ [])) old tt mid new f g h (stop e) same came
      (stops_first landed (writing w) (λ _. giving tt) mid new g h (stop e) stopped)

  pub two_written : (v' w' : Write) → v ≡ v' → w ≡ w' → (r : Result (Unit {0}) E) → (g ≡ f) × CameTo landed (writing v) old mid (gives tt)
      → Does landed (writing w) (λ _. tt) stop mid new g h r → Does landed (writing_all (v' ∷ w' ∷ [])) (λ _. tt) stop old new f h r
  two_written v' w' v_is w_is r made does =
      subst (λ (ws : List Write). Does landed (writing_all ws) (λ _. tt) stop old new f h r) (ap₂ (λ (x y : Write). x ∷ y ∷ []) v_is w_is) (both_written r made does)

pub first_unwritten : (landed : Landed) (v v' : Write) (ws : List Write) (old mid : Outside) (f g : Counts) (stop : Option End) → v ≡ v' → Stops landed (writing v) old mid f g stop
    → Stops landed (writing_all (v' ∷ ws)) old mid f g stop
first_unwritten landed v v' ws old mid f g stop v_is stopped =
    subst (λ (x : Write). Stops landed (writing_all (x ∷ ws)) old mid f g stop) v_is (stops_first landed (writing v) (λ _. writing_all ws) old mid f g stop stopped)

-- ---- files, by what was decided of each

-- there are files with these paths, bytes and decisions
pub some_looked : (dest : Word) (ps : List Word) (ts : List (List ℕ)) (ds : List Decided) → length ts ≡ length ps → AllZip (λ t d. IsDecision t (decision_seen d)) ts ds
    → (looked : List LookedFile) × AreLooked ps ts looked × AreOf dest looked (map (in_folder dest) ps) ps ts (map decision_seen ds)
some_looked dest [] [] [] each are = ([], refl, record { targets_are = refl; paths_are = refl; texts_are = refl; decisions_are = refl })
some_looked dest [] [] (d ∷ ds) each are = absurd are
some_looked dest [] (t ∷ ts) ds each are = absurd (omega (arith, each))
some_looked dest (p ∷ ps) [] ds each are = absurd (omega (arith, each))
some_looked dest (p ∷ ps) (t ∷ ts) [] each are = absurd are
some_looked dest (p ∷ ps) (t ∷ ts) (d ∷ ds) each are =
    let (rest, looked, of) = some_looked dest ps ts ds (omega (arith, each)) are.1 in
    let l : LookedFile = record { file = p; bytes = t; decision = decision_seen d } in (
      l ∷ rest,
      (decision_seen d, rest, are.0, refl, looked),
      record {
        targets_are = ap (λ (ws : List Word). in_folder dest p ∷ ws) of.targets_are;
        paths_are = ap (λ (ws : List Word). p ∷ ws) of.paths_are;
        texts_are = ap (λ (us : List (List ℕ)). t ∷ us) of.texts_are;
        decisions_are = ap (λ (es : List Decision). decision_seen d ∷ es) of.decisions_are;
      },
    )

same_file : (x : LookedFile) (p : Word) (t : List ℕ) (d : Decision) → x.file ≡ p → x.bytes ≡ t → x.decision ≡ d → x ≡ record { file = p; bytes = t; decision = d }
same_file x p t d file bytes decision =
    let first : x ≡ record { file = p; bytes = x.bytes; decision = x.decision } = ap (λ (q : Word). record { file = q; bytes = x.bytes; decision = x.decision }) file in
    let second : x ≡ record { file = p; bytes = t; decision = x.decision } = first ∙ ap (λ (u : List ℕ). record { file = p; bytes = u; decision = x.decision }) bytes in
    second ∙ ap (λ (e : Decision). record { file = p; bytes = t; decision = e }) decision

-- the next file has this target, path, bytes and decision
pub record IsNext (dest : Word) (looked : List LookedFile) (i : ℕ) (target path : Word) (t : List ℕ) (d : Decision) : Type 0 where
  pub parts : drop i looked ≡ record { file = path; bytes = t; decision = d } ∷ drop (i + 1) looked
  pub target_is : in_folder dest path ≡ target

item_at : (items : List (List ℕ)) (i index : ℕ) (b t : List ℕ) → i < length items → index ≡ i → b ≡ get_or items index [] → t ≡ b → t ≡ get_or items i t
item_at items i index b t within index_is at same = same ∙ at ∙ ap (λ (k : ℕ). get_or items k []) index_is ∙ get_or_default items i [] t within

module _ (dest : Word) (looked : List LookedFile) (targets paths : List Word) (texts : List (List ℕ)) (all : List Decided)
    (of : AreOf dest looked targets paths texts (map decision_seen all)) where
  pub as_many_files : length looked ≡ length all
  as_many_files = omega (arith, ap length of.decisions_are, length-map all decision_seen, length-map looked (λ (x : LookedFile). x.decision))

  as_many_targets : length targets ≡ length looked
  as_many_targets = ap length of.targets_are ∙ length-map looked (λ (x : LookedFile). in_folder dest x.file)

  as_many_paths : length paths ≡ length looked
  as_many_paths = ap length of.paths_are ∙ length-map looked (λ (x : LookedFile). x.file)

  as_many_texts : length texts ≡ length looked
  as_many_texts = ap length of.texts_are ∙ length-map looked (λ (x : LookedFile). x.bytes)

  module _ (i : ℕ) (target path : Word) (t : List ℕ) (d : Decision) (inside : i < length looked) where
    next_file : target ≡ get_or targets i target → path ≡ get_or paths i path → t ≡ get_or texts i t → d ≡ get_or (map decision_seen all) i d
        → IsNext dest looked i target path t d
    next_file at_target at_path at_text at_decision =
        let l : LookedFile = record { file = path; bytes = t; decision = d } in
        let x = get_or looked i l in
        let file : path ≡ x.file = at_path ∙ ap (λ (ws : List Word). get_or ws i path) of.paths_are ∙ get_or-map (λ (y : LookedFile). y.file) looked i l path inside in
        let bytes : t ≡ x.bytes = at_text ∙ ap (λ (us : List (List ℕ)). get_or us i t) of.texts_are ∙ get_or-map (λ (y : LookedFile). y.bytes) looked i l t inside in
        let decision : d ≡ x.decision =
        at_decision ∙ ap (λ (es : List Decision). get_or es i d) of.decisions_are ∙ get_or-map (λ (y : LookedFile). y.decision) looked i l d inside in
        let goes : target ≡ in_folder dest x.file =
        at_target ∙ ap (λ (ws : List Word). get_or ws i target) of.targets_are ∙ get_or-map (λ (y : LookedFile). in_folder dest y.file) looked i l target inside in
        record {
          parts = drop-cons looked i l inside
              ∙ ap (λ (y : LookedFile). y ∷ drop (suc i) looked) (same_file x path t d (sym file) (sym bytes) (sym decision))
              ∙ ap (λ (n : ℕ). l ∷ drop n looked) (sym (add-one i));
          target_is = ap (in_folder dest) file ∙ sym goes;
        }

  -- the file of a turn of the loop
  pub turn_file : (i index : ℕ) (b t : List ℕ) (decided : Decided) (target path : Word) → AtPlace all i index decided
      → target ≡ get_or targets index [] → path ≡ get_or paths index [] → b ≡ get_or texts index [] → t ≡ b
      → IsNext dest looked i target path t (decision_seen decided)
  turn_file i index b t decided target path place at_target at_path at_text same =
      let within = place.within in
      let inside : i < length looked = omega (arith, within, as_many_files) in
      next_file i target path t (decision_seen decided) inside
      (item_at targets i index target target (omega (arith, inside, as_many_targets)) place.index_is at_target refl)
      (item_at paths i index path path (omega (arith, inside, as_many_paths)) place.index_is at_path refl)
      (item_at texts i index b t (omega (arith, inside, as_many_texts)) place.index_is at_text same)
      (ap decision_seen place.at ∙ sym (get_or-map decision_seen all i decided (decision_seen decided) within))

-- ---- the loop

module _ (landed : Landed) (dest : Word) (looked : List LookedFile) where
  -- the first so many files were written, and these are the places of the accepted ones
  pub record WroteFirst (i : ℕ) (old now : Outside) (f g : Counts) (places : List ℕ) : Type 0 where
    pub writes : Reached landed (writing_all (all_file_writes dest looked)) (writing_all (all_file_writes dest (drop i looked))) (λ u. u) old now f g
    pub accepted : places ++ places_from i (drop i looked) ≡ places_from 0 looked

  pub files_start : (old : Outside) (f : Counts) → WroteFirst 0 old old f f []
  files_start old f = record { writes = reached_start landed (writing_all (all_file_writes dest looked)) old f; accepted = refl }

  module _ (i : ℕ) (old now mid : Outside) (f g h : Counts) (places : List ℕ) (so : WroteFirst i old now f g places) (target path : Word) (t : List ℕ) (d : Decision)
      (next : IsNext dest looked i target path t d) where
    abbrev behind : List Write
    behind = all_file_writes dest (drop (i + 1) looked)

    at_file : Reached landed (writing_all (all_file_writes dest looked)) (writing_all (file_writes target path t d ++ behind)) (λ u. u) old now f g
    at_file = subst (λ (ws : List Write). Reached landed (writing_all (all_file_writes dest looked)) (writing_all ws) (λ u. u) old now f g)
        (ap (all_file_writes dest) next.parts ∙ ap (λ (w : Word). file_writes w path t d ++ behind) next.target_is) so.writes

    reached_file : (h ≡ g) × CameTo landed (writing_all (file_writes target path t d)) now mid (gives tt)
        → Reached landed (writing_all (all_file_writes dest looked)) (writing_all behind) (λ u. u) old mid f h
    reached_file made = reached_writes landed (writing_all (all_file_writes dest looked)) (λ u. u) (file_writes target path t d) behind old now mid f g h at_file made

    file_written : (new : List ℕ) → (h ≡ g) × CameTo landed (writing_all (file_writes target path t d)) now mid (gives tt) → new ≡ places ++ place_if d i []
        → WroteFirst (i + 1) old mid f h new
    file_written new made is = record {
      writes = reached_file made;
      accepted = ap (λ (ps : List ℕ). ps ++ places_from (i + 1) (drop (i + 1) looked)) is
          ∙ append_assoc places (place_if d i []) (places_from (i + 1) (drop (i + 1) looked))
          ∙ ap (λ (ps : List ℕ). places ++ ps) (place_if-append d i (places_from (i + 1) (drop (i + 1) looked)))
          ∙ ap (λ (ls : List LookedFile). places ++ places_from i ls) (sym next.parts) ∙ so.accepted;
    }

    pub file_failed : (stop : Option End) → Stops landed (writing_all (file_writes target path t d)) now mid g h stop → Stops landed (writing_all (all_file_writes dest looked)) old mid f h stop
    file_failed stop stopped =
        reached_no_writes landed (writing_all (all_file_writes dest looked)) (λ u. u) (file_writes target path t d) behind old now mid f g h at_file stop stopped

    -- memory was refused behind its writes
    pub file_lost : (stop : Option End) → stop ≡ None → (h ≡ g) × CameTo landed (writing_all (file_writes target path t d)) now mid (gives tt)
        → Stops landed (writing_all (all_file_writes dest looked)) old mid f h stop
    file_lost stop none made =
        subst (λ (o : Option End). Stops landed (writing_all (all_file_writes dest looked)) old mid f h o) (sym none)
        ((reached_file made).ended mid h None (refl, record { steps = []; begun = inl refl; fit = tt; stand = refl }))

  pub files_written : (i : ℕ) → length looked ≤ i → (old now : Outside) (f g : Counts) (places : List ℕ) → WroteFirst i old now f g places → Written landed dest looked old now f g places
  files_written i all old now f g places so =
      let none = drop_all i looked all in
      let last = subst (λ (ls : List LookedFile). Reached landed (writing_all (all_file_writes dest looked)) (writing_all (all_file_writes dest ls)) (λ u. u) old now f g) none so.writes in
      record {
        same = last.same;
        came = last.came now tt (nothing landed now tt);
        accepted = sym (append-nil places) ∙ ap (λ (ls : List LookedFile). places ++ places_from i ls) (sym none) ∙ so.accepted;
      }

-- one turn of the loop more
pub turn_written : (landed : Landed) (dest : Word) (looked : List LookedFile) (i index : ℕ) (old now mid : Outside) (f g h : Counts)
    (places new : List ℕ) (target path : Word) (t : List ℕ) (d : Decision)
    → IsNext dest looked i target path t d → index ≡ i → WroteFirst landed dest looked i old now f g places
    → (h ≡ g) × CameTo landed (writing_all (file_writes target path t d)) now mid (gives tt) → new ≡ places ++ place_if d index []
    → WroteFirst landed dest looked (i + 1) old mid f h new
turn_written landed dest looked i index old now mid f g h places new target path t d next index_is so made is =
    file_written landed dest looked i old now mid f g h places so target path t d next new made (is ∙ ap (λ (k : ℕ). places ++ place_if d k []) index_is)

-- ---- the part

module _ (landed : Landed) (dest : Word) (paths : List Word) (read : List (List ℕ)) (looked : List LookedFile) (looked_at : AreLooked paths read looked) (old new : Outside) (f g : Counts) where
  abbrev handing : List LookedFile → Part (List LookedFile)
  handing ls = writing_all (all_file_writes dest ls) >>= (λ _. giving ls)

  all_instrumented : (places : List ℕ) → Written landed dest looked old new f g places → Instrumented landed dest paths read old new f g places
  all_instrumented places w = record {
    looked = looked;
    looked_at = looked_at;
    same = w.same;
    came = came_then landed (making (AreLooked paths read)) handing old looked old new (gives looked) (was_decided landed (AreLooked paths read) never old looked looked_at)
        (came_then landed (writing_all (all_file_writes dest looked)) (λ _. giving looked) old tt new new (gives looked) w.came (nothing landed new looked));
    accepted = w.accepted;
  }

  pub instrumented : (r : Result (Vec ℕ Global) Stop) → WritesFiles landed dest looked old new f g r → Instruments landed dest paths read old new f g r
  instrumented (Ok places) w = all_instrumented places.items w
  instrumented (Err stop) stopped =
      stops_then landed (making (AreLooked paths read)) handing old looked old new f f g (stop_seen stop) refl (was_decided landed (AreLooked paths read) never old looked looked_at)
      (stops_first landed (writing_all (all_file_writes dest looked)) (λ _. giving looked) old new f g (stop_seen stop) stopped)
