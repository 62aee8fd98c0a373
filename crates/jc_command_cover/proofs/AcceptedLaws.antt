-- The files that weren't refused, by their places among all files.
use Rattle.std.proofs.Common.{◌≡◌, ℕ, suc, ◌+◌, ◌<◌, ◌≤◌, ◌^◌, List, [], ◌∷◌, length, map, get_or, refl, sym, ◌∙◌, ap, subst₂, arith}
use Rattle.std.proofs.lemmas.List.{get_or-map, length-map}
use Rattle.std.specs.Borrow.{Bor}
use Rattle.jc_paths.specs.Paths.{in_folder}
use Rattle.jc_command_work.specs.Seen.{texts_of}
use Rattle.jc_command_work.specs.Step.{Word, AreTexts, FilesTargeted}
use Rattle.jc_command_cover.specs.Accepted.{AreAccepted, AreOfAll}
use Rattle.jc_command_cover.specs.declared.accepted.Accepted.{Accepted}
use Rattle.jc_command_classes.specs.Instrument.{Decision, refused_file, accepted_file}
use Rattle.jc_headline.specs.CoverWork.{LookedFile, accepted, kept_if, place_if, places_from, path_of, paths_in, texts_in, accepted_texts}
use Rattle.jc_command_run.specs.RunAnswers.{path_at}

-- ---- places

pub as_many_places : (k : ℕ) (ls : List LookedFile) → length (places_from k ls) ≡ length (accepted ls)
as_many_places k [] = refl
as_many_places k (l ∷ ls) = by l.decision (as_many_places (k + 1) ls)
  where
    by : (d : Decision) → length (places_from (k + 1) ls) ≡ length (accepted ls) → length (place_if d k (places_from (k + 1) ls)) ≡ length (kept_if d l (accepted ls))
    by (refused_file why) same = same
    by (accepted_file a) same = omega (arith, same)

-- what stands at their places
pub at_places : {Y : Type 0} (h : LookedFile → Y) (d : Y) (g : ℕ → Y) (k : ℕ) (ls : List LookedFile) → ((j : ℕ) → g (k + j) ≡ get_or (map h ls) j d)
    → map g (places_from k ls) ≡ map h (accepted ls)
at_places h d g k [] same = refl
at_places {Y} h d g k (l ∷ ls) same =
    by l.decision (at_places h d g (k + 1) ls (λ j. let next : (k + 1) + j ≡ k + suc j = omega arith in ap g next ∙ same (suc j)))
  where
    first : g k ≡ h l
    first = let here : k ≡ k + 0 = omega arith in ap g here ∙ same 0

    by : (e : Decision) → map g (places_from (k + 1) ls) ≡ map h (accepted ls) → map g (place_if e k (places_from (k + 1) ls)) ≡ map h (kept_if e l (accepted ls))
    by (refused_file why) rest = rest
    by (accepted_file a) rest = λ i. first i ∷ rest i

-- what stands in a list of all files
pub stands_at_places : {Y : Type 0} (h : LookedFile → Y) (d : Y) (ls : List LookedFile) → map (λ place. get_or (map h ls) place d) (places_from 0 ls) ≡ map h (accepted ls)
stands_at_places h d ls = at_places h d (λ place. get_or (map h ls) place d) 0 ls (λ j. let here : 0 + j ≡ j = omega arith in ap (λ (i : ℕ). get_or (map h ls) i d) here)

-- the path of an accepted file, by its index among these
pub path_among : (ls : List LookedFile) (index : ℕ) → index < length (accepted ls) → path_of ls index ≡ path_at (paths_in (accepted ls)) index
path_among ls index less =
    let inside : index < length (places_from 0 ls) = (let same = as_many_places 0 ls in omega (arith, less, same)) in
    sym (get_or-map (λ (place : ℕ). path_at (paths_in ls) place) (places_from 0 ls) index 0 [] inside) ∙ ap (λ (paths : List (List ℕ)). get_or paths index []) (stands_at_places (λ l. l.file) [] ls)

-- ---- all that is kept of them

read_accepted : (ls : List LookedFile) → AreTexts (paths_in ls) (texts_in ls) → AreTexts (paths_in (accepted ls)) (accepted_texts ls)
read_accepted [] are = tt
read_accepted (l ∷ ls) are = by l.decision (read_accepted ls are.1)
  where
    by : (d : Decision) → AreTexts (paths_in (accepted ls)) (accepted_texts ls) → AreTexts (paths_in (kept_if d l (accepted ls))) (texts_in (kept_if d l (accepted ls)))
    by (refused_file why) rest = rest
    by (accepted_file a) rest = (are.0, rest)

-- the texts that are kept are those of the paths that are kept
pub kept_texts : (looked : List LookedFile) (paths kept_paths : List Word) (texts kept : List (List ℕ)) → paths ≡ paths_in looked → texts ≡ texts_in looked
    → kept_paths ≡ paths_in (accepted looked) → kept ≡ accepted_texts looked → AreTexts paths texts → AreTexts kept_paths kept
kept_texts looked paths kept_paths texts kept paths_are texts_are kept_paths_are kept_are read =
    subst₂ AreTexts (sym kept_paths_are) (sym kept_are) (read_accepted looked (subst₂ AreTexts paths_are texts_are read))

-- a target is kept of each file that is kept
pub kept_targets : (dest : Word) (looked : List LookedFile) (written_to : List (Bor (List ℕ))) (kept : List (List ℕ))
    → texts_of written_to ≡ map (λ (l : LookedFile). in_folder dest l.file) (accepted looked) → kept ≡ accepted_texts looked → length written_to ≡ length kept
kept_targets dest looked written_to kept targets_are kept_are =
    let ls = accepted looked in
    sym (length-map written_to (λ (t : Bor (List ℕ)). t.now)) ∙ ap length targets_are ∙ length-map ls (λ (l : LookedFile). in_folder dest l.file)
    ∙ sym (ap length kept_are ∙ length-map ls (λ (l : LookedFile). l.bytes))

as_few : (ls : List LookedFile) → length (accepted ls) ≤ length ls
as_few [] = omega arith
as_few (l ∷ ls) = by l.decision (as_few ls)
  where
    by : (d : Decision) → length (accepted ls) ≤ length ls → length (kept_if d l (accepted ls)) ≤ length (l ∷ ls)
    by (refused_file why) less = omega (arith, less)
    by (accepted_file a) less = omega (arith, less)

-- no more are accepted than there are
pub few_accepted : (dest : Word) (looked : List LookedFile) (files : FilesTargeted) (places : List ℕ) (those : Accepted)
    → AreOfAll dest looked files places → AreAccepted dest looked those → length files.inputs.paths < 2 ^ 32 → length those.files.inputs.paths < 2 ^ 32
few_accepted dest looked files places those all are few =
    let ls = accepted looked in
    let many : length those.files.inputs.paths ≡ length ls = ap length are.paths ∙ length-map ls (λ (l : LookedFile). l.file) in
    let some : length files.inputs.paths ≡ length looked = ap length all.paths_are ∙ length-map looked (λ (l : LookedFile). l.file) in
    let at_most = as_few looked in omega (arith, few, many, some, at_most)
