-- The loop over words: the paths of the words that are left come behind the paths so far.
use Rattle.std.proofs.Common.{◌≡◌, ℕ, List, [], ◌∷◌, ◌++◌, Option, None, inl, map, drop, get_or, length, ◌+◌, ◌<◌, ◌≤◌, refl, sym, ◌∙◌, ap, subst, append_assoc, append-nil, drop-cons, add-one}
use Rattle.std.proofs.lemmas.List.{drop_all}
use Rattle.jc_paths.specs.Paths.{FileText}
use Rattle.jc_command_work.specs.Step.{Word, Outside, Counts, Landed}
use Rattle.jc_command_work.specs.Part.{End, gives, giving, ◌>>=◌}
use Rattle.jc_command_work.specs.Ending.{CameTo, Stops}
use Rattle.jc_command_work.specs.Folders.{once, paths_of, all_paths, files_of}
use Rattle.jc_command_work.proofs.Behind.{came_then, stops_first, stops_then}
use Rattle.jc_command_work.proofs.Reaching.{Reached, reached_start, reached_next, reached_stop, reached_last}

module _ {A : Type 0} (landed : Landed) (named : A → FileText) (xs : List A) where
  -- the words so far were listed
  abbrev pub Lists : (i : ℕ) (old now : Outside) (f g : Counts) (paths : List Word) → Type 0
  Lists i old now f g paths = Reached landed (all_paths (map named xs)) (all_paths (map named (drop i xs))) (λ more. paths ++ more) old now f g

  pub lists_start : (old : Outside) (f : Counts) → Lists 0 old old f f []
  lists_start old f = reached_start landed (all_paths (map named xs)) old f

  module _ (i : ℕ) (d : A) (within : i < length xs) (file : FileText) (is : file ≡ named (get_or xs i d)) (old now mid : Outside) (f g h : Counts)
      (paths : List Word) (so : Lists i old now f g paths) where
    next_word : map named (drop i xs) ≡ file ∷ map named (drop (i + 1) xs)
    next_word =
        ap (map named) (drop-cons xs i d within) ∙ ap (λ (n : ℕ). named (get_or xs i d) ∷ map named (drop n xs)) (sym (add-one i))
        ∙ ap (λ (t : FileText). t ∷ map named (drop (i + 1) xs)) (sym is)

    at_word : Reached landed (all_paths (map named xs)) (all_paths (file ∷ map named (drop (i + 1) xs))) (λ more. paths ++ more) old now f g
    at_word = subst (λ (l : List FileText). Reached landed (all_paths (map named xs)) (all_paths l) (λ more. paths ++ more) old now f g) next_word so

    -- the folder couldn't be listed, or memory was refused
    pub word_failed : (stop : Option End) → Stops landed (paths_of file) now mid g h stop → Stops landed (all_paths (map named xs)) old mid f h stop
    word_failed stop stopped =
        reached_stop landed (all_paths (map named xs)) old f (paths_of file)
        (λ ps. all_paths (map named (drop (i + 1) xs)) >>= λ more. giving (ps ++ more)) (λ more. paths ++ more) now g at_word mid h stop stopped

    word_listed : (ps : List Word) → (h ≡ g) × CameTo landed (paths_of file) now mid (gives ps) → Lists (i + 1) old mid f h (paths ++ ps)
    word_listed ps (same, came) =
        reached_last landed (all_paths (map named xs)) old f (all_paths (map named (drop (i + 1) xs))) (λ more. ps ++ more) (λ more. paths ++ more) (λ more. (paths ++ ps) ++ more)
        (λ more. sym (append_assoc paths ps more)) mid h
        (reached_next landed (all_paths (map named xs)) old f (paths_of file)
        (λ ps. all_paths (map named (drop (i + 1) xs)) >>= λ more. giving (ps ++ more)) (λ more. paths ++ more) now g at_word ps mid h same came)

    pub word_kept : (ps new : List Word) → new ≡ paths ++ ps → (h ≡ g) × CameTo landed (paths_of file) now mid (gives ps) → Lists (i + 1) old mid f h new
    word_kept ps new is_new came = subst (λ (l : List Word). Lists (i + 1) old mid f h l) (sym is_new) (word_listed ps came)

    -- memory was refused behind the listing
    pub word_lost : (ps : List Word) (stop : Option End) → stop ≡ None → (h ≡ g) × CameTo landed (paths_of file) now mid (gives ps) → Stops landed (all_paths (map named xs)) old mid f h stop
    word_lost ps stop none came =
        subst (λ (o : Option End). Stops landed (all_paths (map named xs)) old mid f h o) (sym none)
        ((word_listed ps came).ended mid h None (refl, record { steps = []; begun = inl refl; fit = tt; stand = refl }))

  pub words_listed : (i : ℕ) → length xs ≤ i → (old now : Outside) (f g : Counts) (paths : List Word) → Lists i old now f g paths
      → (g ≡ f) × CameTo landed (all_paths (map named xs)) old now (gives paths)
  words_listed i not old now f g paths so =
      let last = subst (λ (l : List FileText). Reached landed (all_paths (map named xs)) (all_paths l) (λ more. paths ++ more) old now f g) (ap (map named) (drop_all i xs not)) so in (
        last.same,
        subst (λ (l : List Word). CameTo landed (all_paths (map named xs)) old now (gives l)) (append-nil paths)
            (last.came now [] (record { steps = []; comes = refl; begun = inl refl; fit = tt; stand = refl })),
      )

-- ---- the files

module _ (landed : Landed) (files : List FileText) (old mid : Outside) (f g : Counts) where
  pub files_listed : (paths kept : List Word) → kept ≡ once [] paths → (g ≡ f) × CameTo landed (all_paths files) old mid (gives paths)
      → (g ≡ f) × CameTo landed (files_of files) old mid (gives kept)
  files_listed paths kept is (same, came) = (
    same,
    came_then landed (all_paths files) (λ ps. giving (once [] ps)) old paths mid mid (gives kept) came
        (record { steps = []; comes = ap (λ (l : List Word). gives l) is; begun = inl refl; fit = tt; stand = refl }),
  )

  pub files_failed : (stop : Option End) → Stops landed (all_paths files) old mid f g stop → Stops landed (files_of files) old mid f g stop
  files_failed stop stopped = stops_first landed (all_paths files) (λ ps. giving (once [] ps)) old mid f g stop stopped

  -- memory was refused behind the listings
  pub files_lost : (paths : List Word) (stop : Option End) → stop ≡ None → (g ≡ f) × CameTo landed (all_paths files) old mid (gives paths) → Stops landed (files_of files) old mid f g stop
  files_lost paths stop none (same, came) =
      subst (λ (o : Option End). Stops landed (files_of files) old mid f g o) (sym none)
      (stops_then landed (all_paths files) (λ ps. giving (once [] ps)) old paths mid mid f g g None same came (refl, record { steps = []; begun = inl refl; fit = tt; stand = refl }))
