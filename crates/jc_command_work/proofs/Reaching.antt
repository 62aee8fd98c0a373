-- How far a part has come: whatever comes of the rest, from here, comes of the whole.
use Rattle.std.proofs.Common.{◌≡◌, ℕ, List, [], ◌∷◌, ◌++◌, Option, None, Some, Result, Ok, Err, inl, inr, refl, sym, ◌∙◌, ap, subst, append_assoc, append-nil, map, drop, get_or, length, ◌+◌, ◌<◌, ◌≤◌, drop-cons, add-one}
use Rattle.std.proofs.lemmas.List.{drop_all}
use Rattle.jc_command_work.specs.Step.{Word, Outside, Counts, Landed, Write, to_file, to_out, to_err, Call, to_read, to_list, to_write}
use Rattle.jc_command_work.specs.Part.{End, done, unmet, refused, misused, unread, unwritten, unprinted, failure, gives, stops, Part, Command, giving, ending, deciding, reading, reading_all, writing, writing_all, ◌>>=◌}
use Rattle.jc_command_work.specs.Ending.{CameTo, Stops, Does, Ran}
use Rattle.jc_command_work.proofs.Behind.{came_then, stops_first, stops_then}

pub record Reached {X Y : Type 0} (landed : Landed) (part : Part Y) (rest : Part X) (glue : X → Y) (old now : Outside) (f g : Counts) : Type 0 where
  pub came : (new : Outside) (x : X) → CameTo landed rest now new (gives x) → CameTo landed part old new (gives (glue x))
  pub ended : (new : Outside) (f' : Counts) (stop : Option End) → Stops landed rest now new g f' stop → Stops landed part old new f f' stop
  pub same : g ≡ f

module _ {Y : Type 0} (landed : Landed) (part : Part Y) (old : Outside) (f : Counts) where
  pub reached_start : Reached landed part part (λ y. y) old old f f
  reached_start = record { came = λ new x came. came; ended = λ new f' stop ended. ended; same = refl }

  module _ {X Z : Type 0} (p : Part X) (q : X → Part Z) (glue : Z → Y) (now : Outside) (g : Counts) (so : Reached landed part (p >>= q) glue old now f g) where
    -- the next part is over
    pub reached_next : (x : X) (mid : Outside) (h : Counts) → h ≡ g → CameTo landed p now mid (gives x) → Reached landed part (q x) glue old mid f h
    reached_next x mid h same came = record {
      came = λ new z next. so.came new z (came_then landed p q now x mid new (gives z) came next);
      ended = λ new f' stop next. so.ended new f' stop (stops_then landed p q now x mid new g h f' stop same came next);
      same = same ∙ so.same;
    }

    -- the next part stopped the command
    pub reached_stop : (new : Outside) (f' : Counts) (stop : Option End) → Stops landed p now new g f' stop → Stops landed part old new f f' stop
    reached_stop new f' stop stopped = so.ended new f' stop (stops_first landed p q now new g f' stop stopped)

  -- what hands on what it made of a value hands on no less
  pub reached_last : {X Z : Type 0} (p : Part X) (make : X → Z) (glue : Z → Y) (glue' : X → Y) → ((x : X) → glue (make x) ≡ glue' x) → (now : Outside) (g : Counts)
      → Reached landed part (p >>= λ x. giving (make x)) glue old now f g → Reached landed part p glue' old now f g
  reached_last p make glue glue' is now g so = record {
    came = λ new x came. subst (λ (y : Y). CameTo landed part old new (gives y)) (is x)
        (so.came new (make x) (came_then landed p (λ x. giving (make x)) now x new new (gives (make x)) came (nothing new (make x))));
    ended = λ new f' stop next. so.ended new f' stop (stops_first landed p (λ x. giving (make x)) now new g f' stop next);
    same = so.same;
  }
    where
      nothing : {Z : Type 0} (new : Outside) (z : Z) → CameTo landed (giving z) new new (gives z)
      nothing new z = record { steps = []; comes = refl; begun = inl refl; fit = tt; stand = refl }

-- ---- over a list of paths

module _ (landed : Landed) (all : List (List ℕ)) (old now mid : Outside) (f g h : Counts) (texts : List (List ℕ)) (path text : List ℕ) (rest : List (List ℕ)) where
  pub reached_text : Reached landed (reading_all all) (reading_all (path ∷ rest)) (λ more. texts ++ more) old now f g → h ≡ g → CameTo landed (reading path) now mid (gives text)
      → Reached landed (reading_all all) (reading_all rest) (λ more. (texts ++ text ∷ []) ++ more) old mid f h
  reached_text so same came =
      reached_last landed (reading_all all) old f (reading_all rest) (λ more. text ∷ more) (λ more. texts ++ more)
      (λ more. (texts ++ text ∷ []) ++ more) (λ more. sym (append_assoc texts (text ∷ []) more)) mid h
      (reached_next landed (reading_all all) old f (reading path) (λ t. reading_all rest >>= λ more. giving (t ∷ more)) (λ more. texts ++ more) now g so text mid h same came)

  pub reached_no_text : Reached landed (reading_all all) (reading_all (path ∷ rest)) (λ more. texts ++ more) old now f g → (stop : Option End) → Stops landed (reading path) now mid g h stop
      → Stops landed (reading_all all) old mid f h stop
  reached_no_text so stop stopped =
      reached_stop landed (reading_all all) old f (reading path) (λ t. reading_all rest >>= λ more. giving (t ∷ more)) (λ more. texts ++ more) now g so mid h stop stopped

pub reached_all_texts : (landed : Landed) (all : List (List ℕ)) (old now : Outside) (f g : Counts) (texts : List (List ℕ))
    → Reached landed (reading_all all) (reading_all []) (λ more. texts ++ more) old now f g
    → (g ≡ f) × CameTo landed (reading_all all) old now (gives texts)
reached_all_texts landed all old now f g texts so = (
  so.same,
  subst (λ (l : List (List ℕ)). CameTo landed (reading_all all) old now (gives l)) (append-nil texts)
      (so.came now [] (record { steps = []; comes = refl; begun = inl refl; fit = tt; stand = refl })),
)

-- ---- a command

-- what a command comes to without its last message: it is done, or was stopped
abbrev pub all_done : {X : Type 0} (landed : Landed) (now : Outside) (g : Counts) → Stops landed (ending {X = X} done) now now g g (Some done)
all_done landed now g = inl (refl, record { steps = []; comes = refl; begun = inl refl; fit = tt; stand = refl })

-- a decision makes no step
pub was_decided : {X : Type 0} (landed : Landed) (Is : X → Type 0) (Ends : End → Type 0) (now : Outside) (x : X) → Is x → CameTo landed (deciding Is Ends) now now (gives x)
was_decided landed Is Ends now x is = record { steps = []; comes = is; begun = inl refl; fit = tt; stand = refl }

pub was_ended : {X : Type 0} (landed : Landed) (Is : X → Type 0) (Ends : End → Type 0) (now : Outside) (end : End) → Ends end → CameTo landed (deciding Is Ends) now now (stops end)
was_ended landed Is Ends now end is = record { steps = []; comes = is; begun = inl refl; fit = tt; stand = refl }

abbrev IsDone : End → Type 0
IsDone done = Unit {0}
IsDone unmet = ⊥
IsDone (refused fault line) = ⊥
IsDone misused = ⊥
IsDone (unread path) = ⊥
IsDone (unwritten path) = ⊥
IsDone unprinted = ⊥

not_done : (call : Call) → done ≡ failure call → ⊥
not_done (to_read path) is = subst IsDone is tt
not_done (to_list folder) is = subst IsDone is tt
not_done (to_write (to_file path bytes)) is = subst IsDone is tt
not_done (to_write (to_out text)) is = subst IsDone is tt
not_done (to_write (to_err text)) is = subst IsDone is tt

-- the last part of a command
module _ (landed : Landed) (command : Command) (old now : Outside) (f g : Counts) (p : Part (Unit {0})) (so : Reached landed command (p >>= λ _. ending {X = ⊥} done) (λ y. y) old now f g) where
  pub ran_last : {A E : Type 0} (stop : E → Option End) (new : Outside) (f' : Counts) (r : Result A E) → Does landed p (λ _. tt) stop now new g f' r → Ran landed command stop old new f f' r
  ran_last stop new f' (Ok a) (same, came) =
      let next = reached_next landed command old f p (λ _. ending {X = ⊥} done) (λ y. y) now g so tt new f' same came in
      by (next.ended new f' (Some done) (all_done landed new f'))
    where
      by : Stops landed command old new f f' (Some done) → (f' ≡ f) × CameTo landed command old new (stops done)
      by (inl so) = so
      by (inr broke) = absurd (not_done broke.call broke.is)
  ran_last stop new f' (Err e) stopped = reached_stop landed command old f p (λ _. ending {X = ⊥} done) (λ y. y) now g so new f' (stop e) stopped

-- ---- items of a list

module _ {A : Type 0} (named : A → Word) (xs : List A) (i : ℕ) where
  next_item : (d : A) → i < length xs → map named (drop i xs) ≡ named (get_or xs i d) ∷ map named (drop (i + 1) xs)
  next_item d within = ap (map named) (drop-cons xs i d within) ∙ ap (λ (n : ℕ). named (get_or xs i d) ∷ map named (drop n xs)) (sym (add-one i))

  no_item : length xs ≤ i → map named (drop i xs) ≡ []
  no_item not = ap (map named) (drop_all i xs not)

-- the loop over paths: whatever is read of the paths that are left comes behind the texts so far
module _ {A : Type 0} (landed : Landed) (named : A → Word) (xs : List A) where
  abbrev pub Reads : (i : ℕ) (old now : Outside) (f g : Counts) (texts : List (List ℕ)) → Type 0
  Reads i old now f g texts = Reached landed (reading_all (map named xs)) (reading_all (map named (drop i xs))) (λ more. texts ++ more) old now f g

  pub paths_start : (old : Outside) (f : Counts) → Reads 0 old old f f []
  paths_start old f = record { came = λ new x came. came; ended = λ new f' stop ended. ended; same = refl }

  module _ (i : ℕ) (d : A) (within : i < length xs) (path : Word) (is : path ≡ named (get_or xs i d)) (old now mid : Outside) (f g h : Counts)
      (texts : List (List ℕ)) (so : Reads i old now f g texts) where
    at_path : Reached landed (reading_all (map named xs)) (reading_all (path ∷ map named (drop (i + 1) xs))) (λ more. texts ++ more) old now f g
    at_path = subst (λ (l : List (List ℕ)). Reached landed (reading_all (map named xs)) (reading_all l) (λ more. texts ++ more) old now f g)
        (next_item named xs i d within ∙ ap (λ (w : Word). w ∷ map named (drop (i + 1) xs)) (sym is)) so

    pub path_failed : (stop : Option End) → Stops landed (reading path) now mid g h stop → Stops landed (reading_all (map named xs)) old mid f h stop
    path_failed stop stopped = reached_no_text landed (map named xs) old now mid f g h texts path [] (map named (drop (i + 1) xs)) at_path stop stopped

    path_read : (text : List ℕ) → (h ≡ g) × CameTo landed (reading path) now mid (gives text) → Reads (i + 1) old mid f h (texts ++ text ∷ [])
    path_read text (same, came) = reached_text landed (map named xs) old now mid f g h texts path text (map named (drop (i + 1) xs)) at_path same came

    pub path_kept : (text : List ℕ) (new : List (List ℕ)) → new ≡ texts ++ text ∷ [] → (h ≡ g) × CameTo landed (reading path) now mid (gives text) → Reads (i + 1) old mid f h new
    path_kept text new is_new came = subst (λ (l : List (List ℕ)). Reads (i + 1) old mid f h l) (sym is_new) (path_read text came)

    -- memory was refused behind the read
    pub path_lost : (text : List ℕ) (stop : Option End) → stop ≡ None → (h ≡ g) × CameTo landed (reading path) now mid (gives text) → Stops landed (reading_all (map named xs)) old mid f h stop
    path_lost text stop none came =
        subst (λ (o : Option End). Stops landed (reading_all (map named xs)) old mid f h o) (sym none)
        ((path_read text came).ended mid h None (refl, record { steps = []; begun = inl refl; fit = tt; stand = refl }))

  pub paths_read : (i : ℕ) → length xs ≤ i → (old now : Outside) (f g : Counts) (texts : List (List ℕ)) → Reads i old now f g texts
      → (g ≡ f) × CameTo landed (reading_all (map named xs)) old now (gives texts)
  paths_read i not old now f g texts so =
      reached_all_texts landed (map named xs) old now f g texts
      (subst (λ (l : List (List ℕ)). Reached landed (reading_all (map named xs)) (reading_all l) (λ more. texts ++ more) old now f g) (no_item named xs i not) so)

-- ---- writes of a list

module _ {A : Type 0} (named : A → Write) (xs : List A) (i : ℕ) where
  next_write : (d : A) → i < length xs → map named (drop i xs) ≡ named (get_or xs i d) ∷ map named (drop (i + 1) xs)
  next_write d within = ap (map named) (drop-cons xs i d within) ∙ ap (λ (n : ℕ). named (get_or xs i d) ∷ map named (drop n xs)) (sym (add-one i))

  no_write : length xs ≤ i → map named (drop i xs) ≡ []
  no_write not = ap (map named) (drop_all i xs not)

-- the loop over writes
module _ {A : Type 0} (landed : Landed) (named : A → Write) (xs : List A) where
  abbrev pub Writes : (i : ℕ) (old now : Outside) (f g : Counts) → Type 0
  Writes i old now f g = Reached landed (writing_all (map named xs)) (writing_all (map named (drop i xs))) (λ u. u) old now f g

  pub writes_start : (old : Outside) (f : Counts) → Writes 0 old old f f
  writes_start old f = reached_start landed (writing_all (map named xs)) old f

  module _ (i : ℕ) (d : A) (within : i < length xs) (x : A) (is : x ≡ get_or xs i d) (old now mid : Outside) (f g h : Counts) (so : Writes i old now f g) where
    at_write : Reached landed (writing_all (map named xs)) (writing_all (named x ∷ map named (drop (i + 1) xs))) (λ u. u) old now f g
    at_write = subst (λ (l : List Write). Reached landed (writing_all (map named xs)) (writing_all l) (λ u. u) old now f g)
        (next_write named xs i d within ∙ ap (λ (w : A). named w ∷ map named (drop (i + 1) xs)) (sym is)) so

    pub write_failed : (stop : Option End) → Stops landed (writing (named x)) now mid g h stop → Stops landed (writing_all (map named xs)) old mid f h stop
    write_failed stop stopped =
        reached_stop landed (writing_all (map named xs)) old f (writing (named x)) (λ _. writing_all (map named (drop (i + 1) xs))) (λ u. u) now g at_write mid h stop stopped

    pub write_made : (h ≡ g) × CameTo landed (writing (named x)) now mid (gives tt) → Writes (i + 1) old mid f h
    write_made (same, came) =
        reached_next landed (writing_all (map named xs)) old f (writing (named x)) (λ _. writing_all (map named (drop (i + 1) xs))) (λ u. u) now g at_write tt mid h same came

  pub writes_made : (i : ℕ) → length xs ≤ i → (old now : Outside) (f g : Counts) → Writes i old now f g
      → (g ≡ f) × CameTo landed (writing_all (map named xs)) old now (gives tt)
  writes_made i not old now f g so =
      let last = subst (λ (l : List Write). Reached landed (writing_all (map named xs)) (writing_all l) (λ u. u) old now f g) (no_write named xs i not) so in
      (last.same, last.came now tt (record { steps = []; comes = refl; begun = inl refl; fit = tt; stand = refl }))
