-- What a part of `cover` did that is over, and parts that don't end a command as done.
use Rattle.std.proofs.Common.{◌≡◌, ℕ, List, [], ◌∷◌, ◌++◌, inl, inr, refl, sym, ◌∙◌, ap, subst}
use Rattle.jc_command_work.specs.Step.{Word, Outside, Landed, Write, to_read, to_list, to_write, Step, has_read, has_no, has_listed, has_written, Fit, after, after_write, IsRead}
use Rattle.jc_command_work.specs.Part.{End, done, unmet, refused, misused, unread, unwritten, unprinted, Outcome, wants, gives, stops, Part, Command, giving, deciding, making, never, reading, listing, writing, reading_all, writing_all, Hands, ◌>>=◌}
use Rattle.jc_outside.specs.Outside.{IsListing}
use Rattle.jc_paths.specs.Paths.{FileText, plain, folder}
use Rattle.jc_command_work.specs.Folders.{all_paths, paths_of, files_of, once}
use Rattle.jc_command_work.specs.Prefix.{after_writes}
use Rattle.jc_command_work.proofs.Behind.{after-append, fit_front, fit_behind}
use Rattle.jc_command_work.proofs.OneWork.{same_value, not_gives}
use Rattle.jc_headline.specs.CoverWork.{LookedFile, AreLooked, instrumenting, all_file_writes}
use Rattle.jc_headline.specs.Named.{IsNamedBy, AreNamedBy, AreNamed}
use Rattle.jc_headline.specs.CoverRun.{AreRead, AreDistinct}
use Rattle.jc_headline.proofs.DistinctLaws.{distinct_once}

-- ---- a part that doesn't end a command as done

abbrev pub Quiet : {X : Type 0} → Part X → Type 0
Quiet p = (steps : List Step) → p steps (stops done) → ⊥

abbrev pub IsDone : End → Type 0
IsDone done = Unit {0}
IsDone unmet = ⊥
IsDone (refused fault line) = ⊥
IsDone misused = ⊥
IsDone (unread path) = ⊥
IsDone (unwritten path) = ⊥
IsDone unprinted = ⊥

abbrev EndsDone : {X : Type 0} → Outcome X → Type 0
EndsDone (wants call) = ⊥
EndsDone (gives x) = ⊥
EndsDone (stops end) = IsDone end

pub not_done : {X : Type 0} (o : Outcome X) → stops done ≡ o → (EndsDone o → ⊥) → ⊥
not_done o is none = none (subst (λ (k : Outcome _). EndsDone k) is tt)

pub quiet_giving : {X : Type 0} (x : X) → Quiet (giving x)
quiet_giving x [] is = not_done (gives x) is (λ e. e)
quiet_giving x (s ∷ ss) is = is

pub quiet_reading : (path : Word) → Quiet (reading path)
quiet_reading path [] is = not_done (wants (to_read path)) is (λ e. e)
quiet_reading path (has_read p b ∷ []) is = not_done (gives b) is.1 (λ e. e)
quiet_reading path (has_no p ∷ []) is = not_done (stops (unread path)) is.1 (λ e. e)
quiet_reading path (has_read p b ∷ s ∷ ss) is = is
quiet_reading path (has_no p ∷ s ∷ ss) is = is
quiet_reading path (has_listed f ps ∷ ss) is = is
quiet_reading path (has_written v ∷ ss) is = is

quiet_listing : (path : Word) → Quiet (listing path)
quiet_listing path [] is = not_done (wants (to_list path)) is (λ e. e)
quiet_listing path (has_listed f ps ∷ []) is = not_done (gives ps) is.1 (λ e. e)
quiet_listing path (has_listed f ps ∷ s ∷ ss) is = is
quiet_listing path (has_read p b ∷ ss) is = is
quiet_listing path (has_no p ∷ ss) is = is
quiet_listing path (has_written v ∷ ss) is = is

pub quiet_writing : (write : Write) → Quiet (writing write)
quiet_writing write [] is = not_done (wants (to_write write)) is (λ e. e)
quiet_writing write (has_written v ∷ []) is = not_done (gives tt) is.1 (λ e. e)
quiet_writing write (has_written v ∷ s ∷ ss) is = is
quiet_writing write (has_read p b ∷ ss) is = is
quiet_writing write (has_no p ∷ ss) is = is
quiet_writing write (has_listed f ps ∷ ss) is = is

pub quiet_deciding : {X : Type 0} (Is : X → Type 0) (Ends : End → Type 0) → (Ends done → ⊥) → Quiet (deciding Is Ends)
quiet_deciding Is Ends none [] is = none is
quiet_deciding Is Ends none (s ∷ ss) is = is

pub quiet_then : {X Y : Type 0} (p : Part X) (q : X → Part Y) → Quiet p → ((x : X) → Quiet (q x)) → Quiet (p >>= q)
quiet_then p q one more steps (inl within) = one steps within
quiet_then p q one more steps (inr h) = more h.value h.behind h.goes_on

pub quiet_reading_all : (paths : List Word) → Quiet (reading_all paths)
quiet_reading_all [] = quiet_giving []
quiet_reading_all (p ∷ ps) = quiet_then (reading p) _ (quiet_reading p) (λ t. quiet_then (reading_all ps) _ (quiet_reading_all ps) (λ ts. quiet_giving (t ∷ ts)))

pub quiet_writing_all : (writes : List Write) → Quiet (writing_all writes)
quiet_writing_all [] = quiet_giving tt
quiet_writing_all (w ∷ ws) = quiet_then (writing w) _ (quiet_writing w) (λ u. quiet_writing_all ws)

quiet_paths : (file : FileText) → Quiet (paths_of file)
quiet_paths (plain path) = quiet_giving _
quiet_paths (folder path) = quiet_listing _

quiet_all_paths : (files : List FileText) → Quiet (all_paths files)
quiet_all_paths [] = quiet_giving []
quiet_all_paths (f ∷ fs) = quiet_then (paths_of f) _ (quiet_paths f) (λ ps. quiet_then (all_paths fs) _ (quiet_all_paths fs) (λ more. quiet_giving (ps ++ more)))

pub quiet_files : (files : List FileText) → Quiet (files_of files)
quiet_files files = quiet_then (all_paths files) _ (quiet_all_paths files) (λ ps. quiet_giving (once [] ps))

pub quiet_instrumenting : (dest : Word) (paths : List Word) (read : List (List ℕ)) → Quiet (instrumenting dest paths read)
quiet_instrumenting dest paths read =
    quiet_then (making (AreLooked paths read)) _ (quiet_deciding (AreLooked paths read) never (λ e. e))
    (λ l. quiet_then (writing_all (all_file_writes dest l)) _ (quiet_writing_all (all_file_writes dest l)) (λ u. quiet_giving l))

-- ---- what a part that is over did

module _ (landed : Landed) (w : Outside) where
  -- it left the outside
  abbrev pub Left : List Step → Type 0
  Left steps = after landed w steps ≡ w

  pub giving_over : {X : Type 0} (x y : X) (steps : List Step) → giving x steps (gives y) → (y ≡ x) × Left steps
  giving_over x y [] is = (same_value y x is, refl)
  giving_over x y (s ∷ ss) is = absurd is

  pub deciding_over : {X : Type 0} (Is : X → Type 0) (Ends : End → Type 0) (x : X) (steps : List Step) → deciding Is Ends steps (gives x) → Is x × Left steps
  deciding_over Is Ends x [] is = (is, refl)
  deciding_over Is Ends x (s ∷ ss) is = absurd is

  pub reading_over : (path text : List ℕ) (steps : List Step) → reading path steps (gives text) → Fit landed w steps → IsRead w.contents path text × Left steps
  reading_over path text [] is fits = absurd (not_gives text (wants (to_read path)) is tt)
  reading_over path text (has_read p b ∷ []) is fits = (subst (λ (x : List ℕ). IsRead w.contents path x) (sym (same_value text b is.1)) (subst (λ (x : Word). IsRead w.contents x b) is.0 fits.0), refl)
  reading_over path text (has_no p ∷ []) is fits = absurd (not_gives text (stops (unread path)) is.1 tt)
  reading_over path text (has_read p b ∷ s ∷ ss) is fits = absurd is
  reading_over path text (has_no p ∷ s ∷ ss) is fits = absurd is
  reading_over path text (has_listed p b ∷ ss) is fits = absurd is
  reading_over path text (has_written v ∷ ss) is fits = absurd is

  listing_over : (path : Word) (ps : List Word) (steps : List Step) → listing path steps (gives ps) → Fit landed w steps → IsListing w.contents path ps × Left steps
  listing_over path ps [] is fits = absurd (not_gives ps (wants (to_list path)) is tt)
  listing_over path ps (has_listed f qs ∷ []) is fits = (
    subst (IsListing w.contents path) (sym (same_value ps qs is.1)) (subst (λ (x : Word). IsListing w.contents x qs) is.0 fits.0),
    refl,
  )
  listing_over path ps (has_listed f qs ∷ s ∷ ss) is fits = absurd is
  listing_over path ps (has_read p b ∷ ss) is fits = absurd is
  listing_over path ps (has_no p ∷ ss) is fits = absurd is
  listing_over path ps (has_written v ∷ ss) is fits = absurd is

  pub writing_over : (write : Write) (u : Unit {0}) (steps : List Step) → writing write steps (gives u) → after landed w steps ≡ after_write landed w write
  writing_over write u [] is = absurd (not_gives u (wants (to_write write)) is tt)
  writing_over write u (has_written v ∷ []) is = ap (λ (x : Write). after_write landed w x) is.0
  writing_over write u (has_written v ∷ s ∷ ss) is = absurd is
  writing_over write u (has_read p b ∷ ss) is = absurd is
  writing_over write u (has_no p ∷ ss) is = absurd is
  writing_over write u (has_listed f ps ∷ ss) is = absurd is

  paths_over : (file : FileText) (ps : List Word) (steps : List Step) → paths_of file steps (gives ps) → Fit landed w steps → IsNamedBy w.contents file ps × Left steps
  paths_over (plain path) ps steps is fits = giving_over _ ps steps is
  paths_over (folder path) ps steps is fits = listing_over _ ps steps is fits

-- a part behind another: where the second begins, and what each did
pub record Both {X Y : Type 0} (landed : Landed) (p : Part X) (q : X → Part Y) (w : Outside) (steps : List Step) (o : Outcome Y) : Type 0 where
  pub front : List Step
  pub behind : List Step
  pub value : X
  pub first : p front (gives value)
  pub next : q value behind o
  pub fits : Fit landed w front
  pub fits' : Fit landed (after landed w front) behind
  pub stands : after landed w steps ≡ after landed (after landed w front) behind

pub both : {X Y : Type 0} (landed : Landed) (p : Part X) (q : X → Part Y) (w : Outside) (steps : List Step) (o : Outcome Y) → Hands p q steps o → Fit landed w steps → Both landed p q w steps o
both landed p q w steps o h fits =
    let fits' = subst (Fit landed w) h.parts fits in
    record {
      front = h.front;
      behind = h.behind;
      value = h.value;
      first = h.over;
      next = h.goes_on;
      fits = fit_front landed w h.front h.behind fits';
      fits' = fit_behind landed w h.front h.behind fits';
      stands = ap (after landed w) h.parts ∙ after-append landed w h.front h.behind;
    }

-- the command is done in these steps, and each gave what was there
abbrev pub IsDoneIn : Landed → Command → Outside → List Step → Type 0
IsDoneIn landed command w steps = command steps (stops done) × Fit landed w steps

pub handed : {X Y : Type 0} (p : Part X) (q : X → Part Y) (steps : List Step) (y : Y) → (p >>= q) steps (gives y) → Hands p q steps (gives y)
handed p q steps y (inl within) = absurd within
handed p q steps y (inr h) = h

pub through : {X Y : Type 0} (p : Part X) (q : X → Part Y) (steps : List Step) → Quiet p → (p >>= q) steps (stops done) → Hands p q steps (stops done)
through p q steps quiet (inl within) = absurd (quiet steps within)
through p q steps quiet (inr h) = h

module _ (landed : Landed) where
  pub reading_all_over : (w : Outside) (paths : List Word) (read : List (List ℕ)) (steps : List Step) → reading_all paths steps (gives read)
      → Fit landed w steps → AreRead w.contents paths read × (after landed w steps ≡ w)
  reading_all_over w [] read steps is fits = let g = giving_over landed w [] read steps is in (subst (AreRead w.contents []) (sym g.0) tt, g.1)
  reading_all_over w (p ∷ ps) read steps is fits =
      let a = both landed (reading p) _ w steps (gives read) (handed (reading p) _ steps read is) fits in
      let (there, left) = reading_over landed w p a.value a.front a.first a.fits in
      let fits' = subst (λ (v : Outside). Fit landed v a.behind) left a.fits' in
      let b = both landed (reading_all ps) _ w a.behind (gives read) (handed (reading_all ps) _ a.behind read a.next) fits' in
      let (more, left') = reading_all_over w ps b.value b.front b.first b.fits in
      let (is', left'') = giving_over landed (after landed w b.front) (a.value ∷ b.value) read b.behind b.next in
      (subst (AreRead w.contents (p ∷ ps)) (sym is') (there, more), a.stands ∙ ap (λ (v : Outside). after landed v a.behind) left ∙ b.stands ∙ left'' ∙ left')

  pub writing_all_over : (w : Outside) (writes : List Write) (u : Unit {0}) (steps : List Step) → writing_all writes steps (gives u)
      → Fit landed w steps → after landed w steps ≡ after_writes landed w writes
  writing_all_over w [] u steps is fits = (giving_over landed w tt u steps is).1
  writing_all_over w (v ∷ vs) u steps is fits =
      let a = both landed (writing v) _ w steps (gives u) (handed (writing v) _ steps u is) fits in
      let made = writing_over landed w v a.value a.front a.first in
      let rest = writing_all_over (after_write landed w v) vs u a.behind a.next (subst (λ (x : Outside). Fit landed x a.behind) made a.fits') in
      a.stands ∙ ap (λ (x : Outside). after landed x a.behind) made ∙ rest

  all_paths_over : (w : Outside) (files : List FileText) (ps : List Word) (steps : List Step) → all_paths files steps (gives ps) → Fit landed w steps
      → AreNamedBy w.contents files ps × (after landed w steps ≡ w)
  all_paths_over w [] ps steps is fits = giving_over landed w [] ps steps is
  all_paths_over w (file ∷ files) ps steps is fits =
      let a = both landed (paths_of file) _ w steps (gives ps) (handed (paths_of file) _ steps ps is) fits in
      let (here, left) = paths_over landed w file a.value a.front a.first a.fits in
      let fits' = subst (λ (v : Outside). Fit landed v a.behind) left a.fits' in
      let b = both landed (all_paths files) _ w a.behind (gives ps) (handed (all_paths files) _ a.behind ps a.next) fits' in
      let (more, left') = all_paths_over w files b.value b.front b.first b.fits in
      let (same, left'') = giving_over landed (after landed w b.front) (a.value ++ b.value) ps b.behind b.next in
      ((a.value, b.value, here, more, same), a.stands ∙ ap (λ (v : Outside). after landed v a.behind) left ∙ b.stands ∙ left'' ∙ left')

  -- the paths differ, and are those that the files name
  pub files_over : (w : Outside) (files : List FileText) (ps : List Word) (steps : List Step) → files_of files steps (gives ps) → Fit landed w steps
      → (AreDistinct ps × AreNamed w.contents files ps) × (after landed w steps ≡ w)
  files_over w files ps steps is fits =
      let a = both landed (all_paths files) _ w steps (gives ps) (handed (all_paths files) _ steps ps is) fits in
      let (are, left) = all_paths_over w files a.value a.front a.first a.fits in
      let (same, left') = giving_over landed (after landed w a.front) (once [] a.value) ps a.behind a.next in
      ((subst AreDistinct (sym same) (distinct_once [] a.value), (a.value, are, same)), a.stands ∙ left' ∙ left)

  pub instrumenting_over : (w : Outside) (dest : Word) (paths : List Word) (read : List (List ℕ)) (l : List LookedFile) (steps : List Step)
      → instrumenting dest paths read steps (gives l) → Fit landed w steps
      → AreLooked paths read l × (after landed w steps ≡ after_writes landed w (all_file_writes dest l))
  instrumenting_over w dest paths read l steps is fits =
      let a = both landed (making (AreLooked paths read)) _ w steps (gives l) (handed (making (AreLooked paths read)) _ steps l is) fits in
      let (looked, left) = deciding_over landed w (AreLooked paths read) never a.value a.front a.first in
      let fits' = subst (λ (v : Outside). Fit landed v a.behind) left a.fits' in
      let b = both landed (writing_all (all_file_writes dest a.value)) _ w a.behind (gives l) (handed (writing_all (all_file_writes dest a.value)) _ a.behind l a.next) fits' in
      let made = writing_all_over w (all_file_writes dest a.value) b.value b.front b.first b.fits in
      let (same, left') = giving_over landed (after landed w b.front) a.value l b.behind b.next in (
        subst (AreLooked paths read) (sym same) looked,
        a.stands ∙ ap (λ (v : Outside). after landed v a.behind) left ∙ b.stands ∙ left' ∙ made ∙ ap (λ (k : List LookedFile). after_writes landed w (all_file_writes dest k)) (sym same),
      )
