-- A command that reads, decides and then writes has one work, and functions that do its parts do the whole.
use Rattle.std.proofs.Common.{◌≡◌, ◌⊎◌, ℕ, List, [], ◌∷◌, ◌++◌, All, ◌≤◌, Option, None, Some, Result, Ok, Err, Vec, Bor, length, ◌∙◌, inl, inr, refl, sym, ap, subst, arith}
use Rattle.std.proofs.lemmas.List.{length-map}
use Rattle.std.proofs.lemmas.List.Elements.{All-from_recursion}
use Rattle.std.specs.List.{AllByRecursion}
use Rattle.std.specs.declared.alloc.Global.{Global}
use Rattle.jc_bytes.specs.Reader.{most_read}
use Rattle.jc_command_work.specs.declared.output.Write.{Write as Written}
use Rattle.jc_command_work.specs.declared.stop.Stop.{Stop}
use Rattle.jc_command_work.specs.Step.{Word, IsFile, AreTexts, Outside, Counts, Landed, Write, to_read, Step, has_read, has_no, has_listed, has_written, Fit, after}
use Rattle.jc_command_work.specs.Part.{End, done, unread, Outcome, deciding, wants, gives, stops, Part, giving, ending, reading, reading_all, writing_all, ◌>>=◌}
use Rattle.jc_command_work.specs.Ending.{CameTo, Stops, Does, Ran}
use Rattle.jc_command_work.specs.OneWay.{IsOver, HasOne, OneDecision}
use Rattle.jc_paths.specs.Paths.{FileText, plain, folder}
use Rattle.jc_command_work.specs.Folders.{paths_of, all_paths, files_of, once}
use Rattle.jc_command_work.specs.Seen.{texts_of, stop_seen}
use Rattle.jc_command_work.specs.Answered.{Answer, OneAnswer, HasOneAnswer, answering, preparing, making_all, answered, EndsSo, AnswersAs, writes_seen, AnswersWith}
use Rattle.jc_command_work.proofs.Behind.{fit_front, fit_behind, came_then, began_then, stops_first}
use Rattle.jc_command_work.proofs.OneWork.{one_giving, one_ending, one_deciding, one_listing, has_then, has_then_if, has_reading_all, has_writing_all, same_value, not_gives}
use Rattle.jc_command_work.proofs.Reaching.{was_decided, was_ended, reached_start, reached_next, ran_last}

-- ---- what was read

-- a part behind another hands on what the second hands on
pub handed_on : {X Y : Type 0} (landed : Landed) (p : Part X) (q : X → Part Y) (w : Outside) (steps : List Step) (y : Y) → (p >>= q) steps (gives y) → Fit landed w steps
    → (front : List Step) × (behind : List Step) × (x : X) × p front (gives x) × q x behind (gives y) × Fit landed w front × Fit landed (after landed w front) behind
handed_on landed p q w steps y (inl within) fits = absurd within
handed_on landed p q w steps y (inr h) fits =
    let fits' = subst (Fit landed w) h.parts fits in
    (h.front, h.behind, h.value, h.over, h.goes_on, fit_front landed w h.front h.behind fits', fit_behind landed w h.front h.behind fits')

pub given : {X : Type 0} (x y : X) (steps : List Step) → giving x steps (gives y) → y ≡ x
given x y [] is = same_value y x is
given x y (s ∷ ss) is = absurd is

pub file_read : (landed : Landed) (w : Outside) (path text : List ℕ) (steps : List Step) → reading path steps (gives text) → Fit landed w steps → IsFile text
file_read landed w path text [] is fits = absurd (not_gives text (wants (to_read path)) is tt)
file_read landed w path text (has_read p b ∷ []) is fits = subst IsFile (sym (same_value text b is.1)) fits.0.file
file_read landed w path text (has_no p ∷ []) is fits = absurd (not_gives text (stops (unread path)) is.1 tt)
file_read landed w path text (has_read p b ∷ s ∷ ss) is fits = absurd is
file_read landed w path text (has_no p ∷ s ∷ ss) is fits = absurd is
file_read landed w path text (has_listed p b ∷ ss) is fits = absurd is
file_read landed w path text (has_written v ∷ ss) is fits = absurd is

pub texts_read : (landed : Landed) (w : Outside) (paths : List Word) (steps : List Step) (read : List (List ℕ)) → reading_all paths steps (gives read) → Fit landed w steps → AreTexts paths read
texts_read landed w [] steps read is fits = subst (AreTexts []) (sym (given [] read steps is)) tt
texts_read landed w (p ∷ ps) steps read is fits =
    let (front, behind, text, first, next, fits', fits'') = handed_on landed (reading p) _ w steps read is fits in
    let (front', behind', more, first', next', fits₁, fits₂) = handed_on landed (reading_all ps) _ (after landed w front) behind read next fits'' in
    subst (AreTexts (p ∷ ps)) (sym (given (text ∷ more) read behind' next')) (file_read landed w p text front first fits', texts_read landed (after landed w front) ps front' more first' fits₁)

-- what was read of paths are texts
pub were_read : (landed : Landed) (paths : List Word) (texts : List (List ℕ)) (old mid : Outside) → CameTo landed (reading_all paths) old mid (gives texts) → AreTexts paths texts
were_read landed paths texts old mid came = texts_read landed old paths came.steps texts came.comes came.fit

-- memory was refused before any step
pub none_made : {X : Type 0} (landed : Landed) (part : Part X) (w : Outside) (f : Counts) → Stops landed part w w f f None
none_made landed part w f = (refl, record { steps = []; begun = inl refl; fit = tt; stand = refl })

-- what was read of paths was read of the same ones
pub read_of : {A E : Type 0} (landed : Landed) (value : A → List (List ℕ)) (stop : E → Option End) (paths others : List Word) → others ≡ paths
    → (old new : Outside) (f f' : Counts) (r : Result A E) → Does landed (reading_all others) value stop old new f f' r → Does landed (reading_all paths) value stop old new f f' r
read_of landed value stop paths others same old new f f' r does = subst (λ (ps : List Word). Does landed (reading_all ps) value stop old new f f' r) same does

-- ---- the files that words name

module _ (landed : Landed) where
  has_paths : (file : FileText) → HasOne landed (paths_of file)
  has_paths (plain path) = λ w told. one_giving landed w _
  has_paths (folder path) = λ w told. one_listing landed w _ told

  has_all_paths : (files : List FileText) → HasOne landed (all_paths files)
  has_all_paths [] = λ w told. one_giving landed w []
  has_all_paths (file ∷ files) =
      has_then landed (paths_of file) _ (has_paths file)
      (λ paths. has_then landed (all_paths files) _ (has_all_paths files) (λ more w told. one_giving landed w (paths ++ more)))

  pub has_files : (files : List FileText) → HasOne landed (files_of files)
  has_files files = has_then landed (all_paths files) _ (has_all_paths files) (λ paths w told. one_giving landed w (once [] paths))

-- ---- what is decided

-- One decision, where of two facts of the same texts one holds, each of one value, and not both.
pub decides : {X : Type 0} (Is : X → Type 0) (Ends : End → Type 0) → ((x y : X) → Is x → Is y → x ≡ y) → ((e f : End) → Ends e → Ends f → e ≡ f)
    → ((x : X) (e : End) → Is x → Ends e → ⊥) → ((x : X) × Is x) ⊎ ((e : End) × Ends e) → OneDecision Is Ends
decides {X} Is Ends one one_end apart (inl (x, is)) = record { decision = gives x; over = tt; holds = is; only = only }
  where
    only : (o : Outcome X) → IsOver o → deciding Is Ends [] o → o ≡ gives x
    only (wants call) over so = absurd over
    only (gives y) over so = ap (λ (z : X). let p : Outcome X = gives z in p) (one y x so is)
    only (stops e) over so = absurd (apart x e is so)
decides {X} Is Ends one one_end apart (inr (e, ends)) = record { decision = stops e; over = tt; holds = ends; only = only }
  where
    only : (o : Outcome X) → IsOver o → deciding Is Ends [] o → o ≡ stops e
    only (wants call) over so = absurd over
    only (gives y) over so = absurd (apart y e so ends)
    only (stops f) over so = ap (λ (g : End). let p : Outcome X = stops g in p) (one_end f e so ends)

one_answering : {X : Type 0} (Is : Outcome X → Type 0) → OneAnswer Is → OneDecision (λ value. Is (gives value)) (λ end. Is (stops end))
one_answering {X} Is one = record { decision = one.answer; over = one.over; holds = by one.answer one.over one.holds; only = λ o over is. one.only o (back o over is) }
  where
    by : (o : Outcome X) → IsOver o → Is o → answering Is [] o
    by (wants call) over is = absurd over
    by (gives value) over is = is
    by (stops end) over is = is

    back : (o : Outcome X) → IsOver o → answering Is [] o → Is o
    back (wants call) over is = absurd over
    back (gives value) over is = is
    back (stops end) over is = is

module _ {X : Type 0} (landed : Landed) (inputs : List Word) (Answers : List (List ℕ) → Outcome X → Type 0) where
  pub has_preparing : HasOneAnswer inputs Answers → HasOne landed (preparing inputs Answers)
  has_preparing one =
      has_then_if landed (reading_all inputs) (λ texts. answering (Answers texts)) (has_reading_all landed inputs)
      (λ w steps texts over fits. by texts (one texts (texts_read landed w inputs steps texts over fits)))
    where
      by : (texts : List (List ℕ)) → OneAnswer (Answers texts) → HasOne landed (answering (Answers texts))
      by texts own w told = one_deciding landed w (λ value. Answers texts (gives value)) (λ end. Answers texts (stops end)) (one_answering (Answers texts) own)

  -- ---- functions that do its parts

  -- the inputs were read, and what was made of them is decided
  pub prepared_as : {V : Type 0} (value : V → X) (old mid : Outside) (f g : Counts) (texts : List (List ℕ)) (r : Result V Stop)
      → (g ≡ f) × CameTo landed (reading_all inputs) old mid (gives texts) → AnswersAs value (Answers texts) r
      → Does landed (preparing inputs Answers) value stop_seen old mid f g r
  prepared_as value old mid f g texts (Ok v) (same, came) is = (
    same,
    came_then landed (reading_all inputs) (λ ts. answering (Answers ts)) old texts mid mid (gives (value v)) came
        (was_decided landed (λ x. Answers texts (gives x)) (λ end. Answers texts (stops end)) mid (value v) is),
  )
  prepared_as value old mid f g texts (Err stop) (same, came) is = by (stop_seen stop) is
    where
      by : (o : Option End) → EndsSo (Answers texts) o → Stops landed (preparing inputs Answers) old mid f g o
      by None none =
          (same, began_then landed (reading_all inputs) (λ ts. answering (Answers ts)) old texts mid mid came (record { steps = []; begun = inl refl; fit = tt; stand = refl }))
      by (Some end) so =
          inl (
            same,
            came_then landed (reading_all inputs) (λ ts. answering (Answers ts)) old texts mid mid (stops end) came
                (was_ended landed (λ x. Answers texts (gives x)) (λ e. Answers texts (stops e)) mid end so),
          )

  -- an input couldn't be read, or memory was refused
  pub unprepared : (old mid : Outside) (f g : Counts) (stop : Option End) → Stops landed (reading_all inputs) old mid f g stop → Stops landed (preparing inputs Answers) old mid f g stop
  unprepared old mid f g stop stopped = stops_first landed (reading_all inputs) (λ ts. answering (Answers ts)) old mid f g stop stopped

module _ (landed : Landed) (inputs : List Word) (Answers : List (List ℕ) → Answer → Type 0) where
  pub has_making : (writes : List Write) → HasOne landed (making_all writes)
  has_making writes = has_then landed (writing_all writes) (λ _. ending {X = ⊥} done) (has_writing_all landed writes) (λ _ w told. one_ending landed w done)

  -- it has one work
  pub has_answered : HasOneAnswer inputs Answers → HasOne landed (answered inputs Answers)
  has_answered one = has_then landed (preparing inputs Answers) making_all (has_preparing landed inputs Answers one) has_making

  -- ---- functions that do its parts

  -- the inputs were read, and what is to be written is decided
  pub prepared : (old mid : Outside) (f g : Counts) (texts : List (List ℕ)) (r : Result (Vec Written Global) Stop)
      → (g ≡ f) × CameTo landed (reading_all inputs) old mid (gives texts) → AnswersWith (Answers texts) r
      → Does landed (preparing inputs Answers) writes_seen stop_seen old mid f g r
  prepared old mid f g texts r read is = prepared_as landed inputs Answers writes_seen old mid f g texts r read is

  -- what was decided is written
  pub ran_answered : (old mid new : Outside) (f g f' : Counts) (writes : List Write) (r : Result (Unit {0}) Stop)
      → (g ≡ f) × CameTo landed (preparing inputs Answers) old mid (gives writes) → Does landed (writing_all writes) (λ _. tt) stop_seen mid new g f' r
      → Ran landed (answered inputs Answers) stop_seen old new f f' r
  ran_answered old mid new f g f' writes r (same, came) does =
      let command = answered inputs Answers in
      let next = reached_next landed command old f (preparing inputs Answers) making_all (λ y. y) old f (reached_start landed command old f) writes mid g same came in
      ran_last landed command old mid f g (writing_all writes) next stop_seen new f' r does

  pub ran_unprepared : (old mid : Outside) (f g : Counts) (stop : Option End) → Stops landed (preparing inputs Answers) old mid f g stop → Stops landed (answered inputs Answers) old mid f g stop
  ran_unprepared old mid f g stop stopped = stops_first landed (preparing inputs Answers) making_all old mid f g stop stopped

-- ---- what was read is files

pub all_files : (paths : List Word) (texts : List (List ℕ)) → AreTexts paths texts → AllByRecursion IsFile texts
all_files [] [] are = tt
all_files [] (t ∷ ts) are = absurd are
all_files (p ∷ ps) [] are = absurd are
all_files (p ∷ ps) (t ∷ ts) are = (are.0, all_files ps ts are.1)

pub as_many_texts : (paths : List Word) (texts : List (List ℕ)) → AreTexts paths texts → length paths ≡ length texts
as_many_texts [] [] are = refl
as_many_texts [] (t ∷ ts) are = absurd are
as_many_texts (p ∷ ps) [] are = absurd are
as_many_texts (p ∷ ps) (t ∷ ts) are = let rest = as_many_texts ps ts are.1 in omega (arith, rest)

each_short : (paths : List Word) (texts : List (List ℕ)) → AreTexts paths texts → AllByRecursion (λ (t : List ℕ). length t ≤ most_read) texts
each_short [] [] are = tt
each_short [] (t ∷ ts) are = absurd are
each_short (p ∷ ps) [] are = absurd are
each_short (p ∷ ps) (t ∷ ts) are = (are.0.short, each_short ps ts are.1)

pub are_short : (paths : List Word) (texts : List (List ℕ)) → AreTexts paths texts → All (λ (t : List ℕ). length t ≤ most_read) texts
are_short paths texts are = All-from_recursion (λ (t : List ℕ). length t ≤ most_read) texts (each_short paths texts are)

pub as_many_files : (paths : List (Bor (List ℕ))) (texts : List (List ℕ)) → AreTexts (texts_of paths) texts → length texts ≡ length paths
as_many_files paths texts are = sym (sym (length-map paths (λ (p : Bor (List ℕ)). p.now)) ∙ as_many_texts (texts_of paths) texts are)

-- texts of paths are texts of as many others
pub as_texts_of : (paths others : List Word) (texts : List (List ℕ)) → AreTexts paths texts → length others ≡ length paths → AreTexts others texts
as_texts_of [] [] texts are same = are
as_texts_of [] (o ∷ os) texts are same = absurd (omega (arith, same))
as_texts_of (p ∷ ps) [] texts are same = absurd (omega (arith, same))
as_texts_of (p ∷ ps) (o ∷ os) [] are same = absurd are
as_texts_of (p ∷ ps) (o ∷ os) (t ∷ ts) are same = (are.0, as_texts_of ps os ts are.1 (omega (arith, same)))
