-- A command lists, then prepares, then writes, and then reports: how it ends by how each of these did.
use Rattle.std.proofs.Common.{◌≡◌, ◌⊎◌, ℕ, List, [], map, Option, Some, Result, Ok, Err, Vec, inl, inr, refl, subst}
use Rattle.std.specs.declared.alloc.Global.{Global}
use Rattle.jc_paths.specs.Paths.{FileText}
use Rattle.jc_command_words.specs.Commands.{Called, Means, NoForm}
use Rattle.jc_command_work.specs.declared.output.Write.{Write as Written}
use Rattle.jc_command_work.specs.declared.status.Status.{Status}
use Rattle.jc_command_work.specs.declared.status.Status.TheVariants as status
use Rattle.jc_command_work.specs.declared.stop.Stop.{Stop}
use Rattle.jc_command_work.specs.Step.{Word, Outside, Counts, Landed, Write, to_out}
use Rattle.jc_command_work.specs.Part.{End, done, misused, gives, stops, Part, Command, deciding, ending, writing_all, ◌>>=◌}
use Rattle.jc_command_work.specs.Ending.{CameTo, Began, BrokeOff, Stops, Does, Reports, Ends}
use Rattle.jc_command_work.specs.Folders.{files_of}
use Rattle.jc_command_work.specs.Answered.{Answer, preparing, making_all, answered}
use Rattle.jc_command_work.specs.Seen.{write_seen, stop_seen}
use Rattle.jc_command_work.proofs.Behind.{came_then, began_then, broke_then, stops_first}
use Rattle.jc_command_work.proofs.Ends.{ends_done, ends_stopped}
use Rattle.jc_command_work.proofs.Reaching.{reached_start, ran_last, was_decided, was_ended}
use Rattle.jc_top.specs.Completes.{Completes, CompletesListing}
use Rattle.jc_top.specs.Work.{DumpsAnswers, on_files, work_with, IsUsage, the_work_with}

-- ---- one part in front of a command

module _ {X : Type 0} (landed : Landed) (p : Part X) (q : X → Command) (old : Outside) (f : Counts) where
  -- the part is over, and the command behind it ended so
  pub ends_behind : (x : X) (mid new : Outside) (g f' : Counts) (s : Status) → (g ≡ f) × CameTo landed p old mid (gives x) → Ends landed (q x) mid new g f' s
      → Ends landed (p >>= q) old new f f' s
  ends_behind x mid new g f' s (same, came) ends = by (subst (λ (c : Counts). Ends landed (q x) mid new c f' s) same ends)
    where
      far : ((f' ≡ f) × Began landed (q x) mid new) ⊎ ((end : End) × BrokeOff landed (q x) mid new f f' end)
          → ((f' ≡ f) × Began landed (p >>= q) old new) ⊎ ((end : End) × BrokeOff landed (p >>= q) old new f f' end)
      far (inl (kept, began)) = inl (kept, began_then landed p q old x mid new came began)
      far (inr (end, broke)) = inr (end, broke_then landed p q old x mid new f f' end came broke)

      by : Ends landed (q x) mid new f f' s → Ends landed (p >>= q) old new f f' s
      by (inl e) = inl (record { end = e.end; stands = e.stands; came = came_then landed p q old x mid e.stands (stops e.end) came e.came; is = e.is; says = e.says })
      by (inr (inl e)) =
          inr (inl (record { end = e.end; stands = e.stands; at = e.at; broke_off = broke_then landed p q old x mid e.stands f e.at e.end came e.broke_off; is = e.is; says = e.says }))
      by (inr (inr e)) = inr (inr (record { is = e.is; far = far e.far }))

  -- the part stopped the command
  pub ends_before : (mid new : Outside) (g f' : Counts) (stop : Option End) (s : Status) → Stops landed p old mid f g stop → Reports stop mid new g f' s → Ends landed (p >>= q) old new f f' s
  ends_before mid new g f' stop s stopped reports = ends_stopped landed (p >>= q) old f stop mid new g f' s (stops_first landed p q old mid f g stop stopped) reports

-- ---- nothing was done

-- memory was refused at once
pub memory_ends : (landed : Landed) (command : Command) (w : Outside) (f : Counts) → Ends landed command w w f f status.Memory
memory_ends landed command w f = inr (inr (record { is = refl; far = inl (refl, record { steps = []; begun = inl refl; fit = tt; stand = refl }) }))

-- ---- writes

module _ (landed : Landed) (writes : List Write) (old mid : Outside) (f g : Counts) where
  -- the writes were made
  pub made_all : (g ≡ f) × CameTo landed (writing_all writes) old mid (gives tt) → Ends landed (making_all writes) old mid f g status.Done
  made_all does = ends_done landed (making_all writes) old f mid g all.0 all.1
    where
      all : (g ≡ f) × CameTo landed (making_all writes) old mid (stops done)
      all = ran_last landed (making_all writes) old old f f (writing_all writes) (reached_start landed (making_all writes) old f)
          (λ (stop : Stop). stop_seen stop) mid g (Ok (tt {0})) does

  -- a write failed, or memory was refused
  pub made_some : (new : Outside) (f' : Counts) (stop : Option End) (s : Status) → Stops landed (writing_all writes) old mid f g stop → Reports stop mid new g f' s
      → Ends landed (making_all writes) old new f f' s
  made_some new f' stop s stopped reports = ends_before landed (writing_all writes) (λ _. ending {X = ⊥} done) old f mid new g f' stop s stopped reports

-- the same of equal writes
module _ (landed : Landed) (made writes : List Written) (same : made ≡ writes) (old mid : Outside) (f g : Counts) where
  pub wrote_all : (g ≡ f) × CameTo landed (writing_all (map write_seen made)) old mid (gives tt) → Ends landed (making_all (map write_seen writes)) old mid f g status.Done
  wrote_all does = subst (λ (ws : List Written). Ends landed (making_all (map write_seen ws)) old mid f g status.Done) same
      (made_all landed (map write_seen made) old mid f g does)

  pub wrote_some : (new : Outside) (f' : Counts) (stop : Option End) (s : Status) → Stops landed (writing_all (map write_seen made)) old mid f g stop → Reports stop mid new g f' s
      → Ends landed (making_all (map write_seen writes)) old new f f' s
  wrote_some new f' stop s stopped reports = subst (λ (ws : List Written). Ends landed (making_all (map write_seen ws)) old new f f' s) same
      (made_some landed (map write_seen made) old mid f g new f' stop s stopped reports)

-- ---- a command that reads, decides and then writes

module _ (landed : Landed) (inputs : List Word) (Answers : List (List ℕ) → Answer → Type 0) (old mid new : Outside) (f g f' : Counts) where
  pub completed : (prepared : Result (Vec Written Global) Stop) (s : Status) → Does landed (preparing inputs Answers) (λ writes. map write_seen writes.items) stop_seen old mid f g prepared
      → Completes landed prepared mid new g f' s → Ends landed (answered inputs Answers) old new f f' s
  completed (Ok writes) s does completes =
      ends_behind landed (preparing inputs Answers) making_all old f (map write_seen writes.items) mid new g f' s does completes
  completed (Err stop) s does completes = ends_before landed (preparing inputs Answers) making_all old f mid new g f' (stop_seen stop) s does completes

  pub listing_completed : (prepared : Result (List (List ℕ)) Stop) (s : Status) → Does landed (preparing inputs Answers) (λ lines. map to_out lines) stop_seen old mid f g prepared
      → CompletesListing landed prepared mid new g f' s → Ends landed (answered inputs Answers) old new f f' s
  listing_completed (Ok lines) s does completes =
      ends_behind landed (preparing inputs Answers) making_all old f (map to_out lines) mid new g f' s does completes
  listing_completed (Err stop) s does completes = ends_before landed (preparing inputs Answers) making_all old f mid new g f' (stop_seen stop) s does completes

-- the same of equal paths
pub ends_same : (landed : Landed) (Answers : List Word → List Word → List (List ℕ) → Answer → Type 0) (ts ts' ps ps' : List Word) → ts ≡ ts'
    → ps ≡ ps' → (old new : Outside) (f f' : Counts) (s : Status)
    → Ends landed (answered ps (Answers ts ps)) old new f f' s → Ends landed (answered ps' (Answers ts' ps')) old new f f' s
ends_same landed Answers ts ts' ps ps' same_ts same_ps old new f f' s ends =
    subst (λ (l : List Word). Ends landed (answered l (Answers ts' l)) old new f f' s) same_ps
    (subst (λ (l : List Word). Ends landed (answered ps (Answers l ps)) old new f f' s) same_ts ends)

-- the same of equal files or paths
pub ends_on : {A : Type 0} (landed : Landed) (work : A → Command) (x y : A) → x ≡ y → (old new : Outside) (f f' : Counts) (s : Status) → Ends landed (work x) old new f f' s
    → Ends landed (work y) old new f f' s
ends_on {A} landed work x y same old new f f' s ends = subst (λ (z : A). Ends landed (work z) old new f f' s) same ends

-- ---- a command on files

module _ (landed : Landed) (files : List FileText) (Answers : List Word → List (List ℕ) → Answer → Type 0) (old : Outside) (f : Counts) where
  -- the files were listed, and their command ended so
  pub listed_ends : (paths : List Word) (mid new : Outside) (g f' : Counts) (s : Status) → (g ≡ f) × CameTo landed (files_of files) old mid (gives paths)
      → Ends landed (answered paths (Answers paths)) mid new g f' s → Ends landed (on_files files Answers) old new f f' s
  listed_ends paths mid new g f' s came ends = ends_behind landed (files_of files) (λ ps. answered ps (Answers ps)) old f paths mid new g f' s came ends

  pub unlisted_ends : (mid new : Outside) (g f' : Counts) (stop : Option End) (s : Status) → Stops landed (files_of files) old mid f g stop → Reports stop mid new g f' s
      → Ends landed (on_files files Answers) old new f f' s
  unlisted_ends mid new g f' stop s stopped reports = ends_before landed (files_of files) (λ ps. answered ps (Answers ps)) old f mid new g f' stop s stopped reports

-- ---- the words

module _ (Dumps : DumpsAnswers) (landed : Landed) (words : List Word) (old new : Outside) (f f' : Counts) (s : Status) where
  -- the words call the command, which ended so
  pub called_ends : (command : Called) → Means words command → Ends landed (work_with Dumps command) old new f f' s
      → Ends landed (the_work_with Dumps words) old new f f' s
  called_ends command means ends =
      ends_behind landed (deciding (Means words) (IsUsage words)) (work_with Dumps) old f command old new f f' s
      (refl, was_decided landed (Means words) (IsUsage words) old command means) ends

  -- the words are of no stated form
  pub usage_ends : NoForm words → Reports (Some misused) old new f f' s → Ends landed (the_work_with Dumps words) old new f f' s
  usage_ends none reports =
      ends_before landed (deciding (Means words) (IsUsage words)) (work_with Dumps) old f old new f f' (Some misused) s
      (inl (refl, was_ended landed (Means words) (IsUsage words) old misused (none, refl))) reports

-- ---- a command that a call ran

module _ (landed : Landed) (command : Command) (old mid : Outside) (f g : Counts) where
  -- it is done
  pub ran_done : (g ≡ f) × CameTo landed command old mid (stops done) → Ends landed command old mid f g status.Done
  ran_done (same, came) = ends_done landed command old f mid g same came

  -- it was stopped
  pub ran_stopped : (new : Outside) (f' : Counts) (stop : Option End) (s : Status) → Stops landed command old mid f g stop → Reports stop mid new g f' s → Ends landed command old new f f' s
  ran_stopped new f' stop s stopped reports = ends_stopped landed command old f stop mid new g f' s stopped reports
