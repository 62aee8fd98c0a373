-- A part of a command, and then the rest.
use Rattle.std.proofs.Common.{◌≡◌, [], Option, None, Some, Result, Ok, Err, inl, refl, ◌∙◌}
use Rattle.jc_command_work.specs.Step.{Outside, Counts, Landed}
use Rattle.jc_command_work.specs.Part.{End, done, gives, stops, Part, Command, ending, deciding, ◌>>=◌}
use Rattle.jc_command_work.specs.Ending.{CameTo, Stops, Does, Ran}
use Rattle.jc_command_work.proofs.Behind.{came_then, stops_first, stops_then}
use Rattle.jc_command_work.proofs.Reaching.{reached_start, was_decided, was_ended, ran_last}
use Rattle.jc_command_cover.specs.Deciding.{StopsBy, Decides}

module _ {X : Type 0} (landed : Landed) (p : Part X) (rest : X → Command) (old : Outside) (f : Counts) where
  -- the part is over, and the rest goes on with what it handed on
  pub ran_then : {A E : Type 0} (stop : E → Option End) (x : X) (mid new : Outside) (g f' : Counts) (r : Result A E) → (g ≡ f) × CameTo landed p old mid (gives x)
      → Ran landed (rest x) stop mid new g f' r → Ran landed (p >>= rest) stop old new f f' r
  ran_then stop x mid new g f' (Ok a) (same, came) (kept, ended) = (kept ∙ same, came_then landed p rest old x mid new (stops done) came ended)
  ran_then stop x mid new g f' (Err e) (same, came) stopped = stops_then landed p rest old x mid new f g f' (stop e) same came stopped

  -- the part stopped the command
  pub ran_stopped : (new : Outside) (f' : Counts) (o : Option End) → Stops landed p old new f f' o → Stops landed (p >>= rest) old new f f' o
  ran_stopped new f' o stopped = stops_first landed p rest old new f f' o stopped

-- the part is the last one, and the command is done where it is over
pub ran_at_last : {A E : Type 0} (landed : Landed) (p : Part (Unit {0})) (old new : Outside) (f f' : Counts) (stop : E → Option End) (r : Result A E)
    → Does landed p (λ _. tt) stop old new f f' r → Ran landed (p >>= λ _. ending {X = ⊥} done) stop old new f f' r
ran_at_last landed p old new f f' stop r does =
    ran_last landed (p >>= λ _. ending {X = ⊥} done) old old f f p (reached_start landed (p >>= λ _. ending {X = ⊥} done) old f) stop new f' r does

-- memory was refused before the part made a step
pub not_begun : {X : Type 0} (landed : Landed) (p : Part X) (w : Outside) (f : Counts) → Stops landed p w w f f None
not_begun landed p w f = (refl, record { steps = []; begun = inl refl; fit = tt; stand = refl })

-- what is decided makes no step
pub came_decided : {X A E : Type 0} (landed : Landed) (Is : X → Type 0) (Ends : End → Type 0) (w : Outside) (f : Counts) (value : A → X) (stop : E → Option End) (r : Result A E)
    → Decides Is Ends value stop r → Does landed (deciding Is Ends) value stop w w f f r
came_decided landed Is Ends w f value stop (Ok a) is = (refl, was_decided landed Is Ends w (value a) is)
came_decided landed Is Ends w f value stop (Err e) is = by (stop e) is
  where
    by : (o : Option End) → StopsBy Ends o → Stops landed (deciding Is Ends) w w f f o
    by None none = not_begun landed (deciding Is Ends) w f
    by (Some end) so = inl (refl, was_ended landed Is Ends w end so)
