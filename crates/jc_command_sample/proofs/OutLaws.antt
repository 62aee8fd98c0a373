-- A sample that decides its line and writes it does its work.
use Rattle.std.proofs.Common.{inl, ℕ, List, [], Option, None, Some, Result, refl}
use Rattle.jc_command_work.specs.declared.stop.Stop.{Stop}
use Rattle.jc_command_work.specs.Step.{Outside, Counts, Landed, outside, counts, to_out}
use Rattle.jc_command_work.specs.Part.{End, done, gives, ending, writing, ◌>>=◌}
use Rattle.jc_command_work.specs.Ending.{CameTo, Stops, DoesOut}
use Rattle.jc_command_work.specs.Seen.{stop_seen}
use Rattle.jc_command_work.proofs.Reaching.{reached_start, reached_next, ran_last}
use Rattle.jc_command_sample.specs.SampleWork.{sample_line, sample_work}
use Rattle.jc_command_sample.specs.Seen.{EndsAtOnce, RanOut}

module _ (n : ℕ) where
  -- it ends before it writes
  pub stopped : (landed : Landed) (w : Outside) (f : Counts) (o : Option End) → EndsAtOnce (sample_line n) o → Stops landed (sample_work n) w w f f o
  stopped landed w f None ends = (refl, record { steps = []; begun = inl refl; fit = tt; stand = refl })
  stopped landed w f (Some end) ends = inl (refl, record { steps = []; comes = inl ends; begun = inl refl; fit = tt; stand = refl })

  pub written : (line : List ℕ) (old new : Option (List ℕ)) (outs outs' : ℕ) (r : Result (Unit {0}) Stop) → sample_line n [] (gives line)
      → DoesOut (writing (to_out line)) (λ _. tt) stop_seen old new outs outs' r → RanOut (sample_work n) old new outs outs' r
  written line old new outs outs' r is does landed contents failed err reads writes errs =
      let w = outside contents failed old err in
      let f = counts reads writes outs errs in
      let came : CameTo landed (sample_line n) w w (gives line) = record { steps = []; comes = is; begun = inl refl; fit = tt; stand = refl } in
      ran_last landed (sample_work n) w w f f (writing (to_out line))
      (reached_next landed (sample_work n) w f (sample_line n) (λ l. writing (to_out l) >>= (λ _. ending {X = ⊥} done)) (λ y. y) w f (reached_start landed (sample_work n) w f) line w f refl came)
      stop_seen (outside contents failed new err) (counts reads writes outs' errs) r (does landed contents failed err reads writes errs)
