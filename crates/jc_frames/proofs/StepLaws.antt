-- One step of a walk, as the method's fields say it.
use Rattle.std.proofs.Common.{◌≡◌, ℕ, ◌+◌, ◌<◌, List, [], ◌∷◌, ◌++◌, Option, Some, None, option_map, sym, ◌∙◌, ap, subst}
use Rattle.jc_methods.specs.VerificationTypes.{Names, TypeState, TypeStateAt}
use Rattle.jc_bytes.specs.Decoder.{number_at}
use Rattle.jc_bytes.specs.Parsing.{Good, item}
use Rattle.jc_frames.specs.declared.running.Frame.{Frame}
use Rattle.jc_frames.specs.declared.running.Running.{Running}
use Rattle.jc_frames.specs.Frames.{Ground, Before, first_before, Found}
use Rattle.jc_frames.specs.Running.{before, found_as}
use Rattle.jc_frames.specs.Table.{outcome_of, at_fault}
use Rattle.jc_frames.specs.TableReading.{frame_item_at}
use Rattle.jc_frames.specs.NextFrame.{with_rest, read_frame}
use Rattle.jc_frames.proofs.WalkLaws.{Walking, begins, walks_on, stopped}

module _ (g : Ground) (names : Names) (entry : TypeState) (table : List ℕ) (count : ℕ) where
  pub begins_by : (running : Running) (bytes left : List ℕ) → bytes ≡ table → before g.pool names running ≡ first_before entry → item (number_at 2) bytes ≡ Good count left
      → Walking g entry table count 0 [] (before g.pool names running) left
  begins_by running bytes left same first counted =
      let At : Before → Type 0 = λ b. Walking g entry table count 0 [] b left in
      subst At (sym first) (begins g entry table left count (ap (item (number_at 2)) (sym same) ∙ counted))

  pub stopped_by : (this : ℕ) (done : List TypeStateAt) (old : Running) (left : List ℕ) (as_found : Frame → Found × List ℕ) (o : Option Frame) → this < count
      → Walking g entry table count this done (before g.pool names old) left
      → read_frame g (before g.pool names old) (frame_item_at left) ≡ option_map as_found o → o ≡ None → outcome_of g entry table ≡ at_fault this
  stopped_by this done old left as_found o lt w says none =
      stopped g entry table count this done (before g.pool names old) left lt w (says ∙ ap (option_map as_found) none)

  pub walks_by : (this : ℕ) (done : List TypeStateAt) (old new : Running) (left rest : List ℕ) (o : Option Frame) (frame : Frame) → this < count
      → Walking g entry table count this done (before g.pool names old) left
      → read_frame g (before g.pool names old) (frame_item_at left) ≡ option_map (λ f. with_rest rest (found_as g names new f)) o → o ≡ Some frame
      → Walking g entry table count (this + 1) (done ++ (found_as g names new frame).frame ∷ []) (before g.pool names new) rest
  walks_by this done old new left rest o frame lt w says some =
      walks_on g entry table count this done (before g.pool names old) left rest (found_as g names new frame) lt w
      (says ∙ ap (option_map (λ f. with_rest rest (found_as g names new f))) some)
