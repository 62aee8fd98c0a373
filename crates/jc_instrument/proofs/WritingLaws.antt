-- What is written of one body is its work's, whatever the names with which it was read.
use Rattle.std.proofs.Common.{◌≡◌, ℕ, ◌≤◌, Bool, List, [], ◌∷◌, length, map, sym, ◌∙◌, ap, subst, arith}
use Rattle.std.specs.List.{AllByRecursion}
use Rattle.std.proofs.lemmas.List.{length-map}
use Rattle.jc_methods.specs.VerificationTypes.{AreNumberedFrames, Grows, Names, TypeStateAt, type_state_at}
use Rattle.jc_methods.specs.declared.body.Body.{Body}
use Rattle.jc_methods.specs.declared.body.FrameAt.{FrameAt}
use Rattle.jc_methods.specs.declared.body.LineAt.{LineAt}
use Rattle.jc_methods.specs.declared.body.VarAt.{VarAt}
use Rattle.jc_methods.specs.declared.emitted.Emitted.{Emitted}
use Rattle.jc_methods.proofs.NumberedLaws.{frames_numbered, grown_count}
use Rattle.jc_bytes.specs.declared.fail.Fail.{Fail}
use Rattle.jc_pool.specs.Pool.{PoolValue}
use Rattle.jc_pool.specs.declared.add.PoolFull.{PoolFull}
use Rattle.jc_frames.specs.FullTable.{CanBeWritten, FitsFull, TakesClasses, named_by_all}
use Rattle.jc_frames.proofs.TakenLaws.{all_stand}
use Rattle.jc_plan.specs.Plan.{plan_of}
use Rattle.jc_emit.specs.Sizes.{narrow}
use Rattle.jc_emit.specs.Items.{land_of, lead_of}
use Rattle.jc_emit.specs.TwinTables.{moved_row}
use Rattle.jc_emit.specs.Stages.{AreLayoutFrames, moved_tables}
use Rattle.jc_kinds.specs.Answers.{AreStates}
use Rattle.jc_methods.specs.declared.kind.State.{State}
use Rattle.jc_methods.specs.Widened.{WideSet, listed}
use Rattle.jc_methods.specs.declared.probe_members.Fetch.{Fetch}
use Rattle.jc_emit.specs.declared.tables.MovedTables.{MovedTables}
use Rattle.jc_instrument_code.specs.Given.{AreNamed, IsLaid, IsNamedAt}
use Rattle.jc_instrument_code.specs.LaidText.{laid_text}
use Rattle.jc_instrument_code.specs.TwinCode.{chosen_frames, kind_vars_name, lines_name, vars_name, written_frames}
use Rattle.jc_instrument_code.specs.declared.code.CodePlaces.{CodePlaces}
use Rattle.jc_instrument_code.proofs.TwinCodeLaws.{laid_text_is}
use Rattle.jc_instrument_reread.proofs.SameBodyLaws.{AreSame, grown_same}
use Rattle.jc_instrument_reread.specs.WrittenCode.{ready_emission}
use Rattle.jc_instrument.specs.Constants.{given_with}
use Rattle.jc_instrument.specs.Taking.{RefusesEach}
use Rattle.jc_instrument.specs.declared.constants.ProbeConstants.{ProbeConstants}
use Rattle.jc_instrument.specs.BodiesWithStates.{BodyWithStates, emitted_of}
use Rattle.jc_instrument.specs.Ready.{IsReady}
use Rattle.jc_instrument.specs.Writing.{AreFramesOf, HasFramesName, IsWorkOf, IsWrittenBody, TakesFrames, frames_asked}
use Rattle.jc_instrument.specs.declared.ready.ReadyBody.{ReadyBody}
use Rattle.jc_instrument.proofs.KeptPoolLaws.{same_places}
use Rattle.jc_instrument.proofs.KeptStatesLaws.{states_grown}
use Rattle.jc_instrument.proofs.KeptTextLaws.{same_laid_text}
use Rattle.jc_instrument.proofs.ProbingLaws.{emission_tables}
use Rattle.jc_instrument.proofs.SameEmissionLaws.{IsSameEmission, same_emission, same_twin_code, same_written}
use Rattle.jc_instrument.proofs.WritableLaws.{frames_chosen, frames_written}

-- ---- more names

seen_on : {constants : ProbeConstants} (old new : Names) (r : ReadyBody) → Grows old new → IsReady old constants r
    → map (type_state_at new) r.body.frames ≡ map (type_state_at old) r.body.frames
seen_on old new r grows ready = sym (grown_same old new r.body grows ready.numbered).seen

pub ready_grown : {constants : ProbeConstants} (old new : Names) (r : ReadyBody) → Grows old new → IsReady old constants r → IsReady new constants r
ready_grown old new r grows ready = record {
  made = ready.made;
  numbered = frames_numbered _ _ r.body.frames (grown_count old new grows) ready.numbered;
  plan = ready.plan;
  next = ready.next;
  room = ready.room;
  rows = ready.rows;
  laid = ready.laid;
  placed = ready.placed;
  states = states_grown old new r.body r.states grows ready.numbered ready.states;
}

-- ---- the frames can be written

-- which jumps of its instrumented code are wide
abbrev pub wide_of : ReadyBody → WideSet
wide_of r = listed r.laid.wide

pub frames_of : (constants : ProbeConstants) (old now : Names) (r : ReadyBody) (first : ℕ) (frames : List FrameAt) (states : List State) (jumps : List Bool)
    → Grows old now → IsReady old constants r → states ≡ r.states → jumps ≡ r.laid.wide
    → AreLayoutFrames now r.body first states constants.fetch (listed jumps) frames → AreFramesOf now r.body first constants.fetch (wide_of r) frames
frames_of constants old now r first frames states jumps grows ready same jumps_are framed = record {
  states = states;
  are = subst (AreStates now r.body) (sym same) (states_grown old now r.body r.states grows ready.numbered ready.states);
  framed = subst (λ (wide : List Bool). AreLayoutFrames now r.body first states constants.fetch (listed wide) frames) jumps_are framed;
}

pub few_bytes : (constants : ProbeConstants) (names : Names) (r : ReadyBody) → IsReady names constants r → length r.laid.code ≤ 65535
few_bytes constants names r ready = (ready.laid ready.plan.0 [] 0 ready.plan.1).few

pub few_rows : (fetch : Fetch) (r : ReadyBody) (first : ℕ) (tables : MovedTables) → length r.body.handlers ≤ 65535 → tables ≡ moved_tables r.body first fetch
    → length tables.handlers ≤ 65535
few_rows fetch r first tables few is =
    let same = ap (λ (t : MovedTables). length t.handlers) is
    ∙ length-map r.body.handlers (moved_row (lead_of r.body first (narrow fetch)) (land_of r.body first (narrow fetch))) in
    omega (arith, same, few)

pub can_be_written : (constants : ProbeConstants) (now : Names) (r : ReadyBody) → IsReady now constants r → (frames : List FrameAt) (first : ℕ)
    → r.plan ≡ plan_of r.body first → AreFramesOf now r.body first constants.fetch (wide_of r) frames → CanBeWritten r.laid.starts (length now) frames
can_be_written constants now r ready frames first is are =
    frames_written constants now r.body first are.states r.laid frames ready.made.of_any_size are.framed
    (ready.laid first are.states are.framed.given.array is) are.are ready.room

-- so the classes that they name have numbers
pub numbered_of : (starts : List ℕ) (names : ℕ) (frames : List FrameAt) → CanBeWritten starts names frames → AreNumberedFrames names frames
numbered_of starts names frames can = all_numbered frames can.each
  where
    all_numbered : (fs : List FrameAt) → AllByRecursion (FitsFull (length starts) names) fs → AreNumberedFrames names fs
    all_numbered [] fit = tt
    all_numbered (f ∷ fs) fit = (fit.0.numbered, all_numbered fs fit.1)

-- ---- what is written

module _ (constants : ProbeConstants) (old now others : Names) (array : ℕ) (r : ReadyBody) (w : BodyWithStates) (grows : Grows old now)
    (ready : IsReady old constants r) (of : IsWorkOf old others array r w) (frames : List FrameAt)
    (are : AreFramesOf now r.body w.first constants.fetch (wide_of r) frames) where
  abbrev own : Emitted
  own = ready_emission r.body w.first are.states (given_with constants are.framed.given.array) constants.giver

  abbrev meant : Emitted
  meant = emitted_of constants array w

  laid_so : IsLaid own r.laid
  laid_so = ready.laid w.first are.states are.framed.given.array of.plan

  chosen : frames ≡ chosen_frames own
  chosen = frames_chosen constants now r.body w.first are.states r.laid frames ready.made.of_any_size are.framed laid_so

  body_same : AreSame now others r.body w.body
  body_same = record {
    rest = λ k. record (of.body k) { frames = r.body.frames };
    seen = seen_on old now r grows ready ∙ of.seen ∙ ap (λ (b : Body). map (type_state_at others) b.frames) of.body;
  }

  emission_same : IsSameEmission now others own meant
  emission_same =
      same_emission constants now others r.body w.body body_same w.first are.states w.states are.framed.given.array array are.framed.array_is of.array_is
      are.are of.states

  seen_frames : map (type_state_at now) frames ≡ written_frames others meant
  seen_frames = ap (map (type_state_at now)) chosen ∙ same_written now others own meant emission_same

  pub meant_refused : (pool : PoolValue) (fail : Fail PoolFull) → RefusesEach pool (frames_asked constants.fetch (map (type_state_at now) frames)) fail
      → RefusesEach pool (frames_asked constants.fetch (written_frames others meant)) fail
  meant_refused pool fail refused = subst (λ (fs : List TypeStateAt). RefusesEach pool (frames_asked constants.fetch fs) fail) seen_frames refused

  own_named : (grown : PoolValue) (places : CodePlaces) (place : ℕ) → AreNamed grown meant places → AreNamed grown own (record places { frames = place })
  own_named grown places place named =
      let back = sym emission_same.rest in
      record {
        lines = subst (λ (ls : List LineAt). IsNamedAt grown lines_name ls places.lines) (ap (λ (x : Emitted). x.lines) back) named.lines;
        vars = subst (λ (vs : List VarAt). IsNamedAt grown vars_name vs places.vars) (ap (λ (x : Emitted). x.vars) back) named.vars;
        kind_vars = subst (λ (vs : List VarAt). IsNamedAt grown kind_vars_name vs places.kind_vars) (ap (λ (x : Emitted). x.kind_vars) back) named.kind_vars;
      }

  module _ (pool named new : PoolValue) (places : CodePlaces) (place : ℕ)
      (has : HasFramesName constants.fetch pool (map (type_state_at now) frames) places.frames named place)
      (takes : TakesClasses named (named_by_all (map (type_state_at now) frames)) new) where
    pub body_written : (tables : MovedTables) (text : List ℕ) → tables ≡ moved_tables r.body w.first constants.fetch
        → text ≡ laid_text new constants.fetch (record places { frames = place }) now tables r.laid frames
        → IsWrittenBody pool constants.fetch places others meant new text
    body_written tables text tables_are is = record {
      frames = place;
      takes = subst (λ (fs : List TypeStateAt). TakesFrames constants.fetch pool fs places.frames new place) seen_frames (named, has, takes);
      text_is = λ grown keeps are_named.
          is
          ∙ same_laid_text new grown constants.fetch (record places { frames = place }) now tables r.laid frames
          (same_places new grown keeps (named_by_all (map (type_state_at now) frames)) (all_stand named new _ takes))
          ∙ laid_text_is grown constants.fetch now (record places { frames = place }) own tables r.laid frames
          (tables_are ∙ emission_tables constants r.body w.first are.states are.framed.given.array) laid_so chosen (own_named grown places place are_named)
          ∙ same_twin_code now others own meant emission_same grown constants.fetch places.giver places.array place;
    }
