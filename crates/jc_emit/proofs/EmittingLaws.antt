-- What `emit` gives and what stands afterwards.
use Rattle.std.proofs.Common.{◌≡◌, ℕ, ◌+◌, ◌≤◌, Bool, true, false, cond, List, [], ◌∷◌, ◌++◌, length, get_or, map, refl, sym, ap, ◌∙◌, subst, append-nil, if◌then◌else◌}
use Rattle.std.specs.Prelude.{All}
use Rattle.std.specs.List.{list_any}
use Rattle.std.specs.Str.{bytes_eq}
use Rattle.std.proofs.lemmas.Option.{slice_get-get_or}
use Rattle.jc_methods.specs.VerificationTypes.{Names, Grows}
use Rattle.jc_bytes.specs.Names.{with_name}
use Rattle.jc_methods.specs.declared.kind.State.{State}
use Rattle.jc_methods.specs.declared.body.Body.{Body}
use Rattle.jc_kinds.specs.Answers.{AreStates}
use Rattle.jc_bytes.specs.PlainLists.{pieces}
use Rattle.jc_methods.specs.WellMade.{IsCode, IsState, IsWellMadeOfAnySize}
use Rattle.jc_methods.specs.declared.emitted.Emitted.{Emitted}
use Rattle.jc_methods.specs.declared.plan.Plan.{Plan}
use Rattle.jc_methods.specs.declared.insn.Flow.{Flow}
use Rattle.jc_methods.specs.declared.insn.Flow.TheVariants as flows
use Rattle.jc_methods.specs.Flow.{flow_of}
use Rattle.jc_methods.specs.Widened.{listed}
use Rattle.jc_methods.proofs.MetNamesLaws.{grows_none}
use Rattle.jc_plan.specs.Plan.{plan_of}
use Rattle.jc_emit.specs.Marks.{unplaced}
use Rattle.jc_emit.specs.Sizes.{narrow, insn_at}
use Rattle.jc_emit.specs.declared.frames.Framing.{Framing}
use Rattle.jc_emit.specs.declared.places.Places.{Places}
use Rattle.jc_emit.specs.TwinTables.{moved_row, moved_line, moved_var}
use Rattle.jc_emit.specs.Items.{insn_of, at_of, own_of, extra_of, lead_of, land_of, twin_items}
use Rattle.jc_emit.specs.Emission.{Emitting, frames_at, wide_frames_at, emission}
use Rattle.jc_emit.specs.Placing.{ArePlaces}
use Rattle.jc_emit.specs.Stages.{is_further, layout_frames_at, layout_frames}
use Rattle.jc_emit.specs.Framing.{ArePut, AreFramed, IsFraming}

grows_by : (t : Bool) (names : Names) (name : List ℕ) → Grows names (cond t names (names ++ name ∷ []))
grows_by true names name = grows_none names
grows_by false names name = (name ∷ [], refl)

pub grows_one : (names new : Names) (name : List ℕ) → new ≡ with_name names name → Grows names new
grows_one names new name is = let g = grows_by (list_any (bytes_eq name) names) names name in (g.0, is ∙ g.1)

pub states_put : (names : Names) (b : Body) (states : List State) → AreStates names b states → ArePut b states
states_put names b states are = record {
  count = are.count;
  each = λ k d lt. (are.each k (get_or states k d) (slice_get-get_or states k d lt)).well_made;
}

-- the parts of frames belong together
pub framing_made : (first : ℕ) (given : Emitting) (f : Framing) (b : Body) (p : Plan) (places : Places) (states : List State) → IsWellMadeOfAnySize b → p ≡ plan_of b first
    → ArePlaces b first given.fetch places → ArePut b states → f.body.now ≡ b → f.plan.now ≡ p → f.places.now ≡ places → f.states.now ≡ states
    → f.array ≡ given.array → AreFramed b.frames (length b.code) f.framed.items → IsFraming first given f
framing_made first given f b p places states made is are put same_body same_plan same_places same_states array framed = record {
  code = subst (λ (x : Body). IsCode x.code) (sym same_body) made.code;
  plan = same_plan ∙ is ∙ ap (λ (x : Body). plan_of x first) (sym same_body);
  places = subst (λ (x : Body). ArePlaces x first given.fetch f.places.now) (sym same_body) (subst (λ (q : Places). ArePlaces b first given.fetch q) (sym same_places) are);
  array = array;
  count = ap (λ (l : List State). length l) same_states ∙ put.count ∙ ap (λ (x : Body). length x.code) (sym same_body);
  states = subst (λ (x : Body). All (IsState x.code x.max_locals x.max_stack) f.states.now) (sym same_body)
      (subst (λ (l : List State). All (IsState b.code b.max_locals b.max_stack) l) (sym same_states) put.each);
  arguments = subst (λ (x : Body). x.arg_slots ≤ x.max_locals) (sym same_body) made.arguments_fit;
  framed = subst (λ (x : Body). AreFramed x.frames (length x.code) f.framed.items) (sym same_body) framed;
}

-- where no jump is wide the frames of a layout are those of the emission
module _ (b : Body) (first : ℕ) (states : List State) (given : Emitting) where
  none_further : (i : ℕ) (flow : Flow) → is_further b first states given (listed ([])) i flow ≡ false
  none_further i flows.Branches = refl
  none_further i flow = refl

  narrow_frames_at : (i : ℕ) → layout_frames_at b first states given (listed ([])) i ≡ frames_at b first states given i
  narrow_frames_at i =
      ap (λ (t : Bool). frames_at b first states given i ++ (if t then wide_frames_at b first states given i else [])) (none_further i (flow_of (insn_at b.code i)))
      ∙ append-nil (frames_at b first states given i)

  pub narrow_frames : layout_frames b first states given (listed ([])) ≡ pieces (frames_at b first states given) (length b.code)
  narrow_frames = λ k. pieces (λ i. narrow_frames_at i k) (length b.code)

-- all parts of the emission
pub emission_is : (b : Body) (first : ℕ) (states : List State) (given : Emitting) (e : Emitted)
    → e.code ≡ map (insn_of (unplaced given.integer) b.arg_slots) (twin_items b first (narrow given.fetch))
    → e.at ≡ map at_of (twin_items b first (narrow given.fetch))
    → e.own ≡ map own_of (twin_items b first (narrow given.fetch))
    → e.extra ≡ map extra_of (twin_items b first (narrow given.fetch))
    → e.handlers ≡ map (moved_row (lead_of b first (narrow given.fetch)) (land_of b first (narrow given.fetch))) b.handlers
    → e.lines ≡ map (moved_line (land_of b first (narrow given.fetch))) b.lines
    → e.vars ≡ map (moved_var b.arg_slots (land_of b first (narrow given.fetch))) b.vars
    → e.kind_vars ≡ map (moved_var b.arg_slots (land_of b first (narrow given.fetch))) b.kind_vars
    → e.frames ≡ pieces (frames_at b first states given) (length b.code)
    → e.wide_frames ≡ pieces (wide_frames_at b first states given) (length b.code)
    → e.max_stack ≡ b.max_stack + 3
    → e.max_locals ≡ b.max_locals + 1
    → e ≡ emission b first states given
unfolding emission
emission_is b first states given e code at own extra handlers lines vars kind_vars frames wide_frames max_stack max_locals =
    λ k. record {
      code = code k;
      at = at k;
      own = own k;
      extra = extra k;
      handlers = handlers k;
      lines = lines k;
      vars = vars k;
      kind_vars = kind_vars k;
      frames = frames k;
      wide_frames = wide_frames k;
      max_stack = max_stack k;
      max_locals = max_locals k;
    }
