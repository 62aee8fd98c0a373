-- The states of a body shift, where no instruction or frame has a long or a double round the new local variable.
use Rattle.std.proofs.Common.{◌≡◌, ◌⊎◌, ℕ, zero, suc, ◌+◌, ◌-◌, ◌<◌, ◌≤◌, Bool, true, false, List, [], ◌∷◌, ◌++◌, length, map, replicate, Option, Some, None}
use Rattle.std.proofs.Common.{if◌then◌else◌, inl, inr, refl, ap, ◌∙◌, subst, arith, get_or, nat_eq}
use Rattle.std.specs.Option.{option_and_then}
use Rattle.std.proofs.lemmas.List.{length-map}
use Rattle.std.proofs.lemmas.Bool.{eqb-true}
use Rattle.std.specs.List.{Contains}
use Rattle.std.proofs.lemmas.Option.{none-some, same_Some}
use Rattle.jc_methods.specs.declared.insn.Insn.{Insn}
use Rattle.jc_methods.specs.declared.body.Body.{Body}
use Rattle.jc_methods.specs.declared.body.FrameAt.{FrameAt}
use Rattle.jc_methods.specs.declared.kind.Kind.{Kind}
use Rattle.jc_methods.specs.declared.kind.Kind.TheVariants as kinds
use Rattle.jc_methods.specs.WellMade.{IsWellMadeOfAnySize, IsState, AreFramesFrom, kind_slots}
use Rattle.jc_methods.specs.VerificationTypes.{Names, VerificationType, top, TypeState, verification_type, type_state, type_state_at, is_pair}
use Rattle.jc_methods.specs.EntryState.{spread, arguments, entry_of}
use Rattle.jc_methods.specs.Flow.{falls_at}
use Rattle.jc_methods.proofs.EntryLaws.{argument_slots, entry_count}
use Rattle.jc_bytes.proofs.BooleanLaws.{first_in, later_in}
use Rattle.jc_kinds_after.specs.After.{insn_at, after_of}
use Rattle.jc_kinds_after.specs.Shift.{NoPairBefore, StaysWhole}
use Rattle.jc_kinds_after.proofs.AfterLaws.{after_shifts}
use Rattle.jc_kinds_after.proofs.LeaveLaws.{insn_of}
use Rattle.jc_kinds_after.proofs.WholeLaws.{StaysRound, after_stays}
use Rattle.jc_kinds_after.proofs.LocalsLaws.{get_held}
use Rattle.jc_kinds.specs.States.{frames_of, frame_at, or_else, state_of}
use Rattle.jc_kinds.specs.StateShift.{IsStraddled, StatesStayWhole, StatesShift}

-- ---- each instruction

after_keeps : (b : Body) (i : ℕ) (s t : TypeState) → (IsStraddled b i → ⊥) → after_of b i s ≡ Some t → StaysRound b.arg_slots s t
after_keeps b i s t free e = after_stays b.arg_slots b i s t (λ insn at straddles. free (inl (insn, at, straddles))) e

-- ---- the state in which a method begins

-- one local variable, and then the others
front_single : (x : VerificationType) (front rest : List VerificationType) (k : ℕ) → (is_pair x ≡ false) ⊎ (1 ≤ length front) → NoPairBefore (length front) (front ++ rest)
    → k + 1 ≡ suc (length front) → is_pair (get_or (x ∷ (front ++ rest)) k top) ≡ false
front_single x front rest zero (inl single) ih e = single
front_single x front rest zero (inr some) ih e = absurd (omega (arith, some, e))
front_single x front rest (suc k) other ih e = ih k (omega (arith, e))

-- the last local variable of the arguments isn't the first half of a long or a double
pub last_single : (values rest : List VerificationType) (k : ℕ) → k + 1 ≡ length (spread values) → is_pair (get_or (spread values ++ rest) k top) ≡ false
last_single [] rest k e = absurd (omega (arith, e))
last_single (h ∷ values) rest k e = by (λ j f. last_single values rest j f) (is_pair h) refl e
  where
    by : NoPairBefore (length (spread values)) (spread values ++ rest) → (b : Bool) → is_pair h ≡ b
        → (let front = (if b then h ∷ top ∷ [] else h ∷ []) ++ spread values in k + 1 ≡ length front → is_pair (get_or (front ++ rest) k top) ≡ false)
    by ih true is e = front_single h (top ∷ spread values) rest k (inr (omega arith)) (λ j f. front_single top (spread values) rest j (inl refl) ih f) e
    by ih false is e = front_single h (spread values) rest k (inl is) ih e

entry_whole : (b : Body) → IsWellMadeOfAnySize b → StaysWhole b.arg_slots (entry_of b)
entry_whole b w k e =
    let n = argument_slots b.owner b.name b.desc b.flags b.arg_slots w.arguments in
    let values = arguments b.owner b.name b.desc b.flags in
    last_single values (replicate (b.max_locals - length (spread values)) top) k (omega (arith, e, n))

-- ---- frames

-- a frame at the instruction has this state
abbrev HasFrameOf : Names → List FrameAt → ℕ → TypeState → Type 0
HasFrameOf names frames i s = (f : FrameAt) × Contains frames f × (f.at ≡ i) × (type_state names f.state ≡ s)

pub frame_is : (names : Names) (frames : List FrameAt) (i : ℕ) (s : TypeState) → frame_at (map (type_state_at names) frames) i ≡ Some s → HasFrameOf names frames i s
frame_is names [] i s e = absurd (none-some _ e)
frame_is names (f ∷ frames) i s e = by (frame_at (map (type_state_at names) frames) i) (λ h. frame_is names frames i s h) (nat_eq f.at i) refl e
  where
    by : (rest : Option TypeState) → (rest ≡ Some s → HasFrameOf names frames i s) → (b : Bool) → nat_eq f.at i ≡ b
        → (if b then Some (type_state names f.state) else rest) ≡ Some s → HasFrameOf names (f ∷ frames) i s
    by rest more true is e = (f, first_in f frames, eqb-true f.at i is, same_Some (type_state names f.state) s e)
    by rest more false is e = let m = more e in (m.0, later_in f frames m.0 m.1, m.2, m.3)

pub frame_state : (first : ℕ) (code : List Insn) (locals stack : ℕ) (frames : List FrameAt) (f : FrameAt) (k : ℕ)
    → AreFramesFrom first code locals stack frames → k < length frames → get_or frames k f ≡ f → IsState code locals stack f.state
frame_state first code locals stack [] f k are lt e = absurd (omega (arith, lt))
frame_state first code locals stack (g ∷ frames) f zero are lt e = subst (λ (x : FrameAt). IsState code locals stack x.state) e are.2
frame_state first code locals stack (g ∷ frames) f (suc k) are lt e = frame_state (g.at + 1) code locals stack frames f k are.3 (omega (arith, lt)) e

held_single : (names : Names) (k : Kind) → (kind_slots k ≡ 2 → ⊥) → is_pair (verification_type names k) ≡ false
held_single names kinds.Double one = absurd (one refl)
held_single names kinds.Long one = absurd (one refl)
held_single names k one = refl

-- ---- all states

-- what every state is
abbrev Fine : Body → TypeState → Type 0
Fine b s = (length s.locals ≡ b.max_locals) × StaysWhole b.arg_slots s

module _ (names : Names) (b : Body) (w : IsWellMadeOfAnySize b) (free : (i : ℕ) → IsStraddled b i → ⊥) where
  frame_fine : (i : ℕ) (s : TypeState) → frame_at (frames_of names b) i ≡ Some s → Fine b s
  frame_fine i s e =
      let f = frame_is names b.frames i s e in
      let is = frame_state 0 b.code b.max_locals b.max_stack b.frames f.0 f.1.0 w.frames f.1.1 f.1.2 in
      subst (Fine b) f.3 (
        length-map f.0.state.locals (verification_type names) ∙ is.locals,
        λ k at. ap is_pair (get_held names f.0.state.locals k) ∙ held_single names (get_or f.0.state.locals k kinds.Top) (λ two. free i (inr (f.0, f.1, f.2, (k, at, two)))),
      )

  or_fine : (i : ℕ) (other : Option TypeState) (s : TypeState) → ((t : TypeState) → other ≡ Some t → Fine b t) → or_else (frame_at (frames_of names b) i) other ≡ Some s → Fine b s
  or_fine i other s more e = by (frame_at (frames_of names b) i) refl e
    where
      by : (o : Option TypeState) → frame_at (frames_of names b) i ≡ o → or_else o other ≡ Some s → Fine b s
      by None is e = more s e
      by (Some t) is e = frame_fine i s (is ∙ e)

  after_fine : (i : ℕ) (o : Option TypeState) (falls : Bool) (t : TypeState) → ((s : TypeState) → o ≡ Some s → Fine b s)
      → (if falls then option_and_then (after_of b i) o else None) ≡ Some t → Fine b t
  after_fine i o false t before e = absurd (none-some _ e)
  after_fine i None true t before e = absurd (none-some _ e)
  after_fine i (Some s) true t before e =
      let k = after_keeps b i s t (free i) e in let f = before s refl in
      (k.count ∙ f.0, k.whole f.1)

  pub state_fine : (i : ℕ) (s : TypeState) → state_of names b i ≡ Some s → Fine b s
  unfolding state_of
  state_fine zero s e = or_fine 0 (Some (entry_of b)) s (λ t is. subst (Fine b) (same_Some (entry_of b) t is) (entry_count b w, entry_whole b w)) e
  state_fine (suc i) s e =
      or_fine (suc i) _ s (λ t is. after_fine i (state_of names b i) (falls_at (insn_at b i)) t (λ u q. state_fine i u q) is) e

pub states_whole : StatesStayWhole
states_whole names b w free i s e = state_fine names b w free i s e

pub states_shift : StatesShift
states_shift names image b new w free h i s t is e =
    let o = insn_of b i s t e in
    let f = state_fine names b w free i s is in
    let fit = w.arguments_fit in
    let count = f.0 in
    after_shifts b.arg_slots image b new i o.0 s t h o.1 (λ straddles. free i (inl (o.0, o.1, straddles))) (omega (arith, fit, count)) f.1 e
