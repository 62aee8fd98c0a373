-- The frames of a body by the instructions at which they stand.
use Rattle.std.proofs.Common.{◌≡◌, ◌≢◌, ◌⊎◌, inl, inr, ℕ, suc, ◌+◌, ◌<◌, ◌≤◌, Bool, true, false, List, [], ◌∷◌, length, map, drop, get_or, set, replicate, nat_eq, Some, None, is_some, ◌||◌, option_map, cond, refl, sym, ◌∙◌, ap, subst, arith}
use Rattle.std.specs.List.{All, list_any}
use Rattle.std.proofs.lemmas.List.Elements.{All-nil, All-cons, All-head, All-tail}
use Rattle.std.proofs.lemmas.Bool.{eq-eqb, ne_eqb, cases_eq}
use Rattle.std.proofs.lemmas.List.{get_or-set_same, get_or-set_other, length-set, get_or-replicate, drop_all}
use Rattle.std.proofs.lemmas.Option.{slice_get_read, slice_get_past, slice_get-get_or, none-some, same_Some}
use Rattle.std.proofs.Math.Seq.{drop-cons}
use Rattle.jc_methods.specs.declared.kind.State.{State}
use Rattle.jc_methods.specs.declared.body.FrameAt.{FrameAt}
use Rattle.jc_methods.specs.VerificationTypes.{Names, type_state, type_state_at, IsNumberedState, AreNumberedFrames}
use Rattle.jc_methods.specs.WellMade.{IsState, AreFramesFrom}
use Rattle.jc_methods.specs.declared.insn.Insn.{Insn}
use Rattle.jc_kinds.specs.States.{frame_at}
use Rattle.jc_kinds.specs.Frames.{frame_in, numbered_frame, AreNumbers}

-- from `number` on the frames are listed
pub record AreListed (frames : List FrameAt) (count number : ℕ) (numbers : List ℕ) : Type 0 where
  pub size : length numbers ≡ count
  pub each : (i : ℕ) → i < count → numbered_frame frames (get_or numbers i 0) ≡ frame_in (drop number frames) i
  pub within : number ≤ length frames

pub begins : (frames : List FrameAt) (count : ℕ) (numbers : List ℕ) → numbers ≡ replicate count (length frames) → length numbers ≡ count
    → AreListed frames count (length frames) numbers
begins frames count numbers all long = record {
  size = long;
  each = λ i lt. ap (λ (l : List ℕ). numbered_frame frames (get_or l i 0)) all
      ∙ ap (numbered_frame frames) (get_or-replicate count i (length frames) 0 lt)
      ∙ ap (option_map (λ (f : FrameAt). f.state)) (slice_get_past frames (length frames) (let le : length frames ≤ length frames = omega arith in le))
      ∙ ap (λ (l : List FrameAt). frame_in l i) (sym (drop_all (length frames) frames (let le : length frames ≤ length frames = omega arith in le)));
  within = omega arith;
}

pub goes_on : (frames : List FrameAt) (count number new : ℕ) (d : FrameAt) (numbers numbers' : List ℕ) → AreListed frames count number numbers → number ≡ new + 1
    → (get_or frames new d).at < count → numbers' ≡ set numbers (get_or frames new d).at new → AreListed frames count new numbers'
goes_on frames count number new d numbers numbers' so_far step inside is = record {
  size = ap length is ∙ length-set numbers (get_or frames new d).at new ∙ so_far.size;
  each = λ i lt. each i lt (cases_eq i (get_or frames new d).at);
  within = omega (arith, step, so_far.within);
}
  where
    room : new < length frames
    room = omega (arith, step, so_far.within)

    front : (i : ℕ) → frame_in (drop new frames) i ≡ cond (nat_eq (get_or frames new d).at i) (Some (get_or frames new d).state) (frame_in (drop (suc new) frames) i)
    front i = ap (λ (l : List FrameAt). frame_in l i) (drop-cons frames new d room)

    each : (i : ℕ) → i < count → (i ≡ (get_or frames new d).at) ⊎ (i ≢ (get_or frames new d).at) → numbered_frame frames (get_or numbers' i 0) ≡ frame_in (drop new frames) i
    each i lt (inl same) =
        ap (λ (l : List ℕ). numbered_frame frames (get_or l i 0)) is
        ∙ ap (λ (k : ℕ). numbered_frame frames (get_or (set numbers (get_or frames new d).at new) k 0)) same
        ∙ ap (numbered_frame frames) (get_or-set_same numbers (get_or frames new d).at new 0 (omega (arith, so_far.size, inside)))
        ∙ ap (option_map (λ (g : FrameAt). g.state)) (slice_get-get_or frames new d room)
        ∙ sym (front i ∙ ap (λ (b : Bool). cond b (Some (get_or frames new d).state) (frame_in (drop (suc new) frames) i)) (eq-eqb (get_or frames new d).at i (sym same)))
    each i lt (inr other) =
        ap (λ (l : List ℕ). numbered_frame frames (get_or l i 0)) is
        ∙ ap (numbered_frame frames) (get_or-set_other numbers (get_or frames new d).at i new 0 other)
        ∙ so_far.each i lt
        ∙ ap (λ (k : ℕ). frame_in (drop k frames) i) (let e : number ≡ suc new = omega (arith, step) in e)
        ∙ sym (front i ∙ ap (λ (b : Bool). cond b (Some (get_or frames new d).state) (frame_in (drop (suc new) frames) i)) (ne_eqb (get_or frames new d).at i (λ e. other (sym e))))

pub is_done : (frames : List FrameAt) (count number : ℕ) (numbers : List ℕ) → AreListed frames count number numbers → number ≤ 0 → All (λ f. f.at < count) frames → AreNumbers frames count numbers
is_done frames count number numbers so_far none within = record {
  size = so_far.size;
  within = within;
  each = λ i lt. so_far.each i lt ∙ ap (λ (k : ℕ). frame_in (drop k frames) i) (let e : number ≡ 0 = omega (arith, none) in e);
}

-- no frame stands behind the instructions
pub none_behind : (frames : List FrameAt) (count i : ℕ) → All (λ f. f.at < count) frames → count ≤ i → frame_in frames i ≡ None
none_behind [] count i all le = refl
none_behind (f ∷ frames) count i all le =
    let here = All-head (λ (g : FrameAt). g.at < count) f frames all in
    ap (λ (b : Bool). cond b (Some f.state) (frame_in frames i)) (ne_eqb f.at i (λ e. omega (arith, e, here, le)))
    ∙ none_behind frames count i (All-tail (λ (g : FrameAt). g.at < count) f frames all) le

-- what the list has of an instruction
pub behind_all : (frames : List FrameAt) (count i : ℕ) (numbers : List ℕ) → AreNumbers frames count numbers → length numbers ≤ i → None ≡ frame_in frames i
behind_all frames count i numbers are le = sym (none_behind frames count i are.within (omega (arith, le, are.size)))

pub no_frame : (frames : List FrameAt) (count i number : ℕ) (numbers : List ℕ) → AreNumbers frames count numbers → i < length numbers → number ≡ get_or numbers i 0
    → length frames ≤ number → None ≡ frame_in frames i
no_frame frames count i number numbers are lt is past =
    sym (sym (are.each i (omega (arith, lt, are.size))) ∙ ap (numbered_frame frames) (sym is) ∙ ap (option_map (λ (f : FrameAt). f.state)) (slice_get_past frames number past))

pub a_frame : (frames : List FrameAt) (count i number : ℕ) (numbers : List ℕ) (f : FrameAt) → AreNumbers frames count numbers → i < length numbers → number ≡ get_or numbers i 0
    → number < length frames → f ≡ get_or frames number f → Some f.state ≡ frame_in frames i
a_frame frames count i number numbers f are lt is inside at =
    sym (sym (are.each i (omega (arith, lt, are.size))) ∙ ap (numbered_frame frames) (sym is)
    ∙ ap (option_map (λ (g : FrameAt). g.state)) (slice_get_read frames (length frames) number f refl inside at))

-- ---- well made frames

pub frames_within : (first : ℕ) (code : List Insn) (locals stack : ℕ) (frames : List FrameAt) → AreFramesFrom first code locals stack frames → All (λ f. f.at < length code) frames
frames_within first code locals stack [] are = All-nil (λ f. f.at < length code)
frames_within first code locals stack (f ∷ frames) are = All-cons (λ g. g.at < length code) f frames are.1 (frames_within (f.at + 1) code locals stack frames are.3)

pub frame_made : (first : ℕ) (code : List Insn) (locals stack : ℕ) (frames : List FrameAt) → AreFramesFrom first code locals stack frames → (i : ℕ) (s : State) → frame_in frames i ≡ Some s
    → IsState code locals stack s
frame_made first code locals stack [] are i s e = absurd (none-some _ e)
frame_made first code locals stack (f ∷ frames) are i s e = by (nat_eq f.at i) e (frame_made (f.at + 1) code locals stack frames are.3 i s)
  where
    by : (b : Bool) → cond b (Some f.state) (frame_in frames i) ≡ Some s → (frame_in frames i ≡ Some s → IsState code locals stack s) → IsState code locals stack s
    by true e more = subst (IsState code locals stack) (same_Some f.state s e) are.2
    by false e more = more e

pub frame_numbered : (count : ℕ) (frames : List FrameAt) → AreNumberedFrames count frames → (i : ℕ) (s : State) → frame_in frames i ≡ Some s → IsNumberedState count s
frame_numbered count [] all i s e = absurd (none-some _ e)
frame_numbered count (f ∷ frames) all i s e = by (nat_eq f.at i) e (frame_numbered count frames all.1 i s)
  where
    by : (b : Bool) → cond b (Some f.state) (frame_in frames i) ≡ Some s → (frame_in frames i ≡ Some s → IsNumberedState count s) → IsNumberedState count s
    by true e more = subst (IsNumberedState count) (same_Some f.state s e) all.0
    by false e more = more e

-- whether a frame stands there
pub frame_found : (frames : List FrameAt) (i : ℕ) → list_any (λ f. nat_eq f.at i) frames ≡ is_some (frame_in frames i)
frame_found [] i = refl
frame_found (f ∷ frames) i = by (nat_eq f.at i) (frame_found frames i)
  where
    by : (b : Bool) → list_any (λ g. nat_eq g.at i) frames ≡ is_some (frame_in frames i) → (b || list_any (λ g. nat_eq g.at i) frames) ≡ is_some (cond b (Some f.state) (frame_in frames i))
    by true more = refl
    by false more = more

-- ---- by class names

pub frame_seen : (names : Names) (frames : List FrameAt) (i : ℕ) → frame_at (map (type_state_at names) frames) i ≡ option_map (type_state names) (frame_in frames i)
frame_seen names [] i = refl
frame_seen names (f ∷ frames) i = by (nat_eq f.at i) (frame_seen names frames i)
  where
    by : (b : Bool) → frame_at (map (type_state_at names) frames) i ≡ option_map (type_state names) (frame_in frames i)
        → cond b (Some (type_state names f.state)) (frame_at (map (type_state_at names) frames) i) ≡ option_map (type_state names) (cond b (Some f.state) (frame_in frames i))
    by true more = refl
    by false more = more
