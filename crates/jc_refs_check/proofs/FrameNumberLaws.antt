-- The frame at an instruction by how many frames stand in front of that.
use Rattle.std.proofs.Common.{◌≡◌, ◌≢◌, ⊎_elim, ℕ, zero, suc, ◌+◌, ◌<◌, ◌≤◌, Bool, true, false, List, [], ◌∷◌, length, get_or, nat_eq, Some, None, cond, ltb, ltb-true, ltb-false, refl, sym, ◌∙◌, ap, subst, arith}
use Rattle.std.specs.List.{slice_get}
use Rattle.std.specs.List.Sorted.{IsNonDecreasingBy, IsPartitionPoint}
use Rattle.std.proofs.lemmas.Bool.{eq-eqb, ne_eqb, eqb-true, cases_lt}
use Rattle.std.proofs.lemmas.Option.{none-some, same_Some, slice_get_within, slice_get_read, slice_get-get_or, get_or_from_slice_get}
use Rattle.jc_methods.specs.declared.insn.Insn.{Insn}
use Rattle.jc_methods.specs.declared.kind.State.{State}
use Rattle.jc_methods.specs.declared.body.FrameAt.{FrameAt}
use Rattle.jc_methods.specs.WellMade.{AreFramesFrom}
use Rattle.jc_kinds.specs.Frames.{frame_in}
use Rattle.jc_refs_check.specs.FrameNumbers.{StandsBehind}

-- ---- frames rise

from_first : (first : ℕ) (code : List Insn) (locals stack : ℕ) (frames : List FrameAt) → AreFramesFrom first code locals stack frames
    → (j : ℕ) (d : FrameAt) → j < length frames → first ≤ (get_or frames j d).at
from_first first code locals stack [] are j d lt = absurd (omega (arith, lt))
from_first first code locals stack (f ∷ frames) are zero d lt = are.0
from_first first code locals stack (f ∷ frames) are (suc j) d lt =
    let r = from_first (f.at + 1) code locals stack frames are.3 j d (omega (arith, lt)) in let s = are.0 in omega (arith, r, s)

pub frames_rise : (first : ℕ) (code : List Insn) (locals stack : ℕ) (frames : List FrameAt) → AreFramesFrom first code locals stack frames → IsNonDecreasingBy (λ (f : FrameAt). f.at) frames
frames_rise first code locals stack [] are i j d le lt = absurd (omega (arith, lt))
frames_rise first code locals stack (f ∷ frames) are zero zero d le lt = omega arith
frames_rise first code locals stack (f ∷ frames) are zero (suc j) d le lt =
    let r = from_first (f.at + 1) code locals stack frames are.3 j d (omega (arith, lt)) in omega (arith, r)
frames_rise first code locals stack (f ∷ frames) are (suc i) zero d le lt = absurd (omega (arith, le))
frames_rise first code locals stack (f ∷ frames) are (suc i) (suc j) d le lt =
    frames_rise (f.at + 1) code locals stack frames are.3 i j d (omega (arith, le)) (omega (arith, lt))

-- ---- how many stand in front

pub found_behind : (frames : List FrameAt) (at n : ℕ) → n ≤ length frames
    → IsPartitionPoint (λ (f : FrameAt). ltb f.at at ≡ true) (λ (f : FrameAt). ltb f.at at ≡ false) frames n → StandsBehind frames at n
found_behind frames at n le point = record {
  within = le;
  before = λ k f e lt. subst (λ (g : FrameAt). g.at < at) (get_or_from_slice_get frames k f f e) (ltb-true _ _ (point.0 k f (omega arith) lt));
  behind = λ k f e low. subst (λ (g : FrameAt). at ≤ g.at) (get_or_from_slice_get frames k f f e) (ltb-false _ _ (point.1 k f low (slice_get_within frames k f e)));
}

-- ---- the frame at the instruction

-- no frame stands there
none_stands : (frames : List FrameAt) (at : ℕ) → ((k : ℕ) (f : FrameAt) → slice_get frames k ≡ Some f → f.at ≡ at → ⊥) → frame_in frames at ≡ None
none_stands [] at none = refl
none_stands (f ∷ frames) at none =
    ap (λ (b : Bool). cond b (Some f.state) (frame_in frames at)) (ne_eqb f.at at (none 0 f refl))
    ∙ none_stands frames at (λ k g e. none (suc k) g e)

-- the one frame that stands there
one_stands : (first : ℕ) (code : List Insn) (locals stack : ℕ) (frames : List FrameAt) → AreFramesFrom first code locals stack frames
    → (n at : ℕ) (f : FrameAt) → slice_get frames n ≡ Some f → f.at ≡ at → frame_in frames at ≡ Some f.state
one_stands first code locals stack [] are n at f e is = absurd (none-some _ e)
one_stands first code locals stack (g ∷ frames) are zero at f e is =
    let same : g ≡ f = same_Some g f e in
    ap (λ (b : Bool). cond b (Some g.state) (frame_in frames at)) (eq-eqb g.at at (ap (λ (h : FrameAt). h.at) same ∙ is)) ∙ ap (λ (h : FrameAt). Some h.state) same
one_stands first code locals stack (g ∷ frames) are (suc n) at f e is =
    let later = from_first (g.at + 1) code locals stack frames are.3 n f (slice_get_within frames n f e) in
    let far : g.at + 1 ≤ f.at = subst (λ (h : FrameAt). g.at + 1 ≤ h.at) (get_or_from_slice_get frames n f f e) later in
    ap (λ (b : Bool). cond b (Some g.state) (frame_in frames at)) (ne_eqb g.at at (λ q. omega (arith, q, far, is)))
    ∙ one_stands (g.at + 1) code locals stack frames are.3 n at f e is

-- the frame that says what is said at the instruction
record IsFound (frames : List FrameAt) (at : ℕ) (s : State) : Type 0 where
  number : ℕ
  frame : FrameAt
  there : slice_get frames number ≡ Some frame
  place : frame.at ≡ at
  state : frame.state ≡ s

frame_found_at : (frames : List FrameAt) (at : ℕ) (s : State) → frame_in frames at ≡ Some s → IsFound frames at s
frame_found_at [] at s e = absurd (none-some _ e)
frame_found_at (f ∷ frames) at s e = by (nat_eq f.at at) refl e (frame_found_at frames at s)
  where
    by : (b : Bool) → nat_eq f.at at ≡ b → cond b (Some f.state) (frame_in frames at) ≡ Some s → (frame_in frames at ≡ Some s → IsFound frames at s) → IsFound (f ∷ frames) at s
    by true q g more = record { number = 0; frame = f; there = refl; place = eqb-true f.at at q; state = same_Some f.state s g }
    by false q g more = let x = more g in record { number = suc x.number; frame = x.frame; there = x.there; place = x.place; state = x.state }

module _ (first : ℕ) (code : List Insn) (locals stack : ℕ) (frames : List FrameAt) (are : AreFramesFrom first code locals stack frames) (at n : ℕ) (stands : StandsBehind frames at n) where
  -- the frame at the instruction has that number
  pub stands_there : (s : State) → frame_in frames at ≡ Some s → (f : FrameAt) × (slice_get frames n ≡ Some f) × (f.state ≡ s)
  stands_there s e =
      let x = frame_found_at frames at s e in
      let room = slice_get_within frames x.number x.frame x.there in
      let place = x.place in
      let high : n ≤ x.number = ⊎_elim (λ low. let b = stands.before x.number x.frame x.there low in omega (arith, b, place)) (λ high. high) (cases_lt x.number n) in
      let f = get_or frames n x.frame in
      let here : slice_get frames n ≡ Some f = slice_get-get_or frames n x.frame (omega (arith, high, room)) in
      let from : at ≤ f.at = stands.behind n f here (let r : n ≤ n = omega arith in r) in
      let rise = frames_rise first code locals stack frames are n x.number x.frame high room in
      let up : f.at ≤ x.frame.at = subst (λ (h : FrameAt). f.at ≤ h.at) (get_or_from_slice_get frames x.number x.frame x.frame x.there) rise in
      let same : f.at ≡ at = omega (arith, from, up, place) in
      (f, here, same_Some f.state s (sym (one_stands first code locals stack frames are n at f here same) ∙ e))

  pub none_behind_them : length frames ≤ n → None ≡ frame_in frames at
  none_behind_them past = sym (none_stands frames at (λ k f e is. ⊎_elim
      (λ low. let b = stands.before k f e low in omega (arith, b, is))
      (λ high. let l = slice_get_within frames k f e in omega (arith, high, l, past))
      (cases_lt k n)))

  pub frame_there : (f : FrameAt) → n < length frames → f ≡ get_or frames n f → f.at ≡ at → Some f.state ≡ frame_in frames at
  frame_there f lt same is = sym (one_stands first code locals stack frames are n at f (slice_get_read frames (length frames) n f refl lt same) is)

  pub frame_behind : (f : FrameAt) → n < length frames → f ≡ get_or frames n f → f.at ≢ at → None ≡ frame_in frames at
  frame_behind f lt same other = sym (none_stands frames at (λ k g e is. ⊎_elim
      (λ low. let b = stands.before k g e low in omega (arith, b, is))
      (λ high.
      let here = slice_get_read frames (length frames) n f refl lt same in
      let from = stands.behind n f here (let r : n ≤ n = omega arith in r) in
      let rise = frames_rise first code locals stack frames are n k f high (slice_get_within frames k g e) in
      let up : f.at ≤ g.at =
      subst (λ (h : FrameAt). f.at ≤ h.at) (get_or_from_slice_get frames k g f e) (subst (λ (h : FrameAt). h.at ≤ (get_or frames k f).at) (sym same) rise) in
      let same_place : f.at ≡ at = omega (arith, from, up, is) in
      other same_place)
      (cases_lt k n)))
