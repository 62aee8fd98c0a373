-- Frame after frame, a walk finds what the table stands for.
use Rattle.std.proofs.Common.{◌≡◌, ℕ, zero, suc, ◌+◌, ◌-◌, ◌<◌, ◌≤◌, List, [], ◌∷◌, ◌++◌, length, Option, Some, None, option_map, Result, Ok, Err, IfOk, IsErr, is_ok, Bool, true, false, refl, sym, ◌∙◌, ap, arith, append_assoc}
use Rattle.std.proofs.lemmas.List.{append-nil}
use Rattle.jc_methods.specs.VerificationTypes.{TypeState, TypeStateAt}
use Rattle.jc_bytes.specs.Decoder.{number_at}
use Rattle.jc_bytes.specs.Parsing.{Parsed, Good, Bad, item}
use Rattle.jc_frames.specs.declared.items.FrameItem.{FrameItem}
use Rattle.jc_frames.specs.TableReading.{frame_item_at}
use Rattle.jc_frames.specs.Frames.{Ground, Before, first_before, Found, frame_of}
use Rattle.jc_frames.specs.Table.{Outcome, stands_for, at_fault, behind_frame, at_end, with_found, with_item, frames_from, with_count, outcome_of}
use Rattle.jc_frames.specs.NextFrame.{with_rest, read_frame}

-- ---- one frame

-- a frame that says something, and what follows
pub goes_on : (g : Ground) (before : Before) (this : ℕ) (more : Before → List ℕ → Outcome) (p : Parsed FrameItem) (found : Found) (rest : List ℕ)
    → read_frame g before p ≡ Some (with_rest rest found) → with_item g before this more p ≡ behind_frame found.frame (more found.next rest)
goes_on g before this more (Bad left) found rest e = cc
goes_on g before this more (Good item left) found rest e = by (frame_of g before item) e
  where
    by : (o : Option Found) → option_map (with_rest left) o ≡ Some (with_rest rest found) → with_found this more left o ≡ behind_frame found.frame (more found.next rest)
    by None e = cc
    by (Some f) e =
        let pair = some_is (with_rest left f) (with_rest rest found) e in
        ap (λ (q : Found × List ℕ). behind_frame q.0.frame (more q.0.next q.1)) pair
      where
        some_is : (x y : Found × List ℕ) → Some x ≡ Some y → x ≡ y
        some_is x y e = cc

-- no frame that says something
pub stops : (g : Ground) (before : Before) (this : ℕ) (more : Before → List ℕ → Outcome) (p : Parsed FrameItem) → read_frame g before p ≡ None
    → with_item g before this more p ≡ at_fault this
stops g before this more (Bad left) e = refl
stops g before this more (Good item left) e = by (frame_of g before item) e
  where
    by : (o : Option Found) → option_map (with_rest left) o ≡ None → with_found this more left o ≡ at_fault this
    by None e = refl
    by (Some f) e = cc

-- ---- all frames

-- the frames so far, and what the rest stands for
abbrev pub behind_all : List TypeStateAt → Outcome → Outcome
behind_all done (stands_for frames) = stands_for (done ++ frames)
behind_all done (at_fault place) = at_fault place

none_behind : (o : Outcome) → behind_all [] o ≡ o
none_behind (stands_for frames) = refl
none_behind (at_fault place) = refl

one_behind : (done : List TypeStateAt) (frame : TypeStateAt) (o : Outcome) → behind_all done (behind_frame frame o) ≡ behind_all (done ++ frame ∷ []) o
one_behind done frame (stands_for frames) = ap stands_for (sym (append_assoc done (frame ∷ []) frames))
one_behind done frame (at_fault place) = refl

-- with so many of all frames done, the table has the outcome that the rest has
pub record Walking (g : Ground) (entry : TypeState) (table : List ℕ) (count this : ℕ) (done : List TypeStateAt) (before : Before) (left : List ℕ) : Type 0 where
  pub same : outcome_of g entry table ≡ behind_all done (frames_from g this (count - this) before left)

pub begins : (g : Ground) (entry : TypeState) (table left : List ℕ) (count : ℕ) → item (number_at 2) table ≡ Good count left → Walking g entry table count 0 [] (first_before entry) left
unfolding outcome_of
begins g entry table left count is = record {
  same = ap (with_count g entry) is ∙ ap (λ (n : ℕ). frames_from g 0 n (first_before entry) left) (let e : count ≡ count - 0 = omega arith in e)
      ∙ sym (none_behind (frames_from g 0 (count - 0) (first_before entry) left));
}

pub count_cut : (g : Ground) (entry : TypeState) (table left : List ℕ) → item (number_at 2) table ≡ Bad left → outcome_of g entry table ≡ at_fault 0
unfolding outcome_of
count_cut g entry table left is = ap (with_count g entry) is

pub walks_on : (g : Ground) (entry : TypeState) (table : List ℕ) (count this : ℕ) (done : List TypeStateAt) (before : Before) (left rest : List ℕ) (found : Found) → this < count
    → Walking g entry table count this done before left → read_frame g before (frame_item_at left) ≡ Some (with_rest rest found)
    → Walking g entry table count (this + 1) (done ++ found.frame ∷ []) found.next rest
walks_on g entry table count this done before left rest found lt w says = record {
  same = w.same ∙ ap (λ (n : ℕ). behind_all done (frames_from g this n before left)) (let e : count - this ≡ suc (count - (this + 1)) = omega (arith, lt) in e)
      ∙ ap (behind_all done) (goes_on g before this (frames_from g (this + 1) (count - (this + 1))) (frame_item_at left) found rest says)
      ∙ one_behind done found.frame (frames_from g (this + 1) (count - (this + 1)) found.next rest);
}

pub stopped : (g : Ground) (entry : TypeState) (table : List ℕ) (count this : ℕ) (done : List TypeStateAt) (before : Before) (left : List ℕ) → this < count
    → Walking g entry table count this done before left → read_frame g before (frame_item_at left) ≡ None → outcome_of g entry table ≡ at_fault this
stopped g entry table count this done before left lt w none =
    w.same ∙ ap (λ (n : ℕ). behind_all done (frames_from g this n before left)) (let e : count - this ≡ suc (count - (this + 1)) = omega (arith, lt) in e)
    ∙ ap (behind_all done) (stops g before this (frames_from g (this + 1) (count - (this + 1))) (frame_item_at left) none)

-- behind the last frame
at_last : (g : Ground) (entry : TypeState) (table : List ℕ) (count this : ℕ) (done : List TypeStateAt) (before : Before) (left : List ℕ) → count ≤ this
    → Walking g entry table count this done before left → outcome_of g entry table ≡ behind_all done (at_end left)
at_last g entry table count this done before left le w =
    w.same ∙ ap (λ (n : ℕ). behind_all done (frames_from g this n before left)) (let e : count - this ≡ zero = omega (arith, le) in e)

pub nothing_left : (g : Ground) (entry : TypeState) (table : List ℕ) (count this : ℕ) (done : List TypeStateAt) (before : Before) (left : List ℕ) → count ≤ this
    → Walking g entry table count this done before left → length left < 1 → outcome_of g entry table ≡ stands_for done
nothing_left g entry table count this done before [] le w none =
    at_last g entry table count this done before [] le w ∙ ap stands_for (append-nil done)
nothing_left g entry table count this done before (b ∷ left) le w none = absurd (omega (arith, none))

pub bytes_left : (g : Ground) (entry : TypeState) (table : List ℕ) (count this : ℕ) (done : List TypeStateAt) (before : Before) (left : List ℕ) → count ≤ this
    → Walking g entry table count this done before left → 1 ≤ length left → outcome_of g entry table ≡ at_fault 0
bytes_left g entry table count this done before [] le w some = absurd (omega (arith, some))
bytes_left g entry table count this done before (b ∷ left) le w some = at_last g entry table count this done before (b ∷ left) le w

-- ---- what a call answers

pub reads_as : {X E : Type 0} (g : Ground) (before : Before) (p : Parsed FrameItem) (item : FrameItem) (rest : List ℕ) (as_found : X → Found) (r : Result (Option X) E)
    → p ≡ Good item rest → IfOk r (λ o. frame_of g before item ≡ option_map as_found o)
    → IfOk r (λ o. read_frame g before p ≡ option_map (λ x. with_rest rest (as_found x)) o)
reads_as g before p item rest as_found (Err e) is says = says
reads_as {X} g before p item rest as_found (Ok o) is says =
    ap (read_frame g before) is ∙ ap (option_map (with_rest rest)) says ∙ by o
  where
    by : (o : Option X) → option_map (with_rest rest) (option_map as_found o) ≡ option_map (λ x. with_rest rest (as_found x)) o
    by None = refl
    by (Some x) = refl

-- a byte was read exactly where one is left
pub none_left : {X E : Type 0} (r : Result X E) (ok : Bool) (size : ℕ) → ok ≡ is_ok r → ok ≡ false → (IsErr r → size < 1) → size < 1
none_left (Ok x) ok size is not h = absurd cc
none_left (Err e) ok size is not h = h refl

pub some_left : {X E : Type 0} (r : Result X E) (ok : Bool) (size : ℕ) → ok ≡ is_ok r → ok ≡ true → (size < 1 → IsErr r) → 1 ≤ size
some_left (Err e) ok size is so h = absurd cc
some_left (Ok x) ok zero is so h = absurd (never (h (omega arith)))
  where
    never : false ≡ true → ⊥
    never e = cc
some_left (Ok x) ok (suc size) is so h = omega arith
