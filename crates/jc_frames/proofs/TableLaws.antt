-- A table stands for one list of frames, or has one first fault, and reading finds out which.
use Rattle.std.proofs.Common.{◌≡◌, inl, inr, ℕ, zero, suc, ◌+◌, List, [], ◌∷◌, Option, Some, None, refl, sym, ◌∙◌, ap}
use Rattle.jc_bytes.specs.Decoder.{number_at}
use Rattle.jc_bytes.specs.Parsing.{Parsed, Good, Bad, item}
use Rattle.jc_bytes.proofs.GrammarLaws.{good_bad}
use Rattle.jc_methods.specs.VerificationTypes.{TypeState, TypeStateAt}
use Rattle.jc_frames.specs.declared.items.FrameItem.{FrameItem}
use Rattle.jc_frames.specs.TableReading.{frame_item_at}
use Rattle.jc_frames.specs.Frames.{Ground, Before, first_before, Found, frame_of}
use Rattle.jc_frames.specs.Table.{FrameBefore, AreFrames, StandsFor, NoFrame, FaultFrom, TableFault, Outcome, stands_for, at_fault, behind_frame, at_end, with_found, with_item, frames_from, with_count, outcome_of}
use Rattle.jc_bytes.proofs.CountedLaws.{agrees_number}
use Rattle.jc_bytes.proofs.DescriptorLaws.{cons_nil}
use Rattle.jc_frames.proofs.FormLaws.{frame_agrees}
use Rattle.jc_frames.proofs.FrameLaws.{says_nothing, fault_says_nothing}

pub stands_fault : {frames : List TypeStateAt} {place : ℕ} → stands_for frames ≡ at_fault place → ⊥
stands_fault e = cc

pub stands_is : (a b : List TypeStateAt) → stands_for a ≡ stands_for b → a ≡ b
stands_is a b e = cc

pub fault_is : (a b : ℕ) → at_fault a ≡ at_fault b → a ≡ b
fault_is a b e = cc

pub same_outcome : {m g : Ground} → m ≡ g → (entry : TypeState) (table : List ℕ) → outcome_of m entry table ≡ outcome_of g entry table
same_outcome is entry table = ap (λ (x : Ground). outcome_of x entry table) is

-- ---- one frame

-- a frame that is read and says something is one that stands in front
frame_before : (g : Ground) (before : Before) (bytes rest : List ℕ) (x : FrameItem) (found : Found) → frame_item_at bytes ≡ Good x rest
    → frame_of g before x ≡ Some found → FrameBefore g before bytes rest found
frame_before g before bytes rest x found is says = let t = frame_agrees.good bytes x rest is in record { item = x; front = t.0; parts = t.1; text = t.2; says = says }

-- what the frames behind one come to, by what they depend on and by the bytes that are left
abbrev OutcomeBehind : Type 0
OutcomeBehind = Before → List ℕ → Outcome

-- what the bytes come to, by their first frame, which has this number, and by what the frames behind it come to
abbrev outcome_by : Ground → Before → ℕ → OutcomeBehind → List ℕ → Outcome
outcome_by g before this more bytes = with_item g before this more (frame_item_at bytes)

frame_read : (g : Ground) (before : Before) (bytes rest : List ℕ) (found : Found) (this : ℕ) (more : OutcomeBehind) → FrameBefore g before bytes rest found
    → outcome_by g before this more bytes ≡ behind_frame found.frame (more found.next rest)
frame_read g before bytes rest found this more f =
    ap (with_item g before this more) (ap frame_item_at f.parts ∙ frame_agrees.again f.front rest f.item f.text)
    ∙ ap (with_found this more rest) f.says

no_frame_read : (g : Ground) (before : Before) (bytes : List ℕ) (this : ℕ) (more : OutcomeBehind) → NoFrame g before bytes → outcome_by g before this more bytes ≡ at_fault this
no_frame_read g before bytes this more (inl none) = by (frame_item_at bytes) refl
  where
    by : (p : Parsed FrameItem) → frame_item_at bytes ≡ p → with_item g before this more p ≡ at_fault this
    by (Good x rest) is = let t = frame_agrees.good bytes x rest is in absurd (none t.0 rest x t.1 t.2)
    by (Bad left) is = refl
no_frame_read g before bytes this more (inr w) =
    ap (with_item g before this more) (ap frame_item_at w.3 ∙ frame_agrees.again w.1 w.2 w.0 w.4)
    ∙ ap (with_found this more w.2) (fault_says_nothing g before w.0 w.5)

unread_frame : (g : Ground) (before : Before) (bytes left : List ℕ) → frame_item_at bytes ≡ Bad left → NoFrame g before bytes
unread_frame g before bytes left is = inl (λ front rest x parts text. good_bad (sym (frame_agrees.again front rest x text) ∙ (ap frame_item_at (sym parts) ∙ is)))

empty_frame : (g : Ground) (before : Before) (bytes rest : List ℕ) (x : FrameItem) → frame_item_at bytes ≡ Good x rest → frame_of g before x ≡ None → NoFrame g before bytes
empty_frame g before bytes rest x is none = let t = frame_agrees.good bytes x rest is in inr (x, t.0, rest, t.1, t.2, says_nothing g before x none)

-- ---- frames

abbrev Good_from : Ground → ℕ → ℕ → Type 0
Good_from g this n = (before : Before) (bytes : List ℕ) (frames : List TypeStateAt) → frames_from g this n before bytes ≡ stands_for frames → AreFrames g before n bytes frames

module _ (g : Ground) (this n : ℕ) (more : Good_from g (this + 1) n) (before : Before) (bytes : List ℕ) (frames : List TypeStateAt) where
  good_behind : (found : Found) (rest : List ℕ) (o : Outcome) → frames_from g (this + 1) n found.next rest ≡ o → FrameBefore g before bytes rest found
      → behind_frame found.frame o ≡ stands_for frames → AreFrames g before (suc n) bytes frames
  good_behind found rest (stands_for others) is f e = (rest, found, others, sym (stands_is _ frames e), f, more found.next rest others is)
  good_behind found rest (at_fault place) is f e = absurd (stands_fault (sym e))

  good_found : (x : FrameItem) (rest : List ℕ) (o : Option Found) → frame_item_at bytes ≡ Good x rest → frame_of g before x ≡ o
      → with_found this (frames_from g (this + 1) n) rest o ≡ stands_for frames → AreFrames g before (suc n) bytes frames
  good_found x rest None is i e = absurd (stands_fault (sym e))
  good_found x rest (Some found) is i e = good_behind found rest (frames_from g (this + 1) n found.next rest) refl (frame_before g before bytes rest x found is i) e

  good_item : (p : Parsed FrameItem) → frame_item_at bytes ≡ p → with_item g before this (frames_from g (this + 1) n) p ≡ stands_for frames
      → AreFrames g before (suc n) bytes frames
  good_item (Good x rest) is e = good_found x rest (frame_of g before x) is refl e
  good_item (Bad left) is e = absurd (stands_fault (sym e))

pub frames_good : (g : Ground) (this n : ℕ) → Good_from g this n
frames_good g this zero before [] frames e = (refl, sym (stands_is [] frames e))
frames_good g this zero before (b ∷ bytes) frames e = absurd (stands_fault (sym e))
frames_good g this (suc n) before bytes frames e = good_item g this n (frames_good g (this + 1) n) before bytes frames (frame_item_at bytes) refl e

pub frames_again : (g : Ground) (this n : ℕ) (before : Before) (bytes : List ℕ) (frames : List TypeStateAt) → AreFrames g before n bytes frames → frames_from g this n before bytes ≡ stands_for frames
frames_again g this zero before bytes frames a = ap at_end a.0 ∙ ap stands_for (sym a.1)
frames_again g this (suc n) before bytes frames a =
    frame_read g before bytes a.0 a.1 this (frames_from g (this + 1) n) a.4
    ∙ ap (behind_frame a.1.frame) (frames_again g (this + 1) n a.1.next a.0 a.2 a.5)
    ∙ ap stands_for (sym a.3)

abbrev Bad_from : Ground → ℕ → ℕ → Type 0
Bad_from g this n = (before : Before) (bytes : List ℕ) (place : ℕ) → frames_from g this n before bytes ≡ at_fault place → FaultFrom g before this n bytes place

module _ (g : Ground) (this n : ℕ) (more : Bad_from g (this + 1) n) (before : Before) (bytes : List ℕ) (place : ℕ) where
  bad_behind : (found : Found) (rest : List ℕ) (o : Outcome) → frames_from g (this + 1) n found.next rest ≡ o → FrameBefore g before bytes rest found
      → behind_frame found.frame o ≡ at_fault place → FaultFrom g before this (suc n) bytes place
  bad_behind found rest (stands_for others) is f e = absurd (stands_fault e)
  bad_behind found rest (at_fault other) is f e = inr (rest, found, f, more found.next rest place (is ∙ e))

  bad_found : (x : FrameItem) (rest : List ℕ) (o : Option Found) → frame_item_at bytes ≡ Good x rest → frame_of g before x ≡ o
      → with_found this (frames_from g (this + 1) n) rest o ≡ at_fault place → FaultFrom g before this (suc n) bytes place
  bad_found x rest None is i e = inl (empty_frame g before bytes rest x is i, sym (fault_is this place e))
  bad_found x rest (Some found) is i e = bad_behind found rest (frames_from g (this + 1) n found.next rest) refl (frame_before g before bytes rest x found is i) e

  bad_item : (p : Parsed FrameItem) → frame_item_at bytes ≡ p → with_item g before this (frames_from g (this + 1) n) p ≡ at_fault place
      → FaultFrom g before this (suc n) bytes place
  bad_item (Good x rest) is e = bad_found x rest (frame_of g before x) is refl e
  bad_item (Bad left) is e = inl (unread_frame g before bytes left is, sym (fault_is this place e))

pub frames_bad : (g : Ground) (this n : ℕ) → Bad_from g this n
frames_bad g this zero before [] place e = absurd (stands_fault e)
frames_bad g this zero before (b ∷ bytes) place e = (λ none. cons_nil none, sym (fault_is 0 place e))
frames_bad g this (suc n) before bytes place e = bad_item g this n (frames_bad g (this + 1) n) before bytes place (frame_item_at bytes) refl e

pub frames_fail : (g : Ground) (this n : ℕ) (before : Before) (bytes : List ℕ) (place : ℕ) → FaultFrom g before this n bytes place → frames_from g this n before bytes ≡ at_fault place
frames_fail g this zero before [] place f = absurd (f.0 refl)
frames_fail g this zero before (b ∷ bytes) place f = ap at_fault (sym f.1)
frames_fail g this (suc n) before bytes place (inl f) = no_frame_read g before bytes this (frames_from g (this + 1) n) f.0 ∙ ap at_fault (sym f.1)
frames_fail g this (suc n) before bytes place (inr f) =
    frame_read g before bytes f.0 f.1 this (frames_from g (this + 1) n) f.2
    ∙ ap (behind_frame f.1.frame) (frames_fail g (this + 1) n f.1.next f.0 place f.3)

-- ---- tables

pub table_good : (g : Ground) (entry : TypeState) (table : List ℕ) (frames : List TypeStateAt) → outcome_of g entry table ≡ stands_for frames → StandsFor g entry table frames
unfolding outcome_of
table_good g entry table frames e = by (item (number_at 2) table) refl e
  where
    by : (p : Parsed ℕ) → item (number_at 2) table ≡ p → with_count g entry p ≡ stands_for frames → StandsFor g entry table frames
    by (Good count rest) is e = let t = (agrees_number 2).good table count rest is in
        record { count = count; front = t.0; rest = rest; parts = t.1; counted = t.2; are = frames_good g 0 count (first_before entry) rest frames e }
    by (Bad left) is e = absurd (stands_fault (sym e))

pub table_again : (g : Ground) (entry : TypeState) (table : List ℕ) (frames : List TypeStateAt) → StandsFor g entry table frames → outcome_of g entry table ≡ stands_for frames
unfolding outcome_of
table_again g entry table frames s =
    ap (with_count g entry) (ap (item (number_at 2)) s.parts ∙ (agrees_number 2).again s.front s.rest s.count s.counted)
    ∙ frames_again g 0 s.count (first_before entry) s.rest frames s.are

pub table_bad : (g : Ground) (entry : TypeState) (table : List ℕ) (place : ℕ) → outcome_of g entry table ≡ at_fault place → TableFault g entry table place
unfolding outcome_of
table_bad g entry table place e = by (item (number_at 2) table) refl e
  where
    by : (p : Parsed ℕ) → item (number_at 2) table ≡ p → with_count g entry p ≡ at_fault place → TableFault g entry table place
    by (Good count rest) is e = let t = (agrees_number 2).good table count rest is in
        inr (record { count = count; front = t.0; rest = rest; parts = t.1; counted = t.2; fault = frames_bad g 0 count (first_before entry) rest place e })
    by (Bad left) is e =
        inl (record {
          at = sym (fault_is 0 place e);
          fault = λ front rest count parts text. good_bad (sym ((agrees_number 2).again front rest count text) ∙ (ap (item (number_at 2)) (sym parts) ∙ is));
        })

pub table_fails : (g : Ground) (entry : TypeState) (table : List ℕ) (place : ℕ) → TableFault g entry table place → outcome_of g entry table ≡ at_fault place
unfolding outcome_of
table_fails g entry table place (inl n) = by (item (number_at 2) table) refl
  where
    by : (p : Parsed ℕ) → item (number_at 2) table ≡ p → with_count g entry p ≡ at_fault place
    by (Good count rest) is = let t = (agrees_number 2).good table count rest is in absurd (n.fault t.0 rest count t.1 t.2)
    by (Bad left) is = ap at_fault (sym n.at)
table_fails g entry table place (inr f) =
    ap (with_count g entry) (ap (item (number_at 2)) f.parts ∙ (agrees_number 2).again f.front f.rest f.count f.counted)
    ∙ frames_fail g 0 f.count (first_before entry) f.rest place f.fault
