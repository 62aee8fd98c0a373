-- What is kept once a piece more was read behind the bytes that were kept.
use Rattle.std.proofs.Common.{◌≡◌, ℕ, ◌+◌, ◌-◌, inl, inr, List, [], ◌++◌, length, take, drop, sym, ◌∙◌, ap, subst, arith}
use Rattle.std.proofs.lemmas.List.{take_all, drop_at, length-drop}
use Rattle.jc_bytes.specs.declared.fail.Fail.{Fail}
use Rattle.jc_bytes.specs.declared.fail.Fail.TheVariants as fails
use Rattle.jc_exec.specs.declared.refusal.ExecRefusal.{ExecRefusal}
use Rattle.jc_exec.specs.declared.refusal.ExecRefusal.TheVariants.{BadExec}
use Rattle.jc_exec.specs.Adding.{Entries, Held, store_of, Adds, StopsUnfit, IsStop}
use Rattle.jc_exec.specs.Answers.{why_of}
use Rattle.jc_exec.specs.Feeding.{NoneInFront, Waits}
use Rattle.jc_exec.specs.Front.{IsUnfit, reading_at}
use Rattle.jc_exec.specs.Refusing.{bad_exec, FirstRefusal}
use Rattle.jc_exec.specs.Store.{Store, Keyed}
use Rattle.jc_exec.proofs.FeedLaws.{waits_on, unfit_lasts, clash_lasts, other_stop_lasts, bad_is_unfit}

-- the blocks were read over no records
pub adds_over_none : (known : Entries) (offset : ℕ) (bytes whole : List ℕ) (old new : Held) → known ≡ [] → bytes ≡ whole
    → Adds known offset bytes old new → Adds [] offset whole old new
adds_over_none known offset bytes whole old new none is a =
    subst (λ (l : List ℕ). Adds [] offset l old new) is (subst (λ (es : Entries). Adds es offset bytes old new) none a)

pub stops_over_none : (known : Entries) (offset : ℕ) (bytes whole : List ℕ) (old new : Held) (e : Fail ExecRefusal) (why : ExecRefusal) → known ≡ []
    → bytes ≡ whole → e ≡ fails.Said why → IsStop known offset bytes old new e → IsStop [] offset whole old new (fails.Said why)
stops_over_none known offset bytes whole old new e why none is said s =
    subst (λ (f : Fail ExecRefusal). IsStop [] offset whole old new f) said
    (subst (λ (l : List ℕ). IsStop [] offset l old new e) is (subst (λ (es : Entries). IsStop es offset bytes old new e) none s))

-- all bytes from a place on
pub tail_is : (n : ℕ) (bytes : List ℕ) → take (length bytes - n) (drop n bytes) ≡ drop n bytes
tail_is n bytes = take_all (length bytes - n) (drop n bytes) (omega (arith, length-drop n bytes))

-- what stands at a place behind the blocks
module _ (offset place : ℕ) (bytes whole taken left : List ℕ) (is : bytes ≡ whole) (parts : whole ≡ taken ++ left) (at : place ≡ offset + length taken) where
  pub left_is : drop (place - offset) bytes ≡ left
  left_is = ap (drop (place - offset)) (is ∙ parts) ∙ drop_at taken left (place - offset) (omega (arith, at))

  -- the bytes that were tested
  abbrev tested : List ℕ
  tested = take (length bytes - (place - offset)) (drop (place - offset) bytes)

  tested_is : tested ≡ left
  tested_is = tail_is (place - offset) bytes ∙ left_is

  there : IsUnfit (reading_at (offset + length taken) left) (bad_exec place) → IsUnfit (reading_at place tested) (bad_exec place)
  there unfit = subst (λ (n : ℕ). IsUnfit (reading_at n tested) (bad_exec place)) (sym at)
      (subst (λ (l : List ℕ). IsUnfit (reading_at (offset + length taken) l) (bad_exec place)) (sym tested_is) unfit)

  here : (more : List ℕ) → IsUnfit (reading_at place (tested ++ more)) (bad_exec place)
      → IsUnfit (reading_at (offset + length taken) (left ++ more)) (bad_exec place)
  here more unfit = subst (λ (n : ℕ). IsUnfit (reading_at n (left ++ more)) (bad_exec place)) at
      (subst (λ (l : List ℕ). IsUnfit (reading_at place (l ++ more)) (bad_exec place)) tested_is unfit)

  -- what is so of the tested bytes is so of what is left
  pub left_lasts : (IsUnfit (reading_at place tested) (bad_exec place) → (more : List ℕ) → IsUnfit (reading_at place (tested ++ more)) (bad_exec place))
      → IsUnfit (reading_at (offset + length taken) left) (bad_exec place)
      → (more : List ℕ) → IsUnfit (reading_at (offset + length taken) (left ++ more)) (bad_exec place)
  left_lasts lasts unfit more = here more (lasts (there unfit) more)

  pub left_waits : (IsUnfit (reading_at place tested) (bad_exec place) → NoneInFront tested)
      → IsUnfit (reading_at (offset + length taken) left) (bad_exec place) → NoneInFront left
  left_waits waits unfit = subst NoneInFront tested_is (waits (there unfit))

-- ---- what is kept then

-- bytes that are no block were met at the place
pub unfit_stop : (start : Held) (offset : ℕ) (whole : List ℕ) (new : Held) (why : ExecRefusal) (place : ℕ) → why ≡ BadExec place
    → IsStop [] offset whole start new (fails.Said why) → StopsUnfit [] offset whole start new (BadExec place)
unfit_stop start offset whole new why place bad stop =
    bad_is_unfit [] offset whole start new place (subst (λ (r : ExecRefusal). IsStop [] offset whole start new (fails.Said r)) bad stop)

module _ (start : Held) (offset : ℕ) (rest piece : List ℕ) (keyed : Keyed start.records) (before : Store) (bytes : List ℕ)
    (w : Waits before bytes (store_of start.sessions start.records) rest) (size : offset + length rest ≡ length bytes) (new : Held) where
  -- a refusal that isn't of bytes that are no block lasts
  pub other_refusal_lasts : (why : ExecRefusal) → ((p : ℕ) → why ≡ BadExec p → ⊥) → IsStop [] offset (rest ++ piece) start new (fails.Said why)
      → (more : List ℕ) → FirstRefusal before ((bytes ++ piece) ++ more) (why_of why)
  other_refusal_lasts why apart (inl s) =
      unfit_lasts start offset rest piece keyed before bytes w size new why s (λ more. other_stop_lasts (offset + length s.taken) s.left more why apart s.unfit)
  other_refusal_lasts why apart (inr s) = clash_lasts start offset rest piece keyed before bytes w size why s

  module _ (why : ExecRefusal) (place : ℕ) (bad : why ≡ BadExec place) (stop : IsStop [] offset (rest ++ piece) start new (fails.Said why))
      (got : List ℕ) (is : got ≡ rest ++ piece) where
    -- the bytes that were tested
    abbrev tried : List ℕ
    tried = take (length got - (place - offset)) (drop (place - offset) got)

    -- bytes that can be the front of no block stay refused
    pub bad_refusal_lasts : (IsUnfit (reading_at place tried) (bad_exec place)
        → (more : List ℕ) → IsUnfit (reading_at place (tried ++ more)) (bad_exec place))
        → (more : List ℕ) → FirstRefusal before ((bytes ++ piece) ++ more) (why_of why)
    bad_refusal_lasts lasts more =
        let s = unfit_stop start offset (rest ++ piece) new why place bad stop in
        subst (λ (r : ExecRefusal). FirstRefusal before ((bytes ++ piece) ++ more) (why_of r)) (sym bad)
        (unfit_lasts start offset rest piece keyed before bytes w size new (BadExec place) s
        (left_lasts offset place got (rest ++ piece) s.taken s.left is s.parts s.unfit.0 lasts s.unfit) more)

    -- bytes that may be the front of a block are kept
    pub front_waits : (IsUnfit (reading_at place tried) (bad_exec place) → NoneInFront tried)
        → Waits before (bytes ++ piece) (store_of new.sessions new.records) (drop (place - offset) got)
    front_waits waits =
        let s = unfit_stop start offset (rest ++ piece) new why place bad stop in
        let left = left_is offset place got (rest ++ piece) s.taken s.left is s.parts s.unfit.0 in
        subst (Waits before (bytes ++ piece) (store_of new.sessions new.records)) (sym left)
        (waits_on start offset rest piece keyed before bytes w size s.taken s.left new s.parts s.adds
        (left_waits offset place got (rest ++ piece) s.taken s.left is s.parts s.unfit.0 waits s.unfit))
