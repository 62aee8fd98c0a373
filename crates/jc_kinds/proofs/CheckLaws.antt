-- What the check says is so.
use Rattle.std.proofs.Common.{◌≡◌, ◌⊎◌, inl, inr, ⊎_elim, ℕ, zero, suc, ◌+◌, ◌<◌, ◌≤◌, Bool, true, false, not, ◌&&◌, ◌∷◌, length, Option, Some, None, is_some, nat_eq, refl, sym, ◌∙◌, ap, subst, arith, if◌then◌else◌}
use Rattle.std.proofs.lemmas.Bool.{cases_lt, true≢false}
use Rattle.std.specs.List.{Contains, list_any}
use Rattle.jc_bytes.proofs.DecidingLaws.{Decides}
use Rattle.jc_methods.proofs.FlowLaws.{falls_decided, falls_into_decided}
use Rattle.jc_methods.specs.declared.insn.Insn.{Insn}
use Rattle.jc_methods.specs.declared.body.Body.{Body}
use Rattle.jc_methods.specs.Flow.{FallsThrough, targets_of, falls_through}
use Rattle.jc_bytes.specs.Least.{IsNowhere, IsLeast}
use Rattle.jc_methods.specs.VerificationTypes.{Names, TypeState}
use Rattle.jc_methods.specs.EntryState.{entry_of}
use Rattle.jc_kinds_after.specs.After.{insn_at}
use Rattle.jc_kinds.specs.Fits.{FitsThere, fits_there}
use Rattle.jc_kinds.specs.States.{state_of, after_at}
use Rattle.jc_kinds.specs.Checked.{JumpsTo, LeadsTo, HasFrame, IsHandlerTarget, NeedsFrame, IsMissing, at_handler, EntryClash, NoAfter, BranchClash, HandlerClash, IsClash, Checked, FirstMissing, FirstClash}
use Rattle.jc_kinds.specs.Checking.{branches, guards, has_frame, is_jump_target, is_handler_target, needs_frame, is_missing, entry_clash, branch_clash, handler_clash, is_clash, first_from, first_below, Verdict, passes, frame_missing, frame_clash, clash_or_passes, missing_or, verdict_of}
use Rattle.std.proofs.lemmas.Option.{none-some, same_Some, slice_get_within}
use Rattle.jc_bytes.proofs.BooleanLaws.{both, either, neither, instead, fails_where, equal_decided, at_most_decided, below_decided, first_in, later_in, which_in, any_decided, stands_in, place_of, none_decided}
use Rattle.jc_bytes.proofs.LeastLaws.{least_one}
use Rattle.jc_kinds.proofs.FitsLaws.{there_decided}

-- ---- where control goes

target_decided : (j : ℕ) (insn : Insn) → Decides (list_any (nat_eq j) (targets_of insn)) (Contains (targets_of insn) j)
target_decided j insn = instead (any_decided (nat_eq j) (λ k. j ≡ k) (λ k. equal_decided j k) (targets_of insn))
    (λ w. subst (Contains (targets_of insn)) (sym w.2) w.1)
    (λ c. (j, c, refl))

jump_target_decided : (b : Body) (j : ℕ) → Decides (is_jump_target b j) ((i : ℕ) × JumpsTo b i j)
jump_target_decided b j = instead (any_decided _ (λ insn. Contains (targets_of insn) j) (target_decided j) b.code)
    (λ w. let p = place_of b.code w.0 w.1 in (p.0, record { insn = w.0; stands = p.1; target = w.2 }))
    (λ w. (w.1.insn, stands_in b.code w.0 w.1.insn w.1.stands, w.1.target))

handler_target_decided : (b : Body) (j : ℕ) → Decides (is_handler_target b j) (IsHandlerTarget b j)
handler_target_decided b j = any_decided (λ h. nat_eq h.target j) (λ h. h.target ≡ j) (λ h. equal_decided h.target j) b.handlers

needs_decided : (b : Body) (j : ℕ) → Decides (needs_frame b j) (NeedsFrame b j)
needs_decided b j = either (jump_target_decided b j) (either (handler_target_decided b j) (both (neither (equal_decided j 0)) (neither (falls_into_decided b j))))

pub has_frame_decided : (b : Body) (i : ℕ) → Decides (has_frame b i) (HasFrame b i)
has_frame_decided b i = any_decided (λ f. nat_eq f.at i) (λ f. f.at ≡ i) (λ f. equal_decided f.at i) b.frames

pub missing_decided : (b : Body) (i : ℕ) → Decides (is_missing b i) (NeedsFrame b i × (HasFrame b i → ⊥))
missing_decided b i = both (needs_decided b i) (neither (has_frame_decided b i))

-- ---- states that don't fit

pub leads_decided : (b : Body) (i j : ℕ) → (Contains (branches (insn_at b i) i) j → LeadsTo b i j) × (LeadsTo b i j → Contains (branches (insn_at b i) i) j)
leads_decided b i j = by (insn_at b i) refl
  where
    jumps : (insn : Insn) → insn_at b i ≡ Some insn → Contains (targets_of insn) j → LeadsTo b i j
    jumps insn is c = inr (record { insn = insn; stands = is; target = c })

    of_jump : (insn : Insn) → insn_at b i ≡ Some insn → JumpsTo b i j → Contains (targets_of insn) j
    of_jump insn is t = subst (λ (x : Insn). Contains (targets_of x) j) (same_Some t.insn insn (sym t.stands ∙ is)) t.target

    with : (insn : Insn) (falls : Bool) → insn_at b i ≡ Some insn → falls_through insn ≡ falls
        → (let places = if falls then (i + 1) ∷ targets_of insn else targets_of insn in (Contains places j → LeadsTo b i j) × (LeadsTo b i j → Contains places j))
    with insn true is f = (
      λ c. ⊎_elim (λ e. inl (record { insn = insn; stands = is; falls = (falls_decided insn).to f }, sym e)) (λ m. jumps insn is m) (which_in (i + 1) (targets_of insn) j c),
      λ l. ⊎_elim (λ g. subst (Contains ((i + 1) ∷ targets_of insn)) (sym g.1) (first_in (i + 1) (targets_of insn))) (λ t. later_in (i + 1) (targets_of insn) j (of_jump insn is t)) l,
    )
    with insn false is f = (
      λ c. jumps insn is c,
      λ l. ⊎_elim (λ g. absurd (fails_where (falls_decided insn) f (subst FallsThrough (same_Some g.0.insn insn (sym g.0.stands ∙ is)) g.0.falls))) (λ t. of_jump insn is t) l,
    )

    by : (o : Option Insn) → insn_at b i ≡ o → (Contains (branches o i) j → LeadsTo b i j) × (LeadsTo b i j → Contains (branches o i) j)
    by None is = (λ c. let lt = c.1 in absurd (omega (arith, lt)), λ l. ⊎_elim (λ g. absurd (none-some _ (sym is ∙ g.0.stands))) (λ t. absurd (none-some _ (sym is ∙ t.stands))) l)
    by (Some insn) is = with insn (falls_through insn) is refl

entry_decided : (names : Names) (b : Body) (i : ℕ) → Decides (entry_clash names b i) (EntryClash names b i)
entry_decided names b i = both (equal_decided i 0) (neither (there_decided (Some (entry_of b)) (state_of names b 0)))

branch_decided : (names : Names) (b : Body) (i : ℕ) → Decides (branch_clash names b i) (BranchClash names b i)
branch_decided names b i = instead
    (any_decided (λ j. not (fits_there (after_at names b i) (state_of names b j))) (λ j. FitsThere (after_at names b i) (state_of names b j) → ⊥)
    (λ j. neither (there_decided (after_at names b i) (state_of names b j))) (branches (insn_at b i) i))
    (λ w. (w.0, (leads_decided b i w.0).0 w.1, w.2))
    (λ w. (w.0, (leads_decided b i w.0).1 w.1, w.2))

handler_decided : (names : Names) (b : Body) (i : ℕ) → Decides (handler_clash names b i) (HandlerClash names b i)
handler_decided names b i = instead
    (any_decided (λ h. guards h i && not (fits_there (at_handler b h (state_of names b i)) (state_of names b h.target)))
    (λ h. ((h.start ≤ i) × (i < h.end)) × (FitsThere (at_handler b h (state_of names b i)) (state_of names b h.target) → ⊥))
    (λ h. both (both (at_most_decided h.start i) (below_decided i h.end)) (neither (there_decided (at_handler b h (state_of names b i)) (state_of names b h.target))))
    b.handlers)
    (λ w. (w.0, record { row = w.1; start = w.2.0.0; end = w.2.0.1 }, w.2.1))
    (λ w. (w.0, w.1.row, ((w.1.start, w.1.end), w.2)))

pub clash_decided : (names : Names) (b : Body) (i : ℕ) → Decides (is_clash names b i) (EntryClash names b i ⊎ (NoAfter names b i ⊎ (BranchClash names b i ⊎ HandlerClash names b i)))
clash_decided names b i = either (entry_decided names b i) (either (none_decided (after_at names b i)) (either (branch_decided names b i) (handler_decided names b i)))

-- ---- the first place

-- what the search for the first place gives
abbrev pub Found : (ℕ → Bool) → ℕ → ℕ → Option ℕ → Type 0
Found test at end None = (i : ℕ) → at ≤ i → i < end → test i ≡ false
Found test at end (Some i) = (at ≤ i) × (i < end) × (test i ≡ true) × ((k : ℕ) → at ≤ k → k < i → test k ≡ false)

first_is : (test : ℕ → Bool) (at n : ℕ) → Found test at (at + n) (first_from test at n)
first_is test at zero = λ i le lt. absurd (omega (arith, le, lt))
first_is test at (suc n) = by (test at) refl (first_from test (at + 1) n) (first_is test (at + 1) n)
  where
    front : test at ≡ false → (k : ℕ) → at ≤ k → (at + 1 ≤ k → test k ≡ false) → test k ≡ false
    front off k le more = ⊎_elim (λ lt. more (omega (arith, lt))) (λ ge. let same : k ≡ at = omega (arith, le, ge) in ap test same ∙ off) (cases_lt at k)

    by : (b : Bool) → test at ≡ b → (o : Option ℕ) → Found test (at + 1) (at + 1 + n) o → Found test at (at + suc n) (if b then Some at else o)
    by true on o found = (omega arith, omega arith, on, λ k le lt. absurd (omega (arith, le, lt)))
    by false off None found = λ i le lt. front off i le (λ more. found i more (omega (arith, lt)))
    by false off (Some j) found =
        let a = found.0 in let z = found.1 in
        (omega (arith, a), omega (arith, z), found.2, λ k le lt. front off k le (λ more. found.3 k more lt))

first_below_is : (test : ℕ → Bool) (n : ℕ) → Found test 0 n (first_below test n)
first_below_is test n = subst (λ (end : ℕ). Found test 0 end (first_from test 0 n)) (let e : 0 + n ≡ n = omega arith in e) (first_is test 0 n)

-- ---- verdicts

pub least_missing : (b : Body) (i : ℕ) → Found (is_missing b) 0 (length b.code) (Some i) → FirstMissing b i
least_missing b i f =
    let m = (missing_decided b i).to f.2 in
    record {
      there = record { within = f.1; needs = m.0; none = m.1 };
      first = λ k lt m. fails_where (missing_decided b k) (f.3 k (omega arith) lt) (m.needs, m.none);
    }

pub none_missing : (b : Body) → Found (is_missing b) 0 (length b.code) None → IsNowhere (IsMissing b)
none_missing b f place m = fails_where (missing_decided b place) (f place (omega arith) m.within) (m.needs, m.none)

least_clash : (names : Names) (b : Body) (i : ℕ) → Found (is_clash names b) 0 (length b.code) (Some i) → IsLeast (IsClash names b) i
least_clash names b i f = record {
  there = record { within = f.1; cause = (clash_decided names b i).to f.2 };
  first = λ k lt m. fails_where (clash_decided names b k) (f.3 k (omega arith) lt) m.cause;
}

no_clash : (names : Names) (b : Body) → Found (is_clash names b) 0 (length b.code) None → IsNowhere (IsClash names b)
no_clash names b f place m = fails_where (clash_decided names b place) (f place (omega arith) m.within) m.cause

there_or : (s t : Option TypeState) → ((FitsThere s t → ⊥) → ⊥) → FitsThere s t
there_or s t h = by (fits_there s t) refl
  where
    by : (c : Bool) → fits_there s t ≡ c → FitsThere s t
    by true e = (there_decided s t).to e
    by false e = absurd (h (λ f. fails_where (there_decided s t) e f))

-- a body without missing frames and without clashes is checked
pub checked : (names : Names) (b : Body) → 1 ≤ length b.code → IsNowhere (IsMissing b) → IsNowhere (IsClash names b) → Checked names b
checked names b some missing clash = record {
  none_missing = missing;
  entry = there_or (Some (entry_of b)) (state_of names b 0) (λ unfit. clash 0 (record { within = some; cause = inl (refl, unfit) }));
  after = λ i lt. after i lt (after_at names b i) refl;
  branches = λ i j l. there_or (after_at names b i) (state_of names b j) (λ unfit. clash i (record { within = within i j l; cause = inr (inr (inl (j, l, unfit))) }));
  handlers = λ h i g lt. there_or (at_handler b h (state_of names b i)) (state_of names b h.target) (λ unfit. clash i (record { within = lt; cause = inr (inr (inr (h, g, unfit))) }));
}
  where
    after : (i : ℕ) → i < length b.code → (o : Option TypeState) → after_at names b i ≡ o → is_some (after_at names b i) ≡ true
    after i lt None e = absurd (clash i (record { within = lt; cause = inr (inl e) }))
    after i lt (Some s) e = ap is_some e

    within : (i j : ℕ) → LeadsTo b i j → i < length b.code
    within i j (inl g) = slice_get_within b.code i g.0.insn g.0.stands
    within i j (inr t) = slice_get_within b.code i t.insn t.stands

-- and a checked body has neither
pub no_clash_in : (names : Names) (b : Body) → Checked names b → IsNowhere (IsClash names b)
no_clash_in names b c place m = ⊎_elim
    (λ e. e.1 c.entry)
    (λ rest. ⊎_elim
    (λ none. absurd (true≢false (sym (c.after place m.within) ∙ ap is_some none)))
    (λ rest. ⊎_elim (λ w. w.2 (c.branches place w.0 w.1)) (λ w. w.2 (c.handlers w.0 place w.1 m.within)) rest)
    rest)
    m.cause

-- what a verdict says
abbrev Says : Names → Body → Verdict → Type 0
Says names b passes = 1 ≤ length b.code → Checked names b
Says names b (frame_missing i) = FirstMissing b i
Says names b (frame_clash i) = FirstClash names b i

pub verdict_says : (names : Names) (b : Body) → Says names b (verdict_of names b)
unfolding verdict_of
verdict_says names b = by (first_below (is_missing b) (length b.code)) (first_below (is_clash names b) (length b.code))
    (first_below_is (is_missing b) (length b.code)) (first_below_is (is_clash names b) (length b.code))
  where
    by : (o p : Option ℕ) → Found (is_missing b) 0 (length b.code) o → Found (is_clash names b) 0 (length b.code) p → Says names b (missing_or (clash_or_passes p) o)
    by (Some i) p f g = least_missing b i f
    by None (Some i) f g = (none_missing b f, least_clash names b i g)
    by None None f g = λ some. checked names b some (none_missing b f) (no_clash names b g)

pub passes_checked : (names : Names) (b : Body) → 1 ≤ length b.code → verdict_of names b ≡ passes → Checked names b
passes_checked names b some e = subst (Says names b) e (verdict_says names b) some

pub missing_first : (names : Names) (b : Body) (i : ℕ) → verdict_of names b ≡ frame_missing i → FirstMissing b i
missing_first names b i e = subst (Says names b) e (verdict_says names b)

pub clash_first : (names : Names) (b : Body) (i : ℕ) → verdict_of names b ≡ frame_clash i → FirstClash names b i
clash_first names b i e = subst (Says names b) e (verdict_says names b)

pub checked_not_missing : (names : Names) (b : Body) (i : ℕ) → Checked names b → FirstMissing b i → ⊥
checked_not_missing names b i c m = c.none_missing i m.there

pub checked_not_clash : (names : Names) (b : Body) (i : ℕ) → Checked names b → FirstClash names b i → ⊥
checked_not_clash names b i c m = no_clash_in names b c i m.1.there

pub missing_not_clash : (names : Names) (b : Body) (i j : ℕ) → FirstMissing b i → FirstClash names b j → ⊥
missing_not_clash names b i j m c = c.0 i m.there

pub one_missing : (b : Body) (i j : ℕ) → FirstMissing b i → FirstMissing b j → i ≡ j
one_missing b i j p q = least_one (IsMissing b) i j p q

pub one_clash : (names : Names) (b : Body) (i j : ℕ) → FirstClash names b i → FirstClash names b j → i ≡ j
one_clash names b i j p q = least_one (IsClash names b) i j p.1 q.1

-- one of the three
pub each_verdict : (names : Names) (b : Body) → 1 ≤ length b.code → Checked names b ⊎ (((i : ℕ) × FirstMissing b i) ⊎ ((i : ℕ) × FirstClash names b i))
each_verdict names b some = by (verdict_of names b) (verdict_says names b)
  where
    by : (v : Verdict) → Says names b v → Checked names b ⊎ (((i : ℕ) × FirstMissing b i) ⊎ ((i : ℕ) × FirstClash names b i))
    by passes s = inl (s some)
    by (frame_missing i) s = inr (inl (i, s))
    by (frame_clash i) s = inr (inr (i, s))
