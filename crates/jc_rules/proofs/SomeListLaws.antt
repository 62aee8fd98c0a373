-- Methods have a list of lines.
use Rattle.std.proofs.Common.{◌≡◌, ◌⊎◌, inl, inr, ⊎_elim, ℕ, zero, suc, ◌+◌, ◌-◌, ◌<◌, ◌≤◌, min, max, Bool, true, false, cond, List, [], ◌∷◌, length, get_or, take, map, Option, Some, None, nat_eq, refl, sym, ◌∙◌, ap, subst, arith}
use Rattle.std.proofs.lemmas.Bool.{true≢false, eqb-true, eq-eqb}
use Rattle.std.proofs.lemmas.List.{take_all}
use Rattle.std.proofs.lemmas.Option.{slice_get_within, get_or_from_slice_get}
use Rattle.jc_bytes.specs.PlainLists.{numbers_from}
use Rattle.jc_bytes.proofs.BooleanLaws.{first_in, later_in, which_in, none_in}
use Rattle.jc_plan.proofs.PlacesLaws.{length_mapped, mapped_at}
use Rattle.jc_cover.specs.Counters.{Method}
use Rattle.jc_rules.specs.declared.span.Span.{Span}
use Rattle.jc_rules.specs.declared.status.LineState.{LineState}
use Rattle.jc_rules.specs.declared.status.LineState.TheVariants.{Empty}
use Rattle.jc_rules.specs.declared.status.LineStatus.{LineStatus}
use Rattle.jc_rules.specs.LineList.{IsLineList}
use Rattle.jc_rules.specs.Placed.{both, Says, methods_placed}
use Rattle.jc_rules.specs.Spans.{IsSpan, IsSpanOf, IsWidened, IsSaid, AreSaid}
use Rattle.jc_rules.specs.Status.{IsStatus}
use Rattle.jc_rules.proofs.StatusLaws.{status_told, has_said, said_of, both_cases, both_left, both_right}
use Rattle.jc_rules.proofs.SpanLaws.{span_more}
use Rattle.jc_rules.proofs.ListingLaws.{none_listed, listed}

-- ---- the status of a line

-- the status that the instructions of the line give it
status_at : List LineStatus → ℕ → LineState
status_at [] number = Empty
status_at (p ∷ placed) number = cond (nat_eq p.line number) (both p.status (status_at placed number)) (status_at placed number)

module _ (p : LineStatus) (placed : List LineStatus) (number : ℕ) where
  said_first : (c : Bool) → p.line ≡ number → Says p.status c → IsSaid (p ∷ placed) number c
  said_first c at says = (p, first_in p placed, at, says)

  said_later : (c : Bool) → IsSaid placed number c → IsSaid (p ∷ placed) number c
  said_later c (q, there, at, says) = (q, later_in p placed q there, at, says)

  said_which : (c : Bool) → IsSaid (p ∷ placed) number c → ((p.line ≡ number) × Says p.status c) ⊎ IsSaid placed number c
  said_which c (q, there, at, says) =
      ⊎_elim
      (λ first. let first_is : p ≡ q = first in inl (ap (λ (r : LineStatus). r.line) first_is ∙ at, subst (λ (r : LineStatus). Says r.status c) (sym first_is) says))
      (λ later. inr (q, later, at, says)) (which_in p placed q there)

  put_here : (s : LineState) → p.line ≡ number → IsStatus (IsSaid placed number) s → IsStatus (IsSaid (p ∷ placed) number) (both p.status s)
  put_here s at is =
      status_told (IsSaid (p ∷ placed) number) (both p.status s)
      (λ c says. ⊎_elim (λ own. said_first c at own) (λ old. said_later c (has_said (IsSaid placed number) s c is old)) (both_cases p.status s c says))
      (λ c h. ⊎_elim (λ own. both_left p.status s c own.1) (λ old. both_right p.status s c (said_of (IsSaid placed number) s c is old)) (said_which c h))

  put_there : (s : LineState) → (p.line ≡ number → ⊥) → IsStatus (IsSaid placed number) s → IsStatus (IsSaid (p ∷ placed) number) s
  put_there s apart is =
      status_told (IsSaid (p ∷ placed) number) s (λ c says. said_later c (has_said (IsSaid placed number) s c is says))
      (λ c h. ⊎_elim (λ own. absurd (apart own.0)) (λ old. said_of (IsSaid placed number) s c is old) (said_which c h))

put_one : (p : LineStatus) (placed : List LineStatus) (number : ℕ) (t : Bool) (s : LineState) → nat_eq p.line number ≡ t → IsStatus (IsSaid placed number) s
    → IsStatus (IsSaid (p ∷ placed) number) (cond t (both p.status s) s)
put_one p placed number true s same is = put_here p placed number s (eqb-true p.line number same) is
put_one p placed number false s other is = put_there p placed number s (λ at. true≢false (sym (eq-eqb p.line number at) ∙ other)) is

status_is : (placed : List LineStatus) (number : ℕ) → IsStatus (IsSaid placed number) (status_at placed number)
unfolding status_at
status_is [] number = λ c h. none_in h.0 h.1
status_is (p ∷ placed) number = put_one p placed number (nat_eq p.line number) (status_at placed number) refl (status_is placed number)

-- ---- the span

widened : Option Span → ℕ → Span
widened None line = record { least = line; greatest = line }
widened (Some old) line = record { least = min old.least line; greatest = max old.greatest line }

is_widened : (old : Option Span) (line : ℕ) → IsWidened old line (widened old line)
unfolding widened
is_widened None line = (refl, refl)
is_widened (Some old) line = (refl, refl)

span_up_to : (placed : List LineStatus) (k : ℕ) → k ≤ length placed → (lines : Option Span) × IsSpanOf (take k placed) lines
span_up_to placed zero le = (None, refl)
span_up_to placed (suc k) le =
    let before = span_up_to placed k (omega (arith, le)) in
    let d : LineStatus = record { line = 0; status = Empty } in
    let line = (get_or placed k d).line in
    let new = widened before.0 line in
    let more = span_more placed k d before.0 new (omega (arith, le)) before.1 (is_widened before.0 line) in
    let next : k + 1 ≡ suc k = omega arith in
    (Some new, subst (λ (n : ℕ). IsSpan (take n placed) new) next more)

some_span : (placed : List LineStatus) → (lines : Option Span) × IsSpanOf placed lines
some_span placed =
    let whole = span_up_to placed (length placed) (omega arith) in
    (whole.0, subst (λ (l : List LineStatus). IsSpanOf l whole.0) (take_all (length placed) placed (omega arith)) whole.1)

-- ---- the list

module _ (placed : List LineStatus) (least n : ℕ) where
  entry : ℕ → LineStatus
  entry i = record { line = least + i; status = status_at placed (least + i) }

  entries : List LineStatus
  entries = map entry (numbers_from 0 n)

  entries_said : AreSaid placed least entries
  unfolding entries entry
  entries_said i s at =
      let lt : i < n = omega (arith, slice_get_within entries i s at, length_mapped entry 0 n) in
      let is : entry i ≡ s = sym (mapped_at entry n i s lt) ∙ get_or_from_slice_get entries i s s at in (
        sym (ap (λ (r : LineStatus). r.line) is),
        subst (λ (r : LineStatus). IsStatus (IsSaid placed r.line) r.status) is (status_is placed (least + i)),
      )

pub some_list : (methods : List Method) → (list : List LineStatus) × IsLineList methods list
unfolding entries entry
some_list methods = by (some_span placed).0 (some_span placed).1
  where
    placed : List LineStatus
    placed = methods_placed methods

    by : (lines : Option Span) → IsSpanOf placed lines → (list : List LineStatus) × IsLineList methods list
    by None none = ([], none_listed methods placed [] refl none refl)
    by (Some span) spans =
        let n = span.greatest + 1 - span.least in
        (entries placed span.least n, listed methods placed (entries placed span.least n) span refl spans (length_mapped (entry placed span.least n) 0 n) (entries_said placed span.least n))
