-- The least and the greatest line, one instruction more at a time.
use Rattle.std.proofs.Common.{◌≡◌, ◌⊎◌, inl, inr, ⊎_elim, ℕ, ◌+◌, ◌<◌, List, [], ◌∷◌, ◌++◌, length, get_or, take, Option, Some, None, sym, ◌∙◌, ap, subst, arith}
use Rattle.std.specs.Prelude.{Contains}
use Rattle.std.proofs.lemmas.Bool.{cases_lt}
use Rattle.std.proofs.lemmas.List.{take_more}
use Rattle.std.proofs.lemmas.List.Elements.{Contains-append_left, Contains-push, Contains-push_cases}
use Rattle.jc_bytes.proofs.BooleanLaws.{none_in}
use Rattle.jc_rules.specs.declared.span.Span.{Span}
use Rattle.jc_rules.specs.declared.status.LineStatus.{LineStatus}
use Rattle.jc_rules.specs.Spans.{Has, IsSpan, IsSpanOf, IsWidened}

module _ (front : List LineStatus) (p : LineStatus) where
  abbrev more : List LineStatus
  more = front ++ p ∷ []

  has_before : (number : ℕ) → Has front number → Has more number
  has_before number (q, there, at) = (q, Contains-append_left front (p ∷ []) q there, at)

  has_last : (number : ℕ) → p.line ≡ number → Has more number
  has_last number at = (p, Contains-push front p, at)

  has_cases : (number : ℕ) → Has more number → Has front number ⊎ (p.line ≡ number)
  has_cases number (q, there, at) = ⊎_elim (λ before. inl (q, before, at)) (λ last. inr (ap (λ (r : LineStatus). r.line) last ∙ at)) (Contains-push_cases front p q there)

  span_begun : (new : Span) → front ≡ [] → IsWidened None p.line new → IsSpan more new
  span_begun new none w =
      let least = w.0 in
      let greatest = w.1 in
      record {
        least = has_last new.least (sym least);
        greatest = has_last new.greatest (sym greatest);
        not_below = λ number h. ⊎_elim (λ before. absurd (nothing number before)) (λ last. omega (arith, least, last)) (has_cases number h);
        not_above = λ number h. ⊎_elim (λ before. absurd (nothing number before)) (λ last. omega (arith, greatest, last)) (has_cases number h);
      }
    where
      nothing : (number : ℕ) → Has front number → ⊥
      nothing number (q, there, at) = none_in q (subst (λ (l : List LineStatus). Contains l q) none there)

  span_wider : (old new : Span) → IsSpan front old → IsWidened (Some old) p.line new → IsSpan more new
  span_wider old new s w =
      let least = w.0 in
      let greatest = w.1 in
      record {
        least = ⊎_elim
            (λ less. let e : new.least ≡ old.least = omega (arith, least, less) in subst (Has more) (sym e) (has_before old.least s.least))
            (λ le. let e : p.line ≡ new.least = omega (arith, least, le) in has_last new.least e) (cases_lt old.least p.line);
        greatest = ⊎_elim
            (λ less. let e : p.line ≡ new.greatest = omega (arith, greatest, less) in has_last new.greatest e)
            (λ le. let e : new.greatest ≡ old.greatest = omega (arith, greatest, le) in subst (Has more) (sym e) (has_before old.greatest s.greatest))
            (cases_lt old.greatest p.line);
        not_below = λ number h.
            ⊎_elim (λ before. let le = s.not_below number before in omega (arith, least, le)) (λ last. omega (arith, least, last)) (has_cases number h);
        not_above = λ number h.
            ⊎_elim (λ before. let le = s.not_above number before in omega (arith, greatest, le)) (λ last. omega (arith, greatest, last)) (has_cases number h);
      }

  span_put : (old : Option Span) (new : Span) → IsSpanOf front old → IsWidened old p.line new → IsSpan more new
  span_put None new s w = span_begun new s w
  span_put (Some old) new s w = span_wider old new s w

-- one more of so many
pub span_more : (placed : List LineStatus) (k : ℕ) (d : LineStatus) (old : Option Span) (new : Span) → k < length placed
    → IsSpanOf (take k placed) old → IsWidened old (get_or placed k d).line new → IsSpanOf (take (k + 1) placed) (Some new)
span_more placed k d old new lt s w = subst (λ (l : List LineStatus). IsSpan l new) (sym (take_more placed k d lt)) (span_put (take k placed) (get_or placed k d) old new s w)
