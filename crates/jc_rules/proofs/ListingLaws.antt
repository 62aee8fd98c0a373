-- The lines from the least to the greatest, with their statuses.
use Rattle.std.proofs.Common.{◌≡◌, ℕ, suc, ◌+◌, ◌-◌, ◌≤◌, List, [], ◌∷◌, ◌++◌, length, take, drop, map, Some, refl, sym, ◌∙◌, ap, ap₂, subst, arith}
use Rattle.std.specs.Prelude.{Contains, slice_get}
use Rattle.std.proofs.lemmas.List.{take_all, drop_all, append-nil}
use Rattle.jc_bytes.specs.PlainLists.{numbers_from}
use Rattle.jc_bytes.proofs.BooleanLaws.{none_in}
use Rattle.jc_bytes.proofs.ListLaws.{stands_at}
use Rattle.jc_plan.proofs.PlacesLaws.{length_mapped}
use Rattle.jc_cover.specs.Counters.{Method}
use Rattle.jc_rules.specs.declared.span.Span.{Span}
use Rattle.jc_rules.specs.declared.status.LineStatus.{LineStatus}
use Rattle.jc_rules.specs.LineList.{IsUsed, IsLineList, IsRange, HaveStatuses, lines_of, no_lines, some_lines}
use Rattle.jc_rules.specs.Placed.{methods_placed}
use Rattle.jc_rules.specs.Spans.{Has, IsSpan, IsSaid, AreSaid, AreWithin, blank}
use Rattle.jc_rules.specs.Status.{HasItem, IsStatus}
use Rattle.jc_rules.proofs.PlacedLaws.{has_used, used_has, said_is, is_said}
use Rattle.jc_rules.proofs.StatusLaws.{status_told, has_said, said_of}

-- each line is one behind the line before it
numbered : (list : List LineStatus) (least : ℕ) → ((i : ℕ) (s : LineStatus) → slice_get list i ≡ Some s → s.line ≡ least + i) → lines_of list ≡ numbers_from least (length list)
numbered [] least each = refl
numbered (s ∷ list) least each =
    let first : s.line ≡ least = each 0 s refl ∙ omega arith in
    ap₂ (λ (n : ℕ) (ns : List ℕ). n ∷ ns) first (numbered list (least + 1) (λ i t at. let e = each (suc i) t at in omega (arith, e)))

-- ---- the list on the way

module _ (least n : ℕ) (items now : List LineStatus) (is : items ≡ map (blank least) (numbers_from 0 n)) (same : now ≡ items) where
  pub blank_sized : length now ≡ n
  blank_sized = ap length (same ∙ is) ∙ length_mapped (blank least) 0 n

  pub blank_again : now ≡ map (blank least) (numbers_from 0 (length now))
  blank_again = same ∙ is ∙ ap (λ k. map (blank least) (numbers_from 0 k)) (sym blank_sized)

pub all_within : (placed : List LineStatus) (span : Span) (n : ℕ) → n ≡ span.greatest + 1 - span.least → IsSpan placed span → AreWithin placed span.least n
all_within placed span n size s number h =
    let below = s.not_below number h in
    let above = s.not_above number h in
    (below, omega (arith, below, above, size))

-- a whole list that is written over another
pub all_written : (new old : List LineStatus) (n : ℕ) → length new ≡ length old → n ≡ length old → take n (new ++ drop (length new) old) ≡ new
all_written new old n size all =
    let none : drop (length new) old ≡ [] = drop_all (length new) old (omega (arith, size)) in
    let le : length new ≤ n = omega (arith, size, all) in
    ap (λ (l : List LineStatus). take n (new ++ l)) none ∙ ap (take n) (append-nil new) ∙ take_all n new le

-- ---- the whole list

module _ (methods : List Method) where
  pub none_listed : (placed list : List LineStatus) → placed ≡ methods_placed methods → placed ≡ [] → list ≡ [] → IsLineList methods list
  none_listed placed list is none empty =
      no_lines (λ number used. let h = used_has methods number used in none_in h.0 (subst (λ (l : List LineStatus). Contains l h.0) (sym is ∙ none) h.1)) empty

  pub listed : (placed list : List LineStatus) (span : Span) → placed ≡ methods_placed methods → IsSpan placed span
      → length list ≡ span.greatest + 1 - span.least → AreSaid placed span.least list → IsLineList methods list
  listed placed list span is spans size said = some_lines range statuses
    where
      to_used : (number : ℕ) → Has placed number → IsUsed methods number
      to_used number h = has_used methods number (subst (λ (l : List LineStatus). Has l number) is h)

      of_used : (number : ℕ) → IsUsed methods number → Has placed number
      of_used number used = subst (λ (l : List LineStatus). Has l number) (sym is) (used_has methods number used)

      range : IsRange methods (lines_of list)
      range = record {
        least = span.least;
        greatest = span.greatest;
        is_least =
            record {
              there = to_used span.least spans.least;
              first = λ before lt used. let le = spans.not_below before (of_used before used) in omega (arith, lt, le);
            };
        is_greatest = record { there = to_used span.greatest spans.greatest; last = λ other used. spans.not_above other (of_used other used) };
        numbers = numbered list span.least (λ i s at. (said i s at).0) ∙ ap (numbers_from span.least) size;
      }

      statuses : HaveStatuses methods list
      statuses s there =
          let at = stands_at list s there in
          let status = (said at.0 s at.1).1 in
          let of_whole = subst (λ (l : List LineStatus). IsStatus (IsSaid l s.line) s.status) is status in
          let Said = IsSaid (methods_placed methods) s.line in
          status_told (HasItem methods s.line) s.status (λ c says. said_is methods s.line c (has_said Said s.status c of_whole says))
          (λ c h. said_of Said s.status c of_whole (is_said methods s.line c h))
