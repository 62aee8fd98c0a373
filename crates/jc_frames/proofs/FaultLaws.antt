-- The answer of the search for a fault, by the outcome of the table.
use Rattle.std.proofs.Common.{◌≡◌, ℕ, List, Option, Some, None, Result, Ok, Err, IfOk, refl, sym, ◌∙◌, ap, subst}
use Rattle.jc_methods.specs.VerificationTypes.{TypeState, TypeStateAt}
use Rattle.jc_frames.specs.Frames.{Ground}
use Rattle.jc_frames.specs.Table.{StandsFor, TableFault, IsFaultPlace, Outcome, stands_for, at_fault, outcome_of, fault_of}
use Rattle.jc_frames.proofs.TableLaws.{same_outcome, table_good, table_bad, table_again, table_fails}

module _ {E : Type 0} {m g : Ground} (same : m ≡ g) (entry : TypeState) (table : List ℕ) where
  pub answers : (r : Result (Option ℕ) E) → IfOk r (λ fault. fault ≡ fault_of (outcome_of m entry table)) → IfOk r (IsFaultPlace g entry table)
  answers (Err e) is = is
  answers (Ok fault) is = by (outcome_of g entry table) refl (is ∙ ap fault_of (same_outcome same entry table))
    where
      by : (o : Outcome) → outcome_of g entry table ≡ o → fault ≡ fault_of o → IsFaultPlace g entry table fault
      by (stands_for frames) o e = subst (IsFaultPlace g entry table) (sym e) (frames, table_good g entry table frames o)
      by (at_fault place) o e = subst (IsFaultPlace g entry table) (sym e) (table_bad g entry table place o)

  pub answers_frames : (r : Result (Option ℕ) E) (frames : List TypeStateAt) → IfOk r (λ fault. fault ≡ fault_of (outcome_of m entry table)) → StandsFor g entry table frames
      → IfOk r (λ fault. fault ≡ None)
  answers_frames (Err e) frames is stands = is
  answers_frames (Ok fault) frames is stands = is ∙ ap fault_of (same_outcome same entry table ∙ table_again g entry table frames stands)

  pub answers_fault : (r : Result (Option ℕ) E) (place : ℕ) → IfOk r (λ fault. fault ≡ fault_of (outcome_of m entry table)) → TableFault g entry table place
      → IfOk r (λ fault. fault ≡ Some place)
  answers_fault (Err e) place is bad = is
  answers_fault (Ok fault) place is bad = is ∙ ap fault_of (same_outcome same entry table ∙ table_fails g entry table place bad)
