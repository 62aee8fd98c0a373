-- The first instruction of a method that isn't suited, from what the walk and the handlers say.
use Rattle.std.proofs.Common.{◌≡◌, ⊎_elim, ℕ, ◌≤◌, Bool, true, List, length, get_or, nat_eq, Some, refl, sym, ◌∙◌, ap, subst, arith}
use Rattle.std.specs.List.{Contains, All, slice_get}
use Rattle.std.proofs.lemmas.Bool.{cases_lt, eqb-true}
use Rattle.std.proofs.lemmas.Option.{slice_get-get_or}
use Rattle.jc_methods.specs.declared.kind.State.{State}
use Rattle.jc_methods.specs.declared.body.Body.{Body}
use Rattle.jc_methods.specs.declared.body.Handler.{Handler}
use Rattle.jc_methods.specs.VerificationTypes.{Names, IsNumberedState}
use Rattle.jc_programs.specs.declared.program.Program.{Program}
use Rattle.jc_programs.specs.declared.run_end.Entry.{Entry}
use Rattle.jc_kinds.specs.StateSequence.{IsKeptAt}
use Rattle.jc_refs_check.specs.RefsOk.{IsSuited, HandlersSuit}
use Rattle.jc_refs_check.specs.SuitedWalk.{IsSuitedFlow, IsFirstFailing, IsSuitedWalk}

-- each class in states that are kept has one of the names
pub states_numbered : (old new : Names) (b : Body) (states : List State) → ((i : ℕ) (s : State) → slice_get states i ≡ Some s → IsKeptAt old new b i s)
    → All (IsNumberedState (length new)) states
states_numbered old new b states each = λ k d lt. (each k (get_or states k d) (slice_get-get_or states k d lt)).numbered

pub no_rows : (rows listed : List Handler) (empty : Bool) → listed ≡ rows → empty ≡ nat_eq (length listed) 0 → empty ≡ true → (h : Handler) → Contains rows h → ⊥
no_rows rows listed empty same says is h there =
    let none : length listed ≡ 0 = eqb-true (length listed) 0 (sym says ∙ is) in
    let long : length listed ≡ length rows = ap (λ (l : List Handler). length l) same in
    let lt = there.1 in
    omega (arith, none, long, lt)

module _ (program : Program) (method : Entry) (b : Body) where
  flow_of : (i : ℕ) → IsSuited program method b i → IsSuitedFlow program method b i
  flow_of i s = record { operands = s.operands; branches = s.branches; entry = s.entry }

  suited_of : (i : ℕ) → IsSuitedFlow program method b i → HandlersSuit program.names b i → IsSuited program method b i
  suited_of i f h = record { operands = f.operands; branches = f.branches; handlers = h; entry = f.entry }

  pub first_both : (names : Names) (count first : ℕ) (states : List State) → IsSuitedWalk program method b names true count states
      → IsFirstFailing (HandlersSuit program.names b) (length states) first → IsFirstFailing (IsSuited program method b) (length b.code) first
  first_both names count first states walk handlers =
      let same : length states ≡ count = walk.kept refl in let low = handlers.within in let most = walk.first.within in record {
        within = omega (arith, same, low, most);
        holds = λ i lt. suited_of i (walk.first.holds i (omega (arith, lt, same, low))) (handlers.holds i lt);
        fails = λ less suited. ⊎_elim
            (λ inside. handlers.fails inside suited.handlers)
            (λ past.
            let last : first ≡ count = omega (arith, past, same, low) in
            walk.first.fails (omega (arith, last, less)) (flow_of count (subst (IsSuited program method b) last suited)))
            (cases_lt first (length states));
      }

  -- there are no more states than instructions
  pub few_kept : (names : Names) (count : ℕ) (states kept : List State) → IsSuitedWalk program method b names true count states → kept ≡ states → length kept ≤ length b.code
  few_kept names count states kept walk is =
      let same : length states ≡ count = walk.kept refl in let most = walk.first.within in let long : length kept ≡ length states = ap (λ (l : List State). length l) is in
      omega (arith, same, most, long)

  -- no row guards anything
  pub first_alone : (names : Names) (keeps : Bool) (count : ℕ) (states : List State) → ((h : Handler) → Contains b.handlers h → ⊥) → IsSuitedWalk program method b names keeps count states
      → IsFirstFailing (IsSuited program method b) (length b.code) count
  first_alone names keeps count states none walk = record {
    within = walk.first.within;
    holds = λ i lt. suited_of i (walk.first.holds i lt) (λ h guards. absurd (none h guards.row));
    fails = λ less suited. walk.first.fails less (flow_of count suited);
  }
