-- Reading the methods of a class, one after the other.
use Rattle.std.proofs.Common.{◌≡◌, ◌≢◌, ◌⊎◌, inl, inr, ℕ, ◌+◌, ◌<◌, List, [], ◌∷◌, ◌++◌, length, Option, Some, None, sym, ap, subst}
use Rattle.std.specs.Prelude.{unwrap_or}
use Rattle.std.specs.Option.{MatchOption}
use Rattle.std.proofs.lemmas.List.Elements.{All-push}
use Rattle.std.proofs.lemmas.Option.{slice_get_within}
use Rattle.jc_methods.specs.VerificationTypes.{Names, Grows}
use Rattle.jc_methods.specs.WellMade.{IsWellMade}
use Rattle.jc_methods.specs.declared.body.Body.{Body}
use Rattle.jc_bytes.specs.declared.fail.Fail.{Fail}
use Rattle.jc_bytes.specs.declared.refusal.Refusal.{Refusal}
use Rattle.jc_bytes.specs.declared.refusal.RefusalKind.{RefusalKind}
use Rattle.jc_bytes.specs.declared.refusal.RefusalKind.TheVariants as kinds
use Rattle.jc_bytes.proofs.ListLaws.{below_or_last}
use Rattle.jc_class.specs.declared.class_file.ClassFile.{ClassFile}
use Rattle.jc_body.specs.BodyOf.{BodyOf, Bodiless, FaultOf}
use Rattle.jc_bytes.specs.Failing.{Said}
use Rattle.jc_body.proofs.AnswerLaws.{Why, subroutine, fault, why, bodiless_or_fault, body_or_fault, one_fault}
use Rattle.jc_instrument.specs.Bodies.{IsListed, AreBodiesBelow, AreBodies}
use Rattle.jc_instrument.specs.Causes.{IsFirstCause, of_method, InMethod}
use Rattle.jc_instrument.specs.Reasons.{IsFaulty, method_causes}
use Rattle.jc_instrument.specs.Steps.{IsKept, IsReading}
use Rattle.jc_instrument.specs.declared.bodies.Reading.{Reading}
use Rattle.jc_instrument.proofs.CauseLaws.{never_in_method}
use Rattle.jc_instrument.proofs.ListedLaws.{without_body, with_body, grown_bodies}

-- ---- a fault of a method

-- it is a subroutine instruction or another fault of the code
pub fault_cases : (c : ClassFile) (number : ℕ) (r : Refusal) → FaultOf c number r
    → ((r ≡ of_method kinds.Subroutine number r.place) × IsFaulty c kinds.Subroutine number r.place)
    ⊎ ((r ≡ of_method kinds.BadCode number r.place) × IsFaulty c kinds.BadCode number r.place)
fault_cases c number r f = by (why c.major c.pool f.owner f.method r.kind r.place f.reason)
  where
    is : (kind : RefusalKind) → r.kind ≡ kind → r ≡ of_method kind number r.place
    is kind same = λ i. record { kind = same i; method = f.method_is i; place = r.place }

    by : Why c.major c.pool f.owner f.method r.kind r.place → ((r ≡ of_method kinds.Subroutine number r.place) × IsFaulty c kinds.Subroutine number r.place)
        ⊎ ((r ≡ of_method kinds.BadCode number r.place) × IsFaulty c kinds.BadCode number r.place)
    by (subroutine same at) = inl (is kinds.Subroutine same, subst (FaultOf c number) (is kinds.Subroutine same) f)
    by (fault same none at) = inr (is kinds.BadCode same, subst (FaultOf c number) (is kinds.BadCode same) f)

-- a method has one fault
pub not_both : (c : ClassFile) (number : ℕ) (kind : RefusalKind) (r : Refusal) (place : ℕ) → r.kind ≢ kind → FaultOf c number r → IsFaulty c kind number place → ⊥
not_both c number kind r place other f faulty = other (ap (λ (s : Refusal). s.kind) (one_fault c number r (of_method kind number place) f faulty))

-- methods that have bodies or no code have no fault
pub none_below : (names : Names) (c : ClassFile) (n : ℕ) (bodies : List Body) → AreBodiesBelow names c n bodies
    → (kind : RefusalKind) (number place : ℕ) → number < n → IsFaulty c kind number place → ⊥
none_below names c n bodies are kind number place less faulty = by (are.all number less)
  where
    by : Bodiless c number ⊎ IsListed bodies number → ⊥
    by (inl none) = bodiless_or_fault c number (of_method kind number place) none faulty
    by (inr l) = body_or_fault names c number l.body (of_method kind number place) (subst (λ (m : ℕ). BodyOf names c m l.body) l.number_is (are.each l.index l.body l.stands)) faulty

-- ---- the steps

module _ (old new : Names) (c : ClassFile) (n : ℕ) (grows : Grows old new) where
  -- the method has no code
  pub none_read : (reading : Reading) → IsReading old c n reading → Bodiless c n → IsReading new c (n + 1) reading
  none_read reading before none = record {
    no_subroutine = λ number place less f. by number place f (below_or_last n number less);
    well_made = before.well_made;
    found = found reading.bad before.found;
  }
    where
      by : (number place : ℕ) → IsFaulty c kinds.Subroutine number place → (number < n) ⊎ (number ≡ n) → ⊥
      by number place f (inl less) = before.no_subroutine number place less f
      by number place f (inr last) = bodiless_or_fault c number (of_method kinds.Subroutine number place) (subst (Bodiless c) (sym last) none) f

      found : (bad : Option Refusal) → MatchOption bad (AreBodiesBelow old c n reading.bodies) (InMethod kinds.BadCode (IsFaulty c kinds.BadCode))
          → MatchOption bad (AreBodiesBelow new c (n + 1) reading.bodies) (InMethod kinds.BadCode (IsFaulty c kinds.BadCode))
      found None are = without_body new c n reading.bodies (grown_bodies old new c n reading.bodies grows are) none
      found (Some r) first = first

  -- it has a body
  pub body_read : (bodies more : List Body) (bad : Option Refusal) (b : Body) → more ≡ bodies ++ b ∷ [] → IsReading old c n (record { bodies = bodies; bad = bad }) → BodyOf new c n b → IsWellMade b
      → IsReading new c (n + 1) (record { bodies = more; bad = bad })
  body_read bodies more bad b put before body made = subst (λ (l : List Body). IsReading new c (n + 1) (record { bodies = l; bad = bad })) (sym put) (record {
    no_subroutine = λ number place less f. by number place f (below_or_last n number less);
    well_made = All-push IsWellMade bodies b before.well_made made;
    found = found bad before.found;
  })
    where
      by : (number place : ℕ) → IsFaulty c kinds.Subroutine number place → (number < n) ⊎ (number ≡ n) → ⊥
      by number place f (inl less) = before.no_subroutine number place less f
      by number place f (inr last) = body_or_fault new c number b (of_method kinds.Subroutine number place) (subst (λ (m : ℕ). BodyOf new c m b) (sym last) body) f

      found : (bad : Option Refusal) → MatchOption bad (AreBodiesBelow old c n bodies) (InMethod kinds.BadCode (IsFaulty c kinds.BadCode))
          → MatchOption bad (AreBodiesBelow new c (n + 1) (bodies ++ b ∷ [])) (InMethod kinds.BadCode (IsFaulty c kinds.BadCode))
      found None are = with_body new c n bodies (grown_bodies old new c n bodies grows are) b body
      found (Some r) first = first

-- its code has a fault that is no subroutine instruction; the first such refusal is kept
pub fault_read : (old new : Names) (c : ClassFile) (n : ℕ) (bodies : List Body) (bad kept : Option Refusal) (r : Refusal)
    → kept ≡ Some (unwrap_or bad r) → IsReading old c n (record { bodies = bodies; bad = bad })
    → FaultOf c n r → r.kind ≢ kinds.Subroutine → IsReading new c (n + 1) (record { bodies = bodies; bad = kept })
fault_read old new c n bodies bad kept r kept_is before f other = subst (λ (o : Option Refusal). IsReading new c (n + 1) (record { bodies = bodies; bad = o })) (sym kept_is) (record {
  no_subroutine = λ number place less faulty. by number place faulty (below_or_last n number less);
  well_made = before.well_made;
  found = found bad before.found;
})
  where
    by : (number place : ℕ) → IsFaulty c kinds.Subroutine number place → (number < n) ⊎ (number ≡ n) → ⊥
    by number place faulty (inl less) = before.no_subroutine number place less faulty
    by number place faulty (inr last) = not_both c number kinds.Subroutine r place other (subst (λ (m : ℕ). FaultOf c m r) (sym last) f) faulty

    bad_code : ((r ≡ of_method kinds.Subroutine n r.place) × IsFaulty c kinds.Subroutine n r.place) ⊎ ((r ≡ of_method kinds.BadCode n r.place) × IsFaulty c kinds.BadCode n r.place)
        → (r ≡ of_method kinds.BadCode n r.place) × IsFaulty c kinds.BadCode n r.place
    bad_code (inl is) = absurd (other (ap (λ (s : Refusal). s.kind) is.0))
    bad_code (inr is) = is

    found : (bad : Option Refusal) → MatchOption bad (AreBodiesBelow old c n bodies) (InMethod kinds.BadCode (IsFaulty c kinds.BadCode))
        → InMethod kinds.BadCode (IsFaulty c kinds.BadCode) (unwrap_or bad r)
    found None are = let is = bad_code (fault_cases c n r f) in record {
      number = n;
      place = r.place;
      refusal = is.0;
      holds = is.1;
      none_before = λ number at less faulty. none_below old c n bodies are kinds.BadCode number at less faulty;
    }
    found (Some s) first = first

pub fault_kept : (old new : Names) (c : ClassFile) (n : ℕ) (reading : Reading) (kept : Option Refusal) (e : Fail Refusal) → Said e (FaultOf c n) → IsKept reading.bad kinds.Subroutine e kept
    → IsReading old c n reading → IsReading new c (n + 1) (record reading { bad = kept })
fault_kept old new c n reading kept e said k before =
    fault_read old new c n reading.bodies reading.bad kept k.refusal k.new_is before (subst (λ (f : Fail Refusal). Said f (FaultOf c n)) k.fail_is said) k.other

-- ---- the end

pub bad_code_refused : (names : Names) (c : ClassFile) (reading : Reading) (r : Refusal) → reading.bad ≡ Some r → IsReading names c (length c.methods) reading → IsFirstCause (method_causes c) r
bad_code_refused names c reading r bad all = inr (
  never_in_method kinds.Subroutine (IsFaulty c kinds.Subroutine) (λ number place f. all.no_subroutine number place (slice_get_within c.methods number f.method f.at) f),
  inl (subst (λ (o : Option Refusal). MatchOption o (AreBodies names c reading.bodies) (InMethod kinds.BadCode (IsFaulty c kinds.BadCode))) bad all.found),
)
