-- Methods of a class that are looked at, one after the other.
use Rattle.std.proofs.Common.{◌≡◌, ℕ, ◌+◌, ◌<◌, ◌≤◌, List, [], ◌∷◌, ◌++◌, length, Option, Some, None, slice_get, refl, sym, ◌∙◌, subst, arith}
use Rattle.std.specs.Option.{MatchOption}
use Rattle.std.proofs.lemmas.List.Elements.{All-nil}
use Rattle.std.proofs.lemmas.Option.{none-some}
use Rattle.jc_methods.specs.VerificationTypes.{Names, AreNumberedFrames, Grows}
use Rattle.jc_methods.specs.WellMade.{IsWellMade}
use Rattle.jc_methods.specs.declared.body.Body.{Body}
use Rattle.jc_bytes.specs.declared.fail.Fail.{Fail}
use Rattle.jc_bytes.specs.declared.refusal.Refusal.{Refusal}
use Rattle.jc_bytes.specs.declared.refusal.RefusalKind.TheVariants as kinds
use Rattle.jc_bytes.specs.Failing.{Said}
use Rattle.jc_class.specs.declared.class_file.ClassFile.{ClassFile}
use Rattle.jc_body.specs.BodyOf.{BodyOf, Bodiless, FaultOf}
use Rattle.jc_instrument.specs.Bodies.{AreBodiesBelow, IsReadable}
use Rattle.jc_instrument.specs.Causes.{InMethod}
use Rattle.jc_instrument.specs.Found.{AreFramesFine}
use Rattle.jc_instrument.specs.Looking.{AreLookedAt, HaveBodies, IsLooking, LooksAtBody, LooksOn}
use Rattle.jc_instrument.specs.Reasons.{IsFaulty}
use Rattle.jc_instrument.specs.Steps.{IsKept, IsReading}
use Rattle.jc_instrument.specs.declared.bodies.Reading.{Reading}
use Rattle.jc_instrument.specs.declared.looking.Looking.{Looking}
use Rattle.jc_instrument.specs.declared.looked.LookedBody.{LookedBody}
use Rattle.jc_instrument.proofs.ListedLaws.{grown_bodies, no_bodies, with_body, without_body}
use Rattle.jc_instrument.proofs.LookedBodiesLaws.{none_looked_at}
use Rattle.jc_instrument.proofs.LookingLaws.{body_on, looked_grown, missing_stays}
use Rattle.jc_instrument.proofs.ReadingLaws.{body_read, fault_kept, none_read}
use Rattle.jc_instrument.proofs.SmallBodiesLaws.{probes_below}

abbrev BadCode : ClassFile → Refusal → Type 0
BadCode c = InMethod kinds.BadCode (IsFaulty c kinds.BadCode)

numbered_of : (names : Names) (c : ClassFile) (n : ℕ) (bodies : List Body) → AreBodiesBelow names c n bodies
    → (i : ℕ) (x : Body) → slice_get bodies i ≡ Some x → AreNumberedFrames (length names) x.frames
numbered_of names c n bodies are i x at = (are.each i x at).is.parts.numbers

-- ---- what was read

-- the bodies that were read, where no code has a fault
read_so_far : (names : Names) (c : ClassFile) (n : ℕ) (s : Looking) → IsLooking names c n s → (bad : Option Refusal) → s.bad ≡ bad
    → (reading : Reading) × (reading.bad ≡ bad) × IsReading names c n reading
read_so_far names c n s so None is =
    let h = subst (λ (o : Option Refusal). MatchOption o (HaveBodies names c n s) (BadCode c)) is so.found in
    (record { bodies = h.bodies; bad = None }, refl, record { no_subroutine = so.no_subroutine; well_made = h.so.made; found = h.are })
read_so_far names c n s so (Some r) is = (
  record { bodies = []; bad = Some r },
  refl,
  record {
    no_subroutine = so.no_subroutine;
    well_made = All-nil IsWellMade;
    found = subst (λ (o : Option Refusal). MatchOption o (HaveBodies names c n s) (BadCode c)) is so.found;
  },
)

-- ---- the steps

module _ (old new : Names) (c : ClassFile) (n : ℕ) (grows : Grows old new) where
  have_grown : (s : Looking) → HaveBodies old c n s → HaveBodies new c n s
  have_grown s h = record {
    bodies = h.bodies;
    are = grown_bodies old new c n h.bodies grows h.are;
    so = looked_grown old new grows h.bodies (numbered_of old c n h.bodies h.are) s h.so;
  }

  -- the method has no code
  pub none_looked : (s : Looking) → IsLooking old c n s → Bodiless c n → IsLooking new c (n + 1) s
  none_looked s before none =
      let read = read_so_far old c n s before s.bad refl in
      record {
        no_subroutine = (none_read old new c n grows read.0 read.2 none).no_subroutine;
        found = found s.bad before.found;
      }
    where
      found : (bad : Option Refusal) → MatchOption bad (HaveBodies old c n s) (BadCode c) → MatchOption bad (HaveBodies new c (n + 1) s) (BadCode c)
      found None h =
          let now = have_grown s h in
          record { bodies = now.bodies; are = without_body new c n now.bodies now.are none; so = now.so }
      found (Some r) first = first

  -- it has a body
  module _ (b : Body) (body : BodyOf new c n b) (made : IsWellMade b) where
    no_subroutine : (s : Looking) → IsLooking old c n s → (number place : ℕ) → number < n + 1 → IsFaulty c kinds.Subroutine number place → ⊥
    no_subroutine s before =
        let read = read_so_far old c n s before s.bad refl in
        (body_read old new c n grows read.0.bodies (read.0.bodies ++ b ∷ []) read.0.bad b refl read.2 body made).no_subroutine

    with_one : (s t : Looking) → HaveBodies old c n s → ((bodies : List Body) → AreLookedAt new bodies s → AreLookedAt new (bodies ++ b ∷ []) t)
        → HaveBodies new c (n + 1) t
    with_one s t h on =
        let now = have_grown s h in
        record { bodies = now.bodies ++ b ∷ []; are = with_body new c n now.bodies now.are b body; so = on now.bodies now.so }

    pub body_looked : (s t : Looking) → s.bad ≡ None → t.bad ≡ s.bad → IsLooking old c n s → LooksAtBody new b s t → IsLooking new c (n + 1) t
    body_looked s t none same before on = record {
      no_subroutine = no_subroutine s before;
      found = subst (λ (o : Option Refusal). MatchOption o (HaveBodies new c (n + 1) t) (BadCode c)) (sym none ∙ sym same)
          (with_one s t (subst (λ (o : Option Refusal). MatchOption o (HaveBodies old c n s) (BadCode c)) none before.found)
          (λ bodies so. body_on new bodies b made s t so on));
    }

    -- behind a fault or a missing frame nothing more is asked
    pub body_passed_by : (s : Looking) → ((s.bad ≡ None) × (s.frames.missing ≡ None) → ⊥) → IsLooking old c n s → IsLooking new c (n + 1) s
    body_passed_by s some before = record { no_subroutine = no_subroutine s before; found = found s.bad refl before.found }
      where
        missing : (o : Option Refusal) → s.frames.missing ≡ o → s.bad ≡ None → (r : Refusal) × (s.frames.missing ≡ Some r)
        missing None is none = absurd (some (none, is))
        missing (Some r) is none = (r, is)

        found : (bad : Option Refusal) → s.bad ≡ bad → MatchOption bad (HaveBodies old c n s) (BadCode c) → MatchOption bad (HaveBodies new c (n + 1) s) (BadCode c)
        found None none h =
            let m = missing s.frames.missing refl none in
            with_one s s h (λ bodies so. missing_stays new bodies b made s s so m.0 m.1)
        found (Some r) is first = first

-- its code has a fault that is no subroutine instruction
pub fault_looked : (old new : Names) (c : ClassFile) (n : ℕ) (s : Looking) (kept : Option Refusal) (e : Fail Refusal) → Said e (FaultOf c n)
    → IsKept s.bad kinds.Subroutine e kept → IsLooking old c n s → IsLooking new c (n + 1) (record s { bad = kept })
fault_looked old new c n s kept e said k before =
    let read = read_so_far old c n s before s.bad refl in
    let now = fault_kept old new c n read.0 kept e said (subst (λ (o : Option Refusal). IsKept o kinds.Subroutine e kept) (sym read.1) k) read.2 in
    record {
      no_subroutine = now.no_subroutine;
      found = subst (λ (o : Option Refusal). MatchOption o (HaveBodies new c (n + 1) (record s { bad = kept })) (BadCode c)) (sym k.new_is)
          (subst (λ (o : Option Refusal). MatchOption o (AreBodiesBelow new c (n + 1) read.0.bodies) (BadCode c)) k.new_is now.found);
    }

-- ---- probes so far

-- where nothing is refused, the probes so far are those of the bodies so far
pub probes_so_far : (names : Names) (c : ClassFile) (n : ℕ) (s : Looking) → IsReadable c → IsLooking names c n s → s.bad ≡ None → AreFramesFine s.frames
    → s.probes ≤ 134217728
probes_so_far names c n s from so none fine =
    let h = subst (λ (o : Option Refusal). MatchOption o (HaveBodies names c n s) (BadCode c)) none so.found in
    let count = (h.so.room fine).probes in
    let few = probes_below names c n h.bodies from h.are in
    omega (arith, count, few)

-- ---- places that are left

-- how many places are left changes nothing else
pub other_left : (names : Names) (b : Body) (old new : Looking) (left : ℕ) → LooksOn names b (record old { left = left }) new → LooksOn names b old new
other_left names b old new left on = record {
  straddling = on.straddling;
  locals = on.locals;
  stack = on.stack;
  probes = on.probes;
  looked = on.looked;
}

-- ---- the beginning

-- before the first method
abbrev begun : (left : ℕ) → List LookedBody → Looking
begun left looked = record {
  bad = None;
  frames = record { missing = None; clash = None };
  room = record { straddling = None; locals = None; stack = None };
  bodies = looked;
  probes = 0;
  left = left;
}

no_body : {X : Type 0} (i : ℕ) (x : X) → slice_get [] i ≡ Some x → ⊥
no_body i x at = none-some x at

nothing_looked_at : (names : Names) (left : ℕ) → AreLookedAt names [] (begun left [])
nothing_looked_at names left = record {
  made = All-nil IsWellMade;
  frames = λ i b at. absurd (no_body i b at);
  room = λ fine. record {
    lacks = record {
      straddling = λ i place b at lacks. no_body i b at;
      locals = λ i place b at lacks. no_body i b at;
      stack = λ i place b at lacks. no_body i b at;
    };
    probes = refl;
    looked = λ has few. none_looked_at names;
  };
}

pub nothing_looked : (names : Names) (c : ClassFile) (left : ℕ) (looked : List LookedBody) → looked ≡ [] → IsLooking names c 0 (begun left looked)
nothing_looked names c left looked none = subst (λ (l : List LookedBody). IsLooking names c 0 (begun left l)) (sym none) (record {
  no_subroutine = λ before place less. absurd (omega (arith, less));
  found = record { bodies = []; are = no_bodies names c [] refl; so = nothing_looked_at names left };
})
