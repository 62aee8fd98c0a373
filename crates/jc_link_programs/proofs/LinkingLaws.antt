-- Linked classes under more names, and one class more.
use Rattle.std.proofs.Common.{◌≡◌, ℕ, zero, suc, ◌+◌, ◌<◌, ◌≤◌, inr, List, [], ◌∷◌, ◌++◌, length, take, get_or, Some, None, refl, sym, ◌∙◌, ap, subst, arith}
use Rattle.std.specs.Prelude.{All, slice_get}
use Rattle.std.proofs.lemmas.List.{take_more}
use Rattle.std.proofs.lemmas.Option.{slice_get_within, get_or_from_slice_get}
use Rattle.jc_bytes.specs.declared.refusal.Refusal.{Refusal}
use Rattle.jc_methods.specs.VerificationTypes.{Names, Grows}
use Rattle.jc_methods.specs.WellMade.{IsWellMade}
use Rattle.jc_methods.specs.declared.body.Body.{Body}
use Rattle.jc_methods.proofs.NumberedLaws.{grown_count, frames_numbered}
use Rattle.jc_programs.specs.declared.program.Linked.{Linked}
use Rattle.jc_pool.specs.Lookup.{class_name_of}
use Rattle.jc_class.specs.Writable.{IsClassFile}
use Rattle.jc_class.specs.declared.class_file.ClassFile.{ClassFile}
use Rattle.jc_instrument.specs.Causes.{IsFirstCause, NoCause}
use Rattle.jc_instrument.specs.Reasons.{IsOutside, code_causes}
use Rattle.jc_instrument.specs.Steps.{AreCheckedUnder, HasStates}
use Rattle.jc_instrument.proofs.KeptStatesLaws.{states_grown}
use Rattle.jc_instrument.proofs.ListedLaws.{few_bodies, grown_bodies}
use Rattle.jc_instrument.proofs.WholeLaws.{bodies_numbered, no_code_cause}
use Rattle.jc_instrument.proofs.PlannedLaws.{check_grown}
use Rattle.jc_machine_model.specs.Programs.{IsStatic, IsProgramBody, IsLinked}
use Rattle.jc_link_programs.specs.Linking.{link_causes, LinkReason, IsLinkedOf, IsLinkedClass, AreLinkedClasses, IsFirstRefused}
use Rattle.jc_link_programs.specs.ProbeInits.{AreProbes}
use Rattle.jc_link_programs.specs.Statics.{has_clinit, statics_of}
use Rattle.jc_link_programs.proofs.SingleLaws.{all_put}

-- ---- more names

pub under_more : (old new : Names) (c : ClassFile) (bodies : List Body) → Grows old new → AreCheckedUnder old c bodies → AreCheckedUnder new c bodies
under_more old new c bodies grows h = record {
  are = grown_bodies old new c (length c.methods) bodies grows h.are;
  checked = λ k d less. check_grown old new (get_or bodies k d) grows (bodies_numbered old c bodies h.are k d less) (h.checked k d less);
}

states_more : (old new : Names) (c : ClassFile) (bodies : List Body) → Grows old new → AreCheckedUnder old c bodies → All (HasStates old) bodies → All (HasStates new) bodies
states_more old new c bodies grows are h = λ k d less.
    let s = h k d less in
    (s.0, states_grown old new (get_or bodies k d) s.0 grows (bodies_numbered old c bodies are.are k d less) s.1)

linked_more : (old new : Names) (bytes : List ℕ) (c : Linked) → Grows old new → IsLinkedClass old bytes c → IsLinkedClass new bytes c
linked_more old new bytes c grows h = record {
  file = h.file;
  text = h.text;
  no_cause = h.no_cause;
  is = record {
    name = h.is.name;
    version = h.is.version;
    bodies = under_more old new h.file c.bodies grows h.is.bodies;
    states = states_more old new h.file c.bodies grows h.is.bodies h.is.states;
    statics = h.is.statics;
    clinit = h.is.clinit;
    probes = h.is.probes;
  };
}

pub all_more : (old new : Names) (files : List (List ℕ)) (classes : List Linked) → Grows old new → AreLinkedClasses old files classes → AreLinkedClasses new files classes
all_more old new [] [] grows h = tt
all_more old new [] (c ∷ classes) grows h = absurd h
all_more old new (bytes ∷ files) [] grows h = absurd h
all_more old new (bytes ∷ files) (c ∷ classes) grows h = (linked_more old new bytes c grows h.0, all_more old new files classes grows h.1)

body_more : (old new : Names) (b : Body) → Grows old new → IsProgramBody old b → IsProgramBody new b
body_more old new b grows h = record {
  well_made = h.well_made;
  checked = check_grown old new b grows h.numbered h.checked;
  numbered = frames_numbered _ _ b.frames (grown_count old new grows) h.numbered;
}

fit_more : (old new : Names) (c : Linked) → Grows old new → IsLinked old c → IsLinked new c
fit_more old new c grows h = record {
  bodies = λ k d less. body_more old new (get_or c.bodies k d) grows (h.bodies k d less);
  statics = h.statics;
  few_bodies = h.few_bodies;
  few_statics = h.few_statics;
}

pub all_fit_more : (old new : Names) (classes : List Linked) → Grows old new → All (IsLinked old) classes → All (IsLinked new) classes
all_fit_more old new classes grows h = λ k d less. fit_more old new (get_or classes k d) grows (h k d less)

-- ---- one class more

pub put_linked : (names : Names) (files : List (List ℕ)) (classes : List Linked) (bytes : List ℕ) (c : Linked)
    → AreLinkedClasses names files classes → IsLinkedClass names bytes c → AreLinkedClasses names (files ++ bytes ∷ []) (classes ++ c ∷ [])
put_linked names [] [] bytes c h last = (last, tt)
put_linked names [] (d ∷ classes) bytes c h last = absurd h
put_linked names (x ∷ files) [] bytes c h last = absurd h
put_linked names (x ∷ files) (d ∷ classes) bytes c h last = (h.0, put_linked names files classes bytes c h.1 last)

pub linked_count : (names : Names) (files : List (List ℕ)) (classes : List Linked) → AreLinkedClasses names files classes → length classes ≡ length files
linked_count names [] [] h = refl
linked_count names [] (c ∷ classes) h = absurd h
linked_count names (bytes ∷ files) [] h = absurd h
linked_count names (bytes ∷ files) (c ∷ classes) h = ap suc (linked_count names files classes h.1)

-- ---- a class that isn't linked

pub no_reason : (names : Names) (bytes : List ℕ) (c : Linked) → IsLinkedClass names bytes c → LinkReason bytes None
no_reason names bytes c h = (h.file, h.text, h.no_cause)

pub none_refused : (names : Names) (files : List (List ℕ)) (classes : List Linked) → AreLinkedClasses names files classes
    → (k : ℕ) (bytes : List ℕ) → slice_get files k ≡ Some bytes → LinkReason bytes None
none_refused names [] classes h k bytes at = absurd (none_there at)
  where
    none_there : {x : List ℕ} → None ≡ Some x → ⊥
    none_there e = cc
none_refused names (x ∷ files) [] h k bytes at = absurd h
none_refused names (x ∷ files) (c ∷ classes) h zero bytes at = subst (λ (b : List ℕ). LinkReason b None) (same at) (no_reason names x c h.0)
  where
    same : {a b : List ℕ} → Some a ≡ Some b → a ≡ b
    same e = cc
none_refused names (x ∷ files) (c ∷ classes) h (suc k) bytes at = none_refused names files classes h.1 k bytes at

-- the items in front of a place stand there
slice_take : {X : Type 0} (xs : List X) (n k : ℕ) (x : X) → k < n → slice_get xs k ≡ Some x → slice_get (take n xs) k ≡ Some x
slice_take [] n k x less at = absurd (nothing at)
  where
    nothing : {Y : Type 0} {y : Y} → None ≡ Some y → ⊥
    nothing e = cc
slice_take (y ∷ xs) zero k x less at = absurd (omega (arith, less))
slice_take (y ∷ xs) (suc n) zero x less at = at
slice_take (y ∷ xs) (suc n) (suc k) x less at = slice_take xs n k x (omega (arith, less)) at

-- the file at the place isn't linked, and those in front of it are
pub first_refused : (names : Names) (files : List (List ℕ)) (classes : List Linked) (n : ℕ) (bytes : List ℕ) (r : Refusal)
    → AreLinkedClasses names (take n files) classes → slice_get files n ≡ Some bytes → LinkReason bytes (Some r) → IsFirstRefused files n r
first_refused names files classes n bytes r before at reason = record {
  bytes = bytes;
  stands = at;
  reason = reason;
  linked = λ k other less there. none_refused names (take n files) classes before k other (slice_take files n k other less there);
}

-- one file more
pub next_linked : (old new : Names) (files : List (List ℕ)) (classes more : List Linked) (n : ℕ) (bytes : List ℕ) (c : Linked) → Grows old new
    → AreLinkedClasses old (take n files) classes → slice_get files n ≡ Some bytes → IsLinkedClass new bytes c → more ≡ classes ++ c ∷ []
    → AreLinkedClasses new (take (n + 1) files) more
next_linked old new files classes more n bytes c grows before at last e =
    let taken = take_more files n bytes (slice_get_within files n bytes at) ∙ ap (λ (x : List ℕ). take n files ++ x ∷ []) (get_or_from_slice_get files n bytes bytes at) in
    subst (λ (l : List (List ℕ)). AreLinkedClasses new l more) (sym taken)
    (subst (AreLinkedClasses new (take n files ++ bytes ∷ [])) (sym e)
    (put_linked new (take n files) classes bytes c (all_more old new (take n files) classes grows before) last))

pub next_fits : (old new : Names) (classes more : List Linked) (c : Linked) → Grows old new → All (IsLinked old) classes → IsLinked new c → more ≡ classes ++ c ∷ []
    → All (IsLinked new) more
next_fits old new classes more c grows before last e = all_put (IsLinked new) classes more c (all_fit_more old new classes grows before) last e

-- ---- a class with what was found of it

pub linked_is : (names : Names) (c : ClassFile) (bodies : List Body) (l : Linked) → AreCheckedUnder names c bodies → All (HasStates names) bodies
    → class_name_of c.pool c.this_class ≡ Some l.name → l.version ≡ c.major → l.bodies ≡ bodies → l.statics ≡ statics_of c → l.has_clinit ≡ has_clinit c
    → AreProbes c l.name l.bodies l.probes → IsLinkedOf names c l
linked_is names c bodies l are states name version same statics clinit probes = record {
  version = version;
  name = name;
  bodies = subst (AreCheckedUnder names c) (sym same) are;
  states = subst (All (HasStates names)) (sym same) states;
  statics = statics;
  clinit = clinit;
  probes = probes;
}

pub fits_is : (names : Names) (c : ClassFile) (bodies : List Body) (l : Linked) → IsClassFile c → AreCheckedUnder names c bodies → All IsWellMade bodies
    → l.bodies ≡ bodies → All IsStatic l.statics → length l.statics ≤ 65535 → IsLinked names l
fits_is names c bodies l is are made same statics few = record {
  bodies = subst (All (IsProgramBody names)) (sym same) (λ k d less. record {
    well_made = made k d less;
    checked = are.checked k d less;
    numbered = bodies_numbered names c bodies are.are k d less;
  });
  statics = statics;
  few_bodies =
      let most = few_bodies names c (length c.methods) bodies are.are in
      let methods = is.methods.few in
      let e = ap (λ (bs : List Body). length bs) same in
      omega (arith, most, methods, e);
  few_statics = omega (arith, few);
}

-- ---- causes

pub no_link_cause : (names : Names) (c : ClassFile) (bodies : List Body) → (IsOutside c.major → ⊥) → AreCheckedUnder names c bodies → NoCause (link_causes c)
no_link_cause names c bodies inside are = (λ r w. inside w.outside, no_code_cause c bodies (record { names = names; are = are.are; checked = are.checked }))

pub later_cause : (c : ClassFile) (r : Refusal) → (IsOutside c.major → ⊥) → IsFirstCause (code_causes c) r → IsFirstCause (link_causes c) r
later_cause c r inside first = inr (λ s w. inside w.outside, first)
