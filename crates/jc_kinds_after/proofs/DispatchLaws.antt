-- The step of an instruction that names a use, by what the use does.
use Rattle.std.proofs.Common.{◌≡◌, inl, inr, ℕ, List, Option, Some, sym, ap, subst, ◌∙◌, arith}
use Rattle.jc_methods.specs.declared.insn.Insn.{Insn}
use Rattle.jc_methods.specs.declared.body.Use.{Use}
use Rattle.jc_methods.specs.declared.body.What.{What}
use Rattle.jc_methods.specs.declared.body.What.TheVariants as whats
use Rattle.jc_bytes.specs.Descriptor.{FieldType, Long, Double, IsFieldDescriptor}
use Rattle.jc_methods.specs.VerificationTypes.{Names}
use Rattle.jc_methods.specs.InsnUse.{pool_place, Suits, IsOneSlotConstant, IsTwoSlotConstant, IsOfTwoSlots, IsMemberFor, IsMethod, IsCall, IsClass}
use Rattle.jc_methods.specs.WellMade.{HasUse, what_used}
use Rattle.jc_kinds_after.specs.declared.effect.Effect.{Effect}
use Rattle.jc_kinds_after.specs.declared.step.Step.{Step as KeptStep}
use Rattle.jc_kinds_after.specs.Step.{Step}
use Rattle.jc_kinds_after.specs.After.{step_of}
use Rattle.jc_kinds_after.specs.Does.{Does, does, does_of, IsDescribed}
use Rattle.jc_kinds_after.specs.Steps.{step_in}

pub by_use : (uses : List Use) (returns : Option FieldType) (insn x : Insn) (place : ℕ) (names : Names) (effect : Effect) (st : KeptStep) (by : Does
    → Step) → insn ≡ x → pool_place x ≡ Some place
    → ((p : ℕ) → pool_place insn ≡ Some p → HasUse uses p (Suits insn))
    → ((what : What) → what_used uses place ≡ Some what → IsDescribed what → does names effect ≡ does_of what)
    → step_in names st ≡ by (does names effect) → ((what : What) → Suits x what → IsDescribed what)
    → ((what : What) → Suits x what → what_used uses place ≡ Some what → by (does_of what) ≡ step_of uses returns x)
    → step_in names st ≡ step_of uses returns insn
by_use uses returns insn x place names effect st by is named used at kept described same =
    let P : Insn → Type 0 = λ i. ((p : ℕ) → pool_place i ≡ Some p → HasUse uses p (Suits i)) → step_in names st ≡ step_of uses returns i in
    subst P (sym is) (λ there. let u = there place named in kept ∙ ap by (at u.what u.used (described u.what u.fact)) ∙ same u.what u.fact u.used) used

pub two_slots_described : (desc : List ℕ) → IsOfTwoSlots desc → IsFieldDescriptor desc
two_slots_described desc (inl e) = (Long, record { fits = record { named = tt; few = omega arith }; spelled = e })
two_slots_described desc (inr e) = (Double, record { fits = record { named = tt; few = omega arith }; spelled = e })

pub described_constant : (what : What) → IsOneSlotConstant what → IsDescribed what
described_constant (whats.Computed name desc bootstrap) fits = fits.0
described_constant (whats.Field class name desc) fits = elim fits [ ]
described_constant (whats.Method class name desc) fits = elim fits [ ]
described_constant (whats.Call name desc) fits = elim fits [ ]
described_constant _ fits = tt

pub described_wide : (what : What) → IsTwoSlotConstant what → IsDescribed what
described_wide (whats.Computed name desc bootstrap) fits = two_slots_described desc fits
described_wide (whats.Field class name desc) fits = elim fits [ ]
described_wide (whats.Method class name desc) fits = elim fits [ ]
described_wide (whats.Call name desc) fits = elim fits [ ]
described_wide _ fits = tt

pub described_method : (what : What) → IsMethod what → IsDescribed what
described_method (whats.Method class name desc) fits = fits
described_method _ fits = elim fits [ ]

pub described_call : (what : What) → IsCall what → IsDescribed what
described_call (whats.Call name desc) fits = fits
described_call _ fits = elim fits [ ]

pub described_class : (what : What) → IsClass what → IsDescribed what
described_class (whats.Class name) fits = tt
described_class _ fits = elim fits [ ]

pub described_member : (op : ℕ) (what : What) → IsMemberFor op what → IsDescribed what
described_member op (whats.Field class name desc) (inl h) = h.1
described_member op (whats.Method class name desc) (inr h) = h.1
described_member op _ (inl h) = elim h.1 [ ]
described_member op _ (inr h) = elim h.1 [ ]
