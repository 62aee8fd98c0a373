-- The effects of a body when more names are numbered, and what their calls answer.
use Rattle.std.proofs.Common.{◌≡◌, ℕ, List, [], ◌∷◌, ◌++◌, length, Option, Some, None, option_map, Result, Ok, Err, IfOk, IfSome, refl, sym, ap}
use Rattle.std.proofs.Common.{subst, ◌∙◌, slice_get, get_or}
use Rattle.jc_methods.specs.declared.kind.Kind.{Kind}
use Rattle.jc_methods.specs.declared.kind.Kind.TheVariants as kinds
use Rattle.jc_methods.specs.declared.kind.State.{State}
use Rattle.jc_methods.specs.declared.body.Body.{Body}
use Rattle.jc_bytes.specs.declared.fail.Memory.{Memory}
use Rattle.jc_methods.specs.VerificationTypes.{Names, VerificationType, verification_type, object, type_state, Grows, IsNumberedState}
use Rattle.jc_methods.specs.WellMade.{IsWellMadeOfAnySize, HasUse, what_used}
use Rattle.jc_kinds_after.specs.declared.effects.Effects.{Effects}
use Rattle.std.proofs.lemmas.Option.{slice_get_within, get_or_from_slice_get, same_Some}
use Rattle.jc_methods.specs.Opcode as opcode
use Rattle.jc_methods.specs.declared.insn.Insn.{Insn}
use Rattle.jc_methods.specs.declared.insn.Insn.TheVariants as insns
use Rattle.jc_methods.specs.declared.body.What.{What}
use Rattle.jc_methods.specs.declared.body.What.TheVariants as whats
use Rattle.jc_methods.specs.InsnUse.{pool_place, Suits, IsClass}
use Rattle.jc_methods.proofs.NumberedLaws.{seen_grown, grown_count, state_numbered}
use Rattle.jc_kinds_after.specs.declared.effect.Effect.{Effect}
use Rattle.jc_kinds_after.specs.declared.elements.Elements.{Elements}
use Rattle.jc_kinds_after.specs.Does.{does, does_of, of_class, IsDescribed}
use Rattle.jc_kinds_after.specs.After.{after_of, class_in, insn_at, new_class, ground_of}
use Rattle.jc_kinds_after.specs.Step.{class_built}
use Rattle.jc_kinds_after.specs.Answers.{IsStateOf, IsWhole, LeavesState, LeavesAlways}
use Rattle.jc_kinds_after.specs.Effects.{AreEffects, body_of}
use Rattle.jc_kinds_after.specs.Elements.{AreElements}
use Rattle.jc_kinds_after.proofs.DoesLaws.{later}
use Rattle.jc_kinds_after.proofs.ElementsLaws.{elements_later}
use Rattle.jc_kinds_after.proofs.UsesLaws.{all_say_later}
use Rattle.jc_kinds_after.proofs.LeaveLaws.{leaves, left_of_body, left_whole}

pub are_later : (old new : Names) (e : Effects) → Grows old new → AreEffects old e → AreEffects new e
are_later old new e g a = record {
  body = a.body;
  uses = all_say_later old new (body_of e).uses e.uses g a.uses;
  elements = elements_later old new e.elements g a.elements;
  owner = later (λ names. verification_type names e.owner) (object (body_of e).owner) old new g a.owner;
  returns = a.returns;
}

-- the same, with the elements of more arrays
pub with_elements : (old new : Names) (e : Effects) (elements : Elements) → Grows old new → AreEffects old e → AreElements new elements
    → AreEffects new (record e { elements = elements })
with_elements old new e elements g a are =
    let all = are_later old new e g a in
    record { body = all.body; uses = all.uses; elements = are; owner = all.owner; returns = all.returns }

pub state_later : (old new : Names) (b : Body) (s : State) → Grows old new → IsStateOf (length old) b s → IsStateOf (length new) b s
state_later old new b s g is =
    let le = grown_count old new g in
    record {
      locals = is.locals;
      local_kinds = is.local_kinds;
      stack_kinds = is.stack_kinds;
      numbered = state_numbered (length old) (length new) s le is.numbered;
    }

-- ---- results

pub next_left : (old new : Names) (b : Body) (i : ℕ) (s : State) → IsWellMadeOfAnySize b → IsStateOf (length old) b s → (o : Option State)
    → LeavesAlways old new b i s o → IfSome o (IsStateOf (length new) b)
next_left old new b i s w is None always = tt
next_left old new b i s w is (Some t) always = left_of_body old new b i s t w is always

pub whole_left : (old new : Names) (b : Body) (i : ℕ) (s : State) → IsWellMadeOfAnySize b → IsStateOf (length old) b s → (o : Option State)
    → LeavesAlways old new b i s o
    → IfSome o (λ t. IsWhole b s → IsWhole b t)
whole_left old new b i s w is None always = tt
whole_left old new b i s w is (Some t) always = left_whole old new b i s t w is always

pub after_leaves : (old new : Names) (b : Body) (i : ℕ) (s : State) (r : Result (Option State) Memory) → IfOk r (LeavesAlways old new b i s)
    → IfOk r (LeavesState old new b i s)
after_leaves old new b i s (Ok o) always = leaves old new b i s o always
after_leaves old new b i s (Err e) always = tt

pub after_next : (old new : Names) (b : Body) (i : ℕ) (s : State) → IsWellMadeOfAnySize b → IsStateOf (length old) b s
    → (r : Result (Option State) Memory) → IfOk r (LeavesAlways old new b i s)
    → IfOk r (λ o. IfSome o (IsStateOf (length new) b))
after_next old new b i s w is (Ok o) always = next_left old new b i s w is o always
after_next old new b i s w is (Err e) always = tt

pub after_whole : (old new : Names) (b : Body) (i : ℕ) (s : State) → IsWellMadeOfAnySize b → IsStateOf (length old) b s
    → (r : Result (Option State) Memory) → IfOk r (LeavesAlways old new b i s)
    → IfOk r (λ o. IfSome o (λ t. IsWhole b s → IsWhole b t))
after_whole old new b i s w is (Ok o) always = whole_left old new b i s w is o always
after_whole old new b i s w is (Err e) always = tt

-- the class of the method, which `this` is of when its constructor was called
pub owner_built : (names : Names) (e : Effects) (place : ℕ) (old : Kind) → AreEffects names e → old ≡ kinds.UninitThis
    → Some (verification_type names e.owner) ≡ option_map object (class_built (ground_of (body_of e) place) (verification_type names old))
owner_built names e place old are is =
    let P : Kind → Type 0 = λ k. Some (verification_type names e.owner)
    ≡ option_map object (class_built (ground_of (body_of e) place) (verification_type names k)) in
    subst P (sym is) (ap Some (ap (λ (l : Names). verification_type l e.owner) (sym (nil names)) ∙ are.owner []))
  where
    nil : (xs : Names) → xs ++ [] ≡ xs
    nil [] = refl
    nil (x ∷ xs) = ap (λ (l : Names). x ∷ l) (nil xs)

-- ---- the class that a `new` makes

pub made_class : (names : Names) (e : Effects) (at made place : ℕ) (x : Insn) (code : List Insn) (effect : Effect) (result : Option Kind) → AreEffects names e
    → slice_get (body_of e).code at ≡ Some (insns.OfClass opcode.new made) → code ≡ (body_of e).code → x ≡ get_or code at x → Some place ≡ pool_place x
    → ((what : What) → what_used (body_of e).uses place ≡ Some what → IsDescribed what → does names effect ≡ does_of what)
    → ((h constant : VerificationType) (array : Option VerificationType) → does names effect ≡ of_class h array constant
    → option_map (verification_type names) result ≡ Some h)
    → option_map (verification_type names) result ≡ Some (object (new_class (body_of e).uses (insn_at (body_of e) at)))
made_class names e at made place x code effect result are is same read named kept classed =
    by u.what u.fact u.used
  where
    x_is : x ≡ insns.OfClass opcode.new made
    x_is = read ∙ ap (λ (l : List Insn). get_or l at x) same ∙ get_or_from_slice_get (body_of e).code at (insns.OfClass opcode.new made) x is

    place_is : place ≡ made
    place_is = same_Some place made (named ∙ ap pool_place x_is)

    u : HasUse (body_of e).uses made (Suits (insns.OfClass opcode.new made))
    u = subst (λ (i : Insn). (p : ℕ) → pool_place i ≡ Some p → HasUse (body_of e).uses p (Suits i))
        (get_or_from_slice_get (body_of e).code at (insns.OfClass opcode.new made) (insns.OfClass opcode.new made) is)
        (are.body.uses.by_insns at (insns.OfClass opcode.new made) (slice_get_within (body_of e).code at (insns.OfClass opcode.new made) is)) made refl

    by : (what : What) → IsClass what → what_used (body_of e).uses made ≡ Some what
        → option_map (verification_type names) result ≡ Some (object (new_class (body_of e).uses (insn_at (body_of e) at)))
    by (whats.Class name) fits used =
        classed (object name) _ _ (kept (whats.Class name) (ap (what_used (body_of e).uses) place_is ∙ used) tt)
        ∙ ap (λ (w : Option What). Some (object (class_in w))) (sym used) ∙ ap (λ (o : Option Insn). Some (object (new_class (body_of e).uses o))) (sym is)
    by (whats.Computed name desc bootstrap) fits used = elim fits [ ]
    by _ fits used = elim fits [ ]

-- ---- the same of a body by itself

pub of_body : (old one new : Names) (c b : Body) (i : ℕ) (s : State) (r : Result (Option State) Memory) → Grows old one
    → IsNumberedState (length old) s → c ≡ b → IfOk r (LeavesState one new c i s) → IfOk r (LeavesState old new b i s)
of_body old one new c b i s (Err e) g n same left = tt
of_body old one new c b i s (Ok o) g n same left = left ∙ ap (after_of c i) (seen_grown old one s g n) ∙ ap (λ (x : Body). after_of x i (type_state old s)) same
