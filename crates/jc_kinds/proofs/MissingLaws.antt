-- Instructions that need a frame that isn't there, and the first of them.
use Rattle.std.proofs.Common.{◌≡◌, ℕ, ◌<◌, ◌≤◌, Bool, true, false, not, ◌&&◌, length, Option, Some, None, is_some, refl, sym, ◌∙◌, ap, arith}
use Rattle.std.specs.Borrow.{Bor}
use Rattle.std.specs.Option.{option_copied}
use Rattle.jc_methods.specs.declared.kind.State.{State}
use Rattle.jc_methods.specs.declared.body.Body.{Body}
use Rattle.jc_bytes.specs.Least.{IsNowhere}
use Rattle.jc_methods.specs.WellMade.{IsWellMade}
use Rattle.jc_methods.proofs.PlacedInsnLaws as arms
use Rattle.jc_kinds.specs.Checked.{IsMissing, FirstMissing}
use Rattle.jc_kinds.specs.Checking.{needs_frame, has_frame, is_missing}
use Rattle.jc_kinds.specs.Frames.{frame_in}
use Rattle.jc_kinds.proofs.CheckLaws.{least_missing, none_missing}
use Rattle.jc_kinds.proofs.FrameLaws.{frame_found}

copied_some : (o : Option (Bor State)) → is_some (option_copied o) ≡ is_some o
copied_some None = refl
copied_some (Some s) = refl

turned : (a r : Bool) → a ≡ not r → r ≡ not a
turned true true e = cc
turned true false e = refl
turned false true e = refl
turned false false e = cc

-- whether the frame that is needed stands
pub frame_missing : (b : Body) (at : ℕ) (o : Option (Bor State)) (r : Bool) → needs_frame b at ≡ true → option_copied o ≡ frame_in b.frames at → is_some o ≡ not r → r ≡ is_missing b at
frame_missing b at o r needs is none =
    turned (is_some o) r none
    ∙ ap not (sym (copied_some o) ∙ ap is_some is ∙ sym (frame_found b.frames at))
    ∙ ap (λ (n : Bool). n && not (has_frame b at)) (sym needs)

pub few_insns : (b : Body) → IsWellMade b → length b.code ≤ 65535
few_insns b made = let few = made.of_any_size.code.few in let each = arms.few_insns b.code in omega (arith, few, each)

pub first_found : (b : Body) (at : ℕ) → at < length b.code → ((k : ℕ) → k < at → is_missing b k ≡ false) → is_missing b at ≡ true → FirstMissing b at
first_found b at lt before here = least_missing b at (omega arith, lt, here, λ k low less. before k less)

pub none_found : (b : Body) (at : ℕ) → length b.code ≤ at → ((k : ℕ) → k < at → is_missing b k ≡ false) → IsNowhere (IsMissing b)
none_found b at all before = none_missing b (λ k low less. before k (omega (arith, less, all)))
