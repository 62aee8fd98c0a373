-- The shifted form of a state of a body is one that a full frame says.
use Rattle.std.proofs.Common.{◌≡◌, ℕ, zero, suc, ◌+◌, ◌≤◌, false, List, [], ◌∷◌, map, get_or, Some, refl, sym, ◌∙◌, arith, true≢false}
use Rattle.std.specs.Prelude.{insert, slice_get}
use Rattle.std.specs.List.{AllByRecursion}
use Rattle.std.proofs.lemmas.List.{length-map}
use Rattle.std.proofs.lemmas.List.Edits.{length-insert}
use Rattle.std.proofs.lemmas.List.Elements.{recursion_from_All}
use Rattle.jc_methods.specs.VerificationTypes.{Names, VerificationType, top, verification_type, type_state, is_pair}
use Rattle.jc_methods.specs.Opcode as opcode
use Rattle.jc_methods.specs.WellMade as made
use Rattle.jc_methods.specs.declared.insn.Insn.{Insn}
use Rattle.jc_methods.specs.declared.insn.Insn.TheVariants as insns
use Rattle.jc_methods.specs.declared.body.Body.{Body}
use Rattle.jc_methods.specs.declared.kind.Kind.{Kind}
use Rattle.jc_methods.specs.declared.kind.Kind.TheVariants as kinds
use Rattle.jc_methods.specs.declared.kind.State.{State}
use Rattle.jc_methods.proofs.WidthLaws.{as_many}
use Rattle.jc_kinds_after.specs.Shift.{renamed, probes, shifted}
use Rattle.jc_emit.proofs.StateLaws.{slots-renamed}
use Rattle.jc_frames.specs.FullFrames.{BeginsWithTop, ArePaired}
use Rattle.jc_frames.proofs.WrittenLaws.{paired, slots_are}
use Rattle.jc_instrument_reread.proofs.AskedFrameLaws.{IsStateOf}
use Rattle.jc_instrument_reread.proofs.RenamedLaws.{pair_renamed}
use Rattle.jc_instrument_reread.proofs.WritableFrameLaws.{PlacedSo, IsSayable}

-- ---- one more local variable

begins_kept : (h : VerificationType) (hs others : List VerificationType) → BeginsWithTop (h ∷ hs) → BeginsWithTop (h ∷ others)
begins_kept top hs others b = tt
begins_kept h hs others b = b

-- no long or double stands at v - 1
abbrev IsWholeAt : ℕ → List VerificationType → Type 0
IsWholeAt v hs = (k : ℕ) → k + 1 ≡ v → is_pair (get_or hs k top) ≡ false

paired_more : (v : ℕ) (h : VerificationType) (hs : List VerificationType) → is_pair h ≡ false → ArePaired hs → IsWholeAt v hs → ArePaired (insert hs v h)
paired_more zero h hs single p whole = ((λ e. absurd (true≢false (sym e ∙ single))), p)
paired_more (suc v) h [] single p whole = ((λ e. absurd (true≢false (sym e ∙ single))), tt)
paired_more (suc v) h (x ∷ hs) single p whole =
    (λ pair. by v hs (p.0 pair) (λ e. true≢false (sym pair ∙ whole 0 e)), paired_more v h hs single p.1 (λ k e. whole (suc k) (omega (arith, e))))
  where
    by : (v : ℕ) (hs : List VerificationType) → BeginsWithTop hs → (0 + 1 ≡ suc v → ⊥) → BeginsWithTop (insert hs v h)
    by zero hs b not = absurd (not refl)
    by (suc v) [] b not = absurd b
    by (suc v) (y ∷ hs) b not = begins_kept y hs (insert hs v h) b

begins_renamed : (f : ℕ → ℕ) (hs : List VerificationType) → BeginsWithTop hs → BeginsWithTop (map (renamed f) hs)
begins_renamed f (top ∷ hs) b = tt
begins_renamed f hs b = b

paired_renamed : (f : ℕ → ℕ) (hs : List VerificationType) → ArePaired hs → ArePaired (map (renamed f) hs)
paired_renamed f [] p = tt
paired_renamed f (h ∷ hs) p = (λ pair. begins_renamed f hs (p.0 (sym (pair_renamed f h) ∙ pair)), paired_renamed f hs p.1)

whole_renamed : (f : ℕ → ℕ) (hs : List VerificationType) (k : ℕ) → is_pair (get_or hs k top) ≡ false → is_pair (get_or (map (renamed f) hs) k top) ≡ false
whole_renamed f [] k single = single
whole_renamed f (h ∷ hs) zero single = pair_renamed f h ∙ single
whole_renamed f (h ∷ hs) (suc k) single = whole_renamed f hs k single

module _ (Fact : VerificationType → Type 0) where
  all_more : (v : ℕ) (h : VerificationType) (hs : List VerificationType) → Fact h → AllByRecursion Fact hs → AllByRecursion Fact (insert hs v h)
  all_more zero h hs one all = (one, all)
  all_more (suc v) h [] one all = (one, tt)
  all_more (suc v) h (x ∷ hs) one all = (all.0, all_more v h hs one all.1)

-- ---- the shifted form

module _ (names : Names) (code : List Insn) (image : ℕ → ℕ) (Fact : ℕ → Type 0)
    (placed : (at place : ℕ) → slice_get code at ≡ Some (insns.OfClass opcode.new place) → Fact (image at)) where
  kind_placed : (k : Kind) → made.IsKind code k → PlacedSo Fact (renamed image (verification_type names k))
  kind_placed (kinds.Uninit at) is = placed at is.0 is.1
  kind_placed k is = tt

  all_placed : (ks : List Kind) → AllByRecursion (made.IsKind code) ks → AllByRecursion (PlacedSo Fact) (map (renamed image) (map (verification_type names) ks))
  all_placed [] all = tt
  all_placed (k ∷ ks) all = (kind_placed k all.0, all_placed ks all.1)

pub shifted_sayable : (names : Names) (b : Body) (image : ℕ → ℕ) (Fact : ℕ → Type 0) (s : State) → b.arg_slots ≤ b.max_locals
    → ((at place : ℕ) → slice_get b.code at ≡ Some (insns.OfClass opcode.new place) → Fact (image at)) → IsStateOf names b s
    → IsSayable (b.max_locals + 1) (b.max_stack + 3) Fact (shifted image b.arg_slots (type_state names s))
shifted_sayable names b image Fact s room placed is =
    let hs = map (verification_type names) s.locals in
    let rs = map (renamed image) hs in
    let stack = map (renamed image) (map (verification_type names) s.stack) in
    let count = length-map hs (renamed image) ∙ length-map s.locals (verification_type names) ∙ is.state.locals in
    let taken = slots-renamed image (map (verification_type names) s.stack) ∙ slots_are names s.stack in
    let most = is.state.stack in
    let above = as_many stack in
    record {
      locals = let more = length-insert rs b.arg_slots probes (omega (arith, count, room)) in omega (arith, more, count);
      paired = paired_more b.arg_slots probes rs refl (paired_renamed image hs (paired names s.locals is.state.pairs))
          (λ k e. whole_renamed image hs k (is.whole k e));
      stack = omega (arith, taken, most);
      few_stack = omega (arith, taken, most, above);
      local_places = all_more (PlacedSo Fact) b.arg_slots probes rs tt
          (all_placed names b.code image Fact placed s.locals (recursion_from_All (made.IsKind b.code) s.locals is.state.local_kinds));
      stack_places = all_placed names b.code image Fact placed s.stack (recursion_from_All (made.IsKind b.code) s.stack is.state.stack_kinds);
    }
