use Rattle.std.proofs.Common.{◌≡◌, ℕ, List, ap₂, ◌∙◌, subst}
use Rattle.std.specs.Prelude.{IfOk, slice_index}
use Rattle.jc_methods.specs.declared.kind.State.{State}
use Rattle.jc_emit.specs.Sizes.{narrow}
use Rattle.jc_emit.specs.Shift.{shifted_state}
use Rattle.jc_emit.specs.Items.{image_of}
use Rattle.jc_emit.specs.Framing.{without}
use Rattle.jc_emit.proofs.TableLaws.{state_moved}
use Rattle.jc_emit.proofs.frames.Framing.moved.Goals as goal

pub returns : goal.returns
returns c = λ first given is.
    let f = c.args.self.now in
    let b = f.body.now in
    let s = c.args.state.now in
    let place = image_of b first (narrow given.fetch) in
    subst (λ (t : State). IfOk c.shifted.result (λ s. s ≡ t))
    (ap₂ (λ (n : ℕ) (l : List ℕ). shifted_state b.arg_slots n (slice_index l) (without c.args.operands s)) is.array c.deref.ensures.value
    ∙ state_moved b.code place f.places.now.images.items is.places.images b.arg_slots given.array c.args.operands b.max_locals b.max_stack s c.requires.state)
    c.shifted.ensures
