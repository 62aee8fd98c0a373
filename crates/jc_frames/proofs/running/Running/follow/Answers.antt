use Rattle.std.proofs.Common.{◌+◌, ℕ, List, [], refl, sym, ◌∙◌, ap, arith}
use Rattle.jc_frames.specs.declared.method.Value.{Value}
use Rattle.jc_frames.specs.Frames.{values_of, fits_slots}
use Rattle.jc_frames.specs.Running.{held_values, before}
use Rattle.jc_frames.proofs.RunningLaws.{no_start_nothing, no_stack_nothing, no_values_nothing, unfit_nothing, frame_says, not_done, is_done, fitting_values}
use Rattle.jc_frames.proofs.running.Running.follow.Goals as goal
use Rattle.jc_frames.proofs.running.Running.follow.Goals.{then-not-branch-via-then-not-branch, then-not-branch-via-else-not-branch+then-not-fits}

pub returns-in_default-clause-says : goal.returns-in_default-clause-says
returns-in_default-clause-says c names =
    no_start_nothing c.args.method.now (before c.args.method.now.pool names c.args.self.now) c.args.item.now (c.args.self.now.base + c.from.result)
    (ap (λ (k : ℕ). c.args.self.now.base + k) (c.from.ensures ∙ c.delta.ensures)) c.in_default.ensures.none

pub returns-in_default-2-clause-says : goal.returns-in_default-2-clause-says
returns-in_default-2-clause-says c names =
    no_stack_nothing c.args.method.now (before c.args.method.now.pool names c.args.self.now) c.args.item.now
    (let said = c.in_ok-stack.ensures.says names in rw c.in_default-2.is at said)

pub returns-then-not-branch-clause-says : goal.returns-then-not-branch-clause-says
returns-then-not-branch-clause-says c names =
    let g = c.args.method.now in
    let b = before g.pool names c.args.self.now in
    let values = c.in_ok-change.ensures.values names in
    let said = c.in_ok-stack.ensures.says names in
    let stack = rw c.in-Some-2.is at said in
    elim c.then-not-branch.branch [
      | then-not-branch-via-then-not-branch w ↦ no_values_nothing g b c.args.item.now
          (not_done (values_of g b c.args.item.now) c.in_ok-change.field-0 (held_values g.pool names c.change.new.self.values.items) values w.if-not-branch.true)
      | then-not-branch-via-else-not-branch+then-not-fits w ↦
          unfit_nothing g b c.args.item.now (held_values g.pool names c.change.new.self.values.items) (held_values g.pool names c.in-Some-2.stack.items)
          (is_done (values_of g b c.args.item.now) c.in_ok-change.field-0 (held_values g.pool names c.change.new.self.values.items) values w.if-not-branch.false) stack
          (sym (w.fits.ensures names
          ∙ ap (λ (l : List Value). fits_slots g (held_values g.pool names c.change.new.self.values.items) (held_values g.pool names l))
          w.deref.ensures.value) ∙ w.if-not-fits.true)
    ]

pub returns-clause-says : goal.returns-clause-says
returns-clause-says c names =
    let g = c.args.method.now in
    let b = before g.pool names c.args.self.now in
    let values = c.in_ok-change.ensures.values names in
    let said = c.in_ok-stack.ensures.says names in
    let stack = rw c.in-Some-2.is at said in
    frame_says g b c.args.item.now (c.args.self.now.base + c.from.result) c.in-Some.at (c.args.self.now.base + c.from.result + 1)
    (held_values g.pool names c.change.new.self.values.items) (held_values g.pool names c.in-Some-2.stack.items)
    (ap (λ (k : ℕ). c.args.self.now.base + k) (c.from.ensures ∙ c.delta.ensures)) refl c.in-Some.ensures.number c.in-Some.ensures.below
    (is_done (values_of g b c.args.item.now) c.in_ok-change.field-0 (held_values g.pool names c.change.new.self.values.items) values c.if-not-branch.false) stack
    (sym (c.fits.ensures names
    ∙ ap (λ (l : List Value). fits_slots g (held_values g.pool names c.change.new.self.values.items) (held_values g.pool names l))
    c.deref.ensures.value) ∙ c.if-not-fits.false)

pub returns-clause-running : goal.returns-clause-running
returns-clause-running c =
    let g = c.args.method.now in
    let many = fitting_values g g.pool [] c.change.new.self.values.items (held_values g.pool [] c.deref.result.now) (sym (c.fits.ensures []) ∙ c.if-not-fits.false) in
    let within = c.in-Some.ensures.within in
    let locals = c.requires.locals in
    record {
      slots = c.in_ok-change.ensures.slots;
      few = omega (arith, many, locals);
      base = omega (arith, within);
    }
