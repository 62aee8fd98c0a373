use Rattle.std.proofs.Common.{sym, ◌∙◌}
use Rattle.jc_frames.specs.Running.{held_values}
use Rattle.jc_frames.proofs.RunningLaws.{slots_counted, fits_true, fits_false}
use Rattle.jc_frames.proofs.running.Running.fits.Goals as goal

pub returns-then-self-max_locals : goal.returns-then-self-max_locals
returns-then-self-max_locals c names =
    let pool = c.args.method.now.pool in
    fits_true c.args.method.now (held_values pool names c.args.self.now.values.items) (held_values pool names c.args.stack.now) c.args.self.now.slots c.slots_of.result
    c.max_locals.result c.from.result (c.requires.slots ∙ sym (slots_counted pool names c.args.self.now.values.items)) (c.slots_of.ensures.slots ∙ sym (slots_counted pool names c.args.stack.now))
    c.max_locals.ensures (c.from.ensures ∙ c.max_stack.ensures) c.if-self-max_locals.true

pub returns-else-self-max_locals : goal.returns-else-self-max_locals
returns-else-self-max_locals c names =
    let pool = c.args.method.now.pool in
    fits_false c.args.method.now (held_values pool names c.args.self.now.values.items) (held_values pool names c.args.stack.now) c.args.self.now.slots c.max_locals.result
    (c.requires.slots ∙ sym (slots_counted pool names c.args.self.now.values.items)) c.max_locals.ensures c.if-self-max_locals.false
