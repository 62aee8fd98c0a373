use Rattle.std.proofs.Common.{◌+◌, sym, ◌∙◌, ap, drop, ◌&&◌}
use Rattle.jc_kinds.specs.KindFits.{kinds_fit}
use Rattle.jc_kinds.proofs.KindFitsLaws.{fit-unequal, fit_on, fit_done}
use Rattle.jc_kinds.proofs.fits.fit_each.Goals as goal

pub returns-then-kinds-wants : goal.returns-then-kinds-wants
returns-then-kinds-wants c = sym (fit-unequal c.args.kinds.now c.args.wants.now c.if-kinds-wants.true)

pub returns-then-not-fits : goal.returns-then-not-fits
returns-then-not-fits c = sym (c.fitting.invariant ∙ fit_on c.args.kinds.now c.args.wants.now c.fitting.i c.fitting-test.true c.if-kinds-wants.false
    ∙ ap (λ b. b && kinds_fit (drop (c.fitting.i + 1) c.args.kinds.now) (drop (c.fitting.i + 1) c.args.wants.now)) (sym c.fits.ensures ∙ c.if-not-fits.true))

pub fitting-preserved : goal.fitting-preserved
fitting-preserved c = c.fitting.invariant ∙ fit_on c.args.kinds.now c.args.wants.now c.fitting.i c.fitting-test.true c.if-kinds-wants.false
    ∙ ap (λ b. b && kinds_fit (drop (c.fitting.i + 1) c.args.kinds.now) (drop (c.fitting.i + 1) c.args.wants.now)) (sym c.fits.ensures ∙ c.if-not-fits.false)

pub returns : goal.returns
returns c = sym (c.fitting.invariant ∙ fit_done c.args.kinds.now c.args.wants.now c.fitting.i c.fitting-test.false c.if-kinds-wants.false)
