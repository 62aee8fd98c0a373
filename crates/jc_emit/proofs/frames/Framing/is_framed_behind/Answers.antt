use Rattle.std.proofs.Common.{◌≡◌, ◌+◌, Bool, ◌&&◌, length, sym, ap, ◌∙◌, arith}
use Rattle.std.specs.Prelude.{is_none}
use Rattle.jc_methods.proofs.PlacedInsnLaws.{few_insns}
use Rattle.jc_emit.specs.Sizes.{late_probe}
use Rattle.jc_emit.specs.Emission.{has_frame}
use Rattle.jc_emit.proofs.FramingLaws.{none_read, leads_long, next_there, framed_read, lead_absent, both_then, both_else}
use Rattle.jc_emit.proofs.frames.Framing.is_framed_behind.Goals as goal
use Rattle.jc_emit.proofs.frames.Framing.is_framed_behind.Goals.{then-is_none, else-is_none}

pub index-requires : goal.index-requires
index-requires c =
    let framing = c.requires.framing in
    omega (arith, next_there framing.0 framing.1 c.args.self.now framing.2 c.args.at c.requires.at c.requires.tests, framing.2.framed.size, c.args.self.now.framed.ok.0)

pub offset_bounds-deref-at : goal.offset_bounds-deref-at
offset_bounds-deref-at c =
    let framing = c.requires.framing in
    omega (
      arith,
      next_there framing.0 framing.1 c.args.self.now framing.2 c.args.at c.requires.at c.requires.tests,
      few_insns c.args.self.now.body.now.code,
      framing.2.code.few,
    )

pub bounds-deref-at : goal.bounds-deref-at
bounds-deref-at c =
    let framing = c.requires.framing in
    omega (
      arith,
      next_there framing.0 framing.1 c.args.self.now framing.2 c.args.at c.requires.at c.requires.tests,
      ap length c.deref.ensures,
      leads_long framing.0 framing.1 c.args.self.now framing.2,
    )

pub returns-then-index : goal.returns-then-index
returns-then-index c = λ first given is.
    let f = c.args.self.now in
    let b = f.body.now in
    let at = c.args.at in
    let next = next_there first given f is at c.requires.at c.requires.tests in
    let none : c.is_none.result ≡ is_none (late_probe b first at) = none_read c.late_probe.result c.is_none.result c.is_none.ensures ∙ ap is_none (c.late_probe.ensures first given is) in
    let there = has_frame b first f.states.now given (at + 1) in
    let value : c.if-is_none.value ≡ (is_none (late_probe b first at) && there) = elim c.if-is_none.branch [
      | then-is_none w ↦ w.value-is ∙ framed_read first given f is (at + 1) w.index.result.now next w.index.ensures ∙ ap (λ (t : Bool). t && there) (sym w.if-is_none.true ∙ none)
      | else-is_none w ↦ w.value-is ∙ w.if-is_none.false ∙ ap (λ (t : Bool). t && there) (sym w.if-is_none.false ∙ none)
    ] in
    let lead = none_read _ c.is_none-then-index.result c.is_none-then-index.ensures ∙ lead_absent first given f is c.deref.result.now (at + 1) _ c.deref.ensures next in
    both_then (is_none (late_probe b first at)) there c.if-is_none.value c.is_none-then-index.result _ value c.if-index.true lead

pub returns-else-index : goal.returns-else-index
returns-else-index c = λ first given is.
    let f = c.args.self.now in
    let b = f.body.now in
    let at = c.args.at in
    let next = next_there first given f is at c.requires.at c.requires.tests in
    let none : c.is_none.result ≡ is_none (late_probe b first at) = none_read c.late_probe.result c.is_none.result c.is_none.ensures ∙ ap is_none (c.late_probe.ensures first given is) in
    let there = has_frame b first f.states.now given (at + 1) in
    let value : c.if-is_none.value ≡ (is_none (late_probe b first at) && there) = elim c.if-is_none.branch [
      | then-is_none w ↦ w.value-is ∙ framed_read first given f is (at + 1) w.index.result.now next w.index.ensures ∙ ap (λ (t : Bool). t && there) (sym w.if-is_none.true ∙ none)
      | else-is_none w ↦ w.value-is ∙ w.if-is_none.false ∙ ap (λ (t : Bool). t && there) (sym w.if-is_none.false ∙ none)
    ] in
    both_else (is_none (late_probe b first at)) there c.if-is_none.value _ value c.if-index.false
