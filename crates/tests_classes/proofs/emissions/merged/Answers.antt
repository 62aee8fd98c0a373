use Rattle.std.proofs.Common.{ap, sym, subst, ◌∙◌}
use Rattle.jc_methods.specs.FrameOrder.{RiseFrom}
use Rattle.jc_methods.specs.Widened.{listed}
use Rattle.jc_layout.specs.Merged.{used_frames}
use Rattle.jc_layout.proofs.MergedLaws.{used_rise}
use Rattle.tests_classes.proofs.emissions.merged.Goals as goal

pub merged_frames-requires-clause-others : goal.merged_frames-requires-clause-others
merged_frames-requires-clause-others c =
    subst (RiseFrom 0) (sym (c.deref-3.ensures ∙ c.in_ok-used.ensures ∙ ap (used_frames (listed c.args.wide.now)) c.deref.ensures))
    (used_rise (listed c.args.wide.now) 0 c.args.emitted.now.wide_frames c.requires.wide_frames)
