use Rattle.std.proofs.Common.{ℕ, ◌<◌, ◌∙◌, sym, ap, subst}
use Rattle.jc_exec.specs.Feeding.{Feed, StandBehindBlocks, rest_of, most_block}
use Rattle.jc_exec.proofs.FinishLaws.{sound_small, kept_behind}
use Rattle.jc_exec.proofs.packed_feed.PackedFeed.rest.Goals as goal

pub rest-requires : goal.rest-requires
rest-requires c = sound_small _ c.self.inside.state c.self.inside.fed c.self.invariant.1

pub returns-clause-kept : goal.returns-clause-kept
returns-clause-kept c = c.rest.ensures ∙ ap (λ (f : Feed). rest_of f.kept) c.self.view_is

pub returns-clause-small : goal.returns-clause-small
returns-clause-small c = subst (λ (n : ℕ). n < most_block) (sym c.rest.ensures) (sound_small _ c.self.inside.state c.self.inside.fed c.self.invariant.1)

pub returns-clause-behind : goal.returns-clause-behind
returns-clause-behind c = λ before bytes more f taken.
    subst (StandBehindBlocks bytes) (sym (c.rest.ensures ∙ ap (λ (g : Feed). rest_of g.kept) c.self.view_is)) (kept_behind c.args.self.now before bytes more f taken)
