use Rattle.std.proofs.Common.{◌+◌, ◌<◌, length, arith, slice_index_or, ◌∙◌, ap, sym, subst}
use Rattle.std.proofs.lemmas.List.{get_or_default}
use Rattle.jc_region.specs.Blocks.{Blocks, IsLive, words_at}
use Rattle.jc_region.proofs.InsideLaws.{live_below, word_is}
use Rattle.jc_region.proofs.region.Region.get.Goals as goal

pub index-requires : goal.index-requires
index-requires c =
    let live = subst (λ (r : Blocks). IsLive r.blocks c.args.block.at c.args.block.len) (sym c.self.view_is) c.requires.live in
    omega (arith, live_below c.self.inside c.args.block.at c.args.block.len c.self.invariant live, c.requires.within, c.self.invariant.within)

pub returns : goal.returns
returns c =
    let live = subst (λ (r : Blocks). IsLive r.blocks c.args.block.at c.args.block.len) (sym c.self.view_is) c.requires.live in
    let within : c.args.block.at + c.args.i < length c.self.inside.words.items =
    omega (arith, live_below c.self.inside c.args.block.at c.args.block.len c.self.invariant live, c.requires.within, c.self.invariant.within) in
    c.index.ensures ∙ (get_or_default c.self.inside.words.items (c.args.block.at + c.args.i) _ 0 within
    ∙ (word_is c.self.inside c.args.block.at c.args.block.len c.args.i c.self.invariant live c.requires.within
    ∙ ap (λ (r : Blocks). slice_index_or (words_at r.blocks c.args.block.at) c.args.i 0) c.self.view_is))
