use Rattle.std.proofs.Common.{◌≡◌, ◌+◌, slice_set, refl, arith, ◌∙◌, ap, sym, subst}
use Rattle.std.specs.Vec.{with_item}
use Rattle.jc_region.specs.declared.region.Region.TheInside.{Inside}
use Rattle.jc_region.specs.Blocks.{Blocks, IsLive, with_word}
use Rattle.jc_region.specs.Places.{memory_of}
use Rattle.jc_region.proofs.InsideLaws.{live_below, set_blocks}
use Rattle.jc_region.proofs.region.Region.set.Goals as goal

pub index_mut-requires : goal.index_mut-requires
index_mut-requires c =
    let live = subst (λ (r : Blocks). IsLive r.blocks c.args.block.at c.args.block.len) (sym c.self.view_is) c.requires.live in
    omega (arith, live_below c.self.inside c.args.block.at c.args.block.len c.self.invariant live, c.requires.within, c.self.invariant.within)

pub returns : goal.returns
returns c =
    let live = subst (λ (r : Blocks). IsLive r.blocks c.args.block.at c.args.block.len) (sym c.self.view_is) c.requires.live in
    let inside : Inside =
    record {
      words = with_item c.self.inside.words (c.args.block.at + c.args.i) c.args.word;
      ends = c.self.inside.ends;
      count =
          c.self.inside.count;
      used = c.self.inside.used;
    } in
    let words : inside.words.items ≡ slice_set c.self.inside.words.items (c.args.block.at + c.args.i) c.args.word = refl in
    let ends : inside.ends.items ≡ c.self.inside.ends.items = refl in
    let count : inside.count ≡ c.self.inside.count = refl in
    let memory : memory_of inside ≡ memory_of c.self.inside = refl in
    set_blocks c.self.inside inside c.args.block.at c.args.block.len c.args.i c.args.word c.self.invariant live c.requires.within words ends count memory
    ∙ ap (λ (r : Blocks). with_word r c.args.block.at c.args.i c.args.word) c.self.view_is
