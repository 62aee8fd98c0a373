use Rattle.std.proofs.Common.{◌≡◌, ℕ, ◌+◌, List, ◌++◌, length, take, drop, replicate, refl, arith, ◌∙◌, ap, sym}
use Rattle.std.proofs.lemmas.List.{with_items_is}
use Rattle.std.specs.Vec.{with_item, with_items}
use Rattle.jc_region.specs.declared.region.Region.TheInside.{Inside}
use Rattle.jc_region.specs.Blocks.{Blocks, words_in, with_block}
use Rattle.jc_region.specs.Places.{IsSound, blocks_of}
use Rattle.jc_region.proofs.InsideLaws.{used_is, count_below, Grown, grown_sound, grown_blocks}
use Rattle.jc_region.proofs.region.Region.alloc.Goals as goal

-- the room and the words of the view
most_is : (r : Inside) (region : Blocks) → blocks_of r ≡ region → length r.words.items ≡ region.most
most_is r region view = ap (λ b. b.most) view

words_is : (r : Inside) (region : Blocks) → IsSound r → blocks_of r ≡ region → words_in region.blocks ≡ r.used
words_is r region sound view = ap (λ b. words_in b.blocks) (sym view) ∙ used_is r sound

pub returns-then-len-self-clause-room : goal.returns-then-len-self-clause-room
returns-then-len-self-clause-room c =
    let most = most_is c.self.inside c.args.self.now c.self.view_is in
    let words = words_is c.self.inside c.args.self.now c.self.invariant c.self.view_is in
    (λ is. omega (arith, most, words), λ less. refl)

pub returns-clause-room : goal.returns-clause-room
returns-clause-room c =
    let most = most_is c.self.inside c.args.self.now c.self.view_is in
    let words = words_is c.self.inside c.args.self.now c.self.invariant c.self.view_is in
    (λ is. absurd cc, λ less. absurd (omega (arith, most, words)))

pub returns-clause-place : goal.returns-clause-place
returns-clause-place c = ap (λ n. record { at = n; len = c.args.len }) (sym (words_is c.self.inside c.args.self.now c.self.invariant c.self.view_is))

pub index_mut-requires : goal.index_mut-requires
index_mut-requires c = omega (arith, count_below c.self.inside c.self.invariant, c.if-len-self.false, c.self.invariant.as_many, c.requires, c.len.ensures)

pub overflow_add-self-2 : goal.overflow_add-self-2
overflow_add-self-2 c = omega (arith, count_below c.self.inside c.self.invariant, c.if-len-self.false, c.self.invariant.few, c.requires, c.len.ensures)

grown : (c : goal.After-self-4-1) → Grown c.self.inside (record {
  words = with_items c.self.inside.words c.clear.new.words;
  ends = with_item c.self.inside.ends c.self.inside.count (c.self.inside.used + c.args.len);
  count = c.self.inside.count + 1;
  used = c.self.inside.used + c.args.len;
}) c.args.len
grown c =
    let used = c.self.inside.used in
    let len = c.args.len in
    record {
      used = refl;
      count = refl;
      words = with_items_is c.self.inside.words c.clear.new.words (c.clear.auto.words ∙ c.deref_mut.ensures.len)
          ∙ (c.clear.ensures ∙ ap (λ (ws : List ℕ). take used ws ++ (replicate len 0 ++ drop (used + len) ws)) c.deref_mut.ensures.value);
      ends = refl;
      some = c.requires;
      room = omega arith;
      memory = refl;
    }

pub invariant_of-self : goal.invariant_of-self
invariant_of-self c = grown_sound c.self.inside _ c.args.len c.self.invariant (grown c)

pub returns-clause-block : goal.returns-clause-block
returns-clause-block c =
    grown_blocks c.self.inside _ c.args.len c.self.invariant (grown c) ∙ ap (λ (r : Blocks). with_block r c.args.len) c.self.view_is
