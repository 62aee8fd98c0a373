use Rattle.std.proofs.Common.{◌+◌, ◌++◌, ℕ, List, length, ◌∙◌, ap, arith}
use Rattle.jc_instrument_code.specs.CodeText.{attribute_text}
use Rattle.jc_instrument_code.specs.InitText.{named_places, count_text, init_bytes, init_frames}
use Rattle.jc_instrument_code.proofs.InitLaws.{init_text_is, count_few, pushed_is}
use Rattle.jc_instrument_code.proofs.init.write_init.Goals as goal

pub overflow_cast-len : goal.overflow_cast-len
overflow_cast-len c =
    let size = ap (λ (l : List ℕ). length l) (pushed_is _ _ _ c.new-pushed.ensures.items c.in_ok-put_count.ensures) in
    let few = count_few c.args.places.now.count c.args.count in
    let len = c.len.ensures in
    omega (arith, size, few, len)

pub overflow_add-len : goal.overflow_add-len
overflow_add-len c =
    let size = ap (λ (l : List ℕ). length l) (pushed_is _ _ _ c.new-pushed.ensures.items c.in_ok-put_count.ensures) in
    let few = count_few c.args.places.now.count c.args.count in
    let len = c.len.ensures in
    omega (arith, size, few, len)

pub put_code-requires : goal.put_code-requires
put_code-requires c =
    let size = ap (λ (l : List ℕ). length l) (c.deref.ensures.value ∙ pushed_is _ _ _ c.new-pushed.ensures.items c.in_ok-put_count.ensures) in
    let few = count_few c.args.places.now.count c.args.count in
    omega (arith, size, few)

pub put_frame-requires : goal.put_frame-requires
put_frame-requires c =
    let size = ap (λ (l : List ℕ). length l) (c.deref-2.ensures.value ∙ pushed_is _ _ _ c.new-pushed.ensures.items c.in_ok-put_count.ensures) in
    let few = count_few c.args.places.now.count c.args.count in
    omega (arith, size, few)

pub returns : goal.returns
returns c =
    let p = named_places c.args.places.now in
    let name = c.args.places.now.frames in
    let array = c.args.places.now.array in
    let pushed = count_text c.args.places.now.count c.args.count in
    let is = pushed_is _ _ _ c.new-pushed.ensures.items c.in_ok-put_count.ensures in
    let size = ap (λ (l : List ℕ). length l) is in
    let len = c.len.ensures in
    c.from_vec.ensures
    ∙ init_text_is p name array c.args.count (22 + c.len.result) c.new-text.result.items c.put_sizes.new.into.items c.put_code.new.into.items
    c.put_short.new.into.items c.put_short-2.new.into.items c.put_frame.new.into.items c.new-text.ensures.items c.in_ok-put_sizes.ensures
    (omega (arith, size, len))
    (c.in_ok-put_code.ensures ∙ ap (λ (l : List ℕ). c.put_sizes.new.into.items ++ init_bytes p l) (c.deref.ensures.value ∙ is))
    c.in_ok-put_short.ensures c.in_ok-put_short-2.ensures
    (c.in_ok-put_frame.ensures ∙ ap (λ (l : List ℕ). c.put_short-2.new.into.items ++ attribute_text (init_frames name array l)) (c.deref-2.ensures.value ∙ is))
