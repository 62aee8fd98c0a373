use Rattle.std.proofs.Common.{◌+◌, ◌++◌, ℕ, List, length, ◌∙◌, ap, arith}
use Rattle.jc_instrument_code.specs.InitText.{named_places, bootstrap_bytes}
use Rattle.jc_instrument_code.proofs.InitLaws.{count_few, pushed_is}
use Rattle.jc_instrument_code.proofs.BootstrapLaws.{bootstrap_text_is}
use Rattle.jc_instrument_code.proofs.init.write_bootstrap.Goals as goal

pub overflow_cast-len : goal.overflow_cast-len
overflow_cast-len c =
    let size = ap (λ (l : List ℕ). length l) (pushed_is _ _ _ c.new-pushed.ensures.items c.in_ok-put_count.ensures) in
    let few = count_few c.args.places.now.count c.args.count in
    let len = c.len.ensures in
    omega (arith, size, few, len)

pub overflow_add-len : goal.overflow_add-len
overflow_add-len c =
    let size = ap (λ (l : List ℕ). length l) (pushed_is _ _ _ c.new-pushed.ensures.items c.in_ok-put_count.ensures) in
    let few = count_few c.args.places.now.count c.args.count in
    let len = c.len.ensures in
    omega (arith, size, few, len)

pub returns : goal.returns
returns c =
    let p = named_places c.args.places.now in
    let is = pushed_is _ _ _ c.new-pushed.ensures.items c.in_ok-put_count.ensures in
    let size = ap (λ (l : List ℕ). length l) is in
    let len = c.len.ensures in
    c.from_vec.ensures
    ∙ bootstrap_text_is p c.args.count (10 + c.len.result) c.new-text.result.items c.put_sizes.new.into.items c.put_bootstrap_code.new.into.items
    c.put_short.new.into.items c.put_short-2.new.into.items c.new-text.ensures.items c.in_ok-put_sizes.ensures (omega (arith, size, len))
    (c.in_ok-put_bootstrap_code.ensures ∙ ap (λ (l : List ℕ). c.put_sizes.new.into.items ++ bootstrap_bytes p l) (c.deref.ensures.value ∙ is))
    c.in_ok-put_short.ensures c.in_ok-put_short-2.ensures
