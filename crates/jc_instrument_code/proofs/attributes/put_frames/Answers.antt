use Rattle.std.proofs.Common.{◌++◌, ℕ, List, length, map, ◌∙◌, ap, arith}
use Rattle.std.specs.Prelude.{slice_index}
use Rattle.std.proofs.lemmas.List.{length-map}
use Rattle.jc_methods.specs.VerificationTypes.{type_state_at}
use Rattle.jc_instrument_code.specs.TwinCode.{places_by}
use Rattle.jc_instrument_code.proofs.AttributeLaws.{are_places, frames_text, some_left}
use Rattle.jc_instrument_code.proofs.attributes.put_frames.Goals as goal

pub returns : goal.returns
returns c =
    let pool = c.args.pool.now in
    let starts = c.args.starts.now in
    let named = c.args.frames in
    let seen = map (type_state_at named.names.now) named.frames.now in
    let p = places_by pool (slice_index starts) in
    let count = length-map named.frames.now (type_state_at named.names.now) in
    frames_text c.args.name c.in-Ok.size p seen c.new-table.result.items c.write_taken.new.into.items c.args.into.now.items
    c.put_header.new.into.items c.put_bytes.new.into.items
    (let some = some_left (length named.frames.now) c.is_empty.result c.is_empty.ensures c.if-is_empty.false in omega (arith, count, some))
    c.new-table.ensures.items (c.in_ok-write_taken.ensures.text p (are_places pool starts)) (let is = c.in-Ok.ensures.1 in let len = c.len.ensures in omega (arith, is, len))
    c.in_ok-put_header.ensures (c.in_ok-put_bytes.ensures.ok ∙ ap (λ (l : List ℕ). c.put_header.new.into.items ++ l) c.deref.ensures.value)
