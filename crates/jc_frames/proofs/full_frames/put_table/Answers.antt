use Rattle.std.proofs.Common.{◌≡◌, ℕ, ◌++◌, length, map, sym, ◌∙◌, ap, arith}
use Rattle.std.proofs.lemmas.List.{length-map}
use Rattle.jc_bytes.proofs.AppendingLaws.{joined}
use Rattle.jc_bytes.specs.BigNumbers.{short}
use Rattle.jc_methods.specs.VerificationTypes.{type_state_at}
use Rattle.jc_frames.specs.FullFrames.{full_texts, table_text}
use Rattle.jc_frames.proofs.FullTextLaws.{offsets_rise}
use Rattle.jc_frames.proofs.ResultLaws.{ok_then}
use Rattle.jc_frames.proofs.full_frames.put_table.Goals as goal

pub put_frames-requires-clause-rising : goal.put_frames-requires-clause-rising
put_frames-requires-clause-rising c =
    let can = c.requires.written in
    offsets_rise c.args.refers.now.starts.now (length c.args.refers.now.names.now) can.offsets 0 0 (λ j le lt. omega arith) c.args.frames.now can.rising can.each

pub returns : goal.returns
returns c p are =
    let fs = map (type_state_at c.args.refers.now.names.now) c.args.frames.now in
    let old = c.args.into.now.items in
    let mid = c.put_short.new.into.items in
    let new = c.put_frames.new.into.items in
    let head : mid ≡ old ++ short (length fs) =
    c.in_ok-put_short.ensures ∙ ap (λ (n : ℕ). old ++ short n) (sym (length-map c.args.frames.now (type_state_at c.args.refers.now.names.now))) in
    ok_then (new ≡ mid ++ full_texts p 0 fs) (new ≡ old ++ table_text p fs) c.put_frames.result
    (λ e. joined old mid new (short (length fs)) (full_texts p 0 fs) head e) (c.put_frames.ensures p are)
