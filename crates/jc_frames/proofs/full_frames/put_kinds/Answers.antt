use Rattle.std.proofs.Common.{◌≡◌, ℕ, ◌++◌, length, map, sym, ◌∙◌, ap}
use Rattle.std.proofs.lemmas.List.{length-map}
use Rattle.std.specs.List.{flat_map}
use Rattle.jc_bytes.proofs.AppendingLaws.{joined}
use Rattle.jc_bytes.specs.BigNumbers.{short}
use Rattle.jc_methods.specs.VerificationTypes.{verification_type}
use Rattle.jc_frames.specs.FullFrames.{type_text, types_text}
use Rattle.jc_frames.proofs.ResultLaws.{ok_then}
use Rattle.jc_frames.proofs.full_frames.put_kinds.Goals as goal

pub returns-clause-text : goal.returns-clause-text
returns-clause-text c p are =
    let hs = map (verification_type c.args.refers.now.names.now) c.args.kinds.now in
    let old = c.args.into.now.items in
    let mid = c.put_short.new.into.items in
    let new = c.put_listed_kinds.new.into.items in
    let head : mid ≡ old ++ short (length hs) =
    c.in_ok-put_short.ensures ∙ ap (λ (n : ℕ). old ++ short n) (sym (length-map c.args.kinds.now (verification_type c.args.refers.now.names.now))) in
    ok_then (new ≡ mid ++ flat_map (type_text p) hs) (new ≡ old ++ types_text p hs) c.put_listed_kinds.result
    (λ e. joined old mid new (short (length hs)) (flat_map (type_text p) hs) head e) (c.put_listed_kinds.ensures.text p are)
