use Rattle.std.proofs.Common.{List, ℕ, ◌≡◌, ◌++◌, map, ◌∙◌, ap}
use Rattle.jc_methods.specs.VerificationTypes.{type_state_at}
use Rattle.jc_frames.specs.FullFrames.{table_text}
use Rattle.jc_frames.proofs.ResultLaws.{ok_then}
use Rattle.jc_frames.proofs.full_frames.write_taken.Goals as goal

pub returns-clause-text : goal.returns-clause-text
returns-clause-text c p are =
    let text = table_text p (map (type_state_at c.args.names.now) c.args.frames.now) in
    let old = c.args.into.now.items in
    let new = c.put_bytes.new.into.items in
    ok_then (new ≡ old ++ c.deref.result.now) (new ≡ old ++ text) c.put_bytes.result
    (λ e. e ∙ ap (λ (l : List ℕ). old ++ l)
    (c.deref.ensures.value ∙ c.in_ok-put_table.ensures p are ∙ ap (λ (l : List ℕ). l ++ text) c.new-table.ensures.items))
    c.put_bytes.ensures.ok
