use Rattle.std.proofs.Common.{ℕ, length, map, nat_eq, sym, ◌∙◌, ap, true≢false}
use Rattle.std.proofs.lemmas.List.{length-map}
use Rattle.jc_methods.specs.VerificationTypes.{type_state_at}
use Rattle.jc_instrument.proofs.FramesNameLaws.{name_refused}
use Rattle.jc_instrument.proofs.writing.frames_place.Goals as goal

pub returns-else-is_empty-clause-refused : goal.returns-else-is_empty-clause-refused
returns-else-is_empty-clause-refused c = λ names.
    let frames = c.args.frames.now in
    name_refused c.args.fetch c.in-Constant.is c.args.pool.now (map (type_state_at names) frames)
    (λ none. true≢false (sym (ap (λ (n : ℕ). nat_eq n 0) (sym (length-map frames (type_state_at names)) ∙ none)) ∙ sym c.is_empty.ensures ∙ c.if-is_empty.false))
    c.add_utf8.result c.add_utf8.ensures.full
