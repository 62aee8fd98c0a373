use Rattle.std.proofs.Common.{ℕ, List, [], ◌∷◌, sym, refl, subst, arith}
use Rattle.std.specs.Prelude.{Contains}
use Rattle.std.proofs.lemmas.List.Elements.{Contains-append_right}
use Rattle.jc_board.proofs.KnownLaws.{known_hit}
use Rattle.jc_dump.proofs.sink.DumpSinkProbeSink.hit.Goals as goal

pub returns-then-has-clause-gained : goal.returns-then-has-clause-gained
returns-then-has-clause-gained g c =
    let sink = c.args.self.now in
    known_hit sink.board.now.counts sink.seat.pending sink.known c.args.class c.args.id sink.remembers (c.has.ensures.known c.if-has.true)

pub returns-clause-gained : goal.returns-clause-gained
returns-clause-gained g c =
    let class = c.args.class in
    let id = c.args.id in
    subst (λ (l : List (ℕ × ℕ)). Contains l (class, id)) (sym c.hit.ensures.pending)
    (Contains-append_right c.args.self.now.seat.pending ((class, id) ∷ []) (class, id) (0, omega arith, refl))
