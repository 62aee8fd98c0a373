use Rattle.std.proofs.Common.{◌≡◌, ◌≤◌, inl, inr, sym, ◌∙◌, ap, subst, arith, ⊎_elim}
use Rattle.std.proofs.lemmas.Bool.{le-leb}
use Rattle.jc_instrument.specs.Bootstraps.{NamesPast}
use Rattle.jc_instrument.proofs.BootstrapsLaws.{arguments_of, handle_past, no_count, no_handle, past_behind}
use Rattle.jc_instrument.proofs.bootstraps.pass_bootstrap.Goals.{then-handle-limit, else-handle-limit}
use Rattle.jc_instrument.proofs.bootstraps.pass_bootstrap.Goals as goal

pub returns-in_err-handle : goal.returns-in_err-handle
returns-in_err-handle c = rw c.from_residual.ensures (λ b rest e. no_handle c.args.bytes.now b rest e c.in_err-handle.ensures)

pub returns-in_err-count : goal.returns-in_err-count
returns-in_err-count c =
    rw c.from_residual-in_err-count.ensures
    (λ b rest e. no_count c.args.bytes.now b rest e c.in_ok-handle.handle c.in_ok-handle.behind.now c.in_ok-handle.ensures c.in_err-count.ensures)

pub returns-in_err-past : goal.returns-in_err-past
returns-in_err-past c =
    rw c.from_residual-in_err-past.ensures
    (λ b rest e.
    let a = arguments_of c.args.bytes.now b rest e c.in_ok-handle.handle c.in_ok-handle.behind.now c.in_ok-handle.ensures
    c.in_ok-count.count c.in_ok-count.places.now c.in_ok-count.ensures in
    c.in_err-past.ensures b.arguments rest a.1)

pub returns : goal.returns
returns c = λ b rest e.
    let a = arguments_of c.args.bytes.now b rest e c.in_ok-handle.handle c.in_ok-handle.behind.now c.in_ok-handle.ensures
    c.in_ok-count.count c.in_ok-count.places.now c.in_ok-count.ensures in
    let p = c.in_ok-past.ensures b.arguments rest a.1 in (
      p.0,
      elim c.if-handle-limit.branch [
        | then-handle-limit w ↦ handle_past c.args.limit b c.in_ok-handle.handle a.0 c.if-handle-limit.result w.if-handle-limit.true
            (w.result-is ∙ le-leb c.args.limit c.in_ok-handle.handle w.if-handle-limit.true)
        | else-handle-limit w ↦ past_behind c.args.limit b c.in_ok-handle.handle a.0 c.in_ok-past.past c.if-handle-limit.result w.if-handle-limit.false w.result-is p.1
      ],
    )
