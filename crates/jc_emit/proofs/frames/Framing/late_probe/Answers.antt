use Rattle.std.proofs.Common.{ℕ, List, Option, None, length, get_or, sym, ap, arith}
use Rattle.jc_emit.proofs.FramingLaws.{outs_long, test_read}
use Rattle.jc_emit.proofs.frames.Framing.late_probe.Goals as goal

pub bounds-deref-at-in-Branches : goal.bounds-deref-at-in-Branches
bounds-deref-at-in-Branches c =
    omega (arith, ap length c.deref-in-Branches.ensures, outs_long c.requires.framing.0 c.requires.framing.1 c.args.self.now c.requires.framing.2, c.requires.at)

pub returns-in-len2 : goal.returns-in-len2
returns-in-len2 c = λ first given is.
    ap (λ (l : List (Option ℕ)). get_or l 1 None)
    (test_read first given c.args.self.now is c.deref.result.now c.deref-in-Branches.result.now c.args.at c.index-deref-at.result c.index-deref-at-in-Branches.result c.as_slice.result.now
    c.deref.ensures c.index-deref-at.is c.deref-in-Branches.ensures c.index-deref-at-in-Branches.is c.requires.at (sym c.in-Branches.ensures) c.as_slice.ensures)

pub returns-in_default-as_slice : goal.returns-in_default-as_slice
returns-in_default-as_slice c = λ first given is.
    let e = ap (λ (l : List (Option ℕ)). length l)
    (test_read first given c.args.self.now is c.deref.result.now c.deref-in-Branches.result.now c.args.at c.index-deref-at.result c.index-deref-at-in-Branches.result c.as_slice.result.now
    c.deref.ensures c.index-deref-at.is c.deref-in-Branches.ensures c.index-deref-at-in-Branches.is c.requires.at (sym c.in-Branches.ensures) c.as_slice.ensures) in
    absurd (omega (arith, e, c.in_default-as_slice.len_below))

pub returns-in_default-as_slice-2 : goal.returns-in_default-as_slice-2
returns-in_default-as_slice-2 c = λ first given is.
    let e = ap (λ (l : List (Option ℕ)). length l)
    (test_read first given c.args.self.now is c.deref.result.now c.deref-in-Branches.result.now c.args.at c.index-deref-at.result c.index-deref-at-in-Branches.result c.as_slice.result.now
    c.deref.ensures c.index-deref-at.is c.deref-in-Branches.ensures c.index-deref-at-in-Branches.is c.requires.at (sym c.in-Branches.ensures) c.as_slice.ensures) in
    absurd (omega (arith, e, c.in_default-as_slice.len_at_least))
