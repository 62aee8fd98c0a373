use Rattle.std.proofs.Common.{◌≡◌, ◌↔◌, Bool, true, false, sym, ◌∙◌, rules}
use Rattle.std.proofs.lemmas.Bool.{true≢false}
use Rattle.jc_emit.proofs.StraddlingLaws.{insn_next, insn_none}
use Rattle.jc_emit.proofs.straddling.first_insn.Goals as goal

-- where the test fails the fact doesn't hold
failed : (test : Bool) (Fact : Type 0) → (test ≡ true) ↔ Fact → test ≡ false → Fact → ⊥
failed test Fact decided fails fact = true≢false (sym (decided.1 fact) ∙ fails)

pub seeking-preserved : goal.seeking-preserved
seeking-preserved c =
    insn_next c.args.arg_slots c.args.code.now c.seeking.at c.index-code-at.result (search rules) (search rules)
    (failed c.insn_straddles.result _ c.insn_straddles.ensures c.if-insn_straddles.false) c.seeking.invariant

pub returns : goal.returns
returns c = insn_none c.args.arg_slots c.args.code.now c.seeking.at (search rules) c.seeking.invariant
