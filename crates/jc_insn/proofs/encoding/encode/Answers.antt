use Rattle.std.proofs.Common.{◌≡◌, ◌<◌, length, get_or, arith, Bool, List, ℕ, All, subst, sym, ap, ◌∙◌, ◌++◌}
use Rattle.std.specs.Prelude.{slice_index}
use Rattle.jc_methods.specs.declared.insn.Insn.{Insn}
use Rattle.jc_methods.specs.Flow.{targets_of}
use Rattle.jc_methods.specs.Insn.{with_places}
use Rattle.jc_methods.specs.Widened.{listed}
use Rattle.jc_insn.proofs.InsnWritingLaws.{puts_insn, all_put}
use Rattle.jc_insn.proofs.SizeSumsLaws.{count_starts, below_last}
use Rattle.jc_insn.specs.Writing.{insn_text, code_text}
use Rattle.jc_insn.proofs.LaidOutLaws.{IsLaidOut}
use Rattle.jc_insn.proofs.WideCodeLaws.{spells_wide}
use Rattle.jc_insn.proofs.encoding.encode.Goals as goal
use Rattle.jc_insn.proofs.encoding.encode.Goals.{After-drop-text-2}

pub bounds-starts-number : goal.bounds-starts-number
bounds-starts-number c =
    let long = count_starts (listed c.args.wide.now) 0 0 c.args.code.now c.args.starts.now c.requires.starts in omega (arith, long)

pub put_insn-requires-clause-at : goal.put_insn-requires-clause-at
put_insn-requires-clause-at c =
    let long = count_starts (listed c.args.wide.now) 0 0 c.args.code.now c.args.starts.now c.requires.starts in
    let last = below_last (listed c.args.wide.now) 0 0 c.args.code.now c.args.starts.now c.requires.starts c.writing.number (omega (arith, long)) in
    omega (arith, last, c.requires.end)

pub put_insn-requires-clause-places : goal.put_insn-requires-clause-places
put_insn-requires-clause-places c = λ k d below.
    let long = count_starts (listed c.args.wide.now) 0 0 c.args.code.now c.args.starts.now c.requires.starts in
    let all : All (λ to. to < length c.args.code.now) (targets_of c.index-code-number.result) =
    subst (λ (i : Insn). All (λ to. to < length c.args.code.now) (targets_of i)) (sym c.index-code-number.is)
    (c.requires.places c.writing.number c.index-code-number.result c.writing-test.true) in
    let inside = all k d below in
    omega (arith, inside, long)

pub writing-preserved : goal.writing-preserved
writing-preserved c =
    let long = count_starts (listed c.args.wide.now) 0 0 c.args.code.now c.args.starts.now c.requires.starts in
    let starts = c.args.starts.now in
    let insn = c.index-code-number.result in
    let old = c.writing.text.items in
    let new = c.put_insn.new.out.items in
    puts_insn starts (listed c.args.wide.now) c.args.code.now c.writing.number insn old new
    (omega arith) (omega (arith, long)) c.index-code-number.is c.writing.invariant
    (subst (λ (w : Bool). new ≡ old ++ insn_text (get_or starts c.writing.number 0) w (with_places (slice_index starts) insn)) c.is_listed.ensures
    c.in_ok-put_insn.ensures.text) c.in_ok-put_insn.ensures.range

wrote : (c : After-drop-text-2) → (c.extend_from_slice.new.self.items ≡ c.args.into.now.items
    ++ code_text (slice_index c.args.starts.now) (listed c.args.wide.now) 0 c.args.code.now c.args.starts.now)
    × IsLaidOut (listed c.args.wide.now) c.args.code.now c.args.starts.now
wrote c =
    let put = all_put c.args.starts.now (listed c.args.wide.now) c.args.code.now c.writing.number c.writing.text.items
    (omega (arith, c.writing-test.false)) c.writing.invariant in (
      c.in_ok-extend_from_slice.ensures.items ∙ ap (λ (l : List ℕ). c.args.into.now.items ++ l) (c.deref.ensures.value ∙ put.0),
      record { starts_at = c.requires.starts; end = c.requires.end; well_formed = c.requires.well_formed; in_range = put.1; places = c.requires.places },
    )

pub returns-clause-spelled : goal.returns-clause-spelled
returns-clause-spelled c =
    let w = wrote c in
    (_, w.0, spells_wide (listed c.args.wide.now) c.args.code.now c.args.starts.now w.1 c.requires.near)
