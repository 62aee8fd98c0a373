use Rattle.std.proofs.Common.{◌≡◌, ◌++◌, ℕ, List, length, ap, sym, ◌∙◌, subst, arith}
use Rattle.std.specs.Prelude.{slice_index}
use Rattle.jc_methods.specs.Widened.{listed}
use Rattle.jc_insn.specs.Spells.{Spells}
use Rattle.jc_insn.specs.Writing.{code_text}
use Rattle.jc_layout.specs.Layout.{laid_code, laid_starts, chosen_list, chosen_starts, too_large}
use Rattle.jc_layout.proofs.ChoiceLaws.{chosen_count, end_is, text_length, stand, near, is_chosen, is_text}
use Rattle.jc_layout.proofs.layouts.layout_code.Goals as goal

pub index-length-requires : goal.index-length-requires
index-length-requires c = let e = ap length c.in_ok-starts.ensures.starts in let n = chosen_count c.args.insns.now in omega (arith, e, n)

pub returns-then-length-gt-MOST_BYTES-clause-refused : goal.returns-then-length-gt-MOST_BYTES-clause-refused
returns-then-length-gt-MOST_BYTES-clause-refused c =
    let size = end_is c.args.insns.now c.in_ok-starts.field-0.starts.items c.index-length.result.now c.in_ok-starts.ensures.starts
    c.index-length.ensures in
    let long = c.if-length-gt-MOST_BYTES.true in
    (c.too_large.ensures ∙ ap too_large size, omega (arith, size, long))

pub encode-requires-clause-starts : goal.encode-requires-clause-starts
encode-requires-clause-starts c =
    stand c.args.insns.now c.deref.result.now c.deref-2.result.now
    (let e : c.deref.result.now ≡ chosen_starts c.args.insns.now = cc (c.deref.ensures.value, c.in_ok-starts.ensures.starts) in e)
    (let e : c.deref-2.result.now ≡ chosen_list c.args.insns.now = cc (c.deref-2.ensures.value, c.in_ok-starts.ensures.wide) in e)

pub encode-requires-clause-near : goal.encode-requires-clause-near
encode-requires-clause-near c =
    near c.args.insns.now c.deref.result.now c.deref-2.result.now
    (let e : c.deref.result.now ≡ chosen_starts c.args.insns.now = cc (c.deref.ensures.value, c.in_ok-starts.ensures.starts) in e)
    (let e : c.deref-2.result.now ≡ chosen_list c.args.insns.now = cc (c.deref-2.ensures.value, c.in_ok-starts.ensures.wide) in e)

pub returns-clause-chosen : goal.returns-clause-chosen
returns-clause-chosen c =
    is_chosen c.args.insns.now c.in_ok-starts.field-0.starts.items c.from_vec-3.result c.in_ok-starts.ensures.starts
    (let e : c.from_vec-3.result ≡ chosen_list c.args.insns.now = cc (c.from_vec-3.ensures, c.in_ok-starts.ensures.wide) in e)

pub returns-clause-starts : goal.returns-clause-starts
returns-clause-starts c =
    stand c.args.insns.now c.from_vec-2.result c.from_vec-3.result
    (let e : c.from_vec-2.result ≡ chosen_starts c.args.insns.now = cc (c.from_vec-2.ensures, c.in_ok-starts.ensures.starts) in e)
    (let e : c.from_vec-3.result ≡ chosen_list c.args.insns.now = cc (c.from_vec-3.ensures, c.in_ok-starts.ensures.wide) in e)

pub returns-clause-text : goal.returns-clause-text
returns-clause-text c =
    let insns = c.args.insns.now in
    let starts = c.deref.result.now in
    let wide = c.deref-2.result.now in
    let starts_are : c.deref.result.now ≡ chosen_starts c.args.insns.now = cc (c.deref.ensures.value, c.in_ok-starts.ensures.starts) in
    let wide_are : c.deref-2.result.now ≡ chosen_list c.args.insns.now = cc (c.deref-2.ensures.value, c.in_ok-starts.ensures.wide) in
    c.from_vec.ensures
    ∙ c.in_ok-encode.ensures.ok
    ∙ ap (λ (l : List ℕ). l ++ code_text (slice_index starts) (listed wide) 0 insns starts) c.new-code.ensures.items
    ∙ is_text insns starts wide starts_are wide_are

pub returns-clause-spelled : goal.returns-clause-spelled
returns-clause-spelled c =
    let insns = c.args.insns.now in
    let same_starts : c.deref.result.now ≡ c.from_vec-2.result = cc (c.deref.ensures.value, c.from_vec-2.ensures) in
    let same_wide : c.deref-2.result.now ≡ c.from_vec-3.result = cc (c.deref-2.ensures.value, c.from_vec-3.ensures) in
    let s = c.in_ok-encode.ensures.spelled in
    let bytes : c.from_vec.result ≡ s.0 = c.from_vec.ensures ∙ s.1 ∙ ap (λ (l : List ℕ). l ++ s.0) c.new-code.ensures.items in
    subst (λ w. Spells c.from_vec.result (laid_code w insns) (laid_starts w insns c.from_vec-2.result)) same_wide
    (subst (λ l. Spells c.from_vec.result (laid_code c.deref-2.result.now insns) (laid_starts c.deref-2.result.now insns l)) same_starts
    (subst (λ l. Spells l (laid_code c.deref-2.result.now insns) (laid_starts c.deref-2.result.now insns c.deref.result.now)) (sym bytes) s.2))

pub returns-clause-size : goal.returns-clause-size
returns-clause-size c = ap length (returns-clause-text c) ∙ text_length c.args.insns.now
