use Rattle.std.proofs.Common.{◌≡◌, inl, inr, List, length, rules, refl, subst, arith}
use Rattle.jc_methods.specs.declared.insn.Insn.{Insn}
use Rattle.jc_methods.specs.InsnUse.{LocalsWithin}
use Rattle.jc_body.specs.First.{FirstItem}
use Rattle.jc_body.specs.Faults.{IsAstray}
use Rattle.jc_body.specs.Standing.{HasRightEntry}
use Rattle.jc_body.proofs.FaultLaws.{least_found, found_inside, none_found}
use Rattle.jc_body.proofs.faults.insn_fault.Goals as goal

pub returns-in-Some : goal.returns-in-Some
returns-in-Some c =
    inl (least_found c.args.coded.now c.requires.starts (λ number insn. HasRightEntry c.args.major c.args.pool.now insn → ⊥) c.deref.result.now
    c.deref-in-Some.result.now c.first_wrong_entry.result c.in-Some.number
    (search rules) (search rules) (search rules) c.first_wrong_entry.ensures)

pub bounds-deref-number-in-Some-first_astray : goal.bounds-deref-number-in-Some-first_astray
bounds-deref-number-in-Some-first_astray c =
    found_inside c.args.coded.now c.requires.starts (IsAstray (length c.deref-2.result.now)) c.deref-2.result.now
    c.deref-in-Some-first_astray.result.now c.first_astray.result c.in-Some-first_astray.number
    (search rules) (search rules) (search rules) c.first_astray.ensures

pub offset_bounds-deref-number-in-Some-first_astray : goal.offset_bounds-deref-number-in-Some-first_astray
offset_bounds-deref-number-in-Some-first_astray c =
    let inside = found_inside c.args.coded.now c.requires.starts (IsAstray (length c.deref-2.result.now)) c.deref-2.result.now
    c.args.coded.now.starts c.first_astray.result c.in-Some-first_astray.number
    (search rules) refl (search rules) c.first_astray.ensures in
    omega (arith, inside, c.requires.few, c.requires.starts.one_more)

pub returns-in-Some-first_astray : goal.returns-in-Some-first_astray
returns-in-Some-first_astray c =
    let insns : c.deref-2.result.now ≡ c.args.coded.now.insns = search rules in
    let first = subst (λ (l : List Insn). FirstItem (IsAstray (length l)) l c.first_astray.result) insns c.first_astray.ensures in
    inr (
      none_found c.args.coded.now c.requires.starts (λ number insn. HasRightEntry c.args.major c.args.pool.now insn → ⊥) c.deref.result.now
          c.first_wrong_entry.result (search rules) (search rules) c.first_wrong_entry.ensures,
      inl (least_found c.args.coded.now c.requires.starts (IsAstray (length c.args.coded.now.insns)) c.args.coded.now.insns
          c.deref-in-Some-first_astray.result.now c.first_astray.result c.in-Some-first_astray.number
          refl (search rules) (search rules) first),
    )

pub bounds-deref-number-in-Some-first_local_outside : goal.bounds-deref-number-in-Some-first_local_outside
bounds-deref-number-in-Some-first_local_outside c =
    found_inside c.args.coded.now c.requires.starts (λ number insn. LocalsWithin c.args.coded.now.items.max_locals insn → ⊥) c.deref-3.result.now
    c.deref-in-Some-first_local_outside.result.now c.first_local_outside.result c.in-Some-first_local_outside.number
    (search rules) (search rules) (search rules) c.first_local_outside.ensures

pub offset_bounds-deref-number-in-Some-first_local_outside : goal.offset_bounds-deref-number-in-Some-first_local_outside
offset_bounds-deref-number-in-Some-first_local_outside c =
    let inside = found_inside c.args.coded.now c.requires.starts (λ number insn. LocalsWithin c.args.coded.now.items.max_locals insn → ⊥)
    c.deref-3.result.now c.args.coded.now.starts c.first_local_outside.result c.in-Some-first_local_outside.number
    (search rules) refl (search rules) c.first_local_outside.ensures in
    omega (arith, inside, c.requires.few, c.requires.starts.one_more)

pub returns-in-Some-first_local_outside : goal.returns-in-Some-first_local_outside
returns-in-Some-first_local_outside c =
    let insns : c.deref-2.result.now ≡ c.args.coded.now.insns = search rules in
    let first = subst (λ (l : List Insn). FirstItem (IsAstray (length l)) l c.first_astray.result) insns c.first_astray.ensures in
    inr (
      none_found c.args.coded.now c.requires.starts (λ number insn. HasRightEntry c.args.major c.args.pool.now insn → ⊥) c.deref.result.now
          c.first_wrong_entry.result (search rules) (search rules) c.first_wrong_entry.ensures,
      inr (
        none_found c.args.coded.now c.requires.starts (IsAstray (length c.args.coded.now.insns)) c.args.coded.now.insns c.first_astray.result refl (search rules) first,
        inl (least_found c.args.coded.now c.requires.starts (λ number insn. LocalsWithin c.args.coded.now.items.max_locals insn → ⊥)
            c.deref-3.result.now c.deref-in-Some-first_local_outside.result.now c.first_local_outside.result c.in-Some-first_local_outside.number
            (search rules) (search rules) (search rules) c.first_local_outside.ensures),
      ),
    )
