-- The image of an instruction needs what the instruction does, in a twin and in an unchanged body.
use Rattle.std.proofs.Common.{◌≡◌, ℕ, Option, Some, refl, sym, ◌∙◌, ap}
use Rattle.std.specs.Prelude.{slice_get}
use Rattle.std.proofs.lemmas.Option.{slice_get-get_or}
use Rattle.jc_methods.specs.declared.insn.Insn.{Insn}
use Rattle.jc_methods.specs.declared.insn.Insn.TheVariants as insns
use Rattle.jc_programs.specs.declared.program.Program.{Program}
use Rattle.jc_programs.specs.declared.run_end.Entry.{Entry}
use Rattle.jc_emit.specs.Items.{image}
use Rattle.jc_emit.specs.Sizes.{insn_at}
use Rattle.jc_machine_model.specs.Profile.{operation_of}
use Rattle.jc_machine_model.specs.Step.{operation_at}
use Rattle.jc_twin_simulation.specs.Sides.{Side, IsSide, AreSides}
use Rattle.jc_twin_simulation.proofs.FrameLaws.{location, located_is, past_start, beyond_start}
use Rattle.jc_twin_simulation.proofs.OperationLaws.{alike}
use Rattle.jc_refs_check.specs.Needs.{needs_of}
use Rattle.jc_refs_check.specs.RefsOk.{operation_of_place}
use Rattle.jc_refs_laws.proofs.AlikeLaws.{alike_needs}

module _ (p p' : Program) (sides : Entry → Side) (are : AreSides p p' sides) where
  pub image_needs : (method : Entry) → IsSide p p' method (sides method) → (q i : ℕ) (new : Insn) (early : Option ℕ)
      → slice_get (sides method).items q ≡ Some (image new i early)
      → needs_of (operation_of_place p' method q) ≡ needs_of (operation_of_place p method i)
  image_needs method side q i new early here =
      let t = sides method in
      let insn = insn_at t.body.code i in
      let ok = side.ok.ok q (image new i early) here in
      let twin = side.code.each q (image new i early) here in
      let past = past_start p p' sides method side q (image new i early) here refl in
      let beyond = beyond_start p p' sides method side q (image new i early) here refl in
      let old_is =
      located_is p method i t.class t.body insn side.class_is side.body_is (slice_get-get_or t.body.code i (insns.Simple 0) ok.0) in
      let new_is = located_is p' method q t.new t.twin new side.new_is side.twin_is (twin.1 ∙ ap Some twin.2) in
      ap (λ o. needs_of (operation_at p' o)) new_is
      ∙ alike_needs p p' sides t q i (operation_of p (location method i t.class t.body) insn) (operation_of p' (location method q t.new t.twin) new)
      (alike p p' sides are method side q i past beyond new ok.0 ok.2)
      ∙ sym (ap (λ o. needs_of (operation_at p o)) old_is)
