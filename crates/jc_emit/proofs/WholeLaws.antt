-- The code that the function gives is that of a twin.
use Rattle.std.proofs.Common.{ℕ, List, map, sym, subst}
use Rattle.jc_methods.specs.WellMade.{IsCode}
use Rattle.jc_methods.specs.declared.body.Body.{Body}
use Rattle.jc_methods.specs.declared.insn.Insn.{Insn}
use Rattle.jc_emit.specs.Sizes.{TwinForm}
use Rattle.jc_emit.specs.Marks.{TwinPlaces, Marks, land_place, lead_place}
use Rattle.jc_emit.specs.TwinCode.{Sentences, IsTwinCode}
use Rattle.jc_emit.specs.Items.{marks_of_items, insn_of, twin_items, image_of, land_of, lead_of}
use Rattle.jc_emit.proofs.EndsLaws.{images_are, lands_are, leads_are}
use Rattle.jc_emit.proofs.ToldLaws.{lengths_told, prelude_told, images_told, places_told, jumps_told, switches_told}
use Rattle.jc_emit.proofs.OthersLaws.{nothing_else_told}

module _ (b : Body) (first : ℕ) (form : TwinForm) (named : TwinPlaces) (is_code : IsCode b.code) where
  -- the code that the function gives, and what is said of each instruction
  abbrev code : List Insn
  code = map (insn_of named b.arg_slots) (twin_items b first form)

  abbrev marks : Marks
  marks = marks_of_items (twin_items b first form)

  pub sentences : Sentences b first form named code marks (image_of b first form) (land_of b first form) (lead_of b first form)
  sentences = record {
    lengths = lengths_told b first form named;
    prelude = prelude_told b first form named;
    images = images_told b first form named;
    nothing_else = nothing_else_told b first form named is_code;
    places = places_told b first form named;
    jumps = jumps_told b first form named;
    switches = switches_told b first form named;
  }

pub code_told : (b : Body) (first : ℕ) (form : TwinForm) (named : TwinPlaces) → IsCode b.code
    → IsTwinCode b first form named (map (insn_of named b.arg_slots) (twin_items b first form)) (marks_of_items (twin_items b first form))
code_told b first form named is_code =
    let code = map (insn_of named b.arg_slots) (twin_items b first form) in
    let m = marks_of_items (twin_items b first form) in
    subst (λ f. Sentences b first form named code m f (land_place b first m.own) (lead_place b first m.own)) (sym (images_are b first form is_code))
    (subst (λ f. Sentences b first form named code m (image_of b first form) f (lead_place b first m.own)) (sym (lands_are b first form is_code))
    (subst (λ f. Sentences b first form named code m (image_of b first form) (land_of b first form) f) (sym (leads_are b first form is_code))
    (sentences b first form named is_code)))
