-- The bodies of a class that no cause refuses have room for their probes.
use Rattle.std.proofs.Common.{◌≡◌, ◌⊎◌, inl, inr, ℕ, ◌<◌, ◌≤◌, List, [], ◌∷◌, ◌++◌, slice_get, Some, false, refl, arith}
use Rattle.std.proofs.lemmas.Bool.{cases_lt}
use Rattle.jc_methods.specs.ProbeMembers.{most_probes}
use Rattle.jc_methods.specs.declared.body.Body.{Body}
use Rattle.jc_bytes.specs.declared.refusal.RefusalKind.TheVariants as kinds
use Rattle.jc_class.specs.Writable.{IsClassFile}
use Rattle.jc_class.specs.declared.class_file.ClassFile.{ClassFile}
use Rattle.jc_emit.specs.Straddling.{NoneStraddles}
use Rattle.jc_plan.specs.Analysed.{all_probes}
use Rattle.jc_instrument.specs.Bodies.{AreBodiesOf}
use Rattle.jc_instrument.specs.Causes.{NoCause, of_class}
use Rattle.jc_instrument.specs.Constants.{AreConstants}
use Rattle.jc_instrument.specs.LeftAlone.{is_left_alone}
use Rattle.jc_instrument.specs.ReadyClass.{making_causes}
use Rattle.jc_instrument.specs.Reasons.{code_causes}
use Rattle.jc_instrument.specs.RoomCauses.{HasTooLargeCode, early_room_causes}
use Rattle.jc_instrument.specs.declared.constants.ProbeConstants.{ProbeConstants}
use Rattle.jc_instrument.proofs.RoomDecidedLaws.{has_local_room, has_stack_room, none_straddles, short_code}
use Rattle.jc_instrument.proofs.RoomLaws.{of_class_are}
use Rattle.jc_instrument.proofs.WrittenCodeLaws.{HasRoom}
use Rattle.jc_instrument.proofs.DecidedLaws.{none_behind}

module _ (c : ClassFile) (bodies : List Body) (is : IsClassFile c) (changes : is_left_alone c ≡ false) (are : AreBodiesOf c bodies)
    (none : NoCause (making_causes c)) where
  room : NoCause (early_room_causes c ++ (HasTooLargeCode c ∷ []))
  room = none_behind (code_causes c) (early_room_causes c ++ (HasTooLargeCode c ∷ [])) none

  probes_few : all_probes bodies ≤ most_probes
  probes_few = by (cases_lt most_probes (all_probes bodies))
    where
      by : (most_probes < all_probes bodies) ⊎ (all_probes bodies ≤ most_probes) → all_probes bodies ≤ most_probes
      by (inl many) = absurd (room.1.0 (of_class kinds.TooManyProbes (all_probes bodies))
          (record { bodies = bodies; are = are; many = many; refusal = refl }))
      by (inr few) = few

  pub has_room : (bootstrap : ℕ) (constants : ProbeConstants) → AreConstants c (all_probes bodies) bootstrap constants → HasRoom constants bodies
  has_room bootstrap constants loads = record {
    locals = λ i place b at lacks.
        has_local_room c is room.1.1.1.1.0 are.names b.method b ((of_class_are c bodies changes are).each i b at) lacks.0;
    stack = λ i place b at lacks.
        let few = has_stack_room c is room.1.1.1.1.1.0 are.names b.method b ((of_class_are c bodies changes are).each i b at) in
        let many = lacks.0 in
        omega (arith, few, many);
    probes = probes_few;
    short = short_code c bodies are bootstrap constants loads room.1.1.1.1.1.1.0;
  }

  -- and no long or double stands where the array of probes will
  pub all_free : (i : ℕ) (b : Body) → slice_get bodies i ≡ Some b → NoneStraddles b
  all_free i b at = none_straddles c is room.0 are.names b.method b ((of_class_are c bodies changes are).each i b at)
