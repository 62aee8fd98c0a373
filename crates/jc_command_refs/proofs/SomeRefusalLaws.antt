-- A program passes the reference check, or there is a first instruction at which it fails.
use Rattle.std.proofs.Common.{◌≡◌, ◌⊎◌, inl, inr, ⊎_elim, ℕ, zero, suc, ◌<◌, ◌≤◌, Bool, true, false, true≢false, length, Some, slice_get, refl, sym, ◌∙◌, subst, arith}
use Rattle.jc_bytes.proofs.ListLaws.{below_or_last, item_at}
use Rattle.jc_methods.specs.declared.body.Body.{Body}
use Rattle.jc_body.proofs.DecidedLaws.{Decided}
use Rattle.jc_programs.specs.declared.program.Program.{Program}
use Rattle.jc_programs.specs.declared.program.Linked.{Linked}
use Rattle.jc_programs.specs.declared.run_end.Entry.{Entry}
use Rattle.jc_machine_model.specs.Methods.{is_enterable}
use Rattle.jc_refs_check.specs.declared.ref_refusal.RefRefusal.{RefRefusal}
use Rattle.jc_refs_check.specs.Answers.{ref_refusal_of, IsRefRefusal}
use Rattle.jc_refs_check.specs.MethodAnswers.{IsMethodOk, IsMethodRefusal, method_entry, AreMethodsOk, IsClassRefusal, AreClassesOk}
use Rattle.jc_refs_check.specs.RefsOk.{IsSuited, RefsOk}
use Rattle.jc_refs_check.proofs.CheckingLaws.{methods_on, class_refused, classes_on}
use Rattle.jc_refs_check.proofs.RefusalLaws.{all_ok, refused_first}
use Rattle.jc_command_refs.proofs.SuitedDecidedLaws.{suited_decided}

module _ (p : Program) where
  -- ---- a method

  module _ (method : Entry) (b : Body) where
    -- references suit at the first so many instructions, or don't at a first one of the method
    abbrev SuitedBelow : ℕ → Type 0
    SuitedBelow count = ((i : ℕ) → i < count → IsSuited p method b i) ⊎ ((refusal : RefRefusal) × IsMethodRefusal p method b refusal)

    suited_below : (count : ℕ) → count ≤ length b.code → SuitedBelow count
    suited_below zero within = inl (λ i less. absurd (omega (arith, less)))
    suited_below (suc place) within = by (suited_below place (omega (arith, within))) (suited_decided p method b place)
      where
        by : SuitedBelow place → Decided (IsSuited p method b place) → SuitedBelow (suc place)
        by (inr refused) here = inr refused
        by (inl before) (inr fails) = inr (
          ref_refusal_of method b place,
          record { place = place; within = omega (arith, within); fails = fails; before = before; refusal_is = refl },
        )
        by (inl before) (inl suits) = inl (λ i less. ⊎_elim
            (λ low. before i low)
            (λ last. subst (IsSuited p method b) (sym last) suits)
            (below_or_last place i (omega (arith, less))))

    method_checked : IsMethodOk p method b ⊎ ((refusal : RefRefusal) × IsMethodRefusal p method b refusal)
    method_checked = suited_below (length b.code) (omega arith)

  -- ---- a class

  module _ (class : ℕ) (linked : Linked) where
    -- the first so many methods pass, or a first one of the class doesn't
    abbrev MethodsBelow : ℕ → Type 0
    MethodsBelow count = AreMethodsOk p class linked count ⊎ ((refusal : RefRefusal) × IsClassRefusal p class linked refusal)

    methods_below : (count : ℕ) → count ≤ length linked.bodies → MethodsBelow count
    methods_below zero within = inl (λ method b less. absurd (omega (arith, less)))
    methods_below (suc number) within =
        let there = item_at linked.bodies number (omega (arith, within)) in
        by (methods_below number (omega (arith, within))) there.0 there.1 (is_enterable linked there.0) refl (method_checked (method_entry class number) there.0)
      where
        more : (b : Body) → AreMethodsOk p class linked number → slice_get linked.bodies number ≡ Some b
            → (is_enterable linked b ≡ true → IsMethodOk p (method_entry class number) b) → MethodsBelow (suc number)
        more b ok is passes = inl (λ method c less. methods_on p class linked number b ok is passes method c (omega (arith, less)))

        by : MethodsBelow number → (b : Body) → slice_get linked.bodies number ≡ Some b → (test : Bool) → is_enterable linked b ≡ test
            → IsMethodOk p (method_entry class number) b ⊎ ((refusal : RefRefusal) × IsMethodRefusal p (method_entry class number) b refusal)
            → MethodsBelow (suc number)
        by (inr refused) b is test entered checked = inr refused
        by (inl ok) b is false closed checked = more b ok is (λ entered. absurd (true≢false (sym entered ∙ closed)))
        by (inl ok) b is true entered (inl passes) = more b ok is (λ _. passes)
        by (inl ok) b is true entered (inr (refusal, refused)) =
            inr (refusal, class_refused p class linked number b ok is refusal (record { enterable = entered; refused = refused }))

  -- ---- the program

  -- the first so many classes pass, or a first one of the program doesn't
  abbrev ClassesBelow : ℕ → Type 0
  ClassesBelow count = AreClassesOk p count ⊎ ((refusal : RefRefusal) × IsRefRefusal p refusal)

  classes_below : (count : ℕ) → count ≤ length p.classes → ClassesBelow count
  classes_below zero within = inl (λ class linked less. absurd (omega (arith, less)))
  classes_below (suc number) within =
      let there = item_at p.classes number (omega (arith, within)) in
      by (classes_below number (omega (arith, within))) there.0 there.1 (methods_below number there.0 (length there.0.bodies) (omega arith))
    where
      by : ClassesBelow number → (linked : Linked) → slice_get p.classes number ≡ Some linked → MethodsBelow number linked (length linked.bodies)
          → ClassesBelow (suc number)
      by (inr refused) linked is checked = inr refused
      by (inl ok) linked is (inl passes) = inl (λ class c less. classes_on p number linked ok is passes class c (omega (arith, less)))
      by (inl ok) linked is (inr (refusal, refused)) = inr (refusal, refused_first p number linked refusal ok is refused)

  pub passes_or_refused : RefsOk p ⊎ ((refusal : RefRefusal) × IsRefRefusal p refusal)
  passes_or_refused = ⊎_elim (λ ok. inl (all_ok p ok)) (λ refused. inr refused) (classes_below (length p.classes) (omega arith))
