-- A program and its twin.
use Rattle.std.proofs.Common.{◌≡◌, refl, sym, subst, ℕ, zero, suc, ◌+◌, inl, inr, List, [], ◌∷◌, Some, arith}
use Rattle.std.specs.Prelude.{slice_get, slice_index_or, Contains, All}
use Rattle.std.proofs.lemmas.Bool.{true≢false}
use Rattle.std.proofs.lemmas.List.Elements.{All-from_recursion, All-contains}
use Rattle.std.proofs.lemmas.Option.{same_Some}
use Rattle.jc_bytes.proofs.BooleanLaws.{first_in, stands_in}
use Rattle.jc_bytes.proofs.OptionLaws.{none_some}
use Rattle.jc_methods.specs.declared.insn.Insn.{Insn}
use Rattle.jc_methods.specs.declared.kind.Kind.{Kind}
use Rattle.jc_methods.specs.declared.kind.Kind.TheVariants as kinds
use Rattle.jc_methods.specs.declared.kind.State.{State}
use Rattle.jc_methods.specs.declared.body.FrameAt.{FrameAt}
use Rattle.jc_methods.specs.DescriptorTypes.{types_from, rest_from}
use Rattle.jc_methods.specs.WellMade.{kind_slots, IsKind}
use Rattle.jc_methods.specs.VerificationTypes.{type_state}
use Rattle.jc_methods.specs.declared.probe_members.Fetch.TheVariants as fetches
use Rattle.jc_kinds_after.specs.Table.{table, forms_at}
use Rattle.jc_kinds_after.specs.After.{after_of}
use Rattle.jc_kinds_after.specs.Shift.{Straddles}
use Rattle.jc_kinds.specs.States.{state_of}
use Rattle.jc_kinds.specs.StateShift.{IsStraddled}
use Rattle.jc_kinds.specs.Answers.{IsStateAt}
use Rattle.jc_plan.specs.Probed.{probe_count}
use Rattle.jc_emit.specs.Emission.{emission}
use Rattle.jc_emit.specs.Items.{twin_items}
use Rattle.jc_emit.specs.TwinFrames.{state_at}
use Rattle.jc_emit.specs.Twin.{Twin}
use Rattle.jc_emit.specs.TwinBody.{twin_body}
use Rattle.jc_twin_programs.specs.TwinProgram.{IsAddedName, TwinProgram}
use Rattle.jc_emit.proofs.TwinBodyLaws.{has_twin}
use Rattle.jc_machine_model.specs.Programs.{IsProgramBody, IsLinked}
use Rattle.examples_machine.specs.ProgramExamples.{a_name, abs, abs_program, probed_abs, probed_abs_program, class, frame}
use Rattle.examples_machine.proofs.FitExampleLaws.{abs_is_program}
use Rattle.examples_simulation.proofs.OneMethodLaws.{names, given, places, giver, free, only, one_is_twin}

-- ---- states

abbrev state : List Kind → State
state stack = record { locals = kinds.Int ∷ []; stack = stack }

abbrev states : List State
states = state [] ∷ state (kinds.Int ∷ []) ∷ state [] ∷ state (kinds.Int ∷ []) ∷ state (kinds.Int ∷ []) ∷ state [] ∷ state (kinds.Int ∷ []) ∷ []

empty : (i : ℕ) → state_of names abs i ≡ Some (type_state names (state [])) → IsStateAt names abs i (state [])
empty i e = record {
  is = e;
  numbered = record { locals = (tt, tt); stack = tt };
  well_made =
      record {
        locals = refl;
        pairs = ((λ two. absurd (omega (arith, two))), tt);
        stack = omega arith;
        local_kinds = All-from_recursion (IsKind abs.code)
            (kinds.Int ∷ []) (tt, tt);
        stack_kinds = All-from_recursion (IsKind abs.code) [] tt;
      };
}

one : (i : ℕ) → state_of names abs i ≡ Some (type_state names (state (kinds.Int ∷ []))) → IsStateAt names abs i (state (kinds.Int ∷ []))
one i e = record {
  is = e;
  numbered = record { locals = (tt, tt); stack = (tt, tt) };
  well_made =
      record {
        locals = refl;
        pairs = ((λ two. absurd (omega (arith, two))), tt);
        stack = omega arith;
        local_kinds = All-from_recursion (IsKind abs.code)
            (kinds.Int ∷ []) (tt, tt);
        stack_kinds = All-from_recursion (IsKind abs.code) (kinds.Int ∷ []) (tt, tt);
      };
}

each : (i : ℕ) (s : State) → slice_get states i ≡ Some s → IsStateAt names abs i s
unfolding types_from rest_from table forms_at after_of state_of
each zero s e = subst (IsStateAt names abs 0) (same_Some (state []) s e) (empty 0 refl)
each (suc zero) s e = subst (IsStateAt names abs 1) (same_Some (state (kinds.Int ∷ [])) s e) (one 1 refl)
each (suc (suc zero)) s e = subst (IsStateAt names abs 2) (same_Some (state []) s e) (empty 2 refl)
each (suc (suc (suc zero))) s e = subst (IsStateAt names abs 3) (same_Some (state (kinds.Int ∷ [])) s e) (one 3 refl)
each (suc (suc (suc (suc zero)))) s e = subst (IsStateAt names abs 4) (same_Some (state (kinds.Int ∷ [])) s e) (one 4 refl)
each (suc (suc (suc (suc (suc zero))))) s e = subst (IsStateAt names abs 5) (same_Some (state []) s e) (empty 5 refl)
each (suc (suc (suc (suc (suc (suc zero)))))) s e = subst (IsStateAt names abs 6) (same_Some (state (kinds.Int ∷ [])) s e) (one 6 refl)
each (suc (suc (suc (suc (suc (suc (suc i))))))) s e = absurd (none_some e)

-- ---- the body

none_wide : All (λ (insn : Insn). Straddles 1 insn → ⊥) abs.code
none_wide =
    All-from_recursion (λ (insn : Insn). Straddles 1 insn → ⊥) abs.code
    ((λ s. true≢false (sym s.0)), ((λ s. s), ((λ s. true≢false (sym s.0)), ((λ s. s), ((λ s. s), ((λ s. true≢false (sym s.0)), ((λ s. s), tt)))))))

in_front : (k : ℕ) → k + 1 ≡ 1 → kind_slots (slice_index_or (kinds.Int ∷ []) k kinds.Top) ≡ 2 → ⊥
in_front zero e h = omega (arith, h)
in_front (suc k) e h = omega (arith, e)

none_straddles : (i : ℕ) → IsStraddled abs i → ⊥
none_straddles i (inl (insn, here, s)) = All-contains (λ (insn : Insn). Straddles 1 insn → ⊥) abs.code insn none_wide (stands_in abs.code i insn here) s
none_straddles i (inr (f, c, at, (k, e, h))) =
    in_front k e (subst (λ (f : FrameAt). kind_slots (slice_index_or f.state.locals k kinds.Top) ≡ 2) (sym (only (frame 5 (kinds.Int ∷ []) []) f c)) h)

fit : (f : FrameAt) → Contains abs.frames f → state_at states f.at ≡ f.state
fit f c = subst (λ (f : FrameAt). state_at states f.at ≡ f.state) (only (frame 5 (kinds.Int ∷ []) []) f c) refl

in_program : IsProgramBody names abs
in_program = All-contains (IsProgramBody names) (abs ∷ []) abs
    (All-contains (IsLinked names) abs_program.classes (class a_name (abs ∷ []) []) abs_is_program.classes (first_in (class a_name (abs ∷ []) []) [])).bodies (first_in abs [])

is_twin_body : twin_body abs 0 states given places (giver abs) 0 ≡ probed_abs
unfolding twin_body emission twin_items
is_twin_body = refl

abs_twin : Twin names names states fetches.Member (giver abs) 0 abs probed_abs
abs_twin =
    let few : probe_count abs ≡ 2 = refl in
    subst (Twin names names states fetches.Member (giver abs) 0 abs) is_twin_body
    (has_twin abs 0 states given places (giver abs) 0 names in_program.well_made.of_any_size fit refl (free abs refl (omega (arith, few))))

-- ---- the program

no_added : IsAddedName abs.name → ⊥
no_added (inl e) = cc
no_added (inr e) = cc

pub is_twin : TwinProgram abs_program probed_abs_program
is_twin =
    one_is_twin abs probed_abs 7 2 refl refl refl refl in_program.well_made in_program.checked no_added none_straddles
    (record { states = states; are = record { count = refl; each = each }; twin = abs_twin })
