-- A division, and its twin.
use Rattle.std.proofs.Common.{◌≡◌, ◌≢◌, refl, sym, subst, ℕ, zero, suc, inl, inr, List, [], ◌∷◌, Some, arith}
use Rattle.std.specs.Prelude.{slice_get, Contains, All}
use Rattle.std.proofs.lemmas.Bool.{true≢false}
use Rattle.std.proofs.lemmas.List.Elements.{All-from_recursion, All-contains}
use Rattle.std.proofs.lemmas.Option.{same_Some}
use Rattle.jc_bytes.specs.Descriptor.{Int}
use Rattle.jc_bytes.proofs.BooleanLaws.{none_in, stands_in}
use Rattle.jc_bytes.proofs.OptionLaws.{none_some}
use Rattle.jc_methods.specs.declared.insn.Insn.{Insn}
use Rattle.jc_methods.specs.declared.insn.Insn.TheVariants as insns
use Rattle.jc_methods.specs.declared.kind.Kind.{Kind}
use Rattle.jc_methods.specs.declared.kind.Kind.TheVariants as kinds
use Rattle.jc_methods.specs.declared.kind.State.{State}
use Rattle.jc_methods.specs.declared.body.FrameAt.{FrameAt}
use Rattle.jc_methods.specs.declared.body.Handler.{Handler}
use Rattle.jc_methods.specs.declared.body.Use.{Use}
use Rattle.jc_methods.specs.Opcode as opcode
use Rattle.jc_methods.specs.DescriptorTypes.{types_from, rest_from}
use Rattle.jc_methods.specs.Insn.{IsWellFormed}
use Rattle.jc_methods.specs.InsnForm.{form_of}
use Rattle.jc_methods.specs.InsnUse.{pool_place, Suits, IsClass, LocalsWithin, LeadsWithin}
use Rattle.jc_methods.specs.WellMade.{IsCode, IsHandler, IsLine, IsVar, IsKind, HasUse, AreUses, IsWellMade, HasShortTexts}
use Rattle.jc_methods.specs.VerificationTypes.{type_state}
use Rattle.jc_methods.specs.declared.probe_members.Fetch.TheVariants as fetches
use Rattle.jc_kinds_after.specs.Table.{table, forms_at}
use Rattle.jc_kinds_after.specs.After.{after_of}
use Rattle.jc_kinds_after.specs.Shift.{Straddles}
use Rattle.jc_kinds.specs.States.{state_of}
use Rattle.jc_kinds.specs.StateShift.{IsStraddled}
use Rattle.jc_kinds.specs.Answers.{IsStateAt}
use Rattle.jc_kinds.specs.Checked.{Checked}
use Rattle.jc_kinds.specs.Checking.{verdict_of, passes}
use Rattle.jc_kinds.proofs.CheckLaws.{passes_checked}
use Rattle.jc_plan.specs.Probed.{probe_count}
use Rattle.jc_emit.specs.Emission.{emission}
use Rattle.jc_emit.specs.Items.{twin_items}
use Rattle.jc_emit.specs.TwinFrames.{state_at}
use Rattle.jc_emit.specs.Twin.{Twin}
use Rattle.jc_emit.specs.TwinBody.{twin_body}
use Rattle.jc_twin_programs.specs.TwinProgram.{IsAddedName, TwinProgram}
use Rattle.jc_emit.proofs.TwinBodyLaws.{has_twin}
use Rattle.examples_machine.specs.ProgramExamples.{div, div_program}
use Rattle.examples_machine.proofs.FitExampleLaws.{no_falls, return_ends, int_is_type}
use Rattle.examples_simulation.specs.CoverageExamples.{probed_div, probed_div_program}
use Rattle.examples_simulation.proofs.OneMethodLaws.{names, given, places, giver, free, one_is_twin}

-- ---- the body is well made

code : IsCode div.code
unfolding form_of
code = record {
  some = omega arith;
  few = omega arith;
  well_formed = All-from_recursion IsWellFormed div.code (refl, (refl, (refl, (refl, tt))));
  places = All-from_recursion (LeadsWithin 4) div.code (tt, (tt, (tt, (tt, tt))));
  ends = no_falls (insns.Simple opcode.ireturn) (insns.Simple opcode.idiv ∷ insns.Local opcode.iload 1 ∷ insns.Local opcode.iload 0 ∷ []) div.code refl
      (return_ends 0);
}

uses : AreUses div.code div.handlers div.uses
uses = record {
  by_insns = All-from_recursion (λ (insn : Insn). (place : ℕ) → pool_place insn ≡ Some place → HasUse [] place (Suits insn)) div.code
      ((λ place e. absurd (none_some e)), ((λ place e. absurd (none_some e)), ((λ place e. absurd (none_some e)), ((λ place e. absurd (none_some e)), tt))));
  by_handlers = All-from_recursion (λ (h : Handler). h.class ≢ 0 → HasUse [] h.class IsClass) [] tt;
  short = All-from_recursion (λ (u : Use). HasShortTexts u.what) [] tt;
}

pub made : IsWellMade div
made = record {
  of_any_size = record {
    code = code;
    handlers = All-from_recursion (IsHandler 4) [] tt;
    lines = All-from_recursion (IsLine 4) [] tt;
    vars = All-from_recursion (IsVar 4 2) [] tt;
    kind_vars = All-from_recursion (IsVar 4 2) [] tt;
    locals = All-from_recursion (LocalsWithin 2) div.code ((omega arith, tt), ((omega arith, tt), (tt, (tt, tt))));
    arguments = record {
      type = record { parameters = Int ∷ Int ∷ []; returns = Some Int };
      described = record { parameters = (int_is_type, (int_is_type, tt)); returns = int_is_type; spelled = refl };
      static_slots = λ e. refl;
      other_slots = λ n. absurd (n (λ (e : 8 ≡ 0). omega (arith, e)));
    };
    arguments_fit = omega arith;
    uses = uses;
    frames = tt;
    sizes = record {
      owner = omega arith;
      name = omega arith;
      desc = omega arith;
      handlers = omega arith;
      lines = omega arith;
      vars = omega arith;
      kind_vars = omega arith;
      frames = omega arith;
      uses = omega arith;
    };
  };
  bound = omega arith;
}

verdict : verdict_of names div ≡ passes
unfolding types_from rest_from table forms_at after_of state_of verdict_of
verdict = refl

pub verdict_passes : Checked names div
verdict_passes = passes_checked names div (omega arith) verdict

-- ---- states

abbrev state : List Kind → State
state stack = record { locals = kinds.Int ∷ kinds.Int ∷ []; stack = stack }

abbrev pub states : List State
states = state [] ∷ state (kinds.Int ∷ []) ∷ state (kinds.Int ∷ kinds.Int ∷ []) ∷ state (kinds.Int ∷ []) ∷ []

empty : (i : ℕ) → state_of names div i ≡ Some (type_state names (state [])) → IsStateAt names div i (state [])
empty i e = record {
  is = e;
  numbered = record { locals = (tt, (tt, tt)); stack = tt };
  well_made = record {
    locals = refl;
    pairs = ((λ two. absurd (omega (arith, two))), ((λ two. absurd (omega (arith, two))), tt));
    stack = omega arith;
    local_kinds = All-from_recursion (IsKind div.code) (kinds.Int ∷ kinds.Int ∷ []) (tt, (tt, tt));
    stack_kinds = All-from_recursion (IsKind div.code) [] tt;
  };
}

one : (i : ℕ) → state_of names div i ≡ Some (type_state names (state (kinds.Int ∷ []))) → IsStateAt names div i (state (kinds.Int ∷ []))
one i e = record {
  is = e;
  numbered = record { locals = (tt, (tt, tt)); stack = (tt, tt) };
  well_made = record {
    locals = refl;
    pairs = ((λ two. absurd (omega (arith, two))), ((λ two. absurd (omega (arith, two))), tt));
    stack = omega arith;
    local_kinds = All-from_recursion (IsKind div.code) (kinds.Int ∷ kinds.Int ∷ []) (tt, (tt, tt));
    stack_kinds = All-from_recursion (IsKind div.code) (kinds.Int ∷ []) (tt, tt);
  };
}

two : (i : ℕ) → state_of names div i ≡ Some (type_state names (state (kinds.Int ∷ kinds.Int ∷ []))) → IsStateAt names div i (state (kinds.Int ∷ kinds.Int ∷ []))
two i e = record {
  is = e;
  numbered = record { locals = (tt, (tt, tt)); stack = (tt, (tt, tt)) };
  well_made = record {
    locals = refl;
    pairs = ((λ two. absurd (omega (arith, two))), ((λ two. absurd (omega (arith, two))), tt));
    stack = omega arith;
    local_kinds = All-from_recursion (IsKind div.code) (kinds.Int ∷ kinds.Int ∷ []) (tt, (tt, tt));
    stack_kinds = All-from_recursion (IsKind div.code) (kinds.Int ∷ kinds.Int ∷ []) (tt, (tt, tt));
  };
}

pub each : (i : ℕ) (s : State) → slice_get states i ≡ Some s → IsStateAt names div i s
unfolding types_from rest_from table forms_at after_of state_of
each zero s e = subst (IsStateAt names div 0) (same_Some (state []) s e) (empty 0 refl)
each (suc zero) s e = subst (IsStateAt names div 1) (same_Some (state (kinds.Int ∷ [])) s e) (one 1 refl)
each (suc (suc zero)) s e = subst (IsStateAt names div 2) (same_Some (state (kinds.Int ∷ kinds.Int ∷ [])) s e) (two 2 refl)
each (suc (suc (suc zero))) s e = subst (IsStateAt names div 3) (same_Some (state (kinds.Int ∷ [])) s e) (one 3 refl)
each (suc (suc (suc (suc i)))) s e = absurd (none_some e)

-- ---- the twin

none_wide : All (λ (insn : Insn). Straddles 2 insn → ⊥) div.code
none_wide =
    All-from_recursion (λ (insn : Insn). Straddles 2 insn → ⊥) div.code
    ((λ s. true≢false (sym s.0)), ((λ s. true≢false (sym s.0)), ((λ s. s), ((λ s. s), tt))))

pub none_straddles : (i : ℕ) → IsStraddled div i → ⊥
none_straddles i (inl (insn, here, s)) = All-contains (λ (insn : Insn). Straddles 2 insn → ⊥) div.code insn none_wide (stands_in div.code i insn here) s
none_straddles i (inr (f, c, at, more)) = none_in f c

pub fit : (f : FrameAt) → Contains div.frames f → state_at states f.at ≡ f.state
fit f c = absurd (none_in f c)

is_twin_body : twin_body div 0 states given places (giver div) 0 ≡ probed_div
unfolding twin_body emission twin_items
is_twin_body = refl

div_twin : Twin names names states fetches.Member (giver div) 0 div probed_div
div_twin =
    let few : probe_count div ≡ 1 = refl in
    subst (Twin names names states fetches.Member (giver div) 0 div) is_twin_body
    (has_twin div 0 states given places (giver div) 0 names made.of_any_size fit refl (free div refl (omega (arith, few))))

-- ---- the program

pub no_added : IsAddedName div.name → ⊥
no_added (inl e) = cc
no_added (inr e) = cc

pub div_is_twin : TwinProgram div_program probed_div_program
div_is_twin =
    one_is_twin div probed_div 5 1 refl refl refl refl made verdict_passes no_added none_straddles
    (record { states = states; are = record { count = refl; each = each }; twin = div_twin })
