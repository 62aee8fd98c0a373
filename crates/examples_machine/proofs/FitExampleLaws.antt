-- Programs, and the worlds of their runs.
use Rattle.std.proofs.Common.{length, ◌≡◌, ◌≢◌, inl, inr, ℕ, ◌≤◌, pos, false, List, [], ◌∷◌, ◌++◌, Some, None, codes, reverse, refl, sym, ◌∙◌, ap, subst, arith}
use Rattle.std.proofs.lemmas.List.{reverse-append}
use Rattle.std.proofs.lemmas.List.Elements.{All-from_recursion}
use Rattle.std.specs.List.{IsDistinct}
use Rattle.std.proofs.lemmas.Option.{same_Some}
use Rattle.jc_bytes.specs.Descriptor.{Int, IsFieldType, Object}
use Rattle.jc_bytes.proofs.OptionLaws.{none_some}
use Rattle.jc_methods.specs.declared.insn.Insn.{Insn}
use Rattle.jc_methods.specs.declared.body.Use.{Use}
use Rattle.jc_methods.specs.declared.body.Handler.{Handler}
use Rattle.jc_methods.specs.DescriptorTypes.{types_from, rest_from}
use Rattle.jc_methods.specs.Flow.{FallsThrough}
use Rattle.jc_methods.specs.Insn.{IsWellFormed}
use Rattle.jc_methods.specs.InsnForm.{form_of}
use Rattle.jc_methods.specs.InsnUse.{pool_place, Suits, IsClass, LocalsWithin, LeadsWithin}
use Rattle.jc_methods.specs.WellMade.{IsCode, IsHandler, IsLine, IsVar, IsKind, HasUse, AreUses, IsWellMade, BeginsWithTop, kind_slots, HasShortTexts, what_used, entries_for}
use Rattle.jc_methods.specs.declared.body.What.{What}
use Rattle.jc_methods.specs.declared.insn.Insn.TheVariants as insns
use Rattle.jc_methods.specs.declared.kind.Kind.{Kind}
use Rattle.jc_methods.specs.declared.kind.Kind.TheVariants as kinds
use Rattle.jc_methods.specs.Opcode as opcode
use Rattle.jc_programs.specs.Entries.{entry_of, AreEntries}
use Rattle.jc_programs.specs.declared.run_plan.Schedule.TheVariants as schedules
use Rattle.jc_kinds_after.specs.Table.{table, forms_at}
use Rattle.jc_kinds_after.specs.After.{after_of}
use Rattle.jc_kinds.specs.States.{state_of}
use Rattle.jc_kinds.specs.Checking.{verdict_of, passes}
use Rattle.jc_kinds.proofs.CheckLaws.{passes_checked}
use Rattle.jc_machine_model.specs.Programs.{IsStatic, IsProgramBody, IsLinked, IsProgram}
use Rattle.jc_machine_model.specs.Fits.{FitsWorld}
use Rattle.jc_machine_model.specs.Run.{run}
use Rattle.jc_machine_laws.proofs.WorldLaws.{run_fits}
use Rattle.examples_machine.specs.ProgramExamples.{abs, abs_program, inc, inc_program, x_use, c_name, inc_thread, case}

head_is : (x y : Insn) (xs ys : List Insn) → x ∷ xs ≡ y ∷ ys → x ≡ y
head_is x y xs ys e = cc

pub no_falls : (x : Insn) (more code : List Insn) → reverse code ≡ x ∷ more → (FallsThrough x → ⊥) → (before : List Insn) (last : Insn) → code ≡ before ++ last ∷ [] → FallsThrough last → ⊥
no_falls x more code r n before last e f = n (subst FallsThrough (sym (head_is x last more (reverse before) (sym r ∙ ap reverse e ∙ reverse-append before (last ∷ [])))) f)

pub return_ends : (op : ℕ) → FallsThrough (insns.Simple opcode.ireturn) → ⊥
return_ends op (inl e) = cc
return_ends op (inr e) = cc

pub void_ends : FallsThrough (insns.Simple opcode.return) → ⊥
void_ends (inl e) = cc
void_ends (inr e) = cc

pub int_is_type : IsFieldType Int
int_is_type = record { named = tt; few = omega arith }

-- one entry is for the place
pub used : (uses : List Use) (u : Use) → what_used uses u.place ≡ Some u.what → length (entries_for uses u.place) ≡ 1 → (F : What → Type 0) → F u.what
    → (place : ℕ) → Some u.place ≡ Some place → HasUse uses place F
used uses u e one F f place g = subst (λ k. HasUse uses k F) (same_Some u.place place g) (record { what = u.what; used = e; one = one; fact = f })

-- an int takes one slot, so that nothing has to stand behind it
pub int_before : (ks : List Kind) → kind_slots kinds.Int ≡ 2 → BeginsWithTop ks
int_before ks e = absurd (omega (arith, e))

-- so does a reference
pub object_before : (ks : List Kind) → kind_slots (kinds.Object 0) ≡ 2 → BeginsWithTop ks
object_before ks e = absurd (omega (arith, e))

abs_code : IsCode abs.code
unfolding form_of
abs_code = record {
  some = omega arith;
  few = omega arith;
  well_formed = All-from_recursion IsWellFormed abs.code (refl, (refl, (refl, (refl, (refl, (refl, (refl, tt)))))));
  places = All-from_recursion (LeadsWithin 7) abs.code (tt, ((omega arith, tt), (tt, (tt, (tt, (tt, (tt, tt)))))));
  ends = no_falls (insns.Simple opcode.ireturn) (insns.Local opcode.iload 0 ∷ insns.Simple opcode.ireturn ∷ insns.Simple opcode.ineg
      ∷ insns.Local opcode.iload 0 ∷ insns.Jump opcode.ifge 5 ∷ insns.Local opcode.iload 0 ∷ []) abs.code refl (return_ends 0);
}

abs_uses : AreUses abs.code abs.handlers abs.uses
abs_uses = record {
  by_insns = All-from_recursion (λ (insn : Insn). (place : ℕ) → pool_place insn ≡ Some place → HasUse [] place (Suits insn)) abs.code (
    (λ place e. absurd (none_some e)),
    (
      (λ place e. absurd (none_some e)),
      (
        (λ place e. absurd (none_some e)),
        ((λ place e. absurd (none_some e)), ((λ place e. absurd (none_some e)), ((λ place e. absurd (none_some e)), ((λ place e. absurd (none_some e)), tt)))),
      ),
    ),
  );
  by_handlers = All-from_recursion (λ (h : Handler). h.class ≢ 0 → HasUse [] h.class IsClass) [] tt;
  short = All-from_recursion (λ (u : Use). HasShortTexts u.what) [] tt;
}

abs_made : IsWellMade abs
abs_made = record {
  of_any_size = record {
    code = abs_code;
    handlers = All-from_recursion (IsHandler 7) [] tt;
    lines = All-from_recursion (IsLine 7) [] tt;
    vars = All-from_recursion (IsVar 7 1) [] tt;
    kind_vars = All-from_recursion (IsVar 7 1) [] tt;
    locals = All-from_recursion (LocalsWithin 1) abs.code ((omega arith, tt), (tt, ((omega arith, tt), (tt, (tt, ((omega arith, tt), (tt, tt)))))));
    arguments = record {
      type = record { parameters = Int ∷ []; returns = Some Int };
      described = record { parameters = (int_is_type, tt); returns = int_is_type; spelled = refl };
      static_slots = λ e. refl;
      other_slots = λ n. absurd (n (λ (e : 8 ≡ 0). omega (arith, e)));
    };
    arguments_fit = omega arith;
    uses = abs_uses;
    frames = (
      omega arith,
      omega arith,
      record {
        locals = refl;
        pairs = (int_before [], tt);
        stack = omega arith;
        local_kinds = All-from_recursion (IsKind abs.code) (kinds.Int ∷ [])
            (tt, tt);
        stack_kinds = All-from_recursion (IsKind abs.code) [] tt;
      },
      tt,
    );
    sizes = record {
      owner = omega arith;
      name = omega arith;
      desc = omega arith;
      handlers = omega arith;
      lines = omega arith;
      vars = omega arith;
      kind_vars = omega arith;
      frames = omega arith;
      uses = omega arith;
    };
  };
  bound = omega arith;
}

abs_verdict : verdict_of (codes "[Z" ∷ []) abs ≡ passes
unfolding types_from rest_from table forms_at after_of state_of verdict_of
abs_verdict = refl

pub abs_is_program : IsProgram abs_program
unfolding IsDistinct
abs_is_program = record {
  classes = All-from_recursion (IsLinked (codes "[Z" ∷ [])) abs_program.classes (
    record {
      bodies = All-from_recursion (IsProgramBody (codes "[Z" ∷ [])) (abs ∷ []) (
        record {
          well_made = abs_made;
          checked = passes_checked (codes "[Z" ∷ []) abs (omega arith) abs_verdict;
          numbered =
              (record { locals = (tt, tt); stack = tt }, tt);
        },
        tt,
      );
      statics = All-from_recursion IsStatic [] tt;
      few_bodies = omega arith;
      few_statics = omega arith;
    },
    tt,
  );
  few = omega arith;
  distinct = (tt, tt);
}

-- ---- a static field

inc_code_is : IsCode inc.code
unfolding form_of
inc_code_is = record {
  some = omega arith;
  few = omega arith;
  well_formed = All-from_recursion IsWellFormed inc.code (refl, (refl, (refl, (refl, (refl, tt)))));
  places = All-from_recursion (LeadsWithin 5) inc.code (tt, (tt, (tt, (tt, (tt, tt)))));
  ends = no_falls (insns.Simple opcode.return) (insns.Member opcode.putstatic 1 ∷ insns.Simple opcode.iadd ∷ insns.Simple opcode.iconst_1
      ∷ insns.Member opcode.getstatic 1 ∷ []) inc.code refl void_ends;
}

x_used : (op : ℕ) → op ≤ 181 → (place : ℕ) → Some 1 ≡ Some place → HasUse (x_use ∷ []) place (Suits (insns.Member op 1))
x_used op l place e = used (x_use ∷ []) x_use refl refl (Suits (insns.Member op 1)) (inl (l, (Int, record { fits = int_is_type; spelled = refl }))) place e

inc_uses : AreUses inc.code inc.handlers inc.uses
inc_uses = record {
  by_insns = All-from_recursion (λ (insn : Insn). (place : ℕ) → pool_place insn ≡ Some place → HasUse (x_use ∷ []) place (Suits insn)) inc.code (
    x_used 178 (omega arith),
    ((λ place e. absurd (none_some e)), ((λ place e. absurd (none_some e)), (x_used 179 (omega arith), ((λ place e. absurd (none_some e)), tt)))),
  );
  by_handlers = All-from_recursion (λ (h : Handler). h.class ≢ 0 → HasUse (x_use ∷ []) h.class IsClass) [] tt;
  short = All-from_recursion (λ (u : Use). HasShortTexts u.what) (x_use ∷ []) ((omega arith, omega arith, omega arith), tt);
}

inc_made : IsWellMade inc
inc_made = record {
  of_any_size = record {
    code = inc_code_is;
    handlers = All-from_recursion (IsHandler 5) [] tt;
    lines = All-from_recursion (IsLine 5) [] tt;
    vars = All-from_recursion (IsVar 5 0) [] tt;
    kind_vars = All-from_recursion (IsVar 5 0) [] tt;
    locals = All-from_recursion (LocalsWithin 0) inc.code (tt, (tt, (tt, (tt, (tt, tt)))));
    arguments = record {
      type = record { parameters = []; returns = None };
      described = record { parameters = tt; returns = tt; spelled = refl };
      static_slots = λ e. refl;
      other_slots = λ n. absurd (n (λ (e : 8 ≡ 0). omega (arith, e)));
    };
    arguments_fit = omega arith;
    uses = inc_uses;
    frames = tt;
    sizes = record {
      owner = omega arith;
      name = omega arith;
      desc = omega arith;
      handlers = omega arith;
      lines = omega arith;
      vars = omega arith;
      kind_vars = omega arith;
      frames = omega arith;
      uses = omega arith;
    };
  };
  bound = omega arith;
}

inc_verdict : verdict_of (codes "[Z" ∷ []) inc ≡ passes
unfolding types_from rest_from table forms_at after_of state_of verdict_of
inc_verdict = refl

inc_static : IsLinked (codes "[Z" ∷ []) (record {
  name = c_name;
  version = 52;
  bodies = inc ∷ [];
  statics = record { name = codes "x"; desc = codes "I"; first = pos 0 } ∷ [];
  has_clinit = false;
  probes = None;
})
unfolding types_from
inc_static = record {
  bodies = All-from_recursion (IsProgramBody (codes "[Z" ∷ [])) (inc ∷ [])
      (record { well_made = inc_made; checked = passes_checked (codes "[Z" ∷ []) inc (omega arith) inc_verdict; numbered = tt }, tt);
  statics = All-from_recursion IsStatic (record { name = codes "x"; desc = codes "I"; first = pos 0 } ∷ []) (refl, tt);
  few_bodies = omega arith;
  few_statics = omega arith;
}

pub inc_is_program : IsProgram inc_program
unfolding IsDistinct
inc_is_program = record { classes = All-from_recursion (IsLinked (codes "[Z" ∷ [])) inc_program.classes (inc_static, tt); few = omega arith; distinct = (tt, tt) }

inc_entries : AreEntries inc_program (inc_thread ∷ inc_thread ∷ []) (record { class = 0; method = 0 } ∷ record { class = 0; method = 0 } ∷ [])
unfolding entry_of types_from rest_from
inc_entries = (refl, (refl, tt))

pub inc_runs : (turns : List ℕ) → FitsWorld inc_program (run inc_program (case (inc_thread ∷ inc_thread ∷ []) (schedules.Robin 10)) turns)
inc_runs turns = (run_fits inc_program (case (inc_thread ∷ inc_thread ∷ []) (schedules.Robin 10))
    (record { class = 0; method = 0 } ∷ record { class = 0; method = 0 } ∷ []) turns inc_is_program inc_entries).0
