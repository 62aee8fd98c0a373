-- An instrumented program and one with two-slot values, and the worlds of their runs.
use Rattle.std.proofs.Common.{◌≡◌, ◌≢◌, inl, inr, ℕ, pos, false, List, [], ◌∷◌, Some, None, codes, refl, sym, ◌∙◌, ap, arith, Bool, true, not, ◌&&◌, nat_eq}
use Rattle.std.proofs.lemmas.List.Elements.{All-from_recursion}
use Rattle.std.specs.List.{IsDistinct, AllByRecursion}
use Rattle.std.proofs.lemmas.Bool.{eq-eqb, and_parts}
use Rattle.jc_bytes.specs.Descriptor.{Int, IsFieldType, Long, Boolean, Object, Array, IsNameByte, IsClassName, IsFieldDescriptor, IsMethodDescriptor}
use Rattle.jc_bytes.proofs.OptionLaws.{none_some}
use Rattle.jc_methods.specs.declared.insn.Insn.{Insn}
use Rattle.jc_methods.specs.declared.body.Use.{Use}
use Rattle.jc_methods.specs.declared.body.Handler.{Handler}
use Rattle.jc_methods.specs.DescriptorTypes.{types_from, rest_from}
use Rattle.jc_methods.specs.Flow.{FallsThrough}
use Rattle.jc_methods.specs.Insn.{IsWellFormed}
use Rattle.jc_methods.specs.InsnForm.{form_of}
use Rattle.jc_methods.specs.InsnUse.{pool_place, Suits, IsClass, LocalsWithin, LeadsWithin}
use Rattle.jc_methods.specs.WellMade.{IsCode, IsHandler, IsLine, IsVar, IsKind, HasUse, AreUses, IsWellMade, HasShortTexts}
use Rattle.jc_methods.specs.declared.body.Body.{Body}
use Rattle.jc_methods.specs.declared.insn.Insn.TheVariants as insns
use Rattle.jc_methods.specs.declared.kind.Kind.TheVariants as kinds
use Rattle.jc_methods.specs.declared.body.What.TheVariants as whats
use Rattle.jc_methods.specs.Opcode as opcode
use Rattle.jc_programs.specs.Entries.{entry_of, AreEntries}
use Rattle.jc_kinds_after.specs.Table.{table, forms_at}
use Rattle.jc_kinds_after.specs.After.{after_of}
use Rattle.jc_kinds.specs.States.{state_of}
use Rattle.jc_kinds.specs.Checking.{verdict_of, passes}
use Rattle.jc_kinds.proofs.CheckLaws.{passes_checked}
use Rattle.jc_machine_model.specs.Programs.{IsStatic, IsProgramBody, IsLinked, IsProgram}
use Rattle.jc_machine_model.specs.Fits.{FitsWorld}
use Rattle.jc_machine_model.specs.Run.{run}
use Rattle.jc_machine_model.specs.Values.{int, long}
use Rattle.jc_machine_model.specs.World.{running}
use Rattle.jc_machine_model.specs.Effects.{constant, moves_of, int_bits, int_pair, long_pair, long_shift, int_single, long_single, single, pair, effect}
use Rattle.jc_machine_model.specs.Profile.{operation_of}
use Rattle.jc_machine_model.specs.Jumps.{test_of}
use Rattle.jc_machine_model.specs.Perform.{perform}
use Rattle.jc_machine_model.specs.Step.{step}
use Rattle.jc_machine_model.specs.Begin.{begin}
use Rattle.jc_machine_laws.proofs.WorldLaws.{run_fits}
use Rattle.examples_machine.specs.ProgramExamples.{abs, probed_abs, probed_abs_program, init, init_use, use_at, a_name, one_thread, wide, wide_program, w_name}
use Rattle.examples_machine.proofs.FitExampleLaws.{no_falls, return_ends, void_ends, int_is_type, used, int_before, object_before}

-- ---- an instrumented class

-- ---- uses

-- ---- names and descriptors

name_test : ℕ → Bool
name_test b = not (nat_eq b 46) && (not (nat_eq b 59) && (not (nat_eq b 91) && not (nat_eq b 47)))

differs : (b n : ℕ) → not (nat_eq b n) ≡ true → b ≢ n
differs b n e g = by (sym (ap not (eq-eqb b n g)) ∙ e)
  where
    by : false ≡ true → ⊥
    by p = cc

name_byte : (b : ℕ) → name_test b ≡ true → IsNameByte b
unfolding name_test
name_byte b e =
    let p = and_parts (not (nat_eq b 46)) _ e in
    let q = and_parts (not (nat_eq b 59)) _ p.1 in
    let r = and_parts (not (nat_eq b 91)) (not (nat_eq b 47)) q.1 in
    record { no_dot = differs b 46 p.0; no_semicolon = differs b 59 q.0; no_bracket = differs b 91 r.0; no_slash = differs b 47 r.1 }

all_names : List ℕ → Bool
all_names [] = true
all_names (b ∷ bs) = name_test b && all_names bs

name_bytes : (bs : List ℕ) → all_names bs ≡ true → AllByRecursion IsNameByte bs
unfolding all_names
name_bytes [] e = tt
name_bytes (b ∷ bs) e = let p = and_parts (name_test b) (all_names bs) e in (name_byte b p.0, name_bytes bs p.1)

string_name : IsClassName (codes "java/lang/String")
unfolding all_names name_test
string_name = record {
  front = codes "java";
  others = codes "lang" ∷ codes "String" ∷ [];
  first = record { some = λ e. cc; bytes = name_bytes (codes "java") refl };
  each = (record { some = λ e. cc; bytes = name_bytes (codes "lang") refl }, (record { some = λ e. cc; bytes = name_bytes (codes "String") refl }, tt));
  parts = refl;
}

array_is_type : IsFieldType (Array Boolean)
array_is_type = record { named = tt; few = omega arith }

long_is_type : IsFieldType Long
long_is_type = record { named = tt; few = omega arith }

string_is_type : IsFieldType (Object (codes "java/lang/String"))
string_is_type = record { named = string_name; few = omega arith }

data_desc_is : IsFieldDescriptor (codes "[Z")
data_desc_is = (Array Boolean, record { fits = array_is_type; spelled = refl })

init_desc_is : IsMethodDescriptor (codes "()[Z")
init_desc_is = (record { parameters = []; returns = Some (Array Boolean) }, record { parameters = tt; returns = array_is_type; spelled = refl })

probes_desc_is : IsMethodDescriptor (codes "(JLjava/lang/String;I)[Z")
probes_desc_is = (
  record { parameters = Long ∷ Object (codes "java/lang/String") ∷ Int ∷ []; returns = Some (Array Boolean) },
  record { parameters = (long_is_type, (string_is_type, (int_is_type, tt))); returns = array_is_type; spelled = refl },
)

abbrev probed_body : Body
probed_body = probed_abs

probed_code : IsCode probed_body.code
unfolding form_of
probed_code = record {
  some = omega arith;
  few = omega arith;
  well_formed = All-from_recursion IsWellFormed probed_body.code
      (refl, (refl, (refl, (refl, (refl, (refl, (refl, (refl, (refl, (refl, (refl, (refl, (refl, (refl, (refl, (refl, (refl, tt)))))))))))))))));
  places = All-from_recursion (LeadsWithin 17) probed_body.code (tt, (tt, (tt, ((omega arith, tt), (tt, (tt, (tt, (tt, (tt, (tt, (tt, (tt, (tt, (tt, (tt, (tt, (tt, tt)))))))))))))))));
  ends = no_falls (insns.Simple opcode.ireturn) (insns.Simple opcode.bastore ∷ insns.Simple opcode.iconst_1 ∷ insns.Simple opcode.iconst_1
      ∷ insns.Local opcode.aload 1 ∷ insns.Local opcode.iload 0 ∷ insns.Simple opcode.ireturn ∷ insns.Simple opcode.bastore
      ∷ insns.Simple opcode.iconst_1 ∷ insns.Simple opcode.iconst_0 ∷ insns.Local opcode.aload 1 ∷ insns.Simple opcode.ineg
      ∷ insns.Local opcode.iload 0 ∷ insns.Jump opcode.ifge 11 ∷ insns.Local opcode.iload 0 ∷ insns.Local opcode.astore 1
      ∷ insns.Member opcode.invokestatic 95 ∷ []) probed_body.code refl (return_ends 0);
}

probed_uses : AreUses probed_body.code probed_body.handlers probed_body.uses
probed_uses = record {
  by_insns = All-from_recursion (λ (insn : Insn). (place : ℕ) → pool_place insn ≡ Some place → HasUse probed_body.uses place (Suits insn))
      probed_body.code (
        used probed_body.uses (init_use a_name) refl refl (Suits (insns.Member opcode.invokestatic 95))
            (inr (omega arith, init_desc_is)),
        (
          (λ place e. absurd (none_some e)),
          (
            (λ place e. absurd (none_some e)),
            (
              (λ place e. absurd (none_some e)),
              (
                (λ place e. absurd (none_some e)),
                (
                  (λ place e. absurd (none_some e)),
                  (
                    (λ place e. absurd (none_some e)),
                    (
                      (λ place e. absurd (none_some e)),
                      (
                        (λ place e. absurd (none_some e)),
                        (
                          (λ place e. absurd (none_some e)),
                          (
                            (λ place e. absurd (none_some e)),
                            (
                              (λ place e. absurd (none_some e)),
                              (
                                (λ place e. absurd (none_some e)),
                                (
                                  (λ place e. absurd (none_some e)),
                                  ((λ place e. absurd (none_some e)), ((λ place e. absurd (none_some e)), ((λ place e. absurd (none_some e)), tt))),
                                ),
                              ),
                            ),
                          ),
                        ),
                      ),
                    ),
                  ),
                ),
              ),
            ),
          ),
        ),
      );
  by_handlers = All-from_recursion (λ (h : Handler). h.class ≢ 0 → HasUse probed_body.uses h.class IsClass) [] tt;
  short = All-from_recursion (λ (u : Use). HasShortTexts u.what) probed_body.uses ((omega arith, omega arith, omega arith), tt);
}

probed_made : IsWellMade probed_body
probed_made = record {
  of_any_size = record {
    code = probed_code;
    handlers = All-from_recursion (IsHandler 17) [] tt;
    lines = All-from_recursion (IsLine 17) [] tt;
    vars = All-from_recursion (IsVar 17 2) [] tt;
    kind_vars = All-from_recursion (IsVar 17 2) [] tt;
    locals = All-from_recursion (LocalsWithin 2) probed_body.code (
      tt,
      (
        (omega arith, tt),
        (
          (omega arith, tt),
          (
            tt,
            ((omega arith, tt), (tt, ((omega arith, tt), (tt, (tt, (tt, (tt, ((omega arith, tt), ((omega arith, tt), (tt, (tt, (tt, (tt, tt))))))))))))),
          ),
        ),
      ),
    );
    arguments = record {
      type = record { parameters = Int ∷ []; returns = Some Int };
      described = record { parameters = (int_is_type, tt); returns = int_is_type; spelled = refl };
      static_slots = λ e. refl;
      other_slots = λ n. absurd (n (λ (e : 8 ≡ 0). omega (arith, e)));
    };
    arguments_fit = omega arith;
    uses = probed_uses;
    frames = (
      omega arith,
      omega arith,
      record {
        locals = refl;
        pairs = (int_before (kinds.Object 0 ∷ []), (object_before [], tt));
        stack = omega arith;
        local_kinds =
            All-from_recursion (IsKind probed_body.code) (kinds.Int ∷ kinds.Object 0 ∷ []) (tt, (tt, tt));
        stack_kinds =
            All-from_recursion (IsKind probed_body.code) [] tt;
      },
      tt,
    );
    sizes = record {
      owner = omega arith;
      name = omega arith;
      desc = omega arith;
      handlers = omega arith;
      lines = omega arith;
      vars = omega arith;
      kind_vars = omega arith;
      frames = omega arith;
      uses = omega arith;
    };
  };
  bound = omega arith;
}

probed_verdict : verdict_of (codes "[Z" ∷ []) probed_body ≡ passes
unfolding types_from rest_from table forms_at after_of state_of verdict_of
probed_verdict = refl

reference_ends : FallsThrough (insns.Simple opcode.areturn) → ⊥
reference_ends (inl e) = cc
reference_ends (inr e) = cc

abbrev init_body : Body
init_body = init a_name (pos 7) 2

init_code : IsCode init_body.code
unfolding form_of
init_code = record {
  some = omega arith;
  few = omega arith;
  well_formed = All-from_recursion IsWellFormed init_body.code (refl, (refl, (refl, (refl, (tt, (tt, (refl, (refl, (refl, (refl, (refl, tt)))))))))));
  places = All-from_recursion (LeadsWithin 11) init_body.code (tt, (tt, ((omega arith, tt), (tt, (tt, (tt, (tt, (tt, (tt, (tt, (tt, tt)))))))))));
  ends = no_falls (insns.Simple opcode.areturn) (insns.Member opcode.putstatic 90 ∷ insns.Simple opcode.dup ∷ insns.Member opcode.invokestatic 94
      ∷ insns.Simple opcode.iconst_2 ∷ insns.Constant 93 ∷ insns.Constant2 91 ∷ insns.Simple opcode.pop ∷ insns.Jump opcode.ifnonnull 10
      ∷ insns.Simple opcode.dup ∷ insns.Member opcode.getstatic 90 ∷ []) init_body.code refl (reference_ends);
}

init_uses : AreUses init_body.code init_body.handlers init_body.uses
init_uses = record {
  by_insns = All-from_recursion (λ (insn : Insn). (place : ℕ) → pool_place insn ≡ Some place → HasUse init_body.uses place (Suits insn))
      init_body.code (
        used init_body.uses (use_at 90 (whats.Field a_name (codes "$jacocoData") (codes "[Z"))) refl refl
            (Suits (insns.Member opcode.getstatic 90)) (inl (omega arith, data_desc_is)),
        (
          (λ place e. absurd (none_some e)),
          (
            (λ place e. absurd (none_some e)),
            (
              (λ place e. absurd (none_some e)),
              (
                used init_body.uses (use_at 91 (whats.Long (pos 7))) refl refl (Suits (insns.Constant2 91)) tt,
                (
                  used init_body.uses (use_at 93 whats.Text) refl refl (Suits (insns.Constant 93)) tt,
                  (
                    (λ place e. absurd (none_some e)),
                    (
                      used init_body.uses
                          (use_at 94 (whats.Method (codes "org/jacoco/agent/rt/internal/Offline") (codes "getProbes") (codes "(JLjava/lang/String;I)[Z")))
                          refl refl (Suits (insns.Member opcode.invokestatic 94)) (inr (omega arith, probes_desc_is)),
                      (
                        (λ place e. absurd (none_some e)),
                        (
                          used init_body.uses (use_at 90 (whats.Field a_name (codes "$jacocoData") (codes "[Z"))) refl refl
                              (Suits (insns.Member opcode.putstatic 90)) (inl (omega arith, data_desc_is)),
                          ((λ place e. absurd (none_some e)), tt),
                        ),
                      ),
                    ),
                  ),
                ),
              ),
            ),
          ),
        ),
      );
  by_handlers = All-from_recursion (λ (h : Handler). h.class ≢ 0 → HasUse init_body.uses h.class IsClass) [] tt;
  short = All-from_recursion (λ (u : Use). HasShortTexts u.what) init_body.uses ((omega arith, omega arith, omega arith), (tt, (tt, ((omega arith, omega arith, omega arith), tt))));
}

init_made : IsWellMade init_body
init_made = record {
  of_any_size = record {
    code = init_code;
    handlers = All-from_recursion (IsHandler 11) [] tt;
    lines = All-from_recursion (IsLine 11) [] tt;
    vars = All-from_recursion (IsVar 11 0) [] tt;
    kind_vars = All-from_recursion (IsVar 11 0) [] tt;
    locals = All-from_recursion (LocalsWithin 0) init_body.code (tt, (tt, (tt, (tt, (tt, (tt, (tt, (tt, (tt, (tt, (tt, tt)))))))))));
    arguments = record {
      type = record { parameters = []; returns = Some (Array Boolean) };
      described = record { parameters = tt; returns = array_is_type; spelled = refl };
      static_slots = λ e. refl;
      other_slots = λ n. absurd (n (λ (e : 8 ≡ 0). omega (arith, e)));
    };
    arguments_fit = omega arith;
    uses = init_uses;
    frames = (
      omega arith,
      omega arith,
      record {
        locals = refl;
        pairs = tt;
        stack = omega arith;
        local_kinds = All-from_recursion (IsKind init_body.code) [] tt;
        stack_kinds =
            All-from_recursion (IsKind init_body.code) (kinds.Object 0 ∷ []) (tt, tt);
      },
      tt,
    );
    sizes = record {
      owner = omega arith;
      name = omega arith;
      desc = omega arith;
      handlers = omega arith;
      lines = omega arith;
      vars = omega arith;
      kind_vars = omega arith;
      frames = omega arith;
      uses = omega arith;
    };
  };
  bound = omega arith;
}

init_verdict : verdict_of (codes "[Z" ∷ []) init_body ≡ passes
unfolding types_from rest_from table forms_at after_of state_of verdict_of
init_verdict = refl

-- ---- the program

probed_data : IsStatic (record { name = codes "$jacocoData"; desc = codes "[Z"; first = pos 0 })
unfolding types_from
probed_data = refl

pub probed_is_program : IsProgram probed_abs_program
unfolding IsDistinct
probed_is_program = record {
  classes = All-from_recursion (IsLinked (codes "[Z" ∷ [])) probed_abs_program.classes (
    record {
      bodies = All-from_recursion (IsProgramBody (codes "[Z" ∷ [])) (probed_abs ∷ init a_name (pos 7) 2 ∷ []) (
        record {
          well_made = probed_made;
          checked = passes_checked (codes "[Z" ∷ []) probed_abs (omega arith) probed_verdict;
          numbered =
              (record { locals = (tt, (omega arith, tt)); stack = tt }, tt);
        },
        (
          record {
            well_made = init_made;
            checked = passes_checked (codes "[Z" ∷ []) (init a_name (pos 7) 2) (omega arith) init_verdict;
            numbered =
                (record { locals = tt; stack = (omega arith, tt) }, tt);
          },
          tt,
        ),
      );
      statics = All-from_recursion IsStatic (record { name = codes "$jacocoData"; desc = codes "[Z"; first = pos 0 } ∷ []) (probed_data, tt);
      few_bodies = omega arith;
      few_statics = omega arith;
    },
    tt,
  );
  few = omega arith;
  distinct = (tt, tt);
}

probed_entries : AreEntries probed_abs_program (one_thread a_name (codes "abs") (pos 5 ∷ []) 100).threads (record { class = 0; method = 0 } ∷ [])
unfolding entry_of types_from rest_from
probed_entries = (refl, tt)

pub probed_runs : (turns : List ℕ) → FitsWorld probed_abs_program (run probed_abs_program (one_thread a_name (codes "abs") (pos 5 ∷ []) 100) turns)
probed_runs turns = (run_fits probed_abs_program (one_thread a_name (codes "abs") (pos 5 ∷ []) 100) (record { class = 0; method = 0 } ∷ []) turns probed_is_program probed_entries).0

-- ---- `top` on the stack of a frame

wide_code : IsCode wide.code
unfolding form_of
wide_code = record {
  some = omega arith;
  few = omega arith;
  well_formed = All-from_recursion IsWellFormed wide.code (refl, (refl, (refl, (refl, tt))));
  places = All-from_recursion (LeadsWithin 4) wide.code (tt, (tt, (tt, (tt, tt))));
  ends = no_falls (insns.Simple opcode.return) (insns.Simple opcode.pop ∷ insns.Simple opcode.iconst_0 ∷ insns.Simple opcode.lconst_0 ∷ []) wide.code refl void_ends;
}

wide_uses : AreUses wide.code wide.handlers wide.uses
wide_uses = record {
  by_insns = All-from_recursion (λ (insn : Insn). (place : ℕ) → pool_place insn ≡ Some place → HasUse [] place (Suits insn)) wide.code
      ((λ place e. absurd (none_some e)), ((λ place e. absurd (none_some e)), ((λ place e. absurd (none_some e)), ((λ place e. absurd (none_some e)), tt))));
  by_handlers = All-from_recursion (λ (h : Handler). h.class ≢ 0 → HasUse [] h.class IsClass) [] tt;
  short = All-from_recursion (λ (u : Use). HasShortTexts u.what) [] tt;
}

wide_made : IsWellMade wide
wide_made = record {
  of_any_size = record {
    code = wide_code;
    handlers = All-from_recursion (IsHandler 4) [] tt;
    lines = All-from_recursion (IsLine 4) [] tt;
    vars = All-from_recursion (IsVar 4 0) [] tt;
    kind_vars = All-from_recursion (IsVar 4 0) [] tt;
    locals = All-from_recursion (LocalsWithin 0) wide.code (tt, (tt, (tt, (tt, tt))));
    arguments = record {
      type = record { parameters = []; returns = None };
      described = record { parameters = tt; returns = tt; spelled = refl };
      static_slots = λ e. refl;
      other_slots = λ n. absurd (n (λ (e : 8 ≡ 0). omega (arith, e)));
    };
    arguments_fit = omega arith;
    uses = wide_uses;
    frames = (
      omega arith,
      omega arith,
      record {
        locals = refl;
        pairs = tt;
        stack = omega arith;
        local_kinds = All-from_recursion (IsKind wide.code) [] tt;
        stack_kinds =
            All-from_recursion (IsKind wide.code) (kinds.Top ∷ []) (tt, tt);
      },
      tt,
    );
    sizes = record {
      owner = omega arith;
      name = omega arith;
      desc = omega arith;
      handlers = omega arith;
      lines = omega arith;
      vars = omega arith;
      kind_vars = omega arith;
      frames = omega arith;
      uses = omega arith;
    };
  };
  bound = omega arith;
}

wide_verdict : verdict_of (codes "[Z" ∷ []) wide ≡ passes
unfolding types_from rest_from table forms_at after_of state_of verdict_of
wide_verdict = refl

pub wide_is_program : IsProgram wide_program
unfolding IsDistinct
wide_is_program = record {
  classes = All-from_recursion (IsLinked (codes "[Z" ∷ [])) wide_program.classes (
    record {
      bodies = All-from_recursion (IsProgramBody (codes "[Z" ∷ [])) (wide ∷ []) (
        record {
          well_made = wide_made;
          checked = passes_checked (codes "[Z" ∷ []) wide (omega arith) wide_verdict;
          numbered =
              (record { locals = tt; stack = (tt, tt) }, tt);
        },
        tt,
      );
      statics = All-from_recursion IsStatic [] tt;
      few_bodies = omega arith;
      few_statics = omega arith;
    },
    tt,
  );
  few = omega arith;
  distinct = (tt, tt);
}

-- behind two turns
pub wide_stack : (run wide_program (one_thread w_name (codes "w") [] 2) (0 ∷ 0 ∷ [])).threads
    ≡ running (record { method = record { class = 0; method = 0 }; place = 2; locals = []; stack = int (pos 0) ∷ long (pos 0) ∷ [] }) [] ∷ []
unfolding types_from rest_from entry_of constant moves_of int_bits int_pair long_pair long_shift int_single long_single single pair effect operation_of test_of perform step begin
wide_stack = refl
