-- A program of one class with one method, and its twin.
use Rattle.std.proofs.Common.{◌≡◌, refl, sym, ap, subst, ◌∙◌, ℕ, ◌+◌, ◌≤◌, nat_le, true, if◌then◌else◌, arith, ℤ, ⊎_elim, pos, List, [], ◌∷◌, Some, None, inr, codes}
use Rattle.std.specs.Prelude.{Contains}
use Rattle.std.specs.Int.{w64, cast_signed}
use Rattle.std.specs.List.{sum_by}
use Rattle.jc_bytes.proofs.BooleanLaws.{which_in, none_in}
use Rattle.jc_methods.specs.declared.insn.Insn.{Insn}
use Rattle.jc_methods.specs.declared.insn.Insn.TheVariants as insns
use Rattle.jc_methods.specs.declared.kind.Kind.TheVariants as kinds
use Rattle.jc_methods.specs.declared.body.Body.{Body}
use Rattle.jc_methods.specs.Opcode as opcode
use Rattle.jc_methods.specs.ProbeMembers.{fetch_of, most_short}
use Rattle.jc_methods.specs.WellMade.{IsWellMade, what_used}
use Rattle.jc_methods.specs.declared.body.Use.{Use}
use Rattle.jc_methods.specs.declared.body.What.{What}
use Rattle.jc_methods.specs.declared.probe_members.Fetch.TheVariants as fetches
use Rattle.jc_programs.specs.declared.program.Linked.{Linked}
use Rattle.jc_kinds.specs.Checked.{Checked}
use Rattle.jc_plan.specs.Probed.{probe_count}
use Rattle.jc_emit.specs.Added.{giver_of, HasCount, IsInitBody}
use Rattle.jc_emit.specs.Emission.{Emitting}
use Rattle.jc_emit.specs.Marks.{push, TwinPlaces}
use Rattle.jc_emit.specs.Straddling.{NoneStraddles}
use Rattle.jc_emit.specs.TwinBody.{use_at, HasFreePlaces}
use Rattle.jc_emit.specs.TwinBodies.{HasTwinBody}
use Rattle.jc_twin_programs.specs.TwinProgram.{IsChangedPair, IsAddedName, TwinProgram}
use Rattle.examples_machine.specs.ProgramExamples.{program, init, class, probed_class, frame}

abbrev pub names : List (List ℕ)
names = codes "[Z" ∷ []

pub only : {X : Type 0} (x y : X) → Contains (x ∷ []) y → x ≡ y
only x y h = ⊎_elim (λ e. e) (λ later. absurd (none_in y later)) (which_in x [] y h)

-- ---- what the twin of the method names

-- the array is got by the method, and the pool has no Integers
abbrev pub given : Emitting
given = record { fetch = fetches.Member; array = 0; integer = λ n. 0 }

abbrev pub places : TwinPlaces
places = record { giver = 95; array = 0; integer = λ n. 0 }

abbrev pub giver : Body → What
giver b = giver_of fetches.Member b.owner 0

pub free : (b : Body) → what_used b.uses 95 ≡ None → probe_count b ≤ most_short → HasFreePlaces b 0 fetches.Member places (giver b) 0
free b unused few = record {
  unused = λ u c. ap (λ (x : Use). what_used b.uses x.place) (sym (only (use_at 95 (giver b)) u c)) ∙ unused;
  apart = λ u v c d same. sym (only (use_at 95 (giver b)) u c) ∙ only (use_at 95 (giver b)) v d;
  enough = omega (arith, few);
}

-- ---- the class

-- `$jacocoInit` of a class with few probes
init_is : (name : List ℕ) (id : ℤ) (count : ℕ) → nat_le count most_short ≡ true → insns.Simple (opcode.iconst_0 + count) ≡ push count
    → IsInitBody names name id count (init name id count)
init_is name id count short few = record {
  places = record { field = 90; id = 91; name = 93; count = 0; fetch = 94 };
  method = record {
    owner = refl;
    name = refl;
    desc_is = refl;
    flags = refl;
    arguments = refl;
    max_stack = refl;
    max_locals_is = refl;
    code_is =
        ap (λ (i : Insn). insns.Member opcode.getstatic 90 ∷ insns.Simple opcode.dup ∷ insns.Jump opcode.ifnonnull 10 ∷ insns.Simple opcode.pop
        ∷ insns.Constant2 91 ∷ insns.Constant 93 ∷ i ∷ insns.Member opcode.invokestatic 94 ∷ insns.Simple opcode.dup ∷ insns.Member opcode.putstatic 90
        ∷ insns.Simple opcode.areturn ∷ []) (few ∙ sym (ap (λ s. if s then push count else insns.Constant 0) short));
    handlers = refl;
    lines = refl;
    vars = refl;
    kind_vars = refl;
  };
  frames = record { frame = frame 10 [] (kinds.Object 0 ∷ []); single = refl; at = refl; state = refl };
  field_is = refl;
  names_count = record {
    id_is = refl;
    name_is = refl;
    count_is = subst (λ s. HasCount s (init name id count).uses count 0) (sym short) tt;
    fetch_is = refl;
  };
}

module _ (b b' : Body) (id count : ℕ) where
  abbrev one : Linked
  one = class b.owner (b ∷ []) []

  abbrev probed_one : Linked
  probed_one = probed_class b.owner id (pos id) count (b' ∷ []) []

  changed : cast_signed w64 id ≡ pos id → sum_by probe_count (b ∷ []) ≡ count → nat_le count most_short ≡ true
      → insns.Simple (opcode.iconst_0 + count) ≡ push count → (IsAddedName b.name → ⊥) → NoneStraddles b
      → HasTwinBody names names fetches.Member (giver b) 0 b b' → IsChangedPair names names one probed_one
  unfolding fetch_of
  changed same counted short few no_added none_straddles twin = record {
    name = refl;
    version = refl;
    has_clinit = refl;
    none_added = record { bodies = λ x c n. no_added (subst (λ (x : Body). IsAddedName x.name) (sym (only b x c)) n); statics = λ f c n. none_in f c };
    no_probes = refl;
    none_straddles = λ x c. subst NoneStraddles (only b x c) none_straddles;
    id = id;
    bootstrap = 0;
    added = init b.owner (pos id) count;
    bodies = (twin, refl);
    added_is = subst (λ (n : ℕ). IsInitBody names b.owner (cast_signed w64 id) n (init b.owner (pos id) count)) (sym counted)
        (subst (λ (v : ℤ). IsInitBody names b.owner v count (init b.owner (pos id) count)) (sym same) (init_is b.owner (pos id) count short few));
    statics = refl;
    probes = ap (λ (n : ℕ). (Some (record { id = id; count = n; bootstrap = None }))) (sym counted);
  }

  -- the program with its probes is a twin
  pub one_is_twin : cast_signed w64 id ≡ pos id → sum_by probe_count (b ∷ []) ≡ count → nat_le count most_short ≡ true
      → insns.Simple (opcode.iconst_0 + count) ≡ push count → IsWellMade b → Checked names b → (IsAddedName b.name → ⊥) → NoneStraddles b
      → HasTwinBody names names fetches.Member (giver b) 0 b b' → TwinProgram (program (one ∷ [])) (program (probed_one ∷ []))
  one_is_twin same counted short few made checked no_added none_straddles twin = record {
    checked = λ c h x k.
        subst (λ (c : Linked). (x : Body) → Contains c.bodies x → IsWellMade x × Checked names x) (only one c h)
        (λ x k. subst (λ (x : Body). IsWellMade x × Checked names x) (only b x k) (made, checked)) x k;
    differ = ((λ other c e. none_in other c), tt);
    pairs = (inr (changed same counted short few no_added none_straddles twin), tt);
  }
