-- A program of a class that gets its array from its method and of one that gets it by a constant, and its twin.
use Rattle.std.proofs.Common.{◌≡◌, refl, sym, ap, subst, subst₂, ◌∙◌, ⊎_elim, inr, pos, [], ◌∷◌, arith, codes}
use Rattle.std.specs.Prelude.{Contains}
use Rattle.std.specs.Int.{w64, cast_signed}
use Rattle.std.specs.List.{sum_by}
use Rattle.jc_bytes.proofs.BooleanLaws.{first_in, which_in, none_in}
use Rattle.jc_methods.specs.ProbeMembers.{fetch_of}
use Rattle.jc_methods.specs.WellMade.{IsWellMade}
use Rattle.jc_methods.specs.declared.body.Body.{Body}
use Rattle.jc_methods.specs.declared.body.Use.{Use}
use Rattle.jc_methods.specs.declared.body.What.{What}
use Rattle.jc_methods.specs.declared.body.What.TheVariants as whats
use Rattle.jc_methods.specs.declared.probe_members.Fetch.TheVariants as fetches
use Rattle.jc_programs.specs.declared.program.Linked.{Linked}
use Rattle.jc_kinds.specs.Checked.{Checked}
use Rattle.jc_plan.specs.Probed.{probe_count}
use Rattle.jc_emit.specs.Added.{giver_of, IsBootstrapBody}
use Rattle.jc_emit.specs.Emission.{Emitting, emission}
use Rattle.jc_emit.specs.Items.{twin_items}
use Rattle.jc_emit.specs.Marks.{TwinPlaces}
use Rattle.jc_emit.specs.Straddling.{NoneStraddles}
use Rattle.jc_emit.specs.Twin.{Twin}
use Rattle.jc_emit.specs.TwinBody.{use_at, twin_body, HasFreePlaces}
use Rattle.jc_twin_programs.specs.TwinProgram.{IsChangedPair, IsAddedName, TwinProgram}
use Rattle.jc_emit.proofs.TwinBodyLaws.{has_twin}
use Rattle.examples_machine.specs.ProgramExamples.{class, a_name, m_name, abs, div}
use Rattle.examples_simulation.specs.ConstantExamples.{newer_class, newer_div, newer_bootstrap, probed_newer_class, mixed_program, probed_mixed_program}
use Rattle.examples_simulation.proofs.OneMethodLaws.{names, only}
use Rattle.examples_simulation.proofs.DivExampleLaws.{made, verdict_passes, states, each, none_straddles, fit, no_added}
use Rattle.examples_simulation.proofs.TwinExampleLaws.{is_twin}

-- ---- the twin of the method

abbrev given : Emitting
given = record { fetch = fetches.Constant; array = 0; integer = λ n. 0 }

abbrev places : TwinPlaces
places = record { giver = 95; array = 96; integer = λ n. 0 }

abbrev giver : What
giver = giver_of fetches.Constant m_name 0

abbrev first_use : Use
first_use = use_at 95 giver

abbrev second_use : Use
second_use = use_at 96 (whats.Class (codes "[Z"))

differ : (u v : Use) → first_use ≡ u → second_use ≡ v → u.place ≡ v.place → ⊥
differ u v e f same = let no : 95 ≡ 96 = ap (λ (x : Use). x.place) e ∙ same ∙ ap (λ (x : Use). x.place) (sym f) in omega (arith, no)

free : HasFreePlaces div 0 fetches.Constant places giver 0
free = record {
  unused = λ u c. refl;
  apart = λ u v c d same. ⊎_elim
      (λ e. ⊎_elim (λ f. sym e ∙ f) (λ f. absurd (differ u v e (only second_use v f) same)) (which_in first_use (second_use ∷ []) v d))
      (λ e. ⊎_elim (λ f. absurd (differ v u f (only second_use u e) (sym same))) (λ f. sym (only second_use u e) ∙ only second_use v f)
      (which_in first_use (second_use ∷ []) v d))
      (which_in first_use (second_use ∷ []) u c);
  enough = let few : probe_count div ≡ 1 = refl in omega (arith, few);
}

is_twin_body : twin_body div 0 states given places giver 0 ≡ newer_div
unfolding twin_body emission twin_items
is_twin_body = refl

newer_twin : Twin names names states fetches.Constant giver 0 div newer_div
newer_twin = subst (Twin names names states fetches.Constant giver 0 div) is_twin_body (has_twin div 0 states given places giver 0 names made.of_any_size fit refl free)

-- ---- the class

bootstrap_is : IsBootstrapBody m_name (pos 5) 1 newer_bootstrap
bootstrap_is = record {
  places = record { field = 0; id = 91; name = 93; count = 0; fetch = 94 };
  method = record {
    owner = refl;
    name = refl;
    desc_is = refl;
    flags = refl;
    arguments = refl;
    max_stack = refl;
    max_locals_is = refl;
    code_is = refl;
    handlers = refl;
    lines = refl;
    vars = refl;
    kind_vars = refl;
  };
  frames = refl;
  names_count = record { id_is = refl; name_is = refl; count_is = tt; fetch_is = refl };
}

counted : sum_by probe_count (div ∷ []) ≡ 1
counted = refl

same_id : cast_signed w64 5 ≡ pos 5
same_id = refl

changed : IsChangedPair names names newer_class probed_newer_class
unfolding fetch_of
changed = record {
  name = refl;
  version = refl;
  has_clinit = refl;
  none_added = record { bodies = λ x c n. no_added (subst (λ (x : Body). IsAddedName x.name) (sym (only div x c)) n); statics = λ f c n. none_in f c };
  no_probes = refl;
  none_straddles = λ x c. subst NoneStraddles (only div x c) none_straddles;
  id = 5;
  bootstrap = 0;
  added = newer_bootstrap;
  bodies = (record { states = states; are = record { count = refl; each = each }; twin = newer_twin }, refl);
  added_is = subst₂ (λ v n. IsBootstrapBody m_name v n newer_bootstrap) (sym same_id) (sym counted) bootstrap_is;
  statics = refl;
  probes = refl;
}

-- ---- the program

pub mixed_is_twin : TwinProgram mixed_program probed_mixed_program
mixed_is_twin = record {
  checked = λ c h x k. ⊎_elim
      (λ e. is_twin.checked c (subst (Contains (class a_name (abs ∷ []) [] ∷ [])) e (first_in (class a_name (abs ∷ []) []) [])) x k)
      (λ later.
      let is_newer : newer_class ≡ c = only newer_class c later in
      let is_div : div ≡ x = only div x (subst (λ (d : Linked). Contains d.bodies x) (sym is_newer) k) in
      subst (λ (b : Body). IsWellMade b × Checked names b) is_div (made, verdict_passes))
      (which_in (class a_name (abs ∷ []) []) (newer_class ∷ []) c h);
  differ = (
    λ other c e. others (subst (λ (d : Linked). d.name ≡ a_name) (sym (only newer_class other c)) e),
    ((λ other c e. none_in other c), tt),
  );
  pairs = (is_twin.pairs.0, (inr changed, tt));
}
  where
    others : m_name ≡ a_name → ⊥
    others e = cc
