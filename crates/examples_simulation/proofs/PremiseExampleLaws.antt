-- A run plan that meets the premises of exact coverage.
use Rattle.std.proofs.Common.{◌≡◌, refl, sym, subst, ℕ, zero, suc, Bool, List, [], ◌∷◌}
use Rattle.std.specs.Prelude.{Contains, IsTrue, slice_index_or}
use Rattle.std.specs.Fmt.{digits}
use Rattle.std.proofs.lemmas.Bool.{true≢false}
use Rattle.jc_bytes.proofs.BooleanLaws.{first_in}
use Rattle.jc_methods.specs.ProbeMembers.{fetch_of}
use Rattle.jc_methods.specs.DescriptorTypes.{types_from, rest_from}
use Rattle.jc_programs.specs.Entries.{entry_of, AreEntries}
use Rattle.jc_programs.specs.Turns.{turns_in}
use Rattle.jc_programs.specs.declared.run_plan.Case.{Case}
use Rattle.jc_programs.specs.declared.run_end.Entry.{Entry}
use Rattle.jc_cover.specs.Covered.{is_hit}
use Rattle.jc_machine_model.specs.World.{Hit}
use Rattle.jc_machine_model.specs.Effects.{constant, moves_of, int_bits, int_pair, compared, long_pair, int_single, long_single, single, pair, effect}
use Rattle.jc_machine_model.specs.Profile.{operation_of}
use Rattle.jc_machine_model.specs.Jumps.{test_of}
use Rattle.jc_machine_model.specs.Perform.{perform}
use Rattle.jc_machine_model.specs.Step.{step}
use Rattle.jc_machine_model.specs.Begin.{begin}
use Rattle.jc_machine_model.specs.Run.{run, IsHit}
use Rattle.jc_twin_simulation.proofs.ProgramRunLaws.{have_marks}
use Rattle.jc_twin_exact.specs.Exact.{EndsWell, TellHits}
use Rattle.examples_machine.specs.ProgramExamples.{abs_program, probed_abs_program, hit}
use Rattle.examples_simulation.specs.CoverageExamples.{MeetsPremises, abs_case, abs_plan, abs_hits}
use Rattle.examples_simulation.proofs.OneMethodLaws.{only}
use Rattle.examples_simulation.proofs.TwinExampleLaws.{is_twin}

entries : AreEntries abs_program abs_case.threads (record { class = 0; method = 0 } ∷ [])
unfolding entry_of types_from rest_from
entries = (refl, tt)

-- one probe is hit, and the thread returns
one_hit : (run probed_abs_program abs_case (turns_in abs_case)).hits ≡ hit 0 0 ∷ []
unfolding types_from rest_from fetch_of entry_of constant moves_of int_bits int_pair compared long_pair int_single long_single single pair effect operation_of test_of perform step begin digits
one_hit = refl

ends : EndsWell probed_abs_program abs_case (turns_in abs_case)
unfolding types_from rest_from fetch_of entry_of constant moves_of int_bits int_pair compared long_pair int_single long_single single pair effect operation_of test_of perform step begin digits
ends = record { returned = (tt, tt); calm = refl }

-- the probes that the lists tell
abbrev is_told : (class id : ℕ) → Bool
is_told class id = is_hit (slice_index_or (abs_hits ∷ []) class []) id

to_hit : (class id : ℕ) → IsTrue (is_told class id) → hit 0 0 ≡ hit class id
to_hit zero zero h = refl
to_hit zero (suc zero) h = absurd (true≢false (sym h))
to_hit zero (suc (suc id)) h = absurd (true≢false (sym h))
to_hit (suc class) id h = absurd (true≢false (sym h))

hits_are : TellHits (IsHit probed_abs_program abs_plan) (abs_hits ∷ [])
hits_are class id = (
  λ h. (abs_case, first_in abs_case [], subst (λ l. Contains l (hit class id)) (sym one_hit) (subst (Contains (hit 0 0 ∷ [])) (to_hit class id h) (first_in (hit 0 0) []))),
  λ h.
      let case = only abs_case h.0 h.1 in
      let there = subst (λ (c : Case). Contains (run probed_abs_program c (turns_in c)).hits (hit class id)) (sym case) h.2 in
      let same = only (hit 0 0) (hit class id) (subst (λ l. Contains l (hit class id)) one_hit there) in
      subst (λ (x : Hit). IsTrue (is_told x.class x.id)) same refl,
)

pub abs_meets : MeetsPremises abs_program probed_abs_program abs_plan (abs_hits ∷ [])
abs_meets = record {
  twin = is_twin;
  marks = (have_marks abs_program probed_abs_program is_twin).0;
  are = (have_marks abs_program probed_abs_program is_twin).1;
  entries = λ case c. subst (λ (x : Case). (l : List Entry) × AreEntries abs_program x.threads l) (only abs_case case c) (record { class = 0; method = 0 } ∷ [], entries);
  hits_are = hits_are;
  ends = λ case c. subst (λ (x : Case). EndsWell probed_abs_program x (turns_in x)) (only abs_case case c) ends;
}
