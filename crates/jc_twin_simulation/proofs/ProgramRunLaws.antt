-- The laws of programs and their twins, from worlds that stand beside each other.
use Rattle.std.proofs.Common.{◌≡◌, ℕ, List, Option, Some, None, refl, sym, ap, ◌∙◌, subst, []}
use Rattle.std.specs.Prelude.{slice_get}
use Rattle.std.proofs.lemmas.Option.{none-some}
use Rattle.jc_methods.specs.declared.body.Body.{Body}
use Rattle.jc_methods.specs.declared.probe_members.Fetch.TheVariants as fetches
use Rattle.jc_programs.specs.declared.program.Program.{Program}
use Rattle.jc_programs.specs.declared.program.Linked.{Linked}
use Rattle.jc_programs.specs.declared.run_plan.Case.{Case}
use Rattle.jc_programs.specs.declared.run_end.Entry.{Entry}
use Rattle.jc_programs.specs.Entries.{AreEntries}
use Rattle.jc_emit.specs.Marks.{Marks}
use Rattle.jc_twin_programs.specs.SeenProgram.{IsSeenAt}
use Rattle.jc_twin_programs.specs.TwinProgram.{TwinProgram}
use Rattle.jc_twin_programs.proofs.SeenProgramLaws.{body_seen, marks_one}
use Rattle.jc_machine_model.specs.Begin.{begin_case}
use Rattle.jc_twin_simulation.specs.Marking.{AreMarks}
use Rattle.jc_twin_simulation.specs.Laws.{HaveMarks, HaveOneMarks, HaveSides, CasesBeginBeside, TurnsStayBeside, BesideIsSame, RunsAreSame, IsKeptBySpread, SchedulesAreKept, ProbeTurnsAreFew, AllByConstant, ProbeTurnsAreFewer}
use Rattle.jc_twin_simulation.specs.Sides.{Side, way_of, IsSide}
use Rattle.jc_twin_simulation.specs.Beside.{Beside}
use Rattle.jc_twin_simulation.specs.Mid.{EachBeginsInMid, EachTurnKeeps}
use Rattle.jc_twin_simulation.proofs.BesideLaws.{mid_beside}
use Rattle.jc_twin_simulation.proofs.BeginLaws.{case_beside}
use Rattle.jc_twin_simulation.proofs.SameLaws.{beside_same}
use Rattle.jc_twin_simulation.proofs.SideLaws.{sides, are_sides, are_told}
use Rattle.jc_twin_simulation.proofs.MidLaws.{beside_mid}
use Rattle.jc_twin_simulation.proofs.WorldLaws.{one_turn}
use Rattle.jc_twin_simulation.proofs.RunLaws as runs

-- ---- runs

module _ (p p' : Program) (marks : Entry → Marks) (t : TwinProgram p p') (are : AreMarks p p' marks)
    (case : Case) (entries : List Entry) (h : AreEntries p case.threads entries) where
  begins : Beside p p' (sides p p' t marks are) (begin_case p case) (begin_case p' case)
  begins = case_beside p p' (sides p p' t marks are) (are_sides p p' t marks are) case entries h

  spreads : (q : List ℕ) → IsKeptBySpread p p' marks case q
  spreads q =
      let s = runs.spread_there p p' (sides p p' t marks are) marks (are_sides p p' t marks are) (are_told p p' t marks are) q (begin_case p case) (begin_case p' case) begins in
      record {
        turns = s.0;
        spread = s.1;
        same =
            λ others is. (runs.spread_same p p' (sides p p' t marks are) marks (are_sides p p' t marks are) (are_told p p' t marks are) q others
            (begin_case p case) (begin_case p' case) begins is).same;
        short =
            λ others is. (runs.spread_same p p' (sides p p' t marks are) marks (are_sides p p' t marks are) (are_told p p' t marks are) q others
            (begin_case p case) (begin_case p' case) begins is).short;
      }

pub runs_are_same : RunsAreSame
runs_are_same p p' marks t are case entries h turns =
    let s = sides p p' t marks are in
    beside_same p p' s marks (are_sides p p' t marks are) (are_told p p' t marks are) _ _
    (runs.same_run p p' s marks (are_sides p p' t marks are) (are_told p p' t marks are) turns (begin_case p case) (begin_case p' case)
    (begins p p' marks t are case entries h))

pub schedules_are_kept : SchedulesAreKept
schedules_are_kept p p' marks t are case entries h q = spreads p p' marks t are case entries h q

pub probe_turns_are_few : ProbeTurnsAreFew
probe_turns_are_few p p' marks t are case entries h k turns =
    runs.few_probe_turns p p' (sides p p' t marks are) marks (are_sides p p' t marks are) (are_told p p' t marks are) k turns (begin_case p case)
    (begin_case p' case) (begins p p' marks t are case entries h)

-- where each class gets its array by a constant, the methods of each do
pub each_by_constant : (p p' : Program) (each : Entry → Side) → AllByConstant p p' → (m : Entry) → IsSide p p' m (each m)
    → (v : ℕ) → (each m).slot ≡ Some v → way_of (each m) ≡ fetches.Constant
each_by_constant p p' each all m side v e = let s = each m in all m.class s.class s.new side.class_is side.new_is (side.changed v e).pair

pub probe_turns_are_fewer : ProbeTurnsAreFewer
probe_turns_are_fewer p p' marks t are case entries h all k turns =
    runs.fewer_probe_turns p p' (sides p p' t marks are) marks (are_sides p p' t marks are) (are_told p p' t marks are)
    (each_by_constant p p' (sides p p' t marks are) all) k turns (begin_case p case)
    (begin_case p' case) (begins p p' marks t are case entries h)

-- ---- one turn

pub have_sides : HaveSides
have_sides p p' marks t are = (sides p p' t marks are, are_sides p p' t marks are, are_told p p' t marks are)

pub cases_begin_beside : CasesBeginBeside
cases_begin_beside p p' marks s t are told case entries h = case_beside p p' s are case entries h

pub turns_stay_beside : TurnsStayBeside
turns_stay_beside p p' marks s t are told w w' k h = one_turn p p' s marks are told k w w' h

pub beside_is_same : BesideIsSame
beside_is_same p p' marks s t are told w w' h = beside_same p p' s marks are told w w' h

-- in terms of the two programs: worlds in which a case begins are in the relation, and those behind a turn are
pub begins_in_mid : EachBeginsInMid
begins_in_mid p p' marks t told case entries h =
    let s = have_sides p p' marks t told in
    beside_mid p p' s.0 marks s.1 s.2 _ _ (case_beside p p' s.0 s.1 case entries h)

pub turns_keep_mid : EachTurnKeeps
turns_keep_mid p p' marks t told w w' k fits fits' h =
    let s = have_sides p p' marks t told in
    beside_mid p p' s.0 marks s.1 s.2 _ _ (one_turn p p' s.0 marks s.1 s.2 k w w' (mid_beside p p' s.0 marks s.1 s.2 w w' fits fits' h))

-- ---- marks

no_marks : Marks
no_marks = record { at = []; own = []; extra = [] }

module _ (p p' : Program) (t : TwinProgram p p') where
  abbrev Has : Entry → Type 0
  Has m = (marks : Marks) × ((c : Linked) (b : Body) → slice_get p.classes m.class ≡ Some c → slice_get c.bodies m.method ≡ Some b
      → (new : Linked) × (b' : Body) × IsSeenAt p p' m.class m.method c new b b' marks)

  has : (m : Entry) → Has m
  has m = by (slice_get p.classes m.class) refl
    where
      same_class : (x y : Linked) → Some x ≡ Some y → x ≡ y
      same_class x y e = cc

      same_body : (x y : Body) → Some x ≡ Some y → x ≡ y
      same_body x y e = cc

      by_body : (c : Linked) → slice_get p.classes m.class ≡ Some c → (o : Option Body) → slice_get c.bodies m.method ≡ o → Has m
      by_body c e None k =
          (no_marks, λ d b h j. absurd (none-some b (sym k ∙ ap (λ (x : Linked). slice_get x.bodies m.method) (same_class c d (sym e ∙ h)) ∙ j)))
      by_body c e (Some b) k =
          let s = body_seen p p' t m.class m.method c b e k in (
            s.2,
            λ d x h j.
                let class = same_class c d (sym e ∙ h) in
                let body = same_body b x (sym k ∙ ap (λ (y : Linked). slice_get y.bodies m.method) class ∙ j) in (
                  s.0,
                  s.1,
                  subst (λ z. IsSeenAt p p' m.class m.method d s.0 z s.1 s.2) body
                      (subst (λ z. IsSeenAt p p' m.class m.method z s.0 b s.1 s.2) class s.3),
                ),
          )

      by : (o : Option Linked) → slice_get p.classes m.class ≡ o → Has m
      by None e = (no_marks, λ c b h k. absurd (none-some c (sym e ∙ h)))
      by (Some c) e = by_body c e (slice_get c.bodies m.method) refl

pub have_marks : HaveMarks
have_marks p p' t = (λ m. (has p p' t m).0, record { each = λ m c b h k. (has p p' t m).1 c b h k })

pub have_one : HaveOneMarks
have_one p p' t marks others are also m c b h k =
    let x = are.each m c b h k in
    let y = also.each m c b h k in
    marks_one p p' t m.class m.method c x.0 c y.0 b x.1 b y.1 (marks m) (others m) x.2 y.2
