-- The twin of a program that passes the reference check passes it too.
use Rattle.std.proofs.Common.{◌≡◌, ◌⊎◌, inl, inr, ⊎_elim, ℕ, zero, suc, ◌<◌, ◌≤◌, List, [], ◌∷◌, length, Option, Some, None, refl, sym, ◌∙◌, ap, subst, arith}
use Rattle.std.specs.Prelude.{slice_get, IsTrue}
use Rattle.std.specs.Int.{w64, cast_signed}
use Rattle.std.specs.List.{sum_by}
use Rattle.std.proofs.lemmas.Bool.{cases_lt}
use Rattle.std.proofs.lemmas.Option.{same_Some, slice_get-get_or, slice_get_within}
use Rattle.jc_bytes.proofs.BooleanLaws.{stands_in}
use Rattle.jc_bytes.proofs.OptionLaws.{none_some}
use Rattle.jc_methods.specs.ProbeMembers.{fetch_of}
use Rattle.jc_methods.specs.VerificationTypes.{Names}
use Rattle.jc_methods.specs.WellMade.{IsWellMadeOfAnySize}
use Rattle.jc_methods.specs.declared.body.Body.{Body}
use Rattle.jc_programs.specs.declared.program.Program.{Program}
use Rattle.jc_programs.specs.declared.program.Linked.{Linked}
use Rattle.jc_programs.specs.declared.run_end.Entry.{Entry}
use Rattle.jc_kinds.specs.Checked.{Checked}
use Rattle.jc_kinds.specs.Flows.{FlowsBy}
use Rattle.jc_plan.specs.Probed.{probe_count, first_id}
use Rattle.jc_emit.specs.Added.{IsAddedBody}
use Rattle.jc_emit.specs.Marks.{Marks}
use Rattle.jc_emit.specs.TwinBodies.{AreSameBodies}
use Rattle.jc_emit.proofs.FlowLaws.{kind_flows}
use Rattle.jc_twin_programs.specs.SeenProgram.{IsSeenTwin, IsSeenSame, IsSeenAt}
use Rattle.jc_twin_programs.specs.TwinProgram.{IsPair, TwinProgram}
use Rattle.jc_twin_programs.proofs.SeenProgramLaws.{added_last}
use Rattle.jc_machine_model.specs.Methods.{is_enterable}
use Rattle.jc_twin_simulation.specs.Marking.{AreMarks}
use Rattle.jc_twin_simulation.specs.Sides.{Side, IsSide, AreSides, AreMarksOf}
use Rattle.jc_twin_simulation.proofs.MemberLaws.{enterable_same}
use Rattle.jc_twin_simulation.proofs.ProgramRunLaws.{have_marks, have_sides}
use Rattle.jc_refs_check.specs.RefsOk.{IsSuited, IsEntered, RefsOk}
use Rattle.jc_refs_check.specs.Suits.{Passes}
use Rattle.jc_refs_laws.specs.Laws.{RefsKept}
use Rattle.jc_refs_laws.proofs.FlowingLaws.{suited_passes}
use Rattle.jc_refs_laws.proofs.KeptFlowLaws.{entry_kept, branches_kept, handlers_kept, twin_flows}
use Rattle.jc_refs_laws.proofs.TwinOperandsLaws.{twin_operands}
use Rattle.jc_refs_laws.proofs.UnchangedLaws.{unchanged_suited}
use Rattle.jc_refs_laws.proofs.AddedLaws.{added_suited}

-- where no body stands, none of the same bodies stands
same_none : (names new_names : Names) (bodies others : List Body) → AreSameBodies names new_names bodies others → (k : ℕ) → slice_get bodies k ≡ None
    → slice_get others k ≡ None
same_none names new_names [] [] are k none = none
same_none names new_names [] (o ∷ others) are k none = absurd are
same_none names new_names (x ∷ bodies) [] are k none = absurd are
same_none names new_names (x ∷ bodies) (o ∷ others) are zero none = absurd (none_some (sym none))
same_none names new_names (x ∷ bodies) (o ∷ others) are (suc k) none = same_none names new_names bodies others are.1 k none

-- and all stand in front
all_before : (bodies : List Body) (k : ℕ) (other : Body) → slice_get bodies k ≡ None → length bodies ≤ k
all_before bodies k other none =
    ⊎_elim (λ lt. absurd (none_some (sym none ∙ slice_get-get_or bodies k other lt))) (λ le. le) (cases_lt k (length bodies))

module _ (p p' : Program) (before : TwinProgram p p') (ok : RefsOk p) (marks : Entry → Marks) (found : AreMarks p p' marks) (sides : Entry → Side)
    (are : AreSides p p' sides) (told : AreMarksOf p p' marks sides) where
  -- ---- a body of the original, and the one in its place

  module _ (m : Entry) (class new : Linked) (b b' : Body) (at : IsSeenAt p p' m.class m.method class new b b' (marks m))
      (enters : IsTrue (is_enterable new b')) where
    side : IsSide p p' m (sides m)
    side = are.side m class b at.class_at at.body_at

    -- the classes and the bodies of the side
    class_is : (sides m).class ≡ class
    class_is = same_Some (sides m).class class (sym side.class_is ∙ at.class_at)

    new_is : (sides m).new ≡ new
    new_is = same_Some (sides m).new new (sym side.new_is ∙ at.new_at)

    body_is : (sides m).body ≡ b
    body_is = same_Some (sides m).body b (sym side.body_is ∙ ap (λ (c : Linked). slice_get c.bodies m.method) class_is ∙ at.body_at)

    twin_is : (sides m).twin ≡ b'
    twin_is = same_Some (sides m).twin b' (sym side.twin_is ∙ ap (λ (c : Linked). slice_get c.bodies m.method) new_is ∙ at.new_body_at)

    -- a thread may enter the one, since it may enter the other
    old_enters : IsTrue (is_enterable class b)
    old_enters =
        subst IsTrue
        (ap (λ c. is_enterable c b') (sym new_is) ∙ ap (is_enterable (sides m).new) (sym twin_is)
        ∙ enterable_same p p' m (sides m) side
        ∙ ap (λ c. is_enterable c (sides m).body) class_is ∙ ap (is_enterable class) body_is) enters

    well : IsWellMadeOfAnySize b
    well = (before.checked class (stands_in p.classes m.class class at.class_at) b (stands_in class.bodies m.method b at.body_at)).0.of_any_size

    checked : Checked p.names b
    checked = (before.checked class (stands_in p.classes m.class class at.class_at) b (stands_in class.bodies m.method b at.body_at)).1

    suited : (i : ℕ) → i < length b.code → IsSuited p m b i
    suited i lt = ok m b i (record { linked = class; class_is = at.class_at; body_is = at.body_at; enterable = old_enters; within = lt })

    flows : FlowsBy Passes p.names b
    flows = suited_passes p m b (kind_flows p.names b checked) well.code.some suited

    twin_suited : (q : ℕ) → q < length b'.code → IsSeenTwin p.names p'.names class new m.method b b' (marks m) → IsSuited p' m b' q
    twin_suited q lt seen =
        let t = seen.twin in
        let first = first_id class.bodies m.method in
        let free = seen.pair.none_straddles b (stands_in class.bodies m.method b at.body_at) in
        let on = twin_flows p.names p'.names t.states (fetch_of class.version) class.name seen.pair.bootstrap first b b' well checked flows t.are free t.twin in
        record {
          operands = λ s is. twin_operands p p' before marks sides are told ok m class new b b' at seen old_enters q lt s is;
          branches = branches_kept p'.names b' q on;
          handlers =
              handlers_kept p.names p'.names t.states (fetch_of class.version) class.name seen.pair.bootstrap first b b' well checked flows t.are free t.twin
              (λ i within. (suited i within).handlers) q lt;
          entry = entry_kept p'.names b' q on;
        }

    seen_suited : (q : ℕ) → q < length b'.code
        → IsSeenTwin p.names p'.names class new m.method b b' (marks m) ⊎ IsSeenSame p.names p'.names class new b b' (marks m) → IsSuited p' m b' q
    seen_suited q lt (inl seen) = twin_suited q lt seen
    seen_suited q lt (inr same) = unchanged_suited p p' marks sides are told m class new b b' at same q lt suited

  -- ---- each body that a thread may enter

  module _ (m : Entry) (b' : Body) (q : ℕ) (entered : IsEntered p' m b' q) where
    abbrev new : Linked
    new = entered.linked

    -- behind the bodies of the original stands the added one alone
    behind : (class : Linked) → IsPair p.names p'.names class new → slice_get class.bodies m.method ≡ None → IsSuited p' m b' q
    behind class (inl pair) k =
        absurd (none_some (sym (same_none p.names p'.names class.bodies new.bodies pair.bodies m.method k) ∙ entered.body_is))
    behind class (inr pair) k =
        let last = added_last p.names p'.names class new pair in
        let within = slice_get_within new.bodies m.method b' entered.body_is in
        let place : m.method ≡ length class.bodies = omega (arith, within, all_before class.bodies m.method b' k, last.1) in
        let is : pair.added ≡ b' = same_Some pair.added b' (sym last.0 ∙ ap (slice_get new.bodies) (sym place) ∙ entered.body_is) in
        added_suited p' m new b' entered.class_is entered.body_is class.name (cast_signed w64 pair.id) (sum_by probe_count class.bodies)
        (fetch_of class.version)
        (subst (IsAddedBody (fetch_of class.version) p'.names class.name (cast_signed w64 pair.id) (sum_by probe_count class.bodies)) is pair.added_is)
        q entered.within

    -- the body in its place, if there is one, and else the one that was added
    in_class : (class : Linked) → slice_get p.classes m.class ≡ Some class → (o : Option Body) → slice_get class.bodies m.method ≡ o → IsSuited p' m b' q
    in_class class e (Some b) k =
        let a = found.each m class b e k in
        let new_is : a.0 ≡ new = same_Some a.0 new (sym a.2.new_at ∙ entered.class_is) in
        let body_is : a.1 ≡ b' = same_Some a.1 b' (sym a.2.new_body_at ∙ ap (λ (c : Linked). slice_get c.bodies m.method) new_is ∙ entered.body_is) in
        let at : IsSeenAt p p' m.class m.method class new b b' (marks m) =
        subst (λ c. IsSeenAt p p' m.class m.method class c b b' (marks m)) new_is
        (subst (λ x. IsSeenAt p p' m.class m.method class a.0 b x (marks m)) body_is a.2) in
        seen_suited m class new b b' at entered.enterable q entered.within at.seen
    in_class class e None k =
        let n = are.pair m.class class e in
        let new_is : n.0 ≡ new = same_Some n.0 new (sym n.1 ∙ entered.class_is) in
        behind class (subst (IsPair p.names p'.names class) new_is n.2) k

    in_program : (o : Option Linked) → slice_get p.classes m.class ≡ o → IsSuited p' m b' q
    in_program (Some class) e = in_class class e (slice_get class.bodies m.method) refl
    in_program None e =
        let within = slice_get_within p'.classes m.class new entered.class_is in
        let there = slice_get-get_or p.classes m.class new (subst (λ n. m.class < n) are.count within) in
        absurd (none_some (sym e ∙ there))

    each_suited : IsSuited p' m b' q
    each_suited = in_program (slice_get p.classes m.class) refl

  pub twin_passes : RefsOk p'
  twin_passes m b' q entered = each_suited m b' q entered

pub kept : (p p' : Program) → RefsKept p p'
kept p p' before ok =
    let marks = have_marks p p' before in
    let sides = have_sides p p' marks.0 before marks.1 in
    twin_passes p p' before ok marks.0 marks.1 sides.0 sides.1 sides.2
