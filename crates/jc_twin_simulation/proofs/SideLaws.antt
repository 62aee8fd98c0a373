-- Each method of a program beside that of its twin.
use Rattle.std.proofs.Common.{◌≡◌, ◌⊎◌, inl, inr, ℕ, ◌+◌, ◌<◌, false, List, [], ◌∷◌, map, Option, Some, None, refl, sym, ap, ap₂, ◌∙◌, subst, arith}
use Rattle.std.specs.Prelude.{slice_get}
use Rattle.std.specs.List.{sum_by}
use Rattle.std.proofs.lemmas.Option.{none-some}
use Rattle.jc_bytes.proofs.BooleanLaws.{stands_in}
use Rattle.jc_methods.specs.VerificationTypes.{Names}
use Rattle.jc_methods.specs.ProbeMembers.{init_name, fetch_of}
use Rattle.jc_methods.specs.WellMade.{IsWellMadeOfAnySize}
use Rattle.jc_methods.specs.declared.body.Body.{Body}
use Rattle.jc_programs.specs.declared.program.Program.{Program}
use Rattle.jc_programs.specs.declared.program.Linked.{Linked}
use Rattle.jc_programs.specs.declared.run_end.Entry.{Entry}
use Rattle.jc_kinds.specs.Checked.{Checked}
use Rattle.jc_plan.specs.Probed.{probe_count, first_id, probe_of}
use Rattle.jc_emit.specs.Added.{giver_of}
use Rattle.jc_emit.specs.Local.{no_ids}
use Rattle.jc_emit.specs.Marks.{unplaced, Marks, prelude_size}
use Rattle.jc_twin_programs.specs.SeenProgram.{IsSeenTwin, IsSeenSame, IsSeenAt}
use Rattle.jc_twin_programs.specs.TwinProgram.{IsPair, ArePairs, IsChangedPair, TwinProgram}
use Rattle.jc_emit.proofs.EdgeIdLaws.{each_within}
use Rattle.jc_emit.proofs.RankLaws.{ranked}
use Rattle.jc_emit.proofs.TwinPremisesLaws.{premises}
use Rattle.jc_emit.proofs.TwinStatesLaws.{prelude_state}
use Rattle.jc_emit.proofs.SeenLaws.{seen as items_seen}
use Rattle.jc_twin_programs.proofs.SeenProgramLaws.{classes_alike, class_pair, added_last, ids_seen}
use Rattle.jc_machine_model.specs.Methods.{is_init_name}
use Rattle.jc_machine_model.proofs.BeginLaws.{no_body}
use Rattle.jc_twin_simulation.specs.Marking.{AreMarks}
use Rattle.jc_twin_simulation.specs.Sides.{Side, count_in, IsSide, AreSides, AreTold, AreMarksOf}
use Rattle.jc_twin_simulation.proofs.RunItemLaws.{twin_runs, plain_runs}
use Rattle.jc_twin_simulation.proofs.ClassLaws.{other_name, original_declares, unchanged_declares, changed_declares}

-- ---- where there is no method

no_class : Linked
no_class = record { name = []; version = 0; bodies = []; statics = []; has_clinit = false; probes = None }

no_side : Side
no_side = record { class = no_class; new = no_class; body = no_body; twin = no_body; slot = None; ids = no_ids; items = []; places = unplaced (λ n. 0) }

-- ---- the names of classes

names_same : (names new_names : Names) (classes others : List Linked) → ArePairs names new_names classes others
    → map (λ (c : Linked). c.name) others ≡ map (λ (c : Linked). c.name) classes
names_same names new_names [] [] are = refl
names_same names new_names [] (o ∷ others) are = absurd are
names_same names new_names (c ∷ classes) [] are = absurd are
names_same names new_names (c ∷ classes) (o ∷ others) are = ap₂ (λ n l. n ∷ l) (by are.0) (names_same names new_names classes others are.1)
  where
    by : IsPair names new_names c o → o.name ≡ c.name
    by (inl pair) = pair.name
    by (inr pair) = pair.name

module _ (p p' : Program) (t : TwinProgram p p') (marks : Entry → Marks) (are : AreMarks p p' marks) where
  abbrev pub Facts : Entry → Side → Type 0
  Facts m s = IsSide p p' m s × AreTold (marks m) s

  -- ---- a method that is there

  module _ (m : Entry) (c new : Linked) (b b' : Body) (at : IsSeenAt p p' m.class m.method c new b b' (marks m)) where
    is_pair : IsSeenTwin p.names p'.names c new m.method b b' (marks m) ⊎ IsSeenSame p.names p'.names c new b b' (marks m) → IsPair p.names p'.names c new
    is_pair (inl s) = inr s.pair
    is_pair (inr s) = inl s.pair

    not_named : IsPair p.names p'.names c new → is_init_name b.name ≡ false
    not_named (inl pair) = other_name b.name init_name (λ same. pair.none_added.bodies b (stands_in c.bodies m.method b at.body_at) same)
    not_named (inr pair) = other_name b.name init_name (λ same. pair.none_added.bodies b (stands_in c.bodies m.method b at.body_at) (inl same))

    well : IsWellMadeOfAnySize b
    well = (t.checked c (stands_in p.classes m.class c at.class_at) b (stands_in c.bodies m.method b at.body_at)).0.of_any_size

    is_checked : Checked p.names b
    is_checked = (t.checked c (stands_in p.classes m.class c at.class_at) b (stands_in c.bodies m.method b at.body_at)).1

    same_slot : (x y : ℕ) → Some x ≡ Some y → y ≡ x
    same_slot x y e = cc

    twin_side : IsSeenTwin p.names p'.names c new m.method b b' (marks m) → (s : Side) × Facts m s
    twin_side s =
        let first = first_id c.bodies m.method in
        let states = s.twin.states in
        let t = s.twin.twin in
        let pair = s.pair in
        let fetch = fetch_of c.version in
        let giver = giver_of fetch c.name pair.bootstrap in
        let seen = items_seen p.names p'.names states fetch giver first b b' well t in
        let added = (added_last p.names p'.names c new pair).0 in (
          record { class = c; new = new; body = b; twin = b'; slot = Some b.arg_slots; ids = probe_of b first; items = seen.items; places = seen.places },
          (
            record {
              class_is = at.class_at;
              new_is = at.new_at;
              body_is = at.body_at;
              twin_is = at.new_body_at;
              named = not_named (inr pair);
              declares = original_declares p.names p'.names c new (inr pair);
              has_clinit = pair.has_clinit;
              version = pair.version;
              well = well;
              same = seen.method;
              uses = seen.uses;
              code = seen.code;
              plain = seen.plain;
              ok = seen.ok;
              ranked = ranked b.code (Some b.arg_slots) (probe_of b first) seen.items seen.ok;
              rows = seen.rows;
              max_stack = seen.max_stack;
              max_locals = seen.max_locals;
              changed = λ v e. record {
                slot = same_slot b.arg_slots v e;
                pair = pair;
                added_at = added;
                declares = changed_declares p.names p'.names c new pair added;
                gets = seen.gets;
                within = λ q id x here h. within first pair (each_within fetch giver first b b' t.marks seen q id x here h).1;
                begins = λ q lt.
                    prelude_state p.names p'.names states first t.form t.places b b'
                    (premises p.names p'.names states fetch c.name pair.bootstrap first b b' well is_checked s.twin.are
                    (pair.none_straddles b (stands_in c.bodies m.method b at.body_at)) t)
                    q (subst (λ f. q < prelude_size f) (sym t.fetch_is) lt);
              };
              unchanged = λ e. absurd (none-some b.arg_slots (sym e));
              ids_are = λ v e. refl;
              no_ids_are = λ e. absurd (none-some b.arg_slots (sym e));
              runs = twin_runs b first t.form;
            },
            record {
              at = ap (λ z. z.at) s.marks ∙ seen.at;
              own = ap (λ z. z.own) s.marks ∙ seen.own;
              extra = ap (λ z. z.extra) s.marks ∙ seen.extra;
            },
          ),
        )
      where
        within : (first : ℕ) (pair : IsChangedPair p.names p'.names c new) {id : ℕ} → id < first_id c.bodies m.method + probe_count b → id < count_in new.probes
        within first pair lt =
            let all = ids_seen p p' m.class m.method c new b b' (marks m) at in
            let count : count_in new.probes ≡ sum_by probe_count c.bodies = ap count_in pair.probes in
            omega (arith, lt, all, count)

    same_side : IsSeenSame p.names p'.names c new b b' (marks m) → (s : Side) × Facts m s
    same_side s =
        let seen = s.seen in
        let pair = s.pair in (
          record { class = c; new = new; body = b; twin = b'; slot = None; ids = no_ids; items = seen.items; places = seen.places },
          (
            record {
              class_is = at.class_at;
              new_is = at.new_at;
              body_is = at.body_at;
              twin_is = at.new_body_at;
              named = not_named (inl pair);
              declares = original_declares p.names p'.names c new (inl pair);
              has_clinit = pair.has_clinit;
              version = pair.version;
              well = well;
              same = seen.method;
              uses = seen.uses;
              code = seen.code;
              plain = seen.plain;
              ok = seen.ok;
              ranked = ranked b.code None no_ids seen.items seen.ok;
              rows = seen.rows;
              max_stack = seen.max_stack;
              max_locals = seen.max_locals;
              changed = λ v e. absurd (none-some v e);
              unchanged = λ e. record { pair = pair; declares = unchanged_declares p.names p'.names c new pair };
              ids_are = λ v e. absurd (none-some v e);
              no_ids_are = λ e. refl;
              runs = plain_runs seen.items seen.plain;
            },
            record { at = seen.at; own = seen.own; extra = seen.extra },
          ),
        )

    side_by : IsSeenTwin p.names p'.names c new m.method b b' (marks m) ⊎ IsSeenSame p.names p'.names c new b b' (marks m) → (s : Side) × Facts m s
    side_by (inl s) = twin_side s
    side_by (inr s) = same_side s

    side_of : (s : Side) × Facts m s
    side_of = side_by at.seen

  -- ---- each method

  abbrev pub Has : Entry → Type 0
  Has m = (s : Side) × ((c : Linked) (b : Body) → slice_get p.classes m.class ≡ Some c → slice_get c.bodies m.method ≡ Some b → Facts m s)

  pub has : (m : Entry) → Has m
  has m = by (slice_get p.classes m.class) refl
    where
      same_class : (x y : Linked) → Some x ≡ Some y → x ≡ y
      same_class x y e = cc

      by_body : (c : Linked) → slice_get p.classes m.class ≡ Some c → (o : Option Body) → slice_get c.bodies m.method ≡ o → Has m
      by_body c e None k =
          (no_side, λ d b h j. absurd (none-some b (sym k ∙ ap (λ (x : Linked). slice_get x.bodies m.method) (same_class c d (sym e ∙ h)) ∙ j)))
      by_body c e (Some b) k =
          let a = are.each m c b e k in
          let s = side_of m c a.0 b a.1 a.2 in
          (s.0, λ d x h j. s.1)

      by : (o : Option Linked) → slice_get p.classes m.class ≡ o → Has m
      by None e = (no_side, λ c b h k. absurd (none-some c (sym e ∙ h)))
      by (Some c) e = by_body c e (slice_get c.bodies m.method) refl

  abbrev pub sides : Entry → Side
  sides m = (has m).0

  pub are_sides : AreSides p p' sides
  are_sides = record {
    count = classes_alike p p' t;
    pair = λ class c e. class_pair p p' t class c e;
    added = λ c new pair. (added_last p.names p'.names c new pair).0;
    names = names_same p.names p'.names p.classes p'.classes t.pairs;
    differ = t.differ;
    side = λ m c b e k. ((has m).1 c b e k).0;
  }

  pub are_told : AreMarksOf p p' marks sides
  are_told m s = ((has m).1 (sides m).class (sides m).body s.class_is s.body_is).1
