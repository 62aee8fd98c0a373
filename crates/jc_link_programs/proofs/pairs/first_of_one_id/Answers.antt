use Rattle.std.proofs.Common.{◌≡◌, ◌∙◌, ◌<◌, ℕ, Bool, Some, cond, length, nat_eq, refl, sym, ap, subst, rules, arith}
use Rattle.std.proofs.lemmas.Bool.Decides.{nat_tests}
use Rattle.std.proofs.lemmas.Option.{slice_get_read}
use Rattle.std.specs.Option.{option_map}
use Rattle.std.specs.BTreeMap.{get}
use Rattle.std.specs.Ordering.{is_eq, nat_cmp}
use Rattle.jc_programs.specs.declared.program.ProbeInit.{ProbeInit}
use Rattle.jc_link_programs.specs.Pairs.{id_of}
use Rattle.jc_link_programs.proofs.PairsLaws.{Knows, IsOwner, pair_found, known_without, none_shares, owned_more}
use Rattle.jc_link_programs.proofs.pairs.first_of_one_id.Goals as goal
use Rattle.jc_link_programs.proofs.pairs.first_of_one_id.Goals.{in-Some+in-None+in_ok-insert-in-None, in_default}

one_number : (m n : ℕ) → is_eq (nat_cmp m n) ≡ nat_eq m n
one_number m n = grind (arith, nat_tests)

pub returns-in-Some-get : goal.returns-in-Some-get
returns-in-Some-get c =
    let inside : c.owning.second < length c.args.classes.now = omega arith in
    let here = slice_get_read c.args.classes.now (length c.args.classes.now) c.owning.second c.index-classes-second.result refl inside c.index-classes-second.is in
    pair_found id_of c.args.classes.now (IsOwner (get nat_cmp c.owning.owners)) c.owning.second c.in-Some-get.first.now c.index-classes-second.result c.in-Some.init.id c.owning.invariant here
    (ap (option_map (λ (p : ProbeInit). p.id)) c.in-Some.is) (sym c.in-Some-get.ensures.value)

pub owning-preserved : goal.owning-preserved
owning-preserved c =
    let inside : c.owning.second < length c.args.classes.now = omega arith in
    let here = slice_get_read c.args.classes.now (length c.args.classes.now) c.owning.second c.index-classes-second.result refl inside c.index-classes-second.is in
    elim c.match-class.branch [
      | in-Some+in-None+in_ok-insert-in-None w ↦ rw w.owners-is
          (owned_more id_of c.args.classes.now (get nat_cmp c.owning.owners) (get nat_cmp w.insert.new.self) c.owning.second c.index-classes-second.result w.in-Some.init.id
          c.owning.invariant here (ap (option_map (λ (p : ProbeInit). p.id)) w.in-Some.is) (sym w.in-None.ensures.value)
          (λ q. w.in_ok-insert-in-None.ensures.updates.0 q
          ∙ ap (λ (b : Bool). cond b (Some c.owning.second) (get nat_cmp c.owning.owners q)) (one_number w.in-Some.init.id q)))
      | in_default w ↦ rw w.owners-is
          (known_without id_of c.args.classes.now (IsOwner (get nat_cmp c.owning.owners)) c.owning.second c.index-classes-second.result
          c.owning.invariant here (search rules))
    ]

pub returns : goal.returns
returns c =
    let end : c.owning.second ≡ length c.args.classes.now = omega arith in
    none_shares id_of c.args.classes.now (IsOwner (get nat_cmp c.owning.owners)) (subst (Knows id_of c.args.classes.now (IsOwner (get nat_cmp c.owning.owners))) end c.owning.invariant)
