-- The instructions of the prelude of a class that gets its probe array by a constant.
use Rattle.std.proofs.Common.{◌≡◌, ℕ, Bool, true, ◌&&◌, List, [], ◌∷◌, Option, Some, None, is_some, refl, sym, ap, ◌∙◌, subst, if◌then◌else◌}
use Rattle.std.specs.Prelude.{slice_get, bytes_eq}
use Rattle.std.specs.List.{sum_by}
use Rattle.std.proofs.lemmas.Bool.{eq-eqb}
use Rattle.std.proofs.lemmas.Option.{none-some, same_Some}
use Rattle.jc_bytes.proofs.TextEqualLaws.{same_bytes}
use Rattle.jc_methods.specs.Opcode as opcode
use Rattle.jc_methods.specs.ProbeMembers.{data_name, data_type, constant_type, fetch_of}
use Rattle.jc_methods.specs.declared.insn.Insn.{Insn}
use Rattle.jc_methods.specs.declared.insn.Insn.TheVariants as insns
use Rattle.jc_methods.specs.declared.body.What.{What}
use Rattle.jc_methods.specs.declared.body.What.TheVariants as whats
use Rattle.jc_methods.specs.declared.probe_members.Fetch.TheVariants as fetches
use Rattle.jc_programs.specs.declared.program.Program.{Program}
use Rattle.jc_programs.specs.declared.program.ProbeInit.{ProbeInit}
use Rattle.jc_programs.specs.declared.run_end.Entry.{Entry}
use Rattle.jc_plan.specs.Probed.{probe_count}
use Rattle.jc_emit.specs.Added.{giver_of, bootstrap_of}
use Rattle.jc_emit.specs.Items.{start}
use Rattle.jc_emit.specs.Twin.{NamesArray}
use Rattle.jc_machine_model.specs.Values.{Value, probes}
use Rattle.jc_machine_model.specs.World.{Frame, Shared}
use Rattle.jc_machine_model.specs.Methods.{declares_init}
use Rattle.jc_machine_model.specs.Objects.{by_cast}
use Rattle.jc_machine_model.specs.Operations.{pushes, casts, outside}
use Rattle.jc_machine_model.specs.Profile.{Location, what_at, gets_by, has_constant, given_of, given_by, given_in, computed_operation, constant_operation, begins_with_array, class_operation, operation_of}
use Rattle.jc_machine_model.specs.Perform.{perform}
use Rattle.jc_machine_model.specs.Results.{gets_stuck, goes_with}
use Rattle.jc_twin_simulation.specs.Sides.{Side, count_in, array_of, way_of, IsChanged, IsSide}
use Rattle.jc_twin_simulation.proofs.FrameLaws.{location, twin_insn}

module _ (p p' : Program) (sides : Entry → Side) (m : Entry) (side : IsSide p p' m (sides m)) (v : ℕ) (e : (sides m).slot ≡ Some v)
    (way : way_of (sides m) ≡ fetches.Constant) where
  abbrev t : Side
  t = sides m

  abbrev change : IsChanged p p' t v
  change = side.changed v e

  abbrev bootstrap : ℕ
  bootstrap = change.pair.bootstrap

  abbrev array : Value
  array = array_of t m.class

  -- ---- what the class gives

  abbrev init : ProbeInit
  init = record { id = change.pair.id; count = sum_by probe_count t.class.bodies; bootstrap = Some bootstrap }

  has : t.new.probes ≡ Some init
  has =
      change.pair.probes
      ∙ ap (λ f. Some (record { id = change.pair.id; count = sum_by probe_count t.class.bodies; bootstrap = bootstrap_of f bootstrap })) way

  by_constant : has_constant t.new ≡ true
  by_constant = ap (λ n. gets_by (fetch_of n)) side.version ∙ ap gets_by way

  gives : given_of t.new ≡ Some init
  gives =
      ap (λ (b : Bool). if b && declares_init t.new then t.new.probes else None) by_constant
      ∙ ap (λ (b : Bool). if b then t.new.probes else None) change.declares ∙ has

  array_is : probes m.class init.count ≡ array
  array_is = ap (λ o. probes m.class (count_in o)) (sym has)

  -- ---- at an instruction

  abbrev at : ℕ → Location
  at q = location m q t.new t.twin

  abbrev constant : Option What
  constant = Some (whats.Computed data_name constant_type bootstrap)

  constant_is : (q : ℕ) → what_at (at q) t.places.giver ≡ constant
  constant_is q = change.gets.giver_is ∙ ap (λ f. Some (giver_of f t.class.name bootstrap)) way

  given : (q : ℕ) → given_in (at q) constant ≡ Some init
  given q =
      ap (λ g. given_by g data_name constant_type bootstrap) gives
      ∙ ap (λ (b : Bool). if b && (bytes_eq data_name data_name && bytes_eq constant_type constant_type) then Some init else None)
      (eq-eqb bootstrap bootstrap refl)
      ∙ ap (λ (b : Bool). if b && bytes_eq constant_type constant_type then Some init else None) (same_bytes data_name data_name refl)
      ∙ ap (λ (b : Bool). if b then Some init else None) (same_bytes constant_type constant_type refl)

  -- the constant is loaded
  pub loads_constant : (s : Shared) (f : Frame) (q : ℕ) → q ≡ 0
      → perform (operation_of p' (at q) (insns.Constant t.places.giver)) s f ≡ goes_with s f (array ∷ f.stack)
  unfolding operation_of perform
  loads_constant s f q first =
      ap (λ o. perform (constant_operation (at q) o) s f) (constant_is q)
      ∙ ap (λ g. perform (computed_operation (at q) g) s f) (given q)
      ∙ ap (λ (b : Bool). perform (if b then pushes (probes m.class init.count) else outside) s f) (eq-eqb q 0 first)
      ∙ ap (λ a. goes_with s f (a ∷ f.stack)) array_is

  starts : slice_get t.items 0 ≡ Some (start fetches.Constant 0)
  starts = change.gets.starts ∙ ap (λ f. Some (start f 0)) way

  begins : (q : ℕ) → begins_with_array (at q) t.twin.code ≡ true
  begins q = let c = twin_insn p p' sides m side 0 (start fetches.Constant 0) starts in by t.twin.code (c.1 ∙ ap Some c.2)
    where
      by : (code : List Insn) → slice_get code 0 ≡ Some (insns.Constant t.places.giver) → begins_with_array (at q) code ≡ true
      by [] h = absurd (none-some (insns.Constant t.places.giver) h)
      by (insn ∷ code) h =
          ap (λ i. begins_with_array (at q) (i ∷ code)) (same_Some insn (insns.Constant t.places.giver) h)
          ∙ ap (λ o. is_some (given_in (at q) o)) (constant_is q) ∙ ap is_some (given q)

  array_class : (q : ℕ) → what_at (at q) t.places.array ≡ Some (whats.Class data_type)
  array_class q = subst (λ f. NamesArray f t.twin.uses t.places.array) way change.gets.array_is

  -- and passes the checkcast
  pub passes_cast : (s : Shared) (f : Frame) (q : ℕ) → q ≡ 1 → (st : List Value) → f.stack ≡ array ∷ st
      → perform (operation_of p' (at q) (insns.OfClass opcode.checkcast t.places.array)) s f ≡ goes_with s f f.stack
  unfolding operation_of perform
  passes_cast s f q second st on_top =
      ap (λ o. perform (class_operation opcode.checkcast (at q) o) s f) (array_class q)
      ∙ ap (λ (b : Bool). perform (if b && (bytes_eq data_type data_type && begins_with_array (at q) t.twin.code) then casts m.class else outside) s f)
      (eq-eqb q 1 second)
      ∙ ap (λ (b : Bool). perform (if b && begins_with_array (at q) t.twin.code then casts m.class else outside) s f) (same_bytes data_type data_type refl)
      ∙ ap (λ (b : Bool). perform (if b then casts m.class else outside) s f) (begins q)
      ∙ ap (λ l. by_cast m.class l s f) on_top
      ∙ ap (λ (b : Bool). if b then goes_with s f (array ∷ st) else gets_stuck) (eq-eqb m.class m.class refl)
      ∙ ap (goes_with s f) (sym on_top)
