-- A method of a program beside that of its twin, and the classes of the two.
use Rattle.std.specs.Prelude.{◌≡◌, ℕ, ◌<◌, true, false, List, length, map, Option, Some, None, slice_get}
use Rattle.jc_methods.specs.EntryState.{entry_of}
use Rattle.jc_methods.specs.VerificationTypes.{VerificationType}
use Rattle.jc_methods.specs.WellMade.{IsWellMadeOfAnySize}
use Rattle.jc_methods.specs.declared.body.Body.{Body}
use Rattle.jc_methods.specs.declared.probe_members.Fetch.{Fetch}
use Rattle.jc_methods.specs.ProbeMembers.{fetch_of}
use Rattle.jc_programs.specs.declared.program.Program.{Program}
use Rattle.jc_programs.specs.declared.program.Linked.{Linked}
use Rattle.jc_programs.specs.declared.program.ProbeInit.{ProbeInit}
use Rattle.jc_programs.specs.declared.run_end.Entry.{Entry}
use Rattle.jc_kinds.specs.States.{state_of}
use Rattle.jc_plan.specs.declared.branch.Branch.{Branch}
use Rattle.jc_plan.specs.Probed.{first_id, probe_of}
use Rattle.jc_emit.specs.Added.{giver_of}
use Rattle.jc_emit.specs.Items.{Item, at_of, own_of, extra_of}
use Rattle.jc_emit.specs.Local.{AllOk, OkRow, Stands, id_in, no_ids}
use Rattle.jc_emit.specs.Marks.{TwinPlaces, Marks, prelude_size}
use Rattle.jc_emit.specs.Ranks.{IsRanked}
use Rattle.jc_emit.specs.Seen.{OkRows, IsPlain, AreInsnsOf, GetsArray, with_more}
use Rattle.jc_emit.specs.Twin.{IsSameMethod, KeepsUses}
use Rattle.jc_twin_programs.specs.TwinProgram.{IsPair, IsChangedPair, IsUnchangedPair, DifferInName}
use Rattle.jc_machine_model.specs.Values.{Value, probes}
use Rattle.jc_twin_simulation.specs.ProbeRuns.{AreRuns}
use Rattle.jc_machine_model.specs.Methods.{is_init_name, declares_init}

-- the two bodies with their classes, and what the twin is made of: the local variable of the probe array, the ids of the
-- branches, the items, and where the pool has what it names
pub record Side : Type 0 where
  pub class : Linked
  pub new : Linked
  pub body : Body
  pub twin : Body
  pub slot : Option ℕ
  pub ids : Branch → Option ℕ
  pub items : List Item
  pub places : TwinPlaces

abbrev pub count_in : Option ProbeInit → ℕ
count_in None = 0
count_in (Some init) = init.count

-- the probe array of the class with this number
abbrev pub array_of : Side → ℕ → Value
array_of t class = probes class (count_in t.new.probes)

-- the twin goes on at q where the method goes on at i
abbrev pub GoesOnAt : Side → (q i : ℕ) → Type 0
GoesOnAt t q i = (due : Option ℕ) × Stands t.body.code t.slot t.ids t.items q i due

-- how methods of its class get the probe array, where it is a changed one
abbrev pub way_of : Side → Fetch
way_of t = fetch_of t.class.version

-- a method of a changed class
pub record IsChanged (p p' : Program) (t : Side) (v : ℕ) : Type 0 where
  pub slot : v ≡ t.body.arg_slots
  pub pair : IsChangedPair p.names p'.names t.class t.new
  pub added_at : slice_get t.new.bodies (length t.class.bodies) ≡ Some pair.added
  pub declares : declares_init t.new ≡ true
  pub gets : GetsArray (way_of t) (giver_of (way_of t) t.class.name pair.bootstrap) t.twin.uses t.items t.places
  pub within : (q id : ℕ) (x : Item) → slice_get t.items q ≡ Some x → id_in x ≡ Some id → id < count_in t.new.probes
  -- before each instruction of the prelude the local variables have the types with which the method begins
  pub begins : (q : ℕ) → q < prelude_size (way_of t)
      → (stack : List VerificationType) × (state_of p'.names t.twin q ≡ Some (record { locals = (entry_of t.twin).locals; stack = stack }))

-- a method of an unchanged class
pub record IsUnchanged (p p' : Program) (t : Side) : Type 0 where
  pub pair : IsUnchangedPair p.names p'.names t.class t.new
  pub declares : declares_init t.new ≡ false

pub record IsSide (p p' : Program) (method : Entry) (t : Side) : Type 0 where
  pub class_is : slice_get p.classes method.class ≡ Some t.class
  pub new_is : slice_get p'.classes method.class ≡ Some t.new
  pub body_is : slice_get t.class.bodies method.method ≡ Some t.body
  pub twin_is : slice_get t.new.bodies method.method ≡ Some t.twin
  pub named : is_init_name t.body.name ≡ false
  pub declares : declares_init t.class ≡ false
  pub has_clinit : t.new.has_clinit ≡ t.class.has_clinit
  pub version : t.new.version ≡ t.class.version
  pub well : IsWellMadeOfAnySize t.body
  pub same : IsSameMethod t.body t.twin
  pub uses : KeepsUses t.body t.twin
  pub code : AreInsnsOf t.twin.uses t.places t.body.arg_slots t.items t.twin.code
  pub plain : IsPlain t.slot t.items
  pub ok : AllOk t.body.code t.slot t.ids t.items
  pub ranked : IsRanked t.body.code t.ids t.items
  pub rows : OkRows (OkRow t.body.code t.slot t.ids t.items) t.body.handlers t.twin.handlers
  pub max_stack : t.twin.max_stack ≡ with_more t.slot 3 t.body.max_stack
  pub max_locals : t.twin.max_locals ≡ with_more t.slot 1 t.body.max_locals
  pub changed : (v : ℕ) → t.slot ≡ Some v → IsChanged p p' t v
  pub unchanged : t.slot ≡ None → IsUnchanged p p' t
  -- the ids of a changed class are those of its probes, and an unchanged one has none
  pub ids_are : (v : ℕ) → t.slot ≡ Some v → t.ids ≡ probe_of t.body (first_id t.class.bodies method.method)
  pub no_ids_are : t.slot ≡ None → t.ids ≡ no_ids
  -- the instructions of the prelude and of each probe stand one behind the other
  pub runs : AreRuns t.items

-- the methods of a program beside those of its twin
pub record AreSides (p p' : Program) (sides : Entry → Side) : Type 0 where
  pub count : length p'.classes ≡ length p.classes
  pub pair : (class : ℕ) (c : Linked) → slice_get p.classes class ≡ Some c
      → (new : Linked) × (slice_get p'.classes class ≡ Some new) × IsPair p.names p'.names c new
  pub added : (c new : Linked) (pair : IsChangedPair p.names p'.names c new) → slice_get new.bodies (length c.bodies) ≡ Some pair.added
  pub names : map (λ (c : Linked). c.name) p'.classes ≡ map (λ (c : Linked). c.name) p.classes
  pub differ : DifferInName p.classes
  pub side : (method : Entry) (c : Linked) (b : Body) → slice_get p.classes method.class ≡ Some c → slice_get c.bodies method.method ≡ Some b
      → IsSide p p' method (sides method)

-- what the marks of a method say is what its items say
pub record AreTold (marks : Marks) (side : Side) : Type 0 where
  pub at : marks.at ≡ map at_of side.items
  pub own : marks.own ≡ map own_of side.items
  pub extra : marks.extra ≡ map extra_of side.items

-- the marks are those of the methods that are there
abbrev pub AreMarksOf : (p p' : Program) → (Entry → Marks) → (Entry → Side) → Type 0
AreMarksOf p p' marks sides = (method : Entry) → IsSide p p' method (sides method) → AreTold (marks method) (sides method)
