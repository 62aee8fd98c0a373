-- What threads of a twin have to do with probes: those that they still have to hit, and those that they hit before their edge.
use Rattle.std.specs.Prelude.{◌≡◌, ℕ, Bool, true, false, List, [], ◌∷◌, Option, Some, None, option_map, slice_get}
use Rattle.jc_programs.specs.declared.program.Program.{Program}
use Rattle.jc_programs.specs.declared.run_end.Entry.{Entry}
use Rattle.jc_emit.specs.Items.{Item}
use Rattle.jc_emit.specs.Local.{due_of, early_of}
use Rattle.jc_machine_model.specs.World.{Frame, Thread, running, stuck, Hit}
use Rattle.jc_machine_model.specs.Step.{is_init_method}
use Rattle.jc_twin_simulation.specs.Sides.{Side}

abbrev pub hit_of : (class id : ℕ) → Hit
hit_of class id = record { class = class; id = id }

abbrev pub item_hit : (Item → Option ℕ) → ℕ → Option Item → Option Hit
item_hit id_by class None = None
item_hit id_by class (Some x) = option_map (hit_of class) (id_by x)

-- One turn of the twin alone: it hits nothing, or the probe that was due, or the one of the edge that comes next.
pub data Passes (due early : Option Hit) (hits : List Hit) (due' early' : Option Hit) : Type 0 where
  nothing : hits ≡ [] → due' ≡ due → early' ≡ early → Passes due early hits due' early'
  a_late_one : (h : Hit) → hits ≡ h ∷ [] → due ≡ Some h → due' ≡ None → early' ≡ early → Passes due early hits due' early'
  an_early_one : (h : Hit) → hits ≡ h ∷ [] → due' ≡ due → early ≡ None → early' ≡ Some h → Passes due early hits due' early'

module _ (p' : Program) (sides : Entry → Side) where
  abbrev pub place_hit : (Item → Option ℕ) → Entry → ℕ → Option Hit
  place_hit id_by method place = item_hit id_by method.class (slice_get (sides method).items place)

  abbrev pub frame_hit : (Item → Option ℕ) → Bool → Frame → Option Hit
  frame_hit id_by true f = None
  frame_hit id_by false f = place_hit id_by f.method f.place

  -- the probe that is still to be hit for the edge that was taken
  abbrev pub due_in : Thread → Option Hit
  due_in (running f waiting) = frame_hit due_of (is_init_method p' f.method) f
  due_in _ = None

  -- the probe that was hit for the edge that comes next
  abbrev pub early_in : Thread → Option Hit
  early_in (running f waiting) = frame_hit early_of (is_init_method p' f.method) f
  early_in (stuck method place) = place_hit early_of method place
  early_in _ = None
