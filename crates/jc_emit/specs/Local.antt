-- A twin seen from each of its instructions: what it is, and where it goes on.
use Rattle.std.specs.Prelude.{◌≡◌, ◌⊎◌, ⊤, ℕ, suc, ◌+◌, ◌<◌, ◌≤◌, Bool, true, false, List, length, Option, Some, None, nat_lt, slice_get, Contains, ◌↔◌}
use Rattle.jc_bytes.specs.PlainLists.{map_from}
use Rattle.jc_methods.specs.Flow.{flow_of, jump_target}
use Rattle.jc_methods.specs.Insn.{with_places}
use Rattle.jc_methods.specs.declared.insn.Insn.{Insn}
use Rattle.jc_methods.specs.declared.insn.Flow.{Flow}
use Rattle.jc_methods.specs.declared.body.Handler.{Handler}
use Rattle.jc_methods.specs.declared.probe_members.Fetch.{Fetch}
use Rattle.jc_plan.specs.declared.branch.Branch.{Branch}
use Rattle.jc_plan.specs.Edges.{place_of, sequence, jump, branches_of, branches}
use Rattle.jc_kinds_after.specs.Shift.{with_slot}
use Rattle.jc_emit.specs.Sizes.{insn_at, early_by}
use Rattle.jc_methods.specs.Widened.{inverted}
use Rattle.jc_emit.specs.TwinCode.{to_of}
use Rattle.jc_emit.specs.Marks.{prelude_size}
use Rattle.jc_emit.specs.Items.{Item, start, image, probe_array, probe_id, probe_one, probe_store, hop, at_of, extra_of}
use Rattle.jc_methods.specs.declared.insn.Flow.TheVariants as flows

-- ---- items

-- it stands behind the prelude
abbrev pub IsBehind : Item → Type 0
IsBehind (start fetch k) = ⊥
IsBehind _ = ⊤

-- the id that is still to be hit for an edge that was taken
abbrev pub late_id : ℕ → Bool → Option ℕ
late_id id true = Some id
late_id id false = None

abbrev pub due_of : Item → Option ℕ
due_of (probe_array id at late) = late_id id late
due_of (probe_id id at late) = late_id id late
due_of (probe_one id at late) = late_id id late
due_of (probe_store id at late) = late_id id late
due_of (hop to at due) = due
due_of _ = None

-- the id of the probe of which it is an instruction
abbrev pub id_in : Item → Option ℕ
id_in (probe_array id at late) = Some id
id_in (probe_id id at late) = Some id
id_in (probe_one id at late) = Some id
id_in (probe_store id at late) = Some id
id_in _ = None

-- the id that was hit for the edge that comes next
abbrev pub early_of : Item → Option ℕ
early_of (image insn at early) = early
early_of _ = None

abbrev pub IsNoHop : Item → Type 0
IsNoHop (hop to at due) = ⊥
IsNoHop _ = ⊤

-- the local variables of a twin are shifted behind its arguments, and those of an unchanged body aren't
abbrev pub moved_insn : Option ℕ → Insn → Insn
moved_insn None insn = insn
moved_insn (Some v) insn = with_slot v insn

-- an exception row holds the instruction
abbrev pub Holds : Handler → ℕ → Type 0
Holds h i = (h.start ≤ i) × (i < h.end)

-- `slot` is the local variable of the probe array, and none in an unchanged body; `ids` gives the probes of branches,
-- of which an unchanged body has none.
module _ (code : List Insn) (slot : Option ℕ) (ids : Branch → Option ℕ) (items : List Item) where
  -- ---- where it goes on

  -- The twin can go on at q where the body goes on at `at`: nothing is pushed, and the probe `due` alone is still to be
  -- hit for what was taken.
  pub record Stands (q at : ℕ) (due : Option ℕ) : Type 0 where
    pub item : Item
    pub here : slice_get items q ≡ Some item
    pub at_is : at_of item ≡ at
    pub pushed : extra_of item ≡ 0
    pub due_is : due_of item ≡ due
    pub no_early : early_of item ≡ None
    pub behind : IsBehind item

  -- the same, and no goto of the twin stands there
  pub record Lands (q at : ℕ) (due : Option ℕ) : Type 0 where
    pub stands : Stands q at due
    pub no_hop : IsNoHop stands.item

  -- the probe of the fall-through out of an instruction
  abbrev pub next_due : ℕ → Option ℕ
  next_due i = ids (sequence i)

  -- it jumps where the instruction does and goes on where it does, or the other way round
  pub record TestsAlike (q i : ℕ) (insn new : Insn) : Type 0 where
    pub target : ℕ
    pub same : new ≡ with_places (λ to. target) insn
    pub jumped : Lands target (jump_target insn) (ids (jump i (jump_target insn)))
    pub fell : Stands (q + 1) (i + 1) (next_due i)

  pub record TestsInversely (q i : ℕ) (insn new : Insn) : Type 0 where
    pub target : ℕ
    pub inverse : new ≡ inverted target insn
    pub jumped : Lands target (i + 1) (next_due i)
    pub fell : Stands (q + 1) (jump_target insn) (ids (jump i (jump_target insn)))

  -- it leads for each branch to where the twin can go on
  pub record SwitchesAlike (i : ℕ) (insn new : Insn) : Type 0 where
    pub place : ℕ → ℕ
    pub same : new ≡ with_places place insn
    pub each : (x : Branch) → Contains (branches_of i insn) x → Lands (place (to_of x)) (to_of x) (ids x)

  pub record JumpsAlike (insn new : Insn) : Type 0 where
    pub target : ℕ
    pub same : new ≡ with_places (λ to. target) insn
    pub jumped : Lands target (jump_target insn) None

  -- the image of an instruction of this flow
  abbrev pub OkImage : (q i : ℕ) → Insn → Insn → Flow → Type 0
  OkImage q i insn new flows.GoesOn = (new ≡ moved_insn slot insn) × Lands (q + 1) (i + 1) (next_due i)
  OkImage q i insn new flows.Branches = TestsAlike q i insn new ⊎ TestsInversely q i insn new
  OkImage q i insn new flows.Jumps = JumpsAlike insn new
  OkImage q i insn new flows.Switches = SwitchesAlike i insn new
  OkImage q i insn new flows.Returns = new ≡ insn
  OkImage q i insn new flows.Throws = new ≡ insn

  -- the probe that stands in front of a goto, a return or an athrow
  abbrev pub early_at : ℕ → Option ℕ
  early_at i = early_by ids i (insn_at code i) (flow_of (insn_at code i))

  -- some branch of the body has the id
  pub record IsOfBranch (id : ℕ) : Type 0 where
    pub branch : Branch
    pub listed : Contains (branches code) branch
    pub has_id : ids branch ≡ Some id

  -- some branch of the body has the id, and it leads to the instruction
  pub record IsOfEdgeTo (id at : ℕ) : Type 0 where
    pub of_branch : IsOfBranch id
    pub leads : place_of of_branch.branch.way ≡ Some at

  -- a probe behind its edge is one of an edge that leads to the instruction, and a probe in front of its instruction the
  -- one of the instruction's edge
  abbrev pub IsOfEdge : (id at : ℕ) → Bool → Type 0
  IsOfEdge id at true = IsOfEdgeTo id at
  IsOfEdge id at false = early_at at ≡ Some id

  abbrev pub OkStore : (q id at : ℕ) → Bool → Type 0
  OkStore q id at true = Stands (q + 1) at None
  OkStore q id at false = (insn : Insn) × (slice_get items (q + 1) ≡ Some (image insn at (Some id)))

  -- the prelude goes on with its next instruction, if there is one, and else with the first instruction of the method
  abbrev pub StartsOn : Bool → (q : ℕ) → Fetch → (k : ℕ) → Type 0
  StartsOn true q fetch k = slice_get items (q + 1) ≡ Some (start fetch (suc k))
  StartsOn false q fetch k = Lands (q + 1) 0 None

  pub record OkStarting (q : ℕ) (fetch : Fetch) (k : ℕ) : Type 0 where
    pub place : q ≡ k
    pub within : k < prelude_size fetch
    pub next : StartsOn (nat_lt (suc k) (prelude_size fetch)) q fetch k

  -- behind a probe that is due where a goto leads stands no goto of the twin
  abbrev pub LandsBehind : (to at : ℕ) → Option ℕ → Type 0
  LandsBehind to at None = ⊤
  LandsBehind to at (Some id) = Lands (to + 4) at None

  abbrev pub Ok : ℕ → Item → Type 0
  Ok q (start fetch k) = OkStarting q fetch k
  Ok q (image new i early) =
      (i < length code) × (early ≡ early_at i) × OkImage q i (insn_at code i) new (flow_of (insn_at code i))
  Ok q (probe_array id at late) = IsOfEdge id at late × (slice_get items (q + 1) ≡ Some (probe_id id at late))
  Ok q (probe_id id at late) = IsOfEdge id at late × (slice_get items (q + 1) ≡ Some (probe_one id at late))
  Ok q (probe_one id at late) = IsOfEdge id at late × (slice_get items (q + 1) ≡ Some (probe_store id at late))
  Ok q (probe_store id at late) = IsOfEdge id at late × OkStore q id at late
  Ok q (hop to at due) = Lands to at due × LandsBehind to at due

  -- a twin begins with the prelude, and an unchanged body with its first instruction
  abbrev pub OkStart : Option ℕ → Type 0
  OkStart None = Lands 0 0 None
  OkStart (Some v) = (fetch : Fetch) × (slice_get items 0 ≡ Some (start fetch 0))

  -- each instruction is what it is said to be, and goes on where it should
  pub record AllOk : Type 0 where
    pub ok : (q : ℕ) (x : Item) → slice_get items q ≡ Some x → Ok q x
    pub start : OkStart slot

  -- ---- exception rows

  -- the row holds the image of an instruction exactly where the old row holds the instruction, and its handler is where
  -- the twin can go on
  pub record OkRow (h new : Handler) : Type 0 where
    pub class : new.class ≡ h.class
    pub holds : (q i : ℕ) (insn : Insn) (early : Option ℕ) → slice_get items q ≡ Some (image insn i early)
        → Holds new q ↔ Holds h i
    pub target : Lands new.target h.target None

-- an unchanged body has no probe
abbrev pub no_ids : Branch → Option ℕ
no_ids x = None

-- the items of an unchanged body: each instruction is its own image
abbrev pub unchanged_items : List Insn → List Item
unchanged_items code = map_from (λ i insn. image insn i None) 0 code
