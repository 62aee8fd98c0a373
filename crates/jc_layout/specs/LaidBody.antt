-- The body that the bytes of a layout stand for.
use Rattle.std.specs.Prelude.{◌≡◌, ℕ, zero, suc, ◌<◌, ◌^◌, Bool, List, [], ◌∷◌, ◌++◌, map, Some, nat_lt, if◌then◌else◌}
use Rattle.jc_bytes.specs.BigNumbers.{short}
use Rattle.jc_methods.specs.VerificationTypes.{Names}
use Rattle.jc_methods.specs.WellMade.{what_used}
use Rattle.jc_methods.specs.Widened.{listed, wide_place}
use Rattle.jc_methods.specs.declared.insn.Insn.{Insn}
use Rattle.jc_methods.specs.declared.body.Body.{Body}
use Rattle.jc_methods.specs.declared.body.FrameAt.{FrameAt}
use Rattle.jc_methods.specs.declared.body.Use.{Use}
use Rattle.jc_methods.specs.declared.body.VarAt.{VarAt}
use Rattle.jc_methods.specs.declared.body.What.{What}
use Rattle.jc_methods.specs.declared.insn.Insn.TheVariants as insns
use Rattle.jc_methods.specs.declared.kind.State.{State}
use Rattle.jc_methods.specs.declared.probe_members.Fetch.{Fetch}
use Rattle.jc_methods.specs.declared.probe_members.Fetch.TheVariants as fetches
use Rattle.jc_methods.specs.Opcode as opcode
use Rattle.jc_plan.specs.Probed.{probe_count}
use Rattle.jc_methods.specs.declared.emitted.Emitted.{Emitted}
use Rattle.jc_insn.specs.Spells.{Spells}
use Rattle.jc_emit.specs.Emission.{Emitting, emission, form_by, widened_frame}
use Rattle.jc_emit.specs.Marks.{TwinPlaces, invokestatic}
use Rattle.jc_emit.specs.Sizes.{TwinForm}
use Rattle.jc_emit.specs.Twin.{NamesProbes, Twin}
use Rattle.jc_emit.specs.TwinTables.{moved_row, moved_line}
use Rattle.jc_layout.specs.Layout.{laid_code, laid_starts, chosen_text}
use Rattle.jc_layout.specs.Merged.{merged, used_frames}

-- ---- what the prelude names

-- The code, where the pool has at these places what the prelude names.
abbrev pub with_prelude : Fetch → TwinPlaces → List Insn → List Insn
with_prelude fetches.Member p (insn ∷ code) = invokestatic p.giver ∷ code
with_prelude fetches.Constant p (load ∷ cast ∷ code) = insns.Constant p.giver ∷ insns.OfClass opcode.checkcast p.array ∷ code
with_prelude fetch p code = code

-- the code, where the constant that its first instruction loads stands at this place of the pool
abbrev pub with_constant : (place : ℕ) → List Insn → List Insn
with_constant place (load ∷ code) = insns.Constant place ∷ code
with_constant place [] = []

-- The code, ready for its layout. The place of a constant decides how `ldc` is spelled (JVM Specification 6.5), so it stands there
-- before the layout is chosen. A method and a class have their places in two bytes in any case.
abbrev pub ready_code : Fetch → (giver : ℕ) → List Insn → List Insn
ready_code fetches.Member giver code = code
ready_code fetches.Constant giver code = with_constant giver code

-- what is emitted, with code that is ready for its layout
abbrev pub readied : Fetch → (giver : ℕ) → Emitted → Emitted
readied fetch giver e = record e { code = ready_code fetch giver e.code }

-- The bytes, with a place of the pool in the two bytes behind the opcode that stands at this offset (JVM Specification 6.5,
-- invokestatic, checkcast). Where bytes are missing they stay.
abbrev pub with_operand : (offset place : ℕ) → List ℕ → List ℕ
with_operand zero place (op ∷ high ∷ low ∷ bytes) = op ∷ short place ++ bytes
with_operand (suc offset) place (byte ∷ bytes) = byte ∷ with_operand offset place bytes
with_operand offset place bytes = bytes

-- how many bytes the instruction has that loads the constant at this place
abbrev pub constant_size : (place : ℕ) → ℕ
constant_size place = if nat_lt place 256 then 2 else 3

-- The bytes of code that was laid out, where the pool has at these places what the prelude names: the first instruction gets the
-- place of the method that it calls; the second one, behind the load of a constant, that of the class of the array.
abbrev pub with_place : Fetch → (giver array : ℕ) → List ℕ → List ℕ
with_place fetches.Member giver array bytes = with_operand 0 giver bytes
with_place fetches.Constant giver array bytes = with_operand (constant_size giver) array bytes

-- ---- places in the layout

-- where in the layout stands what stands for the instruction at a place of the emitted code
abbrev pub laid_place : List Bool → List Insn → ℕ → ℕ
laid_place wide code place = wide_place (listed wide) code place

abbrev pub placed_var : (ℕ → ℕ) → VarAt → VarAt
placed_var place x = record { start = place x.start; end = place x.end; name = x.name; desc = x.desc; slot = x.slot }

-- The frames: those behind wide jumps too. The places of frames and of `new` instructions are those of the layout.
abbrev pub laid_frames : List Bool → Emitted → List FrameAt
laid_frames wide e = map (widened_frame (laid_place wide e.code)) (merged e.frames (used_frames (listed wide) e.wide_frames))

-- ---- the whole

-- The body for which emitted code, ready for its layout, and its tables stand in a layout, where these jumps are wide, the pool has at these places what the
-- prelude names, and these are the uses.
unfoldable pub laid_body : Body → Emitted → (wide : List Bool) → Fetch → TwinPlaces → List Use → Body
laid_body b e wide fetch p uses = record b {
  max_stack = e.max_stack;
  max_locals = e.max_locals;
  code = with_prelude fetch p (laid_code wide e.code);
  handlers = map (moved_row (laid_place wide e.code) (laid_place wide e.code)) e.handlers;
  lines = map (moved_line (laid_place wide e.code)) e.lines;
  vars = map (placed_var (laid_place wide e.code)) e.vars;
  kind_vars = map (placed_var (laid_place wide e.code)) e.kind_vars;
  frames = laid_frames wide e;
  uses = uses;
}

-- the form of the twin that stands there
abbrev pub laid_form : Body → (first : ℕ) → Fetch → (wide : List Bool) → TwinForm
laid_form b first fetch wide = form_by b first fetch (listed wide)

-- ---- what is said of it

-- Whichever jumps are wide, the body is a twin, where what the twin names has its places among the uses, and those of the body stay.
abbrev pub LaidBodiesAreTwins : Names → Body → (first : ℕ) → List State → Emitting → Type 0
LaidBodiesAreTwins names b first states given =
    (wide : List Bool) (p : TwinPlaces) (giver : What) (uses : List Use) → p.integer ≡ given.integer
    → NamesProbes given.fetch giver first (probe_count b) uses p
    → ((place : ℕ) (what : What) → what_used b.uses place ≡ Some what → what_used uses place ≡ Some what)
    → Twin names names states given.fetch giver first b
    (laid_body b (readied given.fetch p.giver (emission b first states given)) wide given.fetch p uses)

-- If these are the bytes of the layout that is chosen for code that is ready for it, and spell it in a layout, then with the place in
-- the pool that comes last they spell the code of the body that stands there.
abbrev pub SpellsLaid : Body → Emitted → (wide : List Bool) → Fetch → TwinPlaces → List Use → (bytes starts : List ℕ) → Type 0
SpellsLaid b e wide fetch p uses bytes starts =
    bytes ≡ chosen_text e.code → Spells bytes (laid_code wide e.code) (laid_starts wide e.code starts)
    → Spells (with_place fetch p.giver p.array bytes) (laid_body b e wide fetch p uses).code (laid_starts wide e.code starts)

-- The bytes of the layout that spell the code before the pool has all that the prelude names spell the code of the body, once its
-- place stands there too.
abbrev pub LaidBodiesAreSpelled : Body → Emitted → Fetch → Type 0
LaidBodiesAreSpelled b e fetch =
    (wide : List Bool) (p : TwinPlaces) (uses : List Use) (bytes starts : List ℕ) → p.giver < 2 ^ 16 → p.array < 2 ^ 16
    → SpellsLaid b (readied fetch p.giver e) wide fetch p uses bytes starts
