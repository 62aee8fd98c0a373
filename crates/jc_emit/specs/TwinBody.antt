-- The twin of a body without wide jumps, as a body: a function of the body.
use Rattle.std.specs.Prelude.{◌≡◌, ℕ, zero, suc, ◌+◌, ◌≤◌, pos, List, [], ◌∷◌, ◌++◌, map, None, Contains}
use Rattle.jc_methods.specs.ProbeMembers.{data_type, most_short}
use Rattle.jc_methods.specs.declared.kind.State.{State}
use Rattle.jc_methods.specs.declared.body.Body.{Body}
use Rattle.jc_methods.specs.declared.body.Use.{Use}
use Rattle.jc_methods.specs.declared.body.What.{What}
use Rattle.jc_methods.specs.declared.body.What.TheVariants as whats
use Rattle.jc_methods.specs.declared.probe_members.Fetch.{Fetch}
use Rattle.jc_methods.specs.declared.probe_members.Fetch.TheVariants as fetches
use Rattle.jc_methods.specs.WellMade.{what_used}
use Rattle.jc_plan.specs.Probed.{probe_count}
use Rattle.jc_emit.specs.Marks.{TwinPlaces}
use Rattle.jc_emit.specs.Emission.{Emitting, emission}
use Rattle.jc_emit.specs.Sizes.{narrow}
use Rattle.jc_emit.specs.Items.{insn_of, twin_items}

abbrev pub use_at : ℕ → What → Use
use_at place what = record { place = place; what = what }

-- what the prelude uses
abbrev pub prelude_uses : Fetch → TwinPlaces → (giver : What) → List Use
prelude_uses fetches.Member p giver = use_at p.giver giver ∷ []
prelude_uses fetches.Constant p giver = use_at p.giver giver ∷ use_at p.array (whats.Class data_type) ∷ []

-- the Integers of so many ids above those that sipush pushes
abbrev pub integer_uses : (integer : ℕ → ℕ) → ℕ → List Use
integer_uses integer zero = []
integer_uses integer (suc n) = integer_uses integer n ++ (use_at (integer (most_short + 1 + n)) (whats.Int (pos (most_short + 1 + n))) ∷ [])

-- what the twin uses beside what the body uses
abbrev pub twin_uses : Fetch → TwinPlaces → (giver : What) → (integers : ℕ) → List Use
twin_uses fetch p giver integers = prelude_uses fetch p giver ++ integer_uses p.integer integers

-- Each has a place of its own in the pool, which the body doesn't use, and there are Integers for all ids of the body.
pub record HasFreePlaces (b : Body) (first : ℕ) (fetch : Fetch) (p : TwinPlaces) (giver : What) (integers : ℕ) : Type 0 where
  pub unused : (u : Use) → Contains (twin_uses fetch p giver integers) u → what_used b.uses u.place ≡ None
  pub apart : (u v : Use) → Contains (twin_uses fetch p giver integers) u → Contains (twin_uses fetch p giver integers) v → u.place ≡ v.place → u ≡ v
  pub enough : first + probe_count b ≤ most_short + 1 + integers

-- The pool has at these places what the twin names, which has so many ids above those that sipush pushes.
unfoldable pub twin_body : Body → (first : ℕ) → List State → Emitting → TwinPlaces → (giver : What) → (integers : ℕ) → Body
twin_body b first states given places giver integers = let e = emission b first states given in record b {
  max_stack = e.max_stack;
  max_locals = e.max_locals;
  code = map (insn_of places b.arg_slots) (twin_items b first (narrow given.fetch));
  handlers = e.handlers;
  lines = e.lines;
  vars = e.vars;
  kind_vars = e.kind_vars;
  frames = e.frames;
  uses = twin_uses given.fetch places giver integers ++ b.uses;
}
