-- The covered instructions and branches of a body, by marking backward: each instruction is marked once, and each
-- branch is looked at a fixed number of times.
use Rattle.std.specs.Prelude.{ℕ, zero, suc, ◌+◌, Bool, true, false, ◌&&◌, List, [], ◌∷◌, map, replicate, length, Option}
use Rattle.std.specs.Prelude.{Some, None, slice_index_or, slice_set}
use Rattle.std.specs.List.{list_any}
use Rattle.jc_bytes.specs.PlainLists.{map_from}
use Rattle.jc_methods.specs.declared.insn.Insn.{Insn}
use Rattle.jc_methods.specs.declared.body.Body.{Body}
use Rattle.jc_plan.specs.declared.branch.Branch.{Branch}
use Rattle.jc_plan.specs.Edges.{place_of, branches_of, branches}
use Rattle.jc_plan.specs.Probed.{is_probed, id_of, first_id}
use Rattle.jc_cover.specs.Covered.{is_hit}
use Rattle.jc_cover.specs.declared.coverage.Coverage.{Coverage}

-- ---- where edges without probes come from

-- the instruction is put down as the source of the place, if there is one
abbrev pub with_source : Option ℕ → ℕ → List (Option ℕ) → List (Option ℕ)
with_source None at sources = sources
with_source (Some to) at sources = slice_set sources to (Some at)

-- an edge with a probe adds nothing
abbrev pub with_edge : Bool → Option ℕ → ℕ → List (Option ℕ) → List (Option ℕ)
with_edge true to at sources = sources
with_edge false to at sources = with_source to at sources

abbrev pub with_edges : Body → List Branch → List (Option ℕ) → List (Option ℕ)
with_edges b [] sources = sources
with_edges b (x ∷ xs) sources = with_edges b xs (with_edge (is_probed b x) (place_of x.way) x.at sources)

-- for each instruction, the one from which an edge without a probe leads there
abbrev pub sources : Body → List (Option ℕ)
sources b = with_edges b (branches b.code) (replicate (length b.code) None)

-- ---- marks

-- One step: an instruction that is marked already, or that isn't there, ends it. Else it is marked, and its source comes
-- next.
abbrev pub unless_marked : Bool → (List Bool → List Bool) → List Bool → List Bool
unless_marked true more marks = marks
unless_marked false more marks = more marks

abbrev pub at_source : Option ℕ → (ℕ → List Bool → List Bool) → List Bool → List Bool
at_source None more marks = marks
at_source (Some i) more marks = more i marks

-- marks the instruction, its source, the source of that, and so on, at most so many
abbrev pub mark_back : List (Option ℕ) → ℕ → ℕ → List Bool → List Bool
mark_back from zero i marks = marks
mark_back from (suc n) i marks =
    unless_marked (slice_index_or marks i true)
    (λ old. at_source (slice_index_or from i None) (mark_back from n) (slice_set old i true)) marks

-- a probe of the instruction is hit
abbrev pub has_hit : Body → ℕ → List Bool → Branch → Bool
has_hit b first hits x = is_probed b x && is_hit hits (id_of b first x)

abbrev pub is_hit_at : Body → ℕ → List Bool → ℕ → Insn → Bool
is_hit_at b first hits i insn = list_any (has_hit b first hits) (branches_of i insn)

abbrev pub mark_if : Bool → (List Bool → List Bool) → List Bool → List Bool
mark_if true more marks = more marks
mark_if false more marks = marks

-- marks back from each instruction of which a probe is hit
abbrev pub mark_each : Body → ℕ → List Bool → List (Option ℕ) → ℕ → List Insn → List Bool → List Bool
mark_each b first hits from i [] marks = marks
mark_each b first hits from i (insn ∷ code) marks =
    mark_each b first hits from (i + 1) code (mark_if (is_hit_at b first hits i insn) (mark_back from (length b.code) i) marks)

-- for each instruction, whether it is covered
abbrev pub marks_of : Body → ℕ → List Bool → List Bool
marks_of b first hits = mark_each b first hits (sources b) 0 b.code (replicate (length b.code) false)

-- ---- branches

abbrev pub is_marked : List Bool → Option ℕ → Bool
is_marked marks None = false
is_marked marks (Some i) = slice_index_or marks i false

abbrev pub covers_by : Bool → Body → ℕ → List Bool → List Bool → Branch → Bool
covers_by true b first hits marks x = is_hit hits (id_of b first x)
covers_by false b first hits marks x = is_marked marks (place_of x.way)

-- by its probe, or by the instruction where it leads
abbrev pub covers : Body → ℕ → List Bool → List Bool → Branch → Bool
covers b first hits marks x = covers_by (is_probed b x) b first hits marks x

abbrev pub insn_values : Body → ℕ → List Bool → List Bool → ℕ → Insn → List Bool
insn_values b first hits marks i insn = map (covers b first hits marks) (branches_of i insn)

abbrev pub values_by : Body → ℕ → List Bool → List Bool → List (List Bool)
values_by b first hits marks = map_from (insn_values b first hits marks) 0 b.code

-- for each instruction of the body, a value for each branch
abbrev pub body_values : Body → ℕ → List Bool → List (List Bool)
body_values b first hits = values_by b first hits (marks_of b first hits)

abbrev pub class_values : List Body → List Bool → ℕ → Body → List (List Bool)
class_values bodies hits n b = body_values b (first_id bodies n) hits

-- for each body of the class
abbrev pub coverage_of : List Body → List Bool → Coverage
coverage_of bodies hits = record { edges = map_from (class_values bodies hits) 0 bodies }
