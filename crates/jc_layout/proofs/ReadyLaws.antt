-- Emitted code that is ready for its layout: the constant that it loads first has its place.
use Rattle.std.proofs.Common.{◌≡◌, ℕ, zero, suc, Bool, List, [], ◌∷◌, map, refl, sym, ap, subst}
use Rattle.jc_methods.specs.Opcode as opcode
use Rattle.jc_methods.specs.Widened.{WideSet, listed, wide_place, widened, widened_from}
use Rattle.jc_methods.specs.declared.insn.Insn.{Insn}
use Rattle.jc_methods.specs.declared.insn.Insn.TheVariants as insns
use Rattle.jc_methods.specs.declared.kind.State.{State}
use Rattle.jc_methods.specs.declared.probe_members.Fetch.{Fetch}
use Rattle.jc_methods.specs.declared.probe_members.Fetch.TheVariants as fetches
use Rattle.jc_methods.specs.declared.body.Body.{Body}
use Rattle.jc_methods.specs.declared.body.Use.{Use}
use Rattle.jc_methods.specs.declared.emitted.Emitted.{Emitted}
use Rattle.jc_emit.specs.Emission.{Emitting, emission, widened_frame}
use Rattle.jc_emit.specs.Marks.{TwinPlaces, unplaced}
use Rattle.jc_emit.specs.Sizes.{narrow}
use Rattle.jc_emit.specs.TwinTables.{moved_row, moved_line}
use Rattle.jc_layout.specs.LaidBody.{laid_body, laid_frames, placed_var, readied, with_constant, with_prelude}
use Rattle.jc_layout.specs.Layout.{laid_code}
use Rattle.jc_layout.specs.Merged.{merged, used_frames}
use Rattle.jc_layout.proofs.LaidCodeLaws.{begins_by_constant, rest_of}

-- ---- the place of a constant moves nothing

abbrev loading : (place class : ℕ) → List Insn → List Insn
loading place class code = insns.Constant place ∷ insns.OfClass opcode.checkcast class ∷ code

same_place : (wide : WideSet) (x y class : ℕ) (code : List Insn) (place : ℕ)
    → wide_place wide (loading x class code) place ≡ wide_place wide (loading y class code) place
same_place wide x y class code zero = refl
same_place wide x y class code (suc place) = refl

same_places : (wide : WideSet) (x y class : ℕ) (code : List Insn) → wide_place wide (loading x class code) ≡ wide_place wide (loading y class code)
same_places wide x y class code = λ k place. same_place wide x y class code place k

same_prelude : (wide : WideSet) (p : TwinPlaces) (x y class : ℕ) (code : List Insn)
    → with_prelude fetches.Constant p (widened wide (loading x class code)) ≡ with_prelude fetches.Constant p (widened wide (loading y class code))
unfolding widened
same_prelude wide p x y class code =
    ap (λ (f : ℕ → ℕ). loading p.giver p.array (widened_from f wide 2 2 code)) (same_places wide x y class code)

abbrev with_code : Emitted → List Insn → Emitted
with_code e code = record e { code = code }

module _ (b : Body) (e : Emitted) (wide : List Bool) (p : TwinPlaces) (uses : List Use) where
  same_laid : (x y class : ℕ) (code : List Insn)
      → laid_body b (with_code e (loading x class code)) wide fetches.Constant p uses
      ≡ laid_body b (with_code e (loading y class code)) wide fetches.Constant p uses
  unfolding laid_body
  same_laid x y class code =
      λ k. let place = same_places (listed wide) x y class code k in record b {
        max_stack = e.max_stack;
        max_locals = e.max_locals;
        code = same_prelude (listed wide) p x y class code k;
        handlers = map (moved_row place place) e.handlers;
        lines = map (moved_line place) e.lines;
        vars = map (placed_var place) e.vars;
        kind_vars = map (placed_var place) e.kind_vars;
        frames = map (widened_frame place) (merged e.frames (used_frames (listed wide) e.wide_frames));
        uses = uses;
      }

-- ---- the body that is laid out is that of the emitted code

module _ (b : Body) (first : ℕ) (states : List State) (given : Emitting) (wide : List Bool) (p : TwinPlaces) where
  pub ready_laid : (uses : List Use) (giver : ℕ)
      → laid_body b (readied given.fetch giver (emission b first states given)) wide given.fetch p uses
      ≡ laid_body b (emission b first states given) wide given.fetch p uses
  unfolding emission
  ready_laid uses giver = by given.fetch refl
    where
      by : (fetch : Fetch) → given.fetch ≡ fetch
          → laid_body b (readied fetch giver (emission b first states given)) wide fetch p uses
          ≡ laid_body b (emission b first states given) wide fetch p uses
      by fetches.Member is = refl
      by fetches.Constant is =
          let none = unplaced given.integer in
          subst
          (λ (code : List Insn). laid_body b (with_code (emission b first states given) (with_constant giver code)) wide fetches.Constant p uses
          ≡ laid_body b (with_code (emission b first states given) code) wide fetches.Constant p uses)
          (sym (begins_by_constant b first (narrow given.fetch) is none))
          (same_laid b (emission b first states given) wide p uses giver 0 0 (rest_of b first (narrow given.fetch) none))

  -- so are its instructions and its frames
  pub ready_insns : (giver : ℕ)
      → with_prelude given.fetch p (laid_code wide (readied given.fetch giver (emission b first states given)).code)
      ≡ with_prelude given.fetch p (laid_code wide (emission b first states given).code)
  unfolding laid_body
  ready_insns giver = ap (λ (body : Body). body.code) (ready_laid [] giver)

pub ready_frames : (b : Body) (first : ℕ) (states : List State) (given : Emitting) (wide : List Bool) (giver : ℕ)
    → laid_frames wide (readied given.fetch giver (emission b first states given)) ≡ laid_frames wide (emission b first states given)
unfolding laid_body
ready_frames b first states given wide giver =
    ap (λ (body : Body). body.frames) (ready_laid b first states given wide (unplaced given.integer) [] giver)
