-- The classes that frames name stand in the pool where those of all their values do.
use Rattle.std.proofs.Common.{ℕ, List, [], ◌∷◌, map, All}
use Rattle.std.specs.List.{AllByRecursion}
use Rattle.std.proofs.lemmas.List.Concat.{flat_map-cons}
use Rattle.jc_methods.specs.VerificationTypes.{VerificationType, Names, class_name, class_names, verification_type, type_state_at}
use Rattle.jc_methods.specs.declared.body.FrameAt.{FrameAt}
use Rattle.jc_methods.specs.declared.kind.Kind.{Kind}
use Rattle.jc_frames.specs.Frames.{values_in}
use Rattle.jc_frames.specs.FullTable.{HasPlace, named_by, named_by_all}
use Rattle.jc_frames.proofs.BuildingLaws.{by_recursion}
use Rattle.jc_frames.proofs.ValuesLaws.{in_values}
use Rattle.jc_plan.proofs.CountLaws.{each_joined}
use Rattle.jc_pool.specs.Pool.{PoolValue}
use Rattle.tests_classes.specs.Standing.{KindStands, FrameStands}

module _ (pool : PoolValue) (names : Names) where
  abbrev Stands : List ℕ → Type 0
  Stands name = HasPlace pool name

  abbrev ClassStands : VerificationType → Type 0
  ClassStands h = AllByRecursion Stands (class_name h)

  held_stand : (kinds : List Kind) → AllByRecursion (KindStands pool names) kinds → AllByRecursion ClassStands (map (verification_type names) kinds)
  held_stand [] all = tt
  held_stand (k ∷ kinds) all = (all.0, held_stand kinds all.1)

  names_stand : (values : List VerificationType) → AllByRecursion ClassStands values → AllByRecursion Stands (class_names values)
  names_stand [] all = tt
  names_stand (h ∷ values) all =
      rw (flat_map-cons class_name h values) (each_joined Stands (class_name h) (class_names values) all.0 (names_stand values all.1))

  frame_names : (f : FrameAt) → FrameStands pool names f → AllByRecursion Stands (named_by (type_state_at names f))
  frame_names f stands =
      let locals = held_stand f.state.locals (by_recursion (KindStands pool names) f.state.locals stands.locals) in
      let stack = held_stand f.state.stack (by_recursion (KindStands pool names) f.state.stack stands.stack) in
      let values = values_in (map (verification_type names) f.state.locals) in
      each_joined Stands (class_names values) (class_names (map (verification_type names) f.state.stack))
      (names_stand values (in_values ClassStands (map (verification_type names) f.state.locals) locals))
      (names_stand (map (verification_type names) f.state.stack) stack)

  each_frame : (frames : List FrameAt) → AllByRecursion (FrameStands pool names) frames
      → AllByRecursion Stands (named_by_all (map (type_state_at names) frames))
  each_frame [] all = tt
  each_frame (f ∷ frames) all =
      rw (flat_map-cons named_by (type_state_at names f) (map (type_state_at names) frames))
      (each_joined Stands (named_by (type_state_at names f)) (named_by_all (map (type_state_at names) frames)) (frame_names f all.0) (each_frame frames all.1))

  pub frames_stand : (frames : List FrameAt) → All (FrameStands pool names) frames
      → AllByRecursion (HasPlace pool) (named_by_all (map (type_state_at names) frames))
  frames_stand frames all = each_frame frames (by_recursion (FrameStands pool names) frames all)
