-- An own turn of a thread: what its results make of the threads.
use Rattle.std.proofs.Common.{◌≡◌, inl, ℕ, suc, ◌+◌, Bool, true, false, not, ◌&&◌, List, [], ◌∷◌, length, filter, Option, Some, None, nat_le, refl, sym, ap, ap₂, ◌∙◌, subst, if◌then◌else◌}
use Rattle.jc_programs.specs.declared.program.Program.{Program}
use Rattle.jc_programs.specs.declared.run_end.Entry.{Entry}
use Rattle.jc_programs.specs.declared.run_end.Thrown.{Thrown}
use Rattle.jc_programs.specs.declared.run_end.Thrown.TheVariants as thrown
use Rattle.jc_methods.specs.declared.insn.Insn.{Insn}
use Rattle.jc_emit.specs.Items.{image}
use Rattle.jc_machine_model.specs.Values.{Value}
use Rattle.jc_machine_model.specs.World.{Frame, running, Shared}
use Rattle.jc_machine_model.specs.Methods.{is_init_name}
use Rattle.jc_machine_model.specs.Results.{Result, goes, hits, calls, leaves, raises, throws, gets_stuck, next_with}
use Rattle.jc_machine_model.specs.Step.{is_init_method, counted_frames, overflows, new_frame, given_back, left, After, after, placed, thrown_in, after_result}
use Rattle.jc_twin_simulation.specs.Sides.{Side}
use Rattle.jc_twin_simulation.specs.Beside.{OneMethod, SameFrame, SameWait, SameWaits, SameShared, SameThread}
use Rattle.jc_twin_simulation.proofs.OwnLaws.{SameResult, AtImage}
use Rattle.jc_twin_simulation.proofs.FrameLaws.{init_is, arrives}
use Rattle.jc_twin_simulation.proofs.ThrowLaws.{placed_same, SameAfter, thrown_same}

module _ (p p' : Program) (sides : Entry → Side) where
  -- neither method is `$jacocoInit`
  pub old_no_init : (f f' : Frame) → OneMethod p p' sides f f' → is_init_method p f.method ≡ false
  old_no_init f f' o = let t = sides f.method in init_is p f.method t.class t.body o.side.class_is o.side.body_is ∙ o.side.named

  pub new_no_init : (f f' : Frame) → OneMethod p p' sides f f' → is_init_method p' f'.method ≡ false
  new_no_init f f' o =
      let t = sides f.method in
      ap (is_init_method p') o.method ∙ init_is p' f.method t.new t.twin o.side.new_is o.side.twin_is ∙ ap is_init_name o.side.same.name ∙ o.side.named

  -- ---- counting frames

  pub counted_more : (r : Program) (f : Frame) (fs : List Frame) → is_init_method r f.method ≡ false → counted_frames r (f ∷ fs) ≡ suc (counted_frames r fs)
  counted_more r f fs e =
      ap (λ b. length (if not b then f
      ∷ filter (λ (g : Frame). not (is_init_method r g.method)) fs else filter (λ (g : Frame). not (is_init_method r g.method)) fs)) e

  pub waits_counted : (fs fs' : List Frame) → SameWaits p p' sides fs fs' → counted_frames p' fs' ≡ counted_frames p fs
  waits_counted [] [] w = refl
  waits_counted (f ∷ fs) (f' ∷ fs') w =
      counted_more p' f' fs' (new_no_init f f' w.0.one) ∙ ap suc (waits_counted fs fs' w.1) ∙ sym (counted_more p f fs (old_no_init f f' w.0.one))
  waits_counted [] (f' ∷ fs') w = absurd w
  waits_counted (f ∷ fs) [] w = absurd w

  overflow_same : (m m' : Entry) → is_init_method p m ≡ false → is_init_method p' m' ≡ false → (f f' : Frame) (fs fs' : List Frame)
      → OneMethod p p' sides f f' → SameWaits p p' sides fs fs'
      → overflows p' m' (f' ∷ fs') ≡ overflows p m (f ∷ fs)
  overflow_same m m' e e' f f' fs fs' o w =
      ap₂ (λ b n. not b && nat_le 128 n) (e' ∙ sym e)
      (counted_more p' f' fs' (new_no_init f f' o) ∙ ap suc (waits_counted fs fs' w) ∙ sym (counted_more p f fs (old_no_init f f' o)))

  -- ---- a frame that waited goes on

  pub wait_goes : (f f' : Frame) (v : Option Value) → SameWait p p' sides f f' → SameFrame p p' sides (given_back v f) (given_back v f')
  wait_goes f f' None w =
      subst (λ st. SameFrame p p' sides (next_with f f.stack) (next_with f' st)) (sym w.stack)
      (arrives p p' sides f f' w.one (f'.place + 1) (f.place + 1) w.next (image w.insn f.place w.early) tt f.locals f'.locals w.locals f.stack)
  wait_goes f f' (Some v) w =
      subst (λ st. SameFrame p p' sides (next_with f (v ∷ f.stack)) (next_with f' (v ∷ st))) (sym w.stack)
      (arrives p p' sides f f' w.one (f'.place + 1) (f.place + 1) w.next (image w.insn f.place w.early) tt f.locals f'.locals w.locals (v ∷ f.stack))

  left_same : (v : Option Value) (fs fs' : List Frame) → SameWaits p p' sides fs fs' → SameThread p p' sides (left v fs) (left v fs')
  left_same v [] [] w = refl
  left_same v (f ∷ fs) (f' ∷ fs') w = inl (wait_goes f f' v w.0, w.1)
  left_same v [] (f' ∷ fs') w = absurd w
  left_same v (f ∷ fs) [] w = absurd w

  -- ---- the results of one own turn

  module _ (s s' : Shared) (ss : SameShared p p' sides s s') (f f' : Frame) (fs fs' : List Frame)
      (new : Insn) (early : Option ℕ) (o : AtImage p p' sides f f' new early) (w : SameWaits p p' sides fs fs') where
    abbrev Both : Result → Result → Type 0
    Both r r' = SameAfter p p' sides (after_result p r s f fs) (after_result p' r' s' f' fs')

    raised_same : (c : Thrown) → SameAfter p p' sides (thrown_in p (placed c s) (f ∷ fs)) (thrown_in p' (placed c s') (f' ∷ fs'))
    raised_same c = thrown_same p p' sides (placed c s) (placed c s') (placed_same p p' sides s s' ss c) f f' fs fs' new early o w

    both_if : (b : Bool) (x y x' y' : After) → SameAfter p p' sides x x' → SameAfter p p' sides y y'
        → SameAfter p p' sides (if b then x else y) (if b then x' else y')
    both_if true x y x' y' h k = h
    both_if false x y x' y' h k = k

    pub after_same : (r r' : Result) → SameResult p p' sides r r' → Both r r'
    after_same (goes a g) (goes a' g') h = record { shared = h.0; thread = inl (h.1, w) }
    after_same (hits class id g) (hits class' id' g') h = record { shared = ss; thread = inl (h, w) }
    after_same (calls m ls g) (calls m' ls' g') h =
        let one = h.0.one in
        subst (λ b. SameAfter p p' sides
        (if overflows p m (f ∷ fs) then thrown_in p (placed thrown.StackOverflowError s) (f ∷ fs) else after (running (new_frame m ls) (g ∷ fs)) s)
        (if b then thrown_in p' (placed thrown.StackOverflowError s') (f' ∷ fs') else after (running (new_frame m' ls') (g' ∷ fs')) s'))
        (sym (overflow_same m m' (old_no_init (new_frame m ls) (new_frame m' ls') one)
        (new_no_init (new_frame m ls) (new_frame m' ls') one) f f' fs fs' o.one w))
        (both_if (overflows p m (f ∷ fs)) _ _ _ _ (raised_same thrown.StackOverflowError) (record { shared = ss; thread = inl (h.0, (h.1, w)) }))
    after_same (leaves v) (leaves v') h =
        subst (λ x. SameAfter p p' sides (after (left v fs) s) (after (left x fs') s')) (sym h) (record { shared = ss; thread = left_same v fs fs' w })
    after_same (raises c) (raises c') h =
        subst (λ x. SameAfter p p' sides (thrown_in p (placed c s) (f ∷ fs)) (thrown_in p' (placed x s') (f' ∷ fs'))) (sym h) (raised_same c)
    after_same (throws c v) (throws c' v') h =
        thrown_same p p' sides (record { thrown = c; value = v; shared = s }) (record { thrown = c'; value = v'; shared = s' })
        (record { thrown = h.0; value = h.1; shared = ss }) f f' fs fs' new early o w
    after_same gets_stuck gets_stuck h =
        record { shared = ss; thread = record { same = o.one.method; side = o.one.side; item = image new f.place early; here = o.here; at = refl } }
    after_same _ _ h = absurd h
