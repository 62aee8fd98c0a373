-- Each turn keeps a world fitting: threads.
use Rattle.std.proofs.Common.{◌≡◌, ℕ, suc, ◌≤◌, ◌<◌, Bool, true, false, not, ◌&&◌, cond, List, [], ◌∷◌, ◌++◌, length, Option, Some}
use Rattle.std.proofs.Common.{None, le_trans, nat_le, refl, sym, ◌∙◌, ap, subst, arith}
use Rattle.std.proofs.lemmas.Bool.{leb-false}
use Rattle.std.proofs.lemmas.Option.{slice_get_within}
use Rattle.std.specs.Prelude.{filter}
use Rattle.std.specs.List.{AllByRecursion}
use Rattle.jc_bytes.specs.Descriptor.{FieldType}
use Rattle.jc_bytes.proofs.ListLaws.{put_last}
use Rattle.jc_methods.specs.declared.insn.Insn.{Insn}
use Rattle.jc_methods.specs.declared.body.Body.{Body}
use Rattle.jc_methods.specs.VerificationTypes.{TypeState}
use Rattle.jc_programs.specs.declared.program.Program.{Program}
use Rattle.jc_programs.specs.declared.program.Linked.{Linked}
use Rattle.jc_programs.specs.declared.run_end.Entry.{Entry}
use Rattle.jc_programs.specs.declared.run_end.Thrown.{Thrown}
use Rattle.jc_programs.specs.declared.run_end.Thrown.TheVariants as thrown
use Rattle.jc_kinds_after.specs.After.{returns_of}
use Rattle.jc_machine_model.specs.Programs.{IsProgram}
use Rattle.jc_machine_model.specs.Values.{Value, object}
use Rattle.jc_machine_model.specs.Heap.{throwable, has_room}
use Rattle.jc_machine_model.specs.World.{Frame, running, Shared, Hit}
use Rattle.jc_machine_model.specs.Results.{Result, goes, hits, calls, leaves, raises, throws, gets_stuck}
use Rattle.jc_machine_model.specs.Step.{Raised, out_of_memory, placed, is_init_method, most_frames, counted_frames, overflows}
use Rattle.jc_machine_model.specs.Step.{new_frame, given_back, left, After, thrown_in, after_result}
use Rattle.jc_machine_model.specs.Objects.{heap_object_thrown, thrown_of}
use Rattle.jc_machine_model.specs.Fits.{IsThere, AreThereIn, IsProbe, FitsTopBy, FitEachWaitingBy, FitsRunningBy, FitsThreadBy}
use Rattle.jc_machine_laws.specs.Typings.{IsFlowing}
use Rattle.jc_machine_laws.proofs.TypedLaws.{HoldingTyping}
use Rattle.jc_machine_laws.proofs.GrowLaws.{Grows, same_heap, longer_by, at_end, frames_grow, each_waiting_on, running_on, SharedFits, shared_grows}
use Rattle.jc_machine_laws.proofs.OnwardLaws.{Here, counted_step, counted_more, thread_unwinds}
use Rattle.jc_machine_laws.proofs.StepLaws.{Fine, Goes, Calls, ReturnFits}
use Rattle.jc_machine_laws.proofs.CallLaws.{body_is}
use Rattle.jc_machine_laws.proofs.ReturnLaws.{back_fits}

-- ---- counting frames

abbrev one_more : Bool → ℕ → ℕ
one_more true n = n
one_more false n = suc n

counted_is : (program : Program) (f : Frame) (waiting : List Frame)
    → counted_frames program (f ∷ waiting) ≡ one_more (is_init_method program f.method) (counted_frames program waiting)
counted_is program f waiting = by (is_init_method program f.method)
  where
    by : (z : Bool) → length (cond (not z) (f ∷ filter (λ (g : Frame). not (is_init_method program g.method)) waiting)
        (filter (λ (g : Frame). not (is_init_method program g.method)) waiting)) ≡ one_more z (counted_frames program waiting)
    by true = refl
    by false = refl

counted_like : (program : Program) (f g : Frame) (waiting : List Frame) → g.method ≡ f.method
    → counted_frames program (g ∷ waiting) ≡ counted_frames program (f ∷ waiting)
counted_like program f g waiting e =
    counted_is program g waiting ∙ ap (λ m. one_more (is_init_method program m) (counted_frames program waiting)) e
    ∙ sym (counted_is program f waiting)

-- one frame more isn't too many
room_for : (x : Bool) (n : ℕ) → n ≤ 128 → (not x && nat_le most_frames n) ≡ false → one_more x n ≤ 128
room_for true n l e = l
room_for false n l e = let lt : n < 128 = leb-false 128 n e in omega (arith, lt)

-- ---- what a turn leaves

pub record Lands (ty : HoldingTyping) (program : Program) (s : Shared) (a : After) : Type 0 where
  pub thread : FitsThreadBy ty.typing program a.shared.heap a.thread
  pub shared : SharedFits ty program a.shared
  pub grows : Grows s.heap a.shared.heap
  pub hits : AllByRecursion (IsProbe program) a.hits

-- a throwable that is there
record RaisedFits (ty : HoldingTyping) (program : Program) (s : Shared) (r : Raised) : Type 0 where
  is : thrown_of r.shared.heap r.value ≡ Some r.thrown
  there : IsThere program r.shared.heap r.value
  shared : SharedFits ty program r.shared
  grows : Grows s.heap r.shared.heap

no_room_fits : (ty : HoldingTyping) (program : Program) (s : Shared) → SharedFits ty program s → RaisedFits ty program s (out_of_memory s)
no_room_fits ty program s w = record { is = refl; there = tt; shared = w; grows = same_heap s.heap }

placed_fits : (ty : HoldingTyping) (program : Program) (c : Thrown) (s : Shared) → SharedFits ty program s → RaisedFits ty program s (placed c s)
placed_fits ty program thrown.OutOfMemoryError s w = no_room_fits ty program s w
placed_fits ty program c s w = by (has_room s.heap 1)
  where
    by : (z : Bool) → RaisedFits ty program s
        (cond z (record { thrown = c; value = object (length s.heap); shared = record s { heap = s.heap ++ throwable c ∷ [] } })
        (out_of_memory s))
    by false = no_room_fits ty program s w
    by true = record {
      is = ap heap_object_thrown (put_last s.heap (throwable c));
      there = at_end s.heap (throwable c);
      shared = shared_grows ty program s (s.heap ++ throwable c ∷ []) s.output s.raised (longer_by s.heap (throwable c)) w;
      grows = longer_by s.heap (throwable c);
    }

module _ {ty : HoldingTyping} {program : Program} {s : Shared} {f : Frame} {c : Linked} {b : Body} {insn : Insn} {k : TypeState}
    (flowing : IsFlowing ty.typing ty.passes program) (p : IsProgram program) (here : Here program f c b insn k) (shared : SharedFits ty program s) (waiting : List Frame)
    (run : FitsRunningBy ty.typing program s.heap f waiting) where
  thrown_lands : (r : Raised) → RaisedFits ty program s r → Lands ty program s (thrown_in program r (f ∷ waiting))
  thrown_lands r w = record {
    thread =
        thread_unwinds ty program flowing r.shared.heap r.thrown r.value f waiting p w.is w.there
        (running_on ty s.heap r.shared.heap w.grows program f waiting run);
    shared = shared_grows ty program r.shared r.shared.heap r.shared.output true (same_heap r.shared.heap) w.shared;
    grows = w.grows;
    hits = tt;
  }

  -- the frame goes on
  goes_lands : (s' : Shared) (g : Frame) (hit : List Hit) → AllByRecursion (IsProbe program) hit → Goes ty program s s' f g
      → Lands ty program s (record { thread = running g waiting; shared = s'; hits = hit })
  goes_lands s' g hit h w = record {
    thread = record {
      some = subst (λ n. 1 ≤ n) (sym (counted_like program f g waiting w.method)) run.some;
      few = subst (λ n. n ≤ 128) (sym (counted_like program f g waiting w.method)) run.few;
      top = w.fits;
      below =
          subst (λ m. FitEachWaitingBy ty.typing.enters (ty.typing.holds s'.heap) program m waiting) (sym w.method)
          (each_waiting_on ty s.heap s'.heap w.grows program f.method waiting run.below);
      there = (w.there, frames_grow program s.heap s'.heap (w.grows).longer waiting run.there.1);
    };
    shared = w.shared;
    grows = w.grows;
    hits = h;
  }

  -- a method is entered
  calls_lands : (callee : Entry) (locals : List (Option Value)) (g : Frame) → Calls ty program s.heap f callee locals g
      → overflows program callee (f ∷ waiting) ≡ false → FitsRunningBy ty.typing program s.heap (new_frame callee locals) (g ∷ waiting)
  calls_lands callee locals g w e =
      let one = counted_step program g waiting w.waits.no_init in
      let more = counted_more program (new_frame callee locals) (g ∷ waiting) in
      record {
        some = omega (arith, one, more);
        few =
            subst (λ n. n ≤ 128) (sym (counted_is program (new_frame callee locals) (g ∷ waiting)
            ∙ ap (one_more (is_init_method program callee)) (counted_like program f g waiting w.method)))
            (room_for (is_init_method program callee) (counted_frames program (f ∷ waiting)) run.few e);
        top = w.enters;
        below = (w.waits, subst (λ m. FitEachWaitingBy ty.typing.enters (ty.typing.holds s.heap) program m waiting) (sym w.method) run.below);
        there = (w.new_there, (w.there, run.there.1));
      }

  -- the frame below goes on
  left_lands : (v : Option Value) → ReturnFits ty program s.heap (returns_of b) v → (frames : List Frame)
      → FitEachWaitingBy ty.typing.enters (ty.typing.holds s.heap) program f.method frames → AllByRecursion (AreThereIn program s.heap) frames → counted_frames program frames ≤ 128
      → FitsThreadBy ty.typing program s.heap (left v frames)
  unfolding ReturnFits
  left_lands v r [] w a n = tt
  left_lands v r (g ∷ frames) w a n = by v r
    where
      goes_on : (h : Frame) → h.method ≡ g.method → FitsTopBy ty.typing.enters (ty.typing.holds s.heap) program h → AreThereIn program s.heap h
          → FitsRunningBy ty.typing program s.heap h frames
      goes_on h e q d = record {
        some = let one = counted_step program g frames w.0.no_init in let like = counted_like program g h frames e in omega (arith, one, like);
        few = subst (λ m. m ≤ 128) (sym (counted_like program g h frames e)) n;
        top = q;
        below = subst (λ m. FitEachWaitingBy ty.typing.enters (ty.typing.holds s.heap) program m frames) (sym e) w.1;
        there = (d, a.1);
      }

      value_there : (x : Value) (type : Option FieldType) → ReturnFits ty program s.heap type (Some x) → IsThere program s.heap x
      value_there x None q = absurd q
      value_there x (Some type) q = q.1

      by : (o : Option Value) → ReturnFits ty program s.heap (returns_of b) o → FitsThreadBy ty.typing program s.heap (running (given_back o g) frames)
      by None q =
          goes_on (given_back None g) refl (back_fits ty program s.heap f.method c b g None flowing p here.class_is here.body_is w.0 q)
          (record { locals = a.0.locals; stack = a.0.stack })
      by (Some x) q =
          goes_on (given_back (Some x) g) refl
          (back_fits ty program s.heap f.method c b g (Some x) flowing p here.class_is here.body_is w.0 q)
          (record { locals = a.0.locals; stack = (value_there x (returns_of b) q, a.0.stack) })

  pub lands : (r : Result) → Fine ty program s f b r → Lands ty program s (after_result program r s f waiting)
  unfolding Fine
  lands (goes s' g) w = goes_lands s' g [] tt w
  lands (hits class id g) w = goes_lands s g (record { class = class; id = id } ∷ []) (w.1, tt) w.0
  lands (calls callee locals g) w = by (overflows program callee (f ∷ waiting)) refl
    where
      by : (z : Bool) → overflows program callee (f ∷ waiting) ≡ z
          → Lands ty program s (cond z (thrown_in program (placed thrown.StackOverflowError s) (f ∷ waiting))
          (record { thread = running (new_frame callee locals) (g ∷ waiting); shared = s; hits = [] }))
      by true e = thrown_lands (placed thrown.StackOverflowError s) (placed_fits ty program thrown.StackOverflowError s shared)
      by false e = record { thread = calls_lands callee locals g w e; shared = shared; grows = same_heap s.heap; hits = tt }
  lands (leaves v) w =
      record {
        hits = tt;
        thread = left_lands v w waiting run.below run.there.1 (le_trans (counted_more program f waiting) run.few);
        shared = shared;
        grows = same_heap s.heap;
      }
  lands (raises d) w = thrown_lands (placed d s) (placed_fits ty program d s shared)
  lands (throws d v) w =
      thrown_lands (record { thrown = d; value = v; shared = s })
      (record { is = w.0; there = w.1; shared = shared; grows = same_heap s.heap })
  lands gets_stuck w = record {
    hits = tt;
    thread = record { body = b; body_is = body_is program f.method c b here.class_is here.body_is; within = slice_get_within b.code f.place insn here.insn_is };
    shared = shared;
    grows = same_heap s.heap;
  }
