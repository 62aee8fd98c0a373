-- Worlds that stand beside each other look the same.
use Rattle.std.proofs.Common.{◌≡◌, inl, inr, ℕ, zero, suc, ◌≤◌, true, false, List, [], ◌∷◌, ◌++◌, length, drop, Option, Some, None, refl, sym, ap, ◌∙◌, subst, subst₂, arith, if◌then◌else◌}
use Rattle.std.specs.Prelude.{slice_get}
use Rattle.std.proofs.lemmas.Bool.{true≢false}
use Rattle.std.proofs.lemmas.Option.{none-some, slice_get_past}
use Rattle.jc_bytes.proofs.TextEqualLaws.{same_bytes}
use Rattle.jc_methods.specs.ProbeMembers.{data_name, fetch_of}
use Rattle.jc_methods.specs.declared.probe_members.Fetch.{Fetch}
use Rattle.jc_methods.specs.declared.probe_members.Fetch.TheVariants as fetches
use Rattle.jc_programs.specs.declared.program.Program.{Program}
use Rattle.jc_programs.specs.declared.program.Linked.{Linked}
use Rattle.jc_programs.specs.declared.run_end.Entry.{Entry}
use Rattle.jc_programs.specs.Members.{class_at}
use Rattle.jc_emit.specs.Items.{Item, start, image, at_of, extra_of}
use Rattle.jc_emit.specs.Marks.{Marks}
use Rattle.jc_emit.specs.Added.{data_static}
use Rattle.jc_twin_programs.specs.TwinProgram.{IsPair, IsChangedPair}
use Rattle.jc_emit.proofs.ToldLaws.{mapped}
use Rattle.jc_machine_model.specs.Values.{Value, probes}
use Rattle.jc_machine_model.specs.World.{Frame, Thread, running, returned, threw, stuck, Shared, World}
use Rattle.jc_machine_model.specs.Methods.{declares_init}
use Rattle.jc_twin_simulation.specs.Same.{slot_in_body, slot_in_class, array_slot, twin_slot, is_named_data, is_data_in, is_data, frames_of}
use Rattle.jc_twin_simulation.specs.Same as spec
use Rattle.jc_twin_simulation.specs.Sides.{Side, count_in, array_of, IsSide, AreSides, AreMarksOf}
use Rattle.jc_twin_simulation.specs.Beside.{pushed_of, null_or, SameLocals, OneMethod, SameFrame, SameWait, SameWaits, extra_in, SameStatics, values_of, SameShared, SameThread, SameThreads, Beside}
use Rattle.jc_twin_simulation.proofs.LocalLaws.{gets_local}
use Rattle.jc_twin_simulation.proofs.ClassLaws.{changed_statics, unchanged_data, constant_data}
use Rattle.jc_twin_simulation.proofs.OwnTurnLaws.{new_no_init}
use Rattle.jc_twin_simulation.proofs.TurnLaws.{inside_named}

-- what is pushed is what the marks say
pub pushed_off : (a : Value) (x : Item) (st : List Value) → drop (extra_of x) (pushed_of a x ++ st) ≡ st
pushed_off a (start fetch zero) st = refl
pushed_off a (start fetch (suc k)) st = refl
pushed_off a other st = refl

-- ---- one more behind a list

pub one_more : {X : Type 0} (xs : List X) (k : ℕ) (x : X) → (k ≡ length xs → ⊥) → slice_get (xs ++ (x ∷ [])) k ≡ slice_get xs k
one_more [] zero x apart = absurd (apart refl)
one_more [] (suc k) x apart = refl
one_more (y ∷ xs) zero x apart = refl
one_more (y ∷ xs) (suc k) x apart = one_more xs k x (λ e. apart (ap suc e))

pub last_is : {X : Type 0} (xs : List X) (x : X) → slice_get (xs ++ (x ∷ [])) (length xs) ≡ Some x
last_is [] x = refl
last_is (y ∷ xs) x = last_is xs x

pub none_past : {X : Type 0} (xs : List X) (k : ℕ) → slice_get xs k ≡ None → length xs ≤ k
none_past [] k e = omega arith
none_past (x ∷ xs) zero e = absurd (none-some x (sym e))
none_past (x ∷ xs) (suc k) e = let more = none_past xs k e in omega (arith, more)

-- a class of the twin at a place where the program has none
pub no_class : (p p' : Program) (sides : Entry → Side) → AreSides p p' sides → (class : ℕ) → slice_get p.classes class ≡ None
    → slice_get p'.classes class ≡ None
no_class p p' sides are class e = slice_get_past p'.classes class (let n = are.count in let m = none_past p.classes class e in omega (arith, n, m))

module _ (p p' : Program) (sides : Entry → Side) where
  -- the local variable of the probe array
  pub slot_is : (m : Entry) → IsSide p p' m (sides m) → array_slot p' m ≡ (sides m).slot
  slot_is m side =
      ap (slot_in_class m.method) side.new_is ∙ ap (slot_in_body (declares_init t.new)) side.twin_is ∙ by t.slot refl
    where
      t : Side
      t = sides m

      by : (o : Option ℕ) → t.slot ≡ o → slot_in_body (declares_init t.new) (Some t.twin) ≡ t.slot
      by None e = ap (λ b. slot_in_body b (Some t.twin)) (side.unchanged e).declares ∙ sym e
      by (Some v) e = ap (λ b. slot_in_body b (Some t.twin)) (side.changed v e).declares ∙ ap Some (side.same.arg_slots ∙ sym (side.changed v e).slot) ∙ sym e

  module _ (marks : Entry → Marks) (are : AreSides p p' sides) (told : AreMarksOf p p' marks sides) where
    abbrev Alike : Frame → Frame → Type 0
    Alike f f' = spec.SameFrame p' marks f f'

    -- ---- frames

    at_item : (f f' : Frame) → OneMethod p p' sides f f' → (x : Item) → slice_get (sides f.method).items f'.place ≡ Some x → at_of x ≡ f.place
        → f'.stack ≡ pushed_of (array_of (sides f.method) f.method.class) x ++ f.stack
        → SameLocals (array_of (sides f.method) f.method.class) (sides f.method).slot f.locals f'.locals x → Alike f f'
    at_item f f' o x here at st ls =
        let t = sides f.method in
        let a = array_of t f.method.class in
        let m = told f.method o.side in
        record {
          method = o.method;
          place = ap (λ l. slice_get l f'.place) m.at ∙ mapped at_of t.items f'.place x here ∙ ap Some at;
          slots = λ k. ap (λ s. slice_get f'.locals (twin_slot s k)) (slot_is f.method o.side) ∙ gets_local a t.slot f.locals f'.locals x ls k;
          extra = extra_of x;
          extra_is = ap (λ l. slice_get l f'.place) m.extra ∙ mapped extra_of t.items f'.place x here;
          stack = sym (ap (drop (extra_of x)) st ∙ pushed_off a x f.stack);
        }

    frame_same : (f f' : Frame) → SameFrame p p' sides f f' → Alike f f'
    frame_same f f' h = at_item f f' h.one h.item h.here h.at h.stack h.locals

    wait_same : (f f' : Frame) → SameWait p p' sides f f' → Alike f f'
    wait_same f f' h = at_item f f' h.one (image h.insn f.place h.early) h.here refl h.stack h.locals

    waits_same : (fs fs' : List Frame) → SameWaits p p' sides fs fs' → spec.SameFrames p' marks fs fs'
    waits_same [] [] h = tt
    waits_same (f ∷ fs) (f' ∷ fs') h = (wait_same f f' h.0, waits_same fs fs' h.1)
    waits_same [] (f' ∷ fs') h = absurd h
    waits_same (f ∷ fs) [] h = absurd h

    -- ---- threads

    module _ (s s' : Shared) (ss : SameShared p p' sides s s') where
      running_same : (f f' : Frame) (fs fs' : List Frame) → SameThread p p' sides (running f fs) (running f' fs')
          → spec.SameThread p' marks (running f fs) (running f' fs')
      running_same f f' fs fs' (inl h) =
          subst (λ b. spec.SameFrames p' marks (f ∷ fs) (frames_of b f' fs')) (sym (new_no_init p p' sides f f' h.0.one))
          (frame_same f f' h.0, waits_same fs fs' h.1)
      running_same f f' fs fs' (inr i) =
          subst₂ (λ b l. spec.SameFrames p' marks (f ∷ fs) (frames_of b f' l)) (sym (inside_named p p' sides are s s' ss f f' fs fs' i)) (sym i.waiting)
          (frame_same f i.below i.base, waits_same fs i.rest i.waits)

      thread_same : (x x' : Thread) → SameThread p p' sides x x' → spec.SameThread p' marks x x'
      thread_same (running f fs) (running f' fs') h = running_same f f' fs fs' h
      thread_same (returned v) (returned v') h = h
      thread_same (threw c) (threw c') h = h
      thread_same (stuck m q) (stuck m' q') h =
          (h.same, ap (λ l. slice_get l q') (told m h.side).at ∙ mapped at_of (sides m).items q' h.item h.here ∙ ap Some h.at)
      thread_same x y h = absurd h

      threads_same : (xs xs' : List Thread) → SameThreads p p' sides xs xs' → spec.SameThreads p' marks xs xs'
      threads_same [] [] h = tt
      threads_same (x ∷ xs) (x' ∷ xs') h = (thread_same x x' h.0, threads_same xs xs' h.1)
      threads_same [] (x' ∷ xs') h = absurd h
      threads_same (x ∷ xs) [] h = absurd h

    -- ---- static fields

    -- the added field is a `$jacocoData`
    pub is_added : (class : ℕ) (c new : Linked) → slice_get p'.classes class ≡ Some new → IsChangedPair p.names p'.names c new
        → fetch_of c.version ≡ fetches.Member → is_data p' class (length c.statics) ≡ true
    is_added class c new there pair way =
        ap (is_data_in (length c.statics)) there ∙ ap (λ l. is_named_data (slice_get l (length c.statics))) (changed_statics p.names p'.names c new pair way)
        ∙ ap is_named_data (last_is c.statics data_static)
        ∙ same_bytes data_name data_name refl

    module _ (s s' : Shared) (ss : SameShared p p' sides s s') where
      -- the values of a class, by how it is changed
      values_same : (o : Option ℕ) (class field : ℕ) → extra_in (class_at p' class) ≡ o → (length (values_of s class) ≡ field → o ≡ None)
          → slice_get (values_of s' class) field ≡ slice_get (values_of s class) field
      values_same None class field e h =
          let same = subst (λ o. SameStatics o class (values_of s class) (values_of s' class)) e (ss.statics class) in ap (λ l. slice_get l field) same
      values_same (Some n) class field e h =
          let same = subst (λ o. SameStatics o class (values_of s class) (values_of s' class)) e (ss.statics class) in
          ap (λ l. slice_get l field) same.1 ∙ one_more (values_of s class) field (null_or same.0 (probes class n)) (λ last. none-some n (sym (h (sym last))))

      static_same : (class field : ℕ) → is_data p' class field ≡ false → slice_get (values_of s' class) field ≡ slice_get (values_of s class) field
      static_same class field other = by (slice_get p.classes class) refl
        where
          by : (o : Option Linked) → slice_get p.classes class ≡ o → slice_get (values_of s' class) field ≡ slice_get (values_of s class) field
          by None e = values_same None class field (ap extra_in (no_class p p' sides are class e)) (λ last. refl)
          by (Some c) e = by_pair (are.pair class c e)
            where
              by_pair : (new : Linked) × (slice_get p'.classes class ≡ Some new) × IsPair p.names p'.names c new
                  → slice_get (values_of s' class) field ≡ slice_get (values_of s class) field
              by_pair (new, there, inl pair) =
                  values_same None class field (ap extra_in there
                  ∙ ap (λ b. if b then Some (count_in new.probes) else None) (unchanged_data p.names p'.names c new pair)) (λ last. refl)
              by_pair (new, there, inr pair) = by_way (fetch_of c.version) refl
                where
                  by_way : (fetch : Fetch) → fetch_of c.version ≡ fetch → slice_get (values_of s' class) field ≡ slice_get (values_of s class) field
                  by_way fetches.Constant way =
                      values_same None class field (ap extra_in there
                      ∙ ap (λ b. if b then Some (count_in new.probes) else None) (constant_data p.names p'.names c new pair way)) (λ last. refl)
                  by_way fetches.Member way =
                      values_same (extra_in (class_at p' class)) class field refl
                      (λ last. absurd (true≢false (sym (is_added class c new there pair way) ∙ ap (is_data p' class) (sym (ss.counts class c e) ∙ last) ∙ other)))

    -- ---- worlds

    pub beside_same : (w w' : World) → Beside p p' sides w w' → spec.Same p' marks w w'
    beside_same w w' h = record {
      output = h.shared.output;
      heap = h.shared.heap;
      raised = h.shared.raised;
      statics = λ class field other. static_same w.shared w'.shared h.shared class field other;
      threads = threads_same w.shared w'.shared h.shared w.threads w'.threads h.threads;
    }
