-- What is thrown in the two worlds, and where it is caught.
use Rattle.std.proofs.Common.{◌≡◌, inl, ℕ, suc, Bool, true, false, ◌&&◌, List, [], ◌∷◌, ◌++◌, length, Option, Some, None, nat_eq, nat_lt, nat_le, refl, sym, ap, ap₂, ◌∙◌, subst, subst₂, arith, if◌then◌else◌}
use Rattle.std.specs.Prelude.{⊤, All, slice_get, option_and_then, find, ◌≢◌}
use Rattle.std.proofs.lemmas.Bool.{leb-true, le-leb, ltb-true, lt-ltb, and_parts, and_from, eqb-false}
use Rattle.jc_bytes.proofs.BooleanLaws.{same_tests}
use Rattle.jc_methods.specs.InsnUse.{IsClass}
use Rattle.jc_methods.specs.WellMade.{HasUse, what_used}
use Rattle.jc_methods.specs.declared.insn.Insn.{Insn}
use Rattle.jc_methods.specs.declared.body.Handler.{Handler}
use Rattle.jc_programs.specs.declared.program.Program.{Program}
use Rattle.jc_programs.specs.declared.run_end.Entry.{Entry}
use Rattle.jc_programs.specs.declared.run_end.Thrown.{Thrown}
use Rattle.jc_programs.specs.declared.run_end.Thrown.TheVariants as thrown
use Rattle.jc_programs.specs.Members.{body_of}
use Rattle.jc_programs.specs.Throwables.{is_named_in}
use Rattle.jc_kinds_after.specs.After.{class_in}
use Rattle.jc_emit.specs.Items.{image}
use Rattle.jc_emit.specs.Local.{OkRow, Holds}
use Rattle.jc_emit.specs.Seen.{OkRows}
use Rattle.jc_machine_model.specs.Values.{Value, object}
use Rattle.jc_machine_model.specs.Heap.{throwable, has_room}
use Rattle.jc_machine_model.specs.World.{Frame, Thread, Shared}
use Rattle.jc_machine_model.specs.Step.{catches, handles, handler_in, caught, unwound, Raised, out_of_memory, placed, After, thrown_in}
use Rattle.jc_twin_simulation.specs.Sides.{Side, GoesOnAt, IsSide}
use Rattle.jc_twin_simulation.specs.Beside.{SameWaits, SameShared, SameThread}
use Rattle.jc_twin_simulation.proofs.OwnLaws.{AtImage}
use Rattle.jc_twin_simulation.proofs.FrameLaws.{body_is, arrives}

-- ---- tests

and_twice : (a b c : Bool) → (a && (b && c)) ≡ ((a && b) && c)
and_twice true b c = refl
and_twice false b c = refl

-- the row holds the instruction
holds_true : (h : Handler) (i : ℕ) → (nat_le h.start i && nat_lt i h.end) ≡ true → Holds h i
holds_true h i e = let q = and_parts _ _ e in (leb-true h.start i q.0, ltb-true i h.end q.1)

true_holds : (h : Handler) (i : ℕ) → Holds h i → (nat_le h.start i && nat_lt i h.end) ≡ true
true_holds h i k = and_from _ _ (le-leb h.start i k.0) (lt-ltb i h.end k.1)

module _ (p p' : Program) (sides : Entry → Side) where
  -- ---- handlers

  module _ (m : Entry) (side : IsSide p p' m (sides m)) (q i : ℕ) (new : Insn) (early : Option ℕ)
      (here : slice_get (sides m).items q ≡ Some (image new i early)) (c : Thrown) where
    abbrev t : Side
    t = sides m

    abbrev Row : Handler → Handler → Type 0
    Row h r = OkRow t.body.code t.slot t.ids t.items h r

    abbrev HasClass : Handler → Type 0
    HasClass h = h.class ≢ 0 → HasUse t.body.uses h.class IsClass

    catches_same : (h r : Handler) → Row h r → HasClass h → catches t.twin r c ≡ catches t.body h c
    catches_same h r ok use_of =
        ap (λ k. if nat_eq k 0 then true else is_named_in c (class_in (what_used t.twin.uses k))) ok.class ∙ by (nat_eq h.class 0) refl
      where
        by : (b : Bool) → nat_eq h.class 0 ≡ b
            → (if b then true else is_named_in c (class_in (what_used t.twin.uses h.class)))
            ≡ (if b then true else is_named_in c (class_in (what_used t.body.uses h.class)))
        by true e = refl
        by false e =
            let u = use_of (eqb-false h.class 0 e) in
            ap (λ o. is_named_in c (class_in o)) (side.uses h.class u.what u.used ∙ sym u.used)

    handles_same : (h r : Handler) → Row h r → HasClass h → handles t.twin q c r ≡ handles t.body i c h
    handles_same h r ok use_of =
        and_twice (nat_le r.start q) (nat_lt q r.end) (catches t.twin r c)
        ∙ ap₂ (λ a b. a && b)
        (same_tests _ _ (λ e. true_holds h i ((ok.holds q i new early here).0 (holds_true r q e)))
        (λ e. true_holds r q ((ok.holds q i new early here).1 (holds_true h i e))))
        (catches_same h r ok use_of)
        ∙ sym (and_twice (nat_le h.start i) (nat_lt i h.end) (catches t.body h c))

    abbrev pub SameHandler : Option Handler → Option Handler → Type 0
    SameHandler None None = ⊤
    SameHandler (Some h) (Some r) = GoesOnAt t r.target h.target
    SameHandler _ _ = ⊥

    handler_by : (hs rs : List Handler) → All HasClass hs → OkRows Row hs rs → SameHandler (find (handles t.body i c) hs) (find (handles t.twin q c) rs)
    handler_by [] [] all ok = tt
    handler_by [] (r ∷ rs) all ok = absurd ok
    handler_by (h ∷ hs) [] all ok = absurd ok
    handler_by (h ∷ hs) (r ∷ rs) all ok =
        subst (λ b. SameHandler (if handles t.body i c h then Some h else find (handles t.body i c) hs) (if b then Some r else find (handles t.twin q c) rs))
        (sym (handles_same h r ok.0 (all 0 h (omega arith))))
        (by (handles t.body i c h) (handler_by hs rs (λ k d lt. all (suc k) d (omega arith)) ok.1))
      where
        by : (b : Bool) → SameHandler (find (handles t.body i c) hs) (find (handles t.twin q c) rs)
            → SameHandler (if b then Some h else find (handles t.body i c) hs) (if b then Some r else find (handles t.twin q c) rs)
        by true rest = (None, ok.0.target.stands)
        by false rest = rest

    pub handler_same : SameHandler (handler_in i c t.body) (handler_in q c t.twin)
    handler_same = handler_by t.body.handlers t.twin.handlers side.well.uses.by_handlers side.rows

  -- ---- unwinding

  module _ (c : Thrown) (v : Value) where
    caught_by : (f f' : Frame) (fs fs' : List Frame) (others others' : Thread) (new : Insn) (early : Option ℕ) (o : AtImage p p' sides f f' new early)
        → SameWaits p p' sides fs fs'
        → SameThread p p' sides others others' → (h h' : Option Handler) → SameHandler f.method o.one.side f'.place f.place new early o.here c h h'
        → SameThread p p' sides (caught h v f fs others) (caught h' v f' fs' others')
    caught_by f f' fs fs' x x' new early o w rest None None same = rest
    caught_by f f' fs fs' x x' new early o w rest (Some h) (Some r) same =
        inl (arrives p p' sides f f' o.one r.target h.target same (image new f.place early) tt f.locals f'.locals o.locals (v ∷ []), w)
    caught_by f f' fs fs' x x' new early o w rest None (Some r) same = absurd same
    caught_by f f' fs fs' x x' new early o w rest (Some h) None same = absurd same

    -- the frame on top, where the others are unwound alike
    pub unwound_top : (f f' : Frame) (fs fs' : List Frame) (new : Insn) (early : Option ℕ) → AtImage p p' sides f f' new early → SameWaits p p' sides fs fs'
        → SameThread p p' sides (unwound p c v fs) (unwound p' c v fs') → SameThread p p' sides (unwound p c v (f ∷ fs)) (unwound p' c v (f' ∷ fs'))
    unwound_top f f' fs fs' new early o w rest =
        let side = o.one.side in
        let t = sides f.method in
        let old = ap (option_and_then (handler_in f.place c)) (body_is p f.method t.class t.body side.class_is side.body_is) in
        let twin =
        ap (λ m. option_and_then (handler_in f'.place c) (body_of p' m)) o.one.method
        ∙ ap (option_and_then (handler_in f'.place c)) (body_is p' f.method t.new t.twin side.new_is side.twin_is) in
        subst₂ (λ h h'. SameThread p p' sides (caught h v f fs (unwound p c v fs)) (caught h' v f' fs' (unwound p' c v fs'))) (sym old) (sym twin)
        (caught_by f f' fs fs' (unwound p c v fs) (unwound p' c v fs') new early o w rest (handler_in f.place c t.body) (handler_in f'.place c t.twin)
        (handler_same f.method side f'.place f.place new early o.here c))

    pub unwound_same : (fs fs' : List Frame) → SameWaits p p' sides fs fs' → SameThread p p' sides (unwound p c v fs) (unwound p' c v fs')
    unwound_same [] [] w = refl
    unwound_same (f ∷ fs) (f' ∷ fs') w =
        unwound_top f f' fs fs' w.0.insn w.0.early (record { one = w.0.one; here = w.0.here; stack = w.0.stack; locals = w.0.locals }) w.1
        (unwound_same fs fs' w.1)
    unwound_same [] (f' ∷ fs') w = absurd w
    unwound_same (f ∷ fs) [] w = absurd w

  -- ---- what is thrown

  pub record SameRaised (x x' : Raised) : Type 0 where
    pub thrown : x'.thrown ≡ x.thrown
    pub value : x'.value ≡ x.value
    pub shared : SameShared p p' sides x.shared x'.shared

  module _ (s s' : Shared) (ss : SameShared p p' sides s s') where
    pub no_memory : SameRaised (out_of_memory s) (out_of_memory s')
    no_memory = record { thrown = refl; value = refl; shared = ss }

    abbrev made_in : Thrown → Shared → Raised
    made_in c u =
        if has_room u.heap 1 then record {
          thrown = c;
          value = object
              (length u.heap);
          shared = record u { heap = u.heap ++ throwable c ∷ [] };
        } else out_of_memory u

    made_same : (c : Thrown) → SameRaised (made_in c s) (made_in c s')
    made_same c =
        subst (λ heap. SameRaised (made_in c s)
        (if has_room heap 1 then record {
          thrown = c;
          value = object
              (length heap);
          shared = record s' { heap = heap ++ throwable c ∷ [] };
        } else out_of_memory s')) (sym ss.heap)
        (by (has_room s.heap 1))
      where
        by : (b : Bool)
            → SameRaised (if b then record {
              thrown = c;
              value = object
                  (length s.heap);
              shared = record s { heap = s.heap ++ throwable c ∷ [] };
            } else out_of_memory s)
            (if b then record { thrown = c; value = object (length s.heap); shared = record s' { heap = s.heap ++ throwable c ∷ [] } } else out_of_memory s')
        by true =
            record { thrown = refl; value = refl; shared = record { heap = refl; output = ss.output; raised = ss.raised; statics = ss.statics; counts = ss.counts } }
        by false = no_memory

    pub placed_same : (c : Thrown) → SameRaised (placed c s) (placed c s')
    placed_same thrown.OutOfMemoryError = no_memory
    placed_same c = made_same c

  -- ---- a turn that throws

  pub record SameAfter (a a' : After) : Type 0 where
    pub shared : SameShared p p' sides a.shared a'.shared
    pub thread : SameThread p p' sides a.thread a'.thread

  pub thrown_same : (x x' : Raised) → SameRaised x x' → (f f' : Frame) (fs fs' : List Frame) (new : Insn) (early : Option ℕ)
      → AtImage p p' sides f f' new early → SameWaits p p' sides fs fs'
      → SameAfter (thrown_in p x (f ∷ fs)) (thrown_in p' x' (f' ∷ fs'))
  thrown_same x x' h f f' fs fs' new early o w = record {
    shared = record { heap = h.shared.heap; output = h.shared.output; raised = refl; statics = h.shared.statics; counts = h.shared.counts };
    thread = subst₂ (λ c v. SameThread p p' sides (unwound p x.thrown x.value (f ∷ fs)) (unwound p' c v (f' ∷ fs'))) (sym h.thrown) (sym h.value)
        (unwound_top x.thrown x.value f f' fs fs' new early o w (unwound_same x.thrown x.value fs fs' w));
  }
