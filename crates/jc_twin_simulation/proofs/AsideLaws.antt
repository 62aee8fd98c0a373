-- A turn of the twin alone, inside one frame: the store of the prelude, probes and gotos that are no images.
use Rattle.std.proofs.Common.{◌≡◌, ℕ, zero, suc, pos, ◌+◌, ◌<◌, ◌≤◌, Bool, true, false, List, [], ◌∷◌, ◌++◌, Option, Some, None, nat_le, refl, sym, ap, ◌∙◌, arith, if◌then◌else◌}
use Rattle.std.specs.Prelude.{slice_get, slice_index_or}
use Rattle.std.proofs.lemmas.Bool.{lt-ltb, leb-true, true≢false}
use Rattle.jc_methods.specs.Opcode as opcode
use Rattle.jc_methods.specs.declared.insn.Insn.{Insn}
use Rattle.jc_methods.specs.declared.insn.Insn.TheVariants as insns
use Rattle.jc_methods.specs.ProbeMembers.{most_short}
use Rattle.jc_methods.specs.WellMade.{what_used}
use Rattle.jc_methods.specs.declared.body.What.TheVariants as whats
use Rattle.jc_methods.specs.declared.probe_members.Fetch.TheVariants as fetches
use Rattle.jc_programs.specs.declared.program.Program.{Program}
use Rattle.jc_programs.specs.declared.run_end.Entry.{Entry}
use Rattle.jc_emit.specs.Items.{Item, start, image, probe_array, probe_id, probe_one, probe_store, hop, at_of, own_of}
use Rattle.jc_emit.specs.Local.{Stands, Ok, OkStore}
use Rattle.jc_emit.specs.Marks.{push, PushesBy, Pushes, aload, astore, bastore}
use Rattle.jc_emit.specs.Ranks.{after_place}
use Rattle.jc_methods.specs.Widened.{goto}
use Rattle.jc_machine_model.specs.Values.{Value, int, probes, reference_type}
use Rattle.jc_machine_model.specs.World.{Frame, Shared, Hit}
use Rattle.jc_machine_model.specs.Results.{Result, goes, hits, next_with, goes_with}
use Rattle.jc_machine_model.specs.Locals.{by_load, by_store, put_local}
use Rattle.jc_machine_model.specs.Arrays.{by_probe, by_write}
use Rattle.jc_bytes.specs.Descriptor.{Byte, Boolean}
use Rattle.jc_machine_model.specs.Effects.{constant, effect}
use Rattle.jc_machine_model.specs.Profile.{Location, constant_operation, operation_of}
use Rattle.jc_machine_model.specs.Perform.{perform}
use Rattle.jc_machine_model.specs.Step.{result_of}
use Rattle.jc_twin_simulation.specs.Sides.{Side, array_of, count_in}
use Rattle.jc_twin_simulation.specs.Probes.{hit_of}
use Rattle.jc_twin_simulation.specs.Beside.{pushed_of, SameLocals, OneMethod, SameFrame}
use Rattle.jc_twin_simulation.proofs.LocalLaws.{none_pushed, moves_on, stays_unready, reads_array, stores_array}
use Rattle.jc_twin_simulation.proofs.FrameLaws.{location, result_is, start_way, twin_insn}
use Rattle.jc_twin_simulation.proofs.ConstantLaws.{loads_constant, passes_cast}

-- ---- the instructions of probes

-- a number is pushed
small : (r : Program) (at : Location) (s : Shared) (f : Frame) (n : ℕ) → n ≤ 5
    → perform (operation_of r at (insns.Simple (opcode.iconst_0 + n))) s f ≡ goes_with s f (int (pos n) ∷ f.stack)
unfolding operation_of perform effect constant
small r at s f zero le = refl
small r at s f (suc zero) le = refl
small r at s f (suc (suc zero)) le = refl
small r at s f (suc (suc (suc zero))) le = refl
small r at s f (suc (suc (suc (suc zero)))) le = refl
small r at s f (suc (suc (suc (suc (suc zero))))) le = refl
small r at s f (suc (suc (suc (suc (suc (suc n)))))) le = absurd (omega arith)

medium : (r : Program) (at : Location) (s : Shared) (f : Frame) (op n : ℕ)
    → perform (operation_of r at (insns.Push op (pos n))) s f ≡ goes_with s f (int (pos n) ∷ f.stack)
unfolding operation_of perform
medium r at s f op n = refl

pushes_number : (r : Program) (at : Location) (s : Shared) (f : Frame) (n : ℕ)
    → perform (operation_of r at (push n)) s f ≡ goes_with s f (int (pos n) ∷ f.stack)
pushes_number r at s f n = by (nat_le n 5) (nat_le n 127) refl
  where
    by : (a b : Bool) → nat_le n 5 ≡ a
        → perform (operation_of r at
        (if a then insns.Simple (opcode.iconst_0 + n) else if b then insns.Push opcode.bipush (pos n) else insns.Push opcode.sipush (pos n))) s f
        ≡ goes_with s f (int (pos n) ∷ f.stack)
    by true b e = small r at s f n (leb-true n 5 e)
    by false true e = medium r at s f opcode.bipush n
    by false false e = medium r at s f opcode.sipush n

-- the same by any instruction that pushes it
constant_pushes : (r : Program) (at : Location) (s : Shared) (f : Frame) (n place : ℕ) → what_used at.body.uses place ≡ Some (whats.Int (pos n))
    → perform (operation_of r at (insns.Constant place)) s f ≡ goes_with s f (int (pos n) ∷ f.stack)
unfolding operation_of perform
constant_pushes r at s f n place e = ap (λ o. perform (constant_operation at o) s f) e

pub pushes_it : (r : Program) (at : Location) (s : Shared) (f : Frame) (insn : Insn) (n : ℕ) → Pushes at.body.uses insn n
    → perform (operation_of r at insn) s f ≡ goes_with s f (int (pos n) ∷ f.stack)
pushes_it r at s f insn n h = by (nat_le n most_short) h
  where
    by : (short : Bool) → PushesBy short at.body.uses insn n → perform (operation_of r at insn) s f ≡ goes_with s f (int (pos n) ∷ f.stack)
    by true e = ap (λ i. perform (operation_of r at i) s f) e ∙ pushes_number r at s f n
    by false e = ap (λ i. perform (operation_of r at i) s f) e.1 ∙ constant_pushes r at s f n e.0 e.2

loads_array : (r : Program) (at : Location) (s : Shared) (f : Frame) (v : ℕ)
    → perform (operation_of r at (aload v)) s f ≡ by_load reference_type (slice_index_or f.locals v None) s f
unfolding operation_of perform
loads_array r at s f v = refl

stores_it : (r : Program) (at : Location) (s : Shared) (f : Frame) (v : ℕ) → perform (operation_of r at (astore v)) s f ≡ by_store reference_type v f.stack s f
unfolding operation_of perform
stores_it r at s f v = refl

writes_it : (r : Program) (at : Location) (s : Shared) (f : Frame) → perform (operation_of r at bastore) s f ≡ by_write (Byte ∷ Boolean ∷ []) f.stack s f
unfolding operation_of perform
writes_it r at s f = refl

jumps_to : (r : Program) (at : Location) (s : Shared) (f : Frame) (to : ℕ) → perform (operation_of r at (goto to)) s f ≡ goes s (record f { place = to })
unfolding operation_of perform
jumps_to r at s f to = refl

-- a probe of the class is hit
hits_it : (s : Shared) (f : Frame) (class count id : ℕ) (st : List Value) → id < count
    → by_write (Byte ∷ Boolean ∷ []) (int (pos 1) ∷ int (pos id) ∷ probes class count ∷ st) s f ≡ hits class id (next_with f st)
hits_it s f class count id st lt = ap (λ b. by_probe class (if b then Some id else None) (int (pos 1)) st f) (lt-ltb id count lt)

-- what the twin's instruction comes to where it goes on alone: the last one of a probe hits it
abbrev pub aside_result : Item → (class : ℕ) → Shared → Frame → Result
aside_result (probe_store id at late) class s g = hits class id g
aside_result _ class s g = goes s g

abbrev pub aside_hits : Item → (class : ℕ) → List Hit
aside_hits (probe_store id at late) class = hit_of class id ∷ []
aside_hits _ class = []

module _ (p p' : Program) (sides : Entry → Side) where
  -- the twin alone goes on inside its frame
  pub record Alone (f f' : Frame) (x : Item) (s' : Shared) (r : Result) : Type 0 where
    pub frame : Frame
    pub is : r ≡ aside_result x f.method.class s' frame
    pub same : SameFrame p p' sides f frame
    pub to : frame.place ≡ after_place f'.place x

  module _ (f f' : Frame) (o : OneMethod p p' sides f f') (s' : Shared) where
    abbrev t : Side
    t = sides f.method

    abbrev a : Value
    a = array_of t f.method.class

    abbrev here_at : Location
    here_at = location f.method f'.place t.new t.twin

    abbrev IsOk : Item → Type 0
    IsOk x = Ok t.body.code t.slot t.ids t.items f'.place x

    -- at an item
    abbrev to_item : (g : Frame) (y : Item) → g.method ≡ f'.method → slice_get t.items g.place ≡ Some y → at_of y ≡ f.place → g.stack ≡ pushed_of a y ++ f.stack
        → SameLocals a t.slot f.locals g.locals y → SameFrame p p' sides f g
    to_item g y m h at st ls =
        record { one = record { method = m ∙ o.method; side = o.side; entered = o.entered }; item = y; here = h; at = at; stack = st; locals = ls }

    -- where both go on
    abbrev to_stand : (g : Frame) (q i : ℕ) (due : Option ℕ) (h : Stands t.body.code t.slot t.ids t.items q i due) → g.method ≡ f'.method → g.place ≡ q
        → f.place ≡ i → g.stack ≡ f.stack
        → ((y : Item) → SameLocals a t.slot f.locals g.locals y) → SameFrame p p' sides f g
    to_stand g q i due h m at old st ls =
        to_item g h.item m (ap (slice_get t.items) at ∙ h.here) (h.at_is ∙ sym old) (st ∙ ap (λ l. l ++ f.stack) (sym (none_pushed a t q i due h))) (ls h.item)

    -- what its instruction does
    done : (x : Item) (insn : Insn) → slice_get t.twin.code f'.place ≡ Some insn → result_of p' s' f' ≡ perform (operation_of p' here_at insn) s' f'
    done x insn h = result_is p' s' f' f.method f'.place t.new t.twin insn o.method refl o.side.new_is o.side.twin_is h

    -- the last instruction of the prelude, which stores the array
    abbrev stored_frame : Frame
    stored_frame = record f' { place = f'.place + 1; stack = f.stack; locals = put_local t.body.arg_slots a f'.locals }

    stored_is : (x : Item) (insn : Insn) → slice_get t.twin.code f'.place ≡ Some insn → insn ≡ astore t.body.arg_slots → f'.stack ≡ a ∷ f.stack
        → result_of p' s' f' ≡ goes s' stored_frame
    stored_is x insn here is st =
        done x insn here ∙ ap (λ i. perform (operation_of p' here_at i) s' f') is ∙ stores_it p' here_at s' f' t.body.arg_slots
        ∙ ap (λ l. by_store reference_type t.body.arg_slots l s' f') st

    stored_same : (x : Item) → Stands t.body.code t.slot t.ids t.items (f'.place + 1) 0 None → 0 ≡ f.place → SameLocals a t.slot f.locals f'.locals x
        → (v : ℕ) → t.slot ≡ Some v → SameFrame p p' sides f stored_frame
    stored_same x next at ls v e =
        to_stand stored_frame (f'.place + 1) 0 None next refl refl (sym at) refl
        (λ y. stores_array a t.slot t.body.arg_slots f.locals f'.locals x y (e ∙ ap Some (o.side.changed v e).slot) refl ls)

    pub aside_turn : (x : Item) → slice_get t.items f'.place ≡ Some x → own_of x ≡ false → (x ≡ start fetches.Member 0 → ⊥) → IsOk x → at_of x ≡ f.place
        → f'.stack ≡ pushed_of a x ++ f.stack
        → SameLocals a t.slot f.locals f'.locals x → (v : ℕ) → t.slot ≡ Some v → Alone f f' x s' (result_of p' s' f')
    aside_turn (start fetches.Member zero) h own other ok at st ls v e = absurd (other refl)
    aside_turn (start fetches.Member (suc zero)) h own other ok at st ls v e =
        let c = twin_insn p p' sides f.method o.side f'.place (start fetches.Member 1) h in
        record {
          frame = stored_frame;
          is = stored_is (start fetches.Member 1) c.0 c.1 c.2 st;
          same = stored_same (start fetches.Member 1) ok.next.stands at ls v e;
          to = refl;
        }
    aside_turn (start fetches.Member (suc (suc k))) h own other ok at st ls v e = let within = ok.within in absurd (omega (arith, within))
    aside_turn (start fetches.Constant zero) h own other ok at st ls v e =
        let way = sym (start_way p p' sides f.method o.side 0 f'.place fetches.Constant h).2 in
        let c = twin_insn p p' sides f.method o.side f'.place (start fetches.Constant 0) h in
        record {
          frame = next_with f' (a ∷ f'.stack);
          is =
              done (start fetches.Constant 0) c.0 c.1 ∙ ap (λ i. perform (operation_of p' here_at i) s' f') c.2
              ∙ loads_constant p p' sides f.method o.side v e way s' f' f'.place ok.place;
          same =
              to_item (next_with f' (a ∷ f'.stack)) (start fetches.Constant 1) refl ok.next at (ap (λ l. a ∷ l) st)
              (stays_unready a t.slot f.locals f'.locals (start fetches.Constant 0) (start fetches.Constant 1) (λ b. b) ls);
          to = refl;
        }
    aside_turn (start fetches.Constant (suc zero)) h own other ok at st ls v e =
        let way = sym (start_way p p' sides f.method o.side 1 f'.place fetches.Constant h).2 in
        let c = twin_insn p p' sides f.method o.side f'.place (start fetches.Constant 1) h in
        record {
          frame = next_with f' f'.stack;
          is =
              done (start fetches.Constant 1) c.0 c.1 ∙ ap (λ i. perform (operation_of p' here_at i) s' f') c.2
              ∙ passes_cast p p' sides f.method o.side v e way s' f' f'.place ok.place f.stack st;
          same =
              to_item (next_with f' f'.stack) (start fetches.Constant 2) refl ok.next at st
              (stays_unready a t.slot f.locals f'.locals (start fetches.Constant 1) (start fetches.Constant 2) (λ b. b) ls);
          to = refl;
        }
    aside_turn (start fetches.Constant (suc (suc zero))) h own other ok at st ls v e =
        let c = twin_insn p p' sides f.method o.side f'.place (start fetches.Constant 2) h in
        record {
          frame = stored_frame;
          is = stored_is (start fetches.Constant 2) c.0 c.1 c.2 st;
          same = stored_same (start fetches.Constant 2) ok.next.stands at ls v e;
          to = refl;
        }
    aside_turn (start fetches.Constant (suc (suc (suc k)))) h own other ok at st ls v e = let within = ok.within in absurd (omega (arith, within))
    aside_turn (image insn i early) h own other ok at st ls v e = absurd (true≢false own)
    aside_turn (probe_array id i late) h own other ok at st ls v e =
        let c = twin_insn p p' sides f.method o.side f'.place (probe_array id i late) h in
        let slot = t.body.arg_slots in
        let same : t.slot ≡ Some slot = e ∙ ap Some (o.side.changed v e).slot in
        let g = next_with f' (a ∷ f'.stack) in
        record {
          frame = g;
          is =
              done (probe_array id i late) c.0 c.1 ∙ ap (λ i. perform (operation_of p' here_at i) s' f') c.2 ∙ loads_array p' here_at s' f' slot
              ∙ ap (λ l. by_load reference_type l s' f') (reads_array a t.slot slot f.locals f'.locals (probe_array id i late) same tt ls);
          same =
              to_item g (probe_id id i late) refl ok.1 at (ap (λ l. a ∷ l) st)
              (moves_on a t.slot f.locals f'.locals (probe_array id i late) (probe_id id i late) tt ls);
          to = refl;
        }
    aside_turn (probe_id id i late) h own other ok at st ls v e =
        let c = twin_insn p p' sides f.method o.side f'.place (probe_id id i late) h in
        let g = next_with f' (int (pos id) ∷ f'.stack) in
        record {
          frame = g;
          is = done (probe_id id i late) c.0 c.1 ∙ pushes_it p' here_at s' f' c.0 id c.2;
          same =
              to_item g (probe_one id i late) refl ok.1 at (ap (λ l. int (pos id) ∷ l) st)
              (moves_on a t.slot f.locals f'.locals (probe_id id i late) (probe_one id i late) tt ls);
          to = refl;
        }
    aside_turn (probe_one id i late) h own other ok at st ls v e =
        let c = twin_insn p p' sides f.method o.side f'.place (probe_one id i late) h in
        let g = next_with f' (int (pos 1) ∷ f'.stack) in
        record {
          frame = g;
          is = done (probe_one id i late) c.0 c.1 ∙ ap (λ i. perform (operation_of p' here_at i) s' f') c.2 ∙ pushes_number p' here_at s' f' 1;
          same =
              to_item g (probe_store id i late) refl ok.1 at (ap (λ l. int (pos 1) ∷ l) st)
              (moves_on a t.slot f.locals f'.locals (probe_one id i late) (probe_store id i late) tt ls);
          to = refl;
        }
    aside_turn (probe_store id i late) h own other ok at st ls v e =
        let c = twin_insn p p' sides f.method o.side f'.place (probe_store id i late) h in
        let g = next_with f' f.stack in
        let is : result_of p' s' f' ≡ hits f.method.class id g =
        done (probe_store id i late) c.0 c.1 ∙ ap (λ i. perform (operation_of p' here_at i) s' f') c.2 ∙ writes_it p' here_at s' f'
        ∙ ap (λ l. by_write (Byte ∷ Boolean ∷ []) l s' f') st
        ∙ hits_it s' f' f.method.class (count_in t.new.probes) id f.stack ((o.side.changed v e).within f'.place id (probe_store id i late) h refl) in
        record {
          frame = g;
          is = is;
          same = by late ok.1 at (λ y. moves_on a t.slot f.locals f'.locals (probe_store id i late) y tt ls);
          to = refl;
        }
      where
        by : (late : Bool) → OkStore t.body.code t.slot t.ids t.items f'.place id i late → i ≡ f.place
            → ((y : Item) → SameLocals a t.slot f.locals f'.locals y) → SameFrame p p' sides f (next_with f' f.stack)
        by true h at ls = to_stand (next_with f' f.stack) (f'.place + 1) i None h refl refl (sym at) refl ls
        by false h at ls = to_item (next_with f' f.stack) (image h.0 i (Some id)) refl h.1 at refl (ls (image h.0 i (Some id)))
    aside_turn (hop to i due) h own other ok at st ls v e =
        let c = twin_insn p p' sides f.method o.side f'.place (hop to i due) h in
        let g = record f' { place = to } in
        record {
          frame = g;
          is = done (hop to i due) c.0 c.1 ∙ ap (λ i. perform (operation_of p' here_at i) s' f') c.2 ∙ jumps_to p' here_at s' f' to;
          same = to_stand g to i due ok.0.stands refl refl (sym at) st (λ y. moves_on a t.slot f.locals f'.locals (hop to i due) y tt ls);
          to = refl;
        }
