-- A program that passes the reference check flows along its relation.
use Rattle.std.proofs.Common.{◌≡◌, inl, inr, ℕ, zero, suc, ◌-◌, ◌<◌, ◌≤◌, true, not, List, [], ◌∷◌, length, get_or, Option, Some, None, refl, sym, ◌∙◌, ap, subst, arith}
use Rattle.std.specs.Prelude.{IsTrue, Contains, slice_get, option_and_then}
use Rattle.std.specs.Str.{bytes_eq}
use Rattle.std.proofs.lemmas.Bool.{and_parts, false≢true}
use Rattle.std.proofs.lemmas.Option.{slice_get_within, get_or_from_slice_get, same_Some}
use Rattle.std.proofs.lemmas.List.Elements.{Contains-append_left, Contains-append_right}
use Rattle.jc_bytes.specs.Descriptor.{FieldType, Byte, Char, Double, Float, Int, Long, Short, Boolean, Object, Array}
use Rattle.jc_bytes.proofs.OptionLaws.{none_some}
use Rattle.jc_methods.specs.EntryState.{held_of, entry_of as first_state}
use Rattle.jc_methods.specs.declared.insn.Insn.{Insn}
use Rattle.jc_methods.specs.declared.body.Body.{Body}
use Rattle.jc_methods.specs.declared.body.Handler.{Handler}
use Rattle.jc_methods.specs.VerificationTypes.{VerificationType, TypeState}
use Rattle.jc_methods.specs.VerificationTypes as verification
use Rattle.jc_programs.specs.declared.program.Program.{Program}
use Rattle.jc_programs.specs.declared.program.Linked.{Linked}
use Rattle.jc_programs.specs.declared.run_end.Entry.{Entry}
use Rattle.jc_kinds_after.specs.Wants.{is_anything, is_int, is_float, is_long, is_double, accepts}
use Rattle.jc_kinds_after.specs.After.{want_of, step_of, returns_of, ground_of, after_of}
use Rattle.jc_kinds_after.specs.Step.{upper, apply}
use Rattle.jc_kinds.specs.Fits.{Fits}
use Rattle.jc_kinds.specs.States.{state_of, after_at}
use Rattle.jc_kinds.specs.Checked.{LeadsTo, caught, at_handler}
use Rattle.jc_machine_model.specs.Methods.{is_plain, is_enterable, is_synchronized}
use Rattle.jc_machine_model.specs.Programs.{IsProgram, IsProgramBody}
use Rattle.jc_machine_model.specs.Operations.{Operation, puts, invokes, returns}
use Rattle.jc_machine_model.specs.World.{Frame}
use Rattle.jc_machine_model.specs.Step.{located_in_class, located_in_body, located, operation_at}
use Rattle.jc_kinds.specs.Flows.{EachBy, ThereBy, FlowsBy}
use Rattle.jc_machine_laws.specs.Typings.{kept_types, TakesBy, IsBodyOf, IsFlowing}
use Rattle.jc_machine_laws.proofs.PlainlyLaws.{plainly_flows}
use Rattle.jc_machine_laws.proofs.OnwardLaws.{Here, whole_body}
use Rattle.jc_machine_laws.proofs.ReturnLaws.{at_of, located_is, after_is}
use Rattle.jc_refs_check.specs.Suits.{object_class, class_suits, suits, SuitsAsReference, Passes}
use Rattle.jc_refs_check.specs.Needs.{Need, need_held, argument_needs, needs_of}
use Rattle.jc_refs_check.specs.RefsOk.{is_taken, operand, TakesCaught, HandlerSuits, IsSuited, RefsOk}
use Rattle.jc_refs_laws.specs.Classes.{by_class}
use Rattle.jc_refs_laws.proofs.OperandLaws.{operand_upper}
use Rattle.jc_refs_laws.proofs.TakenLaws.{taken, LooksAt, Looks}
use Rattle.jc_refs_laws.proofs.PoolTakenLaws.{each_looks}

-- ---- the two relations together

both_each : (x y : List VerificationType) → EachBy Fits x y → EachBy SuitsAsReference x y → EachBy Passes x y
both_each [] [] f g = tt
both_each [] (k ∷ y) f g = absurd f
both_each (h ∷ x) [] f g = absurd f
both_each (h ∷ x) (k ∷ y) f g = (record { fits = f.0; suits = g.0 }, both_each x y f.1 g.1)

both_there : (s t : Option TypeState) → ThereBy Fits s t → ThereBy SuitsAsReference s t → ThereBy Passes s t
both_there (Some s) (Some t) f g = record { locals = both_each s.locals t.locals f.locals g.locals; stack = both_each s.stack t.stack f.stack g.stack }
both_there (Some s) None f g = absurd f
both_there None t f g = absurd f

caught_passes : (k : VerificationType) (stack : List VerificationType) → EachBy Fits (k ∷ []) stack → TakesCaught k stack → EachBy Passes (k ∷ []) stack
caught_passes (verification.object name) (verification.object other ∷ []) f g = (record { fits = f.0; suits = λ r. g }, tt)
caught_passes k stack f g = absurd g

both_handler : (b : Body) (h : Handler) (s t : Option TypeState) → ThereBy Fits (at_handler b h s) t → HandlerSuits b h s t
    → ThereBy Passes (at_handler b h s) t
both_handler b h (Some s) (Some t) f g = record { locals = both_each s.locals t.locals f.locals g.0; stack = caught_passes (caught b h) t.stack f.stack g.1 }
both_handler b h (Some s) None f g = absurd f
both_handler b h None t f g = absurd f

-- an instruction from which a branch leads is one of the body
leads_from : (b : Body) (i j : ℕ) → LeadsTo b i j → i < length b.code
leads_from b i j (inl p) = slice_get_within b.code i p.0.insn p.0.stands
leads_from b i j (inr p) = slice_get_within b.code i p.insn p.stands

-- ---- a body

-- where it passes the kind check, and references suit at each instruction, it flows along both
pub suited_passes : (program : Program) (method : Entry) (b : Body) → FlowsBy Fits program.names b → 0 < length b.code
    → ((i : ℕ) → i < length b.code → IsSuited program method b i) → FlowsBy Passes program.names b
suited_passes program method b checked some suited = record {
  entry = both_there (Some (first_state b)) (state_of program.names b 0) checked.entry ((suited 0 some).entry refl);
  branches =
      λ i j l. both_there (after_at program.names b i) (state_of program.names b j) (checked.branches i j l) ((suited i (leads_from b i j l)).branches j l);
  handlers =
      λ h i g lt. both_handler b h (state_of program.names b i) (state_of program.names b h.target) (checked.handlers h i g lt) ((suited i lt).handlers h g);
}

-- ---- operands that are kept

pub kept_few : (o : Operation) → length (kept_types o) ≤ taken o
kept_few (invokes callee parameters max_locals) = omega arith
kept_few (returns computational None) = omega arith
kept_few (returns computational (Some type)) = omega arith
kept_few o = omega arith

one_needed : (kept : FieldType) (j : ℕ) (type : FieldType) → slice_get (kept ∷ []) j ≡ Some type → (n : Need)
    → Contains (need_held (length (kept ∷ []) - 1 - j) (held_of type)) n → Contains (need_held 0 (held_of kept)) n
one_needed kept zero type e n c = subst (λ x. Contains (need_held 0 (held_of x)) n) (sym (same_Some kept type e)) c
one_needed kept (suc j) type e n c = absurd (none_some e)

argument_needed : (types : List FieldType) (j : ℕ) (type : FieldType) → slice_get types j ≡ Some type → (n : Need)
    → Contains (need_held (length types - 1 - j) (held_of type)) n → Contains (argument_needs types) n
argument_needed [] j type e n c = absurd (none_some e)
argument_needed (kept ∷ types) zero type e n c =
    Contains-append_left (need_held (length types) (held_of kept)) (argument_needs types) n
    (subst (λ x. Contains (need_held (length types) (held_of x)) n) (sym (same_Some kept type e))
    (subst (λ m. Contains (need_held m (held_of type)) n) (let m : length (kept ∷ types) - 1 - 0 ≡ length types = omega arith in m) c))
argument_needed (kept ∷ types) (suc j) type e n c =
    Contains-append_right (need_held (length types) (held_of kept)) (argument_needs types) n
    (argument_needed types j type e n
    (subst (λ m. Contains (need_held m (held_of type)) n) (let m : length (kept ∷ types) - 1 - suc j ≡ length types - 1 - j = omega arith in m) c))

-- what is kept is needed
kept_needed : (o : Operation) (j : ℕ) (type : FieldType) → slice_get (kept_types o) j ≡ Some type → (n : Need)
    → Contains (need_held (length (kept_types o) - 1 - j) (held_of type)) n → Contains (needs_of o) n
kept_needed (puts at kept) j type e n c = one_needed kept j type e n c
kept_needed (invokes callee parameters max_locals) j type e n c = argument_needed parameters j type e n c
kept_needed (returns computational (Some kept)) j type e n c = one_needed kept j type e n c
kept_needed (returns computational None) j type e n c = absurd (none_some e)
kept_needed o j type e n c = absurd (none_some e)

abbrev class_need : ℕ → List ℕ → Need
class_need above name = record { above = above; takes = λ class. class_suits class name; fresh = λ class. bytes_eq name object_class }

taken_suits : (b : Body) (above : ℕ) (name : List ℕ) (h : VerificationType) → is_taken b (class_need above name) h ≡ true → is_anything h ≡ true
    → suits h (verification.object name) ≡ true
taken_suits b above name verification.null e a = refl
taken_suits b above name (verification.object other) e a = e
taken_suits b above name verification.uninit_this e a = e
taken_suits b above name (verification.uninit at) e a = e
taken_suits b above name h e a = absurd (false≢true a)

no_int : (h : VerificationType) → is_int h ≡ true → is_anything h ≡ true → ⊥
no_int verification.int a r = false≢true r
no_int h a r = false≢true a

no_float : (h : VerificationType) → is_float h ≡ true → is_anything h ≡ true → ⊥
no_float verification.float a r = false≢true r
no_float h a r = false≢true a

no_long : (h : VerificationType) → is_long h ≡ true → is_anything h ≡ true → ⊥
no_long verification.long a r = false≢true r
no_long h a r = false≢true a

no_double : (h : VerificationType) → is_double h ≡ true → is_anything h ≡ true → ⊥
no_double verification.double a r = false≢true r
no_double h a r = false≢true a

-- an operand that is kept suits its type
module _ (b : Body) (stack : List VerificationType) (above : ℕ) where
  object_kept : (name : List ℕ) → ((n : Need) → Contains (need_held above (verification.object name)) n → is_taken b n (operand n.above stack) ≡ true)
      → is_anything (operand above stack) ≡ true → suits (operand above stack) (verification.object name) ≡ true
  object_kept name f r = taken_suits b above name (operand above stack) (f (class_need above name) (0, omega arith, refl)) r

  kept_suits : (type : FieldType) → ((n : Need) → Contains (need_held above (held_of type)) n → is_taken b n (operand n.above stack) ≡ true)
      → accepts (want_of type) (operand above stack) ≡ true → is_anything (operand above stack) ≡ true → suits (operand above stack) (held_of type) ≡ true
  kept_suits Byte f a r = absurd (no_int (operand above stack) a r)
  kept_suits Char f a r = absurd (no_int (operand above stack) a r)
  kept_suits Int f a r = absurd (no_int (operand above stack) a r)
  kept_suits Short f a r = absurd (no_int (operand above stack) a r)
  kept_suits Boolean f a r = absurd (no_int (operand above stack) a r)
  kept_suits Float f a r = absurd (no_float (operand above stack) a r)
  kept_suits Long f a r = absurd (no_long (operand above stack) a r)
  kept_suits Double f a r = absurd (no_double (operand above stack) a r)
  kept_suits (Object name) f a r = object_kept name f r
  kept_suits (Array component) f a r = object_kept _ f r

-- ---- where an instruction stands

applied : (f : Frame) (b : Body) (insn : Insn) (k t : TypeState) → slice_get b.code f.place ≡ Some insn → after_of b f.place k ≡ Some t
    → apply (ground_of b f.place) (step_of b.uses (returns_of b) insn) k ≡ Some t
unfolding after_of
applied f b insn k t is e = ap (option_and_then (λ i. apply (ground_of b f.place) (step_of b.uses (returns_of b) i) k)) (sym is) ∙ e

-- the kind check looks at what the instruction takes
pub looks_here : (program : Program) (f : Frame) (c : Linked) (b : Body) (insn : Insn) (k : TypeState) → Here program f c b insn k
    → LooksAt (operation_at program (located program f.method f.place)) k.stack
unfolding Looks
looks_here program f c b insn k h =
    let t = after_is program f c b insn k h in
    subst (λ o. LooksAt (operation_at program o) k.stack) (sym (located_is program f c b insn k h))
    (each_looks program (at_of f c b) insn (ground_of b f.place) k t.0 (applied f b insn k t.0 h.insn_is t.1))

abbrev standing : Entry → ℕ → Frame
standing method i = record { method = method; place = i; locals = []; stack = [] }

none_located : (program : Program) (method : Entry) (c : Linked) (b : Body) (i : ℕ) → IsBodyOf program method c b → slice_get b.code i ≡ None
    → located program method i ≡ None
none_located program method c b i of e =
    ap (option_and_then (λ (d : Linked). located_in_class method.class i d (slice_get d.bodies method.method))) of.class_is
    ∙ ap (located_in_class method.class i c) of.body_is
    ∙ ap (located_in_body method.class c i b) e

-- ---- the program

pub enterable_plain : (c : Linked) (b : Body) → IsTrue (is_enterable c b) → IsTrue (is_plain c b)
enterable_plain c b e = (and_parts (is_plain c b) (not (is_synchronized b)) e).0

module _ (program : Program) (p : IsProgram program) (ok : RefsOk program) (method : Entry) (c : Linked) (b : Body) (of : IsBodyOf program method c b)
    (e : IsTrue (is_enterable c b)) where
  suited : (i : ℕ) → i < length b.code → IsSuited program method b i
  suited i lt = ok method b i (record { linked = c; class_is = of.class_is; body_is = of.body_is; enterable = e; within = lt })

  whole : IsProgramBody program.names b
  whole = whole_body program (standing method 0) c b p of.class_is of.body_is

  checked : FlowsBy Fits program.names b
  checked = (plainly_flows program p).flows method c b of (enterable_plain c b e)

  body_passes : FlowsBy Passes program.names b
  body_passes = suited_passes program method b checked whole.well_made.of_any_size.code.some suited

  here_at : (i : ℕ) (s : TypeState) (insn : Insn) → state_of program.names b i ≡ Some s → slice_get b.code i ≡ Some insn
      → Here program (standing method i) c b insn s
  here_at i s insn q g = record { class_is = of.class_is; body_is = of.body_is; plain = enterable_plain c b e; insn_is = g; state_is = q; whole = whole }

  operand_passes : (i : ℕ) (s : TypeState) (insn : Insn) → state_of program.names b i ≡ Some s → slice_get b.code i ≡ Some insn
      → TakesBy Passes (kept_types (operation_at program (located program method i))) s.stack
  operand_passes i s insn q g j type h tj hj a = record {
    fits = (plainly_flows program p).operands method c b i s of (enterable_plain c b e) q j type h tj hj a;
    suits = λ r. subst (λ x. suits x (held_of type) ≡ true) is
        (kept_suits b s.stack above type (λ n x. (suited i (slice_get_within b.code i insn g)).operands s q n (kept_needed o j type tj n x))
        (subst (λ x. accepts (want_of type) x ≡ true) (sym is) a) (subst (λ x. is_anything x ≡ true) (sym is) r));
  }
    where
      o : Operation
      o = operation_at program (located program method i)

      count : ℕ
      count = length (kept_types o)

      above : ℕ
      above = count - 1 - j

      first : j < count
      first = slice_get_within (kept_types o) j type tj

      enough : count ≤ length s.stack
      enough =
          let few = kept_few o in
          let there = (looks_here program (standing method i) c b insn s (here_at i s insn q g)).operands.enough in
          omega (arith, few, there)

      is : operand above s.stack ≡ h
      is =
          let lt = first in
          let le = enough in
          sym (operand_upper count above s.stack le (omega (arith, lt)))
          ∙ ap (λ x. get_or (upper count s.stack) x verification.top) (let m : count - 1 - (count - 1 - j) ≡ j = omega (arith, lt) in m)
          ∙ get_or_from_slice_get (upper count s.stack) j h verification.top hj

  operands_pass : (i : ℕ) (s : TypeState) → state_of program.names b i ≡ Some s
      → TakesBy Passes (kept_types (operation_at program (located program method i))) s.stack
  operands_pass i s q = by (slice_get b.code i) refl
    where
      by : (x : Option Insn) → slice_get b.code i ≡ x → TakesBy Passes (kept_types (operation_at program (located program method i))) s.stack
      by (Some insn) g = operand_passes i s insn q g
      by None g = λ j type h tj hj a. absurd (none_some
          (subst (λ x. slice_get (kept_types (operation_at program x)) j ≡ Some type) (none_located program method c b i of g) tj))

pub flowing : (program : Program) → IsProgram program → RefsOk program → IsFlowing by_class Passes program
flowing program p ok = record {
  fits = λ h k s. s.fits;
  plain = enterable_plain;
  enterable = λ c b e. e;
  flows = λ method c b of e. body_passes program p ok method c b of e;
  operands = λ method c b i s of e q. operands_pass program p ok method c b of e i s q;
}
