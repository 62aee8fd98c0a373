-- What stands in a twin besides the images: instructions that need nothing, and the store of a probe.
use Rattle.std.proofs.Common.{◌≡◌, ⊎_elim, ℕ, zero, suc, pos, ◌+◌, ◌<◌, ◌≤◌, Bool, true, false, ◌&&◌, cond, List, [], ◌∷◌, ◌++◌, Option}
use Rattle.std.proofs.Common.{Some, None, nat_eq, nat_le, is_some, refl, ◌∙◌, ap, subst, arith, get_or, if◌then◌else◌}
use Rattle.std.specs.Prelude.{Contains, bytes_eq}
use Rattle.std.proofs.lemmas.Bool.{leb-true}
use Rattle.std.proofs.lemmas.List.{reverse-append}
use Rattle.jc_bytes.specs.Descriptor.{Byte, Boolean}
use Rattle.jc_bytes.proofs.BooleanLaws.{which_in, none_in}
use Rattle.jc_bytes.proofs.EachLaws.{AllFrom, all_from}
use Rattle.jc_methods.specs.Opcode as opcode
use Rattle.jc_methods.specs.ProbeMembers.{data_type, most_short}
use Rattle.jc_methods.specs.Widened.{goto}
use Rattle.jc_methods.specs.declared.body.Body.{Body}
use Rattle.jc_methods.specs.declared.body.What.{What}
use Rattle.jc_methods.specs.declared.body.What.TheVariants as whats
use Rattle.jc_methods.specs.declared.insn.Insn.{Insn}
use Rattle.jc_methods.specs.declared.insn.Insn.TheVariants as insns
use Rattle.jc_methods.specs.declared.probe_members.Fetch.{Fetch}
use Rattle.jc_methods.specs.declared.probe_members.Fetch.TheVariants as fetches
use Rattle.jc_methods.specs.VerificationTypes.{VerificationType, top, int}
use Rattle.jc_programs.specs.declared.program.Program.{Program}
use Rattle.jc_programs.specs.declared.program.ProbeInit.{ProbeInit}
use Rattle.jc_programs.specs.declared.run_end.Thrown.{Thrown}
use Rattle.jc_kinds_after.specs.Shift.{probes}
use Rattle.jc_emit.specs.Marks.{TwinPlaces, aload, iconst_1, bastore, push, push_by, prelude_insn, prelude_size}
use Rattle.jc_machine_model.specs.Values.{Value}
use Rattle.jc_machine_model.specs.Operations.{Operation, pushes, casts, outside}
use Rattle.jc_machine_model.specs.Profile.{Location, what_at, init_of, given_in, made_class, begins_with_array, computed_operation}
use Rattle.jc_machine_model.specs.Profile.{constant_operation, make_operation, cast_operation, class_operation, operation_of}
use Rattle.jc_refs_check.specs.Needs.{Need, is_array_of, no_class, needs_of}
use Rattle.jc_refs_check.specs.RefsOk.{is_taken, operand}

-- ---- operations

neither : (z : Bool) (x y : Operation) → needs_of x ≡ [] → needs_of y ≡ [] → needs_of (cond z x y) ≡ []
neither true x y e f = e
neither false x y e f = f

computed_needs : (at : Location) (o : Option ProbeInit) → needs_of (computed_operation at o) ≡ []
computed_needs at None = refl
computed_needs at (Some init) = neither (nat_eq at.place 0) (pushes (Value.probes at.class init.count)) outside refl refl

constant_needs : (at : Location) (o : Option What) → needs_of (constant_operation at o) ≡ []
constant_needs at (Some (whats.Int value)) = refl
constant_needs at (Some whats.Text) = neither (is_some (init_of at)) (pushes (Value.text at.class)) outside refl refl
constant_needs at o = computed_needs at (given_in at o)

make_needs : (o : Option Thrown) → needs_of (make_operation o) ≡ []
make_needs None = refl
make_needs (Some c) = refl

cast_needs : (at : Location) (name : List ℕ) → needs_of (cast_operation at name) ≡ []
cast_needs at name = neither (nat_eq at.place 1 && (bytes_eq name data_type && begins_with_array at at.body.code)) (casts at.class) outside refl refl

class_needs : (op : ℕ) (at : Location) (o : Option What) → needs_of (class_operation op at o) ≡ []
class_needs op at (Some (whats.Class name)) =
    neither (nat_eq op opcode.new) (make_operation (made_class name)) (cond (nat_eq op opcode.checkcast) (cast_operation at name) outside)
    (make_needs (made_class name)) (neither (nat_eq op opcode.checkcast) (cast_operation at name) outside (cast_needs at name) refl)
class_needs op at o = refl

-- ---- instructions

-- wherever the instruction stands, it takes no reference of which it needs something
abbrev pub NeedsNothing : Insn → Type 0
NeedsNothing insn = (program : Program) (at : Location) → needs_of (operation_of program at insn) ≡ []

pub load_nothing : (v : ℕ) → NeedsNothing (aload v)
unfolding operation_of
load_nothing v program at = refl

pub one_nothing : NeedsNothing iconst_1
unfolding operation_of
one_nothing program at = refl

pub goto_nothing : (to : ℕ) → NeedsNothing (goto to)
unfolding operation_of
goto_nothing to program at = refl

pub constant_nothing : (place : ℕ) → NeedsNothing (insns.Constant place)
unfolding operation_of
constant_nothing place program at = constant_needs at (what_at at place)

abbrev IsSmall : ℕ → Type 0
IsSmall n = NeedsNothing (insns.Simple (3 + n))

small_nothing : AllFrom IsSmall 0 6
unfolding operation_of
small_nothing = (λ p at. refl, (λ p at. refl, (λ p at. refl, (λ p at. refl, (λ p at. refl, (λ p at. refl, tt))))))

push_nothing : (n : ℕ) → NeedsNothing (push n)
unfolding operation_of
push_nothing n program at = by (nat_le n 5) refl (nat_le n 127)
  where
    wide : (c : Bool) → needs_of (operation_of program at (if c then insns.Push 16 (pos n) else insns.Push 17 (pos n))) ≡ []
    wide true = refl
    wide false = refl

    by : (a : Bool) → nat_le n 5 ≡ a → (c : Bool)
        → needs_of (operation_of program at (if a then insns.Simple (3 + n) else if c then insns.Push 16 (pos n) else insns.Push 17 (pos n))) ≡ []
    by true e c = let le = leb-true n 5 e in all_from IsSmall 0 6 n small_nothing (omega arith) (omega (arith, le)) program at
    by false e c = wide c

-- what pushes the id of a probe
pub id_nothing : (integer : ℕ → ℕ) (n : ℕ) → NeedsNothing (push_by integer n)
id_nothing integer n program at = by (nat_le n most_short)
  where
    by : (t : Bool) → needs_of (operation_of program at (if t then push n else insns.Constant (integer n))) ≡ []
    by true = push_nothing n program at
    by false = constant_nothing (integer n) program at

-- the prelude, from its second instruction on
pub start_nothing : (fetch : Fetch) (places : TwinPlaces) (v k : ℕ) → 1 ≤ k → k < prelude_size fetch
    → NeedsNothing (prelude_insn fetch places v k)
unfolding operation_of
start_nothing fetch places v zero low lt = absurd (omega (arith, low))
start_nothing fetches.Member places v (suc zero) low lt = λ program at. refl
start_nothing fetches.Member places v (suc (suc k)) low lt = absurd (omega (arith, lt))
start_nothing fetches.Constant places v (suc zero) low lt = λ program at. class_needs opcode.checkcast at (what_at at places.array)
start_nothing fetches.Constant places v (suc (suc zero)) low lt = λ program at. refl
start_nothing fetches.Constant places v (suc (suc (suc k))) low lt = absurd (omega (arith, lt))

-- ---- the store of a probe

-- the stack in front of it: the array of probes, the id and the one
abbrev pub with_probe : List VerificationType → List VerificationType
with_probe l = ((l ++ probes ∷ []) ++ int ∷ []) ++ int ∷ []

abbrev array_need : Need
array_need = record { above = 2; takes = is_array_of (Byte ∷ Boolean ∷ []); fresh = no_class }

third : (l : List VerificationType) → operand 2 (with_probe l) ≡ probes
third l = ap (λ r. get_or r 2 top) (
    reverse-append ((l ++ probes ∷ []) ++ int ∷ []) (int ∷ [])
    ∙ ap (λ r. int ∷ r) (reverse-append (l ++ probes ∷ []) (int ∷ []) ∙ ap (λ r. int ∷ r) (reverse-append l (probes ∷ [])))
    )

pub store_taken : (program : Program) (at : Location) (b : Body) (l : List VerificationType) (n : Need)
    → Contains (needs_of (operation_of program at bastore)) n → is_taken b n (operand n.above (with_probe l)) ≡ true
unfolding operation_of
store_taken program at b l n c =
    ⊎_elim (λ same. subst (λ (m : Need). is_taken b m (operand m.above (with_probe l)) ≡ true) same (ap (is_taken b array_need) (third l)))
    (λ more. absurd (none_in n more)) (which_in array_need [] n c)
