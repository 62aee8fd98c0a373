-- The synchronized methods that an instruction of the original calls, and that its image calls.
use Rattle.std.proofs.Common.{◌≡◌, ⊎_elim, ℕ, true, not, ◌&&◌, List, length, Option, Some, None, nat_eq, option_map, refl, sym, ap, ap₂, ◌∙◌}
use Rattle.std.specs.Prelude.{slice_get, option_and_then}
use Rattle.std.specs.Int.Bits.{bit_and}
use Rattle.jc_bytes.proofs.TextEqualLaws.{same_bytes}
use Rattle.jc_bytes.proofs.BooleanLaws.{and_false}
use Rattle.jc_methods.specs.ProbeMembers.{init_name}
use Rattle.jc_methods.specs.declared.body.What.{What}
use Rattle.jc_methods.specs.declared.body.What.TheVariants as whats
use Rattle.jc_programs.specs.declared.program.Program.{Program}
use Rattle.jc_programs.specs.declared.program.Linked.{Linked}
use Rattle.jc_programs.specs.declared.run_end.Entry.{Entry}
use Rattle.jc_programs.specs.Members.{class_named, class_at, method_named}
use Rattle.jc_twin_programs.specs.TwinProgram.{IsPair, IsChangedPair}
use Rattle.jc_machine_model.specs.Methods.{is_init_name, is_synchronized, is_plain}
use Rattle.jc_machine_model.specs.Profile.{method_in, callee_named}
use Rattle.jc_machine_model.specs.Fits.{named_by}
use Rattle.jc_machine_model.specs.Locked.{is_locked, locked_if, locked_body, locked_class, locked_method}
use Rattle.jc_twin_simulation.specs.Sides.{Side, IsSide, AreSides}
use Rattle.jc_twin_simulation.proofs.MemberLaws.{plain_same}
use Rattle.jc_twin_simulation.proofs.ClassLaws.{class_same, class_there, method_there, methods_found, methods_missing, added_name}

module _ (p p' : Program) (sides : Entry → Side) (are : AreSides p p' sides) where
  -- ---- methods that are there

  is_locked_same : (e : Entry) → IsSide p p' e (sides e) → is_locked (sides e).new (sides e).twin ≡ is_locked (sides e).class (sides e).body
  is_locked_same e s =
      let u = sides e in
      ap₂ (λ plain flags. plain && (not (nat_eq (bit_and flags 0x0020) 0) && not (is_init_name u.twin.name))) (plain_same p p' e u s) s.same.flags
      ∙ ap (λ name. is_plain u.class u.body && (is_synchronized u.body && not (is_init_name name))) s.same.name

  locked_same : (e : Entry) → IsSide p p' e (sides e) → locked_class e (class_at p' e.class) ≡ locked_class e (class_at p e.class)
  locked_same e s =
      let u = sides e in
      ap (locked_class e) s.new_is ∙ ap (locked_body e u.new) s.twin_is ∙ ap (λ b. locked_if b e) (is_locked_same e s)
      ∙ sym (ap (locked_class e) s.class_is ∙ ap (locked_body e u.class) s.body_is)

  -- ---- the added method

  abbrev added_at : ℕ → Linked → Entry
  added_at k c = record { class = k; method = length c.bodies }

  -- a call of it isn't one of these
  added_apart : (k : ℕ) (c new : Linked) → slice_get p'.classes k ≡ Some new → (pair : IsChangedPair p.names p'.names c new)
      → locked_class (added_at k c) (class_at p' k) ≡ None
  added_apart k c new there pair =
      let b = pair.added in
      let named : is_init_name b.name ≡ true = same_bytes b.name init_name (added_name p.names p'.names c new pair) in
      ap (locked_class (added_at k c)) there ∙ ap (locked_body (added_at k c) new) (are.added c new pair)
      ∙ ap (λ n. locked_if (is_plain new b && (is_synchronized b && not n)) (added_at k c)) named
      ∙ ap (λ n. locked_if (is_plain new b && n) (added_at k c)) (and_false (is_synchronized b))
      ∙ ap (λ n. locked_if n (added_at k c)) (and_false (is_plain new b))

  -- ---- methods by their names

  abbrev entry_of : ℕ → Option ℕ → Option Entry
  entry_of k o = option_map (λ (j : ℕ). record { class = k; method = j }) o

  method_same : (k : ℕ) (c new : Linked) (name desc : List ℕ) → slice_get p.classes k ≡ Some c → slice_get p'.classes k ≡ Some new
      → IsPair p.names p'.names c new → (o : Option ℕ) → method_named c.bodies name desc ≡ o
      → locked_method p' (method_in name desc k new) ≡ locked_method p (entry_of k o)
  method_same k c new name desc there there' pair (Some j) e =
      let b = method_there c name desc j e in
      ap (λ o. locked_method p' (entry_of k o)) (methods_found p.names p'.names c new pair name desc j e)
      ∙ locked_same (record { class = k; method = j }) (are.side (record { class = k; method = j }) c b.0 there b.1)
  method_same k c new name desc there there' pair None e = ⊎_elim
      (λ none. ap (λ o. locked_method p' (entry_of k o)) none)
      (λ last. ap (λ o. locked_method p' (entry_of k o)) last.found ∙ added_apart k c new there' last.pair)
      (methods_missing p.names p'.names c new pair name desc e)

  abbrev method_of : Program → (name desc : List ℕ) → Option ℕ → Option Entry
  method_of program name desc o = option_and_then (λ (k : ℕ). option_and_then (method_in name desc k) (class_at program k)) o

  class_methods_same : (class name desc : List ℕ) → (o : Option ℕ) → class_named p class ≡ o
      → locked_method p' (method_of p' name desc o) ≡ locked_method p (method_of p name desc o)
  class_methods_same class name desc None e = refl
  class_methods_same class name desc (Some k) e =
      let c = class_there p class k e in
      let n = are.pair k c.0 c.1 in
      ap (λ a. locked_method p' (option_and_then (method_in name desc k) a)) n.1
      ∙ method_same k c.0 n.0 name desc c.1 n.1 n.2 (method_named c.0.bodies name desc) refl
      ∙ sym (ap (λ a. locked_method p (option_and_then (method_in name desc k) a)) c.1)

  callee_named_same : (class name desc : List ℕ) → locked_method p' (callee_named p' class name desc) ≡ locked_method p (callee_named p class name desc)
  callee_named_same class name desc =
      ap (λ o. locked_method p' (method_of p' name desc o)) (class_same p p' are.names class)
      ∙ class_methods_same class name desc (class_named p class) refl

  pub named_same : (o : Option What) → locked_method p' (named_by p' o) ≡ locked_method p (named_by p o)
  named_same (Some (whats.Method class name desc)) = callee_named_same class name desc
  named_same o = refl
