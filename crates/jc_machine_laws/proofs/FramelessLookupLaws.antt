-- What a program without frames has at its places and by its names.
use Rattle.std.proofs.Common.{◌≡◌, ℕ, ◌+◌, Bool, ◌&&◌, not, nat_lt, if◌then◌else◌, List, map, Option, None, Some, option_map}
use Rattle.std.proofs.Common.{option_and_then, bytes_eq, refl, ap, ◌∙◌}
use Rattle.std.proofs.lemmas.Option.{slice_get-map}
use Rattle.std.specs.List.{slice_get}
use Rattle.jc_methods.specs.declared.body.Body.{Body}
use Rattle.jc_methods.specs.EntryState.{is_static}
use Rattle.jc_programs.specs.declared.program.Program.{Program}
use Rattle.jc_programs.specs.declared.program.Linked.{Linked}
use Rattle.jc_programs.specs.declared.run_plan.ThreadLine.{ThreadLine}
use Rattle.jc_programs.specs.declared.run_end.Entry.{Entry}
use Rattle.jc_programs.specs.Entries.{is_entry, entry_in, entry_of}
use Rattle.jc_programs.specs.Members.{class_named, class_at, body_of, method_named}
use Rattle.jc_machine_model.specs.Methods.{declares_init, is_init_name, is_native, is_synchronized, is_enterable}
use Rattle.jc_machine_model.specs.Profile.{method_in, callee_named}
use Rattle.jc_machine_laws.specs.Frameless.{frameless_body, frameless_class, frameless}
use Rattle.jc_machine_laws.proofs.FramelessListLaws.{position-map, any-map}

module _ (p : Program) where
  pub same_class_named : (name : List ℕ) → class_named (frameless p) name ≡ class_named p name
  same_class_named name = position-map frameless_class (λ (c : Linked). bytes_eq c.name name) p.classes

  pub same_class_at : (k : ℕ) → class_at (frameless p) k ≡ option_map frameless_class (class_at p k)
  same_class_at k = slice_get-map frameless_class p.classes k

pub same_body_at : (c : Linked) (k : ℕ) → slice_get (frameless_class c).bodies k ≡ option_map frameless_body (slice_get c.bodies k)
same_body_at c k = slice_get-map frameless_body c.bodies k

pub same_body_of : (p : Program) (method : Entry) → body_of (frameless p) method ≡ option_map frameless_body (body_of p method)
same_body_of p method = ap (option_and_then (λ (c : Linked). slice_get c.bodies method.method)) (same_class_at p method.class) ∙ by (class_at p method.class)
  where
    by : (o : Option Linked) → option_and_then (λ (c : Linked). slice_get c.bodies method.method) (option_map frameless_class o)
        ≡ option_map frameless_body (option_and_then (λ (c : Linked). slice_get c.bodies method.method) o)
    by None = refl
    by (Some c) = same_body_at c method.method

pub same_declares : (c : Linked) → declares_init (frameless_class c) ≡ declares_init c
same_declares c = any-map frameless_body (λ (b : Body). is_init_name b.name) c.bodies

pub same_method_named : (bodies : List Body) (name desc : List ℕ) → method_named (map frameless_body bodies) name desc ≡ method_named bodies name desc
same_method_named bodies name desc = position-map frameless_body (λ (b : Body). bytes_eq b.name name && bytes_eq b.desc desc) bodies

pub same_callee : (p : Program) (class name desc : List ℕ) → callee_named (frameless p) class name desc ≡ callee_named p class name desc
same_callee p class name desc =
    ap (option_and_then (λ (k : ℕ). option_and_then (method_in name desc k) (class_at (frameless p) k))) (same_class_named p class)
    ∙ by (class_named p class)
  where
    at_class : (k : ℕ) (o : Option Linked) → option_and_then (method_in name desc k) (option_map frameless_class o) ≡ option_and_then (method_in name desc k) o
    at_class k None = refl
    at_class k (Some c) = ap (option_map (λ (m : ℕ). let e : Entry = record { class = k; method = m } in e)) (same_method_named c.bodies name desc)

    by : (o : Option ℕ) → option_and_then (λ (k : ℕ). option_and_then (method_in name desc k) (class_at (frameless p) k)) o
        ≡ option_and_then (λ (k : ℕ). option_and_then (method_in name desc k) (class_at p k)) o
    by None = refl
    by (Some k) = ap (option_and_then (method_in name desc k)) (same_class_at p k) ∙ at_class k (class_at p k)

-- ---- entries

pub same_entry : (p : Program) (thread : ThreadLine) → entry_of (frameless p) thread ≡ entry_of p thread
unfolding entry_of
same_entry p thread =
    ap (option_and_then (λ (class : ℕ). option_and_then (entry_in thread class) (class_at (frameless p) class))) (same_class_named p thread.class)
    ∙ by (class_named p thread.class)
  where
    at_class : (k : ℕ) (o : Option Linked) → option_and_then (entry_in thread k) (option_map frameless_class o) ≡ option_and_then (entry_in thread k) o
    at_class k None = refl
    at_class k (Some c) =
        ap (option_map (λ (m : ℕ). let e : Entry = record { class = k; method = m } in e))
        (position-map frameless_body (is_entry thread) c.bodies)

    by : (o : Option ℕ) → option_and_then (λ (k : ℕ). option_and_then (entry_in thread k) (class_at (frameless p) k)) o
        ≡ option_and_then (λ (k : ℕ). option_and_then (entry_in thread k) (class_at p k)) o
    by None = refl
    by (Some k) = ap (option_and_then (entry_in thread k)) (same_class_at p k) ∙ at_class k (class_at p k)

-- ---- methods that a thread may enter

pub same_enterable : (c : Linked) (b : Body) → is_enterable (frameless_class c) (frameless_body b) ≡ is_enterable c b
same_enterable c b =
    ap (λ (d : Bool). (is_static b.flags && (not
    (is_native b) && (not c.has_clinit && not (nat_lt (if d then 1004 else 1000) (b.max_locals + b.max_stack))))) && not
    (is_synchronized b))
    (same_declares c)
