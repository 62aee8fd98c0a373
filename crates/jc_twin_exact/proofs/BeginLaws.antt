-- The worlds in which a case begins.
use Rattle.std.proofs.Common.{◌≡◌, inl, inr, ℕ, zero, suc, ℤ, Bool, true, false, List, [], ◌∷◌, map, Option, Some, None, option_map, refl, sym, ap, ◌∙◌, subst, if◌then◌else◌}
use Rattle.std.specs.Prelude.{⊤, slice_get, Contains}
use Rattle.std.specs.List.{AllByRecursion}
use Rattle.std.proofs.lemmas.Option.{none-some}
use Rattle.jc_bytes.specs.Descriptor.{FieldType, Byte, Char, Double, Float, Int, Long, Short, Boolean, Object, Array}
use Rattle.jc_bytes.proofs.BooleanLaws.{none_in}
use Rattle.jc_methods.specs.DescriptorTypes.{field_type_in, method_type_in}
use Rattle.jc_methods.specs.declared.body.Body.{Body}
use Rattle.jc_programs.specs.declared.program.Program.{Program}
use Rattle.jc_programs.specs.declared.program.Linked.{Linked}
use Rattle.jc_programs.specs.declared.program.StaticField.{StaticField}
use Rattle.jc_programs.specs.declared.run_plan.ThreadLine.{ThreadLine}
use Rattle.jc_programs.specs.declared.run_plan.Case.{Case}
use Rattle.jc_programs.specs.declared.run_end.Entry.{Entry}
use Rattle.jc_programs.specs.Members.{class_at}
use Rattle.jc_plan.specs.ClassEdges.{ProgramEdge}
use Rattle.jc_cover.specs.Followed.{began}
use Rattle.jc_emit.specs.Local.{early_of}
use Rattle.jc_machine_model.specs.World.{Frame, Thread, running, returned, threw, stuck}
use Rattle.jc_machine_model.specs.Methods.{is_enterable}
use Rattle.jc_machine_model.specs.Begin.{number_value, first_of, first_value, argument_values, first_frame, thread_in, thread_for, first_threads, begin, entries_of, begin_case}
use Rattle.jc_twin_simulation.specs.Sides.{Side}
use Rattle.jc_twin_simulation.specs.Beside.{SameThread, SameThreads, Beside}
use Rattle.jc_twin_simulation.specs.Probes.{hit_of, item_hit, place_hit}
use Rattle.jc_twin_exact.proofs.ValueLaws.{All, InStatics, locals_all}
use Rattle.jc_twin_exact.proofs.GoodLaws.{IsOther, HasNoInit, IsGood, IsGoodWorld}
use Rattle.jc_twin_exact.proofs.CameLaws.{ThreadCame, WorldCame}
use Rattle.jc_twin_exact.proofs.MarkLaws.{AreMarked}
use Rattle.jc_twin_exact.proofs.OwnMoveLaws.{IsCalm, calm_at, start_calm}

-- ---- threads

-- what holds of threads that begin
each_first : (P : Thread → Type 0) → ((m : Entry) → P (stuck m 0)) → ((m : Entry) (b : Body) (numbers : List ℤ) → P (running (first_frame m b numbers) []))
    → (r : Program) (threads : List ThreadLine) (entries : List Entry) → AllByRecursion P (first_threads r threads entries)
each_first P no_way way r [] entries = tt
each_first P no_way way r (t ∷ threads) [] = tt
each_first P no_way way r (t ∷ threads) (m ∷ entries) = (by (class_at r m.class), each_first P no_way way r threads entries)
  where
    if_thread : (b : Bool) (x y : Thread) → P x → P y → P (if b then x else y)
    if_thread true x y h g = h
    if_thread false x y h g = g

    by_body : (c : Linked) (o : Option Body) → P (elim o [ None ↦ stuck m 0 | Some b ↦ thread_in m t.args c b ])
    by_body c None = no_way m
    by_body c (Some b) = if_thread (is_enterable c b) (running (first_frame m b t.args) []) (stuck m 0) (way m b t.args) (no_way m)

    by : (o : Option Linked) → P (thread_for m t.args o)
    by None = no_way m
    by (Some c) = by_body c (slice_get c.bodies m.method)

-- ---- values

number_other : (type : FieldType) (n : ℤ) → IsOther (number_value type n)
number_other Long n = tt
number_other other n = tt

first_other : (o : Option FieldType) (n : ℤ) → IsOther (first_of o n)
first_other None n = tt
first_other (Some (Object name)) n = tt
first_other (Some (Array component)) n = tt
first_other (Some Long) n = tt
first_other (Some Byte) n = tt
first_other (Some Char) n = tt
first_other (Some Double) n = tt
first_other (Some Float) n = tt
first_other (Some Int) n = tt
first_other (Some Short) n = tt
first_other (Some Boolean) n = tt

fields_other : (fields : List StaticField) → All IsOther (map first_value fields)
fields_other [] = tt
fields_other (f ∷ fields) = (first_other (field_type_in f.desc) f.first, fields_other fields)

statics_other : (classes : List Linked) → InStatics IsOther (map (λ (c : Linked). map first_value c.statics) classes)
statics_other [] = tt
statics_other (c ∷ classes) = (fields_other c.statics, statics_other classes)

arguments_other : (types : List FieldType) (numbers : List ℤ) → All IsOther (argument_values types numbers)
arguments_other [] numbers = tt
arguments_other (type ∷ types) [] = tt
arguments_other (type ∷ types) (n ∷ numbers) = (number_other type n, arguments_other types numbers)

-- ---- the world

module _ (p : Program) (no_init : HasNoInit p) where
  pub begin_good : (case : Case) → IsGoodWorld p (begin_case p case)
  unfolding begin
  begin_good case = record {
    statics = statics_other p.classes;
    threads = each_first (IsGood p) (λ m. tt)
        (λ m b numbers. (
          record { locals = locals_all IsOther b.max_locals _ (arguments_other (method_type_in b.desc).parameters numbers); stack = tt },
          tt,
        ))
        p case.threads (entries_of p case.threads);
  }

  pub begin_came : (Took : ProgramEdge → Type 0) (case : Case) → WorldCame p no_init Took (begin_case p case)
  unfolding begin
  begin_came Took case =
      each_first (ThreadCame p no_init Took) (λ m c b h k. began refl) (λ m b numbers. (λ c d h k. began refl, tt)) p case.threads (entries_of p case.threads)

-- ---- what threads owe

module _ (p p' : Program) (sides : Entry → Side) where
  -- a thread that begins
  abbrev Begins : Thread → Type 0
  Begins (running f waiting) = (f.place ≡ 0) × (waiting ≡ [])
  Begins (stuck m q) = q ≡ 0
  Begins _ = ⊤

  thread_calm : (x x' : Thread) → SameThread p p' sides x x' → Begins x' → IsCalm p p' sides x'
  thread_calm (running f fs) (running f' fs') (inl h) b =
      let s = start_calm p p' sides f.method h.0.one.side h.0.item (ap (slice_get (sides f.method).items) (sym b.0) ∙ h.0.here) in
      calm_at p p' sides f f' f' fs' h.0.one refl h.0.item h.0.here s.0 s.1
  thread_calm (running f fs) (running f' fs') (inr i) b = absurd (none_there (sym b.1 ∙ i.waiting))
    where
      none_there : {g : Frame} {gs : List Frame} → [] ≡ g ∷ gs → ⊥
      none_there e = cc
  thread_calm (stuck m q) (stuck m' q') h b =
      let s = start_calm p p' sides m h.side h.item (ap (slice_get (sides m).items) (sym b) ∙ h.here) in
      (refl, ap (λ n. place_hit p' sides early_of n q') h.same ∙ ap (item_hit early_of m.class) h.here ∙ ap (option_map (hit_of m.class)) s.1)
  thread_calm x (returned v) h b = (refl, refl)
  thread_calm x (threw c) h b = (refl, refl)
  thread_calm x y h b = absurd h

  calm_there : (xs xs' : List Thread) → SameThreads p p' sides xs xs' → AllByRecursion Begins xs' → (t : ℕ) (x : Thread) → slice_get xs' t ≡ Some x
      → IsCalm p p' sides x
  calm_there [] [] h b t x e = absurd (none-some x e)
  calm_there [] (y' ∷ xs') h b t x e = absurd h
  calm_there (y ∷ xs) [] h b t x e = absurd h
  calm_there (y ∷ xs) (y' ∷ xs') h b zero x e = let same : y' ≡ x = cc in subst (IsCalm p p' sides) same (thread_calm y y' h.0 b.0)
  calm_there (y ∷ xs) (y' ∷ xs') h b (suc t) x e = calm_there xs xs' h.1 b.1 t x e

  begins : (case : Case) → AllByRecursion Begins (begin_case p' case).threads
  unfolding begin
  begins case = each_first Begins (λ m. refl) (λ m b numbers. (refl, refl)) p' case.threads (entries_of p' case.threads)

  unhit : (case : Case) → (begin_case p' case).hits ≡ []
  unfolding begin
  unhit case = refl

  pub begin_marked : (case : Case) → Beside p p' sides (begin_case p case) (begin_case p' case) → AreMarked p' sides [] (begin_case p' case)
  begin_marked case beside = record {
    hit = λ h c. absurd (none_in h (subst (λ l. Contains l h) (unhit case) c));
    taken = λ e h c k. absurd (none_in e c);
    due = λ h i. absurd (none-some h (sym (calm i.0 i.1 i.2).0 ∙ i.3));
    early = λ h i. absurd (none-some h (sym (calm i.0 i.1 i.2).1 ∙ i.3));
  }
    where
      calm : (t : ℕ) (x : Thread) → slice_get (begin_case p' case).threads t ≡ Some x → IsCalm p p' sides x
      calm t x e = calm_there (begin_case p case).threads (begin_case p' case).threads beside.threads (begins case) t x e
