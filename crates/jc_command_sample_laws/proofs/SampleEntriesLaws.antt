-- Each thread of the run plan of a sample has a method to begin with.
use Rattle.std.proofs.Common.{◌≡◌, ◌⊎◌, inl, inr, ℕ, zero, suc, ◌+◌, ◌<◌, ◌≤◌, Bool, true, false, ◌&&◌, not, cond, nat_le, List, [], ◌∷◌, length, map, Option, Some, None, is_some, option_map, refl, sym, ◌∙◌, ap, subst, arith}
use Rattle.std.specs.Prelude.{slice_get, option_and_then, bytes_eq}
use Rattle.std.specs.List.{find, flat_map, position, position_or_len, prefix_len, range_with_len}
use Rattle.std.proofs.lemmas.Bool.{lt-ltb, le-leb}
use Rattle.std.proofs.lemmas.Option.{same_Some}
use Rattle.std.proofs.lemmas.Slice.Eq.{bytes_eq-Decides}
use Rattle.jc_methods.specs.DescriptorTypes.{types_from, rest_from}
use Rattle.jc_programs.specs.Entries.{is_entry, entry_in, entry_of}
use Rattle.jc_programs.specs.Members.{class_named, class_at}
use Rattle.jc_programs.specs.declared.program.Linked.{Linked}
use Rattle.jc_programs.specs.declared.program.Program.{Program}
use Rattle.jc_programs.specs.declared.run_end.Entry.{Entry}
use Rattle.jc_programs.specs.declared.run_plan.Case.{Case}
use Rattle.jc_class.specs.declared.class_file.ClassFile.{ClassFile}
use Rattle.jc_class.proofs.FirstBadLaws.{one_class_of}
use Rattle.jc_pool.specs.Lookup.{class_name_of}
use Rattle.jc_body.specs.BodyOf.{Bodiless}
use Rattle.jc_body.proofs.AnswerLaws.{bodiless_or_body}
use Rattle.jc_instrument.specs.Bodies.{AreBodies, IsListed}
use Rattle.jc_link_programs.specs.Linking.{AreLinkedClasses, IsLinkedClass, IsProgramOf}
use Rattle.jc_command_run.specs.RunStore.{lacks_entry, first_without, threads_of}
use Rattle.jc_command_sample.specs.SamplePlan.{sample_thread, sample_case, case_count, sample_plan}
use Rattle.jc_command_sample_laws.specs.SampleClass.{sample_method, sample_class_file}
use Rattle.jc_command_sample.specs.SampleFile.{sample_class, method_name, sample_file}
use Rattle.jc_command_sample_laws.proofs.SampleTextLaws.{sample_named, sample_is_text}
use Rattle.jc_command_sample_laws.proofs.SampleBodyLaws.{sample_body, is_body}
use Rattle.jc_command_sample_laws.proofs.SampleExactLaws.{exact}
use Rattle.std.proofs.lemmas.List.FromFn.{length-map-range_with_len}

-- ---- a place in a list

-- an item that fails ends the front
front_ends : {X : Type 0} (test : X → Bool) (xs : List X) (i : ℕ) (x : X) → slice_get xs i ≡ Some x → test x ≡ false → prefix_len test xs < length xs
front_ends test [] i x at fails = cc
front_ends test (y ∷ xs) zero x at fails = by (test y) (ap test (same_Some y x at) ∙ fails)
  where
    by : (t : Bool) → t ≡ false → cond t (1 + prefix_len test xs) 0 < length (y ∷ xs)
    by true e = cc
    by false e = omega arith
front_ends test (y ∷ xs) (suc i) x at fails = by (test y) (front_ends test xs i x at fails)
  where
    by : (t : Bool) → prefix_len test xs < length xs → cond t (1 + prefix_len test xs) 0 < length (y ∷ xs)
    by true rest = omega (arith, rest)
    by false rest = omega arith

-- an item that passes has a place
has_place : {X : Type 0} (test : X → Bool) (xs : List X) (i : ℕ) (x : X) → slice_get xs i ≡ Some x → test x ≡ true → position test xs ≡ Some (position_or_len test xs)
has_place test xs i x at passes =
    let less = front_ends (λ y. not (test y)) xs i x at (ap not passes) in
    ap (λ (t : Bool). cond t (Some (position_or_len test xs)) None) (lt-ltb (position_or_len test xs) (length xs) less)

none_found : {X : Type 0} (test : X → Bool) (xs : List X) → ((i : ℕ) (x : X) → slice_get xs i ≡ Some x → test x ≡ false) → find test xs ≡ None
none_found test [] each = refl
none_found test (x ∷ xs) each = ap (λ (t : Bool). cond t (Some x) (find test xs)) (each 0 x refl) ∙ none_found test xs (λ i y at. each (suc i) y at)

-- ---- the method of a thread

module _ (n : ℕ) (some : 1 ≤ n) (within : n ≤ 1000) where
  begins_with : (k : ℕ) → is_entry (sample_thread n k) (sample_body k) ≡ true
  unfolding types_from rest_from
  begins_with k =
      (λ i. (bytes_eq-Decides (method_name k) (method_name k)).1 refl i && (true && (nat_le n 2147483647 && true)))
      ∙ ap (λ (t : Bool). t && true) (le-leb n 2147483647 (omega (arith, within)))

  module _ (p : Program) (l : Linked) (only : p.classes ≡ l ∷ []) (is : IsLinkedClass p.names (sample_file n) l) where
    file_is : is.file ≡ sample_class_file n
    file_is = one_class_of (sample_file n) is.file (sample_class_file n) is.text (sample_is_text n some within)

    name_is : sample_class ≡ l.name
    name_is = same_Some sample_class l.name (sym (sample_named n) ∙ ap (λ (c : ClassFile). class_name_of c.pool c.this_class) (sym file_is) ∙ is.is.name)

    bodies : AreBodies p.names (sample_class_file n) l.bodies
    bodies = subst (λ (c : ClassFile). AreBodies p.names c l.bodies) file_is is.is.bodies.are

    -- the class is the first, and the only one
    class_is : class_named p sample_class ≡ Some 0
    class_is =
        ap (position (λ (c : Linked). bytes_eq c.name sample_class)) only
        ∙ has_place (λ (c : Linked). bytes_eq c.name sample_class) (l ∷ []) 0 l refl ((bytes_eq-Decides l.name sample_class).1 (sym name_is))
        ∙ ap Some place
      where
        place : position_or_len (λ (c : Linked). bytes_eq c.name sample_class) (l ∷ []) ≡ 0
        place = ap (λ (t : Bool). cond (not t) 1 0) ((bytes_eq-Decides l.name sample_class).1 (sym name_is))

    class_there : class_at p 0 ≡ Some l
    class_there = ap (λ (classes : List Linked). slice_get classes 0) only

    listed : (k : ℕ) → k < n → IsListed l.bodies k
    listed k less = by (bodies.all k (let count = length-map-range_with_len sample_method 0 n in omega (arith, less, count)))
      where
        by : Bodiless (sample_class_file n) k ⊎ IsListed l.bodies k → IsListed l.bodies k
        by (inl none) = absurd (bodiless_or_body [] (sample_class_file n) k (sample_body k) none (is_body [] n k within less))
        by (inr found) = found

    entry_is : (k : ℕ) → k < n → (e : Entry) × (entry_of p (sample_thread n k) ≡ Some e)
    unfolding entry_of
    entry_is k less =
        let found = listed k less in
        let body = exact n within p.names found.body.method found.body (bodies.each found.index found.body found.stands) in
        let passes : is_entry (sample_thread n k) found.body ≡ true = ap (is_entry (sample_thread n k)) (body ∙ ap sample_body found.number_is) ∙ begins_with k in
        let at = position_or_len (is_entry (sample_thread n k)) l.bodies in
        let place = has_place (is_entry (sample_thread n k)) l.bodies found.index found.body found.stands passes in (
          record { class = 0; method = at },
          ap (option_and_then (λ (class : ℕ). option_and_then (entry_in (sample_thread n k) class) (class_at p class))) class_is
              ∙ ap (option_and_then (entry_in (sample_thread n k) 0)) class_there
              ∙ ap (option_map (λ (m : ℕ). (let e : Entry = record { class = 0; method = m } in e))) place,
        )

    lacks_none : (k : ℕ) → k < n → lacks_entry p (sample_thread n k) ≡ false
    lacks_none k less = ap (λ (o : Option Entry). not (is_some o)) (entry_is k less).1

    -- the threads of the cases from this number on
    threads_begin : (a m : ℕ) → a + m ≤ n → first_without p (flat_map (λ (c : Case). c.threads) (map (sample_case n) (range_with_len a m))) ≡ None
    threads_begin a zero room = refl
    threads_begin a (suc m) room =
        ap (λ (t : Bool). cond t (Some (sample_thread n a)) (first_without p (flat_map (λ (c : Case). c.threads) (map (sample_case n) (range_with_len (a + 1) m)))))
        (lacks_none a (omega (arith, room)))
        ∙ threads_begin (a + 1) m (omega (arith, room))

    all_begin : first_without p (threads_of (sample_plan n)) ≡ None
    unfolding sample_plan
    all_begin = threads_begin 0 (case_count n) (omega arith)

  pub entries : (p : Program) → IsProgramOf (sample_file n ∷ []) p → first_without p (threads_of (sample_plan n)) ≡ None
  entries p is = by p.classes refl is.classes
    where
      by : (classes : List Linked) → p.classes ≡ classes → AreLinkedClasses p.names (sample_file n ∷ []) classes → first_without p (threads_of (sample_plan n)) ≡ None
      by [] only are = absurd are
      by (l ∷ []) only are = all_begin p l only are.0
      by (l ∷ m ∷ ls) only are = absurd are.1
