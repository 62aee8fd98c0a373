-- The worlds in which a case begins.
use Rattle.std.proofs.Common.{◌≡◌, inl, inr, ℕ, zero, suc, ℤ, ◌+◌, Bool, true, false, not, ◌&&◌, List, [], ◌∷◌, ◌++◌, length, map, Option, Some, None, option_map, refl, sym, ap, ap₂, ◌∙◌, subst, subst₂, arith, length-append, if◌then◌else◌}
use Rattle.std.specs.Prelude.{slice_get, slice_index_or, option_and_then, position, bytes_eq}
use Rattle.std.specs.List.{sum_by}
use Rattle.std.proofs.lemmas.Bool.{and_parts}
use Rattle.std.proofs.lemmas.List.{length-map}
use Rattle.std.proofs.lemmas.List.Sums.{sum_by-cons}
use Rattle.std.proofs.lemmas.Option.{none-some, slice_get-map, get_or_from_slice_get}
use Rattle.jc_bytes.specs.Descriptor.{FieldType, Byte, Char, Double, Float, slots_of}
use Rattle.jc_bytes.proofs.OptionLaws.{map_some, then_some}
use Rattle.jc_bytes.proofs.TextEqualLaws.{same_bytes}
use Rattle.jc_bytes.proofs.ListLaws.{map_append}
use Rattle.jc_methods.specs.VerificationTypes.{Names}
use Rattle.jc_methods.specs.DescriptorTypes.{types_from, method_type_in}
use Rattle.jc_methods.specs.EntryState.{is_static}
use Rattle.jc_methods.specs.ProbeMembers.{init_name, fetch_of}
use Rattle.jc_methods.specs.declared.body.What.{What}
use Rattle.jc_methods.specs.declared.probe_members.Fetch.{Fetch}
use Rattle.jc_methods.specs.declared.probe_members.Fetch.TheVariants as fetches
use Rattle.jc_methods.specs.declared.body.Body.{Body}
use Rattle.jc_programs.specs.declared.program.Program.{Program}
use Rattle.jc_programs.specs.declared.program.Linked.{Linked}
use Rattle.jc_programs.specs.declared.run_plan.ThreadLine.{ThreadLine}
use Rattle.jc_programs.specs.declared.run_plan.Case.{Case}
use Rattle.jc_programs.specs.declared.run_end.Entry.{Entry}
use Rattle.jc_programs.specs.Members.{class_named, class_at}
use Rattle.jc_programs.specs.Entries.{is_argument, are_arguments, is_entry, entry_in, entry_of, AreEntries}
use Rattle.jc_plan.specs.Probed.{probe_count}
use Rattle.jc_emit.specs.Items.{Item, start, at_of}
use Rattle.jc_emit.specs.Local.{OkStart}
use Rattle.jc_emit.specs.Added.{giver_of, data_static}
use Rattle.jc_emit.specs.TwinBodies.{AreSameBodies, AreTwinBodies}
use Rattle.jc_twin_programs.specs.TwinProgram.{IsPair}
use Rattle.jc_machine_model.specs.Values.{Value, null}
use Rattle.jc_machine_model.specs.World.{running, stuck}
use Rattle.jc_machine_model.specs.Methods.{is_enterable}
use Rattle.jc_machine_model.specs.Calls.{spread_value, spread_values, locals_for}
use Rattle.jc_machine_model.specs.Step.{new_frame}
use Rattle.jc_machine_model.specs.Begin.{number_value, first_value, first_statics, argument_values, first_frame, thread_in, thread_for, first_thread, first_threads, first_shared, begin, entries_of, begin_case}
use Rattle.jc_twin_simulation.specs.Sides.{Side, count_in, way_of, IsSide, AreSides}
use Rattle.jc_twin_simulation.specs.Beside.{SameFrame, extra_in, SameStatics, SameShared, SameThread, SameThreads, Beside}
use Rattle.jc_twin_simulation.proofs.PlaceLaws.{place, position_place, place_there, place_before, place_last, place-map}
use Rattle.jc_twin_simulation.proofs.ClassLaws.{class_same, class_there, added_name, changed_statics, constant_statics, unchanged_data, changed_data, constant_data}
use Rattle.jc_twin_simulation.proofs.EnterLaws.{static_slots, enters_same}
use Rattle.jc_twin_simulation.proofs.MemberLaws.{enterable_same, entered_static}
use Rattle.jc_twin_simulation.proofs.SameLaws.{no_class}

-- ---- lists

read_there : {X Y : Type 0} (g : X → List Y) (xs : List X) (k : ℕ) (x : X) → slice_get xs k ≡ Some x → slice_index_or (map g xs) k [] ≡ g x
read_there g xs k x e = get_or_from_slice_get (map g xs) k (g x) [] (slice_get-map g xs k ∙ ap (option_map g) e)

read_past : {X Y : Type 0} (g : X → List Y) (xs : List X) (k : ℕ) → slice_get xs k ≡ None → slice_index_or (map g xs) k [] ≡ []
read_past g [] k e = refl
read_past g (x ∷ xs) zero e = absurd (none-some x (sym e))
read_past g (x ∷ xs) (suc k) e = read_past g xs k e

-- ---- static fields

data_first : first_value data_static ≡ null
unfolding types_from
data_first = refl

module _ (p p' : Program) (sides : Entry → Side) (are : AreSides p p' sides) where
  abbrev values : Linked → List Value
  values c = map first_value c.statics

  statics_by : (class : ℕ) (c new : Linked) → slice_get p'.classes class ≡ Some new → IsPair p.names p'.names c new
      → SameStatics (extra_in (class_at p' class)) class (values c) (values new)
  statics_by class c new there (inl pair) =
      subst (λ o. SameStatics o class (values c) (values new))
      (sym (ap extra_in there ∙ ap (λ b. if b then Some (count_in new.probes) else None) (unchanged_data p.names p'.names c new pair)))
      (ap (map first_value) pair.statics)
  statics_by class c new there (inr pair) = by (fetch_of c.version) refl
    where
      by : (fetch : Fetch) → fetch_of c.version ≡ fetch → SameStatics (extra_in (class_at p' class)) class (values c) (values new)
      by fetches.Constant way =
          subst (λ o. SameStatics o class (values c) (values new))
          (sym (ap extra_in there ∙ ap (λ b. if b then Some (count_in new.probes) else None) (constant_data p.names p'.names c new pair way)))
          (ap (map first_value) (constant_statics p.names p'.names c new pair way))
      by fetches.Member way =
          subst (λ o. SameStatics o class (values c) (values new))
          (sym (ap extra_in there ∙ ap (λ b. if b then Some (count_in new.probes) else None) (changed_data p.names p'.names c new pair way))) (
            false,
            ap (map first_value) (changed_statics p.names p'.names c new pair way) ∙ map_append first_value c.statics data_static
                ∙ ap (λ v. map first_value c.statics ++ v ∷ []) data_first,
          )

  statics_at : (class : ℕ) (o : Option Linked) → slice_get p.classes class ≡ o
      → SameStatics (extra_in (class_at p' class)) class (slice_index_or (first_statics p) class []) (slice_index_or (first_statics p') class [])
  statics_at class None e =
      let none = no_class p p' sides are class e in
      subst (λ o. SameStatics o class (slice_index_or (first_statics p) class []) (slice_index_or (first_statics p') class [])) (sym (ap extra_in none))
      (read_past values p'.classes class none ∙ sym (read_past values p.classes class e))
  statics_at class (Some c) e =
      let n = are.pair class c e in
      subst₂ (λ a b. SameStatics (extra_in (class_at p' class)) class a b) (sym (read_there values p.classes class c e))
      (sym (read_there values p'.classes class n.0 n.1)) (statics_by class c n.0 n.1 n.2)

  pub begin_shared : SameShared p p' sides (first_shared p) (first_shared p')
  begin_shared = record {
    heap = refl;
    output = refl;
    raised = refl;
    statics = λ class. statics_at class (slice_get p.classes class) refl;
    counts = λ class c e. ap length (read_there values p.classes class c e) ∙ length-map c.statics first_value;
  }

-- ---- arguments

argument_slots : (type : FieldType) (n : ℤ) → is_argument type n ≡ true → length (spread_value (number_value type n)) ≡ slots_of type
argument_slots Byte n e = refl
argument_slots Char n e = refl
argument_slots Double n e = cc
argument_slots Float n e = cc
argument_slots other n e = refl

arguments_slots : (types : List FieldType) (numbers : List ℤ) → are_arguments types numbers ≡ true
    → length (spread_values (argument_values types numbers)) ≡ sum_by slots_of types
arguments_slots [] [] e = refl
arguments_slots [] (n ∷ numbers) e = cc
arguments_slots (type ∷ types) [] e = cc
arguments_slots (type ∷ types) (n ∷ numbers) e =
    let h = and_parts _ _ e in
    let one = argument_slots type n h.0 in
    let rest = arguments_slots types numbers h.1 in
    let both = length-append (spread_value (number_value type n)) (spread_values (argument_values types numbers)) in
    let sum = sum_by-cons slots_of type types in
    omega (arith, one, rest, both, sum)

-- ---- entries

entry_fits : (thread : ThreadLine) (b : Body) → is_entry thread b ≡ true → are_arguments (method_type_in b.desc).parameters thread.args ≡ true
entry_fits thread b e =
    last_of (is_static b.flags) (bytes_eq b.name thread.method) (not (bytes_eq b.name init_name))
    (are_arguments (method_type_in b.desc).parameters thread.args) e
  where
    last_of : (w x y z : Bool) → (w && (x && (y && z))) ≡ true → z ≡ true
    last_of w x y z h = (and_parts y z (and_parts x (y && z) (and_parts w (x && (y && z)) h).1).1).1

-- the method of an entry
pub record IsThere (p : Program) (thread : ThreadLine) (entry : Entry) : Type 0 where
  pub class : Linked
  pub class_is : slice_get p.classes entry.class ≡ Some class
  pub body : Body
  pub body_is : slice_get class.bodies entry.method ≡ Some body
  pub fits : is_entry thread body ≡ true

pub entry_there : (p : Program) (thread : ThreadLine) (entry : Entry) → entry_of p thread ≡ Some entry → IsThere p thread entry
unfolding entry_of
entry_there p thread entry e =
    let k = then_some (λ (class : ℕ). option_and_then (entry_in thread class) (class_at p class)) (class_named p thread.class) entry e in
    let c = then_some (entry_in thread k.0) (class_at p k.0) entry k.2 in
    let j = map_some (λ (i : ℕ). record { class = k.0; method = i }) (position (is_entry thread) c.0.bodies) entry c.2 in
    let b = place_there (is_entry thread) c.0.bodies j.0 (sym (position_place (is_entry thread) c.0.bodies) ∙ j.1) in
    record {
      class = c.0;
      class_is = ap (λ (x : Entry). slice_get p.classes x.class) (sym j.2) ∙ c.1;
      body = b.0;
      body_is = ap (λ (x : Entry). slice_get c.0.bodies x.method) (sym j.2) ∙ b.1;
      fits = b.2;
    }

-- ---- entries of the twin

module _ (names new_names : Names) (thread : ThreadLine) where
  entry_same : (b b' : Body) → b'.flags ≡ b.flags → b'.name ≡ b.name → b'.desc ≡ b.desc → is_entry thread b' ≡ is_entry thread b
  entry_same b b' flags name desc =
      ap (λ x. is_static x && (bytes_eq b'.name thread.method
      && (not (bytes_eq b'.name init_name) && are_arguments (method_type_in b'.desc).parameters thread.args))) flags
      ∙ ap (λ x. is_static b.flags && (bytes_eq x thread.method
      && (not (bytes_eq x init_name) && are_arguments (method_type_in b'.desc).parameters thread.args))) name
      ∙ ap (λ x. is_static b.flags && (bytes_eq b.name thread.method
      && (not (bytes_eq b.name init_name) && are_arguments (method_type_in x).parameters thread.args))) desc

  same_entries : (bodies others : List Body) → AreSameBodies names new_names bodies others → map (is_entry thread) others ≡ map (is_entry thread) bodies
  same_entries [] [] are = refl
  same_entries [] (o ∷ others) are = absurd are
  same_entries (b ∷ bodies) [] are = absurd are
  same_entries (b ∷ bodies) (o ∷ others) are =
      let is = are.0.others in
      ap₂ (λ x l. x ∷ l) (entry_same b o (ap (λ (x : Body). x.flags) is) (ap (λ (x : Body). x.name) is) (ap (λ (x : Body). x.desc) is))
      (same_entries bodies others are.1)

  twin_entries : (fetch : Fetch) (giver : What) (first : ℕ) (bodies others : List Body) (added : Body)
      → AreTwinBodies names new_names fetch giver first bodies others added
      → map (is_entry thread) others ≡ map (is_entry thread) bodies ++ is_entry thread added ∷ []
  twin_entries fetch giver first [] others added are = ap (map (is_entry thread)) are
  twin_entries fetch giver first (b ∷ bodies) [] added are = absurd are
  twin_entries fetch giver first (b ∷ bodies) (o ∷ others) added are =
      let same = are.0.twin.method in
      ap₂ (λ x l. x ∷ l) (entry_same b o same.flags same.name same.desc) (twin_entries fetch giver (first + probe_count b) bodies others added are.1)

  -- the added method is no entry
  no_entry : (b : Body) → b.name ≡ init_name → is_entry thread b ≡ false
  no_entry b e =
      ap (λ x. is_static b.flags && (bytes_eq b.name thread.method && (not x && are_arguments (method_type_in b.desc).parameters thread.args)))
      (same_bytes b.name init_name e)
      ∙ both (is_static b.flags) (bytes_eq b.name thread.method)
    where
      both : (x y : Bool) → (x && (y && false)) ≡ false
      both true true = refl
      both true false = refl
      both false y = refl

  place_entry : (bodies : List Body) → position (is_entry thread) bodies ≡ place (λ x. x) (map (is_entry thread) bodies)
  place_entry bodies = position_place (is_entry thread) bodies ∙ place-map (is_entry thread) (λ x. x) bodies

  none_last : (xs : List Bool) (o : Option ℕ) → place (λ x. x) xs ≡ o → place (λ x. x) (xs ++ false ∷ []) ≡ o
  none_last xs None e = place_last (λ x. x) xs false e
  none_last xs (Some k) e = place_before (λ x. x) xs (false ∷ []) k e

  position_same : (c new : Linked) → IsPair names new_names c new → position (is_entry thread) new.bodies ≡ position (is_entry thread) c.bodies
  position_same c new (inl pair) = place_entry new.bodies ∙ ap (place (λ x. x)) (same_entries c.bodies new.bodies pair.bodies) ∙ sym (place_entry c.bodies)
  position_same c new (inr pair) =
      place_entry new.bodies ∙ ap (place (λ x. x)) (twin_entries (fetch_of c.version) (giver_of (fetch_of c.version) c.name pair.bootstrap) 0 c.bodies new.bodies pair.added pair.bodies)
      ∙ ap (λ b. place (λ x. x) (map (is_entry thread) c.bodies ++ b ∷ [])) (no_entry pair.added (added_name names new_names c new pair))
      ∙ none_last (map (is_entry thread) c.bodies) (place (λ x. x) (map (is_entry thread) c.bodies)) refl
      ∙ sym (place_entry c.bodies)

module _ (p p' : Program) (sides : Entry → Side) (are : AreSides p p' sides) where
  pub entry_alike : (thread : ThreadLine) → entry_of p' thread ≡ entry_of p thread
  unfolding entry_of
  entry_alike thread =
      ap (option_and_then (λ (class : ℕ). option_and_then (entry_in thread class) (class_at p' class))) (class_same p p' are.names thread.class)
      ∙ by (class_named p thread.class) refl
    where
      by : (o : Option ℕ) → class_named p thread.class ≡ o
          → option_and_then (λ (class : ℕ). option_and_then (entry_in thread class) (class_at p' class)) o
          ≡ option_and_then (λ (class : ℕ). option_and_then (entry_in thread class) (class_at p class)) o
      by None e = refl
      by (Some k) e =
          let c = class_there p thread.class k e in
          let n = are.pair k c.0 c.1 in
          ap (option_and_then (entry_in thread k)) n.1
          ∙ ap (option_map (λ (j : ℕ). record { class = k; method = j })) (position_same p.names p'.names thread c.0 n.0 n.2)
          ∙ sym (ap (option_and_then (entry_in thread k)) c.1)

  -- ---- the threads

  -- where a method begins
  starts : (m : Entry) → IsSide p p' m (sides m) → (x : Item) × (slice_get (sides m).items 0 ≡ Some x) × (at_of x ≡ 0)
  starts m side = by (sides m).slot refl
    where
      by : (o : Option ℕ) → (sides m).slot ≡ o → (x : Item) × (slice_get (sides m).items 0 ≡ Some x) × (at_of x ≡ 0)
      by None e = let s = (subst (OkStart (sides m).body.code (sides m).slot (sides m).ids (sides m).items) e side.ok.start).stands in (s.item, s.here, s.at_is)
      by (Some v) e = (start (way_of (sides m)) 0, (side.changed v e).gets.starts, refl)

  thread_same : (thread : ThreadLine) (entry : Entry) → IsThere p thread entry
      → SameThread p p' sides (first_thread p entry thread.args) (first_thread p' entry thread.args)
  thread_same thread entry there =
      subst₂ (SameThread p p' sides)
      (sym (ap (thread_for entry thread.args) side.class_is
      ∙ ap (λ o. elim o [ None ↦ stuck entry 0 | Some b ↦ thread_in entry thread.args t.class b ]) side.body_is))
      (sym (ap (thread_for entry thread.args) side.new_is
      ∙ ap (λ o. elim o [ None ↦ stuck entry 0 | Some b ↦ thread_in entry thread.args t.new b ]) side.twin_is))
      (subst (λ b. SameThread p p' sides (thread_in entry thread.args t.class t.body)
      (if b then running (first_frame entry t.twin thread.args) [] else stuck entry 0)) (sym (enterable_same p p' entry t side))
      (by (is_enterable t.class t.body) refl))
    where
      side : IsSide p p' entry (sides entry)
      side = are.side entry there.class there.body there.class_is there.body_is

      t : Side
      t = sides entry

      same_body : (a b : Body) → Some a ≡ Some b → a ≡ b
      same_body a b e = cc

      same_class : (a b : Linked) → Some a ≡ Some b → a ≡ b
      same_class a b e = cc

      body_is : there.body ≡ t.body
      body_is =
          let class = same_class there.class t.class (sym there.class_is ∙ side.class_is) in
          same_body there.body t.body (sym there.body_is ∙ ap (λ (c : Linked). slice_get c.bodies entry.method) class ∙ side.body_is)

      fits : is_entry thread t.body ≡ true
      fits = ap (is_entry thread) (sym body_is) ∙ there.fits

      short : is_static t.body.flags ≡ true → length (spread_values (argument_values (method_type_in t.body.desc).parameters thread.args)) ≡ t.body.arg_slots
      short static =
          arguments_slots (method_type_in t.body.desc).parameters thread.args (entry_fits thread t.body fits)
          ∙ sym (static_slots t.body.flags t.body.arg_slots t.body.desc side.well.arguments static)

      by : (b : Bool) → is_enterable t.class t.body ≡ b
          → SameThread p p' sides (if b then running (first_frame entry t.body thread.args) [] else stuck entry 0)
          (if b then running (first_frame entry t.twin thread.args) [] else stuck entry 0)
      by true e =
          let needs = entered_static t.class t.body e in
          inl (
            subst (λ d. SameFrame p p' sides (first_frame entry t.body thread.args)
                (new_frame entry (locals_for t.twin.max_locals (argument_values (method_type_in d).parameters thread.args)))) (sym side.same.desc)
                (enters_same p p' sides entry side needs.1 (argument_values (method_type_in t.body.desc).parameters thread.args) (short needs.0)),
            tt,
          )
      by false e = let x = starts entry side in record { same = refl; side = side; item = x.0; here = x.1; at = x.2 }

  threads_same : (threads : List ThreadLine) (entries : List Entry) → AreEntries p threads entries
      → SameThreads p p' sides (first_threads p threads entries) (first_threads p' threads entries)
  threads_same [] [] h = tt
  threads_same [] (e ∷ entries) h = absurd h
  threads_same (t ∷ threads) [] h = absurd h
  threads_same (t ∷ threads) (e ∷ entries) h = (thread_same t e (entry_there p t e h.0), threads_same threads entries h.1)

  pub begin_beside : (threads : List ThreadLine) (entries : List Entry) → AreEntries p threads entries
      → Beside p p' sides (begin p threads entries) (begin p' threads entries)
  unfolding begin
  begin_beside threads entries h = record { shared = begin_shared p p' sides are; threads = threads_same threads entries h }

  -- ---- a case

  entries_are : (threads : List ThreadLine) (entries : List Entry) → AreEntries p threads entries → entries_of p threads ≡ entries
  entries_are [] [] h = refl
  entries_are [] (e ∷ entries) h = absurd h
  entries_are (t ∷ threads) [] h = absurd h
  entries_are (t ∷ threads) (e ∷ entries) h =
      ap (λ o. elim o [ None ↦ entries_of p threads | Some x ↦ x ∷ entries_of p threads ]) h.0 ∙ ap (λ l. e ∷ l) (entries_are threads entries h.1)

  new_entries : (threads : List ThreadLine) (entries : List Entry) → AreEntries p threads entries → entries_of p' threads ≡ entries
  new_entries [] [] h = refl
  new_entries [] (e ∷ entries) h = absurd h
  new_entries (t ∷ threads) [] h = absurd h
  new_entries (t ∷ threads) (e ∷ entries) h =
      ap (λ o. elim o [ None ↦ entries_of p' threads | Some x ↦ x ∷ entries_of p' threads ]) (entry_alike t ∙ h.0)
      ∙ ap (λ l. e ∷ l) (new_entries threads entries h.1)

  pub case_beside : (case : Case) (entries : List Entry) → AreEntries p case.threads entries → Beside p p' sides (begin_case p case) (begin_case p' case)
  case_beside case entries h =
      subst₂ (λ a b. Beside p p' sides (begin p case.threads a) (begin p' case.threads b)) (sym (entries_are case.threads entries h))
      (sym (new_entries case.threads entries h)) (begin_beside case.threads entries h)
