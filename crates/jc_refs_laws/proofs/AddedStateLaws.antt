-- The states before the instructions of the added method at which references are needed.
use Rattle.std.proofs.Common.{◌≡◌, inl, inr, ℕ, ℤ, suc, List, [], ◌∷◌, map, Some, None, refl, ◌∙◌, ap, subst, nat_eq, if◌then◌else◌}
use Rattle.std.specs.Prelude.{slice_get, codes}
use Rattle.std.proofs.lemmas.Bool.{lt-leb}
use Rattle.jc_methods.specs.DescriptorTypes.{types_from, rest_from}
use Rattle.jc_methods.specs.EntryState.{in_locals, arguments, entry_of, entry_seen}
use Rattle.jc_methods.specs.Flow.{FallsThrough}
use Rattle.jc_methods.specs.Opcode as opcode
use Rattle.jc_methods.specs.ProbeMembers.{data_name, data_type, init_name, init_type, init_flags, runtime_class, fetch_name, fetch_type, bootstrap_type, most_short}
use Rattle.jc_methods.specs.VerificationTypes.{Names, VerificationType, int, long, object, type_state, type_state_at}
use Rattle.jc_methods.specs.declared.body.Body.{Body}
use Rattle.jc_methods.specs.declared.body.What.TheVariants as whats
use Rattle.jc_methods.specs.declared.insn.Insn.{Insn}
use Rattle.jc_methods.specs.declared.insn.Insn.TheVariants as insns
use Rattle.jc_kinds_after.specs.After.{insn_at, new_class, ground_of, returns_of, member_step, constant_step, step_of}
use Rattle.jc_kinds_after.specs.Step.{Step, apply}
use Rattle.jc_kinds_after.specs.Table.{table, forms_at}
use Rattle.jc_kinds_after.proofs.ApplyLaws.{after_is}
use Rattle.jc_kinds.specs.States.{frames_of, frame_at, state_of}
use Rattle.jc_emit.specs.Added.{InitPlaces, push_count, init_code, bootstrap_code, init_stack, end_place, init_frame, HasCount, NamesCount, IsPlainMethod, IsInitBody, IsBootstrapBody}
use Rattle.jc_emit.proofs.PlacedLaws.{flow_push_by}
use Rattle.jc_emit.proofs.TwinStatesLaws.{PushesInt, push_by_is, first_state, frame_state_is, next_state}

abbrev pub array : VerificationType
array = object data_type

abbrev pub string : VerificationType
string = object (codes "java/lang/String")

-- ---- a method in which these local variables stay

module _ (names : Names) (class desc : List ℕ) (arg_slots max_locals : ℕ) (code : List Insn) (b : Body)
    (m : IsPlainMethod class desc arg_slots max_locals code b) (held : List VerificationType) where
  abbrev pub IsState : ℕ → List VerificationType → Type 0
  IsState q stack = state_of names b q ≡ Some (record { locals = held; stack = stack })

  abbrev IsFree : ℕ → Type 0
  IsFree q = frame_at (frames_of names b) q ≡ None

  abbrev Stands : ℕ → Insn → Type 0
  Stands q insn = slice_get code q ≡ Some insn

  abbrev Goes : ℕ → Step → (old new : List VerificationType) → Type 0
  Goes q st old new =
      apply (record { most = init_stack; place = q; owner = b.owner; class_at = λ k. new_class b.uses (insn_at b k) }) st
      (record { locals = held; stack = old })
      ≡ Some (record { locals = held; stack = new })

  -- behind an instruction that goes on
  goes_on : (q : ℕ) (insn : Insn) (st : Step) (old new : List VerificationType) → Stands q insn → FallsThrough insn → IsFree (suc q)
      → step_of b.uses (returns_of b) insn ≡ st → Goes q st old new → IsState q old → IsState (suc q) new
  goes_on q insn st old new here falls free is goes before =
      let stands : insn_at b q ≡ Some insn = ap (λ (l : List Insn). slice_get l q) m.code_is ∙ here in
      next_state names b q insn _ _ free stands falls before
      (after_is b q _ insn stands
      ∙ ap (λ x. apply (ground_of b q) x (record { locals = held; stack = old })) is
      ∙ ap (λ most. apply (record { most = most; place = q; owner = b.owner; class_at = λ k. new_class b.uses (insn_at b k) }) st
      (record { locals = held; stack = old })) m.max_stack
      ∙ goes)

  -- ---- the array is fetched

  module _ (id : ℤ) (count : ℕ) (places : InitPlaces) (n : NamesCount class id count b.uses places) (q : ℕ) where
    abbrev asked : List VerificationType
    asked = long ∷ string ∷ int ∷ []

    -- the id, the name and the number of probes are pushed
    pub all_pushed : Stands q (insns.Constant2 places.id) → Stands (suc q) (insns.Constant places.name) → Stands (suc (suc q)) (push_count places count)
        → IsFree (suc q) → IsFree (suc (suc q)) → IsFree (suc (suc (suc q))) → IsState q [] → IsState (suc (suc (suc q))) asked
    all_pushed id_here name_here count_here one two three before =
        goes_on (suc (suc q)) (push_count places count) _ (long ∷ string ∷ []) asked count_here (inl (flow_push_by (λ k. places.count) count)) three
        (pushed (returns_of b)) refl
        (goes_on (suc q) (insns.Constant places.name) (constant_step (Some whats.Text)) (long ∷ []) (long ∷ string ∷ []) name_here (inl refl) two
        (ap constant_step n.name_is) refl
        (goes_on q (insns.Constant2 places.id) (constant_step (Some (whats.Long id))) [] (long ∷ []) id_here (inl refl) one
        (ap constant_step n.id_is) refl before))
      where
        pushed : PushesInt b.uses (push_count places count)
        pushed =
            push_by_is (λ k. places.count) count b.uses (λ more. subst (λ t. HasCount t b.uses count places.count) (lt-leb count most_short more) n.count_is)

    pub array_fetched : Stands q (insns.Member opcode.invokestatic places.fetch) → IsFree (suc q) → IsState q asked → IsState (suc q) (array ∷ [])
    unfolding types_from rest_from
    array_fetched here free before =
        goes_on q (insns.Member opcode.invokestatic places.fetch)
        (member_step opcode.invokestatic (Some (whats.Method runtime_class fetch_name fetch_type))) asked (array ∷ []) here (inl refl) free
        (ap (member_step opcode.invokestatic) n.fetch_is) refl before

-- ---- the method that keeps the array in a field

module _ (names : Names) (class : List ℕ) (id : ℤ) (count : ℕ) (b : Body) (i : IsInitBody names class id count b) where
  abbrev Before : ℕ → List VerificationType → Type 0
  Before = IsState names class init_type 0 0 (init_code i.places count) b i.method []

  -- there is one frame
  framed : (q : ℕ) → frame_at (frames_of names b) q ≡ (if nat_eq end_place q then Some init_frame else None)
  framed q =
      let f = i.frames in
      ap (λ l. frame_at (map (type_state_at names) l) q) f.single
      ∙ ap (λ k. if nat_eq k q then Some (type_state names f.frame.state) else None) f.at
      ∙ ap (λ s. if nat_eq end_place q then Some s else None) f.state

  goes : (q : ℕ) (insn : Insn) (st : Step) (old new : List VerificationType) → slice_get (init_code i.places count) q ≡ Some insn → FallsThrough insn
      → frame_at (frames_of names b) (suc q) ≡ None → step_of b.uses (returns_of b) insn ≡ st
      → Goes names class init_type 0 0 (init_code i.places count) b i.method [] q st old new → Before q old → Before (suc q) new
  goes = goes_on names class init_type 0 0 (init_code i.places count) b i.method []

  entry_is : entry_of b ≡ record { locals = []; stack = [] }
  unfolding types_from rest_from
  entry_is = λ k. entry_seen (i.method.owner k) (i.method.name k) (i.method.desc_is k) (i.method.flags k) (i.method.max_locals_is k)

  begins : Before 0 []
  begins = first_state names b (framed 0) ∙ ap Some entry_is

  read : Before 1 (array ∷ [])
  unfolding types_from rest_from
  read =
      goes 0 _ (member_step opcode.getstatic (Some (whats.Field class data_name data_type))) [] (array ∷ []) refl (inl refl) (framed 1)
      (ap (member_step opcode.getstatic) i.field_is) refl begins

  cleared : Before 4 []
  unfolding forms_at table
  cleared =
      goes 3 (insns.Simple opcode.pop) _ (array ∷ []) [] refl (inl refl) (framed 4) refl refl
      (goes 2 (insns.Jump opcode.ifnonnull end_place) _ (array ∷ array ∷ []) (array ∷ []) refl (inr refl) (framed 3) refl refl
      (goes 1 (insns.Simple opcode.dup) _ (array ∷ []) (array ∷ array ∷ []) refl (inl refl) (framed 2) refl refl read))

  -- before the call
  pub init_asks : Before 7 (long ∷ string ∷ int ∷ [])
  init_asks =
      all_pushed names class init_type 0 0 (init_code i.places count) b i.method [] id count i.places i.names_count 4 refl refl refl
      (framed 5) (framed 6) (framed 7) cleared

  -- before the field is written
  pub init_writes : Before 9 (array ∷ array ∷ [])
  unfolding forms_at table
  init_writes =
      goes 8 (insns.Simple opcode.dup) _ (array ∷ []) (array ∷ array ∷ []) refl (inl refl) (framed 9) refl refl
      (array_fetched names class init_type 0 0 (init_code i.places count) b i.method [] id count i.places i.names_count 7 refl (framed 8) init_asks)

  -- before the return
  pub init_returns : Before 10 (array ∷ [])
  init_returns = frame_state_is names b 10 init_frame (framed 10)

-- ---- the bootstrap method

module _ (names : Names) (class : List ℕ) (id : ℤ) (count : ℕ) (b : Body) (i : IsBootstrapBody class id count b) where
  -- its arguments stay in its local variables
  abbrev given : List VerificationType
  given = in_locals 3 (arguments class init_name bootstrap_type init_flags)

  abbrev BeforeIt : ℕ → List VerificationType → Type 0
  BeforeIt = IsState names class bootstrap_type 3 3 (bootstrap_code i.places count) b i.method given

  no_frame : (q : ℕ) → frame_at (frames_of names b) q ≡ None
  no_frame q = ap (λ l. frame_at (map (type_state_at names) l) q) i.frames

  given_first : entry_of b ≡ record { locals = given; stack = [] }
  given_first = λ k. entry_seen (i.method.owner k) (i.method.name k) (i.method.desc_is k) (i.method.flags k) (i.method.max_locals_is k)

  begins_given : BeforeIt 0 []
  begins_given = first_state names b (no_frame 0) ∙ ap Some given_first

  pub bootstrap_asks : BeforeIt 3 (long ∷ string ∷ int ∷ [])
  bootstrap_asks =
      all_pushed names class bootstrap_type 3 3 (bootstrap_code i.places count) b i.method given id count i.places i.names_count 0 refl refl refl
      (no_frame 1) (no_frame 2) (no_frame 3) begins_given

  pub bootstrap_returns : BeforeIt 4 (array ∷ [])
  bootstrap_returns =
      array_fetched names class bootstrap_type 3 3 (bootstrap_code i.places count) b i.method given id count i.places i.names_count 3 refl
      (no_frame 4) bootstrap_asks
