-- New objects and constructors, by what is verification_type.
use Rattle.std.proofs.Common.{◌≡◌, ℕ, Bool, true, false, ◌||◌, List, [], ◌∷◌, ◌++◌, map, Option, Some, None, option_map, if◌then◌else◌, refl, sym, ap}
use Rattle.std.proofs.Common.{ap₂, ◌∙◌, subst}
use Rattle.std.specs.List.{list_any}
use Rattle.jc_methods.specs.declared.kind.Kind.{Kind}
use Rattle.jc_methods.specs.declared.kind.Kind.TheVariants as kinds
use Rattle.jc_methods.specs.declared.kind.State.{State}
use Rattle.jc_methods.specs.VerificationTypes.{Names, top, object, uninit, verification_type, TypeState, type_state}
use Rattle.jc_kinds_after.specs.Step.{Gives, kind, is_made, without, same_new, replaced, made_at, built_as, with_stack, limited, given_of}
use Rattle.jc_kinds_after.specs.Table.{form}
use Rattle.jc_kinds_after.specs.Shapes.{moved_in}
use Rattle.jc_kinds_after.specs.Objects.{is_made_by, left_by, is_one_object, built_in}
use Rattle.jc_kinds_after.proofs.LocalsLaws.{pushed_on}

module _ (names : Names) where
  made_is : (place : ℕ) (k : Kind) → is_made place (verification_type names k) ≡ is_made_by place k
  made_is place (kinds.Uninit at) = refl
  made_is place _ = refl

  any_made : (place : ℕ) (ks : List Kind) → list_any (is_made place) (map (verification_type names) ks) ≡ list_any (is_made_by place) ks
  any_made place [] = refl
  any_made place (k ∷ ks) = ap₂ (λ a b. a || b) (made_is place k) (any_made place ks)

  chosen_held : (b : Bool) (j k : Kind) → (if b then verification_type names j else verification_type names k) ≡ verification_type names (if b then j else k)
  chosen_held true j k = refl
  chosen_held false j k = refl

  left_is : (place : ℕ) (k : Kind) → without place (verification_type names k) ≡ verification_type names (left_by place k)
  left_is place k = ap (λ b. if b then top else verification_type names k) (made_is place k) ∙ chosen_held (is_made_by place k) kinds.Top k

  all_left : (place : ℕ) (ks : List Kind) → map (without place) (map (verification_type names) ks) ≡ map (verification_type names) (map (left_by place) ks)
  all_left place [] = refl
  all_left place (k ∷ ks) = ap₂ (λ h hs. h ∷ hs) (left_is place k) (all_left place ks)

  one_is : (old k : Kind) → same_new (verification_type names old) (verification_type names k) ≡ is_one_object old k
  one_is (kinds.Uninit at) k = made_is at k
  one_is kinds.UninitThis k = this k
    where
      this : (k : Kind) → same_new (verification_type names kinds.UninitThis) (verification_type names k) ≡ is_one_object kinds.UninitThis k
      this kinds.Top = refl
      this kinds.Int = refl
      this kinds.Float = refl
      this kinds.Double = refl
      this kinds.Long = refl
      this kinds.Null = refl
      this kinds.UninitThis = refl
      this (kinds.Object n) = refl
      this (kinds.Uninit at) = refl
  one_is _ k = refl

  module _ (old class : Kind) (name : List ℕ) (named : verification_type names class ≡ object name) where
    built_is : (k : Kind) → replaced (verification_type names old) name (verification_type names k) ≡ verification_type names (built_in old class k)
    built_is k =
        ap₂ (λ b h. if b then h else verification_type names k) (one_is old k) (sym named) ∙ chosen_held (is_one_object old k) class k

    all_built : (ks : List Kind) → map (replaced (verification_type names old) name) (map (verification_type names) ks)
        ≡ map (verification_type names) (map (built_in old class) ks)
    all_built [] = refl
    all_built (k ∷ ks) = ap₂ (λ h hs. h ∷ hs) (built_is k) (all_built ks)

  -- what is put in the place of the stack
  pub some_put : (o : Option (List Kind)) (locals stack other : List Kind) → o ≡ Some stack
      → Some (type_state names (record { locals = locals; stack = stack }))
      ≡ with_stack (record { locals = map (verification_type names) locals; stack = map (verification_type names) other })
      (option_map (map (verification_type names)) o)
  some_put o locals stack other e = rw e refl

  pub none_put : (o : Option (List Kind)) (s : TypeState) → o ≡ None → None ≡ with_stack s (option_map (map (verification_type names)) o)
  none_put o s e = rw e refl

  -- ---- new

  pub make_no : (state : State) (ks : List Kind) (place most : ℕ) → ks ≡ state.stack → list_any (is_made_by place) ks ≡ true
      → None ≡ made_at most place (type_state names state)
  make_no state ks place most same e =
      let P : List Kind → Type 0 =
      λ xs. None ≡ made_at most place (record { locals = map (verification_type names) state.locals; stack = map (verification_type names) xs }) in
      subst P same (sym (rw (any_made place ks, e) refl))

  pub make_yes : (state : State) (ks locals : List Kind) (place most : ℕ) (o : Option (List Kind)) → ks ≡ state.stack → list_any (is_made_by place) ks ≡ false
      → option_map (map (verification_type names)) o ≡ moved_in most (form [] (kind (uninit place) ∷ [])) (map (verification_type names) ks)
      → locals ≡ map (left_by place) state.locals
      → with_stack (record { locals = map (verification_type names) locals; stack = map (verification_type names) state.stack })
      (option_map (map (verification_type names)) o) ≡ made_at most place (type_state names state)
  make_yes state ks locals place most o same e m l =
      let P : List Kind → Type 0 =
      λ xs. with_stack (record { locals = map (verification_type names) locals; stack = map (verification_type names) xs })
      (option_map (map (verification_type names)) o)
      ≡ made_at most place (record { locals = map (verification_type names) state.locals; stack = map (verification_type names) xs }) in
      let L : map (verification_type names) locals ≡ map (without place) (map (verification_type names) state.locals) =
      ap (map (verification_type names)) l ∙ sym (all_left place state.locals) in
      let M : option_map (map (verification_type names)) o ≡ limited most (map (verification_type names) ks ++ uninit place ∷ []) =
      m ∙ pushed_on most (kind (uninit place) ∷ []) (map (verification_type names) ks) in
      subst P same (rw (any_made place ks, e) (ap₂ (λ hs p. with_stack (record { locals = hs; stack = map (verification_type names) ks }) p) L M))

  pub make_none : (state : State) (ks : List Kind) (place most : ℕ) (o : Option (List Kind)) → o ≡ None → ks ≡ state.stack
      → list_any (is_made_by place) ks ≡ false
      → option_map (map (verification_type names)) o ≡ moved_in most (form [] (kind (uninit place) ∷ [])) (map (verification_type names) ks)
      → None ≡ made_at most place (type_state names state)
  make_none state ks place most o none same e m =
      none_put o (record { locals = map (verification_type names) (map (left_by place) state.locals); stack = map (verification_type names) state.stack }) none
      ∙ make_yes state ks (map (left_by place) state.locals) place most o same e m refl

  -- ---- constructors

  pub build_there : (state : State) (old class : Kind) (ks built locals : List Kind) (given : List Gives) (most : ℕ) (o : Option (List Kind))
      (name : List ℕ) → verification_type names class ≡ object name
      → built ≡ map (built_in old class) ks
      → option_map (map (verification_type names)) o ≡ moved_in most (form [] given) (map (verification_type names) built)
      → locals ≡ map (built_in old class) state.locals
      → with_stack (record { locals = map (verification_type names) locals; stack = map (verification_type names) state.stack })
      (option_map (map (verification_type names)) o)
      ≡ built_as most (verification_type names old) (map (verification_type names) ks) given (Some name) (type_state names state)
  build_there state old class ks built locals given most o name named b m l =
      let L : map (verification_type names) locals ≡ map (replaced (verification_type names old) name) (map (verification_type names) state.locals) =
      ap (map (verification_type names)) l ∙ sym (all_built old class name named state.locals) in
      let R : map (verification_type names) built ≡ map (replaced (verification_type names old) name) (map (verification_type names) ks) =
      ap (map (verification_type names)) b ∙ sym (all_built old class name named ks) in
      let M : option_map (map (verification_type names)) o
      ≡ limited most (map (replaced (verification_type names old) name) (map (verification_type names) ks) ++ map (given_of []) given) =
      m ∙ pushed_on most given (map (verification_type names) built) ∙ ap (λ hs. limited most (hs ++ map (given_of []) given)) R in
      ap₂ (λ hs p. with_stack (record { locals = hs; stack = map (verification_type names) state.stack }) p) L M

  pub build_none : (state : State) (old class : Kind) (ks built : List Kind) (given : List Gives) (most : ℕ) (o : Option (List Kind)) (name : List ℕ)
      → verification_type names class ≡ object name → o ≡ None
      → built ≡ map (built_in old class) ks → option_map (map (verification_type names)) o ≡ moved_in most (form [] given) (map (verification_type names) built)
      → None ≡ built_as most (verification_type names old) (map (verification_type names) ks) given (Some name) (type_state names state)
  build_none state old class ks built given most o name named none b m =
      none_put o (record {
        locals = map (verification_type names) (map (built_in old class) state.locals);
        stack = map
            (verification_type names) state.stack;
      }) none
      ∙ build_there state old class ks built (map (built_in old class) state.locals) given most o name named b m refl
