-- A constructor's call, by what is verification_type.
use Rattle.std.proofs.Common.{◌≡◌, ℕ, suc, ◌-◌, ◌<◌, ◌≤◌, Bool, true, false, ◌&&◌, List, ◌∷◌, length, map, take, drop, Option, Some, None, option_map}
use Rattle.std.proofs.Common.{if◌then◌else◌, refl, sym, ap, ap₂, ◌∙◌, subst, arith, get_or}
use Rattle.std.proofs.lemmas.List.{length-map, length-drop}
use Rattle.std.proofs.Math.Seq.{drop-cons}
use Rattle.std.proofs.lemmas.Bool.{and_right}
use Rattle.jc_methods.specs.declared.kind.Kind.{Kind}
use Rattle.jc_methods.specs.declared.kind.Kind.TheVariants as kinds
use Rattle.jc_methods.specs.declared.kind.State.{State}
use Rattle.jc_methods.specs.VerificationTypes.{Names, VerificationType, top, null, uninit_this, object, uninit, verification_type, TypeState, type_state}
use Rattle.jc_kinds_after.specs.declared.want.Want.{Want}
use Rattle.jc_kinds_after.specs.declared.want.Want.TheVariants as wants
use Rattle.jc_kinds_after.specs.Wants.{accepts, accepts_all, is_anything}
use Rattle.jc_kinds_after.specs.Step.{Gives, Ground, upper, below, built, built_as, class_built}
use Rattle.jc_kinds_after.specs.Table.{form}
use Rattle.jc_kinds_after.proofs.MovesLaws.{all-unequal, upper_is, below_is}

-- the object, and the operands above it
upper_more : (names : Names) (ks : List Kind) (n : ℕ) → n < length ks
    → upper (suc n) (map (verification_type names) ks)
    ≡ verification_type names (get_or ks (length ks - suc n) kinds.Top) ∷ map (verification_type names) (drop (length ks - n) ks)
upper_more names ks n lt =
    let next : suc (length ks - suc n) ≡ length ks - n = omega (arith, lt) in
    upper_is names (suc n) ks ∙ ap (map (verification_type names)) (drop-cons ks (length ks - suc n) kinds.Top (omega (arith, lt)))
    ∙ ap (λ (m : ℕ). verification_type names (get_or ks (length ks - suc n) kinds.Top) ∷ map (verification_type names) (drop m ks)) next

class_anything : (g : Ground) (h : VerificationType) (name : List ℕ) → class_built g h ≡ Some name → is_anything h ≡ true
class_anything g (uninit at) name e = refl
class_anything g uninit_this name e = refl
class_anything g null name e = refl
class_anything g (object n) name e = refl
class_anything g _ name e = absurd cc

-- the class that was found, by its name
pub some_class : (o : Option (List ℕ)) (h : VerificationType) → Some h ≡ option_map object o → (name : List ℕ) × (o ≡ Some name) × (h ≡ object name)
some_class (Some name) h e = (name, refl, same h (object name) e)
  where
    same : (x y : VerificationType) → Some x ≡ Some y → x ≡ y
    same x y f = cc
some_class None h e = absurd (no_class h e)
  where
    no_class : (x : VerificationType) → Some x ≡ None → ⊥
    no_class x f = cc

pub none_class : (o : Option (List ℕ)) → None ≡ option_map object o → o ≡ None
none_class None e = refl
none_class (Some name) e = absurd (no_class (object name) e)
  where
    no_class : (x : VerificationType) → None ≡ Some x → ⊥
    no_class x f = cc

module _ (names : Names) (state : State) (g : Ground) (wanted : List Want) (given : List Gives) where
  abbrev Built : Option TypeState → List Kind → Type 0
  Built o ks = o ≡ built g (form wanted given) (record { locals = map (verification_type names) state.locals; stack = map (verification_type names) ks })

  pub build_short : (ks : List Kind) → ks ≡ state.stack → length ks ≤ length wanted → None ≡ built g (form wanted given) (type_state names state)
  build_short ks same few =
      let hs = map (verification_type names) ks in
      let n = length-map ks (verification_type names) in let m = length-drop (length hs - suc (length wanted)) hs in
      let no : accepts_all (wants.Anything ∷ wanted) (upper (suc (length wanted)) hs) ≡ false =
      all-unequal (wants.Anything ∷ wanted) (upper (suc (length wanted)) hs) (λ e. omega (arith, e, n, m, few)) in
      subst (Built None) same (sym (rw no refl))

  pub build_unfit : (ks ops : List Kind) → ks ≡ state.stack → length wanted < length ks → ops ≡ drop (length ks - length wanted) ks
      → accepts_all wanted (map (verification_type names) ops) ≡ false
      → None ≡ built g (form wanted given) (type_state names state)
  build_unfit ks ops same more is fit =
      let h = verification_type names (get_or ks (length ks - suc (length wanted)) kinds.Top) in
      let no : accepts_all (wants.Anything ∷ wanted) (upper (suc (length wanted)) (map (verification_type names) ks)) ≡ false =
      ap (accepts_all (wants.Anything ∷ wanted)) (upper_more names ks (length wanted) more)
      ∙ ap (λ (b : Bool). accepts wants.Anything h && b) (ap (λ (o : List Kind). accepts_all wanted (map (verification_type names) o)) (sym is) ∙ fit)
      ∙ and_right (accepts wants.Anything h) false refl in
      subst (Built None) same (sym (rw no refl))

  old_is : (ks : List Kind) → length wanted < length ks → get_or (upper (suc (length wanted)) (map (verification_type names) ks)) 0 top
      ≡ verification_type names (get_or ks (length ks - suc (length wanted)) kinds.Top)
  old_is ks more = ap (λ (hs : List VerificationType). get_or hs 0 top) (upper_more names ks (length wanted) more)

  pub build_classless : (ks : List Kind) (j : ℕ) → ks ≡ state.stack → length wanted < length ks → j ≡ length ks - suc (length wanted)
      → class_built g (verification_type names (get_or ks j kinds.Top)) ≡ None
      → None ≡ built g (form wanted given) (type_state names state)
  build_classless ks j same more at none =
      let no : class_built g (get_or (upper (suc (length wanted)) (map (verification_type names) ks)) 0 top) ≡ None =
      ap (class_built g) (old_is ks more) ∙ ap (λ (n : ℕ). class_built g (verification_type names (get_or ks n kinds.Top))) (sym at) ∙ none in
      subst (Built None) same (rw no
      (either (accepts_all (wants.Anything ∷ wanted) (upper (suc (length wanted)) (map (verification_type names) ks))) None refl))
    where
      either : (b : Bool) (o : Option TypeState) → None ≡ o → None ≡ (if b then o else o)
      either true o e = e
      either false o e = e

  pub build_whole : (ks ops rest : List Kind) (j : ℕ) (name : List ℕ) (o : Option State) → ks ≡ state.stack → length wanted < length ks
      → ops ≡ drop (length ks - length wanted) ks
      → accepts_all wanted (map (verification_type names) ops) ≡ true → rest ≡ take (length ks - suc (length wanted)) ks
      → j ≡ length ks - suc (length wanted) → class_built g (verification_type names (get_or ks j kinds.Top)) ≡ Some name
      → option_map (type_state names) o ≡ built_as g.most (verification_type names (get_or ks j kinds.Top)) (map (verification_type names) rest) given
      (Some name) (type_state names state)
      → option_map (type_state names) o ≡ built g (form wanted given) (type_state names state)
  build_whole ks ops rest j name o same more is fit front at class left =
      let h = verification_type names (get_or ks j kinds.Top) in let place = ap (λ (n : ℕ). verification_type names (get_or ks n kinds.Top)) (sym at) in
      let yes : accepts_all (wants.Anything ∷ wanted) (upper (suc (length wanted)) (map (verification_type names) ks)) ≡ true =
      ap (accepts_all (wants.Anything ∷ wanted)) (upper_more names ks (length wanted) more)
      ∙ ap (λ (x : VerificationType). accepts wants.Anything x && accepts_all wanted
      (map (verification_type names) (drop (length ks - length wanted) ks))) place
      ∙ ap₂ (λ (a b : Bool). a && b) (class_anything g h name class)
      (ap (λ (l : List Kind). accepts_all wanted (map (verification_type names) l)) (sym is) ∙ fit) in
      let old = old_is ks more ∙ place in
      let low : below (suc (length wanted)) (map (verification_type names) ks) ≡ map (verification_type names) rest =
      below_is names (suc (length wanted)) ks ∙ ap (map (verification_type names)) (sym front) in
      let P : List Kind → Type 0 =
      λ xs. built_as g.most h (map (verification_type names) rest) given (Some name)
      (record { locals = map (verification_type names) state.locals; stack = map (verification_type names) xs })
      ≡ built g (form wanted given) (record { locals = map (verification_type names) state.locals; stack = map (verification_type names) xs }) in
      left ∙ subst P same (sym (rw (yes, old, low, class) refl))
