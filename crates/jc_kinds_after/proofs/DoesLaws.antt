-- What uses do to types, when more names are numbered.
use Rattle.std.proofs.Common.{◌≡◌, ℕ, List, [], ◌∷◌, ◌++◌, length, map, Option, Some, None, option_map, refl, sym, ap, ap₂, ◌∙◌, append_assoc, Bool}
use Rattle.jc_methods.specs.declared.kind.Kind.{Kind}
use Rattle.jc_methods.specs.declared.body.What.{What}
use Rattle.jc_methods.specs.declared.value_type.ValueType.{ValueType}
use Rattle.jc_bytes.specs.Descriptor.{FieldType, MethodType, IsFieldDescriptor, DescribesField, IsMethodDescriptor, DescribesMethod}
use Rattle.jc_methods.specs.DescriptorTypes.{field_type_in, method_type_in}
use Rattle.jc_methods.proofs.DescriptorTypesLaws.{field_again, method_again}
use Rattle.jc_methods.specs.EntryState.{held_of}
use Rattle.jc_methods.specs.VerificationTypes.{Names, VerificationType, verification_type, Grows, IsNumbered}
use Rattle.jc_methods.specs.ValueTypes.{held_by, Says as SaysType, AllSay as AllSayTypes, SaysReturn}
use Rattle.jc_methods.proofs.SeenLaws.{held_stays}
use Rattle.jc_methods.proofs.MetNamesLaws.{grows_both}
use Rattle.jc_kinds_after.specs.declared.want.Want.{Want}
use Rattle.jc_kinds_after.specs.declared.want.Want.TheVariants as wants
use Rattle.jc_kinds_after.specs.declared.effect.Effect.{Effect}
use Rattle.jc_kinds_after.specs.After.{want_for, want_of}
use Rattle.jc_kinds_after.specs.Does.{call, value, of_class, does, does_of, IsDescribed, Says, SaysThere, call_of, value_of}

-- ---- growth

-- what holds under all longer lists of names does so under those of a longer one
pub later : {X : Type 0} (f : Names → X) (x : X) (old new : Names) → Grows old new → ((more : Names) → f (old ++ more) ≡ x) → (more : Names)
    → f (new ++ more) ≡ x
later f x old new g all more = ap (λ (l : Names). f (l ++ more)) g.1 ∙ ap f (append_assoc old g.0 more) ∙ all (g.0 ++ more)

pub some_head : (x y : VerificationType) (xs ys : List VerificationType) → (x ∷ xs) ≡ (y ∷ ys) → x ≡ y
some_head x y xs ys e = cc

-- ---- uses

pub says_later : (old new : Names) (what : What) (e : Effect) → Grows old new → Says old what e → Says new what e
says_later old new what e g says more d = later (λ names. does names e) (does_of what) old new g (λ m. says m d) more

pub there_later : (old new : Names) (what : Option What) (e : Option Effect) → Grows old new → SaysThere old what e → SaysThere new what e
there_later old new None None g says = tt
there_later old new (Some what) (Some e) g says = says_later old new what e g says
there_later old new None (Some e) g says = elim says [ ]
there_later old new (Some what) None g says = elim says [ ]

-- ---- calls

pub same_wants : (given : List ValueType) (types : List FieldType) → map held_by given ≡ map held_of types
    → map (λ (v : ValueType). want_for (held_by v)) given ≡ map want_of types
same_wants [] [] e = refl
same_wants (v ∷ given) (t ∷ types) e =
    ap₂ (λ w ws. w ∷ ws) (ap want_for (some_head (held_by v) (held_of t) (map held_by given) (map held_of types) e))
    (same_wants given types (rest (held_by v) (held_of t) (map held_by given) (map held_of types) e))
  where
    rest : (x y : VerificationType) (xs ys : List VerificationType) → (x ∷ xs) ≡ (y ∷ ys) → xs ≡ ys
    rest x y xs ys e = cc
same_wants [] (t ∷ types) e = absurd cc
same_wants (v ∷ given) [] e = absurd cc

-- ---- values and classes

pub value_says : (desc : List ℕ) (v : ValueType) (want : Want) (k : Kind) (names more : Names) → IsFieldDescriptor desc
    → ((type : FieldType) → DescribesField desc type → SaysType v type)
    → want ≡ want_for (held_by v) → verification_type names k ≡ held_by v → IsNumbered (length names) k
    → value want (verification_type (names ++ more) k) ≡ value_of (field_type_in desc)
value_says desc v want k names more d says want_is kind_is numbered =
    let said = says d.0 d.1 in
    ap₂ value (want_is ∙ ap want_for said.held_is) (held_stays names more k numbered ∙ kind_is ∙ said.held_is) ∙ ap value_of (sym (field_again desc d.0 d.1))

pub class_says : (n1 n2 n3 : Names) (itself constant : Kind) (array : Option Kind) (h j : VerificationType) (a : Option VerificationType)
    → Grows n1 n2 → Grows n2 n3 → ((more : Names) → verification_type (n1 ++ more) itself ≡ h)
    → ((more : Names) → option_map (verification_type (n2 ++ more)) array ≡ a) → ((more : Names) → verification_type (n3 ++ more) constant ≡ j) → (more : Names)
    → of_class (verification_type (n3 ++ more) itself) (option_map (verification_type (n3 ++ more)) array) (verification_type (n3 ++ more) constant)
    ≡ of_class h a j
class_says n1 n2 n3 itself constant array h j a g2 g3 first second third more =
    let p = later (λ names. verification_type names itself) h n1 n3 (grows_both n1 n2 n3 g2 g3) first more in
    let q = later (λ names. option_map (verification_type names) array) a n2 n3 g3 second more in
    λ i. of_class (p i) (q i) (third more i)

pub says_now : (names : Names) (what : What) (e : Effect) → Says names what e → IsDescribed what → does names e ≡ does_of what
says_now names what e says d = ap (λ (l : Names). does l e) (sym (nil names)) ∙ says [] d
  where
    nil : (xs : Names) → xs ++ [] ≡ xs
    nil [] = refl
    nil (x ∷ xs) = ap (λ l. x ∷ l) (nil xs)

pub call_says : (desc : List ℕ) (given types : List ValueType) (returns : Option ValueType) (wanted : List Want) (result : Option Kind) (build : Bool)
    (names : Names) → IsMethodDescriptor desc
    → ((type : MethodType) → DescribesMethod desc type → AllSayTypes types type.parameters)
    → ((type : MethodType) → DescribesMethod desc type → SaysReturn returns type.returns)
    → given ≡ types → wanted ≡ wants.Reference ∷ map (λ (v : ValueType). want_for (held_by v)) given
    → option_map (verification_type names) result ≡ option_map held_by returns
    → call wanted (option_map (verification_type names) result) build ≡ call_of build (method_type_in desc)
call_says desc given types returns wanted result build names d parameters_say returns_say same w r =
    let said = parameters_say d.0 d.1 in let back = returns_say d.0 d.1 in
    ap₂ (λ ws o. call ws o build)
    (w ∙ ap (λ (ws : List Want). wants.Reference ∷ ws) (ap (map (λ (v : ValueType). want_for (held_by v))) same
    ∙ same_wants types d.0.parameters said.held_are)) (r ∙ back.held_is)
    ∙ ap (call_of build) (sym (method_again desc d.0 d.1))
