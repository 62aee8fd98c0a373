-- What a report makes of its class files is one thing.
use Rattle.std.proofs.Common.{◌≡◌, ◌≢◌, ◌⊎◌, inl, inr, ⊎_elim, ℕ, zero, suc, ◌<◌, Bool, true, false, not, cond, ◌||◌, List, [], ◌∷◌, length, take, map, filter, codes, Option, None, Some, refl, sym, ◌∙◌, ap, ap₂, subst, arith}
use Rattle.std.specs.Prelude.{slice_get}
use Rattle.std.specs.List.{AllByRecursion, list_any}
use Rattle.std.specs.Option.{option_or}
use Rattle.std.proofs.lemmas.Option.{none-some, same_Some}
use Rattle.jc_methods.specs.declared.analysed.Analysed.{Analysed}
use Rattle.jc_methods.specs.declared.body.Body.{Body}
use Rattle.jc_bytes.specs.declared.refusal.Refusal.{Refusal}
use Rattle.jc_class.specs.declared.class_file.ClassFile.{ClassFile}
use Rattle.jc_class.specs.declared.class_file.Member.{Member}
use Rattle.jc_class.proofs.FirstBadLaws.{one_class_of}
use Rattle.jc_body.specs.Attributes.{has_name}
use Rattle.jc_body.specs.BodyOf.{Bodiless}
use Rattle.jc_exec.specs.declared.hits.ClassHits.{ClassHits}
use Rattle.jc_exec.specs.declared.refusal.ExecRefusal.{ExecRefusal}
use Rattle.jc_instrument.specs.Analysis.{IsAnalysis}
use Rattle.jc_instrument.specs.Bodies.{AreBodiesUnless, AreBodies, IsListed}
use Rattle.jc_instrument.specs.LeftAlone.{has_flag, has_code, is_left_alone}
use Rattle.jc_instrument.specs.Reasons.{AnalysisReason}
use Rattle.jc_instrument.specs.SameAnalysis.{IsSameAnalysis}
use Rattle.jc_instrument.proofs.OneReasonLaws.{one_reason}
use Rattle.jc_instrument.proofs.SameAnalysisLaws.{same_analysis}
use Rattle.jc_instrument.proofs.EachAnalysisLaws.{each_analysis, analysis_or_reason}
use Rattle.jc_command_work.specs.Step.{IsFile}
use Rattle.jc_command_classes.specs.Report.{frameless, ReportedFile, refused_class, unchanged_class, changed_class, IsItem, is_refused, is_unchanged, is_changed, AreItems, clash_of, first_clash}

-- ---- which classes have bodies

-- an item that passes the test
found_at : {X : Type 0} (p : X → Bool) (xs : List X) → list_any p xs ≡ true → (i : ℕ) × (x : X) × (slice_get xs i ≡ Some x) × (p x ≡ true) × (i < length xs)
found_at p [] e = absurd cc
found_at {X} p (x ∷ xs) e = by (p x) refl e (found_at p xs)
  where
    by : (t : Bool) → p x ≡ t → (t || list_any p xs) ≡ true
        → (list_any p xs ≡ true → (i : ℕ) × (y : X) × (slice_get xs i ≡ Some y) × (p y ≡ true) × (i < length xs))
        → (i : ℕ) × (y : X) × (slice_get (x ∷ xs) i ≡ Some y) × (p y ≡ true) × (i < length (x ∷ xs))
    by true is any later = (0, x, refl, is, omega arith)
    by false is any later =
        let rest = later any in
        let below = rest.4 in
        (suc rest.0, rest.1, rest.2, rest.3, omega (arith, below))

-- what passes the test isn't left out
none_left : {X Y : Type 0} (f : X → Y) (p : X → Bool) (xs : List X) → list_any p xs ≡ true → map f (filter p xs) ≡ [] → ⊥
none_left f p [] any none = cc
none_left f p (x ∷ xs) any none = by (p x) any none (none_left f p xs)
  where
    by : (t : Bool) → (t || list_any p xs) ≡ true → map f (cond t (x ∷ filter p xs) (filter p xs)) ≡ []
        → (list_any p xs ≡ true → map f (filter p xs) ≡ [] → ⊥) → ⊥
    by true any none later = cc
    by false any none later = later any none

with_code : (a b c : Bool) → (a || (b || not c)) ≡ false → c ≡ true
with_code true b c e = absurd cc
with_code false true c e = absurd cc
with_code false false true e = refl
with_code false false false e = absurd cc

not_listed : (c : ClassFile) (number : ℕ) (method : Member) → slice_get c.methods number ≡ Some method → has_code c.pool method ≡ true
    → Bodiless c number ⊎ IsListed [] number → ⊥
not_listed c number method at code (inl bodiless) =
    let same : bodiless.method ≡ method = same_Some bodiless.method method (sym bodiless.at ∙ at) in
    none_left (λ a. a.body) (has_name c.pool (codes "Code")) method.attributes code
    (subst (λ (m : Member). map (λ a. a.body) (filter (has_name c.pool (codes "Code")) m.attributes) ≡ []) same bodiless.none.none)
not_listed c number method at code (inr listed) = none-some listed.body listed.stands

-- An analysed class that instrumentation leaves alone has no bodies.
pub left_alone_has_none : (bytes : List ℕ) (a : Analysed) (is : IsAnalysis bytes a) → is_left_alone is.file ≡ true → a.bodies ≡ []
left_alone_has_none bytes a is alone = subst (λ (t : Bool). AreBodiesUnless t is.bodies.names is.file a.bodies) alone is.bodies.are

-- Any other has at least one: that of a method with code.
pub changed_has_some : (bytes : List ℕ) (a : Analysed) (is : IsAnalysis bytes a) → is_left_alone is.file ≡ false → a.bodies ≢ []
changed_has_some bytes a is code none =
    let c = is.file in
    let are : AreBodies is.bodies.names c a.bodies = subst (λ (t : Bool). AreBodiesUnless t is.bodies.names c a.bodies) code is.bodies.are in
    let coded = with_code (has_flag 0x8000 c.flags) (has_flag 0x1000 c.flags) (list_any (has_code c.pool) c.methods) code in
    let found = found_at (has_code c.pool) c.methods coded in
    not_listed c found.0 found.1 found.2 found.3 (subst (λ (bodies : List Body). Bodiless c found.0 ⊎ IsListed bodies found.0) none (are.all found.0 found.4))

-- ---- one class file

frameless_same : (a b : Analysed) → IsSameAnalysis a b → frameless a ≡ frameless b
frameless_same a b same = λ i. record (same.rest i) { bodies = same.bodies i }

-- an item, by what decided it
data ItemOf (bytes : List ℕ) (item : ReportedFile) : Type 0 where
  by_reason : (why : Refusal) → AnalysisReason bytes (Some why) → item ≡ refused_class why → ItemOf bytes item
  by_flags : (a : Analysed) (is : IsAnalysis bytes a) → is_left_alone is.file ≡ true → item ≡ unchanged_class → ItemOf bytes item
  by_code : (a : Analysed) (is : IsAnalysis bytes a) → is_left_alone is.file ≡ false → item ≡ changed_class (frameless a) → ItemOf bytes item

item_of : (bytes : List ℕ) (item : ReportedFile) → IsItem bytes item → ItemOf bytes item
item_of bytes item (is_refused why reason) = by_reason why reason refl
item_of bytes item (is_unchanged a is alone) = by_flags a is alone refl
item_of bytes item (is_changed a is code) = by_code a is code refl

module _ (bytes : List ℕ) where
  alone_or_not : (a b : Analysed) (p : IsAnalysis bytes a) (q : IsAnalysis bytes b) → is_left_alone p.file ≡ true → is_left_alone q.file ≡ false → ⊥
  alone_or_not a b p q alone code = differ (sym alone ∙ ap is_left_alone (one_class_of bytes p.file q.file p.text q.text) ∙ code)
    where
      differ : true ≡ false → ⊥
      differ e = cc

  one_item_of : (x y : ReportedFile) → ItemOf bytes x → ItemOf bytes y → x ≡ y
  one_item_of x y (by_reason why r e) (by_reason other s f) = e ∙ ap refused_class (same_Some why other (one_reason bytes (Some why) (Some other) r s)) ∙ sym f
  one_item_of x y (by_reason why r e) (by_flags a is alone f) = absurd (analysis_or_reason bytes a why is r)
  one_item_of x y (by_reason why r e) (by_code a is code f) = absurd (analysis_or_reason bytes a why is r)
  one_item_of x y (by_flags a is alone e) (by_reason why r f) = absurd (analysis_or_reason bytes a why is r)
  one_item_of x y (by_flags a is alone e) (by_flags b is' alone' f) = e ∙ sym f
  one_item_of x y (by_flags a is alone e) (by_code b is' code f) = absurd (alone_or_not a b is is' alone code)
  one_item_of x y (by_code a is code e) (by_reason why r f) = absurd (analysis_or_reason bytes a why is r)
  one_item_of x y (by_code a is code e) (by_flags b is' alone f) = absurd (alone_or_not b a is' is alone code)
  one_item_of x y (by_code a is code e) (by_code b is' code' f) = e ∙ ap changed_class (frameless_same a b (same_analysis bytes a b is is')) ∙ sym f

  pub one_item : (x y : ReportedFile) → IsItem bytes x → IsItem bytes y → x ≡ y
  one_item x y p q = one_item_of x y (item_of bytes x p) (item_of bytes y q)

  pub item_of_analysis : (a : Analysed) → IsAnalysis bytes a → (item : ReportedFile) × IsItem bytes item
  item_of_analysis a is = by (is_left_alone is.file) refl
    where
      by : (t : Bool) → is_left_alone is.file ≡ t → (item : ReportedFile) × IsItem bytes item
      by true alone = (_, is_unchanged a is alone)
      by false code = (_, is_changed a is code)

  some_item : IsFile bytes → (item : ReportedFile) × IsItem bytes item
  some_item file = ⊎_elim (λ a. item_of_analysis a.0 a.1) (λ r. (_, is_refused r.0 r.1)) (each_analysis bytes file.are_bytes file.short)

-- ---- the class files, in order

pub one_items : (ts : List (List ℕ)) (xs ys : List ReportedFile) → AreItems ts xs → AreItems ts ys → xs ≡ ys
one_items [] [] [] p q = refl
one_items [] [] (y ∷ ys) p q = absurd q
one_items [] (x ∷ xs) ys p q = absurd p
one_items (t ∷ ts) [] ys p q = absurd p
one_items (t ∷ ts) (x ∷ xs) [] p q = absurd q
one_items (t ∷ ts) (x ∷ xs) (y ∷ ys) p q = ap₂ (λ (i : ReportedFile) (is : List ReportedFile). i ∷ is) (one_item t x y p.0 q.0) (one_items ts xs ys p.1 q.1)

pub some_items : (ts : List (List ℕ)) → AllByRecursion IsFile ts → (items : List ReportedFile) × AreItems ts items
some_items [] files = ([], tt)
some_items (t ∷ ts) files =
    let item = some_item t files.0 in
    let rest = some_items ts files.1 in
    (item.0 ∷ rest.0, (item.1, rest.1))

-- ---- clashes

no_clash : {P : Type 0} {r : ExecRefusal} → None ≡ Some r → P
no_clash e = absurd cc

-- the clash of the first item, or of those behind it
first_or_later : (o p q : Option ExecRefusal) (r s : ExecRefusal) → option_or o p ≡ Some r → option_or o q ≡ Some s
    → (p ≡ Some r → q ≡ Some s → r ≡ s) → r ≡ s
first_or_later None p q r s e f later = later e f
first_or_later (Some t) p q r s e f later = sym (same_Some t r e) ∙ same_Some t s f

none_of_both : (o p : Option ExecRefusal) → option_or o p ≡ None → (o ≡ None) × (p ≡ None)
none_of_both None p e = (refl, e)
none_of_both (Some t) p e = absurd cc

some_behind : (o p : Option ExecRefusal) (r : ExecRefusal) → o ≡ None → option_or o p ≡ Some r → p ≡ Some r
some_behind None p r none e = e
some_behind (Some t) p r none e = absurd cc

module _ (records : List ClassHits) where
  -- two fronts of the class files in which there is a clash have one
  pub one_clash : (ts : List (List ℕ)) (m n : ℕ) (xs ys : List ReportedFile) (r s : ExecRefusal) → AreItems (take m ts) xs → AreItems (take n ts) ys
      → first_clash records xs ≡ Some r → first_clash records ys ≡ Some s → r ≡ s
  one_clash ts m n [] ys r s p q e f = no_clash e
  one_clash ts m n (x ∷ xs) [] r s p q e f = no_clash f
  one_clash [] m n (x ∷ xs) (y ∷ ys) r s p q e f = absurd (nothing m p)
    where
      nothing : (k : ℕ) → AreItems (take k []) (x ∷ xs) → ⊥
      nothing zero p = p
      nothing (suc k) p = p
  one_clash (t ∷ ts) zero n (x ∷ xs) (y ∷ ys) r s p q e f = absurd p
  one_clash (t ∷ ts) (suc m) zero (x ∷ xs) (y ∷ ys) r s p q e f = absurd q
  one_clash (t ∷ ts) (suc m) (suc n) (x ∷ xs) (y ∷ ys) r s p q e f =
      let same : x ≡ y = one_item t x y p.0 q.0 in
      first_or_later (clash_of records y) (first_clash records xs) (first_clash records ys) r s
      (subst (λ (i : ReportedFile). option_or (clash_of records i) (first_clash records xs) ≡ Some r) same e) f
      (λ e' f'. one_clash ts m n xs ys r s p.1 q.1 e' f')

  -- where there is none at all there is none in front
  pub no_clash_in_front : (ts : List (List ℕ)) (n : ℕ) (xs ys : List ReportedFile) (r : ExecRefusal) → AreItems ts xs → AreItems (take n ts) ys
      → first_clash records xs ≡ None → first_clash records ys ≡ Some r → ⊥
  no_clash_in_front ts n xs [] r p q none e = no_clash e
  no_clash_in_front [] zero xs (y ∷ ys) r p q none e = q
  no_clash_in_front [] (suc n) xs (y ∷ ys) r p q none e = q
  no_clash_in_front (t ∷ ts) zero xs (y ∷ ys) r p q none e = q
  no_clash_in_front (t ∷ ts) (suc n) [] (y ∷ ys) r p q none e = p
  no_clash_in_front (t ∷ ts) (suc n) (x ∷ xs) (y ∷ ys) r p q none e =
      let same : y ≡ x = one_item t y x q.0 p.0 in
      let nowhere = none_of_both (clash_of records x) (first_clash records xs) none in
      no_clash_in_front ts n xs ys r p.1 q.1 nowhere.1
      (some_behind (clash_of records y) (first_clash records ys) r (ap (clash_of records) same ∙ nowhere.0) e)

-- without records nothing clashes
pub none_clashes : (items : List ReportedFile) → first_clash [] items ≡ None
none_clashes [] = refl
none_clashes (refused_class why ∷ items) = none_clashes items
none_clashes (unchanged_class ∷ items) = none_clashes items
none_clashes (changed_class a ∷ items) = none_clashes items
