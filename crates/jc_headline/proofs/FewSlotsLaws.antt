-- Where the methods of originals have few slots, and the changed ones differ in their ids, nothing refuses the instrumented files.
use Rattle.std.proofs.Common.{◌≡◌, ◌⊎◌, inl, inr, ℕ, zero, suc, ◌+◌, ◌*◌, ◌≤◌, List, [], ◌∷◌, ◌++◌, length, Some, refl, sym, ◌∙◌, ap, subst, arith}
use Rattle.std.specs.Prelude.{ℤ, slice_get}
use Rattle.std.specs.List.{AllByRecursion}
use Rattle.std.proofs.Math.Nat.{mul-le-mul_right}
use Rattle.std.proofs.lemmas.Option.{none-some, same_Some, slice_get_within}
use Rattle.jc_bytes.proofs.ListLaws.{all_at}
use Rattle.jc_methods.specs.WellMade.{most_slots}
use Rattle.jc_methods.specs.declared.body.Body.{Body}
use Rattle.jc_methods.specs.declared.body.What.{What}
use Rattle.jc_methods.specs.VerificationTypes.{Names}
use Rattle.jc_methods.specs.declared.probe_members.Fetch.{Fetch}
use Rattle.jc_methods.specs.declared.probe_members.Fetch.TheVariants as fetches
use Rattle.jc_class.specs.ClassId.{class_id}
use Rattle.jc_class.specs.declared.class_file.ClassFile.{ClassFile}
use Rattle.jc_class.specs.declared.class_file.Member.{Member}
use Rattle.jc_class.proofs.FirstBadLaws.{one_class_of}
use Rattle.jc_body.specs.BodyOf.{Bodiless, BodyOfAnySize}
use Rattle.jc_body.specs.Coded.{HasNoCode, IsCoded}
use Rattle.jc_body.specs.declared.coded.Coded.{Coded}
use Rattle.jc_body.proofs.CodedLaws.{no_items, one_coded}
use Rattle.jc_body.proofs.SizeLaws.{insns_short}
use Rattle.jc_plan.specs.Probed.{probe_count}
use Rattle.jc_emit.specs.Added.{IsAddedBody}
use Rattle.jc_emit.specs.TwinBodies.{AreTwinBodies}
use Rattle.jc_instrument.specs.Bodies.{IsListed}
use Rattle.jc_instrument_laws.specs.TwinClass.{TwinClass}
use Rattle.jc_link_programs.specs.declared.link_refusal.LinkRefusal.{LinkRefusal}
use Rattle.jc_link_laws.specs.SecondLinking.{IsTooWide, IsSecondRefusal, too_wide, one_id}
use Rattle.jc_link_laws.specs.TwinFiles.{IsWrittenTwin}
use Rattle.jc_headline.specs.FewSlots.{UsesFewSlots, DifferInId}

-- so many instructions as code can have are within the bound
abbrev FitsIn : (slots : ℕ) → Type 0
FitsIn slots = 65535 * slots ≤ most_slots

-- the method that is added has few
added_slots : (fetch : Fetch) (names : Names) (class : List ℕ) (id : ℤ) (count : ℕ) (b : Body) → IsAddedBody fetch names class id count b
    → (b.max_locals ≤ 3) × (b.max_stack ≡ 4)
added_slots fetches.Member names class id count b is = (let none = is.method.max_locals_is in omega (arith, none), is.method.max_stack)
added_slots fetches.Constant names class id count b is = (let three = is.method.max_locals_is in omega (arith, three), is.method.max_stack)

-- so are four slots more than each body has
abbrev HaveRoom : List Body → Type 0
HaveRoom bodies = (i : ℕ) (b : Body) → slice_get bodies i ≡ Some b → FitsIn (b.max_locals + b.max_stack + 4)

module _ (original text : List ℕ) (few : UsesFewSlots original) (w : IsWrittenTwin original text) where
  abbrev c : ClassFile
  c = w.twin.file

  abbrev t : ClassFile
  t = w.twin.twin

  h : TwinClass (class_id original) c t
  h = w.twin.is

  source_fits : HaveRoom h.bodies
  source_fits i b at =
      let body = h.are.each i b at in
      let parts = body.is.parts in
      subst FitsIn (λ j. sym parts.max_locals j + sym parts.max_stack j + 4) (few c w.twin.file_is b.method body.method body.at body.is.coded body.is.is)

  twin_fits : (fetch : Fetch) (giver : What) (first : ℕ) (bs ys : List Body) → AreTwinBodies h.names h.new_names fetch giver first bs ys h.added → HaveRoom bs
      → (i : ℕ) (y : Body) → slice_get ys i ≡ Some y → FitsIn (y.max_locals + y.max_stack)
  twin_fits fetch giver first [] ys twins sources i y at = by i (sym (ap (λ (l : List Body). slice_get l i) twins) ∙ at)
    where
      by : (i : ℕ) → slice_get (h.added ∷ []) i ≡ Some y → FitsIn (y.max_locals + y.max_stack)
      by zero there =
          let same : h.added ≡ y = same_Some h.added y there in
          let few = added_slots h.fetch h.new_names _ _ _ h.added h.added_is in
          let most = few.0 in
          let locals : y.max_locals ≡ h.added.max_locals = ap (λ (b : Body). b.max_locals) (sym same) in
          let stack : y.max_stack ≡ 4 = ap (λ (b : Body). b.max_stack) (sym same) ∙ few.1 in
          omega (arith, most, locals, stack)
      by (suc i) there = absurd (none-some y there)
  twin_fits fetch giver first (b ∷ bs) [] twins sources i y at = absurd twins
  twin_fits fetch giver first (b ∷ bs) (z ∷ ys) twins sources zero y at =
      let same : z ≡ y = same_Some z y at in
      let locals : y.max_locals ≡ b.max_locals + 1 = ap (λ (x : Body). x.max_locals) (sym same) ∙ twins.0.twin.max_locals in
      let stack : y.max_stack ≡ b.max_stack + 3 = ap (λ (x : Body). x.max_stack) (sym same) ∙ twins.0.twin.max_stack in
      let slots : b.max_locals + b.max_stack + 4 ≡ y.max_locals + y.max_stack = omega (arith, locals, stack) in
      subst FitsIn slots (sources zero b refl)
  twin_fits fetch giver first (b ∷ bs) (z ∷ ys) twins sources (suc i) y at = twin_fits fetch giver (first + probe_count b) bs ys twins.1 (λ j x there. sources (suc j) x there) i y at

  not_wide : (number : ℕ) → IsTooWide t number → ⊥
  not_wide number wide = by (h.read.all number (slice_get_within t.methods number wide.method wide.at))
    where
      of_body : (y : Body) → BodyOfAnySize h.new_names t number y → FitsIn (y.max_locals + y.max_stack) → ⊥
      of_body y body fits =
          let method = same_Some _ _ (sym body.at ∙ wide.at) in
          let coded : body.is.coded ≡ wide.coded = one_coded t.pool wide.method body.is.coded wide.coded (subst (λ (m : Member). IsCoded t.pool m body.is.coded) method body.is.is) wide.is in
          let slots : ℕ = wide.coded.items.max_locals + wide.coded.items.max_stack in
          let parts = body.is.parts in
          let same : y.max_locals + y.max_stack ≡ slots =
          (λ j. parts.max_locals j + parts.max_stack j) ∙ ap (λ (k : Coded). k.items.max_locals + k.items.max_stack) coded in
          let within : 65535 * slots ≤ most_slots = subst FitsIn same fits in
          let short : length wide.coded.insns * slots ≤ 65535 * slots = mul-le-mul_right slots (insns_short t.pool wide.method wide.coded wide.is) in
          let fault = wide.wide.fault in
          omega (arith, within, short, fault)

      by : Bodiless t number ⊎ IsListed (h.twins ++ h.added ∷ []) number → ⊥
      by (inl none) =
          let same = same_Some _ _ (sym none.at ∙ wide.at) in
          no_items t.pool wide.method (subst (HasNoCode t.pool) same none.none) wide.coded.items wide.is.items
      by (inr k) =
          of_body k.body (subst (λ (n : ℕ). BodyOfAnySize h.new_names t n k.body) k.number_is (h.read.each k.index k.body k.stands))
          (twin_fits _ _ 0 h.bodies (h.twins ++ h.added ∷ []) h.each source_fits k.index k.body k.stands)

pub not_refused : (originals written : List (List ℕ)) → AllByRecursion UsesFewSlots originals → DifferInId originals → (r : LinkRefusal) → IsSecondRefusal originals written r → ⊥
not_refused originals written few differ _ (too_wide {index = i} {number = number} original text twin at class wide) =
    let same : at.twin.twin.twin ≡ twin = one_class_of text at.twin.twin.twin twin at.twin.twin.twin_is class in
    not_wide original text (all_at UsesFewSlots originals i original few at.original_is) at.twin number (subst (λ (c : ClassFile). IsTooWide c number) (sym same) wide)
not_refused originals written few differ _ (one_id {first = i} {second = j} a b x y less first second same) =
    differ i j a b less first.original_is second.original_is first.twin.changed second.twin.changed same
