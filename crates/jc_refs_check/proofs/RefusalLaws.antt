-- The first instruction at which the check fails.
use Rattle.std.proofs.Common.{◌≡◌, ◌⊎◌, inl, inr, ⊎_elim, ℕ, true, length, Some, refl, sym, ◌∙◌, ap, ap₂, subst, arith}
use Rattle.std.specs.Prelude.{⊤, IfOk, IfErr, MatchResult, Result, Ok, Err, slice_get}
use Rattle.std.proofs.lemmas.Bool.{cases_lt}
use Rattle.std.proofs.lemmas.Option.{slice_get_within}
use Rattle.jc_bytes.specs.Failing.{Said}
use Rattle.jc_bytes.specs.declared.fail.Fail.{Fail}
use Rattle.jc_bytes.specs.declared.fail.Fail.TheVariants as fails
use Rattle.jc_methods.specs.declared.body.Body.{Body}
use Rattle.jc_programs.specs.declared.program.Program.{Program}
use Rattle.jc_programs.specs.declared.program.Linked.{Linked}
use Rattle.jc_programs.specs.declared.run_end.Entry.{Entry}
use Rattle.jc_programs.specs.Members.{class_at}
use Rattle.jc_machine_model.specs.Methods.{is_enterable}
use Rattle.jc_refs_check.specs.declared.ref_refusal.RefRefusal.{RefRefusal}
use Rattle.jc_refs_check.specs.RefsOk.{IsSuited, IsEntered, RefsOk, StandsBefore, FirstRefFault}
use Rattle.jc_refs_check.specs.Answers.{ref_refusal_of, IsRefRefusal}
use Rattle.jc_refs_check.proofs.CheckingLaws.{said_more}
use Rattle.jc_refs_check.specs.MethodAnswers.{method_entry, IsClassRefusal, AreClassesOk}

some_is : {X : Type 0} (x y : X) → Some x ≡ Some y → x ≡ y
some_is x y e = cc

-- where all classes pass the program does
pub all_ok : (program : Program) → AreClassesOk program (length program.classes) → RefsOk program
all_ok program ok method b i entered =
    ok method.class entered.linked (slice_get_within program.classes method.class entered.linked entered.class_is) entered.class_is
    method.method b (slice_get_within entered.linked.bodies method.method b entered.body_is) entered.body_is entered.enterable i entered.within

-- the first method of the first class that doesn't pass
module _ (program : Program) (class : ℕ) (linked : Linked) (refusal : RefRefusal) (ok : AreClassesOk program class) (is : class_at program class ≡ Some linked)
    (r : IsClassRefusal program class linked refusal) where
  here : Entry
  here = method_entry class r.method

  earlier : (m : Entry) (c : Body) (j : ℕ) → IsEntered program m c j → StandsBefore m j (method_entry class r.method) r.refused.place → IsSuited program m c j
  earlier m c j e (inl low) =
      ok m.class e.linked low e.class_is m.method c (slice_get_within e.linked.bodies m.method c e.body_is) e.body_is e.enterable j e.within
  earlier m c j e (inr (same, inl low)) =
      let one : e.linked ≡ linked = some_is e.linked linked (sym e.class_is ∙ ap (class_at program) same ∙ is) in
      let found : slice_get linked.bodies m.method ≡ Some c = ap (λ (l : Linked). slice_get l.bodies m.method) (sym one) ∙ e.body_is in
      subst (λ (k : ℕ). IsSuited program (method_entry k m.method) c j) (sym same)
      (r.before m.method c low found (subst (λ (l : Linked). is_enterable l c ≡ true) one e.enterable) j e.within)
  earlier m c j e (inr (same, inr (method, low))) =
      let one : e.linked ≡ linked = some_is e.linked linked (sym e.class_is ∙ ap (class_at program) same ∙ is) in
      let body : c ≡ r.body = some_is c r.body (sym e.body_is ∙ ap₂ (λ (l : Linked) (k : ℕ). slice_get l.bodies k) one method ∙ r.body_is) in
      subst (λ (k : ℕ). IsSuited program (method_entry k m.method) c j) (sym same)
      (subst (λ (k : ℕ). IsSuited program (method_entry class k) c j) (sym method)
      (subst (λ (d : Body). IsSuited program (method_entry class r.method) d j) (sym body) (r.refused.before j low)))

  pub refused_first : IsRefRefusal program refusal
  refused_first = record {
    method = method_entry class r.method;
    body = r.body;
    place = r.refused.place;
    first = record {
      entered = record { linked = linked; class_is = is; body_is = r.body_is; enterable = r.enterable; within = r.refused.within };
      fails = r.refused.fails;
      before = earlier;
    };
    refusal_is = r.refused.refusal_is;
  }

-- what is answered where a class is refused
pub class_answered : (program : Program) (class : ℕ) (linked : Linked) (r : Result Unit (Fail RefRefusal)) (e : Fail RefRefusal) → r ≡ Err e → AreClassesOk program class
    → class_at program class ≡ Some linked → Said e (IsClassRefusal program class linked) → IfErr r (λ f. Said f (IsRefRefusal program))
class_answered program class linked (Ok u) e is ok there said = tt
class_answered program class linked (Err f) e is ok there said =
    let same : e ≡ f = cc in
    said_more (IsClassRefusal program class linked) (IsRefRefusal program) f (λ refusal r. refused_first program class linked refusal ok there r)
    (subst (λ (x : Fail RefRefusal). Said x (IsClassRefusal program class linked)) same said)

-- ---- there is one

-- the two stand in one order or the other, or are one
in_order : (m : Entry) (i : ℕ) (n : Entry) (j : ℕ) → StandsBefore m i n j ⊎ (StandsBefore n j m i ⊎ ((m.class ≡ n.class) × (m.method ≡ n.method) × (i ≡ j)))
in_order m i n j = ⊎_elim
    (λ low. inl (inl low))
    (λ classes. ⊎_elim
    (λ high. inr (inl (inl high)))
    (λ others. let same : m.class ≡ n.class = omega (arith, classes, others) in ⊎_elim
    (λ low. inl (inr (same, inl low)))
    (λ methods. ⊎_elim
    (λ high. inr (inl (inr (sym same, inl high))))
    (λ rest. let one : m.method ≡ n.method = omega (arith, methods, rest) in ⊎_elim
    (λ low. inl (inr (same, inr (one, low))))
    (λ places. ⊎_elim
    (λ high. inr (inl (inr (sym same, inr (sym one, high)))))
    (λ last. inr (inr (same, one, (let e : i ≡ j = omega (arith, places, last) in e))))
    (cases_lt j i))
    (cases_lt i j))
    (cases_lt n.method m.method))
    (cases_lt m.method n.method))
    (cases_lt n.class m.class))
    (cases_lt m.class n.class)

pub one_first : (program : Program) (m n : Entry) (b c : Body) (i j : ℕ) → FirstRefFault program m b i → FirstRefFault program n c j → ref_refusal_of m b i ≡ ref_refusal_of n c j
one_first program m n b c i j f g = ⊎_elim
    (λ before. absurd (f.fails (g.before m b i f.entered before)))
    (λ others. ⊎_elim
    (λ behind. absurd (g.fails (f.before n c j g.entered behind)))
    (λ same.
    let linked : f.entered.linked ≡ g.entered.linked = some_is f.entered.linked g.entered.linked (sym f.entered.class_is ∙ ap (class_at program) same.0 ∙ g.entered.class_is) in
    let body : b ≡ c = some_is b c (sym f.entered.body_is ∙ ap₂ (λ (l : Linked) (k : ℕ). slice_get l.bodies k) linked same.1 ∙ g.entered.body_is) in
    let place : i ≡ j = same.2 in
    λ x. record { class = same.0 x; method = (body x).method; at = place x })
    others)
    (in_order m i n j)

-- ---- what is answered

pub never_refused : (program : Program) (r : Result Unit (Fail RefRefusal)) → IfErr r (λ e. Said e (IsRefRefusal program)) → RefsOk program → MatchResult r (λ _. ⊤) (λ e. e ≡ fails.Memory)
never_refused program (Ok u) said ok = tt
never_refused program (Err fails.Memory) said ok = refl
never_refused program (Err (fails.Said refusal)) said ok = absurd (said.first.fails (ok said.method said.body said.place said.first.entered))

pub refused_there : (program : Program) (r : Result Unit (Fail RefRefusal)) → IfOk r (λ _. RefsOk program) → IfErr r (λ e. Said e (IsRefRefusal program))
    → (m : Entry) (b : Body) (i : ℕ) → FirstRefFault program m b i → MatchResult r (λ _. ⊥) (λ e. (e ≡ fails.Memory) ⊎ (e ≡ fails.Said (ref_refusal_of m b i)))
refused_there program (Ok u) passes said m b i f = f.fails (passes m b i f.entered)
refused_there program (Err fails.Memory) passes said m b i f = inl refl
refused_there program (Err (fails.Said refusal)) passes said m b i f =
    inr (ap fails.Said (said.refusal_is ∙ one_first program said.method m said.body b said.place i said.first f))
