-- The answer of a command on execution data and class files is one, where one thing is made of them.
use Rattle.std.proofs.Common.{◌≡◌, ⊎_elim, ℕ, zero, suc, List, [], ◌∷◌, ◌++◌, length, take, drop, map, Option, None, Some, refl, sym, ◌∙◌, ap, ap₂, subst, arith}
use Rattle.std.specs.Option.{option_to_list}
use Rattle.std.specs.List.{AllByRecursion}
use Rattle.std.proofs.lemmas.List.{take_all}
use Rattle.jc_exec.specs.declared.hits.ClassHits.{ClassHits}
use Rattle.jc_exec.specs.declared.refusal.ExecRefusal.{ExecRefusal}
use Rattle.jc_exec.specs.Store.{Store}
use Rattle.jc_report.specs.declared.row.Counted.{Counted}
use Rattle.jc_command_work.specs.Part.{End, Outcome, gives, stops}
use Rattle.jc_command_work.specs.declared.status.Fault.{Fault}
use Rattle.jc_command_work.specs.declared.status.Fault.TheVariants as fault
use Rattle.jc_command_work.specs.Step.{Word, Write, IsFile, to_file, to_err}
use Rattle.jc_command_work.specs.OneWay.{IsOver}
use Rattle.jc_command_work.specs.Causes.{IsRefusal}
use Rattle.jc_command_work.specs.Answered.{OneAnswer, HasOneAnswer, refusal_of}
use Rattle.jc_command_work.proofs.AnsweredLaws.{all_files}
use Rattle.jc_command_work.proofs.OneWork.{gives_or_stops, same_end}
use Rattle.jc_command_exec.specs.ExecData.{IsUnionOf, IsFirstRefused, no_data}
use Rattle.jc_command_exec.proofs.ExecDataLaws.{one_union_of, union_of_none, union_or_refused, one_refused, some_union_or_refused}
use Rattle.jc_command_classes.specs.Report.{ReportedFile, AreItems, data_texts, class_texts, lines_of, changed_of, first_clash, first_of_each_id, report_text, IsReport}
use Rattle.jc_command_classes.specs.Report.{DataAnswers, made, data_refused, data_clashes}
use Rattle.jc_command_classes.specs.ReportSteps.{counted_classes}
use Rattle.jc_command_classes.proofs.CountedLaws.{are_counted, all_counted}
use Rattle.jc_command_classes.proofs.ReportLaws.{one_items, some_items, one_clash, no_clash_in_front, none_clashes}

-- one thing is made
pub record OneMade {X : Type 0} (Is : X → Type 0) : Type 0 where
  pub value : X
  pub holds : Is value
  pub only : (other : X) → Is other → other ≡ value

module _ {X : Type 0} (Makes : List ClassHits → List ReportedFile → X → Type 0) (exec : Option Word) (texts : List (List ℕ)) where
  -- an answer, by what decided it
  data ByData (answer : Outcome X) : Type 0 where
    by_items : (store : Store) (items : List ReportedFile) (value : X) → IsUnionOf (data_texts exec texts) store → AreItems (class_texts exec texts) items
        → first_clash store.classes items ≡ None → Makes store.classes items value → answer ≡ gives value → ByData answer
    by_refusal : (index : ℕ) (path : Word) (refusal : ExecRefusal) → IsFirstRefused (option_to_list exec) (data_texts exec texts) index path refusal
        → answer ≡ stops (refusal_of path (fault.Exec index refusal)) → ByData answer
    by_clash : (path : Word) (store : Store) (count : ℕ) (items : List ReportedFile) (refusal : ExecRefusal) → exec ≡ Some path → IsUnionOf (data_texts exec texts) store
        → AreItems (take count (class_texts exec texts)) items → first_clash store.classes items ≡ Some refusal
        → answer ≡ stops (refusal_of path (fault.Exec 0 refusal)) → ByData answer

  decided_by : (answer : Outcome X) → DataAnswers Makes exec texts answer → ByData answer
  decided_by answer (made store items value union are none makes) = by_items store items value union are none makes refl
  decided_by answer (data_refused index path refusal is) = by_refusal index path refusal is refl
  decided_by answer (data_clashes path store count items refusal is union are clash) = by_clash path store count items refusal is union are clash refl

  -- two paths of one file of execution data
  same_path : (p q : Word) → exec ≡ Some p → exec ≡ Some q → p ≡ q
  same_path p q e f = cc

  items_or_clash : (s t : Store) (count : ℕ) (xs ys : List ReportedFile) (r : ExecRefusal) → IsUnionOf (data_texts exec texts) s → AreItems (class_texts exec texts) xs
      → first_clash s.classes xs ≡ None → IsUnionOf (data_texts exec texts) t → AreItems (take count (class_texts exec texts)) ys
      → first_clash t.classes ys ≡ Some r → ⊥
  items_or_clash s t count xs ys r u p none v q e =
      let same : t ≡ s = one_union_of (data_texts exec texts) t s v u in
      no_clash_in_front s.classes (class_texts exec texts) count xs ys r p q none (subst (λ (z : Store). first_clash z.classes ys ≡ Some r) same e)

  module _ (one : (records : List ClassHits) (items : List ReportedFile) → OneMade (Makes records items)) where
    same_value : (s t : Store) (xs ys : List ReportedFile) (x y : X) → s ≡ t → xs ≡ ys → Makes s.classes xs x → Makes t.classes ys y → x ≡ y
    same_value s t xs ys x y stores items m n =
        let own = one t.classes ys in
        let moved : Makes t.classes ys x = subst (λ (l : List ReportedFile). Makes t.classes l x) items (subst (λ (z : Store). Makes z.classes xs x) stores m) in
        own.only x moved ∙ sym (own.only y n)

    one_by_data : (a b : Outcome X) → ByData a → ByData b → a ≡ b
    one_by_data a b (by_items s xs x u p none m e) (by_items t ys y v q none' n f) =
        e
        ∙ ap (λ (z : X). let o : Outcome X = gives z in o)
        (same_value s t xs ys x y (one_union_of (data_texts exec texts) s t u v) (one_items (class_texts exec texts) xs ys p q) m n)
        ∙ sym f
    one_by_data a b (by_items s xs x u p none m e) (by_refusal index path refusal is f) =
        absurd (union_or_refused (option_to_list exec) (data_texts exec texts) s index path refusal u is)
    one_by_data a b (by_items s xs x u p none m e) (by_clash path t count ys r is v q clash f) = absurd (items_or_clash s t count xs ys r u p none v q clash)
    one_by_data a b (by_refusal index path refusal is e) (by_items t ys y v q none n f) =
        absurd (union_or_refused (option_to_list exec) (data_texts exec texts) t index path refusal v is)
    one_by_data a b (by_refusal i p r is e) (by_refusal j q s is' f) =
        let same = one_refused (option_to_list exec) (data_texts exec texts) i j p q r s is is' in
        e ∙ (λ k. stops (refusal_of (same.path_is k) (fault.Exec (same.index_is k) (same.refusal_is k)))) ∙ sym f
    one_by_data a b (by_refusal index path refusal is e) (by_clash path' t count ys r is' v q clash f) =
        absurd (union_or_refused (option_to_list exec) (data_texts exec texts) t index path refusal v is)
    one_by_data a b (by_clash path s count xs r is u p clash e) (by_items t ys y v q none n f) = absurd (items_or_clash t s count ys xs r v q none u p clash)
    one_by_data a b (by_clash path s count xs r is u p clash e) (by_refusal index path' refusal is' f) =
        absurd (union_or_refused (option_to_list exec) (data_texts exec texts) s index path' refusal u is')
    one_by_data a b (by_clash path s m xs r is u p clash e) (by_clash path' t n ys r' is' v q clash' f) =
        let same_store : s ≡ t = one_union_of (data_texts exec texts) s t u v in
        let same_refusal : r ≡ r' = one_clash t.classes (class_texts exec texts) m n xs ys r r' p q
        (subst (λ (z : Store). first_clash z.classes xs ≡ Some r) same_store clash) clash' in
        e ∙ ap₂ (λ (w : Word) (x : ExecRefusal). let o : Outcome X = stops (refusal_of w (fault.Exec 0 x)) in o) (same_path path path' is is') same_refusal ∙ sym f

    -- ---- there is an answer

    with_items : (store : Store) (items : List ReportedFile) (clash : Option ExecRefusal) → IsUnionOf (data_texts exec texts) store
        → AreItems (class_texts exec texts) items → first_clash store.classes items ≡ clash
        → ((r : ExecRefusal) → first_clash store.classes items ≡ Some r → (path : Word) × (exec ≡ Some path)) → (answer : Outcome X) × IsOver answer × DataAnswers Makes exec texts answer
    with_items store items None u are none named =
        let own = one store.classes items in
        (gives own.value, tt, made store items own.value u are none own.holds)
    with_items store items (Some r) u are clash named =
        let path = named r clash in
        let all = take_all (length (class_texts exec texts)) (class_texts exec texts) (omega arith) in (
          stops (refusal_of path.0 (fault.Exec 0 r)),
          tt,
          data_clashes path.0 store (length (class_texts exec texts)) items r path.1 u (subst (λ (ts : List (List ℕ)). AreItems ts items) (sym all) are) clash,
        )

    one_of : (answer : Outcome X) × IsOver answer × DataAnswers Makes exec texts answer → OneAnswer (DataAnswers Makes exec texts)
    one_of (answer, over, is) = record {
      answer = answer;
      over = over;
      holds = is;
      only = λ b other. one_by_data b answer (decided_by b other) (decided_by answer is);
    }

  refusal_is : (path : Word) (why : Fault) (end : End) → ◌≡◌ {A = Outcome X} (stops end) (stops (refusal_of path why)) → IsRefusal end
  refusal_is path why end is = subst IsRefusal (same_end X (refusal_of path why) end (stops end) is refl) tt

  refuses : (end : End) → ByData (stops end) → IsRefusal end
  refuses end (by_items store items value union are none makes is) = absurd (gives_or_stops value end (sym is))
  refuses end (by_refusal index path refusal first is) = refusal_is path (fault.Exec index refusal) end is
  refuses end (by_clash path store count items refusal named union are clash is) = refusal_is path (fault.Exec 0 refusal) end is

-- where no execution data is named nothing clashes
clash_named : (exec : Option Word) (texts : List (List ℕ)) (store : Store) (items : List ReportedFile) (r : ExecRefusal) → IsUnionOf (data_texts exec texts) store
    → first_clash store.classes items ≡ Some r → (path : Word) × (exec ≡ Some path)
clash_named None texts store items r union clash =
    let none : first_clash store.classes items ≡ None =
    subst (λ (s : Store). first_clash s.classes items ≡ None) (one_union_of [] no_data store union_of_none union) (none_clashes items) in
    absurd (differ (sym none ∙ clash))
  where
    differ : None ≡ Some r → ⊥
    differ e = cc
clash_named (Some path) texts store items r union clash = (path, refl)

-- the files behind the first ones
files_behind : (n : ℕ) (texts : List (List ℕ)) → AllByRecursion IsFile texts → AllByRecursion IsFile (drop n texts)
files_behind zero texts files = files
files_behind (suc n) [] files = tt
files_behind (suc n) (t ∷ texts) files = files_behind n texts files.1

module _ {X : Type 0} (Makes : List ClassHits → List ReportedFile → X → Type 0) where
  pub data_has_one : ((records : List ClassHits) (items : List ReportedFile) → OneMade (Makes records items)) → (exec : Option Word) (paths : List Word)
      → HasOneAnswer (option_to_list exec ++ paths) (DataAnswers Makes exec)
  data_has_one one exec paths texts are =
      let files = files_behind (length (option_to_list exec)) texts (all_files (option_to_list exec ++ paths) texts are) in
      one_of Makes exec texts one
      (⊎_elim
      (λ union.
      let items = some_items (class_texts exec texts) files in
      with_items Makes exec texts one union.0 items.0 (first_clash union.0.classes items.0) union.1 items.1 refl
      (λ r clash. clash_named exec texts union.0 items.0 r union.1 clash))
      (λ refused. (stops (refusal_of refused.1 (fault.Exec refused.0 refused.2)), tt, data_refused refused.0 refused.1 refused.2 refused.3))
      (some_union_or_refused (option_to_list exec) (data_texts exec texts)))

  pub data_refuses : (exec : Option Word) (texts : List (List ℕ)) (end : End) → DataAnswers Makes exec texts (stops end) → IsRefusal end
  data_refuses exec texts end is = refuses Makes exec texts end (decided_by Makes exec texts (stops end) is)

-- ---- the report

pub one_report : (out name : Word) (paths : List Word) (records : List ClassHits) (items : List ReportedFile) → OneMade (IsReport out name paths records items)
one_report out name paths records items = record {
  value = writes (counted_classes records items);
  holds = (counted_classes records items, are_counted records (first_of_each_id (changed_of items)), refl);
  only = λ other is. is.2 ∙ ap writes (all_counted records (first_of_each_id (changed_of items)) is.0 is.1);
}
  where
    writes : List Counted → List Write
    writes counted = map to_err (lines_of paths items) ++ to_file out (report_text name counted) ∷ []
