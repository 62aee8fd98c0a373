-- What a Code attribute holds is not longer than its bytes.
use Rattle.std.proofs.Common.{◌≡◌, ◌⊎◌, inl, inr, ℕ, zero, suc, ◌+◌, ◌<◌, ◌≤◌, List, ◌∷◌, ◌++◌, length, All, get_or, sym, ◌∙◌, ap, subst, arith}
use Rattle.std.proofs.lemmas.Bool.{cases_lt}
use Rattle.std.proofs.lemmas.List.{length-append, get_or_default}
use Rattle.std.proofs.lemmas.List.Elements.{All-cons, All-nil}
use Rattle.jc_bytes.specs.Grammar.{times}
use Rattle.jc_pool.specs.Pool.{PoolValue}
use Rattle.jc_bytes.specs.Counted.{counted}
use Rattle.jc_class.specs.ClassFormat.{HasText, attribute}
use Rattle.jc_class.specs.declared.class_file.Attribute.{Attribute}
use Rattle.jc_class.specs.declared.class_file.Member.{Member}
use Rattle.jc_methods.specs.Starts.{AreStarts}
use Rattle.jc_insn.proofs.DecodedInsnLaws.{are_starts}
use Rattle.jc_body.specs.declared.items.CodeItems.{CodeItems}
use Rattle.jc_body.specs.declared.items.Row.{Row}
use Rattle.jc_body.specs.declared.coded.Coded.{Coded}
use Rattle.jc_body.specs.CodeForm.{row, code_form}
use Rattle.jc_body.specs.Coded.{IsCoded}
use Rattle.jc_methods.proofs.StartsLaws.{rising}

in_two : (bytes front rest : List ℕ) → bytes ≡ front ++ rest → (length front ≤ length bytes) × (length rest ≤ length bytes)
in_two bytes front rest parts =
    let sum : length bytes ≡ length front + length rest = ap (λ (l : List ℕ). length l) parts ∙ length-append front rest in
    (omega (arith, sum), omega (arith, sum))

-- ---- rows

row_some : (text : List ℕ) (r : Row) → row.Text text r → 1 ≤ length text
row_some text r t = let short = in_two text t.1 t.2 t.3 in omega (arith, short.0, t.4.size)

rows_short : (n : ℕ) (text : List ℕ) (rows : List Row) → (times n row).Text text rows → length rows ≤ length text
rows_short zero text rows t = let none : length rows ≡ 0 = ap (λ (l : List Row). length l) t.1 in omega (arith, none)
rows_short (suc n) text rows t =
    let more = t.5 in
    let behind = rows_short n more.1 more.0 more.4 in
    let some = row_some t.1 t.0 t.4 in
    let sum : length text ≡ length t.1 + length t.2 = ap (λ (l : List ℕ). length l) t.3 ∙ length-append t.1 t.2 in
    let rest = in_two t.2 more.1 more.2 more.3 in
    let count : length rows ≡ length (t.0 ∷ more.0) = ap (λ (l : List Row). length l) more.5.1 in
    omega (arith, behind, some, sum, rest.0, count)

counted_rows : (text : List ℕ) (rows : List Row) → (counted row).Text text rows → length rows ≤ length text
counted_rows text rows t = let short = in_two text t.1 t.2 t.3 in let inside = rows_short t.0 t.2 rows t.5 in omega (arith, short.1, inside)

-- ---- attributes

module _ (pool : PoolValue) where
  body_short : (text : List ℕ) (a : Attribute) → (attribute (HasText pool)).Text text a → length a.body ≤ length text
  body_short text a t =
      let one = in_two text t.1 t.2 t.3 in
      let size = t.5 in
      let two = in_two t.2 size.1 size.2 size.3 in
      let body = size.5 in
      let three = in_two size.2 body.1 body.2 body.3 in
      let is : length a.body ≡ length body.1 = ap (λ (b : Attribute). length b.body) body.5.1 ∙ ap (λ (l : List ℕ). length l) (sym body.4.1) in
      omega (arith, one.1, two.1, three.0, is)

  attributes_short : (most n : ℕ) (text : List ℕ) (attributes : List Attribute) → length text ≤ most
      → (times n (attribute (HasText pool))).Text text attributes → All (λ a. length a.body ≤ most) attributes
  attributes_short most zero text attributes few t = subst (All (λ a. length a.body ≤ most)) (sym t.1) (All-nil (λ (a : Attribute). length a.body ≤ most))
  attributes_short most (suc n) text attributes few t =
      let more = t.5 in
      let parts = in_two text t.1 t.2 t.3 in
      let rest = in_two t.2 more.1 more.2 more.3 in
      let first = body_short t.1 t.0 t.4 in
      let behind = attributes_short most n more.1 more.0 (omega (arith, rest.0, parts.1, few)) more.4 in
      subst (All (λ a. length a.body ≤ most)) (sym more.5.1) (All-cons (λ (a : Attribute). length a.body ≤ most) t.0 more.0 (omega (arith, first, parts.0, few)) behind)

  counted_attributes : (most : ℕ) (text : List ℕ) (attributes : List Attribute) → length text ≤ most
      → (counted (attribute (HasText pool))).Text text attributes → All (λ a. length a.body ≤ most) attributes
  counted_attributes most text attributes few t = let short = in_two text t.1 t.2 t.3 in attributes_short most t.0 t.2 attributes (omega (arith, short.1, few)) t.5

  -- ---- the whole

  pub record AreShort (most : ℕ) (items : CodeItems) : Type 0 where
    pub rows : length items.rows ≤ most
    pub attributes : All (λ a. length a.body ≤ most) items.attributes

  pub items_short : (most : ℕ) (bytes : List ℕ) (items : CodeItems) → length bytes ≤ most → (code_form pool).Text bytes items → AreShort most items
  unfolding code_form
  items_short most bytes items few t =
      let one = in_two bytes t.1 t.2 t.3 in
      let locals = t.5 in
      let two = in_two t.2 locals.1 locals.2 locals.3 in
      let size = locals.5 in
      let three = in_two locals.2 size.1 size.2 size.3 in
      let code = size.5 in
      let four = in_two size.2 code.1 code.2 code.3 in
      let rows = code.5 in
      let five = in_two code.2 rows.1 rows.2 rows.3 in
      let attributes = rows.5 in
      let six = in_two rows.2 attributes.1 attributes.2 attributes.3 in
      let rest : length rows.2 ≤ most = omega (arith, one.1, two.1, three.1, four.1, five.1, few) in
      let is = attributes.5.1 in
      let count : length items.rows ≡ length rows.0 = ap (λ (i : CodeItems). length i.rows) is in
      let counted_is = counted_rows rows.1 rows.0 rows.4 in
      let each = counted_attributes most attributes.1 attributes.0 (omega (arith, six.0, rest)) attributes.4 in
      record {
        rows = omega (arith, count, counted_is, five.0, four.1, three.1, two.1, one.1, few);
        attributes = subst (λ (i : CodeItems). All (λ a. length a.body ≤ most) i.attributes) (sym is) each;
      }

-- ---- code

module _ (pool : PoolValue) (method : Member) (coded : Coded) (is : IsCoded pool method coded) where
  pub starts_of : AreStarts (length coded.insns) (length coded.items.code) coded.starts
  starts_of = are_starts coded.items.code coded.insns coded.starts is.spelled

  pub code_short : length coded.items.code ≤ 65535
  code_short = is.items.text.few

  at_least : (k : ℕ) → k ≤ length coded.insns → k ≤ get_or coded.starts k 0
  at_least zero inside = omega arith
  at_least (suc k) inside =
      let before = at_least k (omega (arith, inside)) in
      let next = subst (λ (n : ℕ). get_or coded.starts k 0 < get_or coded.starts n 0) (let e : k + 1 ≡ suc k = omega arith in e) (starts_of.rising k (omega (arith, inside))) in
      omega (arith, before, next)

  pub insns_short : length coded.insns ≤ 65535
  insns_short = let all = at_least (length coded.insns) (omega arith) in omega (arith, all, starts_of.end, code_short)

  -- each offset of an instruction is at most the code's length
  pub starts_within : All (λ start. start < length coded.items.code + 1) coded.starts
  starts_within k default inside =
      let is : get_or coded.starts k default ≡ get_or coded.starts k 0 = get_or_default coded.starts k default 0 inside in
      let most = at_most k (cases_lt k (length coded.insns)) inside in
      omega (arith, is, most)
    where
      at_most : (k : ℕ) → (k < length coded.insns) ⊎ (length coded.insns ≤ k) → k < length coded.starts → get_or coded.starts k 0 ≤ length coded.items.code
      at_most k (inl before) inside = let up = rising (length coded.insns) (length coded.items.code) coded.starts starts_of k (length coded.insns)
          before (omega arith) in omega (arith, up, starts_of.end)
      at_most k (inr last) inside =
          let same : k ≡ length coded.insns = omega (arith, last, inside, starts_of.one_more) in
          let end = subst (λ (n : ℕ). get_or coded.starts n 0 ≡ length coded.items.code) (sym same) starts_of.end in
          omega (arith, end)
