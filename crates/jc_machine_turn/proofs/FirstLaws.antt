-- The values with which static fields begin, put one class after another in place of others.
use Rattle.std.proofs.Common.{◌≡◌, ℕ, zero, suc, ◌+◌, ◌<◌, List, [], ◌∷◌, ◌++◌, length, map, take, refl, arith, slice_set, slice_index_or, ◌∙◌, ap, sym}
use Rattle.std.specs.Global.{Vec}
use Rattle.std.specs.Vec.{vec_len, with_items}
use Rattle.std.proofs.lemmas.List.{length-map, map-append, take_more_set, with_items_is}
use Rattle.jc_machine_code.specs.declared.prepared.PreparedClass.{PreparedClass}
use Rattle.jc_machine_code.specs.Prepared.{value_of as first_value_of}
use Rattle.jc_machine_memory.specs.declared.value.Value as kept
use Rattle.jc_machine_memory.specs.Values.{value_of}
use Rattle.jc_machine_turn.specs.Contents.{statics_of, first_statics_of}

abbrev pub counts : List PreparedClass → List ℕ
counts classes = map (λ (c : PreparedClass). length c.statics) classes

-- the first so many classes have their first values, and all have as many as before
pub record Begun (statics : List (Vec kept.Value)) (classes : List PreparedClass) (i : ℕ) : Type 0 where
  pub so_far : statics_of (take i statics) ≡ first_statics_of (take i classes)
  pub as_many : map length (statics_of statics) ≡ counts classes

pub as_many_classes : (statics : List (Vec kept.Value)) (classes : List PreparedClass) → map length (statics_of statics) ≡ counts classes
    → length statics ≡ length classes
as_many_classes [] [] same = refl
as_many_classes [] (c ∷ classes) same = absurd (cc)
as_many_classes (v ∷ statics) [] same = absurd (cc)
as_many_classes (v ∷ statics) (c ∷ classes) same =
    let rest : map length (statics_of statics) ≡ counts classes = cc in
    ap suc (as_many_classes statics classes rest)

pub as_many_at : (statics : List (Vec kept.Value)) (classes : List PreparedClass) (i : ℕ) (v : Vec kept.Value) (c : PreparedClass)
    → map length (statics_of statics) ≡ counts classes → i < length classes
    → v ≡ slice_index_or statics i v → c ≡ slice_index_or classes i c → length v.items ≡ length c.statics
as_many_at statics [] i v c same less there here = absurd (omega arith)
as_many_at [] (d ∷ classes) i v c same less there here = absurd (cc)
as_many_at (w ∷ statics) (d ∷ classes) zero v c same less there here =
    let first : length (map value_of w.items) ≡ length d.statics = cc in
    ap (λ (u : Vec kept.Value). length u.items) there ∙ (sym (length-map w.items value_of) ∙ (first ∙ ap (λ (e : PreparedClass). length e.statics) (sym here)))
as_many_at (w ∷ statics) (d ∷ classes) (suc i) v c same less there here =
    let rest : map length (statics_of statics) ≡ counts classes = cc in
    as_many_at statics classes i v c rest (omega arith) there here

same_counts : (statics : List (Vec kept.Value)) (i : ℕ) (v w : Vec kept.Value) → v ≡ slice_index_or statics i v
    → length w.items ≡ length v.items → map length (statics_of (slice_set statics i w)) ≡ map length (statics_of statics)
same_counts [] i v w there same = refl
same_counts (u ∷ statics) zero v w there same =
    ap (λ n. n ∷ map length (statics_of statics)) (length-map w.items value_of
    ∙ (same ∙ (ap (λ (x : Vec kept.Value). length x.items) there ∙ sym (length-map u.items value_of))))
same_counts (u ∷ statics) (suc i) v w there same = ap (λ ns. length (map value_of u.items) ∷ ns) (same_counts statics i v w there same)

take_one_more : (classes : List PreparedClass) (i : ℕ) (c : PreparedClass) → i < length classes → c ≡ slice_index_or classes i c
    → take (suc i) classes ≡ take i classes ++ c ∷ []
take_one_more [] i c less here = absurd (omega arith)
take_one_more (d ∷ classes) zero c less here = ap (λ e. e ∷ []) (sym here)
take_one_more (d ∷ classes) (suc i) c less here = ap (λ cs. d ∷ cs) (take_one_more classes i c (omega arith) here)

pub begun_more : (statics : List (Vec kept.Value)) (classes : List PreparedClass) (i : ℕ) (v : Vec kept.Value) (c : PreparedClass)
    (new : List kept.Value) → Begun statics classes i → i < length classes
    → v ≡ slice_index_or statics i v → c ≡ slice_index_or classes i c → length new ≡ vec_len v → length new ≡ length v.items
    → map value_of new ≡ map first_value_of c.statics
    → Begun (slice_set statics i (with_items v new)) classes (i + 1)
begun_more statics classes i v c new begun less there here long same first =
    let inside : i < length statics = omega (arith, as_many_classes statics classes begun.as_many) in
    let items : (with_items v new).items ≡ new = with_items_is v new long in
    let next : i + 1 ≡ suc i = omega arith in
    record {
      so_far = ap statics_of (take_more_set statics i (with_items v new) inside)
          ∙ (map-append (λ (u : Vec kept.Value). map value_of u.items) (take i statics) (with_items v new ∷ [])
          ∙ (ap (λ vs. vs ++ map value_of (with_items v new).items ∷ []) begun.so_far
          ∙ (ap (λ vs. first_statics_of (take i classes) ++ vs ∷ []) (ap (map value_of) items ∙ first)
          ∙ (sym (map-append (λ (e : PreparedClass). map first_value_of e.statics) (take i classes) (c ∷ []))
          ∙ ap first_statics_of (sym (ap (λ n. take n classes) next ∙ take_one_more classes i c less here))))));
      as_many = same_counts statics i v (with_items v new) there (ap length items ∙ same) ∙ begun.as_many;
    }
