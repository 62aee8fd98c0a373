-- The execution data of several inputs has one union, or one input is the first that is refused.
use Rattle.std.proofs.Common.{◌≡◌, ◌⊎◌, inl, inr, ℕ, zero, suc, ◌+◌, ◌<◌, ◌≤◌, List, [], ◌∷◌, ◌++◌, length, take, get_or, Option, None, Some, option_and_then, refl, sym, ◌∙◌, ap, subst, arith, append_assoc}
use Rattle.std.proofs.lemmas.Bool.{cases_order}
use Rattle.std.proofs.lemmas.List.{append-nil, take_more, take_all}
use Rattle.std.specs.List.{AllByRecursion}
use Rattle.jc_exec.specs.declared.refusal.ExecRefusal.{ExecRefusal}
use Rattle.jc_exec.specs.declared.refusal.ExecRefusal.TheVariants.{BadExec, OtherVersion, Conflict}
use Rattle.jc_exec.specs.Answers.{why_of}
use Rattle.jc_exec.specs.Format.{Block, Blocks}
use Rattle.jc_exec.specs.Refusing.{Refused, bad_exec, other_version, conflict, blocks_of, FirstRefusal, IsTaken, IsRefused}
use Rattle.jc_exec.specs.Store.{Store}
use Rattle.jc_exec.specs.Union.{IsUnion, ReadsOn, union_of}
use Rattle.jc_exec.proofs.AnsweringLaws.{answered}
use Rattle.jc_exec.proofs.ListLaws.{one_list}
use Rattle.jc_exec.proofs.MergingLaws.{merging_makes_union, union_distinct, union_is_merged}
use Rattle.jc_exec.proofs.RefusingLaws.{one_reason, not_both}
use Rattle.jc_exec.proofs.StoringLaws.{own_union, union_append, union_over}
use Rattle.jc_exec.proofs.UnionLaws.{one_union, union_none}
use Rattle.jc_command_exec.specs.ExecData.{BlocksOfAll, IsUnionOf, no_data, IsInput, IsFirstRefused, IsFirstRefusedAlone}
use Rattle.jc_command_work.specs.Step.{Word}

-- ---- the blocks of several texts

blocks_more : (ts : List (List ℕ)) (t : List ℕ) (read more : List Block) → BlocksOfAll ts read → Blocks t more
    → BlocksOfAll (ts ++ t ∷ []) (read ++ more)
blocks_more [] t read more p q = (more, [], ap (λ (l : List Block). l ++ more) p ∙ sym (append-nil more), q, refl)
blocks_more (u ∷ ts) t read more (front, rest, parts, is, later) q =
    (front, rest ++ more, ap (λ (l : List Block). l ++ more) parts ∙ append_assoc front rest more, is, blocks_more ts t rest more later q)

one_reading : (ts : List (List ℕ)) (a b : List Block) → BlocksOfAll ts a → BlocksOfAll ts b → a ≡ b
one_reading [] a b p q = p ∙ sym q
one_reading (t ∷ ts) a b (f, r, parts, is, later) (g, s, parts', is', later') =
    let front : f ≡ g = one_list t f g is is' in
    let rest : r ≡ s = one_reading ts r s later later' in
    parts ∙ (λ i. front i ++ rest i) ∙ sym parts'

-- the blocks of the texts in front, and of those behind
pub record Split (front behind : List (List ℕ)) (read : List Block) : Type 0 where
  pub first : List Block
  pub later : List Block
  pub parts : read ≡ first ++ later
  pub first_blocks : BlocksOfAll front first
  pub later_blocks : BlocksOfAll behind later

split : (front behind : List (List ℕ)) (read : List Block) → BlocksOfAll (front ++ behind) read → Split front behind read
split [] behind read p = record { first = []; later = read; parts = refl; first_blocks = refl; later_blocks = p }
split (t ∷ front) behind read (f, rest, parts, is, later) =
    let s = split front behind rest later in
    record {
      first = f ++ s.first;
      later = s.later;
      parts = parts ∙ ap (λ (l : List Block). f ++ l) s.parts ∙ sym (append_assoc f s.first s.later);
      first_blocks = (f, s.first, refl, is, s.first_blocks);
      later_blocks = s.later_blocks;
    }

-- ---- unions of blocks in front

-- the blocks in front of others have a union where all have
union_front : (bs more : List Block) (t : Store) → IsUnion (bs ++ more) t → (s : Store) × IsUnion bs s
union_front bs more t u = by (union_of no_data bs) refl (sym (union_append no_data bs more) ∙ union_is_merged (bs ++ more) t u)
  where
    by : (o : Option Store) → union_of no_data bs ≡ o → option_and_then (λ x. union_of x more) o ≡ Some t → (s : Store) × IsUnion bs s
    by None is e = absurd cc
    by (Some s) is e = (s, merging_makes_union bs s is)

-- blocks behind those that a store is the union of, and behind its own
own_blocks : (bs : List Block) (s : Store) → IsUnion bs s → IsUnion (blocks_of s) s
own_blocks bs s u = own_union s (union_distinct bs s u)

-- ---- one union

pub union_of_none : IsUnionOf [] no_data
union_of_none = record { read = []; blocks = refl; union = union_none }

pub union_more : (ts : List (List ℕ)) (t : List ℕ) (old new : Store) → IsUnionOf ts old → ReadsOn t old new → IsUnionOf (ts ++ t ∷ []) new
union_more ts t old new u reads =
    let on = reads u.read u.union in record { read = u.read ++ on.0; blocks = blocks_more ts t u.read on.0 u.blocks on.1; union = on.2 }

pub one_union_of : (ts : List (List ℕ)) (s t : Store) → IsUnionOf ts s → IsUnionOf ts t → s ≡ t
one_union_of ts s t u v =
    one_union v.read s t (subst (λ (l : List Block). IsUnion l s) (one_reading ts u.read v.read u.blocks v.blocks) u.union) v.union

-- a text of several that have a union is not refused over the union of those before it
not_refused : (front : List (List ℕ)) (text : List ℕ) (behind : List (List ℕ)) (s t : Store) (why : Refused) → IsUnionOf front s
    → IsUnionOf (front ++ text ∷ behind) t → FirstRefusal s text why → ⊥
not_refused front text behind s t why u v refused = by (split front (text ∷ behind) v.read v.blocks)
  where
    by : Split front (text ∷ behind) v.read → ⊥
    by p =
        let own : List Block = p.later_blocks.0 in
        let rest : List Block = p.later_blocks.1 in
        let first : p.first ≡ u.read = one_reading front p.first u.read p.first_blocks u.blocks in
        let all : v.read ≡ (u.read ++ own) ++ rest = p.parts ∙ (λ i. first i ++ p.later_blocks.2 i) ∙ sym (append_assoc u.read own rest) in
        let m = union_front (u.read ++ own) rest t (subst (λ (l : List Block). IsUnion l t) all v.union) in
        not_both s text why (own, m.0, p.later_blocks.3, union_over u.read (blocks_of s) own s m.0 u.union (own_blocks u.read s u.union) m.1) refused

-- ---- one refusal

why_is : (a b : ExecRefusal) → why_of a ≡ why_of b → a ≡ b
why_is (BadExec p) (BadExec q) e = cc
why_is (BadExec p) (OtherVersion f) e = absurd cc
why_is (BadExec p) (Conflict i a b m n) e = absurd cc
why_is (OtherVersion f) (BadExec q) e = absurd cc
why_is (OtherVersion f) (OtherVersion g) e = cc
why_is (OtherVersion f) (Conflict i a b m n) e = absurd cc
why_is (Conflict i a b m n) (BadExec q) e = absurd cc
why_is (Conflict i a b m n) (OtherVersion g) e = absurd cc
why_is (Conflict i a b m n) (Conflict j c d o p) e = cc

refusal_of : (why : Refused) → (refusal : ExecRefusal) × (why_of refusal ≡ why)
refusal_of (bad_exec place) = (BadExec place, refl)
refusal_of (other_version found) = (OtherVersion found, refl)
refusal_of (conflict id first second m n) = (Conflict id first second m n, refl)

-- a list by the element at a index, and the front of a list by an element of it
parts_at : {X : Type 0} (xs : List X) (p : ℕ) (d : X) → p < length xs → (rest : List X) × (xs ≡ take p xs ++ get_or xs p d ∷ rest)
parts_at [] p d within = absurd (omega (arith, within))
parts_at (x ∷ xs) zero d within = (xs, refl)
parts_at (x ∷ xs) (suc p) d within = let r = parts_at xs p d (omega (arith, within)) in (r.0, ap (λ l. x ∷ l) r.1)

front_at : {X : Type 0} (xs : List X) (p q : ℕ) (d : X) → p < q → p < length xs → (rest : List X) × (take q xs ≡ take p xs ++ get_or xs p d ∷ rest)
front_at xs p zero d before within = absurd (omega (arith, before))
front_at [] p (suc q) d before within = absurd (omega (arith, within))
front_at (x ∷ xs) zero (suc q) d before within = (take q xs, refl)
front_at (x ∷ xs) (suc p) (suc q) d before within =
    let r = front_at xs p q d (omega (arith, before)) (omega (arith, within)) in (r.0, ap (λ l. x ∷ l) r.1)

pub record SameRefusal (index : ℕ) (path : Word) (refusal : ExecRefusal) (index' : ℕ) (path' : Word) (refusal' : ExecRefusal) : Type 0 where
  pub index_is : index ≡ index'
  pub path_is : path ≡ path'
  pub refusal_is : refusal ≡ refusal'

module _ (paths : List Word) (texts : List (List ℕ)) where
  same_path : (p q : ℕ) (a b : Word) (s t : List ℕ) → p ≡ q → IsInput paths texts p a s → IsInput paths texts q b t → a ≡ b
  same_path p q a b s t same x y = x.path_is ∙ ap (λ (n : ℕ). get_or paths n []) same ∙ sym y.path_is

  same_text : (p q : ℕ) (a b : Word) (s t : List ℕ) → p ≡ q → IsInput paths texts p a s → IsInput paths texts q b t → s ≡ t
  same_text p q a b s t same x y = x.text_is ∙ ap (λ (n : ℕ). get_or texts n []) same ∙ sym y.text_is

  pub union_or_refused : (t : Store) (p : ℕ) (a : Word) (r : ExecRefusal) → IsUnionOf texts t → IsFirstRefused paths texts p a r → ⊥
  union_or_refused t p a r u x =
      let parts = parts_at texts p [] x.input.within in
      let all : texts ≡ take p texts ++ x.text ∷ parts.0 = parts.1 ∙ ap (λ (l : List ℕ). take p texts ++ l ∷ parts.0) (sym x.input.text_is) in
      not_refused (take p texts) x.text parts.0 x.store t (why_of r) x.before (subst (λ (l : List (List ℕ)). IsUnionOf l t) all u) x.refused

  not_before : (p q : ℕ) (a b : Word) (r s : ExecRefusal) → p < q → IsFirstRefused paths texts p a r → IsFirstRefused paths texts q b s → ⊥
  not_before p q a b r s before x y =
      let parts = front_at texts p q [] before x.input.within in
      let front : take q texts ≡ take p texts ++ x.text ∷ parts.0 = parts.1
      ∙ ap (λ (l : List ℕ). take p texts ++ l ∷ parts.0) (sym x.input.text_is) in
      not_refused (take p texts) x.text parts.0 x.store y.store (why_of r) x.before
      (subst (λ (l : List (List ℕ)). IsUnionOf l y.store) front y.before) x.refused

  pub one_refused : (p q : ℕ) (a b : Word) (r s : ExecRefusal) → IsFirstRefused paths texts p a r → IsFirstRefused paths texts q b s
      → SameRefusal p a r q b s
  one_refused p q a b r s x y = elim (cases_order p q) [
    | inr (inl less) ↦ absurd (not_before p q a b r s less x y)
    | inr (inr more) ↦ absurd (not_before q p b a s r more y x)
    | inl same ↦
        let text : x.text ≡ y.text = same_text p q a b x.text y.text same x.input y.input in
        let store : x.store ≡ y.store = one_union_of (take q texts) x.store y.store
        (subst (λ (n : ℕ). IsUnionOf (take n texts) x.store) same x.before) y.before in
        let refused : FirstRefusal y.store y.text (why_of r) = subst (λ (t : List ℕ). FirstRefusal y.store t (why_of r)) text
        (subst (λ (z : Store). FirstRefusal z x.text (why_of r)) store x.refused) in
        record {
          index_is = same;
          path_is = same_path p q a b x.text y.text same x.input y.input;
          refusal_is = why_is r s (one_reason y.store y.text (why_of r) (why_of s) refused y.refused);
        }
  ]

-- ---- there is a union or a refusal

taken_or_refused : (bs : List Block) (before : Store) (text : List ℕ) → IsUnion bs before → IsTaken before text ⊎ IsRefused before text
taken_or_refused bs before text u = answered before text (union_distinct bs before u)

-- the union of the first texts, or the first that is refused
abbrev UnionOrRefused : List Word → List (List ℕ) → List (List ℕ) → Type 0
UnionOrRefused paths texts front =
    ((s : Store) × IsUnionOf front s) ⊎ ((index : ℕ) × (path : Word) × (refusal : ExecRefusal) × IsFirstRefused paths texts index path refusal)

one_text_more : (paths : List Word) (texts : List (List ℕ)) (n : ℕ) → n < length texts → UnionOrRefused paths texts (take n texts)
    → UnionOrRefused paths texts (take (n + 1) texts)
one_text_more paths texts n within (inr refused) = inr refused
one_text_more paths texts n within (inl (s, u)) = by (taken_or_refused u.read s (get_or texts n []) u.union)
  where
    by : IsTaken s (get_or texts n []) ⊎ IsRefused s (get_or texts n []) → UnionOrRefused paths texts (take (n + 1) texts)
    by (inl (read, t, blocks, union)) = inl (
      t,
      record {
        read = u.read ++ read;
        blocks =
            subst (λ (l : List (List ℕ)). BlocksOfAll l (u.read ++ read)) (sym (take_more texts n [] within))
            (blocks_more (take n texts) (get_or texts n []) u.read read u.blocks blocks);
        union = union_over (blocks_of s) u.read read s t (own_blocks u.read s u.union) u.union union;
      },
    )
    by (inr (why, refused)) = inr (
      n,
      get_or paths n [],
      (refusal_of why).0,
      record {
        text = get_or texts n [];
        input = record { within = within; path_is = refl; text_is = refl };
        store = s;
        before = u;
        refused = subst (FirstRefusal s (get_or texts n [])) (sym (refusal_of why).1) refused;
      },
    )

first_texts : (paths : List Word) (texts : List (List ℕ)) (n : ℕ) → n ≤ length texts → UnionOrRefused paths texts (take n texts)
first_texts paths texts zero within = inl (no_data, union_of_none)
first_texts paths texts (suc n) within =
    let more : suc n ≡ n + 1 = omega arith in
    subst (λ (k : ℕ). UnionOrRefused paths texts (take k texts)) (sym more)
    (one_text_more paths texts n (omega (arith, within)) (first_texts paths texts n (omega (arith, within))))

pub some_union_or_refused : (paths : List Word) (texts : List (List ℕ)) → UnionOrRefused paths texts texts
some_union_or_refused paths texts =
    subst (UnionOrRefused paths texts) (take_all (length texts) texts (omega arith)) (first_texts paths texts (length texts) (omega arith))

-- ---- each text alone

abbrev pub IsData : List ℕ → Type 0
IsData t = (store : Store) × IsUnionOf (t ∷ []) store

data_not_refused : (text : List ℕ) (why : Refused) → IsData text → FirstRefusal no_data text why → ⊥
data_not_refused text why holds refused = not_refused [] text [] no_data holds.0 why union_of_none holds.1 refused

data_at : (front : List (List ℕ)) (text : List ℕ) (behind : List (List ℕ)) → AllByRecursion IsData (front ++ text ∷ behind) → IsData text
data_at [] text behind all = all.0
data_at (t ∷ front) text behind all = data_at front text behind all.1

pub data_more : (ts : List (List ℕ)) (t : List ℕ) → AllByRecursion IsData ts → IsData t → AllByRecursion IsData (ts ++ t ∷ [])
data_more [] t all holds = (holds, tt)
data_more (u ∷ ts) t all holds = (all.0, data_more ts t all.1 holds)

module _ (paths : List Word) (texts : List (List ℕ)) where
  pub data_or_refused : (p : ℕ) (a : Word) (r : ExecRefusal) → AllByRecursion IsData texts → IsFirstRefusedAlone paths texts p a r → ⊥
  data_or_refused p a r all x =
      let parts = parts_at texts p [] x.input.within in
      let whole : texts ≡ take p texts ++ x.text ∷ parts.0 = parts.1 ∙ ap (λ (l : List ℕ). take p texts ++ l ∷ parts.0) (sym x.input.text_is) in
      data_not_refused x.text (why_of r) (data_at (take p texts) x.text parts.0 (subst (AllByRecursion IsData) whole all)) x.refused

  alone_not_before : (p q : ℕ) (a b : Word) (r s : ExecRefusal) → p < q → IsFirstRefusedAlone paths texts p a r
      → IsFirstRefusedAlone paths texts q b s → ⊥
  alone_not_before p q a b r s before x y =
      let parts = front_at texts p q [] before x.input.within in
      let front : take q texts ≡ take p texts ++ x.text ∷ parts.0 = parts.1
      ∙ ap (λ (l : List ℕ). take p texts ++ l ∷ parts.0) (sym x.input.text_is) in
      data_not_refused x.text (why_of r) (data_at (take p texts) x.text parts.0 (subst (AllByRecursion IsData) front y.before)) x.refused

  pub one_refused_alone : (p q : ℕ) (a b : Word) (r s : ExecRefusal) → IsFirstRefusedAlone paths texts p a r → IsFirstRefusedAlone paths texts q b s
      → SameRefusal p a r q b s
  one_refused_alone p q a b r s x y = elim (cases_order p q) [
    | inr (inl less) ↦ absurd (alone_not_before p q a b r s less x y)
    | inr (inr more) ↦ absurd (alone_not_before q p b a s r more y x)
    | inl same ↦
        let text : x.text ≡ y.text = same_text paths texts p q a b x.text y.text same x.input y.input in
        let refused : FirstRefusal no_data y.text (why_of r) = subst (λ (t : List ℕ). FirstRefusal no_data t (why_of r)) text x.refused in
        record {
          index_is = same;
          path_is = same_path paths texts p q a b x.text y.text same x.input y.input;
          refusal_is = why_is r s (one_reason no_data y.text (why_of r) (why_of s) refused y.refused);
        }
  ]

abbrev DataOrRefused : List Word → List (List ℕ) → List (List ℕ) → Type 0
DataOrRefused paths texts front =
    AllByRecursion IsData front ⊎ ((index : ℕ) × (path : Word) × (refusal : ExecRefusal) × IsFirstRefusedAlone paths texts index path refusal)

data_or_refusal : (text : List ℕ) → IsData text ⊎ IsRefused no_data text
data_or_refusal text = by (taken_or_refused [] no_data text union_none)
  where
    by : IsTaken no_data text ⊎ IsRefused no_data text → IsData text ⊎ IsRefused no_data text
    by (inl (read, s, blocks, union)) = inl (s, record { read = read; blocks = (read, [], sym (append-nil read), blocks, refl); union = union })
    by (inr refused) = inr refused

one_data_more : (paths : List Word) (texts : List (List ℕ)) (n : ℕ) → n < length texts → DataOrRefused paths texts (take n texts)
    → DataOrRefused paths texts (take (n + 1) texts)
one_data_more paths texts n within (inr refused) = inr refused
one_data_more paths texts n within (inl all) = by (data_or_refusal (get_or texts n []))
  where
    by : IsData (get_or texts n []) ⊎ IsRefused no_data (get_or texts n []) → DataOrRefused paths texts (take (n + 1) texts)
    by (inl holds) = inl (subst (AllByRecursion IsData) (sym (take_more texts n [] within)) (data_more (take n texts) (get_or texts n []) all holds))
    by (inr (why, refused)) = inr (
      n,
      get_or paths n [],
      (refusal_of why).0,
      record {
        text = get_or texts n [];
        input = record { within = within; path_is = refl; text_is = refl };
        before = all;
        refused = subst (FirstRefusal no_data (get_or texts n [])) (sym (refusal_of why).1) refused;
      },
    )

first_data : (paths : List Word) (texts : List (List ℕ)) (n : ℕ) → n ≤ length texts → DataOrRefused paths texts (take n texts)
first_data paths texts zero within = inl tt
first_data paths texts (suc n) within =
    let more : suc n ≡ n + 1 = omega arith in
    subst (λ (k : ℕ). DataOrRefused paths texts (take k texts)) (sym more)
    (one_data_more paths texts n (omega (arith, within)) (first_data paths texts n (omega (arith, within))))

pub some_data_or_refused : (paths : List Word) (texts : List (List ℕ)) → DataOrRefused paths texts texts
some_data_or_refused paths texts =
    subst (DataOrRefused paths texts) (take_all (length texts) texts (omega arith)) (first_data paths texts (length texts) (omega arith))
