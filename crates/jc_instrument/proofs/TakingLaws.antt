-- A pool that takes contents one after the other takes all of them, or they are too much for it.
use Rattle.std.proofs.Common.{◌≡◌, inl, inr, Bool, if◌then◌else◌, ℕ, zero, suc, ℤ, pos, ◌+◌, ◌-◌, ◌<◌, ◌≤◌, List, [], ◌∷◌, ◌++◌, length, map, take, drop, get_or, OnOk, IfErr, Result, Ok, Err, refl, sym, ◌∙◌, ap, ap₂, subst, arith, drop-cons}
use Rattle.std.proofs.lemmas.Bool.{lt-leb}
use Rattle.std.proofs.lemmas.List.{map-append, take-append-drop, take_more}
use Rattle.jc_bytes.specs.PlainLists.{numbers_from}
use Rattle.jc_bytes.specs.declared.fail.Fail.{Fail}
use Rattle.jc_bytes.specs.declared.fail.Fail.TheVariants as fails
use Rattle.jc_pool.specs.Adding.{Extends, HasIntegers, IsTooLong, RefusesFull}
use Rattle.jc_methods.specs.ProbeMembers.{most_short}
use Rattle.jc_pool.specs.Pool.{PoolValue}
use Rattle.jc_pool.specs.declared.add.PoolFull.{PoolFull}
use Rattle.jc_pool.specs.declared.index.Naming.TheVariants as naming
use Rattle.jc_pool.proofs.AddedLaws.{some_utf8, some_naming, some_integer, some_long}
use Rattle.jc_pool.proofs.AddedLinkedLaws.{handle_extends, computed_extends, some_handle, some_computed}
use Rattle.jc_pool.proofs.AddedMemberLaws.{some_signature, some_member}
use Rattle.jc_pool.proofs.AddingLaws.{utf8_extends, class_extends, has_naming_extends, signature_extends, member_extends, same_extends, extends_more, put_extends}
use Rattle.jc_instrument.specs.Contents.{Content, text_entry, class_entry, string_entry, integer_entry, long_entry, signature_entry, member_entry, handle_entry, computed_entry, Takes, TakesEach}
use Rattle.jc_instrument.specs.Needed.{count_needs}
use Rattle.jc_instrument.specs.Taking.{content_needed, contents_of, IsTooMuch, RefusesEach}
use Rattle.jc_instrument.specs.declared.needs.Need.{Need}
use Rattle.jc_instrument.specs.declared.needs.Need.TheVariants as needs
use Rattle.jc_instrument.proofs.GrownPoolLaws.{longer}

-- ---- it grows

takes_extends : (old new : PoolValue) (c : Content) (place : ℕ) → Takes old c new place → Extends old new
takes_extends old new (text_entry text) place takes = utf8_extends old new text place takes
takes_extends old new (class_entry name) place takes = class_extends old new name place takes
takes_extends old new (string_entry text) place takes = has_naming_extends naming.String old new text place takes
takes_extends old new (integer_entry value) place (inl there) = same_extends old new there.1
takes_extends old new (integer_entry value) place (inr put) = put_extends old new _ place put.1
takes_extends old new (long_entry value) place (inl there) = same_extends old new there.1
takes_extends old new (long_entry value) place (inr put) = put_extends old new _ place put.1
takes_extends old new (signature_entry s) place takes = signature_extends old new s place takes
takes_extends old new (member_entry m) place takes = member_extends old new m place takes
takes_extends old new (handle_entry h) place takes = handle_extends old new h place takes
takes_extends old new (computed_entry c) place takes = computed_extends old new c place takes

pub each_extends : (old new : PoolValue) (cs : List Content) (places : List ℕ) → TakesEach old cs new places → Extends old new
each_extends old new [] places takes = same_extends old new takes.0
each_extends old new (c ∷ cs) places takes =
    extends_more old takes.0 new (takes_extends old takes.0 c takes.1 takes.4) (each_extends takes.0 new cs takes.2 takes.5)

-- each has one place
pub takes_count : (old new : PoolValue) (cs : List Content) (places : List ℕ) → TakesEach old cs new places → length places ≡ length cs
takes_count old new [] places takes = ap (λ (l : List ℕ). length l) takes.1
takes_count old new (c ∷ cs) places takes =
    let rest = takes_count takes.0 new cs takes.2 takes.5 in
    let more = ap (λ (l : List ℕ). length l) takes.3 in
    omega (arith, rest, more)

-- ---- it always can, if its count has no limit

some_taking : (old : PoolValue) (c : Content) → (new : PoolValue) × (place : ℕ) × Takes old c new place
some_taking old (text_entry text) = some_utf8 old text
some_taking old (class_entry name) = some_naming naming.Class old name
some_taking old (string_entry text) = some_naming naming.String old text
some_taking old (integer_entry value) = some_integer old value
some_taking old (long_entry value) = some_long old value
some_taking old (signature_entry s) = some_signature old s
some_taking old (member_entry m) = some_member old m
some_taking old (handle_entry h) = some_handle old h
some_taking old (computed_entry c) = some_computed old c

pub some_takings : (old : PoolValue) (cs : List Content) → (new : PoolValue) × (places : List ℕ) × TakesEach old cs new places
some_takings old [] = (old, [], (refl, refl))
some_takings old (c ∷ cs) =
    let one = some_taking old c in
    let more = some_takings one.0 cs in
    (more.0, one.1 ∷ more.1, (one.0, one.1, more.1, refl, one.2, more.2))

-- ---- one after the other

pub takes_none : (old : PoolValue) → TakesEach old [] old []
takes_none old = (refl, refl)

pub takes_both : (old mid new : PoolValue) (front back : List Content) (places others : List ℕ) → TakesEach old front mid places → TakesEach mid back new others
    → TakesEach old (front ++ back) new (places ++ others)
takes_both old mid new [] back places others p q =
    subst (λ (l : List ℕ). TakesEach old back new (l ++ others)) (sym p.1) (subst (λ (l : PoolValue). TakesEach l back new others) p.0 q)
takes_both old mid new (c ∷ front) back places others p q =
    (p.0, p.1, p.2 ++ others, ap (λ (l : List ℕ). l ++ others) p.3, p.4, takes_both p.0 mid new front back p.2 others p.5 q)

pub takes_one : (old new : PoolValue) (c : Content) (place : ℕ) → Takes old c new place → TakesEach old (c ∷ []) new (place ∷ [])
takes_one old new c place takes = (new, place, [], refl, takes, (refl, refl))

pub taken_count : (old new : PoolValue) (cs : List Content) (places : List ℕ) → TakesEach old cs new places → length places ≡ length cs
taken_count old new [] places takes = ap (λ (l : List ℕ). length l) takes.1
taken_count old new (c ∷ cs) places takes = ap (λ (l : List ℕ). length l) takes.3 ∙ ap suc (taken_count takes.0 new cs takes.2 takes.5)

-- ---- too much

pub too_much_before : (old : PoolValue) (front back : List Content) → IsTooMuch old front → IsTooMuch old (front ++ back)
too_much_before old front back much =
    let more = some_takings much.new back in
    let grown = longer much.new more.0 (each_extends much.new more.0 back more.1 more.2) in
    let many = much.many in
    record {
      new = more.0;
      places = much.places ++ more.1;
      takes = takes_both old much.new more.0 front back much.places more.1 much.takes more.2;
      many = omega (arith, many, grown);
    }

pub too_much_behind : (old mid : PoolValue) (front back : List Content) (places : List ℕ) → TakesEach old front mid places → IsTooMuch mid back → IsTooMuch old (front ++ back)
too_much_behind old mid front back places takes much = record {
  new = much.new;
  places = places ++ much.places;
  takes = takes_both old mid much.new front back places much.places takes much.takes;
  many = much.many;
}

pub too_much_one : (mid : PoolValue) (c : Content) (count : ℕ) → IsTooLong (Takes mid c) count → IsTooMuch mid (c ∷ [])
too_much_one mid c count long =
    let size = long.3 in
    let many = long.4 in
    record { new = long.0; places = long.1 ∷ []; takes = takes_one mid long.0 c long.1 long.2; many = omega (arith, size, many) }

pub refused_here : (old mid : PoolValue) (front rest : List Content) (places : List ℕ) (c : Content) (fail : Fail PoolFull)
    → TakesEach old front mid places → RefusesFull {X = ℕ} (Takes mid c) (Err fail) → RefusesEach old (front ++ (c ∷ rest)) fail
refused_here old mid front rest places c fails.Memory takes refused = tt
refused_here old mid front rest places c (fails.Said full) takes refused =
    too_much_behind old mid front (c ∷ rest) places takes (too_much_before mid (c ∷ []) rest (too_much_one mid c full.count refused))

pub refused_before : (old : PoolValue) (front back : List Content) (fail : Fail PoolFull) → RefusesEach old front fail → RefusesEach old (front ++ back) fail
refused_before old front back fails.Memory refused = tt
refused_before old front back (fails.Said full) refused = too_much_before old front back refused

pub refused_behind : (old mid : PoolValue) (front back : List Content) (places : List ℕ) (fail : Fail PoolFull) → TakesEach old front mid places
    → RefusesEach mid back fail → RefusesEach old (front ++ back) fail
refused_behind old mid front back places fails.Memory takes refused = tt
refused_behind old mid front back places (fails.Said full) takes refused = too_much_behind old mid front back places takes refused

-- ---- what the added members need

module _ (owner : List ℕ) (id : ℤ) where
  module _ (list : List Need) (i : ℕ) (none : Need) (less : i < length list) where
    pub next_contents : contents_of owner id (take (i + 1) list) ≡ contents_of owner id (take i list) ++ (content_needed owner id (get_or list i none) ∷ [])
    next_contents =
        ap (contents_of owner id) (take_more list i none less)
        ∙ map-append (content_needed owner id) (take i list) (get_or list i none ∷ [])

    pub split_contents : contents_of owner id list
        ≡ contents_of owner id (take i list) ++ (content_needed owner id (get_or list i none) ∷ contents_of owner id (drop (suc i) list))
    split_contents =
        ap (contents_of owner id) (sym (take-append-drop i list))
        ∙ map-append (content_needed owner id) (take i list) (drop i list)
        ∙ ap (λ (l : List Need). contents_of owner id (take i list) ++ contents_of owner id l) (drop-cons list i none less)

-- ---- results

module _ (old mid new : PoolValue) (front back : List Content) where
  -- by the result of the last call
  pub all_taken : {X E : Type 0} (r : Result X E) → ((places : List ℕ) × TakesEach old front mid places) → OnOk r ((places : List ℕ) × TakesEach mid back new places)
      → OnOk r ((places : List ℕ) × TakesEach old (front ++ back) new places)
  all_taken (Ok x) first rest = (first.0 ++ rest.0, takes_both old mid new front back first.0 rest.0 first.1 rest.1)
  all_taken (Err e) first rest = tt

  pub last_refused : {X : Type 0} (r : Result X (Fail PoolFull)) → ((places : List ℕ) × TakesEach old front mid places) → IfErr r (RefusesEach mid back)
      → IfErr r (RefusesEach old (front ++ back))
  last_refused (Ok x) first refused = tt
  last_refused (Err fail) first refused = refused_behind old mid front back first.0 fail first.1 refused

pub one_refused : (old : PoolValue) (c : Content) (r : Result ℕ (Fail PoolFull)) → RefusesFull (Takes old c) r → IfErr r (RefusesEach old (c ∷ []))
one_refused old c (Ok place) refused = tt
one_refused old c (Err fail) refused = refused_here old old [] [] [] c fail (takes_none old) refused

-- the number of probes is needed as an Integer, where no shorter instruction pushes it
pub count_needed : (count : ℕ) → most_short < count → count_needs count ≡ integer_entry (pos count) ∷ []
count_needed count more = ap (λ (short : Bool). if short then [] else integer_entry (pos count) ∷ []) (lt-leb count most_short more)

-- ---- the places

-- so many items of a list from a place on
abbrev pub items_from : ℕ → ℕ → List ℕ → List ℕ
items_from zero at l = []
items_from (suc more) at l = get_or l at 0 ∷ items_from more (suc at) l

pub all_items : (l : List ℕ) → items_from (length l) 0 l ≡ l
all_items l = by l 0 l (λ k. ap (λ (n : ℕ). get_or l n 0) (let e : 0 + k ≡ k = omega arith in e))
  where
    by : (rest : List ℕ) (at : ℕ) (l : List ℕ) → ((k : ℕ) → get_or l (at + k) 0 ≡ get_or rest k 0) → items_from (length rest) at l ≡ rest
    by [] at l same = refl
    by (x ∷ rest) at l same =
        ap₂ (λ (y : ℕ) (ys : List ℕ). y ∷ ys)
        (ap (λ (n : ℕ). get_or l n 0) (let e : at ≡ at + 0 = omega arith in e) ∙ same 0)
        (by rest (suc at) l (λ k. ap (λ (n : ℕ). get_or l n 0) (let e : suc at + k ≡ at + suc k = omega arith in e) ∙ same (suc k)))

-- ---- integers

-- the Integers of these ids
abbrev pub integers : List ℕ → List Content
integers ids = map (λ id. integer_entry (pos id)) ids

-- integers of rising values are contents
pub integers_taken : (old new : PoolValue) (first many : ℕ) (places : List ℕ) → HasIntegers old first many new places
    → TakesEach old (integers (numbers_from first many)) new places
integers_taken old new first zero places has = has
integers_taken old new first (suc many) places has =
    (has.0, has.1, has.2, has.3, has.4, integers_taken has.0 new (first + 1) many has.2 has.5)

-- one more number
numbers_more : (first many : ℕ) → numbers_from first (many + 1) ≡ numbers_from first many ++ (first + many) ∷ []
numbers_more first zero = ap (λ (n : ℕ). n ∷ []) (let e : first ≡ first + 0 = omega arith in e)
numbers_more first (suc many) =
    ap (numbers_from first) (let e : suc many + 1 ≡ suc (many + 1) = omega arith in e)
    ∙ ap (λ (l : List ℕ). first ∷ l)
    (numbers_more (first + 1) many ∙ ap (λ (n : ℕ). numbers_from (first + 1) many ++ n ∷ []) (let e : (first + 1) + many ≡ first + suc many = omega arith in e))

-- the numbers behind so many of them
numbers_split : (first many more : ℕ) → numbers_from first (many + (more + 1)) ≡ numbers_from first many ++ (first + many) ∷ numbers_from (first + many + 1) more
numbers_split first zero more =
    ap (λ (n : ℕ). numbers_from first n) (let e : 0 + (more + 1) ≡ suc more = omega arith in e)
    ∙ ap (λ (n : ℕ). n ∷ numbers_from (n + 1) more) (let e : first ≡ first + 0 = omega arith in e)
numbers_split first (suc many) more =
    ap (λ (n : ℕ). numbers_from first n) (let e : suc many + (more + 1) ≡ suc (many + (more + 1)) = omega arith in e)
    ∙ ap (λ (l : List ℕ). first ∷ l)
    (numbers_split (first + 1) many more
    ∙ ap (λ (n : ℕ). numbers_from (first + 1) many ++ n ∷ numbers_from (n + 1) more) (let e : (first + 1) + many ≡ first + suc many = omega arith in e))

-- the Integers of the numbers from one on, in front of another
abbrev pub TakesBelow : (old : PoolValue) (first id : ℕ) (new : PoolValue) → Type 0
TakesBelow old first id new = (places : List ℕ) × TakesEach old (integers (numbers_from first (id - first))) new places

pub takes_below : (old mid new : PoolValue) (first id place : ℕ) → first ≤ id → TakesBelow old first id mid → Takes mid (integer_entry (pos id)) new place
    → TakesBelow old first (id + 1) new
takes_below old mid new first id place le taken takes =
    let many : (id + 1) - first ≡ (id - first) + 1 = omega (arith, le) in
    let last : first + (id - first) ≡ id = omega (arith, le) in
    let are : numbers_from first (id - first) ++ id ∷ [] ≡ numbers_from first ((id + 1) - first) =
    ap (λ (n : ℕ). numbers_from first (id - first) ++ n ∷ []) (sym last) ∙ sym (numbers_more first (id - first)) ∙ ap (numbers_from first) (sym many) in (
      taken.0 ++ place ∷ [],
      subst (λ (cs : List Content). TakesEach old cs new (taken.0 ++ place ∷ []))
          (sym (map-append (λ (n : ℕ). integer_entry (pos n)) (numbers_from first (id - first)) (id ∷ [])) ∙ ap integers are)
          (takes_both old mid new (integers (numbers_from first (id - first))) (integer_entry (pos id) ∷ []) taken.0 (place ∷ []) taken.1
          (takes_one mid new (integer_entry (pos id)) place takes)),
    )

pub refuses_below : (old mid : PoolValue) (first id end : ℕ) (fail : Fail PoolFull) → first ≤ id → id < end → TakesBelow old first id mid
    → RefusesFull {X = ℕ} (Takes mid (integer_entry (pos id))) (Err fail) → RefusesEach old (integers (numbers_from first (end - first))) fail
refuses_below old mid first id end fail le less taken refused =
    let count : (id - first) + ((end - (id + 1)) + 1) ≡ end - first = omega (arith, le, less) in
    let last : first + (id - first) ≡ id = omega (arith, le) in
    let rest = numbers_from (id + 1) (end - (id + 1)) in
    let are : numbers_from first (id - first) ++ id ∷ rest ≡ numbers_from first (end - first) =
    ap (λ (n : ℕ). numbers_from first (id - first) ++ n ∷ numbers_from (n + 1) (end - (id + 1))) (sym last)
    ∙ sym (numbers_split first (id - first) (end - (id + 1))) ∙ ap (numbers_from first) count in
    subst (λ (cs : List Content). RefusesEach old cs fail)
    (sym (map-append (λ (n : ℕ). integer_entry (pos n)) (numbers_from first (id - first)) (id ∷ rest)) ∙ ap integers are)
    (refused_here old mid (integers (numbers_from first (id - first))) (integers rest) taken.0 (integer_entry (pos id)) fail taken.1 refused)
