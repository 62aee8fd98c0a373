-- Bootstrap methods that are passed over one after the other, and whether one more can be put behind them.
use Rattle.std.proofs.Common.{◌≡◌, ◌⊎◌, inl, inr, ⊎_elim, ℕ, zero, suc, ◌+◌, ◌-◌, ◌*◌, ◌<◌, ◌≤◌, Bool, true, false, List, [], ◌∷◌, ◌++◌, length, drop, Option, Some, None, slice_get, IsTrue, ◌↔◌}
use Rattle.std.proofs.Common.{refl, sym, ◌∙◌, ap, subst, arith, append_assoc}
use Rattle.std.specs.Prelude.{Contains, filter, map}
use Rattle.std.proofs.lemmas.Bool.{false≢true, true≢false}
use Rattle.std.proofs.lemmas.List.{append-nil}
use Rattle.std.proofs.lemmas.Option.{none-some, same_Some}
use Rattle.jc_bytes.specs.Counted.{counted_at}
use Rattle.jc_bytes.specs.Decoder.{number_at}
use Rattle.jc_bytes.specs.Parsing.{Parsed, Good, Bad, ◌>>=◌, parsed_or, item, times_at}
use Rattle.jc_bytes.proofs.BooleanLaws.{first_in, later_in, which_in, none_in}
use Rattle.jc_bytes.proofs.CountedLaws.{times_length}
use Rattle.jc_bytes.proofs.GrammarLaws.{agrees_times, good_is, good_bad}
use Rattle.jc_bootstraps.specs.Bootstraps.{Bootstrap, HaveBootstraps, bootstrap, bootstraps}
use Rattle.jc_bootstraps.specs.BootstrapsReading.{bootstrap_at, bootstraps_at}
use Rattle.jc_bootstraps.proofs.BootstrapFormLaws.{agrees_bootstrap, one_list, read_text, text_read}
use Rattle.jc_bootstraps.proofs.PassedLaws.{good_of, number_front}
use Rattle.jc_instrument.specs.Bootstraps.{NamesPast, SomePast}

-- ---- parts that are passed over one after the other

-- those in front of the rest have this fact
pub record Parts {X : Type 0} (read : List ℕ → Parsed X) (n : ℕ) (rest : List ℕ) (Fact : List X → Type 0) (xs : List X) (end : List ℕ) : Type 0 where
  pub done : List X
  pub left : List X
  pub parts : xs ≡ done ++ left
  pub reads : times_at n read rest ≡ Good left end
  pub fact : Fact done

pub record Walked {X : Type 0} (read : List ℕ → Parsed X) (count : ℕ) (start : List ℕ) (i : ℕ) (rest : List ℕ) (Fact : List X → Type 0) : Type 0 where
  pub on : (xs : List X) (end : List ℕ) → times_at count read start ≡ Good xs end → Parts read (count - i) rest Fact xs end

-- the one behind them, and what is left
pub record Step {X : Type 0} (read : List ℕ → Parsed X) (n : ℕ) (rest : List ℕ) (Fact : List X → Type 0) (xs : List X) (end : List ℕ) : Type 0 where
  pub done : List X
  pub one : X
  pub left : List X
  pub next : List ℕ
  pub parts : xs ≡ done ++ one ∷ left
  pub is : read rest ≡ Good one next
  pub reads : times_at n read next ≡ Good left end
  pub fact : Fact done

module _ {X : Type 0} (read : List ℕ → Parsed X) (count : ℕ) (start : List ℕ) where
  pub walked_none : (Fact : List X → Type 0) → Fact [] → Walked read count start 0 start Fact
  walked_none Fact none = record {
    on = λ xs end is. record {
      done = [];
      left = xs;
      parts = refl;
      reads = ap (λ (n : ℕ). times_at n read start) (let e : count - 0 ≡ count = omega arith in e) ∙ is;
      fact = none;
    };
  }

  module _ (i : ℕ) (rest : List ℕ) (Fact : List X → Type 0) (w : Walked read count start i rest Fact) where
    module _ (less : i < count) where
      pub walked_next : (xs : List X) (end : List ℕ) → times_at count read start ≡ Good xs end → Step read (count - (i + 1)) rest Fact xs end
      walked_next xs end is =
          let p = w.on xs end is in
          let n = count - (i + 1) in
          let less_one : count - i ≡ suc n = omega (arith, less) in
          let one = good_of (read rest) (λ x. times_at n read x.1 >>= λ ys. Good (x.0 ∷ ys.0) ys.1) p.left end
          (ap (λ (k : ℕ). times_at k read rest) (sym less_one) ∙ p.reads) in
          let two = good_of (times_at n read one.0.1) (λ ys. Good (one.0.0 ∷ ys.0) ys.1) p.left end one.2 in
          let same = good_is (one.0.0 ∷ two.0.0) p.left two.0.1 end two.2 in
          record {
            done = p.done;
            one = one.0.0;
            left = two.0.0;
            next = one.0.1;
            parts = p.parts ∙ ap (λ (l : List X). p.done ++ l) (sym same.0);
            is = one.1;
            reads = two.1 ∙ ap (Good two.0.0) same.1;
            fact = p.fact;
          }

      pub walked_more : (next : List ℕ) (Now : List X → Type 0)
          → ((x : X) (behind : List ℕ) → read rest ≡ Good x behind → (next ≡ behind) × ((done : List X) → Fact done → Now (done ++ x ∷ [])))
          → Walked read count start (i + 1) next Now
      walked_more next Now step = record {
        on = λ xs end is.
            let p = walked_next xs end is in
            let s = step p.one p.next p.is in
            record {
              done = p.done ++ p.one ∷ [];
              left = p.left;
              parts = p.parts ∙ sym (append_assoc p.done (p.one ∷ []) p.left);
              reads = ap (λ (l : List ℕ). times_at (count - (i + 1)) read l) s.0 ∙ p.reads;
              fact = s.1 p.done p.fact;
            };
      }

    pub walked_all : count ≤ i → (xs : List X) (end : List ℕ) → times_at count read start ≡ Good xs end → (rest ≡ end) × Fact xs
    walked_all full xs end is =
        let p = w.on xs end is in
        let none : count - i ≡ 0 = omega (arith, full) in
        let same = good_is [] p.left rest end (ap (λ (n : ℕ). times_at n read rest) (sym none) ∙ p.reads) in (
          same.1,
          subst Fact (sym (p.parts ∙ ap (λ (l : List X). p.done ++ l) (sym same.0) ∙ append-nil p.done)) p.fact,
        )

-- ---- items of a list

module _ {X : Type 0} where
  pub in_front : (xs : List X) (x y : X) (ys : List X) → Contains xs x → Contains (xs ++ ys) x
  in_front [] x y ys in_it = absurd (none_in x in_it)
  in_front (z ∷ xs) x y ys in_it = elim (which_in z xs x in_it) [
    | inl here ↦ subst (Contains ((z ∷ xs) ++ ys)) here (first_in z (xs ++ ys))
    | inr later ↦ later_in z (xs ++ ys) x (in_front xs x y ys later)
  ]

  pub behind : (xs : List X) (y : X) (ys : List X) → Contains (xs ++ y ∷ ys) y
  behind [] y ys = first_in y ys
  behind (z ∷ xs) y ys = later_in z (xs ++ y ∷ ys) y (behind xs y ys)

  pub front_or_last : (xs : List X) (x y : X) → Contains (xs ++ y ∷ []) x → Contains xs x ⊎ (y ≡ x)
  front_or_last [] x y in_it = elim (which_in y [] x in_it) [
    | inl here ↦ inr here
    | inr later ↦ absurd (none_in x later)
  ]
  front_or_last (z ∷ xs) x y in_it = elim (which_in z (xs ++ y ∷ []) x in_it) [
    | inl here ↦ inl (subst (Contains (z ∷ xs)) here (first_in z xs))
    | inr later ↦ ⊎_elim (λ front. inl (later_in z xs x front)) (λ last. inr last) (front_or_last xs x y later)
  ]

  -- one of the items has the fact
  abbrev pub SomeHas : (X → Type 0) → List X → Type 0
  SomeHas Fact xs = (x : X) × Contains xs x × Fact x

  pub some_more : (Fact : X → Type 0) (xs : List X) (y : X) → SomeHas Fact xs → SomeHas Fact (xs ++ y ∷ [])
  some_more Fact xs y some = (some.0, in_front xs some.0 y (y ∷ []) some.1, some.2)

  pub some_last : (Fact : X → Type 0) (xs : List X) (y : X) (ys : List X) → Fact y → SomeHas Fact (xs ++ y ∷ ys)
  some_last Fact xs y ys is = (y, behind xs y ys, is)

  pub some_by : (Fact : X → Type 0) (xs : List X) (y : X) → SomeHas Fact (xs ++ y ∷ []) → SomeHas Fact xs ⊎ Fact y
  some_by Fact xs y some = elim (front_or_last xs some.0 y some.1) [
    | inl front ↦ inl (some.0, front, some.2)
    | inr last ↦ inr (subst Fact (sym last) some.2)
  ]

  pub no_item : (Fact : X → Type 0) → SomeHas Fact [] → ⊥
  no_item Fact some = none_in some.0 some.1

-- ---- what is read in front

number_read : (left : List ℕ) (r : Option (ℕ × List ℕ)) (x : ℕ) (rest : List ℕ) → parsed_or left r ≡ Good x rest → r ≡ Some (x, rest)
number_read left (Some p) x rest e = let same = good_is p.0 x p.1 rest e in λ i. Some (same.0 i, same.1 i)
number_read left None x rest e = absurd (good_bad (sym e))

pub item_read : (left : List ℕ) (x : ℕ) (rest : List ℕ) → item (number_at 2) left ≡ Good x rest → number_at 2 left ≡ Some (x, rest)
item_read left x rest is = number_read left (number_at 2 left) x rest is

abbrev made : ℕ → List ℕ → Bootstrap
made handle arguments = record { handle = handle; arguments = arguments }

-- a bootstrap method in front: its handle, a count, and so many arguments
pub record FrontParts (left : List ℕ) (b : Bootstrap) (rest : List ℕ) : Type 0 where
  pub behind : List ℕ
  pub handle_is : number_at 2 left ≡ Some (b.handle, behind)
  pub count : ℕ
  pub mid : List ℕ
  pub count_is : number_at 2 behind ≡ Some (count, mid)
  pub arguments_are : times_at count (item (number_at 2)) mid ≡ Good b.arguments rest

pub front_parts : (left : List ℕ) (b : Bootstrap) (rest : List ℕ) → bootstrap_at left ≡ Good b rest → FrontParts left b rest
unfolding bootstrap_at counted_at
front_parts left b rest e =
    let one = good_of (item (number_at 2) left)
    (λ handle. counted_at (item (number_at 2)) handle.1 >>= λ arguments. Good (made handle.0 arguments.0) arguments.1) b rest e in
    let two = good_of (counted_at (item (number_at 2)) one.0.1) (λ arguments. Good (made one.0.0 arguments.0) arguments.1) b rest one.2 in
    let count = good_of (item (number_at 2) one.0.1) (λ n. times_at n.0 (item (number_at 2)) n.1) two.0.0 two.0.1 two.1 in
    let same = good_is (made one.0.0 two.0.0) b two.0.1 rest two.2 in
    record {
      behind = one.0.1;
      handle_is = item_read left one.0.0 one.0.1 one.1 ∙ ap (λ (x : Bootstrap). Some (x.handle, one.0.1)) same.0;
      count = count.0.0;
      mid = count.0.1;
      count_is = item_read one.0.1 count.0.0 count.0.1 count.1;
      arguments_are = count.2 ∙ (λ i. Good ((same.0 i).arguments) (same.1 i));
    }

-- where its handle can't be read, or how many arguments it has, no bootstrap method stands in front
pub no_handle : (bytes : List ℕ) (b : Bootstrap) (rest : List ℕ) → bootstrap_at bytes ≡ Good b rest → None ≡ number_at 2 bytes → ⊥
no_handle bytes b rest is none = let p = front_parts bytes b rest is in none-some (b.handle, p.behind) (none ∙ p.handle_is)

module _ (bytes : List ℕ) (b : Bootstrap) (rest : List ℕ) (is : bootstrap_at bytes ≡ Good b rest) (handle : ℕ) (behind : List ℕ)
    (handle_is : Some (handle, behind) ≡ number_at 2 bytes) where
  same_front : ◌≡◌ {A = ℕ × List ℕ} (handle, behind) (b.handle, (front_parts bytes b rest is).behind)
  same_front =
      let p = front_parts bytes b rest is in
      same_Some (handle, behind) (b.handle, p.behind) (handle_is ∙ p.handle_is)

  count_there : number_at 2 behind ≡ Some ((front_parts bytes b rest is).count, (front_parts bytes b rest is).mid)
  count_there = ap (λ (x : ℕ × List ℕ). number_at 2 x.1) same_front ∙ (front_parts bytes b rest is).count_is

  pub no_count : None ≡ number_at 2 behind → ⊥
  no_count none = none-some ((front_parts bytes b rest is).count, (front_parts bytes b rest is).mid) (none ∙ count_there)

  pub arguments_of : (count : ℕ) (mid : List ℕ) → Some (count, mid) ≡ number_at 2 behind
      → (handle ≡ b.handle) × (times_at count (item (number_at 2)) mid ≡ Good b.arguments rest)
  arguments_of count mid count_is =
      let p = front_parts bytes b rest is in
      let same = same_Some (count, mid) (p.count, p.mid) (count_is ∙ count_there) in (
        ap (λ (x : ℕ × List ℕ). x.0) same_front,
        ap (λ (x : ℕ × List ℕ). times_at x.0 (item (number_at 2)) x.1) same ∙ p.arguments_are,
      )

number_behind : (body : List ℕ) (x : ℕ) (rest : List ℕ) → number_at 2 body ≡ Some (x, rest) → rest ≡ drop 2 body
number_behind [] x rest is = absurd (none-some (x, rest) is)
number_behind (a ∷ []) x rest is = absurd (none-some (x, rest) is)
number_behind (a ∷ b ∷ body) x rest is = sym (ap (λ (p : ℕ × List ℕ). p.1) (same_Some (a * 256 + b, body) (x, rest) (sym (number_front a b body) ∙ is)))

-- behind its count, a body spells its bootstrap methods
pub counted_read : (body : List ℕ) (entries : List Bootstrap) → bootstraps.Text body entries → times_at (length entries) bootstrap_at (drop 2 body) ≡ Good entries []
unfolding bootstraps_at counted_at
counted_read body entries text =
    let one = good_of (item (number_at 2) body) (λ n. times_at n.0 bootstrap_at n.1) entries [] (text_read body entries text) in
    let t = (agrees_times one.0.0 bootstrap bootstrap_at agrees_bootstrap).good one.0.1 entries [] one.2 in
    let size = times_length one.0.0 bootstrap t.0 entries t.2 in
    let start = number_behind body one.0.0 one.0.1 (item_read body one.0.0 one.0.1 one.1) in
    (λ i. times_at (size i) bootstrap_at (sym start i)) ∙ one.2

-- so many are those
pub so_many_read : (body : List ℕ) (entries : List Bootstrap) (count : ℕ) → bootstraps.Text body entries → count ≡ length entries
    → times_at count bootstrap_at (drop 2 body) ≡ Good entries []
so_many_read body entries count text size = ap (λ (n : ℕ). times_at n bootstrap_at (drop 2 body)) size ∙ counted_read body entries text

-- ---- whether one of them has a fact

-- an answer that is false, where no item has it
pub false_where : {X : Type 0} (Fact : X → Type 0) (xs : List X) → (SomeHas Fact xs → ⊥) → IsTrue false ↔ SomeHas Fact xs
false_where Fact xs none = (λ t. absurd (false≢true t), λ some. absurd (none some))

pub true_where : {X : Type 0} (Fact : X → Type 0) (xs : List X) → SomeHas Fact xs → IsTrue true ↔ SomeHas Fact xs
true_where Fact xs some = (λ t. some, λ s. refl)

-- one item more
module _ {X : Type 0} (Fact : X → Type 0) (xs : List X) (x : X) (before now : Bool) (so_far : IsTrue before ↔ SomeHas Fact xs) where
  pub found_before : before ≡ true → now ≡ true → IsTrue now ↔ SomeHas Fact (xs ++ x ∷ [])
  found_before found is = (λ t. some_more Fact xs x (so_far.0 found), λ some. is)

  pub found_last : before ≡ false → (IsTrue now ↔ Fact x) → IsTrue now ↔ SomeHas Fact (xs ++ x ∷ [])
  found_last none last = (
    λ t. some_last Fact xs x [] (last.0 t),
    λ some. ⊎_elim (λ front. absurd (true≢false (sym (so_far.1 front) ∙ none))) (λ here. last.1 here) (some_by Fact xs x some),
  )

-- ---- whether one names a place past the limit

module _ (limit : ℕ) (b : Bootstrap) (handle : ℕ) (handle_is : handle ≡ b.handle) where
  pub handle_past : (now : Bool) → limit ≤ handle → now ≡ true → IsTrue now ↔ NamesPast limit b
  handle_past now past is = (λ t. inl (omega (arith, past, handle_is)), λ names. is)

  pub past_behind : (past now : Bool) → handle < limit → now ≡ past → (IsTrue past ↔ SomePast limit b.arguments) → IsTrue now ↔ NamesPast limit b
  past_behind past now within is behind = (
    λ t. inr (behind.0 (sym is ∙ t)),
    λ names. ⊎_elim (λ here. absurd (omega (arith, here, within, handle_is))) (λ later. is ∙ behind.1 later) names,
  )
