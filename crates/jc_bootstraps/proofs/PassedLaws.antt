-- Numbers are passed over where they are read, and so are the arguments of a bootstrap method.
use Rattle.std.proofs.Common.{◌≡◌, ℕ, zero, suc, ◌+◌, ◌*◌, ◌≤◌, List, [], ◌∷◌, length, drop, nat_lt, false, Option, Some, None}
use Rattle.std.proofs.Common.{refl, sym, ◌∙◌, ap, arith, length-append}
use Rattle.std.proofs.lemmas.Bool.{le-ltb}
use Rattle.jc_bytes.specs.Counted.{counted_at}
use Rattle.jc_bytes.specs.Decoder.{number_at}
use Rattle.jc_bytes.specs.Grammar.{times}
use Rattle.jc_bytes.specs.ItemForms.{number}
use Rattle.jc_bytes.specs.Parsing.{Parsed, Good, Bad, ◌>>=◌, parsed_or, item, times_at}
use Rattle.jc_bytes.proofs.CountedLaws.{agrees_number}
use Rattle.jc_bytes.proofs.DecoderLaws.{number_again}
use Rattle.jc_bytes.proofs.GrammarLaws.{agrees_times, good_is, good_bad}
use Rattle.jc_bootstraps.specs.Bootstraps.{Bootstrap}
use Rattle.jc_bootstraps.specs.BootstrapHead.{head_at}
use Rattle.jc_bootstraps.specs.BootstrapsReading.{bootstrap_at}
use Rattle.jc_bootstraps.specs.declared.bootstraps.LastBootstrap.{LastBootstrap}

-- ---- steps that did not fail

pub good_of : {X Y : Type 0} (p : Parsed X) (f : X × List ℕ → Parsed Y) (y : Y) (rest : List ℕ) → (p >>= f) ≡ Good y rest
    → (x : X × List ℕ) × (p ≡ Good x.0 x.1) × (f x ≡ Good y rest)
good_of (Good x left) f y rest e = ((x, left), refl, e)
good_of (Bad left) f y rest e = absurd (good_bad (sym e))

item_some : {X : Type 0} (left : List ℕ) (r : Option (X × List ℕ)) (x : X) (rest : List ℕ) → parsed_or left r ≡ Good x rest → r ≡ Some (x, rest)
item_some left (Some p) x rest e = let same = good_is p.0 x p.1 rest e in λ i. Some (same.0 i, same.1 i)
item_some left None x rest e = absurd (good_bad (sym e))

-- ---- numbers of two bytes that are passed over

pub number_front : (high low : ℕ) (rest : List ℕ) → number_at 2 (high ∷ low ∷ rest) ≡ Some (high * 256 + low, rest)
number_front high low rest = number_again 2 (high ∷ low ∷ []) rest (high * 256 + low) (record { size = refl; value = omega arith })

abbrev pub numbers : ℕ → List ℕ → Parsed (List ℕ)
numbers n left = times_at n (item (number_at 2)) left

pub passed : (n : ℕ) (left : List ℕ) → 2 * n ≤ length left → (xs : List ℕ) × (length xs ≡ n) × (numbers n left ≡ Good xs (drop (2 * n) left))
passed zero left h = ([], refl, refl)
passed (suc n) [] h = absurd (omega (arith, h))
passed (suc n) (a ∷ []) h = absurd (omega (arith, h))
passed (suc n) (a ∷ b ∷ left) h =
    let rest = passed n left (omega (arith, h)) in
    let x = a * 256 + b in
    let two : 2 * suc n ≡ suc (suc (2 * n)) = omega arith in (
      x ∷ rest.0,
      ap suc rest.1,
      ap (λ (r : Option (ℕ × List ℕ)). parsed_or (a ∷ b ∷ left) r >>= λ y. times_at n (item (number_at 2)) y.1 >>= λ ys. Good (y.0 ∷ ys.0) ys.1)
          (number_front a b left)
          ∙ ap (λ (p : Parsed (List ℕ)). p >>= λ ys. Good (x ∷ ys.0) ys.1) rest.2
          ∙ ap (λ (k : ℕ). Good (x ∷ rest.0) (drop k (a ∷ b ∷ left))) (sym two),
    )

numbers_size : (n : ℕ) (text xs : List ℕ) → (times n (number 2)).Text text xs → length text ≡ 2 * n
numbers_size zero text xs t = ap length t.0
numbers_size (suc n) text xs t =
    let more = t.5 in
    let rest = numbers_size n more.1 more.0 more.4 in
    omega (
      arith,
      ap length t.3 ∙ length-append t.1 t.2,
      t.4.size,
      ap length more.3 ∙ length-append more.1 more.2,
      ap length more.5.0,
      rest,
    )

room : (n : ℕ) (left xs rest : List ℕ) → numbers n left ≡ Good xs rest → 2 * n ≤ length left
room n left xs rest e =
    let t = (agrees_times n (number 2) (item (number_at 2)) (agrees_number 2)).good left xs rest e in
    omega (arith, numbers_size n t.0 xs t.2, ap length t.1 ∙ length-append t.0 rest)

-- ---- one that is read is passed over

abbrev pub made : ℕ → List ℕ → Bootstrap
made handle arguments = record { handle = handle; arguments = arguments }

abbrev pub told : ℕ → ℕ → LastBootstrap
told handle arguments = record { handle = handle; arguments = arguments }

passed_over : (left : List ℕ) (handle : ℕ) (behind : List ℕ) (count : ℕ) (rest : List ℕ) → number_at 2 left ≡ Some (handle, behind)
    → number_at 2 behind ≡ Some (count, rest) → nat_lt (length rest) (2 * count) ≡ false
    → head_at left ≡ Some (told handle count, drop (2 * count) rest)
unfolding head_at
passed_over left handle behind count rest handle_is count_is fits = rw (handle_is, count_is, fits) refl

pub read_one : (left : List ℕ) (handle : ℕ) (behind : List ℕ) (count : ℕ) (rest arguments last : List ℕ) → number_at 2 left ≡ Some (handle, behind)
    → number_at 2 behind ≡ Some (count, rest) → numbers count rest ≡ Good arguments last → bootstrap_at left ≡ Good (made handle arguments) last
unfolding bootstrap_at counted_at
read_one left handle behind count rest arguments last handle_is count_is is = rw (handle_is, count_is, is) refl

never : (r : Option (LastBootstrap × List ℕ)) (handle count : ℕ) (rest : List ℕ) → r ≡ Some (told handle count, rest) → r ≡ None → ⊥
never r handle count rest some none = cc

pub head_again : (left : List ℕ) (b : Bootstrap) (rest : List ℕ) → bootstrap_at left ≡ Good b rest → head_at left ≡ None → ⊥
unfolding head_at bootstrap_at counted_at
head_again left b rest e none =
    let one = good_of (item (number_at 2) left)
    (λ handle. counted_at (item (number_at 2)) handle.1 >>= λ arguments. Good (made handle.0 arguments.0) arguments.1) b rest e in
    let two = good_of (counted_at (item (number_at 2)) one.0.1) (λ arguments. Good (made one.0.0 arguments.0) arguments.1) b rest one.2 in
    let count = good_of (item (number_at 2) one.0.1) (λ n. numbers n.0 n.1) two.0.0 two.0.1 two.1 in
    let handle_is = item_some left (number_at 2 left) one.0.0 one.0.1 one.1 in
    let count_is = item_some one.0.1 (number_at 2 one.0.1) count.0.0 count.0.1 count.1 in
    let fits = le-ltb (length count.0.1) (2 * count.0.0) (room count.0.0 count.0.1 two.0.0 two.0.1 count.2) in
    never (head_at left) one.0.0 count.0.0 (drop (2 * count.0.0) count.0.1)
    (passed_over left one.0.0 one.0.1 count.0.0 count.0.1 handle_is count_is fits) none
