-- A twin comes to an image soon.
use Rattle.std.proofs.Common.{◌≡◌, ℕ, zero, suc, ◌+◌, ◌<◌, ◌≤◌, Bool, true, false, List, Option, Some, None, refl, sym, ap, ◌∙◌, subst, arith}
use Rattle.std.specs.Prelude.{slice_get}
use Rattle.std.proofs.lemmas.Option.{same_Some}
use Rattle.jc_methods.specs.declared.insn.Insn.{Insn}
use Rattle.jc_methods.specs.declared.probe_members.Fetch.{Fetch}
use Rattle.jc_methods.specs.declared.probe_members.Fetch.TheVariants as fetches
use Rattle.jc_plan.specs.declared.branch.Branch.{Branch}
use Rattle.jc_emit.specs.Sizes.{probe_size}
use Rattle.jc_emit.specs.Items.{Item, start, image, probe_array, probe_id, probe_one, probe_store, hop, own_of, at_of, extra_of}
use Rattle.jc_emit.specs.Local.{AllOk, Stands, Lands, LandsBehind, IsBehind, IsNoHop, early_at, due_of}
use Rattle.jc_emit.specs.Ranks.{after_place, prelude_rank, early_size, tail_rank, probe_rank, tail_at, most_row, rank, IsRanked}
use Rattle.jc_emit.proofs.OthersLaws.{none_some}
use Rattle.jc_emit.proofs.PlacingLaws.{few_probe}

prelude_few : (fetch : Fetch) (k : ℕ) → prelude_rank fetch k ≤ 13
prelude_few fetches.Member zero = omega arith
prelude_few fetches.Member (suc k) = omega arith
prelude_few fetches.Constant k = omega arith

nine_few : (fetch : Fetch) → 9 ≤ most_row fetch
nine_few fetches.Member = omega arith
nine_few fetches.Constant = omega arith

module _ (code : List Insn) (slot : Option ℕ) (ids : Branch → Option ℕ) (items : List Item) (all : AllOk code slot ids items) where
  abbrev early : ℕ → ℕ
  early i = early_size code ids items i

  abbrev height : ℕ → Item → ℕ
  height q x = rank code ids items q x

  abbrev left_by : Bool → (left tail : ℕ) → ℕ
  left_by late left tail = probe_rank code ids items late left tail

  -- what is executed behind a probe, by what stands there
  abbrev tail_by : ℕ → Option Item → ℕ
  tail_by size o = tail_rank code ids items size o

  abbrev tail : (at q : ℕ) → ℕ
  tail at q = tail_at code ids items at q

  abbrev On : (q at : ℕ) → Option ℕ → Type 0
  On q at due = Stands code slot ids items q at due

  abbrev In : (q at : ℕ) → Option ℕ → Type 0
  In q at due = Lands code slot ids items q at due

  abbrev Behind : (q at : ℕ) → Option ℕ → Type 0
  Behind q at due = LandsBehind code slot ids items q at due

  -- ---- it is small

  early_small : (i : ℕ) → early i ≤ 4
  early_small i = few_probe (early_at code slot ids items i)

  tail_few : (size : ℕ) (o : Option Item) → tail_by size o ≤ 1 + size
  tail_few size (Some (hop to at due)) = omega arith
  tail_few size (Some x) = omega arith
  tail_few size None = omega arith

  probe_small : (late : Bool) (left at q : ℕ) → left ≤ 4 → left_by late left (tail at q) ≤ 9
  probe_small true left at q le = omega (arith, le, tail_few (early at) (slice_get items q), early_small at)
  probe_small false left at q le = omega (arith, le)

  -- an instruction of the other prelude stands at most behind the first one
  start_small : (fetch other : Fetch) → slice_get items 0 ≡ Some (start fetch 0) → (q k : ℕ) → slice_get items q ≡ Some (start other k)
      → prelude_rank other k + early 0 ≤ most_row fetch
  start_small fetches.Member other first q k h = omega (arith, prelude_few other k, early_small 0)
  start_small fetches.Constant fetches.Constant first q k h = omega (arith, early_small 0)
  start_small fetches.Constant fetches.Member first q (suc k) h = omega (arith, early_small 0)
  start_small fetches.Constant fetches.Member first q zero h =
      let here = subst (λ p. slice_get items p ≡ Some (start fetches.Member 0)) (all.ok q (start fetches.Member 0) h).place h in
      absurd (two_preludes (same_Some (start fetches.Member 0) (start fetches.Constant 0) (sym here ∙ first)))
    where
      two_preludes : start fetches.Member 0 ≡ start fetches.Constant 0 → ⊥
      two_preludes e = cc

  small : (fetch : Fetch) → slice_get items 0 ≡ Some (start fetch 0) → (q : ℕ) (x : Item) → slice_get items q ≡ Some x → height q x ≤ most_row fetch
  small fetch first q (start other k) h = start_small fetch other first q k h
  small fetch first q (image insn at e) h = omega (arith, nine_few fetch)
  small fetch first q (probe_array id at late) h = omega (arith, nine_few fetch, probe_small late 4 at (q + 4) (omega arith))
  small fetch first q (probe_id id at late) h = omega (arith, nine_few fetch, probe_small late 3 at (q + 3) (omega arith))
  small fetch first q (probe_one id at late) h = omega (arith, nine_few fetch, probe_small late 2 at (q + 2) (omega arith))
  small fetch first q (probe_store id at late) h = omega (arith, nine_few fetch, probe_small late 1 at (q + 1) (omega arith))
  small fetch first q (hop to at due) h = omega (arith, nine_few fetch, few_probe due, early_small at)

  -- ---- what can go on at a place

  -- the rank of a probe in front of its instruction, which has one
  early_full : (q id at : ℕ) → slice_get items q ≡ Some (probe_array id at false) → early at ≡ 4
  early_full q id at h = ap probe_size (all.ok q (probe_array id at false) h).0

  no_hop_tail : (size : ℕ) (x : Item) → IsNoHop x → tail_by size (Some x) ≡ size
  no_hop_tail size (hop to at due) n = absurd n
  no_hop_tail size x n = refl

  -- where no goto of the twin stands
  landed_by : (q at : ℕ) (due : Option ℕ) (x : Item) → slice_get items q ≡ Some x → at_of x ≡ at → extra_of x ≡ 0 → due_of x ≡ due
      → IsBehind x → IsNoHop x → Behind q at due → height q x ≤ probe_size due + early at
  landed_by q at due (start fetch k) h a p d b n l = absurd b
  landed_by q at due (image insn i e) h a p d b n l = omega arith
  landed_by q at due (probe_array id i true) h a p d b n l =
      let behind : In (q + 4) at None = subst (Behind q at) (sym d) l in
      let rest = ap (tail_by (early i)) behind.stands.here ∙ no_hop_tail (early i) behind.stands.item behind.no_hop in
      omega (arith, rest, ap probe_size d, ap early a)
  landed_by q at due (probe_array id i false) h a p d b n l = omega (arith, early_full q id i h, ap early a)
  landed_by q at due (probe_id id i late) h a p d b n l = absurd (omega (arith, p))
  landed_by q at due (probe_one id i late) h a p d b n l = absurd (omega (arith, p))
  landed_by q at due (probe_store id i late) h a p d b n l = absurd (omega (arith, p))
  landed_by q at due (hop to i due') h a p d b n l = absurd n

  -- behind a probe, where a goto of the twin may stand
  stood_by : (q at : ℕ) (x : Item) → slice_get items q ≡ Some x → at_of x ≡ at → extra_of x ≡ 0 → due_of x ≡ None → IsBehind x
      → height q x ≤ tail at q
  stood_by q at (start fetch k) h a p d b = absurd b
  stood_by q at (image insn i e) h a p d b = omega arith
  stood_by q at (probe_array id i true) h a p d b = absurd (none_some id (sym d))
  stood_by q at (probe_array id i false) h a p d b = omega (arith, early_full q id i h, ap early a, ap (tail_by (early at)) h)
  stood_by q at (probe_id id i late) h a p d b = absurd (omega (arith, p))
  stood_by q at (probe_one id i late) h a p d b = absurd (omega (arith, p))
  stood_by q at (probe_store id i late) h a p d b = absurd (omega (arith, p))
  stood_by q at (hop to i due) h a p d b = omega (arith, ap probe_size d, ap early a, ap (tail_by (early at)) h)

  one_item : (q : ℕ) (x y : Item) → slice_get items q ≡ Some x → slice_get items q ≡ Some y → x ≡ y
  one_item q x y h k = cc

  landed : (q at : ℕ) (due : Option ℕ) (y : Item) → In q at due → Behind q at due → slice_get items q ≡ Some y
      → height q y ≤ probe_size due + early at
  landed q at due y l behind h =
      let s = l.stands in
      subst (λ z. height q z ≤ probe_size due + early at) (one_item q s.item y s.here h)
      (landed_by q at due s.item s.here s.at_is s.pushed s.due_is s.behind l.no_hop behind)

  stood : (q at : ℕ) (y : Item) → On q at None → slice_get items q ≡ Some y → height q y ≤ tail at q
  stood q at y s h =
      subst (λ z. height q z ≤ tail at q) (one_item q s.item y s.here h) (stood_by q at s.item s.here s.at_is s.pushed s.due_is s.behind)

  -- ---- it falls

  follows : (q : ℕ) (x y : Item) (n : ℕ) → slice_get items q ≡ Some x → slice_get items q ≡ Some y → height q x < n → height q y < n
  follows q x y n h k l = subst (λ z. height q z < n) (one_item q x y h k) l

  probe_falls : (late : Bool) (left at q r : ℕ) → q ≡ r → left_by late left (tail at q) < left_by late (left + 1) (tail at r)
  probe_falls true left at q r e = omega (arith, ap (tail at) e)
  probe_falls false left at q r e = omega arith

  start_falls : (fetch : Fetch) (q k : ℕ) (y : Item) → slice_get items q ≡ Some (start fetch k) → slice_get items (q + 1) ≡ Some y
      → height (q + 1) y < prelude_rank fetch k + early 0
  start_falls fetches.Member q zero y h there =
      follows (q + 1) (start fetches.Member 1) y (prelude_rank fetches.Member 0 + early 0) (all.ok q (start fetches.Member 0) h).next there (omega arith)
  start_falls fetches.Member q (suc zero) y h there =
      omega (arith, landed (q + 1) 0 None y (all.ok q (start fetches.Member 1) h).next tt there)
  start_falls fetches.Member q (suc (suc k)) y h there =
      let within = (all.ok q (start fetches.Member (suc (suc k))) h).within in absurd (omega (arith, within))
  start_falls fetches.Constant q zero y h there =
      follows (q + 1) (start fetches.Constant 1) y (prelude_rank fetches.Constant 0 + early 0) (all.ok q (start fetches.Constant 0) h).next there (omega arith)
  start_falls fetches.Constant q (suc zero) y h there =
      follows (q + 1) (start fetches.Constant 2) y (prelude_rank fetches.Constant 1 + early 0) (all.ok q (start fetches.Constant 1) h).next there (omega arith)
  start_falls fetches.Constant q (suc (suc zero)) y h there =
      omega (arith, landed (q + 1) 0 None y (all.ok q (start fetches.Constant 2) h).next tt there)
  start_falls fetches.Constant q (suc (suc (suc k))) y h there =
      let within = (all.ok q (start fetches.Constant (suc (suc (suc k)))) h).within in absurd (omega (arith, within))

  falls : (q : ℕ) (x y : Item) → slice_get items q ≡ Some x → own_of x ≡ false → slice_get items (after_place q x) ≡ Some y
      → height (after_place q x) y < height q x
  falls q (start fetch k) y h own there = start_falls fetch q k y h there
  falls q (image insn at e) y h own there = cc
  falls q (probe_array id at late) y h own there =
      follows (q + 1) (probe_id id at late) y (height q (probe_array id at late)) (all.ok q (probe_array id at late) h).1 there (probe_falls late 3 at (q + 1 + 3) (q + 4) (omega arith))
  falls q (probe_id id at late) y h own there =
      follows (q + 1) (probe_one id at late) y (height q (probe_id id at late)) (all.ok q (probe_id id at late) h).1 there (probe_falls late 2 at (q + 1 + 2) (q + 3) (omega arith))
  falls q (probe_one id at late) y h own there =
      follows (q + 1) (probe_store id at late) y (height q (probe_one id at late)) (all.ok q (probe_one id at late) h).1 there (probe_falls late 1 at (q + 1 + 1) (q + 2) (omega arith))
  falls q (probe_store id at true) y h own there = omega (arith, stood (q + 1) at y (all.ok q (probe_store id at true) h).1 there)
  falls q (probe_store id at false) y h own there =
      let found = (all.ok q (probe_store id at false) h).1 in
      follows (q + 1) (image found.0 at (Some id)) y 1 found.1 there (omega arith)
  falls q (hop to at due) y h own there =
      let ok = all.ok q (hop to at due) h in
      omega (arith, landed to at due y ok.0 ok.1 there)

  pub ranked : IsRanked code ids items
  ranked = record { falls = falls; small = small }
