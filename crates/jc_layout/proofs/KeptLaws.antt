-- Offsets that are kept while one more jump becomes wide.
use Rattle.std.proofs.Common.{Bor, Vec, Global, ◌≡◌, ◌≢◌, ℕ, zero, suc, ◌+◌, ◌*◌, ◌-◌, ◌%◌, ◌<◌, ◌≤◌, Bool, true, false, All, List, [], ◌∷◌, ◌++◌, map, take, drop, length, nat_eq, get_or, set, nat_le, refl, sym, ap, ap₂, ◌∙◌, subst, arith, if◌then◌else◌}
use Rattle.std.specs.Prelude.{Contains, replicate, slice_index}
use Rattle.std.specs.List.{AllByRecursion}
use Rattle.std.proofs.lemmas.Bool.Decides.{nat_tests}
use Rattle.std.proofs.lemmas.List.{append-nil, drop_all, get_or-set_same, get_or-set_other, get_or_read, length-map, length-set, take_all}
use Rattle.std.proofs.lemmas.List.Elements.{All-from_recursion}
use Rattle.std.proofs.lemmas.List.Sums.{sum_by-cons}
use Rattle.std.proofs.lemmas.Option.{slice_get_within}
use Rattle.jc_bytes.proofs.AppendingLaws.{drop_is}
use Rattle.jc_bytes.proofs.BooleanLaws.{first_in}
use Rattle.jc_methods.specs.Opcode as opcode
use Rattle.jc_methods.specs.declared.insn.Insn.{Insn}
use Rattle.jc_methods.specs.Insn.{arm_count}
use Rattle.jc_methods.specs.WellMade.{insns_and_arms}
use Rattle.jc_methods.specs.Widened.{WideSet, listed}
use Rattle.jc_insn.specs.Sizes.{size_of}
use Rattle.jc_layout.specs.Layout.{chosen_list, chosen_starts, starts_from, starts_of, with_far}
use Rattle.jc_layout.specs.Shift.{AreJumpsOf, IsJumpOf, all_risen, ends_in, far_in, is_stop, passed_on, rise_at, widening}
use Rattle.jc_layout.specs.Layable.{IsLayable}
use Rattle.jc_layout.specs.Widening.{AreKept, IsWidening, widened_each}
use Rattle.jc_layout.specs.declared.widening.Widening.{Widening}
use Rattle.jc_layout.specs.declared.jumps.Jump.{Jump}
use Rattle.jc_layout.specs.declared.jumps.Ends.{Ends}
use Rattle.jc_layout.specs.declared.shift.Shift.{Shift}
use Rattle.jc_layout.proofs.ChoiceLaws.{starts_count}
use Rattle.jc_layout.proofs.OffsetLaws.{size_bound}
use Rattle.jc_layout.proofs.FarJumpsLaws.{jumps_far, more_wide, none_left, one_round}
use Rattle.jc_layout.proofs.ReachedLaws.{IsReached, reached_next, reached_none}
use Rattle.jc_layout.proofs.RoundsLaws.{chosen_is, count, count_few, far_length, one_chosen}
use Rattle.jc_layout.proofs.ShiftLaws.{IsPassedOn, IsShifted, fours, one_more_wide}

-- ---- how large offsets are

start_most : (wide : WideSet) (n at : ℕ) (code : List Insn) (k : ℕ) → k ≤ length code
    → slice_index (starts_from wide n at code) k ≤ at + 16 * insns_and_arms code
start_most wide n at [] zero le = omega arith
start_most wide n at [] (suc k) le = absurd (omega (arith, le))
start_most wide n at (insn ∷ code) zero le = omega arith
start_most wide n at (insn ∷ code) (suc k) le =
    let size = size_bound at (wide n) insn in
    let split = sum_by-cons (λ (x : Insn). 1 + arm_count x) insn code in
    let rest = start_most wide (suc n) (at + size_of at (wide n) insn) code k (omega (arith, le)) in
    omega (arith, size, split, rest)

pub starts_most : (wide : WideSet) (code : List Insn) (k : ℕ) → insns_and_arms code ≤ 1000000 → k ≤ length code
    → slice_index (starts_of wide code) k ≤ 16000000
unfolding starts_of
starts_most wide code k few le = let most = start_most wide 0 0 code k le in omega (arith, few, most)

-- ---- by how much they rise

risen_by : (x p more passed k old new : ℕ) → IsShifted x p more passed k old new
    → new ≡ old + (if nat_le k x then 0 else if nat_le k p then more else passed)
risen_by x p more passed k old new is = by (nat_le k x) refl (nat_le k p) refl
  where
    below : (a b : ℕ) → nat_le a b ≡ true → a ≤ b
    below a b e = grind (arith, nat_tests)

    above : (a b : ℕ) → nat_le a b ≡ false → b < a
    above a b e = grind (arith, nat_tests)

    by : (t : Bool) → nat_le k x ≡ t → (u : Bool) → nat_le k p ≡ u → new ≡ old + (if t then 0 else if u then more else passed)
    by true e u d = let same = is.front (below k x e) in omega (arith, same)
    by false e true d = (is.raised (above k x e)).near (below k p d)
    by false e false d = (is.raised (above k x e)).behind (above k p d)

-- an offset that is right but for a multiple of four tells what a switch passes on
passes : (offset exact more : ℕ) → offset % 4 ≡ exact % 4 → IsPassedOn exact more (passed_on (offset % 4) more)
passes offset exact more e = record { sum = omega (arith, e) }

jump_within : (code : List Insn) (j : Jump) → IsJumpOf code j → j.number < length code
jump_within code j is = slice_get_within code j.number _ is.has

-- ---- one more jump

module _ (code : List Insn) (jumps : List Jump) (wide : List Bool) (starts : List ℕ) (ends : List Ends) (kept : AreKept code jumps wide starts ends)
    (j : Jump) (is : IsJumpOf code j) (narrow : get_or wide j.number false ≡ false) (s : Shift) (jump_is : s.jump ≡ j.number)
    (switch_is : s.switch ≡ j.switch) (near_is : s.near ≡ j.more) (behind_is : s.behind ≡ passed_on (slice_index starts j.switch % 4) j.more) where
  abbrev old : ℕ → ℕ
  old k = slice_index (starts_of (listed wide) code) k

  abbrev new : ℕ → ℕ
  new k = slice_index (starts_of (listed (set wide j.number true)) code) k

  in_wide : j.number < length wide
  in_wide = let lt = jump_within code j is in let size = kept.size in omega (arith, lt, size)

  passed : IsPassedOn (old j.switch) (widening is.op) s.behind
  passed =
      subst (λ (m : ℕ). IsPassedOn (old j.switch) m s.behind) is.more
      (subst (IsPassedOn (old j.switch) j.more) (sym behind_is)
      (passes (slice_index starts j.switch) (old j.switch) j.more (kept.stops j.switch is.next.within is.next.stop)))

  shifted : (k : ℕ) → k ≤ length code → IsShifted j.number j.switch (widening is.op) s.behind k (old k) (new k)
  shifted k le = one_more_wide code wide j.number is.op j.to j.switch s.behind is.has in_wide narrow is.next passed k le

  risen : (k : ℕ) → k ≤ length code → new k ≡ old k + rise_at s k
  risen k le =
      risen_by j.number j.switch (widening is.op) s.behind k (old k) (new k) (shifted k le)
      ∙ ap (λ (m : ℕ). old k + (if nat_le k j.number then 0 else if nat_le k j.switch then m else s.behind)) (sym is.more ∙ sym near_is)
      ∙ ap₂ (λ (x p : ℕ). old k + (if nat_le k x then 0 else if nat_le k p then s.near else s.behind)) (sym jump_is) (sym switch_is)

  ends_risen : (more : List Jump) → AllByRecursion (IsJumpOf code) more
      → all_risen s more (map (ends_in (starts_of (listed wide) code)) more) ≡ map (ends_in (starts_of (listed (set wide j.number true)) code)) more
  ends_risen [] all = refl
  ends_risen (x ∷ more) all =
      let at = jump_within code x all.0 in
      let to = all.0.within in
      ap₂ (λ (e : Ends) (l : List Ends). e ∷ l)
      (λ i. record { at = sym (risen x.number (omega (arith, at))) i; to = sym (risen x.to (omega (arith, to))) i })
      (ends_risen more all.1)

  stop_kept : (p : ℕ) → p ≤ length code → is_stop code p ≡ true
      → slice_index (set starts j.switch ((slice_index starts j.switch % 4 + j.more) % 4)) p % 4 ≡ new p % 4
  stop_kept p le stop = by (nat_le p j.number) refl (nat_le p j.switch) refl (nat_le j.switch p) refl
    where
      below : (a b : ℕ) → nat_le a b ≡ true → a ≤ b
      below a b e = grind (arith, nat_tests)

      above : (a b : ℕ) → nat_le a b ≡ false → b < a
      above a b e = grind (arith, nat_tests)

      value : ℕ
      value = (slice_index starts j.switch % 4 + j.more) % 4

      stays : p ≢ j.switch → slice_index (set starts j.switch value) p % 4 ≡ old p % 4
      stays other = ap (λ (m : ℕ). m % 4) (get_or-set_other starts j.switch p value 0 other) ∙ kept.stops p le stop

      more_is : widening is.op ≡ j.more
      more_is = sym is.more

      differ : true ≡ false → ⊥
      differ e = cc

      there : p ≡ j.switch → slice_index (set starts j.switch value) p % 4 ≡ new p % 4
      there same =
          let up = ((shifted p le).raised (let lt = is.next.behind in omega (arith, same, lt))).near (omega (arith, same)) in
          let read = ap (λ (m : ℕ). get_or (set starts j.switch value) m 0) same
          ∙ get_or-set_same starts j.switch value 0 (let size = kept.starts_size in let lt = is.next.within in omega (arith, size, lt)) in
          let was = kept.stops j.switch is.next.within is.next.stop in
          let here : old p ≡ old j.switch = ap old same in
          let e = more_is in
          omega (arith, up, read, was, here, e)

      by : (t : Bool) → nat_le p j.number ≡ t → (u : Bool) → nat_le p j.switch ≡ u → (v : Bool) → nat_le j.switch p ≡ v
          → slice_index (set starts j.switch value) p % 4 ≡ new p % 4
      by true a u b v c =
          let le_x = below p j.number a in
          let lt = is.next.behind in
          stays (λ e. omega (arith, e, le_x, lt)) ∙ ap (λ (m : ℕ). m % 4) (sym ((shifted p le).front le_x))
      by false a true b true c = there (let x = below p j.switch b in let y = below j.switch p c in omega (arith, x, y))
      by false a true b false c = absurd (differ (sym stop ∙ is.next.none p (above p j.number a) (above j.switch p c)))
      by false a false b v c =
          let gt = above p j.switch b in
          let up = ((shifted p le).raised (above p j.number a)).behind gt in
          let four = fours (old j.switch) (widening is.op) s.behind passed in
          stays (λ e. omega (arith, e, gt)) ∙ omega (arith, up, four)

  pub kept_on : AreKept code jumps (set wide j.number true) (set starts j.switch ((slice_index starts j.switch % 4 + j.more) % 4)) (all_risen s jumps ends)
  kept_on = record {
    are_jumps = kept.are_jumps;
    size = length-set wide j.number true ∙ kept.size;
    starts_size = length-set starts j.switch ((slice_index starts j.switch % 4 + j.more) % 4) ∙ kept.starts_size;
    stops = stop_kept;
    ends_are = ap (all_risen s jumps) kept.ends_are ∙ ends_risen jumps kept.are_jumps.each;
  }

-- ---- where they begin

jump_places : (code : List Insn) (n : ℕ) (jumps : List Jump) → length code < n → AllByRecursion (IsJumpOf code) jumps
    → AllByRecursion (λ j. (j.number < n) × (j.to < n)) jumps
jump_places code n [] lt all = tt
jump_places code n (j ∷ jumps) lt all =
    let at = jump_within code j all.0 in
    let to = all.0.within in
    ((omega (arith, lt, at), omega (arith, lt, to)), jump_places code n jumps lt all.1)

pub places_in : (code : List Insn) (jumps : List Jump) (starts : List ℕ) → AreJumpsOf code jumps → length starts ≡ length code + 1
    → All (λ j. (j.number < length starts) × (j.to < length starts)) jumps
places_in code jumps starts are size =
    All-from_recursion (λ (j : Jump). (j.number < length starts) × (j.to < length starts)) jumps
    (jump_places code (length starts) jumps (omega (arith, size)) are.each)

pub kept_first : (code : List Insn) (jumps : List Jump) (wide : List Bool) (starts : List ℕ) (ends : List Ends) → AreJumpsOf code jumps
    → length wide ≡ length code → starts ≡ starts_of (listed wide) code → ends ≡ map (ends_in starts) jumps → AreKept code jumps wide starts ends
kept_first code jumps wide starts ends are size is ends_are = record {
  are_jumps = are;
  size = size;
  starts_size = ap length is ∙ starts_count (listed wide) code;
  stops = λ p le stop. ap (λ (l : List ℕ). slice_index l p % 4) is;
  ends_are = ends_are ∙ ap (λ (l : List ℕ). map (ends_in l) jumps) is;
}

-- ---- what one more jump asks for

widening_few : (op : ℕ) → widening op ≤ 5
widening_few op = by (nat_eq op opcode.goto)
  where
    by : (t : Bool) → (if t then 2 else 5) ≤ 5
    by true = omega arith
    by false = omega arith

pub more_few : (code : List Insn) (j : Jump) → IsJumpOf code j → j.more ≤ 5
more_few code j is = let e = is.more in let few = widening_few is.op in omega (arith, e, few)

pub switch_in : (code : List Insn) (j : Jump) (starts : List ℕ) → IsJumpOf code j → length starts ≡ length code + 1 → j.switch < length starts
switch_in code j starts is size = let le = is.next.within in omega (arith, le, size)

pub number_in : (code : List Insn) (j : Jump) (wide : List Bool) → IsJumpOf code j → length wide ≡ length code → j.number < length wide
number_in code j wide is size = let lt = jump_within code j is in omega (arith, lt, size)

ends_few : (wide : WideSet) (code : List Insn) (jumps : List Jump) → insns_and_arms code ≤ 1000000 → AllByRecursion (IsJumpOf code) jumps
    → AllByRecursion (λ e. (e.at ≤ 16000000) × (e.to ≤ 16000000)) (map (ends_in (starts_of wide code)) jumps)
ends_few wide code [] few all = tt
ends_few wide code (j ∷ jumps) few all =
    let at = jump_within code j all.0 in
    let to = all.0.within in
    ((starts_most wide code j.number few (omega (arith, at)), starts_most wide code j.to few (omega (arith, to))), ends_few wide code jumps few all.1)

pub all_few : (code : List Insn) (jumps : List Jump) (wide : List Bool) (starts : List ℕ) (ends : List Ends) → insns_and_arms code ≤ 1000000
    → AreKept code jumps wide starts ends → All (λ e. (e.at ≤ 16000000) × (e.to ≤ 16000000)) ends
all_few code jumps wide starts ends few kept =
    subst (All (λ (e : Ends). (e.at ≤ 16000000) × (e.to ≤ 16000000))) (sym kept.ends_are)
    (All-from_recursion (λ (e : Ends). (e.at ≤ 16000000) × (e.to ≤ 16000000)) (map (ends_in (starts_of (listed wide) code)) jumps)
    (ends_few (listed wide) code jumps few kept.are_jumps.each))

pub ends_size : (code : List Insn) (jumps : List Jump) (wide : List Bool) (starts : List ℕ) (ends : List Ends) → AreKept code jumps wide starts ends
    → length ends ≡ length jumps
ends_size code jumps wide starts ends kept = ap length kept.ends_are ∙ length-map jumps (ends_in (starts_of (listed wide) code))

-- a jump that is wide stays so
set_again : (wide : List Bool) (i : ℕ) → get_or wide i false ≡ true → set wide i true ≡ wide
set_again [] i e = refl
set_again (w ∷ wide) zero e = ap (λ (x : Bool). x ∷ wide) (sym e)
set_again (w ∷ wide) (suc i) e = ap (λ (l : List Bool). w ∷ l) (set_again wide i e)

pub already_wide : (wide : List Bool) (j : Jump) → listed wide j.number ≡ true → wide ≡ set wide j.number true
already_wide wide j e = sym (set_again wide j.number e)

-- ---- what the loops over jumps keep

pub written_back : (n : ℕ) (new items : List Ends) → length new ≡ n → length items ≡ n → take n (new ++ drop (length new) items) ≡ new
written_back n new items size all =
    ap (λ (l : List Ends). take n (new ++ l)) (drop_all (length new) items (omega (arith, size, all)))
    ∙ ap (take n) (append-nil new) ∙ take_all n new (omega (arith, size))

-- the state behind one more jump that becomes wide
pub kept_after : (code : List Insn) (jumps : List Jump) (wide : List Bool) (starts : List ℕ) (ends : List Ends) → AreKept code jumps wide starts ends
    → (j : Jump) → IsJumpOf code j → get_or wide j.number false ≡ false → (behind offset : ℕ) → offset ≡ get_or starts j.switch offset
    → behind ≡ passed_on (offset % 4) j.more → (new : List Ends)
    → new ≡ all_risen (record { jump = j.number; switch = j.switch; near = j.more; behind = behind }) jumps ends
    → AreKept code jumps (set wide j.number true) (set starts j.switch ((offset % 4 + j.more) % 4)) new
kept_after code jumps wide starts ends kept j is narrow behind offset read passed new grown =
    let s : Shift = record { jump = j.number; switch = j.switch; near = j.more; behind = behind } in
    let same : offset ≡ slice_index starts j.switch = get_or_read starts j.switch offset (switch_in code j starts is kept.starts_size) read 0 in
    subst (λ (l : List Ends). AreKept code jumps (set wide j.number true) (set starts j.switch ((offset % 4 + j.more) % 4)) l) (sym grown)
    (subst (λ (o : ℕ). AreKept code jumps (set wide j.number true) (set starts j.switch ((o % 4 + j.more) % 4)) (all_risen s jumps ends)) (sym same)
    (kept_on code jumps wide starts ends kept j is narrow s refl refl refl (passed ∙ ap (λ (o : ℕ). passed_on (o % 4) j.more) same)))

pub each_next : (far : List Jump) (index : ℕ) (j : Jump) (wide all : List Bool) → index < length far → j ≡ get_or far index j
    → widened_each (drop index far) wide ≡ all → widened_each (drop (index + 1) far) (set wide j.number true) ≡ all
each_next far index j wide all lt is so = ap (λ (l : List Jump). widened_each l wide) (sym (drop_is far index j lt is)) ∙ so

pub each_done : (far : List Jump) (index : ℕ) (wide all : List Bool) → length far ≤ index → widened_each (drop index far) wide ≡ all → wide ≡ all
each_done far index wide all le so = ap (λ (l : List Jump). widened_each l wide) (sym (drop_all index far le)) ∙ so

pub jump_there : (code : List Insn) (far : List Jump) (index : ℕ) (j : Jump) → AllByRecursion (IsJumpOf code) far → index < length far
    → j ≡ get_or far index j → IsJumpOf code j
jump_there code far index j all lt is = subst (IsJumpOf code) (sym is) (All-from_recursion (IsJumpOf code) far all index j lt)

pub few_in : (code : List Insn) → IsLayable code → length code ≤ 1000000
few_in code l = let few = l.few in let more = count_least code in omega (arith, few, more)
  where
    count_least : (code : List Insn) → length code ≤ insns_and_arms code
    count_least [] = omega arith
    count_least (insn ∷ code) =
        let split = sum_by-cons (λ (x : Insn). 1 + arm_count x) insn code in
        let rest = count_least code in
        omega (arith, split, rest)

-- where the code and the jumps are as they were
pub kept_jumps : (before after : Widening) → after.code ≡ before.code → after.jumps ≡ before.jumps → IsWidening before
    → AreJumpsOf after.code.now after.jumps.items
kept_jumps before after code jumps kept =
    subst (λ (c : Bor (List Insn)). AreJumpsOf c.now after.jumps.items) (sym code)
    (subst (λ (l : Vec Jump Global). AreJumpsOf before.code.now l.items) (sym jumps) kept.are_jumps)

pub same_size : (before after : Widening) → after.code ≡ before.code → IsWidening before → length before.wide.items ≡ length after.code.now
same_size before after code kept = kept.size ∙ ap (λ (c : Bor (List Insn)). length c.now) (sym code)

-- ---- rounds

-- rounds lead to the wide jumps of this state of the code, and these jumps have no room then
pub record IsRound (code : List Insn) (w : Widening) (far : List Jump) : Type 0 where
  pub code_is : w.code.now ≡ code
  pub kept : IsWidening w
  pub reached : IsReached code w.wide.items (starts_of (listed w.wide.items) code)
  pub far_are : far ≡ far_in w.jumps.items w.ends.items w.wide.items

pub round_first : (code : List Insn) (w : Widening) (far : List Jump) → w.code.now ≡ code → IsWidening w → w.wide.items ≡ replicate (length code) false
    → far ≡ far_in w.jumps.items w.ends.items w.wide.items → IsRound code w far
round_first code w far code_is kept none far_are = record {
  code_is = code_is;
  kept = kept;
  reached = reached_none code w.wide.items (starts_of (listed w.wide.items) code) none refl;
  far_are = far_are;
}

module _ (code : List Insn) (w : Widening) (far : List Jump) (r : IsRound code w far) where
  abbrev jumps_in : List Jump
  jumps_in = w.jumps.items

  abbrev wide_in : List Bool
  wide_in = w.wide.items

  abbrev starts_in : List ℕ
  starts_in = starts_of (listed w.wide.items) code

  kept_in : AreKept code w.jumps.items w.wide.items w.starts.items w.ends.items
  kept_in = subst (λ (c : List Insn). AreKept c w.jumps.items w.wide.items w.starts.items w.ends.items) r.code_is r.kept

  abbrev far_there : List Jump
  far_there = far_in jumps_in (map (ends_in starts_in) jumps_in) wide_in

  far_is : far ≡ far_there
  far_is = r.far_are ∙ ap (λ (e : List Ends). far_in jumps_in e wide_in) kept_in.ends_are

  pub round_layable : IsLayable code → IsLayable w.code.now
  round_layable l = subst IsLayable (sym r.code_is) l

  pub round_jumps : AllByRecursion (IsJumpOf w.code.now) far
  round_jumps =
      subst (λ (c : List Insn). AllByRecursion (IsJumpOf c) far) (sym r.code_is)
      (subst (AllByRecursion (IsJumpOf code)) (sym far_is) (jumps_far code jumps_in starts_in wide_in kept_in.are_jumps kept_in.size))

  next_is : widened_each far wide_in ≡ with_far starts_in 0 code wide_in
  next_is = ap (λ (l : List Jump). widened_each l wide_in) far_is ∙ one_round code jumps_in starts_in wide_in kept_in.are_jumps kept_in.size

  pub round_next : (v : Widening) (later : List Jump) → v.code ≡ w.code → v.wide.items ≡ widened_each far w.wide.items → IsWidening v
      → later ≡ far_in v.jumps.items v.ends.items v.wide.items → IsRound code v later
  round_next v later same is kept later_is = record {
    code_is = ap (λ (c : Bor (List Insn)). c.now) same ∙ r.code_is;
    kept = kept;
    reached = reached_next code wide_in starts_in r.reached v.wide.items (starts_of (listed v.wide.items) code) (is ∙ next_is) refl;
    far_are = later_is;
  }

  pub round_smaller : (wide : List Bool) → wide ≡ widened_each far w.wide.items → 0 < length far
      → length code - count wide < length code - count w.wide.items
  round_smaller wide is some =
      let first = get_or far 0 (first_of far some) in
      let listed_there : Contains far_there first = subst (λ (l : List Jump). Contains l first) far_is (first_there far some) in
      let more = more_wide code jumps_in starts_in wide_in kept_in.are_jumps kept_in.size first listed_there in
      let same = ap count (is ∙ next_is) in
      let few = count_few wide in
      let size : length wide ≡ length code = ap length (is ∙ next_is) ∙ far_length starts_in 0 code wide_in kept_in.size in
      omega (arith, more, same, few, size)
    where
      first_of : (l : List Jump) → 0 < length l → Jump
      first_of [] lt = absurd (omega (arith, lt))
      first_of (j ∷ l) lt = j

      first_there : (l : List Jump) (lt : 0 < length l) → Contains l (get_or l 0 (first_of l lt))
      first_there [] lt = absurd (omega (arith, lt))
      first_there (j ∷ l) lt = first_in j l

  pub round_ended : length far ≤ 0 → w.wide.items ≡ chosen_list code
  round_ended none =
      one_chosen code wide_in (chosen_list code) (record {
        count = r.reached.rounds_count;
        reached = r.reached.reached;
        ended = none_left code jumps_in starts_in wide_in kept_in.are_jumps kept_in.size (sym far_is ∙ empty far none);
      }) (chosen_is code)
    where
      empty : (l : List Jump) → length l ≤ 0 → l ≡ []
      empty [] le = refl
      empty (j ∷ l) le = absurd (omega (arith, le))

pub starts_ended : (code : List Insn) (wide : List Bool) (starts : List ℕ) → wide ≡ chosen_list code → starts ≡ starts_of (listed wide) code
    → starts ≡ chosen_starts code
unfolding chosen_starts
starts_ended code wide starts is are = are ∙ ap (λ (w : List Bool). starts_of (listed w) code) is
