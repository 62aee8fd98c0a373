-- Lists of jumps and of their offsets, jump by jump.
use Rattle.std.proofs.Common.{◌≡◌, ◌≢◌, ◌⊎◌, inl, inr, ℕ, ℤ, zero, suc, ◌+◌, ◌-◌, ◌<◌, ◌≤◌, All, Bool, true, false, ◌&&◌, not, List, [], ◌∷◌, ◌++◌, length, take, drop, get_or, set, refl, sym, ap, ◌∙◌, subst, arith, append_assoc, nat_eq, Some, if◌then◌else◌}
use Rattle.std.specs.Prelude.{Contains}
use Rattle.std.specs.List.{AllByRecursion}
use Rattle.std.proofs.lemmas.Bool.{eqb-true, eqb-false}
use Rattle.std.proofs.lemmas.List.Elements.{Contains-append_left, Contains-append_right}
use Rattle.std.proofs.lemmas.Option.{slice_get-get_or, slice_get_within}
use Rattle.std.proofs.lemmas.List.{append-nil, drop_all, drop-set-lt, get_or-set_other, length-set, take_all, take_more_set}
use Rattle.jc_bytes.proofs.AppendingLaws.{drop_is}
use Rattle.jc_bytes.proofs.BooleanLaws.{first_in}
use Rattle.jc_bytes.proofs.EachLaws.{all_both}
use Rattle.jc_methods.specs.InsnUse.{LeadsWithin}
use Rattle.jc_methods.specs.Widened.{HasAt, listed}
use Rattle.jc_methods.specs.declared.insn.Arm.{Arm}
use Rattle.jc_methods.specs.declared.insn.Insn.{Insn}
use Rattle.jc_methods.specs.declared.insn.Insn.TheVariants as insns
use Rattle.jc_layout.specs.Layout.{is_near}
use Rattle.jc_layout.specs.Shift.{AreJumpsOf, IsJumpOf, all_risen, far_in, is_stop, is_switch, risen_ends, widening}
use Rattle.jc_layout.specs.declared.jumps.Jump.{Jump}
use Rattle.jc_layout.specs.declared.jumps.Ends.{Ends}
use Rattle.jc_layout.specs.declared.shift.Shift.{Shift}

-- ---- the jumps of the instructions from one on

pub record AreListedFrom (code : List Insn) (number switch : ℕ) (jumps : List Jump) : Type 0 where
  pub each : AllByRecursion (IsJumpOf code) jumps
  pub every : (place op to : ℕ) → number ≤ place → HasAt code place (insns.Jump op to) → (j : Jump) × Contains jumps j × (j.number ≡ place)
  pub above : number ≤ switch
  pub within : switch ≤ length code
  pub stop : is_stop code switch ≡ true
  pub none : (k : ℕ) → number ≤ k → k < switch → is_stop code k ≡ false

-- a switch stands at the place of an instruction exactly where it is one
stop_at : (code : List Insn) (place : ℕ) (insn : Insn) → HasAt code place insn → is_stop code place ≡ is_switch insn
stop_at [] place insn has = absurd cc
stop_at (x ∷ code) zero insn has = ap is_switch (same has)
  where
    same : Some x ≡ Some insn → x ≡ insn
    same e = cc
stop_at (x ∷ code) (suc place) insn has = stop_at code place insn has

end_stops : (code : List Insn) → is_stop code (length code) ≡ true
end_stops [] = refl
end_stops (insn ∷ code) = end_stops code

one_insn : (a b : Insn) → Some a ≡ Some b → a ≡ b
one_insn a b e = cc

pub listed_none : (code : List Insn) → AreListedFrom code (length code) (length code) []
listed_none code = record {
  each = tt;
  every = λ place op to le has. let lt = slice_get_within code place (insns.Jump op to) has in absurd (omega (arith, le, lt));
  above = omega arith;
  within = omega arith;
  stop = end_stops code;
  none = λ k le lt. absurd (omega (arith, le, lt));
}

-- the instruction in front of those so far
module _ (code : List Insn) (number switch : ℕ) (jumps : List Jump) (insn : Insn) (has : HasAt code number insn) (so : AreListedFrom code (number + 1) switch jumps) where
  no_stop : is_switch insn ≡ false → (k : ℕ) → number ≤ k → k < switch → is_stop code k ≡ false
  no_stop plain k le lt = by (nat_eq k number) refl
    where
      by : (t : Bool) → nat_eq k number ≡ t → is_stop code k ≡ false
      by true e = ap (is_stop code) (eqb-true k number e) ∙ stop_at code number insn has ∙ plain
      by false e = let other : k ≢ number = eqb-false k number e in so.none k (omega (arith, le, other)) lt

  here_or : (P : ℕ → Type 0) → P number → ((place : ℕ) → number + 1 ≤ place → P place) → (place : ℕ) → number ≤ place → P place
  here_or P here later place le = by (nat_eq place number) refl
    where
      by : (t : Bool) → nat_eq place number ≡ t → P place
      by true e = subst P (sym (eqb-true place number e)) here
      by false e = let other : place ≢ number = eqb-false place number e in later place (omega (arith, le, other))

  pub listed_jump : (j : Jump) → IsJumpOf code j → j.number ≡ number → is_switch insn ≡ false → AreListedFrom code number switch (jumps ++ j ∷ [])
  listed_jump j is at plain = record {
    each = all_both (IsJumpOf code) jumps (j ∷ []) so.each (is, tt);
    every = λ place op to le there.
        here_or (λ (p : ℕ). HasAt code p (insns.Jump op to) → (x : Jump) × Contains (jumps ++ j ∷ []) x × (x.number ≡ p))
        (λ h. (j, Contains-append_right jumps (j ∷ []) j (first_in j []), at))
        (λ later more h. let found = so.every later op to more h in (found.0, Contains-append_left jumps (j ∷ []) found.0 found.1, found.2)) place le there;
    above = let le = so.above in omega (arith, le);
    within = so.within;
    stop = so.stop;
    none = no_stop plain;
  }

  pub listed_switch : is_switch insn ≡ true → AreListedFrom code number number jumps
  listed_switch is = record {
    each = so.each;
    every = λ place op to le.
        here_or (λ (p : ℕ). HasAt code p (insns.Jump op to) → (x : Jump) × Contains jumps x × (x.number ≡ p))
        (λ h. absurd (differ (sym is ∙ ap is_switch (one_insn insn (insns.Jump op to) (sym has ∙ h)))))
        (λ later more h. so.every later op to more h) place le;
    above = omega arith;
    within = let le = so.above in let end = so.within in omega (arith, le, end);
    stop = stop_at code number insn has ∙ is;
    none = λ k le lt. absurd (omega (arith, le, lt));
  }
    where
      differ : true ≡ false → ⊥
      differ e = cc

  pub listed_other : is_switch insn ≡ false → ((op to : ℕ) → insn ≡ insns.Jump op to → ⊥) → AreListedFrom code number switch jumps
  listed_other plain other = record {
    each = so.each;
    every = λ place op to le.
        here_or (λ (p : ℕ). HasAt code p (insns.Jump op to) → (x : Jump) × Contains jumps x × (x.number ≡ p))
        (λ h. absurd (other op to (one_insn insn (insns.Jump op to) (sym has ∙ h))))
        (λ later more h. so.every later op to more h) place le;
    above = let le = so.above in omega (arith, le);
    within = so.within;
    stop = so.stop;
    none = no_stop plain;
  }

-- the same, as the loop gives it
module _ (code : List Insn) (number switch : ℕ) (jumps : List Jump) (insn : Insn) (some : 0 < number) (is : insn ≡ get_or code (number - 1) insn)
    (so : AreListedFrom code number switch jumps) where
  below : number - 1 < length code
  below = let up = so.above in let end = so.within in omega (arith, some, up, end)

  has_there : HasAt code (number - 1) insn
  has_there = slice_get-get_or code (number - 1) insn below ∙ ap (λ (i : Insn). Some i) (sym is)

  so_there : AreListedFrom code (number - 1 + 1) switch jumps
  so_there = subst (λ (n : ℕ). AreListedFrom code n switch jumps) (omega (arith, some)) so

  pub takes_jump : All (LeadsWithin (length code)) code → (op : ℕ) (j : Jump) → insn ≡ insns.Jump op j.to → j.number ≡ number - 1
      → j.switch ≡ switch → j.more ≡ widening op → (next : List Jump) → next ≡ jumps ++ j ∷ [] → AreListedFrom code (number - 1) switch next
  takes_jump places op j is_jump at switch_is more next grown =
      subst (AreListedFrom code (number - 1) switch) (sym grown)
      (listed_jump code (number - 1) switch jumps insn has_there so_there j (record {
        op = op;
        has = subst (λ (n : ℕ). HasAt code n (insns.Jump op j.to)) (sym at) (has_there ∙ ap (λ (i : Insn). Some i) is_jump);
        within = (subst (LeadsWithin (length code)) (sym is ∙ is_jump) (places (number - 1) insn below)).0;
        next = record {
          behind = let up = so.above in omega (arith, some, up, at, switch_is);
          within = let end = so.within in omega (arith, end, switch_is);
          stop = ap (is_stop code) switch_is ∙ so.stop;
          none = λ k above less. so.none k (omega (arith, some, at, above)) (omega (arith, less, switch_is));
        };
        more = more;
      }) at (ap is_switch is_jump))

  pub takes_switch : is_switch insn ≡ true → AreListedFrom code (number - 1) (number - 1) jumps
  takes_switch sw = listed_switch code (number - 1) switch jumps insn has_there so_there sw

  pub takes_other : is_switch insn ≡ false → ((op to : ℕ) → insn ≡ insns.Jump op to → ⊥) → AreListedFrom code (number - 1) switch jumps
  takes_other plain other = listed_other code (number - 1) switch jumps insn has_there so_there plain other

-- what is no jump and no switch, and what is a switch
pub is_plain : (insn : Insn) → ((low : ℤ) (default : ℕ) (arms : List ℕ) → insn ≡ insns.Table low default arms → ⊥)
    → ((default : ℕ) (arms : List Arm) → insn ≡ insns.Lookup default arms → ⊥) → is_switch insn ≡ false
is_plain (insns.Table low default arms) t l = absurd (t low default arms refl)
is_plain (insns.Lookup default arms) t l = absurd (l default arms refl)
is_plain insn t l = refl

pub switch_is : (insn : Insn) → ((low : ℤ) × (default : ℕ) × (arms : List ℕ) × (insn ≡ insns.Table low default arms))
    ⊎ ((default : ℕ) × (arms : List Arm) × (insn ≡ insns.Lookup default arms)) → is_switch insn ≡ true
switch_is insn (inl t) = ap is_switch t.3
switch_is insn (inr l) = ap is_switch l.2

pub all_jumps : (code : List Insn) (number switch : ℕ) (jumps : List Jump) → number ≤ 0 → AreListedFrom code number switch jumps → AreJumpsOf code jumps
all_jumps code number switch jumps none so =
    record { each = so.each; every = λ place op to has. so.every place op to (omega (arith, none)) has }

-- ---- far jumps

pub record AreFarSoFar (jumps : List Jump) (ends : List Ends) (wide : List Bool) (place : ℕ) (far : List Jump) : Type 0 where
  pub so_far : far ++ far_in (drop place jumps) (drop place ends) wide ≡ far_in jumps ends wide

module _ (jumps : List Jump) (ends : List Ends) (wide : List Bool) (place : ℕ) (j : Jump) (e : Ends) (in_jumps : place < length jumps)
    (in_ends : place < length ends) (j_is : j ≡ get_or jumps place j) (e_is : e ≡ get_or ends place e) where
  abbrev left : Bool
  left = not (listed wide j.number) && not (is_near e.at e.to)

  abbrev rest : List Jump
  rest = far_in (drop (place + 1) jumps) (drop (place + 1) ends) wide

  opened : far_in (drop place jumps) (drop place ends) wide ≡ (if left then j ∷ rest else rest)
  opened = λ i. far_in (drop_is jumps place j in_jumps j_is i) (drop_is ends place e in_ends e_is i) wide

  pub far_next : (far : List Jump) → AreFarSoFar jumps ends wide place far → left ≡ true → AreFarSoFar jumps ends wide (place + 1) (far ++ j ∷ [])
  far_next far so is = record {
    so_far =
        append_assoc far (j ∷ []) rest ∙ ap (λ (t : Bool). far ++ (if t then j ∷ rest else rest)) (sym is)
        ∙ ap (λ (l : List Jump). far ++ l) (sym opened) ∙ so.so_far;
  }

  pub near_next : (far : List Jump) → AreFarSoFar jumps ends wide place far → left ≡ false → AreFarSoFar jumps ends wide (place + 1) far
  near_next far so is = record {
    so_far =
        ap (λ (t : Bool). far ++ (if t then j ∷ rest else rest)) (sym is)
        ∙ ap (λ (l : List Jump). far ++ l) (sym opened) ∙ so.so_far;
  }

pub all_far : (jumps : List Jump) (ends : List Ends) (wide : List Bool) (place : ℕ) (far : List Jump) → length jumps ≤ place
    → AreFarSoFar jumps ends wide place far → far ≡ far_in jumps ends wide
all_far jumps ends wide place far le so =
    sym (append-nil far) ∙ ap (λ (l : List Jump). far ++ far_in l (drop place ends) wide) (sym (drop_all place jumps le)) ∙ so.so_far

-- ---- offsets that rise

pub record AreRisenSoFar (s : Shift) (jumps : List Jump) (first ends : List Ends) (place : ℕ) : Type 0 where
  pub so_far : take place ends ++ all_risen s (drop place jumps) (drop place ends) ≡ all_risen s jumps first
  pub left : (k : ℕ) (d : Ends) → place ≤ k → get_or ends k d ≡ get_or first k d
  pub size : length ends ≡ length first

pub none_risen : (s : Shift) (jumps : List Jump) (first : List Ends) → AreRisenSoFar s jumps first first 0
none_risen s jumps first = record { so_far = refl; left = λ k d le. refl; size = refl }

pub risen_next : (s : Shift) (jumps : List Jump) (first ends : List Ends) (place : ℕ) (j : Jump) (e : Ends) → place < length jumps → place < length ends
    → j ≡ get_or jumps place j → e ≡ get_or ends place e → AreRisenSoFar s jumps first ends place
    → AreRisenSoFar s jumps first (set ends place (risen_ends s j e)) (place + 1)
risen_next s jumps first ends place j e in_jumps in_ends j_is e_is so = record {
  so_far =
      (λ i. take_more_set ends place v in_ends i ++ all_risen s (drop (place + 1) jumps) (drop-set-lt (place + 1) ends place v (omega arith) i))
      ∙ append_assoc (take place ends) (v ∷ []) (all_risen s (drop (place + 1) jumps) (drop (place + 1) ends))
      ∙ ap (λ (l : List Ends). take place ends ++ l)
      (λ i. all_risen s (sym (drop_is jumps place j in_jumps j_is) i) (sym (drop_is ends place e in_ends e_is) i))
      ∙ so.so_far;
  left = λ k d le. get_or-set_other ends place k v d (λ same. omega (arith, same, le)) ∙ so.left k d (omega (arith, le));
  size = length-set ends place v ∙ so.size;
}
  where
    v : Ends
    v = risen_ends s j e

pub each_risen : (s : Shift) (jumps : List Jump) (first ends : List Ends) (place : ℕ) → length jumps ≤ place → length first ≡ length jumps
    → AreRisenSoFar s jumps first ends place → ends ≡ all_risen s jumps first
each_risen s jumps first ends place le same so =
    let size = so.size in
    sym (append-nil ends)
    ∙ (λ i. sym (take_all place ends (omega (arith, size, same, le))) i ++ sym (drop_all place ends (omega (arith, size, same, le))) i)
    ∙ ap (λ (l : List Jump). take place ends ++ all_risen s l (drop place ends)) (sym (drop_all place jumps le)) ∙ so.so_far
