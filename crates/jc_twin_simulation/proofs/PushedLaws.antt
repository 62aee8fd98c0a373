-- What the prelude or a probe has pushed, from the instructions in front.
use Rattle.std.proofs.Common.{◌≡◌, ℕ, ℤ, zero, suc, ◌+◌, ◌-◌, pos, Bool, true, false, List, [], ◌∷◌, ◌++◌, drop, Option, Some, nat_le, nat_lt, refl, sym, ap, ap₂, ◌∙◌, subst, subst₂, arith, if◌then◌else◌}
use Rattle.std.specs.Prelude.{slice_get}
use Rattle.std.proofs.lemmas.Option.{same_Some}
use Rattle.jc_methods.specs.Opcode as opcode
use Rattle.jc_methods.specs.ProbeMembers.{most_short}
use Rattle.jc_methods.specs.WellMade.{what_used}
use Rattle.jc_methods.specs.declared.insn.Insn.{Insn}
use Rattle.jc_methods.specs.declared.insn.Insn.TheVariants as insns
use Rattle.jc_methods.specs.declared.body.Use.{Use}
use Rattle.jc_methods.specs.declared.body.What.{What}
use Rattle.jc_methods.specs.declared.body.What.TheVariants as whats
use Rattle.jc_methods.specs.declared.probe_members.Fetch.{Fetch}
use Rattle.jc_programs.specs.declared.program.Program.{Program}
use Rattle.jc_programs.specs.declared.run_end.Entry.{Entry}
use Rattle.jc_emit.specs.Items.{Item, start, image, probe_array, probe_id, probe_one, probe_store, hop, own_of, extra_of}
use Rattle.jc_emit.specs.Local.{IsBehind}
use Rattle.jc_emit.specs.Marks.{push, PushesBy, Pushes, prelude_size}
use Rattle.jc_machine_model.specs.Values.{Value, int}
use Rattle.jc_twin_simulation.specs.Sides.{Side, way_of, IsSide}
use Rattle.jc_twin_simulation.specs.Beside.{pushed_of}
use Rattle.jc_twin_simulation.specs.Mid.{IsPushedBy, IsPushedIn, ArePushed}
use Rattle.jc_twin_simulation.proofs.FrameLaws.{twin_insn}
use Rattle.jc_twin_simulation.proofs.MidLaws.{IsNoLocal, no_local, start_within, aside_past, start_behind, id_behind, one_behind, last_behind}

-- ---- what was pushed

-- the number that an instruction pushes
abbrev int_of : Option What → ℤ
int_of (Some (whats.Int value)) = value
int_of _ = pos 0

abbrev number_of : List Use → Insn → ℤ
number_of uses (insns.Simple op) = pos (op - opcode.iconst_0)
number_of uses (insns.Push op x) = x
number_of uses (insns.Constant place) = int_of (what_used uses place)
number_of uses _ = pos 0

small_told : (uses : List Use) (n : ℕ) → number_of uses (push n) ≡ pos n
small_told uses n = by (nat_le n 5) (nat_le n 127)
  where
    by : (a b : Bool)
        → number_of uses (if a then insns.Simple (opcode.iconst_0 + n) else if b then insns.Push opcode.bipush (pos n) else insns.Push opcode.sipush (pos n)) ≡ pos n
    by true b = let same : 3 + n - 3 ≡ n = omega arith in ap pos same
    by false true = refl
    by false false = refl

number_told : (uses : List Use) (insn : Insn) (n : ℕ) → Pushes uses insn n → number_of uses insn ≡ pos n
number_told uses insn n h = by (nat_le n most_short) h
  where
    by : (short : Bool) → PushesBy short uses insn n → number_of uses insn ≡ pos n
    by true e = ap (number_of uses) e ∙ small_told uses n
    by false e = ap (number_of uses) e.1 ∙ ap int_of e.2

number_is : (uses : List Use) (array : Value) (insn : Insn) (n : ℕ) (v : Value) → Pushes uses insn n → IsPushedBy uses array insn v → v ≡ int (pos n)
number_is uses array insn n v h j = by insn (no_local uses insn n h) h j
  where
    by : (insn : Insn) → IsNoLocal insn → Pushes uses insn n → IsPushedBy uses array insn v → v ≡ int (pos n)
    by (insns.Local op slot) off h j = absurd off
    by insn off h j = j.2 ∙ ap int (sym (number_told uses insn j.0 j.1) ∙ number_told uses insn n h)

module _ (p p' : Program) (sides : Entry → Side) (m : Entry) (side : IsSide p p' m (sides m)) (a : Value) where
  abbrev t : Side
  t = sides m

  -- how many instructions the prelude has
  abbrev most : ℕ
  most = prelude_size (way_of t)

  abbrev Pushed : ℕ → ℕ → List Value → Type 0
  Pushed q extra stack = ArePushed most a t.twin q extra stack

  -- one value less, by the instruction in front
  record Down (r n : ℕ) (insn : Insn) (stack : List Value) : Type 0 where
    top : Value
    rest : List Value
    is : stack ≡ top ∷ rest
    by : IsPushedIn (nat_lt r most) t.twin.uses a insn top
    below : Pushed r n rest

  down : (q n r : ℕ) (insn : Insn) (stack : List Value) → q ≡ suc r → slice_get t.twin.code r ≡ Some insn → Pushed q (suc n) stack → Down r n insn stack
  down q n r insn [] e h k = absurd k
  down q n r insn (v ∷ stack) e h k =
      let place : k.0 ≡ r = let first = k.2 in omega (arith, e, first) in
      let same : k.1 ≡ insn = same_Some k.1 insn (sym k.3 ∙ ap (slice_get t.twin.code) place ∙ h) in
      record {
        top = v;
        rest = stack;
        is = refl;
        by = subst₂ (λ j i. IsPushedIn (nat_lt j most) t.twin.uses a i v) place same k.4;
        below = subst (λ j. Pushed j n stack) place k.5;
      }

  -- by an instruction of a probe
  by_probe : (q : ℕ) (x : Item) (insn : Insn) (v : Value) → slice_get t.items q ≡ Some x → own_of x ≡ false → IsBehind x
      → IsPushedIn (nat_lt q most) t.twin.uses a insn v → IsPushedBy t.twin.uses a insn v
  by_probe q x insn v here aside b h = subst (λ s. IsPushedIn s t.twin.uses a insn v) (aside_past p p' sides m side q x here aside b) h

  start_off : (q : ℕ) (fetch : Fetch) (n : ℕ) (st : List Value) → slice_get t.items q ≡ Some (start fetch (suc n)) → Pushed q 1 st → st ≡ a ∷ drop 1 st
  start_off q fetch n st here k =
      let f = start_behind p p' sides m side q fetch n here in
      let c = twin_insn p p' sides m side f.place (start fetch n) f.here in
      let d = down q 0 f.place c.0 st f.next c.1 k in
      let top = subst (λ s. IsPushedIn s t.twin.uses a c.0 d.top) (start_within p p' sides m side f.place fetch n f.here) d.by in
      d.is ∙ ap (λ v. v ∷ d.rest) top ∙ ap (λ l. a ∷ drop 1 l) (sym d.is)

  id_off : (q id at : ℕ) (late : Bool) (st : List Value) → slice_get t.items q ≡ Some (probe_id id at late) → Pushed q 1 st → st ≡ a ∷ drop 1 st
  id_off q id at late st here k =
      let f = id_behind p p' sides m side q id at late here in
      let c = twin_insn p p' sides m side f.place (probe_array id at late) f.here in
      let d = down q 0 f.place c.0 st f.next c.1 k in
      let by = by_probe f.place (probe_array id at late) c.0 d.top f.here refl tt d.by in
      d.is ∙ ap (λ v. v ∷ d.rest) (subst (λ i. IsPushedBy t.twin.uses a i d.top) c.2 by) ∙ ap (λ l. a ∷ drop 1 l) (sym d.is)

  one_off : (q id at : ℕ) (late : Bool) (st : List Value) → slice_get t.items q ≡ Some (probe_one id at late) → Pushed q 2 st
      → st ≡ int (pos id) ∷ a ∷ drop 2 st
  one_off q id at late st here k =
      let f = one_behind p p' sides m side q id at late here in
      let c = twin_insn p p' sides m side f.place (probe_id id at late) f.here in
      let d = down q 1 f.place c.0 st f.next c.1 k in
      let by = by_probe f.place (probe_id id at late) c.0 d.top f.here refl tt d.by in
      d.is ∙ ap₂ (λ v l. v ∷ l) (number_is t.twin.uses a c.0 id d.top c.2 by) (id_off f.place id at late d.rest f.here d.below)
      ∙ ap (λ l. int (pos id) ∷ a ∷ drop 2 l) (sym d.is)

  last_off : (q id at : ℕ) (late : Bool) (st : List Value) → slice_get t.items q ≡ Some (probe_store id at late) → Pushed q 3 st
      → st ≡ int (pos 1) ∷ int (pos id) ∷ a ∷ drop 3 st
  last_off q id at late st here k =
      let f = last_behind p p' sides m side q id at late here in
      let c = twin_insn p p' sides m side f.place (probe_one id at late) f.here in
      let d = down q 2 f.place c.0 st f.next c.1 k in
      let by = by_probe f.place (probe_one id at late) c.0 d.top f.here refl tt d.by in
      d.is ∙ ap₂ (λ v l. v ∷ l) (number_is t.twin.uses a c.0 1 d.top c.2 by) (one_off f.place id at late d.rest f.here d.below)
      ∙ ap (λ l. int (pos 1) ∷ int (pos id) ∷ a ∷ drop 3 l) (sym d.is)

  pub item_off : (q : ℕ) (x : Item) (st : List Value) → slice_get t.items q ≡ Some x → Pushed q (extra_of x) st → st ≡ pushed_of a x ++ drop (extra_of x) st
  item_off q (start fetch zero) st here k = refl
  item_off q (start fetch (suc n)) st here k = start_off q fetch n st here k
  item_off q (image insn at early) st here k = refl
  item_off q (probe_array id at late) st here k = refl
  item_off q (probe_id id at late) st here k = id_off q id at late st here k
  item_off q (probe_one id at late) st here k = one_off q id at late st here k
  item_off q (probe_store id at late) st here k = last_off q id at late st here k
  item_off q (hop to at due) st here k = refl
