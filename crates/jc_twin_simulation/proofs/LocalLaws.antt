-- The local variables of a frame and of its twin's.
use Rattle.std.proofs.Common.{◌≡◌, ℕ, zero, suc, ◌+◌, ◌-◌, ◌≤◌, true, false, [], ◌++◌, length, replicate, Option, Some, None, refl, sym, ap, ◌∙◌, subst, arith, length-append}
use Rattle.std.specs.Prelude.{slice_get, slice_set, slice_index_or}
use Rattle.std.proofs.Math.ListN.{length-set, length-replicate}
use Rattle.jc_methods.specs.declared.probe_members.Fetch.{Fetch}
use Rattle.jc_machine_model.specs.Values.{Value, is_pair}
use Rattle.jc_machine_model.specs.Locals.{is_pair_there, put_local}
use Rattle.jc_emit.specs.Items.{Item, start, image, probe_array, probe_id, probe_one, probe_store, hop, extra_of}
use Rattle.jc_emit.specs.Local.{IsBehind, Stands}
use Rattle.jc_emit.specs.Seen.{with_more}
use Rattle.jc_twin_simulation.specs.Same.{twin_slot}
use Rattle.jc_twin_simulation.specs.Sides.{Side}
use Rattle.jc_twin_simulation.specs.Beside.{pushed_of, SameLocals}
use Rattle.jc_twin_simulation.proofs.SlotLaws.{Locals, has_pair, get-shifted, read-shifted, set-shifted, read_own, no_pair_set, no_pair_put, length_put, put-shifted, put_own, fill, read_args}

-- nothing is pushed where the twin can go on
pub none_pushed : (a : Value) (t : Side) (q i : ℕ) (due : Option ℕ) (h : Stands t.body.code t.slot t.ids t.items q i due) → pushed_of a h.item ≡ []
none_pushed a t q i due h = by h.item h.pushed
  where
    by : (x : Item) → extra_of x ≡ 0 → pushed_of a x ≡ []
    by (start fetch zero) e = refl
    by (start fetch (suc k)) e = absurd (omega (arith, e))
    by (image insn at early) e = refl
    by (probe_array id at late) e = refl
    by (probe_id id at late) e = absurd (omega (arith, e))
    by (probe_one id at late) e = absurd (omega (arith, e))
    by (probe_store id at late) e = absurd (omega (arith, e))
    by (hop to at due) e = refl

module _ (array : Value) where
  -- a local variable is read
  pub reads_local : (slot : Option ℕ) (ls ls' : Locals) (item : Item) → SameLocals array slot ls ls' item → (k : ℕ)
      → slice_index_or ls' (twin_slot slot k) None ≡ slice_index_or ls k None
  reads_local None ls ls' item h k = ap (λ l. slice_index_or l k None) h
  reads_local (Some v) ls ls' item h k = ap (λ l. slice_index_or l (twin_slot (Some v) k) None) h.around ∙ read-shifted v k ls h.held h.room

  pub gets_local : (slot : Option ℕ) (ls ls' : Locals) (item : Item) → SameLocals array slot ls ls' item → (k : ℕ)
      → slice_get ls' (twin_slot slot k) ≡ slice_get ls k
  gets_local None ls ls' item h k = ap (λ l. slice_get l k) h
  gets_local (Some v) ls ls' item h k = ap (λ l. slice_get l (twin_slot (Some v) k)) h.around ∙ get-shifted v k ls h.held h.room

  -- a value is stored
  pub puts_local : (slot : Option ℕ) (ls ls' : Locals) (item : Item) → SameLocals array slot ls ls' item → IsBehind item → is_pair array ≡ false
      → (k : ℕ) (x : Value) → ((v : ℕ) → slot ≡ Some v → is_pair x ≡ true → k + 1 ≡ v → ⊥)
      → SameLocals array slot (put_local k x ls) (put_local (twin_slot slot k) x ls') item
  puts_local None ls ls' item h b n k x off = ap (put_local k x) h
  puts_local (Some v) ls ls' item h b n k x off = record {
    room = subst (λ n. v ≤ n) (sym (length_put k x ls)) h.room;
    held = h.held;
    around = ap (put_local (twin_slot (Some v) k) x) h.around ∙ put-shifted v ls h.held h.room (ap is_pair_there (h.ready b) ∙ n) h.apart k x (off v refl);
    ready = h.ready;
    apart = λ j e. no_pair_put k j x ls (λ pair same. off v refl pair (omega arith)) (h.apart j e);
  }

  -- iinc writes an int
  pub sets_local : (slot : Option ℕ) (ls ls' : Locals) (item : Item) → SameLocals array slot ls ls' item → (k : ℕ) (x : Value) → is_pair x ≡ false
      → SameLocals array slot (slice_set ls k (Some x)) (slice_set ls' (twin_slot slot k) (Some x)) item
  sets_local None ls ls' item h k x n = ap (λ l. slice_set l k (Some x)) h
  sets_local (Some v) ls ls' item h k x n = record {
    room = subst (λ m. v ≤ m) (sym (length-set ls k (Some x))) h.room;
    held = h.held;
    around = ap (λ l. slice_set l (twin_slot (Some v) k) (Some x)) h.around ∙ set-shifted v k ls h.held (Some x) h.room;
    ready = h.ready;
    apart = λ j e. no_pair_set ls k j (Some x) n (h.apart j e);
  }

  -- behind the prelude all items are alike
  pub moves_on : (slot : Option ℕ) (ls ls' : Locals) (item to : Item) → IsBehind item → SameLocals array slot ls ls' item → SameLocals array slot ls ls' to
  moves_on None ls ls' item to b h = h
  moves_on (Some v) ls ls' item to b h = record { room = h.room; held = h.held; around = h.around; ready = λ d. h.ready b; apart = h.apart }

  -- in the prelude nothing is known of the local variable of the probe array
  pub stays_unready : (slot : Option ℕ) (ls ls' : Locals) (item to : Item) → (IsBehind to → ⊥) → SameLocals array slot ls ls' item
      → SameLocals array slot ls ls' to
  stays_unready None ls ls' item to b h = h
  stays_unready (Some v) ls ls' item to b h =
      record { room = h.room; held = h.held; around = h.around; ready = λ d. absurd (b d); apart = h.apart }

  -- a probe reads the array
  pub reads_array : (slot : Option ℕ) (v : ℕ) (ls ls' : Locals) (item : Item) → slot ≡ Some v → IsBehind item → SameLocals array slot ls ls' item
      → slice_index_or ls' v None ≡ Some array
  reads_array None v ls ls' item e b h = cc
  reads_array (Some u) v ls ls' item e b h =
      let same : v ≡ u = cc in
      ap (λ k. slice_index_or ls' k None) same ∙ ap (λ l. slice_index_or l u None) h.around ∙ read_own u ls h.held h.room ∙ h.ready b

  -- the prelude stores it
  pub stores_array : (slot : Option ℕ) (v : ℕ) (ls ls' : Locals) (item to : Item) → slot ≡ Some v → is_pair array ≡ false → SameLocals array slot ls ls' item
      → SameLocals array slot ls (put_local v array ls') to
  stores_array None v ls ls' item to e n h = cc
  stores_array (Some u) v ls ls' item to e n h =
      let same : v ≡ u = cc in
      record {
        room = h.room;
        held = Some array;
        around = ap (λ k. put_local k array ls') same ∙ ap (put_local u array) h.around ∙ put_own u ls h.held array h.room n h.apart;
        ready = λ b. refl;
        apart = h.apart;
      }

  -- the arguments of a new frame end with no long that begins in their last local variable
  abbrev pub Ends : Locals → Type 0
  Ends args = (k : ℕ) → length args ≡ suc k → has_pair args k ≡ false

  pub new_locals : (slot : Option ℕ) (n n' a : ℕ) (args : Locals) (item : Item) → n' ≡ with_more slot 1 n → length args ≡ a → Ends args
      → ((v : ℕ) → slot ≡ Some v → (v ≡ a) × (v ≤ n)) → ((v : ℕ) → slot ≡ Some v → (fetch : Fetch) × (item ≡ start fetch 0))
      → SameLocals array slot (args ++ replicate (n - length args) None) (args ++ replicate (n' - length args) None) item
  new_locals None n n' a args item e short ends is new = ap (λ k. args ++ replicate (k - length args) None) e
  new_locals (Some v) n n' a args item e short ends is new =
      let k = n - length args in
      let at = is v refl in
      let first = at.0 in let fits = at.1 in
      let more : n' - length args ≡ suc k = omega arith in
      let size = length-append args (replicate k None) in
      let rest : length (replicate k (let o : Option Value = None in o)) ≡ k = length-replicate k None in
      record {
        room = omega arith;
        held = None;
        around = ap (λ m. args ++ replicate m None) more ∙ sym (fill args v k (omega arith) (omega arith));
        ready = λ b. absurd (subst IsBehind (new v refl).1 b);
        apart = λ j q. ap is_pair_there (read_args args (replicate k None) j (omega arith)) ∙ ends j (omega arith);
      }
