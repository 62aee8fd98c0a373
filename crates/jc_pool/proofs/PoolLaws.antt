-- A pool is read exactly where the grammar spells one, and fails exactly where the grammar fails.
use Rattle.std.proofs.Common.{◌≡◌, ◌⊎◌, inl, inr, refl, ℕ, zero, suc, ◌-◌, Bool, true, false, List, [], ◌∷◌, ◌++◌, Option, Some, None, Result, Ok, Err, if◌then◌else◌, sym, ◌∙◌, ap, subst}
use Rattle.jc_bytes.specs.Grammar.{Grammar, nothing, one, Agrees}
use Rattle.jc_bytes.specs.Parsing.{Parsed, Good, Bad, item, Parses}
use Rattle.jc_bytes.specs.Reader.{Reading}
use Rattle.jc_bytes.specs.declared.fail.Fail.{Fail}
use Rattle.jc_bytes.specs.declared.fail.Fail.TheVariants as fails
use Rattle.jc_bytes.specs.declared.refusal.Refusal.{Refusal}
use Rattle.jc_bytes.proofs.GrammarLaws.{agrees_nothing, agrees_item, agrees_followed, good_is, bad_is, good_bad}
use Rattle.jc_pool.specs.declared.entry.Entry.{Entry}
use Rattle.jc_pool.specs.Pool.{PoolValue, is_wide}
use Rattle.jc_pool.specs.EntryFormat.{IsEntry}
use Rattle.jc_pool.specs.PoolGrammar.{IsCount, IsNarrow, behind, by_size, places, pool, ReadsBy}
use Rattle.jc_pool.specs.EntryReading.{count_at, entry_at, narrow_at}
use Rattle.jc_pool.specs.PoolReading.{put_behind, places_at, pool_at}
use Rattle.jc_pool.proofs.EntryLaws.{entry_takes, entry_again, narrow_takes, narrow_again, count_takes, count_again}

agrees_behind : (front : List (Option Entry)) (g : Grammar (List (Option Entry))) (read : List ℕ → Parsed (List (Option Entry))) → Agrees g read
    → Agrees (behind front g) (λ left. put_behind front (read left))
agrees_behind front g read a =
    agrees_followed g (λ rest. nothing (front ++ rest)) read (λ rest left. Good (front ++ rest) left) a (λ rest. agrees_nothing (front ++ rest))

agrees_by_size : (wide : Bool) (g h : Grammar (List (Option Entry))) (read other : List ℕ → Parsed (List (Option Entry))) → Agrees g read → Agrees h other
    → Agrees (by_size wide g h) (λ left. if wide then read left else other left)
agrees_by_size true g h read other a b = a
agrees_by_size false g h read other a b = b

agrees_places : (n : ℕ) → Agrees (places n) (places_at n)
agrees_places zero = agrees_nothing []
agrees_places (suc zero) =
    agrees_followed (one IsNarrow) (λ e. nothing (Some e ∷ [])) (item narrow_at) (λ e left. Good (Some e ∷ []) left)
    (agrees_item IsNarrow narrow_at narrow_takes narrow_again) (λ e. agrees_nothing (Some e ∷ []))
agrees_places (suc (suc n)) =
    agrees_followed (one IsEntry) (λ e. by_size (is_wide e) (behind (Some e ∷ None ∷ []) (places n)) (behind (Some e ∷ []) (places (suc n))))
    (item entry_at) (λ e left. if is_wide e then put_behind (Some e ∷ None ∷ []) (places_at n left) else put_behind (Some e ∷ []) (places_at (suc n) left))
    (agrees_item IsEntry entry_at entry_takes entry_again)
    (λ e. agrees_by_size (is_wide e) (behind (Some e ∷ None ∷ []) (places n)) (behind (Some e ∷ []) (places (suc n)))
    (λ left. put_behind (Some e ∷ None ∷ []) (places_at n left)) (λ left. put_behind (Some e ∷ []) (places_at (suc n) left))
    (agrees_behind (Some e ∷ None ∷ []) (places n) (places_at n) (agrees_places n))
    (agrees_behind (Some e ∷ []) (places (suc n)) (places_at (suc n)) (agrees_places (suc n))))

pub pool_agrees : Agrees pool pool_at
unfolding pool_at
pool_agrees =
    agrees_followed (one IsCount) (λ n. behind (None ∷ []) (places (n - 1))) (item count_at) (λ n left. put_behind (None ∷ []) (places_at (n - 1) left))
    (agrees_item IsCount count_at count_takes count_again)
    (λ n. agrees_behind (None ∷ []) (places (n - 1)) (places_at (n - 1)) (agrees_places (n - 1)))

-- ---- what a reader returned and left

pub reads_by : (r : Result PoolValue (Fail Refusal)) (old new : Reading) → Parses (λ (value : PoolValue). value) r old new (pool_at old.left) → ReadsBy pool r old new
reads_by (Ok value) old new read = pool_agrees.good old.left value new.left read
reads_by (Err fails.Memory) old new read = tt
reads_by (Err (fails.Said refusal)) old new read = (read.0, pool_agrees.bad old.left read.0 read.1, read.2)

abbrev Reading_is : Result PoolValue (Fail Refusal) → Reading → Reading → Parsed PoolValue → Type 0
Reading_is r old new parsed = Parses (λ (value : PoolValue). value) r old new parsed

pub pool_read : (r : Result PoolValue (Fail Refusal)) (old new : Reading) (value : PoolValue) (text rest : List ℕ) → old.left ≡ text ++ rest → pool.Text text value
    → Reading_is r old new (pool_at old.left) → Reading_is r old new (Good value rest)
pool_read r old new value text rest parts spells read = subst (Reading_is r old new) (ap pool_at parts ∙ pool_agrees.again text rest value spells) read

pub pool_refused : (r : Result PoolValue (Fail Refusal)) (old new : Reading) (left : List ℕ) → pool.Fails old.left left
    → Reading_is r old new (pool_at old.left) → Reading_is r old new (Bad left)
pool_refused r old new left bad read = subst (Reading_is r old new) (pool_agrees.fails old.left left bad) read

-- ---- each list of bytes is read in one way

pub reads_or_fails : (bytes : List ℕ) → ((value : PoolValue) × (text rest : List ℕ) × (bytes ≡ text ++ rest) × pool.Text text value) ⊎ ((left : List ℕ) × pool.Fails bytes left)
reads_or_fails bytes = by (pool_at bytes) refl
  where
    by : (r : Parsed PoolValue) → pool_at bytes ≡ r → ((value : PoolValue) × (text rest : List ℕ) × (bytes ≡ text ++ rest) × pool.Text text value) ⊎ ((left : List ℕ) × pool.Fails bytes left)
    by (Good value rest) is = let t = pool_agrees.good bytes value rest is in inl (value, t.0, rest, t.1, t.2)
    by (Bad left) is = inr (left, pool_agrees.bad bytes left is)

pub never_both : (text rest left : List ℕ) (value : PoolValue) → pool.Text text value → pool.Fails (text ++ rest) left → ⊥
never_both text rest left value spells fails = good_bad (sym (pool_agrees.again text rest value spells) ∙ pool_agrees.fails (text ++ rest) left fails)

pub one_pool : (text more rest left : List ℕ) (value other : PoolValue) → text ++ rest ≡ more ++ left → pool.Text text value → pool.Text more other → (value ≡ other) × (rest ≡ left)
one_pool text more rest left value other same spells says =
    good_is value other rest left (sym (pool_agrees.again text rest value spells) ∙ ap pool_at same ∙ pool_agrees.again more left other says)

pub one_failure : (bytes left other : List ℕ) → pool.Fails bytes left → pool.Fails bytes other → left ≡ other
one_failure bytes left other p q = bad_is {X = PoolValue} left other (sym (pool_agrees.fails bytes left p) ∙ pool_agrees.fails bytes other q)
