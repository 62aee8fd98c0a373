-- Bootstrap methods that are passed over one after the other are those that the bytes spell.
use Rattle.std.proofs.Common.{◌≡◌, ℕ, zero, suc, Bool, true, false, nat_eq, ◌+◌, ◌-◌, ◌^◌, ◌<◌, ◌≤◌, List, [], ◌∷◌, ◌++◌, length, drop, Option, Some, None, IfSome, IfNone, IsNone, is_some, ◌↔◌}
use Rattle.std.proofs.Common.{refl, sym, ◌∙◌, ap, subst, arith, append_assoc, length-append}
use Rattle.std.proofs.lemmas.Bool.{true≢false, eqb-true}
use Rattle.std.proofs.lemmas.List.{append-nil, drop_at}
use Rattle.byteorder.specs.Endian.{big_bytes}
use Rattle.jc_bytes.specs.Counted.{counted_at}
use Rattle.jc_bytes.specs.Decoder.{IsBig, number_at}
use Rattle.jc_bytes.specs.Grammar.{times}
use Rattle.jc_bytes.specs.Parsing.{Parsed, Good, Bad, ◌>>=◌, parsed_or, times_at}
use Rattle.jc_bytes.proofs.AppendingLaws.{big_spells}
use Rattle.jc_bytes.proofs.CountedLaws.{times_length}
use Rattle.jc_bytes.proofs.GrammarLaws.{agrees_times, good_is, good_bad}
use Rattle.jc_bootstraps.specs.Bootstraps.{Bootstrap, bootstrap, bootstraps, bootstrap_text, with_bootstrap, without_arguments, told_of, EndsWith}
use Rattle.jc_bootstraps.specs.BootstrapHead.{head_at}
use Rattle.jc_bootstraps.specs.BootstrapsReading.{bootstrap_at, bootstraps_at, IsLastOf}
use Rattle.jc_bootstraps.specs.declared.bootstraps.LastBootstrap.{LastBootstrap}
use Rattle.jc_bootstraps.proofs.BootstrapFormLaws.{agrees_bootstrap, read_text, text_read}
use Rattle.jc_bootstraps.proofs.PassedLaws.{good_of, head_again}
use Rattle.jc_bootstraps.proofs.BootstrapHeadLaws.{head_read}

-- ---- all of them, in a loop

abbrev in_front : List Bootstrap → Parsed (List Bootstrap) → Parsed (List Bootstrap)
in_front done parsed = parsed >>= λ rest. Good (done ++ rest.0) rest.1

abbrev behind : ℕ → Parsed Bootstrap → Parsed (List Bootstrap)
behind n parsed = parsed >>= λ b. times_at n bootstrap_at b.1 >>= λ rest. Good (b.0 ∷ rest.0) rest.1

-- those in front were read, and this is told of the last one
pub record Walked (count : ℕ) (start : List ℕ) (i : ℕ) (rest : List ℕ) (last : Option LastBootstrap) : Type 0 where
  pub done : List Bootstrap
  pub reads : in_front done (times_at (count - i) bootstrap_at rest) ≡ times_at count bootstrap_at start
  pub last_is : IsLastOf done last

module _ (count : ℕ) (start : List ℕ) where
  all_in_front : (p : Parsed (List Bootstrap)) → in_front [] p ≡ p
  all_in_front (Good xs left) = refl
  all_in_front (Bad left) = refl

  pub walked_none : Walked count start 0 start None
  walked_none = record {
    done = [];
    reads = all_in_front (times_at (count - 0) bootstrap_at start) ∙ ap (λ (n : ℕ). times_at n bootstrap_at start) whole;
    last_is = refl;
  }
    where
      whole : count - 0 ≡ count
      whole = omega arith

  moved : (xs : List Bootstrap) (x : Bootstrap) (p : Parsed (List Bootstrap))
      → in_front xs (p >>= λ rest. Good (x ∷ rest.0) rest.1) ≡ in_front (xs ++ x ∷ []) p
  moved xs x (Good rest left) = ap (λ (l : List Bootstrap). Good l left) (sym (append_assoc xs (x ∷ []) rest))
  moved xs x (Bad left) = refl

  one_less : (i : ℕ) → i < count → count - i ≡ suc (count - (i + 1))
  one_less i h = omega (arith, h)

  pub walked_more : (i : ℕ) (rest : List ℕ) (last : Option LastBootstrap) (h : LastBootstrap) (next : List ℕ) → i < count
      → head_at rest ≡ Some (h, next) → Walked count start i rest last → Walked count start (i + 1) next (Some h)
  walked_more i rest last h next less is w =
      let b = head_read rest h next is in
      record {
        done = w.done ++ b.0 ∷ [];
        reads =
            sym (moved w.done b.0 (times_at (count - (i + 1)) bootstrap_at next))
            ∙ ap (λ (p : Parsed Bootstrap). in_front w.done (behind (count - (i + 1)) p)) (sym b.2)
            ∙ ap (λ (n : ℕ). in_front w.done (times_at n bootstrap_at rest)) (sym (one_less i less))
            ∙ w.reads;
        last_is = (w.done, b.0, refl, b.1);
      }

  pub walked_bad : (i : ℕ) (rest : List ℕ) (last : Option LastBootstrap) → i < count → head_at rest ≡ None → Walked count start i rest last
      → (entries : List Bootstrap) (left : List ℕ) → times_at count bootstrap_at start ≡ Good entries left → ⊥
  walked_bad i rest last less none w entries left e =
      let all : in_front w.done (behind (count - (i + 1)) (bootstrap_at rest)) ≡ Good entries left =
      ap (λ (n : ℕ). in_front w.done (times_at n bootstrap_at rest)) (sym (one_less i less)) ∙ w.reads ∙ e in
      let parts = good_of (behind (count - (i + 1)) (bootstrap_at rest)) (λ more. Good (w.done ++ more.0) more.1) entries left all in
      let one = good_of (bootstrap_at rest) (λ b. times_at (count - (i + 1)) bootstrap_at b.1 >>= λ more. Good (b.0 ∷ more.0) more.1)
      parts.0.0 parts.0.1 parts.1 in
      head_again rest one.0.0 one.0.1 one.1 none

  pub walked_all : (i : ℕ) (rest : List ℕ) (last : Option LastBootstrap) → count ≤ i → Walked count start i rest last
      → (entries : List Bootstrap) × (times_at count bootstrap_at start ≡ Good entries rest) × (length entries ≡ count) × IsLastOf entries last
  walked_all i rest last full w = (w.done, is, size, w.last_is)
    where
      none : count - i ≡ 0
      none = omega (arith, full)

      is : times_at count bootstrap_at start ≡ Good w.done rest
      is = sym w.reads ∙ ap (λ (n : ℕ). in_front w.done (times_at n bootstrap_at rest)) none
          ∙ ap (λ (l : List Bootstrap). Good l rest) (append-nil w.done)

      size : length w.done ≡ count
      size =
          let t = (agrees_times count bootstrap bootstrap_at agrees_bootstrap).good start w.done rest is in
          times_length count bootstrap t.0 w.done t.2

-- ---- the whole body

-- a count stands in front
pub counted_front : (body : List ℕ) (count : ℕ) (start : List ℕ) → number_at 2 body ≡ Some (count, start)
    → bootstraps_at body ≡ times_at count bootstrap_at start
unfolding bootstraps_at counted_at
counted_front body count start is = ap (λ (r : Option (ℕ × List ℕ)). parsed_or body r >>= λ n. times_at n.0 bootstrap_at n.1) is

-- or none does
pub nothing_front : (body : List ℕ) → number_at 2 body ≡ None → (entries : List Bootstrap) → bootstraps_at body ≡ Good entries [] → ⊥
unfolding bootstraps_at counted_at
nothing_front body none entries e =
    good_bad (sym (sym (ap (λ (r : Option (ℕ × List ℕ)). parsed_or body r >>= λ n. times_at n.0 bootstrap_at n.1) none) ∙ e))

-- whether bytes are left behind them
pub none_left : (rest : List ℕ) (empty : Bool) → empty ≡ nat_eq (length rest) 0 → empty ≡ true → rest ≡ []
none_left [] empty says is = refl
none_left (x ∷ xs) empty says is = absurd (omega (arith, eqb-true (length (x ∷ xs)) 0 (sym says ∙ is)))

pub some_left : (rest : List ℕ) (empty : Bool) → empty ≡ nat_eq (length rest) 0 → empty ≡ false → rest ≡ [] → ⊥
some_left rest empty says is none = true≢false (sym (says ∙ ap (λ (l : List ℕ). nat_eq (length l) 0) none) ∙ is)

pub left_over : (count : ℕ) (start : List ℕ) (i : ℕ) (rest : List ℕ) (last : Option LastBootstrap)
    → count ≤ i → Walked count start i rest last → (rest ≡ [] → ⊥)
    → (entries : List Bootstrap) → times_at count bootstrap_at start ≡ Good entries [] → ⊥
left_over count start i rest last full w some entries e =
    let all = walked_all count start i rest last full w in
    some (good_is all.0 entries rest [] (sym all.1 ∙ e)).1

-- ---- what is told of the last one

pub ends : (body : List ℕ) (entries : List Bootstrap) (last : Option LastBootstrap) → bootstraps_at body ≡ Good entries []
    → IsLastOf entries last → IfSome last (EndsWith body)
ends body entries None is none = tt
ends body entries (Some last) is said = (said.0, said.1, subst (λ (l : List Bootstrap). bootstraps.Text body l) said.2 (read_text body entries is), said.3)

pub ends_not : (body : List ℕ) (entries : List Bootstrap) (last : Option LastBootstrap) → bootstraps_at body ≡ Good entries []
    → IsLastOf entries last → IfNone last ((l : LastBootstrap) → EndsWith body l → ⊥)
ends_not body entries (Some last) is said = tt
ends_not body entries None is none = λ l end.
    let same = good_is (end.0 ++ end.1 ∷ []) entries [] [] (sym (text_read body _ end.2) ∙ is) in
    omega (arith, ap length (same.0 ∙ none), length-append end.0 (end.1 ∷ []))

-- the last item of a list, or this one
abbrev last_or : {X : Type 0} → X → List X → X
last_or x [] = x
last_or x (y ∷ ys) = last_or y ys

last_at_end : {X : Type 0} (x : X) (xs : List X) (y : X) → last_or x (xs ++ y ∷ []) ≡ y
last_at_end x [] y = refl
last_at_end x (z ∷ zs) y = last_at_end z zs y

same_last : {X : Type 0} (xs ys : List X) (x y : X) → xs ++ x ∷ [] ≡ ys ++ y ∷ [] → x ≡ y
same_last xs ys x y is = sym (last_at_end x xs x) ∙ ap (last_or x) is ∙ last_at_end x ys y

-- nothing else is told of the last one
pub ends_exact : (body : List ℕ) (entries : List Bootstrap) (last : Option LastBootstrap) → bootstraps_at body ≡ Good entries []
    → IsLastOf entries last → (l : LastBootstrap) → EndsWith body l → last ≡ Some l
ends_exact body entries None is none l end = absurd (ends_not body entries None is none l end)
ends_exact body entries (Some last) is said l end =
    let same = good_is (end.0 ++ end.1 ∷ []) entries [] [] (sym (text_read body _ end.2) ∙ is) in
    let b = same_last end.0 said.0 end.1 said.1 (same.0 ∙ said.2) in
    ap Some (said.3 ∙ ap told_of (sym b) ∙ sym end.3)

-- ---- whether there is an answer

-- there is one
pub is_found : {X Y : Type 0} (x : X) (y : Y) (Fact : Y → Type 0) → Fact y → IsNone (Some x) ↔ ((z : Y) → Fact z → ⊥)
is_found x y Fact fact = (λ none. absurd (true≢false none), λ no. absurd (no y fact))

-- there is none
pub is_missing : {X : Type 0} (r : Option X) (Fact : Type 0) → r ≡ None → Fact → IsNone r ↔ Fact
is_missing r Fact none fact = (λ _. fact, λ _. ap is_some none)

-- what is told of an answer tells where there is none
pub none_told : {X : Type 0} (r : Option X) (Fact : X → Type 0) → IfSome r Fact → ((x : X) → Fact x → r ≡ Some x)
    → IsNone r ↔ ((x : X) → Fact x → ⊥)
none_told None Fact some exact = (λ none x fact. let e = exact x fact in absurd cc, λ no. refl)
none_told (Some x) Fact some exact = is_found x x Fact some

-- ---- one more

alone_spells : (handle : ℕ) → handle < 65536 → bootstrap.Text (bootstrap_text handle) (without_arguments handle)
alone_spells handle fits =
    let none = big_bytes 2 0 in
    let few : handle < 256 ^ 2 = omega (arith, fits) in
    let zeros = big_spells 2 0 (omega arith) in (
      handle,
      big_bytes 2 handle,
      none,
      refl,
      big_spells 2 handle few,
      ([], none, [], sym (append-nil none), (0, none, [], sym (append-nil none), zeros, (refl, refl)), (refl, refl)),
    )

times_more : (n : ℕ) (text own : List ℕ) (entries : List Bootstrap) (b : Bootstrap) → (times n bootstrap).Text text entries
    → bootstrap.Text own b → (times (suc n) bootstrap).Text (text ++ own) (entries ++ b ∷ [])
times_more zero text own entries b t spells = (
  b,
  own,
  [],
  ap (λ (l : List ℕ). l ++ own) t.0 ∙ sym (append-nil own),
  spells,
  ([], [], [], refl, (refl, refl), (refl, ap (λ (l : List Bootstrap). l ++ b ∷ []) t.1)),
)
times_more (suc n) text own entries b t spells =
    let more = t.5 in
    let rest_is : t.2 ≡ more.1 = more.3 ∙ ap (λ (l : List ℕ). more.1 ++ l) more.5.0 ∙ append-nil more.1 in
    let parts = ap (λ (l : List ℕ). l ++ own) t.3 ∙ append_assoc t.1 t.2 own ∙ ap (λ (l : List ℕ). t.1 ++ (l ++ own)) rest_is in
    let behind = more.1 ++ own in
    let all = times_more n more.1 own more.0 b more.4 spells in (
      t.0,
      t.1,
      behind,
      parts,
      t.4,
      (more.0 ++ b ∷ [], behind, [], sym (append-nil behind), all, (refl, ap (λ (l : List Bootstrap). l ++ b ∷ []) more.5.1)),
    )

pub one_more : (handle count : ℕ) (body : List ℕ) (entries : List Bootstrap) → handle < 65536 → count < 65535 → bootstraps.Text body entries
    → count ≡ length entries → bootstraps.Text (with_bootstrap handle count body) (entries ++ without_arguments handle ∷ [])
unfolding bootstraps
one_more handle count body entries fits few t is =
    let size = times_length t.0 bootstrap t.2 entries t.5 in
    let behind : drop 2 body ≡ t.2 = ap (drop 2) t.3 ∙ drop_at t.1 t.2 2 t.4.size in
    let own = bootstrap_text handle in
    let all = times_more t.0 t.2 own entries (without_arguments handle) t.5 (alone_spells handle fits) in
    let below : count + 1 < 256 ^ 2 = omega (arith, few) in
    let next : count + 1 ≡ suc t.0 = omega (arith, is, size) in (
      suc t.0,
      big_bytes 2 (count + 1),
      t.2 ++ own,
      ap (λ (l : List ℕ). big_bytes 2 (count + 1) ++ (l ++ own)) behind,
      subst (IsBig 2 (big_bytes 2 (count + 1))) next (big_spells 2 (count + 1) below),
      all,
    )

-- the first one
pub first_one : (handle count : ℕ) (body : List ℕ) → handle < 65536 → body ≡ [] → count ≡ 0
    → bootstraps.Text (with_bootstrap handle count body) (without_arguments handle ∷ [])
unfolding bootstraps
first_one handle count body fits empty none =
    let own = bootstrap_text handle in
    let few : count + 1 < 256 ^ 2 = omega (arith, none) in
    let next : count + 1 ≡ 1 = omega (arith, none) in (
      1,
      big_bytes 2 (count + 1),
      own,
      ap (λ (l : List ℕ). big_bytes 2 (count + 1) ++ (drop 2 l ++ own)) empty,
      subst (IsBig 2 (big_bytes 2 (count + 1))) next (big_spells 2 (count + 1) few),
      times_more 0 [] own [] (without_arguments handle) (refl, refl) (alone_spells handle fits),
    )

-- what is put behind nothing, part by part
pub put_parts : (handle count : ℕ) (body behind begun front mid last whole made : List ℕ) → begun ≡ [] → front ≡ begun ++ big_bytes 2 (count + 1)
    → behind ≡ drop 2 body → mid ≡ front ++ behind → last ≡ mid ++ big_bytes 2 handle → whole ≡ last ++ big_bytes 2 0 → made ≡ whole
    → made ≡ with_bootstrap handle count body
put_parts handle count body behind begun front mid last whole made empty front_is behind_is mid_is last_is whole_is made_is =
    let number = big_bytes 2 (count + 1) in
    let own = big_bytes 2 handle in
    let none = big_bytes 2 0 in
    let start = front_is ∙ ap (λ (l : List ℕ). l ++ number) empty in
    let more = mid_is ∙ ap (λ (l : List ℕ). l ++ behind) start ∙ ap (λ (l : List ℕ). number ++ l) behind_is in
    made_is
    ∙ whole_is
    ∙ ap (λ (l : List ℕ). l ++ none) (last_is ∙ ap (λ (l : List ℕ). l ++ own) more)
    ∙ append_assoc (number ++ drop 2 body) own none
    ∙ append_assoc number (drop 2 body) (own ++ none)
