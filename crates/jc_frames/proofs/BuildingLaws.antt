-- Kinds for values, with numbers of class names.
use Rattle.std.proofs.Common.{◌≡◌, ℕ, zero, suc, ◌+◌, ◌-◌, ◌<◌, ◌≤◌, true, false, List, [], ◌∷◌, ◌++◌, length, map, take, get_or, replicate, All, sym, ◌∙◌, ap, ap₂, subst, arith, append_assoc}
use Rattle.std.proofs.Math.Seq.{take-suc}
use Rattle.std.proofs.lemmas.List.{map-append, append-nil, take_all, length-map}
use Rattle.std.proofs.lemmas.List.Elements.{All-append, All-cons, All-nil}
use Rattle.std.specs.List.{AllByRecursion}
use Rattle.jc_methods.specs.declared.kind.Kind.{Kind}
use Rattle.jc_methods.specs.declared.kind.Kind.TheVariants as kinds
use Rattle.jc_methods.specs.EntryState.{spread_one, spread, in_locals}
use Rattle.jc_methods.specs.VerificationTypes.{Names, VerificationType, top, verification_type, is_pair, IsNumbered, Grows}
use Rattle.jc_methods.proofs.NumberedLaws.{grown_count, number_kept}
use Rattle.jc_methods.proofs.EntryStateLaws.{tops_held}
use Rattle.jc_pool.specs.Pool.{PoolValue}
use Rattle.jc_frames.specs.declared.method.Value.{Value}
use Rattle.jc_frames.specs.declared.method.Value.TheVariants as values
use Rattle.jc_frames.specs.Running.{held_value, held_values, IsNumberedValue, IsUnnumbered}
use Rattle.jc_frames.proofs.ValuesLaws.{spread_single, spread_pair}

-- ---- lists of names that grow

pub kinds_numbered : (a b : Names) (ks : List Kind) → Grows a b → All (IsNumbered (length a)) ks → All (IsNumbered (length b)) ks
kinds_numbered a b ks g all k d lt = number_kept (length a) (length b) (get_or ks k d) (grown_count a b g) (all k d lt)

value_numbered : (a b : ℕ) → a ≤ b → (v : Value) → IsNumberedValue a v → IsNumberedValue b v
value_numbered a b le (values.Of kind) n = number_kept a b kind le n
value_numbered a b le (values.ClassAt place) n = tt

pub values_numbered : (a b : Names) (vs : List Value) → Grows a b → All (IsNumberedValue (length a)) vs → All (IsNumberedValue (length b)) vs
values_numbered a b vs g all k d lt = value_numbered (length a) (length b) (grown_count a b g) (get_or vs k d) (all k d lt)

unnumbered : (count : ℕ) (v : Value) → IsUnnumbered v → IsNumberedValue count v
unnumbered count (values.Of (kinds.Object n)) none = absurd none
unnumbered count v none = tt

pub all_unnumbered : (count : ℕ) (vs : List Value) → All IsUnnumbered vs → All (IsNumberedValue count) vs
all_unnumbered count vs all k d lt = unnumbered count (get_or vs k d) (all k d lt)

-- ---- facts of each item

pub by_recursion : {X : Type 0} (P : X → Type 0) (xs : List X) → All P xs → AllByRecursion P xs
by_recursion P [] all = tt
by_recursion P (x ∷ xs) all = (all 0 x (omega arith), by_recursion P xs (λ k d lt. all (suc k) d (omega (arith, lt))))

pub one_at_end : {X : Type 0} (P : X → Type 0) (xs new : List X) (x : X) → new ≡ xs ++ x ∷ [] → All P xs → P x → All P new
one_at_end P xs new x is all last = let Each : List _ → Type 0 = λ l. All P l in subst Each (sym is) (All-append P xs (x ∷ []) all (All-cons P x [] last (All-nil P)))

pub take_more : {X : Type 0} (xs : List X) (i : ℕ) (d : X) → i < length xs → take (i + 1) xs ≡ take i xs ++ get_or xs i d ∷ []
take_more xs i d lt = ap (λ (k : ℕ). take k xs) (let e : i + 1 ≡ suc i = omega arith in e) ∙ take-suc xs i d lt

-- ---- kinds of values

pub kinds_more : (pool : PoolValue) (later : Names) (ks new : List Kind) (vs : List Value) (i : ℕ) (d : Value) (k : Kind) → new ≡ ks ++ k ∷ [] → i < length vs
    → map (verification_type later) ks ≡ held_values pool later (take i vs) → verification_type later k ≡ held_value pool later (get_or vs i d)
    → map (verification_type later) new ≡ held_values pool later (take (i + 1) vs)
kinds_more pool later ks new vs i d k is lt before this =
    ap (map (verification_type later)) is ∙ map-append (verification_type later) ks (k ∷ [])
    ∙ ap₂ (λ (a : List VerificationType) (h : VerificationType). a ++ h ∷ []) before this
    ∙ sym (ap (held_values pool later) (take_more vs i d lt) ∙ map-append (held_value pool later) (take i vs) (get_or vs i d ∷ []))

-- ---- in local variables

spread_last : (hs : List VerificationType) (h : VerificationType) → spread (hs ++ h ∷ []) ≡ spread hs ++ spread_one h
spread_last [] h = append-nil (spread_one h)
spread_last (x ∷ hs) h = ap (λ (l : List VerificationType). spread_one x ++ l) (spread_last hs h) ∙ sym (append_assoc (spread_one x) (spread hs) (spread_one h))

seen_more : (names : Names) (ks : List Kind) (i : ℕ) (d : Kind) → i < length ks
    → spread (map (verification_type names) (take i ks)) ++ spread_one (verification_type names (get_or ks i d)) ≡ spread (map (verification_type names) (take (i + 1) ks))
seen_more names ks i d lt =
    sym (ap (λ (l : List Kind). spread (map (verification_type names) l)) (take_more ks i d lt) ∙ ap spread (map-append (verification_type names) (take i ks) (get_or ks i d ∷ []))
    ∙ spread_last (map (verification_type names) (take i ks)) (verification_type names (get_or ks i d)))

pub one_slot : (names : Names) (ks locals new : List Kind) (i : ℕ) (d : Kind) → i < length ks → new ≡ locals ++ get_or ks i d ∷ []
    → is_pair (verification_type names (get_or ks i d)) ≡ false → map (verification_type names) locals ≡ spread (map (verification_type names) (take i ks))
    → map (verification_type names) new ≡ spread (map (verification_type names) (take (i + 1) ks))
one_slot names ks locals new i d lt is single before =
    ap (map (verification_type names)) is ∙ map-append (verification_type names) locals (get_or ks i d ∷ [])
    ∙ ap₂ (λ (a b : List VerificationType). a ++ b) before (sym (spread_single (verification_type names (get_or ks i d)) single))
    ∙ seen_more names ks i d lt

pub two_slots : (names : Names) (ks locals first new : List Kind) (i : ℕ) (d : Kind) → i < length ks → first ≡ locals ++ get_or ks i d ∷ []
    → new ≡ first ++ kinds.Top ∷ [] → is_pair (verification_type names (get_or ks i d)) ≡ true → map (verification_type names) locals ≡ spread (map (verification_type names) (take i ks))
    → map (verification_type names) new ≡ spread (map (verification_type names) (take (i + 1) ks))
two_slots names ks locals first new i d lt is more pair before =
    ap (map (verification_type names)) (more ∙ ap (λ (l : List Kind). l ++ kinds.Top ∷ []) is ∙ append_assoc locals (get_or ks i d ∷ []) (kinds.Top ∷ []))
    ∙ map-append (verification_type names) locals (get_or ks i d ∷ kinds.Top ∷ [])
    ∙ ap₂ (λ (a b : List VerificationType). a ++ b) before (sym (spread_pair (verification_type names (get_or ks i d)) pair))
    ∙ seen_more names ks i d lt

-- ---- the local variables that are left

pub tops_numbered : (count n : ℕ) → All (IsNumbered count) (replicate n kinds.Top)
tops_numbered count zero = All-nil (IsNumbered count)
tops_numbered count (suc n) = All-cons (IsNumbered count) kinds.Top (replicate n kinds.Top) tt (tops_numbered count n)

pub with_tops : (names : Names) (ks locals new : List Kind) (count i : ℕ) → length ks ≤ i → new ≡ locals ++ replicate (count - length locals) kinds.Top
    → map (verification_type names) locals ≡ spread (map (verification_type names) (take i ks)) → map (verification_type names) new ≡ in_locals count (map (verification_type names) ks)
with_tops names ks locals new count i le is seen =
    let all : map (verification_type names) locals ≡ spread (map (verification_type names) ks) = seen ∙ ap (λ (l : List Kind). spread (map (verification_type names) l)) (take_all i ks le) in
    let long : length locals ≡ length (spread (map (verification_type names) ks)) = sym (length-map locals (verification_type names)) ∙ ap (λ (l : List VerificationType). length l) all in
    ap (map (verification_type names)) is ∙ map-append (verification_type names) locals (replicate (count - length locals) kinds.Top)
    ∙ ap₂ (λ (a b : List VerificationType). a ++ b) all (tops_held names (count - length locals) ∙ ap (λ (n : ℕ). replicate (count - n) top) long)
