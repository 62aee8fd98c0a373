-- The tests of a form over values, and over what a clause sees of them.
use Rattle.std.proofs.Common.{◌≡◌, ◌∙◌, ap, ap₂, sym, refl, ℕ, suc, ◌+◌, ◌<◌, ◌≤◌, Bool, true, false, not, ◌==◌, ◌&&◌, ◌||◌, List, [], ◌∷◌, map, length, drop, get_or, Option, Some, None, arith}
use Rattle.std.proofs.lemmas.Bool.Decides.{nat_tests}
use Rattle.std.proofs.lemmas.List.{drop_all}
use Rattle.std.proofs.Math.Seq.{drop-cons}
use Rattle.std.specs.List.{list_any, list_all}
use Rattle.std.specs.Str.{bytes_eq}
use Rattle.jc_command_words.specs.Words.{Use, Word, is_plain, is_valued, value_of}
use Rattle.jc_command_words.specs.Paths.{are_distinct}
use Rattle.jc_command_words.specs.Decide.{is_call, is_some_file}

pub list_all-map : {X Y : Type 0} (p : Y → Bool) (f : X → Y) (xs : List X) → list_all (λ x. p (f x)) xs ≡ list_all p (map f xs)
list_all-map p f [] = refl
list_all-map p f (x ∷ xs) = ap (λ b. p (f x) && b) (list_all-map p f xs)

pub list_any-map : {X Y : Type 0} (p : Y → Bool) (f : X → Y) (xs : List X) → list_any (λ x. p (f x)) xs ≡ list_any p (map f xs)
list_any-map p f [] = refl
list_any-map p f (x ∷ xs) = ap (λ b. p (f x) || b) (list_any-map p f xs)

list_all-same : {X : Type 0} (p q : X → Bool) → ((x : X) → p x ≡ q x) → (xs : List X) → list_all p xs ≡ list_all q xs
list_all-same p q e [] = refl
list_all-same p q e (x ∷ xs) = ap₂ (λ a b. a && b) (e x) (list_all-same p q e xs)

-- ---- an option twice

pub once_twice : {X : Type 0} (f : X → Word) (W : List X) (n : X) (ns : List X) → W ≡ n ∷ ns → list_any (λ m. bytes_eq (f n) (f m)) ns ≡ true → false ≡ are_distinct (map f W)
once_twice f W n ns e h = sym (ap (λ w. are_distinct (map f w)) e ∙ ap (λ (b : Bool). not b && are_distinct (map f ns)) (sym (list_any-map (bytes_eq (f n)) f ns) ∙ h))

pub once_first : {X : Type 0} (f : X → Word) (W : List X) (n : X) (ns : List X) → W ≡ n ∷ ns → list_any (λ m. bytes_eq (f n) (f m)) ns ≡ false → are_distinct (map f ns) ≡ are_distinct (map f W)
once_first f W n ns e h = sym (ap (λ w. are_distinct (map f w)) e ∙ ap (λ (b : Bool). not b && are_distinct (map f ns)) (sym (list_any-map (bytes_eq (f n)) f ns) ∙ h))

-- ---- the tests together

module _ {U O F : Type 0} (uv : U → Use) (ov : O → Word) (fv : F → Word) where
  map-name : (us : List U) → map (λ u. (uv u).name) us ≡ map (λ u. u.name) (map uv us)
  map-name [] = refl
  map-name (u ∷ us) = ap (λ t. (uv u).name ∷ t) (map-name us)

  some_seen : (fs : List F) → not (length fs == 0) ≡ is_some_file (map fv fs)
  some_seen [] = refl
  some_seen (f ∷ fs) = grind (arith, nat_tests)

  pub known_seen : (us : List U) (os : List O) (options : List Word) → map ov os ≡ options
      → list_all (λ u. list_any (λ o. bytes_eq (uv u).name (ov o)) os) us ≡ list_all (λ u. list_any (bytes_eq u.name) options) (map uv us)
  known_seen us os options e =
      list_all-same (λ u. list_any (λ o. bytes_eq (uv u).name (ov o)) os) (λ u. list_any (bytes_eq (uv u).name) options)
      (λ u. list_any-map (bytes_eq (uv u).name) ov os ∙ ap (list_any (bytes_eq (uv u).name)) e) us
      ∙ list_all-map (λ u. list_any (bytes_eq u.name) options) uv us

  pub unknown : (us : List U) (os : List O) (options : List Word) (dash : Bool) (files : List Word) → map ov os ≡ options
      → list_all (λ u. list_any (λ o. bytes_eq (uv u).name (ov o)) os) us ≡ false → false ≡ is_call options (record { uses = map uv us; dash = dash; files = files })
  unknown us os options dash files e h = sym (rw (sym (known_seen us os options e) ∙ h) refl)

  pub call_seen : (us : List U) (os : List O) (options : List Word) (dash : Bool) (fs : List F) → map ov os ≡ options
      → list_all (λ u. list_any (λ o. bytes_eq (uv u).name (ov o)) os) us ≡ true
      → (are_distinct (map (λ u. (uv u).name) us) && (list_all (λ u. is_valued (uv u)) us && (list_all (λ f. is_plain (fv f)) fs && not (length fs == 0))))
      ≡ is_call options (record { uses = map uv us; dash = dash; files = map fv fs })
  call_seen us os options dash fs e h =
      sym (rw (sym (known_seen us os options e) ∙ h)
      (rw (sym (ap are_distinct (map-name us)), sym (list_all-map is_valued uv us), sym (list_all-map is_plain fv fs), sym (some_seen fs)) refl))

-- ---- what an option is given

pub value_on : {U : Type 0} (uv : U → Use) (us : List U) (i : ℕ) (u : U) (name : Word) (whole : Option Word) → i < length us → u ≡ get_or us i u
    → whole ≡ value_of (map uv (drop i us)) name → bytes_eq (uv u).name name ≡ false
    → whole ≡ value_of (map uv (drop (i + 1) us)) name
value_on uv us i u name whole within is so_far other = so_far ∙ ap (λ l. value_of l name) (uses_from uv us i u within is) ∙ rw other refl
  where
    uses_from : {U : Type 0} (uv : U → Use) (us : List U) (i : ℕ) (u : U) → i < length us → u ≡ get_or us i u → map uv (drop i us) ≡ uv u ∷ map uv (drop (i + 1) us)
    uses_from uv us i u within is =
        let next : suc i ≡ i + 1 = omega arith in
        ap (map uv) (drop-cons us i u within) ∙ ap₂ (λ y k. uv y ∷ map uv (drop k us)) (sym is) next

pub value_stop : {U : Type 0} (uv : U → Use) (us : List U) (i : ℕ) (u : U) (name : Word) (whole : Option Word) → i < length us → u ≡ get_or us i u
    → whole ≡ value_of (map uv (drop i us)) name → bytes_eq (uv u).name name ≡ true
    → Some (uv u).value ≡ whole
value_stop uv us i u name whole within is so_far same =
    let next : suc i ≡ i + 1 = omega arith in
    sym (so_far ∙ ap (λ l. value_of l name) (ap (map uv) (drop-cons us i u within) ∙ ap₂ (λ y k. uv y ∷ map uv (drop k us)) (sym is) next) ∙ rw same refl)

pub value_end : {U : Type 0} (uv : U → Use) (us : List U) (i : ℕ) (name : Word) (whole : Option Word) → length us ≤ i → whole ≡ value_of (map uv (drop i us)) name → ◌≡◌ {A = Option Word} None whole
value_end uv us i name whole all so_far = sym (so_far ∙ ap (λ l. value_of (map uv l) name) (drop_all i us all))
