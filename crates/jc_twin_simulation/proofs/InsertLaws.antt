-- Lists that are told item by item: local variables with one more, and the static fields of classes.
use Rattle.std.proofs.Common.{◌≡◌, ⊎_elim, ℕ, zero, suc, ◌+◌, ◌-◌, ◌<◌, ◌≤◌, Bool, true, false, List, [], ◌∷◌, length, insert, Option, Some, None, nat_eq, refl, sym, ap, ap₂, ◌∙◌, subst, arith, if◌then◌else◌}
use Rattle.std.specs.Prelude.{slice_get, slice_index_or}
use Rattle.std.proofs.lemmas.Bool.{lt-ltb, le-ltb, eqb-true, eqb-false, cases_lt}
use Rattle.std.proofs.lemmas.Option.{none-some, same_Some, slice_get-get_or, slice_get_within, slice_get_past}
use Rattle.jc_programs.specs.declared.program.Linked.{Linked}
use Rattle.jc_machine_model.specs.Values.{Value}
use Rattle.jc_machine_model.specs.Fits.{AreClassStatics, AreStatics}
use Rattle.jc_twin_simulation.specs.Same.{twin_slot}
use Rattle.jc_twin_simulation.proofs.SlotLaws.{get-shifted, get_own}

-- ---- lists

pub same_items : {X : Type 0} (xs ys : List X) → ((k : ℕ) → slice_get xs k ≡ slice_get ys k) → xs ≡ ys
same_items [] [] h = refl
same_items [] (y ∷ ys) h = absurd (none-some y (h 0))
same_items (x ∷ xs) [] h = absurd (none-some x (sym (h 0)))
same_items (x ∷ xs) (y ∷ ys) h = ap₂ (λ z l. z ∷ l) (same_Some x y (h 0)) (same_items xs ys (λ k. h (suc k)))

-- ---- local variables

module _ (v : ℕ) (ls ls' : List (Option Value)) (held : Option Value) (there : slice_get ls' v ≡ Some held)
    (slots : (k : ℕ) → slice_get ls' (twin_slot (Some v) k) ≡ slice_get ls k) where
  pub below : (k : ℕ) → k < v → twin_slot (Some v) k ≡ k
  below k lt = ap (λ b. if b then k else k + 1) (lt-ltb k v lt)

  above : (k : ℕ) → v ≤ k → twin_slot (Some v) k ≡ k + 1
  above k le = ap (λ b. if b then k else k + 1) (le-ltb k v le)

  within : v < length ls'
  within = slice_get_within ls' v held there

  front : (k : ℕ) → k < v → slice_get ls' k ≡ slice_get ls k
  front k lt = ap (slice_get ls') (sym (below k lt)) ∙ slots k

  has_room_by : (n : ℕ) → v ≡ n → v ≤ length ls
  has_room_by zero e = omega (arith, e)
  has_room_by (suc n) e =
      ⊎_elim
      (λ lt. omega (arith, lt, e))
      (λ le.
      let k : n < v = omega (arith, e) in
      let w = within in
      let inside : n < length ls' = omega (arith, w, e) in
      absurd (none-some _ (sym (slice_get_past ls n le) ∙ sym (front n k) ∙ slice_get-get_or ls' n None inside)))
      (cases_lt n (length ls))

  pub has_room : v ≤ length ls
  has_room = has_room_by v refl

  insert_is : (j : ℕ) → slice_get (insert ls v held) (twin_slot (Some v) j) ≡ slice_get ls j
  insert_is j = get-shifted v j ls held has_room

  pub around : ls' ≡ insert ls v held
  around = same_items ls' (insert ls v held) each
    where
      past : (k j : ℕ) → k ≡ j + 1 → v ≤ j → slice_get ls' k ≡ slice_get (insert ls v held) k
      past k j e le =
          let at : k ≡ twin_slot (Some v) j = e ∙ sym (above j le) in
          ap (slice_get ls') at ∙ slots j ∙ sym (insert_is j) ∙ ap (slice_get (insert ls v held)) (sym at)

      from : (k : ℕ) → v ≤ k → slice_get ls' k ≡ slice_get (insert ls v held) k
      from k le = by (nat_eq k v) refl
        where
          by : (b : Bool) → nat_eq k v ≡ b → slice_get ls' k ≡ slice_get (insert ls v held) k
          by true e =
              let same = eqb-true k v e in
              ap (slice_get ls') same ∙ there ∙ sym (get_own v ls held has_room) ∙ ap (slice_get (insert ls v held)) (sym same)
          by false e = let other = eqb-false k v e in let lt : v < k = omega (arith, le, other) in past k (k - 1) (omega (arith, lt)) (omega (arith, lt))

      each : (k : ℕ) → slice_get ls' k ≡ slice_get (insert ls v held) k
      each k =
          ⊎_elim
          (λ lt. front k lt ∙ sym (insert_is k) ∙ ap (slice_get (insert ls v held)) (below k lt))
          (λ le. from k le)
          (cases_lt k v)

-- ---- static fields of classes

pub class_statics : (classes : List Linked) (statics : List (List Value)) → AreStatics classes statics → (k : ℕ) (c : Linked)
    → slice_get classes k ≡ Some c → AreClassStatics c (slice_index_or statics k [])
class_statics [] [] are k c e = absurd (none-some c e)
class_statics (x ∷ classes) (v ∷ statics) are zero c e = subst (λ y. AreClassStatics y v) (same_Some x c e) are.0
class_statics (x ∷ classes) (v ∷ statics) are (suc k) c e = class_statics classes statics are.1 k c e
class_statics [] (v ∷ statics) are k c e = absurd are
class_statics (x ∷ classes) [] are k c e = absurd are

pub no_statics : (classes : List Linked) (statics : List (List Value)) → AreStatics classes statics → (k : ℕ) → slice_get classes k ≡ None
    → slice_index_or statics k [] ≡ []
no_statics [] [] are k e = refl
no_statics (x ∷ classes) (v ∷ statics) are zero e = absurd (none-some x (sym e))
no_statics (x ∷ classes) (v ∷ statics) are (suc k) e = no_statics classes statics are.1 k e
no_statics [] (v ∷ statics) are k e = absurd are
no_statics (x ∷ classes) [] are k e = absurd are
