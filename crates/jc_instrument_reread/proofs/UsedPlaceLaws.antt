-- What a body uses is used by its twin too, and the method that the prelude calls.
use Rattle.std.proofs.Common.{◌≡◌, ⊎_elim, ℕ, Bool, true, false, not, List, [], ◌∷◌, Option, Some, None, cond, nat_eq, if◌then◌else◌, refl, sym, ap, ◌∙◌, subst}
use Rattle.std.specs.Prelude.{Contains}
use Rattle.std.specs.List.{list_any}
use Rattle.std.proofs.lemmas.Bool.{true≢false, eq-eqb}
use Rattle.std.proofs.lemmas.List.Elements.{Contains-append_cases}
use Rattle.std.proofs.lemmas.Option.{none-some}
use Rattle.jc_bytes.proofs.FirstSeenLaws.{contains_one}
use Rattle.jc_bytes.proofs.BooleanLaws.{any_decided, equal_decided, none_in, which_in, first_in, later_in}
use Rattle.jc_methods.specs.InsnUse.{pool_place}
use Rattle.jc_methods.specs.WellMade.{what_used}
use Rattle.jc_methods.specs.declared.body.Use.{Use}
use Rattle.jc_methods.specs.declared.body.What.{What}
use Rattle.jc_methods.specs.declared.insn.Insn.{Insn}
use Rattle.jc_pool.specs.Pool.{PoolValue}
use Rattle.jc_body.specs.BodyOf.{some_of, insn_places, row_places, places_used, AreUsesOf}
use Rattle.jc_body.specs.Standing.{what_at}
use Rattle.jc_body.specs.declared.items.Row.{Row}
use Rattle.jc_body.proofs.UsesLaws.{has_use, insn_place_used, row_place_used}

-- ---- what is used at a place

pub stands_used : (pool : PoolValue) (places : List ℕ) (uses : List Use) (place : ℕ) (what : What) → AreUsesOf pool places uses
    → Contains places place → what_at pool place ≡ Some what → what_used uses place ≡ Some what
stands_used pool places uses place what are c is =
    let h = has_use pool places uses place what (λ (w : What). w ≡ what) are c is refl in h.used ∙ ap Some h.fact

pub used_stands : (pool : PoolValue) (places : List ℕ) (uses : List Use) (place : ℕ) (what : What) → AreUsesOf pool places uses
    → what_used uses place ≡ Some what → Contains places place × (what_at pool place ≡ Some what)
used_stands pool places uses place what are used = by (list_any (nat_eq place) places) refl (sym (are.each place) ∙ used)
  where
    by : (t : Bool) → list_any (nat_eq place) places ≡ t → (if t then what_at pool place else None) ≡ Some what
        → Contains places place × (what_at pool place ≡ Some what)
    by false none h = absurd (none-some what h)
    by true some h =
        let found = (any_decided (nat_eq place) (λ (x : ℕ). place ≡ x) (equal_decided place) places).to some in
        (subst (Contains places) (sym found.2) found.1, h)

-- ---- which instruction or row uses a place

-- an instruction names the place
record HasInsn (insns : List Insn) (place : ℕ) : Type 0 where
  insn : Insn
  listed : Contains insns insn
  names : pool_place insn ≡ Some place

-- a row has the class at the place
record HasRow (rows : List Row) (place : ℕ) : Type 0 where
  row : Row
  listed : Contains rows row
  names : row.class ≡ place
  some : row.class ≡ 0 → ⊥

named_by_insn : (insns : List Insn) (place : ℕ) → Contains (insn_places insns) place → HasInsn insns place
named_by_insn [] place c = absurd (none_in place c)
named_by_insn (x ∷ insns) place c =
    ⊎_elim (λ here. by (pool_place x) refl here)
    (λ later. let h = named_by_insn insns place later in record { insn = h.insn; listed = later_in x insns h.insn h.listed; names = h.names })
    (Contains-append_cases (some_of (pool_place x)) (insn_places insns) place c)
  where
    by : (o : Option ℕ) → pool_place x ≡ o → Contains (some_of o) place → HasInsn (x ∷ insns) place
    by None is d = absurd (none_in place d)
    by (Some p) is d = record { insn = x; listed = first_in x insns; names = is ∙ ap Some (contains_one p place d) }

named_by_row : (rows : List Row) (place : ℕ) → Contains (row_places rows) place → HasRow rows place
named_by_row [] place c = absurd (none_in place c)
named_by_row (x ∷ rows) place c = by (nat_eq x.class 0) refl c (λ d. named_by_row rows place d)
  where
    by : (t : Bool) → nat_eq x.class 0 ≡ t → Contains (cond (not t) (x.class ∷ row_places rows) (row_places rows)) place
        → (Contains (row_places rows) place → HasRow rows place) → HasRow (x ∷ rows) place
    by true is d more = let h = more d in record { row = h.row; listed = later_in x rows h.row h.listed; names = h.names; some = h.some }
    by false is d more =
        ⊎_elim
        (λ same. record {
          row = x;
          listed = first_in x rows;
          names = same;
          some = λ e. true≢false (sym (eq-eqb x.class 0 e) ∙ is);
        })
        (λ later. let h = more later in record { row = h.row; listed = later_in x rows h.row h.listed; names = h.names; some = h.some })
        (which_in x.class (row_places rows) place d)

-- ---- the uses of a twin

-- each row of the one list has one of the other with its class
abbrev pub KeepClasses : List Row → List Row → Type 0
KeepClasses rows others = (row : Row) → Contains rows row → (other : Row) × Contains others other × (other.class ≡ row.class)

module _ (old new : PoolValue) (insns others : List Insn) (rows more : List Row) (kept : List Use) (uses : List Use)
    (were : AreUsesOf old (places_used insns rows) kept) (are : AreUsesOf new (places_used others more) uses)
    (stay : (place : ℕ) (what : What) → what_at old place ≡ Some what → what_at new place ≡ Some what)
    (there : (insn : Insn) (place : ℕ) → Contains insns insn → pool_place insn ≡ Some place → Contains others insn)
    (classes : KeepClasses rows more) where
  listed : (place : ℕ) → Contains (places_used insns rows) place → Contains (places_used others more) place
  listed place c =
      ⊎_elim
      (λ front. let h = named_by_insn insns place front in insn_place_used others more h.insn place (there h.insn place h.listed h.names) h.names)
      (λ back.
      let h = named_by_row rows place back in
      let other = classes h.row h.listed in
      subst (Contains (places_used others more)) (other.2 ∙ h.names) (row_place_used others more other.0 other.1 (λ none. h.some (sym other.2 ∙ none))))
      (Contains-append_cases (insn_places insns) (row_places rows) place c)

  pub uses_kept : (place : ℕ) (what : What) → what_used kept place ≡ Some what → what_used uses place ≡ Some what
  uses_kept place what used =
      let h = used_stands old (places_used insns rows) kept place what were used in
      stands_used new (places_used others more) uses place what are (listed place h.0) (stay place what h.1)
