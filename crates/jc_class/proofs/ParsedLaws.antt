-- A class file that fails behind its interfaces.
use Rattle.std.proofs.Common.{◌≡◌, ℕ, List, Result, Err, refl, sym, ◌∙◌, subst}
use Rattle.jc_bytes.specs.Counted.{counted_at}
use Rattle.jc_bytes.specs.Decoder.{SameEnd, number_at}
use Rattle.jc_bytes.specs.Parsing.{Parsed, Good, Bad, Parses, item}
use Rattle.jc_bytes.specs.Reader.{Reading}
use Rattle.jc_bytes.specs.declared.fail.Fail.{Fail}
use Rattle.jc_bytes.specs.declared.fail.Fail.TheVariants as fails
use Rattle.jc_bytes.specs.declared.refusal.Refusal.{Refusal}
use Rattle.jc_pool.specs.Pool.{PoolValue}
use Rattle.jc_pool.specs.PoolReading.{pool_at}
use Rattle.jc_class.specs.declared.item.Named.TheVariants as named
use Rattle.jc_class.specs.declared.class_file.Member.{Member}
use Rattle.jc_class.specs.ItemReading.{names, number_if, magic_at}
use Rattle.jc_class.specs.ClassReading.{attributes_at, class_at, field_at, method_at, named_at}

-- what refuses a part refuses the whole, at the same item
pub refused_later : {X Y : Type 0} (fail : Fail Refusal) (r : Result Y (Fail Refusal)) (old now new : Reading) (part : Parsed X) (all : Parsed Y)
    → r ≡ Err fail → SameEnd old now → ((left : List ℕ) → part ≡ Bad left → all ≡ Bad left)
    → Parses (λ (x : X). x) (Err fail) now new part → Parses (λ (y : Y). y) r old new all
refused_later {X} {Y} fails.Memory r old now new part all is same later told =
    subst (λ (s : Result Y (Fail Refusal)). Parses (λ (y : Y). y) s old new all) (sym is) tt
refused_later {X} {Y} (fails.Said refusal) r old now new part all is same later told =
    subst (λ (s : Result Y (Fail Refusal)). Parses (λ (y : Y). y) s old new all) (sym is)
    (told.0, later told.0 told.1, record { kind = told.2.kind; method = told.2.method; place = told.2.place ∙ same })

module _ (l l₁ l₂ l₃ l₄ l₅ l₆ l₇ l₈ : List ℕ) (m : Unit {0}) (minor major flags this super : ℕ) (pool : PoolValue) (interfaces : List ℕ)
    (e₁ : item magic_at l ≡ Good m l₁) (e₂ : item (number_at 2) l₁ ≡ Good minor l₂) (e₃ : item (number_at 2) l₂ ≡ Good major l₃)
    (e₄ : pool_at l₃ ≡ Good pool l₄) (e₅ : item (number_at 2) l₄ ≡ Good flags l₅)
    (e₆ : item (number_if (names pool named.Class)) l₅ ≡ Good this l₆)
    (e₇ : item (number_if (names pool named.ClassOrNone)) l₆ ≡ Good super l₇)
    (e₈ : counted_at (named_at pool named.Class) l₇ ≡ Good interfaces l₈) where
  pub bad_fields : (left : List ℕ) → counted_at (field_at pool) l₈ ≡ Bad left → class_at l ≡ Bad left
  unfolding class_at
  bad_fields left is = rw (e₁, e₂, e₃, e₄, e₅, e₆, e₇, e₈, is) refl

  module _ (l₉ : List ℕ) (fields : List Member) (e₉ : counted_at (field_at pool) l₈ ≡ Good fields l₉) where
    pub bad_methods : (left : List ℕ) → counted_at (method_at pool) l₉ ≡ Bad left → class_at l ≡ Bad left
    unfolding class_at
    bad_methods left is = rw (e₁, e₂, e₃, e₄, e₅, e₆, e₇, e₈, e₉, is) refl

    pub bad_attributes : (l₁₀ : List ℕ) (methods : List Member) → counted_at (method_at pool) l₉ ≡ Good methods l₁₀
        → (left : List ℕ) → attributes_at pool l₁₀ ≡ Bad left → class_at l ≡ Bad left
    unfolding class_at
    bad_attributes l₁₀ methods e₁₀ left is = rw (e₁, e₂, e₃, e₄, e₅, e₆, e₇, e₈, e₉, e₁₀, is) refl
