-- Probes that a thread knows to be hit, as a set that only it has.
use Rattle.std.specs.Prelude.{◌≡◌, ℕ, ◌⊎◌, ◌↔◌, ◌==◌, ◌&&◌, List, Bool, true}
use Rattle.std.specs.List.{list_any}
use Rattle.jc_programs.specs.Probes.{InRange}
use Rattle.jc_board.specs.Rule.{IsSet}

-- the number of probes of each class, and the words with a bit for each probe
pub record KnownSeen : Type 0 where
  pub counts : List ℕ
  pub words : List ℕ

-- the probe is in the set
pub record Knows (known : KnownSeen) (class id : ℕ) : Type 0 where
  pub in_range : InRange known.counts class id
  pub is_set : IsSet known.counts known.words class id

-- the set is of the probes of these classes, and none is in it
pub record IsEmpty (counts : List ℕ) (known : KnownSeen) : Type 0 where
  pub same_counts : known.counts ≡ counts
  pub none : (class id : ℕ) → Knows known class id → ⊥

-- one probe more is in the set
pub record Adds (class id : ℕ) (before after : KnownSeen) : Type 0 where
  pub same_counts : after.counts ≡ before.counts
  pub knows : (c i : ℕ) → Knows after c i ↔ (Knows before c i ⊎ ((c ≡ class) × (i ≡ id)))

-- the hit is of the probe
abbrev pub is_of : (class id : ℕ) → ℕ × ℕ → Bool
is_of class id hit = (hit.0 == class) && (hit.1 == id)

-- the set is of the probes of these classes, and each that is in it is among these hits
pub record Remembers (counts : List ℕ) (hits : List (ℕ × ℕ)) (known : KnownSeen) : Type 0 where
  pub same_counts : known.counts ≡ counts
  pub are_hits : (class id : ℕ) → Knows known class id → list_any (is_of class id) hits ≡ true
