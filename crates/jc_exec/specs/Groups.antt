-- Merging texts of execution data in groups of consecutive ones, and then what is written for the groups.
use Rattle.std.specs.Prelude.{◌≡◌, ◌↔◌, true, ℕ, List, [], ◌∷◌, ◌++◌, Contains}
use Rattle.std.specs.List.{AllByRecursion}
use Rattle.jc_exec.specs.declared.hits.ClassHits.{ClassHits}
use Rattle.jc_exec.specs.Format.{Block, Blocks}
use Rattle.jc_exec.specs.Store.{Store}
use Rattle.jc_exec.specs.Union.{records_of, IsUnion}
use Rattle.jc_exec.specs.Writing.{by_dump, is_hit, exec_text}

-- the blocks of the texts, those of each text behind those of the texts before
abbrev pub BlocksOfAll : List (List ℕ) → List Block → Type 0
BlocksOfAll [] read = read ≡ []
BlocksOfAll (t ∷ ts) read = (front rest : List Block) × (read ≡ front ++ rest) × Blocks t front × BlocksOfAll ts rest

-- each text is execution data, and the store is the union of the blocks of all
pub record IsUnionOf (texts : List (List ℕ)) (store : Store) : Type 0 where
  pub read : List Block
  pub blocks : BlocksOfAll texts read
  pub union : IsUnion read store

-- the texts of all groups, in order
abbrev pub texts_of_all : List (List (List ℕ)) → List (List ℕ)
texts_of_all [] = []
texts_of_all (g ∷ gs) = g ++ texts_of_all gs

-- each result is what is written for the union of its group
abbrev pub AreResults : List (List (List ℕ)) → List (List ℕ) → Type 0
AreResults [] results = results ≡ []
AreResults (g ∷ gs) results = (store : Store) × (rest : List (List ℕ)) × (results ≡ exec_text store ∷ rest) × IsUnionOf g store × AreResults gs rest

-- each record that the texts hold has a hit
abbrev pub EachHasHit : List (List ℕ) → Type 0
EachHasHit texts = (read : List Block) → BlocksOfAll texts read → AllByRecursion (λ r. is_hit r ≡ true) (records_of read)

-- Each group has a union, and so have the results of the groups, one behind the other. This union has the same sessions
-- as the whole, in the order in which they are written, and of the records that have a hit the same ones, each with its
-- id, its name and its bits. Where each record of the texts has a hit, the text that is written is the same.
pub record MergesInGroups (groups : List (List (List ℕ))) (whole : Store) : Type 0 where
  pub results : List (List ℕ)
  pub each : AreResults groups results
  pub store : Store
  pub merged : IsUnionOf results store
  pub sessions : by_dump store.sessions ≡ by_dump whole.sessions
  pub hits : (c : ClassHits) → is_hit c ≡ true → Contains store.classes c ↔ Contains whole.classes c
  pub text : EachHasHit (texts_of_all groups) → exec_text store ≡ exec_text whole
