-- The execution data of several inputs, one behind the other.
use Rattle.std.specs.Prelude.{◌≡◌, ◌<◌, ℕ, List, [], ◌∷◌, ◌++◌, length, take, slice_index_or}
use Rattle.std.specs.List.{AllByRecursion}
use Rattle.jc_exec.specs.declared.refusal.ExecRefusal.{ExecRefusal}
use Rattle.jc_exec.specs.Answers.{why_of}
use Rattle.jc_exec.specs.Format.{Block, Blocks}
use Rattle.jc_exec.specs.Refusing.{FirstRefusal}
use Rattle.jc_exec.specs.Store.{Store}
use Rattle.jc_exec.specs.Union.{IsUnion}
use Rattle.jc_command_work.specs.Step.{Word}

-- the blocks of the texts, those of each text behind those of the texts before
abbrev pub BlocksOfAll : List (List ℕ) → List Block → Type 0
BlocksOfAll [] read = read ≡ []
BlocksOfAll (t ∷ ts) read = (front rest : List Block) × (read ≡ front ++ rest) × Blocks t front × BlocksOfAll ts rest

-- each text is execution data, and the store is the union of the blocks of all
pub record IsUnionOf (texts : List (List ℕ)) (store : Store) : Type 0 where
  pub read : List Block
  pub blocks : BlocksOfAll texts read
  pub union : IsUnion read store

abbrev pub no_data : Store
no_data = record { sessions = []; classes = [] }

-- the input of this index, by its path and its text
pub record IsInput (paths : List Word) (texts : List (List ℕ)) (index : ℕ) (path : Word) (text : List ℕ) : Type 0 where
  pub within : index < length texts
  pub path_is : path ≡ slice_index_or paths index []
  pub text_is : text ≡ slice_index_or texts index []

-- The input is the first that is refused over the union of those before it.
pub record IsFirstRefused (paths : List Word) (texts : List (List ℕ)) (index : ℕ) (path : Word) (refusal : ExecRefusal) : Type 0 where
  pub text : List ℕ
  pub input : IsInput paths texts index path text
  pub store : Store
  pub before : IsUnionOf (take index texts) store
  pub refused : FirstRefusal store text (why_of refusal)

-- The input is the first that is refused over no data: each before it is execution data by itself.
pub record IsFirstRefusedAlone (paths : List Word) (texts : List (List ℕ)) (index : ℕ) (path : Word) (refusal : ExecRefusal) : Type 0 where
  pub text : List ℕ
  pub input : IsInput paths texts index path text
  pub before : AllByRecursion (λ t. (store : Store) × IsUnionOf (t ∷ []) store) (take index texts)
  pub refused : FirstRefusal no_data text (why_of refusal)
