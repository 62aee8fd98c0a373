-- The kind check with a relation in the place of `Fits`: where control goes on, each type stands in the relation to the type
-- that is expected there.
use Rattle.std.specs.Prelude.{⊤, ℕ, ◌<◌, List, [], ◌∷◌, length, Option, Some}
use Rattle.jc_methods.specs.declared.body.Body.{Body}
use Rattle.jc_methods.specs.declared.body.Handler.{Handler}
use Rattle.jc_methods.specs.VerificationTypes.{Names, VerificationType, TypeState}
use Rattle.jc_methods.specs.EntryState.{entry_of}
use Rattle.jc_kinds.specs.States.{state_of, after_at}
use Rattle.jc_kinds_after.specs.Shift.{renamed}
use Rattle.jc_kinds.specs.Checked.{LeadsTo, Guards, at_handler}

-- as many, and each stands in the relation to the one in its place
abbrev pub EachBy : (VerificationType → VerificationType → Type 0) → List VerificationType → List VerificationType → Type 0
EachBy S [] [] = ⊤
EachBy S (a ∷ more) (b ∷ others) = S a b × EachBy S more others
EachBy S _ _ = ⊥

pub record StateBy (S : VerificationType → VerificationType → Type 0) (s t : TypeState) : Type 0 where
  pub locals : EachBy S s.locals t.locals
  pub stack : EachBy S s.stack t.stack

-- both states are there, and the one stands in the relation to the other
abbrev pub ThereBy : (VerificationType → VerificationType → Type 0) → Option TypeState → Option TypeState → Type 0
ThereBy S (Some s) (Some t) = StateBy S s t
ThereBy S _ _ = ⊥

-- So a body that passes the kind check flows by `Fits`.
pub record FlowsBy (S : VerificationType → VerificationType → Type 0) (names : Names) (b : Body) : Type 0 where
  -- the state in which the method begins, before the first instruction
  pub entry : ThereBy S (Some (entry_of b)) (state_of names b 0)
  -- the state after an instruction, where each branch leads
  pub branches : (i j : ℕ) → LeadsTo b i j → ThereBy S (after_at names b i) (state_of names b j)
  -- the local variables before a guarded instruction, with the row's one reference, at the handler
  pub handlers : (h : Handler) (i : ℕ) → Guards b h i → i < length b.code → ThereBy S (at_handler b h (state_of names b i)) (state_of names b h.target)

-- A relation that twins keep: each type stands in it to itself, it goes on from type to type, and it stays where the places of `new`
-- are named by their images.
pub record IsFlow (S : VerificationType → VerificationType → Type 0) : Type 0 where
  pub same : (a : VerificationType) → S a a
  pub on : (a b c : VerificationType) → S a b → S b c → S a c
  pub stays_renamed : (image : ℕ → ℕ) (a b : VerificationType) → S a b → S (renamed image a) (renamed image b)
