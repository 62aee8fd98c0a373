-- Rows of the exception table by their handlers, without rows that guard nothing more.
use Rattle.std.specs.Prelude.{◌≡◌, ℕ, false, List, map, All, Contains}
use Rattle.std.specs.Global.{Vec}
use Rattle.std.specs.List.Sorted.{IsNonDecreasingBy}
use Rattle.jc_methods.specs.declared.kind.Kind.{Kind}
use Rattle.jc_methods.specs.declared.body.Handler.{Handler}
use Rattle.jc_methods.specs.declared.body.FrameAt.{FrameAt}
use Rattle.jc_kinds.specs.KindFits.{kind_fits}
use Rattle.jc_kinds.specs.Runs.{kind_at}
use Rattle.jc_kinds.specs.Guarded.{IsGuarded, IsUnfitInColumn}

-- the rows by where they begin and by where they end
pub record AreRising (rows : List Handler) : Type 0 where
  pub starts : IsNonDecreasingBy (λ (h : Handler). h.start) rows
  pub ends : IsNonDecreasingBy (λ (h : Handler). h.end) rows

-- one of the rows guards the instruction
pub record IsGuardedBy (rows : List Handler) (i : ℕ) : Type 0 where
  pub handler : Handler
  pub row : Contains rows handler
  pub guarded : IsGuarded handler i

-- some of the rows, by where they begin and by where they end, which guard what all of them guard
pub record AreRisingRowsOf (rows kept : List Handler) : Type 0 where
  pub rising : AreRising kept
  pub among : (h : Handler) → Contains kept h → Contains rows h
  pub guarding : (h : Handler) (i : ℕ) → Contains rows h → IsGuarded h i → IsGuardedBy kept i

-- rows of one handler, by where they begin and by where they end
pub record IsGroup (rows : List Handler) : Type 0 where
  pub rising : AreRising rows
  pub alike : (g h : Handler) → Contains rows g → Contains rows h → g.target ≡ h.target

abbrev pub rows_of : List (Vec Handler) → List (List Handler)
rows_of groups = map (λ (rows : Vec Handler). rows.items) groups

-- a row of this handler in one of the groups guards the instruction
pub record IsGuardedFor (groups : List (List Handler)) (target i : ℕ) : Type 0 where
  pub group : List Handler
  pub is : Contains groups group
  pub handler : Handler
  pub row : Contains group handler
  pub guarded : IsGuarded handler i
  pub same : handler.target ≡ target

-- groups of some of the rows, one handler a group: each handler guards what it guards by all of them
pub record AreGroups (rows : List Handler) (groups : List (List Handler)) : Type 0 where
  pub each : All IsGroup groups
  pub among : (group : List Handler) (h : Handler) → Contains groups group → Contains group h → Contains rows h
  pub guarding : (h : Handler) (i : ℕ) → Contains rows h → IsGuarded h i → IsGuardedFor groups h.target i

-- one of the rows guards the instruction, and the type there doesn't fit
pub record IsUnfitInRows (column : List Kind) (rows : List Handler) (want : Kind) (i : ℕ) : Type 0 where
  pub handler : Handler
  pub row : Contains rows handler
  pub guarded : IsGuarded handler i
  pub unfit : kind_fits (kind_at column i) want ≡ false

-- a row of one of the groups guards the instruction, and the type there doesn't fit that of the handler's frame
pub record IsUnfitInGroups (column : List Kind) (frames : List FrameAt) (slot : ℕ) (groups : List (List Handler)) (i : ℕ) : Type 0 where
  pub group : List Handler
  pub is : Contains groups group
  pub unfit : IsUnfitInColumn column frames slot group i
