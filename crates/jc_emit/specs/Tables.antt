-- Entries of tables, among the places that tables have.
use Rattle.std.specs.Prelude.{ℕ, ◌<◌}
use Rattle.jc_methods.specs.declared.body.Handler.{Handler}
use Rattle.jc_methods.specs.declared.body.VarAt.{VarAt}

pub record RowWithin (leads lands : ℕ) (h : Handler) : Type 0 where
  pub start : h.start < leads
  pub end : h.end < leads
  pub target : h.target < lands

pub record VarWithin (lands : ℕ) (x : VarAt) : Type 0 where
  pub start : x.start < lands
  pub end : x.end < lands
  pub slot : x.slot < 65535
