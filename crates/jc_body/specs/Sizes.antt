-- Sizes of the parts of a body that was read.
use Rattle.std.specs.Prelude.{⊤, All}
use Rattle.jc_bytes.specs.Texts.{IsShortText}
use Rattle.jc_methods.specs.WellMade.{HasSizes, HasShortTexts}
use Rattle.jc_methods.specs.declared.body.Body.{Body}
use Rattle.jc_pool.specs.Lookup as members
use Rattle.jc_body.specs.Standing.{Found, of_computed, of_member, of_class, of_constant}

-- the texts of what stands at a place fit into entries of the pool
abbrev pub IsOfShortTexts : Found → Type 0
IsOfShortTexts (of_computed c) = IsShortText c.signed.name × IsShortText c.signed.desc
IsOfShortTexts (of_member m) = members.HasShortTexts m
IsOfShortTexts (of_class name) = IsShortText name
IsOfShortTexts (of_constant c) = ⊤

-- its texts fit into entries of the pool
pub record HasShortParts (b : Body) : Type 0 where
  pub owner : IsShortText b.owner
  pub name : IsShortText b.name
  pub desc : IsShortText b.desc
  pub uses : All (λ u. HasShortTexts u.what) b.uses

-- and its lists have few items
pub record HasSmallParts (b : Body) : Type 0 where
  pub sizes : HasSizes b
  pub uses : All (λ u. HasShortTexts u.what) b.uses
