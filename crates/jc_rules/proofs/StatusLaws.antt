-- Statuses of lines: what they say, and that there is one.
use Rattle.std.proofs.Common.{◌≡◌, ◌⊎◌, inl, inr, Bool, true, false, refl}
use Rattle.jc_rules.specs.declared.status.LineState.{LineState}
use Rattle.jc_rules.specs.declared.status.LineState.TheVariants.{Empty, Not, Partly, Fully}
use Rattle.jc_rules.specs.Placed.{both, Says}
use Rattle.jc_rules.specs.Status.{IsStatus}

module _ (Has : Bool → Type 0) where
  pub one_status : (a b : LineState) → IsStatus Has a → IsStatus Has b → a ≡ b
  one_status Empty Empty x y = refl
  one_status Empty Not x y = absurd (x false y.0)
  one_status Empty Partly x y = absurd (x true y.0)
  one_status Empty Fully x y = absurd (x true y.0)
  one_status Not Empty x y = absurd (y false x.0)
  one_status Not Not x y = refl
  one_status Not Partly x y = absurd (x.1 y.0)
  one_status Not Fully x y = absurd (x.1 y.0)
  one_status Partly Empty x y = absurd (y true x.0)
  one_status Partly Not x y = absurd (y.1 x.0)
  one_status Partly Partly x y = refl
  one_status Partly Fully x y = absurd (y.1 x.1)
  one_status Fully Empty x y = absurd (y true x.0)
  one_status Fully Not x y = absurd (y.1 x.0)
  one_status Fully Partly x y = absurd (x.1 y.1)
  one_status Fully Fully x y = refl

  -- ---- a status and what it says

  pub status_told : (s : LineState) → ((c : Bool) → Says s c → Has c) → ((c : Bool) → Has c → Says s c) → IsStatus Has s
  status_told Empty to from = from
  status_told Not to from = (to false tt, from true)
  status_told Partly to from = (to true tt, to false tt)
  status_told Fully to from = (to true tt, from false)

  pub has_said : (s : LineState) (c : Bool) → IsStatus Has s → Says s c → Has c
  has_said Empty c is says = absurd says
  has_said Not true is says = absurd says
  has_said Not false is says = is.0
  has_said Partly true is says = is.0
  has_said Partly false is says = is.1
  has_said Fully true is says = is.0
  has_said Fully false is says = absurd says

  pub said_of : (s : LineState) (c : Bool) → IsStatus Has s → Has c → Says s c
  said_of Empty c is has = is c has
  said_of Not true is has = is.1 has
  said_of Not false is has = tt
  said_of Partly c is has = tt
  said_of Fully true is has = tt
  said_of Fully false is has = is.1 has

-- ---- two statuses

pub both_cases : (a b : LineState) (c : Bool) → Says (both a b) c → Says a c ⊎ Says b c
both_cases Empty b c says = inr says
both_cases Not Empty c says = inl says
both_cases Not Not c says = inl says
both_cases Not Partly c says = inr tt
both_cases Not Fully true says = inr tt
both_cases Not Fully false says = inl tt
both_cases Partly b c says = inl tt
both_cases Fully Empty c says = inl says
both_cases Fully Not true says = inl tt
both_cases Fully Not false says = inr tt
both_cases Fully Partly c says = inr tt
both_cases Fully Fully c says = inl says

pub both_left : (a b : LineState) (c : Bool) → Says a c → Says (both a b) c
both_left Empty b c says = absurd says
both_left Not Empty c says = says
both_left Not Not c says = says
both_left Not Partly c says = tt
both_left Not Fully c says = tt
both_left Partly b c says = tt
both_left Fully Empty c says = says
both_left Fully Not c says = tt
both_left Fully Partly c says = tt
both_left Fully Fully c says = says

pub both_right : (a b : LineState) (c : Bool) → Says b c → Says (both a b) c
both_right Empty b c says = says
both_right Not Empty c says = absurd says
both_right Not Not c says = says
both_right Not Partly c says = tt
both_right Not Fully c says = tt
both_right Partly b c says = tt
both_right Fully Empty c says = absurd says
both_right Fully Not c says = tt
both_right Fully Partly c says = tt
both_right Fully Fully c says = says
