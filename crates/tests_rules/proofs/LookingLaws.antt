-- A loop that looks at one method after the other.
use Rattle.std.proofs.Common.{◌≡◌, ℕ, ◌+◌, ◌<◌, Bool, true, false, ◌||◌, List, length, get_or, drop, sym, ◌∙◌, ap, ap₂}
use Rattle.std.specs.List.{list_any}
use Rattle.jc_bytes.proofs.AppendingLaws.{drop_is}
use Rattle.jc_methods.specs.declared.body.Body.{Body}
use Rattle.jc_cover.specs.Counters.{Method, methods_of}

module _ (test : Method → Bool) (bodies : List Body) (values : List (List (List Bool))) (k : ℕ) (whole : Bool) where
  abbrev pub LeftFrom : ℕ → Type 0
  LeftFrom n = list_any test (methods_of (drop n bodies) (drop n values)) ≡ whole

  method_of : (b : Body) (insns : List (List Bool)) → k < length bodies → k < length values → b ≡ get_or bodies k b → insns ≡ get_or values k insns → LeftFrom k
      → (test (record { body = b; insns = insns }) || list_any test (methods_of (drop (k + 1) bodies) (drop (k + 1) values))) ≡ whole
  method_of b insns lt lv is iv before = sym (ap₂ (λ bs vs. list_any test (methods_of bs vs)) (drop_is bodies k b lt is) (drop_is values k insns lv iv)) ∙ before

  pub method_found : (b : Body) (insns : List (List Bool)) → k < length bodies → k < length values → b ≡ get_or bodies k b → insns ≡ get_or values k insns → LeftFrom k
      → test (record { body = b; insns = insns }) ≡ true → true ≡ whole
  method_found b insns lt lv is iv before e =
      sym (ap (λ t. t || list_any test (methods_of (drop (k + 1) bodies) (drop (k + 1) values))) e) ∙ method_of b insns lt lv is iv before

  pub method_more : (b : Body) (insns : List (List Bool)) → k < length bodies → k < length values → b ≡ get_or bodies k b → insns ≡ get_or values k insns → LeftFrom k
      → test (record { body = b; insns = insns }) ≡ false → LeftFrom (k + 1)
  method_more b insns lt lv is iv before e =
      sym (ap (λ t. t || list_any test (methods_of (drop (k + 1) bodies) (drop (k + 1) values))) e) ∙ method_of b insns lt lv is iv before
