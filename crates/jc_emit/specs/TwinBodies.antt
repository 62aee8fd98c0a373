-- Bodies of a class and of its instrumented class: equal ones, and twins in order.
use Rattle.std.specs.Prelude.{◌≡◌, ⊤, ℕ, ◌+◌, List, [], ◌∷◌, map}
use Rattle.jc_methods.specs.VerificationTypes.{Names, type_state_at}
use Rattle.jc_methods.specs.declared.kind.State.{State}
use Rattle.jc_methods.specs.declared.body.Body.{Body}
use Rattle.jc_kinds.specs.Answers.{AreStates}
use Rattle.jc_plan.specs.Probed.{probe_count}
use Rattle.jc_methods.specs.declared.body.What.{What}
use Rattle.jc_methods.specs.declared.probe_members.Fetch.{Fetch}
use Rattle.jc_emit.specs.Twin.{Twin}

-- ---- equal bodies

-- two bodies are equal, where classes are compared by their names
pub record IsSameBody (names new_names : Names) (b b' : Body) : Type 0 where
  pub frames : map (type_state_at new_names) b'.frames ≡ map (type_state_at names) b.frames
  pub others : b' ≡ record b { frames = b'.frames }

abbrev pub AreSameBodies : Names → Names → List Body → List Body → Type 0
AreSameBodies names new_names [] [] = ⊤
AreSameBodies names new_names (b ∷ bodies) (b' ∷ others) =
    IsSameBody names new_names b b' × AreSameBodies names new_names bodies others
AreSameBodies names new_names _ _ = ⊥

-- ---- twins

-- the twin of a body whose first id is this one, of a class that gets its array so, from what gives it
pub record HasTwinBody (names new_names : Names) (fetch : Fetch) (giver : What) (first : ℕ) (b b' : Body) : Type 0 where
  pub states : List State
  pub are : AreStates names b states
  pub twin : Twin names new_names states fetch giver first b b'

-- Each body has its twin, in order, and behind them stands one body more. The first ids are told by the bodies in front.
abbrev pub AreTwinBodies : Names → Names → Fetch → (giver : What) → ℕ → List Body → List Body → Body → Type 0
AreTwinBodies names new_names fetch giver first [] others added = others ≡ added ∷ []
AreTwinBodies names new_names fetch giver first (b ∷ bodies) [] added = ⊥
AreTwinBodies names new_names fetch giver first (b ∷ bodies) (b' ∷ others) added =
    HasTwinBody names new_names fetch giver first b b' × AreTwinBodies names new_names fetch giver (first + probe_count b) bodies others added
