-- Two analyses of one class file.
use Rattle.std.specs.Prelude.{◌≡◌, [], map}
use Rattle.jc_methods.specs.declared.analysed.Analysed.{Analysed}
use Rattle.jc_methods.specs.declared.body.Body.{Body}

-- the body but for its frames, whose class numbers depend on a list of names
abbrev pub without_frames : Body → Body
without_frames b = record b { frames = [] }

-- the two are equal but for how the frames of their bodies number classes
pub record IsSameAnalysis (a b : Analysed) : Type 0 where
  pub rest : record a { bodies = b.bodies } ≡ b
  pub bodies : map without_frames a.bodies ≡ map without_frames b.bodies
