-- The parts of a body by the table over the offsets, and by the instructions' starts.
use Rattle.std.proofs.Common.{◌≡◌, ℕ, List, length, map, ◌∙◌, subst}
use Rattle.jc_methods.specs.declared.body.FrameAt.{FrameAt}
use Rattle.jc_methods.specs.VerificationTypes.{Names, type_state_at}
use Rattle.jc_pool.specs.Pool.{PoolValue}
use Rattle.jc_class.specs.declared.class_file.Member.{Member}
use Rattle.jc_body.specs.StackMap.{HasFrames}
use Rattle.jc_methods.specs.declared.body.Handler.{Handler}
use Rattle.jc_methods.specs.declared.body.LineAt.{LineAt}
use Rattle.jc_methods.specs.declared.body.VarAt.{VarAt}
use Rattle.jc_methods.specs.Starts.{insn_number}
use Rattle.jc_body.specs.declared.coded.Coded.{Coded}
use Rattle.jc_body.specs.declared.items.Row.{Row}
use Rattle.jc_body.specs.declared.items.LineEntry.{LineEntry}
use Rattle.jc_body.specs.declared.items.VarEntry.{VarEntry}
use Rattle.jc_body.specs.declared.places.Offsets.{Offsets}
use Rattle.jc_body.specs.Numbering.{numbering, Numbers}
use Rattle.jc_body.specs.BodyOf.{handler_of, lines_of, vars_of}

module _ (coded : Coded) (offsets : Offsets) (numbers : Numbers coded offsets) where
  same : numbering offsets ≡ insn_number coded.starts
  same = λ i offset. numbers.each offset i

  pub handlers_by : (handlers : List Handler) (seen rows : List Row) → seen ≡ rows → handlers ≡ map (handler_of (numbering offsets)) seen → handlers ≡ map (handler_of (insn_number coded.starts)) rows
  handlers_by handlers seen rows is e = e ∙ (λ i. map (handler_of (same i)) (is i))

  pub lines_by : (lines : List LineAt) (seen entries : List LineEntry) → seen ≡ entries → lines ≡ lines_of (numbering offsets) offsets.count seen
      → lines ≡ lines_of (insn_number coded.starts) (length coded.insns) entries
  lines_by lines seen entries is e = e ∙ (λ i. lines_of (same i) (numbers.count i) (is i))

  pub vars_by : (max_locals : ℕ) (vars : List VarAt) (seen entries : List VarEntry) → seen ≡ entries
      → vars ≡ vars_of (numbering offsets) offsets.count offsets.size max_locals seen
      → vars ≡ vars_of (insn_number coded.starts) (length coded.insns) (length coded.items.code) max_locals entries
  vars_by max_locals vars seen entries is e = e ∙ (λ i. vars_of (same i) (numbers.count i) (numbers.size i) max_locals (is i))

-- the frames in a body, by the name of the class that the body has
pub frames_by : (names : Names) (pool : PoolValue) (method : Member) (coded : Coded) (owner other : List ℕ) (frames : List FrameAt) → owner ≡ other
    → HasFrames pool owner method coded (map (type_state_at names) frames) → HasFrames pool other method coded (map (type_state_at names) frames)
frames_by names pool method coded owner other frames named has = subst (λ (o : List ℕ). HasFrames pool o method coded (map (type_state_at names) frames)) named has
