-- What a body uses, of a class whose pool was read from bytes: its texts are of bytes.
use Rattle.std.proofs.Common.{◌≡◌, ℕ, Bool, true, false, cond, List, Some, sym, ◌∙◌, nat_eq}
use Rattle.std.specs.List.{list_any}
use Rattle.jc_bytes.specs.ByteLists.{AreBytes}
use Rattle.jc_methods.specs.WellMade.{what_used}
use Rattle.jc_methods.specs.declared.body.Use.{Use}
use Rattle.jc_methods.specs.declared.body.What.{What}
use Rattle.jc_methods.specs.declared.body.What.TheVariants as whats
use Rattle.jc_pool.specs.Lookup.{Member as PoolMember}
use Rattle.jc_pool.specs.Pool.{PoolValue}
use Rattle.jc_body.specs.BodyOf.{AreUsesOf}
use Rattle.jc_body.proofs.ComputedLaws.{linked_by, computed_member}
use Rattle.jc_body.specs.Standing.{what_of_member, what_at}
use Rattle.jc_instrument.proofs.PoolTextLaws.{IsReadPool, class_are, member_are}
use Rattle.jc_instrument.proofs.UsedTextsLaws.{cond_what, constant_is, what_at_is}

-- the name of a class, and the descriptor of anything else
abbrev pub HasBytes : What → Type 0
HasBytes (whats.Field class name desc) = AreBytes desc
HasBytes (whats.Method class name desc) = AreBytes desc
HasBytes (whats.Call name desc) = AreBytes desc
HasBytes (whats.Class name) = AreBytes name
HasBytes (whats.Computed name desc bootstrap) = AreBytes desc
HasBytes what = Unit {0}

member_bytes : (m : PoolMember) → AreBytes m.desc → HasBytes (what_of_member m)
member_bytes m are = by (nat_eq m.tag 9) (nat_eq m.tag 18)
  where
    by : (field call : Bool)
        → HasBytes (cond field (whats.Field m.class m.name m.desc) (cond call (whats.Call m.name m.desc) (whats.Method m.class m.name m.desc)))
    by true call = are
    by false true = are
    by false false = are

pub used_bytes : (pool : PoolValue) → IsReadPool pool → (places : List ℕ) (uses : List Use) → AreUsesOf pool places uses → (place : ℕ) (what : What)
    → what_used uses place ≡ Some what → HasBytes what
used_bytes pool read places uses are place what is =
    what_at_is HasBytes pool (λ place c is. member_are pool read.each place (linked_by 17 c.signed) (computed_member pool place c is))
    (λ place m is. member_bytes m (member_are pool read.each place m is)) (class_are pool read.each)
    (constant_is HasBytes (λ value. tt) (λ value. tt) tt tt tt tt tt) place what
    (cond_what (list_any (nat_eq place) places) (what_at pool place) what (sym (are.each place) ∙ is))
