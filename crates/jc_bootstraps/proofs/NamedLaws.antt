-- An attribute has a name where the text at the place of its name is that name.
use Rattle.std.proofs.Common.{◌≡◌, ℕ, List, Option, Some, None, IsTrue, ◌↔◌, ap}
use Rattle.std.specs.Str.{bytes_eq}
use Rattle.std.proofs.lemmas.Option.{same_Some}
use Rattle.std.proofs.lemmas.Slice.Eq.{bytes_eq-Decides}
use Rattle.jc_pool.specs.Lookup.{utf8_of}
use Rattle.jc_pool.specs.Pool.{PoolValue}
use Rattle.jc_class.specs.ItemReading.{passes}
use Rattle.jc_class.specs.declared.class_file.Attribute.{Attribute}
use Rattle.jc_bootstraps.specs.Bootstraps.{has_name}

text_is : (name : List ℕ) (there : Option (List ℕ)) → IsTrue (passes (λ text. bytes_eq text name) there) ↔ (there ≡ Some name)
text_is name None = (λ h. absurd cc, λ h. absurd cc)
text_is name (Some text) =
    let both = bytes_eq-Decides text name in
    (λ h. ap Some (both.0 h), λ h. both.1 (same_Some text name h))

pub name_is : (pool : PoolValue) (name : List ℕ) (a : Attribute) → IsTrue (has_name pool name a) ↔ (utf8_of pool a.name ≡ Some name)
name_is pool name a = text_is name (utf8_of pool a.name)
